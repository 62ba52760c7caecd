-- String constants that are handed over for arrays of characters by value. A module has each string constant of its text, and each that a
-- module before it declares by name, once more behind its own ones, with 0X behind its characters up to the length of the longest array
-- that may be meant.
use Rattle.std.specs.Prelude.{ℕ, ◌+◌, ◌-◌, ◌==◌, List, [], ◌∷◌, ◌++◌, length, map, fold, max, replicate, nat_lt, position, Bool, not, ◌&&◌, Option, Some, option_map, if◌then◌else◌}
use Rattle.std.specs.List.{flat_map}
use Rattle.std.specs.Option.{unwrap_or}
use Rattle.aos_types.specs.declared.row.TypeId.{TypeId}
use Rattle.aos_types.specs.declared.row.TypeRow.{TypeRow}
use Rattle.aos_types.specs.declared.row.TypeRow.TheVariants as row
use Rattle.aos_types.specs.declared.signature.Parameter.{Parameter}
use Rattle.aos_types.specs.declared.signature.Signature.{Signature}
use Rattle.aos_typed.specs.declared.tree.TextConstant.{TextConstant}
use Rattle.aos_typed.specs.declared.tree.Literal.{Literal}
use Rattle.aos_typed.specs.declared.tree.Literal.TheVariants as literal
use Rattle.aos_typed.specs.Program.{Place, ModuleVar}
use Rattle.aos_symbols.specs.declared.env.Env.{Env}
use Rattle.aos_symbols.specs.declared.scope.Constant.{Constant}
use Rattle.aos_symbols.specs.Scope.{Scope}
use Rattle.aos_symbols.specs.Env as env
use Rattle.aos_symbols.specs.Home.{Home, character, texts_of}
use Rattle.aos_known.specs.declared.known.Class.TheVariants.{Variable}
use Rattle.aos_values.specs.Arrays.{is_characters, length_of}
use Rattle.aos_values.specs.Signatures.{formal}

-- the largest number that is given of these
abbrev pub most : {A : Type 0} → (A → ℕ) → List A → ℕ
most f xs = fold (λ n x. max n (f x)) 0 xs

-- the length of the array of characters that a parameter is by value, and 0 of another parameter
abbrev pub value_length : Env → Parameter → ℕ
value_length e a =
    if not a.by_reference && is_characters e (record { of = a.of; class = Variable }) then unwrap_or (length_of e a.of 0) 0 else 0

abbrev pub signature_length : Env → Signature → ℕ
signature_length e s = most (value_length e) s.parameters

abbrev pub home_length : Env → Home → ℕ
home_length e h = most (signature_length e) h.signatures

abbrev pub formal_length : Env → Bool × TypeId → ℕ
formal_length e f = value_length e (formal f)

abbrev pub row_length : Env → TypeRow → ℕ
row_length e (row.Procedure formals r) = most (formal_length e) formals
row_length e r = 0

-- the longest of those that procedures, methods and procedure types have
abbrev pub longest : Env → ℕ
longest e = max (max (most (home_length e) e.before) (home_length e e.here)) (most (row_length e) e.types)

-- the string constant that a declared constant is, if it is one
abbrev pub value_texts : Option Literal → List TextConstant
value_texts (Some (literal.Text t)) = t ∷ []
value_texts v = []

abbrev pub constant_texts : Constant → List TextConstant
constant_texts c = value_texts c.value

abbrev pub scope_texts : Scope → List TextConstant
scope_texts s = flat_map constant_texts s.constants

abbrev pub home_texts : Home → List TextConstant
home_texts h = flat_map scope_texts h.scopes

-- those that the modules before declare by name, in load order
abbrev pub named_texts : Env → List TextConstant
named_texts e = flat_map home_texts e.before

abbrev pub is_same : TextConstant → TextConstant → Bool
is_same t u = (u.home == t.home) && (u.number == t.number)

-- the place of a string constant among those that have 0X behind them: those of the module's text stand first
abbrev pub filled_index : Env → TextConstant → Option ℕ
filled_index e t =
    if t.home == e.number then Some t.number else option_map (λ k. length e.here.strings + k) (position (is_same t) (named_texts e))

-- its number among the variables of the module that hands it over
abbrev pub filled_number : Env → TextConstant → ℕ
filled_number e t = env.variable_count e e.number + (length e.here.strings + unwrap_or (filled_index e t) 0)

abbrev pub filled_place : Env → TextConstant → Place
filled_place e t = ModuleVar e.number (filled_number e t)

-- so many elements with the last 0X, where the text has fewer characters; one that has more is handed over for none
abbrev pub filled : ℕ → List ℕ → List ℕ
filled n cs = if nat_lt (length cs) n then cs ++ replicate ((n - 1) - length cs) 0 else []

abbrev pub home_filled : ℕ → Home → List (List ℕ)
home_filled n h = map (filled n) (texts_of h)

abbrev pub named_filled : ℕ → Env → TextConstant → List ℕ
named_filled n e t = filled n (map character (env.characters e t))

-- those of the module, and behind them those that modules before it name; none where no parameter is an array of characters by value
abbrev pub all_filled : ℕ → Env → List (List ℕ)
all_filled n e = if n == 0 then [] else home_filled n e.here ++ map (named_filled n e) (named_texts e)

abbrev pub filled_texts : Env → List (List ℕ)
filled_texts e = all_filled (longest e) e
