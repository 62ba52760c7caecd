-- The third pass: statements, by what is known of their parts. Of the modifiers, ACTIVE and PRIORITY are built on an object's body, and
-- EXCLUSIVE on any body or block. A statement that isn't built is refused at its first token, a modifier at itself.
use Rattle.std.specs.Prelude.{ℕ, ℤ, pos, ◌||◌, List, [], ◌∷◌, ◌++◌, codes, Bool, true, false, not, ◌&&◌, Option, Some, None, is_some, if◌then◌else◌, ◌==◌}
use Rattle.std.specs.Option.{is_none, option_and_then}
use Rattle.std.specs.List.{list_any}
use Rattle.std.specs.Ordering.{int_eq}
use Rattle.aos_base.specs.declared.priority.Priority.{Priority}
use Rattle.aos_base.specs.declared.text.Pos.{Pos}
use Rattle.aos_base.specs.Priority.{with_number}
use Rattle.aos_tree.specs.declared.name.Name.{Name}
use Rattle.aos_tree.specs.declared.name.Qualident.{Qualident}
use Rattle.aos_tree.specs.declared.stat.Modifier.{Modifier}
use Rattle.aos_typed.specs.Program.{Place, ModuleVar, Stat, Assign, Copy, Exit, With, WithRecord, Stats}
use Rattle.aos_typed.specs.declared.tree.Literal.TheVariants as literal
use Rattle.aos_typed.specs.declared.tree.LabelRange.{LabelRange}
use Rattle.aos_typed.specs.WellTyped.{is_variable, meets}
use Rattle.aos_symbols.specs.declared.breach.Breach.{Breach}
use Rattle.aos_symbols.specs.declared.scope.Meaning.{Meaning}
use Rattle.aos_symbols.specs.declared.scope.Meaning.TheVariants as means
use Rattle.aos_types.specs.declared.signature.Gives.{Gives}
use Rattle.aos_types.specs.declared.signature.Gives.TheVariants as gives
use Rattle.aos_types.specs.declared.signature.Signature.{Signature}
use Rattle.aos_symbols.specs.declared.env.Symbol.{Symbol}
use Rattle.aos_symbols.specs.declared.env.Lookup.{Lookup}
use Rattle.aos_symbols.specs.declared.env.Lookup.TheVariants.{Unknown as NoName, NotExported, Found}
use Rattle.aos_symbols.specs.declared.env.Narrowed.{Narrowed}
use Rattle.aos_symbols.specs.declared.env.Env.{Env}
use Rattle.aos_symbols.specs.Breaches.{breach, breach_unless}
use Rattle.aos_symbols.specs.Judged.{Judged, judged, kept, bind}
use Rattle.aos_symbols.specs.Spelling.{is_word, is_active, is_priority}
use Rattle.aos_symbols.specs.Env as env
use Rattle.aos_types.specs.declared.row.TypeId.{TypeId}
use Rattle.aos_known.specs.declared.known.Class.{Class}
use Rattle.aos_known.specs.declared.known.Class.TheVariants.{Unknown, Constant}
use Rattle.aos_known.specs.Known.{Answer, Entity, Held, Stands, Value, is_number, is_char, fits, type_of, type_of_literal}
use Rattle.aos_known.specs.Kinds.{has_parts}
use Rattle.aos_known.specs.Places.{place_of, place_in}
use Rattle.aos_values.specs.Arrays.{number_in}
use Rattle.aos_values.specs.Assignable as assignable
use Rattle.aos_values.specs.TypeNames.{known_type}
use Rattle.aos_designators.specs.declared.designators.Head.{Head}
use Rattle.aos_designators.specs.Designators as desig
use Rattle.aos_designators.specs.Designators.{written}
use Rattle.aos_stat_rules.specs.Calls.{refused, text_to, value_fits, put_text}

-- the empty statement is none; nor is one that breaks a rule
abbrev pub put : List Stat → Option Stat → List Stat
put ts None = ts
put ts (Some x) = ts ++ x ∷ []

-- EXIT leaves a LOOP
abbrev pub exit_of : Bool → Pos → Judged (Option Stat)
exit_of in_loop at = if in_loop then kept (Some (Exit at)) else refused 39 at

-- Modifiers: SAFE isn't built. Of the others one EXCLUSIVE may stand on any body or block, and on an object's body one ACTIVE, and beside
-- that one PRIORITY, in any order. PRIORITY has a value, and the others have none.
abbrev pub is_safe : List ℕ → Modifier → Bool
is_safe text m = is_word text (codes "SAFE") m.name

abbrev pub is_exclusive : List ℕ → Modifier → Bool
is_exclusive text m = is_word text (codes "EXCLUSIVE") m.name

-- those of an exclusive block
abbrev pub are_exclusive : List ℕ → List Modifier → Bool
are_exclusive text ms = list_any (is_exclusive text) ms

-- among these PRIORITY may stand: the body may be active, and is
abbrev pub takes_priority : List ℕ → (may_be_active : Bool) → List Modifier → Bool
takes_priority text may_be_active ms = may_be_active && list_any (is_active text) ms

-- one that may still stand there
abbrev pub is_plain : List ℕ → (may_be_active may_be_exclusive : Bool) → Modifier → Bool
is_plain text may_be_active may_be_exclusive m =
    ((may_be_active && is_active text m) || (may_be_exclusive && is_exclusive text m)) && is_none m.value

abbrev pub is_allowed : List ℕ → (may_be_active may_be_exclusive may_have_priority : Bool) → Modifier → Bool
is_allowed text may_be_active may_be_exclusive may_have_priority m =
    if is_priority text m then may_have_priority && is_some m.value else is_plain text may_be_active may_be_exclusive m

abbrev pub modifier_breach : List ℕ → (may_be_active may_be_exclusive may_have_priority : Bool) → Modifier → List Breach
modifier_breach text may_be_active may_be_exclusive may_have_priority m =
    if is_safe text m then breach 99 m.name.pos
    else breach_unless (is_allowed text may_be_active may_be_exclusive may_have_priority m) 45 m.name.pos

abbrev pub breaches_behind : List ℕ → (may_be_active may_be_exclusive may_have_priority : Bool) → List Modifier → List Breach
breaches_behind text may_be_active may_be_exclusive may_have_priority [] = []
breaches_behind text may_be_active may_be_exclusive may_have_priority (m ∷ ms) =
    modifier_breach text may_be_active may_be_exclusive may_have_priority m
    ++ breaches_behind text (may_be_active && not (is_active text m)) (may_be_exclusive && not (is_exclusive text m))
    (may_have_priority && not (is_priority text m)) ms

-- those of a body or a block that may be active or not
abbrev pub modifier_breaches : List ℕ → (may_be_active : Bool) → List Modifier → List Breach
modifier_breaches text may_be_active ms = breaches_behind text may_be_active true (takes_priority text may_be_active ms) ms

-- The value of PRIORITY is a constant from 1 to 3, or else the modifier is refused; a value that breaks a rule itself breaks that one
-- alone. A PRIORITY that may not stand there has been refused at itself, which is before its value.

-- the priority that a constant names
abbrev pub level_in : Class → Option Priority
level_in c = option_and_then with_number (number_in c)

-- of a value, with the first rule that it breaks itself
abbrev pub level_breaches : Pos → Option Breach → Class → List Breach
level_breaches at (Some own) c = breach own.rule own.pos
level_breaches at None c = breach_unless (is_some (level_in c)) 45 at

-- in an exclusive block, or in none
abbrev pub in_region : (is_exclusive : Bool) → Env → Env
in_region is_exclusive e = record e { is_exclusive = is_exclusive }

-- within a block with these modifiers: an exclusive block stands round it, or it is one itself
abbrev pub within_block : List Modifier → Env → Env
within_block ms e = in_region (e.is_exclusive || are_exclusive e.here.text ms) e

-- within a whole body with these modifiers
abbrev pub within_body : List Modifier → Env → Env
within_body ms e = in_region (are_exclusive e.here.text ms) e

-- in the condition of an AWAIT
abbrev pub in_condition : Env → Env
in_condition e = record e { is_condition = true }

-- CASE: its selector is an integer or a character.
abbrev pub is_selector : Option TypeId → Bool
is_selector of = is_number of || is_char of

-- a label is of the selector's kind
abbrev pub is_label : Option TypeId → Option TypeId → Bool
is_label of label = (is_number of && is_number label) || (is_char of && is_char label)

-- the range from the first value of a label to its last one; a label that breaks a rule has none
abbrev pub range_of : Option ℤ → Option ℤ → Option LabelRange
range_of (Some a) (Some b) = Some (record { low = a; high = b })
range_of _ _ = None

-- the labels of a CASE so far, each with its range
abbrev pub Labels : Type 0
Labels = List LabelRange

-- one more label, which stands here, unless one of its values is a label already
abbrev pub with_label : Labels → Pos → Option LabelRange → Judged Labels
with_label ls at None = kept ls
with_label ls at (Some r) = if list_any (meets r) ls then judged (breach 38 at) ls else kept (ls ++ r ∷ [])

-- FOR: its variable is an integer variable by its plain name; what breaks a rule is no variable.
abbrev pub Control : Type 0
Control = Place × Option TypeId

abbrev pub lost : ℕ → Pos → Judged Control
lost rule at = judged (breach rule at) (ModuleVar 0 0, None)

-- it must be one that may be written, and a part of another variable isn't built
abbrev pub control_breaches : Class → Pos → Place → Option TypeId → List Breach
control_breaches c at p of = written c at ++ (if is_number of then breach_unless (is_variable p) 99 at else breach 48 at)

abbrev pub control_variable : Class → Pos → Place → Option TypeId → Judged Control
control_variable c at p of = judged (control_breaches c at p of) (p, of)

-- a step is a constant other than 0 that fits the variable
abbrev pub is_step : Option TypeId → Class → Bool
is_step of Unknown = true
is_step of (Constant None) = true
is_step of (Constant (Some (literal.Int n))) = not (int_eq n (pos 0)) && fits (Some (type_of_literal (literal.Int n))) of
is_step of c = false

-- of a step, with the first rule that it breaks itself
abbrev pub step_breaches : Pos → Option TypeId → Option Breach → Class → List Breach
step_breaches at of (Some own) c = breach own.rule own.pos
step_breaches at of None c = breach_unless (is_step of c) 48 at

abbrev pub step_in : Class → ℤ
step_in (Constant (Some (literal.Int n))) = n
step_in c = pos 1

-- SELF outside methods and the bodies of objects, which stands for nothing: as a variable it is refused as such.
abbrev pub is_lone_self : Env → Meaning → Bool
is_lone_self e means.Itself = is_none e.self_type
is_lone_self e m = false

-- the rule that a name breaks which is that of no variable, in FOR and in WITH
abbrev pub control_rule : Env → Meaning → ℕ
control_rule e m = if is_lone_self e m then 46 else 48

abbrev pub with_rule : Env → Lookup → ℕ
with_rule e NoName = 49
with_rule e NotExported = 49
with_rule e (Found x) = if is_lone_self e x.means then 46 else 49

-- WITH: what is named is a variable of a module or the procedure's own.

abbrev pub is_variable_meaning : Meaning → Bool
is_variable_meaning (means.Variable k) = true
is_variable_meaning m = false

-- what isn't found is refused as such
abbrev pub may_be_variable : Lookup → Bool
may_be_variable NoName = true
may_be_variable NotExported = true
may_be_variable (Found x) = is_variable_meaning x.means

-- whether nothing of a name is found
abbrev pub is_missing : Lookup → Bool
is_missing NoName = true
is_missing NotExported = true
is_missing (Found x) = false

-- what a WITH narrows, where its variable is found
abbrev pub narrowed_meaning : Symbol → Meaning → TypeId → Option Narrowed
narrowed_meaning x (means.Variable k) t = Some (record { at = x.at; number = k; of = t })
narrowed_meaning x m t = None

abbrev pub narrowed_found : Lookup → TypeId → Option Narrowed
narrowed_found NoName t = None
narrowed_found NotExported t = None
narrowed_found (Found x) t = narrowed_meaning x x.means t

module _ (e : Env) where
  -- the value must fit the variable, or else `:=` is refused
  abbrev pub assign_breaches : Pos → Entity → Answer → List Breach
  assign_breaches at a v = breach_unless (value_fits e a v (text_to e a v)) 31 at

  -- a string constant is put in an array of characters, and a whole record or array is copied
  abbrev pub assigned_stat : Pos → Entity → Answer → Stat
  assigned_stat first a v =
      if is_some (text_to e a v) then put_text e first true v a
      else if passes_parts a.known.of
      then Copy first (type_of a.known.of) (place_of a.held) (place_in v.typed)
      else Assign first (type_of a.known.of) (place_of a.held) (assignable.typed_for e a.known.of v)
    where
      passes_parts : Option TypeId → Bool
      passes_parts None = false
      passes_parts (Some t) = has_parts e t

  -- RETURN: what the procedure gives in which it stands
  abbrev pub gives_here : Gives
  gives_here = by (env.own_signature e)
    where
      by : Option Signature → Gives
      by None = gives.Nothing
      by (Some s) = s.gives

  abbrev pub control_meant : Pos → Symbol → Meaning → Judged Control
  control_meant at x (means.Variable k) =
      control_variable (desig.access (x.at.home == e.number) x.mark) at (desig.place_of_variable e x k) (env.variable_type e x.at k)
  control_meant at x m = lost (control_rule e m) at

  abbrev pub control_found : Pos → Lookup → Judged Control
  control_found at NoName = lost 14 at
  control_found at NotExported = lost 15 at
  control_found at (Found x) = control_meant at x x.means

  abbrev pub control : Name → Judged Control
  control n = control_found n.pos (env.lookup e n)

  -- WITH

  abbrev pub with_name : Head → Judged Entity
  with_name h =
      if may_be_variable h.found then desig.named e h else desig.denoted h.first (desig.refused (with_rule e h.found) h.first)

  -- a name behind what is no module
  abbrev pub with_part : Head → Judged Entity
  with_part h =
      if is_missing h.found then desig.named e h else desig.denoted h.first (desig.refused (with_rule e h.found) h.first)

  abbrev pub with_variable : Qualident → Judged Entity
  with_variable q = by q.second
    where
      by : Option Name → Judged Entity
      by None = with_name (desig.plain e q.first)
      by (Some n) =
          if desig.is_module (env.lookup e q.first) then with_name (desig.member e q.first n) else with_part (desig.plain e q.first)

  -- the variable of a WITH, guarded with the type that is named, and that type
  abbrev pub guarded_variable : Qualident → Pos → Qualident → Judged (Entity × Option TypeId)
  guarded_variable a q b = bind (with_variable a) (λ v. bind (known_type e b) (λ t. bind (desig.guard e q v t) (λ g. kept (g, t))))

  -- its statements: in these the variable is of the type
  abbrev pub head_of_with : Qualident → Head
  head_of_with q = by q.second
    where
      by : Option Name → Head
      by None = desig.plain e q.first
      by (Some n) = desig.member e q.first n

  abbrev pub narrowed_variable : Qualident → Option TypeId → Option Narrowed
  narrowed_variable q None = None
  narrowed_variable q (Some t) = narrowed_found (head_of_with q).found t

  abbrev pub narrowed_by : Qualident → Option TypeId → Env
  narrowed_by q t = by (narrowed_variable q t)
    where
      by : Option Narrowed → Env
      by None = e
      by (Some v) = env.narrowing e v

-- behind a WITH around which these variables were narrowed, where others are within
abbrev pub behind_with : Option (List Narrowed) → Env → Env
behind_with None e = e
behind_with (Some vs) e = record e { narrowed = vs }

-- WITH of a guarded object, or of a guarded record
abbrev pub with_stat : Pos → Held → Stats → Stat
with_stat at (Stands p) body = WithRecord at p body
with_stat at (Value x) body = With at x body
