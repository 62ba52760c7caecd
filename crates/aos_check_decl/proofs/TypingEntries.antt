-- The scopes of a module as its names make them: what holds of the numbers of all types holds of what its names stand for, and
-- no scope has a constant or a variable yet.
use Rattle.std.proofs.Common.{◌≡◌, ℕ, zero, suc, ◌+◌, ◌-◌, ◌<◌, ◌≤◌, List, [], ◌∷◌, ◌++◌, length, map, Bool, true, false, Option, Some, slice_get, refl, sym, ap, ◌∙◌, subst, arith, codes, bytes_eq, unwrap_or, if◌then◌else◌, length-append, append_assoc}
use Rattle.std.proofs.lemmas.Bool.{cases_lt}
use Rattle.std.proofs.lemmas.Option.{none-some, same_Some}
use mathlib.Core.Logic.{◌⊎◌, inl, inr}
use Rattle.aos_tree.specs.declared.decl.Def.{Def}
use Rattle.aos_tree.specs.declared.decl.Decl.{Decl}
use Rattle.aos_tree.specs.declared.decl.TypeDef.{TypeDef}
use Rattle.aos_tree.specs.declared.module.Import.{Import}
use Rattle.aos_tree.specs.declared.module.Module.{Module}
use Rattle.aos_types.specs.declared.row.TypeId.{TypeId}
use Rattle.aos_symbols.specs.declared.scope.Entry.{Entry}
use Rattle.aos_symbols.specs.declared.scope.Meaning.{Meaning}
use Rattle.aos_symbols.specs.declared.scope.Meaning.TheVariants as means
use Rattle.aos_entries.specs.declared.entries.Sort.{Sort}
use Rattle.aos_entries.specs.declared.entries.Sort.TheVariants as sort
use Rattle.aos_symbols.specs.Spelling.{word}
use Rattle.aos_symbols.specs.Declarations.{constant_defs, type_defs, all_type_defs, local_types, inner_types, inner_parts, types_of, single_variables, procedure_defs, Procedure, all_procedures, inner_decls, formal_names}
use Rattle.aos_symbols.specs.Scope.{Named, Scope, empty, find, has, with_name, with_names}
use Rattle.aos_symbols.specs.Home.{Home}
use Rattle.aos_entries.specs.Entries.{among, module_named, meant, number_at, unmarked, entry, numbered, types_from, import_entry, other_entries, own_scope, inner_scope, inner_scopes, procedure_scope, procedure_scopes, scopes}
use Rattle.aos_entries.proofs.Entered.{inner_long}
use Rattle.aos_symbols.proofs.Each.{Each, joined, each_at}
use Rattle.aos_symbols.proofs.Found.{found_is}
use Rattle.aos_check_types.proofs.TypingLists.{get_behind, get_below}

-- the names of the scopes
abbrev pub own_names : List ℕ → List Home → List (Option TypeId) → Module → List Named
own_names text homes numbers m = map (import_entry text homes) m.imports ++ types_from text numbers 0 (type_defs m.decls) ++ other_entries text m.decls

-- of what is declared in a type
abbrev pub inner_names : List ℕ → List (Option TypeId) → ℕ → List Decl → List Named
inner_names text numbers k ds = types_from text numbers k (type_defs ds) ++ other_entries text ds

abbrev pub procedure_names : List ℕ → List (Option TypeId) → ℕ → Procedure → List Named
procedure_names text numbers k p =
    types_from text numbers k (type_defs p.decls) ++ numbered text sort.Constant 0 (constant_defs p.decls)
    ++ numbered text sort.Variable 0 (map unmarked (formal_names p.formals) ++ single_variables p.decls)

-- the place among the numbers of the first type of a procedure
abbrev pub first_local : Module → ℕ
first_local m = length (type_defs m.decls) + length (inner_types (type_defs m.decls))

-- Nothing is declared yet.

abbrev pub IsFresh : Scope → Type 0
IsFresh s = (s.constants ≡ []) × (s.variables ≡ [])

fresh : (ns : List Named) (s : Scope) → IsFresh s → IsFresh (with_names s ns)
fresh [] s is = is
fresh (n ∷ ns) s is = fresh ns (with_name s n) (by (has s n.0))
  where
    by : (b : Bool) → IsFresh (if b then s else record s { entries = s.entries ++ n ∷ [] })
    by true = is
    by false = is

fresh_types : (text : List ℕ) (numbers : List (Option TypeId)) (k : ℕ) (ds : List TypeDef) → Each IsFresh (inner_scopes text numbers k ds)
fresh_types text numbers k [] = tt
fresh_types text numbers k (d ∷ ds) =
    let inner = inner_decls d.value in
    (fresh (inner_names text numbers k inner) empty (refl, refl), fresh_types text numbers (k + length (type_defs inner)) ds)

fresh_procedures : (text : List ℕ) (numbers : List (Option TypeId)) (k : ℕ) (ps : List Procedure) → Each IsFresh (procedure_scopes text numbers k ps)
fresh_procedures text numbers k [] = tt
fresh_procedures text numbers k (p ∷ ps) = (fresh (procedure_names text numbers k p) empty (refl, refl), fresh_procedures text numbers (k + length (type_defs p.decls)) ps)

fresh_scopes : (text : List ℕ) (homes : List Home) (numbers : List (Option TypeId)) (m : Module) → Each IsFresh (scopes text homes numbers m)
fresh_scopes text homes numbers m = (
  fresh (own_names text homes numbers m) empty (refl, refl),
  joined IsFresh (inner_scopes text numbers (length (type_defs m.decls)) (type_defs m.decls)) (procedure_scopes text numbers (first_local m) (all_procedures m.decls))
      (fresh_types text numbers (length (type_defs m.decls)) (type_defs m.decls)) (fresh_procedures text numbers (first_local m) (all_procedures m.decls)),
)

pub scope_fresh : (text : List ℕ) (homes : List Home) (numbers : List (Option TypeId)) (m : Module) (k : ℕ) (s : Scope) → slice_get (scopes text homes numbers m) k ≡ Some s → IsFresh s
scope_fresh text homes numbers m k s there = each_at IsFresh (scopes text homes numbers m) k s (fresh_scopes text homes numbers m) there

-- the scope of each type is there, and of each procedure

pub inner_at : (text : List ℕ) (numbers : List (Option TypeId)) (k : ℕ) (ds : List TypeDef) (j : ℕ) (d : TypeDef) → slice_get ds j ≡ Some d →
    (n : ℕ) × (slice_get (inner_scopes text numbers k ds) j ≡ Some (inner_scope text numbers n (inner_decls d.value)))
inner_at text numbers k [] j d is = absurd (none-some d is)
inner_at text numbers k (x ∷ ds) zero d is = (k, ap (λ (z : TypeDef). Some (inner_scope text numbers k (inner_decls z.value))) (same_Some x d is))
inner_at text numbers k (x ∷ ds) (suc j) d is = inner_at text numbers (k + length (type_defs (inner_decls x.value))) ds j d is

one_there : (text : List ℕ) (numbers : List (Option TypeId)) (k : ℕ) (ps : List Procedure) (j : ℕ) (p : Procedure) → slice_get ps j ≡ Some p →
    (s : Scope) × (slice_get (procedure_scopes text numbers k ps) j ≡ Some s)
one_there text numbers k [] j p is = absurd (none-some p is)
one_there text numbers k (q ∷ ps) zero p is = (procedure_scope text numbers k q.formals q.decls, refl)
one_there text numbers k (q ∷ ps) (suc j) p is = one_there text numbers (k + length (type_defs q.decls)) ps j p is

pub behind_types : (text : List ℕ) (homes : List Home) (numbers : List (Option TypeId)) (m : Module) (j : ℕ) →
    slice_get (scopes text homes numbers m) (suc (length (type_defs m.decls)) + j) ≡ slice_get (procedure_scopes text numbers (first_local m) (all_procedures m.decls)) j
behind_types text homes numbers m j =
    let n = length (type_defs m.decls) in
    let is = inner_scopes text numbers n (type_defs m.decls) in
    let ps = procedure_scopes text numbers (first_local m) (all_procedures m.decls) in
    let number : suc n + j ≡ suc (length is + j) = omega (arith, inner_long text numbers n (type_defs m.decls)) in
    ap (slice_get (scopes text homes numbers m)) number ∙ get_behind is ps j

pub procedure_there : (text : List ℕ) (homes : List Home) (numbers : List (Option TypeId)) (m : Module) (j : ℕ) (p : Procedure) → slice_get (all_procedures m.decls) j ≡ Some p →
    (s : Scope) × (slice_get (scopes text homes numbers m) (suc (length (type_defs m.decls)) + j) ≡ Some s)
procedure_there text homes numbers m j p is =
    let r = one_there text numbers (first_local m) (all_procedures m.decls) j p is in
    (r.0, behind_types text homes numbers m j ∙ r.1)

-- Names of types.

abbrev pub IsNoType : Meaning → Type 0
IsNoType m = (of : Option TypeId) → m ≡ means.Type of → ⊥

meant_other : (of : Sort) (k : ℕ) → IsNoType (meant of k)
meant_other sort.Constant k of e = cc
meant_other sort.Variable k of e = cc
meant_other sort.Procedure k of e = cc

either_other : (b : Bool) (m n : Meaning) → IsNoType m → IsNoType n → IsNoType (if b then m else n)
either_other true m n a c = a
either_other false m n a c = c

module_other : (k : ℕ) → IsNoType (means.Module k)
module_other k of e = cc

out_other : IsNoType means.Out
out_other of e = cc

other_other : IsNoType means.Other
other_other of e = cc

among_other : (w : List ℕ) (k : ℕ) (hs : List Home) → IsNoType (among w k hs)
among_other w k [] = other_other
among_other w k (h ∷ hs) = either_other (bytes_eq w h.name) (means.Module k) (among w (suc k) hs) (module_other k) (among_other w (suc k) hs)

named_other : (hs : List Home) (w : List ℕ) → IsNoType (module_named hs w)
named_other hs w = either_other (bytes_eq (codes "Out") w) means.Out (among w 0 hs) out_other (among_other w 0 hs)

-- What holds of all entries that are no types, and of those of types, holds of all.
module _ (text : List ℕ) (P : Named → Type 0) (other : (n : Named) → IsNoType n.1.means → P n) where
  numbered_all : (of : Sort) (k : ℕ) (ds : List Def) → Each P (numbered text of k ds)
  numbered_all of k [] = tt
  numbered_all of k (d ∷ ds) = (other (entry text d (meant of k)) (meant_other of k), numbered_all of (suc k) ds)

  imports_all : (homes : List Home) (is : List Import) → Each P (map (import_entry text homes) is)
  imports_all homes [] = tt
  imports_all homes (i ∷ is) = (other (import_entry text homes i) (named_other homes (word text (unwrap_or i.of i.name))), imports_all homes is)

  others_all : (ds : List Decl) → Each P (other_entries text ds)
  others_all ds =
      let cs = numbered text sort.Constant 0 (constant_defs ds) in
      let vs = numbered text sort.Variable 0 (single_variables ds) in
      let ps = numbered text sort.Procedure 0 (procedure_defs ds) in
      joined P (cs ++ vs) ps (joined P cs vs (numbered_all sort.Constant 0 (constant_defs ds)) (numbered_all sort.Variable 0 (single_variables ds)))
      (numbered_all sort.Procedure 0 (procedure_defs ds))

  pub own_all : (homes : List Home) (numbers : List (Option TypeId)) (m : Module) → Each P (types_from text numbers 0 (type_defs m.decls)) → Each P (own_names text homes numbers m)
  own_all homes numbers m types =
      let is = map (import_entry text homes) m.imports in
      let ts = types_from text numbers 0 (type_defs m.decls) in
      joined P (is ++ ts) (other_entries text m.decls) (joined P is ts (imports_all homes m.imports) types) (others_all m.decls)

  pub inner_all : (numbers : List (Option TypeId)) (k : ℕ) (ds : List Decl) → Each P (types_from text numbers k (type_defs ds)) → Each P (inner_names text numbers k ds)
  inner_all numbers k ds types = joined P (types_from text numbers k (type_defs ds)) (other_entries text ds) types (others_all ds)

  pub procedure_all : (numbers : List (Option TypeId)) (k : ℕ) (p : Procedure) → Each P (types_from text numbers k (type_defs p.decls)) → Each P (procedure_names text numbers k p)
  procedure_all numbers k p types =
      let ts = types_from text numbers k (type_defs p.decls) in
      let cs = numbered text sort.Constant 0 (constant_defs p.decls) in
      let vs = map unmarked (formal_names p.formals) ++ single_variables p.decls in
      joined P (ts ++ cs) (numbered text sort.Variable 0 vs) (joined P ts cs types (numbered_all sort.Constant 0 (constant_defs p.decls))) (numbered_all sort.Variable 0 vs)

-- The types that are defined within a module's declarations: those of its object types, and behind them those of its procedures.

types_both : (xs ys : List (List Decl)) → types_of (xs ++ ys) ≡ types_of xs ++ types_of ys
types_both [] ys = refl
types_both (x ∷ xs) ys = ap (λ z. type_defs x ++ z) (types_both xs ys) ∙ sym (append_assoc (type_defs x) (types_of xs) (types_of ys))

types_of_types : (ds : List TypeDef) → types_of (map (λ (d : TypeDef). inner_decls d.value) ds) ≡ inner_types ds
types_of_types [] = refl
types_of_types (d ∷ ds) = ap (λ z. type_defs (inner_decls d.value) ++ z) (types_of_types ds)

types_of_procedures : (ps : List Procedure) → types_of (map (λ (p : Procedure). p.decls) ps) ≡ local_types ps
types_of_procedures [] = refl
types_of_procedures (p ∷ ps) = ap (λ z. type_defs p.decls ++ z) (types_of_procedures ps)

pub types_within : (ds : List Decl) → types_of (inner_parts ds) ≡ inner_types (type_defs ds) ++ local_types (all_procedures ds)
types_within ds =
    types_both (map (λ (d : TypeDef). inner_decls d.value) (type_defs ds)) (map (λ (p : Procedure). p.decls) (all_procedures ds))
    ∙ (λ i. types_of_types (type_defs ds) i ++ types_of_procedures (all_procedures ds) i)

-- What holds of the numbers of all types that a module's declarations define holds of the types of all entries of its scopes.
module _ (text : List ℕ) (homes : List Home) (numbers : List (Option TypeId)) (m : Module) (Q : Option TypeId → Type 0)
    (each : (k : ℕ) → k < length (all_type_defs m.decls) → Q (number_at numbers k)) where
  abbrev IsTyped : Named → Type 0
  IsTyped n = (of : Option TypeId) → n.1.means ≡ means.Type of → Q of

  same_type : (a b : Option TypeId) → means.Type a ≡ means.Type b → a ≡ b
  same_type a b e = cc

  types_typed : (k : ℕ) (ds : List TypeDef) → k + length ds ≤ length (all_type_defs m.decls) → Each IsTyped (types_from text numbers k ds)
  types_typed k [] most = tt
  types_typed k (d ∷ ds) most = (λ of is. subst Q (same_type (number_at numbers k) of is) (each k (omega (arith, most))), types_typed (suc k) ds (omega (arith, most)))

  no_types : (n : Named) → IsNoType n.1.means → IsTyped n
  no_types n other of is = absurd (other of is)

  own_long : length (all_type_defs m.decls) ≡ first_local m + length (local_types (all_procedures m.decls))
  own_long =
      let own = type_defs m.decls in
      let all = length-append own (types_of (inner_parts m.decls)) in
      let within = ap (λ (ds : List TypeDef). length ds) (types_within m.decls) ∙ length-append (inner_types own) (local_types (all_procedures m.decls)) in
      omega (arith, all, within)

  procedures_typed : (k : ℕ) (ps : List Procedure) → k + length (local_types ps) ≤ length (all_type_defs m.decls) →
      (j : ℕ) (s : Scope) (w : List ℕ) (x : Entry) → slice_get (procedure_scopes text numbers k ps) j ≡ Some s → find s w ≡ Some x → IsTyped (w, x)
  procedures_typed k [] most j s w x there found = absurd (none-some s there)
  procedures_typed k (p ∷ ps) most zero s w x there found =
      let long = length-append (type_defs p.decls) (local_types ps) in
      found_is IsTyped (procedure_names text numbers k p) w x (procedure_all text IsTyped no_types numbers k p (types_typed k (type_defs p.decls) (omega (arith, most, long))))
      (ap (λ (z : Scope). find z w) (same_Some (procedure_scope text numbers k p.formals p.decls) s there) ∙ found)
  procedures_typed k (p ∷ ps) most (suc j) s w x there found =
      let long = length-append (type_defs p.decls) (local_types ps) in
      procedures_typed (k + length (type_defs p.decls)) ps (omega (arith, most, long)) j s w x there found

  inner_typed : (k : ℕ) (ds : List TypeDef) → k + length (inner_types ds) ≤ length (all_type_defs m.decls) →
      (j : ℕ) (s : Scope) (w : List ℕ) (x : Entry) → slice_get (inner_scopes text numbers k ds) j ≡ Some s → find s w ≡ Some x → IsTyped (w, x)
  inner_typed k [] most j s w x there found = absurd (none-some s there)
  inner_typed k (d ∷ ds) most zero s w x there found =
      let inner = inner_decls d.value in
      let long = length-append (type_defs inner) (inner_types ds) in
      found_is IsTyped (inner_names text numbers k inner) w x (inner_all text IsTyped no_types numbers k inner (types_typed k (type_defs inner) (omega (arith, most, long))))
      (ap (λ (z : Scope). find z w) (same_Some (inner_scope text numbers k inner) s there) ∙ found)
  inner_typed k (d ∷ ds) most (suc j) s w x there found =
      let inner = inner_decls d.value in
      let long = length-append (type_defs inner) (inner_types ds) in
      inner_typed (k + length (type_defs inner)) ds (omega (arith, most, long)) j s w x there found

  abbrev count : ℕ
  count = length (type_defs m.decls)

  abbrev inner : List Scope
  inner = inner_scopes text numbers count (type_defs m.decls)

  inner_count : length inner ≡ count
  inner_count = inner_long text numbers count (type_defs m.decls)

  behind_typed : (j : ℕ) (s : Scope) (w : List ℕ) (x : Entry) (of : Option TypeId) → (j < count) ⊎ (count ≤ j) →
      slice_get (inner ++ procedure_scopes text numbers (first_local m) (all_procedures m.decls)) j ≡ Some s → find s w ≡ Some x → x.means ≡ means.Type of → Q of
  behind_typed j s w x of (inl low) there found is =
      inner_typed count (type_defs m.decls) (omega (arith, own_long)) j s w x
      (sym (get_below inner (procedure_scopes text numbers (first_local m) (all_procedures m.decls)) j (omega (arith, low, inner_count))) ∙ there) found of is
  behind_typed j s w x of (inr high) there found is =
      let number : length inner + (j - count) ≡ j = omega (arith, high, inner_count) in
      procedures_typed (first_local m) (all_procedures m.decls) (omega (arith, own_long)) (j - count) s w x
      (sym (get_behind inner (procedure_scopes text numbers (first_local m) (all_procedures m.decls)) (j - count))
      ∙ ap (slice_get (inner ++ procedure_scopes text numbers (first_local m) (all_procedures m.decls))) number ∙ there) found of is

  pub scopes_typed : (k : ℕ) (s : Scope) (w : List ℕ) (x : Entry) (of : Option TypeId) →
      slice_get (scopes text homes numbers m) k ≡ Some s → find s w ≡ Some x → x.means ≡ means.Type of → Q of
  scopes_typed zero s w x of there found is =
      found_is IsTyped (own_names text homes numbers m) w x (own_all text IsTyped no_types homes numbers m (types_typed 0 (type_defs m.decls) (omega (arith, own_long))))
      (ap (λ (z : Scope). find z w) (same_Some (own_scope text homes numbers m) s there) ∙ found) of is
  scopes_typed (suc j) s w x of there found is = behind_typed j s w x of (cases_lt j count) there found is
