-- The number that a definition's name stands for, where names are declared once: it is that of the definition itself.
use Rattle.std.proofs.Common.{◌≡◌, ℕ, suc, ◌+◌, ◌<◌, ◌==◌, ◌||◌, List, [], ◌∷◌, ◌++◌, length, map, true, false, Option, Some, is_some, option_map, option_and_then, slice_get, if◌then◌else◌, refl, sym, ap, ◌∙◌, subst, arith, eq-eqb}
use Rattle.std.specs.Option.{option_or}
use Rattle.std.proofs.lemmas.Option.{none-some}
use Rattle.aos_tree.specs.declared.name.Name.{Name}
use Rattle.aos_tree.specs.declared.decl.TypeDef.{TypeDef}
use Rattle.aos_tree.specs.declared.module.Module.{Module}
use Rattle.aos_types.specs.declared.row.TypeId.{TypeId}
use Rattle.aos_symbols.specs.declared.scope.Entry.{Entry}
use Rattle.aos_symbols.specs.declared.scope.Meaning.{Meaning}
use Rattle.aos_symbols.specs.declared.scope.Meaning.TheVariants as means
use Rattle.aos_symbols.specs.declared.env.Open.{Open}
use Rattle.aos_symbols.specs.declared.env.Lookup.TheVariants.{NotExported, Found}
use Rattle.aos_symbols.specs.declared.env.Env.{Env}
use Rattle.aos_symbols.specs.Spelling.{word}
use Rattle.aos_entries.specs.declared.entries.Sort.TheVariants as sort
use Rattle.aos_symbols.specs.Declarations.{constant_defs, type_defs, all_type_defs, inner_types, local_types, inner_parts, types_of, single_variables, formal_names, inner_decls, Procedure, all_procedures}
use Rattle.aos_symbols.specs.Scope.{Named, Scope, empty, find, has, with_names}
use Rattle.aos_symbols.specs.Home.{Home}
use Rattle.aos_entries.specs.Entries.{number_at, unmarked, numbered, types_from, import_entry, other_entries, inner_scope, inner_scopes, procedure_scope, procedure_scopes, scopes}
use Rattle.aos_entries.proofs.Entered.{inner_long}
use Rattle.aos_symbols.specs.Env as env
use Rattle.aos_symbols.proofs.Each.{Each, front, back, implied}
use Rattle.aos_symbols.proofs.Found.{found_is, each_found, some_found}
use Rattle.aos_check_decl.specs.Headings.{slot_meant, slot_in}
use Rattle.aos_check_types.proofs.TypingLists.{get_below}
use Rattle.aos_check_decl.proofs.TypingScopes.{names_of, names_at, scope_at}
use Rattle.aos_check_decl.proofs.TypingTypes.{Telling, IsSearched}
use Rattle.aos_check_decl.proofs.TypingHeadings.{is_name, HasSlot}
use Rattle.aos_check_decl.proofs.TypingProcedures.{inside, AreInnerSlotted, AreSlotted}
use Rattle.aos_check_decl.proofs.TypingEntries.{own_names, inner_names, procedure_names, first_local, IsNoType, own_all, inner_all, procedure_all, behind_types, types_within}
use Rattle.aos_check_decl.proofs.TypingOnce.{AreAlike, IsInnerAlike}

-- a name of the innermost scope is found there
pub slot_found : (e : Env) (o : Open) (os : List Open) → e.path ≡ o ∷ os → o.home ≡ e.number → (s : Scope) → slice_get e.here.scopes o.scope ≡ Some s →
    (n : Name) (x : Entry) → find s (word e.here.text n) ≡ Some x → slot_in (env.lookup e n) ≡ slot_meant x.means
slot_found e o os path_is own s there n x found =
    let w = word e.here.text n in
    let here : (o.home == e.number) ≡ true = eq-eqb o.home e.number own in
    let scope : env.scope e o ≡ Some s = ap (λ b. option_and_then (λ h. slice_get h.scopes o.scope) (if b then Some e.here else slice_get e.before o.home)) here ∙ there in
    let one : env.in_scope e o w ≡ Some (env.declared_at o x) =
    ap (λ z. option_map (env.declared_at o) (option_and_then (λ s. find s w) z)) scope ∙ ap (option_map (env.declared_at o)) found in
    ap (λ p. slot_in (env.looked_up e w (env.in_path e p w))) path_is
    ∙ ap (λ z. slot_in (env.looked_up e w (option_or z (env.in_path e os w)))) one
    ∙ ap (λ b. slot_in (if b || is_some x.mark then Found (env.declared_at o x) else NotExported)) here

no_slot : (m : Meaning) → IsNoType m → (t : TypeId) → slot_meant m ≡ Some t → ⊥
no_slot (means.Type of) other t e = other of refl
no_slot (means.Constant k) other t e = none-some t e
no_slot (means.Variable k) other t e = none-some t e
no_slot (means.Procedure k) other t e = none-some t e
no_slot (means.Module k) other t e = none-some t e
no_slot means.Out other t e = none-some t e
no_slot (means.Truth b) other t e = none-some t e
no_slot (means.Function f) other t e = none-some t e
no_slot (means.Routine r) other t e = none-some t e
no_slot means.Proper other t e = none-some t e
no_slot means.Itself other t e = none-some t e
no_slot means.Other other t e = none-some t e

-- an entry of this name, which stands for the number of a definition if it stands for a type's
abbrev IsSlotOf : (TypeId → Type 0) → List ℕ → Named → Type 0
IsSlotOf S w n = n.0 ≡ w → (t : TypeId) → slot_meant n.1.means ≡ Some t → S t

slot_other : (S : TypeId → Type 0) (w : List ℕ) (n : Named) → IsNoType n.1.means → IsSlotOf S w n
slot_other S w n other same t e = absurd (no_slot n.1.means other t e)

module _ (c : Telling) where
  -- a definition in the innermost scope, which has these names
  has_slot : (o : Open) (os : List Open) (names : List Named) → o.home ≡ c.number → names_at c.scopes o.scope ≡ Some (with_names empty names).entries → (d : TypeDef) →
      has (with_names empty names) (word c.text d.def.name) ≡ true → (is_name d.value ≡ false → Each (IsSlotOf (c.IsNumber d) (word c.text d.def.name)) names) → HasSlot c (o ∷ os) d
  has_slot o os names own are d there all not_name e fit t is =
      let w = word c.text d.def.name in
      let s = scope_at e.here.scopes o.scope (with_names empty names).entries (fit.names_are o.scope ∙ are) in
      let x = some_found (find (with_names empty names) w) there in
      let found : find s.0 (word e.here.text d.def.name) ≡ Some x.0 =
      ap (λ text. find s.0 (word text d.def.name)) fit.text_is ∙ ap (λ ns. find (record s.0 { entries = ns }) w) s.2 ∙ x.1 in
      found_is (IsSlotOf (c.IsNumber d) w) names w x.0 (all not_name) x.1 refl t (sym (slot_found e o os fit.path_is (own ∙ sym fit.number_is) s.0 s.1 d.def.name x.0 found) ∙ is)

  module _ (numbers : List (Option TypeId)) where
    -- the numbers of definitions that are no names for other types, from this one on
    abbrev pub AreNumbers : ℕ → List TypeDef → Type 0
    AreNumbers k [] = Unit {0}
    AreNumbers k (d ∷ ds) = (is_name d.value ≡ false → (t : TypeId) → number_at numbers k ≡ Some t → c.IsNumber d t) × AreNumbers (suc k) ds

    numbers_front : (k : ℕ) (xs ys : List TypeDef) → AreNumbers k (xs ++ ys) → AreNumbers k xs
    numbers_front k [] ys are = tt
    numbers_front k (x ∷ xs) ys are = (are.0, numbers_front (suc k) xs ys are.1)

    numbers_back : (k : ℕ) (xs ys : List TypeDef) → AreNumbers k (xs ++ ys) → AreNumbers (k + length xs) ys
    numbers_back k [] ys are = subst (λ n. AreNumbers n ys) (let same : k ≡ k + 0 = omega arith in same) are
    numbers_back k (x ∷ xs) ys are = subst (λ n. AreNumbers n ys) (let same : suc k + length xs ≡ k + suc (length xs) = omega arith in same) (numbers_back (suc k) xs ys are.1)

    types_slots : (d : TypeDef) → is_name d.value ≡ false → (k : ℕ) (xs : List TypeDef) → Each (AreAlike c.text d) xs → AreNumbers k xs →
        Each (IsSlotOf (c.IsNumber d) (word c.text d.def.name)) (types_from c.text numbers k xs)
    types_slots d not_name k [] alike are = tt
    types_slots d not_name k (x ∷ xs) alike are =
        (λ same t e. (let one = alike.0 (sym same) in subst (λ (z : TypeDef). c.IsNumber z t) (sym one) (are.0 (ap (λ (x : TypeDef). is_name x.value) (sym one) ∙ not_name) t e)), types_slots d not_name (suc k) xs alike.1 are.1)

    -- definitions that stand in a scope

    some_slots : (path : List Open) (there : TypeDef → Type 0) → ((d : TypeDef) → there d → HasSlot c path d) → (ds : List TypeDef) → Each there ds → Each (HasSlot c path) ds
    some_slots path there each ds all = implied there (HasSlot c path) each ds all

    listed : (s : Scope) (k : ℕ) (ds : List TypeDef) → Each (λ n. has s n.0 ≡ true) (types_from c.text numbers k ds) → Each (λ d. has s (word c.text d.def.name) ≡ true) ds
    listed s k [] all = tt
    listed s k (d ∷ ds) all = (all.0, listed s (suc k) ds all.1)

    both : {X : Type 0} (P Q : X → Type 0) (xs : List X) → Each P xs → Each Q xs → Each (λ x. P x × Q x) xs
    both P Q [] a b = tt
    both P Q (x ∷ xs) a b = ((a.0, b.0), both P Q xs a.1 b.1)

    scope_slots : (o : Open) (os : List Open) (names : List Named) → o.home ≡ c.number → names_at c.scopes o.scope ≡ Some (with_names empty names).entries → (ds : List TypeDef) →
        Each (λ d. has (with_names empty names) (word c.text d.def.name) ≡ true) ds → Each (λ d. is_name d.value ≡ false → Each (IsSlotOf (c.IsNumber d) (word c.text d.def.name)) names) ds →
        Each (HasSlot c (o ∷ os)) ds
    scope_slots o os names own are ds there all =
        let here = λ (d : TypeDef). (let p : Type 0 = has (with_names empty names) (word c.text d.def.name) ≡ true in p) in
        let fine = λ (d : TypeDef). (let p : Type 0 = is_name d.value ≡ false → Each (IsSlotOf (c.IsNumber d) (word c.text d.def.name)) names in p) in
        implied (λ d. here d × fine d) (HasSlot c (o ∷ os)) (λ d r. has_slot o os names own are d r.0 r.1) ds (both here fine ds there all)

    -- The module's own scope.

    module _ (homes : List Home) (m : Module) (scopes_are : c.scopes ≡ scopes c.text homes numbers m) where
      pub own_slots : Each (λ d. Each (AreAlike c.text d) (type_defs m.decls)) (type_defs m.decls) → AreNumbers 0 (all_type_defs m.decls) → Each (HasSlot c (env.own c.number ∷ [])) (type_defs m.decls)
      own_slots alike are =
          let ds = type_defs m.decls in
          let names = own_names c.text homes numbers m in
          let imports = map (import_entry c.text homes) m.imports in
          let types = types_from c.text numbers 0 ds in
          let found = λ (n : Named). (let p : Type 0 = has (with_names empty names) n.0 ≡ true in p) in
          scope_slots (env.own c.number) [] names refl (ap (λ ss. names_at ss 0) scopes_are) ds
          (listed (with_names empty names) 0 ds (back found imports types (front found (imports ++ types) (other_entries c.text m.decls) (each_found names empty))))
          (implied (λ d. Each (AreAlike c.text d) ds) (λ d. is_name d.value ≡ false → Each (IsSlotOf (c.IsNumber d) (word c.text d.def.name)) names)
          (λ d same not_name. own_all c.text (IsSlotOf (c.IsNumber d) (word c.text d.def.name)) (slot_other (c.IsNumber d) (word c.text d.def.name)) homes numbers m
          (types_slots d not_name 0 ds same (numbers_front 0 ds (types_of (inner_parts m.decls)) are))) ds alike)

    -- The scopes of types and those of procedures, of which the first has the number k and the first type the place `first`.

    module _ (path : List Open) (searched : Each (IsSearched c) path) where
      one_inner : (k first : ℕ) (d : TypeDef) → slice_get c.scopes k ≡ Some (inner_scope c.text numbers first (inner_decls d.value)) →
          IsInnerAlike c.text d → AreNumbers first (type_defs (inner_decls d.value)) → Each (HasSlot c (inside c path searched k)) (type_defs (inner_decls d.value))
      one_inner k first d there alike are =
          let inner = inner_decls d.value in
          let ds = type_defs inner in
          let names = inner_names c.text numbers first inner in
          let found = λ (n : Named). (let p : Type 0 = has (with_names empty names) n.0 ≡ true in p) in
          scope_slots (record { home = c.number; scope = k }) path names refl (ap (option_map names_of) there) ds
          (listed (with_names empty names) first ds (front found (types_from c.text numbers first ds) (other_entries c.text inner) (each_found names empty)))
          (implied (λ d. Each (AreAlike c.text d) ds) (λ d. is_name d.value ≡ false → Each (IsSlotOf (c.IsNumber d) (word c.text d.def.name)) names)
          (λ d same not_name. inner_all c.text (IsSlotOf (c.IsNumber d) (word c.text d.def.name)) (slot_other (c.IsNumber d) (word c.text d.def.name)) numbers first inner
          (types_slots d not_name first ds same are)) ds alike)

      inner_slotted : (ds : List TypeDef) (k first : ℕ) → ((j : ℕ) → j < length ds → slice_get c.scopes (k + j) ≡ slice_get (inner_scopes c.text numbers first ds) j) →
          Each (IsInnerAlike c.text) ds → AreNumbers first (inner_types ds) → AreInnerSlotted c path searched k ds
      inner_slotted [] k first there alike are = tt
      inner_slotted (d ∷ ds) k first there alike are = (
        one_inner k first d (ap (slice_get c.scopes) (let same : k ≡ k + 0 = omega arith in same) ∙ there 0 (let low : 0 < suc (length ds) = omega arith in low)) alike.0
            (numbers_front first (type_defs (inner_decls d.value)) (inner_types ds) are),
        inner_slotted ds (suc k) (first + length (type_defs (inner_decls d.value)))
            (λ j low. ap (slice_get c.scopes) (let same : suc k + j ≡ k + suc j = omega arith in same) ∙ there (suc j) (let more : suc j < suc (length ds) = omega (arith, low) in more)) alike.1
            (numbers_back first (type_defs (inner_decls d.value)) (inner_types ds) are),
      )

      one_slotted : (k first : ℕ) (p : Procedure) → slice_get c.scopes k ≡ Some (procedure_scope c.text numbers first p.formals p.decls) →
          Each (λ d. Each (AreAlike c.text d) (type_defs p.decls)) (type_defs p.decls) → AreNumbers first (type_defs p.decls) → Each (HasSlot c (inside c path searched k)) (type_defs p.decls)
      one_slotted k first p there alike are =
          let ds = type_defs p.decls in
          let names = procedure_names c.text numbers first p in
          let types = types_from c.text numbers first ds in
          let constants = numbered c.text sort.Constant 0 (constant_defs p.decls) in
          let variables = numbered c.text sort.Variable 0 (map unmarked (formal_names p.formals) ++ single_variables p.decls) in
          let found = λ (n : Named). (let p : Type 0 = has (with_names empty names) n.0 ≡ true in p) in
          scope_slots (record { home = c.number; scope = k }) path names refl (ap (option_map names_of) there) ds
          (listed (with_names empty names) first ds (front found types constants (front found (types ++ constants) variables (each_found names empty))))
          (implied (λ d. Each (AreAlike c.text d) ds) (λ d. is_name d.value ≡ false → Each (IsSlotOf (c.IsNumber d) (word c.text d.def.name)) names)
          (λ d same not_name. procedure_all c.text (IsSlotOf (c.IsNumber d) (word c.text d.def.name)) (slot_other (c.IsNumber d) (word c.text d.def.name)) numbers first p
          (types_slots d not_name first ds same are)) ds alike)

      pub all_slotted : (ps : List Procedure) (k first : ℕ) → ((j : ℕ) → slice_get c.scopes (k + j) ≡ slice_get (procedure_scopes c.text numbers first ps) j) →
          Each (λ (p : Procedure). Each (λ d. Each (AreAlike c.text d) (type_defs p.decls)) (type_defs p.decls)) ps → AreNumbers first (local_types ps) → AreSlotted c path searched k ps
      all_slotted [] k first there alike are = tt
      all_slotted (p ∷ ps) k first there alike are = (
        one_slotted k first p (ap (slice_get c.scopes) (let same : k ≡ k + 0 = omega arith in same) ∙ there 0) alike.0 (numbers_front first (type_defs p.decls) (local_types ps) are),
        all_slotted ps (suc k) (first + length (type_defs p.decls)) (λ j. ap (slice_get c.scopes) (let same : suc k + j ≡ k + suc j = omega arith in same) ∙ there (suc j)) alike.1
            (numbers_back first (type_defs p.decls) (local_types ps) are),
      )

    -- of the types that are defined within a module's declarations
    numbers_within : (m : Module) → AreNumbers 0 (all_type_defs m.decls) → AreNumbers (length (type_defs m.decls)) (inner_types (type_defs m.decls) ++ local_types (all_procedures m.decls))
    numbers_within m are =
        let own = type_defs m.decls in
        subst (AreNumbers (length own)) (types_within m.decls)
        (subst (λ k. AreNumbers k (types_of (inner_parts m.decls))) (let same : 0 + length own ≡ length own = omega arith in same) (numbers_back 0 own (types_of (inner_parts m.decls)) are))

    pub inner_slots : (homes : List Home) (m : Module) → c.scopes ≡ scopes c.text homes numbers m → Each (IsInnerAlike c.text) (type_defs m.decls) → AreNumbers 0 (all_type_defs m.decls) →
        (path : List Open) (searched : Each (IsSearched c) path) → AreInnerSlotted c path searched 1 (type_defs m.decls)
    inner_slots homes m scopes_are alike are path searched =
        let own = type_defs m.decls in
        let is = inner_scopes c.text numbers (length own) own in
        let ps = procedure_scopes c.text numbers (first_local m) (all_procedures m.decls) in
        let long = inner_long c.text numbers (length own) own in
        inner_slotted path searched own 1 (length own)
        (λ j low. (let number : 1 + j ≡ suc j = omega arith in
        ap (λ ss. slice_get ss (1 + j)) scopes_are ∙ ap (slice_get (scopes c.text homes numbers m)) number ∙ get_below is ps j (omega (arith, low, long))))
        alike (numbers_front (length own) (inner_types own) (local_types (all_procedures m.decls)) (numbers_within m are))

    pub procedures_slots : (homes : List Home) (m : Module) → c.scopes ≡ scopes c.text homes numbers m →
        Each (λ (p : Procedure). Each (λ d. Each (AreAlike c.text d) (type_defs p.decls)) (type_defs p.decls)) (all_procedures m.decls) → AreNumbers 0 (all_type_defs m.decls) →
        (path : List Open) (searched : Each (IsSearched c) path) → AreSlotted c path searched (suc (length (type_defs m.decls))) (all_procedures m.decls)
    procedures_slots homes m scopes_are alike are path searched =
        let own = type_defs m.decls in
        all_slotted path searched (all_procedures m.decls) (suc (length own)) (first_local m)
        (λ j. ap (λ ss. slice_get ss (suc (length own) + j)) scopes_are ∙ behind_types c.text homes numbers m j) alike
        (numbers_back (length own) (inner_types own) (local_types (all_procedures m.decls)) (numbers_within m are))
