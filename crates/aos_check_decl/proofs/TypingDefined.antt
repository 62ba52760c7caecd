-- The definition of a type in a module whose names are declared once: its name stands for its number in the module's own scope.
use Rattle.std.proofs.Common.{◌≡◌, ℕ, suc, ◌+◌, List, [], ◌∷◌, ◌++◌, map, true, Option, Some, slice_get, sym, ap, ◌∙◌, arith, refl}
use Rattle.aos_tree.specs.declared.decl.Def.{Def}
use Rattle.aos_tree.specs.declared.decl.TypeDef.{TypeDef}
use Rattle.aos_tree.specs.declared.module.Import.{Import}
use Rattle.aos_tree.specs.declared.module.Module.{Module}
use Rattle.aos_types.specs.declared.row.TypeId.{TypeId}
use Rattle.aos_entries.specs.declared.entries.Sort.{Sort}
use Rattle.aos_entries.specs.declared.entries.Sort.TheVariants as sort
use Rattle.aos_symbols.specs.declared.scope.Entry.{Entry}
use Rattle.aos_symbols.specs.declared.scope.Meaning.TheVariants as means
use Rattle.aos_symbols.specs.Spelling.{word}
use Rattle.aos_symbols.specs.Declarations.{def_names, constant_defs, type_defs, single_variables, procedure_defs}
use Rattle.aos_symbols.specs.Scope.{Named, empty, find, has, with_names}
use Rattle.aos_symbols.specs.Home.{Home}
use Rattle.aos_check_names.specs.Names.{name_breaches}
use Rattle.aos_entries.specs.Entries.{number_at, numbered, types_from, import_entry, other_entries, own_scope}
use Rattle.aos_symbols.proofs.Each.{Each, joined, front, back, each_at}
use Rattle.aos_symbols.proofs.Found.{found_is, each_found, some_found}
use Rattle.aos_check_decl.proofs.TypingEntries.{own_names}
use Rattle.aos_check_decl.proofs.TypingOnce.{AreApart, IsOneType, module_type}

-- each definition's name is one of a scope with all of them
named : (text : List ℕ) (numbers : List (Option TypeId)) (P : List ℕ → Type 0) (k : ℕ) (ds : List TypeDef) → Each (λ (n : Named). P n.0) (types_from text numbers k ds) →
    Each (λ (d : TypeDef). P (word text d.def.name)) ds
named text numbers P k [] all = tt
named text numbers P k (d ∷ ds) all = (all.0, named text numbers P (suc k) ds all.1)

module _ (text : List ℕ) (homes : List Home) (numbers : List (Option TypeId)) (m : Module) (once : name_breaches text m ≡ []) (j : ℕ) (d : TypeDef)
    (is : slice_get (type_defs m.decls) j ≡ Some d) where
  abbrev w : List ℕ
  w = word text d.def.name

  -- what has its name is this
  abbrev IsIt : Named → Type 0
  IsIt n = n.0 ≡ w → n.1.means ≡ means.Type (number_at numbers j)

  one : IsOneType text (map (λ i. i.name) m.imports) m.decls j d
  one = module_type text m once j d is

  imports_are : (is : List Import) → Each (AreApart text d.def.name) (map (λ (i : Import). i.name) is) → Each IsIt (map (import_entry text homes) is)
  imports_are [] apart = tt
  imports_are (i ∷ is) apart = (λ same. absurd (apart.0 (sym same)), imports_are is apart.1)

  types_are : (k : ℕ) (ds : List TypeDef) → ((i : ℕ) → slice_get (type_defs m.decls) (k + i) ≡ slice_get ds i) → Each IsIt (types_from text numbers k ds)
  types_are k [] there = tt
  types_are k (x ∷ ds) there = (
    λ same. ap (λ i. means.Type (number_at numbers i)) (one.place k x (ap (slice_get (type_defs m.decls)) (let e : k ≡ k + 0 = omega arith in e) ∙ there 0) same),
    types_are (suc k) ds (λ i. ap (slice_get (type_defs m.decls)) (let e : suc k + i ≡ k + suc i = omega arith in e) ∙ there (suc i)),
  )

  others_are : (of : Sort) (k : ℕ) (ds : List Def) → Each (AreApart text d.def.name) (def_names ds) → Each IsIt (numbered text of k ds)
  others_are of k [] apart = tt
  others_are of k (x ∷ ds) apart = (λ same. absurd (apart.0 (sym same)), others_are of (suc k) ds apart.1)

  all_are : Each IsIt (own_names text homes numbers m)
  all_are =
      let is = map (import_entry text homes) m.imports in
      let ts = types_from text numbers 0 (type_defs m.decls) in
      let cs = numbered text sort.Constant 0 (constant_defs m.decls) in
      let vs = numbered text sort.Variable 0 (single_variables m.decls) in
      let ps = numbered text sort.Procedure 0 (procedure_defs m.decls) in
      joined IsIt (is ++ ts) ((cs ++ vs) ++ ps)
      (joined IsIt is ts (imports_are m.imports one.imported) (types_are 0 (type_defs m.decls) (λ i. ap (slice_get (type_defs m.decls)) (let e : 0 + i ≡ i = omega arith in e))))
      (joined IsIt (cs ++ vs) ps
      (joined IsIt cs vs (others_are sort.Constant 0 (constant_defs m.decls) one.constants) (others_are sort.Variable 0 (single_variables m.decls) one.variables))
      (others_are sort.Procedure 0 (procedure_defs m.decls) one.procedures))

  name_there : has (own_scope text homes numbers m) w ≡ true
  name_there =
      let names = own_names text homes numbers m in
      let imports = map (import_entry text homes) m.imports in
      let types = types_from text numbers 0 (type_defs m.decls) in
      let found = λ (n : Named). (let p : Type 0 = has (with_names empty names) n.0 ≡ true in p) in
      let there = λ (v : List ℕ). (let p : Type 0 = has (with_names empty names) v ≡ true in p) in
      each_at (λ (d : TypeDef). has (with_names empty names) (word text d.def.name) ≡ true) (type_defs m.decls) j d
      (named text numbers there 0 (type_defs m.decls) (back found imports types (front found (imports ++ types) (other_entries text m.decls) (each_found names empty)))) is

  pub own_found : (x : Entry) × (find (own_scope text homes numbers m) w ≡ Some x) × (x.means ≡ means.Type (number_at numbers j))
  own_found =
      let x = some_found (find (own_scope text homes numbers m) w) name_there in
      (x.0, x.1, found_is IsIt (own_names text homes numbers m) w x.0 all_are x.1 refl)
