-- One module more: the methods that its object types declare are those beside them in the program, as those of the modules before are.
use Rattle.std.proofs.Common.{◌≡◌, ℕ, zero, suc, ◌+◌, ◌≤◌, nat_eq, List, [], ◌∷◌, ◌++◌, length, map, true, false, is_some, Option, Some, None, option_map, slice_get, unwrap_or, refl, sym, ap, ◌∙◌, subst, length-append, arith}
use Rattle.std.specs.List.{flat_map}
use Rattle.std.specs.Option.{option_or}
use Rattle.std.specs.Map.{lookup}
use Rattle.std.proofs.lemmas.Option.{none-some, same_Some, slice_get-map}
use Rattle.aos_tree.specs.declared.decl.TypeDef.{TypeDef}
use Rattle.aos_tree.specs.declared.module.Module.{Module as Tree}
use Rattle.aos_types.specs.declared.row.TypeId.{TypeId}
use Rattle.aos_types.specs.declared.row.TypeRow.{TypeRow}
use Rattle.aos_symbols.specs.declared.breach.Breach.{Breach}
use Rattle.aos_symbols.specs.declared.home.ObjectScope.{ObjectScope}
use Rattle.aos_symbols.specs.declared.env.Env.{Env}
use Rattle.aos_symbols.specs.Judged.{walk}
use Rattle.aos_symbols.specs.Declarations.{procedures, type_defs, inner_decls}
use Rattle.aos_entries.specs.Entries.{number_at, objects_of, inner_scope, inner_scopes, scopes}
use Rattle.aos_symbols.specs.Home.{Home, object_of}
use Rattle.aos_symbols.specs.Scope.{Scope}
use Rattle.aos_members.specs.Members as members
use Rattle.aos_members.specs.Members.{object_among}
use Rattle.aos_symbols.proofs.Each.{Each, each_at}
use Rattle.aos_symbols.proofs.Holds.{none_left, none_right}
use Rattle.aos_symbols.proofs.Told.{get_front}
use Rattle.aos_check_types.specs.Methods.{defined_type, type_slots, definition_slots}
use Rattle.aos_check_decl.proofs.TypingEntries.{inner_at}
use Rattle.aos_compile.specs.Modules.{Beside, defined_object, beside_in, object_in}
use Rattle.aos_compile.proofs.MethodNames.{IsInner, is_inner, AreOnceIn}
use Rattle.aos_compile.proofs.ObjectScopes.{IsObject, scope_at, methods_before, found_object, object_found}
use Rattle.aos_compile.proofs.OwnMethods.{IsFound}

not_both : true ≡ false → ⊥
not_both e = cc

-- What is nothing of all is nothing of each.
pub flat_none : {X : Type 0} (f : X → List Breach) (xs : List X) (i : ℕ) (x : X) → flat_map f xs ≡ [] → slice_get xs i ≡ Some x → f x ≡ []
flat_none f [] i x none is = absurd (none-some x is)
flat_none f (y ∷ ys) zero x none is = ap f (sym (same_Some y x is)) ∙ none_left (f y) (flat_map f ys) none
flat_none f (y ∷ ys) (suc i) x none is = flat_none f ys i x (none_right (f y) (flat_map f ys) none) is

-- What stands beside the types of definitions, one for each.
pub beside_at : (e : Env) (first : ℕ) (ds : List TypeDef) (xs : List Beside) (j : ℕ) (d : TypeDef) → slice_get ds j ≡ Some d →
    slice_get (walk (object_in e first) xs ds).answer (length xs + j) ≡ Some (beside_in e first d (defined_object e d)).answer
beside_at e first [] xs j d is = absurd (none-some d is)
beside_at e first (x ∷ ds) xs zero d is =
    let y = (beside_in e first x (defined_object e x)).answer in
    still ds (xs ++ y ∷ []) (length xs + 0) y (ap (slice_get (xs ++ y ∷ [])) (let same : length xs + 0 ≡ length xs = omega arith in same) ∙ last xs y)
    ∙ ap (λ (z : TypeDef). Some (beside_in e first z (defined_object e z)).answer) (same_Some x d is)
  where
    last : (xs : List Beside) (y : Beside) → slice_get (xs ++ y ∷ []) (length xs) ≡ Some y
    last [] y = refl
    last (x ∷ xs) y = last xs y

    still : (ds : List TypeDef) (xs : List Beside) (k : ℕ) (y : Beside) → slice_get xs k ≡ Some y → slice_get (walk (object_in e first) xs ds).answer k ≡ Some y
    still [] xs k y there = there
    still (z ∷ zs) xs k y there = still zs (xs ++ (beside_in e first z (defined_object e z)).answer ∷ []) k y (get_front xs ((beside_in e first z (defined_object e z)).answer ∷ []) k y there)
beside_at e first (x ∷ ds) xs (suc j) d is =
    let y = (beside_in e first x (defined_object e x)).answer in
    ap (slice_get (walk (object_in e first) (xs ++ y ∷ []) ds).answer)
    (let long = length-append xs (y ∷ []) in let same : length xs + suc j ≡ length (xs ++ y ∷ []) + j = omega (arith, long) in same)
    ∙ beside_at e first ds (xs ++ y ∷ []) j d is

-- The object types of a module, in its environment.

module _ (types : List TypeRow) (number : ℕ) (before : List Home) (text : List ℕ) (numbers : List (Option TypeId)) (m : Tree) (e : Env) (number_is : e.number ≡ number)
    (text_is : e.here.text ≡ text) (objects_are : e.here.objects ≡ objects_of number numbers m.decls)
    (numbered : (j : ℕ) (d : TypeDef) → slice_get (type_defs m.decls) j ≡ Some d → IsObject d.value → slice_get numbers j ≡ Some (Some (record { 0 = length types + j }))) where
  number_of : (j : ℕ) (d : TypeDef) → slice_get (type_defs m.decls) j ≡ Some d → IsObject d.value → number_at numbers j ≡ Some (record { 0 = length types + j })
  number_of j d there object = ap (λ o. unwrap_or o None) (numbered j d there object)

  abbrev IsDefinedAt : TypeId → ObjectScope → Type 0
  IsDefinedAt t o =
      (j : ℕ) × (d : TypeDef) × (slice_get (type_defs m.decls) j ≡ Some d) × IsObject d.value × (t.0 ≡ length types + j)
      × (o ≡ scope_at number j (length (procedures m.decls) + methods_before (type_defs m.decls) j) d)

  pub defined_at : (t : TypeId) (o : ObjectScope) → object_of e.here t ≡ Some o → IsDefinedAt t o
  defined_at t o found =
      let one = found_object number numbers m.decls t o (ap (lookup (λ k. nat_eq t.0 k)) (sym objects_are) ∙ found) in
      let place : 0 + one.place ≡ one.place = omega arith in
      let same : record { 0 = length types + one.place } ≡ t =
      same_Some (record { 0 = length types + one.place }) t (sym (number_of one.place one.definition one.there one.object) ∙ ap (number_at numbers) (sym place) ∙ one.number) in (
        one.place,
        one.definition,
        one.there,
        one.object,
        ap (λ (u : TypeId). u.0) (sym same),
        one.is ∙ ap (λ k. scope_at number k (length (procedures m.decls) + methods_before (type_defs m.decls) one.place) one.definition) place,
      )

  -- they stand behind the types before
  pub new_objects : (t : TypeId) (o : ObjectScope) → object_of e.here t ≡ Some o → (length types ≤ t.0) × (o.home ≡ number)
  new_objects t o found = let one = defined_at t o found in let is = one.4 in (omega (arith, is), ap (λ (z : ObjectScope). z.home) one.5)

  pub found_at : (j : ℕ) (d : TypeDef) → slice_get (type_defs m.decls) j ≡ Some d → IsObject d.value →
      members.object e (record { 0 = length types + j }) ≡ Some (scope_at e.number j (length (procedures m.decls) + methods_before (type_defs m.decls) j) d)
  found_at j d there object =
      by (object_of e.here t) refl
      (ap (λ os. is_some (lookup (λ k. nat_eq t.0 k) os)) objects_are ∙ object_found number numbers m.decls j d t there object (number_of j d there object))
    where
      t : TypeId
      t = record { 0 = length types + j }

      by : (o : Option ObjectScope) → object_of e.here t ≡ o → is_some o ≡ true →
          members.object e t ≡ Some (scope_at e.number j (length (procedures m.decls) + methods_before (type_defs m.decls) j) d)
      by None found some = absurd (not_both (sym some))
      by (Some o) found some =
          let one = defined_at t o found in
          let is = one.4 in
          let place : one.0 ≡ j = omega (arith, is) in
          let same : one.1 ≡ d = same_Some one.1 d (sym one.2 ∙ ap (slice_get (type_defs m.decls)) place ∙ there) in
          ap (λ z. option_or z (object_among e.before t)) found
          ∙ ap (λ z. Some z) (one.5 ∙ (λ i. scope_at (sym number_is i) (place i) (length (procedures m.decls) + methods_before (type_defs m.decls) (place i)) (same i)))

  module _ (entries_are : (k : ℕ) → option_map (λ (s : Scope). s.entries) (slice_get e.here.scopes k) ≡ option_map (λ (s : Scope). s.entries) (slice_get (scopes text before numbers m) k))
      (once : Each (AreOnceIn text) (type_defs m.decls)) (slots_are : e.here.slots ≡ map (definition_slots e) (type_defs m.decls))
      (defined : (j : ℕ) (d : TypeDef) → slice_get (type_defs m.decls) j ≡ Some d → IsObject d.value → defined_type e d ≡ Some (record { 0 = length types + j })) where
    entries_of : (o : Option Scope) (s : Scope) → option_map (λ (s : Scope). s.entries) o ≡ Some s.entries → (z : Scope) × (o ≡ Some z) × (z.entries ≡ s.entries)
    entries_of None s is = absurd (none-some s.entries is)
    entries_of (Some z) s is = (z, refl, same_Some z.entries s.entries is)

    pub is_found : (j : ℕ) (d : TypeDef) → slice_get (type_defs m.decls) j ≡ Some d → IsObject d.value → IsFound e m j d (record { 0 = length types + j })
    is_found j d there object =
        let own = type_defs m.decls in
        let one = inner_at text numbers (length own) own j d there in
        let inner = inner_scope text numbers one.0 (inner_decls d.value) in
        let at : slice_get (scopes text before numbers m) (suc j) ≡ Some inner = get_front (inner_scopes text numbers (length own) own) _ j inner one.1 in
        let s = entries_of (slice_get e.here.scopes (suc j)) inner (entries_are (suc j) ∙ ap (option_map (λ (s : Scope). s.entries)) at) in
        record {
          there = there;
          found = found_at j d there object;
          scope = s.0;
          scope_is = s.1;
          inner = subst (λ v. IsInner v (inner_decls d.value) s.0) (sym text_is)
              (is_inner text numbers one.0 (inner_decls d.value) s.0 (each_at (AreOnceIn text) (type_defs m.decls) j d once there) s.2);
          slots_is =
              ap (λ ks. slice_get ks j) slots_are ∙ slice_get-map (definition_slots e) (type_defs m.decls) j ∙ ap (option_map (definition_slots e)) there
              ∙ ap (λ o. Some (type_slots e o)) (defined j d there object);
        }
