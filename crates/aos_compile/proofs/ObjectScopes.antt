-- The object types that a module's definitions define, by their numbers: each has its scope, and the number of its first method, which
-- stands among all procedures behind the module's own and the methods of the types before it.
use Rattle.std.proofs.Common.{◌≡◌, ℕ, zero, suc, ◌+◌, ◌⊎◌, inl, inr, nat_eq, List, [], ◌∷◌, ◌++◌, length, fold, take, Bool, true, false, cond, if◌then◌else◌, Option, Some, None, is_some, slice_get, refl, sym, ap, ap₂, ◌∙◌, subst, eq-eqb, eqb-true, length-append, arith}
use Rattle.std.specs.List.{flat_map}
use Rattle.std.specs.Map.{lookup}
use Rattle.std.proofs.lemmas.Option.{none-some, same_Some}
use Rattle.indexmap.specs.IndexMap.{insert_entry}
use Rattle.aos_tree.specs.declared.decl.Decl.{Decl}
use Rattle.aos_tree.specs.declared.decl.TypeDef.{TypeDef}
use Rattle.aos_tree.specs.declared.decl.TypeExpr.{TypeExpr}
use Rattle.aos_tree.specs.declared.decl.TypeExpr.TheVariants as type
use Rattle.aos_types.specs.declared.row.TypeId.{TypeId}
use Rattle.aos_symbols.specs.declared.home.ObjectScope.{ObjectScope}
use Rattle.aos_symbols.specs.Declarations.{Procedure, procedures, methods_in, all_procedures, type_defs, inner_decls}
use Rattle.aos_entries.specs.Entries.{number_at, initial_of, numbered_objects, with_object, next_object, objects_of}
pub use Rattle.aos_check_decl.proofs.ObjectTypes.{IsObject}

-- Entries by numbers.

differ : (j k : ℕ) → (j ≡ k → ⊥) → nat_eq j k ≡ false
differ j k other = by (nat_eq j k) refl
  where
    by : (b : Bool) → nat_eq j k ≡ b → nat_eq j k ≡ false
    by true is = absurd (other (eqb-true j k is))
    by false is = is

module _ {A : Type 0} where
  entry_here : (es : List (ℕ × A)) (k : ℕ) (x : A) → lookup (λ j. nat_eq k j) (insert_entry nat_eq es k x) ≡ Some x
  entry_here [] k x = ap (λ b. cond b (Some x) None) (eq-eqb k k refl)
  entry_here (e ∷ es) k x = by (entry_here es k x) (nat_eq k e.0) refl
    where
      by : lookup (λ j. nat_eq k j) (insert_entry nat_eq es k x) ≡ Some x → (b : Bool) → nat_eq k e.0 ≡ b →
          lookup (λ j. nat_eq k j) (if b then (e.0, x) ∷ es else e ∷ insert_entry nat_eq es k x) ≡ Some x
      by more true is = ap (λ b. cond b (Some x) (lookup (λ j. nat_eq k j) es)) is
      by more false is = ap (λ b. cond b (Some e.1) (lookup (λ j. nat_eq k j) (insert_entry nat_eq es k x))) is ∙ more

  entry_other : (es : List (ℕ × A)) (k j : ℕ) (x : A) → (j ≡ k → ⊥) → lookup (λ i. nat_eq j i) (insert_entry nat_eq es k x) ≡ lookup (λ i. nat_eq j i) es
  entry_other [] k j x other = ap (λ b. cond b (Some x) None) (differ j k other)
  entry_other (e ∷ es) k j x other = by (entry_other es k j x other) (nat_eq k e.0) refl
    where
      by : lookup (λ i. nat_eq j i) (insert_entry nat_eq es k x) ≡ lookup (λ i. nat_eq j i) es → (b : Bool) → nat_eq k e.0 ≡ b →
          lookup (λ i. nat_eq j i) (if b then (e.0, x) ∷ es else e ∷ insert_entry nat_eq es k x) ≡ lookup (λ i. nat_eq j i) (e ∷ es)
      by more true is =
          let no_match = differ j e.0 (λ same. other (same ∙ sym (eqb-true k e.0 is))) in
          ap (λ b. cond b (Some x) (lookup (λ i. nat_eq j i) es)) no_match ∙ sym (ap (λ b. cond b (Some e.1) (lookup (λ i. nat_eq j i) es)) no_match)
      by more false is = ap (λ o. cond (nat_eq j e.0) (Some e.1) o) more

-- Definitions.

abbrev pub methods_before : List TypeDef → ℕ → ℕ
methods_before ds i = length (flat_map methods_in (take i ds))

-- in a module with the number m: the object type of the definition with the place k, whose methods begin at n
abbrev pub scope_at : (m k n : ℕ) → TypeDef → ObjectScope
scope_at m k n d = record { home = m; scope = suc k; methods = n; initial = initial_of (inner_decls d.value) }

no_object : (ns : List (Option TypeId)) (m k n : ℕ) (t : Option TypeId) (x : TypeExpr) (os : List (ℕ × ObjectScope)) → (IsObject x → ⊥) → with_object m k n t x os ≡ os
no_object ns m k n None x os never = refl
no_object ns m k n (Some t) (type.Object' p base shape row body end) os never = absurd (never tt)
no_object ns m k n (Some t) (type.Named q) os never = refl
no_object ns m k n (Some t) (type.Array' p lengths shape row) os never = refl
no_object ns m k n (Some t) (type.Record' p base shape row) os never = refl
no_object ns m k n (Some t) (type.Pointer' p shape row) os never = refl
no_object ns m k n (Some t) (type.Proc p flag formals) os never = refl

an_object : (m k n : ℕ) (t : TypeId) (d : TypeDef) (os : List (ℕ × ObjectScope)) → IsObject d.value → with_object m k n (Some t) d.value os ≡ insert_entry nat_eq os t.0 (scope_at m k n d)
an_object m k n t d os is = by d.value refl is
  where
    by : (x : TypeExpr) → d.value ≡ x → IsObject x → with_object m k n (Some t) x os ≡ insert_entry nat_eq os t.0 (record { home = m; scope = suc k; methods = n; initial = initial_of (inner_decls d.value) })
    by (type.Object' p base shape row body end) same is = ap (λ y. insert_entry nat_eq os t.0 (record { home = m; scope = suc k; methods = n; initial = initial_of (inner_decls y) })) (sym same)
    by (type.Named q) same is = absurd is
    by (type.Array' p lengths shape row) same is = absurd is
    by (type.Record' p base shape row) same is = absurd is
    by (type.Pointer' p shape row) same is = absurd is
    by (type.Proc p flag formals) same is = absurd is

pub is_object_or : (x : TypeExpr) → IsObject x ⊎ (IsObject x → ⊥)
is_object_or (type.Object' p base shape row body end) = inl tt
is_object_or (type.Named q) = inr (λ e. e)
is_object_or (type.Array' p lengths shape row) = inr (λ e. e)
is_object_or (type.Record' p base shape row) = inr (λ e. e)
is_object_or (type.Pointer' p shape row) = inr (λ e. e)
is_object_or (type.Proc p flag formals) = inr (λ e. e)

module _ (m : ℕ) (numbers : List (Option TypeId)) where
  abbrev folded : (k n : ℕ) → List (ℕ × ObjectScope) → List TypeDef → List (ℕ × ObjectScope)
  folded k n os ds = (fold (next_object m numbers) (numbered_objects k n os) ds).all

  -- the object type of one of these definitions, of which the first has the place k
  pub record IsDefined (k n : ℕ) (ds : List TypeDef) (t : TypeId) (o : ObjectScope) : Type 0 where
    pub place : ℕ
    pub definition : TypeDef
    pub there : slice_get ds place ≡ Some definition
    pub object : IsObject definition.value
    pub number : number_at numbers (k + place) ≡ Some t
    pub is : o ≡ scope_at m (k + place) (n + methods_before ds place) definition

  later : (k n : ℕ) (d : TypeDef) (ds : List TypeDef) (t : TypeId) (o : ObjectScope) → IsDefined (suc k) (n + length (methods_in d)) ds t o → IsDefined k n (d ∷ ds) t o
  later k n d ds t o h = record {
    place = suc h.place;
    definition = h.definition;
    there = h.there;
    object = h.object;
    number = ap (number_at numbers) (let same : k + suc h.place ≡ suc k + h.place = omega arith in same) ∙ h.number;
    is = h.is
        ∙ ap₂ (λ i j. scope_at m i j h.definition) (let same : suc k + h.place ≡ k + suc h.place = omega arith in same)
        (let same : (n + length (methods_in d)) + methods_before ds h.place ≡ n + (length (methods_in d) + methods_before ds h.place) = omega arith in
        same ∙ ap (λ l. n + l) (sym (length-append (methods_in d) (flat_map methods_in (take h.place ds)))));
  }

  this : (k n : ℕ) (d : TypeDef) (ds : List TypeDef) (t : TypeId) → IsObject d.value → number_at numbers k ≡ Some t → IsDefined k n (d ∷ ds) t (scope_at m k n d)
  this k n d ds t object number = record {
    place = 0;
    definition = d;
    there = refl;
    object = object;
    number = ap (number_at numbers) (let same : k + 0 ≡ k = omega arith in same) ∙ number;
    is = ap₂ (λ i j. scope_at m i j d) (let same : k ≡ k + 0 = omega arith in same) (let same : n ≡ n + 0 = omega arith in same);
  }

  -- what is found is one of them
  found_by : (ds : List TypeDef) (k n : ℕ) (os : List (ℕ × ObjectScope)) (t : TypeId) (o : ObjectScope) → lookup (λ i. nat_eq t.0 i) (folded k n os ds) ≡ Some o →
      (lookup (λ i. nat_eq t.0 i) os ≡ Some o) ⊎ IsDefined k n ds t o
  found_by [] k n os t o found = inl found
  found_by (d ∷ ds) k n os t o found = by (found_by ds (suc k) (n + length (methods_in d)) (with_object m k n (number_at numbers k) d.value os) t o found)
    where
      number_same : (u : TypeId) → t.0 ≡ u.0 → u ≡ t
      number_same u same = ap (λ (i : ℕ). record { 0 = i }) (sym same)

      with_number : (u : TypeId) → number_at numbers k ≡ Some u → IsObject d.value → lookup (λ i. nat_eq t.0 i) (with_object m k n (Some u) d.value os) ≡ Some o →
          (lookup (λ i. nat_eq t.0 i) os ≡ Some o) ⊎ IsDefined k n (d ∷ ds) t o
      with_number u is object found = at (nat_eq t.0 u.0) refl
        where
          inserted : lookup (λ i. nat_eq t.0 i) (insert_entry nat_eq os u.0 (scope_at m k n d)) ≡ Some o
          inserted = sym (ap (lookup (λ i. nat_eq t.0 i)) (an_object m k n u d os object)) ∙ found

          at : (b : Bool) → nat_eq t.0 u.0 ≡ b → (lookup (λ i. nat_eq t.0 i) os ≡ Some o) ⊎ IsDefined k n (d ∷ ds) t o
          at true same =
              let equal : t.0 ≡ u.0 = eqb-true t.0 u.0 same in
              let here : scope_at m k n d ≡ o =
              same_Some (scope_at m k n d) o (sym (entry_here os u.0 (scope_at m k n d)) ∙ ap (λ j. lookup (λ i. nat_eq j i) (insert_entry nat_eq os u.0 (scope_at m k n d))) (sym equal) ∙ inserted) in
              inr (subst (IsDefined k n (d ∷ ds) t) here (this k n d ds t object (is ∙ ap (λ v. Some v) (number_same u equal))))
          at false other = inl (sym (entry_other os u.0 t.0 (scope_at m k n d) (λ same. apart (sym (eq-eqb t.0 u.0 same) ∙ other))) ∙ inserted)
            where
              apart : true ≡ false → ⊥
              apart e = cc

      added : (u : Option TypeId) → number_at numbers k ≡ u → lookup (λ i. nat_eq t.0 i) (with_object m k n u d.value os) ≡ Some o →
          (lookup (λ i. nat_eq t.0 i) os ≡ Some o) ⊎ IsDefined k n (d ∷ ds) t o
      added None is found = inl found
      added (Some u) is found = kind (is_object_or d.value)
        where
          kind : IsObject d.value ⊎ (IsObject d.value → ⊥) → (lookup (λ i. nat_eq t.0 i) os ≡ Some o) ⊎ IsDefined k n (d ∷ ds) t o
          kind (inl object) = with_number u is object found
          kind (inr never) = inl (sym (ap (lookup (λ i. nat_eq t.0 i)) (no_object numbers m k n (Some u) d.value os never)) ∙ found)

      by : (lookup (λ i. nat_eq t.0 i) (with_object m k n (number_at numbers k) d.value os) ≡ Some o) ⊎ IsDefined (suc k) (n + length (methods_in d)) ds t o →
          (lookup (λ i. nat_eq t.0 i) os ≡ Some o) ⊎ IsDefined k n (d ∷ ds) t o
      by (inl here) = added (number_at numbers k) refl here
      by (inr more) = inr (later k n d ds t o more)

  no_entry : {o : ObjectScope} (t : TypeId) → lookup (λ i. nat_eq t.0 i) [] ≡ Some o → ⊥
  no_entry t e = cc

  pub found_object : (ds : List Decl) (t : TypeId) (o : ObjectScope) → lookup (λ i. nat_eq t.0 i) (objects_of m numbers ds) ≡ Some o →
      IsDefined 0 (length (procedures ds)) (type_defs ds) t o
  found_object ds t o found = by (found_by (type_defs ds) 0 (length (procedures ds)) [] t o found)
    where
      by : (lookup (λ i. nat_eq t.0 i) [] ≡ Some o) ⊎ IsDefined 0 (length (procedures ds)) (type_defs ds) t o → IsDefined 0 (length (procedures ds)) (type_defs ds) t o
      by (inl none) = absurd (no_entry t none)
      by (inr is) = is

  -- an entry stays, perhaps another one
  stays_some : (ds : List TypeDef) (k n : ℕ) (os : List (ℕ × ObjectScope)) (t : TypeId) → is_some (lookup (λ i. nat_eq t.0 i) os) ≡ true → is_some (lookup (λ i. nat_eq t.0 i) (folded k n os ds)) ≡ true
  stays_some [] k n os t h = h
  stays_some (d ∷ ds) k n os t h = stays_some ds (suc k) (n + length (methods_in d)) (with_object m k n (number_at numbers k) d.value os) t (added (number_at numbers k))
    where
      inserted : (u : TypeId) (x : ObjectScope) → is_some (lookup (λ i. nat_eq t.0 i) (insert_entry nat_eq os u.0 x)) ≡ true
      inserted u x = at (nat_eq t.0 u.0) refl
        where
          at : (b : Bool) → nat_eq t.0 u.0 ≡ b → is_some (lookup (λ i. nat_eq t.0 i) (insert_entry nat_eq os u.0 x)) ≡ true
          at true same = ap (λ j. is_some (lookup (λ i. nat_eq j i) (insert_entry nat_eq os u.0 x))) (eqb-true t.0 u.0 same) ∙ ap is_some (entry_here os u.0 x)
          at false other = ap is_some (entry_other os u.0 t.0 x (λ same. apart (sym (eq-eqb t.0 u.0 same) ∙ other))) ∙ h
            where
              apart : true ≡ false → ⊥
              apart e = cc

      added : (u : Option TypeId) → is_some (lookup (λ i. nat_eq t.0 i) (with_object m k n u d.value os)) ≡ true
      added None = h
      added (Some u) = kind (is_object_or d.value)
        where
          kind : IsObject d.value ⊎ (IsObject d.value → ⊥) → is_some (lookup (λ i. nat_eq t.0 i) (with_object m k n (Some u) d.value os)) ≡ true
          kind (inl object) = ap (λ l. is_some (lookup (λ i. nat_eq t.0 i) l)) (an_object m k n u d os object) ∙ inserted u (scope_at m k n d)
          kind (inr never) = ap (λ l. is_some (lookup (λ i. nat_eq t.0 i) l)) (no_object numbers m k n (Some u) d.value os never) ∙ h

  some_by : (ds : List TypeDef) (k n : ℕ) (os : List (ℕ × ObjectScope)) (j : ℕ) (d : TypeDef) (t : TypeId) → slice_get ds j ≡ Some d → IsObject d.value →
      number_at numbers (k + j) ≡ Some t → is_some (lookup (λ i. nat_eq t.0 i) (folded k n os ds)) ≡ true
  some_by [] k n os j d t there object number = absurd (none-some d there)
  some_by (x ∷ ds) k n os zero d t there object number =
      stays_some ds (suc k) (n + length (methods_in x)) (with_object m k n (number_at numbers k) x.value os) t
      (ap (λ u. is_some (lookup (λ i. nat_eq t.0 i) (with_object m k n u x.value os))) (ap (number_at numbers) (let same : k ≡ k + 0 = omega arith in same) ∙ number)
      ∙ ap (λ l. is_some (lookup (λ i. nat_eq t.0 i) l)) (an_object m k n t x os (subst (λ (z : TypeDef). IsObject z.value) (sym (same_Some x d there)) object))
      ∙ ap is_some (entry_here os t.0 (scope_at m k n x)))
  some_by (x ∷ ds) k n os (suc j) d t there object number =
      some_by ds (suc k) (n + length (methods_in x)) (with_object m k n (number_at numbers k) x.value os) j d t there object
      (ap (number_at numbers) (let same : suc k + j ≡ k + suc j = omega arith in same) ∙ number)

  pub object_found : (ds : List Decl) (j : ℕ) (d : TypeDef) (t : TypeId) → slice_get (type_defs ds) j ≡ Some d → IsObject d.value → number_at numbers j ≡ Some t →
      is_some (lookup (λ i. nat_eq t.0 i) (objects_of m numbers ds)) ≡ true
  object_found ds j d t there object number =
      some_by (type_defs ds) 0 (length (procedures ds)) [] j d t there object (ap (number_at numbers) (let same : 0 + j ≡ j = omega arith in same) ∙ number)

-- Methods among all procedures.

behind : {X : Type 0} (xs ys : List X) (i : ℕ) → slice_get (xs ++ ys) (length xs + i) ≡ slice_get ys i
behind [] ys i = ap (slice_get ys) (let same : 0 + i ≡ i = omega arith in same)
behind (x ∷ xs) ys i = ap (slice_get (x ∷ (xs ++ ys))) (let same : suc (length xs) + i ≡ suc (length xs + i) = omega arith in same) ∙ behind xs ys i

before : {X : Type 0} (xs ys : List X) (i : ℕ) (x : X) → slice_get xs i ≡ Some x → slice_get (xs ++ ys) i ≡ Some x
before [] ys i x is = absurd (none-some x is)
before (y ∷ xs) ys zero x is = is
before (y ∷ xs) ys (suc i) x is = before xs ys i x is

flat_at : (ds : List TypeDef) (j : ℕ) (d : TypeDef) (i : ℕ) (p : Procedure) → slice_get ds j ≡ Some d → slice_get (methods_in d) i ≡ Some p →
    slice_get (flat_map methods_in ds) (methods_before ds j + i) ≡ Some p
flat_at [] j d i p there at = absurd (none-some d there)
flat_at (x ∷ ds) zero d i p there at =
    ap (slice_get (methods_in x ++ flat_map methods_in ds)) (let same : 0 + i ≡ i = omega arith in same)
    ∙ before (methods_in x) (flat_map methods_in ds) i p (ap (λ (z : TypeDef). slice_get (methods_in z) i) (same_Some x d there) ∙ at)
flat_at (x ∷ ds) (suc j) d i p there at =
    ap (slice_get (methods_in x ++ flat_map methods_in ds))
    (ap (λ n. n + i) (length-append (methods_in x) (flat_map methods_in (take j ds)))
    ∙ (let same : (length (methods_in x) + methods_before ds j) + i ≡ length (methods_in x) + (methods_before ds j + i) = omega arith in same))
    ∙ behind (methods_in x) (flat_map methods_in ds) (methods_before ds j + i) ∙ flat_at ds j d i p there at

pub method_at : (ds : List Decl) (j : ℕ) (d : TypeDef) (i : ℕ) (p : Procedure) → slice_get (type_defs ds) j ≡ Some d → slice_get (methods_in d) i ≡ Some p →
    slice_get (all_procedures ds) ((length (procedures ds) + methods_before (type_defs ds) j) + i) ≡ Some p
method_at ds j d i p there at =
    ap (slice_get (all_procedures ds))
    (let same : (length (procedures ds) + methods_before (type_defs ds) j) + i ≡ length (procedures ds) + (methods_before (type_defs ds) j + i) = omega arith in same)
    ∙ behind (procedures ds) (flat_map methods_in (type_defs ds)) (methods_before (type_defs ds) j + i) ∙ flat_at (type_defs ds) j d i p there at
