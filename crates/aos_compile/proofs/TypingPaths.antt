-- The scopes that are searched within an object type: its own, and those of its bases, whose names are fields and methods of SELF.
use Rattle.std.proofs.Common.{◌≡◌, ℕ, zero, suc, ◌<◌, ◌==◌, ◌&&◌, ◌||◌, ◌⊎◌, inl, inr, List, [], ◌∷◌, length, Bool, true, false, if◌then◌else◌, Option, Some, None, option_and_then, refl, sym, ap, ap₂, ◌∙◌, subst, eq-eqb, eqb-true, arith}
use Rattle.aos_types.specs.declared.row.TypeId.{TypeId}
use Rattle.aos_types.specs.declared.row.TypeRow.{TypeRow}
use Rattle.aos_types.specs.Table.{row_of, base_of}
use Rattle.aos_types.specs.Extension.{on_base, comes_by}
use Rattle.aos_types.proofs.Steps.{comes_here}
use Rattle.aos_symbols.specs.declared.home.ObjectScope.{ObjectScope}
use Rattle.aos_symbols.specs.declared.env.Env.{Env}
use Rattle.aos_members.specs.Members as members
use Rattle.aos_members.specs.Members.{chain_by, chain_behind}
use Rattle.aos_symbols.proofs.Each.{Each, joined}
use Rattle.aos_designators.specs.Designators as desig
use Rattle.aos_check_expr.proofs.Whole.{IsFieldScope, IsSearched}

not_both : true ≡ false → ⊥
not_both e = cc

-- a type is one of these
abbrev IsAmong : TypeId → List TypeId → Type 0
IsAmong u [] = ⊥
IsAmong u (t ∷ ts) = (t ≡ u) ⊎ IsAmong u ts

-- what stands in a type's chain is a type that it extends
chain_comes : (n : ℕ) (rows : List TypeRow) (t u : TypeId) → IsAmong u (chain_by n rows t) → comes_by n rows t u ≡ true
chain_comes zero rows t u (inl same) = eq-eqb t.0 u.0 (ap (λ (v : TypeId). v.0) same)
chain_comes zero rows t u (inr none) = absurd none
chain_comes (suc n) rows t u (inl same) = comes_here (suc n) rows t u (eq-eqb t.0 u.0 (ap (λ (v : TypeId). v.0) same))
chain_comes (suc n) rows t u (inr more) = by (base_of (row_of rows t)) more (λ b. chain_comes n rows b u)
  where
    right : (x y : Bool) → y ≡ true → (x || y) ≡ true
    right true y h = refl
    right false y h = h

    by : (o : Option TypeId) → IsAmong u (chain_behind (λ b. chain_by n rows b) o) → ((b : TypeId) → IsAmong u (chain_by n rows b) → comes_by n rows b u ≡ true) →
        ((t.0 == u.0) || on_base (λ c. comes_by n rows c u) o) ≡ true
    by None more deeper = absurd more
    by (Some b) more deeper = right (t.0 == u.0) (comes_by n rows b u) (deeper b more)

first_among : (test : TypeId → Bool) (ts : List TypeId) (u : TypeId) → IsAmong u ts → test u ≡ true → (b : TypeId) × (members.first_along test ts ≡ Some b) × IsAmong b ts
first_among test [] u among is = absurd among
first_among test (t ∷ ts) u among is = by (test t) refl among (first_among test ts u)
  where
    by : (c : Bool) → test t ≡ c → IsAmong u (t ∷ ts) → (IsAmong u ts → test u ≡ true → (b : TypeId) × (members.first_along test ts ≡ Some b) × IsAmong b ts) →
        (b : TypeId) × ((if c then Some t else members.first_along test ts) ≡ Some b) × IsAmong b (t ∷ ts)
    by true here among deeper = (t, refl, inl refl)
    by false other (inl same) deeper = absurd (not_both (sym is ∙ ap test (sym same) ∙ other))
    by false other (inr more) deeper = let one = deeper more is in (one.0, one.1, inr one.2)

module _ (e f : Env) (t : TypeId) (self : f.self_type ≡ Some t) (types : f.types ≡ e.types) (same : (u : TypeId) → members.object f u ≡ members.object e u)
    (not_own : (u : TypeId) (o : ObjectScope) → members.object e u ≡ Some o → desig.is_own_scope f (members.object_place o) ≡ false)
    (inner : (u : TypeId) (o : ObjectScope) → members.object e u ≡ Some o → 0 < o.scope) where
  stands : (u : TypeId) (o : ObjectScope) → members.object e u ≡ Some o → members.stands_in (members.object_place o) (members.object f u) ≡ true
  stands u o object =
      ap (members.stands_in (members.object_place o)) (same u ∙ object)
      ∙ ap₂ (λ a b. a && b) (eq-eqb o.home o.home refl) (eq-eqb o.scope o.scope refl)

  no_first : (n : ℕ) → 0 < n → (n == 0) ≡ false
  no_first n more = by (n == 0) refl
    where
      by : (b : Bool) → (n == 0) ≡ b → (n == 0) ≡ false
      by false is = is
      by true is = let zero_is = eqb-true n 0 is in absurd (omega (arith, more, zero_is))

  field_scope : (u : TypeId) (o : ObjectScope) → members.object e u ≡ Some o → IsAmong u (members.chain f.types t) → IsFieldScope f (members.object_place o)
  field_scope u o object among =
      let one = first_among (λ v. members.stands_in (members.object_place o) (members.object f v)) (members.chain f.types t) u among (stands u o object) in (
        t,
        one.0,
        self,
        chain_comes (length f.types) f.types t one.0 one.2,
        ap (option_and_then (members.declarer f (members.object_place o))) self ∙ one.1,
        not_own u o object,
        no_first o.scope (inner u o object),
      )

  searched : (ts : List TypeId) → ((u : TypeId) → IsAmong u ts → IsAmong u (members.chain f.types t)) → Each (IsSearched f) (members.object_path e ts)
  searched [] all = tt
  searched (u ∷ ts) all = joined (IsSearched f) (members.opened e (members.object e u)) (members.object_path e ts) (by (members.object e u) refl) (searched ts (λ v among. all v (inr among)))
    where
      by : (o : Option ObjectScope) → members.object e u ≡ o → Each (IsSearched f) (members.opened e o)
      by None object = tt
      by (Some o) object = (inr (inr (field_scope u o object (all u (inl refl)))), tt)

  -- all of them are of SELF's type, or of its bases
  pub path_searched : Each (IsSearched f) (members.object_path e (members.chain e.types t))
  path_searched = searched (members.chain e.types t) (λ u among. subst (λ rows. IsAmong u (members.chain rows t)) (sym types) among)
