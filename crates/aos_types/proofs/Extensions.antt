-- Extension is transitive, that of pointer types too.
use Rattle.std.proofs.Common.{◌≡◌, List, [], ◌∷◌, length, Option, Some, None, refl, sym, ap, ◌∙◌, subst}
use Rattle.std.specs.Prelude.{Bool, true, false, ◌==◌, ◌||◌, if◌then◌else◌}
use mathlib.Core.Logic.{◌⊎◌, inl, inr}
use Rattle.std.proofs.lemmas.Bool.{cases_Bool, or_cases}
use Rattle.aos_types.specs.declared.row.TypeId.{TypeId}
use Rattle.aos_types.specs.declared.row.TypeRow.{TypeRow}
use Rattle.aos_types.specs.declared.row.TypeRow.TheVariants as row
use Rattle.aos_types.specs.Table.{row_of, is_pointer, base_of, on_both}
use Rattle.aos_types.specs.Chain.{IsRanked}
use Rattle.aos_types.specs.Extension.{comes_to, record_below, extends_pointer, extends, AreBases}
use Rattle.aos_types.proofs.Tables.{bases_of, comes_on, is_it}

-- a pointer type has no base
no_base : (o : Option TypeRow) (x : TypeId) → is_pointer o ≡ true → base_of o ≡ Some x → ⊥
no_base (Some (row.Pointer t)) x p e = cc
no_base (Some (row.Basic b)) x p e = cc
no_base (Some (row.Array n t)) x p e = cc
no_base (Some (row.Open t)) x p e = cc
no_base (Some (row.Record b fs)) x p e = cc
no_base (Some (row.Object b fs)) x p e = cc
no_base (Some (row.Procedure fs r)) x p e = cc
no_base (Some row.Any) x p e = cc
no_base None x p e = cc

module _ (rows : List TypeRow) where
  below_pointer : (o : Option TypeRow) (x : TypeId) → record_below rows o ≡ Some x → is_pointer o ≡ true
  below_pointer (Some (row.Pointer t)) x e = refl
  below_pointer (Some (row.Basic b)) x e = cc
  below_pointer (Some (row.Array n t)) x e = cc
  below_pointer (Some (row.Open t)) x e = cc
  below_pointer (Some (row.Record b fs)) x e = cc
  below_pointer (Some (row.Object b fs)) x e = cc
  below_pointer (Some (row.Procedure fs r)) x e = cc
  below_pointer (Some row.Any) x e = cc
  below_pointer None x e = cc

  -- two types that a test of both finds
  record Both (f : TypeId → TypeId → Bool) (o u : Option TypeId) : Type 0 where
    x : TypeId
    y : TypeId
    first : o ≡ Some x
    second : u ≡ Some y
    holds : f x y ≡ true

  both_of : (f : TypeId → TypeId → Bool) (o u : Option TypeId) → on_both f o u ≡ true → Both f o u
  both_of f (Some x) (Some y) e = record { x = x; y = y; first = refl; second = refl; holds = e }
  both_of f None u e = absurd (cc)
  both_of f (Some x) None e = absurd (cc)

  both_are : (f : TypeId → TypeId → Bool) (o u : Option TypeId) → Both f o u → on_both f o u ≡ true
  both_are f o u b = ap (λ z. on_both f z u) b.first ∙ ap (λ z. on_both f (Some b.x) z) b.second ∙ b.holds

  one_some : (x y : TypeId) → Some x ≡ Some y → x ≡ y
  one_some x y e = cc

  abbrev below : TypeId → Option TypeId
  below t = record_below rows (row_of rows t)

  or_right : (x y : Bool) → y ≡ true → (x || y) ≡ true
  or_right true y e = refl
  or_right false y e = e

  at_true : {A : Type 0} (b : Bool) (x y : A) → b ≡ true → (if b then x else y) ≡ x
  at_true true x y e = refl
  at_true false x y e = absurd (cc)

  at_false : {A : Type 0} (b : Bool) (x y : A) → b ≡ false → (if b then x else y) ≡ y
  at_false true x y e = absurd (cc)
  at_false false x y e = refl

  module _ (h : IsRanked rows) (a b c : TypeId) (e : extends rows a b ≡ true) where
    to_pointer : is_pointer (row_of rows c) ≡ true → (b.0 == c.0 ≡ true) ⊎ (on_both (comes_to rows) (record_below rows (row_of rows b)) (record_below rows (row_of rows c)) ≡ true) → extends rows a c ≡ true
    to_pointer p (inl s) = subst (λ z. extends rows a z ≡ true) (is_it b c s) e
    to_pointer p (inr f) = from_pointer (both_of (comes_to rows) (below b) (below c) f)
      where
        pointers : on_both (comes_to rows) (record_below rows (row_of rows a)) (record_below rows (row_of rows c)) ≡ true → extends rows a c ≡ true
        pointers k =
            at_true (is_pointer (row_of rows c)) (extends_pointer rows a c) (comes_to rows a c) p ∙ or_right (a.0 == c.0) (on_both (comes_to rows) (record_below rows (row_of rows a)) (record_below rows (row_of rows c))) k

        further : (w y x z : TypeId) → x ≡ z → comes_to rows w x ≡ true → comes_to rows z y ≡ true → comes_to rows w y ≡ true
        further w y x z s k l = comes_on rows h w x y k (subst (λ v. comes_to rows v y ≡ true) (sym s) l)

        on_chain : Both (comes_to rows) (below b) (below c) → Both (comes_to rows) (below a) (below b) → extends rows a c ≡ true
        on_chain k l =
            pointers (
            both_are (comes_to rows) (below a) (below c) (
            record {
              x = l.x;
              y = k.y;
              first = l.first;
              second = k.second;
              holds = further l.x k.y l.y k.x (one_some l.y k.x (sym l.second ∙ k.first)) l.holds k.holds;
            }
            )
            )

        by_first : Both (comes_to rows) (below b) (below c) → (a.0 == b.0 ≡ true) ⊎ (on_both (comes_to rows) (record_below rows (row_of rows a)) (record_below rows (row_of rows b)) ≡ true) → extends rows a c ≡ true
        by_first k (inl s) = pointers (subst (λ z. on_both (comes_to rows) (record_below rows (row_of rows z)) (record_below rows (row_of rows c)) ≡ true) (sym (is_it a b s)) f)
        by_first k (inr l) = on_chain k (both_of (comes_to rows) (below a) (below b) l)

        from_pointer : Both (comes_to rows) (below b) (below c) → extends rows a c ≡ true
        from_pointer k =
            by_first k (
            or_cases (a.0 == b.0) (on_both (comes_to rows) (record_below rows (row_of rows a)) (record_below rows (row_of rows b)))
            (sym (at_true (is_pointer (row_of rows b)) (extends_pointer rows a b) (comes_to rows a b) (below_pointer (row_of rows b) k.x k.first)) ∙ e)
            )

    to_other : is_pointer (row_of rows c) ≡ false → comes_to rows b c ≡ true → (is_pointer (row_of rows b) ≡ true) ⊎ (is_pointer (row_of rows b) ≡ false) → extends rows a c ≡ true
    to_other n f (inl p) = let r = bases_of rows (length rows) b c f in no_bases r.bases r.are
      where
        no_bases : (bs : List TypeId) → AreBases rows b bs c → extends rows a c ≡ true
        no_bases [] s = subst (λ z. extends rows a z ≡ true) s e
        no_bases (x ∷ bs) s = absurd (no_base (row_of rows b) x p s.0)
    to_other n f (inr q) =
        at_false (is_pointer (row_of rows c)) (extends_pointer rows a c) (comes_to rows a c) n ∙ comes_on rows h a b c (sym (at_false (is_pointer (row_of rows b)) (extends_pointer rows a b) (comes_to rows a b) q) ∙ e) f

    pub on : extends rows b c ≡ true → extends rows a c ≡ true
    on f = by_row (cases_Bool (is_pointer (row_of rows c)))
      where
        by_row : (is_pointer (row_of rows c) ≡ true) ⊎ (is_pointer (row_of rows c) ≡ false) → extends rows a c ≡ true
        by_row (inl p) =
            to_pointer p (
            or_cases (b.0 == c.0) (on_both (comes_to rows) (record_below rows (row_of rows b)) (record_below rows (row_of rows c)))
            (sym (at_true (is_pointer (row_of rows c)) (extends_pointer rows b c) (comes_to rows b c) p) ∙ f)
            )
        by_row (inr n) =
            to_other n (sym (at_false (is_pointer (row_of rows c)) (extends_pointer rows b c) (comes_to rows b c) n) ∙ f) (cases_Bool (is_pointer (row_of rows b)))
