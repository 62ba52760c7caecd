-- `MaybeBoxed` as a type that may hold the type that holds it: it holds one value or none.
use mathlib.Core.Path.{◌≡◌, refl, ap}
use mathlib.Core.Logic.{◌⊎◌, inl, inr}
use mathlib.Core.Former.{Former, this, const, pair, or, via}
use base.Stored.{gcons, gnil, gnum}
use base.Fml.{ftrue}
use denote.RattleType.{RattleType}
use denote.Memory.{part_of}
use denote.RawPtr.{Ptr}
use denote.Sharing.{nothing}
use denote.HoleLaws.{Alike}
use denote.HolePlaces.{Recodes, struct_places, enum_places, eachs, laid, one_value}
use denote.Hole.Fix.{over}
use denote.Param.Weighed.{Weighed, w_const, w_or}
use denote.Model.Placed.{held, view_places}
use Rattle.std.specs.declared.option.Option.{Option}
use Rattle.std.specs.declared.option.Option.TheVariants.{None, Some}
use Rattle.std.specs.contracts.option.Option as option
use Rattle.std.specs.declared.boxed.Box.{Box}
use Rattle.std.specs.contracts.boxed.Box as box
use Rattle.std.specs.declared.alloc.Global.{Global}
use Rattle.std.specs.contracts.alloc.Global as heap
use Rattle.std.specs.contracts.impls.GlobalAllocator.TheImpl.{ghosts}
use Rattle.aos_tree.specs.declared.boxed.MaybeBoxed.TheInside.{Inside}
use Rattle.aos_tree.specs.declared.boxed.MaybeBoxed.TheView.{view, invariant}
use Rattle.aos_tree.specs.contracts.boxed.MaybeBoxed as C
use Rattle.aos_tree.specs.contracts.boxed.MaybeBoxed.TheInside as I

module _ {X : Type 0} where
  abbrev split : Option X → Unit {0} ⊎ X
  split None = inl tt
  split (Some x) = inr x

  abbrev join : Unit {0} ⊎ X → Option X
  join (inl u) = None
  join (inr x) = Some x

  pub join-split : (o : Option X) → join (split o) ≡ o
  join-split None = refl
  join-split (Some x) = refl

  pub split-join : (o : Unit {0} ⊎ X) → split (join o) ≡ o
  split-join (inl u) = refl
  split-join (inr x) = refl

  abbrev apart : Option (Box X Global) → Unit {0} ⊎ ((Ptr × Global) × X)
  apart None = inl tt
  apart (Some b) = inr ((b.ptr, b.alloc), b.value)

  abbrev whole : Unit {0} ⊎ ((Ptr × Global) × X) → Option (Box X Global)
  whole (inl u) = None
  whole (inr v) = Some (record { ptr = v.0.0; alloc = v.0.1; value = v.1 })

  whole-apart : (o : Option (Box X Global)) → whole (apart o) ≡ o
  whole-apart None = refl
  whole-apart (Some b) = refl

  apart-whole : (o : Unit {0} ⊎ ((Ptr × Global) × X)) → apart (whole o) ≡ o
  apart-whole (inl u) = refl
  apart-whole (inr v) = refl

abbrev pub the_former : Former {0} → Former {0}
the_former g = via (or (const (Unit {0})) g) (λ X. Option (g.Of X)) (λ X. split) (λ X. join) (λ X. join-split) (λ X. split-join)

abbrev pub the_weighed : {g : Former {0}} → Weighed g → Weighed (the_former g)
the_weighed w =
    let v = w_or (w_const (Unit {0})) w in
    record { weight = λ X μ o. v.weight X μ (split o); puts = λ X μ o. v.puts X μ (split o) }

pub the_empty : Option ⊥
the_empty = None

abbrev fields : Former {0}
fields = via (or (const (Unit {0})) (pair (const (Ptr × Global)) this)) Inside (λ X a. apart a.inner) (λ X v. record { inner = whole v })
    (λ X a i. record { inner = whole-apart a.inner i }) (λ X. apart-whole)

abbrev with_value : {X Y : Type 0} → Box X Global → Y → Box Y Global
with_value b y = record { ptr = b.ptr; alloc = b.alloc; value = y }

abbrev over_box : {X Y : Type 0} → (X → Y) → Option (Box X Global) → Option (Box Y Global)
over_box h None = None
over_box h (Some b) = Some (with_value b (h b.value))

abbrev box_of : RattleType → RattleType
box_of R = box.the_row R heap.the_row ghosts

module _ (X : Type 0) where
  keeps : (o : Option (Box X Global)) → held (the_former this) X (view X (record { inner = o })) ≡ held fields X (record { inner = o })
  keeps None = refl
  keeps (Some b) = refl

  module _ (Y : Type 0) (h : X → Y) where
    mapped : (o : Option (Box X Global)) → (fields.map X Y h (record { inner = o })).inner ≡ over_box h o
    mapped None = refl
    mapped (Some b) = refl

    natural : (o : Option (Box X Global)) → view Y (fields.map X Y h (record { inner = o })) ≡ (the_former this).map X Y h (view X (record { inner = o }))
    natural None = refl
    natural (Some b) = refl

module _ (R S : RattleType) (h : R.Denot → S.Denot) where
  box_places : Alike R S h → Alike (box_of R) (box_of S) (λ b. with_value b (h b.value))
  unfolding part_of
  box_places a = record {
    mir_same = λ i. (box_of (one_value R (a.mir_same i) (λ _. ftrue) (λ _ _. nothing) gnil)).mir;
    own_same = λ b i. (box_of (one_value R (a.mir_same i) (a.own_same b.value i) (a.shr_same b.value i) gnil)).own_val (with_value b tt);
    shr_same = λ b i. (box_of (one_value R (a.mir_same i) (a.own_same b.value i) (a.shr_same b.value i) gnil)).shr_at (with_value b tt);
  }

  variant : (o : Option (Box R.Denot Global))
      → (option.enum (box_of S)).as_values (over_box h o)
      ≡ eachs (option.enum (box_of R)).parts (option.enum (box_of S)).parts (tt, ((λ b. with_value b (h b.value), tt), tt)) ((option.enum (box_of R)).as_values o)
  variant None = refl
  variant (Some b) = refl

  pub the_places : Alike R S h → Alike (C.the_row R) (C.the_row S) ((the_former this).map R.Denot S.Denot h)
  the_places a =
      let inner = enum_places (option.enum (box_of R)) (option.enum (box_of S)) (tt, ((λ b. with_value b (h b.value), tt), tt)) (over_box h) variant refl
      (tt, ((laid _ _ _ (box_places a), tt), tt)) in
      view_places fields (the_former this) view (λ X Y k u. natural X Y k u.inner) (λ X u. keeps X u.inner) R.Denot S.Denot h (C.the_row R).coded (C.the_row S).coded
      (invariant R.Denot) (invariant S.Denot) (λ u p q. refl) (λ u p q. refl) (λ u e. tt) (λ u e. tt)
      (over (I.the_row R)) (over (I.the_row S))
      (struct_places (I.the_type R) (I.the_type S) (over_box h, tt) _ (λ d i. (mapped R.Denot S.Denot h d.inner i, tt)) refl (laid _ _ _ inner, tt))

  pub the_codes_placed : Recodes R S h → Recodes (C.the_row R) (C.the_row S) ((the_former this).map R.Denot S.Denot h)
  the_codes_placed e None = refl
  the_codes_placed e (Some x) = ap (gcons (gnum 1)) (e x)
