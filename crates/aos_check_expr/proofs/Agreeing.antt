-- Signatures that are the same tell procedures with the same formals, in a table in which each open array stands behind its elements and
-- each predeclared type has one row.
use Rattle.std.proofs.Common.{◌≡◌, ℕ, zero, suc, ◌==◌, ◌⊎◌, inl, inr, List, [], ◌∷◌, length, Bool, true, false, ◌&&◌, Option, Some, None, refl, sym, ap, ◌∙◌, subst}
use Rattle.std.proofs.lemmas.Bool.{and_parts}
use Rattle.aos_types.specs.declared.row.TypeId.{TypeId}
use Rattle.aos_types.specs.declared.row.TypeRow.{TypeRow}
use Rattle.aos_types.specs.declared.row.TypeRow.TheVariants as row
use Rattle.aos_types.specs.Table.{row_of, is_open, on_both}
use Rattle.aos_types.specs.Sameness.{are_one, are_predeclared, element_of, same_by, same}
use Rattle.aos_typed.specs.declared.tree.TType.{TType}
use Rattle.aos_typed.specs.Formals.{AreSame, Agree}
use Rattle.aos_typed.specs.Numbers.{id_of}
use Rattle.aos_typed.specs.Open.{open_dimensions, open_element}
use Rattle.aos_typed.specs.Program.{Parameter}
use Rattle.aos_types.specs.declared.signature.Parameter.{Parameter as Formal}
use Rattle.aos_types.specs.declared.signature.Gives.{Gives}
use Rattle.aos_types.specs.declared.signature.Gives.TheVariants as gives
use Rattle.aos_known.specs.Known.{type_as}
use Rattle.aos_types.specs.Signature.{same_type, same_kind, same_parameters, same_result}
use Rattle.aos_known.proofs.Types.{not_both, same_type as same_number}
use Rattle.aos_check_expr.proofs.Objects.{either_is}
use Rattle.aos_check_expr.proofs.Opens.{OpensFall, open_is, next_dimensions, next_element}
use Rattle.aos_check_expr.proofs.Whole.{AreFormalsOf, IsResultOf}

-- two lists of parameters that are the same agree
pub agree_itself : (rows : List TypeRow) (as' : List Parameter) → Agree rows as' as'
agree_itself rows [] = tt
agree_itself rows (a ∷ as') = (refl, inl refl, agree_itself rows as')

kind_same : (a b : Bool) → same_kind a b ≡ true → a ≡ b
kind_same true true is = refl
kind_same true false is = absurd (not_both (sym is))
kind_same false true is = absurd (not_both (sym is))
kind_same false false is = refl

module _ (rows : List TypeRow) (falls : OpensFall rows) (unique : (a b : TypeId) → are_predeclared (row_of rows a) (row_of rows b) ≡ true → a ≡ b) where
  one_same : (a b : TypeId) → are_one rows a b ≡ true → a ≡ b
  one_same a b is = by (either_is (a.0 == b.0) (are_predeclared (row_of rows a) (row_of rows b)) is)
    where
      by : ((a.0 == b.0) ≡ true) ⊎ (are_predeclared (row_of rows a) (row_of rows b) ≡ true) → a ≡ b
      by (inl e) = same_number a b e
      by (inr e) = unique a b e

  -- types that are the same are one, or open arrays of the same elements
  abbrev pub AreOneOrOpen : TypeId → TypeId → Type 0
  AreOneOrOpen a b =
      (a ≡ b)
      ⊎ ((is_open (row_of rows a) ≡ true) × (is_open (row_of rows b) ≡ true)
      × (open_dimensions rows a ≡ open_dimensions rows b) × (open_element rows a ≡ open_element rows b))

  opened_both : (a b v w : TypeId) → row_of rows a ≡ Some (row.Open v) → row_of rows b ≡ Some (row.Open w) → AreOneOrOpen v w → AreOneOrOpen a b
  opened_both a b v w i j deeper = by deeper
    where
      dimensions : open_dimensions rows v ≡ open_dimensions rows w → open_dimensions rows a ≡ open_dimensions rows b
      dimensions same = next_dimensions rows falls a v i ∙ ap suc same ∙ sym (next_dimensions rows falls b w j)

      elements : open_element rows v ≡ open_element rows w → open_element rows a ≡ open_element rows b
      elements same = next_element rows falls a v i ∙ same ∙ sym (next_element rows falls b w j)

      by : AreOneOrOpen v w → AreOneOrOpen a b
      by (inl e) = inr (ap is_open i, ap is_open j, dimensions (ap (open_dimensions rows) e), elements (ap (open_element rows) e))
      by (inr h) = inr (ap is_open i, ap is_open j, dimensions h.2, elements h.3)

  pub one_or_open : (n : ℕ) (a b : TypeId) → same_by n rows a b ≡ true → AreOneOrOpen a b
  one_or_open zero a b is = inl (one_same a b is)
  one_or_open (suc n) a b is =
      by (either_is (are_one rows a b) (on_both (same_by n rows) (element_of (row_of rows a)) (element_of (row_of rows b))) is) (one_or_open n)
    where
      opened : (v w : Option TypeId) → element_of (row_of rows a) ≡ v → element_of (row_of rows b) ≡ w → on_both (same_by n rows) v w ≡ true →
          ((c d : TypeId) → same_by n rows c d ≡ true → AreOneOrOpen c d) → AreOneOrOpen a b
      opened (Some v) (Some w) i j is more = opened_both a b v w (open_is (row_of rows a) v i) (open_is (row_of rows b) w j) (more v w is)
      opened None w i j is more = absurd (not_both (sym is))
      opened (Some v) None i j is more = absurd (not_both (sym is))

      by : (are_one rows a b ≡ true) ⊎ (on_both (same_by n rows) (element_of (row_of rows a)) (element_of (row_of rows b)) ≡ true) →
          ((c d : TypeId) → same_by n rows c d ≡ true → AreOneOrOpen c d) → AreOneOrOpen a b
      by (inl e) more = inl (one_same a b e)
      by (inr e) more = opened (element_of (row_of rows a)) (element_of (row_of rows b)) refl refl e more

  -- so are they in the typed program, where their numbers are theirs
  pub same_known : (t u : TypeId) → id_of (type_as t) ≡ t → id_of (type_as u) ≡ u → same rows t u ≡ true → AreSame rows (type_as t) (type_as u)
  same_known t u a b is = by (one_or_open (length rows) t u is)
    where
      by : AreOneOrOpen t u → AreSame rows (type_as t) (type_as u)
      by (inl e) = inl (ap type_as e)
      by (inr h) =
          inr (
            ap (λ (v : TypeId). is_open (row_of rows v)) a ∙ h.0,
            ap (λ (v : TypeId). is_open (row_of rows v)) b ∙ h.1,
            ap (open_dimensions rows) a ∙ h.2 ∙ sym (ap (open_dimensions rows) b),
            ap (open_element rows) a ∙ h.3 ∙ sym (ap (open_element rows) b),
          )

  pub agree : (Kind : TypeId → Type 0) → ((t : TypeId) → Kind t → id_of (type_as t) ≡ t) → (xs ys : List Formal) (as' bs : List Parameter) →
      AreFormalsOf Kind xs as' → AreFormalsOf Kind ys bs → same_parameters rows xs ys ≡ true → Agree rows as' bs
  agree Kind id [] [] as' bs are also is = subst (λ l. Agree rows l bs) (sym are) (subst (λ l. Agree rows [] l) (sym also) tt)
  agree Kind id [] (y ∷ ys) as' bs are also is = absurd (not_both (sym is))
  agree Kind id (x ∷ xs) [] as' bs are also is = absurd (not_both (sym is))
  agree Kind id (x ∷ xs) (y ∷ ys) as' bs are also is =
      let two = and_parts (same_kind x.by_reference y.by_reference && same_type rows x.of y.of) (same_parameters rows xs ys) is in
      let one = and_parts (same_kind x.by_reference y.by_reference) (same_type rows x.of y.of) two.0 in
      let here : same rows are.2 also.2 ≡ true = sym ((λ i. same_type rows (are.4 i) (also.4 i))) ∙ one.1 in
      let same = same_known are.2 also.2 (id are.2 are.7) (id also.2 also.7) here in
      subst (λ l. Agree rows l bs) (sym are.3)
      (subst (λ l. Agree rows (are.0 ∷ are.1) l) (sym also.3) (
        are.6 ∙ kind_same x.by_reference y.by_reference one.0 ∙ sym also.6,
        subst (λ (t : TType). AreSame rows t also.0.of) (sym are.5) (subst (λ (u : TType). AreSame rows (type_as are.2) u) (sym also.5) same),
        agree Kind id xs ys are.1 also.1 are.8 also.8 two.1,
      ))

  -- results are the same, where the second one is no open array
  pub results : (g h : Gives) (r s : Option TType) → IsResultOf g r → IsResultOf h s → ((t : TypeId) → h ≡ gives.Value (Some t) → is_open (row_of rows t) ≡ false) →
      same_result rows g h ≡ true → r ≡ s
  results gives.Nothing gives.Nothing r s one two closed is = one ∙ sym two
  results gives.Nothing (gives.Value u) r s one two closed is = absurd (not_both (sym is))
  results (gives.Value t) gives.Nothing r s one two closed is = absurd (not_both (sym is))
  results (gives.Value t) (gives.Value u) r s one two closed is =
      by (one_or_open (length rows) one.0 two.0 (sym ((λ i. same_type rows (one.1 i) (two.1 i))) ∙ is))
    where
      by : AreOneOrOpen one.0 two.0 → r ≡ s
      by (inl e) = one.2 ∙ ap (λ v. Some (type_as v)) e ∙ sym two.2
      by (inr h) = absurd (not_both (sym h.1 ∙ closed two.0 (ap gives.Value two.1)))
