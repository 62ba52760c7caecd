-- The kinds of types by what they are made of, and what tasks come to, in how many steps.
use Rattle.std.proofs.Common.{◌≡◌, ℕ, zero, suc, ◌+◌, ◌*◌, ◌-◌, ◌<◌, ◌≤◌, List, [], ◌∷◌, ◌++◌, length, map, take, drop, Option, Some, None, refl, sym, ap, ◌∙◌, arith, append_assoc, append-nil}
use Rattle.std.specs.Prelude.{true, false, if◌then◌else◌, slice_range}
use Rattle.std.specs.List.{flat_map}
use Rattle.std.proofs.Math.Seq.{take-append_seam}
use Rattle.std.proofs.lemmas.List.{map-append, length-map, length-append, length-drop, drop-append-le}
use mathlib.Core.Logic.{inl, inr}
use Rattle.aos_types.specs.declared.row.TypeId.{TypeId}
use Rattle.aos_types.specs.declared.row.TypeRow.{TypeRow}
use Rattle.aos_types.specs.declared.row.TypeRow.TheVariants as row
use Rattle.aos_types.specs.Table.{row_of, is_object}
use Rattle.aos_types.specs.Chain.{IsOneOf, IsRanked, NoneContainsItself, held, base_list, parts_of}
use Rattle.aos_types.specs.Shape as shape
use Rattle.aos_types.specs.Shape.{Shape, One, Nothing, Pair, join}
use Rattle.aos_types.specs.Contents.{contents, scalars, with_parts, of_base, levels}
use Rattle.aos_types.proofs.Ranks.{ranked}
use Rattle.aos_types.proofs.Tables.{by_parts}
use Rattle.aos_code.specs.declared.instr.Kind.{Kind}
use Rattle.aos_code.specs.declared.instr.Kind.TheVariants.{R}
use Rattle.aos_layout.specs.declared.work.Task.{Task}
use Rattle.aos_layout.specs.Layout.{leaves, kind_in, kind_of, kinds}
use Rattle.aos_layout.specs.TypeParts.{variable, fields}
use Rattle.aos_layout.specs.Work.{variable_kinds, field_kinds, base_kinds, again, fields_of, done, all_done, sum_of, steps_by, steps, variable_steps, field_steps, task_steps, all_steps}

-- one more task
module _ (rows : List TypeRow) where
  pub all_done_push : (xs : List Task) (x : Task) (ks : List Kind) → all_done rows (xs ++ x ∷ []) ks ≡ all_done rows xs (done rows x ks)
  all_done_push [] x ks = refl
  all_done_push (y ∷ xs) x ks = ap (done rows y) (all_done_push xs x ks)

  pub all_steps_push : (xs : List Task) (x : Task) → all_steps rows (xs ++ x ∷ []) ≡ all_steps rows xs + task_steps rows x
  all_steps_push [] x = omega arith
  all_steps_push (y ∷ xs) x = let h = all_steps_push xs x in omega (arith, h)

-- a variable of an object type is a reference
object_kind : (o : Option TypeRow) → is_object o ≡ true → kind_in o ≡ R
object_kind None e = absurd (cc)
object_kind (Some (row.Basic b)) e = absurd (cc)
object_kind (Some (row.Array n of)) e = absurd (cc)
object_kind (Some (row.Open of)) e = absurd (cc)
object_kind (Some (row.Record b ts)) e = absurd (cc)
object_kind (Some (row.Pointer to)) e = absurd (cc)
object_kind (Some (row.Object b ts)) e = refl
object_kind (Some (row.Procedure fs r)) e = absurd (cc)
object_kind (Some row.Any) e = absurd (cc)

module _ (rows : List TypeRow) (t : TypeId) where
  pub object_kinds : is_object (row_of rows t) ≡ true → variable_kinds rows t ≡ R ∷ []
  object_kinds e = ap (λ b. map (kind_of rows) (leaves (if b then One t else contents rows t))) e ∙ ap (λ k. k ∷ []) (object_kind (row_of rows t) e)

  pub other_kinds : is_object (row_of rows t) ≡ false → variable_kinds rows t ≡ kinds rows t
  other_kinds e = ap (λ b. map (kind_of rows) (leaves (if b then One t else contents rows t))) e

  pub other_steps : is_object (row_of rows t) ≡ false → variable_steps rows t ≡ steps rows t
  other_steps e = ap (λ b. sum_of (steps rows) (if b then [] else t ∷ [])) e ∙ omega arith

-- what is put again
pub drop_front : (ks vs : List Kind) → drop (length ks) (ks ++ vs) ≡ vs
drop_front [] vs = refl
drop_front (k ∷ ks) vs = drop_front ks vs

pub again_more : (n : ℕ) (ks : List Kind) → 0 < n → ks ++ again (n - 1) ks ≡ again n ks
again_more zero ks l = absurd (omega arith)
again_more (suc n) ks l = let e : suc n - 1 ≡ n = omega arith in ap (λ m. ks ++ again m ks) e

again_last : (n : ℕ) (ks : List Kind) → again n ks ++ ks ≡ ks ++ again n ks
again_last zero ks = sym (append-nil ks)
again_last (suc n) ks = append_assoc ks (again n ks) ks ∙ ap (λ z. ks ++ z) (again_last n ks)

pub again_nothing : (n : ℕ) → again n [] ≡ []
again_nothing zero = refl
again_nothing (suc n) = again_nothing n

-- the kinds from a place on, put behind once more
pub again_next : (ks : List Kind) (from n : ℕ) → from ≤ length ks → (ks ++ again n (drop from ks)) ++ slice_range (ks ++ again n (drop from ks)) from (length ks) ≡ ks ++ again (suc n) (drop from ks)
again_next ks from n l =
    let xs = drop from ks in
    let r : take (length ks - from) (xs ++ again n xs) ≡ xs = ap (λ k. take k (xs ++ again n xs)) (sym (length-drop from ks)) ∙ take-append_seam xs (again n xs) in
    ap (λ z. (ks ++ again n xs) ++ take (length ks - from) z) (drop-append-le from ks (again n xs) l) ∙ ap (λ z. (ks ++ again n xs) ++ z) r ∙ append_assoc ks (again n xs) xs ∙ ap (λ z. ks ++ z) (again_last n xs)

-- a type has as many kinds as scalars
pub kinds_counted : {S : Type 0} (s : Shape S) → length (leaves s) ≡ shape.size s
kinds_counted (One k) = refl
kinds_counted Nothing = refl
kinds_counted (Pair a b) = let x = kinds_counted a in let y = kinds_counted b in omega (arith, length-append (leaves a) (leaves b), x, y)

none_of : (ks : List Kind) → length ks ≡ 0 → ks ≡ []
none_of [] e = refl
none_of (k ∷ ks) e = absurd (omega arith)

pub no_kinds : (rows : List TypeRow) (t : TypeId) → scalars rows t ≡ 0 → kinds rows t ≡ []
no_kinds rows t e =
    none_of (kinds rows t)
    (let c = kinds_counted (contents rows t) in let m = length-map (leaves (contents rows t)) (kind_of rows) in omega (arith, c, m, e))

-- kinds of shapes that are put together
module _ (f : TypeId → Kind) where
  abbrev of_shape : Shape TypeId → List Kind
  of_shape s = map f (leaves s)

  kinds_join : (a b : Shape TypeId) → of_shape (join a b) ≡ of_shape a ++ of_shape b
  kinds_join (One k) b = refl
  kinds_join Nothing b = refl
  kinds_join (Pair x y) b =
      map-append f (leaves x) (leaves (join y b)) ∙ ap (λ z. of_shape x ++ z) (kinds_join y b) ∙ sym (append_assoc (of_shape x) (of_shape y) (of_shape b)) ∙ ap (λ z. z ++ of_shape b) (sym (map-append f (leaves x) (leaves y)))

  kinds_repeated : (n : ℕ) (s : Shape TypeId) → of_shape (shape.repeated n s) ≡ again n (of_shape s)
  kinds_repeated zero s = refl
  kinds_repeated (suc n) s = map-append f (leaves s) (leaves (shape.repeated n s)) ∙ ap (λ z. of_shape s ++ z) (kinds_repeated n s)

module _ (rows : List TypeRow) where
  kinds_fields : (ts : List TypeId) → of_shape (kind_of rows) (fields rows ts) ≡ field_kinds rows ts
  kinds_fields [] = refl
  kinds_fields (t ∷ ts) = map-append (kind_of rows) (leaves (variable rows t)) (leaves (fields rows ts)) ∙ ap (λ z. variable_kinds rows t ++ z) (kinds_fields ts)

  kinds_base : (b : Option TypeId) → of_shape (kind_of rows) (of_base (contents rows) b) ≡ base_kinds rows b
  kinds_base None = refl
  kinds_base (Some b) = refl

  kinds_both : (b : Option TypeId) (ts : List TypeId) → of_shape (kind_of rows) (join (of_base (contents rows) b) (fields rows ts)) ≡ base_kinds rows b ++ field_kinds rows ts
  kinds_both b ts =
      kinds_join (kind_of rows) (of_base (contents rows) b) (fields rows ts) ∙ ap (λ z. z ++ of_shape (kind_of rows) (fields rows ts)) (kinds_base b) ∙ ap (λ z. base_kinds rows b ++ z) (kinds_fields ts)

  sum_append : (f : TypeId → ℕ) (xs ys : List TypeId) → sum_of f (xs ++ ys) ≡ sum_of f xs + sum_of f ys
  sum_append f [] ys = omega arith
  sum_append f (x ∷ xs) ys = let h = sum_append f xs ys in omega (arith, h)

  sum_same : (f g : TypeId → ℕ) (xs : List TypeId) → ((t : TypeId) → IsOneOf t xs → f t ≡ g t) → sum_of f xs ≡ sum_of g xs
  sum_same f g [] h = refl
  sum_same f g (x ∷ xs) h = λ i. h x (inl refl) i + sum_same f g xs (λ t o. h t (inr o)) i

  steps_fields : (ts : List TypeId) → field_steps rows ts ≡ 2 * length ts + sum_of (steps rows) (flat_map (held rows) ts)
  steps_fields [] = omega arith
  steps_fields (t ∷ ts) =
      let h = steps_fields ts in
      let a = sum_append (steps rows) (held rows t) (flat_map (held rows) ts) in
      omega (arith, h, a)

  module _ (free : NoneContainsItself rows) where
    abbrev ranks : IsRanked rows
    ranks = ranked rows free

    steps_enough : (n m : ℕ) (t : TypeId) → ranks.rank t < n → ranks.rank t < m → steps_by n rows t ≡ steps_by m rows t
    unfolding steps_by
    steps_enough zero m t a b = absurd (omega arith)
    steps_enough (suc n) zero t a b = absurd (omega arith)
    steps_enough (suc n) (suc m) t a b =
        ap (λ k. 3 + 2 * length (fields_of (row_of rows t)) + k)
        (sum_same (steps_by n rows) (steps_by m rows) (parts_of rows (row_of rows t)) (λ p o. let f = ranks.falls t p o in steps_enough n m p (omega (arith, f, a)) (omega (arith, f, b))))

    -- the steps of a type, by those of its parts
    steps_split : (t : TypeId) → steps rows t ≡ 3 + 2 * length (fields_of (row_of rows t)) + sum_of (steps rows) (parts_of rows (row_of rows t))
    unfolding steps steps_by
    steps_split t = let b = ranks.bound t in steps_enough (levels rows) (suc (levels rows)) t b (omega (arith, b))

    module _ (t : TypeId) where
      pub some_steps : 0 < steps rows t
      some_steps = let s = steps_split t in omega (arith, s)

      kinds_at : (o : Option TypeRow) → row_of rows t ≡ o → kinds rows t ≡ of_shape (kind_of rows) (with_parts (contents rows) rows t o)
      kinds_at o e = ap (of_shape (kind_of rows)) (by_parts rows ranks t ∙ ap (with_parts (contents rows) rows t) e)

      steps_at : (o : Option TypeRow) → row_of rows t ≡ o → steps rows t ≡ 3 + 2 * length (fields_of o) + sum_of (steps rows) (parts_of rows o)
      steps_at o e = steps_split t ∙ ap (λ r. 3 + 2 * length (fields_of r) + sum_of (steps rows) (parts_of rows r)) e

      module _ (n : ℕ) (of : TypeId) (e : row_of rows t ≡ Some (row.Array n of)) where
        pub array_kinds : kinds rows t ≡ again n (variable_kinds rows of)
        array_kinds = kinds_at (Some (row.Array n of)) e ∙ kinds_repeated (kind_of rows) n (variable rows of)

        pub array_steps : 1 + variable_steps rows of < steps rows t
        array_steps = let s = steps_at (Some (row.Array n of)) e in omega (arith, s)

      module _ (b : Option TypeId) (ts : List TypeId) where
        pub record_kinds : row_of rows t ≡ Some (row.Record b ts) → kinds rows t ≡ base_kinds rows b ++ field_kinds rows ts
        record_kinds e = kinds_at (Some (row.Record b ts)) e ∙ kinds_both b ts

        pub object_type_kinds : row_of rows t ≡ Some (row.Object b ts) → kinds rows t ≡ base_kinds rows b ++ field_kinds rows ts
        object_type_kinds e = kinds_at (Some (row.Object b ts)) e ∙ kinds_both b ts

        pub record_steps : row_of rows t ≡ Some (row.Record b ts) → 1 + field_steps rows ts + sum_of (steps rows) (base_list b) < steps rows t
        record_steps e =
            let s = steps_at (Some (row.Record b ts)) e in
            let f = steps_fields ts in
            let a = sum_append (steps rows) (base_list b) (flat_map (held rows) ts) in
            omega (arith, s, f, a)

        pub object_type_steps : row_of rows t ≡ Some (row.Object b ts) → 1 + field_steps rows ts + sum_of (steps rows) (base_list b) < steps rows t
        object_type_steps e =
            let s = steps_at (Some (row.Object b ts)) e in
            let f = steps_fields ts in
            let a = sum_append (steps rows) (base_list b) (flat_map (held rows) ts) in
            omega (arith, s, f, a)
