-- The fields of a record or an object, its base's first, are its parts.
use Rattle.std.proofs.Common.{◌≡◌, ℕ, zero, suc, ◌<◌, List, [], ◌∷◌, Option, Some, true, refl, sym, ap, ◌∙◌, arith}
use Rattle.std.specs.Prelude.{is_some, map}
use Rattle.aos_types.specs.declared.row.TypeId.{TypeId}
use Rattle.aos_types.specs.declared.row.TypeRow.{TypeRow}
use Rattle.aos_types.specs.declared.row.TypeRow.TheVariants as row
use Rattle.aos_types.specs.Table.{row_of}
use Rattle.aos_types.specs.Shape.{Shape, One, Nothing, Pair, join, inside}
use Rattle.aos_types.specs.Contents.{contents, with_parts, of_base}
use Rattle.aos_types.specs.Chain.{NoneContainsItself}
use Rattle.aos_types.proofs.Ranks.{ranked}
use Rattle.aos_types.proofs.Tables.{by_parts}
use Rattle.aos_layout.specs.TypeParts.{width, variable, fields}
use Rattle.aos_layout.proofs.Joins.{join_assoc, row_ends}

-- each number below that of the parts leads to one
part_there : {S : Type 0} (i : ℕ) (s : Shape S) → i < width s → is_some (inside (i ∷ []) (join s Nothing)) ≡ true
part_there zero (One k) lt = refl
part_there (suc i) (One k) lt = absurd (omega arith)
part_there i Nothing lt = absurd (omega arith)
part_there zero (Pair a b) lt = refl
part_there (suc i) (Pair a b) lt = part_there i b (omega arith)

module _ (rows : List TypeRow) (free : NoneContainsItself rows) (t : TypeId) (k : ℕ) (lt : k < width (contents rows t)) where
  part_of_join : (base : Option TypeId) (own : List TypeId) → contents rows t ≡ join (of_base (contents rows) base) (fields rows own) → is_some (inside (k ∷ []) (contents rows t)) ≡ true
  part_of_join base own is =
      let front = of_base (contents rows) base in
      let whole : join (contents rows t) Nothing ≡ contents rows t = ap (λ s. join s Nothing) is ∙ join_assoc front (fields rows own) Nothing ∙ ap (join front) (row_ends (map (variable rows) own)) ∙ sym is in
      ap (λ s. is_some (inside (k ∷ []) s)) (sym whole) ∙ part_there k (contents rows t) lt

  -- each field of a record and of an object is there
  pub record_field : (base : Option TypeId) (own : List TypeId) → row_of rows t ≡ Some (row.Record base own) → is_some (inside (k ∷ []) (contents rows t)) ≡ true
  record_field base own e = part_of_join base own (by_parts rows (ranked rows free) t ∙ ap (with_parts (contents rows) rows t) e)

  pub object_field : (base : Option TypeId) (own : List TypeId) → row_of rows t ≡ Some (row.Object base own) → is_some (inside (k ∷ []) (contents rows t)) ≡ true
  object_field base own e = part_of_join base own (by_parts rows (ranked rows free) t ∙ ap (with_parts (contents rows) rows t) e)
