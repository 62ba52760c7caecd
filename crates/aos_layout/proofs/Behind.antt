-- The kinds of a type's cells, when all that was begun for them is done.
use Rattle.std.proofs.Common.{◌≡◌, List, [], ◌∷◌, ◌++◌, Option, Some, None, refl, sym, ap, ◌∙◌}
use Rattle.std.specs.Prelude.{true, false, if◌then◌else◌, ◌||◌}
use Rattle.std.specs.List.{list_any}
use Rattle.aos_types.specs.declared.row.TypeId.{TypeId}
use Rattle.aos_types.specs.declared.row.TypeRow.{TypeRow}
use Rattle.aos_types.specs.declared.row.TypeRow.TheVariants as row
use Rattle.aos_types.specs.Chain.{NoneContainsItself}
use Rattle.aos_types.specs.Table.{row_of, base_of, is_object, is_open}
use Rattle.aos_code.specs.declared.instr.Kind.{Kind}
use Rattle.aos_layout.specs.declared.work.Task.TheVariants.{Contents, Fields}
use Rattle.aos_layout.specs.declared.work.Work.{Work}
use Rattle.aos_layout.specs.Layout.{kinds, leads_to, made_kinds, type_kinds}
use Rattle.aos_layout.specs.Work.{all_done, base_kinds, field_kinds, fields_of, outcome}
use Rattle.aos_layout.proofs.Frames.{other_type_kinds}
use Rattle.aos_layout.proofs.Outcomes.{object_type_kinds}

-- a type that is all that is to be done
pub kinds_begun : (rows : List TypeRow) (t : TypeId) (w : Work) (all : List Kind) → w.kinds.items ≡ [] → w.tasks.items ≡ Contents t ∷ [] →
    all ≡ outcome rows w → all ≡ kinds rows t
kinds_begun rows t w all none one done = done ∙ (λ i. all_done rows (one i) (none i))

closed : (o : Option TypeRow) → is_object o ≡ true → is_open o ≡ false
closed None e = absurd (cc)
closed (Some (row.Basic b)) e = absurd (cc)
closed (Some (row.Array n of)) e = absurd (cc)
closed (Some (row.Open of)) e = absurd (cc)
closed (Some (row.Record b ts)) e = absurd (cc)
closed (Some (row.Pointer to)) e = absurd (cc)
closed (Some (row.Object b ts)) e = refl
closed (Some (row.Procedure fs r)) e = absurd (cc)
closed (Some row.Any) e = absurd (cc)

module _ (rows : List TypeRow) (t : TypeId) (object : is_object (row_of rows t) ≡ true) where
  -- objects of each object type may be made
  object_made : made_kinds rows t ≡ kinds rows t
  object_made =
      ap (λ b. if b || list_any (leads_to rows t) rows then type_kinds rows t else []) object
      ∙ other_type_kinds rows t (closed (row_of rows t) object)

  parted : NoneContainsItself rows → base_kinds rows (base_of (row_of rows t)) ++ field_kinds rows (fields_of (row_of rows t)) ≡ kinds rows t
  parted free = at (row_of rows t) refl object
    where
      at : (o : Option TypeRow) → row_of rows t ≡ o → is_object o ≡ true → base_kinds rows (base_of o) ++ field_kinds rows (fields_of o) ≡ kinds rows t
      at None is e = absurd (cc)
      at (Some (row.Basic b)) is e = absurd (cc)
      at (Some (row.Array n of)) is e = absurd (cc)
      at (Some (row.Open of)) is e = absurd (cc)
      at (Some (row.Record b ts)) is e = absurd (cc)
      at (Some (row.Pointer to)) is e = absurd (cc)
      at (Some (row.Object b ts)) is e = sym (object_type_kinds rows free t b ts is)
      at (Some (row.Procedure fs r)) is e = absurd (cc)
      at (Some row.Any) is e = absurd (cc)

-- the own fields of an object type, behind the kinds of its base
pub kinds_after : (rows : List TypeRow) (t b : TypeId) (w : Work) (above all : List Kind) → NoneContainsItself rows →
    is_object (row_of rows t) ≡ true → base_of (row_of rows t) ≡ Some b → is_object (row_of rows b) ≡ true → above ≡ made_kinds rows b →
    w.kinds.items ≡ above → w.tasks.items ≡ Fields t 0 ∷ [] → all ≡ outcome rows w → all ≡ made_kinds rows t
kinds_after rows t b w above all free object base over given copied one done =
    let front : above ≡ base_kinds rows (base_of (row_of rows t)) =
    given ∙ object_made rows b over ∙ sym (ap (base_kinds rows) base) in
    done ∙ (λ i. all_done rows (one i) (copied i))
    ∙ ap (λ ks. ks ++ field_kinds rows (fields_of (row_of rows t))) front
    ∙ parted rows t object free ∙ sym (object_made rows t object)
