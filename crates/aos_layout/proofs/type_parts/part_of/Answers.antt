use Rattle.std.proofs.Common.{◌≡◌, ◌<◌, ◌≤◌, ℕ, Option, Some, None, refl, sym, ◌∙◌, arith}
use Rattle.std.specs.Prelude.{is_some, true}
use Rattle.aos_types.specs.declared.row.TypeId.{TypeId}
use Rattle.aos_types.specs.Shape as shape
use Rattle.aos_types.specs.Shape.{Shape, Nothing, size, part, before}
use Rattle.aos_types.specs.Contents.{contents}
use Rattle.aos_layout.specs.TypeParts.{width}
use Rattle.aos_layout.proofs.Joins.{part_of_row, before_in_row, part_counted, before_within}
use Rattle.aos_layout.proofs.Parts.{size_split}
use Rattle.aos_layout.proofs.type_parts.part_of.Goals as goal

-- what stands in a place where there is something
module _ (s : Shape TypeId) (i : ℕ) (h : is_some (part i s) ≡ true) where
  there : (o : Option (Shape TypeId)) → is_some o ≡ true → (m : Shape TypeId) × (o ≡ Some m)
  there None e = absurd (cc)
  there (Some m) e = (m, refl)

  counted : i < width s
  counted = let m = there (part i s) h in part_counted i s m.0 m.1

  same_part : part i (shape.join s Nothing) ≡ part i s
  same_part = let m = there (part i s) h in part_of_row i s m.0 m.1 ∙ sym m.1

  same_before : before i (shape.join s Nothing) ≡ before i s
  same_before = let m = there (part i s) h in before_in_row i s m.0 m.1

  within : before i s ≤ size s
  within = let m = there (part i s) h in let w = before_within i s m.0 m.1 in omega (arith, w)

pub owner-own-requires-clause-there : goal.owner-own-requires-clause-there
owner-own-requires-clause-there c = counted (contents c.args.types.now c.args.t) c.args.number c.requires.there

pub front_scalars-front-requires-clause-sizes : goal.front_scalars-front-requires-clause-sizes
front_scalars-front-requires-clause-sizes c =
    let z = size_split c.args.types.now c.requires.none_contains_itself c.owner-own.result.by in
    let o = c.owner-own.ensures.sizes in
    let s = c.requires.sizes in
    omega (arith, z, o, s)

pub own_part-part-requires-clause-sizes : goal.own_part-part-requires-clause-sizes
own_part-part-requires-clause-sizes c =
    let z = size_split c.args.types.now c.requires.none_contains_itself c.owner-own.result.by in
    let o = c.owner-own.ensures.sizes in
    let s = c.requires.sizes in
    omega (arith, z, o, s)

pub overflow_add-result : goal.overflow_add-result
overflow_add-result c =
    let b = same_before (contents c.args.types.now c.args.t) c.args.number c.requires.there in
    let w = within (contents c.args.types.now c.args.t) c.args.number c.requires.there in
    let o = c.owner-own.ensures.before in
    let f = c.front_scalars-front.ensures in
    let p = c.own_part-part.ensures.before in
    let s = c.requires.sizes in
    omega (arith, b, w, o, f, p, s)

pub returns-clause-before : goal.returns-clause-before
returns-clause-before c =
    let b = same_before (contents c.args.types.now c.args.t) c.args.number c.requires.there in
    let o = c.owner-own.ensures.before in
    let f = c.front_scalars-front.ensures in
    let p = c.own_part-part.ensures.before in
    omega (arith, b, o, f, p)

pub returns-clause-of : goal.returns-clause-of
returns-clause-of c =
    sym (same_part (contents c.args.types.now c.args.t) c.args.number c.requires.there) ∙ c.owner-own.ensures.part ∙ c.own_part-part.ensures.of
