use Rattle.std.proofs.Common.{◌++◌, ap, ◌∙◌, arith}
use Rattle.aos_typed.specs.Program.{Variable}
use Rattle.aos_typed.specs.Seen.{seen_variable}
use Rattle.aos_typed.specs.Numbers.{id_of}
use Rattle.aos_layout.specs.Layout.{leaves, cells}
use Rattle.aos_layout.specs.Frame.{IsThere}
use Rattle.aos_layout.proofs.Frames.{kinds_step, places_step, there_at}
use Rattle.aos_layout.proofs.cells.Cells.put_locals.Goals as goal

pub id_of-requires : goal.id_of-requires
id_of-requires c =
    let t = there_at (λ v. IsThere c.args.types.now v.of) seen_variable c.args.locals.now c.loop-local.local-index c.local-item.result c.loop-local-test.true c.requires.there c.local-item.is in
    let f = c.requires.few in
    omega (arith, t, f)

pub loop-local-preserved : goal.loop-local-preserved
loop-local-preserved c =
    let rows = c.args.types.now in
    let f = λ (v : Variable). cells rows (id_of v.of) in
    let xs = c.args.locals.now in
    let i = c.loop-local.local-index in
    let x = c.local-item.result in
    let l = c.loop-local-test.true in
    let was = c.loop-local.self in
    let begun = c.in_ok-begin_part.ensures in
    let kept = ap (λ v. v.items) begun.kinds in
    let pushed = c.in_ok-push_variable.ensures ∙ ap (λ t. c.begin_part.new.self.kinds.items ++ leaves (cells rows t)) c.id_of.ensures ∙ ap (λ z. z ++ leaves (f (seen_variable x))) kept ∙ ap (λ v. was.kinds.items ++ leaves (f (seen_variable v))) c.local-item.is in
    record {
      kinds = kinds_step f seen_variable xs i x l c.args.self.now.kinds.items was.kinds.items c.loop-local.invariant.kinds c.push_variable.new.kinds.items pushed;
      places = places_step f seen_variable xs i x l c.args.self.now.kinds.items was.kinds.items c.loop-local.invariant.kinds c.args.self.now.places.items was.places.items c.begin_part.new.self.places.items c.loop-local.invariant.places begun.places;
    }
