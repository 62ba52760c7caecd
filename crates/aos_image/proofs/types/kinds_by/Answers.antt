use Rattle.aos_image.proofs.Described.{kinds_there}
use Rattle.aos_image.proofs.types.kinds_by.Goals as goal

pub object_kinds-requires-clause-kinds : goal.object_kinds-requires-clause-kinds
object_kinds-requires-clause-kinds c =
    let one = c.in-Some-described in
    kinds_there c.args.types.now c.args.before.now c.args.number c.in-Some.base one.one.now c.as_slice.result.now c.requires.before
    one.ensures.behind one.ensures.there c.as_slice.ensures.value
