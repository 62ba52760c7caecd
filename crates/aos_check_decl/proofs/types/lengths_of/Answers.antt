-- One length more, and none.
use Rattle.std.proofs.Common.{Some, [], refl}
use Rattle.aos_symbols.specs.Judged.{kept, walk}
use Rattle.aos_check_decl.specs.Types as judge
use Rattle.aos_check_types.proofs.Telling.{then_told, walk_on, walk_done}
use Rattle.aos_check_decl.proofs.types.lengths_of.Goals as goal

pub loop-part-preserved : goal.loop-part-preserved
loop-part-preserved c =
    let l = c.loop-part in
    let e = c.args.env.now in
    walk_on (judge.with_length e) l.lengths c.args.parts.now l.part-index c.part-item.result (walk (judge.with_length e) (Some []) c.args.parts.now)
    l.invariant c.loop-part-test.true c.part-item.is
    (then_told (judge.length_of e c.part-item.result) (λ n. kept (judge.one_more l.lengths n)) c.in_ok-length.ensures (record { noted = refl; is = c.in_ok-lengths.ensures }))

pub returns : goal.returns
returns c =
    let l = c.loop-part in
    let e = c.args.env.now in
    walk_done (judge.with_length e) l.lengths c.args.parts.now l.part-index (walk (judge.with_length e) (Some []) c.args.parts.now) l.invariant c.loop-part-test.false
