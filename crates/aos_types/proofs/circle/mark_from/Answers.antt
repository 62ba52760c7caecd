use Rattle.aos_types.proofs.Marking.{in_range, one_marked, one_more, next_circle}
use Rattle.aos_types.proofs.circle.mark_from.Goals as goal

pub mark-requires : goal.mark-requires
mark-requires c = in_range c.args.rows.now c.args.flags.now.items c.args.t c.requires.sound c.requires.own

pub loop-init : goal.loop-init
loop-init c = (
  one_marked c.args.rows.now c.args.flags.now.items c.mark.new.flags.items c.args.t c.requires.sound c.requires.own c.mark.ensures,
  c.requires.own,
)

pub mark-requires-in-loop : goal.mark-requires-in-loop
mark-requires-in-loop c =
    let l = c.loop in
    in_range c.args.rows.now l.flags.items c.in-Some.next l.invariant.0.sound (next_circle c.args.rows.now l.at c.in-Some.next l.invariant.1 (c.next_unmarked.ensures c.in-Some.next c.in-Some.is))

pub loop-preserved : goal.loop-preserved
loop-preserved c =
    let l = c.loop in
    let way = next_circle c.args.rows.now l.at c.in-Some.next l.invariant.1 (c.next_unmarked.ensures c.in-Some.next c.in-Some.is) in (
      one_more c.args.rows.now c.args.flags.now.items l.flags.items c.mark-in-loop.new.flags.items c.args.t c.in-Some.next l.invariant.0
          (one_marked c.args.rows.now l.flags.items c.mark-in-loop.new.flags.items c.in-Some.next l.invariant.0.sound way c.mark-in-loop.ensures),
      way,
    )
