use Rattle.std.proofs.Common.{sym, ◌∙◌, arith}
use Rattle.aos_typed.specs.Seen.{seen_program}
use Rattle.aos_guard.proofs.Adds.{leads_more, named_all}
use Rattle.aos_guard.proofs.quiet.put_named.Goals as goal

pub loop-owner-preserved : goal.loop-owner-preserved
loop-owner-preserved c =
    leads_more c.args.marks.now (seen_program c.args.dispatch.now) c.args.edges.now.items c.loop-owner.edges.items c.put_owner.new.edges.items
    c.args.slot c.in-Some.named c.args.to c.loop-owner.owner c.in_ok-number.number (omega (arith, c.in_ok-number.ensures)) c.loop-owner.invariant c.in_ok-put_owner.ensures

pub returns : goal.returns
returns c =
    named_all c.args.marks.now (seen_program c.args.dispatch.now) c.args.edges.now.items c.loop-owner.edges.items
    c.args.of c.args.slot c.in-Some.named c.args.to c.loop-owner.owner (sym c.method_of.ensures ∙ c.in-Some.is)
    (omega (arith, c.loop-owner-test.false, c.type_count-owner-end.ensures)) c.loop-owner.invariant
