use Rattle.std.proofs.Common.{sym, ◌∙◌}
use Rattle.std.proofs.lemmas.Result.{on_ok_weaker}
use Rattle.aos_typed.specs.Seen.{seen_program}
use Rattle.aos_guard.proofs.Adds.{owner_put}
use Rattle.aos_guard.proofs.quiet.put_owner.Goals as goal

pub returns-then-branch : goal.returns-then-branch
returns-then-branch c =
    let at = sym c.method_of.ensures ∙ c.in-Some.is in
    on_ok_weaker c.put_edge.result (owner_put c.args.marks.now (seen_program c.args.dispatch.now) c.args.edges.now.items c.put_edge.new.edges.items
    c.args.owner c.args.slot c.args.named c.args.to c.in-Some.method c.in_ok-has_below.field-0 at c.if-branch.true c.in_ok-has_below.ensures) c.put_edge.ensures
