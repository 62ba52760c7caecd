use Rattle.std.proofs.Common.{◌∙◌, sym}
use Rattle.aos_members.proofs.Chains.{found_here}
use Rattle.aos_members.proofs.members.method_with.Goals as goal

pub returns-in-Some : goal.returns-in-Some
returns-in-Some c =
    let l = c.loop-left in
    found_here c.args.env.now c.args.word.now l.at l.left c.in-Some.method _ (sym c.in_ok-method.ensures ∙ c.in-Some.is) l.invariant
