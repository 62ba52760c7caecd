use Rattle.std.proofs.Common.{OnOk, IsTrue, sym, subst}
use Rattle.aos_typed.specs.Seen.{seen_program}
use Rattle.aos_uses.specs.Guarded.{Keeps}
use Rattle.aos_guard.proofs.Adds.{Adds}
use Rattle.aos_guard.proofs.quiet.put_use.Goals as goal

pub returns-in-Raises : goal.returns-in-Raises
returns-in-Raises c =
    let p = seen_program c.args.dispatch.now in
    subst (λ u. OnOk c.put_raised.result (Adds c.args.marks.now c.args.edges.now.items c.put_raised.new.edges.items (λ set. Keeps p (λ n. IsTrue (set n)) c.args.text u)))
    (sym c.in-Raises.is) c.put_raised.ensures

pub returns-in-Finds : goal.returns-in-Finds
returns-in-Finds c =
    let p = seen_program c.args.dispatch.now in
    subst (λ u. OnOk c.put_found.result (Adds c.args.marks.now c.args.edges.now.items c.put_found.new.edges.items (λ set. Keeps p (λ n. IsTrue (set n)) c.args.text u)))
    (sym c.in-Finds.is) c.put_found.ensures
