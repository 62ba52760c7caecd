-- One part more, and none.
use Rattle.aos_symbols.specs.Judged.{walk}
use Rattle.aos_check_decl.specs.Headings as judge
use Rattle.aos_check_types.proofs.Telling.{walk_on, walk_done}
use Rattle.aos_check_decl.proofs.declarations.declare_types.Goals as goal

pub loop-decl-preserved : goal.loop-decl-preserved
loop-decl-preserved c =
    walk_on judge.inner_declared c.loop-decl.env c.args.decls.now c.loop-decl.decl-index c.decl-item.result (walk judge.inner_declared c.args.env.now c.args.decls.now)
    c.loop-decl.invariant c.loop-decl-test.true c.decl-item.is c.in_ok-declare_inner.ensures

pub returns : goal.returns
returns c =
    walk_done judge.inner_declared c.loop-decl.env c.args.decls.now c.loop-decl.decl-index (walk judge.inner_declared c.args.env.now c.args.decls.now)
    c.loop-decl.invariant c.loop-decl-test.false
