-- One definition more, and none.
use Rattle.std.proofs.Common.{[], ◌∷◌, ◌++◌, refl}
use Rattle.aos_symbols.specs.Judged.{kept, walk}
use Rattle.aos_check_types.specs.Aliases.{led_by, with_target}
use Rattle.aos_check_types.proofs.Telling.{then_told, walk_on, walk_done}
use Rattle.aos_check_types.proofs.aliases.add_targets.Goals as goal

pub loop-def-preserved : goal.loop-def-preserved
loop-def-preserved c =
    let l = c.loop-def in
    let e = c.args.env.now in
    let ds = c.args.defs.now in
    let d = c.def-item.result in
    walk_on (with_target e) l.targets.items ds l.def-index d (walk (with_target e) c.args.targets.now.items ds) l.invariant c.loop-def-test.true c.def-item.is
    (then_told (led_by e d.value) (λ t. kept (l.targets.items ++ t ∷ [])) c.leads_to.ensures (record { noted = refl; is = c.in_ok-push.ensures.items }))

pub returns : goal.returns
returns c =
    let l = c.loop-def in
    let e = c.args.env.now in
    let ds = c.args.defs.now in
    walk_done (with_target e) l.targets.items ds l.def-index (walk (with_target e) c.args.targets.now.items ds) l.invariant c.loop-def-test.false
