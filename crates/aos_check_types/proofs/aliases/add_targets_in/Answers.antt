-- One more declaration, whose definitions the walk goes over, and none.
use Rattle.std.proofs.Common.{◌+◌, drop}
use Rattle.aos_symbols.specs.Declarations.{types_in, type_defs}
use Rattle.aos_symbols.specs.Judged.{walk}
use Rattle.aos_check_types.specs.Aliases.{with_target}
use Rattle.aos_check_types.proofs.Telling.{led_by, led_end}
use Rattle.aos_check_types.proofs.Targets.{types_step, types_end}
use Rattle.aos_check_types.proofs.aliases.add_targets_in.Goals as goal

pub loop-decl-preserved : goal.loop-decl-preserved
loop-decl-preserved c =
    let l = c.loop-decl in
    let e = c.args.env.now in
    let ts = l.targets.items in
    let ds = c.args.decls.now in
    let i = l.decl-index in
    let d = c.decl-item.result in
    led_by (walk (with_target e) ts (types_in d)) (λ us. walk (with_target e) us (type_defs (drop (i + 1) ds)))
    (walk (with_target e) ts (type_defs (drop i ds))) (walk (with_target e) c.args.targets.now.items (type_defs ds)) l.invariant
    (types_step e ts ds i d c.loop-decl-test.true c.decl-item.is) c.in_ok-add_targets_of.ensures

pub returns : goal.returns
returns c =
    let l = c.loop-decl in
    let e = c.args.env.now in
    let ts = l.targets.items in
    let ds = c.args.decls.now in
    led_end (walk (with_target e) ts (type_defs (drop l.decl-index ds))) (walk (with_target e) c.args.targets.now.items (type_defs ds)) ts l.invariant
    (types_end e ts ds l.decl-index c.loop-decl-test.false)
