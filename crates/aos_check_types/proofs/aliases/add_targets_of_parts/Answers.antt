-- One more part, in its scope, and none.
use Rattle.std.proofs.Common.{drop, refl, ◌∙◌}
use Rattle.aos_symbols.specs.Declarations.{seen_parts}
use Rattle.aos_check_types.specs.Aliases.{inner_targets}
use Rattle.aos_check_types.proofs.Telling.{led_end}
use Rattle.aos_check_types.proofs.Targets.{part_on, parts_end}
use Rattle.aos_check_types.proofs.aliases.add_targets_of_parts.Goals as goal

pub loop-part-init : goal.loop-part-init
loop-part-init c = record { told = record { noted = refl; answer = refl }; env = refl }

pub loop-part-preserved : goal.loop-part-preserved
loop-part-preserved c =
    let l = c.loop-part in
    let ps = c.args.parts.now in
    let more = c.in_ok-add_targets_within.ensures in
    record {
      told = part_on c.args.env.now l.scope c.in_ok-scope.scope l.targets.items ps l.part-index c.part-item.result
          (inner_targets c.args.env.now 1 c.args.targets.now.items (seen_parts ps)) l.invariant.told c.loop-part-test.true c.part-item.is
          c.in_ok-scope.ensures l.invariant.env refl more.told;
      env = more.env ∙ l.invariant.env;
    }

pub returns : goal.returns
returns c =
    let l = c.loop-part in
    let e = c.args.env.now in
    let ps = c.args.parts.now in
    record {
      told = led_end (inner_targets e l.scope l.targets.items (seen_parts (drop l.part-index ps)))
          (inner_targets e 1 c.args.targets.now.items (seen_parts ps)) l.targets.items l.invariant.told
          (parts_end e l.scope l.targets.items ps l.part-index c.loop-part-test.false);
      env = l.invariant.env;
    }
