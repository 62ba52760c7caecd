use Rattle.std.proofs.Common.{◌≡◌, [], length, refl}
use Rattle.std.specs.Prelude.{Bool, true, false}
use Rattle.aos_types.specs.Chain.{NoneContainsItself}
use Rattle.aos_types.specs.Count.{AreSettled}
use Rattle.aos_types.proofs.Appended.{last_settled}
use Rattle.aos_types.proofs.count.count_last.Goals as goal

pub returns-then-is_array_of_itself-clause-settled : goal.returns-then-is_array_of_itself-clause-settled
returns-then-is_array_of_itself-clause-settled c =
    λ free. absurd (free _ (record { between = []; chain = (c.if-is_array_of_itself.ensures refl, tt) }))

pub returns-then-is_array_of_itself-2-clause-settled : goal.returns-then-is_array_of_itself-2-clause-settled
returns-then-is_array_of_itself-2-clause-settled c =
    λ free. absurd (free _ (record { between = []; chain = (c.if-is_array_of_itself-2.ensures refl, tt) }))

pub returns-clause-settled : goal.returns-clause-settled
returns-clause-settled c = λ free. at_result c.count_from-is_made.result refl free
  where
    at_result : (b : Bool) → c.count_from-is_made.result ≡ b → NoneContainsItself c.args.rows.now → AreSettled c.args.rows.now c.count_from-is_made.new.counts (length c.args.rows.now)
    at_result true e free =
        last_settled c.args.rows.now c.args.counts.now c.count_from-is_made.new.counts c.requires.some c.requires.long (c.requires.before c.if-not-is_new.false free) c.count_from-is_made.ensures.made c.count_from-is_made.ensures.kept (c.count_from-is_made.ensures.own e)
    at_result false e free = absurd (c.count_from-is_made.ensures.otherwise e free)
