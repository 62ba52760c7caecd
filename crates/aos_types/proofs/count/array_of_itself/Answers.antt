use Rattle.std.proofs.Common.{[], refl}
use Rattle.aos_types.proofs.count.array_of_itself.Goals as goal

pub returns-then-is_array_of_itself : goal.returns-then-is_array_of_itself
returns-then-is_array_of_itself c =
    λ free. free _ (record { between = []; chain = (c.if-is_array_of_itself.ensures refl, tt) })
