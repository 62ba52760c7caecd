-- The arms of IF before others.
use Rattle.std.specs.Prelude.{List, [], ◌∷◌}
use Rattle.aos_typed.specs.declared.tree.TArm.{TArm, out-TArm}
use Rattle.aos_typed.specs.Program.{Arms, Arm}
use Rattle.aos_typed.specs.Seen.{seen_expr, seen_stats}

abbrev pub onto : List TArm → Arms → Arms
onto [] others = others
onto (a ∷ more) others = let x = out-TArm a in Arm (seen_expr x.test) (seen_stats x.body.items) (onto more others)
