-- The cells of a procedure's parameters and locals are found by their numbers.
use Rattle.std.proofs.Common.{◌≡◌, ℕ, List, Option, Some, None, refl, ◌∙◌}
use Rattle.std.specs.Prelude.{slice_get}
use Rattle.std.specs.Option.{unwrap_or}
use Rattle.aos_typed.specs.Program.{Procedure, Program}
use Rattle.aos_layout.specs.Frame.{frame_parts}
use Rattle.aos_layout.proofs.Blocks.{first_of_part}
use Rattle.aos_sim.specs.Code.{own_cell}
use Rattle.aos_emit_expr.specs.Scope.{AreOwn, first_own, all_own}

-- the first cell of a parameter or a local of the procedure
pub own_is : (p : Program) (own : Option Procedure) (places : List ℕ) (cells k : ℕ) → AreOwn p.types own places cells → unwrap_or (slice_get places k) cells ≡ own_cell p own k
own_is p own places cells k are = (λ i. unwrap_or (slice_get (are.first i) k) (are.all i)) ∙ at_own own
  where
    at_own : (o : Option Procedure) → unwrap_or (slice_get (first_own p.types o) k) (all_own p.types o) ≡ own_cell p o k
    at_own None = refl
    at_own (Some q) = first_of_part (frame_parts p.types q) (frame_parts p.types q) k refl
