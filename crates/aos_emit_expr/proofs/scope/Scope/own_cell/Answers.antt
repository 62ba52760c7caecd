use Rattle.std.proofs.Common.{ap, ◌∙◌}
use Rattle.std.specs.Prelude.{option_map}
use Rattle.aos_sim.specs.Code.{own_cell}
use Rattle.aos_emit_expr.specs.Scope.{Inside, program_of, own_of}
use Rattle.aos_emit_expr.proofs.Owned.{own_is}
use Rattle.aos_emit_expr.proofs.scope.Scope.own_cell.Goals as goal

pub returns : goal.returns
returns c =
    let s : Inside = record { program = c.self.inside.program.now; own = option_map (λ q. q.now) c.self.inside.own; within = c.self.inside.within } in
    c.cell_at.ensures
    ∙ own_is (program_of s) (own_of s) c.self.inside.places.now c.self.inside.cells c.args.number c.self.invariant
    ∙ ap (λ (s : Inside). own_cell (program_of s) (own_of s) c.args.number) c.self.view_is
