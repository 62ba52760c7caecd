use Rattle.std.proofs.Common.{◌≡◌, sym, subst}
use Rattle.std.specs.Prelude.{IfOk}
use Rattle.aos_typed.specs.Seen.{seen_procedure, seen_program}
use Rattle.aos_typed.specs.WellTyped.{IsProcedure}
use Rattle.aos_layout.specs.Frame.{frame_shape}
use Rattle.aos_layout.specs.Seen.{seen_frame}
use Rattle.aos_program_layout.proofs.Found.{procedure_there}
use Rattle.aos_program_layout.proofs.laid.Laid.frame.Goals as goal

pub frame_shape-requires-clause-typed : goal.frame_shape-requires-clause-typed
frame_shape-requires-clause-typed c =
    let q = seen_procedure c.args.procedure.now in
    procedure_there (seen_program c.self.inside.program.now) q (subst (λ p. IsProcedure (seen_program p) q) (sym c.self.view_is) c.requires.typed)

pub returns : goal.returns
returns c =
    let q = seen_procedure c.args.procedure.now in
    subst (λ p. IfOk c.frame_shape.result (λ f. seen_frame f ≡ frame_shape (seen_program p).types 0 c.args.home c.args.keeps q)) c.self.view_is c.frame_shape.ensures
