use Rattle.std.proofs.Common.{◌≡◌, map, sym, ap, ◌∙◌, subst}
use Rattle.std.specs.Prelude.{IfOk, reverse}
use Rattle.aos_code.specs.Silent.{kinds_of}
use Rattle.aos_layout.specs.Frame.{parameter_kind}
use Rattle.aos_typed.specs.Routines.{parameters_at, routines}
use Rattle.aos_typed.specs.Seen.{seen_program}
use Rattle.aos_program_layout.specs.Parameters.{AreHandedThere, handed_by}
use Rattle.aos_program_layout.proofs.laid.Laid.taken.Goals as goal

pub taken_by-requires-clause-there : goal.taken_by-requires-clause-there
taken_by-requires-clause-there c =
    let all = c.routines.ensures ∙ ap (λ p. routines (seen_program p)) c.self.invariant.same in
    subst (AreHandedThere (seen_program c.self.inside.program.now).types) (sym all) c.self.invariant.handed

pub returns : goal.returns
returns c =
    let q = c.self.inside.program.now in
    let n = c.args.number in
    let all = ap (λ rs. handed_by rs n) (c.routines.ensures ∙ ap (λ p. routines (seen_program p)) c.self.invariant.same) in
    let here = subst (λ ps. IfOk c.taken_by.result (λ ks. ks.items ≡ reverse (kinds_of (map (parameter_kind (seen_program q).types) ps)))) all c.taken_by.ensures in
    subst (λ p. IfOk c.taken_by.result (λ ks. ks.items ≡ reverse (kinds_of (map (parameter_kind (seen_program p).types) (parameters_at (seen_program p) n))))) c.self.view_is here
