use Rattle.std.proofs.Common.{◌≡◌, ap, ◌∙◌, arith}
use Rattle.std.proofs.lemmas.List.{length-map}
use Rattle.aos_typed.specs.Numbers.{body_number}
use Rattle.aos_typed.specs.Seen.{seen_module, seen_program}
use Rattle.aos_dispatch.proofs.dispatch.Dispatch.body.Goals as goal

pub returns : goal.returns
returns c =
    let p = c.self.inside.program.now in
    let is : c.in_ok-all.all ≡ body_number (seen_program p) c.args.of =
    omega (arith, c.in_ok-all.ensures, c.in_ok-behind.ensures, c.len.ensures, length-map p.modules.items seen_module) in
    is ∙ ap (λ q. body_number (seen_program q) c.args.of) c.self.view_is
