use Rattle.std.proofs.Common.{◌≡◌, length, ap, ◌∙◌, arith}
use Rattle.std.proofs.lemmas.List.{length-map}
use Rattle.aos_typed.specs.Seen.{seen_object, seen_program}
use Rattle.aos_dispatch.proofs.dispatch.Dispatch.type_count.Goals as goal

pub returns : goal.returns
returns c =
    let p = c.self.inside.program.now in
    let is : c.len.result ≡ length (seen_program p).objects = omega (arith, c.len.ensures, length-map p.objects.items seen_object) in
    is ∙ ap (λ q. length (seen_program q).objects) c.self.view_is
