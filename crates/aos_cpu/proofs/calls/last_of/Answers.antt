use Rattle.std.proofs.Common.{◌≤◌, ◌-◌, length, drop, ap, ◌∙◌, arith, length-drop}
use Rattle.std.proofs.lemmas.List.{take_all}
use Rattle.aos_silent_steps.proofs.Topmost.{last_taken}
use Rattle.aos_cpu.proofs.calls.last_of.Goals as goal

pub returns : goal.returns
returns c =
    let xs = c.args.stack.now in
    let m = c.saturating_sub.result in
    let le : length (drop m xs) ≤ length xs - m = omega (arith, length-drop m xs) in
    take_all (length xs - m) (drop m xs) le ∙ ap (λ k. drop k xs) c.saturating_sub.ensures ∙ last_taken xs c.args.count
