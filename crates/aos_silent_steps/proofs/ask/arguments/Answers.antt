use Rattle.std.proofs.Common.{◌≡◌, ◌+◌, ◌-◌, ◌<◌, get_or, length, reverse, take, drop, sym, ap, ◌∙◌, arith}
use Rattle.std.specs.Prelude.{Some, slice_get}
use Rattle.std.proofs.lemmas.Option.{slice_get-get_or}
use Rattle.aos_code.specs.declared.image.ParamKind.TheVariants.{Scalar}
use Rattle.aos_code.specs.declared.instr.Kind.TheVariants.{N}
use Rattle.aos_code.specs.Silent.{kinds_of}
use Rattle.aos_silent_steps.specs.Acts.{or_lost}
use Rattle.aos_silent_steps.specs.Taken.{kinds_from}
use Rattle.aos_silent_steps.proofs.Arguments.{params_more}
use Rattle.aos_silent_steps.proofs.ask.arguments.Goals as goal

pub returns-in_err-depth : goal.returns-in_err-depth
returns-in_err-depth c k =
    let s = reverse c.args.stack.now in
    let ps = c.args.params.now in
    let n = c.loop-left.left - 1 in
    let lt : n < length ps = omega arith in
    let more : c.loop-left.left ≡ n + 1 = omega arith in
    let p = get_or ps n (Scalar N) in
    let here : slice_get ps n ≡ Some p = slice_get-get_or ps n (Scalar N) lt in
    let rest = reverse (kinds_of (take n ps)) in
    c.loop-left.invariant.rest k ∙ ap (λ m. kinds_from (reverse (kinds_of (take m ps))) c.loop-left.depth k s) more
    ∙ ap (λ ks. kinds_from ks c.loop-left.depth k s) (params_more ps n p here)
    ∙ c.past_param.ensures rest k
    ∙ ap (λ r. or_lost r (λ d. kinds_from rest d k s)) c.in_err-depth.was
    ∙ ap (λ r. or_lost r (λ d. k (reverse (take d s)) (drop d s))) (sym c.from_residual.ensures)

pub loop-left-preserved : goal.loop-left-preserved
loop-left-preserved c =
    let s = reverse c.args.stack.now in
    let ps = c.args.params.now in
    let n = c.loop-left.left - 1 in
    let lt : n < length ps = omega arith in
    let more : c.loop-left.left ≡ n + 1 = omega arith in
    let p = get_or ps n (Scalar N) in
    let here : slice_get ps n ≡ Some p = slice_get-get_or ps n (Scalar N) lt in
    let rest = reverse (kinds_of (take n ps)) in
    record {
      left = omega arith;
      rest = λ k. c.loop-left.invariant.rest k ∙ ap (λ m. kinds_from (reverse (kinds_of (take m ps))) c.loop-left.depth k s) more
          ∙ ap (λ ks. kinds_from ks c.loop-left.depth k s) (params_more ps n p here)
          ∙ c.past_param.ensures rest k
          ∙ ap (λ r. or_lost r (λ d. kinds_from rest d k s)) c.in_ok-depth.was;
    }
