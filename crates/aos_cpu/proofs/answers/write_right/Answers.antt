use Rattle.std.proofs.Common.{◌≡◌, ◌+◌, ◌-◌, ◌≤◌, ◌++◌, ◌∷◌, [], length, take, replicate, sym, ap, ◌∙◌, arith, append_assoc, w64}
use Rattle.std.proofs.lemmas.List.{replicate-append-replicate, take_all}
use Rattle.std.specs.Fmt.{signed_decimal}
use Rattle.std.proofs.Math.Facts.{to_z-of_z}
use Rattle.aos_cpu.proofs.answers.write_right.Goals as goal

pub loop-preserved : goal.loop-preserved
loop-preserved c =
    let old = c.args.output.now.items in
    let n = length c.as_bytes-digits.result.now in
    let k = c.loop.counter - n in
    let e : c.loop.counter + 1 - n ≡ k + 1 = omega arith in
    record {
      blanks = c.push_reserved.ensures.items ∙ ap (λ x. x ++ 32 ∷ []) c.loop.invariant.blanks ∙ append_assoc old (replicate k 32) (32 ∷ [])
          ∙ ap (λ x. old ++ x) (replicate-append-replicate k 1 32 ∙ ap (λ m. replicate m 32) (sym e));
      few = omega arith;
      len = omega arith;
      capacity = c.push_reserved.ensures.capacity ∙ c.loop.invariant.capacity;
    }

pub push_reserved-requires-in-loop-digit : goal.push_reserved-requires-in-loop-digit
push_reserved-requires-in-loop-digit c =
    let short : length c.as_bytes-digits.result.now ≤ 40 = omega (arith, c.format.ensures.short, c.as_bytes-digits.ensures.len) in
    omega arith

pub returns : goal.returns
returns c =
    let old = c.args.output.now.items in
    let digits = c.as_bytes-digits.result.now in
    let n = length digits in
    let k : c.loop.counter - n ≡ c.args.places - n = omega arith in
    let all : length digits ≤ c.loop-digit.digit-index = omega arith in
    c.loop-digit.invariant.digits ∙ ap (λ x. x ++ take c.loop-digit.digit-index digits) c.loop.invariant.blanks ∙ ap (λ x. (old ++ replicate (c.loop.counter - n) 32) ++ x) (take_all c.loop-digit.digit-index digits all)
    ∙ append_assoc old (replicate (c.loop.counter - n) 32) digits ∙ ap (λ m. old ++ (replicate m 32 ++ digits)) k
    ∙ ap (λ d. old ++ (replicate (c.args.places - length d) 32 ++ d)) (c.as_bytes-digits.ensures.value ∙ c.format.ensures.text ∙ ap signed_decimal (to_z-of_z {w = w64} {z = c.args.number} c.ranges.number))
