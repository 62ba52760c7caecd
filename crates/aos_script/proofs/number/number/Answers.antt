use Rattle.std.proofs.Common.{◌≡◌, ◌+◌, ◌*◌, ◌<◌, ℕ, min, get_or, length, arith, ap, ◌∙◌, sym}
use Rattle.std.specs.Char.{digit_value}
use Rattle.std.proofs.lemmas.Int.Digits.{digits_more, digits_value_more}
use Rattle.std.proofs.lemmas.Str.{digit_value_digit}
use Rattle.std.proofs.lemmas.Str.Parse.{digit_at}
use Rattle.aos_script.proofs.number.number.Goals as goal

pub returns-then-not-is_ascii_digit-clause-none : goal.returns-then-not-is_ascii_digit-clause-none
returns-then-not-is_ascii_digit-clause-none c n is =
    let range = digit_at c.args.word.now c.loop-b.b-index is.digits.1 (omega arith) in
    omega (arith, range, c.if-not-is_ascii_digit.ensures.cases)

capped-more : (n v d M p r : ℕ) → n ≡ min v M → p ≡ min (n * 10) M → r ≡ min (p + d) M → r ≡ min (v * 10 + d) M
capped-more n v d M p r is product sum = omega arith

pub loop-b-preserved : goal.loop-b-preserved
loop-b-preserved c =
    let word = c.args.word.now in
    let i = c.loop-b.b-index in
    let in_range : i < length word = omega arith in
    let range = c.if-not-is_ascii_digit.ensures.cases in
    let digit = digit_value_digit (get_or word i 0) range in
    let from : c.from.result ≡ digit_value (get_or word i 0) = omega (arith, digit, c.from.ensures) in
    let sum = c.saturating_add-n.ensures ∙ ap (λ d. min (c.saturating_mul.result + d) 18446744073709551615) from in
    record {
      digits = digits_more 10 word i in_range c.loop-b.invariant.digits (omega (arith, digit));
      capped =
          capped-more _ _ _ _ _ _ c.loop-b.invariant.capped c.saturating_mul.ensures sum
          ∙ ap (λ v. min v 18446744073709551615) (sym (digits_value_more 10 word i in_range));
    }
