use Rattle.std.proofs.Common.{◌+◌, ◌<◌, length, reverse, drop, refl, sym, ap, ◌∙◌, arith}
use Rattle.std.specs.Prelude.{Option, Some, None, IfSome}
use Rattle.std.proofs.lemmas.List.{length-reverse}
use Rattle.aos_code.specs.declared.instr.Cell.TheVariants.{Num}
use Rattle.aos_code.specs.Silent.{gives}
use Rattle.aos_silent_steps.specs.Acts.{or_lost}
use Rattle.aos_silent_steps.proofs.Lengths.{picks_nowhere, picks_past, picks_one, address_within}
use Rattle.aos_silent_steps.proofs.rows.picked.Goals as goal

where_some : {A : Type 0} (r : Option A) (P : A → Type 0) → ((a : A) → P a) → IfSome r P
where_some None P p = tt
where_some (Some a) P p = p a

pub returns-in_err-address-clause-is : goal.returns-in_err-address-clause-is
returns-in_err-address-clause-is c =
    let s = reverse c.args.stack.now in
    picks_nowhere c.args.dimension c.args.lengths s (λ k. c.if-not-are_numbers.ensures.are k) (sym c.address.ensures ∙ c.in_err-address.was)
    ∙ ap (λ r. or_lost r (λ z. gives (Num z) (drop (c.args.lengths + 1) s))) (sym c.from_residual.ensures)

pub returns-then-lengths-dimension-clause-is : goal.returns-then-lengths-dimension-clause-is
returns-then-lengths-dimension-clause-is c =
    let s = reverse c.args.stack.now in
    picks_past c.args.dimension c.args.lengths s (λ k. c.if-not-are_numbers.ensures.are k) c.in_ok-address.field-0 (sym c.address.ensures ∙ c.in_ok-address.was) c.if-lengths-dimension.true

pub returns-clause-is : goal.returns-clause-is
returns-clause-is c =
    let s = reverse c.args.stack.now in
    picks_one c.args.dimension c.args.lengths s (λ k. c.if-not-are_numbers.ensures.are k) c.in_ok-address.field-0 (sym c.address.ensures ∙ c.in_ok-address.was) (omega arith) (c.if-not-are_numbers.ensures.numbers refl)
    ∙ ap (λ r. or_lost r (λ z. gives (Num z) (drop (c.args.lengths + 1) s))) (sym c.number.ensures)

pub returns-clause-deep : goal.returns-clause-deep
returns-clause-deep c =
    let within = address_within (reverse c.args.stack.now) c.args.lengths c.in_ok-address.field-0 (sym c.address.ensures ∙ c.in_ok-address.was) in
    where_some c.number.result (λ _. c.args.lengths < length c.args.stack.now) (λ _. omega (arith, within, length-reverse c.args.stack.now))
