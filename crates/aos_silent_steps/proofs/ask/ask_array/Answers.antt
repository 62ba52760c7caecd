use Rattle.std.proofs.Common.{refl, map, reverse, take, drop, sym, ap, ◌∙◌}
use Rattle.std.specs.Prelude.{ℤ, List}
use Rattle.aos_base.specs.Question.{Makes}
use Rattle.aos_code.specs.declared.instr.Cell.{Cell}
use Rattle.aos_code.specs.declared.instr.Cell.TheVariants.{Num}
use Rattle.aos_code.specs.Silent.{Stack, Sees}
use Rattle.aos_store.proofs.Lists.{map_reverse}
use Rattle.aos_silent_steps.specs.Taken.{numbers_of}
use Rattle.aos_silent_steps.proofs.ask.ask_array.Goals as goal

pub returns-then-are_numbers-clause-act : goal.returns-then-are_numbers-clause-act
returns-then-are_numbers-clause-act c =
    let s = reverse c.args.stack.now in
    let top = take c.args.lengths s in
    let k = λ (zs : List ℤ) (r : Stack). Sees (Makes c.args.of_type (map (λ (z : ℤ). Num z) zs)) r in
    sym (c.if-are_numbers.ensures.are k ∙ ap (λ (vs : List Cell). Sees (Makes c.args.of_type vs) (drop c.args.lengths s)) (map_reverse (λ (z : ℤ). Num z) (numbers_of top) ∙ ap reverse (c.if-are_numbers.ensures.numbers refl)))
