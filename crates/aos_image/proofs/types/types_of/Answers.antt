use Rattle.std.proofs.Common.{◌≡◌, ◌+◌, ap, ◌∙◌, arith}
use Rattle.aos_typed.specs.Methods.{slots, own_numbers}
use Rattle.aos_typed.specs.Numbers.{predeclared_types}
use Rattle.aos_typed.specs.Seen.{seen_program}
use Rattle.aos_image.specs.Made.{active_at, body_at, initial_at, priority_at}
use Rattle.aos_image.proofs.Described.{type_more}
use Rattle.aos_image.proofs.types.types_of.Goals as goal

pub loop-number-preserved : goal.loop-number-preserved
loop-number-preserved c =
    let l = c.loop-number in
    let k = l.number in
    let one = c.in_ok-one.ensures in
    let carried = c.in_ok-carried.ensures in
    let number : predeclared_types + k ≡ k + predeclared_types = omega arith in
    type_more (seen_program c.args.program.now) k (k + predeclared_types) l.types.items _ c.in_ok-one.one number c.in_ok-put_type.ensures
    (record {
      base = one.base;
      cells = one.cells;
      kinds = one.kinds;
      methods = one.methods ∙ c.methods-methods.ensures ∙ ap (λ q. slots (seen_program q) (own_numbers (seen_program q)) k) c.requires.laid;
      initial = one.initial ∙ carried.initial ∙ ap (λ q. initial_at (seen_program q) k) c.requires.laid;
      body = one.start ∙ carried.start ∙ ap (λ q. body_at (seen_program q) k) c.requires.laid;
      active = one.active ∙ carried.active ∙ ap (λ q. active_at (seen_program q) k) c.requires.laid;
      priority = one.priority ∙ carried.priority ∙ ap (λ q. priority_at (seen_program q) k) c.requires.laid;
      safe = one.safe;
    })
    l.invariant
