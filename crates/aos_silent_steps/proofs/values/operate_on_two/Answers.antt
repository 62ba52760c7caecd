use Rattle.std.proofs.Common.{◌≡◌, ◌<◌, [], ◌∷◌, length, reverse, drop, arith}
use Rattle.std.proofs.lemmas.List.{length-reverse}
use Rattle.aos_code.specs.Silent.{Stack, Goes, on_numbers}
use Rattle.aos_silent_steps.proofs.values.operate_on_two.Goals as goal

not_empty : (s t : Stack) → on_numbers (λ a b u. Goes 0 u) s ≡ Goes 0 t → 0 < length s
not_empty [] t e = absurd (cc e)
not_empty (v ∷ s) t e = omega arith

pub put_given-requires : goal.put_given-requires
put_given-requires c =
    let xs = c.deref.result.now in
    let some : 0 < length (reverse xs) = not_empty (reverse xs) (drop 2 (reverse xs)) (c.in-Some.ensures (λ a b s. Goes 0 s)) in
    omega (arith, length-reverse xs)
