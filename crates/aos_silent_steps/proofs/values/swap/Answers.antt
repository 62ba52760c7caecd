use Rattle.std.proofs.Common.{◌≡◌, List, [], ◌∷◌, drop, reverse, sym, ap, ◌∙◌, arith}
use Rattle.std.specs.Prelude.{Some, slice_get}
use Rattle.aos_code.specs.Silent.{Stack, Goes, swaps}
use Rattle.aos_code.specs.declared.instr.Cell.{Cell}
use Rattle.aos_silent_steps.proofs.Topmost.{reverse-push, taken}
use Rattle.aos_silent_steps.proofs.values.swap.Goals as goal

swaps_two : (s : Stack) (v x : Cell) → Some v ≡ slice_get s 0 → Some x ≡ slice_get s 1 → Goes 0 (x ∷ (v ∷ drop 2 s)) ≡ swaps s
swaps_two [] v x a b = absurd (cc a)
swaps_two (y ∷ []) v x a b = absurd (cc b)
swaps_two (y ∷ z ∷ s) v x a b =
    let p : v ≡ y = cc a in
    let q : x ≡ z = cc b in
    λ i. Goes 0 (q i ∷ (p i ∷ s))

pub returns-in-Some-operand-clause-act : goal.returns-in-Some-operand-clause-act
returns-in-Some-operand-clause-act c =
    let old = c.args.stack.now.items in
    let mid = c.truncate.new.self.items in
    let v = c.in-Some.above in
    let x = c.in-Some-operand.below in
    let two : reverse mid ≡ drop 2 (reverse old) = taken old mid 2 c.saturating_sub.result (omega arith) c.truncate.ensures.items in
    let pushed : reverse c.push_reserved-in-Some-operand.new.self.items ≡ x ∷ (v ∷ reverse mid) =
    ap reverse c.push_reserved-in-Some-operand.ensures.items ∙ reverse-push c.push_reserved.new.self.items x
    ∙ ap (λ s. x ∷ s) (ap reverse c.push_reserved.ensures.items ∙ reverse-push mid v) in
    ap (λ s. Goes 0 s) (pushed ∙ ap (λ s. x ∷ (v ∷ s)) two) ∙ swaps_two (reverse old) v x (sym c.in-Some.is ∙ c.operand.ensures ∙ ap (λ (l : List Cell). slice_get (reverse l) 0) c.deref.ensures.value) (sym c.in-Some-operand.is ∙ c.operand-in-Some.ensures ∙ ap (λ (l : List Cell). slice_get (reverse l) 1) c.deref-in-Some.ensures.value)
