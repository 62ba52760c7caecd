-- The goals of on_top that the search leaves open.
use Rattle.std.proofs.Common.{◌≡◌, ◌<◌, ◌+◌, ◌++◌, [], ◌∷◌, length, set, sym, ap, ◌∙◌, subst, arith}
use Rattle.std.proofs.lemmas.List.{append-nil}
use Rattle.aos_sound.specs.Stacks.{stack_at, stacks_of, above, nothing_above, Extends}
use Rattle.aos_sound.proofs.Tries.{low_here, found, pushed}
use Rattle.aos_sound.proofs.stacks.Stacks.on_top.Goals as goal

pub returns-then-id-gt0 : goal.returns-then-id-gt0
returns-then-id-gt0 c =
    let v = c.self.view_is in
    let here : c.args.below < length (stacks_of c.self.inside.nodes.items) = subst (λ s. c.args.below < length s) (sym v) c.requires in
    let f = found c.self.inside.nodes.items c.self.inside.overs.items c.self.invariant c.args.below here c.index-over.result.now c.index-over.ensures c.args.top c.above_of-id.result c.if-id-gt0.true c.above_of-id.ensures in
    subst (λ s. (c.above_of-id.result < length s) × (stack_at s c.above_of-id.result ≡ c.args.top ∷ stack_at s c.args.below) × Extends s s) v (f.0, f.1, ([], sym (append-nil (stacks_of c.self.inside.nodes.items))))

pub overflow_add-height : goal.overflow_add-height
overflow_add-height c =
    let here : c.args.below < length (stacks_of c.self.inside.nodes.items) = subst (λ s. c.args.below < length s) (sym c.self.view_is) c.requires in
    let high : c.height-height.result ≡ length (stack_at (stacks_of c.self.inside.nodes.items) c.args.below) = c.height-height.ensures ∙ ap (λ s. length (stack_at s c.args.below)) (sym c.self.view_is) in
    let low = low_here c.self.inside.nodes.items c.self.inside.overs.items c.self.invariant c.args.below here in
    let count = c.self.invariant.count in
    let k = c.self.inside.overs.ok.0 in
    let l = c.len-new.ensures in
    omega (arith, here, high, low, count, k, l, c.if-new-ge4294967295.false)

pub invariant_of-self-2 : goal.invariant_of-self-2
invariant_of-self-2 c =
    let here : c.args.below < length (stacks_of c.self.inside.nodes.items) = subst (λ s. c.args.below < length s) (sym c.self.view_is) c.requires in
    let high : c.height-height.result ≡ length (stack_at (stacks_of c.self.inside.nodes.items) c.args.below) = c.height-height.ensures ∙ ap (λ s. length (stack_at s c.args.below)) (sym c.self.view_is) in
    let free : above c.index-over.result.now c.args.top ≡ 0 = sym c.above_of-id.ensures ∙ (omega (arith, c.if-id-gt0.false)) in
    let n = c.push_reserved.ensures.items ∙ ap (λ x. x ++ record { top = c.args.top; below = c.args.below; height = c.height-height.result + 1 } ∷ []) c.reserve.ensures.items in
    let o = ap (λ x. set x c.args.below c.with_one_above.result) (c.push_reserved-2.ensures.items ∙ ap (λ x. x ++ nothing_above ∷ []) c.reserve-2.ensures.items) ∙ ap (λ x. set (c.self.inside.overs.items ++ nothing_above ∷ []) c.args.below x) c.with_one_above.ensures in
    let p = pushed c.self.invariant here c.index-over.ensures free high (c.len-new.ensures ∙ c.self.inside.overs.ok.0) n o in
    p.trie

pub returns : goal.returns
returns c =
    let here : c.args.below < length (stacks_of c.self.inside.nodes.items) = subst (λ s. c.args.below < length s) (sym c.self.view_is) c.requires in
    let high : c.height-height.result ≡ length (stack_at (stacks_of c.self.inside.nodes.items) c.args.below) = c.height-height.ensures ∙ ap (λ s. length (stack_at s c.args.below)) (sym c.self.view_is) in
    let free : above c.index-over.result.now c.args.top ≡ 0 = sym c.above_of-id.ensures ∙ (omega (arith, c.if-id-gt0.false)) in
    let n = c.push_reserved.ensures.items ∙ ap (λ x. x ++ record { top = c.args.top; below = c.args.below; height = c.height-height.result + 1 } ∷ []) c.reserve.ensures.items in
    let o = ap (λ x. set x c.args.below c.with_one_above.result) (c.push_reserved-2.ensures.items ∙ ap (λ x. x ++ nothing_above ∷ []) c.reserve-2.ensures.items) ∙ ap (λ x. set (c.self.inside.overs.items ++ nothing_above ∷ []) c.args.below x) c.with_one_above.ensures in
    let p = pushed c.self.invariant here c.index-over.ensures free high (c.len-new.ensures ∙ c.self.inside.overs.ok.0) n o in
    (p.inside, p.is ∙ ap (λ s. c.args.top ∷ stack_at s c.args.below) c.self.view_is, (p.extends.0, p.extends.1 ∙ ap (λ s. s ++ p.extends.0) c.self.view_is))
