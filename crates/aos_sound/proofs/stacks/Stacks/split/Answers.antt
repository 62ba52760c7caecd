-- The goals of split that the search leaves open.
use Rattle.std.proofs.Common.{◌≡◌, ◌<◌, ◌∷◌, length, sym, ap, ◌∙◌, subst, arith}
use Rattle.aos_sound.specs.Stacks.{stack_at, stacks_of}
use Rattle.aos_sound.proofs.Tries.{length-stacks, at_zero, node_at}
use Rattle.aos_sound.proofs.stacks.Stacks.split.Goals as goal

pub index-node-requires : goal.index-node-requires
index-node-requires c =
    let r : c.args.id < length (stacks_of c.self.inside.nodes.items) = subst (λ s. c.args.id < length s) (sym c.self.view_is) c.requires in
    let l = length-stacks c.self.inside.nodes.items in
    let k = c.self.inside.nodes.ok.0 in
    omega (arith, r, l, k, c.if-id-eq0.false)

pub returns-then-id-eq0 : goal.returns-then-id-eq0
returns-then-id-eq0 c = ap (λ s. stack_at s c.args.id) (sym c.self.view_is) ∙ ap (λ i. stack_at (stacks_of c.self.inside.nodes.items) i) c.if-id-eq0.true ∙ at_zero c.self.inside.nodes.items

pub returns-else-id-eq0 : goal.returns-else-id-eq0
returns-else-id-eq0 c =
    let v = c.self.view_is in
    let r : c.args.id < length (stacks_of c.self.inside.nodes.items) = subst (λ s. c.args.id < length s) (sym v) c.requires in
    let n = node_at c.self.inside.nodes.items c.self.inside.overs.items c.self.invariant c.args.id c.if-id-eq0.false r c.index-node.result.now c.index-node.ensures in
    let b = n.below in
    subst (λ s. (c.index-node.result.now.below < length s) × (stack_at s c.args.id ≡ c.index-node.result.now.top ∷ stack_at s c.index-node.result.now.below)) v (omega (arith, b, r), n.is)
