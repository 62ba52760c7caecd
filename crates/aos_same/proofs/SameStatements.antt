-- Values of a struct of statements are the same where their fields are.
use Rattle.std.proofs.Common.{◌≡◌, sym, ap, ◌∙◌}
use Rattle.aos_tree.specs.declared.stat.StatSeq.{StatSeq, out-StatSeq, roll-StatSeq, roll-out-StatSeq}
use Rattle.aos_tree.specs.declared.stat.Elsif.{Elsif, out-Elsif, roll-Elsif, roll-out-Elsif}
use Rattle.aos_tree.specs.declared.stat.Block.{Block, out-Block, roll-Block, roll-out-Block}

pub sequence : (a b : StatSeq) → (out-StatSeq a).stats ≡ (out-StatSeq b).stats → a ≡ b
sequence a b p0 =
    sym (roll-out-StatSeq a)
    ∙ ap (λ z. roll-StatSeq (record { stats = z })) p0
    ∙ roll-out-StatSeq b

pub elsif : (a b : Elsif) → (out-Elsif a).pos ≡ (out-Elsif b).pos → (out-Elsif a).condition ≡ (out-Elsif b).condition → (out-Elsif a).body ≡ (out-Elsif b).body → a ≡ b
elsif a b p0 p1 p2 =
    sym (roll-out-Elsif a)
    ∙ ap (λ z. roll-Elsif (record { pos = z; condition = (out-Elsif a).condition; body = (out-Elsif a).body })) p0
    ∙ ap (λ z. roll-Elsif (record { pos = (out-Elsif b).pos; condition = z; body = (out-Elsif a).body })) p1
    ∙ ap (λ z. roll-Elsif (record { pos = (out-Elsif b).pos; condition = (out-Elsif b).condition; body = z })) p2
    ∙ roll-out-Elsif b

pub block : (a b : Block) → (out-Block a).pos ≡ (out-Block b).pos → (out-Block a).modifiers ≡ (out-Block b).modifiers → (out-Block a).body ≡ (out-Block b).body → a ≡ b
block a b p0 p1 p2 =
    sym (roll-out-Block a)
    ∙ ap (λ z. roll-Block (record { pos = z; modifiers = (out-Block a).modifiers; body = (out-Block a).body })) p0
    ∙ ap (λ z. roll-Block (record { pos = (out-Block b).pos; modifiers = z; body = (out-Block a).body })) p1
    ∙ ap (λ z. roll-Block (record { pos = (out-Block b).pos; modifiers = (out-Block b).modifiers; body = z })) p2
    ∙ roll-out-Block b
