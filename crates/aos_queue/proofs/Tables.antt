-- What the table has of a number after a write.
use Rattle.std.proofs.Common.{◌≡◌, ℕ, zero, suc, ◌<◌, List, [], ◌∷◌, length, refl, ap, ◌∙◌, get_or}
use Rattle.std.specs.Prelude.{slice_index_or, slice_set}
use Rattle.std.proofs.lemmas.List.{get_or_read}
use Rattle.aos_queue.specs.declared.links.Node.{Node}
use Rattle.aos_queue.specs.declared.links.Links.{Links}
use Rattle.aos_queue.specs.Lists.{blank, next_in, prior_in, SameTable}

pub next_read : (nodes : List Node) (n : ℕ) (node : Node) → n < length nodes → node ≡ get_or nodes n node → node.next ≡ next_in nodes n
next_read nodes n node l e = ap (λ (x : Node). x.next) (get_or_read nodes n node l e blank)

pub prior_read : (nodes : List Node) (n : ℕ) (node : Node) → n < length nodes → node ≡ get_or nodes n node → node.before ≡ prior_in nodes n
prior_read nodes n node l e = ap (λ (x : Node). x.before) (get_or_read nodes n node l e blank)

-- what a write leaves of a number's node it leaves of all
same_of : {A : Type 0} (f : Node → A) (nodes : List Node) (n : ℕ) (node : Node) → f node ≡ f (slice_index_or nodes n blank) → (m : ℕ) → f (slice_index_or (slice_set nodes n node) m blank) ≡ f (slice_index_or nodes m blank)
same_of f [] n node e m = refl
same_of f (x ∷ xs) zero node e zero = e
same_of f (x ∷ xs) zero node e (suc m) = refl
same_of f (x ∷ xs) (suc n) node e zero = refl
same_of f (x ∷ xs) (suc n) node e (suc m) = same_of f xs n node e m

pub next_same : (nodes : List Node) (n : ℕ) (node : Node) → node.next ≡ next_in nodes n → (m : ℕ) → next_in (slice_set nodes n node) m ≡ next_in nodes m
next_same nodes n node e m = same_of (λ (x : Node). x.next) nodes n node e m

pub prior_same : (nodes : List Node) (n : ℕ) (node : Node) → node.before ≡ prior_in nodes n → (m : ℕ) → prior_in (slice_set nodes n node) m ≡ prior_in nodes m
prior_same nodes n node e m = same_of (λ (x : Node). x.before) nodes n node e m

pub same_table : {old mid new : Links} → SameTable old mid → SameTable mid new → SameTable old new
same_table a b = record { room = b.room ∙ a.room; marks = λ n. b.marks n ∙ a.marks n }
