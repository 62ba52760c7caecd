-- Stacks of kinds that share what lies below their tops: each is known by its number in a list, 0 that of the empty one.
use Rattle.std.specs.Prelude.{◌≢◌, ◌≡◌, ◌<◌, ◌≤◌, ℕ, suc, List, [], ◌∷◌, ◌++◌, length, get_or, Option, Some, None}
use Rattle.aos_code.specs.declared.instr.Kind.{Kind}
use Rattle.aos_code.specs.declared.instr.Kind.TheVariants.{N, R, C, A}
use Rattle.aos_sound.specs.Sound.{Kinds}
use Rattle.aos_sound.specs.declared.stacks.Node.{Node}
use Rattle.aos_sound.specs.declared.stacks.Over.{Over}

-- the stack of this number
abbrev pub stack_at : List Kinds → (id : ℕ) → Kinds
stack_at stacks id = get_or stacks id []

-- the stacks of these nodes, behind those that there are already
abbrev pub grown : List Kinds → List Node → List Kinds
grown stacks [] = stacks
grown stacks (n ∷ ns) = grown (stacks ++ (n.top ∷ stack_at stacks n.below) ∷ []) ns

-- the empty stack, and that of each node
abbrev pub stacks_of : List Node → List Kinds
stacks_of ns = grown ([] ∷ []) ns

-- the first list begins the second one
abbrev pub Extends : List Kinds → List Kinds → Type 0
Extends old new = (more : List Kinds) × (new ≡ old ++ more)

-- this number, if any, is that of these kinds, if any
abbrev pub Means : List Kinds → Option ℕ → Option Kinds → Type 0
Means stacks None s = s ≡ None
Means stacks (Some id) s = (id < length stacks) × (s ≡ Some (stack_at stacks id))

-- the number of the stack with one more operand of this kind on top, 0 for none
abbrev pub above : Over → Kind → ℕ
above over N = over.n
above over R = over.r
above over C = over.c
above over A = over.a

-- the same with this number for the stack with that kind on top
abbrev pub with_above : Over → Kind → (id : ℕ) → Over
with_above over N id = record over { n = id }
with_above over R id = record over { r = id }
with_above over C id = record over { c = id }
with_above over A id = record over { a = id }

-- what stands for a node where there is none
abbrev pub no_node : Node
no_node = record { top = N; below = 0; height = 0 }

-- no stack has one more on top
abbrev pub nothing_above : Over
nothing_above = record { n = 0; r = 0; c = 0; a = 0 }

module _ (stacks : List Kinds) where
  -- the stack of this number is the node's top on that below, and it has at most as many operands as its number
  pub record IsNode (n : Node) (id : ℕ) : Type 0 where
    pub below : n.below < id
    pub is : stack_at stacks id ≡ n.top ∷ stack_at stacks n.below
    pub height : n.height ≡ length (stack_at stacks id)
    pub low : length (stack_at stacks id) ≤ id

  -- a stack that is named as one with one more operand than that of this number is so, and where none is named none is so
  pub record IsOver (over : Over) (id : ℕ) : Type 0 where
    pub there : (k : Kind) (c : ℕ) → above over k ≡ suc c → (suc c < length stacks) × (stack_at stacks (suc c) ≡ k ∷ stack_at stacks id)
    pub none : (k : Kind) → above over k ≡ 0 → (j : ℕ) → j < length stacks → stack_at stacks j ≢ k ∷ stack_at stacks id

-- nodes and links stand for stacks, of which no two are the same
pub record IsTrie (nodes : List Node) (overs : List Over) : Type 0 where
  pub count : length overs ≡ length (stacks_of nodes)
  pub nodes_are : (i : ℕ) → i < length nodes → IsNode (stacks_of nodes) (get_or nodes i no_node) (suc i)
  pub overs_are : (id : ℕ) → id < length overs → IsOver (stacks_of nodes) (get_or overs id nothing_above) id
  pub differ : (i j : ℕ) → i < length overs → j < length overs → stack_at (stacks_of nodes) i ≡ stack_at (stacks_of nodes) j → i ≡ j
