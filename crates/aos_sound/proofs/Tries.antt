-- One more node, where no stack is as it says, leaves all stacks different.
use Rattle.std.proofs.Common.{◌≡◌, ◌≢◌, ◌⊎◌, inl, inr, ℕ, zero, suc, ◌+◌, ◌-◌, ◌<◌, ◌≤◌, List, [], ◌∷◌, ◌++◌, length, get_or, set, refl, sym, ap, ◌∙◌, subst, arith, append_assoc, length-append}
use Rattle.std.proofs.lemmas.Bool.{cases_lt}
use Rattle.std.proofs.lemmas.List.{append-nil, get_or_default, get_or_append_left, get_or-append-add, length-set, get_or-set_same, get_or-set_other}
use Rattle.aos_code.specs.declared.instr.Kind.{Kind}
use Rattle.aos_code.specs.declared.instr.Kind.TheVariants.{N, R, C, A}
use Rattle.aos_sound.specs.Sound.{Kinds}
use Rattle.aos_sound.specs.declared.stacks.Node.{Node}
use Rattle.aos_sound.specs.declared.stacks.Over.{Over}
use Rattle.aos_sound.specs.Stacks.{stack_at, grown, stacks_of, Extends, above, with_above, no_node, nothing_above, IsNode, IsOver, IsTrie}

-- one more stack for each node
pub length-grown : (ns : List Node) (xs : List Kinds) → length (grown xs ns) ≡ length xs + length ns
length-grown [] xs = omega arith
length-grown (n ∷ ns) xs =
    let x = (n.top ∷ stack_at xs n.below) ∷ [] in
    let h = length-grown ns (xs ++ x) in
    let l = length-append xs x in
    omega (arith, h, l)

-- one more node makes one more stack behind the others
pub grown_last : (ns : List Node) (n : Node) (xs : List Kinds) → grown xs (ns ++ n ∷ []) ≡ grown xs ns ++ (n.top ∷ stack_at (grown xs ns) n.below) ∷ []
grown_last [] n xs = refl
grown_last (m ∷ ns) n xs = grown_last ns n (xs ++ (m.top ∷ stack_at xs m.below) ∷ [])

-- nodes leave the stacks before them as they are
pub grown_begins : (ns : List Node) (xs : List Kinds) → Extends xs (grown xs ns)
grown_begins [] xs = ([], sym (append-nil xs))
grown_begins (n ∷ ns) xs =
    let x = (n.top ∷ stack_at xs n.below) ∷ [] in
    let h = grown_begins ns (xs ++ x) in
    (x ++ h.0, h.1 ∙ append_assoc xs x h.0)

-- number 0 is the empty stack
pub at_zero : (ns : List Node) → stack_at (stacks_of ns) 0 ≡ []
at_zero ns = let h = grown_begins ns ([] ∷ []) in ap (λ s. stack_at s 0) h.1

-- the empty stack, and one for each node
pub length-stacks : (ns : List Node) → length (stacks_of ns) ≡ suc (length ns)
length-stacks ns = let h = length-grown ns ([] ∷ []) in omega (arith, h)

-- more stacks leave each number its stack
pub extends_at : (old new : List Kinds) → Extends old new → (i : ℕ) → i < length old → stack_at new i ≡ stack_at old i
extends_at old new h i lt = ap (λ s. stack_at s i) h.1 ∙ get_or_append_left old h.0 [] i lt

-- a list with one more is longer by 1
longer : (xs : List Kinds) (x : List Kind) → length (xs ++ x ∷ []) ≡ suc (length xs)
longer xs x = let l = length-append xs (x ∷ []) in omega (arith, l)

-- what stands last
pub last_of : {X : Type 0} (xs : List X) (x d : X) → get_or (xs ++ x ∷ []) (length xs) d ≡ x
last_of xs x d = let z : length xs ≡ length xs + 0 = omega arith in ap (λ i. get_or (xs ++ x ∷ []) i d) z ∙ get_or-append-add xs (x ∷ []) 0 d

-- each number up to the last is the last or below it
pub either_last : (i n : ℕ) → i < suc n → (i < n) ⊎ (i ≡ n)
either_last i n lt = elim (cases_lt i n) [ inl h ↦ inl h | inr h ↦ inr (omega arith) ]

-- the same stack is left below
pub tail_same : (k j : Kind) (s t : List Kind) → k ∷ s ≡ j ∷ t → s ≡ t
tail_same k j s t e = cc

-- the same kind is on top
pub top_same : (k j : Kind) (s t : List Kind) → k ∷ s ≡ j ∷ t → k ≡ j
top_same k j s t e = cc

-- no stack is its own with one more on top
not_itself : (k : Kind) (s : List Kind) → s ≡ k ∷ s → ⊥
not_itself k s e = let l = ap length e in absurd (omega (arith, l))

-- a link that is set, and all others as they were
above_with : (over : Over) (k j : Kind) (id : ℕ) → ((k ≡ j) × (above (with_above over k id) j ≡ id)) ⊎ ((k ≢ j) × (above (with_above over k id) j ≡ above over j))
above_with over N N id = inl (refl, refl)
above_with over R R id = inl (refl, refl)
above_with over C C id = inl (refl, refl)
above_with over A A id = inl (refl, refl)
above_with over N R id = inr (λ e. absurd (cc e), refl)
above_with over N C id = inr (λ e. absurd (cc e), refl)
above_with over N A id = inr (λ e. absurd (cc e), refl)
above_with over R N id = inr (λ e. absurd (cc e), refl)
above_with over R C id = inr (λ e. absurd (cc e), refl)
above_with over R A id = inr (λ e. absurd (cc e), refl)
above_with over C N id = inr (λ e. absurd (cc e), refl)
above_with over C R id = inr (λ e. absurd (cc e), refl)
above_with over C A id = inr (λ e. absurd (cc e), refl)
above_with over A N id = inr (λ e. absurd (cc e), refl)
above_with over A R id = inr (λ e. absurd (cc e), refl)
above_with over A C id = inr (λ e. absurd (cc e), refl)

-- no links
above_nothing : (k : Kind) → above nothing_above k ≡ 0
above_nothing N = refl
above_nothing R = refl
above_nothing C = refl
above_nothing A = refl

module _ (nodes : List Node) (overs : List Over) (trie : IsTrie nodes overs) where
  -- a stack has at most as many operands as its number
  pub is_low : (id : ℕ) → id < length overs → length (stack_at (stacks_of nodes) id) ≤ id
  is_low zero lt = let l = ap length (at_zero nodes) in omega (arith, l)
  is_low (suc i) lt =
      let c = trie.count in
      let n = length-stacks nodes in
      let lt' : i < length nodes = omega (arith, c, n, lt) in
      (trie.nodes_are i lt').low

-- one more stack, which is none of those so far
module _ (stacks : List Kinds) (k : Kind) (below : ℕ) (here : below < length stacks) where
  -- it has this kind on top of that stack
  abbrev new_stack : List Kind
  new_stack = k ∷ stack_at stacks below

  -- the stacks with it
  abbrev more : List Kinds
  more = stacks ++ new_stack ∷ []

  -- each number so far has its stack
  as_before : (i : ℕ) → i < length stacks → stack_at more i ≡ stack_at stacks i
  as_before i lt = get_or_append_left stacks (new_stack ∷ []) [] i lt

  -- the next number has the new one
  pub at_last : stack_at more (length stacks) ≡ new_stack
  at_last = last_of stacks new_stack []

  -- there is one more
  pub count_more : length more ≡ suc (length stacks)
  count_more = longer stacks new_stack

  -- a node that was right is right
  node_kept : (n : Node) (id : ℕ) → id < length stacks → IsNode stacks n id → IsNode more n id
  node_kept n id lt is =
      let b = is.below in
      let lt' : n.below < length stacks = omega arith in
      let e = as_before id lt in
      record {
        below = b;
        is = e ∙ is.is ∙ ap (λ s. n.top ∷ s) (sym (as_before n.below lt'));
        height = is.height ∙ ap length (sym e);
        low = subst (λ s. length s ≤ id) (sym e) is.low;
      }

  -- the node of the new stack is right
  new_node : (h : ℕ) → h ≡ length (stack_at stacks below) → length (stack_at stacks below) ≤ below → IsNode more (record { top = k; below = below; height = h + 1 }) (length stacks)
  new_node h high low =
      let e = at_last in
      let l = ap length e in
      record {
        below = here;
        is = e ∙ ap (λ s. k ∷ s) (sym (as_before below here));
        height = omega (arith, l, high);
        low = omega (arith, l, low, here);
      }

  module _ (differ : (i j : ℕ) → i < length stacks → j < length stacks → stack_at stacks i ≡ stack_at stacks j → i ≡ j) (unused : (j : ℕ) → j < length stacks → stack_at stacks j ≢ new_stack) where
    -- no two stacks are the same
    still_differ : (i j : ℕ) → i < suc (length stacks) → j < suc (length stacks) → stack_at more i ≡ stack_at more j → i ≡ j
    still_differ i j lt lt' e =
        elim (either_last i (length stacks) lt) [
          | inl a ↦ elim (either_last j (length stacks) lt') [
            | inl b ↦ differ i j a b (sym (as_before i a) ∙ e ∙ as_before j b)
            | inr b ↦ absurd (unused i a (sym (as_before i a) ∙ e ∙ ap (λ x. stack_at more x) b ∙ at_last))
          ]
          | inr a ↦ elim (either_last j (length stacks) lt') [
            | inl b ↦ absurd (unused j b (sym (as_before j b) ∙ sym e ∙ ap (λ x. stack_at more x) a ∙ at_last))
            | inr b ↦ a ∙ sym b
          ]
        ]

    -- links that are there still lead to what they say
    there_kept : (over : Over) (id : ℕ) → id < length stacks → IsOver stacks over id → (j : Kind) (c : ℕ) → above over j ≡ suc c → (suc c < length more) × (stack_at more (suc c) ≡ j ∷ stack_at more id)
    there_kept over id lt is j c e =
        let t = is.there j c e in
        let m = count_more in
        (omega (arith, m, t), as_before (suc c) t.0 ∙ t.1 ∙ ap (λ s. j ∷ s) (sym (as_before id lt)))

    -- where no link was and the new stack is another, none is missing
    none_kept : (over : Over) (id : ℕ) → id < length stacks → IsOver stacks over id → (j : Kind) → above over j ≡ 0 → (new_stack ≢ j ∷ stack_at stacks id) → (i : ℕ) → i < length more → stack_at more i ≢ j ∷ stack_at more id
    none_kept over id lt is j e other i lt' f =
        let m = count_more in
        let g = f ∙ ap (λ s. j ∷ s) (as_before id lt) in
        elim (either_last i (length stacks) (omega (arith, m))) [
          | inl a ↦ is.none j e i a (sym (as_before i a) ∙ g)
          | inr a ↦ other (sym at_last ∙ sym (ap (λ x. stack_at more x) a) ∙ g)
        ]

    -- the links of another stack are right
    over_kept : (over : Over) (id : ℕ) → id < length stacks → id ≢ below → IsOver stacks over id → IsOver more over id
    over_kept over id lt ne is =
        record {
          there = there_kept over id lt is;
          none = λ j e. none_kept over id lt is j e (λ f. ne (differ id below lt here (sym (tail_same k j _ _ f))));
        }

    -- the links of the stack below, with one more, are right
    over_changed : (over : Over) → IsOver stacks over below → IsOver more (with_above over k (length stacks)) below
    over_changed over is =
        record {
          there = λ j c e. elim (above_with over k j (length stacks)) [
            | inl p ↦
                let z : suc c ≡ length stacks = sym e ∙ p.1 in
                let m = count_more in
                (omega (arith, m, z), ap (λ x. stack_at more x) z ∙ at_last ∙ ap (λ q. q ∷ stack_at stacks below) p.0 ∙ ap (λ s. j ∷ s) (sym (as_before below here)))
            | inr p ↦ there_kept over below here is j c (sym p.1 ∙ e)
          ];
          none = λ j e. elim (above_with over k j (length stacks)) [
            | inl p ↦ let z : length stacks ≡ 0 = sym p.1 ∙ e in absurd (omega (arith, z, here))
            | inr p ↦ none_kept over below here is j (sym p.1 ∙ e) (λ f. p.0 (top_same k j _ _ f))
          ];
        }

    module _ (parts : (i : ℕ) → i < length stacks → 0 < i → (n : Node) × IsNode stacks n i) (empty : stack_at stacks 0 ≡ []) where
      -- no stack is the new one with one more on top
      none_over_new : (j : Kind) (i : ℕ) → i < length more → stack_at more i ≢ j ∷ stack_at more (length stacks)
      none_over_new j i lt e =
          let m = count_more in
          elim (either_last i (length stacks) (omega (arith, m))) [
            | inl a ↦ elim (cases_lt 0 i) [
              | inl pos ↦
                  let n = parts i a pos in
                  let b : n.0.below < length stacks = omega (arith, n.1.below) in
                  let f = sym n.1.is ∙ sym (as_before i a) ∙ e ∙ ap (λ s. j ∷ s) at_last in
                  unused n.0.below b (tail_same n.0.top j _ _ f)
              | inr z ↦
                  let zero_is : i ≡ 0 = omega arith in
                  let f = sym empty ∙ ap (λ x. stack_at stacks x) (sym zero_is) ∙ sym (as_before i a) ∙ e in
                  absurd (cc f)
            ]
            | inr a ↦ not_itself j (stack_at more (length stacks)) (ap (λ x. stack_at more x) (sym a) ∙ e)
          ]

      -- so the new one needs no link
      over_new : IsOver more nothing_above (length stacks)
      over_new =
          record {
            there = λ j c e. let z : 0 ≡ suc c = sym (above_nothing j) ∙ e in absurd (cc z);
            none = λ j e. none_over_new j;
          }

module _ (nodes : List Node) (overs : List Over) (trie : IsTrie nodes overs) where
  -- a stack has at most as many operands as its number
  pub low_here : (id : ℕ) → id < length (stacks_of nodes) → length (stack_at (stacks_of nodes) id) ≤ id
  low_here id lt = let c = trie.count in is_low nodes overs trie id (omega (arith, c))

  module _ (k : Kind) (below : ℕ) (here : below < length (stacks_of nodes)) (free : above (get_or overs below nothing_above) k ≡ 0) (h : ℕ) (high : h ≡ length (stack_at (stacks_of nodes) below)) where
    -- the stacks so far
    abbrev stacks : List Kinds
    stacks = stacks_of nodes

    -- the new node
    abbrev node : Node
    node = record { top = k; below = below; height = h + 1 }

    -- the links of the stack below
    abbrev over : Over
    over = with_above (get_or overs below nothing_above) k (length stacks)

    -- all nodes
    abbrev nodes' : List Node
    nodes' = nodes ++ node ∷ []

    -- all links
    abbrev overs' : List Over
    overs' = set (overs ++ nothing_above ∷ []) below over

    -- the new node makes the new stack
    pub stacks_more : stacks_of nodes' ≡ more stacks k below here
    stacks_more = grown_last nodes node ([] ∷ [])

    -- the stack below has links
    here' : below < length overs
    here' = let c = trie.count in omega (arith, c)

    -- without a link to it no stack is the new one
    unused : (j : ℕ) → j < length stacks → stack_at stacks j ≢ k ∷ stack_at stacks below
    unused j lt = (trie.overs_are below here').none k free j lt

    -- no two stacks so far are the same
    differ : (i j : ℕ) → i < length stacks → j < length stacks → stack_at stacks i ≡ stack_at stacks j → i ≡ j
    differ i j a b e = let c = trie.count in trie.differ i j (omega (arith, c)) (omega (arith, c)) e

    -- each stack but the empty one has a node
    parts : (i : ℕ) → i < length stacks → 0 < i → (n : Node) × IsNode stacks n i
    parts zero lt pos = absurd (omega arith)
    parts (suc i) lt pos = let l = length-stacks nodes in (get_or nodes i no_node, trie.nodes_are i (omega (arith, l)))

    -- all nodes are right
    nodes_are' : (i : ℕ) → i < length nodes' → IsNode (more stacks k below here) (get_or nodes' i no_node) (suc i)
    nodes_are' i lt =
        let l = length-append nodes (node ∷ []) in
        let n = length-stacks nodes in
        elim (either_last i (length nodes) (omega (arith, l))) [
          | inl a ↦ subst (λ m. IsNode (more stacks k below here) m (suc i)) (sym (get_or_append_left nodes (node ∷ []) no_node i a)) (node_kept stacks k below here (get_or nodes i no_node) (suc i) (omega (arith, n)) (trie.nodes_are i a))
          | inr a ↦
              let e : get_or nodes' i no_node ≡ node = ap (λ x. get_or nodes' x no_node) a ∙ last_of nodes node no_node in
              let z : length stacks ≡ suc i = omega (arith, n, a) in
              subst (λ m. IsNode (more stacks k below here) m (suc i)) (sym e) (subst (λ x. IsNode (more stacks k below here) node x) z (new_node stacks k below here h high (low_here below here)))
        ]

    -- all links are right
    overs_are' : (id : ℕ) → id < length overs' → IsOver (more stacks k below here) (get_or overs' id nothing_above) id
    overs_are' id lt =
        let s = length-set (overs ++ nothing_above ∷ []) below over in
        let l = length-append overs (nothing_above ∷ []) in
        let c = trie.count in
        let b = here' in
        elim (either_last id (length overs) (omega (arith, l, s))) [
          | inl a ↦ elim (cases_lt id below) [
            | inl p ↦ over_same id a (omega arith)
            | inr p ↦ elim (cases_lt below id) [
              | inl q ↦ over_same id a (omega arith)
              | inr q ↦
                  let z : id ≡ below = omega arith in
                  let e : get_or overs' id nothing_above ≡ over = ap (λ x. get_or overs' x nothing_above) z ∙ get_or-set_same (overs ++ nothing_above ∷ []) below over nothing_above (omega (arith, l, b)) in
                  subst (λ o. IsOver (more stacks k below here) o id) (sym e) (subst (λ x. IsOver (more stacks k below here) over x) (sym z) (over_changed stacks k below here differ unused (get_or overs below nothing_above) (trie.overs_are below b)))
            ]
          ]
          | inr a ↦
              let ne : id ≢ below = λ z. absurd (omega (arith, z, a, b)) in
              let e : get_or overs' id nothing_above ≡ nothing_above = get_or-set_other (overs ++ nothing_above ∷ []) below id over nothing_above ne ∙ ap (λ x. get_or (overs ++ nothing_above ∷ []) x nothing_above) a ∙ last_of overs nothing_above nothing_above in
              let z : length stacks ≡ id = sym c ∙ sym a in
              subst (λ o. IsOver (more stacks k below here) o id) (sym e) (subst (λ x. IsOver (more stacks k below here) nothing_above x) z (over_new stacks k below here differ unused parts (at_zero nodes)))
        ]
      where
        -- links that did not change
        over_same : (id : ℕ) → id < length overs → id ≢ below → IsOver (more stacks k below here) (get_or overs' id nothing_above) id
        over_same id a ne =
            let c = trie.count in
            let e : get_or overs' id nothing_above ≡ get_or overs id nothing_above = get_or-set_other (overs ++ nothing_above ∷ []) below id over nothing_above ne ∙ get_or_append_left overs (nothing_above ∷ []) nothing_above id a in
            subst (λ o. IsOver (more stacks k below here) o id) (sym e) (over_kept stacks k below here differ unused (get_or overs id nothing_above) id (omega (arith, c)) ne (trie.overs_are id a))

    -- all is right with the new node and the link to it
    pub more_trie : IsTrie nodes' overs'
    more_trie =
        let s = length-set (overs ++ nothing_above ∷ []) below over in
        let l = length-append overs (nothing_above ∷ []) in
        let c = trie.count in
        let m = count_more stacks k below here in
        let e = stacks_more in
        let count' : length overs' ≡ length (stacks_of nodes') = s ∙ l ∙ ap (λ x. x + 1) c ∙ (let w : length stacks + 1 ≡ length (more stacks k below here) = omega (arith, m) in w) ∙ ap length (sym e) in
        record {
          count = count';
          nodes_are = λ i lt. subst (λ ss. IsNode ss (get_or nodes' i no_node) (suc i)) (sym e) (nodes_are' i lt);
          overs_are = λ id lt. subst (λ ss. IsOver ss (get_or overs' id nothing_above) id) (sym e) (overs_are' id lt);
          differ = λ i j a b f.
              let t : length overs' ≡ suc (length stacks) = omega (arith, s, l, c) in
              still_differ stacks k below here differ unused i j (omega (arith, t)) (omega (arith, t)) (sym (ap (λ ss. stack_at ss i) e) ∙ f ∙ ap (λ ss. stack_at ss j) e);
        }

-- the node of a number, as code reads it
pub node_at : (nodes : List Node) (overs : List Over) → IsTrie nodes overs → (id : ℕ) → id ≢ 0 → id < length (stacks_of nodes) → (m : Node) → m ≡ get_or nodes (id - 1) m → IsNode (stacks_of nodes) m id
node_at nodes overs trie id ne lt m e =
    let l = length-stacks nodes in
    let at : id - 1 < length nodes = omega (arith, l, ne) in
    let z : suc (id - 1) ≡ id = omega (arith, ne) in
    let d : m ≡ get_or nodes (id - 1) no_node = e ∙ get_or_default nodes (id - 1) m no_node at in
    subst (λ x. IsNode (stacks_of nodes) m x) z (subst (λ n. IsNode (stacks_of nodes) n (suc (id - 1))) (sym d) (trie.nodes_are (id - 1) at))

-- the stack with one more operand, as code finds it
pub found : (nodes : List Node) (overs : List Over) → IsTrie nodes overs → (below : ℕ) → below < length (stacks_of nodes) → (over : Over) → over ≡ get_or overs below over → (k : Kind) (id : ℕ) → 0 < id → id ≡ above over k → (id < length (stacks_of nodes)) × (stack_at (stacks_of nodes) id ≡ k ∷ stack_at (stacks_of nodes) below)
found nodes overs trie below here over e k zero pos is = absurd (omega arith)
found nodes overs trie below here over e k (suc id) pos is =
    let c = trie.count in
    let here' : below < length overs = omega (arith, c, here) in
    let d : over ≡ get_or overs below nothing_above = e ∙ get_or_default overs below over nothing_above here' in
    (trie.overs_are below here').there k id (ap (λ o. above o k) (sym d) ∙ sym is)

-- nodes and overs after one more stack, as code writes them
pub record Pushed (nodes nodes' : List Node) (overs' : List Over) (k : Kind) (below id : ℕ) : Type 0 where
  pub trie : IsTrie nodes' overs'
  pub inside : id < length (stacks_of nodes')
  pub is : stack_at (stacks_of nodes') id ≡ k ∷ stack_at (stacks_of nodes) below
  pub extends : Extends (stacks_of nodes) (stacks_of nodes')

-- so it is where no link to such a stack was found
pub pushed : {nodes : List Node} {overs : List Over} → IsTrie nodes overs → {k : Kind} {below : ℕ} → below < length (stacks_of nodes) → {over : Over} → over ≡ get_or overs below over → above over k ≡ 0 → {h : ℕ} → h ≡ length (stack_at (stacks_of nodes) below) → {nodes' : List Node} {overs' : List Over} {id : ℕ} → id ≡ length overs → nodes' ≡ nodes ++ record { top = k; below = below; height = h + 1 } ∷ [] → overs' ≡ set (overs ++ nothing_above ∷ []) below (with_above over k id) → Pushed nodes nodes' overs' k below id
pushed {nodes = nodes} {overs = overs} trie {k = k} {below = below} here {over = over} e free {h = h} high {nodes' = nodes'} {overs' = overs'} {id = id} i n o =
    let c = trie.count in
    let here' : below < length overs = omega (arith, c, here) in
    let d : over ≡ get_or overs below nothing_above = e ∙ get_or_default overs below over nothing_above here' in
    let free' : above (get_or overs below nothing_above) k ≡ 0 = ap (λ x. above x k) (sym d) ∙ free in
    let z : id ≡ length (stacks_of nodes) = i ∙ c in
    let o' : overs' ≡ set (overs ++ nothing_above ∷ []) below (with_above (get_or overs below nothing_above) k (length (stacks_of nodes))) = o ∙ ap (λ x. set (overs ++ nothing_above ∷ []) below (with_above x k id)) d ∙ ap (λ x. set (overs ++ nothing_above ∷ []) below (with_above (get_or overs below nothing_above) k x)) z in
    let s : stacks_of nodes' ≡ more (stacks_of nodes) k below here = ap stacks_of n ∙ stacks_more nodes overs trie k below here free' h high in
    let m = count_more (stacks_of nodes) k below here in
    let l = ap length s in
    record {
      trie = subst (λ x. IsTrie x overs') (sym n) (subst (λ x. IsTrie (nodes ++ record { top = k; below = below; height = h + 1 } ∷ []) x) (sym o') (more_trie nodes overs trie k below here free' h high));
      inside = omega (arith, z, l, m);
      is = ap (λ x. stack_at x id) s ∙ ap (λ x. stack_at (more (stacks_of nodes) k below here) x) z ∙ at_last (stacks_of nodes) k below here;
      extends = ((k ∷ stack_at (stacks_of nodes) below) ∷ [], s);
    }
