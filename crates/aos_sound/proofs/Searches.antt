-- What a search of the paths through code knows after each step.
use Rattle.std.proofs.Common.{◌≡◌, ◌⊎◌, inl, inr, ℕ, zero, suc, ◌+◌, ◌<◌, ◌≤◌, List, [], ◌∷◌, ◌++◌, Option, Some, None, true, false, Bool, length, get_or, set, refl, sym, ap, ◌∙◌, subst, arith, length-append}
use Rattle.std.specs.Prelude.{Contains, slice_get, IsTrue, ◌↔◌}
use Rattle.std.proofs.lemmas.Bool.{cases_lt, cases_eq}
use Rattle.std.proofs.lemmas.Option.{slice_get_within}
use Rattle.std.proofs.lemmas.List.{get_or_default, length-set, get_or-set_same, get_or-set_other}
use Rattle.std.proofs.Math.ListN.{get_or-eq_default}
use Rattle.std.proofs.lemmas.List.Elements.{Contains-append_left, Contains-append_right, Contains-append_cases}
use Rattle.std.proofs.lemmas.List.Sums.{sum_by-set}
use Rattle.aos_code.specs.declared.instr.Instr.{Instr}
use Rattle.aos_code.specs.declared.image.Image.{Image}
use Rattle.aos_sound.specs.declared.effect.Effect.{Effect}
use Rattle.aos_sound.specs.declared.effect.Next.{Next}
use Rattle.aos_sound.specs.declared.effect.Next.TheVariants.{Either}
use Rattle.aos_sound.specs.Sound.{Kinds, effect_of, left_by, next_of, Leads, after, Comes, Goes, ArePathsSound}
use Rattle.aos_sound.specs.Stacks.{stack_at, Extends, Means}
use Rattle.aos_sound.specs.Search.{Table, at_place, one_if_none, AreNumbers, Known, Misses, KnownOrMisses, GoesOn, Arrives, Passed, Explored, ExploredOrUnsound}
use Rattle.aos_sound.proofs.Tries.{extends_at}

-- what code reads at a place
pub entry_read : (table : Table) (to : ℕ) (r : Option ℕ) → to < length table → r ≡ get_or table to r → at_place table to ≡ r
entry_read table to r lt e = sym (e ∙ get_or_default table to r None lt)

-- a place that has a number is a place of the table
pub entry_within : (table : Table) (p id : ℕ) → at_place table p ≡ Some id → p < length table
entry_within table p id e =
    elim (cases_lt p (length table)) [
      | inl h ↦ h
      | inr h ↦ let z = sym (get_or-eq_default table None h) ∙ e in absurd (cc z)
    ]

-- a list has its last item
pub contains_last : {X : Type 0} (xs : List X) (x : X) → Contains (xs ++ x ∷ []) x
contains_last xs x = Contains-append_right xs (x ∷ []) x (0, omega arith, refl)

-- a list of one item has no other
pub contains_one : {X : Type 0} (x y : X) → Contains (x ∷ []) y → y ≡ x
contains_one x y (zero, lt, e) = sym e
contains_one x y (suc k, lt, e) = absurd (omega arith)

-- an empty list has none
pub contains_none : {X : Type 0} (y : X) → Contains [] y → ⊥
contains_none y (k, lt, e) = absurd (omega arith)

-- a path comes to a place to which one was found before
pub same_known : (stacks : List Kinds) (table : Table) (to : ℕ) {other : ℕ} {s : Kinds} → at_place table to ≡ Some other → other < length stacks → (b : Bool) → IsTrue b ↔ (stack_at stacks other ≡ s) → KnownOrMisses stacks to s b table
same_known stacks table to {other = other} e lt true same = (other, e, lt, same.0 refl)
same_known stacks table to {other = other} e lt false same = inr (other, e, lt, λ f. (let z = same.1 f in absurd (cc z)))

module _ (stacks : List Kinds) (table : Table) (todo : List ℕ) where
  -- a path comes to a place to which none was found before
  pub one_new : (to id : ℕ) → to < length table → at_place table to ≡ None → id < length stacks → Arrives stacks (λ p. p ≡ to) (stack_at stacks id) table todo (set table to (Some id)) (todo ++ to ∷ [])
  one_new to id lt none lt' =
      let same : at_place (set table to (Some id)) to ≡ Some id = get_or-set_same table to (Some id) None lt in
      let s = sum_by-set one_if_none table to (Some id) None lt in
      let f : one_if_none (at_place table to) ≡ 1 = ap one_if_none none in
      let l = length-append todo (to ∷ []) in
      record {
        long = length-set table to (Some id);
        keeps = λ p i e. elim (cases_eq p to) [
          | inl h ↦ let z : None ≡ Some i = sym none ∙ ap (λ q. at_place table q) (sym h) ∙ e in absurd (cc z)
          | inr h ↦ get_or-set_other table to p (Some id) None h ∙ e
        ];
        new = λ p i e. elim (cases_eq p to) [
          | inl h ↦
              let z : Some id ≡ Some i = sym same ∙ ap (λ q. at_place (set table to (Some id)) q) (sym h) ∙ e in
              let j : id ≡ i = cc in
              inr (h, subst (λ x. x < length stacks) j lt', ap (λ x. stack_at stacks x) (sym j), subst (λ q. Contains (todo ++ to ∷ []) q) (sym h) (contains_last todo to))
          | inr h ↦ inl (sym (get_or-set_other table to p (Some id) None h) ∙ e)
        ];
        todo_keeps = λ p c. Contains-append_left todo (to ∷ []) p c;
        todo_new = λ p c. elim (Contains-append_cases todo (to ∷ []) p c) [
          | inl h ↦ inl h
          | inr h ↦ inr (id, ap (λ q. at_place (set table to (Some id)) q) (contains_one to p h) ∙ same)
        ];
        fewer = omega (arith, s, f, l);
      }

module _ {stacks : List Kinds} {s : Kinds} {table : Table} {todo : List ℕ} {table' : Table} {todo' : List ℕ} where
  -- the numbers are those of stacks
  pub numbers_kept : {Onto : ℕ → Type 0} → Arrives stacks Onto s table todo table' todo' → AreNumbers stacks table → AreNumbers stacks table'
  numbers_kept a numbers p id e = elim (a.new p id e) [ inl h ↦ numbers p id h | inr h ↦ h.1 ]

  -- what was known is known
  pub known_kept : {Onto : ℕ → Type 0} → Arrives stacks Onto s table todo table' todo' → (p : ℕ) (t : Kinds) → Known stacks table p t → Known stacks table' p t
  known_kept a p t k = (k.0, a.keeps p k.0 k.1, k.2, k.3)

  -- first to some places and then to others
  pub arrives_both : {Onto Onto' : ℕ → Type 0} {table'' : Table} {todo'' : List ℕ} → Arrives stacks Onto s table todo table' todo' → Arrives stacks Onto' s table' todo' table'' todo'' → Arrives stacks (λ p. Onto p ⊎ Onto' p) s table todo table'' todo''
  arrives_both a b =
      let f = a.fewer in
      let g = b.fewer in
      record {
        long = b.long ∙ a.long;
        keeps = λ p id e. b.keeps p id (a.keeps p id e);
        new = λ p id e. elim (b.new p id e) [
          | inl h ↦ elim (a.new p id h) [ inl g ↦ inl g | inr g ↦ inr (inl g.0, g.1, g.2, b.todo_keeps p g.3) ]
          | inr h ↦ inr (inr h.0, h.1, h.2, h.3)
        ];
        todo_keeps = λ p c. b.todo_keeps p (a.todo_keeps p c);
        todo_new = λ p c. elim (b.todo_new p c) [
          | inl h ↦ elim (a.todo_new p h) [ inl g ↦ inl g | inr g ↦ inr (g.0, b.keeps p g.0 g.1) ]
          | inr h ↦ inr h
        ];
        fewer = omega (arith, f, g);
      }

-- the two ways behind a test
module _ {stacks : List Kinds} {s : Kinds} {next : Next} (at : ℕ) {to : ℕ} (e : next ≡ Either to) where
  -- what is new is at one of the two
  pub either_arrives : {t t' t'' : Table} {d d' d'' : List ℕ} → Arrives stacks (λ p. p ≡ to) s t d t' d' → Arrives stacks (λ p. p ≡ at + 1) s t' d' t'' d'' → Arrives stacks (λ p. Leads next at p) s t d t'' d''
  either_arrives {t = t} {t'' = t''} {d = d} {d'' = d''} a b = subst (λ n. Arrives stacks (λ p. Leads n at p) s t d t'' d'') (sym e) (arrives_both a b)

  -- the code goes on at both, or not at the second
  pub either_goes : {t t' : Table} {d d' : List ℕ} → Known stacks t to s → Arrives stacks (λ p. p ≡ at + 1) s t d t' d' → (b : Bool) → KnownOrMisses stacks (at + 1) s b t' → GoesOn stacks next at s b t'
  either_goes {t' = t'} k a true h = subst (λ n. GoesOn stacks n at s true t') (sym e) (λ p l. elim l [
    | inl z ↦ subst (λ q. Known stacks t' q s) (sym z) (known_kept a to s k)
    | inr z ↦ subst (λ q. Known stacks t' q s) (sym z) h
  ])
  either_goes {t' = t'} k a false h = subst (λ n. GoesOn stacks n at s false t') (sym e) (at + 1, inr refl, h)

-- what is known among more stacks was known
known_before : (stacks stacks' : List Kinds) (table : Table) → AreNumbers stacks table → Extends stacks stacks' → (at : ℕ) (s : Kinds) → Known stacks' table at s → Known stacks table at s
known_before stacks stacks' table numbers x at s k =
    let lt = numbers at k.0 k.1 in
    (k.0, k.1, lt, sym (extends_at stacks stacks' x k.0 lt) ∙ k.3)

-- and the other way
known_after : (stacks stacks' : List Kinds) (table : Table) → Extends stacks stacks' → (at : ℕ) (s : Kinds) → Known stacks table at s → Known stacks' table at s
known_after stacks stacks' table x at s k =
    let l = ap length x.1 in
    let m = length-append stacks x.0 in
    let lt = k.2 in
    (k.0, k.1, omega (arith, l, m, lt), extends_at stacks stacks' x k.0 k.2 ∙ k.3)

module _ {image : Image} {own : ℕ} {code : List Instr} {depth : ℕ} where
  -- where more is known a place that the search has gone on from is so
  passed_more : (stacks stacks' : List Kinds) (table table' : Table) → ((at : ℕ) (s : Kinds) → Known stacks table at s → Known stacks' table' at s) → (at : ℕ) (s : Kinds) → Passed image own code depth stacks table at s → Passed image own code depth stacks' table' at s
  passed_more stacks stacks' table table' f at s p =
      record { instr = p.instr; stands = p.stands; left = p.left; finds = p.finds; few = p.few; on = λ to l. f to p.left (p.on to l) }

  -- a search stays as it is when stacks are made
  pub more_stacks : (stacks stacks' : List Kinds) (table : Table) (todo : List ℕ) → Extends stacks stacks' → Explored image own code depth stacks table todo → Explored image own code depth stacks' table todo
  more_stacks stacks stacks' table todo x e =
      let l = ap length x.1 in
      let m = length-append stacks x.0 in
      record {
        long = e.long;
        numbers = λ at id is. (let lt = e.numbers at id is in omega (arith, l, m, lt));
        begins = known_after stacks stacks' table x 0 [] e.begins;
        comes = λ at s k. e.comes at s (known_before stacks stacks' table e.numbers x at s k);
        passed = λ at s k. elim (e.passed at s (known_before stacks stacks' table e.numbers x at s k)) [
          | inl h ↦ inl h
          | inr h ↦ inr (passed_more stacks stacks' table table (known_after stacks stacks' table x) at s h)
        ];
        known = e.known;
      }

  -- a place at which the search goes on, with its stack
  module _ {stacks : List Kinds} {table : Table} (todo : List ℕ) (at : ℕ) (e : Explored image own code depth stacks table (todo ++ at ∷ [])) where
    -- it is a place of the code
    within : at < length code
    within =
        let k = e.known at (contains_last todo at) in
        let lt = entry_within table at k.0 k.1 in
        let l = e.long in
        omega (arith, lt, l)

    -- what code reads at that place
    pub read_here : (r : Option ℕ) → r ≡ get_or table at r → at_place table at ≡ r
    read_here r = let lt = within in let l = e.long in entry_read table at r (omega (arith, lt, l))

    -- it has a number
    pub not_none : at_place table at ≡ None → ⊥
    not_none n = let k = e.known at (contains_last todo at) in let z = sym n ∙ k.1 in absurd (cc z)

    module _ {id : ℕ} (is : at_place table at ≡ Some id) where
      -- this is the number of a stack
      pub is_number : id < length stacks
      is_number = e.numbers at id is

      -- that stack is known
      known_here : Known stacks table at (stack_at stacks id)
      known_here = (id, is, e.numbers at id is, refl)

      -- a path comes with it
      comes_here : Comes image own code at (stack_at stacks id)
      comes_here = e.comes at (stack_at stacks id) known_here

      -- it is not higher than the depth of sound code
      pub too_many : depth < length (stack_at stacks id) → ArePathsSound image own code depth → ⊥
      too_many lt sound = let f = sound.few at (stack_at stacks id) comes_here in absurd (omega arith)

      module _ {i : Instr} (stands : slice_get code at ≡ Some i) where
        -- in sound code the instruction finds what it takes
        pub not_found : after image own i (stack_at stacks id) ≡ None → ArePathsSound image own code depth → ⊥
        not_found n sound =
            let f = sound.find at (stack_at stacks id) comes_here in
            let j : Some i ≡ Some f.instr = sym stands ∙ f.stands in
            let k : i ≡ f.instr = cc in
            let z : None ≡ Some f.left = sym n ∙ ap (λ x. after image own x (stack_at stacks id)) k ∙ f.finds in
            absurd (cc z)

        module _ (few : length (stack_at stacks id) ≤ depth) {s : Kinds} (finds : after image own i (stack_at stacks id) ≡ Some s) {table' : Table} {todo' : List ℕ} (a : Arrives stacks (λ p. Leads (next_of i) at p) s table todo table' todo') where
          -- a path goes on with what is left
          comes_on : (p : ℕ) → Leads (next_of i) at p → Comes image own code p s
          comes_on p l = Goes comes_here i stands s finds p l

          -- what is known after the step are paths
          comes_to : (p : ℕ) (t : Kinds) → Known stacks table' p t → Comes image own code p t
          comes_to p t k = elim (a.new p k.0 k.1) [
            | inl h ↦ e.comes p t (k.0, h, k.2, k.3)
            | inr h ↦ subst (λ u. Comes image own code p u) (sym h.2 ∙ k.3) (comes_on p h.0)
          ]

          -- in sound code no way on is missed
          pub misses : (to : ℕ) × Leads (next_of i) at to × Misses stacks table' to s → ArePathsSound image own code depth → ⊥
          misses m sound = elim m.2 [
            | inl past ↦
                let f = sound.find m.0 s (comes_on m.0 m.1) in
                let lt = slice_get_within code m.0 f.instr f.stands in
                let l = a.long in
                let l' = e.long in
                absurd (omega (arith, lt, l, l', past))
            | inr other ↦ other.3 (sound.same m.0 (stack_at stacks other.0) s (comes_to m.0 (stack_at stacks other.0) (other.0, other.1, other.2, refl)) (comes_on m.0 m.1))
          ]

          -- the search has gone on from here
          here_passed : ((to : ℕ) → Leads (next_of i) at to → Known stacks table' to s) → Passed image own code depth stacks table' at (stack_at stacks id)
          here_passed on = record { instr = i; stands = stands; left = s; finds = finds; few = few; on = on }

          -- from what was known the search has gone on or is to go on
          old_passed : ((to : ℕ) → Leads (next_of i) at to → Known stacks table' to s) → (p : ℕ) (t : Kinds) → Known stacks table p t → Contains todo' p ⊎ Passed image own code depth stacks table' p t
          old_passed on p t k = elim (e.passed p t k) [
            | inl c ↦ elim (Contains-append_cases todo (at ∷ []) p c) [
              | inl h ↦ inl (a.todo_keeps p h)
              | inr h ↦
                  let z : p ≡ at = contains_one at p h in
                  let y : Some id ≡ Some k.0 = sym is ∙ ap (λ q. at_place table q) (sym z) ∙ k.1 in
                  let j : id ≡ k.0 = cc in
                  let w : stack_at stacks id ≡ t = ap (λ q. stack_at stacks q) j ∙ k.3 in
                  inr (subst (λ q. Passed image own code depth stacks table' q t) (sym z) (subst (λ u. Passed image own code depth stacks table' at u) w (here_passed on)))
            ]
            | inr h ↦ inr (passed_more stacks stacks table table' (known_kept a) p t h)
          ]

          -- so the step keeps what a search knows
          pub goes : ((to : ℕ) → Leads (next_of i) at to → Known stacks table' to s) → Explored image own code depth stacks table' todo'
          goes on =
              record {
                long = a.long ∙ e.long;
                numbers = numbers_kept a e.numbers;
                begins = known_kept a 0 [] e.begins;
                comes = comes_to;
                passed = λ p t k. elim (a.new p k.0 k.1) [
                  | inl h ↦ old_passed on p t (k.0, h, k.2, k.3)
                  | inr h ↦ inl h.3
                ];
                known = λ p c. elim (a.todo_new p c) [
                  | inl h ↦ let k = e.known p (Contains-append_left todo (at ∷ []) p h) in (k.0, a.keeps p k.0 k.1)
                  | inr h ↦ h
                ];
              }

  -- the last of the places at which the search goes on
  pub last_within : {stacks : List Kinds} {table : Table} {todo : List ℕ} (rest : List ℕ) (at : ℕ) → todo ≡ rest ++ at ∷ [] → Explored image own code depth stacks table todo → at < length code
  last_within {stacks = stacks} {table = table} rest at is e = within rest at (subst (λ t. Explored image own code depth stacks table t) is e)

-- what is left, where code gives a number
pub stack_found : (stacks : List Kinds) (r : Option ℕ) (id : ℕ) (o : Option Kinds) → r ≡ Some id → Means stacks r o → (id < length stacks) × (o ≡ Some (stack_at stacks id))
stack_found stacks r id o e m = subst (λ x. Means stacks x o) e m

-- nothing is found, where it gives none
pub stack_not_found : (stacks : List Kinds) (r : Option ℕ) (o : Option Kinds) → r ≡ None → Means stacks r o → o ≡ None
stack_not_found stacks r o e m = subst (λ x. Means stacks x o) e m

-- one step of a search, where more stacks were made on its way
module _ {image : Image} {own : ℕ} {code : List Instr} {depth : ℕ} {stacks stacks' : List Kinds} (x : Extends stacks stacks') {table : Table} (todo : List ℕ) (at : ℕ) (e : Explored image own code depth stacks table (todo ++ at ∷ [])) {id : ℕ} (is : at_place table at ≡ Some id) {i : Instr} (stands : slice_get code at ≡ Some i) (few : length (stack_at stacks id) ≤ depth) where
  -- where all ways are gone the search goes on, and else the paths are not sound
  pub step_on : {next : Next} {effect : Effect} {s : Kinds} {table' : Table} {todo' : List ℕ} → next ≡ next_of i → effect ≡ effect_of i → left_by image own effect (stack_at stacks id) ≡ Some s → Arrives stacks' (λ p. Leads next at p) s table todo table' todo' → (b : Bool) → GoesOn stacks' next at s b table' → ExploredOrUnsound image own code depth b stacks' table' todo'
  step_on {next = next} {s = s} {table' = table'} {todo' = todo'} n m f a b l =
      let e' = more_stacks stacks stacks' table (todo ++ at ∷ []) x e in
      let z : stack_at stacks' id ≡ stack_at stacks id = extends_at stacks stacks' x id (e.numbers at id is) in
      let few' : length (stack_at stacks' id) ≤ depth = subst (λ t. length t ≤ depth) (sym z) few in
      let f' : after image own i (stack_at stacks' id) ≡ Some s = ap (λ t. left_by image own (effect_of i) t) z ∙ ap (λ q. left_by image own q (stack_at stacks id)) (sym m) ∙ f in
      let a' : Arrives stacks' (λ p. Leads (next_of i) at p) s table todo table' todo' = subst (λ q. Arrives stacks' (λ p. Leads q at p) s table todo table' todo') n a in
      let l' : GoesOn stacks' (next_of i) at s b table' = subst (λ q. GoesOn stacks' q at s b table') n l in
      (elim b as (λ c. GoesOn stacks' (next_of i) at s c table' → ExploredOrUnsound image own code depth c stacks' table' todo') [
        | true ↦ λ h. goes todo at e' is stands few' f' a' h
        | false ↦ λ h. misses todo at e' is stands few' f' a' h
      ]) l'
