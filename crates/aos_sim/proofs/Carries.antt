-- What is left of a body, and where its code has come to.
use Rattle.std.proofs.Common.{◌≡◌, ◌≢◌, ◌⊎◌, ap, ℕ, suc, ◌+◌, ◌<◌, ◌≤◌, Option, Some, None, Bool, true, false, List, [], ◌∷◌, ◌++◌, length, drop, refl, sym, ◌∙◌, subst, arith, append_assoc, length-append}
use Rattle.std.specs.Prelude.{ℤ, nat_eq, if◌then◌else◌, option_map}
use Rattle.std.proofs.lemmas.Bool.{eq-eqb, eqb-true}
use Rattle.std.proofs.Math.Nat.{le-max_left, le-max_right}
use Rattle.aos_base.specs.declared.text.Pos.{Pos}
use Rattle.aos_base.specs.declared.number.Width.{Width}
use Rattle.aos_base.specs.Number.{IsWithin}
use Rattle.aos_base.specs.declared.kernel.LockName.{LockName}
use Rattle.aos_base.specs.declared.kernel.LockName.TheVariants.{Module}
use Rattle.aos_base.specs.Question.{Val, Asks, Traps, Ends, Enters, Leaves, feed}
use Rattle.aos_types.specs.Content.{Content}
use Rattle.aos_types.specs.World.{World}
use Rattle.aos_typed.specs.declared.tree.TType.{TType}
use Rattle.aos_typed.specs.declared.tree.TType.TheVariants.{Integer}
use Rattle.aos_typed.specs.Numbers.{id_of}
use Rattle.aos_typed.specs.Program.{Place, Stat, Repeat, Stats, Nothing, Then, Procedure, Program}
use Rattle.aos_typed.specs.Routines.{result_of}
use Rattle.aos_typed.specs.Sort.{Sort}
use Rattle.aos_typed.specs.Value.{Value}
use Rattle.aos_typed.specs.Meaning.{Here, Item, Do, Rounds, Round, Until, Region, End, Gives, After, Into, Returns, Exits, leave, leave_all, items_of, item_of, stat_of, pos_of}
use Rattle.aos_typed.specs.Conditions.{conditions, IsLinked, AreLinked}
use Rattle.aos_typed.specs.WellTyped.{IsPlaceOf, IsStatement, AreStatements}
use Rattle.aos_typed.specs.Source.{locks_in}
use Rattle.aos_layout.specs.Layout.{kind_of}
use Rattle.aos_code.specs.declared.instr.Cell.{Cell}
use Rattle.aos_code.specs.declared.instr.Cell.TheVariants.{Num}
use Rattle.aos_code.specs.declared.instr.Instr.{Instr}
use Rattle.aos_code.specs.declared.instr.Instr.TheVariants.{Leave}
use Rattle.aos_code.specs.declared.image.ProcShape.{ProcShape}
use Rattle.aos_code.specs.Numbered.{numbered}
use Rattle.aos_code.specs.Silent.{Stack, Keeps, kept, keeps_in}
use Rattle.aos_sim.specs.Cells.{cell_of}
use Rattle.aos_sim.specs.Code.{Within, NoRegion, AroundLoop, InLoop, Ways, block_ways, loop_within, loop_ways, block_code, stat_code, stats_code, rounds_code, end_code}
use Rattle.aos_sim.specs.Need.{stat_level, stats_level}
use Rattle.aos_sim.proofs.Runs.{Run, Tables, AtBegin, run, drop_past}
use Rattle.aos_sim.proofs.Regions.{leave_marks}
use Rattle.aos_sim.proofs.Does.{HasTypes, HasShapes, Knows, IsResult, Does, Lasts}

-- keeps that are the same below a level
abbrev pub Below : ℕ → Keeps → Keeps → Type 0
Below d k k' = (c : ℕ) → c < d → k c ≡ k' c

pub kept_here : (c : ℕ) (v : Cell) (k : Keeps) → kept c v k c ≡ v
kept_here c v k = by (nat_eq c c) (eq-eqb c c refl)
  where
    by : (b : Bool) → b ≡ true → (if b then v else k c) ≡ v
    by true e = refl
    by false e = absurd (cc)

pub kept_below : (d c : ℕ) (v : Cell) (k : Keeps) → d ≤ c → Below d k (kept c v k)
kept_below d c v k le x lt = by (nat_eq x c) refl
  where
    by : (b : Bool) → nat_eq x c ≡ b → k x ≡ (if b then v else k x)
    by true e = let h : x ≡ c = eqb-true x c e in absurd (omega (arith, h, le, lt))
    by false e = refl

-- these instructions stand at this place
pub record Stands (code : List Instr) (at : ℕ) (xs : List Instr) : Type 0 where
  pub rest : List Instr
  pub here : drop at code ≡ xs ++ rest

-- code knows what the procedure with this number gives
abbrev pub IsOwn : Program → Option Procedure → Tables → ℕ → Type 0
IsOwn program own tables number =
    (f : ProcShape) × (numbered tables.procedures number ≡ Some f) × (f.result ≡ option_map (λ t. kind_of program.types (id_of t)) (result_of own))

-- where no item is left: the end of the frame, or a function's trap
abbrev pub AtEnd : Option TType → Run → Type 0
AtEnd None m = (g : Cell → Run) × (m ≡ Asks (Ends None) g)
AtEnd (Some t) m = m ≡ Traps 10 0

-- the locks of the regions that statements stand in
abbrev pub locks_within : LockName → Within → List LockName
locks_within l NoRegion = []
locks_within l AroundLoop = l ∷ []
locks_within l InLoop = l ∷ []

-- what a RETURN there leaves of the items
abbrev pub returned : Within → Option Value → List Item
returned NoRegion r = Gives r ∷ []
returned AroundLoop r = End ∷ (Gives r ∷ [])
returned InLoop r = End ∷ (Gives r ∷ [])

loop_locks : (l : LockName) (u : Within) → locks_within l u ≡ locks_within l (loop_within u)
loop_locks l NoRegion = refl
loop_locks l AroundLoop = refl
loop_locks l InLoop = refl

loop_returned : (r : Option Value) (u : Within) → returned u r ≡ returned (loop_within u) r
loop_returned r NoRegion = refl
loop_returned r AroundLoop = refl
loop_returned r InLoop = refl

loop_not : (u : Within) → loop_within u ≡ InLoop → ⊥
loop_not NoRegion e = cc e
loop_not AroundLoop e = cc e
loop_not InLoop e = cc e

abbrev pub any_lock : LockName
any_lock = Module 0

pub none_within : (l : LockName) (u : Within) → locks_within l u ≡ [] → u ≡ NoRegion
none_within l NoRegion e = refl
none_within l AroundLoop e = absurd (cc e)
none_within l InLoop e = absurd (cc e)

module _ (program : Program) (own : Option Procedure) (tables : Tables) (number : ℕ) (here : Here) (code : List Instr) where
  -- from both places the code does the same
  abbrev pub Same : ℕ → ℕ → Type 0
  Same p q = (k : Keeps) (s : Stack) → run tables number here code p k s ≡ run tables number here code q k s

  -- the procedure keeps something under so many numbers at most
  abbrev pub Holds : ℕ → Type 0
  Holds n = n ≤ keeps_in (numbered tables.procedures number)

  -- the code of a well-typed statement stands at this place, and of well-typed statements, whose AWAITs lead to their conditions
  pub record HasStatement (s : Stat) (at : ℕ) (ways : Ways) (level : ℕ) : Type 0 where
    pub stands : Stands code at (stat_code program own s at ways level)
    pub typed : IsStatement program own s
    pub home : ℕ
    pub linked : IsLinked (conditions program) home own s
    pub holds : Holds (stat_level s level)

  pub record HasStatements (ss : Stats) (at : ℕ) (ways : Ways) (level : ℕ) : Type 0 where
    pub stands : Stands code at (stats_code program own ss at ways level)
    pub typed : AreStatements program own ss
    pub home : ℕ
    pub linked : AreLinked (conditions program) home own ss
    pub holds : Holds (stats_level ss level)

  -- and of the rounds of a FOR
  pub record HasRounds (there : Pos) (w : Width) (p : Place) (step : ℤ) (b : Stats) (at : ℕ) (ways : Ways) (level : ℕ) : Type 0 where
    pub stands : Stands code at (rounds_code program own there w p step b at ways level)
    pub place : IsPlaceOf program own p (Integer w)
    pub within : IsWithin w step
    pub body : AreStatements program own b
    pub home : ℕ
    pub linked : AreLinked (conditions program) home own b
    pub holds : Holds (stats_level b (suc level))

  -- and of a region
  pub record HasRegion (ss : Stats) (at : ℕ) (ways : Ways) (level : ℕ) : Type 0 where
    pub stands : Stands code at (block_code true (stats_code program own ss (at + 1) (block_ways true ways) level))
    pub typed : AreStatements program own ss
    pub home : ℕ
    pub linked : AreLinked (conditions program) home own ss
    pub holds : Holds (stats_level ss level)

  -- The code at a place carries out these items, and then the end of the frame. EXIT leads where what is behind the innermost LOOP is
  -- carried out, and else to the end of the frame. The items need what is kept below the level alone: that is the last value of each
  -- FOR that they are in, whose rounds have a lower level themselves. The region that statements stand in has its mark among the items
  -- behind them. A result is no item that code is carried out for here: it lies on the stack.
  abbrev pub Carries : List Item → (at : ℕ) → Ways → (level : ℕ) → Keeps → Type 0
  Carries [] at x d k =
      (p : ℕ) × (at ≤ x.exit) × Same at p × Stands code p (end_code program own) × Stands code x.exit (end_code program own) × (x.within ≡ NoRegion)
  Carries (Do s ∷ is) at x d k =
      (p : ℕ) × (at ≤ x.exit) × Same at p × HasStatement s p x d × Carries is (p + length (stat_code program own s p x d)) x d k
  Carries (Rounds there w q last step b ∷ is) at x d k =
      (p : ℕ) × (at ≤ x.exit) × Same at p
      × ((e : ℕ) × (e < d) × HasRounds there w q step b p x e × (k e ≡ Num last) × Carries is (p + length (rounds_code program own there w q step b p x e)) x e k)
  Carries (Round s ∷ is) at x d k =
      (p : ℕ) × (at ≤ x.exit) × Same at p
      × ((outer : Ways) × HasStatement s p outer d × (x ≡ loop_ways (p + length (stat_code program own s p outer d)) outer) × Carries is x.exit outer d k)
  Carries (Until there b e ∷ is) at x d k =
      (p : ℕ) × (at ≤ x.exit) × Same at (p + 1 + length (stats_code program own b (p + 1) x d)) × HasStatement (Repeat there b e) p x d
      × Carries is (p + length (stat_code program own (Repeat there b e) p x d)) x d k
  Carries (Region ss ∷ is) at x d k =
      (p : ℕ) × (at ≤ x.exit) × Same at p × HasRegion ss p x d
      × Carries is (p + length (block_code true (stats_code program own ss (p + 1) (block_ways true x) d))) x d k
  Carries (End ∷ is) at x d k =
      (p : ℕ) × (at ≤ x.exit) × Same at p
      × ((outer : Ways) × Stands code p (Leave ∷ []) × (x ≡ block_ways true outer) × (outer.within ≡ NoRegion) × Carries is (p + 1) outer d k)
  Carries (Gives r ∷ is) at x d k = ⊥

  pub bound : (is : List Item) (at : ℕ) (x : Ways) (d : ℕ) (k : Keeps) → Carries is at x d k → at ≤ x.exit
  bound [] at x d k c = c.1
  bound (Do s ∷ is) at x d k c = c.1
  bound (Rounds there w q last step b ∷ is) at x d k c = c.1
  bound (Round s ∷ is) at x d k c = c.1
  bound (Until there b e ∷ is) at x d k c = c.1
  bound (Region ss ∷ is) at x d k c = c.1
  bound (End ∷ is) at x d k c = c.1
  bound (Gives r ∷ is) at x d k c = absurd c

  -- from a place that leads on to where they are carried out
  pub moved : (is : List Item) (p q : ℕ) (x : Ways) (d : ℕ) (k : Keeps) → p ≤ x.exit → Same p q → Carries is q x d k → Carries is p x d k
  moved [] p q x d k le e c = (c.0, le, (λ k' s. e k' s ∙ c.2 k' s), c.3, c.4, c.5)
  moved (Do s ∷ is) p q x d k le e c = (c.0, le, (λ k' s. e k' s ∙ c.2 k' s), c.3, c.4)
  moved (Rounds there w a last step b ∷ is) p q x d k le e c = (c.0, le, (λ k' s. e k' s ∙ c.2 k' s), c.3)
  moved (Round s ∷ is) p q x d k le e c = (c.0, le, (λ k' s. e k' s ∙ c.2 k' s), c.3)
  moved (Until there b a ∷ is) p q x d k le e c = (c.0, le, (λ k' s. e k' s ∙ c.2 k' s), c.3, c.4)
  moved (Region ss ∷ is) p q x d k le e c = (c.0, le, (λ k' s. e k' s ∙ c.2 k' s), c.3, c.4)
  moved (End ∷ is) p q x d k le e c = (c.0, le, (λ k' s. e k' s ∙ c.2 k' s), c.3)
  moved (Gives r ∷ is) p q x d k le e c = absurd c

  -- a change of what is kept from the level on
  pub survives : (is : List Item) (at : ℕ) (x : Ways) (d : ℕ) (k k' : Keeps) → Below d k k' → Carries is at x d k → Carries is at x d k'
  survives [] at x d k k' e c = c
  survives (Do s ∷ is) at x d k k' e c =
      (c.0, c.1, c.2, c.3, survives is (c.0 + length (stat_code program own s c.0 x d)) x d k k' e c.4)
  survives (Rounds there w q last step b ∷ is) at x d k k' e c =
      let n = c.3.0 in
      (c.0, c.1, c.2, (n, c.3.1, c.3.2, sym (e n c.3.1) ∙ c.3.3, survives is (c.0 + length (rounds_code program own there w q step b c.0 x n)) x n k k' (λ i lt. e i (under i n d lt c.3.1)) c.3.4))
    where
      under : (i n d : ℕ) → i < n → n < d → i < d
      under i n d a b = omega (arith, a, b)
  survives (Round s ∷ is) at x d k k' e c = (c.0, c.1, c.2, (c.3.0, c.3.1, c.3.2, survives is x.exit c.3.0 d k k' e c.3.3))
  survives (Until there b a ∷ is) at x d k k' e c =
      (c.0, c.1, c.2, c.3, survives is (c.0 + length (stat_code program own (Repeat there b a) c.0 x d)) x d k k' e c.4)
  survives (Region ss ∷ is) at x d k k' e c =
      (c.0, c.1, c.2, c.3, survives is (c.0 + length (block_code true (stats_code program own ss (c.0 + 1) (block_ways true x) d))) x d k k' e c.4)
  survives (End ∷ is) at x d k k' e c = (c.0, c.1, c.2, (c.3.0, c.3.1, c.3.2, c.3.3, survives is (c.0 + 1) c.3.0 d k k' e c.3.4))
  survives (Gives r ∷ is) at x d k k' e c = absurd c

  -- the region that statements stand in has the one mark of the items behind them
  pub marks_behind : (is : List Item) (at : ℕ) (x : Ways) (d : ℕ) (k : Keeps) → Carries is at x d k → (l : LockName) → locks_in l is ≡ locks_within l x.within
  marks_behind [] at x d k c l = ap (locks_within l) (sym c.5)
  marks_behind (Do s ∷ is) at x d k c l = marks_behind is (c.0 + length (stat_code program own s c.0 x d)) x d k c.4 l
  marks_behind (Rounds there w q last step b ∷ is) at x d k c l =
      marks_behind is (c.0 + length (rounds_code program own there w q step b c.0 x c.3.0)) x c.3.0 k c.3.4 l
  marks_behind (Round s ∷ is) at x d k c l =
      marks_behind is x.exit c.3.0 d k c.3.3 l ∙ loop_locks l c.3.0.within ∙ ap (λ (y : Ways). locks_within l y.within) (sym c.3.2)
  marks_behind (Until there b e ∷ is) at x d k c l = marks_behind is (c.0 + length (stat_code program own (Repeat there b e) c.0 x d)) x d k c.4 l
  marks_behind (Region ss ∷ is) at x d k c l =
      marks_behind is (c.0 + length (block_code true (stats_code program own ss (c.0 + 1) (block_ways true x) d))) x d k c.4 l
  marks_behind (End ∷ is) at x d k c l =
      ap (λ ls. l ∷ ls) (marks_behind is (c.0 + 1) c.3.0 d k c.3.4 l ∙ ap (locks_within l) c.3.3) ∙ ap (λ (y : Ways). locks_within l y.within) (sym c.3.2)
  marks_behind (Gives r ∷ is) at x d k c l = absurd c

  -- where a run goes on with the code that carries out these items
  pub record GoesOn (is : List Item) (m : Run) : Type 0 where
    pub at : ℕ
    pub ways : Ways
    pub level : ℕ
    pub keeps : Keeps
    pub runs : m ≡ run tables number here code at keeps []
    pub carries : Carries is at ways level keeps

  -- where a run gives a result of the procedure's type: at the end of the frame, or behind the end of its region
  abbrev pub GivesBack : World Sort → Option Value → Run → Type 0
  GivesBack w r m = (g : Cell → Run) × (m ≡ Asks (Ends (option_map (cell_of w) r)) g) × IsResult program w (result_of own) r

  abbrev pub LeavesFirst : World Sort → Option Value → Run → Type 0
  LeavesFirst w r m = (g : Cell → Run) × (m ≡ Asks Leaves g) × ((x : Cell) → GivesBack w r (g x))

  abbrev pub Returning : World Sort → Option Value → List Item → Run → Type 0
  Returning w r is m = ((is ≡ Gives r ∷ []) × GivesBack w r m) ⊎ ((is ≡ End ∷ (Gives r ∷ [])) × LeavesFirst w r m)

  -- what the code does where these items are next
  abbrev pub Rests : World Sort → List Item → Run → Type 0
  Rests w is m = GoesOn is m ⊎ ((r : Option Value) × Returning w r is m)

  -- what follows a statement is what the code goes on with, and with the items after it; or the code gives a result, once it has left
  -- the region
  abbrev pub Behind : List Item → World Sort → After → Run → Type 0
  Behind after w (Into is) m = GoesOn (is ++ after) m
  Behind after w (Returns r) m = Returning w r (leave_all r after) m
  Behind after w Exits m = GoesOn (leave after) m

  -- behind the innermost LOOP: EXIT leads there where it leaves no region
  pub outside : (is : List Item) (at : ℕ) (x : Ways) (d : ℕ) (k : Keeps) → Carries is at x d k → x.within ≢ InLoop → (y : Ways) × (e : ℕ) × Carries (leave is) x.exit y e k
  outside [] at x d k c never = (x, d, (x.exit, omega arith, (λ k s. refl), c.4, c.4, c.5))
  outside (Do s ∷ is) at x d k c never = outside is (c.0 + length (stat_code program own s c.0 x d)) x d k c.4 never
  outside (Rounds there w q last step b ∷ is) at x d k c never =
      outside is (c.0 + length (rounds_code program own there w q step b c.0 x c.3.0)) x c.3.0 k c.3.4 never
  outside (Round s ∷ is) at x d k c never = (c.3.0, d, c.3.3)
  outside (Until there b e ∷ is) at x d k c never = outside is (c.0 + length (stat_code program own (Repeat there b e) c.0 x d)) x d k c.4 never
  outside (Region ss ∷ is) at x d k c never =
      outside is (c.0 + length (block_code true (stats_code program own ss (c.0 + 1) (block_ways true x) d))) x d k c.4 never
  outside (End ∷ is) at x d k c never = absurd (never (ap (λ (y : Ways). y.within) c.3.2))
  outside (Gives r ∷ is) at x d k c never = absurd c

  -- and where it leaves one, the end of that stands where EXIT is
  pub leaving : (is : List Item) (at : ℕ) (x : Ways) (d : ℕ) (k : Keeps) (p : ℕ) → Carries is at x d k → x.within ≡ InLoop → p + 1 ≤ x.exit → Stands code p (Leave ∷ []) → Same (p + 1) x.exit → (y : Ways) × (e : ℕ) × Carries (leave is) p y e k
  leaving [] at x d k p c is_in le stands same = absurd (let no : NoRegion ≡ InLoop = sym c.5 ∙ is_in in cc no)
  leaving (Do s ∷ is) at x d k p c is_in le stands same = leaving is (c.0 + length (stat_code program own s c.0 x d)) x d k p c.4 is_in le stands same
  leaving (Rounds there w q last step b ∷ is) at x d k p c is_in le stands same =
      leaving is (c.0 + length (rounds_code program own there w q step b c.0 x c.3.0)) x c.3.0 k p c.3.4 is_in le stands same
  leaving (Round s ∷ is) at x d k p c is_in le stands same = absurd (loop_not c.3.0.within (sym (ap (λ (y : Ways). y.within) c.3.2) ∙ is_in))
  leaving (Until there b e ∷ is) at x d k p c is_in le stands same =
      leaving is (c.0 + length (stat_code program own (Repeat there b e) c.0 x d)) x d k p c.4 is_in le stands same
  leaving (Region ss ∷ is) at x d k p c is_in le stands same =
      leaving is (c.0 + length (block_code true (stats_code program own ss (c.0 + 1) (block_ways true x) d))) x d k p c.4 is_in le stands same
  leaving (End ∷ is) at x d k p c is_in le stands same =
      let outer = c.3.0 in
      let there : x.exit ≡ outer.exit = ap (λ (y : Ways). y.exit) c.3.2 in
      let b = outside is (c.0 + 1) outer d k c.3.4 (λ e. let no : NoRegion ≡ InLoop = sym c.3.3 ∙ e in cc no) in
      let y = b.0 in
      let none : y.within ≡ NoRegion = none_within any_lock y.within (sym (marks_behind (leave is) outer.exit y b.1 k b.2 any_lock) ∙ leave_marks any_lock is ∙ marks_behind is (c.0 + 1) outer d k c.3.4 any_lock ∙ ap (locks_within any_lock) c.3.3) in
      let le' : p + 1 ≤ y.exit = omega (arith, le, there, bound (leave is) outer.exit y b.1 k b.2) in
      (block_ways true y, b.1, (p, omega (arith, le'), (λ k s. refl), (y, stands, refl, none, moved (leave is) (p + 1) outer.exit y b.1 k le' (λ k' s. same k' s ∙ ap (λ n. run tables number here code n k' s) there) b.2)))
  leaving (Gives r ∷ is) at x d k p c is_in le stands same = absurd c

  -- what remains where the frame is left with a result: that alone, or behind the end of the region
  pub leave_all_is : (is : List Item) (at : ℕ) (x : Ways) (d : ℕ) (k : Keeps) (r : Option Value) → Carries is at x d k → leave_all r is ≡ returned x.within r
  leave_all_is [] at x d k r c = ap (λ u. returned u r) (sym c.5)
  leave_all_is (Do s ∷ is) at x d k r c = leave_all_is is (c.0 + length (stat_code program own s c.0 x d)) x d k r c.4
  leave_all_is (Rounds there w q last step b ∷ is) at x d k r c =
      leave_all_is is (c.0 + length (rounds_code program own there w q step b c.0 x c.3.0)) x c.3.0 k r c.3.4
  leave_all_is (Round s ∷ is) at x d k r c =
      leave_all_is is x.exit c.3.0 d k r c.3.3 ∙ loop_returned r c.3.0.within ∙ ap (λ (y : Ways). returned y.within r) (sym c.3.2)
  leave_all_is (Until there b e ∷ is) at x d k r c = leave_all_is is (c.0 + length (stat_code program own (Repeat there b e) c.0 x d)) x d k r c.4
  leave_all_is (Region ss ∷ is) at x d k r c =
      leave_all_is is (c.0 + length (block_code true (stats_code program own ss (c.0 + 1) (block_ways true x) d))) x d k r c.4
  leave_all_is (End ∷ is) at x d k r c =
      ap (λ l. End ∷ l) (leave_all_is is (c.0 + 1) c.3.0 d k r c.3.4 ∙ ap (λ u. returned u r) c.3.3) ∙ ap (λ (y : Ways). returned y.within r) (sym c.3.2)
  leave_all_is (Gives r' ∷ is) at x d k r c = absurd c

  -- statements in a row, before what is carried out behind them
  pub carries_all : (ss : Stats) (at : ℕ) (x : Ways) (d : ℕ) (k : Keeps) (after : List Item) → HasStatements ss at x d → Carries after (at + length (stats_code program own ss at x d)) x d k → Carries (items_of ss ++ after) at x d k
  carries_all Nothing at x d k after has c = let e : at + 0 ≡ at = omega arith in subst (λ n. Carries after n x d k) e c
  carries_all (Then s ss) at x d k after has c =
      let cs = stat_code program own s at x d in
      let cr = stats_code program own ss (at + length cs) x d in
      let rest = has.stands.rest in
      let split : drop at code ≡ cs ++ (cr ++ rest) = has.stands.here ∙ append_assoc cs cr rest in
      let first : HasStatement s at x d = record { stands = record { rest = cr ++ rest; here = split }; typed = has.typed.0; home = has.home; linked = has.linked.0; holds = omega (arith, has.holds, le-max_left (stat_level s d) (stats_level ss d)) } in
      let others : HasStatements ss (at + length cs) x d = record { stands = record { rest = rest; here = drop_past cs at code (cr ++ rest) split }; typed = has.typed.1; home = has.home; linked = has.linked.1; holds = omega (arith, has.holds, le-max_right (stat_level s d) (stats_level ss d)) } in
      let len : at + length (cs ++ cr) ≡ at + length cs + length cr = omega (arith, length-append cs cr) in
      let le : at ≤ x.exit = omega (arith, bound after (at + length (cs ++ cr)) x d k c) in
      (at, le, (λ k s. refl), first, carries_all ss (at + length cs) x d k after others (subst (λ n. Carries after n x d k) len c))

  -- what remains of the items of a frame, whose variables these are and their cells, is what its code goes on with
  abbrev pub Remains : Content Value → List Cell → World Sort → Option (List Value) → List Item → ℕ → Keeps → Stack → Type 0
  Remains c cells w None is next k s = Rests w is (run tables number here code next k s)
  Remains c cells w (Some t) [] next k s = ⊥
  Remains c cells w (Some t) (i ∷ is) next k s =
      Lasts program here (Behind is) tables.types c cells w (run tables number here code next k s) (feed t (item_of program here i))

  -- the code of a statement does what the statement does
  abbrev pub StatementDoes : Ways → (level : ℕ) → Keeps → List Item → Stat → Type 0
  StatementDoes x d k after s =
      (w : World Sort) (at : ℕ) → Knows program own here w → HasStatement s at x d → Carries after (at + length (stat_code program own s at x d)) x d k →
      Does program here (Behind after) w (run tables number here code (at + 1) k []) (stat_of program here s)

  -- a run comes to a Begin, and the code behind it does what this item does
  pub record BeginsAt (there : Pos) (i : Item) (after : List Item) (w : World Sort) (m : Run) : Type 0 where
    pub at : ℕ
    pub keeps : Keeps
    pub runs : m ≡ Val (AtBegin at there keeps [])
    pub does : Does program here (Behind after) w (run tables number here code (at + 1) keeps []) (item_of program here i)

  -- what a run comes to where these items are next: the beginning of the first, or what it does where it has none
  abbrev pub AtNext : List Item → World Sort → Run → Type 0
  AtNext [] w m = AtEnd (result_of own) m
  AtNext (Do s ∷ is) w m = BeginsAt (pos_of s) (Do s) is w m
  AtNext (Rounds there a q last step b ∷ is) w m = BeginsAt there (Rounds there a q last step b) is w m
  AtNext (Round s ∷ is) w m = BeginsAt (pos_of s) (Do s) is w m
  AtNext (Until there b e ∷ is) w m = Does program here (Behind is) w m (item_of program here (Until there b e))
  AtNext (Region ss ∷ is) w m =
      (g : Cell → Run) × (m ≡ Asks Enters g) × ((x : Cell) (l : LockName) → locks_in l is ≡ [] → GoesOn (items_of ss ++ End ∷ is) (g x))
  AtNext (End ∷ is) w m = (g : Cell → Run) × (m ≡ Asks Leaves g) × ((x : Cell) → GoesOn is (g x))
  AtNext (Gives r ∷ is) w m = ⊥

-- each item's code does what the item does
abbrev pub ItemsDo : Program → Type 0
ItemsDo program =
    (own : Option Procedure) (tables : Tables) (number : ℕ) (here : Here) (code : List Instr) (w : World Sort) (is : List Item) (m : Run) → HasTypes program → HasShapes program tables → IsOwn program own tables number → Knows program own here w →
    GoesOn program own tables number here code is m → AtNext program own tables number here code is w m
