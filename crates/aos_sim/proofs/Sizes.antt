-- How long the code of statements is depends neither on where EXIT leads nor on where an arm goes on, so each jump forward knows where
-- it goes; and what is around statements is not counted again.
use Rattle.std.proofs.Common.{◌≡◌, ℕ, zero, suc, ◌+◌, ◌≤◌, ℤ, Bool, true, false, Option, Some, None, List, [], ◌∷◌, ◌++◌, length, if◌then◌else◌, refl, ap, ◌∙◌, arith, length-append}
use Rattle.std.proofs.Math.Nat.{le-max_left}
use Rattle.aos_base.specs.declared.text.Pos.{Pos}
use Rattle.aos_base.specs.declared.number.Width.{Width}
use Rattle.std.specs.Ordering.{int_eq}
use Rattle.aos_typed.specs.declared.tree.LabelRange.{LabelRange}
use Rattle.aos_typed.specs.declared.tree.TType.TheVariants.{Integer}
use Rattle.aos_typed.specs.Program.{Place, Read, Stat, Assign, Copy, PutText, If, Case, While, Repeat, Loop, Exit, For, Block, Await, Assert, Halt, Change, Perform, Return, New, Make, With, WithRecord, Out, Stats, Nothing, Then, Arms, Otherwise, Arm, Cases, NoElse, Else, OfLabels, Procedure, Program}
use Rattle.aos_code.specs.declared.instr.Instr.{Instr}
use Rattle.aos_code.specs.declared.instr.Instr.TheVariants as i
use Rattle.aos_code.specs.declared.instr.Kind.TheVariants.{N}
use Rattle.aos_sim.specs.Search.{Search, Nowhere, At, Split, arms_in, search_of, one_code, range_code, label_code, label_size, search_size, search_code}
use Rattle.aos_sim.specs.Code.{Within, NoRegion, AroundLoop, InLoop, Ways, block_within, block_at, block_code, exit_code, place_code, value_code, while_code, repeat_code, arm_code, round_code, for_head, step_code, body_place, rounds_with, stat_code, stats_code, arms_code, cases_code, arm_place}
use Rattle.aos_sim.specs.Need.{stat_level, stats_level, arms_level, cases_level}
use Rattle.aos_typed.specs.Operands.{operands}

-- a label has as many instructions wherever it stands and leads to
pub label_length : (r : LabelRange) (d at hit : ℕ) → length (label_code r d at hit) ≡ label_size r
label_length r d at hit = by (int_eq r.low r.high)
  where
    by : (b : Bool) → length (if b then one_code r.low d at hit else range_code r d at hit) ≡ (if b then 5 else 9)
    by true = refl
    by false = refl

-- and so has a search
pub search_length : (place : ℕ → ℕ) (other : ℕ) (t : Search) (d at : ℕ) → length (search_code place other t d at) ≡ search_size t
search_length place other Nowhere d at = refl
search_length place other (At r) d at =
    omega (arith, length-append (label_code r.labels d at (place r.arm)) (i.Jump (place other) ∷ []), label_length r.labels d at (place r.arm))
search_length place other (Split middle below above) d at =
    let b = search_code place other below d (at + 4) in
    let from = at + 4 + search_size below in
    omega (arith, length-append b (search_code place other above d from), search_length place other below d (at + 4), search_length place other above d from)

-- Code of these shapes is so long whatever its instructions are and wherever its jumps lead: a test, an arm, and what is behind it
arm_size : (x y : Instr) (c b more : List Instr) → length (c ++ (x ∷ (b ++ (y ∷ more)))) ≡ length c + length b + length more + 2
arm_size x y c b more = omega (arith, length-append c (x ∷ (b ++ (y ∷ more))), length-append b (y ∷ more))

-- two pieces, and what is behind them
pieces_alike : (b b' c c' more : List Instr) → length b ≡ length b' → length c ≡ length c' → suc (length (b ++ (c ++ more))) ≡ suc (length (b' ++ (c' ++ more)))
pieces_alike b b' c c' more e f =
    omega (arith, e, f, length-append b (c ++ more), length-append b' (c' ++ more), length-append c more, length-append c' more)

-- a test with two instructions of its own, two pieces, and an instruction behind them
round_size : (x y z last : Instr) (v b n : List Instr) → suc (length ((v ++ (x ∷ (y ∷ []))) ++ (z ∷ (b ++ (n ++ last ∷ []))))) ≡ length v + length b + length n + 5
round_size x y z last v b n =
    let c = v ++ (x ∷ (y ∷ [])) in
    omega (arith, length-append v (x ∷ (y ∷ [])), length-append c (z ∷ (b ++ (n ++ last ∷ []))), length-append b (n ++ last ∷ []), length-append n (last ∷ []))

arm_length : (c b : List Instr) (at end : ℕ) (more : List Instr) → length (arm_code c b at end more) ≡ length c + length b + length more + 2
arm_length c b at end more = arm_size _ _ c b more

while_length : (there : Pos) (c b : List Instr) (at : ℕ) → length (while_code there c b at) ≡ suc (length c + length b + 0 + 2)
while_length there c b at = ap (λ n. suc n) (arm_size _ _ c b [])

repeat_alike : (there : Pos) (b b' c c' : List Instr) (at : ℕ) → length b ≡ length b' → length c ≡ length c' → length (repeat_code there b c at) ≡ length (repeat_code there b' c' at)
repeat_alike there b b' c c' at e f = pieces_alike b b' c c' _ e f

pub round_length : (there : Pos) (v : List Instr) (step : ℤ) (d : ℕ) (b n : List Instr) (at : ℕ) → length (round_code there v step d b n at) ≡ length v + length b + length n + 5
round_length there v step d b n at = round_size _ _ _ _ v b n

-- how statements in such a place are left where EXIT leads there
abbrev pub way : Within → ℕ → Ways
way u x = record { exit = x; within = u }

exit_length : (u : Within) (x y : ℕ) → length (exit_code u x) ≡ length (exit_code u y)
exit_length NoRegion x y = refl
exit_length AroundLoop x y = refl
exit_length InLoop x y = refl

pub block_alike : (exclusive : Bool) (b c : List Instr) → length b ≡ length c → length (block_code exclusive b) ≡ length (block_code exclusive c)
block_alike true b c e = omega (arith, e, length-append b (i.Leave ∷ []), length-append c (i.Leave ∷ []))
block_alike false b c e = e

module _ (program : Program) (own : Option Procedure) where
  -- rounds of a FOR behind other code, wherever they are told they stand
  rounds_alike : (head : List Instr) (there : Pos) (w : Width) (q : Place) (step : ℤ) (b b' : List Instr) (at d : ℕ) → length b ≡ length b' → length (head ++ rounds_with program own there w q step b at d) ≡ length (head ++ rounds_with program own there w q step b' at d)
  rounds_alike head there w q step b b' at d e =
      let v = value_code program own (Read (Integer w) q) (at + 1) in
      let first = body_place program own w q at in
      let n : List Instr → List Instr = λ l. step_code program own there w q step (first + length l) in
      let same = ap (λ m. length (step_code program own there w q step (first + m))) e in
      let whole : List Instr → _ = λ l. length-append head (rounds_with program own there w q step l at d) in
      omega (arith, e, same, whole b, whole b', round_length there v step d b (n b) at, round_length there v step d b' (n b') at)

  mutual
    pub stat_length : (s : Stat) (at : ℕ) (u : Within) (x y d : ℕ) → length (stat_code program own s at (way u x) d) ≡ length (stat_code program own s at (way u y) d)
    stat_length (Assign here t p e) at u x y d = refl
    stat_length (Copy here t p q) at u x y d = refl
    stat_length (PutText here strict a b) at u x y d = refl
    stat_length (If here arms) at u x y d =
        ap (λ n. suc n) (arms_length arms (at + 1) (at + 1 + length (arms_code program own arms (at + 1) 0 (way u x) d)) (at + 1 + length (arms_code program own arms (at + 1) 0 (way u y) d)) u x y d)
    stat_length (Case here e cases) at u x y d =
        let c = value_code program own e (at + 1) in
        let t = search_of cases in
        let from = at + 1 + length c + 1 in
        let first = from + search_size t in
        let end : ℕ → ℕ = λ z. first + length (cases_code program own cases first 0 (way u z) d) in
        let search : ℕ → List Instr = λ z. search_code (arm_place program own cases first (way u z) d) (arms_in cases) t d from in
        let arms : ℕ → List Instr = λ z. cases_code program own cases first (end z) (way u z) d in
        let size : (z : ℕ) → length (search z) ≡ search_size t = λ z. search_length (arm_place program own cases first (way u z) d) (arms_in cases) t d from in
        let whole : ℕ → _ = λ z. length-append c (i.Keep d N ∷ (search z ++ arms z)) in
        omega (arith, cases_length cases first (end x) (end y) u x y d, size x, size y, whole x, whole y, length-append (search x) (arms x), length-append (search y) (arms y))
    stat_length (While here e body) at u x y d =
        let c = value_code program own e (at + 1) in
        let b : ℕ → List Instr = λ z. stats_code program own body (at + 1 + length c + 1) (way u z) d in
        omega (arith, stats_length body (at + 1 + length c + 1) u x y d, while_length here c (b x) at, while_length here c (b y) at)
    stat_length (Repeat here body e) at u x y d =
        let b : ℕ → List Instr = λ z. stats_code program own body (at + 1) (way u z) d in
        let c : ℕ → List Instr = λ z. value_code program own e (at + 1 + length (b z)) in
        let h = stats_length body (at + 1) u x y d in
        repeat_alike here (b x) (b y) (c x) (c y) at h (ap (λ n. length (value_code program own e (at + 1 + n))) h)
    stat_length (Loop here body) at u x y d = refl
    stat_length (Exit here) at u x y d = ap (λ n. suc n) (exit_length u x y)
    stat_length (For here w p from to step body) at u x y d =
        let head = for_head program own here w p from to at d in
        let first = body_place program own w p (at + length head) in
        let b : ℕ → List Instr = λ z. stats_code program own body first (way u z) (suc d) in
        rounds_alike head here w p step (b x) (b y) _ d (stats_length body first u x y (suc d))
    stat_length (Block here exclusive body) at u x y d =
        ap (λ n. suc n) (block_alike exclusive _ _ (stats_length body (block_at exclusive (at + 1)) (block_within exclusive u) x y d))
    stat_length (Assert here e code) at u x y d = refl
    stat_length (Await here n e) at u x y d = refl
    stat_length (Halt here code) at u x y d = refl
    stat_length (Change here c p e) at u x y d = refl
    stat_length (Perform here c more) at u x y d = refl
    stat_length (Return here None) at u x y d = refl
    stat_length (Return here (Some e)) at u x y d = refl
    stat_length (New here p t more) at u x y d = refl
    stat_length (Make here p t ns) at u x y d = refl
    stat_length (With here e body) at u x y d =
        let c = value_code program own e (at + 1) in
        let b : ℕ → List Instr = λ z. stats_code program own body (at + 1 + length c + 1) (way u z) d in
        omega (arith, stats_length body (at + 1 + length c + 1) u x y d, length-append c (i.Drop ∷ b x), length-append c (i.Drop ∷ b y))
    stat_length (WithRecord here p body) at u x y d =
        let c = place_code program own p (at + 1) in
        let b : ℕ → List Instr = λ z. stats_code program own body (at + 1 + length c + 1) (way u z) d in
        omega (arith, stats_length body (at + 1 + length c + 1) u x y d, length-append c (i.Drop ∷ b x), length-append c (i.Drop ∷ b y))
    stat_length (Out here call) at u x y d = refl

    pub stats_length : (ss : Stats) (at : ℕ) (u : Within) (x y d : ℕ) → length (stats_code program own ss at (way u x) d) ≡ length (stats_code program own ss at (way u y) d)
    stats_length Nothing at u x y d = refl
    stats_length (Then s ss) at u x y d =
        let a = stat_code program own s at (way u x) d in
        let b = stat_code program own s at (way u y) d in
        let h = stat_length s at u x y d in
        let more = stats_length ss (at + length a) u x y d ∙ ap (λ n. length (stats_code program own ss (at + n) (way u y) d)) h in
        omega (arith, h, more, length-append a (stats_code program own ss (at + length a) (way u x) d), length-append b (stats_code program own ss (at + length b) (way u y) d))

    pub arms_length : (arms : Arms) (at end other : ℕ) (u : Within) (x y d : ℕ) → length (arms_code program own arms at end (way u x) d) ≡ length (arms_code program own arms at other (way u y) d)
    arms_length (Otherwise ss) at end other u x y d = stats_length ss at u x y d
    arms_length (Arm e ss arms) at end other u x y d =
        let c = value_code program own e at in
        let first = at + length c + 1 in
        let b : ℕ → List Instr = λ z. stats_code program own ss first (way u z) d in
        let next : ℕ → ℕ = λ z. first + length (b z) + 1 in
        let h = stats_length ss first u x y d in
        let more = arms_length arms (next x) end other u x y d ∙ ap (λ n. length (arms_code program own arms (first + n + 1) other (way u y) d)) h in
        omega (arith, h, more, arm_length c (b x) at end (arms_code program own arms (next x) end (way u x) d), arm_length c (b y) at other (arms_code program own arms (next y) other (way u y) d))

    pub cases_length : (cases : Cases) (at end other : ℕ) (u : Within) (x y d : ℕ) → length (cases_code program own cases at end (way u x) d) ≡ length (cases_code program own cases at other (way u y) d)
    cases_length NoElse at end other u x y d = refl
    cases_length (Else ss) at end other u x y d = stats_length ss at u x y d
    cases_length (OfLabels rs ss cases) at end other u x y d =
        let b : ℕ → List Instr = λ z. stats_code program own ss at (way u z) d in
        let next : ℕ → ℕ = λ z. at + length (b z) + 1 in
        let h = stats_length ss at u x y d in
        let more = cases_length cases (next x) end other u x y d ∙ ap (λ n. length (cases_code program own cases (at + n + 1) other (way u y) d)) h in
        omega (arith, h, more, length-append (b x) (i.Jump end ∷ cases_code program own cases (next x) end (way u x) d), length-append (b y) (i.Jump other ∷ cases_code program own cases (next y) other (way u y) d))

  -- no arm begins before the first
  pub arm_ahead : (cases : Cases) (at : ℕ) (x : Ways) (d n : ℕ) → at ≤ arm_place program own cases at x d n
  arm_ahead NoElse at x d n = omega arith
  arm_ahead (Else ss) at x d n = omega arith
  arm_ahead (OfLabels rs ss cases) at x d zero = omega arith
  arm_ahead (OfLabels rs ss cases) at x d (suc n) = omega (arith, arm_ahead cases (at + length (stats_code program own ss at x d) + 1) x d n)

-- statements keep nothing under a number that something around them has
mutual
  pub stat_above : (s : Stat) (d : ℕ) → d ≤ stat_level s d
  stat_above (Assign here t p e) d = omega arith
  stat_above (Copy here t p q) d = omega arith
  stat_above (PutText here strict a b) d = omega arith
  stat_above (If here arms) d = arms_above arms d
  stat_above (Case here e cases) d = omega (arith, le-max_left (suc d) (cases_level cases d))
  stat_above (While here e body) d = stats_above body d
  stat_above (Repeat here body e) d = stats_above body d
  stat_above (Loop here body) d = stats_above body d
  stat_above (Exit here) d = omega arith
  stat_above (For here w p from to step body) d = omega (arith, stats_above body (suc d))
  stat_above (Block here exclusive body) d = stats_above body d
  stat_above (Assert here e code) d = omega arith
  stat_above (Await here n e) d = omega arith
  stat_above (Halt here code) d = omega arith
  stat_above (Change here c p e) d = omega arith
  stat_above (Perform here c more) d = omega arith
  stat_above (Return here e) d = omega arith
  stat_above (New here p t more) d = omega (arith, le-max_left (suc d) (d + operands more))
  stat_above (Make here p t ns) d = omega arith
  stat_above (With here e body) d = stats_above body d
  stat_above (WithRecord here p body) d = stats_above body d
  stat_above (Out here call) d = omega arith

  pub stats_above : (ss : Stats) (d : ℕ) → d ≤ stats_level ss d
  stats_above Nothing d = omega arith
  stats_above (Then s ss) d = omega (arith, stat_above s d, le-max_left (stat_level s d) (stats_level ss d))

  arms_above : (arms : Arms) (d : ℕ) → d ≤ arms_level arms d
  arms_above (Otherwise ss) d = stats_above ss d
  arms_above (Arm e ss arms) d = omega (arith, stats_above ss d, le-max_left (stats_level ss d) (arms_level arms d))
