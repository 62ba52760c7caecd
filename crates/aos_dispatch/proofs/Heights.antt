-- How much there is of statements, so that what is in a statement is less than the statement.
use Rattle.std.proofs.Common.{◌≡◌, ℕ, zero, suc, ◌+◌, ◌<◌, List, [], ◌∷◌, length, get_or, ap, arith}
use Rattle.aos_base.specs.declared.text.Pos.{Pos}
use Rattle.aos_typed.specs.declared.tree.TArm.{TArm, out-TArm}
use Rattle.aos_typed.specs.declared.tree.TCase.{TCase, out-TCase}
use Rattle.aos_typed.specs.declared.tree.TStat.{TStat}
use Rattle.aos_typed.specs.Program.{Expr, Stat, Assign, Copy, PutText, If, Case, While, Repeat, Loop, Exit, For, Block, Await, Assert, Halt, Change, Perform, Return, New, Make, With, WithRecord, Out, Stats, Nothing, Then, Arms, Otherwise, Arm, Cases, NoElse, Else, OfLabels}
use Rattle.aos_typed.specs.Seen.{seen_stat, seen_stats, arms_of, cases_of}

abbrev mutual
  pub height : Stat → ℕ
  height (Assign at t p e) = 0
  height (Copy at t p q) = 0
  height (PutText at strict a b) = 0
  height (If at arms) = suc (arms_height arms)
  height (Case at e cases) = suc (cases_height cases)
  height (While at e body) = suc (heights body)
  height (Repeat at body e) = suc (heights body)
  height (Loop at body) = suc (heights body)
  height (Exit at) = 0
  height (For at w p from to step body) = suc (heights body)
  height (Block at exclusive body) = suc (heights body)
  height (Await at n e) = 0
  height (Assert at e code) = 0
  height (Halt at code) = 0
  height (Change at c p e) = 0
  height (Perform at c more) = 0
  height (Return at e) = 0
  height (New at p t more) = 0
  height (Make at p t ns) = 0
  height (With at e body) = suc (heights body)
  height (WithRecord at p body) = suc (heights body)
  height (Out at call) = 0

  pub heights : Stats → ℕ
  heights Nothing = 0
  heights (Then s ss) = suc (height s + heights ss)

  pub arms_height : Arms → ℕ
  arms_height (Otherwise ss) = suc (heights ss)
  arms_height (Arm e ss arms) = suc (heights ss + arms_height arms)

  pub cases_height : Cases → ℕ
  cases_height NoElse = 0
  cases_height (Else ss) = suc (heights ss)
  cases_height (OfLabels rs ss cases) = suc (heights ss + cases_height cases)

get_less : (ss : List TStat) (k : ℕ) (d : TStat) → k < length ss → height (seen_stat (get_or ss k d)) < heights (seen_stats ss)
get_less [] k d lt = absurd (omega arith)
get_less (s ∷ ss) zero d lt = omega arith
get_less (s ∷ ss) (suc k) d lt = omega (arith, get_less ss k d (omega arith))

-- one of several statements
pub one_less : (ss : List TStat) (k : ℕ) (s : TStat) → k < length ss → s ≡ get_or ss k s → height (seen_stat s) < heights (seen_stats ss)
one_less ss k s lt is = let h = ap (λ x. height (seen_stat x)) is in omega (arith, h, get_less ss k s lt)

-- those behind ELSE
pub otherwise_less : (arms : List TArm) (ss : Stats) → heights ss < arms_height (arms_of arms ss)
otherwise_less [] ss = omega arith
otherwise_less (a ∷ arms) ss = omega (arith, otherwise_less arms ss)

pub else_less : (cases : List TCase) (otherwise : Cases) → cases_height otherwise < suc (cases_height (cases_of cases otherwise))
else_less [] otherwise = omega arith
else_less (a ∷ cases) otherwise = omega (arith, else_less cases otherwise)

arm_got : (arms : List TArm) (ss : Stats) (k : ℕ) (d : TArm) → k < length arms → heights (seen_stats (out-TArm (get_or arms k d)).body.items) < arms_height (arms_of arms ss)
arm_got [] ss k d lt = absurd (omega arith)
arm_got (a ∷ arms) ss zero d lt = omega arith
arm_got (a ∷ arms) ss (suc k) d lt = omega (arith, arm_got arms ss k d (omega arith))

-- those of one of several arms
pub arm_less : (arms : List TArm) (ss : Stats) (k : ℕ) (a : TArm) → k < length arms → a ≡ get_or arms k a → heights (seen_stats (out-TArm a).body.items) < arms_height (arms_of arms ss)
arm_less arms ss k a lt is = let h = ap (λ x. heights (seen_stats (out-TArm x).body.items)) is in omega (arith, h, arm_got arms ss k a lt)

case_got : (cases : List TCase) (otherwise : Cases) (k : ℕ) (d : TCase) → k < length cases → heights (seen_stats (out-TCase (get_or cases k d)).body.items) < cases_height (cases_of cases otherwise)
case_got [] otherwise k d lt = absurd (omega arith)
case_got (a ∷ cases) otherwise zero d lt = omega arith
case_got (a ∷ cases) otherwise (suc k) d lt = omega (arith, case_got cases otherwise k d (omega arith))

pub case_less : (cases : List TCase) (otherwise : Cases) (k : ℕ) (a : TCase) → k < length cases → a ≡ get_or cases k a → heights (seen_stats (out-TCase a).body.items) < cases_height (cases_of cases otherwise)
case_less cases otherwise k a lt is = let h = ap (λ x. heights (seen_stats (out-TCase x).body.items)) is in omega (arith, h, case_got cases otherwise k a lt)

-- what is in a statement is less than the statement: its only statements,
pub within : (s : TStat) (x : Stat) (ss body : List TStat) → seen_stat s ≡ x → height x ≡ suc (heights (seen_stats body)) → ss ≡ body → heights (seen_stats ss) < height (seen_stat s)
within s x ss body e h same = let a = ap height e in let b = ap (λ l. heights (seen_stats l)) same in omega (arith, a, h, b)

-- the arms of IF,
pub arms_within : (s : TStat) (at : Pos) (xs arms : List TArm) (ss otherwise : List TStat) → seen_stat s ≡ If at (arms_of arms (seen_stats otherwise)) → xs ≡ arms → ss ≡ otherwise → arms_height (arms_of xs (seen_stats ss)) < height (seen_stat s)
arms_within s at xs arms ss otherwise e same same' =
    let a = ap height e in
    let b : arms_height (arms_of xs (seen_stats ss)) ≡ arms_height (arms_of arms (seen_stats otherwise)) = λ i. arms_height (arms_of (same i) (seen_stats (same' i))) in
    omega (arith, a, b)

-- and those of CASE
pub cases_within : (s : TStat) (at : Pos) (e : Expr) (xs cases : List TCase) (otherwise : Cases) → seen_stat s ≡ Case at e (cases_of cases otherwise) → xs ≡ cases → cases_height (cases_of xs otherwise) < height (seen_stat s)
cases_within s at e xs cases otherwise is same = let a = ap height is in let b = ap (λ l. cases_height (cases_of l otherwise)) same in omega (arith, a, b)
