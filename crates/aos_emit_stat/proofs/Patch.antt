-- Code of which jumps forward are written after the instructions that they pass.
use Rattle.std.proofs.Common.{◌≡◌, Option, ℕ, suc, ℤ, ◌+◌, List, [], ◌∷◌, ◌++◌, length, map, sym, ap, ◌∙◌, arith, append_assoc, length-append}
use Rattle.std.specs.Prelude.{slice_set}
use Rattle.std.proofs.Math.Seq.{set-append_seam}
use Rattle.std.proofs.lemmas.List.{take_at, drop_at}
use Rattle.aos_typed.specs.declared.tree.TStat.{TStat}
use Rattle.aos_base.specs.declared.text.Pos.{Pos}
use Rattle.aos_base.specs.declared.number.Width.{Width}
use Rattle.aos_base.specs.declared.operator.Binary.TheVariants.{Cmp}
use Rattle.aos_typed.specs.declared.tree.TType.TheVariants.{Integer}
use Rattle.aos_typed.specs.declared.tree.LabelRange.{LabelRange}
use Rattle.aos_typed.specs.Meaning.{until}
use Rattle.aos_typed.specs.Program.{Place, Read, Stat, Stats, Cases, OfLabels, Procedure, Program}
use Rattle.aos_typed.specs.Seen.{seen_stat}
use Rattle.aos_code.specs.declared.instr.Instr.{Instr}
use Rattle.aos_code.specs.declared.instr.Instr.TheVariants.{Kept, Binary, Jump, JumpFalse}
use Rattle.aos_code.specs.declared.instr.Kind.TheVariants.{N}
use Rattle.aos_sim.specs.Code.{Ways, begin, value_code, step_code, body_place, rounds_with, stat_code, stats_code, cases_code}
use Rattle.aos_emit_stat.specs.Places.{places_from}
use Rattle.aos_emit_expr.specs.Pending.{pending_end}
use Rattle.aos_emit_expr.specs.Scope.{Inside, program_of, own_of}
use Rattle.aos_emit_stat.specs.Adds.{AddsStat}
use Rattle.aos_emit_stat.specs.Ways.{pending}
use Rattle.aos_emit_stat.specs.Redirect.{redirect, redirect_behind}

-- code behind other code
pub followed : (base c1 c2 front : List Instr) (back : ℕ → List Instr) → c1 ≡ base ++ front → c2 ≡ c1 ++ back (length c1) → c2 ≡ base ++ (front ++ back (length base + length front))
followed base c1 c2 front back e f =
    let n = ap length e ∙ length-append base front in
    f ∙ ap (λ m. c1 ++ back m) n ∙ ap (λ l. l ++ back (length base + length front)) e ∙ append_assoc base front (back (length base + length front))

-- code behind what is guarded, which lies between two instructions
pub guarded : (base c1 c2 : List Instr) (first : Instr) (guard : List Instr) (last : Instr) (back : ℕ → List Instr) → c1 ≡ base ++ first ∷ (guard ++ last ∷ []) → c2 ≡ c1 ++ back (length c1) → c2 ≡ base ++ first ∷ (guard ++ (last ∷ back (length base + 1 + length guard + 1)))
guarded base c1 c2 first guard last back e f =
    let front = first ∷ (guard ++ last ∷ []) in
    let there : length base + length front ≡ length base + 1 + length guard + 1 = omega (arith, length-append guard (last ∷ [])) in
    followed base c1 c2 front back e f
    ∙ ap (λ l. base ++ first ∷ l) (append_assoc guard (last ∷ []) (back (length base + length front)))
    ∙ ap (λ n. base ++ first ∷ (guard ++ (last ∷ back n))) there

-- an instruction between front and back that is written when the code behind it is there, and the last one, behind that code
pub patched : (base front : List Instr) (inside : ℕ → List Instr) (c1 c2 c3 c4 : List Instr) (x last : Instr) (over : ℕ → Instr) (n1 n2 : ℕ) → c1 ≡ base ++ front → n1 ≡ length c1 → c2 ≡ c1 ++ x ∷ [] → c3 ≡ c2 ++ inside (length c2) → c4 ≡ c3 ++ last ∷ [] → n2 ≡ length c4 → let first = length base + length front + 1 in slice_set c4 n1 (over n2) ≡ base ++ (front ++ (over (first + length (inside first) + 1) ∷ (inside first ++ (last ∷ []))))
patched base front inside c1 c2 c3 c4 x last over n1 n2 e1 m1 e2 e3 e4 m2 =
    let first = length base + length front + 1 in
    let b = inside first in
    let l1 = ap length e1 ∙ length-append base front in
    let l2 = ap length e2 ∙ length-append c1 (x ∷ []) in
    let p2 : length c2 ≡ first = omega (arith, l1, l2) in
    let f3 = e3 ∙ ap (λ n. c2 ++ inside n) p2 in
    let l3 = ap length f3 ∙ length-append c2 b in
    let l4 = ap length e4 ∙ length-append c3 (last ∷ []) in
    let d : n2 ≡ first + length b + 1 = omega (arith, m2, p2, l3, l4) in
    let all : c4 ≡ c1 ++ x ∷ (b ++ last ∷ []) = e4 ∙ ap (λ l. l ++ last ∷ []) (f3 ∙ ap (λ l. l ++ b) e2 ∙ append_assoc c1 (x ∷ []) b) ∙ append_assoc c1 (x ∷ b) (last ∷ []) in
    ap (λ l. slice_set l n1 (over n2)) all
    ∙ ap (λ n. slice_set (c1 ++ x ∷ (b ++ last ∷ [])) n (over n2)) m1
    ∙ set-append_seam c1 x (b ++ last ∷ []) (over n2)
    ∙ ap (λ l. l ++ over n2 ∷ (b ++ last ∷ [])) e1
    ∙ append_assoc base front (over n2 ∷ (b ++ last ∷ []))
    ∙ ap (λ n. base ++ (front ++ (over n ∷ (b ++ last ∷ [])))) d

-- one more arm of CASE
module _ (p : Program) (own : Option Procedure) (w : Ways) (base c1 c2 : List Instr) (rs : List LabelRange) (ss : Stats) (rest : Cases) (d : ℕ) (e1 : c1 ≡ base ++ stats_code p own ss (length base) w d) (e2 : c2 ≡ c1 ++ Jump pending_end ∷ []) where
  behind : length c2 ≡ length base + length (stats_code p own ss (length base) w d) + 1
  behind =
      let l1 = ap length e1 ∙ length-append base (stats_code p own ss (length base) w d) in
      let l2 = ap length e2 ∙ length-append c1 (Jump pending_end ∷ []) in
      omega (arith, l1, l2)

  pub choice_more : c2 ++ cases_code p own rest (length c2) pending_end w d ≡ base ++ cases_code p own (OfLabels rs ss rest) (length base) pending_end w d
  choice_more =
      let b = stats_code p own ss (length base) w d in
      let more = cases_code p own rest (length base + length b + 1) pending_end w d in
      ap (λ m. c2 ++ cases_code p own rest m pending_end w d) behind
      ∙ ap (λ l. l ++ more) e2
      ∙ append_assoc c1 (Jump pending_end ∷ []) more
      ∙ ap (λ l. l ++ Jump pending_end ∷ more) e1
      ∙ append_assoc base b (Jump pending_end ∷ more)

  -- and its place
  pub place_more : (ps more : List ℕ) (n : ℕ) → more ≡ ps ++ n ∷ [] → n ≡ length base → more ++ places_from p own rest (length c2) w d ≡ ps ++ places_from p own (OfLabels rs ss rest) (length base) w d
  place_more ps more n e is =
      (λ j. e j ++ places_from p own rest (behind j) w d)
      ∙ append_assoc ps (n ∷ []) (places_from p own rest (length base + length (stats_code p own ss (length base) w d) + 1) w d)
      ∙ ap (λ m. ps ++ m ∷ places_from p own rest (length base + length (stats_code p own ss (length base) w d) + 1) w d) is

-- code whose pending number is redirected
pub ended : (base code : List Instr) (of : ℕ → List Instr) (p from to : ℕ) → code ≡ base ++ of p → from ≡ length base → map (redirect p to) (of p) ≡ of to → redirect_behind from p to code ≡ base ++ of to
ended base code of p from to e n known =
    ap (redirect_behind from p to) e
    ∙ (λ i. take_at base (of p) from (sym n) i ++ map (redirect p to) (drop_at base (of p) from (sym n) i))
    ∙ ap (λ l. base ++ l) known

-- a round of a FOR, with its test, its statements and its step
pub round_is : (p : Program) (own : Option Procedure) (here : Pos) (w : Width) (q : Place) (step : ℤ) (b : ℕ → List Instr) (base : List Instr) (d start : ℕ) → start ≡ length base → let test = value_code p own (Read (Integer w) q) (length base + 1) ++ (Kept d N ∷ (Binary (Cmp (until step)) ∷ [])) in let first = length base + suc (length test) + 1 in let inside = b first ++ step_code p own here w q step (first + length (b first)) in base ++ ((begin here ∷ test) ++ (JumpFalse (first + length inside + 1) ∷ (inside ++ (Jump start ∷ [])))) ≡ base ++ rounds_with p own here w q step (b (body_place p own w q (length base))) (length base) d
round_is p own here w q step b base d start e =
    let at = length base in
    let v = value_code p own (Read (Integer w) q) (at + 1) in
    let tail = Kept d N ∷ (Binary (Cmp (until step)) ∷ []) in
    let test = v ++ tail in
    let first = at + suc (length test) + 1 in
    let next : ℕ → List Instr = λ m. step_code p own here w q step (m + length (b m)) in
    let same : first ≡ body_place p own w q at = omega (arith, length-append v tail) in
    let end : first + length (b first ++ next first) + 1 ≡ at + 1 + length test + 1 + length (b first) + length (next first) + 1 = omega (arith, length-append (b first) (next first)) in
    let round : ℕ → List Instr = λ m. base ++ (begin here ∷ (test ++ (JumpFalse (at + 1 + length test + 1 + length (b m) + length (next m) + 1) ∷ (b m ++ (next m ++ Jump at ∷ []))))) in
    ap (λ n. base ++ (begin here ∷ (test ++ (JumpFalse n ∷ ((b first ++ next first) ++ Jump start ∷ []))))) end
    ∙ ap (λ n. base ++ (begin here ∷ (test ++ (JumpFalse (at + 1 + length test + 1 + length (b first) + length (next first) + 1) ∷ ((b first ++ next first) ++ Jump n ∷ []))))) e
    ∙ ap (λ l. base ++ (begin here ∷ (test ++ (JumpFalse (at + 1 + length test + 1 + length (b first) + length (next first) + 1) ∷ l)))) (append_assoc (b first) (next first) (Jump at ∷ []))
    ∙ ap round same

-- the code of what a statement is seen as
pub emitted : (s : Inside) (old new : List Instr) (level : ℕ) (t : TStat) (x y : Stat) → x ≡ y → seen_stat t ≡ y → AddsStat s old new level x → AddsStat s old new level (seen_stat t)
emitted s old new level t x y e seen is = is ∙ ap (λ z. old ++ stat_code (program_of s) (own_of s) z (length old) (pending s) level) (e ∙ sym seen)
