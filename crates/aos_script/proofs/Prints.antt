-- What is printed is read back.
use Rattle.std.proofs.Common.{◌≡◌, All, ℕ, ◌+◌, ◌-◌, ◌<◌, ◌≤◌, ◌^◌, ◌==◌, Bool, true, false, not, ◌&&◌, ⊎_elim, List, [], ◌∷◌, ◌++◌, length, map, take, get_or, codes, decimal, slice_index, refl, sym, ap, ap₂, ◌∙◌, subst, append_assoc, length-append, eq-zero-or-pos, arith}
use Rattle.std.specs.Prelude.{if◌then◌else◌}
use Rattle.std.specs.List.{list_all}
use Rattle.std.specs.Io.BufRead.{strip_last, ends_with_byte}
use Rattle.std.proofs.Math.Seq.{take-append_seam, get_or-append_seam}
use Rattle.std.proofs.lemmas.Bool.{lt-ltb, ne_eqb, eq-eqb}
use Rattle.std.proofs.lemmas.Fmt.{decimal_is_IsNumeral, decimal_digit, first_decimal}
use Rattle.std.proofs.lemmas.List.Elements.{All-nil, All-cons, All-head, All-tail, All-append, All-from_get_or}
use Rattle.std.proofs.lemmas.List.Splits.{slice_split_at, slice_split_none}
use Rattle.std.proofs.lemmas.Str.Parse.{digit_at}
use Rattle.aos_base.specs.declared.kernel.Sched.{Sched}
use Rattle.aos_base.specs.declared.kernel.Sched.TheVariants.{Steps, Tick}
use Rattle.aos_base.specs.Schedule.{IsEntry}
use Rattle.aos_script.specs.declared.script.Script.{Script}
use Rattle.aos_script.specs.Words.{parts, lines}
use Rattle.aos_script.specs.Number.{IsNumber}
use Rattle.aos_script.specs.Listing.{head_line, AreSkipped, IsSetting, IsRun, AreRuns, IsListing}
use Rattle.aos_script.specs.Join.{joined}
use Rattle.aos_script.specs.Print.{IsPrintable, joined_script, run_line, script_lines, text_of, AreLines, script_text}
use Rattle.aos_script.specs.Laws.{PrintedIsRead, PrintedBehindIsRead, JoinedAlike}
use Rattle.aos_script.proofs.Cuts.{lines_some}
use Rattle.aos_script.proofs.Joins.{joined-choices, joined-entries}

-- a byte isn't among these
abbrev Lacks : ℕ → List ℕ → Type 0
Lacks byte xs = All (λ b. (b == byte) ≡ false) xs

neither : (a b : Bool) → (not a && b) ≡ true → (a ≡ false) × (b ≡ true)
neither true b h = absurd cc
neither false b h = (refl, h)

pub lacks_by : (byte : ℕ) (xs : List ℕ) → list_all (λ b. not (b == byte)) xs ≡ true → Lacks byte xs
lacks_by byte [] h = All-nil (λ b. (b == byte) ≡ false)
lacks_by byte (x ∷ xs) h =
    let e = neither (x == byte) (list_all (λ b. not (b == byte)) xs) h in
    All-cons (λ b. (b == byte) ≡ false) x xs e.0 (lacks_by byte xs e.1)

pub lacks_both : (byte : ℕ) (xs ys : List ℕ) → Lacks byte xs → Lacks byte ys → Lacks byte (xs ++ ys)
lacks_both byte xs ys a b = All-append (λ b. (b == byte) ≡ false) xs ys a b

one_part : (byte : ℕ) (xs : List ℕ) → Lacks byte xs → parts byte xs ≡ xs ∷ []
unfolding parts
one_part byte xs h = slice_split_none (λ b. b == byte) xs h

first_part : (byte : ℕ) (xs ys : List ℕ) → Lacks byte xs → parts byte (xs ++ byte ∷ ys) ≡ xs ∷ parts byte ys
unfolding parts
first_part byte xs ys h = slice_split_at (λ b. b == byte) xs byte ys h (eq-eqb byte byte refl)

-- a number as it's written
module _ (n : ℕ) (short : n < 2 ^ 64) where
  is_plain : slice_index (decimal n) 0 ≡ 48 → length (decimal n) ≡ 1
  is_plain zero =
      ⊎_elim
      (λ (none : n ≡ 0). ap (λ m. length (decimal m)) none ∙ ap length (decimal_digit 0 (omega arith)))
      (λ (some : 0 < n). let first = first_decimal n some short in absurd (omega arith))
      (eq-zero-or-pos n)

  is_number : IsNumber (decimal n) n
  is_number = let numeral = decimal_is_IsNumeral n short in record { digits = numeral.0; plain = is_plain; value = numeral.1 }

  lacks_in_number : (byte : ℕ) → byte < 48 → Lacks byte (decimal n)
  lacks_in_number byte low =
      All-from_get_or (λ b. (b == byte) ≡ false) (decimal n) 0
      (λ i in_range. ne_eqb (get_or (decimal n) i 0) byte
      (λ same. let digit = digit_at (decimal n) i (decimal_is_IsNumeral n short).0.1 in_range in let least = digit.0 in omega arith))

  last_word : parts 32 (decimal n) ≡ decimal n ∷ []
  last_word = one_part 32 (decimal n) (lacks_in_number 32 (omega arith))

is_setting : (name : List ℕ) (most n : ℕ) → Lacks 32 name → n < 2 ^ 64 → 1 ≤ n → n ≤ most → IsSetting name most (name ++ 32 ∷ decimal n) n
is_setting name most n lacks short low high = record {
  word = decimal n;
  is = first_part 32 name (decimal n) lacks ∙ ap (λ l. name ∷ l) (last_word n short);
  number = is_number n short;
  low = low;
  high = high;
}

module _ (n : ℕ) (few : n ≤ 16) where
  worker_short : (w : ℕ) → w < n → w < 2 ^ 64
  worker_short w less = omega arith

  is_run : (r : Sched) → IsEntry n r → IsRun (run_line r) r
  is_run (Steps w k) h =
      let short = worker_short w h.0 in
      let most = h.2 in
      let count : k < 2 ^ 64 = omega arith in
      record {
        worker = decimal w;
        steps = decimal k;
        is =
            first_part 32 (codes "s") (decimal w ++ 32 ∷ decimal k) (lacks_by 32 (codes "s") refl)
            ∙ ap (λ l. codes "s" ∷ l) (first_part 32 (decimal w) (decimal k) (lacks_in_number w short 32 (omega arith)) ∙ ap (λ l. decimal w ∷ l) (last_word k count));
        of = is_number w short;
        number = is_number k count;
        low = h.1;
        high = h.2;
      }
  is_run (Tick w) h =
      let short = worker_short w h in
      record {
        worker = decimal w;
        is = first_part 32 (codes "t") (decimal w) (lacks_by 32 (codes "t") refl) ∙ ap (λ l. codes "t" ∷ l) (last_word w short);
        of = is_number w short;
      }

  are_runs : (rs : List Sched) → All (IsEntry n) rs → AreRuns (map run_line rs) rs
  are_runs [] all = tt
  are_runs (r ∷ rs) all = (is_run r (All-head (IsEntry n) r rs all), are_runs rs (All-tail (IsEntry n) r rs all))

  run_lacks : (r : Sched) → IsEntry n r → Lacks 10 (run_line r)
  run_lacks (Steps w k) h =
      let most = h.2 in
      let count : k < 2 ^ 64 = omega arith in
      lacks_both 10 (codes "s " ++ decimal w) (codes " " ++ decimal k)
      (lacks_both 10 (codes "s ") (decimal w) (lacks_by 10 (codes "s ") refl) (lacks_in_number w (worker_short w h.0) 10 (omega arith)))
      (lacks_both 10 (codes " ") (decimal k) (lacks_by 10 (codes " ") refl) (lacks_in_number k count 10 (omega arith)))
  run_lacks (Tick w) h = lacks_both 10 (codes "t ") (decimal w) (lacks_by 10 (codes "t ") refl) (lacks_in_number w (worker_short w h) 10 (omega arith))

pub text_of-append : (ls more : List (List ℕ)) → text_of (ls ++ more) ≡ text_of ls ++ text_of more
text_of-append [] more = refl
text_of-append (line ∷ ls) more = ap (λ t. line ++ 10 ∷ t) (text_of-append ls more) ∙ sym (append_assoc line (10 ∷ text_of ls) (text_of more))

-- part behind part, as they are printed
pub put_together : (s : Script) → codes "aos-script 1\nworkers " ++ decimal s.workers ++ codes "\nbudget " ++ decimal s.budget ++ codes "\n" ++ text_of (map run_line (joined s.runs)) ++ codes "end\n" ≡ script_text s
put_together s = simp (append_assoc, text_of-append)

pub AreLines-append : (ls more : List (List ℕ)) → AreLines ls → AreLines more → AreLines (ls ++ more)
AreLines-append [] more a b = b
AreLines-append (line ∷ ls) more a b = (a.0, AreLines-append ls more a.1 b)

-- lines with line ends between them alone
abbrev between : List ℕ → List (List ℕ) → List ℕ
between line [] = line
between line (next ∷ ls) = line ++ 10 ∷ between next ls

text-between : (line : List ℕ) (ls : List (List ℕ)) → text_of (line ∷ ls) ≡ between line ls ++ 10 ∷ []
text-between line [] = refl
text-between line (next ∷ ls) = ap (λ t. line ++ 10 ∷ t) (text-between next ls) ∙ sym (append_assoc line (10 ∷ between next ls) (10 ∷ []))

parts-between : (line : List ℕ) (ls : List (List ℕ)) → Lacks 10 line → AreLines ls → parts 10 (between line ls) ≡ line ∷ ls
parts-between line [] lacks are = one_part 10 line lacks
parts-between line (next ∷ ls) lacks are = first_part 10 line (between next ls) lacks ∙ ap (λ l. line ∷ l) (parts-between next ls are.0 are.1)

strip_end : (xs : List ℕ) → strip_last 10 (xs ++ 10 ∷ []) ≡ xs
strip_end xs =
    let text = xs ++ 10 ∷ [] in
    let more : length text ≡ length xs + 1 = length-append xs (10 ∷ []) in
    let front : length text - 1 ≡ length xs = omega arith in
    let some : 0 < length text = omega arith in
    let last : slice_index text (length text - 1) ≡ 10 = ap (λ i. get_or text i 0) front ∙ get_or-append_seam xs 10 [] 0 in
    let ends : ends_with_byte 10 text ≡ true = ap₂ (λ a b. a && b) (lt-ltb 0 (length text) some) (eq-eqb (slice_index text (length text - 1)) 10 last) in
    ap (λ b. if b then take (length text - 1) text else text) ends ∙ ap (λ i. take i text) front ∙ take-append_seam xs (10 ∷ [])

-- lines, made a text, are its lines
pub lines-text_of : (ls : List (List ℕ)) → AreLines ls → lines (text_of ls) ≡ ls
lines-text_of [] are = refl
lines-text_of (line ∷ ls) are =
    let text = text_of (line ∷ ls) in
    let some : length text ≡ 0 → ⊥ = λ none. omega (arith, none, length-append line (10 ∷ text_of ls)) in
    sym (lines_some text some) ∙ ap (λ t. parts 10 (strip_last 10 t)) (text-between line ls) ∙ ap (parts 10) (strip_end (between line ls)) ∙ parts-between line ls are.0 are.1

module _ (s : Script) (h : IsPrintable s) where
  number_of : s.workers < 2 ^ 64
  number_of = let most = h.workers.1 in omega arith

  budget_of : s.budget < 2 ^ 64
  budget_of = let most = h.budget.1 in omega arith

  runs_are : (rs : List Sched) → All (IsEntry s.workers) rs → AreLines (map run_line rs ++ codes "end" ∷ [])
  runs_are [] all = (lacks_by 10 (codes "end") refl, tt)
  runs_are (r ∷ rs) all = (run_lacks s.workers h.workers.1 r (All-head (IsEntry s.workers) r rs all), runs_are rs (All-tail (IsEntry s.workers) r rs all))

  all_are : AreLines (script_lines s)
  all_are = (
    lacks_by 10 head_line refl,
    (
      lacks_both 10 (codes "workers ") (decimal s.workers) (lacks_by 10 (codes "workers ") refl) (lacks_in_number s.workers number_of 10 (omega arith)),
      (
        lacks_both 10 (codes "budget ") (decimal s.budget) (lacks_by 10 (codes "budget ") refl) (lacks_in_number s.budget budget_of 10 (omega arith)),
        runs_are (joined s.runs) (joined-entries s.workers s.runs h.entries),
      ),
    ),
  )

  is_listing : (ls : List (List ℕ)) → AreSkipped ls → IsListing (ls ++ script_lines s) (joined_script s)
  is_listing ls others = record {
    skipped = ls;
    workers_line = codes "workers " ++ decimal s.workers;
    budget_line = codes "budget " ++ decimal s.budget;
    run_lines = map run_line (joined s.runs);
    whole = refl;
    others = others;
    workers = is_setting (codes "workers") 16 s.workers (lacks_by 32 (codes "workers") refl) number_of h.workers.0 h.workers.1;
    budget = is_setting (codes "budget") 1000000000 s.budget (lacks_by 32 (codes "budget") refl) budget_of h.budget.0 h.budget.1;
    runs = are_runs s.workers h.workers.1 (joined s.runs) (joined-entries s.workers s.runs h.entries);
  }

pub printed_behind_is_read : PrintedBehindIsRead
printed_behind_is_read ls s are others h =
    let all : AreLines (ls ++ script_lines s) = AreLines-append ls (script_lines s) are (all_are s h) in
    let same : lines (text_of ls ++ script_text s) ≡ ls ++ script_lines s = ap lines (sym (text_of-append ls (script_lines s))) ∙ lines-text_of (ls ++ script_lines s) all in
    record {
      listing = subst (λ l. IsListing l (joined_script s)) (sym same) (is_listing s h ls others);
      workers = joined-entries s.workers s.runs h.entries;
    }

pub printed_is_read : PrintedIsRead
printed_is_read s h = printed_behind_is_read [] s tt tt h

pub joined_alike : JoinedAlike
joined_alike s h = joined-choices s.workers s.runs h.entries
