-- What is written beside a run's output is lines none of which is the first line of a script. So the script of its log is read
-- behind them, and shows the same.
use Rattle.std.proofs.Common.{◌≡◌, ◌≢◌, ℕ, zero, suc, ◌+◌, ◌/◌, ◌%◌, List, [], ◌∷◌, ◌++◌, map, get_or, Option, Some, None, Bool, true, false, not, ◌==◌, if◌then◌else◌, codes, refl, sym, ap, ap₂, ◌∙◌, subst, arith, append_assoc}
use Rattle.std.specs.Prelude.{All, nat_lt}
use Rattle.std.specs.List.{list_all}
use Rattle.std.specs.Fmt.{digits, digits_onto, digit_glyph, decimal}
use Rattle.std.proofs.lemmas.Bool.{and_parts, ne_eqb}
use Rattle.std.proofs.lemmas.List.Elements.{All-nil, All-cons, All-head, All-tail}
use Rattle.std.specs.Char.{is_ascii_alphabetic}
use Rattle.aos_base.specs.declared.kernel.LockName.{LockName}
use Rattle.aos_base.specs.declared.kernel.LockName.TheVariants as lock
use Rattle.aos_base.specs.declared.text.Pos.{Pos}
use Rattle.aos_base.specs.Book.{TrapRow}
use Rattle.aos_base.specs.Observation.{WaitRow, Observation}
use Rattle.aos_typed.specs.Program.{Module, Program}
use Rattle.aos_typed.specs.WellTyped.{is_in_name, is_ident, IsWellTyped}
use Rattle.aos_report.specs.Texts.{name_of, place_text, rows_text, lock_text, wait_word, waits_text}
use Rattle.aos_script.specs.declared.script.Script.{Script}
use Rattle.aos_script.specs.Listing.{head_line, AreSkipped, IsScript}
use Rattle.aos_script.specs.Print.{IsPrintable, IsLine, AreLines, text_of, script_text, joined_script}
use Rattle.aos_script.proofs.Prints.{lacks_by, lacks_both, text_of-append, AreLines-append, printed_behind_is_read, joined_alike}
use Rattle.aos_compile.specs.Elaborates.{names_of}
use Rattle.aos.specs.Report.{spent_text, report, run_report}
use Rattle.aos.specs.Seen.{seen_of, replay_of}

-- Parts of lines

-- a part has no line end in it
record Plain (xs : List ℕ) : Type 0 where
  pub line : IsLine xs

nothing : Plain []
nothing = record { line = All-nil (λ b. (b == 10) ≡ false) }

both : {a b : List ℕ} → Plain a → Plain b → Plain (a ++ b)
both {a} {b} h k = record { line = lacks_both 10 a b h.line k.line }

word : (cs : List ℕ) → list_all (λ b. not (b == 10)) cs ≡ true → Plain cs
word cs e = record { line = lacks_by 10 cs e }

-- of numbers

glyph : (d : ℕ) → (digit_glyph false d == 10) ≡ false
glyph d = elim (nat_lt d 10) as (λ b. ((if b then 48 + d else (if false then 55 + d else 87 + d)) == 10) ≡ false) [
  | true ↦ ne_eqb (48 + d) 10 (λ e. omega arith)
  | false ↦ ne_eqb (87 + d) 10 (λ e. omega arith)
]

all_digits : (k n : ℕ) (behind : List ℕ) → IsLine behind → IsLine (digits_onto k 10 false n behind)
all_digits zero n behind h = h
all_digits (suc k) n behind h =
    let d = digit_glyph false (n % 10) in
    let more : IsLine (d ∷ behind) = All-cons (λ b. (b == 10) ≡ false) d behind (glyph (n % 10)) h in
    elim (n / 10 == 0) as (λ b. IsLine (if b then d ∷ behind else digits_onto k 10 false (n / 10) (d ∷ behind))) [
      | true ↦ more
      | false ↦ all_digits k (n / 10) (d ∷ behind) more
    ]

number : (n : ℕ) → Plain (decimal n)
unfolding digits
number n = record { line = all_digits 64 n [] nothing.line }

-- of names

never_both : true ≡ false → ⊥
never_both e = cc

no_end : (P : ℕ → Bool) (b : ℕ) → P 10 ≡ false → P b ≡ true → (b == 10) ≡ false
no_end P b none h = ne_eqb b 10 (λ same. never_both (sym h ∙ ap P same ∙ none))

in_name : (cs : List ℕ) → list_all is_in_name cs ≡ true → IsLine cs
in_name [] e = nothing.line
in_name (c ∷ cs) e =
    let h = and_parts (is_in_name c) (list_all is_in_name cs) e in
    All-cons (λ b. (b == 10) ≡ false) c cs (no_end is_in_name c refl h.0) (in_name cs h.1)

ident : (name : List ℕ) → is_ident name ≡ true → Plain name
ident [] e = nothing
ident (c ∷ cs) e =
    let h = and_parts (is_ascii_alphabetic c) (list_all is_in_name cs) e in
    record { line = All-cons (λ b. (b == 10) ≡ false) c cs (no_end is_ascii_alphabetic c refl h.0) (in_name cs h.1) }

named : (ms : List Module) → All (λ m. is_ident m.name ≡ true) ms → (k : ℕ) → Plain (name_of (map (λ m. m.name) ms) k)
named [] all k = nothing
named (m ∷ ms) all zero = ident m.name (All-head (λ (x : Module). is_ident x.name ≡ true) m ms all)
named (m ∷ ms) all (suc k) = named ms (All-tail (λ (x : Module). is_ident x.name ≡ true) m ms all) k

-- Lines

-- a text that is lines, none of which is the first line of a script
record Beside (text : List ℕ) : Type 0 where
  pub lines : List (List ℕ)
  pub is : text ≡ text_of lines
  pub are : AreLines lines
  pub others : AreSkipped lines

none : Beside []
none = record { lines = []; is = refl; are = tt; others = tt }

one : (line : List ℕ) → Plain line → line ≢ head_line → Beside (line ++ 10 ∷ [])
one line h apart = record { lines = line ∷ []; is = refl; are = (h.line, tt); others = (apart, tt) }

skipped_both : (ls more : List (List ℕ)) → AreSkipped ls → AreSkipped more → AreSkipped (ls ++ more)
skipped_both [] more h k = k
skipped_both (line ∷ ls) more h k = (h.0, skipped_both ls more h.1 k)

behind : {a b : List ℕ} → Beside a → Beside b → Beside (a ++ b)
behind x y = record {
  lines = x.lines ++ y.lines;
  is = ap₂ (λ a b. a ++ b) x.is y.is ∙ sym (text_of-append x.lines y.lines);
  are = AreLines-append x.lines y.lines x.are y.are;
  others = skipped_both x.lines y.lines x.others y.others;
}

-- they differ at a place
differs : (line : List ℕ) (i a b : ℕ) → get_or line i 0 ≡ a → get_or head_line i 0 ≡ b → a ≢ b → line ≢ head_line
differs line i a b p q apart = λ same. apart (sym p ∙ ap (λ (l : List ℕ). get_or l i 0) same ∙ q)

module _ (names : List (List ℕ)) (plain : (k : ℕ) → Plain (name_of names k)) where
  place : (k : ℕ) (at : Pos) → Plain (place_text (name_of names k) at)
  place k at = both (both (both (both (plain k) (word (codes ":") refl)) (number at.line)) (word (codes ":") refl)) (number at.col)

  abbrev trap_line : TrapRow → List ℕ
  trap_line r =
      codes "trap " ++ decimal r.number ++ codes " " ++ decimal r.code ++ codes " activity " ++ decimal r.activity ++ codes " at "
      ++ place_text (name_of names r.at.module_) r.at.pos

  trap : (r : TrapRow) → Plain (trap_line r)
  trap r =
      both (both (both (both (both (both (both (word (codes "trap ") refl) (number r.number)) (word (codes " ") refl)) (number r.code)) (word (codes " activity ") refl)) (number r.activity)) (word (codes " at ") refl))
      (place r.at.module_ r.at.pos)

  traps : (rows : List TrapRow) → Beside (rows_text names rows)
  traps [] = none
  traps (r ∷ rows) = behind (one (trap_line r) (trap r) (differs (trap_line r) 0 116 97 refl refl (λ e. omega arith))) (traps rows)

  lock_name : (l : LockName) → Plain (lock_text names l)
  lock_name (lock.Object n) = both (word (codes "object ") refl) (number n)
  lock_name (lock.Module m) = both (word (codes "module ") refl) (plain m)

  awaits : (b : Bool) → Plain (wait_word b)
  awaits true = word (codes "await ") refl
  awaits false = word (codes "enter ") refl

  abbrev wait_line : WaitRow → List ℕ
  wait_line r =
      codes "waiting " ++ decimal r.activity ++ codes " " ++ wait_word r.awaits ++ lock_text names r.lock ++ codes " at "
      ++ place_text (name_of names r.at.module_) r.at.pos

  wait : (r : WaitRow) → Plain (wait_line r)
  wait r =
      both (both (both (both (both (both (word (codes "waiting ") refl) (number r.activity)) (word (codes " ") refl)) (awaits r.awaits)) (lock_name r.lock)) (word (codes " at ") refl))
      (place r.at.module_ r.at.pos)

  waits : (rows : List WaitRow) → Beside (waits_text names rows)
  waits [] = none
  waits (r ∷ rows) = behind (one (wait_line r) (wait r) (differs (wait_line r) 0 119 97 refl refl (λ e. omega arith))) (waits rows)

  spent : (a : Option ℕ) (budget : ℕ) → Beside (spent_text a budget)
  spent None budget = none
  spent (Some a) budget =
      let front = codes "activity " ++ decimal a ++ codes " began " ++ decimal budget in
      let line = front ++ codes " statements" in
      let plain_line : Plain line = both (both (both (both (word (codes "activity ") refl) (number a)) (word (codes " began ") refl)) (number budget)) (word (codes " statements") refl) in
      subst (λ t. Beside t) (append_assoc front (codes " statements") (10 ∷ []))
      (one line plain_line (differs line 1 99 111 refl refl (λ e. omega arith)))

  reports : (budget : ℕ) (o : Observation) → Beside (report names budget o)
  reports budget o = behind (behind (traps o.traps) (waits o.waits)) (spent o.spent budget)

-- The log

-- behind what else is written, the text of a script is this script with neighbouring runs joined
pub log_is_script : (p : Program) (s : Script) (o : Observation) → IsWellTyped p → IsPrintable s → IsScript (run_report true (names_of p) s o) (joined_script s)
log_is_script p s o typed h =
    let r = reports (names_of p) (named p.modules typed.parts.names) s.budget o in
    subst (λ text. IsScript (text ++ script_text s) (joined_script s)) (sym r.is) (printed_behind_is_read r.lines s r.are r.others h)

-- and the execution under it is seen as that under the script
pub log_shows : (p : Program) (s : Script) → IsPrintable s → replay_of p (joined_script s) ≡ replay_of p s
log_shows p s h = ap (seen_of p s.budget) (joined_alike s h)
