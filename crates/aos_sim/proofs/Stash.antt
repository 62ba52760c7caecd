-- Operands that are kept, and are there again.
use Rattle.std.proofs.Common.{◌≡◌, ℕ, suc, ◌+◌, ◌≤◌, ◌<◌, true, if◌then◌else◌, List, [], ◌∷◌, ◌++◌, length, refl, sym, ap, ◌∙◌, arith, append_assoc, length-append}
use Rattle.std.proofs.lemmas.Bool.{lt-ltb}
use Rattle.aos_base.specs.Question.{Traps}
use Rattle.aos_typed.specs.Meaning.{Here}
use Rattle.aos_code.specs.declared.instr.Cell.{Cell}
use Rattle.aos_code.specs.declared.instr.Instr.{Instr}
use Rattle.aos_code.specs.declared.instr.Instr.TheVariants as i
use Rattle.aos_code.specs.declared.instr.Kind.{Kind}
use Rattle.aos_code.specs.Numbered.{numbered}
use Rattle.aos_code.specs.Silent.{Stack, Keeps, Puts, Stops, lost, is_of, kept, keeps_in}
use Rattle.aos_sim.specs.Code.{stash, unstash}
use Rattle.aos_sim.proofs.Runs.{Onward, Tables, on_run, runs}
use Rattle.aos_sim.proofs.Called.{AreOf}
use Rattle.aos_sim.proofs.Carries.{Below, kept_here, kept_below}

-- what is kept once these operands are, of which the first is the topmost
abbrev pub stashed : List Cell → (level : ℕ) → Keeps → Keeps
stashed [] c k = k
stashed (u ∷ us) c k = stashed us (suc c) (kept c u k)

-- they are kept from this number on
abbrev pub Holding : List Cell → (level : ℕ) → Keeps → Type 0
Holding [] c k = Unit {0}
Holding (u ∷ us) c k = (k c ≡ u) × Holding us (suc c) k

-- what was kept below the level stays
pub stashed_below : (us : List Cell) (d c : ℕ) (k : Keeps) → d ≤ c → Below d k (stashed us c k)
stashed_below [] d c k le x lt = refl
stashed_below (u ∷ us) d c k le x lt = kept_below d c u k le x lt ∙ stashed_below us d (suc c) (kept c u k) (omega (arith, le)) x lt

pub stashed_holds : (us : List Cell) (c : ℕ) (k : Keeps) → Holding us c (stashed us c k)
stashed_holds [] c k = tt
stashed_holds (u ∷ us) c k =
    (sym (stashed_below us (suc c) (suc c) (kept c u k) (omega arith) c (omega arith)) ∙ kept_here c u k, stashed_holds us (suc c) (kept c u k))

pub length-stash : (ks : List Kind) (c : ℕ) → length (stash ks c) ≡ length ks
length-stash [] c = refl
length-stash (k ∷ ks) c = ap (λ n. suc n) (length-stash ks (suc c))

pub length-unstash : (ks : List Kind) (c : ℕ) → length (unstash ks c) ≡ length ks
length-unstash [] c = refl
length-unstash (k ∷ ks) c =
    let more = length-unstash ks (suc c) in omega (arith, more, length-append (unstash ks (suc c)) (i.Kept c k ∷ []))

module _ (tables : Tables) (number : ℕ) (here : Here) (code : List Instr) where
  abbrev onward : List Instr → Onward
  onward = runs tables number here code

  -- the procedure keeps something under so many numbers at most
  abbrev pub Room : ℕ → Type 0
  Room n = n ≤ keeps_in (numbered tables.procedures number)

  -- an operand is kept, and taken
  pub keeps_one : (c : ℕ) (kind : Kind) (v : Cell) (rest : List Instr) (p : ℕ) (k : Keeps) (s : Stack) → Room (suc c) → is_of kind v ≡ true → runs tables number here code (i.Keep c kind ∷ rest) 0 p k (v ∷ s) ≡ runs tables number here code rest 0 (p + 1) (kept c v k) s
  keeps_one c kind v rest p k s room is =
      let lt : c < keeps_in (numbered tables.procedures number) = omega (arith, room) in
      rw (lt-ltb c (keeps_in (numbered tables.procedures number)) lt) (ap (λ b. on_run tables (if b then Puts c v s else Stops lost) (onward rest) p k) is)

  pub takes_one : (c : ℕ) (kind : Kind) (v : Cell) (rest : List Instr) (p : ℕ) (k : Keeps) (s : Stack) → Room (suc c) → is_of kind v ≡ true → k c ≡ v → runs tables number here code (i.Kept c kind ∷ rest) 0 p k s ≡ runs tables number here code rest 0 (p + 1) k (v ∷ s)
  takes_one c kind v rest p k s room is e =
      let lt : c < keeps_in (numbered tables.procedures number) = omega (arith, room) in
      rw (lt-ltb c (keeps_in (numbered tables.procedures number)) lt)
      (ap (λ y. if is_of kind y then onward rest 0 (p + 1) k (y ∷ s) else Traps 16 0) e ∙ ap (λ b. if b then onward rest 0 (p + 1) k (v ∷ s) else Traps 16 0) is)

  pub stash_runs : (ks : List Kind) (us : List Cell) (c : ℕ) (rest : List Instr) (p : ℕ) (k : Keeps) (s : Stack) → AreOf ks us → Room (c + length us) → runs tables number here code (stash ks c ++ rest) 0 p k (us ++ s) ≡ runs tables number here code rest 0 (p + length us) (stashed us c k) s
  stash_runs [] [] c rest p k s h room = let e : p ≡ p + 0 = omega arith in ap (λ n. onward rest 0 n k s) e
  stash_runs [] (u ∷ us) c rest p k s h room = absurd h
  stash_runs (j ∷ ks) [] c rest p k s h room = absurd h
  stash_runs (j ∷ ks) (u ∷ us) c rest p k s h room =
      let e : p + 1 + length us ≡ p + suc (length us) = omega arith in
      keeps_one c j u (stash ks (suc c) ++ rest) p k (us ++ s) (omega (arith, room)) h.0
      ∙ stash_runs ks us (suc c) rest (p + 1) (kept c u k) s h.1 (omega (arith, room))
      ∙ ap (λ n. onward rest 0 n (stashed us (suc c) (kept c u k)) s) e

  pub unstash_runs : (ks : List Kind) (us : List Cell) (c : ℕ) (rest : List Instr) (p : ℕ) (k : Keeps) (s : Stack) → AreOf ks us → Holding us c k → Room (c + length us) → runs tables number here code (unstash ks c ++ rest) 0 p k s ≡ runs tables number here code rest 0 (p + length us) k (us ++ s)
  unstash_runs [] [] c rest p k s h holds room = let e : p ≡ p + 0 = omega arith in ap (λ n. onward rest 0 n k s) e
  unstash_runs [] (u ∷ us) c rest p k s h holds room = absurd h
  unstash_runs (j ∷ ks) [] c rest p k s h holds room = absurd h
  unstash_runs (j ∷ ks) (u ∷ us) c rest p k s h holds room =
      let e : p + length us + 1 ≡ p + suc (length us) = omega arith in
      ap (λ l. onward l 0 p k s) (append_assoc (unstash ks (suc c)) (i.Kept c j ∷ []) rest)
      ∙ unstash_runs ks us (suc c) (i.Kept c j ∷ rest) p k s h.1 holds.1 (omega (arith, room))
      ∙ takes_one c j u rest (p + length us) k (us ++ s) (omega (arith, room)) h.0 holds.0
      ∙ ap (λ n. onward rest 0 n k (u ∷ (us ++ s))) e
