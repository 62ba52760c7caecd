-- A line says one thing, and so do the lines of a script.
use Rattle.std.proofs.Common.{◌≡◌, ℕ, List, [], ◌∷◌, ◌++◌, codes, refl, sym, ap, ◌∙◌, subst}
use Rattle.std.specs.Str.Parse.{digits_value}
use Rattle.std.proofs.lemmas.List.{append_cancel_right}
use Rattle.aos_base.specs.declared.kernel.Sched.{Sched}
use Rattle.aos_base.specs.declared.kernel.Sched.TheVariants.{Steps, Tick}
use Rattle.aos_script.specs.declared.script.Script.{Script}
use Rattle.aos_script.specs.Words.{parts, lines, words}
use Rattle.aos_script.specs.Number.{IsNumber}
use Rattle.aos_script.specs.Listing.{head_line, AreSkipped, IsSetting, IsSteps, IsTick, IsRun, AreRuns, IsListing}
use Rattle.aos_script.specs.Laws.{OneScript}

number_same : {v w : List ℕ} {m n : ℕ} → v ≡ w → IsNumber v m → IsNumber w n → m ≡ n
number_same same a b = sym a.value ∙ ap (digits_value 10) same ∙ b.value

pub setting_same : {name line : List ℕ} {most m n : ℕ} → IsSetting name most line m → IsSetting name most line n → m ≡ n
setting_same a b = let same : a.word ≡ b.word = let x = a.is in let y = b.is in cc in number_same same a.number b.number

steps_same : {line : List ℕ} {w k v l : ℕ} → IsSteps line w k → IsSteps line v l → Steps w k ≡ Steps v l
steps_same a b =
    let x = a.is in
    let y = b.is in
    let worker : a.worker ≡ b.worker = cc in
    let steps : a.steps ≡ b.steps = cc in
    let v = number_same worker a.of b.of in
    let l = number_same steps a.number b.number in
    cc

tick_same : {line : List ℕ} {w v : ℕ} → IsTick line w → IsTick line v → Tick w ≡ Tick v
tick_same a b = let same : a.worker ≡ b.worker = let x = a.is in let y = b.is in cc in ap Tick (number_same same a.of b.of)

steps_no_tick : {line : List ℕ} {w k v : ℕ} → IsSteps line w k → IsTick line v → ⊥
steps_no_tick a b = let x = a.is in let y = b.is in cc

pub run_same : (line : List ℕ) (r s : Sched) → IsRun line r → IsRun line s → r ≡ s
run_same line (Steps w k) (Steps v l) a b = steps_same a b
run_same line (Steps w k) (Tick v) a b = absurd (steps_no_tick a b)
run_same line (Tick w) (Steps v l) a b = absurd (steps_no_tick b a)
run_same line (Tick w) (Tick v) a b = tick_same a b

words-end : words (codes "end") ≡ codes "end" ∷ []
unfolding parts
words-end = refl

-- the last line is no run line
pub end_no_run : (r : Sched) → IsRun (codes "end") r → ⊥
end_no_run (Steps w k) a = let x = a.is in let y = words-end in cc
end_no_run (Tick w) a = let x = a.is in let y = words-end in cc

runs_same : (ls : List (List ℕ)) (rs ss : List Sched) → AreRuns ls rs → AreRuns ls ss → rs ≡ ss
runs_same [] [] [] a b = refl
runs_same [] [] (s ∷ ss) a b = absurd b
runs_same [] (r ∷ rs) ss a b = absurd a
runs_same (l ∷ ls) [] ss a b = absurd a
runs_same (l ∷ ls) (r ∷ rs) [] a b = absurd b
runs_same (l ∷ ls) (r ∷ rs) (s ∷ ss) a b = let head = run_same l r s a.0 b.0 in let tail = runs_same ls rs ss a.1 b.1 in cc

-- the first line of a script stands at one place
pub heads_same : (a b r q : List (List ℕ)) → AreSkipped a → AreSkipped b → a ++ head_line ∷ r ≡ b ++ head_line ∷ q → (a ≡ b) × (r ≡ q)
heads_same [] [] r q x y same = let e : r ≡ q = cc in (refl, e)
heads_same [] (l ∷ b) r q x y same = let e : l ≡ head_line = cc in absurd (y.0 e)
heads_same (k ∷ a) [] r q x y same = let e : k ≡ head_line = cc in absurd (x.0 e)
heads_same (k ∷ a) (l ∷ b) r q x y same =
    let tail : a ++ head_line ∷ r ≡ b ++ head_line ∷ q = cc in
    let rest = heads_same a b r q x.1 y.1 tail in
    let head : k ≡ l = cc in
    let front = rest.0 in
    let whole : k ∷ a ≡ l ∷ b = cc in
    (whole, rest.1)

listing_same : (ls : List (List ℕ)) (s t : Script) → IsListing ls s → IsListing ls t → s ≡ t
listing_same ls s t a b =
    let behind = (heads_same a.skipped b.skipped
    (a.workers_line ∷ a.budget_line ∷ (a.run_lines ++ codes "end" ∷ []))
    (b.workers_line ∷ b.budget_line ∷ (b.run_lines ++ codes "end" ∷ []))
    a.others b.others (sym a.whole ∙ b.whole)).1 in
    let workers_line : b.workers_line ≡ a.workers_line = cc in
    let budget_line : b.budget_line ≡ a.budget_line = cc in
    let rest : b.run_lines ++ codes "end" ∷ [] ≡ a.run_lines ++ codes "end" ∷ [] = cc in
    let run_lines = append_cancel_right b.run_lines a.run_lines (codes "end" ∷ []) rest in
    let workers = setting_same a.workers (subst (λ l. IsSetting (codes "workers") 16 l t.workers) workers_line b.workers) in
    let budget = setting_same a.budget (subst (λ l. IsSetting (codes "budget") 1000000000 l t.budget) budget_line b.budget) in
    let runs = runs_same a.run_lines s.runs t.runs a.runs (subst (λ l. AreRuns l t.runs) run_lines b.runs) in
    let same : record { workers = s.workers; budget = s.budget; runs = s.runs } ≡ record { workers = t.workers; budget = t.budget; runs = t.runs } = cc in
    same

pub one_script : OneScript
one_script text s t a b = listing_same (lines text) s t a.listing b.listing
