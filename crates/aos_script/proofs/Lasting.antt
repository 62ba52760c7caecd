-- What begins a script, or lines of its form: so do fewer of these lines. So one line is the first bad one.
use Rattle.std.proofs.Common.{◌≡◌, ℕ, ◌+◌, ◌-◌, ◌<◌, ◌≤◌, ◌⊎◌, inl, inr, ⊎_elim, List, ◌++◌, length, take, drop, Result, Ok, Err, MatchResult, IfOk, IfErr, sym, ap, ◌∙◌, subst, append_assoc, take-append-drop, arith}
use Rattle.std.proofs.lemmas.List.{take-take}
use Rattle.std.proofs.lemmas.Bool.{cases_order}
use Rattle.aos_script.specs.declared.script.Script.{Script}
use Rattle.aos_script.specs.declared.error.ScriptErr.{ScriptErr}
use Rattle.aos_script.specs.declared.error.ScriptErr.TheVariants.{BadLine, BadWorker, NoMemory}
use Rattle.aos_script.specs.Words.{lines}
use Rattle.aos_script.specs.Listing.{IsListing, IsScript}
use Rattle.aos_script.specs.Refusals.{BeginsListing, BeginsScript, IsBadLine, IsBadWorker, IsRefused}
use Rattle.aos_script.specs.Laws.{OneRefusal, NotBoth}
use Rattle.aos_script.proofs.Sole.{one_script}

module _ (ls : List (List ℕ)) where
  fewer : (j k : ℕ) (more : List (List ℕ)) → j ≤ k → take k ls ++ more ≡ take j ls ++ (drop j (take k ls) ++ more)
  fewer j k more less =
      ap (λ l. l ++ more) (sym (take-append-drop j (take k ls)) ∙ ap (λ l. l ++ drop j (take k ls)) (take-take j k ls less))
      ∙ append_assoc (take j ls) (drop j (take k ls)) more

  listing_fewer : (j k : ℕ) → j ≤ k → BeginsListing (take k ls) → BeginsListing (take j ls)
  listing_fewer j k less b = record {
    script = b.script;
    more = drop j (take k ls) ++ b.more;
    listing = subst (λ l. IsListing l b.script) (fewer j k b.more less) b.listing;
  }

  script_fewer : (j k : ℕ) → j ≤ k → BeginsScript (take k ls) → BeginsScript (take j ls)
  script_fewer j k less b = record {
    script = b.script;
    more = drop j (take k ls) ++ b.more;
    listing = subst (λ l. IsListing l b.script) (fewer j k b.more less) b.listing;
    workers = b.workers;
  }

  listing_of_script : (k : ℕ) → BeginsScript (take k ls) → BeginsListing (take k ls)
  listing_of_script k b = record { script = b.script; more = b.more; listing = b.listing }

script_begins : (text : List ℕ) (s : Script) (k : ℕ) → IsScript text s → BeginsScript (take k (lines text))
script_begins text s k is = record {
  script = s;
  more = drop k (lines text);
  listing = subst (λ l. IsListing l s) (sym (take-append-drop k (lines text))) is.listing;
  workers = is.workers;
}

pub not_both : NotBoth
not_both text s (BadLine n) is bad =
    ⊎_elim (λ at. at.1 (listing_of_script (lines text) n (script_begins text s n is))) (λ missing. missing.1 s is.listing) bad.bad
not_both text s (BadWorker n) is bad = bad.bad (script_begins text s n is)
not_both text s NoMemory is bad = bad

module _ (text : List ℕ) where
  within : (n : ℕ) → IsBadLine text n → n ≤ length (lines text) + 1
  within n bad = ⊎_elim (λ at. let w = at.0 in omega arith) (λ missing. let e = missing.0 in omega arith) bad.bad

  -- no line behind a bad one has lines of a script before it
  line_first : (m n : ℕ) → IsBadLine text m → BeginsScript (take (n - 1) (lines text)) → n ≤ length (lines text) + 1 → m < n → ⊥
  line_first m n bad begins last less =
      ⊎_elim
      (λ at. at.1 (listing_fewer (lines text) m (n - 1) (omega arith) (listing_of_script (lines text) (n - 1) begins)))
      (λ missing. let e = missing.0 in omega arith)
      bad.bad

  worker_first : (m n : ℕ) → IsBadWorker text m → BeginsScript (take (n - 1) (lines text)) → m < n → ⊥
  worker_first m n bad begins less = bad.bad (script_fewer (lines text) m (n - 1) (omega arith) begins)

  line_or_worker : (m n : ℕ) → IsBadLine text m → IsBadWorker text n → ⊥
  line_or_worker m n a b = ⊎_elim
      (λ same. ⊎_elim
      (λ at. at.1 (subst (λ k. BeginsListing (take k (lines text))) (sym same) b.form))
      (λ missing. let e = missing.0 in let w = b.within in omega arith)
      a.bad)
      (λ differ. ⊎_elim
      (λ less. line_first m n a b.before (let w = b.within in omega arith) less)
      (λ more. worker_first n m b a.before more)
      differ)
      (cases_order m n)

  one_line : (m n : ℕ) → IsBadLine text m → IsBadLine text n → m ≡ n
  one_line m n a b = ⊎_elim
      (λ same. same)
      (λ differ. ⊎_elim
      (λ less. absurd (line_first m n a b.before (within n b) less))
      (λ more. absurd (line_first n m b a.before (within m a) more))
      differ)
      (cases_order m n)

  one_worker : (m n : ℕ) → IsBadWorker text m → IsBadWorker text n → m ≡ n
  one_worker m n a b = ⊎_elim
      (λ same. same)
      (λ differ. ⊎_elim
      (λ less. absurd (worker_first m n a b.before less))
      (λ more. absurd (worker_first n m b a.before more))
      differ)
      (cases_order m n)

pub one_refusal : OneRefusal
one_refusal text (BadLine m) (BadLine n) a b = ap BadLine (one_line text m n a b)
one_refusal text (BadLine m) (BadWorker n) a b = absurd (line_or_worker text m n a b)
one_refusal text (BadLine m) NoMemory a b = absurd b
one_refusal text (BadWorker m) (BadLine n) a b = absurd (line_or_worker text n m b a)
one_refusal text (BadWorker m) (BadWorker n) a b = ap BadWorker (one_worker text m n a b)
one_refusal text (BadWorker m) NoMemory a b = absurd b
one_refusal text NoMemory f a b = absurd a

module _ (text : List ℕ) where
  pub only : (r : Result Script ScriptErr) → IfOk r (IsScript text) → IfErr r (λ e. (e ≡ NoMemory) ⊎ IsRefused text e) → (s : Script) → IsScript text s → MatchResult r (λ t. t ≡ s) (λ e. e ≡ NoMemory)
  only (Ok t) read refused s is = one_script text t s read is
  only (Err e) read refused s is = ⊎_elim (λ none. none) (λ bad. absurd (not_both text s e is bad)) refused

  pub exact : (r : Result Script ScriptErr) → IfOk r (IsScript text) → IfErr r (λ e. (e ≡ NoMemory) ⊎ IsRefused text e) → (e : ScriptErr) → IsRefused text e → MatchResult r (λ t. ⊥) (λ f. (f ≡ NoMemory) ⊎ (f ≡ e))
  exact (Ok t) read refused e bad = not_both text t e read bad
  exact (Err f) read refused e bad = ⊎_elim (λ none. inl none) (λ other. inr (one_refusal text f e other bad)) refused
