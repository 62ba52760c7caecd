-- The toy's locks guard their numbers, and its conditions read nothing else.
use Rattle.std.proofs.Common.{◌≡◌, ℕ, suc, ◌<◌, List, [], ◌∷◌, refl, sym, ◌∙◌, ap, subst, arith}
use Rattle.std.specs.Prelude.{if◌then◌else◌, nat_le}
use Rattle.aos_base.specs.declared.kernel.LockName.{LockName}
use Rattle.aos_base.specs.declared.kernel.Verdict.TheVariants.{Holds, Fails}
use Rattle.aos_base.specs.declared.kernel.Did.TheVariants.{Await}
use Rattle.aos_base.specs.Machine.{Choice}
use Rattle.aos_concurrency.specs.Regions.{times}
use Rattle.aos_concurrency.specs.Handover.{GuardsBy, HandsOver}
use Rattle.aos_concurrency.specs.Toy.{Command, Skip, Say, Raise, Take, Give, Until, Fork, Fail, Shared, Program, Frames, judges, first, toy, toy_turn, toy_run, Nested, IsNested, IsAnyLocal}
use Rattle.aos_concurrency.proofs.Tables.{lock, put_other}
use Rattle.aos_concurrency.proofs.ToyKeeps.{asks, ToyFits, toy_keeps, toy_sound, AllNested, nested_stays, toy_nested}
use Rattle.aos_concurrency.proofs.Heirs.{hands_over}

abbrev SameNumber : LockName → Shared → Shared → Type 0
SameNumber l s t = s.number l ≡ t.number l

-- who is in no region of a lock leaves its number
leaves_number : (l : LockName) (s : Shared) (f : Frames) (rest : List Command) → Nested rest f.regions → times l f.regions ≡ 0 → SameNumber l s (toy_turn s f rest).store
leaves_number l s f [] h out = refl
leaves_number l s f (Skip ∷ rest) h out = refl
leaves_number l s f (Say b ∷ rest) h out = refl
leaves_number l s f (Raise k ∷ rest) h out =
    sym (put_other lock s.number k (suc (s.number k)) l (λ e. absurd (let z = subst (λ x. 0 < times x f.regions) (sym e) h.0 in omega (arith, z, out))))
leaves_number l s f (Take k ∷ rest) h out = refl
leaves_number l s f (Give k ∷ rest) h out = refl
leaves_number l s f (Until k n ∷ rest) h out = refl
leaves_number l s f (Fork ∷ rest) h out = refl
leaves_number l s f (Fail n ∷ rest) h out = refl

reads_number : (l : LockName) (c : ℕ) (s t : Shared) (rest : List Command) → asks rest ≡ Await l c → SameNumber l s t → judges s (first rest) c ≡ judges t (first rest) c
reads_number l c s t [] e same = absurd (cc e)
reads_number l c s t (Skip ∷ rest) e same = absurd (cc e)
reads_number l c s t (Say b ∷ rest) e same = absurd (cc e)
reads_number l c s t (Raise k ∷ rest) e same = absurd (cc e)
reads_number l c s t (Take k ∷ rest) e same = absurd (cc e)
reads_number l c s t (Give k ∷ rest) e same = absurd (cc e)
reads_number l c s t (Until k n ∷ rest) e same =
    let at : l ≡ k = cc e in
    ap (λ x. if nat_le c x then Holds else Fails) (ap s.number (sym at) ∙ same ∙ ap t.number at)
reads_number l c s t (Fork ∷ rest) e same = absurd (cc e)
reads_number l c s t (Fail n ∷ rest) e same = absurd (cc e)

pub toy_guards : GuardsBy toy ToyFits AllNested SameNumber IsAnyLocal
toy_guards = record {
  same = λ l s. refl;
  then_ = λ l s t u p q. p ∙ q;
  tidy = nested_stays;
  outside = λ s t l a b f g tidy ne is within at rest out. leaves_number l s g g.rest (tidy b g at) out;
  reads = λ l c s t f fits local same. reads_number l c s t f.rest fits.at same;
}

pub toy_hands_over : (p : Program) (budget : ℕ) → IsNested p → (before others : List Choice) (entry : Choice) (a : ℕ) (l : LockName) (c : ℕ) → HandsOver toy IsAnyLocal (toy_run p budget before) entry a l c others
toy_hands_over p budget h before others entry a l c =
    hands_over toy ToyFits AllNested SameNumber IsAnyLocal toy_keeps toy_guards (toy_run p budget before) entry a l c others (toy_sound p budget h before) (toy_nested p budget h before)
