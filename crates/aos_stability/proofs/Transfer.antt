-- What a lock that is passed to a waiter leaves to say of the machine whose frames have the numbers of their routines beside them, is to be said of the
-- program's.
use Rattle.std.proofs.Common.{◌≡◌, ℕ, List, [], ◌∷◌, sym, ap, ◌∙◌}
use Rattle.aos_base.specs.Book.{At, place_of}
use Rattle.aos_base.specs.Lock.{Condition}
use Rattle.aos_base.specs.Machine.{Choice, State, execution, happens}
use Rattle.aos_base.specs.declared.kernel.LockName.{LockName}
use Rattle.aos_base.specs.declared.kernel.Verdict.TheVariants.{Holds}
use Rattle.aos_concurrency.specs.Admits.{AlwaysAdmits}
use Rattle.aos_concurrency.specs.Handover.{GuardsBy, HandsOver, HasLock, IsGiven, OfOthers}
use Rattle.aos_concurrency.specs.Regions.{Outside}
use Rattle.aos_concurrency.specs.Sound.{Sound}
use Rattle.aos_concurrency.specs.Traps.{turn_of}
use Rattle.aos_concurrency.proofs.Heirs.{hands_over}
use Rattle.aos_concurrency.proofs.Matching.{execution_matches, happens_matches}
use Rattle.aos_concurrency.proofs.LocalStates.{runs_there}
use Rattle.aos_concurrency.proofs.Steps.{sound_always}
use Rattle.aos_concurrency.proofs.Works.{runs_at}
use Rattle.aos_typed.specs.Program.{Program}
use Rattle.aos_typed.specs.Store.{Store}
use Rattle.aos_typed.specs.Source as S
use Rattle.aos_typed.specs.Source.{first_state, source}
use Rattle.aos_sim.proofs.Regions.{Stands, source_keeps}
use Rattle.aos_escape.proofs.Alike.{AreMatched, SameFrames, SameStores, always_matched, same, source_stands, start}
use Rattle.aos_escape.proofs.Names.{HasNames}
use Rattle.aos_escape.proofs.Traced.{Traces, traced}

module _ (p : Program) (names : HasNames p) where
  abbrev X : Type 0
  X = Traces p names

  -- the owner of a lock and its frames, as of any machine that keeps regions
  plain : GuardsBy (source p) (Stands p) (λ s t. Unit {0}) (λ l s t. Unit {0}) (λ l c. ⊥)
  plain =
      record {
        same = λ l s. tt;
        then_ = λ l s t u h k. tt;
        tidy = λ s t s' t' change h. tt;
        outside = λ s t l a b f g tidy ne is within at fits out. tt;
        reads = λ l c s t f fits local h. absurd local;
      }

  of_others : (a : ℕ) (cs : List Choice) (st : State Store S.Frames) (tu : State Store X) → AlwaysAdmits (source p) (Outside (source p)) st → AreMatched p names st tu → OfOthers (source p) a cs st → OfOthers (traced p names) a cs tu
  of_others a [] st tu always h others = tt
  of_others a (c ∷ cs) st tu always h others = (
    λ e. others.0 (ap (turn_of c) h.book ∙ e),
    of_others a cs (happens (source p) c st) (happens (traced p names) c tu) (λ later. always (c ∷ later))
        (happens_matches (SameStores p names) (SameFrames p names) (Outside (source p)) (source p) (traced p names) (same p names) c st tu (always []) h) others.1,
  )

  lifted : (Local : LockName → ℕ → Type 0) (st : State Store S.Frames) (tu : State Store X) (entry : Choice) (a : ℕ) (l : LockName) (c : ℕ) (others : List Choice)
      → Sound (source p) (Stands p) st → AreMatched p names st tu → HandsOver (traced p names) Local tu entry a l c others → HandsOver (source p) Local st entry a l c others
  lifted Local st tu entry a l c others sound h hands given rest =
      record { owner = own.owner; frames = own.frames; condition = λ local. ended (got.condition local) }
    where
      always : AlwaysAdmits (source p) (Outside (source p)) st
      always = sound_always (source p) (Stands p) (source_keeps p) st sound

      after : AreMatched p names (happens (source p) entry st) (happens (traced p names) entry tu)
      after = happens_matches (SameStores p names) (SameFrames p names) (Outside (source p)) (source p) (traced p names) (same p names) entry st tu (always []) h

      last : AreMatched p names (execution (source p) others (happens (source p) entry st)) (execution (traced p names) others (happens (traced p names) entry tu))
      last = execution_matches (SameStores p names) (SameFrames p names) (Outside (source p)) (source p) (traced p names) (same p names) others (happens (source p) entry st) (happens (traced p names) entry tu) (λ later. always (entry ∷ later)) after

      own : HasLock (source p) (λ l c. ⊥) st (execution (source p) others (happens (source p) entry st)) a l c
      own = hands_over (source p) (Stands p) (λ s t. Unit {0}) (λ l s t. Unit {0}) (λ l c. ⊥) (source_keeps p) plain st entry a l c others sound tt given rest

      given' : IsGiven (traced p names) tu entry a l c
      given' =
          record {
            waited = ap (λ b. place_of b.line a) (sym h.book) ∙ given.waited;
            place = given.place;
            stands = ap (λ b. place_of b.line a) (sym after.book) ∙ given.stands;
            awake = given.awake;
            runs = ap (λ b. let x = b.activity a in x.next) (sym after.book) ∙ given.runs;
          }

      got : HasLock (traced p names) Local tu (execution (traced p names) others (happens (traced p names) entry tu)) a l c
      got = hands given' (of_others a others (happens (source p) entry st) (happens (traced p names) entry tu) (λ later. always (entry ∷ later)) after rest)

      frames : st.frames a ≡ (tu.frames a).0
      frames =
          runs_at (λ k. Outside (source p) k (st.frames a)) (λ w. SameFrames p names st.store tu.store w (st.frames a) (tu.frames a)) _ _ (At l (Condition c)) (runs_there st sound.orderly a l (Condition c) given.waited) given.waited (h.frames a)

      ended : S.verdict p (execution (traced p names) others (happens (traced p names) entry tu)).store (tu.frames a).0 c ≡ Holds → S.verdict p (execution (source p) others (happens (source p) entry st)).store (st.frames a) c ≡ Holds
      ended e = (λ i. S.verdict p (last.stores i) (frames i) c) ∙ e

  pub source_hands_over : (Local : LockName → ℕ → Type 0) (budget : ℕ) (before others : List Choice) (entry : Choice) (a : ℕ) (l : LockName) (c : ℕ)
      → HandsOver (traced p names) Local (execution (traced p names) before (start p names budget)) entry a l c others
      → HandsOver (source p) Local (execution (source p) before (first_state p budget)) entry a l c others
  source_hands_over Local budget before others entry a l c =
      lifted Local (execution (source p) before (first_state p budget)) (execution (traced p names) before (start p names budget)) entry a l c others (source_stands p names budget before) (always_matched p names budget before)
