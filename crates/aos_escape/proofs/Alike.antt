-- The program's machine does what the one does whose frames have the numbers of their routines beside them.
use Rattle.std.proofs.Common.{◌≡◌, ℕ, List, [], refl, ap}
use Rattle.aos_base.specs.Machine.{Choice, State, execution, start_of}
use Rattle.aos_base.specs.Priority.{number_of as priority_number}
use Rattle.aos_base.specs.declared.kernel.Did.{Did}
use Rattle.aos_concurrency.specs.Regions.{Outside}
use Rattle.aos_concurrency.specs.Simulates.{Matches, Simulates}
use Rattle.aos_concurrency.specs.Sound.{Sound}
use Rattle.aos_concurrency.proofs.Begin.{start_sound}
use Rattle.aos_concurrency.proofs.Matching.{execution_matches, start_matches}
use Rattle.aos_concurrency.proofs.Steps.{execution_sound, sound_always}
use Rattle.aos_typed.specs.Program.{Program}
use Rattle.aos_typed.specs.Store.{Store}
use Rattle.aos_typed.specs.Source as S
use Rattle.aos_typed.specs.Source.{first_frames, first_state, first_store, position_in, regions_of, source}
use Rattle.aos_sim.proofs.Regions.{Stands, source_keeps}
use Rattle.aos_escape.proofs.Names.{HasNames}
use Rattle.aos_escape.proofs.Traced.{Traces, traced}

module _ (p : Program) (names : HasNames p) where
  abbrev pub SameStores : Store → Store → Type 0
  SameStores s t = s ≡ t

  abbrev pub SameFrames : Store → Store → Did → S.Frames → Traces p names → Type 0
  SameFrames s t w f x = f ≡ x.0

  pub same : Simulates SameStores SameFrames (Outside (source p)) (source p) (traced p names)
  same =
      record {
        turn = λ s t f x e h.
            record {
              stores = λ i. let y = S.turn p (e i) (h i) in y.store;
              frames = λ i. let y = S.turn p (e i) (h i) in y.frames;
              left = λ i. let y = S.turn p (e i) (h i) in y.left;
              output = λ i. let y = S.turn p (e i) (h i) in y.output;
              begun = λ i. let y = S.turn p (e i) (h i) in y.begun;
            };
        kept = λ s t f x e h w f' x' h'. h';
        past = λ s t w f x goes e h. ap (S.past p) h;
        verdict = λ s t l c f x e h. λ i. S.verdict p (e i) (h i) c;
        regions = λ s t w f x may e h. ap (λ (y : S.Frames). regions_of y.frames) h;
        position = λ s t w f x may e h. ap (λ (y : S.Frames). let z = S.opened p y in position_in z.frames) h;
        anew = λ s t w f x may e h. tt;
        body = λ s t o f x e h. ap (λ z. S.body_of p z o) e;
        priority = λ s t o f x e h. ap (λ z. priority_number (S.priority_of p z o)) e;
      }

  abbrev pub AreMatched : State Store S.Frames → State Store (Traces p names) → Type 0
  AreMatched = Matches SameStores SameFrames (Outside (source p))

  -- In every execution.

  abbrev pub first : Traces p names
  first = (first_frames p, [])

  abbrev pub start : ℕ → State Store (Traces p names)
  start budget = start_of (first_store p) first budget

  start_stands : (budget : ℕ) → Sound (source p) (Stands p) (first_state p budget)
  start_stands budget = start_sound (first_store p) (first_frames p) budget (source p) (Stands p) tt refl

  pub source_stands : (budget : ℕ) (choices : List Choice) → Sound (source p) (Stands p) (execution (source p) choices (first_state p budget))
  source_stands budget choices = execution_sound (source p) (Stands p) (source_keeps p) choices (first_state p budget) (start_stands budget)

  pub always_matched : (budget : ℕ) (choices : List Choice) → AreMatched (execution (source p) choices (first_state p budget)) (execution (traced p names) choices (start budget))
  always_matched budget choices =
      execution_matches SameStores SameFrames (Outside (source p)) (source p) (traced p names) same choices (first_state p budget) (start budget) (sound_always (source p) (Stands p) (source_keeps p) (first_state p budget) (start_stands budget))
      (start_matches SameStores SameFrames (Outside (source p)) (source p) (traced p names) same (first_store p) (first_store p) (first_frames p) first budget refl refl)
