-- In every state of every execution nobody but its builder names an object that is being built.
use Rattle.std.proofs.Common.{ℕ, List, refl, sym, subst}
use Rattle.aos_base.specs.Machine.{Choice}
use Rattle.aos_concurrency.specs.Acting.{acting}
use Rattle.aos_concurrency.specs.Regions.{Outside}
use Rattle.aos_concurrency.specs.Sound.{Sound}
use Rattle.aos_concurrency.proofs.Begin.{start_sound}
use Rattle.aos_concurrency.proofs.Changes.{execution_tidy}
use Rattle.aos_concurrency.proofs.Itself.{sound_fitting}
use Rattle.aos_concurrency.proofs.Steps.{execution_sound, sound_always}
use Rattle.aos_typed.specs.Program.{Program}
use Rattle.aos_typed.specs.Source.{first_store}
use Rattle.aos_typed.specs.WellTyped.{IsWellTyped}
use Rattle.aos_sim.proofs.Typed.{has_types}
use Rattle.aos_escape.specs.Hidden.{HidesNew, Numbered, numbered, NewAreHidden}
use Rattle.aos_escape.specs.Naming.{AreOf, Tidy}
use Rattle.aos_escape.proofs.Acting.{acting_known, acting_same, matched, numbers, of_source, of_traced}
use Rattle.aos_escape.proofs.Alike.{first, start}
use Rattle.aos_escape.proofs.Beginning.{first_tidy}
use Rattle.aos_escape.proofs.Named.{has_names}
use Rattle.aos_escape.proofs.Names.{HasNames}
use Rattle.aos_escape.proofs.Tidying.{IsTidy, keeps_tidy}
use Rattle.aos_escape.proofs.Traced.{IsTraced, traced, traced_keeps}

module _ (p : Program) (names : HasNames p) where
  start_traced : (budget : ℕ) → Sound (traced p names) (IsTraced p names) (start p names budget)
  start_traced budget = start_sound (first_store p) (first p names) budget (traced p names) (IsTraced p names) (record { stands = tt; are = tt; asks = tt }) refl

  module _ (budget : ℕ) (choices : List Choice) where
    sound : Sound (traced p names) (IsTraced p names) (of_traced p names budget choices)
    sound = execution_sound (traced p names) (IsTraced p names) (traced_keeps p names) choices (start p names budget) (start_traced budget)

    tidy : let tu = of_traced p names budget choices in IsTidy p names tu.store (acting (traced p names) tu)
    tidy =
        let k = traced_keeps p names in
        execution_tidy (traced p names) (Outside (traced p names)) (IsTraced p names) k.fits (IsTidy p names) (keeps_tidy p names) choices (start p names budget) (sound_always (traced p names) (IsTraced p names) k (start p names budget) (start_traced budget))
        (sound_fitting (traced p names) (IsTraced p names) (start p names budget) (start_traced budget)) (first_tidy p names budget)

    pub hidden : HidesNew p (of_source p names budget choices)
    hidden =
        let tu = of_traced p names budget choices in
        let same = matched p names budget choices in
        record {
          numbers = numbers p names budget choices;
          are = acting_known p names budget choices (IsTraced p names) sound (λ f ns. AreOf p ns f.frames) (λ w x h. h.are);
          tidy = subst (λ s. Tidy p (λ (x : Numbered). x.1) (λ (x : Numbered). x.0.frames) s (numbered p (of_source p names budget choices) (numbers p names budget choices))) (sym same.stores)
              (subst (Tidy p (λ (x : Numbered). x.1) (λ (x : Numbered). x.0.frames) tu.store) (λ i a. sym (acting_same p names budget choices a) i) tidy);
        }

pub new_are_hidden : (p : Program) → IsWellTyped p → NewAreHidden p
new_are_hidden p well = hidden p (has_names p well (has_types p well))
