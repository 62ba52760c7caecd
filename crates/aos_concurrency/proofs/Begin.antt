-- Where an execution begins.
use Rattle.std.proofs.Common.{◌≡◌, ℕ, ◌≤◌, [], true, false, refl, sym, ap, subst, arith, ◌≢◌}
use Rattle.std.specs.Prelude.{if◌then◌else◌, nat_eq, Option, Some, None}
use Rattle.aos_base.specs.declared.kernel.LockName.{LockName}
use Rattle.aos_base.specs.declared.kernel.Did.{Did}
use Rattle.aos_base.specs.declared.kernel.Did.TheVariants.{Went}
use Rattle.aos_base.specs.Lock.{Entry}
use Rattle.aos_base.specs.Book.{Ready, At, Runs, Gone, Activity, put}
use Rattle.aos_base.specs.Machine.{Machine, start_of}
use Rattle.aos_concurrency.specs.LocalState.{LocalState, local_state}
use Rattle.aos_concurrency.specs.Orderly.{Agrees, Orderly}
use Rattle.aos_concurrency.specs.Regions.{times}
use Rattle.aos_concurrency.specs.Sound.{Sits, Sound}
use Rattle.aos_concurrency.proofs.Tables.{number, each_put}
use Rattle.aos_concurrency.proofs.Works.{at_local_state}

module _ {S F : Type 0} (s : S) (f : F) (budget : ℕ) where
  pub local_state-start : (x : ℕ) → local_state (start_of s f budget) x ≡ put nat_eq (λ _. at_local_state None Gone f) 0 (at_local_state (Some (Ready 2)) Runs f) x
  local_state-start x =
      elim (nat_eq x 0) as (λ q. (let y : LocalState F = record { place = if q then Some (Ready 2) else None; next = (let r : Activity = if q then record { priority = 2; begun = 0; restarts = 0; next = Runs } else record { priority = 2; begun = 0; restarts = 0; next = Gone } in r.next); frames = f } in y) ≡ (if q then at_local_state (Some (Ready 2)) Runs f else at_local_state None Gone f)) [ true ↦ refl | false ↦ refl ]

  -- what holds of activity 0, and of one that stands nowhere, holds of each
  pub each_start : (P : ℕ → LocalState F → Type 0) → P 0 (at_local_state (Some (Ready 2)) Runs f) → ((x : ℕ) → x ≢ 0 → P x (at_local_state None Gone f)) → (x : ℕ) → P x (local_state (start_of s f budget) x)
  each_start P first others x = subst (P x) (sym (local_state-start x)) (each_put number P (λ _. at_local_state None Gone f) 0 (at_local_state (Some (Ready 2)) Runs f) first others x)

  pub orderly_start : Orderly (start_of s f budget)
  orderly_start = record {
    once = (refl, tt);
    agrees = each_start (λ x y. Agrees y.next y.place) tt (λ x ne. tt);
    unborn = each_start (λ x y. 1 ≤ x → y.next ≡ Gone) (λ h. absurd (omega arith)) (λ x ne h. refl);
  }

  pub start_sound : (m : Machine S F) (Fits : S → Did → F → Type 0) → Fits s Went f → m.regions f ≡ [] → Sound m Fits (start_of s f budget)
  start_sound m Fits fits none = record {
    orderly = orderly_start;
    each = each_start (λ x y. Sits m Fits s (λ _. None) x y) (record { regions = λ l. ap (times l) none; fits = fits }) (λ x ne. record { regions = λ l. refl; fits = tt });
    served = each_start (λ x y. (l : LockName) → y.place ≡ Some (At l Entry) → ◌≢◌ {A = Option ℕ} None None) (λ l e. absurd (cc e)) (λ x ne l e. absurd (cc e));
  }
