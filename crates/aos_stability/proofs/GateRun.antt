-- The execution in which the gate's activity is given its lock.
use Rattle.std.proofs.Common.{◌≡◌, ◌≢◌, ℕ, Option, Some, None, refl}
use Rattle.aos_base.specs.declared.kernel.LockName.TheVariants as lock
use Rattle.aos_base.specs.declared.kernel.Verdict.TheVariants.{Holds}
use Rattle.aos_base.specs.Book.{Ready, stands, ready, next_is, owned_by, counted, born, ended}
use Rattle.aos_base.specs.Machine.{Step, go_past, release, turned, happens}
use Rattle.aos_concurrency.specs.Handover.{IsGiven, OfOthers}
use Rattle.aos_typed.specs.Source.{source}
use Rattle.aos_stability.specs.Example.{IsCalled, at_the_call, at_the_end, at_the_handover, at_the_release, gates, up_to_the_end}

pub called : IsCalled at_the_call 0 3 1
unfolding stands ready next_is owned_by counted born go_past release turned happens ended
called =
    record {
      routine = _;
      there = refl;
      top = _;
      below = _;
      frames = refl;
      items = refl;
      answers = refl;
      on = refl;
    }

pub given : IsGiven (source gates) at_the_release (Step 0) 1 (lock.Object 1) 0
unfolding stands ready next_is owned_by counted born go_past release turned happens ended
given = record { waited = refl; place = Ready 2; stands = refl; awake = refl; runs = refl }

first_not_second : ◌≢◌ {A = Option ℕ} (Some 0) (Some 1)
first_not_second e = absurd (cc)

none_not_second : ◌≢◌ {A = Option ℕ} None (Some 1)
none_not_second e = absurd (cc)

pub others : OfOthers (source gates) 1 up_to_the_end at_the_handover
unfolding stands ready next_is owned_by counted born go_past release turned happens ended
others = (first_not_second, (none_not_second, (first_not_second, (first_not_second, tt))))

pub owner : at_the_end.book.owner (lock.Object 1) ≡ Some 1
unfolding stands ready next_is owned_by counted born go_past release turned happens ended
owner = refl

pub holds : (source gates).verdict at_the_end.store (at_the_release.frames 1) 0 ≡ Holds
unfolding stands ready next_is owned_by counted born go_past release turned happens ended
holds = refl
