-- A toy whose commands take no lock is never Dead.
use Rattle.std.proofs.Common.{◌≡◌, ◌≢◌, ℕ, List, [], ◌∷◌, subst}
use Rattle.std.specs.Prelude.{Some}
use Rattle.aos_base.specs.declared.kernel.Did.{Did}
use Rattle.aos_base.specs.declared.kernel.Outcome.TheVariants as outcome_is
use Rattle.aos_base.specs.Book.{outcome}
use Rattle.aos_base.specs.Machine.{Choice}
use Rattle.aos_concurrency.specs.Waits.{MayWait, NeverWaits}
use Rattle.aos_concurrency.specs.Toy.{Command, Skip, Say, Raise, Take, Give, Until, Fork, Fail, Shared, Program, Frames, nothing_raised, whole_of, toy, toy_turn, toy_past, toy_run, TakesNone}
use Rattle.aos_concurrency.proofs.ToyKeeps.{same_commands, whole_past}
use Rattle.aos_concurrency.proofs.NeverDead.{never_dead}

-- what is left takes no lock, nor does the whole or what a new activity makes
record Free (s : Shared) (f : Frames) : Type 0 where
  pub rest : TakesNone f.rest
  pub whole : TakesNone f.whole
  pub forked : TakesNone s.commands

none_behind : (c : Command) (rest : List Command) → TakesNone (c ∷ rest) → TakesNone rest
none_behind Skip rest h = h
none_behind (Say b) rest h = h
none_behind (Raise l) rest h = h
none_behind (Take l) rest h = absurd h
none_behind (Give l) rest h = h
none_behind (Until l n) rest h = absurd h
none_behind Fork rest h = h
none_behind (Fail n) rest h = h

none_past : (f : Frames) (rest : List Command) → TakesNone rest → TakesNone f.rest → TakesNone (toy_past rest f).rest
none_past f [] h k = k
none_past f (c ∷ rest) h k = none_behind c rest h

turns_free : (s : Shared) (f : Frames) (rest : List Command) → TakesNone rest → Free s f → Free (toy_turn s f rest).store (toy_turn s f rest).frames
turns_free s f [] h k = record { rest = k.rest; whole = k.whole; forked = k.forked }
turns_free s f (Skip ∷ rest) h k = record { rest = h; whole = k.whole; forked = k.forked }
turns_free s f (Say b ∷ rest) h k = record { rest = h; whole = k.whole; forked = k.forked }
turns_free s f (Raise l ∷ rest) h k = record { rest = h; whole = k.whole; forked = k.forked }
turns_free s f (Take l ∷ rest) h k = record { rest = k.rest; whole = k.whole; forked = k.forked }
turns_free s f (Give l ∷ rest) h k = record { rest = k.rest; whole = k.whole; forked = k.forked }
turns_free s f (Until l n ∷ rest) h k = record { rest = k.rest; whole = k.whole; forked = k.forked }
turns_free s f (Fork ∷ rest) h k = record { rest = k.rest; whole = k.whole; forked = k.forked }
turns_free s f (Fail n ∷ rest) h k = record { rest = k.rest; whole = k.whole; forked = k.forked }

no_wait : (s : Shared) (f : Frames) (rest : List Command) → TakesNone rest → MayWait (toy_turn s f rest).left → ⊥
no_wait s f [] h = λ k. k
no_wait s f (Skip ∷ rest) h = λ k. k
no_wait s f (Say b ∷ rest) h = λ k. k
no_wait s f (Raise l ∷ rest) h = λ k. k
no_wait s f (Take l ∷ rest) h = absurd h
no_wait s f (Give l ∷ rest) h = λ k. k
no_wait s f (Until l n ∷ rest) h = absurd h
no_wait s f (Fork ∷ rest) h = λ k. k
no_wait s f (Fail n ∷ rest) h = λ k. k

begins_anew : (s : Shared) (f g : Frames) → Free s f → Some (whole_of f.whole) ≡ Some g → Free s g
begins_anew s f g h is = let e : whole_of f.whole ≡ g = cc is in subst (Free s) e (record { rest = h.whole; whole = h.whole; forked = h.forked })

abbrev Fits : Shared → Did → Frames → Type 0
Fits s w f = Free s f

toy_waits : NeverWaits toy Fits
toy_waits = record {
  fits = record {
    turn = λ s f h. turns_free s f f.rest h.rest h;
    kept = λ s f h w g k. record { rest = k.rest; whole = k.whole; forked = subst TakesNone (same_commands s f f.rest) k.forked };
    past = λ s w f goes h. record { rest = none_past f f.rest h.rest h.rest; whole = subst TakesNone (whole_past f.rest f) h.whole; forked = h.forked };
    body = λ s o f h. record { rest = h.forked; whole = h.forked; forked = h.forked };
    anew = λ s w f g may h is. begins_anew s f g h is;
  };
  turn = λ s f h. no_wait s f f.rest h.rest;
}

pub toy_never_dead : (p : Program) (budget : ℕ) (cs : List Choice) → TakesNone p.commands → TakesNone p.forked → outcome (toy_run p budget cs).book ≢ outcome_is.Dead
toy_never_dead p budget cs own forked =
    never_dead toy Fits toy_waits (nothing_raised p.forked) (whole_of p.commands) budget cs (record { rest = own; whole = own; forked = forked })
