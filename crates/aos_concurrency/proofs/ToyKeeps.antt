-- A toy whose commands are well nested keeps its regions, and stays well nested.
use Rattle.std.proofs.Common.{◌≡◌, ℕ, List, [], ◌∷◌, refl, sym, ap, subst}
use Rattle.std.specs.Prelude.{nat_eq, Option, Some, None}
use Rattle.aos_base.specs.declared.kernel.LockName.{LockName}
use Rattle.aos_base.specs.declared.kernel.Did.{Did}
use Rattle.aos_base.specs.declared.kernel.Did.TheVariants.{Went, Ended, Enter, Leave, Await, Start, Trapped}
use Rattle.aos_base.specs.Book.{put}
use Rattle.aos_base.specs.Machine.{Choice}
use Rattle.aos_concurrency.specs.LocalState.{GoesPast}
use Rattle.aos_concurrency.specs.Regions.{Outside, Passes, KeepsFits, KeepsRegions}
use Rattle.aos_concurrency.specs.Sound.{Sound}
use Rattle.aos_concurrency.specs.Mutual.{Mutual}
use Rattle.aos_concurrency.specs.Acting.{acts, acting, ByTurn, ByGoingPast, ByStart, ByTrap, ByEnd, KeepsTidy}
use Rattle.aos_concurrency.specs.Toy.{Command, Skip, Say, Raise, Take, Give, Until, Fork, Fail, Shared, Program, Frames, nothing_raised, whole_of, toy, toy_turn, toy_past, toy_start, toy_run, Nested, IsNested}
use Rattle.aos_concurrency.proofs.Tables.{number, each_put}
use Rattle.aos_concurrency.proofs.Begin.{each_start, start_sound}
use Rattle.aos_concurrency.proofs.Steps.{execution_sound, sound_always}
use Rattle.aos_concurrency.proofs.Excludes.{sound_mutual}
use Rattle.aos_concurrency.proofs.Itself.{sound_fitting}
use Rattle.aos_concurrency.proofs.Changes.{execution_tidy}

-- what the first command leaves to the kernel
abbrev pub asks : List Command → Did
asks [] = Ended
asks (Skip ∷ rest) = Went
asks (Say b ∷ rest) = Went
asks (Raise l ∷ rest) = Went
asks (Take l ∷ rest) = Enter l
asks (Give l ∷ rest) = Leave l
asks (Until l n ∷ rest) = Await l n
asks (Fork ∷ rest) = Start 0
asks (Fail n ∷ rest) = Trapped n 0

abbrev pub StandsAt : Did → List Command → Type 0
StandsAt Went rest = Unit {0}
StandsAt Ended rest = asks rest ≡ Ended
StandsAt (Enter l) rest = asks rest ≡ Enter l
StandsAt (Leave l) rest = asks rest ≡ Leave l
StandsAt (Await l c) rest = asks rest ≡ Await l c
StandsAt (Start o) rest = asks rest ≡ Start o
StandsAt (Trapped n c) rest = asks rest ≡ Trapped n c

-- what is left is well nested in the open regions, and so are the whole and what a new activity makes
pub record ToyFits (s : Shared) (w : Did) (f : Frames) : Type 0 where
  pub rest : Nested f.rest f.regions
  pub whole : Nested f.whole []
  pub forked : Nested s.commands []
  pub at : StandsAt w f.rest

abbrev of : List Command → List LockName → List Command → Frames
of rest ls whole = record { rest = rest; regions = ls; whole = whole }

turns : (s : Shared) (rest : List Command) (ls : List LockName) (whole : List Command) → Nested rest ls → Nested whole [] → Nested s.commands [] → ToyFits (toy_turn s (of rest ls whole) rest).store (toy_turn s (of rest ls whole) rest).left (toy_turn s (of rest ls whole) rest).frames
turns s [] ls whole h k f = record { rest = h; whole = k; forked = f; at = refl }
turns s (Skip ∷ rest) ls whole h k f = record { rest = h; whole = k; forked = f; at = tt }
turns s (Say b ∷ rest) ls whole h k f = record { rest = h; whole = k; forked = f; at = tt }
turns s (Raise l ∷ rest) ls whole h k f = record { rest = h.1; whole = k; forked = f; at = tt }
turns s (Take l ∷ rest) ls whole h k f = record { rest = h; whole = k; forked = f; at = refl }
turns s (Give l ∷ rest) ls whole h k f = record { rest = h; whole = k; forked = f; at = refl }
turns s (Until l n ∷ rest) ls whole h k f = record { rest = h; whole = k; forked = f; at = refl }
turns s (Fork ∷ rest) ls whole h k f = record { rest = h; whole = k; forked = f; at = refl }
turns s (Fail n ∷ rest) ls whole h k f = record { rest = h; whole = k; forked = f; at = refl }

pub same_commands : (s : Shared) (f : Frames) (rest : List Command) → s.commands ≡ (toy_turn s f rest).store.commands
same_commands s f [] = refl
same_commands s f (Skip ∷ rest) = refl
same_commands s f (Say b ∷ rest) = refl
same_commands s f (Raise l ∷ rest) = refl
same_commands s f (Take l ∷ rest) = refl
same_commands s f (Give l ∷ rest) = refl
same_commands s f (Until l n ∷ rest) = refl
same_commands s f (Fork ∷ rest) = refl
same_commands s f (Fail n ∷ rest) = refl

same_regions : (s : Shared) (f : Frames) (rest : List Command) → (toy_turn s f rest).frames.regions ≡ f.regions
same_regions s f [] = refl
same_regions s f (Skip ∷ rest) = refl
same_regions s f (Say b ∷ rest) = refl
same_regions s f (Raise l ∷ rest) = refl
same_regions s f (Take l ∷ rest) = refl
same_regions s f (Give l ∷ rest) = refl
same_regions s f (Until l n ∷ rest) = refl
same_regions s f (Fork ∷ rest) = refl
same_regions s f (Fail n ∷ rest) = refl

-- the kernel lets it past the first command that is left
goes_past : (w : Did) (f : Frames) → StandsAt w f.rest → GoesPast (Outside toy) w f → GoesPast (Outside toy) (asks f.rest) f
goes_past Went f at goes = absurd goes
goes_past Ended f at goes = absurd goes
goes_past (Enter l) f at goes = subst (λ w. GoesPast (Outside toy) w f) (sym at) goes
goes_past (Leave l) f at goes = subst (λ w. GoesPast (Outside toy) w f) (sym at) goes
goes_past (Await l c) f at goes = subst (λ w. GoesPast (Outside toy) w f) (sym at) goes
goes_past (Start o) f at goes = subst (λ w. GoesPast (Outside toy) w f) (sym at) goes
goes_past (Trapped n c) f at goes = absurd goes

nested_past : (rest : List Command) (ls : List LockName) (whole : List Command) → GoesPast (Outside toy) (asks rest) (of rest ls whole) → Nested rest ls → Nested (toy_past rest (of rest ls whole)).rest (toy_past rest (of rest ls whole)).regions
nested_past [] ls whole goes h = h
nested_past (Skip ∷ rest) ls whole goes h = h
nested_past (Say b ∷ rest) ls whole goes h = h
nested_past (Raise l ∷ rest) ls whole goes h = h.1
nested_past (Take l ∷ rest) ls whole goes h = h goes
nested_past (Give l ∷ rest) ls whole goes h = h.1
nested_past (Until l n ∷ rest) ls whole goes h = h.1
nested_past (Fork ∷ rest) ls whole goes h = h
nested_past (Fail n ∷ rest) ls whole goes h = h

behind : (s : Shared) (w : Did) (f : Frames) → GoesPast (Outside toy) w f → ToyFits s w f → Nested (toy_past f.rest f).rest (toy_past f.rest f).regions
behind s w f goes h = nested_past f.rest f.regions f.whole (goes_past w f h.at goes) h.rest

pub whole_past : (rest : List Command) (f : Frames) → f.whole ≡ (toy_past rest f).whole
whole_past [] f = refl
whole_past (c ∷ rest) f = refl

passes_at : (rest : List Command) (ls : List LockName) (whole : List Command) → Nested rest ls → Passes toy (asks rest) (of rest ls whole)
passes_at [] ls whole h = h
passes_at (Skip ∷ rest) ls whole h = tt
passes_at (Say b ∷ rest) ls whole h = tt
passes_at (Raise l ∷ rest) ls whole h = tt
passes_at (Take l ∷ rest) ls whole h = λ outside. refl
passes_at (Give l ∷ rest) ls whole h = h.0
passes_at (Until l n ∷ rest) ls whole h = (refl, h.0)
passes_at (Fork ∷ rest) ls whole h = refl
passes_at (Fail n ∷ rest) ls whole h = tt

passes : (s : Shared) (w : Did) (f : Frames) → ToyFits s w f → Passes toy w f
passes s Went f h = tt
passes s Ended f h = subst (λ w. Passes toy w f) h.at (passes_at f.rest f.regions f.whole h.rest)
passes s (Enter l) f h = subst (λ w. Passes toy w f) h.at (passes_at f.rest f.regions f.whole h.rest)
passes s (Leave l) f h = subst (λ w. Passes toy w f) h.at (passes_at f.rest f.regions f.whole h.rest)
passes s (Await l c) f h = subst (λ w. Passes toy w f) h.at (passes_at f.rest f.regions f.whole h.rest)
passes s (Start o) f h = subst (λ w. Passes toy w f) h.at (passes_at f.rest f.regions f.whole h.rest)
passes s (Trapped n c) f h = tt

begins_anew : (s : Shared) (w : Did) (f g : Frames) → ToyFits s w f → Some (whole_of f.whole) ≡ Some g → ToyFits s Went g
begins_anew s w f g h is = let e : whole_of f.whole ≡ g = cc is in subst (ToyFits s Went) e (record { rest = h.whole; whole = h.whole; forked = h.forked; at = tt })

pub toy_fits : KeepsFits toy (Outside toy) ToyFits
toy_fits = record {
  turn = λ s f h. turns s f.rest f.regions f.whole h.rest h.whole h.forked;
  kept = λ s f h w g k. record { rest = k.rest; whole = k.whole; forked = subst (λ cs. Nested cs []) (same_commands s f f.rest) k.forked; at = k.at };
  past = λ s w f goes h. record { rest = behind s w f goes h; whole = subst (λ cs. Nested cs []) (whole_past f.rest f) h.whole; forked = h.forked; at = tt };
  body = λ s o f h. record { rest = h.forked; whole = h.forked; forked = h.forked; at = tt };
  anew = λ s w f g may h is. begins_anew s w f g h is;
}

pub toy_keeps : KeepsRegions toy ToyFits
toy_keeps = record {
  fits = toy_fits;
  turn = λ s f h. same_regions s f f.rest;
  passes = passes;
  body = λ s o f h. refl;
  anew = λ s w f g may h is. (let e : whole_of f.whole ≡ g = cc is in ap (λ (x : Frames). x.regions) (sym e));
}

module _ (p : Program) (budget : ℕ) (h : IsNested p) where
  pub toy_first : Sound toy ToyFits (toy_start p budget)
  toy_first = start_sound (nothing_raised p.forked) (whole_of p.commands) budget toy ToyFits (record { rest = h.0; whole = h.0; forked = h.1; at = tt }) refl

  pub toy_sound : (cs : List Choice) → Sound toy ToyFits (toy_run p budget cs)
  toy_sound cs = execution_sound toy ToyFits toy_keeps cs (toy_start p budget) toy_first

  pub toy_mutual : (cs : List Choice) → Mutual toy (toy_run p budget cs)
  toy_mutual cs = sound_mutual toy ToyFits (toy_run p budget cs) (toy_sound cs)

-- The frames of those that run are well nested

abbrev pub AllNested : Shared → (ℕ → Option Frames) → Type 0
AllNested s t = (a : ℕ) (f : Frames) → t a ≡ Some f → Nested f.rest f.regions

some_nested : (t : ℕ → Option Frames) (s : Shared) (a : ℕ) (g : Frames) → Nested g.rest g.regions → AllNested s t → AllNested s (put nat_eq t a (Some g))
some_nested t s a g h all x f =
    each_put number (λ _ o. o ≡ Some f → Nested f.rest f.regions) t a (Some g) (λ is. let e : g ≡ f = cc is in subst (λ (y : Frames). Nested y.rest y.regions) e h) (λ z ne. all z f) x

pub nested_stays : KeepsTidy toy (Outside toy) ToyFits AllNested
nested_stays s t _ _ (ByTurn x y a f is h) all = some_nested t (toy_turn s f f.rest).store a _ ((turns s f.rest f.regions f.whole h.rest h.whole h.forked).rest) all
nested_stays s t _ _ (ByGoingPast x y a w f is goes h) all = some_nested t s a _ (behind s w f goes h) all
nested_stays s t _ _ (ByStart x y new a o f none is h) all = some_nested t s new _ h.forked all
nested_stays s t _ _ (ByTrap x y a w f is may h) all = some_nested t s a _ h.whole all
nested_stays s t _ _ (ByEnd x y a f is) all = λ z g. each_put number (λ _ o. o ≡ Some g → Nested g.rest g.regions) t a None (λ e. absurd (cc e)) (λ other ne. all other g) z

first_nested : (p : Program) (budget : ℕ) → IsNested p → AllNested (toy_start p budget).store (acting toy (toy_start p budget))
first_nested p budget h =
    each_start (nothing_raised p.forked) (whole_of p.commands) budget (λ _ y. (f : Frames) → acts toy y.next y.frames ≡ Some f → Nested f.rest f.regions)
    (λ f is. let e : whole_of p.commands ≡ f = cc is in subst (λ (y : Frames). Nested y.rest y.regions) e h.0) (λ x ne f is. absurd (cc is))

pub toy_nested : (p : Program) (budget : ℕ) → IsNested p → (cs : List Choice) → AllNested (toy_run p budget cs).store (acting toy (toy_run p budget cs))
toy_nested p budget h cs =
    execution_tidy toy (Outside toy) ToyFits toy_fits AllNested nested_stays cs (toy_start p budget)
    (sound_always toy ToyFits toy_keeps (toy_start p budget) (toy_first p budget h))
    (sound_fitting toy ToyFits (toy_start p budget) (toy_first p budget h)) (first_nested p budget h)
