-- Whatever the machine, activities stand in order; and their frames fit where its own laws say so.
use Rattle.std.proofs.Common.{◌≡◌, ℕ, List, refl, ap, subst}
use Rattle.std.specs.Prelude.{Option, Some, None}
use Rattle.aos_base.specs.declared.kernel.Did.{Did}
use Rattle.aos_base.specs.declared.kernel.Did.TheVariants.{Went, Await}
use Rattle.aos_base.specs.declared.kernel.LockName.{LockName}
use Rattle.aos_base.specs.declared.kernel.LockName.TheVariants.{Module}
use Rattle.aos_base.specs.Lock.{Entry, Condition}
use Rattle.aos_base.specs.Book.{RunState, On, Ready, At, Next, Runs, WillTrap, Unwinds, Gone}
use Rattle.aos_base.specs.Machine.{Choice, Machine, State, start_of, happens, execution}
use Rattle.aos_concurrency.specs.LocalState.{local_state, Anyone, AtWork}
use Rattle.aos_concurrency.specs.Orderly.{Agrees, Orderly}
use Rattle.aos_concurrency.specs.Regions.{Outside, KeepsFits}
use Rattle.aos_concurrency.specs.Admits.{Admits, AlwaysAdmits}
use Rattle.aos_concurrency.specs.Sound.{Fitting, Sound}
use Rattle.aos_concurrency.specs.Simulates.{SameAnew, Simulates, Matches}
use Rattle.aos_concurrency.proofs.Works.{work_map}
use Rattle.aos_concurrency.proofs.Matching.{happens_matches, execution_matches, start_matches}

module _ {S F : Type 0} (m : Machine S F) (Admitted : LockName → F → Type 0) (Fits : S → Did → F → Type 0) where
  abbrev One : S → S → Type 0
  One s t = s ≡ t

  -- the same frames, which fit
  abbrev Fit : S → S → Did → F → F → Type 0
  Fit s t w f g = Fits s w f × (f ≡ g)

  fit_anew : (s t : S) (o : Option F) → ((g : F) → o ≡ Some g → Fits s Went g) → SameAnew One Fit s t o o
  fit_anew s t None h = tt
  fit_anew s t (Some f) h = (h f refl, refl)

  -- a machine simulates itself
  itself : KeepsFits m Admitted Fits → Simulates One Fit Admitted m m
  itself keeps = record {
    turn = λ s t f g p q. record {
      stores = λ i. (m.turn (p i) (q.1 i)).store;
      frames = (keeps.turn s f q.0, λ i. (m.turn (p i) (q.1 i)).frames);
      left = λ i. (m.turn (p i) (q.1 i)).left;
      output = λ i. (m.turn (p i) (q.1 i)).output;
      begun = λ i. (m.turn (p i) (q.1 i)).begun;
    };
    kept = λ s t f g p q w f' g' h. (keeps.kept s f q.0 w f' h.0, h.1);
    past = λ s t w f g goes p q. (keeps.past s w f goes q.0, ap m.past q.1);
    verdict = λ s t l c f g p q i. m.verdict (p i) (q.1 i) c;
    regions = λ s t w f g may p q. ap m.regions q.1;
    position = λ s t w f g may p q. ap m.position q.1;
    anew = λ s t w f g may p q. subst (λ x. SameAnew One Fit s t (m.anew f) (m.anew x)) q.1 (fit_anew s t (m.anew f) (λ y e. keeps.anew s w f y may q.0 e));
    body = λ s t o f g p q. (keeps.body s o f q.0, λ i. m.body (p i) o);
    priority = λ s t o f g p q i. m.priority (p i) o;
  }

  matching : (st : State S F) → Fitting Admitted Fits st → Matches One Fit Admitted st st
  matching st h = record {
    book = refl;
    stores = refl;
    orderly = h.orderly;
    frames = λ a. work_map (λ l. Admitted l (st.frames a)) (λ w. Fits st.store w (st.frames a)) (λ w. Fit st.store st.store w (st.frames a) (st.frames a)) (λ w y. (y, refl)) _ _ (h.fits a);
  }

  fitting : (st : State S F) → Matches One Fit Admitted st st → Fitting Admitted Fits st
  fitting st h = record {
    orderly = h.orderly;
    fits = λ a. work_map (λ l. Admitted l (st.frames a)) (λ w. Fit st.store st.store w (st.frames a) (st.frames a)) (λ w. Fits st.store w (st.frames a)) (λ w y. y.0) _ _ (h.frames a);
  }

  pub happens_fitting : KeepsFits m Admitted Fits → (c : Choice) (st : State S F) → Admits m Admitted st → Fitting Admitted Fits st → Fitting Admitted Fits (happens m c st)
  happens_fitting keeps c st admits h = fitting (happens m c st) (happens_matches One Fit Admitted m m (itself keeps) c st st admits (matching st h))

  pub execution_fitting : KeepsFits m Admitted Fits → (cs : List Choice) (st : State S F) → AlwaysAdmits m Admitted st → Fitting Admitted Fits st → Fitting Admitted Fits (execution m cs st)
  execution_fitting keeps cs st always h = fitting (execution m cs st) (execution_matches One Fit Admitted m m (itself keeps) cs st st always (matching st h))

  pub start_fitting : KeepsFits m Admitted Fits → (s : S) (f : F) (budget : ℕ) → Fits s Went f → Fitting Admitted Fits (start_of s f budget)
  start_fitting keeps s f budget rest = fitting (start_of s f budget) (start_matches One Fit Admitted m m (itself keeps) s s f f budget refl (rest, refl))

module _ {S F : Type 0} (m : Machine S F) (Fits : S → Did → F → Type 0) where
  pub sound_fitting : (st : State S F) → Sound m Fits st → Fitting (Outside m) Fits st
  sound_fitting st sound = record { orderly = sound.orderly; fits = λ a. (let s = sound.each a in s.fits) }

module _ {S F : Type 0} (m : Machine S F) where
  -- each frame fits where nothing is asked of it
  abbrev pub Any : S → Did → F → Type 0
  Any s w f = Unit {0}

  pub anything : (Admitted : LockName → F → Type 0) → KeepsFits m Admitted Any
  anything Admitted = record {
    turn = λ s f h. tt;
    kept = λ s f h w g k. tt;
    past = λ s w f goes h. tt;
    body = λ s o f h. tt;
    anew = λ s w f g may h e. tt;
  }

  any_work : (n : Next) (p : Option RunState) → Agrees n p → AtWork (λ l. Unit {0}) (λ w. Unit {0}) n p
  any_work Runs None h = tt
  any_work Runs (Some (On w)) h = tt
  any_work Runs (Some (Ready p)) h = tt
  any_work Runs (Some (At l Entry)) h = (tt, tt)
  any_work Runs (Some (At l (Condition c))) h = tt
  any_work (WillTrap k) p h = (Await (Module 0) 0, (tt, tt))
  any_work (Unwinds ls) p h = (Await (Module 0) 0, (tt, tt))
  any_work Gone p h = tt

  pub any_fitting : (st : State S F) → Orderly st → Fitting Anyone Any st
  any_fitting st o = record { orderly = o; fits = λ a. any_work (local_state st a).next (local_state st a).place (o.agrees a) }

  pub happens_orderly : (c : Choice) (st : State S F) → Orderly st → Orderly (happens m c st)
  happens_orderly c st o = (happens_fitting m Anyone Any (anything Anyone) c st (λ a l asks. tt) (any_fitting st o)).orderly

  -- in every state of every execution, of any machine
  pub execution_orderly : (cs : List Choice) (st : State S F) → Orderly st → Orderly (execution m cs st)
  execution_orderly cs st o = (execution_fitting m Anyone Any (anything Anyone) cs st (λ later a l asks. tt) (any_fitting st o)).orderly
