-- Who acts in a program's machine acts in the one whose frames have numbers, with the same frames.
use Rattle.std.proofs.Common.{◌≡◌, ℕ, List, Option, Some, None, refl, sym, ap, ◌∙◌, subst}
use Rattle.std.specs.Prelude.{option_map}
use Rattle.aos_base.specs.Book.{Next, Runs, WillTrap, Unwinds, Gone, RunState}
use Rattle.aos_base.specs.Machine.{Choice, State, execution}
use Rattle.aos_base.specs.declared.kernel.Did.{Did}
use Rattle.aos_base.specs.declared.kernel.LockName.{LockName}
use Rattle.aos_concurrency.specs.Acting.{acting, acts}
use Rattle.aos_concurrency.specs.Orderly.{Agrees}
use Rattle.aos_concurrency.specs.Regions.{Outside}
use Rattle.aos_concurrency.specs.Sound.{Sound}
use Rattle.aos_concurrency.specs.LocalState.{AtWork, before, local_state}
use Rattle.aos_concurrency.proofs.Works.{runs_at}
use Rattle.aos_typed.specs.Program.{Program}
use Rattle.aos_typed.specs.Store.{Store}
use Rattle.aos_typed.specs.Source as S
use Rattle.aos_typed.specs.Source.{first_state, source}
use Rattle.aos_escape.specs.Hidden.{numbered}
use Rattle.aos_escape.proofs.Alike.{AreMatched, SameFrames, always_matched, source_stands, start}
use Rattle.aos_escape.proofs.Names.{HasNames}
use Rattle.aos_escape.proofs.Traced.{Traces, traced}

module _ (p : Program) (names : HasNames p) (budget : ℕ) (choices : List Choice) where
  abbrev pub of_source : State Store S.Frames
  of_source = execution (source p) choices (first_state p budget)

  abbrev pub of_traced : State Store (Traces p names)
  of_traced = execution (traced p names) choices (start p names budget)

  pub matched : AreMatched p names of_source of_traced
  matched = always_matched p names budget choices

  abbrev pub numbers : ℕ → List ℕ
  numbers a = (of_traced.frames a).1

  -- whoever runs stands somewhere, and so has the same frames in both
  running : (a : ℕ) (R : Did → Type 0) (Admitted : LockName → Type 0) (n : Next) (o : Option RunState) → n ≡ Runs → Agrees n o → AtWork Admitted R n o → (w : Did) × R w
  running a R Admitted n None e agrees h = absurd (subst (λ z. Agrees z None) e agrees)
  running a R Admitted n (Some q) e agrees h = (before q, runs_at Admitted R n (Some q) q e refl h)

  frames_same : (a : ℕ) → (local_state of_source a).next ≡ Runs → of_source.frames a ≡ (of_traced.frames a).0
  frames_same a e =
      let stands = source_stands p names budget choices in
      (running a (λ w. SameFrames p names of_source.store of_traced.store w (of_source.frames a) (of_traced.frames a)) (λ l. Outside (source p) l (of_source.frames a)) (local_state of_source a).next (local_state of_source a).place e (stands.orderly.agrees a) (matched.frames a)).1

  pub acting_same : (a : ℕ) → numbered p of_source numbers a ≡ acting (traced p names) of_traced a
  acting_same a = by (local_state of_source a).next refl ∙ ap (λ n. acts (traced p names) n (of_traced.frames a)) (ap (λ b. let x = b.activity a in x.next) matched.book)
    where
      by : (n : Next) → (local_state of_source a).next ≡ n → option_map (λ f. (f, numbers a)) (acts (source p) n (of_source.frames a)) ≡ acts (traced p names) n (of_traced.frames a)
      by Runs e = ap (λ f. Some (f, numbers a)) (frames_same a e)
      by (WillTrap k) e = refl
      by (Unwinds ls) e = refl
      by Gone e = refl

  -- what is known of the frames of whoever acts in the one is known in the other
  pub acting_known : (Fits : Store → Did → Traces p names → Type 0) → Sound (traced p names) Fits of_traced → (R : S.Frames → List ℕ → Type 0) → ((w : Did) (x : Traces p names) → Fits of_traced.store w x → R x.0 x.1) →
      (a : ℕ) (f : S.Frames) → acting (source p) of_source a ≡ Some f → R f (numbers a)
  acting_known Fits sound R known a f = by (local_state of_source a).next refl
    where
      by : (n : Next) → (local_state of_source a).next ≡ n → acts (source p) n (of_source.frames a) ≡ Some f → R f (numbers a)
      by Runs e is =
          let same : of_source.frames a ≡ f = cc is in
          let each = sound.each a in
          let next = ap (λ b. let x = b.activity a in x.next) (sym matched.book) ∙ e in
          let x = running a (λ w. Fits of_traced.store w (of_traced.frames a)) (λ l. Outside (traced p names) l (of_traced.frames a)) (local_state of_traced a).next (local_state of_traced a).place next (sound.orderly.agrees a) each.fits in
          subst (λ z. R z (numbers a)) (sym (frames_same a e) ∙ same) (known x.0 (of_traced.frames a) x.1)
      by (WillTrap k) e is = absurd (cc is)
      by (Unwinds ls) e is = absurd (cc is)
      by Gone e is = absurd (cc is)
