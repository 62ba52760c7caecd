-- The machine of a program keeps what its locks guard: what a lock that is passed to a waiter leaves to say.
use Rattle.std.proofs.Common.{◌≡◌, ◌≢◌, ◌<◌, inl, ℕ, List, [], ◌∷◌, length, map, Option, Some, None, refl, ap, ◌∙◌, arith}
use Rattle.std.specs.Prelude.{slice_get}
use Rattle.std.proofs.lemmas.List.{length-map}
use Rattle.std.proofs.lemmas.Option.{slice_get_within}
use Rattle.aos_base.specs.Machine.{Choice, execution}
use Rattle.aos_base.specs.declared.kernel.Did.{Did}
use Rattle.aos_base.specs.declared.kernel.Did.TheVariants.{Went}
use Rattle.aos_base.specs.declared.kernel.LockName.{LockName}
use Rattle.aos_base.specs.declared.kernel.LockName.TheVariants as lock
use Rattle.aos_concurrency.specs.Acting.{KeepsTidy, ByTurn, ByGoingPast, ByStart, ByTrap, ByEnd}
use Rattle.aos_concurrency.specs.Handover.{GuardsBy, HandsOver}
use Rattle.aos_concurrency.specs.Regions.{Outside, times}
use Rattle.aos_concurrency.specs.Sound.{Sound}
use Rattle.aos_concurrency.proofs.Begin.{start_sound}
use Rattle.aos_concurrency.proofs.Changes.{execution_tidy}
use Rattle.aos_concurrency.proofs.Heirs.{hands_over}
use Rattle.aos_concurrency.proofs.Itself.{sound_fitting}
use Rattle.aos_concurrency.proofs.Steps.{execution_sound, sound_always}
use Rattle.aos_typed.specs.Program.{Module, Program}
use Rattle.aos_typed.specs.Store.{Store, made_in}
use Rattle.aos_typed.specs.Typing.{Is}
use Rattle.aos_typed.specs.Source as S
use Rattle.aos_typed.specs.Source.{Frame, first_store, next_body, opened_by, regions_of, turn_at}
use Rattle.aos_typed.specs.WellTyped.{IsWellTyped}
use Rattle.aos_sim.specs.Cells.{cell_of}
use Rattle.aos_sim.proofs.Does.{scheme}
use Rattle.aos_sim.proofs.States.{world_of}
use Rattle.aos_uses.specs.Guarded.{IsQuiet}
use Rattle.aos_handover.proofs.Turns.{turn_kind}
use Rattle.aos_escape.specs.Naming.{AreOf, Builds, HideAll}
use Rattle.aos_escape.proofs.Alike.{first, start}
use Rattle.aos_escape.proofs.Beginning.{first_is_store, first_tidy}
use Rattle.aos_escape.proofs.Names.{HasNames}
use Rattle.aos_escape.proofs.Tidying.{IsTidy, keeps_tidy}
use Rattle.aos_escape.proofs.Traced.{Traces, next_numbers, opened_are, opened_numbers, traced}
use Rattle.aos_preservation.proofs.Keeps.{first_kept, names, typed}
use Rattle.aos_stability.specs.Agree.{AgreeOn, IsLocalAt}
use Rattle.aos_stability.specs.Lasts.{Lasts}
use Rattle.aos_stability.specs.Locations.{IsFree}
use Rattle.aos_stability.proofs.Told.{free_simply}
use Rattle.aos_stability.proofs.Reading.{reads}
use Rattle.aos_stability.proofs.Transfer.{source_hands_over}
use Rattle.aos_stability.proofs.Agreeing.{agree_same, agree_then, hidden_regions, shown_long, turn_agrees}
use Rattle.aos_stability.proofs.Fitting.{Fits, fits_kept, opened_serves, turn_up}
use Rattle.aos_stability.proofs.Serve.{AllServe}

module _ (p : Program) (well : IsWellTyped p) where
  abbrev named : HasNames p
  named = names p well

  abbrev X : Type 0
  X = Traces p named

  abbrev Fit : Store → Did → X → Type 0
  Fit = Fits p well

  -- who names an object, where all frames fit
  tidy_kept : KeepsTidy (traced p named) (Outside (traced p named)) Fit (IsTidy p named)
  tidy_kept _ _ _ _ (ByTurn s t a x is fits) tidy = keeps_tidy p named _ _ _ _ (ByTurn s t a x is fits.kept.traces) tidy
  tidy_kept _ _ _ _ (ByGoingPast s t a w x is goes fits) tidy = keeps_tidy p named _ _ _ _ (ByGoingPast s t a w x is goes fits.kept.traces) tidy
  tidy_kept _ _ _ _ (ByStart s t new a b x none is fits) tidy = keeps_tidy p named _ _ _ _ (ByStart s t new a b x none is fits.kept.traces) tidy
  tidy_kept _ _ _ _ (ByTrap s t a w x is may fits) tidy = keeps_tidy p named _ _ _ _ (ByTrap s t a w x is may fits.kept.traces) tidy
  tidy_kept _ _ _ _ (ByEnd s t a x is) tidy = keeps_tidy p named _ _ _ _ (ByEnd s t a x is) tidy

  -- the topmost frame is that of no quiet initializer on the object of the lock
  abbrev NotBuilding : LockName → List ℕ → List Frame → Type 0
  NotBuilding l [] fs = Unit {0}
  NotBuilding l (n ∷ ns) [] = Unit {0}
  NotBuilding l (n ∷ ns) (f ∷ fs) = IsQuiet p n → l ≡ lock.Object f.object → ⊥

  not_building : (l : LockName) (others : List Frame) → 0 < times l (regions_of others) → (ns : List ℕ) (fs : List Frame) → ((o : ℕ) → Builds p o ns fs → HideAll o others) → NotBuilding l ns fs
  not_building l others inside [] fs hide = tt
  not_building l others inside (n ∷ ns) [] hide = tt
  not_building l others inside (n ∷ ns) (f ∷ fs) hide = λ quiet e.
      let h = hide f.object (inl (quiet, refl)) in
      let none = ap (λ k. times k (regions_of others)) e ∙ hidden_regions f.object others h.selves in absurd (omega (arith, inside, none))

  opened_not : (l : LockName) (fs : List Frame) (ms ns : List ℕ) → NotBuilding l ns fs → NotBuilding l (opened_numbers p named fs ms ns) (opened_by p fs ms).frames
  opened_not l [] [] ns h = tt
  opened_not l (f ∷ fs) ms ns h = h
  opened_not l [] (m ∷ ms) ns h = by (slice_get p.modules m) refl
    where
      by : (o : Option Module) → slice_get p.modules m ≡ o → NotBuilding l (next_numbers p named m o) (next_body p m ms o).frames
      by None e = tt
      by (Some x) e = λ quiet same. let k = named in k.modules m (slice_get_within p.modules m x e) quiet

  frames_agree : (l : LockName) (following : List ℕ) (s : Store) (fs : List Frame) (ns : List ℕ) → AreOf p ns fs → AllServe p (typed p well) (made_in s) ns fs → length s.objects ≡ length s.made → NotBuilding l ns fs →
      times l (regions_of (turn_at p following fs s).frames.frames) ≡ 0 → AgreeOn p l s (turn_at p following fs s).store
  frames_agree l following s [] ns are serve long not none = agree_same p l s
  frames_agree l following s (f ∷ fs) [] are serve long not none = absurd are
  frames_agree l following s (f ∷ fs) (n ∷ ns) are serve long not none =
      turn_agrees p (typed p well) following s f fs (turn_at p following (f ∷ fs) s) n ns are serve long (turn_up p well following (f ∷ fs) s) l not (turn_kind p following s f fs) none

  -- a turn of one that is in no region of a lock, while another is in one
  outside : (s : Store) (t : ℕ → Option X) (l : LockName) (a b : ℕ) (f g : X) → IsTidy p named s t → a ≢ b → t a ≡ Some f → 0 < times l (regions_of f.0.frames) → t b ≡ Some g → Fit s Went g → Outside (traced p named) l g → AgreeOn p l s (S.turn p s g.0).store
  outside s t l a b f g tidy ne at_a inside at_b fits out =
      let x = g.0 in
      let now = S.opened p x in
      let known = fits.kept in
      let tr = known.traces in
      let held = known.both.1 in
      let stores = held.stores in
      let keeps = fits_kept p well in
      let long : length s.objects ≡ length s.made = shown_long (Is p) cell_of (world_of p s.made []) (map (scheme p).made s.made) s.objects (let mem = held.memory in mem.objects) stores.of_objects ∙ length-map s.made (scheme p).made in
      let hide : (o : ℕ) → Builds p o g.1 x.frames → HideAll o f.0.frames = λ o builds. let k = tidy.built b g o at_b builds in k.others a f ne at_a in
      frames_agree l now.following s now.frames (opened_numbers p named x.frames x.following g.1) (opened_are p named x.frames x.following g.1 tr.are)
      (opened_serves p well (made_in s) x.frames x.following g.1 tr.are fits.serve) long
      (opened_not l x.frames x.following g.1 (not_building l f.0.frames inside g.1 x.frames hide))
      (ap (times l) (keeps.turn s g fits) ∙ out)

  -- At the beginning.

  first_fits : Fit (first_store p) Went (first p named)
  first_fits =
      record {
        kept = first_kept p well;
        serve = tt;
        free = first_is_store p (IsFree p (made_in (first_store p))) (free_simply p (made_in (first_store p)));
      }

  guards : GuardsBy (traced p named) Fit (IsTidy p named) (AgreeOn p) (IsLocalAt p)
  guards =
      record {
        same = agree_same p;
        then_ = agree_then p;
        tidy = tidy_kept;
        outside = outside;
        reads = reads p well;
      }

  traced_hands_over : (budget : ℕ) (before others : List Choice) (entry : Choice) (a : ℕ) (l : LockName) (c : ℕ) → HandsOver (traced p named) (IsLocalAt p) (execution (traced p named) before (start p named budget)) entry a l c others
  traced_hands_over budget before others entry a l c =
      let keeps = fits_kept p well in
      let sound : Sound (traced p named) Fit (start p named budget) = start_sound (first_store p) (first p named) budget (traced p named) Fit first_fits refl in
      hands_over (traced p named) Fit (IsTidy p named) (AgreeOn p) (IsLocalAt p) keeps guards (execution (traced p named) before (start p named budget)) entry a l c others (execution_sound (traced p named) Fit keeps before (start p named budget) sound)
      (execution_tidy (traced p named) (Outside (traced p named)) Fit keeps.fits (IsTidy p named) tidy_kept before (start p named budget) (sound_always (traced p named) Fit keeps (start p named budget) sound) (sound_fitting (traced p named) Fit (start p named budget) sound) (first_tidy p named budget))

  pub lasts : Lasts p
  lasts budget before others entry a l c = source_hands_over p named (IsLocalAt p) budget before others entry a l c (traced_hands_over budget before others entry a l c)
