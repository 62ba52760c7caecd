-- In every state of every execution of a well-typed program, what variables hold is of their types.
use Rattle.std.proofs.Common.{◌≡◌, ℕ, List, [], ◌∷◌, map, Option, Some, refl, sym, subst}
use Rattle.aos_base.specs.Machine.{Machine, execution}
use Rattle.aos_base.specs.Rooted.{Made}
use Rattle.aos_concurrency.specs.Acting.{KeepsTidy, ByTurn, ByGoingPast, ByStart, ByTrap, ByEnd, acting}
use Rattle.aos_concurrency.specs.Regions.{Outside}
use Rattle.aos_concurrency.specs.Sound.{Sound}
use Rattle.aos_concurrency.proofs.Begin.{start_sound}
use Rattle.aos_concurrency.proofs.Changes.{execution_tidy}
use Rattle.aos_concurrency.proofs.Itself.{sound_fitting}
use Rattle.aos_concurrency.proofs.Steps.{execution_sound, sound_always}
use Rattle.aos_types.specs.Content.{Content}
use Rattle.aos_types.specs.Shape.{Shape}
use Rattle.aos_types.specs.World.{World}
use Rattle.aos_code.specs.declared.instr.Cell.{Cell}
use Rattle.aos_memory_laws.specs.Shows.{AllShown}
use Rattle.aos_typed.specs.Program.{Program}
use Rattle.aos_typed.specs.Sort.{Sort}
use Rattle.aos_typed.specs.Source.{Frame, Frames, first_state, first_store, made_shape, module_shape, source}
use Rattle.aos_typed.specs.Store.{Store}
use Rattle.aos_typed.specs.Typing.{Is}
use Rattle.aos_typed.specs.Value.{Value}
use Rattle.aos_typed.specs.WellTyped.{IsWellTyped}
use Rattle.aos_sim.specs.Cells.{cell_of}
use Rattle.aos_sim.proofs.States.{world_of}
use Rattle.aos_escape.proofs.Acting.{acting_known, matched, numbers, of_traced}
use Rattle.aos_escape.proofs.Alike.{first, start}
use Rattle.aos_escape.proofs.Traced.{Traces, traced}
use Rattle.aos_preservation.specs.Preserved.{AllFit, AreTypedFrames, IsTypedStore, TypesArePreserved}
use Rattle.aos_preservation.proofs.Frames.{AllHold, AllTyped}
use Rattle.aos_preservation.proofs.Keeps.{Kept, first_kept, kept_regions, names as named, none_held, turned}
use Rattle.aos_preservation.proofs.Stored.{Held, hold_below, top_fits}

module _ (p : Program) where
  all_fit : (w : World Sort) (ss : List (Shape Sort)) (cs : List (Content Value)) (ys : List (List Cell)) → AllShown (Is p) cell_of w ss cs ys → AllFit p w ss cs
  all_fit w [] [] [] h = tt
  all_fit w [] [] (y ∷ ys) h = absurd h
  all_fit w [] (c ∷ cs) ys h = absurd h
  all_fit w (s ∷ ss) [] ys h = absurd h
  all_fit w (s ∷ ss) (c ∷ cs) [] h = absurd h
  all_fit w (s ∷ ss) (c ∷ cs) (y ∷ ys) h = (let k = h.0 in k.fits, all_fit w ss cs ys h.1)

  store_typed : (s : Store) (fs : List Frame) → Held p s fs → IsTypedStore p s
  store_typed s fs h =
      let stores = h.stores in
      let mem = h.memory in
      record {
        modules = all_fit (world_of p s.made []) (map (module_shape p) p.modules) s.modules mem.modules stores.of_modules;
        objects = all_fit (world_of p s.made []) (map (made_shape p.types) s.made) s.objects mem.objects stores.of_objects;
      }

  frames_typed : (made : List Made) (ns : List ℕ) (fs : List Frame) → AllTyped p made ns fs → AllHold p made fs → AreTypedFrames p made ns fs
  frames_typed made [] [] h hold = tt
  frames_typed made [] (f ∷ fs) h hold = absurd h
  frames_typed made (n ∷ ns) [] h hold = absurd h
  frames_typed made (n ∷ ns) (f ∷ fs) h hold =
      let k = h.0 in (
        record {
          routine = k.routine;
          there = k.there;
          locals = λ i t e. let of_frame = k.frame in let stood = of_frame.locals i t e in stood.there;
          holds = top_fits p made f fs hold;
        },
        frames_typed made ns fs h.1 (hold_below p made f fs hold),
      )

  module _ (well : IsWellTyped p) where
    abbrev m : Machine Store (Traces p (named p well))
    m = traced p (named p well)

    abbrev X : Type 0
    X = Traces p (named p well)

    -- what the store holds, whoever acts
    abbrev IsHeld : Store → (ℕ → Option X) → Type 0
    IsHeld s t = Held p s []

    held_kept : KeepsTidy m (Outside m) (Kept p well) IsHeld
    held_kept _ _ _ _ (ByTurn s t a x is fits) held = none_held p well _ _ (turned p well s x fits).1
    held_kept _ _ _ _ (ByGoingPast s t a w x is goes fits) held = held
    held_kept _ _ _ _ (ByStart s t new a o x none is fits) held = held
    held_kept _ _ _ _ (ByTrap s t a w x is may fits) held = held
    held_kept _ _ _ _ (ByEnd s t a x is) held = held

    start_kept : (budget : ℕ) → Sound m (Kept p well) (start p (named p well) budget)
    start_kept budget = start_sound (first_store p) (first p (named p well)) budget m (Kept p well) (first_kept p well) refl

    pub preserved : TypesArePreserved p
    preserved budget choices =
        let names = named p well in
        let keeps = kept_regions p well in
        let begun = start p names budget in
        let st = execution (source p) choices (first_state p budget) in
        let tu = of_traced p names budget choices in
        let same = matched p names budget choices in
        let sound : Sound m (Kept p well) tu = execution_sound m (Kept p well) keeps choices begun (start_kept budget) in
        let once = first_kept p well in
        let held : IsHeld tu.store (acting m tu) =
        execution_tidy m (Outside m) (Kept p well) keeps.fits IsHeld held_kept choices begun (sound_always m (Kept p well) keeps begun (start_kept budget)) (sound_fitting m (Kept p well) begun (start_kept budget)) once.both.1 in
        record {
          store = subst (IsTypedStore p) (sym same.stores) (store_typed tu.store [] held);
          numbers = numbers p names budget choices;
          frames = subst (λ (s : Store). (a : ℕ) (f : Frames) → acting (source p) st a ≡ Some f → AreTypedFrames p s.made (numbers p names budget choices a) f.frames) (sym same.stores)
              (acting_known p names budget choices (Kept p well) sound (λ f ns. AreTypedFrames p tu.store.made ns f.frames)
              (λ w x h. let both = h.both in let k = both.1 in frames_typed tu.store.made x.1 x.0.frames both.0 k.frames));
        }
