-- The frames with which the machine stands fit: they are typed and of their routines, and what they hold and were told is true.
use Rattle.std.proofs.Common.{◌≡◌, ℕ, zero, suc, List, [], ◌∷◌, ◌++◌, length, Option, Some, None, refl, sym, ap, subst}
use Rattle.std.specs.Prelude.{is_some, option_and_then, option_map, slice_get}
use Rattle.aos_base.specs.Question.{Awaits, Starts}
use Rattle.aos_base.specs.Rooted.{Made, by_number}
use Rattle.aos_base.specs.declared.root.Root.{Root}
use Rattle.aos_base.specs.declared.kernel.Did.{Did}
use Rattle.aos_base.specs.declared.kernel.Did.TheVariants.{Went, Ended, Enter, Leave, Start, Await, Trapped}
use Rattle.aos_concurrency.specs.Regions.{KeepsFits, KeepsRegions, Outside}
use Rattle.aos_concurrency.specs.LocalState.{GoesPast}
use Rattle.aos_types.specs.Content.{Content, Empty, EachSort}
use Rattle.aos_types.specs.Shape.{Shape}
use Rattle.aos_types.specs.World.{read, shape_at}
use Rattle.aos_typed.specs.Numbers.{body_number}
use Rattle.aos_typed.specs.Program.{Module, Program}
use Rattle.aos_typed.specs.Routines.{Routine, routine_of}
use Rattle.aos_typed.specs.Sort.{Sort}
use Rattle.aos_typed.specs.Store.{Store, made_in, type_of_object}
use Rattle.aos_typed.specs.Typing.{Is, IsPlain}
use Rattle.aos_typed.specs.Value.{Value}
use Rattle.aos_typed.specs.Meaning.{Item, Do, Rounds, Round, Until, Region, End, Gives, items_of}
use Rattle.aos_typed.specs.Source as S
use Rattle.aos_typed.specs.Source.{Frame, all_rooted, body_frame, done, goes_into, here_of, made_body, next_body, object_frames, opened_by, past_all, past_by, turn_at}
use Rattle.aos_typed.specs.WellTyped.{IsWellTyped}
use Rattle.aos_memory_laws.proofs.Grow.{objects_grow}
use Rattle.aos_memory_laws.proofs.Places.{at_place}
use Rattle.aos_sim.specs.Cells.{cell_of}
use Rattle.aos_sim.proofs.Does.{HasTypes, IsSelf, scheme}
use Rattle.aos_sim.proofs.Grown.{turn_grown}
use Rattle.aos_sim.proofs.Kept.{values_kept}
use Rattle.aos_sim.proofs.Regions.{IsAt}
use Rattle.aos_sim.proofs.Routines.{module_there, object_there}
use Rattle.aos_sim.proofs.States.{AreFew, shapes_of, world_of}
use Rattle.aos_handover.specs.Kinds.{IsAsking}
use Rattle.aos_handover.proofs.Turns.{turn_kind}
use Rattle.aos_escape.specs.Naming.{AreOf, ContentIs, ContentsAre, StoreIs}
use Rattle.aos_escape.proofs.Names.{HasNames}
use Rattle.aos_escape.proofs.Traced.{AsksFor, Traces, body_at, body_numbers, next_numbers, opened_are, opened_numbers, traced, turned_numbers}
use Rattle.aos_preservation.proofs.Frames.{asked}
use Rattle.aos_preservation.proofs.Keeps.{Both, Kept, kept_regions, opened_typed, self_made, names as named, typed as typed_program}
use Rattle.aos_preservation.proofs.Stored.{Held, cells, read_is, shows, top_fits}
use Rattle.aos_stability.specs.Locations.{IsFree, IsTold}
use Rattle.aos_stability.proofs.Copies.{IsNoPlace, no_copies, no_places}
use Rattle.aos_stability.proofs.Keeps.{step_serves}
use Rattle.aos_stability.proofs.Serve.{AllServe, AreAnswers, FrameServes, all_grow, answer_told}
use Rattle.aos_stability.proofs.Statements.{ItemsServe, block_serves, text_serves}
use Rattle.aos_stability.proofs.Told.{content_more, free_grows}

module _ (p : Program) (well : IsWellTyped p) where
  abbrev typed : HasTypes p
  typed = typed_program p well

  abbrev names : HasNames p
  names = named p well

  pub record Fits (s : Store) (w : Did) (x : Traces p names) : Type 0 where
    pub kept : Kept p well s w x
    pub serve : AllServe p typed (made_in s) x.1 x.0.frames
    pub free : StoreIs (IsFree p (made_in s)) s

  -- As objects are made.
  abbrev Up : Store → Store → Type 0
  Up s s' = (o : ℕ) (m : Made) → made_in s o ≡ Some m → made_in s' o ≡ Some m

  pub turn_up : (following : List ℕ) (fs : List Frame) (s : Store) → Up s (turn_at p following fs s).store
  turn_up following fs s o m e =
      let g = turn_grown p following fs s in
      let grown = objects_grow (scheme p) s.made g.0 [] in subst (λ l. by_number o l ≡ Some m) (sym g.1) (grown.made o m e)

  contents_grow : (s s' : Store) → Up s s' → (cs : List (Content Value)) → ContentsAre (IsFree p (made_in s)) cs → ContentsAre (IsFree p (made_in s')) cs
  contents_grow s s' up [] h = tt
  contents_grow s s' up (c ∷ cs) h =
      (content_more (IsFree p (made_in s)) (IsFree p (made_in s')) (free_grows p (made_in s) (made_in s') up) c h.0, contents_grow s s' up cs h.1)

  store_grows : (s s' : Store) → Up s s' → (x : Store) → StoreIs (IsFree p (made_in s)) x → StoreIs (IsFree p (made_in s')) x
  store_grows s s' up x h = record { modules = contents_grow s s' up x.modules h.modules; objects = contents_grow s s' up x.objects h.objects }

  -- Where no frame is left a module's body begins.

  module_serves : (made : ℕ → Option Made) (m : ℕ) (x : Module) → slice_get p.modules m ≡ Some x → FrameServes p typed made (suc m) (body_frame m 0 x.body) 0
  module_serves made m x e =
      let r : Routine = record { home = m; own = None; body = x.body } in
      record { routine = r; there = module_there p m x e; function = refl; self = tt; variables = tt; copies = no_copies p None Empty refl; items = block_serves p typed made (suc m) r x.body.is_exclusive x.body.statements; answers = tt }

  pub opened_serves : (made : ℕ → Option Made) (fs : List Frame) (ms ns : List ℕ) → AreOf p ns fs → AllServe p typed made ns fs → AllServe p typed made (opened_numbers p names fs ms ns) (opened_by p fs ms).frames
  opened_serves made [] [] ns are h = tt
  opened_serves made (f ∷ fs) ms ns are h = h
  opened_serves made [] (m ∷ ms) ns are h = by (slice_get p.modules m) refl
    where
      by : (o : Option Module) → slice_get p.modules m ≡ o → AllServe p typed made (next_numbers p names m o) (next_body p m ms o).frames
      by None e = tt
      by (Some x) e = (module_serves made m x e, tt)

  -- Where a shape of plain scalars stands, no places are.
  plain_read : (s : Store) (fs : List Frame) → Held p s fs → (r : Root) (path : List ℕ) (shape : Shape Sort) → shape_at (world_of p s.made (shapes_of fs)) r path ≡ Some shape → EachSort IsPlain shape →
      (old : Content Value) × (read r path (all_rooted fs s) ≡ Some old) × ContentIs IsNoPlace old
  plain_read s fs held r path shape there plain =
      let q = at_place (Is p) cell_of IsPlain (values_kept p) (scheme p) s.made (shapes_of fs) (all_rooted fs s) (cells p typed s fs held) r path shape (shows p typed s fs held) there in
      (q.inner, q.got, no_places p (world_of p s.made (shapes_of fs)) shape q.inner plain q.fits)

  -- A turn.

  abbrev Turns : (following : List ℕ) → Store → List Frame → List ℕ → Type 0
  Turns following s fs ns =
      let t = turn_at p following fs s in AllServe p typed (made_in t.store) (turned_numbers p names following s fs ns) t.frames.frames × StoreIs (IsFree p (made_in t.store)) t.store

  turn_serves : (following : List ℕ) (s : Store) (fs : List Frame) (ns : List ℕ) → AreOf p ns fs → Both p well s ns fs → AllServe p typed (made_in s) ns fs → StoreIs (IsFree p (made_in s)) s → Turns following s fs ns
  turn_serves following s [] ns are both serve free = (tt, free)
  turn_serves following s (f ∷ fs) [] are both serve free = absurd are
  turn_serves following s (f ∷ fs) (n ∷ ns) are both serve free =
      let t = turn_at p following (f ∷ fs) s in
      let up = turn_up following (f ∷ fs) s in
      let held = both.1 in
      let hold = top_fits p s.made f fs held.frames in
      let all = step_serves p typed names following s f fs t n ns are serve free (λ x st q asks. (asked p typed s f fs n are.0 both.0.0 hold x st q asks).0) (read_is p typed s (f ∷ fs) held) (plain_read s (f ∷ fs) held) (turn_kind p following s f fs) in (
        all_grow p typed (made_in s) (made_in t.store) up (turned_numbers p names following s (f ∷ fs) (n ∷ ns)) t.frames.frames all.0,
        store_grows s t.store up t.store all.1,
      )

  -- Past work.

  goes_into_serves : (made : ℕ → Option Made) (n : ℕ) (f : Frame) (below : ℕ) (is : List Item) → f.items ≡ is → f.answers ≡ None → FrameServes p typed made n f below → FrameServes p typed made n (goes_into is f) below
  goes_into_serves made n f below [] e none h = h
  goes_into_serves made n f below (Do st ∷ is) e none h = h
  goes_into_serves made n f below (Rounds at w q last step b ∷ is) e none h = h
  goes_into_serves made n f below (Round st ∷ is) e none h = h
  goes_into_serves made n f below (Until at b c ∷ is) e none h = h
  goes_into_serves made n f below (Gives r ∷ is) e none h = h
  goes_into_serves made n f below (Region ss ∷ is) e none h =
      record {
        routine = h.routine;
        there = h.there;
        function = h.function;
        self = h.self;
        variables = h.variables;
        copies = h.copies;
        items = text_serves p typed made n h.routine ss (End ∷ is) (subst (ItemsServe p typed made n h.routine) e h.items);
        answers = subst (λ a. AreAnswers p typed made h.routine.own (record { below = below; self = f.object }) a (items_of ss ++ End ∷ is)) (sym none) tt;
      }
  goes_into_serves made n f below (End ∷ is) e none h =
      record {
        routine = h.routine;
        there = h.there;
        function = h.function;
        self = h.self;
        variables = h.variables;
        copies = h.copies;
        items = subst (ItemsServe p typed made n h.routine) e h.items;
        answers = subst (λ a. AreAnswers p typed made h.routine.own (record { below = below; self = f.object }) a is) (sym none) tt;
      }

  past_begun : (made : ℕ → Option Made) (n : ℕ) (f : Frame) (fs : List Frame) (q : _) (asks : IsAsking p f fs q) (h : FrameServes p typed made n f (length fs)) → IsTold p made h.routine.own q done → FrameServes p typed made n (past_by f.answers f) (length fs)
  past_begun made n f fs q asks h is =
      let come = asks.1 in
      let answers = answer_told p typed made h.routine.own f fs q asks done is h.answers in
      subst (λ (a : Option (List Value)). FrameServes p typed made n (past_by a f) (length fs)) (sym come.begun)
      (record {
        routine = h.routine;
        there = h.there;
        function = h.function;
        self = h.self;
        variables = h.variables;
        copies = h.copies;
        items = h.items;
        answers = subst (λ a. AreAnswers p typed made h.routine.own (here_of f fs) (S.told done a) f.items) come.begun answers;
      })

  past_rests : (made : ℕ → Option Made) (n : ℕ) (f : Frame) (below : ℕ) → f.answers ≡ None → FrameServes p typed made n f below → FrameServes p typed made n (past_by f.answers f) below
  past_rests made n f below none h = subst (λ (a : Option (List Value)). FrameServes p typed made n (past_by a f) below) (sym none) (goes_into_serves made n f below f.items refl none h)

  past_serves : (s : Store) (w : Did) (x : Traces p names) (ms : List ℕ) (fs : List Frame) (ns : List ℕ) → GoesPast (Outside (traced p names)) w x → IsAt w fs → AsksFor p names w fs → AllServe p typed (made_in s) ns fs →
      AllServe p typed (made_in s) (opened_numbers p names fs ms ns) (past_all (opened_by p fs ms).frames)
  past_serves s Went x ms fs ns goes at asks h = absurd goes
  past_serves s Ended x ms fs ns goes at asks h = absurd goes
  past_serves s (Trapped j c) x ms fs ns goes at asks h = absurd goes
  past_serves s (Enter l) x ms [] ns goes at asks h = absurd at
  past_serves s (Leave l) x ms [] ns goes at asks h = absurd at
  past_serves s (Await l c) x ms [] ns goes at asks h = absurd at
  past_serves s (Start o) x ms [] ns goes at asks h = absurd at
  past_serves s w x ms (f ∷ fs) [] goes at asks h = absurd h
  past_serves s (Enter l) x ms (f ∷ fs) (n ∷ ns) goes at asks h = (past_rests (made_in s) n f (length fs) at.rests h.0, h.1)
  past_serves s (Leave l) x ms (f ∷ fs) (n ∷ ns) goes at asks h = (past_rests (made_in s) n f (length fs) at.rests h.0, h.1)
  past_serves s (Await l c) x ms (f ∷ fs) (n ∷ ns) goes at asks h = (past_begun (made_in s) n f fs (Awaits c) asks h.0 tt, h.1)
  past_serves s (Start o) x ms (f ∷ fs) (n ∷ ns) goes at asks h = (past_begun (made_in s) n f fs (Starts _) asks h.0 tt, h.1)

  -- The body of an object.

  object_serves : (s : Store) (o : ℕ) → AreFew p s.made → AllServe p typed (made_in s) (body_numbers p names (body_at p names s o) (option_and_then (λ t. slice_get p.objects t) (body_at p names s o))) (S.body_of p s o).frames
  object_serves s o few = by (by_number o s.made) refl
    where
      Serves_it : Option ℕ → Type 0
      Serves_it b = AllServe p typed (made_in s) (body_numbers p names b (option_and_then (λ t. slice_get p.objects t) b)) (object_frames o (option_and_then (λ t. slice_get p.objects t) b)).frames

      of_body : (m : Made) (t : ℕ) → by_number o s.made ≡ Some m → m.type ≡ suc t → (b : Option ℕ) → made_body p (suc t) ≡ b → Serves_it b
      of_body m t e is None none = tt
      of_body m t e is (Some b) some =
          let has = typed.methods.bodies t b some in
          let x = has.object in
          subst (λ z. AllServe p typed (made_in s) (body_numbers p names (Some b) z) (object_frames o z).frames) (sym has.there) (
            record {
              routine = routine_of x.home x.body;
              there = object_there p b x has.there;
              function = sym (ap is_some has.body.proper);
              self = subst (λ z. IsSelf p (made_in s) z o) (sym has.body.own) (self_made p well s.made few o m t b e is has.extends);
              variables = tt;
              copies = no_copies p (Some x.body) Empty has.body.plain;
              items = block_serves p typed (made_in s) (body_number p b) (routine_of x.home x.body) x.body.body.is_exclusive x.body.body.statements;
              answers = tt;
            },
            tt,
          )

      of_type : (m : Made) (n : ℕ) → by_number o s.made ≡ Some m → m.type ≡ n → Serves_it (made_body p n)
      of_type m zero e is = tt
      of_type m (suc t) e is = of_body m t e is (made_body p (suc t)) refl

      by : (m : Option Made) → by_number o s.made ≡ m → Serves_it (option_and_then (made_body p) (type_of_object o s))
      by None e = subst (λ z. Serves_it (option_and_then (made_body p) (option_map (λ (m : Made). m.type) z))) (sym e) tt
      by (Some m) e = subst (λ z. Serves_it (option_and_then (made_body p) (option_map (λ (m : Made). m.type) z))) (sym e) (of_type m m.type e refl)

  abbrev k : KeepsRegions (traced p names) (Kept p well)
  k = kept_regions p well

  fits : KeepsFits (traced p names) (Outside (traced p names)) Fits
  fits =
      let k' = k.fits in
      record {
        turn = λ s x h. let b = turned s x h in record { kept = k'.turn s x h.kept; serve = b.0; free = b.1 };
        kept = λ s x h w y i.
            let up = turn_up (S.opened p x.0).following (S.opened p x.0).frames s in
            record { kept = k'.kept s x h.kept w y i.kept; serve = all_grow p typed (made_in s) _ up y.1 y.0.frames i.serve; free = (turned s x h).1 };
        past = λ s w x goes h.
            let known = h.kept in
            let tr = known.traces in
            record { kept = k'.past s w x goes h.kept; serve = past_serves s w x x.0.following x.0.frames x.1 goes tr.stands tr.asks h.serve; free = h.free };
        body = λ s o x h.
            let known = h.kept in
            let held = known.both.1 in
            let stores = held.stores in
            record { kept = k'.body s o x h.kept; serve = object_serves s o stores.few; free = h.free };
        anew = λ s w x y may h e. absurd (cc e);
      }
    where
      turned : (s : Store) (x : Traces p names) → Fits s Went x → let now = S.opened p x.0 in Turns now.following s now.frames (opened_numbers p names x.0.frames x.0.following x.1)
      turned s x h =
          let now = S.opened p x.0 in
          let known = h.kept in
          let tr = known.traces in
          turn_serves now.following s now.frames (opened_numbers p names x.0.frames x.0.following x.1) (opened_are p names x.0.frames x.0.following x.1 tr.are)
          (opened_typed p well s x.0.frames x.0.following x.1 known.both) (opened_serves (made_in s) x.0.frames x.0.following x.1 tr.are h.serve) h.free

  pub fits_kept : KeepsRegions (traced p names) Fits
  fits_kept =
      record {
        fits = fits;
        turn = λ s x h. k.turn s x h.kept;
        passes = λ s w x h. k.passes s w x h.kept;
        body = λ s o x h. k.body s o x h.kept;
        anew = λ s w x y may h e. absurd (cc e);
      }
