-- The frames with which a program's machine stands are typed, and so are they and the store after each turn, and past each work.
use Rattle.std.proofs.Common.{◌≡◌, ℕ, zero, suc, List, [], ◌∷◌, ◌++◌, map, true, Option, Some, None, refl, sym, ap, subst, arith}
use Rattle.std.specs.Prelude.{is_some, option_and_then, option_map, slice_get}
use Rattle.std.proofs.lemmas.List.Elements.{All-nil}
use Rattle.aos_base.specs.Question.{Awaits, Starts}
use Rattle.aos_base.specs.Rooted.{Made, by_number}
use Rattle.aos_base.specs.declared.kernel.Did.{Did}
use Rattle.aos_base.specs.declared.kernel.Did.TheVariants.{Went, Ended, Enter, Leave, Start, Await, Trapped}
use Rattle.aos_concurrency.specs.Regions.{KeepsFits, KeepsRegions, Outside}
use Rattle.aos_concurrency.specs.LocalState.{GoesPast}
use Rattle.aos_types.specs.Extension.{comes_to}
use Rattle.aos_types.specs.Shape.{Nothing}
use Rattle.aos_types.proofs.Tables.{comes_on}
use Rattle.aos_typed.specs.Numbers.{id_of_made}
use Rattle.aos_typed.specs.Program.{Body, Module, Program}
use Rattle.aos_typed.specs.Routines.{Routine, routine_of}
use Rattle.aos_typed.specs.Store.{Store, made_in, type_of_object}
use Rattle.aos_typed.specs.Typing.{Is, IsPlain}
use Rattle.aos_typed.specs.Value.{Value}
use Rattle.aos_typed.specs.Meaning.{Question, Item, Do, Rounds, Round, Until, Region, End, Gives, items_of}
use Rattle.aos_typed.specs.Source as S
use Rattle.aos_typed.specs.Source.{Frame, body_frame, done, first_store, first_value, goes_into, here_of, made_body, next_body, object_frames, opened_by, past_all, past_by, told, turn_at}
use Rattle.aos_typed.specs.WellTyped.{IsWellTyped}
use Rattle.aos_memory_laws.proofs.Makes.{frames_shown_grow}
use Rattle.aos_sim.specs.Cells.{cell_of}
use Rattle.aos_sim.specs.Shows.{first_cells as module_cells}
use Rattle.aos_sim.proofs.Does.{HasTypes, IsSelf, scheme}
use Rattle.aos_sim.proofs.First.{first_is, first_same, modules_shown, zero_cell}
use Rattle.aos_sim.proofs.Grown.{turn_grown}
use Rattle.aos_sim.proofs.Kept.{values_kept}
use Rattle.aos_sim.proofs.Methods.{object_type}
use Rattle.aos_sim.proofs.References.{comes_same}
use Rattle.aos_sim.proofs.Regions.{IsAt}
use Rattle.aos_sim.proofs.Routines.{module_there, object_there}
use Rattle.aos_sim.proofs.States.{AreFew, IsFew, bare_frame, body_frame as plain_frame, number_get, shapes_of, world_of}
use Rattle.aos_sim.proofs.Typed.{has_types}
use Rattle.aos_handover.specs.Kinds.{IsAsking}
use Rattle.aos_handover.proofs.Turns.{turn_kind}
use Rattle.aos_escape.specs.Naming.{AreOf}
use Rattle.aos_escape.proofs.Alike.{first}
use Rattle.aos_escape.proofs.Named.{has_names}
use Rattle.aos_escape.proofs.Names.{HasNames}
use Rattle.aos_escape.proofs.Traced.{AsksFor, IsTraced, Traces, body_at, body_numbers, next_numbers, opened_are, opened_numbers, traced, traced_keeps, turned_numbers}
use Rattle.aos_preservation.proofs.Frames.{AllHold, AllTyped, AreAnswers, all_typed_grow, answer_told}
use Rattle.aos_preservation.proofs.Stats.{ItemsGive, text_gives}
use Rattle.aos_preservation.proofs.Steps.{body_gives, step_typed}
use Rattle.aos_preservation.proofs.Stored.{Held}
use Rattle.aos_preservation.proofs.Trees.{IsTold}

module _ (p : Program) (well : IsWellTyped p) where
  abbrev pub typed : HasTypes p
  typed = has_types p well

  abbrev pub names : HasNames p
  names = has_names p well typed

  -- frames of these routines, over a store, and what both hold
  abbrev pub Both : Store → List ℕ → List Frame → Type 0
  Both s ns fs = AllTyped p s.made ns fs × Held p s fs

  pub record Kept (s : Store) (w : Did) (x : Traces p names) : Type 0 where
    pub traces : IsTraced p names s w x
    pub both : Both s x.1 x.0.frames

  -- Where no frame is left a module's body begins.

  pub none_held : (s : Store) (fs : List Frame) → Held p s fs → Held p s []
  none_held s fs h = record { memory = h.memory; stores = h.stores; frames = ([], tt) }

  body_held : (s : Store) (fs : List Frame) (home o : ℕ) (b : Body) → Held p s fs → Held p s (body_frame home o b ∷ [])
  body_held s fs home o b h = record { memory = h.memory; stores = h.stores; frames = ([] ∷ [], (record { fits = tt; same = refl }, tt)) }

  module_typed : (made : List Made) (m : ℕ) (x : Module) → slice_get p.modules m ≡ Some x → AllTyped p made (suc m ∷ []) (body_frame m 0 x.body ∷ [])
  module_typed made m x e =
      let r : Routine = record { home = m; own = None; body = x.body } in
      let w = world_of p made (shapes_of (body_frame m 0 x.body ∷ [])) in
      (record { routine = r; there = module_there p m x e; function = refl; frame = plain_frame p Nothing (omega arith); self = tt; items = body_gives p w None x.body; answers = tt }, tt)

  pub opened_typed : (s : Store) (fs : List Frame) (ms ns : List ℕ) → Both s ns fs → Both s (opened_numbers p names fs ms ns) (opened_by p fs ms).frames
  opened_typed s [] [] ns h = (tt, none_held s [] h.1)
  opened_typed s (f ∷ fs) ms ns h = h
  opened_typed s [] (m ∷ ms) ns h = by (slice_get p.modules m) refl
    where
      by : (o : Option Module) → slice_get p.modules m ≡ o → Both s (next_numbers p names m o) (next_body p m ms o).frames
      by None e = (tt, none_held s [] h.1)
      by (Some x) e = (module_typed s.made m x e, body_held s [] m 0 x.body h.1)

  -- A turn.

  pub turn_typed : (following : List ℕ) (s : Store) (fs : List Frame) (ns : List ℕ) → AreOf p ns fs → Both s ns fs → let t = turn_at p following fs s in Both t.store (turned_numbers p names following s fs ns) t.frames.frames
  turn_typed following s [] ns are h = (tt, h.1)
  turn_typed following s (f ∷ fs) [] are h = absurd are
  turn_typed following s (f ∷ fs) (n ∷ ns) are h = step_typed p typed names following s f fs (turn_at p following (f ∷ fs) s) n ns are h.0 h.1 (turn_kind p following s f fs)

  -- what the frames of others hold, as objects are made
  hold_grows : (made more : List Made) (fs : List Frame) → AllHold p made fs → AllHold p (made ++ more) fs
  hold_grows made more fs h =
      (h.0, frames_shown_grow (Is p) cell_of IsPlain (values_kept p) (first_value p) (zero_cell p) (first_is p) (first_same p) (scheme p) made more (shapes_of fs) (map (λ (f : Frame). f.variables) fs) h.0 h.1)

  others_kept : (following : List ℕ) (s : Store) (fs gs others : List Frame) (ns : List ℕ) → let t = turn_at p following fs s in Held p t.store gs → Both s ns others → Both t.store ns others
  others_kept following s fs gs others ns new h =
      let g = turn_grown p following fs s in
      let k = h.1 in (
        subst (λ l. AllTyped p l ns others) (sym g.1) (all_typed_grow p s.made g.0 ns others h.0),
        record { memory = new.memory; stores = new.stores; frames = subst (λ l. AllHold p l others) (sym g.1) (hold_grows s.made g.0 others k.frames) },
      )

  -- Past work.

  goes_into_typed : (s : Store) (n : ℕ) (ns : List ℕ) (f : Frame) (fs : List Frame) (is : List Item) → f.items ≡ is → f.answers ≡ None → Both s (n ∷ ns) (f ∷ fs) → Both s (n ∷ ns) (goes_into is f ∷ fs)
  goes_into_typed s n ns f fs [] e none h = h
  goes_into_typed s n ns f fs (Do st ∷ is) e none h = h
  goes_into_typed s n ns f fs (Rounds at w q last step b ∷ is) e none h = h
  goes_into_typed s n ns f fs (Round st ∷ is) e none h = h
  goes_into_typed s n ns f fs (Until at b c ∷ is) e none h = h
  goes_into_typed s n ns f fs (Gives r ∷ is) e none h = h
  goes_into_typed s n ns f fs (Region ss ∷ is) e none h =
      let w = world_of p s.made (shapes_of (f ∷ fs)) in
      let k = h.0.0 in
      let held = h.1 in (
        (
          record {
            routine = k.routine;
            there = k.there;
            function = k.function;
            frame = k.frame;
            self = k.self;
            items = text_gives p w k.routine.own ss (End ∷ is) (subst (ItemsGive p w k.routine.own) e k.items);
            answers = subst (λ a. AreAnswers p w (here_of f fs) a (items_of ss ++ End ∷ is)) (sym none) tt;
          },
          h.0.1,
        ),
        record { memory = held.memory; stores = held.stores; frames = held.frames },
      )
  goes_into_typed s n ns f fs (End ∷ is) e none h =
      let w = world_of p s.made (shapes_of (f ∷ fs)) in
      let k = h.0.0 in
      let held = h.1 in (
        (
          record {
            routine = k.routine;
            there = k.there;
            function = k.function;
            frame = k.frame;
            self = k.self;
            items = subst (ItemsGive p w k.routine.own) e k.items;
            answers = subst (λ a. AreAnswers p w (here_of f fs) a is) (sym none) tt;
          },
          h.0.1,
        ),
        record { memory = held.memory; stores = held.stores; frames = held.frames },
      )

  past_rests : (s : Store) (n : ℕ) (ns : List ℕ) (f : Frame) (fs : List Frame) → f.answers ≡ None → Both s (n ∷ ns) (f ∷ fs) → Both s (n ∷ ns) (past_by f.answers f ∷ fs)
  past_rests s n ns f fs none h = subst (λ (a : Option (List Value)). Both s (n ∷ ns) (past_by a f ∷ fs)) (sym none) (goes_into_typed s n ns f fs f.items refl none h)

  past_begun : (s : Store) (n : ℕ) (ns : List ℕ) (f : Frame) (fs : List Frame) (q : Question) → IsAsking p f fs q → IsTold p (world_of p s.made (shapes_of (f ∷ fs))) q done → Both s (n ∷ ns) (f ∷ fs) → Both s (n ∷ ns) (past_by f.answers f ∷ fs)
  past_begun s n ns f fs q asks is h =
      let come = asks.1 in
      let w = world_of p s.made (shapes_of (f ∷ fs)) in
      let k = h.0.0 in
      let held = h.1 in
      let answers = answer_told p w f fs q asks done is k.answers in
      subst (λ (a : Option (List Value)). Both s (n ∷ ns) (past_by a f ∷ fs)) (sym come.begun) (
        (
          record {
            routine = k.routine;
            there = k.there;
            function = k.function;
            frame = k.frame;
            self = k.self;
            items = k.items;
            answers = subst (λ a. AreAnswers p w (here_of f fs) (told done a) f.items) come.begun answers;
          },
          h.0.1,
        ),
        record { memory = held.memory; stores = held.stores; frames = held.frames },
      )

  past_typed : (s : Store) (w : Did) (x : Traces p names) (ms : List ℕ) (fs : List Frame) (ns : List ℕ) → GoesPast (Outside (traced p names)) w x → IsAt w fs → AsksFor p names w fs → Both s ns fs → Both s (opened_numbers p names fs ms ns) (past_all (opened_by p fs ms).frames)
  past_typed s Went x ms fs ns goes at asks h = absurd goes
  past_typed s Ended x ms fs ns goes at asks h = absurd goes
  past_typed s (Trapped j c) x ms fs ns goes at asks h = absurd goes
  past_typed s (Enter l) x ms [] ns goes at asks h = absurd at
  past_typed s (Leave l) x ms [] ns goes at asks h = absurd at
  past_typed s (Await l c) x ms [] ns goes at asks h = absurd at
  past_typed s (Start o) x ms [] ns goes at asks h = absurd at
  past_typed s w x ms (f ∷ fs) [] goes at asks h = absurd h.0
  past_typed s (Enter l) x ms (f ∷ fs) (n ∷ ns) goes at asks h = past_rests s n ns f fs at.rests h
  past_typed s (Leave l) x ms (f ∷ fs) (n ∷ ns) goes at asks h = past_rests s n ns f fs at.rests h
  past_typed s (Await l c) x ms (f ∷ fs) (n ∷ ns) goes at asks h = past_begun s n ns f fs (Awaits c) asks tt h
  past_typed s (Start o) x ms (f ∷ fs) (n ∷ ns) goes at asks h = past_begun s n ns f fs (Starts _) asks tt h

  -- The body of an object.

  -- an object is one of each type that its own extends
  pub self_made : (made : List Made) → AreFew p made → (o : ℕ) (m : Made) (t b : ℕ) → by_number o made ≡ Some m → m.type ≡ suc t → comes_to p.types (id_of_made (suc t)) (id_of_made (suc b)) ≡ true → IsSelf p (λ o. by_number o made) (Some b) o
  self_made made few zero m t b e type_is extends = absurd (cc e)
  self_made made few (suc k) m t b e type_is extends =
      let own = subst (λ z. comes_to p.types (id_of_made m.type) (id_of_made z) ≡ true) type_is (comes_same p.types (id_of_made m.type)) in
      (k, m, refl, e, (number_get (IsFew p) (suc k) made m few e).1, comes_on p.types typed.ranked (id_of_made m.type) (id_of_made (suc t)) (id_of_made (suc b)) own extends)

  object_typed : (s : Store) (o : ℕ) (fs : List Frame) → Held p s fs → Both s (body_numbers p names (body_at p names s o) (option_and_then (λ t. slice_get p.objects t) (body_at p names s o))) (S.body_of p s o).frames
  object_typed s o fs held = by (by_number o s.made) refl
    where
      Begun : Option ℕ → Type 0
      Begun b = Both s (body_numbers p names b (option_and_then (λ t. slice_get p.objects t) b)) (object_frames o (option_and_then (λ t. slice_get p.objects t) b)).frames

      of_body : (m : Made) (t : ℕ) → by_number o s.made ≡ Some m → m.type ≡ suc t → (b : Option ℕ) → made_body p (suc t) ≡ b → Begun b
      of_body m t e is None none = (tt, none_held s fs held)
      of_body m t e is (Some b) some =
          let has = typed.methods.bodies t b some in
          let x = has.object in
          let plain = object_type p well.parts.objects b x has.there in
          let stores = held.stores in
          let w = world_of p s.made (shapes_of (body_frame x.home o x.body.body ∷ [])) in
          subst (λ z. Both s (body_numbers p names (Some b) z) (object_frames o z).frames) (sym has.there) (
            (
              record {
                routine = routine_of x.home x.body;
                there = object_there p b x has.there;
                function = sym (ap is_some has.body.proper);
                frame = bare_frame p x.body has.body.plain plain.bare;
                self = subst (λ z. IsSelf p (made_in s) z o) (sym has.body.own) (self_made s.made stores.few o m t b e is has.extends);
                items = body_gives p w (Some x.body) x.body.body;
                answers = tt;
              },
              tt,
            ),
            body_held s fs x.home o x.body.body held,
          )

      of_type : (m : Made) (n : ℕ) → by_number o s.made ≡ Some m → m.type ≡ n → Begun (made_body p n)
      of_type m zero e is = (tt, none_held s fs held)
      of_type m (suc t) e is = of_body m t e is (made_body p (suc t)) refl

      by : (m : Option Made) → by_number o s.made ≡ m → Begun (option_and_then (made_body p) (type_of_object o s))
      by None e = subst (λ z. Begun (option_and_then (made_body p) (option_map (λ (m : Made). m.type) z))) (sym e) (tt, none_held s fs held)
      by (Some m) e = subst (λ z. Begun (option_and_then (made_body p) (option_map (λ (m : Made). m.type) z))) (sym e) (of_type m m.type e refl)

  -- All together.

  abbrev k : KeepsRegions (traced p names) (IsTraced p names)
  k = traced_keeps p names

  pub turned : (s : Store) (x : Traces p names) → Kept s Went x → let now = S.opened p x.0 in
      let t = turn_at p now.following now.frames s in Both t.store (turned_numbers p names now.following s now.frames (opened_numbers p names x.0.frames x.0.following x.1)) t.frames.frames
  turned s x h =
      let now = S.opened p x.0 in
      let tr = h.traces in
      turn_typed now.following s now.frames (opened_numbers p names x.0.frames x.0.following x.1) (opened_are p names x.0.frames x.0.following x.1 tr.are) (opened_typed s x.0.frames x.0.following x.1 h.both)

  fits : KeepsFits (traced p names) (Outside (traced p names)) Kept
  fits =
      let k' = k.fits in
      record {
        turn = λ s x h. record { traces = k'.turn s x h.traces; both = turned s x h };
        kept = λ s x h w y i.
            let now = S.opened p x.0 in
            record { traces = k'.kept s x h.traces w y i.traces; both = others_kept now.following s now.frames _ y.0.frames y.1 (turned s x h).1 i.both };
        past = λ s w x goes h.
            let tr = h.traces in
            record { traces = k'.past s w x goes h.traces; both = past_typed s w x x.0.following x.0.frames x.1 goes tr.stands tr.asks h.both };
        body = λ s o x h. record { traces = k'.body s o x h.traces; both = object_typed s o x.0.frames h.both.1 };
        anew = λ s w x y may h e. absurd (cc e);
      }

  pub kept_regions : KeepsRegions (traced p names) Kept
  kept_regions =
      record {
        fits = fits;
        turn = λ s x h. k.turn s x h.traces;
        passes = λ s w x h. k.passes s w x h.traces;
        body = λ s o x h. k.body s o x h.traces;
        anew = λ s w x y may h e. absurd (cc e);
      }

  -- At the beginning.

  pub first_kept : Kept (first_store p) Went (first p names)
  first_kept =
      record {
        traces = record { stands = tt; are = tt; asks = tt };
        both = (
          tt,
          record {
            memory = record { modules = map (module_cells p.types) p.modules; objects = []; made = [] };
            stores = record { made = refl; few = All-nil (IsFew p); of_modules = modules_shown p (world_of p [] []) well.parts.predeclared p.modules well.parts.texts; of_objects = tt };
            frames = ([], tt);
          },
        );
      }
