-- A program's machine whose frames have the numbers of their routines beside them: those frames stay of these routines.
use Rattle.std.proofs.Common.{◌≡◌, ℕ, zero, suc, List, [], ◌∷◌, true, false, Option, Some, None, refl, sym, ◌∙◌, subst}
use Rattle.std.specs.Prelude.{option_and_then, slice_get}
use Rattle.aos_base.specs.Machine.{Machine, Turn}
use Rattle.aos_base.specs.Priority.{number_of as priority_number}
use Rattle.aos_base.specs.Rooted.{by_number}
use Rattle.aos_base.specs.declared.kernel.Did.{Did}
use Rattle.aos_base.specs.declared.kernel.Did.TheVariants.{Trapped, Leave, Enter, Ended, Went, Start, Await}
use Rattle.aos_base.specs.declared.kernel.LockName.{LockName}
use Rattle.aos_base.specs.Question.{Tests, Sizes, Opens, Lengths, Places, PutsLn, PutsNothing, PutsString, PutsChar, PutsInt, Leaves, Enters, Ends, Calls, ComparesTexts, PutsText, Copies, Stores, Reads, Makes, Awaits, Starts}
use Rattle.aos_concurrency.specs.Regions.{Passes, KeepsRegions, Outside, KeepsFits}
use Rattle.aos_typed.specs.Program.{ObjectType, Module, Program}
use Rattle.aos_typed.specs.Numbers.{body_number}
use Rattle.aos_typed.specs.Routines.{routine_of, has_self, routines, Routine}
use Rattle.aos_typed.specs.Value.{Value, Object}
use Rattle.aos_typed.specs.Store.{type_of_object, Store}
use Rattle.aos_typed.specs.Meaning.{Question, Item, Do, Rounds, Round, Until, Region, End, Gives}
use Rattle.aos_typed.specs.Source.{Frame, Frames, Turned, source, object_frames, past, past_all, past_by, goes_into, lock_of, next_body, opened, opened_by, body_frame, body_of, priority_of, regions_of, position_in, made_body, turn, turn_at, verdict}
use Rattle.aos_sim.proofs.Regions.{Stands, source_keeps}
use Rattle.aos_sim.proofs.Routines.{object_there, module_there}
use Rattle.aos_handover.specs.Kinds as Kinds
use Rattle.aos_handover.specs.Kinds.{Called, Created, Stored, Written, Told, Popped, Left, Stopped, Settled, Kind, IsLeftAs, settled_work, IsAsking}
use Rattle.aos_handover.proofs.Turns.{turn_kind}
use Rattle.aos_escape.specs.Items.{ItemsFine}
use Rattle.aos_escape.specs.Naming.{IsOf, AreOf}
use Rattle.aos_escape.proofs.Items.{entry_fine, body_fine}
use Rattle.aos_escape.proofs.Names.{HasNames}
use Rattle.aos_escape.proofs.Building.{stands_above, step_are, numbers_after}

module _ (p : Program) (names : HasNames p) where
  -- an activity's frames, and the numbers of their routines
  abbrev pub Traces : Type 0
  Traces = Frames × List ℕ

  -- where no frame is left the next module's body begins, which has the module's number, from 1
  abbrev pub next_numbers : (home : ℕ) → Option Module → List ℕ
  next_numbers m None = []
  next_numbers m (Some x) = suc m ∷ []

  abbrev pub opened_numbers : List Frame → (following : List ℕ) → List ℕ → List ℕ
  opened_numbers [] [] ns = []
  opened_numbers [] (m ∷ ms) ns = next_numbers m (slice_get p.modules m)
  opened_numbers (f ∷ fs) ms ns = ns

  abbrev pub turned_numbers : (following : List ℕ) → Store → List Frame → List ℕ → List ℕ
  turned_numbers following s [] ns = []
  turned_numbers following s (f ∷ fs) [] = []
  turned_numbers following s (f ∷ fs) (n ∷ ns) = numbers_after p names following s f fs (turn_at p following (f ∷ fs) s) (turn_kind p following s f fs) n ns

  abbrev pub body_numbers : (type : Option ℕ) → Option ObjectType → List ℕ
  body_numbers None x = []
  body_numbers (Some b) None = []
  body_numbers (Some b) (Some x) = body_number p b ∷ []

  abbrev pub traced_turn : Store → Traces → Turn Store Traces
  traced_turn s x =
      let t = turn p s x.0 in
      let now = opened p x.0 in
      record {
        store = t.store;
        frames = (t.frames, turned_numbers now.following s now.frames (opened_numbers x.0.frames x.0.following x.1));
        output = t.output;
        begun = t.begun;
        left = t.left;
      }

  abbrev pub body_at : Store → ℕ → Option ℕ
  body_at s o = option_and_then (made_body p) (type_of_object o s)

  abbrev pub traced : Machine Store Traces
  traced =
      record {
        turn = traced_turn;
        past = λ x. (past p x.0, opened_numbers x.0.frames x.0.following x.1);
        verdict = λ s x c. verdict p s x.0 c;
        regions = λ x. regions_of x.0.frames;
        position = λ x. position_in (opened p x.0).frames;
        body = λ s o. (body_of p s o, body_numbers (body_at s o) (option_and_then (λ t. slice_get p.objects t) (body_at s o)));
        priority = λ s o. priority_number (priority_of p s o);
        anew = λ x. None;
      }

  -- The frames are of these routines, and the topmost asks what was left to the kernel.

  abbrev pub AsksFor : Did → List Frame → Type 0
  AsksFor (Start o) [] = ⊥
  AsksFor (Start o) (f ∷ fs) = IsAsking p f fs (Starts (Object o))
  AsksFor (Await l c) [] = ⊥
  AsksFor (Await l c) (f ∷ fs) = IsAsking p f fs (Awaits c)
  AsksFor w fs = Unit {0}

  pub record IsTraced (s : Store) (w : Did) (x : Traces) : Type 0 where
    pub stands : Stands p s w x.0
    pub are : AreOf p x.1 x.0.frames
    pub asks : AsksFor w x.0.frames

  body_traced : (n home o : ℕ) (r : Routine) → by_number n (routines p) ≡ Some r → home ≡ r.home → (has_self r.own ≡ false → o ≡ 0) → AreOf p (n ∷ []) (body_frame home o r.body ∷ [])
  body_traced n home o r there at self = (record { routine = r; there = there; home = at; object = self; items = body_fine p n r there (names.texts n r there) }, (tt, tt))

  pub opened_are : (fs : List Frame) (ms ns : List ℕ) → AreOf p ns fs → AreOf p (opened_numbers fs ms ns) (opened_by p fs ms).frames
  opened_are [] [] ns h = tt
  opened_are (f ∷ fs) ms ns h = h
  opened_are [] (m ∷ ms) ns h = by (slice_get p.modules m) refl
    where
      by : (o : Option Module) → slice_get p.modules m ≡ o → AreOf p (next_numbers m o) (next_body p m ms o).frames
      by None e = tt
      by (Some x) e = body_traced (suc m) m 0 (record { home = m; own = None; body = x.body }) (module_there p m x e) refl (λ z. refl)

  settled_asks : (l : LockName) (is : List Item) (fs : List Frame) → AsksFor (settled_work l is) fs
  settled_asks l [] fs = tt
  settled_asks l (Do st ∷ is) fs = tt
  settled_asks l (Rounds at w q last step b ∷ is) fs = tt
  settled_asks l (Round st ∷ is) fs = tt
  settled_asks l (Until at b e ∷ is) fs = tt
  settled_asks l (Region ss ∷ is) fs = tt
  settled_asks l (End ∷ is) fs = tt
  settled_asks l (Gives r ∷ is) fs = tt

  left_asks : (g : Frame) (fs : List Frame) (q : Question) (w : Did) → IsAsking p g fs q → IsLeftAs g q w → AsksFor w (g ∷ fs)
  left_asks g fs (Starts v) w asks h = subst (λ z. AsksFor z (g ∷ fs)) (sym h.2) (subst (λ u. IsAsking p g fs (Starts u)) h.1 asks)
  left_asks g fs (Awaits c) w asks h = subst (λ z. AsksFor z (g ∷ fs)) (sym h.3) asks
  left_asks g fs (Makes ty vs) w asks h = absurd h
  left_asks g fs (Reads ty a) w asks h = absurd h
  left_asks g fs (Stores a u) w asks h = absurd h
  left_asks g fs (Copies ty a b) w asks h = absurd h
  left_asks g fs (PutsText strict a i b j) w asks h = absurd h
  left_asks g fs (ComparesTexts c a i b j) w asks h = absurd h
  left_asks g fs (Calls how q vs) w asks h = absurd h
  left_asks g fs (Ends u) w asks h = absurd h
  left_asks g fs Enters w asks h = absurd h
  left_asks g fs Leaves w asks h = absurd h
  left_asks g fs (PutsInt u i) w asks h = absurd h
  left_asks g fs (PutsChar u) w asks h = absurd h
  left_asks g fs (PutsString a i) w asks h = absurd h
  left_asks g fs PutsNothing w asks h = absurd h
  left_asks g fs PutsLn w asks h = absurd h
  left_asks g fs (Places a) w asks h = absurd h
  left_asks g fs (Lengths a) w asks h = absurd h
  left_asks g fs (Opens u) w asks h = absurd h
  left_asks g fs (Sizes u d) w asks h = absurd h
  left_asks g fs (Tests u ty) w asks h = absurd h

  module _ (following : List ℕ) (s : Store) (f : Frame) (fs : List Frame) (t : Turned) where
    -- what a turn leaves is asked for by the frames that it leaves
    asks_given : (store : Store) (frames : List Frame) (output : List ℕ) (work : Did) → Kinds.Gives p following s f fs t store frames output work → AsksFor work frames → AsksFor t.left t.frames.frames
    asks_given store frames output work x h = subst (λ w. AsksFor w t.frames.frames) (sym x.left_is) (subst (λ z. AsksFor work z.frames) (sym x.frames_are) h)

    step_asks : Kind p following s f fs t → AsksFor t.left t.frames.frames
    step_asks (Settled g st fresh x) = asks_given _ _ _ _ x (settled_asks (lock_of g) g.items (g ∷ fs))
    step_asks (Stopped g number code st x) = asks_given _ _ _ _ x tt
    step_asks (Left g q work st asks leaves x) = asks_given _ _ _ _ x (left_asks g fs q work asks leaves)
    step_asks (Popped v left x) = asks_given _ _ _ _ x tt
    step_asks (Told g q none absent st asks x) = asks_given _ _ _ _ x tt
    step_asks (Written g q bytes st asks w x) = asks_given _ _ _ _ x tt
    step_asks (Stored g q root change st asks stored x) = asks_given _ _ _ _ x tt
    step_asks (Created g type vs ks st asks are room x) = asks_given _ _ _ _ x tt
    step_asks (Called g how q vs y st asks there few x) = asks_given _ _ _ _ x tt

  turn_traced : (following : List ℕ) (s : Store) (fs : List Frame) (ns : List ℕ) → AreOf p ns fs →
      let t = turn_at p following fs s in AreOf p (turned_numbers following s fs ns) t.frames.frames × AsksFor t.left t.frames.frames
  turn_traced following s [] ns h = (tt, tt)
  turn_traced following s (f ∷ fs) [] h = absurd h
  turn_traced following s (f ∷ fs) (n ∷ ns) h =
      let t = turn_at p following (f ∷ fs) s in
      let k = turn_kind p following s f fs in (step_are p names following s f fs t n ns h k, step_asks following s f fs t k)

  -- Past work.

  goes_into_of : (n : ℕ) (f : Frame) (is : List Item) → f.items ≡ is → IsOf p n f → IsOf p n (goes_into is f)
  goes_into_of n f [] e h = h
  goes_into_of n f (Do st ∷ is) e h = h
  goes_into_of n f (Rounds at w q last step b ∷ is) e h = h
  goes_into_of n f (Round st ∷ is) e h = h
  goes_into_of n f (Until at b c ∷ is) e h = h
  goes_into_of n f (Gives r ∷ is) e h = h
  goes_into_of n f (Region ss ∷ is) e h =
      record { routine = h.routine; there = h.there; home = h.home; object = h.object; items = entry_fine p n h.routine ss is (subst (ItemsFine p n h.routine) e h.items) }
  goes_into_of n f (End ∷ is) e h =
      record { routine = h.routine; there = h.there; home = h.home; object = h.object; items = (subst (ItemsFine p n h.routine) e h.items).1 }

  past_of : (n : ℕ) (f : Frame) (a : Option (List Value)) → IsOf p n f → IsOf p n (past_by a f)
  past_of n f None h = goes_into_of n f f.items refl h
  past_of n f (Some vs) h = record { routine = h.routine; there = h.there; home = h.home; object = h.object; items = h.items }

  goes_into_object : (f : Frame) (is : List Item) → f.object ≡ (goes_into is f).object
  goes_into_object f [] = refl
  goes_into_object f (Do st ∷ is) = refl
  goes_into_object f (Rounds at w q last step b ∷ is) = refl
  goes_into_object f (Round st ∷ is) = refl
  goes_into_object f (Until at b c ∷ is) = refl
  goes_into_object f (Gives r ∷ is) = refl
  goes_into_object f (Region ss ∷ is) = refl
  goes_into_object f (End ∷ is) = refl

  pub past_object : (f : Frame) (a : Option (List Value)) → f.object ≡ (past_by a f).object
  past_object f None = goes_into_object f f.items
  past_object f (Some vs) = refl

  past_are : (ns : List ℕ) (fs : List Frame) → AreOf p ns fs → AreOf p ns (past_all fs)
  past_are [] [] h = tt
  past_are [] (f ∷ fs) h = absurd h
  past_are (n ∷ ns) [] h = absurd h
  past_are (n ∷ ns) (f ∷ fs) h = (past_of n f f.answers h.0, (stands_above p n f (past_by f.answers f) ns fs (past_object f f.answers) h.1.0, h.1.1))

  body_are : (s : Store) (o : ℕ) → AreOf p (body_numbers (body_at s o) (option_and_then (λ t. slice_get p.objects t) (body_at s o))) (body_of p s o).frames
  body_are s o = by (type_of_object o s)
    where
      of : (b : Option ℕ) (x : Option ObjectType) → option_and_then (λ t. slice_get p.objects t) b ≡ x → ((k : ℕ) (y : ObjectType) → b ≡ Some k → slice_get p.objects k ≡ Some y → has_self (Some y.body) ≡ true) → AreOf p (body_numbers b x) (object_frames o x).frames
      of None None e self = tt
      of None (Some x) e self = absurd (cc e)
      of (Some b) None e self = tt
      of (Some b) (Some x) e self =
          body_traced (body_number p b) x.home o (routine_of x.home x.body) (object_there p b x e) refl
          (λ no. let is = self b x refl e in absurd (let both : true ≡ false = sym is ∙ no in cc both))

      made : (t : ℕ) (k : ℕ) (y : ObjectType) → made_body p t ≡ Some k → slice_get p.objects k ≡ Some y → has_self (Some y.body) ≡ true
      made zero k y e there = absurd (cc e)
      made (suc t) k y e there = names.body_self t k y e there

      by : (t : Option ℕ) → let b = option_and_then (made_body p) t in AreOf p (body_numbers b (option_and_then (λ t. slice_get p.objects t) b)) (object_frames o (option_and_then (λ t. slice_get p.objects t) b)).frames
      by None = tt
      by (Some t) = of (made_body p t) _ refl (λ k y e there. made t k y e there)

  traced_fits : KeepsFits traced (Outside traced) IsTraced
  traced_fits =
      let k = source_keeps p in
      let fits = k.fits in
      record {
        turn = λ s x h.
            let now = opened p x.0 in
            let all = turn_traced now.following s now.frames (opened_numbers x.0.frames x.0.following x.1) (opened_are x.0.frames x.0.following x.1 h.are) in
            record { stands = fits.turn s x.0 h.stands; are = all.0; asks = all.1 };
        kept = λ s x h w y i. record { stands = fits.kept s x.0 h.stands w y.0 i.stands; are = i.are; asks = i.asks };
        past = λ s w x goes h. record { stands = tt; are = past_are _ (opened p x.0).frames (opened_are x.0.frames x.0.following x.1 h.are); asks = tt };
        body = λ s o x h. record { stands = tt; are = body_are s o; asks = tt };
        anew = λ s w x y may h e. absurd (cc e);
      }

  pub traced_keeps : KeepsRegions traced IsTraced
  traced_keeps =
      let k = source_keeps p in
      record {
        fits = traced_fits;
        turn = λ s x h. k.turn s x.0 h.stands;
        passes = λ s w x h. passes w x (k.passes s w x.0 h.stands);
        body = λ s o x h. k.body s o x.0 h.stands;
        anew = λ s w x y may h e. absurd (cc e);
      }
    where
      passes : (w : Did) (x : Traces) → Passes (source p) w x.0 → Passes traced w x
      passes Went x h = tt
      passes Ended x h = h
      passes (Enter l) x h = h
      passes (Leave l) x h = h
      passes (Await l c) x h = h
      passes (Start o) x h = h
      passes (Trapped n c) x h = h
