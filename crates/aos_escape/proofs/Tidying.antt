-- The invariant on who names an object is kept by each way in which the store and the frames of those that act change.
use Rattle.std.proofs.Common.{◌≡◌, ◌≢◌, ◌⊎◌, ◌<◌, ◌≤◌, inl, inr, ℕ, suc, List, [], ◌∷◌, Option, Some, None, refl, sym, ap, ◌∙◌, subst, arith}
use Rattle.std.specs.Prelude.{nat_eq, option_and_then, slice_get}
use Rattle.std.proofs.lemmas.Option.{slice_get_within}
use Rattle.aos_base.specs.Book.{put}
use Rattle.aos_base.specs.declared.kernel.Did.{Did}
use Rattle.aos_base.specs.declared.kernel.Did.TheVariants.{Start, Await, Went, Ended, Enter, Leave, Trapped}
use Rattle.aos_concurrency.specs.Regions.{Outside}
use Rattle.aos_concurrency.specs.Acting.{KeepsTidy, ByTurn, ByGoingPast, ByStart, ByTrap, ByEnd}
use Rattle.aos_concurrency.proofs.Tables.{number, each_put}
use Rattle.aos_escape.specs.Naming.{Inside, Pends, IsOf, AnswersAre, ItemsAre, FrameIs, AreOf, HideAll, IsLoud, IsOther, FramesAre, StoreIs, Builds, IsKept, OthersHide, Tidy}
use Rattle.aos_typed.specs.Program.{ObjectType, Module, Body, Program}
use Rattle.aos_escape.proofs.Names.{HasNames}
use Rattle.aos_escape.proofs.Traced.{traced, body_at, body_numbers, AsksFor, past_object, opened_are, traced_turn, IsTraced, turned_numbers, next_numbers, opened_numbers, Traces}
use Rattle.aos_typed.specs.Source.{object_frames, all_frames, told, answered, past_all, past_by, goes_into, done, opened, turn_at, next_body, opened_by, body_frame, Frame}
use Rattle.aos_typed.specs.Store.{new_number, Store}
use Rattle.aos_escape.proofs.Steps.{other_plainly, step_loud, step_hides, body_is}
use Rattle.aos_uses.specs.Guarded.{IsQuiet}
use Rattle.aos_escape.proofs.Building.{same_come, any_says, made_none, answered_pends, pends_loud, step_grows}
use Rattle.aos_handover.proofs.Turns.{turn_kind}
use Rattle.aos_escape.proofs.Keeping.{step_kept}
use Rattle.aos_typed.specs.Value.{Object, Value}
use Rattle.aos_typed.specs.Meaning.{Question, Gives, End, Region, Until, Round, Rounds, Do, Item}
use Rattle.aos_sim.proofs.Regions.{IsAt}
use Rattle.aos_handover.specs.Kinds.{MakesNone, IsAsking}
use Rattle.aos_escape.proofs.Saying.{asks_says, text_are}
use Rattle.aos_escape.proofs.Values.{all_more}
use Rattle.aos_concurrency.specs.LocalState.{GoesPast}
use Rattle.aos_base.specs.Question.{Initially, Calls, Asks, Starts, Awaits}
use Rattle.aos_typed.specs.Numbers.{body_number}

module _ (p : Program) (names : HasNames p) where
  abbrev X : Type 0
  X = Traces p names

  abbrev numbers : X → List ℕ
  numbers x = x.1

  abbrev frames : X → List Frame
  frames x = x.0.frames

  -- who names an object, by the numbers beside the frames
  abbrev pub IsTidy : Store → (ℕ → Option X) → Type 0
  IsTidy s t = Tidy p numbers frames s t

  abbrev Hidden : (ℕ → Option X) → ℕ → ℕ → Type 0
  Hidden t a o = OthersHide p numbers frames t a o

  abbrev IsBuilt : (ℕ → Option X) → ℕ → Store → X → ℕ → Type 0
  IsBuilt t a s x o = IsKept p (Hidden t a) s (numbers x) (frames x) o

  -- the frames, if there are any, name it not, or have no loud values
  abbrev HideSome : ℕ → Option X → Type 0
  HideSome o None = Unit {0}
  HideSome o (Some x) = HideAll o (frames x)

  abbrev LoudSome : Option X → Type 0
  LoudSome None = Unit {0}
  LoudSome (Some x) = FramesAre (IsLoud p) (frames x)

  abbrev IsOldIn : ℕ → Store → Store → Type 0
  IsOldIn o s s' = (o < new_number s) ⊎ (new_number s' ≤ o)

  -- the frames of a change, after a turn of a or a start by `source`
  tidy_put : (s s' : Store) (t : ℕ → Option X) (a source : ℕ) (from : X) (to : Option X) → t source ≡ Some from → new_number s ≤ new_number s'
      → ((o : ℕ) → 0 ≢ o → IsOldIn o s s' → HideAll o (frames from) → StoreIs (IsOther o) s → HideSome o to × StoreIs (IsOther o) s')
      → (FramesAre (IsLoud p) (frames from) → StoreIs (IsLoud p) s → LoudSome to × StoreIs (IsLoud p) s')
      → ((c : ℕ) (x : X) (o : ℕ) → t c ≡ Some x → Builds p o (numbers x) (frames x) → c ≢ a → source ≢ c)
      → ((x : X) (o : ℕ) → to ≡ Some x → Builds p o (numbers x) (frames x) → IsBuilt t a s' x o)
      → IsTidy s t → IsTidy s' (put nat_eq t a to)
  tidy_put s s' t a source from to is grows hide louder apart own tidy =
      record { loud = loud.1; loud_frames = loud_frames; unmade = λ o le. (gone o le).1; unmade_frames = unmade_frames; built = built }
    where
      loud : LoudSome to × StoreIs (IsLoud p) s'
      loud = louder (tidy.loud_frames source from is) tidy.loud

      loud_frames : (x : ℕ) (g : X) → put nat_eq t a to x ≡ Some g → FramesAre (IsLoud p) (frames g)
      loud_frames = each_put number (λ _ v. (g : X) → v ≡ Some g → FramesAre (IsLoud p) (frames g)) t a to (λ g e. subst LoudSome e loud.0) (λ y ne. tidy.loud_frames y)

      gone : (o : ℕ) → new_number s' ≤ o → HideSome o to × StoreIs (IsOther o) s'
      gone o le =
          let before : new_number s ≤ o = omega (arith, le, grows) in
          let z : 0 ≢ o = λ e. absurd (omega (arith, le, e)) in
          hide o z (inr le) (tidy.unmade_frames o before source from is) (tidy.unmade o before)

      unmade_frames : (o : ℕ) → new_number s' ≤ o → (x : ℕ) (g : X) → put nat_eq t a to x ≡ Some g → HideAll o (frames g)
      unmade_frames o le =
          let before : new_number s ≤ o = omega (arith, le, grows) in
          each_put number (λ _ v. (g : X) → v ≡ Some g → HideAll o (frames g)) t a to (λ g e. subst (HideSome o) e (gone o le).0) (λ y ne. tidy.unmade_frames o before y)

      others_put : (o x : ℕ) → HideSome o to → Hidden t x o → Hidden (put nat_eq t a to) x o
      others_put o x h others = each_put number (λ y v. (g : X) → y ≢ x → v ≡ Some g → HideAll o (frames g)) t a to (λ g ne e. subst (HideSome o) e h) (λ y ne g n. others y g n)

      others_own : (o : ℕ) → Hidden t a o → Hidden (put nat_eq t a to) a o
      others_own o others = each_put number (λ y v. (g : X) → y ≢ a → v ≡ Some g → HideAll o (frames g)) t a to (λ g ne e. absurd (ne refl)) (λ y ne g n. others y g n)

      built : (x : ℕ) (g : X) (o : ℕ) → put nat_eq t a to x ≡ Some g → Builds p o (numbers g) (frames g) → IsBuilt (put nat_eq t a to) x s' g o
      built = each_put number (λ y v. (g : X) (o : ℕ) → v ≡ Some g → Builds p o (numbers g) (frames g) → IsBuilt (put nat_eq t a to) y s' g o) t a to
          (λ g o e b. let k = own g o e b in record { old = k.old; real = k.real; inside = k.inside; store = k.store; others = others_own o k.others })
          (λ y ne g o e b.
          let k = tidy.built y g o e b in
          let h = hide o k.real (inl k.old) (k.others source from (apart y g o e b ne) is) k.store in
          let old = k.old in
          record { old = omega (arith, old, grows); real = k.real; inside = k.inside; store = h.1; others = others_put o y h.0 k.others })

  -- Where no frame is left a module's body begins.

  body_hides : (home b o : ℕ) (x : Body) → b ≢ o → HideAll o (body_frame home b x ∷ [])
  body_hides home b o x ne = record { selves = (ne, tt); values = (body_is (IsOther o) home b x, tt) }

  opened_hides : (o : ℕ) → 0 ≢ o → (fs : List Frame) (ms : List ℕ) → HideAll o fs → HideAll o (opened_by p fs ms).frames
  opened_hides o z [] [] h = h
  opened_hides o z (f ∷ fs) ms h = h
  opened_hides o z [] (m ∷ ms) h = by (slice_get p.modules m)
    where
      by : (x : Option Module) → HideAll o (next_body p m ms x).frames
      by None = h
      by (Some x) = body_hides m 0 o x.body z

  opened_loud : (fs : List Frame) (ms : List ℕ) → FramesAre (IsLoud p) fs → FramesAre (IsLoud p) (opened_by p fs ms).frames
  opened_loud [] [] h = h
  opened_loud (f ∷ fs) ms h = h
  opened_loud [] (m ∷ ms) h = by (slice_get p.modules m)
    where
      by : (x : Option Module) → FramesAre (IsLoud p) (next_body p m ms x).frames
      by None = tt
      by (Some x) = (body_is (IsLoud p) m 0 x.body, tt)

  -- a body builds nothing as it begins
  body_builds : (n home b o : ℕ) (x : Body) → (IsQuiet p n → ⊥) → Builds p o (n ∷ []) (body_frame home b x ∷ []) → ⊥
  body_builds n home b o x loud (inl h) = loud h.0
  body_builds n home b o x loud (inr h) = let c = h.asks.1 in let none : None ≡ Some c.answers = c.begun in cc none

  opened_built : (t : ℕ → Option X) (a : ℕ) (s : Store) (fs : List Frame) (ms ns : List ℕ) (o : ℕ) → (Builds p o ns fs → IsKept p (Hidden t a) s ns fs o) →
      Builds p o (opened_numbers p names fs ms ns) (opened_by p fs ms).frames → IsKept p (Hidden t a) s (opened_numbers p names fs ms ns) (opened_by p fs ms).frames o
  opened_built t a s [] [] ns o known b = absurd b
  opened_built t a s (f ∷ fs) ms ns o known b = known b
  opened_built t a s [] (m ∷ ms) ns o known b = by (slice_get p.modules m) refl b
    where
      by : (x : Option Module) → slice_get p.modules m ≡ x → Builds p o (next_numbers p names m x) (next_body p m ms x).frames → IsKept p (Hidden t a) s (next_numbers p names m x) (next_body p m ms x).frames o
      by None e b = absurd b
      by (Some x) e b = absurd (body_builds (suc m) m 0 o x.body (names.modules m (slice_get_within p.modules m x e)) b)

  -- A turn of such frames.

  turned_grows : (following : List ℕ) (s : Store) (fs : List Frame) → new_number s ≤ new_number (turn_at p following fs s).store
  turned_grows following s [] = omega arith
  turned_grows following s (f ∷ fs) = step_grows p names following s f fs (turn_at p following (f ∷ fs) s) (turn_kind p following s f fs)

  turned_hides : (following : List ℕ) (s : Store) (fs : List Frame) (ns : List ℕ) → AreOf p ns fs → (o : ℕ) → 0 ≢ o → let t = turn_at p following fs s in IsOldIn o s t.store → HideAll o fs → StoreIs (IsOther o) s → HideAll o t.frames.frames × StoreIs (IsOther o) t.store
  turned_hides following s [] ns are o z old h k = (h, k)
  turned_hides following s (f ∷ fs) [] are o z old h k = absurd are
  turned_hides following s (f ∷ fs) (n ∷ ns) are o z old h k =
      let x = are.0 in step_hides p names n x.routine following s f fs (turn_at p following (f ∷ fs) s) x.items (turn_kind p following s f fs) o z old h k

  turned_loud : (following : List ℕ) (s : Store) (fs : List Frame) (ns : List ℕ) → AreOf p ns fs → let t = turn_at p following fs s in FramesAre (IsLoud p) fs → StoreIs (IsLoud p) s → FramesAre (IsLoud p) t.frames.frames × StoreIs (IsLoud p) t.store
  turned_loud following s [] ns are h k = (h, k)
  turned_loud following s (f ∷ fs) [] are h k = absurd are
  turned_loud following s (f ∷ fs) (n ∷ ns) are h k =
      let x = are.0 in step_loud p names n x.routine following s f fs (turn_at p following (f ∷ fs) s) x.items (turn_kind p following s f fs) h k

  turned_built : (Others : ℕ → Type 0) (following : List ℕ) (s : Store) (fs : List Frame) (ns : List ℕ) (o : ℕ) → AreOf p ns fs → FramesAre (IsLoud p) fs → (Builds p o ns fs → IsKept p Others s ns fs o) →
      (new_number s ≡ o → HideAll o fs × (StoreIs (IsOther o) s × Others o)) →
      let t = turn_at p following fs s in let ms = turned_numbers p names following s fs ns in Builds p o ms t.frames.frames → IsKept p Others t.store ms t.frames.frames o
  turned_built Others following s [] ns o are loud known fresh b = absurd b
  turned_built Others following s (f ∷ fs) [] o are loud known fresh b = absurd are
  turned_built Others following s (f ∷ fs) (n ∷ ns) o are loud known fresh b =
      step_kept p names Others following s f fs (turn_at p following (f ∷ fs) s) n ns are o known loud.0 fresh (turn_kind p following s f fs) b

  some_is : {Y : Type 0} (x y : Y) → Some x ≡ Some y → x ≡ y
  some_is x y e = cc e

  turn_tidy : (s : Store) (t : ℕ → Option X) (a : ℕ) (x : X) → t a ≡ Some x → IsTraced p names s Went x → IsTidy s t → IsTidy (traced_turn p names s x).store (put nat_eq t a (Some (traced_turn p names s x).frames))
  turn_tidy s t a x is fits tidy =
      let fs = x.0.frames in
      let ms = x.0.following in
      let now = opened p x.0 in
      let ns = opened_numbers p names fs ms x.1 in
      let y = traced_turn p names s x in
      let are = opened_are p names fs ms x.1 fits.are in
      tidy_put s y.store t a a x (Some y.frames) is (turned_grows now.following s now.frames)
      (λ o z old h k. turned_hides now.following s now.frames ns are o z old (opened_hides o z fs ms h) k)
      (λ h k. turned_loud now.following s now.frames ns are (opened_loud fs ms h) k)
      (λ c g o e b ne. λ q. ne (sym q))
      (λ g o e b. subst (λ z. IsBuilt t a y.store z o) (some_is y.frames g e)
      (turned_built (Hidden t a) now.following s now.frames ns o are (opened_loud fs ms (tidy.loud_frames a x is))
      (opened_built t a s fs ms x.1 o (λ b. tidy.built a x o is b))
      (λ at. let before : new_number s ≤ o = omega (arith, at) in
      (opened_hides o (λ z. absurd (omega (arith, at, z))) fs ms (tidy.unmade_frames o before a x is), (tidy.unmade o before, λ c g ne ee. tidy.unmade_frames o before c g ee)))
      (subst (λ z. Builds p o (numbers z) (frames z)) (sym (some_is y.frames g e)) b)))
      tidy

  -- Past the kernel's work.

  module _ (C : Value → Type 0) (ok : C done) where
    goes_into_is : (f : Frame) (is : List Item) → f.items ≡ is → FrameIs C f → FrameIs C (goes_into is f)
    goes_into_is f [] e h = h
    goes_into_is f (Do st ∷ is) e h = h
    goes_into_is f (Rounds at w q last step b ∷ is) e h = h
    goes_into_is f (Round st ∷ is) e h = h
    goes_into_is f (Until at b c ∷ is) e h = h
    goes_into_is f (Gives r ∷ is) e h = h
    goes_into_is f (Region ss ∷ is) e h = record { variables = h.variables; items = text_are C ss (End ∷ is) (subst (ItemsAre C) e h.items); answers = h.answers }
    goes_into_is f (End ∷ is) e h = record { variables = h.variables; items = subst (ItemsAre C) e h.items; answers = h.answers }

    past_is : (f : Frame) (a : Option (List Value)) → f.answers ≡ a → FrameIs C f → FrameIs C (past_by a f)
    past_is f None e h = goes_into_is f f.items refl h
    past_is f (Some vs) e h = record { variables = h.variables; items = h.items; answers = all_more C vs (done ∷ []) (subst (AnswersAre C) e h.answers) (ok, tt) }

    past_values : (fs : List Frame) → FramesAre C fs → FramesAre C (past_all fs)
    past_values [] h = h
    past_values (f ∷ fs) h = (past_is f f.answers refl h.0, h.1)

  past_hides : (o : ℕ) (fs : List Frame) → HideAll o fs → HideAll o (past_all fs)
  past_hides o [] h = h
  past_hides o (f ∷ fs) h =
      record { selves = (subst (λ b. b ≢ o) (past_object p names f f.answers) h.selves.0, h.selves.1); values = past_values (IsOther o) tt (f ∷ fs) h.values }

  -- the frame's first item rests, or asks for something that makes no object
  abbrev Waits : Frame → List Frame → Type 0
  Waits f fs = (f.answers ≡ None) ⊎ ((q : Question) × IsAsking p f fs q × MakesNone q)

  waits_at : (w : Did) (x : X) (f : Frame) (fs : List Frame) → GoesPast (Outside (traced p names)) w x → IsAt w (f ∷ fs) → AsksFor p names w (f ∷ fs) → Waits f fs
  waits_at Went x f fs goes at asks = absurd goes
  waits_at Ended x f fs goes at asks = absurd goes
  waits_at (Trapped n c) x f fs goes at asks = absurd goes
  waits_at (Enter l) x f fs goes at asks = inl at.rests
  waits_at (Leave l) x f fs goes at asks = inl at.rests
  waits_at (Await l c) x f fs goes at asks = inr (Awaits c, asks, tt)
  waits_at (Start o) x f fs goes at asks = inr (Starts (Object o), asks, tt)

  none_at : (w : Did) (x : X) → GoesPast (Outside (traced p names)) w x → IsAt w [] → ⊥
  none_at Went x goes at = goes
  none_at Ended x goes at = goes
  none_at (Trapped n c) x goes at = goes
  none_at (Enter l) x goes at = at
  none_at (Leave l) x goes at = at
  none_at (Await l c) x goes at = at
  none_at (Start o) x goes at = at

  module _ (Others : ℕ → Type 0) (s : Store) (o n : ℕ) (ns : List ℕ) (f : Frame) (fs : List Frame) (are : IsOf p n f) (known : Builds p o (n ∷ ns) (f ∷ fs) → IsKept p Others s (n ∷ ns) (f ∷ fs) o) where
    -- the frame with other items and answers, at the top
    still_built : (g : Frame) → f.object ≡ g.object → (FrameIs (IsOther o) f → FrameIs (IsOther o) g) → (Pends p o g fs → ⊥) → Builds p o (n ∷ ns) (g ∷ fs) → IsKept p Others s (n ∷ ns) (g ∷ fs) o
    still_built g at is not (inr h) = absurd (not h)
    still_built g at is not (inl b) = by k.inside
      where
        k : IsKept p Others s (n ∷ ns) (f ∷ fs) o
        k = known (inl (b.0, at ∙ b.1))

        by : Inside p o (n ∷ ns) (f ∷ fs) → IsKept p Others s (n ∷ ns) (g ∷ fs) o
        by (inl x) =
            let i = x.0 in
            record { old = k.old; real = k.real; inside = inl (record { quiet = b.0; object = b.1; values = is i.values }, x.1); store = k.store; others = k.others }
        by (inr x) = absurd (let i = x.0 in pends_loud p names n are.routine o f fs are.items i.pends b.0)

    past_pends : (a : Option (List Value)) → f.answers ≡ a → Waits f fs → Pends p o (past_by a f) fs → ⊥
    past_pends None e waits h = let c = h.asks.1 in let none : None ≡ Some c.answers = sym (goes_into_answers f.items ∙ e) ∙ c.begun in cc none
      where
        goes_into_answers : (is : List Item) → (goes_into is f).answers ≡ f.answers
        goes_into_answers [] = refl
        goes_into_answers (Do st ∷ is) = refl
        goes_into_answers (Rounds at w q last step b ∷ is) = refl
        goes_into_answers (Round st ∷ is) = refl
        goes_into_answers (Until at b c ∷ is) = refl
        goes_into_answers (Gives r ∷ is) = refl
        goes_into_answers (Region ss ∷ is) = refl
        goes_into_answers (End ∷ is) = refl
    past_pends (Some vs) e (inl none) h = let both : None ≡ Some vs = sym none ∙ e in cc both
    past_pends (Some vs) e (inr x) h =
        let same : answered done f ≡ past_by (Some vs) f = (λ i. record f { answers = told done (e i) }) in
        let y = answered_pends p names n are.routine o f fs x.0 done x.1 are.items (subst (λ g. Pends p o g fs) (sym same) h) in
        made_none p names [] s f fs (turn_at p [] (f ∷ fs) s) x.0 done y.0 x.2 y.1

    past_built : Waits f fs → Builds p o (n ∷ ns) (past_by f.answers f ∷ fs) → IsKept p Others s (n ∷ ns) (past_by f.answers f ∷ fs) o
    past_built waits = still_built (past_by f.answers f) (past_object p names f f.answers) (past_is (IsOther o) tt f f.answers refl) (past_pends f.answers refl waits)

  past_of_tidy : (s : Store) (t : ℕ → Option X) (a : ℕ) (w : Did) (ms : List ℕ) (fs : List Frame) (ns : List ℕ) → let x : X = (all_frames ms fs, ns) in
      t a ≡ Some x → GoesPast (Outside (traced p names)) w x → IsTraced p names s w x → IsTidy s t → IsTidy s (put nat_eq t a (Some (let m = traced p names in m.past x)))
  past_of_tidy s t a w ms [] ns is goes fits tidy = absurd (none_at w (all_frames ms [], ns) goes fits.stands)
  past_of_tidy s t a w ms (f ∷ fs) [] is goes fits tidy = absurd fits.are
  past_of_tidy s t a w ms (f ∷ fs) (n ∷ ns) is goes fits tidy =
      let x : X = (all_frames ms (f ∷ fs), n ∷ ns) in
      let y : X = (all_frames ms (past_all (f ∷ fs)), n ∷ ns) in
      let waits = waits_at w x f fs goes fits.stands fits.asks in
      tidy_put s s t a a x (Some y) is (omega arith)
      (λ o z old h k. (past_hides o (f ∷ fs) h, k))
      (λ h k. (past_values (IsLoud p) tt (f ∷ fs) h, k))
      (λ c g o e b ne. λ q. ne (sym q))
      (λ g o e b. subst (λ z. IsBuilt t a s z o) (some_is y g e)
      (past_built (Hidden t a) s o n ns f fs fits.are.0 (λ b. tidy.built a x o is b) waits (subst (λ z. Builds p o (numbers z) (frames z)) (sym (some_is y g e)) b)))
      tidy

  -- An end, and a trap without a restart.

  end_tidy : (s : Store) (t : ℕ → Option X) (a : ℕ) (x : X) → t a ≡ Some x → IsTidy s t → IsTidy s (put nat_eq t a None)
  end_tidy s t a x is tidy =
      tidy_put s s t a a x None is (omega arith) (λ o z old h k. (tt, k)) (λ h k. (tt, k)) (λ c g o e b ne. λ q. ne (sym q)) (λ g o e b. absurd (let none : None ≡ Some g = e in cc none)) tidy

  -- A new activity.

  object_hides : (o b : ℕ) (x : Option ObjectType) → b ≢ o → HideAll o (object_frames b x).frames
  object_hides o b None ne = record { selves = tt; values = tt }
  object_hides o b (Some x) ne = body_hides x.home b o x.body.body ne

  object_loud : (b : ℕ) (x : Option ObjectType) → FramesAre (IsLoud p) (object_frames b x).frames
  object_loud b None = tt
  object_loud b (Some x) = (body_is (IsLoud p) x.home b x.body.body, tt)

  object_builds : (o b : ℕ) (type : Option ℕ) (x : Option ObjectType) → option_and_then (λ k. slice_get p.objects k) type ≡ x → Builds p o (body_numbers p names type x) (object_frames b x).frames → ⊥
  object_builds o b None x e h = h
  object_builds o b (Some k) None e h = h
  object_builds o b (Some k) (Some x) e h = body_builds (body_number p k) x.home b o x.body.body (names.bodies k (slice_get_within p.objects k x e)) h

  start_of_tidy : (s : Store) (t : ℕ → Option X) (new a b : ℕ) (ms : List ℕ) (fs : List Frame) (ns : List ℕ) → let x : X = (all_frames ms fs, ns) in
      t new ≡ None → t a ≡ Some x → IsTraced p names s (Start b) x → IsTidy s t → IsTidy s (put nat_eq t new (Some (let m = traced p names in m.body s b)))
  start_of_tidy s t new a b ms [] ns none is fits tidy = absurd fits.asks
  start_of_tidy s t new a b ms (f ∷ fs) [] none is fits tidy = absurd fits.are
  start_of_tidy s t new a b ms (f ∷ fs) (n ∷ ns) none is fits tidy =
      let x : X = (all_frames ms (f ∷ fs), n ∷ ns) in
      let own = fits.are.0 in
      let type = body_at p names s b in
      let object = option_and_then (λ k. slice_get p.objects k) type in
      let y : X = (object_frames b object, body_numbers p names type object) in
      tidy_put s s t new a x (Some y) is (omega arith)
      (λ o z old h k.
      let said = asks_says p names n own.routine (IsOther o) (other_plainly p o z) f fs (Starts (Object b)) fits.asks (inl h.selves.0) own.items h.values.0 in
      (object_hides o b object said.1.0.0, k))
      (λ h k. (object_loud b object, k))
      (λ c g o e builds ne. λ q. apart own o (let same : x ≡ g = some_is x g (sym is ∙ ap t q ∙ e) in subst (λ z. Builds p o (numbers z) (frames z)) (sym same) builds))
      (λ g o e builds. absurd (object_builds o b type object refl (subst (λ z. Builds p o (numbers z) (frames z)) (sym (some_is y g e)) builds)))
      tidy
    where
      apart : IsOf p n f → (o : ℕ) → Builds p o (n ∷ ns) (f ∷ fs) → ⊥
      apart own o (inl h) = (any_says p names n own.routine f fs (Starts (Object b)) fits.asks own.items).1.0.1 h.0
      apart own o (inr h) =
          let both : Asks (Starts (Object b)) fits.asks.0 ≡ Asks (Calls Initially h.number (h.value ∷ h.arguments)) h.asks.0 = same_come p f fs _ _ fits.asks.1 h.asks.1 in cc both

  pub keeps_tidy : KeepsTidy (traced p names) (Outside (traced p names)) (IsTraced p names) IsTidy
  keeps_tidy _ _ _ _ (ByTurn s t a x is fits) tidy = turn_tidy s t a x is fits tidy
  keeps_tidy _ _ _ _ (ByGoingPast s t a w x is goes fits) tidy = past_of_tidy s t a w x.0.following x.0.frames x.1 is goes fits tidy
  keeps_tidy _ _ _ _ (ByStart s t new a b x none is fits) tidy = start_of_tidy s t new a b x.0.following x.0.frames x.1 none is fits tidy
  keeps_tidy _ _ _ _ (ByTrap s t a w x is may fits) tidy = end_tidy s t a x is tidy
  keeps_tidy _ _ _ _ (ByEnd s t a x is) tidy = end_tidy s t a x is tidy
