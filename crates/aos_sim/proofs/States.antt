-- The store and the memory that shows it, and an activity's frames on both sides.
use Rattle.std.proofs.Common.{◌≡◌, inl, inr, Bool, true, false, ℕ, zero, suc, pos, ◌<◌, ◌^◌, List, [], ◌∷◌, ◌++◌, length, map, Option, Some, None, if◌then◌else◌, refl, sym, ap, ◌∙◌, subst, arith}
use Rattle.std.specs.Prelude.{All, slice_get, option_map, nat_eq}
use Rattle.std.proofs.lemmas.Bool.{eq-eqb}
use Rattle.std.proofs.lemmas.List.{length-map}
use Rattle.aos_base.specs.declared.text.Pos.{Pos}
use Rattle.aos_base.specs.declared.kernel.LockName.{LockName}
use Rattle.aos_base.specs.declared.root.Root.TheVariants.{Frame as FrameRoot, Module as ModuleRoot, Object as ObjectRoot}
use Rattle.aos_base.specs.Rooted.{Made, from_last, by_number}
use Rattle.aos_base.specs.Question.{Asks, Ends, feed}
use Rattle.aos_types.specs.Shape.{Shape, Nothing, size}
use Rattle.aos_types.specs.Content.{Content}
use Rattle.aos_types.specs.World.{World, Grows, world}
use Rattle.aos_typed.specs.declared.tree.TType.{TType}
use Rattle.aos_typed.specs.Program.{Body, Variable, Procedure, Module, Program}
use Rattle.aos_typed.specs.Numbers.{id_of, id_of_made}
use Rattle.aos_typed.specs.Routines.{Routine, self_type, result_of, gives, routines}
use Rattle.aos_typed.specs.Rules.{BodyKeepsRules}
use Rattle.aos_typed.specs.Sort.{Sort, Plain}
use Rattle.aos_typed.specs.Value.{Value}
use Rattle.aos_types.specs.Table.{row_of}
use Rattle.aos_typed.specs.Typing.{Is, IsPlain, HasLengths}
use Rattle.aos_typed.specs.Store.{Store}
use Rattle.aos_typed.specs.Meaning.{Here, Item, After, Into, Returns, Exits, leave_all, body_items, item_of}
use Rattle.aos_typed.specs.Source as S
use Rattle.aos_typed.specs.Source.{made_shape, first_value, locks_in}
use Rattle.aos_code.specs.declared.instr.Cell.{Cell}
use Rattle.aos_code.specs.declared.instr.Cell.TheVariants.{Num}
use Rattle.aos_code.specs.declared.image.Image.{Image}
use Rattle.aos_code.specs.Memory.{Memory}
use Rattle.aos_code.specs.Silent.{Keeps, Stack}
use Rattle.aos_code.specs.Machine as I
use Rattle.aos_code.specs.Machine.{code_of}
use Rattle.aos_memory_laws.specs.Shows.{AllShown, FramesShown}
use Rattle.aos_memory_laws.proofs.Grow.{grows_same, grows_twice, frame_grows, objects_grow}
use Rattle.aos_memory_laws.proofs.Makes.{frames_shown_grow}
use Rattle.aos_sim.specs.Cells.{cell_of}
use Rattle.aos_sim.proofs.Kept.{values_kept}
use Rattle.aos_sim.proofs.Runs.{Run, tables_of, run}
use Rattle.aos_sim.proofs.Does.{scheme, HasShapes, IsSelf, self_grows, IsFrameOf, IsAnswer, IsResult, AreReached, IsWhole, Does, does_last, lasts_grow}
use Rattle.aos_sim.proofs.Regions.{body_none}
use Rattle.aos_sim.proofs.Insides.{AreInside, body_inside}
use Rattle.aos_sim.proofs.Carries.{GoesOn, GivesBack, Returning, Remains, Behind}
use Rattle.aos_sim.proofs.First.{all_get, zero_cell, first_is, first_same}

-- the world of the topmost of these frames
abbrev pub world_of : Program → List Made → List (Shape Sort) → World Sort
world_of p made shapes = world (scheme p) made shapes

abbrev pub shapes_of : List S.Frame → List (Shape Sort)
shapes_of fs = map (λ f. f.shape) fs

-- objects that are made as these have cells with numbers of 32 bits, and the lengths that their types ask for
abbrev pub IsFew : Program → Made → Type 0
IsFew program m = (size (made_shape program.types m) < 2 ^ 32) × HasLengths program (row_of program.types (id_of_made m.type)) m

abbrev pub AreFew : Program → List Made → Type 0
AreFew program made = All (IsFew program) made

pub number_get : {X : Type 0} (P : X → Type 0) (o : ℕ) (xs : List X) (x : X) → All P xs → by_number o xs ≡ Some x → P x
number_get P zero xs x h e = absurd (cc)
number_get P (suc o) xs x h e = all_get P xs o x h e

-- the same objects were made on both sides, and the cells of modules and objects show what they hold
pub record SameStore (program : Program) (s : Store) (mem : Memory) : Type 0 where
  pub made : mem.made ≡ s.made
  pub few : AreFew program s.made
  pub of_modules : AllShown (Is program) cell_of (world_of program s.made []) (scheme program).modules s.modules mem.modules
  pub of_objects : AllShown (Is program) cell_of (world_of program s.made []) (map (scheme program).made s.made) s.objects mem.objects

-- the cells of frames show their variables, where these objects were made
abbrev pub SameVariables : Program → List Made → List S.Frame → List I.Frame → Type 0
SameVariables program made fs gs =
    FramesShown (Is program) cell_of (scheme program) made (shapes_of fs) (map (λ f. f.variables) fs) (map (λ g. g.cells) gs)

-- a frame above so many others knows its shape
pub top_shape : (program : Program) (made : List Made) (f : S.Frame) (fs : List S.Frame) → (world_of program made (shapes_of (f ∷ fs))).shape (FrameRoot (length fs)) ≡ Some f.shape
top_shape program made f fs =
    ap (λ b. if b then Some f.shape else from_last (length fs) (shapes_of fs)) (eq-eqb (length fs) (length (shapes_of fs)) (sym (length-map fs (λ (x : S.Frame). x.shape))))

-- the frame of a body has no variables
pub body_frame : (program : Program) (s : Shape Sort) → size s < 2 ^ 32 → IsFrameOf program None s
body_frame program s few =
    record { parameters = λ k a e. absurd (cc); locals = λ k t e. let no = e.2 in absurd (cc); few = few }

-- and that of an object's body, which takes nothing and has no locals
pub bare_frame : (program : Program) (q : Procedure) → q.parameters ≡ [] → q.locals ≡ [] → IsFrameOf program (Some q) Nothing
bare_frame program q plain bare =
    record {
      parameters = λ k a e. absurd (let none : slice_get q.parameters k ≡ None = ap (λ l. slice_get l k) plain in cc (none, e));
      locals = λ k u e.
          let own : Some q ≡ Some e.0 = e.2 in
          let same : q ≡ e.0 = cc in
          let none : option_map (λ (v : Variable). v.of) (slice_get e.0.locals e.1) ≡ None = ap (λ (z : Procedure). option_map (λ (v : Variable). v.of) (slice_get z.locals e.1)) (sym same) ∙ ap (λ l. option_map (λ (v : Variable). v.of) (slice_get l e.1)) bare in
          let some = e.4 in
          absurd (cc (none, some));
      few = omega arith;
    }

-- with the answer of a call the code of a function's caller goes on with it on the stack
abbrev pub with_answer : World Sort → Option TType → Value → Stack → Stack
with_answer w None v s = s
with_answer w (Some t) v s = cell_of w v ∷ s

-- A frame's region is open exactly where its items have a mark, and they have one at most; each item keeps the rules where it stands.
abbrev pub locks_open : Bool → LockName → List LockName
locks_open true l = l ∷ []
locks_open false l = []

abbrev pub IsOpen : S.Frame → I.Frame → Type 0
IsOpen f g = (locks_in (S.lock_of f) f.items ≡ locks_open g.is_open (S.lock_of f)) × AreInside (S.lock_of f) f.items

abbrev pub SameRegions : List S.Frame → List I.Frame → Type 0
SameRegions [] [] = Unit {0}
SameRegions [] (g ∷ gs) = ⊥
SameRegions (f ∷ fs) [] = ⊥
SameRegions (f ∷ fs) (g ∷ gs) = IsOpen f g × SameRegions fs gs

-- with a result
pub ends_open : (ms ps : List ℕ) (v : Value) (c : Option Cell) (fs : List S.Frame) (gs : List I.Frame) → SameRegions fs gs → SameRegions (S.with_result ms v fs) (I.with_result ps c gs)
ends_open ms ps v None [] gs h = h
ends_open ms ps v None (f ∷ fs) [] h = absurd h
ends_open ms ps v None (f ∷ fs) (g ∷ gs) h = h
ends_open ms ps v (Some c) [] [] h = h
ends_open ms ps v (Some c) [] (g ∷ gs) h = absurd h
ends_open ms ps v (Some c) (f ∷ fs) [] h = absurd h
ends_open ms ps v (Some c) (f ∷ fs) (g ∷ gs) h = h

module _ (program : Program) (image : Image) where
  -- a frame is one of the routine with its procedure's number, of the object of the other side's, has begun the same statement, and
  -- counts alike; what is called on no object has none
  pub record SamePlace (made : ℕ → Option Made) (procedure home object : ℕ) (at : Option Pos) (function : Bool) (shape : Shape Sort) (counted of : ℕ) (begun : Option Pos) (many : ℕ) : Type 0 where
    pub routine : Routine
    pub there : by_number procedure (routines program) ≡ Some routine
    pub home_is : routine.home ≡ home
    pub object_is : of ≡ object
    pub at_is : begun ≡ at
    pub gives_is : function ≡ gives routine.own
    pub counted_is : many ≡ counted
    pub none_is : self_type routine.own ≡ None → object ≡ 0
    pub frame : IsFrameOf program routine.own shape
    pub self : IsSelf program made (self_type routine.own) object

  abbrev pub Placed : (ℕ → Option Made) → S.Frame → I.Frame → Type 0
  Placed made f g = SamePlace made g.procedure f.home f.object f.at f.gives f.shape f.counted g.object g.at g.counted

  -- as objects are made
  abbrev pub place_grows : (made made' : ℕ → Option Made) → ((o : ℕ) (m : Made) → made o ≡ Some m → made' o ≡ Some m) → (f : S.Frame) (g : I.Frame) → Placed made f g → Placed made' f g
  place_grows made made' up f g h =
      record {
        routine = h.routine;
        there = h.there;
        home_is = h.home_is;
        object_is = h.object_is;
        at_is = h.at_is;
        gives_is = h.gives_is;
        counted_is = h.counted_is;
        none_is = h.none_is;
        frame = h.frame;
        self = self_grows program made made' up (self_type h.routine.own) f.object h.self;
      }

  -- where a frame's statements are carried out that is above so many others
  abbrev pub here_in : ℕ → S.Frame → Here
  here_in below f = record { below = below; self = f.object }

  -- behind an answer the code does what is left of the first item
  abbrev pub Went : Option Procedure → (number : ℕ) (here : Here) → World Sort → Option (List Value) → List Item → ℕ → Keeps → Stack → Type 0
  Went own number here w None is next k s = ⊥
  Went own number here w (Some t) [] next k s = ⊥
  Went own number here w (Some t) (i ∷ is) next k s =
      let code = code_of image number in
      Does program here (Behind program own (tables_of program image) number here code is) w (run (tables_of program image) number here code next k s) (feed t (item_of program here i))

  -- a frame above so many others, in a world; what remains of its items is what its code goes on with
  pub record SameFrame (w : World Sort) (below : ℕ) (f : S.Frame) (g : I.Frame) : Type 0 where
    pub place : Placed w.made f g
    pub remains : Remains program place.routine.own (tables_of program image) g.procedure (here_in below f) (code_of image g.procedure) f.variables g.cells w f.answers f.items g.next g.keeps g.stack

  -- one that has had an answer
  pub record WentFrame (w : World Sort) (below : ℕ) (f : S.Frame) (g : I.Frame) : Type 0 where
    pub place : Placed w.made f g
    pub went : Went place.routine.own g.procedure (here_in below f) w f.answers f.items g.next g.keeps g.stack

  -- one that waits for the end of the frame above, which gives such a result: it goes on with each
  pub record WaitingFrame (w : World Sort) (result : Option TType) (below : ℕ) (f : S.Frame) (g : I.Frame) : Type 0 where
    pub place : Placed w.made f g
    pub goes : (w' : World Sort) → Grows w w' → (v : Value) → IsAnswer program w' result v → Went place.routine.own g.procedure (here_in below f) w' (S.told v f.answers) f.items g.next g.keeps (with_answer w' result v g.stack)

  -- frames whose topmost waits for the end of the one above, and each other one for the end of the next
  abbrev pub Waiting : List Made → Option TType → List S.Frame → List I.Frame → Type 0
  Waiting made result [] [] = Unit {0}
  Waiting made result [] (g ∷ gs) = ⊥
  Waiting made result (f ∷ fs) [] = ⊥
  Waiting made result (f ∷ fs) (g ∷ gs) =
      (h : WaitingFrame (world_of program made (shapes_of (f ∷ fs))) result (length fs) f g) × Waiting made (result_of h.place.routine.own) fs gs

  -- the frames of an activity
  abbrev pub SameFrames : List Made → List S.Frame → List I.Frame → Type 0
  SameFrames made [] [] = Unit {0}
  SameFrames made [] (g ∷ gs) = ⊥
  SameFrames made (f ∷ fs) [] = ⊥
  SameFrames made (f ∷ fs) (g ∷ gs) =
      (h : SameFrame (world_of program made (shapes_of (f ∷ fs))) (length fs) f g) × Waiting made (result_of h.place.routine.own) fs gs

  -- those whose topmost has had an answer
  abbrev pub WentFrames : List Made → List S.Frame → List I.Frame → Type 0
  WentFrames made [] [] = Unit {0}
  WentFrames made [] (g ∷ gs) = ⊥
  WentFrames made (f ∷ fs) [] = ⊥
  WentFrames made (f ∷ fs) (g ∷ gs) =
      (h : WentFrame (world_of program made (shapes_of (f ∷ fs))) (length fs) f g) × Waiting made (result_of h.place.routine.own) fs gs

  -- the body of each routine keeps the rules, and its code carries out its statements
  abbrev pub RoutinesRun : Type 0
  RoutinesRun =
      (p : ℕ) (r : Routine) → by_number p (routines program) ≡ Some r → BodyKeepsRules r.body × ((here : Here) → GoesOn program r.own (tables_of program image) p here (code_of image p) (body_items r.body) (run (tables_of program image) p here (code_of image p) 0 (λ c. Num (pos 0)) []))

  -- the bodies of modules that are to follow, and the procedures that they are
  abbrev pub Follows : List ℕ → List ℕ → Type 0
  Follows [] [] = Unit {0}
  Follows [] (p ∷ ps) = ⊥
  Follows (m ∷ ms) [] = ⊥
  Follows (m ∷ ms) (p ∷ ps) =
      ((x : Module) × (slice_get program.modules m ≡ Some x) × (by_number p (routines program) ≡ Some (record { home = m; own = None; body = x.body })))
      × Follows ms ps

  -- all of an activity, where these objects were made
  pub record Same (made : List Made) (x : S.Frames) (y : I.Frames) : Type 0 where
    pub follows : Follows x.following y.following
    pub frames : SameFrames made x.frames y.frames
    pub shown : SameVariables program made x.frames y.frames
    pub regions : SameRegions x.frames y.frames

  -- and of the stores
  pub record SameState (s : Store) (mem : Memory) (x : S.Frames) (y : I.Frames) : Type 0 where
    pub stores : SameStore program s mem
    pub same : Same s.made x y

  -- as many frames wait on both sides
  pub waiting_length : (made : List Made) (result : Option TType) (fs : List S.Frame) (gs : List I.Frame) → Waiting made result fs gs → length fs ≡ length gs
  waiting_length made result [] [] h = refl
  waiting_length made result [] (g ∷ gs) h = absurd h
  waiting_length made result (f ∷ fs) [] h = absurd h
  waiting_length made result (f ∷ fs) (g ∷ gs) h =
      ap (λ n. suc n) (waiting_length made (result_of h.0.place.routine.own) fs gs h.1)

  -- The end of a frame, which may give a result.

  -- a result is the same in the world below
  result_below : (made : List Made) (s : Shape Sort) (shapes : List (Shape Sort)) (t : TType) (v : Value) → Is program (world_of program made (s ∷ shapes)) (Plain (id_of t)) v → Is program (world_of program made shapes) (Plain (id_of t)) v × (cell_of (world_of program made (s ∷ shapes)) v ≡ cell_of (world_of program made shapes) v)
  result_below made s shapes t v h =
      let above = world_of program made (s ∷ shapes) in
      let below = world_of program made shapes in
      let is = (values_kept program).plain above below (λ o m e. e) (Plain (id_of t)) v tt h in
      (is, sym ((values_kept program).cells below above (frame_grows (scheme program) made s shapes) (Plain (id_of t)) v is))

  abbrev pub answer_of : Option Value → Value
  answer_of None = S.done
  answer_of (Some v) = v

  pub ends_went : (made : List Made) (ms ps : List ℕ) (result : Option TType) (r : Option Value) (s : Shape Sort) (fs : List S.Frame) (gs : List I.Frame) → Waiting made result fs gs → IsResult program (world_of program made (s ∷ shapes_of fs)) result r → WentFrames made (S.with_result ms (answer_of r) fs) (I.with_result ps (option_map (cell_of (world_of program made (s ∷ shapes_of fs))) r) gs)
  ends_went made ms ps None None s [] [] h is = tt
  ends_went made ms ps (Some t) (Some v) s [] [] h is = tt
  ends_went made ms ps None (Some v) s fs gs h is = absurd is
  ends_went made ms ps (Some t) None s fs gs h is = absurd is
  ends_went made ms ps result r s [] (g ∷ gs) h is = absurd h
  ends_went made ms ps result r s (f ∷ fs) [] h is = absurd h
  ends_went made ms ps None None s (f ∷ fs) (g ∷ gs) h is =
      let w = world_of program made (shapes_of (f ∷ fs)) in
      (record { place = h.0.place; went = h.0.goes w (grows_same w) S.done tt }, h.1)
  ends_went made ms ps (Some t) (Some v) s (f ∷ fs) (g ∷ gs) h is =
      let w = world_of program made (shapes_of (f ∷ fs)) in
      let below = result_below made s (shapes_of (f ∷ fs)) t v is in
      subst (λ c. WentFrames made (S.answered v f ∷ fs) (record g { stack = c ∷ g.stack } ∷ gs)) (sym below.1)
      (record { place = h.0.place; went = h.0.goes w (grows_same w) v below.0 }, h.1)

  pub ends_shown : (made : List Made) (ms ps : List ℕ) (v : Value) (c : Option Cell) (fs : List S.Frame) (gs : List I.Frame) → SameVariables program made fs gs → SameVariables program made (S.with_result ms v fs) (I.with_result ps c gs)
  ends_shown made ms ps v None [] gs h = h
  ends_shown made ms ps v None (f ∷ fs) gs h = h
  ends_shown made ms ps v (Some c) [] [] h = h
  ends_shown made ms ps v (Some c) [] (g ∷ gs) h = h
  ends_shown made ms ps v (Some c) (f ∷ fs) [] h = h
  ends_shown made ms ps v (Some c) (f ∷ fs) (g ∷ gs) h = h

  -- What follows a statement stays so as the world grows.

  result_grows : (w w' : World Sort) → Grows w w' → (t : Option TType) (r : Option Value) → IsResult program w t r → IsResult program w' t r × (option_map (cell_of w) r ≡ option_map (cell_of w') r)
  result_grows w w' g None None h = (h, refl)
  result_grows w w' g None (Some v) h = absurd h
  result_grows w w' g (Some t) None h = absurd h
  result_grows w w' g (Some t) (Some v) h =
      ((values_kept program).is w w' g (Plain (id_of t)) v h, ap (λ c. Some c) ((values_kept program).cells w w' g (Plain (id_of t)) v h))

  gives_grows : (w w' : World Sort) → Grows w w' → (own : Option Procedure) (number : ℕ) (here : Here) (r : Option Value) (m : Run) → GivesBack program own (tables_of program image) number here (code_of image number) w r m → GivesBack program own (tables_of program image) number here (code_of image number) w' r m
  gives_grows w w' g own number here r m h =
      let k = result_grows w w' g (result_of own) r h.2 in
      (h.0, h.1 ∙ ap (λ o. Asks (Ends o) h.0) k.1, k.0)

  returning_grows : (w w' : World Sort) → Grows w w' → (own : Option Procedure) (number : ℕ) (here : Here) (r : Option Value) (is : List Item) (m : Run) → Returning program own (tables_of program image) number here (code_of image number) w r is m → Returning program own (tables_of program image) number here (code_of image number) w' r is m
  returning_grows w w' g own number here r is m (inl h) = inl (h.0, gives_grows w w' g own number here r m h.1)
  returning_grows w w' g own number here r is m (inr h) =
      inr (h.0, (h.1.0, h.1.1, λ x. gives_grows w w' g own number here r (h.1.0 x) (h.1.2 x)))

  pub behind_grows : (w w' : World Sort) → Grows w w' → (own : Option Procedure) (number : ℕ) (here : Here) (is : List Item) (a : After) (m : Run) → Behind program own (tables_of program image) number here (code_of image number) is w a m → Behind program own (tables_of program image) number here (code_of image number) is w' a m
  behind_grows w w' g own number here is (Into new) m h = h
  behind_grows w w' g own number here is Exits m h = h
  behind_grows w w' g own number here is (Returns r) m h = returning_grows w w' g own number here r (leave_all r is) m h

  remains_grows : (w w' : World Sort) → Grows w w' → (own : Option Procedure) (number : ℕ) (here : Here) (c : Content Value) (cells : List Cell) (answers : Option (List Value)) (is : List Item) (next : ℕ) (k : Keeps) (st : Stack) → Remains program own (tables_of program image) number here (code_of image number) c cells w answers is next k st → Remains program own (tables_of program image) number here (code_of image number) c cells w' answers is next k st
  remains_grows w w' g own number here c cells None is next k st (inl h) = inl h
  remains_grows w w' g own number here c cells None is next k st (inr h) =
      inr (h.0, returning_grows w w' g own number here h.0 is (run (tables_of program image) number here (code_of image number) next k st) h.1)
  remains_grows w w' g own number here c cells (Some t) [] next k st h = absurd h
  remains_grows w w' g own number here c cells (Some t) (i ∷ is) next k st h =
      let code = code_of image number in
      lasts_grow program here w w' g (Behind program own (tables_of program image) number here code is) image.types.items c cells (run (tables_of program image) number here code next k st) (feed t (item_of program here i)) h

  -- Behind an answer.

  -- what stands below a root of frames that have so few scalars has cells with numbers of 32 bits
  module _ (shaped : HasShapes program (tables_of program image)) where
    frame_few : (z : Shape Sort) (b : Bool) (d : ℕ) (s : Shape Sort) → size z < 2 ^ 32 → (shapes : List (Shape Sort)) → (from_last d shapes ≡ Some s → size s < 2 ^ 32) → (if b then Some z else from_last d shapes) ≡ Some s → size s < 2 ^ 32
    frame_few z true d s few shapes below e = let q : z ≡ s = cc in subst (λ x. size x < 2 ^ 32) q few
    frame_few z false d s few shapes below e = below e

    waiting_few : (made : List Made) (result : Option TType) (fs : List S.Frame) (gs : List I.Frame) → Waiting made result fs gs → (d : ℕ) (s : Shape Sort) → from_last d (shapes_of fs) ≡ Some s → size s < 2 ^ 32
    waiting_few made result [] gs h d s e = absurd (cc)
    waiting_few made result (f ∷ fs) [] h d s e = absurd h
    waiting_few made result (f ∷ fs) (g ∷ gs) h d s e =
        frame_few f.shape (nat_eq d (length (shapes_of fs))) d s h.0.place.frame.few (shapes_of fs) (λ e'. waiting_few made (result_of h.0.place.routine.own) fs gs h.1 d s e') e

    all_reached : (made : List Made) (z : Shape Sort) (result : Option TType) (fs : List S.Frame) (gs : List I.Frame) → AreFew program made → size z < 2 ^ 32 → Waiting made result fs gs → AreReached (world_of program made (z ∷ shapes_of fs))
    all_reached made z result fs gs objects few h (FrameRoot d) s e =
        frame_few z (nat_eq d (length (shapes_of fs))) d s few (shapes_of fs) (waiting_few made result fs gs h d s) e
    all_reached made z result fs gs objects few h (ModuleRoot m) s e = shaped.few m s e
    all_reached made z result fs gs objects few h (ObjectRoot o) s e = by (by_number o made) refl e
      where
        by : (m : Option Made) → by_number o made ≡ m → option_map (scheme program).made m ≡ Some s → size s < 2 ^ 32
        by None f e' = absurd (cc)
        by (Some m) f e' = let q : made_shape program.types m ≡ s = cc in subst (λ x. size x < 2 ^ 32) q ((number_get (IsFew program) o made m objects f).0)

    -- and so all objects have the shapes that they are made as
    pub all_whole : (made : List Made) (z : Shape Sort) (result : Option TType) (fs : List S.Frame) (gs : List I.Frame) → AreFew program made → size z < 2 ^ 32 → Waiting made result fs gs → IsWhole program (world_of program made (z ∷ shapes_of fs))
    all_whole made z result fs gs objects few h =
        record { reached = all_reached made z result fs gs objects few h; objects = λ o m e. ap (option_map (made_shape program.types)) e }

    -- with an answer the topmost frame's silent questions are answered
    pub went_same : (made : List Made) (fs : List S.Frame) (gs : List I.Frame) → AreFew program made → WentFrames made fs gs → SameVariables program made fs gs → SameFrames made fs gs
    went_same made [] [] few h shown = tt
    went_same made [] (g ∷ gs) few h shown = absurd h
    went_same made (f ∷ fs) [] few h shown = absurd h
    went_same made (f ∷ fs) (g ∷ gs) few h shown =
        let place = h.0.place in
        let whole = all_whole made f.shape (result_of place.routine.own) fs gs few place.frame.few h.1 in
        (record { place = place; remains = calmed place.routine.own f.answers f.items h.0.went whole }, h.1)
      where
        now : World Sort
        now = world_of program made (shapes_of (f ∷ fs))

        calmed : (own : Option Procedure) (answers : Option (List Value)) (items : List Item) → Went own g.procedure (here_in (length fs) f) now answers items g.next g.keeps g.stack → IsWhole program now → Remains program own (tables_of program image) g.procedure (here_in (length fs) f) (code_of image g.procedure) f.variables g.cells now answers items g.next g.keeps g.stack
        calmed own None items h' whole = absurd h'
        calmed own (Some t) [] h' whole = absurd h'
        calmed own (Some t) (i ∷ is) h' whole =
            let code = code_of image g.procedure in
            let here = here_in (length fs) f in
            does_last program here (Behind program own (tables_of program image) g.procedure here code is) now f.shape f.variables g.cells (tables_of program image) (run (tables_of program image) g.procedure here code g.next g.keeps g.stack) (feed t (item_of program here i))
            (λ w' up. behind_grows now w' up own g.procedure here is) (top_shape program made f fs) shown.0 whole shaped h'

  -- The next body.

  -- a routine without variables that gives nothing: the body of a module or of an object
  pub body_same : RoutinesRun → (made : List Made) (o p : ℕ) (r : Routine) → by_number p (routines program) ≡ Some r → false ≡ gives r.own → IsFrameOf program r.own Nothing → IsSelf program (λ o. by_number o made) (self_type r.own) o → (self_type r.own ≡ None → o ≡ 0) → SameFrames made (S.body_frame r.home o r.body ∷ []) (I.body_frame o p ∷ [])
  body_same runs made o p r there proper frame self none = (
    record {
      place = record { routine = r; there = there; home_is = refl; object_is = refl; at_is = refl; gives_is = proper; counted_is = refl; none_is = none; frame = frame; self = self };
      remains = inl ((runs p r there).1 (record { below = 0; self = o }));
    },
    tt,
  )

  pub body_shown : (made : List Made) (o p home : ℕ) (b : Body) → SameVariables program made (S.body_frame home o b ∷ []) (I.body_frame o p ∷ [])
  body_shown made o p home b = (record { fits = tt; same = refl }, tt)

  opened_by_same : RoutinesRun → (made : List Made) (fs : List S.Frame) (gs : List I.Frame) (ms ps : List ℕ) → Follows ms ps → SameFrames made fs gs → SameVariables program made fs gs → SameRegions fs gs → Same made (S.opened_by program fs ms) (I.opened_by gs ps)
  opened_by_same runs made [] [] [] [] follows h shown marks = record { follows = tt; frames = tt; shown = tt; regions = tt }
  opened_by_same runs made [] [] [] (p ∷ ps) follows h shown marks = absurd follows
  opened_by_same runs made [] [] (m ∷ ms) [] follows h shown marks = absurd follows
  opened_by_same runs made [] [] (m ∷ ms) (p ∷ ps) follows h shown marks =
      let x = follows.0.0 in
      subst (λ o. Same made (S.next_body program m ms o) (I.opened_by [] (p ∷ ps))) (sym follows.0.1)
      (record {
        follows = follows.1;
        frames = body_same runs made 0 p (record { home = m; own = None; body = x.body }) follows.0.2 refl (body_frame program Nothing (omega arith)) tt (λ e. refl);
        shown = body_shown made 0 p m x.body;
        regions = (
          (
            body_none (S.lock_of (S.body_frame m 0 x.body)) x.body,
            body_inside (S.lock_of (S.body_frame m 0 x.body)) x.body (runs p (record { home = m; own = None; body = x.body }) follows.0.2).0,
          ),
          tt,
        );
      })
  opened_by_same runs made [] (g ∷ gs) ms ps follows h shown marks = absurd h
  opened_by_same runs made (f ∷ fs) [] ms ps follows h shown marks = absurd h
  opened_by_same runs made (f ∷ fs) (g ∷ gs) ms ps follows h shown marks = record { follows = follows; frames = h; shown = shown; regions = marks }

  pub opened_same : RoutinesRun → (made : List Made) (x : S.Frames) (y : I.Frames) → Same made x y → Same made (S.opened program x) (I.opened y)
  opened_same runs made x y h = opened_by_same runs made x.frames y.frames x.following y.following h.follows h.frames h.shown h.regions

  -- As objects are made.

  module _ (made more : List Made) where
    abbrev up : (shapes : List (Shape Sort)) → Grows (world_of program made shapes) (world_of program (made ++ more) shapes)
    up shapes = objects_grow (scheme program) made more shapes

    pub waiting_grow : (result : Option TType) (fs : List S.Frame) (gs : List I.Frame) → Waiting made result fs gs → Waiting (made ++ more) result fs gs
    waiting_grow result [] [] h = tt
    waiting_grow result [] (g ∷ gs) h = absurd h
    waiting_grow result (f ∷ fs) [] h = absurd h
    waiting_grow result (f ∷ fs) (g ∷ gs) h =
        let w = world_of program made (shapes_of (f ∷ fs)) in
        let w' = world_of program (made ++ more) (shapes_of (f ∷ fs)) in
        (record { place = place_grows w.made w'.made (up (shapes_of (f ∷ fs))).made f g h.0.place; goes = λ w2 g2. h.0.goes w2 (grows_twice w w' w2 (up (shapes_of (f ∷ fs))) g2) }, waiting_grow (result_of h.0.place.routine.own) fs gs h.1)

    frames_grow : (fs : List S.Frame) (gs : List I.Frame) → SameFrames made fs gs → SameFrames (made ++ more) fs gs
    frames_grow [] [] h = tt
    frames_grow [] (g ∷ gs) h = absurd h
    frames_grow (f ∷ fs) [] h = absurd h
    frames_grow (f ∷ fs) (g ∷ gs) h =
        let place = h.0.place in
        let w = world_of program made (shapes_of (f ∷ fs)) in
        let w' = world_of program (made ++ more) (shapes_of (f ∷ fs)) in (
          record {
            place = place_grows w.made w'.made (up (shapes_of (f ∷ fs))).made f g place;
            remains = remains_grows w w' (up (shapes_of (f ∷ fs))) place.routine.own g.procedure (here_in (length fs) f) f.variables g.cells f.answers f.items g.next g.keeps g.stack h.0.remains;
          },
          waiting_grow (result_of place.routine.own) fs gs h.1,
        )

    pub shown_grow : (shapes : List (Shape Sort)) (cs : List (Content Value)) (ys : List (List Cell)) → FramesShown (Is program) cell_of (scheme program) made shapes cs ys → FramesShown (Is program) cell_of (scheme program) (made ++ more) shapes cs ys
    shown_grow shapes cs ys h = frames_shown_grow (Is program) cell_of IsPlain (values_kept program) (first_value program) (zero_cell program) (first_is program) (first_same program) (scheme program) made more shapes cs ys h

    pub same_grows : (x : S.Frames) (y : I.Frames) → Same made x y → Same (made ++ more) x y
    same_grows x y h =
        record {
          follows = h.follows;
          frames = frames_grow x.frames y.frames h.frames;
          shown = shown_grow (shapes_of x.frames) (map (λ f. f.variables) x.frames) (map (λ g. g.cells) y.frames) h.shown;
          regions = h.regions;
        }
