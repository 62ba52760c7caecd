-- A program as a machine: its store, its frames, and the turns of an activity.
use Rattle.std.specs.Prelude.{ℕ, zero, suc, ◌+◌, ◌++◌, List, [], ◌∷◌, length, drop, Bool, true, false, Option, Some, None, if◌then◌else◌, map, pos, unsigned_abs, slice_get, option_and_then, option_map}
use Rattle.std.specs.List.{range_with_len}
use Rattle.std.specs.Option.{unwrap_or}
use Rattle.aos_base.specs.declared.text.Pos.{Pos}
use Rattle.aos_base.specs.declared.root.Root.{Root}
use Rattle.aos_base.specs.declared.root.Root.TheVariants.{Object as ObjectRoot}
use Rattle.aos_base.specs.declared.kernel.Did.{Did}
use Rattle.aos_base.specs.declared.kernel.Did.TheVariants.{Ended, Enter, Leave, Await, Start, Trapped}
use Rattle.aos_base.specs.declared.kernel.LockName.{LockName}
use Rattle.aos_base.specs.declared.kernel.LockName.TheVariants.{Module as ModuleLock, Object as ObjectLock}
use Rattle.aos_base.specs.declared.kernel.Verdict.{Verdict}
use Rattle.aos_base.specs.declared.kernel.Verdict.TheVariants.{Holds, Fails, Traps as TrapsWith}
use Rattle.aos_base.specs.declared.number.Relation.{Relation}
use Rattle.aos_base.specs.declared.priority.Priority.{Priority}
use Rattle.aos_base.specs.Number.{places_of, justified, holds, array_lengths}
use Rattle.aos_base.specs.Priority.{number_of as priority_number}
use Rattle.aos_base.specs.Text.{order}
use Rattle.aos_base.specs.Book.{Where}
use Rattle.aos_base.specs.Machine.{Turn, Machine, State, start_of}
use Rattle.aos_base.specs.Frames.{Frames as FramesOf, change_frame, change_top, is_deep_by, begins_one, position_by, lowest_home_by, position_in_by}
pub use Rattle.aos_base.specs.Frames.{all_frames, goes_on, puts, leaves, or_below}
use Rattle.aos_base.specs.Rooted.{Made, Rooted, by_number}
use Rattle.aos_base.specs.Question.{Val, Asks, Traps, feed, Reads, Stores, Copies, PutsText, ComparesTexts, Calls, Ends, Makes, Starts, Enters, Leaves, Awaits, PutsInt, PutsChar, PutsString, PutsNothing, PutsLn, Places, Lengths, Opens, Sizes, Tests}
use Rattle.aos_types.specs.declared.row.Basic.{Basic}
use Rattle.aos_types.specs.declared.row.Basic.TheVariants as basic
use Rattle.aos_types.specs.declared.row.TypeRow.{TypeRow}
use Rattle.aos_types.specs.declared.row.TypeRow.TheVariants as row
use Rattle.aos_types.specs.Table.{row_of as type_row}
use Rattle.aos_types.specs.Extension.{comes_to}
use Rattle.aos_types.specs.Shape.{Shape, Nothing, size}
use Rattle.aos_types.specs.Shape as shape
use Rattle.aos_types.specs.Content.{Content, Scalar, Empty, Row, found, placed, overlay, first_content}
use Rattle.aos_types.specs.World.{read}
use Rattle.aos_typed.specs.Program.{Body, Repeat, Variable as TypedVariable, ObjectType, Module, Program}
use Rattle.aos_typed.specs.CallFrame.{Part, nested, head, handed}
use Rattle.aos_typed.specs.Numbers.{id_of, id_of_made}
use Rattle.aos_typed.specs.Open.{open_element}
use Rattle.aos_typed.specs.Conditions.{Condition, conditions}
use Rattle.aos_typed.specs.Methods.{body_type, priority_by}
use Rattle.aos_typed.specs.Routines.{Routine, parameters_of, locals_of, has_self, gives, routines}
use Rattle.aos_typed.specs.Sort.{Sort, Plain, Variable, Alias, Elements, Length, variable_shape, object_shape}
use Rattle.aos_typed.specs.Location.{Location, OnHeap}
use Rattle.aos_typed.specs.Text.{text_in, with_text, fitted, text_content, text_shape}
use Rattle.aos_typed.specs.Value.{Value, Int, Flag, Char, Set, Object, Callable, Place, number_of, is_true}
use Rattle.aos_typed.specs.Store.{Store, scalar_in, rooted, value_at, store_with, type_of_object, with_object, new_number, has_room, made_in}
use Rattle.aos_typed.specs.Meaning.{Here, Question, Doing, Item, Do, Rounds, Round, Until, Region, End, Gives, After, Into, Exits, Returns, leave, leave_all, items_of, body_items, item_of, pos_of, value_of, object_in}

-- a frame: the module of its text, the object whose method or body it is, 0 for none, whether it is a function's, the shape of its
-- variables and what they hold, how many scalars count, the statement last begun, the items that remain, and the answers that the
-- first of them has had, if it has begun
pub record Frame : Type 0 where
  pub home : ℕ
  pub object : ℕ
  pub gives : Bool
  pub shape : Shape Sort
  pub counted : ℕ
  pub variables : Content Value
  pub at : Option Pos
  pub items : List Item
  pub answers : Option (List Value)

-- what follows an activity's frames are the bodies of modules, by the modules' numbers
abbrev pub Frames : Type 0
Frames = FramesOf Frame

abbrev pub Turned : Type 0
Turned = Turn Store Frames

-- the lock of a frame's regions, all of which have the same one: that of the object whose method or body it is, or else of its module
abbrev pub own_lock : (home object : ℕ) → LockName
own_lock home zero = ModuleLock home
own_lock home (suc k) = ObjectLock (suc k)

abbrev pub lock_of : Frame → LockName
lock_of f = own_lock f.home f.object

-- where the statements of a frame above these are carried out
abbrev pub here_of : Frame → List Frame → Here
here_of f fs = record { below = length fs; self = f.object }

abbrev pub told : Value → Option (List Value) → Option (List Value)
told v None = None
told v (Some vs) = Some (vs ++ v ∷ [])

-- the frame's first item has one more answer
abbrev pub answered : Value → Frame → Frame
answered v f = record f { answers = told v f.answers }

-- what has no other answer is answered so
abbrev pub done : Value
done = Int (pos 0)

-- The variables below the roots of an activity.

abbrev pub all_rooted : List Frame → Store → Rooted (Content Value)
all_rooted fs s = rooted (map (λ f. f.variables) fs) s

abbrev pub frames_with : Root → (Content Value → Content Value) → List Frame → List Frame
frames_with r g fs = change_frame r (λ f. record f { variables = g f.variables }) fs

-- the text that Out.Int writes, where the number of places is 0 to 255
abbrev pub written : Value → Value → Option (List ℕ)
written v n = justified (number_of v) (places_of (number_of n))

-- what a variable of a type begins with: 0, FALSE, 0X, {} or NIL
abbrev pub first_basic : Basic → Value
first_basic basic.ShortInt = Int (pos 0)
first_basic basic.Integer = Int (pos 0)
first_basic basic.LongInt = Int (pos 0)
first_basic basic.HugeInt = Int (pos 0)
first_basic basic.Boolean = Flag false
first_basic basic.Char = Char 0
first_basic basic.Set = Set 0
first_basic basic.Nil = Object 0
first_basic (basic.Text n) = Int (pos 0)

abbrev pub first_in : Option TypeRow → Value
first_in None = Int (pos 0)
first_in (Some (row.Basic b)) = first_basic b
first_in (Some (row.Array n t)) = Int (pos 0)
first_in (Some (row.Open t)) = Int (pos 0)
first_in (Some (row.Record base fields)) = Int (pos 0)
first_in (Some (row.Pointer to)) = Object 0
first_in (Some (row.Object base fields)) = Object 0
first_in (Some (row.Procedure formals r)) = Callable 0 0
first_in (Some row.Any) = Object 0

-- a row of these contents
abbrev pub row_of : List (Content Value) → Content Value
row_of [] = Empty
row_of (c ∷ cs) = Row c (row_of cs)

-- what an object holds that is made as this: a record, a fixed array, an object's fields, or an open array of its lengths
abbrev pub shape_made : List TypeRow → Made → Option TypeRow → Shape Sort
shape_made rows m (Some (row.Open of)) = nested m.lengths (variable_shape rows (open_element rows (id_of_made m.type)))
shape_made rows m r = object_shape rows (id_of_made m.type)

abbrev pub made_shape : List TypeRow → Made → Shape Sort
made_shape rows m = shape_made rows m (type_row rows (id_of_made m.type))

module _ (p : Program) where
  abbrev pub first_value : Sort → Value
  first_value (Plain t) = first_in (type_row p.types t)
  first_value (Variable t) = Int (pos 0)
  first_value (Alias t) = Int (pos 0)
  first_value (Elements t ns) = Int (pos 0)
  first_value (Length n) = Int (pos 0)

-- The locks of the open regions, the latest entered first: each has its mark.

abbrev pub locks_in : LockName → List Item → List LockName
locks_in l [] = []
locks_in l (Do st ∷ is) = locks_in l is
locks_in l (Rounds at w p last step b ∷ is) = locks_in l is
locks_in l (Round st ∷ is) = locks_in l is
locks_in l (Until at b e ∷ is) = locks_in l is
locks_in l (Region ss ∷ is) = locks_in l is
locks_in l (End ∷ is) = l ∷ locks_in l is
locks_in l (Gives r ∷ is) = []

-- the topmost of an activity's frames, which runs, those below it, and the store
pub record Top : Type 0 where
  pub frame : Frame
  pub below : List Frame
  pub store : Store

abbrev pub top : Frame → List Frame → Store → Top
top f fs s = record { frame = f; below = fs; store = s }

abbrev pub roots : Top → Rooted (Content Value)
roots h = all_rooted (h.frame ∷ h.below) h.store

-- a place's contents with the parts of a shape from another's, which are read before, where both are there
abbrev pub copied : Shape Sort → (from to : Option (Content Value)) → Option (Content Value)
copied c (Some new) (Some old) = Some (overlay c new old)
copied c _ _ = None

-- with what is to follow an activity's frames
module _ (following : List ℕ) where
  -- the end of a frame, whose result is the answer for the one below
  abbrev pub with_result : Value → List Frame → List Frame
  with_result v fs = change_top (answered v) fs

  abbrev pub ends : Option Value → List Frame → Store → Turned
  ends None fs s = goes_on following (with_result done fs) s
  ends (Some v) fs s = goes_on following (with_result v fs) s

  -- the topmost frame goes on with an answer, or all stay as they are and leave work to the kernel
  abbrev pub goes_on_with : Value → Top → Turned
  goes_on_with v h = goes_on following (answered v h.frame ∷ h.below) h.store

  abbrev pub stays : Did → Top → Turned
  stays work h = leaves following work (h.frame ∷ h.below) h.store

  -- the first of these items begins at a place
  abbrev pub begins : Pos → List Item → Top → Turned
  begins at is h = begins_one following (record h.frame { at = Some at; items = is; answers = Some [] } ∷ h.below) h.store

  abbrev pub writes : Root → (Content Value → Content Value) → List Frame → Store → Turned
  writes r g fs s = goes_on following (frames_with r g fs) (store_with r g s)

  abbrev pub prints : Option (List ℕ) → Top → Turned
  prints None h = stays (Trapped 14 0) h
  prints (Some bytes) h = puts following bytes (answered done h.frame ∷ h.below) h.store

  -- an object is made, where the heap has room for it
  abbrev pub makes : Bool → Made → Content Value → Top → Turned
  makes true m c h = goes_on following (answered (Object (new_number h.store)) h.frame ∷ h.below) (with_object m c h.store)
  makes false m c h = stays (Trapped 12 0) h

  -- an object's activity is left to the kernel; nothing is where there is no object, to which no well-typed program comes
  abbrev pub starts : Value → Top → Turned
  starts (Object (suc k)) h = stays (Start (suc k)) h
  starts v h = goes_on_with done h

  -- a condition is left to the kernel by a frame with an open region, the first of whose locks this list has; no program that was accepted
  -- awaits one outside a region
  abbrev pub awaits : List LockName → ℕ → Top → Turned
  awaits [] c h = goes_on_with done h
  awaits (l ∷ ls) c h = stays (Await l c) h

  -- other contents are stored at a place; where there are none nothing is, and no well-typed program comes to it
  abbrev pub copies : Option (Content Value) → Location → Top → Turned
  copies None to h = goes_on_with done h
  copies (Some c) to h = writes to.root (placed to.path c) (answered done h.frame ∷ h.below) h.store

  -- a text is stored at a place, where it fits
  abbrev pub stores_text : Option (List ℕ) → Option (Content Value) → Location → Top → Turned
  stores_text None old to h = stays (Trapped 15 0) h
  stores_text (Some cs) None to h = goes_on_with done h
  stores_text (Some cs) (Some old) to h = writes to.root (placed to.path (with_text cs old)) (answered done h.frame ∷ h.below) h.store

  abbrev pub is_deep : Frame → List Frame → Bool
  is_deep g fs = is_deep_by (λ f. f.counted) g fs

  abbrev pub enters : Bool → Frame → List Frame → Store → Turned
  enters true g fs s = leaves following (Trapped 11 0) fs s
  enters false g fs s = goes_on following (g ∷ fs) s

-- two texts compared
abbrev pub compared : Relation → (left right : Option (Content Value)) → Value
compared r a b = Flag (holds r (order (text_in a) (text_in b)) (pos 0))

-- What a parameter stands for, and what an object tells by what it was made as, is known at once and no visible work: the one stands
-- in the frame's own variables, the other never changes.

abbrev pub known : Content Value → Location → Value
known c s = scalar_in (found s.path c)

-- of an object that isn't there some value is known, and no well-typed program comes to it
abbrev pub type_in : Option Made → ℕ
type_in None = 0
type_in (Some m) = m.type

abbrev pub length_in : ℕ → Option Made → Value
length_in d None = Int (pos 0)
length_in d (Some m) = Int (pos (unwrap_or (slice_get m.lengths d) 0))

abbrev pub object_place : ℕ → Option Made → Value
object_place o m = Place (record { root = ObjectRoot o; path = []; type = type_in m; of = OnHeap })

-- with a table of types, what objects were made as, and a frame's variables: what is left of a tree behind such questions, and what
-- they were answered
module _ (rows : List TypeRow) (made : ℕ → Option Made) (c : Content Value) where
  abbrev pub has_type_in : ℕ → Option Made → Value
  has_type_in t m = Flag (comes_to rows (id_of_made (type_in m)) (id_of_made t))

  abbrev pub calm : {A : Type 0} → Doing A → Doing A
  calm (Val a) = Val a
  calm (Traps n code) = Traps n code
  calm (Asks (Places s) k) = calm (k (known c s))
  calm (Asks (Lengths s) k) = calm (k (known c s))
  calm (Asks (Opens v) k) = calm (k (object_place (object_in v) (made (object_in v))))
  calm (Asks (Sizes v d) k) = calm (k (length_in d (made (object_in v))))
  calm (Asks (Tests v t) k) = calm (k (has_type_in t (made (object_in v))))
  calm (Asks q k) = Asks q k

  abbrev pub noted : {A : Type 0} → Doing A → List Value
  noted (Val a) = []
  noted (Traps n code) = []
  noted (Asks (Places s) k) = known c s ∷ noted (k (known c s))
  noted (Asks (Lengths s) k) = known c s ∷ noted (k (known c s))
  noted (Asks (Opens v) k) = let x = object_place (object_in v) (made (object_in v)) in x ∷ noted (k x)
  noted (Asks (Sizes v d) k) = let x = length_in d (made (object_in v)) in x ∷ noted (k x)
  noted (Asks (Tests v t) k) = let x = has_type_in t (made (object_in v)) in x ∷ noted (k x)
  noted (Asks q k) = []

-- Verdicts.

-- with the variables of an activity's frames and of the store too, while nothing changes
module _ (rows : List TypeRow) (made : ℕ → Option Made) (c : Content Value) (x : Rooted (Content Value)) where
  -- what a question is answered that changes nothing
  abbrev pub seen_answer : Question → Option Value
  seen_answer (Reads t q) = Some (value_at q x)
  seen_answer (ComparesTexts r a n b m) = Some (compared r (read a.root a.path x) (read b.root b.path x))
  seen_answer (Places s) = Some (known c s)
  seen_answer (Lengths s) = Some (known c s)
  seen_answer (Opens v) = Some (object_place (object_in v) (made (object_in v)))
  seen_answer (Sizes v d) = Some (length_in d (made (object_in v)))
  seen_answer (Tests v t) = Some (has_type_in rows made c t (made (object_in v)))
  seen_answer q = None

  -- what a condition comes to that is evaluated to its end; it fails where it asks for more, and no condition of a well-typed program
  -- does
  abbrev pub judged : Doing Value → Verdict
  judged (Val v) = if is_true v then Holds else Fails
  judged (Traps n code) = TrapsWith n
  judged (Asks q k) = unwrap_or (option_map (λ v. judged (k v)) (seen_answer q)) Fails

-- the object that a method is called on comes before its arguments
abbrev pub self_of : (has_self : Bool) → List Value → ℕ
self_of true vs = object_in (head vs)
self_of false vs = 0

abbrev pub arguments_in : (has_self : Bool) → List Value → List Value
arguments_in true vs = drop 1 vs
arguments_in false vs = vs

-- and the program, which knows what is copied and called
module _ (p : Program) (following : List ℕ) where
  abbrev pub local_part : TypedVariable → Part
  local_part v =
      let s = variable_shape p.types (id_of v.of) in record { content = first_content (first_value p) s; shape = s }

  -- the frame of a call, above these; a method is called on its first argument
  abbrev pub called_frame : Routine → List Value → List Frame → Store → Frame
  called_frame r vs fs s =
      let locals = map local_part (locals_of r.own) in
      let copy = length (parameters_of r.own) + length locals in
      let h = handed p.types (length fs) (all_rooted fs s) (parameters_of r.own) (arguments_in (has_self r.own) vs) copy in
      let parts = h.parameters ++ (locals ++ h.copies) in
      let all = shape.row (map (λ x. x.shape) parts) in
      record {
        home = r.home;
        object = self_of (has_self r.own) vs;
        gives = gives r.own;
        shape = all;
        counted = size all;
        variables = row_of (map (λ x. x.content) parts);
        at = None;
        items = body_items r.body;
        answers = None;
      }

  -- a procedure that isn't there isn't called, and no well-typed program comes to it
  abbrev pub calls : Option Routine → List Value → Top → Turned
  calls None vs h = goes_on_with following done h
  calls (Some r) vs h =
      let fs = h.frame ∷ h.below in
      let g = called_frame r vs fs h.store in enters following (is_deep following g fs) g fs h.store

  -- none of the lengths of an open array is below 1
  abbrev pub makes_with : Option (List ℕ) → ℕ → Top → Turned
  makes_with None t h = stays following (Trapped 15 0) h
  makes_with (Some ns) t h =
      let m : Made = record { type = t; lengths = ns } in
      let c = first_content (first_value p) (made_shape p.types m) in makes following (has_room m c h.store) m c h

  -- a question is answered
  abbrev pub answer : Question → Top → Turned
  answer (Reads t q) h = goes_on_with following (value_at q (roots h)) h
  answer (Stores q v) h = writes following q.root (placed q.path (Scalar v)) (answered done h.frame ∷ h.below) h.store
  answer (Makes t vs) h = makes_with (array_lengths (map number_of vs)) t h
  answer (Starts v) h = starts following v h
  answer (PutsInt v n) h = prints following (written v n) h
  answer (PutsChar v) h = puts following (unsigned_abs (number_of v) ∷ []) (answered done h.frame ∷ h.below) h.store
  answer PutsNothing h = puts following [] (answered done h.frame ∷ h.below) h.store
  answer PutsLn h = puts following (10 ∷ []) (answered done h.frame ∷ h.below) h.store
  answer (Copies t from to) h =
      let x = roots h in
      copies following (copied (variable_shape p.types (id_of t)) (read from.root from.path x) (read to.root to.path x)) to h
  answer (PutsText strict from n to room) h =
      let x = roots h in
      let text = fitted strict (unsigned_abs (number_of room)) (text_in (read from.root from.path x)) in
      stores_text following text (read to.root to.path x) to h
  answer (ComparesTexts r a n b m) h =
      let x = roots h in
      goes_on_with following (compared r (read a.root a.path x) (read b.root b.path x)) h
  answer (Calls how q vs) h = calls (by_number q (routines p)) vs h
  answer (PutsString a n) h = puts following (text_in (read a.root a.path (roots h))) (answered done h.frame ∷ h.below) h.store
  answer (Awaits c) h = awaits following (locks_in (lock_of h.frame) h.frame.items) c h
  -- known at once, before a turn comes here
  answer (Places a) h = goes_on_with following done h
  answer (Lengths a) h = goes_on_with following done h
  answer (Opens v) h = goes_on_with following done h
  answer (Sizes v d) h = goes_on_with following done h
  answer (Tests v t) h = goes_on_with following done h
  -- asked by no statement: items end a frame, and enter and end its regions
  answer (Ends result) h = goes_on_with following done h
  answer Enters h = goes_on_with following done h
  answer Leaves h = goes_on_with following done h

  -- the first of these items goes on without a beginning: what follows where its value is TRUE, and where it's FALSE
  abbrev pub tests : Doing Value → (if_true if_false : Turned) → Top → Turned
  tests (Val v) if_true if_false h = if is_true v then if_true else if_false
  tests (Asks q k) if_true if_false h = answer q h
  tests (Traps n c) if_true if_false h = stays following (Trapped n c) h

  -- the end of a body, which a function doesn't come to
  abbrev pub finishes : Bool → Top → Turned
  finishes true h = stays following (Trapped 10 0) h
  finishes false h = ends following None h.below h.store

  -- the first of these items leaves work to the kernel, without a beginning
  abbrev pub asks_for : Did → List Item → Top → Turned
  asks_for work is h = leaves following work (record h.frame { items = is; answers = None } ∷ h.below) h.store

  -- the next item begins, or the frame ends where there is none; the condition behind a REPEAT's statements is no beginning, nor is the
  -- entry of a region or its end
  abbrev pub settles : List Item → Top → Turned
  settles [] h = finishes h.frame.gives h
  settles (Do st ∷ is) h = begins following (pos_of st) (Do st ∷ is) h
  settles (Rounds at w p last step b ∷ is) h = begins following at (Rounds at w p last step b ∷ is) h
  settles (Round st ∷ is) h = begins following (pos_of st) (Do st ∷ is) h
  settles (Until at b e ∷ is) h =
      let test = value_of p (here_of h.frame h.below) e in
      tests (calm p.types (made_in h.store) h.frame.variables test) (settles is h) (begins following at (Do (Repeat at b e) ∷ is) h)
      (record h { frame = record h.frame { items = Until at b e ∷ is; answers = Some (noted p.types (made_in h.store) h.frame.variables test) } })
  settles (Region ss ∷ is) h = asks_for (Enter (lock_of h.frame)) (Region ss ∷ is) h
  settles (End ∷ is) h = asks_for (Leave (lock_of h.frame)) (End ∷ is) h
  settles (Gives r ∷ is) h = ends following r h.below h.store

  abbrev pub goes : Doing After → List Item → Top → Turned
  goes (Val (Into is)) rest h = settles (is ++ rest) h
  goes (Val Exits) rest h = settles (leave rest) h
  goes (Val (Returns r)) rest h = settles (leave_all r rest) h
  goes (Asks q k) rest h = answer q h
  goes (Traps n c) rest h = stays following (Trapped n c) h

  -- the first item goes on from the answers that it has had
  abbrev pub item_turn : Option (List Value) → List Item → Top → Turned
  item_turn None is h = settles is h
  item_turn (Some vs) [] h = ends following None h.below h.store
  item_turn (Some vs) (i ∷ is) h =
      let left = feed vs (item_of p (here_of h.frame h.below) i) in
      goes (calm p.types (made_in h.store) h.frame.variables left) is
      (record h { frame = record h.frame { answers = Some (vs ++ noted p.types (made_in h.store) h.frame.variables left) } })

  abbrev pub turn_at : List Frame → Store → Turned
  turn_at [] s = leaves following Ended [] s
  turn_at (f ∷ fs) s = item_turn f.answers f.items (top f fs s)

-- the frame of a body, which has no variables: of this module, and on this object
abbrev pub body_frame : (home object : ℕ) → Body → Frame
body_frame home o b =
    record {
      home = home;
      object = o;
      gives = false;
      shape = Nothing;
      counted = 0;
      variables = Empty;
      at = None;
      items = body_items b;
      answers = None;
    }

abbrev pub position_or : Where → List Frame → Where
position_or none fs = position_by (λ f. f.at) (λ f. f.home) none fs

abbrev pub lowest_home : ℕ → List Frame → ℕ
lowest_home home fs = lowest_home_by (λ f. f.home) home fs

abbrev pub position_in : List Frame → Where
position_in fs = position_in_by (λ f. f.at) (λ f. f.home) fs

-- Past the work that was left to the kernel: the latest question of the first item, where it has begun; or else the entry of a region,
-- whose mark then stands behind its statements, or its end, with which the mark is gone.

abbrev pub goes_into : List Item → Frame → Frame
goes_into [] f = f
goes_into (Region ss ∷ is) f = record f { items = items_of ss ++ End ∷ is }
goes_into (End ∷ is) f = record f { items = is }
goes_into (Do st ∷ is) f = f
goes_into (Rounds at w p last step b ∷ is) f = f
goes_into (Round st ∷ is) f = f
goes_into (Until at b e ∷ is) f = f
goes_into (Gives r ∷ is) f = f

abbrev pub past_by : Option (List Value) → Frame → Frame
past_by None f = goes_into f.items f
past_by (Some vs) f = record f { answers = Some (vs ++ done ∷ []) }

abbrev pub past_all : List Frame → List Frame
past_all [] = []
past_all (f ∷ fs) = past_by f.answers f ∷ fs

-- of all frames
abbrev pub regions_of : List Frame → List LockName
regions_of [] = []
regions_of (f ∷ fs) = locks_in (lock_of f) f.items ++ regions_of fs

-- with which the body begins that an object has, which is that of a type
abbrev pub object_frames : ℕ → Option ObjectType → Frames
object_frames o None = record { following = []; frames = [] }
object_frames o (Some t) = record { following = []; frames = body_frame t.home o t.body.body ∷ [] }

module _ (p : Program) where
  -- what a module's variables hold: a row of them, behind which its string constants stand
  abbrev pub module_shape : Module → Shape Sort
  module_shape m = shape.row (map (λ v. variable_shape p.types (id_of v.of)) m.variables ++ map text_shape m.texts)

  abbrev pub first_variable : TypedVariable → Content Value
  first_variable v = first_content (first_value p) (variable_shape p.types (id_of v.of))

  abbrev pub first_module : Module → Content Value
  first_module m = row_of (map first_variable m.variables ++ map text_content m.texts)

  abbrev pub first_store : Store
  first_store = record { modules = map first_module p.modules; objects = []; made = [] }

  -- where no frame is left the next module's body begins
  abbrev pub next_body : ℕ → List ℕ → Option Module → Frames
  next_body m ms None = record { following = ms; frames = [] }
  next_body m ms (Some x) = record { following = ms; frames = body_frame m 0 x.body ∷ [] }

  abbrev pub opened_by : List Frame → List ℕ → Frames
  opened_by [] [] = record { following = []; frames = [] }
  opened_by [] (m ∷ ms) = next_body m ms (slice_get p.modules m)
  opened_by (f ∷ fs) ms = record { following = ms; frames = f ∷ fs }

  abbrev pub opened : Frames → Frames
  opened fs = opened_by fs.frames fs.following

  -- all silent work up to and with the next visible work
  abbrev pub turn : Store → Frames → Turned
  turn s fs = let now = opened fs in turn_at p now.following now.frames s

  -- past the work that was left to the kernel
  abbrev pub past : Frames → Frames
  past fs = let now = opened fs in record now { frames = past_all now.frames }

  -- the type whose body the objects have that are made of a type, by its number from 1
  abbrev pub made_body : (type : ℕ) → Option ℕ
  made_body zero = None
  made_body (suc t) = body_type p t

  -- the frames with which an object's activity begins
  abbrev pub body_of : Store → ℕ → Frames
  body_of s o = object_frames o (option_and_then (λ t. slice_get p.objects t) (option_and_then made_body (type_of_object o s)))

  -- and the activity's priority
  abbrev pub priority_of : Store → ℕ → Priority
  priority_of s o = priority_by p (option_and_then made_body (type_of_object o s))

  -- the verdict of a condition over an activity's topmost frame; it fails where there is none, and where no frame is left
  abbrev pub verdict_over : Option Condition → List Frame → Store → Verdict
  verdict_over None fs s = Fails
  verdict_over (Some c) [] s = Fails
  verdict_over (Some c) (f ∷ fs) s =
      judged p.types (made_in s) f.variables (all_rooted (f ∷ fs) s) (value_of p (here_of f fs) c.expression)

  abbrev pub verdict : Store → Frames → ℕ → Verdict
  verdict s fs c = verdict_over (slice_get (conditions p) c) fs.frames s

  -- a program as a machine under the kernel
  abbrev pub source : Machine Store Frames
  source =
      record {
        turn = turn;
        past = past;
        verdict = verdict;
        regions = λ fs. regions_of fs.frames;
        position = λ fs. position_in (opened fs).frames;
        body = body_of;
        priority = λ s o. priority_number (priority_of s o);
        anew = λ fs. None;
      }

  -- activity 0 runs the bodies of the modules, in load order
  abbrev pub first_frames : Frames
  first_frames = record { following = range_with_len 0 (length p.modules); frames = [] }

  abbrev pub first_state : ℕ → State Store Frames
  first_state budget = start_of first_store first_frames budget
