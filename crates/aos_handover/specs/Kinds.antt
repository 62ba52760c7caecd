-- What a turn of an activity does to the store and to its frames, what it writes out and what it leaves to the kernel: nine kinds, by which
-- what every turn keeps is shown.
use Rattle.std.specs.Prelude.{◌≡◌, ◌⊎◌, ℕ, suc, List, [], ◌∷◌, ◌++◌, Bool, true, false, Option, Some, None, map, unsigned_abs}
use Rattle.aos_base.specs.declared.kernel.Did.{Did}
use Rattle.aos_base.specs.declared.kernel.Did.TheVariants.{Went, Enter, Leave, Start, Await, Trapped}
use Rattle.aos_base.specs.declared.kernel.LockName.{LockName}
use Rattle.aos_base.specs.declared.root.Root.{Root}
use Rattle.aos_base.specs.declared.text.Pos.{Pos}
use Rattle.aos_base.specs.Number.{array_lengths}
use Rattle.aos_base.specs.Question.{Val, Asks, feed, Manner, Reads, Stores, Copies, PutsText, ComparesTexts, Calls, Makes, Starts, Awaits, PutsInt, PutsChar, PutsString, PutsLn, PutsNothing, Places, Lengths, Opens, Sizes, Tests}
use Rattle.aos_base.specs.Rooted.{Made, Rooted, by_number}
use Rattle.aos_types.specs.Content.{Content, Scalar, overlay, placed, first_content}
use Rattle.aos_types.specs.World.{read}
use Rattle.aos_typed.specs.Numbers.{id_of}
use Rattle.aos_typed.specs.Program.{Program, Expr, Stat, Stats, Repeat}
use Rattle.aos_typed.specs.Routines.{Routine, routines}
use Rattle.aos_typed.specs.Sort.{variable_shape}
use Rattle.aos_typed.specs.Location.{Location}
use Rattle.aos_typed.specs.Text.{fitted, text_in, with_text}
use Rattle.aos_typed.specs.declared.tree.TType.{TType}
use Rattle.aos_typed.specs.Value.{Value, Object, number_of, is_true}
use Rattle.aos_typed.specs.Store.{Store, has_room, new_number, with_object, store_with, made_in, value_at}
use Rattle.aos_typed.specs.Meaning.{Question, Doing, Item, Do, Round, Until, Region, End, Gives as GivesItem, After, Into, Exits, Returns, leave, leave_all, item_of, value_of}
use Rattle.aos_typed.specs.Source.{Frame, Turned, here_of, lock_of, locks_in, all_rooted, all_frames, written, answered, done, compared, calm, noted, frames_with, with_result, called_frame, is_deep, first_value, made_shape}

-- what follows these items behind what the first of them comes to
abbrev pub follow : After → List Item → List Item
follow (Into js) is = js ++ is
follow Exits is = leave is
follow (Returns r) is = leave_all r is

-- the same frame, but for the statement last begun, what remains, and the answers that the first item has had
pub record IsSameFrame (f g : Frame) : Type 0 where
  pub is : g ≡ record f { at = g.at; items = g.items; answers = g.answers }

-- what a frame leaves to the kernel that comes to these items: the entry of a region or its end, and nothing where a statement begins
abbrev pub settled_work : LockName → List Item → Did
settled_work l (Region ss ∷ is) = Enter l
settled_work l (End ∷ is) = Leave l
settled_work l is = Went

-- none of its questions has been answered
abbrev pub HasNotAsked : Frame → Type 0
HasNotAsked g = (g.answers ≡ None) ⊎ (g.answers ≡ Some [])

-- a question is left to the kernel as this work: the start of an object's activity, or a condition in an open region
abbrev pub IsLeftAs : Frame → Question → Did → Type 0
IsLeftAs f (Starts v) work = (k : ℕ) × (v ≡ Object (suc k)) × (work ≡ Start (suc k))
IsLeftAs f (Awaits c) work = (l : LockName) × (ls : List LockName) × (locks_in (lock_of f) f.items ≡ l ∷ ls) × (work ≡ Await l c)
IsLeftAs f q work = ⊥

-- what a question asks to be written out, where the variables below the roots are these
abbrev pub written_by : Rooted (Content Value) → Question → Option (List ℕ)
written_by x (PutsInt v n) = written v n
written_by x (PutsChar v) = Some (unsigned_abs (number_of v) ∷ [])
written_by x (PutsString a n) = Some (text_in (read a.root a.path x))
written_by x PutsLn = Some (10 ∷ [])
written_by x PutsNothing = Some []
written_by x q = None

-- what a question is answered that changes nothing, where the variables below the roots are these
abbrev pub told_as : Rooted (Content Value) → Question → Value
told_as x (Reads t a) = value_at a x
told_as x (ComparesTexts r a n b m) = compared r (read a.root a.path x) (read b.root b.path x)
told_as x q = done

-- a question asks for no object, and isn't answered at once
abbrev pub MakesNone : Question → Type 0
MakesNone (Makes t vs) = ⊥
MakesNone (Places a) = ⊥
MakesNone (Lengths a) = ⊥
MakesNone (Opens v) = ⊥
MakesNone (Sizes v d) = ⊥
MakesNone (Tests v t) = ⊥
MakesNone q = Unit {0}

-- the answer for the frame below that a result is
abbrev pub answer_in : Option Value → Value
answer_in None = done
answer_in (Some v) = v

module _ (p : Program) where
  -- what a question calls isn't there
  abbrev pub CallsNone : Question → Type 0
  CallsNone (Calls how n vs) = by_number n (routines p) ≡ None
  CallsNone q = Unit {0}

  -- the first of a frame's items, from the answers that it has had, has come so far
  pub record HasCome (f : Frame) (fs : List Frame) (left : Doing After) : Type 0 where
    pub item : Item
    pub rest : List Item
    pub items : f.items ≡ item ∷ rest
    pub answers : List Value
    pub begun : f.answers ≡ Some answers
    pub is : feed answers (item_of p (here_of f fs) item) ≡ left

  -- the first of a frame's items asks for this next
  abbrev pub IsAsking : Frame → List Frame → Question → Type 0
  IsAsking f fs q = (next : Value → Doing After) × HasCome f fs (Asks q next)

  -- what the first item of a frame has been answered, where it has had these answers, with those of questions that are answered at once
  abbrev pub so_far : Store → Frame → List Frame → Item → List Value → List Value
  so_far s f fs i vs = vs ++ noted p.types (made_in s) f.variables (feed vs (item_of p (here_of f fs) i))

  -- Where the items come from that are next: they stood in the frame that had begun none, or follow what its first one has come to; and those may be told by
  -- the first one alone, where it is a LOOP's next round or what is behind a REPEAT's statements.
  pub data IsNext (s : Store) (f : Frame) (fs : List Frame) : List Item → Type 0 where
    Stood : f.answers ≡ None → IsNext s f fs f.items
    Followed : (i : Item) (is : List Item) (vs : List Value) (after : After) → f.items ≡ i ∷ is → f.answers ≡ Some vs
        → feed (so_far s f fs i vs) (item_of p (here_of f fs) i) ≡ Val after → IsNext s f fs (follow after is)
    AnotherRound : (st : Stat) (is : List Item) → IsNext s f fs (Round st ∷ is) → IsNext s f fs (Do st ∷ is)
    Repeated : (at : Pos) (b : Stats) (e : Expr) (is : List Item) (v : Value) → IsNext s f fs (Until at b e ∷ is)
        → calm p.types (made_in s) f.variables (value_of p (here_of f fs) e) ≡ Val v → is_true v ≡ false → IsNext s f fs (Do (Repeat at b e) ∷ is)
    Behind : (at : Pos) (b : Stats) (e : Expr) (is : List Item) (v : Value) → IsNext s f fs (Until at b e ∷ is)
        → calm p.types (made_in s) f.variables (value_of p (here_of f fs) e) ≡ Val v → is_true v ≡ true → IsNext s f fs is

  -- The items then, and the answers that the first of them has had: they are next, and it hasn't begun or begins, or it is the condition behind
  -- a REPEAT's statements, which has had those of questions that are answered at once; or they stay, and the first one goes on with such answers.
  pub data HasHad (s : Store) (f : Frame) (fs : List Frame) : List Item → Option (List Value) → Type 0 where
    Rests : (is : List Item) → IsNext s f fs is → HasHad s f fs is None
    Begins : (i : Item) (is : List Item) → IsNext s f fs (i ∷ is) → HasHad s f fs (i ∷ is) (Some [])
    GoesOn : (i : Item) (is : List Item) (vs : List Value) → f.items ≡ i ∷ is → f.answers ≡ Some vs
        → HasHad s f fs (i ∷ is) (Some (so_far s f fs i vs))
    Tested : (at : Pos) (b : Stats) (e : Expr) (is : List Item) → IsNext s f fs (Until at b e ∷ is)
        → HasHad s f fs (Until at b e ∷ is) (Some (noted p.types (made_in s) f.variables (value_of p (here_of f fs) e)))

  -- the frame with these items next, of which the first may have had answers of questions that are answered at once
  pub record Stands (s : Store) (f : Frame) (fs : List Frame) (g : Frame) : Type 0 where
    pub same : IsSameFrame f g
    pub had : HasHad s f fs g.items g.answers

  -- the frame ends with this result: at the end of its text, or where a result is next
  pub data IsLeft (s : Store) (f : Frame) (fs : List Frame) : Option Value → Type 0 where
    AtEnd : IsNext s f fs [] → f.gives ≡ false → IsLeft s f fs None
    AtResult : (r : Option Value) (is : List Item) → IsNext s f fs (GivesItem r ∷ is) → IsLeft s f fs r
    Nowhere : (vs : List Value) → f.answers ≡ Some vs → f.items ≡ [] → IsLeft s f fs None

  -- what a question stores below a root, where the variables below the roots are these: a scalar, a whole, or a text
  pub data IsStored (x : Rooted (Content Value)) : Question → Root → (Content Value → Content Value) → Type 0 where
    OneScalar : (a : Location) (v : Value) → IsStored x (Stores a v) a.root (placed a.path (Scalar v))
    OneWhole : (t : TType) (from to : Location) (new old : Content Value) → read from.root from.path x ≡ Some new → read to.root to.path x ≡ Some old
        → IsStored x (Copies t from to) to.root (placed to.path (overlay (variable_shape p.types (id_of t)) new old))
    OneText : (strict : Bool) (from : Location) (n : Value) (to : Location) (room : Value) (cs : List ℕ) (old : Content Value)
        → fitted strict (unsigned_abs (number_of room)) (text_in (read from.root from.path x)) ≡ Some cs → read to.root to.path x ≡ Some old
        → IsStored x (PutsText strict from n to room) to.root (placed to.path (with_text cs old))

  module _ (following : List ℕ) (s : Store) (f : Frame) (fs : List Frame) where
    -- a turn has come to this store and these frames, with this output, and leaves this work to the kernel
    pub record Gives (t : Turned) (store : Store) (frames : List Frame) (output : List ℕ) (work : Did) : Type 0 where
      pub store_is : t.store ≡ store
      pub frames_are : t.frames ≡ all_frames following frames
      pub output_is : t.output ≡ output
      pub left_is : t.left ≡ work

    -- a turn of the frame f, above fs
    pub data Kind (t : Turned) : Type 0 where
      -- the next item begins, or asks the kernel for the entry of a region or for its end
      Settled : (g : Frame) → Stands s f fs g → HasNotAsked g → Gives t s (g ∷ fs) [] (settled_work (lock_of g) g.items) → Kind t
      -- the turn traps, and the frame stays where it stands
      Stopped : (g : Frame) (number code : ℕ) → Stands s f fs g → Gives t s (g ∷ fs) [] (Trapped number code) → Kind t
      -- the frame stays where it stands, and the question that it asks is left to the kernel
      Left : (g : Frame) (q : Question) (work : Did) → Stands s f fs g → IsAsking g fs q → IsLeftAs g q work → Gives t s (g ∷ fs) [] work → Kind t
      -- the frame ends, and its result is the answer for the one below
      Popped : (r : Option Value) → IsLeft s f fs r → Gives t s (with_result following (answer_in r) fs) [] Went → Kind t
      -- a question is answered that changes nothing: a scalar is read, texts are compared, or what is called isn't there
      Told : (g : Frame) (q : Question) → MakesNone q → CallsNone q → Stands s f fs g → IsAsking g fs q → Gives t s (answered (told_as (all_rooted (g ∷ fs) s) q) g ∷ fs) [] Went → Kind t
      -- what a question asks for is written out
      Written : (g : Frame) (q : Question) (bytes : List ℕ) → Stands s f fs g → IsAsking g fs q → written_by (all_rooted (g ∷ fs) s) q ≡ Some bytes
          → Gives t s (answered done g ∷ fs) bytes Went → Kind t
      -- a scalar is stored, a whole copied or a text put: what stands below a root is changed
      Stored : (g : Frame) (q : Question) (r : Root) (change : Content Value → Content Value) → Stands s f fs g → IsAsking g fs q
          → IsStored (all_rooted (g ∷ fs) s) q r change
          → Gives t (store_with r change s) (frames_with r change (answered done g ∷ fs)) [] Went → Kind t
      -- an object is made, for which there is room
      Created : (g : Frame) (type : ℕ) (vs : List Value) (ns : List ℕ) → Stands s f fs g → IsAsking g fs (Makes type vs)
          → array_lengths (map number_of vs) ≡ Some ns
          → (let m : Made = record { type = type; lengths = ns } in has_room m (first_content (first_value p) (made_shape p.types m)) s ≡ true)
          → (let m : Made = record { type = type; lengths = ns } in
          Gives t (with_object m (first_content (first_value p) (made_shape p.types m)) s) (answered (Object (new_number s)) g ∷ fs) [] Went) → Kind t
      -- a routine is called, where an activity may have one frame more
      Called : (g : Frame) (how : Manner) (n : ℕ) (vs : List Value) (r : Routine) → Stands s f fs g → IsAsking g fs (Calls how n vs)
          → by_number n (routines p) ≡ Some r → is_deep following (called_frame p following r vs (g ∷ fs) s) (g ∷ fs) ≡ false
          → Gives t s (called_frame p following r vs (g ∷ fs) s ∷ g ∷ fs) [] Went → Kind t
