-- A turn of the source makes objects, and those that there are stay as they were made.
use Rattle.aos_base.specs.declared.kernel.LockName.{LockName}
use Rattle.std.proofs.Common.{◌≡◌, ℕ, zero, suc, List, [], ◌∷◌, ◌++◌, map, Bool, true, false, Option, Some, None, if◌then◌else◌, refl, sym, append-nil}
use Rattle.std.specs.Prelude.{unsigned_abs}
use Rattle.aos_base.specs.declared.root.Root.{Root}
use Rattle.aos_base.specs.declared.root.Root.TheVariants.{Frame as FrameRoot, Module as ModuleRoot, Object as ObjectRoot}
use Rattle.aos_base.specs.Rooted.{Made, by_number}
use Rattle.aos_base.specs.Question.{Val, Asks, Traps, feed, Reads, Stores, Copies, PutsText, ComparesTexts, Calls, Ends, Makes, Starts, Enters, Leaves, Awaits, PutsInt, PutsChar, PutsString, PutsLn, PutsNothing, Places, Lengths, Opens, Sizes, Tests}
use Rattle.aos_base.specs.Number.{array_lengths}
use Rattle.aos_types.specs.Content.{Content, Scalar, placed, first_content}
use Rattle.aos_types.specs.World.{read}
use Rattle.aos_typed.specs.Program.{Repeat, Program}
use Rattle.aos_typed.specs.Numbers.{id_of}
use Rattle.aos_typed.specs.Routines.{Routine, routines}
use Rattle.aos_typed.specs.Sort.{variable_shape}
use Rattle.aos_typed.specs.Location.{Location}
use Rattle.aos_typed.specs.Text.{text_in, with_text, fitted}
use Rattle.aos_typed.specs.Value.{Value, Int, Flag, Char, Set, Object, Callable, Place, number_of, is_true}
use Rattle.aos_typed.specs.Store.{Store, store_with, has_room, made_in}
use Rattle.aos_typed.specs.Meaning.{Question, Doing, Item, Do, Rounds, Round, Until, Region, End, Gives, After, Into, Returns, Exits, leave, leave_all, item_of, value_of}
use Rattle.aos_typed.specs.Source.{Top, top, copied, here_of, Frame, Turned, all_rooted, begins, ends, tests, finishes, settles, first_value, made_shape, written, prints, makes, makes_with, starts, copies, stores_text, calm, noted, is_deep, enters, called_frame, calls, answer, goes, item_turn, turn_at, awaits, locks_in, lock_of}

-- more objects than before
abbrev pub Grown : List Made → List Made → Type 0
Grown made made' = (more : List Made) × (made' ≡ made ++ more)

none : (made : List Made) → Grown made made
none made = ([], sym (append-nil made))

module _ (following : List ℕ) where
  ends_grown : (result : Option Value) (fs : List Frame) (s : Store) → Grown s.made (ends following result fs s).store.made
  ends_grown None fs s = none s.made
  ends_grown (Some v) fs s = none s.made

  writes_grown : (r : Root) (g : Content Value → Content Value) (s : Store) → Grown s.made (store_with r g s).made
  writes_grown (FrameRoot d) g s = none s.made
  writes_grown (ModuleRoot m) g s = none s.made
  writes_grown (ObjectRoot o) g s = none s.made

  prints_grown : (bytes : Option (List ℕ)) (f : Frame) (fs : List Frame) (s : Store) → Grown s.made (prints following bytes (top f fs s)).store.made
  prints_grown None f fs s = none s.made
  prints_grown (Some bytes) f fs s = none s.made

  makes_grown : (room : Bool) (m : Made) (c : Content Value) (f : Frame) (fs : List Frame) (s : Store) → Grown s.made (makes following room m c (top f fs s)).store.made
  makes_grown true m c f fs s = (m ∷ [], refl)
  makes_grown false m c f fs s = none s.made

  starts_grown : (v : Value) (f : Frame) (fs : List Frame) (s : Store) → Grown s.made (starts following v (top f fs s)).store.made
  starts_grown (Object zero) f fs s = none s.made
  starts_grown (Object (suc k)) f fs s = none s.made
  starts_grown (Int z) f fs s = none s.made
  starts_grown (Flag b) f fs s = none s.made
  starts_grown (Char c) f fs s = none s.made
  starts_grown (Set x) f fs s = none s.made
  starts_grown (Callable p o) f fs s = none s.made
  starts_grown (Place p) f fs s = none s.made

  awaits_grown : (locks : List LockName) (c : ℕ) (f : Frame) (fs : List Frame) (s : Store) → Grown s.made (awaits following locks c (top f fs s)).store.made
  awaits_grown [] c f fs s = none s.made
  awaits_grown (l ∷ locks) c f fs s = none s.made

  copies_grown : (c : Option (Content Value)) (p : Location) (h : Top) → Grown h.store.made (copies following c p h).store.made
  copies_grown None p h = none h.store.made
  copies_grown (Some c) p h = writes_grown p.root (placed p.path c) h.store

  stores_text_grown : (text : Option (List ℕ)) (old : Option (Content Value)) (p : Location) (f : Frame) (fs : List Frame) (s : Store) → Grown s.made (stores_text following text old p (top f fs s)).store.made
  stores_text_grown None old p f fs s = none s.made
  stores_text_grown (Some cs) None p f fs s = none s.made
  stores_text_grown (Some cs) (Some old) p f fs s = writes_grown p.root (placed p.path (with_text cs old)) s

  enters_grown : (deep : Bool) (g : Frame) (fs : List Frame) (s : Store) → Grown s.made (enters following deep g fs s).store.made
  enters_grown true g fs s = none s.made
  enters_grown false g fs s = none s.made

module _ (program : Program) (following : List ℕ) where
  calls_grown : (r : Option Routine) (vs : List Value) (f : Frame) (fs : List Frame) (s : Store) → Grown s.made (calls program following r vs (top f fs s)).store.made
  calls_grown None vs f fs s = none s.made
  calls_grown (Some r) vs f fs s =
      let g = called_frame program following r vs (f ∷ fs) s in enters_grown following (is_deep following g (f ∷ fs)) g (f ∷ fs) s

  makes_with_grown : (ns : Option (List ℕ)) (t : ℕ) (f : Frame) (fs : List Frame) (s : Store) → Grown s.made (makes_with program following ns t (top f fs s)).store.made
  makes_with_grown None t f fs s = none s.made
  makes_with_grown (Some ns) t f fs s =
      let m : Made = record { type = t; lengths = ns } in
      let c = first_content (first_value program) (made_shape program.types m) in makes_grown following (has_room m c s) m c f fs s

  answer_grown : (q : Question) (f : Frame) (fs : List Frame) (s : Store) → Grown s.made (answer program following q (top f fs s)).store.made
  answer_grown (Stores p v) f fs s = writes_grown following p.root (placed p.path (Scalar v)) s
  answer_grown (Ends result) f fs s = none s.made
  answer_grown (Makes t vs) f fs s = makes_with_grown (array_lengths (map number_of vs)) t f fs s
  answer_grown (Starts v) f fs s = starts_grown following v f fs s
  answer_grown Enters f fs s = none s.made
  answer_grown Leaves f fs s = none s.made
  answer_grown (Awaits c) f fs s = awaits_grown following (locks_in (lock_of f) f.items) c f fs s
  answer_grown (PutsInt v n) f fs s = prints_grown following (written v n) f fs s
  answer_grown (Reads t p) f fs s = none s.made
  answer_grown (PutsChar v) f fs s = none s.made
  answer_grown PutsNothing f fs s = none s.made
  answer_grown PutsLn f fs s = none s.made
  answer_grown (Copies t from to) f fs s =
      let x = all_rooted (f ∷ fs) s in
      copies_grown following (copied (variable_shape program.types (id_of t)) (read from.root from.path x) (read to.root to.path x)) to (top f fs s)
  answer_grown (PutsText strict from n to room) f fs s =
      let x = all_rooted (f ∷ fs) s in
      let text = fitted strict (unsigned_abs (number_of room)) (text_in (read from.root from.path x)) in
      stores_text_grown following text (read to.root to.path x) to f fs s
  answer_grown (ComparesTexts r a n b m) f fs s = none s.made
  answer_grown (Calls how q vs) f fs s = calls_grown (by_number q (routines program)) vs f fs s
  answer_grown (PutsString a n) f fs s = none s.made
  answer_grown (Places a) f fs s = none s.made
  answer_grown (Lengths a) f fs s = none s.made
  answer_grown (Opens v) f fs s = none s.made
  answer_grown (Sizes v d) f fs s = none s.made
  answer_grown (Tests v t) f fs s = none s.made

  tests_grown : (d : Doing Value) (if_true if_false : Turned) (f : Frame) (fs : List Frame) (s : Store) → Grown s.made if_true.store.made → Grown s.made if_false.store.made → Grown s.made (tests program following d if_true if_false (top f fs s)).store.made
  tests_grown (Val v) if_true if_false f fs s h k = by (is_true v)
    where
      by : (b : Bool) → Grown s.made (if b then if_true else if_false).store.made
      by true = h
      by false = k
  tests_grown (Asks q g) if_true if_false f fs s h k = answer_grown q f fs s
  tests_grown (Traps n c) if_true if_false f fs s h k = none s.made

  finishes_grown : (gives : Bool) (f : Frame) (fs : List Frame) (s : Store) → Grown s.made (finishes program following gives (top f fs s)).store.made
  finishes_grown true f fs s = none s.made
  finishes_grown false f fs s = none s.made

  settles_grown : (is : List Item) (f : Frame) (fs : List Frame) (s : Store) → Grown s.made (settles program following is (top f fs s)).store.made
  settles_grown [] f fs s = finishes_grown f.gives f fs s
  settles_grown (Do st ∷ is) f fs s = none s.made
  settles_grown (Rounds at w p last step b ∷ is) f fs s = none s.made
  settles_grown (Round st ∷ is) f fs s = none s.made
  settles_grown (Until at b e ∷ is) f fs s =
      let test = value_of program (here_of f fs) e in
      tests_grown (calm program.types (made_in s) f.variables test) (settles program following is (top f fs s)) (begins following at (Do (Repeat at b e) ∷ is) (top f fs s))
      (record f { items = Until at b e ∷ is; answers = Some (noted program.types (made_in s) f.variables test) }) fs s (settles_grown is f fs s) (none s.made)
  settles_grown (Region ss ∷ is) f fs s = none s.made
  settles_grown (End ∷ is) f fs s = none s.made
  settles_grown (Gives r ∷ is) f fs s = ends_grown following r fs s

  goes_grown : (d : Doing After) (rest : List Item) (f : Frame) (fs : List Frame) (s : Store) → Grown s.made (goes program following d rest (top f fs s)).store.made
  goes_grown (Val (Into is)) rest f fs s = settles_grown (is ++ rest) f fs s
  goes_grown (Val Exits) rest f fs s = settles_grown (leave rest) f fs s
  goes_grown (Val (Returns r)) rest f fs s = settles_grown (leave_all r rest) f fs s
  goes_grown (Asks q k) rest f fs s = answer_grown q f fs s
  goes_grown (Traps n c) rest f fs s = none s.made

  item_grown : (answers : Option (List Value)) (is : List Item) (f : Frame) (fs : List Frame) (s : Store) → Grown s.made (item_turn program following answers is (top f fs s)).store.made
  item_grown None is f fs s = settles_grown is f fs s
  item_grown (Some vs) [] f fs s = none s.made
  item_grown (Some vs) (i ∷ is) f fs s =
      let left = feed vs (item_of program (here_of f fs) i) in
      goes_grown (calm program.types (made_in s) f.variables left) is (record f { answers = Some (vs ++ noted program.types (made_in s) f.variables left) }) fs s

  pub turn_grown : (fs : List Frame) (s : Store) → Grown s.made (turn_at program following fs s).store.made
  turn_grown [] s = none s.made
  turn_grown (f ∷ fs) s = item_grown f.answers f.items f fs s
