-- A program's machine keeps its regions: a turn leaves them to the kernel, and whoever goes past the entry of one, or its end, is in
-- it, or is no longer.
use Rattle.std.proofs.Common.{◌≡◌, ℕ, zero, suc, ◌<◌, arith, List, [], ◌∷◌, ◌++◌, Bool, true, false, Option, Some, None, refl, sym, ap, ◌∙◌, subst, append_assoc}
use Rattle.std.specs.Prelude.{map, slice_get, option_and_then, length, nat_eq, if◌then◌else◌, unsigned_abs}
use Rattle.std.specs.List.{list_any}
use Rattle.aos_base.specs.declared.kernel.LockName.{LockName}
use Rattle.aos_base.specs.declared.kernel.Did.{Did}
use Rattle.aos_base.specs.declared.kernel.Did.TheVariants.{Went, Ended, Enter, Leave, Await, Start, Trapped}
use Rattle.aos_base.specs.declared.root.Root.{Root}
use Rattle.aos_base.specs.declared.root.Root.TheVariants.{Frame as FrameRoot, Module as ModuleRoot, Object as ObjectRoot}
use Rattle.aos_base.specs.Number.{holds, array_lengths}
use Rattle.aos_base.specs.Rooted.{Made, by_number, change_from_last}
use Rattle.aos_base.specs.Question.{Val, Asks, Traps, bind, feed, Reads, Stores, Copies, PutsText, ComparesTexts, Calls, Ends, Makes, Starts, Enters, Leaves, Awaits, PutsInt, PutsChar, PutsString, PutsLn, PutsNothing, Places, Lengths, Opens, Sizes, Tests}
use Rattle.aos_types.specs.declared.row.TypeRow.{TypeRow}
use Rattle.aos_types.specs.Content.{Content, first_content}
use Rattle.aos_types.specs.World.{read}
use Rattle.aos_typed.specs.declared.tree.TType.TheVariants.{Integer}
use Rattle.aos_typed.specs.Program.{Read, Stat, Assign, Copy, PutText, If, Case, While, Repeat, Loop, Exit, For, Block, Await, Assert, Halt, Change, Perform, Return, New, Make, With, WithRecord, Out, Stats, Nothing, Then, Arms, Otherwise, Arm, Cases, NoElse, Else, OfLabels, Call, Open, Char as CharCall, Int as IntCall, String, Ln, Body, ObjectType, Module, Program}
use Rattle.aos_typed.specs.Numbers.{id_of}
use Rattle.aos_typed.specs.Routines.{Routine, routines}
use Rattle.aos_typed.specs.Sort.{variable_shape}
use Rattle.aos_typed.specs.Location.{Location}
use Rattle.aos_typed.specs.Text.{text_in, fitted}
use Rattle.aos_typed.specs.Value.{Value, Int, Flag, Char, Set, Object, Callable, Place, number_of, is_true}
use Rattle.aos_typed.specs.Store.{Store, has_room, made_in, type_of_object}
use Rattle.aos_typed.specs.Meaning.{Here, Question, Doing, Item, Do, Rounds, Round, Until, Region, End, Gives, After, Into, Exits, Returns, leave, leave_all, items_of, block_items, body_items, is_in, place_of, rows_of, value_of, values_of, arguments_of, called, changed, case_of, arms_of, rounds_of, out_of, stat_of, item_of, initialized, carried_out, until, next_value}
use Rattle.aos_typed.specs.Methods.{body_type, initializer}
use Rattle.aos_typed.specs.Source.{top, copied, awaits, Frame, Frames, Turned, here_of, lock_of, answered, done, all_rooted, frames_with, begins, with_result, ends, prints, makes, starts, copies, stores_text, is_deep, enters, called_frame, calls, makes_with, first_value, made_shape, written, calm, noted, answer, tests, finishes, settles, goes, item_turn, turn_at, body_frame, object_frames, opened, opened_by, next_body, past_by, locks_in, regions_of, made_body, source, turn}
use Rattle.aos_concurrency.proofs.Tables.{lock, is_itself}
use Rattle.aos_concurrency.specs.Regions.{times, Outside, Passes, KeepsFits, KeepsRegions}

-- Marks among items.

-- these items have none
pub items_plain : (l : LockName) (ss : Stats) (rest : List Item) → locks_in l (items_of ss ++ rest) ≡ locks_in l rest
items_plain l Nothing rest = refl
items_plain l (Then s ss) rest = items_plain l ss rest

items_none : (l : LockName) (ss : Stats) → locks_in l (items_of ss) ≡ []
items_none l Nothing = refl
items_none l (Then s ss) = items_none l ss

block_plain : (l : LockName) (exclusive : Bool) (ss : Stats) (rest : List Item) → locks_in l (block_items exclusive ss ++ rest) ≡ locks_in l rest
block_plain l true ss rest = refl
block_plain l false ss rest = items_plain l ss rest

pub body_none : (l : LockName) (b : Body) → locks_in l (body_items b) ≡ []
body_none l b = by b.is_exclusive
  where
    by : (exclusive : Bool) → locks_in l (block_items exclusive b.statements) ≡ []
    by true = refl
    by false = items_none l b.statements

-- an EXIT and a RETURN leave all marks
pub leave_marks : (l : LockName) (is : List Item) → locks_in l (leave is) ≡ locks_in l is
leave_marks l [] = refl
leave_marks l (Do s ∷ is) = leave_marks l is
leave_marks l (Rounds at w p last step b ∷ is) = leave_marks l is
leave_marks l (Round s ∷ is) = refl
leave_marks l (Until at b e ∷ is) = leave_marks l is
leave_marks l (Region ss ∷ is) = leave_marks l is
leave_marks l (End ∷ is) = ap (λ ls. l ∷ ls) (leave_marks l is)
leave_marks l (Gives r ∷ is) = refl

pub leave_all_marks : (l : LockName) (r : Option Value) (is : List Item) → locks_in l (leave_all r is) ≡ locks_in l is
leave_all_marks l r [] = refl
leave_all_marks l r (Do s ∷ is) = leave_all_marks l r is
leave_all_marks l r (Rounds at w p last step b ∷ is) = leave_all_marks l r is
leave_all_marks l r (Round s ∷ is) = leave_all_marks l r is
leave_all_marks l r (Until at b e ∷ is) = leave_all_marks l r is
leave_all_marks l r (Region ss ∷ is) = leave_all_marks l r is
leave_all_marks l r (End ∷ is) = ap (λ ls. l ∷ ls) (leave_all_marks l r is)
leave_all_marks l r (Gives r' ∷ is) = refl

-- What follows a statement, and an item, whatever is answered.

-- items without a mark, or the rest
abbrev Plain : After → Type 0
Plain (Into js) = (l : LockName) (rest : List Item) → locks_in l (js ++ rest) ≡ locks_in l rest
Plain Exits = Unit {0}
Plain (Returns r) = Unit {0}

-- the marks that the item has
abbrev pub Marked : Item → After → Type 0
Marked i (Into js) = (l : LockName) (rest : List Item) → locks_in l (js ++ rest) ≡ locks_in l (i ∷ rest)
Marked i Exits = (l : LockName) (rest : List Item) → locks_in l rest ≡ locks_in l (i ∷ rest)
Marked i (Returns r) = (l : LockName) (rest : List Item) → locks_in l rest ≡ locks_in l (i ∷ rest)

-- each value to which a tree comes
abbrev pub Each : {A : Type 0} → (A → Type 0) → Doing A → Type 0
Each P (Val a) = P a
Each P (Asks q k) = (v : Value) → Each P (k v)
Each P (Traps n c) = Unit {0}

pub each_bind : {A B : Type 0} (P : B → Type 0) (d : Doing A) (k : A → Doing B) → ((a : A) → Each P (k a)) → Each P (bind d k)
each_bind P (Val a) k h = h a
each_bind P (Asks q f) k h = λ v. each_bind P (f v) k h
each_bind P (Traps n c) k h = tt

each_map : {A : Type 0} (P Q : A → Type 0) → ((a : A) → P a → Q a) → (d : Doing A) → Each P d → Each Q d
each_map P Q f (Val a) h = f a h
each_map P Q f (Asks q k) h = λ v. each_map P Q f (k v) (h v)
each_map P Q f (Traps n c) h = tt

pub each_fed : {A : Type 0} (P : A → Type 0) (vs : List Value) (d : Doing A) → Each P d → Each P (feed vs d)
each_fed P [] d h = h
each_fed P (v ∷ vs) (Val a) h = tt
each_fed P (v ∷ vs) (Asks q k) h = each_fed P vs (k v) (h v)
each_fed P (v ∷ vs) (Traps n c) h = tt

module _ (rows : List TypeRow) (made : ℕ → Option Made) (c : Content Value) where
  pub each_calm : {A : Type 0} (P : A → Type 0) (d : Doing A) → Each P d → Each P (calm rows made c d)
  each_calm P (Val a) h = h
  each_calm P (Traps n code) h = tt
  each_calm P (Asks (Places s) k) h = each_calm P (k _) (h _)
  each_calm P (Asks (Lengths s) k) h = each_calm P (k _) (h _)
  each_calm P (Asks (Opens v) k) h = each_calm P (k _) (h _)
  each_calm P (Asks (Sizes v d) k) h = each_calm P (k _) (h _)
  each_calm P (Asks (Tests v t) k) h = each_calm P (k _) (h _)
  each_calm P (Asks (Reads t s) k) h = h
  each_calm P (Asks (Stores s v) k) h = h
  each_calm P (Asks (Copies t x y) k) h = h
  each_calm P (Asks (PutsText strict x n y m) k) h = h
  each_calm P (Asks (ComparesTexts r x n y m) k) h = h
  each_calm P (Asks (Calls how q vs) k) h = h
  each_calm P (Asks (Ends r) k) h = h
  each_calm P (Asks (Makes t vs) k) h = h
  each_calm P (Asks (Starts v) k) h = h
  each_calm P (Asks Enters k) h = h
  each_calm P (Asks Leaves k) h = h
  each_calm P (Asks (Awaits n) k) h = h
  each_calm P (Asks (PutsInt v n) k) h = h
  each_calm P (Asks (PutsChar v) k) h = h
  each_calm P (Asks (PutsString s n) k) h = h
  each_calm P (Asks PutsNothing k) h = h
  each_calm P (Asks PutsLn k) h = h

module _ (p : Program) (here : Here) where
  case_plain : (z : _) (cases : Cases) → Each Plain (case_of z cases)
  case_plain z NoElse = tt
  case_plain z (Else ss) = λ l rest. items_plain l ss rest
  case_plain z (OfLabels rs ss cases) = by (list_any (is_in z) rs) (case_plain z cases)
    where
      by : (b : Bool) → Each Plain (case_of z cases) → Each Plain (if b then Val (Into (items_of ss)) else case_of z cases)
      by true h = λ l rest. items_plain l ss rest
      by false h = h

  arms_plain : (arms : Arms) → Each Plain (arms_of p here arms)
  arms_plain (Otherwise ss) = λ l rest. items_plain l ss rest
  arms_plain (Arm e ss arms) = let others = arms_plain arms in each_bind Plain (value_of p here e) _ (λ v. by (is_true v) others)
    where
      by : (b : Bool) → Each Plain (arms_of p here arms) → Each Plain (if b then Val (Into (items_of ss)) else arms_of p here arms)
      by true h = λ l rest. items_plain l ss rest
      by false h = h

  out_plain : (call : Call) → Each Plain (out_of p here call)
  out_plain Open = λ v l rest. refl
  out_plain (CharCall e) = each_bind Plain (value_of p here e) _ (λ x v l rest. refl)
  out_plain (IntCall e n) = each_bind Plain (value_of p here e) _ (λ x. each_bind Plain (value_of p here n) _ (λ y v l rest. refl))
  out_plain (String r) = each_bind Plain (rows_of p here r) _ (λ x v l rest. refl)
  out_plain Ln = λ v l rest. refl

  stat_plain : (s : Stat) → Each Plain (stat_of p here s)
  stat_plain (Assign at t q e) = each_bind Plain (place_of p here q) _ (λ s. each_bind Plain (value_of p here e) _ (λ x v l rest. refl))
  stat_plain (Copy at t q r) = each_bind Plain (place_of p here q) _ (λ s. each_bind Plain (place_of p here r) _ (λ x v l rest. refl))
  stat_plain (PutText at strict a b) = each_bind Plain (rows_of p here a) _ (λ s. each_bind Plain (rows_of p here b) _ (λ x v l rest. refl))
  stat_plain (If at arms) = arms_plain arms
  stat_plain (Case at e cases) = each_bind Plain (value_of p here e) _ (λ v. case_plain (number_of v) cases)
  stat_plain (While at e body) = each_bind Plain (value_of p here e) _ (λ v. by (is_true v))
    where
      by : (b : Bool) → Plain (Into (if b then items_of body ++ Do (While at e body) ∷ [] else []))
      by true = λ l rest. ap (locks_in l) (append_assoc (items_of body) (Do (While at e body) ∷ []) rest) ∙ items_plain l body (Do (While at e body) ∷ rest)
      by false = λ l rest. refl
  stat_plain (Repeat at body e) = λ l rest. ap (locks_in l) (append_assoc (items_of body) (Until at body e ∷ []) rest) ∙ items_plain l body (Until at body e ∷ rest)
  stat_plain (Loop at body) = λ l rest. ap (locks_in l) (append_assoc (items_of body) (Round (Loop at body) ∷ []) rest) ∙ items_plain l body (Round (Loop at body) ∷ rest)
  stat_plain (Exit at) = tt
  stat_plain (For at w q from to step body) = each_bind Plain (value_of p here to) _ (λ v l rest. refl)
  stat_plain (Block at exclusive body) = λ l rest. block_plain l exclusive body rest
  stat_plain (Await at n e) = λ v l rest. refl
  stat_plain (Assert at e code) = each_bind Plain (value_of p here e) _ (λ v. by (is_true v))
    where
      by : (b : Bool) → Each Plain (if b then Val (Into []) else Traps 7 code)
      by true = λ l rest. refl
      by false = tt
  stat_plain (Halt at code) = tt
  stat_plain (Change at c q e) =
      each_bind Plain (place_of p here q) _ (λ s. each_bind Plain (value_of p here e) _ (λ n v. each_bind Plain (changed c v n) _ (λ x w l rest. refl)))
  stat_plain (Perform at c more) = each_bind Plain (called p here c more) _ (λ v l rest. refl)
  stat_plain (Return at None) = tt
  stat_plain (Return at (Some e)) = each_bind Plain (value_of p here e) _ (λ v. tt)
  stat_plain (New at q t more) =
      each_bind Plain (place_of p here q) _ (λ s. each_bind Plain (arguments_of p here more) _ (λ vs o.
      each_bind Plain (initialized p (initializer p t) t o vs) _ (λ x y. each_bind Plain (carried_out p (body_type p t) o) _ (λ z l rest. refl))))
  stat_plain (Make at q t ns) =
      each_bind Plain (place_of p here q) _ (λ s. each_bind Plain (values_of p here ns) _ (λ vs o v l rest. refl))
  stat_plain (With at e body) = each_bind Plain (value_of p here e) _ (λ v l rest. items_plain l body rest)
  stat_plain (WithRecord at q body) = each_bind Plain (place_of p here q) _ (λ v l rest. items_plain l body rest)
  stat_plain (Out at call) = out_plain call

  rounds_plain : (b : Bool) (body : Stats) (next : Stat) (again : Item) → ((l : LockName) (rest : List Item) → locks_in l (again ∷ rest) ≡ locks_in l rest) → Plain (Into (if b then items_of body ++ Do next ∷ again ∷ [] else []))
  rounds_plain true body next again none l rest =
      ap (locks_in l) (append_assoc (items_of body) (Do next ∷ again ∷ []) rest) ∙ items_plain l body (Do next ∷ again ∷ rest) ∙ none l rest
  rounds_plain false body next again none l rest = refl

  -- an item whose own is no mark
  plain_marked : (i : Item) → ((l : LockName) (rest : List Item) → locks_in l (i ∷ rest) ≡ locks_in l rest) → (a : After) → Plain a → Marked i a
  plain_marked i none (Into js) h = λ l rest. h l rest ∙ sym (none l rest)
  plain_marked i none Exits h = λ l rest. sym (none l rest)
  plain_marked i none (Returns r) h = λ l rest. sym (none l rest)

  pub item_marked : (i : Item) → Each (Marked i) (item_of p here i)
  item_marked (Do s) = each_map Plain (Marked (Do s)) (plain_marked (Do s) (λ l rest. refl)) (stat_of p here s) (stat_plain s)
  item_marked (Rounds at w q last step b) =
      each_map Plain (Marked (Rounds at w q last step b)) (plain_marked (Rounds at w q last step b) (λ l rest. refl)) (rounds_of p here at w q last step b)
      (each_bind {A = Value} Plain (value_of p here (Read (Integer w) q))
      (λ v. Val (Into (if holds (until step) (number_of v) last then items_of b ++ Do (next_value at w q step) ∷ Rounds at w q last step b ∷ [] else [])))
      (λ v. rounds_plain (holds (until step) (number_of v) last) b (next_value at w q step) (Rounds at w q last step b) (λ l rest. refl)))
  item_marked (Round s) = each_map Plain (Marked (Round s)) (plain_marked (Round s) (λ l rest. refl)) (stat_of p here s) (stat_plain s)
  item_marked (Until at b e) =
      each_map Plain (Marked (Until at b e)) (plain_marked (Until at b e) (λ l rest. refl)) (item_of p here (Until at b e))
      (each_bind Plain (value_of p here e) _ (λ v. by (is_true v)))
    where
      by : (c : Bool) → Plain (Into (if c then [] else Do (Repeat at b e) ∷ []))
      by true = λ l rest. refl
      by false = λ l rest. refl
  item_marked (Region ss) = λ l rest. refl
  item_marked End = λ l rest. refl
  item_marked (Gives r) = λ l rest. refl

-- A turn.

-- where frames stand before work: the topmost one's items are next of which the first asks for it, or its first item has begun
pub record StandsAt (l : LockName) (f : Frame) (Next : List Item → Type 0) : Type 0 where
  pub lock : l ≡ lock_of f
  pub rests : f.answers ≡ None
  pub next : Next f.items

abbrev pub IsRegion : List Item → Type 0
IsRegion is = (ss : Stats) × (rest : List Item) × (is ≡ Region ss ∷ rest)

abbrev pub IsEnd : List Item → Type 0
IsEnd is = (rest : List Item) × (is ≡ End ∷ rest)

abbrev pub HasBegun : Frame → Type 0
HasBegun f = (vs : List Value) × (f.answers ≡ Some vs)

abbrev pub IsAt : Did → List Frame → Type 0
IsAt Went fs = Unit {0}
IsAt Ended fs = fs ≡ []
IsAt (Enter l) [] = ⊥
IsAt (Enter l) (f ∷ fs) = StandsAt l f IsRegion
IsAt (Leave l) [] = ⊥
IsAt (Leave l) (f ∷ fs) = StandsAt l f IsEnd
IsAt (Await l c) [] = ⊥
IsAt (Await l c) (f ∷ fs) = HasBegun f × ((locks : List LockName) × (locks_in (lock_of f) f.items ≡ l ∷ locks))
IsAt (Start o) [] = ⊥
IsAt (Start o) (f ∷ fs) = HasBegun f
IsAt (Trapped n c) fs = Unit {0}

-- a turn leaves these regions open, and stands at the work that it leaves
pub record Keeps (locks : List LockName) (t : Turned) : Type 0 where
  pub regions : regions_of t.frames.frames ≡ locks
  pub at : IsAt t.left t.frames.frames

-- the locks of these items of a frame, and of the frames below
abbrev locks_with : List Item → Frame → List Frame → List LockName
locks_with is f fs = locks_in (lock_of f) is ++ regions_of fs

abbrev changed_frames : ℕ → (Content Value → Content Value) → List Frame → List Frame
changed_frames d g fs = change_from_last d (λ f. record f { variables = g f.variables }) fs

changed_same : (d : ℕ) (g : Content Value → Content Value) (fs : List Frame) → regions_of (changed_frames d g fs) ≡ regions_of fs
changed_same d g [] = refl
changed_same d g (f ∷ fs) = by (nat_eq d (length fs)) (changed_same d g fs)
  where
    by : (b : Bool) → regions_of (changed_frames d g fs) ≡ regions_of fs → regions_of (if b then record f { variables = g f.variables } ∷ fs else f ∷ changed_frames d g fs) ≡ regions_of (f ∷ fs)
    by true e = refl
    by false e = ap (λ ls. locks_in (lock_of f) f.items ++ ls) e

with_same : (r : Root) (g : Content Value → Content Value) (fs : List Frame) → regions_of (frames_with r g fs) ≡ regions_of fs
with_same (FrameRoot d) g fs = changed_same d g fs
with_same (ModuleRoot m) g fs = refl
with_same (ObjectRoot o) g fs = refl

module _ (following : List ℕ) where
  result_same : (v : Value) (fs : List Frame) → regions_of (with_result following v fs) ≡ regions_of fs
  result_same v [] = refl
  result_same v (f ∷ fs) = refl

  ends_keep : (r : Option Value) (fs : List Frame) (s : Store) → Keeps (regions_of fs) (ends following r fs s)
  ends_keep None fs s = record { regions = result_same done fs; at = tt }
  ends_keep (Some v) fs s = record { regions = result_same v fs; at = tt }

  prints_keep : (o : Option (List ℕ)) (f : Frame) (fs : List Frame) (s : Store) → Keeps (regions_of (f ∷ fs)) (prints following o (top f fs s))
  prints_keep None f fs s = record { regions = refl; at = tt }
  prints_keep (Some bytes) f fs s = record { regions = refl; at = tt }

  makes_keep : (room : Bool) (m : Made) (c : Content Value) (f : Frame) (fs : List Frame) (s : Store) → Keeps (regions_of (f ∷ fs)) (makes following room m c (top f fs s))
  makes_keep true m c f fs s = record { regions = refl; at = tt }
  makes_keep false m c f fs s = record { regions = refl; at = tt }

  starts_keep : (v : Value) (f : Frame) (fs : List Frame) (s : Store) → HasBegun f → Keeps (regions_of (f ∷ fs)) (starts following v (top f fs s))
  starts_keep (Object zero) f fs s h = record { regions = refl; at = tt }
  starts_keep (Object (suc k)) f fs s h = record { regions = refl; at = h }
  starts_keep (Int z) f fs s h = record { regions = refl; at = tt }
  starts_keep (Flag b) f fs s h = record { regions = refl; at = tt }
  starts_keep (Char c) f fs s h = record { regions = refl; at = tt }
  starts_keep (Set x) f fs s h = record { regions = refl; at = tt }
  starts_keep (Callable q o) f fs s h = record { regions = refl; at = tt }
  starts_keep (Place q) f fs s h = record { regions = refl; at = tt }

  awaits_keep : (locks : List LockName) (c : ℕ) (f : Frame) (fs : List Frame) (s : Store) → locks_in (lock_of f) f.items ≡ locks → HasBegun f → Keeps (regions_of (f ∷ fs)) (awaits following locks c (top f fs s))
  awaits_keep [] c f fs s e h = record { regions = refl; at = tt }
  awaits_keep (l ∷ locks) c f fs s e h = record { regions = refl; at = (h, (locks, e)) }

  copies_keep : (c : Option (Content Value)) (q : Location) (f : Frame) (fs : List Frame) (s : Store) → Keeps (regions_of (f ∷ fs)) (copies following c q (top f fs s))
  copies_keep None q f fs s = record { regions = refl; at = tt }
  copies_keep (Some c) q f fs s = record { regions = with_same q.root _ (answered done f ∷ fs); at = tt }

  stores_text_keep : (text : Option (List ℕ)) (old : Option (Content Value)) (q : Location) (f : Frame) (fs : List Frame) (s : Store) → Keeps (regions_of (f ∷ fs)) (stores_text following text old q (top f fs s))
  stores_text_keep None old q f fs s = record { regions = refl; at = tt }
  stores_text_keep (Some cs) None q f fs s = record { regions = refl; at = tt }
  stores_text_keep (Some cs) (Some old) q f fs s = record { regions = with_same q.root _ (answered done f ∷ fs); at = tt }

  enters_keep : (deep : Bool) (g : Frame) (fs : List Frame) (s : Store) → locks_in (lock_of g) g.items ≡ [] → Keeps (regions_of fs) (enters following deep g fs s)
  enters_keep true g fs s none = record { regions = refl; at = tt }
  enters_keep false g fs s none = record { regions = ap (λ ls. ls ++ regions_of fs) none; at = tt }

module _ (p : Program) (following : List ℕ) where
  calls_keep : (r : Option Routine) (vs : List Value) (f : Frame) (fs : List Frame) (s : Store) → Keeps (regions_of (f ∷ fs)) (calls p following r vs (top f fs s))
  calls_keep None vs f fs s = record { regions = refl; at = tt }
  calls_keep (Some r) vs f fs s =
      let g = called_frame p following r vs (f ∷ fs) s in
      enters_keep following (is_deep following g (f ∷ fs)) g (f ∷ fs) s (body_none (lock_of g) r.body)

  makes_with_keep : (ns : Option (List ℕ)) (t : ℕ) (f : Frame) (fs : List Frame) (s : Store) → Keeps (regions_of (f ∷ fs)) (makes_with p following ns t (top f fs s))
  makes_with_keep None t f fs s = record { regions = refl; at = tt }
  makes_with_keep (Some ns) t f fs s =
      let m : Made = record { type = t; lengths = ns } in
      let c = first_content (first_value p) (made_shape p.types m) in makes_keep following (has_room m c s) m c f fs s

  answer_keeps : (q : Question) (f : Frame) (fs : List Frame) (s : Store) → HasBegun f → Keeps (regions_of (f ∷ fs)) (answer p following q (top f fs s))
  answer_keeps (Reads t q) f fs s h = record { regions = refl; at = tt }
  answer_keeps (Stores q v) f fs s h = record { regions = with_same q.root _ (answered done f ∷ fs); at = tt }
  answer_keeps (Makes t vs) f fs s h = makes_with_keep (array_lengths (map number_of vs)) t f fs s
  answer_keeps (Starts v) f fs s h = starts_keep following v f fs s h
  answer_keeps (PutsInt v n) f fs s h = prints_keep following (written v n) f fs s
  answer_keeps (PutsChar v) f fs s h = record { regions = refl; at = tt }
  answer_keeps PutsNothing f fs s h = record { regions = refl; at = tt }
  answer_keeps PutsLn f fs s h = record { regions = refl; at = tt }
  answer_keeps (Copies t from to) f fs s h =
      let x = all_rooted (f ∷ fs) s in
      copies_keep following (copied (variable_shape p.types (id_of t)) (read from.root from.path x) (read to.root to.path x)) to f fs s
  answer_keeps (PutsText strict from n to room) f fs s h =
      let x = all_rooted (f ∷ fs) s in
      let text = fitted strict (unsigned_abs (number_of room)) (text_in (read from.root from.path x)) in
      stores_text_keep following text (read to.root to.path x) to f fs s
  answer_keeps (ComparesTexts r a n b m) f fs s h = record { regions = refl; at = tt }
  answer_keeps (Calls how q vs) f fs s h = calls_keep (by_number q (routines p)) vs f fs s
  answer_keeps (PutsString a n) f fs s h = record { regions = refl; at = tt }
  answer_keeps (Places a) f fs s h = record { regions = refl; at = tt }
  answer_keeps (Lengths a) f fs s h = record { regions = refl; at = tt }
  answer_keeps (Opens v) f fs s h = record { regions = refl; at = tt }
  answer_keeps (Sizes v d) f fs s h = record { regions = refl; at = tt }
  answer_keeps (Tests v t) f fs s h = record { regions = refl; at = tt }
  answer_keeps (Ends r) f fs s h = record { regions = refl; at = tt }
  answer_keeps Enters f fs s h = record { regions = refl; at = tt }
  answer_keeps Leaves f fs s h = record { regions = refl; at = tt }
  answer_keeps (Awaits c) f fs s h = awaits_keep following (locks_in (lock_of f) f.items) c f fs s refl h

  tests_keep : (d : Doing Value) (if_true if_false : Turned) (f : Frame) (fs : List Frame) (s : Store) → HasBegun f → Keeps (regions_of (f ∷ fs)) if_true → Keeps (regions_of (f ∷ fs)) if_false → Keeps (regions_of (f ∷ fs)) (tests p following d if_true if_false (top f fs s))
  tests_keep (Val v) if_true if_false f fs s h a b = by (is_true v)
    where
      by : (c : Bool) → Keeps (regions_of (f ∷ fs)) (if c then if_true else if_false)
      by true = a
      by false = b
  tests_keep (Asks q k) if_true if_false f fs s h a b = answer_keeps q f fs s h
  tests_keep (Traps n c) if_true if_false f fs s h a b = record { regions = refl; at = tt }

  along_locks : (xs ys : List LockName) (t : Turned) → xs ≡ ys → Keeps xs t → Keeps ys t
  along_locks xs ys t e h = record { regions = h.regions ∙ e; at = h.at }

  finishes_keep : (function : Bool) (f : Frame) (fs : List Frame) (s : Store) → [] ≡ locks_in (lock_of f) f.items → Keeps (regions_of (f ∷ fs)) (finishes p following function (top f fs s))
  finishes_keep true f fs s none = record { regions = refl; at = tt }
  finishes_keep false f fs s none = along_locks (regions_of fs) (regions_of (f ∷ fs)) (ends following None fs s) (ap (λ ls. ls ++ regions_of fs) none) (ends_keep following None fs s)

  -- these items of a frame are next, which have the marks of all that it has
  settles_keep : (is : List Item) (f : Frame) (fs : List Frame) (s : Store) → locks_in (lock_of f) is ≡ locks_in (lock_of f) f.items → Keeps (regions_of (f ∷ fs)) (settles p following is (top f fs s))
  settles_keep [] f fs s e = finishes_keep f.gives f fs s e
  settles_keep (Do st ∷ is) f fs s e = record { regions = ap (λ ls. ls ++ regions_of fs) e; at = tt }
  settles_keep (Rounds at w q last step b ∷ is) f fs s e = record { regions = ap (λ ls. ls ++ regions_of fs) e; at = tt }
  settles_keep (Round st ∷ is) f fs s e = record { regions = ap (λ ls. ls ++ regions_of fs) e; at = tt }
  settles_keep (Until at b x ∷ is) f fs s e =
      let test = value_of p (here_of f fs) x in
      let whole = regions_of (f ∷ fs) in
      let begun : Frame = record f { items = Until at b x ∷ is; answers = Some (noted p.types (made_in s) f.variables test) } in
      let same : whole ≡ regions_of (begun ∷ fs) = ap (λ ls. ls ++ regions_of fs) (sym e) in
      along_locks (regions_of (begun ∷ fs)) whole _ (sym same)
      (tests_keep (calm p.types (made_in s) f.variables test) (settles p following is (top f fs s)) (begins following at (Do (Repeat at b x) ∷ is) (top f fs s)) begun fs s (_, refl)
      (along_locks whole (regions_of (begun ∷ fs)) _ same (settles_keep is f fs s e))
      (record { regions = refl; at = tt }))
  settles_keep (Region ss ∷ is) f fs s e =
      record { regions = ap (λ ls. ls ++ regions_of fs) e; at = record { lock = refl; rests = refl; next = (ss, is, refl) } }
  settles_keep (End ∷ is) f fs s e =
      record { regions = ap (λ ls. ls ++ regions_of fs) e; at = record { lock = refl; rests = refl; next = (is, refl) } }
  settles_keep (Gives r ∷ is) f fs s e =
      along_locks (regions_of fs) (regions_of (f ∷ fs)) (ends following r fs s) (ap (λ ls. ls ++ regions_of fs) e) (ends_keep following r fs s)

  goes_keep : (i : Item) (d : Doing After) (rest : List Item) (f : Frame) (fs : List Frame) (s : Store) → Each (Marked i) d → f.items ≡ i ∷ rest → HasBegun f → Keeps (regions_of (f ∷ fs)) (goes p following d rest (top f fs s))
  goes_keep i (Val (Into js)) rest f fs s h e begun = settles_keep (js ++ rest) f fs s (h (lock_of f) rest ∙ ap (locks_in (lock_of f)) (sym e))
  goes_keep i (Val Exits) rest f fs s h e begun =
      settles_keep (leave rest) f fs s (leave_marks (lock_of f) rest ∙ h (lock_of f) rest ∙ ap (locks_in (lock_of f)) (sym e))
  goes_keep i (Val (Returns r)) rest f fs s h e begun =
      settles_keep (leave_all r rest) f fs s (leave_all_marks (lock_of f) r rest ∙ h (lock_of f) rest ∙ ap (locks_in (lock_of f)) (sym e))
  goes_keep i (Asks q k) rest f fs s h e begun = answer_keeps q f fs s begun
  goes_keep i (Traps n c) rest f fs s h e begun = record { regions = refl; at = tt }

  item_keeps : (answers : Option (List Value)) (is : List Item) (f : Frame) (fs : List Frame) (s : Store) → f.items ≡ is → Keeps (regions_of (f ∷ fs)) (item_turn p following answers is (top f fs s))
  item_keeps None is f fs s e = settles_keep is f fs s (ap (locks_in (lock_of f)) (sym e))
  item_keeps (Some vs) [] f fs s e =
      along_locks (regions_of fs) (regions_of (f ∷ fs)) (ends following None fs s) (ap (λ is. locks_in (lock_of f) is ++ regions_of fs) (sym e)) (ends_keep following None fs s)
  item_keeps (Some vs) (i ∷ is) f fs s e =
      let doing = item_of p (here_of f fs) i in
      let left = feed vs doing in
      let begun : Frame = record f { answers = Some (vs ++ noted p.types (made_in s) f.variables left) } in
      goes_keep i (calm p.types (made_in s) f.variables left) is begun fs s
      (each_calm p.types (made_in s) f.variables (Marked i) left (each_fed (Marked i) vs doing (item_marked p (here_of f fs) i))) e (_, refl)

  turn_at_keeps : (fs : List Frame) (s : Store) → Keeps (regions_of fs) (turn_at p following fs s)
  turn_at_keeps [] s = record { regions = refl; at = refl }
  turn_at_keeps (f ∷ fs) s = item_keeps f.answers f.items f fs s refl

module _ (p : Program) where
  next_none : (m : ℕ) (ms : List ℕ) (o : Option Module) → regions_of (next_body p m ms o).frames ≡ []
  next_none m ms None = refl
  next_none m ms (Some x) = ap (λ ls. ls ++ []) (body_none (lock_of (body_frame m 0 x.body)) x.body)

  opened_same : (fs : Frames) → regions_of (opened p fs).frames ≡ regions_of fs.frames
  opened_same fs = by fs.frames fs.following
    where
      by : (gs : List Frame) (ms : List ℕ) → regions_of (opened_by p gs ms).frames ≡ regions_of gs
      by [] [] = refl
      by [] (m ∷ ms) = next_none m ms (slice_get p.modules m)
      by (f ∷ gs) ms = refl

  turn_keeps : (s : Store) (fs : Frames) → Keeps (regions_of fs.frames) (turn p s fs)
  turn_keeps s fs =
      let now = opened p fs in
      along_locks p now.following (regions_of now.frames) (regions_of fs.frames) (turn p s fs) (opened_same fs) (turn_at_keeps p now.following now.frames s)

  -- whatever the store, frames stand before work as this says
  abbrev pub Stands : Store → Did → Frames → Type 0
  Stands s work fs = IsAt work fs.frames

  -- past a question of an item that has begun
  begun_passes : (f : Frame) (fs : List Frame) → HasBegun f → regions_of (past_by f.answers f ∷ fs) ≡ regions_of (f ∷ fs)
  begun_passes f fs h = by f.answers h.0 h.1
    where
      by : (answers : Option (List Value)) (vs : List Value) → answers ≡ Some vs → regions_of (past_by answers (record f { answers = answers }) ∷ fs) ≡ regions_of (record f { answers = answers } ∷ fs)
      by answers vs e = subst (λ a. regions_of (past_by a (record f { answers = a }) ∷ fs) ≡ regions_of (record f { answers = a } ∷ fs)) (sym e) refl

  passes : (work : Did) (ms : List ℕ) (fs : List Frame) → IsAt work fs → Passes (source p) work (record { following = ms; frames = fs })
  passes Went ms fs h = tt
  passes Ended ms fs h = ap regions_of h
  passes (Enter l) ms [] h = absurd h
  passes (Enter l) ms (f ∷ fs) h = λ outside. entered f.answers f.items h.rests h.next.0 h.next.1 h.next.2
    where
      entered : (answers : Option (List Value)) (is : List Item) → answers ≡ None → (ss : Stats) (rest : List Item) → is ≡ Region ss ∷ rest → regions_of (past_by answers (record f { answers = answers; items = is }) ∷ fs) ≡ l ∷ regions_of (record f { answers = answers; items = is } ∷ fs)
      entered answers is none ss rest e =
          subst (λ a. regions_of (past_by a (record f { answers = a; items = is }) ∷ fs) ≡ l ∷ regions_of (record f { answers = a; items = is } ∷ fs)) (sym none)
          (subst (λ xs. regions_of (past_by None (record f { answers = None; items = xs }) ∷ fs) ≡ l ∷ regions_of (record f { answers = None; items = xs } ∷ fs)) (sym e)
          (ap (λ ls. ls ++ regions_of fs) (items_plain (lock_of f) ss (End ∷ rest)) ∙ ap (λ k. k ∷ (locks_in (lock_of f) rest ++ regions_of fs)) (sym h.lock)))
  passes (Leave l) ms [] h = absurd h
  passes (Leave l) ms (f ∷ fs) h = left f.answers f.items h.rests h.next.0 h.next.1
    where
      left : (answers : Option (List Value)) (is : List Item) → answers ≡ None → (rest : List Item) → is ≡ End ∷ rest → regions_of (record f { answers = answers; items = is } ∷ fs) ≡ l ∷ regions_of (past_by answers (record f { answers = answers; items = is }) ∷ fs)
      left answers is none rest e =
          subst (λ a. regions_of (record f { answers = a; items = is } ∷ fs) ≡ l ∷ regions_of (past_by a (record f { answers = a; items = is }) ∷ fs)) (sym none)
          (subst (λ xs. regions_of (record f { answers = None; items = xs } ∷ fs) ≡ l ∷ regions_of (past_by None (record f { answers = None; items = xs }) ∷ fs)) (sym e)
          (ap (λ k. k ∷ (locks_in (lock_of f) rest ++ regions_of fs)) (sym h.lock)))
  passes (Await l c) ms [] h = absurd h
  passes (Await l c) ms (f ∷ fs) h = (begun_passes f fs h.0, inside h.1.0 h.1.1)
    where
      inside : (locks : List LockName) → locks_in (lock_of f) f.items ≡ l ∷ locks → 0 < times l (regions_of (f ∷ fs))
      inside locks e =
          let once : times l (regions_of (f ∷ fs)) ≡ suc (times l (locks ++ regions_of fs)) = ap (λ ls. times l (ls ++ regions_of fs)) e
          ∙ ap (λ (b : Bool). if b then suc (times l (locks ++ regions_of fs)) else times l (locks ++ regions_of fs)) (is_itself lock l) in
          omega (arith, once)
  passes (Start o) ms [] h = absurd h
  passes (Start o) ms (f ∷ fs) h = begun_passes f fs h
  passes (Trapped n c) ms fs h = tt

  body_closed : (o : ℕ) (t : Option ObjectType) → regions_of (object_frames o t).frames ≡ []
  body_closed o None = refl
  body_closed o (Some t) = ap (λ ls. ls ++ []) (body_none (lock_of (body_frame t.home o t.body.body)) t.body.body)

  keeps_fits : KeepsFits (source p) (Outside (source p)) Stands
  keeps_fits =
      record {
        turn = λ s f h. (turn_keeps s f).at;
        kept = λ s f h w g k. k;
        past = λ s w f past h. tt;
        body = λ s o f h. tt;
        anew = λ s w f g may h e. absurd (cc);
      }

  pub source_keeps : KeepsRegions (source p) Stands
  source_keeps =
      record {
        fits = keeps_fits;
        turn = λ s f h. (turn_keeps s f).regions;
        passes = λ s w f h. passes w f.following f.frames h;
        body = λ s o f h. body_closed o (option_and_then (λ t. slice_get p.objects t) (option_and_then (made_body p) (type_of_object o s)));
        anew = λ s w f g may h e. absurd (cc);
      }
