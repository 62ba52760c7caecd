-- Facts on values, of all that stands below roots: what is read is such a value where all are, and what is stored leaves all such.
use Rattle.std.proofs.Common.{◌≡◌, ℕ, ℤ, zero, suc, List, [], ◌∷◌, ◌++◌, Bool, true, false, Option, Some, None, subst}
use Rattle.std.specs.Prelude.{◌+◌, if◌then◌else◌, nat_eq, length, map, take, drop, pos, slice_get, option_and_then}
use Rattle.aos_base.specs.declared.root.Root.{Root}
use Rattle.aos_base.specs.declared.root.Root.TheVariants.{Frame as FrameRoot, Module as ModuleRoot, Object as ObjectRoot}
use Rattle.aos_base.specs.Rooted.{Made, Rooted, from_last, by_number, change_at, change_by_number, change_from_last}
use Rattle.aos_base.specs.Question.{Val, Asks, Traps, Reads, Stores, Copies, PutsText, ComparesTexts, Calls, Ends, Makes, Starts, Enters, Leaves, Awaits, PutsInt, PutsChar, PutsString, PutsNothing, PutsLn, Places, Lengths, Opens, Sizes, Tests}
use Rattle.aos_types.specs.declared.row.Basic.TheVariants as basic
use Rattle.aos_types.specs.declared.row.Basic.{Basic}
use Rattle.aos_types.specs.declared.row.TypeId.{TypeId}
use Rattle.aos_types.specs.declared.row.TypeRow.{TypeRow}
use Rattle.aos_types.specs.declared.row.TypeRow.TheVariants as row
use Rattle.aos_types.specs.Table.{row_of as type_row, is_open, is_record, is_scalar}
use Rattle.aos_types.specs.Shape.{Shape, One, Nothing, Pair}
use Rattle.aos_types.specs.Content.{Content, Scalar, Empty, Row, element, with_element, found, placed, overlay, cut, first_content}
use Rattle.aos_types.specs.World.{read}
use Rattle.aos_typed.specs.CallFrame.{Part, Handed, content_row, head, scalar, or_empty, open_part, content_at, whole, own_part, copied, handed, hand}
use Rattle.aos_typed.specs.Numbers.{id_of}
use Rattle.aos_typed.specs.Open.{open_dimensions, open_element}
use Rattle.aos_typed.specs.Program.{Parameter, Variable as TypedVariable, Program}
use Rattle.aos_typed.specs.Routines.{Routine, has_self, locals_of, parameters_of}
use Rattle.aos_typed.specs.Sort.{variable_shape, Sort, Plain, Variable, Alias, Elements, Length}
use Rattle.aos_typed.specs.Location.{Location}
use Rattle.aos_typed.specs.Text.{with_text}
use Rattle.aos_typed.specs.Value.{Value, Int, Flag, Char, Set, Object, Callable, Place}
use Rattle.aos_typed.specs.Store.{Store, scalar_in, value_at, store_with}
use Rattle.aos_typed.specs.Meaning.{Doing, object_in, place_in}
use Rattle.aos_typed.specs.Source.{Frame, all_rooted, answered, arguments_in, called_frame, first_basic, first_in, first_value, frames_with, known, length_in, local_part, noted, object_place, has_type_in, row_of, told}
use Rattle.aos_escape.specs.Naming.{ContentIs, ContentsAre, AllAre, AnswersAre, StoreIs, FrameIs, FramesAre, VariablesAre}
use Rattle.aos_escape.proofs.Telling.{Plainly}

-- what holds of what variables begin with, and of what is computed
pub record Simply (C : Value → Type 0) : Type 0 where
  pub int : (z : ℤ) → C (Int z)
  pub flag : (b : Bool) → C (Flag b)
  pub char : (c : ℕ) → C (Char c)
  pub set : (s : ℕ) → C (Set s)
  pub nil : C (Object 0)
  pub none : C (Callable 0 0)

pub simply : (p : Program) (C : Value → Type 0) → Plainly p C → Simply C
simply p C h = record { int = h.int; flag = h.flag; char = h.char; set = h.set; nil = h.nil; none = h.none }

module _ (C : Value → Type 0) where
  pub all_more : (vs ws : List Value) → AllAre C vs → AllAre C ws → AllAre C (vs ++ ws)
  all_more [] ws h k = k
  all_more (v ∷ vs) ws h k = (h.0, all_more vs ws h.1 k)

  all_dropped : (n : ℕ) (vs : List Value) → AllAre C vs → AllAre C (drop n vs)
  all_dropped zero vs h = h
  all_dropped (suc n) [] h = tt
  all_dropped (suc n) (v ∷ vs) h = all_dropped n vs h.1

  all_taken : (n : ℕ) (vs : List Value) → AllAre C vs → AllAre C (take n vs)
  all_taken zero vs h = tt
  all_taken (suc n) [] h = tt
  all_taken (suc n) (v ∷ vs) h = (h.0, all_taken n vs h.1)

  pub arguments_are : (b : Bool) (vs : List Value) → AllAre C vs → AllAre C (arguments_in b vs)
  arguments_are true vs h = all_dropped 1 vs h
  arguments_are false vs h = h

  pub told_are : (v : Value) (a : Option (List Value)) → C v → AnswersAre C a → AnswersAre C (told v a)
  told_are v None c h = tt
  told_are v (Some vs) c h = all_more vs (v ∷ []) h (c, tt)

  pub answered_is : (v : Value) (f : Frame) → C v → FrameIs C f → FrameIs C (answered v f)
  answered_is v f c h = record { variables = h.variables; items = h.items; answers = told_are v f.answers c h.answers }

  -- Contents.

  abbrev pub FoundIs : Option (Content Value) → Type 0
  FoundIs None = Unit {0}
  FoundIs (Some c) = ContentIs C c

  element_is : (i : ℕ) (c : Content Value) → ContentIs C c → FoundIs (element i c)
  element_is i (Scalar v) h = tt
  element_is i Empty h = tt
  element_is zero (Row a b) h = h.0
  element_is (suc i) (Row a b) h = element_is i b h.1

  pub found_is : (path : List ℕ) (c : Content Value) → ContentIs C c → FoundIs (found path c)
  found_is [] c h = h
  found_is (i ∷ path) c h = by (element i c) (element_is i c h) (λ d k. found_is path d k)
    where
      by : (o : Option (Content Value)) → FoundIs o → ((d : Content Value) → ContentIs C d → FoundIs (found path d)) → FoundIs (option_and_then (found path) o)
      by None k f = tt
      by (Some d) k f = f d k

  with_element_is : (i : ℕ) (g : Content Value → Content Value) (c : Content Value) → ((d : Content Value) → ContentIs C d → ContentIs C (g d)) → ContentIs C c → ContentIs C (with_element i g c)
  with_element_is i g (Scalar v) f h = h
  with_element_is i g Empty f h = tt
  with_element_is zero g (Row a b) f h = (f a h.0, h.1)
  with_element_is (suc i) g (Row a b) f h = (h.0, with_element_is i g b f h.1)

  pub placed_is : (path : List ℕ) (new c : Content Value) → ContentIs C new → ContentIs C c → ContentIs C (placed path new c)
  placed_is [] new c k h = k
  placed_is (i ∷ path) new c k h = with_element_is i (placed path new) c (λ d j. placed_is path new d k j) h

  pub overlay_is : {S : Type 0} (s : Shape S) (from to : Content Value) → ContentIs C from → ContentIs C to → ContentIs C (overlay s from to)
  overlay_is (One k) (Row f fs) (Row t ts) h j = (h.0, j.1)
  overlay_is (One k) (Row f fs) (Scalar v) h j = j
  overlay_is (One k) (Row f fs) Empty h j = tt
  overlay_is (One k) (Scalar v) to h j = j
  overlay_is (One k) Empty to h j = j
  overlay_is Nothing from to h j = j
  overlay_is (Pair a b) (Row f fs) (Row t ts) h j = (h.0, overlay_is b fs ts h.1 j.1)
  overlay_is (Pair a b) (Row f fs) (Scalar v) h j = j
  overlay_is (Pair a b) (Row f fs) Empty h j = tt
  overlay_is (Pair a b) (Scalar v) to h j = j
  overlay_is (Pair a b) Empty to h j = j

  pub cut_is : {S : Type 0} (s : Shape S) (c : Content Value) → ContentIs C c → ContentIs C (cut s c)
  cut_is (One k) c h = h
  cut_is Nothing c h = tt
  cut_is (Pair a b) (Row f fs) h = (h.0, cut_is b fs h.1)
  cut_is (Pair a b) (Scalar v) h = h
  cut_is (Pair a b) Empty h = tt

  pub first_is : {S : Type 0} (first : S → Value) (s : Shape S) → ((k : S) → C (first k)) → ContentIs C (first_content first s)
  first_is first (One k) f = f k
  first_is first Nothing f = tt
  first_is first (Pair a b) f = (first_is first a f, first_is first b f)

  -- Lists of contents.

  get_is : (i : ℕ) (cs : List (Content Value)) → ContentsAre C cs → FoundIs (slice_get cs i)
  get_is i [] h = tt
  get_is zero (c ∷ cs) h = h.0
  get_is (suc i) (c ∷ cs) h = get_is i cs h.1

  number_is : (o : ℕ) (cs : List (Content Value)) → ContentsAre C cs → FoundIs (by_number o cs)
  number_is zero cs h = tt
  number_is (suc k) cs h = get_is k cs h

  last_is : (d : ℕ) (cs : List (Content Value)) → ContentsAre C cs → FoundIs (from_last d cs)
  last_is d [] h = tt
  last_is d (c ∷ cs) h =
      elim (nat_eq d (length cs)) as (λ q. FoundIs (if q then Some c else from_last d cs)) [ true ↦ h.0 | false ↦ last_is d cs h.1 ]

  module _ (g : Content Value → Content Value) (f : (d : Content Value) → ContentIs C d → ContentIs C (g d)) where
    at_is : (i : ℕ) (cs : List (Content Value)) → ContentsAre C cs → ContentsAre C (change_at i g cs)
    at_is i [] h = tt
    at_is zero (c ∷ cs) h = (f c h.0, h.1)
    at_is (suc i) (c ∷ cs) h = (h.0, at_is i cs h.1)

    by_is : (o : ℕ) (cs : List (Content Value)) → ContentsAre C cs → ContentsAre C (change_by_number o g cs)
    by_is zero cs h = h
    by_is (suc k) cs h = at_is k cs h

    pub store_is : (r : Root) (s : Store) → StoreIs C s → StoreIs C (store_with r g s)
    store_is (FrameRoot d) s h = h
    store_is (ModuleRoot m) s h = record { modules = at_is m s.modules h.modules; objects = h.objects }
    store_is (ObjectRoot o) s h = record { modules = h.modules; objects = by_is o s.objects h.objects }

    changed_is : (d : ℕ) (fs : List Frame) → FramesAre C fs → FramesAre C (change_from_last d (λ x. record x { variables = g x.variables }) fs)
    changed_is d [] h = tt
    changed_is d (x ∷ fs) h =
        elim (nat_eq d (length fs)) as (λ q. FramesAre C (if q then record x { variables = g x.variables } ∷ fs else x ∷ change_from_last d (λ y. record y { variables = g y.variables }) fs)) [
          | true ↦ (let k = h.0 in record { variables = f x.variables k.variables; items = k.items; answers = k.answers }, h.1)
          | false ↦ (h.0, changed_is d fs h.1)
        ]

    vars_changed : (d : ℕ) (fs : List Frame) → VariablesAre C fs → VariablesAre C (change_from_last d (λ x. record x { variables = g x.variables }) fs)
    vars_changed d [] h = tt
    vars_changed d (x ∷ fs) h =
        elim (nat_eq d (length fs)) as (λ q. VariablesAre C (if q then record x { variables = g x.variables } ∷ fs else x ∷ change_from_last d (λ y. record y { variables = g y.variables }) fs)) [
          | true ↦ (f x.variables h.0, h.1)
          | false ↦ (h.0, vars_changed d fs h.1)
        ]

    pub vars_with : (r : Root) (fs : List Frame) → VariablesAre C fs → VariablesAre C (frames_with r g fs)
    vars_with (FrameRoot d) fs h = vars_changed d fs h
    vars_with (ModuleRoot m) fs h = h
    vars_with (ObjectRoot o) fs h = h

    pub frames_are : (r : Root) (fs : List Frame) → FramesAre C fs → FramesAre C (frames_with r g fs)
    frames_are (FrameRoot d) fs h = changed_is d fs h
    frames_are (ModuleRoot m) fs h = h
    frames_are (ObjectRoot o) fs h = h

  pub object_added : (cs : List (Content Value)) (c : Content Value) → ContentsAre C cs → ContentIs C c → ContentsAre C (cs ++ c ∷ [])
  object_added [] c h k = (k, tt)
  object_added (x ∷ cs) c h k = (h.0, object_added cs c h.1 k)

  -- What is read.

  pub variables_are : (fs : List Frame) → FramesAre C fs → VariablesAre C fs
  variables_are [] h = tt
  variables_are (f ∷ fs) h = (let k = h.0 in k.variables, variables_are fs h.1)

  through : (path : List ℕ) (o : Option (Content Value)) → FoundIs o → FoundIs (option_and_then (found path) o)
  through path None h = tt
  through path (Some c) h = found_is path c h

  pub read_is : (r : Root) (path : List ℕ) (fs : List Frame) (s : Store) → VariablesAre C fs → StoreIs C s → FoundIs (read r path (all_rooted fs s))
  read_is (FrameRoot d) path fs s h k = through path (from_last d (map (λ f. f.variables) fs)) (last_is d (map (λ f. f.variables) fs) h)
  read_is (ModuleRoot m) path fs s h k = through path (slice_get s.modules m) (get_is m s.modules k.modules)
  read_is (ObjectRoot o) path fs s h k = through path (by_number o s.objects) (number_is o s.objects k.objects)

  pub found_same : (o : Option (Content Value)) (c : Content Value) → o ≡ Some c → FoundIs o → ContentIs C c
  found_same o c e h = subst FoundIs e h

module _ (p : Program) (C : Value → Type 0) (simple : Simply C) where
  pub scalar_is : (o : Option (Content Value)) → FoundIs C o → C (scalar_in o)
  scalar_is None h = simple.int (pos 0)
  scalar_is (Some (Scalar v)) h = h
  scalar_is (Some Empty) h = simple.int (pos 0)
  scalar_is (Some (Row a b)) h = simple.int (pos 0)

  pub value_is : (a : Location) (fs : List Frame) (s : Store) → VariablesAre C fs → StoreIs C s → C (value_at a (all_rooted fs s))
  value_is a fs s h k = scalar_is (read a.root a.path (all_rooted fs s)) (read_is C a.root a.path fs s h k)

  pub text_is : (cs : List ℕ) (c : Content Value) → ContentIs C c → ContentIs C (with_text cs c)
  text_is [] c h = h
  text_is (x ∷ cs) (Scalar v) h = h
  text_is (x ∷ cs) Empty h = tt
  text_is (x ∷ cs) (Row a b) h = (simple.char x, text_is cs b h.1)

  -- what a variable begins with
  basic_is : (b : Basic) → C (first_basic b)
  basic_is basic.ShortInt = simple.int (pos 0)
  basic_is basic.Integer = simple.int (pos 0)
  basic_is basic.LongInt = simple.int (pos 0)
  basic_is basic.HugeInt = simple.int (pos 0)
  basic_is basic.Boolean = simple.flag false
  basic_is basic.Char = simple.char 0
  basic_is basic.Set = simple.set 0
  basic_is basic.Nil = simple.nil
  basic_is (basic.Text n) = simple.int (pos 0)

  row_begins : (r : Option TypeRow) → C (first_in r)
  row_begins None = simple.int (pos 0)
  row_begins (Some (row.Basic b)) = basic_is b
  row_begins (Some (row.Array n t)) = simple.int (pos 0)
  row_begins (Some (row.Open t)) = simple.int (pos 0)
  row_begins (Some (row.Record base fields)) = simple.int (pos 0)
  row_begins (Some (row.Pointer to)) = simple.nil
  row_begins (Some (row.Object base fields)) = simple.nil
  row_begins (Some (row.Procedure formals r)) = simple.none
  row_begins (Some row.Any) = simple.nil

  pub sort_begins : (k : Sort) → C (first_value p k)
  sort_begins (Plain t) = row_begins (type_row p.types t)
  sort_begins (Variable t) = simple.int (pos 0)
  sort_begins (Alias t) = simple.int (pos 0)
  sort_begins (Elements t ns) = simple.int (pos 0)
  sort_begins (Length n) = simple.int (pos 0)

  -- what is known at once of the frame's own variables, and of objects
  module _ (made : ℕ → Option Made) (c : Content Value) (h : ContentIs C c) where
    pub known_is : (s : Location) → C (known c s)
    known_is s = scalar_is (found s.path c) (found_is C s.path c h)

    pub length_is : (d : ℕ) (m : Option Made) → C (length_in d m)
    length_is d None = simple.int (pos 0)
    length_is d (Some m) = simple.int _

    module _ (place : (s : Location) → C (Place s)) where
      pub noted_are : {A : Type 0} (d : Doing A) → AllAre C (noted p.types made c d)
      noted_are (Val a) = tt
      noted_are (Traps n code) = tt
      noted_are (Asks (Places s) k) = (known_is s, noted_are (k (known c s)))
      noted_are (Asks (Lengths s) k) = (known_is s, noted_are (k (known c s)))
      noted_are (Asks (Opens v) k) = (place _, noted_are (k (object_place (object_in v) (made (object_in v)))))
      noted_are (Asks (Sizes v d) k) = (length_is d (made (object_in v)), noted_are (k (length_in d (made (object_in v)))))
      noted_are (Asks (Tests v t) k) = (simple.flag _, noted_are (k (has_type_in p.types made c t (made (object_in v)))))
      noted_are (Asks (Reads t s) k) = tt
      noted_are (Asks (Stores s v) k) = tt
      noted_are (Asks (Copies t a b) k) = tt
      noted_are (Asks (PutsText strict a n b m) k) = tt
      noted_are (Asks (ComparesTexts r a n b m) k) = tt
      noted_are (Asks (Calls how q vs) k) = tt
      noted_are (Asks (Ends r) k) = tt
      noted_are (Asks (Makes t vs) k) = tt
      noted_are (Asks (Starts v) k) = tt
      noted_are (Asks Enters k) = tt
      noted_are (Asks Leaves k) = tt
      noted_are (Asks (Awaits n) k) = tt
      noted_are (Asks (PutsInt v n) k) = tt
      noted_are (Asks (PutsChar v) k) = tt
      noted_are (Asks (PutsString s n) k) = tt
      noted_are (Asks PutsNothing k) = tt
      noted_are (Asks PutsLn k) = tt

  -- What a call hands over.

  abbrev pub PartsAre : List Part → Type 0
  PartsAre [] = Unit {0}
  PartsAre (x ∷ xs) = ContentIs C x.content × PartsAre xs

  pub parts_more : (xs ys : List Part) → PartsAre xs → PartsAre ys → PartsAre (xs ++ ys)
  parts_more [] ys h k = k
  parts_more (x ∷ xs) ys h k = (h.0, parts_more xs ys h.1 k)

  pub parts_row : (xs : List Part) → PartsAre xs → ContentIs C (row_of (map (λ x. x.content) xs))
  parts_row [] h = tt
  parts_row (x ∷ xs) h = (h.0, parts_row xs h.1)

  pub head_is : (vs : List Value) → AllAre C vs → C (head vs)
  head_is [] h = simple.int (pos 0)
  head_is (v ∷ vs) h = h.0

  pub lengths_row : (vs : List Value) → AllAre C vs → ContentIs C (content_row (map (λ v. Scalar v) vs))
  lengths_row [] h = tt
  lengths_row (v ∷ vs) h = (h.0, lengths_row vs h.1)

  or_empty_is : (o : Option (Content Value)) → FoundIs C o → ContentIs C (or_empty o)
  or_empty_is None h = tt
  or_empty_is (Some c) h = h

  abbrev pub HandedIs : Handed → Type 0
  HandedIs h = PartsAre h.parameters × PartsAre h.copies

  pub hand_is : (x : Part) (cs : List Part) (h : Handed) → ContentIs C x.content → PartsAre cs → HandedIs h → HandedIs (hand x cs h)
  hand_is x cs h i j k = ((i, k.0), parts_more cs h.copies j k.1)

  module _ (here : ℕ) (fs : List Frame) (s : Store) (h : VariablesAre C fs) (k : StoreIs C s) where
    pub content_is : (v : Value) → ContentIs C (content_at p.types here (all_rooted fs s) v)
    content_is v = or_empty_is (read (place_in v).root (place_in v).path (all_rooted fs s)) (read_is C (place_in v).root (place_in v).path fs s h k)

    module _ (place : (s : Location) → C (Place s)) where
      handed_are : (ps : List Parameter) (vs : List Value) (copy : ℕ) → AllAre C vs → HandedIs (handed p.types here (all_rooted fs s) ps vs copy)
      handed_are [] vs copy cs = (tt, tt)
      handed_are (a ∷ ps) vs copy cs = by (is_open (type_row p.types (id_of a.of))) a.by_reference (is_scalar (type_row p.types (id_of a.of))) (λ n c. handed_are ps (drop n vs) c (all_dropped C n vs cs))
        where
          t : TypeId
          t = id_of a.of

          x : Rooted (Content Value)
          x = all_rooted fs s

          j : ℕ
          j = open_dimensions p.types t

          of : TypeId
          of = open_element p.types t

          lengths : List Value
          lengths = take j (drop 1 vs)

          lengths_are : AllAre C lengths
          lengths_are = all_taken C j (drop 1 vs) (all_dropped C 1 vs cs)

          opened : (v : Value) → C v → ContentIs C (open_part of v lengths).content
          opened v c = (c, lengths_row lengths lengths_are)

          by : (opens by_reference scalar_one : Bool) → ((n : ℕ) (c : ℕ) → HandedIs (handed p.types here x ps (drop n vs) c)) → HandedIs (
              if opens
              then (if by_reference
              then hand (open_part of (head vs) lengths) [] (handed p.types here x ps (drop (suc j) vs) copy)
              else hand (open_part of (own_part p.types here x copy) lengths) (copied p.types here x of (head vs) lengths ∷ []) (handed p.types here x ps (drop (suc j) vs) (suc copy)))
              else if by_reference then hand (scalar (if is_record (type_row p.types t) then Variable t else Alias t) (head vs)) [] (handed p.types here x ps (drop 1 vs) copy)
              else if scalar_one then hand (scalar (Plain t) (head vs)) [] (handed p.types here x ps (drop 1 vs) copy)
              else hand (whole p.types here x t (head vs)) [] (handed p.types here x ps (drop 1 vs) copy))
          by true true b rest = hand_is (open_part of (head vs) lengths) [] (handed p.types here x ps (drop (suc j) vs) copy) (opened (head vs) (head_is vs cs)) tt (rest (suc j) copy)
          by true false b rest =
              hand_is (open_part of (own_part p.types here x copy) lengths) (copied p.types here x of (head vs) lengths ∷ []) (handed p.types here x ps (drop (suc j) vs) (suc copy)) (opened (own_part p.types here x copy) (place _)) (content_is (head vs), tt) (rest (suc j) (suc copy))
          by false true b rest = hand_is (scalar (if is_record (type_row p.types t) then Variable t else Alias t) (head vs)) [] (handed p.types here x ps (drop 1 vs) copy) (head_is vs cs) tt (rest 1 copy)
          by false false true rest = hand_is (scalar (Plain t) (head vs)) [] (handed p.types here x ps (drop 1 vs) copy) (head_is vs cs) tt (rest 1 copy)
          by false false false rest = hand_is (whole p.types here x t (head vs)) [] (handed p.types here x ps (drop 1 vs) copy) (cut_is C (variable_shape p.types t) (content_at p.types here x (head vs)) (content_is (head vs))) tt (rest 1 copy)

  pub locals_are : (vs : List TypedVariable) (following : List ℕ) → PartsAre (map (local_part p following) vs)
  locals_are [] following = tt
  locals_are (v ∷ vs) following = (first_is C (first_value p) _ sort_begins, locals_are vs following)

  pub called_is : (place : (s : Location) → C (Place s)) (following : List ℕ) (r : Routine) (vs : List Value) (fs : List Frame) (s : Store) → AllAre C (arguments_in (has_self r.own) vs) → VariablesAre C fs → StoreIs C s → ContentIs C (called_frame p following r vs fs s).variables
  called_is place following r vs fs s cs h k =
      let locals = map (local_part p following) (locals_of r.own) in
      let copy = length (parameters_of r.own) + length locals in
      let all = handed_are (length fs) fs s h k place (parameters_of r.own) (arguments_in (has_self r.own) vs) copy cs in
      let x = handed p.types (length fs) (all_rooted fs s) (parameters_of r.own) (arguments_in (has_self r.own) vs) copy in
      parts_row (x.parameters ++ (locals ++ x.copies)) (parts_more x.parameters (locals ++ x.copies) all.0 (parts_more locals x.copies (locals_are (locals_of r.own) following) all.1))
