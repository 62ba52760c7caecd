-- What code does, as a tree of questions; and machine-independent facts on trees.
use Rattle.std.proofs.Common.{◌≡◌, ℕ, zero, suc, ◌+◌, List, [], ◌∷◌, ◌++◌, Some, length, drop, refl, sym, ap, ◌∙◌, arith, Bool, true, false, if◌then◌else◌}
use Rattle.std.proofs.Common.{append_assoc, eqb-true}
use Rattle.std.proofs.lemmas.Grind.{reverse_onto}
use Rattle.std.specs.Prelude.{ℤ, pos, nat_eq, Option, None, is_some, slice_get, map, reverse}
use Rattle.aos_base.specs.declared.text.Pos.{Pos}
use Rattle.aos_base.specs.Question.{Tree, Val, Asks, Traps, feed, Reads, Stores, Copies, PutsText, ComparesTexts, ByName, Calls, Ends, Makes, Starts, Enters, Leaves, Awaits, PutsInt, PutsChar, PutsString, PutsNothing, PutsLn, Places, Lengths, Opens, Sizes, Tests}
use Rattle.aos_base.specs.Rooted.{Made}
use Rattle.aos_base.specs.declared.root.Root.TheVariants.{Object as ObjectRoot}
use Rattle.aos_base.specs.Operators.{flag}
use Rattle.aos_typed.specs.Program.{Program}
use Rattle.aos_typed.specs.Numbers.{id_of_made}
use Rattle.aos_typed.specs.Open.{open_dimensions}
use Rattle.aos_typed.specs.Meaning.{Here}
use Rattle.aos_code.specs.declared.instr.Cell.{Cell}
use Rattle.aos_code.specs.declared.instr.Cell.TheVariants.{Num, Ref, Call as CallCell, Place}
use Rattle.aos_code.specs.declared.instr.Instr.{Instr}
use Rattle.aos_code.specs.declared.image.ProcShape.{ProcShape}
use Rattle.aos_code.specs.declared.image.TypeDesc.{TypeDesc}
use Rattle.aos_code.specs.declared.image.Image.{Image}
use Rattle.aos_code.specs.Numbered.{numbered}
use Rattle.aos_code.specs.Silent.{Stack, Keeps, Question, End, Begins, Fails, Decides, Stop, Work, Ended, Look, AtCell, AtElements, IsType, AsType, AsMethod, AtSlot, Act, Goes, Puts, Takes, Looks, Sees, Stops, is_of, kept, extends, length_cells, Noted, Visible, Answered, Unknown, noted, on_noted, Told, Tells, Refuses, Invokes, Unheard, stands_for, invoked, bound, method_at, told_by, on_told, act, on_act, walk, silent}

-- where code comes to a Begin: its place in the code and the text, what is kept, and the operands; or to the end of a condition
pub data Left : Type 0 where
  AtBegin : ℕ → Pos → Keeps → Stack → Left
  Decided : ℤ → Left

abbrev pub Run : Type 0
Run = Tree Question Cell Left

abbrev pub Onward : Type 0
Onward = ℕ → ℕ → Keeps → Stack → Run

abbrev pub ended : End → Keeps → Run
ended (Begins at p s) k = Val (AtBegin at p k s)
ended (Fails n c) k = Traps n c
ended (Decides a) k = Val (Decided a)

-- a procedure of this shape is a function, and leaves its result on the stack
abbrev pub gives_result : Option ProcShape → Bool
gives_result None = false
gives_result (Some f) = is_some f.result

-- what is known of an image's procedures and types
pub record Tables : Type 0 where
  pub procedures : List ProcShape
  pub types : List TypeDesc
  pub dimensions : (type : ℕ) → ℕ  -- how many lengths an object has that is made as the type

abbrev pub tables_of : Program → Image → Tables
tables_of p image =
    record { procedures = image.shapes.items; types = image.types.items; dimensions = λ t. open_dimensions p.types (id_of_made t) }

-- what an object tells is asked of it as a row of questions

abbrev pub is_asked_at_once : Question → Bool
is_asked_at_once (Opens v) = true
is_asked_at_once (Sizes v d) = true
is_asked_at_once (Tests v t) = true
is_asked_at_once q = false

-- this cell of what stands at the place
abbrev pub at_cell : ℕ → Cell → Cell
at_cell c (Place root cell type) = Place root c type
at_cell c v = v

-- the place of elements, which names no type
abbrev pub at_elements : Cell → Cell
at_elements (Place root cell type) = Place root cell 0
at_elements v = v

-- so many lengths of an object, one above the other
abbrev pub asks_sizes : Cell → (dimension many : ℕ) → (Stack → Run) → Stack → Run
asks_sizes v d zero k s = k s
asks_sizes v d (suc n) k s = Asks (Sizes v d) (λ x. asks_sizes v (suc d) n k (x ∷ s))

abbrev pub if_passed : Cell → Run → Run
if_passed (Num (pos (suc zero))) r = r
if_passed v r = Traps 3 0

-- the type of what stands at a place
abbrev pub type_at : Cell → ℕ
type_at (Place root cell type) = type
type_at v = 0

-- the call that an object's type has in a slot, where it has one
abbrev pub invokes : Told → (Question → Run) → Run
invokes (Invokes q vs) call = call (Calls ByName q vs)
invokes (Tells vs) call = Traps 16 0
invokes (Refuses n) call = Traps 16 0
invokes Unheard call = Traps 16 0

-- the method that an object's type has in a slot, as a value with it, where it has one
abbrev pub binds : Told → (Stack → Run) → Stack → Run
binds (Tells vs) k s = k (vs ++ s)
binds (Refuses n) k s = Traps 16 0
binds (Invokes q vs) k s = Traps 16 0
binds Unheard k s = Traps 16 0

-- of an image's procedures and types this is known
module _ (tables : Tables) where
  -- what stands at the place has so many dimensions
  abbrev pub if_as_many : ℕ → Cell → Run → Run
  if_as_many j v r = if nat_eq j (tables.dimensions (type_at v)) then r else Traps 16 0

  abbrev pub looked : Look → (object : ℕ) → (Question → Run) → (Stack → Run) → Stack → Run
  looked (AtCell c) o call k s = Asks (Opens (Ref o)) (λ x. k (at_cell c x ∷ s))
  looked (AtElements j) o call k s = Asks (Opens (Ref o)) (λ x. if_as_many j x (asks_sizes (Ref o) 0 j k (at_elements x ∷ s)))
  looked (IsType t) o call k s = Asks (Tests (Ref o) t) (λ x. k (x ∷ s))
  looked (AsType t) o call k s = Asks (Tests (Ref o) t) (λ x. if_passed x (k (Ref o ∷ s)))
  looked (AsMethod c) o call k s = Asks (Opens (Ref o)) (λ x. binds (bound (method_at tables.types (type_at x) c) o) k s)
  looked (AtSlot c p vs) o call k s =
      Asks (Opens (Ref o)) (λ x. invokes (invoked tables.procedures p (method_at tables.types (type_at x) c) o vs) call)

  -- work is done, and with its answer the code goes on behind it; behind an end nothing follows
  abbrev pub past : Question → Cell → ℕ → Keeps → Stack → Onward → Run
  past (Reads kind a) x at k s next = next 0 (at + 1) k (x ∷ s)
  past (Stores a v) x at k s next = next 0 (at + 1) k s
  past (Copies n from to) x at k s next = next 0 (at + 1) k s
  past (PutsText strict from n to room) x at k s next = next 0 (at + 1) k s
  past (ComparesTexts r a n b m) x at k s next = next 0 (at + 1) k (x ∷ s)
  past (Calls how p vs) x at k s next = next 0 (at + 1) k (if gives_result (numbered tables.procedures p) then x ∷ s else s)
  past (Ends r) x at k s next = Traps 0 0
  past (Makes t ns) x at k s next = next 0 (at + 1) k (x ∷ s)
  past (Starts v) x at k s next = next 0 (at + 1) k s
  past Enters x at k s next = next 0 (at + 1) k s
  past Leaves x at k s next = next 0 (at + 1) k s
  past (Awaits c) x at k s next = next 0 (at + 1) k s
  past (PutsInt v n) x at k s next = next 0 (at + 1) k s
  past (PutsChar v) x at k s next = next 0 (at + 1) k s
  past (PutsString a n) x at k s next = next 0 (at + 1) k s
  past PutsNothing x at k s next = next 0 (at + 1) k s
  past PutsLn x at k s next = next 0 (at + 1) k s
  past (Places a) x at k s next = next 0 (at + 1) k (x ∷ s)
  past (Lengths a) x at k s next = next 0 (at + 1) k (x ∷ s)
  past (Opens v) x at k s next = Traps 16 0
  past (Sizes v d) x at k s next = Traps 16 0
  past (Tests v t) x at k s next = Traps 16 0

  -- what an object is asked for is no work of an instruction
  abbrev pub at_work : Question → ℕ → Keeps → Stack → Onward → Run
  at_work q at k s next = if is_asked_at_once q then Traps 16 0 else Asks q (λ x. past q x at k s next)

  abbrev pub on_run : Act → Onward → ℕ → Keeps → Run
  on_run (Goes over s) next at k = next over (at + 1) k s
  on_run (Puts c v s) next at k = next 0 (at + 1) (kept c v k) s
  on_run (Takes c kind s) next at k = if is_of kind (k c) then next 0 (at + 1) k (k c ∷ s) else Traps 16 0
  on_run (Looks l o s) next at k = looked l o (λ q. at_work q at k s next) (λ s'. next 0 (at + 1) k s') s
  on_run (Sees q s) next at k = at_work q at k s next
  on_run (Stops end) next at k = ended end k

-- Silent questions are answered by the frame's own cells, or by what objects are known to be made as.
abbrev pub told_as : (Made → Noted) → Option Made → Noted
told_as f None = Unknown
told_as f (Some m) = f m

abbrev pub or_unknown : Option ℕ → Noted
or_unknown None = Unknown
or_unknown (Some n) = Answered (Num (pos n))

module _ (types : List TypeDesc) (made : ℕ → Option Made) (cells : List Cell) where
  abbrev pub of_object : (ℕ → Noted) → Cell → Noted
  of_object f (Ref o) = f o
  of_object f (Num z) = Unknown
  of_object f (CallCell p o) = Unknown
  of_object f (Place root cell type) = Unknown

  abbrev pub answered : Question → Noted
  answered (Opens v) = of_object (λ o. told_as (λ m. Answered (Place (ObjectRoot o) 0 m.type)) (made o)) v
  answered (Sizes v d) = of_object (λ o. told_as (λ m. or_unknown (slice_get m.lengths d)) (made o)) v
  answered (Tests v t) = of_object (λ o. told_as (λ m. Answered (Num (flag (extends types m.type t)))) (made o)) v
  answered q = noted cells q

  -- the first visible question behind silent ones
  abbrev pub calm : Run → Run
  calm (Val a) = Val a
  calm (Traps n c) = Traps n c
  calm (Asks q f) = by (answered q) (λ v. calm (f v))
    where
      by : Noted → (Cell → Run) → Run
      by Visible on = Asks q f
      by (Answered v) on = on v
      by Unknown on = Traps 16 0

-- in a frame of a procedure, above so many others
module _ (tables : Tables) (own : ℕ) (here : Here) (code : List Instr) where
  abbrev pub runs : List Instr → Onward
  runs [] over at k s = Traps 16 0
  runs (i ∷ rest) zero at k s = on_run tables (act tables.procedures tables.types own here i code at s) (runs rest) at k
  runs (i ∷ rest) (suc n) at k s = runs rest n (at + 1) k s

  -- from a place of the code
  abbrev pub run : ℕ → Keeps → Stack → Run
  run at k s = runs (drop at code) 0 at k s

  -- the run from where silent work stops
  abbrev pub resume : Stop → Run
  resume (Work q at k s) = at_work tables q at k s (λ over at' k' s'. runs (drop at' code) over at' k' s')
  resume (Ended end k) = ended end k

pub drop_next : (at : ℕ) (code : List Instr) (i : Instr) (rest : List Instr) → drop at code ≡ i ∷ rest → drop (at + 1) code ≡ rest
drop_next zero [] i rest e = cc
drop_next zero (x ∷ xs) i rest e = cc
drop_next (suc at) [] i rest e = cc
drop_next (suc at) (x ∷ xs) i rest e =
    let n : suc at + 1 ≡ suc (at + 1) = omega arith in
    ap (λ m. drop m (x ∷ xs)) n ∙ drop_next at xs i rest e

pub drop_past : (xs : List Instr) (at : ℕ) (code rest : List Instr) → drop at code ≡ xs ++ rest → drop (at + length xs) code ≡ rest
drop_past [] at code rest e = let n : at + 0 ≡ at = omega arith in ap (λ m. drop m code) n ∙ e
drop_past (x ∷ xs) at code rest e =
    let n : at + suc (length xs) ≡ at + 1 + length xs = omega arith in
    ap (λ m. drop m code) n ∙ drop_past xs (at + 1) code rest (drop_next at code x (xs ++ rest) e)

pub get_at : (at : ℕ) (code : List Instr) (i : Instr) (rest : List Instr) → drop at code ≡ i ∷ rest → slice_get code at ≡ Some i
get_at zero [] i rest e = cc
get_at zero (x ∷ xs) i rest e = cc
get_at (suc at) [] i rest e = cc
get_at (suc at) (x ∷ xs) i rest e = get_at at xs i rest e

-- Silent questions.

module _ (types : List TypeDesc) (made : ℕ → Option Made) (cells : List Cell) (q : Question) (f : Cell → Run) where
  pub calm_visible : answered types made cells q ≡ Visible → calm types made cells (Asks q f) ≡ Asks q f
  calm_visible e = rw e refl

  pub calm_answered : (v : Cell) → answered types made cells q ≡ Answered v → calm types made cells (Asks q f) ≡ calm types made cells (f v)
  calm_answered v e = rw e refl

  calm_unknown : answered types made cells q ≡ Unknown → calm types made cells (Asks q f) ≡ Traps 16 0
  calm_unknown e = rw e refl

-- with the answer to a silent question the code goes on behind it
past_answered : (tables : Tables) (cells : List Cell) (q : Question) (v : Cell) (at : ℕ) (k : Keeps) (s : Stack) (next : Onward) → noted cells q ≡ Answered v → past tables q v at k s next ≡ next 0 (at + 1) k (v ∷ s)
past_answered tables cells (Places a) v at k s next e = refl
past_answered tables cells (Lengths a) v at k s next e = refl
past_answered tables cells (Reads kind a) v at k s next e = refl
past_answered tables cells (Stores a x) v at k s next e = absurd (cc)
past_answered tables cells (Copies n from to) v at k s next e = absurd (cc)
past_answered tables cells (PutsText strict from n to room) v at k s next e = absurd (cc)
past_answered tables cells (ComparesTexts r a n b m) v at k s next e = refl
past_answered tables cells (Calls how p vs) v at k s next e = absurd (cc)
past_answered tables cells (Ends r) v at k s next e = absurd (cc)
past_answered tables cells (Makes t ns) v at k s next e = refl
past_answered tables cells (Starts x) v at k s next e = absurd (cc)
past_answered tables cells Enters v at k s next e = absurd (cc)
past_answered tables cells Leaves v at k s next e = absurd (cc)
past_answered tables cells (Awaits c) v at k s next e = absurd (cc)
past_answered tables cells (PutsInt x n) v at k s next e = absurd (cc)
past_answered tables cells (PutsChar x) v at k s next e = absurd (cc)
past_answered tables cells (PutsString a n) v at k s next e = absurd (cc)
past_answered tables cells PutsNothing v at k s next e = absurd (cc)
past_answered tables cells PutsLn v at k s next e = absurd (cc)
past_answered tables cells (Opens x) v at k s next e = absurd (cc)
past_answered tables cells (Sizes x d) v at k s next e = absurd (cc)
past_answered tables cells (Tests x t) v at k s next e = absurd (cc)

past_same : (tables : Tables) (q : Question) (x : Cell) (at : ℕ) (k : Keeps) (s : Stack) (next next' : Onward) → ((s' : Stack) → next 0 (at + 1) k s' ≡ next' 0 (at + 1) k s') → past tables q x at k s next ≡ past tables q x at k s next'
past_same tables (Reads kind a) x at k s next next' e = e (x ∷ s)
past_same tables (Stores a v) x at k s next next' e = e s
past_same tables (Copies n from to) x at k s next next' e = e s
past_same tables (PutsText strict from n to room) x at k s next next' e = e s
past_same tables (ComparesTexts r a n b m) x at k s next next' e = e (x ∷ s)
past_same tables (Calls how p vs) x at k s next next' e = e (if gives_result (numbered tables.procedures p) then x ∷ s else s)
past_same tables (Ends r) x at k s next next' e = refl
past_same tables (Makes t ns) x at k s next next' e = e (x ∷ s)
past_same tables (Starts v) x at k s next next' e = e s
past_same tables Enters x at k s next next' e = e s
past_same tables Leaves x at k s next next' e = e s
past_same tables (Awaits c) x at k s next next' e = e s
past_same tables (PutsInt v n) x at k s next next' e = e s
past_same tables (PutsChar v) x at k s next next' e = e s
past_same tables (PutsString a n) x at k s next next' e = e s
past_same tables PutsNothing x at k s next next' e = e s
past_same tables PutsLn x at k s next next' e = e s
past_same tables (Places a) x at k s next next' e = e (x ∷ s)
past_same tables (Lengths a) x at k s next next' e = e (x ∷ s)
past_same tables (Opens v) x at k s next next' e = refl
past_same tables (Sizes v d) x at k s next next' e = refl
past_same tables (Tests v t) x at k s next next' e = refl

-- What an object tells as a row of questions is what it tells at once.

-- the operands below those of these cells, of which the last is the topmost
abbrev pub pushed : List Cell → Stack → Stack
pushed [] s = s
pushed (c ∷ cs) s = pushed cs (c ∷ s)

pub pushed_reverse : (cs : List Cell) (s : Stack) → pushed cs s ≡ reverse cs ++ s
pushed_reverse [] s = refl
pushed_reverse (c ∷ cs) s =
    pushed_reverse cs (c ∷ s) ∙ sym (append_assoc (reverse cs) (c ∷ []) s) ∙ ap (λ l. l ++ s) (sym (reverse_onto cs c []))

abbrev pub numbers : List ℕ → List Cell
numbers ns = map (λ n. Num (pos n)) ns

module _ (tables : Tables) (made : ℕ → Option Made) (cells : List Cell) (o : ℕ) (call : Question → Run) (k : Stack → Run) where
  abbrev types : List TypeDesc
  types = tables.types

  abbrev calmed : Run → Run
  calmed r = calm types made cells r

  -- what is told, and what follows
  abbrev told_run : Told → Stack → Run
  told_run (Tells vs) s = calmed (k (vs ++ s))
  told_run (Refuses n) s = Traps n 0
  told_run (Invokes q vs) s = calmed (call (Calls ByName q vs))
  told_run Unheard s = Traps 16 0

  module _ (m : Made) (is : made o ≡ Some m) (long : length m.lengths ≡ tables.dimensions m.type) where
    size_known : (d n x : ℕ) (s : Stack) → slice_get m.lengths d ≡ Some x → calmed (asks_sizes (Ref o) d (suc n) k s) ≡ calmed (asks_sizes (Ref o) (suc d) n k (Num (pos x) ∷ s))
    size_known d n x s e =
        calm_answered types made cells (Sizes (Ref o) d) (λ y. asks_sizes (Ref o) (suc d) n k (y ∷ s)) (Num (pos x))
        (ap (told_as (λ m. or_unknown (slice_get m.lengths d))) is ∙ ap or_unknown e)

    sizes_told : (d : ℕ) (ns : List ℕ) (s : Stack) → ((j : ℕ) → slice_get ns j ≡ slice_get m.lengths (d + j)) → calmed (asks_sizes (Ref o) d (length ns) k s) ≡ calmed (k (pushed (numbers ns) s))
    sizes_told d [] s e = refl
    sizes_told d (x ∷ ns) s e =
        let z : d + 0 ≡ d = omega arith in
        size_known d (length ns) x s (ap (slice_get m.lengths) (sym z) ∙ sym (e 0))
        ∙ sizes_told (suc d) ns (Num (pos x) ∷ s) (λ j. let f : d + suc j ≡ suc d + j = omega arith in e (suc j) ∙ ap (slice_get m.lengths) f)

    -- all lengths are told where they are so many
    elements_told : (j : ℕ) (s : Stack) → calmed (if_as_many tables j (Place (ObjectRoot o) 0 m.type) (asks_sizes (Ref o) 0 j k (Place (ObjectRoot o) 0 0 ∷ s))) ≡ told_run (told_by tables.procedures types (AtElements j) o (Some m)) s
    elements_told j s =
        let st = Place (ObjectRoot o) 0 0 ∷ s in
        ap (λ n. calmed (if nat_eq j n then asks_sizes (Ref o) 0 j k st else Traps 16 0)) (sym long) ∙ by (nat_eq j (length m.lengths)) refl
      where
        by : (b : Bool) → nat_eq j (length m.lengths) ≡ b →
            calmed (if b then asks_sizes (Ref o) 0 j k (Place (ObjectRoot o) 0 0 ∷ s) else Traps 16 0) ≡ told_run (if b then Tells (length_cells m.lengths ++ Place (ObjectRoot o) 0 0 ∷ []) else Unheard) s
        by true same =
            let st = Place (ObjectRoot o) 0 0 ∷ s in
            ap (λ n. calmed (asks_sizes (Ref o) 0 n k st)) (eqb-true j (length m.lengths) same)
            ∙ sizes_told 0 m.lengths st (λ i. let z : i ≡ 0 + i = omega arith in ap (slice_get m.lengths) z)
            ∙ ap (λ z. calmed (k z)) (pushed_reverse (numbers m.lengths) st ∙ sym (append_assoc (length_cells m.lengths) (Place (ObjectRoot o) 0 0 ∷ []) s))
        by false same = refl

    test_told : (b : Bool) (s : Stack) → calmed (if_passed (Num (flag b)) (k (Ref o ∷ s))) ≡ told_run (if b then Tells (Ref o ∷ []) else Refuses 3) s
    test_told true s = refl
    test_told false s = refl

    method_told : (p : ℕ) (vs : List Cell) (s : Stack) (n : Option ℕ) → calmed (invokes (invoked tables.procedures p n o vs) call) ≡ told_run (invoked tables.procedures p n o vs) s
    method_told p vs s None = refl
    method_told p vs s (Some q) = by (stands_for (numbered tables.procedures q) (numbered tables.procedures p))
      where
        by : (b : Bool) → calmed (invokes (if b then Invokes q (Ref o ∷ vs) else Unheard) call) ≡ told_run (if b then Invokes q (Ref o ∷ vs) else Unheard) s
        by true = refl
        by false = refl

    bound_told : (n : Option ℕ) (s : Stack) → calmed (binds (bound n o) k s) ≡ told_run (bound n o) s
    bound_told None s = refl
    bound_told (Some q) s = refl

    tells : (l : Look) (s : Stack) → calmed (looked tables l o call k s) ≡ told_run (told_by tables.procedures types l o (Some m)) s
    tells (AtCell c) s =
        calm_answered types made cells (Opens (Ref o)) (λ x. k (at_cell c x ∷ s)) (Place (ObjectRoot o) 0 m.type) (ap (told_as (λ m. Answered (Place (ObjectRoot o) 0 m.type))) is)
    tells (AtElements j) s =
        calm_answered types made cells (Opens (Ref o)) (λ x. if_as_many tables j x (asks_sizes (Ref o) 0 j k (at_elements x ∷ s))) (Place (ObjectRoot o) 0 m.type) (ap (told_as (λ m. Answered (Place (ObjectRoot o) 0 m.type))) is)
        ∙ elements_told j s
    tells (IsType t) s =
        calm_answered types made cells (Tests (Ref o) t) (λ x. k (x ∷ s)) (Num (flag (extends types m.type t))) (ap (told_as (λ m. Answered (Num (flag (extends types m.type t))))) is)
    tells (AsType t) s =
        calm_answered types made cells (Tests (Ref o) t) (λ x. if_passed x (k (Ref o ∷ s))) (Num (flag (extends types m.type t))) (ap (told_as (λ m. Answered (Num (flag (extends types m.type t))))) is)
        ∙ test_told (extends types m.type t) s
    tells (AsMethod c) s =
        calm_answered types made cells (Opens (Ref o)) (λ x. binds (bound (method_at types (type_at x) c) o) k s) (Place (ObjectRoot o) 0 m.type) (ap (told_as (λ m. Answered (Place (ObjectRoot o) 0 m.type))) is)
        ∙ bound_told (method_at types m.type c) s
    tells (AtSlot c p vs) s =
        calm_answered types made cells (Opens (Ref o)) (λ x. invokes (invoked tables.procedures p (method_at types (type_at x) c) o vs) call) (Place (ObjectRoot o) 0 m.type) (ap (told_as (λ m. Answered (Place (ObjectRoot o) 0 m.type))) is)
        ∙ method_told p vs s (method_at types m.type c)

  tells_nothing : made o ≡ None → (l : Look) (s : Stack) → calmed (looked tables l o call k s) ≡ Traps 16 0
  tells_nothing e (AtCell c) s = calm_unknown types made cells (Opens (Ref o)) (λ x. k (at_cell c x ∷ s)) (ap (told_as (λ m. Answered (Place (ObjectRoot o) 0 m.type))) e)
  tells_nothing e (AtElements j) s =
      calm_unknown types made cells (Opens (Ref o)) (λ x. if_as_many tables j x (asks_sizes (Ref o) 0 j k (at_elements x ∷ s))) (ap (told_as (λ m. Answered (Place (ObjectRoot o) 0 m.type))) e)
  tells_nothing e (IsType t) s = calm_unknown types made cells (Tests (Ref o) t) (λ x. k (x ∷ s)) (ap (told_as (λ m. Answered (Num (flag (extends types m.type t))))) e)
  tells_nothing e (AsType t) s =
      calm_unknown types made cells (Tests (Ref o) t) (λ x. if_passed x (k (Ref o ∷ s))) (ap (told_as (λ m. Answered (Num (flag (extends types m.type t))))) e)
  tells_nothing e (AsMethod c) s =
      calm_unknown types made cells (Opens (Ref o)) (λ x. binds (bound (method_at types (type_at x) c) o) k s) (ap (told_as (λ m. Answered (Place (ObjectRoot o) 0 m.type))) e)
  tells_nothing e (AtSlot c p vs) s =
      calm_unknown types made cells (Opens (Ref o)) (λ x. invokes (invoked tables.procedures p (method_at types (type_at x) c) o vs) call) (ap (told_as (λ m. Answered (Place (ObjectRoot o) 0 m.type))) e)

  told_at_once : ((m : Made) → made o ≡ Some m → length m.lengths ≡ tables.dimensions m.type) → (l : Look) (s : Stack) → calmed (looked tables l o call k s) ≡ told_run (told_by tables.procedures types l o (made o)) s
  told_at_once long l s = by (made o) refl
    where
      by : (r : Option Made) → made o ≡ r → calmed (looked tables l o call k s) ≡ told_run (told_by tables.procedures types l o r) s
      by None e = tells_nothing e l s
      by (Some m) e = tells m e (long m e) l s

-- whatever object it is, a question that is asked at once isn't visible work
answered_noted : (types : List TypeDesc) (made : ℕ → Option Made) (cells : List Cell) (q : Question) → is_asked_at_once q ≡ false → answered types made cells q ≡ noted cells q
answered_noted types made cells (Reads kind a) e = refl
answered_noted types made cells (Stores a v) e = refl
answered_noted types made cells (Copies n from to) e = refl
answered_noted types made cells (PutsText strict from n to room) e = refl
answered_noted types made cells (ComparesTexts r a n b m) e = refl
answered_noted types made cells (Calls how p vs) e = refl
answered_noted types made cells (Ends r) e = refl
answered_noted types made cells (Makes t ns) e = refl
answered_noted types made cells (Starts v) e = refl
answered_noted types made cells Enters e = refl
answered_noted types made cells Leaves e = refl
answered_noted types made cells (Awaits c) e = refl
answered_noted types made cells (PutsInt v n) e = refl
answered_noted types made cells (PutsChar v) e = refl
answered_noted types made cells (PutsString a n) e = refl
answered_noted types made cells PutsNothing e = refl
answered_noted types made cells PutsLn e = refl
answered_noted types made cells (Places a) e = refl
answered_noted types made cells (Lengths a) e = refl
answered_noted types made cells (Opens v) e = absurd (cc)
answered_noted types made cells (Sizes v d) e = absurd (cc)
answered_noted types made cells (Tests v t) e = absurd (cc)

-- and by its cells a frame answers none of them
object_unnoted : (cells : List Cell) (q : Question) → is_asked_at_once q ≡ true → noted cells q ≡ Visible
object_unnoted cells (Opens v) e = refl
object_unnoted cells (Sizes v d) e = refl
object_unnoted cells (Tests v t) e = refl
object_unnoted cells (Reads kind a) e = absurd (cc)
object_unnoted cells (Stores a v) e = absurd (cc)
object_unnoted cells (Copies n from to) e = absurd (cc)
object_unnoted cells (PutsText strict from n to room) e = absurd (cc)
object_unnoted cells (ComparesTexts r a n b m) e = absurd (cc)
object_unnoted cells (Calls how p vs) e = absurd (cc)
object_unnoted cells (Ends r) e = absurd (cc)
object_unnoted cells (Makes t ns) e = absurd (cc)
object_unnoted cells (Starts v) e = absurd (cc)
object_unnoted cells Enters e = absurd (cc)
object_unnoted cells Leaves e = absurd (cc)
object_unnoted cells (Awaits c) e = absurd (cc)
object_unnoted cells (PutsInt v n) e = absurd (cc)
object_unnoted cells (PutsChar v) e = absurd (cc)
object_unnoted cells (PutsString a n) e = absurd (cc)
object_unnoted cells PutsNothing e = absurd (cc)
object_unnoted cells PutsLn e = absurd (cc)
object_unnoted cells (Places a) e = absurd (cc)
object_unnoted cells (Lengths a) e = absurd (cc)

-- where each object has as many lengths as its type has dimensions
module _ (tables : Tables) (made : ℕ → Option Made) (long : (o : ℕ) (m : Made) → made o ≡ Some m → length m.lengths ≡ tables.dimensions m.type) (own : ℕ) (here : Here) (cells : List Cell) (code : List Instr) where
  abbrev runs_here : List Instr → Onward
  runs_here = runs tables own here code

  abbrev calm_here : Run → Run
  calm_here = calm tables.types made cells

  abbrev stops : List Instr → ℕ → ℕ → Keeps → Stack → Stop
  stops = walk tables.procedures tables.types made own here cells code

  abbrev from_stop : Stop → Run
  from_stop = resume tables own here code

  -- silent work over the rest of the code leads where its run does, as far as it's silent
  abbrev Leads : List Instr → ℕ → Type 0
  Leads rest at = (over : ℕ) (k : Keeps) (s : Stack) → calm_here (runs_here rest over at k s) ≡ from_stop (stops rest over at k s)

  by_note : (rest : List Instr) (at : ℕ) → drop (at + 1) code ≡ rest → Leads rest (at + 1) → (q : Question) (k : Keeps) (s : Stack) (n : Noted) → noted cells q ≡ n → (b : Bool) → is_asked_at_once q ≡ b → calm_here (if b then Traps 16 0 else Asks q (λ x. past tables q x at k s (runs_here rest))) ≡ from_stop (on_noted n q (stops rest) at k s)
  by_note rest at e ih q k s Visible n false h =
      calm_visible tables.types made cells q (λ x. past tables q x at k s (runs_here rest)) (answered_noted tables.types made cells q h ∙ n)
      ∙ ap (Asks q) (λ j x. past_same tables q x at k s (runs_here rest) (λ over at' k' s'. runs_here (drop at' code) over at' k' s') (λ s'. ap (λ l. runs_here l 0 (at + 1) k s') (sym e)) j)
      ∙ ap (λ c. if c then Traps 16 0 else Asks q (λ x. past tables q x at k s (λ over at' k' s'. runs_here (drop at' code) over at' k' s'))) (sym h)
  by_note rest at e ih q k s Visible n true h =
      ap (λ c. if c then Traps 16 0 else Asks q (λ x. past tables q x at k s (λ over at' k' s'. runs_here (drop at' code) over at' k' s'))) (sym h)
  by_note rest at e ih q k s (Answered v) n false h =
      calm_answered tables.types made cells q (λ x. past tables q x at k s (runs_here rest)) v (answered_noted tables.types made cells q h ∙ n)
      ∙ ap calm_here (past_answered tables cells q v at k s (runs_here rest) n) ∙ ih 0 k (v ∷ s)
  by_note rest at e ih q k s (Answered v) n true h = let z = object_unnoted cells q h in absurd (cc)
  by_note rest at e ih q k s Unknown n false h = calm_unknown tables.types made cells q (λ x. past tables q x at k s (runs_here rest)) (answered_noted tables.types made cells q h ∙ n)
  by_note rest at e ih q k s Unknown n true h = let z = object_unnoted cells q h in absurd (cc)

  by_test : (rest : List Instr) (at : ℕ) → Leads rest (at + 1) → (b : Bool) (k : Keeps) (s : Stack) → calm_here (if b then runs_here rest 0 (at + 1) k s else Traps 16 0) ≡ from_stop (if b then stops rest 0 (at + 1) k s else Ended (Fails 16 0) k)
  by_test rest at ih true k s = ih 0 k s
  by_test rest at ih false k s = refl

  by_told : (rest : List Instr) (at : ℕ) → drop (at + 1) code ≡ rest → Leads rest (at + 1) → (o : ℕ) (k : Keeps) (s : Stack) (t : Told) → told_run tables made cells o (λ q. at_work tables q at k s (runs_here rest)) (λ s'. runs_here rest 0 (at + 1) k s') t s ≡ from_stop (on_told t (stops rest) at k s)
  by_told rest at e ih o k s (Tells vs) = ih 0 k (vs ++ s)
  by_told rest at e ih o k s (Refuses n) = refl
  by_told rest at e ih o k s (Invokes q vs) = by_note rest at e ih (Calls ByName q vs) k s Visible refl false refl
  by_told rest at e ih o k s Unheard = refl

  -- one instruction, where the rest is known
  by_act : (rest : List Instr) (at : ℕ) → drop (at + 1) code ≡ rest → Leads rest (at + 1) → (k : Keeps) (a : Act) → calm_here (on_run tables a (runs_here rest) at k) ≡ from_stop (on_act tables.procedures tables.types made cells a (stops rest) at k)
  by_act rest at e ih k (Goes over s) = ih over k s
  by_act rest at e ih k (Puts c v s) = ih 0 (kept c v k) s
  by_act rest at e ih k (Takes c kind s) = by_test rest at ih (is_of kind (k c)) k (k c ∷ s)
  by_act rest at e ih k (Looks l o s) =
      told_at_once tables made cells o (λ q. at_work tables q at k s (runs_here rest)) (λ s'. runs_here rest 0 (at + 1) k s') (long o) l s
      ∙ by_told rest at e ih o k s (told_by tables.procedures tables.types l o (made o))
  by_act rest at e ih k (Sees q s) = by_note rest at e ih q k s (noted cells q) refl (is_asked_at_once q) refl
  by_act rest at e ih k (Stops (Begins to p s)) = refl
  by_act rest at e ih k (Stops (Fails n c)) = refl
  by_act rest at e ih k (Stops (Decides a)) = refl

  run_by_walk : (rest : List Instr) (at : ℕ) → drop at code ≡ rest → Leads rest at
  run_by_walk [] at e over k s = refl
  run_by_walk (i ∷ rest) at e (suc n) k s = run_by_walk rest (at + 1) (drop_next at code i rest e) n k s
  run_by_walk (i ∷ rest) at e zero k s =
      let next = drop_next at code i rest e in
      by_act rest at next (run_by_walk rest (at + 1) next) k (act tables.procedures tables.types own here i code at s)

  -- the run from a place of the code, as far as it's silent, is that from where silent work from there stops
  pub run_by_silent : (at : ℕ) (k : Keeps) (s : Stack) → calm tables.types made cells (run tables own here code at k s) ≡ resume tables own here code (silent tables.procedures tables.types made own here cells code at k s)
  run_by_silent at k s = run_by_walk (drop at code) at refl 0 k s

feed-traps : {Q V A : Type 0} (u : List V) (n c : ℕ) → feed {Q = Q} {V = V} {A = A} u (Traps n c) ≡ Traps n c
feed-traps [] n c = refl
feed-traps (v ∷ u) n c = refl

pub feed-append : {Q V A : Type 0} (t u : List V) (r : Tree Q V A) → feed (t ++ u) r ≡ feed u (feed t r)
feed-append [] u r = refl
feed-append (v ∷ t) u (Val a) = sym (feed-traps u 0 0)
feed-append (v ∷ t) u (Asks q f) = feed-append t u (f v)
feed-append (v ∷ t) u (Traps n c) = sym (feed-traps u n c)
