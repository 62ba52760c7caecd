-- What a condition comes to: its code, evaluated over a frame to its end, gives the verdict of its expression.
use Rattle.std.proofs.Common.{◌≡◌, Bool, true, false, ℕ, zero, suc, pos, ◌+◌, ◌≤◌, ◌<◌, List, [], ◌∷◌, ◌++◌, length, map, drop, Option, Some, None, if◌then◌else◌, refl, sym, ap, ◌∙◌, subst, arith}
use Rattle.std.specs.Prelude.{slice_get, ◌&&◌}
use Rattle.std.specs.List.{list_all}
use Rattle.std.proofs.lemmas.List.{drop_all}
use Rattle.std.proofs.lemmas.List.Folds.{list_all-append}
use Rattle.aos_base.specs.declared.kernel.Verdict.{Verdict}
use Rattle.aos_base.specs.declared.kernel.Verdict.TheVariants as verdict_is
use Rattle.aos_base.specs.Number.{holds}
use Rattle.aos_base.specs.Rooted.{Made, Rooted, by_number}
use Rattle.aos_base.specs.Text.{order}
use Rattle.aos_base.specs.Question.{ByName, Val, Asks, Traps, Reads, Stores, Copies, PutsText, ComparesTexts, Calls, Ends, Makes, Starts, Enters, Leaves, Awaits, PutsInt, PutsChar, PutsString, PutsNothing, PutsLn, Places, Lengths, Opens, Sizes, Tests}
use Rattle.aos_types.specs.declared.row.TypeRow.{TypeRow}
use Rattle.aos_types.specs.Content.{Content}
use Rattle.aos_types.specs.World.{World}
use Rattle.aos_typed.specs.declared.tree.TType.TheVariants as type
use Rattle.aos_typed.specs.Program.{Place, ModuleVar, Local, Passed, Field, Index, Of, Deref, Typed, Guarded, Rows, Known, Opened, Row, Spread, Longer, Expr, Lit, SelfRef, Read, Unary, Binary, And, Or, Element, Ord, Chr, CompareTexts, Len, LenBehind, Function, Same as SameAs, Is as IsOfType, IsRecord, Guard, ProcedureOf, MethodOf, SameProcedure, Had, Procedure, Program}
use Rattle.aos_typed.specs.declared.tree.Literal.{Literal}
use Rattle.aos_typed.specs.declared.tree.Literal.TheVariants as literal
use Rattle.aos_typed.specs.Conditions.{Condition, conditions, HasNoCalls, HasNoCallsInPlace, HasNoCallsInRows}
use Rattle.aos_typed.specs.Routines.{result_of}
use Rattle.aos_typed.specs.WellTyped.{IsOf}
use Rattle.aos_typed.specs.Numbers.{id_of}
use Rattle.aos_typed.specs.Sort.{Sort, Plain}
use Rattle.aos_typed.specs.Location.{Location}
use Rattle.aos_typed.specs.Value.{Value, Flag, number_of, is_true}
use Rattle.aos_typed.specs.Typing.{Is, IsPlain}
use Rattle.aos_typed.specs.Store.{Store, scalar_in}
use Rattle.aos_typed.specs.Meaning as source
use Rattle.aos_typed.specs.Meaning.{Here, Doing, value_of}
use Rattle.aos_typed.specs.Source as S
use Rattle.aos_code.specs.declared.instr.Cell.{Cell}
use Rattle.aos_code.specs.declared.instr.Instr.{Instr}
use Rattle.aos_code.specs.declared.instr.Instr.TheVariants as i
use Rattle.aos_code.specs.declared.image.Body.{Body}
use Rattle.aos_code.specs.declared.image.ProcShape.{ProcShape}
use Rattle.aos_code.specs.declared.image.TypeDesc.{TypeDesc}
use Rattle.aos_code.specs.declared.image.Image.{Image}
use Rattle.aos_code.specs.Memory.{Memory}
use Rattle.aos_code.specs.Silent.{Stack, Keeps, Question, Stop, Work, Ended, Act, Goes, Puts, Takes, Looks, Sees, Stops, lost, kept, is_of, Noted, Visible, Answered, Unknown, noted, on_noted, Told, Tells, Refuses, Invokes, Unheard, told_by, on_told, act, on_act, walk, silent}
use Rattle.aos_code.specs.Machine as I
use Rattle.aos_memory_laws.specs.Shows.{Shows}
use Rattle.aos_memory_laws.proofs.Grow.{grows_same}
use Rattle.aos_memory_laws.proofs.Places.{read_alike}
use Rattle.aos_sim.specs.Cells.{cell_of}
use Rattle.aos_sim.specs.Code.{dimensions, kind_of, literal_code, lengths_code, drops, operands_code, and_code, or_code, place_code, rows_code, value_code, condition_code}
use Rattle.aos_sim.proofs.Kept.{values_kept}
use Rattle.aos_sim.proofs.Runs.{Run, tables_of, Decided, calm, runs, run, resume, run_by_silent}
use Rattle.aos_sim.proofs.References.{stored_kind}
use Rattle.aos_sim.proofs.Bodies.{alike_at}
use Rattle.aos_sim.proofs.Exprs.{value_does}
use Rattle.aos_sim.proofs.Evaluates.{Pushed}
use Rattle.aos_sim.proofs.Does.{scheme, addr_of, placed, HasCharacters, HasText, HasTypes, HasShapes, Knows, IsWhole, IsVisible, IsCalm, Does, Calmly, along, does_more, calm_does, calm_seen}
use Rattle.aos_sim.proofs.States.{world_of, shapes_of, IsFew, number_get, SameStore, SameVariables, SameFrames, Same, waiting_length, all_whole, top_shape}
use Rattle.aos_sim.proofs.Texts.{TextAlike, text_alike}
use Rattle.aos_sim.proofs.Making.{made_long}
use Rattle.aos_sim.proofs.Turns.{AtWork, stop_decides, stop_fails, stop_works, IsAwaited}

-- The code of an expression without calls is that of a condition.

abbrev pub Evaluate : List Instr → Type 0
Evaluate xs = list_all I.may_evaluate xs ≡ true

both : (xs ys : List Instr) → Evaluate xs → Evaluate ys → Evaluate (xs ++ ys)
both xs ys h k =
    list_all-append I.may_evaluate xs ys ∙ ap (λ b. b && list_all I.may_evaluate ys) h ∙ k

-- two operands and an operator, and those of which the second one tells where the first one doesn't
two_evaluate : (xs ys : List Instr) (x : Instr) → Evaluate xs → Evaluate ys → I.may_evaluate x ≡ true → Evaluate (operands_code xs ys x)
two_evaluate xs ys x h k last = both xs (ys ++ x ∷ []) h (both ys (x ∷ []) k (ap (λ b. b && true) last))

and_evaluates : (xs ys : List Instr) (at : ℕ) → Evaluate xs → Evaluate ys → Evaluate (and_code xs ys at)
and_evaluates xs ys at h k = both xs _ h (both ys _ k refl)

or_evaluates : (xs ys : List Instr) (at : ℕ) → Evaluate xs → Evaluate ys → Evaluate (or_code xs ys at)
or_evaluates xs ys at h k = both xs _ h k

numbers_evaluate : (ns : List ℕ) → Evaluate (map (λ n. i.Num (pos n)) ns)
numbers_evaluate [] = refl
numbers_evaluate (n ∷ ns) = numbers_evaluate ns

lengths_evaluate : (c n : ℕ) → Evaluate (lengths_code c n)
lengths_evaluate c zero = refl
lengths_evaluate c (suc n) = lengths_evaluate (suc c) n

drops_evaluate : (n : ℕ) (rest : List Instr) → Evaluate rest → Evaluate (drops n ++ rest)
drops_evaluate zero rest h = h
drops_evaluate (suc n) rest h = drops_evaluate n rest h

literal_evaluates : (l : Literal) → Evaluate (literal_code l ∷ [])
literal_evaluates (literal.Int n) = refl
literal_evaluates (literal.Bool b) = refl
literal_evaluates (literal.Char c) = refl
literal_evaluates (literal.Set s) = refl
literal_evaluates (literal.Text t) = refl
literal_evaluates literal.Nil = refl
literal_evaluates literal.NoProcedure = refl

module _ (program : Program) (own : Option Procedure) where
  abbrev place_at : Place → ℕ → List Instr
  place_at = place_code program own

  abbrev rows_at : Rows → ℕ → List Instr
  rows_at = rows_code program own

  abbrev value_at : Expr → ℕ → List Instr
  value_at = value_code program own

  mutual
    place_evaluates : (q : Place) (at : ℕ) → HasNoCallsInPlace q → Evaluate (place_at q at)
    place_evaluates (ModuleVar m k) at h = refl
    place_evaluates (Local k) at h = refl
    place_evaluates (Passed k) at h = refl
    place_evaluates (Of r) at h = rows_evaluate r at h
    place_evaluates (Deref e t) at h = both (value_at e at) _ (value_evaluates e at h) refl
    place_evaluates (Typed q t) at h = both (place_at q at) _ (place_evaluates q at h) refl
    place_evaluates (Guarded q t) at h = both (place_at q at) _ (place_evaluates q at h) refl
    place_evaluates (Field q t k) at h = both (place_at q at) _ (place_evaluates q at h) refl
    place_evaluates (Index q n t e) at h =
        let pe : ℕ = at + length (place_at q at) in two_evaluate (place_at q at) (value_at e pe) _ (place_evaluates q at h.0) (value_evaluates e pe h.1) refl

    rows_evaluate : (r : Rows) (at : ℕ) → HasNoCallsInRows r → Evaluate (rows_at r at)
    rows_evaluate (Known q ns) at h = both (place_at q at) _ (place_evaluates q at h) (numbers_evaluate ns)
    rows_evaluate (Opened k j) at h = lengths_evaluate _ j
    rows_evaluate (Row r t e) at h =
        let pe : ℕ = at + length (rows_at r at) in two_evaluate (rows_at r at) (value_at e pe) _ (rows_evaluate r at h.0) (value_evaluates e pe h.1) refl
    rows_evaluate (Spread e j) at h = both (value_at e at) _ (value_evaluates e at h) refl
    rows_evaluate (Longer r ns) at h = both (rows_at r at) _ (rows_evaluate r at h) (numbers_evaluate ns)

    pub value_evaluates : (e : Expr) (at : ℕ) → HasNoCalls e → Evaluate (value_at e at)
    value_evaluates (Lit l) at h = literal_evaluates l
    value_evaluates SelfRef at h = refl
    value_evaluates (Read t q) at h = both (place_at q at) _ (place_evaluates q at h) refl
    value_evaluates (Unary op a) at h = both (value_at a at) _ (value_evaluates a at h) refl
    value_evaluates (Binary op a b) at h =
        let pb : ℕ = at + length (value_at a at) in two_evaluate (value_at a at) (value_at b pb) _ (value_evaluates a at h.0) (value_evaluates b pb h.1) refl
    value_evaluates (And a b) at h =
        let pb : ℕ = at + length (value_at a at) + 1 in and_evaluates (value_at a at) (value_at b pb) at (value_evaluates a at h.0) (value_evaluates b pb h.1)
    value_evaluates (Or a b) at h =
        let pb : ℕ = at + length (value_at a at) + 3 in or_evaluates (value_at a at) (value_at b pb) at (value_evaluates a at h.0) (value_evaluates b pb h.1)
    value_evaluates (Element a) at h = both (value_at a at) _ (value_evaluates a at h) refl
    value_evaluates (Ord a) at h = value_evaluates a at h
    value_evaluates (Chr a) at h = both (value_at a at) _ (value_evaluates a at h) refl
    value_evaluates (CompareTexts r a b) at h =
        let pb : ℕ = at + length (rows_at a at) in two_evaluate (rows_at a at) (rows_at b pb) _ (rows_evaluate a at h.0) (rows_evaluate b pb h.1) refl
    value_evaluates (Len r d) at h = both (rows_at r at) _ (rows_evaluate r at h) refl
    value_evaluates (LenBehind r n) at h = both (rows_at r at) _ (rows_evaluate r at h) (drops_evaluate (suc (dimensions r)) (i.Num (pos n) ∷ []) refl)
    value_evaluates (Function c more) at h = absurd h
    value_evaluates (SameAs a b) at h =
        let pb : ℕ = at + length (value_at a at) in two_evaluate (value_at a at) (value_at b pb) _ (value_evaluates a at h.0) (value_evaluates b pb h.1) refl
    value_evaluates (IsOfType a t) at h = both (value_at a at) _ (value_evaluates a at h) refl
    value_evaluates (IsRecord q t) at h = both (place_at q at) _ (place_evaluates q at h) refl
    value_evaluates (Guard a t) at h = both (value_at a at) _ (value_evaluates a at h) refl
    value_evaluates (ProcedureOf m k) at h = refl
    value_evaluates (MethodOf a t k) at h = both (value_at a at) _ (value_evaluates a at h) refl
    value_evaluates (SameProcedure a b) at h =
        let pb : ℕ = at + length (value_at a at) in two_evaluate (value_at a at) (value_at b pb) _ (value_evaluates a at h.0) (value_evaluates b pb h.1) refl
    value_evaluates (Had v) at h = refl

  pub condition_evaluates : (e : Expr) → HasNoCalls e → Evaluate (condition_code program own e)
  condition_evaluates e h = both (value_at e 0) _ (value_evaluates e 0 h) refl

-- Silent work only goes on in its code.
module _ (shapes : List ProcShape) (types : List TypeDesc) (made : ℕ → Option Made) (own : ℕ) (here : Here) (cells : List Cell) (code : List Instr) (q : Question) (p : ℕ) (k' : Keeps) (s' : Stack) where
  abbrev Onto : Stop → Type 0
  Onto stop = stop ≡ Work q p k' s'

  module _ (next : ℕ → ℕ → Keeps → Stack → Stop) (at : ℕ) (ih : (over : ℕ) (k : Keeps) (s : Stack) → Onto (next over (at + 1) k s) → at + 1 ≤ p) where
    here_on : (asked : Question) (k : Keeps) (s : Stack) → Onto (Work asked at k s) → at ≤ p
    here_on asked k s e = let a : at ≡ p = cc e in omega (arith, a)

    later_on : (over : ℕ) (k : Keeps) (s : Stack) → Onto (next over (at + 1) k s) → at ≤ p
    later_on over k s e = let h = ih over k s e in omega (arith, h)

    noted_on : (n : Noted) (asked : Question) (k : Keeps) (s : Stack) → Onto (on_noted n asked next at k s) → at ≤ p
    noted_on Visible asked k s e = here_on asked k s e
    noted_on (Answered v) asked k s e = later_on 0 k (v ∷ s) e
    noted_on Unknown asked k s e = absurd (cc e)

    told_on : (t : Told) (k : Keeps) (s : Stack) → Onto (on_told t next at k s) → at ≤ p
    told_on (Tells vs) k s e = later_on 0 k (vs ++ s) e
    told_on (Refuses n) k s e = absurd (cc e)
    told_on (Invokes n vs) k s e = here_on (Calls ByName n vs) k s e
    told_on Unheard k s e = absurd (cc e)

    if_on : (b : Bool) (k : Keeps) (s : Stack) → Onto (if b then next 0 (at + 1) k s else Ended lost k) → at ≤ p
    if_on true k s e = later_on 0 k s e
    if_on false k s e = absurd (cc e)

    act_on : (a : Act) (k : Keeps) → Onto (on_act shapes types made cells a next at k) → at ≤ p
    act_on (Goes over s) k e = later_on over k s e
    act_on (Puts c v s) k e = later_on 0 (kept c v k) s e
    act_on (Takes c kind s) k e = if_on (is_of kind (k c)) k (k c ∷ s) e
    act_on (Looks l o s) k e = told_on (told_by shapes types l o (made o)) k s e
    act_on (Sees asked s) k e = noted_on (noted cells asked) asked k s e
    act_on (Stops end) k e = absurd (cc e)

  walk_on : (rest : List Instr) (over at : ℕ) (k : Keeps) (s : Stack) → Onto (walk shapes types made own here cells code rest over at k s) → at ≤ p
  walk_on [] over at k s e = absurd (cc e)
  walk_on (x ∷ rest) (suc n) at k s e = let h = walk_on rest n (at + 1) k s e in omega (arith, h)
  walk_on (x ∷ rest) zero at k s e =
      act_on (walk shapes types made own here cells code rest) at (λ over k1 s1 e1. walk_on rest over (at + 1) k1 s1 e1) (act shapes types own here x code at s) k e

-- Behind its silent questions a condition comes to the same verdict.
module _ (rows : List TypeRow) (made : ℕ → Option Made) (c : Content Value) (x : Rooted (Content Value)) where
  abbrev judged_so : Doing Value → Verdict
  judged_so = S.judged rows made c x

  judged_calm : (r : Doing Value) → judged_so (S.calm rows made c r) ≡ judged_so r
  judged_calm (Val a) = refl
  judged_calm (Traps n code) = refl
  judged_calm (Asks (Places p) f) = judged_calm (f _)
  judged_calm (Asks (Lengths p) f) = judged_calm (f _)
  judged_calm (Asks (Opens v) f) = judged_calm (f _)
  judged_calm (Asks (Sizes v d) f) = judged_calm (f _)
  judged_calm (Asks (Tests v u) f) = judged_calm (f _)
  judged_calm (Asks (Reads t p) f) = refl
  judged_calm (Asks (Stores p v) f) = refl
  judged_calm (Asks (Copies t p q) f) = refl
  judged_calm (Asks (PutsText strict p n q m) f) = refl
  judged_calm (Asks (ComparesTexts r p n q m) f) = refl
  judged_calm (Asks (Calls how q vs) f) = refl
  judged_calm (Asks (Ends r) f) = refl
  judged_calm (Asks (Makes t vs) f) = refl
  judged_calm (Asks (Starts v) f) = refl
  judged_calm (Asks Enters f) = refl
  judged_calm (Asks Leaves f) = refl
  judged_calm (Asks (Awaits n) f) = refl
  judged_calm (Asks (PutsInt v n) f) = refl
  judged_calm (Asks (PutsChar v) f) = refl
  judged_calm (Asks (PutsString p n) f) = refl
  judged_calm (Asks PutsNothing f) = refl
  judged_calm (Asks PutsLn f) = refl

-- a truth value is the number that says so
abbrev IsTruth : Value → Type 0
IsTruth v = (b : Bool) × (v ≡ Flag b)

decided_so : (v : Value) → IsTruth v → I.decided (number_of v) ≡ (if is_true v then verdict_is.Holds else verdict_is.Fails)
decided_so v h = subst (λ u. I.decided (number_of u) ≡ (if is_true u then verdict_is.Holds else verdict_is.Fails)) (sym h.1) (by h.0)
  where
    by : (b : Bool) → I.decided (number_of (Flag b)) ≡ (if is_true (Flag b) then verdict_is.Holds else verdict_is.Fails)
    by true = refl
    by false = refl

-- Code over the topmost frame.
module _ (program : Program) (image : Image) (typed : HasTypes program) (shaped : HasShapes program (tables_of program image)) (s : Store) (mem : Memory) (f : S.Frame) (g : I.Frame) (fs : List S.Frame) (gs : List I.Frame) (stores : SameStore program s mem) (shown : SameVariables program s.made (f ∷ fs) (g ∷ gs)) (whole : IsWhole program (world_of program s.made (shapes_of (f ∷ fs)))) (long : length fs ≡ length gs) (object_is : g.object ≡ f.object) (code : List Instr) where
  abbrev now : World Sort
  now = world_of program s.made (shapes_of (f ∷ fs))

  abbrev here : Here
  here = S.here_of f fs

  abbrev shapes : List ProcShape
  shapes = image.shapes.items

  abbrev types : List TypeDesc
  types = image.types.items

  abbrev run_from : ℕ → Keeps → Stack → Run
  run_from = run (tables_of program image) g.procedure here code

  abbrev stop_from : ℕ → Keeps → Stack → Stop
  stop_from = silent shapes types now.made g.procedure here g.cells code

  abbrev variables : Rooted (Content Value)
  variables = S.all_rooted (f ∷ fs) s

  abbrev cells : Rooted (List Cell)
  cells = I.rooted (g ∷ gs) mem

  shows : Shows (Is program) cell_of (scheme program) s.made (shapes_of (f ∷ fs)) variables cells
  shows = record { of_frames = shown; of_modules = stores.of_modules; of_objects = stores.of_objects }

  abbrev judged_as : Doing Value → Verdict
  judged_as = S.judged program.types now.made f.variables variables

  abbrev verdict_from : ℕ → ℕ → Keeps → Stack → Verdict
  verdict_from = I.verdict_from image mem g gs code

  -- where the source comes to a truth value, the code has come to its end with it
  abbrev Decides_it : World Sort → Value → Run → Type 0
  Decides_it w v m = IsTruth v × (m ≡ Val (Decided (number_of v)))

  abbrev Evaluates_it : Run → Doing Value → Type 0
  Evaluates_it = Does program here Decides_it now

  -- both sides know the frame alike
  silent_same : (at : ℕ) (k : Keeps) (st : Stack) → silent shapes types (I.made_in image mem) g.procedure (I.here_of g gs) g.cells code at k st ≡ stop_from at k st
  silent_same at k st =
      λ j. silent shapes types (λ o. by_number o (stores.made j)) g.procedure (record { below = sym long j; self = object_is j }) g.cells code at k st

  -- no run behind the end of the code is a condition's
  none_behind : (r : Doing Value) → Evaluates_it (Traps 16 0) r → ⊥
  none_behind (Val v) d = cc d.1
  none_behind (Asks q f) d = cc d.1
  none_behind (Traps n c) d = let e : 16 ≡ n = cc d.0 in let l = d.1 in omega (arith, e, l)

  text_both : (p : Location) (n : ℕ) → HasCharacters now p n → TextAlike program typed.predeclared s.made (shapes_of (f ∷ fs)) variables cells shows [] p n
  text_both p n h = text_alike program typed.predeclared s.made (shapes_of (f ∷ fs)) variables cells shows [] p n h

  text_found : (p : Location) (v : Value) (h : HasText now p v) → I.text_at [] (addr_of now p) (cell_of now v) cells ≡ Some (text_both p h.0 h.2).text
  text_found p v h = ap (λ z. I.text_at [] (addr_of now p) (cell_of now z) cells) h.1 ∙ (text_both p h.0 h.2).image

  -- one question, behind whose answer the verdicts are the same
  module _ (n : ℕ) (m : Run) (stop : Stop) where
    abbrev Works : (q : source.Question) → (Cell → Run) → Type 0
    Works q d = AtWork (tables_of program image) g.procedure here code (placed program now q) d stop

    abbrev Continues : ℕ → Keeps → Type 0
    Continues at k = (v : Value) (st : Stack) (r : Doing Value) → Evaluates_it (run_from (at + 1) k (cell_of now v ∷ st)) r → verdict_from n (at + 1) k (cell_of now v ∷ st) ≡ judged_as r

    asked_same : (q : source.Question) (next : Value → Doing Value) → IsVisible q → (d : Evaluates_it m (Asks q next)) → (v : Works q d.0) → Continues v.at v.keeps → I.judged cells (verdict_from n) (Work (placed program now q) v.at v.keeps v.stack) ≡ judged_as (Asks q next)
    asked_same (Reads t a) next visible d v continues =
        let r = read_alike (Is program) cell_of IsPlain (values_kept program) (scheme program) s.made (shapes_of (f ∷ fs)) variables cells a.root a.path (Plain (id_of t)) shows d.2.1 in
        let kind = kind_of program.types t in
        let on : Cell → Verdict = λ y. verdict_from n (v.at + 1) v.keeps (y ∷ v.stack) in
        ap (λ o. I.goes_on_with kind o on) r.image
        ∙ ap (λ (b : Bool). if b then on (cell_of now r.value) else verdict_is.Traps 16) (stored_kind program typed.predeclared t d.2.0 now r.value r.is)
        ∙ continues r.value v.stack (next r.value) (along program here Decides_it now _ _ (next r.value) (sym (v.on (cell_of now r.value))) (d.3 now (grows_same now) r.value r.is))
        ∙ ap (λ z. judged_as (next z)) (sym (ap scalar_in r.source))
    asked_same (ComparesTexts r a x b y) next visible d v continues =
        let first = text_both a d.2.0.0 d.2.0.2 in
        let second = text_both b d.2.1.0 d.2.1.2 in
        let compared : List ℕ → List ℕ → Value = λ l z. Flag (holds r (order l z) (pos 0)) in
        let is = compared first.text second.text in
        let on : Cell → Verdict = λ z. verdict_from n (v.at + 1) v.keeps (z ∷ v.stack) in
        (λ j. I.goes_on_by r (text_found a x d.2.0 j) (text_found b y d.2.1 j) on)
        ∙ continues is v.stack (next is) (along program here Decides_it now _ _ (next is) (sym (v.on (cell_of now is))) (d.3 now (grows_same now) is tt))
        ∙ sym (λ j. judged_as (next (compared (first.source j) (second.source j))))
    asked_same (Stores a z) next visible d v continues = refl
    asked_same (Copies t a b) next visible d v continues = refl
    asked_same (PutsText strict a x b y) next visible d v continues = refl
    asked_same (Calls how q vs) next visible d v continues = refl
    asked_same (Ends r) next visible d v continues = refl
    asked_same (Makes t vs) next visible d v continues = refl
    asked_same (Starts z) next visible d v continues = refl
    asked_same Enters next visible d v continues = refl
    asked_same Leaves next visible d v continues = refl
    asked_same (Awaits c) next visible d v continues = refl
    asked_same (PutsInt x y) next visible d v continues = refl
    asked_same (PutsChar x) next visible d v continues = refl
    asked_same (PutsString a x) next visible d v continues = refl
    asked_same PutsNothing next visible d v continues = refl
    asked_same PutsLn next visible d v continues = refl
    asked_same (Places a) next visible d v continues = absurd visible
    asked_same (Lengths a) next visible d v continues = absurd visible
    asked_same (Opens x) next visible d v continues = absurd visible
    asked_same (Sizes x y) next visible d v continues = absurd visible
    asked_same (Tests x y) next visible d v continues = absurd visible

  -- the code that evaluates a condition from a place on gives its verdict, where it has a turn for each instruction from there
  from_same : (n at : ℕ) (k : Keeps) (st : Stack) (r : Doing Value) → length code < n + at → Evaluates_it (run_from at k st) r → verdict_from n at k st ≡ judged_as r
  from_same zero at k st r less d =
      absurd (none_behind r (subst (λ l. Evaluates_it (runs (tables_of program image) g.procedure here code l 0 at k st) r) (drop_all at code (omega (arith, less))) d))
  from_same (suc n) at k st r less d =
      ap (λ z. I.judged cells (verdict_from n) z) (silent_same at k st)
      ∙ by (S.calm program.types now.made f.variables r) (calm_seen program.types now.made f.variables r)
      (calm_does program here now f.shape f.variables g.cells (top_shape program s.made f fs) shown.0 whole (tables_of program image) shaped Decides_it (run_from at k st) r d)
      (from_same n)
      ∙ judged_calm program.types now.made f.variables variables r
    where
      stop : Stop
      stop = stop_from at k st

      stopped : calm types now.made g.cells (run_from at k st) ≡ resume (tables_of program image) g.procedure here code stop
      stopped =
          run_by_silent (tables_of program image) now.made (λ o m e. made_long program m (number_get (IsFew program) o s.made m stores.few e).1) g.procedure here g.cells code at k st

      -- where the code behind a question does so
      by : (c : Doing Value) → IsCalm c → Calmly program here Decides_it types g.cells now (calm types now.made g.cells (run_from at k st)) c → ((at' : ℕ) (k' : Keeps) (st' : Stack) (r' : Doing Value) → length code < n + at' → Evaluates_it (run_from at' k' st') r' → verdict_from n at' k' st' ≡ judged_as r') → I.judged cells (verdict_from n) stop ≡ judged_as c
      by (Val v) visible h again =
          let e = sym stopped ∙ h.1 ∙ ap (calm types now.made g.cells) h.2.1 in
          let z = stop_decides (tables_of program image) g.procedure here code stop (number_of v) e in
          ap (λ y. I.judged cells (verdict_from n) y) z.1 ∙ decided_so v h.2.0
      by (Traps number c) visible h again =
          let z = stop_fails (tables_of program image) g.procedure here code stop number c h.1 (sym stopped ∙ h.0) in
          ap (λ y. I.judged cells (verdict_from n) y) z.1
      by (Asks q next) visible h again =
          let v = stop_works (tables_of program image) g.procedure here code stop (placed program now q) h.0 (sym stopped ∙ h.1) in
          let on : at ≤ v.at = walk_on shapes types now.made g.procedure here g.cells code (placed program now q) v.at v.keeps v.stack (drop at code) 0 at k st v.is in
          ap (λ y. I.judged cells (verdict_from n) y) v.is
          ∙ asked_same n (calm types now.made g.cells (run_from at k st)) stop q next visible h v
          (λ x st' r' d'. again (v.at + 1) v.keeps (cell_of now x ∷ st') r' (omega (arith, less, on)) d')

-- The verdict of a condition of the program, which is awaited by the topmost of an activity's frames.
module _ (program : Program) (image : Image) (typed : HasTypes program) (shaped : HasShapes program (tables_of program image)) (are : map (λ (b : Body). b.code.items) image.conds.items ≡ map (λ (d : Condition). condition_code program d.own d.expression) (conditions program)) where
  -- the code of the condition with this number
  condition_there : (c : ℕ) (d : Condition) → slice_get (conditions program) c ≡ Some d → HasNoCalls d.expression → I.condition_of image c ≡ condition_code program d.own d.expression
  condition_there c d there plain =
      let b = alike_at (λ (b : Body). b.code.items) (λ (d : Condition). condition_code program d.own d.expression) image.conds.items (conditions program) are c d there in
      let e = condition_evaluates program d.own d.expression plain in
      ap I.condition_in b.1 ∙ (λ j. if list_all I.may_evaluate (b.2 j) then b.2 j else []) ∙ ap (λ (t : Bool). if t then condition_code program d.own d.expression else []) e

  -- it is evaluated over the topmost frame
  over_same : (s : Store) (mem : Memory) (f : S.Frame) (g : I.Frame) (fs : List S.Frame) (gs : List I.Frame) (stores : SameStore program s mem) (shown : SameVariables program s.made (f ∷ fs) (g ∷ gs)) (whole : IsWhole program (world_of program s.made (shapes_of (f ∷ fs)))) (long : length fs ≡ length gs) (object_is : g.object ≡ f.object) (d : Condition) → IsOf program d.own d.expression type.Boolean → Knows program d.own (S.here_of f fs) (world_of program s.made (shapes_of (f ∷ fs)))
      → S.verdict_over program (Some d) (f ∷ fs) s ≡ I.verdict_over image mem (g ∷ gs) (condition_code program d.own d.expression)
  over_same s mem f g fs gs stores shown whole long object_is d of known =
      let code = condition_code program d.own d.expression in
      let xs = value_code program d.own d.expression 0 in
      let now = world_of program s.made (shapes_of (f ∷ fs)) in
      let here = S.here_of f fs in
      let last = i.Verdict ∷ [] in
      let k = g.keeps in
      let decides : World Sort → Value → Run → Type 0 = λ w v m. IsTruth v × (m ≡ Val (Decided (number_of v))) in
      let pushed = Pushed (tables_of program image) g.procedure here code type.Boolean last (0 + length xs) k [] in
      let ends : Does program here decides now (run (tables_of program image) g.procedure here code 0 k []) (value_of program here d.expression) =
      does_more program here pushed decides now _ (value_of program here d.expression)
      (value_does program d.own (tables_of program image) g.procedure here code typed shaped d.expression type.Boolean refl of 0 now known last k [])
      (λ w' up v m p. (p.is, p.run)) in
      sym (from_same program image typed shaped s mem f g fs gs stores shown whole long object_is code (suc (length code)) 0 k [] (value_of program here d.expression) (omega arith) ends)

  none_over : (o : Option Condition) (s : Store) (mem : Memory) (code : List Instr) → S.verdict_over program o [] s ≡ I.verdict_over image mem [] code
  none_over None s mem code = refl
  none_over (Some d) s mem code = refl

  frames_same : (s : Store) (mem : Memory) (c : ℕ) (fs : List S.Frame) (gs : List I.Frame) → SameStore program s mem → SameFrames program image s.made fs gs → SameVariables program s.made fs gs → IsAwaited program image s.made c fs
      → S.verdict_over program (slice_get (conditions program) c) fs s ≡ I.verdict_over image mem gs (I.condition_of image c)
  frames_same s mem c [] [] stores h shown a = none_over (slice_get (conditions program) c) s mem (I.condition_of image c)
  frames_same s mem c [] (g ∷ gs) stores h shown a = absurd h
  frames_same s mem c (f ∷ fs) [] stores h shown a = absurd h
  frames_same s mem c (f ∷ fs) (g ∷ gs) stores h shown a =
      let place = h.0.place in
      let result = result_of place.routine.own in
      ap (λ o. S.verdict_over program o (f ∷ fs) s) a.1
      ∙ over_same s mem f g fs gs stores shown (all_whole program image shaped s.made f.shape result fs gs stores.few place.frame.few h.1) (waiting_length program image s.made result fs gs h.1) place.object_is a.0 a.2 a.4
      ∙ ap (λ l. I.verdict_over image mem (g ∷ gs) l) (sym (condition_there c a.0 a.1 a.3))

  pub verdict_same : (s : Store) (mem : Memory) (x : S.Frames) (y : I.Frames) (c : ℕ) → SameStore program s mem → Same program image s.made x y → IsAwaited program image s.made c x.frames → S.verdict program s x c ≡ I.verdict image mem y c
  verdict_same s mem x y c stores h a = frames_same s mem c x.frames y.frames stores h.frames h.shown a
