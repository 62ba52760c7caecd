-- Sound code finds the operands that it takes, but for what soundness doesn't decide.
use Rattle.std.proofs.Common.{◌≡◌, ◌<◌, ℕ, zero, suc, ℤ, pos, negsuc, ◌+◌, ◌*◌, ◌-◌, ◌^◌, List, [], ◌∷◌, ◌++◌, length, map, replicate, reverse, drop, Bool, true, false, ◌&&◌, ◌||◌, Option, Some, None, nat_eq, nat_lt, slice_get, if◌then◌else◌, refl, sym, ap, ◌∙◌, subst, arith, ltb-true, ltb-false}
use Rattle.std.specs.Option.{option_zip}
use Rattle.std.proofs.lemmas.Option.{slice_get-get_or}
use Rattle.std.proofs.lemmas.List.{append-nil, length-reverse}
use Rattle.aos_base.specs.declared.root.Root.{Root}
use Rattle.aos_base.specs.declared.number.Width.{Width}
use Rattle.aos_base.specs.declared.operator.Given.{Given}
use Rattle.aos_base.specs.declared.operator.Given.TheVariants.{Number, Trap, Undefined}
use Rattle.aos_base.specs.declared.operator.Unary.{Unary}
use Rattle.aos_base.specs.declared.operator.Unary.TheVariants as unary_is
use Rattle.aos_base.specs.declared.operator.Binary.{Binary}
use Rattle.aos_base.specs.declared.operator.Binary.TheVariants as binary_is
use Rattle.aos_base.specs.Number as number
use Rattle.aos_base.specs.Operators.{natural, flag, or_trap, or_divisor, or_undefined, on_width, on_widths, set_of, on_sets, unary, binary}
use Rattle.aos_base.specs.Question.{Reads, Stores, Copies, PutsText, ComparesTexts, Makes, Starts, PutsInt, PutsChar, PutsString}
use Rattle.aos_code.specs.declared.instr.Cell.{Cell}
use Rattle.aos_code.specs.declared.instr.Cell.TheVariants.{Num, Place}
use Rattle.aos_code.specs.declared.instr.Kind.{Kind}
use Rattle.aos_code.specs.declared.instr.Kind.TheVariants.{N, R, C, A}
use Rattle.aos_code.specs.declared.instr.Instr.{Instr}
use Rattle.aos_code.specs.declared.instr.Instr.TheVariants as instr
use Rattle.aos_code.specs.declared.image.ProcShape.{ProcShape}
use Rattle.aos_code.specs.declared.image.Image.{Image}
use Rattle.aos_code.specs.Numbered.{numbered}
use Rattle.aos_code.specs.Silent as silent
use Rattle.aos_code.specs.Silent.{Stack, Fails, Act, Goes, Puts, Look, AtCell, AtElements, IsType, AsType, AsMethod, Sees, Stops, lost, kinds_of, on_callable, on_kind, on_object, gives, extends, on_place, on_text, lengths_on, in_rows, gives_picked, keeps_in, Here, asserts, lands, jumps, jumps_on_false, act}
use Rattle.aos_sound.specs.declared.stand.Role.{Role}
use Rattle.aos_sound.specs.Sound.{Kinds, without, row, given, taken, taken_applied, called, sent, applied, returned, is_begin, is_procedure, may_jump, may_stand, after, IsSound}
use Rattle.aos_sound.specs.Fits.{AreOf, StandsOn}
use Rattle.aos_sound.specs.Undecided.{IsBelowOr, IsFar, IsFarElement, IsFarRow, IsNoFlag, OfCallable, may_call, may_call_as, IsOther, IsOtherBelow, IsUndecided}
use Rattle.aos_sound.proofs.FitsOperands.{topped_is, all_topped_is, number_found, place_found, callable_found, kinds_below, kind_holds, on_object_holds, on_callable_holds, looks_hold, on_place_holds, on_text_holds, counted_hold, call_holds, send_holds, twice_holds, drop_holds, swap_holds, ends_hold}

-- it isn't that trap
abbrev Keeps : Act → Type 0
Keeps a = a ≡ Stops lost → ⊥

both : (a b : Bool) → (a && b) ≡ true → (a ≡ true) × (b ≡ true)
both true true e = (refl, refl)
both true false e = absurd (cc e)
both false b e = absurd (cc e)

second : (a b : Bool) → a ≡ false → (a || b) ≡ true → b ≡ true
second true b n e = absurd (cc n)
second false b n e = e

if_lost : (b : Bool) (a : Act) → Keeps a → (if b then a else Stops lost) ≡ Stops lost → b ≡ false
if_lost true a h e = absurd (h e)
if_lost false a h e = refl

if_keeps : (b : Bool) (a : Act) → b ≡ true → Keeps a → Keeps (if b then a else Stops lost)
if_keeps true a t h = h
if_keeps false a t h = absurd (cc t)

far : (cell : ℕ) (a : Act) → Keeps a → (if nat_lt cell (2 ^ 32) then a else Stops lost) ≡ Stops lost → IsFar cell
far cell a h e = ltb-false cell (2 ^ 32) (if_lost (nat_lt cell (2 ^ 32)) a h e)

-- Operators trap for reasons of their own.

abbrev IsOwn : Given → Type 0
IsOwn g = (s : Stack) → silent.given g s ≡ Stops lost → g ≡ Undefined

number_own : (z : ℤ) → IsOwn (Number z)
number_own z s e = absurd (cc e)

trap_own : (n : ℕ) → n < 16 → IsOwn (Trap n)
trap_own n lt s e = let z : n ≡ 16 = cc in absurd (omega (arith, lt, z))

or_trap_own : (n : ℕ) → n < 16 → (o : Option ℤ) → IsOwn (or_trap n o)
or_trap_own n lt None = trap_own n lt
or_trap_own n lt (Some z) = number_own z

if_own : (b : Bool) (g h : Given) → IsOwn g → IsOwn h → IsOwn (if b then g else h)
if_own true g h p q = p
if_own false g h p q = q

undefined_own : IsOwn Undefined
undefined_own s e = refl

or_undefined_own : {X : Type 0} (o : Option X) (k : X → Given) → ((x : X) → IsOwn (k x)) → IsOwn (or_undefined o k)
or_undefined_own None k h = undefined_own
or_undefined_own (Some x) k h = h x

width_own : (w : Width) (a : ℤ) (g : Given) → IsOwn g → IsOwn (on_width w a g)
width_own w a g h = if_own (number.is_within w a) g Undefined h undefined_own

widths_own : (w : Width) (a b : ℤ) (g : Given) → IsOwn g → IsOwn (on_widths w a b g)
widths_own w a b g h = if_own (number.is_within w a && number.is_within w b) g Undefined h undefined_own

divisor_own : (b : ℤ) (o : Option ℤ) → IsOwn (or_divisor b o)
divisor_own b o = if_own _ (or_trap 5 o) (Trap 6) (or_trap_own 5 (omega arith) o) (trap_own 6 (omega arith))

sets_own : (f : ℕ → ℕ → ℕ) (a b : ℤ) → IsOwn (on_sets f a b)
sets_own f a b = or_undefined_own (option_zip (set_of a) (set_of b)) (λ p. Number (pos (f p.0 p.1))) (λ p. number_own (pos (f p.0 p.1)))

unary_own : (op : Unary) (a : ℤ) → IsOwn (unary op a)
unary_own (unary_is.Neg w) a = width_own w a _ (or_trap_own 5 (omega arith) _)
unary_own (unary_is.Abs w) a = width_own w a _ (or_trap_own 5 (omega arith) _)
unary_own unary_is.Not a = or_undefined_own (natural 2 a) _ (λ n. number_own (pos (1 - n)))
unary_own unary_is.Odd a = number_own _
unary_own unary_is.Cap a = or_undefined_own (natural 256 a) _ (λ n. number_own _)
unary_own unary_is.Compl a = or_undefined_own (set_of a) _ (λ n. number_own _)
unary_own (unary_is.Range low high) a = if_own _ (Number a) (Trap 14) (number_own a) (trap_own 14 (omega arith))

binary_own : (op : Binary) (a b : ℤ) → IsOwn (binary op a b)
binary_own (binary_is.Add w) a b = widths_own w a b _ (or_trap_own 5 (omega arith) _)
binary_own (binary_is.Sub w) a b = widths_own w a b _ (or_trap_own 5 (omega arith) _)
binary_own (binary_is.Mul w) a b = widths_own w a b _ (or_trap_own 5 (omega arith) _)
binary_own (binary_is.Div w) a b = widths_own w a b _ (divisor_own b _)
binary_own (binary_is.Mod w) a b = widths_own w a b _ (divisor_own b _)
binary_own (binary_is.Ash w) a b = width_own w a _ (or_trap_own 5 (omega arith) _)
binary_own (binary_is.Cmp r) a b = number_own _
binary_own binary_is.Union a b = sets_own _ a b
binary_own binary_is.Minus a b = sets_own _ a b
binary_own binary_is.Meet a b = sets_own _ a b
binary_own binary_is.Xor a b = sets_own _ a b
binary_own binary_is.SetSpan a b = or_trap_own 14 (omega arith) _
binary_own binary_is.In a b = or_undefined_own (set_of b) _ (λ x. or_trap_own 14 (omega arith) _)

-- Each instruction that may trap so.

no_flag : (c : ℕ) (z : ℤ) (s : Stack) → asserts c z s ≡ Stops lost → IsNoFlag z
no_flag c (pos zero) s e = cc e
no_flag c (pos (suc zero)) s e = cc e
no_flag c (pos (suc (suc n))) s e = tt
no_flag c (negsuc n) s e = tt

no_jump_flag : (code : List Instr) (to at : ℕ) (z : ℤ) (s : Stack) → Keeps (jumps code to at s) → jumps_on_false code to at z s ≡ Stops lost → IsNoFlag z
no_jump_flag code to at (pos zero) s h e = h e
no_jump_flag code to at (pos (suc zero)) s h e = cc e
no_jump_flag code to at (pos (suc (suc n))) s h e = tt
no_jump_flag code to at (negsuc n) s h e = tt

far_element : (root : Root) (first : ℕ) (i : Option ℕ) (k : ℕ) (above : List Cell) (s : Stack) → silent.element (record { root = root; cell = first }) i k above s ≡ Stops lost → IsFarElement i k first
far_element root first None k above s e = cc e
far_element root first (Some i) k above s e = far (first + i * k) (Goes 0 (above ++ Place root (first + i * k) 0 ∷ s)) (λ f. cc f) e

far_row : (j : ℕ) (ns : List ℕ) (z : ℤ) (k : ℕ) (s t : Kinds) (stack : Stack) → 0 < j + length ns → AreOf s stack → without (replicate j N ++ A ∷ []) s ≡ Some t → lengths_on j ns (λ ns s2. in_rows ns z k s2) stack ≡ Stops lost → IsFarRow j ns z k stack
far_row zero [] z k s t stack lt are e f = absurd (omega (arith, lt))
far_row zero (n ∷ ns) z k s t stack lt are e f =
    place_found [] s t stack (λ st. in_rows (n ∷ ns) z k st ≡ Stops lost → IsFarRow zero (n ∷ ns) z k st) are e
    (λ root cell ty u rest are1 e1 g. far_element root cell (natural n z) (silent.cells_of ns k) (silent.length_cells ns) rest g) f
far_row (suc j) ns z k s t stack lt are e f =
    number_found (replicate j N ++ A ∷ []) s t stack (λ st. lengths_on (suc j) ns (λ ns s2. in_rows ns z k s2) st ≡ Stops lost → IsFarRow (suc j) ns z k st) are e
    (λ y u rest are1 e1. below y (λ n. IsFarRow j (n ∷ ns) z k rest) (λ n. lengths_on j (n ∷ ns) (λ ns s2. in_rows ns z k s2) rest) (λ n g. far_row j (n ∷ ns) z k u t rest (omega arith) are1 e1 g)) f
  where
    below : (y : ℤ) (Q : ℕ → Type 0) (a : ℕ → Act) → ((n : ℕ) → a n ≡ Stops lost → Q n) → silent.length_then y a ≡ Stops lost → IsBelowOr Q y
    below (pos n) Q a h g = h n g
    below (negsuc n) Q a h g = tt

-- A jump that may stand there comes to a place.
jumps_keep : (role : Role) (code : List Instr) (to at : ℕ) (s : Stack) → may_jump role code to at ≡ true → Keeps (jumps code to at s)
jumps_keep role code to at s may = by (nat_lt at to) refl
  where
    lands_keep : (o : Option Instr) → is_begin o ≡ true → Keeps (lands o to s)
    lands_keep (Some (instr.Begin line col)) b e = cc e
    lands_keep o b e = cc b

    by : (b : Bool) → nat_lt at to ≡ b → Keeps (if b then Goes (to - (at + 1)) s else lands (slice_get code to) to s)
    by true b = λ e. cc e
    by false b = lands_keep (slice_get code to) (both (is_procedure role) (is_begin (slice_get code to)) (second (nat_lt at to) (is_procedure role && is_begin (slice_get code to)) b (both (nat_lt to (length code)) (nat_lt at to || (is_procedure role && is_begin (slice_get code to))) may).1)).1

-- what an object is asked for is none
looks_keep : (l : Look) (at_nil : Stack → Act) (s t : Kinds) (stack : Stack) → AreOf s stack → without (R ∷ []) s ≡ Some t → ((rest : Stack) → Keeps (at_nil rest)) → Keeps (silent.looks l at_nil stack)
looks_keep l at_nil s t stack are e h = looks_hold Keeps l at_nil s t stack are e (λ rest are1. h rest) (λ o rest are1 f. cc f)

guards_keep : (b : Bool) (a : Act) → Keeps a → Keeps (if b then a else Stops (Fails 3 0))
guards_keep true a h = h
guards_keep false a h = other 3 (omega arith)
  where
    other : (n : ℕ) → n < 16 → Stops (Fails n 0) ≡ Stops lost → ⊥
    other n lt e = let z : n ≡ 16 = cc in absurd (omega (arith, lt, z))

-- what lies below a result
given_below : (r : Option Kind) (below : Option Kinds) (t : Kinds) → given r below ≡ Some t → (u : Kinds) × (below ≡ Some u)
given_below None below t f = (t, f)
given_below (Some k) below t f = let w = topped_is k below t f in (w.0, w.1)

calls_keep : (o : Option ProcShape) (p : ℕ) (s t : Kinds) (stack : Stack) → AreOf s stack → called o s ≡ Some t → Keeps (silent.calls o p stack)
calls_keep None p s t stack are e = absurd (cc e)
calls_keep (Some f) p s t stack are e =
    let w = given_below f.result (without (taken f.method f) s) t e in call_holds Keeps f p s w.0 stack are w.1 (λ f. cc f) (λ ws rest are1 f. cc f)

sends_keep : (o : Option ProcShape) (k p : ℕ) (s t : Kinds) (stack : Stack) → AreOf s stack → sent o s ≡ Some t → Keeps (silent.sends o k p stack)
sends_keep None k p s t stack are e = absurd (cc e)
sends_keep (Some f) k p s t stack are e =
    let w = given_below f.result (without (taken true f) s) t e in send_holds Keeps f k p s w.0 stack are w.1 (λ f. cc f) (λ o ws rest are1 f. cc f)

-- what a value stands for may not be called so
other_value : (shapes : List ProcShape) (g : ProcShape) (p o : ℕ) (vs : List Cell) (s : Stack) → silent.applies shapes g p o vs s ≡ Stops lost → IsOther shapes g p o
other_value shapes g zero o vs s e = cc e
other_value shapes g (suc p) o vs s e = by (numbered shapes (suc p)) e
  where
    to : (is_same method : Bool) (o : ℕ) → silent.applies_to is_same method (suc p) o vs s ≡ Stops lost → may_call is_same method o ≡ false
    to true true zero e = refl
    to true true (suc o) e = absurd (cc e)
    to true false zero e = absurd (cc e)
    to true false (suc o) e = refl
    to false method o e = refl

    by : (f : Option ProcShape) → silent.applies_as f g (suc p) o vs s ≡ Stops lost → may_call_as f g o ≡ false
    by None e = refl
    by (Some f) e = to (silent.same_formals f g) f.method o e

values_other : (shapes : List ProcShape) (f : Option ProcShape) (s t : Kinds) (stack : Stack) → AreOf s stack → applied f s ≡ Some t → silent.calls_value shapes f stack ≡ Stops lost → IsOtherBelow shapes f stack
values_other shapes None s t stack are e f = absurd (cc e)
values_other shapes (Some g) s t stack are e f =
    let w = given_below g.result (without (taken_applied g) s) t e in
    let ks = reverse (kinds_of g.params.items) in
    let m = kinds_below ks (C ∷ []) [] s w.0 stack are w.1 in
    let k = λ (vs : List Cell) (s1 : Stack). on_callable (λ p o s2. silent.applies shapes g p o vs s2) s1 in
    subst (λ n. OfCallable (IsOther shapes g) (drop n stack)) (length-reverse (kinds_of g.params.items))
    (callable_found [] m.1 w.0 (drop (length ks) stack) (λ st. k m.0 st ≡ Stops lost → OfCallable (IsOther shapes g) st) m.2 m.3 (λ p o u rest are1 e1 h. other_value shapes g p o m.0 rest h) (sym (m.4 k) ∙ f))

no_self : (o : ℕ) (stack : Stack) → silent.gives_self o stack ≡ Stops lost → o ≡ 0
no_self zero stack e = refl
no_self (suc o) stack e = absurd (cc e)

returns_keep : (o : Option ProcShape) (s t : Kinds) (stack : Stack) → AreOf s stack → returned o s ≡ Some t → Keeps (silent.ends o stack)
returns_keep None s t stack are e = absurd (cc e)
returns_keep (Some f) s t stack are e = ends_hold Keeps f f.result s t stack are e (λ v h f. cc f)

module _ (image : Image) (own : ℕ) (role : Role) (code : List Instr) (here : Here) (at : ℕ) where
  abbrev does : Instr → Stack → Act
  does i stack = act image.shapes.items image.types.items own here i code at stack

  abbrev Answer : Instr → Stack → Type 0
  Answer i stack = does i stack ≡ Stops lost → IsUndecided image.shapes.items here i stack

  undecided : (i : Instr) (s t : Kinds) (stack : Stack) → may_stand image own role code at i ≡ true → AreOf s stack → after image own i s ≡ Some t → Answer i stack
  undecided (instr.Num n) s t stack may are e = λ f. cc f
  undecided instr.Nil s t stack may are e = λ f. cc f
  undecided instr.NilCall s t stack may are e = λ f. cc f
  undecided (instr.Proc p) s t stack may are e = λ f. cc f
  undecided instr.SelfRef s t stack may are e = no_self here.self stack
  undecided instr.Dup s t stack may are e = twice_holds Keeps s t stack are e (λ rest are1 f. cc f)
  undecided instr.Drop s t stack may are e = drop_holds Keeps s t stack are e (λ rest are1 f. cc f)
  undecided instr.Swap s t stack may are e = swap_holds Keeps s t stack are e (λ rest are1 f. cc f)
  undecided (instr.Frame n) s t stack may are e = λ f. cc f
  undecided (instr.Module m n) s t stack may are e = λ f. cc f
  undecided (instr.Param n) s t stack may are e = λ f. cc f
  undecided (instr.Length n) s t stack may are e = λ f. cc f
  undecided (instr.Deref n) s t stack may are e = let w = topped_is A (without (R ∷ []) s) t e in looks_keep (AtCell n) (λ s1. Stops (Fails 1 0)) s w.0 stack are w.1 (λ rest f. cc f)
  undecided (instr.OpenRef j) s t stack may are e = let w = all_topped_is (row j) (without (R ∷ []) s) t e in looks_keep (AtElements j) (λ s1. Stops (Fails 1 0)) s w.0 stack are w.1 (λ rest f. cc f)
  undecided (instr.Offset n ty) s t stack may are e =
      let w = topped_is A (without (A ∷ []) s) t e in
      place_found [] s w.0 stack (Answer (instr.Offset n ty)) are w.1
      (λ root cell ty2 u rest are1 e1 f. far (cell + n) (Goes 0 ([] ++ Place root (cell + n) ty ∷ rest)) (λ g. cc g) f)
  undecided (instr.Index n k) s t stack may are e =
      let w = topped_is A (without (N ∷ A ∷ []) s) t e in
      number_found (A ∷ []) s w.0 stack (Answer (instr.Index n k)) are w.1
      (λ z u rest are1 e1. place_found [] u w.0 rest (λ st. Answer (instr.Index n k) (Num z ∷ st)) are1 e1
      (λ root cell ty u2 rest2 are2 e2 f. far_element root cell (natural n z) k [] rest2 f))
  undecided (instr.IndexOpen j k) s t stack may are e =
      let w = all_topped_is (row (j - 1)) (without (N ∷ row j) s) t e in
      let lt = ltb-true 0 j may in
      number_found (row j) s w.0 stack (Answer (instr.IndexOpen j k)) are w.1
      (λ z u rest are1 e1 f. far_row j [] z k u w.0 rest (omega (arith, lt)) are1 e1 f)
  undecided (instr.PickLen d j) s t stack may are e =
      let w = topped_is N (without (row j) s) t e in
      let lt = ltb-true d j may in
      counted_hold Keeps j [] (A ∷ []) s w.0 (λ zs s1. on_place (λ a ty s2. gives_picked (slice_get zs d) s2) s1) stack are w.1
      (λ zs u rest l are1 e1. on_place_holds Keeps [] u w.0 (λ a ty s2. gives_picked (slice_get zs d) s2) rest are1 e1
      (λ a ty u2 rest2 are2 e2.
      let within : d < length zs = omega (arith, lt, l) in
      subst (λ o. Keeps (gives_picked o rest2)) (sym (slice_get-get_or zs d (pos 0) within)) (λ f. cc f)))
  undecided (instr.Unary op) s t stack may are e =
      let w = topped_is N (without (N ∷ []) s) t e in
      number_found [] s w.0 stack (Answer (instr.Unary op)) are w.1 (λ z u rest are1 e1 f. unary_own op z rest f)
  undecided (instr.Binary op) s t stack may are e =
      let w = topped_is N (without (N ∷ N ∷ []) s) t e in
      number_found (N ∷ []) s w.0 stack (Answer (instr.Binary op)) are w.1
      (λ z u rest are1 e1. number_found [] u w.0 rest (λ st. Answer (instr.Binary op) (Num z ∷ st)) are1 e1
      (λ y u2 rest2 are2 e2 f. binary_own op y z rest2 f))
  undecided instr.EqRef s t stack may are e =
      let w = topped_is N (without (R ∷ R ∷ []) s) t e in
      on_object_holds Keeps (R ∷ []) s w.0 (λ b s1. on_object (λ a s2. gives (Num (flag (nat_eq a b))) s2) s1) stack are w.1
      (λ b u rest are1 e1. on_object_holds Keeps [] u w.0 (λ a s2. gives (Num (flag (nat_eq a b))) s2) rest are1 e1 (λ a u2 rest2 are2 e2 f. cc f))
  undecided instr.EqCall s t stack may are e =
      let w = topped_is N (without (C ∷ C ∷ []) s) t e in
      on_callable_holds Keeps (C ∷ []) s w.0 (λ q i s1. on_callable (λ p o s2. gives (Num (flag (silent.are_one p o q i))) s2) s1) stack are w.1
      (λ q i u rest are1 e1. on_callable_holds Keeps [] u w.0 (λ p o s2. gives (Num (flag (silent.are_one p o q i))) s2) rest are1 e1 (λ p o u2 rest2 are2 e2 f. cc f))
  undecided (instr.Bind k) s t stack may are e = let w = topped_is C (without (R ∷ []) s) t e in looks_keep (AsMethod k) (λ s1. Stops (Fails 1 0)) s w.0 stack are w.1 (λ rest f. cc f)
  undecided (instr.Is ty) s t stack may are e = let w = topped_is N (without (R ∷ []) s) t e in looks_keep (IsType ty) (λ s1. gives (Num (pos 0)) s1) s w.0 stack are w.1 (λ rest f. cc f)
  undecided (instr.IsPlace ty) s t stack may are e =
      let w = topped_is N (without (A ∷ []) s) t e in
      on_place_holds Keeps [] s w.0 (λ a d s1. gives (Num (flag (extends image.types.items d ty))) s1) stack are w.1 (λ a d u rest are1 e1 f. cc f)
  undecided (instr.Guard ty) s t stack may are e = let w = topped_is R (without (R ∷ []) s) t e in looks_keep (AsType ty) (λ s1. Stops (Fails 3 0)) s w.0 stack are w.1 (λ rest f. cc f)
  undecided (instr.GuardPlace ty) s t stack may are e =
      let w = topped_is A (without (A ∷ []) s) t e in
      on_place_holds Keeps [] s w.0 (λ a d s1. if extends image.types.items d ty then gives (Place a.root a.cell d) s1 else Stops (Fails 3 0)) stack are w.1
      (λ a d u rest are1 e1. guards_keep (extends image.types.items d ty) (gives (Place a.root a.cell d) rest) (λ f. cc f))
  undecided (instr.Keep n k) s t stack may are e =
      if_keeps (nat_lt n (keeps_in (numbered image.shapes.items own))) (on_kind k (λ v s1. Puts n v s1) stack) (both (is_procedure role) (nat_lt n (keeps_in (numbered image.shapes.items own))) may).1
      (kind_holds Keeps k [] s t (λ v s1. Puts n v s1) stack are e (λ v u rest o are1 e1 f. cc f))
  undecided (instr.Kept n k) s t stack may are e =
      if_keeps (nat_lt n (keeps_in (numbered image.shapes.items own))) (silent.Takes n k stack) may (λ f. cc f)
  undecided (instr.Fail n) s t stack may are e = λ f. cc f
  undecided (instr.Assert n) s t stack may are e =
      number_found [] s t stack (Answer (instr.Assert n)) are e (λ z u rest are1 e1 f. no_flag n z rest f)
  undecided (instr.Halt n) s t stack may are e = λ f. cc f
  undecided (instr.Jump to) s t stack may are e = jumps_keep role code to at stack may
  undecided (instr.JumpFalse to) s t stack may are e =
      number_found [] s t stack (Answer (instr.JumpFalse to)) are e (λ z u rest are1 e1 f. no_jump_flag code to at z rest (jumps_keep role code to at rest may) f)
  undecided (instr.Begin line col) s t stack may are e = λ f. cc f
  undecided (instr.Load k) s t stack may are e =
      let w = topped_is k (without (A ∷ []) s) t e in
      on_place_holds Keeps [] s w.0 (λ a ty s1. Sees (Reads k a) s1) stack are w.1 (λ a ty u rest are1 e1 f. cc f)
  undecided (instr.Store k) s t stack may are e =
      kind_holds Keeps k (A ∷ []) s t (λ v s1. on_place (λ a ty s2. Sees (Stores a v) s2) s1) stack are e
      (λ v u rest o are1 e1. on_place_holds Keeps [] u t (λ a ty s2. Sees (Stores a v) s2) rest are1 e1 (λ a ty u2 rest2 are2 e2 f. cc f))
  undecided (instr.Copy n) s t stack may are e =
      on_place_holds Keeps (A ∷ []) s t (λ from ty s1. on_place (λ to u s2. Sees (Copies n from to) s2) s1) stack are e
      (λ from ty u rest are1 e1. on_place_holds Keeps [] u t (λ to u s2. Sees (Copies n from to) s2) rest are1 e1 (λ to ty2 u2 rest2 are2 e2 f. cc f))
  undecided (instr.PutText strict) s t stack may are e =
      on_text_holds Keeps (N ∷ A ∷ []) s t (λ to room s1. on_text (λ from n s2. Sees (PutsText strict from n to room) s2) s1) stack are e
      (λ to room u rest are1 e1. on_text_holds Keeps [] u t (λ from n s2. Sees (PutsText strict from n to room) s2) rest are1 e1 (λ from n u2 rest2 are2 e2 f. cc f))
  undecided (instr.CmpText r) s t stack may are e =
      let w = topped_is N (without (N ∷ A ∷ N ∷ A ∷ []) s) t e in
      on_text_holds Keeps (N ∷ A ∷ []) s w.0 (λ b m s1. on_text (λ a n s2. Sees (ComparesTexts r a n b m) s2) s1) stack are w.1
      (λ b m u rest are1 e1. on_text_holds Keeps [] u w.0 (λ a n s2. Sees (ComparesTexts r a n b m) s2) rest are1 e1 (λ a n u2 rest2 are2 e2 f. cc f))
  undecided (instr.Call p) s t stack may are e = calls_keep (numbered image.shapes.items p) p s t stack are e
  undecided (instr.Virtual k p) s t stack may are e = sends_keep (numbered image.shapes.items p) k p s t stack are e
  undecided (instr.CallValue p) s t stack may are e = values_other image.shapes.items (numbered image.shapes.items p) s t stack are e
  undecided (instr.NewObject ty) s t stack may are e = λ f. cc f
  undecided (instr.NewArray ty j) s t stack may are e =
      let w = topped_is R (without (replicate j N) s) t e in
      counted_hold Keeps j [] [] s w.0 (λ zs s1. Sees (Makes ty (map (λ z. Num z) zs)) s1) stack are (ap (λ ks. without ks s) (append-nil (replicate j N)) ∙ w.1) (λ zs u rest l are1 e1 f. cc f)
  undecided instr.Start s t stack may are e = kind_holds Keeps R [] s t (λ o s1. Sees (Starts o) s1) stack are e (λ v u rest o are1 e1 f. cc f)
  undecided instr.Enter s t stack may are e = λ f. cc f
  undecided instr.Leave s t stack may are e = λ f. cc f
  undecided (instr.Await n) s t stack may are e = λ f. cc f
  undecided instr.Verdict s t stack may are e = number_found [] s t stack (Answer instr.Verdict) are e (λ z u rest are1 e1 f. cc f)
  undecided instr.Return s t stack may are e = returns_keep (numbered image.shapes.items own) s t stack are e
  undecided instr.OutChar s t stack may are e = kind_holds Keeps N [] s t (λ v s1. Sees (PutsChar v) s1) stack are e (λ v u rest o are1 e1 f. cc f)
  undecided instr.OutInt s t stack may are e =
      kind_holds Keeps N (N ∷ []) s t (λ n s1. on_kind N (λ v s2. Sees (PutsInt v n) s2) s1) stack are e
      (λ n u rest o are1 e1. kind_holds Keeps N [] u t (λ v s2. Sees (PutsInt v n) s2) rest are1 e1 (λ v u2 rest2 o2 are2 e2 f. cc f))
  undecided instr.OutString s t stack may are e = on_text_holds Keeps [] s t (λ a n s1. Sees (PutsString a n) s1) stack are e (λ a n u rest are1 e1 f. cc f)
  undecided instr.OutLn s t stack may are e = λ f. cc f
  undecided instr.OutOpen s t stack may are e = λ f. cc f

  pub lost_undecided : (depth : ℕ) → IsSound image own role code depth → (i : Instr) (stack : Stack) → slice_get code at ≡ Some i → StandsOn image own code at stack → act image.shapes.items image.types.items own here i code at stack ≡ Stops lost → IsUndecided image.shapes.items here i stack
  lost_undecided depth sound i stack is st =
      let f = sound.paths.find at st.0 st.1 in
      let z : Some f.instr ≡ Some i = sym f.stands ∙ is in
      let y : f.instr ≡ i = cc in
      undecided i st.0 f.left stack (sound.stand at i is) st.2 (subst (λ x. after image own x st.0 ≡ Some f.left) y f.finds)
