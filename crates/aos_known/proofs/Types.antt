-- Types that include others: what is of a type is of each that includes it.
use Rattle.std.proofs.Common.{◌≡◌, ℕ, zero, suc, ◌+◌, ◌-◌, ◌≤◌, ◌<◌, ℤ, List, Bool, true, false, ◌&&◌, ◌||◌, ◌⊎◌, inl, inr, None, Some, nat_le, refl, sym, ap, ◌∙◌, subst, eqb-true, eq-eqb, ltb-true, ltb-false, lt-ltb, le-ltb, ne_eqb, le-leb, leb-true, arith, if◌then◌else◌}
use Rattle.std.proofs.lemmas.Int.{ints}
use Rattle.std.proofs.lemmas.Option.{none-some}
use Rattle.aos_base.specs.declared.number.Width.{Width}
use Rattle.aos_base.specs.declared.number.Width.TheVariants.{W8, W16, W32, W64}
use Rattle.aos_base.specs.declared.operator.Unary.{Unary as UnaryOperator}
use Rattle.aos_base.specs.declared.operator.Unary.TheVariants as one
use Rattle.aos_base.specs.declared.operator.Binary.{Binary as BinaryOperator}
use Rattle.aos_base.specs.declared.operator.Binary.TheVariants as two
use Rattle.aos_base.specs.Number.{greatest, IsWithin}
use Rattle.aos_types.specs.declared.row.TypeId.{TypeId}
use Rattle.aos_types.specs.declared.row.TypeRow.{TypeRow}
use Rattle.aos_types.specs.Extension.{comes_to}
use Rattle.aos_typed.specs.declared.tree.Literal.{Literal}
use Rattle.aos_typed.specs.declared.tree.Literal.TheVariants as literal
use Rattle.aos_typed.specs.declared.tree.TType.{TType}
use Rattle.aos_typed.specs.declared.tree.TType.TheVariants as type
use Rattle.aos_typed.specs.Numbers.{id_of}
use Rattle.aos_typed.specs.Program.{Expr, Lit, Read, Unary, Binary, And, Or, Element, Ord, Chr, CompareTexts, Len, LenBehind, SelfRef, Function, Same, Is, IsRecord, Guard, ProcedureOf, MethodOf, SameProcedure, Had, Procedure}
use Rattle.aos_typed.specs.Formals.{pattern_of}
use Rattle.aos_typed.specs.WellTyped.{bits, Includes, Fits, FitsObject, IsLiteral, HasRange, Gives, GivesOfTwo, IsProcedural, target, is_any, is_reference, is_procedural, is_basic as is_basic_type}
use Rattle.aos_symbols.specs.Env.{shortint, integer, longint, hugeint, boolean, char, set, nil, any}
use Rattle.aos_symbols.proofs.Told.{IsTold, basic, of_any, defined}
use Rattle.aos_known.proofs.Inside.{Inside, IsOf}
use Rattle.aos_known.specs.Known.{is_integer, is_basic, is, fits_type, width_of_type, type_as, object_number}

pub not_both : true ≡ false → ⊥
not_both e = cc

-- Integer types.

greatest_wider : (v w : Width) → Includes (type.Integer v) (type.Integer w) → greatest w ≤ greatest v
greatest_wider W8 W8 i = omega arith
greatest_wider W8 W16 i = absurd (cc)
greatest_wider W8 W32 i = absurd (cc)
greatest_wider W8 W64 i = absurd (cc)
greatest_wider W16 W8 i = omega arith
greatest_wider W16 W16 i = omega arith
greatest_wider W16 W32 i = absurd (cc)
greatest_wider W16 W64 i = absurd (cc)
greatest_wider W32 W8 i = omega arith
greatest_wider W32 W16 i = omega arith
greatest_wider W32 W32 i = omega arith
greatest_wider W32 W64 i = absurd (cc)
greatest_wider W64 W8 i = omega arith
greatest_wider W64 W16 i = omega arith
greatest_wider W64 W32 i = omega arith
greatest_wider W64 W64 i = omega arith

pub within_wider : (v w : Width) (z : ℤ) → Includes (type.Integer v) (type.Integer w) → IsWithin w z → IsWithin v z
within_wider v w z i h = let le = greatest_wider v w i in record { low = omega (arith, ints, h.low); high = omega (arith, ints, h.high) }

pub most_includes : (w : Width) → Includes (type.Integer W64) (type.Integer w)
most_includes W8 = refl
most_includes W16 = refl
most_includes W32 = refl
most_includes W64 = refl

-- Each type but ANY includes itself, and what those include that it includes.

pub integer_itself : (w : Width) → Includes (type.Integer w) (type.Integer w)
integer_itself W8 = refl
integer_itself W16 = refl
integer_itself W32 = refl
integer_itself W64 = refl

pub includes_itself : (t : TType) → is_basic_type t ≡ true → Includes t t
includes_itself (type.Integer w) b = integer_itself w
includes_itself type.Boolean b = refl
includes_itself type.Char b = refl
includes_itself type.Set b = refl
includes_itself type.Any b = absurd (cc)
includes_itself (type.Named o) b = absurd (cc)

includes_any : (u : TType) → Includes u type.Any → ⊥
includes_any (type.Integer w) i = cc
includes_any type.Boolean i = cc
includes_any type.Char i = cc
includes_any type.Set i = cc
includes_any type.Any i = cc
includes_any (type.Named o) i = cc

includes_boolean : (u : TType) → Includes u type.Boolean → u ≡ type.Boolean
includes_boolean type.Boolean i = refl
includes_boolean (type.Integer w) i = cc
includes_boolean type.Char i = cc
includes_boolean type.Set i = cc
includes_boolean type.Any i = cc
includes_boolean (type.Named o) i = cc

includes_char : (u : TType) → Includes u type.Char → u ≡ type.Char
includes_char type.Char i = refl
includes_char (type.Integer w) i = cc
includes_char type.Boolean i = cc
includes_char type.Set i = cc
includes_char type.Any i = cc
includes_char (type.Named o) i = cc

includes_set : (u : TType) → Includes u type.Set → u ≡ type.Set
includes_set type.Set i = refl
includes_set (type.Integer w) i = cc
includes_set type.Boolean i = cc
includes_set type.Char i = cc
includes_set type.Any i = cc
includes_set (type.Named o) i = cc

includes_object : (u : TType) (o : ℕ) → Includes u (type.Named o) → u ≡ type.Named o
includes_object (type.Named q) o i = ap (λ n. type.Named n) (eqb-true q o i)
includes_object type.Boolean o i = cc
includes_object (type.Integer w) o i = cc
includes_object type.Char o i = cc
includes_object type.Set o i = cc
includes_object type.Any o i = cc

-- a type that includes an integer type is one
integer_in : (P : TType → Type 0) (w : Width) → ((v : Width) → Includes (type.Integer v) (type.Integer w) → P (type.Integer v)) →
    (u : TType) → Includes u (type.Integer w) → P u
integer_in P w each (type.Integer v) i = each v i
integer_in P w each type.Boolean i = absurd (cc)
integer_in P w each type.Char i = absurd (cc)
integer_in P w each type.Set i = absurd (cc)
integer_in P w each type.Any i = absurd (cc)
integer_in P w each (type.Named o) i = absurd (cc)

pub includes_on : (u t s : TType) → Includes u t → Includes t s → Includes u s
includes_on u t (type.Integer w) i j =
    integer_in (λ t. Includes u t → Includes u (type.Integer w)) w
    (λ v vw i. integer_in (λ u. Includes u (type.Integer w)) v (λ x xv. widths x v w xv vw) u i) t j i
  where
    widths : (x v w : Width) → Includes (type.Integer x) (type.Integer v) → Includes (type.Integer v) (type.Integer w) → Includes (type.Integer x) (type.Integer w)
    widths x v w xv vw = le-leb (bits w) (bits x) (omega (arith, leb-true (bits v) (bits x) xv, leb-true (bits w) (bits v) vw))
includes_on u t type.Boolean i j = subst (Includes u) (includes_boolean t j) i
includes_on u t type.Char i j = subst (Includes u) (includes_char t j) i
includes_on u t type.Set i j = subst (Includes u) (includes_set t j) i
includes_on u t type.Any i j = absurd (includes_any t j)
includes_on u t (type.Named o) i j = subst (Includes u) (includes_object t o j) i

-- Literals and expressions.

literal_wider : (l : Literal) (t u : TType) → Includes u t → IsLiteral l t → IsLiteral l u
literal_wider (literal.Int n) (type.Integer w) u i h = integer_in (λ u. IsLiteral (literal.Int n) u) w (λ v vw. within_wider v w n vw h) u i
literal_wider (literal.Int n) type.Boolean u i h = absurd h
literal_wider (literal.Int n) type.Char u i h = absurd h
literal_wider (literal.Int n) type.Set u i h = absurd h
literal_wider (literal.Int n) type.Any u i h = absurd h
literal_wider (literal.Int n) (type.Named o) u i h = absurd h
literal_wider (literal.Bool b) (type.Integer w) u i h = absurd h
literal_wider (literal.Bool b) type.Boolean u i h = subst (λ u. IsLiteral (literal.Bool b) u) (sym (includes_boolean u i)) h
literal_wider (literal.Bool b) type.Char u i h = absurd h
literal_wider (literal.Bool b) type.Set u i h = absurd h
literal_wider (literal.Bool b) type.Any u i h = absurd h
literal_wider (literal.Bool b) (type.Named o) u i h = absurd h
literal_wider (literal.Char c) (type.Integer w) u i h = absurd h
literal_wider (literal.Char c) type.Boolean u i h = absurd h
literal_wider (literal.Char c) type.Char u i h = subst (λ u. IsLiteral (literal.Char c) u) (sym (includes_char u i)) h
literal_wider (literal.Char c) type.Set u i h = absurd h
literal_wider (literal.Char c) type.Any u i h = absurd h
literal_wider (literal.Char c) (type.Named o) u i h = absurd h
literal_wider (literal.Set s) (type.Integer w) u i h = absurd h
literal_wider (literal.Set s) type.Boolean u i h = absurd h
literal_wider (literal.Set s) type.Char u i h = absurd h
literal_wider (literal.Set s) type.Set u i h = subst (λ u. IsLiteral (literal.Set s) u) (sym (includes_set u i)) h
literal_wider (literal.Set s) type.Any u i h = absurd h
literal_wider (literal.Set s) (type.Named o) u i h = absurd h
literal_wider (literal.Text c) (type.Integer w) u i h = absurd h
literal_wider (literal.Text c) type.Boolean u i h = absurd h
literal_wider (literal.Text c) type.Char u i h = subst (λ u. IsLiteral (literal.Text c) u) (sym (includes_char u i)) h
literal_wider (literal.Text c) type.Set u i h = absurd h
literal_wider (literal.Text c) type.Any u i h = absurd h
literal_wider (literal.Text c) (type.Named o) u i h = absurd h
literal_wider literal.Nil t u i h = absurd h
literal_wider literal.NoProcedure t u i h = absurd h

range_wider : (low high : ℤ) (t u : TType) → Includes u t → HasRange t low high → HasRange u low high
range_wider low high (type.Integer w) u i h = integer_in (λ u. HasRange u low high) w (λ v vw. (within_wider v w low vw h.0, within_wider v w high vw h.1)) u i
range_wider low high type.Boolean u i h = absurd h
range_wider low high type.Char u i h = absurd h
range_wider low high type.Set u i h = absurd h
range_wider low high type.Any u i h = absurd h
range_wider low high (type.Named o) u i h = absurd h

boolean_wider : (t u : TType) → Includes u t → t ≡ type.Boolean → u ≡ type.Boolean
boolean_wider t u i e = includes_boolean u (subst (Includes u) e i)

char_wider : (t u : TType) → Includes u t → t ≡ type.Char → u ≡ type.Char
char_wider t u i e = includes_char u (subst (Includes u) e i)

set_wider : (t u : TType) → Includes u t → t ≡ type.Set → u ≡ type.Set
set_wider t u i e = includes_set u (subst (Includes u) e i)

gives_wider : (op : UnaryOperator) (t u : TType) → Includes u t → Gives op t → Gives op u
gives_wider (one.Neg w) t u i g = includes_on u t (type.Integer w) i g
gives_wider (one.Abs w) t u i g = includes_on u t (type.Integer w) i g
gives_wider one.Not t u i g = boolean_wider t u i g
gives_wider one.Odd t u i g = boolean_wider t u i g
gives_wider one.Cap t u i g = char_wider t u i g
gives_wider one.Compl t u i g = set_wider t u i g
gives_wider (one.Range low high) t u i g = range_wider low high t u i g

gives_of_two_wider : (op : BinaryOperator) (t u : TType) → Includes u t → GivesOfTwo op t → GivesOfTwo op u
gives_of_two_wider (two.Add w) t u i g = includes_on u t (type.Integer w) i g
gives_of_two_wider (two.Sub w) t u i g = includes_on u t (type.Integer w) i g
gives_of_two_wider (two.Mul w) t u i g = includes_on u t (type.Integer w) i g
gives_of_two_wider (two.Div w) t u i g = includes_on u t (type.Integer w) i g
gives_of_two_wider (two.Mod w) t u i g = includes_on u t (type.Integer w) i g
gives_of_two_wider (two.Ash w) t u i g = includes_on u t (type.Integer w) i g
gives_of_two_wider (two.Cmp r) t u i g = boolean_wider t u i g
gives_of_two_wider two.Union t u i g = set_wider t u i g
gives_of_two_wider two.Minus t u i g = set_wider t u i g
gives_of_two_wider two.Meet t u i g = set_wider t u i g
gives_of_two_wider two.Xor t u i g = set_wider t u i g
gives_of_two_wider two.SetSpan t u i g = set_wider t u i g
gives_of_two_wider two.In t u i g = boolean_wider t u i g

-- a type that another includes is a basic one, or the other itself
same_or_basic : (t u : TType) → Includes u t → (is_basic_type t ≡ true) ⊎ (u ≡ t)
same_or_basic (type.Integer w) u i = inl refl
same_or_basic type.Boolean u i = inl refl
same_or_basic type.Char u i = inl refl
same_or_basic type.Set u i = inl refl
same_or_basic type.Any u i = absurd (includes_any u i)
same_or_basic (type.Named o) u i = inr (includes_object u o i)

-- Values of basic types are no objects.

basic_target : (p : Inside) (t : TType) → is_basic_type t ≡ true → target p.program.types t ≡ None
basic_target p (type.Integer W8) b = rw (p.basic 0 (omega arith)) refl
basic_target p (type.Integer W16) b = rw (p.basic 1 (omega arith)) refl
basic_target p (type.Integer W32) b = rw (p.basic 2 (omega arith)) refl
basic_target p (type.Integer W64) b = rw (p.basic 3 (omega arith)) refl
basic_target p type.Boolean b = rw (p.basic 4 (omega arith)) refl
basic_target p type.Char b = rw (p.basic 5 (omega arith)) refl
basic_target p type.Set b = rw (p.basic 6 (omega arith)) refl
basic_target p type.Any b = absurd (cc)
basic_target p (type.Named o) b = absurd (cc)

basic_not_any : (t : TType) → is_basic_type t ≡ true → t ≡ type.Any → ⊥
basic_not_any t b e = let n : is_basic_type type.Any ≡ true = subst (λ u. is_basic_type u ≡ true) e b in absurd (cc)

basic_is_any : (t : TType) → is_basic_type t ≡ true → is_any t ≡ false
basic_is_any (type.Integer w) b = refl
basic_is_any type.Boolean b = refl
basic_is_any type.Char b = refl
basic_is_any type.Set b = refl
basic_is_any type.Any b = absurd (cc)
basic_is_any (type.Named o) b = absurd (cc)

pub basic_no_reference : (p : Inside) (t : TType) → is_basic_type t ≡ true → is_reference p.program.types t ≡ false
basic_no_reference p t b = rw (basic_is_any t b, basic_target p t b) refl

pub basic_fits_none : (p : Inside) (t v : TType) → is_basic_type t ≡ true → FitsObject p.program.types t v → ⊥
basic_fits_none p t v b f = by f.1
  where
    by : (t ≡ type.Any) ⊎ ((a : TypeId) × (c : TypeId) × (target p.program.types t ≡ Some a) × (target p.program.types v ≡ Some c) × (comes_to p.program.types c a ≡ true)) → ⊥
    by (inl e) = basic_not_any t b e
    by (inr o) = none-some o.0 (sym (basic_target p t b) ∙ o.2)

-- nor procedures

basic_pattern : (p : Inside) (t : TType) → is_basic_type t ≡ true → pattern_of p.program t ≡ None
basic_pattern p (type.Integer w) b = refl
basic_pattern p type.Boolean b = refl
basic_pattern p type.Char b = refl
basic_pattern p type.Set b = refl
basic_pattern p type.Any b = absurd (cc)
basic_pattern p (type.Named o) b = absurd (cc)

basic_no_procedure : (p : Inside) (t : TType) → is_basic_type t ≡ true → is_procedural p.program.types t ≡ false
basic_no_procedure p (type.Integer W8) b = rw (p.basic 0 (omega arith)) refl
basic_no_procedure p (type.Integer W16) b = rw (p.basic 1 (omega arith)) refl
basic_no_procedure p (type.Integer W32) b = rw (p.basic 2 (omega arith)) refl
basic_no_procedure p (type.Integer W64) b = rw (p.basic 3 (omega arith)) refl
basic_no_procedure p type.Boolean b = rw (p.basic 4 (omega arith)) refl
basic_no_procedure p type.Char b = rw (p.basic 5 (omega arith)) refl
basic_no_procedure p type.Set b = rw (p.basic 6 (omega arith)) refl
basic_no_procedure p type.Any b = absurd (cc)
basic_no_procedure p (type.Named o) b = absurd (cc)

basic_is_none : (p : Inside) (t : TType) → is_basic_type t ≡ true → (q : Procedure) → IsProcedural p.program t q → ⊥
basic_is_none p t b q x = none-some x.0 (sym (basic_pattern p t b) ∙ x.1)

fits_wider : (p : Inside) (t u v : TType) → is_basic_type t ≡ true → Includes u t → Fits p.program t v → Fits p.program u v
fits_wider p t u v b i (inl k) = inl (includes_on u t v i k)
fits_wider p t u v b i (inr (inl o)) = absurd (basic_fits_none p t v b o)
fits_wider p t u v b i (inr (inr o)) = absurd (none-some o.0 (sym (basic_pattern p t b) ∙ o.2))

basic_wider : (p : Inside) (x : Expr) (t u : TType) → is_basic_type t ≡ true → IsOf p x t → Includes u t → IsOf p x u
basic_wider p (Lit l) t u b (inl h) i = inl (literal_wider l t u i h)
basic_wider p (Lit l) t u b (inr (inl r)) i = absurd (not_both (sym r.1 ∙ basic_no_reference p t b))
basic_wider p (Lit l) t u b (inr (inr r)) i = absurd (not_both (sym r.1 ∙ basic_no_procedure p t b))
basic_wider p (Read of place) t u b h i = (h.0, h.1, fits_wider p t u of b i h.2)
basic_wider p (Unary op a) t u b h i = (h.0, gives_wider op t u i h.1)
basic_wider p (Binary op x y) t u b h i = (h.0, gives_of_two_wider op t u i h.1)
basic_wider p (And x y) t u b h i = (h.0, h.1, boolean_wider t u i h.2)
basic_wider p (Or x y) t u b h i = (h.0, h.1, boolean_wider t u i h.2)
basic_wider p (Element a) t u b h i = (h.0, set_wider t u i h.1)
basic_wider p (Ord a) t u b h i = (h.0, includes_on u t (type.Integer W16) i h.1)
basic_wider p (Chr a) t u b h i = (h.0, char_wider t u i h.1)
basic_wider p (CompareTexts r x y) t u b h i = (h.0, h.1, boolean_wider t u i h.2)
basic_wider p (Len r d) t u b h i = (h.0, h.1, h.2, h.3, h.4, includes_on u t (type.Integer W32) i h.5)
basic_wider p (LenBehind r n) t u b h i = (h.0, h.1, h.2, h.3, includes_on u t (type.Integer W32) i h.4)
basic_wider p SelfRef t u b h i = (h.0, h.1, h.2, fits_wider p t u (type.Named h.0) b i h.3)
basic_wider p (Function c more) t u b h i = (h.0, h.1, h.2, h.3, h.4, fits_wider p t u h.1 b i h.5, h.6)
basic_wider p (Same x y) t u b h i = (h.0, h.1, boolean_wider t u i h.2)
basic_wider p (Is a k) t u b h i = (h.0, h.1, boolean_wider t u i h.2)
basic_wider p (IsRecord place k) t u b h i = (h.0, h.1, h.2, h.3, boolean_wider t u i h.4)
basic_wider p (Guard a k) t u b h i = absurd (by h.2)
  where
    by : (t ≡ type.Any) ⊎ ((c : TypeId) × (target p.program.types t ≡ Some c) × (comes_to p.program.types (id_of (type.Named k)) c ≡ true)) → ⊥
    by (inl e) = basic_not_any t b e
    by (inr o) = none-some o.0 (sym (basic_target p t b) ∙ o.1)
basic_wider p (ProcedureOf m k) t u b (q, there, fits) i = absurd (basic_is_none p t b q fits)
basic_wider p (MethodOf a o k) t u b (typed, object, (q, there, fits)) i = absurd (basic_is_none p t b q fits)
basic_wider p (SameProcedure x y) t u b h i = (h.0, h.1, boolean_wider t u i h.2)
basic_wider p (Had v) t u b h i = absurd h

pub wider : (p : Inside) (x : Expr) (t u : TType) → IsOf p x t → Includes u t → IsOf p x u
wider p x t u h i = by (same_or_basic t u i)
  where
    by : (is_basic_type t ≡ true) ⊎ (u ≡ t) → IsOf p x u
    by (inl b) = basic_wider p x t u b h i
    by (inr e) = subst (IsOf p x) (sym e) h

-- The types of the table.

pub same_type : (t u : TypeId) → is t u ≡ true → t ≡ u
same_type t u e = ap (λ (n : ℕ). record { 0 = n }) (eqb-true t.0 u.0 e)

-- an integer type is one of four
pub integer_cases : (P : TypeId → Type 0) → P shortint → P integer → P longint → P hugeint → (t : TypeId) → is_integer t ≡ true → P t
integer_cases P a b c d t h = by t.0 refl
  where
    by : (n : ℕ) → n ≡ t.0 → P t
    by zero e = subst P (same_type shortint t (eq-eqb 0 t.0 e)) a
    by (suc zero) e = subst P (same_type integer t (eq-eqb 1 t.0 e)) b
    by (suc (suc zero)) e = subst P (same_type longint t (eq-eqb 2 t.0 e)) c
    by (suc (suc (suc zero))) e = subst P (same_type hugeint t (eq-eqb 3 t.0 e)) d
    by (suc (suc (suc (suc n)))) e = absurd (let below : t.0 < 4 = ltb-true t.0 4 h in omega arith)

-- a basic type is one of seven
pub basic_cases : (P : TypeId → Type 0) → ((t : TypeId) → is_integer t ≡ true → P t) → P boolean → P char → P set → (t : TypeId) → is_basic t ≡ true → P t
basic_cases P each a b c t h = by (is_integer t) refl
  where
    above : 4 ≤ t.0 → (n : ℕ) → n ≡ t.0 - 4 → P t
    above from zero e = subst P (same_type boolean t (eq-eqb 4 t.0 (omega arith))) a
    above from (suc zero) e = subst P (same_type char t (eq-eqb 5 t.0 (omega arith))) b
    above from (suc (suc zero)) e = subst P (same_type set t (eq-eqb 6 t.0 (omega arith))) c
    above from (suc (suc (suc n))) e = absurd (let below : t.0 < 7 = ltb-true t.0 7 h in omega arith)

    by : (w : Bool) → is_integer t ≡ w → P t
    by true e = each t e
    by false e = above (ltb-false t.0 4 e) (t.0 - 4) refl

pub integer_basic : (t : TypeId) → is_integer t ≡ true → is_basic t ≡ true
integer_basic = integer_cases (λ t. is_basic t ≡ true) refl refl refl refl

pub as_integer : (t : TypeId) → is_integer t ≡ true → type_as t ≡ type.Integer (width_of_type t)
as_integer = integer_cases (λ t. type_as t ≡ type.Integer (width_of_type t)) refl refl refl refl

pub as_basic : (t : TypeId) → is_basic t ≡ true → is_basic_type (type_as t) ≡ true
as_basic = let P = λ (t : TypeId). is_basic_type (type_as t) ≡ true in basic_cases P (integer_cases P refl refl refl refl) refl refl refl

-- an integer type includes those before it
pub order_includes : (t u : TypeId) → is_integer t ≡ true → is_integer u ≡ true → t.0 ≤ u.0 → Includes (type_as u) (type_as t)
order_includes t u ht hu =
    integer_cases (λ t. t.0 ≤ u.0 → Includes (type_as u) (type_as t))
    (integer_cases (λ u. 0 ≤ u.0 → Includes (type_as u) (type_as shortint)) (λ h. refl) (λ h. refl) (λ h. refl) (λ h. refl) u hu)
    (integer_cases (λ u. 1 ≤ u.0 → Includes (type_as u) (type_as integer)) (λ h. absurd (omega arith)) (λ h. refl) (λ h. refl) (λ h. refl) u hu)
    (integer_cases (λ u. 2 ≤ u.0 → Includes (type_as u) (type_as longint)) (λ h. absurd (omega arith)) (λ h. absurd (omega arith)) (λ h. refl) (λ h. refl) u hu)
    (integer_cases (λ u. 3 ≤ u.0 → Includes (type_as u) (type_as hugeint)) (λ h. absurd (omega arith)) (λ h. absurd (omega arith)) (λ h. absurd (omega arith)) (λ h. refl) u hu)
    t ht

-- a basic type that another one fits includes it
pub fits_includes : (t u : TypeId) → is_basic t ≡ true → fits_type t u ≡ true → Includes (type_as u) (type_as t)
fits_includes t u low h = by (is_integer t) (is_integer u) refl refl h
  where
    same : is t u ≡ true → Includes (type_as u) (type_as t)
    same e = subst (λ u. Includes (type_as u) (type_as t)) (same_type t u e) (includes_itself (type_as t) (as_basic t low))

    by : (a b : Bool) → is_integer t ≡ a → is_integer u ≡ b → (if a && b then nat_le t.0 u.0 else is t u) ≡ true → Includes (type_as u) (type_as t)
    by true true p q e = order_includes t u p q (leb-true t.0 u.0 e)
    by true false p q e = same e
    by false b p q e = same e

-- Types that are told: their numbers in the table are theirs in the typed program.

pub as_named : (t : TypeId) → 9 ≤ t.0 → type_as t ≡ type.Named (object_number t)
as_named t from =
    let o = type.Named (object_number t) in
    ap (λ w. if w then type.Integer (width_of_type t) else if is boolean t then type.Boolean else if is char t then type.Char else if is set t then type.Set else if is nil t || is any t then type.Any else o) (le-ltb t.0 4 (omega arith))
    ∙ ap (λ w. if w then type.Boolean else if is char t then type.Char else if is set t then type.Set else if is nil t || is any t then type.Any else o) (ne_eqb 4 t.0 (λ h. omega arith))
    ∙ ap (λ w. if w then type.Char else if is set t then type.Set else if is nil t || is any t then type.Any else o) (ne_eqb 5 t.0 (λ h. omega arith))
    ∙ ap (λ w. if w then type.Set else if is nil t || is any t then type.Any else o) (ne_eqb 6 t.0 (λ h. omega arith))
    ∙ ap (λ w. if w || is any t then type.Any else o) (ne_eqb 7 t.0 (λ h. omega arith))
    ∙ ap (λ w. if w then type.Any else o) (ne_eqb 8 t.0 (λ h. omega arith))

-- of one that a module defines or writes
pub id_above : (t : TypeId) → 10 ≤ t.0 → id_of (type_as t) ≡ t
id_above t from = ap id_of (as_named t (omega arith)) ∙ ap (λ (n : ℕ). record { 0 = n }) (back t.0 from)
  where
    back : (n : ℕ) → 10 ≤ n → (n - 10) + 10 ≡ n
    back n from = omega arith

pub id_as : (types : List TypeRow) (t : TypeId) → IsTold types t → id_of (type_as t) ≡ t
id_as types t (basic below) = basic_cases (λ t. id_of (type_as t) ≡ t) (integer_cases (λ t. id_of (type_as t) ≡ t) refl refl refl refl) refl refl refl t (lt-ltb t.0 7 below)
id_as types t (of_any is) = subst (λ t. id_of (type_as t) ≡ t) (same_type any t (eq-eqb 8 t.0 (sym is))) refl
id_as types t (defined r from there closed) = id_above t from
