-- What instructions find whose operands are of the kinds that they take: whatever holds of the traps, and of what is made of such
-- operands, holds of what they come to.
use Rattle.std.proofs.Common.{◌≡◌, ℕ, zero, suc, ℤ, pos, negsuc, ◌+◌, ◌-◌, ◌*◌, ◌^◌, List, [], ◌∷◌, ◌++◌, length, map, replicate, reverse, drop, Bool, true, false, ◌&&◌, Option, Some, None, nat_lt, if◌then◌else◌, refl, sym, ap, ◌∙◌, subst, arith, append_assoc}
use Rattle.std.proofs.lemmas.List.{reverse-append}
use Rattle.aos_base.specs.Operators.{natural}
use Rattle.aos_base.specs.Question.{Calls as CallsOf, ByName, Ends}
use Rattle.aos_base.specs.declared.root.Root.{Root}
use Rattle.aos_base.specs.declared.operator.Given.{Given}
use Rattle.aos_base.specs.declared.operator.Given.TheVariants.{Number, Trap, Undefined}
use Rattle.aos_code.specs.declared.instr.Cell.{Cell}
use Rattle.aos_code.specs.declared.instr.Cell.TheVariants.{Num, Ref, Call as CallCell, Place}
use Rattle.aos_code.specs.declared.instr.Kind.{Kind}
use Rattle.aos_code.specs.declared.instr.Kind.TheVariants.{N, R, C, A}
use Rattle.aos_code.specs.Memory.{Addr}
use Rattle.aos_code.specs.declared.image.ProcShape.{ProcShape}
use Rattle.aos_code.specs.Numbered.{numbered}
use Rattle.aos_code.specs.Silent as silent
use Rattle.aos_code.specs.Silent.{Stack, Fails, Act, Goes, Looks, Look, AtSlot, Sees, Stops, lost, is_of, if_of, on_any, on_kind, number_then, on_number, on_numbers, object_then, on_object, unless_nil, place_then, on_place, callable_then, on_callable, on_text, length_then, lengths_on, counted_on, duplicates, swaps, gives_place, element, length_cells, gives_picked, on_kinds, kinds_of}
use Rattle.aos_sound.specs.Sound.{Kinds, same_kind, without, topped, all_topped, row, dropped, twice, swapped, if_empty, alone, object_below, taken, taken_applied}
use Rattle.aos_sound.specs.Fits.{AreOf, IsResult, result_of}
use Rattle.aos_sound.proofs.Taken.{reverse_lengths}

-- Kinds.

-- kinds that are the same are one
same_is : (k x : Kind) → same_kind k x ≡ true → x ≡ k
same_is N N e = refl
same_is R R e = refl
same_is C C e = refl
same_is A A e = refl
same_is k x e = absurd (cc e)

-- and those of results
same_kind_is : (k l : Kind) → silent.same_kind k l ≡ true → l ≡ k
same_kind_is N N e = refl
same_kind_is R R e = refl
same_kind_is C C e = refl
same_kind_is A A e = refl
same_kind_is k l e = absurd (cc e)

same_result_is : (r s : Option Kind) → silent.same_result r s ≡ true → s ≡ r
same_result_is None None e = refl
same_result_is (Some k) (Some l) e = ap (λ x. Some x) (same_kind_is k l e)
same_result_is r s e = absurd (cc e)

pub second_is : (a b : Bool) → (a && b) ≡ true → b ≡ true
second_is true b e = e
second_is false b e = absurd (cc e)

-- procedures with the same formals have one result
pub formals_result : (f g : ProcShape) → silent.same_formals f g ≡ true → g.result ≡ f.result
formals_result f g e = same_result_is f.result g.result (second_is (silent.same_params f.params.items g.params.items) (silent.same_result f.result g.result) e)

some_is : {X : Type 0} (x y : X) → Some x ≡ Some y → x ≡ y
some_is x y e = cc

-- where some are found of which this is the first, it is on top, and the others are found below
pub first_taken : (k x : Kind) (ks s t : Kinds) → without (k ∷ ks) (x ∷ s) ≡ Some t → (x ≡ k) × (without ks s ≡ Some t)
first_taken k x ks s t e = by (same_kind k x) refl e
  where
    by : (b : Bool) → same_kind k x ≡ b → (if b then without ks s else None) ≡ Some t → (x ≡ k) × (without ks s ≡ Some t)
    by true same f = (same_is k x same, f)
    by false same f = absurd (cc f)

-- one given on what is left
pub topped_is : (k : Kind) (below : Option Kinds) (t : Kinds) → topped k below ≡ Some t → (u : Kinds) × (below ≡ Some u) × (k ∷ u ≡ t)
topped_is k None t e = absurd (cc e)
topped_is k (Some u) t e = (u, refl, some_is (k ∷ u) t e)

-- many given on what is left
pub all_topped_is : (new : Kinds) (below : Option Kinds) (t : Kinds) → all_topped new below ≡ Some t → (u : Kinds) × (below ≡ Some u) × (new ++ u ≡ t)
all_topped_is new None t e = absurd (cc e)
all_topped_is new (Some u) t e = (u, refl, some_is (new ++ u) t e)

-- Operands.

pub retyped : (s t : Kinds) (stack : Stack) → Some s ≡ Some t → AreOf s stack → AreOf t stack
retyped s t stack e are = subst (λ u. AreOf u stack) (some_is s t e) are

-- one more on top
pub with_top : (k : Kind) (u t : Kinds) (v : Cell) (rest : Stack) → k ∷ u ≡ t → is_of k v ≡ true → AreOf u rest → AreOf t (v ∷ rest)
with_top k u t v rest e o are = subst (λ x. AreOf x (v ∷ rest)) e (o, are)

-- there are as many as kinds
pub are_length : (s : Kinds) (stack : Stack) → AreOf s stack → length stack ≡ length s
are_length [] [] are = refl
are_length [] (v ∷ vs) are = absurd are
are_length (k ∷ ks) [] are = absurd are
are_length (k ∷ ks) (v ∷ vs) are = ap (λ n. suc n) (are_length ks vs are.1)

pub are_both : (ks js : Kinds) (vs ws : Stack) → AreOf ks vs → AreOf js ws → AreOf (ks ++ js) (vs ++ ws)
are_both [] js [] ws are more = more
are_both [] js (v ∷ vs) ws are more = absurd are
are_both (k ∷ ks) js [] ws are more = absurd are
are_both (k ∷ ks) js (v ∷ vs) ws are more = (are.0, are_both ks js vs ws are.1 more)

are_reversed : (ks : Kinds) (vs : Stack) → AreOf ks vs → AreOf (reverse ks) (reverse vs)
are_reversed [] [] are = tt
are_reversed [] (v ∷ vs) are = absurd are
are_reversed (k ∷ ks) [] are = absurd are
are_reversed (k ∷ ks) (v ∷ vs) are =
    subst (λ x. AreOf x (reverse (v ∷ vs))) (sym (reverse-append (k ∷ []) ks))
    (subst (λ x. AreOf (reverse ks ++ k ∷ []) x) (sym (reverse-append (v ∷ []) vs)) (are_both (reverse ks) (k ∷ []) (reverse vs) (v ∷ []) (are_reversed ks vs are.1) (are.0, tt)))

lengths_are : (ns : List ℕ) → AreOf (replicate (length ns) N) (map (λ n. Num (pos n)) ns)
lengths_are [] = tt
lengths_are (n ∷ ns) = (refl, lengths_are ns)

-- the place of an open array and its lengths above it
pub row_is : (ns : List ℕ) (u : Kinds) (v : Cell) (rest : Stack) → is_of A v ≡ true → AreOf u rest → AreOf (row (length ns) ++ u) (length_cells ns ++ v ∷ rest)
row_is ns u v rest o are =
    let above : AreOf (replicate (length ns) N) (length_cells ns) = subst (λ x. AreOf x (length_cells ns)) (reverse_lengths (length ns)) (are_reversed (replicate (length ns) N) (map (λ n. Num (pos n)) ns) (lengths_are ns)) in
    subst (λ x. AreOf x (length_cells ns ++ v ∷ rest)) (sym (append_assoc (replicate (length ns) N) (A ∷ []) u)) (are_both (replicate (length ns) N) (A ∷ u) (length_cells ns) (v ∷ rest) above (o, are))

-- What lies there where some are found.

of_number : (v : Cell) → is_of N v ≡ true → (Q : Cell → Type 0) → ((z : ℤ) → Q (Num z)) → Q v
of_number (Num z) o Q h = h z
of_number (Ref r) o Q h = absurd (cc o)
of_number (CallCell p r) o Q h = absurd (cc o)
of_number (Place root cell ty) o Q h = absurd (cc o)

of_place : (v : Cell) → is_of A v ≡ true → (Q : Cell → Type 0) → ((root : Root) (cell ty : ℕ) → Q (Place root cell ty)) → Q v
of_place (Num z) o Q h = absurd (cc o)
of_place (Ref r) o Q h = absurd (cc o)
of_place (CallCell p r) o Q h = absurd (cc o)
of_place (Place root cell ty) o Q h = h root cell ty

of_callable : (v : Cell) → is_of C v ≡ true → (Q : Cell → Type 0) → ((p o : ℕ) → Q (CallCell p o)) → Q v
of_callable (Num z) e Q h = absurd (cc e)
of_callable (Ref r) e Q h = absurd (cc e)
of_callable (CallCell p o) e Q h = h p o
of_callable (Place root cell ty) e Q h = absurd (cc e)

pub number_found : (ks s t : Kinds) (stack : Stack) (Q : Stack → Type 0) → AreOf s stack → without (N ∷ ks) s ≡ Some t → ((z : ℤ) (u : Kinds) (rest : Stack) → AreOf u rest → without ks u ≡ Some t → Q (Num z ∷ rest)) → Q stack
number_found ks [] t stack Q are e h = absurd (cc e)
number_found ks (x ∷ s) t [] Q are e h = absurd are
number_found ks (x ∷ s) t (v ∷ vs) Q are e h = by v are.0
  where
    by : (v : Cell) → is_of x v ≡ true → Q (v ∷ vs)
    by v o = let w = first_taken N x ks s t e in of_number v (subst (λ y. is_of y v ≡ true) w.0 o) (λ y. Q (y ∷ vs)) (λ z. h z s vs are.1 w.1)

pub place_found : (ks s t : Kinds) (stack : Stack) (Q : Stack → Type 0) → AreOf s stack → without (A ∷ ks) s ≡ Some t → ((root : Root) (cell ty : ℕ) (u : Kinds) (rest : Stack) → AreOf u rest → without ks u ≡ Some t → Q (Place root cell ty ∷ rest)) → Q stack
place_found ks [] t stack Q are e h = absurd (cc e)
place_found ks (x ∷ s) t [] Q are e h = absurd are
place_found ks (x ∷ s) t (v ∷ vs) Q are e h = by v are.0
  where
    by : (v : Cell) → is_of x v ≡ true → Q (v ∷ vs)
    by v o = let w = first_taken A x ks s t e in of_place v (subst (λ y. is_of y v ≡ true) w.0 o) (λ y. Q (y ∷ vs)) (λ root cell ty. h root cell ty s vs are.1 w.1)

pub callable_found : (ks s t : Kinds) (stack : Stack) (Q : Stack → Type 0) → AreOf s stack → without (C ∷ ks) s ≡ Some t → ((p o : ℕ) (u : Kinds) (rest : Stack) → AreOf u rest → without ks u ≡ Some t → Q (CallCell p o ∷ rest)) → Q stack
callable_found ks [] t stack Q are e h = absurd (cc e)
callable_found ks (x ∷ s) t [] Q are e h = absurd are
callable_found ks (x ∷ s) t (v ∷ vs) Q are e h = by v are.0
  where
    by : (v : Cell) → is_of x v ≡ true → Q (v ∷ vs)
    by v o = let w = first_taken C x ks s t e in of_callable v (subst (λ y. is_of y v ≡ true) w.0 o) (λ y. Q (y ∷ vs)) (λ p q. h p q s vs are.1 w.1)

-- where operands of these kinds are found, the others lie below them
pub kinds_below : (ks js : Kinds) (vs : List Cell) (s t : Kinds) (stack : Stack) → AreOf s stack → without (ks ++ js) s ≡ Some t →
    (ws : List Cell) × (u : Kinds) × AreOf u (drop (length ks) stack) × (without js u ≡ Some t) × ((f : List Cell → Stack → Act) → on_kinds ks vs f stack ≡ f ws (drop (length ks) stack))
kinds_below [] js vs s t stack are e = (vs, s, are, e, λ f. refl)
kinds_below (k ∷ ks) js vs [] t stack are e = absurd (cc e)
kinds_below (k ∷ ks) js vs (x ∷ s) t [] are e = absurd are
kinds_below (k ∷ ks) js vs (x ∷ s) t (v ∷ stack) are e =
    let w = first_taken k x (ks ++ js) s t e in
    let o : is_of k v ≡ true = subst (λ y. is_of y v ≡ true) w.0 are.0 in
    let m = kinds_below ks js (v ∷ vs) s t stack are.1 w.1 in
    (m.0, m.1, m.2, m.3, λ f. ap (λ b. if b then on_kinds ks (v ∷ vs) f stack else Stops lost) o ∙ m.4 f)

-- What operands come to.
module _ (P : Act → Type 0) where
  pub kind_holds : (k : Kind) (ks s t : Kinds) (f : Cell → Stack → Act) (stack : Stack) → AreOf s stack → without (k ∷ ks) s ≡ Some t → ((v : Cell) (u : Kinds) (rest : Stack) → is_of k v ≡ true → AreOf u rest → without ks u ≡ Some t → P (f v rest)) → P (on_kind k f stack)
  kind_holds k ks [] t f stack are e h = absurd (cc e)
  kind_holds k ks (x ∷ s) t f [] are e h = absurd are
  kind_holds k ks (x ∷ s) t f (v ∷ vs) are e h =
      let w = first_taken k x ks s t e in
      let o : is_of k v ≡ true = subst (λ y. is_of y v ≡ true) w.0 are.0 in
      subst (λ b. P (if b then f v vs else Stops lost)) (sym o) (h v s vs o are.1 w.1)

  number_holds : (f : ℤ → Act) (v : Cell) → is_of N v ≡ true → ((z : ℤ) → P (f z)) → P (number_then f v)
  number_holds f (Num z) o h = h z
  number_holds f (Ref r) o h = absurd (cc o)
  number_holds f (CallCell p r) o h = absurd (cc o)
  number_holds f (Place root cell ty) o h = absurd (cc o)

  place_holds : (f : Addr → ℕ → Act) (v : Cell) → is_of A v ≡ true → ((a : Addr) (ty : ℕ) → P (f a ty)) → P (place_then f v)
  place_holds f (Num z) o h = absurd (cc o)
  place_holds f (Ref r) o h = absurd (cc o)
  place_holds f (CallCell p r) o h = absurd (cc o)
  place_holds f (Place root cell ty) o h = h (record { root = root; cell = cell }) ty

  pub on_number_holds : (ks s t : Kinds) (f : ℤ → Stack → Act) (stack : Stack) → AreOf s stack → without (N ∷ ks) s ≡ Some t → ((z : ℤ) (u : Kinds) (rest : Stack) → AreOf u rest → without ks u ≡ Some t → P (f z rest)) → P (on_number f stack)
  on_number_holds ks [] t f stack are e h = absurd (cc e)
  on_number_holds ks (x ∷ s) t f [] are e h = absurd are
  on_number_holds ks (x ∷ s) t f (v ∷ vs) are e h =
      let w = first_taken N x ks s t e in
      number_holds (λ z. f z vs) v (subst (λ y. is_of y v ≡ true) w.0 are.0) (λ z. h z s vs are.1 w.1)

  object_holds : (f : ℕ → Act) (v : Cell) → is_of R v ≡ true → ((o : ℕ) → P (f o)) → P (object_then f v)
  object_holds f (Num z) o h = absurd (cc o)
  object_holds f (Ref r) o h = h r
  object_holds f (CallCell p r) o h = absurd (cc o)
  object_holds f (Place root cell ty) o h = absurd (cc o)

  pub on_object_holds : (ks s t : Kinds) (f : ℕ → Stack → Act) (stack : Stack) → AreOf s stack → without (R ∷ ks) s ≡ Some t → ((o : ℕ) (u : Kinds) (rest : Stack) → AreOf u rest → without ks u ≡ Some t → P (f o rest)) → P (on_object f stack)
  on_object_holds ks [] t f stack are e h = absurd (cc e)
  on_object_holds ks (x ∷ s) t f [] are e h = absurd are
  on_object_holds ks (x ∷ s) t f (v ∷ vs) are e h =
      let w = first_taken R x ks s t e in
      object_holds (λ o. f o vs) v (subst (λ y. is_of y v ≡ true) w.0 are.0) (λ o. h o s vs are.1 w.1)

  callable_holds : (f : ℕ → ℕ → Act) (v : Cell) → is_of C v ≡ true → ((p o : ℕ) → P (f p o)) → P (callable_then f v)
  callable_holds f (Num z) e h = absurd (cc e)
  callable_holds f (Ref r) e h = absurd (cc e)
  callable_holds f (CallCell p o) e h = h p o
  callable_holds f (Place root cell ty) e h = absurd (cc e)

  pub on_callable_holds : (ks s t : Kinds) (f : ℕ → ℕ → Stack → Act) (stack : Stack) → AreOf s stack → without (C ∷ ks) s ≡ Some t → ((p o : ℕ) (u : Kinds) (rest : Stack) → AreOf u rest → without ks u ≡ Some t → P (f p o rest)) → P (on_callable f stack)
  on_callable_holds ks [] t f stack are e h = absurd (cc e)
  on_callable_holds ks (x ∷ s) t f [] are e h = absurd are
  on_callable_holds ks (x ∷ s) t f (v ∷ vs) are e h =
      let w = first_taken C x ks s t e in
      callable_holds (λ p o. f p o vs) v (subst (λ y. is_of y v ≡ true) w.0 are.0) (λ p o. h p o s vs are.1 w.1)

  unless_holds : (o : ℕ) (a b : Act) → P a → P b → P (unless_nil o a b)
  unless_holds zero a b p q = p
  unless_holds (suc o) a b p q = q

  -- what an object is asked for
  pub looks_hold : (l : Look) (at_nil : Stack → Act) (s t : Kinds) (stack : Stack) → AreOf s stack → without (R ∷ []) s ≡ Some t → ((rest : Stack) → AreOf t rest → P (at_nil rest)) → ((o : ℕ) (rest : Stack) → AreOf t rest → P (Looks l o rest)) → P (silent.looks l at_nil stack)
  looks_hold l at_nil s t stack are e h g =
      on_object_holds [] s t (λ o s1. unless_nil o (at_nil s1) (Looks l o s1)) stack are e
      (λ o u rest are1 e1. let are2 = retyped u t rest e1 are1 in unless_holds o (at_nil rest) (Looks l o rest) (h rest are2) (g o rest are2))

  pub on_place_holds : (ks s t : Kinds) (f : Addr → ℕ → Stack → Act) (stack : Stack) → AreOf s stack → without (A ∷ ks) s ≡ Some t → ((a : Addr) (ty : ℕ) (u : Kinds) (rest : Stack) → AreOf u rest → without ks u ≡ Some t → P (f a ty rest)) → P (on_place f stack)
  on_place_holds ks [] t f stack are e h = absurd (cc e)
  on_place_holds ks (x ∷ s) t f [] are e h = absurd are
  on_place_holds ks (x ∷ s) t f (v ∷ vs) are e h =
      let w = first_taken A x ks s t e in
      place_holds (λ a ty. f a ty vs) v (subst (λ y. is_of y v ≡ true) w.0 are.0) (λ a ty. h a ty s vs are.1 w.1)

  pub on_text_holds : (ks s t : Kinds) (f : Addr → Cell → Stack → Act) (stack : Stack) → AreOf s stack → without (N ∷ A ∷ ks) s ≡ Some t → ((a : Addr) (n : Cell) (u : Kinds) (rest : Stack) → AreOf u rest → without ks u ≡ Some t → P (f a n rest)) → P (on_text f stack)
  on_text_holds ks s t f stack are e h =
      kind_holds N (A ∷ ks) s t (λ n s1. on_place (λ a ty s2. f a n s2) s1) stack are e
      (λ n u rest o are1 e1. on_place_holds ks u t (λ a ty s2. f a n s2) rest are1 e1 (λ a ty u2 rest2 are2 e2. h a n u2 rest2 are2 e2))

  pub counted_hold : (j : ℕ) (zs : List ℤ) (ks s t : Kinds) (f : List ℤ → Stack → Act) (stack : Stack) → AreOf s stack → without (replicate j N ++ ks) s ≡ Some t → ((ys : List ℤ) (u : Kinds) (rest : Stack) → length ys ≡ j + length zs → AreOf u rest → without ks u ≡ Some t → P (f ys rest)) → P (counted_on j zs f stack)
  counted_hold zero zs ks s t f stack are e h = h zs s stack (omega arith) are e
  counted_hold (suc j) zs ks s t f stack are e h =
      on_number_holds (replicate j N ++ ks) s t (λ z s1. counted_on j (z ∷ zs) f s1) stack are e
      (λ z u rest are1 e1. counted_hold j (z ∷ zs) ks u t f rest are1 e1 (λ ys u2 rest2 l are2 e2. h ys u2 rest2 (omega (arith, l)) are2 e2))

  kinds_hold : (ks : List Kind) (js : Kinds) (vs : List Cell) (s t : Kinds) (f : List Cell → Stack → Act) (stack : Stack) → AreOf s stack → without (ks ++ js) s ≡ Some t → ((vs : List Cell) (u : Kinds) (rest : Stack) → AreOf u rest → without js u ≡ Some t → P (f vs rest)) → P (on_kinds ks vs f stack)
  kinds_hold [] js vs s t f stack are e h = h vs s stack are e
  kinds_hold (k ∷ ks) js vs s t f stack are e h =
      kind_holds k (ks ++ js) s t (λ v s1. on_kinds ks (v ∷ vs) f s1) stack are e
      (λ v u rest o are1 e1. kinds_hold ks js (v ∷ vs) u t f rest are1 e1 h)

  -- the object on which a method is called
  receiver_holds : (s t : Kinds) (f : ℕ → Stack → Act) (stack : Stack) → AreOf s stack → without (R ∷ []) s ≡ Some t → P (Stops (Fails 1 0)) → ((o : ℕ) (rest : Stack) → AreOf t rest → P (f o rest)) → P (silent.on_receiver f stack)
  receiver_holds s t f stack are e nil h =
      on_object_holds [] s t (λ o s1. unless_nil o (Stops (Fails 1 0)) (f o s1)) stack are e
      (λ o u rest are1 e1. unless_holds o (Stops (Fails 1 0)) (f o rest) nil (h o rest (retyped u t rest e1 are1)))

  called_holds : (method : Bool) (p : ℕ) (vs : List Cell) (s t : Kinds) (stack : Stack) → AreOf s stack → without (object_below method) s ≡ Some t → P (Stops (Fails 1 0)) → ((ws : List Cell) (rest : Stack) → AreOf t rest → P (Sees (CallsOf ByName p ws) rest)) → P (silent.called method p vs stack)
  called_holds true p vs s t stack are e nil h = receiver_holds s t (λ o s1. Sees (CallsOf ByName p (Ref o ∷ vs)) s1) stack are e nil (λ o rest are1. h (Ref o ∷ vs) rest are1)
  called_holds false p vs s t stack are e nil h = h vs stack (retyped s t stack e are)

  -- a call, and a call of a method by its slot
  pub call_holds : (f : ProcShape) (p : ℕ) (s t : Kinds) (stack : Stack) → AreOf s stack → without (taken f.method f) s ≡ Some t → P (Stops (Fails 1 0)) → ((ws : List Cell) (rest : Stack) → AreOf t rest → P (Sees (CallsOf ByName p ws) rest)) → P (silent.calls (Some f) p stack)
  call_holds f p s t stack are e nil h =
      kinds_hold (reverse (kinds_of f.params.items)) (object_below f.method) [] s t (λ vs s1. silent.called f.method p vs s1) stack are e
      (λ vs u rest are1 e1. called_holds f.method p vs u t rest are1 e1 nil h)

  pub send_holds : (f : ProcShape) (k p : ℕ) (s t : Kinds) (stack : Stack) → AreOf s stack → without (taken true f) s ≡ Some t → P (Stops (Fails 1 0)) → ((o : ℕ) (ws : List Cell) (rest : Stack) → AreOf t rest → P (Looks (AtSlot k p ws) o rest)) → P (silent.sends (Some f) k p stack)
  send_holds f k p s t stack are e nil h =
      kinds_hold (reverse (kinds_of f.params.items)) (R ∷ []) [] s t (λ vs s1. silent.on_receiver (λ o s2. Looks (AtSlot k p vs) o s2) s1) stack are e
      (λ vs u rest are1 e1. receiver_holds u t (λ o s2. Looks (AtSlot k p vs) o s2) rest are1 e1 nil (λ o rest2 are2. h o vs rest2 are2))

  pub twice_holds : (s t : Kinds) (stack : Stack) → AreOf s stack → twice s ≡ Some t → ((rest : Stack) → AreOf t rest → P (Goes 0 rest)) → P (duplicates stack)
  twice_holds [] t stack are e h = absurd (cc e)
  twice_holds (k ∷ s) t [] are e h = absurd are
  twice_holds (k ∷ s) t (v ∷ vs) are e h = h (v ∷ v ∷ vs) (retyped (k ∷ k ∷ s) t (v ∷ v ∷ vs) e (are.0, are))

  pub drop_holds : (s t : Kinds) (stack : Stack) → AreOf s stack → dropped s ≡ Some t → ((rest : Stack) → AreOf t rest → P (Goes 0 rest)) → P (on_any (λ v s1. Goes 0 s1) stack)
  drop_holds [] t stack are e h = absurd (cc e)
  drop_holds (k ∷ s) t [] are e h = absurd are
  drop_holds (k ∷ s) t (v ∷ vs) are e h = h vs (retyped s t vs e are.1)

  pub swap_holds : (s t : Kinds) (stack : Stack) → AreOf s stack → swapped s ≡ Some t → ((rest : Stack) → AreOf t rest → P (Goes 0 rest)) → P (swaps stack)
  swap_holds [] t stack are e h = absurd (cc e)
  swap_holds (k ∷ []) t stack are e h = absurd (cc e)
  swap_holds (k ∷ j ∷ s) t [] are e h = absurd are
  swap_holds (k ∷ j ∷ s) t (v ∷ []) are e h = absurd are.1
  swap_holds (k ∷ j ∷ s) t (v ∷ w ∷ vs) are e h = h (w ∷ v ∷ vs) (retyped (j ∷ k ∷ s) t (w ∷ v ∷ vs) e (are.1.0, (are.0, are.1.1)))

  -- the result of a procedure alone is on top, and nothing else is there
  alone_taken : (k : Kind) (s t : Kinds) → alone (Some k) s ≡ Some t → without (k ∷ []) s ≡ Some []
  alone_taken k [] t e = absurd (cc e)
  alone_taken k (x ∷ s) t e = by (same_kind k x) s e
    where
      by : (b : Bool) (s : Kinds) → (if b then if_empty s else None) ≡ Some t → (if b then without [] s else None) ≡ Some []
      by true [] f = refl
      by true (y ∷ s) f = absurd (cc f)
      by false s f = absurd (cc f)

  no_operand : (stack : Stack) → AreOf [] stack → stack ≡ []
  no_operand [] are = refl
  no_operand (v ∷ vs) are = absurd are

  pub ends_hold : (f : ProcShape) (r : Option Kind) (s t : Kinds) (stack : Stack) → AreOf s stack → alone r s ≡ Some t → ((v : Option Cell) → IsResult r v → P (Sees (Ends v) [])) → P (silent.ends (Some (record f { result = r })) stack)
  ends_hold f None [] t [] are e h = h None tt
  ends_hold f None [] t (v ∷ vs) are e h = absurd are
  ends_hold f None (k ∷ s) t stack are e h = absurd (cc e)
  ends_hold f (Some k) s t stack are e h =
      kind_holds k [] s [] (λ v s1. Sees (Ends (Some v)) s1) stack are (alone_taken k s t e)
      (λ v u rest o are1 e1. subst (λ x. P (Sees (Ends (Some v)) x)) (sym (no_operand rest (retyped u [] rest e1 are1))) (h (Some v) o))

-- And where it holds of the traps.
module _ (P : Act → Type 0) (fails : (n c : ℕ) → P (Stops (Fails n c))) where
  length_holds : (f : ℕ → Act) (z : ℤ) → ((n : ℕ) → P (f n)) → P (length_then z f)
  length_holds f (pos n) h = h n
  length_holds f (negsuc n) h = fails 16 0

  -- what a procedure value stands for is called, which gives what the procedure of this shape gives
  applies_hold : (shapes : List ProcShape) (g : ProcShape) (p o : ℕ) (vs : List Cell) (stack : Stack) → ((q : ℕ) (ws : List Cell) → result_of (numbered shapes q) ≡ g.result → P (Sees (CallsOf ByName q ws) stack)) → P (silent.applies shapes g p o vs stack)
  applies_hold shapes g zero o vs stack h = fails 1 0
  applies_hold shapes g (suc p) o vs stack h = by (numbered shapes (suc p)) refl
    where
      to : (is_same method : Bool) (o : ℕ) → ((ws : List Cell) → is_same ≡ true → P (Sees (CallsOf ByName (suc p) ws) stack)) → P (silent.applies_to is_same method (suc p) o vs stack)
      to true true zero k = fails 16 0
      to true true (suc o) k = k (Ref (suc o) ∷ vs) refl
      to true false zero k = k vs refl
      to true false (suc o) k = fails 16 0
      to is_same method o k = fails 16 0

      by : (f : Option ProcShape) → numbered shapes (suc p) ≡ f → P (silent.applies_as f g (suc p) o vs stack)
      by None is = fails 16 0
      by (Some f) is = to (silent.same_formals f g) f.method o (λ ws same. h (suc p) ws (ap result_of is ∙ sym (formals_result f g same)))

  pub value_holds : (shapes : List ProcShape) (g : ProcShape) (s t : Kinds) (stack : Stack) → AreOf s stack → without (taken_applied g) s ≡ Some t → ((q : ℕ) (ws : List Cell) (rest : Stack) → AreOf t rest → result_of (numbered shapes q) ≡ g.result → P (Sees (CallsOf ByName q ws) rest)) → P (silent.calls_value shapes (Some g) stack)
  value_holds shapes g s t stack are e h =
      kinds_hold P (reverse (kinds_of g.params.items)) (C ∷ []) [] s t (λ vs s1. on_callable (λ p o s2. silent.applies shapes g p o vs s2) s1) stack are e
      (λ vs u rest are1 e1. on_callable_holds P [] u t (λ p o s2. silent.applies shapes g p o vs s2) rest are1 e1
      (λ p o u2 rest2 are2 e2. applies_hold shapes g p o vs rest2 (λ q ws same. h q ws rest2 (retyped u2 t rest2 e2 are2) same)))

  pub lengths_hold : (j : ℕ) (ls : List ℕ) (ks s t : Kinds) (f : List ℕ → Stack → Act) (stack : Stack) → AreOf s stack → without (replicate j N ++ ks) s ≡ Some t → ((ns : List ℕ) (u : Kinds) (rest : Stack) → length ns ≡ j + length ls → AreOf u rest → without ks u ≡ Some t → P (f ns rest)) → P (lengths_on j ls f stack)
  lengths_hold zero ls ks s t f stack are e h = h ls s stack (omega arith) are e
  lengths_hold (suc j) ls ks s t f stack are e h =
      on_number_holds P (replicate j N ++ ks) s t (λ z s1. length_then z (λ n. lengths_on j (n ∷ ls) f s1)) stack are e
      (λ z u rest are1 e1. length_holds (λ n. lengths_on j (n ∷ ls) f rest) z
      (λ n. lengths_hold j (n ∷ ls) ks u t f rest are1 e1 (λ ns u2 rest2 l are2 e2. h ns u2 rest2 (omega (arith, l)) are2 e2)))

  pub given_holds : (g : Given) (stack : Stack) → ((z : ℤ) → P (Goes 0 (Num z ∷ stack))) → P (silent.given g stack)
  given_holds (Number z) stack h = h z
  given_holds (Trap n) stack h = fails n 0
  given_holds Undefined stack h = fails 16 0

  pub if_holds : (b : Bool) (act : Act) → P act → P (if b then act else Stops lost)
  if_holds true act h = h
  if_holds false act h = fails 16 0

  pub element_holds : (a : Addr) (i : Option ℕ) (k : ℕ) (above : List Cell) (stack : Stack) → ((v : Cell) → is_of A v ≡ true → P (Goes 0 (above ++ v ∷ stack))) → P (element a i k above stack)
  element_holds a None k above stack h = fails 2 0
  element_holds a (Some i) k above stack h = if_holds (nat_lt (a.cell + i * k) (2 ^ 32)) (Goes 0 (above ++ Place a.root (a.cell + i * k) 0 ∷ stack)) (h (Place a.root (a.cell + i * k) 0) refl)

  pub rows_hold : (ns : List ℕ) (z : ℤ) (k : ℕ) (s u : Kinds) (stack : Stack) → AreOf s stack → without (A ∷ []) s ≡ Some u → ((rest : Stack) → AreOf (row (length ns - 1) ++ u) rest → P (Goes 0 rest)) → P (silent.in_rows ns z k stack)
  rows_hold [] z k s u stack are e h = fails 16 0
  rows_hold (n ∷ ns) z k s u stack are e h =
      on_place_holds P [] s u (λ a ty s1. element a (natural n z) (silent.cells_of ns k) (length_cells ns) s1) stack are e
      (λ a ty u1 rest are1 e1. element_holds a (natural n z) (silent.cells_of ns k) (length_cells ns) rest
      (λ v o. h (length_cells ns ++ v ∷ rest) (let m : length ns ≡ length (n ∷ ns) - 1 = omega arith in subst (λ x. AreOf (row x ++ u) (length_cells ns ++ v ∷ rest)) m (row_is ns u v rest o (retyped u1 u rest e1 are1)))))

  pub picked_holds : (p : Option ℤ) (stack : Stack) → ((z : ℤ) → P (Goes 0 (Num z ∷ stack))) → P (gives_picked p stack)
  picked_holds None stack h = fails 16 0
  picked_holds (Some z) stack h = h z
