-- What an instruction of a sound body leaves of operands that stand on a path.
use Rattle.std.proofs.Common.{◌≡◌, inl, inr, ℕ, zero, suc, ℤ, pos, negsuc, ◌+◌, ◌-◌, ◌^◌, List, [], ◌∷◌, ◌++◌, length, map, replicate, Bool, true, false, Option, Some, None, nat_eq, nat_lt, slice_get, if◌then◌else◌, refl, sym, ap, ◌∙◌, subst, arith, ltb-true}
use Rattle.std.proofs.lemmas.List.{append-nil}
use Rattle.aos_base.specs.declared.root.Root.TheVariants.{Frame as FrameRoot, Module as ModuleRoot}
use Rattle.aos_base.specs.Question.{Reads, Stores, Copies, PutsText, ComparesTexts, Makes, Starts, PutsInt, PutsChar, PutsString}
use Rattle.aos_base.specs.Operators.{unary, binary, natural, flag}
use Rattle.aos_code.specs.declared.instr.Cell.{Cell}
use Rattle.aos_code.specs.declared.instr.Cell.TheVariants.{Num, Ref, Call as CallCell, Place}
use Rattle.aos_code.specs.declared.instr.Kind.{Kind}
use Rattle.aos_code.specs.declared.instr.Kind.TheVariants.{N, R, C, A}
use Rattle.aos_code.specs.declared.instr.Instr.{Instr}
use Rattle.aos_code.specs.declared.instr.Instr.TheVariants as instr
use Rattle.aos_code.specs.declared.image.ProcShape.{ProcShape}
use Rattle.aos_code.specs.declared.image.Image.{Image}
use Rattle.aos_code.specs.Numbered.{numbered}
use Rattle.aos_code.specs.Silent as silent
use Rattle.aos_code.specs.Silent.{Stack, Fails, Decides, Act, Goes, Puts, Takes, Look, AtCell, AtElements, IsType, AsType, AsMethod, Sees, Stops, is_of, on_kind, on_number, on_object, on_place, on_callable, on_text, counted_on, gives, extends, gives_place, lengths_on, in_rows, gives_picked, keeps_in, Here, asserts, lands, jumps, jumps_on_false, act}
use Rattle.aos_sound.specs.Sound.{Kinds, without, row, given, taken, taken_applied, called, sent, applied, returned, is_begin, next_of, Leads, after, Comes, ArePathsSound}
use Rattle.aos_sound.specs.Sound as sound
use Rattle.aos_sound.specs.Fits.{AreOf, IsResult, result_of, told_kinds, StandsOn, StandsGiven, StandsTold, StandsLooked, StandsAfter, StandsBegun}
use Rattle.aos_sound.proofs.FitsOperands.{first_taken, topped_is, all_topped_is, retyped, with_top, are_both, kind_holds, on_number_holds, on_object_holds, on_callable_holds, value_holds, looks_hold, on_place_holds, on_text_holds, lengths_hold, counted_hold, call_holds, send_holds, twice_holds, drop_holds, swap_holds, given_holds, if_holds, element_holds, rows_hold, picked_holds, ends_hold}

module _ (image : Image) (own : ℕ) (code : List Instr) (here : Here) (at : ℕ) where
  abbrev After : Act → Type 0
  After a = StandsAfter image own code at a

  fails : (n c : ℕ) → After (Stops (Fails n c))
  fails n c = tt

  -- operands of these kinds stand at the next place
  abbrev On : Kinds → Type 0
  On t = (rest : Stack) → AreOf t rest → StandsOn image own code (at + 1) rest

  going : (rest : Stack) → StandsOn image own code (at + 1) rest → After (Goes 0 rest)
  going rest st = let z : at + 1 ≡ at + 1 + 0 = omega arith in subst (λ p. StandsOn image own code p rest) z st

  goes : (t : Kinds) → On t → (rest : Stack) → AreOf t rest → After (Goes 0 rest)
  goes t on rest are = going rest (on rest are)

  -- one is given on these
  give : (k : Kind) (v : Cell) (s t : Kinds) (stack : Stack) → is_of k v ≡ true → Some (k ∷ s) ≡ Some t → AreOf s stack → On t → StandsOn image own code (at + 1) (v ∷ stack)
  give k v s t stack o e are on = on (v ∷ stack) (retyped (k ∷ s) t (v ∷ stack) e (o, are))

  -- one is given on what is left
  top : (k : Kind) (u t : Kinds) → k ∷ u ≡ t → On t → (w : Kinds) (rest : Stack) → AreOf w rest → Some w ≡ Some u → (v : Cell) → is_of k v ≡ true → StandsOn image own code (at + 1) (v ∷ rest)
  top k u t e on w rest are f v o = on (v ∷ rest) (with_top k u t v rest e o (retyped w u rest f are))

  -- one is given on what is left, where one is to be given
  given_stands : (r : Option Kind) (below : Option Kinds) (t : Kinds) → given r below ≡ Some t → On t → (u : Kinds) × (below ≡ Some u) × ((rest : Stack) → AreOf u rest → StandsGiven image own code r (at + 1) rest)
  given_stands None below t e on = (t, e, λ rest are. on rest are)
  given_stands (Some k) below t e on = let w = topped_is k below t e in (w.0, w.1, λ rest are v o. on (v ∷ rest) (with_top k w.0 t v rest w.2 o are))

  number_turned : (s t : Kinds) (stack : Stack) (f : ℤ → Stack → Act) → AreOf s stack → sound.topped N (without (N ∷ []) s) ≡ Some t → On t → ((z : ℤ) (rest : Stack) → ((y : ℤ) → After (Goes 0 (Num y ∷ rest))) → After (f z rest)) → After (on_number f stack)
  number_turned s t stack f are e on h =
      let w = topped_is N (without (N ∷ []) s) t e in
      on_number_holds After [] s w.0 f stack are w.1
      (λ z u rest are1 e1. h z rest (λ y. going (Num y ∷ rest) (top N w.0 t w.2 on u rest are1 e1 (Num y) refl)))

  numbers_joined : (s t : Kinds) (stack : Stack) (f : ℤ → ℤ → Stack → Act) → AreOf s stack → sound.topped N (without (N ∷ N ∷ []) s) ≡ Some t → On t → ((y z : ℤ) (rest : Stack) → ((x : ℤ) → After (Goes 0 (Num x ∷ rest))) → After (f y z rest)) → After (silent.on_numbers f stack)
  numbers_joined s t stack f are e on h =
      let w = topped_is N (without (N ∷ N ∷ []) s) t e in
      on_number_holds After (N ∷ []) s w.0 (λ z s1. on_number (λ y s2. f y z s2) s1) stack are w.1
      (λ z u rest are1 e1. on_number_holds After [] u w.0 (λ y s2. f y z s2) rest are1 e1
      (λ y u2 rest2 are2 e2. h y z rest2 (λ x. going (Num x ∷ rest2) (top N w.0 t w.2 on u2 rest2 are2 e2 (Num x) refl))))

  offset_stands : (c ty : ℕ) (s t : Kinds) (stack : Stack) → AreOf s stack → sound.topped A (without (A ∷ []) s) ≡ Some t → On t → After (on_place (λ a u s1. gives_place a.root (a.cell + c) ty [] s1) stack)
  offset_stands c ty s t stack are e on =
      let w = topped_is A (without (A ∷ []) s) t e in
      on_place_holds After [] s w.0 (λ a u s1. gives_place a.root (a.cell + c) ty [] s1) stack are w.1
      (λ a u s1 rest are1 e1.
      let v : Cell = Place a.root (a.cell + c) ty in
      if_holds After fails (nat_lt (a.cell + c) (2 ^ 32)) (Goes 0 ([] ++ v ∷ rest)) (going (v ∷ rest) (top A w.0 t w.2 on s1 rest are1 e1 v refl)))

  index_stands : (n k : ℕ) (s t : Kinds) (stack : Stack) → AreOf s stack → sound.topped A (without (N ∷ A ∷ []) s) ≡ Some t → On t → After (silent.indexes n k stack)
  index_stands n k s t stack are e on =
      let w = topped_is A (without (N ∷ A ∷ []) s) t e in
      on_number_holds After (A ∷ []) s w.0 (λ z s1. on_place (λ a u s2. silent.element a (natural n z) k [] s2) s1) stack are w.1
      (λ z u rest are1 e1. on_place_holds After [] u w.0 (λ a u s2. silent.element a (natural n z) k [] s2) rest are1 e1
      (λ a ty u2 rest2 are2 e2. element_holds After fails a (natural n z) k [] rest2 (λ v o. going (v ∷ rest2) (top A w.0 t w.2 on u2 rest2 are2 e2 v o))))

  rows_stand : (j k : ℕ) (s t : Kinds) (stack : Stack) → AreOf s stack → sound.all_topped (row (j - 1)) (without (N ∷ row j) s) ≡ Some t → On t → After (silent.indexes_open j k stack)
  rows_stand j k s t stack are e on =
      let w = all_topped_is (row (j - 1)) (without (N ∷ row j) s) t e in
      on_number_holds After (row j) s w.0 (λ z s1. lengths_on j [] (λ ns s2. in_rows ns z k s2) s1) stack are w.1
      (λ z u rest are1 e1. lengths_hold After fails j [] (A ∷ []) u w.0 (λ ns s2. in_rows ns z k s2) rest are1 e1
      (λ ns u2 rest2 l are2 e2. rows_hold After fails ns z k u2 w.0 rest2 are2 e2
      (λ rest3 are3.
      let m : length ns - 1 ≡ j - 1 = omega (arith, l) in
      goes t on rest3 (subst (λ x. AreOf x rest3) (ap (λ x. row x ++ w.0) m ∙ w.2) are3))))

  picks_stand : (d j : ℕ) (s t : Kinds) (stack : Stack) → AreOf s stack → sound.topped N (without (row j) s) ≡ Some t → On t → After (silent.picks d j stack)
  picks_stand d j s t stack are e on =
      let w = topped_is N (without (row j) s) t e in
      counted_hold After j [] (A ∷ []) s w.0 (λ zs s1. on_place (λ a ty s2. gives_picked (slice_get zs d) s2) s1) stack are w.1
      (λ zs u rest l are1 e1. on_place_holds After [] u w.0 (λ a ty s2. gives_picked (slice_get zs d) s2) rest are1 e1
      (λ a ty u2 rest2 are2 e2. picked_holds After fails (slice_get zs d) rest2 (λ z. going (Num z ∷ rest2) (top N w.0 t w.2 on u2 rest2 are2 e2 (Num z) refl))))

  -- what an object tells is given on what is left
  told_stands : (ks u t : Kinds) → ks ++ u ≡ t → On t → (rest : Stack) → AreOf u rest → StandsTold image own code ks (at + 1) rest
  told_stands ks u t e on rest are vs of = on (vs ++ rest) (subst (λ x. AreOf x (vs ++ rest)) e (are_both ks u vs rest of are))

  looks_stand : (l : Look) (at_nil : Stack → Act) (s t u : Kinds) (stack : Stack) → AreOf s stack → without (R ∷ []) s ≡ Some u → told_kinds l ++ u ≡ t → ((rest : Stack) → StandsTold image own code (told_kinds l) (at + 1) rest → StandsLooked image own code l (at + 1) rest) → On t → ((rest : Stack) → AreOf u rest → After (at_nil rest)) → After (silent.looks l at_nil stack)
  looks_stand l at_nil s t u stack are e f looked on h = looks_hold After l at_nil s u stack are e h (λ o rest are1. looked rest (told_stands (told_kinds l) u t f on rest are1))

  objects_stand : (s t : Kinds) (stack : Stack) → AreOf s stack → sound.topped N (without (R ∷ R ∷ []) s) ≡ Some t → On t → After (silent.on_objects (λ a b s1. gives (Num (flag (nat_eq a b))) s1) stack)
  objects_stand s t stack are e on =
      let w = topped_is N (without (R ∷ R ∷ []) s) t e in
      on_object_holds After (R ∷ []) s w.0 (λ b s1. on_object (λ a s2. gives (Num (flag (nat_eq a b))) s2) s1) stack are w.1
      (λ b u rest are1 e1. on_object_holds After [] u w.0 (λ a s2. gives (Num (flag (nat_eq a b))) s2) rest are1 e1
      (λ a u2 rest2 are2 e2. let v : Cell = Num (flag (nat_eq a b)) in going (v ∷ rest2) (top N w.0 t w.2 on u2 rest2 are2 e2 v refl)))

  callables_stand : (s t : Kinds) (stack : Stack) → AreOf s stack → sound.topped N (without (C ∷ C ∷ []) s) ≡ Some t → On t → After (silent.on_callables (λ p o q i s1. gives (Num (flag (silent.are_one p o q i))) s1) stack)
  callables_stand s t stack are e on =
      let w = topped_is N (without (C ∷ C ∷ []) s) t e in
      on_callable_holds After (C ∷ []) s w.0 (λ q i s1. on_callable (λ p o s2. gives (Num (flag (silent.are_one p o q i))) s2) s1) stack are w.1
      (λ q i u rest are1 e1. on_callable_holds After [] u w.0 (λ p o s2. gives (Num (flag (silent.are_one p o q i))) s2) rest are1 e1
      (λ p o u2 rest2 are2 e2. let v : Cell = Num (flag (silent.are_one p o q i)) in going (v ∷ rest2) (top N w.0 t w.2 on u2 rest2 are2 e2 v refl)))

  -- a test of a record's place, and a guard
  tests_place_stand : (ty : ℕ) (s t : Kinds) (stack : Stack) → AreOf s stack → sound.topped N (without (A ∷ []) s) ≡ Some t → On t → After (on_place (λ a d s1. gives (Num (flag (extends image.types.items d ty))) s1) stack)
  tests_place_stand ty s t stack are e on =
      let w = topped_is N (without (A ∷ []) s) t e in
      on_place_holds After [] s w.0 (λ a d s1. gives (Num (flag (extends image.types.items d ty))) s1) stack are w.1
      (λ a d u rest are1 e1. let v : Cell = Num (flag (extends image.types.items d ty)) in going (v ∷ rest) (top N w.0 t w.2 on u rest are1 e1 v refl))

  either_stands : (b : Bool) (a c : Act) → After a → After c → After (if b then a else c)
  either_stands true a c h g = h
  either_stands false a c h g = g

  guards_place_stand : (ty : ℕ) (s t : Kinds) (stack : Stack) → AreOf s stack → sound.topped A (without (A ∷ []) s) ≡ Some t → On t → After (on_place (λ a d s1. if extends image.types.items d ty then gives (Place a.root a.cell d) s1 else Stops (Fails 3 0)) stack)
  guards_place_stand ty s t stack are e on =
      let w = topped_is A (without (A ∷ []) s) t e in
      on_place_holds After [] s w.0 (λ a d s1. if extends image.types.items d ty then gives (Place a.root a.cell d) s1 else Stops (Fails 3 0)) stack are w.1
      (λ a d u rest are1 e1.
      let v : Cell = Place a.root a.cell d in
      either_stands (extends image.types.items d ty) (gives v rest) (Stops (Fails 3 0)) (going (v ∷ rest) (top A w.0 t w.2 on u rest are1 e1 v refl)) tt)

  arrays_stand : (ty j : ℕ) (s t : Kinds) (stack : Stack) → AreOf s stack → sound.topped R (without (replicate j N) s) ≡ Some t → On t → After (counted_on j [] (λ zs s1. Sees (Makes ty (map (λ z. Num z) zs)) s1) stack)
  arrays_stand ty j s t stack are e on =
      let w = topped_is R (without (replicate j N) s) t e in
      let f : without (replicate j N ++ []) s ≡ Some w.0 = ap (λ ks. without ks s) (append-nil (replicate j N)) ∙ w.1 in
      counted_hold After j [] [] s w.0 (λ zs s1. Sees (Makes ty (map (λ z. Num z) zs)) s1) stack are f
      (λ zs u rest l are1 e1 v o. top R w.0 t w.2 on u rest are1 e1 v o)

  asserts_stand : (c : ℕ) (z : ℤ) (rest : Stack) → After (Goes 0 rest) → After (asserts c z rest)
  asserts_stand c (pos zero) rest h = tt
  asserts_stand c (pos (suc zero)) rest h = h
  asserts_stand c (pos (suc (suc n))) rest h = tt
  asserts_stand c (negsuc n) rest h = tt

  -- behind a Begin they stand as before it
  pub begin_behind : (line col to : ℕ) (stack : Stack) → slice_get code to ≡ Some (instr.Begin line col) → StandsOn image own code to stack → StandsBegun image own code to stack
  begin_behind line col to stack is st = (ap is_begin is, st, (st.0, sound.Goes st.1 (instr.Begin line col) is st.0 refl (to + 1) refl, st.2))

  lands_stand : (o : Option Instr) (to : ℕ) (stack : Stack) → slice_get code to ≡ o → StandsOn image own code to stack → After (lands o to stack)
  lands_stand (Some (instr.Begin line col)) to stack is st = begin_behind line col to stack is st
  lands_stand o to stack is st = tt

  jumps_stand : (to : ℕ) (stack : Stack) → StandsOn image own code to stack → After (jumps code to at stack)
  jumps_stand to stack st = by (nat_lt at to) refl
    where
      by : (b : Bool) → nat_lt at to ≡ b → After (if b then Goes (to - (at + 1)) stack else lands (slice_get code to) to stack)
      by true e =
          let lt = ltb-true at to e in
          let z : to ≡ at + 1 + (to - (at + 1)) = omega (arith, lt) in
          subst (λ p. StandsOn image own code p stack) z st
      by false e = lands_stand (slice_get code to) to stack refl st

  false_stands : (to : ℕ) (z : ℤ) (stack : Stack) → StandsOn image own code to stack → After (Goes 0 stack) → After (jumps_on_false code to at z stack)
  false_stands to (pos zero) stack st h = jumps_stand to stack st
  false_stands to (pos (suc zero)) stack st h = h
  false_stands to (pos (suc (suc n))) stack st h = tt
  false_stands to (negsuc n) stack st h = tt

  calls_stand : (o : Option ProcShape) (p : ℕ) (s t : Kinds) (stack : Stack) → numbered image.shapes.items p ≡ o → AreOf s stack → called o s ≡ Some t → On t → After (silent.calls o p stack)
  calls_stand None p s t stack is are e on = absurd (cc e)
  calls_stand (Some f) p s t stack is are e on =
      let w = given_stands f.result (without (taken f.method f) s) t e on in
      call_holds After f p s w.0 stack are w.1 tt (λ ws rest are1. subst (λ q. StandsGiven image own code (result_of q) (at + 1) rest) (sym is) (w.2 rest are1))

  sends_stand : (o : Option ProcShape) (k p : ℕ) (s t : Kinds) (stack : Stack) → numbered image.shapes.items p ≡ o → AreOf s stack → sent o s ≡ Some t → On t → After (silent.sends o k p stack)
  sends_stand None k p s t stack is are e on = absurd (cc e)
  sends_stand (Some f) k p s t stack is are e on =
      let w = given_stands f.result (without (taken true f) s) t e on in
      send_holds After f k p s w.0 stack are w.1 tt (λ o ws rest are1. subst (λ q. StandsGiven image own code (result_of q) (at + 1) rest) (sym is) (w.2 rest are1))

  values_stand : (o : Option ProcShape) (s t : Kinds) (stack : Stack) → AreOf s stack → applied o s ≡ Some t → On t → After (silent.calls_value image.shapes.items o stack)
  values_stand None s t stack are e on = absurd (cc e)
  values_stand (Some g) s t stack are e on =
      let w = given_stands g.result (without (taken_applied g) s) t e on in
      value_holds After fails image.shapes.items g s w.0 stack are w.1 (λ q ws rest are1 same. subst (λ r. StandsGiven image own code r (at + 1) rest) (sym same) (w.2 rest are1))

  returns_stand : (o : Option ProcShape) (s t : Kinds) (stack : Stack) → numbered image.shapes.items own ≡ o → AreOf s stack → returned o s ≡ Some t → After (silent.ends o stack)
  returns_stand None s t stack is are e = absurd (cc e)
  returns_stand (Some f) s t stack is are e =
      ends_hold After f f.result s t stack are e
      (λ v h. (refl, subst (λ q. IsResult (result_of q) v) (sym is) h))

  starts_stand : (s t : Kinds) (stack : Stack) → slice_get code at ≡ Some instr.Start → Comes image own code at s → AreOf s stack → without (R ∷ []) s ≡ Some t → On t → After (on_kind R (λ o s1. Sees (Starts o) s1) stack)
  starts_stand [] t stack is c are e on = absurd (cc e)
  starts_stand (x ∷ s) t [] is c are e on = absurd are
  starts_stand (x ∷ s) t (v ∷ vs) is c are e on =
      if_holds After fails (is_of R v) (Sees (Starts v) vs) (is, (x ∷ s, c, are), on vs (retyped s t vs (first_taken R x [] s t e).1 are.1))

  -- the place behind this instruction, where the code goes on there
  onward : (i : Instr) (s t : Kinds) → slice_get code at ≡ Some i → Comes image own code at s → after image own i s ≡ Some t → Leads (next_of i) at (at + 1) → On t
  onward i s t is c e l rest are = (t, sound.Goes c i is t e (at + 1) l, are)

  -- the object on which the frame's procedure is called, where it is called on one
  self_stands : (o : ℕ) (s t : Kinds) (stack : Stack) → AreOf s stack → Some (R ∷ s) ≡ Some t → On t → After (silent.gives_self o stack)
  self_stands zero s t stack are e on = tt
  self_stands (suc o) s t stack are e on = going (Ref (suc o) ∷ stack) (give R (Ref (suc o)) s t stack refl e are on)

  -- each instruction
  stands_after : (i : Instr) (s t : Kinds) (stack : Stack) → slice_get code at ≡ Some i → Comes image own code at s → AreOf s stack → after image own i s ≡ Some t → After (act image.shapes.items image.types.items own here i code at stack)
  stands_after (instr.Num n) s t stack is c are e = going (Num n ∷ stack) (give N (Num n) s t stack refl e are (onward (instr.Num n) s t is c e refl))
  stands_after instr.Nil s t stack is c are e = going (Ref 0 ∷ stack) (give R (Ref 0) s t stack refl e are (onward instr.Nil s t is c e refl))
  stands_after instr.NilCall s t stack is c are e = going (CallCell 0 0 ∷ stack) (give C (CallCell 0 0) s t stack refl e are (onward instr.NilCall s t is c e refl))
  stands_after (instr.Proc p) s t stack is c are e = going (CallCell p 0 ∷ stack) (give C (CallCell p 0) s t stack refl e are (onward (instr.Proc p) s t is c e refl))
  stands_after instr.SelfRef s t stack is c are e = self_stands here.self s t stack are e (onward instr.SelfRef s t is c e refl)
  stands_after instr.Dup s t stack is c are e = twice_holds After s t stack are e (goes t (onward instr.Dup s t is c e refl))
  stands_after instr.Drop s t stack is c are e = drop_holds After s t stack are e (goes t (onward instr.Drop s t is c e refl))
  stands_after instr.Swap s t stack is c are e = swap_holds After s t stack are e (goes t (onward instr.Swap s t is c e refl))
  stands_after (instr.Frame n) s t stack is c are e = going (Place (FrameRoot here.below) n 0 ∷ stack) (give A (Place (FrameRoot here.below) n 0) s t stack refl e are (onward (instr.Frame n) s t is c e refl))
  stands_after (instr.Module m n) s t stack is c are e = going (Place (ModuleRoot m) n 0 ∷ stack) (give A (Place (ModuleRoot m) n 0) s t stack refl e are (onward (instr.Module m n) s t is c e refl))
  stands_after (instr.Param n) s t stack is c are e = λ v o. give A v s t stack o e are (onward (instr.Param n) s t is c e refl)
  stands_after (instr.Length n) s t stack is c are e = λ v o. give N v s t stack o e are (onward (instr.Length n) s t is c e refl)
  stands_after (instr.Deref n) s t stack is c are e =
      let w = topped_is A (without (R ∷ []) s) t e in
      looks_stand (AtCell n) (λ s1. Stops (Fails 1 0)) s t w.0 stack are w.1 w.2 (λ rest st. st) (onward (instr.Deref n) s t is c e refl) (λ rest are1. tt)
  stands_after (instr.OpenRef j) s t stack is c are e =
      let w = all_topped_is (row j) (without (R ∷ []) s) t e in
      looks_stand (AtElements j) (λ s1. Stops (Fails 1 0)) s t w.0 stack are w.1 w.2 (λ rest st. st) (onward (instr.OpenRef j) s t is c e refl) (λ rest are1. tt)
  stands_after (instr.Offset n ty) s t stack is c are e = offset_stands n ty s t stack are e (onward (instr.Offset n ty) s t is c e refl)
  stands_after (instr.Index n k) s t stack is c are e = index_stands n k s t stack are e (onward (instr.Index n k) s t is c e refl)
  stands_after (instr.IndexOpen j k) s t stack is c are e = rows_stand j k s t stack are e (onward (instr.IndexOpen j k) s t is c e refl)
  stands_after (instr.PickLen d j) s t stack is c are e = picks_stand d j s t stack are e (onward (instr.PickLen d j) s t is c e refl)
  stands_after (instr.Unary op) s t stack is c are e =
      number_turned s t stack (λ a s1. silent.given (unary op a) s1) are e (onward (instr.Unary op) s t is c e refl)
      (λ z rest h. given_holds After fails (unary op z) rest h)
  stands_after (instr.Binary op) s t stack is c are e =
      numbers_joined s t stack (λ a b s1. silent.given (binary op a b) s1) are e (onward (instr.Binary op) s t is c e refl)
      (λ y z rest h. given_holds After fails (binary op y z) rest h)
  stands_after instr.EqRef s t stack is c are e = objects_stand s t stack are e (onward instr.EqRef s t is c e refl)
  stands_after instr.EqCall s t stack is c are e = callables_stand s t stack are e (onward instr.EqCall s t is c e refl)
  stands_after (instr.Bind k) s t stack is c are e =
      let w = topped_is C (without (R ∷ []) s) t e in
      looks_stand (AsMethod k) (λ s1. Stops (Fails 1 0)) s t w.0 stack are w.1 w.2 (λ rest st. st) (onward (instr.Bind k) s t is c e refl) (λ rest are1. tt)
  stands_after (instr.Is ty) s t stack is c are e =
      let on = onward (instr.Is ty) s t is c e refl in
      let w = topped_is N (without (R ∷ []) s) t e in
      looks_stand (IsType ty) (λ s1. gives (Num (pos 0)) s1) s t w.0 stack are w.1 w.2 (λ rest st. st) on
      (λ rest are1. going (Num (pos 0) ∷ rest) (top N w.0 t w.2 on w.0 rest are1 refl (Num (pos 0)) refl))
  stands_after (instr.IsPlace ty) s t stack is c are e = tests_place_stand ty s t stack are e (onward (instr.IsPlace ty) s t is c e refl)
  stands_after (instr.Guard ty) s t stack is c are e =
      let w = topped_is R (without (R ∷ []) s) t e in
      looks_stand (AsType ty) (λ s1. Stops (Fails 3 0)) s t w.0 stack are w.1 w.2 (λ rest st. st) (onward (instr.Guard ty) s t is c e refl) (λ rest are1. tt)
  stands_after (instr.GuardPlace ty) s t stack is c are e = guards_place_stand ty s t stack are e (onward (instr.GuardPlace ty) s t is c e refl)
  stands_after (instr.Keep n k) s t stack is c are e =
      let on = onward (instr.Keep n k) s t is c e refl in
      if_holds After fails (nat_lt n (keeps_in (numbered image.shapes.items own))) (on_kind k (λ v s1. Puts n v s1) stack)
      (kind_holds After k [] s t (λ v s1. Puts n v s1) stack are e (λ v u rest o are1 e1. on rest (retyped u t rest e1 are1)))
  stands_after (instr.Kept n k) s t stack is c are e =
      if_holds After fails (nat_lt n (keeps_in (numbered image.shapes.items own))) (Takes n k stack)
      (λ v o. give k v s t stack o e are (onward (instr.Kept n k) s t is c e refl))
  stands_after (instr.Fail n) s t stack is c are e = tt
  stands_after (instr.Assert n) s t stack is c are e =
      let on = onward (instr.Assert n) s t is c e refl in
      on_number_holds After [] s t (λ a s1. asserts n a s1) stack are e
      (λ z u rest are1 e1. asserts_stand n z rest (goes t on rest (retyped u t rest e1 are1)))
  stands_after (instr.Halt n) s t stack is c are e = tt
  stands_after (instr.Jump to) s t stack is c are e = jumps_stand to stack (t, sound.Goes c (instr.Jump to) is t e to refl, retyped s t stack e are)
  stands_after (instr.JumpFalse to) s t stack is c are e =
      let on = onward (instr.JumpFalse to) s t is c e (inr refl) in
      on_number_holds After [] s t (λ a s1. jumps_on_false code to at a s1) stack are e
      (λ z u rest are1 e1.
      let are2 = retyped u t rest e1 are1 in
      false_stands to z rest (t, sound.Goes c (instr.JumpFalse to) is t e to (inl refl), are2) (goes t on rest are2))
  stands_after (instr.Begin line col) s t stack is c are e = begin_behind line col at stack is (s, c, are)
  stands_after (instr.Load k) s t stack is c are e =
      let w = given_stands (Some k) (without (A ∷ []) s) t e (onward (instr.Load k) s t is c e refl) in
      on_place_holds After [] s w.0 (λ a ty s1. Sees (Reads k a) s1) stack are w.1
      (λ a ty u rest are1 e1. w.2 rest (retyped u w.0 rest e1 are1))
  stands_after (instr.Store k) s t stack is c are e =
      let on = onward (instr.Store k) s t is c e refl in
      kind_holds After k (A ∷ []) s t (λ v s1. on_place (λ a ty s2. Sees (Stores a v) s2) s1) stack are e
      (λ v u rest o are1 e1. on_place_holds After [] u t (λ a ty s2. Sees (Stores a v) s2) rest are1 e1
      (λ a ty u2 rest2 are2 e2. on rest2 (retyped u2 t rest2 e2 are2)))
  stands_after (instr.Copy n) s t stack is c are e =
      let on = onward (instr.Copy n) s t is c e refl in
      on_place_holds After (A ∷ []) s t (λ from ty s1. on_place (λ to u s2. Sees (Copies n from to) s2) s1) stack are e
      (λ from ty u rest are1 e1. on_place_holds After [] u t (λ to u s2. Sees (Copies n from to) s2) rest are1 e1
      (λ to ty2 u2 rest2 are2 e2. on rest2 (retyped u2 t rest2 e2 are2)))
  stands_after (instr.PutText strict) s t stack is c are e =
      let on = onward (instr.PutText strict) s t is c e refl in
      on_text_holds After (N ∷ A ∷ []) s t (λ to room s1. on_text (λ from n s2. Sees (PutsText strict from n to room) s2) s1) stack are e
      (λ to room u rest are1 e1. on_text_holds After [] u t (λ from n s2. Sees (PutsText strict from n to room) s2) rest are1 e1
      (λ from n u2 rest2 are2 e2. on rest2 (retyped u2 t rest2 e2 are2)))
  stands_after (instr.CmpText r) s t stack is c are e =
      let w = given_stands (Some N) (without (N ∷ A ∷ N ∷ A ∷ []) s) t e (onward (instr.CmpText r) s t is c e refl) in
      on_text_holds After (N ∷ A ∷ []) s w.0 (λ b m s1. on_text (λ a n s2. Sees (ComparesTexts r a n b m) s2) s1) stack are w.1
      (λ b m u rest are1 e1. on_text_holds After [] u w.0 (λ a n s2. Sees (ComparesTexts r a n b m) s2) rest are1 e1
      (λ a n u2 rest2 are2 e2. w.2 rest2 (retyped u2 w.0 rest2 e2 are2)))
  stands_after (instr.Call p) s t stack is c are e = calls_stand (numbered image.shapes.items p) p s t stack refl are e (onward (instr.Call p) s t is c e refl)
  stands_after (instr.Virtual k p) s t stack is c are e = sends_stand (numbered image.shapes.items p) k p s t stack refl are e (onward (instr.Virtual k p) s t is c e refl)
  stands_after (instr.CallValue p) s t stack is c are e = values_stand (numbered image.shapes.items p) s t stack are e (onward (instr.CallValue p) s t is c e refl)
  stands_after (instr.NewObject ty) s t stack is c are e = λ v o. give R v s t stack o e are (onward (instr.NewObject ty) s t is c e refl)
  stands_after (instr.NewArray ty j) s t stack is c are e = arrays_stand ty j s t stack are e (onward (instr.NewArray ty j) s t is c e refl)
  stands_after instr.Start s t stack is c are e = starts_stand s t stack is c are e (onward instr.Start s t is c e refl)
  stands_after instr.Enter s t stack is c are e = (is, (s, c, are), onward instr.Enter s t is c e refl stack (retyped s t stack e are))
  stands_after instr.Leave s t stack is c are e = (is, (s, c, are), onward instr.Leave s t is c e refl stack (retyped s t stack e are))
  stands_after (instr.Await n) s t stack is c are e = (is, (s, c, are), onward (instr.Await n) s t is c e refl stack (retyped s t stack e are))
  stands_after instr.Verdict s t stack is c are e = on_number_holds After [] s t (λ a s1. Stops (Decides a)) stack are e (λ z u rest are1 e1. tt)
  stands_after instr.Return s t stack is c are e = returns_stand (numbered image.shapes.items own) s t stack refl are e
  stands_after instr.OutChar s t stack is c are e =
      let on = onward instr.OutChar s t is c e refl in
      kind_holds After N [] s t (λ v s1. Sees (PutsChar v) s1) stack are e (λ v u rest o are1 e1. on rest (retyped u t rest e1 are1))
  stands_after instr.OutInt s t stack is c are e =
      let on = onward instr.OutInt s t is c e refl in
      kind_holds After N (N ∷ []) s t (λ n s1. on_kind N (λ v s2. Sees (PutsInt v n) s2) s1) stack are e
      (λ n u rest o are1 e1. kind_holds After N [] u t (λ v s2. Sees (PutsInt v n) s2) rest are1 e1
      (λ v u2 rest2 o2 are2 e2. on rest2 (retyped u2 t rest2 e2 are2)))
  stands_after instr.OutString s t stack is c are e =
      let on = onward instr.OutString s t is c e refl in
      on_text_holds After [] s t (λ a n s1. Sees (PutsString a n) s1) stack are e (λ a n u rest are1 e1. on rest (retyped u t rest e1 are1))
  stands_after instr.OutLn s t stack is c are e = onward instr.OutLn s t is c e refl stack (retyped s t stack e are)
  stands_after instr.OutOpen s t stack is c are e = onward instr.OutOpen s t is c e refl stack (retyped s t stack e are)

  pub step_stands : (depth : ℕ) → ArePathsSound image own code depth → (i : Instr) (stack : Stack) → slice_get code at ≡ Some i → StandsOn image own code at stack → StandsAfter image own code at (act image.shapes.items image.types.items own here i code at stack)
  step_stands depth paths i stack is st =
      let f = paths.find at st.0 st.1 in
      let z : Some f.instr ≡ Some i = sym f.stands ∙ is in
      let y : f.instr ≡ i = cc in
      stands_after i st.0 f.left stack is st.1 st.2 (subst (λ x. after image own x st.0 ≡ Some f.left) y f.finds)
