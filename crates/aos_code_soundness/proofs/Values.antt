-- The code of each place and each expression is a piece that gives one operand more, and that of what a call hands over one that gives
-- what the call takes.
use Rattle.std.proofs.Common.{◌≡◌, ◌≤◌, ◌<◌, ◌⊎◌, inl, inr, zero, suc, true, ℕ, ◌+◌, pos, List, [], ◌∷◌, ◌++◌, Option, Some, length, map, refl, sym, ap, ◌∙◌, arith, append_assoc, length-append}
use Rattle.std.specs.Prelude.{IsTrue, Bool, false, is_some as has_type, replicate, reverse, option_map, nat_lt, ◌&&◌}
use Rattle.std.proofs.lemmas.Bool.{lt-ltb}
use Rattle.std.proofs.lemmas.List.{length-replicate, length-reverse}
use Rattle.aos_base.specs.Operators.{flag}
use Rattle.aos_base.specs.declared.operator.Unary.TheVariants.{Range}
use Rattle.aos_base.specs.declared.operator.Binary.TheVariants.{SetSpan}
use Rattle.aos_base.specs.declared.number.Width.TheVariants.{W16, W32, W64}
use Rattle.aos_code.specs.declared.instr.Kind.{Kind}
use Rattle.aos_code.specs.declared.instr.Kind.TheVariants.{N, R, C, A}
use Rattle.aos_code.specs.declared.instr.Instr.{Instr}
use Rattle.aos_code.specs.declared.instr.Instr.TheVariants as i
use Rattle.aos_code.specs.declared.image.Image.{Image}
use Rattle.aos_code.specs.Numbered.{numbered}
use Rattle.aos_code.specs.Silent.{kinds_of}
use Rattle.aos_layout.specs.Frame.{parameter_kind, parameter_cells}
use Rattle.aos_layout.specs.Layout.{kind_of as cell_kind}
use Rattle.aos_types.specs.Shape.{size}
use Rattle.aos_typed.specs.Open.{open_dimensions}
use Rattle.aos_sound.specs.declared.effect.Next.TheVariants.{On}
use Rattle.aos_sound.specs.declared.stand.Role.{Role}
use Rattle.aos_sound.specs.Sound.{Kinds, row, without, topped, given, object_below, called, sent, applied, is_some, has_slot, is_type_or_none, frame_cells, is_procedure, next_of, after, may_stand}
use Rattle.aos_base.specs.Rooted.{by_number}
use Rattle.aos_typed.specs.Methods.{method_number}
use Rattle.aos_typed.specs.Formals.{pattern_of}
use Rattle.aos_typed.specs.Numbers.{id_of, body_number, procedure_number}
use Rattle.aos_typed.specs.Routines.{routine_of, routines}
use Rattle.aos_typed.specs.Program.{Program, Procedure, Parameter, Place, ModuleVar, Local, Passed, Field, Index, Of, Deref, Typed, Guarded, Rows, Known, Opened, Row, Spread, Longer, Arguments, NoMore, Scalar, Whole, Opening, Callee, Plain, Dispatched, Upper, Through, Expr, Lit, SelfRef, Read, Unary, Binary, And, Or, Element, Ord, Chr, CompareTexts, Len, LenBehind, Function, Same, Is, IsRecord, Guard, ProcedureOf, MethodOf, SameProcedure, Had}
use Rattle.aos_typed.specs.declared.tree.Literal.{Literal}
use Rattle.aos_typed.specs.declared.tree.Literal.TheVariants as literal
use Rattle.aos_typed.specs.declared.tree.TType.{TType}
use Rattle.aos_typed.specs.declared.tree.TType.TheVariants.{Integer, Boolean, Char, Named}
use Rattle.aos_types.specs.Extension.{comes_to}
use Rattle.aos_typed.specs.WellTyped.{taken, is_value, is_procedural, IsLiteral, IsConstantText, IsParameter, IsCalled, IsObjectAt, IsPlaceOf, AreRows, AreArguments, IsOf, IsNamed, AreLengthsOf}
use Rattle.aos_sim.specs.Code.{kind_of, literal_code, variable_cell, own_cell, field_cell, cells_of, dimensions, lengths_code, drops, operands_code, call_instr, place_code, rows_code, arguments_code, receiver_code, called_code, value_code, values_code}
use Rattle.aos_sim.specs.Need.{texts_need, place_need, rows_need, arguments_need, receivers, receiver_need, value_need, values_need}
use Rattle.aos_sim.proofs.Routines.{routine_there, object_there}
use Rattle.aos_code_soundness.specs.Piece.{Round, Piece}
use Rattle.aos_code_soundness.proofs.Pieces.{nothing, one, both, one_then, then_one, choose, left_with, recoded}
use Rattle.aos_code_soundness.proofs.Operands.{included_kind, literal_kind, taken_kind, given_kind, given_of_two_kind, taken_kinds, number_value, reference_value, procedural_value, pattern_procedural, pattern_there, object_reference, any_or_target, fitted_value, reference_kind, target_kind, procedural_kind, pattern_kind, value_kind, fitted_kind}
use Rattle.aos_code_soundness.proofs.CallKinds.{dimensions_are, pushed, rows_taken, opened_row, opened_longer, reversed_row, kinds_taken, handed_first, scalar_kinds, first_kinds, open_kinds, handed_room, passed_size, opened_size}
use Rattle.aos_code_soundness.proofs.Numbers.{HasNumbers}

mutual
  -- a place needs room for one operand at least,
  pub some_place : (x : Place) → 1 ≤ place_need x
  some_place (ModuleVar m c) = omega arith
  some_place (Local k) = omega arith
  some_place (Passed k) = omega arith
  some_place (Field x t k) = some_place x
  some_place (Index x n t e) = omega arith
  some_place (Of r) = let h = some_rows r in omega (arith, h)
  some_place (Deref e t) = some_need e
  some_place (Typed x t) = some_place x
  some_place (Guarded x t) = some_place x

  -- an array for the lengths of its dimensions above that,
  pub some_rows : (r : Rows) → suc (dimensions r) ≤ rows_need r
  some_rows (Known x ns) = omega arith
  some_rows (Opened k j) = omega arith
  some_rows (Row r t e) = let h = some_rows r in omega (arith, h)
  some_rows (Spread e j) = omega arith
  some_rows (Longer r ns) = omega arith

  -- and so does an expression
  pub some_need : (e : Expr) → 1 ≤ value_need e
  some_need (Lit l) = omega arith
  some_need SelfRef = omega arith
  some_need (Read t x) = some_place x
  some_need (Unary op a) = some_need a
  some_need (Binary op a b) = omega arith
  some_need (And a b) = let h = some_need a in omega (arith, h)
  some_need (Or a b) = let h = some_need a in omega (arith, h)
  some_need (Element a) = omega arith
  some_need (Ord a) = some_need a
  some_need (Chr a) = some_need a
  some_need (CompareTexts r a b) = omega arith
  some_need (Len r d) = let h = some_rows r in omega (arith, h)
  some_need (LenBehind r n) = let h = some_rows r in omega (arith, h)
  some_need (Function c more) = omega arith
  some_need (Same a b) = omega arith
  some_need (Is a t) = some_need a
  some_need (IsRecord x t) = some_place x
  some_need (Guard a t) = some_need a
  some_need (ProcedureOf m k) = omega arith
  some_need (MethodOf a t k) = some_need a
  some_need (SameProcedure a b) = omega arith
  some_need (Had v) = omega arith

-- the type of an expression is one of scalars that are built
pub value_typed : (p : Program) (o : Option Procedure) (e : Expr) (t : TType) → IsOf p o e t → is_value p.types t ≡ true
value_typed p o (Lit l) t (inl h) = number_value p t (literal_kind p.types l t h)
value_typed p o (Lit l) t (inr (inl h)) = reference_value p t h.1
value_typed p o (Lit l) t (inr (inr h)) = procedural_value p t h.1
value_typed p o SelfRef t h = fitted_value p t (Named h.0) h.3 (reference_value p (Named h.0) (object_reference p.types (Named h.0) h.2))
value_typed p o (Read u x) t h = fitted_value p t u h.2 h.1
value_typed p o (Unary op a) t h = number_value p t (given_kind p.types op t h.1)
value_typed p o (Binary op a b) t h = number_value p t (given_of_two_kind p.types op t h.1)
value_typed p o (And a b) t h = number_value p t (ap (kind_of p.types) h.2)
value_typed p o (Or a b) t h = number_value p t (ap (kind_of p.types) h.2)
value_typed p o (Element a) t h = number_value p t (ap (kind_of p.types) h.1)
value_typed p o (Ord a) t h = number_value p t (included_kind p.types t (Integer W16) h.1)
value_typed p o (Chr a) t h = number_value p t (ap (kind_of p.types) h.1)
value_typed p o (CompareTexts r a b) t h = number_value p t (ap (kind_of p.types) h.2)
value_typed p o (Len r d) t h = number_value p t (included_kind p.types t (Integer W32) h.5)
value_typed p o (LenBehind r n) t h = number_value p t (included_kind p.types t (Integer W32) h.4)
value_typed p o (Function c more) t h = fitted_value p t h.1 h.5 h.4
value_typed p o (Same a b) t h = number_value p t (ap (kind_of p.types) h.2)
value_typed p o (Is a k) t h = number_value p t (ap (kind_of p.types) h.2)
value_typed p o (IsRecord x k) t h = number_value p t (ap (kind_of p.types) h.4)
value_typed p o (Guard a k) t h = reference_value p t (any_or_target p t (λ b. comes_to p.types (id_of (Named k)) b ≡ true) h.2)
value_typed p o (ProcedureOf m k) t h = procedural_value p t (pattern_procedural p t h.2.0 h.2.1)
value_typed p o (MethodOf e j k) t h = procedural_value p t (pattern_procedural p t h.2.2.0 h.2.2.1)
value_typed p o (SameProcedure a b) t h = number_value p t (ap (kind_of p.types) h.2)
value_typed p o (Had v) t h = absurd h

-- with so many lengths above a place
abbrev opened : ℕ → Kinds → Kinds
opened j s = replicate j N ++ A ∷ s

opened_long : (j : ℕ) (s : Kinds) → length (opened j s) ≡ j + suc (length s)
opened_long j s = length-append (replicate j N) (A ∷ s) ∙ ap (λ n. n + suc (length s)) (length-replicate j N)

module _ (p : Program) (o : Option Procedure) (image : Image) (own : ℕ) (role : Role) (depth : ℕ) (has : HasNumbers p o image own) (performs : is_procedure role ≡ true) where
  -- a piece whose operand is of this kind, which is that one
  pub as_kind : {Asks : Round} {code : List Instr} {at : ℕ} {s : Kinds} {k j : Kind} → k ≡ j → Piece image own role depth Asks code at s (k ∷ s) → Piece image own role depth Asks code at s (j ∷ s)
  as_kind {Asks} {code} {at} {s} e c = left_with (ap (λ x. x ∷ s) e) c

  -- a literal
  literal_piece : {Asks : Round} (l : Literal) (t : TType) → IsLiteral l t → {at : ℕ} {s : Kinds} → length s ≤ depth → Piece image own role depth Asks (literal_code l ∷ []) at s (N ∷ s)
  literal_piece (literal.Int n) t h few = one (i.Num n) refl refl few (λ whole q. refl)
  literal_piece (literal.Bool b) t h few = one (i.Num (flag b)) refl refl few (λ whole q. refl)
  literal_piece (literal.Char c) t h few = one (i.Num (pos c)) refl refl few (λ whole q. refl)
  literal_piece (literal.Set b) t h few = one (i.Num (pos b)) refl refl few (λ whole q. refl)
  literal_piece (literal.Text c) t h few = one (i.Num (pos c.first)) refl refl few (λ whole q. refl)
  literal_piece literal.Nil t h few = absurd h
  literal_piece literal.NoProcedure t h few = absurd h

  -- the place of a string constant
  constant_piece : {Asks : Round} (x : Place) (n : ℕ) → IsConstantText p x n → (at : ℕ) (s : Kinds) → length s + place_need x ≤ depth → Piece image own role depth Asks (place_code p o x at) at s (A ∷ s)
  constant_piece (ModuleVar m c) n h at s room = one (i.Module m (variable_cell p o m c)) refl refl (omega (arith, room)) (λ whole q. has.constants m c n h)
  constant_piece (Local k) n h at s room = absurd h
  constant_piece (Passed k) n h at s room = absurd h
  constant_piece (Field x of c) n h at s room = absurd h
  constant_piece (Index x l of e) n h at s room = absurd h
  constant_piece (Of r) n h at s room = absurd h
  constant_piece (Deref e t) n h at s room = absurd h
  constant_piece (Typed x t) n h at s room = absurd h
  constant_piece (Guarded x t) n h at s room = absurd h

  -- so many numbers more
  numbers_piece : {Asks : Round} (ns : List ℕ) (at : ℕ) (s : Kinds) → length s + length ns ≤ depth → Piece image own role depth Asks (map (λ n. i.Num (pos n)) ns) at s (replicate (length ns) N ++ s)
  numbers_piece [] at s room = nothing
  numbers_piece (n ∷ ns) at s room =
      left_with (pushed N (length ns) s) (one_then (i.Num (pos n)) refl refl (omega (arith, room)) (λ whole q. refl) (numbers_piece ns (at + 1) (N ∷ s) (omega (arith, room))))

  -- a parameter's cells are there
  may_cell : (c : ℕ) → c < frame_cells (numbered image.shapes.items own) → IsTrue (nat_lt c (frame_cells (numbered image.shapes.items own)))
  may_cell c lt = lt-ltb c (frame_cells (numbered image.shapes.items own)) lt

  lengths_piece : {Asks : Round} (c j : ℕ) (at : ℕ) (s : Kinds) → c + j ≤ frame_cells (numbered image.shapes.items own) → length s + j ≤ depth → Piece image own role depth Asks (lengths_code c j) at s (replicate j N ++ s)
  lengths_piece c zero at s le room = nothing
  lengths_piece c (suc j) at s le room =
      left_with (pushed N j s) (one_then (i.Length c) refl refl (omega (arith, room)) (λ whole q. may_cell c (omega (arith, le))) (lengths_piece (suc c) j (at + 1) (N ∷ s) (omega (arith, le)) (omega (arith, room))))

  -- operands are taken
  drops_piece : {Asks : Round} (j : ℕ) (ks : Kinds) (at : ℕ) (s : Kinds) → length ks ≡ j → length ks + length s ≤ depth → Piece image own role depth Asks (drops j) at (ks ++ s) s
  drops_piece zero [] at s e room = nothing
  drops_piece zero (k ∷ ks) at s e room = absurd (omega (arith, e))
  drops_piece (suc j) [] at s e room = absurd (omega (arith, e))
  drops_piece (suc j) (k ∷ ks) at s e room =
      one_then i.Drop refl refl (omega (arith, room, length-append ks s)) (λ whole q. refl) (drops_piece j ks (at + 1) s (omega (arith, e)) (omega (arith, room)))

  -- the place that a parameter's cell holds
  param_piece : {Asks : Round} (k : ℕ) (a : Parameter) → IsParameter p o k a → 1 ≤ size (parameter_cells p.types a) → (at : ℕ) (s : Kinds) → length s ≤ depth → Piece image own role depth Asks (i.Param (own_cell p o k) ∷ []) at s (A ∷ s)
  param_piece k a h some at s room =
      let there = has.parameters k a h in
      one (i.Param (own_cell p o k)) refl refl room (λ whole q. may_cell (own_cell p o k) (omega (arith, there.cells, some)))

  -- what a call of a procedure takes is what is handed over and, of a method, below it the object
  taken_all : (ks os s : Kinds) → without (ks ++ os) (ks ++ (os ++ s)) ≡ Some s
  taken_all ks os s = ap (without (ks ++ os)) (sym (append_assoc ks os s)) ∙ kinds_taken (ks ++ os) s

  -- the kinds of what is handed over, and of what it gives
  abbrev handed_for : Procedure → Kinds
  handed_for q = reverse (kinds_of (map (parameter_kind p.types) q.parameters))

  abbrev given_by : Procedure → Option Kind
  given_by q = option_map (λ t. cell_kind p.types (id_of t)) q.result

  pub called_takes : (n home : ℕ) (q : Procedure) (method : Bool) → by_number n (routines p) ≡ Some (routine_of home q) → has_type q.of ≡ method → (s : Kinds) → called (numbered image.shapes.items n) (handed_for q ++ (object_below method ++ s)) ≡ given (given_by q) (Some s)
  called_takes n home q method there is s =
      let x = has.shapes.shapes n (routine_of home q) there in
      let ks = handed_for q in
      ap (λ f. called f (ks ++ (object_below method ++ s))) x.1
      ∙ (λ j. given ((x.2 j).result) (without (reverse (kinds_of (x.2 j).params) ++ object_below (x.2 j).method) (ks ++ (object_below method ++ s))))
      ∙ ap (λ m. given (given_by q) (without (ks ++ object_below m) (ks ++ (object_below method ++ s)))) is
      ∙ ap (given (given_by q)) (taken_all ks (object_below method) s)

  sent_takes : (n home : ℕ) (q : Procedure) → by_number n (routines p) ≡ Some (routine_of home q) → (s : Kinds) → sent (numbered image.shapes.items n) (handed_for q ++ (R ∷ s)) ≡ given (given_by q) (Some s)
  sent_takes n home q there s =
      let x = has.shapes.shapes n (routine_of home q) there in
      let ks = handed_for q in
      ap (λ f. sent f (ks ++ (R ∷ s))) x.1
      ∙ (λ j. given ((x.2 j).result) (without (reverse (kinds_of (x.2 j).params) ++ R ∷ []) (ks ++ (R ∷ s))))
      ∙ ap (given (given_by q)) (taken_all ks (R ∷ []) s)

  pub number_there : (n home : ℕ) (q : Procedure) → by_number n (routines p) ≡ Some (routine_of home q) → is_some (numbered image.shapes.items n) ≡ true
  number_there n home q there = ap is_some (has.shapes.shapes n (routine_of home q) there).1

  applied_takes : (n home : ℕ) (q : Procedure) → by_number n (routines p) ≡ Some (routine_of home q) → (s : Kinds) → applied (numbered image.shapes.items n) (handed_for q ++ (C ∷ s)) ≡ given (given_by q) (Some s)
  applied_takes n home q there s =
      let x = has.shapes.shapes n (routine_of home q) there in
      let ks = handed_for q in
      ap (λ f. applied f (ks ++ (C ∷ s))) x.1
      ∙ (λ j. given ((x.2 j).result) (without (reverse (kinds_of (x.2 j).params) ++ C ∷ []) (ks ++ (C ∷ s))))
      ∙ ap (given (given_by q)) (taken_all ks (C ∷ []) s)

  -- what stands for the procedures of a procedure type has its body's number
  pattern_number : (t : ℕ) (q : Procedure) → pattern_of p (Named t) ≡ Some q → (home : ℕ) × (by_number (body_number p t) (routines p) ≡ Some (routine_of home q))
  pattern_number t q e =
      let x = pattern_there p t q e in
      (x.0.home, object_there p t x.0 x.1 ∙ ap (λ r. Some (routine_of x.0.home r)) x.2)

  -- what lies below what is handed over
  abbrev below : Callee → Kinds
  below (Plain m k) = []
  below (Dispatched e t k) = R ∷ []
  below (Upper t k) = R ∷ []
  below (Through e t) = C ∷ []

  below_long : (c : Callee) (s : Kinds) → length (below c ++ s) ≡ receivers c + length s
  below_long (Plain m k) s = omega arith
  below_long (Dispatched e t k) s = omega arith
  below_long (Upper t k) s = omega arith
  below_long (Through e t) s = omega arith

  -- what is called takes what is handed over, and gives the kind of what a procedure gives
  pub call_takes : (c : Callee) (q : Procedure) → IsCalled p o c q → (s : Kinds) → after image own (call_instr p c) (handed_for q ++ (below c ++ s)) ≡ given (given_by q) (Some s)
  call_takes (Plain m k) q h s = called_takes (procedure_number p m k) m q false (routine_there p m k q h) (ap has_type (has.plain m k q h)) s
  call_takes (Dispatched e t k) q h s = let f = has.methods.found t k q h.2 in sent_takes (method_number p t k) f.home q f.there s
  call_takes (Upper t k) q h s =
      let f = has.methods.found t k q h.3 in called_takes (method_number p t k) f.home q true f.there (ap has_type f.is) s
  call_takes (Through e t) q h s = let f = pattern_number t q h.1 in applied_takes (body_number p t) f.0 q f.1 s

  call_stands : (c : Callee) (q : Procedure) → IsCalled p o c q → (whole : List Instr) (at : ℕ) → IsTrue (may_stand image own role whole at (call_instr p c))
  call_stands (Plain m k) q h whole at =
      let n = procedure_number p m k in
      ap (λ b. b && is_some (numbered image.shapes.items n)) performs ∙ number_there n m q (routine_there p m k q h)
  call_stands (Dispatched e t k) q h whole at =
      let f = has.methods.found t k q h.2 in
      let n = method_number p t k in
      ap (λ b. b && (is_some (numbered image.shapes.items n) && has_slot image.types.items k)) performs
      ∙ ap (λ b. b && has_slot image.types.items k) (number_there n f.home q f.there)
      ∙ has.slots t k n f.below f.number
  call_stands (Upper t k) q h whole at =
      let f = has.methods.found t k q h.3 in
      let n = method_number p t k in
      ap (λ b. b && is_some (numbered image.shapes.items n)) performs ∙ number_there n f.home q f.there
  call_stands (Through e t) q h whole at =
      let f = pattern_number t q h.1 in
      let n = body_number p t in
      ap (λ b. b && is_some (numbered image.shapes.items n)) performs ∙ number_there n f.0 q f.1

  goes_on : (c : Callee) → next_of (call_instr p c) ≡ On
  goes_on (Plain m k) = refl
  goes_on (Dispatched e t k) = refl
  goes_on (Upper t k) = refl
  goes_on (Through e t) = refl

  -- a type that is there is one that a place may be given
  type_or_none : (t : ℕ) → is_some (numbered image.types.items (t + 1)) ≡ true → IsTrue (is_type_or_none image (t + 1))
  type_or_none t e = let n : suc t ≡ t + 1 = omega arith in ap (is_type_or_none image) (sym n) ∙ ap (λ k. is_some (numbered image.types.items k)) n ∙ e

  -- what something is called on, what is handed over, and a call that takes both
  called_piece : {Asks : Round} (c : Callee) (q : Procedure) → IsCalled p o c q → (more : Arguments) → AreArguments p o more q.parameters → (at : ℕ) (s : Kinds) {t : Kinds} → given (given_by q) (Some s) ≡ Some t → length s + (receivers c + arguments_need more) ≤ depth → (let receiver = receiver_code p o c at in Piece image own role depth Asks receiver at s (below c ++ s) → Piece image own role depth Asks (arguments_code p o more (at + length receiver)) (at + length receiver) (below c ++ s) (handed_for q ++ (below c ++ s)) → Piece image own role depth Asks (called_code p o c more at) at s t)
  called_piece c q is more h at s gives room receiver handed =
      let ks = kinds_of (map (parameter_kind p.types) q.parameters) in
      let few = handed_room p o has.predeclared more q.parameters h in
      both receiver
      (then_one handed (call_instr p c) (call_takes c q is s ∙ gives) (goes_on c)
      (omega (arith, room, few, below_long c s, length-append (reverse ks) (below c ++ s), length-reverse ks)) (call_stands c q is))

  -- a text, an array of one dimension
  text_of : {Asks : Round} (r : Rows) (t : TType) → AreRows p o r 1 t → (at : ℕ) (s : Kinds) → Piece image own role depth Asks (rows_code p o r at) at s (opened (dimensions r) s) → Piece image own role depth Asks (rows_code p o r at) at s (N ∷ A ∷ s)
  text_of r t h at s c = left_with (ap (λ j. opened j s) (dimensions_are p o r 1 t h)) c

  -- two texts, and behind them an instruction that takes both
  texts_of : {Asks : Round} (a b : Rows) → AreRows p o a 1 Char → AreRows p o b 1 Char → (take : Instr) (at : ℕ) (s : Kinds) {v : Kinds} → length s + texts_need (rows_need a) (rows_need b) ≤ depth → after image own take (N ∷ A ∷ N ∷ A ∷ s) ≡ Some v → next_of take ≡ On → ((whole : List Instr) (q : ℕ) → IsTrue (may_stand image own role whole q take)) → Piece image own role depth Asks (rows_code p o a at) at s (opened (dimensions a) s) → (let there = at + length (rows_code p o a at) in Piece image own role depth Asks (rows_code p o b there) there (N ∷ A ∷ s) (opened (dimensions b) (N ∷ A ∷ s))) → Piece image own role depth Asks (operands_code (rows_code p o a at) (rows_code p o b (at + length (rows_code p o a at))) take) at s v
  texts_of a b h g take at s room e goes may first second =
      let k = some_rows b in
      let d = dimensions_are p o b 1 Char g in
      both (text_of a Char h at s first)
      (then_one (text_of b Char g (at + length (rows_code p o a at)) (N ∷ A ∷ s) second) take e goes (omega (arith, room, k, d)) may)

  -- a procedure value, of a procedure type or named
  one_piece : {Asks : Round} (e : Expr) (at : ℕ) (s : Kinds) → ((u : TType) → IsOf p o e u → Piece image own role depth Asks (value_code p o e at) at s (kind_of p.types u ∷ s)) → (IsNamed p o e → Piece image own role depth Asks (value_code p o e at) at s (C ∷ s)) → ((u : TType) × IsOf p o e u × (is_procedural p.types u ≡ true)) ⊎ IsNamed p o e → Piece image own role depth Asks (value_code p o e at) at s (C ∷ s)
  one_piece e at s by_type by_name (inl h) = as_kind (procedural_kind p has.predeclared h.0 h.2) (by_type h.0 h.1)
  one_piece e at s by_type by_name (inr h) = by_name h

  mutual
    -- a place
    pub place_piece : {Asks : Round} (x : Place) (t : TType) → IsPlaceOf p o x t → (at : ℕ) (s : Kinds) → length s + place_need x ≤ depth → Piece image own role depth Asks (place_code p o x at) at s (A ∷ s)
    place_piece (ModuleVar m c) t h at s room = one (i.Module m (variable_cell p o m c)) refl refl (omega (arith, room)) (λ whole q. has.cells m c t h)
    place_piece (Local k) t h at s room =
        one (i.Frame (own_cell p o k)) refl refl (omega (arith, room)) (λ whole q. elim h [ inl l ↦ has.locals k t l | inr a ↦ (has.parameters k a.0 a.1).place ])
    place_piece (Passed k) t h at s room = param_piece k h.0 h.1 (omega (arith, passed_size p.types h.0 h.2.0 h.2.1)) at s (omega (arith, room))
    place_piece (Of r) t h at s room =
        left_with (ap (λ j. opened j s) (dimensions_are p o r 0 t h.0)) (rows_piece r 0 t h.0 at s room)
    place_piece (Deref e u) t h at s room =
        let k = some_need e in
        then_one (as_kind (target_kind p has.predeclared h.0 (id_of u) h.2) (value_piece e h.0 h.1 at s room)) (i.Deref 0) refl refl (omega (arith, room, k)) (λ whole q. refl)
    place_piece (Typed x c) t h at s room =
        let k = some_place x in
        then_one (place_piece x (Named c) h.0 at s room) (i.Offset 0 (c + 1)) refl refl (omega (arith, room, k)) (λ whole q. type_or_none c (has.records c h.1))
    place_piece (Guarded x c) t h at s room =
        let k = some_place x in
        then_one (place_piece x h.0 h.1 at s room) (i.GuardPlace (c + 1)) refl refl (omega (arith, room, k)) (λ whole q. has.records c h.3)
    place_piece (Field x of c) t h at s room =
        let k = some_place x in
        then_one
        (elim h.0 [ inl l ↦ place_piece x of l.0 at s room | inr b ↦ object_piece x of b at s room ])
        (i.Offset (field_cell p o of c) 0) refl refl (omega (arith, room, k)) (λ whole q. refl)
    place_piece (Index x n of e) t h at s room =
        let k = some_need e in
        both (place_piece x h.0 h.1 at s (omega (arith, room)))
        (then_one
        (value_piece e (Integer W64) h.3 (at + length (place_code p o x at)) (A ∷ s) (omega (arith, room)))
        (i.Index n (cells_of p o of)) refl refl (omega (arith, room, k)) (λ whole q. refl))

    -- the place of an object's fields
    object_piece : {Asks : Round} (x : Place) (t : TType) → IsObjectAt p o x t → (at : ℕ) (s : Kinds) → length s + place_need x ≤ depth → Piece image own role depth Asks (place_code p o x at) at s (A ∷ s)
    object_piece (Deref e u) t h at s room =
        let k = some_need e in
        then_one (as_kind (reference_kind p has.predeclared u (object_reference p.types u h.1)) (value_piece e u h.0 at s room)) (i.Deref 0) refl refl (omega (arith, room, k)) (λ whole q. refl)
    object_piece (ModuleVar m c) t h at s room = absurd h
    object_piece (Local k) t h at s room = absurd h
    object_piece (Passed k) t h at s room = absurd h
    object_piece (Field x of c) t h at s room = absurd h
    object_piece (Index x n of e) t h at s room = absurd h
    object_piece (Of r) t h at s room = absurd h
    object_piece (Typed x c) t h at s room = absurd h
    object_piece (Guarded x c) t h at s room = absurd h

    -- an array with the lengths of its dimensions
    pub rows_piece : {Asks : Round} (r : Rows) (n : ℕ) (t : TType) → AreRows p o r n t → (at : ℕ) (s : Kinds) → length s + rows_need r ≤ depth → Piece image own role depth Asks (rows_code p o r at) at s (opened (dimensions r) s)
    rows_piece (Known x ns) n t h at s room =
        both
        (elim h.1 [ inl a ↦ place_piece x a.0 a.1 at s (omega (arith, room)) | inr c ↦ constant_piece x c.0 c.2 at s (omega (arith, room)) ])
        (numbers_piece ns (at + length (place_code p o x at)) (A ∷ s) (omega (arith, room)))
    rows_piece (Opened k j) n t h at s room =
        let a = h.1.0 in
        let there = has.parameters k a h.1.1 in
        let many = opened_size p.types a h.1.2.0 in
        let j_is : j ≡ open_dimensions p.types (id_of a.of) = h.1.2.1 in
        both (param_piece k a h.1.1 (omega (arith, many)) at s (omega (arith, room)))
        (lengths_piece (suc (own_cell p o k)) j (at + 1) (A ∷ s) (omega (arith, there.cells, many, j_is)) (omega (arith, room)))
    rows_piece (Row r of e) n t h at s room =
        let k = some_need e in
        let j = dimensions r in
        let d = dimensions_are p o r (suc n) t h.0 in
        let long = opened_long j s in
        both (rows_piece r (suc n) t h.0 at s (omega (arith, room)))
        (then_one
        (value_piece e (Integer W64) h.1 (at + length (rows_code p o r at)) (opened j s) (omega (arith, room, long)))
        (i.IndexOpen j (cells_of p o of)) (opened_row j s) refl (omega (arith, room, long, k)) (λ whole q. lt-ltb 0 j (omega (arith, d))))
    rows_piece (Spread e j) n t h at s room =
        then_one (as_kind (target_kind p has.predeclared h.1.0 h.1.1 h.1.3) (value_piece e h.1.0 h.1.2 at s (omega (arith, room))))
        (i.OpenRef j) (ap (λ l. Some l) (append_assoc (replicate j N) (A ∷ []) s)) refl (omega (arith, room)) (λ whole q. refl)
    rows_piece (Longer r ns) n t h at s room =
        let j = dimensions r in
        left_with (opened_longer (length ns) j s)
        (both (rows_piece r h.0 h.1 h.3 at s (omega (arith, room)))
        (numbers_piece ns (at + length (rows_code p o r at)) (opened j s) (omega (arith, room, opened_long j s))))

    -- what is handed over for these parameters
    pub arguments_piece : {Asks : Round} (as' : Arguments) (ps : List Parameter) → AreArguments p o as' ps → (at : ℕ) (s : Kinds) → length s + arguments_need as' ≤ depth → Piece image own role depth Asks (arguments_code p o as' at) at s (reverse (kinds_of (map (parameter_kind p.types) ps)) ++ s)
    arguments_piece NoMore ps h at s room = left_with (ap (λ l. reverse (kinds_of (map (parameter_kind p.types) l)) ++ s) (sym h)) nothing
    arguments_piece (Scalar e more) ps h at s room =
        left_with (handed_first p (kind_of p.types h.0.of ∷ []) h.0 h.1 ps s h.2 (scalar_kinds p has.predeclared h.0 h.3.0 h.3.1 h.4))
        (both (value_piece e h.0.of h.5 at s (omega (arith, room)))
        (arguments_piece more h.1 h.6 (at + length (value_code p o e at)) (kind_of p.types h.0.of ∷ s) (omega (arith, room))))
    arguments_piece (Whole x more) ps h at s room =
        left_with (handed_first p (A ∷ []) h.0 h.1 ps s h.2 (first_kinds p o h.0 x h.3))
        (both (elim h.3 [ inl a ↦ place_piece x a.0 a.1 at s (omega (arith, room)) | inr f ↦ constant_piece x f.1 f.5 at s (omega (arith, room)) ])
        (arguments_piece more h.1 h.4 (at + length (place_code p o x at)) (A ∷ s) (omega (arith, room))))
    arguments_piece (Opening r more) ps h at s room =
        let j = dimensions r in
        let d = dimensions_are p o r h.2 h.3 h.6 in
        left_with (handed_first p (A ∷ replicate j N) h.0 h.1 ps s h.4 (open_kinds p h.0 h.2 h.3 h.5 j d))
        (both (left_with (sym (reversed_row j s)) (rows_piece r h.2 h.3 h.6 at s (omega (arith, room))))
        (arguments_piece more h.1 h.8 (at + length (rows_code p o r at)) (reverse (A ∷ replicate j N) ++ s) (omega (arith, room, opened_long j s, ap length (reversed_row j s)))))

    -- what something is called on
    receiver_piece : {Asks : Round} (c : Callee) (q : Procedure) → IsCalled p o c q → (at : ℕ) (s : Kinds) → length s + receiver_need c ≤ depth → Piece image own role depth Asks (receiver_code p o c at) at s (below c ++ s)
    receiver_piece (Plain m k) q h at s room = nothing
    receiver_piece (Dispatched e t k) q h at s room =
        as_kind (reference_kind p has.predeclared (Named t) (object_reference p.types (Named t) h.1)) (value_piece e (Named t) h.0 at s room)
    receiver_piece (Upper t k) q h at s room = one i.SelfRef refl refl (omega (arith, room)) (λ whole n. has.selfs h.0 h.1)
    receiver_piece (Through e t) q h at s room = as_kind (pattern_kind p has.predeclared (Named t) q h.1) (value_piece e (Named t) h.0 at s room)

    -- an expression of a type gives an operand of the type's kind
    pub value_piece : {Asks : Round} (e : Expr) (t : TType) → IsOf p o e t → (at : ℕ) (s : Kinds) → length s + value_need e ≤ depth → Piece image own role depth Asks (value_code p o e at) at s (kind_of p.types t ∷ s)
    value_piece (Lit l) t (inl h) at s room = as_kind (sym (literal_kind p.types l t h)) (literal_piece l t h (omega (arith, room)))
    value_piece (Lit l) t (inr (inl h)) at s room =
        recoded (ap (λ x. literal_code x ∷ []) (sym h.0)) (as_kind (sym (reference_kind p has.predeclared t h.1)) (one i.Nil refl refl (omega (arith, room)) (λ whole q. refl)))
    value_piece (Lit l) t (inr (inr h)) at s room =
        recoded (ap (λ x. literal_code x ∷ []) (sym h.0)) (as_kind (sym (procedural_kind p has.predeclared t h.1)) (one i.NilCall refl refl (omega (arith, room)) (λ whole q. refl)))
    value_piece SelfRef t h at s room =
        as_kind (sym (fitted_kind p has.predeclared t (Named h.0) h.3 ∙ reference_kind p has.predeclared (Named h.0) (object_reference p.types (Named h.0) h.2))) (one i.SelfRef refl refl (omega (arith, room)) (λ whole q. has.selfs h.0 h.1))
    value_piece (Read u x) t h at s room =
        let k = some_place x in
        as_kind (sym (fitted_kind p has.predeclared t u h.2)) (then_one (place_piece x u h.0 at s room) (i.Load (kind_of p.types u)) refl refl (omega (arith, room, k)) (λ whole q. refl))
    value_piece (Unary op a) t h at s room =
        let k = some_need a in
        as_kind (sym (given_kind p.types op t h.1)) (then_one
        (as_kind (taken_kind p.types op) (value_piece a (taken op) h.0 at s room))
        (i.Unary op) refl refl (omega (arith, room, k)) (λ whole q. refl))
    value_piece (Binary op a b) t h at s room =
        let k = some_need b in
        let taken = taken_kinds p.types op (IsOf p o a) (IsOf p o b) h.0 in
        as_kind (sym (given_of_two_kind p.types op t h.1)) (both
        (as_kind taken.4 (value_piece a taken.0 taken.2 at s (omega (arith, room))))
        (then_one
        (as_kind taken.5 (value_piece b taken.1 taken.3 (at + length (value_code p o a at)) (N ∷ s) (omega (arith, room))))
        (i.Binary op) refl refl (omega (arith, room, k)) (λ whole q. refl)))
    value_piece (And a b) t h at s room =
        let here = at + length (value_code p o a at) + 1 in
        let other = here + length (value_code p o b here) + 1 in
        let k = some_need a in
        as_kind (ap (kind_of p.types) (sym h.2)) (choose other (here + length (value_code p o b here) + 2) refl (omega arith) (omega (arith, room, k)) (omega (arith, room, k))
        (value_piece a Boolean h.0 at s (omega (arith, room)))
        (value_piece b Boolean h.1 here s (omega (arith, room)))
        (one (i.Num (pos 0)) refl refl (omega (arith, room)) (λ whole q. refl)))
    value_piece (Or a b) t h at s room =
        let other = at + length (value_code p o a at) + 3 in
        let n : other ≡ at + length (value_code p o a at) + 1 + 1 + 1 = omega arith in
        let k = some_need a in
        as_kind (ap (kind_of p.types) (sym h.2)) (choose other (other + length (value_code p o b other)) n refl (omega (arith, room, k)) (omega (arith, room, k))
        (value_piece a Boolean h.0 at s (omega (arith, room)))
        (one (i.Num (pos 1)) refl refl (omega (arith, room)) (λ whole q. refl))
        (value_piece b Boolean h.1 other s (omega (arith, room))))
    value_piece (Element a) t h at s room =
        as_kind (ap (kind_of p.types) (sym h.1)) (both (value_piece a (Integer W64) h.0 at s (omega (arith, room)))
        (one_then i.Dup refl refl (omega (arith, room)) (λ whole q. refl) (one (i.Binary SetSpan) refl refl (omega (arith, room)) (λ whole q. refl))))
    value_piece (Ord a) t h at s room = as_kind (sym (included_kind p.types t _ h.1)) (value_piece a Char h.0 at s room)
    value_piece (Chr a) t h at s room =
        let k = some_need a in
        as_kind (ap (kind_of p.types) (sym h.1)) (then_one (value_piece a (Integer W64) h.0 at s room) (i.Unary (Range (pos 0) (pos 255))) refl refl (omega (arith, room, k)) (λ whole q. refl))
    value_piece (CompareTexts r a b) t h at s room =
        as_kind (ap (kind_of p.types) (sym h.2)) (texts_of a b h.0 h.1 (i.CmpText r) at s room refl refl (λ whole q. refl)
        (rows_piece a 1 Char h.0 at s (omega (arith, room)))
        (rows_piece b 1 Char h.1 (at + length (rows_code p o a at)) (N ∷ A ∷ s) (omega (arith, room))))
    value_piece (Len r d) t h at s room =
        let j = dimensions r in
        let e = dimensions_are p o r h.0 h.1 h.2 in
        let less : d < h.0 = h.4 in
        as_kind (sym (included_kind p.types t (Integer W32) h.5))
        (then_one (rows_piece r h.0 h.1 h.2 at s room) (i.PickLen d j) (ap (topped N) (rows_taken j s)) refl (omega (arith, room, some_rows r, opened_long j s)) (λ whole q. lt-ltb d j (omega (arith, less, e))))
    value_piece (LenBehind r n) t h at s room =
        let j = dimensions r in
        let some = some_rows r in
        let long : length (row j) ≡ suc j = length-append (replicate j N) (A ∷ []) ∙ ap (λ n. n + 1) (length-replicate j N) ∙ (let e : j + 1 ≡ suc j = omega arith in e) in
        as_kind (sym (included_kind p.types t (Integer W32) h.4))
        (both (left_with (sym (append_assoc (replicate j N) (A ∷ []) s)) (rows_piece r h.0 h.1 h.2 at s room))
        (then_one (drops_piece (suc j) (row j) (at + length (rows_code p o r at)) s long (omega (arith, room, some, long))) (i.Num (pos n)) refl refl (omega (arith, room, some)) (λ whole q. refl)))
    value_piece (Function c more) t h at s room =
        let gives = ap (λ r. given (option_map (λ t. cell_kind p.types (id_of t)) r) (Some s)) h.3 ∙ ap (λ k. given (Some k) (Some s)) (value_kind p has.predeclared h.1 h.4) in
        as_kind (sym (fitted_kind p has.predeclared t h.1 h.5))
        (called_piece c h.0 h.2 more h.6 at s gives (omega (arith, room))
        (receiver_piece c h.0 h.2 at s (omega (arith, room)))
        (arguments_piece more h.0.parameters h.6 (at + length (receiver_code p o c at)) (below c ++ s) (omega (arith, room, below_long c s))))
    value_piece (Same a b) t h at s room =
        let k = some_need b in
        as_kind (ap (kind_of p.types) (sym h.2)) (both
        (as_kind (reference_kind p has.predeclared h.0.0 h.0.2) (value_piece a h.0.0 h.0.1 at s (omega (arith, room))))
        (then_one
        (as_kind (reference_kind p has.predeclared h.1.0 h.1.2) (value_piece b h.1.0 h.1.1 (at + length (value_code p o a at)) (R ∷ s) (omega (arith, room))))
        i.EqRef refl refl (omega (arith, room, k)) (λ whole q. refl)))
    value_piece (Is a c) t h at s room =
        let k = some_need a in
        as_kind (ap (kind_of p.types) (sym h.2)) (then_one
        (as_kind (reference_kind p has.predeclared h.0.0 h.0.2) (value_piece a h.0.0 h.0.1 at s room))
        (i.Is (c + 1)) refl refl (omega (arith, room, k)) (λ whole q. has.types c h.1))
    value_piece (IsRecord x c) t h at s room =
        let k = some_place x in
        as_kind (ap (kind_of p.types) (sym h.4)) (then_one (place_piece x h.0 h.1 at s room) (i.IsPlace (c + 1)) refl refl (omega (arith, room, k)) (λ whole q. has.records c h.3))
    value_piece (Guard a c) t h at s room =
        let k = some_need a in
        let is = any_or_target p t (λ b. comes_to p.types (id_of (Named c)) b ≡ true) h.2 in
        as_kind (sym (reference_kind p has.predeclared t is)) (then_one
        (as_kind (reference_kind p has.predeclared h.0.0 h.0.2) (value_piece a h.0.0 h.0.1 at s room))
        (i.Guard (c + 1)) refl refl (omega (arith, room, k)) (λ whole q. has.types c h.1))
    value_piece (ProcedureOf m k) t h at s room =
        let n = procedure_number p m k in
        as_kind (sym (pattern_kind p has.predeclared t h.2.0 h.2.1))
        (one (i.Proc n) refl refl (omega (arith, room)) (λ whole q. number_there n m h.0 (routine_there p m k h.0 h.1)))
    value_piece (MethodOf a j k) t h at s room =
        let some = some_need a in
        let f = has.methods.found j k h.2.0 h.2.1 in
        as_kind (sym (pattern_kind p has.predeclared t h.2.2.0 h.2.2.1))
        (then_one (as_kind (reference_kind p has.predeclared (Named j) (object_reference p.types (Named j) h.1)) (value_piece a (Named j) h.0 at s room))
        (i.Bind k) refl refl (omega (arith, room, some)) (λ whole q. has.slots j k (method_number p j k) f.below f.number))
    value_piece (SameProcedure a b) t h at s room =
        let k = some_need b in
        as_kind (ap (kind_of p.types) (sym h.2)) (both
        (one_piece a at s (λ u g. value_piece a u g at s (omega (arith, room))) (λ g. named_piece a g at s (omega (arith, room))) h.0)
        (then_one
        (one_piece b (at + length (value_code p o a at)) (C ∷ s) (λ u g. value_piece b u g (at + length (value_code p o a at)) (C ∷ s) (omega (arith, room))) (λ g. named_piece b g (at + length (value_code p o a at)) (C ∷ s) (omega (arith, room))) h.1)
        i.EqCall refl refl (omega (arith, room, k)) (λ whole q. refl)))
    value_piece (Had v) t h at s room = absurd h

    -- a procedure that is named, or none
    named_piece : {Asks : Round} (e : Expr) → IsNamed p o e → (at : ℕ) (s : Kinds) → length s + value_need e ≤ depth → Piece image own role depth Asks (value_code p o e at) at s (C ∷ s)
    named_piece (Lit l) h at s room =
        recoded (ap (λ x. literal_code x ∷ []) (sym h)) (one i.NilCall refl refl (omega (arith, room)) (λ whole q. refl))
    named_piece (ProcedureOf m k) h at s room =
        one (i.Proc (procedure_number p m k)) refl refl (omega (arith, room)) (λ whole q. number_there (procedure_number p m k) m h.0 (routine_there p m k h.0 h.1))
    named_piece (MethodOf a j k) h at s room =
        let some = some_need a in
        let f = has.methods.found j k h.2.0 h.2.1 in
        then_one (as_kind (reference_kind p has.predeclared (Named j) (object_reference p.types (Named j) h.1)) (value_piece a (Named j) h.0 at s room))
        (i.Bind k) refl refl (omega (arith, room, some)) (λ whole q. has.slots j k (method_number p j k) f.below f.number)
    named_piece _ h at s room = absurd h

  -- lengths, one above the other
  pub lengths_of : {Asks : Round} (es : List Expr) → AreLengthsOf p o es → (at : ℕ) (s : Kinds) → length s + values_need es ≤ depth → Piece image own role depth Asks (values_code p o es at) at s (replicate (length es) N ++ s)
  lengths_of [] h at s room = nothing
  lengths_of (e ∷ es) h at s room =
      left_with (pushed N (length es) s) (both
      (value_piece e (Integer W64) h.0 at s (omega (arith, room)))
      (lengths_of es h.1 (at + length (value_code p o e at)) (N ∷ s) (omega (arith, room))))

  -- a text, two texts and a call as statements have them
  pub text_piece : {Asks : Round} (r : Rows) → AreRows p o r 1 Char → (at : ℕ) (s : Kinds) → length s + rows_need r ≤ depth → Piece image own role depth Asks (rows_code p o r at) at s (N ∷ A ∷ s)
  text_piece r h at s room = text_of r Char h at s (rows_piece r 1 Char h at s room)

  pub texts_piece : {Asks : Round} (a b : Rows) → AreRows p o a 1 Char → AreRows p o b 1 Char → (take : Instr) (at : ℕ) (s : Kinds) {v : Kinds} → length s + texts_need (rows_need a) (rows_need b) ≤ depth → after image own take (N ∷ A ∷ N ∷ A ∷ s) ≡ Some v → next_of take ≡ On → ((whole : List Instr) (q : ℕ) → IsTrue (may_stand image own role whole q take)) → Piece image own role depth Asks (operands_code (rows_code p o a at) (rows_code p o b (at + length (rows_code p o a at))) take) at s v
  texts_piece a b h g take at s room e goes may =
      texts_of a b h g take at s room e goes may (rows_piece a 1 Char h at s (omega (arith, room))) (rows_piece b 1 Char g (at + length (rows_code p o a at)) (N ∷ A ∷ s) (omega (arith, room)))

  pub call_piece : {Asks : Round} (c : Callee) (q : Procedure) → IsCalled p o c q → (more : Arguments) → AreArguments p o more q.parameters → (at : ℕ) (s : Kinds) {t : Kinds} → given (given_by q) (Some s) ≡ Some t → length s + receiver_need c ≤ depth → length s + (receivers c + arguments_need more) ≤ depth → Piece image own role depth Asks (called_code p o c more at) at s t
  call_piece c q is more h at s gives low high =
      called_piece c q is more h at s gives high (receiver_piece c q is at s low)
      (arguments_piece more q.parameters h (at + length (receiver_code p o c at)) (below c ++ s) (omega (arith, high, below_long c s)))
