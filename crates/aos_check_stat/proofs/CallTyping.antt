-- Calls that break no rule are well typed statements, where the types of all variables are known.
use Rattle.std.proofs.Common.{◌≡◌, arith, length-append, ◌+◌, List, [], ◌∷◌, ◌++◌, length, ◌-◌, slice_get, ◌==◌, Bool, true, false, ◌&&◌, ◌||◌, codes, map, ℕ, not, Option, Some, None, refl, sym, ap, ◌∙◌, subst, if◌then◌else◌}
use Rattle.aos_base.specs.declared.text.Pos.{Pos}
use Rattle.std.proofs.lemmas.List.{length-map}
use Rattle.aos_base.specs.declared.number.Width.TheVariants.{W64}
use Rattle.aos_tree.specs.declared.name.Name.{Name}
use Rattle.aos_tree.specs.declared.expr.Expr.{Expr as TreeExpr, out-Expr}
use Rattle.aos_tree.specs.declared.expr.Desig.{Desig}
use Rattle.aos_tree.specs.declared.expr.Selector.{Selector, items-the_row-Expr}
use Rattle.aos_tree.specs.declared.expr.Selector.TheVariants as s
use Rattle.aos_typed.specs.declared.tree.TType.TheVariants as type
use Rattle.aos_typed.specs.Methods.{initializer}
use Rattle.aos_typed.specs.Program.{Expr, Call, Open as OutOpen, Char, Int, String, Ln, Stat, Arguments, NoMore, Callee, Plain, Perform, New, Make, Out, Parameter, Procedure}
use Rattle.aos_typed.specs.WellTyped as typed
use Rattle.aos_types.specs.declared.row.TypeId.{TypeId}
use Rattle.aos_types.specs.Table.{row_of, is_object}
use Rattle.aos_symbols.specs.declared.scope.Meaning.{Meaning}
use Rattle.aos_symbols.specs.declared.scope.Meaning.TheVariants as means
use Rattle.aos_symbols.specs.declared.scope.Routine.{Routine}
use Rattle.aos_symbols.specs.declared.scope.Routine.TheVariants as routine
use Rattle.aos_types.specs.declared.signature.Gives.{Gives}
use Rattle.aos_types.specs.declared.signature.Gives.TheVariants as gives
use Rattle.aos_types.specs.declared.signature.Signature.{Signature}
use Rattle.aos_tree.specs.declared.decl.Export.{Export}
use Rattle.aos_symbols.specs.declared.env.Open.{Open}
use Rattle.aos_members.specs.declared.objects.Method.{Method}
use Rattle.aos_symbols.specs.declared.env.Symbol.{Symbol}
use Rattle.aos_symbols.specs.declared.env.Lookup.{Lookup}
use Rattle.aos_symbols.specs.declared.env.Lookup.TheVariants.{Unknown as NoName, NotExported, Found}
use Rattle.aos_symbols.specs.declared.env.Env.{Env}
use Rattle.aos_symbols.specs.Breaches.{breach, breach_unless}
use Rattle.aos_symbols.specs.Judged.{Judged, judged, kept, bind, walk}
use Rattle.aos_symbols.specs.Spelling.{is_word}
use Rattle.aos_members.specs.Members as members
use Rattle.aos_symbols.specs.Env as env
use Rattle.aos_symbols.proofs.Each.{Each}
use Rattle.aos_symbols.proofs.Holds.{Holds, holds_bind, holds_walk, test_is, broken}
use Rattle.aos_known.specs.declared.known.Class.TheVariants.{Computed}
use Rattle.aos_known.specs.Known.{Answer, Entity, object_number, type_as, is_number, is_char}
use Rattle.aos_known.specs.Kinds.{is_pointer_type, is_object_type}
use Rattle.aos_known.specs.Places.{place_of}
use Rattle.aos_known.proofs.Inside.{Inside, IsPlaceOf, IsOf, AreArguments, IsCalled, IsInitialized, IsCall}
use Rattle.aos_operators.proofs.Sound.{sound_number}
use Rattle.aos_arguments.specs.Arguments.{Handing, listed as listed_arguments}
use Rattle.aos_values.specs.Arrays.{text_rows}
use Rattle.aos_bound.specs.declared.methods.Heading.{Heading}
use Rattle.aos_bound.specs.declared.methods.Heading.TheVariants as heading
use Rattle.aos_designators.specs.declared.designators.Head.{Head}
use Rattle.aos_designators.specs.Designators as desig
use Rattle.aos_check_expr.specs.Expressions.{arguments_for, signature_of, expr, argument, designator, desig_alone}
use Rattle.aos_check_expr.specs.Expressions as judge_expr
use Rattle.aos_check_expr.proofs.Entities.{AreParameters, IsResultOf, IsSigned, IsEntity, Part, IsProcedure, MayFind, behind_head, behind_of_module}
use Rattle.aos_check_expr.proofs.Typing.{IsWhole, IsSound, IsTextAt, expr_sound, expr_part, argument_sound, text_argument, arguments_part, Parted, entity_fine, bound_fine, bracketed_fine, parts_sound}
use Rattle.aos_check_expr.proofs.Called.{IsCalling, IsBound}
use Rattle.aos_check_expr.proofs.Filled.{AreCovered, heading_covered, signature_covered}
use Rattle.aos_check_expr.proofs.Initials.{initialized, none_initialized}
use Rattle.aos_check_stat.specs.Called as judge
use Rattle.aos_check_stat.specs.Called.{lengths_wanted, new_breaches, is_no_variable, count_breaches, outs, ended, arguments, behind_arguments, is_selected, is_selected_behind, goes_on}
use Rattle.aos_check_stat.proofs.Places.{MayBe as MayBeOf, IsRead, read_sound, copied_text, object_itself, object_made, pointer_made, IsTarget, target_sound, lengths_counted}
use Rattle.aos_check_stat.proofs.Changed.{change_call_sound, assert_sound, halt_sound}

module _ (p : Inside) (e : Env) (whole : IsWhole p e) where
  abbrev MayBe : Option Stat → Type 0
  MayBe o = MayBeOf p o

  -- The procedures of Out.

  outs_sound : (at : Pos) (j : Judged Call) → Holds (IsCall p) j → Holds MayBe (outs at j)
  outs_sound at j sound = holds_bind (IsCall p) MayBe j (λ c. kept (Some (Out at c))) sound (λ c is h. is)

  int_sound : (at : Pos) (xs : List TreeExpr) → Holds MayBe (judge.int_call e at xs)
  int_sound at [] = λ h. tt
  int_sound at (a ∷ []) = λ h. tt
  int_sound at (a ∷ b ∷ []) =
      let IsInteger = λ (x : Expr). IsOf p x (type.Integer W64) in
      outs_sound at (bind (argument e is_number a) (λ x. bind (argument e is_number b) (λ n. kept (Int x n))))
      (holds_bind IsInteger (IsCall p) (argument e is_number a) (λ x. bind (argument e is_number b) (λ n. kept (Int x n))) (argument_sound p e whole a).0
      (λ x is. holds_bind IsInteger (IsCall p) (argument e is_number b) (λ n. kept (Int x n)) (argument_sound p e whole b).0 (λ n also h. (is, also))))
  int_sound at (a ∷ b ∷ c ∷ xs) = λ h. tt

  char_call_sound : (at : Pos) (xs : List TreeExpr) → Holds MayBe (judge.char_call e at xs)
  char_call_sound at [] = λ h. tt
  char_call_sound at (a ∷ []) =
      outs_sound at (bind (argument e is_char a) (λ x. kept (Char x)))
      (holds_bind (λ (x : Expr). IsOf p x type.Char) (IsCall p) (argument e is_char a) (λ x. kept (Char x)) (argument_sound p e whole a).1 (λ x is h. is))
  char_call_sound at (a ∷ b ∷ xs) = λ h. tt

  string_sound : (at : Pos) (xs : List TreeExpr) → Holds MayBe (judge.string_call e at xs)
  string_sound at [] = λ h. tt
  string_sound at (a ∷ []) =
      let last = λ (v : Answer). kept (String (text_rows e v)) in
      outs_sound at (bind (judge.text_argument e a) last)
      (holds_bind (IsTextAt p e) (IsCall p) (judge.text_argument e a) last (text_argument p e whole a) (λ v is h. is))
  string_sound at (a ∷ b ∷ xs) = λ h. tt

  plain_sound : (c : Call) → IsCall p c → (at : Pos) (xs : List TreeExpr) → Holds MayBe (judge.plain_call c at xs)
  plain_sound c is at [] = λ h. is
  plain_sound c is at (x ∷ xs) = λ h. tt

  choice_sound : (b : Bool) (i j : Judged (Option Stat)) → Holds MayBe i → Holds MayBe j → Holds MayBe (if b then i else j)
  choice_sound true i j x y = x
  choice_sound false i j x y = y

  out_sound : (at : Pos) (n : Name) (xs : List TreeExpr) → Holds MayBe (judge.out_call e at n xs)
  out_sound at n xs =
      choice_sound (is_word e.here.text (codes "Int") n) (judge.int_call e at xs) _ (int_sound at xs)
      (choice_sound (is_word e.here.text (codes "Char") n) (judge.char_call e at xs) _ (char_call_sound at xs)
      (choice_sound (is_word e.here.text (codes "String") n) (judge.string_call e at xs) _ (string_sound at xs)
      (choice_sound (is_word e.here.text (codes "Ln") n) (judge.plain_call Ln at xs) _ (plain_sound Ln tt at xs)
      (choice_sound (is_word e.here.text (codes "Open") n) (judge.plain_call OutOpen at xs) _ (plain_sound OutOpen tt at xs) (λ h. tt)))))

  ended_sound : (first : Pos) (xs : List Selector) (j : Judged (Option Stat)) → Holds MayBe j → Holds MayBe (ended first xs j)
  ended_sound first [] j sound = sound
  ended_sound first (s.Field q n ∷ more) j sound = holds_bind MayBe MayBe j (λ x. judged (breach 42 q) x) sound (λ x is h. is)
  ended_sound first (s.Index' q shape row ∷ more) j sound = holds_bind MayBe MayBe j (λ x. judged (breach 42 q) x) sound (λ x is h. is)
  ended_sound first (s.Follow q ∷ more) j sound = holds_bind MayBe MayBe j (λ x. judged (breach 42 q) x) sound (λ x is h. is)
  ended_sound first (s.Paren' q shape row ∷ more) j sound = holds_bind MayBe MayBe j (λ x. judged (breach 36 first) x) sound (λ x is h. is)

  out_selectors_sound : (at : Pos) (ss : List Selector) → Holds MayBe (judge.out_selectors e at ss)
  out_selectors_sound at [] = λ h. tt
  out_selectors_sound at (s.Field q n ∷ more) = ended_sound at (behind_arguments more) (judge.out_call e at n (arguments more)) (out_sound at n (arguments more))
  out_selectors_sound at (s.Paren' q shape row ∷ more) = λ h. tt
  out_selectors_sound at (s.Index' q shape row ∷ more) = λ h. tt
  out_selectors_sound at (s.Follow q ∷ more) = λ h. tt

  -- Arguments.

  parts_of : (xs : List TreeExpr) → Each (Holds (Part p e)) (map (expr e) xs)
  parts_of [] = tt
  parts_of (x ∷ xs) = (expr_part p e whole x, parts_of xs)

  abbrev IsHanded : Signature → Handing → Type 0
  IsHanded sig g =
      (g.are_kept ≡ true)
      × (IsWhole p e → (as' : List Parameter) → AreParameters e sig.parameters as' → AreArguments p (listed_arguments g.given) as')

  -- NEW.

  behind_lengths : (ns : List Expr) (x : Expr) → typed.AreLengthsOf p.program p.own ns → IsOf p x (type.Integer W64) → typed.AreLengthsOf p.program p.own (ns ++ x ∷ [])
  behind_lengths [] x are is = (is, tt)
  behind_lengths (n ∷ ns) x are is = (are.0, behind_lengths ns x are.1 is)

  length_sound : (at : Pos) (t : TypeId) (ns : List Expr) (x : TreeExpr) → typed.AreLengthsOf p.program p.own ns → Holds (typed.AreLengthsOf p.program p.own) (judge.with_length e at (Some t) ns x)
  length_sound at t ns x are =
      holds_bind (IsSound p) (typed.AreLengthsOf p.program p.own) (expr e x) (λ v. judged (breach_unless (is_number v.known.of) 47 at) (ns ++ v.typed ∷ [])) (expr_sound p e whole x)
      (λ v sound h. behind_lengths ns v.typed are (sound_number p v sound (test_is (is_number v.known.of) 47 at h)))

  many_lengths : (at : Pos) (of : Option TypeId) (xs : List TreeExpr) (ns : List Expr) → length (walk (judge.with_length e at of) ns xs).answer ≡ length ns + length xs
  many_lengths at of [] ns = omega arith
  many_lengths at of (x ∷ xs) ns =
      let v = (expr e x).answer.typed in
      let more = many_lengths at of xs (ns ++ v ∷ []) in
      let one = length-append ns (v ∷ []) in
      omega (arith, more, one)

  abbrev AreLengths : List TreeExpr → List Expr → Type 0
  AreLengths xs ns = typed.AreLengthsOf p.program p.own ns × (length ns ≡ length xs)

  lengths_sound : (at : Pos) (t : TypeId) (xs : List TreeExpr) → Holds (AreLengths xs) (walk (judge.with_length e at (Some t)) [] xs)
  lengths_sound at t xs none = (
    holds_walk (typed.AreLengthsOf p.program p.own) (judge.with_length e at (Some t)) (λ ns x are. length_sound at t ns x are) xs [] tt none,
    many_lengths at (Some t) xs [] ∙ (let same : 0 + length xs ≡ length xs = omega arith in same),
  )

  -- of what a pointer leads to
  led_sound : (at : Pos) (a : Entity) (t : TypeId) → a.known.of ≡ Some t → is_pointer_type e t ≡ true → IsPlaceOf p (place_of a.held) (type_as t) → (xs : List TreeExpr) →
      Holds MayBe (judge.new_lengths e at a xs)
  led_sound at a t known pointer held xs =
      let made = λ (ns : List Expr). kept (Some (Make at (place_of a.held) (judge.made_type e (Some t)) ns)) in
      rw known
      (holds_bind (λ (ns : List Expr). (ns ≡ []) × ((lengths_wanted e t == length xs) ≡ true)) MayBe (judged (count_breaches e at (Some t) (length xs)) [])
      (λ none. bind (walk (judge.with_length e at (Some t)) none xs) made)
      (λ h. (refl, lengths_counted p e whole at t (length xs) (first (is_pointer_type e t) pointer (is_object_type e t)) h))
      (λ none many. subst (λ ns. Holds MayBe (bind (walk (judge.with_length e at (Some t)) ns xs) made)) (sym many.0)
      (holds_bind (AreLengths xs) MayBe (walk (judge.with_length e at (Some t)) [] xs) made (lengths_sound at t xs)
      (λ ns are h. let led = pointer_made p e whole t (place_of a.held) (length xs) pointer held many.1 in (led.0, led.1, led.2, are.0, are.1 ∙ led.3)))))
    where
      first : (b : Bool) → b ≡ true → (c : Bool) → (b || c) ≡ true
      first true is c = refl
      first false is c = absurd (cc)

  -- What an initializer is handed.

  abbrev IsInitializedBy : TypeId → Arguments → Type 0
  IsInitializedBy t more = IsInitialized p (initializer p.program (object_number t)) (object_number t) more

  initialized_by_sound : (at : Pos) (t : TypeId) → is_object (row_of e.types t) ≡ true → (m : Method) → members.initializer e t ≡ Some m → (xs : List TreeExpr) →
      Holds (IsInitializedBy t) (judge.initialized_by e at (env.signature e m.home m.number) xs)
  initialized_by_sound at t object m found xs = by (env.signature e m.home m.number) refl
    where
      by : (o : Option Signature) → env.signature e m.home m.number ≡ o → Holds (IsInitializedBy t) (judge.initialized_by e at o xs)
      by None is = broken (IsInitializedBy t) (record { rule = 99; pos = at }) [] NoMore
      by (Some sig) is =
          holds_bind (IsHanded sig) (IsInitializedBy t) (arguments_for e at sig.parameters (map (expr e) xs) xs) (λ h. kept (listed_arguments h.given))
          (arguments_part p e at sig.parameters (signature_covered e m.home m.number sig is) (map (expr e) xs) (parts_of xs) xs (length-map xs (expr e)))
          (λ g handed h. initialized p e whole t object m found sig is (listed_arguments g.given) (handed.1 whole))

  initialized_sound : (at : Pos) (t : TypeId) → is_object (row_of e.types t) ≡ true → (o : Option Method) → members.initializer e t ≡ o → (xs : List TreeExpr) →
      Holds (IsInitializedBy t) (judge.initialized e at o xs)
  initialized_sound at t object None found xs = λ h. none_initialized p e whole t object found
  initialized_sound at t object (Some m) found xs = initialized_by_sound at t object m found xs

  object_sound : (at : Pos) (a : Entity) (t : TypeId) → a.known.of ≡ Some t → is_object_type e t ≡ true → IsPlaceOf p (place_of a.held) (type_as t) → (xs : List TreeExpr) →
      Holds MayBe (judge.new_object e at a xs)
  object_sound at a t known is held xs =
      let own = object_itself p e whole t is in
      rw known
      (holds_bind (IsInitializedBy t) MayBe (judge.initialized e at (members.initializer e t) xs) (λ more. kept (Some (New at (place_of a.held) (judge.made_type e (Some t)) more)))
      (initialized_sound at t own.0 (members.initializer e t) refl xs)
      (λ more handed h. let made = object_made p e whole t (place_of a.held) is held in
      (made.0, made.1, subst (λ k. IsInitialized p (initializer p.program k) k more) (sym own.1) handed)))

  new_with_sound : (at first : Pos) (a : Entity) → IsRead p e whole a → (xs : List TreeExpr) → Holds MayBe (judge.new_with e at first a xs)
  new_with_sound at first a is xs =
      holds_bind (IsTarget p e whole) MayBe (judged (new_breaches e at first a.known.of a.known.class) a)
      (λ b. if is_no_variable b.known.class then kept None else if judge.makes_object e b.known.of then judge.new_object e at b xs else judge.new_lengths e at b xs)
      (target_sound p e whole at first a is)
      (λ b to. choice_sound (is_no_variable b.known.class) (kept None) _ (λ h. tt) (by b to (is_object_type e to.of) refl))
    where
      object_or : (b c : Bool) → (b || c) ≡ true → c ≡ false → b ≡ true
      object_or true c is other = refl
      object_or false c is other = sym other ∙ is

      by : (b : Entity) (to : IsTarget p e whole b) (c : Bool) → is_object_type e to.of ≡ c →
          Holds MayBe (if judge.makes_object e b.known.of then judge.new_object e at b xs else judge.new_lengths e at b xs)
      by b to true kind = rw (ap (judge.makes_object e) to.known ∙ kind) (object_sound at b to.of to.known kind to.typed xs)
      by b to false kind =
          rw (ap (judge.makes_object e) to.known ∙ kind)
          (led_sound at b to.of to.known (object_or (is_pointer_type e to.of) (is_object_type e to.of) to.kind kind) to.typed xs)

  new_of_sound : (at : Pos) (x : TreeExpr) (o : Option Desig) (xs : List TreeExpr) → Holds MayBe (judge.new_of e at x o xs)
  new_of_sound at x None xs =
      holds_bind (IsSound p) MayBe (expr e x) (λ v. judged (new_breaches e at (out-Expr x).pos v.known.of Computed) None) (expr_sound p e whole x) (λ v sound h. tt)
  new_of_sound at x (Some d) xs =
      let first = (out-Expr x).pos in
      holds_bind (IsRead p e whole) MayBe (designator e d) (λ a. judge.new_with e at first a xs) (read_sound p e whole d) (λ a is. new_with_sound at first a is xs)

  new_sound : (at : Pos) (xs : List TreeExpr) → Holds MayBe (judge.new_call e at xs)
  new_sound at [] = λ h. tt
  new_sound at (x ∷ xs) = new_of_sound at x (desig_alone x) xs

  -- COPY.

  copied_to_sound : (at : Pos) (v : Answer) → IsTextAt p e v → (y : TreeExpr) (o : Option Desig) → Holds MayBe (judge.copied_to e at v y o)
  copied_to_sound at v text y None =
      holds_bind (IsSound p) MayBe (expr e y) (λ _. judge.refused 32 (out-Expr y).pos) (expr_sound p e whole y) (λ _ sound h. tt)
  copied_to_sound at v text y (Some d) =
      let second = (out-Expr y).pos in
      holds_bind (IsRead p e whole) MayBe (designator e d) (λ a. judge.copied e at v second a) (read_sound p e whole d)
      (λ a is h. copied_text p e whole at v second a text is h)

  copy_sound : (at : Pos) (xs : List TreeExpr) → Holds MayBe (judge.copy_call e at xs)
  copy_sound at [] = λ h. tt
  copy_sound at (x ∷ []) = λ h. tt
  copy_sound at (x ∷ y ∷ []) =
      holds_bind (IsTextAt p e) MayBe (judge.text_argument e x) (λ v. judge.copied_to e at v y (desig_alone y)) (text_argument p e whole x)
      (λ v is. copied_to_sound at v is y (desig_alone y))
  copy_sound at (x ∷ y ∷ z ∷ xs) = λ h. tt

  -- Calls.

  routine_sound : (r : Routine) (at : Pos) (xs : List TreeExpr) → Holds MayBe (judge.routine_call e r at xs)
  routine_sound routine.Copy at xs = copy_sound at xs
  routine_sound routine.New at xs = new_sound at xs
  routine_sound routine.Assert at xs = assert_sound p e whole at xs
  routine_sound routine.Dec at xs = change_call_sound p e whole routine.Dec at xs
  routine_sound routine.Excl at xs = change_call_sound p e whole routine.Excl at xs
  routine_sound routine.Halt at xs = halt_sound p e whole at xs
  routine_sound routine.Inc at xs = change_call_sound p e whole routine.Inc at xs
  routine_sound routine.Incl at xs = change_call_sound p e whole routine.Incl at xs

  no_call_sound : (at : Pos) (of : Option TypeId) → Holds MayBe (judge.no_call at of)
  no_call_sound at None = λ h. tt
  no_call_sound at (Some t) = λ h. tt

  -- Procedures that modules declare.

  perform_with_sound : (at : Pos) (c : Callee) (sig : Signature) → AreCovered e sig.parameters → (q : Procedure) × IsCalled p c q × IsSigned e sig q → sig.gives ≡ gives.Nothing → (xs : List TreeExpr) →
      Holds MayBe (judge.perform_with e at c sig xs)
  perform_with_sound at c sig covers q none xs =
      holds_bind (IsHanded sig) MayBe (arguments_for e at sig.parameters (map (expr e) xs) xs) (λ h. kept (Some (Perform at c (listed_arguments h.given))))
      (arguments_part p e at sig.parameters covers (map (expr e) xs) (parts_of xs) xs (length-map xs (expr e)))
      (λ g handed h. (q.0, q.1, subst (λ o. IsResultOf o q.0.result) none q.2.result, handed.1 whole q.0.parameters q.2.parameters))

  perform_signed_sound : (at : Pos) (c : Callee) (sig : Signature) → AreCovered e sig.parameters → (q : Procedure) × IsCalled p c q × IsSigned e sig q → (xs : List TreeExpr) → Holds MayBe (judge.perform_signed e at c sig xs)
  perform_signed_sound at c sig covers q xs = by sig.gives refl
    where
      by : (g : Gives) → sig.gives ≡ g → Holds MayBe (judge.perform_signed e at c sig xs)
      by gives.Nothing same = rw same (perform_with_sound at c sig covers q same xs)
      by (gives.Value of) same = rw same (λ h. tt)

  perform_sound : (at : Pos) (c : Callee) (g : Heading) → IsCalling p e c g → (xs : List TreeExpr) → Holds MayBe (judge.perform e at c g xs)
  perform_sound at c g called xs = by (signature_of e g) refl
    where
      by : (o : Option Signature) → signature_of e g ≡ o → Holds MayBe (judge.perform e at c g xs)
      by (Some sig) is = rw is (perform_signed_sound at c sig (heading_covered e g sig is) (called sig is) xs)
      by None is = rw is (λ h. tt)

  performed_sound : (at : Pos) (x : Symbol) (k : ℕ) → IsCalling p e (Plain x.at.home k) (heading.Declared x.at.home k) → (more : List Selector) → Holds MayBe (judge.performed e at x k more)
  performed_sound at x k called more =
      ended_sound at (behind_arguments more) (judge.perform e at (Plain x.at.home k) (heading.Declared x.at.home k) (arguments more))
      (perform_sound at (Plain x.at.home k) (heading.Declared x.at.home k) called (arguments more))

  -- What a designator is.

  abbrev IsPart : judge_expr.Part → Type 0
  IsPart = Parted p e whole.constants

  entity_sound : (first : Pos) (j : Judged judge_expr.Part) → Holds IsPart j → Holds MayBe (judge.called_entity e first j)
  entity_sound first j is =
      holds_bind (IsEntity p e) MayBe (bind j (judge_expr.entity_of_part e)) (λ a. judge.no_call first a.known.of)
      (holds_bind IsPart (IsEntity p e) j (judge_expr.entity_of_part e) is (entity_fine p e whole.constants)) (λ a x. no_call_sound first a.known.of)

  bound_sound : (first : Pos) (b : judge_expr.Bound) → IsBound p e b → (xs : List TreeExpr) → Holds MayBe (judge.perform_bound e first b xs)
  bound_sound first b is xs = perform_sound first b.callee b.heading (is whole) xs

  alone_sound : (first : Pos) (a : judge_expr.Part) → IsPart a → Holds MayBe (judge.called_as e first a)
  alone_sound first (judge_expr.Waits b) is = bound_sound first b is []
  alone_sound first (judge_expr.Begun h) is = entity_sound first (kept (judge_expr.Begun h)) (λ none. is)
  alone_sound first (judge_expr.Meant a) is = entity_sound first (kept (judge_expr.Meant a)) (λ none. is)

  bracket_sound : (first : Pos) (a : judge_expr.Part) → IsPart a → (at : Pos) (xs : List TreeExpr) → Holds MayBe (judge.bracketed_entity e first a at xs)
  bracket_sound first a is at xs =
      entity_sound first (judge_expr.bracketed e first a at (map (expr e) xs) xs)
      (bracketed_fine p e whole.constants first a is at (map (expr e) xs) (parts_of xs) xs (length-map xs (expr e)))

  with_sound : (first : Pos) (a : judge_expr.Part) → IsPart a → (at : Pos) (xs : List TreeExpr) → Holds MayBe (judge.bracketed_as e first a at xs)
  with_sound first (judge_expr.Waits b) is at xs = bound_sound first b is xs
  with_sound first (judge_expr.Begun h) is at xs =
      holds_bind MayBe MayBe (judge.bracketed_entity e first (judge_expr.Begun h) at xs) (λ s. judged (breach_unless (not (judge.is_value_called h.found)) 36 first) s)
      (bracket_sound first (judge_expr.Begun h) is at xs) (λ s kept_so none. kept_so)
  with_sound first (judge_expr.Meant a) is at xs = bracket_sound first (judge_expr.Meant a) is at xs

  whole_sound : (d : Desig) → Holds MayBe (judge.called_whole e d)
  whole_sound d =
      holds_bind IsPart MayBe (judge.part_of e d d.selectors) (λ a. judge.called_alone e d.name.pos a) (parts_sound p e whole d.name d.selectors)
      (λ a is. alone_sound d.name.pos (judge_expr.bound_part e d.name.pos a) (bound_fine p e whole.constants d.name.pos a is))

  before_sound : (d : Desig) (at : Pos) (xs : List TreeExpr) → Holds MayBe (judge.called_before e d at xs)
  before_sound d at xs =
      holds_bind IsPart MayBe (judge.part_of e d (judge.before_last d.selectors)) (λ a. judge.called_with e d.name.pos a at xs) (parts_sound p e whole d.name (judge.before_last d.selectors))
      (λ a is. with_sound d.name.pos (judge_expr.bound_part e d.name.pos a) (bound_fine p e whole.constants d.name.pos a is) at xs)

  value_sound : (d : Desig) → Holds MayBe (judge.called_value e d)
  value_sound d = by (slice_get d.selectors (length d.selectors - 1))
    where
      by : (o : Option Selector) → Holds MayBe (judge.called_last e d o)
      by (Some (s.Paren' q shape row)) = before_sound d q (items-the_row-Expr _ row)
      by (Some (s.Field q n)) = whole_sound d
      by (Some (s.Index' q shape row)) = whole_sound d
      by (Some (s.Follow q)) = whole_sound d
      by None = whole_sound d

  member_meant_sound : (m : Meaning) (o : Open) (mark : Option Export) → ((k : ℕ) → m ≡ means.Procedure k → IsCalling p e (Plain o.home k) (heading.Declared o.home k)) → (more : List Selector) (d : Desig) →
      Holds MayBe (judge.called_member e (Found (record { at = o; mark = mark; means = m })) more d)
  member_meant_sound (means.Procedure k) o mark called more d = by (goes_on more)
    where
      by : (b : Bool) → Holds MayBe (if b then judge.called_value e d else judge.performed e d.name.pos (record { at = o; mark = mark; means = means.Procedure k }) k more)
      by true = value_sound d
      by false = performed_sound d.name.pos (record { at = o; mark = mark; means = means.Procedure k }) k (called k refl) more
  member_meant_sound m o mark called more d = value_sound d

  called_member_sound : (l : Lookup) → MayFind p e l → ((x : Symbol) → l ≡ Found x → desig.is_of_module x ≡ true) → (more : List Selector) (d : Desig) → Holds MayBe (judge.called_member e l more d)
  called_member_sound NoName may own more d = value_sound d
  called_member_sound NotExported may own more d = value_sound d
  called_member_sound (Found x) may own more d = member_meant_sound x.means x.at x.mark (λ k is. (may whole x refl).1 k is (own x refl)) more d

  in_module_sound : (h : Head) (ss : List Selector) (d : Desig) → Holds MayBe (judge.called_in_module e h ss d)
  in_module_sound h [] d = value_sound d
  in_module_sound h (s.Field q n ∷ more) d = called_member_sound (desig.member_behind e h n).found (behind_head p e h.found n) (behind_of_module p e h.found n) more d
  in_module_sound h (s.Paren' q shape row ∷ more) d = value_sound d
  in_module_sound h (s.Index' q shape row ∷ more) d = value_sound d
  in_module_sound h (s.Follow q ∷ more) d = value_sound d

  called_meaning_sound : (x : Symbol) → IsProcedure p e x → (m : Meaning) → x.means ≡ m → (d : Desig) → Holds MayBe (judge.called_meaning e x m d)
  called_meaning_sound x seen means.Out is d =
      choice_sound (is_selected_behind d.selectors) (judge.called_value e d) _ (value_sound d) (out_selectors_sound d.name.pos d.selectors)
  called_meaning_sound x seen (means.Module m) is d = in_module_sound (desig.plain e d.name) d.selectors d
  called_meaning_sound x seen (means.Routine r) is d =
      let xs = arguments d.selectors in choice_sound (is_selected d.selectors) (judge.called_value e d) _ (value_sound d)
      (ended_sound d.name.pos (behind_arguments d.selectors) (judge.routine_call e r d.name.pos xs) (routine_sound r d.name.pos xs))
  called_meaning_sound x seen means.Proper is d = λ h. tt
  called_meaning_sound x seen (means.Procedure k) is d = by (desig.is_of_module x) refl (goes_on d.selectors)
    where
      by : (b : Bool) → desig.is_of_module x ≡ b → (more : Bool) → Holds MayBe (if b && not more then judge.performed e d.name.pos x k d.selectors else judge.called_value e d)
      by true own false = performed_sound d.name.pos x k (seen k is own) d.selectors
      by true own true = value_sound d
      by false own more = value_sound d
  called_meaning_sound x seen m is d = value_sound d

  pub called_sound : (l : Lookup) → MayFind p e l → (d : Desig) → Holds MayBe (judge.called e l d)
  called_sound NoName may d = λ h. tt
  called_sound NotExported may d = λ h. tt
  called_sound (Found x) may d = called_meaning_sound x (may whole x refl).1 x.means refl d
