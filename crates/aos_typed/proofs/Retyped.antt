-- Where the AWAITs of a program are numbered anew, statements are as well typed as before: no typing looks at a body of another one.
use Rattle.std.proofs.Common.{◌≡◌, refl, sym, ap, subst, ◌∙◌, ℕ, suc, ◌+◌, ◌<◌, ◌⊎◌, inl, inr, List, [], ◌∷◌, ◌++◌, length, Option, Some, None, option_map}
use Rattle.std.proofs.lemmas.Option.{none-some}
use Rattle.aos_base.specs.declared.operator.Binary.{Binary as BinaryOperator}
use Rattle.aos_base.specs.declared.operator.Binary.TheVariants.{Add, Sub, Mul, Div, Mod, Ash, Cmp, Union, Minus, Meet, Xor, SetSpan, In}
use Rattle.aos_base.specs.declared.number.Width.TheVariants.{W64}
use Rattle.aos_typed.specs.declared.tree.TType.{TType}
use Rattle.aos_typed.specs.declared.tree.TType.TheVariants.{Integer, Named, Char as TChar}
use Rattle.aos_typed.specs.Meaning.{changed_type}
use Rattle.aos_typed.specs.Routines.{self_type, result_of}
use Rattle.aos_typed.specs.Program.{Place, ModuleVar, Local, Passed, Field, Index, Of, Deref, Typed, Guarded, Rows, Known, Opened, Row, Spread, Longer, Arguments, NoMore, Scalar, Whole, Opening, Callee, Plain, Dispatched, Upper, Through, Expr, Lit, SelfRef, Read, Unary, Binary, And, Or, Element, Ord, Chr, CompareTexts, Len, LenBehind, Function, Same, Is, IsRecord, Guard, ProcedureOf, MethodOf, SameProcedure, Had, Call, Open, Char, Int, String, Ln, Stat, Assign, Copy, PutText, If, Case, While, Repeat, Loop, Exit, For, Block, Await, Assert, Halt, Change, Perform, Return, New, Make, With, WithRecord, Out, Stats, Nothing, Then, Arms, Otherwise, Arm, Cases, NoElse, Else, OfLabels, Body, Parameter, Procedure, Program}
use Rattle.aos_typed.specs.Conditions.{awaited, awaited_in, renumbered, stats_renumbered, arms_renumbered, cases_renumbered}
use Rattle.aos_typed.specs.Methods.{initializer}
use Rattle.aos_typed.specs.WellTyped.{Fits, IsProcedural, amount_type, labels_of, AreApart, Takes, IsParameter, IsLocal, IsPlaceOf, IsObjectAt, AreRows, AreArguments, IsCalled, IsOf, IsNamed, AreObjects, AreLengthsOf, IsCall, IsInitialized, IsReturn, IsStatement, AreStatements, AreArms, AreCases, NamesType, IsGiven}
use Rattle.aos_typed.proofs.Headings.{program_renumbered, as_many_objects, variable_stays, procedure_stays, constant_stays, variables_stay, pattern_stays, method_stays, initializer_stays}

-- an operator takes operands of which more is said
takes_more : (op : BinaryOperator) (A B C D : TType → Type 0) → ((t : TType) → A t → C t) → ((t : TType) → B t → D t) → Takes op A B → Takes op C D
takes_more (Add w) A B C D f g h = (f _ h.0, g _ h.1)
takes_more (Sub w) A B C D f g h = (f _ h.0, g _ h.1)
takes_more (Mul w) A B C D f g h = (f _ h.0, g _ h.1)
takes_more (Div w) A B C D f g h = (f _ h.0, g _ h.1)
takes_more (Mod w) A B C D f g h = (f _ h.0, g _ h.1)
takes_more (Ash w) A B C D f g h = (f _ h.0, g _ h.1)
takes_more (Cmp r) A B C D f g h = (h.0, h.1, f h.0 h.2, g h.0 h.3)
takes_more Union A B C D f g h = (f _ h.0, g _ h.1)
takes_more Minus A B C D f g h = (f _ h.0, g _ h.1)
takes_more Meet A B C D f g h = (f _ h.0, g _ h.1)
takes_more Xor A B C D f g h = (f _ h.0, g _ h.1)
takes_more SetSpan A B C D f g h = (f _ h.0, g _ h.1)
takes_more In A B C D f g h = (f _ h.0, g _ h.1)

either : {A B C D : Type 0} → (A → C) → (B → D) → A ⊎ B → C ⊎ D
either f g (inl a) = inl (f a)
either f g (inr b) = inr (g b)

labels_same : (cases : Cases) (m : ℕ) → labels_of (cases_renumbered m cases) ≡ labels_of cases
labels_same NoElse m = refl
labels_same (Else ss) m = refl
labels_same (OfLabels rs ss cases) m = ap (λ l. rs ++ l) (labels_same cases (m + length (awaited_in ss)))

module _ (p : Program) (n k i j : ℕ) where
  abbrev q : Program
  q = program_renumbered p n k i j

  fits_stay : (t u : TType) → Fits p t u → Fits q t u
  fits_stay t u (inl h) = inl h
  fits_stay t u (inr (inl h)) = inr (inl h)
  fits_stay t u (inr (inr h)) =
      let a = pattern_stays p n k i j t h.0 h.2 in
      let b = pattern_stays p n k i j u h.1 h.3 in
      inr (inr (record h.0 { body = a.0 }, record h.1 { body = b.0 }, a.1, b.1, h.4))

  procedural_stays : (t : TType) (x : Procedure) (b : Body) → IsProcedural p t x → IsProcedural q t (record x { body = b })
  procedural_stays t x b h = let a = pattern_stays p n k i j t h.0 h.1 in (record h.0 { body = a.0 }, a.1, h.2)

  fewer : (t : ℕ) → t < length p.objects → t < length q.objects
  fewer t h = subst (λ m. t < m) (sym (as_many_objects i j p.objects)) h

  -- in the body of a procedure, which may be another one now, or in none
  module _ (own : Option Procedure) (new : Body) where
    abbrev so : Option Procedure
    so = option_map (λ (x : Procedure). record x { body = new }) own

    parameter_stays : (l : ℕ) (a : Parameter) → IsParameter p own l a → IsParameter q so l a
    parameter_stays l a h = by own h
      where
        by : (o : Option Procedure) → IsParameter p o l a → IsParameter q (option_map (λ (x : Procedure). record x { body = new }) o) l a
        by None h = absurd (none-some a h)
        by (Some x) h = h

    local_stays : (l : ℕ) (t : TType) → IsLocal p own l t → IsLocal q so l t
    local_stays l t h = (record h.0 { body = new }, h.1, ap (option_map (λ (x : Procedure). record x { body = new })) h.2, h.3, h.4)

    self_stays : (o : Option Procedure) → self_type (option_map (λ (x : Procedure). record x { body = new }) o) ≡ self_type o
    self_stays None = refl
    self_stays (Some x) = refl

    result_stays : (o : Option Procedure) → result_of (option_map (λ (x : Procedure). record x { body = new }) o) ≡ result_of o
    result_stays None = refl
    result_stays (Some x) = refl

    names_stay : (x : Place) (t : TType) → NamesType p own x t → NamesType q so x t
    names_stay (ModuleVar m l) t h = h
    names_stay (Local l) t h = h
    names_stay (Passed l) t h = h
    names_stay (Field x of l) t h = h
    names_stay (Index x m of e) t h = h
    names_stay (Of r) t h = h
    names_stay (Deref e u) t h = h
    names_stay (Typed x l) t h = h
    names_stay (Guarded x l) t h = h

    given_stays : (a : Parameter) (x : Place) (u : TType) → IsGiven p own a x u → IsGiven q so a x u
    given_stays a x u (inl h) = inl h
    given_stays a x u (inr (inl h)) = inr (inl (h.0, h.1, names_stay x u h.2, h.3))
    given_stays a x u (inr (inr h)) = inr (inr h)

    mutual
      place_stays : (x : Place) (t : TType) → IsPlaceOf p own x t → IsPlaceOf q so x t
      place_stays (ModuleVar m l) t h = variable_stays p n k i j m l t h
      place_stays (Local l) t (inl h) = inl (local_stays l t h)
      place_stays (Local l) t (inr h) = inr (h.0, parameter_stays l h.0 h.1, h.2)
      place_stays (Passed l) t h = (h.0, parameter_stays l h.0 h.1, h.2)
      place_stays (Field x of l) t h = (either (λ a. (place_stays x of a.0, a.1)) (object_stays x of) h.0, h.1)
      place_stays (Index x m of e) t h = (h.0, place_stays x h.0 h.1, h.2, value_stays e (Integer W64) h.3, h.4)
      place_stays (Of r) t h = (rows_stay r 0 t h.0, variables_stay p n k i j r h.1)
      place_stays (Deref e u) t h = (h.0, value_stays e h.0 h.1, h.2, h.3, h.4)
      place_stays (Typed x l) t h = (place_stays x (Named l) h.0, h.1, h.2)
      place_stays (Guarded x l) t h = (h.0, place_stays x h.0 h.1, names_stay x h.0 h.2, h.3, h.4)

      object_stays : (x : Place) (t : TType) → IsObjectAt p own x t → IsObjectAt q so x t
      object_stays (Deref e u) t h = (value_stays e u h.0, h.1, h.2)
      object_stays (ModuleVar m l) t h = h
      object_stays (Local l) t h = h
      object_stays (Passed l) t h = h
      object_stays (Field x of l) t h = h
      object_stays (Index x m of e) t h = h
      object_stays (Of r) t h = h
      object_stays (Typed x l) t h = h
      object_stays (Guarded x l) t h = h

      rows_stay : (r : Rows) (m : ℕ) (t : TType) → AreRows p own r m t → AreRows q so r m t
      rows_stay (Known x ns) m t h = (h.0, either (λ a. (a.0, place_stays x a.0 a.1, a.2)) (λ a. (a.0, a.1, constant_stays p n k i j x a.0 a.2, a.3)) h.1)
      rows_stay (Opened l d) m t h = let a = h.1 in (h.0, (a.0, parameter_stays l a.0 a.1, a.2))
      rows_stay (Spread e d) m t h = let a = h.1 in (h.0, (a.0, a.1, value_stays e a.0 a.2, a.3, a.4, a.5, a.6))
      rows_stay (Row r of e) m t h = (rows_stay r (suc m) t h.0, value_stays e (Integer W64) h.1, h.2)
      rows_stay (Longer r ns) m t h = (h.0, h.1, h.2, rows_stay r h.0 h.1 h.3, h.4)

      arguments_stay : (x : Arguments) (as' : List Parameter) → AreArguments p own x as' → AreArguments q so x as'
      arguments_stay NoMore as' h = h
      arguments_stay (Scalar e more) as' h = (h.0, h.1, h.2, h.3, h.4, value_stays e h.0.of h.5, arguments_stay more h.1 h.6)
      arguments_stay (Whole x more) as' h =
          let whole = either (λ a. (a.0, place_stays x a.0 a.1, given_stays h.0 x a.0 a.2)) (λ a. (a.0, a.1, a.2, a.3, a.4, constant_stays p n k i j x a.1 a.5)) h.3 in
          (h.0, h.1, h.2, whole, arguments_stay more h.1 h.4)
      arguments_stay (Opening r more) as' h =
          (h.0, h.1, h.2, h.3, h.4, h.5, rows_stay r h.2 h.3 h.6, h.7, arguments_stay more h.1 h.8, λ by_reference. variables_stay p n k i j r (h.9 by_reference))

      called_stays : (c : Callee) (x : Procedure) → IsCalled p own c x → (b : Body) × IsCalled q so c (record x { body = b })
      called_stays (Plain m l) x h = procedure_stays p n k i j m l x h
      called_stays (Dispatched e t l) x h = let one = method_stays p n k i j t l x h.2 in (one.0, (value_stays e (Named t) h.0, h.1, one.1))
      called_stays (Upper t l) x h = let one = method_stays p n k i j t l x h.3 in (one.0, (h.0, self_stays own ∙ h.1, h.2, one.1))
      called_stays (Through e t) x h = let one = pattern_stays p n k i j (Named t) x h.1 in (one.0, (value_stays e (Named t) h.0, one.1))

      value_stays : (e : Expr) (t : TType) → IsOf p own e t → IsOf q so e t
      value_stays (Lit l) t h = h
      value_stays (Read u x) t h = (place_stays x u h.0, h.1, fits_stay t u h.2)
      value_stays (Unary op a) t h = (value_stays a _ h.0, h.1)
      value_stays (Binary op a b) t h = (takes_more op (IsOf p own a) (IsOf p own b) (IsOf q so a) (IsOf q so b) (value_stays a) (value_stays b) h.0, h.1)
      value_stays (And a b) t h = (value_stays a _ h.0, value_stays b _ h.1, h.2)
      value_stays (Or a b) t h = (value_stays a _ h.0, value_stays b _ h.1, h.2)
      value_stays (Element a) t h = (value_stays a _ h.0, h.1)
      value_stays (Ord a) t h = (value_stays a _ h.0, h.1)
      value_stays (Chr a) t h = (value_stays a _ h.0, h.1)
      value_stays (CompareTexts r x y) t h = (rows_stay x 1 TChar h.0, rows_stay y 1 TChar h.1, h.2)
      value_stays (Len r d) t h = (h.0, h.1, rows_stay r h.0 h.1 h.2, h.3, h.4, h.5)
      value_stays (LenBehind r m) t h = (h.0, h.1, rows_stay r h.0 h.1 h.2, h.3, h.4)
      value_stays SelfRef t h = (h.0, self_stays own ∙ h.1, h.2, fits_stay t (Named h.0) h.3)
      value_stays (Function c more) t h =
          let one = called_stays c h.0 h.2 in
          (record h.0 { body = one.0 }, h.1, one.1, h.3, h.4, fits_stay t h.1 h.5, arguments_stay more h.0.parameters h.6)
      value_stays (Same a b) t h = ((h.0.0, value_stays a h.0.0 h.0.1, h.0.2), (h.1.0, value_stays b h.1.0 h.1.1, h.1.2), h.2)
      value_stays (Is a l) t h = ((h.0.0, value_stays a h.0.0 h.0.1, h.0.2), fewer l h.1, h.2)
      value_stays (IsRecord x l) t h = (h.0, place_stays x h.0 h.1, names_stay x h.0 h.2, h.3, h.4)
      value_stays (Guard a l) t h = ((h.0.0, value_stays a h.0.0 h.0.1, h.0.2), fewer l h.1, h.2)
      value_stays (ProcedureOf m l) t h =
          let one = procedure_stays p n k i j m l h.0 h.1 in (record h.0 { body = one.0 }, one.1, procedural_stays t h.0 one.0 h.2)
      value_stays (MethodOf e d l) t h =
          let one = method_stays p n k i j d l h.2.0 h.2.1 in
          (value_stays e (Named d) h.0, h.1, (record h.2.0 { body = one.0 }, one.1, procedural_stays t h.2.0 one.0 h.2.2))
      value_stays (SameProcedure a b) t h =
          (either (λ x. (x.0, value_stays a x.0 x.1, x.2)) (named_stays a) h.0, either (λ x. (x.0, value_stays b x.0 x.1, x.2)) (named_stays b) h.1, h.2)
      value_stays (Had v) t h = absurd h

      named_stays : (e : Expr) → IsNamed p own e → IsNamed q so e
      named_stays (Lit l) h = h
      named_stays (ProcedureOf m l) h = let one = procedure_stays p n k i j m l h.0 h.1 in (record h.0 { body = one.0 }, one.1)
      named_stays (MethodOf e d l) h =
          let one = method_stays p n k i j d l h.2.0 h.2.1 in (value_stays e (Named d) h.0, h.1, (record h.2.0 { body = one.0 }, one.1))
      named_stays e h = absurd h

    call_stays : (c : Call) → IsCall p own c → IsCall q so c
    call_stays Open h = tt
    call_stays (Char e) h = value_stays e _ h
    call_stays (Int a b) h = (value_stays a _ h.0, value_stays b _ h.1)
    call_stays (String r) h = rows_stay r 1 TChar h
    call_stays Ln h = tt

    return_stays : (e : Option Expr) (r : Option TType) → IsReturn p own e r → IsReturn q so e r
    return_stays None None h = h
    return_stays None (Some t) h = h
    return_stays (Some e) None h = h
    return_stays (Some e) (Some t) h = value_stays e t h

    objects_stay : (e : Expr) → AreObjects p own e → AreObjects q so e
    objects_stay e h = (h.0, value_stays e h.0 h.1, h.2)

    lengths_stay : (es : List Expr) → AreLengthsOf p own es → AreLengthsOf q so es
    lengths_stay [] h = tt
    lengths_stay (e ∷ es) h = (value_stays e (Integer W64) h.0, lengths_stay es h.1)

    -- what an initializer is handed
    handed_stays : (slot : Option ℕ) (t : ℕ) (more : Arguments) → IsInitialized p own slot t more → IsInitialized q so slot t more
    handed_stays None t more h = h
    handed_stays (Some l) t more h =
        let one = method_stays p n k i j t l h.0 h.1 in (record h.0 { body = one.0 }, one.1, h.2, arguments_stay more h.0.parameters h.3)

    mutual
      stat_typed : (s : Stat) (m : ℕ) → IsStatement p own s → IsStatement q so (renumbered m s)
      stat_typed (Assign at t x e) m h = (place_stays x t h.0, h.1, value_stays e t h.2)
      stat_typed (Copy at t x y) m h = (place_stays x t h.0, (h.1.0, place_stays y h.1.0 h.1.1, h.1.2), h.2)
      stat_typed (PutText at strict x y) m h = (rows_stay x 1 TChar h.0, rows_stay y 1 TChar h.1, h.2, variables_stay p n k i j y h.3)
      stat_typed (If at arms) m h = arms_typed arms m h
      stat_typed (Case at e cases) m h =
          (either (value_stays e (Integer W64)) (value_stays e TChar) h.0, subst AreApart (sym (labels_same cases m)) h.1, cases_typed cases m h.2)
      stat_typed (While at e body) m h = (value_stays e _ h.0, stats_typed body m h.1)
      stat_typed (Repeat at body e) m h = (stats_typed body m h.0, value_stays e _ h.1)
      stat_typed (Loop at body) m h = stats_typed body m h
      stat_typed (Exit at) m h = tt
      stat_typed (For at w x from to step body) m h =
          (h.0, place_stays x (Integer w) h.1, value_stays from _ h.2, value_stays to _ h.3, h.4, stats_typed body m h.5)
      stat_typed (Block at exclusive body) m h = stats_typed body m h
      stat_typed (Await at l e) m h = (value_stays e _ h.0, h.1)
      stat_typed (Assert at e code) m h = (value_stays e _ h.0, h.1)
      stat_typed (Halt at code) m h = h
      stat_typed (Change at c x e) m h = (place_stays x (changed_type c) h.0, value_stays e (amount_type c) h.1)
      stat_typed (Perform at c more) m h =
          let one = called_stays c h.0 h.1 in (record h.0 { body = one.0 }, one.1, h.2, arguments_stay more h.0.parameters h.3)
      stat_typed (Return at e) m h = subst (IsReturn q so e) (sym (result_stays own)) (return_stays e (result_of own) h)
      stat_typed (New at x t more) m h = (
        place_stays x (Named t) h.0,
        h.1,
        subst (λ slot. IsInitialized q so slot t more) (sym (initializer_stays p n k i j t)) (handed_stays (initializer p t) t more h.2),
      )
      stat_typed (Make at x t ns) m h = ((h.0.0, place_stays x h.0.0 h.0.1, h.0.2), fewer t h.1, h.2, lengths_stay ns h.3, h.4)
      stat_typed (With at e body) m h = (objects_stay e h.0, stats_typed body m h.1)
      stat_typed (WithRecord at x body) m h = ((h.0.0, place_stays x h.0.0 h.0.1, names_stay x h.0.0 h.0.2), stats_typed body m h.1)
      stat_typed (Out at c) m h = call_stays c h

      pub stats_typed : (ss : Stats) (m : ℕ) → AreStatements p own ss → AreStatements q so (stats_renumbered m ss)
      stats_typed Nothing m h = tt
      stats_typed (Then s ss) m h = (stat_typed s m h.0, stats_typed ss (m + length (awaited s)) h.1)

      arms_typed : (arms : Arms) (m : ℕ) → AreArms p own arms → AreArms q so (arms_renumbered m arms)
      arms_typed (Otherwise ss) m h = stats_typed ss m h
      arms_typed (Arm e ss arms) m h = (value_stays e _ h.0, stats_typed ss m h.1, arms_typed arms (m + length (awaited_in ss)) h.2)

      cases_typed : (cases : Cases) (m : ℕ) → AreCases p own cases → AreCases q so (cases_renumbered m cases)
      cases_typed NoElse m h = tt
      cases_typed (Else ss) m h = stats_typed ss m h
      cases_typed (OfLabels rs ss cases) m h = (h.0, stats_typed ss m h.1, cases_typed cases (m + length (awaited_in ss)) h.2)
