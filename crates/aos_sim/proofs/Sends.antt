-- The code of a call does what the call does: of a procedure, of SELF's own method or a base's, of the method that an object's own
-- type has in a slot, and of what a value of a procedure type stands for.
use Rattle.std.proofs.Common.{◌≡◌, ℕ, zero, suc, ◌+◌, Bool, true, false, if◌then◌else◌, Option, Some, None, List, [], ◌∷◌, ◌++◌, length, map, refl, sym, ap, ◌∙◌, subst, arith, length-append}
use Rattle.std.proofs.Common.{◌⊎◌, inl, inr}
use Rattle.std.specs.Prelude.{◌&&◌, nat_eq, not, is_some, option_map, slice_get}
use Rattle.std.proofs.lemmas.Bool.{eq-eqb}
use Rattle.aos_base.specs.Question.{Manner, ByName, ByType, Upward, ByValue, Traps, bind, ask, Calls}
use Rattle.aos_base.specs.Rooted.{Made, by_number}
use Rattle.aos_types.specs.declared.row.TypeId.{TypeId}
use Rattle.aos_types.specs.Extension.{comes_to, AreBases}
use Rattle.aos_types.specs.Shape.{size}
use Rattle.aos_types.specs.Table.{row_of, base_of, is_open, is_object, is_scalar}
use Rattle.aos_types.specs.World.{World, Grows}
use Rattle.aos_types.proofs.Tables.{bases_of, comes_on}
use Rattle.aos_typed.specs.declared.tree.TType.{TType}
use Rattle.aos_typed.specs.declared.tree.TType.TheVariants.{Named}
use Rattle.aos_typed.specs.Program.{Parameter, Procedure, ObjectType, Program}
use Rattle.aos_typed.specs.Methods.{method_in, method_number}
use Rattle.aos_typed.specs.Numbers.{id_of, id_of_made, body_number, procedure_number}
use Rattle.aos_typed.specs.Open.{open_dimensions, open_element}
use Rattle.aos_typed.specs.Routines.{self_type, routine_of, routines}
use Rattle.aos_typed.specs.Sort.{Sort, Elements}
use Rattle.aos_typed.specs.Typing.{IsPlace, Extends, HasLengths, IsInstance, IsCalledBy}
use Rattle.aos_typed.specs.Value.{Value, Object, Callable}
use Rattle.aos_typed.specs.Meaning.{Here, Doing, dispatched, sent, on_instance, applied}
use Rattle.aos_typed.specs.Meaning as source
use Rattle.aos_typed.specs.Source.{arguments_in}
use Rattle.aos_typed.specs.Formals.{AreSame, Agree, HasFormals, pattern_of}
use Rattle.aos_typed.specs.WellTyped.{procedure_in}
use Rattle.aos_layout.specs.Frame.{parameter_kind}
use Rattle.aos_layout.specs.Layout.{kind_of, cells}
use Rattle.aos_code.specs.declared.instr.Cell.{Cell}
use Rattle.aos_code.specs.declared.instr.Cell.TheVariants.{Ref, Call as CallCell}
use Rattle.aos_code.specs.declared.instr.Instr.{Instr}
use Rattle.aos_code.specs.declared.instr.Instr.TheVariants as i
use Rattle.aos_code.specs.declared.instr.Kind.{Kind}
use Rattle.aos_code.specs.declared.instr.Kind.TheVariants as kind
use Rattle.aos_code.specs.declared.image.ParamKind.{ParamKind}
use Rattle.aos_code.specs.declared.image.ParamKind.TheVariants as param
use Rattle.aos_code.specs.Numbered.{numbered}
use Rattle.aos_code.specs.Silent.{Stack, Keeps, Question, Invokes, Unheard, same_kind, same_param, same_params, same_result, same_formals, applies_as, applies_to, stands_for, invoked, method_at, gives_self}
use Rattle.aos_sim.specs.Cells.{cell_of}
use Rattle.aos_sim.proofs.Runs.{Run, Onward, Tables, past, at_work, invokes, type_at, on_run, runs}
use Rattle.aos_sim.proofs.Does.{HasTypes, HasShapes, IsObject, IsSelf, Handles, HandlesFor, Given, IsCalledOn, IsAnswer, Does, along, knows_grows, given_grows, given_cells, object_grows}
use Rattle.aos_sim.proofs.References.{IsMadeAs, nil_or, of_target, comes_same, a_callable, from_pattern, pattern_object}
use Rattle.aos_sim.proofs.Routines.{routine_there, object_there}
use Rattle.aos_sim.proofs.Evaluates.{OfSort, OnTop, Brings, Yields, pushed, front_does, piece_does, sorts_stay}
use Rattle.aos_sim.proofs.Designators.{Hands}
use Rattle.aos_sim.proofs.Objects.{object_target}
use Rattle.aos_sim.proofs.Called.{known, method_is, call_gives, plain_asks, method_asks, nil_fails, slot_asks, none_applied, value_asks}

-- Shapes that are the same are found to be.

kind_same : (k : Kind) → same_kind k k ≡ true
kind_same kind.N = refl
kind_same kind.R = refl
kind_same kind.C = refl
kind_same kind.A = refl

number_same : (n : ℕ) → nat_eq n n ≡ true
number_same n = eq-eqb n n refl

param_same : (p : ParamKind) → same_param p p ≡ true
param_same (param.Scalar k) = kind_same k
param_same (param.Whole n) = number_same n
param_same param.Place = refl
param_same (param.Open d true n) = λ j. number_same d j && number_same n j
param_same (param.Open d false n) = λ j. number_same d j && number_same n j

params_same : (ps : List ParamKind) → same_params ps ps ≡ true
params_same [] = refl
params_same (p ∷ ps) = λ j. param_same p j && params_same ps j

result_same : (r : Option Kind) → same_result r r ≡ true
result_same None = refl
result_same (Some k) = kind_same k

-- What overrides takes the same.

module _ (p : Program) where
  abbrev kind_by : (opens : Bool) (dimensions : ℕ) (of : TypeId) (by_reference : Bool) → TypeId → ParamKind
  kind_by o d of r t =
      if o then param.Open d (not r) (size (cells p.types of))
      else if r then param.Place
      else if is_scalar (row_of p.types t) then param.Scalar (kind_of p.types t)
      else param.Whole (size (cells p.types t))

  kind_alike : (a b : Parameter) → a.by_reference ≡ b.by_reference → AreSame p.types a.of b.of → parameter_kind p.types a ≡ parameter_kind p.types b
  kind_alike a b r (inl e) =
      λ j. let t = id_of (e j) in kind_by (is_open (row_of p.types t)) (open_dimensions p.types t) (open_element p.types t) (r j) t
  kind_alike a b r (inr h) =
      let t = id_of a.of in
      let u = id_of b.of in
      ap (λ o. kind_by o (open_dimensions p.types t) (open_element p.types t) a.by_reference t) h.0
      ∙ (λ j. kind_by true (h.2 j) (h.3 j) (r j) t)
      ∙ sym (ap (λ o. kind_by o (open_dimensions p.types u) (open_element p.types u) b.by_reference u) h.1)

  kinds_alike : (as' bs : List Parameter) → Agree p.types as' bs → map (parameter_kind p.types) as' ≡ map (parameter_kind p.types) bs
  kinds_alike [] [] h = refl
  kinds_alike [] (b ∷ bs) h = absurd h
  kinds_alike (a ∷ as') [] h = absurd h
  kinds_alike (a ∷ as') (b ∷ bs) h = λ j. kind_alike a b h.0 h.1 j ∷ kinds_alike as' bs h.2 j

  handles_alike : (w : World Sort) (a b : Parameter) (us : List Value) → a.by_reference ≡ b.by_reference → AreSame p.types a.of b.of → HandlesFor p w b us → HandlesFor p w a us
  handles_alike w a b us r (inl e) h =
      let one : TType → Bool → Type 0 = λ z x. Handles p (is_open (row_of p.types (id_of z))) x (is_scalar (row_of p.types (id_of z))) w (id_of z) us in
      subst (λ x. one a.of x) (sym r) (subst (λ z. one z b.by_reference) (sym e) h)
  handles_alike w a b us r (inr s) h =
      let t = id_of a.of in
      let u = id_of b.of in
      let c = is_scalar (row_of p.types t) in
      let opened = subst (λ o. Handles p o b.by_reference (is_scalar (row_of p.types u)) w u us) s.1 h in
      let same : Handles p true a.by_reference c w t us = (opened.0, opened.1, opened.2, opened.3 ∙ sym s.2, subst (λ z. IsPlace p w (Elements z opened.1) opened.0) (sym s.3) opened.4, opened.5) in
      subst (λ o. Handles p o a.by_reference c w t us) (sym s.0) same

  pub given_alike : (w : World Sort) (as' bs : List Parameter) (vs : List Value) → Agree p.types as' bs → Given p w bs vs → Given p w as' vs
  given_alike w [] [] vs h g = g
  given_alike w [] (b ∷ bs) vs h g = absurd h
  given_alike w (a ∷ as') [] vs h g = absurd h
  given_alike w (a ∷ as') (b ∷ bs) vs h g =
      (g.0, g.1, g.2, handles_alike w a b g.0 h.0 h.1 g.3, given_alike w as' bs g.1 h.2 g.4)

  module _ (tables : Tables) (shaped : HasShapes p tables) where
    -- and the code finds it to take the same
    formals_found : (n m home other : ℕ) (r q : Procedure) (there : by_number n (routines p) ≡ Some (routine_of home r)) (here : by_number m (routines p) ≡ Some (routine_of other q)) → HasFormals p.types r q → same_formals (known p tables shaped n home r there).0 (known p tables shaped m other q here).0 ≡ true
    formals_found n m home other r q there here over =
        let x = known p tables shaped n home r there in
        let y = known p tables shaped m other q here in
        let params : x.0.params.items ≡ y.0.params.items = ap (λ z. z.params) x.2 ∙ kinds_alike r.parameters q.parameters over.0 ∙ sym (ap (λ z. z.params) y.2) in
        let result : x.0.result ≡ y.0.result = ap (λ z. z.result) x.2 ∙ ap (option_map (λ t. kind_of p.types (id_of t))) over.1 ∙ sym (ap (λ z. z.result) y.2) in
        (λ j. same_params (params j) y.0.params.items && same_result (result j) y.0.result)
        ∙ (λ j. params_same y.0.params.items j && result_same y.0.result j)

    -- and to stand for the other
    stands : (n m home other : ℕ) (r q : Procedure) → by_number n (routines p) ≡ Some (routine_of home r) → by_number m (routines p) ≡ Some (routine_of other q) → (s : ℕ) → r.of ≡ Some s → HasFormals p.types r q → stands_for (numbered tables.procedures n) (numbered tables.procedures m) ≡ true
    stands n m home other r q there here s is over =
        let x = known p tables shaped n home r there in
        let y = known p tables shaped m other q here in
        let method : x.0.method ≡ true = method_is p tables shaped n home r there ∙ ap is_some is in
        (λ j. stands_for (x.1 j) (y.1 j)) ∙ (λ j. method j && formals_found n m home other r q there here over j)

  -- no object is made as no type
  pub no_type : HasTypes p → (t : ℕ) → comes_to p.types (id_of_made 0) (id_of (Named t)) ≡ true → ⊥
  no_type typed t e = let r = bases_of p.types (length p.types) (id_of_made 0) (id_of (Named t)) e in by r.bases r.are
    where
      by : (bs : List TypeId) → AreBases p.types (id_of_made 0) bs (id_of (Named t)) → ⊥
      by [] h = let n : 0 ≡ t + 10 = ap (λ z. z.0) h in absurd (omega (arith, n))
      by (x ∷ bs) h = let n : None ≡ Some x = sym (ap base_of (typed.predeclared 0 (omega arith))) ∙ h.0 in absurd (cc n)

module _ (program : Program) (own : Option Procedure) (tables : Tables) (number : ℕ) (here : Here) (code : List Instr) where
  -- what a call leaves on the stack: a function's result
  abbrev pub answer_cells : World Sort → Option TType → Value → List Cell
  answer_cells w None v = []
  answer_cells w (Some t) v = cell_of w v ∷ []

  abbrev pub Answers : Option TType → List Instr → Doing Value → ℕ → Type 0
  Answers t = Brings program own tables number here code (λ w v. IsAnswer program w t v) (λ w v. answer_cells w t v)

  abbrev pub Answered : Option TType → List Instr → ℕ → Keeps → Stack → World Sort → Value → Run → Type 0
  Answered t = OnTop tables number here code (λ w v. IsAnswer program w t v) (λ w v. answer_cells w t v)

  abbrev onward : List Instr → Onward
  onward = runs tables number here code

  module _ (typed : HasTypes program) (shaped : HasShapes program tables) where
    -- code that asks for a call goes on with its answer
    pub asked_does : (how : Manner) (n home : ℕ) (q : Procedure) → by_number n (routines program) ≡ Some (routine_of home q) → (us : List Value) (w : World Sort) → Given program w q.parameters (arguments_in (is_some q.of) us) → IsCalledOn program w.made q.of us → (rest : List Instr) (p : ℕ) (ks : Keeps) (s : Stack) (m : Run) → m ≡ at_work tables (Calls ByName n (map (cell_of w) us)) p ks s (onward rest) → Does program here (Answered q.result rest (p + 1) ks s) w m (ask (Calls how n us))
    asked_does how n home q there us w given on rest p ks s m e = (
      (λ c. past tables (Calls ByName n (map (cell_of w) us)) c p ks s (onward rest)),
      e,
      (routine_of home q, there, given, on),
      λ w2 up v answer.
          record {
            is = answer (routine_of home q) there;
            run = ap (λ b. onward rest 0 (p + 1) ks (if b then cell_of w2 v ∷ s else s)) (call_gives program tables shaped n home q there) ∙ left w2 v q.result;
          },
    )
      where
        left : (w2 : World Sort) (v : Value) (t : Option TType) → onward rest 0 (p + 1) ks (if is_some t then cell_of w2 v ∷ s else s) ≡ onward rest 0 (p + 1) ks (pushed (answer_cells w2 t v) s)
        left w2 v None = refl
        left w2 v (Some t) = refl

    pub plain_does : (m k : ℕ) (q : Procedure) (ca : List Instr) (ra : Doing (List Value)) (at : ℕ) → procedure_in program m k ≡ Some q → Hands program own tables number here code q.parameters ca ra at → Answers q.result (ca ++ i.Call (procedure_number program m k) ∷ []) (bind ra (λ vs. ask (Calls ByName (procedure_number program m k) vs))) at
    plain_does m k q ca ra at is ha w kn rest ks s =
        let n = procedure_number program m k in
        let x = i.Call n in
        let p = at + length ca in
        let z = at + length (ca ++ x ∷ []) in
        let behind : p + 1 ≡ z = omega (arith, length-append ca (x ∷ [])) in
        let none : q.of ≡ None = typed.plain m k q is in
        let there = routine_there program m k q is in
        front_does program own tables number here code (λ w vs. Given program w q.parameters vs) (λ w vs. map (cell_of w) vs) (Answered q.result rest z ks s) (λ vs. ask (Calls ByName n vs)) ca (x ∷ []) ra at rest ks s ha w kn
        (λ w1 up vs m' given e.
        subst (λ y. Does program here (Answered q.result rest y ks s) w1 m' (ask (Calls ByName n vs))) behind
        (asked_does ByName n m q there vs w1 (subst (λ o. Given program w1 q.parameters (arguments_in (is_some o) vs)) (sym none) given) (subst (λ o. IsCalledOn program w1.made o vs) (sym none) tt) rest p ks s m'
        (e ∙ plain_asks program tables shaped n m q there here w1 vs given number code rest p ks s none)))

    -- a method is given its object and what is given for its parameters
    pub method_given : (q : Procedure) (t o : ℕ) → q.of ≡ Some t → (w : World Sort) (vs : List Value) → Given program w q.parameters vs → Given program w q.parameters (arguments_in (is_some q.of) (Object o ∷ vs))
    method_given q t o is w vs given = subst (λ b. Given program w q.parameters (arguments_in (is_some b) (Object o ∷ vs))) (sym is) given

    pub method_on : (q : Procedure) (t o : ℕ) → q.of ≡ Some t → (w : World Sort) (vs : List Value) → IsSelf program w.made (Some t) o → IsCalledOn program w.made q.of (Object o ∷ vs)
    method_on q t o is w vs self = subst (λ b. IsCalledOn program w.made b (Object o ∷ vs)) (sym is) (o, vs, refl, self)

    pub upper_does : (t k : ℕ) (q : Procedure) (a : ℕ) (ca : List Instr) (ra : Doing (List Value)) (at : ℕ) → self_type own ≡ Some a → comes_to program.types (id_of (Named a)) (id_of (Named t)) ≡ true → method_in program t k ≡ Some q → Hands program own tables number here code q.parameters ca ra (at + 1) → Answers q.result (i.SelfRef ∷ (ca ++ i.Call (method_number program t k) ∷ [])) (bind ra (λ vs. ask (Calls Upward (method_number program t k) (Object here.self ∷ vs)))) at
    upper_does t k q a ca ra at of comes is ha w kn rest ks s =
        let n = method_number program t k in
        let x = i.Call n in
        let f = typed.methods.found t k q is in
        let self = subst (λ o. IsSelf program w.made o here.self) of kn.self in
        let o = self.0 in
        let made = self.1 in
        let p = at + 1 + length ca in
        let z = at + suc (length (ca ++ x ∷ [])) in
        let behind : p + 1 ≡ z = omega (arith, length-append ca (x ∷ [])) in
        let extends = comes_on program.types typed.ranked (id_of_made made.type) (id_of (Named a)) (id_of (Named f.self)) self.5 (comes_on program.types typed.ranked (id_of (Named a)) (id_of (Named t)) (id_of (Named f.self)) comes f.extends) in
        let next = (ca ++ x ∷ []) ++ rest in
        let called_so : List Value → Doing Value = λ vs. ask (Calls Upward n (Object here.self ∷ vs)) in
        along program here (Answered q.result rest z ks s) w (onward (i.SelfRef ∷ next) 0 at ks s) (onward next 0 (at + 1) ks (Ref (suc o) ∷ s)) (bind ra called_so)
        (ap (λ y. on_run tables (gives_self y s) (onward next) at ks) self.2)
        (front_does program own tables number here code (λ w vs. Given program w q.parameters vs) (λ w vs. map (cell_of w) vs) (Answered q.result rest z ks s) called_so ca (x ∷ []) ra (at + 1) rest ks (Ref (suc o) ∷ s) ha w kn
        (λ w1 up vs m' given e.
        let self1 : IsSelf program w1.made (Some f.self) here.self = (o, made, self.2, up.made (suc o) made self.3, self.4, extends) in
        subst (λ y. Does program here (Answered q.result rest y ks s) w1 m' (called_so vs)) behind
        (asked_does Upward n f.home q f.there (Object here.self ∷ vs) w1 (method_given q f.self here.self f.is w1 vs given) (method_on q f.self here.self f.is w1 vs self1) rest p ks s m'
        (e ∙ method_asks program tables shaped n f.home q f.there here w1 vs given number code rest p ks s f.self o f.is
        ∙ ap (λ y. at_work tables (Calls ByName n (Ref y ∷ map (cell_of w1) vs)) p ks s (onward rest)) (sym self.2)))))

    module _ (t k : ℕ) (q : Procedure) (is : method_in program t k ≡ Some q) where
      abbrev named : ℕ
      named = method_number program t k

      -- the method in the slot of an object's own type
      slot_does : (o : ℕ) (made : Made) (vs : List Value) (w w1 : World Sort) → Grows w w1 → w1.made (suc o) ≡ Some made → HasLengths program (row_of program.types (id_of_made made.type)) made → Given program w q.parameters vs → comes_to program.types (id_of_made made.type) (id_of (Named t)) ≡ true → (rest : List Instr) (p : ℕ) (ks : Keeps) (s : Stack) →
          Does program here (Answered q.result rest (p + 1) ks s) w1
          (invokes (invoked tables.procedures named (method_at tables.types made.type k) (suc o) (map (cell_of w) vs)) (λ z. at_work tables z p ks s (onward rest)))
          (dispatched program (Object (suc o)) t k vs made.type)
      slot_does o made vs w w1 up there lengths given comes rest p ks s = by made.type refl comes
        where
          by : (d : ℕ) → made.type ≡ d → comes_to program.types (id_of_made d) (id_of (Named t)) ≡ true →
              Does program here (Answered q.result rest (p + 1) ks s) w1 (invokes (invoked tables.procedures named (method_at tables.types d k) (suc o) (map (cell_of w) vs)) (λ z. at_work tables z p ks s (onward rest))) (dispatched program (Object (suc o)) t k vs d)
          by zero type_is c = absurd (no_type program typed t c)
          by (suc d) type_is c =
              let r = typed.methods.overridden d t k q c is in
              let f = typed.methods.found d k r.0 r.1 in
              let base = typed.methods.found t k q is in
              let n = method_number program d k in
              let at = shaped.methods d k n f.below f.number in
              let stand = stands program tables shaped n named f.home base.home r.0 q f.there base.there f.self f.is r.2.0 in
              let us = map (cell_of w) vs in
              let work : List Cell → Run = λ cs. at_work tables (Calls ByName n (Ref (suc o) ∷ cs)) p ks s (onward rest) in
              let call : Question → Run = λ z. at_work tables z p ks s (onward rest) in
              let goes : invokes (invoked tables.procedures named (method_at tables.types (suc d) k) (suc o) us) call ≡ work us = ap (λ j. invokes (invoked tables.procedures named j (suc o) us) call) at
              ∙ ap (λ b. invokes (if b then Invokes n (Ref (suc o) ∷ us) else Unheard) call) stand in
              let now = given_grows program here w w1 up q.parameters vs given in
              let extends = comes_on program.types typed.ranked (id_of_made made.type) (id_of (Named d)) (id_of (Named f.self)) (itself d type_is) f.extends in
              let self : IsSelf program w1.made (Some f.self) (suc o) = (o, made, refl, there, lengths, extends) in
              subst (λ b. Does program here (Answered q.result rest (p + 1) ks s) w1 (invokes (invoked tables.procedures named (method_at tables.types (suc d) k) (suc o) us) call) (if b then ask (Calls ByType n (Object (suc o) ∷ vs)) else Traps 1 0)) (sym c)
              (subst (λ y. Does program here (Answered y rest (p + 1) ks s) w1 (invokes (invoked tables.procedures named (method_at tables.types (suc d) k) (suc o) us) call) (ask (Calls ByType n (Object (suc o) ∷ vs)))) r.2.0.1
              (asked_does ByType n f.home r.0 f.there (Object (suc o) ∷ vs) w1 (method_given r.0 f.self (suc o) f.is w1 vs (given_alike program w1 r.0.parameters q.parameters vs r.2.0.0 now)) (method_on r.0 f.self (suc o) f.is w1 vs self) rest p ks s _
              (goes ∙ ap work (given_cells program here w w1 up q.parameters vs given))))
            where
              itself : (d : ℕ) → made.type ≡ suc d → comes_to program.types (id_of_made made.type) (id_of (Named d)) ≡ true
              itself d e = subst (λ y. comes_to program.types (id_of_made made.type) (id_of_made y) ≡ true) e (comes_same program.types (id_of_made made.type))

      pub dispatched_does : (cr : List Instr) (rr : Doing Value) (ca : List Instr) (ra : Doing (List Value)) (at : ℕ) → is_object (row_of program.types (id_of (Named t))) ≡ true → Yields program own tables number here code (Named t) cr rr at → Hands program own tables number here code q.parameters ca ra (at + length cr) → Answers q.result (cr ++ (ca ++ i.Virtual k named ∷ [])) (bind rr (λ o. bind ra (λ vs. sent program o t k vs))) at
      dispatched_does cr rr ca ra at object hr ha w kn rest ks s =
          let x = i.Virtual k named in
          let p = at + length cr + length ca in
          let z = at + length (cr ++ (ca ++ x ∷ [])) in
          let behind : p + 1 ≡ z = omega (arith, length-append cr (ca ++ x ∷ []), length-append ca (x ∷ [])) in
          let Q = Answered q.result rest z ks s in
          piece_does program own tables number here code (OfSort program own tables number here code (Named t)) cell_of Q (λ o. bind ra (λ vs. sent program o t k vs)) cr (ca ++ x ∷ []) rr at rest ks s hr w kn
          (λ w1 up v m ok e. along program here Q w1 m _ (bind ra (λ vs. sent program v t k vs)) e
          (front_does program own tables number here code (λ w vs. Given program w q.parameters vs) (λ w vs. map (cell_of w) vs) Q (λ vs. sent program v t k vs) ca (x ∷ []) ra (at + length cr) rest ks (cell_of w1 v ∷ s) ha w1 (knows_grows program own here w w1 up kn)
          (λ w2 up2 vs m2 given e2.
          let stay = sorts_stay program own tables number here code (Named t) w1 w2 up2 v ok in
          subst (λ y. Does program here (Answered q.result rest y ks s) w2 m2 (sent program v t k vs)) behind
          (by p w2 v vs m2 (nil_or program w2 (Extends program (id_of (Named t))) v (of_target program w2 (Named t) (id_of (Named t)) v (object_target program.types (id_of (Named t)) (row_of program.types (id_of (Named t))) object) stay.0)) given
          (e2 ∙ ap (λ c. onward (x ∷ rest) 0 p ks (pushed (map (cell_of w2) vs) (c ∷ s))) stay.1)))))
        where
          by : (p : ℕ) (w2 : World Sort) (v : Value) (vs : List Value) (m2 : Run) → (v ≡ Object 0) ⊎ IsMadeAs program w2 (Extends program (id_of (Named t))) v → Given program w2 q.parameters vs → m2 ≡ onward (i.Virtual k named ∷ rest) 0 p ks (pushed (map (cell_of w2) vs) (cell_of w2 v ∷ s)) → Does program here (Answered q.result rest (p + 1) ks s) w2 m2 (sent program v t k vs)
          by p w2 v vs m2 (inl nil) given e =
              let f = typed.methods.found t k q is in
              subst (λ y. m2 ≡ onward (i.Virtual k named ∷ rest) 0 p ks (pushed (map (cell_of w2) vs) (cell_of w2 y ∷ s)) → Does program here (Answered q.result rest (p + 1) ks s) w2 m2 (sent program y t k vs)) (sym nil)
              (λ g. (g ∙ nil_fails program tables shaped named f.home q f.there here w2 vs given number code rest p ks s k, omega arith)) e
          by p w2 v vs m2 (inr a) given e =
              let f = typed.methods.found t k q is in
              let o = a.object.number in
              let us = map (cell_of w2) vs in
              let call : Question → Run = λ z. at_work tables z p ks s (onward rest) in
              let obj : IsObject w2 (Object (suc o)) a.made = record { number = o; is = refl; made = a.object.made } in
              subst (λ y. m2 ≡ onward (i.Virtual k named ∷ rest) 0 p ks (pushed us (cell_of w2 y ∷ s)) → Does program here (Answered q.result rest (p + 1) ks s) w2 m2 (sent program y t k vs)) (sym a.object.is)
              (λ g. (
                (λ c. invokes (invoked tables.procedures named (method_at tables.types (type_at c) k) (suc o) us) call),
                g ∙ slot_asks program tables shaped named f.home q f.there here w2 vs given number code rest p ks s k o,
                (a.made, obj),
                λ w3 up3 y conforms.
                    let c = conforms a.made (object_grows program here w2 w3 up3 (Object (suc o)) a.made obj) in
                    subst (λ y. Does program here (Answered q.result rest (p + 1) ks s) w3 (invokes (invoked tables.procedures named (method_at tables.types (type_at (cell_of w3 y)) k) (suc o) us) call) (dispatched program (Object (suc o)) t k vs (source.place_in y).type)) (sym c.0)
                    (slot_does o a.made vs w2 w3 up3 (up3.made (suc o) a.made a.object.made) a.lengths given a.is rest p ks s),
              )) e

    -- What a value of a procedure type stands for.
    module _ (t : ℕ) (q : Procedure) (is : pattern_of program (Named t) ≡ Some q) where
      abbrev pattern_number : ℕ
      pattern_number = body_number program t

      applied_does : (n o : ℕ) (vs : List Value) (w : World Sort) → IsCalledBy program w (Some q) n o → Given program w q.parameters vs → (rest : List Instr) (p : ℕ) (ks : Keeps) (s : Stack) (m : Run) → m ≡ onward (i.CallValue pattern_number ∷ rest) 0 p ks (pushed (map (cell_of w) vs) (CallCell n o ∷ s)) → Does program here (Answered q.result rest (p + 1) ks s) w m (applied (Callable n o) vs)
      applied_does zero o vs w h given rest p ks s m e =
          let b = pattern_object program t q is in
          let there = object_there program t b.0 b.1 ∙ ap (λ y. Some (routine_of b.0.home y)) b.2 in
          (e ∙ none_applied program tables shaped pattern_number b.0.home q there here w vs given number code rest p ks s o, omega arith)
      applied_does (suc a) o vs w h given rest p ks s m e =
          subst (λ y. Does program here (Answered y rest (p + 1) ks s) w m (applied (Callable (suc a) o) vs)) over.1
          (by h.procedure.of refl o h.instance (e ∙ value_asks program tables shaped pattern_number b.0.home q there here w vs given number code rest p ks s a o ∙ found))
        where
          b : (x : ObjectType) × (slice_get program.objects t ≡ Some x) × (x.body ≡ q)
          b = pattern_object program t q is

          there : by_number pattern_number (routines program) ≡ Some (routine_of b.0.home q)
          there = object_there program t b.0 b.1 ∙ ap (λ y. Some (routine_of b.0.home y)) b.2

          over : HasFormals program.types h.procedure q
          over = h.formals q refl

          now : Given program w h.procedure.parameters vs
          now = given_alike program w h.procedure.parameters q.parameters vs over.0 given

          goes : (is_same method : Bool) (o : ℕ) → Run
          goes x b o = on_run tables (applies_to x b (suc a) o (map (cell_of w) vs) s) (onward rest) p ks

          -- the code finds it to take the same, and to be a method, or none
          found : on_run tables (applies_as (numbered tables.procedures (suc a)) (known program tables shaped pattern_number b.0.home q there).0 (suc a) o (map (cell_of w) vs) s) (onward rest) p ks ≡ goes true (is_some h.procedure.of) o
          found =
              let x = known program tables shaped (suc a) h.home h.procedure h.there in
              let y = known program tables shaped pattern_number b.0.home q there in
              ap (λ f. on_run tables (applies_as f y.0 (suc a) o (map (cell_of w) vs) s) (onward rest) p ks) x.1
              ∙ (λ j. goes (formals_found program tables shaped (suc a) pattern_number h.home b.0.home h.procedure q h.there there over j) (method_is program tables shaped (suc a) h.home h.procedure h.there j) o)

          by : (f : Option ℕ) → h.procedure.of ≡ f → (o : ℕ) → IsInstance program w f o → m ≡ goes true (is_some h.procedure.of) o → Does program here (Answered h.procedure.result rest (p + 1) ks s) w m (ask (Calls ByValue (suc a) (on_instance o vs)))
          by None none o at g =
              subst (λ j. m ≡ goes true (is_some h.procedure.of) j → Does program here (Answered h.procedure.result rest (p + 1) ks s) w m (ask (Calls ByValue (suc a) (on_instance j vs)))) (sym at)
              (λ g. asked_does ByValue (suc a) h.home h.procedure h.there vs w (subst (λ z. Given program w h.procedure.parameters (arguments_in (is_some z) vs)) (sym none) now) (subst (λ z. IsCalledOn program w.made z vs) (sym none) tt) rest p ks s m
              (g ∙ ap (λ z. goes true (is_some z) 0) none)) g
          by (Some self) some o at g =
              subst (λ j. m ≡ goes true (is_some h.procedure.of) j → Does program here (Answered h.procedure.result rest (p + 1) ks s) w m (ask (Calls ByValue (suc a) (on_instance j vs)))) (sym at.2)
              (λ g. asked_does ByValue (suc a) h.home h.procedure h.there (Object (suc at.0) ∷ vs) w (method_given h.procedure self (suc at.0) some w vs now) (method_on h.procedure self (suc at.0) some w vs (at.0, at.1, refl, at.3, at.4, at.5)) rest p ks s m
              (g ∙ ap (λ z. goes true (is_some z) (suc at.0)) some)) g

      pub through_does : (cr : List Instr) (rr : Doing Value) (ca : List Instr) (ra : Doing (List Value)) (at : ℕ) → Yields program own tables number here code (Named t) cr rr at → Hands program own tables number here code q.parameters ca ra (at + length cr) → Answers q.result (cr ++ (ca ++ i.CallValue pattern_number ∷ [])) (bind rr (λ o. bind ra (λ vs. applied o vs))) at
      through_does cr rr ca ra at hr ha w kn rest ks s =
          let x = i.CallValue pattern_number in
          let p = at + length cr + length ca in
          let z = at + length (cr ++ (ca ++ x ∷ [])) in
          let behind : p + 1 ≡ z = omega (arith, length-append cr (ca ++ x ∷ []), length-append ca (x ∷ [])) in
          let Q = Answered q.result rest z ks s in
          piece_does program own tables number here code (OfSort program own tables number here code (Named t)) cell_of Q (λ o. bind ra (λ vs. applied o vs)) cr (ca ++ x ∷ []) rr at rest ks s hr w kn
          (λ w1 up v m ok e. along program here Q w1 m _ (bind ra (λ vs. applied v vs)) e
          (front_does program own tables number here code (λ w vs. Given program w q.parameters vs) (λ w vs. map (cell_of w) vs) Q (λ vs. applied v vs) ca (x ∷ []) ra (at + length cr) rest ks (cell_of w1 v ∷ s) ha w1 (knows_grows program own here w w1 up kn)
          (λ w2 up2 vs m2 given e2.
          let stay = sorts_stay program own tables number here code (Named t) w1 w2 up2 v ok in
          let c = a_callable program w2 (Some q) v (from_pattern program w2 (Named t) q v is stay.0) in
          subst (λ y. Does program here (Answered q.result rest y ks s) w2 m2 (applied v vs)) behind
          (subst (λ y. m2 ≡ onward (x ∷ rest) 0 p ks (pushed (map (cell_of w2) vs) (cell_of w2 y ∷ s)) → Does program here (Answered q.result rest (p + 1) ks s) w2 m2 (applied y vs)) (sym c.is)
          (λ g. applied_does c.number c.object vs w2 c.called given rest p ks s m2 g)
          (e2 ∙ ap (λ c. onward (x ∷ rest) 0 p ks (pushed (map (cell_of w2) vs) (c ∷ s))) stay.1)))))
