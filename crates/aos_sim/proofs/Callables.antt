-- Procedures as values: one of a module, a method with its object, and whether two are one.
use Rattle.std.proofs.Common.{◌≡◌, ℕ, zero, suc, ◌+◌, true, if◌then◌else◌, Option, Some, List, [], ◌∷◌, ◌++◌, length, refl, sym, ap, ◌∙◌, subst, arith, length-append}
use Rattle.std.proofs.Common.{◌⊎◌, inl, inr}
use Rattle.aos_base.specs.Operators.{flag}
use Rattle.aos_base.specs.Question.{Val, Traps, bind}
use Rattle.aos_base.specs.Rooted.{Made, by_number}
use Rattle.aos_types.specs.Extension.{comes_to}
use Rattle.aos_types.specs.Table.{row_of, is_object}
use Rattle.aos_types.specs.World.{World}
use Rattle.aos_types.proofs.Tables.{comes_on}
use Rattle.aos_typed.specs.declared.tree.TType.{TType}
use Rattle.aos_typed.specs.declared.tree.TType.TheVariants as type
use Rattle.aos_typed.specs.declared.tree.TType.TheVariants.{Named}
use Rattle.aos_typed.specs.Formals.{HasFormals}
use Rattle.aos_typed.specs.Methods.{method_in, method_number}
use Rattle.aos_typed.specs.Numbers.{id_of, id_of_made, procedure_number}
use Rattle.aos_typed.specs.Program.{Procedure, Program}
use Rattle.aos_typed.specs.Routines.{routine_of, routines}
use Rattle.aos_typed.specs.Sort.{Sort}
use Rattle.aos_typed.specs.Typing.{Extends, HasLengths, IsInstance, StandsFor, IsCalledBy}
use Rattle.aos_typed.specs.Value.{Value, Flag, Object, Callable}
use Rattle.aos_typed.specs.Meaning.{Here, Doing, procedure_in as number_in_value, instance_in, are_one, bound_to, bound}
use Rattle.aos_typed.specs.Meaning as source
use Rattle.aos_typed.specs.WellTyped.{procedure_in, is_procedural, IsProcedural}
use Rattle.aos_code.specs.declared.instr.Cell.TheVariants as cell
use Rattle.aos_code.specs.declared.instr.Instr.{Instr}
use Rattle.aos_code.specs.declared.instr.Instr.TheVariants as i
use Rattle.aos_code.specs.Silent.{Stack, Keeps, bound as bound_method, method_at}
use Rattle.aos_sim.specs.Cells.{cell_of}
use Rattle.aos_sim.specs.Code.{operands_code}
use Rattle.aos_sim.proofs.Runs.{Run, Onward, Tables, binds, type_at, runs}
use Rattle.aos_sim.proofs.Does.{HasTypes, HasShapes, IsObject, Does, object_grows, does_more}
use Rattle.aos_sim.proofs.References.{IsMadeAs, nil_or, of_target, comes_same, a_callable, some_callable, to_pattern}
use Rattle.aos_sim.proofs.Methods.{formals_twice}
use Rattle.aos_sim.proofs.Routines.{routine_there}
use Rattle.aos_sim.proofs.Evaluates.{OfSort, OnStack, Pushed, ComesTo, Yields, Evaluates, Stays, piece_does, pieces_do}
use Rattle.aos_sim.proofs.Objects.{object_target}
use Rattle.aos_sim.proofs.Sends.{no_type}

-- what stands for others is no NIL
pub called_by : (program : Program) (w : World Sort) (q : Option Procedure) (n o : ℕ) → StandsFor program w q n o → IsCalledBy program w q n o
called_by program w q zero o h = let e = h.there in absurd (cc e)
called_by program w q (suc n) o h = h

-- a value that stands for a procedure, or for none
abbrev pub IsProcedureValue : World Sort → Value → Type 0
IsProcedureValue w v = v ≡ Callable (number_in_value v) (instance_in v)

-- formals of one procedure alone
pub one_formals : (program : Program) (r q : Procedure) → HasFormals program.types r q → (x : Procedure) → Some q ≡ Some x → HasFormals program.types r x
one_formals program r q h x e = let same : q ≡ x = cc in subst (HasFormals program.types r) same h

module _ (program : Program) (own : Option Procedure) (tables : Tables) (number : ℕ) (here : Here) (code : List Instr) where
  abbrev onward : List Instr → Onward
  onward = runs tables number here code

  pub procedure_does : HasTypes program → (t : TType) (m k : ℕ) (q : Procedure) (at : ℕ) → procedure_in program m k ≡ Some q → IsProcedural program t q → Yields program own tables number here code t (i.Proc (procedure_number program m k) ∷ []) (Val (Callable (procedure_number program m k) 0)) at
  procedure_does typed t m k q at is fits w known rest ks s =
      let n = procedure_number program m k in
      let stands : StandsFor program w (Some fits.0) n 0 = record {
        home = m;
        procedure = q;
        there = routine_there program m k q is;
        formals = one_formals program q fits.0 fits.2;
        instance = subst (λ o. IsInstance program w o 0) (sym (typed.plain m k q is)) refl;
      } in
      record { is = to_pattern program w t fits.0 (Callable n 0) fits.1 stands; run = refl }

  module _ (typed : HasTypes program) (shaped : HasShapes program tables) (t k : ℕ) (q : Procedure) (is : method_in program t k ≡ Some q)
      (A : World Sort → Value → Type 0)
      (gives : (w : World Sort) (n o home : ℕ) (r : Procedure) → by_number n (routines program) ≡ Some (routine_of home r) → HasFormals program.types r q → IsInstance program w r.of (suc o) → A w (Callable n (suc o))) where
    -- the method in the slot of an object's own type
    method_does : (o : ℕ) (made : Made) (w : World Sort) → w.made (suc o) ≡ Some made → HasLengths program (row_of program.types (id_of_made made.type)) made → comes_to program.types (id_of_made made.type) (id_of (Named t)) ≡ true → (rest : List Instr) (p : ℕ) (ks : Keeps) (s : Stack) →
        Does program here (OnStack tables number here code A cell_of rest p ks s) w
        (binds (bound_method (method_at tables.types made.type k) (suc o)) (λ s'. onward rest 0 p ks s') s)
        (bound_to program (Object (suc o)) t k made.type)
    method_does o made w there lengths comes rest p ks s = by made.type refl comes
      where
        by : (d : ℕ) → made.type ≡ d → comes_to program.types (id_of_made d) (id_of (Named t)) ≡ true →
            Does program here (OnStack tables number here code A cell_of rest p ks s) w
            (binds (bound_method (method_at tables.types d k) (suc o)) (λ s'. onward rest 0 p ks s') s)
            (bound_to program (Object (suc o)) t k d)
        by zero type_is c = absurd (no_type program typed t c)
        by (suc d) type_is c =
            let r = typed.methods.overridden d t k q c is in
            let f = typed.methods.found d k r.0 r.1 in
            let n = method_number program d k in
            let at = shaped.methods d k n f.below f.number in
            let v = Callable n (suc o) in
            let itself : comes_to program.types (id_of_made made.type) (id_of (Named d)) ≡ true = subst (λ y. comes_to program.types (id_of_made made.type) (id_of_made y) ≡ true) type_is (comes_same program.types (id_of_made made.type)) in
            let extends = comes_on program.types typed.ranked (id_of_made made.type) (id_of (Named d)) (id_of (Named f.self)) itself f.extends in
            let instance : IsInstance program w r.0.of (suc o) = subst (λ b. IsInstance program w b (suc o)) (sym f.is) (o, made, refl, there, lengths, extends) in
            subst (λ b. Does program here (OnStack tables number here code A cell_of rest p ks s) w (binds (bound_method (method_at tables.types (suc d) k) (suc o)) (λ s'. onward rest 0 p ks s') s) (if b then Val v else Traps 1 0)) (sym c)
            (record {
              is = gives w n o f.home r.0 f.there r.2.0 instance;
              run = ap (λ j. binds (bound_method j (suc o)) (λ s'. onward rest 0 p ks s') s) at;
            })

    bound_does : (xs : List Instr) (r : Doing Value) (at : ℕ) → is_object (row_of program.types (id_of (Named t))) ≡ true → Yields program own tables number here code (Named t) xs r at → ComesTo program own tables number here code A cell_of (xs ++ i.Bind k ∷ []) (bind r (λ v. bound program v t k)) at
    bound_does xs r at object h w known rest ks s =
        let x = i.Bind k in
        let p = at + length xs in
        let z = at + length (xs ++ x ∷ []) in
        let behind : p + 1 ≡ z = omega (arith, length-append xs (x ∷ [])) in
        let id = id_of (Named t) in
        piece_does program own tables number here code (OfSort program own tables number here code (Named t)) cell_of (Reached z) (λ v. bound program v t k) xs (x ∷ []) r at rest ks s h w known
        (λ w1 up v m ok e. by p z behind w1 v m (nil_or program w1 (Extends program id) v (of_target program w1 (Named t) id v (object_target program.types id (row_of program.types id) object) ok)) e)
      where
        Reached : ℕ → World Sort → Value → Run → Type 0
        Reached z = OnStack tables number here code A cell_of rest z ks s

        by : (p z : ℕ) → p + 1 ≡ z → (w1 : World Sort) (v : Value) (m : Run) → (v ≡ Object 0) ⊎ IsMadeAs program w1 (Extends program (id_of (Named t))) v → m ≡ onward (i.Bind k ∷ rest) 0 p ks (cell_of w1 v ∷ s) → Does program here (Reached z) w1 m (bound program v t k)
        by p z behind w1 v m (inl nil) e =
            subst (λ y. m ≡ onward (i.Bind k ∷ rest) 0 p ks (cell_of w1 y ∷ s) → Does program here (Reached z) w1 m (bound program y t k)) (sym nil) (λ f. (f, omega arith)) e
        by p z behind w1 v m (inr a) e =
            let o = a.object.number in
            let obj : IsObject w1 (Object (suc o)) a.made = record { number = o; is = refl; made = a.object.made } in
            subst (λ y. m ≡ onward (i.Bind k ∷ rest) 0 p ks (cell_of w1 y ∷ s) → Does program here (Reached z) w1 m (bound program y t k)) (sym a.object.is)
            (λ f. (
              (λ c. binds (bound_method (method_at tables.types (type_at c) k) (suc o)) (λ s'. onward rest 0 (p + 1) ks s') s),
              f,
              (a.made, obj),
              λ w2 up y conforms.
                  let c = conforms a.made (object_grows program here w1 w2 up (Object (suc o)) a.made obj) in
                  subst (λ y. Does program here (Reached z) w2 (binds (bound_method (method_at tables.types (type_at (cell_of w2 y)) k) (suc o)) (λ s'. onward rest 0 (p + 1) ks s') s) (bound_to program (Object (suc o)) t k (source.place_in y).type)) (sym c.0)
                  (subst (λ n. Does program here (Reached n) w2 (binds (bound_method (method_at tables.types a.made.type k) (suc o)) (λ s'. onward rest 0 (p + 1) ks s') s) (bound_to program (Object (suc o)) t k a.made.type)) behind
                  (method_does o a.made w2 (up.made (suc o) a.made a.object.made) a.lengths a.is rest (p + 1) ks s)),
            )) e

  -- of a type
  pub bound_yields : HasTypes program → HasShapes program tables → (t k : ℕ) (q : Procedure) → method_in program t k ≡ Some q → (u : TType) → IsProcedural program u q → (xs : List Instr) (r : Doing Value) (at : ℕ) → is_object (row_of program.types (id_of (Named t))) ≡ true → Yields program own tables number here code (Named t) xs r at → Yields program own tables number here code u (xs ++ i.Bind k ∷ []) (bind r (λ v. bound program v t k)) at
  bound_yields typed shaped t k q is u fits = bound_does typed shaped t k q is (OfSort program own tables number here code u) (λ w n o home r there formals instance.
      let stands : StandsFor program w (Some fits.0) n (suc o) = record {
        home = home;
        procedure = r;
        there = there;
        formals = one_formals program r fits.0 (formals_twice program r q fits.0 formals fits.2);
        instance = instance;
      } in
      to_pattern program w u fits.0 (Callable n (suc o)) fits.1 (called_by program w (Some fits.0) n (suc o) stands))

  -- Procedures of any formals.

  pub named_comes : (m k at : ℕ) → ComesTo program own tables number here code IsProcedureValue cell_of (i.Proc (procedure_number program m k) ∷ []) (Val (Callable (procedure_number program m k) 0)) at
  named_comes m k at w known rest ks s = record { is = refl; run = refl }

  pub none_comes : (at : ℕ) → ComesTo program own tables number here code IsProcedureValue cell_of (i.NilCall ∷ []) (Val (Callable 0 0)) at
  none_comes at w known rest ks s = record { is = refl; run = refl }

  pub bound_comes : HasTypes program → HasShapes program tables → (t k : ℕ) (q : Procedure) → method_in program t k ≡ Some q → (xs : List Instr) (r : Doing Value) (at : ℕ) → is_object (row_of program.types (id_of (Named t))) ≡ true → Yields program own tables number here code (Named t) xs r at → ComesTo program own tables number here code IsProcedureValue cell_of (xs ++ i.Bind k ∷ []) (bind r (λ v. bound program v t k)) at
  bound_comes typed shaped t k q is = bound_does typed shaped t k q is IsProcedureValue (λ w n o home r there formals instance. refl)

  -- whether two are one procedure, of one object
  callable_value : (w : World Sort) (t : TType) (v : Value) → is_procedural program.types t ≡ true → OfSort program own tables number here code t w v → v ≡ Callable (number_in_value v) (instance_in v)
  callable_value w t v procedural h =
      let c = a_callable program w _ v (some_callable program w t v procedural h) in
      c.is ∙ ap (λ x. Callable (number_in_value x) (instance_in x)) (sym c.is)

  pub any_comes : (t : TType) (xs : List Instr) (r : Doing Value) (at : ℕ) → is_procedural program.types t ≡ true → Yields program own tables number here code t xs r at → ComesTo program own tables number here code IsProcedureValue cell_of xs r at
  any_comes t xs r at is h w known rest k s =
      does_more program here (OnStack tables number here code (OfSort program own tables number here code t) cell_of rest (at + length xs) k s) (OnStack tables number here code IsProcedureValue cell_of rest (at + length xs) k s) w _ r (h w known rest k s)
      (λ w' up v m p. record { is = callable_value w' t v is p.is; run = p.run })

  procedures_stay : Stays program own tables number here code IsProcedureValue cell_of
  procedures_stay w w' g v h = (h, (λ j. cell_of w (h j)) ∙ sym (λ j. cell_of w' (h j)))

  pub one_does : (ca cb : List Instr) (ra rb : Doing Value) (at : ℕ) → ComesTo program own tables number here code IsProcedureValue cell_of ca ra at → ComesTo program own tables number here code IsProcedureValue cell_of cb rb (at + length ca) → Evaluates program own tables number here code type.Boolean (operands_code ca cb i.EqCall) (bind ra (λ a. bind rb (λ b. Val (Flag (are_one a b))))) at
  one_does ca cb ra rb at ha hb w known rest k s =
      let x = i.EqCall in
      let p = at + length ca + length cb in
      let q = at + length (operands_code ca cb x) in
      let behind : p + 1 ≡ q = omega (arith, length-append ca (cb ++ x ∷ []), length-append cb (x ∷ [])) in
      pieces_do program own tables number here code IsProcedureValue cell_of IsProcedureValue cell_of (Pushed tables number here code type.Boolean rest q k s) x (λ a b. Val (Flag (are_one a b))) ca cb ra rb at rest k s
      procedures_stay ha hb w known
      (λ w1 a b m ea eb e.
      record {
        is = (are_one a b, refl);
        run = e ∙ (λ j. onward (i.EqCall ∷ rest) 0 p k (cell_of w1 (eb j) ∷ (cell_of w1 (ea j) ∷ s))) ∙ ap (λ j. onward rest 0 j k (cell.Num (flag (are_one a b)) ∷ s)) behind;
      })
