-- A program whose parts are well typed, and which keeps the rules beside types, is well typed once its AWAITs are numbered.
use Rattle.std.proofs.Common.{◌≡◌, ◌≢◌, refl, sym, ap, subst, ◌∙◌, ℕ, suc, ◌+◌, ◌<◌, ◌≤◌, ◌⊎◌, inl, inr, List, [], ◌∷◌, length, map, sum_by, count_by, cond, true, false, All, AllPairs, get_or, slice_get, Option, Some, None, arith}
use Rattle.std.proofs.lemmas.List.{get_or-map}
use Rattle.std.proofs.lemmas.List.Elements.{All-nil, All-cons, All-head, All-tail, All-weaker}
use Rattle.std.proofs.lemmas.List.Sums.{sum_by-cons}
use Rattle.aos_base.specs.declared.limits.TheConstants.{MOST_SCALARS}
use Rattle.aos_types.specs.declared.row.TypeRow.{TypeRow}
use Rattle.aos_types.specs.declared.row.TypeRow.TheVariants as row
use Rattle.aos_types.specs.Table.{row_of, is_object}
use Rattle.aos_typed.specs.declared.tree.TType.{TType}
use Rattle.aos_typed.specs.declared.tree.TType.TheVariants.{Named}
use Rattle.aos_typed.specs.Numbers.{id_of, predeclared_types}
use Rattle.aos_typed.specs.Program.{Variable, Body, Procedure, Method, ObjectType, Module, Program}
use Rattle.aos_typed.specs.Methods.{put_at, on_base, base_type, methods_of, slot_of}
use Rattle.aos_typed.specs.Conditions.{awaits, awaits_in_procedures, awaits_in_methods, body_renumbered, procedure_renumbered, procedures_renumbered, methods_renumbered, modules_renumbered, objects_renumbered, numbered}
use Rattle.aos_typed.specs.Rules.{BodyKeepsRules, ModuleKeepsRules, ObjectKeepsRules}
use Rattle.aos_typed.specs.WellTyped.{AreStatements, is_ident, IsVariableType, IsResult, IsProcedure, Overrides, IsMethod, AreSlots, IsBeside, IsObjectType, AreObjectTypes, module_scalars, HasTypedParts, ProgramKeepsRules, IsWellTyped}
use Rattle.aos_typed.proofs.Conditions.{numbers_in_order}
use Rattle.aos_typed.proofs.Headings.{module_renumbered, object_renumbered, program_renumbered, as_many_modules, as_many_objects, AreLike, as_long, like_at, put_like, methods_like}
use Rattle.aos_typed.proofs.Retyped.{stats_typed}
use Rattle.aos_typed.proofs.Rules.{all_keep}

-- what holds of each module, type, procedure or method, and of how it is numbered
modules_all : (P Q : Module → Type 0) → ((x : Module) (n k : ℕ) → P x → Q (module_renumbered n k x)) → (n k : ℕ) (xs : List Module) → All P xs → All Q (modules_renumbered n k xs)
modules_all P Q more n k [] h = All-nil Q
modules_all P Q more n k (x ∷ xs) h =
    let n' : ℕ = n + awaits x.body in
    let k' : ℕ = k + awaits_in_procedures x in
    All-cons Q (module_renumbered n k x) (modules_renumbered n' k' xs) (more x n k (All-head P x xs h)) (modules_all P Q more n' k' xs (All-tail P x xs h))

objects_all : (P Q : ObjectType → Type 0) → ((o : ObjectType) (n k : ℕ) → P o → Q (object_renumbered n k o)) → (n k : ℕ) (os : List ObjectType) → All P os → All Q (objects_renumbered n k os)
objects_all P Q more n k [] h = All-nil Q
objects_all P Q more n k (o ∷ os) h =
    let n' : ℕ = n + awaits o.body.body in
    let k' : ℕ = k + awaits_in_methods o in
    All-cons Q (object_renumbered n k o) (objects_renumbered n' k' os) (more o n k (All-head P o os h)) (objects_all P Q more n' k' os (All-tail P o os h))

procedures_all : (P Q : Procedure → Type 0) → ((x : Procedure) (k : ℕ) → P x → Q (procedure_renumbered k x)) → (k : ℕ) (xs : List Procedure) → All P xs → All Q (procedures_renumbered k xs)
procedures_all P Q more k [] h = All-nil Q
procedures_all P Q more k (x ∷ xs) h =
    let k' : ℕ = k + awaits x.body in
    All-cons Q (procedure_renumbered k x) (procedures_renumbered k' xs) (more x k (All-head P x xs h)) (procedures_all P Q more k' xs (All-tail P x xs h))

methods_all : (P Q : Procedure → Type 0) → ((x : Procedure) (k : ℕ) → P x → Q (procedure_renumbered k x)) → (k : ℕ) (ms : List Method) →
    All (λ m. P m.procedure) ms → All (λ m. Q m.procedure) (methods_renumbered k ms)
methods_all P Q more k [] h = All-nil (λ (m : Method). Q m.procedure)
methods_all P Q more k (m ∷ ms) h =
    let k' : ℕ = k + awaits m.procedure.body in
    All-cons (λ (m : Method). Q m.procedure) (record m { procedure = procedure_renumbered k m.procedure }) (methods_renumbered k' ms)
    (more m.procedure k (All-head (λ (m : Method). P m.procedure) m ms h)) (methods_all P Q more k' ms (All-tail (λ (m : Method). P m.procedure) m ms h))

-- names that differ
abbrev name_of : Module → List ℕ
name_of x = x.name

names_same : (n k : ℕ) (xs : List Module) → map name_of (modules_renumbered n k xs) ≡ map name_of xs
names_same n k [] = refl
names_same n k (x ∷ xs) = ap (λ l. x.name ∷ l) (names_same (n + awaits x.body) (k + awaits_in_procedures x) xs)

differ_still : (n k : ℕ) (xs : List Module) → AllPairs (λ a b. a.name ≢ b.name) xs → AllPairs (λ a b. a.name ≢ b.name) (modules_renumbered n k xs)
differ_still n k xs h =
    λ a b d before there.
    let ys : List Module = modules_renumbered n k xs in
    let many : length ys ≡ length xs = as_many_modules n k xs in
    let same : (c : ℕ) → c < length ys → (get_or ys c d).name ≡ (get_or xs c d).name =
    (λ c below. sym (get_or-map name_of ys c d d.name below) ∙ ap (λ l. get_or l c d.name) (names_same n k xs) ∙ get_or-map name_of xs c d d.name (subst (λ m. c < m) many below)) in
    λ e. h a b d before (subst (λ m. b < m) many there) (sym (same a (omega (arith, before, there))) ∙ e ∙ same b there)

beside_still : (t : ℕ) (x : Procedure) (k : ℕ) (r : Option TypeRow) → IsBeside t x r → IsBeside t (procedure_renumbered k x) r
beside_still t x k (Some (row.Procedure formals r)) h = record { own = h.own; parameters = h.parameters; result = h.result }
beside_still t x k r h = record { own = h.own; plain = h.plain; proper = h.proper }

-- The rules beside types.

body_keeps : (b : Body) (m : ℕ) → BodyKeepsRules b → BodyKeepsRules (body_renumbered m b)
body_keeps b m h = all_keep b.statements m b.is_exclusive false h

module_keeps : (x : Module) (n k : ℕ) → ModuleKeepsRules x → ModuleKeepsRules (module_renumbered n k x)
module_keeps x n k h =
    record {
      body = body_keeps x.body n h.body;
      procedures = procedures_all (λ y. BodyKeepsRules y.body) (λ y. BodyKeepsRules y.body) (λ y m is. body_keeps y.body m is) k x.procedures h.procedures;
      initializers = procedures_all (λ y. y.is_initializer ≡ false) (λ y. y.is_initializer ≡ false) (λ y m is. is) k x.procedures h.initializers;
    }

-- 1 for an initializer
abbrev initial : Method → ℕ
initial m = cond m.procedure.is_initializer 1 0

initials_same : (k : ℕ) (ms : List Method) → count_by (λ (m : Method). m.procedure.is_initializer) (methods_renumbered k ms) ≡ count_by (λ (m : Method). m.procedure.is_initializer) ms
initials_same k [] = refl
initials_same k (m ∷ ms) =
    let k' : ℕ = k + awaits m.procedure.body in
    let x : Method = record m { procedure = procedure_renumbered k m.procedure } in
    sum_by-cons initial x (methods_renumbered k' ms) ∙ ap (λ a. initial m + a) (initials_same k' ms) ∙ sym (sum_by-cons initial m ms)

object_keeps : (o : ObjectType) (n k : ℕ) → ObjectKeepsRules o → ObjectKeepsRules (object_renumbered n k o)
object_keeps o n k h =
    record {
      body = body_keeps o.body.body n h.body;
      methods = methods_all (λ y. BodyKeepsRules y.body) (λ y. BodyKeepsRules y.body) (λ y m is. body_keeps y.body m is) k o.methods h.methods;
      initializers = subst (λ a. a ≤ 1) (sym (initials_same k o.methods)) h.initializers;
      active = h.active;
      priority = h.priority;
    }

module _ (p : Program) (n k i j : ℕ) where
  abbrev q : Program
  q = program_renumbered p n k i j

  variables_still : (vs : List Variable) → All (λ v. IsVariableType p v.of) vs → All (λ v. IsVariableType q v.of) vs
  variables_still vs h = All-weaker (λ (v : Variable). IsVariableType p v.of) (λ v. IsVariableType q v.of) (λ v is. record { there = is.there; closed = is.closed }) vs h

  result_still : (r : Option TType) → IsResult p r → IsResult q r
  result_still None h = h
  result_still (Some t) h = h

  procedure_still : (x : Procedure) (m : ℕ) → IsProcedure p x → IsProcedure q (procedure_renumbered m x)
  procedure_still x m h =
      record {
        parameters = h.parameters;
        locals = variables_still x.locals h.locals;
        result = result_still x.result h.result;
        body = stats_typed p n k i j (Some x) (body_renumbered m x.body) x.body.statements m h.body;
      }

  slots_still : (ms : List Method) (m : ℕ) (xs ys : List Procedure) → AreLike xs ys → AreSlots p xs ms → AreSlots q ys (methods_renumbered m ms)
  slots_still [] m xs ys like h = tt
  slots_still (x ∷ ms) m xs ys like h =
      let b = body_renumbered m x.procedure.body in
      (by h.0, slots_still ms (m + awaits x.procedure.body) (put_at xs (slot_of x)) (put_at ys (x.slot, record x.procedure { body = b })) (put_like xs ys x.slot x.procedure b like) h.1)
    where
      by : (x.slot ≡ length xs) ⊎ ((r : Procedure) × (slice_get xs x.slot ≡ Some r) × Overrides p x.procedure r)
          → (x.slot ≡ length ys) ⊎ ((r : Procedure) × (slice_get ys x.slot ≡ Some r) × Overrides q (procedure_renumbered m x.procedure) r)
      by (inl e) = inl (e ∙ sym (as_long xs ys like))
      by (inr e) = let found = like_at xs ys x.slot e.0 like e.1 in inr (record e.0 { body = found.0 }, found.1, e.2)

  tables_like : (b : Option ℕ) → AreLike (on_base (methods_of p) b) (on_base (methods_of q) b)
  tables_like None = refl
  tables_like (Some b) = methods_like p n k i j b

  object_still : (t a b : ℕ) (o : ObjectType) → IsObjectType p t o → IsObjectType q t (object_renumbered a b o)
  object_still t a b o h =
      record {
        body = procedure_still o.body a h.body;
        beside = beside_still t o.body a (row_of p.types (id_of (Named t))) h.beside;
        bare = h.bare;
        methods = methods_all (IsMethod p t) (IsMethod q t) (λ x m is. (procedure_still x m is.0, is.1, is.2)) b o.methods h.methods;
        slots = slots_still o.methods b (on_base (methods_of p) (base_type p t)) (on_base (methods_of q) (base_type p t)) (tables_like (base_type p t)) h.slots;
        others = by h.others;
      }
    where
      by : (is_object (row_of p.types (id_of (Named t))) ≡ true) ⊎ ((o.has_body ≡ false) × (o.methods ≡ []))
          → (is_object (row_of p.types (id_of (Named t))) ≡ true) ⊎ ((o.has_body ≡ false) × (methods_renumbered b o.methods ≡ []))
      by (inl e) = inl e
      by (inr e) = inr (e.0, ap (methods_renumbered b) e.1)

  objects_still : (t a b : ℕ) (os : List ObjectType) → AreObjectTypes p t os → AreObjectTypes q t (objects_renumbered a b os)
  objects_still t a b [] h = tt
  objects_still t a b (o ∷ os) h = (object_still t a b o h.0, objects_still (suc t) (a + awaits o.body.body) (b + awaits_in_methods o) os h.1)

  parts_still : HasTypedParts p → HasTypedParts q
  parts_still h =
      let many : length q.modules ≡ length p.modules = as_many_modules n k p.modules in
      let as_many : length q.objects ≡ length p.objects = as_many_objects i j p.objects in
      record {
        some = subst (λ m. 1 ≤ m) (sym many) h.some;
        few = subst (λ m. m ≤ 64) (sym many) h.few;
        names = modules_all (λ m. is_ident m.name ≡ true) (λ m. is_ident m.name ≡ true) (λ x a b is. is) n k p.modules h.names;
        differ = differ_still n k p.modules h.differ;
        bodies = modules_all (λ m. AreStatements p None m.body.statements) (λ m. AreStatements q None m.body.statements)
            (λ x a b is. stats_typed p n k i j None x.body x.body.statements a is) n k p.modules h.bodies;
        objects = objects_still 0 i j p.objects h.objects;
        homes = objects_all (λ o. o.home < length p.modules) (λ o. o.home < length q.modules) (λ o a b is. subst (λ m. o.home < m) (sym many) is) i j p.objects h.homes;
        types = h.types;
        texts = modules_all (λ m. All (λ t. All (λ c. c < 256) t) m.texts) (λ m. All (λ t. All (λ c. c < 256) t) m.texts) (λ x a b is. is) n k p.modules h.texts;
        predeclared = h.predeclared;
        beside = h.beside ∙ ap (λ m. m + predeclared_types) (sym as_many);
        variables = modules_all (λ m. All (λ v. IsVariableType p v.of) m.variables) (λ m. All (λ v. IsVariableType q v.of) m.variables)
            (λ x a b is. variables_still x.variables is) n k p.modules h.variables;
        few_scalars = modules_all (λ m. module_scalars p m ≤ MOST_SCALARS) (λ m. module_scalars q m ≤ MOST_SCALARS) (λ x a b is. is) n k p.modules h.few_scalars;
        procedures = modules_all (λ m. All (λ x. IsProcedure p x × (x.of ≡ None)) m.procedures) (λ m. All (λ x. IsProcedure q x × (x.of ≡ None)) m.procedures)
            (λ x a b is. procedures_all (λ y. IsProcedure p y × (y.of ≡ None)) (λ y. IsProcedure q y × (y.of ≡ None)) (λ y c fine. (procedure_still y c fine.0, fine.1)) b x.procedures is)
            n k p.modules h.procedures;
      }

  scalars_same : (a b : ℕ) (xs : List Module) → sum_by (module_scalars q) (modules_renumbered a b xs) ≡ sum_by (module_scalars p) xs
  scalars_same a b [] = refl
  scalars_same a b (x ∷ xs) =
      let a' : ℕ = a + awaits x.body in
      let b' : ℕ = b + awaits_in_procedures x in
      sum_by-cons (module_scalars q) (module_renumbered a b x) (modules_renumbered a' b' xs) ∙ ap (λ m. module_scalars p x + m) (scalars_same a' b' xs)
      ∙ sym (sum_by-cons (module_scalars p) x xs)

  rules_still : ProgramKeepsRules p → ProgramKeepsRules q
  rules_still h =
      record {
        modules = modules_all ModuleKeepsRules ModuleKeepsRules module_keeps n k p.modules h.modules;
        objects = objects_all ObjectKeepsRules ObjectKeepsRules object_keeps i j p.objects h.objects;
        rows = h.rows;
        scalars = subst (λ m. m ≤ MOST_SCALARS) (sym (scalars_same n k p.modules)) h.scalars;
      }

pub numbered_typed : (p : Program) → HasTypedParts p → ProgramKeepsRules p → IsWellTyped (numbered p)
numbered_typed p h rules =
    let beside : ℕ = sum_by (λ x. awaits x.body) p.modules in
    let procedures : ℕ = beside + sum_by (λ o. awaits o.body.body) p.objects in
    let methods : ℕ = procedures + sum_by awaits_in_procedures p.modules in
    record {
      parts = parts_still p 0 procedures beside methods h;
      conditions = numbers_in_order p;
      rules = rules_still p 0 procedures beside methods rules;
    }
