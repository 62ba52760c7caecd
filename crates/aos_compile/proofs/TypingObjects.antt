-- What stands beside the types of modules that break no rule: bodies with nothing of their own, which the objects of each object type
-- carry out, and methods.
use Rattle.std.proofs.Common.{◌≡◌, ℕ, zero, suc, ◌+◌, ◌<◌, ◌≤◌, ◌⊎◌, inl, inr, List, [], ◌∷◌, ◌++◌, length, map, true, false, All, Some, None, slice_get, refl, sym, ap, ◌∙◌, subst, arith}
use Rattle.std.proofs.lemmas.Option.{none-some, same_Some, slice_get_within}
use Rattle.aos_types.specs.declared.row.TypeRow.{TypeRow}
use Rattle.aos_types.specs.Table.{row_of, is_object}
use Rattle.aos_typed.specs.declared.tree.TType.TheVariants.{Named}
use Rattle.aos_typed.specs.Numbers.{id_of}
use Rattle.aos_typed.specs.Program.{Body, Procedure as TypedProcedure, Method, ObjectType, Program}
use Rattle.aos_typed.specs.Methods.{methods_of, on_base, base_type}
use Rattle.aos_typed.specs.WellTyped.{AreStatements, IsProcedure, IsMethod, AreSlots, IsBeside as IsBesideRow, IsObjectType, AreObjectTypes}
use Rattle.aos_symbols.specs.declared.env.Env.{Env}
use Rattle.aos_symbols.proofs.Each.{Each, all_of, implied}
use Rattle.aos_check_decl.proofs.Typing.{AreReady}
use Rattle.aos_compile.specs.Modules.{Beside, object_procedure, body_beside, method_beside, object_of, objects_from}
use Rattle.aos_compile.proofs.TypingPatterns.{beside_typed, beside_is}
use Rattle.aos_compile.proofs.TypingPrograms.{HaveTypes, Grows}
use Rattle.aos_compile.proofs.TypingProcedures.{procedure_grows}
use Rattle.aos_compile.proofs.TypingTypes.{RowsStay}

-- what is no object type has neither a body nor methods
abbrev pub IsObjectOrBare : Program → ℕ → ObjectType → Type 0
IsObjectOrBare p k o = (is_object (row_of p.types (id_of (Named k))) ≡ true) ⊎ ((o.has_body ≡ false) × (o.methods ≡ []))

-- a method of the type with a number
abbrev pub IsMethodOf : Program → ℕ → Method → Type 0
IsMethodOf p k m = IsMethod p k m.procedure

-- the body beside the type with this number
abbrev pub IsShaped : List TypeRow → ℕ → ObjectType → Type 0
IsShaped types k o = (body : Body) × (o.body ≡ body_beside (row_of types (id_of (Named k))) k body)

-- what stands beside the type with this number
pub record IsBeside (p : Program) (k : ℕ) (o : ObjectType) : Type 0 where
  pub typed : IsProcedure p o.body
  pub methods : Each (IsMethodOf p k) o.methods
  pub others : IsObjectOrBare p k o
  pub home : o.home < length p.modules

-- what a module says beside it
pub record IsSaidBeside (p : Program) (k : ℕ) (x : Beside) : Type 0 where
  pub typed : AreStatements p (Some (object_procedure k x.body)) x.body.statements
  pub methods : Each (λ m. IsProcedure p (method_beside k m).procedure × (m.procedure.is_initializer ≡ true → m.procedure.result ≡ None)) x.methods
  pub others : (is_object (row_of p.types (id_of (Named k))) ≡ true) ⊎ ((x.has_body ≡ false) × (x.methods ≡ []))

-- a fact of each element with its number, of a list behind another one
pub behind : {X : Type 0} (xs ys : List X) (P : ℕ → X → Type 0) → ((k : ℕ) (x : X) → slice_get xs k ≡ Some x → P k x) →
    ((j : ℕ) (x : X) → slice_get ys j ≡ Some x → P (length xs + j) x) → (k : ℕ) (x : X) → slice_get (xs ++ ys) k ≡ Some x → P k x
behind [] ys P first more k x there = subst (λ n. P n x) (let same : 0 + k ≡ k = omega arith in same) (more k x there)
behind (a ∷ xs) ys P first more zero x there = first zero x there
behind (a ∷ xs) ys P first more (suc k) x there =
    behind xs ys (λ n. P (suc n)) (λ n y at. first (suc n) y at)
    (λ j y at. subst (λ n. P n y) (let same : suc (length xs) + j ≡ suc (length xs + j) = omega arith in same) (more j y at)) k x there

-- One module's.

pub object_at : (e : Env) (n : ℕ) (xs : List Beside) (j : ℕ) (o : ObjectType) → slice_get (objects_from e n xs) j ≡ Some o →
    (x : Beside) × (slice_get xs j ≡ Some x) × (o ≡ object_of e (n + j) x)
object_at e n [] j o there = absurd (none-some o there)
object_at e n (x ∷ xs) zero o there =
    (x, refl, sym (same_Some (object_of e n x) o there) ∙ ap (λ k. object_of e k x) (let same : n ≡ n + 0 = omega arith in same))
object_at e n (x ∷ xs) (suc j) o there =
    let one = object_at e (suc n) xs j o there in
    (one.0, one.1, one.2 ∙ ap (λ k. object_of e k one.0) (let same : suc n + j ≡ n + suc j = omega arith in same))

methods_beside : (p : Program) (k : ℕ) (ms : List Method) → Each (λ m. IsProcedure p (method_beside k m).procedure × (m.procedure.is_initializer ≡ true → m.procedure.result ≡ None)) ms →
    Each (IsMethodOf p k) (map (method_beside k) ms)
methods_beside p k [] each = tt
methods_beside p k (m ∷ ms) each = ((each.0.0, refl, each.0.1), methods_beside p k ms each.1)

pub shapes_new : (e : Env) (xs : List Beside) (n j : ℕ) (o : ObjectType) → slice_get (objects_from e n xs) j ≡ Some o → IsShaped e.types (n + j) o
shapes_new e xs n j o there = let one = object_at e n xs j o there in (one.0.body, ap (λ (z : ObjectType). z.body) one.2)

pub beside_new : (p : Program) (e : Env) → AreReady p.types → p.types ≡ e.types → e.number < length p.modules → (xs : List Beside) (n : ℕ) →
    ((j : ℕ) (x : Beside) → slice_get xs j ≡ Some x → IsSaidBeside p (n + j) x) →
    (j : ℕ) (o : ObjectType) → slice_get (objects_from e n xs) j ≡ Some o → IsBeside p (n + j) o
beside_new p e table same home xs n said j o there =
    let one = object_at e n xs j o there in
    let x = said j one.0 one.1 in
    subst (IsBeside p (n + j)) (sym one.2) (record {
      typed =
          subst (λ rows. IsProcedure p (body_beside (row_of rows (id_of (Named (n + j)))) (n + j) one.0.body)) same
          (beside_typed p table (n + j) one.0.body x.typed);
      methods = methods_beside p (n + j) one.0.methods x.methods;
      others = by (n + j) one.0 x.others;
      home = home;
    })
  where
    by : (k : ℕ) (x : Beside) → (is_object (row_of p.types (id_of (Named k))) ≡ true) ⊎ ((x.has_body ≡ false) × (x.methods ≡ [])) → IsObjectOrBare p k (object_of e k x)
    by k x (inl is) = inl is
    by k x (inr bare) = inr (bare.0, ap (map (method_beside k)) bare.1)

-- Those of all modules.

pub beside_grows : (p q : Program) → Grows p q → length p.types ≡ 10 + length p.objects → length p.modules ≤ length q.modules → (k : ℕ) (o : ObjectType) →
    slice_get p.objects k ≡ Some o → IsBeside p k o → IsBeside q k o
beside_grows p q grows count more k o there h = record {
  typed = procedure_grows p q grows o.body h.typed;
  methods = implied (IsMethodOf p k) (IsMethodOf q k) (λ m is. (procedure_grows p q grows m.procedure is.0, is.1, is.2)) o.methods h.methods;
  others = by h.others;
  home = let low = h.home in omega (arith, low, more);
}
  where
    by : IsObjectOrBare p k o → IsObjectOrBare q k o
    by (inl is) = inl (ap is_object (grows.rows (id_of (Named k)).0 (let below = slice_get_within p.objects k o there in omega (arith, below, count))) ∙ is)
    by (inr bare) = inr bare

pub shape_grows : (ts us : List TypeRow) → RowsStay ts us → (k : ℕ) (o : ObjectType) → (id_of (Named k)).0 < length ts → IsShaped ts k o → IsShaped us k o
shape_grows ts us stay k o below h = (h.0, h.1 ∙ ap (λ r. body_beside r k h.0) (sym (stay (id_of (Named k)).0 below)))

-- the types of their parameters are there
pub methods_typed : (p : Program) (k : ℕ) (o : ObjectType) → IsBeside p k o → Each (λ m. HaveTypes p m.procedure.parameters) o.methods
methods_typed p k o h = implied (IsMethodOf p k) (λ m. HaveTypes p m.procedure.parameters) (λ m is. is.0.parameters) o.methods h.methods

module _ (p : Program) (table : AreReady p.types) where
  object_type : (k : ℕ) (o : ObjectType) → IsBeside p k o → IsShaped p.types k o → AreSlots p (on_base (methods_of p) (base_type p k)) o.methods → IsObjectType p k o
  object_type k o h shape slots = record {
    body = h.typed;
    beside = subst (λ (z : TypedProcedure). IsBesideRow k z (row_of p.types (id_of (Named k)))) (sym shape.1) (beside_is p table k shape.0).0;
    bare = ap (λ (z : TypedProcedure). z.locals) shape.1 ∙ (beside_is p table k shape.0).1;
    methods = all_of (IsMethodOf p k) o.methods h.methods;
    slots = slots;
    others = h.others;
  }

  -- each method in its slot
  abbrev pub HasItsSlots : ℕ → ObjectType → Type 0
  HasItsSlots k o = AreSlots p (on_base (methods_of p) (base_type p k)) o.methods

  abbrev IsWhole : ℕ → ObjectType → Type 0
  IsWhole k o = IsBeside p k o × IsShaped p.types k o × HasItsSlots k o

  are_types : (k : ℕ) (os : List ObjectType) → ((j : ℕ) (o : ObjectType) → slice_get os j ≡ Some o → IsWhole (k + j) o) → AreObjectTypes p k os
  are_types k [] each = tt
  are_types k (o ∷ os) each =
      let first = subst (λ n. IsWhole n o) (let same : k + 0 ≡ k = omega arith in same) (each 0 o refl) in (
        object_type k o first.0 first.1 first.2,
        are_types (suc k) os (λ j x at. subst (λ n. IsWhole n x) (let same : k + suc j ≡ suc k + j = omega arith in same) (each (suc j) x at)),
      )

  have_homes : (os : List ObjectType) → ((j : ℕ) (o : ObjectType) → slice_get os j ≡ Some o → o.home < length p.modules) → Each (λ o. o.home < length p.modules) os
  have_homes [] each = tt
  have_homes (o ∷ os) each = (each 0 o refl, have_homes os (λ j x at. each (suc j) x at))

  module _ (each : (k : ℕ) (o : ObjectType) → slice_get p.objects k ≡ Some o → IsBeside p k o) where
    pub object_types : ((k : ℕ) (o : ObjectType) → slice_get p.objects k ≡ Some o → IsShaped p.types k o) →
        ((k : ℕ) (o : ObjectType) → slice_get p.objects k ≡ Some o → HasItsSlots k o) → AreObjectTypes p 0 p.objects
    object_types shapes slots =
        are_types 0 p.objects (λ j o at. subst (λ n. IsWhole n o) (let same : j ≡ 0 + j = omega arith in same) (each j o at, shapes j o at, slots j o at))

    pub object_homes : All (λ o. o.home < length p.modules) p.objects
    object_homes = all_of (λ (o : ObjectType). o.home < length p.modules) p.objects (have_homes p.objects (λ j o at. (each j o at).home))
