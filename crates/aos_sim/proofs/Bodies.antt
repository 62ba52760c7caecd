-- What an image has of each routine of a program: its code, which carries out the routine's statements, and its shape.
use Rattle.std.proofs.Common.{◌≡◌, ℕ, zero, suc, pos, ◌+◌, ◌<◌, length, List, [], ◌∷◌, ◌++◌, map, Option, Some, None, refl, sym, ap, ◌∙◌, arith, ◌≤◌}
use Rattle.std.specs.Prelude.{All, true, ◌&&◌, nat_lt, slice_get, option_map, option_and_then}
use Rattle.std.proofs.lemmas.List.Elements.{All-nil, All-cons, All-append, All-map, All-head, All-tail, All-weaker}
use Rattle.std.proofs.lemmas.Bool.{lt-ltb}
use Rattle.std.proofs.lemmas.Option.{slice_get-map, same_Some}
use Rattle.aos_base.specs.Rooted.{by_number}
use Rattle.aos_typed.specs.Numbers.{id_of}
use Rattle.aos_typed.specs.Program.{Procedure, Method, ObjectType, Module, Program}
use Rattle.aos_typed.specs.Methods.{slots, own_numbers, body_type, is_active}
use Rattle.aos_typed.specs.Routines.{Routine, result_of, routine_of, bodies_from, procedures_from, methods_from, routines}
use Rattle.aos_typed.specs.Conditions.{IsLinkedIn}
use Rattle.aos_typed.proofs.Conditions.{linked}
use Rattle.aos_typed.specs.Rules.{BodyKeepsRules, ModuleKeepsRules, ObjectKeepsRules}
use Rattle.aos_typed.specs.WellTyped.{AreStatements, IsProcedure, AreObjectTypes, IsWellTyped}
use Rattle.aos_layout.specs.Layout.{kind_of}
use Rattle.aos_layout.specs.Seen.{seen_shape}
use Rattle.aos_code.specs.declared.image.Body.{Body}
use Rattle.aos_code.specs.declared.image.Image.{Image}
use Rattle.aos_code.specs.declared.image.ProcShape.{ProcShape}
use Rattle.aos_code.specs.declared.instr.Cell.TheVariants.{Num}
use Rattle.aos_code.specs.Numbered.{numbered}
use Rattle.aos_code.specs.Silent.{keeps_in, method_at}
use Rattle.aos_code.specs.Machine.{home_in, code_in_body, code_of, has_active_body}
use Rattle.aos_sim.specs.Code.{body_code}
use Rattle.aos_sim.specs.Need.{keeps_of}
use Rattle.aos_sim.specs.Shows.{shape_of, made_kinds, body_in, active_in, IsCodeOf}
use Rattle.aos_typed.specs.Numbers.{id_of_made, predeclared_types}
use Rattle.aos_code.specs.declared.image.TypeDesc.{TypeDesc}
use Rattle.std.specs.List.{range_with_len}
use Rattle.aos_sim.proofs.First.{all_get}
use Rattle.aos_sim.proofs.Runs.{Tables, tables_of}
use Rattle.aos_sim.proofs.Does.{HasTypes, HasShapes}
use Rattle.aos_sim.proofs.Extends.{extends_alike}
use Rattle.aos_sim.proofs.Carries.{IsOwn}
use Rattle.aos_sim.proofs.Stats.{body_goes}
use Rattle.aos_sim.proofs.States.{RoutinesRun}
use Rattle.aos_sim.proofs.Typed.{few_of}

-- what stands at a place of one list, where another has alike at it
pub alike_at : {A B X : Type 0} (f : A → X) (g : B → X) (xs : List A) (ys : List B) → map f xs ≡ map g ys → (k : ℕ) (y : B) → slice_get ys k ≡ Some y → (x : A) × (slice_get xs k ≡ Some x) × (f x ≡ g y)
alike_at {A = A} f g xs ys same k y e =
    by (slice_get xs k) refl (sym (slice_get-map f xs k) ∙ ap (λ l. slice_get l k) same ∙ slice_get-map g ys k ∙ ap (option_map g) e)
  where
    by : (o : Option A) → slice_get xs k ≡ o → option_map f o ≡ Some (g y) → (x : A) × (slice_get xs k ≡ Some x) × (f x ≡ g y)
    by None there h = absurd (cc)
    by (Some x) there h = (x, there, cc)

pub range_get : (n from k : ℕ) → k < n → slice_get (range_with_len from n) k ≡ Some (k + from)
range_get zero from k l = absurd (omega (arith, l))
range_get (suc n) from zero l = let e : from ≡ 0 + from = omega arith in ap (λ m. Some m) e
range_get (suc n) from (suc k) l = let e : k + (from + 1) ≡ suc k + from = omega arith in range_get n (from + 1) k (omega (arith, l)) ∙ ap (λ m. Some m) e

pub range_past : (n from k : ℕ) → n ≤ k → slice_get (range_with_len from n) k ≡ None
range_past zero from k l = refl
range_past (suc n) from zero l = absurd (omega (arith, l))
range_past (suc n) from (suc k) l = range_past n (from + 1) k (omega (arith, l))

-- what a shape says of a routine

module _ (p : Program) (tables : Tables) (shaped : HasShapes p tables) (number : ℕ) (r : Routine) (there : by_number number (routines p) ≡ Some r) where
  pub own_known : IsOwn p r.own tables number
  own_known = let x = shaped.shapes number r there in (x.0, x.1, ap (λ z. z.result) x.2 ∙ by r.own)
    where
      by : (own : Option Procedure) → (shape_of p.types (record { home = r.home; own = own; body = r.body })).result ≡ option_map (λ t. kind_of p.types (id_of t)) (result_of own)
      by None = refl
      by (Some q) = refl

  pub home_known : home_in (numbered tables.procedures number) ≡ r.home
  home_known = let x = shaped.shapes number r there in ap home_in x.1 ∙ ap (λ z. z.module_) x.2 ∙ by r.own
    where
      by : (own : Option Procedure) → (shape_of p.types (record { home = r.home; own = own; body = r.body })).module_ ≡ r.home
      by None = refl
      by (Some q) = refl

  pub keeps_known : keeps_in (numbered tables.procedures number) ≡ keeps_of r.body.statements
  keeps_known = let x = shaped.shapes number r there in ap keeps_in x.1 ∙ ap (λ z. z.keeps) x.2 ∙ by r.own
    where
      by : (own : Option Procedure) → (shape_of p.types (record { home = r.home; own = own; body = r.body })).keeps ≡ keeps_of r.body.statements
      by None = refl
      by (Some q) = refl

module _ (p : Program) where
  -- the statements of each routine are well typed, and its body keeps the rules
  abbrev IsTyped : Routine → Type 0
  IsTyped r = AreStatements p r.own r.body.statements

  abbrev IsKept : Routine → Type 0
  IsKept r = BodyKeepsRules r.body

  abbrev IsWhole : Routine → Type 0
  IsWhole r = IsTyped r × IsKept r

  bodies_whole : (m : ℕ) (xs : List Module) → All (λ x. AreStatements p None x.body.statements) xs → All ModuleKeepsRules xs → All IsWhole (bodies_from m xs)
  bodies_whole m [] h k = All-nil IsWhole
  bodies_whole m (x ∷ xs) h k =
      let P : Module → Type 0 = λ x. AreStatements p None x.body.statements in
      All-cons IsWhole (record { home = m; own = None; body = x.body }) (bodies_from (suc m) xs) (All-head P x xs h, (All-head ModuleKeepsRules x xs k).body)
      (bodies_whole (suc m) xs (All-tail P x xs h) (All-tail ModuleKeepsRules x xs k))

  abbrev IsPlainly : Procedure → Type 0
  IsPlainly q = IsProcedure p q × (q.of ≡ None)

  procedures_whole : (m : ℕ) (xs : List Module) → All (λ x. All IsPlainly x.procedures) xs → All ModuleKeepsRules xs → All IsWhole (procedures_from m xs)
  procedures_whole m [] h k = All-nil IsWhole
  procedures_whole m (x ∷ xs) h k =
      let P : Module → Type 0 = λ x. All IsPlainly x.procedures in
      let of : Procedure → Routine = routine_of m in
      let typed = All-head P x xs h in
      let kept = (All-head ModuleKeepsRules x xs k).procedures in
      All-append IsWhole (map of x.procedures) (procedures_from (suc m) xs) (All-map IsWhole of x.procedures (λ i q lt. ((typed i q lt).0.body, kept i q lt)))
      (procedures_whole (suc m) xs (All-tail P x xs h) (All-tail ModuleKeepsRules x xs k))

  abbrev of_object : ObjectType → Routine
  of_object o = routine_of o.home o.body

  objects_whole : (t : ℕ) (os : List ObjectType) → AreObjectTypes p t os → All ObjectKeepsRules os → All IsWhole (map of_object os)
  objects_whole t [] h k = All-nil IsWhole
  objects_whole t (o ∷ os) h k =
      All-cons IsWhole (of_object o) (map of_object os) (h.0.body.body, (All-head ObjectKeepsRules o os k).body) (objects_whole (suc t) os h.1 (All-tail ObjectKeepsRules o os k))

  methods_whole : (t : ℕ) (os : List ObjectType) → AreObjectTypes p t os → All ObjectKeepsRules os → All IsWhole (methods_from os)
  methods_whole t [] h k = All-nil IsWhole
  methods_whole t (o ∷ os) h k =
      let of : Method → Routine = λ m. routine_of o.home m.procedure in
      let kept = (All-head ObjectKeepsRules o os k).methods in
      All-append IsWhole (map of o.methods) (methods_from os) (All-map IsWhole of o.methods (λ i m lt. ((h.0.methods i m lt).0.body, kept i m lt)))
      (methods_whole (suc t) os h.1 (All-tail ObjectKeepsRules o os k))

  routines_whole : IsWellTyped p → All IsWhole (routines p)
  routines_whole well =
      let others = procedures_from 0 p.modules ++ methods_from p.objects in
      let modules = well.rules.modules in
      let objects = well.rules.objects in
      All-append IsWhole (bodies_from 0 p.modules) (map of_object p.objects ++ others) (bodies_whole 0 p.modules well.parts.bodies modules)
      (All-append IsWhole (map of_object p.objects) others (objects_whole 0 p.objects well.parts.objects objects)
      (All-append IsWhole (procedures_from 0 p.modules) (methods_from p.objects) (procedures_whole 0 p.modules well.parts.procedures modules) (methods_whole 0 p.objects well.parts.objects objects)))

  pub routines_typed : IsWellTyped p → All IsTyped (routines p)
  routines_typed well = All-weaker IsWhole IsTyped (λ r is. is.0) (routines p) (routines_whole well)

  routines_kept : IsWellTyped p → All IsKept (routines p)
  routines_kept well = All-weaker IsWhole IsKept (λ r is. is.1) (routines p) (routines_whole well)

  module _ (image : Image) (ok : IsCodeOf p image) where
    routine_shapes : (q : ℕ) (r : Routine) → by_number q (routines p) ≡ Some r → (x : ProcShape) × (numbered image.shapes.items q ≡ Some x) × (seen_shape x ≡ shape_of p.types r)
    routine_shapes zero r e = absurd (cc)
    routine_shapes (suc k) r e = alike_at seen_shape (shape_of p.types) image.shapes.items (routines p) ok.shapes k r e

    kinds_there : (k : ℕ) → k < length p.objects → (d : TypeDesc) × (numbered image.types.items (suc k) ≡ Some d) × (d.kinds.items ≡ made_kinds p.types (id_of_made (suc k)))
    kinds_there k l =
        let r = alike_at (λ (t : TypeDesc). t.kinds.items) (λ k. made_kinds p.types (record { 0 = k })) image.types.items (range_with_len predeclared_types (length p.objects)) ok.kinds k (k + predeclared_types) (range_get (length p.objects) predeclared_types k l) in
        (r.0, r.1, r.2)

    methods_there : (t k n : ℕ) → t < length p.objects → slice_get (slots p (own_numbers p) t) k ≡ Some n → method_at image.types.items (suc t) k ≡ Some n
    methods_there t k n l e =
        let r = alike_at (λ (t : TypeDesc). t.methods.items) (λ k. slots p (own_numbers p) k) image.types.items (range_with_len 0 (length p.objects)) ok.methods t (t + 0) (range_get (length p.objects) 0 t l) in
        let none : t + 0 ≡ t = omega arith in
        ap (option_and_then (λ (d : TypeDesc). slice_get d.methods.items k)) r.1 ∙ ap (λ l. slice_get l k) (r.2 ∙ ap (slots p (own_numbers p)) none) ∙ e

    -- a type whose objects have an active body has one in the image
    starts_there : HasTypes p → (t b : ℕ) → body_type p t ≡ Some b → is_active p b ≡ true → has_active_body (numbered image.types.items (suc t)) ≡ true
    starts_there typed t b is active =
        let types = range_with_len 0 (length p.objects) in
        let at = range_get (length p.objects) 0 t (typed.methods.bodies t b is).below in
        let none : t + 0 ≡ t = omega arith in
        let body = alike_at (λ (d : TypeDesc). d.body) (λ k. body_in p (body_type p k)) image.types.items types ok.types t (t + 0) at in
        let act = alike_at (λ (d : TypeDesc). d.active) (λ k. active_in p (body_type p k)) image.types.items types ok.actives t (t + 0) at in
        let same : body.0 ≡ act.0 = same_Some body.0 act.0 (sym body.1 ∙ act.1) in
        let some : body.0.body ≡ suc (length p.modules + b) = body.2 ∙ ap (λ k. body_in p (body_type p k)) none ∙ ap (body_in p) is in
        let goes : body.0.active ≡ true = ap (λ (d : TypeDesc). d.active) same ∙ act.2 ∙ ap (λ k. active_in p (body_type p k)) none ∙ ap (active_in p) is ∙ active in
        ap has_active_body body.1 ∙ ap (λ c. c && nat_lt 0 body.0.body) goes ∙ lt-ltb 0 body.0.body (omega (arith, some))

    pub has_shapes : HasTypes p → HasShapes p (tables_of p image)
    has_shapes typed =
        record {
          shapes = routine_shapes;
          kinds = λ k l. kinds_there k l;
          methods = methods_there;
          few = few_of p image.bodies.items image.conds.items image.shapes.items image.modules.items image.types.items ok;
          extend = λ d t. extends_alike p typed image.types.items ok.bases d t;
          dimensions = λ t. refl;
          starts = starts_there typed;
        }

    pub routines_run : IsWellTyped p → HasShapes p (tables_of p image) → RoutinesRun p image
    routines_run well has zero r e = absurd (cc)
    routines_run well has (suc k) r e =
        let b = alike_at (λ (b : Body). b.code.items) (λ r. body_code p r.own r.body) image.bodies.items (routines p) ok.bodies k r e in
        let keeps = keeps_known p (tables_of p image) has (suc k) r e in (
          all_get IsKept (routines p) k r (routines_kept well) e,
          λ here.
              body_goes p r.own (tables_of p image) (suc k) here (code_of image (suc k)) r.body (λ c. Num (pos 0)) (all_get IsTyped (routines p) k r (routines_typed well) e) r.home
              (all_get (IsLinkedIn p) (routines p) k r (linked p well.conditions) e) (omega (arith, keeps)) (ap code_in_body b.1 ∙ b.2),
        )
