-- What is called is the procedure that its signature tells: that of a module, a method of an object, or the one that a method overrides.
use Rattle.std.proofs.Common.{◌≡◌, ℕ, zero, suc, ◌<◌, ◌==◌, List, length, Bool, true, false, ◌||◌, Option, Some, None, option_map, option_and_then, if◌then◌else◌, refl, sym, ap, ◌∙◌, subst, eq-eqb, arith}
use Rattle.std.proofs.lemmas.Option.{none-some, same_Some, slice_get_within}
use Rattle.aos_tree.specs.declared.name.Name.{Name}
use Rattle.aos_types.specs.declared.row.TypeId.{TypeId}
use Rattle.aos_types.specs.declared.row.TypeRow.{TypeRow}
use Rattle.aos_types.specs.declared.row.TypeRow.TheVariants as row
use Rattle.aos_types.specs.Table.{row_of, is_object, base_of}
use Rattle.aos_types.specs.Extension.{comes_by, comes_to, on_base}
use Rattle.aos_types.proofs.Steps.{comes_here}
use Rattle.aos_typed.specs.declared.tree.TType.TheVariants as type
use Rattle.aos_typed.specs.Numbers.{id_of}
use Rattle.aos_typed.specs.Formals.{pattern_of}
use Rattle.aos_typed.specs.Program.{Callee, Dispatched, Upper, Through, Expr, SelfRef, Procedure}
use Rattle.aos_types.specs.declared.signature.Signature.{Signature}
use Rattle.aos_members.specs.declared.objects.Method.{Method}
use Rattle.aos_symbols.specs.declared.env.Env.{Env}
use Rattle.aos_members.specs.Members as members
use Rattle.aos_known.proofs.Inside.{Inside, IsOf, IsCalled}
use Rattle.aos_known.specs.Known.{object_number, type_as}
use Rattle.aos_known.proofs.Types.{not_both, id_above}
use Rattle.aos_designators.specs.declared.designators.Head.{Head}
use Rattle.aos_bound.specs.declared.methods.Heading.{Heading}
use Rattle.aos_bound.specs.declared.methods.Heading.TheVariants as heading
use Rattle.aos_bound.specs.Methods.{Bound}
use Rattle.aos_check_expr.specs.Expressions.{signature_of}
use Rattle.aos_check_expr.specs.Expressions as judge
use Rattle.aos_check_expr.proofs.Whole.{IsSigned, IsWhole}
use Rattle.aos_check_expr.proofs.Callable.{signature_row, procedural_named, pattern_signed}
use Rattle.aos_check_expr.proofs.Selves.{object_made, object_named, object_there, self_typed}

abbrev pub IsCalling : Inside → Env → Callee → Heading → Type 0
IsCalling p e c h = (s : Signature) → signature_of e h ≡ Some s → (q : Procedure) × IsCalled p c q × IsSigned e s q

-- of what waits for its bracket
abbrev pub IsBound : Inside → Env → Bound → Type 0
IsBound p e b = IsWhole p e → IsCalling p e b.callee b.heading

-- what is found by steps
pub and_then_some : {A B : Type 0} (f : A → Option B) (o : Option A) (b : B) → option_and_then f o ≡ Some b → (a : A) × (o ≡ Some a) × (f a ≡ Some b)
and_then_some f None b is = absurd (none-some b is)
and_then_some f (Some a) b is = (a, refl, is)

map_some : {A B : Type 0} (f : A → B) (o : Option A) (b : B) → option_map f o ≡ Some b → (a : A) × (o ≡ Some a) × (f a ≡ b)
map_some f None b is = absurd (none-some b is)
map_some f (Some a) b is = (a, refl, same_Some (f a) b is)

pub if_some : {A : Type 0} (c : Bool) (o : Option A) (b : A) → (if c then o else None) ≡ Some b → (c ≡ true) × (o ≡ Some b)
if_some true o b is = (refl, is)
if_some false o b is = absurd (none-some b is)

-- a type comes to its base
comes_base : (n : ℕ) (rows : List TypeRow) (t b : TypeId) → 0 < n → base_of (row_of rows t) ≡ Some b → comes_by n rows t b ≡ true
comes_base zero rows t b some is = absurd (omega (arith, some))
comes_base (suc n) rows t b some is = right (t.0 == b.0) _ (ap (on_base (λ c. comes_by n rows c b)) is ∙ comes_here n rows b b (eq-eqb b.0 b.0 refl))
  where
    right : (x y : Bool) → y ≡ true → (x || y) ≡ true
    right true y h = refl
    right false y h = h

module _ (p : Inside) (e : Env) (whole : IsWhole p e) where
  pub dispatched_calling : (t : TypeId) (x : Expr) (m : Method) (n : Name) → IsOf p x (type_as t) → is_object (row_of e.types t) ≡ true → members.method e t n ≡ Some m →
      IsCalling p e (Dispatched x (object_number t) m.slot) (heading.Declared m.home m.number)
  dispatched_calling t x m n typed object found s is =
      let q = whole.methods t n m found object s is in
      let named = object_named p e whole t object in (
        q.0,
        (
          subst (IsOf p x) named typed,
          subst (λ T. is_object (row_of p.program.types (id_of T)) ≡ true) named (object_there p e whole t object),
          q.1,
        ),
        q.2,
      )

  -- the base of an object type is one
  base_object : (t b : TypeId) → is_object (row_of e.types t) ≡ true → base_of (row_of e.types t) ≡ Some b →
      (is_object (row_of e.types b) ≡ true) × (comes_to e.types t b ≡ true)
  base_object t b object is = by (row_of e.types t) refl object is
    where
      by : (o : Option TypeRow) → row_of e.types t ≡ o → is_object o ≡ true → base_of o ≡ Some b → (is_object (row_of e.types b) ≡ true) × (comes_to e.types t b ≡ true)
      by (Some (row.Object (Some c) fs)) there kind is =
          let below = slice_get_within e.types t.0 (row.Object (Some c) fs) there in (
            subst (λ d. is_object (row_of e.types d) ≡ true) (same_Some c b is) (whole.parts t.0 (row.Object (Some c) fs) there).0,
            comes_base (length e.types) e.types t b (omega (arith, below)) (ap base_of there ∙ is),
          )
      by (Some (row.Object None fs)) there kind is = absurd (none-some b is)
      by o there kind is = absurd (not_both (sym kind))

  upper_calling : (t b : TypeId) (m : Method) (n : Name) → e.self_type ≡ Some t → base_of (row_of e.types t) ≡ Some b → members.method e b n ≡ Some m →
      IsCalling p e (Upper (object_number b) m.slot) (heading.Declared m.home m.number)
  upper_calling t b m n itself above found s is =
      let two = whole.itself t itself in
      let base = base_object t b two.1 above in
      let q = whole.methods b n m found base.0 s is in
      (q.0, (object_number t, two.0, comes base, q.1), q.2)
    where
      id : (u : TypeId) → is_object (row_of e.types u) ≡ true → id_of (type.Named (object_number u)) ≡ u
      id u object =
          let made = object_made p e whole u object in
          let high = made.0 in
          ap id_of (sym (object_named p e whole u object)) ∙ id_above u high

      comes : (is_object (row_of e.types b) ≡ true) × (comes_to e.types t b ≡ true) →
          comes_to p.program.types (id_of (type.Named (object_number t))) (id_of (type.Named (object_number b))) ≡ true
      comes base =
          ap (λ rows. comes_to rows (id_of (type.Named (object_number t))) (id_of (type.Named (object_number b)))) whole.rows
          ∙ ap (λ u. comes_to e.types u (id_of (type.Named (object_number b)))) (id t (whole.itself t itself).1)
          ∙ ap (comes_to e.types t) (id b base.0)
          ∙ base.1

  -- what a value of a procedure type stands for
  pub through_calling : (t : TypeId) (x : Expr) → IsOf p x (type_as t) → IsCalling p e (Through x (object_number t)) (heading.OfType t)
  through_calling t x typed s is =
      let h = signature_row (row_of e.types t) s is in
      let q = pattern_signed p e whole t h.0 h.1 h.2 in
      let named = procedural_named p e whole t h.0 h.1 h.2 in
      (q.0, (subst (IsOf p x) named typed, ap (pattern_of p.program) (sym named) ∙ q.1), subst (λ (s : Signature). IsSigned e s q.0) h.3 q.2)

  -- a method by its plain name
  pub own_calling : (h : Head) (b : Bound) → judge.own_method e h ≡ Some b → IsCalling p e b.callee b.heading
  own_calling h b found =
      let one = if_some (judge.is_method h.found) (option_and_then (λ t. judge.method_on e t h) e.self_type) b found in
      let two = and_then_some (λ t. judge.method_on e t h) e.self_type b one.1 in
      let m = map_some (judge.dispatched h.first SelfRef two.0) (members.method e two.0 h.name) b two.2 in
      subst (λ (c : Bound). IsCalling p e c.callee c.heading) m.2
      (dispatched_calling two.0 SelfRef m.0 h.name (self_typed p e whole two.0 two.1) (whole.itself two.0 two.1).1 m.1)

  -- and the one that it overrides
  pub raised_calling : (h : Head) (b : Bound) → judge.upper_here e h ≡ Some b → IsCalling p e b.callee b.heading
  raised_calling h b found =
      let one = and_then_some (λ t. judge.upper_of e h t) e.self_type b found in
      let t = one.0 in
      let above = λ (c : TypeId). option_map (judge.upper_method h.first c) (members.method e c h.name) in
      let two = if_some (judge.declares t (members.method e t h.name)) (option_and_then above (base_of (row_of e.types t))) b one.2 in
      let up = and_then_some above (base_of (row_of e.types t)) b two.1 in
      let m = map_some (judge.upper_method h.first up.0) (members.method e up.0 h.name) b up.2 in
      subst (λ (c : Bound). IsCalling p e c.callee c.heading) m.2 (upper_calling t up.0 m.0 h.name one.1 up.1 m.1)
