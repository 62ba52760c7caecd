-- SELF, and the fields of objects, in an environment of bodies.
use Rattle.std.proofs.Common.{◌≡◌, ℕ, ◌≤◌, List, Bool, true, false, ◌||◌, ◌⊎◌, inl, inr, Option, Some, refl, sym, ap, ap₂, ◌∙◌, subst, le-ltb, arith}
use Rattle.std.proofs.lemmas.Bool.{and_parts}
use Rattle.aos_types.specs.declared.row.TypeId.{TypeId}
use Rattle.aos_types.specs.declared.row.TypeRow.{TypeRow}
use Rattle.aos_types.specs.declared.row.TypeRow.TheVariants as row
use Rattle.aos_types.specs.Table.{row_of, is_object}
use Rattle.aos_typed.specs.declared.tree.TType.{TType}
use Rattle.aos_typed.specs.declared.tree.TType.TheVariants as type
use Rattle.aos_typed.specs.Numbers.{id_of}
use Rattle.aos_typed.specs.Program.{Deref, Expr, SelfRef}
use Rattle.aos_typed.specs.Program.{Field as FieldOf}
use Rattle.aos_typed.specs.WellTyped.{FitsObject, field_type}
use Rattle.aos_symbols.specs.declared.scope.Entry.{Entry}
use Rattle.aos_symbols.specs.declared.scope.Meaning.TheVariants as means
use Rattle.aos_symbols.specs.declared.env.Open.{Open}
use Rattle.aos_symbols.specs.declared.env.Env.{Env}
use Rattle.aos_symbols.specs.Scope.{Scope, find}
use Rattle.aos_members.specs.Members as members
use Rattle.aos_symbols.specs.Env as env
use Rattle.aos_symbols.specs.Env.{nil}
use Rattle.aos_symbols.proofs.Told.{IsTold}
use Rattle.aos_known.proofs.Inside.{Inside, IsOf}
use Rattle.aos_known.specs.Known.{is_basic, is_of_any, object_number, type_as}
use Rattle.aos_known.proofs.Types.{not_both, as_named, id_as, id_above}
use Rattle.aos_operators.proofs.Sound.{IsObject}
use Rattle.aos_designators.specs.Designators as desig
use Rattle.aos_check_expr.proofs.Whole.{IsTyped, closed, IsFieldScope, IsWhole}
use Rattle.aos_check_expr.proofs.Objects.{IsMadeAs, row_high, high_row, object_kind, reference_typed, of_own_type}

module _ (p : Inside) (e : Env) (whole : IsWhole p e) where
  -- an object type is made as itself
  pub object_made : (t : TypeId) → is_object (row_of e.types t) ≡ true → IsMadeAs p e whole t
  object_made t = by (row_of e.types t) refl
    where
      by : (o : Option TypeRow) → row_of e.types t ≡ o → is_object o ≡ true → IsMadeAs p e whole t
      by (Some (row.Object base fs)) there object =
          let high = row_high p e whole t (row.Object base fs) there tt in
          object_kind p e whole t base fs (le-ltb t.0 7 (omega (arith, high))) there
      by o there object = absurd (not_both (sym object))

  pub object_named : (t : TypeId) → is_object (row_of e.types t) ≡ true → type_as t ≡ type.Named (object_number t)
  object_named t object = let made = object_made t object in let high = made.0 in as_named t (omega (arith, high))

  pub object_there : (t : TypeId) → is_object (row_of e.types t) ≡ true → is_object (row_of p.program.types (id_of (type_as t))) ≡ true
  object_there t object = ap is_object (high_row p e whole t (object_made t object).0) ∙ object

  pub self_object : (t : TypeId) → e.self_type ≡ Some t → IsObject p t SelfRef
  self_object t itself =
      let two = whole.itself t itself in
      let made = object_made t two.1 in
      let high = made.0 in
      let named = object_named t two.1 in (
        le-ltb t.0 7 (omega (arith, high)),
        reference_typed p e whole t (inr (inr made)),
        λ u takes. (
          object_number t,
          two.0,
          subst (λ T. is_object (row_of p.program.types (id_of T)) ≡ true) named (object_there t two.1),
          inr (inl (subst (λ T. FitsObject p.program.types u T) named (fits high takes.1))),
        ),
      )
    where
      fits : {u : TType} → 10 ≤ t.0 → (t ≡ nil) ⊎ FitsObject p.program.types u (type_as t) → FitsObject p.program.types u (type_as t)
      fits high (inl none) = let n : t.0 ≡ 7 = ap (λ (v : TypeId). v.0) none in absurd (omega (arith, high, n))
      fits high (inr f) = f

  pub self_typed : (t : TypeId) → e.self_type ≡ Some t → IsOf p SelfRef (type_as t)
  self_typed t itself = of_own_type p e whole t SelfRef (self_object t itself) (object_made t (whole.itself t itself).1)

  -- a field of an object
  pub object_field_typed : (t : TypeId) (x : Expr) → IsOf p x (type_as t) → is_object (row_of e.types t) ≡ true →
      (k : ℕ) (u : TypeId) → field_type e.types t k ≡ Some u → IsTold e.types u → IsTyped p e (FieldOf (Deref x (type_as t)) (type_as t) k) (Some u)
  object_field_typed t x typed object k u there told = closed (inr (typed, object_there t object, refl), same) told
    where
      same : field_type p.program.types (id_of (type_as t)) k ≡ Some (id_of (type_as u))
      same =
          let made = object_made t object in
          let high = made.0 in
          ap (λ i. field_type p.program.types i k) (id_above t high) ∙ ap (λ rows. field_type rows t k) whole.rows
          ∙ there ∙ ap (λ i. Some i) (sym (id_as e.types u told))

  -- a field by its plain name
  pub self_field : (o : Open) (s : Scope) (w : List ℕ) (x : Entry) (k : ℕ) → IsFieldScope e o → env.scope e o ≡ Some s → find s w ≡ Some x → x.means ≡ means.Variable k →
      IsTyped p e (desig.inner_place e o k) (env.variable_type e o k)
  self_field o s w x k f there found means =
      let g = whole.own_fields f.0 f.1 o s w x k f.2 f.3 f.4 there found means in
      let place = ap₂ (λ u v. desig.declared_place e u v k) f.2 f.4 in
      subst (λ of. IsTyped p e (desig.inner_place e o k) of) (sym g.1)
      (subst (λ place. IsTyped p e place (Some g.0)) (sym place)
      (object_field_typed f.0 SelfRef (self_typed f.0 f.2) (whole.itself f.0 f.2).1 (members.field_number e f.1 k) g.0 g.2 g.3))

  -- the types of objects are references
  pub object_refers : (t : TypeId) → desig.is_object_type e t ≡ true → desig.is_reference e t ≡ true
  object_refers t is = right (is_of_any t) _ (right (desig.is_pointer_type e t) _ is)
    where
      right : (a b : Bool) → b ≡ true → (a || b) ≡ true
      right true b h = refl
      right false b h = h

  pub object_type_row : (t : TypeId) → desig.is_object_type e t ≡ true → (is_basic t ≡ false) × (is_object (row_of e.types t) ≡ true)
  object_type_row t is =
      let two = and_parts _ _ is in
      let made = object_made t two.1 in
      let high = made.0 in
      (le-ltb t.0 7 (omega (arith, high)), two.1)
