-- Values of a type, by their type in the world and by what fits one another.
use Rattle.std.proofs.Common.{arith, ◌≡◌, ◌⊎◌, inl, inr, ℕ, zero, suc, List, true, false, Option, Some, None, refl, sym, ap, ◌∙◌, subst}
use Rattle.std.specs.Prelude.{is_some}
use Rattle.std.proofs.lemmas.Bool.{eqb-true}
use Rattle.aos_base.specs.Rooted.{Made}
use Rattle.aos_types.specs.declared.row.TypeId.{TypeId}
use Rattle.aos_types.specs.Extension.{comes_to}
use Rattle.aos_types.specs.World.{World}
use Rattle.aos_types.proofs.Tables.{comes_on}
use Rattle.aos_typed.specs.declared.tree.TType.{TType}
use Rattle.aos_typed.specs.declared.tree.TType.TheVariants as type
use Rattle.aos_typed.specs.Formals.{HasFormals, pattern_of}
use Rattle.aos_typed.specs.Numbers.{id_of, id_of_made}
use Rattle.aos_typed.specs.Program.{Procedure, Program}
use Rattle.aos_typed.specs.Routines.{has_self}
use Rattle.aos_typed.specs.Sort.{Sort, Plain}
use Rattle.aos_typed.specs.Typing.{Extends, Is, IsCalledBy, IsInstance}
use Rattle.aos_typed.specs.Value.{Value, Object, Callable}
use Rattle.aos_typed.specs.WellTyped.{Fits, FitsObject, FitsProcedure, Includes, is_basic, is_reference, target, target_in}
use Rattle.aos_typed.specs.Meaning.{object_in, on_instance, procedure_in}
use Rattle.aos_typed.specs.Source.{arguments_in}
use Rattle.aos_sim.proofs.Does.{HasTypes}
use Rattle.aos_sim.proofs.Methods.{formals_twice}
use Rattle.aos_sim.proofs.References.{IsMadeAs, a_callable, from_pattern, has_pattern, nil_or, of_target, some_object}
use Rattle.aos_sim.proofs.Variables.{basic_row}
use Rattle.aos_stability.specs.Locations.{IsFree, IsMadeFor, StandsFor, Serves}

module _ (p : Program) (typed : HasTypes p) where
  -- a basic type leads to no object
  target_basic : (t : TType) → is_basic t ≡ true → target p.types t ≡ None
  target_basic t e = ap (target_in p.types (id_of t)) (basic_row p typed.predeclared t e)

  basic_not : (t : TType) → is_basic t ≡ true → is_reference p.types t ≡ true → ⊥
  basic_not (type.Integer w) e h = let none = target_basic (type.Integer w) refl in let no : false ≡ true = ap is_some (sym none) ∙ h in cc no
  basic_not type.Boolean e h = let none = target_basic type.Boolean refl in let no : false ≡ true = ap is_some (sym none) ∙ h in cc no
  basic_not type.Char e h = let none = target_basic type.Char refl in let no : false ≡ true = ap is_some (sym none) ∙ h in cc no
  basic_not type.Set e h = let none = target_basic type.Set refl in let no : false ≡ true = ap is_some (sym none) ∙ h in cc no
  basic_not type.Any e h = cc e
  basic_not (type.Named k) e h = cc e

  basic_none : (t : TType) (q : Procedure) → is_basic t ≡ true → pattern_of p t ≡ Some q → ⊥
  basic_none (type.Integer w) q e h = cc h
  basic_none type.Boolean q e h = cc h
  basic_none type.Char q e h = cc h
  basic_none type.Set q e h = cc h
  basic_none type.Any q e h = cc e
  basic_none (type.Named k) q e h = cc e

  -- a procedure type leads to none
  pub pattern_target : (t : TType) (q : Procedure) (b : TypeId) → pattern_of p t ≡ Some q → target p.types t ≡ Some b → ⊥
  pattern_target t q b e h =
      let r = has_pattern p t q e in
      let none : target p.types t ≡ None = ap (target_in p.types (id_of t)) r.is in
      let no : None ≡ Some b = sym none ∙ h in cc no

  pattern_not : (t : TType) (q : Procedure) → pattern_of p t ≡ Some q → is_reference p.types t ≡ true → ⊥
  pattern_not (type.Named k) q e h =
      let r = has_pattern p (type.Named k) q e in
      let none : target p.types (type.Named k) ≡ None = ap (target_in p.types (id_of (type.Named k))) r.is in
      let no : false ≡ true = ap is_some (sym none) ∙ h in cc no
  pattern_not (type.Integer w) q e h = cc e
  pattern_not type.Boolean q e h = cc e
  pattern_not type.Char q e h = cc e
  pattern_not type.Set q e h = cc e
  pattern_not type.Any q e h = cc e

  pub any_target : (b : TypeId) → target p.types type.Any ≡ Some b → ⊥
  any_target b e = let any : target p.types type.Any ≡ None = ap (target_in p.types (id_of type.Any)) (typed.predeclared 8 (omega arith)) in let no : None ≡ Some b = sym any ∙ e in cc no

  module _ (made : ℕ → Option Made) where
    abbrev Are : TType → Value → Type 0
    Are t v = Serves p made t v

    -- a value that is neither an object nor a procedure
    pub plain_serves : (t : TType) (v : Value) → object_in v ≡ 0 → procedure_in v ≡ 0 → IsFree p made v → Are t v
    plain_serves t v o q free = record { points = λ e. inl o; calls = λ c e. inl q; free = free }

    -- any value is of a basic type so
    pub basic_serves : (t : TType) (v : Value) → is_basic t ≡ true → IsFree p made v → Are t v
    basic_serves t v b free = record { points = λ e. absurd (basic_not t b e); calls = λ c e. absurd (basic_none t c b e); free = free }

    included : (t u : TType) (v : Value) → Includes t u → Are u v → Are t v
    included (type.Integer w) u v e s = basic_serves (type.Integer w) v refl s.free
    included type.Boolean u v e s = basic_serves type.Boolean v refl s.free
    included type.Char u v e s = basic_serves type.Char v refl s.free
    included type.Set u v e s = basic_serves type.Set v refl s.free
    included type.Any u v e s = absurd (cc e)
    included (type.Named k) (type.Named j) v e s = let q = eqb-true k j e in subst (λ i. Are (type.Named i) v) (sym q) s
    included (type.Named k) (type.Integer w) v e s = absurd (cc e)
    included (type.Named k) type.Boolean v e s = absurd (cc e)
    included (type.Named k) type.Char v e s = absurd (cc e)
    included (type.Named k) type.Set v e s = absurd (cc e)
    included (type.Named k) type.Any v e s = absurd (cc e)

    object_fits : (t u : TType) (v : Value) → FitsObject p.types t u → Are u v → Are t v
    object_fits t u v f s = record { points = λ e. points (s.points f.0); calls = λ q e. absurd (none q e f.1); free = s.free }
      where
        points : (object_in v ≡ 0) ⊎ IsMadeFor p made u (object_in v) → (object_in v ≡ 0) ⊎ IsMadeFor p made t (object_in v)
        points (inl nil) = inl nil
        points (inr x) = inr (x.0, x.1, λ b e. leads b e f.1)
          where
            leads : (b : TypeId) → target p.types t ≡ Some b → (t ≡ type.Any) ⊎ ((a : TypeId) × (c : TypeId) × (target p.types t ≡ Some a) × (target p.types u ≡ Some c) × (comes_to p.types c a ≡ true)) → comes_to p.types (id_of_made x.0.type) b ≡ true
            leads b e (inl any) = absurd (any_target b (subst (λ z. target p.types z ≡ Some b) any e))
            leads b e (inr g) =
                let both : Some g.0 ≡ Some b = sym g.2 ∙ e in
                let same : g.0 ≡ b = cc both in
                comes_on p.types typed.ranked (id_of_made x.0.type) g.1 b (x.2 g.1 g.3) (subst (λ z. comes_to p.types g.1 z ≡ true) same g.4)

        none : (q : Procedure) → pattern_of p t ≡ Some q → (t ≡ type.Any) ⊎ ((a : TypeId) × (c : TypeId) × (target p.types t ≡ Some a) × (target p.types u ≡ Some c) × (comes_to p.types c a ≡ true)) → ⊥
        none q e (inl any) = let no : None ≡ Some q = subst (λ z. pattern_of p z ≡ Some q) any e in cc no
        none q e (inr g) = pattern_target t q g.0 e g.2

    procedure_fits : (t u : TType) (v : Value) → FitsProcedure p t u → Are u v → Are t v
    procedure_fits t u v f s = record { points = λ e. absurd (pattern_not t f.0 f.2 e); calls = λ q e. calls q e (s.calls f.1 f.3); free = s.free }
      where
        calls : (q : Procedure) → pattern_of p t ≡ Some q → (procedure_in v ≡ 0) ⊎ StandsFor p made f.1 v → (procedure_in v ≡ 0) ⊎ StandsFor p made q v
        calls q e (inl nil) = inl nil
        calls q e (inr x) =
            let both : Some f.0 ≡ Some q = sym f.2 ∙ e in
            let same : f.0 ≡ q = cc both in
            inr (record { home = x.home; procedure = x.procedure; there = x.there; formals = subst (HasFormals p.types x.procedure) same (formals_twice p x.procedure f.1 f.0 x.formals f.4); handed = x.handed })

    pub fits_serves : (t u : TType) (v : Value) → Fits p t u → Are u v → Are t v
    fits_serves t u v (inl e) s = included t u v e s
    fits_serves t u v (inr (inl e)) s = object_fits t u v e s
    fits_serves t u v (inr (inr e)) s = procedure_fits t u v e s

  -- What is of a type in a world serves as such a value.

  module _ (w : World Sort) where
    handed_by : (q : Procedure) (o : ℕ) (vs : List Value) → IsInstance p w q.of o → arguments_in (has_self (Some q)) (on_instance o vs) ≡ vs
    handed_by q o vs h = by q.of h
      where
        by : (t : Option ℕ) → IsInstance p w t o → arguments_in (is_some t) (on_instance o vs) ≡ vs
        by None e = ap (λ z. on_instance z vs) e
        by (Some t) x = ap (λ z. arguments_in true (on_instance z vs)) x.2

    called_stands : (q : Procedure) (n o : ℕ) → IsCalledBy p w (Some q) n o → (n ≡ 0) ⊎ StandsFor p w.made q (Callable n o)
    called_stands q zero o h = inl refl
    called_stands q (suc n) o h =
        inr (record { home = h.home; procedure = h.procedure; there = h.there; formals = h.formals q refl; handed = λ vs. handed_by h.procedure o vs h.instance })

    pub is_serves : (t : TType) (v : Value) → Is p w (Plain (id_of t)) v → IsFree p w.made v → Serves p w.made t v
    is_serves t v is free = record { points = λ e. points (nil_or p w (λ m. Unit {0}) v (some_object p w typed.predeclared t v e is)); calls = calls; free = free }
      where
        leads : (x : IsMadeAs p w (λ m. Unit {0}) v) (b : TypeId) → (v ≡ Object 0) ⊎ IsMadeAs p w (Extends p b) v → comes_to p.types (id_of_made x.made.type) b ≡ true
        leads x b (inl nil) = let o = x.object in let no : Object 0 ≡ Object (suc o.number) = sym nil ∙ o.is in absurd (cc no)
        leads x b (inr y) =
            let o = x.object in
            let o' = y.object in
            let both : Object (suc o.number) ≡ Object (suc o'.number) = sym o.is ∙ o'.is in
            let number : o.number ≡ o'.number = cc both in
            let same : Some x.made ≡ Some y.made = sym o.made ∙ ap (λ i. w.made (suc i)) number ∙ o'.made in
            let made : x.made ≡ y.made = cc same in
            subst (λ m. comes_to p.types (id_of_made m.type) b ≡ true) (sym made) y.is

        points : (v ≡ Object 0) ⊎ IsMadeAs p w (λ m. Unit {0}) v → (object_in v ≡ 0) ⊎ IsMadeFor p w.made t (object_in v)
        points (inl nil) = inl (ap object_in nil)
        points (inr x) =
            let o = x.object in
            inr (x.made, ap (λ u. w.made (object_in u)) o.is ∙ o.made, λ b e. leads x b (nil_or p w (Extends p b) v (of_target p w t b v e is)))

        calls : (q : Procedure) → pattern_of p t ≡ Some q → (procedure_in v ≡ 0) ⊎ StandsFor p w.made q v
        calls q e =
            let c = a_callable p w (Some q) v (from_pattern p w t q v e is) in
            subst (λ u. (procedure_in u ≡ 0) ⊎ StandsFor p w.made q u) (sym c.is) (called_stands q c.number c.object c.called)
