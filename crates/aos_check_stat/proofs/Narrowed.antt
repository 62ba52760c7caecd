-- Within a WITH, a block or a condition the environment is that of bodies, too: the variable that it narrows is guarded with a type that this may have.
use Rattle.std.proofs.Common.{◌≡◌, ℕ, zero, suc, ◌==◌, List, [], ◌∷◌, ◌++◌, length, fold, Bool, true, false, ◌&&◌, ◌||◌, Option, Some, None, option_and_then, if◌then◌else◌, refl, sym, ap, ap₂, ◌∙◌, subst, eqb-true}
use Rattle.std.specs.Option.{option_map, option_or}
use Rattle.std.proofs.lemmas.Bool.{and_parts}
use Rattle.std.proofs.lemmas.Option.{same_Some}
use Rattle.aos_base.specs.declared.text.Pos.{Pos}
use Rattle.aos_tree.specs.declared.name.Name.{Name}
use Rattle.aos_tree.specs.declared.decl.Export.{Export}
use Rattle.aos_tree.specs.declared.decl.Export.TheVariants.{ReadWrite, ReadOnly as OnlyRead}
use Rattle.aos_types.specs.declared.row.TypeId.{TypeId}
use Rattle.aos_types.specs.Table.{row_of, base_of, is_record}
use Rattle.aos_typed.specs.declared.tree.TType.TheVariants as type
use Rattle.aos_typed.specs.Numbers.{id_of}
use Rattle.aos_typed.specs.Program.{Place, ModuleVar, Guarded, Parameter, Procedure, Guard, Stats, With, WithRecord}
use Rattle.aos_types.specs.declared.signature.Parameter.{Parameter as Formal}
use Rattle.aos_symbols.specs.declared.home.ObjectScope.{ObjectScope}
use Rattle.aos_types.specs.declared.signature.Signature.{Signature}
use Rattle.aos_symbols.specs.declared.scope.Meaning.{Meaning}
use Rattle.aos_symbols.specs.declared.scope.Meaning.TheVariants as means
use Rattle.aos_symbols.specs.declared.env.Open.{Open}
use Rattle.aos_symbols.specs.declared.env.Symbol.{Symbol}
use Rattle.aos_members.specs.declared.objects.Method.{Method}
use Rattle.aos_symbols.specs.declared.env.Narrowed.{Narrowed}
use Rattle.aos_symbols.specs.declared.env.Env.{Env}
use Rattle.aos_symbols.specs.Spelling.{word}
use Rattle.aos_members.specs.Members as members
use Rattle.aos_symbols.specs.Env as env
use Rattle.aos_known.specs.declared.known.Class.{Class}
use Rattle.aos_known.specs.declared.known.Class.TheVariants.{Unknown, Constant, Variable, ReadOnly, Computed, Procedure as ClassOf}
use Rattle.aos_known.specs.declared.known.Known.{Known}
use Rattle.aos_known.specs.Known.{Entity, Held, Stands, Value, known_as, value_class, read_from, object_number, type_as}
use Rattle.aos_known.proofs.Inside.{Inside, IsStatement, AreStatements}
use Rattle.aos_known.proofs.Types.{not_both}
use Rattle.aos_operators.proofs.Sound.{IsObject}
use Rattle.aos_designators.specs.Designators as desig
use Rattle.aos_check_expr.proofs.Objects.{of_any_type, sound_object, record_no_reference}
use Rattle.aos_check_expr.proofs.Pointed.{guard_object, guard_record}
use Rattle.aos_check_expr.proofs.Entities.{IsEntity, IsSoundEntity, no_type}
use Rattle.aos_check_expr.proofs.Entities.{read_sound as held_sound}
use Rattle.aos_check_expr.proofs.Whole.{IsTyped, closed, opened, IsWhole, IsSigned, AreParameters, NarrowsWell}
use Rattle.aos_check_stat.specs.Bodies.{in_region, in_condition, with_stat}

-- a designator of this type and class
abbrev entity : Option TypeId → Class → Held → Pos → Entity
entity of c h at = record { known = record { of = of; class = c }; held = h; at = at }

-- The environment with other variables narrowed, and in another block or in a condition.

module _ (e : Env) (ns : List Narrowed) (exclusive condition : Bool) where
  abbrev pub within : Env
  within = record e { narrowed = ns; is_exclusive = exclusive; is_condition = condition }

  typed_within : (p : Inside) (place : Place) (of : Option TypeId) → IsTyped p e place of → IsTyped p within place of
  typed_within p place of (closed typed known) = closed typed known
  typed_within p place of (opened t r same at opening rows lengths variables) = opened t r same at opening rows lengths variables

  parameters_within : (xs : List Formal) (as' : List Parameter) → AreParameters e xs as' → AreParameters within xs as'
  parameters_within [] as' is = is
  parameters_within (x ∷ xs) as' is = (is.0, is.1, is.2, is.3, is.4, is.5, is.6, is.7, parameters_within xs is.1 is.8)

  signed_within : (s : Signature) (q : Procedure) → IsSigned e s q → IsSigned within s q
  signed_within s q is = record { parameters = parameters_within s.parameters q.parameters is.parameters; result = is.result }

  -- fields
  field_within : (k : ℕ) (t : TypeId) (n : Name) → members.field_by k within t n ≡ members.field_by k e t n
  field_within zero t n = refl
  field_within (suc k) t n =
      ap (λ o. option_or (option_map (members.counted_on e.types t) (members.own_field e t n)) o) (on_base (base_of (row_of e.types t)) (λ b. field_within k b n))
    where
      on_base : (o : Option TypeId) → ((b : TypeId) → members.field_by k within b n ≡ members.field_by k e b n) →
          option_and_then (λ b. members.field_by k within b n) o ≡ option_and_then (λ b. members.field_by k e b n) o
      on_base None same = refl
      on_base (Some b) same = same b

  -- methods
  meant_within : (t : TypeId) (o : ObjectScope) (at : Open) (mark : Option Export) (m : Meaning) →
      members.method_meant within t o (record { at = at; mark = mark; means = m }) ≡ members.method_meant e t o (record { at = at; mark = mark; means = m })
  meant_within t o at mark (means.Procedure k) = refl
  meant_within t o at mark m = refl

  own_method_within : (t : TypeId) (w : List ℕ) → members.own_method within t w ≡ members.own_method e t w
  own_method_within t w = by (members.object e t)
    where
      found : (o : ObjectScope) (s : Option Symbol) → option_and_then (members.method_meant within t o) s ≡ option_and_then (members.method_meant e t o) s
      found o None = refl
      found o (Some x) = meant_within t o x.at x.mark x.means

      by : (o : Option ObjectScope) →
          option_and_then (λ o. option_and_then (members.method_meant within t o) (env.in_scope e (members.object_place o) w)) o
          ≡ option_and_then (λ o. option_and_then (members.method_meant e t o) (env.in_scope e (members.object_place o) w)) o
      by None = refl
      by (Some o) = found o (env.in_scope e (members.object_place o) w)

  along_within : (w : List ℕ) (ts : List TypeId) → members.method_along within w ts ≡ members.method_along e w ts
  along_within w [] = refl
  along_within w (t ∷ ts) = ap₂ option_or (own_method_within t w) (along_within w ts)

  method_within : (t : TypeId) (n : Name) → members.method within t n ≡ members.method e t n
  method_within t n = along_within (word e.here.text n) (members.chain e.types t)

  -- initializers
  own_initializer_within : (t : TypeId) → members.own_initializer within t ≡ members.own_initializer e t
  own_initializer_within t = by (members.object e t)
    where
      by : (o : Option ObjectScope) → members.initial_at within t o ≡ members.initial_at e t o
      by None = refl
      by (Some o) = refl

  initial_along_within : (ts : List TypeId) → members.initializer_along within ts ≡ members.initializer_along e ts
  initial_along_within [] = refl
  initial_along_within (t ∷ ts) = ap₂ option_or (own_initializer_within t) (initial_along_within ts)

  initializer_within : (t : TypeId) → members.initializer within t ≡ members.initializer e t
  initializer_within t = initial_along_within (members.chain e.types t)

  -- places
  parameter_within : (k : ℕ) (b : Bool) (of : Option TypeId) →
      desig.parameter_place within k (record { by_reference = b; of = of }) ≡ desig.parameter_place e k (record { by_reference = b; of = of })
  parameter_within k b None = refl
  parameter_within k b (Some t) = refl

  own_within : (k : ℕ) → desig.own_place within k ≡ desig.own_place e k
  own_within k = by (desig.own_parameter e k) refl
    where
      by : (o : Option Formal) → desig.own_parameter e k ≡ o → desig.own_place within k ≡ desig.own_place e k
      by None is = rw is refl
      by (Some a) is = rw is (parameter_within k a.by_reference a.of)

  declared_within : (a b : Option TypeId) (k : ℕ) → desig.declared_place within a b k ≡ desig.declared_place e a b k
  declared_within (Some t) (Some b) k = refl
  declared_within (Some t) None k = refl
  declared_within None (Some b) k = refl
  declared_within None None k = refl

  place_within : (o : Open) (k : ℕ) → desig.place_in_scope within o k ≡ desig.place_in_scope e o k
  place_within o k = ap₂ (λ a b. if desig.is_own_scope e o then a else b) (own_within k) (declared_within e.self_type (members.object_at e o) k)

  variable_within : (x : Symbol) (k : ℕ) (at : Pos) → desig.variable within x k at ≡ desig.variable e x k at
  variable_within x k at =
      ap (λ (place : Place). record { known = known_as (desig.access (x.at.home == e.number) x.mark) (env.variable_type e x.at k); held = Stands place; at = at })
      (by (desig.is_of_module x))
    where
      by : (b : Bool) → (if b then ModuleVar x.at.home k else desig.place_in_scope within x.at k) ≡ (if b then ModuleVar x.at.home k else desig.place_in_scope e x.at k)
      by true = refl
      by false = place_within x.at k

  -- guards
  may_within : (b : Bool) (of t : Option TypeId) → desig.may_test within b of t ≡ desig.may_test e b of t
  may_within b None t = refl
  may_within b (Some of) None = refl
  may_within b (Some of) (Some t) = refl

  number_within : (t : TypeId) → desig.made_number within t ≡ desig.made_number e t
  number_within t = by (desig.pointed e t) refl
    where
      by : (o : Option TypeId) → desig.pointed e t ≡ o → desig.made_number within t ≡ desig.made_number e t
      by None is = rw is refl
      by (Some u) is = rw is refl

  guarded_within : (t : TypeId) (of : Option TypeId) (c : Class) (h : Held) (at : Pos) → desig.guarded_entity within t (entity of c h at) ≡ desig.guarded_entity e t (entity of c h at)
  guarded_within t None c h at = refl
  guarded_within t (Some of) c h at =
      ap (λ n. if desig.is_record_type e of then desig.guarded_record t (entity (Some of) c h at)
      else record { known = known_as (value_class c) (Some t); held = Value (Guard (read_from (Some of) h) n); at = at }) (number_within t)

  narrowed_within : (x : Symbol) (k : ℕ) (a : Entity) (v : Narrowed) → desig.narrowed_by within x k a v ≡ desig.narrowed_by e x k a v
  narrowed_within x k a v = ap (λ (b : Entity). if desig.is_narrowed x k v then b else a) (guarded_within v.of a.known.of a.known.class a.held a.at)

  narrows_within : (x : Symbol) (k : ℕ) (vs : List Narrowed) (a : Entity) → NarrowsWell e x k a vs → NarrowsWell within x k a vs
  narrows_within x k [] a well = tt
  narrows_within x k (v ∷ vs) a well = (
    λ is. may_within (desig.is_passed (desig.place_of a.held)) a.known.of (Some v.of) ∙ well.0 is,
    narrows_within x k vs (desig.narrowed_by within x k a v) (subst (λ b. NarrowsWell e x k b vs) (sym (narrowed_within x k a v)) well.1),
  )

  pub whole_within : (p : Inside) → IsWhole p e → ((x : Symbol) (k : ℕ) (at : Pos) → NarrowsWell e x k (desig.variable e x k at) ns) → IsWhole p within
  whole_within p whole narrows = record {
    variables = λ o s w x k own there found means. typed_within p _ _ (whole.variables o s w x k own there found means);
    constants = whole.constants;
    parts = whole.parts;
    fields = λ t n f found held. whole.fields t n f (sym (field_within (length e.types) t n) ∙ found) held;
    rows = whole.rows;
    objects = whole.objects;
    basic = whole.basic;
    written = whole.written;
    opens = record { falls = whole.opens.falls; above = whole.opens.above; elements = whole.opens.elements };
    narrows = λ x k at. subst (λ a. NarrowsWell within x k a ns) (sym (variable_within x k at)) (narrows_within x k ns (desig.variable e x k at) (narrows x k at));
    path = whole.path;
    locals = λ s w x k own there found means.
        subst (λ place. IsTyped p within place (env.variable_type e (record { home = e.number; scope = env.innermost e.path }) k)) (sym (own_within k))
        (typed_within p _ _ (whole.locals s w x k own there found means));
    own = λ s is. let q = whole.own s is in (q.0, q.1, signed_within s q.0 q.2);
    own_body = whole.own_body;
    itself = whole.itself;
    own_fields = whole.own_fields;
    methods = λ t n m found object s is. let q = whole.methods t n m (sym (method_within t n) ∙ found) object s is in (q.0, q.1, signed_within s q.0 q.2);
    initials = λ t object. whole.initials t object ∙ ap (option_map (λ (m : Method). m.slot)) (sym (initializer_within t));
    initial = λ t m found object s is. let q = whole.initial t m (sym (initializer_within t) ∙ found) object s is in (q.0, q.1, q.2, signed_within s q.0 q.3);
    patterns = whole.patterns;
    signatures = λ m k s w x there found means g is. let q = whole.signatures m k s w x there found means g is in (q.0, q.1, signed_within g q.0 q.2);
    strings = whole.strings;
    filled = whole.filled;
  }

-- in an exclusive block, or in none
pub region_whole : (p : Inside) (e : Env) → IsWhole p e → (b : Bool) → IsWhole p (in_region b e)
region_whole p e whole b = whole_within e e.narrowed b e.is_condition p whole whole.narrows

-- in the condition of an AWAIT
pub condition_whole : (p : Inside) (e : Env) → IsWhole p e → IsWhole p (in_condition e)
condition_whole p e whole = whole_within e e.narrowed e.is_exclusive true p whole whole.narrows

-- The variable of a WITH.

module _ (e : Env) where
  -- one more that is narrowed
  narrows_more : (x : Symbol) (k : ℕ) (vs : List Narrowed) (n : Narrowed) (a : Entity) → NarrowsWell e x k a vs →
      (let b = fold (desig.narrowed_by e x k) a vs in
      desig.is_narrowed x k n ≡ true → desig.may_test e (desig.is_passed (desig.place_of b.held)) b.known.of (Some n.of) ≡ true) → NarrowsWell e x k a (vs ++ n ∷ [])
  narrows_more x k [] n a well last = (last, tt)
  narrows_more x k (v ∷ vs) n a well last = (well.0, narrows_more x k vs n (desig.narrowed_by e x k a v) well.1 last)

  -- a variable, guarded or not
  abbrev IsOfVariable : Class → Type 0
  IsOfVariable Variable = Unit {0}
  IsOfVariable ReadOnly = Unit {0}
  IsOfVariable Computed = Unit {0}
  IsOfVariable Unknown = ⊥
  IsOfVariable (Constant v) = ⊥
  IsOfVariable (ClassOf m n) = ⊥

  known_of : (c : Class) (of : Option TypeId) → IsOfVariable c → (known_as c of).of ≡ of
  known_of Variable of is = refl
  known_of ReadOnly of is = refl
  known_of Computed of is = refl
  known_of Unknown of is = absurd is
  known_of (Constant v) of is = absurd is
  known_of (ClassOf m n) of is = absurd is

  known_class : (c : Class) (of : Option TypeId) → IsOfVariable c → IsOfVariable (known_as c of).class
  known_class Variable of is = tt
  known_class ReadOnly of is = tt
  known_class Computed of is = tt
  known_class Unknown of is = absurd is
  known_class (Constant v) of is = absurd is
  known_class (ClassOf m n) of is = absurd is

  value_of : (c : Class) → IsOfVariable c → IsOfVariable (value_class c)
  value_of Variable is = tt
  value_of ReadOnly is = tt
  value_of Computed is = tt
  value_of Unknown is = absurd is
  value_of (Constant v) is = absurd is
  value_of (ClassOf m n) is = absurd is

  access_of : (here : Bool) (mark : Option Export) → IsOfVariable (desig.access here mark)
  access_of here None = tt
  access_of here (Some ReadWrite) = tt
  access_of true (Some OnlyRead) = tt
  access_of false (Some OnlyRead) = tt

  -- two of one variable differ in their classes and places alone
  abbrev AreAlike : Entity → Entity → Type 0
  AreAlike a b = (a.held ≡ b.held) × (a.known.of ≡ b.known.of) × IsOfVariable a.known.class × IsOfVariable b.known.class

  known_alike : (c d : Class) (of : Option TypeId) (h : Held) (at there : Pos) → IsOfVariable c → IsOfVariable d →
      AreAlike (record { known = known_as c of; held = h; at = at }) (record { known = known_as d of; held = h; at = there })
  known_alike c d of h at there i j = (refl, known_of c of i ∙ sym (known_of d of j), known_class c of i, known_class d of j)

  guarded_parts : (t : TypeId) (of : Option TypeId) (h : Held) (c d : Class) (at there : Pos) → IsOfVariable c → IsOfVariable d →
      AreAlike (desig.guarded_entity e t (entity of c h at)) (desig.guarded_entity e t (entity of d h there))
  guarded_parts t None h c d at there i j = known_alike c d None h at there i j
  guarded_parts t (Some of) h c d at there i j = by (desig.is_record_type e of)
    where
      by : (b : Bool) →
          AreAlike (if b then desig.guarded_record t (entity (Some of) c h at) else desig.guarded_object e t (entity (Some of) c h at))
          (if b then desig.guarded_record t (entity (Some of) d h there) else desig.guarded_object e t (entity (Some of) d h there))
      by true = known_alike c d (Some t) _ at there i j
      by false = known_alike (value_class c) (value_class d) (Some t) _ at there (value_of c i) (value_of d j)

  guarded_alike : (t : TypeId) (a b : Entity) → AreAlike a b → AreAlike (desig.guarded_entity e t a) (desig.guarded_entity e t b)
  guarded_alike t a b are =
      subst (λ of. AreAlike (desig.guarded_entity e t a) (desig.guarded_entity e t (entity of b.known.class b.held b.at))) are.1
      (subst (λ h. AreAlike (desig.guarded_entity e t a) (desig.guarded_entity e t (entity a.known.of b.known.class h b.at))) are.0
      (guarded_parts t a.known.of a.held a.known.class b.known.class a.at b.at are.2 are.3))

  fold_alike : (x y : Symbol) (k : ℕ) → x.at ≡ y.at → (vs : List Narrowed) (a b : Entity) → AreAlike a b →
      AreAlike (fold (desig.narrowed_by e x k) a vs) (fold (desig.narrowed_by e y k) b vs)
  fold_alike x y k same [] a b are = are
  fold_alike x y k same (v ∷ vs) a b are = fold_alike x y k same vs (desig.narrowed_by e x k a v) (desig.narrowed_by e y k b v) one
    where
      at : (c d : Bool) → c ≡ d → AreAlike (if c then desig.guarded_entity e v.of a else a) (if d then desig.guarded_entity e v.of b else b)
      at true true is = guarded_alike v.of a b are
      at false false is = are
      at true false is = absurd (cc)
      at false true is = absurd (cc)

      one : AreAlike (desig.narrowed_by e x k a v) (desig.narrowed_by e y k b v)
      one = at (desig.is_narrowed x k v) (desig.is_narrowed y k v) (ap (λ (o : Open). (v.at.home == o.home && v.at.scope == o.scope) && v.number == k) same)

  -- a variable that may have a type is narrowed by it, whatever stands for it
  pub narrows_on : (p : Inside) → IsWhole p e → (y : Symbol) (j : ℕ) (there : Pos) (u : TypeId) →
      (let v = desig.narrowed e y j (desig.variable e y j there) in
      desig.may_test e (desig.is_passed (desig.place_of v.held)) v.known.of (Some u) ≡ true) →
      (x : Symbol) (k : ℕ) (at : Pos) → NarrowsWell e x k (desig.variable e x k at) (e.narrowed ++ record { at = y.at; number = j; of = u } ∷ [])
  narrows_on p whole y j there u may x k at =
      narrows_more x k e.narrowed (record { at = y.at; number = j; of = u }) (desig.variable e x k at) (whole.narrows x k at) last
    where
      begun : (o : Open) → x.at ≡ o → y.at ≡ o → AreAlike (desig.variable e x k at) (desig.variable e y k there)
      begun o is same = (
        ap (λ (z : Open). Stands (if z.scope == 0 then ModuleVar z.home k else desig.place_in_scope e z k)) (is ∙ sym same),
        known_of (desig.access (x.at.home == e.number) x.mark) (env.variable_type e x.at k) (access_of (x.at.home == e.number) x.mark)
            ∙ ap (λ (z : Open). env.variable_type e z k) (is ∙ sym same)
            ∙ sym (known_of (desig.access (y.at.home == e.number) y.mark) (env.variable_type e y.at k) (access_of (y.at.home == e.number) y.mark)),
        known_class (desig.access (x.at.home == e.number) x.mark) (env.variable_type e x.at k) (access_of (x.at.home == e.number) x.mark),
        known_class (desig.access (y.at.home == e.number) y.mark) (env.variable_type e y.at k) (access_of (y.at.home == e.number) y.mark),
      )

      last : desig.is_narrowed x k (record { at = y.at; number = j; of = u }) ≡ true →
          let b = fold (desig.narrowed_by e x k) (desig.variable e x k at) e.narrowed in
          desig.may_test e (desig.is_passed (desig.place_of b.held)) b.known.of (Some u) ≡ true
      last is =
          let two = and_parts (y.at.home == x.at.home && y.at.scope == x.at.scope) (j == k) is in
          let places = and_parts (y.at.home == x.at.home) (y.at.scope == x.at.scope) two.0 in
          let same : y.at ≡ x.at = ap₂ (λ (h s : ℕ). record { home = h; scope = s }) (eqb-true y.at.home x.at.home places.0) (eqb-true y.at.scope x.at.scope places.1) in
          let number : j ≡ k = eqb-true j k two.1 in
          let here = subst (λ n. let v = desig.narrowed e y n (desig.variable e y n there) in desig.may_test e (desig.is_passed (desig.place_of v.held)) v.known.of (Some u) ≡ true) number may in
          let are = fold_alike x y k (sym same) e.narrowed (desig.variable e x k at) (desig.variable e y k there) (begun x.at refl same) in
          ap₂ (λ h of. desig.may_test e (desig.is_passed (desig.place_of h)) of (Some u)) are.0 are.1 ∙ here

-- WITH of what is tested is a statement.

module _ (p : Inside) (e : Env) (whole : IsWhole p e) where
  with_parts : (at : Pos) (of : Option TypeId) (c : Class) (h : Held) (q : Pos) → IsEntity p e (entity of c h q) → (u : TypeId) →
      desig.may_test e (desig.is_passed (desig.place_of h)) of (Some u) ≡ true → (body : Stats) → AreStatements p body → IsStatement p (with_stat at (desig.guarded_entity e u (entity of c h q)).held body)
  with_parts at None c h q is u may body are = absurd (no_type p e (record { of = None; class = c }) h refl (is.sound whole))
  with_parts at (Some of) c h q is u may body are = by (desig.is_record_type e of) refl
    where
      test : (desig.has_dynamic_type e (desig.is_passed (desig.place_of h)) of ≡ true) × (desig.is_extension e of u ≡ true)
      test = and_parts (desig.has_dynamic_type e (desig.is_passed (desig.place_of h)) of) _ may

      -- a record is what a VAR parameter stands for
      passed_of : desig.is_record_type e of ≡ true → (b : Bool) → desig.has_dynamic_type e b of ≡ true → b ≡ true
      passed_of kind b has =
          (and_parts (desig.is_record_type e of) b (sym (ap (λ r. r || (desig.is_record_type e of && b)) (record_no_reference p e whole of kind)) ∙ has)).1

      guarded : (place : Place) → IsTyped p e (Guarded place (object_number u)) (Some u) → IsStatement p (WithRecord at (Guarded place (object_number u)) body)
      guarded place (closed typed known) =
          ((type_as u, typed, subst (λ t. is_record (row_of p.program.types (id_of t)) ≡ true) (sym typed.4) typed.3), are)
      guarded place (opened t r same opens opening rows lengths variables) = absurd (cc)

      record_held : desig.is_record_type e of ≡ true → (h : Held) → IsSoundEntity p e (entity (Some of) c h q) → desig.is_passed (desig.place_of h) ≡ true →
          IsStatement p (with_stat at (desig.part_held (λ place. Guarded place (object_number u)) h) body)
      record_held kind (Stands place) sound passed = guarded place (guard_record p e whole of u place sound passed kind test.1)
      record_held kind (Value x) sound passed = absurd (not_both (sym passed))

      object_held : desig.is_reference e of ≡ true → IsStatement p (With at (Guard (read_from (Some of) h) (desig.made_number e u)) body)
      object_held ref =
          let k : Known = record { of = Some of; class = c } in
          let x = read_from (Some of) h in
          let sound = held_sound p e whole k h (is.sound whole) in
          let same : of ≡ sound.of = same_Some of sound.of sound.known in
          let object = subst (λ v. IsObject p v x) (sym same) (sound_object p e whole (record { known = k; typed = x }) sound (ap (desig.is_reference e) (sym same) ∙ ref)) in
          ((type.Any, of_any_type p e whole u (Guard x (desig.made_number e u)) (guard_object p e whole of u x object ref test.1), refl), are)

      first : (b : Bool) → (b || false) ≡ true → b ≡ true
      first true is = refl
      first false is = is

      by : (b : Bool) → desig.is_record_type e of ≡ b →
          IsStatement p (with_stat at (if b then desig.guarded_record u (entity (Some of) c h q) else desig.guarded_object e u (entity (Some of) c h q)).held body)
      by true kind = record_held kind h (is.sound whole) (passed_of kind (desig.is_passed (desig.place_of h)) test.0)
      by false other = object_held (first (desig.is_reference e of) (sym (ap (λ r. desig.is_reference e of || (r && desig.is_passed (desig.place_of h))) other) ∙ test.0))

  pub with_typed : (at : Pos) (v : Entity) → IsEntity p e v → (u : TypeId) → desig.may_test e (desig.is_passed (desig.place_of v.held)) v.known.of (Some u) ≡ true → (body : Stats) → AreStatements p body →
      IsStatement p (with_stat at (desig.guarded_entity e u v).held body)
  with_typed at v is u may body are = with_parts at v.known.of v.known.class v.held v.at is u may body are
