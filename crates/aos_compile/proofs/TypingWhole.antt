-- The environment of bodies: what is known of it where the modules before and this one break no rule.
use Rattle.std.proofs.Common.{◌≡◌, ℕ, ◌+◌, ◌<◌, ◌==◌, ◌-◌, List, [], ◌∷◌, length, map, Bool, true, false, is_some, if◌then◌else◌, Option, Some, None, option_map, option_and_then, slice_get, refl, sym, ap, ◌∙◌, subst, eqb-true, arith, ◌++◌, eq-eqb}
use Rattle.std.proofs.lemmas.Bool.{and_parts}
use Rattle.std.proofs.lemmas.List.{length-map}
use Rattle.std.proofs.lemmas.Option.{none-some, same_Some, slice_get-map, slice_get_within}
use Rattle.aos_types.specs.declared.row.TypeId.{TypeId}
use Rattle.aos_types.specs.declared.row.TypeRow.TheVariants as row
use Rattle.aos_types.specs.Table.{row_of, is_object}
use Rattle.aos_types.specs.Extension.{comes_to}
use Rattle.aos_types.proofs.Ranks.{ranked}
use Rattle.aos_typed.specs.declared.tree.TType.TheVariants.{Named}
use Rattle.aos_typed.specs.Numbers.{id_of}
use Rattle.aos_typed.specs.Formals.{pattern_in, pattern_of}
use Rattle.aos_typed.specs.Methods.{methods_of, initializer}
use Rattle.aos_typed.specs.Program.{ModuleVar, Procedure as TypedProcedure, ObjectType, Module}
use Rattle.aos_typed.specs.Routines.{self_type, result_of}
use Rattle.aos_typed.specs.WellTyped.{procedure_in, field_type, IsPattern}
use Rattle.aos_symbols.specs.declared.scope.Entry.{Entry}
use Rattle.aos_symbols.specs.declared.scope.Meaning.TheVariants as means
use Rattle.aos_symbols.specs.declared.home.ObjectScope.{ObjectScope}
use Rattle.aos_types.specs.declared.signature.Signature.{Signature}
use Rattle.aos_symbols.specs.declared.env.Open.{Open}
use Rattle.aos_members.specs.declared.objects.Method.{Method}
use Rattle.aos_symbols.specs.declared.env.Env.{Env}
use Rattle.aos_symbols.specs.Scope.{Scope, find}
use Rattle.aos_symbols.specs.Home.{Home, object_of, scope_of, fields_of, texts_of}
use Rattle.aos_members.specs.Members as members
use Rattle.aos_symbols.specs.Env as env
use Rattle.aos_symbols.specs.Spelling.{word}
use Rattle.aos_symbols.proofs.Each.{Each, each_at}
use Rattle.aos_symbols.proofs.Told.{IsTold, IsKnown, FieldsAgree}
use Rattle.aos_known.specs.Known.{object_number, type_of}
use Rattle.aos_known.proofs.Inside.{Inside}
use Rattle.aos_arguments.specs.Filled.{filled_texts}
use Rattle.aos_designators.specs.Designators as desig
use Rattle.aos_check_expr.proofs.Opens.{some_there}
use Rattle.aos_check_expr.proofs.Whole.{IsTyped, closed, IsResultOf, IsSigned, IsSearched, IsWhole, NarrowsWell, opens_told}
use Rattle.aos_check_decl.proofs.Typing.{AreGood, AreReady}
use Rattle.aos_compile.specs.Modules.{pattern, body_beside}
use Rattle.aos_compile.proofs.Slots.{Word}
use Rattle.aos_compile.proofs.TypingFields.{fields_told, row_with, has_row, parts_of, own_behind, fields_extend, object_fielded}
use Rattle.aos_compile.proofs.TypingHomes.{IsHome, AreHomes, home_at}
use Rattle.aos_compile.proofs.TypingMethods.{Meant, bare, meant, start, IsMeant}
use Rattle.aos_compile.proofs.TypingObjects.{IsShaped}
use Rattle.aos_compile.proofs.TypingPatterns.{is_pattern, procedure_high}
use Rattle.aos_compile.proofs.TypingProcedures.{IsSignature, signed}
use Rattle.aos_compile.proofs.TypingTypes.{bases_there}

not_both : true ≡ false → ⊥
not_both e = cc

-- the place of a body: which scopes are searched there, what is its own, and what SELF is
pub record IsPlaced (p : Inside) (e : Env) : Type 0 where
  pub path : Each (IsSearched e) e.path
  pub locals : (s : Scope) (w : List ℕ) (x : Entry) (k : ℕ) → is_some (env.own_signature e) ≡ true →
      let o : Open = record { home = e.number; scope = env.innermost e.path } in
      env.scope e o ≡ Some s → find s w ≡ Some x → x.means ≡ means.Variable k → IsTyped p e (desig.own_place e k) (env.variable_type e o k)
  pub own : (s : Signature) → env.own_signature e ≡ Some s → (q : TypedProcedure) × (p.own ≡ Some q) × IsSigned e s q
  pub own_body : env.own_signature e ≡ None → result_of p.own ≡ None
  pub itself : (t : TypeId) → e.self_type ≡ Some t → (self_type p.own ≡ Some (object_number t)) × (is_object (row_of e.types t) ≡ true)

-- the initializer of a type is that of the program, in its slot
pub record IsBegun (p : Inside) (e : Env) (t : TypeId) : Type 0 where
  pub is : initializer p.program (object_number t) ≡ option_map (λ (m : Meant). m.slot) (start e t)
  pub there : (m : Meant) → start e t ≡ Some m →
      (q : TypedProcedure) × (slice_get (methods_of p.program (object_number t)) m.slot ≡ Some q) × (q.is_initializer ≡ true) × IsMeant e p.program.modules p.program.objects m q

-- the first of some types for which something is so
first_is : (test : TypeId → Bool) (ts : List TypeId) (t : TypeId) → members.first_along test ts ≡ Some t → test t ≡ true
first_is test [] t found = absurd (none-some t found)
first_is test (u ∷ ts) t found = by (test u) refl found (first_is test ts t)
  where
    by : (b : Bool) → test u ≡ b → (if b then Some u else members.first_along test ts) ≡ Some t → (members.first_along test ts ≡ Some t → test t ≡ true) → test t ≡ true
    by true is found deeper = ap test (sym (same_Some u t found)) ∙ is
    by false is found deeper = deeper found

module _ (p : Inside) (e : Env) (hs : List Home) (are : AreHomes e.types 0 hs p.program.modules) (at : (m : ℕ) (h : Home) → env.home e m ≡ Some h → slice_get hs m ≡ Some h)
    (table : AreReady e.types) (here : FieldsAgree e.types e.here) (before : (m : ℕ) (h : Home) → slice_get e.before m ≡ Some h → FieldsAgree e.types h)
    (none : e.narrowed ≡ []) (rows : p.program.types ≡ e.types) (count : length e.types ≡ 10 + length p.program.objects)
    (known : (t : TypeId) (o : ObjectScope) → members.object e t ≡ Some o → (h : Home) × (env.home e o.home ≡ Some h) × (object_of h t ≡ Some o))
    (shapes : (k : ℕ) (o : ObjectType) → slice_get p.program.objects k ≡ Some o → IsShaped e.types k o)
    (called : (t : TypeId) (w : Word) (m : Meant) → is_object (row_of e.types t) ≡ true → meant e t w ≡ Some m →
    (q : TypedProcedure) × (slice_get (methods_of p.program (object_number t)) m.slot ≡ Some q) × IsMeant e p.program.modules p.program.objects m q)
    (begun : (t : TypeId) → is_object (row_of e.types t) ≡ true → IsBegun p e t)
    (behind : (x : Module) × (slice_get p.program.modules e.number ≡ Some x) × (x.texts ≡ texts_of e.here ++ filled_texts e))
    (placed : IsPlaced p e) where
  home_of : (m : ℕ) (h : Home) → env.home e m ≡ Some h → (x : Module) × (slice_get p.program.modules m ≡ Some x) × IsHome e.types m h x
  home_of m h there = home_at e.types hs p.program.modules are m h (at m h there)

  counted : (m : ℕ) (h : Home) (x : Module) → env.home e m ≡ Some h → IsHome e.types m h x → length x.variables ≡ env.variable_count e m
  counted m h x there is =
      let scoped : env.scope e (env.own m) ≡ Some is.scope = ap (option_and_then (λ (h : Home). slice_get h.scopes 0)) there ∙ is.is in
      rw scoped (sym (length-map x.variables (λ v. v.of)) ∙ ap length is.typed ∙ length-map is.scope.variables type_of)

  by_signature : (m k : ℕ) (s : Scope) (w : List ℕ) (x : Entry) → env.scope e (env.own m) ≡ Some s → find s w ≡ Some x → x.means ≡ means.Procedure k →
      (g : Signature) → env.signature e m k ≡ Some g → (q : TypedProcedure) × (procedure_in p.program m k ≡ Some q) × IsSigned e g q
  by_signature m k s w x there found means g is = by (env.home e m) refl there is
    where
      by : (h : Option Home) → env.home e m ≡ h → option_and_then (λ (h : Home). slice_get h.scopes 0) h ≡ Some s → option_and_then (λ (h : Home). slice_get h.signatures k) h ≡ Some g →
          (q : TypedProcedure) × (procedure_in p.program m k ≡ Some q) × IsSigned e g q
      by None home there is = absurd (none-some g is)
      by (Some h) home there is =
          let one = home_of m h home in
          let same : one.2.scope ≡ s = same_Some one.2.scope s (sym one.2.is ∙ there) in
          let below = one.2.called w x k (ap (λ z. find z w) same ∙ found) means in
          let q = one.2.procedures k g below is in
          (q.0, ap (option_and_then (λ (x : Module). slice_get x.procedures k)) one.1 ∙ q.1, signed e g q.0 q.2)

  by_scope : (o : Open) (s : Scope) (h : Option Home) → env.home e o.home ≡ h → option_and_then (λ (h : Home). slice_get h.scopes o.scope) h ≡ Some s → AreGood s.constants
  by_scope o s None home there = absurd (none-some s there)
  by_scope o s (Some h) home there = (home_of o.home h home).2.good o.scope s there

  by_home : (o : Open) (s : Scope) (w : List ℕ) (x : Entry) (k : ℕ) → o.scope ≡ 0 → find s w ≡ Some x → x.means ≡ means.Variable k → env.scope e o ≡ Some s →
      (h : Option Home) → env.home e o.home ≡ h → option_and_then (λ (h : Home). slice_get h.scopes o.scope) h ≡ Some s → IsTyped p e (ModuleVar o.home k) (env.variable_type e o k)
  by_home o s w x k first found means there None home here = absurd (none-some s here)
  by_home o s w x k first found means there (Some h) home here =
      let one = home_of o.home h home in
      let same : one.2.scope ≡ s = same_Some one.2.scope s (sym one.2.is ∙ ap (slice_get h.scopes) (sym first) ∙ here) in
      let below : k < length s.variables =
      subst (λ (z : Scope). k < length z.variables) same (one.2.numbers w x k (ap (λ z. find z w) same ∙ found) means) in
      let of = some_there s.variables k below in
      let is : env.variable_type e o k ≡ of.0 = ap (λ z. env.joined (option_and_then (λ (s : Scope). slice_get s.variables k) z)) there ∙ ap env.joined of.1 in
      closed
      (ap (λ z. option_and_then (λ (x : Module). option_map (λ v. v.of) (slice_get x.variables k)) z) one.1
      ∙ sym (slice_get-map (λ v. v.of) one.0.variables k)
      ∙ ap (λ z. slice_get z k) (one.2.typed ∙ ap (λ (z : Scope). map type_of z.variables) same)
      ∙ slice_get-map type_of s.variables k
      ∙ ap (option_map type_of) of.1
      ∙ ap (λ z. Some (type_of z)) (sym is))
      (subst (IsKnown e.types) (sym is)
      (each_at (IsKnown e.types) s.variables k of.0 (subst (λ (z : Scope). Each (IsKnown e.types) z.variables) same one.2.known) of.1))

  -- Fields of SELF.

  abbrev IsOwnField : TypeId → TypeId → Open → ℕ → Type 0
  IsOwnField t b o k = (u : TypeId) × (env.variable_type e o k ≡ Some u) × (field_type e.types t (members.field_number e b k) ≡ Some u) × IsTold e.types u

  own_field : (t b : TypeId) (o : Open) (s : Scope) (w : List ℕ) (x : Entry) (k : ℕ) → comes_to e.types t b ≡ true → members.object_at e o ≡ Some b → env.scope e o ≡ Some s →
      find s w ≡ Some x → x.means ≡ means.Variable k → IsOwnField t b o k
  own_field t b o s w x k comes stands there found means = by (members.object e b) refl (standing e.self_type stands)
    where
      standing : (u : Option TypeId) → option_and_then (members.declarer e o) u ≡ Some b → members.stands_in o (members.object e b) ≡ true
      standing None is = absurd (none-some b is)
      standing (Some u) is = first_is (λ v. members.stands_in o (members.object e v)) (members.chain e.types u) b is

      by : (z : Option ObjectScope) → members.object e b ≡ z → members.stands_in o z ≡ true → IsOwnField t b o k
      by None object is = absurd (not_both (sym is))
      by (Some z) object is =
          let two = and_parts (z.home == o.home) (z.scope == o.scope) is in
          let home_same = eqb-true z.home o.home two.0 in
          let scope_same = eqb-true z.scope o.scope two.1 in
          let h = known b z object in
          let home : env.home e o.home ≡ Some h.0 = ap (env.home e) (sym home_same) ∙ h.1 in
          let one = home_of o.home h.0 home in
          let of = one.2.objects b z h.2 in
          let high = of.1 in
          let low = of.2 in
          let scoped : slice_get h.0.scopes o.scope ≡ Some s = sym (ap (option_and_then (λ (h : Home). slice_get h.scopes o.scope)) home) ∙ there in
          let below = one.2.inner o.scope s w x k (omega (arith, high, scope_same)) (omega (arith, low, scope_same)) scoped found means in
          let row = row_with (row_of e.types b) (object_fielded (row_of e.types b) of.4) in
          let agree = one.2.fields b s
          (ap (λ c. fields_of c h.0 b) of.4 ∙ ap (scope_of h.0) h.2 ∙ ap (slice_get h.0.scopes) scope_same ∙ scoped) in
          let variables = agree.1 row.base row.own (has_row e.types b row.kind row.base row.own row.is) in
          let long : length s.variables ≡ length row.own = ap length variables ∙ length-map row.own (λ (t : TypeId). Some t) in
          let u = some_there row.own k (omega (arith, below, long)) in
          let above = ranked e.types table.sound.none_contains_itself in
          let typed : slice_get s.variables k ≡ Some (Some u.0) =
          ap (λ vs. slice_get vs k) variables ∙ slice_get-map (λ (t : TypeId). Some t) row.own k ∙ ap (option_map (λ (t : TypeId). Some t)) u.1 in (
            u.0,
            ap (λ z. env.joined (option_and_then (λ (s : Scope). slice_get s.variables k) z)) there ∙ ap env.joined typed,
            fields_extend e.types above table.parts (bases_there e.types table) (length e.types) t b comes (object_fielded (row_of e.types b) of.4) (members.field_number e b k) u.0
                (own_behind e.types above table.parts (bases_there e.types table) b row k u.0 u.1),
            each_at (IsTold e.types) row.own k u.0 (parts_of e.types above table.parts (bases_there e.types table) b row).1 u.1,
          )

  -- Initializers.

  slots_bare : (o : Option Method) → option_map (λ (m : Meant). m.slot) (option_map bare o) ≡ option_map (λ (m : Method). m.slot) o
  slots_bare None = refl
  slots_bare (Some m) = refl

  initials : (t : TypeId) → is_object (row_of e.types t) ≡ true → initializer p.program (object_number t) ≡ option_map (λ (m : Method). m.slot) (members.initializer e t)
  initials t object = (begun t object).is ∙ slots_bare (members.initializer e t)

  initial : (t : TypeId) (m : Method) → members.initializer e t ≡ Some m → is_object (row_of e.types t) ≡ true → (s : Signature) → env.signature e m.home m.number ≡ Some s →
      (q : TypedProcedure) × (slice_get (methods_of p.program (object_number t)) m.slot ≡ Some q) × (q.result ≡ None) × IsSigned e s q
  initial t m found object s is =
      let one = (begun t object).there (bare m) (ap (option_map bare) found) in
      let told = one.3.typed in
      let proper = told.proper (sym told.mark ∙ one.2) in (
        one.0,
        one.1,
        subst (λ g. IsResultOf g one.0.result) proper told.result,
        signed e s one.0 (subst (λ (g : Signature). IsSignature e.types g one.0) (same_Some one.3.signature s (sym one.3.is ∙ is)) told),
      )

  -- Procedure types.

  patterns : (t : TypeId) (fs : List (Bool × TypeId)) (r : Option TypeId) → row_of e.types t ≡ Some (row.Procedure fs r) →
      (q : TypedProcedure) × (pattern_of p.program (Named (object_number t)) ≡ Some q) × IsPattern q fs r
  patterns t fs r is =
      let high = procedure_high e.types table t fs r is in
      let below = slice_get_within e.types t.0 (row.Procedure fs r) is in
      let k = object_number t in
      let id_is : id_of (Named k) ≡ t = ap (λ (n : ℕ). record { 0 = n }) (let same : (t.0 - 10) + 10 ≡ t.0 = omega (arith, high) in same) in
      let beside = some_there p.program.objects k (omega (arith, high, below, count)) in
      let shape = shapes k beside.0 beside.1 in
      let row_is : row_of e.types (id_of (Named k)) ≡ Some (row.Procedure fs r) = ap (row_of e.types) id_is ∙ is in
      let body_is : beside.0.body ≡ pattern fs r = shape.1 ∙ ap (λ x. body_beside x k shape.0) row_is in (
        pattern fs r,
        ap (λ rows. pattern_in p.program (row_of rows (id_of (Named k))) k) rows
            ∙ ap (λ x. pattern_in p.program x k) row_is
            ∙ ap (option_map (λ (o : ObjectType). o.body)) beside.1
            ∙ ap (λ z. Some z) body_is,
        is_pattern e.types table t fs r is,
      )

  by_method : (t : TypeId) (w : Word) (m : Method) → members.method_named e t w ≡ Some m → is_object (row_of e.types t) ≡ true → (s : Signature) → env.signature e m.home m.number ≡ Some s →
      (q : TypedProcedure) × (slice_get (methods_of p.program (object_number t)) m.slot ≡ Some q) × IsSigned e s q
  by_method t w m found object s is =
      let one = called t w (bare m) object (ap (option_map bare) found) in
      (one.0, one.1, signed e s one.0 (subst (λ (g : Signature). IsSignature e.types g one.0) (same_Some one.2.signature s (sym one.2.is ∙ is)) one.2.typed))

  pub whole : IsWhole p e
  whole = record {
    variables = λ o s w x k first there found means. by_home o s w x k first found means there (env.home e o.home) refl there;
    constants = λ o s there. by_scope o s (env.home e o.home) refl there;
    parts = table.parts;
    fields = fields_told e here before (ranked e.types table.sound.none_contains_itself) table.parts (bases_there e.types table);
    rows = rows;
    objects = count;
    basic = table.basic;
    written = table.written;
    opens = opens_told e table.opens;
    narrows = λ x k at. subst (NarrowsWell e x k (desig.variable e x k at)) (sym none) tt;
    path = placed.path;
    locals = placed.locals;
    own = placed.own;
    own_body = placed.own_body;
    itself = placed.itself;
    own_fields = λ t b o s w x k self comes stands there found means. own_field t b o s w x k comes stands there found means;
    methods = λ t n m found object s is. by_method t (word e.here.text n) m found object s is;
    initials = initials;
    initial = initial;
    patterns = patterns;
    signatures = by_signature;
    strings = λ m h there. let one = home_of m h there in (one.0, one.1, counted m h one.0 there one.2, one.2.more, one.2.texts);
    filled =
        let own : env.home e e.number ≡ Some e.here = ap (λ b. if b then Some e.here else slice_get e.before e.number) (eq-eqb e.number e.number refl) in
        let one = home_of e.number e.here own in
        let same : one.0 ≡ behind.0 = same_Some one.0 behind.0 (sym one.1 ∙ behind.1) in
        (behind.0, behind.1, ap (λ (x : Module). length x.variables) (sym same) ∙ counted e.number e.here one.0 own one.2, behind.2);
  }
