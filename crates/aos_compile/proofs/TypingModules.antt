-- One module more: where those before it are well typed and it breaks no rule, all are well typed.
use Rattle.std.proofs.Common.{◌≡◌, ℕ, zero, suc, ◌+◌, ◌<◌, ◌≤◌, ◌==◌, ◌⊎◌, inl, inr, List, [], ◌∷◌, ◌++◌, length, map, Bool, true, false, All, Option, Some, None, option_map, option_and_then, slice_get, sum_by, refl, sym, ap, ◌∙◌, subst, arith, eqb-true, eq-eqb, length-append, if◌then◌else◌}
use Rattle.std.specs.Option.{option_or}
use Rattle.std.specs.List.{flat_map}
use Rattle.std.proofs.lemmas.List.{length-map}
use Rattle.std.proofs.lemmas.List.Sums.{sum_by_push}
use Rattle.std.proofs.lemmas.List.Elements.{All-weaker, All-head, All-tail}
use Rattle.std.proofs.lemmas.Option.{none-some, same_Some, slice_get_within}
use Rattle.aos_base.specs.declared.limits.TheConstants.{MOST_SCALARS}
use Rattle.aos_base.specs.declared.text.Pos.{Pos}
use Rattle.aos_tree.specs.declared.decl.TypeDef.{TypeDef}
use Rattle.aos_tree.specs.declared.decl.TypeExpr.{TypeExpr}
use Rattle.aos_tree.specs.declared.decl.TypeExpr.TheVariants as type
use Rattle.aos_tree.specs.declared.module.Module.{Module as Tree}
use Rattle.aos_types.specs.declared.row.TypeId.{TypeId}
use Rattle.aos_types.specs.declared.row.TypeRow.{TypeRow}
use Rattle.aos_types.specs.Table.{row_of, is_object}
use Rattle.aos_typed.specs.Methods.{methods_of as methods_typed_of}
use Rattle.aos_typed.specs.Program.{Stats, Procedure as TypedProcedure, ObjectType, Module, Program}
use Rattle.aos_typed.specs.WellTyped.{procedure_in, AreStatements, IsProcedure}
use Rattle.aos_symbols.specs.declared.breach.Breach.{Breach}
use Rattle.aos_symbols.specs.declared.scope.Entry.{Entry}
use Rattle.aos_symbols.specs.declared.scope.Meaning.TheVariants as means
use Rattle.aos_symbols.specs.declared.home.ObjectScope.{ObjectScope}
use Rattle.aos_types.specs.declared.signature.Signature.{Signature}
use Rattle.aos_symbols.specs.declared.env.Open.{Open}
use Rattle.aos_symbols.specs.declared.env.Env.{Env}
use Rattle.aos_symbols.specs.Judged.{judged, walk}
use Rattle.aos_symbols.specs.Outcome.{went, passed}
use Rattle.aos_symbols.specs.Outcome as outcome
use Rattle.aos_symbols.specs.Declarations.{Procedure, procedures, methods_in, all_procedures, type_defs, all_type_defs, inner_parts, types_of, single_variables, formal_names, inner_decls}
use Rattle.aos_entries.specs.Entries.{procedure_scope, inner_scope, inner_scopes, scopes}
use Rattle.aos_symbols.specs.Scope.{Scope, find}
use Rattle.aos_symbols.specs.Home.{Home, object_of, texts_of}
use Rattle.aos_arguments.specs.Filled.{filled_texts}
use Rattle.aos_check_names.specs.Names.{name_breaches, declared_again, twice, module_names, other_end, within_decl}
use Rattle.aos_members.specs.Members as members
use Rattle.aos_symbols.specs.Env as env
use Rattle.aos_members.specs.Members.{object_among}
use Rattle.aos_symbols.proofs.Each.{Each, all_of, joined, implied, each_at}
use Rattle.aos_symbols.proofs.Holds.{none_left, none_right, passed_went, then_went, same_went}
use Rattle.aos_symbols.proofs.Told.{get_front, get_end, FieldsAgree}
use Rattle.aos_known.specs.Known.{object_number}
use Rattle.aos_known.proofs.Inside.{Inside}
use Rattle.aos_check_expr.proofs.Opens.{some_there, stand_fall}
use Rattle.aos_check_expr.proofs.Whole.{IsWhole}
use Rattle.aos_check_types.specs.Methods.{defined_type, method_breaches, type_breaches, definition_breaches}
use Rattle.aos_check_decl.specs.Pass.{declare}
use Rattle.aos_check_decl.proofs.Typing.{variable_cells, IsDeclared, declare_sound}
use Rattle.aos_check_decl.proofs.TypingEntries.{inner_at}
use Rattle.aos_check_stat.specs.Bodies.{listed, body_of}
use Rattle.aos_check_stat.proofs.Typing.{body_sound}
use Rattle.aos_variables.specs.Parts.{first_scope}
use Rattle.aos_compile.specs.Modules.{World, program_of, local_type, unnamed_type, other_types, bodies_from, defined_object, beside_in, object_in, methods_of, Beside, objects_from, Bodies, bodies, module_of, extended, elaborated}
use Rattle.aos_compile.proofs.Keeping.{one_keeps}
use Rattle.aos_compile.proofs.MethodNames.{AreOnceIn, types_once}
use Rattle.aos_compile.proofs.MethodsGrow.{objects_high, bases_high}
use Rattle.aos_compile.proofs.MethodsStay.{meant_stays, start_stays, has_own_on}
use Rattle.aos_compile.proofs.Numbered.{numbered_count}
use Rattle.aos_compile.proofs.ObjectScopes.{IsObject, is_object_or, scope_at, methods_before}
use Rattle.aos_compile.proofs.OwnMethods.{object, IsFound}
use Rattle.aos_compile.proofs.Slots.{Word}
use Rattle.aos_compile.proofs.TypingBodies.{base, around_module, procedures_sound}
use Rattle.aos_compile.proofs.TypingHomes.{AreHomes, home_at, same_length, one_more, objects_among, homes_on}
use Rattle.aos_compile.proofs.TypingMethods.{Meant, meant, start, IsMeant, HasOwn, HasStart, all_slots, all_starts, method_there}
use Rattle.aos_compile.proofs.TypingObjects.{IsShaped, IsBeside, IsSaidBeside, behind, shapes_new, shape_grows, beside_new, beside_grows, methods_typed}
use Rattle.aos_compile.proofs.TypingOutlook.{outlook, among_one, home_old, object_on, home_same_on, signed_on}
use Rattle.aos_compile.proofs.TypingOwn.{flat_none, beside_at, defined_at, new_objects, found_at, is_found}
use Rattle.aos_compile.proofs.TypingPrograms.{HaveTypes, Grows, grown, body_grows}
use Rattle.aos_compile.proofs.TypingProcedures.{HaveHeadings, IsSignature, AreBodies as AreProcedureBodies, procedures_typed, procedure_grows}
use Rattle.aos_compile.proofs.TypingSaid.{plain_methods, said}
use Rattle.aos_compile.proofs.TypingScopes.{locals_are, fields_are, procedure_at}
use Rattle.aos_compile.proofs.TypingSlots.{all_own}
use Rattle.aos_compile.proofs.TypingSums.{home_scalars, home_is, homes_stay}
use Rattle.aos_compile.proofs.TypingWhole.{IsPlaced, IsBegun, whole}
use Rattle.aos_compile.proofs.TypingWorld.{AreTyped, IsWorld, ready, home}

not_both : true ≡ false → ⊥
not_both e = cc

all_at : {X : Type 0} (P : X → Type 0) (xs : List X) (i : ℕ) (x : X) → All P xs → slice_get xs i ≡ Some x → P x
all_at P [] i x all e = absurd (none-some x e)
all_at P (y ∷ ys) zero x all e = subst P (same_Some y x e) (All-head P y ys all)
all_at P (y ∷ ys) (suc i) x all e = all_at P ys i x (All-tail P y ys all) e

-- A body for each procedure.

bodies_count : (e : Env) (qs : List Procedure) (k : ℕ) (done : List Stats) → length (bodies_from e k done qs).answer ≡ length done + length qs
bodies_count e [] k done = omega arith
bodies_count e (q ∷ qs) k done =
    let b = listed (body_of (env.within e k) false q.body).answer in
    bodies_count e qs (suc k) (done ++ b ∷ []) ∙ counted (length-append done (b ∷ []))
  where
    counted : {n : ℕ} → n ≡ length done + 1 → n + length qs ≡ length done + suc (length qs)
    counted is = omega arith

-- Something stands beside each type.

object_count : (e : Env) (first : ℕ) (ds : List TypeDef) (os : List Beside) → length (walk (object_in e first) os ds).answer ≡ length os + length ds
object_count e first [] os = omega arith
object_count e first (d ∷ ds) os =
    let x = (beside_in e first d (defined_object e d)).answer in
    object_count e first ds (os ++ x ∷ []) ∙ counted (length-append os (x ∷ []))
  where
    counted : {n : ℕ} → n ≡ length os + 1 → n + length ds ≡ length os + suc (length ds)
    counted is = omega arith

beside_count : (e : Env) (m : Tree) → length (bodies e m).answer.objects ≡ length (all_type_defs m.decls) + length e.places
beside_count e m =
    let own = type_defs m.decls in
    let inner = types_of (inner_parts m.decls) in
    let os = (walk (object_in e (first_scope m)) [] own).answer in
    omega (
      arith,
      object_count e (first_scope m) own [],
      length-append os (other_types e m),
      length-append (map (local_type e) inner) (map unnamed_type e.places),
      length-map inner (local_type e),
      length-map e.places unnamed_type,
      length-append own inner,
    )

-- What definitions say that break no rule.

walk_none : (e : Env) (first : ℕ) (ds : List TypeDef) (xs : List Beside) (j : ℕ) (d : TypeDef) → (walk (object_in e first) xs ds).breaches ≡ [] → slice_get ds j ≡ Some d →
    (beside_in e first d (defined_object e d)).breaches ≡ []
walk_none e first [] xs j d none is = absurd (none-some d is)
walk_none e first (x ∷ ds) xs zero d none is =
    let one = beside_in e first x (defined_object e x) in
    ap (λ (z : TypeDef). (beside_in e first z (defined_object e z)).breaches) (sym (same_Some x d is))
    ∙ none_left one.breaches [] (none_left (one.breaches ++ []) (walk (object_in e first) (xs ++ one.answer ∷ []) ds).breaches none)
walk_none e first (x ∷ ds) xs (suc j) d none is =
    let one = beside_in e first x (defined_object e x) in
    walk_none e first ds (xs ++ one.answer ∷ []) j d (none_right (one.breaches ++ []) (walk (object_in e first) (xs ++ one.answer ∷ []) ds).breaches none) is

-- beside types that aren't defined by the module's declarations is nothing
abbrev IsBare : Beside → Type 0
IsBare x = (x.methods ≡ []) × ((p : Program) (k : ℕ) → IsSaidBeside p k x)

locals_bare : (e : Env) (ds : List TypeDef) → Each IsBare (map (local_type e) ds)
locals_bare e [] = tt
locals_bare e (d ∷ ds) = ((refl, λ p k. record { typed = tt; methods = tt; others = inr (refl, refl) }), locals_bare e ds)

unnamed_bare : (ps : List Pos) → Each IsBare (map unnamed_type ps)
unnamed_bare [] = tt
unnamed_bare (p ∷ ps) = ((refl, λ p k. record { typed = tt; methods = tt; others = inr (refl, refl) }), unnamed_bare ps)

others_bare : (e : Env) (m : Tree) → Each IsBare (other_types e m)
others_bare e m =
    joined IsBare (map (local_type e) (types_of (inner_parts m.decls))) (map unnamed_type e.places) (locals_bare e (types_of (inner_parts m.decls))) (unnamed_bare e.places)

no_decls : (x : TypeExpr) → (IsObject x → ⊥) → inner_decls x ≡ []
no_decls (type.Object' p parent shape row body end) never = absurd (never tt)
no_decls (type.Named q) never = refl
no_decls (type.Array' p lengths shape row) never = refl
no_decls (type.Record' p parent shape row) never = refl
no_decls (type.Pointer' p shape row) never = refl
no_decls (type.Proc p flag formals) never = refl

object_there : (types : List TypeRow) (t : TypeId) → is_object (row_of types t) ≡ true → t.0 < length types
object_there types t object = by (row_of types t) refl object
  where
    by : (r : Option TypeRow) → row_of types t ≡ r → is_object r ≡ true → t.0 < length types
    by None is object = absurd (not_both (sym object))
    by (Some r) is object = slice_get_within types t.0 r is

module _ (w : World) (sound : IsWorld w) (text : List ℕ) (m : Tree) (once : Each (AreOnceIn text) (type_defs m.decls)) (e : Env)
    (is : IsDeclared (length w.before) w.before w.types text m e) where
  abbrev b : Bodies
  b = (bodies e m).answer

  abbrev first : ℕ
  first = first_scope m

  abbrev type_at : ℕ → TypeId
  type_at j = record { 0 = length w.types + j }

  abbrev world : World
  world = extended w e m b

  abbrev own_besides : List Beside
  own_besides = (walk (object_in e first) [] (type_defs m.decls)).answer

  -- Its object types.

  numbered : (j : ℕ) (d : TypeDef) → slice_get (type_defs m.decls) j ≡ Some d → IsObject d.value → slice_get is.numbers j ≡ Some (Some (type_at j))
  numbered j d there kind = (is.defined j d there kind).1

  defined : (j : ℕ) (d : TypeDef) → slice_get (type_defs m.decls) j ≡ Some d → IsObject d.value → defined_type e d ≡ Some (type_at j)
  defined j d there kind = (is.defined j d there kind).0

  other : (t : TypeId) (o : ObjectScope) → object_of e.here t ≡ Some o →
      (j : ℕ) × (d : TypeDef) × (slice_get (type_defs m.decls) j ≡ Some d) × IsObject d.value × (t.0 ≡ length w.types + j) × (o.home ≡ length w.before)
  other t o at =
      let one = defined_at w.types (length w.before) w.before text is.numbers m e is.number_is is.text_is is.objects_are numbered t o at in
      (one.0, one.1, one.2, one.3, one.4, ap (λ (z : ObjectScope). z.home) one.5)

  new : (t : TypeId) (o : ObjectScope) → object_of e.here t ≡ Some o → (length w.types ≤ t.0) × (o.home ≡ length w.before)
  new t o at = new_objects w.types (length w.before) w.before text is.numbers m e is.number_is is.text_is is.objects_are numbered t o at

  old : (t : TypeId) (o : ObjectScope) → object_among w.before t ≡ Some o → (t.0 < length w.types) × (o.home < length w.before)
  old t o at = objects_among w.types w.before w.modules sound.homes t o at

  found_there : (j : ℕ) (d : TypeDef) → slice_get (type_defs m.decls) j ≡ Some d → IsObject d.value →
      members.object e (type_at j) ≡ Some (scope_at e.number j (length (procedures m.decls) + methods_before (type_defs m.decls) j) d)
  found_there j d there kind = found_at w.types (length w.before) w.before text is.numbers m e is.number_is is.text_is is.objects_are numbered j d there kind

  found : (j : ℕ) (d : TypeDef) → slice_get (type_defs m.decls) j ≡ Some d → IsObject d.value → IsFound e m j d (type_at j)
  found j d there kind =
      is_found w.types (length w.before) w.before text is.numbers m e is.number_is is.text_is is.objects_are numbered is.all_entries_are once is.slots_are defined j d there kind

  -- an object type is this module's, or one of the modules before
  by_home : (t : TypeId) (o : ObjectScope) → members.object e t ≡ Some o → (object_of e.here t ≡ Some o) ⊎ (object_among w.before t ≡ Some o)
  by_home t o at = by (object_of e.here t) refl at
    where
      by : (p : Option ObjectScope) → object_of e.here t ≡ p → option_or p (object_among e.before t) ≡ Some o → (object_of e.here t ≡ Some o) ⊎ (object_among w.before t ≡ Some o)
      by None here at = inr (ap (λ hs. object_among hs t) (sym is.before_is) ∙ at)
      by (Some p) here at = inl (here ∙ at)

  placed_here : (t : TypeId) (o : ObjectScope) → object_of e.here t ≡ Some o → (0 < o.scope) × (o.scope < first) × (is_object (row_of e.types t) ≡ true)
  placed_here t o at =
      let one = defined_at w.types (length w.before) w.before text is.numbers m e is.number_is is.text_is is.objects_are numbered t o at in
      let number = one.4 in
      let scope : o.scope ≡ suc one.0 = ap (λ (z : ObjectScope). z.scope) one.5 in
      let below = slice_get_within (type_defs m.decls) one.0 one.1 one.2 in
      let same : type_at one.0 ≡ t = ap (λ (n : ℕ). record { 0 = n }) (sym number) in
      (omega (arith, scope), omega (arith, scope, below), subst (λ (u : TypeId). is_object (row_of e.types u) ≡ true) same (is.defined one.0 one.1 one.2 one.3).2)

  abbrev IsBefore : TypeId → ObjectScope → Type 0
  IsBefore t o = (n : ℕ) × (h : Home) × (slice_get w.before n ≡ Some h) × (object_of h t ≡ Some o) × (o.home ≡ n) × (0 < o.scope) × (t.0 < length w.types) × (is_object (row_of w.types t) ≡ true)

  placed_before : (t : TypeId) (o : ObjectScope) → object_among w.before t ≡ Some o → IsBefore t o
  placed_before t o at =
      let one = among_one w.before t o at in
      let of = (home_at w.types w.before w.modules sound.homes one.0 one.1 one.2).2.objects t o one.3 in
      (one.0, one.1, one.2, one.3, of.0, of.1, of.3, of.4)

  object_typed : (t : TypeId) (o : ObjectScope) → members.object e t ≡ Some o → (0 < o.scope) × (o.home ≡ e.number → o.scope < first) × (is_object (row_of e.types t) ≡ true)
  object_typed t o at = by (by_home t o at)
    where
      by : (object_of e.here t ≡ Some o) ⊎ (object_among w.before t ≡ Some o) → (0 < o.scope) × (o.home ≡ e.number → o.scope < first) × (is_object (row_of e.types t) ≡ true)
      by (inl here) = let one = placed_here t o here in (one.0, λ same. one.1, one.2)
      by (inr before) =
          let one = placed_before t o before in
          let home = one.4 in
          let number = is.number_is in
          let below = slice_get_within w.before one.0 one.1 one.2 in
          (one.5, λ same. absurd (omega (arith, same, home, number, below)), ap is_object (is.stays t.0 one.6) ∙ one.7)

  placed : (t : TypeId) (o : ObjectScope) → object_of e.here t ≡ Some o → (0 < o.scope) × (t.0 < length e.types) × (is_object (row_of e.types t) ≡ true)
  placed t o at = let one = placed_here t o at in (one.0, object_there e.types t one.2, one.2)

  -- a variable in the scope of an object type is one of its fields
  fields : (k : ℕ) (s : Scope) (v : List ℕ) (x : Entry) (n : ℕ) → 0 < k → k < e.here.first → slice_get e.here.scopes k ≡ Some s → find s v ≡ Some x → x.means ≡ means.Variable n →
      n < length s.variables
  fields zero s v x n low high there found means = absurd (omega (arith, low))
  fields (suc j) s v x n low high there found means =
      let count = is.first_is in
      let d = some_there (type_defs m.decls) j (omega (arith, high, count)) in
      let own = type_defs m.decls in
      let one = inner_at text is.numbers (length own) own j d.0 d.1 in
      let inner = inner_scope text is.numbers one.0 (inner_decls d.0.value) in
      let at : slice_get (scopes text w.before is.numbers m) (suc j) ≡ Some inner = get_front (inner_scopes text is.numbers (length own) own) _ j inner one.1 in
      let entries : s.entries ≡ inner.entries =
      same_Some s.entries inner.entries
      (sym (ap (option_map (λ (z : Scope). z.entries)) there) ∙ is.all_entries_are (suc j) ∙ ap (option_map (λ (z : Scope). z.entries)) at) in
      let less = fields_are text is.numbers one.0 d.0 v x n (ap (λ es. find (record { entries = es; constants = []; variables = [] }) v) (sym entries) ∙ found) means in
      by d.0 d.1 less (is_object_or d.0.value)
    where
      by : (d : TypeDef) → slice_get (type_defs m.decls) j ≡ Some d → n < length (single_variables (inner_decls d.value)) → IsObject d.value ⊎ (IsObject d.value → ⊥) → n < length s.variables
      by d at less (inl kind) = let many = is.object_fields j d s at kind there in omega (arith, less, many)
      by d at less (inr never) = let none = ap (λ ds. length (single_variables ds)) (no_decls d.value never) in absurd (omega (arith, less, none))

  -- Homes beside their modules.

  many : length b.procedures ≡ length (procedures m.decls)
  many = bodies_count e (procedures m.decls) first [] ∙ (let same : 0 + length (procedures m.decls) ≡ length (procedures m.decls) = omega arith in same)

  homes_now : AreHomes e.types 0 w.before w.modules
  homes_now = homes_on w.types e.types sound.table is.table is.goes_on is.stays w.before w.modules sound.homes

  homes_more : AreHomes e.types 0 world.before world.modules
  homes_more = one_more e.types w.before w.modules e.here (module_of e m b) homes_now (home w sound text m e is b many placed fields)

  -- the last module has the string constants with 0X behind them
  filled_there : (x : Module) × (slice_get world.modules e.number ≡ Some x) × (x.texts ≡ texts_of e.here ++ filled_texts e)
  filled_there =
      let long = same_length w.types 0 w.before w.modules sound.homes in
      (module_of e m b, ap (slice_get world.modules) (is.number_is ∙ long) ∙ get_end w.modules (module_of e m b), refl)

  fields_before : (k : ℕ) (h : Home) → slice_get e.before k ≡ Some h → FieldsAgree e.types h
  fields_before k h at = (home_at e.types w.before w.modules homes_now k h (ap (λ hs. slice_get hs k) (sym is.before_is) ∙ at)).2.fields

  at_home : (k : ℕ) (h : Home) → env.home e k ≡ Some h → slice_get world.before k ≡ Some h
  at_home k h = by (k == e.number) refl
    where
      by : (c : Bool) → (k == e.number) ≡ c → (if c then Some e.here else slice_get e.before k) ≡ Some h → slice_get world.before k ≡ Some h
      by true at there = ap (slice_get world.before) (eqb-true k e.number at ∙ is.number_is) ∙ get_end w.before e.here ∙ there
      by false at there = get_front w.before (e.here ∷ []) k h (ap (λ hs. slice_get hs k) (sym is.before_is) ∙ there)

  long : length e.types ≡ length w.types + length b.objects
  long = let all = is.long in let beside = beside_count e m in omega (arith, all, beside)

  count : length e.types ≡ 10 + length world.objects
  count =
      let all = long in
      let before = sound.count in
      omega (arith, all, before, numbered_count e (length w.objects) b.objects, length-append w.objects (objects_from e (length w.objects) b.objects))

  -- What stands beside its types.

  defined_is : (j : ℕ) (d : TypeDef) → slice_get (type_defs m.decls) j ≡ Some d → IsObject d.value → defined_object e d ≡ Some (type_at j, object e m j d (type_at j))
  defined_is j d there kind =
      ap (option_and_then (λ t. option_map (λ o. (t, o)) (members.object e t))) (defined j d there kind) ∙ ap (option_map (λ o. (type_at j, o))) (found_there j d there kind)

  own_at_place : (j : ℕ) (d : TypeDef) → slice_get (type_defs m.decls) j ≡ Some d → slice_get own_besides j ≡ Some (beside_in e first d (defined_object e d)).answer
  own_at_place j d there = ap (slice_get own_besides) (let same : j ≡ 0 + j = omega arith in same) ∙ beside_at e first (type_defs m.decls) [] j d there

  beside_there : (j : ℕ) (d : TypeDef) → slice_get (type_defs m.decls) j ≡ Some d → slice_get b.objects j ≡ Some (beside_in e first d (defined_object e d)).answer
  beside_there j d there = get_front own_besides (other_types e m) j (beside_in e first d (defined_object e d)).answer (own_at_place j d there)

  -- one of them is that of a definition
  of_definition : (j : ℕ) (x : Beside) → slice_get own_besides j ≡ Some x →
      (d : TypeDef) × (slice_get (type_defs m.decls) j ≡ Some d) × (x ≡ (beside_in e first d (defined_object e d)).answer)
  of_definition j x at =
      let below = slice_get_within own_besides j x at in
      let many = object_count e first (type_defs m.decls) [] in
      let d = some_there (type_defs m.decls) j (omega (arith, below, many)) in
      (d.0, d.1, same_Some x (beside_in e first d.0 (defined_object e d.0)).answer (sym at ∙ own_at_place j d.0 d.1))

  beside : (j : ℕ) (d : TypeDef) → slice_get (type_defs m.decls) j ≡ Some d → IsObject d.value → (bs : List Stats) × (length bs ≡ length (methods_in d))
      × (option_map (λ (x : Beside). x.methods) (slice_get b.objects j) ≡ Some (methods_of e first (object e m j d (type_at j)) (methods_in d) bs))
  beside j d there kind =
      let f = members.within_object e (type_at j) in
      let k = first + (object e m j d (type_at j)).methods in (
        (bodies_from f k [] (methods_in d)).answer,
        bodies_count f (methods_in d) k [] ∙ (let same : 0 + length (methods_in d) ≡ length (methods_in d) = omega arith in same),
        ap (option_map (λ (x : Beside). x.methods)) (beside_there j d there ∙ ap (λ z. Some (beside_in e first d z).answer) (defined_is j d there kind)),
      )

  bare : (j : ℕ) (x : Beside) → slice_get b.objects j ≡ Some x → ((d : TypeDef) → slice_get (type_defs m.decls) j ≡ Some d → IsObject d.value → ⊥) → x.methods ≡ []
  bare =
      behind own_besides (other_types e m) (λ j x. ((d : TypeDef) → slice_get (type_defs m.decls) j ≡ Some d → IsObject d.value → ⊥) → x.methods ≡ [])
      (λ j x at never. let one = of_definition j x at in
      ap (λ (z : Beside). z.methods) one.2 ∙ plain_methods e first one.0 (never one.0 one.1) (defined_object e one.0))
      (λ j x at never. (each_at IsBare (other_types e m) j x (others_bare e m) at).0)

  -- rule 22 is kept
  kept_here : (j : ℕ) (d : TypeDef) → slice_get (type_defs m.decls) j ≡ Some d → IsObject d.value → (i : ℕ) (p : Procedure) → slice_get (methods_in d) i ≡ Some p →
      method_breaches e (type_at j) p ≡ []
  kept_here j d there kind i p at =
      flat_none (method_breaches e (type_at j)) (methods_in d) i p
      (ap (λ o. type_breaches e o (methods_in d)) (sym (defined j d there kind)) ∙ flat_none (definition_breaches e) (type_defs m.decls) j d is.overrides there) at

  -- Methods.

  has_own : (t : TypeId) → 10 ≤ t.0 → t.0 < length e.types → HasOwn e world.modules world.objects t
  has_own =
      all_own w.before w.types w.modules (module_of e m b ∷ []) w.objects e m b.objects is.number_is is.before_is sound.table is.table is.stays sound.homes sound.count long sound.own other found
      is.procedures kept_here beside bare

  called : (t : TypeId) (v : Word) (x : Meant) → is_object (row_of e.types t) ≡ true → meant e t v ≡ Some x →
      (q : TypedProcedure) × (slice_get (methods_typed_of (program_of world) (object_number t)) x.slot ≡ Some q) × IsMeant e world.modules world.objects x q
  called t v x object found =
      let high = objects_high e.types is.table t object in
      let there = object_there e.types t object in
      method_there e world.modules world.objects is.table count t
      (all_slots e world.modules world.objects is.table count has_own (bases_high e.types is.table) t high there) v x found

  -- where a body stands nothing else is meant
  called_at : (path : List Open) (self : Option TypeId) (t : TypeId) (v : Word) (x : Meant) → is_object (row_of e.types t) ≡ true → meant (record e { path = path; self_type = self }) t v ≡ Some x →
      (q : TypedProcedure) × (slice_get (methods_typed_of (program_of world) (object_number t)) x.slot ≡ Some q)
      × IsMeant (record e { path = path; self_type = self }) world.modules world.objects x q
  called_at path self t v x object found =
      let f : Env = record e { path = path; self_type = self } in
      let there = object_there e.types t object in
      let one = called t v x object (sym (meant_stays e f is.table is.table (λ k less. refl) (λ u less. refl) (λ u o less at. refl) t there v) ∙ found) in
      (one.0, one.1, record { signature = one.2.signature; is = one.2.is; typed = one.2.typed })

  -- Initializers.

  begun : (t : TypeId) → is_object (row_of e.types t) ≡ true → HasStart e world.modules world.objects t
  begun t object =
      all_starts e world.modules world.objects is.table count has_own (bases_high e.types is.table) t (objects_high e.types is.table t object) (object_there e.types t object)

  begun_at : (own : Option TypedProcedure) (path : List Open) (self : Option TypeId) (t : TypeId) → is_object (row_of e.types t) ≡ true →
      IsBegun (record { program = program_of world; own = own; basic = is.table.basic }) (record e { path = path; self_type = self }) t
  begun_at own path self t object =
      let f : Env = record e { path = path; self_type = self } in
      let same : start f t ≡ start e t = start_stays e f is.table is.table (λ k less. refl) (λ u less. refl) (λ u o less at. refl) t (object_there e.types t object) in
      let one = begun t object in
      record {
        is = one.is ∙ ap (option_map (λ (x : Meant). x.slot)) (sym same);
        there = λ x found.
            let two = one.there x (sym same ∙ found) in
            (two.0, two.1, two.2, record { signature = two.3.signature; is = two.3.is; typed = two.3.typed });
      }

  -- The bodies beside all types.

  shapes : (k : ℕ) (o : ObjectType) → slice_get world.objects k ≡ Some o → IsShaped e.types k o
  shapes =
      behind w.objects (objects_from e (length w.objects) b.objects) (IsShaped e.types)
      (λ k o there. let below = slice_get_within w.objects k o there in
      shape_grows w.types e.types is.stays k o (let before = sound.count in omega (arith, below, before)) (sound.shapes k o there))
      (λ j o there. shapes_new e b.objects (length w.objects) j o there)

  known : (t : TypeId) (o : ObjectScope) → members.object e t ≡ Some o → (h : Home) × (env.home e o.home ≡ Some h) × (object_of h t ≡ Some o)
  known t o at = by (by_home t o at)
    where
      by : (object_of e.here t ≡ Some o) ⊎ (object_among w.before t ≡ Some o) → (h : Home) × (env.home e o.home ≡ Some h) × (object_of h t ≡ Some o)
      by (inl here) =
          let home = (new t o here).1 ∙ sym is.number_is in
          (e.here, ap (λ b. if b then Some e.here else slice_get e.before o.home) (eq-eqb o.home e.number home), here)
      by (inr before) =
          let one = placed_before t o before in
          let below = slice_get_within w.before one.0 one.1 one.2 in (
            one.1,
            ap (env.home e) one.4 ∙ home_old w.before w.types e is.number_is is.before_is old new one.0 below ∙ one.2,
            one.3,
          )

  -- The environment of bodies.

  abbrev inside : Option TypedProcedure → Inside
  inside own = record { program = program_of world; own = own; basic = is.table.basic }

  everywhere : (own : Option TypedProcedure) (path : List Open) (self : Option TypeId) → IsPlaced (inside own) (record e { path = path; self_type = self }) →
      IsWhole (inside own) (record e { path = path; self_type = self })
  everywhere own path self placed =
      whole (inside own) (record e { path = path; self_type = self }) world.before homes_more at_home is.table is.fields fields_before is.narrowed_is refl count known shapes (called_at path self) (begun_at own path self) filled_there placed

  own_path : e.path ≡ env.own e.number ∷ []
  own_path = is.path_is ∙ ap (λ n. env.own n ∷ []) (sym is.number_is)

  locals_below : (j : ℕ) (q : Procedure) → slice_get (all_procedures m.decls) j ≡ Some q → (s : Scope) → slice_get e.here.scopes (first + j) ≡ Some s →
      (v : List ℕ) (x : Entry) (k : ℕ) → find s v ≡ Some x → x.means ≡ means.Variable k → k < length s.variables
  locals_below j q at s there v x k found means =
      let one = is.procedures j q at in
      let same : one.scope ≡ s = same_Some one.scope s (sym one.scope_is ∙ there) in
      let from = procedure_at text w.before is.numbers m j q at in
      let made = procedure_scope text is.numbers from.0 q.formals q.decls in
      let entries : s.entries ≡ made.entries =
      same_Some s.entries made.entries
      (sym (ap (option_map (λ (z : Scope). z.entries)) there) ∙ is.all_entries_are (first + j) ∙ ap (option_map (λ (z : Scope). z.entries)) from.1) in
      let less : k < length (formal_names q.formals) + length (single_variables q.decls) =
      locals_are text is.numbers from.0 q v x k (ap (λ es. find (record { entries = es; constants = []; variables = [] }) v) (sym entries) ∙ found) means in
      subst (λ (z : Scope). k < length z.variables) same (subst (λ n. k < n) (sym one.heading.count) less)

  -- the number of a type as the program has it
  number_on : (j : ℕ) → type_at j ≡ record { 0 = 10 + (length w.objects + j) }
  number_on j = let before = sound.count in ap (λ (n : ℕ). record { 0 = n }) (let same : length w.types + j ≡ 10 + (length w.objects + j) = omega (arith, before) in same)

  module _ (none : (bodies e m).breaches ≡ []) where
    abbrev object_breaches : List Breach
    object_breaches = (walk (object_in e first) [] (type_defs m.decls)).breaches

    abbrev procedure_breaches : List Breach
    procedure_breaches = (bodies_from e first [] (procedures m.decls)).breaches

    abbrev own_breaches : List Breach
    own_breaches = (body_of e false m.body).breaches

    behind_objects : procedure_breaches ++ (own_breaches ++ []) ≡ []
    behind_objects = none_right object_breaches (procedure_breaches ++ (own_breaches ++ [])) none

    was : AreTyped w
    was = sound.typed

    said_beside : (j : ℕ) (x : Beside) → slice_get b.objects j ≡ Some x → IsSaidBeside (program_of world) (length w.objects + j) x
    said_beside =
        behind own_besides (other_types e m) (λ j x. IsSaidBeside (program_of world) (length w.objects + j) x)
        (λ j x at. let one = of_definition j x at in
        subst (IsSaidBeside (program_of world) (length w.objects + j)) (sym one.2)
        (said (program_of world) e m is.table.basic refl everywhere own_path is.self_is is.first_is is.procedures locals_below object_typed (length w.objects)
        (λ i d there kind. defined i d there kind ∙ ap (λ t. Some t) (number_on i))
        (λ i d there kind. ap (members.object e) (sym (number_on i)) ∙ found_there i d there kind) j one.0 one.1
        (walk_none e first (type_defs m.decls) [] j one.0 (none_left object_breaches (procedure_breaches ++ (own_breaches ++ [])) none) one.1)))
        (λ j x at. (each_at IsBare (other_types e m) j x (others_bare e m) at).1 (program_of world) (length w.objects + (length own_besides + j)))

    abbrev ProcedureBodies : List Stats → Type 0
    ProcedureBodies bs = AreProcedureBodies (program_of world) is.table.basic e.here.text None e.here.scopes first (procedures m.decls) e.here.signatures bs

    no_self : (t : TypeId) → e.self_type ≡ Some t → None ≡ Some (object_number t)
    no_self t self = absurd (none-some t (sym is.self_is ∙ self))

    procedures_here : ProcedureBodies b.procedures
    procedures_here =
        let more =
        procedures_sound (program_of world) e m is.table.basic everywhere own_path is.self_is is.first_is is.procedures locals_below object_typed e.path e.self_type
        (around_module (program_of world) e m is.table.basic everywhere own_path is.self_is is.first_is is.procedures locals_below object_typed) None no_self
        0 (procedures m.decls) e.here.signatures first [] (let same : first ≡ first + 0 = omega arith in same)
        (λ i q at. ap (slice_get (all_procedures m.decls)) (let same : 0 + i ≡ i = omega arith in same) ∙ get_front (procedures m.decls) (flat_map methods_in (type_defs m.decls)) i q at)
        (λ i. ap (slice_get e.here.signatures) (let same : i ≡ 0 + i = omega arith in same)) (none_left procedure_breaches (own_breaches ++ []) behind_objects) in
        subst ProcedureBodies (sym more.1) more.2

    own_body_here : AreStatements (program_of world) None (listed b.own)
    own_body_here =
        body_sound (inside None) e (base (program_of world) e m is.table.basic everywhere own_path is.self_is is.first_is is.procedures locals_below object_typed) false m.body
        (none_left own_breaches [] (none_right procedure_breaches (own_breaches ++ []) behind_objects))

    -- All modules.

    abbrev IsPlain : TypedProcedure → Type 0
    IsPlain q = IsProcedure (program_of w) q × (q.of ≡ None)

    abbrev IsPlainOn : TypedProcedure → Type 0
    IsPlainOn q = IsProcedure (program_of world) q × (q.of ≡ None)

    parameters_there : (n k : ℕ) (x : TypedProcedure) → procedure_in (program_of w) n k ≡ Some x → HaveTypes (program_of w) x.parameters
    parameters_there n k x there = by (slice_get w.modules n) refl there
      where
        by : (o : Option Module) → slice_get w.modules n ≡ o → option_and_then (λ (y : Module). slice_get y.procedures k) o ≡ Some x → HaveTypes (program_of w) x.parameters
        by None at there = absurd (none-some x there)
        by (Some y) at there =
            (all_at IsPlain y.procedures k x (each_at (λ (y : Module). All IsPlain y.procedures) w.modules n y was.procedures at) there).0.parameters

    grows : Grows (program_of w) (program_of world)
    grows =
        grown w.modules (module_of e m b ∷ []) w.types e.types w.objects (objects_from e (length w.objects) b.objects) is.stays sound.table is.table sound.count count parameters_there
        (λ k o there. methods_typed (program_of w) k o (was.objects k o there)) (λ k o there. (was.objects k o there).typed.parameters)

    longer : length world.modules ≡ length w.modules + 1
    longer = length-append w.modules (module_of e m b ∷ [])

    abbrev AreSound : Module → Type 0
    AreSound x = AreStatements (program_of world) None x.body.statements

    all_bodies : Each AreSound world.modules
    all_bodies =
        joined AreSound w.modules (module_of e m b ∷ [])
        (implied (λ x. AreStatements (program_of w) None x.body.statements) AreSound (λ x is. body_grows (program_of w) (program_of world) grows x.body.statements is) w.modules was.bodies)
        (own_body_here, tt)

    here : e.number < length world.modules
    here = omega (arith, longer, is.number_is, same_length w.types 0 w.before w.modules sound.homes)

    all_objects : (k : ℕ) (o : ObjectType) → slice_get world.objects k ≡ Some o → IsBeside (program_of world) k o
    all_objects =
        behind w.objects (objects_from e (length w.objects) b.objects) (IsBeside (program_of world))
        (λ k o there. beside_grows (program_of w) (program_of world) grows sound.count (omega (arith, longer)) k o there (was.objects k o there))
        (beside_new (program_of world) e is.table refl here b.objects (length w.objects) said_beside)

    headings : HaveHeadings (program_of world) is.table.basic e.here.text e.here.scopes first (procedures m.decls) e.here.signatures
    headings j q at =
        let one = is.procedures j q (get_front (procedures m.decls) (flat_map methods_in (type_defs m.decls)) j q at) in
        record { signature = one.signature; scope = one.scope; signature_is = one.signature_is; scope_is = one.scope_is; heading = one.heading }

    abbrev AreProcedures : Module → Type 0
    AreProcedures x = All IsPlainOn x.procedures

    all_procedures_there : Each AreProcedures world.modules
    all_procedures_there =
        joined AreProcedures w.modules (module_of e m b ∷ [])
        (implied (λ x. All IsPlain x.procedures) AreProcedures
        (λ x. All-weaker IsPlain IsPlainOn (λ q is. (procedure_grows (program_of w) (program_of world) grows q is.0, is.1)) x.procedures) w.modules was.procedures) (
          all_of IsPlainOn (module_of e m b).procedures
              (procedures_typed (program_of world) is.table.basic e.here.text e.here.scopes first (procedures m.decls) e.here.signatures b.procedures headings procedures_here),
          tt,
        )

    all_typed : AreTyped world
    all_typed = record { bodies = all_bodies; objects = all_objects; procedures = all_procedures_there }

    -- the variables of all modules have few scalars
    few_scalars : sum_by (home_scalars e.types) world.before ≤ MOST_SCALARS
    few_scalars =
        let f = home_scalars e.types in
        let stay = homes_stay w.types e.types sound.table is.table is.stays 0 w.before w.modules sound.homes in
        let same : sum_by f e.before ≡ sum_by (home_scalars w.types) w.before = ap (sum_by f) is.before_is ∙ stay in
        let so_far : sum_by f e.before ≤ MOST_SCALARS = subst (λ n. n ≤ MOST_SCALARS) (sym same) sound.scalars in
        let own = home_is e.types is.table e.here is.own is.own_is in
        let all : sum_by f world.before ≡ sum_by f e.before + sum_by (variable_cells e.types) is.own.variables =
        sum_by_push f w.before e.here ∙ (λ i. sum_by f (sym is.before_is i) + own i) in
        subst (λ n. n ≤ MOST_SCALARS) (sym all) (is.few_all so_far)

    -- What names stand for behind it.

    abbrev next : Env
    next = outlook world.before e.types

    known_signature : (n k : ℕ) (s : Signature) → env.signature e n k ≡ Some s → (q : TypedProcedure) × IsSignature e.types s q
    known_signature n k s there = by (env.home e n) refl there
      where
        by : (h : Option Home) → env.home e n ≡ h → option_and_then (λ (h : Home). slice_get h.signatures k) h ≡ Some s → (q : TypedProcedure) × IsSignature e.types s q
        by None at there = absurd (none-some s there)
        by (Some h) at there = (home_at e.types world.before world.modules homes_more n h (at_home n h at)).2.signed k s there

    own_next : (t : TypeId) → 10 ≤ t.0 → t.0 < length e.types → HasOwn next world.modules world.objects t
    own_next t high there =
        has_own_on e next is.table is.table (λ k less. refl) (λ u less. object_on w.before w.types e is.number_is is.before_is old new u)
        (λ u o less at. home_same_on w.before w.types e is.number_is is.before_is old new u o at) (stand_fall e.types is.table.opens)
        (signed_on w.before w.types e is.number_is is.before_is old new) known_signature world.modules world.modules world.objects world.objects t there refl (has_own t high there)

    pub world_sound : IsWorld world
    world_sound = record {
      homes = homes_more;
      count = count;
      shapes = shapes;
      own = own_next;
      table = is.table;
      typed = all_typed;
      scalars = few_scalars;
      keeps = one_keeps w sound.keeps e m is.initials none;
    }

module _ (w : World) (sound : IsWorld w) (text : List ℕ) (m : Tree) where
  abbrev Declared : Env → Type 0
  Declared e = IsDeclared (length w.before) w.before w.types text m e

  names_once : name_breaches text m ≡ [] → Each (AreOnceIn text) (type_defs m.decls)
  names_once none =
      let own = declared_again text [] m.name in
      let of_types = flat_map (within_decl text) m.decls in
      let end = other_end text m.name m.end in
      types_once text m.decls
      (none_right (own ++ twice text (module_names m)) of_types (none_left ((own ++ twice text (module_names m)) ++ of_types) end none))

  pub module_sound : (file : ℕ) (v : World) → elaborated w file text m ≡ went v → IsWorld v
  module_sound file v is =
      let j = declare (length w.before) w.before w.types text m in
      let one = then_went (passed file (judged (name_breaches text m) (tt {0})))
      (λ names. outcome.then (passed file j) (λ e. outcome.then (passed file (bodies e m)) (λ b. went (extended w e m b)))) v is in
      let two = then_went (passed file j) (λ e. outcome.then (passed file (bodies e m)) (λ b. went (extended w e m b))) v one.2 in
      let e = two.0 in
      let three = then_went (passed file (bodies e m)) (λ b. went (extended w e m b)) v two.2 in
      let names = passed_went file (judged (name_breaches text m) (tt {0})) one.0 one.1 in
      let first = passed_went file j e two.1 in
      let second = passed_went file (bodies e m) three.0 three.1 in
      finished e three.0 (names_once names.0) (subst Declared first.1 (declare_sound (length w.before) w.before w.types text m refl (ready w sound text m) names.0 first.0)) second.0 second.1 three.2
    where
      finished : (e : Env) (b : Bodies) → Each (AreOnceIn text) (type_defs m.decls) → Declared e → (bodies e m).breaches ≡ [] → (bodies e m).answer ≡ b → went (extended w e m b) ≡ went v → IsWorld v
      finished e b once is none answer went_on =
          subst IsWorld (same_went (extended w e m b) v went_on) (subst (λ (c : Bodies). IsWorld (extended w e m c)) answer (world_sound w sound text m once e is none))
