-- Two walks over the declarations of a module. On the first all rows name types that are there, and those of types of other
-- modules and of names for other types stay; on the second, which takes it that each name for a type leads to one, types are told.
use Rattle.std.proofs.Common.{◌≡◌, ℕ, suc, ◌+◌, ◌<◌, ◌≤◌, nat_eq, List, [], ◌∷◌, ◌++◌, length, map, replicate, ◌==◌, Bool, true, false, Option, Some, None, unwrap_or, slice_get, slice_set, refl, sym, ap, ◌∙◌, subst, arith, length-append, length-set}
use Rattle.std.proofs.lemmas.List.FromFn.{length-map-range_with_len}
use Rattle.std.proofs.lemmas.Bool.{eqb-false}
use Rattle.std.proofs.lemmas.List.{length-map}
use Rattle.std.proofs.lemmas.Option.{none-some, same_Some, slice_get_within}
use mathlib.Core.Logic.{◌⊎◌, inl, inr}
use Rattle.std.specs.Map.{lookup}
use Rattle.aos_tree.specs.declared.decl.TypeDef.{TypeDef}
use Rattle.aos_tree.specs.declared.decl.TypeExpr.{TypeExpr}
use Rattle.aos_tree.specs.declared.decl.TypeExpr.TheVariants as type
use Rattle.aos_tree.specs.declared.module.Module.{Module}
use Rattle.aos_types.specs.declared.row.TypeId.{TypeId}
use Rattle.aos_types.specs.declared.row.TypeRow.{TypeRow}
use Rattle.aos_types.specs.declared.row.TypeRow.TheVariants as row
use Rattle.aos_types.specs.Table.{is_open}
use Rattle.aos_types.specs.Chain.{IsOneOf}
use Rattle.aos_types.specs.Count.{named_in, AreBelow}
use Rattle.aos_symbols.specs.declared.env.Claim.{Claim}
use Rattle.aos_symbols.specs.declared.env.Claim.TheVariants as claim
use Rattle.aos_symbols.specs.Spelling.{word}
use Rattle.aos_symbols.specs.Declarations.{type_defs, inner_parts, types_of, all_type_defs, single_variables, inner_decls}
use Rattle.aos_symbols.specs.Scope.{Scope}
use Rattle.aos_symbols.specs.Home.{Home}
use Rattle.aos_symbols.specs.declared.home.ObjectScope.{ObjectScope}
use Rattle.aos_entries.specs.Entries.{number_at, scopes, objects_of}
use Rattle.aos_symbols.proofs.Told.{IsTold, basic, of_any, defined, IsFormalType, IsKnown, GoOn, known_on, told_behind, get_front, get_end}
use Rattle.aos_check_types.specs.declared.aliases.Target.{Target}
use Rattle.aos_check_types.specs.declared.aliases.Target.TheVariants.{Own, Of, Nothing}
use Rattle.aos_symbols.specs.Env.{nil}
use Rattle.aos_check_types.specs.Aliases.{follow, stands_for, first_rows, numbers}
use Rattle.aos_check_expr.proofs.Opens.{IsVariableNumber, some_there}
use Rattle.aos_check_decl.specs.Types.{fields_of}
use Rattle.aos_check_types.specs.Limits.{may_be_target}
use Rattle.aos_check_types.proofs.TypingLists.{set_other, set_gives, push_gives, get_below}
use Rattle.aos_check_decl.proofs.TypingScopes.{AreGood}
use Rattle.aos_check_decl.proofs.TypingNames.{IsBasicNumber}
use Rattle.aos_made_types.proofs.TypingClaims.{AllBases, AllObjectBases, more_bases, more_object_bases, target_bases, target_object_bases, result_bases, result_object_bases, AreOfBase, AreOfObject}
use Rattle.aos_check_types.proofs.TypingTables.{AllBelow}
use Rattle.aos_check_decl.proofs.TypingEntries.{scopes_typed}
use Rattle.aos_check_decl.proofs.TypingTypes.{Telling}
use Rattle.aos_check_decl.proofs.TypingFields.{Stands, Leads, IsRow, row_implied, IsGivenResult, agree_result, AreKept, set_keeps, push_keeps, Agree, set_on, more_some, agree_set, agree_push, agree_open, agree_target, agree_record_set, agree_record_push, agree_object_set, AreApart, AreFilled, objects_set, objects_push, objects_scopes, objects_placed}
use Rattle.aos_check_decl.proofs.ObjectTypes.{IsObject}
use Rattle.aos_check_decl.proofs.TypingObjects.{own_homes, own_apart, own_defined, fields_at, fields_are, inner_there}
use Rattle.aos_check_decl.proofs.TypingHeadings.{is_name}
use Rattle.aos_check_decl.proofs.TypingSlots.{AreNumbers}
use Rattle.aos_check_decl.proofs.TypingTargets.{IsGiven, basic_told, number_of, IsMeant, IsLed, AreLed, led_long, led_at}
use Rattle.aos_check_decl.proofs.TypingAliases.{own_of, IsSound, IsProper, proper_says, own_follows, own_target, follow_meant, stands}

first_long : (k : ℕ) (ts : List Target) → length (first_rows k ts) ≡ length ts
first_long k [] = refl
first_long k (t ∷ ts) = ap suc (first_long (suc k) ts)

pub told_below : (types : List TypeRow) → 10 ≤ length types → (t : TypeId) → IsTold types t → t.0 < length types
told_below types ten t (basic low) = omega (arith, ten, low)
told_below types ten t (of_any any) = omega (arith, ten, any)
told_below types ten t (defined r high there closed) = slice_get_within types t.0 r there

module _ (number : ℕ) (before : List Home) (types : List TypeRow) (text : List ℕ) (m : Module) (ts : List Target)
    (given : IsGiven number before types)
    (constants : (j : ℕ) (h : Home) (k : ℕ) (s : Scope) → slice_get before j ≡ Some h → slice_get h.scopes k ≡ Some s → AreGood s.constants)
    (ten : 10 ≤ length types) (led : AreLed types (length (all_type_defs m.decls)) (all_type_defs m.decls) ts) where
  abbrev pub first : List TypeRow
  first = types ++ first_rows (length types) ts

  abbrev pub standing : List (Option TypeId)
  standing = numbers (length types) ts

  abbrev pub all_objects : List (ℕ × ObjectScope)
  all_objects = objects_of number standing m.decls

  pub apart : AreApart (length (type_defs m.decls)) all_objects
  apart = own_apart number standing m

  abbrev pub named_scopes : List Scope
  named_scopes = scopes text before standing m

  pub count : length ts ≡ length (all_type_defs m.decls)
  count = led_long types (length (all_type_defs m.decls)) (all_type_defs m.decls) ts led

  pub table_long : length first ≡ length types + length ts
  table_long = length-append types (first_rows (length types) ts) ∙ ap (λ n. length types + n) (first_long (length types) ts)

  pub sound : (k : ℕ) (x : Target) → slice_get ts k ≡ Some x → IsSound types (length ts) x
  sound k x is = let r = led_at types (length (all_type_defs m.decls)) (all_type_defs m.decls) ts led k x is in by r.0 x r.2
    where
      by : (d : TypeDef) (x : Target) → IsLed types (length (all_type_defs m.decls)) d.value x → IsSound types (length ts) x
      by d Own l = tt
      by d (Of t) l = subst (λ n. IsMeant types n t) (sym count) l.1
      by d Nothing l = l

  abbrev Means : TypeId → Type 0
  Means = IsMeant types (length ts)

  -- the number of a definition, from which names lead to what it stands for
  pub place_meant : (k : ℕ) → k < length ts → Means (record { 0 = length types + k })
  place_meant k below = inr (let l : length types ≤ length types + k = omega arith in l, let l : length types + k < length types + length ts = omega (arith, below) in l)

  pub number_is : (k : ℕ) → k < length (all_type_defs m.decls) → number_at standing k ≡ stands_for (length types) ts (record { 0 = length types + k })
  number_is k below = number_of (λ k. stands_for (length types) ts (record { 0 = length types + k })) (length ts) k (omega (arith, below, count))

  pub meant_below : (t : TypeId) → Means t → t.0 < length first
  meant_below t (inl told) = let l = told_below types ten t told in omega (arith, l, table_long)
  meant_below t (inr own) = let l = own.1 in omega (arith, l, table_long)

  -- what a definition stands for is there

  abbrev IsBelow : List TypeRow → Option TypeId → Type 0
  IsBelow us of = (t : TypeId) → of ≡ Some t → t.0 < length us

  pub number_below : (k : ℕ) → k < length (all_type_defs m.decls) → IsBelow first (number_at standing k)
  number_below k below t e =
      let from : TypeId = record { 0 = length types + k } in
      let to = follow (length types) ts (length ts) from in
      let means = follow_meant types ts ten sound (length ts) from (place_meant k (omega (arith, below, count))) in
      let same = (proper_says (length types) ts to t (sym (number_is k below) ∙ e)).0 in
      meant_below t (subst Means same means)

  -- The first walk.

  -- the row with a number stays: that of a type of another module, and that of a name for another type
  abbrev pub IsKept : ℕ → Type 0
  IsKept k = (k < length types) ⊎ ((j : ℕ) × (u : TypeId) × (slice_get ts j ≡ Some (Of u)) × (k ≡ length types + j))

  pub record GoesTo (us vs : List TypeRow) : Type 0 where
    pub long : length us ≤ length vs
    pub kept : (k : ℕ) → k < length us → IsKept k → slice_get vs k ≡ slice_get us k
    pub closed : AllBelow (length us) us → AllBelow (length vs) vs

  abbrev pub IsSlot : TypeId → Type 0
  IsSlot t = IsKept t.0 → ⊥

  below_more : (n k : ℕ) (r : TypeRow) → n ≤ k → AreBelow n r → AreBelow k r
  below_more n k r le below p one = let l = below p one in omega (arith, l, le)

  pub set_goes : (us : List TypeRow) (t : TypeId) (r : TypeRow) → IsSlot t → ((p : TypeId) → IsOneOf p (named_in r) → IsBelow us (Some p)) → GoesTo us (slice_set us t.0 r)
  set_goes us t r slot there = record {
    long = omega (arith, length-set us t.0 r);
    kept = λ k below kept. set_other us t.0 k r (λ same. slot (subst IsKept same kept));
    closed = λ all k x is. set_gives (AreBelow (length (slice_set us t.0 r))) us t.0 k x r is
        (λ p one. subst (λ n. p.0 < n) (sym (length-set us t.0 r)) (there p one p refl))
        (λ old. below_more (length us) (length (slice_set us t.0 r)) x (omega (arith, length-set us t.0 r)) (all k x old));
  }

  pub push_goes : (us : List TypeRow) (r : TypeRow) → ((p : TypeId) → IsOneOf p (named_in r) → IsBelow us (Some p)) → GoesTo us (us ++ r ∷ [])
  push_goes us r there = record {
    long = omega (arith, length-append us (r ∷ []));
    kept = λ k below kept. get_below us (r ∷ []) k below;
    closed = λ all k x is. push_gives (AreBelow (length (us ++ r ∷ []))) us k x r is
        (λ p one. let l = there p one p refl in omega (arith, l, length-append us (r ∷ [])))
        (λ old. below_more (length us) (length (us ++ r ∷ [])) x (omega (arith, length-append us (r ∷ []))) (all k x old));
  }

  pub goes_on : (us vs ws : List TypeRow) → GoesTo us vs → GoesTo vs ws → GoesTo us ws
  goes_on us vs ws one two =
      let a = one.long in
      let b = two.long in
      record {
        long = omega (arith, a, b);
        kept = λ k below kept. two.kept k (omega (arith, a, below)) kept ∙ one.kept k below kept;
        closed = λ all. two.closed (one.closed all);
      }

  pub last_below : (us : List TypeRow) (r : TypeRow) → IsBelow (us ++ r ∷ []) (Some (record { 0 = length us }))
  last_below us r t e =
      subst (λ (t : TypeId). t.0 < length (us ++ r ∷ [])) (same_Some (record { 0 = length us }) t e)
      (let l : length us < length (us ++ r ∷ []) = omega (arith, length-append us (r ∷ [])) in l)

  pub below_on : (us vs : List TypeRow) → GoesTo us vs → (of : Option TypeId) → IsBelow us of → IsBelow vs of
  below_on us vs goes of below t e =
      let a = below t e in
      let b = goes.long in
      omega (arith, a, b)

  pub first_ten : 10 ≤ length first
  first_ten = omega (arith, ten, table_long)

  pub low_below : (us : List TypeRow) → GoesTo first us → (t : TypeId) → t.0 ≤ 8 → IsBelow us (Some t)
  low_below us goes t low u e =
      let l = goes.long in
      subst (λ (t : TypeId). t.0 < length us) (same_Some t u e) (omega (arith, l, low, first_ten))

  pub basic_low : (n : ℕ) → IsBasicNumber n → n ≤ 8
  basic_low n (inl low) = omega (arith, low)
  basic_low n (inr any) = omega (arith, any)

  -- what is pushed is no row that stays
  pub pushed_slot : (us : List TypeRow) → GoesTo first us → IsSlot (record { 0 = length us })
  pushed_slot us goes (inl old) = let l = goes.long in omega (arith, old, l, table_long)
  pushed_slot us goes (inr alias) =
      let l = goes.long in
      let below = slice_get_within ts alias.0 (Of alias.1) alias.2 in
      let at = alias.3 in
      omega (arith, below, at, l, table_long)

  pub open_nil : (us : List TypeRow) → GoesTo first us → (p : TypeId) → IsOneOf p (nil ∷ []) → IsBelow us (Some p)
  open_nil us goes p (inl e) = subst (λ (p : TypeId). IsBelow us (Some p)) e (low_below us goes nil (omega arith))
  open_nil us goes p (inr h) = absurd h

  -- of each type that has a base
  abbrev pub HasSlot : TypeId → TypeId → Type 0
  HasSlot b t = IsSlot t

  abbrev pub HaveSlots : List Claim → Type 0
  HaveSlots cs = AllBases HasSlot cs × AllObjectBases HasSlot cs

  pub more_slots : (cs ds : List Claim) → HaveSlots cs → HaveSlots ds → HaveSlots (cs ++ ds)
  more_slots cs ds a b = (more_bases HasSlot cs ds a.0 b.0, more_object_bases HasSlot cs ds a.1 b.1)

  pub own_bases : (ds : List Claim) (base : Option TypeId) (t : TypeId) → AreOfBase ds base t → IsSlot t → HaveSlots ds
  own_bases ds base t claims slot = (
    λ k at b u is. subst IsSlot (sym (claims.alone k at b u is).0) slot,
    λ k at b u is. absurd (claims.free k at b u is),
  )

  pub object_bases : (ds : List Claim) (base : Option TypeId) (t : TypeId) → AreOfObject ds base t → IsSlot t → HaveSlots ds
  object_bases ds base t claims slot = (
    λ k at b u is. absurd (claims.free k at b u is),
    λ k at b u is. subst IsSlot (sym (claims.alone k at b u is).0) slot,
  )

  -- the number of a definition that is no name for another type is its own
  pub own_number : (k : ℕ) → k < length (all_type_defs m.decls) → slice_get ts k ≡ Some Own → (t : TypeId) → number_at standing k ≡ Some t → record { 0 = length types + k } ≡ t
  own_number k below own t e =
      let from : TypeId = record { 0 = length types + k } in
      let at = own_target (length types) ts k Own own in
      let stands = sym (number_is k below) ∙ e in
      sym (own_follows (length types) ts (length ts) from at) ∙ (proper_says (length types) ts (follow (length types) ts (length ts) from) t stands).0

  pub own_kept : (k : ℕ) → slice_get ts k ≡ Some Own → IsKept (length types + k) → ⊥
  own_kept k own (inl low) = omega (arith, low)
  own_kept k own (inr alias) =
      let place = alias.3 in
      let same : alias.0 ≡ k = omega (arith, place) in
      let e : Some (Of alias.1) ≡ Some Own = sym alias.2 ∙ ap (slice_get ts) same ∙ own in
      own_of (sym (same_Some (Of alias.1) Own e))

  pub own_below : (k : ℕ) → slice_get ts k ≡ Some Own → length types + k < length first
  own_below k own = let l = slice_get_within ts k Own own in omega (arith, l, table_long)

  -- the number of a definition, which leads to itself
  pub record IsNumber (d : TypeDef) (t : TypeId) : Type 0 where
    pub place : ℕ
    pub is : slice_get (all_type_defs m.decls) place ≡ Some d
    pub own : slice_get ts place ≡ Some Own
    pub equal : record { 0 = length types + place } ≡ t

  -- so does what is no name for another type
  pub leads_own : (k : ℕ) (d : TypeDef) → slice_get (all_type_defs m.decls) k ≡ Some d → is_name d.value ≡ false → slice_get ts k ≡ Some Own
  leads_own k d is not_name = by x.0 (subst (λ (z : TypeDef). IsLed types (length (all_type_defs m.decls)) z.value x.0) (same_Some one.0 d (sym one.1 ∙ is)) one.2) x.1
    where
      below : k < length (all_type_defs m.decls)
      below = slice_get_within (all_type_defs m.decls) k d is

      x : (x : Target) × (slice_get ts k ≡ Some x)
      x = some_there ts k (omega (arith, below, count))

      one : (d : TypeDef) × (slice_get (all_type_defs m.decls) k ≡ Some d) × IsLed types (length (all_type_defs m.decls)) d.value x.0
      one = led_at types (length (all_type_defs m.decls)) (all_type_defs m.decls) ts led k x.0 x.1

      name_not : (b : Bool) → b ≡ true → b ≡ false → ⊥
      name_not b e f = let g : true ≡ false = sym e ∙ f in cc

      by : (x : Target) → IsLed types (length (all_type_defs m.decls)) d.value x → slice_get ts k ≡ Some x → slice_get ts k ≡ Some Own
      by Own l is = is
      by (Of u) l is = absurd (name_not (is_name d.value) l.0 not_name)
      by Nothing l is = absurd l

  abbrev pub numbered : (k : ℕ) (d : TypeDef) → slice_get (all_type_defs m.decls) k ≡ Some d → is_name d.value ≡ false → (t : TypeId) → number_at standing k ≡ Some t → IsNumber d t
  numbered k d is not_name t e =
      let own = leads_own k d is not_name in
      record { place = k; is = is; own = own; equal = own_number k (slice_get_within (all_type_defs m.decls) k d is) own t e }

  pub object_no_name : (of : TypeExpr) → IsObject of → is_name of ≡ false
  object_no_name (type.Named q) object = absurd object
  object_no_name (type.Object' p base shape row body end) object = refl
  object_no_name (type.Array' p lengths shape row) object = refl
  object_no_name (type.Record' p base shape row) object = refl
  object_no_name (type.Pointer' p shape row) object = refl
  object_no_name (type.Proc p flag formals) object = refl

  -- and so an object type's stands behind those of the modules before
  pub record HasPlace (t : TypeId) (o : ObjectScope) : Type 0 where
    pub place : ℕ
    pub def : TypeDef
    pub is : slice_get (type_defs m.decls) place ≡ Some def
    pub object : IsObject def.value
    pub scope : o.scope ≡ suc place
    pub one : IsNumber def t
    pub same : one.place ≡ place

  pub own_first : (k : ℕ) (d : TypeDef) → slice_get (type_defs m.decls) k ≡ Some d → slice_get (all_type_defs m.decls) k ≡ Some d
  own_first k d is = get_front (type_defs m.decls) (types_of (inner_parts m.decls)) k d is

  pub object_number : (t : TypeId) (o : ObjectScope) → lookup (λ k. nat_eq t.0 k) all_objects ≡ Some o → HasPlace t o
  object_number t o at =
      let x = own_defined number standing m t o at in
      record {
        place = x.place;
        def = x.def;
        is = x.is;
        object = x.object;
        scope = x.scope;
        one = numbered x.place x.def (own_first x.place x.def x.is) (object_no_name x.def.value x.object) t x.number;
        same = refl;
      }

  -- a number is that of one definition
  pub same_place : (t : TypeId) (j k : ℕ) → record { 0 = length types + j } ≡ t → record { 0 = length types + k } ≡ t → j ≡ k
  same_place t j k one two = let e : length types + j ≡ length types + k = ap (λ (t : TypeId). t.0) (one ∙ sym two) in omega (arith, e)

  same_def : (d : TypeDef) (t : TypeId) (o : ObjectScope) (one : IsNumber d t) (x : HasPlace t o) → x.def ≡ d
  same_def d t o one x =
      let place = same_place t x.one.place one.place x.one.equal one.equal in
      same_Some x.def d (sym x.one.is ∙ ap (slice_get (all_type_defs m.decls)) place ∙ one.is)

  pub no_object : (d : TypeDef) (t : TypeId) → IsNumber d t → (IsObject d.value → ⊥) → (o : ObjectScope) → lookup (λ k. nat_eq t.0 k) all_objects ≡ Some o → ⊥
  no_object d t one never o at =
      let x = object_number t o at in
      never (subst (λ (z : TypeDef). IsObject z.value) (same_def d t o one x) x.object)

  pub as_many : (d : TypeDef) (t : TypeId) (o : ObjectScope) → IsNumber d t → lookup (λ k. nat_eq t.0 k) all_objects ≡ Some o →
      fields_at (type_defs m.decls) o.scope ≡ length (single_variables (inner_decls d.value))
  as_many d t o one at =
      let x = object_number t o at in
      ap (fields_at (type_defs m.decls)) x.scope ∙ fields_are (type_defs m.decls) x.place x.def x.is
      ∙ ap (λ (z : TypeDef). length (single_variables (inner_decls z.value))) (same_def d t o one x)

  abbrev pub outline : Telling
  outline = record {
    number = number;
    before = before;
    name = word text m.name;
    text = text;
    scopes = named_scopes;
    inner = length (type_defs m.decls);
    first = first;
    Known = IsBelow;
    There = IsBelow;
    Stands = λ us t. Unit {0};
    GoesTo = GoesTo;
    IsSlot = IsSlot;
    stays = λ us. record { long = omega arith; kept = λ k below kept. refl; closed = λ all. all };
    on = goes_on;
    known_on = below_on;
    there_on = below_on;
    known_there = λ us of below. below;
    none_there = λ us below. below;
    basic = λ us goes t low. low_below us goes t (basic_low t.0 low);
    set = λ us t r goes slot closed there. set_goes us t r slot there;
    unsettled = λ us t goes slot known. set_goes us t (row.Open nil) slot (open_nil us goes);
    push = push_goes;
    pushed = λ us r goes closed. last_below us r;
    pushed_open = λ us t goes. last_below us (row.Open t);
    pushed_stands = λ us r goes may. tt;
    Agrees = λ us rs cs. HaveSlots cs;
    AreAll = λ vs us. Unit {0};
    none_all = tt;
    more_all = λ ts vs us n of known all. tt;
    missing = λ us vs fs all many t is. absurd (none-some t is);
    any_all = λ us known vs fs. tt;
    agree_set = λ us rs cs t r goes slot closed other ok known a. a;
    agree_push = λ us rs cs r goes closed other ok known a. a;
    agree_open = λ us rs cs t goes there a. a;
    agree_target = λ us rs cs at t a. more_slots cs (claim.Target at t ∷ []) a (target_bases HasSlot at t, target_object_bases HasSlot at t);
    agree_result = λ us rs cs at t a. more_slots cs (claim.Result at t ∷ []) a (result_bases HasSlot at t, result_object_bases HasSlot at t);
    agree_unsettled = λ us rs cs t known a. a;
    agree_record_set = λ us h cs t base fs s ds goes slot claims known all a. more_slots cs ds a (own_bases ds base t claims slot);
    agree_record_push = λ us h cs base fs s ds goes claims known all a.
        more_slots cs ds a (own_bases ds base (record { 0 = length us }) claims (pushed_slot us goes));
    agree_object_set = λ us rs cs t base fs ds goes slot claims known a. more_slots cs ds a (object_bases ds base t claims slot);
    objects = all_objects;
    fields = fields_at (type_defs m.decls);
    IsNumber = IsNumber;
    slot_of = λ d t one. subst IsSlot one.equal (own_kept one.place one.own);
    bare = no_object;
    many = as_many;
    homes = own_homes number standing m;
    others_objects = given.objects;
    places = apart.places;
    inner_there = inner_there text before standing m;
    Filled = λ us ss. Unit {0};
    filled_set = λ us ss t r bare f. tt;
    filled_push = λ us ss r f. tt;
    filled_scopes = λ us ss ss' same f. tt;
    filled_placed = λ us ss ss' t o base fs vs goes slot at own others all many f. tt;
    own = scopes_typed text before standing m (IsBelow first) number_below;
    others = λ j h k s w x of there outer own found means t e.
        let known = subst (IsKnown types) e (given.named j h k s w x of there outer own found means) in
        let l = told_below types ten t known in
        omega (arith, l, table_long);
    constants = constants;
  }

  numbers_from : (c : Telling) → ((k : ℕ) (d : TypeDef) → slice_get (all_type_defs m.decls) k ≡ Some d → is_name d.value ≡ false → (t : TypeId) → number_at standing k ≡ Some t → c.IsNumber d t) →
      (ds : List TypeDef) (k : ℕ) → ((j : ℕ) → slice_get (all_type_defs m.decls) (k + j) ≡ slice_get ds j) → AreNumbers c standing k ds
  numbers_from c each [] k there = tt
  numbers_from c each (d ∷ ds) k there = (
    each k d (ap (slice_get (all_type_defs m.decls)) (let same : k ≡ k + 0 = omega arith in same) ∙ there 0),
    numbers_from c each ds (suc k) (λ j. ap (slice_get (all_type_defs m.decls)) (let same : suc k + j ≡ k + suc j = omega arith in same) ∙ there (suc j)),
  )

  pub all_numbers : AreNumbers outline standing 0 (all_type_defs m.decls)
  all_numbers = numbers_from outline numbered (all_type_defs m.decls) 0 (λ j. ap (slice_get (all_type_defs m.decls)) (let same : 0 + j ≡ j = omega arith in same))

  -- The second walk.

  -- a parameter's type, which may be an open array
  abbrev pub MayBeOpen : List TypeRow → Option TypeId → Type 0
  MayBeOpen us None = ⊥
  MayBeOpen us (Some t) = IsBasicNumber t.0 ⊎ ((10 ≤ t.0) × (t.0 < length us))

  pub record GoesOn (us vs : List TypeRow) : Type 0 where
    pub long : length us ≤ length vs
    pub on : GoOn us vs
    pub kept : AreKept (length first) us vs

  pub known_open : (us : List TypeRow) (of : Option TypeId) → IsKnown us of → MayBeOpen us of
  known_open us None known = known
  known_open us (Some t) (basic low) = inl (inl low)
  known_open us (Some t) (of_any any) = inl (inr any)
  known_open us (Some t) (defined r high there closed) = inr (high, slice_get_within us t.0 r there)

  pub open_on : (us vs : List TypeRow) → GoesOn us vs → (of : Option TypeId) → MayBeOpen us of → MayBeOpen vs of
  open_on us vs goes None may = may
  open_on us vs goes (Some t) (inl low) = inl low
  open_on us vs goes (Some t) (inr r) = let l = goes.long in let b = r.1 in inr (r.0, omega (arith, l, b))

  pub push_on : (us : List TypeRow) (r : TypeRow) → GoesOn us (us ++ r ∷ [])
  push_on us r = record { long = omega (arith, length-append us (r ∷ [])); on = told_behind us (r ∷ []); kept = push_keeps (length first) us (r ∷ []) }

  pub last_told : (us : List TypeRow) (r : TypeRow) → GoesOn first us → is_open (Some r) ≡ false → IsTold (us ++ r ∷ []) (record { 0 = length us })
  last_told us r goes closed = let l = goes.long in defined r (omega (arith, l, first_ten)) (get_end us r) closed

  pub last_open : (us : List TypeRow) (r : TypeRow) → GoesOn first us → MayBeOpen (us ++ r ∷ []) (Some (record { 0 = length us }))
  last_open us r goes = let l = goes.long in inr (omega (arith, l, first_ten), omega (arith, length-append us (r ∷ [])))

  -- the type of a formal is there
  formal_of : (us : List TypeRow) → GoesOn first us → (t : TypeId) → MayBeOpen us (Some t) → IsFormalType us t
  formal_of us goes t may = (below may, variable may)
    where
      below : MayBeOpen us (Some t) → t.0 < length us
      below (inl low) = let l = goes.long in let b = basic_low t.0 low in omega (arith, l, b, first_ten)
      below (inr r) = r.1

      variable : MayBeOpen us (Some t) → IsVariableNumber t.0
      variable (inl (inl low)) = inl low
      variable (inl (inr any)) = inr (inl any)
      variable (inr r) = inr (inr r.0)

  pub formals_of : (us : List TypeRow) (cs : List Claim) (r : TypeRow) → GoesOn first us →
      IsRow (λ p. MayBeOpen us (Some p)) (IsGivenResult us cs) (Leads (Stands (length first) us) cs) r → IsRow (IsFormalType us) (IsGivenResult us cs) (Leads (Stands (length first) us) cs) r
  formals_of us cs r goes =
      row_implied (λ p. MayBeOpen us (Some p)) (IsFormalType us) (IsGivenResult us cs) (Leads (Stands (length first) us) cs) (λ t may. formal_of us goes t may) r

  pub open_agrees : (us : List TypeRow) (rs : List (ℕ × Scope)) (cs : List Claim) (t : TypeId) → GoesOn first us → MayBeOpen us (Some t) →
      Agree (length types) (length first) us rs cs → Agree (length types) (length first) (us ++ row.Open t ∷ []) rs cs
  open_agrees us rs cs t goes there a =
      let l = goes.long in
      let formal = formal_of us goes t there in
      agree_open (length types) (length first) us rs cs t (omega (arith, l, first_ten)) formal.0 formal.1 a

  -- the variables of a record are the types in its row
  abbrev pub AreSome : List (Option TypeId) → List TypeId → Type 0
  AreSome vs us = vs ≡ map (λ (t : TypeId). Some t) us

  pub more_fields : (us : List TypeRow) (vs : List (Option TypeId)) (fs : List TypeId) (n : ℕ) (of : Option TypeId) → IsKnown us of → AreSome vs fs →
      AreSome (vs ++ replicate n of) (fs ++ fields_of n of)
  more_fields us vs fs n None known all = absurd known
  more_fields us vs fs n (Some t) known all = more_some vs fs n t all

  pub field_missing : (us : List TypeRow) (vs : List (Option TypeId)) (fs : List TypeId) → AreSome vs fs → (length fs == length vs) ≡ false → IsKnown us None
  field_missing us vs fs all many = eqb-false (length fs) (length vs) many (sym (ap length all ∙ length-map fs (λ (t : TypeId). Some t)))

  module _ (ends : (t : TypeId) → IsProper (length types) ts (follow (length types) ts (length ts) t)) where
    pub number_known : (k : ℕ) → k < length (all_type_defs m.decls) → IsKnown first (number_at standing k)
    number_known k below =
        let from : TypeId = record { 0 = length types + k } in
        let r = stands types ts ten sound from (place_meant k (omega (arith, below, count))) (ends from) in
        subst (IsKnown first) (sym (number_is k below ∙ r.1)) r.2

    abbrev pub told : Telling
    told = record {
      number = number;
      before = before;
      name = word text m.name;
      text = text;
      scopes = named_scopes;
      inner = length (type_defs m.decls);
      first = first;
      Known = IsKnown;
      There = MayBeOpen;
      Stands = Stands (length first);
      GoesTo = GoesOn;
      IsSlot = λ t. t.0 < length first;
      stays = λ us. record { long = omega arith; on = λ t told. told; kept = λ k r high is. is };
      on = λ us vs ws one two. (let a = one.long in let b = two.long in record {
        long = omega (arith, a, b);
        on = λ t told. two.on t (one.on t told);
        kept = λ k r high is. two.kept k r high (one.kept k r high is);
      });
      known_on = λ us vs goes of known. known_on us vs goes.on of known;
      there_on = open_on;
      known_there = known_open;
      none_there = λ us may. may;
      basic = λ us goes t low. basic_told us t low;
      set = λ us t r goes slot closed there. record { long = omega (arith, length-set us t.0 r); on = set_on us t r closed; kept = set_keeps (length first) us t r slot };
      unsettled = λ us t goes slot known. absurd known;
      push = λ us r there. push_on us r;
      pushed = λ us r goes closed. last_told us r goes closed;
      pushed_open = λ us t goes. last_open us (row.Open t) goes;
      pushed_stands = λ us r goes may. (goes.long, ap may_be_target (get_end us r) ∙ may);
      Agrees = Agree (length types) (length first);
      AreAll = AreSome;
      none_all = refl;
      more_all = λ us vs fs n of. more_fields us vs fs n of;
      missing = λ us vs fs all many. field_missing us vs fs all many;
      any_all = λ us known vs fs. absurd known;
      agree_set = λ us rs cs t r goes slot closed other ok known a. agree_set (length types) (length first) us rs cs t r slot closed other (formals_of us cs r goes ok) known a;
      agree_push = λ us rs cs r goes closed other ok known a. agree_push (length types) (length first) us rs cs r closed other (formals_of us cs r goes ok) known a;
      agree_open = λ us rs cs t goes there a. open_agrees us rs cs t goes there a;
      agree_target = λ us rs cs at t a. agree_target (length types) (length first) us rs cs at t a;
      agree_result = λ us rs cs at t a. agree_result (length types) (length first) us rs cs at t a;
      agree_unsettled = λ us rs cs t known a. absurd known;
      agree_record_set = λ us h cs t base fs s ds goes slot claims known all a.
          (let l = goes.long in agree_record_set (length types) (length first) us h cs t base fs s ds slot (omega (arith, slot, l)) claims known all a);
      agree_record_push = λ us h cs base fs s ds goes claims known all a. agree_record_push (length types) (length first) us h cs base fs s ds claims known all a;
      agree_object_set = λ us rs cs t base fs ds goes slot claims known a. agree_object_set (length types) (length first) us rs cs t base fs ds slot claims known a;
      objects = all_objects;
      fields = fields_at (type_defs m.decls);
      IsNumber = IsNumber;
      slot_of = λ d t one. subst (λ (t : TypeId). t.0 < length first) one.equal (own_below one.place one.own);
      bare = no_object;
      many = as_many;
      homes = own_homes number standing m;
      others_objects = given.objects;
      places = apart.places;
      inner_there = inner_there text before standing m;
      Filled = AreFilled (fields_at (type_defs m.decls)) all_objects;
      filled_set = objects_set (fields_at (type_defs m.decls)) all_objects;
      filled_push = objects_push (fields_at (type_defs m.decls)) all_objects;
      filled_scopes = objects_scopes (fields_at (type_defs m.decls)) all_objects (length (type_defs m.decls)) apart;
      filled_placed = λ us ss ss' t o base fs vs goes slot at own others all many f.
          (let l = goes.long in objects_placed (fields_at (type_defs m.decls)) all_objects (length (type_defs m.decls)) apart us ss ss' t o base fs vs (omega (arith, slot, l)) at own others all many f);
      own = scopes_typed text before standing m (IsKnown first) number_known;
      others = λ j h k s w x of there outer own found means. known_on types first (told_behind types (first_rows (length types) ts)) of (given.named j h k s w x of there outer own found means);
      constants = constants;
    }

    -- what a definition that is no name for another type stands for
    pub own_stands : (k : ℕ) (d : TypeDef) → slice_get (all_type_defs m.decls) k ≡ Some d → is_name d.value ≡ false → number_at standing k ≡ Some (record { 0 = length types + k })
    own_stands k d is not_name =
        let from : TypeId = record { 0 = length types + k } in
        let below = slice_get_within (all_type_defs m.decls) k d is in
        let r = stands types ts ten sound from (place_meant k (omega (arith, below, count))) (ends from) in
        let e = number_is k below ∙ r.1 in
        e ∙ ap (λ t. Some t) (sym (own_number k below (leads_own k d is not_name) r.0 e))

    pub own_there : (k : ℕ) (d : TypeDef) → slice_get (all_type_defs m.decls) k ≡ Some d → is_name d.value ≡ false → slice_get standing k ≡ Some (Some (record { 0 = length types + k }))
    own_there k d is not_name =
        let below = slice_get_within (all_type_defs m.decls) k d is in
        let long = length-map-range_with_len (λ k. stands_for (length types) ts (record { 0 = length types + k })) 0 (length ts) in
        let x = some_there standing k (omega (arith, below, count, long)) in
        x.1 ∙ ap (λ o. Some o) (sym (ap (λ o. unwrap_or o None) x.1) ∙ own_stands k d is not_name)

    pub told_numbers : AreNumbers told standing 0 (all_type_defs m.decls)
    told_numbers = numbers_from told numbered (all_type_defs m.decls) 0 (λ j. ap (slice_get (all_type_defs m.decls)) (let same : 0 + j ≡ j = omega arith in same))
