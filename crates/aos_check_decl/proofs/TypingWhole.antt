-- A module's environment behind its declarations, where none of them breaks a rule, and what is judged of all its types breaks
-- none: no type contains itself, so that each name for a type leads to one, and all types are told.
use Rattle.std.proofs.Common.{◌≡◌, ℕ, ◌+◌, ◌-◌, ◌<◌, ◌≤◌, nat_eq, List, [], ◌∷◌, length, Bool, true, false, if◌then◌else◌, Option, Some, None, slice_get, refl, sym, ap, ◌∙◌, subst, arith}
use Rattle.std.specs.List.{flat_map}
use Rattle.std.proofs.lemmas.Bool.{cases_Bool, cases_lt}
use Rattle.std.proofs.lemmas.Option.{none-some, slice_get_within}
use mathlib.Core.Logic.{◌⊎◌, inl, inr}
use Rattle.aos_base.specs.declared.limits.TheConstants.{MOST_SCALARS}
use Rattle.aos_tree.specs.declared.module.Module.{Module}
use Rattle.aos_types.specs.declared.row.TypeId.{TypeId}
use Rattle.aos_types.specs.declared.row.TypeRow.{TypeRow}
use Rattle.aos_types.specs.declared.row.TypeRow.TheVariants as row
use Rattle.aos_types.specs.Table.{row_of, is_record, is_object}
use Rattle.aos_types.specs.Contents.{scalars}
use Rattle.aos_types.specs.Chain.{NoneContainsItself, IsOneOf, IsPartOf, parts_of, contains_itself, circles, cut}
use Rattle.aos_types.specs.Count.{AreBelow}
use Rattle.aos_types.specs.Limit.{is_first_past}
use Rattle.aos_types.proofs.Circles.{circle_test}
use Rattle.aos_types.proofs.Ranks.{ranked}
use Rattle.aos_types.proofs.Cut.{nothing_cut}
use Rattle.aos_symbols.specs.declared.env.Claim.TheVariants as claim
use Rattle.aos_symbols.specs.declared.env.Open.{Open}
use Rattle.aos_symbols.specs.declared.env.Env.{Env}
use Rattle.aos_symbols.specs.Declarations.{type_defs, all_type_defs}
use Rattle.aos_symbols.specs.Scope.{Scope}
use Rattle.aos_symbols.specs.Home.{Home}
use Rattle.aos_check_names.specs.Names.{name_breaches}
use Rattle.std.specs.Map.{lookup}
use Rattle.aos_symbols.specs.declared.home.ObjectScope.{ObjectScope}
use Rattle.aos_entries.specs.Entries.{objects_of}
use Rattle.aos_symbols.specs.Env as env
use Rattle.aos_symbols.proofs.Each.{Each}
use Rattle.aos_symbols.proofs.Told.{IsTold, GoOn, told_behind, IsLength, IsBase, IsObjectBase, IsResultType, AreToldParts, PartsAreTold}
use Rattle.aos_check_expr.proofs.Opens.{IsOpenAt, OpensStand}
use Rattle.aos_check_expr.proofs.Whole.{IsWritten}
use Rattle.aos_check_types.specs.declared.aliases.Target.{Target}
use Rattle.aos_check_types.specs.declared.aliases.Target.TheVariants.{Own, Of, Nothing}
use Rattle.aos_check_types.specs.Aliases.{first_row, first_rows, follow}
use Rattle.aos_check_decl.specs.Headings.{headings}
use Rattle.aos_check_types.specs.Limits as limits
use Rattle.aos_check_types.specs.Limits.{may_be_target}
use Rattle.aos_check_decl.specs.Pass.{entered}
use Rattle.aos_check_types.proofs.TypingLists.{get_below, get_behind, mapped_at}
use Rattle.aos_check_decl.proofs.TypingScopes.{AreGood, AllGood}
use Rattle.aos_check_decl.proofs.TypingTypes.{Telling, IsSearched, IsFit}
use Rattle.aos_made_types.proofs.TypingClaims.{claim_kept, AllBases, AllObjectBases, no_bases, no_object_bases, base_kept, object_kept, target_kept, bases_same, bases_other, bases_long, target_high, told_closed, told_on}
use Rattle.aos_check_decl.proofs.TypingFields.{Stands, Leads, OfResult, IsGivenResult, IsBaseAsked, IsObjectAsked, AreAskedParts, PartsAreAsked, asked_written, IsObjectRow, IsFilled}
use Rattle.aos_check_decl.proofs.TypingObjects.{fields_at}
use Rattle.aos_check_decl.proofs.TypingProcedures.{IsHeaded, headings_sound}
use Rattle.aos_check_decl.proofs.TypingEntries.{scope_fresh}
use Rattle.aos_check_decl.proofs.TypingTargets.{AreLed, IsGiven}
use Rattle.aos_check_decl.proofs.TypingAliases.{IsProper, IsSound, rows_at, first_row_at, told_first, ends}
use Rattle.aos_check_types.proofs.TypingTables.{AllBelow, all_within}
use Rattle.aos_check_types.proofs.TypingLimits.{type_kept, asked_kept, flag_is, none_circular, result_scalar}
use Rattle.aos_check_decl.proofs.TypingOnce.{module_alike, inner_types_alike, procedures_alike}
use Rattle.aos_check_decl.proofs.TypingSlots.{own_slots, inner_slots, procedures_slots}
use Rattle.aos_check_decl.proofs.TypingWalks.{told_below, GoesTo, IsKept, HasSlot, first, standing, count, table_long, sound, meant_below, place_meant, outline, told, all_numbers, told_numbers, object_number}

-- what is known of the types before
pub record AreOld (types : List TypeRow) : Type 0 where
  pub ten : 10 ≤ length types
  pub basic : (k : ℕ) → k < 10 → slice_get types k ≡ slice_get env.basic_rows k
  pub closed : AllBelow (length types) types
  pub free : NoneContainsItself types
  pub sizes : (t : TypeId) → scalars types t ≤ MOST_SCALARS
  pub parts : PartsAreTold types
  pub opens : OpensStand types

module _ (number : ℕ) (before : List Home) (types : List TypeRow) (text : List ℕ) (m : Module) (ts : List Target)
    (given : IsGiven number before types)
    (constants : (j : ℕ) (h : Home) (k : ℕ) (s : Scope) → slice_get before j ≡ Some h → slice_get h.scopes k ≡ Some s → AreGood s.constants)
    (old : AreOld types) (led : AreLed types (length (all_type_defs m.decls)) (all_type_defs m.decls) ts) (once : name_breaches text m ≡ []) where
  abbrev pub table : List TypeRow
  table = first number before types text m ts given constants old.ten led

  abbrev pub own : List (Option TypeId)
  own = standing number before types text m ts given constants old.ten led

  abbrev pub begun : Env
  begun = entered number before table text m own

  abbrev pub path : List Open
  path = env.own number ∷ []

  pub begun_good : AllGood begun.here
  begun_good k s there = subst AreGood (sym (scope_fresh text before own m k s there).0) tt

  -- The parts of the rows that the module writes are told before any declaration is met.

  on_table : GoOn types table
  on_table = told_behind types (first_rows (length types) ts)

  abbrev is_sound : (k : ℕ) (x : Target) → slice_get ts k ≡ Some x → IsSound types (length ts) x
  is_sound = sound number before types text m ts given constants old.ten led

  length_one : IsLength 1
  length_one = (omega arith, omega arith)

  first_parts : (k : ℕ) (x : Target) → k < length ts → slice_get ts k ≡ Some x → AreAskedParts (length table) table [] (first_row (length types + k) x)
  first_parts k Own l is = (
    length_one,
    told_first types ts old.ten is_sound (record { 0 = length types + k })
        (place_meant number before types text m ts given constants old.ten led k l),
  )
  first_parts k (Of u) l is = (length_one, told_first types ts old.ten is_sound u (is_sound k (Of u) is))
  first_parts k Nothing l is = tt

  -- a row behind those of the modules before
  record IsFirstRow (k : ℕ) (r : TypeRow) : Type 0 where
    place : ℕ
    target : Target
    is : slice_get ts place ≡ Some target
    row_is : first_row (length types + place) target ≡ r

  first_row_is : (k : ℕ) (r : TypeRow) → length types ≤ k → slice_get table k ≡ Some r → IsFirstRow k r
  first_row_is k r behind is =
      let j = k - length types in
      let place : length types + j ≡ k = omega (arith, behind) in
      let at = sym (rows_at (length types) ts j) ∙ sym (get_behind types (first_rows (length types) ts) j) ∙ ap (slice_get table) place ∙ is in
      let x = mapped_at (first_row (length types + j)) (slice_get ts j) r at in
      record { place = j; target = x.0; is = x.1; row_is = x.2 }

  table_parts : PartsAreAsked (length table) (length types) table []
  table_parts k r behind is =
      let x = first_row_is k r behind is in
      subst (AreAskedParts (length table) table []) x.row_is (first_parts x.place x.target (slice_get_within ts x.place x.target x.is) x.is)

  first_opens : (k : ℕ) (x : Target) → slice_get ts k ≡ Some x → (j : ℕ) → IsOpenAt j (first_row (length types + k) x)
  first_opens k Own is j = tt
  first_opens k (Of u) is j = tt
  first_opens k Nothing is j = absurd (is_sound k Nothing is)

  table_opens : OpensStand table
  table_opens k r is = by (cases_lt k (length types))
    where
      by : (k < length types) ⊎ (length types ≤ k) → IsOpenAt k r
      by (inl below) = old.opens k r (sym (get_below types (first_rows (length types) ts) k below) ∙ is)
      by (inr behind) = let x = first_row_is k r behind is in subst (IsOpenAt k) x.row_is (first_opens x.place x.target x.is k)

  -- the first row of an object type that the module declares
  first_object : (t : TypeId) (o : ObjectScope) → lookup (λ k. nat_eq t.0 k) (objects_of number own m.decls) ≡ Some o → slice_get table t.0 ≡ Some (row.Array 1 t)
  first_object t o at =
      let x = (object_number number before types text m ts given constants old.ten led t o at).one in
      subst (λ (t : TypeId). slice_get table t.0 ≡ Some (row.Array 1 t)) x.equal (first_row_at types ts x.place Own x.own)

  -- The first walk.

  abbrev first_walk : Telling
  first_walk = outline number before types text m ts given constants old.ten led

  abbrev IsFurther : List TypeRow → List TypeRow → Type 0
  IsFurther = GoesTo number before types text m ts given constants old.ten led

  fit_first : IsFit first_walk path begun
  fit_first = record {
    number_is = refl;
    before_is = refl;
    name_is = refl;
    text_is = refl;
    first_is = refl;
    names_are = λ j. refl;
    path_is = refl;
    narrowed_is = refl;
    good = begun_good;
    table = first_walk.stays table;
    agrees = (no_bases (HasSlot number before types text m ts given constants old.ten led), no_object_bases (HasSlot number before types text m ts given constants old.ten led));
    objects_is = ap (λ n. objects_of n own m.decls) given.here;
    filled = tt;
  }

  first_searched : Each (IsSearched first_walk) path
  first_searched = (inl refl, tt)

  module _ (none : (headings begun m.decls).breaches ≡ []) where
    abbrev pub ended : Env
    ended = (headings begun m.decls).answer

    outlined : IsHeaded first_walk path first_searched m.decls begun ended
    outlined =
        let all = all_numbers number before types text m ts given constants old.ten led in
        headings_sound first_walk path first_searched refl m.decls refl
        (own_slots first_walk own before m refl (module_alike text m once) all)
        (inner_slots first_walk own before m refl (inner_types_alike text m once) all path first_searched)
        (procedures_slots first_walk own before m refl (procedures_alike text m once) all) begun fit_first none

    goes : IsFurther table ended.types
    goes = outlined.goes

    long_table : length table ≡ length types + length ts
    long_table = table_long number before types text m ts given constants old.ten led

    pub long : length ended.types ≡ length types + (length (all_type_defs m.decls) + length ended.places)
    long =
        let l = outlined.long in
        let c = count number before types text m ts given constants old.ten led in
        omega (arith, l, c, long_table)

    pub stays : (k : ℕ) → k < length types → slice_get ended.types k ≡ slice_get types k
    stays k below = goes.kept k (omega (arith, below, long_table)) (inl below) ∙ get_below types (first_rows (length types) ts) k below

    alias_rows : (k : ℕ) (u : TypeId) → slice_get ts k ≡ Some (Of u) → slice_get ended.types (length types + k) ≡ Some (row.Array 1 u)
    alias_rows k u is =
        let l = slice_get_within ts k (Of u) is in
        goes.kept (length types + k) (omega (arith, l, long_table)) (inr (k, u, is, refl)) ∙ first_row_at types ts k (Of u) is

    -- rows name types that are there

    row_below : (k : ℕ) (x : Target) → k < length ts → slice_get ts k ≡ Some x → AreBelow (length table) (first_row (length types + k) x)
    row_below k Own l is p (inl e) = subst (λ (p : TypeId). p.0 < length table) e (let m : length types + k < length table = omega (arith, l, long_table) in m)
    row_below k Own l is p (inr h) = absurd h
    row_below k (Of u) l is p (inl e) =
        subst (λ (p : TypeId). p.0 < length table) e
        (meant_below number before types text m ts given constants old.ten led u (sound number before types text m ts given constants old.ten led k (Of u) is))
    row_below k (Of u) l is p (inr h) = absurd h
    row_below k Nothing l is p one = absurd (sound number before types text m ts given constants old.ten led k Nothing is)

    table_closed : AllBelow (length table) table
    table_closed k r is = by (cases_lt k (length types))
      where
        by : (k < length types) ⊎ (length types ≤ k) → AreBelow (length table) r
        by (inl below) = λ p one. let l = old.closed k r (sym (get_below types (first_rows (length types) ts) k below) ∙ is) p one in omega (arith, l, long_table)
        by (inr behind) =
            let x = first_row_is k r behind is in
            subst (AreBelow (length table)) x.row_is (row_below x.place x.target (slice_get_within ts x.place x.target x.is) x.is)

    pub closed : AllBelow (length ended.types) ended.types
    closed = goes.closed table_closed

    -- Records whose bases are none lose their contents; rows of the modules before and of names for other types stay.

    abbrev pub based : List TypeRow
    based = (limits.with_bases ended).types

    based_long : length based ≡ length ended.types
    based_long = bases_long ended.claims ended.types

    based_kept : (k : ℕ) → IsKept number before types text m ts given constants old.ten led k → slice_get based k ≡ slice_get ended.types k
    based_kept k kept = bases_other ended.claims k (λ j at b t is same. outlined.fit.agrees.0 j at b t is (subst (IsKept number before types text m ts given constants old.ten led) (sym same) kept))
        (λ j at b t is same. outlined.fit.agrees.1 j at b t is (subst (IsKept number before types text m ts given constants old.ten led) (sym same) kept)) ended.types

    based_stays : (k : ℕ) → k < length types → slice_get based k ≡ slice_get types k
    based_stays k below = based_kept k (inl below) ∙ stays k below

    based_aliases : (k : ℕ) (u : TypeId) → slice_get ts k ≡ Some (Of u) → slice_get based (length types + k) ≡ Some (row.Array 1 u)
    based_aliases k u is = based_kept (length types + k) (inr (k, u, is, refl)) ∙ alias_rows k u is

    -- What is judged of all types.

    module _ (asked : flat_map (limits.claim_breaches ended) ended.claims ≡ [])
        (judged : limits.all_breaches (circles based) (cut (circles based) based) (limits.with_bases ended) (length types) m.decls ≡ []) where
      based_free : NoneContainsItself based
      based_free = none_circular types based old.closed based_stays old.free free_from
        where
          free_from : (t : TypeId) → length types ≤ t.0 → t.0 < length based → contains_itself based t ≡ false
          free_from t from to =
              let flags = circles based in
              let rows = cut flags based in
              let within : t.0 < length types + (length (all_type_defs m.decls) + length ended.places) = omega (arith, to, long, based_long) in
              sym (flag_is based rows t to) ∙ (type_kept flags rows (limits.with_bases ended) (length types) m.decls judged t from within).0

      -- The second walk.

      pub all_end : (t : TypeId) → IsProper (length types) ts (follow (length types) ts (length ts) t)
      all_end = ends types ts old.ten (sound number before types text m ts given constants old.ten led) based based_free based_aliases

      abbrev pub second_walk : Telling
      second_walk = told number before types text m ts given constants old.ten led all_end

      abbrev pub second_searched : Each (IsSearched second_walk) path
      second_searched = (inl refl, tt)

      pub headed : IsHeaded second_walk path second_searched m.decls begun ended
      headed =
          let all = told_numbers number before types text m ts given constants old.ten led all_end in
          headings_sound second_walk path second_searched refl m.decls refl (own_slots second_walk own before m refl (module_alike text m once) all)
          (inner_slots second_walk own before m refl (inner_types_alike text m once) all path second_searched)
          (procedures_slots second_walk own before m refl (procedures_alike text m once) all) begun (record {
            number_is = refl;
            before_is = refl;
            name_is = refl;
            text_is = refl;
            first_is = refl;
            names_are = λ j. refl;
            path_is = refl;
            narrowed_is = refl;
            good = begun_good;
            table = second_walk.stays table;
            agrees = record {
              parts = table_parts;
              bases = no_bases (λ b t. IsTold table b);
              objects = no_object_bases (λ b t. IsTold table b);
              opens = table_opens;
              fields = λ t s found. absurd (none-some s found);
            };
            objects_is = ap (λ n. objects_of n own m.decls) given.here;
            filled = λ t o at. inl (first_object t o at);
          }) none

      -- All bases are records, and what pointers lead to is whole.

      pub basics : (k : ℕ) → k < 10 → slice_get ended.types k ≡ slice_get env.basic_rows k
      basics k low = stays k (let l = old.ten in omega (arith, l, low)) ∙ old.basic k low

      base_record : AllBases (λ b t. is_record (row_of ended.types b) ≡ true) ended.claims
      base_record k at b t is = base_kept ended ended.claims asked k at b t is (told_closed ended.types basics b (headed.fit.agrees.bases k at b t is))

      base_object : AllObjectBases (λ b t. is_object (row_of ended.types b) ≡ true) ended.claims
      base_object k at b t is = object_kept ended ended.claims asked k at b t is (told_closed ended.types basics b (headed.fit.agrees.objects k at b t is))

      pub bases_are : based ≡ ended.types
      bases_are = bases_same ended.types ended.claims base_record base_object

      base_of_row : (base : Option TypeId) → IsBaseAsked ended.claims base → IsBase ended.types base
      base_of_row None asked = tt
      base_of_row (Some b) asked = base_record asked.place asked.at b asked.of asked.is

      object_of_row : (base : Option TypeId) → IsObjectAsked ended.claims base → IsObjectBase ended.types base
      object_of_row None asked = tt
      object_of_row (Some b) asked = base_object asked.place asked.at b asked.of asked.is

      target_of_row : (t : TypeId) → Leads (Stands (length table) ended.types) ended.claims t → may_be_target (row_of ended.types t) ≡ true
      target_of_row t (inl claimed) = target_kept ended ended.claims asked t claimed
      target_of_row t (inr stands) = stands.1

      goes_on : GoOn types ended.types
      goes_on t told = headed.goes.on t (on_table t told)

      old_kept : (k : ℕ) (r : TypeRow) → slice_get types k ≡ Some r → slice_get ended.types k ≡ Some r
      old_kept k r is = stays k (slice_get_within types k r is) ∙ is

      pub written : (k : ℕ) (r : TypeRow) → length types ≤ k → slice_get ended.types k ≡ Some r → IsWritten r
      written k r behind is = asked_written (length table) ended.types ended.claims r (headed.fit.agrees.parts k r behind is)

      -- So nothing is lost, and no type contains itself or is past the limit.

      kept : limits.all_breaches (circles ended.types) (cut (circles ended.types) ended.types) ended (length types) m.decls ≡ []
      kept = subst (λ rows. limits.all_breaches (circles rows) (cut (circles rows) rows) ended (length types) m.decls ≡ []) bases_are judged

      pub free : NoneContainsItself ended.types
      free = subst NoneContainsItself bases_are based_free

      cut_same : cut (circles ended.types) ended.types ≡ ended.types
      cut_same = nothing_cut ended.types free

      pub cut_is : cut (circles based) based ≡ ended.types
      cut_is = ap (λ rows. cut (circles rows) rows) bases_are ∙ cut_same

      pub kept_whole : limits.all_breaches (circles ended.types) ended.types ended (length types) m.decls ≡ []
      kept_whole = subst (λ rows. limits.all_breaches (circles ended.types) rows ended (length types) m.decls ≡ []) cut_same kept

      -- So each object type has the row of its definition.

      no_array : (t : TypeId) → slice_get ended.types t.0 ≡ Some (row.Array 1 t) → ⊥
      no_array t is =
          let part : IsPartOf ended.types t t =
          subst (λ o. IsOneOf t (parts_of ended.types o)) (sym is) (subst (λ (b : Bool). IsOneOf t (if b then [] else t ∷ [])) (sym (ap is_object is)) (inl refl)) in
          let falls = (ranked ended.types free).falls t t part in
          omega (arith, falls)

      pub object_row : (t : TypeId) (o : ObjectScope) → lookup (λ k. nat_eq t.0 k) (objects_of number own m.decls) ≡ Some o →
          IsObjectRow (fields_at (type_defs m.decls)) ended.types ended.here.scopes t o
      object_row t o at = by (headed.fit.filled t o at)
        where
          by : IsFilled (fields_at (type_defs m.decls)) ended.types ended.here.scopes t o → IsObjectRow (fields_at (type_defs m.decls)) ended.types ended.here.scopes t o
          by (inl first) = absurd (no_array t first)
          by (inr row) = row

      pub not_circular : (t : TypeId) → t.0 < length ended.types → limits.is_circular (circles ended.types) ended.types t ≡ false
      not_circular t l = flag_is ended.types ended.types t l ∙ by (cases_Bool (contains_itself ended.types t))
        where
          by : (contains_itself ended.types t ≡ true) ⊎ (contains_itself ended.types t ≡ false) → contains_itself ended.types t ≡ false
          by (inl e) = absurd (free t ((circle_test ended.types t).0 e))
          by (inr e) = e

      new_within : (t : TypeId) → length types ≤ t.0 → t.0 < length ended.types → is_first_past ended.types t ≡ false
      new_within t from to = (type_kept (circles ended.types) ended.types ended (length types) m.decls kept_whole t from (omega (arith, to, long))).1

      pub sizes : (t : TypeId) → scalars ended.types t ≤ MOST_SCALARS
      sizes = all_within types ended.types old.closed stays old.free free old.sizes new_within

      -- What is told of all rows.

      result_of_row : (r : Option TypeId) → OfResult (IsGivenResult ended.types ended.claims) r → IsResultType ended.types r
      result_of_row None given = tt
      result_of_row (Some t) given =
          let flags = circles ended.types in
          let ten : 10 ≤ length ended.types = let l = old.ten in omega (arith, l, long) in
          let asked = given.1 in
          let rule = claim_kept (limits.asked_result flags ended.types) ended.claims (asked_kept flags ended.types ended (length types) m.decls kept_whole)
          asked.place (claim.Result asked.at t) asked.is in
          (given.0, result_scalar flags ended.types basics asked.at t given.0 (not_circular t (told_below ended.types ten t given.0)) (sizes t) rule)

      told_row : (r : TypeRow) → AreAskedParts (length table) ended.types ended.claims r → AreToldParts ended.types r
      told_row (row.Basic b) parts = tt
      told_row row.Any parts = tt
      told_row (row.Array n t) parts = parts
      told_row (row.Open t) parts = tt
      told_row (row.Record base fs) parts = (base_of_row base parts.0, parts.1)
      told_row (row.Pointer t) parts = let may = target_of_row t parts in (target_high ended.types basics t may, may)
      told_row (row.Object base fs) parts = (object_of_row base parts.0, parts.1)
      told_row (row.Procedure fs r) parts = (parts.0, result_of_row r parts.1)

      pub parts : PartsAreTold ended.types
      parts k r is = by (cases_lt k (length types))
        where
          by : (k < length types) ⊎ (length types ≤ k) → AreToldParts ended.types r
          by (inl below) = told_on types ended.types goes_on old_kept (omega (arith, long)) r (old.parts k r (sym (stays k below) ∙ is))
          by (inr behind) = told_row r (headed.fit.agrees.parts k r behind is)
