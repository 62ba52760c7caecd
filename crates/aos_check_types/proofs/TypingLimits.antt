-- What is judged of all types together, where no rule is broken: no type contains itself, none is the first past the limit, and
-- results are of scalar types.
use Rattle.std.proofs.Common.{◌≡◌, ℕ, zero, suc, ◌+◌, ◌-◌, ◌<◌, ◌≤◌, List, [], ◌∷◌, ◌++◌, length, map, fold, Bool, true, false, not, ◌&&◌, ◌||◌, nat_le, if◌then◌else◌, Option, Some, None, slice_get, refl, sym, ap, ◌∙◌, subst, arith, length-append}
use Rattle.std.specs.List.{zip, flat_map}
use Rattle.std.specs.Prelude.{sum_by, unwrap_or}
use Rattle.std.proofs.lemmas.Bool.{cases_lt, le-leb, leb-true}
use Rattle.std.proofs.lemmas.List.{length-map}
use Rattle.std.proofs.lemmas.List.FromFn.{get_or-map-range_with_len}
use Rattle.std.proofs.lemmas.Option.{none-some, same_Some, unwrap_or-slice_get}
use mathlib.Core.Logic.{◌⊎◌, inl, inr}
use Rattle.aos_base.specs.declared.limits.TheConstants.{MOST_SCALARS}
use Rattle.aos_base.specs.declared.text.Pos.{Pos}
use Rattle.aos_tree.specs.declared.decl.Def.{Def}
use Rattle.aos_tree.specs.declared.decl.Decl.{Decl}
use Rattle.aos_types.specs.declared.row.TypeId.{TypeId}
use Rattle.aos_types.specs.declared.row.TypeRow.{TypeRow}
use Rattle.aos_types.specs.declared.row.TypeRow.TheVariants as row
use Rattle.aos_types.specs.Table.{row_of, is_open, is_scalar, is_object}
use Rattle.aos_types.specs.Shape as shape
use Rattle.aos_types.specs.Shape.{size}
use Rattle.aos_types.specs.Contents.{contents, scalars, variable_scalars, at_most}
use Rattle.aos_types.specs.Chain.{NoneContainsItself, contains_itself, circles}
use Rattle.aos_types.specs.Limit.{is_past, is_first_past}
use Rattle.aos_types.proofs.Circles.{circle_test}
use Rattle.aos_types.proofs.Reached.{begins_added}
use Rattle.aos_symbols.specs.declared.breach.Breach.{Breach}
use Rattle.aos_types.specs.declared.signature.Signature.{Signature}
use Rattle.aos_symbols.specs.declared.env.Env.{Env}
use Rattle.aos_symbols.specs.Breaches.{breach_unless}
use Rattle.aos_symbols.specs.Declarations.{Procedure, all_procedures, all_type_defs, single_variables}
use Rattle.aos_symbols.specs.Env as env
use Rattle.aos_symbols.proofs.Holds.{none_left, none_right, test_is}
use Rattle.aos_symbols.proofs.Each.{Each}
use Rattle.aos_symbols.proofs.Told.{IsTold, basic, of_any, defined, IsKnown}
use Rattle.aos_check_types.specs.Limits as judge
use Rattle.aos_check_types.specs.Limits.{Written, written, defined_at, unnamed_at}
use Rattle.aos_check_types.proofs.TypingTables.{AllBelow, circle_stays}

not_true : (b : Bool) → not b ≡ true → b ≡ false
not_true true e = absurd (cc)
not_true false e = refl

module _ (flags : List Bool) (rows : List TypeRow) where
  -- of each of these types
  types_kept : (ws : List Written) (k : ℕ) → judge.types_from flags rows k ws ≡ [] → (j : ℕ) → j < length ws →
      (judge.is_circular flags rows (record { 0 = k + j }) ≡ false) × (is_first_past rows (record { 0 = k + j }) ≡ false)
  types_kept [] k none j below = absurd (omega (arith, below))
  types_kept (w ∷ ws) k none zero below =
      let t : TypeId = record { 0 = k } in
      let circular = judge.is_circular flags rows t in
      let past = is_first_past rows t in
      let one = none_left (judge.type_breaches flags rows t w) (judge.types_from flags rows (suc k) ws) none in
      let a = none_left (breach_unless (not circular) 18 w.named) (breach_unless (not past) 19 w.at) one in
      let b = none_right (breach_unless (not circular) 18 w.named) (breach_unless (not past) 19 w.at) one in
      subst (λ n. (judge.is_circular flags rows (record { 0 = n }) ≡ false) × (is_first_past rows (record { 0 = n }) ≡ false)) (let same : k ≡ k + 0 = omega arith in same)
      (not_true circular (test_is (not circular) 18 w.named a), not_true past (test_is (not past) 19 w.at b))
  types_kept (w ∷ ws) k none (suc j) below =
      let rest = none_right (judge.type_breaches flags rows (record { 0 = k }) w) (judge.types_from flags rows (suc k) ws) none in
      subst (λ n. (judge.is_circular flags rows (record { 0 = n }) ≡ false) × (is_first_past rows (record { 0 = n }) ≡ false)) (let same : suc k + j ≡ k + suc j = omega arith in same)
      (types_kept ws (suc k) rest j (omega (arith, below)))

  -- of each of these procedures
  results_kept : (ps : List Procedure) (ss : List Signature) → judge.results_from flags rows ps ss ≡ [] → (j : ℕ) (p : Procedure) (s : Signature) →
      slice_get ps j ≡ Some p → slice_get ss j ≡ Some s → judge.result_breaches flags rows (judge.result_of flags rows p.formals) s.gives ≡ []
  results_kept [] ss none j p s is there = absurd (none-some p is)
  results_kept (q ∷ ps) [] none j p s is there = absurd (none-some s there)
  results_kept (q ∷ ps) (x ∷ ss) none zero p s is there =
      subst (λ (p : Procedure). judge.result_breaches flags rows (judge.result_of flags rows p.formals) s.gives ≡ []) (same_Some q p is)
      (subst (λ (s : Signature). judge.result_breaches flags rows (judge.result_of flags rows q.formals) s.gives ≡ []) (same_Some x s there)
      (none_left (judge.result_breaches flags rows (judge.result_of flags rows q.formals) x.gives) (judge.results_from flags rows ps ss) none))
  results_kept (q ∷ ps) (x ∷ ss) none (suc j) p s is there =
      results_kept ps ss (none_right (judge.result_breaches flags rows (judge.result_of flags rows q.formals) x.gives) (judge.results_from flags rows ps ss) none) j p s is there

  -- of a module
  module _ (e : Env) (first : ℕ) (ds : List Decl) (none : judge.all_breaches flags rows e first ds ≡ []) where
    abbrev types : List Breach
    types = judge.types_from flags rows first (written e ds)

    abbrev results : List Breach
    results = judge.results_from flags rows (all_procedures ds) e.here.signatures

    abbrev variables : List Breach
    variables = judge.variables_past flags rows (sum_by (judge.scalars_of flags rows) e.before) (zip (single_variables ds) (judge.variables_of flags rows (slice_get e.here.scopes 0)))

    abbrev asked : List Breach
    asked = flat_map (judge.asked_result flags rows) e.claims

    written_long : length (written e ds) ≡ length (all_type_defs ds) + length e.places
    written_long =
        length-append (map defined_at (all_type_defs ds)) (map unnamed_at e.places)
        ∙ (λ i. length-map (all_type_defs ds) defined_at i + length-map e.places unnamed_at i)

    all_variables : types ++ results ++ variables ≡ []
    all_variables = none_left (types ++ results ++ variables) asked none

    all_results : types ++ results ≡ []
    all_results = none_left (types ++ results) variables all_variables

    pub type_kept : (t : TypeId) → first ≤ t.0 → t.0 < first + (length (all_type_defs ds) + length e.places) →
        (judge.is_circular flags rows t ≡ false) × (is_first_past rows t ≡ false)
    type_kept t from to =
        let number : first + (t.0 - first) ≡ t.0 = omega (arith, from) in
        subst (λ n. (judge.is_circular flags rows (record { 0 = n }) ≡ false) × (is_first_past rows (record { 0 = n }) ≡ false)) number
        (types_kept (written e ds) first (none_left types results all_results) (t.0 - first) (omega (arith, from, to, written_long)))

    pub variables_kept : variables ≡ []
    variables_kept = none_right (types ++ results) variables all_variables

    pub asked_kept : asked ≡ []
    asked_kept = none_right (types ++ results ++ variables) asked none

    pub result_kept : (j : ℕ) (p : Procedure) (s : Signature) → slice_get (all_procedures ds) j ≡ Some p → slice_get e.here.signatures j ≡ Some s →
        judge.result_breaches flags rows (judge.result_of flags rows p.formals) s.gives ≡ []
    result_kept = results_kept (all_procedures ds) e.here.signatures (none_right types results all_results)

-- Variables of a module.

variable_within : (rows : List TypeRow) (t : TypeId) → scalars rows t ≤ MOST_SCALARS → variable_scalars rows t ≤ MOST_SCALARS
variable_within rows t small = by (is_object (row_of rows t))
  where
    by : (b : Bool) → size (if b then shape.One t else contents rows t) ≤ MOST_SCALARS
    by true = omega arith
    by false = small

at_most_is : (most n : ℕ) → n ≤ most → at_most most n ≡ Some n
at_most_is most n small = ap (λ b. if b then Some n else None) (le-leb n most small)

-- how many scalars a variable of a type has
abbrev pub variable_cells : List TypeRow → Option TypeId → ℕ
variable_cells rows None = 0
variable_cells rows (Some t) = variable_scalars rows t

module _ (flags : List Bool) (rows : List TypeRow) (small : (t : TypeId) → scalars rows t ≤ MOST_SCALARS) where
  pub counted_is : (of : Option TypeId) → judge.counted flags rows of ≡ variable_cells rows of
  counted_is None = refl
  counted_is (Some t) = ap (λ o. unwrap_or o 0) (at_most_is MOST_SCALARS (variable_scalars rows t) (variable_within rows t (small t)))

  module _ (closed : (t : TypeId) → IsTold rows t → is_open (row_of rows t) ≡ false) where
    -- a type that is told counts
    known_counts : (of : Option TypeId) → IsKnown rows of → judge.is_counted flags rows of ≡ true
    known_counts None known = absurd known
    known_counts (Some t) known =
        let few = small t in
        let past : is_past rows t ≡ false = grind (arith, few) in
        ap (λ b. not (b || is_past rows t)) (closed t known) ∙ ap not past

    -- the sum so far counts these variables, and maybe others
    pub few_from : (ds : List Def) (vs : List (Option TypeId)) (own sum : ℕ) → length vs ≡ length ds → Each (IsKnown rows) vs → own ≤ MOST_SCALARS → own ≤ sum →
        judge.variables_past flags rows sum (zip ds vs) ≡ [] → fold (λ n v. n + variable_cells rows v) own vs ≤ MOST_SCALARS
    few_from [] [] own sum long known few less none = few
    few_from [] (v ∷ vs) own sum long known few less none = absurd (omega (arith, long))
    few_from (d ∷ ds) [] own sum long known few less none = few
    few_from (d ∷ ds) (v ∷ vs) own sum long known few less none =
        let n = sum + judge.counted flags rows v in
        let this = breach_unless (nat_le n MOST_SCALARS) 19 d.name.pos in
        let rest = judge.variables_past flags rows n (zip ds vs) in
        let counts : this ++ rest ≡ [] = sym (ap (λ b. if b then this ++ rest else []) (known_counts v known.0)) ∙ none in
        let one : nat_le n MOST_SCALARS ≡ true = test_is (nat_le n MOST_SCALARS) 19 d.name.pos (none_left this rest counts) in
        let most : n ≤ MOST_SCALARS = leb-true n MOST_SCALARS one in
        let same = counted_is v in
        few_from ds vs (own + variable_cells rows v) n (omega (arith, long)) known.1 (omega (arith, less, same, most)) (omega (arith, less, same))
        (none_right this rest counts)

-- the flag of a type that is there
pub flag_is : (rows rows' : List TypeRow) (t : TypeId) → t.0 < length rows → judge.is_circular (circles rows) rows' t ≡ contains_itself rows t
flag_is rows rows' t l =
    unwrap_or-slice_get (circles rows) t.0 false
    ∙ get_or-map-range_with_len (λ k. contains_itself rows (record { 0 = k })) 0 (length rows) t.0 t.0 false l (omega arith)

-- no type contains itself where no new one does
pub none_circular : (old rows : List TypeRow) → AllBelow (length old) old → ((k : ℕ) → k < length old → slice_get rows k ≡ slice_get old k) → NoneContainsItself old →
    ((t : TypeId) → length old ≤ t.0 → t.0 < length rows → contains_itself rows t ≡ false) → NoneContainsItself rows
none_circular old rows below stays free new t way = by (cases_lt t.0 (length old))
  where
    new_circle : length old ≤ t.0 → ⊥
    new_circle l = let e = (circle_test rows t).1 way in let f = new t l (begins_added rows t t way) in cc

    by : (t.0 < length old) ⊎ (length old ≤ t.0) → ⊥
    by (inl l) = free t (circle_stays old rows below stays t l way)
    by (inr l) = new_circle l

-- Results.

basic_scalar : (k : ℕ) → k < 7 → is_scalar (slice_get env.basic_rows k) ≡ true
basic_scalar zero l = refl
basic_scalar (suc zero) l = refl
basic_scalar (suc (suc zero)) l = refl
basic_scalar (suc (suc (suc zero))) l = refl
basic_scalar (suc (suc (suc (suc zero)))) l = refl
basic_scalar (suc (suc (suc (suc (suc zero))))) l = refl
basic_scalar (suc (suc (suc (suc (suc (suc zero)))))) l = refl
basic_scalar (suc (suc (suc (suc (suc (suc (suc k))))))) l = absurd (omega (arith, l))

module _ (flags : List Bool) (rows : List TypeRow) (begins : (k : ℕ) → k < 10 → slice_get rows k ≡ slice_get env.basic_rows k) where
  scalar_row : (r : TypeRow) → is_open (Some r) ≡ false → judge.has_parts flags rows (Some r) ≡ false → is_scalar (Some r) ≡ true
  scalar_row (row.Basic b) closed no_parts = refl
  scalar_row (row.Array n t) closed no_parts = absurd (cc)
  scalar_row (row.Open t) closed no_parts = absurd (cc)
  scalar_row (row.Record b fs) closed no_parts = absurd (cc)
  scalar_row (row.Pointer t) closed no_parts = refl
  scalar_row (row.Object b fs) closed no_parts = refl
  scalar_row (row.Procedure fs r) closed no_parts = refl
  scalar_row row.Any closed no_parts = refl

  no_parts : (a b c : Bool) → (a && (not b && not c)) ≡ false → b ≡ false → c ≡ false → a ≡ false
  no_parts true true c e f g = absurd (cc)
  no_parts true false true e f g = absurd (cc)
  no_parts true false false e f g = absurd (cc)
  no_parts false b c e f g = refl

  -- a result that breaks no rule, of a type that doesn't contain itself and isn't past the limit
  pub result_scalar : (at : Pos) (t : TypeId) → IsTold rows t → judge.is_circular flags rows t ≡ false → scalars rows t ≤ MOST_SCALARS →
      breach_unless (not (judge.is_wrong_result flags rows t)) 25 at ≡ [] → is_scalar (row_of rows t) ≡ true
  result_scalar at t (basic low) whole small none = ap is_scalar (begins t.0 (omega (arith, low))) ∙ basic_scalar t.0 low
  result_scalar at t (of_any any) whole small none = ap is_scalar (begins t.0 (omega (arith, any))) ∙ ap (λ k. is_scalar (slice_get env.basic_rows k)) any
  result_scalar at t (defined r high there closed) whole small none =
      let wrong = judge.is_wrong_result flags rows t in
      let right = not_true wrong (test_is (not wrong) 25 at none) in
      let past : is_past rows t ≡ false = grind (arith, small) in
      let parts = no_parts (judge.has_parts flags rows (row_of rows t)) (judge.is_circular flags rows t) (is_past rows t) right whole past in
      ap is_scalar there ∙ scalar_row r closed (ap (judge.has_parts flags rows) (sym there) ∙ parts)
