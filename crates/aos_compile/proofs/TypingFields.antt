-- The fields of record and object types: each that a name stands for has the number and the type that it has among its type's fields, of
-- which those of the type's base come first.
use Rattle.std.proofs.Common.{◌≡◌, ℕ, zero, suc, ◌+◌, ◌<◌, ◌≤◌, ◌==◌, ◌||◌, ◌⊎◌, inl, inr, List, [], ◌∷◌, ◌++◌, length, map, Bool, true, false, Option, Some, None, option_map, option_and_then, slice_get, refl, sym, ap, ◌∙◌, subst, eqb-true, length-append, arith}
use Rattle.std.specs.Option.{option_or}
use Rattle.std.proofs.lemmas.Bool.{cases_lt}
use Rattle.std.proofs.lemmas.Option.{none-some, same_Some, slice_get-map, slice_get_within, slice_get_past}
use Rattle.aos_tree.specs.declared.name.Name.{Name}
use Rattle.aos_types.specs.declared.row.TypeId.{TypeId}
use Rattle.aos_types.specs.declared.row.TypeRow.{TypeRow}
use Rattle.aos_types.specs.declared.row.TypeRow.TheVariants as row
use Rattle.aos_types.specs.Table.{row_of, is_record, is_object, base_of}
use Rattle.aos_types.specs.Extension.{on_base, comes_by}
use Rattle.aos_types.specs.Chain.{IsRanked}
use Rattle.aos_types.proofs.Tables.{base_part}
use Rattle.aos_typed.specs.WellTyped.{fields_in, fields_by, field_type}
use Rattle.aos_symbols.specs.declared.home.ObjectScope.{ObjectScope}
use Rattle.aos_symbols.specs.declared.scope.Entry.{Entry}
use Rattle.aos_symbols.specs.declared.scope.Meaning.{Meaning}
use Rattle.aos_symbols.specs.declared.scope.Meaning.TheVariants as means
use Rattle.aos_members.specs.declared.fields.Field.{Field}
use Rattle.aos_symbols.specs.declared.env.Env.{Env}
use Rattle.aos_symbols.specs.Scope.{Scope, find}
use Rattle.aos_symbols.specs.Home.{Home, object_of, scope_of, fields_of}
use Rattle.aos_symbols.specs.Spelling.{word}
use Rattle.aos_members.specs.Members as members
use Rattle.aos_symbols.proofs.Each.{Each, each_at}
use Rattle.aos_symbols.proofs.Told.{IsTold, AreToldParts, PartsAreTold, HasFields, FieldsAgree, get_front}
use Rattle.aos_operators.proofs.Sound.{not_both}
use Rattle.aos_check_expr.proofs.Whole.{has_fields}
use Rattle.aos_check_types.proofs.TypingLists.{get_behind}
use Rattle.aos_compile.proofs.TypingTypes.{RowsStay, there_stays}

-- The fields of a record are those of its base and its own, however many bases are looked at, where these are enough; and they stay
-- where the table goes on.

fields_agree : (f g : TypeId → List TypeId) (o : Option TypeRow) → ((b : TypeId) → base_of o ≡ Some b → f b ≡ g b) → fields_in f o ≡ fields_in g o
fields_agree f g (Some (row.Record None fs)) same = refl
fields_agree f g (Some (row.Record (Some b) fs)) same = ap (λ xs. xs ++ fs) (same b refl)
fields_agree f g (Some (row.Object None fs)) same = refl
fields_agree f g (Some (row.Object (Some b) fs)) same = ap (λ xs. xs ++ fs) (same b refl)
fields_agree f g o same = refl

module _ (ts us : List TypeRow) (stay : RowsStay ts us) (ranked : IsRanked ts) (bases : (t b : TypeId) → base_of (row_of ts t) ≡ Some b → b.0 < length ts) where
  base_falls : (t b : TypeId) → base_of (row_of ts t) ≡ Some b → ranked.rank b < ranked.rank t
  base_falls t b is = ranked.falls t b (base_part ts (row_of ts t) b is)

  pub fields_same : (n m : ℕ) (t : TypeId) → t.0 < length ts → ranked.rank t ≤ n → ranked.rank t ≤ m → fields_by n ts t ≡ fields_by m us t
  fields_same zero zero t there a b = ap (fields_in (λ c. [])) (sym (stay t.0 there))
  fields_same zero (suc m) t there a b =
      fields_agree (λ c. []) (λ c. fields_by m us c) (row_of ts t) (λ c is. absurd (let less = base_falls t c is in omega (arith, less, a)))
      ∙ ap (fields_in (λ c. fields_by m us c)) (sym (stay t.0 there))
  fields_same (suc n) zero t there a b =
      fields_agree (λ c. fields_by n ts c) (λ c. []) (row_of ts t) (λ c is. absurd (let less = base_falls t c is in omega (arith, less, b)))
      ∙ ap (fields_in (λ c. [])) (sym (stay t.0 there))
  fields_same (suc n) (suc m) t there a b =
      fields_agree (λ c. fields_by n ts c) (λ c. fields_by m us c) (row_of ts t)
      (λ c is. let less = base_falls t c is in fields_same n m c (bases t c is) (omega (arith, less, a)) (omega (arith, less, b)))
      ∙ ap (fields_in (λ c. fields_by m us c)) (sym (stay t.0 there))

-- a field has the number of a variable of its scope, and its type
field_numbered : (own : Bool) (s : Scope) (w : List ℕ) (f : Field) → members.field_in own s w ≡ Some f → slice_get s.variables f.number ≡ Some f.of
field_numbered own s w f h = by (find s w) refl
  where
    numbered : (x : Entry) (k : ℕ) (of : Option (Option TypeId)) → slice_get s.variables k ≡ of →
        option_map (λ (of : Option TypeId). let y : Field = record { is_own = own; mark = x.mark; number = k; of = of } in y) of ≡ Some f → slice_get s.variables f.number ≡ Some f.of
    numbered x k None is h = absurd (none-some f h)
    numbered x k (Some of) is h =
        subst (λ (y : Field). slice_get s.variables y.number ≡ Some y.of) (same_Some (record { is_own = own; mark = x.mark; number = k; of = of }) f h) is

    meant : (x : Entry) → find s w ≡ Some x → (m : Meaning) → x.means ≡ m → slice_get s.variables f.number ≡ Some f.of
    meant x found (means.Variable k) is = numbered x k (slice_get s.variables k) refl (rw is at (rw found at h))
    meant x found (means.Constant k) is = absurd (none-some f (rw is at (rw found at h)))
    meant x found (means.Type of) is = absurd (none-some f (rw is at (rw found at h)))
    meant x found (means.Procedure k) is = absurd (none-some f (rw is at (rw found at h)))
    meant x found (means.Module k) is = absurd (none-some f (rw is at (rw found at h)))
    meant x found means.Out is = absurd (none-some f (rw is at (rw found at h)))
    meant x found (means.Truth b) is = absurd (none-some f (rw is at (rw found at h)))
    meant x found (means.Function g) is = absurd (none-some f (rw is at (rw found at h)))
    meant x found (means.Routine r) is = absurd (none-some f (rw is at (rw found at h)))
    meant x found means.Proper is = absurd (none-some f (rw is at (rw found at h)))
    meant x found means.Itself is = absurd (none-some f (rw is at (rw found at h)))
    meant x found means.Other is = absurd (none-some f (rw is at (rw found at h)))

    by : (o : Option Entry) → find s w ≡ o → slice_get s.variables f.number ≡ Some f.of
    by None found = absurd (none-some f (rw found at h))
    by (Some x) found = meant x found x.means refl

-- and so in the row
abbrev InRow : List TypeId → Field → Type 0
InRow ts f = (u : TypeId) × (f.of ≡ Some u) × (slice_get ts f.number ≡ Some u)

in_row : (ts : List TypeId) (f : Field) → slice_get (map (λ t. Some t) ts) f.number ≡ Some f.of → InRow ts f
in_row ts f h = by (slice_get ts f.number) refl
  where
    by : (o : Option TypeId) → slice_get ts f.number ≡ o → InRow ts f
    by None is = absurd (none-some f.of (sym (ap (option_map (λ t. Some t)) is) ∙ sym (slice_get-map (λ t. Some t) ts f.number) ∙ h))
    by (Some u) is = (u, sym (same_Some (Some u) f.of (sym (ap (option_map (λ t. Some t)) is) ∙ sym (slice_get-map (λ t. Some t) ts f.number) ∙ h)), is)

-- The row of an object type or a record, with its base and its own fields.

abbrev with_row : (is_object : Bool) → Option TypeId → List TypeId → TypeRow
with_row true base ts = row.Object base ts
with_row false base ts = row.Record base ts

pub record IsRow (r : Option TypeRow) : Type 0 where
  pub kind : Bool
  pub base : Option TypeId
  pub own : List TypeId
  pub is : r ≡ Some (with_row kind base own)

pub row_with : (r : Option TypeRow) → has_fields r ≡ true → IsRow r
row_with (Some (row.Record base ts)) is = record { kind = false; base = base; own = ts; is = refl }
row_with (Some (row.Object base ts)) is = record { kind = true; base = base; own = ts; is = refl }
row_with r is = absurd (not_both (sym is))

abbrev behind_base : (TypeId → List TypeId) → Option TypeId → List TypeId
behind_base f None = []
behind_base f (Some b) = f b

fields_row : (f : TypeId → List TypeId) (kind : Bool) (base : Option TypeId) (ts : List TypeId) → fields_in f (Some (with_row kind base ts)) ≡ behind_base f base ++ ts
fields_row f true None ts = refl
fields_row f true (Some b) ts = refl
fields_row f false None ts = refl
fields_row f false (Some b) ts = refl

base_row : (kind : Bool) (base : Option TypeId) (ts : List TypeId) → base_of (Some (with_row kind base ts)) ≡ base
base_row true base ts = refl
base_row false base ts = refl

count_row : (kind : Bool) (base : Option TypeId) (ts : List TypeId) → members.field_count (Some (with_row kind base ts)) ≡ length ts
count_row true base ts = refl
count_row false base ts = refl

record_fielded : (r : Option TypeRow) → is_record r ≡ true → has_fields r ≡ true
record_fielded (Some (row.Record base ts)) is = refl
record_fielded r is = absurd (not_both (sym is))

pub object_fielded : (r : Option TypeRow) → is_object r ≡ true → has_fields r ≡ true
object_fielded (Some (row.Object base ts)) is = refl
object_fielded r is = absurd (not_both (sym is))

told_row : (rows : List TypeRow) (kind : Bool) (base : Option TypeId) (ts : List TypeId) → AreToldParts rows (with_row kind base ts) →
    ((c : TypeId) → base ≡ Some c → has_fields (row_of rows c) ≡ true) × Each (IsTold rows) ts
told_row rows true None ts told = (λ c is. absurd (none-some c is), told.1)
told_row rows true (Some b) ts told = (λ c is. subst (λ (d : TypeId). has_fields (row_of rows d) ≡ true) (same_Some b c is) (object_fielded (row_of rows b) told.0), told.1)
told_row rows false None ts told = (λ c is. absurd (none-some c is), told.1)
told_row rows false (Some b) ts told = (λ c is. subst (λ (d : TypeId). has_fields (row_of rows d) ≡ true) (same_Some b c is) (record_fielded (row_of rows b) told.0), told.1)

pub has_row : (rows : List TypeRow) (t : TypeId) (kind : Bool) (base : Option TypeId) (ts : List TypeId) → row_of rows t ≡ Some (with_row kind base ts) → HasFields rows t base ts
has_row rows t true base ts there = inr there
has_row rows t false base ts there = inl there

module _ (types : List TypeRow) (t : TypeId) (base : Option TypeId) (ts : List TypeId) (there : HasFields types t base ts) (w : List ℕ) (f : Field) where
  known_field : (own : Bool) (s : Scope) → s.variables ≡ map (λ t. Some t) ts → members.field_in own s w ≡ Some f → InRow ts f
  known_field own s is h = in_row ts f (ap (λ vs. slice_get vs f.number) (sym is) ∙ field_numbered own s w f h)

  abbrev kind : Bool
  kind = is_object (row_of types t)

  home_field : (own : Bool) (other : Option Field) (h : Home) → FieldsAgree types h → (other ≡ Some f → InRow ts f) → members.field_or own w other (fields_of kind h t) ≡ Some f → InRow ts f
  home_field own other h agree more = by (fields_of kind h t) refl
    where
      by : (o : Option Scope) → fields_of kind h t ≡ o → members.field_or own w other o ≡ Some f → InRow ts f
      by None at e = more e
      by (Some s) at e = known_field own s ((agree t s at).1 base ts there) e

  homes_field : (hs : List Home) → ((k : ℕ) (h : Home) → slice_get hs k ≡ Some h → FieldsAgree types h) → members.field_among kind hs t w ≡ Some f → InRow ts f
  homes_field [] agree e = absurd (none-some f e)
  homes_field (h ∷ hs) agree e = home_field false (members.field_among kind hs t w) h (agree zero h refl) (homes_field hs (λ k g at. agree (suc k) g at)) e

module _ (rows : List TypeRow) (ranked : IsRanked rows) (parts : PartsAreTold rows) (bases : (t b : TypeId) → base_of (row_of rows t) ≡ Some b → b.0 < length rows) where
  pub parts_of : (t : TypeId) (r : IsRow (row_of rows t)) → ((c : TypeId) → r.base ≡ Some c → has_fields (row_of rows c) ≡ true) × Each (IsTold rows) r.own
  parts_of t r = told_row rows r.kind r.base r.own (parts t.0 (with_row r.kind r.base r.own) r.is)

  base_is : (t : TypeId) (r : IsRow (row_of rows t)) → base_of (row_of rows t) ≡ r.base
  base_is t r = ap base_of r.is ∙ base_row r.kind r.base r.own

  fields_are : (n : ℕ) (t : TypeId) (r : IsRow (row_of rows t)) → fields_by (suc n) rows t ≡ behind_base (λ c. fields_by n rows c) r.base ++ r.own
  fields_are n t r = ap (fields_in (λ c. fields_by n rows c)) r.is ∙ fields_row (λ c. fields_by n rows c) r.kind r.base r.own

  -- bases have as many fields as are counted
  count_before : (n : ℕ) (b : TypeId) → has_fields (row_of rows b) ≡ true → length (fields_by n rows b) ≡ members.fields_before n rows b + members.field_count (row_of rows b)
  count_before zero b is =
      let r = row_with (row_of rows b) is in
      let fields = ap (λ o. length (fields_in (λ c. []) o)) r.is ∙ ap length (fields_row (λ c. []) r.kind r.base r.own) ∙ none r.base r.own in
      let count = ap members.field_count r.is ∙ count_row r.kind r.base r.own in
      omega (arith, fields, count)
    where
      none : (base : Option TypeId) (ts : List TypeId) → length (behind_base (λ c. []) base ++ ts) ≡ length ts
      none None ts = refl
      none (Some b) ts = refl
  count_before (suc n) b is =
      let r = row_with (row_of rows b) is in
      let fields = ap length (fields_are n b r) ∙ length-append (behind_base (λ c. fields_by n rows c) r.base) r.own in
      let count = ap members.field_count r.is ∙ count_row r.kind r.base r.own in
      let behind = by r.base refl (parts_of b r).0 (count_before n) in
      let before = ap (members.of_base (λ c. members.fields_before n rows c + members.field_count (row_of rows c))) (base_is b r) in
      omega (arith, fields, count, behind, before)
    where
      by : (base : Option TypeId) → base ≡ base → ((c : TypeId) → base ≡ Some c → has_fields (row_of rows c) ≡ true) →
          ((c : TypeId) → has_fields (row_of rows c) ≡ true → length (fields_by n rows c) ≡ members.fields_before n rows c + members.field_count (row_of rows c)) →
          length (behind_base (λ c. fields_by n rows c) base) ≡ members.of_base (λ c. members.fields_before n rows c + members.field_count (row_of rows c)) base
      by None same fielded rest = refl
      by (Some c) same fielded rest = rest c (fielded c refl)

  -- the table has one row more than so many
  has_rows : (t : TypeId) (r : IsRow (row_of rows t)) → (n : ℕ) × (length rows ≡ suc n)
  has_rows t r = by (length rows) refl
    where
      by : (k : ℕ) → length rows ≡ k → (n : ℕ) × (length rows ≡ suc n)
      by zero is = absurd (let below = slice_get_within rows t.0 (with_row r.kind r.base r.own) r.is in omega (arith, is, below))
      by (suc n) is = (n, is)

  -- a type's own fields are counted on from those of its base
  pub own_behind : (t : TypeId) (r : IsRow (row_of rows t)) (k : ℕ) (u : TypeId) → slice_get r.own k ≡ Some u →
      field_type rows t (members.fields_before (length rows) rows t + k) ≡ Some u
  own_behind t r k u is =
      let many = has_rows t r in
      let n = many.0 in
      let behind = behind_base (λ c. fields_by n rows c) r.base in
      let number : members.fields_before (length rows) rows t ≡ length behind =
      ap (λ m. members.fields_before m rows t) many.1 ∙ ap (members.of_base (λ c. members.fields_before n rows c + members.field_count (row_of rows c))) (base_is t r) ∙ by n r.base (parts_of t r).0 in
      ap (λ m. slice_get (fields_by m rows t) (members.fields_before (length rows) rows t + k)) many.1
      ∙ ap (λ m. slice_get (fields_by (suc n) rows t) (m + k)) number
      ∙ ap (λ fs. slice_get fs (length behind + k)) (fields_are n t r)
      ∙ get_behind behind r.own k ∙ is
    where
      by : (n : ℕ) (base : Option TypeId) → ((c : TypeId) → base ≡ Some c → has_fields (row_of rows c) ≡ true) →
          members.of_base (λ c. members.fields_before n rows c + members.field_count (row_of rows c)) base ≡ length (behind_base (λ c. fields_by n rows c) base)
      by n None fielded = refl
      by n (Some c) fielded = sym (count_before n c (fielded c refl))

  -- and a base's fields come first
  pub base_first : (t c : TypeId) → has_fields (row_of rows t) ≡ true → base_of (row_of rows t) ≡ Some c → (k : ℕ) (u : TypeId) → field_type rows c k ≡ Some u → field_type rows t k ≡ Some u
  base_first t c fielded below k u is =
      let r = row_with (row_of rows t) fielded in
      let many = has_rows t r in
      let n = many.0 in
      let long = many.1 in
      let less = ranked.falls t c (base_part rows (row_of rows t) c below) in
      let bound = ranked.bound t in
      let bound_c = ranked.bound c in
      let few : ranked.rank c ≤ n = omega (arith, less, bound, long) in
      let enough : ranked.rank c ≤ length rows = omega (arith, bound_c) in
      let base : r.base ≡ Some c = sym (base_is t r) ∙ below in
      ap (λ m. slice_get (fields_by m rows t) k) long
      ∙ ap (λ fs. slice_get fs k) (fields_are n t r ∙ ap (λ b. behind_base (λ c. fields_by n rows c) b ++ r.own) base)
      ∙ get_front (fields_by n rows c) r.own k u (ap (λ fs. slice_get fs k) (fields_same rows rows (λ k l. refl) ranked bases n (length rows) c (bases t c below) few enough) ∙ is)

  -- what extends a type has its fields
  pub fields_extend : (n : ℕ) (a b : TypeId) → comes_by n rows a b ≡ true → has_fields (row_of rows b) ≡ true → (k : ℕ) (u : TypeId) → field_type rows b k ≡ Some u → field_type rows a k ≡ Some u
  fields_extend zero a b comes fielded k u is = ap (λ (t : TypeId). field_type rows t k) (number_same a b (eqb-true a.0 b.0 comes)) ∙ is
    where
      number_same : (a b : TypeId) → a.0 ≡ b.0 → a ≡ b
      number_same a b e = ap (λ (n : ℕ). record { 0 = n }) e
  fields_extend (suc n) a b comes fielded k u is = by (a.0 == b.0) refl (base_of (row_of rows a)) refl comes (λ c h. fields_extend n c b h fielded k u is)
    where
      number_same : (a b : TypeId) → a.0 ≡ b.0 → a ≡ b
      number_same a b e = ap (λ (n : ℕ). record { 0 = n }) e

      based : (c : TypeId) (r : Option TypeRow) → base_of r ≡ Some c → has_fields r ≡ true
      based c (Some (row.Record base ts)) is = refl
      based c (Some (row.Object base ts)) is = refl
      based c r is = absurd (none-some c is)

      by : (x : Bool) → (a.0 == b.0) ≡ x → (o : Option TypeId) → base_of (row_of rows a) ≡ o → (x || on_base (λ c. comes_by n rows c b) o) ≡ true →
          ((c : TypeId) → comes_by n rows c b ≡ true → field_type rows c k ≡ Some u) → field_type rows a k ≡ Some u
      by true same o base h deeper = ap (λ (t : TypeId). field_type rows t k) (number_same a b (eqb-true a.0 b.0 same)) ∙ is
      by false other None base h deeper = absurd (not_both (sym h))
      by false other (Some c) base h deeper = base_first a c (based c (row_of rows a) base) base k u (deeper c h)

-- the field of a type that has a name
module _ (e : Env) (here : FieldsAgree e.types e.here) (before : (k : ℕ) (h : Home) → slice_get e.before k ≡ Some h → FieldsAgree e.types h) (ranked : IsRanked e.types)
    (parts : PartsAreTold e.types) (bases : (t b : TypeId) → base_of (row_of e.types t) ≡ Some b → b.0 < length e.types) where
  abbrev IsField : TypeId → Field → Type 0
  IsField t f = (u : TypeId) × (f.of ≡ Some u) × (field_type e.types t f.number ≡ Some u) × IsTold e.types u

  own_field : (t : TypeId) (n : Name) (f : Field) → has_fields (row_of e.types t) ≡ true → option_map (members.counted_on e.types t) (members.own_field e t n) ≡ Some f → IsField t f
  own_field t n f fielded h = by (members.own_field e t n) refl h
    where
      w : List ℕ
      w = word e.here.text n

      told : (g : Field) → members.own_field e t n ≡ Some g → IsField t (members.counted_on e.types t g)
      told g is =
          let row = row_with (row_of e.types t) fielded in
          let there = has_row e.types t row.kind row.base row.own row.is in
          let kind = is_object (row_of e.types t) in
          let r = home_field e.types t row.base row.own there w g true (members.field_among kind e.before t w) e.here here (homes_field e.types t row.base row.own there w g e.before before) is in
          (r.0, r.1, own_behind e.types ranked parts bases t row g.number r.0 r.2, each_at (IsTold e.types) row.own g.number r.0 (parts_of e.types ranked parts bases t row).1 r.2)

      by : (o : Option Field) → members.own_field e t n ≡ o → option_map (members.counted_on e.types t) o ≡ Some f → IsField t f
      by None is h = absurd (none-some f h)
      by (Some g) is h = subst (IsField t) (same_Some (members.counted_on e.types t g) f h) (told g is)

  told_by : (k : ℕ) (t : TypeId) (n : Name) (f : Field) → has_fields (row_of e.types t) ≡ true → members.field_by k e t n ≡ Some f → IsField t f
  told_by zero t n f fielded h = own_field t n f fielded h
  told_by (suc k) t n f fielded h = by (option_map (members.counted_on e.types t) (members.own_field e t n)) refl h (told_by k)
    where
      up : (o : Option TypeId) → base_of (row_of e.types t) ≡ o → option_and_then (λ b. members.field_by k e b n) o ≡ Some f →
          ((b : TypeId) (n : Name) (f : Field) → has_fields (row_of e.types b) ≡ true → members.field_by k e b n ≡ Some f → IsField b f) → IsField t f
      up (Some b) base h rest =
          let row = row_with (row_of e.types t) fielded in
          let r = rest b n f ((parts_of e.types ranked parts bases t row).0 b (sym (base_is e.types ranked parts bases t row) ∙ base)) h in
          (r.0, r.1, base_first e.types ranked parts bases t b fielded base f.number r.0 r.2, r.3)
      up None base h rest = absurd (none-some f h)

      by : (o : Option Field) → option_map (members.counted_on e.types t) (members.own_field e t n) ≡ o →
          option_or o (option_and_then (λ b. members.field_by k e b n) (base_of (row_of e.types t))) ≡ Some f →
          ((b : TypeId) (n : Name) (f : Field) → has_fields (row_of e.types b) ≡ true → members.field_by k e b n ≡ Some f → IsField b f) → IsField t f
      by (Some g) is h rest = own_field t n f fielded (is ∙ h)
      by None is h rest = up (base_of (row_of e.types t)) refl h rest

  pub fields_told : (t : TypeId) (n : Name) (f : Field) → members.field e t n ≡ Some f → has_fields (row_of e.types t) ≡ true → IsField t f
  fields_told t n f is fielded = told_by (length e.types) t n f fielded is

-- where the table goes on
pub fields_on : (ts us : List TypeRow) → RowsStay ts us → (h : Home) → ((t : TypeId) (o : ObjectScope) → object_of h t ≡ Some o → t.0 < length ts) → FieldsAgree ts h → FieldsAgree us h
fields_on ts us stay h objects agree t s there = by (cases_lt t.0 (length ts))
  where
    object_there : (o : Option ObjectScope) → object_of h t ≡ o → scope_of h o ≡ Some s → t.0 < length ts
    object_there None is found = absurd (none-some s found)
    object_there (Some o) is found = objects t o is

    old_there : (kind : Bool) → fields_of kind h t ≡ Some s → length ts ≤ t.0 → t.0 < length ts
    old_there true found past = object_there (object_of h t) refl found
    old_there false found past = (agree t s (ap (λ o. fields_of (is_object o) h t) (slice_get_past ts t.0 past) ∙ found)).0

    by : (t.0 < length ts) ⊎ (length ts ≤ t.0) →
        (t.0 < length us) × ((base : Option TypeId) (fs : List TypeId) → HasFields us t base fs → s.variables ≡ map (λ t. Some t) fs)
    by (inl below) =
        let old = agree t s (ap (λ o. fields_of (is_object o) h t) (sym (stay t.0 below)) ∙ there) in
        (there_stays ts us stay t.0 below, λ base fs has. old.1 base fs (had base fs has))
      where
        had : (base : Option TypeId) (fs : List TypeId) → HasFields us t base fs → HasFields ts t base fs
        had base fs (inl is) = inl (sym (stay t.0 below) ∙ is)
        had base fs (inr is) = inr (sym (stay t.0 below) ∙ is)
    by (inr past) = let below = old_there (is_object (row_of us t)) there past in absurd (omega (arith, below, past))
