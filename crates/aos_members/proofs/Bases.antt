-- A record has its bases' fields before its own, and a field's name is looked for in one base after another.
use Rattle.std.proofs.Common.{◌≡◌, ◌<◌, ◌≤◌, ℕ, zero, suc, ◌+◌, ◌-◌, List, Option, Some, None, option_map, option_and_then, refl, ap, sym, ◌∙◌, arith}
use Rattle.std.specs.Option.{option_or}
use Rattle.aos_tree.specs.declared.name.Name.{Name}
use Rattle.aos_types.specs.declared.row.TypeId.{TypeId}
use Rattle.aos_types.specs.declared.row.TypeRow.{TypeRow}
use Rattle.aos_types.specs.Table.{row_of, base_of}
use Rattle.aos_symbols.specs.declared.env.Env.{Env}
use Rattle.aos_members.specs.declared.fields.Field.{Field}
use Rattle.aos_members.specs.Members.{field_count, of_base, fields_before, counted_on, own_field, field_by}

module _ (rows : List TypeRow) (t : TypeId) where
  -- the fields of a base and of its own bases
  pub before_base : (n : ℕ) (b : TypeId) (count more all : ℕ) → base_of (row_of rows t) ≡ Some b → 0 < n →
      more ≡ count + field_count (row_of rows b) → fields_before n rows t + count ≡ all → fields_before (n - 1) rows b + more ≡ all
  before_base zero b count more all is some counted before = absurd (omega arith)
  before_base (suc n) b count more all is some counted before =
      let here : fields_before (suc n) rows t ≡ fields_before n rows b + field_count (row_of rows b) =
      ap (λ o. of_base (λ c. fields_before n rows c + field_count (row_of rows c)) o) is in
      let less : suc n - 1 ≡ n = omega arith in
      ap (λ m. fields_before m rows b + more) less ∙ omega (arith, here, counted, before)

  pub before_none : (n count all : ℕ) → base_of (row_of rows t) ≡ None → fields_before n rows t + count ≡ all → count ≡ all
  before_none zero count all is before =
      let none : fields_before zero rows t ≡ 0 = refl in
      omega (arith, none, before)
  before_none (suc n) count all is before =
      let none : fields_before (suc n) rows t ≡ 0 = ap (λ o. of_base (λ c. fields_before n rows c + field_count (row_of rows c)) o) is in
      omega (arith, none, before)

  pub before_end : (n count all : ℕ) → n ≤ 0 → fields_before n rows t + count ≡ all → count ≡ all
  before_end zero count all over before =
      let none : fields_before zero rows t ≡ 0 = refl in
      omega (arith, none, before)
  before_end (suc n) count all over before = absurd (omega arith)

module _ (e : Env) (t : TypeId) (n : Name) where
  -- a base where the type has no such field of its own
  abbrev behind : ℕ → Option TypeId → Option Field
  behind k o = option_and_then (λ b. field_by k e b n) o

  pub found_own : (k : ℕ) (f : Field) (all : Option Field) → own_field e t n ≡ Some f → field_by k e t n ≡ all → Some (counted_on e.types t f) ≡ all
  found_own zero f all is before = sym (ap (λ o. option_map (counted_on e.types t) o) is) ∙ before
  found_own (suc k) f all is before =
      sym (ap (λ o. option_or (option_map (counted_on e.types t) o) (behind k (base_of (row_of e.types t)))) is) ∙ before

  pub searched_base : (k : ℕ) (b : TypeId) (all : Option Field) → own_field e t n ≡ None → base_of (row_of e.types t) ≡ Some b → 0 < k →
      field_by k e t n ≡ all → field_by (k - 1) e b n ≡ all
  searched_base zero b all own is some before = absurd (omega arith)
  searched_base (suc k) b all own is some before =
      let less : suc k - 1 ≡ k = omega arith in
      ap (λ m. field_by m e b n) less
      ∙ sym (ap (λ o. option_or (option_map (counted_on e.types t) o) (behind k (base_of (row_of e.types t)))) own ∙ ap (λ o. behind k o) is) ∙ before

  pub found_none : (k : ℕ) (all : Option Field) → own_field e t n ≡ None → base_of (row_of e.types t) ≡ None → field_by k e t n ≡ all → None ≡ all
  found_none zero all own is before = sym (ap (λ o. option_map (counted_on e.types t) o) own) ∙ before
  found_none (suc k) all own is before =
      sym (ap (λ o. option_or (option_map (counted_on e.types t) o) (behind k (base_of (row_of e.types t)))) own ∙ ap (λ o. behind k o) is) ∙ before

  pub found_end : (k : ℕ) (all : Option Field) → own_field e t n ≡ None → k ≤ 0 → field_by k e t n ≡ all → None ≡ all
  found_end zero all own over before = sym (ap (λ o. option_map (counted_on e.types t) o) own) ∙ before
  found_end (suc k) all own over before = absurd (omega arith)
