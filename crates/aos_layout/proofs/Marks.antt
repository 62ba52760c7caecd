-- Marks of the types of which objects may be made: one more object type, one more pointer, and all.
use Rattle.std.proofs.Common.{◌≡◌, ◌≢◌, ◌⊎◌, inl, inr, ◌<◌, ◌≤◌, ℕ, zero, suc, ◌+◌, List, [], ◌∷◌, ◌++◌, length, take, get_or, Bool, true, false, if◌then◌else◌, Some, ap, refl, sym, subst, ◌∙◌, arith, length-append}
use Rattle.std.specs.Prelude.{◌==◌, ◌||◌, slice_get, slice_set}
use Rattle.std.specs.List.{list_any}
use Rattle.std.proofs.lemmas.List.{take_more, take_all, length-set}
use Rattle.std.proofs.lemmas.List.Folds.{list_any-append}
use Rattle.std.proofs.Math.Bool.{or-false, or-true, or_assoc}
use Rattle.std.proofs.lemmas.Bool.Decides.{eqb_tells}
use Rattle.std.proofs.lemmas.Option.{get_or_from_slice_get}
use Rattle.aos_types.specs.declared.row.TypeId.{TypeId}
use Rattle.aos_types.specs.declared.row.TypeRow.{TypeRow}
use Rattle.aos_types.specs.declared.row.TypeRow.TheVariants as row
use Rattle.aos_types.specs.Table.{row_of, is_object}
use Rattle.aos_typed.specs.Open.{first_same}
use Rattle.aos_layout.specs.Layout.{leads_to, is_made, type_kinds, made_kinds}
use Rattle.aos_layout.specs.Marks.{AreMarks, AreMade}

-- a mark that isn't there
pub set_past : (ms : List Bool) (k : ℕ) (b : Bool) → length ms ≤ k → ms ≡ slice_set ms k b
set_past [] k b le = refl
set_past (m ∷ ms) zero b le = absurd (omega arith)
set_past (m ∷ ms) (suc k) b le = ap (λ l. m ∷ l) (set_past ms k b (omega arith))

set_here : (ms : List Bool) (k : ℕ) (a b : Bool) → slice_get ms k ≡ Some a → slice_get (slice_set ms k b) k ≡ Some b
set_here [] k a b e = absurd (cc)
set_here (m ∷ ms) zero a b e = refl
set_here (m ∷ ms) (suc k) a b e = set_here ms k a b e

set_other : (ms : List Bool) (k j : ℕ) (b : Bool) → k ≢ j → slice_get (slice_set ms k b) j ≡ slice_get ms j
set_other [] k j b n = refl
set_other (m ∷ ms) zero zero b n = absurd (n refl)
set_other (m ∷ ms) zero (suc j) b n = refl
set_other (m ∷ ms) (suc k) zero b n = refl
set_other (m ∷ ms) (suc k) (suc j) b n = set_other ms k j b (λ e. n (ap (λ i. suc i) e))

-- one mark is put
put_mark : (ms : List Bool) (k j : ℕ) (b : Bool) → slice_get ms j ≡ Some b → slice_get (slice_set ms k true) j ≡ Some (b || (k == j))
put_mark ms k j b e = by (eqb_tells k j)
  where
    by : (((k == j) ≡ true) × (k ≡ j)) ⊎ (((k == j) ≡ false) × (k ≢ j)) → slice_get (slice_set ms k true) j ≡ Some (b || (k == j))
    by (inl (is, same)) =
        ap (λ i. slice_get (slice_set ms i true) j) same ∙ set_here ms j b true e ∙ ap (λ x. Some x) (sym (or-true b) ∙ ap (λ x. b || x) (sym is))
    by (inr (is, differ)) = set_other ms k j true differ ∙ e ∙ ap (λ x. Some x) (sym (or-false b) ∙ ap (λ x. b || x) (sym is))

-- the first marks say of so many types whether they are object types
abbrev pub AreObjects : List TypeRow → ℕ → List Bool → Type 0
AreObjects rows count marks =
    (length marks ≡ count) × ((t : TypeId) → t.0 < count → slice_get marks t.0 ≡ Some (is_object (row_of rows t)))

-- one more mark
pushed : (P : ℕ → Bool) (ms : List Bool) (m : Bool) → m ≡ P (length ms) → ((j : ℕ) → j < length ms → slice_get ms j ≡ Some (P j)) → (j : ℕ) → j < length ms + 1 → slice_get (ms ++ m ∷ []) j ≡ Some (P j)
pushed P [] m is h zero lt = ap (λ b. Some b) is
pushed P [] m is h (suc j) lt = absurd (omega arith)
pushed P (x ∷ ms) m is h zero lt = h 0 (omega arith)
pushed P (x ∷ ms) m is h (suc j) lt = pushed (λ i. P (suc i)) ms m is (λ i l. h (suc i) (omega (arith, l))) j (omega (arith, lt))

pub objects_begin : (rows : List TypeRow) → AreObjects rows 0 []
objects_begin rows = (refl, λ t lt. absurd (omega arith))

pub objects_more : (rows : List TypeRow) (k : ℕ) (ms ms' : List Bool) → ms' ≡ ms ++ is_object (row_of rows (record { 0 = k })) ∷ [] → AreObjects rows k ms → AreObjects rows (k + 1) ms'
objects_more rows k ms ms' is h =
    let P : ℕ → Bool = λ j. is_object (row_of rows (record { 0 = j })) in
    subst (AreObjects rows (k + 1)) (sym is) (
      length-append ms (P k ∷ []) ∙ ap (λ n. n + 1) h.0,
      λ t lt. pushed P ms (P k) (ap P (sym h.0)) (λ j l. h.1 (record { 0 = j }) (omega (arith, l, h.0))) t.0 (omega (arith, lt, h.0)),
    )

pub objects_all : (rows : List TypeRow) (ms : List Bool) → AreObjects rows (length rows) ms → AreMarks rows 0 ms
objects_all rows ms h = record { long = h.0; say = λ t there. h.1 t there ∙ ap (λ b. Some b) (sym (or-false (is_object (row_of rows t)))) }

module _ (rows : List TypeRow) where
  -- a type leads on from one more row
  one_more : (t : TypeId) (k : ℕ) (r : TypeRow) → k < length rows → slice_get rows k ≡ Some r → list_any (leads_to rows t) (take (k + 1) rows) ≡ (list_any (leads_to rows t) (take k rows) || leads_to rows t r)
  one_more t k r lt at =
      ap (list_any (leads_to rows t)) (take_more rows k r lt ∙ ap (λ x. take k rows ++ x ∷ []) (get_or_from_slice_get rows k r r at))
      ∙ list_any-append (leads_to rows t) (take k rows) (r ∷ [])
      ∙ ap (λ b. list_any (leads_to rows t) (take k rows) || b) (or-false (leads_to rows t r))

  -- a row that is no pointer's
  pub marks_same : (ms : List Bool) (k : ℕ) (r : TypeRow) → k < length rows → slice_get rows k ≡ Some r → ((t : TypeId) → leads_to rows t r ≡ false) → AreMarks rows k ms → AreMarks rows (k + 1) ms
  marks_same ms k r lt at none h = record {
    long = h.long;
    say = λ t there.
        let objects = is_object (row_of rows t) in
        let before = list_any (leads_to rows t) (take k rows) in
        h.say t there ∙ ap (λ b. Some (objects || b)) (sym (or-false before) ∙ ap (λ b. before || b) (sym (none t)) ∙ sym (one_more t k r lt at));
  }

  -- a pointer's row
  pub marks_more : (ms : List Bool) (k : ℕ) (u : TypeId) → k < length rows → slice_get rows k ≡ Some (row.Pointer u) → AreMarks rows k ms → AreMarks rows (k + 1) (slice_set ms (first_same rows u).0 true)
  marks_more ms k u lt at h =
      let to = (first_same rows u).0 in record {
        long = length-set ms to true ∙ h.long;
        say = λ t there.
            let objects = is_object (row_of rows t) in
            let before = list_any (leads_to rows t) (take k rows) in
            put_mark ms to t.0 (objects || before) (h.say t there)
            ∙ ap (λ b. Some b) (or_assoc objects before (to == t.0))
            ∙ ap (λ b. Some (objects || b)) (sym (one_more t k (row.Pointer u) lt at));
      }

  -- all rows
  pub marks_all : (ms : List Bool) → AreMarks rows (length rows) ms → AreMade rows ms
  marks_all ms h = record {
    long = h.long;
    say = λ t there. h.say t there ∙ ap (λ l. Some (is_object (row_of rows t) || list_any (leads_to rows t) l)) (take_all (length rows) rows (omega arith));
  }

-- the kinds of a type's cells, as its mark says
module _ (rows : List TypeRow) (ms : List Bool) (t : TypeId) (m : Bool) (there : t.0 < length rows) (h : AreMade rows ms) (at : m ≡ get_or ms t.0 m) where
  mark_is : is_made rows t ≡ m
  mark_is = sym (at ∙ get_or_from_slice_get ms t.0 (is_made rows t) m (h.say t there))

  pub made_there : m ≡ true → made_kinds rows t ≡ type_kinds rows t
  made_there e = ap (λ b. if b then type_kinds rows t else []) (mark_is ∙ e)

  pub made_elsewhere : m ≡ false → made_kinds rows t ≡ []
  made_elsewhere e = ap (λ b. if b then type_kinds rows t else []) (mark_is ∙ e)

-- a row that is no pointer's leads nowhere
pub leads_nowhere : (rows : List TypeRow) (r : TypeRow) → ((u : TypeId) → r ≢ row.Pointer u) → (t : TypeId) → leads_to rows t r ≡ false
leads_nowhere rows (row.Basic b) n t = refl
leads_nowhere rows (row.Array k of) n t = refl
leads_nowhere rows (row.Open of) n t = refl
leads_nowhere rows (row.Record base fields) n t = refl
leads_nowhere rows (row.Pointer u) n t = absurd (n u refl)
leads_nowhere rows (row.Object base fields) n t = refl
leads_nowhere rows (row.Procedure formals r) n t = refl
leads_nowhere rows row.Any n t = refl
