-- The kinds of what a call hands over, in the order in which it lies on the stack, and those of an open array.
use Rattle.std.proofs.Common.{◌≡◌, ◌≤◌, ◌+◌, ◌-◌, ◌⊎◌, inl, inr, ℕ, zero, suc, true, false, List, [], ◌∷◌, ◌++◌, Option, Some, length, map, refl, sym, ap, ◌∙◌, arith, append_assoc, append-nil, length-append}
use Rattle.std.specs.Prelude.{replicate, reverse}
use Rattle.std.proofs.lemmas.List.{length-replicate, replicate-append-replicate, reverse-append}
use Rattle.aos_types.specs.declared.row.TypeRow.{TypeRow}
use Rattle.aos_types.specs.Table.{row_of, is_open, is_scalar}
use Rattle.aos_types.specs.Shape.{One, size}
use Rattle.aos_types.specs.Shape as shape
use Rattle.aos_code.specs.declared.instr.Kind.{Kind}
use Rattle.aos_code.specs.declared.instr.Kind.TheVariants.{N, R, C, A}
use Rattle.aos_code.specs.declared.image.ParamKind.{ParamKind}
use Rattle.aos_code.specs.Silent.{kinds_of}
use Rattle.aos_layout.specs.Frame.{parameter_cells, parameter_kind}
use Rattle.aos_layout.specs.Layout.{kind_of as cell_kind}
use Rattle.aos_sound.specs.Sound.{Kinds, row as opened, without, all_topped}
use Rattle.aos_typed.specs.declared.tree.TType.{TType}
use Rattle.aos_typed.specs.Numbers.{id_of}
use Rattle.aos_typed.specs.Open.{open_dimensions}
use Rattle.aos_typed.specs.Program.{Parameter, Procedure, Place, Rows, Known, Opened, Row, Spread, Longer, Arguments, NoMore, Scalar, Whole, Opening, Program}
use Rattle.aos_typed.specs.WellTyped.{is_value, is_open_parameter, is_whole, IsFilled, IsGiven, IsOpening, IsPlaceOf, AreRows, AreArguments}
use Rattle.aos_sim.specs.Code.{kind_of, dimensions}
use Rattle.aos_sim.specs.Need.{arguments_need, operands}
use Rattle.aos_sim.proofs.Does.{HasPredeclared}
use Rattle.aos_sim.proofs.Exprs.{no_scalar}
use Rattle.aos_sim.proofs.References.{value_scalar}
use Rattle.aos_code_soundness.proofs.Operands.{value_kind}

-- an array has so many dimensions
pub dimensions_are : (p : Program) (o : Option Procedure) (r : Rows) (n : ℕ) (t : TType) → AreRows p o r n t → dimensions r ≡ n
dimensions_are p o (Known x ns) n t h = sym h.0
dimensions_are p o (Opened k j) n t h = sym h.0
dimensions_are p o (Row r of e) n t h = let d = dimensions_are p o r (suc n) t h.0 in omega (arith, d)
dimensions_are p o (Spread e j) n t h = sym h.0
dimensions_are p o (Longer r ns) n t h = ap (λ m. m + length ns) (dimensions_are p o r h.0 h.1 h.3) ∙ sym h.2

-- one more below others of its kind
pub pushed : (k : Kind) (j : ℕ) (s : Kinds) → replicate j k ++ k ∷ s ≡ k ∷ (replicate j k ++ s)
pushed k zero s = refl
pushed k (suc j) s = ap (λ l. k ∷ l) (pushed k j s)

-- kinds that lie on top are taken
pub kinds_taken : (ks s : Kinds) → without ks (ks ++ s) ≡ Some s
kinds_taken [] s = refl
kinds_taken (N ∷ ks) s = kinds_taken ks s
kinds_taken (R ∷ ks) s = kinds_taken ks s
kinds_taken (C ∷ ks) s = kinds_taken ks s
kinds_taken (A ∷ ks) s = kinds_taken ks s

-- so is an open array,
pub rows_taken : (j : ℕ) (s : Kinds) → without (opened j) (replicate j N ++ A ∷ s) ≡ Some s
rows_taken j s = ap (without (opened j)) (sym (append_assoc (replicate j N) (A ∷ []) s)) ∙ kinds_taken (opened j) s

-- for an element of it with a dimension less, and an index
pub opened_row : (j : ℕ) (s : Kinds) → all_topped (opened (j - 1)) (without (N ∷ opened j) (N ∷ (replicate j N ++ A ∷ s))) ≡ Some (replicate (j - 1) N ++ A ∷ s)
opened_row j s = ap (all_topped (opened (j - 1))) (rows_taken j s) ∙ ap (λ l. Some l) (append_assoc (replicate (j - 1) N) (A ∷ []) s)

-- more lengths above those of an open array
pub opened_longer : (n j : ℕ) (s : Kinds) → replicate n N ++ (replicate j N ++ A ∷ s) ≡ replicate (j + n) N ++ A ∷ s
opened_longer n j s =
    let e : n + j ≡ j + n = omega arith in
    sym (append_assoc (replicate n N) (replicate j N) (A ∷ s)) ∙ ap (λ l. l ++ A ∷ s) (replicate-append-replicate n j N ∙ ap (λ m. replicate m N) e)

reversed_same : (j : ℕ) (k : Kind) → reverse (replicate j k) ≡ replicate j k
reversed_same zero k = refl
reversed_same (suc j) k =
    reverse-append (k ∷ []) (replicate j k) ∙ ap (λ l. l ++ k ∷ []) (reversed_same j k) ∙ pushed k j [] ∙ ap (λ l. k ∷ l) (append-nil (replicate j k))

-- the place of an open array lies below the lengths
pub reversed_row : (j : ℕ) (s : Kinds) → reverse (A ∷ replicate j N) ++ s ≡ replicate j N ++ A ∷ s
reversed_row j s =
    ap (λ l. l ++ s) (reverse-append (A ∷ []) (replicate j N) ∙ ap (λ l. l ++ A ∷ []) (reversed_same j N)) ∙ append_assoc (replicate j N) (A ∷ []) s

-- the cells of a parameter
pub passed_size : (rows : List TypeRow) (a : Parameter) → is_open (row_of rows (id_of a.of)) ≡ false → a.by_reference ≡ true → size (parameter_cells rows a) ≡ 1
passed_size rows a e f = rw (e, f) refl

ones_size : (j : ℕ) → size (shape.row (replicate j (One N))) ≡ j
ones_size zero = refl
ones_size (suc j) = omega (arith, ones_size j)

pub opened_size : (rows : List TypeRow) (a : Parameter) → is_open (row_of rows (id_of a.of)) ≡ true → size (parameter_cells rows a) ≡ suc (open_dimensions rows (id_of a.of))
opened_size rows a e = let many = ones_size (open_dimensions rows (id_of a.of)) in rw e (omega (arith, many))

-- what is handed over for a parameter: a value,
value_kinds : (rows : List TypeRow) (a : Parameter) → is_open (row_of rows (id_of a.of)) ≡ false → a.by_reference ≡ false → is_scalar (row_of rows (id_of a.of)) ≡ true → (ks : List ParamKind) → kinds_of (parameter_kind rows a ∷ ks) ≡ cell_kind rows (id_of a.of) ∷ kinds_of ks
value_kinds rows a e f g ks = rw (e, f, g) refl

reference_kinds : (rows : List TypeRow) (a : Parameter) → is_open (row_of rows (id_of a.of)) ≡ false → a.by_reference ≡ true → (ks : List ParamKind) → kinds_of (parameter_kind rows a ∷ ks) ≡ A ∷ kinds_of ks
reference_kinds rows a e f ks = rw (e, f) refl

whole_kinds : (rows : List TypeRow) (a : Parameter) → is_open (row_of rows (id_of a.of)) ≡ false → a.by_reference ≡ false → is_scalar (row_of rows (id_of a.of)) ≡ false → (ks : List ParamKind) → kinds_of (parameter_kind rows a ∷ ks) ≡ A ∷ kinds_of ks
whole_kinds rows a e f g ks = rw (e, f, g) refl

row_kinds : (rows : List TypeRow) (a : Parameter) → is_open (row_of rows (id_of a.of)) ≡ true → (ks : List ParamKind) → kinds_of (parameter_kind rows a ∷ ks) ≡ A ∷ (replicate (open_dimensions rows (id_of a.of)) N ++ kinds_of ks)
row_kinds rows a e ks = rw e refl

module _ (p : Program) where
  abbrev pub kinds_for : List Parameter → Kinds
  kinds_for ps = kinds_of (map (parameter_kind p.types) ps)

  pub scalar_kinds : HasPredeclared p → (a : Parameter) → is_open_parameter p a ≡ false → a.by_reference ≡ false → is_value p.types a.of ≡ true → (ks : List ParamKind) → kinds_of (parameter_kind p.types a ∷ ks) ≡ (kind_of p.types a.of ∷ []) ++ kinds_of ks
  scalar_kinds has a e f v ks =
      value_kinds p.types a e f (value_scalar p has a.of v) ks ∙ ap (λ k. k ∷ kinds_of ks) (value_kind p has a.of v)

  -- the place of a variable, or of what is copied,
  place_kinds : (o : Option Procedure) (a : Parameter) (x : Place) (u : TType) → IsGiven p o a x u → (ks : List ParamKind) → kinds_of (parameter_kind p.types a ∷ ks) ≡ (A ∷ []) ++ kinds_of ks
  place_kinds o a x u (inl r) ks = reference_kinds p.types a r.0.0 r.0.1 ks
  place_kinds o a x u (inr (inl r)) ks = reference_kinds p.types a r.0 r.1 ks
  place_kinds o a x u (inr (inr v)) ks = whole_kinds p.types a v.0.0 v.0.1 (no_scalar (row_of p.types (id_of a.of)) v.1) ks

  -- one that is found, or a string constant
  pub first_kinds : (o : Option Procedure) (a : Parameter) (x : Place) → ((u : TType) × IsPlaceOf p o x u × IsGiven p o a x u) ⊎ IsFilled p o a x → (ks : List ParamKind) → kinds_of (parameter_kind p.types a ∷ ks) ≡ (A ∷ []) ++ kinds_of ks
  first_kinds o a x (inl h) ks = place_kinds o a x h.0 h.2 ks
  first_kinds o a x (inr f) ks = whole_kinds p.types a f.2.0 f.2.1 (no_scalar (row_of p.types (id_of a.of)) (ap is_whole f.3)) ks

  -- and an array
  pub open_kinds : (a : Parameter) (n : ℕ) (t : TType) → IsOpening p a n t → (j : ℕ) → j ≡ n → (ks : List ParamKind) → kinds_of (parameter_kind p.types a ∷ ks) ≡ (A ∷ replicate j N) ++ kinds_of ks
  open_kinds a n t h j e ks = row_kinds p.types a h.0 ks ∙ ap (λ d. A ∷ (replicate d N ++ kinds_of ks)) (sym (e ∙ h.1))

  -- what is handed over for the first parameter lies below the rest
  pub handed_first : (new : Kinds) (a : Parameter) (rest ps : List Parameter) (s : Kinds) → ps ≡ a ∷ rest → ((ks : List ParamKind) → kinds_of (parameter_kind p.types a ∷ ks) ≡ new ++ kinds_of ks) → reverse (kinds_for rest) ++ (reverse new ++ s) ≡ reverse (kinds_for ps) ++ s
  handed_first new a rest ps s e kinds =
      sym (append_assoc (reverse (kinds_for rest)) (reverse new) s)
      ∙ ap (λ l. l ++ s) (sym (reverse-append new (kinds_for rest)) ∙ ap reverse (sym (kinds (map (parameter_kind p.types) rest))))
      ∙ ap (λ l. reverse (kinds_for l) ++ s) (sym e)

  -- there is room for all of it
  pub handed_room : (o : Option Procedure) → HasPredeclared p → (as' : Arguments) (ps : List Parameter) → AreArguments p o as' ps → length (kinds_for ps) ≤ arguments_need as'
  handed_room o has NoMore ps h = let e = ap (λ l. length (kinds_for l)) h in omega (arith, e)
  handed_room o has (Scalar e more) ps h =
      let same = ap (λ l. length (kinds_for l)) h.2 in
      let one = ap length (scalar_kinds has h.0 h.3.0 h.3.1 h.4 (map (parameter_kind p.types) h.1)) in
      let rest = handed_room o has more h.1 h.6 in
      omega (arith, same, one, rest)
  handed_room o has (Whole x more) ps h =
      let same = ap (λ l. length (kinds_for l)) h.2 in
      let one = ap length (first_kinds o h.0 x h.3 (map (parameter_kind p.types) h.1)) in
      let rest = handed_room o has more h.1 h.4 in
      omega (arith, same, one, rest)
  handed_room o has (Opening r more) ps h =
      let j = dimensions r in
      let same = ap (λ l. length (kinds_for l)) h.4 in
      let d = dimensions_are p o r h.2 h.3 h.6 in
      let one = ap length (open_kinds h.0 h.2 h.3 h.5 j d (map (parameter_kind p.types) h.1)) in
      let rest = handed_room o has more h.1 h.8 in
      omega (arith, same, one, rest, length-append (A ∷ replicate j N) (kinds_for h.1), length-replicate j N)

  -- and so many operands
  pub handed_many : (o : Option Procedure) → HasPredeclared p → (as' : Arguments) (ps : List Parameter) → AreArguments p o as' ps → length (kinds_for ps) ≡ operands as'
  handed_many o has NoMore ps h = ap (λ l. length (kinds_for l)) h
  handed_many o has (Scalar e more) ps h =
      let same = ap (λ l. length (kinds_for l)) h.2 in
      let one = ap length (scalar_kinds has h.0 h.3.0 h.3.1 h.4 (map (parameter_kind p.types) h.1)) in
      let rest = handed_many o has more h.1 h.6 in
      omega (arith, same, one, rest)
  handed_many o has (Whole x more) ps h =
      let same = ap (λ l. length (kinds_for l)) h.2 in
      let one = ap length (first_kinds o h.0 x h.3 (map (parameter_kind p.types) h.1)) in
      let rest = handed_many o has more h.1 h.4 in
      omega (arith, same, one, rest)
  handed_many o has (Opening r more) ps h =
      let j = dimensions r in
      let same = ap (λ l. length (kinds_for l)) h.4 in
      let d = dimensions_are p o r h.2 h.3 h.6 in
      let one = ap length (open_kinds h.0 h.2 h.3 h.5 j d (map (parameter_kind p.types) h.1)) in
      let rest = handed_many o has more h.1 h.8 in
      omega (arith, same, one, rest, length-append (A ∷ replicate j N) (kinds_for h.1), length-replicate j N)
