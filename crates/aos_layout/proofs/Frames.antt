-- The cells of the parts of a frame and of a module: their kinds, how many there are, and where they begin.
use Rattle.std.proofs.Common.{◌≡◌, All, subst, ℕ, zero, suc, ◌+◌, ◌<◌, ◌≤◌, take, get_or, List, [], ◌∷◌, ◌++◌, length, map, replicate, refl, sym, ap, ◌∙◌, arith, append_assoc, append-nil, length-append}
use Rattle.std.specs.Prelude.{Bool, true, false, not, if◌then◌else◌}
use Rattle.std.proofs.lemmas.List.{map-append, take_more, get_or-map, length-map}
use Rattle.aos_base.specs.declared.limits.TheConstants.{MOST_SCALARS}
use Rattle.aos_types.specs.declared.row.TypeId.{TypeId}
use Rattle.aos_types.specs.declared.row.TypeRow.{TypeRow}
use Rattle.aos_types.specs.Table.{row_of, is_object, is_open, is_scalar}
use Rattle.aos_types.specs.Contents.{contents, scalars, variable_scalars}
use Rattle.aos_types.specs.Shape.{Shape, One, Nothing, Pair, size, row, repeated}
use Rattle.aos_code.specs.declared.instr.Kind.{Kind}
use Rattle.aos_code.specs.declared.instr.Kind.TheVariants.{N}
use Rattle.aos_layout.specs.Layout.{leaves, shaped, kind_of, kinds, type_kinds, cells, text_cells}
use Rattle.aos_layout.specs.TypeParts.{variable}
use Rattle.aos_code.specs.declared.image.ParamKind.TheVariants.{Whole, Open}
use Rattle.aos_typed.specs.Program.{Parameter}
use Rattle.aos_typed.specs.Numbers.{id_of}
use Rattle.aos_typed.specs.Open.{open_element as element}
use Rattle.aos_layout.specs.Frame.{places_from, open_dimensions, open_element, parameter_kind}
use Rattle.aos_layout.specs.Cells.{kinds_of}
use Rattle.aos_layout.proofs.Outcomes.{other_kinds, kinds_counted}

pub flatten_shaped : {S T : Type 0} (f : S → T) (s : Shape S) → leaves (shaped f s) ≡ map f (leaves s)
flatten_shaped f (One k) = refl
flatten_shaped f Nothing = refl
flatten_shaped f (Pair a b) =
    (λ i. flatten_shaped f a i ++ flatten_shaped f b i) ∙ sym (map-append f (leaves a) (leaves b))

pub size_shaped : {S T : Type 0} (f : S → T) (s : Shape S) → size (shaped f s) ≡ size s
size_shaped f (One k) = refl
size_shaped f Nothing = refl
size_shaped f (Pair a b) = λ i. size_shaped f a i + size_shaped f b i

pub flatten_lengths : (n : ℕ) → leaves (row (replicate n (One N))) ≡ replicate n N
flatten_lengths zero = refl
flatten_lengths (suc n) = ap (λ ks. N ∷ ks) (flatten_lengths n)

flatten_ones : (n : ℕ) → leaves (repeated n (One N)) ≡ replicate n N
flatten_ones zero = refl
flatten_ones (suc n) = ap (λ ks. N ∷ ks) (flatten_ones n)

-- a string constant has a cell for each character and one for its 0X
pub flatten_text : (cs : List ℕ) → leaves (text_cells cs) ≡ replicate (length cs + 1) N
flatten_text cs = flatten_ones (suc (length cs)) ∙ ap (λ n. replicate n N) (let e : suc (length cs) ≡ length cs + 1 = omega arith in e)

-- a variable of another type than an object type has the type's own cells
pub other_cells : (rows : List TypeRow) (t : TypeId) → is_object (row_of rows t) ≡ false → leaves (cells rows t) ≡ kinds rows t
other_cells rows t e = flatten_shaped (kind_of rows) (variable rows t) ∙ other_kinds rows t e

-- the kinds of an open array's type are those of an element's cells
pub open_kinds : (rows : List TypeRow) (t : TypeId) → is_open (row_of rows t) ≡ true → type_kinds rows t ≡ leaves (cells rows (element rows t))
open_kinds rows t e =
    ap (λ b. if b then map (kind_of rows) (leaves (variable rows (element rows t))) else kinds rows t) e
    ∙ sym (flatten_shaped (kind_of rows) (variable rows (element rows t)))

pub other_type_kinds : (rows : List TypeRow) (t : TypeId) → is_open (row_of rows t) ≡ false → type_kinds rows t ≡ kinds rows t
other_type_kinds rows t e = ap (λ b. if b then map (kind_of rows) (leaves (variable rows (element rows t))) else kinds rows t) e

-- one more part
kinds_of_more : (ss : List (Shape Kind)) (s : Shape Kind) → kinds_of (ss ++ s ∷ []) ≡ kinds_of ss ++ leaves s
kinds_of_more [] s = append-nil (leaves s)
kinds_of_more (x ∷ ss) s = ap (λ z. leaves x ++ z) (kinds_of_more ss s) ∙ sym (append_assoc (leaves x) (kinds_of ss) (leaves s))

places_more : (at : ℕ) (ss : List (Shape Kind)) (s : Shape Kind) → places_from at (ss ++ s ∷ []) ≡ places_from at ss ++ (at + length (kinds_of ss)) ∷ []
places_more at [] s = ap (λ n. n ∷ []) (let h : at ≡ at + 0 = omega arith in h)
places_more at (x ∷ ss) s =
    let c = kinds_counted x in
    let a = length-append (leaves x) (kinds_of ss) in
    let e : at + size x + length (kinds_of ss) ≡ at + length (kinds_of (x ∷ ss)) = omega (arith, a, c) in
    ap (λ z. at ∷ z) (places_more (at + size x) ss s ∙ ap (λ n. places_from (at + size x) ss ++ n ∷ []) e)

module _ {A B : Type 0} (f : B → Shape Kind) (g : A → B) (xs : List A) (i : ℕ) (d : A) (l : i < length xs) where
  abbrev parts : List A → List (Shape Kind)
  parts ys = map f (map g ys)

  parts_more : parts (take (i + 1) xs) ≡ parts (take i xs) ++ f (g (get_or xs i d)) ∷ []
  parts_more =
      ap parts (take_more xs i d l) ∙ ap (map f) (map-append g (take i xs) (get_or xs i d ∷ [])) ∙ map-append f (map g (take i xs)) (g (get_or xs i d) ∷ [])

  module _ (ks kinds : List Kind) (is : kinds ≡ ks ++ kinds_of (parts (take i xs))) where
    pub kinds_step : (kinds' : List Kind) → kinds' ≡ kinds ++ leaves (f (g (get_or xs i d))) → kinds' ≡ ks ++ kinds_of (parts (take (i + 1) xs))
    kinds_step kinds' e =
        let s = f (g (get_or xs i d)) in
        e ∙ ap (λ z. z ++ leaves s) is ∙ append_assoc ks (kinds_of (parts (take i xs))) (leaves s) ∙ ap (λ z. ks ++ z) (sym (ap kinds_of parts_more ∙ kinds_of_more (parts (take i xs)) s))

    pub places_step : (ps places places' : List ℕ) → places ≡ ps ++ places_from (length ks) (parts (take i xs)) → places' ≡ places ++ length kinds ∷ [] → places' ≡ ps ++ places_from (length ks) (parts (take (i + 1) xs))
    places_step ps places places' before e =
        let s = f (g (get_or xs i d)) in
        let here = parts (take i xs) in
        let n : length kinds ≡ length ks + length (kinds_of here) = ap length is ∙ length-append ks (kinds_of here) in
        e ∙ ap (λ z. z ++ length kinds ∷ []) before ∙ ap (λ m. (ps ++ places_from (length ks) here) ++ m ∷ []) n ∙ append_assoc ps (places_from (length ks) here) ((length ks + length (kinds_of here)) ∷ []) ∙ ap (λ z. ps ++ z) (sym (ap (places_from (length ks)) parts_more ∙ places_more (length ks) here s))

-- what holds of each as it is seen holds of one of them
pub there_at : {A B : Type 0} (P : B → Type 0) (g : A → B) (xs : List A) (i : ℕ) (x : A) → i < length xs → All P (map g xs) → x ≡ get_or xs i x → P (g x)
there_at P g xs i x l all is =
    subst P (get_or-map g xs i x (g x) l ∙ ap g (sym is)) (all i (g x) (let h = length-map xs g in omega (arith, l, h)))

-- parts behind others
pub kinds_of_append : (ss ts : List (Shape Kind)) → kinds_of (ss ++ ts) ≡ kinds_of ss ++ kinds_of ts
kinds_of_append [] ts = refl
kinds_of_append (s ∷ ss) ts = ap (λ z. leaves s ++ z) (kinds_of_append ss ts) ∙ sym (append_assoc (leaves s) (kinds_of ss) (kinds_of ts))

places_append : (at : ℕ) (ss ts : List (Shape Kind)) → places_from at (ss ++ ts) ≡ places_from at ss ++ places_from (at + length (kinds_of ss)) ts
places_append at [] ts = ap (λ n. places_from n ts) (let h : at ≡ at + 0 = omega arith in h)
places_append at (s ∷ ss) ts =
    let c = kinds_counted s in
    let a = length-append (leaves s) (kinds_of ss) in
    let e : at + size s + length (kinds_of ss) ≡ at + length (kinds_of (s ∷ ss)) = omega (arith, a, c) in
    ap (λ z. at ∷ z) (places_append (at + size s) ss ts ∙ ap (λ n. places_from (at + size s) ss ++ places_from n ts) e)

module _ (ss ts : List (Shape Kind)) (ks ks' : List Kind) (is : ks ≡ kinds_of ss) where
  pub both_kinds : ks' ≡ ks ++ kinds_of ts → ks' ≡ kinds_of (ss ++ ts)
  both_kinds e = e ∙ ap (λ z. z ++ kinds_of ts) is ∙ sym (kinds_of_append ss ts)

  pub both_places : (ps ps' : List ℕ) → ps ≡ places_from 0 ss → ps' ≡ ps ++ places_from (length ks) ts → ps' ≡ places_from 0 (ss ++ ts)
  both_places ps ps' before e =
      let n : length ks ≡ 0 + length (kinds_of ss) = (let h = ap length is in omega (arith, h)) in
      e ∙ (λ i. before i ++ places_from (n i) ts) ∙ sym (places_append 0 ss ts)

-- what a call hands over
module _ (rows : List TypeRow) (p : Parameter) where
  abbrev of : TypeId
  of = id_of p.of

  cells_size : (t : TypeId) (v : ℕ) → v ≡ variable_scalars rows t → v ≡ size (cells rows t)
  cells_size t v e = e ∙ sym (size_shaped (kind_of rows) (variable rows t))

  pub open_kind : (d v : ℕ) (e : TypeId) → is_open (row_of rows of) ≡ true → d ≡ open_dimensions rows of → e ≡ open_element rows of → v ≡ variable_scalars rows e → Open d (not p.by_reference) v ≡ parameter_kind rows p
  open_kind d v e o x y z =
      let w = cells_size (open_element rows of) v (z ∙ ap (variable_scalars rows) y) in
      rw o (λ i. Open (x i) (not p.by_reference) (w i))

  pub whole_kind : (v : ℕ) → is_open (row_of rows of) ≡ false → p.by_reference ≡ false → is_scalar (row_of rows of) ≡ false → v ≡ variable_scalars rows of → Whole v ≡ parameter_kind rows p
  whole_kind v o r s z = let w = cells_size of v z in rw (o, r, s) (λ i. Whole (w i))

pub variable_fits : (rows : List TypeRow) (t : TypeId) → scalars rows t ≤ MOST_SCALARS → variable_scalars rows t ≤ MOST_SCALARS
variable_fits rows t l = at_test (is_object (row_of rows t))
  where
    at_test : (b : Bool) → size (if b then One t else contents rows t) ≤ MOST_SCALARS
    at_test true = omega arith
    at_test false = l

pub cells_counted : (s : Shape Kind) (ks : List Kind) → ks ≡ leaves s → length ks ≡ size s
cells_counted s ks e = ap length e ∙ kinds_counted s
