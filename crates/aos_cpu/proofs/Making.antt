-- Objects with cells: lengths that operands are, and how many cells there are.
use Rattle.std.proofs.Common.{◌≡◌, ◌<◌, ◌≤◌, ◌+◌, ◌-◌, ◌*◌, ◌^◌, ℕ, ℤ, ◌<ℤ◌, ◌≤ℤ◌, zero, suc, pos, negsuc, min, max, List, [], ◌∷◌, ◌++◌, length, map, take, drop, reverse, get_or, Bool, true, false, ◌&&◌, inl, inr, refl, sym, ap, ◌∙◌, subst, arith, append_assoc}
use Rattle.std.specs.Prelude.{Option, Some, None, nat_le, slice_get, sum_by, option_map, option_and_then}
use Rattle.std.specs.List.{list_all}
use Rattle.std.proofs.lemmas.List.{append-nil, length-append, length-map, drop_more, drop_all}
use Rattle.std.proofs.lemmas.Option.{slice_get-get_or}
use Rattle.std.proofs.lemmas.List.Folds.{list_all-append}
use Rattle.std.proofs.lemmas.Int.{ints}
use Rattle.std.proofs.lemmas.Bool.Decides.{leb_tells}
use Rattle.aos_base.specs.declared.limits.TheConstants.{MOST_SCALARS}
use Rattle.aos_base.specs.declared.kernel.Did.{Did}
use Rattle.aos_base.specs.declared.kernel.Did.TheVariants.{Went, Trapped}
use Rattle.aos_base.specs.Number.{with_length, array_lengths}
use Rattle.aos_base.specs.Rooted.{Made}
use Rattle.aos_code.specs.declared.instr.Cell.{Cell}
use Rattle.aos_code.specs.declared.instr.Cell.TheVariants.{Num, Ref, Call as CallCell, Place}
use Rattle.aos_code.specs.declared.instr.Kind.{Kind}
use Rattle.aos_code.specs.declared.image.TypeDesc.{TypeDesc}
use Rattle.aos_code.specs.Memory.{Memory, counted, has_room, with_object, new_number}
use Rattle.aos_code.specs.Silent.{cells_of}
use Rattle.aos_code.specs.Machine.{asker, Frame, Frames, first_cell, number_in, numbers_in, times, in_rows, makes, makes_with, makes_of, behind}
use Rattle.aos_store.specs.declared.frames.Frames.{Frames as KeptFrames}
use Rattle.aos_store.specs.Store.{list_in, frames_in}
use Rattle.aos_cpu.specs.Answers.{Made as HasMade, IsBehind}
use Rattle.aos_cpu.specs.declared.makes.Lengths.TheVariants.{No, Short, Long}
use Rattle.aos_cpu.specs.Makes.{IsMade, IsMadeWith, AreLengths, HasLengths}
use Rattle.aos_silent_steps.proofs.Lengths.{cells_cut}
use Rattle.aos_cpu.proofs.Behind.{lost_made}

-- Numbers, one after the other.

pub number_more : (vs : List Cell) (z : ℤ) → numbers_in [] (vs ++ Num z ∷ []) ≡ option_map (λ zs. zs ++ z ∷ []) (numbers_in [] vs)
number_more [] z = refl
number_more (v ∷ vs) z = ap (λ o. option_and_then (λ y. option_map (λ zs. y ∷ zs) o) (number_in [] v)) (number_more vs z) ∙ by (number_in [] v) (numbers_in [] vs)
  where
    by : (n : Option ℤ) (o : Option (List ℤ)) →
        option_and_then (λ (y : ℤ). option_map (λ (zs : List ℤ). y ∷ zs) (option_map (λ (zs : List ℤ). zs ++ z ∷ []) o)) n ≡ option_map (λ (zs : List ℤ). zs ++ z ∷ []) (option_and_then (λ (y : ℤ). option_map (λ (zs : List ℤ). y ∷ zs) o) n)
    by None o = refl
    by (Some y) None = refl
    by (Some y) (Some zs) = refl

pub number_lost : (vs : List Cell) (i : ℕ) (v : Cell) → slice_get vs i ≡ Some v → number_in [] v ≡ None → numbers_in [] vs ≡ None
number_lost [] i v e f = absurd (cc e)
number_lost (x ∷ vs) zero v e f =
    let same : x ≡ v = cc in
    ap (λ o. option_and_then (λ (y : ℤ). option_map (λ (zs : List ℤ). y ∷ zs) (numbers_in [] vs)) o) (ap (number_in []) same ∙ f)
number_lost (x ∷ vs) (suc i) v e f = ap (λ o. option_and_then (λ (y : ℤ). option_map (λ (zs : List ℤ). y ∷ zs) o) (number_in [] x)) (number_lost vs i v e f) ∙ none (number_in [] x)
  where
    none : (n : Option ℤ) → option_and_then (λ (y : ℤ). option_map (λ (zs : List ℤ). y ∷ zs) None) n ≡ None
    none None = refl
    none (Some y) = refl

-- the number in a cell
pub number_is : (v : Cell) (z : ℤ) → Some z ≡ number_in [] v → v ≡ Num z
number_is (Num y) z e = let same : z ≡ y = cc e in ap (λ x. Num x) (sym same)
number_is (Ref o) z e = absurd (cc e)
number_is (CallCell p o) z e = absurd (cc e)
number_is (Place r c t) z e = absurd (cc e)

pub not_numbers : (vs : List Cell) (i : ℕ) → i < length vs → None ≡ number_in [] (get_or vs i (Num (pos 0))) → numbers_in [] vs ≡ None
not_numbers vs i lt e = number_lost vs i (get_or vs i (Num (pos 0))) (slice_get-get_or vs i (Num (pos 0)) lt) (sym e)

-- Lengths.

pub length_more : (zs : List ℤ) (n : ℕ) → array_lengths (zs ++ pos (suc n) ∷ []) ≡ option_map (λ ns. ns ++ suc n ∷ []) (array_lengths zs)
length_more [] n = refl
length_more (z ∷ zs) n = ap (with_length z) (length_more zs n) ∙ by z (array_lengths zs)
  where
    by : (z : ℤ) (o : Option (List ℕ)) → with_length z (option_map (λ (ns : List ℕ). ns ++ suc n ∷ []) o) ≡ option_map (λ (ns : List ℕ). ns ++ suc n ∷ []) (with_length z o)
    by z None = refl
    by (pos zero) (Some ns) = refl
    by (pos (suc m)) (Some ns) = refl
    by (negsuc m) (Some ns) = refl

length_zero : (zs : List ℤ) → array_lengths (zs ++ pos 0 ∷ []) ≡ None
length_zero [] = refl
length_zero (z ∷ zs) = ap (with_length z) (length_zero zs)

length_below : (zs : List ℤ) (n : ℕ) → array_lengths (zs ++ negsuc n ∷ []) ≡ None
length_below [] n = refl
length_below (z ∷ zs) n = ap (with_length z) (length_below zs n)

-- What is found of lengths with one more number behind them.

more_numbers : (vs : List Cell) (zs : List ℤ) (z : ℤ) → numbers_in [] vs ≡ Some zs → numbers_in [] (vs ++ Num z ∷ []) ≡ Some (zs ++ z ∷ [])
more_numbers vs zs z e = number_more vs z ∙ ap (option_map (λ (xs : List ℤ). xs ++ z ∷ [])) e

no_lengths : (zs : List ℤ) (z : ℤ) → array_lengths zs ≡ None → array_lengths (zs ++ z ∷ []) ≡ None
no_lengths zs (pos zero) e = length_zero zs
no_lengths zs (pos (suc n)) e = length_more zs n ∙ ap (option_map (λ (ns : List ℕ). ns ++ suc n ∷ [])) e
no_lengths zs (negsuc n) e = length_below zs n

lengths_with : (zs : List ℤ) (ns : List ℕ) (n : ℕ) → array_lengths zs ≡ Some ns → array_lengths (zs ++ pos (suc n) ∷ []) ≡ Some (ns ++ suc n ∷ [])
lengths_with zs ns n e = length_more zs n ∙ ap (option_map (λ (ms : List ℕ). ms ++ suc n ∷ [])) e

all_with : (ns : List ℕ) (n : ℕ) (b : Bool) → list_all (λ m. nat_le m MOST_SCALARS) ns ≡ b → list_all (λ m. nat_le m MOST_SCALARS) (ns ++ n ∷ []) ≡ (b && (nat_le n MOST_SCALARS && true))
all_with ns n b e = list_all-append (λ m. nat_le m MOST_SCALARS) ns (n ∷ []) ∙ ap (λ c. c && (nat_le n MOST_SCALARS && true)) e

pub none_more : (vs : List Cell) (z : ℤ) → AreLengths vs No → AreLengths (vs ++ Num z ∷ []) No
none_more vs z e = number_more vs z ∙ ap (option_map (λ (zs : List ℤ). zs ++ z ∷ [])) e

pub short_more : (vs : List Cell) (z : ℤ) → AreLengths vs Short → AreLengths (vs ++ Num z ∷ []) Short
short_more vs z h = (h.0 ++ z ∷ [], more_numbers vs h.0 z h.1, no_lengths h.0 z h.2)

-- a number below 1
below_one : (vs : List Cell) (zs : List ℤ) (z : ℤ) → numbers_in [] vs ≡ Some zs → z <ℤ pos 1 → AreLengths (vs ++ Num z ∷ []) Short
below_one vs zs (pos zero) e lt = (zs ++ pos 0 ∷ [], more_numbers vs zs (pos 0) e, length_zero zs)
below_one vs zs (pos (suc n)) e lt = absurd (omega (arith, ints, lt))
below_one vs zs (negsuc n) e lt = (zs ++ negsuc n ∷ [], more_numbers vs zs (negsuc n) e, length_below zs n)

pub long_short : (vs : List Cell) (z : ℤ) → AreLengths vs Long → z <ℤ pos 1 → AreLengths (vs ++ Num z ∷ []) Short
long_short vs z h lt = below_one vs h.0 z h.2 lt

pub long_more : (vs : List Cell) (z : ℤ) → AreLengths vs Long → pos 1 ≤ℤ z → AreLengths (vs ++ Num z ∷ []) Long
long_more vs (pos zero) h le = absurd (omega (arith, ints, le))
long_more vs (pos (suc n)) h le = (
  h.0 ++ pos (suc n) ∷ [],
  h.1 ++ suc n ∷ [],
  more_numbers vs h.0 (pos (suc n)) h.2,
  lengths_with h.0 h.1 n h.3,
  all_with h.1 (suc n) false h.4,
)
long_more vs (negsuc n) h le = absurd (omega (arith, ints, le))

module _ (vs : List Cell) (ns : List ℕ) (h : HasLengths vs ns) where
  pub are_short : (z : ℤ) → z <ℤ pos 1 → AreLengths (vs ++ Num z ∷ []) Short
  are_short z lt = below_one vs h.0 z h.1 lt

  pub are_long : (z : ℤ) → pos 1 ≤ℤ z → pos MOST_SCALARS <ℤ z → AreLengths (vs ++ Num z ∷ []) Long
  are_long (pos zero) le lt = absurd (omega (arith, ints, le))
  are_long (pos (suc n)) le lt =
      let past : nat_le (suc n) MOST_SCALARS ≡ false = elim (leb_tells (suc n) MOST_SCALARS) [ inl p ↦ absurd (omega (arith, ints, lt, p.1)) | inr p ↦ p.0 ] in (
        h.0 ++ pos (suc n) ∷ [],
        ns ++ suc n ∷ [],
        more_numbers vs h.0 (pos (suc n)) h.1,
        lengths_with h.0 ns n h.2,
        all_with ns (suc n) true h.3 ∙ ap (λ b. b && true) past,
      )
  are_long (negsuc n) le lt = absurd (omega (arith, ints, le))

  have_more : (z : ℤ) (n : ℕ) → pos 1 ≤ℤ z → z ≤ℤ pos MOST_SCALARS → z ≡ pos n → HasLengths (vs ++ Num z ∷ []) (ns ++ n ∷ [])
  have_more z n le most e =
      subst (λ x. HasLengths (vs ++ Num x ∷ []) (ns ++ n ∷ [])) (sym e)
      (by n (subst (λ x. pos 1 ≤ℤ x) e le) (subst (λ x. x ≤ℤ pos MOST_SCALARS) e most))
    where
      by : (m : ℕ) → pos 1 ≤ℤ pos m → pos m ≤ℤ pos MOST_SCALARS → HasLengths (vs ++ Num (pos m) ∷ []) (ns ++ m ∷ [])
      by zero le most = absurd (omega (arith, ints, le))
      by (suc m) le most =
          let within : nat_le (suc m) MOST_SCALARS ≡ true = elim (leb_tells (suc m) MOST_SCALARS) [ inl p ↦ p.0 | inr p ↦ absurd (omega (arith, ints, most, p.1)) ] in (
            h.0 ++ pos (suc m) ∷ [],
            more_numbers vs h.0 (pos (suc m)) h.1,
            lengths_with h.0 ns m h.2,
            all_with ns (suc m) true h.3 ∙ ap (λ b. b && true) within,
          )

  -- one that is pushed behind them
  pub pushed : (z : ℤ) (n : ℕ) (ms items : List ℕ) → items ≡ ms ++ n ∷ [] → ms ≡ ns → pos 1 ≤ℤ z → z ≤ℤ pos MOST_SCALARS → z ≡ pos n → HasLengths (vs ++ Num z ∷ []) items
  pushed z n ms items e f le most is = subst (HasLengths (vs ++ Num z ∷ [])) (sym (e ∙ ap (λ (xs : List ℕ). xs ++ n ∷ []) f)) (have_more z n le most is)

-- Elements.

-- elements so far, from the last dimension on
pub elements_more : (ns : List ℕ) (i count next : ℕ) → i < length ns → count ≡ min (cells_of (drop (length ns - i) ns) 1) (2 ^ 64 - 1) → next ≡ min (get_or ns (length ns - 1 - i) 0 * count) (2 ^ 64 - 1) →
    next ≡ min (cells_of (drop (length ns - (i + 1)) ns) 1) (2 ^ 64 - 1)
elements_more ns i count next lt e f =
    let k = length ns - 1 - i in
    let small : k < length ns = omega arith in
    let here : length ns - (i + 1) ≡ k = omega arith in
    let rest : length ns - i ≡ k + 1 = omega arith in
    f ∙ cells_cut (get_or ns k 0) count 1 (drop (k + 1) ns) (e ∙ ap (λ n. min (cells_of (drop n ns) 1) (2 ^ 64 - 1)) rest)
    ∙ ap (λ (ms : List ℕ). min (cells_of ms 1) (2 ^ 64 - 1)) (sym (drop_more ns k 0 small) ∙ ap (λ n. drop n ns) (sym here))

pub elements_first : (ns : List ℕ) → 1 ≡ min (cells_of (drop (length ns - 0) ns) 1) (2 ^ 64 - 1)
elements_first ns = ap (λ (ms : List ℕ). min (cells_of ms 1) (2 ^ 64 - 1)) (sym (drop_all (length ns - 0) ns (omega arith)))

pub elements_all : (ns : List ℕ) (i count : ℕ) → length ns ≤ i → count ≡ min (cells_of (drop (length ns - i) ns) 1) (2 ^ 64 - 1) → count ≡ min (cells_of ns 1) (2 ^ 64 - 1)
elements_all ns i count le e = let z : length ns - i ≡ 0 = omega (arith, le) in e ∙ ap (λ n. min (cells_of (drop n ns) 1) (2 ^ 64 - 1)) z

times_more : (a b : ℕ) (vs : List Cell) → times [] (a + b) vs ≡ times [] a vs ++ times [] b vs
times_more zero b vs = let z : 0 + b ≡ b = omega arith in ap (λ n. times [] n vs) z
times_more (suc a) b vs =
    let z : suc a + b ≡ suc (a + b) = omega arith in
    ap (λ n. times [] n vs) z ∙ ap (λ xs. vs ++ xs) (times_more a b vs) ∙ sym (append_assoc vs (times [] a vs) (times [] b vs))

pub times_next : (n : ℕ) (vs : List Cell) → times [] n vs ++ vs ≡ times [] (n + 1) vs
times_next n vs = ap (λ (xs : List Cell). times [] n vs ++ xs) (sym (append-nil vs)) ∙ sym (times_more n 1 vs)

times_both : (n m : ℕ) (vs : List Cell) → times [] n (times [] m vs) ≡ times [] (n * m) vs
times_both zero m vs = let z : 0 * m ≡ 0 = omega arith in ap (λ k. times [] k vs) (sym z)
times_both (suc n) m vs =
    let z : suc n * m ≡ m + n * m = omega arith in
    ap (λ xs. times [] m vs ++ xs) (times_both n m vs) ∙ sym (times_more m (n * m) vs) ∙ ap (λ k. times [] k vs) (sym z)

pub rows_times : (ns : List ℕ) (vs : List Cell) → in_rows [] ns vs ≡ times [] (cells_of ns 1) vs
rows_times [] vs = sym (append-nil vs)
rows_times (n ∷ ns) vs = ap (times [] n) (rows_times ns vs) ∙ times_both n (cells_of ns 1) vs

length_times : (n : ℕ) (vs : List Cell) → length (times [] n vs) ≡ n * length vs
length_times zero vs = let z : 0 * length vs ≡ 0 = omega arith in sym z
length_times (suc n) vs =
    let z : suc n * length vs ≡ length vs + n * length vs = omega arith in
    length-append vs (times [] n vs) ∙ ap (λ k. length vs + k) (length_times n vs) ∙ sym z

pub times_none : (n : ℕ) → times [] n [] ≡ []
times_none zero = refl
times_none (suc n) = times_none n

pub none_times : (n : ℕ) (kinds : List Kind) → length kinds ≡ 0 → [] ≡ times [] n (map first_cell kinds)
none_times n [] e = sym (times_none n)
none_times n (k ∷ kinds) e = absurd (omega (arith, e))

-- how many cells an object of these lengths has
rows_length : (ns : List ℕ) (kinds : List Kind) → length (in_rows [] ns (map first_cell kinds)) ≡ cells_of ns 1 * length kinds
rows_length ns kinds = ap length (rows_times ns (map first_cell kinds)) ∙ length_times (cells_of ns 1) (map first_cell kinds) ∙ ap (λ k. cells_of ns 1 * k) (length-map kinds first_cell)

-- numbers that were cut tell whether there is room
room_cut : (e m k n s : ℕ) → m ≡ min e (2 ^ 64 - 1) → n ≡ min (m * k) (2 ^ 64 - 1) → nat_le (max 1 n + s) MOST_SCALARS ≡ nat_le (max 1 (e * k) + s) MOST_SCALARS
room_cut e m zero n s em en =
    let a : m * 0 ≡ 0 = omega arith in
    let b : e * 0 ≡ 0 = omega arith in
    let z : n ≡ e * 0 = omega (arith, en, a, b) in
    ap (λ x. nat_le (max 1 x + s) MOST_SCALARS) z
room_cut e m (suc k) n s em en =
    elim (leb_tells e (2 ^ 64 - 1)) [
      | inl p ↦
          let same : m ≡ e = omega (arith, em, p.1) in
          let there = en ∙ ap (λ x. min (x * suc k) (2 ^ 64 - 1)) same in
          cut (e * suc k) there
      | inr p ↦
          let most : m ≡ 2 ^ 64 - 1 = omega (arith, em, p.1) in
          let more : m ≤ m * suc k = at_least m k in
          let far : e ≤ e * suc k = at_least e k in
          let great : 2 ^ 64 - 1 ≤ n = omega (arith, en, more, most) in
          let far2 : 2 ^ 64 - 1 ≤ e * suc k = omega (arith, far, p.1) in
          past n (e * suc k) great far2
    ]
  where
    at_least : (x k : ℕ) → x ≤ x * suc k
    at_least x k = let z : x * suc k ≡ x + x * k = omega arith in omega (arith, z)

    past : (x y : ℕ) → 2 ^ 64 - 1 ≤ x → 2 ^ 64 - 1 ≤ y → nat_le (max 1 x + s) MOST_SCALARS ≡ nat_le (max 1 y + s) MOST_SCALARS
    past x y lx ly =
        elim (leb_tells (max 1 x + s) MOST_SCALARS) [
          | inl p ↦ absurd (omega (arith, p.1, lx))
          | inr p ↦ elim (leb_tells (max 1 y + s) MOST_SCALARS) [ inl q ↦ absurd (omega (arith, q.1, ly)) | inr q ↦ p.0 ∙ sym q.0 ]
        ]

    cut : (x : ℕ) → n ≡ min x (2 ^ 64 - 1) → nat_le (max 1 n + s) MOST_SCALARS ≡ nat_le (max 1 x + s) MOST_SCALARS
    cut x e =
        elim (leb_tells x (2 ^ 64 - 1)) [
          | inl p ↦ (let same : n ≡ x = omega (arith, e, p.1) in ap (λ y. nat_le (max 1 y + s) MOST_SCALARS) same)
          | inr p ↦ past n x (omega (arith, e, p.1)) (omega (arith, p.1))
        ]

-- The object is made, or there is no room.

module _ (ns : List ℕ) (desc : TypeDesc) (t : ℕ) (mem : Memory) (elements size : ℕ) (elements_are : elements ≡ min (cells_of ns 1) (2 ^ 64 - 1)) (size_is : size ≡ min (elements * length desc.kinds.items) (2 ^ 64 - 1)) where
  abbrev as_made : Made
  as_made = record { type = t; lengths = ns }

  abbrev its_cells : List Cell
  its_cells = in_rows [] ns (map first_cell desc.kinds.items)

  abbrev below : Bool
  below = nat_le (max 1 size + sum_by counted mem.objects) MOST_SCALARS

  pub fits_is : nat_le (counted its_cells + sum_by counted mem.objects) MOST_SCALARS ≡ below
  fits_is =
      ap (λ n. nat_le (max 1 n + sum_by counted mem.objects) MOST_SCALARS) (rows_length ns desc.kinds.items)
      ∙ sym (room_cut (cells_of ns 1) elements (length desc.kinds.items) size (sum_by counted mem.objects) elements_are size_is)

  room_is : list_all (λ n. nat_le n MOST_SCALARS) ns ≡ true → has_room as_made its_cells mem ≡ below
  room_is few =
      ap (λ b. b && nat_le (counted its_cells + sum_by counted mem.objects) MOST_SCALARS) few
      ∙ fits_is

  pub no_room : (old : KeptFrames) (count at : ℕ) (out : List ℕ) → below ≡ false → IsMadeWith ns desc t count at old old mem mem (Trapped 12 0) out
  no_room old count at out full few f fs is =
      subst (λ b. HasMade (makes (reverse old.following.items) b as_made its_cells (asker at f.keeps (drop count f.stack) f fs mem)) false (Trapped 12 0) (frames_in old) mem out out) (sym (room_is few ∙ full)) (lost_made old f fs mem 12 0 out is)

  -- the cells that were made, where elements that were cut have none
  pub cells_made : (cells : List Cell) → below ≡ true → cells ≡ times [] elements (map first_cell desc.kinds.items) → cells ≡ its_cells
  cells_made cells room e = e ∙ by desc.kinds.items refl ∙ sym (rows_times ns (map first_cell desc.kinds.items))
    where
      within : (k : ℕ) → length desc.kinds.items ≡ suc k → elements ≡ cells_of ns 1
      within k some =
          elim (leb_tells (max 1 size + sum_by counted mem.objects) MOST_SCALARS) [
            | inl p ↦ (
                let s : size ≡ min (elements * suc k) (2 ^ 64 - 1) = size_is ∙ ap (λ n. min (elements * n) (2 ^ 64 - 1)) some in
                let z : elements * suc k ≡ elements + elements * k = omega arith in
                omega (arith, p.1, s, z, elements_are))
            | inr p ↦ (let z : true ≡ false = sym room ∙ p.0 in absurd (cc z))
          ]

      by : (kinds : List Kind) → kinds ≡ desc.kinds.items → times [] elements (map first_cell kinds) ≡ times [] (cells_of ns 1) (map first_cell kinds)
      by [] same = times_none elements ∙ sym (times_none (cells_of ns 1))
      by (x ∷ kinds) same = ap (λ n. times [] n (map first_cell (x ∷ kinds))) (within (length kinds) (sym (ap length same)))

  -- there is room for them
  pub has_place : (cells : List Cell) → below ≡ true → cells ≡ times [] elements (map first_cell desc.kinds.items) → counted cells + sum_by counted mem.objects ≤ MOST_SCALARS
  has_place cells room e =
      elim (leb_tells (max 1 size + sum_by counted mem.objects) MOST_SCALARS) [
        | inl p ↦ subst (λ n. max 1 n + sum_by counted mem.objects ≤ MOST_SCALARS) (sym so_many) (enough (elements * length desc.kinds.items) (sum_by counted mem.objects) size_is p.1)
        | inr p ↦ (let z : true ≡ false = sym room ∙ p.0 in absurd (cc z))
      ]
    where
      so_many : length cells ≡ elements * length desc.kinds.items
      so_many = ap length e ∙ length_times elements (map first_cell desc.kinds.items) ∙ ap (λ k. elements * k) (length-map desc.kinds.items first_cell)

      enough : (x s : ℕ) → size ≡ min x (2 ^ 64 - 1) → max 1 size + s ≤ MOST_SCALARS → max 1 x + s ≤ MOST_SCALARS
      enough x s is le = omega arith

  pub object_made : (old new : KeptFrames) (now : Memory) (count at number : ℕ) (cells : List Cell) (out : List ℕ) → below ≡ true → cells ≡ times [] elements (map first_cell desc.kinds.items) → number ≡ new_number mem →
      now ≡ with_object as_made cells mem → IsBehind at count (Ref number ∷ []) old new → IsMadeWith ns desc t count at old new mem now Went out
  object_made old new now count at number cells out room cells_are number_is now_is put few f fs is =
      let fol = reverse old.following.items in
      let all = cells_made cells room cells_are in
      let frames : record { following = fol; frames = behind fol at f.keeps (Ref (new_number mem) ∷ drop count f.stack) f ∷ fs } ≡ frames_in new =
      ap (λ n. let x : Frames = record { following = fol; frames = behind fol at f.keeps (Ref n ∷ drop count f.stack) f ∷ fs } in x) (sym number_is) ∙ sym (put f fs is) in
      subst (λ b. HasMade (makes fol b as_made its_cells (asker at f.keeps (drop count f.stack) f fs mem)) false Went (frames_in new) now out out) (sym (room_is few ∙ room))
      (record { store = ap (λ cs. with_object as_made cs mem) (sym all) ∙ sym now_is; frames = frames; output = sym (append-nil out); begun = refl; left = refl })

-- By what is found of the lengths.

module _ (old : KeptFrames) (mem : Memory) (t count at : ℕ) (out : List ℕ) where
  abbrev fol : List ℕ
  fol = reverse old.following.items

  pub made_none : IsMade None t count at old old mem mem (Trapped 16 0) out
  made_none f fs is = lost_made old f fs mem 16 0 out is

  module _ (desc : TypeDesc) (vs : List Cell) (args : (f : Frame) (fs : List Frame) → list_in old.list.items ≡ f ∷ fs → vs ≡ reverse (take count f.stack)) where
    by_numbers : (zs : Option (List ℤ)) (new : KeptFrames) (now : Memory) (did : Did) → numbers_in [] vs ≡ zs →
        ((f : Frame) (fs : List Frame) → list_in old.list.items ≡ f ∷ fs → HasMade (makes_of fol (Some desc) zs t (asker at f.keeps (drop count f.stack) f fs mem)) false did (frames_in new) now out out) →
        IsMade (Some desc) t count at old new mem now did out
    by_numbers zs new now did e h f fs is =
        subst (λ x. HasMade (makes_of fol (Some desc) x t (asker at f.keeps (drop count f.stack) f fs mem)) false did (frames_in new) now out out) (sym e ∙ ap (numbers_in []) (args f fs is)) (h f fs is)

    by_lengths : (zs : List ℤ) (ns : Option (List ℕ)) (new : KeptFrames) (now : Memory) (did : Did) → numbers_in [] vs ≡ Some zs → array_lengths zs ≡ ns →
        ((f : Frame) (fs : List Frame) → list_in old.list.items ≡ f ∷ fs → HasMade (makes_with fol ns t desc (asker at f.keeps (drop count f.stack) f fs mem)) false did (frames_in new) now out out) →
        IsMade (Some desc) t count at old new mem now did out
    by_lengths zs ns new now did e l h =
        by_numbers (Some zs) new now did e
        (λ f fs is. subst (λ x. HasMade (makes_with fol x t desc (asker at f.keeps (drop count f.stack) f fs mem)) false did (frames_in new) now out out) (sym l) (h f fs is))

    pub made_no : AreLengths vs No → IsMade (Some desc) t count at old old mem mem (Trapped 16 0) out
    made_no h = by_numbers None old mem (Trapped 16 0) h (λ f fs is. lost_made old f fs mem 16 0 out is)

    pub made_short : AreLengths vs Short → IsMade (Some desc) t count at old old mem mem (Trapped 15 0) out
    made_short h = by_lengths h.0 None old mem (Trapped 15 0) h.1 h.2 (λ f fs is. lost_made old f fs mem 15 0 out is)

    pub made_long : AreLengths vs Long → IsMade (Some desc) t count at old old mem mem (Trapped 12 0) out
    made_long h =
        let ns = h.1 in
        let m : Made = record { type = t; lengths = ns } in
        let cells = in_rows [] ns (map first_cell desc.kinds.items) in
        let full : has_room m cells mem ≡ false = ap (λ b. b && nat_le (counted cells + sum_by counted mem.objects) MOST_SCALARS) h.4 in
        by_lengths h.0 (Some ns) old mem (Trapped 12 0) h.2 h.3
        (λ f fs is. subst (λ b. HasMade (makes fol b m cells (asker at f.keeps (drop count f.stack) f fs mem)) false (Trapped 12 0) (frames_in old) mem out out) (sym full) (lost_made old f fs mem 12 0 out is))

    pub made_with : (ns : List ℕ) (new : KeptFrames) (now : Memory) (did : Did) → HasLengths vs ns → IsMadeWith ns desc t count at old new mem now did out → IsMade (Some desc) t count at old new mem now did out
    made_with ns new now did h made = by_lengths h.0 (Some ns) new now did h.1 h.2 (made h.3)
