-- Numbers and lengths that lie on the stack, the topmost first.
use Rattle.std.proofs.Common.{◌≡◌, ℕ, zero, suc, ◌+◌, ◌-◌, ◌*◌, ◌^◌, ◌<◌, ◌≤◌, min, List, [], ◌∷◌, ◌++◌, map, length, get_or, take, drop, reverse, refl, sym, ap, ◌∙◌, arith}
use Rattle.std.specs.Prelude.{ℤ, pos, negsuc, Some, None, Option, slice_get, Bool, true, false, nat_lt, if◌then◌else◌}
use Rattle.std.proofs.Common.{inl, inr}
use Rattle.std.proofs.lemmas.List.{reverse-append, map-append, drop-drop, length-map, length-take, length-reverse, get_or-reverse, get_or-take}
use Rattle.std.proofs.lemmas.Bool.{le-ltb}
use Rattle.std.proofs.lemmas.Bool.Decides.{leb_tells}
use Rattle.std.proofs.lemmas.Option.{slice_get_cases, slice_get-map, slice_get-get_or, slice_get_past}
use Rattle.std.specs.Option.{option_map}
use Rattle.aos_code.specs.declared.instr.Cell.{Cell}
use Rattle.aos_code.specs.declared.instr.Cell.TheVariants.{Num, Ref, Call as CallCell, Place}
use Rattle.aos_base.specs.Operators.{natural}
use Rattle.aos_code.specs.Memory.{Addr}
use Rattle.aos_code.specs.Silent.{Stack, Act, Goes, Stops, lost, on_number, on_place, counted_on, lengths_on, cells_of, length_cells, in_rows, element, gives, gives_picked, indexes_open, picks}
use Rattle.aos_silent_steps.specs.declared.act.Address.{Address}
use Rattle.aos_silent_steps.specs.Acts.{number_in, address_in, addr_in, small, or_lost}
use Rattle.aos_silent_steps.specs.Taken.{number_or, numbers_of, length_or, length_in, rows_of}
use Rattle.aos_silent_steps.proofs.Arguments.{at_and_behind, up_to}

-- counted_on on what a slot holds
counted_other : (j : ℕ) (zs : List ℤ) (k : List ℤ → Stack → Act) (s : Stack) → None ≡ number_in (slice_get s 0) → counted_on (suc j) zs k s ≡ Stops lost
counted_other j zs k [] e = refl
counted_other j zs k (Num a ∷ s) e = absurd (cc e)
counted_other j zs k (Ref o ∷ s) e = refl
counted_other j zs k (CallCell p o ∷ s) e = refl
counted_other j zs k (Place r c t ∷ s) e = refl

pub top_of : {X : Type 0} (xs : List X) (i : ℕ) → slice_get (drop i xs) 0 ≡ slice_get xs i
top_of [] zero = refl
top_of [] (suc i) = refl
top_of (x ∷ xs) zero = refl
top_of (x ∷ xs) (suc i) = top_of xs i

-- one number more, or none
pub counted_none : (j i : ℕ) (zs : List ℤ) (k : List ℤ → Stack → Act) (s : Stack) → None ≡ number_in (slice_get s i) → counted_on (suc j) zs k (drop i s) ≡ Stops lost
counted_none j i zs k s e = counted_other j zs k (drop i s) (e ∙ ap number_in (sym (top_of s i)))

number_cell : (v : Option Cell) (z : ℤ) → number_in v ≡ Some z → v ≡ Some (Num z)
number_cell None z e = absurd (cc e)
number_cell (Some (Num a)) z e = let p : a ≡ z = cc e in ap (λ x. Some (Num x)) p
number_cell (Some (Ref o)) z e = absurd (cc e)
number_cell (Some (CallCell p o)) z e = absurd (cc e)
number_cell (Some (Place r c t)) z e = absurd (cc e)

numbers_more : (i : ℕ) (s : Stack) (z : ℤ) → slice_get s i ≡ Some (Num z) → numbers_of (take (i + 1) s) ≡ numbers_of (take i s) ++ z ∷ []
numbers_more i s z e = ap numbers_of (up_to s i (Num z) e) ∙ map-append number_or (take i s) (Num z ∷ [])

pub counted_more : (j i : ℕ) (k : List ℤ → Stack → Act) (s : Stack) (z : ℤ) → number_in (slice_get s i) ≡ Some z →
    counted_on (suc j) (reverse (numbers_of (take i s))) k (drop i s) ≡ counted_on j (reverse (numbers_of (take (i + 1) s))) k (drop (i + 1) s)
counted_more j i k s z e =
    let here : slice_get s i ≡ Some (Num z) = number_cell (slice_get s i) z e in
    ap (λ t. counted_on (suc j) (reverse (numbers_of (take i s))) k t) (at_and_behind s i (Num z) here)
    ∙ ap (λ zs. counted_on j zs k (drop (i + 1) s)) (sym (ap reverse (numbers_more i s z here) ∙ reverse-append (numbers_of (take i s)) (z ∷ [])))

-- they are nothing but numbers
pub cells_more : (i : ℕ) (s : Stack) (z : ℤ) → number_in (slice_get s i) ≡ Some z → map Num (numbers_of (take i s)) ≡ take i s → map Num (numbers_of (take (i + 1) s)) ≡ take (i + 1) s
cells_more i s z e h =
    let here : slice_get s i ≡ Some (Num z) = number_cell (slice_get s i) z e in
    ap (map Num) (numbers_more i s z here) ∙ map-append Num (numbers_of (take i s)) (z ∷ []) ∙ ap (λ xs. xs ++ Num z ∷ []) h ∙ sym (up_to s i (Num z) here)

-- Lengths.

abbrev length_cell : ℕ → Cell
length_cell n = Num (pos n)

abbrev length_number : Cell → ℕ
length_number v = length_or (number_or v)

found_length : (v : Option Cell) (n : ℕ) → length_in v ≡ Some n → v ≡ Some (Num (pos n))
found_length None n e = absurd (cc e)
found_length (Some (Num (pos m))) n e = let p : m ≡ n = cc e in ap (λ x. Some (Num (pos x))) p
found_length (Some (Num (negsuc m))) n e = absurd (cc e)
found_length (Some (Ref o)) n e = absurd (cc e)
found_length (Some (CallCell p o)) n e = absurd (cc e)
found_length (Some (Place r c t)) n e = absurd (cc e)

lengths_other : (j : ℕ) (ls : List ℕ) (k : List ℕ → Stack → Act) (s : Stack) → None ≡ length_in (slice_get s 0) → lengths_on (suc j) ls k s ≡ Stops lost
lengths_other j ls k [] e = refl
lengths_other j ls k (Num (pos n) ∷ s) e = absurd (cc e)
lengths_other j ls k (Num (negsuc n) ∷ s) e = refl
lengths_other j ls k (Ref o ∷ s) e = refl
lengths_other j ls k (CallCell p o ∷ s) e = refl
lengths_other j ls k (Place r c t ∷ s) e = refl

pub lengths_none : (j i : ℕ) (ls : List ℕ) (k : List ℕ → Stack → Act) (s : Stack) → None ≡ length_in (slice_get s i) → lengths_on (suc j) ls k (drop i s) ≡ Stops lost
lengths_none j i ls k s e = lengths_other j ls k (drop i s) (e ∙ ap length_in (sym (top_of s i)))

-- one length more
pub lengths_next : (j i n : ℕ) (ls : List ℕ) (k : List ℕ → Stack → Act) (s : Stack) → length_in (slice_get s i) ≡ Some n → lengths_on (suc j) ls k (drop i s) ≡ lengths_on j (n ∷ ls) k (drop (i + 1) s)
lengths_next j i n ls k s e = ap (λ t. lengths_on (suc j) ls k t) (at_and_behind s i (Num (pos n)) (found_length (slice_get s i) n e))

rows_more : (i n : ℕ) (s : Stack) → length_in (slice_get s i) ≡ Some n → n ∷ rows_of (take i s) ≡ rows_of (take (i + 1) s)
rows_more i n s e =
    sym (ap rows_of (up_to s i (Num (pos n)) (found_length (slice_get s i) n e)) ∙ ap reverse (map-append length_number (take i s) (Num (pos n) ∷ []))
    ∙ reverse-append (map length_number (take i s)) (n ∷ []))

pub lengths_more : (j i n : ℕ) (k : List ℕ → Stack → Act) (s : Stack) → length_in (slice_get s i) ≡ Some n → lengths_on (suc j) (rows_of (take i s)) k (drop i s) ≡ lengths_on j (rows_of (take (i + 1) s)) k (drop (i + 1) s)
lengths_more j i n k s e = lengths_next j i n (rows_of (take i s)) k s e ∙ ap (λ ls. lengths_on j ls k (drop (i + 1) s)) (rows_more i n s e)

pub reverse-map : {X Y : Type 0} (f : X → Y) (xs : List X) → reverse (map f (reverse xs)) ≡ map f xs
reverse-map f [] = refl
reverse-map f (x ∷ xs) =
    ap (λ ys. reverse (map f ys)) (reverse-append (x ∷ []) xs) ∙ ap reverse (map-append f (reverse xs) (x ∷ [])) ∙ reverse-append (map f (reverse xs)) (f x ∷ [])
    ∙ ap (λ ys. f x ∷ ys) (reverse-map f xs)

-- they are nothing but lengths
pub length_cells_more : (i n : ℕ) (s : Stack) → length_in (slice_get s i) ≡ Some n → map length_cell (map length_number (take i s)) ≡ take i s → map length_cell (map length_number (take (i + 1) s)) ≡ take (i + 1) s
length_cells_more i n s e h =
    let here : take (i + 1) s ≡ take i s ++ Num (pos n) ∷ [] = up_to s i (Num (pos n)) (found_length (slice_get s i) n e) in
    ap (λ xs. map length_cell (map length_number xs)) here ∙ ap (map length_cell) (map-append length_number (take i s) (Num (pos n) ∷ []))
    ∙ map-append length_cell (map length_number (take i s)) (n ∷ []) ∙ ap (λ xs. xs ++ Num (pos n) ∷ []) h ∙ sym here

pub length_cells_are : (s : Stack) → map length_cell (map length_number s) ≡ s → length_cells (rows_of s) ≡ s
length_cells_are s h = reverse-map length_cell (map length_number s) ∙ h

-- a product of which one number was cut
pub min_mul : (n a m : ℕ) → min (n * min a m) m ≡ min (n * a) m
min_mul zero a m = let p : 0 * min a m ≡ 0 = omega arith in let q : 0 * a ≡ 0 = omega arith in ap (λ x. min x m) (p ∙ sym q)
min_mul (suc n) a m =
    elim (leb_tells a m) [
      | inl e ↦ (let le : a ≤ m = e.1 in let z : min a m ≡ a = omega arith in ap (λ x. min (suc n * x) m) z)
      | inr e ↦
          let lt : m < a = e.1 in
          let z : min a m ≡ m = omega arith in
          let p : m ≤ suc n * m = more n m in
          let q : a ≤ suc n * a = more n a in
          ap (λ x. min (suc n * x) m) z ∙ past (suc n * m) (suc n * a) p (omega arith)
    ]
  where
    more : (n a : ℕ) → a ≤ suc n * a
    more n a = grind arith

    past : (x y : ℕ) → m ≤ x → m ≤ y → min x m ≡ min y m
    past x y p q = omega arith

pub cells_cut : (n size cells : ℕ) (ls : List ℕ) → size ≡ min (cells_of ls cells) (2 ^ 64 - 1) → min (n * size) (2 ^ 64 - 1) ≡ min (cells_of (n ∷ ls) cells) (2 ^ 64 - 1)
cells_cut n size cells ls e = ap (λ x. min (n * x) (2 ^ 64 - 1)) e ∙ min_mul n (cells_of ls cells) (2 ^ 64 - 1)

pub rows_cut : (i n size cells : ℕ) (s : Stack) → length_in (slice_get s i) ≡ Some n → size ≡ min (cells_of (rows_of (take i s)) cells) (2 ^ 64 - 1) → min (n * size) (2 ^ 64 - 1) ≡ min (cells_of (rows_of (take (i + 1) s)) cells) (2 ^ 64 - 1)
rows_cut i n size cells s e h = cells_cut n size cells (rows_of (take i s)) h ∙ ap (λ ls. min (cells_of ls cells) (2 ^ 64 - 1)) (rows_more i n s e)

pub below_top : {X : Type 0} (xs : List X) (i : ℕ) → slice_get (drop 1 xs) i ≡ slice_get xs (i + 1)
below_top [] i = refl
below_top (x ∷ xs) i = let z : i + 1 ≡ suc i = omega arith in ap (λ m. slice_get (x ∷ xs) m) (sym z)

-- Elements of open arrays.

pub lengths_on-add : (i j : ℕ) (ls : List ℕ) (k : List ℕ → Stack → Act) (s : Stack) → lengths_on (i + j) ls k s ≡ lengths_on i ls (λ ms t. lengths_on j ms k t) s
lengths_on-add zero j ls k s = let z : 0 + j ≡ j = omega arith in ap (λ n. lengths_on n ls k s) z
lengths_on-add (suc i) j ls k s = let z : suc i + j ≡ suc (i + j) = omega arith in ap (λ n. lengths_on n ls k s) z ∙ more (λ n t. lengths_on-add i j (n ∷ ls) k t) s
  where
    more : ((n : ℕ) (t : Stack) → lengths_on (i + j) (n ∷ ls) k t ≡ lengths_on i (n ∷ ls) (λ ms u. lengths_on j ms k u) t) → (t : Stack) → lengths_on (suc (i + j)) ls k t ≡ lengths_on (suc i) ls (λ ms u. lengths_on j ms k u) t
    more h [] = refl
    more h (Num (pos n) ∷ t) = h n t
    more h (Num (negsuc n) ∷ t) = refl
    more h (Ref o ∷ t) = refl
    more h (CallCell p o ∷ t) = refl
    more h (Place r c u ∷ t) = refl

number_on : (k : ℤ → Stack → Act) (s : Stack) (z : ℤ) → number_in (slice_get s 0) ≡ Some z → on_number k s ≡ k z (drop 1 s)
number_on k [] z e = absurd (cc e)
number_on k (Num a ∷ s) z e = let p : a ≡ z = cc e in ap (λ x. k x s) p
number_on k (Ref o ∷ s) z e = absurd (cc e)
number_on k (CallCell p o ∷ s) z e = absurd (cc e)
number_on k (Place r c t ∷ s) z e = absurd (cc e)

pub no_number : (k : ℤ → Stack → Act) (s : Stack) → number_in (slice_get s 0) ≡ None → on_number k s ≡ Stops lost
no_number k [] e = refl
no_number k (Num a ∷ s) e = absurd (cc e)
no_number k (Ref o ∷ s) e = refl
no_number k (CallCell p o ∷ s) e = refl
no_number k (Place r c t ∷ s) e = refl

place_on : (k : Addr → Stack → Act) (s : Stack) (a : Address) → address_in (slice_get s 0) ≡ Some a → on_place (λ p t s'. k p s') s ≡ k (addr_in a) (drop 1 s)
place_on k [] a e = absurd (cc e)
place_on k (Num z ∷ s) a e = absurd (cc e)
place_on k (Ref o ∷ s) a e = absurd (cc e)
place_on k (CallCell p o ∷ s) a e = absurd (cc e)
place_on k (Place r c t ∷ s) a e = let p : record { root = r; cell = c } ≡ a = cc e in ap (λ x. k (addr_in x) s) p

no_place : (k : Addr → Stack → Act) (s : Stack) → address_in (slice_get s 0) ≡ None → on_place (λ p t s'. k p s') s ≡ Stops lost
no_place k [] e = refl
no_place k (Num z ∷ s) e = refl
no_place k (Ref o ∷ s) e = refl
no_place k (CallCell p o ∷ s) e = refl
no_place k (Place r c t ∷ s) e = absurd (cc e)

-- the place at a depth
pub place_at : (k : Addr → Stack → Act) (s : Stack) (d : ℕ) (a : Address) → address_in (slice_get s d) ≡ Some a → on_place (λ p t s'. k p s') (drop d s) ≡ k (addr_in a) (drop (d + 1) s)
place_at k s d a e = place_on k (drop d s) a (ap address_in (top_of s d) ∙ e) ∙ ap (k (addr_in a)) (drop-drop 1 d s)

pub no_place_at : (k : Addr → Stack → Act) (s : Stack) (d : ℕ) → address_in (slice_get s d) ≡ None → on_place (λ p t s'. k p s') (drop d s) ≡ Stops lost
no_place_at k s d e = no_place k (drop d s) (ap address_in (top_of s d) ∙ e)

module _ (cells : ℕ) (s : Stack) where
  pub not_indexed : (j : ℕ) → number_in (slice_get s 0) ≡ None → indexes_open j cells s ≡ Stops lost
  not_indexed j e = no_number (λ z s1. lengths_on j [] (λ ns s2. in_rows ns z cells s2) s1) s e

  pub no_rows : (z : ℤ) → number_in (slice_get s 0) ≡ Some z → indexes_open 0 cells s ≡ Stops lost
  no_rows z e = number_on (λ x s1. lengths_on 0 [] (λ ns s2. in_rows ns x cells s2) s1) s z e

  -- the lengths but the first
  rows_then : (rows : ℕ) (z : ℤ) → number_in (slice_get s 0) ≡ Some z →
      indexes_open (rows + 1) cells s ≡ lengths_on rows [] (λ ms t. lengths_on 1 ms (λ ns s2. in_rows ns z cells s2) t) (drop 1 s)
  rows_then rows z e =
      number_on (λ x s1. lengths_on (rows + 1) [] (λ ns s2. in_rows ns x cells s2) s1) s z e ∙ lengths_on-add rows 1 [] (λ ns s2. in_rows ns z cells s2) (drop 1 s)

  pub rows_lost : (rows : ℕ) (z : ℤ) → number_in (slice_get s 0) ≡ Some z → ((k : List ℕ → Stack → Act) → lengths_on rows [] k (drop 1 s) ≡ Stops lost) → indexes_open (rows + 1) cells s ≡ Stops lost
  rows_lost rows z e h = rows_then rows z e ∙ h (λ ms t. lengths_on 1 ms (λ ns s2. in_rows ns z cells s2) t)

  module _ (rows : ℕ) (z : ℤ) (ls : List ℕ) (e : number_in (slice_get s 0) ≡ Some z) (h : (k : List ℕ → Stack → Act) → lengths_on rows [] k (drop 1 s) ≡ k ls (drop (1 + rows) s)) where
    first_then : indexes_open (rows + 1) cells s ≡ lengths_on 1 ls (λ ns s2. in_rows ns z cells s2) (drop (rows + 1) s)
    first_then =
        let n : 1 + rows ≡ rows + 1 = omega arith in
        rows_then rows z e ∙ h (λ ms t. lengths_on 1 ms (λ ns s2. in_rows ns z cells s2) t) ∙ ap (λ m. lengths_on 1 ls (λ ns s2. in_rows ns z cells s2) (drop m s)) n

    pub first_lost : length_in (slice_get s (rows + 1)) ≡ None → indexes_open (rows + 1) cells s ≡ Stops lost
    first_lost f = first_then ∙ lengths_none 0 (rows + 1) ls (λ ns s2. in_rows ns z cells s2) s (sym f)

    place_then : (n : ℕ) → length_in (slice_get s (rows + 1)) ≡ Some n →
        indexes_open (rows + 1) cells s ≡ on_place (λ a t s'. element a (natural n z) (cells_of ls cells) (length_cells ls) s') (drop (rows + 1 + 1) s)
    place_then n f = first_then ∙ lengths_next 0 (rows + 1) n ls (λ ns s2. in_rows ns z cells s2) s f

    pub place_lost : (n : ℕ) → length_in (slice_get s (rows + 1)) ≡ Some n → address_in (slice_get s (rows + 1 + 1)) ≡ None → indexes_open (rows + 1) cells s ≡ Stops lost
    place_lost n f g = place_then n f ∙ no_place_at (λ a s'. element a (natural n z) (cells_of ls cells) (length_cells ls) s') s (rows + 1 + 1) g

    pub element_is : (n : ℕ) (a : Address) (above : Stack) → length_in (slice_get s (rows + 1)) ≡ Some n → address_in (slice_get s (rows + 1 + 1)) ≡ Some a → length_cells ls ≡ above →
        indexes_open (rows + 1) cells s ≡ element (addr_in a) (natural n z) (cells_of ls cells) above (drop (rows + 1 + 1 + 1) s)
    element_is n a above f g w =
        place_then n f ∙ place_at (λ p s'. element p (natural n z) (cells_of ls cells) (length_cells ls) s') s (rows + 1 + 1) a g
        ∙ ap (λ x. element (addr_in a) (natural n z) (cells_of ls cells) x (drop (rows + 1 + 1 + 1) s)) w

-- The place that an element has.

pub placed_none : (a : Addr) (i n : ℕ) (above s : Stack) → None ≡ small (a.cell + i * n) → element a (Some i) n above s ≡ Stops lost
placed_none a i n above s e = go (nat_lt (a.cell + i * n) (2 ^ 32)) e
  where
    go : (b : Bool) → None ≡ (if b then Some (a.cell + i * n) else None) → (if b then Goes 0 (above ++ Place a.root (a.cell + i * n) 0 ∷ s) else Stops lost) ≡ Stops lost
    go true e = absurd (cc e)
    go false e = refl

pub placed : (a : Addr) (i n c : ℕ) (above s : Stack) → Some c ≡ small (a.cell + i * n) → element a (Some i) n above s ≡ Goes 0 (above ++ Place a.root c 0 ∷ s)
placed a i n c above s e = go (nat_lt (a.cell + i * n) (2 ^ 32)) e
  where
    go : (b : Bool) → Some c ≡ (if b then Some (a.cell + i * n) else None) → (if b then Goes 0 (above ++ Place a.root (a.cell + i * n) 0 ∷ s) else Stops lost) ≡ Goes 0 (above ++ Place a.root c 0 ∷ s)
    go true e = let p : a.cell + i * n ≡ c = cc e in ap (λ x. Goes 0 (above ++ Place a.root x 0 ∷ s)) p
    go false e = absurd (cc e)

pub address_within : (s : Stack) (d : ℕ) (a : Address) → address_in (slice_get s d) ≡ Some a → d < length s
address_within s d a e = elim (slice_get_cases s d).1 [ inl r ↦ r.1 | inr r ↦ (let z = sym e ∙ ap address_in r.1 in absurd (cc z)) ]

-- A number that is picked.

number_at : (j d : ℕ) (s : Stack) → d < j → j ≤ length s → map Num (numbers_of (take j s)) ≡ take j s → slice_get (reverse (numbers_of (take j s))) d ≡ number_in (slice_get s (j - 1 - d))
number_at j d s lt le h =
    let xs = take j s in
    let ws = numbers_of xs in
    let m = j - 1 - d in
    let z : ℤ = pos 0 in
    let len : length ws ≡ j = omega (arith, length-map xs number_or, length-take j s) in
    let long : d < length (reverse ws) = omega (arith, length-reverse ws) in
    let within : m < length ws = omega arith in
    let before : m < j = omega arith in
    let on : m < length s = omega arith in
    let front : m < length xs = omega (arith, length-take j s) in
    let turned : get_or (reverse ws) d z ≡ get_or ws m z = get_or-reverse ws d z (omega arith) ∙ ap (λ n. get_or ws (n - 1 - d) z) len in
    let cell : slice_get s m ≡ slice_get xs m = slice_get-get_or s m (Num z) on ∙ ap Some (sym (get_or-take j s m (Num z) before)) ∙ sym (slice_get-get_or xs m (Num z) front) in
    let num : slice_get xs m ≡ Some (Num (get_or ws m z)) = ap (λ ys. slice_get ys m) (sym h) ∙ slice_get-map Num ws m ∙ ap (option_map Num) (slice_get-get_or ws m z within) in
    slice_get-get_or (reverse ws) d z long ∙ ap Some turned ∙ sym (ap number_in (cell ∙ num))

picked_or : (o : Option ℤ) (s : Stack) → gives_picked o s ≡ or_lost o (λ z. gives (Num z) s)
picked_or None s = refl
picked_or (Some z) s = refl

module _ (d j : ℕ) (s : Stack) (h : (k : List ℤ → Stack → Act) → counted_on j [] k s ≡ k (reverse (numbers_of (take j s))) (drop j s)) where
  pub picks_nowhere : address_in (slice_get s j) ≡ None → picks d j s ≡ Stops lost
  picks_nowhere e = h (λ zs s1. on_place (λ a t s2. gives_picked (slice_get zs d) s2) s1) ∙ no_place_at (λ a s2. gives_picked (slice_get (reverse (numbers_of (take j s))) d) s2) s j e

  picks_there : (a : Address) → address_in (slice_get s j) ≡ Some a → picks d j s ≡ gives_picked (slice_get (reverse (numbers_of (take j s))) d) (drop (j + 1) s)
  picks_there a e = h (λ zs s1. on_place (λ a t s2. gives_picked (slice_get zs d) s2) s1) ∙ place_at (λ a s2. gives_picked (slice_get (reverse (numbers_of (take j s))) d) s2) s j a e

  pub picks_past : (a : Address) → address_in (slice_get s j) ≡ Some a → j ≤ d → picks d j s ≡ Stops lost
  picks_past a e le =
      let past : length (reverse (numbers_of (take j s))) ≤ d = omega (arith, length-reverse (numbers_of (take j s)), length-map (take j s) number_or, length-take j s) in
      picks_there a e ∙ ap (λ o. gives_picked o (drop (j + 1) s)) (slice_get_past (reverse (numbers_of (take j s))) d past)

  pub picks_one : (a : Address) → address_in (slice_get s j) ≡ Some a → d < j → map Num (numbers_of (take j s)) ≡ take j s →
      picks d j s ≡ or_lost (number_in (slice_get s (j - 1 - d))) (λ z. gives (Num z) (drop (j + 1) s))
  picks_one a e lt n =
      let within : j < length s = address_within s j a e in
      let le : j ≤ length s = omega arith in
      picks_there a e ∙ ap (λ o. gives_picked o (drop (j + 1) s)) (number_at j d s lt le n) ∙ picked_or (number_in (slice_get s (j - 1 - d))) (drop (j + 1) s)

-- Numbers that were cut at 2^64 - 1.

small_cut : (n : ℕ) → small (min n (2 ^ 64 - 1)) ≡ small n
small_cut n =
    elim (leb_tells n (2 ^ 64 - 1)) [
      | inl e ↦ (let le : n ≤ 2 ^ 64 - 1 = e.1 in let z : min n (2 ^ 64 - 1) ≡ n = omega arith in ap small z)
      | inr e ↦
          let lt : 2 ^ 64 - 1 < n = e.1 in
          let z : min n (2 ^ 64 - 1) ≡ 2 ^ 64 - 1 = omega arith in
          let big : nat_lt n (2 ^ 32) ≡ false = le-ltb n (2 ^ 32) (omega arith) in
          ap small z ∙ ap (λ b. if b then Some n else None) (sym big)
    ]

pub cell_cut : (cell elements cells n product sum : ℕ) → cells ≡ min n (2 ^ 64 - 1) → product ≡ min (elements * cells) (2 ^ 64 - 1) → sum ≡ min (product + cell) (2 ^ 64 - 1) → small sum ≡ small (cell + elements * n)
cell_cut cell elements cells n product sum e f g =
    let whole : product ≡ min (elements * n) (2 ^ 64 - 1) = f ∙ ap (λ x. min (elements * x) (2 ^ 64 - 1)) e ∙ min_mul elements n (2 ^ 64 - 1) in
    let is : sum ≡ min (cell + elements * n) (2 ^ 64 - 1) = sums (elements * n) whole in
    ap small is ∙ small_cut (cell + elements * n)
  where
    sums : (p : ℕ) → product ≡ min p (2 ^ 64 - 1) → sum ≡ min (cell + p) (2 ^ 64 - 1)
    sums p w = omega arith
