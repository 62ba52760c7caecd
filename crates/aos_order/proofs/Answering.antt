-- The answer, put together from its parts.
use Rattle.std.proofs.Common.{◌≡◌, ℕ, suc, ◌<◌, List, [], ◌∷◌, length, take, get_or, map, Option, Some, None, Err, Vec, Global, is_some, Bool, true, false, not, ◌==◌, refl, sym, ap, subst, ◌∙◌, arith, bytes_eq}
use Rattle.std.specs.List.{All, find, filter, filter_map, position_or_len, range_with_len}
use Rattle.std.specs.Option.{option_map, option_and_then}
use Rattle.std.proofs.lemmas.List.{length-map, length-take}
use Rattle.std.proofs.lemmas.Bool.Decides.{nat_tests}
use Rattle.std.proofs.lemmas.Option.{some_pair_parts}
use Rattle.aos_base.specs.declared.text.Pos.{Pos}
use Rattle.aos_order.specs.declared.order_err.OrderErr.{OrderErr}
use Rattle.aos_order.specs.declared.order_err.OrderErr.TheVariants as err
use Rattle.aos_order.specs.Files.{File, Wanted}
use Rattle.aos_order.specs.Order.{Order, Cycle, IsRefused, NamesFiles, absence, absent, absent_in, answer, first_of, is_again, names, needed, needs, repetition, twice}
use Rattle.aos_order.specs.Placing.{is_among, placed, unplaced}
use Rattle.aos_order.proofs.Steps.{placed_within, unplaced_within}
use Rattle.aos_order.proofs.Searches.{found, position_within}

pub ordered : (again : Option (ℕ × ℕ)) (lacking : Option (ℕ × Pos)) (order left : List ℕ) → again ≡ None → lacking ≡ None → left ≡ [] → first_of again lacking order left ≡ Order order
ordered again lacking order left a b c = ap (λ x. first_of x lacking order left) a ∙ ap (λ x. first_of None x order left) b ∙ ap (λ x. first_of None None order x) c

some_left : (order left : List ℕ) → 0 < length left → first_of None None order left ≡ Cycle left
some_left order [] lt = absurd (omega arith)
some_left order (k ∷ ks) lt = refl

pub cyclic : (again : Option (ℕ × ℕ)) (lacking : Option (ℕ × Pos)) (order left : List ℕ) → again ≡ None → lacking ≡ None → 0 < length left → first_of again lacking order left ≡ Cycle left
cyclic again lacking order left a b lt = ap (λ x. first_of x lacking order left) a ∙ ap (λ x. first_of None x order left) b ∙ some_left order left lt

twice_by : (all : List (List ℕ)) (o : Option ℕ) (i k : ℕ) → find (is_again all) (range_with_len 0 (length all)) ≡ o →
    option_map (repetition all) o ≡ Some (i, k) → (i < k) × (k < length all)
twice_by all None i k at e = cc
twice_by all (Some j) i k at e =
    let r = found (is_again all) (length all) j at in
    let earlier = bytes_eq (get_or all j []) in
    let at = some_pair_parts (position_or_len earlier (take j all)) i j k e in
    let before = position_within earlier (take j all) r.1 in
    (omega (arith, at.0, at.1, before, length-take j all), omega (arith, at.1, r.0))

pub twice_within : (all : List (List ℕ)) (e : OrderErr) → IsRefused (twice all) None e → NamesFiles (length all) (Err e)
twice_within all (err.Twice i k) h = twice_by all _ i k refl h
twice_within all (err.Absent k at) h = cc
twice_within all (err.Cycle left) h = absurd h
twice_within all err.NoMemory h = tt

absence_file : (j : ℕ) (o : Option Wanted) (k : ℕ) (at : Pos) → option_map (absence j) o ≡ Some (k, at) → j ≡ k
absence_file j None k at e = cc
absence_file j (Some w) k at e = (some_pair_parts j k w.at at e).0

absent_by : (all : List File) (o : Option ℕ) (k : ℕ) (at : Pos) → find (λ j. is_some (absent_in all j)) (range_with_len 0 (length all)) ≡ o →
    option_and_then (λ j. option_map (absence j) (absent_in all j)) o ≡ Some (k, at) → k < length all
absent_by all None k at is e = cc
absent_by all (Some j) k at is e =
    let r = found (λ j. is_some (absent_in all j)) (length all) j is in
    let same = absence_file j (absent_in all j) k at e in
    omega (arith, r.0, same)

pub absent_within : (all : List File) (e : OrderErr) → IsRefused None (absent all) e → NamesFiles (length all) (Err e)
absent_within all (err.Twice i k) h = cc
absent_within all (err.Absent k at) h = absent_by all _ k at refl h
absent_within all (err.Cycle left) h = absurd h
absent_within all err.NoMemory h = tt

-- the placed files, told of what was passed on
pub placed_are : (all : List File) (keys : List ℕ) (passed items : List (Vec ℕ Global)) → keys ≡ placed (map (λ v. v.items) passed) → passed ≡ items → map (λ v. v.items) items ≡ needs all → keys ≡ placed (needs all)
placed_are all keys passed items at same are = at ∙ ap (λ l. placed (map (λ v. v.items) l)) same ∙ ap placed are

module _ (all : List File) (n : ℕ) (size : length all ≡ n) (keys left : List ℕ) (placed_is : keys ≡ placed (needs all))
    (left_is : left ≡ filter (λ k. not (is_among keys k)) (range_with_len 0 n)) (once : twice (names all) ≡ None) (given : absent all ≡ None) where
  size_is : length (needs all) ≡ n
  size_is = length-map all (λ f. filter_map (needed (names all)) f.imports) ∙ size

  all_left : left ≡ unplaced (needs all)
  all_left =
      left_is ∙ ap (λ p. filter (λ k. not (is_among p k)) (range_with_len 0 n)) placed_is
      ∙ ap (λ m. filter (λ k. not (is_among (placed (needs all)) k)) (range_with_len 0 m)) (sym size_is)

  pub order_is : left ≡ [] → answer all ≡ Order keys
  order_is none = ordered (twice (names all)) (absent all) (placed (needs all)) (unplaced (needs all)) once given (sym all_left ∙ none) ∙ ap Order (sym placed_is)

  pub cycle_is : 0 < length left → answer all ≡ Cycle left
  cycle_is some =
      cyclic (twice (names all)) (absent all) (placed (needs all)) (unplaced (needs all)) once given (subst (λ l. 0 < length l) all_left some) ∙ ap Cycle (sym all_left)

  pub order_within : All (λ k. k < n) keys
  order_within = subst (λ l. All (λ k. k < n) l) (sym placed_is) (subst (λ m. All (λ k. k < m) (placed (needs all))) size_is (placed_within (needs all)))

  pub cycle_within : All (λ k. k < n) left
  cycle_within = subst (λ l. All (λ k. k < n) l) (sym all_left) (subst (λ m. All (λ k. k < m) (unplaced (needs all))) size_is (unplaced_within (needs all)))

-- what the test of emptiness says
pub has_some : (left : List ℕ) (n : ℕ) (b : Bool) → n ≡ length left → b ≡ (n == 0) → b ≡ false → 0 < length left
has_some [] n b size test is = let e : (n == 0) ≡ true = ap (λ m. m == 0) size in cc
has_some (k ∷ ks) n b size test is = omega arith

pub has_none : (left : List ℕ) (n : ℕ) (b : Bool) → n ≡ length left → b ≡ (n == 0) → b ≡ true → left ≡ []
has_none [] n b size test is = refl
has_none (k ∷ ks) n b size test is = let e : (suc (length ks) == 0) ≡ true = ap (λ m. m == 0) (sym size) ∙ sym test ∙ is in absurd (grind (arith, nat_tests))
