-- Each file is in a load order once, behind all that its module imports.
use Rattle.std.proofs.Common.{◌≡◌, ◌≢◌, ◌⊎◌, ℕ, ◌+◌, ◌<◌, zero, suc, List, [], ◌∷◌, ◌++◌, length, take, get_or, Bool, true, false, cond, not, ◌||◌, ◌&&◌, Option, Some, None, is_some, refl, sym, ap, subst, ◌∙◌, arith, nat_eq, bytes_eq, append-nil, if◌then◌else◌, inl, inr}
use Rattle.std.specs.List.{AllPairs, cons_option, filter, filter_map, find, list_all, list_any, range_with_len, slice_get}
use Rattle.std.specs.Option.{option_and_then, option_map, option_to_list}
use Rattle.std.proofs.Math.Seq.{get_or-append_seam, take-append_seam}
use Rattle.std.proofs.lemmas.Bool.{eq-eqb, eqb-true}
use Rattle.std.proofs.lemmas.Grind.{get_or_default_zero}
use Rattle.std.proofs.lemmas.List.{get_or-map, get_or_append_left, length-append, length-map, take-append-le}
use Rattle.std.proofs.lemmas.List.Folds.{list_any-from_Any}
use Rattle.std.proofs.lemmas.List.FromFn.{length-range_with_len}
use Rattle.std.proofs.lemmas.List.Quantifiers.{all_pairs_push, position-Some}
use Rattle.std.proofs.lemmas.Map.Views.{any-filter_same}
use Rattle.std.proofs.lemmas.Option.{get_or_from_slice_get, slice_get_within}
use Rattle.aos_base.specs.declared.text.Pos.{Pos}
use Rattle.aos_order.specs.Files.{File, Wanted}
use Rattle.aos_order.specs.Placing.{is_among, is_ready, next, placed, placed_after, unplaced}
use Rattle.aos_order.specs.Order.{Order, absence, absent, absent_in, answer, file_of, first_absent, first_of, is_absent, is_out, names, needed, needs, twice}
use Rattle.aos_order.specs.Laws.{IsLoadOrder, is_loaded, is_of}
use Rattle.aos_order.proofs.Searches.{found, in_range}
use Rattle.aos_order.proofs.Steps.{both, ready}

-- a test that one element of a list passes
pub any_at : (p : ℕ → Bool) (xs : List ℕ) (i d : ℕ) → i < length xs → p (get_or xs i d) ≡ true → list_any p xs ≡ true
any_at p xs i d lt e =
    let x = get_or xs i d in
    list_any-from_Any p xs (i, x, lt, get_or_default_zero xs i x lt ∙ sym (get_or_default_zero xs i d lt), e)

pub none_at : (p : ℕ → Bool) (xs : List ℕ) (i d : ℕ) → i < length xs → list_any p xs ≡ false → p (get_or xs i d) ≡ false
none_at p xs i d lt e = by (p (get_or xs i d)) refl
  where
    by : (b : Bool) → p (get_or xs i d) ≡ b → p (get_or xs i d) ≡ false
    by false is = is
    by true is = let yes : list_any p xs ≡ true = any_at p xs i d lt is in cc

pub or_true : (b : Bool) → (b || true) ≡ true
or_true true = refl
or_true false = refl

pub any_same : (p : ℕ → Bool) (j : ℕ) → p j ≡ true → (xs : List ℕ) → is_among xs j ≡ true → list_any p xs ≡ true
any_same p j passes [] e = cc
any_same p j passes (x ∷ xs) e = here (nat_eq j x) refl e (any_same p j passes xs)
  where
    here : (b : Bool) → nat_eq j x ≡ b → (b || is_among xs j) ≡ true → (is_among xs j ≡ true → list_any p xs ≡ true) → (p x || list_any p xs) ≡ true
    here true is e more = ap (λ b. b || list_any p xs) (ap p (sym (eqb-true j x is)) ∙ passes)
    here false is e more = ap (λ b. p x || b) (more e) ∙ or_true (p x)

find_any : (p : ℕ → Bool) (xs : List ℕ) → find p xs ≡ None → list_any p xs ≡ false
find_any p [] e = refl
find_any p (x ∷ xs) e = here (p x) e (find_any p xs)
  where
    here : (b : Bool) → cond b (Some x) (find p xs) ≡ None → (find p xs ≡ None → list_any p xs ≡ false) → (b || list_any p xs) ≡ false
    here true e more = cc
    here false e more = more e

pub none_below : (p : ℕ → Bool) (n k : ℕ) → k < n → find p (range_with_len 0 n) ≡ None → p k ≡ false
none_below p n k lt e =
    let size = length-range_with_len 0 n in
    ap p (sym (in_range n k lt)) ∙ none_at p (range_with_len 0 n) k 0 (omega arith) (find_any p (range_with_len 0 n) e)

-- a number is among those that pass where it passes
pub filtered : (p : ℕ → Bool) (xs : List ℕ) (k : ℕ) → is_among (filter p xs) k ≡ (p k && is_among xs k)
filtered p xs k = any-filter_same (nat_eq k) p (p k) (λ j e. ap p (sym (eqb-true k j e))) xs

pub among_range : (n k : ℕ) → k < n → is_among (range_with_len 0 n) k ≡ true
among_range n k lt =
    let size = length-range_with_len 0 n in
    any_at (nat_eq k) (range_with_len 0 n) k 0 (omega arith) (eq-eqb k _ (sym (in_range n k lt)))

lt_or_end : (i n : ℕ) → i < n + 1 → (i < n) ⊎ (i ≡ n)
lt_or_end zero zero lt = inr refl
lt_or_end zero (suc n) lt = inl (omega arith)
lt_or_end (suc i) zero lt = absurd (omega arith)
lt_or_end (suc i) (suc n) lt = elim (lt_or_end i n (omega arith)) [ inl below ↦ inl (omega arith) | inr end ↦ inr (ap suc end) ]

module _ (needs : List (List ℕ)) where
  abbrev IsBehind : List ℕ → Type 0
  IsBehind order = (i : ℕ) → i < length order → list_all (is_among (take i order)) (get_or needs (get_or order i 0) []) ≡ true

  behind_more : (so_far : List ℕ) (o : Option ℕ) → next needs so_far ≡ o → IsBehind so_far → IsBehind (so_far ++ option_to_list o)
  behind_more so_far None e are = subst IsBehind (sym (append-nil so_far)) are
  behind_more so_far (Some k) e are = λ i lt.
      let parts = both (not (is_among so_far k)) _ (found (is_ready needs so_far) (length needs) k e).1 in
      elim (lt_or_end i (length so_far) (omega (arith, length-append so_far (k ∷ [])))) [
        | inl below ↦ subst (λ l. list_all (is_among l) (get_or needs (get_or (so_far ++ k ∷ []) i 0) []) ≡ true) (sym (take-append-le i so_far (k ∷ []) (omega arith)))
            (subst (λ m. list_all (is_among (take i so_far)) (get_or needs m []) ≡ true) (sym (get_or_append_left so_far (k ∷ []) 0 i below)) (are i below))
        | inr end ↦ subst (λ j. list_all (is_among (take j (so_far ++ k ∷ []))) (get_or needs (get_or (so_far ++ k ∷ []) j 0) []) ≡ true) (sym end)
            (subst (λ l. list_all (is_among l) (get_or needs (get_or (so_far ++ k ∷ []) (length so_far) 0) []) ≡ true) (sym (take-append_seam so_far (k ∷ [])))
            (subst (λ m. list_all (is_among so_far) (get_or needs m []) ≡ true) (sym (get_or-append_seam so_far k [] 0)) parts.1))
      ]

  all_behind : (n : ℕ) → IsBehind (placed_after needs n)
  all_behind zero = λ i lt. absurd (omega arith)
  all_behind (suc n) = behind_more (placed_after needs n) (next needs (placed_after needs n)) refl (all_behind n)

  once_more : (so_far : List ℕ) (o : Option ℕ) → next needs so_far ≡ o → AllPairs (λ j k. j ≢ k) so_far → AllPairs (λ j k. j ≢ k) (so_far ++ option_to_list o)
  once_more so_far None e are = subst (AllPairs (λ j k. j ≢ k)) (sym (append-nil so_far)) are
  once_more so_far (Some k) e are =
      all_pairs_push (λ j k. j ≢ k) so_far k are (λ i d lt same.
      let yes : is_among so_far k ≡ true = any_at (nat_eq k) so_far i d lt (eq-eqb k _ (sym same)) in
      let fresh = (ready needs so_far k e).1 in
      cc)

  all_once : (n : ℕ) → AllPairs (λ j k. j ≢ k) (placed_after needs n)
  all_once zero = λ i j d lt le. absurd (omega arith)
  all_once (suc n) = once_more (placed_after needs n) (next needs (placed_after needs n)) refl (all_once n)

-- what the parts of an answer are
parts_of_order : (again : Option (ℕ × ℕ)) (lacking : Option (ℕ × Pos)) (order left xs : List ℕ) → first_of again lacking order left ≡ Order xs → (lacking ≡ None) × (left ≡ []) × (order ≡ xs)
parts_of_order (Some p) lacking order left xs e = cc
parts_of_order None (Some p) order left xs e = cc
parts_of_order None None order (k ∷ ks) xs e = cc
parts_of_order None None order [] xs e = (refl, refl, cc)

none_of : {X Y : Type 0} (f : X → Y) (o : Option X) → option_map f o ≡ None → is_some o ≡ false
none_of f None e = refl
none_of f (Some x) e = cc

module _ (all : List File) where
  given_by : (o : Option ℕ) → find (λ j. is_some (absent_in all j)) (range_with_len 0 (length all)) ≡ o →
      option_and_then (λ j. option_map (absence j) (absent_in all j)) o ≡ None → (k : ℕ) → k < length all → is_some (absent_in all k) ≡ false
  given_by None at e k lt = none_below (λ j. is_some (absent_in all j)) (length all) k lt at
  given_by (Some j) at e k lt =
      let yes = (found (λ j. is_some (absent_in all j)) (length all) j at).1 in
      let no_one = none_of (absence j) (absent_in all j) e in
      cc

  pub all_given : absent all ≡ None → (k : ℕ) (f : File) → slice_get all k ≡ Some f → k < length all → first_absent (names all) f ≡ None
  all_given e k f is lt = is_none_by (first_absent (names all) f)
      (ap (λ g. is_some (option_and_then (first_absent (names all)) g)) (sym is) ∙ given_by _ refl e k lt)
    where
      is_none_by : (o : Option Wanted) → is_some o ≡ false → o ≡ None
      is_none_by None e = refl
      is_none_by (Some w) e = cc

  pub needs_at : (k : ℕ) (f : File) → slice_get all k ≡ Some f → k < length all → get_or (needs all) k [] ≡ filter_map (needed (names all)) f.imports
  needs_at k f is lt =
      get_or-map (λ g. filter_map (needed (names all)) g.imports) all k f [] lt ∙ ap (λ g. filter_map (needed (names all)) g.imports) (get_or_from_slice_get all k f f is)

module _ (ns : List (List ℕ)) where
  pub named : (name : List ℕ) (j : ℕ) → file_of ns name ≡ Some j → (j < length ns) × (bytes_eq name (get_or ns j []) ≡ true)
  named name j e = let r = position-Some (bytes_eq name) ns j [] e in (r.0, r.1)

  pub of_file : (ks : List ℕ) (name : List ℕ) (j : ℕ) → file_of ns name ≡ Some j → is_among ks j ≡ true → is_of ns ks name ≡ true
  of_file ks name j e at = any_same (λ k. bytes_eq name (get_or ns k [])) j (named name j e).1 ks at

  loaded_by : (ks : List ℕ) (w : Wanted) (rest : Option Wanted) (needed_rest : List ℕ) (out : Bool) (r : Option ℕ) → is_out w.name ≡ out → file_of ns w.name ≡ r →
      cond (not (out || is_some r)) (Some w) rest ≡ None → list_all (is_among ks) (cons_option (if out then None else r) needed_rest) ≡ true →
      (is_loaded ns ks w ≡ true) × (rest ≡ None) × (list_all (is_among ks) needed_rest ≡ true)
  loaded_by ks w rest needed_rest true r out_is r_is e are = (ap (λ b. b || is_of ns ks w.name) out_is, e, are)
  loaded_by ks w rest needed_rest false None out_is r_is e are = cc
  loaded_by ks w rest needed_rest false (Some j) out_is r_is e are =
      let parts = both (is_among ks j) (list_all (is_among ks) needed_rest) are in
      (ap (λ b. b || is_of ns ks w.name) out_is ∙ of_file ks w.name j r_is parts.0, e, parts.1)

  pub imports_loaded : (ks : List ℕ) (ws : List Wanted) → find (is_absent ns) ws ≡ None → list_all (is_among ks) (filter_map (needed ns) ws) ≡ true → list_all (is_loaded ns ks) ws ≡ true
  imports_loaded ks [] e are = refl
  imports_loaded ks (w ∷ ws) e are =
      let r = loaded_by ks w (find (is_absent ns) ws) (filter_map (needed ns) ws) (is_out w.name) (file_of ns w.name) refl refl e are in
      ap (λ b. b && list_all (is_loaded ns ks) ws) r.0 ∙ imports_loaded ks ws r.1 r.2

negate : (b : Bool) {c : Bool} → c ≡ true → (not b && c) ≡ false → b ≡ true
negate true e r = refl
negate false e r = cc

-- the law of a load order
pub order_keeps : (all : List File) (order : List ℕ) → answer all ≡ Order order → IsLoadOrder all order
order_keeps all order e =
    let parts = parts_of_order (twice (names all)) (absent all) (placed (needs all)) (unplaced (needs all)) order e in
    let size : length (needs all) ≡ length all = length-map all (λ f. filter_map (needed (names all)) f.imports) in
    subst (IsLoadOrder all) parts.2 (record {
      each = λ k lt. every k (omega arith) parts.1;
      once = all_once (needs all) (length (needs all));
      behind = λ i f lt is.
          let k = get_or (placed (needs all)) i 0 in
          let within : k < length all = slice_get_within all k f is in
          imports_loaded (names all) (take i (placed (needs all))) f.imports (all_given all parts.0 k f is within)
          (ap (list_all (is_among (take i (placed (needs all))))) (sym (needs_at all k f is within)) ∙ all_behind (needs all) (length (needs all)) i lt);
    })
  where
    every : (k : ℕ) → k < length (needs all) → unplaced (needs all) ≡ [] → is_among (placed (needs all)) k ≡ true
    every k lt none =
        let p : ℕ → Bool = λ j. not (is_among (placed (needs all)) j) in
        let r : (p k && is_among (range_with_len 0 (length (needs all))) k) ≡ false = sym (filtered p (range_with_len 0 (length (needs all))) k) ∙ ap (λ l. is_among l k) none in
        negate (is_among (placed (needs all)) k) (among_range (length (needs all)) k lt) r
