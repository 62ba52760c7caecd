-- Each file that can't be placed imports the module of another such file: when all steps are done, none is next.
use Rattle.std.proofs.Common.{◌≡◌, ℕ, ◌+◌, ◌<◌, ◌≤◌, zero, suc, List, [], ◌∷◌, ◌++◌, length, get_or, Bool, true, false, cond, not, ◌||◌, ◌&&◌, ◌⊎◌, Option, Some, None, refl, sym, ap, subst, ◌∙◌, arith, nat_eq, append-nil, if◌then◌else◌, inl, inr}
use Rattle.std.specs.List.{cons_option, filter, filter_map, list_all, list_any}
use Rattle.std.specs.Option.{option_to_list}
use Rattle.std.proofs.lemmas.Bool.{eq-eqb, eqb-true}
use Rattle.std.proofs.lemmas.List.{length-map}
use Rattle.std.proofs.lemmas.List.Folds.{list_any-append}
use Rattle.std.proofs.lemmas.List.FromFn.{length-range_with_len}
use Rattle.std.proofs.lemmas.Option.{slice_get_within}
use Rattle.aos_base.specs.declared.text.Pos.{Pos}
use Rattle.aos_order.specs.Files.{File, Wanted}
use Rattle.aos_order.specs.Placing.{is_among, is_ready, next, numbers, placed, placed_after, unplaced}
use Rattle.aos_order.specs.Order.{Cycle, absent, answer, file_of, first_of, is_out, names, needed, needs, twice}
use Rattle.aos_order.specs.Laws.{IsKnot, is_of}
use Rattle.aos_order.proofs.Searches.{find_none}
use Rattle.aos_order.proofs.Steps.{both, ready}
use Rattle.aos_order.proofs.Keeps.{among_range, filtered, named, of_file, or_true, needs_at, none_below}

at_most : (b c : Bool) (x : ℕ) (m n : List ℕ) → (c ≡ true → b ≡ true) → length m ≤ length n → length (cond c (x ∷ m) m) ≤ length (cond b (x ∷ n) n)
at_most true true x m n less le = omega arith
at_most true false x m n less le = omega arith
at_most false true x m n less le = let no_way = less refl in cc
at_most false false x m n less le = le

module _ (p q : ℕ → Bool) (less : (x : ℕ) → q x ≡ true → p x ≡ true) where
  fewer : (xs : List ℕ) → length (filter q xs) ≤ length (filter p xs)
  fewer [] = omega arith
  fewer (x ∷ xs) = at_most (p x) (q x) x (filter q xs) (filter p xs) (less x) (fewer xs)

  module _ (k : ℕ) (yes : p k ≡ true) (fails : q k ≡ false) where
    fewer_by : (e b c : Bool) (x : ℕ) (xs : List ℕ) → nat_eq k x ≡ e → p x ≡ b → q x ≡ c → (e || is_among xs k) ≡ true →
        (is_among xs k ≡ true → length (filter q xs) < length (filter p xs)) → length (cond c (x ∷ filter q xs) (filter q xs)) < length (cond b (x ∷ filter p xs) (filter p xs))
    fewer_by true true false x xs e_is b_is c_is at more = let le = fewer xs in omega (arith, le)
    fewer_by true b true x xs e_is b_is c_is at more = let same = sym (ap q (eqb-true k x e_is)) in cc
    fewer_by true false false x xs e_is b_is c_is at more = let same = sym (ap p (eqb-true k x e_is)) in cc
    fewer_by false true true x xs e_is b_is c_is at more = let lt = more at in omega (arith, lt)
    fewer_by false true false x xs e_is b_is c_is at more = let lt = more at in omega (arith, lt)
    fewer_by false false false x xs e_is b_is c_is at more = more at
    fewer_by false false true x xs e_is b_is c_is at more = let no_way = less x c_is in cc

    strictly_fewer : (xs : List ℕ) → is_among xs k ≡ true → length (filter q xs) < length (filter p xs)
    strictly_fewer [] at = cc
    strictly_fewer (x ∷ xs) at = fewer_by (nat_eq k x) (p x) (q x) x xs refl refl refl at (strictly_fewer xs)

filter_at_most : (p : ℕ → Bool) (xs : List ℕ) → length (filter p xs) ≤ length xs
filter_at_most p xs = subst (λ l. length (filter p xs) ≤ length l) (all_pass xs) (fewer (λ x. true) p (λ x e. refl) xs)
  where
    all_pass : (xs : List ℕ) → filter (λ x. true) xs ≡ xs
    all_pass [] = refl
    all_pass (x ∷ xs) = ap (λ l. x ∷ l) (all_pass xs)

first_false : (b : Bool) {c : Bool} → c ≡ true → (b && c) ≡ false → b ≡ false
first_false true e r = cc
first_false false e r = refl

module _ (needs : List (List ℕ)) where
  abbrev unmet : List ℕ → List ℕ
  unmet so_far = filter (λ k. not (is_among so_far k)) (numbers needs)

  still_not : (so_far more : List ℕ) (x : ℕ) → not (is_among (so_far ++ more) x) ≡ true → not (is_among so_far x) ≡ true
  still_not so_far more x e = by (is_among so_far x) (ap not (sym (list_any-append (nat_eq x) so_far more)) ∙ e)
    where
      by : (b : Bool) → not (b || is_among more x) ≡ true → not b ≡ true
      by false e = refl
      by true e = cc

  among_last : (so_far : List ℕ) (k : ℕ) → not (is_among (so_far ++ k ∷ []) k) ≡ false
  among_last so_far k = ap not (list_any-append (nat_eq k) so_far (k ∷ []) ∙ ap (λ b. is_among so_far k || (b || false)) (eq-eqb k k refl)) ∙ by (is_among so_far k)
    where
      by : (b : Bool) → not (b || true) ≡ false
      by true = refl
      by false = refl

  counted_by : (n : ℕ) (o : Option ℕ) → next needs (placed_after needs n) ≡ o → length (unmet (placed_after needs n)) + n ≤ length needs →
      (next needs (placed_after needs n ++ option_to_list o) ≡ None) ⊎ (length (unmet (placed_after needs n ++ option_to_list o)) + suc n ≤ length needs)
  counted_by n None e le = inl (subst (λ l. next needs l ≡ None) (sym (append-nil (placed_after needs n))) e)
  counted_by n (Some k) e le =
      let before = placed_after needs n in
      let fresh = ready needs before k e in
      let less = strictly_fewer (λ x. not (is_among before x)) (λ x. not (is_among (before ++ k ∷ []) x)) (still_not before (k ∷ [])) k (ap not fresh.1) (among_last before k)
      (numbers needs) (among_range (length needs) k fresh.0) in
      inr (omega (arith, less, le))

  -- each step leaves one file less, as long as there is a next
  counted : (n : ℕ) → (next needs (placed_after needs n) ≡ None) ⊎ (length (unmet (placed_after needs n)) + n ≤ length needs)
  counted zero = let le = filter_at_most (λ k. not (is_among [] k)) (numbers needs) in let size = length-range_with_len 0 (length needs) in inr (omega (arith, le, size))
  counted (suc n) = elim (counted n) [
    | inl none ↦ inl (ap (λ o. next needs (placed_after needs n ++ option_to_list o)) none ∙ ap (next needs) (append-nil (placed_after needs n)) ∙ none)
    | inr le ↦ counted_by n (next needs (placed_after needs n)) refl le
  ]

  pub no_next : next needs (placed needs) ≡ None
  no_next = elim (counted (length needs)) [
    | inl none ↦ none
    | inr le ↦ find_none (is_ready needs (placed needs)) (length needs) (λ k lt. closed k lt (empty (unmet (placed needs)) (omega (arith, le))))
  ]
    where
      empty : (xs : List ℕ) → length xs ≤ 0 → xs ≡ []
      empty [] le = refl
      empty (x ∷ xs) le = absurd (omega arith)

      closed : (k : ℕ) → k < length needs → unmet (placed needs) ≡ [] → is_ready needs (placed needs) k ≡ false
      closed k lt none =
          let p : ℕ → Bool = λ j. not (is_among (placed needs) j) in
          let r : (p k && is_among (numbers needs) k) ≡ false = sym (filtered p (numbers needs) k) ∙ ap (λ l. is_among l k) none in
          ap (λ b. b && list_all (is_among (placed needs)) (get_or needs k [])) (first_false (p k) (among_range (length needs) k lt) r)

module _ (ns : List (List ℕ)) (left before : List ℕ) (open_ones : (j : ℕ) → j < length ns → is_among before j ≡ false → is_among left j ≡ true) where
  abbrev Ties : Wanted → Bool
  Ties w = not (is_out w.name) && is_of ns left w.name

  tied_by : (w : Wanted) (ws : List Wanted) (rest : List ℕ) (j : ℕ) (b : Bool) → is_out w.name ≡ false → file_of ns w.name ≡ Some j → is_among before j ≡ b →
      (b && list_all (is_among before) rest) ≡ false → (list_all (is_among before) rest ≡ false → list_any Ties ws ≡ true) → (Ties w || list_any Ties ws) ≡ true
  tied_by w ws rest j true out_is r_is b_is e more = ap (λ b. Ties w || b) (more e) ∙ or_true (Ties w)
  tied_by w ws rest j false out_is r_is b_is e more =
      ap (λ b. (not b && is_of ns left w.name) || list_any Ties ws) out_is
      ∙ ap (λ b. b || list_any Ties ws) (of_file ns left w.name j r_is (open_ones j (named ns w.name j r_is).0 b_is))

  knot_by : (w : Wanted) (ws : List Wanted) (rest : List ℕ) (out : Bool) (r : Option ℕ) → is_out w.name ≡ out → file_of ns w.name ≡ r →
      list_all (is_among before) (cons_option (if out then None else r) rest) ≡ false → (list_all (is_among before) rest ≡ false → list_any Ties ws ≡ true) → (Ties w || list_any Ties ws) ≡ true
  knot_by w ws rest true r out_is r_is e more = ap (λ b. Ties w || b) (more e) ∙ or_true (Ties w)
  knot_by w ws rest false None out_is r_is e more = ap (λ b. Ties w || b) (more e) ∙ or_true (Ties w)
  knot_by w ws rest false (Some j) out_is r_is e more = tied_by w ws rest j (is_among before j) out_is r_is refl e more

  pub imports_tie : (ws : List Wanted) → list_all (is_among before) (filter_map (needed ns) ws) ≡ false → list_any Ties ws ≡ true
  imports_tie [] e = cc
  imports_tie (w ∷ ws) e = knot_by w ws (filter_map (needed ns) ws) (is_out w.name) (file_of ns w.name) refl refl e (imports_tie ws)

left_of_cycle : (again : Option (ℕ × ℕ)) (lacking : Option (ℕ × Pos)) (order left xs : List ℕ) → first_of again lacking order left ≡ Cycle xs → left ≡ xs
left_of_cycle (Some p) lacking order left xs e = cc
left_of_cycle None (Some p) order left xs e = cc
left_of_cycle None None order [] xs e = cc
left_of_cycle None None order (k ∷ ks) xs e = cc

-- the law of a cycle
pub cycle_ties : (all : List File) (left : List ℕ) → answer all ≡ Cycle left → IsKnot all left
cycle_ties all left e k f at is =
    let ns = needs all in
    let done = placed ns in
    let size : length ns ≡ length all = length-map all (λ f. filter_map (needed (names all)) f.imports) in
    let named_size : length (names all) ≡ length all = length-map all (λ f. f.name) in
    let left_is : unplaced ns ≡ left = left_of_cycle (twice (names all)) (absent all) done (unplaced ns) left e in
    let p : ℕ → Bool = λ j. not (is_among done j) in
    let within : k < length all = slice_get_within all k f is in
    let open_k = both (p k) (is_among (numbers ns) k) (sym (filtered p (numbers ns) k) ∙ ap (λ l. is_among l k) left_is ∙ at) in
    let waits : list_all (is_among done) (get_or ns k []) ≡ false =
    ap (λ b. b && list_all (is_among done) (get_or ns k [])) (sym open_k.0) ∙ none_below (is_ready ns done) (length ns) k (omega arith) (no_next ns) in
    imports_tie (names all) left done
    (λ j lt fails. ap (λ l. is_among l j) (sym left_is) ∙ filtered p (numbers ns) j ∙ ap (λ b. not b && is_among (numbers ns) j) fails ∙ among_range (length ns) j (omega arith))
    f.imports (ap (list_all (is_among done)) (sym (needs_at all k f is within)) ∙ waits)
