-- One file more is placed.
use Rattle.std.proofs.Common.{◌≡◌, ℕ, ◌+◌, ◌<◌, zero, suc, List, [], ◌∷◌, ◌++◌, length, take, drop, Bool, true, false, not, ◌||◌, ◌&&◌, Option, Some, None, refl, sym, ap, ◌∙◌, arith, nat_eq, add-one, append-nil, add-zero, add-suc, ◌≤◌, ◌-◌, if◌then◌else◌}
use Rattle.std.specs.List.{All, list_all, list_any, range_with_len}
use Rattle.std.specs.Option.{option_to_list}
use Rattle.std.proofs.Math.Seq.{take-append_seam}
use Rattle.std.proofs.lemmas.List.{length-append}
use Rattle.std.proofs.lemmas.List.Elements.{All-nil, All-cons, All-append, All-filter}
use Rattle.std.proofs.lemmas.List.Folds.{list_any-append}
use Rattle.aos_order.specs.Placing.{AreKnown, is_among, is_ready, next, placed, placed_after, unplaced}
use Rattle.aos_order.proofs.Searches.{found, all_below}

-- a slice that was written back whole
pub written : (old new : List ℕ) (n : ℕ) → n ≡ length new → take n (new ++ drop (length new) old) ≡ new
written old new n size = ap (λ m. take m (new ++ drop (length new) old)) size ∙ take-append_seam new (drop (length new) old)

pub not_not : (b : Bool) → not (not b) ≡ b
not_not true = refl
not_not false = refl

pub both : (a b : Bool) → (a && b) ≡ true → (a ≡ true) × (b ≡ true)
both true true e = (refl, refl)
both true false e = cc
both false b e = cc

kept : (so_far more xs : List ℕ) → list_all (is_among so_far) xs ≡ true → list_all (is_among (so_far ++ more)) xs ≡ true
kept so_far more [] e = refl
kept so_far more (x ∷ xs) e =
    let parts = both (is_among so_far x) (list_all (is_among so_far) xs) e in
    let here : is_among (so_far ++ more) x ≡ true = list_any-append (nat_eq x) so_far more ∙ ap (λ b. b || list_any (nat_eq x) more) parts.0 in
    ap (λ b. b && list_all (is_among (so_far ++ more)) xs) here ∙ kept so_far more xs parts.1

module _ (needs : List (List ℕ)) where
  pub known_kept : (known so_far more : List ℕ) → AreKnown needs known so_far → AreKnown needs known (so_far ++ more)
  known_kept known so_far more are = λ k lt. kept so_far more _ (are k lt)

  pub ready : (so_far : List ℕ) (k : ℕ) → next needs so_far ≡ Some k → (k < length needs) × (is_among so_far k ≡ false)
  ready so_far k e =
      let r = found (is_ready needs so_far) (length needs) k e in
      (r.0, sym (not_not (is_among so_far k)) ∙ ap not (both (not (is_among so_far k)) _ r.1).0)

  -- an insertion of the next
  pub inserted : (so_far new : List ℕ) (k : ℕ) → next needs so_far ≡ Some k → new ≡ (if is_among so_far k then so_far else so_far ++ k ∷ []) → new ≡ so_far ++ option_to_list (next needs so_far)
  inserted so_far new k e is = is ∙ ap (λ b. if b then so_far else so_far ++ k ∷ []) (ready so_far k e).1 ∙ ap (λ o. so_far ++ option_to_list o) (sym e)

  pub placed_more : (so_far new : List ℕ) (n : ℕ) → so_far ≡ placed_after needs n → new ≡ so_far ++ option_to_list (next needs so_far) → new ≡ placed_after needs (n + 1)
  placed_more so_far new n at is = is ∙ ap (λ p. p ++ option_to_list (next needs p)) at ∙ ap (placed_after needs) (sym (add-one n))

  next_within : (so_far : List ℕ) (o : Option ℕ) → next needs so_far ≡ o → All (λ k. k < length needs) (option_to_list o)
  next_within so_far (Some k) e = All-cons (λ k. k < length needs) k [] (ready so_far k e).0 (All-nil (λ k. k < length needs))
  next_within so_far None e = All-nil (λ k. k < length needs)

  within_after : (n : ℕ) → All (λ k. k < length needs) (placed_after needs n)
  within_after zero = All-nil (λ k. k < length needs)
  within_after (suc n) = All-append (λ k. k < length needs) (placed_after needs n) _ (within_after n) (next_within (placed_after needs n) (next needs (placed_after needs n)) refl)

  pub placed_within : All (λ k. k < length needs) (placed needs)
  placed_within = within_after (length needs)

  pub unplaced_within : All (λ k. k < length needs) (unplaced needs)
  unplaced_within = All-filter (λ k. not (is_among (placed needs) k)) (λ k. k < length needs) (range_with_len 0 (length needs)) (λ k d lt. let r = all_below 0 (length needs) k d lt in omega (arith, r))

  -- when no file is next, none comes any more
  stuck : (n d : ℕ) → next needs (placed_after needs n) ≡ None → placed_after needs (n + d) ≡ placed_after needs n
  stuck n zero e = ap (placed_after needs) (add-zero n)
  stuck n (suc d) e =
      let before = stuck n d e in
      ap (placed_after needs) (add-suc n d) ∙ ap (λ p. p ++ option_to_list (next needs p)) before
      ∙ ap (λ o. placed_after needs n ++ option_to_list o) e ∙ append-nil (placed_after needs n)

  pub stopped : (keys : List ℕ) → length keys ≤ length needs → keys ≡ placed_after needs (length keys) → next needs keys ≡ None → keys ≡ placed needs
  stopped keys le at e =
      let n = length keys in
      let end : n + (length needs - n) ≡ length needs = omega arith in
      at ∙ sym (stuck n (length needs - n) (ap (next needs) (sym at) ∙ e)) ∙ ap (placed_after needs) end

  -- the next is put behind the others
  pub grown : (keys new : List ℕ) (k : ℕ) → next needs keys ≡ Some k → new ≡ (if is_among keys k then keys else keys ++ k ∷ []) → (new ≡ keys ++ k ∷ []) × (length new ≡ length keys + 1)
  grown keys new k e is =
      let same : new ≡ keys ++ k ∷ [] = inserted keys new k e is ∙ ap (λ o. keys ++ option_to_list o) e in
      (same, omega (arith, ap length same, length-append keys (k ∷ [])))

  pub placed_grown : (keys new : List ℕ) (k : ℕ) → next needs keys ≡ Some k → new ≡ (if is_among keys k then keys else keys ++ k ∷ []) → keys ≡ placed_after needs (length keys) →
      new ≡ placed_after needs (length new)
  placed_grown keys new k e is at = placed_more keys new (length keys) at (inserted keys new k e is) ∙ ap (placed_after needs) (sym (grown keys new k e is).1)
