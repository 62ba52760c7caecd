-- One more type, result or variable that is judged.
use Rattle.std.proofs.Common.{◌≡◌, ◌<◌, ◌≤◌, ◌⊎◌, inl, inr, ℕ, zero, suc, List, [], ◌∷◌, ◌+◌, length, get_or, take, drop, drop-cons, add-one, ◌++◌, Bor, Bool, true, false, nat_le, if◌then◌else◌, sum_by, Option, Some, None, slice_get, refl, ap, ◌∙◌, sym}
use Rattle.std.specs.List.{zip, flat_map}
use Rattle.std.proofs.lemmas.List.{take_all}
use Rattle.std.proofs.lemmas.List.Sums.{sum_by_more}
use Rattle.std.proofs.lemmas.Option.{none-some, same_Some, slice_get_within, slice_get_cases, get_or_from_slice_get}
use Rattle.aos_base.specs.declared.limits.TheConstants.{MOST_SCALARS}
use Rattle.aos_tree.specs.declared.decl.Def.{Def}
use Rattle.aos_tree.specs.declared.decl.Proc.{Proc}
use Rattle.aos_tree.specs.declared.decl.Decl.{Decl}
use Rattle.aos_types.specs.declared.row.TypeId.{TypeId}
use Rattle.aos_types.specs.declared.row.TypeRow.{TypeRow}
use Rattle.aos_types.specs.Chain.{circles, cut}
use Rattle.aos_symbols.specs.declared.breach.Breach.{Breach}
use Rattle.aos_symbols.specs.declared.env.Env.{Env}
use Rattle.aos_types.specs.declared.signature.Signature.{Signature}
use Rattle.aos_symbols.specs.Breaches.{breach_unless, first_after}
use Rattle.aos_symbols.specs.Declarations.{Procedure, all_procedures, seen_procedures, single_variables}
use Rattle.aos_symbols.specs.Scope.{Scope}
use Rattle.aos_symbols.proofs.Keeping.{after_more, after_two, after_three}
use Rattle.aos_symbols.proofs.Paths.{past}
use Rattle.aos_check_types.specs.Limits.{Written, written, type_breaches, types_from, result_of, result_breaches, results_from, counted, is_counted, counted_in, variables_of, scalars_of, variables_past, asked_result, cut_off}

module _ (flags : List Bool) (rows : List TypeRow) where
  -- the rules of one type, and of those behind it
  pub types_step : (met : Option Breach) (k : ℕ) (ws : List Written) (i : ℕ) (d : Written) → i < length ws →
      first_after met (types_from flags rows k (drop i ws))
      ≡ first_after (first_after met (type_breaches flags rows (record { 0 = k }) (get_or ws i d))) (types_from flags rows (k + 1) (drop (i + 1) ws))
  types_step met k ws i d lt =
      let here = type_breaches flags rows (record { 0 = k }) (get_or ws i d) in
      ap (λ l. first_after met (types_from flags rows k l)) (drop-cons ws i d lt)
      ∙ after_more met here (types_from flags rows (suc k) (drop (suc i) ws))
      ∙ ap (λ j. first_after (first_after met here) (types_from flags rows (suc k) (drop j ws))) (sym (add-one i))
      ∙ ap (λ j. first_after (first_after met here) (types_from flags rows j (drop (i + 1) ws))) (sym (add-one k))

  -- no type is left
  pub types_end : (met : Option Breach) (k : ℕ) (ws : List Written) (i : ℕ) → length ws ≤ i → first_after met (types_from flags rows k (drop i ws)) ≡ met
  types_end met k ws i le = ap (λ l. first_after met (types_from flags rows k l)) (past ws i le)

-- what is left of a list at a place where it has an item
got_one : {X : Type 0} (xs : List X) (k : ℕ) (x : X) → slice_get xs k ≡ Some x → drop k xs ≡ x ∷ drop (k + 1) xs
got_one xs k x e =
    drop-cons xs k x (slice_get_within xs k x e)
    ∙ ap (λ y. y ∷ drop (suc k) xs) (get_or_from_slice_get xs k x x e)
    ∙ ap (λ j. x ∷ drop j xs) (sym (add-one k))

-- and where it has none, nothing is left
got_none : {X : Type 0} (xs : List X) (k : ℕ) → slice_get xs k ≡ None → drop k xs ≡ []
got_none [] zero e = refl
got_none [] (suc k) e = refl
got_none (x ∷ xs) zero e = absurd (no_item x e)
  where
    no_item : {X : Type 0} (x : X) → Some x ≡ None → ⊥
    no_item x e = cc
got_none (x ∷ xs) (suc k) e = got_none xs k e

module _ (flags : List Bool) (rows : List TypeRow) where
  -- results where there is no signature
  results_none : (ps : List Procedure) → results_from flags rows ps [] ≡ []
  results_none [] = refl
  results_none (p ∷ ps) = refl

  -- no signature is left
  pub results_end : (met : Option Breach) (ps : List Procedure) (ss : List Signature) (k : ℕ) → slice_get ss k ≡ None →
      first_after met (results_from flags rows ps (drop k ss)) ≡ met
  results_end met ps ss k none =
      ap (λ l. first_after met (results_from flags rows ps l)) (got_none ss k none) ∙ ap (λ l. first_after met l) (results_none ps)

  -- one more procedure
  pub results_step : (met : Option Breach) (ps : List (Bor Proc)) (i : ℕ) (x : Bor Proc) (ss : List Signature) (k : ℕ) (s : Signature) {after : Option Breach} {j : ℕ} →
      i < length ps → x ≡ get_or ps i x → slice_get ss k ≡ Some s → j ≡ k + 1 →
      after ≡ first_after met (result_breaches flags rows (result_of flags rows x.now.outline.formals) s.gives) →
      first_after after (results_from flags rows (seen_procedures (drop (i + 1) ps)) (drop j ss)) ≡ first_after met (results_from flags rows (seen_procedures (drop i ps)) (drop k ss))
  results_step met ps i x ss k s {after = after} {j = j} lt at one j_is noted =
      let this = result_breaches flags rows (result_of flags rows x.now.outline.formals) s.gives in
      let rest = λ (l : ℕ). results_from flags rows (seen_procedures (drop (i + 1) ps)) (drop l ss) in
      ap (λ f. first_after f (rest j)) noted
      ∙ ap (λ l. first_after (first_after met this) (rest l)) j_is
      ∙ sym (after_more met this (rest (k + 1)))
      ∙ sym (ap (λ l. first_after met (results_from flags rows (seen_procedures l) (drop k ss))) (drop-cons ps i x lt)
      ∙ ap (λ l. first_after met (results_from flags rows (seen_procedures (l ∷ drop (suc i) ps)) (drop k ss))) (sym at)
      ∙ ap (λ l. first_after met (results_from flags rows (seen_procedures (x ∷ drop (suc i) ps)) l)) (got_one ss k s one)
      ∙ ap (λ l. first_after met (this ++ results_from flags rows (seen_procedures (drop l ps)) (drop (k + 1) ss))) (sym (add-one i)))

-- where there are no types of variables, there are no pairs
no_pairs : (ds : List Def) → zip {X = Option TypeId} ds [] ≡ []
no_pairs [] = refl
no_pairs (d ∷ ds) = refl

module _ (rows : List TypeRow) where
  -- variables where there are none
  pub variables_none : (met : Option Breach) (sum : ℕ) (ds : List Def) (s : Option Scope) → s ≡ None →
      met ≡ first_after met (variables_past [] rows sum (zip ds (variables_of [] rows s)))
  variables_none met sum ds s none =
      sym (
      ap (λ z. first_after met (variables_past [] rows sum (zip ds (variables_of [] rows z)))) none
      ∙ ap (λ l. first_after met (variables_past [] rows sum l)) (no_pairs ds))

  -- what a variable counts, or why it counts nothing
  counted_one : (o : Option (Option TypeId)) (n : ℕ) → counted_in [] rows o ≡ Some n →
      (of : Option TypeId) × (o ≡ Some of) × (is_counted [] rows of ≡ true) × (counted [] rows of ≡ n)
  counted_one None n e = absurd (none-some n e)
  counted_one (Some of) n e = by (is_counted [] rows of) refl e
    where
      by : (b : Bool) → is_counted [] rows of ≡ b → (if b then Some (counted [] rows of) else None) ≡ Some n →
          (u : Option TypeId) × (Some of ≡ Some u) × (is_counted [] rows u ≡ true) × (counted [] rows u ≡ n)
      by true counts e = (of, refl, counts, same_Some (counted [] rows of) n e)
      by false counts e = absurd (none-some n e)

  counted_none : (o : Option (Option TypeId)) → counted_in [] rows o ≡ None → (o ≡ None) ⊎ ((of : Option TypeId) × (o ≡ Some of) × (is_counted [] rows of ≡ false))
  counted_none None e = inl refl
  counted_none (Some of) e = by (is_counted [] rows of) refl e
    where
      by : (b : Bool) → is_counted [] rows of ≡ b → (if b then Some (counted [] rows of) else None) ≡ None →
          (Some of ≡ None) ⊎ ((u : Option TypeId) × (Some of ≡ Some u) × (is_counted [] rows u ≡ false))
      by true counts e = absurd (none-some (counted [] rows of) (sym e))
      by false counts e = inr (of, refl, counts)

  -- behind a variable that counts nothing
  uncounted : (sum : ℕ) (ds : List Def) (of : Option TypeId) (rest : List (Option TypeId)) → is_counted [] rows of ≡ false → variables_past [] rows sum (zip ds (of ∷ rest)) ≡ []
  uncounted sum [] of rest counts = refl
  uncounted sum (d ∷ ds) of rest counts =
      let n = sum + counted [] rows of in
      ap (λ b. if b then breach_unless (nat_le n MOST_SCALARS) 19 d.name.pos ++ variables_past [] rows n (zip ds rest) else []) counts

  -- no variable is left that counts
  pub variables_end : (met : Option Breach) (sum : ℕ) (ds : List Def) (vs : List (Option TypeId)) (k : ℕ) → counted_in [] rows (slice_get vs k) ≡ None →
      first_after met (variables_past [] rows sum (zip ds (drop k vs))) ≡ met
  variables_end met sum ds vs k none = by (counted_none (slice_get vs k) none)
    where
      by : (slice_get vs k ≡ None) ⊎ ((of : Option TypeId) × (slice_get vs k ≡ Some of) × (is_counted [] rows of ≡ false)) →
          first_after met (variables_past [] rows sum (zip ds (drop k vs))) ≡ met
      by (inl past) =
          ap (λ l. first_after met (variables_past [] rows sum (zip ds l))) (got_none vs k past)
          ∙ ap (λ l. first_after met (variables_past [] rows sum l)) (no_pairs ds)
      by (inr x) =
          ap (λ l. first_after met (variables_past [] rows sum (zip ds l))) (got_one vs k x.0 x.1)
          ∙ ap (λ l. first_after met l) (uncounted sum ds x.0 (drop (k + 1) vs) x.2)

  -- one more variable, with what all so far have
  pub variables_step : (met : Option Breach) (sum : ℕ) (ds : List Def) (i : ℕ) (d : Def) (vs : List (Option TypeId)) (k count : ℕ) {after : Option Breach} {n j : ℕ} →
      i < length ds → counted_in [] rows (slice_get vs k) ≡ Some count → n ≡ sum + count → j ≡ k + 1 →
      after ≡ first_after met (breach_unless (nat_le n MOST_SCALARS) 19 (get_or ds i d).name.pos) →
      first_after after (variables_past [] rows n (zip (drop (i + 1) ds) (drop j vs))) ≡ first_after met (variables_past [] rows sum (zip (drop i ds) (drop k vs)))
  variables_step met sum ds i d vs k count {after = after} {n = n} {j = j} lt one n_is j_is noted =
      let x = counted_one (slice_get vs k) count one in
      let of = x.0 in
      let this = λ (m : ℕ). breach_unless (nat_le m MOST_SCALARS) 19 (get_or ds i d).name.pos in
      let rest = λ (m l : ℕ). variables_past [] rows m (zip (drop (i + 1) ds) (drop l vs)) in
      let m = sum + counted [] rows of in
      ap (λ f. first_after f (rest n j)) noted
      ∙ ap (λ l. first_after (first_after met (this n)) (rest n l)) j_is
      ∙ ap (λ m. first_after (first_after met (this m)) (rest m (k + 1))) (n_is ∙ ap (λ c. sum + c) (sym x.3))
      ∙ sym (after_more met (this m) (rest m (k + 1)))
      ∙ sym (ap (λ l. first_after met (variables_past [] rows sum (zip l (drop k vs)))) (drop-cons ds i d lt)
      ∙ ap (λ l. first_after met (variables_past [] rows sum (zip (get_or ds i d ∷ drop (suc i) ds) l))) (got_one vs k of x.1)
      ∙ ap (λ b. first_after met (if b then this m ++ variables_past [] rows m (zip (drop (suc i) ds) (drop (k + 1) vs)) else [])) x.2
      ∙ ap (λ l. first_after met (this m ++ variables_past [] rows m (zip (drop l ds) (drop (k + 1) vs)))) (sym (add-one i)))

-- what a function gives of the items before a place, and of one more
pub sum_step : {X : Type 0} (f : X → ℕ) (xs : List X) (k : ℕ) (x : X) → slice_get xs k ≡ Some x → sum_by f (take (k + 1) xs) ≡ sum_by f (take k xs) + f x
sum_step f xs k x one =
    sum_by_more f xs k x (slice_get_within xs k x one) ∙ ap (λ y. sum_by f (take k xs) + f y) (get_or_from_slice_get xs k x x one)

-- all items are before a place past the end
pub sum_end : {X : Type 0} (f : X → ℕ) (xs : List X) (k : ℕ) → slice_get xs k ≡ None → sum_by f (take k xs) ≡ sum_by f xs
sum_end {X = X} f xs k none = by (slice_get_cases xs k).1
  where
    by : ((x : X) × (k < length xs) × (slice_get xs k ≡ Some x) × (get_or xs k x ≡ x)) ⊎ ((length xs ≤ k) × (slice_get xs k ≡ None)) → sum_by f (take k xs) ≡ sum_by f xs
    by (inl h) = absurd (none-some h.0 (sym none ∙ h.2))
    by (inr h) = ap (λ l. sum_by f l) (take_all k xs h.0)

-- all that is judged of the types of a module
pub limits_noted : (e : Env) (first : ℕ) (ds : List Decl) (m0 : Option Breach) {flags flags' flags'' : List Bool} {rows : List TypeRow} {ws : List Written} {ps : List Procedure} {m1 m2 m3 m4 : Option Breach} →
    flags ≡ circles e.types → flags' ≡ circles e.types → flags'' ≡ circles e.types → rows ≡ cut (circles e.types) e.types → ws ≡ written e ds → ps ≡ all_procedures ds →
    m1 ≡ first_after m0 (types_from flags rows first ws) → m2 ≡ first_after m1 (results_from flags' rows ps e.here.signatures) →
    m3 ≡ first_after m2 (variables_past [] rows (sum_by (scalars_of [] rows) e.before) (zip (single_variables ds) (variables_of [] rows (slice_get e.here.scopes 0)))) →
    m4 ≡ first_after m3 (flat_map (asked_result flags'' rows) e.claims) → m4 ≡ first_after m0 (cut_off e first ds).breaches
limits_noted e first ds m0 {flags = flags} {flags' = flags'} {flags'' = flags''} {rows = rows} {ws = ws} {ps = ps} {m1 = m1} {m2 = m2} {m3 = m3} flags_are flags_are' flags_are'' rows_are ws_are ps_are n1 n2 n3 n4 =
    let marks = circles e.types in
    let rest = cut marks e.types in
    let over = λ (r : List TypeRow). variables_past [] r (sum_by (scalars_of [] r) e.before) (zip (single_variables ds) (variables_of [] r (slice_get e.here.scopes 0))) in
    let noted = after_three m0 (types_from marks rest first (written e ds)) (results_from marks rest (all_procedures ds) e.here.signatures) (over rest)
    (n1
    ∙ ap (λ f. first_after m0 (types_from f rows first ws)) flags_are
    ∙ ap (λ r. first_after m0 (types_from marks r first ws)) rows_are
    ∙ ap (λ w. first_after m0 (types_from marks rest first w)) ws_are)
    (n2
    ∙ ap (λ f. first_after m1 (results_from f rows ps e.here.signatures)) flags_are'
    ∙ ap (λ r. first_after m1 (results_from marks r ps e.here.signatures)) rows_are
    ∙ ap (λ qs. first_after m1 (results_from marks rest qs e.here.signatures)) ps_are)
    (n3 ∙ ap (λ r. first_after m2 (over r)) rows_are) in
    after_two m0 (types_from marks rest first (written e ds) ++ results_from marks rest (all_procedures ds) e.here.signatures ++ over rest)
    (flat_map (asked_result marks rest) e.claims) noted
    (n4 ∙ ap (λ f. first_after m3 (flat_map (asked_result f rows) e.claims)) flags_are'' ∙ ap (λ r. first_after m3 (flat_map (asked_result marks r) e.claims)) rows_are)
