-- What a search knows where it begins, and that where it ends all paths are sound.
use Rattle.std.proofs.Common.{◌≡◌, ◌≤◌, inl, inr, ℕ, ◌-◌, ◌<◌, List, [], ◌∷◌, ◌++◌, Option, Some, None, length, set, take, replicate, refl, sym, ap, ◌∙◌, subst, arith}
use Rattle.std.specs.Prelude.{Contains}
use Rattle.std.proofs.lemmas.Bool.{cases_eq}
use Rattle.std.proofs.lemmas.List.{take_all, get_or-set_same, get_or-set_other, get_or-replicate, length-set, length-replicate}
use Rattle.std.proofs.lemmas.Option.{slice_get_within}
use Rattle.aos_code.specs.declared.instr.Instr.{Instr}
use Rattle.aos_code.specs.declared.image.Image.{Image}
use Rattle.aos_sound.specs.Sound.{Kinds, Leads, next_of, after, Comes, Begins, Goes, ArePathsSound}
use Rattle.aos_sound.specs.Stacks.{stack_at}
use Rattle.aos_sound.specs.Search.{Table, at_place, Known, Passed, Explored}
use Rattle.aos_sound.proofs.Searches.{contains_none, contains_one, entry_within}

-- nothing is left to go on from
module _ {image : Image} {own : ℕ} {code : List Instr} {depth : ℕ} {stacks : List Kinds} {table : Table} (e : Explored image own code depth stacks table []) where
  -- the search has gone on from each place that is known
  passed_at : (at : ℕ) (s : Kinds) → Known stacks table at s → Passed image own code depth stacks table at s
  passed_at at s k = elim (e.passed at s k) [ inl c ↦ absurd (contains_none at c) | inr p ↦ p ]

  -- each path comes with what is known
  as_known : (at : ℕ) (s : Kinds) → Comes image own code at s → Known stacks table at s
  as_known at s Begins = e.begins
  as_known at s (Goes {at = from} {s = t} c i stands left finds to leads) =
      let p = passed_at from t (as_known from t c) in
      let j : Some i ≡ Some p.instr = sym stands ∙ p.stands in
      let k : i ≡ p.instr = cc in
      let z : Some p.left ≡ Some left = sym p.finds ∙ ap (λ x. after image own x t) (sym k) ∙ finds in
      let y : p.left ≡ left = cc in
      subst (λ u. Known stacks table to u) y (p.on to (subst (λ x. Leads (next_of x) from to) k leads))

  -- all paths are sound
  pub all_explored : ArePathsSound image own code depth
  all_explored =
      record {
        find = λ at s c. (let p = passed_at at s (as_known at s c) in record { instr = p.instr; stands = p.stands; left = p.left; finds = p.finds });
        few = λ at s c. (passed_at at s (as_known at s c)).few;
        same = λ at s t c d.
            let k = as_known at s c in
            let l = as_known at t d in
            let z : Some k.0 ≡ Some l.0 = sym k.1 ∙ l.1 in
            let y : k.0 ≡ l.0 = cc in
            sym k.3 ∙ ap (λ id. stack_at stacks id) y ∙ l.3;
      }

module _ (image : Image) (own : ℕ) (code : List Instr) (depth : ℕ) where
  -- code without an instruction isn't sound
  pub empty_unsound : length code ≤ 0 → ArePathsSound image own code depth → ⊥
  empty_unsound le sound = let f = sound.find 0 [] Begins in let lt = slice_get_within code 0 f.instr f.stands in absurd (omega arith)

  -- the search begins at the beginning, where nothing else is known
  pub first_known : 0 < length code → (table : Table) → table ≡ set (replicate (length code) None) 0 (Some 0) → Explored image own code depth ([] ∷ []) table ([] ++ 0 ∷ [])
  first_known pos table t =
      let first : at_place table 0 ≡ Some 0 = ap (λ x. at_place x 0) t ∙ get_or-set_same (replicate (length code) None) 0 (Some 0) None (let l = length-replicate {A = Option ℕ} (length code) None in omega (arith, l, pos)) in
      let long : length table ≡ length code = ap length t ∙ length-set (replicate (length code) None) 0 (Some 0) ∙ length-replicate {A = Option ℕ} (length code) None in
      let only : (at id : ℕ) → at_place table at ≡ Some id → (at ≡ 0) × (id ≡ 0) = λ at id is. elim (cases_eq at 0) [
        | inl h ↦ (let z : Some 0 ≡ Some id = sym first ∙ ap (λ q. at_place table q) (sym h) ∙ is in (let y : 0 ≡ id = cc in (h, sym y)))
        | inr h ↦
            let lt = entry_within table at id is in
            let z : None ≡ Some id = sym (get_or-replicate (length code) at None None (omega (arith, lt, long))) ∙ sym (get_or-set_other (replicate (length code) None) 0 at (Some 0) None h) ∙ ap (λ x. at_place x at) (sym t) ∙ is in
            absurd (cc z)
      ] in
      record {
        long = long;
        numbers = λ at id is. (let o = only at id is in omega (arith, o));
        begins = (0, first, omega arith, refl);
        comes = λ at s k. (let o = only at k.0 k.1 in (let e : [] ≡ s = ap (λ q. stack_at ([] ∷ []) q) (sym o.1) ∙ k.3 in subst (λ q. Comes image own code q s) (sym o.0) (subst (λ u. Comes image own code 0 u) e Begins)));
        passed = λ at s k. (let o = only at k.0 k.1 in inl (subst (λ q. Contains (0 ∷ []) q) (sym o.0) (0, omega arith, refl)));
        known = λ at c. (let z = contains_one 0 at c in (0, ap (λ q. at_place table q) z ∙ first));
      }

-- a list without items
pub nothing_left : (xs : List ℕ) (n : ℕ) → n ≡ length xs → n ≡ 0 → xs ≡ []
nothing_left [] n l z = refl
nothing_left (x ∷ xs) n l z = absurd (omega arith)

-- a list of one length and one item, as code makes it
pub filled : (n m : ℕ) (xs items : List (Option ℕ)) → items ≡ take n xs ++ replicate (n - m) None → xs ≡ [] → m ≡ 0 → items ≡ replicate n None
filled n m xs items e f z =
    let y : n - m ≡ n = omega arith in
    e ∙ ap (λ ys. take n ys ++ replicate (n - m) None) f ∙ ap (λ ys. ys ++ replicate (n - m) None) (take_all n [] (omega arith)) ∙ ap (λ k. replicate k None) y
