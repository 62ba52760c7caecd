-- A chain of types goes on with the base of the last one, where that has a base.
use Rattle.std.proofs.Common.{◌≡◌, ◌<◌, ◌≤◌, ℕ, zero, suc, ◌+◌, ◌-◌, List, [], ◌∷◌, ◌++◌, length, get_or, drop, drop-cons, Bool, true, false, if◌then◌else◌, Option, Some, None, refl, ap, sym, ◌∙◌, arith, append_assoc}
use Rattle.std.specs.Option.{option_or}
use Rattle.aos_types.specs.declared.row.TypeId.{TypeId}
use Rattle.aos_types.specs.declared.row.TypeRow.{TypeRow}
use Rattle.aos_types.specs.Table.{row_of, base_of}
use Rattle.aos_members.specs.declared.objects.SoFar.{SoFar}
use Rattle.aos_members.specs.declared.objects.Method.{Method}
use Rattle.aos_members.specs.Members.{chain, chain_by, chain_behind, first_along, own_method, own_methods, method_along, methods_along, IsSoFar}
use Rattle.aos_symbols.specs.Scope.{with_names}
use Rattle.aos_symbols.specs.declared.env.Env.{Env}

module _ (rows : List TypeRow) (t : TypeId) where
  pub chain_base : (n : ℕ) (b : TypeId) → base_of (row_of rows t) ≡ Some b → 0 < n → chain_by n rows t ≡ t ∷ chain_by (n - 1) rows b
  chain_base zero b is some = absurd (omega arith)
  chain_base (suc n) b is some =
      let less : suc n - 1 ≡ n = omega arith in
      ap (λ o. t ∷ chain_behind (λ u. chain_by n rows u) o) is ∙ ap (λ m. t ∷ chain_by m rows b) (sym less)

  pub chain_none : (n : ℕ) → base_of (row_of rows t) ≡ None → chain_by n rows t ≡ t ∷ []
  chain_none zero is = refl
  chain_none (suc n) is = ap (λ o. t ∷ chain_behind (λ u. chain_by n rows u) o) is

  pub chain_end : (n : ℕ) → n ≤ 0 → chain_by n rows t ≡ t ∷ []
  chain_end zero over = refl
  chain_end (suc n) over = absurd (omega arith)

  -- the chain behind those that are met
  pub chain_step : (met whole : List TypeId) (n : ℕ) (b : TypeId) → base_of (row_of rows t) ≡ Some b → 0 < n →
      met ++ chain_by n rows t ≡ whole → (met ++ t ∷ []) ++ chain_by (n - 1) rows b ≡ whole
  chain_step met whole n b is some all =
      append_assoc met (t ∷ []) (chain_by (n - 1) rows b) ∙ ap (λ z. met ++ z) (sym (chain_base n b is some)) ∙ all

  -- A chain that comes to an end within so many types is the same within one more.
  settled : (n : ℕ) (u : TypeId) → length (chain_by (suc n) rows u) ≤ n → chain_by n rows u ≡ chain_by (suc n) rows u
  settled zero u short = absurd (omega (arith, short))
  settled (suc n) u short = by (base_of (row_of rows u)) (settled n) short
    where
      by : (o : Option TypeId) → ((b : TypeId) → length (chain_by (suc n) rows b) ≤ n → chain_by n rows b ≡ chain_by (suc n) rows b) →
          length (u ∷ chain_behind (λ b. chain_by (suc n) rows b) o) ≤ suc n →
          u ∷ chain_behind (λ b. chain_by n rows b) o ≡ u ∷ chain_behind (λ b. chain_by (suc n) rows b) o
      by None same short = refl
      by (Some b) same short = ap (λ l. u ∷ l) (same b (omega (arith, short)))

  chain_next : (n : ℕ) (b : TypeId) → base_of (row_of rows t) ≡ Some b → length (chain_by n rows b) < n → chain_by n rows t ≡ t ∷ chain_by n rows b
  chain_next zero b is short = absurd (omega (arith, short))
  chain_next (suc n) b is short =
      ap (λ o. t ∷ chain_behind (λ u. chain_by n rows u) o) is ∙ ap (λ l. t ∷ l) (settled n b (omega (arith, short)))

-- the first type of a chain for which something is so
module _ (rows : List TypeRow) (test : TypeId → Bool) (t : TypeId) where
  pub first_here : (n : ℕ) (all : Option TypeId) → test t ≡ true → first_along test (chain_by n rows t) ≡ all → Some t ≡ all
  first_here zero all is before = sym (ap (λ b. if b then Some t else None) is) ∙ before
  first_here (suc n) all is before =
      sym (ap (λ b. if b then Some t else first_along test (chain_behind (λ u. chain_by n rows u) (base_of (row_of rows t)))) is) ∙ before

  pub first_base : (n : ℕ) (b : TypeId) (all : Option TypeId) → test t ≡ false → base_of (row_of rows t) ≡ Some b → 0 < n →
      first_along test (chain_by n rows t) ≡ all → first_along test (chain_by (n - 1) rows b) ≡ all
  first_base n b all isnt is some before =
      sym (ap (first_along test) (chain_base rows t n b is some) ∙ ap (λ c. if c then Some t else first_along test (chain_by (n - 1) rows b)) isnt) ∙ before

  pub first_none : (n : ℕ) (all : Option TypeId) → test t ≡ false → base_of (row_of rows t) ≡ None → first_along test (chain_by n rows t) ≡ all → None ≡ all
  first_none n all isnt is before =
      sym (ap (first_along test) (chain_none rows t n is) ∙ ap (λ c. if c then Some t else None) isnt) ∙ before

  pub first_end : (n : ℕ) (all : Option TypeId) → test t ≡ false → n ≤ 0 → first_along test (chain_by n rows t) ≡ all → None ≡ all
  first_end n all isnt over before =
      sym (ap (first_along test) (chain_end rows t n over) ∙ ap (λ c. if c then Some t else None) isnt) ∙ before

-- the methods of one type more
pub methods_step : (e : Env) (ts : List TypeId) (i : ℕ) (d : TypeId) → 0 < i → i ≤ length ts →
    methods_along e (drop (i - 1) ts) ≡ with_names (methods_along e (drop i ts)) (own_methods e (get_or ts (i - 1) d))
methods_step e ts i d some within =
    let more : suc (i - 1) ≡ i = omega arith in
    ap (λ l. methods_along e l) (drop-cons ts (i - 1) d (omega arith))
    ∙ ap (λ j. with_names (methods_along e (drop j ts)) (own_methods e (get_or ts (i - 1) d))) more

-- the methods of a type, behind those of its base
pub next_so_far : (e : Env) (s n : SoFar) (t : TypeId) → IsSoFar e s → base_of (row_of e.types t) ≡ Some s.of → s.count < length e.types →
    n.of ≡ t → n.count ≡ s.count + 1 → n.all ≡ with_names s.all (own_methods e t) → IsSoFar e n
next_so_far e s n t is base ends of count all =
    let next : chain e.types t ≡ t ∷ chain e.types s.of = chain_next e.types t (length e.types) s.of base (omega (arith, ends, is.count)) in
    let long : length (chain e.types t) ≡ suc (length (chain e.types s.of)) = ap length next in
    let same : chain e.types n.of ≡ chain e.types t = ap (λ u. chain e.types u) of in
    record {
      count = omega (arith, count, is.count, long, ap length same);
      all = all ∙ ap (λ a. with_names a (own_methods e t)) is.all ∙ sym (ap (λ l. methods_along e l) (same ∙ next));
    }

-- the method that the first type of a chain itself declares
pub found_here : (e : Env) (w : List ℕ) (t : TypeId) (n : ℕ) (m : Method) (all : Option Method) → own_method e t w ≡ Some m →
    method_along e w (chain_by n e.types t) ≡ all → Some m ≡ all
found_here e w t zero m all is before = sym (ap (λ o. option_or o None) is) ∙ before
found_here e w t (suc n) m all is before =
    sym (ap (λ o. option_or o (method_along e w (chain_behind (λ u. chain_by n e.types u) (base_of (row_of e.types t))))) is) ∙ before
