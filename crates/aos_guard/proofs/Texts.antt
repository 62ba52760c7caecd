-- A test of all texts, one behind the other.
use Rattle.std.proofs.Common.{◌≡◌, ◌<◌, ◌≤◌, ◌+◌, ℕ, zero, suc, List, length, get_or, refl, ◌∙◌, sym, ap, subst, arith, inl, inr}
use Rattle.std.specs.Prelude.{◌↔◌, nat_lt, Bool, true, false, IsTrue, Option, Some, None, slice_get, option_map}
use Rattle.std.specs.declared.vec.Vec.{Vec}
use Rattle.std.specs.declared.alloc.Global.{Global}
use Rattle.std.proofs.lemmas.Bool.{ltb-true}
use Rattle.std.proofs.lemmas.Bool.Decides.{eqb_tells}
use Rattle.std.proofs.lemmas.List.{length-map}
use Rattle.std.proofs.lemmas.Option.{slice_get-map, slice_get_within, slice_get_read}
use Rattle.aos_typed.specs.Program.{Program}
use Rattle.aos_typed.specs.Routines.{Routine, routines}
use Rattle.aos_dispatch.specs.declared.routines.Routine.{Routine as CodeRoutine}
use Rattle.aos_dispatch.specs.Routines.{seen_routine, seen_routines}
use Rattle.aos_uses.specs.declared.uses.Use.{Use}
use Rattle.aos_uses.specs.Guarded.{Each, InEach}
use Rattle.aos_guard.specs.Edges.{AreTexts, InTexts}
use Rattle.aos_uses.specs.Uses.{routine_uses}

pub some_of : {A : Type 0} {x y : A} → Some x ≡ Some y → x ≡ y
some_of e = cc e

module _ (p : Program) where
  -- the text of a routine is what it uses
  pub text_is : (texts : List (Vec Use Global)) (i : ℕ) (us : Vec Use Global) (r : Routine) → AreTexts p texts → slice_get texts i ≡ Some us → slice_get (routines p) i ≡ Some r → us.items ≡ routine_uses p r
  text_is texts i us r are at there =
      some_of (sym (ap (option_map (λ (v : Vec Use Global). v.items)) at) ∙ sym (slice_get-map (λ (v : Vec Use Global). v.items) texts i) ∙ ap (λ l. slice_get l i) are ∙ slice_get-map (routine_uses p) (routines p) i ∙ ap (option_map (routine_uses p)) there)

  -- each text is a routine's
  of_map : (us : List Use) (o : Option Routine) → Some us ≡ option_map (routine_uses p) o → (r : Routine) × ((o ≡ Some r) × (us ≡ routine_uses p r))
  of_map us None e = absurd (cc e)
  of_map us (Some r) e = (r, (refl, some_of e))

  routine_at : (texts : List (Vec Use Global)) (i : ℕ) (us : Vec Use Global) → AreTexts p texts → slice_get texts i ≡ Some us → (r : Routine) × ((slice_get (routines p) i ≡ Some r) × (us.items ≡ routine_uses p r))
  routine_at texts i us are at =
      of_map us.items (slice_get (routines p) i)
      (sym (ap (option_map (λ (v : Vec Use Global). v.items)) at) ∙ sym (slice_get-map (λ (v : Vec Use Global). v.items) texts i) ∙ ap (λ l. slice_get l i) are ∙ slice_get-map (routine_uses p) (routines p) i)

  -- and each routine has one
  of_vec : (us : List Use) (o : Option (Vec Use Global)) → option_map (λ v. v.items) o ≡ Some us → (v : Vec Use Global) × ((o ≡ Some v) × (v.items ≡ us))
  of_vec us None e = absurd (cc e)
  of_vec us (Some v) e = (v, (refl, some_of e))

  text_at : (texts : List (Vec Use Global)) (i : ℕ) (r : Routine) → AreTexts p texts → slice_get (routines p) i ≡ Some r → (v : Vec Use Global) × ((slice_get texts i ≡ Some v) × (v.items ≡ routine_uses p r))
  text_at texts i r are there =
      of_vec (routine_uses p r) (slice_get texts i)
      (sym (slice_get-map (λ (v : Vec Use Global). v.items) texts i) ∙ ap (λ l. slice_get l i) are ∙ slice_get-map (routine_uses p) (routines p) i ∙ ap (option_map (routine_uses p)) there)

  module _ (R : ℕ → Use → Type 0) (texts : List (Vec Use Global)) (are : AreTexts p texts) where
    pub in_texts : InEach p (λ n r. R n) → InTexts R texts
    in_texts h i us at = let x = routine_at texts i us are at in subst (Each (R (suc i))) (sym x.1.1) (h (suc i) x.0 x.1.0)

    pub in_each : InTexts R texts → InEach p (λ n r. R n)
    in_each h zero r e = absurd (cc e)
    in_each h (suc i) r e = let x = text_at texts i r are e in subst (Each (R (suc i))) x.1.1 (h i x.0 x.1.0)

  module _ (R : ℕ → Routine → Use → Type 0) where
    -- those from a number on
    abbrev Rest : ℕ → Type 0
    Rest k = (i : ℕ) (r : Routine) → k ≤ i → slice_get (routines p) i ≡ Some r → Each (R (suc i) r) (routine_uses p r)

    -- what is left decides
    abbrev pub RestDecides : ℕ → Type 0
    RestDecides k = InEach p R ↔ Rest k

    pub rest_first : RestDecides 0
    rest_first = (λ h i r le e. h (suc i) r e, all)
      where
        all : Rest 0 → InEach p R
        all h zero r e = absurd (cc e)
        all h (suc i) r e = h i r (omega arith) e

    put : (k : ℕ) (r : Routine) → slice_get (routines p) k ≡ Some r → Each (R (suc k) r) (routine_uses p r) → Rest (k + 1) → Rest k
    put k r at now rest i s le e =
        elim (eqb_tells i k) [
          | inl h ↦ (let same : r ≡ s = some_of (sym at ∙ ap (slice_get (routines p)) (sym h.1) ∙ e) in
              subst (λ n. Each (R (suc n) s) (routine_uses p s)) (sym h.1) (subst (λ x. Each (R (suc k) x) (routine_uses p x)) same now))
          | inr h ↦ rest i s (let ne = h.1 in omega (arith, le, ne)) e
        ]

    -- with the code's routine and text of number k, and the answer to them under the next number
    module _ (rs : List CodeRoutine) (texts : List (Vec Use Global)) (are : seen_routines rs ≡ routines p) (all : AreTexts p texts) (k n : ℕ) (r : CodeRoutine) (us : Vec Use Global) (b : Bool) (lt : k < length rs) (is : r ≡ get_or rs k r) (within : true ≡ nat_lt k (length texts)) (text : us ≡ get_or texts k us) (next : n ≡ suc k) (says : IsTrue b ↔ Each (R n (seen_routine r)) us.items) where
      there : slice_get (routines p) k ≡ Some (seen_routine r)
      there = ap (λ l. slice_get l k) (sym are) ∙ slice_get-map seen_routine rs k ∙ ap (option_map seen_routine) (slice_get_read rs (length rs) k r refl lt is)

      told : IsTrue b ↔ Each (R (suc k) (seen_routine r)) (routine_uses p (seen_routine r))
      told =
          let at : slice_get texts k ≡ Some us = slice_get_read texts (length texts) k us refl (ltb-true k (length texts) (sym within)) text in
          subst (λ l. IsTrue b ↔ Each (R (suc k) (seen_routine r)) l) (text_is texts k us (seen_routine r) all at there)
          (subst (λ m. IsTrue b ↔ Each (R m (seen_routine r)) us.items) next says)

      pub rest_more : b ≡ true → RestDecides k → RestDecides (k + 1)
      rest_more holds d =
          (λ h i s le e. d.0 h i s (omega (arith, le)) e, λ rest. d.1 (put k (seen_routine r) there (told.0 holds) rest))

      pub rest_no : b ≡ false → RestDecides k → IsTrue false ↔ InEach p R
      rest_no fails d = (
        λ e. absurd (cc e),
        λ h. absurd (let e : false ≡ true = sym fails ∙ told.1 (d.0 h k (seen_routine r) (omega arith) there) in cc e),
      )

    pub rest_yes : (rs : List CodeRoutine) (k : ℕ) → seen_routines rs ≡ routines p → length rs ≤ k → RestDecides k → IsTrue true ↔ InEach p R
    rest_yes rs k are end d = (λ e. d.1 ended, λ h. refl)
      where
        ended : Rest k
        ended i r le at =
            let many : length (routines p) ≡ length rs = ap length (sym are) ∙ length-map rs seen_routine in
            absurd (let lt = slice_get_within (routines p) i r at in omega (arith, lt, le, end, many))

-- the texts before a number
module _ (R : ℕ → Use → Type 0) (texts : List (Vec Use Global)) where
  abbrev pub Before : ℕ → Type 0
  Before i = (j : ℕ) (us : Vec Use Global) → j < i → slice_get texts j ≡ Some us → Each (R (suc j)) us.items

  module _ (i : ℕ) (us : Vec Use Global) (at : slice_get texts i ≡ Some us) where
    pub before_less : Before (i + 1) → Before i × Each (R (suc i)) us.items
    before_less h = (λ j vs lt e. h j vs (omega (arith, lt)) e, h i us (omega arith) at)

    pub before_more : Before i → Each (R (suc i)) us.items → Before (i + 1)
    before_more h now j vs lt e =
        elim (eqb_tells j i) [
          | inl k ↦ (let same : us ≡ vs = some_of (sym at ∙ ap (slice_get texts) (sym k.1) ∙ e) in
              subst (λ n. Each (R (suc n)) vs.items) (sym k.1) (subst (λ v. Each (R (suc i)) v.items) same now))
          | inr k ↦ h j vs (let ne = k.1 in omega (arith, lt, ne)) e
        ]

  pub before_none : Before 0
  before_none j us lt e = absurd (omega (arith, lt))

  pub before_all : (i : ℕ) → length texts ≤ i → Before i → InTexts R texts
  before_all i le h j us e = h j us (let lt = slice_get_within texts j us e in omega (arith, lt, le)) e

  pub before_some : (i : ℕ) → InTexts R texts → Before i
  before_some i h j us lt e = h j us e
