-- Each condition of a well-typed program is one of a routine, and well typed there.
use Rattle.std.proofs.Common.{◌≡◌, ◌⊎◌, inl, inr, ℕ, zero, suc, List, [], ◌∷◌, ◌++◌, Option, Some, refl, sym, ap, ◌∙◌, subst}
use Rattle.std.specs.Prelude.{All, slice_get, flat_map}
use Rattle.std.proofs.lemmas.List.Concat.{flat_map-cons}
use Rattle.std.proofs.lemmas.List.Elements.{All-nil, All-cons, All-append}
use Rattle.aos_typed.specs.declared.tree.TType.TheVariants as type
use Rattle.aos_typed.specs.Program.{Stat, If, Case, While, Repeat, Loop, For, Block, Await, With, WithRecord, Stats, Nothing, Then, Arms, Otherwise, Arm, Cases, NoElse, Else, OfLabels, Procedure, Program}
use Rattle.aos_typed.specs.Routines.{Routine, routines}
use Rattle.aos_typed.specs.Conditions.{Awaited, awaited, awaited_in, awaited_in_arms, awaited_in_cases, Condition, condition_in, conditions_of, conditions, HasNoCalls}
use Rattle.aos_typed.specs.WellTyped.{IsOf, IsStatement, AreStatements, AreArms, AreCases, IsWellTyped}
use Rattle.aos_sim.proofs.Lists.{all_get}
use Rattle.aos_sim.proofs.Bodies.{routines_typed}
use Rattle.aos_code_soundness.proofs.Numbers.{mapped_at}

module _ (p : Program) (own : Option Procedure) where
  abbrev IsFine : Awaited → Type 0
  IsFine a = IsOf p own a.expression type.Boolean × HasNoCalls a.expression

  mutual
    stat_fine : (s : Stat) → IsStatement p own s → All IsFine (awaited s)
    stat_fine (If at arms) h = arms_fine arms h
    stat_fine (Case at e cases) h = cases_fine cases h.2
    stat_fine (While at e body) h = stats_fine body h.1
    stat_fine (Repeat at body e) h = stats_fine body h.0
    stat_fine (Loop at body) h = stats_fine body h
    stat_fine (For at w q from to step body) h = stats_fine body h.5
    stat_fine (Block at exclusive body) h = stats_fine body h
    stat_fine (With at e body) h = stats_fine body h.1
    stat_fine (WithRecord at q body) h = stats_fine body h.1
    stat_fine (Await at n e) h = All-cons IsFine (record { at = at; expression = e }) [] h (All-nil IsFine)
    stat_fine s h = All-nil IsFine

    stats_fine : (ss : Stats) → AreStatements p own ss → All IsFine (awaited_in ss)
    stats_fine Nothing h = All-nil IsFine
    stats_fine (Then s ss) h = All-append IsFine (awaited s) (awaited_in ss) (stat_fine s h.0) (stats_fine ss h.1)

    arms_fine : (arms : Arms) → AreArms p own arms → All IsFine (awaited_in_arms arms)
    arms_fine (Otherwise ss) h = stats_fine ss h
    arms_fine (Arm e ss arms) h = All-append IsFine (awaited_in ss) (awaited_in_arms arms) (stats_fine ss h.1) (arms_fine arms h.2)

    cases_fine : (cases : Cases) → AreCases p own cases → All IsFine (awaited_in_cases cases)
    cases_fine NoElse h = All-nil IsFine
    cases_fine (Else ss) h = stats_fine ss h
    cases_fine (OfLabels rs ss cases) h = All-append IsFine (awaited_in ss) (awaited_in_cases cases) (stats_fine ss h.1) (cases_fine cases h.2)

-- an element of two lists, one behind the other, is one of them
in_one : {A : Type 0} (xs ys : List A) (k : ℕ) (x : A) → slice_get (xs ++ ys) k ≡ Some x → ((j : ℕ) × (slice_get xs j ≡ Some x)) ⊎ ((j : ℕ) × (slice_get ys j ≡ Some x))
in_one [] ys k x e = inr (k, e)
in_one (y ∷ xs) ys zero x e = inl (0, e)
in_one (y ∷ xs) ys (suc k) x e = by (in_one xs ys k x e)
  where
    by : ((j : ℕ) × (slice_get xs j ≡ Some x)) ⊎ ((j : ℕ) × (slice_get ys j ≡ Some x)) → ((j : ℕ) × (slice_get (y ∷ xs) j ≡ Some x)) ⊎ ((j : ℕ) × (slice_get ys j ≡ Some x))
    by (inl h) = inl (suc h.0, h.1)
    by (inr h) = inr h

-- one of the routines has this condition
record Has (rs : List Routine) (c : Condition) : Type 0 where
  number : ℕ
  routine : Routine
  there : slice_get rs number ≡ Some routine
  place : ℕ
  is : slice_get (conditions_of routine) place ≡ Some c

had_by : (rs : List Routine) (k : ℕ) (c : Condition) → slice_get (flat_map conditions_of rs) k ≡ Some c → Has rs c
had_by [] k c e = absurd (cc e)
had_by (r ∷ rs) k c e = by (in_one (conditions_of r) (flat_map conditions_of rs) k c (ap (λ l. slice_get l k) (sym (flat_map-cons conditions_of r rs)) ∙ e)) (λ j. had_by rs j c)
  where
    by : ((j : ℕ) × (slice_get (conditions_of r) j ≡ Some c)) ⊎ ((j : ℕ) × (slice_get (flat_map conditions_of rs) j ≡ Some c)) → ((j : ℕ) → slice_get (flat_map conditions_of rs) j ≡ Some c → Has rs c) → Has (r ∷ rs) c
    by (inl h) later = record { number = 0; routine = r; there = refl; place = h.0; is = h.1 }
    by (inr h) later = let x = later h.0 h.1 in record { number = suc x.number; routine = x.routine; there = x.there; place = x.place; is = x.is }

-- a condition's routine, which is the procedure over whose frame it is evaluated, and its type there
pub record IsOne (p : Program) (c : Condition) : Type 0 where
  pub number : ℕ
  pub routine : Routine
  pub there : slice_get (routines p) number ≡ Some routine
  pub own : c.own ≡ routine.own
  pub home : c.home ≡ routine.home
  pub typed : IsOf p routine.own c.expression type.Boolean
  pub plain : HasNoCalls c.expression

pub is_one : (p : Program) → IsWellTyped p → (k : ℕ) (c : Condition) → slice_get (conditions p) k ≡ Some c → IsOne p c
is_one p well k c e =
    let h = had_by (routines p) k c e in
    let r = h.routine in
    let a = mapped_at (condition_in r.home r.own) (awaited_in r.body.statements) h.place c h.is in
    let ok = all_get (λ (r : Routine). AreStatements p r.own r.body.statements) (routines p) h.number r (routines_typed p well) h.there in
    let fine = all_get (IsFine p r.own) (awaited_in r.body.statements) h.place a.0 (stats_fine p r.own r.body.statements ok) a.1 in
    record {
      number = h.number;
      routine = r;
      there = h.there;
      own = sym (ap (λ (x : Condition). x.own) a.2);
      home = sym (ap (λ (x : Condition). x.home) a.2);
      typed = subst (λ x. IsOf p r.own x type.Boolean) (ap (λ (x : Condition). x.expression) a.2) fine.0;
      plain = subst HasNoCalls (ap (λ (x : Condition). x.expression) a.2) fine.1;
    }
