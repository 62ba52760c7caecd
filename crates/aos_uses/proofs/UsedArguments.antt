-- What is handed over, one argument behind the other, and the parameters of what is called.
use Rattle.std.proofs.Common.{◌≡◌, ◌<◌, ◌≤◌, ◌+◌, ℕ, suc, List, ◌∷◌, ◌++◌, length, drop, get_or, sym, ap, ◌∙◌, arith}
use Rattle.std.proofs.lemmas.List.{drop_more}
use Rattle.std.proofs.lemmas.Option.{slice_get-map}
use Rattle.std.specs.Prelude.{Bool, false, Option, Some, None, slice_get, option_map, option_and_then, ◌-◌}
use Rattle.std.specs.Option.{unwrap_or}
use Rattle.aos_typed.specs.Routines.{Routine, parameters_of, routines}
use Rattle.aos_dispatch.specs.declared.routines.Routine.{Routine as CodeRoutine}
use Rattle.aos_dispatch.specs.Routines.{seen_routine, seen_routines}
use Rattle.aos_typed.specs.declared.tree.TArgument.{TArgument}
use Rattle.aos_typed.specs.Program.{Arguments, Program}
use Rattle.aos_typed.specs.Seen.{seen_argument, seen_list}
use Rattle.aos_uses.specs.declared.uses.Use.{Use}
use Rattle.aos_uses.specs.Uses.{arguments_uses, is_variable}

module _ (p : Program) (n : ℕ) (as' : List TArgument) (i : ℕ) where
  pub arguments_next : (a : TArgument) (old new all : List Use) → i < length as' → a ≡ get_or as' i a → ((more : Arguments) → new ++ arguments_uses p n (suc i) more ≡ old ++ arguments_uses p n i (seen_argument a more)) → old ++ arguments_uses p n i (seen_list (drop i as')) ≡ all → new ++ arguments_uses p n (i + 1) (seen_list (drop (i + 1) as')) ≡ all
  arguments_next a old new all lt is step h =
      let one : i + 1 ≡ suc i = omega arith in
      let next = drop_more as' i a lt ∙ ap (λ x. x ∷ drop (i + 1) as') (sym is) in
      ap (λ j. new ++ arguments_uses p n j (seen_list (drop (i + 1) as'))) one
      ∙ step (seen_list (drop (i + 1) as'))
      ∙ ap (λ l. old ++ arguments_uses p n i (seen_list l)) (sym next)
      ∙ h

-- The parameters of what runs under a number are those of the routine there.

module _ (p : Program) (rs : List CodeRoutine) (are : seen_routines rs ≡ routines p) (n i : ℕ) where
  abbrev of_own : Option Routine → Bool
  of_own o = unwrap_or (option_map (λ a. a.by_reference) (slice_get (parameters_of (option_and_then (λ r. r.own) o)) i)) false

  numbered : (k : ℕ) → n ≡ suc k → is_variable p n i ≡ of_own (option_map seen_routine (slice_get rs k))
  numbered k e = ap (λ m. is_variable p m i) e ∙ ap (λ l. of_own (slice_get l k)) (sym are) ∙ ap of_own (slice_get-map seen_routine rs k)

  pub reference_there : (r : CodeRoutine) (b : Bool) → 1 ≤ n → slice_get rs (n - 1) ≡ Some r → b ≡ unwrap_or (option_map (λ a. a.by_reference) (slice_get (parameters_of (seen_routine r).own) i)) false → b ≡ is_variable p n i
  reference_there r b some at is =
      let e : n ≡ suc (n - 1) = omega (arith, some) in
      is ∙ sym (numbered (n - 1) e ∙ ap (λ o. of_own (option_map seen_routine o)) at)

  pub reference_none : 1 ≤ n → slice_get rs (n - 1) ≡ None → false ≡ is_variable p n i
  reference_none some at =
      let e : n ≡ suc (n - 1) = omega (arith, some) in
      sym (numbered (n - 1) e ∙ ap (λ o. of_own (option_map seen_routine o)) at)
