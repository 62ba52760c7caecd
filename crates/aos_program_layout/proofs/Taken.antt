-- What calls take, from the last operand to the first, and that the types of it are there.
use Rattle.std.proofs.Common.{◌≡◌, ◌<◌, ◌≤◌, ℕ, zero, suc, ◌+◌, ◌-◌, List, [], ◌∷◌, ◌++◌, length, drop, get_or, All, Option, Some, None, refl, sym, ap, ◌∙◌, arith, append-nil, append_assoc, subst}
use Rattle.std.specs.Prelude.{replicate, reverse, slice_get, option_map, option_and_then}
use Rattle.std.proofs.lemmas.Option.{slice_get-map, slice_get_within, get_or_from_slice_get}
use Rattle.aos_types.specs.declared.row.TypeRow.{TypeRow}
use Rattle.std.proofs.lemmas.List.{reverse-append, drop_more}
use Rattle.aos_code.specs.declared.image.ParamKind.{ParamKind}
use Rattle.aos_code.specs.declared.image.ParamKind.TheVariants as param
use Rattle.aos_code.specs.declared.instr.Kind.{Kind}
use Rattle.aos_code.specs.declared.instr.Kind.TheVariants.{N, A}
use Rattle.aos_code.specs.Silent.{kinds_of}
use Rattle.aos_typed.specs.Program.{Procedure, Program}
use Rattle.aos_typed.specs.Routines.{Routine, parameters_of, routines}
use Rattle.aos_typed.specs.WellTyped.{IsWellTyped}
use Rattle.aos_layout.specs.Frame.{IsThere}
use Rattle.aos_dispatch.specs.declared.routines.Routine.{Routine as CodeRoutine}
use Rattle.aos_dispatch.specs.Routines.{IsTypedBy, seen_routine, seen_routines}
use Rattle.aos_dispatch.proofs.Listed.{routines_typed}
use Rattle.aos_program_layout.specs.Parameters.{AreHandedThere, handed_by}

-- one number more
pub numbers_more : (n i : ℕ) (kinds : List Kind) → i < n → (kinds ++ N ∷ []) ++ replicate (n - (i + 1)) N ≡ kinds ++ replicate (n - i) N
numbers_more n i kinds lt =
    let e : suc (n - (i + 1)) ≡ n - i = omega (arith, lt) in
    append_assoc kinds (N ∷ []) (replicate (n - (i + 1)) N) ∙ ap (λ m. kinds ++ replicate m N) e

numbers_last : (d : ℕ) → replicate d N ++ N ∷ [] ≡ N ∷ replicate d N
numbers_last zero = refl
numbers_last (suc d) = ap (λ l. N ∷ l) (numbers_last d)

numbers_turned : (d : ℕ) → reverse (replicate d N) ≡ replicate d N
numbers_turned zero = refl
numbers_turned (suc d) = reverse-append (N ∷ []) (replicate d N) ∙ ap (λ l. l ++ N ∷ []) (numbers_turned d) ∙ numbers_last d

-- the place of an open array lies below the lengths of its dimensions
pub opened_taken : (d : ℕ) → replicate d N ++ A ∷ [] ≡ reverse (A ∷ (replicate d N ++ []))
opened_taken d =
    sym (ap (λ l. reverse (A ∷ l)) (append-nil (replicate d N))
    ∙ reverse-append (A ∷ []) (replicate d N)
    ∙ ap (λ l. l ++ A ∷ []) (numbers_turned d))

-- what is handed over for the first of some parameters lies below what is for the others
open_below : (d : ℕ) (ks : List ParamKind) → reverse (A ∷ (replicate d N ++ kinds_of ks)) ≡ reverse (kinds_of ks) ++ reverse (A ∷ (replicate d N ++ []))
open_below d ks =
    reverse-append (A ∷ replicate d N) (kinds_of ks) ∙ ap (λ l. reverse (kinds_of ks) ++ reverse (A ∷ l)) (sym (append-nil (replicate d N)))

first_below : (k : ParamKind) (ks : List ParamKind) → reverse (kinds_of (k ∷ ks)) ≡ reverse (kinds_of ks) ++ reverse (kinds_of (k ∷ []))
first_below (param.Scalar k) ks = reverse-append (k ∷ []) (kinds_of ks)
first_below (param.Whole n) ks = reverse-append (kinds_of (param.Whole n ∷ [])) (kinds_of ks)
first_below param.Place ks = reverse-append (kinds_of (param.Place ∷ [])) (kinds_of ks)
first_below (param.Open d v n) ks = open_below d ks

pub taken_more : (ps : List ParamKind) (k left : ℕ) (p : ParamKind) (kinds new : List Kind) → k < length ps → k + 1 ≡ left → p ≡ get_or ps k p → kinds ≡ reverse (kinds_of (drop left ps)) → new ≡ kinds ++ reverse (kinds_of (p ∷ [])) → new ≡ reverse (kinds_of (drop k ps))
taken_more ps k left p kinds new lt next at is put =
    put
    ∙ ap (λ l. l ++ reverse (kinds_of (p ∷ []))) (is ∙ ap (λ n. reverse (kinds_of (drop n ps))) (sym next))
    ∙ sym (first_below p (drop (k + 1) ps))
    ∙ ap (λ x. reverse (kinds_of (x ∷ drop (k + 1) ps))) at
    ∙ ap (λ l. reverse (kinds_of l)) (sym (drop_more ps k p lt))

-- the types of what is handed over to the routines of a well-typed program are there
there : (p : Program) (o : Option Procedure) → IsTypedBy p o → All (λ a. IsThere p.types a.of) (parameters_of o)
there p None h = λ k d lt. absurd (omega arith)
there p (Some q) h = h.parameters

pub handed_there : (p : Program) → IsWellTyped p → AreHandedThere p.types (routines p)
handed_there p typed = λ k r lt. there p (get_or (routines p) k r).own (routines_typed p typed k r lt)

-- those of one of them
module _ (rows : List TypeRow) (rs : List CodeRoutine) where
  pub there_by : (k : ℕ) (r : CodeRoutine) → AreHandedThere rows (seen_routines rs) → slice_get rs k ≡ Some r → All (λ a. IsThere rows a.of) (parameters_of (seen_routine r).own)
  there_by k r all at =
      let seen : slice_get (seen_routines rs) k ≡ Some (seen_routine r) = slice_get-map seen_routine rs k ∙ ap (option_map seen_routine) at in
      subst (λ (x : Routine). All (λ a. IsThere rows a.of) (parameters_of x.own)) (get_or_from_slice_get (seen_routines rs) k (seen_routine r) (seen_routine r) seen)
      (all k (seen_routine r) (slice_get_within (seen_routines rs) k (seen_routine r) seen))

-- what is handed over to the routine with a number
pub handed_at : (rs : List CodeRoutine) (n : ℕ) (r : CodeRoutine) → 1 ≤ n → slice_get rs (n - 1) ≡ Some r → parameters_of (seen_routine r).own ≡ handed_by (seen_routines rs) n
handed_at rs n r some at =
    let up : suc (n - 1) ≡ n = omega (arith, some) in
    ap (λ o. parameters_of (option_and_then (λ (x : Routine). x.own) o)) (sym (slice_get-map seen_routine rs (n - 1) ∙ ap (option_map seen_routine) at))
    ∙ ap (handed_by (seen_routines rs)) up

pub handed_past : (rs : List CodeRoutine) (n : ℕ) → slice_get rs (n - 1) ≡ None → [] ≡ handed_by (seen_routines rs) n
handed_past rs zero at = refl
handed_past rs (suc n) at =
    let down : suc n - 1 ≡ n = omega arith in
    ap (λ o. parameters_of (option_and_then (λ (x : Routine). x.own) o)) (sym (slice_get-map seen_routine rs n ∙ ap (option_map seen_routine) (ap (slice_get rs) (sym down) ∙ at)))
