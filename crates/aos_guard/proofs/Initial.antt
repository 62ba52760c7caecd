-- The marks of the initializers, one routine behind the other.
use Rattle.std.proofs.Common.{◌≡◌, ◌<◌, ◌≤◌, ◌+◌, ℕ, zero, suc, List, [], ◌∷◌, ◌++◌, length, get_or, Bool, false, refl, ◌∙◌, sym, ap, arith, inl, inr}
use Rattle.std.specs.Prelude.{◌⊎◌, Option, Some, None, slice_get, nat_le, ◌&&◌, option_map}
use Rattle.std.specs.Option.{unwrap_or}
use Rattle.std.proofs.Math.ListN.{get_or-append}
use Rattle.std.proofs.Math.Seq.{get_or-append_seam}
use Rattle.std.proofs.lemmas.Bool.Decides.{eqb_tells}
use Rattle.std.proofs.lemmas.List.{get_or_past, length-map}
use Rattle.std.proofs.lemmas.Option.{slice_get-map, slice_get_past, slice_get_read}
use Rattle.aos_base.specs.Rooted.{by_number}
use Rattle.aos_typed.specs.Numbers.{procedure_number}
use Rattle.aos_typed.specs.Program.{Program}
use Rattle.aos_typed.specs.Routines.{Routine, routines}
use Rattle.aos_dispatch.specs.declared.routines.Routine.{Routine as CodeRoutine}
use Rattle.aos_dispatch.specs.Routines.{seen_routine, seen_routines}
use Rattle.aos_uses.specs.Guarded.{is_initial, is_marked}
use Rattle.aos_guard.specs.Marks.{marked}
use Rattle.aos_guard.proofs.Edges.{none_initial}

module _ (p : Program) where
  pub marks_begin : (ms : List Bool) → ms ≡ false ∷ [] → (n : ℕ) → n ≤ 0 → marked ms n ≡ is_initial p n
  marks_begin ms is zero le = ap (λ l. marked l 0) is ∙ sym (none_initial p 0 refl)
  marks_begin ms is (suc n) le = absurd (omega (arith, le))

  -- the mark of a routine
  mark_is : (rs : List CodeRoutine) (k first : ℕ) (r : CodeRoutine) → seen_routines rs ≡ routines p → slice_get rs k ≡ Some r → first ≡ procedure_number p (length p.modules) 0 → (nat_le first (suc k) && is_marked (seen_routine r).own) ≡ is_initial p (suc k)
  mark_is rs k first r are at is =
      let there : by_number (suc k) (routines p) ≡ Some (seen_routine r) = ap (λ l. slice_get l k) (sym are) ∙ slice_get-map seen_routine rs k ∙ ap (option_map seen_routine) at in
      ap (λ f. nat_le f (suc k) && is_marked (seen_routine r).own) is
      ∙ sym (ap (λ (o : Option Routine). nat_le (procedure_number p (length p.modules) 0) (suc k) && unwrap_or (option_map (λ x. is_marked x.own) o) false) there)

  pub marks_more : (ms new : List Bool) (rs : List CodeRoutine) (k n first : ℕ) (r : CodeRoutine) (b : Bool) → seen_routines rs ≡ routines p → k < length rs → r ≡ get_or rs k r → n ≡ suc k → length ms ≡ suc k → new ≡ ms ++ b ∷ [] → b ≡ (nat_le first n && is_marked (seen_routine r).own) → first ≡ procedure_number p (length p.modules) 0 → ((m : ℕ) → m ≤ k → marked ms m ≡ is_initial p m) → (m : ℕ) → m ≤ k + 1 → marked new m ≡ is_initial p m
  marks_more ms new rs k n first r b are lt is next long put mark number before m le =
      let at = slice_get_read rs (length rs) k r refl lt is in
      let here : marked (ms ++ b ∷ []) m ≡ is_initial p m = elim (eqb_tells m (suc k)) [
        | inl e ↦ (λ i. marked (ms ++ b ∷ []) ((e.1 ∙ sym long) i)) ∙ get_or-append_seam ms b [] false
            ∙ mark ∙ ap (λ j. nat_le first j && is_marked (seen_routine r).own) next ∙ mark_is rs k first r are at number ∙ ap (is_initial p) (sym e.1)
        | inr e ↦ (let less : m < length ms = (let ne = e.1 in omega (arith, le, long, ne)) in get_or-append ms (b ∷ []) false m less)
            ∙ before m (let ne = e.1 in omega (arith, le, ne))
      ] in
      ap (λ l. marked l m) put ∙ here

  pub marks_end : (ms : List Bool) (rs : List CodeRoutine) (k : ℕ) → seen_routines rs ≡ routines p → length rs ≤ k → length ms ≡ suc k → ((m : ℕ) → m ≤ k → marked ms m ≡ is_initial p m) → (m : ℕ) → marked ms m ≡ is_initial p m
  marks_end ms rs k are le long before m = elim (le_or m k) [
    | inl in' ↦ before m in'
    | inr past ↦ get_or_past ms m false (omega (arith, past, long)) ∙ sym (none_initial p m (by m past))
  ]
    where
      le_or : (a b : ℕ) → (a ≤ b) ⊎ (b < a)
      le_or zero b = inl (omega arith)
      le_or (suc a) zero = inr (omega arith)
      le_or (suc a) (suc b) = elim (le_or a b) [ inl h ↦ inl (omega (arith, h)) | inr h ↦ inr (omega (arith, h)) ]

      by : (j : ℕ) → k < j → by_number j (routines p) ≡ None
      by zero lt = refl
      by (suc j) lt =
          ap (λ l. slice_get l j) (sym are) ∙ slice_get_past (seen_routines rs) j (let e = length-map rs seen_routine in omega (arith, e, lt, le))
