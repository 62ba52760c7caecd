-- Bodies that are those of conditions, one after the other.
use Rattle.std.proofs.Common.{◌≡◌, ◌<◌, ◌≤◌, ℕ, ◌+◌, List, [], ◌∷◌, ◌++◌, length, get_or, map, drop, refl, sym, ap, ◌∙◌, append_assoc, append-nil}
use Rattle.std.specs.List.{flat_map}
use Rattle.std.proofs.lemmas.List.{at_drop_more, drop_all, map-append}
use Rattle.std.proofs.lemmas.Simd.{map-map}
use Rattle.aos_code.specs.declared.instr.Instr.{Instr}
use Rattle.aos_code.specs.declared.image.Body.{Body}
use Rattle.aos_typed.specs.Conditions.{Condition, awaited_in, condition_in, conditions, conditions_of}
use Rattle.aos_typed.specs.Program.{Program}
use Rattle.aos_typed.specs.Routines.{Routine, routines}
use Rattle.aos_dispatch.specs.declared.awaits.Await.{Await}
use Rattle.aos_dispatch.specs.declared.routines.Routine.{Routine as CodeRoutine}
use Rattle.aos_dispatch.specs.Awaits.{seen_await}
use Rattle.aos_dispatch.specs.Routines.{seen_routine, seen_routines}
use Rattle.aos_sim.specs.Code.{condition_code}
use Rattle.aos_sim.specs.Need.{value_need}
use Rattle.aos_emit.specs.Conditions.{of_body, of_condition}

module _ {X Y : Type 0} (f : List X → List Y) (xs : List X) (k : ℕ) (all : List Y) where
  -- what is done and what is left are all: with what comes of one more,
  goes : (x : X) (done more new : List Y) → k < length xs → x ≡ get_or xs k x → f (x ∷ drop (k + 1) xs) ≡ more ++ f (drop (k + 1) xs) → new ≡ done ++ more → done ++ f (drop k xs) ≡ all → new ++ f (drop (k + 1) xs) ≡ all
  goes x done more new lt at of is h =
      let left = f (drop (k + 1) xs) in
      ap (λ l. l ++ left) is
      ∙ append_assoc done more left
      ∙ ap (λ l. done ++ l) (sym of ∙ ap (λ y. f (y ∷ drop (k + 1) xs)) at ∙ sym (at_drop_more f xs k x lt))
      ∙ h

  -- and at the end
  ends : (done : List Y) → length xs ≤ k → f [] ≡ [] → done ++ f (drop k xs) ≡ all → done ≡ all
  ends done le none h = sym (append-nil done) ∙ ap (λ l. done ++ l) (sym none ∙ ap f (sym (drop_all k xs le))) ∙ h

module _ (p : Program) where
  -- the bodies of what these AWAITs of a routine await, and of what these routines do
  abbrev pub of_awaits : Routine → List Await → List (List Instr × ℕ)
  of_awaits r xs = map (λ a. of_condition p (condition_in r.home r.own (seen_await a))) xs

  abbrev pub of_routines : List CodeRoutine → List (List Instr × ℕ)
  of_routines rs = map (of_condition p) (flat_map conditions_of (seen_routines rs))

  seen_conditions : (r : Routine) (xs : List Await) → of_awaits r xs ≡ map (of_condition p) (map (condition_in r.home r.own) (map seen_await xs))
  seen_conditions r xs =
      sym (map-map (λ a. of_condition p (condition_in r.home r.own a)) seen_await xs)
      ∙ sym (map-map (of_condition p) (condition_in r.home r.own) (map seen_await xs))

  module _ (r : Routine) (xs : List Await) where
    pub awaits_first : (bs : List Body) → map seen_await xs ≡ awaited_in r.body.statements → map of_body bs ++ of_awaits r (drop 0 xs) ≡ map of_body bs ++ map (of_condition p) (conditions_of r)
    awaits_first bs are = ap (λ l. map of_body bs ++ l) (seen_conditions r xs ∙ ap (λ l. map (of_condition p) (map (condition_in r.home r.own) l)) are)

    pub awaits_next : (k : ℕ) (a : Await) (bs new : List Body) (b : Body) (all : List (List Instr × ℕ)) → k < length xs → a ≡ get_or xs k a → new ≡ bs ++ b ∷ [] → b.code.items ≡ condition_code p r.own (seen_await a).expression → b.depth ≡ value_need (seen_await a).expression → map of_body bs ++ of_awaits r (drop k xs) ≡ all → map of_body new ++ of_awaits r (drop (k + 1) xs) ≡ all
    awaits_next k a bs new b all lt at is code depth =
        goes (of_awaits r) xs k all a (map of_body bs) _ (map of_body new) lt at refl
        (ap (map of_body) is ∙ map-append of_body bs (b ∷ []) ∙ (λ i. map of_body bs ++ (code i, depth i) ∷ []))

    pub awaits_last : (k : ℕ) (bs : List Body) (all : List (List Instr × ℕ)) → length xs ≤ k → map of_body bs ++ of_awaits r (drop k xs) ≡ all → map of_body bs ≡ all
    awaits_last k bs all le = ends (of_awaits r) xs k all (map of_body bs) le refl

  module _ (rs : List CodeRoutine) where
    pub routines_first : seen_routines rs ≡ routines p → of_routines (drop 0 rs) ≡ map (of_condition p) (conditions p)
    routines_first are = ap (λ l. map (of_condition p) (flat_map conditions_of l)) are

    pub routines_next : (k : ℕ) (r : CodeRoutine) (bs new : List Body) (all : List (List Instr × ℕ)) → k < length rs → r ≡ get_or rs k r → map of_body new ≡ map of_body bs ++ map (of_condition p) (conditions_of (seen_routine r)) → map of_body bs ++ of_routines (drop k rs) ≡ all → map of_body new ++ of_routines (drop (k + 1) rs) ≡ all
    routines_next k r bs new all lt at =
        goes of_routines rs k all r (map of_body bs) _ (map of_body new) lt at (map-append (of_condition p) (conditions_of (seen_routine r)) _)

    pub routines_last : (k : ℕ) (bs : List Body) (all : List (List Instr × ℕ)) → length rs ≤ k → map of_body bs ++ of_routines (drop k rs) ≡ all → map of_body bs ≡ all
    routines_last k bs all le = ends of_routines rs k all (map of_body bs) le refl

-- their code, and how many operands they have
module _ (p : Program) (bs : List Body) (cs : List Condition) (are : map of_body bs ≡ map (of_condition p) cs) where
  pub codes_are : map (λ (b : Body). b.code.items) bs ≡ map (λ (c : Condition). condition_code p c.own c.expression) cs
  codes_are = sym (map-map (λ (x : List Instr × ℕ). x.0) of_body bs) ∙ ap (map (λ (x : List Instr × ℕ). x.0)) are ∙ map-map (λ (x : List Instr × ℕ). x.0) (of_condition p) cs

  pub depths_are : map (λ (b : Body). b.depth) bs ≡ map (λ (c : Condition). value_need c.expression) cs
  depths_are = sym (map-map (λ (x : List Instr × ℕ). x.1) of_body bs) ∙ ap (map (λ (x : List Instr × ℕ). x.1)) are ∙ map-map (λ (x : List Instr × ℕ). x.1) (of_condition p) cs
