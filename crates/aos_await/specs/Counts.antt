-- The passes over a program one by one, each of which numbers the AWAITs of some of its routines.
use Rattle.std.specs.Prelude.{ℕ, ◌+◌, List, [], ◌∷◌, length, sum_by, map}
use Rattle.aos_typed.specs.declared.tree.LabelRange.{LabelRange}
use Rattle.aos_typed.specs.declared.tree.TArm.{TArm, out-TArm}
use Rattle.aos_typed.specs.declared.tree.TCase.{TCase, out-TCase}
use Rattle.aos_typed.specs.Program.{Expr, Stats, ObjectType, Module}
use Rattle.aos_typed.specs.Seen.{seen_expr, seen_stats}
use Rattle.aos_typed.specs.Conditions.{awaited_in, awaits, awaits_in_procedures, awaits_in_methods, stats_renumbered, body_renumbered, procedure_renumbered, procedures_renumbered, methods_renumbered}

-- each with the numbers from this one on, which are told how many are taken before
abbrev pub each_from : {A : Type 0} → (A → ℕ) → (ℕ → A → A) → ℕ → List A → List A
each_from count f n [] = []
each_from count f n (x ∷ xs) = f n x ∷ each_from count f (n + count x) xs

-- the arms of IF and of CASE
abbrev pub Tested : Type 0
Tested = Expr × Stats

abbrev pub Labelled : Type 0
Labelled = List LabelRange × Stats

abbrev pub seen_arm : TArm → Tested
seen_arm a = let x = out-TArm a in (seen_expr x.test, seen_stats x.body.items)

abbrev pub seen_case : TCase → Labelled
seen_case a = let x = out-TCase a in (x.labels.items, seen_stats x.body.items)

abbrev pub awaits_behind : {X : Type 0} → X × Stats → ℕ
awaits_behind a = length (awaited_in a.1)

abbrev pub renumbered_behind : {X : Type 0} → ℕ → X × Stats → X × Stats
renumbered_behind n a = (a.0, stats_renumbered n a.1)

abbrev pub awaits_of_arms : List TArm → ℕ
awaits_of_arms as' = sum_by awaits_behind (map seen_arm as')

abbrev pub awaits_of_cases : List TCase → ℕ
awaits_of_cases as' = sum_by awaits_behind (map seen_case as')

-- Modules and object types.

abbrev pub with_body : ℕ → Module → Module
with_body n x = record x { body = body_renumbered n x.body }

abbrev pub modules_with_bodies : ℕ → List Module → List Module
modules_with_bodies n xs = each_from (λ x. awaits x.body) with_body n xs

abbrev pub with_object_body : ℕ → ObjectType → ObjectType
with_object_body n o = record o { body = procedure_renumbered n o.body }

abbrev pub objects_with_bodies : ℕ → List ObjectType → List ObjectType
objects_with_bodies n os = each_from (λ o. awaits o.body.body) with_object_body n os

abbrev pub with_procedures : ℕ → Module → Module
with_procedures n x = record x { procedures = procedures_renumbered n x.procedures }

abbrev pub modules_with_procedures : ℕ → List Module → List Module
modules_with_procedures n xs = each_from awaits_in_procedures with_procedures n xs

abbrev pub with_methods : ℕ → ObjectType → ObjectType
with_methods n o = record o { methods = methods_renumbered n o.methods }

abbrev pub objects_with_methods : ℕ → List ObjectType → List ObjectType
objects_with_methods n os = each_from awaits_in_methods with_methods n os
