-- Statements and arms as lists, and the passes over a program one behind the other.
use Rattle.std.proofs.Common.{◌≡◌, ℕ, ◌+◌, List, [], ◌∷◌, length, length-append, map, sum_by, refl, sym, ap, ◌∙◌, arith}
use Rattle.std.proofs.lemmas.List.Sums.{sum_by-cons}
use Rattle.aos_typed.specs.declared.tree.TArm.{TArm}
use Rattle.aos_typed.specs.declared.tree.TCase.{TCase}
use Rattle.aos_typed.specs.declared.tree.TStat.{TStat}
use Rattle.aos_typed.specs.Program.{Stat, Stats, Nothing, Then, Arms, Otherwise, Arm, Cases, OfLabels, Procedure, Method, ObjectType, Module, Program}
use Rattle.aos_typed.specs.Seen.{seen_stat, seen_stats, arms_of, cases_of}
use Rattle.aos_typed.specs.Conditions.{awaited, awaited_in, awaited_in_arms, awaited_in_cases, renumbered, stats_renumbered, arms_renumbered, cases_renumbered, awaits, awaits_in_procedures, awaits_in_methods, body_renumbered, procedure_renumbered, procedures_renumbered, methods_renumbered, modules_renumbered, objects_renumbered, numbered}
use Rattle.aos_await.specs.Counts.{each_from, Tested, Labelled, seen_arm, seen_case, awaits_behind, renumbered_behind, with_body, modules_with_bodies, objects_with_bodies, modules_with_procedures, objects_with_methods}

-- Statements.

abbrev pub count : Stat → ℕ
count s = length (awaited s)

abbrev pub sequence : List Stat → Stats
sequence [] = Nothing
sequence (s ∷ ss) = Then s (sequence ss)

pub as_sequence : (ss : List TStat) → seen_stats ss ≡ sequence (map seen_stat ss)
as_sequence [] = refl
as_sequence (s ∷ ss) = ap (λ l. Then (seen_stat s) l) (as_sequence ss)

pub sequence_numbered : (n : ℕ) (ss : List Stat) → stats_renumbered n (sequence ss) ≡ sequence (each_from count renumbered n ss)
sequence_numbered n [] = refl
sequence_numbered n (s ∷ ss) = ap (λ l. Then (renumbered n s) l) (sequence_numbered (n + count s) ss)

pub sequence_counted : (ss : List Stat) → length (awaited_in (sequence ss)) ≡ sum_by count ss
sequence_counted [] = refl
sequence_counted (s ∷ ss) = length-append (awaited s) (awaited_in (sequence ss)) ∙ ap (λ k. count s + k) (sequence_counted ss) ∙ sym (sum_by-cons count s ss)

-- The arms of IF before the statements behind ELSE, and those of CASE before what stands behind them.

abbrev pub tested : List Tested → Stats → Arms
tested [] last = Otherwise last
tested (a ∷ as') last = Arm a.0 a.1 (tested as' last)

abbrev pub labelled : List Labelled → Cases → Cases
labelled [] last = last
labelled (a ∷ as') last = OfLabels a.0 a.1 (labelled as' last)

pub as_tested : (as' : List TArm) (last : Stats) → arms_of as' last ≡ tested (map seen_arm as') last
as_tested [] last = refl
as_tested (a ∷ as') last = let x = seen_arm a in ap (λ l. Arm x.0 x.1 l) (as_tested as' last)

pub as_labelled : (as' : List TCase) (last : Cases) → cases_of as' last ≡ labelled (map seen_case as') last
as_labelled [] last = refl
as_labelled (a ∷ as') last = let x = seen_case a in ap (λ l. OfLabels x.0 x.1 l) (as_labelled as' last)

sum_more : {X : Type 0} (f : X → ℕ) (n : ℕ) (x : X) (xs : List X) → (n + f x) + sum_by f xs ≡ n + sum_by f (x ∷ xs)
sum_more f n x xs = let one = sum_by-cons f x xs in omega (arith, one)

pub tested_numbered : (n : ℕ) (as' : List Tested) (last : Stats) →
    arms_renumbered n (tested as' last) ≡ tested (each_from awaits_behind renumbered_behind n as') (stats_renumbered (n + sum_by awaits_behind as') last)
tested_numbered n [] last = ap (λ k. Otherwise (stats_renumbered k last)) (omega (arith))
tested_numbered n (a ∷ as') last =
    let k = n + awaits_behind a in
    let more = each_from awaits_behind renumbered_behind k as' in
    ap (λ l. Arm a.0 (stats_renumbered n a.1) l)
    (tested_numbered k as' last ∙ ap (λ m. tested more (stats_renumbered m last)) (sum_more awaits_behind n a as'))

pub tested_counted : (as' : List Tested) (last : Stats) → length (awaited_in_arms (tested as' last)) ≡ sum_by awaits_behind as' + length (awaited_in last)
tested_counted [] last = omega (arith)
tested_counted (a ∷ as') last =
    let more = tested_counted as' last in
    let both = length-append (awaited_in a.1) (awaited_in_arms (tested as' last)) in
    let one = sum_by-cons awaits_behind a as' in
    omega (arith, more, both, one)

pub labelled_numbered : (n : ℕ) (as' : List Labelled) (last : Cases) →
    cases_renumbered n (labelled as' last) ≡ labelled (each_from awaits_behind renumbered_behind n as') (cases_renumbered (n + sum_by awaits_behind as') last)
labelled_numbered n [] last = ap (λ k. cases_renumbered k last) (omega (arith))
labelled_numbered n (a ∷ as') last =
    let k = n + awaits_behind a in
    let more = each_from awaits_behind renumbered_behind k as' in
    ap (λ l. OfLabels a.0 (stats_renumbered n a.1) l)
    (labelled_numbered k as' last ∙ ap (λ m. labelled more (cases_renumbered m last)) (sum_more awaits_behind n a as'))

pub labelled_counted : (as' : List Labelled) (last : Cases) → length (awaited_in_cases (labelled as' last)) ≡ sum_by awaits_behind as' + length (awaited_in_cases last)
labelled_counted [] last = omega (arith)
labelled_counted (a ∷ as') last =
    let more = labelled_counted as' last in
    let both = length-append (awaited_in a.1) (awaited_in_cases (labelled as' last)) in
    let one = sum_by-cons awaits_behind a as' in
    omega (arith, more, both, one)

-- Procedures and methods.

pub procedures_numbered : (n : ℕ) (qs : List Procedure) → procedures_renumbered n qs ≡ each_from (λ q. awaits q.body) procedure_renumbered n qs
procedures_numbered n [] = refl
procedures_numbered n (q ∷ qs) = ap (λ l. procedure_renumbered n q ∷ l) (procedures_numbered (n + awaits q.body) qs)

abbrev pub method_renumbered : ℕ → Method → Method
method_renumbered n m = record m { procedure = procedure_renumbered n m.procedure }

pub methods_numbered : (n : ℕ) (ms : List Method) → methods_renumbered n ms ≡ each_from (λ m. awaits m.procedure.body) method_renumbered n ms
methods_numbered n [] = refl
methods_numbered n (m ∷ ms) = ap (λ l. method_renumbered n m ∷ l) (methods_numbered (n + awaits m.procedure.body) ms)

-- The two passes over modules, and over object types, are one.

pub modules_numbered : (n k : ℕ) (xs : List Module) → modules_with_procedures k (modules_with_bodies n xs) ≡ modules_renumbered n k xs
modules_numbered n k [] = refl
modules_numbered n k (x ∷ xs) =
    ap (λ l. record x { procedures = procedures_renumbered k x.procedures; body = body_renumbered n x.body } ∷ l)
    (modules_numbered (n + awaits x.body) (k + awaits_in_procedures x) xs)

pub objects_numbered : (n k : ℕ) (os : List ObjectType) → objects_with_methods k (objects_with_bodies n os) ≡ objects_renumbered n k os
objects_numbered n k [] = refl
objects_numbered n k (o ∷ os) =
    ap (λ l. record o { body = procedure_renumbered n o.body; methods = methods_renumbered k o.methods } ∷ l)
    (objects_numbered (n + awaits o.body.body) (k + awaits_in_methods o) os)

-- the first pass leaves alone what the second one counts
pub procedures_counted : (n : ℕ) (xs : List Module) → sum_by awaits_in_procedures (modules_with_bodies n xs) ≡ sum_by awaits_in_procedures xs
procedures_counted n [] = refl
procedures_counted n (x ∷ xs) =
    let more = modules_with_bodies (n + awaits x.body) xs in
    sum_by-cons awaits_in_procedures (with_body n x) more
    ∙ ap (λ k. awaits_in_procedures x + k) (procedures_counted (n + awaits x.body) xs)
    ∙ sym (sum_by-cons awaits_in_procedures x xs)

-- all four passes number the program
pub program_numbered : (p : Program) (n m k : ℕ) (ms : List Module) (os : List ObjectType) →
    n ≡ 0 + sum_by (λ x. awaits x.body) p.modules → m ≡ n + sum_by (λ o. awaits o.body.body) p.objects →
    k ≡ m + sum_by awaits_in_procedures (modules_with_bodies 0 p.modules) →
    ms ≡ modules_with_procedures m (modules_with_bodies 0 p.modules) → os ≡ objects_with_methods k (objects_with_bodies n p.objects) →
    (record p { modules = ms; objects = os }) ≡ numbered p
program_numbered p n m k ms os first second third in_modules in_objects =
    let beside : ℕ = sum_by (λ x. awaits x.body) p.modules in
    let procedures : ℕ = beside + sum_by (λ o. awaits o.body.body) p.objects in
    let methods : ℕ = procedures + sum_by awaits_in_procedures p.modules in
    let one : n ≡ beside = omega (arith, first) in
    let two : m ≡ procedures = omega (arith, first, second) in
    let same = procedures_counted 0 p.modules in
    let three : k ≡ methods = omega (arith, two, third, same) in
    let all_modules : ms ≡ modules_renumbered 0 procedures p.modules =
    in_modules ∙ ap (λ j. modules_with_procedures j (modules_with_bodies 0 p.modules)) two ∙ modules_numbered 0 procedures p.modules in
    let all_objects : os ≡ objects_renumbered beside methods p.objects =
    in_objects ∙ (λ i. objects_with_methods (three i) (objects_with_bodies (one i) p.objects)) ∙ objects_numbered beside methods p.objects in
    λ i. record p { modules = all_modules i; objects = all_objects i }
