-- The routines of a program stand in the order of their numbers: the bodies of modules, those of object types, procedures, and
-- methods.
use Rattle.std.proofs.Common.{◌≡◌, ℕ, zero, suc, ◌+◌, List, [], ◌∷◌, ◌++◌, length, map, Some, None, refl, ap, ◌∙◌, arith, length-append}
use Rattle.std.specs.Prelude.{slice_get, option_map, option_and_then, sum_by, take}
use Rattle.std.proofs.lemmas.List.{length-map}
use Rattle.std.proofs.lemmas.List.Sums.{sum_by-cons}
use Rattle.std.proofs.lemmas.Option.{slice_get-map}
use Rattle.aos_base.specs.Rooted.{by_number}
use Rattle.aos_typed.specs.Methods.{methods_before, first_method}
use Rattle.aos_typed.specs.Numbers.{procedures_before, procedure_number}
use Rattle.aos_typed.specs.Program.{Body, Procedure, Method, Module, ObjectType, Program}
use Rattle.aos_typed.specs.Routines.{Routine, routine_of, bodies_from, procedures_from, methods_from, routines}
use Rattle.aos_typed.specs.WellTyped.{procedure_in}
use Rattle.aos_sim.proofs.Lists.{get_left, get_right}

-- the body of a module
abbrev pub body : ℕ → Body → Routine
body m b = record { home = m; own = None; body = b }

-- the procedure of a module with this number
abbrev pub called : ℕ → Procedure → Routine
called m q = routine_of m q

pub length-bodies : (m : ℕ) (xs : List Module) → length (bodies_from m xs) ≡ length xs
length-bodies m [] = refl
length-bodies m (x ∷ xs) = ap (λ n. suc n) (length-bodies (suc m) xs)

-- the procedures of modules, of which the first has this number, one module's behind the other's
procedure_at : (first : ℕ) (xs : List Module) (m k : ℕ) (q : Procedure) → option_and_then (λ x. slice_get x.procedures k) (slice_get xs m) ≡ Some q → slice_get (procedures_from first xs) (sum_by (λ x. length x.procedures) (take m xs) + k) ≡ Some (called (first + m) q)
procedure_at first [] m k q e = absurd (cc)
procedure_at first (x ∷ xs) zero k q e =
    let n : first ≡ first + 0 = omega arith in
    let none : 0 + k ≡ k = omega arith in
    ap (slice_get (procedures_from first (x ∷ xs))) none
    ∙ get_left (map (called first) x.procedures) (procedures_from (suc first) xs) k (called (first + 0) q)
    (slice_get-map (called first) x.procedures k ∙ ap (option_map (called first)) e ∙ ap (λ j. Some (called j q)) n)
procedure_at first (x ∷ xs) (suc m) k q e =
    let before = sum_by (λ x. length x.procedures) (take m xs) in
    let n : suc first + m ≡ first + suc m = omega arith in
    let size = length-map x.procedures (called first) in
    let count = sum_by-cons (λ x. length x.procedures) x (take m xs) in
    ap (λ j. slice_get (procedures_from first (x ∷ xs)) (j + k)) count
    ∙ get_right (map (called first) x.procedures) (procedures_from (suc first) xs) (length x.procedures + before + k) (before + k) (omega (arith, size))
    ∙ procedure_at (suc first) xs m k q e ∙ ap (λ j. Some (called j q)) n

-- there are as many as the modules declare
length-procedures : (first : ℕ) (xs : List Module) → length (procedures_from first xs) ≡ sum_by (λ x. length x.procedures) (take (length xs) xs)
length-procedures first [] = refl
length-procedures first (x ∷ xs) =
    let here = length-append (map (called first) x.procedures) (procedures_from (suc first) xs) in
    let size = length-map x.procedures (called first) in
    let count = sum_by-cons (λ x. length x.procedures) x (take (length xs) xs) in
    let more = length-procedures (suc first) xs in
    omega (arith, here, size, count, more)

-- the methods of types, one type's behind the other's
method_at : (os : List ObjectType) (t i : ℕ) (o : ObjectType) (m : Method) → slice_get os t ≡ Some o → slice_get o.methods i ≡ Some m → slice_get (methods_from os) (sum_by (λ o. length o.methods) (take t os) + i) ≡ Some (routine_of o.home m.procedure)
method_at [] t i o m e f = absurd (cc)
method_at (x ∷ os) zero i o m e f =
    let none : 0 + i ≡ i = omega arith in
    let of : Method → Routine = λ m. routine_of x.home m.procedure in
    let q : x ≡ o = cc in
    ap (slice_get (methods_from (x ∷ os))) none
    ∙ get_left (map of x.methods) (methods_from os) i (routine_of x.home m.procedure) (slice_get-map of x.methods i ∙ ap (option_map of) (ap (λ y. slice_get y.methods i) q ∙ f))
    ∙ ap (λ y. Some (routine_of y.home m.procedure)) q
method_at (x ∷ os) (suc t) i o m e f =
    let of : Method → Routine = λ m. routine_of x.home m.procedure in
    let before = sum_by (λ o. length o.methods) (take t os) in
    let size = length-map x.methods of in
    let count = sum_by-cons (λ o. length o.methods) x (take t os) in
    ap (λ j. slice_get (methods_from (x ∷ os)) (j + i)) count
    ∙ get_right (map of x.methods) (methods_from os) (length x.methods + before + i) (before + i) (omega (arith, size))
    ∙ method_at os t i o m e f

body_at : (first : ℕ) (xs : List Module) (k : ℕ) (x : Module) → slice_get xs k ≡ Some x → slice_get (bodies_from first xs) k ≡ Some (body (first + k) x.body)
body_at first [] k x e = absurd (cc)
body_at first (y ∷ xs) zero x e =
    let n : first ≡ first + 0 = omega arith in
    let q : y ≡ x = cc in
    λ i. Some (body (n i) (q i).body)
body_at first (y ∷ xs) (suc k) x e =
    let n : suc first + k ≡ first + suc k = omega arith in
    body_at (suc first) xs k x e ∙ ap (λ j. Some (body j x.body)) n

module _ (program : Program) where
  abbrev of_object : ObjectType → Routine
  of_object o = routine_of o.home o.body

  abbrev bodies : List Routine
  bodies = bodies_from 0 program.modules

  abbrev others : List Routine
  others = map of_object program.objects

  abbrev procedures : List Routine
  procedures = procedures_from 0 program.modules

  abbrev methods : List Routine
  methods = methods_from program.objects

  -- a procedure that is there stands at its number
  pub routine_there : (m k : ℕ) (q : Procedure) → procedure_in program m k ≡ Some q → by_number (procedure_number program m k) (routines program) ≡ Some (called m q)
  routine_there m k q e =
      let before = procedures_before program m in
      let none : 0 + m ≡ m = omega arith in
      get_right bodies (others ++ (procedures ++ methods)) (length program.modules + length program.objects + before + k) (length program.objects + before + k) (omega (arith, length-bodies 0 program.modules))
      ∙ get_right others (procedures ++ methods) (length program.objects + before + k) (before + k) (omega (arith, length-map program.objects of_object))
      ∙ get_left procedures methods (before + k) (called (0 + m) q) (procedure_at 0 program.modules m k q e) ∙ ap (λ j. Some (called j q)) none

  -- so does a type's own method with this number among them
  pub method_there : (t i : ℕ) (o : ObjectType) (m : Method) → slice_get program.objects t ≡ Some o → slice_get o.methods i ≡ Some m → by_number (first_method program t + i) (routines program) ≡ Some (routine_of o.home m.procedure)
  method_there t i o m e f =
      let before = procedures_before program (length program.modules) in
      let own = methods_before program t in
      let all = length-procedures 0 program.modules in
      let up : suc (length program.modules + length program.objects + before + own) + i ≡ suc (length program.modules + length program.objects + before + own + i) = omega arith in
      ap (λ n. by_number n (routines program)) up
      ∙ get_right bodies (others ++ (procedures ++ methods)) (length program.modules + length program.objects + before + own + i) (length program.objects + before + own + i) (omega (arith, length-bodies 0 program.modules))
      ∙ get_right others (procedures ++ methods) (length program.objects + before + own + i) (before + own + i) (omega (arith, length-map program.objects of_object))
      ∙ get_right procedures methods (before + own + i) (own + i) (omega (arith, all))
      ∙ method_at program.objects t i o m e f

  -- so does the body of a module, and that of an object type
  pub module_there : (k : ℕ) (x : Module) → slice_get program.modules k ≡ Some x → by_number (suc k) (routines program) ≡ Some (body k x.body)
  module_there k x e =
      let none : 0 + k ≡ k = omega arith in
      get_left bodies (others ++ (procedures ++ methods)) k (body k x.body) (body_at 0 program.modules k x e ∙ ap (λ j. Some (body j x.body)) none)

  pub object_there : (k : ℕ) (o : ObjectType) → slice_get program.objects k ≡ Some o → by_number (suc (length program.modules + k)) (routines program) ≡ Some (routine_of o.home o.body)
  object_there k o e =
      get_right bodies (others ++ (procedures ++ methods)) (length program.modules + k) k (omega (arith, length-bodies 0 program.modules))
      ∙ get_left others (procedures ++ methods) k (routine_of o.home o.body) (slice_get-map of_object program.objects k ∙ ap (option_map of_object) e)
