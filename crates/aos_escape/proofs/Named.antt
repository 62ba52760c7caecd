-- A well-typed program has such names.
use Rattle.std.proofs.Common.{length-append, ◌≡◌, ◌<◌, ◌≤◌, ◌+◌, ℕ, zero, suc, List, [], ◌∷◌, ◌++◌, length, map, Bool, true, false, Option, Some, None, refl, sym, ap, ◌∙◌, arith}
use Rattle.std.specs.Prelude.{option_and_then, All, ◌&&◌, ◌-◌, nat_le, slice_get, sum_by, take, if◌then◌else◌, is_some}
use Rattle.std.specs.Option.{unwrap_or}
use Rattle.std.proofs.lemmas.Bool.{lt-ltb, leb-true}
use Rattle.std.proofs.lemmas.List.{length-map}
use Rattle.std.proofs.lemmas.List.Elements.{All-nil, All-append, All-map}
use Rattle.std.proofs.lemmas.List.Sums.{sum_by-cons}
use Rattle.std.proofs.lemmas.Option.{slice_get_within}
use Rattle.aos_base.specs.Rooted.{by_number}
use Rattle.aos_types.specs.Extension.{comes_to}
use Rattle.aos_typed.specs.Methods.{own_numbers, slots, method_in, method_number}
use Rattle.aos_typed.specs.Numbers.{id_of_made, body_number, procedure_number}
use Rattle.aos_typed.specs.Program.{Method, Module, ObjectType, Procedure, Program}
use Rattle.aos_typed.specs.Routines.{Routine, bodies_from, has_self, methods_from, procedures_from, routine_of, routines}
use Rattle.aos_typed.specs.WellTyped.{AreStatements, AreObjectTypes, IsWellTyped}
use Rattle.aos_typed.proofs.Conditions.{linked}
use Rattle.aos_sim.proofs.Bodies.{routines_typed}
use Rattle.aos_sim.proofs.Does.{HasTypes}
use Rattle.aos_sim.proofs.Lists.{all_get, get_right}
use Rattle.aos_sim.proofs.Routines.{length-bodies}
use Rattle.aos_uses.specs.Guarded.{IsNamed, IsQuiet, method_of}
use Rattle.aos_uses.proofs.Largest.{quiet_are}
use Rattle.aos_escape.proofs.Names.{HasNames}
use Rattle.aos_typed.specs.Conditions.{conditions, AreLinked}

-- how many procedures come before one of a module
abbrev so_many : List Module → ℕ
so_many ms = sum_by (λ x. length x.procedures) ms

before_all : (ms : List Module) (m k : ℕ) (x : Module) → slice_get ms m ≡ Some x → k < length x.procedures → so_many (take m ms) + k < so_many (take (length ms) ms)
before_all [] m k x e lt = absurd (cc e)
before_all (y ∷ ms) zero k x e lt =
    let same : y ≡ x = cc e in
    let more = sum_by-cons (λ (z : Module). length z.procedures) y (take (length ms) ms) in
    let long = ap (λ (z : Module). length z.procedures) same in
    omega (arith, lt, more, long)
before_all (y ∷ ms) (suc m) k x e lt =
    let rest = before_all ms m k x e lt in
    let more = sum_by-cons (λ (z : Module). length z.procedures) y (take (length ms) ms) in
    let less = sum_by-cons (λ (z : Module). length z.procedures) y (take m ms) in
    omega (arith, rest, more, less)

module _ (p : Program) where
  -- the methods stand behind all else
  abbrev first : ℕ
  first = procedure_number p (length p.modules) 0

  and_first : (a b : Bool) → (a && b) ≡ true → a ≡ true
  and_first true b e = refl
  and_first false b e = e

  quiet_behind : (n : ℕ) → IsQuiet p n → first ≤ n
  quiet_behind n q = leb-true first n (and_first (nat_le first n) _ ((quiet_are p).initial n q))

  plain_before : (m k : ℕ) (q : Procedure) (x : Option Module) → slice_get p.modules m ≡ x → option_and_then (λ y. slice_get y.procedures k) x ≡ Some q → procedure_number p m k < first
  plain_before m k q None there e = absurd (cc e)
  plain_before m k q (Some x) there e =
      let rest = before_all p.modules m k x there (slice_get_within x.procedures k q e) in omega (arith, rest)

  -- each method is called on an object
  abbrev HasSelf : Routine → Type 0
  HasSelf r = has_self r.own ≡ true

  methods_self : (t : ℕ) (os : List ObjectType) → AreObjectTypes p t os → All HasSelf (methods_from os)
  methods_self t [] h = All-nil HasSelf
  methods_self t (o ∷ os) h =
      let of : Method → Routine = λ m. routine_of o.home m.procedure in
      All-append HasSelf (map of o.methods) (methods_from os) (All-map HasSelf of o.methods (λ i m lt. ap is_some (h.0.methods i m lt).1)) (methods_self (suc t) os h.1)

  length-procedures : (m : ℕ) (xs : List Module) → length (procedures_from m xs) ≡ so_many (take (length xs) xs)
  length-procedures m [] = refl
  length-procedures m (x ∷ xs) =
      let here = length-append (map (routine_of m) x.procedures) (procedures_from (suc m) xs) in
      let size = length-map x.procedures (routine_of m) in
      let count = sum_by-cons (λ (z : Module). length z.procedures) x (take (length xs) xs) in
      let more = length-procedures (suc m) xs in
      omega (arith, here, size, count, more)

  module _ (well : IsWellTyped p) (typed : HasTypes p) where
    behind_self : (n : ℕ) (r : Routine) → by_number n (routines p) ≡ Some r → first ≤ n → has_self r.own ≡ true
    behind_self zero r e le = absurd (cc e)
    behind_self (suc i) r e le =
        let of : ObjectType → Routine = λ o. routine_of o.home o.body in
        let bodies = bodies_from 0 p.modules in
        let beside = map of p.objects in
        let procedures = procedures_from 0 p.modules in
        let methods = methods_from p.objects in
        let a = length-bodies 0 p.modules in
        let b = length-map p.objects of in
        let c = length-procedures 0 p.modules in
        let j = i - (length p.modules + (length p.objects + so_many (take (length p.modules) p.modules))) in
        let there : slice_get methods j ≡ Some r =
        sym (get_right bodies (beside ++ (procedures ++ methods)) i (length p.objects + (so_many (take (length p.modules) p.modules) + j)) (omega (arith, a, le))
        ∙ get_right beside (procedures ++ methods) (length p.objects + (so_many (take (length p.modules) p.modules) + j)) (so_many (take (length p.modules) p.modules) + j) (omega (arith, b))
        ∙ get_right procedures methods (so_many (take (length p.modules) p.modules) + j) j (omega (arith, c))) ∙ e in
        all_get HasSelf methods j r (methods_self 0 p.objects well.parts.objects) there

    below_some : (t k n : ℕ) → t < length p.objects → slice_get (slots p (own_numbers p) t) k ≡ Some n → method_of p t k ≡ Some n
    below_some t k n lt e = ap (λ b. if b then slice_get (slots p (own_numbers p) t) k else None) (lt-ltb t (length p.objects) lt) ∙ e

    slot_of_method : (t k : ℕ) (q : Procedure) → method_in p t k ≡ Some q → method_of p t k ≡ Some (method_number p t k)
    slot_of_method t k q e = let m = typed.methods.found t k q e in below_some t k (method_number p t k) m.below m.number

    named : (d t k : ℕ) (q : Procedure) → comes_to p.types (id_of_made (suc d)) (id_of_made (suc t)) ≡ true → method_in p t k ≡ Some q → IsNamed p (method_number p d k) t k
    named d t k q e is =
        let own = typed.methods.overridden d t k q e is in
        record {
          named = method_number p t k;
          there = slot_of_method t k q is;
          owner = d;
          own = slot_of_method d k own.0 own.1;
          base = t;
          below = slot_of_method t k q is;
          extends = e;
        }

    pub has_names : HasNames p
    has_names =
        record {
          named = named;
          raised_is = λ t k q e. ap (λ o. unwrap_or o 0) (slot_of_method t k q e);
          plain = λ m k q e quiet. let a = plain_before m k q (slice_get p.modules m) refl e in let b = quiet_behind (procedure_number p m k) quiet in omega (arith, a, b);
          bodies = λ b lt quiet. let a = quiet_behind (body_number p b) quiet in omega (arith, lt, a);
          modules = λ m lt quiet. let a = quiet_behind (suc m) quiet in omega (arith, lt, a);
          has_body = λ t b e. let h = typed.methods.bodies t b e in slice_get_within p.objects b h.object h.there;
          selves = λ n r e quiet. behind_self n r e (quiet_behind n quiet);
          body_self = λ t b x e there.
              let h = typed.methods.bodies t b e in
              let both : Some h.object ≡ Some x = sym h.there ∙ there in
              let same : h.object ≡ x = cc both in
              ap (λ (y : ObjectType). has_self (Some y.body)) (sym same) ∙ ap is_some h.body.own;
          texts = texts;
        }
      where
        texts : (n : ℕ) (r : Routine) → by_number n (routines p) ≡ Some r → AreStatements p r.own r.body.statements × AreLinked (conditions p) r.home r.own r.body.statements
        texts zero r e = absurd (cc e)
        texts (suc i) r e = (
          all_get (λ (x : Routine). AreStatements p x.own x.body.statements) (routines p) i r (routines_typed p well) e,
          all_get (λ (x : Routine). AreLinked (conditions p) x.home x.own x.body.statements) (routines p) i r (linked p well.conditions) e,
        )
