-- What the texts of a well-typed program name, by the numbers of its routines.
use Rattle.std.proofs.Common.{◌≡◌, ◌<◌, ℕ, suc, length, true, Some}
use Rattle.aos_base.specs.Rooted.{by_number}
use Rattle.aos_types.specs.Extension.{comes_to}
use Rattle.aos_typed.specs.Conditions.{conditions, AreLinked}
use Rattle.aos_typed.specs.Methods.{body_type, method_in, method_number}
use Rattle.aos_typed.specs.Numbers.{id_of_made, body_number, procedure_number}
use Rattle.aos_typed.specs.Program.{ObjectType, Procedure, Program}
use Rattle.aos_typed.specs.Routines.{Routine, has_self, routines}
use Rattle.aos_typed.specs.WellTyped.{procedure_in, AreStatements}
use Rattle.aos_uses.specs.Guarded.{IsNamed, IsQuiet, raised}
use Rattle.std.specs.Prelude.{slice_get}

pub record HasNames (p : Program) : Type 0 where
  -- the method that a type which extends another has in a slot is named by that other type and the slot
  pub named : (d t k : ℕ) (q : Procedure) → comes_to p.types (id_of_made (suc d)) (id_of_made (suc t)) ≡ true → method_in p t k ≡ Some q → IsNamed p (method_number p d k) t k
  pub raised_is : (t k : ℕ) (q : Procedure) → method_in p t k ≡ Some q → raised p t k ≡ method_number p t k
  -- neither procedures of modules nor bodies are quiet initializers, and what is one is called on an object
  pub plain : (m k : ℕ) (q : Procedure) → procedure_in p m k ≡ Some q → IsQuiet p (procedure_number p m k) → ⊥
  pub bodies : (b : ℕ) → b < length p.objects → IsQuiet p (body_number p b) → ⊥
  pub modules : (m : ℕ) → m < length p.modules → IsQuiet p (suc m) → ⊥
  pub has_body : (t b : ℕ) → body_type p t ≡ Some b → b < length p.objects
  pub selves : (n : ℕ) (r : Routine) → by_number n (routines p) ≡ Some r → IsQuiet p n → has_self r.own ≡ true
  pub body_self : (t b : ℕ) (x : ObjectType) → body_type p t ≡ Some b → slice_get p.objects b ≡ Some x → has_self (Some x.body) ≡ true
  -- each text is well typed, and each AWAIT has its number
  pub texts : (n : ℕ) (r : Routine) → by_number n (routines p) ≡ Some r → AreStatements p r.own r.body.statements × AreLinked (conditions p) r.home r.own r.body.statements
