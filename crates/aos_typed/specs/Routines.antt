-- What runs in a program, in the order of its numbers from 1: the bodies of modules, those beside types, the procedures of modules,
-- and the methods of object types.
use Rattle.std.specs.Prelude.{ℕ, suc, List, [], ◌∷◌, ◌++◌, map, Bool, is_some, Option, Some, None, option_and_then}
use Rattle.aos_base.specs.Rooted.{by_number}
use Rattle.aos_typed.specs.declared.tree.TType.{TType}
use Rattle.aos_typed.specs.Program.{Body, Parameter, Variable, Procedure, ObjectType, Module, Program}

-- a module's body, or that of a procedure, a method or an object, which is none for a module's, and the number of the module whose
-- text it is
pub record Routine : Type 0 where
  pub home : ℕ
  pub own : Option Procedure
  pub body : Body

-- the parameters, the locals and the result; a module's body has none
abbrev pub parameters_of : Option Procedure → List Parameter
parameters_of None = []
parameters_of (Some q) = q.parameters

abbrev pub locals_of : Option Procedure → List Variable
locals_of None = []
locals_of (Some q) = q.locals

abbrev pub result_of : Option Procedure → Option TType
result_of own = option_and_then (λ q. q.result) own

-- the type whose method or objects' body it is, by its number; it is called on an object of that type, or is that object's body
abbrev pub self_type : Option Procedure → Option ℕ
self_type own = option_and_then (λ q. q.of) own

abbrev pub has_self : Option Procedure → Bool
has_self own = is_some (self_type own)

-- a function
abbrev pub gives : Option Procedure → Bool
gives own = is_some (result_of own)

-- what a module with this number declares, or a type of it
abbrev pub routine_of : ℕ → Procedure → Routine
routine_of m q = record { home = m; own = Some q; body = q.body }

-- the bodies of these modules, of which the first has this number, and the procedures that they declare
abbrev pub bodies_from : ℕ → List Module → List Routine
bodies_from m [] = []
bodies_from m (x ∷ xs) = record { home = m; own = None; body = x.body } ∷ bodies_from (suc m) xs

abbrev pub procedures_from : ℕ → List Module → List Routine
procedures_from m [] = []
procedures_from m (x ∷ xs) =
    map (routine_of m) x.procedures ++ procedures_from (suc m) xs

abbrev pub methods_from : List ObjectType → List Routine
methods_from [] = []
methods_from (o ∷ os) = map (λ m. routine_of o.home m.procedure) o.methods ++ methods_from os

abbrev pub routines : Program → List Routine
routines p =
    bodies_from 0 p.modules
    ++ (map (λ o. routine_of o.home o.body) p.objects ++ (procedures_from 0 p.modules ++ methods_from p.objects))

-- the parameters of what runs under a number
abbrev pub parameters_at : Program → ℕ → List Parameter
parameters_at p n = parameters_of (option_and_then (λ r. r.own) (by_number n (routines p)))
