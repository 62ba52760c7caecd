-- Which variables are guarded, which initializers are quiet, and which conditions are local.
--
-- A condition that is local and held as a lock was passed to its waiter holds until that waiter's next turn: what it reads is written by
-- owners of the lock alone, or by initializers before anybody else knows the object.
use Rattle.std.specs.Prelude.{◌≡◌, ◌⊎◌, ℕ, ◌∷◌, nat_lt, nat_le, List, [], length, Bool, true, false, not, ◌&&◌, IsTrue, Option, Some, None, if◌then◌else◌, option_map, slice_get}
use Rattle.std.specs.Option.{unwrap_or}
use Rattle.aos_base.specs.Rooted.{by_number}
use Rattle.aos_types.specs.Extension.{comes_to}
use Rattle.aos_typed.specs.declared.tree.TType.TheVariants.{Named}
use Rattle.aos_typed.specs.Conditions.{Condition}
use Rattle.aos_typed.specs.Methods.{own_numbers, slots}
use Rattle.aos_typed.specs.Numbers.{id_of, procedure_number}
use Rattle.aos_typed.specs.Program.{Module, Procedure, Program}
use Rattle.aos_typed.specs.Routines.{Routine, has_self, parameters_of, routines}
use Rattle.aos_uses.specs.declared.uses.Variable.{Variable}
use Rattle.aos_uses.specs.declared.uses.Variable.TheVariants as variable
use Rattle.aos_uses.specs.declared.uses.Use.{Use}
use Rattle.aos_uses.specs.declared.uses.Use.TheVariants.{Writes, Reads, Varies, Follows, SelfValue, Calls, Raises, Finds, Binds, Makes}
use Rattle.aos_uses.specs.Uses.{expr_uses, routine_uses}

abbrev pub Each : (R : Use → Type 0) → List Use → Type 0
Each R [] = Unit {0}
Each R (u ∷ us) = R u × Each R us

-- a procedure is marked as an initializer
abbrev pub is_marked : Option Procedure → Bool
is_marked None = false
is_marked (Some q) = q.is_initializer

-- a variable of a module: its string constants are numbered on from its variables
abbrev pub has_variable : Option Module → ℕ → Bool
has_variable None k = false
has_variable (Some m) k = nat_lt k (length m.variables)

-- variables of modules and fields of objects
abbrev pub IsDeclared : Variable → Type 0
IsDeclared (variable.Module m k) = Unit {0}
IsDeclared (variable.Field t k) = Unit {0}
IsDeclared variable.Local = ⊥
IsDeclared variable.Passed = ⊥
IsDeclared (variable.Opened k) = ⊥
IsDeclared variable.Heap = ⊥

-- an open array parameter by value
abbrev pub is_by_value : Option Procedure → ℕ → Bool
is_by_value own k = unwrap_or (option_map (λ a. not a.by_reference) (slice_get (parameters_of own) k)) false

-- In a program.
module _ (p : Program) where
  -- each text, with the number under which it runs
  abbrev pub InEach : (R : ℕ → Routine → Use → Type 0) → Type 0
  InEach R = (n : ℕ) (r : Routine) → by_number n (routines p) ≡ Some r → Each (R n r) (routine_uses p r)

  -- Quiet initializers.

  -- what a type has in a slot, as the number under which it runs
  abbrev pub method_of : (type slot : ℕ) → Option ℕ
  method_of t k = if nat_lt t (length p.objects) then slice_get (slots p (own_numbers p) t) k else None

  -- a designator by this type and slot names a method, or one that the method overrides: some type has the method in the slot, and that
  -- type or a base of it has there what is named
  pub record IsNamed (method type slot : ℕ) : Type 0 where
    pub named : ℕ
    pub there : method_of type slot ≡ Some named
    pub owner : ℕ
    pub own : method_of owner slot ≡ Some method
    pub base : ℕ
    pub below : method_of base slot ≡ Some named
    pub extends : comes_to p.types (id_of (Named owner)) (id_of (Named base)) ≡ true

  -- the initializers: methods, whose numbers follow those of all else that runs, that are marked so
  abbrev pub is_initial : ℕ → Bool
  is_initial n = nat_le (procedure_number p (length p.modules) 0) n && unwrap_or (option_map (λ r. is_marked r.own) (by_number n (routines p))) false

  -- What is called by ^, 0 where there is nothing.
  abbrev pub raised : (type slot : ℕ) → ℕ
  raised t k = unwrap_or (method_of t k) 0

  -- In a text of the set there are no calls but those of predeclared procedures and those by ^ of initializers in the set, neither SELF
  -- nor a method is a value, and no object is made of a type with an initializer or a body. No text names one of the set, or what that
  -- overrides, but by ^ in an initializer of the set.
  abbrev pub Keeps : (Q : ℕ → Type 0) → (text : ℕ) → Use → Type 0
  Keeps Q j (Writes t x) = Unit {0}
  Keeps Q j (Reads t) = Unit {0}
  Keeps Q j (Varies t) = Unit {0}
  Keeps Q j Follows = Unit {0}
  Keeps Q j SelfValue = Q j → ⊥
  Keeps Q j Calls = Q j → ⊥
  Keeps Q j (Raises t k) = (Q j → Q (raised t k)) × ((n : ℕ) → IsNamed n t k → Q n → Q j)
  Keeps Q j (Finds t k) = (n : ℕ) → IsNamed n t k → Q n → ⊥
  Keeps Q j Binds = Q j → ⊥
  Keeps Q j Makes = Q j → ⊥

  pub record AreQuiet (Q : ℕ → Type 0) : Type 0 where
    pub initial : (n : ℕ) → Q n → IsTrue (is_initial n)
    pub uses : InEach (λ n r. Keeps Q n)

  -- in one such set, and so in the largest one, which has all of them
  pub record IsQuiet (n : ℕ) : Type 0 where
    pub set : ℕ → Bool
    pub are_quiet : AreQuiet (λ k. IsTrue (set k))
    pub is_in : IsTrue (set n)

  -- Guarded variables.

  abbrev pub is_of_module : (home number : ℕ) → Bool
  is_of_module m k = has_variable (slice_get p.modules m) k

  -- a text may write a variable: one of a module in an exclusive block of the module, a field through SELF in an exclusive block or in a
  -- quiet initializer
  abbrev pub MayWrite : (text : ℕ) → Routine → (through_self exclusive : Bool) → Variable → Type 0
  MayWrite n r self x (variable.Module m k) = IsTrue (is_of_module m k) × (IsTrue x × ((r.home ≡ m) × (has_self r.own ≡ false)))
  MayWrite n r self x (variable.Field t k) = IsTrue self × (IsTrue x ⊎ IsQuiet n)
  MayWrite n r self x variable.Local = Unit {0}
  MayWrite n r self x variable.Passed = Unit {0}
  MayWrite n r self x (variable.Opened k) = Unit {0}
  MayWrite n r self x variable.Heap = Unit {0}

  -- it is left as a guarded one may be: it isn't handed over for a VAR parameter, and is written where it may be alone
  abbrev pub Spares : Variable → (text : ℕ) → Routine → Use → Type 0
  Spares v n r (Writes t x) = t.of ≡ v → MayWrite n r t.through_self x t.of
  Spares v n r (Reads t) = Unit {0}
  Spares v n r (Varies t) = t.of ≡ v → ⊥
  Spares v n r Follows = Unit {0}
  Spares v n r SelfValue = Unit {0}
  Spares v n r Calls = Unit {0}
  Spares v n r (Raises t k) = Unit {0}
  Spares v n r (Finds t k) = Unit {0}
  Spares v n r Binds = Unit {0}
  Spares v n r Makes = Unit {0}

  abbrev pub IsGuarded : Variable → Type 0
  IsGuarded v = IsDeclared v × InEach (Spares v)

  -- Local conditions.

  -- what a condition in a body of this module, or of this procedure of it, may read: locals and parameters by value, guarded fields of SELF,
  -- and, where its lock is the module's, guarded variables of that. A string constant that nothing writes is guarded for all
  abbrev pub MayRead : (home : ℕ) → Option Procedure → (through_self : Bool) → Variable → Type 0
  MayRead h own self (variable.Module m k) =
      (IsTrue (not (is_of_module m k)) ⊎ ((h ≡ m) × (has_self own ≡ false))) × IsGuarded (variable.Module m k)
  MayRead h own self (variable.Field t k) = IsTrue self × IsGuarded (variable.Field t k)
  MayRead h own self variable.Local = Unit {0}
  MayRead h own self variable.Passed = ⊥
  MayRead h own self (variable.Opened k) = IsTrue (is_by_value own k)
  MayRead h own self variable.Heap = ⊥

  -- nothing is read through a pointer or another object
  abbrev pub Lets : (home : ℕ) → Option Procedure → Use → Type 0
  Lets h own (Writes t x) = ⊥
  Lets h own (Reads t) = MayRead h own t.through_self t.of
  Lets h own (Varies t) = ⊥
  Lets h own Follows = ⊥
  Lets h own SelfValue = Unit {0}
  Lets h own Calls = ⊥
  Lets h own (Raises t k) = ⊥
  Lets h own (Finds t k) = Unit {0}
  Lets h own Binds = Unit {0}
  Lets h own Makes = ⊥

  -- a condition is local: it reads only locals, parameters by value, and guarded variables of the lock under which it is awaited
  abbrev pub IsLocal : Condition → Type 0
  IsLocal c = Each (Lets c.home c.own) (expr_uses p c.expression)
