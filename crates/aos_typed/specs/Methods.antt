-- The methods of object types by their slots (Reali 2002, section on methods): a type has those of its base, of which each that it
-- declares anew takes the place of the one that it overrides, and behind them its new ones.
use Rattle.std.specs.Prelude.{ℕ, zero, suc, ◌+◌, ◌-◌, nat_lt, List, [], ◌∷◌, ◌++◌, length, map, sum_by, take, fold, slice_get, slice_set, Option, Some, None, option_map, if◌then◌else◌, Bool, false}
use Rattle.std.specs.Option.{unwrap_or}
use Rattle.aos_base.specs.declared.priority.Priority.{Priority}
use Rattle.aos_base.specs.declared.priority.Priority.TheVariants.{Normal}
use Rattle.aos_types.specs.Table.{row_of, base_of}
use Rattle.aos_typed.specs.declared.tree.TType.TheVariants.{Named}
use Rattle.aos_typed.specs.Program.{Procedure, Method, ObjectType, Program}
use Rattle.aos_typed.specs.Numbers.{id_of, predeclared_types, procedures_before}

-- the element with a number is replaced by this one, which comes behind all where there is none
abbrev pub put_at : {A : Type 0} → List A → ℕ × A → List A
put_at xs m = if nat_lt m.0 (length xs) then slice_set xs m.0 m.1 else xs ++ m.1 ∷ []

-- the methods that a type declares
abbrev pub methods_in : Option ObjectType → List Method
methods_in None = []
methods_in (Some o) = o.methods

abbrev pub own_methods : Program → (type : ℕ) → List Method
own_methods p t = methods_in (slice_get p.objects t)

-- the number of a type's base among the types of the program
abbrev pub base_type : Program → (type : ℕ) → Option ℕ
base_type p t = option_map (λ b. b.0 - predeclared_types) (base_of (row_of p.types (id_of (Named t))))

abbrev pub on_base : {A : Type 0} → (ℕ → List A) → Option ℕ → List A
on_base f None = []
on_base f (Some b) = f b

-- what the nearest type of a chain tells, the type itself first; it has at most so many bases, itself among them
abbrev pub or_base : {A : Type 0} → (ℕ → Option A) → Option A → Option ℕ → Option A
or_base f (Some a) b = Some a
or_base f None None = None
or_base f None (Some b) = f b

abbrev pub nearest_by : {A : Type 0} → Program → (told : ℕ → Option A) → ℕ → (type : ℕ) → Option A
nearest_by p told zero t = None
nearest_by p told (suc n) t = or_base (nearest_by p told n) (told t) (base_type p t)

abbrev pub nearest : {A : Type 0} → Program → (told : ℕ → Option A) → (type : ℕ) → Option A
nearest p told t = nearest_by p told (length p.objects) t

-- a type that has a body of its own, and whether that is active
abbrev pub has_body : Program → (type : ℕ) → Bool
has_body p t = unwrap_or (option_map (λ o. o.has_body) (slice_get p.objects t)) false

abbrev pub is_active : Program → (type : ℕ) → Bool
is_active p t = unwrap_or (option_map (λ o. o.is_active) (slice_get p.objects t)) false

-- the type whose body the objects of a type have, which is the nearest one that has a body
abbrev pub body_type : Program → (type : ℕ) → Option ℕ
body_type p t = nearest p (λ u. if has_body p u then Some u else None) t

-- the priority of the activities that carry out a type's own body
abbrev pub own_priority : Program → (type : ℕ) → Priority
own_priority p t = unwrap_or (option_map (λ o. o.priority) (slice_get p.objects t)) Normal

-- and that of those that carry out the body of a type, which is the normal one where there is none
abbrev pub priority_by : Program → (body_of : Option ℕ) → Priority
priority_by p None = Normal
priority_by p (Some b) = own_priority p b

-- the slot of the initializer that a type declares, and of the one that its objects have
abbrev pub initial_slot : List Method → Option ℕ
initial_slot [] = None
initial_slot (m ∷ ms) = if m.procedure.is_initializer then Some m.slot else initial_slot ms

abbrev pub initializer : Program → (type : ℕ) → Option ℕ
initializer p t = nearest p (λ u. initial_slot (own_methods p u)) t

-- what stands in the slots of a type, where own says what its own methods put in theirs; it has at most so many bases, itself among
-- them
abbrev pub slots_by : {A : Type 0} → Program → (own : ℕ → List (ℕ × A)) → ℕ → (type : ℕ) → List A
slots_by p own zero t = []
slots_by p own (suc n) t = fold put_at (on_base (slots_by p own n) (base_type p t)) (own t)

abbrev pub slots : {A : Type 0} → Program → (own : ℕ → List (ℕ × A)) → (type : ℕ) → List A
slots p own t = slots_by p own (length p.objects) t

-- the procedures of a type's own methods, and their numbers among what runs, which follow those of all modules' procedures
abbrev pub slot_of : Method → ℕ × Procedure
slot_of m = (m.slot, m.procedure)

abbrev pub own_procedures : Program → (type : ℕ) → List (ℕ × Procedure)
own_procedures p t = map slot_of (own_methods p t)

abbrev pub methods_before : Program → (type : ℕ) → ℕ
methods_before p t = sum_by (λ o. length o.methods) (take t p.objects)

abbrev pub first_method : Program → (type : ℕ) → ℕ
first_method p t = suc (length p.modules + length p.objects + procedures_before p (length p.modules) + methods_before p t)

abbrev pub numbered_from : ℕ → List Method → List (ℕ × ℕ)
numbered_from n [] = []
numbered_from n (m ∷ ms) = (m.slot, n) ∷ numbered_from (suc n) ms

abbrev pub own_numbers : Program → (type : ℕ) → List (ℕ × ℕ)
own_numbers p t = numbered_from (first_method p t) (own_methods p t)

-- the methods of a type
abbrev pub methods_of : Program → (type : ℕ) → List Procedure
methods_of p t = slots p (own_procedures p) t

-- the method that a type has in a slot
abbrev pub method_in : Program → (type slot : ℕ) → Option Procedure
method_in p t k = slice_get (methods_of p t) k

-- its number among what runs, 0 where there is none
abbrev pub method_number : Program → (type slot : ℕ) → ℕ
method_number p t k = unwrap_or (slice_get (slots p (own_numbers p) t) k) 0
