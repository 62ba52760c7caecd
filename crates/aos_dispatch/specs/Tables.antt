-- What the tables of types' methods are made of.
use Rattle.std.specs.Prelude.{◌≡◌, ℕ, zero, suc, ◌+◌, nat_lt, List, [], ◌∷◌, length, map, Option, Some, None, Bool, false, ◌||◌}
use Rattle.aos_typed.specs.declared.tree.TObject.{TObject}
use Rattle.std.specs.List.{fold, range_with_len}
use Rattle.aos_typed.specs.Numbers.{procedures_before}
use Rattle.aos_typed.specs.Program.{Program}
use Rattle.aos_typed.specs.Methods.{base_type, on_base, put_at, slots, own_numbers}
use Rattle.aos_dispatch.specs.Dispatch.{firsts_by}

-- the numbers of the first methods of types, behind those of all procedures
abbrev pub AreMethodFirsts : Program → List ℕ → Type 0
AreMethodFirsts p ns =
    ns ≡ firsts_by (λ o. length o.methods) (suc (length p.modules + length p.objects + procedures_before p (length p.modules))) p.objects

-- the methods of the first types, so many of them
abbrev pub AreFirstTables : Program → ℕ → List (List ℕ) → Type 0
AreFirstTables p k tables = tables ≡ map (λ j. slots p (own_numbers p) j) (range_with_len 0 k)

-- how many methods a type itself declares, where it is there
abbrev pub own_length : Option TObject → ℕ
own_length None = 0
own_length (Some o) = length o.methods.items

-- one of these types declares a method
abbrev pub declares_some : List TObject → Bool
declares_some [] = false
declares_some (o ∷ os) = nat_lt 0 (length o.methods.items) || declares_some os

-- a type and its bases, at most so many
abbrev pub chain_by : Program → ℕ → (type : ℕ) → List ℕ
chain_by p zero t = []
chain_by p (suc n) t = t ∷ on_base (chain_by p n) (base_type p t)

-- how many types stand in the chains of the first types, so many of them, where no more are met than a number says
abbrev pub AreHeights : Program → (most : ℕ) → ℕ → List ℕ → Type 0
AreHeights p most k heights = heights ≡ map (λ j. length (chain_by p most j)) (range_with_len 0 k)

-- what stands in the slots when each of these types, the last one first, has put its own methods in a table
abbrev pub put_all : {A : Type 0} → (own : ℕ → List (ℕ × A)) → List A → List ℕ → List A
put_all own table [] = table
put_all own table (t ∷ ts) = fold put_at (put_all own table ts) (own t)
