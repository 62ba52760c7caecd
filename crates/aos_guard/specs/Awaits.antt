-- What is told of each condition.
use Rattle.std.specs.Prelude.{◌≡◌, ℕ, ◌+◌, ◌*◌, List, [], ◌∷◌, IsTrue}
use Rattle.std.specs.List.Sorted.{IsNonDecreasingBy, IsPermutation}
use Rattle.aos_code.specs.declared.report.AwaitRec.{AwaitRec}
use Rattle.aos_typed.specs.Conditions.{Condition, conditions}
use Rattle.aos_typed.specs.Program.{Program}
use Rattle.aos_uses.specs.Guarded.{IsLocal}

module _ (p : Program) where
  abbrev pub Tells : Condition → AwaitRec → Type 0
  Tells c t = (t.module ≡ c.home) × ((t.pos ≡ c.at) × ((IsTrue t.is_local → IsLocal p c) × (IsLocal p c → IsTrue t.is_local)))

  -- this is told of these conditions, in their order
  abbrev pub AreTold : List Condition → List AwaitRec → Type 0
  AreTold [] [] = Unit {0}
  AreTold [] (t ∷ ts) = ⊥
  AreTold (c ∷ cs) [] = ⊥
  AreTold (c ∷ cs) (t ∷ ts) = Tells c t × AreTold cs ts

  -- each condition is told once
  pub record TellsEach (ts : List AwaitRec) : Type 0 where
    pub told : List AwaitRec
    pub are : AreTold (conditions p) told
    pub once : IsPermutation told ts

-- where a condition comes in the order: by its module, and there by its line and its column, each of which has 32 bits
abbrev pub place_of : AwaitRec → ℕ
place_of t = (t.module * 4294967296 + t.pos.line) * 4294967296 + t.pos.col

abbrev pub AreInOrder : List AwaitRec → Type 0
AreInOrder ts = IsNonDecreasingBy place_of ts
