-- What a pass, a module or all files come to: a refusal, or what they give. Passes, modules and files stand in an order, and
-- the first of them that breaks a rule refuses; within a pass the first breach does.
use Rattle.std.specs.Prelude.{ℕ, List, [], ◌∷◌, Option, Some, None}
use Rattle.aos_base.specs.declared.text.Pos.{Pos}
use Rattle.aos_base.specs.declared.text.Refusal.{Refusal}
use Rattle.aos_symbols.specs.declared.breach.Breach.{Breach}
use Rattle.aos_symbols.specs.Breaches.{first}
use Rattle.aos_symbols.specs.Judged.{Judged}

pub data Outcome (A : Type 0) : Type 0 where
  refused : Refusal → Outcome A
  went : A → Outcome A

abbrev pub then : {A B : Type 0} → Outcome A → (A → Outcome B) → Outcome B
then (refused r) f = refused r
then (went a) f = f a

-- a rule that is broken at a place of a file
abbrev pub refusal : (rule file : ℕ) → Pos → Refusal
refusal rule file at = record { rule = rule; file = file; pos = at }

abbrev pub refusal_of : ℕ → Breach → Refusal
refusal_of file b = refusal b.rule file b.pos

abbrev pub decided : {A : Type 0} → ℕ → Option Breach → A → Outcome A
decided file None a = went a
decided file (Some b) a = refused (refusal_of file b)

-- a pass over a file
abbrev pub passed : {A : Type 0} → ℕ → Judged A → Outcome A
passed file j = decided file (first j.breaches) j.answer

-- one after another, each with what those before it gave
abbrev pub in_turn : {A X : Type 0} → (A → X → Outcome A) → A → List X → Outcome A
in_turn step a [] = went a
in_turn step a (x ∷ xs) = then (step a x) (λ b. in_turn step b xs)
