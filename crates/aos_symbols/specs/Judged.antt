-- A part of a tree: the rules that it breaks, in the order of a walk, and what is known of it.
use Rattle.std.specs.Prelude.{List, [], ◌∷◌, ◌++◌, Option, Some, None}
use Rattle.aos_symbols.specs.declared.breach.Breach.{Breach}

pub record Judged (A : Type 0) : Type 0 where
  pub breaches : List Breach
  pub answer : A

abbrev pub judged : {A : Type 0} → List Breach → A → Judged A
judged bs a = record { breaches = bs; answer = a }

-- a part that breaks no rule
abbrev pub kept : {A : Type 0} → A → Judged A
kept a = judged [] a

-- a part, and what its answer leads to
abbrev pub bind : {A B : Type 0} → Judged A → (A → Judged B) → Judged B
bind a f = let b = f a.answer in judged (a.breaches ++ b.breaches) b.answer

-- several parts one after another, each with the answer so far
abbrev pub walk : {A X : Type 0} → (A → X → Judged A) → A → List X → Judged A
walk step a [] = kept a
walk step a (x ∷ xs) = bind (step a x) (λ b. walk step b xs)

-- a part that there may be
abbrev pub optional : {A X : Type 0} → (X → Judged A) → A → Option X → Judged A
optional judge a None = kept a
optional judge a (Some x) = judge x
