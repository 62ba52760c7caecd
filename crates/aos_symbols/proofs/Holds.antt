-- What holds of an answer where no rule is broken, through the parts of a tree.
use Rattle.std.proofs.Common.{◌≡◌, ℕ, List, [], ◌∷◌, ◌++◌, Bool, true, false, ◌&&◌, Option, Some, None, refl, sym, if◌then◌else◌}
use Rattle.std.proofs.lemmas.Option.{none-some}
use Rattle.aos_base.specs.declared.text.Pos.{Pos}
use Rattle.aos_base.specs.declared.text.Refusal.{Refusal}
use Rattle.aos_symbols.specs.declared.breach.Breach.{Breach}
use Rattle.aos_symbols.specs.Breaches.{is_before, first_after, first, breach_unless}
use Rattle.aos_symbols.specs.Judged.{Judged, judged, bind, walk}
use Rattle.aos_symbols.specs.Outcome as outcome
use Rattle.aos_symbols.specs.Outcome.{Outcome, refused, went, decided, passed, refusal_of}

abbrev pub Holds : {A : Type 0} → (A → Type 0) → Judged A → Type 0
Holds P j = j.breaches ≡ [] → P j.answer

-- a list of breaches is empty where each of its parts is
pub none_left : {X : Type 0} (xs ys : List X) → xs ++ ys ≡ [] → xs ≡ []
none_left [] ys e = refl
none_left (x ∷ xs) ys e = cc

pub none_right : {X : Type 0} (xs ys : List X) → xs ++ ys ≡ [] → ys ≡ []
none_right [] ys e = e
none_right (x ∷ xs) ys e = cc

some_none : {X : Type 0} (x : X) (xs : List X) → x ∷ xs ≡ [] → ⊥
some_none x xs e = cc

-- what breaks a rule may be anything
pub broken : {A : Type 0} (P : A → Type 0) (b : Breach) (bs : List Breach) (a : A) → Holds P (judged (b ∷ bs) a)
broken P b bs a e = absurd (some_none b bs e)

pub test_is : (b : Bool) (rule : ℕ) (at : Pos) → breach_unless b rule at ≡ [] → b ≡ true
test_is true rule at e = refl
test_is false rule at e = cc

pub second_is : (a b : Bool) → (a && b) ≡ true → b ≡ true
second_is true b e = e
second_is false b e = cc

-- one part after another, and a list of them
pub holds_bind : {A B : Type 0} (P : A → Type 0) (Q : B → Type 0) (j : Judged A) (f : A → Judged B) →
    Holds P j → ((a : A) → P a → Holds Q (f a)) → Holds Q (bind j f)
holds_bind P Q j f h k e = k j.answer (h (none_left j.breaches (f j.answer).breaches e)) (none_right j.breaches (f j.answer).breaches e)

pub holds_walk : {A X : Type 0} (P : A → Type 0) (step : A → X → Judged A) → ((a : A) (x : X) → P a → Holds P (step a x)) →
    (xs : List X) (a : A) → P a → Holds P (walk step a xs)
holds_walk P step each [] a p = λ e. p
holds_walk P step each (x ∷ xs) a p =
    holds_bind P P (step a x) (λ b. walk step b xs) (each a x p) (λ b q. holds_walk P step each xs b q)

-- What went has broken nothing.

abbrev NeverNone : Option Breach → List Breach → Type 0
NeverNone met bs = first_after met bs ≡ None → ⊥

met_stays : (bs : List Breach) (a : Breach) → NeverNone (Some a) bs
met_stays [] a e = none-some a (sym e)
met_stays (b ∷ bs) a e = either (is_before b a) (met_stays bs b) (met_stays bs a) e
  where
    either : (w : Bool) → NeverNone (Some b) bs → NeverNone (Some a) bs → NeverNone (if w then Some b else Some a) bs
    either true x y = x
    either false x y = y

pub none_first : (bs : List Breach) → first bs ≡ None → bs ≡ []
none_first [] e = refl
none_first (b ∷ bs) e = absurd (met_stays bs b e)

pub same_went : {A : Type 0} (a b : A) → went a ≡ went b → a ≡ b
same_went a b e = cc

refused_went : {A : Type 0} (r : Refusal) (a : A) → refused r ≡ went a → ⊥
refused_went r a e = cc

pub passed_went : {A : Type 0} (file : ℕ) (j : Judged A) (a : A) → passed file j ≡ went a → (j.breaches ≡ []) × (j.answer ≡ a)
passed_went {A} file j a e = by (first j.breaches) refl e
  where
    by : (o : Option Breach) → first j.breaches ≡ o → decided file o j.answer ≡ went a → (j.breaches ≡ []) × (j.answer ≡ a)
    by None is e = (none_first j.breaches is, same_went j.answer a e)
    by (Some b) is e = absurd (refused_went (refusal_of file b) a e)

pub then_went : {A B : Type 0} (o : Outcome A) (f : A → Outcome B) (b : B) → outcome.then o f ≡ went b → (a : A) × (o ≡ went a) × (f a ≡ went b)
then_went (refused r) f b e = absurd (refused_went r b e)
then_went (went a) f b e = (a, refl, e)
