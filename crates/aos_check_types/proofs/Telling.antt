-- Parts that are judged one after another, by functions that tell of them.
use Rattle.std.proofs.Common.{◌≡◌, ◌<◌, ◌≤◌, ℕ, ◌+◌, List, length, get_or, drop, Option, Result, Ok, Err, IfOk, refl, sym, ap, ◌∙◌, subst}
use Rattle.aos_symbols.specs.declared.breach.Breach.{Breach}
use Rattle.aos_symbols.specs.Breaches.{first_after}
use Rattle.aos_symbols.specs.Judged.{Judged, kept, bind, walk}
use Rattle.aos_symbols.proofs.Keeping.{after_two}
use Rattle.aos_symbols.proofs.Steps.{walk_step, walk_end}
use Rattle.aos_check_types.specs.Told.{Told, Tells}

-- a part, and what its answer leads to
pub bound : {A B : Type 0} (a : Judged A) (f : A → Judged B) {before between behind : Option Breach} {x : A} {y : B} →
    between ≡ first_after before a.breaches → x ≡ a.answer → behind ≡ first_after between (f x).breaches → y ≡ (f x).answer → Told (bind a f) before behind y
bound a f {before = before} {between = between} noted is then_noted then_is = record {
  noted = after_two before a.breaches (f a.answer).breaches noted (then_noted ∙ ap (λ z. first_after between (f z).breaches) is);
  is = then_is ∙ ap (λ z. (f z).answer) is;
}

pub then_told : {A B : Type 0} (a : Judged A) (f : A → Judged B) {before between behind : Option Breach} {x : A} {y : B} →
    Told a before between x → Told (f x) between behind y → Told (bind a f) before behind y
then_told a f one two = bound a f one.noted one.is two.noted two.is

-- the same where the last function makes the answer
pub then_tells : {A B C E : Type 0} (a : Judged A) (f : A → Judged B) (r : Result C E) (seen : C → B) (behind : Option Breach) {before between : Option Breach} {x : A} →
    Told a before between x → Tells r between behind seen (f x) → Tells r before behind seen (bind a f)
then_tells a f (Ok c) seen behind one two = then_told a f one two
then_tells a f (Err e) seen behind one two = two

-- a part that breaks no rule
pub kept_tells : {A C E : Type 0} (a : A) (r : Result C E) (seen : C → A) (met : Option Breach) → IfOk r (λ c. seen c ≡ a) → Tells r met met seen (kept a)
kept_tells a (Ok c) seen met is = record { noted = refl; is = is }
kept_tells a (Err e) seen met is = is

-- the same part in other words
pub tells_as : {A C E : Type 0} (r : Result C E) (seen : C → A) (before behind : Option Breach) (j k : Judged A) → k ≡ j → Tells r before behind seen j → Tells r before behind seen k
tells_as {A = A} r seen before behind j k is = subst (λ (j : Judged A). Tells r before behind seen j) (sym is)

-- What is left to judge, and what there was to judge: both lead to the same.
pub record Leads {A : Type 0} (left whole : Judged A) (before begun : Option Breach) : Type 0 where
  pub noted : first_after before left.breaches ≡ first_after begun whole.breaches
  pub answer : left.answer ≡ whole.answer

-- one part more
pub led_by : {A B : Type 0} (one : Judged A) (rest : A → Judged B) (left whole : Judged B) {before begun behind : Option Breach} {b : A} →
    Leads left whole before begun → left ≡ bind one rest → Told one before behind b → Leads (rest b) whole behind begun
led_by {B = B} one rest left whole {before = before} {behind = behind} leads is told = record {
  noted = ap (λ z. first_after behind (rest z).breaches) told.is
      ∙ after_two before one.breaches (rest one.answer).breaches told.noted refl
      ∙ ap (λ (j : Judged B). first_after before j.breaches) (sym is) ∙ leads.noted;
  answer = ap (λ z. (rest z).answer) told.is ∙ ap (λ (j : Judged B). j.answer) (sym is) ∙ leads.answer;
}

-- no part is left
pub led_end : {A : Type 0} (left whole : Judged A) {behind begun : Option Breach} (a : A) → Leads left whole behind begun → left ≡ kept a → Told whole begun behind a
led_end {A = A} left whole {behind = behind} a leads is = record {
  noted = ap (λ (j : Judged A). first_after behind j.breaches) (sym is) ∙ leads.noted;
  is = ap (λ (j : Judged A). j.answer) (sym is) ∙ leads.answer;
}

-- the same of a walk over a list
pub walk_on : {A X : Type 0} (step : A → X → Judged A) (a : A) (xs : List X) (i : ℕ) (x : X) (whole : Judged A) {before begun behind : Option Breach} {b : A} →
    Leads (walk step a (drop i xs)) whole before begun → i < length xs → x ≡ get_or xs i x → Told (step a x) before behind b →
    Leads (walk step b (drop (i + 1) xs)) whole behind begun
walk_on {X = X} step a xs i x whole {before = before} {behind = behind} {b = b} leads lt is told =
    led_by (step a (get_or xs i x)) (λ b. walk step b (drop (i + 1) xs)) (walk step a (drop i xs)) whole leads (walk_step step a xs i x lt)
    (subst (λ (y : X). Told (step a y) before behind b) is told)

pub walk_done : {A X : Type 0} (step : A → X → Judged A) (a : A) (xs : List X) (i : ℕ) (whole : Judged A) {behind begun : Option Breach} →
    Leads (walk step a (drop i xs)) whole behind begun → length xs ≤ i → Told whole begun behind a
walk_done step a xs i whole leads le = led_end (walk step a (drop i xs)) whole a leads (walk_end step a xs i le)
