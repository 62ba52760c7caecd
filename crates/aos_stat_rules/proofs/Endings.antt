-- What stands behind a call.
use Rattle.std.proofs.Common.{◌≡◌, List, [], ◌∷◌, Option, None, refl, sym}
use Rattle.aos_base.specs.declared.text.Pos.{Pos}
use Rattle.aos_tree.specs.declared.expr.Selector.{Selector}
use Rattle.aos_tree.specs.declared.expr.Selector.TheVariants as s
use Rattle.aos_typed.specs.Program.{Stat}
use Rattle.aos_symbols.specs.declared.breach.Breach.{Breach}
use Rattle.aos_symbols.specs.Breaches.{breach, first_after}
use Rattle.aos_symbols.specs.Judged.{Judged, kept}
use Rattle.aos_symbols.proofs.Keeping.{after_more}
use Rattle.aos_stat_rules.specs.Calls.{ended}

-- what stands behind a call is refused behind what the call breaks, and the call stays
pub ended_noted : (met : Option Breach) (first : Pos) (xs : List Selector) (j : Judged (Option Stat)) →
    first_after (first_after met j.breaches) (ended first xs (kept None)).breaches ≡ first_after met (ended first xs j).breaches
ended_noted met first [] j = refl
ended_noted met first (s.Field p n ∷ more) j = sym (after_more met j.breaches (breach 42 p))
ended_noted met first (s.Index' p shape row ∷ more) j = sym (after_more met j.breaches (breach 42 p))
ended_noted met first (s.Follow p ∷ more) j = sym (after_more met j.breaches (breach 42 p))
ended_noted met first (s.Paren' p shape row ∷ more) j = sym (after_more met j.breaches (breach 36 first))

pub ended_answer : (first : Pos) (xs : List Selector) (j : Judged (Option Stat)) → (ended first xs j).answer ≡ j.answer
ended_answer first [] j = refl
ended_answer first (s.Field p n ∷ more) j = refl
ended_answer first (s.Index' p shape row ∷ more) j = refl
ended_answer first (s.Follow p ∷ more) j = refl
ended_answer first (s.Paren' p shape row ∷ more) j = refl
