-- What can be told of the production that begins tokens: its tree and its end, the place where another token is expected, or
-- the place where the nesting passes the limit. Each excludes the others and is told of one place alone, so that a parser
-- that tells one tells exactly what holds. `reads` is the production.
use Rattle.std.specs.Prelude.{◌≡◌, List}
use Rattle.aos_base.specs.declared.text.Pos.{Pos}
use Rattle.aos_scan.specs.declared.token.Token.{Token}
use Rattle.aos_tree.specs.Begins.{CeasesAt, ExpectsAt, TooDeepAt}
use Rattle.aos_tree.specs.Nesting.{Rule, shallow}

module _ {A : Type 0} (reads : Rule → A → List Token → List Token → Type 0) where
  -- a tree reads the tokens up to `rest`, none of them too deep, and the next does not go on with them
  pub record EndsAt (ts rest : List Token) : Type 0 where
    pub tree : A
    pub whole : reads shallow tree ts rest
    pub longest : CeasesAt reads ts rest

  pub record ExcludeOneAnother (ts : List Token) : Type 0 where
    pub one_end : (rest rest' : List Token) → EndsAt ts rest → EndsAt ts rest' → rest ≡ rest'
    pub one_expected : (p q : Pos) → ExpectsAt reads ts p → ExpectsAt reads ts q → p ≡ q
    pub one_deep : (p q : Pos) → TooDeepAt reads ts p → TooDeepAt reads ts q → p ≡ q
    pub end_or_expected : (rest : List Token) (p : Pos) → EndsAt ts rest → ExpectsAt reads ts p → ⊥
    pub end_or_deep : (rest : List Token) (p : Pos) → EndsAt ts rest → TooDeepAt reads ts p → ⊥
    pub expected_or_deep : (p q : Pos) → ExpectsAt reads ts p → TooDeepAt reads ts q → ⊥
