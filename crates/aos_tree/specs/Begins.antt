-- How far tokens begin a production, and where they cease to. `reads` is the production: under a rule for the nesting,
-- which tree reads which tokens up to which rest.
use Rattle.std.specs.Prelude.{◌≡◌, ◌++◌, List, [], ◌∷◌, length, ◌⊎◌}
use Rattle.aos_base.specs.declared.text.Pos.{Pos}
use Rattle.aos_scan.specs.declared.token.Token.{Token}
use Rattle.aos_scan.specs.declared.token.TokenKind.TheVariants as k
use Rattle.aos_tree.specs.Nesting.{Rule, anywhere, shallow, shallow_before}

module _ {A : Type 0} (reads : Rule → A → List Token → List Token → Type 0) where
  -- a tree reads some continuation of `front`, up to the end of the text
  pub record Begins (front : List Token) : Type 0 where
    pub tree : A
    pub more : List Token
    pub end : Token
    pub is_end : end.kind ≡ k.End
    pub whole : reads anywhere tree (front ++ (more ++ (end ∷ []))) (end ∷ [])

  -- the same, where no token of `front` is nested deeper than 200
  pub record BeginsWithin (front : List Token) : Type 0 where
    pub tree : A
    pub more : List Token
    pub end : Token
    pub is_end : end.kind ≡ k.End
    pub whole : reads (shallow_before (length (more ++ (end ∷ [])))) tree (front ++ (more ++ (end ∷ []))) (end ∷ [])

  -- The tokens `ts` up to `rest` are the longest that a tree reads from there: the next doesn't go on with them.
  pub record CeasesAt (ts rest : List Token) : Type 0 where
    pub front : List Token
    pub next : Token
    pub after : List Token
    pub whole : ts ≡ front ++ rest
    pub rest_is : rest ≡ next ∷ after
    pub no_further : Begins (front ++ (next ∷ [])) → ⊥

  -- Another token is expected at p: those before it begin a tree and are no whole one, those up to it begin none, and
  -- some other token could stand there, not too deep.
  pub record ExpectsAt (ts : List Token) (p : Pos) : Type 0 where
    pub front : List Token
    pub next : Token
    pub after : List Token
    pub whole : ts ≡ front ++ (next ∷ after)
    pub place : next.pos ≡ p
    pub begins : BeginsWithin front
    pub unfinished : (a : A) → reads shallow a ts (next ∷ after) → ⊥
    pub no_further : Begins (front ++ (next ∷ [])) → ⊥
    pub other : (u : Token) × BeginsWithin (front ++ (u ∷ []))

  -- The nesting passes 200 at p: the tokens before it begin a tree within the limit, those up to it don't, and either it
  -- goes on, too deep, or those before it are no whole one and whatever could stand there would be too deep.
  pub record TooDeepAt (ts : List Token) (p : Pos) : Type 0 where
    pub front : List Token
    pub next : Token
    pub after : List Token
    pub whole : ts ≡ front ++ (next ∷ after)
    pub place : next.pos ≡ p
    pub begins : BeginsWithin front
    pub no_further : BeginsWithin (front ++ (next ∷ [])) → ⊥
    pub deeper : Begins (front ++ (next ∷ []))
        ⊎ (((a : A) → reads shallow a ts (next ∷ after) → ⊥) × ((u : Token) → BeginsWithin (front ++ (u ∷ [])) → ⊥))
