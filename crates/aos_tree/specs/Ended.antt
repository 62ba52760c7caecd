-- Token lists as a text has them: the last token and no other is End.
use Rattle.std.specs.Prelude.{◌≡◌, ◌≢◌, List, [], ◌∷◌}
use Rattle.aos_scan.specs.declared.token.Token.{Token}
use Rattle.aos_scan.specs.declared.token.TokenKind.TheVariants as k

abbrev pub IsEnded : List Token → Type 0
IsEnded [] = ⊥
IsEnded (t ∷ []) = t.kind ≡ k.End
IsEnded (t ∷ u ∷ ts) = (t.kind ≢ k.End) × IsEnded (u ∷ ts)
