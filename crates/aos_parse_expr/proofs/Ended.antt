-- Tokens of which the last and no other is End, from the list of the others.
use Rattle.std.proofs.Common.{◌≡◌, ◌++◌, List, [], ◌∷◌}
use Rattle.std.specs.Prelude.{◌≢◌, All}
use Rattle.std.proofs.lemmas.List.Elements.{All-head, All-tail}
use Rattle.aos_scan.specs.declared.token.Token.{Token}
use Rattle.aos_scan.specs.declared.token.TokenKind.TheVariants as k
use Rattle.aos_tree.specs.Ended.{IsEnded}

abbrev NotEnd : Token → Type 0
NotEnd t = t.kind ≢ k.End

pub ended : (others : List Token) (end : Token) → All (λ t. t.kind ≢ k.End) others → end.kind ≡ k.End → IsEnded (others ++ (end ∷ []))
ended [] end none is = is
ended (t ∷ []) end none is = (All-head NotEnd t [] none, is)
ended (t ∷ u ∷ us) end none is = (All-head NotEnd t (u ∷ us) none, ended (u ∷ us) end (All-tail NotEnd t (u ∷ us) none) is)
