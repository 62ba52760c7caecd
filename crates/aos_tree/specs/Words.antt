-- Single tokens and names in the grammar: what reads them, at a nesting d.
use Rattle.std.specs.Prelude.{◌≡◌, ℕ, List, [], ◌∷◌, Some, None, true}
use Rattle.aos_base.specs.declared.text.Pos.{Pos}
use Rattle.aos_scan.specs.declared.token.Token.{Token}
use Rattle.aos_scan.specs.declared.token.TokenKind.{TokenKind}
use Rattle.aos_scan.specs.declared.token.TokenKind.TheVariants as k
use Rattle.aos_tree.specs.declared.name.Name.{Name}
use Rattle.aos_tree.specs.declared.name.Qualident.{Qualident}
use Rattle.aos_tree.specs.Nesting.{Rule}
use Rattle.aos_tree.specs.Operators.{name_at}

-- a token of this kind, at this place
pub data IsWord (may : Rule) (d : ℕ) (kind : TokenKind) : Pos → List Token → List Token → Type 0 where
  word : {t : Token} {ts : List Token} → t.kind ≡ kind → may d ts ≡ true → IsWord may d kind t.pos (t ∷ ts) ts

-- ident
pub data IsName (may : Rule) (d : ℕ) : Name → List Token → List Token → Type 0 where
  ident : {t : Token} {ts : List Token} → t.kind ≡ k.Ident → may d ts ≡ true → IsName may d (name_at t) (t ∷ ts) ts

-- ident {"," ident}
mutual
  pub data IsNames (may : Rule) (d : ℕ) : List Name → List Token → List Token → Type 0 where
    names : {a : Name} {more : List Name} {ts mid rest : List Token} →
        IsName may d a ts mid → IsMoreNames may d more mid rest → IsNames may d (a ∷ more) ts rest

  pub data IsMoreNames (may : Rule) (d : ℕ) : List Name → List Token → List Token → Type 0 where
    no_more_names : {ts : List Token} → IsMoreNames may d [] ts ts
    another_name : {p : Pos} {a : Name} {more : List Name} {ts from mid rest : List Token} →
        IsWord may d k.Comma p ts from → IsName may d a from mid → IsMoreNames may d more mid rest →
        IsMoreNames may d (a ∷ more) ts rest

-- Qualident = ident ["." ident].
pub data IsQualident (may : Rule) (d : ℕ) : Qualident → List Token → List Token → Type 0 where
  plain : {a : Name} {ts rest : List Token} →
      IsName may d a ts rest → IsQualident may d (record { first = a; second = None }) ts rest
  qualified : {p : Pos} {a b : Name} {ts from mid rest : List Token} →
      IsName may d a ts from → IsWord may d k.Period p from mid → IsName may d b mid rest →
      IsQualident may d (record { first = a; second = Some b }) ts rest
