-- Optional parts of productions, each as the parser reads it.
use Rattle.std.specs.Prelude.{◌≡◌, ℕ, List, [], ◌∷◌, Option, Some, None, true}
use Rattle.aos_base.specs.declared.text.Pos.{Pos}
use Rattle.aos_scan.specs.declared.token.Token.{Token}
use Rattle.aos_scan.specs.declared.token.TokenKind.{TokenKind}
use Rattle.aos_scan.specs.declared.token.TokenKind.TheVariants as k
use Rattle.aos_tree.specs.declared.name.Name.{Name}
use Rattle.aos_tree.specs.declared.name.Qualident.{Qualident}
use Rattle.aos_tree.specs.declared.expr.Expr.{Expr}
use Rattle.aos_tree.specs.declared.decl.Export.{Export}
use Rattle.aos_tree.specs.declared.decl.Mark.{Mark}
use Rattle.aos_tree.specs.declared.decl.Fields.{Fields}
use Rattle.aos_tree.specs.Nesting.{Rule}
use Rattle.aos_tree.specs.Operators.{export_of}
use Rattle.aos_tree.specs.Words.{IsWord, IsName, IsQualident}
use Rattle.aos_tree.specs.ExprGrammar.{IsExprs}
use Rattle.aos_tree.specs.DeclGrammar.{IsFields, IsMoreFields}

-- [word], and its place where it is there
pub data IsOptional (may : Rule) (d : ℕ) (kind : TokenKind) : Option Pos → List Token → List Token → Type 0 where
  left_out : {ts : List Token} → IsOptional may d kind None ts ts
  there : {p : Pos} {ts rest : List Token} → IsWord may d kind p ts rest → IsOptional may d kind (Some p) ts rest

-- [word ident], where the word is one of this kind
pub data IsNameOption (may : Rule) (d : ℕ) (kind : TokenKind) : Option Name → List Token → List Token → Type 0 where
  no_name : {ts : List Token} → IsNameOption may d kind None ts ts
  name : {p : Pos} {a : Name} {ts mid rest : List Token} →
      IsWord may d kind p ts mid → IsName may d a mid rest → IsNameOption may d kind (Some a) ts rest

-- ["*" | "-"]
pub data IsMark (may : Rule) (d : ℕ) : Option Mark → List Token → List Token → Type 0 where
  no_mark : {ts : List Token} → IsMark may d None ts ts
  mark : {a : Export} {t : Token} {rest : List Token} → export_of t.kind ≡ Some a → may d rest ≡ true →
      IsMark may d (Some (record { pos = t.pos; export = a })) (t ∷ rest) rest

-- [":" Qualident]
pub data IsResult (may : Rule) (d : ℕ) : Option Qualident → List Token → List Token → Type 0 where
  no_result : {ts : List Token} → IsResult may d None ts ts
  result_of : {p : Pos} {a : Qualident} {ts mid rest : List Token} →
      IsWord may d k.Colon p ts mid → IsQualident may d a mid rest → IsResult may d (Some a) ts rest

-- [Expr {"," Expr}]
pub data IsLengths (may : Rule) (d : ℕ) : List Expr → List Token → List Token → Type 0 where
  no_lengths : {ts : List Token} → IsLengths may d [] ts ts
  lengths : {all : List Expr} {ts rest : List Token} → IsExprs may d all ts rest → IsLengths may d all ts rest

-- Fields {";" Fields}
pub data IsFieldList (may : Rule) (d : ℕ) : List Fields → List Token → List Token → Type 0 where
  field_list : {a : Fields} {more : List Fields} {ts mid rest : List Token} →
      IsFields may d a ts mid → IsMoreFields may d more mid rest → IsFieldList may d (a ∷ more) ts rest
