-- Which tokens are which operators, and what a name and a text keep of their token.
use Rattle.std.specs.Prelude.{Option, Some, None}
use Rattle.aos_scan.specs.declared.token.Token.{Token}
use Rattle.aos_scan.specs.declared.token.TokenKind.{TokenKind}
use Rattle.aos_scan.specs.declared.token.TokenKind.TheVariants as k
use Rattle.aos_tree.specs.declared.name.Name.{Name}
use Rattle.aos_tree.specs.declared.name.Text.{Text}
use Rattle.aos_tree.specs.declared.expr.RelationOp.{RelationOp}
use Rattle.aos_tree.specs.declared.expr.RelationOp.TheVariants as relation
use Rattle.aos_tree.specs.declared.expr.AddOp.{AddOp}
use Rattle.aos_tree.specs.declared.expr.AddOp.TheVariants as add
use Rattle.aos_tree.specs.declared.expr.MulOp.{MulOp}
use Rattle.aos_tree.specs.declared.expr.MulOp.TheVariants as mul
use Rattle.aos_tree.specs.declared.expr.Sign.{Sign}
use Rattle.aos_tree.specs.declared.expr.Sign.TheVariants as sign
use Rattle.aos_tree.specs.declared.decl.Export.{Export}
use Rattle.aos_tree.specs.declared.decl.Export.TheVariants as export

abbrev pub relation_of : TokenKind → Option RelationOp
relation_of k.Equals = Some relation.Equal
relation_of k.NotEquals = Some relation.NotEqual
relation_of k.Less = Some relation.Less
relation_of k.LessEqual = Some relation.LessEqual
relation_of k.Greater = Some relation.Greater
relation_of k.GreaterEqual = Some relation.GreaterEqual
relation_of k.KwIn = Some relation.In
relation_of k.KwIs = Some relation.Is
relation_of _ = None

abbrev pub addition_of : TokenKind → Option AddOp
addition_of k.Plus = Some add.Plus
addition_of k.Minus = Some add.Minus
addition_of k.KwOr = Some add.Or
addition_of _ = None

abbrev pub product_of : TokenKind → Option MulOp
product_of k.Star = Some mul.Times
product_of k.Slash = Some mul.Divide
product_of k.KwDiv = Some mul.Div
product_of k.KwMod = Some mul.Mod
product_of k.Ampersand = Some mul.And
product_of _ = None

abbrev pub sign_of : TokenKind → Option Sign
sign_of k.Plus = Some sign.Plus
sign_of k.Minus = Some sign.Minus
sign_of _ = None

abbrev pub export_of : TokenKind → Option Export
export_of k.Star = Some export.ReadWrite
export_of k.Minus = Some export.ReadOnly
export_of _ = None

abbrev pub name_at : Token → Name
name_at t = record { start = t.start; end = t.end; pos = t.pos }

abbrev pub text_at : Token → Text
text_at t = record { start = t.start; end = t.end; pos = t.pos }
