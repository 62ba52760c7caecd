-- A production from the parts that are read one after another, some of which may be missing.
use Rattle.std.proofs.Common.{◌≡◌, ℕ, ◌+◌, List, ◌∷◌, true, false, Option, ap, subst}
use Rattle.std.specs.Option.{is_some}
use Rattle.aos_base.specs.declared.text.Pos.{Pos}
use Rattle.aos_scan.specs.declared.token.Token.{Token}
use Rattle.aos_scan.specs.declared.token.TokenKind.{TokenKind}
use Rattle.aos_scan.specs.declared.token.TokenKind.TheVariants as k
use Rattle.aos_tree.specs.declared.name.Name.{Name}
use Rattle.aos_tree.specs.declared.name.Qualident.{Qualident}
use Rattle.aos_tree.specs.declared.expr.Expr.{Expr}
use Rattle.aos_tree.specs.declared.stat.Block.{Block}
use Rattle.aos_tree.specs.declared.decl.Mark.{Mark}
use Rattle.aos_tree.specs.declared.decl.Def.{Def}
use Rattle.aos_tree.specs.declared.decl.Decl.{Decl}
use Rattle.aos_tree.specs.declared.decl.Proc.{roll-Proc}
use Rattle.aos_tree.specs.declared.decl.Formals.{Formals}
use Rattle.aos_tree.specs.declared.decl.Section.{Section}
use Rattle.aos_tree.specs.declared.decl.Fields.{Fields}
use Rattle.aos_tree.specs.declared.decl.TypeExpr.{TypeExpr}
use Rattle.aos_tree.specs.declared.decl.TypeExpr.TheVariants as type
use Rattle.aos_tree.specs.declared.module.Module.{Module}
use Rattle.aos_tree.specs.Nesting.{Rule, shallow}
use Rattle.aos_tree.specs.Words as g
use Rattle.aos_tree.specs.Words.{IsWord, IsName, IsNames, IsQualident}
use Rattle.aos_tree.specs.ExprGrammar as expression
use Rattle.aos_tree.specs.ExprGrammar.{IsExpr, IsMoreExprs}
use Rattle.aos_tree.specs.DeclGrammar as declared
use Rattle.aos_tree.specs.DeclGrammar.{IsDef, IsBase, IsArrays, IsSection, IsSections, IsFormals, IsFormalsOption, IsEndName, IsBody, IsDecls, IsProc, IsType}
use Rattle.aos_tree.specs.ModuleGrammar as imported
use Rattle.aos_tree.specs.ModuleGrammar.{IsImport, IsModule, Reads}
use Rattle.aos_parse_mod.specs.Text.{IsEnd}
use Rattle.aos_parse_mod.specs.Parts as part
use Rattle.aos_parse_mod.specs.Parts.{IsOptional, IsNameOption, IsMark, IsResult, IsLengths, IsFieldList}

module _ {may : Rule} {d : ℕ} where
  pub qualident_of : {a : Name} {b : Option Name} {ts mid rest : List Token} → IsName may d a ts mid → IsNameOption may d k.Period b mid rest → IsQualident may d (record { first = a; second = b }) ts rest
  qualident_of n part.no_name = g.plain n
  qualident_of n (part.name x b) = g.qualified n x b

  pub import_of : {a : Name} {b : Option Name} {ts mid rest : List Token} → IsName may d a ts mid → IsNameOption may d k.Becomes b mid rest → IsImport may d (record { name = a; of = b }) ts rest
  import_of n part.no_name = imported.same_name n
  import_of n (part.name x b) = imported.other_name n x b

  pub def_of : {a : Name} {b : Option Mark} {ts mid rest : List Token} → IsName may d a ts mid → IsMark may d b mid rest → IsDef may d (record { name = a; mark = b }) ts rest
  def_of n part.no_mark = declared.hidden n
  def_of n (part.mark is fits) = declared.marked n is fits

  pub formals_of : {p : Pos} {all : List Section} {of : Option Qualident} {ts from mid rest : List Token} → IsWord may d k.OpenParen p ts from → IsSections may d all from mid → IsResult may d of mid rest →
      IsFormals may d (record { pos = p; sections = all; result = of }) ts rest
  formals_of x all part.no_result = declared.procedure x all
  formals_of x all (part.result_of y of) = declared.function x all y of

  word_place : {c : TokenKind} {p : Pos} {t : Token} {ts us rest : List Token} → IsWord may d c p ts rest → ts ≡ t ∷ us → p ≡ t.pos
  word_place {t = t} (g.word {t = u} is fits) at = let a : u ≡ t = cc in ap (λ q. q.pos) a

  name_place : {a : Name} {t : Token} {ts us rest : List Token} → IsName may d a ts rest → ts ≡ t ∷ us → a.pos ≡ t.pos
  name_place {t = t} (g.ident {t = u} is fits) at = let a : u ≡ t = cc in ap (λ q. q.pos) a

  pub section_of : {t : Token} {b : Option Pos} {names : List Name} {q : Pos} {arrays : List Pos} {of : Qualident} {ts us t0 t1 t2 t3 rest : List Token} → ts ≡ t ∷ us → IsOptional may d k.KwVar b ts t0 → IsNames may d names t0 t1 →
      IsWord may d k.Colon q t1 t2 → IsArrays may d arrays t2 t3 → IsQualident may d of t3 rest → IsSection may d (record { pos = t.pos; by_reference = is_some b; names = names; arrays = arrays; of = of }) ts rest
  section_of {t = t} {arrays = arrays} {of = of} {ts = ts} {rest = rest} at part.left_out (g.names {a = a} {more = more} n others) x many last =
      subst (λ z. IsSection may d (record { pos = z; by_reference = false; names = a ∷ more; arrays = arrays; of = of }) ts rest) (name_place n at) (declared.by_value (g.names n others) x many last)
  section_of {t = t} {names = names} {arrays = arrays} {of = of} {ts = ts} {rest = rest} at (part.there w) all x many last =
      subst (λ z. IsSection may d (record { pos = z; by_reference = true; names = names; arrays = arrays; of = of }) ts rest) (word_place w at) (declared.by_reference w all x many last)

  pub end_name_of : {b : Option Pos} {ts rest : List Token} → IsOptional may d k.Ident b ts rest → (a : Option Name) × IsEndName may d a ts rest
  end_name_of part.left_out = (_, declared.no_end_name)
  end_name_of (part.there (g.word is fits)) = (_, declared.end_name (g.ident is fits))

  pub proc_of : {p q : Pos} {b : Option Pos} {def : Def} {formals : Option Formals} {decls : List Decl} {body : Option Block} {end : Name} {ts t0 t1 t2 t3 t4 t5 t6 rest : List Token} → IsWord may d k.KwProcedure p ts t0 → IsOptional may d k.Ampersand b t0 t1 →
      IsDef may d def t1 t2 → IsFormalsOption may d formals t2 t3 → IsWord may d k.Semicolon q t3 t4 → IsDecls may true d decls t4 t5 → IsBody may d body t5 t6 → IsName may d end t6 rest →
      IsProc may d (roll-Proc (record { outline = record { pos = p; initializer = b; def = def; formals = formals; body = body; end = end }; decls = decls })) ts rest
  proc_of x part.left_out def heading y decls body end = declared.proper x def heading y decls body end
  proc_of x (part.there u) def heading y decls body end = declared.initializer x u def heading y decls body end

  pub array_of : {p q : Pos} {all : List Expr} {of : TypeExpr} {ts t1 t2 t3 rest : List Token} → IsWord may (d + 1) k.KwArray p ts t1 → IsLengths may (d + 1) all t1 t2 → IsWord may (d + 1) k.KwOf q t2 t3 →
      IsType may (d + 1) of t3 rest → IsType may d (type.Array p all of) ts rest
  array_of x part.no_lengths y of = declared.open_array x y of
  array_of x (part.lengths all) y of = declared.array x all y of

-- a word and what comes after it, in the form of the grammar of expressions
pub another_expr : {may : Rule} {d : ℕ} {p : Pos} {a : Expr} {more : List Expr} {ts from mid rest : List Token} → IsWord may d k.Comma p ts from → IsExpr may d a from mid → IsMoreExprs may d more mid rest → IsMoreExprs may d (a ∷ more) ts rest
another_expr (g.word is fits) a more = expression.another_expr is fits a more

pub record_of : {may : Rule} {d : ℕ} {p q : Pos} {from : Option Qualident} {all : List Fields} {ts t1 t2 t4 rest : List Token} → IsWord may (d + 1) k.KwRecord p ts t1 → IsBase may (d + 1) from t1 t2 → IsFieldList may (d + 1) all t2 t4 →
    IsWord may (d + 1) k.KwEnd q t4 rest → IsType may d (type.Record p from all) ts rest
record_of x from (part.field_list a more) y = declared.fields_of x from a more y

-- a module before the end of its text
pub reads_of : {a : Module} {ts rest : List Token} → IsModule shallow 0 a ts rest → IsEnd rest → Reads a ts
reads_of {a} {ts} h end = record { end = end.0; is_end = end.1; reads = subst (λ z. IsModule shallow 0 a ts z) end.2 h }
