-- What the machine reads of a module, the grammar reads.
use Rattle.std.proofs.Common.{◌≡◌, ℕ, ◌+◌, List, [], ◌∷◌, Bool, true, false, Option, Some, None, zero, suc, refl, sym, subst}
use Rattle.std.specs.Prelude.{⊤, IfSome, if◌then◌else◌, nat_eq}
use Rattle.aos_base.specs.declared.text.Pos.{Pos}
use Rattle.aos_scan.specs.declared.token.Token.{Token}
use Rattle.aos_scan.specs.declared.token.TokenKind.{TokenKind}
use Rattle.aos_scan.specs.declared.token.TokenKind.TheVariants as k
use Rattle.aos_tree.specs.declared.name.Name.{Name}
use Rattle.aos_tree.specs.declared.name.Qualident.{Qualident}
use Rattle.aos_tree.specs.declared.expr.Expr.{Expr}
use Rattle.aos_tree.specs.declared.stat.Block.{Block}
use Rattle.aos_tree.specs.declared.decl.Export.{Export}
use Rattle.aos_tree.specs.declared.decl.Mark.{Mark}
use Rattle.aos_tree.specs.declared.decl.Def.{Def}
use Rattle.aos_tree.specs.declared.decl.Decl.{Decl}
use Rattle.aos_tree.specs.declared.decl.ConstDef.{ConstDef}
use Rattle.aos_tree.specs.declared.decl.TypeDef.{TypeDef}
use Rattle.aos_tree.specs.declared.decl.VarDef.{VarDef}
use Rattle.aos_tree.specs.declared.decl.Formals.{Formals}
use Rattle.aos_tree.specs.declared.decl.Section.{Section}
use Rattle.aos_tree.specs.declared.decl.TypeExpr.{TypeExpr}
use Rattle.aos_tree.specs.declared.decl.Fields.{Fields}
use Rattle.aos_tree.specs.declared.module.Module.{Module}
use Rattle.aos_tree.specs.declared.module.Import.{Import}
use Rattle.aos_tree.specs.Nesting.{Rule}
use Rattle.aos_tree.specs.Operators.{export_of}
use Rattle.aos_tree.specs.Words as g
use Rattle.aos_tree.specs.Words.{IsWord, IsName, IsMoreNames, IsQualident}
use Rattle.aos_tree.specs.ExprGrammar.{IsExpr, IsExprs}
use Rattle.aos_tree.specs.StatGrammar.{IsBlock}
use Rattle.aos_tree.specs.DeclGrammar as declared
use Rattle.aos_tree.specs.DeclGrammar.{IsDef, IsMoreDefs, IsBase, IsArrays, IsSection, IsSections, IsMoreSections, IsFormalsOption, IsFlag, IsBody, IsConstDefs, IsDecls, IsDecl, IsTypeDefs, IsVarDefs, IsVarDef, IsType, IsFields, IsMoreFields}
use Rattle.aos_tree.specs.ModuleGrammar as imported
use Rattle.aos_tree.specs.ModuleGrammar.{IsMoreImports, IsImportList}
use Rattle.aos_parse_expr.specs.Symbols as e
use Rattle.aos_parse_expr.specs.Symbols.{code}
use Rattle.aos_parse_expr.proofs.ExprYields as ey
use Rattle.aos_parse_expr.proofs.Words.{same_code}
use Rattle.aos_parse_expr.proofs.Yields as y
use Rattle.aos_parse_expr.proofs.Yields.{split, Free}
use Rattle.aos_parse_stat.specs.Symbols as s
use Rattle.aos_parse_mod.specs.Parts as part
use Rattle.aos_parse_mod.specs.Parts.{IsOptional, IsNameOption, IsMark, IsResult, IsLengths}
use Rattle.aos_parse_mod.specs.Symbols as m
use Rattle.aos_parse_mod.specs.Symbols.{Sym, Stack, Move, onward, below, by_word, by_operator}
use Rattle.aos_parse_mod.specs.Text.{module_at}
use Rattle.aos_parse_mod.proofs.Embedding.{with_exprs, with_stats}
use Rattle.aos_parse_stat.proofs.Embedding as lift
use Rattle.aos_parse_stat.proofs.StatYields as sy
use Rattle.aos_parse_mod.proofs.Trees as tree

abbrev pub Yields : Rule → Sym → List Token → List Token → Type 0
Yields may (m.tok d c) ts rest = (p : Pos) × IsWord may d c p ts rest
Yields may (m.of_expr x) ts rest = ey.Yields may x ts rest
Yields may (m.of_stat x) ts rest = sy.Yields may x ts rest
Yields may (m.option d c) ts rest = (b : Option Pos) × IsOptional may d c b ts rest
Yields may (m.then_expr d c) ts rest = (p : Pos) × (a : Expr) × (mid : List Token) × IsWord may d c p ts mid × IsExpr may d a mid rest
Yields may (m.then_type d c) ts rest = (p : Pos) × (a : TypeExpr) × (mid : List Token) × IsWord may d c p ts mid × IsType may d a mid rest
Yields may (m.then_name d c) ts rest = (a : Option Name) × IsNameOption may d c a ts rest
Yields may (m.mark d) ts rest = (a : Option Mark) × IsMark may d a ts rest
Yields may (m.more_names d) ts rest = (a : List Name) × IsMoreNames may d a ts rest
Yields may (m.more_defs d) ts rest = (a : List Def) × IsMoreDefs may d a ts rest
Yields may (m.base d) ts rest = (a : Option Qualident) × IsBase may d a ts rest
Yields may (m.arrays d) ts rest = (a : List Pos) × IsArrays may d a ts rest
Yields may (m.section d) ts rest = (a : Section) × IsSection may d a ts rest
Yields may (m.sections d) ts rest = (a : List Section) × IsSections may d a ts rest
Yields may (m.more_sections d) ts rest = (a : List Section) × IsMoreSections may d a ts rest
Yields may (m.result d) ts rest = (a : Option Qualident) × IsResult may d a ts rest
Yields may (m.formals d) ts rest = (a : Option Formals) × IsFormalsOption may d a ts rest
Yields may (m.flag d) ts rest = (a : Option Name) × IsFlag may d a ts rest
Yields may (m.body d) ts rest = (a : Option Block) × IsBody may d a ts rest
Yields may (m.const_defs d) ts rest = (a : List ConstDef) × IsConstDefs may d a ts rest
Yields may (m.type_defs d) ts rest = (a : List TypeDef) × IsTypeDefs may d a ts rest
Yields may (m.var_defs d) ts rest = (a : List VarDef) × IsVarDefs may d a ts rest
Yields may (m.decl local d) ts rest = (a : Decl) × IsDecl may local d a ts rest
Yields may (m.decls local d) ts rest = (a : List Decl) × IsDecls may local d a ts rest
Yields may (m.type d) ts rest = (a : TypeExpr) × IsType may d a ts rest
Yields may (m.lengths d) ts rest = (a : List Expr) × IsLengths may d a ts rest
Yields may (m.fields d) ts rest = (a : Fields) × IsFields may d a ts rest
Yields may (m.more_fields d) ts rest = (a : List Fields) × IsMoreFields may d a ts rest
Yields may (m.more_imports d) ts rest = (a : List Import) × IsMoreImports may d a ts rest
Yields may (m.imports d) ts rest = (a : List Import) × IsImportList may d a ts rest
Yields may (m.text zero) ts rest = (a : Module) × module_at may a ts rest
Yields may (m.text (suc n)) ts rest = ⊤

module _ (may : Rule) where
  abbrev All : Stack → List Token → List Token → Type 0
  All xs ts rest = y.All (Yields may) xs ts rest

  -- a move from x is by its production
  abbrev Sound : Sym → Token → List Token → List Token → Move → Type 0
  Sound x t ts rest move = IfSome move (λ p. may p.0 ts ≡ true → y.All (Yields may) p.1 ts rest → Yields may x (t ∷ ts) rest)

  worded : (z : Sym) (d : ℕ) (want : TokenKind) (xs : Stack) (t : Token) (ts rest : List Token) → (IsWord may d want t.pos (t ∷ ts) ts → All xs ts rest → Yields may z (t ∷ ts) rest) → Sound z t ts rest (by_word d want xs t.kind)
  worded z d want xs t ts rest join = by_test (nat_eq (code want) (code t.kind)) refl
    where
      by_test : (b : Bool) → nat_eq (code want) (code t.kind) ≡ b → Sound z t ts rest (if b then Some (d, xs) else None)
      by_test true is = λ fits all. join (g.word (sym (same_code want t.kind is)) fits) all
      by_test false is = tt

  name_of : {d : ℕ} {ts rest : List Token} → Yields may (m.tok d k.Ident) ts rest → (a : Name) × IsName may d a ts rest
  name_of (p, g.word is fits) = (_, g.ident is fits)

  expr_of : {d : ℕ} {ts rest : List Token} → Yields may (m.of_expr (e.expr d)) ts rest → (a : Expr) × IsExpr may d a ts rest
  expr_of (ey.an_expr a) = (_, a)

  exprs_of : {d : ℕ} {ts rest : List Token} → ey.Yields may (e.exprs d) ts rest → (a : List Expr) × IsExprs may d a ts rest
  exprs_of (ey.some_exprs a) = (_, a)

  block_of : {d : ℕ} {ts rest : List Token} → sy.Yields may (s.block d) ts rest → (a : Block) × IsBlock may d a ts rest
  block_of (sy.a_block a) = (_, a)

  join_tok : {d : ℕ} {want : TokenKind} {p : Pos} {ts mid rest : List Token} → IsWord may d want p ts mid → All [] mid rest → Yields may (m.tok d want) ts rest
  join_tok w y.done = (_, w)

  join_option : {d : ℕ} {want : TokenKind} {p : Pos} {ts mid rest : List Token} → IsWord may d want p ts mid → All [] mid rest → Yields may (m.option d want) ts rest
  join_option w y.done = (_, part.there w)

  join_then_expr : {d : ℕ} {want : TokenKind} {p : Pos} {ts mid rest : List Token} → IsWord may d want p ts mid → All (m.of_expr (e.expr d) ∷ []) mid rest → Yields may (m.then_expr d want) ts rest
  join_then_expr w (y.next a y.done) = let b = expr_of a in (_, _, _, w, b.1)

  join_then_type : {d : ℕ} {want : TokenKind} {p : Pos} {ts mid rest : List Token} → IsWord may d want p ts mid → All (m.type d ∷ []) mid rest → Yields may (m.then_type d want) ts rest
  join_then_type w (y.next a y.done) = (_, _, _, w, a.1)

  join_then_name : {d : ℕ} {want : TokenKind} {p : Pos} {ts mid rest : List Token} → IsWord may d want p ts mid → All (m.tok d k.Ident ∷ []) mid rest → Yields may (m.then_name d want) ts rest
  join_then_name w (y.next n y.done) = let b = name_of n in (_, part.name w b.1)

  join_mark : {d : ℕ} {a : Export} {t : Token} {ts rest : List Token} → export_of t.kind ≡ Some a → may d ts ≡ true → All [] ts rest → Yields may (m.mark d) (t ∷ ts) rest
  join_mark is fits y.done = (_, part.mark is fits)

  join_more_names : {d : ℕ} {p : Pos} {ts mid rest : List Token} → IsWord may d k.Comma p ts mid → All (m.tok d k.Ident ∷ m.more_names d ∷ []) mid rest → Yields may (m.more_names d) ts rest
  join_more_names w (y.next n (y.next more y.done)) = let b = name_of n in (_, g.another_name w b.1 more.1)

  join_more_defs : {d : ℕ} {p : Pos} {ts mid rest : List Token} → IsWord may d k.Comma p ts mid → All (m.tok d k.Ident ∷ m.mark d ∷ m.more_defs d ∷ []) mid rest → Yields may (m.more_defs d) ts rest
  join_more_defs w (y.next n (y.next a (y.next more y.done))) = let b = name_of n in (_, declared.another_def w (tree.def_of b.1 a.1) more.1)

  join_base : {d : ℕ} {p : Pos} {ts mid rest : List Token} → IsWord may d k.OpenParen p ts mid → All (m.tok d k.Ident ∷ m.then_name d k.Period ∷ m.tok d k.CloseParen ∷ []) mid rest → Yields may (m.base d) ts rest
  join_base w (y.next n (y.next a (y.next v y.done))) = let b = name_of n in (_, declared.base w (tree.qualident_of b.1 a.1) v.1)

  join_arrays : {d : ℕ} {p : Pos} {ts mid rest : List Token} → IsWord may d k.KwArray p ts mid → All (m.tok d k.KwOf ∷ m.arrays d ∷ []) mid rest → Yields may (m.arrays d) ts rest
  join_arrays w (y.next v (y.next more y.done)) = (_, declared.arrays w v.1 more.1)

  -- the rest of a section
  join_section : {d : ℕ} {b : Option Pos} {t : Token} {ts us mid rest : List Token} → ts ≡ t ∷ us → IsOptional may d k.KwVar b ts mid → All (m.tok d k.Ident ∷ m.section_rest d []) mid rest → Yields may (m.section d) ts rest
  join_section at o (y.next n (y.next more (y.next v (y.next many (y.next f (y.next a y.done)))))) =
      let b = name_of n in let q = name_of f in (_, tree.section_of at o (g.names b.1 more.1) v.1 many.1 (tree.qualident_of q.1 a.1))

  join_result : {d : ℕ} {p : Pos} {ts mid rest : List Token} → IsWord may d k.Colon p ts mid → All (m.qualident d) mid rest → Yields may (m.result d) ts rest
  join_result w (y.next n (y.next a y.done)) = let b = name_of n in (_, part.result_of w (tree.qualident_of b.1 a.1))

  join_formals : {d : ℕ} {p : Pos} {ts mid rest : List Token} → IsWord may d k.OpenParen p ts mid → All (m.sections d ∷ m.result d ∷ []) mid rest → Yields may (m.formals d) ts rest
  join_formals w (y.next all (y.next of y.done)) = (_, declared.formals (tree.formals_of w all.1 of.1))

  join_flag : {d : ℕ} {p : Pos} {ts mid rest : List Token} → IsWord may d k.OpenBrace p ts mid → All (m.tok d k.Ident ∷ m.tok d k.CloseBrace ∷ []) mid rest → Yields may (m.flag d) ts rest
  join_flag w (y.next n (y.next v y.done)) = let b = name_of n in (_, declared.flag w b.1 v.1)

  join_const_defs : {d : ℕ} {p : Pos} {ts mid rest : List Token} → IsWord may d k.Ident p ts mid → All (m.mark d ∷ m.then_expr d k.Equals ∷ m.tok d k.Semicolon ∷ m.const_defs d ∷ []) mid rest → Yields may (m.const_defs d) ts rest
  join_const_defs w (y.next a (y.next x (y.next v (y.next more y.done)))) = let b = name_of (_, w) in (_, declared.const_def (tree.def_of b.1 a.1) x.3 x.4 v.1 more.1)

  join_type_defs : {d : ℕ} {p : Pos} {ts mid rest : List Token} → IsWord may d k.Ident p ts mid → All (m.mark d ∷ m.then_type d k.Equals ∷ m.tok d k.Semicolon ∷ m.type_defs d ∷ []) mid rest → Yields may (m.type_defs d) ts rest
  join_type_defs w (y.next a (y.next x (y.next v (y.next more y.done)))) = let b = name_of (_, w) in (_, declared.type_def (tree.def_of b.1 a.1) x.3 x.4 v.1 more.1)

  var_def_of : {d : ℕ} {p : Pos} {ts from rest : List Token} → IsWord may d k.Ident p ts from → All (m.mark d ∷ m.more_defs d ∷ m.then_type d k.Colon ∷ []) from rest → (a : VarDef) × IsVarDef may d a ts rest
  var_def_of w (y.next a (y.next more (y.next x y.done))) = let b = name_of (_, w) in (_, declared.var_def (declared.defs (tree.def_of b.1 a.1) more.1) x.3 x.4)

  join_var_defs : {d : ℕ} {p : Pos} {ts mid rest : List Token} → IsWord may d k.Ident p ts mid → All (m.mark d ∷ m.more_defs d ∷ m.then_type d k.Colon ∷ m.tok d k.Semicolon ∷ m.var_defs d ∷ []) mid rest → Yields may (m.var_defs d) ts rest
  join_var_defs w (y.next a (y.next more (y.next x (y.next v (y.next others y.done))))) = let b = var_def_of w (y.next a (y.next more (y.next x y.done))) in (_, declared.var_defs b.1 v.1 others.1)

  join_fields : {d : ℕ} {p : Pos} {ts mid rest : List Token} → IsWord may d k.Ident p ts mid → All (m.mark d ∷ m.more_defs d ∷ m.then_type d k.Colon ∷ []) mid rest → Yields may (m.fields d) ts rest
  join_fields w all = let b = var_def_of w all in (_, declared.fields b.1)

  join_more_fields : {d : ℕ} {p : Pos} {ts mid rest : List Token} → IsWord may d k.Semicolon p ts mid → All (m.fields d ∷ m.more_fields d ∷ []) mid rest → Yields may (m.more_fields d) ts rest
  join_more_fields w (y.next a (y.next more y.done)) = (_, declared.another_fields w a.1 more.1)

  join_imports : {d : ℕ} {p : Pos} {ts mid rest : List Token} → IsWord may d k.KwImport p ts mid → All (m.tok d k.Ident ∷ m.then_name d k.Becomes ∷ m.more_imports d ∷ []) mid rest → Yields may (m.imports d) ts rest
  join_imports w (y.next n (y.next a (y.next more y.done))) = let b = name_of n in (_, imported.import_list w (imported.imports (tree.import_of b.1 a.1) more.1))

  join_more_imports : {d : ℕ} {p : Pos} {ts mid rest : List Token} → IsWord may d k.Comma p ts mid → All (m.tok d k.Ident ∷ m.then_name d k.Becomes ∷ m.more_imports d ∷ []) mid rest → Yields may (m.more_imports d) ts rest
  join_more_imports w (y.next n (y.next a (y.next more y.done))) = let b = name_of n in (_, imported.another_import w (tree.import_of b.1 a.1) more.1)

  end_imports : {d : ℕ} {p : Pos} {ts mid rest : List Token} → IsWord may d k.Semicolon p ts mid → All ([]) mid rest → Yields may (m.more_imports d) ts rest
  end_imports w y.done = (_, imported.no_more_imports w)

  end_sections : {d : ℕ} {p : Pos} {ts mid rest : List Token} → IsWord may d k.CloseParen p ts mid → All ([]) mid rest → Yields may (m.sections d) ts rest
  end_sections w y.done = (_, declared.no_sections w)

  end_more_sections : {d : ℕ} {p : Pos} {ts mid rest : List Token} → IsWord may d k.CloseParen p ts mid → All ([]) mid rest → Yields may (m.more_sections d) ts rest
  end_more_sections w y.done = (_, declared.no_more_sections w)

  join_more_sections : {d : ℕ} {p : Pos} {ts mid rest : List Token} → IsWord may d k.Semicolon p ts mid → All (m.section d ∷ m.more_sections d ∷ []) mid rest → Yields may (m.more_sections d) ts rest
  join_more_sections w (y.next a (y.next more y.done)) = (_, declared.another_section w a.1 more.1)

  no_block : {d : ℕ} {p : Pos} {ts mid rest : List Token} → IsWord may d k.KwEnd p ts mid → All ([]) mid rest → Yields may (m.body d) ts rest
  no_block w y.done = (_, declared.no_block w)

  const_decl : {local : Bool} {d : ℕ} {p : Pos} {ts mid rest : List Token} → IsWord may d k.KwConst p ts mid → All (m.const_defs d ∷ []) mid rest → Yields may (m.decl local d) ts rest
  const_decl w (y.next a y.done) = (_, declared.consts w a.1)

  type_decl : {local : Bool} {d : ℕ} {p : Pos} {ts mid rest : List Token} → IsWord may d k.KwType p ts mid → All (m.type_defs d ∷ []) mid rest → Yields may (m.decl local d) ts rest
  type_decl w (y.next a y.done) = (_, declared.types w a.1)

  var_decl : {local : Bool} {d : ℕ} {p : Pos} {ts mid rest : List Token} → IsWord may d k.KwVar p ts mid → All (m.var_defs d ∷ []) mid rest → Yields may (m.decl local d) ts rest
  var_decl w (y.next a y.done) = (_, declared.vars w a.1)

  proc_decl : {d : ℕ} {p : Pos} {ts mid rest : List Token} → IsWord may d k.KwProcedure p ts mid → All (m.proc_rest d (m.tok d k.Semicolon ∷ [])) mid rest → Yields may (m.decl false d) ts rest
  proc_decl w (y.next o (y.next n (y.next a (y.next heading (y.next v (y.next all (y.next body (y.next end (y.next z y.done))))))))) =
      let b = name_of n in let f = name_of end in (_, declared.proc (tree.proc_of w o.1 (tree.def_of b.1 a.1) heading.1 v.1 all.1 body.1 f.1) z.1)

  type_named : {d : ℕ} {p : Pos} {ts mid rest : List Token} → IsWord may (d + 1) k.Ident p ts mid → All (m.then_name (d + 1) k.Period ∷ []) mid rest → Yields may (m.type d) ts rest
  type_named w (y.next a y.done) = let b = name_of (_, w) in (_, declared.named (tree.qualident_of b.1 a.1))

  type_array : {d : ℕ} {p : Pos} {ts mid rest : List Token} → IsWord may (d + 1) k.KwArray p ts mid → All (m.lengths (d + 1) ∷ m.then_type (d + 1) k.KwOf ∷ []) mid rest → Yields may (m.type d) ts rest
  type_array w (y.next all (y.next x y.done)) = (_, tree.array_of w all.1 x.3 x.4)

  type_record : {d : ℕ} {p : Pos} {ts mid rest : List Token} → IsWord may (d + 1) k.KwRecord p ts mid → All (m.base (d + 1) ∷ m.fields (d + 1) ∷ m.more_fields (d + 1) ∷ m.tok (d + 1) k.KwEnd ∷ []) mid rest → Yields may (m.type d) ts rest
  type_record w (y.next from (y.next a (y.next more (y.next v y.done)))) = (_, declared.fields_of w from.1 a.1 more.1 v.1)

  type_pointer : {d : ℕ} {p : Pos} {ts mid rest : List Token} → IsWord may (d + 1) k.KwPointer p ts mid → All (m.then_type (d + 1) k.KwTo ∷ []) mid rest → Yields may (m.type d) ts rest
  type_pointer w (y.next x y.done) = (_, declared.pointer w x.3 x.4)

  type_procedure : {d : ℕ} {p : Pos} {ts mid rest : List Token} → IsWord may (d + 1) k.KwProcedure p ts mid → All (m.flag (d + 1) ∷ m.formals (d + 1) ∷ []) mid rest → Yields may (m.type d) ts rest
  type_procedure w (y.next note (y.next heading y.done)) = (_, declared.procedure w note.1 heading.1)

  type_object : {d : ℕ} {p : Pos} {ts mid rest : List Token} → IsWord may (d + 1) k.KwObject p ts mid → All (m.base (d + 1) ∷ m.decls false (d + 1) ∷ m.body (d + 1) ∷ m.option (d + 1) k.Ident ∷ []) mid rest → Yields may (m.type d) ts rest
  type_object w (y.next from (y.next all (y.next body (y.next end y.done)))) = let b = tree.end_name_of end.1 in (_, declared.object w from.1 all.1 body.1 b.1)

  module_text : {p : Pos} {ts mid rest : List Token} → IsWord may 0 k.KwModule p ts mid →
      All (m.tok 0 k.Ident ∷ m.tok 0 k.Semicolon ∷ m.imports 0 ∷ m.decls false 0 ∷ m.body 0 ∷ m.tok 0 k.Ident ∷ m.tok 0 k.Period ∷ m.tok 0 k.End ∷ []) mid rest → Yields may (m.text 0) ts rest
  module_text w (y.next n (y.next v (y.next all (y.next decls (y.next body (y.next end (y.next z (y.next last y.done)))))))) =
      let b = name_of n in let f = name_of end in
      (_, record { mid = _; place = last.0; reads = imported.whole w b.1 v.1 all.1 decls.1 body.1 f.1 z.1; end = last.1 })

  onwards : (x z : Sym) (t : Token) (ts rest : List Token) (move : Move) (xs : Stack) → ((mid : List Token) → Sound x t ts mid move) →
      ((mid : List Token) → Yields may x (t ∷ ts) mid → All xs mid rest → Yields may z (t ∷ ts) rest) → Sound z t ts rest (onward move xs)
  onwards x z t ts rest None xs sound joined = tt
  onwards x z t ts rest (Some p) xs sound joined = λ fits all. let s = split p.1 all in joined s.0 (sound s.0 fits s.1) s.2

  sound_section : (d : ℕ) (t : Token) (ts rest : List Token) (c : TokenKind) → t.kind ≡ c → Sound (m.section d) t ts rest (m.after_section d c)
  sound_section d t ts rest k.KwVar is = λ fits all. join_section refl (part.there (g.word is fits)) all
  sound_section d t ts rest k.Ident is = λ fits all. join_section refl part.left_out (y.next (_, g.word is fits) all)
  sound_section d t ts rest _ is = tt

  join_sections : {d : ℕ} {ts mid rest : List Token} → Yields may (m.section d) ts mid → All (m.more_sections d ∷ []) mid rest → Yields may (m.sections d) ts rest
  join_sections a (y.next more y.done) = (_, declared.sections a.1 more.1)

  sections_onward : (d : ℕ) (t : Token) (ts rest : List Token) (c : TokenKind) → t.kind ≡ c → Sound (m.sections d) t ts rest (onward (m.after_section d c) (m.more_sections d ∷ []))
  sections_onward d t ts rest c is = onwards (m.section d) (m.sections d) t ts rest (m.after_section d c) (m.more_sections d ∷ []) (λ mid. sound_section d t ts mid c is) (λ mid a all. join_sections a all)

  sound_sections : (d : ℕ) (t : Token) (ts rest : List Token) (c : TokenKind) → t.kind ≡ c → Sound (m.sections d) t ts rest (onward (m.after_section d c) (m.more_sections d ∷ [])) → Sound (m.sections d) t ts rest (m.after_sections d c)
  sound_sections d t ts rest k.CloseParen is h = λ fits all. end_sections (g.word is fits) all
  sound_sections d t ts rest _ is h = h

  sound_more_sections : (d : ℕ) (t : Token) (ts rest : List Token) (c : TokenKind) → t.kind ≡ c → Sound (m.more_sections d) t ts rest (m.after_more_sections d c)
  sound_more_sections d t ts rest k.CloseParen is = λ fits all. end_more_sections (g.word is fits) all
  sound_more_sections d t ts rest k.Semicolon is = λ fits all. join_more_sections (g.word is fits) all
  sound_more_sections d t ts rest _ is = tt

  sound_expr : (x : e.Sym) (t : Token) (ts rest : List Token) (z : Sym) → (ey.Yields may x (t ∷ ts) rest → Yields may z (t ∷ ts) rest) → Sound z t ts rest (m.after (m.of_expr x) t.kind)
  sound_expr x t ts rest z into = by_move (m.after (m.of_expr x) t.kind) refl
    where
      by_move : (move : Move) → m.after (m.of_expr x) t.kind ≡ move → Sound z t ts rest move
      by_move None is = tt
      by_move (Some p) is = λ fits all. into (lift.sound_up e.table m.table m.of_expr with_exprs ey.Yields Yields (λ may x ts rest h. h) (λ may x ts rest h. h) ey.sound may x t ts rest p is fits all)

  sound_stat : (x : s.Sym) (t : Token) (ts rest : List Token) (z : Sym) → (sy.Yields may x (t ∷ ts) rest → Yields may z (t ∷ ts) rest) → Sound z t ts rest (m.after (m.of_stat x) t.kind)
  sound_stat x t ts rest z into = by_move (m.after (m.of_stat x) t.kind) refl
    where
      by_move : (move : Move) → m.after (m.of_stat x) t.kind ≡ move → Sound z t ts rest move
      by_move None is = tt
      by_move (Some p) is = λ fits all. into (lift.sound_up s.table m.table m.of_stat with_stats sy.Yields Yields (λ may x ts rest h. h) (λ may x ts rest h. h) sy.sound may x t ts rest p is fits all)

  sound_body : (d : ℕ) (t : Token) (ts rest : List Token) (c : TokenKind) → t.kind ≡ c → Sound (m.body d) t ts rest (below m.of_stat (s.table.after (s.block d) c)) → Sound (m.body d) t ts rest (m.after_body d c)
  sound_body d t ts rest k.KwEnd is h = λ fits all. no_block (g.word is fits) all
  sound_body d t ts rest _ is h = h

  sound_proc : (local : Bool) (d : ℕ) (t : Token) (ts rest : List Token) → t.kind ≡ k.KwProcedure → Sound (m.decl local d) t ts rest (if local then None else Some (d, m.proc_rest d (m.tok d k.Semicolon ∷ [])))
  sound_proc true d t ts rest is = tt
  sound_proc false d t ts rest is = λ fits all. proc_decl (g.word is fits) all

  sound_decl : (local : Bool) (d : ℕ) (t : Token) (ts rest : List Token) (c : TokenKind) → t.kind ≡ c → Sound (m.decl local d) t ts rest (m.after_decl local d c)
  sound_decl local d t ts rest k.KwConst is = λ fits all. const_decl (g.word is fits) all
  sound_decl local d t ts rest k.KwType is = λ fits all. type_decl (g.word is fits) all
  sound_decl local d t ts rest k.KwVar is = λ fits all. var_decl (g.word is fits) all
  sound_decl local d t ts rest k.KwProcedure is = sound_proc local d t ts rest is
  sound_decl local d t ts rest _ is = tt

  join_decls : {local : Bool} {d : ℕ} {ts mid rest : List Token} → Yields may (m.decl local d) ts mid → All (m.decls local d ∷ []) mid rest → Yields may (m.decls local d) ts rest
  join_decls a (y.next more y.done) = (_, declared.decl a.1 more.1)

  sound_type : (d : ℕ) (t : Token) (ts rest : List Token) (c : TokenKind) → t.kind ≡ c → Sound (m.type d) t ts rest (m.after_type d c)
  sound_type d t ts rest k.Ident is = λ fits all. type_named (g.word is fits) all
  sound_type d t ts rest k.KwArray is = λ fits all. type_array (g.word is fits) all
  sound_type d t ts rest k.KwRecord is = λ fits all. type_record (g.word is fits) all
  sound_type d t ts rest k.KwPointer is = λ fits all. type_pointer (g.word is fits) all
  sound_type d t ts rest k.KwProcedure is = λ fits all. type_procedure (g.word is fits) all
  sound_type d t ts rest k.KwObject is = λ fits all. type_object (g.word is fits) all
  sound_type d t ts rest _ is = tt

  sound_more_imports : (d : ℕ) (t : Token) (ts rest : List Token) (c : TokenKind) → t.kind ≡ c → Sound (m.more_imports d) t ts rest (m.after_more_imports d c)
  sound_more_imports d t ts rest k.Comma is = λ fits all. join_more_imports (g.word is fits) all
  sound_more_imports d t ts rest k.Semicolon is = λ fits all. end_imports (g.word is fits) all
  sound_more_imports d t ts rest _ is = tt

  sound_mark : (d : ℕ) (t : Token) (ts rest : List Token) (o : Option Export) → export_of t.kind ≡ o → Sound (m.mark d) t ts rest (by_operator o d [])
  sound_mark d t ts rest None is = tt
  sound_mark d t ts rest (Some a) is = λ fits all. join_mark is fits all

  sound_text : (d : ℕ) (t : Token) (ts rest : List Token) → Sound (m.text d) t ts rest (m.after (m.text d) t.kind)
  sound_text zero t ts rest = worded (m.text 0) 0 k.KwModule (m.tok 0 k.Ident ∷ m.tok 0 k.Semicolon ∷ m.imports 0 ∷ m.decls false 0 ∷ m.body 0 ∷ m.tok 0 k.Ident ∷ m.tok 0 k.Period ∷ m.tok 0 k.End ∷ []) t ts rest (λ w all. module_text w all)
  sound_text (suc d) t ts rest = worded (m.text (suc d)) (suc d) k.KwModule _ t ts rest (λ w all. tt)

  sound_at : (x : Sym) (t : Token) (ts rest : List Token) → Sound x t ts rest (m.after x t.kind)
  sound_at (m.tok d want) t ts rest = worded (m.tok d want) d want [] t ts rest (λ w all. join_tok w all)
  sound_at (m.of_expr x) t ts rest = sound_expr x t ts rest (m.of_expr x) (λ h. h)
  sound_at (m.of_stat x) t ts rest = sound_stat x t ts rest (m.of_stat x) (λ h. h)
  sound_at (m.option d want) t ts rest = worded (m.option d want) d want [] t ts rest (λ w all. join_option w all)
  sound_at (m.then_expr d want) t ts rest = worded (m.then_expr d want) d want (m.of_expr (e.expr d) ∷ []) t ts rest (λ w all. join_then_expr w all)
  sound_at (m.then_type d want) t ts rest = worded (m.then_type d want) d want (m.type d ∷ []) t ts rest (λ w all. join_then_type w all)
  sound_at (m.then_name d want) t ts rest = worded (m.then_name d want) d want (m.tok d k.Ident ∷ []) t ts rest (λ w all. join_then_name w all)
  sound_at (m.mark d) t ts rest = sound_mark d t ts rest (export_of t.kind) refl
  sound_at (m.section d) t ts rest = sound_section d t ts rest t.kind refl
  sound_at (m.sections d) t ts rest = sound_sections d t ts rest t.kind refl (sections_onward d t ts rest t.kind refl)
  sound_at (m.more_sections d) t ts rest = sound_more_sections d t ts rest t.kind refl
  sound_at (m.body d) t ts rest = sound_body d t ts rest t.kind refl (sound_stat (s.block d) t ts rest (m.body d) (λ h. let b = block_of h in (_, declared.block b.1)))
  sound_at (m.decl local d) t ts rest = sound_decl local d t ts rest t.kind refl
  sound_at (m.decls local d) t ts rest = onwards (m.decl local d) (m.decls local d) t ts rest (m.after_decl local d t.kind) (m.decls local d ∷ []) (λ mid. sound_decl local d t ts mid t.kind refl) (λ mid a all. join_decls a all)
  sound_at (m.type d) t ts rest = sound_type d t ts rest t.kind refl
  sound_at (m.lengths d) t ts rest = sound_expr (e.exprs d) t ts rest (m.lengths d) (λ h. let b = exprs_of h in (_, part.lengths b.1))
  sound_at (m.more_imports d) t ts rest = sound_more_imports d t ts rest t.kind refl
  sound_at (m.text d) t ts rest = sound_text d t ts rest
  sound_at (m.more_names d) t ts rest = worded (m.more_names d) d k.Comma (m.tok d k.Ident ∷ m.more_names d ∷ []) t ts rest (λ w all. join_more_names w all)
  sound_at (m.more_defs d) t ts rest = worded (m.more_defs d) d k.Comma (m.tok d k.Ident ∷ m.mark d ∷ m.more_defs d ∷ []) t ts rest (λ w all. join_more_defs w all)
  sound_at (m.base d) t ts rest = worded (m.base d) d k.OpenParen (m.tok d k.Ident ∷ m.then_name d k.Period ∷ m.tok d k.CloseParen ∷ []) t ts rest (λ w all. join_base w all)
  sound_at (m.arrays d) t ts rest = worded (m.arrays d) d k.KwArray (m.tok d k.KwOf ∷ m.arrays d ∷ []) t ts rest (λ w all. join_arrays w all)
  sound_at (m.result d) t ts rest = worded (m.result d) d k.Colon (m.qualident d) t ts rest (λ w all. join_result w all)
  sound_at (m.formals d) t ts rest = worded (m.formals d) d k.OpenParen (m.sections d ∷ m.result d ∷ []) t ts rest (λ w all. join_formals w all)
  sound_at (m.flag d) t ts rest = worded (m.flag d) d k.OpenBrace (m.tok d k.Ident ∷ m.tok d k.CloseBrace ∷ []) t ts rest (λ w all. join_flag w all)
  sound_at (m.const_defs d) t ts rest = worded (m.const_defs d) d k.Ident (m.mark d ∷ m.then_expr d k.Equals ∷ m.tok d k.Semicolon ∷ m.const_defs d ∷ []) t ts rest (λ w all. join_const_defs w all)
  sound_at (m.type_defs d) t ts rest = worded (m.type_defs d) d k.Ident (m.mark d ∷ m.then_type d k.Equals ∷ m.tok d k.Semicolon ∷ m.type_defs d ∷ []) t ts rest (λ w all. join_type_defs w all)
  sound_at (m.var_defs d) t ts rest = worded (m.var_defs d) d k.Ident (m.mark d ∷ m.more_defs d ∷ m.then_type d k.Colon ∷ m.tok d k.Semicolon ∷ m.var_defs d ∷ []) t ts rest (λ w all. join_var_defs w all)
  sound_at (m.fields d) t ts rest = worded (m.fields d) d k.Ident (m.mark d ∷ m.more_defs d ∷ m.then_type d k.Colon ∷ []) t ts rest (λ w all. join_fields w all)
  sound_at (m.more_fields d) t ts rest = worded (m.more_fields d) d k.Semicolon (m.fields d ∷ m.more_fields d ∷ []) t ts rest (λ w all. join_more_fields w all)
  sound_at (m.imports d) t ts rest = worded (m.imports d) d k.KwImport (m.tok d k.Ident ∷ m.then_name d k.Becomes ∷ m.more_imports d ∷ []) t ts rest (λ w all. join_imports w all)

pub sound : y.Sound m.table Yields
sound may x t ts rest p is fits all =
    let s : IfSome (Some p) (λ q. may q.0 ts ≡ true → y.All (Yields may) q.1 ts rest → Yields may x (t ∷ ts) rest) =
    subst (λ move. IfSome move (λ q. may q.0 ts ≡ true → y.All (Yields may) q.1 ts rest → Yields may x (t ∷ ts) rest)) is (sound_at may x t ts rest) in
    s fits all

pub empty : y.Empty m.table Yields
empty may (m.of_expr x) need us = ey.empty may x need us
empty may (m.of_stat x) need us = sy.empty may x need us
empty may (m.option d c) need us = (_, part.left_out)
empty may (m.then_name d c) need us = (_, part.no_name)
empty may (m.mark d) need us = (_, part.no_mark)
empty may (m.more_names d) need us = (_, g.no_more_names)
empty may (m.more_defs d) need us = (_, declared.no_more_defs)
empty may (m.base d) need us = (_, declared.no_base)
empty may (m.arrays d) need us = (_, declared.no_arrays)
empty may (m.result d) need us = (_, part.no_result)
empty may (m.formals d) need us = (_, declared.no_formals)
empty may (m.flag d) need us = (_, declared.no_flag)
empty may (m.const_defs d) need us = (_, declared.no_const_defs)
empty may (m.type_defs d) need us = (_, declared.no_type_defs)
empty may (m.var_defs d) need us = (_, declared.no_var_defs)
empty may (m.decls local d) need us = (_, declared.no_decls)
empty may (m.lengths d) need us = (_, part.no_lengths)
empty may (m.fields d) need us = (_, declared.no_fields)
empty may (m.more_fields d) need us = (_, declared.no_more_fields)
empty may (m.imports d) need us = (_, imported.no_imports)
empty may _ need us = absurd (cc)
