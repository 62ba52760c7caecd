-- What the grammar of modules reads, the machine walks.
use Rattle.std.proofs.Common.{◌≡◌, ℕ, ◌+◌, ◌≤◌, ◌<◌, List, [], ◌∷◌, true, false, Bool, Option, Some, None, refl, ap, ◌∙◌, arith}
use Rattle.aos_base.specs.declared.text.Pos.{Pos}
use Rattle.aos_scan.specs.declared.token.Token.{Token}
use Rattle.aos_scan.specs.declared.token.TokenKind.{TokenKind}
use Rattle.aos_scan.specs.declared.token.TokenKind.TheVariants as k
use Rattle.aos_tree.specs.declared.name.Name.{Name}
use Rattle.aos_tree.specs.declared.name.Qualident.{Qualident}
use Rattle.aos_tree.specs.declared.expr.Expr.{Expr}
use Rattle.aos_tree.specs.declared.stat.Block.{Block}
use Rattle.aos_tree.specs.declared.decl.Export.{Export}
use Rattle.aos_tree.specs.declared.decl.Def.{Def}
use Rattle.aos_tree.specs.declared.decl.Decl.{Decl}
use Rattle.aos_tree.specs.declared.decl.ConstDef.{ConstDef}
use Rattle.aos_tree.specs.declared.decl.TypeDef.{TypeDef}
use Rattle.aos_tree.specs.declared.decl.VarDef.{VarDef}
use Rattle.aos_tree.specs.declared.decl.Formals.{Formals}
use Rattle.aos_tree.specs.declared.decl.Section.{Section}
use Rattle.aos_tree.specs.declared.decl.TypeExpr.{TypeExpr}
use Rattle.aos_tree.specs.declared.decl.Fields.{Fields}
use Rattle.aos_tree.specs.declared.module.Module.{Module}
use Rattle.aos_tree.specs.declared.module.Import.{Import}
use Rattle.aos_tree.specs.Nesting.{Rule}
use Rattle.aos_tree.specs.Operators.{export_of}
use Rattle.aos_tree.specs.Words as g
use Rattle.aos_tree.specs.Words.{IsWord, IsName, IsNames, IsMoreNames, IsQualident}
use Rattle.aos_tree.specs.ExprGrammar as expression
use Rattle.aos_tree.specs.ExprGrammar.{IsExpr, IsExprs, IsMoreExprs}
use Rattle.aos_tree.specs.DeclGrammar as declared
use Rattle.aos_tree.specs.DeclGrammar.{IsDef, IsDefs, IsMoreDefs, IsBase, IsArrays, IsSection, IsSections, IsMoreSections, IsFormals, IsFormalsOption, IsFlag, IsEndName, IsBody, IsConstDefs, IsDecls, IsDecl, IsTypeDefs, IsVarDefs, IsVarDef, IsProc, IsType, IsFields, IsMoreFields}
use Rattle.aos_tree.specs.ModuleGrammar as q
use Rattle.aos_tree.specs.ModuleGrammar.{IsImport, IsImports, IsMoreImports, IsImportList, IsModule}
use Rattle.aos_parse_expr.specs.Symbols as e
use Rattle.aos_parse_expr.proofs.ExprWalk as below
use Rattle.aos_parse_expr.proofs.Walk as w
use Rattle.aos_parse_expr.proofs.Productions.{no_more_exprs}
use Rattle.aos_parse_stat.specs.Symbols as s
use Rattle.aos_parse_mod.specs.Symbols as m
use Rattle.aos_parse_mod.specs.Symbols.{Sym, Stack}
use Rattle.aos_parse_mod.specs.Text.{module_at}
use Rattle.aos_parse_mod.proofs.Chains as c
use Rattle.aos_parse_mod.proofs.Chains.{Reads, Going, Firm, as_word}
use Rattle.aos_parse_mod.proofs.Embedding.{with_exprs, walk_block}
use Rattle.aos_parse_mod.proofs.Joins.{joins, word_is, loose_word, some, past_expr, mark_joins}
use Rattle.aos_parse_stat.proofs.Embedding as lift
use Rattle.aos_parse_mod.proofs.Starts as by

loose_mark : (d : ℕ) (c : TokenKind) → 1 < joins c → m.after (m.mark d) c ≡ None
loose_mark d c h = by_mark (export_of c) (λ a is. let n = mark_joins c a is in omega arith)
  where
    by_mark : (o : Option Export) → ((a : Export) → o ≡ Some a → ⊥) → m.by_operator o d [] ≡ None
    by_mark None no_mark = refl
    by_mark (Some a) no_mark = absurd (no_mark a refl)

loose_exprs : (d : ℕ) (c : TokenKind) → 4 < joins c → m.after (m.of_expr (e.more_exprs d)) c ≡ None
loose_exprs d c h = ap (m.below m.of_expr) (no_more_exprs d c (λ is. let n : joins c ≡ 4 = ap joins is in omega arith))

loose_decls : (local : Bool) (d : ℕ) (c : TokenKind) → 7 < joins c → m.after (m.decls local d) c ≡ None
loose_decls local d k.KwConst h = absurd (omega arith)
loose_decls local d k.KwType h = absurd (omega arith)
loose_decls local d k.KwVar h = absurd (omega arith)
loose_decls local d k.KwProcedure h = absurd (omega arith)
loose_decls local d _ h = refl

module _ (may : Rule) where
  -- what begins with a word is not there
  missing : {l n : ℕ} {rest : List Token} (x : Sym) (d : ℕ) (want : TokenKind) (xs : Stack) → ((c : TokenKind) → m.after x c ≡ m.by_word d want xs c) → m.needs x ≡ None → joins want ≤ l → Going may l n (x ∷ []) rest rest
  missing {l} x d want xs is free le = c.leaves may x (λ c h. is c ∙ loose_word l d want c xs le h) free

  read_expr : {d : ℕ} {a : Expr} {ts rest : List Token} → IsExpr may d a ts rest → Firm may 3 0 (m.of_expr (e.expr d) ∷ []) ts rest
  read_expr {d} {a} {ts} {rest} h =
      let r = below.read_expr may h in
      record { reads = lift.reads_up e.table m.table m.of_expr with_exprs below.joins joins may 4 3 (e.expr d ∷ []) ts rest past_expr r.0; firm = starts r.0.front r.1 }
    where
      starts : (front : List Token) → below.StartsExpr front → c.Firmly 0 front
      starts [] h = absurd h
      starts (t ∷ ts) h = some t.kind

  -- a word alone
  last : {c : TokenKind} {p : Pos} {ts rest : List Token} {l n d : ℕ} → n < joins c → IsWord may d c p ts rest → Firm may l n (m.tok d c ∷ []) ts rest
  last loose x = c.word may loose x (c.nil may)

  name : {a : Name} {ts mid rest : List Token} {l n d : ℕ} {zs : Stack} → n < 6 → IsName may d a ts mid → Reads may l zs mid rest → Firm may l n (m.tok d k.Ident ∷ zs) ts rest
  name loose x r = c.word may loose (as_word may x) r

  last_name : {a : Name} {ts rest : List Token} {l n d : ℕ} → n < 6 → IsName may d a ts rest → Firm may l n (m.tok d k.Ident ∷ []) ts rest
  last_name loose x = name loose x (c.nil may)

  -- a name first, and then xs
  pub record Named (d l : ℕ) (xs : Stack) (ts rest : List Token) : Type 0 where
    pub first : Name
    pub mid : List Token
    pub is_name : IsName may d first ts mid
    pub reads : w.Reads m.table joins may l xs mid rest

  named : {d l : ℕ} {xs : Stack} {a : Name} {ts mid rest : List Token} → IsName may d a ts mid → Reads may l xs mid rest → Named d l xs ts rest
  named n r = record { first = _; mid = _; is_name = n; reads = r }

  -- the name, where it comes after others
  pub in_line : {d l n : ℕ} {xs : Stack} {ts rest : List Token} → n < 6 → Named d l xs ts rest → Firm may l n (m.tok d k.Ident ∷ xs) ts rest
  in_line loose r = name loose r.is_name r.reads

  read_then_name : {d l n : ℕ} {want : TokenKind} {p : Pos} {a : Name} {ts mid rest : List Token} → n < joins want → IsWord may d want p ts mid → IsName may d a mid rest → Firm may l n (m.then_name d want ∷ []) ts rest
  read_then_name {d = d} {want = want} loose x b = c.opened may (m.then_name d want) (m.tok d k.Ident ∷ []) [] (word_is d want (m.tok d k.Ident ∷ [])) loose x (last_name {n = 0} (omega arith) b).reads

  no_then_name : {d l n : ℕ} {want : TokenKind} {rest : List Token} → joins want ≤ l → Going may l n (m.then_name d want ∷ []) rest rest
  no_then_name {d} {want = want} le = missing (m.then_name d want) d want (m.tok d k.Ident ∷ []) (λ c. refl) refl le

  read_second : {d : ℕ} {a : Qualident} {ts rest : List Token} → IsQualident may d a ts rest → Named d 1 (m.then_name d k.Period ∷ []) ts rest
  read_second (g.plain n) = named n (no_then_name {n = 0} (omega arith)).reads
  read_second (g.qualified n x b) = named n (read_then_name {n = 0} (omega arith) x b).reads

  mutual
    read_names : {d : ℕ} {a : List Name} {ts rest : List Token} → IsNames may d a ts rest → Named d 4 (m.more_names d ∷ []) ts rest
    read_names (g.names n more) = named n (read_more_names more).reads

    read_more_names : {d : ℕ} {a : List Name} {ts rest : List Token} → IsMoreNames may d a ts rest → Going may 4 3 (m.more_names d ∷ []) ts rest
    read_more_names {d} g.no_more_names = missing (m.more_names d) d k.Comma (m.tok d k.Ident ∷ m.more_names d ∷ []) (λ c. refl) refl (omega arith)
    read_more_names {d} (g.another_name x n more) =
        c.going may {n = 3} (omega arith) (c.opened may (m.more_names d) (m.tok d k.Ident ∷ m.more_names d ∷ []) [] refl (omega arith) x (name {n = 0} (omega arith) n (read_more_names more).reads).reads)

  read_mark : {d : ℕ} {a : Def} {ts rest : List Token} → IsDef may d a ts rest → Named d 1 (m.mark d ∷ []) ts rest
  read_mark {d} (declared.hidden n) = named n (c.leaves may {n = 0} (m.mark d) (loose_mark d) refl).reads
  read_mark {d} (declared.marked {t = t} {rest = rest} n is fits) =
      named n (w.takes m.table joins may 1 (m.mark d) d [] [] t rest rest (ap (λ o. m.by_operator o d []) is) fits (c.nil may))

  mutual
    read_defs : {d : ℕ} {a : List Def} {ts rest : List Token} → IsDefs may d a ts rest → Named d 4 (m.mark d ∷ m.more_defs d ∷ []) ts rest
    read_defs (declared.defs a more) = let r = read_mark a in named r.is_name (c.may_on may r.reads (omega arith) (omega arith) (read_more_defs more))

    pub read_more_defs : {d : ℕ} {a : List Def} {ts rest : List Token} → IsMoreDefs may d a ts rest → Going may 4 3 (m.more_defs d ∷ []) ts rest
    read_more_defs {d} declared.no_more_defs = missing (m.more_defs d) d k.Comma (m.tok d k.Ident ∷ m.mark d ∷ m.more_defs d ∷ []) (λ c. refl) refl (omega arith)
    read_more_defs {d} (declared.another_def x a more) =
        let r = read_mark a in
        c.going may {n = 3} (omega arith) (c.opened may (m.more_defs d) (m.tok d k.Ident ∷ m.mark d ∷ m.more_defs d ∷ []) [] refl (omega arith) x
        (name {n = 0} (omega arith) r.is_name (c.may_on may r.reads (omega arith) (omega arith) (read_more_defs more))).reads)

  read_base : {d : ℕ} {a : Option Qualident} {ts rest : List Token} → IsBase may d a ts rest → Going may 3 2 (m.base d ∷ []) ts rest
  read_base {d} declared.no_base = missing (m.base d) d k.OpenParen (m.tok d k.Ident ∷ m.then_name d k.Period ∷ m.tok d k.CloseParen ∷ []) (λ c. refl) refl (omega arith)
  read_base {d} (declared.base x a y) =
      let r = read_second a in
      c.going may {n = 2} (omega arith) (c.opened may (m.base d) (m.tok d k.Ident ∷ m.then_name d k.Period ∷ m.tok d k.CloseParen ∷ []) [] refl (omega arith) x
      (name {n = 0} (omega arith) r.is_name (c.on may r.reads (omega arith) (last {n = 1} (omega arith) y))).reads)

  read_arrays : {d : ℕ} {a : List Pos} {ts rest : List Token} → IsArrays may d a ts rest → Going may 1 0 (m.arrays d ∷ []) ts rest
  read_arrays {d} declared.no_arrays = missing (m.arrays d) d k.KwArray (m.tok d k.KwOf ∷ m.arrays d ∷ []) (λ c. refl) refl (omega arith)
  read_arrays {d} (declared.arrays x y more) =
      c.going may {n = 0} (omega arith) (c.opened may (m.arrays d) (m.tok d k.KwOf ∷ m.arrays d ∷ []) [] refl (omega arith) x (c.word may {n = 0} (omega arith) y (read_arrays more).reads).reads)

  -- what comes after the first name of a section
  section_rest : {d : ℕ} {p : Pos} {names : List Name} {of : Qualident} {arrays : List Pos} {ts t1 t2 t3 rest : List Token} → IsNames may d names ts t1 → IsWord may d k.Colon p t1 t2 → IsArrays may d arrays t2 t3 →
      IsQualident may d of t3 rest → Named d 1 (m.section_rest d []) ts rest
  section_rest all x many of =
      let r = read_names all in
      named r.is_name (c.on may r.reads (omega arith) (c.word may {n = 4} (omega arith) x (c.on may (read_arrays many).reads (omega arith) (in_line {n = 5} (omega arith) (read_second of)))))

  pub read_section : {d : ℕ} {a : Section} {ts rest : List Token} → IsSection may d a ts rest → Firm may 1 5 (m.section d ∷ []) ts rest
  read_section {d} (declared.by_value all x many of) =
      let r = section_rest all x many of in
      c.opened may (m.section d) (m.section_rest d []) [] refl (omega arith) (as_word may r.is_name) r.reads
  read_section {d} (declared.by_reference y all x many of) =
      let r = section_rest all x many of in
      c.opened may (m.section d) (m.tok d k.Ident ∷ m.section_rest d []) [] refl (omega arith) y (in_line {n = 0} (omega arith) r).reads

  mutual
    read_sections : {d : ℕ} {a : List Section} {ts rest : List Token} → IsSections may d a ts rest → Firm may 0 1 (m.sections d ∷ []) ts rest
    read_sections {d} (declared.no_sections x) = c.opened may (m.sections d) [] [] refl (omega arith) x (c.nil may)
    read_sections {d} (declared.sections a more) =
        c.entered may (m.sections d) (m.section d ∷ m.more_sections d ∷ []) (by.to_sections d) (c.firm_low may (omega arith) (c.firm_on may (read_section a) (omega arith) (read_more_sections more)))

    pub read_more_sections : {d : ℕ} {a : List Section} {ts rest : List Token} → IsMoreSections may d a ts rest → Firm may 0 1 (m.more_sections d ∷ []) ts rest
    read_more_sections {d} (declared.no_more_sections x) = c.opened may (m.more_sections d) [] [] refl (omega arith) x (c.nil may)
    read_more_sections {d} (declared.another_section x a more) =
        c.opened may (m.more_sections d) (m.section d ∷ m.more_sections d ∷ []) [] refl (omega arith) x (c.on may (read_section a).reads (omega arith) (read_more_sections more))

  read_result : {d : ℕ} {p : Pos} {a : Qualident} {ts mid rest : List Token} → IsWord may d k.Colon p ts mid → IsQualident may d a mid rest → Going may 5 4 (m.result d ∷ []) ts rest
  read_result {d} x a = c.going may {n = 4} (omega arith) (c.opened may (m.result d) (m.qualident d) [] refl (omega arith) x (c.wide may (omega arith) (in_line {n = 0} (omega arith) (read_second a)).reads))

  pub read_formals : {d : ℕ} {a : Option Formals} {ts rest : List Token} → IsFormalsOption may d a ts rest → Going may 5 2 (m.formals d ∷ []) ts rest
  read_formals {d} declared.no_formals = missing (m.formals d) d k.OpenParen (m.sections d ∷ m.result d ∷ []) (λ c. refl) refl (omega arith)
  read_formals {d} (declared.formals (declared.procedure x all)) =
      c.going may {n = 2} (omega arith) (c.opened may (m.formals d) (m.sections d ∷ m.result d ∷ []) [] refl (omega arith) x
      (c.may_on may {n = 4} (read_sections all).reads (omega arith) (omega arith) (missing (m.result d) d k.Colon (m.qualident d) (λ c. refl) refl (omega arith))))
  read_formals {d} (declared.formals (declared.function x all y of)) =
      c.going may {n = 2} (omega arith) (c.opened may (m.formals d) (m.sections d ∷ m.result d ∷ []) [] refl (omega arith) x
      (c.may_on may (read_sections all).reads (omega arith) (omega arith) (read_result y of)))

  read_flag : {d : ℕ} {a : Option Name} {ts rest : List Token} → IsFlag may d a ts rest → Going may 2 1 (m.flag d ∷ []) ts rest
  read_flag {d} declared.no_flag = missing (m.flag d) d k.OpenBrace (m.tok d k.Ident ∷ m.tok d k.CloseBrace ∷ []) (λ c. refl) refl (omega arith)
  read_flag {d} (declared.flag x n y) =
      c.going may {n = 1} (omega arith) (c.opened may (m.flag d) (m.tok d k.Ident ∷ m.tok d k.CloseBrace ∷ []) [] refl (omega arith) x (name {n = 0} (omega arith) n (last {n = 0} (omega arith) y).reads).reads)

  read_end_name : {d : ℕ} {a : Option Name} {ts rest : List Token} → IsEndName may d a ts rest → Going may 6 5 (m.option d k.Ident ∷ []) ts rest
  read_end_name {d} declared.no_end_name = missing (m.option d k.Ident) d k.Ident [] (λ c. refl) refl (omega arith)
  read_end_name {d} (declared.end_name n) = c.going may {n = 5} (omega arith) (c.opened may (m.option d k.Ident) [] [] refl (omega arith) (as_word may n) (c.nil may))

  pub read_body : {d : ℕ} {a : Option Block} {ts rest : List Token} → IsBody may d a ts rest → Firm may 3 7 (m.body d ∷ []) ts rest
  read_body {d} (declared.no_block x) = c.opened may (m.body d) [] [] refl (omega arith) x (c.nil may)
  read_body {d} (declared.block b) = c.entered may (m.body d) (m.of_stat (s.block d) ∷ []) (by.to_body d) (walk_block may b)

  mutual
    read_exprs : {d : ℕ} {a : List Expr} {ts rest : List Token} → IsExprs may d a ts rest → Firm may 4 0 (m.of_expr (e.exprs d) ∷ []) ts rest
    read_exprs {d} (expression.exprs a more) =
        c.entered may (m.of_expr (e.exprs d)) (m.of_expr (e.expr d) ∷ m.of_expr (e.more_exprs d) ∷ []) (by.to_exprs d) (c.firm_may may (read_expr a) (omega arith) (omega arith) (read_more_exprs more))

    read_more_exprs : {d : ℕ} {a : List Expr} {ts rest : List Token} → IsMoreExprs may d a ts rest → Going may 4 3 (m.of_expr (e.more_exprs d) ∷ []) ts rest
    read_more_exprs {d} expression.no_more_exprs = c.leaves may (m.of_expr (e.more_exprs d)) (loose_exprs d) refl
    read_more_exprs {d} (expression.another_expr is fits a more) =
        c.going may {n = 3} (omega arith) (c.opened may (m.of_expr (e.more_exprs d)) (m.of_expr (e.expr d) ∷ m.of_expr (e.more_exprs d) ∷ []) [] refl (omega arith) (g.word is fits)
        (c.may_on may (read_expr a).reads (omega arith) (omega arith) (read_more_exprs more)))

  -- a word and an expression
  read_value : {d n : ℕ} {p : Pos} {a : Expr} {want : TokenKind} {ts mid rest : List Token} → n < joins want → IsWord may d want p ts mid → IsExpr may d a mid rest → Firm may 3 n (m.then_expr d want ∷ []) ts rest
  read_value {d} {want = want} loose x a = c.opened may (m.then_expr d want) (m.of_expr (e.expr d) ∷ []) [] (word_is d want (m.of_expr (e.expr d) ∷ [])) loose x (read_expr a).reads

  read_const_defs : {d : ℕ} {a : List ConstDef} {ts rest : List Token} → IsConstDefs may d a ts rest → Going may 6 5 (m.const_defs d ∷ []) ts rest
  read_const_defs {d} declared.no_const_defs = missing (m.const_defs d) d k.Ident (m.mark d ∷ m.then_expr d k.Equals ∷ m.tok d k.Semicolon ∷ m.const_defs d ∷ []) (λ c. refl) refl (omega arith)
  read_const_defs {d} (declared.const_def def x a y more) =
      let r = read_mark def in
      c.going may {n = 5} (omega arith) (c.opened may (m.const_defs d) (m.mark d ∷ m.then_expr d k.Equals ∷ m.tok d k.Semicolon ∷ m.const_defs d ∷ []) [] refl (omega arith) (as_word may r.is_name)
      (c.on may r.reads (omega arith) (c.firm_on may (read_value {n = 1} (omega arith) x a) (omega arith) (c.word may {n = 3} (omega arith) y (read_const_defs more).reads))))

  -- what comes after the name of a procedure
  proc_tail : {d : ℕ} {p q : Pos} {formals : Option Formals} {body : Option Block} {end : Name} {ts t2 t3 t4 t5 t6 t7 rest : List Token} → Reads may 1 (m.mark d ∷ []) ts t2 → IsFormalsOption may d formals t2 t3 →
      IsWord may d k.Semicolon p t3 t4 → Going may 7 6 (m.decls true d ∷ []) t4 t5 → IsBody may d body t5 t6 → IsName may d end t6 t7 → IsWord may d k.Semicolon q t7 rest → Reads may 6 (m.mark d ∷ m.proc_tail d (m.tok d k.Semicolon ∷ [])) ts rest
  proc_tail first heading y decls body end z =
      c.on may first (omega arith) (c.going_on may {n = 6} (read_formals heading) (omega arith) (omega arith) (c.word may (omega arith) y
      (c.on may decls.reads (omega arith) (c.firm_on may {n = 5} (read_body body) (omega arith) (name (omega arith) end (last {n = 0} (omega arith) z).reads)))))

  -- a word and a type
  then_type : {d n : ℕ} {p : Pos} {want : TokenKind} {ts mid rest : List Token} → n < joins want → IsWord may d want p ts mid → Firm may 6 0 (m.type d ∷ []) mid rest → Firm may 6 n (m.then_type d want ∷ []) ts rest
  then_type {d} {want = want} loose x r = c.opened may (m.then_type d want) (m.type d ∷ []) [] (word_is d want (m.type d ∷ [])) loose x r.reads

  mutual
    pub read_decls : {local : Bool} {d : ℕ} {a : List Decl} {ts rest : List Token} → IsDecls may local d a ts rest → Going may 7 6 (m.decls local d ∷ []) ts rest
    read_decls {local} {d} declared.no_decls = c.leaves may (m.decls local d) (loose_decls local d) refl
    read_decls {local} {d} (declared.decl a more) =
        c.going may {n = 6} (omega arith) (c.entered may (m.decls local d) (m.decl local d ∷ m.decls local d ∷ []) (by.to_decls local d) (c.firm_may may (read_decl a) (omega arith) (omega arith) (read_decls more)))

    read_decl : {local : Bool} {d : ℕ} {a : Decl} {ts rest : List Token} → IsDecl may local d a ts rest → Firm may 6 6 (m.decl local d ∷ []) ts rest
    read_decl {local} {d} (declared.consts x all) = c.opened may (m.decl local d) (m.const_defs d ∷ []) [] refl (omega arith) x (read_const_defs all).reads
    read_decl {local} {d} (declared.types x all) = c.opened may (m.decl local d) (m.type_defs d ∷ []) [] refl (omega arith) x (read_type_defs all).reads
    read_decl {local} {d} (declared.vars x all) = c.opened may (m.decl local d) (m.var_defs d ∷ []) [] refl (omega arith) x (read_var_defs all).reads
    read_decl {d = d} (declared.proc (declared.proper x def heading y decls body end) z) =
        let r = read_mark def in
        c.opened may (m.decl false d) (m.proc_rest d (m.tok d k.Semicolon ∷ [])) [] refl (omega arith) x
        (c.over may {n = 0} (m.option d k.Ampersand) (m.tok d k.Ident) [] (m.mark d ∷ m.proc_tail d (m.tok d k.Semicolon ∷ [])) refl refl refl (omega arith) (as_word may r.is_name) (proc_tail r.reads heading y (read_decls decls) body end z)).reads
    read_decl {d = d} (declared.proc (declared.initializer x u def heading y decls body end) z) =
        let r = read_mark def in
        c.opened may (m.decl false d) (m.proc_rest d (m.tok d k.Semicolon ∷ [])) [] refl (omega arith) x
        (c.opened may {n = 0} (m.option d k.Ampersand) [] (m.tok d k.Ident ∷ m.mark d ∷ m.proc_tail d (m.tok d k.Semicolon ∷ [])) refl (omega arith) u (in_line {n = 0} (omega arith) (named r.is_name (proc_tail r.reads heading y (read_decls decls) body end z))).reads).reads

    read_type_defs : {d : ℕ} {a : List TypeDef} {ts rest : List Token} → IsTypeDefs may d a ts rest → Going may 6 5 (m.type_defs d ∷ []) ts rest
    read_type_defs {d} declared.no_type_defs = missing (m.type_defs d) d k.Ident (m.mark d ∷ m.then_type d k.Equals ∷ m.tok d k.Semicolon ∷ m.type_defs d ∷ []) (λ c. refl) refl (omega arith)
    read_type_defs {d} (declared.type_def def x a y more) =
        let r = read_mark def in
        c.going may {n = 5} (omega arith) (c.opened may (m.type_defs d) (m.mark d ∷ m.then_type d k.Equals ∷ m.tok d k.Semicolon ∷ m.type_defs d ∷ []) [] refl (omega arith) (as_word may r.is_name)
        (c.on may r.reads (omega arith) (c.firm_on may (then_type {n = 1} (omega arith) x (read_type a)) (omega arith) (c.word may {n = 6} (omega arith) y (read_type_defs more).reads))))

    read_var_defs : {d : ℕ} {a : List VarDef} {ts rest : List Token} → IsVarDefs may d a ts rest → Going may 6 5 (m.var_defs d ∷ []) ts rest
    read_var_defs {d} declared.no_var_defs = missing (m.var_defs d) d k.Ident (m.mark d ∷ m.more_defs d ∷ m.then_type d k.Colon ∷ m.tok d k.Semicolon ∷ m.var_defs d ∷ []) (λ c. refl) refl (omega arith)
    read_var_defs {d} (declared.var_defs a y more) =
        let r = read_var_def a in
        c.going may {n = 5} (omega arith) (c.opened may (m.var_defs d) (m.mark d ∷ m.more_defs d ∷ m.then_type d k.Colon ∷ m.tok d k.Semicolon ∷ m.var_defs d ∷ []) [] refl (omega arith) (as_word may r.is_name)
        (c.on may r.reads (omega arith) (c.word may {n = 6} (omega arith) y (read_var_defs more).reads)))

    read_var_def : {d : ℕ} {a : VarDef} {ts rest : List Token} → IsVarDef may d a ts rest → Named d 6 (m.mark d ∷ m.more_defs d ∷ m.then_type d k.Colon ∷ []) ts rest
    read_var_def (declared.var_def all x of) = let r = read_defs all in named r.is_name (c.on may r.reads (omega arith) (then_type {n = 4} (omega arith) x (read_type of)))

    read_type : {d : ℕ} {a : TypeExpr} {ts rest : List Token} → IsType may d a ts rest → Firm may 6 0 (m.type d ∷ []) ts rest
    read_type {d} (declared.named a) = let r = read_second a in c.opened may (m.type d) (m.then_name (d + 1) k.Period ∷ []) [] refl (omega arith) (as_word may r.is_name) (c.wide may (omega arith) r.reads)
    read_type {d} (declared.open_array x y of) =
        c.opened may (m.type d) (m.lengths (d + 1) ∷ m.then_type (d + 1) k.KwOf ∷ []) [] refl (omega arith) x
        (c.over may {n = 0} (m.lengths (d + 1)) (m.then_type (d + 1) k.KwOf) (m.type (d + 1) ∷ []) [] refl refl refl (omega arith) y (read_type of).reads).reads
    read_type {d} (declared.array x all y of) =
        c.opened may (m.type d) (m.lengths (d + 1) ∷ m.then_type (d + 1) k.KwOf ∷ []) [] refl (omega arith) x
        (c.on may (c.entered may (m.lengths (d + 1)) (m.of_expr (e.exprs (d + 1)) ∷ []) (by.to_lengths (d + 1)) (read_exprs all)).reads (omega arith) (then_type {n = 7} (omega arith) y (read_type of)))
    read_type {d} (declared.fields_of x from a more y) =
        c.opened may (m.type d) (m.base (d + 1) ∷ m.fields (d + 1) ∷ m.more_fields (d + 1) ∷ m.tok (d + 1) k.KwEnd ∷ []) [] refl (omega arith) x
        (c.on may (read_base from).reads (omega arith) (c.going_on may (read_fields a) (omega arith) (omega arith) (c.going_on may {n = 7} (read_more_fields more) (omega arith) (omega arith) (last (omega arith) y))))
    read_type {d} (declared.pointer x y to) =
        c.opened may (m.type d) (m.then_type (d + 1) k.KwTo ∷ []) [] refl (omega arith) x (then_type {n = 0} (omega arith) y (read_type to)).reads
    read_type {d} (declared.procedure x note heading) =
        c.opened may (m.type d) (m.flag (d + 1) ∷ m.formals (d + 1) ∷ []) [] refl (omega arith) x (c.wide may {l = 5} (omega arith) (c.may_on may (read_flag note).reads (omega arith) (omega arith) (read_formals heading)))
    read_type {d} (declared.object x from decls body end) =
        c.opened may (m.type d) (m.base (d + 1) ∷ m.decls false (d + 1) ∷ m.body (d + 1) ∷ m.option (d + 1) k.Ident ∷ []) [] refl (omega arith) x
        (c.on may (read_base from).reads (omega arith) (c.going_on may (read_decls decls) (omega arith) (omega arith) (c.firm_may may (read_body body) (omega arith) (omega arith) (read_end_name end))))

    pub read_fields : {d : ℕ} {a : Fields} {ts rest : List Token} → IsFields may d a ts rest → Going may 6 5 (m.fields d ∷ []) ts rest
    read_fields {d} declared.no_fields = missing (m.fields d) d k.Ident (m.mark d ∷ m.more_defs d ∷ m.then_type d k.Colon ∷ []) (λ c. refl) refl (omega arith)
    read_fields {d} (declared.fields a) =
        let r = read_var_def a in
        c.going may {n = 5} (omega arith) (c.opened may (m.fields d) (m.mark d ∷ m.more_defs d ∷ m.then_type d k.Colon ∷ []) [] refl (omega arith) (as_word may r.is_name) r.reads)

    pub read_more_fields : {d : ℕ} {a : List Fields} {ts rest : List Token} → IsMoreFields may d a ts rest → Going may 7 6 (m.more_fields d ∷ []) ts rest
    read_more_fields {d} declared.no_more_fields = missing (m.more_fields d) d k.Semicolon (m.fields d ∷ m.more_fields d ∷ []) (λ c. refl) refl (omega arith)
    read_more_fields {d} (declared.another_fields x a more) =
        c.going may {n = 6} (omega arith) (c.opened may (m.more_fields d) (m.fields d ∷ m.more_fields d ∷ []) [] refl (omega arith) x (c.may_on may (read_fields a).reads (omega arith) (omega arith) (read_more_fields more)))

  read_import : {d : ℕ} {a : Import} {ts rest : List Token} → IsImport may d a ts rest → Named d 1 (m.then_name d k.Becomes ∷ []) ts rest
  read_import (q.same_name n) = named n (no_then_name {n = 0} (omega arith)).reads
  read_import (q.other_name n x b) = named n (read_then_name {n = 0} (omega arith) x b).reads

  mutual
    read_imports : {d : ℕ} {a : List Import} {ts rest : List Token} → IsImports may d a ts rest → Named d 0 (m.then_name d k.Becomes ∷ m.more_imports d ∷ []) ts rest
    read_imports (q.imports a more) = let r = read_import a in named r.is_name (c.on may r.reads (omega arith) (read_more_imports more))

    pub read_more_imports : {d : ℕ} {a : List Import} {ts rest : List Token} → IsMoreImports may d a ts rest → Firm may 0 3 (m.more_imports d ∷ []) ts rest
    read_more_imports {d} (q.no_more_imports x) = c.opened may (m.more_imports d) [] [] refl (omega arith) x (c.nil may)
    read_more_imports {d} (q.another_import x a more) =
        let r = read_import a in
        c.opened may (m.more_imports d) (m.tok d k.Ident ∷ m.then_name d k.Becomes ∷ m.more_imports d ∷ []) [] refl (omega arith) x (name {n = 0} (omega arith) r.is_name (c.on may r.reads (omega arith) (read_more_imports more))).reads

  read_import_list : {d : ℕ} {a : List Import} {ts rest : List Token} → IsImportList may d a ts rest → Going may 1 0 (m.imports d ∷ []) ts rest
  read_import_list {d} q.no_imports = missing (m.imports d) d k.KwImport (m.tok d k.Ident ∷ m.then_name d k.Becomes ∷ m.more_imports d ∷ []) (λ c. refl) refl (omega arith)
  read_import_list {d} (q.import_list x all) =
      c.going may {n = 0} (omega arith) (c.opened may (m.imports d) (m.tok d k.Ident ∷ m.then_name d k.Becomes ∷ m.more_imports d ∷ []) [] refl (omega arith) x (c.wide may (omega arith) (in_line {n = 0} (omega arith) (read_imports all)).reads))

  read_module : {d : ℕ} {a : Module} {p : Pos} {ts mid rest : List Token} → IsModule may d a ts mid → IsWord may d k.End p mid rest → Reads may 0 (m.text d ∷ []) ts rest
  read_module {d} (q.whole x n y all decls body end z) w =
      (c.opened may {n = 0} (m.text d) (m.tok d k.Ident ∷ m.tok d k.Semicolon ∷ m.imports d ∷ m.decls false d ∷ m.body d ∷ m.tok d k.Ident ∷ m.tok d k.Period ∷ m.tok d k.End ∷ []) [] refl (omega arith) x
      (name {n = 0} (omega arith) n (c.word may {n = 0} (omega arith) y (c.on may (read_import_list all).reads (omega arith) (c.going_on may (read_decls decls) (omega arith) (omega arith)
      (c.firm_on may {n = 5} (read_body body) (omega arith) (name (omega arith) end (c.word may {n = 0} (omega arith) z (last {n = 0} (omega arith) w).reads).reads))))).reads).reads).reads

pub walk_text : (may : Rule) (a : Module) (ts rest : List Token) → module_at may a ts rest → w.Reads m.table joins may 0 (m.text 0 ∷ []) ts rest
walk_text may a ts rest h = read_module may h.reads h.end
