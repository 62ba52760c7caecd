-- The grammar of declarations and types: a tree reads the tokens `ts` up to `rest`, at a nesting d that is open round it
-- (Active Oberon Language Report, Reali 2002, syntax). One case for each form of a production.
use Rattle.std.specs.Prelude.{◌≡◌, ℕ, ◌+◌, List, [], ◌∷◌, Option, Some, None, Bool, true, false}
use Rattle.aos_base.specs.declared.text.Pos.{Pos}
use Rattle.aos_scan.specs.declared.token.Token.{Token}
use Rattle.aos_scan.specs.declared.token.TokenKind.TheVariants as k
use Rattle.aos_tree.specs.declared.name.Name.{Name}
use Rattle.aos_tree.specs.declared.name.Qualident.{Qualident}
use Rattle.aos_tree.specs.declared.expr.Expr.{Expr}
use Rattle.aos_tree.specs.declared.stat.Block.{Block}
use Rattle.aos_tree.specs.declared.decl.Export.{Export}
use Rattle.aos_tree.specs.declared.decl.Def.{Def}
use Rattle.aos_tree.specs.declared.decl.Decl.{Decl}
use Rattle.aos_tree.specs.declared.decl.Decl.TheVariants as e
use Rattle.aos_tree.specs.declared.decl.ConstDef.{ConstDef}
use Rattle.aos_tree.specs.declared.decl.TypeDef.{TypeDef, roll-TypeDef}
use Rattle.aos_tree.specs.declared.decl.VarDef.{VarDef, roll-VarDef}
use Rattle.aos_tree.specs.declared.decl.Proc.{Proc, roll-Proc}
use Rattle.aos_tree.specs.declared.decl.Formals.{Formals}
use Rattle.aos_tree.specs.declared.decl.Section.{Section}
use Rattle.aos_tree.specs.declared.decl.TypeExpr.{TypeExpr}
use Rattle.aos_tree.specs.declared.decl.TypeExpr.TheVariants as t
use Rattle.aos_tree.specs.declared.decl.Fields.{Fields}
use Rattle.aos_tree.specs.declared.decl.Fields.TheVariants as f
use Rattle.aos_tree.specs.Nesting.{Rule}
use Rattle.aos_tree.specs.Operators.{export_of}
use Rattle.aos_tree.specs.ExprGrammar.{IsExpr, IsExprs}
use Rattle.aos_tree.specs.StatGrammar.{IsBlock}
use Rattle.aos_tree.specs.Words.{IsWord, IsName, IsNames, IsQualident}

-- Def = ident ["*" | "-"].
pub data IsDef (may : Rule) (d : ℕ) : Def → List Token → List Token → Type 0 where
  hidden : {a : Name} {ts rest : List Token} → IsName may d a ts rest → IsDef may d (record { name = a; mark = None }) ts rest
  marked : {a : Name} {export : Export} {t : Token} {ts rest : List Token} →
      IsName may d a ts (t ∷ rest) → export_of t.kind ≡ Some export → may d rest ≡ true →
      IsDef may d (record { name = a; mark = Some (record { pos = t.pos; export = export }) }) ts rest

-- Def {"," Def}
mutual
  pub data IsDefs (may : Rule) (d : ℕ) : List Def → List Token → List Token → Type 0 where
    defs : {a : Def} {more : List Def} {ts mid rest : List Token} →
        IsDef may d a ts mid → IsMoreDefs may d more mid rest → IsDefs may d (a ∷ more) ts rest

  pub data IsMoreDefs (may : Rule) (d : ℕ) : List Def → List Token → List Token → Type 0 where
    no_more_defs : {ts : List Token} → IsMoreDefs may d [] ts ts
    another_def : {p : Pos} {a : Def} {more : List Def} {ts from mid rest : List Token} →
        IsWord may d k.Comma p ts from → IsDef may d a from mid → IsMoreDefs may d more mid rest →
        IsMoreDefs may d (a ∷ more) ts rest

-- ["(" Qualident ")"]
pub data IsBase (may : Rule) (d : ℕ) : Option Qualident → List Token → List Token → Type 0 where
  no_base : {ts : List Token} → IsBase may d None ts ts
  base : {p q : Pos} {a : Qualident} {ts from mid rest : List Token} →
      IsWord may d k.OpenParen p ts from → IsQualident may d a from mid → IsWord may d k.CloseParen q mid rest →
      IsBase may d (Some a) ts rest

-- {ARRAY OF}
pub data IsArrays (may : Rule) (d : ℕ) : List Pos → List Token → List Token → Type 0 where
  no_arrays : {ts : List Token} → IsArrays may d [] ts ts
  arrays : {p q : Pos} {more : List Pos} {ts from mid rest : List Token} →
      IsWord may d k.KwArray p ts from → IsWord may d k.KwOf q from mid → IsArrays may d more mid rest →
      IsArrays may d (p ∷ more) ts rest

-- Section = [VAR] ident {"," ident} ":" {ARRAY OF} Qualident.
pub data IsSection (may : Rule) (d : ℕ) : Section → List Token → List Token → Type 0 where
  by_value : {q : Pos} {a : Name} {names : List Name} {arrays : List Pos} {of : Qualident} {ts t1 t2 t3 rest : List Token} →
      IsNames may d (a ∷ names) ts t1 → IsWord may d k.Colon q t1 t2 → IsArrays may d arrays t2 t3 → IsQualident may d of t3 rest →
      IsSection may d (record { pos = a.pos; by_reference = false; names = a ∷ names; arrays = arrays; of = of }) ts rest
  by_reference : {p q : Pos} {names : List Name} {arrays : List Pos} {of : Qualident} {ts t0 t1 t2 t3 rest : List Token} →
      IsWord may d k.KwVar p ts t0 → IsNames may d names t0 t1 → IsWord may d k.Colon q t1 t2 → IsArrays may d arrays t2 t3 → IsQualident may d of t3 rest →
      IsSection may d (record { pos = p; by_reference = true; names = names; arrays = arrays; of = of }) ts rest

-- [Section {";" Section}] ")"
mutual
  pub data IsSections (may : Rule) (d : ℕ) : List Section → List Token → List Token → Type 0 where
    no_sections : {p : Pos} {ts rest : List Token} → IsWord may d k.CloseParen p ts rest → IsSections may d [] ts rest
    sections : {a : Section} {more : List Section} {ts mid rest : List Token} →
        IsSection may d a ts mid → IsMoreSections may d more mid rest → IsSections may d (a ∷ more) ts rest

  pub data IsMoreSections (may : Rule) (d : ℕ) : List Section → List Token → List Token → Type 0 where
    no_more_sections : {p : Pos} {ts rest : List Token} → IsWord may d k.CloseParen p ts rest → IsMoreSections may d [] ts rest
    another_section : {p : Pos} {a : Section} {more : List Section} {ts from mid rest : List Token} →
        IsWord may d k.Semicolon p ts from → IsSection may d a from mid → IsMoreSections may d more mid rest →
        IsMoreSections may d (a ∷ more) ts rest

-- Formals = "(" [Section {";" Section}] ")" [":" Qualident].
pub data IsFormals (may : Rule) (d : ℕ) : Formals → List Token → List Token → Type 0 where
  procedure : {p : Pos} {all : List Section} {ts mid rest : List Token} →
      IsWord may d k.OpenParen p ts mid → IsSections may d all mid rest →
      IsFormals may d (record { pos = p; sections = all; result = None }) ts rest
  function : {p q : Pos} {all : List Section} {of : Qualident} {ts from mid to rest : List Token} →
      IsWord may d k.OpenParen p ts from → IsSections may d all from mid → IsWord may d k.Colon q mid to → IsQualident may d of to rest →
      IsFormals may d (record { pos = p; sections = all; result = Some of }) ts rest

-- [Formals]
pub data IsFormalsOption (may : Rule) (d : ℕ) : Option Formals → List Token → List Token → Type 0 where
  no_formals : {ts : List Token} → IsFormalsOption may d None ts ts
  formals : {a : Formals} {ts rest : List Token} → IsFormals may d a ts rest → IsFormalsOption may d (Some a) ts rest

-- ["{" ident "}"]
pub data IsFlag (may : Rule) (d : ℕ) : Option Name → List Token → List Token → Type 0 where
  no_flag : {ts : List Token} → IsFlag may d None ts ts
  flag : {p q : Pos} {a : Name} {ts from mid rest : List Token} →
      IsWord may d k.OpenBrace p ts from → IsName may d a from mid → IsWord may d k.CloseBrace q mid rest →
      IsFlag may d (Some a) ts rest

-- [ident]
pub data IsEndName (may : Rule) (d : ℕ) : Option Name → List Token → List Token → Type 0 where
  no_end_name : {ts : List Token} → IsEndName may d None ts ts
  end_name : {a : Name} {ts rest : List Token} → IsName may d a ts rest → IsEndName may d (Some a) ts rest

-- Body = Block | END.
pub data IsBody (may : Rule) (d : ℕ) : Option Block → List Token → List Token → Type 0 where
  no_block : {p : Pos} {ts rest : List Token} → IsWord may d k.KwEnd p ts rest → IsBody may d None ts rest
  block : {a : Block} {ts rest : List Token} → IsBlock may d a ts rest → IsBody may d (Some a) ts rest

-- {Def "=" Expr ";"}
pub data IsConstDefs (may : Rule) (d : ℕ) : List ConstDef → List Token → List Token → Type 0 where
  no_const_defs : {ts : List Token} → IsConstDefs may d [] ts ts
  const_def : {p q : Pos} {def : Def} {value : Expr} {more : List ConstDef} {ts t1 t2 t3 t4 rest : List Token} →
      IsDef may d def ts t1 → IsWord may d k.Equals p t1 t2 → IsExpr may d value t2 t3 → IsWord may d k.Semicolon q t3 t4 →
      IsConstDefs may d more t4 rest → IsConstDefs may d (record { def = def; value = value } ∷ more) ts rest

mutual
  -- {Decl}, or {LocalDecl} where `local` is true: of these none is a procedure
  pub data IsDecls (may : Rule) : Bool → ℕ → List Decl → List Token → List Token → Type 0 where
    no_decls : {local : Bool} {d : ℕ} {ts : List Token} → IsDecls may local d [] ts ts
    decl : {local : Bool} {d : ℕ} {a : Decl} {more : List Decl} {ts mid rest : List Token} →
        IsDecl may local d a ts mid → IsDecls may local d more mid rest → IsDecls may local d (a ∷ more) ts rest

  -- Decl = CONST {Def "=" Expr ";"} | TYPE {Def "=" Type ";"} | VAR {Defs ":" Type ";"} | Proc ";".
  pub data IsDecl (may : Rule) : Bool → ℕ → Decl → List Token → List Token → Type 0 where
    consts : {local : Bool} {d : ℕ} {p : Pos} {all : List ConstDef} {ts mid rest : List Token} →
        IsWord may d k.KwConst p ts mid → IsConstDefs may d all mid rest → IsDecl may local d (e.Consts p all) ts rest
    types : {local : Bool} {d : ℕ} {p : Pos} {all : List TypeDef} {ts mid rest : List Token} →
        IsWord may d k.KwType p ts mid → IsTypeDefs may d all mid rest → IsDecl may local d (e.Types p all) ts rest
    vars : {local : Bool} {d : ℕ} {p : Pos} {all : List VarDef} {ts mid rest : List Token} →
        IsWord may d k.KwVar p ts mid → IsVarDefs may d all mid rest → IsDecl may local d (e.Vars p all) ts rest
    proc : {d : ℕ} {p : Pos} {a : Proc} {ts mid rest : List Token} →
        IsProc may d a ts mid → IsWord may d k.Semicolon p mid rest → IsDecl may false d (e.Proc a) ts rest

  pub data IsTypeDefs (may : Rule) : ℕ → List TypeDef → List Token → List Token → Type 0 where
    no_type_defs : {d : ℕ} {ts : List Token} → IsTypeDefs may d [] ts ts
    type_def : {d : ℕ} {p q : Pos} {def : Def} {value : TypeExpr} {more : List TypeDef} {ts t1 t2 t3 t4 rest : List Token} →
        IsDef may d def ts t1 → IsWord may d k.Equals p t1 t2 → IsType may d value t2 t3 → IsWord may d k.Semicolon q t3 t4 →
        IsTypeDefs may d more t4 rest → IsTypeDefs may d (roll-TypeDef (record { def = def; value = value }) ∷ more) ts rest

  pub data IsVarDefs (may : Rule) : ℕ → List VarDef → List Token → List Token → Type 0 where
    no_var_defs : {d : ℕ} {ts : List Token} → IsVarDefs may d [] ts ts
    var_defs : {d : ℕ} {p : Pos} {a : VarDef} {more : List VarDef} {ts t1 t2 rest : List Token} →
        IsVarDef may d a ts t1 → IsWord may d k.Semicolon p t1 t2 → IsVarDefs may d more t2 rest → IsVarDefs may d (a ∷ more) ts rest

  -- Defs ":" Type
  pub data IsVarDef (may : Rule) : ℕ → VarDef → List Token → List Token → Type 0 where
    var_def : {d : ℕ} {p : Pos} {all : List Def} {of : TypeExpr} {ts t1 t2 rest : List Token} →
        IsDefs may d all ts t1 → IsWord may d k.Colon p t1 t2 → IsType may d of t2 rest →
        IsVarDef may d (roll-VarDef (record { defs = all; of = of })) ts rest

  -- Proc = PROCEDURE ["&"] Def [Formals] ";" {LocalDecl} Body ident.
  pub data IsProc (may : Rule) : ℕ → Proc → List Token → List Token → Type 0 where
    proper : {d : ℕ} {p q : Pos} {def : Def} {formals : Option Formals} {decls : List Decl} {body : Option Block} {end : Name} {ts t1 t2 t3 t4 t5 t6 rest : List Token} →
        IsWord may d k.KwProcedure p ts t1 → IsDef may d def t1 t2 → IsFormalsOption may d formals t2 t3 → IsWord may d k.Semicolon q t3 t4 →
        IsDecls may true d decls t4 t5 → IsBody may d body t5 t6 → IsName may d end t6 rest →
        IsProc may d (roll-Proc (record { outline = record { pos = p; initializer = None; def = def; formals = formals; body = body; end = end }; decls = decls })) ts rest
    initializer : {d : ℕ} {p q r : Pos} {def : Def} {formals : Option Formals} {decls : List Decl} {body : Option Block} {end : Name} {ts t0 t1 t2 t3 t4 t5 t6 rest : List Token} →
        IsWord may d k.KwProcedure p ts t0 → IsWord may d k.Ampersand r t0 t1 → IsDef may d def t1 t2 → IsFormalsOption may d formals t2 t3 → IsWord may d k.Semicolon q t3 t4 →
        IsDecls may true d decls t4 t5 → IsBody may d body t5 t6 → IsName may d end t6 rest →
        IsProc may d (roll-Proc (record { outline = record { pos = p; initializer = Some r; def = def; formals = formals; body = body; end = end }; decls = decls })) ts rest

  -- Type = Qualident | ARRAY .. | RECORD .. | POINTER .. | PROCEDURE .. | OBJECT ...
  pub data IsType (may : Rule) : ℕ → TypeExpr → List Token → List Token → Type 0 where
    named : {d : ℕ} {a : Qualident} {ts rest : List Token} → IsQualident may (d + 1) a ts rest → IsType may d (t.Named a) ts rest
    open_array : {d : ℕ} {p q : Pos} {of : TypeExpr} {ts t1 t2 rest : List Token} →
        IsWord may (d + 1) k.KwArray p ts t1 → IsWord may (d + 1) k.KwOf q t1 t2 → IsType may (d + 1) of t2 rest →
        IsType may d (t.Array p [] of) ts rest
    array : {d : ℕ} {p q : Pos} {all : List Expr} {of : TypeExpr} {ts t1 t2 t3 rest : List Token} →
        IsWord may (d + 1) k.KwArray p ts t1 → IsExprs may (d + 1) all t1 t2 → IsWord may (d + 1) k.KwOf q t2 t3 → IsType may (d + 1) of t3 rest →
        IsType may d (t.Array p all of) ts rest
    fields_of : {d : ℕ} {p q : Pos} {base : Option Qualident} {a : Fields} {more : List Fields} {ts t1 t2 t3 t4 rest : List Token} →
        IsWord may (d + 1) k.KwRecord p ts t1 → IsBase may (d + 1) base t1 t2 → IsFields may (d + 1) a t2 t3 → IsMoreFields may (d + 1) more t3 t4 →
        IsWord may (d + 1) k.KwEnd q t4 rest → IsType may d (t.Record p base (a ∷ more)) ts rest
    pointer : {d : ℕ} {p q : Pos} {to : TypeExpr} {ts t1 t2 rest : List Token} →
        IsWord may (d + 1) k.KwPointer p ts t1 → IsWord may (d + 1) k.KwTo q t1 t2 → IsType may (d + 1) to t2 rest →
        IsType may d (t.Pointer p to) ts rest
    procedure : {d : ℕ} {p : Pos} {flag : Option Name} {formals : Option Formals} {ts t1 t2 rest : List Token} →
        IsWord may (d + 1) k.KwProcedure p ts t1 → IsFlag may (d + 1) flag t1 t2 → IsFormalsOption may (d + 1) formals t2 rest →
        IsType may d (t.Proc p flag formals) ts rest
    object : {d : ℕ} {p : Pos} {base : Option Qualident} {decls : List Decl} {body : Option Block} {end : Option Name} {ts t1 t2 t3 t4 rest : List Token} →
        IsWord may (d + 1) k.KwObject p ts t1 → IsBase may (d + 1) base t1 t2 → IsDecls may false (d + 1) decls t2 t3 → IsBody may (d + 1) body t3 t4 →
        IsEndName may (d + 1) end t4 rest → IsType may d (t.Object p base decls body end) ts rest

  -- Fields = [Defs ":" Type].
  pub data IsFields (may : Rule) : ℕ → Fields → List Token → List Token → Type 0 where
    no_fields : {d : ℕ} {ts : List Token} → IsFields may d f.Empty ts ts
    fields : {d : ℕ} {a : VarDef} {ts rest : List Token} → IsVarDef may d a ts rest → IsFields may d (f.Of a) ts rest

  pub data IsMoreFields (may : Rule) : ℕ → List Fields → List Token → List Token → Type 0 where
    no_more_fields : {d : ℕ} {ts : List Token} → IsMoreFields may d [] ts ts
    another_fields : {d : ℕ} {p : Pos} {a : Fields} {more : List Fields} {ts from mid rest : List Token} →
        IsWord may d k.Semicolon p ts from → IsFields may d a from mid → IsMoreFields may d more mid rest →
        IsMoreFields may d (a ∷ more) ts rest
