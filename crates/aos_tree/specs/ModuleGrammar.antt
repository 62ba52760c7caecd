-- The grammar of modules, and which tree reads a whole token list
-- (Active Oberon Language Report, Reali 2002, syntax).
use Rattle.std.specs.Prelude.{◌≡◌, ℕ, List, [], ◌∷◌, Option, Some, None, Bool, true, false, filter, map}
use Rattle.aos_base.specs.declared.text.Pos.{Pos}
use Rattle.aos_scan.specs.declared.token.Token.{Token}
use Rattle.aos_scan.specs.declared.token.TokenKind.{TokenKind}
use Rattle.aos_scan.specs.declared.token.TokenKind.TheVariants as k
use Rattle.aos_tree.specs.declared.name.Name.{Name}
use Rattle.aos_tree.specs.declared.name.Text.{Text}
use Rattle.aos_tree.specs.declared.stat.Block.{Block}
use Rattle.aos_tree.specs.declared.decl.Decl.{Decl}
use Rattle.aos_tree.specs.declared.module.Module.{Module}
use Rattle.aos_tree.specs.declared.module.Import.{Import}
use Rattle.aos_tree.specs.Nesting.{Rule, shallow}
use Rattle.aos_tree.specs.DeclGrammar.{IsDecls, IsBody}
use Rattle.aos_tree.specs.Words.{IsWord, IsName}
use Rattle.aos_tree.specs.Operators.{text_at}

-- Import = ident [":=" ident].
pub data IsImport (may : Rule) (d : ℕ) : Import → List Token → List Token → Type 0 where
  same_name : {a : Name} {ts rest : List Token} → IsName may d a ts rest → IsImport may d (record { name = a; of = None }) ts rest
  other_name : {p : Pos} {a b : Name} {ts from mid rest : List Token} →
      IsName may d a ts from → IsWord may d k.Becomes p from mid → IsName may d b mid rest →
      IsImport may d (record { name = a; of = Some b }) ts rest

-- Import {"," Import} ";"
mutual
  pub data IsImports (may : Rule) (d : ℕ) : List Import → List Token → List Token → Type 0 where
    imports : {a : Import} {more : List Import} {ts mid rest : List Token} →
        IsImport may d a ts mid → IsMoreImports may d more mid rest → IsImports may d (a ∷ more) ts rest

  pub data IsMoreImports (may : Rule) (d : ℕ) : List Import → List Token → List Token → Type 0 where
    no_more_imports : {p : Pos} {ts rest : List Token} → IsWord may d k.Semicolon p ts rest → IsMoreImports may d [] ts rest
    another_import : {p : Pos} {a : Import} {more : List Import} {ts from mid rest : List Token} →
        IsWord may d k.Comma p ts from → IsImport may d a from mid → IsMoreImports may d more mid rest →
        IsMoreImports may d (a ∷ more) ts rest

-- [IMPORT Import {"," Import} ";"]
pub data IsImportList (may : Rule) (d : ℕ) : List Import → List Token → List Token → Type 0 where
  no_imports : {ts : List Token} → IsImportList may d [] ts ts
  import_list : {p : Pos} {all : List Import} {ts mid rest : List Token} →
      IsWord may d k.KwImport p ts mid → IsImports may d all mid rest → IsImportList may d all ts rest

-- the strings among tokens
abbrev pub is_string : TokenKind → Bool
is_string k.Text = true
is_string other = false

abbrev pub strings_in : List Token → List Text
strings_in ts = map text_at (filter (λ t. is_string t.kind) ts)

-- Module = MODULE ident ";" [IMPORT Import {"," Import} ";"] {Decl} Body ident ".". Beside its parts it has all strings of its text.
pub data IsModule (may : Rule) (d : ℕ) : Module → List Token → List Token → Type 0 where
  whole : {p q r : Pos} {name end : Name} {all : List Import} {decls : List Decl} {body : Option Block} {ts t1 t2 t3 t4 t5 t6 t7 rest : List Token} →
      IsWord may d k.KwModule p ts t1 → IsName may d name t1 t2 → IsWord may d k.Semicolon q t2 t3 → IsImportList may d all t3 t4 →
      IsDecls may false d decls t4 t5 → IsBody may d body t5 t6 → IsName may d end t6 t7 → IsWord may d k.Period r t7 rest →
      IsModule may d (record { pos = p; name = name; imports = all; decls = decls; body = body; end = end; strings = strings_in ts }) ts rest

-- the tree reads the whole token list, up to its end, and no token is nested deeper than 200
pub record Reads (tree : Module) (tokens : List Token) : Type 0 where
  pub end : Token
  pub is_end : end.kind ≡ k.End
  pub reads : IsModule shallow 0 tree tokens (end ∷ [])
