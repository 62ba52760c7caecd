use Rattle.std.proofs.Common.{◌∷◌, [], ◌∙◌, false}
use Rattle.aos_scan.specs.declared.token.TokenKind.TheVariants as kind
use Rattle.aos_tree.specs.ModuleGrammar as imported
use Rattle.aos_parse_expr.proofs.Steps as by
use Rattle.aos_parse_mod.specs.Symbols as m
use Rattle.aos_parse_mod.proofs.ModSteps as q
use Rattle.aos_parse_mod.proofs.Trees as tree
use Rattle.aos_parse_mod.proofs.text.text.Goals as goal

pub returns-in_err-place-clause-moves : goal.returns-in_err-place-clause-moves
returns-in_err-place-clause-moves c =
    by.exits (λ r. []) c.from_residual.result (m.text 0 ∷ []) c.from_residual.ensures.1 (by.pass_on (m.tok 0 kind.Ident ∷ m.tok 0 kind.Semicolon ∷ m.imports 0 ∷ m.decls false 0 ∷ m.body 0 ∷ m.tok 0 kind.Ident ∷ m.tok 0 kind.Period ∷ m.tok 0 kind.End ∷ []) c.in_err-place.ensures.moves (λ k. q.to_text _ c.requires.ended k))

pub returns-in_err-name-clause-moves : goal.returns-in_err-name-clause-moves
returns-in_err-name-clause-moves c =
    by.exits (λ r. []) c.from_residual-in_err-name.result (m.text 0 ∷ []) c.from_residual-in_err-name.ensures.1 (by.pass_on (m.tok 0 kind.Semicolon ∷ m.imports 0 ∷ m.decls false 0 ∷ m.body 0 ∷ m.tok 0 kind.Ident ∷ m.tok 0 kind.Period ∷ m.tok 0 kind.End ∷ []) c.in_err-name.ensures.moves (λ k. q.to_text _ c.requires.ended k ∙ c.in_ok-place.ensures.moves (m.tok 0 kind.Ident ∷ m.tok 0 kind.Semicolon ∷ m.imports 0 ∷ m.decls false 0 ∷ m.body 0 ∷ m.tok 0 kind.Ident ∷ m.tok 0 kind.Period ∷ m.tok 0 kind.End ∷ k)))

pub returns-in_err-rest-clause-moves : goal.returns-in_err-rest-clause-moves
returns-in_err-rest-clause-moves c =
    by.exits (λ r. []) c.from_residual-in_err-rest.result (m.text 0 ∷ []) c.from_residual-in_err-rest.ensures.1 (by.pass_on (m.imports 0 ∷ m.decls false 0 ∷ m.body 0 ∷ m.tok 0 kind.Ident ∷ m.tok 0 kind.Period ∷ m.tok 0 kind.End ∷ []) c.in_err-rest.ensures.moves (λ k. q.to_text _ c.requires.ended k ∙ c.in_ok-place.ensures.moves (m.tok 0 kind.Ident ∷ m.tok 0 kind.Semicolon ∷ m.imports 0 ∷ m.decls false 0 ∷ m.body 0 ∷ m.tok 0 kind.Ident ∷ m.tok 0 kind.Period ∷ m.tok 0 kind.End ∷ k) ∙ c.in_ok-name.ensures.moves (m.tok 0 kind.Semicolon ∷ m.imports 0 ∷ m.decls false 0 ∷ m.body 0 ∷ m.tok 0 kind.Ident ∷ m.tok 0 kind.Period ∷ m.tok 0 kind.End ∷ k)))

pub returns-in_err-imports-clause-moves : goal.returns-in_err-imports-clause-moves
returns-in_err-imports-clause-moves c =
    by.exits (λ r. []) c.from_residual-in_err-imports.result (m.text 0 ∷ []) c.from_residual-in_err-imports.ensures.1 (by.pass_on (m.decls false 0 ∷ m.body 0 ∷ m.tok 0 kind.Ident ∷ m.tok 0 kind.Period ∷ m.tok 0 kind.End ∷ []) c.in_err-imports.ensures.moves (λ k. q.to_text _ c.requires.ended k ∙ c.in_ok-place.ensures.moves (m.tok 0 kind.Ident ∷ m.tok 0 kind.Semicolon ∷ m.imports 0 ∷ m.decls false 0 ∷ m.body 0 ∷ m.tok 0 kind.Ident ∷ m.tok 0 kind.Period ∷ m.tok 0 kind.End ∷ k) ∙ c.in_ok-name.ensures.moves (m.tok 0 kind.Semicolon ∷ m.imports 0 ∷ m.decls false 0 ∷ m.body 0 ∷ m.tok 0 kind.Ident ∷ m.tok 0 kind.Period ∷ m.tok 0 kind.End ∷ k) ∙ c.in_ok-rest.ensures.moves (m.imports 0 ∷ m.decls false 0 ∷ m.body 0 ∷ m.tok 0 kind.Ident ∷ m.tok 0 kind.Period ∷ m.tok 0 kind.End ∷ k)))

pub returns-in_err-decls-clause-moves : goal.returns-in_err-decls-clause-moves
returns-in_err-decls-clause-moves c =
    by.exits (λ r. []) c.from_residual-in_err-decls.result (m.text 0 ∷ []) c.from_residual-in_err-decls.ensures.1 (by.pass_on (m.body 0 ∷ m.tok 0 kind.Ident ∷ m.tok 0 kind.Period ∷ m.tok 0 kind.End ∷ []) c.in_err-decls.ensures.moves (λ k. q.to_text _ c.requires.ended k ∙ c.in_ok-place.ensures.moves (m.tok 0 kind.Ident ∷ m.tok 0 kind.Semicolon ∷ m.imports 0 ∷ m.decls false 0 ∷ m.body 0 ∷ m.tok 0 kind.Ident ∷ m.tok 0 kind.Period ∷ m.tok 0 kind.End ∷ k) ∙ c.in_ok-name.ensures.moves (m.tok 0 kind.Semicolon ∷ m.imports 0 ∷ m.decls false 0 ∷ m.body 0 ∷ m.tok 0 kind.Ident ∷ m.tok 0 kind.Period ∷ m.tok 0 kind.End ∷ k) ∙ c.in_ok-rest.ensures.moves (m.imports 0 ∷ m.decls false 0 ∷ m.body 0 ∷ m.tok 0 kind.Ident ∷ m.tok 0 kind.Period ∷ m.tok 0 kind.End ∷ k) ∙ c.in_ok-imports.ensures.moves (m.decls false 0 ∷ m.body 0 ∷ m.tok 0 kind.Ident ∷ m.tok 0 kind.Period ∷ m.tok 0 kind.End ∷ k)))

pub returns-in_err-body-clause-moves : goal.returns-in_err-body-clause-moves
returns-in_err-body-clause-moves c =
    by.exits (λ r. []) c.from_residual-in_err-body.result (m.text 0 ∷ []) c.from_residual-in_err-body.ensures.1 (by.pass_on (m.tok 0 kind.Ident ∷ m.tok 0 kind.Period ∷ m.tok 0 kind.End ∷ []) c.in_err-body.ensures.moves (λ k. q.to_text _ c.requires.ended k ∙ c.in_ok-place.ensures.moves (m.tok 0 kind.Ident ∷ m.tok 0 kind.Semicolon ∷ m.imports 0 ∷ m.decls false 0 ∷ m.body 0 ∷ m.tok 0 kind.Ident ∷ m.tok 0 kind.Period ∷ m.tok 0 kind.End ∷ k) ∙ c.in_ok-name.ensures.moves (m.tok 0 kind.Semicolon ∷ m.imports 0 ∷ m.decls false 0 ∷ m.body 0 ∷ m.tok 0 kind.Ident ∷ m.tok 0 kind.Period ∷ m.tok 0 kind.End ∷ k) ∙ c.in_ok-rest.ensures.moves (m.imports 0 ∷ m.decls false 0 ∷ m.body 0 ∷ m.tok 0 kind.Ident ∷ m.tok 0 kind.Period ∷ m.tok 0 kind.End ∷ k) ∙ c.in_ok-imports.ensures.moves (m.decls false 0 ∷ m.body 0 ∷ m.tok 0 kind.Ident ∷ m.tok 0 kind.Period ∷ m.tok 0 kind.End ∷ k) ∙ c.in_ok-decls.ensures.moves (m.body 0 ∷ m.tok 0 kind.Ident ∷ m.tok 0 kind.Period ∷ m.tok 0 kind.End ∷ k)))

pub returns-in_err-last-clause-moves : goal.returns-in_err-last-clause-moves
returns-in_err-last-clause-moves c =
    by.exits (λ r. []) c.from_residual-in_err-last.result (m.text 0 ∷ []) c.from_residual-in_err-last.ensures.1 (by.pass_on (m.tok 0 kind.Period ∷ m.tok 0 kind.End ∷ []) c.in_err-last.ensures.moves (λ k. q.to_text _ c.requires.ended k ∙ c.in_ok-place.ensures.moves (m.tok 0 kind.Ident ∷ m.tok 0 kind.Semicolon ∷ m.imports 0 ∷ m.decls false 0 ∷ m.body 0 ∷ m.tok 0 kind.Ident ∷ m.tok 0 kind.Period ∷ m.tok 0 kind.End ∷ k) ∙ c.in_ok-name.ensures.moves (m.tok 0 kind.Semicolon ∷ m.imports 0 ∷ m.decls false 0 ∷ m.body 0 ∷ m.tok 0 kind.Ident ∷ m.tok 0 kind.Period ∷ m.tok 0 kind.End ∷ k) ∙ c.in_ok-rest.ensures.moves (m.imports 0 ∷ m.decls false 0 ∷ m.body 0 ∷ m.tok 0 kind.Ident ∷ m.tok 0 kind.Period ∷ m.tok 0 kind.End ∷ k) ∙ c.in_ok-imports.ensures.moves (m.decls false 0 ∷ m.body 0 ∷ m.tok 0 kind.Ident ∷ m.tok 0 kind.Period ∷ m.tok 0 kind.End ∷ k) ∙ c.in_ok-decls.ensures.moves (m.body 0 ∷ m.tok 0 kind.Ident ∷ m.tok 0 kind.Period ∷ m.tok 0 kind.End ∷ k) ∙ c.in_ok-body.ensures.moves (m.tok 0 kind.Ident ∷ m.tok 0 kind.Period ∷ m.tok 0 kind.End ∷ k)))

pub returns-in_err-rest-2-clause-moves : goal.returns-in_err-rest-2-clause-moves
returns-in_err-rest-2-clause-moves c =
    by.exits (λ r. []) c.from_residual-in_err-rest-2.result (m.text 0 ∷ []) c.from_residual-in_err-rest-2.ensures.1 (by.pass_on (m.tok 0 kind.End ∷ []) c.in_err-rest-2.ensures.moves (λ k. q.to_text _ c.requires.ended k ∙ c.in_ok-place.ensures.moves (m.tok 0 kind.Ident ∷ m.tok 0 kind.Semicolon ∷ m.imports 0 ∷ m.decls false 0 ∷ m.body 0 ∷ m.tok 0 kind.Ident ∷ m.tok 0 kind.Period ∷ m.tok 0 kind.End ∷ k) ∙ c.in_ok-name.ensures.moves (m.tok 0 kind.Semicolon ∷ m.imports 0 ∷ m.decls false 0 ∷ m.body 0 ∷ m.tok 0 kind.Ident ∷ m.tok 0 kind.Period ∷ m.tok 0 kind.End ∷ k) ∙ c.in_ok-rest.ensures.moves (m.imports 0 ∷ m.decls false 0 ∷ m.body 0 ∷ m.tok 0 kind.Ident ∷ m.tok 0 kind.Period ∷ m.tok 0 kind.End ∷ k) ∙ c.in_ok-imports.ensures.moves (m.decls false 0 ∷ m.body 0 ∷ m.tok 0 kind.Ident ∷ m.tok 0 kind.Period ∷ m.tok 0 kind.End ∷ k) ∙ c.in_ok-decls.ensures.moves (m.body 0 ∷ m.tok 0 kind.Ident ∷ m.tok 0 kind.Period ∷ m.tok 0 kind.End ∷ k) ∙ c.in_ok-body.ensures.moves (m.tok 0 kind.Ident ∷ m.tok 0 kind.Period ∷ m.tok 0 kind.End ∷ k) ∙ c.in_ok-last.ensures.moves (m.tok 0 kind.Period ∷ m.tok 0 kind.End ∷ k)))

pub returns-in_err-end-clause-moves : goal.returns-in_err-end-clause-moves
returns-in_err-end-clause-moves c =
    by.exits (λ r. []) c.from_residual-in_err-end.result (m.text 0 ∷ []) c.from_residual-in_err-end.ensures.1 (by.pass_on ([]) c.in_err-end.ensures.moves (λ k. q.to_text _ c.requires.ended k ∙ c.in_ok-place.ensures.moves (m.tok 0 kind.Ident ∷ m.tok 0 kind.Semicolon ∷ m.imports 0 ∷ m.decls false 0 ∷ m.body 0 ∷ m.tok 0 kind.Ident ∷ m.tok 0 kind.Period ∷ m.tok 0 kind.End ∷ k) ∙ c.in_ok-name.ensures.moves (m.tok 0 kind.Semicolon ∷ m.imports 0 ∷ m.decls false 0 ∷ m.body 0 ∷ m.tok 0 kind.Ident ∷ m.tok 0 kind.Period ∷ m.tok 0 kind.End ∷ k) ∙ c.in_ok-rest.ensures.moves (m.imports 0 ∷ m.decls false 0 ∷ m.body 0 ∷ m.tok 0 kind.Ident ∷ m.tok 0 kind.Period ∷ m.tok 0 kind.End ∷ k) ∙ c.in_ok-imports.ensures.moves (m.decls false 0 ∷ m.body 0 ∷ m.tok 0 kind.Ident ∷ m.tok 0 kind.Period ∷ m.tok 0 kind.End ∷ k) ∙ c.in_ok-decls.ensures.moves (m.body 0 ∷ m.tok 0 kind.Ident ∷ m.tok 0 kind.Period ∷ m.tok 0 kind.End ∷ k) ∙ c.in_ok-body.ensures.moves (m.tok 0 kind.Ident ∷ m.tok 0 kind.Period ∷ m.tok 0 kind.End ∷ k) ∙ c.in_ok-last.ensures.moves (m.tok 0 kind.Period ∷ m.tok 0 kind.End ∷ k) ∙ c.in_ok-rest-2.ensures.moves (m.tok 0 kind.End ∷ k)))

pub returns-clause-moves : goal.returns-clause-moves
returns-clause-moves c =
    λ k. q.to_text _ c.requires.ended k ∙ c.in_ok-place.ensures.moves (m.tok 0 kind.Ident ∷ m.tok 0 kind.Semicolon ∷ m.imports 0 ∷ m.decls false 0 ∷ m.body 0 ∷ m.tok 0 kind.Ident ∷ m.tok 0 kind.Period ∷ m.tok 0 kind.End ∷ k) ∙ c.in_ok-name.ensures.moves (m.tok 0 kind.Semicolon ∷ m.imports 0 ∷ m.decls false 0 ∷ m.body 0 ∷ m.tok 0 kind.Ident ∷ m.tok 0 kind.Period ∷ m.tok 0 kind.End ∷ k) ∙ c.in_ok-rest.ensures.moves (m.imports 0 ∷ m.decls false 0 ∷ m.body 0 ∷ m.tok 0 kind.Ident ∷ m.tok 0 kind.Period ∷ m.tok 0 kind.End ∷ k) ∙ c.in_ok-imports.ensures.moves (m.decls false 0 ∷ m.body 0 ∷ m.tok 0 kind.Ident ∷ m.tok 0 kind.Period ∷ m.tok 0 kind.End ∷ k) ∙ c.in_ok-decls.ensures.moves (m.body 0 ∷ m.tok 0 kind.Ident ∷ m.tok 0 kind.Period ∷ m.tok 0 kind.End ∷ k) ∙ c.in_ok-body.ensures.moves (m.tok 0 kind.Ident ∷ m.tok 0 kind.Period ∷ m.tok 0 kind.End ∷ k) ∙ c.in_ok-last.ensures.moves (m.tok 0 kind.Period ∷ m.tok 0 kind.End ∷ k) ∙ c.in_ok-rest-2.ensures.moves (m.tok 0 kind.End ∷ k) ∙ c.in_ok-end.ensures.moves (k)

pub returns-clause-tree : goal.returns-clause-tree
returns-clause-tree c =
    rw c.in_ok-strings.ensures (tree.reads_of (imported.whole c.in_ok-place.ensures.tree c.in_ok-name.ensures.tree c.in_ok-rest.ensures.tree c.in_ok-imports.ensures.tree c.in_ok-decls.ensures.tree c.in_ok-body.ensures.tree c.in_ok-last.ensures.tree c.in_ok-rest-2.ensures.tree) c.in_ok-end.ensures.whole)
