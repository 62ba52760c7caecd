use Rattle.std.proofs.Common.{◌∷◌, [], ◌∙◌, refl, ap}
use Rattle.aos_scan.specs.declared.token.TokenKind.TheVariants as kind
use Rattle.aos_tree.specs.Nesting.{shallow}
use Rattle.aos_tree.specs.Words as g
use Rattle.aos_tree.specs.ModuleGrammar as imported
use Rattle.aos_parse_expr.proofs.Steps as by
use Rattle.aos_parse_mod.specs.Symbols as m
use Rattle.aos_parse_mod.proofs.Joins.{word_not}
use Rattle.aos_parse_expr.proofs.Sight as sight
use Rattle.aos_parse_mod.proofs.text.import_list.Goals as goal

pub returns-in_err-all-in-KwImport-clause-moves : goal.returns-in_err-all-in-KwImport-clause-moves
returns-in_err-all-in-KwImport-clause-moves c =
    by.exits (λ r. r.1.now) c.from_residual.result (m.imports c.args.depth ∷ []) c.from_residual.ensures.1 (by.pass_on ([]) c.in_err-all-in-KwImport.ensures.moves (λ k. by.shifts m.table shallow c.split.ensures.whole (m.imports c.args.depth) c.args.depth (m.tok c.args.depth kind.Ident ∷ m.then_name c.args.depth kind.Becomes ∷ m.more_imports c.args.depth ∷ []) (ap (m.after (m.imports c.args.depth)) c.in-KwImport.is) (by.fits_shallow _ c.requires.nested) k))

pub returns-in_ok-all-in-KwImport-clause-moves : goal.returns-in_ok-all-in-KwImport-clause-moves
returns-in_ok-all-in-KwImport-clause-moves c =
    λ k. by.shifts m.table shallow c.split.ensures.whole (m.imports c.args.depth) c.args.depth (m.tok c.args.depth kind.Ident ∷ m.then_name c.args.depth kind.Becomes ∷ m.more_imports c.args.depth ∷ []) (ap (m.after (m.imports c.args.depth)) c.in-KwImport.is) (by.fits_shallow _ c.requires.nested) k ∙ c.in_ok-all-in-KwImport.ensures.moves (k)

pub returns-in_ok-all-in-KwImport-clause-tree : goal.returns-in_ok-all-in-KwImport-clause-tree
returns-in_ok-all-in-KwImport-clause-tree c =
    rw c.split.ensures.whole (imported.import_list (g.word c.in-KwImport.is (by.fits_shallow _ c.requires.nested)) c.in_ok-all-in-KwImport.ensures.tree)

pub returns-in_default-clause-tree : goal.returns-in_default-clause-tree
returns-in_default-clause-tree c =
    rw c.new.ensures imported.no_imports

pub returns-in_default-clause-moves : goal.returns-in_default-clause-moves
returns-in_default-clause-moves c =
    λ k. by.skips m.table shallow c.split.ensures.whole (m.imports c.args.depth) (word_not c.args.depth kind.KwImport _ (m.tok c.args.depth kind.Ident ∷ m.then_name c.args.depth kind.Becomes ∷ m.more_imports c.args.depth ∷ []) c.in_default.not-KwImport) refl k

pub imports-requires-clause-ended : goal.imports-requires-clause-ended
imports-requires-clause-ended c =
    sight.behind kind.KwImport c.split.ensures.whole c.in-KwImport.is refl c.split.ensures.ended

pub returns-in_ok-all-in-KwImport-clause-rest : goal.returns-in_ok-all-in-KwImport-clause-rest
returns-in_ok-all-in-KwImport-clause-rest c =
    sight.at_most _ _ (sight.past _ c.split.ensures.whole c.in_ok-all-in-KwImport.ensures.rest)
