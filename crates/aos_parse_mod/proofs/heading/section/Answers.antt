use Rattle.std.proofs.Common.{◌∷◌, [], ◌∙◌}
use Rattle.aos_scan.specs.declared.token.TokenKind.TheVariants as kind
use Rattle.aos_parse_expr.proofs.Steps as by
use Rattle.aos_parse_mod.specs.Symbols as m
use Rattle.aos_parse_mod.proofs.ModSteps as q
use Rattle.aos_parse_mod.proofs.Trees as tree
use Rattle.aos_parse_mod.proofs.heading.section.Goals as goal

pub returns-in_err-names-clause-moves : goal.returns-in_err-names-clause-moves
returns-in_err-names-clause-moves c =
    by.exits (λ r. r.1.now) c.from_residual.result (m.section c.args.depth ∷ []) c.from_residual.ensures.1 (by.pass_on (m.tok c.args.depth kind.Colon ∷ m.arrays c.args.depth ∷ m.tok c.args.depth kind.Ident ∷ m.then_name c.args.depth kind.Period ∷ []) c.in_err-names.ensures.moves (λ k. q.to_section _ c.requires.ended c.args.depth k ∙ c.option-reference.ensures.moves (m.tok c.args.depth kind.Ident ∷ m.more_names c.args.depth ∷ m.tok c.args.depth kind.Colon ∷ m.arrays c.args.depth ∷ m.tok c.args.depth kind.Ident ∷ m.then_name c.args.depth kind.Period ∷ k)))

pub returns-in_err-rest-clause-moves : goal.returns-in_err-rest-clause-moves
returns-in_err-rest-clause-moves c =
    by.exits (λ r. r.1.now) c.from_residual-in_err-rest.result (m.section c.args.depth ∷ []) c.from_residual-in_err-rest.ensures.1 (by.pass_on (m.arrays c.args.depth ∷ m.tok c.args.depth kind.Ident ∷ m.then_name c.args.depth kind.Period ∷ []) c.in_err-rest.ensures.moves (λ k. q.to_section _ c.requires.ended c.args.depth k ∙ c.option-reference.ensures.moves (m.tok c.args.depth kind.Ident ∷ m.more_names c.args.depth ∷ m.tok c.args.depth kind.Colon ∷ m.arrays c.args.depth ∷ m.tok c.args.depth kind.Ident ∷ m.then_name c.args.depth kind.Period ∷ k) ∙ c.in_ok-names.ensures.moves (m.tok c.args.depth kind.Colon ∷ m.arrays c.args.depth ∷ m.tok c.args.depth kind.Ident ∷ m.then_name c.args.depth kind.Period ∷ k)))

pub returns-in_err-arrays-clause-moves : goal.returns-in_err-arrays-clause-moves
returns-in_err-arrays-clause-moves c =
    by.exits (λ r. r.1.now) c.from_residual-in_err-arrays.result (m.section c.args.depth ∷ []) c.from_residual-in_err-arrays.ensures.1 (by.pass_on (m.tok c.args.depth kind.Ident ∷ m.then_name c.args.depth kind.Period ∷ []) c.in_err-arrays.ensures.moves (λ k. q.to_section _ c.requires.ended c.args.depth k ∙ c.option-reference.ensures.moves (m.tok c.args.depth kind.Ident ∷ m.more_names c.args.depth ∷ m.tok c.args.depth kind.Colon ∷ m.arrays c.args.depth ∷ m.tok c.args.depth kind.Ident ∷ m.then_name c.args.depth kind.Period ∷ k) ∙ c.in_ok-names.ensures.moves (m.tok c.args.depth kind.Colon ∷ m.arrays c.args.depth ∷ m.tok c.args.depth kind.Ident ∷ m.then_name c.args.depth kind.Period ∷ k) ∙ c.in_ok-rest.ensures.moves (m.arrays c.args.depth ∷ m.tok c.args.depth kind.Ident ∷ m.then_name c.args.depth kind.Period ∷ k)))

pub returns-in_err-of-clause-moves : goal.returns-in_err-of-clause-moves
returns-in_err-of-clause-moves c =
    by.exits (λ r. r.1.now) c.from_residual-in_err-of.result (m.section c.args.depth ∷ []) c.from_residual-in_err-of.ensures.1 (by.pass_on ([]) c.in_err-of.ensures.moves (λ k. q.to_section _ c.requires.ended c.args.depth k ∙ c.option-reference.ensures.moves (m.tok c.args.depth kind.Ident ∷ m.more_names c.args.depth ∷ m.tok c.args.depth kind.Colon ∷ m.arrays c.args.depth ∷ m.tok c.args.depth kind.Ident ∷ m.then_name c.args.depth kind.Period ∷ k) ∙ c.in_ok-names.ensures.moves (m.tok c.args.depth kind.Colon ∷ m.arrays c.args.depth ∷ m.tok c.args.depth kind.Ident ∷ m.then_name c.args.depth kind.Period ∷ k) ∙ c.in_ok-rest.ensures.moves (m.arrays c.args.depth ∷ m.tok c.args.depth kind.Ident ∷ m.then_name c.args.depth kind.Period ∷ k) ∙ c.in_ok-arrays.ensures.moves (m.tok c.args.depth kind.Ident ∷ m.then_name c.args.depth kind.Period ∷ k)))

pub returns-clause-moves : goal.returns-clause-moves
returns-clause-moves c =
    λ k. q.to_section _ c.requires.ended c.args.depth k ∙ c.option-reference.ensures.moves (m.tok c.args.depth kind.Ident ∷ m.more_names c.args.depth ∷ m.tok c.args.depth kind.Colon ∷ m.arrays c.args.depth ∷ m.tok c.args.depth kind.Ident ∷ m.then_name c.args.depth kind.Period ∷ k) ∙ c.in_ok-names.ensures.moves (m.tok c.args.depth kind.Colon ∷ m.arrays c.args.depth ∷ m.tok c.args.depth kind.Ident ∷ m.then_name c.args.depth kind.Period ∷ k) ∙ c.in_ok-rest.ensures.moves (m.arrays c.args.depth ∷ m.tok c.args.depth kind.Ident ∷ m.then_name c.args.depth kind.Period ∷ k) ∙ c.in_ok-arrays.ensures.moves (m.tok c.args.depth kind.Ident ∷ m.then_name c.args.depth kind.Period ∷ k) ∙ c.in_ok-of.ensures.moves (k)

pub returns-clause-tree : goal.returns-clause-tree
returns-clause-tree c =
    rw c.is_some.ensures (tree.section_of c.split.ensures.whole c.option-reference.ensures.tree c.in_ok-names.ensures.tree c.in_ok-rest.ensures.tree c.in_ok-arrays.ensures.tree c.in_ok-of.ensures.tree)
