use Rattle.std.proofs.Common.{◌∷◌, [], sym, ◌∙◌, refl, arith, append_assoc, append-nil}
use Rattle.aos_scan.specs.declared.token.TokenKind.TheVariants as kind
use Rattle.aos_tree.specs.Nesting.{shallow}
use Rattle.aos_tree.specs.DeclGrammar as declared
use Rattle.aos_parse_expr.proofs.Steps as by
use Rattle.aos_parse_mod.specs.Symbols as m
use Rattle.aos_parse_mod.proofs.Joins.{word_not}
use Rattle.aos_parse_mod.proofs.ModSteps as q
use Rattle.aos_parse_mod.proofs.declaration.const_defs.Goals as goal

pub returns-in_err-def-in-Ident-clause-moves : goal.returns-in_err-def-in-Ident-clause-moves
returns-in_err-def-in-Ident-clause-moves c =
    by.exits (λ r. r.1.now) c.from_residual.result (m.const_defs c.args.depth ∷ []) c.from_residual.ensures.1 (by.pass_on (m.then_expr c.args.depth kind.Equals ∷ m.tok c.args.depth kind.Semicolon ∷ m.const_defs c.args.depth ∷ []) c.in_err-def-in-Ident.ensures.moves (λ k. c.loop-found.invariant.moves k ∙ by.becomes m.table shallow c.split.ensures.whole (m.const_defs c.args.depth) (m.tok c.args.depth kind.Ident) (m.mark c.args.depth ∷ m.then_expr c.args.depth kind.Equals ∷ m.tok c.args.depth kind.Semicolon ∷ m.const_defs c.args.depth ∷ []) (q.word_at (m.const_defs c.args.depth) c.args.depth 0 kind.Ident (m.mark c.args.depth ∷ m.then_expr c.args.depth kind.Equals ∷ m.tok c.args.depth kind.Semicolon ∷ m.const_defs c.args.depth ∷ []) refl _ c.in-Ident.is) k))

pub returns-in_err-value-in-Ident-clause-moves : goal.returns-in_err-value-in-Ident-clause-moves
returns-in_err-value-in-Ident-clause-moves c =
    by.exits (λ r. r.1.now) c.from_residual-in_err-value-in-Ident.result (m.const_defs c.args.depth ∷ []) c.from_residual-in_err-value-in-Ident.ensures.1 (by.pass_on (m.tok c.args.depth kind.Semicolon ∷ m.const_defs c.args.depth ∷ []) c.in_err-value-in-Ident.ensures.moves (λ k. c.loop-found.invariant.moves k ∙ by.becomes m.table shallow c.split.ensures.whole (m.const_defs c.args.depth) (m.tok c.args.depth kind.Ident) (m.mark c.args.depth ∷ m.then_expr c.args.depth kind.Equals ∷ m.tok c.args.depth kind.Semicolon ∷ m.const_defs c.args.depth ∷ []) (q.word_at (m.const_defs c.args.depth) c.args.depth 0 kind.Ident (m.mark c.args.depth ∷ m.then_expr c.args.depth kind.Equals ∷ m.tok c.args.depth kind.Semicolon ∷ m.const_defs c.args.depth ∷ []) refl _ c.in-Ident.is) k ∙ c.in_ok-def-in-Ident.ensures.moves (m.then_expr c.args.depth kind.Equals ∷ m.tok c.args.depth kind.Semicolon ∷ m.const_defs c.args.depth ∷ k)))

pub returns-in_err-next-in-Ident-clause-moves : goal.returns-in_err-next-in-Ident-clause-moves
returns-in_err-next-in-Ident-clause-moves c =
    by.exits (λ r. r.1.now) c.from_residual-in_err-next-in-Ident.result (m.const_defs c.args.depth ∷ []) c.from_residual-in_err-next-in-Ident.ensures.1 (by.pass_on (m.const_defs c.args.depth ∷ []) c.in_err-next-in-Ident.ensures.moves (λ k. c.loop-found.invariant.moves k ∙ by.becomes m.table shallow c.split.ensures.whole (m.const_defs c.args.depth) (m.tok c.args.depth kind.Ident) (m.mark c.args.depth ∷ m.then_expr c.args.depth kind.Equals ∷ m.tok c.args.depth kind.Semicolon ∷ m.const_defs c.args.depth ∷ []) (q.word_at (m.const_defs c.args.depth) c.args.depth 0 kind.Ident (m.mark c.args.depth ∷ m.then_expr c.args.depth kind.Equals ∷ m.tok c.args.depth kind.Semicolon ∷ m.const_defs c.args.depth ∷ []) refl _ c.in-Ident.is) k ∙ c.in_ok-def-in-Ident.ensures.moves (m.then_expr c.args.depth kind.Equals ∷ m.tok c.args.depth kind.Semicolon ∷ m.const_defs c.args.depth ∷ k) ∙ c.in_ok-value-in-Ident.ensures.moves (m.tok c.args.depth kind.Semicolon ∷ m.const_defs c.args.depth ∷ k)))

pub loop-found-preserved : goal.loop-found-preserved
loop-found-preserved c =
    record {
      ended = c.in_ok-next-in-Ident.ensures.rest.0;
      shorter = omega (arith, c.in_ok-def-in-Ident.ensures.rest.1, c.in_ok-value-in-Ident.ensures.rest.1, c.in_ok-next-in-Ident.ensures.rest.1, c.loop-found.invariant.shorter);
      tree = λ more end h. rw (c.in_ok-push-in-Ident.ensures.ok, append_assoc) (c.loop-found.invariant.tree _ end (declared.const_def c.in_ok-def-in-Ident.ensures.tree c.in_ok-value-in-Ident.ensures.tree.2 c.in_ok-value-in-Ident.ensures.tree.3 c.in_ok-next-in-Ident.ensures.tree h));
      moves = λ k. c.loop-found.invariant.moves k ∙ by.becomes m.table shallow c.split.ensures.whole (m.const_defs c.args.depth) (m.tok c.args.depth kind.Ident) (m.mark c.args.depth ∷ m.then_expr c.args.depth kind.Equals ∷ m.tok c.args.depth kind.Semicolon ∷ m.const_defs c.args.depth ∷ []) (q.word_at (m.const_defs c.args.depth) c.args.depth 0 kind.Ident (m.mark c.args.depth ∷ m.then_expr c.args.depth kind.Equals ∷ m.tok c.args.depth kind.Semicolon ∷ m.const_defs c.args.depth ∷ []) refl _ c.in-Ident.is) k ∙ c.in_ok-def-in-Ident.ensures.moves (m.then_expr c.args.depth kind.Equals ∷ m.tok c.args.depth kind.Semicolon ∷ m.const_defs c.args.depth ∷ k) ∙ c.in_ok-value-in-Ident.ensures.moves (m.tok c.args.depth kind.Semicolon ∷ m.const_defs c.args.depth ∷ k) ∙ c.in_ok-next-in-Ident.ensures.moves (m.const_defs c.args.depth ∷ k);
    }

pub returns-in_default : goal.returns-in_default
returns-in_default c =
    record {
      tree = rw (sym (append-nil c.loop-found.found)) (c.loop-found.invariant.tree [] _ declared.no_const_defs);
      rest = (c.loop-found.invariant.ended, c.loop-found.invariant.shorter);
      moves = λ k. c.loop-found.invariant.moves k ∙ by.skips m.table shallow c.split.ensures.whole (m.const_defs c.args.depth) (word_not c.args.depth kind.Ident _ (m.mark c.args.depth ∷ m.then_expr c.args.depth kind.Equals ∷ m.tok c.args.depth kind.Semicolon ∷ m.const_defs c.args.depth ∷ []) c.in_default.not-Ident) refl k;
    }
