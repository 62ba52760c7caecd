use Rattle.std.proofs.Common.{◌+◌, ◌++◌, ◌∷◌, [], sym, ◌∙◌, refl, ap, arith, append_assoc, length, append-nil}
use Rattle.aos_scan.specs.declared.token.TokenKind.TheVariants as kind
use Rattle.aos_tree.specs.StatGrammar as g
use Rattle.aos_tree.specs.Nesting.{shallow}
use Rattle.aos_parse_expr.proofs.Steps as by
use Rattle.aos_parse_stat.specs.Grammar as v
use Rattle.aos_parse_stat.specs.Symbols as m
use Rattle.aos_parse_stat.proofs.Moving as moving
use Rattle.aos_parse_stat.proofs.StatProductions as q
use Rattle.aos_parse_stat.proofs.Trees as trees
use Rattle.aos_parse_stat.proofs.descent.+descent.Goals as goal

pub stats-loop-found-init : goal.stats-loop-found-init
stats-loop-found-init t c =
    record {
      ended = c.in_ok-first.ensures.rest.0;
      shorter = omega (arith, c.in_ok-first.ensures.rest.1);
      tree = λ more end h. rw (c.in_ok-push.ensures.ok, c.new-found.ensures) (g.stats c.in_ok-first.ensures.tree h);
      moves = λ k. c.in_ok-first.ensures.moves (m.more_stats c.args.depth ∷ k);
    }

pub stats-returns-in_err-first-clause-moves : goal.stats-returns-in_err-first-clause-moves
stats-returns-in_err-first-clause-moves t c =
    by.exits (λ r. r.1.now) c.from_residual.result (m.stats c.args.depth) c.from_residual.ensures.1 (by.pass_on (m.more_stats c.args.depth ∷ []) c.in_err-first.ensures.moves (λ k. refl))

pub stats-returns-in_err-one-in-Semicolon-clause-moves : goal.stats-returns-in_err-one-in-Semicolon-clause-moves
stats-returns-in_err-one-in-Semicolon-clause-moves t c =
    by.exits (λ r. r.1.now) c.from_residual-in_err-one-in-Semicolon.result (m.stats c.args.depth) c.from_residual-in_err-one-in-Semicolon.ensures.1 (by.pass_on (m.more_stats c.args.depth ∷ []) c.in_err-one-in-Semicolon.ensures.moves (λ k. c.loop-found.invariant.moves k ∙ by.shifts m.table shallow c.split.ensures.whole (m.more_stats c.args.depth) c.args.depth (m.stats c.args.depth) (ap (m.after_more_stats c.args.depth) c.in-Semicolon.is) (by.fits_shallow _ c.requires.nested) k))

pub stats-loop-found-preserved : goal.stats-loop-found-preserved
stats-loop-found-preserved t c =
    record {
      ended = c.in_ok-one-in-Semicolon.ensures.rest.0;
      shorter = omega (arith, ap length c.split.ensures.whole, c.in_ok-one-in-Semicolon.ensures.rest.1, c.loop-found.invariant.shorter);
      tree = λ more end h. rw (c.in_ok-push-in-Semicolon.ensures.ok, append_assoc) (c.loop-found.invariant.tree _ end (g.another_stat (trees.word_at c.args.depth c.split.ensures.whole c.in-Semicolon.is c.requires.nested) c.in_ok-one-in-Semicolon.ensures.tree h));
      moves = λ k. c.loop-found.invariant.moves k ∙ by.shifts m.table shallow c.split.ensures.whole (m.more_stats c.args.depth) c.args.depth (m.stats c.args.depth) (ap (m.after_more_stats c.args.depth) c.in-Semicolon.is) (by.fits_shallow _ c.requires.nested) k ∙ c.in_ok-one-in-Semicolon.ensures.moves (m.more_stats c.args.depth ∷ k);
    }

pub stats-returns-in_default : goal.stats-returns-in_default
stats-returns-in_default t c =
    record {
      tree = rw (sym (append-nil c.loop-found.found)) (c.loop-found.invariant.tree [] _ g.no_more_stats);
      rest = (c.loop-found.invariant.ended, c.loop-found.invariant.shorter);
      moves = λ k. c.loop-found.invariant.moves k ∙ by.skips m.table shallow c.split.ensures.whole (m.more_stats c.args.depth) (q.no_more_stats _ _ c.in_default.not-Semicolon) refl k;
    }

pub stat-returns-then-starts_stat-clause-moves : goal.stat-returns-then-starts_stat-clause-moves
stat-returns-then-starts_stat-clause-moves t c =
    moving.goes_too_deep (m.stat c.args.depth) (c.args.depth + 1) _ c.split.ensures.whole (q.stat_starts c.args.depth _ (sym c.starts_stat.ensures ∙ c.if-starts_stat.true)).1 (omega arith)

pub stat-returns-then-depth-eq200-clause-moves : goal.stat-returns-then-depth-eq200-clause-moves
stat-returns-then-depth-eq200-clause-moves t c =
    λ k. by.skips m.table shallow c.split.ensures.whole (m.stat c.args.depth) (q.no_stat c.args.depth _ (sym c.starts_stat.ensures ∙ c.if-starts_stat.false)) refl k

pub stat-returns-then-depth-eq200-clause-tree : goal.stat-returns-then-depth-eq200-clause-tree
stat-returns-then-depth-eq200-clause-tree t c =
    g.empty

pub stat-returns-in-Ident-clause-moves : goal.stat-returns-in-Ident-clause-moves
stat-returns-in-Ident-clause-moves t c =
    moving.hands_on m.table (λ r. r.1.now) c.desig_stat.result (m.desig (c.args.depth + 1) ∷ m.option (c.args.depth + 1) kind.Becomes ∷ []) (m.stat c.args.depth ∷ []) _ _ c.desig_stat.ensures.moves (λ k. by.becomes m.table shallow c.split.ensures.whole (m.stat c.args.depth) (m.desig (c.args.depth + 1)) (m.option (c.args.depth + 1) kind.Becomes ∷ []) (λ j. q.stat_ident c.args.depth _ c.in-Ident.is j) k)

pub stat-returns-in-Ident-clause-tree : goal.stat-returns-in-Ident-clause-tree
stat-returns-in-Ident-clause-tree t c =
    c.desig_stat.ensures.tree

pub stat-returns-in_err-inner-in-KwBegin-clause-moves : goal.stat-returns-in_err-inner-in-KwBegin-clause-moves
stat-returns-in_err-inner-in-KwBegin-clause-moves t c =
    by.exits (λ r. r.1.now) c.from_residual.result (m.stat c.args.depth ∷ []) c.from_residual.ensures.1 (by.pass_on ([]) c.in_err-inner-in-KwBegin.ensures.moves (λ k. by.becomes m.table shallow c.split.ensures.whole (m.stat c.args.depth) (m.block (c.args.depth + 1)) ([]) (λ j. q.stat_block c.args.depth _ c.in-KwBegin.is j) k))

pub stat-returns-in_ok-inner-in-KwBegin-clause-moves : goal.stat-returns-in_ok-inner-in-KwBegin-clause-moves
stat-returns-in_ok-inner-in-KwBegin-clause-moves t c =
    λ k. by.becomes m.table shallow c.split.ensures.whole (m.stat c.args.depth) (m.block (c.args.depth + 1)) ([]) (λ j. q.stat_block c.args.depth _ c.in-KwBegin.is j) k ∙ c.in_ok-inner-in-KwBegin.ensures.moves k

pub stat-returns-in_ok-inner-in-KwBegin-clause-tree : goal.stat-returns-in_ok-inner-in-KwBegin-clause-tree
stat-returns-in_ok-inner-in-KwBegin-clause-tree t c =
    g.block c.in_ok-inner-in-KwBegin.ensures.tree

pub stat-returns-in-KwExit-clause-moves : goal.stat-returns-in-KwExit-clause-moves
stat-returns-in-KwExit-clause-moves t c =
    λ k. by.shifts m.table shallow c.split.ensures.whole (m.stat c.args.depth) (c.args.depth + 1) ([]) (ap (m.after_stat c.args.depth) c.in-KwExit.is) (by.fits_shallow (c.args.depth + 1) (omega arith)) k

pub stat-returns-in-KwExit-clause-tree : goal.stat-returns-in-KwExit-clause-tree
stat-returns-in-KwExit-clause-tree t c =
    g.exit (trees.word_at (c.args.depth + 1) c.split.ensures.whole c.in-KwExit.is (omega arith))

pub stat-returns-in-KwReturn-clause-moves : goal.stat-returns-in-KwReturn-clause-moves
stat-returns-in-KwReturn-clause-moves t c =
    moving.hands_on m.table (λ r. r.1.now) c.return_stat.result (m.returned (c.args.depth + 1) ∷ []) (m.stat c.args.depth ∷ []) _ _ c.return_stat.ensures.moves (λ k. by.shifts m.table shallow c.split.ensures.whole (m.stat c.args.depth) (c.args.depth + 1) (m.returned (c.args.depth + 1) ∷ []) (ap (m.after_stat c.args.depth) c.in-KwReturn.is) (by.fits_shallow (c.args.depth + 1) (omega arith)) k)

pub stat-returns-in-KwReturn-clause-tree : goal.stat-returns-in-KwReturn-clause-tree
stat-returns-in-KwReturn-clause-tree t c =
    trees.stat_after (λ r. r.0) (λ r. r.1.now) c.return_stat.result c.args.depth (trees.word_at (c.args.depth + 1) c.split.ensures.whole c.in-KwReturn.is (omega arith)) c.return_stat.ensures.tree

pub stat-returns-in-KwAwait-clause-moves : goal.stat-returns-in-KwAwait-clause-moves
stat-returns-in-KwAwait-clause-moves t c =
    moving.hands_on m.table (λ r. r.1.now) c.await_stat.result (m.await_rest (c.args.depth + 1)) (m.stat c.args.depth ∷ []) _ _ c.await_stat.ensures.moves (λ k. by.shifts m.table shallow c.split.ensures.whole (m.stat c.args.depth) (c.args.depth + 1) (m.await_rest (c.args.depth + 1)) (ap (m.after_stat c.args.depth) c.in-KwAwait.is) (by.fits_shallow (c.args.depth + 1) (omega arith)) k)

pub stat-returns-in-KwAwait-clause-tree : goal.stat-returns-in-KwAwait-clause-tree
stat-returns-in-KwAwait-clause-tree t c =
    trees.stat_after (λ r. r.0) (λ r. r.1.now) c.await_stat.result c.args.depth (trees.word_at (c.args.depth + 1) c.split.ensures.whole c.in-KwAwait.is (omega arith)) c.await_stat.ensures.tree

pub stat-returns-in-KwIf-clause-moves : goal.stat-returns-in-KwIf-clause-moves
stat-returns-in-KwIf-clause-moves t c =
    moving.hands_on m.table (λ r. r.1.now) c.if_stat.result (m.if_rest (c.args.depth + 1)) (m.stat c.args.depth ∷ []) _ _ c.if_stat.ensures.moves (λ k. by.shifts m.table shallow c.split.ensures.whole (m.stat c.args.depth) (c.args.depth + 1) (m.if_rest (c.args.depth + 1)) (ap (m.after_stat c.args.depth) c.in-KwIf.is) (by.fits_shallow (c.args.depth + 1) (omega arith)) k)

pub stat-returns-in-KwIf-clause-tree : goal.stat-returns-in-KwIf-clause-tree
stat-returns-in-KwIf-clause-tree t c =
    trees.stat_after (λ r. r.0) (λ r. r.1.now) c.if_stat.result c.args.depth (trees.word_at (c.args.depth + 1) c.split.ensures.whole c.in-KwIf.is (omega arith)) c.if_stat.ensures.tree

pub stat-returns-in-KwCase-clause-moves : goal.stat-returns-in-KwCase-clause-moves
stat-returns-in-KwCase-clause-moves t c =
    moving.hands_on m.table (λ r. r.1.now) c.case_stat.result (m.case_rest (c.args.depth + 1)) (m.stat c.args.depth ∷ []) _ _ c.case_stat.ensures.moves (λ k. by.shifts m.table shallow c.split.ensures.whole (m.stat c.args.depth) (c.args.depth + 1) (m.case_rest (c.args.depth + 1)) (ap (m.after_stat c.args.depth) c.in-KwCase.is) (by.fits_shallow (c.args.depth + 1) (omega arith)) k)

pub stat-returns-in-KwCase-clause-tree : goal.stat-returns-in-KwCase-clause-tree
stat-returns-in-KwCase-clause-tree t c =
    trees.stat_after (λ r. r.0) (λ r. r.1.now) c.case_stat.result c.args.depth (trees.word_at (c.args.depth + 1) c.split.ensures.whole c.in-KwCase.is (omega arith)) c.case_stat.ensures.tree

pub stat-returns-in-KwWhile-clause-moves : goal.stat-returns-in-KwWhile-clause-moves
stat-returns-in-KwWhile-clause-moves t c =
    moving.hands_on m.table (λ r. r.1.now) c.while_stat.result (m.while_rest (c.args.depth + 1)) (m.stat c.args.depth ∷ []) _ _ c.while_stat.ensures.moves (λ k. by.shifts m.table shallow c.split.ensures.whole (m.stat c.args.depth) (c.args.depth + 1) (m.while_rest (c.args.depth + 1)) (ap (m.after_stat c.args.depth) c.in-KwWhile.is) (by.fits_shallow (c.args.depth + 1) (omega arith)) k)

pub stat-returns-in-KwWhile-clause-tree : goal.stat-returns-in-KwWhile-clause-tree
stat-returns-in-KwWhile-clause-tree t c =
    trees.stat_after (λ r. r.0) (λ r. r.1.now) c.while_stat.result c.args.depth (trees.word_at (c.args.depth + 1) c.split.ensures.whole c.in-KwWhile.is (omega arith)) c.while_stat.ensures.tree

pub stat-returns-in-KwRepeat-clause-moves : goal.stat-returns-in-KwRepeat-clause-moves
stat-returns-in-KwRepeat-clause-moves t c =
    moving.hands_on m.table (λ r. r.1.now) c.repeat_stat.result (m.repeat_rest (c.args.depth + 1)) (m.stat c.args.depth ∷ []) _ _ c.repeat_stat.ensures.moves (λ k. by.shifts m.table shallow c.split.ensures.whole (m.stat c.args.depth) (c.args.depth + 1) (m.repeat_rest (c.args.depth + 1)) (ap (m.after_stat c.args.depth) c.in-KwRepeat.is) (by.fits_shallow (c.args.depth + 1) (omega arith)) k)

pub stat-returns-in-KwRepeat-clause-tree : goal.stat-returns-in-KwRepeat-clause-tree
stat-returns-in-KwRepeat-clause-tree t c =
    trees.stat_after (λ r. r.0) (λ r. r.1.now) c.repeat_stat.result c.args.depth (trees.word_at (c.args.depth + 1) c.split.ensures.whole c.in-KwRepeat.is (omega arith)) c.repeat_stat.ensures.tree

pub stat-returns-in-KwLoop-clause-moves : goal.stat-returns-in-KwLoop-clause-moves
stat-returns-in-KwLoop-clause-moves t c =
    moving.hands_on m.table (λ r. r.1.now) c.loop_stat.result (m.body_rest (c.args.depth + 1)) (m.stat c.args.depth ∷ []) _ _ c.loop_stat.ensures.moves (λ k. by.shifts m.table shallow c.split.ensures.whole (m.stat c.args.depth) (c.args.depth + 1) (m.body_rest (c.args.depth + 1)) (ap (m.after_stat c.args.depth) c.in-KwLoop.is) (by.fits_shallow (c.args.depth + 1) (omega arith)) k)

pub stat-returns-in-KwLoop-clause-tree : goal.stat-returns-in-KwLoop-clause-tree
stat-returns-in-KwLoop-clause-tree t c =
    trees.stat_after (λ r. r.0) (λ r. r.1.now) c.loop_stat.result c.args.depth (trees.word_at (c.args.depth + 1) c.split.ensures.whole c.in-KwLoop.is (omega arith)) c.loop_stat.ensures.tree

pub stat-returns-in-KwFor-clause-moves : goal.stat-returns-in-KwFor-clause-moves
stat-returns-in-KwFor-clause-moves t c =
    moving.hands_on m.table (λ r. r.1.now) c.for_stat.result (m.for_rest (c.args.depth + 1)) (m.stat c.args.depth ∷ []) _ _ c.for_stat.ensures.moves (λ k. by.shifts m.table shallow c.split.ensures.whole (m.stat c.args.depth) (c.args.depth + 1) (m.for_rest (c.args.depth + 1)) (ap (m.after_stat c.args.depth) c.in-KwFor.is) (by.fits_shallow (c.args.depth + 1) (omega arith)) k)

pub stat-returns-in-KwFor-clause-tree : goal.stat-returns-in-KwFor-clause-tree
stat-returns-in-KwFor-clause-tree t c =
    trees.stat_after (λ r. r.0) (λ r. r.1.now) c.for_stat.result c.args.depth (trees.word_at (c.args.depth + 1) c.split.ensures.whole c.in-KwFor.is (omega arith)) c.for_stat.ensures.tree

pub stat-returns-in-KwWith-clause-moves : goal.stat-returns-in-KwWith-clause-moves
stat-returns-in-KwWith-clause-moves t c =
    moving.hands_on m.table (λ r. r.1.now) c.with_stat.result (m.with_rest (c.args.depth + 1)) (m.stat c.args.depth ∷ []) _ _ c.with_stat.ensures.moves (λ k. by.shifts m.table shallow c.split.ensures.whole (m.stat c.args.depth) (c.args.depth + 1) (m.with_rest (c.args.depth + 1)) (ap (m.after_stat c.args.depth) c.in-KwWith.is) (by.fits_shallow (c.args.depth + 1) (omega arith)) k)

pub stat-returns-in-KwWith-clause-tree : goal.stat-returns-in-KwWith-clause-tree
stat-returns-in-KwWith-clause-tree t c =
    trees.stat_after (λ r. r.0) (λ r. r.1.now) c.with_stat.result c.args.depth (trees.word_at (c.args.depth + 1) c.split.ensures.whole c.in-KwWith.is (omega arith)) c.with_stat.ensures.tree

pub stat-returns-in_default : goal.stat-returns-in_default
stat-returns-in_default t c =
    record { tree = g.empty; rest = (c.requires.ended, omega arith); moves = λ k. by.skips m.table shallow c.split.ensures.whole (m.stat c.args.depth) (q.none_stat _ _ c.in_default.not-Ident c.in_default.not-KwBegin c.in_default.not-KwExit c.in_default.not-KwReturn c.in_default.not-KwAwait c.in_default.not-KwIf c.in_default.not-KwCase c.in_default.not-KwWhile c.in_default.not-KwRepeat c.in_default.not-KwLoop c.in_default.not-KwFor c.in_default.not-KwWith) refl k }

pub if_stat-returns-in_err-condition-clause-moves : goal.if_stat-returns-in_err-condition-clause-moves
if_stat-returns-in_err-condition-clause-moves t c =
    by.exits (λ r. r.1.now) c.from_residual.result (m.if_rest (c.args.depth + 1)) c.from_residual.ensures.1 (by.pass_on (m.tok (c.args.depth + 1) kind.KwThen ∷ m.stat (c.args.depth + 1) ∷ m.more_stats (c.args.depth + 1) ∷ m.elsifs (c.args.depth + 1) ∷ m.otherwise (c.args.depth + 1) ∷ m.tok (c.args.depth + 1) kind.KwEnd ∷ []) c.in_err-condition.ensures.moves (λ k. refl))

pub if_stat-returns-in_err-rest-clause-moves : goal.if_stat-returns-in_err-rest-clause-moves
if_stat-returns-in_err-rest-clause-moves t c =
    by.exits (λ r. r.1.now) c.from_residual-in_err-rest.result (m.if_rest (c.args.depth + 1)) c.from_residual-in_err-rest.ensures.1 (by.pass_on (m.stat (c.args.depth + 1) ∷ m.more_stats (c.args.depth + 1) ∷ m.elsifs (c.args.depth + 1) ∷ m.otherwise (c.args.depth + 1) ∷ m.tok (c.args.depth + 1) kind.KwEnd ∷ []) c.in_err-rest.ensures.moves (λ k. c.in_ok-condition.ensures.moves (m.tok (c.args.depth + 1) kind.KwThen ∷ m.stat (c.args.depth + 1) ∷ m.more_stats (c.args.depth + 1) ∷ m.elsifs (c.args.depth + 1) ∷ m.otherwise (c.args.depth + 1) ∷ m.tok (c.args.depth + 1) kind.KwEnd ∷ k)))

pub if_stat-returns-in_err-body-clause-moves : goal.if_stat-returns-in_err-body-clause-moves
if_stat-returns-in_err-body-clause-moves t c =
    by.exits (λ r. r.1.now) c.from_residual-in_err-body.result (m.if_rest (c.args.depth + 1)) c.from_residual-in_err-body.ensures.1 (by.pass_on (m.elsifs (c.args.depth + 1) ∷ m.otherwise (c.args.depth + 1) ∷ m.tok (c.args.depth + 1) kind.KwEnd ∷ []) c.in_err-body.ensures.moves (λ k. c.in_ok-condition.ensures.moves (m.tok (c.args.depth + 1) kind.KwThen ∷ m.stat (c.args.depth + 1) ∷ m.more_stats (c.args.depth + 1) ∷ m.elsifs (c.args.depth + 1) ∷ m.otherwise (c.args.depth + 1) ∷ m.tok (c.args.depth + 1) kind.KwEnd ∷ k) ∙ c.in_ok-rest.ensures.moves (m.stat (c.args.depth + 1) ∷ m.more_stats (c.args.depth + 1) ∷ m.elsifs (c.args.depth + 1) ∷ m.otherwise (c.args.depth + 1) ∷ m.tok (c.args.depth + 1) kind.KwEnd ∷ k)))

pub if_stat-returns-in_err-others-clause-moves : goal.if_stat-returns-in_err-others-clause-moves
if_stat-returns-in_err-others-clause-moves t c =
    by.exits (λ r. r.1.now) c.from_residual-in_err-others.result (m.if_rest (c.args.depth + 1)) c.from_residual-in_err-others.ensures.1 (by.pass_on (m.otherwise (c.args.depth + 1) ∷ m.tok (c.args.depth + 1) kind.KwEnd ∷ []) c.in_err-others.ensures.moves (λ k. c.in_ok-condition.ensures.moves (m.tok (c.args.depth + 1) kind.KwThen ∷ m.stat (c.args.depth + 1) ∷ m.more_stats (c.args.depth + 1) ∷ m.elsifs (c.args.depth + 1) ∷ m.otherwise (c.args.depth + 1) ∷ m.tok (c.args.depth + 1) kind.KwEnd ∷ k) ∙ c.in_ok-rest.ensures.moves (m.stat (c.args.depth + 1) ∷ m.more_stats (c.args.depth + 1) ∷ m.elsifs (c.args.depth + 1) ∷ m.otherwise (c.args.depth + 1) ∷ m.tok (c.args.depth + 1) kind.KwEnd ∷ k) ∙ c.in_ok-body.ensures.moves (m.elsifs (c.args.depth + 1) ∷ m.otherwise (c.args.depth + 1) ∷ m.tok (c.args.depth + 1) kind.KwEnd ∷ k)))

pub if_stat-returns-in_err-last-clause-moves : goal.if_stat-returns-in_err-last-clause-moves
if_stat-returns-in_err-last-clause-moves t c =
    by.exits (λ r. r.1.now) c.from_residual-in_err-last.result (m.if_rest (c.args.depth + 1)) c.from_residual-in_err-last.ensures.1 (by.pass_on (m.tok (c.args.depth + 1) kind.KwEnd ∷ []) c.in_err-last.ensures.moves (λ k. c.in_ok-condition.ensures.moves (m.tok (c.args.depth + 1) kind.KwThen ∷ m.stat (c.args.depth + 1) ∷ m.more_stats (c.args.depth + 1) ∷ m.elsifs (c.args.depth + 1) ∷ m.otherwise (c.args.depth + 1) ∷ m.tok (c.args.depth + 1) kind.KwEnd ∷ k) ∙ c.in_ok-rest.ensures.moves (m.stat (c.args.depth + 1) ∷ m.more_stats (c.args.depth + 1) ∷ m.elsifs (c.args.depth + 1) ∷ m.otherwise (c.args.depth + 1) ∷ m.tok (c.args.depth + 1) kind.KwEnd ∷ k) ∙ c.in_ok-body.ensures.moves (m.elsifs (c.args.depth + 1) ∷ m.otherwise (c.args.depth + 1) ∷ m.tok (c.args.depth + 1) kind.KwEnd ∷ k) ∙ c.in_ok-others.ensures.moves (m.otherwise (c.args.depth + 1) ∷ m.tok (c.args.depth + 1) kind.KwEnd ∷ k)))

pub if_stat-returns-in_err-rest-2-clause-moves : goal.if_stat-returns-in_err-rest-2-clause-moves
if_stat-returns-in_err-rest-2-clause-moves t c =
    by.exits (λ r. r.1.now) c.from_residual-in_err-rest-2.result (m.if_rest (c.args.depth + 1)) c.from_residual-in_err-rest-2.ensures.1 (by.pass_on ([]) c.in_err-rest-2.ensures.moves (λ k. c.in_ok-condition.ensures.moves (m.tok (c.args.depth + 1) kind.KwThen ∷ m.stat (c.args.depth + 1) ∷ m.more_stats (c.args.depth + 1) ∷ m.elsifs (c.args.depth + 1) ∷ m.otherwise (c.args.depth + 1) ∷ m.tok (c.args.depth + 1) kind.KwEnd ∷ k) ∙ c.in_ok-rest.ensures.moves (m.stat (c.args.depth + 1) ∷ m.more_stats (c.args.depth + 1) ∷ m.elsifs (c.args.depth + 1) ∷ m.otherwise (c.args.depth + 1) ∷ m.tok (c.args.depth + 1) kind.KwEnd ∷ k) ∙ c.in_ok-body.ensures.moves (m.elsifs (c.args.depth + 1) ∷ m.otherwise (c.args.depth + 1) ∷ m.tok (c.args.depth + 1) kind.KwEnd ∷ k) ∙ c.in_ok-others.ensures.moves (m.otherwise (c.args.depth + 1) ∷ m.tok (c.args.depth + 1) kind.KwEnd ∷ k) ∙ c.in_ok-last.ensures.moves (m.tok (c.args.depth + 1) kind.KwEnd ∷ k)))

pub if_stat-returns-clause-moves : goal.if_stat-returns-clause-moves
if_stat-returns-clause-moves t c =
    λ k. c.in_ok-condition.ensures.moves (m.tok (c.args.depth + 1) kind.KwThen ∷ m.stat (c.args.depth + 1) ∷ m.more_stats (c.args.depth + 1) ∷ m.elsifs (c.args.depth + 1) ∷ m.otherwise (c.args.depth + 1) ∷ m.tok (c.args.depth + 1) kind.KwEnd ∷ k) ∙ c.in_ok-rest.ensures.moves (m.stat (c.args.depth + 1) ∷ m.more_stats (c.args.depth + 1) ∷ m.elsifs (c.args.depth + 1) ∷ m.otherwise (c.args.depth + 1) ∷ m.tok (c.args.depth + 1) kind.KwEnd ∷ k) ∙ c.in_ok-body.ensures.moves (m.elsifs (c.args.depth + 1) ∷ m.otherwise (c.args.depth + 1) ∷ m.tok (c.args.depth + 1) kind.KwEnd ∷ k) ∙ c.in_ok-others.ensures.moves (m.otherwise (c.args.depth + 1) ∷ m.tok (c.args.depth + 1) kind.KwEnd ∷ k) ∙ c.in_ok-last.ensures.moves (m.tok (c.args.depth + 1) kind.KwEnd ∷ k) ∙ c.in_ok-rest-2.ensures.moves k

pub if_stat-returns-clause-tree : goal.if_stat-returns-clause-tree
if_stat-returns-clause-tree t c =
    λ before w. g.if_then w c.in_ok-condition.ensures.tree c.in_ok-rest.ensures.tree.1 c.in_ok-body.ensures.tree c.in_ok-others.ensures.tree c.in_ok-last.ensures.tree c.in_ok-rest-2.ensures.tree.1

pub elsifs-returns-in_err-one-in-KwElsif-clause-moves : goal.elsifs-returns-in_err-one-in-KwElsif-clause-moves
elsifs-returns-in_err-one-in-KwElsif-clause-moves t c =
    by.exits (λ r. r.1.now) c.from_residual.result (m.elsifs c.args.depth ∷ []) c.from_residual.ensures.1 (by.pass_on (m.elsifs c.args.depth ∷ []) c.in_err-one-in-KwElsif.ensures.moves (λ k. c.loop-found.invariant.moves k ∙ by.shifts m.table shallow c.split.ensures.whole (m.elsifs c.args.depth) c.args.depth (m.branch c.args.depth ++ m.elsifs c.args.depth ∷ []) (ap (m.after_elsifs c.args.depth) c.in-KwElsif.is) (by.fits_shallow _ c.requires.nested) k))

pub elsifs-loop-found-preserved : goal.elsifs-loop-found-preserved
elsifs-loop-found-preserved t c =
    record {
      ended = c.in_ok-one-in-KwElsif.ensures.rest.0;
      shorter = omega (arith, ap length c.split.ensures.whole, c.in_ok-one-in-KwElsif.ensures.rest.1, c.loop-found.invariant.shorter);
      tree = λ more end h. rw (c.in_ok-push-in-KwElsif.ensures.ok, append_assoc) (c.loop-found.invariant.tree _ end (c.in_ok-one-in-KwElsif.ensures.tree _ _ _ (trees.word_at c.args.depth c.split.ensures.whole c.in-KwElsif.is c.requires.nested) h));
      moves = λ k. c.loop-found.invariant.moves k ∙ by.shifts m.table shallow c.split.ensures.whole (m.elsifs c.args.depth) c.args.depth (m.branch c.args.depth ++ m.elsifs c.args.depth ∷ []) (ap (m.after_elsifs c.args.depth) c.in-KwElsif.is) (by.fits_shallow _ c.requires.nested) k ∙ c.in_ok-one-in-KwElsif.ensures.moves (m.elsifs c.args.depth ∷ k);
    }

pub elsifs-returns-in_default : goal.elsifs-returns-in_default
elsifs-returns-in_default t c =
    record {
      tree = rw (sym (append-nil c.loop-found.found)) (c.loop-found.invariant.tree [] _ g.no_elsifs);
      rest = (c.loop-found.invariant.ended, c.loop-found.invariant.shorter);
      moves = λ k. c.loop-found.invariant.moves k ∙ by.skips m.table shallow c.split.ensures.whole (m.elsifs c.args.depth) (q.no_elsifs _ _ c.in_default.not-KwElsif) refl k;
    }

pub elsif-returns-in_err-condition-clause-moves : goal.elsif-returns-in_err-condition-clause-moves
elsif-returns-in_err-condition-clause-moves t c =
    by.exits (λ r. r.1.now) c.from_residual.result (m.branch c.args.depth) c.from_residual.ensures.1 (by.pass_on (m.tok c.args.depth kind.KwThen ∷ m.stat c.args.depth ∷ m.more_stats c.args.depth ∷ []) c.in_err-condition.ensures.moves (λ k. refl))

pub elsif-returns-in_err-rest-clause-moves : goal.elsif-returns-in_err-rest-clause-moves
elsif-returns-in_err-rest-clause-moves t c =
    by.exits (λ r. r.1.now) c.from_residual-in_err-rest.result (m.branch c.args.depth) c.from_residual-in_err-rest.ensures.1 (by.pass_on (m.stat c.args.depth ∷ m.more_stats c.args.depth ∷ []) c.in_err-rest.ensures.moves (λ k. c.in_ok-condition.ensures.moves (m.tok c.args.depth kind.KwThen ∷ m.stat c.args.depth ∷ m.more_stats c.args.depth ∷ k)))

pub elsif-returns-in_err-body-clause-moves : goal.elsif-returns-in_err-body-clause-moves
elsif-returns-in_err-body-clause-moves t c =
    by.exits (λ r. r.1.now) c.from_residual-in_err-body.result (m.branch c.args.depth) c.from_residual-in_err-body.ensures.1 (by.pass_on ([]) c.in_err-body.ensures.moves (λ k. c.in_ok-condition.ensures.moves (m.tok c.args.depth kind.KwThen ∷ m.stat c.args.depth ∷ m.more_stats c.args.depth ∷ k) ∙ c.in_ok-rest.ensures.moves (m.stat c.args.depth ∷ m.more_stats c.args.depth ∷ k)))

pub elsif-returns-clause-moves : goal.elsif-returns-clause-moves
elsif-returns-clause-moves t c =
    λ k. c.in_ok-condition.ensures.moves (m.tok c.args.depth kind.KwThen ∷ m.stat c.args.depth ∷ m.more_stats c.args.depth ∷ k) ∙ c.in_ok-rest.ensures.moves (m.stat c.args.depth ∷ m.more_stats c.args.depth ∷ k) ∙ c.in_ok-body.ensures.moves k

pub elsif-returns-clause-tree : goal.elsif-returns-clause-tree
elsif-returns-clause-tree t c =
    λ before end more w h. g.elsif w c.in_ok-condition.ensures.tree c.in_ok-rest.ensures.tree.1 c.in_ok-body.ensures.tree h

pub otherwise-returns-in_err-body-in-KwElse-clause-moves : goal.otherwise-returns-in_err-body-in-KwElse-clause-moves
otherwise-returns-in_err-body-in-KwElse-clause-moves t c =
    by.exits (λ r. r.1.now) c.from_residual.result (m.otherwise c.args.depth ∷ []) c.from_residual.ensures.1 (by.pass_on ([]) c.in_err-body-in-KwElse.ensures.moves (λ k. by.shifts m.table shallow c.split.ensures.whole (m.otherwise c.args.depth) c.args.depth (m.stats c.args.depth) (ap (m.after_otherwise c.args.depth) c.in-KwElse.is) (by.fits_shallow _ c.requires.nested) k))

pub otherwise-returns-in_ok-body-in-KwElse-clause-moves : goal.otherwise-returns-in_ok-body-in-KwElse-clause-moves
otherwise-returns-in_ok-body-in-KwElse-clause-moves t c =
    λ k. by.shifts m.table shallow c.split.ensures.whole (m.otherwise c.args.depth) c.args.depth (m.stats c.args.depth) (ap (m.after_otherwise c.args.depth) c.in-KwElse.is) (by.fits_shallow _ c.requires.nested) k ∙ c.in_ok-body-in-KwElse.ensures.moves k

pub otherwise-returns-in_ok-body-in-KwElse-clause-tree : goal.otherwise-returns-in_ok-body-in-KwElse-clause-tree
otherwise-returns-in_ok-body-in-KwElse-clause-tree t c =
    g.else (trees.word_at c.args.depth c.split.ensures.whole c.in-KwElse.is c.requires.nested) c.in_ok-body-in-KwElse.ensures.tree

pub otherwise-returns-in_default : goal.otherwise-returns-in_default
otherwise-returns-in_default t c =
    record { tree = g.no_else; rest = (c.requires.ended, omega arith); moves = λ k. by.skips m.table shallow c.split.ensures.whole (m.otherwise c.args.depth) (q.no_otherwise _ _ c.in_default.not-KwElse) refl k }

pub case_stat-returns-in_err-subject-clause-moves : goal.case_stat-returns-in_err-subject-clause-moves
case_stat-returns-in_err-subject-clause-moves t c =
    by.exits (λ r. r.1.now) c.from_residual.result (m.case_rest (c.args.depth + 1)) c.from_residual.ensures.1 (by.pass_on (m.tok (c.args.depth + 1) kind.KwOf ∷ m.case (c.args.depth + 1) ∷ m.more_cases (c.args.depth + 1) ∷ m.otherwise (c.args.depth + 1) ∷ m.tok (c.args.depth + 1) kind.KwEnd ∷ []) c.in_err-subject.ensures.moves (λ k. refl))

pub case_stat-returns-in_err-rest-clause-moves : goal.case_stat-returns-in_err-rest-clause-moves
case_stat-returns-in_err-rest-clause-moves t c =
    by.exits (λ r. r.1.now) c.from_residual-in_err-rest.result (m.case_rest (c.args.depth + 1)) c.from_residual-in_err-rest.ensures.1 (by.pass_on (m.case (c.args.depth + 1) ∷ m.more_cases (c.args.depth + 1) ∷ m.otherwise (c.args.depth + 1) ∷ m.tok (c.args.depth + 1) kind.KwEnd ∷ []) c.in_err-rest.ensures.moves (λ k. c.in_ok-subject.ensures.moves (m.tok (c.args.depth + 1) kind.KwOf ∷ m.case (c.args.depth + 1) ∷ m.more_cases (c.args.depth + 1) ∷ m.otherwise (c.args.depth + 1) ∷ m.tok (c.args.depth + 1) kind.KwEnd ∷ k)))

pub case_stat-returns-in_err-arms-clause-moves : goal.case_stat-returns-in_err-arms-clause-moves
case_stat-returns-in_err-arms-clause-moves t c =
    by.exits (λ r. r.1.now) c.from_residual-in_err-arms.result (m.case_rest (c.args.depth + 1)) c.from_residual-in_err-arms.ensures.1 (by.pass_on (m.otherwise (c.args.depth + 1) ∷ m.tok (c.args.depth + 1) kind.KwEnd ∷ []) c.in_err-arms.ensures.moves (λ k. c.in_ok-subject.ensures.moves (m.tok (c.args.depth + 1) kind.KwOf ∷ m.case (c.args.depth + 1) ∷ m.more_cases (c.args.depth + 1) ∷ m.otherwise (c.args.depth + 1) ∷ m.tok (c.args.depth + 1) kind.KwEnd ∷ k) ∙ c.in_ok-rest.ensures.moves (m.case (c.args.depth + 1) ∷ m.more_cases (c.args.depth + 1) ∷ m.otherwise (c.args.depth + 1) ∷ m.tok (c.args.depth + 1) kind.KwEnd ∷ k)))

pub case_stat-returns-in_err-last-clause-moves : goal.case_stat-returns-in_err-last-clause-moves
case_stat-returns-in_err-last-clause-moves t c =
    by.exits (λ r. r.1.now) c.from_residual-in_err-last.result (m.case_rest (c.args.depth + 1)) c.from_residual-in_err-last.ensures.1 (by.pass_on (m.tok (c.args.depth + 1) kind.KwEnd ∷ []) c.in_err-last.ensures.moves (λ k. c.in_ok-subject.ensures.moves (m.tok (c.args.depth + 1) kind.KwOf ∷ m.case (c.args.depth + 1) ∷ m.more_cases (c.args.depth + 1) ∷ m.otherwise (c.args.depth + 1) ∷ m.tok (c.args.depth + 1) kind.KwEnd ∷ k) ∙ c.in_ok-rest.ensures.moves (m.case (c.args.depth + 1) ∷ m.more_cases (c.args.depth + 1) ∷ m.otherwise (c.args.depth + 1) ∷ m.tok (c.args.depth + 1) kind.KwEnd ∷ k) ∙ c.in_ok-arms.ensures.moves (m.otherwise (c.args.depth + 1) ∷ m.tok (c.args.depth + 1) kind.KwEnd ∷ k)))

pub case_stat-returns-in_err-rest-2-clause-moves : goal.case_stat-returns-in_err-rest-2-clause-moves
case_stat-returns-in_err-rest-2-clause-moves t c =
    by.exits (λ r. r.1.now) c.from_residual-in_err-rest-2.result (m.case_rest (c.args.depth + 1)) c.from_residual-in_err-rest-2.ensures.1 (by.pass_on ([]) c.in_err-rest-2.ensures.moves (λ k. c.in_ok-subject.ensures.moves (m.tok (c.args.depth + 1) kind.KwOf ∷ m.case (c.args.depth + 1) ∷ m.more_cases (c.args.depth + 1) ∷ m.otherwise (c.args.depth + 1) ∷ m.tok (c.args.depth + 1) kind.KwEnd ∷ k) ∙ c.in_ok-rest.ensures.moves (m.case (c.args.depth + 1) ∷ m.more_cases (c.args.depth + 1) ∷ m.otherwise (c.args.depth + 1) ∷ m.tok (c.args.depth + 1) kind.KwEnd ∷ k) ∙ c.in_ok-arms.ensures.moves (m.otherwise (c.args.depth + 1) ∷ m.tok (c.args.depth + 1) kind.KwEnd ∷ k) ∙ c.in_ok-last.ensures.moves (m.tok (c.args.depth + 1) kind.KwEnd ∷ k)))

pub case_stat-returns-clause-moves : goal.case_stat-returns-clause-moves
case_stat-returns-clause-moves t c =
    λ k. c.in_ok-subject.ensures.moves (m.tok (c.args.depth + 1) kind.KwOf ∷ m.case (c.args.depth + 1) ∷ m.more_cases (c.args.depth + 1) ∷ m.otherwise (c.args.depth + 1) ∷ m.tok (c.args.depth + 1) kind.KwEnd ∷ k) ∙ c.in_ok-rest.ensures.moves (m.case (c.args.depth + 1) ∷ m.more_cases (c.args.depth + 1) ∷ m.otherwise (c.args.depth + 1) ∷ m.tok (c.args.depth + 1) kind.KwEnd ∷ k) ∙ c.in_ok-arms.ensures.moves (m.otherwise (c.args.depth + 1) ∷ m.tok (c.args.depth + 1) kind.KwEnd ∷ k) ∙ c.in_ok-last.ensures.moves (m.tok (c.args.depth + 1) kind.KwEnd ∷ k) ∙ c.in_ok-rest-2.ensures.moves k

pub case_stat-returns-clause-tree : goal.case_stat-returns-clause-tree
case_stat-returns-clause-tree t c =
    λ before w. trees.case_by w c.in_ok-subject.ensures.tree c.in_ok-rest.ensures.tree.1 c.in_ok-arms.ensures.tree c.in_ok-last.ensures.tree c.in_ok-rest-2.ensures.tree.1

pub cases-loop-found-init : goal.cases-loop-found-init
cases-loop-found-init t c =
    record {
      ended = c.in_ok-first.ensures.rest.0;
      shorter = omega (arith, c.in_ok-first.ensures.rest.1);
      tree = λ more end h. rw (c.in_ok-push.ensures.ok, c.new-found.ensures) (v.cases c.in_ok-first.ensures.tree h);
      moves = λ k. c.in_ok-first.ensures.moves (m.more_cases c.args.depth ∷ k);
    }

pub cases-returns-in_err-first-clause-moves : goal.cases-returns-in_err-first-clause-moves
cases-returns-in_err-first-clause-moves t c =
    by.exits (λ r. r.1.now) c.from_residual.result (m.cases c.args.depth) c.from_residual.ensures.1 (by.pass_on (m.more_cases c.args.depth ∷ []) c.in_err-first.ensures.moves (λ k. refl))

pub cases-returns-in_err-one-in-Bar-clause-moves : goal.cases-returns-in_err-one-in-Bar-clause-moves
cases-returns-in_err-one-in-Bar-clause-moves t c =
    by.exits (λ r. r.1.now) c.from_residual-in_err-one-in-Bar.result (m.cases c.args.depth) c.from_residual-in_err-one-in-Bar.ensures.1 (by.pass_on (m.more_cases c.args.depth ∷ []) c.in_err-one-in-Bar.ensures.moves (λ k. c.loop-found.invariant.moves k ∙ by.shifts m.table shallow c.split.ensures.whole (m.more_cases c.args.depth) c.args.depth (m.cases c.args.depth) (ap (m.after_more_cases c.args.depth) c.in-Bar.is) (by.fits_shallow _ c.requires.nested) k))

pub cases-loop-found-preserved : goal.cases-loop-found-preserved
cases-loop-found-preserved t c =
    record {
      ended = c.in_ok-one-in-Bar.ensures.rest.0;
      shorter = omega (arith, ap length c.split.ensures.whole, c.in_ok-one-in-Bar.ensures.rest.1, c.loop-found.invariant.shorter);
      tree = λ more end h. rw (c.in_ok-push-in-Bar.ensures.ok, append_assoc) (c.loop-found.invariant.tree _ end (g.another_case (trees.word_at c.args.depth c.split.ensures.whole c.in-Bar.is c.requires.nested) c.in_ok-one-in-Bar.ensures.tree h));
      moves = λ k. c.loop-found.invariant.moves k ∙ by.shifts m.table shallow c.split.ensures.whole (m.more_cases c.args.depth) c.args.depth (m.cases c.args.depth) (ap (m.after_more_cases c.args.depth) c.in-Bar.is) (by.fits_shallow _ c.requires.nested) k ∙ c.in_ok-one-in-Bar.ensures.moves (m.more_cases c.args.depth ∷ k);
    }

pub cases-returns-in_default : goal.cases-returns-in_default
cases-returns-in_default t c =
    record {
      tree = rw (sym (append-nil c.loop-found.found)) (c.loop-found.invariant.tree [] _ g.no_more_cases);
      rest = (c.loop-found.invariant.ended, c.loop-found.invariant.shorter);
      moves = λ k. c.loop-found.invariant.moves k ∙ by.skips m.table shallow c.split.ensures.whole (m.more_cases c.args.depth) (q.no_more_cases _ _ c.in_default.not-Bar) refl k;
    }

pub case-returns-then-not-starts_expr-clause-tree : goal.case-returns-then-not-starts_expr-clause-tree
case-returns-then-not-starts_expr-clause-tree t c =
    g.no_arm

pub case-returns-then-not-starts_expr-clause-moves : goal.case-returns-then-not-starts_expr-clause-moves
case-returns-then-not-starts_expr-clause-moves t c =
    λ k. by.skips m.table shallow c.split.ensures.whole (m.case c.args.depth) (q.no_case c.args.depth _ (sym c.starts_expr.ensures ∙ c.if-not-starts_expr.true)) refl k

pub case-returns-in_err-all-clause-moves : goal.case-returns-in_err-all-clause-moves
case-returns-in_err-all-clause-moves t c =
    by.exits (λ r. r.1.now) c.from_residual.result (m.case c.args.depth ∷ []) c.from_residual.ensures.1 (by.pass_on (m.tok c.args.depth kind.Colon ∷ m.stat c.args.depth ∷ m.more_stats c.args.depth ∷ []) c.in_err-all.ensures.moves (λ k. by.becomes m.table shallow c.split.ensures.whole (m.case c.args.depth) (m.expr c.args.depth) (m.option c.args.depth kind.Range ∷ m.more_labels c.args.depth ∷ m.tok c.args.depth kind.Colon ∷ m.stats c.args.depth) (λ j. q.case_at c.args.depth _ j (sym c.starts_expr.ensures ∙ c.if-not-starts_expr.false)) k))

pub case-returns-in_err-rest-clause-moves : goal.case-returns-in_err-rest-clause-moves
case-returns-in_err-rest-clause-moves t c =
    by.exits (λ r. r.1.now) c.from_residual-in_err-rest.result (m.case c.args.depth ∷ []) c.from_residual-in_err-rest.ensures.1 (by.pass_on (m.stat c.args.depth ∷ m.more_stats c.args.depth ∷ []) c.in_err-rest.ensures.moves (λ k. by.becomes m.table shallow c.split.ensures.whole (m.case c.args.depth) (m.expr c.args.depth) (m.option c.args.depth kind.Range ∷ m.more_labels c.args.depth ∷ m.tok c.args.depth kind.Colon ∷ m.stats c.args.depth) (λ j. q.case_at c.args.depth _ j (sym c.starts_expr.ensures ∙ c.if-not-starts_expr.false)) k ∙ c.in_ok-all.ensures.moves (m.tok c.args.depth kind.Colon ∷ m.stat c.args.depth ∷ m.more_stats c.args.depth ∷ k)))

pub case-returns-in_err-body-clause-moves : goal.case-returns-in_err-body-clause-moves
case-returns-in_err-body-clause-moves t c =
    by.exits (λ r. r.1.now) c.from_residual-in_err-body.result (m.case c.args.depth ∷ []) c.from_residual-in_err-body.ensures.1 (by.pass_on ([]) c.in_err-body.ensures.moves (λ k. by.becomes m.table shallow c.split.ensures.whole (m.case c.args.depth) (m.expr c.args.depth) (m.option c.args.depth kind.Range ∷ m.more_labels c.args.depth ∷ m.tok c.args.depth kind.Colon ∷ m.stats c.args.depth) (λ j. q.case_at c.args.depth _ j (sym c.starts_expr.ensures ∙ c.if-not-starts_expr.false)) k ∙ c.in_ok-all.ensures.moves (m.tok c.args.depth kind.Colon ∷ m.stat c.args.depth ∷ m.more_stats c.args.depth ∷ k) ∙ c.in_ok-rest.ensures.moves (m.stat c.args.depth ∷ m.more_stats c.args.depth ∷ k)))

pub case-returns-clause-moves : goal.case-returns-clause-moves
case-returns-clause-moves t c =
    λ k. by.becomes m.table shallow c.split.ensures.whole (m.case c.args.depth) (m.expr c.args.depth) (m.option c.args.depth kind.Range ∷ m.more_labels c.args.depth ∷ m.tok c.args.depth kind.Colon ∷ m.stats c.args.depth) (λ j. q.case_at c.args.depth _ j (sym c.starts_expr.ensures ∙ c.if-not-starts_expr.false)) k ∙ c.in_ok-all.ensures.moves (m.tok c.args.depth kind.Colon ∷ m.stat c.args.depth ∷ m.more_stats c.args.depth ∷ k) ∙ c.in_ok-rest.ensures.moves (m.stat c.args.depth ∷ m.more_stats c.args.depth ∷ k) ∙ c.in_ok-body.ensures.moves k

pub case-returns-clause-tree : goal.case-returns-clause-tree
case-returns-clause-tree t c =
    g.arm c.in_ok-all.ensures.tree c.in_ok-rest.ensures.tree.1 c.in_ok-body.ensures.tree

pub while_stat-returns-in_err-condition-clause-moves : goal.while_stat-returns-in_err-condition-clause-moves
while_stat-returns-in_err-condition-clause-moves t c =
    by.exits (λ r. r.1.now) c.from_residual.result (m.while_rest (c.args.depth + 1)) c.from_residual.ensures.1 (by.pass_on (m.tok (c.args.depth + 1) kind.KwDo ∷ m.stat (c.args.depth + 1) ∷ m.more_stats (c.args.depth + 1) ∷ m.tok (c.args.depth + 1) kind.KwEnd ∷ []) c.in_err-condition.ensures.moves (λ k. refl))

pub while_stat-returns-in_err-rest-clause-moves : goal.while_stat-returns-in_err-rest-clause-moves
while_stat-returns-in_err-rest-clause-moves t c =
    by.exits (λ r. r.1.now) c.from_residual-in_err-rest.result (m.while_rest (c.args.depth + 1)) c.from_residual-in_err-rest.ensures.1 (by.pass_on (m.stat (c.args.depth + 1) ∷ m.more_stats (c.args.depth + 1) ∷ m.tok (c.args.depth + 1) kind.KwEnd ∷ []) c.in_err-rest.ensures.moves (λ k. c.in_ok-condition.ensures.moves (m.tok (c.args.depth + 1) kind.KwDo ∷ m.stat (c.args.depth + 1) ∷ m.more_stats (c.args.depth + 1) ∷ m.tok (c.args.depth + 1) kind.KwEnd ∷ k)))

pub while_stat-returns-in_err-body-clause-moves : goal.while_stat-returns-in_err-body-clause-moves
while_stat-returns-in_err-body-clause-moves t c =
    by.exits (λ r. r.1.now) c.from_residual-in_err-body.result (m.while_rest (c.args.depth + 1)) c.from_residual-in_err-body.ensures.1 (by.pass_on (m.tok (c.args.depth + 1) kind.KwEnd ∷ []) c.in_err-body.ensures.moves (λ k. c.in_ok-condition.ensures.moves (m.tok (c.args.depth + 1) kind.KwDo ∷ m.stat (c.args.depth + 1) ∷ m.more_stats (c.args.depth + 1) ∷ m.tok (c.args.depth + 1) kind.KwEnd ∷ k) ∙ c.in_ok-rest.ensures.moves (m.stat (c.args.depth + 1) ∷ m.more_stats (c.args.depth + 1) ∷ m.tok (c.args.depth + 1) kind.KwEnd ∷ k)))

pub while_stat-returns-in_err-rest-2-clause-moves : goal.while_stat-returns-in_err-rest-2-clause-moves
while_stat-returns-in_err-rest-2-clause-moves t c =
    by.exits (λ r. r.1.now) c.from_residual-in_err-rest-2.result (m.while_rest (c.args.depth + 1)) c.from_residual-in_err-rest-2.ensures.1 (by.pass_on ([]) c.in_err-rest-2.ensures.moves (λ k. c.in_ok-condition.ensures.moves (m.tok (c.args.depth + 1) kind.KwDo ∷ m.stat (c.args.depth + 1) ∷ m.more_stats (c.args.depth + 1) ∷ m.tok (c.args.depth + 1) kind.KwEnd ∷ k) ∙ c.in_ok-rest.ensures.moves (m.stat (c.args.depth + 1) ∷ m.more_stats (c.args.depth + 1) ∷ m.tok (c.args.depth + 1) kind.KwEnd ∷ k) ∙ c.in_ok-body.ensures.moves (m.tok (c.args.depth + 1) kind.KwEnd ∷ k)))

pub while_stat-returns-clause-moves : goal.while_stat-returns-clause-moves
while_stat-returns-clause-moves t c =
    λ k. c.in_ok-condition.ensures.moves (m.tok (c.args.depth + 1) kind.KwDo ∷ m.stat (c.args.depth + 1) ∷ m.more_stats (c.args.depth + 1) ∷ m.tok (c.args.depth + 1) kind.KwEnd ∷ k) ∙ c.in_ok-rest.ensures.moves (m.stat (c.args.depth + 1) ∷ m.more_stats (c.args.depth + 1) ∷ m.tok (c.args.depth + 1) kind.KwEnd ∷ k) ∙ c.in_ok-body.ensures.moves (m.tok (c.args.depth + 1) kind.KwEnd ∷ k) ∙ c.in_ok-rest-2.ensures.moves k

pub while_stat-returns-clause-tree : goal.while_stat-returns-clause-tree
while_stat-returns-clause-tree t c =
    λ before w. g.while w c.in_ok-condition.ensures.tree c.in_ok-rest.ensures.tree.1 c.in_ok-body.ensures.tree c.in_ok-rest-2.ensures.tree.1

pub repeat_stat-returns-in_err-body-clause-moves : goal.repeat_stat-returns-in_err-body-clause-moves
repeat_stat-returns-in_err-body-clause-moves t c =
    by.exits (λ r. r.1.now) c.from_residual.result (m.repeat_rest (c.args.depth + 1)) c.from_residual.ensures.1 (by.pass_on (m.word_expr (c.args.depth + 1) kind.KwUntil ∷ []) c.in_err-body.ensures.moves (λ k. refl))

pub repeat_stat-returns-in_err-condition-clause-moves : goal.repeat_stat-returns-in_err-condition-clause-moves
repeat_stat-returns-in_err-condition-clause-moves t c =
    by.exits (λ r. r.1.now) c.from_residual-in_err-condition.result (m.repeat_rest (c.args.depth + 1)) c.from_residual-in_err-condition.ensures.1 (by.pass_on ([]) c.in_err-condition.ensures.moves (λ k. c.in_ok-body.ensures.moves (m.word_expr (c.args.depth + 1) kind.KwUntil ∷ k)))

pub repeat_stat-returns-clause-moves : goal.repeat_stat-returns-clause-moves
repeat_stat-returns-clause-moves t c =
    λ k. c.in_ok-body.ensures.moves (m.word_expr (c.args.depth + 1) kind.KwUntil ∷ k) ∙ c.in_ok-condition.ensures.moves k

pub repeat_stat-returns-clause-tree : goal.repeat_stat-returns-clause-tree
repeat_stat-returns-clause-tree t c =
    λ before w. g.repeat w c.in_ok-body.ensures.tree c.in_ok-condition.ensures.tree.2 c.in_ok-condition.ensures.tree.3

pub loop_stat-returns-in_err-body-clause-moves : goal.loop_stat-returns-in_err-body-clause-moves
loop_stat-returns-in_err-body-clause-moves t c =
    by.exits (λ r. r.1.now) c.from_residual.result (m.body_rest (c.args.depth + 1)) c.from_residual.ensures.1 (by.pass_on (m.tok (c.args.depth + 1) kind.KwEnd ∷ []) c.in_err-body.ensures.moves (λ k. refl))

pub loop_stat-returns-in_err-rest-clause-moves : goal.loop_stat-returns-in_err-rest-clause-moves
loop_stat-returns-in_err-rest-clause-moves t c =
    by.exits (λ r. r.1.now) c.from_residual-in_err-rest.result (m.body_rest (c.args.depth + 1)) c.from_residual-in_err-rest.ensures.1 (by.pass_on ([]) c.in_err-rest.ensures.moves (λ k. c.in_ok-body.ensures.moves (m.tok (c.args.depth + 1) kind.KwEnd ∷ k)))

pub loop_stat-returns-clause-moves : goal.loop_stat-returns-clause-moves
loop_stat-returns-clause-moves t c =
    λ k. c.in_ok-body.ensures.moves (m.tok (c.args.depth + 1) kind.KwEnd ∷ k) ∙ c.in_ok-rest.ensures.moves k

pub loop_stat-returns-clause-tree : goal.loop_stat-returns-clause-tree
loop_stat-returns-clause-tree t c =
    λ before w. g.loop w c.in_ok-body.ensures.tree c.in_ok-rest.ensures.tree.1

pub for_stat-returns-in_err-name-clause-moves : goal.for_stat-returns-in_err-name-clause-moves
for_stat-returns-in_err-name-clause-moves t c =
    by.exits (λ r. r.1.now) c.from_residual.result (m.for_rest (c.args.depth + 1)) c.from_residual.ensures.1 (by.pass_on (m.word_expr (c.args.depth + 1) kind.Becomes ∷ m.word_expr (c.args.depth + 1) kind.KwTo ∷ m.option (c.args.depth + 1) kind.KwBy ∷ m.tok (c.args.depth + 1) kind.KwDo ∷ m.stat (c.args.depth + 1) ∷ m.more_stats (c.args.depth + 1) ∷ m.tok (c.args.depth + 1) kind.KwEnd ∷ []) c.in_err-name.ensures.moves (λ k. refl))

pub for_stat-returns-in_err-first-clause-moves : goal.for_stat-returns-in_err-first-clause-moves
for_stat-returns-in_err-first-clause-moves t c =
    by.exits (λ r. r.1.now) c.from_residual-in_err-first.result (m.for_rest (c.args.depth + 1)) c.from_residual-in_err-first.ensures.1 (by.pass_on (m.word_expr (c.args.depth + 1) kind.KwTo ∷ m.option (c.args.depth + 1) kind.KwBy ∷ m.tok (c.args.depth + 1) kind.KwDo ∷ m.stat (c.args.depth + 1) ∷ m.more_stats (c.args.depth + 1) ∷ m.tok (c.args.depth + 1) kind.KwEnd ∷ []) c.in_err-first.ensures.moves (λ k. c.in_ok-name.ensures.moves (m.word_expr (c.args.depth + 1) kind.Becomes ∷ m.word_expr (c.args.depth + 1) kind.KwTo ∷ m.option (c.args.depth + 1) kind.KwBy ∷ m.tok (c.args.depth + 1) kind.KwDo ∷ m.stat (c.args.depth + 1) ∷ m.more_stats (c.args.depth + 1) ∷ m.tok (c.args.depth + 1) kind.KwEnd ∷ k)))

pub for_stat-returns-in_err-last-clause-moves : goal.for_stat-returns-in_err-last-clause-moves
for_stat-returns-in_err-last-clause-moves t c =
    by.exits (λ r. r.1.now) c.from_residual-in_err-last.result (m.for_rest (c.args.depth + 1)) c.from_residual-in_err-last.ensures.1 (by.pass_on (m.option (c.args.depth + 1) kind.KwBy ∷ m.tok (c.args.depth + 1) kind.KwDo ∷ m.stat (c.args.depth + 1) ∷ m.more_stats (c.args.depth + 1) ∷ m.tok (c.args.depth + 1) kind.KwEnd ∷ []) c.in_err-last.ensures.moves (λ k. c.in_ok-name.ensures.moves (m.word_expr (c.args.depth + 1) kind.Becomes ∷ m.word_expr (c.args.depth + 1) kind.KwTo ∷ m.option (c.args.depth + 1) kind.KwBy ∷ m.tok (c.args.depth + 1) kind.KwDo ∷ m.stat (c.args.depth + 1) ∷ m.more_stats (c.args.depth + 1) ∷ m.tok (c.args.depth + 1) kind.KwEnd ∷ k) ∙ c.in_ok-first.ensures.moves (m.word_expr (c.args.depth + 1) kind.KwTo ∷ m.option (c.args.depth + 1) kind.KwBy ∷ m.tok (c.args.depth + 1) kind.KwDo ∷ m.stat (c.args.depth + 1) ∷ m.more_stats (c.args.depth + 1) ∷ m.tok (c.args.depth + 1) kind.KwEnd ∷ k)))

pub for_stat-returns-in_err-by-clause-moves : goal.for_stat-returns-in_err-by-clause-moves
for_stat-returns-in_err-by-clause-moves t c =
    by.exits (λ r. r.1.now) c.from_residual-in_err-by.result (m.for_rest (c.args.depth + 1)) c.from_residual-in_err-by.ensures.1 (by.pass_on (m.tok (c.args.depth + 1) kind.KwDo ∷ m.stat (c.args.depth + 1) ∷ m.more_stats (c.args.depth + 1) ∷ m.tok (c.args.depth + 1) kind.KwEnd ∷ []) c.in_err-by.ensures.moves (λ k. c.in_ok-name.ensures.moves (m.word_expr (c.args.depth + 1) kind.Becomes ∷ m.word_expr (c.args.depth + 1) kind.KwTo ∷ m.option (c.args.depth + 1) kind.KwBy ∷ m.tok (c.args.depth + 1) kind.KwDo ∷ m.stat (c.args.depth + 1) ∷ m.more_stats (c.args.depth + 1) ∷ m.tok (c.args.depth + 1) kind.KwEnd ∷ k) ∙ c.in_ok-first.ensures.moves (m.word_expr (c.args.depth + 1) kind.KwTo ∷ m.option (c.args.depth + 1) kind.KwBy ∷ m.tok (c.args.depth + 1) kind.KwDo ∷ m.stat (c.args.depth + 1) ∷ m.more_stats (c.args.depth + 1) ∷ m.tok (c.args.depth + 1) kind.KwEnd ∷ k) ∙ c.in_ok-last.ensures.moves (m.option (c.args.depth + 1) kind.KwBy ∷ m.tok (c.args.depth + 1) kind.KwDo ∷ m.stat (c.args.depth + 1) ∷ m.more_stats (c.args.depth + 1) ∷ m.tok (c.args.depth + 1) kind.KwEnd ∷ k)))

pub for_stat-returns-in_err-rest-clause-moves : goal.for_stat-returns-in_err-rest-clause-moves
for_stat-returns-in_err-rest-clause-moves t c =
    by.exits (λ r. r.1.now) c.from_residual-in_err-rest.result (m.for_rest (c.args.depth + 1)) c.from_residual-in_err-rest.ensures.1 (by.pass_on (m.stat (c.args.depth + 1) ∷ m.more_stats (c.args.depth + 1) ∷ m.tok (c.args.depth + 1) kind.KwEnd ∷ []) c.in_err-rest.ensures.moves (λ k. c.in_ok-name.ensures.moves (m.word_expr (c.args.depth + 1) kind.Becomes ∷ m.word_expr (c.args.depth + 1) kind.KwTo ∷ m.option (c.args.depth + 1) kind.KwBy ∷ m.tok (c.args.depth + 1) kind.KwDo ∷ m.stat (c.args.depth + 1) ∷ m.more_stats (c.args.depth + 1) ∷ m.tok (c.args.depth + 1) kind.KwEnd ∷ k) ∙ c.in_ok-first.ensures.moves (m.word_expr (c.args.depth + 1) kind.KwTo ∷ m.option (c.args.depth + 1) kind.KwBy ∷ m.tok (c.args.depth + 1) kind.KwDo ∷ m.stat (c.args.depth + 1) ∷ m.more_stats (c.args.depth + 1) ∷ m.tok (c.args.depth + 1) kind.KwEnd ∷ k) ∙ c.in_ok-last.ensures.moves (m.option (c.args.depth + 1) kind.KwBy ∷ m.tok (c.args.depth + 1) kind.KwDo ∷ m.stat (c.args.depth + 1) ∷ m.more_stats (c.args.depth + 1) ∷ m.tok (c.args.depth + 1) kind.KwEnd ∷ k) ∙ c.in_ok-by.ensures.moves (m.tok (c.args.depth + 1) kind.KwDo ∷ m.stat (c.args.depth + 1) ∷ m.more_stats (c.args.depth + 1) ∷ m.tok (c.args.depth + 1) kind.KwEnd ∷ k)))

pub for_stat-returns-in_err-body-clause-moves : goal.for_stat-returns-in_err-body-clause-moves
for_stat-returns-in_err-body-clause-moves t c =
    by.exits (λ r. r.1.now) c.from_residual-in_err-body.result (m.for_rest (c.args.depth + 1)) c.from_residual-in_err-body.ensures.1 (by.pass_on (m.tok (c.args.depth + 1) kind.KwEnd ∷ []) c.in_err-body.ensures.moves (λ k. c.in_ok-name.ensures.moves (m.word_expr (c.args.depth + 1) kind.Becomes ∷ m.word_expr (c.args.depth + 1) kind.KwTo ∷ m.option (c.args.depth + 1) kind.KwBy ∷ m.tok (c.args.depth + 1) kind.KwDo ∷ m.stat (c.args.depth + 1) ∷ m.more_stats (c.args.depth + 1) ∷ m.tok (c.args.depth + 1) kind.KwEnd ∷ k) ∙ c.in_ok-first.ensures.moves (m.word_expr (c.args.depth + 1) kind.KwTo ∷ m.option (c.args.depth + 1) kind.KwBy ∷ m.tok (c.args.depth + 1) kind.KwDo ∷ m.stat (c.args.depth + 1) ∷ m.more_stats (c.args.depth + 1) ∷ m.tok (c.args.depth + 1) kind.KwEnd ∷ k) ∙ c.in_ok-last.ensures.moves (m.option (c.args.depth + 1) kind.KwBy ∷ m.tok (c.args.depth + 1) kind.KwDo ∷ m.stat (c.args.depth + 1) ∷ m.more_stats (c.args.depth + 1) ∷ m.tok (c.args.depth + 1) kind.KwEnd ∷ k) ∙ c.in_ok-by.ensures.moves (m.tok (c.args.depth + 1) kind.KwDo ∷ m.stat (c.args.depth + 1) ∷ m.more_stats (c.args.depth + 1) ∷ m.tok (c.args.depth + 1) kind.KwEnd ∷ k) ∙ c.in_ok-rest.ensures.moves (m.stat (c.args.depth + 1) ∷ m.more_stats (c.args.depth + 1) ∷ m.tok (c.args.depth + 1) kind.KwEnd ∷ k)))

pub for_stat-returns-in_err-rest-2-clause-moves : goal.for_stat-returns-in_err-rest-2-clause-moves
for_stat-returns-in_err-rest-2-clause-moves t c =
    by.exits (λ r. r.1.now) c.from_residual-in_err-rest-2.result (m.for_rest (c.args.depth + 1)) c.from_residual-in_err-rest-2.ensures.1 (by.pass_on ([]) c.in_err-rest-2.ensures.moves (λ k. c.in_ok-name.ensures.moves (m.word_expr (c.args.depth + 1) kind.Becomes ∷ m.word_expr (c.args.depth + 1) kind.KwTo ∷ m.option (c.args.depth + 1) kind.KwBy ∷ m.tok (c.args.depth + 1) kind.KwDo ∷ m.stat (c.args.depth + 1) ∷ m.more_stats (c.args.depth + 1) ∷ m.tok (c.args.depth + 1) kind.KwEnd ∷ k) ∙ c.in_ok-first.ensures.moves (m.word_expr (c.args.depth + 1) kind.KwTo ∷ m.option (c.args.depth + 1) kind.KwBy ∷ m.tok (c.args.depth + 1) kind.KwDo ∷ m.stat (c.args.depth + 1) ∷ m.more_stats (c.args.depth + 1) ∷ m.tok (c.args.depth + 1) kind.KwEnd ∷ k) ∙ c.in_ok-last.ensures.moves (m.option (c.args.depth + 1) kind.KwBy ∷ m.tok (c.args.depth + 1) kind.KwDo ∷ m.stat (c.args.depth + 1) ∷ m.more_stats (c.args.depth + 1) ∷ m.tok (c.args.depth + 1) kind.KwEnd ∷ k) ∙ c.in_ok-by.ensures.moves (m.tok (c.args.depth + 1) kind.KwDo ∷ m.stat (c.args.depth + 1) ∷ m.more_stats (c.args.depth + 1) ∷ m.tok (c.args.depth + 1) kind.KwEnd ∷ k) ∙ c.in_ok-rest.ensures.moves (m.stat (c.args.depth + 1) ∷ m.more_stats (c.args.depth + 1) ∷ m.tok (c.args.depth + 1) kind.KwEnd ∷ k) ∙ c.in_ok-body.ensures.moves (m.tok (c.args.depth + 1) kind.KwEnd ∷ k)))

pub for_stat-returns-clause-moves : goal.for_stat-returns-clause-moves
for_stat-returns-clause-moves t c =
    λ k. c.in_ok-name.ensures.moves (m.word_expr (c.args.depth + 1) kind.Becomes ∷ m.word_expr (c.args.depth + 1) kind.KwTo ∷ m.option (c.args.depth + 1) kind.KwBy ∷ m.tok (c.args.depth + 1) kind.KwDo ∷ m.stat (c.args.depth + 1) ∷ m.more_stats (c.args.depth + 1) ∷ m.tok (c.args.depth + 1) kind.KwEnd ∷ k) ∙ c.in_ok-first.ensures.moves (m.word_expr (c.args.depth + 1) kind.KwTo ∷ m.option (c.args.depth + 1) kind.KwBy ∷ m.tok (c.args.depth + 1) kind.KwDo ∷ m.stat (c.args.depth + 1) ∷ m.more_stats (c.args.depth + 1) ∷ m.tok (c.args.depth + 1) kind.KwEnd ∷ k) ∙ c.in_ok-last.ensures.moves (m.option (c.args.depth + 1) kind.KwBy ∷ m.tok (c.args.depth + 1) kind.KwDo ∷ m.stat (c.args.depth + 1) ∷ m.more_stats (c.args.depth + 1) ∷ m.tok (c.args.depth + 1) kind.KwEnd ∷ k) ∙ c.in_ok-by.ensures.moves (m.tok (c.args.depth + 1) kind.KwDo ∷ m.stat (c.args.depth + 1) ∷ m.more_stats (c.args.depth + 1) ∷ m.tok (c.args.depth + 1) kind.KwEnd ∷ k) ∙ c.in_ok-rest.ensures.moves (m.stat (c.args.depth + 1) ∷ m.more_stats (c.args.depth + 1) ∷ m.tok (c.args.depth + 1) kind.KwEnd ∷ k) ∙ c.in_ok-body.ensures.moves (m.tok (c.args.depth + 1) kind.KwEnd ∷ k) ∙ c.in_ok-rest-2.ensures.moves k

pub for_stat-returns-clause-tree : goal.for_stat-returns-clause-tree
for_stat-returns-clause-tree t c =
    λ before w. g.for w c.in_ok-name.ensures.tree (trees.word_here c.split.ensures.whole c.in_ok-first.ensures.tree.2) c.in_ok-first.ensures.tree.3 c.in_ok-last.ensures.tree.2 c.in_ok-last.ensures.tree.3 c.in_ok-by.ensures.tree c.in_ok-rest.ensures.tree.1 c.in_ok-body.ensures.tree c.in_ok-rest-2.ensures.tree.1

pub with_stat-returns-in_err-guarded-clause-moves : goal.with_stat-returns-in_err-guarded-clause-moves
with_stat-returns-in_err-guarded-clause-moves t c =
    by.exits (λ r. r.1.now) c.from_residual.result (m.with_rest (c.args.depth + 1)) c.from_residual.ensures.1 (by.pass_on (m.tok (c.args.depth + 1) kind.Colon ∷ m.tok (c.args.depth + 1) kind.Ident ∷ m.second (c.args.depth + 1) ∷ m.tok (c.args.depth + 1) kind.KwDo ∷ m.stat (c.args.depth + 1) ∷ m.more_stats (c.args.depth + 1) ∷ m.tok (c.args.depth + 1) kind.KwEnd ∷ []) c.in_err-guarded.ensures.moves (λ k. refl))

pub with_stat-returns-in_err-rest-clause-moves : goal.with_stat-returns-in_err-rest-clause-moves
with_stat-returns-in_err-rest-clause-moves t c =
    by.exits (λ r. r.1.now) c.from_residual-in_err-rest.result (m.with_rest (c.args.depth + 1)) c.from_residual-in_err-rest.ensures.1 (by.pass_on (m.tok (c.args.depth + 1) kind.Ident ∷ m.second (c.args.depth + 1) ∷ m.tok (c.args.depth + 1) kind.KwDo ∷ m.stat (c.args.depth + 1) ∷ m.more_stats (c.args.depth + 1) ∷ m.tok (c.args.depth + 1) kind.KwEnd ∷ []) c.in_err-rest.ensures.moves (λ k. c.in_ok-guarded.ensures.moves (m.tok (c.args.depth + 1) kind.Colon ∷ m.tok (c.args.depth + 1) kind.Ident ∷ m.second (c.args.depth + 1) ∷ m.tok (c.args.depth + 1) kind.KwDo ∷ m.stat (c.args.depth + 1) ∷ m.more_stats (c.args.depth + 1) ∷ m.tok (c.args.depth + 1) kind.KwEnd ∷ k)))

pub with_stat-returns-in_err-extension-clause-moves : goal.with_stat-returns-in_err-extension-clause-moves
with_stat-returns-in_err-extension-clause-moves t c =
    by.exits (λ r. r.1.now) c.from_residual-in_err-extension.result (m.with_rest (c.args.depth + 1)) c.from_residual-in_err-extension.ensures.1 (by.pass_on (m.tok (c.args.depth + 1) kind.KwDo ∷ m.stat (c.args.depth + 1) ∷ m.more_stats (c.args.depth + 1) ∷ m.tok (c.args.depth + 1) kind.KwEnd ∷ []) c.in_err-extension.ensures.moves (λ k. c.in_ok-guarded.ensures.moves (m.tok (c.args.depth + 1) kind.Colon ∷ m.tok (c.args.depth + 1) kind.Ident ∷ m.second (c.args.depth + 1) ∷ m.tok (c.args.depth + 1) kind.KwDo ∷ m.stat (c.args.depth + 1) ∷ m.more_stats (c.args.depth + 1) ∷ m.tok (c.args.depth + 1) kind.KwEnd ∷ k) ∙ c.in_ok-rest.ensures.moves (m.tok (c.args.depth + 1) kind.Ident ∷ m.second (c.args.depth + 1) ∷ m.tok (c.args.depth + 1) kind.KwDo ∷ m.stat (c.args.depth + 1) ∷ m.more_stats (c.args.depth + 1) ∷ m.tok (c.args.depth + 1) kind.KwEnd ∷ k)))

pub with_stat-returns-in_err-rest-2-clause-moves : goal.with_stat-returns-in_err-rest-2-clause-moves
with_stat-returns-in_err-rest-2-clause-moves t c =
    by.exits (λ r. r.1.now) c.from_residual-in_err-rest-2.result (m.with_rest (c.args.depth + 1)) c.from_residual-in_err-rest-2.ensures.1 (by.pass_on (m.stat (c.args.depth + 1) ∷ m.more_stats (c.args.depth + 1) ∷ m.tok (c.args.depth + 1) kind.KwEnd ∷ []) c.in_err-rest-2.ensures.moves (λ k. c.in_ok-guarded.ensures.moves (m.tok (c.args.depth + 1) kind.Colon ∷ m.tok (c.args.depth + 1) kind.Ident ∷ m.second (c.args.depth + 1) ∷ m.tok (c.args.depth + 1) kind.KwDo ∷ m.stat (c.args.depth + 1) ∷ m.more_stats (c.args.depth + 1) ∷ m.tok (c.args.depth + 1) kind.KwEnd ∷ k) ∙ c.in_ok-rest.ensures.moves (m.tok (c.args.depth + 1) kind.Ident ∷ m.second (c.args.depth + 1) ∷ m.tok (c.args.depth + 1) kind.KwDo ∷ m.stat (c.args.depth + 1) ∷ m.more_stats (c.args.depth + 1) ∷ m.tok (c.args.depth + 1) kind.KwEnd ∷ k) ∙ c.in_ok-extension.ensures.moves (m.tok (c.args.depth + 1) kind.KwDo ∷ m.stat (c.args.depth + 1) ∷ m.more_stats (c.args.depth + 1) ∷ m.tok (c.args.depth + 1) kind.KwEnd ∷ k)))

pub with_stat-returns-in_err-body-clause-moves : goal.with_stat-returns-in_err-body-clause-moves
with_stat-returns-in_err-body-clause-moves t c =
    by.exits (λ r. r.1.now) c.from_residual-in_err-body.result (m.with_rest (c.args.depth + 1)) c.from_residual-in_err-body.ensures.1 (by.pass_on (m.tok (c.args.depth + 1) kind.KwEnd ∷ []) c.in_err-body.ensures.moves (λ k. c.in_ok-guarded.ensures.moves (m.tok (c.args.depth + 1) kind.Colon ∷ m.tok (c.args.depth + 1) kind.Ident ∷ m.second (c.args.depth + 1) ∷ m.tok (c.args.depth + 1) kind.KwDo ∷ m.stat (c.args.depth + 1) ∷ m.more_stats (c.args.depth + 1) ∷ m.tok (c.args.depth + 1) kind.KwEnd ∷ k) ∙ c.in_ok-rest.ensures.moves (m.tok (c.args.depth + 1) kind.Ident ∷ m.second (c.args.depth + 1) ∷ m.tok (c.args.depth + 1) kind.KwDo ∷ m.stat (c.args.depth + 1) ∷ m.more_stats (c.args.depth + 1) ∷ m.tok (c.args.depth + 1) kind.KwEnd ∷ k) ∙ c.in_ok-extension.ensures.moves (m.tok (c.args.depth + 1) kind.KwDo ∷ m.stat (c.args.depth + 1) ∷ m.more_stats (c.args.depth + 1) ∷ m.tok (c.args.depth + 1) kind.KwEnd ∷ k) ∙ c.in_ok-rest-2.ensures.moves (m.stat (c.args.depth + 1) ∷ m.more_stats (c.args.depth + 1) ∷ m.tok (c.args.depth + 1) kind.KwEnd ∷ k)))

pub with_stat-returns-in_err-rest-3-clause-moves : goal.with_stat-returns-in_err-rest-3-clause-moves
with_stat-returns-in_err-rest-3-clause-moves t c =
    by.exits (λ r. r.1.now) c.from_residual-in_err-rest-3.result (m.with_rest (c.args.depth + 1)) c.from_residual-in_err-rest-3.ensures.1 (by.pass_on ([]) c.in_err-rest-3.ensures.moves (λ k. c.in_ok-guarded.ensures.moves (m.tok (c.args.depth + 1) kind.Colon ∷ m.tok (c.args.depth + 1) kind.Ident ∷ m.second (c.args.depth + 1) ∷ m.tok (c.args.depth + 1) kind.KwDo ∷ m.stat (c.args.depth + 1) ∷ m.more_stats (c.args.depth + 1) ∷ m.tok (c.args.depth + 1) kind.KwEnd ∷ k) ∙ c.in_ok-rest.ensures.moves (m.tok (c.args.depth + 1) kind.Ident ∷ m.second (c.args.depth + 1) ∷ m.tok (c.args.depth + 1) kind.KwDo ∷ m.stat (c.args.depth + 1) ∷ m.more_stats (c.args.depth + 1) ∷ m.tok (c.args.depth + 1) kind.KwEnd ∷ k) ∙ c.in_ok-extension.ensures.moves (m.tok (c.args.depth + 1) kind.KwDo ∷ m.stat (c.args.depth + 1) ∷ m.more_stats (c.args.depth + 1) ∷ m.tok (c.args.depth + 1) kind.KwEnd ∷ k) ∙ c.in_ok-rest-2.ensures.moves (m.stat (c.args.depth + 1) ∷ m.more_stats (c.args.depth + 1) ∷ m.tok (c.args.depth + 1) kind.KwEnd ∷ k) ∙ c.in_ok-body.ensures.moves (m.tok (c.args.depth + 1) kind.KwEnd ∷ k)))

pub with_stat-returns-clause-moves : goal.with_stat-returns-clause-moves
with_stat-returns-clause-moves t c =
    λ k. c.in_ok-guarded.ensures.moves (m.tok (c.args.depth + 1) kind.Colon ∷ m.tok (c.args.depth + 1) kind.Ident ∷ m.second (c.args.depth + 1) ∷ m.tok (c.args.depth + 1) kind.KwDo ∷ m.stat (c.args.depth + 1) ∷ m.more_stats (c.args.depth + 1) ∷ m.tok (c.args.depth + 1) kind.KwEnd ∷ k) ∙ c.in_ok-rest.ensures.moves (m.tok (c.args.depth + 1) kind.Ident ∷ m.second (c.args.depth + 1) ∷ m.tok (c.args.depth + 1) kind.KwDo ∷ m.stat (c.args.depth + 1) ∷ m.more_stats (c.args.depth + 1) ∷ m.tok (c.args.depth + 1) kind.KwEnd ∷ k) ∙ c.in_ok-extension.ensures.moves (m.tok (c.args.depth + 1) kind.KwDo ∷ m.stat (c.args.depth + 1) ∷ m.more_stats (c.args.depth + 1) ∷ m.tok (c.args.depth + 1) kind.KwEnd ∷ k) ∙ c.in_ok-rest-2.ensures.moves (m.stat (c.args.depth + 1) ∷ m.more_stats (c.args.depth + 1) ∷ m.tok (c.args.depth + 1) kind.KwEnd ∷ k) ∙ c.in_ok-body.ensures.moves (m.tok (c.args.depth + 1) kind.KwEnd ∷ k) ∙ c.in_ok-rest-3.ensures.moves k

pub with_stat-returns-clause-tree : goal.with_stat-returns-clause-tree
with_stat-returns-clause-tree t c =
    λ before w. g.with w c.in_ok-guarded.ensures.tree (trees.word_here c.split.ensures.whole c.in_ok-rest.ensures.tree.1) c.in_ok-extension.ensures.tree c.in_ok-rest-2.ensures.tree.1 c.in_ok-body.ensures.tree c.in_ok-rest-3.ensures.tree.1

pub block-returns-in_err-rest-clause-moves : goal.block-returns-in_err-rest-clause-moves
block-returns-in_err-rest-clause-moves t c =
    by.exits (λ r. r.1.now) c.from_residual.result (m.block c.args.depth ∷ []) c.from_residual.ensures.1 (by.pass_on (m.marking c.args.depth ∷ m.stat c.args.depth ∷ m.more_stats c.args.depth ∷ m.tok c.args.depth kind.KwEnd ∷ []) c.in_err-rest.ensures.moves (λ k. q.to_block _ c.requires.ended c.args.depth k))

pub block-returns-in_err-modifiers-clause-moves : goal.block-returns-in_err-modifiers-clause-moves
block-returns-in_err-modifiers-clause-moves t c =
    by.exits (λ r. r.1.now) c.from_residual-in_err-modifiers.result (m.block c.args.depth ∷ []) c.from_residual-in_err-modifiers.ensures.1 (by.pass_on (m.stat c.args.depth ∷ m.more_stats c.args.depth ∷ m.tok c.args.depth kind.KwEnd ∷ []) c.in_err-modifiers.ensures.moves (λ k. q.to_block _ c.requires.ended c.args.depth k ∙ c.in_ok-rest.ensures.moves (m.marking c.args.depth ∷ m.stat c.args.depth ∷ m.more_stats c.args.depth ∷ m.tok c.args.depth kind.KwEnd ∷ k)))

pub block-returns-in_err-body-clause-moves : goal.block-returns-in_err-body-clause-moves
block-returns-in_err-body-clause-moves t c =
    by.exits (λ r. r.1.now) c.from_residual-in_err-body.result (m.block c.args.depth ∷ []) c.from_residual-in_err-body.ensures.1 (by.pass_on (m.tok c.args.depth kind.KwEnd ∷ []) c.in_err-body.ensures.moves (λ k. q.to_block _ c.requires.ended c.args.depth k ∙ c.in_ok-rest.ensures.moves (m.marking c.args.depth ∷ m.stat c.args.depth ∷ m.more_stats c.args.depth ∷ m.tok c.args.depth kind.KwEnd ∷ k) ∙ c.in_ok-modifiers.ensures.moves (m.stat c.args.depth ∷ m.more_stats c.args.depth ∷ m.tok c.args.depth kind.KwEnd ∷ k)))

pub block-returns-in_err-rest-2-clause-moves : goal.block-returns-in_err-rest-2-clause-moves
block-returns-in_err-rest-2-clause-moves t c =
    by.exits (λ r. r.1.now) c.from_residual-in_err-rest-2.result (m.block c.args.depth ∷ []) c.from_residual-in_err-rest-2.ensures.1 (by.pass_on ([]) c.in_err-rest-2.ensures.moves (λ k. q.to_block _ c.requires.ended c.args.depth k ∙ c.in_ok-rest.ensures.moves (m.marking c.args.depth ∷ m.stat c.args.depth ∷ m.more_stats c.args.depth ∷ m.tok c.args.depth kind.KwEnd ∷ k) ∙ c.in_ok-modifiers.ensures.moves (m.stat c.args.depth ∷ m.more_stats c.args.depth ∷ m.tok c.args.depth kind.KwEnd ∷ k) ∙ c.in_ok-body.ensures.moves (m.tok c.args.depth kind.KwEnd ∷ k)))

pub block-returns-clause-moves : goal.block-returns-clause-moves
block-returns-clause-moves t c =
    λ k. q.to_block _ c.requires.ended c.args.depth k ∙ c.in_ok-rest.ensures.moves (m.marking c.args.depth ∷ m.stat c.args.depth ∷ m.more_stats c.args.depth ∷ m.tok c.args.depth kind.KwEnd ∷ k) ∙ c.in_ok-modifiers.ensures.moves (m.stat c.args.depth ∷ m.more_stats c.args.depth ∷ m.tok c.args.depth kind.KwEnd ∷ k) ∙ c.in_ok-body.ensures.moves (m.tok c.args.depth kind.KwEnd ∷ k) ∙ c.in_ok-rest-2.ensures.moves k

pub block-returns-clause-tree : goal.block-returns-clause-tree
block-returns-clause-tree t c =
    trees.block_by c.split.ensures.whole c.in_ok-rest.ensures.tree.1 c.in_ok-modifiers.ensures.tree c.in_ok-body.ensures.tree c.in_ok-rest-2.ensures.tree.1
