use Rattle.std.proofs.Common.{◌≡◌, ◌∷◌, [], rules, sym, ◌∙◌, ap, arith, append_assoc, append-nil, length, refl}
use denote.Enum.Bare.{same_true, same_false}
use Rattle.aos_scan.specs.contracts.token.TokenKind.{the_type}
use Rattle.aos_scan.specs.declared.token.TokenKind.TheVariants as kind
use Rattle.aos_tree.specs.Nesting.{shallow}
use Rattle.aos_tree.specs.Words as g
use Rattle.aos_tree.specs.DeclGrammar as declared
use Rattle.aos_parse_expr.proofs.Steps as by
use Rattle.aos_parse_mod.specs.Symbols as m
use Rattle.aos_parse_mod.proofs.ModSteps as q
use Rattle.aos_parse_expr.proofs.Sight as sight
use Rattle.aos_parse_mod.proofs.heading.sections.Goals as goal

pub returns-then-eq-clause-moves : goal.returns-then-eq-clause-moves
returns-then-eq-clause-moves c =
    λ k. by.shifts m.table shallow c.split.ensures.whole (m.sections c.args.depth) c.args.depth ([]) (ap (m.after (m.sections c.args.depth)) (let is : c.split.result.0.now.kind ≡ kind.CloseParen = same_true the_type (search rules) _ _ (sym c.eq.ensures ∙ c.if-eq.true) in is)) (by.fits_shallow _ c.requires.nested) k

pub returns-then-eq-clause-tree : goal.returns-then-eq-clause-tree
returns-then-eq-clause-tree c =
    rw (c.split.ensures.whole, c.new-found.ensures) (declared.no_sections (g.word (let is : c.split.result.0.now.kind ≡ kind.CloseParen = same_true the_type (search rules) _ _ (sym c.eq.ensures ∙ c.if-eq.true) in is) (by.fits_shallow _ c.requires.nested)))

pub returns-in_err-first-clause-moves : goal.returns-in_err-first-clause-moves
returns-in_err-first-clause-moves c =
    by.exits (λ r. r.1.now) c.from_residual.result (m.sections c.args.depth ∷ []) c.from_residual.ensures.1 (by.pass_on (m.more_sections c.args.depth ∷ []) c.in_err-first.ensures.moves (λ k. by.becomes m.table shallow c.split.ensures.whole (m.sections c.args.depth) (m.section c.args.depth) (m.more_sections c.args.depth ∷ []) (λ j. q.sections_at c.args.depth _ (same_false the_type _ _ (sym c.eq.ensures ∙ c.if-eq.false)) j) k))

pub loop-found-init : goal.loop-found-init
loop-found-init c =
    record {
      ended = c.in_ok-first.ensures.rest.0;
      shorter = omega (arith, c.in_ok-first.ensures.rest.1);
      tree = λ more end h. rw (c.in_ok-push.ensures.ok, c.new-found.ensures) (declared.sections c.in_ok-first.ensures.tree h);
      moves = λ k. by.becomes m.table shallow c.split.ensures.whole (m.sections c.args.depth) (m.section c.args.depth) (m.more_sections c.args.depth ∷ []) (λ j. q.sections_at c.args.depth _ (same_false the_type _ _ (sym c.eq.ensures ∙ c.if-eq.false)) j) k ∙ c.in_ok-first.ensures.moves (m.more_sections c.args.depth ∷ k);
    }

pub returns-in_err-one-in-Semicolon-clause-moves : goal.returns-in_err-one-in-Semicolon-clause-moves
returns-in_err-one-in-Semicolon-clause-moves c =
    by.exits (λ r. r.1.now) c.from_residual-in_err-one-in-Semicolon.result (m.sections c.args.depth ∷ []) c.from_residual-in_err-one-in-Semicolon.ensures.1 (by.pass_on (m.more_sections c.args.depth ∷ []) c.in_err-one-in-Semicolon.ensures.moves (λ k. c.loop-found.invariant.moves k ∙ by.shifts m.table shallow c.split-in-loop-found.ensures.whole (m.more_sections c.args.depth) c.args.depth (m.section c.args.depth ∷ m.more_sections c.args.depth ∷ []) (ap (m.after (m.more_sections c.args.depth)) c.in-Semicolon.is) (by.fits_shallow _ c.requires.nested) k))

pub loop-found-preserved : goal.loop-found-preserved
loop-found-preserved c =
    record {
      ended = c.in_ok-one-in-Semicolon.ensures.rest.0;
      shorter = omega (arith, ap length c.split-in-loop-found.ensures.whole, c.in_ok-one-in-Semicolon.ensures.rest.1, c.loop-found.invariant.shorter);
      tree = λ more end h. rw (c.in_ok-push-in-Semicolon.ensures.ok, append_assoc) (c.loop-found.invariant.tree _ end (rw c.split-in-loop-found.ensures.whole (declared.another_section (g.word c.in-Semicolon.is (by.fits_shallow _ c.requires.nested)) c.in_ok-one-in-Semicolon.ensures.tree h)));
      moves = λ k. c.loop-found.invariant.moves k ∙ by.shifts m.table shallow c.split-in-loop-found.ensures.whole (m.more_sections c.args.depth) c.args.depth (m.section c.args.depth ∷ m.more_sections c.args.depth ∷ []) (ap (m.after (m.more_sections c.args.depth)) c.in-Semicolon.is) (by.fits_shallow _ c.requires.nested) k ∙ c.in_ok-one-in-Semicolon.ensures.moves (m.more_sections c.args.depth ∷ k);
    }

pub returns-in_err-end-in_default-clause-moves : goal.returns-in_err-end-in_default-clause-moves
returns-in_err-end-in_default-clause-moves c =
    by.exits (λ r. r.1.now) c.from_residual-in_err-end-in_default.result (m.sections c.args.depth ∷ []) c.from_residual-in_err-end-in_default.ensures.1 (by.pass_on ([]) c.in_err-end-in_default.ensures.moves (λ k. c.loop-found.invariant.moves k ∙ by.becomes m.table shallow c.split-in-loop-found.ensures.whole (m.more_sections c.args.depth) (m.tok c.args.depth kind.CloseParen) ([]) (λ j. q.sections_end c.args.depth _ c.in_default.not-Semicolon j) k))

pub returns-in_default : goal.returns-in_default
returns-in_default c =
    record {
      tree = rw (sym (append-nil c.loop-found.found)) (c.loop-found.invariant.tree [] _ (declared.no_more_sections c.in_ok-end-in_default.ensures.tree));
      rest = (c.in_ok-end-in_default.ensures.rest.0, omega (arith, c.in_ok-end-in_default.ensures.rest.1, c.loop-found.invariant.shorter));
      moves = λ k. c.loop-found.invariant.moves k ∙ by.becomes m.table shallow c.split-in-loop-found.ensures.whole (m.more_sections c.args.depth) (m.tok c.args.depth kind.CloseParen) ([]) (λ j. q.sections_end c.args.depth _ c.in_default.not-Semicolon j) k ∙ c.in_ok-end-in_default.ensures.moves (k);
    }

pub section-requires-in-Semicolon-clause-ended : goal.section-requires-in-Semicolon-clause-ended
section-requires-in-Semicolon-clause-ended c =
    sight.behind kind.Semicolon c.split-in-loop-found.ensures.whole c.in-Semicolon.is refl c.split-in-loop-found.ensures.ended

pub loop-found-smaller : goal.loop-found-smaller
loop-found-smaller c =
    sight.less _ c.split-in-loop-found.ensures.whole c.in_ok-one-in-Semicolon.ensures.rest.1
