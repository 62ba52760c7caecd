use Rattle.std.proofs.Common.{◌+◌, ◌∷◌, [], rules, sym, ◌∙◌, refl, ap, arith, append_assoc, append-nil, length, true, false}
use denote.Enum.Bare.{same_true, same_false}
use Rattle.aos_scan.specs.contracts.token.TokenKind.{the_type}
use Rattle.aos_scan.specs.declared.token.TokenKind.TheVariants as kind
use Rattle.aos_tree.specs.Nesting.{shallow}
use Rattle.aos_tree.specs.Words as g
use Rattle.aos_tree.specs.DeclGrammar as declared
use Rattle.aos_parse_expr.proofs.Steps as by
use Rattle.aos_parse_mod.specs.Parts as part
use Rattle.aos_parse_mod.specs.Symbols as m
use Rattle.aos_parse_mod.proofs.Joins.{word_is, word_not}
use Rattle.aos_parse_mod.proofs.ModSteps as q
use Rattle.aos_parse_mod.proofs.Trees as tree
use Rattle.aos_parse_mod.proofs.ModFalls as falls
use Rattle.aos_parse_mod.proofs.declaration.+declarations.Goals as goal

pub decls-returns-then-not-starts_decl-clause-tree : goal.decls-returns-then-not-starts_decl-clause-tree
decls-returns-then-not-starts_decl-clause-tree t c =
    rw (sym (append-nil c.loop-alloc.found)) (c.loop-alloc.invariant.tree [] _ declared.no_decls)

pub decls-returns-then-not-starts_decl-clause-moves : goal.decls-returns-then-not-starts_decl-clause-moves
decls-returns-then-not-starts_decl-clause-moves t c =
    λ k. c.loop-alloc.invariant.moves k ∙ by.skips m.table shallow c.split.ensures.whole (m.decls c.args.local c.args.depth) (q.no_decls c.args.local c.args.depth _ (sym c.starts_decl.ensures ∙ c.if-not-starts_decl.true)) refl k

pub decls-returns-in_err-one-clause-moves : goal.decls-returns-in_err-one-clause-moves
decls-returns-in_err-one-clause-moves t c =
    by.exits (λ r. r.1.now) c.from_residual.result (m.decls c.args.local c.args.depth ∷ []) c.from_residual.ensures.1 (by.pass_on (m.decls c.args.local c.args.depth ∷ []) c.in_err-one.ensures.moves (λ k. c.loop-alloc.invariant.moves k ∙ by.becomes m.table shallow c.split.ensures.whole (m.decls c.args.local c.args.depth) (m.decl c.args.local c.args.depth) (m.decls c.args.local c.args.depth ∷ []) (q.decls_at c.args.local c.args.depth _ (sym c.starts_decl.ensures ∙ c.if-not-starts_decl.false)) k))

pub decls-loop-alloc-preserved : goal.decls-loop-alloc-preserved
decls-loop-alloc-preserved t c =
    record {
      ended = c.in_ok-one.ensures.rest.0;
      shorter = omega (arith, c.in_ok-one.ensures.rest.1, c.loop-alloc.invariant.shorter);
      tree = λ more end h. rw (c.in_ok-push.ensures.ok, append_assoc) (c.loop-alloc.invariant.tree _ end (declared.decl c.in_ok-one.ensures.tree h));
      moves = λ k. c.loop-alloc.invariant.moves k ∙ by.becomes m.table shallow c.split.ensures.whole (m.decls c.args.local c.args.depth) (m.decl c.args.local c.args.depth) (m.decls c.args.local c.args.depth ∷ []) (q.decls_at c.args.local c.args.depth _ (sym c.starts_decl.ensures ∙ c.if-not-starts_decl.false)) k ∙ c.in_ok-one.ensures.moves (m.decls c.args.local c.args.depth ∷ k);
    }

pub decl-returns-in_err-all-in-KwConst-clause-moves : goal.decl-returns-in_err-all-in-KwConst-clause-moves
decl-returns-in_err-all-in-KwConst-clause-moves t c =
    by.exits (λ r. r.1.now) c.from_residual.result (m.decl c.args.local c.args.depth ∷ []) c.from_residual.ensures.1 (by.pass_on ([]) c.in_err-all-in-KwConst.ensures.moves (λ k. by.shifts m.table shallow c.split.ensures.whole (m.decl c.args.local c.args.depth) c.args.depth (m.const_defs c.args.depth ∷ []) (ap (m.after (m.decl c.args.local c.args.depth)) c.in-KwConst.is) (by.fits_shallow _ c.requires.nested) k))

pub decl-returns-in_ok-all-in-KwConst-clause-moves : goal.decl-returns-in_ok-all-in-KwConst-clause-moves
decl-returns-in_ok-all-in-KwConst-clause-moves t c =
    λ k. by.shifts m.table shallow c.split.ensures.whole (m.decl c.args.local c.args.depth) c.args.depth (m.const_defs c.args.depth ∷ []) (ap (m.after (m.decl c.args.local c.args.depth)) c.in-KwConst.is) (by.fits_shallow _ c.requires.nested) k ∙ c.in_ok-all-in-KwConst.ensures.moves (k)

pub decl-returns-in_ok-all-in-KwConst-clause-tree : goal.decl-returns-in_ok-all-in-KwConst-clause-tree
decl-returns-in_ok-all-in-KwConst-clause-tree t c =
    rw c.split.ensures.whole (declared.consts (g.word c.in-KwConst.is (by.fits_shallow _ c.requires.nested)) c.in_ok-all-in-KwConst.ensures.tree)

pub decl-returns-in_err-all-in-KwType-clause-moves : goal.decl-returns-in_err-all-in-KwType-clause-moves
decl-returns-in_err-all-in-KwType-clause-moves t c =
    by.exits (λ r. r.1.now) c.from_residual-in_err-all-in-KwType.result (m.decl c.args.local c.args.depth ∷ []) c.from_residual-in_err-all-in-KwType.ensures.1 (by.pass_on ([]) c.in_err-all-in-KwType.ensures.moves (λ k. by.shifts m.table shallow c.split.ensures.whole (m.decl c.args.local c.args.depth) c.args.depth (m.type_defs c.args.depth ∷ []) (ap (m.after (m.decl c.args.local c.args.depth)) c.in-KwType.is) (by.fits_shallow _ c.requires.nested) k))

pub decl-returns-in_ok-all-in-KwType-clause-moves : goal.decl-returns-in_ok-all-in-KwType-clause-moves
decl-returns-in_ok-all-in-KwType-clause-moves t c =
    λ k. by.shifts m.table shallow c.split.ensures.whole (m.decl c.args.local c.args.depth) c.args.depth (m.type_defs c.args.depth ∷ []) (ap (m.after (m.decl c.args.local c.args.depth)) c.in-KwType.is) (by.fits_shallow _ c.requires.nested) k ∙ c.in_ok-all-in-KwType.ensures.moves (k)

pub decl-returns-in_ok-all-in-KwType-clause-tree : goal.decl-returns-in_ok-all-in-KwType-clause-tree
decl-returns-in_ok-all-in-KwType-clause-tree t c =
    rw c.split.ensures.whole (declared.types (g.word c.in-KwType.is (by.fits_shallow _ c.requires.nested)) c.in_ok-all-in-KwType.ensures.tree)

pub decl-returns-in_err-all-in-KwVar-clause-moves : goal.decl-returns-in_err-all-in-KwVar-clause-moves
decl-returns-in_err-all-in-KwVar-clause-moves t c =
    by.exits (λ r. r.1.now) c.from_residual-in_err-all-in-KwVar.result (m.decl c.args.local c.args.depth ∷ []) c.from_residual-in_err-all-in-KwVar.ensures.1 (by.pass_on ([]) c.in_err-all-in-KwVar.ensures.moves (λ k. by.shifts m.table shallow c.split.ensures.whole (m.decl c.args.local c.args.depth) c.args.depth (m.var_defs c.args.depth ∷ []) (ap (m.after (m.decl c.args.local c.args.depth)) c.in-KwVar.is) (by.fits_shallow _ c.requires.nested) k))

pub decl-returns-in_ok-all-in-KwVar-clause-moves : goal.decl-returns-in_ok-all-in-KwVar-clause-moves
decl-returns-in_ok-all-in-KwVar-clause-moves t c =
    λ k. by.shifts m.table shallow c.split.ensures.whole (m.decl c.args.local c.args.depth) c.args.depth (m.var_defs c.args.depth ∷ []) (ap (m.after (m.decl c.args.local c.args.depth)) c.in-KwVar.is) (by.fits_shallow _ c.requires.nested) k ∙ c.in_ok-all-in-KwVar.ensures.moves (k)

pub decl-returns-in_ok-all-in-KwVar-clause-tree : goal.decl-returns-in_ok-all-in-KwVar-clause-tree
decl-returns-in_ok-all-in-KwVar-clause-tree t c =
    rw c.split.ensures.whole (declared.vars (g.word c.in-KwVar.is (by.fits_shallow _ c.requires.nested)) c.in_ok-all-in-KwVar.ensures.tree)

pub decl-returns-then-local-clause-moves : goal.decl-returns-then-local-clause-moves
decl-returns-then-local-clause-moves t c =
    record { refused = (_, by.refuses m.table shallow c.split.ensures.whole (m.decl c.args.local c.args.depth) c.args.depth (q.local_proc c.args.local c.args.depth _ c.if-local.true c.in-KwProcedure.is) refl (by.fits_shallow _ c.requires.nested)) }

pub decl-returns-else-local-clause-moves : goal.decl-returns-else-local-clause-moves
decl-returns-else-local-clause-moves t c =
    q.hands_on (λ r. r.1.now) c.proc.result (m.tok c.args.depth kind.KwProcedure ∷ m.proc_rest c.args.depth (m.tok c.args.depth kind.Semicolon ∷ [])) (m.decl c.args.local c.args.depth ∷ []) c.args.tokens.now c.args.tokens.now c.proc.ensures.moves
    (λ k. by.becomes m.table shallow c.split.ensures.whole (m.decl c.args.local c.args.depth) (m.tok c.args.depth kind.KwProcedure) (m.proc_rest c.args.depth (m.tok c.args.depth kind.Semicolon ∷ [])) (q.proc_at c.args.local c.args.depth _ c.if-local.false c.in-KwProcedure.is) k)

pub decl-returns-in_default : goal.decl-returns-in_default
decl-returns-in_default t c =
    record { tree = tt; rest = tt; moves = record { refused = (_, by.refuses m.table shallow c.split.ensures.whole (m.decl c.args.local c.args.depth) c.args.depth (q.none_decl c.args.local c.args.depth _ c.in_default.not-KwConst c.in_default.not-KwType c.in_default.not-KwVar c.in_default.not-KwProcedure) refl (by.fits_shallow _ c.requires.nested)) } }

pub proc-returns-in_err-place-clause-moves : goal.proc-returns-in_err-place-clause-moves
proc-returns-in_err-place-clause-moves t c =
    by.exits (λ r. r.1.now) c.from_residual.result (m.tok c.args.depth kind.KwProcedure ∷ m.proc_rest c.args.depth (m.tok c.args.depth kind.Semicolon ∷ [])) c.from_residual.ensures.1 (by.pass_on (m.option c.args.depth kind.Ampersand ∷ m.tok c.args.depth kind.Ident ∷ m.mark c.args.depth ∷ m.formals c.args.depth ∷ m.tok c.args.depth kind.Semicolon ∷ m.decls true c.args.depth ∷ m.body c.args.depth ∷ m.tok c.args.depth kind.Ident ∷ m.tok c.args.depth kind.Semicolon ∷ []) c.in_err-place.ensures.moves (λ k. refl))

pub proc-returns-in_err-def-clause-moves : goal.proc-returns-in_err-def-clause-moves
proc-returns-in_err-def-clause-moves t c =
    by.exits (λ r. r.1.now) c.from_residual-in_err-def.result (m.tok c.args.depth kind.KwProcedure ∷ m.proc_rest c.args.depth (m.tok c.args.depth kind.Semicolon ∷ [])) c.from_residual-in_err-def.ensures.1 (by.pass_on (m.formals c.args.depth ∷ m.tok c.args.depth kind.Semicolon ∷ m.decls true c.args.depth ∷ m.body c.args.depth ∷ m.tok c.args.depth kind.Ident ∷ m.tok c.args.depth kind.Semicolon ∷ []) c.in_err-def.ensures.moves (λ k. c.in_ok-place.ensures.moves (m.option c.args.depth kind.Ampersand ∷ m.tok c.args.depth kind.Ident ∷ m.mark c.args.depth ∷ m.formals c.args.depth ∷ m.tok c.args.depth kind.Semicolon ∷ m.decls true c.args.depth ∷ m.body c.args.depth ∷ m.tok c.args.depth kind.Ident ∷ m.tok c.args.depth kind.Semicolon ∷ k) ∙ c.option-initializer.ensures.moves (m.tok c.args.depth kind.Ident ∷ m.mark c.args.depth ∷ m.formals c.args.depth ∷ m.tok c.args.depth kind.Semicolon ∷ m.decls true c.args.depth ∷ m.body c.args.depth ∷ m.tok c.args.depth kind.Ident ∷ m.tok c.args.depth kind.Semicolon ∷ k)))

pub proc-returns-in_err-formals-clause-moves : goal.proc-returns-in_err-formals-clause-moves
proc-returns-in_err-formals-clause-moves t c =
    by.exits (λ r. r.1.now) c.from_residual-in_err-formals.result (m.tok c.args.depth kind.KwProcedure ∷ m.proc_rest c.args.depth (m.tok c.args.depth kind.Semicolon ∷ [])) c.from_residual-in_err-formals.ensures.1 (by.pass_on (m.tok c.args.depth kind.Semicolon ∷ m.decls true c.args.depth ∷ m.body c.args.depth ∷ m.tok c.args.depth kind.Ident ∷ m.tok c.args.depth kind.Semicolon ∷ []) c.in_err-formals.ensures.moves (λ k. c.in_ok-place.ensures.moves (m.option c.args.depth kind.Ampersand ∷ m.tok c.args.depth kind.Ident ∷ m.mark c.args.depth ∷ m.formals c.args.depth ∷ m.tok c.args.depth kind.Semicolon ∷ m.decls true c.args.depth ∷ m.body c.args.depth ∷ m.tok c.args.depth kind.Ident ∷ m.tok c.args.depth kind.Semicolon ∷ k) ∙ c.option-initializer.ensures.moves (m.tok c.args.depth kind.Ident ∷ m.mark c.args.depth ∷ m.formals c.args.depth ∷ m.tok c.args.depth kind.Semicolon ∷ m.decls true c.args.depth ∷ m.body c.args.depth ∷ m.tok c.args.depth kind.Ident ∷ m.tok c.args.depth kind.Semicolon ∷ k) ∙ c.in_ok-def.ensures.moves (m.formals c.args.depth ∷ m.tok c.args.depth kind.Semicolon ∷ m.decls true c.args.depth ∷ m.body c.args.depth ∷ m.tok c.args.depth kind.Ident ∷ m.tok c.args.depth kind.Semicolon ∷ k)))

pub proc-returns-in_err-rest-clause-moves : goal.proc-returns-in_err-rest-clause-moves
proc-returns-in_err-rest-clause-moves t c =
    by.exits (λ r. r.1.now) c.from_residual-in_err-rest.result (m.tok c.args.depth kind.KwProcedure ∷ m.proc_rest c.args.depth (m.tok c.args.depth kind.Semicolon ∷ [])) c.from_residual-in_err-rest.ensures.1 (by.pass_on (m.decls true c.args.depth ∷ m.body c.args.depth ∷ m.tok c.args.depth kind.Ident ∷ m.tok c.args.depth kind.Semicolon ∷ []) c.in_err-rest.ensures.moves (λ k. c.in_ok-place.ensures.moves (m.option c.args.depth kind.Ampersand ∷ m.tok c.args.depth kind.Ident ∷ m.mark c.args.depth ∷ m.formals c.args.depth ∷ m.tok c.args.depth kind.Semicolon ∷ m.decls true c.args.depth ∷ m.body c.args.depth ∷ m.tok c.args.depth kind.Ident ∷ m.tok c.args.depth kind.Semicolon ∷ k) ∙ c.option-initializer.ensures.moves (m.tok c.args.depth kind.Ident ∷ m.mark c.args.depth ∷ m.formals c.args.depth ∷ m.tok c.args.depth kind.Semicolon ∷ m.decls true c.args.depth ∷ m.body c.args.depth ∷ m.tok c.args.depth kind.Ident ∷ m.tok c.args.depth kind.Semicolon ∷ k) ∙ c.in_ok-def.ensures.moves (m.formals c.args.depth ∷ m.tok c.args.depth kind.Semicolon ∷ m.decls true c.args.depth ∷ m.body c.args.depth ∷ m.tok c.args.depth kind.Ident ∷ m.tok c.args.depth kind.Semicolon ∷ k) ∙ c.in_ok-formals.ensures.moves (m.tok c.args.depth kind.Semicolon ∷ m.decls true c.args.depth ∷ m.body c.args.depth ∷ m.tok c.args.depth kind.Ident ∷ m.tok c.args.depth kind.Semicolon ∷ k)))

pub proc-returns-in_err-decls-clause-moves : goal.proc-returns-in_err-decls-clause-moves
proc-returns-in_err-decls-clause-moves t c =
    by.exits (λ r. r.1.now) c.from_residual-in_err-decls.result (m.tok c.args.depth kind.KwProcedure ∷ m.proc_rest c.args.depth (m.tok c.args.depth kind.Semicolon ∷ [])) c.from_residual-in_err-decls.ensures.1 (by.pass_on (m.body c.args.depth ∷ m.tok c.args.depth kind.Ident ∷ m.tok c.args.depth kind.Semicolon ∷ []) c.in_err-decls.ensures.moves (λ k. c.in_ok-place.ensures.moves (m.option c.args.depth kind.Ampersand ∷ m.tok c.args.depth kind.Ident ∷ m.mark c.args.depth ∷ m.formals c.args.depth ∷ m.tok c.args.depth kind.Semicolon ∷ m.decls true c.args.depth ∷ m.body c.args.depth ∷ m.tok c.args.depth kind.Ident ∷ m.tok c.args.depth kind.Semicolon ∷ k) ∙ c.option-initializer.ensures.moves (m.tok c.args.depth kind.Ident ∷ m.mark c.args.depth ∷ m.formals c.args.depth ∷ m.tok c.args.depth kind.Semicolon ∷ m.decls true c.args.depth ∷ m.body c.args.depth ∷ m.tok c.args.depth kind.Ident ∷ m.tok c.args.depth kind.Semicolon ∷ k) ∙ c.in_ok-def.ensures.moves (m.formals c.args.depth ∷ m.tok c.args.depth kind.Semicolon ∷ m.decls true c.args.depth ∷ m.body c.args.depth ∷ m.tok c.args.depth kind.Ident ∷ m.tok c.args.depth kind.Semicolon ∷ k) ∙ c.in_ok-formals.ensures.moves (m.tok c.args.depth kind.Semicolon ∷ m.decls true c.args.depth ∷ m.body c.args.depth ∷ m.tok c.args.depth kind.Ident ∷ m.tok c.args.depth kind.Semicolon ∷ k) ∙ c.in_ok-rest.ensures.moves (m.decls true c.args.depth ∷ m.body c.args.depth ∷ m.tok c.args.depth kind.Ident ∷ m.tok c.args.depth kind.Semicolon ∷ k)))

pub proc-returns-in_err-body-clause-moves : goal.proc-returns-in_err-body-clause-moves
proc-returns-in_err-body-clause-moves t c =
    by.exits (λ r. r.1.now) c.from_residual-in_err-body.result (m.tok c.args.depth kind.KwProcedure ∷ m.proc_rest c.args.depth (m.tok c.args.depth kind.Semicolon ∷ [])) c.from_residual-in_err-body.ensures.1 (by.pass_on (m.tok c.args.depth kind.Ident ∷ m.tok c.args.depth kind.Semicolon ∷ []) c.in_err-body.ensures.moves (λ k. c.in_ok-place.ensures.moves (m.option c.args.depth kind.Ampersand ∷ m.tok c.args.depth kind.Ident ∷ m.mark c.args.depth ∷ m.formals c.args.depth ∷ m.tok c.args.depth kind.Semicolon ∷ m.decls true c.args.depth ∷ m.body c.args.depth ∷ m.tok c.args.depth kind.Ident ∷ m.tok c.args.depth kind.Semicolon ∷ k) ∙ c.option-initializer.ensures.moves (m.tok c.args.depth kind.Ident ∷ m.mark c.args.depth ∷ m.formals c.args.depth ∷ m.tok c.args.depth kind.Semicolon ∷ m.decls true c.args.depth ∷ m.body c.args.depth ∷ m.tok c.args.depth kind.Ident ∷ m.tok c.args.depth kind.Semicolon ∷ k) ∙ c.in_ok-def.ensures.moves (m.formals c.args.depth ∷ m.tok c.args.depth kind.Semicolon ∷ m.decls true c.args.depth ∷ m.body c.args.depth ∷ m.tok c.args.depth kind.Ident ∷ m.tok c.args.depth kind.Semicolon ∷ k) ∙ c.in_ok-formals.ensures.moves (m.tok c.args.depth kind.Semicolon ∷ m.decls true c.args.depth ∷ m.body c.args.depth ∷ m.tok c.args.depth kind.Ident ∷ m.tok c.args.depth kind.Semicolon ∷ k) ∙ c.in_ok-rest.ensures.moves (m.decls true c.args.depth ∷ m.body c.args.depth ∷ m.tok c.args.depth kind.Ident ∷ m.tok c.args.depth kind.Semicolon ∷ k) ∙ c.in_ok-decls.ensures.moves (m.body c.args.depth ∷ m.tok c.args.depth kind.Ident ∷ m.tok c.args.depth kind.Semicolon ∷ k)))

pub proc-returns-in_err-end-clause-moves : goal.proc-returns-in_err-end-clause-moves
proc-returns-in_err-end-clause-moves t c =
    by.exits (λ r. r.1.now) c.from_residual-in_err-end.result (m.tok c.args.depth kind.KwProcedure ∷ m.proc_rest c.args.depth (m.tok c.args.depth kind.Semicolon ∷ [])) c.from_residual-in_err-end.ensures.1 (by.pass_on (m.tok c.args.depth kind.Semicolon ∷ []) c.in_err-end.ensures.moves (λ k. c.in_ok-place.ensures.moves (m.option c.args.depth kind.Ampersand ∷ m.tok c.args.depth kind.Ident ∷ m.mark c.args.depth ∷ m.formals c.args.depth ∷ m.tok c.args.depth kind.Semicolon ∷ m.decls true c.args.depth ∷ m.body c.args.depth ∷ m.tok c.args.depth kind.Ident ∷ m.tok c.args.depth kind.Semicolon ∷ k) ∙ c.option-initializer.ensures.moves (m.tok c.args.depth kind.Ident ∷ m.mark c.args.depth ∷ m.formals c.args.depth ∷ m.tok c.args.depth kind.Semicolon ∷ m.decls true c.args.depth ∷ m.body c.args.depth ∷ m.tok c.args.depth kind.Ident ∷ m.tok c.args.depth kind.Semicolon ∷ k) ∙ c.in_ok-def.ensures.moves (m.formals c.args.depth ∷ m.tok c.args.depth kind.Semicolon ∷ m.decls true c.args.depth ∷ m.body c.args.depth ∷ m.tok c.args.depth kind.Ident ∷ m.tok c.args.depth kind.Semicolon ∷ k) ∙ c.in_ok-formals.ensures.moves (m.tok c.args.depth kind.Semicolon ∷ m.decls true c.args.depth ∷ m.body c.args.depth ∷ m.tok c.args.depth kind.Ident ∷ m.tok c.args.depth kind.Semicolon ∷ k) ∙ c.in_ok-rest.ensures.moves (m.decls true c.args.depth ∷ m.body c.args.depth ∷ m.tok c.args.depth kind.Ident ∷ m.tok c.args.depth kind.Semicolon ∷ k) ∙ c.in_ok-decls.ensures.moves (m.body c.args.depth ∷ m.tok c.args.depth kind.Ident ∷ m.tok c.args.depth kind.Semicolon ∷ k) ∙ c.in_ok-body.ensures.moves (m.tok c.args.depth kind.Ident ∷ m.tok c.args.depth kind.Semicolon ∷ k)))

pub proc-returns-in_err-rest-2-clause-moves : goal.proc-returns-in_err-rest-2-clause-moves
proc-returns-in_err-rest-2-clause-moves t c =
    by.exits (λ r. r.1.now) c.from_residual-in_err-rest-2.result (m.tok c.args.depth kind.KwProcedure ∷ m.proc_rest c.args.depth (m.tok c.args.depth kind.Semicolon ∷ [])) c.from_residual-in_err-rest-2.ensures.1 (by.pass_on ([]) c.in_err-rest-2.ensures.moves (λ k. c.in_ok-place.ensures.moves (m.option c.args.depth kind.Ampersand ∷ m.tok c.args.depth kind.Ident ∷ m.mark c.args.depth ∷ m.formals c.args.depth ∷ m.tok c.args.depth kind.Semicolon ∷ m.decls true c.args.depth ∷ m.body c.args.depth ∷ m.tok c.args.depth kind.Ident ∷ m.tok c.args.depth kind.Semicolon ∷ k) ∙ c.option-initializer.ensures.moves (m.tok c.args.depth kind.Ident ∷ m.mark c.args.depth ∷ m.formals c.args.depth ∷ m.tok c.args.depth kind.Semicolon ∷ m.decls true c.args.depth ∷ m.body c.args.depth ∷ m.tok c.args.depth kind.Ident ∷ m.tok c.args.depth kind.Semicolon ∷ k) ∙ c.in_ok-def.ensures.moves (m.formals c.args.depth ∷ m.tok c.args.depth kind.Semicolon ∷ m.decls true c.args.depth ∷ m.body c.args.depth ∷ m.tok c.args.depth kind.Ident ∷ m.tok c.args.depth kind.Semicolon ∷ k) ∙ c.in_ok-formals.ensures.moves (m.tok c.args.depth kind.Semicolon ∷ m.decls true c.args.depth ∷ m.body c.args.depth ∷ m.tok c.args.depth kind.Ident ∷ m.tok c.args.depth kind.Semicolon ∷ k) ∙ c.in_ok-rest.ensures.moves (m.decls true c.args.depth ∷ m.body c.args.depth ∷ m.tok c.args.depth kind.Ident ∷ m.tok c.args.depth kind.Semicolon ∷ k) ∙ c.in_ok-decls.ensures.moves (m.body c.args.depth ∷ m.tok c.args.depth kind.Ident ∷ m.tok c.args.depth kind.Semicolon ∷ k) ∙ c.in_ok-body.ensures.moves (m.tok c.args.depth kind.Ident ∷ m.tok c.args.depth kind.Semicolon ∷ k) ∙ c.in_ok-end.ensures.moves (m.tok c.args.depth kind.Semicolon ∷ k)))

pub proc-returns-clause-moves : goal.proc-returns-clause-moves
proc-returns-clause-moves t c =
    λ k. c.in_ok-place.ensures.moves (m.option c.args.depth kind.Ampersand ∷ m.tok c.args.depth kind.Ident ∷ m.mark c.args.depth ∷ m.formals c.args.depth ∷ m.tok c.args.depth kind.Semicolon ∷ m.decls true c.args.depth ∷ m.body c.args.depth ∷ m.tok c.args.depth kind.Ident ∷ m.tok c.args.depth kind.Semicolon ∷ k) ∙ c.option-initializer.ensures.moves (m.tok c.args.depth kind.Ident ∷ m.mark c.args.depth ∷ m.formals c.args.depth ∷ m.tok c.args.depth kind.Semicolon ∷ m.decls true c.args.depth ∷ m.body c.args.depth ∷ m.tok c.args.depth kind.Ident ∷ m.tok c.args.depth kind.Semicolon ∷ k) ∙ c.in_ok-def.ensures.moves (m.formals c.args.depth ∷ m.tok c.args.depth kind.Semicolon ∷ m.decls true c.args.depth ∷ m.body c.args.depth ∷ m.tok c.args.depth kind.Ident ∷ m.tok c.args.depth kind.Semicolon ∷ k) ∙ c.in_ok-formals.ensures.moves (m.tok c.args.depth kind.Semicolon ∷ m.decls true c.args.depth ∷ m.body c.args.depth ∷ m.tok c.args.depth kind.Ident ∷ m.tok c.args.depth kind.Semicolon ∷ k) ∙ c.in_ok-rest.ensures.moves (m.decls true c.args.depth ∷ m.body c.args.depth ∷ m.tok c.args.depth kind.Ident ∷ m.tok c.args.depth kind.Semicolon ∷ k) ∙ c.in_ok-decls.ensures.moves (m.body c.args.depth ∷ m.tok c.args.depth kind.Ident ∷ m.tok c.args.depth kind.Semicolon ∷ k) ∙ c.in_ok-body.ensures.moves (m.tok c.args.depth kind.Ident ∷ m.tok c.args.depth kind.Semicolon ∷ k) ∙ c.in_ok-end.ensures.moves (m.tok c.args.depth kind.Semicolon ∷ k) ∙ c.in_ok-rest-2.ensures.moves (k)

pub proc-returns-clause-tree : goal.proc-returns-clause-tree
proc-returns-clause-tree t c =
    rw c.in_ok-boxed.ensures (declared.proc (tree.proc_of c.in_ok-place.ensures.tree c.option-initializer.ensures.tree c.in_ok-def.ensures.tree c.in_ok-formals.ensures.tree c.in_ok-rest.ensures.tree c.in_ok-decls.ensures.tree c.in_ok-body.ensures.tree c.in_ok-end.ensures.tree) c.in_ok-rest-2.ensures.tree)

pub type_defs-returns-in_err-def-in-Ident-clause-moves : goal.type_defs-returns-in_err-def-in-Ident-clause-moves
type_defs-returns-in_err-def-in-Ident-clause-moves t c =
    by.exits (λ r. r.1.now) c.from_residual.result (m.type_defs c.args.depth ∷ []) c.from_residual.ensures.1 (by.pass_on (m.then_type c.args.depth kind.Equals ∷ m.tok c.args.depth kind.Semicolon ∷ m.type_defs c.args.depth ∷ []) c.in_err-def-in-Ident.ensures.moves (λ k. c.loop-found.invariant.moves k ∙ by.becomes m.table shallow c.split.ensures.whole (m.type_defs c.args.depth) (m.tok c.args.depth kind.Ident) (m.mark c.args.depth ∷ m.then_type c.args.depth kind.Equals ∷ m.tok c.args.depth kind.Semicolon ∷ m.type_defs c.args.depth ∷ []) (q.word_at (m.type_defs c.args.depth) c.args.depth 0 kind.Ident (m.mark c.args.depth ∷ m.then_type c.args.depth kind.Equals ∷ m.tok c.args.depth kind.Semicolon ∷ m.type_defs c.args.depth ∷ []) refl _ c.in-Ident.is) k))

pub type_defs-returns-in_err-value-in-Ident-clause-moves : goal.type_defs-returns-in_err-value-in-Ident-clause-moves
type_defs-returns-in_err-value-in-Ident-clause-moves t c =
    by.exits (λ r. r.1.now) c.from_residual-in_err-value-in-Ident.result (m.type_defs c.args.depth ∷ []) c.from_residual-in_err-value-in-Ident.ensures.1 (by.pass_on (m.tok c.args.depth kind.Semicolon ∷ m.type_defs c.args.depth ∷ []) c.in_err-value-in-Ident.ensures.moves (λ k. c.loop-found.invariant.moves k ∙ by.becomes m.table shallow c.split.ensures.whole (m.type_defs c.args.depth) (m.tok c.args.depth kind.Ident) (m.mark c.args.depth ∷ m.then_type c.args.depth kind.Equals ∷ m.tok c.args.depth kind.Semicolon ∷ m.type_defs c.args.depth ∷ []) (q.word_at (m.type_defs c.args.depth) c.args.depth 0 kind.Ident (m.mark c.args.depth ∷ m.then_type c.args.depth kind.Equals ∷ m.tok c.args.depth kind.Semicolon ∷ m.type_defs c.args.depth ∷ []) refl _ c.in-Ident.is) k ∙ c.in_ok-def-in-Ident.ensures.moves (m.then_type c.args.depth kind.Equals ∷ m.tok c.args.depth kind.Semicolon ∷ m.type_defs c.args.depth ∷ k)))

pub type_defs-returns-in_err-next-in-Ident-clause-moves : goal.type_defs-returns-in_err-next-in-Ident-clause-moves
type_defs-returns-in_err-next-in-Ident-clause-moves t c =
    by.exits (λ r. r.1.now) c.from_residual-in_err-next-in-Ident.result (m.type_defs c.args.depth ∷ []) c.from_residual-in_err-next-in-Ident.ensures.1 (by.pass_on (m.type_defs c.args.depth ∷ []) c.in_err-next-in-Ident.ensures.moves (λ k. c.loop-found.invariant.moves k ∙ by.becomes m.table shallow c.split.ensures.whole (m.type_defs c.args.depth) (m.tok c.args.depth kind.Ident) (m.mark c.args.depth ∷ m.then_type c.args.depth kind.Equals ∷ m.tok c.args.depth kind.Semicolon ∷ m.type_defs c.args.depth ∷ []) (q.word_at (m.type_defs c.args.depth) c.args.depth 0 kind.Ident (m.mark c.args.depth ∷ m.then_type c.args.depth kind.Equals ∷ m.tok c.args.depth kind.Semicolon ∷ m.type_defs c.args.depth ∷ []) refl _ c.in-Ident.is) k ∙ c.in_ok-def-in-Ident.ensures.moves (m.then_type c.args.depth kind.Equals ∷ m.tok c.args.depth kind.Semicolon ∷ m.type_defs c.args.depth ∷ k) ∙ c.in_ok-value-in-Ident.ensures.moves (m.tok c.args.depth kind.Semicolon ∷ m.type_defs c.args.depth ∷ k)))

pub type_defs-loop-found-preserved : goal.type_defs-loop-found-preserved
type_defs-loop-found-preserved t c =
    record {
      ended = c.in_ok-next-in-Ident.ensures.rest.0;
      shorter = omega (arith, c.in_ok-def-in-Ident.ensures.rest.1, c.in_ok-value-in-Ident.ensures.rest.1, c.in_ok-next-in-Ident.ensures.rest.1, c.loop-found.invariant.shorter);
      tree = λ more end h. rw (c.in_ok-push-in-Ident.ensures.ok, append_assoc) (c.loop-found.invariant.tree _ end (declared.type_def c.in_ok-def-in-Ident.ensures.tree c.in_ok-value-in-Ident.ensures.tree.2 c.in_ok-value-in-Ident.ensures.tree.3 c.in_ok-next-in-Ident.ensures.tree h));
      moves = λ k. c.loop-found.invariant.moves k ∙ by.becomes m.table shallow c.split.ensures.whole (m.type_defs c.args.depth) (m.tok c.args.depth kind.Ident) (m.mark c.args.depth ∷ m.then_type c.args.depth kind.Equals ∷ m.tok c.args.depth kind.Semicolon ∷ m.type_defs c.args.depth ∷ []) (q.word_at (m.type_defs c.args.depth) c.args.depth 0 kind.Ident (m.mark c.args.depth ∷ m.then_type c.args.depth kind.Equals ∷ m.tok c.args.depth kind.Semicolon ∷ m.type_defs c.args.depth ∷ []) refl _ c.in-Ident.is) k ∙ c.in_ok-def-in-Ident.ensures.moves (m.then_type c.args.depth kind.Equals ∷ m.tok c.args.depth kind.Semicolon ∷ m.type_defs c.args.depth ∷ k) ∙ c.in_ok-value-in-Ident.ensures.moves (m.tok c.args.depth kind.Semicolon ∷ m.type_defs c.args.depth ∷ k) ∙ c.in_ok-next-in-Ident.ensures.moves (m.type_defs c.args.depth ∷ k);
    }

pub type_defs-returns-in_default : goal.type_defs-returns-in_default
type_defs-returns-in_default t c =
    record {
      tree = rw (sym (append-nil c.loop-found.found)) (c.loop-found.invariant.tree [] _ declared.no_type_defs);
      rest = (c.loop-found.invariant.ended, c.loop-found.invariant.shorter);
      moves = λ k. c.loop-found.invariant.moves k ∙ by.skips m.table shallow c.split.ensures.whole (m.type_defs c.args.depth) (word_not c.args.depth kind.Ident _ (m.mark c.args.depth ∷ m.then_type c.args.depth kind.Equals ∷ m.tok c.args.depth kind.Semicolon ∷ m.type_defs c.args.depth ∷ []) c.in_default.not-Ident) refl k;
    }

pub var_defs-returns-in_err-one-in-Ident-clause-moves : goal.var_defs-returns-in_err-one-in-Ident-clause-moves
var_defs-returns-in_err-one-in-Ident-clause-moves t c =
    by.exits (λ r. r.1.now) c.from_residual.result (m.var_defs c.args.depth ∷ []) c.from_residual.ensures.1 (by.pass_on (m.tok c.args.depth kind.Semicolon ∷ m.var_defs c.args.depth ∷ []) c.in_err-one-in-Ident.ensures.moves (λ k. c.loop-found.invariant.moves k ∙ by.becomes m.table shallow c.split.ensures.whole (m.var_defs c.args.depth) (m.tok c.args.depth kind.Ident) (m.mark c.args.depth ∷ m.more_defs c.args.depth ∷ m.then_type c.args.depth kind.Colon ∷ m.tok c.args.depth kind.Semicolon ∷ m.var_defs c.args.depth ∷ []) (q.word_at (m.var_defs c.args.depth) c.args.depth 0 kind.Ident (m.mark c.args.depth ∷ m.more_defs c.args.depth ∷ m.then_type c.args.depth kind.Colon ∷ m.tok c.args.depth kind.Semicolon ∷ m.var_defs c.args.depth ∷ []) refl _ c.in-Ident.is) k))

pub var_defs-returns-in_err-next-in-Ident-clause-moves : goal.var_defs-returns-in_err-next-in-Ident-clause-moves
var_defs-returns-in_err-next-in-Ident-clause-moves t c =
    by.exits (λ r. r.1.now) c.from_residual-in_err-next-in-Ident.result (m.var_defs c.args.depth ∷ []) c.from_residual-in_err-next-in-Ident.ensures.1 (by.pass_on (m.var_defs c.args.depth ∷ []) c.in_err-next-in-Ident.ensures.moves (λ k. c.loop-found.invariant.moves k ∙ by.becomes m.table shallow c.split.ensures.whole (m.var_defs c.args.depth) (m.tok c.args.depth kind.Ident) (m.mark c.args.depth ∷ m.more_defs c.args.depth ∷ m.then_type c.args.depth kind.Colon ∷ m.tok c.args.depth kind.Semicolon ∷ m.var_defs c.args.depth ∷ []) (q.word_at (m.var_defs c.args.depth) c.args.depth 0 kind.Ident (m.mark c.args.depth ∷ m.more_defs c.args.depth ∷ m.then_type c.args.depth kind.Colon ∷ m.tok c.args.depth kind.Semicolon ∷ m.var_defs c.args.depth ∷ []) refl _ c.in-Ident.is) k ∙ c.in_ok-one-in-Ident.ensures.moves (m.tok c.args.depth kind.Semicolon ∷ m.var_defs c.args.depth ∷ k)))

pub var_defs-loop-found-preserved : goal.var_defs-loop-found-preserved
var_defs-loop-found-preserved t c =
    record {
      ended = c.in_ok-next-in-Ident.ensures.rest.0;
      shorter = omega (arith, c.in_ok-one-in-Ident.ensures.rest.1, c.in_ok-next-in-Ident.ensures.rest.1, c.loop-found.invariant.shorter);
      tree = λ more end h. rw (c.in_ok-push-in-Ident.ensures.ok, append_assoc) (c.loop-found.invariant.tree _ end (declared.var_defs c.in_ok-one-in-Ident.ensures.tree c.in_ok-next-in-Ident.ensures.tree h));
      moves = λ k. c.loop-found.invariant.moves k ∙ by.becomes m.table shallow c.split.ensures.whole (m.var_defs c.args.depth) (m.tok c.args.depth kind.Ident) (m.mark c.args.depth ∷ m.more_defs c.args.depth ∷ m.then_type c.args.depth kind.Colon ∷ m.tok c.args.depth kind.Semicolon ∷ m.var_defs c.args.depth ∷ []) (q.word_at (m.var_defs c.args.depth) c.args.depth 0 kind.Ident (m.mark c.args.depth ∷ m.more_defs c.args.depth ∷ m.then_type c.args.depth kind.Colon ∷ m.tok c.args.depth kind.Semicolon ∷ m.var_defs c.args.depth ∷ []) refl _ c.in-Ident.is) k ∙ c.in_ok-one-in-Ident.ensures.moves (m.tok c.args.depth kind.Semicolon ∷ m.var_defs c.args.depth ∷ k) ∙ c.in_ok-next-in-Ident.ensures.moves (m.var_defs c.args.depth ∷ k);
    }

pub var_defs-returns-in_default : goal.var_defs-returns-in_default
var_defs-returns-in_default t c =
    record {
      tree = rw (sym (append-nil c.loop-found.found)) (c.loop-found.invariant.tree [] _ declared.no_var_defs);
      rest = (c.loop-found.invariant.ended, c.loop-found.invariant.shorter);
      moves = λ k. c.loop-found.invariant.moves k ∙ by.skips m.table shallow c.split.ensures.whole (m.var_defs c.args.depth) (word_not c.args.depth kind.Ident _ (m.mark c.args.depth ∷ m.more_defs c.args.depth ∷ m.then_type c.args.depth kind.Colon ∷ m.tok c.args.depth kind.Semicolon ∷ m.var_defs c.args.depth ∷ []) c.in_default.not-Ident) refl k;
    }

pub var_def-returns-in_err-defs-clause-moves : goal.var_def-returns-in_err-defs-clause-moves
var_def-returns-in_err-defs-clause-moves t c =
    by.exits (λ r. r.1.now) c.from_residual.result (m.tok c.args.depth kind.Ident ∷ m.mark c.args.depth ∷ m.more_defs c.args.depth ∷ m.then_type c.args.depth kind.Colon ∷ []) c.from_residual.ensures.1 (by.pass_on (m.then_type c.args.depth kind.Colon ∷ []) c.in_err-defs.ensures.moves (λ k. refl))

pub var_def-returns-in_err-of-clause-moves : goal.var_def-returns-in_err-of-clause-moves
var_def-returns-in_err-of-clause-moves t c =
    by.exits (λ r. r.1.now) c.from_residual-in_err-of.result (m.tok c.args.depth kind.Ident ∷ m.mark c.args.depth ∷ m.more_defs c.args.depth ∷ m.then_type c.args.depth kind.Colon ∷ []) c.from_residual-in_err-of.ensures.1 (by.pass_on ([]) c.in_err-of.ensures.moves (λ k. c.in_ok-defs.ensures.moves (m.then_type c.args.depth kind.Colon ∷ k)))

pub var_def-returns-clause-moves : goal.var_def-returns-clause-moves
var_def-returns-clause-moves t c =
    λ k. c.in_ok-defs.ensures.moves (m.then_type c.args.depth kind.Colon ∷ k) ∙ c.in_ok-of.ensures.moves (k)

pub var_def-returns-clause-tree : goal.var_def-returns-clause-tree
var_def-returns-clause-tree t c =
    declared.var_def c.in_ok-defs.ensures.tree c.in_ok-of.ensures.tree.2 c.in_ok-of.ensures.tree.3

pub then_type-returns-in_err-of-clause-moves : goal.then_type-returns-in_err-of-clause-moves
then_type-returns-in_err-of-clause-moves t c =
    by.exits (λ r. r.1.now) c.from_residual.result (m.then_type c.args.depth c.args.kind ∷ []) c.from_residual.ensures.1 (by.pass_on ([]) c.in_err-of.ensures.moves (λ k. by.shifts m.table shallow c.split.ensures.whole (m.then_type c.args.depth c.args.kind) c.args.depth (m.type c.args.depth ∷ []) (ap (m.after (m.then_type c.args.depth c.args.kind)) (same_true the_type (search rules) _ _ (sym c.eq.ensures ∙ c.if-eq.true)) ∙ word_is c.args.depth c.args.kind (m.type c.args.depth ∷ [])) (by.fits_shallow _ c.requires.nested) k))

pub then_type-returns-in_ok-of-clause-moves : goal.then_type-returns-in_ok-of-clause-moves
then_type-returns-in_ok-of-clause-moves t c =
    λ k. by.shifts m.table shallow c.split.ensures.whole (m.then_type c.args.depth c.args.kind) c.args.depth (m.type c.args.depth ∷ []) (ap (m.after (m.then_type c.args.depth c.args.kind)) (same_true the_type (search rules) _ _ (sym c.eq.ensures ∙ c.if-eq.true)) ∙ word_is c.args.depth c.args.kind (m.type c.args.depth ∷ [])) (by.fits_shallow _ c.requires.nested) k ∙ c.in_ok-of.ensures.moves (k)

pub then_type-returns-in_ok-of-clause-tree : goal.then_type-returns-in_ok-of-clause-tree
then_type-returns-in_ok-of-clause-tree t c =
    (c.split.result.0.now.pos, c.split.result.1.now, (rw c.split.ensures.whole (g.word (same_true the_type (search rules) _ _ (sym c.eq.ensures ∙ c.if-eq.true)) (by.fits_shallow _ c.requires.nested))), c.in_ok-of.ensures.tree)

pub then_type-returns-else-eq-clause-moves : goal.then_type-returns-else-eq-clause-moves
then_type-returns-else-eq-clause-moves t c =
    record { refused = (_, by.refuses m.table shallow c.split.ensures.whole (m.then_type c.args.depth c.args.kind) c.args.depth (word_not c.args.depth c.args.kind _ (m.type c.args.depth ∷ []) (same_false the_type _ _ (sym c.eq.ensures ∙ c.if-eq.false))) refl (by.fits_shallow _ c.requires.nested)) }

pub type_expr-returns-then-depth-eq200-clause-moves : goal.type_expr-returns-then-depth-eq200-clause-moves
type_expr-returns-then-depth-eq200-clause-moves t c =
    by.too_deep (m.type c.args.depth) (c.args.depth + 1) c.split.ensures.whole refl (omega arith) (λ z p is. falls.floor (m.type c.args.depth) z p (c.args.depth + 1) is refl)

pub type_expr-returns-in_err-of-in-Ident-clause-moves : goal.type_expr-returns-in_err-of-in-Ident-clause-moves
type_expr-returns-in_err-of-in-Ident-clause-moves t c =
    by.exits (λ r. r.1.now) c.from_residual.result (m.type c.args.depth ∷ []) c.from_residual.ensures.1 (by.pass_on ([]) c.in_err-of-in-Ident.ensures.moves (λ k. by.becomes m.table shallow c.split.ensures.whole (m.type c.args.depth) (m.tok (c.args.depth + 1) kind.Ident) (m.then_name (c.args.depth + 1) kind.Period ∷ []) (q.word_at (m.type c.args.depth) (c.args.depth + 1) 0 kind.Ident (m.then_name (c.args.depth + 1) kind.Period ∷ []) refl _ c.in-Ident.is) k))

pub type_expr-returns-in_ok-of-in-Ident-clause-moves : goal.type_expr-returns-in_ok-of-in-Ident-clause-moves
type_expr-returns-in_ok-of-in-Ident-clause-moves t c =
    λ k. by.becomes m.table shallow c.split.ensures.whole (m.type c.args.depth) (m.tok (c.args.depth + 1) kind.Ident) (m.then_name (c.args.depth + 1) kind.Period ∷ []) (q.word_at (m.type c.args.depth) (c.args.depth + 1) 0 kind.Ident (m.then_name (c.args.depth + 1) kind.Period ∷ []) refl _ c.in-Ident.is) k ∙ c.in_ok-of-in-Ident.ensures.moves (k)

pub type_expr-returns-in_ok-of-in-Ident-clause-tree : goal.type_expr-returns-in_ok-of-in-Ident-clause-tree
type_expr-returns-in_ok-of-in-Ident-clause-tree t c =
    declared.named c.in_ok-of-in-Ident.ensures.tree

pub type_expr-returns-in_err-all-in-KwArray-clause-moves : goal.type_expr-returns-in_err-all-in-KwArray-clause-moves
type_expr-returns-in_err-all-in-KwArray-clause-moves t c =
    by.exits (λ r. r.1.now) c.from_residual-in_err-all-in-KwArray.result (m.type c.args.depth ∷ []) c.from_residual-in_err-all-in-KwArray.ensures.1 (by.pass_on (m.then_type (c.args.depth + 1) kind.KwOf ∷ []) c.in_err-all-in-KwArray.ensures.moves (λ k. by.shifts m.table shallow c.split.ensures.whole (m.type c.args.depth) (c.args.depth + 1) (m.lengths (c.args.depth + 1) ∷ m.then_type (c.args.depth + 1) kind.KwOf ∷ []) (ap (m.after (m.type c.args.depth)) c.in-KwArray.is) (by.fits_shallow (c.args.depth + 1) (omega arith)) k))

pub type_expr-returns-in_err-of-in-KwArray-clause-moves : goal.type_expr-returns-in_err-of-in-KwArray-clause-moves
type_expr-returns-in_err-of-in-KwArray-clause-moves t c =
    by.exits (λ r. r.1.now) c.from_residual-in_err-of-in-KwArray.result (m.type c.args.depth ∷ []) c.from_residual-in_err-of-in-KwArray.ensures.1 (by.pass_on ([]) c.in_err-of-in-KwArray.ensures.moves (λ k. by.shifts m.table shallow c.split.ensures.whole (m.type c.args.depth) (c.args.depth + 1) (m.lengths (c.args.depth + 1) ∷ m.then_type (c.args.depth + 1) kind.KwOf ∷ []) (ap (m.after (m.type c.args.depth)) c.in-KwArray.is) (by.fits_shallow (c.args.depth + 1) (omega arith)) k ∙ c.in_ok-all-in-KwArray.ensures.moves (m.then_type (c.args.depth + 1) kind.KwOf ∷ k)))

pub type_expr-returns-in_ok-boxed-in-KwArray-clause-moves : goal.type_expr-returns-in_ok-boxed-in-KwArray-clause-moves
type_expr-returns-in_ok-boxed-in-KwArray-clause-moves t c =
    λ k. by.shifts m.table shallow c.split.ensures.whole (m.type c.args.depth) (c.args.depth + 1) (m.lengths (c.args.depth + 1) ∷ m.then_type (c.args.depth + 1) kind.KwOf ∷ []) (ap (m.after (m.type c.args.depth)) c.in-KwArray.is) (by.fits_shallow (c.args.depth + 1) (omega arith)) k ∙ c.in_ok-all-in-KwArray.ensures.moves (m.then_type (c.args.depth + 1) kind.KwOf ∷ k) ∙ c.in_ok-of-in-KwArray.ensures.moves (k)

pub type_expr-returns-in_ok-boxed-in-KwArray-clause-tree : goal.type_expr-returns-in_ok-boxed-in-KwArray-clause-tree
type_expr-returns-in_ok-boxed-in-KwArray-clause-tree t c =
    rw (c.split.ensures.whole, c.in_ok-boxed-in-KwArray.ensures) (tree.array_of (g.word c.in-KwArray.is (by.fits_shallow (c.args.depth + 1) (omega arith))) c.in_ok-all-in-KwArray.ensures.tree c.in_ok-of-in-KwArray.ensures.tree.2 c.in_ok-of-in-KwArray.ensures.tree.3)

pub type_expr-returns-in-KwRecord-clause-moves : goal.type_expr-returns-in-KwRecord-clause-moves
type_expr-returns-in-KwRecord-clause-moves t c =
    q.hands_on (λ r. r.1.now) c.record.result (m.tok (c.args.depth + 1) kind.KwRecord ∷ m.base (c.args.depth + 1) ∷ m.fields (c.args.depth + 1) ∷ m.more_fields (c.args.depth + 1) ∷ m.tok (c.args.depth + 1) kind.KwEnd ∷ []) (m.type c.args.depth ∷ []) c.args.tokens.now c.args.tokens.now c.record.ensures.moves
    (λ k. by.becomes m.table shallow c.split.ensures.whole (m.type c.args.depth) (m.tok (c.args.depth + 1) kind.KwRecord) (m.base (c.args.depth + 1) ∷ m.fields (c.args.depth + 1) ∷ m.more_fields (c.args.depth + 1) ∷ m.tok (c.args.depth + 1) kind.KwEnd ∷ []) (q.word_at (m.type c.args.depth) (c.args.depth + 1) 0 kind.KwRecord (m.base (c.args.depth + 1) ∷ m.fields (c.args.depth + 1) ∷ m.more_fields (c.args.depth + 1) ∷ m.tok (c.args.depth + 1) kind.KwEnd ∷ []) refl _ c.in-KwRecord.is) k)

pub type_expr-returns-in-KwObject-clause-moves : goal.type_expr-returns-in-KwObject-clause-moves
type_expr-returns-in-KwObject-clause-moves t c =
    q.hands_on (λ r. r.1.now) c.object.result (m.tok (c.args.depth + 1) kind.KwObject ∷ m.base (c.args.depth + 1) ∷ m.decls false (c.args.depth + 1) ∷ m.body (c.args.depth + 1) ∷ m.option (c.args.depth + 1) kind.Ident ∷ []) (m.type c.args.depth ∷ []) c.args.tokens.now c.args.tokens.now c.object.ensures.moves
    (λ k. by.becomes m.table shallow c.split.ensures.whole (m.type c.args.depth) (m.tok (c.args.depth + 1) kind.KwObject) (m.base (c.args.depth + 1) ∷ m.decls false (c.args.depth + 1) ∷ m.body (c.args.depth + 1) ∷ m.option (c.args.depth + 1) kind.Ident ∷ []) (q.word_at (m.type c.args.depth) (c.args.depth + 1) 0 kind.KwObject (m.base (c.args.depth + 1) ∷ m.decls false (c.args.depth + 1) ∷ m.body (c.args.depth + 1) ∷ m.option (c.args.depth + 1) kind.Ident ∷ []) refl _ c.in-KwObject.is) k)

pub type_expr-returns-in_err-to-in-KwPointer-clause-moves : goal.type_expr-returns-in_err-to-in-KwPointer-clause-moves
type_expr-returns-in_err-to-in-KwPointer-clause-moves t c =
    by.exits (λ r. r.1.now) c.from_residual-in_err-to-in-KwPointer.result (m.type c.args.depth ∷ []) c.from_residual-in_err-to-in-KwPointer.ensures.1 (by.pass_on ([]) c.in_err-to-in-KwPointer.ensures.moves (λ k. by.shifts m.table shallow c.split.ensures.whole (m.type c.args.depth) (c.args.depth + 1) (m.then_type (c.args.depth + 1) kind.KwTo ∷ []) (ap (m.after (m.type c.args.depth)) c.in-KwPointer.is) (by.fits_shallow (c.args.depth + 1) (omega arith)) k))

pub type_expr-returns-in_ok-new-in-KwPointer-clause-moves : goal.type_expr-returns-in_ok-new-in-KwPointer-clause-moves
type_expr-returns-in_ok-new-in-KwPointer-clause-moves t c =
    λ k. by.shifts m.table shallow c.split.ensures.whole (m.type c.args.depth) (c.args.depth + 1) (m.then_type (c.args.depth + 1) kind.KwTo ∷ []) (ap (m.after (m.type c.args.depth)) c.in-KwPointer.is) (by.fits_shallow (c.args.depth + 1) (omega arith)) k ∙ c.in_ok-to-in-KwPointer.ensures.moves (k)

pub type_expr-returns-in_ok-new-in-KwPointer-clause-tree : goal.type_expr-returns-in_ok-new-in-KwPointer-clause-tree
type_expr-returns-in_ok-new-in-KwPointer-clause-tree t c =
    rw (c.split.ensures.whole, c.in_ok-new-in-KwPointer.ensures) (declared.pointer (g.word c.in-KwPointer.is (by.fits_shallow (c.args.depth + 1) (omega arith))) c.in_ok-to-in-KwPointer.ensures.tree.2 c.in_ok-to-in-KwPointer.ensures.tree.3)

pub type_expr-returns-in_err-flag-in-KwProcedure-clause-moves : goal.type_expr-returns-in_err-flag-in-KwProcedure-clause-moves
type_expr-returns-in_err-flag-in-KwProcedure-clause-moves t c =
    by.exits (λ r. r.1.now) c.from_residual-in_err-flag-in-KwProcedure.result (m.type c.args.depth ∷ []) c.from_residual-in_err-flag-in-KwProcedure.ensures.1 (by.pass_on (m.formals (c.args.depth + 1) ∷ []) c.in_err-flag-in-KwProcedure.ensures.moves (λ k. by.shifts m.table shallow c.split.ensures.whole (m.type c.args.depth) (c.args.depth + 1) (m.flag (c.args.depth + 1) ∷ m.formals (c.args.depth + 1) ∷ []) (ap (m.after (m.type c.args.depth)) c.in-KwProcedure.is) (by.fits_shallow (c.args.depth + 1) (omega arith)) k))

pub type_expr-returns-in_err-formals-in-KwProcedure-clause-moves : goal.type_expr-returns-in_err-formals-in-KwProcedure-clause-moves
type_expr-returns-in_err-formals-in-KwProcedure-clause-moves t c =
    by.exits (λ r. r.1.now) c.from_residual-in_err-formals-in-KwProcedure.result (m.type c.args.depth ∷ []) c.from_residual-in_err-formals-in-KwProcedure.ensures.1 (by.pass_on ([]) c.in_err-formals-in-KwProcedure.ensures.moves (λ k. by.shifts m.table shallow c.split.ensures.whole (m.type c.args.depth) (c.args.depth + 1) (m.flag (c.args.depth + 1) ∷ m.formals (c.args.depth + 1) ∷ []) (ap (m.after (m.type c.args.depth)) c.in-KwProcedure.is) (by.fits_shallow (c.args.depth + 1) (omega arith)) k ∙ c.in_ok-flag-in-KwProcedure.ensures.moves (m.formals (c.args.depth + 1) ∷ k)))

pub type_expr-returns-in_ok-new-in-KwProcedure-clause-moves : goal.type_expr-returns-in_ok-new-in-KwProcedure-clause-moves
type_expr-returns-in_ok-new-in-KwProcedure-clause-moves t c =
    λ k. by.shifts m.table shallow c.split.ensures.whole (m.type c.args.depth) (c.args.depth + 1) (m.flag (c.args.depth + 1) ∷ m.formals (c.args.depth + 1) ∷ []) (ap (m.after (m.type c.args.depth)) c.in-KwProcedure.is) (by.fits_shallow (c.args.depth + 1) (omega arith)) k ∙ c.in_ok-flag-in-KwProcedure.ensures.moves (m.formals (c.args.depth + 1) ∷ k) ∙ c.in_ok-formals-in-KwProcedure.ensures.moves (k)

pub type_expr-returns-in_ok-new-in-KwProcedure-clause-tree : goal.type_expr-returns-in_ok-new-in-KwProcedure-clause-tree
type_expr-returns-in_ok-new-in-KwProcedure-clause-tree t c =
    rw (c.split.ensures.whole, c.in_ok-new-in-KwProcedure.ensures) (declared.procedure (g.word c.in-KwProcedure.is (by.fits_shallow (c.args.depth + 1) (omega arith))) c.in_ok-flag-in-KwProcedure.ensures.tree c.in_ok-formals-in-KwProcedure.ensures.tree)

pub type_expr-returns-in_default : goal.type_expr-returns-in_default
type_expr-returns-in_default t c =
    record { tree = tt; rest = tt; moves = record { refused = (_, by.refuses m.table shallow c.split.ensures.whole (m.type c.args.depth) (c.args.depth + 1) (q.none_type c.args.depth _ c.in_default.not-Ident c.in_default.not-KwArray c.in_default.not-KwRecord c.in_default.not-KwPointer c.in_default.not-KwProcedure c.in_default.not-KwObject) refl (by.fits_shallow (c.args.depth + 1) (omega arith))) } }

pub record-returns-in_err-place-clause-moves : goal.record-returns-in_err-place-clause-moves
record-returns-in_err-place-clause-moves t c =
    by.exits (λ r. r.1.now) c.from_residual.result (m.tok (c.args.depth + 1) kind.KwRecord ∷ m.base (c.args.depth + 1) ∷ m.fields (c.args.depth + 1) ∷ m.more_fields (c.args.depth + 1) ∷ m.tok (c.args.depth + 1) kind.KwEnd ∷ []) c.from_residual.ensures.1 (by.pass_on (m.base (c.args.depth + 1) ∷ m.fields (c.args.depth + 1) ∷ m.more_fields (c.args.depth + 1) ∷ m.tok (c.args.depth + 1) kind.KwEnd ∷ []) c.in_err-place.ensures.moves (λ k. refl))

pub record-returns-in_err-base-clause-moves : goal.record-returns-in_err-base-clause-moves
record-returns-in_err-base-clause-moves t c =
    by.exits (λ r. r.1.now) c.from_residual-in_err-base.result (m.tok (c.args.depth + 1) kind.KwRecord ∷ m.base (c.args.depth + 1) ∷ m.fields (c.args.depth + 1) ∷ m.more_fields (c.args.depth + 1) ∷ m.tok (c.args.depth + 1) kind.KwEnd ∷ []) c.from_residual-in_err-base.ensures.1 (by.pass_on (m.fields (c.args.depth + 1) ∷ m.more_fields (c.args.depth + 1) ∷ m.tok (c.args.depth + 1) kind.KwEnd ∷ []) c.in_err-base.ensures.moves (λ k. c.in_ok-place.ensures.moves (m.base (c.args.depth + 1) ∷ m.fields (c.args.depth + 1) ∷ m.more_fields (c.args.depth + 1) ∷ m.tok (c.args.depth + 1) kind.KwEnd ∷ k)))

pub record-returns-in_err-all-clause-moves : goal.record-returns-in_err-all-clause-moves
record-returns-in_err-all-clause-moves t c =
    by.exits (λ r. r.1.now) c.from_residual-in_err-all.result (m.tok (c.args.depth + 1) kind.KwRecord ∷ m.base (c.args.depth + 1) ∷ m.fields (c.args.depth + 1) ∷ m.more_fields (c.args.depth + 1) ∷ m.tok (c.args.depth + 1) kind.KwEnd ∷ []) c.from_residual-in_err-all.ensures.1 (by.pass_on (m.tok (c.args.depth + 1) kind.KwEnd ∷ []) c.in_err-all.ensures.moves (λ k. c.in_ok-place.ensures.moves (m.base (c.args.depth + 1) ∷ m.fields (c.args.depth + 1) ∷ m.more_fields (c.args.depth + 1) ∷ m.tok (c.args.depth + 1) kind.KwEnd ∷ k) ∙ c.in_ok-base.ensures.moves (m.fields (c.args.depth + 1) ∷ m.more_fields (c.args.depth + 1) ∷ m.tok (c.args.depth + 1) kind.KwEnd ∷ k)))

pub record-returns-in_err-rest-clause-moves : goal.record-returns-in_err-rest-clause-moves
record-returns-in_err-rest-clause-moves t c =
    by.exits (λ r. r.1.now) c.from_residual-in_err-rest.result (m.tok (c.args.depth + 1) kind.KwRecord ∷ m.base (c.args.depth + 1) ∷ m.fields (c.args.depth + 1) ∷ m.more_fields (c.args.depth + 1) ∷ m.tok (c.args.depth + 1) kind.KwEnd ∷ []) c.from_residual-in_err-rest.ensures.1 (by.pass_on ([]) c.in_err-rest.ensures.moves (λ k. c.in_ok-place.ensures.moves (m.base (c.args.depth + 1) ∷ m.fields (c.args.depth + 1) ∷ m.more_fields (c.args.depth + 1) ∷ m.tok (c.args.depth + 1) kind.KwEnd ∷ k) ∙ c.in_ok-base.ensures.moves (m.fields (c.args.depth + 1) ∷ m.more_fields (c.args.depth + 1) ∷ m.tok (c.args.depth + 1) kind.KwEnd ∷ k) ∙ c.in_ok-all.ensures.moves (m.tok (c.args.depth + 1) kind.KwEnd ∷ k)))

pub record-returns-clause-moves : goal.record-returns-clause-moves
record-returns-clause-moves t c =
    λ k. c.in_ok-place.ensures.moves (m.base (c.args.depth + 1) ∷ m.fields (c.args.depth + 1) ∷ m.more_fields (c.args.depth + 1) ∷ m.tok (c.args.depth + 1) kind.KwEnd ∷ k) ∙ c.in_ok-base.ensures.moves (m.fields (c.args.depth + 1) ∷ m.more_fields (c.args.depth + 1) ∷ m.tok (c.args.depth + 1) kind.KwEnd ∷ k) ∙ c.in_ok-all.ensures.moves (m.tok (c.args.depth + 1) kind.KwEnd ∷ k) ∙ c.in_ok-rest.ensures.moves (k)

pub record-returns-clause-tree : goal.record-returns-clause-tree
record-returns-clause-tree t c =
    tree.record_of c.in_ok-place.ensures.tree c.in_ok-base.ensures.tree c.in_ok-all.ensures.tree c.in_ok-rest.ensures.tree

pub object-returns-in_err-place-clause-moves : goal.object-returns-in_err-place-clause-moves
object-returns-in_err-place-clause-moves t c =
    by.exits (λ r. r.1.now) c.from_residual.result (m.tok (c.args.depth + 1) kind.KwObject ∷ m.base (c.args.depth + 1) ∷ m.decls false (c.args.depth + 1) ∷ m.body (c.args.depth + 1) ∷ m.option (c.args.depth + 1) kind.Ident ∷ []) c.from_residual.ensures.1 (by.pass_on (m.base (c.args.depth + 1) ∷ m.decls false (c.args.depth + 1) ∷ m.body (c.args.depth + 1) ∷ m.option (c.args.depth + 1) kind.Ident ∷ []) c.in_err-place.ensures.moves (λ k. refl))

pub object-returns-in_err-base-clause-moves : goal.object-returns-in_err-base-clause-moves
object-returns-in_err-base-clause-moves t c =
    by.exits (λ r. r.1.now) c.from_residual-in_err-base.result (m.tok (c.args.depth + 1) kind.KwObject ∷ m.base (c.args.depth + 1) ∷ m.decls false (c.args.depth + 1) ∷ m.body (c.args.depth + 1) ∷ m.option (c.args.depth + 1) kind.Ident ∷ []) c.from_residual-in_err-base.ensures.1 (by.pass_on (m.decls false (c.args.depth + 1) ∷ m.body (c.args.depth + 1) ∷ m.option (c.args.depth + 1) kind.Ident ∷ []) c.in_err-base.ensures.moves (λ k. c.in_ok-place.ensures.moves (m.base (c.args.depth + 1) ∷ m.decls false (c.args.depth + 1) ∷ m.body (c.args.depth + 1) ∷ m.option (c.args.depth + 1) kind.Ident ∷ k)))

pub object-returns-in_err-all-clause-moves : goal.object-returns-in_err-all-clause-moves
object-returns-in_err-all-clause-moves t c =
    by.exits (λ r. r.1.now) c.from_residual-in_err-all.result (m.tok (c.args.depth + 1) kind.KwObject ∷ m.base (c.args.depth + 1) ∷ m.decls false (c.args.depth + 1) ∷ m.body (c.args.depth + 1) ∷ m.option (c.args.depth + 1) kind.Ident ∷ []) c.from_residual-in_err-all.ensures.1 (by.pass_on (m.body (c.args.depth + 1) ∷ m.option (c.args.depth + 1) kind.Ident ∷ []) c.in_err-all.ensures.moves (λ k. c.in_ok-place.ensures.moves (m.base (c.args.depth + 1) ∷ m.decls false (c.args.depth + 1) ∷ m.body (c.args.depth + 1) ∷ m.option (c.args.depth + 1) kind.Ident ∷ k) ∙ c.in_ok-base.ensures.moves (m.decls false (c.args.depth + 1) ∷ m.body (c.args.depth + 1) ∷ m.option (c.args.depth + 1) kind.Ident ∷ k)))

pub object-returns-in_err-body-clause-moves : goal.object-returns-in_err-body-clause-moves
object-returns-in_err-body-clause-moves t c =
    by.exits (λ r. r.1.now) c.from_residual-in_err-body.result (m.tok (c.args.depth + 1) kind.KwObject ∷ m.base (c.args.depth + 1) ∷ m.decls false (c.args.depth + 1) ∷ m.body (c.args.depth + 1) ∷ m.option (c.args.depth + 1) kind.Ident ∷ []) c.from_residual-in_err-body.ensures.1 (by.pass_on (m.option (c.args.depth + 1) kind.Ident ∷ []) c.in_err-body.ensures.moves (λ k. c.in_ok-place.ensures.moves (m.base (c.args.depth + 1) ∷ m.decls false (c.args.depth + 1) ∷ m.body (c.args.depth + 1) ∷ m.option (c.args.depth + 1) kind.Ident ∷ k) ∙ c.in_ok-base.ensures.moves (m.decls false (c.args.depth + 1) ∷ m.body (c.args.depth + 1) ∷ m.option (c.args.depth + 1) kind.Ident ∷ k) ∙ c.in_ok-all.ensures.moves (m.body (c.args.depth + 1) ∷ m.option (c.args.depth + 1) kind.Ident ∷ k)))

pub object-returns-in_err-end-clause-moves : goal.object-returns-in_err-end-clause-moves
object-returns-in_err-end-clause-moves t c =
    by.exits (λ r. r.1.now) c.from_residual-in_err-end.result (m.tok (c.args.depth + 1) kind.KwObject ∷ m.base (c.args.depth + 1) ∷ m.decls false (c.args.depth + 1) ∷ m.body (c.args.depth + 1) ∷ m.option (c.args.depth + 1) kind.Ident ∷ []) c.from_residual-in_err-end.ensures.1 (by.pass_on ([]) c.in_err-end.ensures.moves (λ k. c.in_ok-place.ensures.moves (m.base (c.args.depth + 1) ∷ m.decls false (c.args.depth + 1) ∷ m.body (c.args.depth + 1) ∷ m.option (c.args.depth + 1) kind.Ident ∷ k) ∙ c.in_ok-base.ensures.moves (m.decls false (c.args.depth + 1) ∷ m.body (c.args.depth + 1) ∷ m.option (c.args.depth + 1) kind.Ident ∷ k) ∙ c.in_ok-all.ensures.moves (m.body (c.args.depth + 1) ∷ m.option (c.args.depth + 1) kind.Ident ∷ k) ∙ c.in_ok-body.ensures.moves (m.option (c.args.depth + 1) kind.Ident ∷ k)))

pub object-returns-clause-moves : goal.object-returns-clause-moves
object-returns-clause-moves t c =
    λ k. c.in_ok-place.ensures.moves (m.base (c.args.depth + 1) ∷ m.decls false (c.args.depth + 1) ∷ m.body (c.args.depth + 1) ∷ m.option (c.args.depth + 1) kind.Ident ∷ k) ∙ c.in_ok-base.ensures.moves (m.decls false (c.args.depth + 1) ∷ m.body (c.args.depth + 1) ∷ m.option (c.args.depth + 1) kind.Ident ∷ k) ∙ c.in_ok-all.ensures.moves (m.body (c.args.depth + 1) ∷ m.option (c.args.depth + 1) kind.Ident ∷ k) ∙ c.in_ok-body.ensures.moves (m.option (c.args.depth + 1) kind.Ident ∷ k) ∙ c.in_ok-end.ensures.moves (k)

pub object-returns-clause-tree : goal.object-returns-clause-tree
object-returns-clause-tree t c =
    declared.object c.in_ok-place.ensures.tree c.in_ok-base.ensures.tree c.in_ok-all.ensures.tree c.in_ok-body.ensures.tree c.in_ok-end.ensures.tree

pub field_list-returns-in_err-first-clause-moves : goal.field_list-returns-in_err-first-clause-moves
field_list-returns-in_err-first-clause-moves t c =
    by.exits (λ r. r.1.now) c.from_residual.result (m.fields c.args.depth ∷ m.more_fields c.args.depth ∷ []) c.from_residual.ensures.1 (by.pass_on (m.more_fields c.args.depth ∷ []) c.in_err-first.ensures.moves (λ k. refl))

pub field_list-loop-found-init : goal.field_list-loop-found-init
field_list-loop-found-init t c =
    record {
      ended = c.in_ok-first.ensures.rest.0;
      shorter = omega (arith, c.in_ok-first.ensures.rest.1);
      tree = λ more end h. rw (c.in_ok-push.ensures.ok, c.new-found.ensures) (part.field_list c.in_ok-first.ensures.tree h);
      moves = λ k. c.in_ok-first.ensures.moves (m.more_fields c.args.depth ∷ k);
    }

pub field_list-returns-in_err-one-in-Semicolon-clause-moves : goal.field_list-returns-in_err-one-in-Semicolon-clause-moves
field_list-returns-in_err-one-in-Semicolon-clause-moves t c =
    by.exits (λ r. r.1.now) c.from_residual-in_err-one-in-Semicolon.result (m.fields c.args.depth ∷ m.more_fields c.args.depth ∷ []) c.from_residual-in_err-one-in-Semicolon.ensures.1 (by.pass_on (m.more_fields c.args.depth ∷ []) c.in_err-one-in-Semicolon.ensures.moves (λ k. c.loop-found.invariant.moves k ∙ by.shifts m.table shallow c.split.ensures.whole (m.more_fields c.args.depth) c.args.depth (m.fields c.args.depth ∷ m.more_fields c.args.depth ∷ []) (ap (m.after (m.more_fields c.args.depth)) c.in-Semicolon.is) (by.fits_shallow _ c.requires.nested) k))

pub field_list-loop-found-preserved : goal.field_list-loop-found-preserved
field_list-loop-found-preserved t c =
    record {
      ended = c.in_ok-one-in-Semicolon.ensures.rest.0;
      shorter = omega (arith, ap length c.split.ensures.whole, c.in_ok-one-in-Semicolon.ensures.rest.1, c.loop-found.invariant.shorter);
      tree = λ more end h. rw (c.in_ok-push-in-Semicolon.ensures.ok, append_assoc) (c.loop-found.invariant.tree _ end (rw c.split.ensures.whole (declared.another_fields (g.word c.in-Semicolon.is (by.fits_shallow _ c.requires.nested)) c.in_ok-one-in-Semicolon.ensures.tree h)));
      moves = λ k. c.loop-found.invariant.moves k ∙ by.shifts m.table shallow c.split.ensures.whole (m.more_fields c.args.depth) c.args.depth (m.fields c.args.depth ∷ m.more_fields c.args.depth ∷ []) (ap (m.after (m.more_fields c.args.depth)) c.in-Semicolon.is) (by.fits_shallow _ c.requires.nested) k ∙ c.in_ok-one-in-Semicolon.ensures.moves (m.more_fields c.args.depth ∷ k);
    }

pub field_list-returns-in_default : goal.field_list-returns-in_default
field_list-returns-in_default t c =
    record {
      tree = rw (sym (append-nil c.loop-found.found)) (c.loop-found.invariant.tree [] _ declared.no_more_fields);
      rest = (c.loop-found.invariant.ended, c.loop-found.invariant.shorter);
      moves = λ k. c.loop-found.invariant.moves k ∙ by.skips m.table shallow c.split.ensures.whole (m.more_fields c.args.depth) (word_not c.args.depth kind.Semicolon _ (m.fields c.args.depth ∷ m.more_fields c.args.depth ∷ []) c.in_default.not-Semicolon) refl k;
    }

pub fields-returns-in_err-one-in-Ident-clause-moves : goal.fields-returns-in_err-one-in-Ident-clause-moves
fields-returns-in_err-one-in-Ident-clause-moves t c =
    by.exits (λ r. r.1.now) c.from_residual.result (m.fields c.args.depth ∷ []) c.from_residual.ensures.1 (by.pass_on ([]) c.in_err-one-in-Ident.ensures.moves (λ k. by.becomes m.table shallow c.split.ensures.whole (m.fields c.args.depth) (m.tok c.args.depth kind.Ident) (m.mark c.args.depth ∷ m.more_defs c.args.depth ∷ m.then_type c.args.depth kind.Colon ∷ []) (q.word_at (m.fields c.args.depth) c.args.depth 0 kind.Ident (m.mark c.args.depth ∷ m.more_defs c.args.depth ∷ m.then_type c.args.depth kind.Colon ∷ []) refl _ c.in-Ident.is) k))

pub fields-returns-in_ok-one-in-Ident-clause-moves : goal.fields-returns-in_ok-one-in-Ident-clause-moves
fields-returns-in_ok-one-in-Ident-clause-moves t c =
    λ k. by.becomes m.table shallow c.split.ensures.whole (m.fields c.args.depth) (m.tok c.args.depth kind.Ident) (m.mark c.args.depth ∷ m.more_defs c.args.depth ∷ m.then_type c.args.depth kind.Colon ∷ []) (q.word_at (m.fields c.args.depth) c.args.depth 0 kind.Ident (m.mark c.args.depth ∷ m.more_defs c.args.depth ∷ m.then_type c.args.depth kind.Colon ∷ []) refl _ c.in-Ident.is) k ∙ c.in_ok-one-in-Ident.ensures.moves (k)

pub fields-returns-in_ok-one-in-Ident-clause-tree : goal.fields-returns-in_ok-one-in-Ident-clause-tree
fields-returns-in_ok-one-in-Ident-clause-tree t c =
    declared.fields c.in_ok-one-in-Ident.ensures.tree

pub fields-returns-in_default : goal.fields-returns-in_default
fields-returns-in_default t c =
    record {
      tree = declared.no_fields;
      rest = (c.requires.ended, omega arith);
      moves = λ k. by.skips m.table shallow c.split.ensures.whole (m.fields c.args.depth) (word_not c.args.depth kind.Ident _ (m.mark c.args.depth ∷ m.more_defs c.args.depth ∷ m.then_type c.args.depth kind.Colon ∷ []) c.in_default.not-Ident) refl k;
    }
