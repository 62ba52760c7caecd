use Rattle.std.proofs.Common.{◌≡◌, ◌+◌, [], ◌++◌, length, ap, ◌∙◌, refl}
use Rattle.std.proofs.lemmas.Result.{on_ok_weaker}
use Rattle.aos_emit_expr.specs.Scope.{program_of, own_of}
use Rattle.aos_emit_expr.specs.Adds.{source_code}
use Rattle.aos_emit_expr.specs.Back.{back_source}
use Rattle.aos_emit_expr.specs.Forwards.{forwards}
use Rattle.aos_emit_expr.proofs.Forth.{source_forth, whole}
use Rattle.aos_emit_expr.proofs.emit.emit_source.Goals as goal

pub returns : goal.returns
returns c =
    let code = c.args.code.now.items in
    let p = program_of c.args.scope.now in
    let own = own_of c.args.scope.now in
    let source = c.args.source in
    let all : c.emit_back.new.code.items ≡ back_source p own source [] = c.in_ok-emit_back.ensures ∙ ap (back_source p own source) c.new-back.ensures.items in
    let turned = whole (source_code p own source) (back_source p own source) (length code) _ (source_forth p own source) refl in
    on_ok_weaker c.put_forwards.result
    (λ e. e ∙ ap (λ l. code ++ forwards (length code + length l) l) all ∙ ap (λ l. code ++ l) turned) c.put_forwards.ensures
