use Rattle.std.proofs.Common.{◌<◌, length, ◌∙◌, arith}
use Rattle.aos_dispatch.proofs.Tables.{methods_more, methods_end}
use Rattle.aos_dispatch.proofs.methods.put_methods.Goals as goal

pub loop-method-preserved : goal.loop-method-preserved
loop-method-preserved c =
    let l = c.loop-method in
    let lt : l.method-index < length c.args.methods.now = omega arith in
    methods_more c.args.methods.now l.method-index c.method-item.result l.number _ l.table.items _ lt c.method-item.is c.in_ok-number.ensures c.in_ok-put_method.ensures ∙ l.invariant

pub returns : goal.returns
returns c =
    let l = c.loop-method in
    methods_end c.args.methods.now l.method-index l.number l.table.items c.loop-method-test.false ∙ l.invariant
