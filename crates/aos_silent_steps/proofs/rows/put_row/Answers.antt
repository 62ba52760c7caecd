use Rattle.std.proofs.Common.{◌≡◌, ◌+◌, ◌-◌, ◌++◌, length, set, take, drop, reverse, ap, ◌∙◌, arith}
use Rattle.aos_silent_steps.proofs.Topmost.{row_put}
use Rattle.aos_silent_steps.proofs.rows.put_row.Goals as goal

pub returns-clause-operands : goal.returns-clause-operands
returns-clause-operands c =
    let xs = c.args.stack.now.items in
    let n = c.args.lengths in
    let at = c.len.result - (n + 2) in
    let end : c.len-2.result - 1 ≡ length xs - 1 = omega arith in
    let mid : c.remove.new.self.items ≡ take (at + 1) (take (length xs - 1) xs) ++ drop (at + 1 + 1) (take (length xs - 1) xs) =
    c.remove.ensures.by_index.2 ∙ ap (λ ys. take (at + 1) ys ++ drop (at + 1 + 1) ys) (c.truncate.ensures.items ∙ ap (λ m. take m xs) end) in
    ap (λ ys. reverse (set ys at c.args.place)) mid ∙ row_put xs n at c.args.place (omega arith) (omega arith) (omega arith)
