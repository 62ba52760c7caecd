use Rattle.std.proofs.Common.{◌≡◌, ◌+◌, ◌-◌, ◌++◌, length, replicate, ap, ◌∙◌, arith}
use Rattle.std.specs.Prelude.{pos}
use Rattle.aos_code.specs.declared.instr.Cell.TheVariants.{Num}
use Rattle.aos_store.proofs.Views.{frame_roomier}
use Rattle.aos_store.proofs.frames.Frame.reserve_keep.Goals as goal

pub returns-clause-same : goal.returns-clause-same
returns-clause-same c =
    let f = c.args.self.now in
    let more = c.in-Some.keeps - (c.len.result - c.len-2.result) in
    let same : length f.cells.items + more - c.in-Some.keeps ≡ length f.cells.items - f.keeps = omega arith in
    frame_roomier f c.fill.new.cells c.in-Some.keeps more (c.fill.ensures ∙ ap (λ xs. xs ++ replicate more (Num (pos 0))) c.in_ok-reserve.ensures.items) same
