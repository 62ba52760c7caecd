use Rattle.std.proofs.Common.{arith}
use Rattle.aos.proofs.Pieces.{part_of_text, piece_of_text}
use Rattle.aos.proofs.write.put_text.Goals as goal

pub returns-in-Failed-clause-part : goal.returns-in-Failed-clause-part
returns-in-Failed-clause-part g c =
    part_of_text (g.S.Sink.written c.args.sink.now) (g.S.Sink.written c.loop-at.sink) (g.S.Sink.written c.put.new.self) c.args.text.now c.loop-at.at c.piece_end-end.result c.loop-at.invariant.0 c.loop-at.invariant.2 c.in-Failed.ensures.part

pub loop-at-preserved : goal.loop-at-preserved
loop-at-preserved g c = (
  c.piece_end-end.ensures.1,
  omega (arith, c.loop-at.invariant.1, c.in-Done.ensures.faults_stay),
  piece_of_text (g.S.Sink.written c.args.sink.now) (g.S.Sink.written c.loop-at.sink) (g.S.Sink.written c.put.new.self) c.args.text.now c.loop-at.at c.piece_end-end.result c.piece_end-end.ensures.0 c.piece_end-end.ensures.1 c.loop-at.invariant.2 c.in-Done.ensures.done,
)
