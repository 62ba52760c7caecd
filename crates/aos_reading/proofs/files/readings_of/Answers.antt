use Rattle.aos_reading.proofs.Readings.{read_more}
use Rattle.aos_reading.proofs.files.readings_of.Goals as goal

pub loop-text-preserved : goal.loop-text-preserved
loop-text-preserved c =
    read_more c.args.texts.now c.loop-text.readings.items c.push.new.self.items c.loop-text.text-index c.text-item.result c.deref.result.now c.in_ok-read.field-0 c.loop-text-test.true
    c.text-item.is c.deref.ensures.value c.loop-text.invariant c.in_ok-read.ensures c.in_ok-push.ensures.items
