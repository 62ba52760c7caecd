use Rattle.std.proofs.Common.{◌≡◌, ◌∙◌, sym}
use Rattle.aos_base.specs.declared.priority.Priority.TheVariants.{Low, Normal, High}
use Rattle.aos_ready.specs.Order.{ready_in}
use Rattle.aos_ready.proofs.Changes.{joined, other_ready, belong_after}
use Rattle.aos_ready.proofs.ready.Ready.add.Goals as goal

pub put_last-requires-clause-belongs : goal.put_last-requires-clause-belongs
put_last-requires-clause-belongs c = c.requires.belong.belongs Low

pub put_last-requires-clause-elsewhere : goal.put_last-requires-clause-elsewhere
unfolding ready_in
put_last-requires-clause-elsewhere c = c.requires.elsewhere Low

pub returns-in-Low-clause-lists : goal.returns-in-Low-clause-lists
returns-in-Low-clause-lists c o ne =
    let e = c.put_last.ensures in
    other_ready _ _ _ Low _ _ (joined c.args.links.now c.put_last.new.self c.args.self.now Low c.put_last.new.queue c.args.activity c.requires.belong c.requires.elsewhere e.others e.belongs e.last) o (λ (q : o ≡ Low). ne (q ∙ sym c.in-Low.is))

pub returns-in-Low-clause-belong : goal.returns-in-Low-clause-belong
returns-in-Low-clause-belong c =
    let e = c.put_last.ensures in
    belong_after _ _ _ Low _ _ (joined c.args.links.now c.put_last.new.self c.args.self.now Low c.put_last.new.queue c.args.activity c.requires.belong c.requires.elsewhere e.others e.belongs e.last)

pub put_last-requires-in-Normal-clause-belongs : goal.put_last-requires-in-Normal-clause-belongs
put_last-requires-in-Normal-clause-belongs c = c.requires.belong.belongs Normal

pub put_last-requires-in-Normal-clause-elsewhere : goal.put_last-requires-in-Normal-clause-elsewhere
unfolding ready_in
put_last-requires-in-Normal-clause-elsewhere c = c.requires.elsewhere Normal

pub returns-in-Normal-clause-lists : goal.returns-in-Normal-clause-lists
returns-in-Normal-clause-lists c o ne =
    let e = c.put_last-in-Normal.ensures in
    other_ready _ _ _ Normal _ _ (joined c.args.links.now c.put_last-in-Normal.new.self c.args.self.now Normal c.put_last-in-Normal.new.queue c.args.activity c.requires.belong c.requires.elsewhere e.others e.belongs e.last) o (λ (q : o ≡ Normal). ne (q ∙ sym c.in-Normal.is))

pub returns-in-Normal-clause-belong : goal.returns-in-Normal-clause-belong
returns-in-Normal-clause-belong c =
    let e = c.put_last-in-Normal.ensures in
    belong_after _ _ _ Normal _ _ (joined c.args.links.now c.put_last-in-Normal.new.self c.args.self.now Normal c.put_last-in-Normal.new.queue c.args.activity c.requires.belong c.requires.elsewhere e.others e.belongs e.last)

pub put_last-requires-in-High-clause-belongs : goal.put_last-requires-in-High-clause-belongs
put_last-requires-in-High-clause-belongs c = c.requires.belong.belongs High

pub put_last-requires-in-High-clause-elsewhere : goal.put_last-requires-in-High-clause-elsewhere
unfolding ready_in
put_last-requires-in-High-clause-elsewhere c = c.requires.elsewhere High

pub returns-in-High-clause-lists : goal.returns-in-High-clause-lists
returns-in-High-clause-lists c o ne =
    let e = c.put_last-in-High.ensures in
    other_ready _ _ _ High _ _ (joined c.args.links.now c.put_last-in-High.new.self c.args.self.now High c.put_last-in-High.new.queue c.args.activity c.requires.belong c.requires.elsewhere e.others e.belongs e.last) o (λ (q : o ≡ High). ne (q ∙ sym c.in-High.is))

pub returns-in-High-clause-belong : goal.returns-in-High-clause-belong
returns-in-High-clause-belong c =
    let e = c.put_last-in-High.ensures in
    belong_after _ _ _ High _ _ (joined c.args.links.now c.put_last-in-High.new.self c.args.self.now High c.put_last-in-High.new.queue c.args.activity c.requires.belong c.requires.elsewhere e.others e.belongs e.last)
