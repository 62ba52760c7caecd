use Rattle.std.proofs.Common.{◌∙◌, sym, ap}
use Rattle.std.specs.Prelude.{Some}
use Rattle.aos_base.specs.declared.priority.Priority.{Priority}
use Rattle.aos_base.specs.declared.priority.Priority.TheVariants.{Low, Normal, High}
use Rattle.aos_ready.proofs.Changes.{goes}
use Rattle.aos_ready.proofs.ready.Ready.next.Goals as goal

pub take_first-requires : goal.take_first-requires
take_first-requires c = c.requires.belongs Low

pub returns-in-Some-Low-clause-lists : goal.returns-in-Some-Low-clause-lists
returns-in-Some-Low-clause-lists c =
    let e = c.take_first.ensures in
    let highest = sym (c.highest.ensures c.args.links.now c.requires) ∙ c.in-Some-Low.is ∙ ap (λ (p : Priority). Some p) c.in-Some-Low.field-0-is in
    (goes c.args.links.now c.take_first.new.self c.args.self.now Low c.take_first.new.queue c.take_first.result c.requires highest e.others e.belongs e.first e.empty.0).lists

pub returns-in-Some-Low-clause-belong : goal.returns-in-Some-Low-clause-belong
returns-in-Some-Low-clause-belong c =
    let e = c.take_first.ensures in
    let highest = sym (c.highest.ensures c.args.links.now c.requires) ∙ c.in-Some-Low.is ∙ ap (λ (p : Priority). Some p) c.in-Some-Low.field-0-is in
    (goes c.args.links.now c.take_first.new.self c.args.self.now Low c.take_first.new.queue c.take_first.result c.requires highest e.others e.belongs e.first e.empty.0).belong

pub returns-in-Some-Low-clause-others : goal.returns-in-Some-Low-clause-others
returns-in-Some-Low-clause-others c =
    let e = c.take_first.ensures in
    let highest = sym (c.highest.ensures c.args.links.now c.requires) ∙ c.in-Some-Low.is ∙ ap (λ (p : Priority). Some p) c.in-Some-Low.field-0-is in
    (goes c.args.links.now c.take_first.new.self c.args.self.now Low c.take_first.new.queue c.take_first.result c.requires highest e.others e.belongs e.first e.empty.0).others

pub take_first-requires-in-Some-Normal : goal.take_first-requires-in-Some-Normal
take_first-requires-in-Some-Normal c = c.requires.belongs Normal

pub returns-in-Some-Normal-clause-lists : goal.returns-in-Some-Normal-clause-lists
returns-in-Some-Normal-clause-lists c =
    let e = c.take_first-in-Some-Normal.ensures in
    let highest = sym (c.highest.ensures c.args.links.now c.requires) ∙ c.in-Some-Normal.is ∙ ap (λ (p : Priority). Some p) c.in-Some-Normal.field-0-is in
    (goes c.args.links.now c.take_first-in-Some-Normal.new.self c.args.self.now Normal c.take_first-in-Some-Normal.new.queue c.take_first-in-Some-Normal.result c.requires highest e.others e.belongs e.first e.empty.0).lists

pub returns-in-Some-Normal-clause-belong : goal.returns-in-Some-Normal-clause-belong
returns-in-Some-Normal-clause-belong c =
    let e = c.take_first-in-Some-Normal.ensures in
    let highest = sym (c.highest.ensures c.args.links.now c.requires) ∙ c.in-Some-Normal.is ∙ ap (λ (p : Priority). Some p) c.in-Some-Normal.field-0-is in
    (goes c.args.links.now c.take_first-in-Some-Normal.new.self c.args.self.now Normal c.take_first-in-Some-Normal.new.queue c.take_first-in-Some-Normal.result c.requires highest e.others e.belongs e.first e.empty.0).belong

pub returns-in-Some-Normal-clause-others : goal.returns-in-Some-Normal-clause-others
returns-in-Some-Normal-clause-others c =
    let e = c.take_first-in-Some-Normal.ensures in
    let highest = sym (c.highest.ensures c.args.links.now c.requires) ∙ c.in-Some-Normal.is ∙ ap (λ (p : Priority). Some p) c.in-Some-Normal.field-0-is in
    (goes c.args.links.now c.take_first-in-Some-Normal.new.self c.args.self.now Normal c.take_first-in-Some-Normal.new.queue c.take_first-in-Some-Normal.result c.requires highest e.others e.belongs e.first e.empty.0).others

pub take_first-requires-in-Some-High : goal.take_first-requires-in-Some-High
take_first-requires-in-Some-High c = c.requires.belongs High

pub returns-in-Some-High-clause-lists : goal.returns-in-Some-High-clause-lists
returns-in-Some-High-clause-lists c =
    let e = c.take_first-in-Some-High.ensures in
    let highest = sym (c.highest.ensures c.args.links.now c.requires) ∙ c.in-Some-High.is ∙ ap (λ (p : Priority). Some p) c.in-Some-High.field-0-is in
    (goes c.args.links.now c.take_first-in-Some-High.new.self c.args.self.now High c.take_first-in-Some-High.new.queue c.take_first-in-Some-High.result c.requires highest e.others e.belongs e.first e.empty.0).lists

pub returns-in-Some-High-clause-belong : goal.returns-in-Some-High-clause-belong
returns-in-Some-High-clause-belong c =
    let e = c.take_first-in-Some-High.ensures in
    let highest = sym (c.highest.ensures c.args.links.now c.requires) ∙ c.in-Some-High.is ∙ ap (λ (p : Priority). Some p) c.in-Some-High.field-0-is in
    (goes c.args.links.now c.take_first-in-Some-High.new.self c.args.self.now High c.take_first-in-Some-High.new.queue c.take_first-in-Some-High.result c.requires highest e.others e.belongs e.first e.empty.0).belong

pub returns-in-Some-High-clause-others : goal.returns-in-Some-High-clause-others
returns-in-Some-High-clause-others c =
    let e = c.take_first-in-Some-High.ensures in
    let highest = sym (c.highest.ensures c.args.links.now c.requires) ∙ c.in-Some-High.is ∙ ap (λ (p : Priority). Some p) c.in-Some-High.field-0-is in
    (goes c.args.links.now c.take_first-in-Some-High.new.self c.args.self.now High c.take_first-in-Some-High.new.queue c.take_first-in-Some-High.result c.requires highest e.others e.belongs e.first e.empty.0).others
