use Rattle.std.proofs.Common.{◌∙◌, sym, ap}
use Rattle.aos_members.specs.Members.{may_declare}
use Rattle.aos_members.proofs.Numbered.{no_method}
use Rattle.aos_members.proofs.members.numbered_method.Goals as goal

pub returns-else-may_declare : goal.returns-else-may_declare
returns-else-may_declare c =
    no_method c.args.env.now c.args.all.now c.args.of c.args.place c.args.word.now c.requires.all c.requires.place
    (ap (λ l. may_declare l c.args.of c.args.place) (sym c.as_slice.ensures.value) ∙ sym c.may_declare.ensures ∙ c.if-may_declare.false)
