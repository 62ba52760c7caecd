use Rattle.std.proofs.Common.{◌+◌, refl, sym, arith, subst}
use Rattle.std.specs.Arc.{arc_value}
use Rattle.aos_code.specs.declared.image.Image.{Image}
use Rattle.aos_cpu.specs.Private.{IsMadePrivately, turns_since}
use Rattle.aos_loan.specs.Loans.{Lending, IsMadeOf}
use Rattle.aos_loan.proofs.Turning.{loan_goes}
use Rattle.aos_loan.proofs.loan.Loan.run.Goals as goal

pub returns-clause-made : goal.returns-clause-made
returns-clause-made c made begun fs h =
    let k = c.self.inside in
    let later = c.private-made.new.frames in
    let many = turns_since k.frames later in
    let old : Lending = record { image = arc_value k.image; budget = k.budget; turns = k.turns; frames = k.frames } in
    let new : Lending = record { image = arc_value k.image; budget = k.budget; turns = k.turns + many; frames = later } in
    let turned = subst (λ (i : Image). IsMadePrivately i k.budget many k.frames later) c.deref.ensures c.private-made.ensures.made in
    loan_goes made begun fs old new many (subst (λ (l : Lending). IsMadeOf made begun fs l) (sym c.self.view_is) h) turned refl refl (omega arith)
