use Rattle.std.proofs.Common.{refl, sym, ◌∙◌}
use Rattle.aos_scheduler.specs.declared.line.Line.{Line}
use Rattle.aos_scheduler.proofs.Rests.{relocked}
use Rattle.aos_scheduler.proofs.Passing.{numbered}
use Rattle.aos_scheduler.proofs.line.Line.number.Goals as goal

pub returns-in_err-reserve-clause-same : goal.returns-in_err-reserve-clause-same
returns-in_err-reserve-clause-same c line owner h = relocked c.args.self.now line owner h c.reserve.new.self c.args.self.now.locks c.reserve.ensures.same refl (λ n less. refl) (λ n less. record { entrants = refl; waiters = refl }) h.waits

pub returns-then-count-clause-same : goal.returns-then-count-clause-same
returns-then-count-clause-same c line owner h = relocked c.args.self.now line owner h c.reserve.new.self c.args.self.now.locks c.reserve.ensures.same refl (λ n less. refl) (λ n less. record { entrants = refl; waiters = refl }) h.waits

pub returns-in_err-number-clause-same : goal.returns-in_err-number-clause-same
returns-in_err-number-clause-same c line owner h =
    let l = c.args.self.now in
    relocked l line owner h c.reserve.new.self c.add.new.self c.reserve.ensures.same c.in_err-number.ensures.err c.add.ensures.owners (c.add.ensures.lists l.links) (c.add.ensures.belong l.links h.waits)

pub returns-clause-same : goal.returns-clause-same
returns-clause-same c line owner h =
    let l = c.args.self.now in
    let mid : Line = record l { numbers = c.reserve.new.self } in
    let g = relocked l line owner h c.reserve.new.self l.locks c.reserve.ensures.same refl (λ n less. refl) (λ n less. record { entrants = refl; waiters = refl }) h.waits in
    let none = c.reserve.ensures.same c.args.lock ∙ sym c.get.ensures ∙ c.in_default.is in
    numbered mid line owner c.args.lock c.in_ok-number.number c.set.new.self c.add.new.self g none c.in_ok-number.ensures.number c.set.ensures c.in_ok-number.ensures.ok c.in_ok-number.ensures.free (c.in_ok-number.ensures.awaited l.links)
    c.add.ensures.owners (c.add.ensures.lists l.links) (c.add.ensures.belong l.links h.waits)
