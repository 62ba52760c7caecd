use Rattle.std.proofs.Common.{◌≡◌, ◌∙◌, ◌∷◌, [], ◌++◌, ap, subst, Contains}
use Rattle.std.specs.Prelude.{true, false}
use Rattle.aos_lock.specs.Heirs.{queued, heir_by, passed_to, after_passed}
use Rattle.aos_lock.specs.Waits.{entrants_of, waiters_of, numbers_of}
use Rattle.aos_lock.proofs.Rows.{both_joined}
use Rattle.aos_lock.proofs.Changes.{keeps_both}
use Rattle.aos_lock.proofs.lock.Lock.wait.Goals as goal

pub returns-clause-heir : goal.returns-clause-heir
returns-clause-heir g c =
    let of = g.T.Test.verdict_of c.args.test.now in
    c.release.ensures.heir ∙ (λ i. passed_to (heir_by of (queued (c.join.ensures.entrants i) (c.join.ensures.waiters i))))

pub returns-clause-entrants : goal.returns-clause-entrants
returns-clause-entrants g c = c.release.ensures.entrants ∙ ap (after_passed c.release.result) c.join.ensures.entrants

pub returns-clause-waiters : goal.returns-clause-waiters
returns-clause-waiters g c = c.release.ensures.waiters ∙ ap (after_passed c.release.result) c.join.ensures.waiters

pub returns-clause-others : goal.returns-clause-others
returns-clause-others g c =
    let old = c.args.links.now in
    let mid = c.join.new.links in
    let l = c.args.self.now in
    let a = c.args.activity in
    let es = entrants_of old l in
    let ws = waiters_of old l in
    let joined : numbers_of mid c.join.new.self ≡ es ++ (ws ++ a ∷ []) = λ i. c.join.ensures.entrants i ++ c.join.ensures.waiters i in
    keeps_both old mid c.release.new.links (a ∷ numbers_of old l) (numbers_of mid c.join.new.self) c.join.ensures.others c.release.ensures.others
    (λ n i. both_joined false true a es ws n (subst (λ ns. Contains ns n) joined i))

pub returns-clause-marks : goal.returns-clause-marks
returns-clause-marks g c = record {
  room = c.release.ensures.table.room ∙ c.join.ensures.marks.room;
  marks = λ n h. c.release.ensures.table.marks n ∙ c.join.ensures.marks.marks n h;
}
