use Rattle.std.proofs.Common.{◌≡◌, ◌≤◌, ◌++◌, length, drop, sym, ap, ◌∙◌, arith, append-nil, add-one, slice_range}
use Rattle.std.proofs.lemmas.List.{drop_all}
use Rattle.aos_layout.specs.Work.{again}
use Rattle.aos_layout.proofs.Outcomes.{again_nothing, again_next}
use Rattle.aos_layout.proofs.work.Work.put_again.Goals as goal

pub loop-time-preserved : goal.loop-time-preserved
loop-time-preserved c =
    let ks = c.args.self.now.kinds.items in
    let n = c.loop-time._time in
    let vs = ks ++ again n (drop c.args.from ks) in
    let e : c.len-end.result ≡ length ks = omega (arith, c.len-end.ensures, c.args.self.now.kinds.ok.0) in
    let l : c.args.from ≤ length ks = omega (arith, e, c.if-from-end.true) in
    rw add-one (
    record {
      kinds = c.in_ok-extend_from_within.ensures.items ∙ ap (λ z. z ++ slice_range z c.args.from c.len-end.result) c.loop-time.invariant.kinds ∙ ap (λ m. vs ++ slice_range vs c.args.from m) e ∙ again_next ks c.args.from n l;
      tasks = c.loop-time.invariant.tasks;
    }
    )

pub returns-else-from-end-clause-kinds : goal.returns-else-from-end-clause-kinds
returns-else-from-end-clause-kinds c =
    let ks = c.args.self.now.kinds.items in
    let l : length ks ≤ c.args.from = omega (arith, c.len-end.ensures, c.args.self.now.kinds.ok.0, c.if-from-end.false) in
    sym (ap (λ z. ks ++ again c.args.times z) (drop_all c.args.from ks l) ∙ ap (λ z. ks ++ z) (again_nothing c.args.times) ∙ append-nil ks)
