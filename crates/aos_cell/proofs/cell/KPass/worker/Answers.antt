use Rattle.std.proofs.Common.{subst, ap, sym, ◌≡◌, ◌<◌, ◌≤◌, ◌*◌, ◌^◌, [], ◌∷◌}
use Rattle.aos_cell.specs.Rule.{workers_of}
use Rattle.aos_cell.specs.Steps.{HasOne}
use Rattle.aos_cell.specs.Hold.{Hold}
use Rattle.aos_cell.proofs.Masks.{one_positive, one_worker}
use Rattle.aos_cell.proofs.cell.KPass.worker.Goals as goal

pub ilog2-requires : goal.ilog2-requires
ilog2-requires c = subst (λ k. 0 < k) c.self.invariant.1 (one_positive _ (subst HasOne (ap (λ (h : Hold). h.view) (sym c.self.view_is)) c.requires))

pub returns : goal.returns
returns c =
    let is = ap (λ (h : Hold). h.view) c.self.view_is in
    subst (λ v. workers_of v ≡ c.ilog2.result ∷ []) is
    (one_worker c.ilog2.result _ (subst HasOne (sym is) c.requires)
    (subst (λ k. 2 ^ c.ilog2.result ≤ k) (sym c.self.invariant.1) c.ilog2.ensures.power_le)
    (subst (λ k. k < 2 * 2 ^ c.ilog2.result) (sym c.self.invariant.1) c.ilog2.ensures.next_power_gt))
