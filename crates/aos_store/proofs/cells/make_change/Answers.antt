use Rattle.std.proofs.Common.{◌≡◌, length, ap, sym, ◌∙◌, true, ltb-true}
use Rattle.std.specs.Prelude.{nat_lt}
use Rattle.aos_store.specs.Store.{fits, changed}
use Rattle.aos_store.proofs.Lists.{set_one}
use Rattle.aos_store.proofs.cells.make_change.Goals as goal

pub returns-in-Sets-clause-after : goal.returns-in-Sets-clause-after
returns-in-Sets-clause-after c =
    let within : nat_lt c.in-Sets.cell (length c.args.cells.now) ≡ true = ap (λ x. fits x (length c.args.cells.now)) (sym c.in-Sets.is) ∙ sym c.fits.ensures ∙ c.if-not-fits.false in
    set_one c.args.cells.now c.in-Sets.cell c.in-Sets.value (ltb-true _ _ within) ∙ ap (λ x. changed x c.args.cells.now) (sym c.in-Sets.is)
