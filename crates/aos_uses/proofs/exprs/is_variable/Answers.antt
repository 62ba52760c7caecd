use Rattle.std.proofs.Common.{◌≤◌, ◌-◌, length, refl, sym, arith}
use Rattle.std.proofs.lemmas.Bool.{ltb-true, ltb-false}
use Rattle.std.proofs.lemmas.Option.{slice_get_read, slice_get_past}
use Rattle.aos_typed.specs.Seen.{seen_program}
use Rattle.aos_uses.proofs.UsedArguments.{reference_there, reference_none}
use Rattle.aos_uses.proofs.exprs.is_variable.Goals as goal

pub returns-in-Some : goal.returns-in-Some
returns-in-Some c =
    let rs = c.routines.result.now in
    let k = c.args.number - 1 in
    let r = c.in-Some.routine.now in
    let found = c.in-Some.ensures.lookup in
    let some : 1 ≤ c.args.number = omega (arith, c.if-number-eq0.false) in
    reference_there (seen_program c.args.dispatch.now) rs c.routines.ensures c.args.number c.args.parameter r _ some
    (slice_get_read rs (length rs) k r refl (ltb-true k (length rs) (sym found.0)) found.1) c.has_reference.ensures

pub returns-in-None : goal.returns-in-None
returns-in-None c =
    let rs = c.routines.result.now in
    let k = c.args.number - 1 in
    let some : 1 ≤ c.args.number = omega (arith, c.if-number-eq0.false) in
    let le : length rs ≤ k = omega (arith, ltb-false k (length rs) (sym c.in-None.ensures.lookup.0)) in
    reference_none (seen_program c.args.dispatch.now) rs c.routines.ensures c.args.number c.args.parameter some (slice_get_past rs k le)
