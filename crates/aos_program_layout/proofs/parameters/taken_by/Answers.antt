use Rattle.std.proofs.Common.{◌≤◌, ◌-◌, length, map, refl, sym, ap, ◌∙◌, arith}
use Rattle.std.specs.Prelude.{reverse}
use Rattle.std.proofs.lemmas.Bool.{ltb-true, ltb-false}
use Rattle.std.proofs.lemmas.Option.{slice_get_read, slice_get_past}
use Rattle.aos_code.specs.Silent.{kinds_of}
use Rattle.aos_layout.specs.Frame.{parameter_kind}
use Rattle.aos_program_layout.proofs.Taken.{there_by, handed_at, handed_past}
use Rattle.aos_program_layout.proofs.parameters.taken_by.Goals as goal

pub taken_in-requires-clause-there : goal.taken_in-requires-clause-there
taken_in-requires-clause-there c =
    let rs = c.args.routines.now in
    let k = c.args.number - 1 in
    let r = c.in-Some.routine.now in
    let found = c.in-Some.ensures.lookup in
    there_by c.args.types.now rs k r c.requires.there (slice_get_read rs (length rs) k r refl (ltb-true k (length rs) (sym found.0)) found.1)

pub returns-in_ok-kinds-in-Some : goal.returns-in_ok-kinds-in-Some
returns-in_ok-kinds-in-Some c =
    let rs = c.args.routines.now in
    let k = c.args.number - 1 in
    let r = c.in-Some.routine.now in
    let found = c.in-Some.ensures.lookup in
    let some : 1 ≤ c.args.number = omega (arith, c.if-number-eq0.false) in
    c.in_ok-kinds-in-Some.ensures
    ∙ ap (λ ps. reverse (kinds_of (map (parameter_kind c.args.types.now) ps)))
    (handed_at rs c.args.number r some (slice_get_read rs (length rs) k r refl (ltb-true k (length rs) (sym found.0)) found.1))

pub returns-in-None : goal.returns-in-None
returns-in-None c =
    let rs = c.args.routines.now in
    let k = c.args.number - 1 in
    let le : length rs ≤ k = omega (arith, ltb-false k (length rs) (sym c.in-None.ensures.lookup.0)) in
    c.new-in-None.ensures.items
    ∙ ap (λ ps. reverse (kinds_of (map (parameter_kind c.args.types.now) ps))) (handed_past rs c.args.number (slice_get_past rs k le))
