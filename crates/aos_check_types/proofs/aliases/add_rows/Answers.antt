use Rattle.std.proofs.Common.{◌≡◌, ◌<◌, ◌++◌, ◌∷◌, [], length, drop, refl, sym, ap, ◌∙◌, arith}
use Rattle.std.specs.Prelude.{slice_set}
use Rattle.aos_check_types.specs.Aliases.{first_row, first_rows}
use Rattle.aos_check_types.specs.declared.aliases.Target.TheVariants.{Own}
use Rattle.aos_check_types.proofs.Coming.{first_set, rest_all, some_there}
use Rattle.aos_check_types.proofs.aliases.add_rows.Goals as goal

pub returns : goal.returns
returns c =
    let old = c.args.types.now in
    let ts = c.args.targets.now in
    let k = c.in-Ok.number in
    let is : k ≡ length old = omega (arith, c.in-Ok.ensures, c.len.ensures) in
    let some : 0 < length ts = some_there ts c.is_empty.result c.is_empty.ensures c.if-is_empty.false in
    let row : c.add.new.self ≡ old ++ first_row k Own ∷ [] = c.in_ok-own.ensures.ok ∙ ap (λ r. old ++ r ∷ []) c.first_row.ensures in
    let all : c.add_all.new.types ≡ (old ++ first_row k Own ∷ []) ++ first_rows (length (old ++ first_row k Own ∷ [])) (drop 1 ts) =
    c.in_ok-add_all.ensures ∙ (λ i. row i ++ first_rows (length (row i)) (rest_all ts i)) in
    let own : c.in_ok-own.own.0 ≡ k = c.in_ok-own.ensures.number ∙ sym is in
    c.set.ensures ∙ (λ i. slice_set (all i) (own i) (c.first_row-2.ensures i)) ∙ first_set old ts k _ _ some is refl
