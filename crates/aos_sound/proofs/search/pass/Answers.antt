-- The goals of pass that the search leaves open.
use Rattle.std.proofs.Common.{ap, sym, ◌∙◌, arith}
use Rattle.std.specs.Prelude.{pos}
use Rattle.std.proofs.lemmas.Option.{slice_get-get_or}
use Rattle.aos_code.specs.declared.instr.Instr.TheVariants.{Num}
use Rattle.aos_sound.specs.Stacks.{stack_at}
use Rattle.aos_sound.specs.Sound.{left_by}
use Rattle.aos_sound.proofs.Searches.{read_here, is_number, not_none, too_many, not_found, step_on, stack_found, stack_not_found}
use Rattle.aos_sound.proofs.search.pass.Goals as goal

pub index-requires : goal.index-requires
index-requires c =
    let k = c.args.table.now.ok.0 in
    let l = c.requires.explored.long in
    omega (arith, c.requires.inside, k, l)

pub height-requires : goal.height-requires
height-requires c = is_number _ _ c.requires.explored (read_here _ _ c.requires.explored _ c.index.ensures ∙ c.in-Some.is)

pub returns-then-height-depth-clause-explored : goal.returns-then-height-depth-clause-explored
returns-then-height-depth-clause-explored c =
    let h = c.height.ensures in
    too_many _ _ c.requires.explored (read_here _ _ c.requires.explored _ c.index.ensures ∙ c.in-Some.is) (omega (arith, h, c.if-height-depth.true))

pub left_by-requires : goal.left_by-requires
left_by-requires c = is_number _ _ c.requires.explored (read_here _ _ c.requires.explored _ c.index.ensures ∙ c.in-Some.is)

pub go_on-requires-clause-here : goal.go_on-requires-clause-here
go_on-requires-clause-here c = let l = c.requires.explored.long in omega (arith, c.requires.inside, l)

pub returns-in-None-clause-explored : goal.returns-in-None-clause-explored
returns-in-None-clause-explored c = λ sound. not_none _ _ c.requires.explored (read_here _ _ c.requires.explored _ c.index.ensures ∙ c.in-None.is)

pub returns-in-None-2-clause-explored : goal.returns-in-None-2-clause-explored
returns-in-None-2-clause-explored c =
    let stands = slice_get-get_or c.args.code.now c.args.at (Num (pos 0)) c.requires.inside in
    let none = ap (λ q. left_by c.args.image.now c.args.own q (stack_at c.args.stacks.now c.in-Some.id)) (sym c.effect_of.ensures) ∙ stack_not_found _ _ _ c.in-None-2.is c.in_ok-left_by-in-Some.ensures.left in
    not_found _ _ c.requires.explored (read_here _ _ c.requires.explored _ c.index.ensures ∙ c.in-Some.is) stands none

pub returns-in_ok-go_on-in-Some-2-clause-explored : goal.returns-in_ok-go_on-in-Some-2-clause-explored
returns-in_ok-go_on-in-Some-2-clause-explored c =
    let stands = slice_get-get_or c.args.code.now c.args.at (Num (pos 0)) c.requires.inside in
    let h = c.height.ensures in
    let found = stack_found _ _ _ _ c.in-Some-2.is c.in_ok-left_by-in-Some.ensures.left in
    step_on c.in_ok-left_by-in-Some.ensures.kept _ _ c.requires.explored (read_here _ _ c.requires.explored _ c.index.ensures ∙ c.in-Some.is) stands (omega (arith, h, c.if-height-depth.false)) c.next_of.ensures c.effect_of.ensures found.1 c.in_ok-go_on-in-Some-2.ensures.arrives c.in_ok-go_on-in-Some-2.field-0 c.in_ok-go_on-in-Some-2.ensures.leads
