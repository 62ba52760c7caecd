-- The goals of explores that the search leaves open.
use Rattle.std.proofs.Common.{◌≡◌, [], ◌∷◌, ◌++◌, length, set, Some, refl, sym, ap, ◌∙◌, subst, arith}
use Rattle.aos_sound.specs.Search.{Explored}
use Rattle.aos_sound.proofs.Searched.{first_known, all_explored, empty_unsound, nothing_left, filled}
use Rattle.aos_sound.proofs.Searches.{last_within}
use Rattle.aos_sound.proofs.search.explores.Goals as goal

pub returns-then-code-eq0 : goal.returns-then-code-eq0
returns-then-code-eq0 c = (λ e. absurd (cc e), λ sound. absurd (empty_unsound c.args.image.now c.args.own c.args.code.now c.args.depth (omega (arith, c.if-code-eq0.true)) sound))

pub loop-at-init : goal.loop-at-init
loop-at-init c =
    let t = filled (length c.args.code.now) _ c.new-table.result.items c.resize.new.self.items c.in_ok-resize.ensures.items c.new-table.ensures.items c.new-table.ensures.len in
    let d : c.push_reserved.new.self.items ≡ [] ++ 0 ∷ [] = c.push_reserved.ensures.items ∙ ap (λ xs. xs ++ 0 ∷ []) (c.in_ok-reserve.ensures.items ∙ c.new-todo.ensures.items) in
    subst (λ todo. Explored c.args.image.now c.args.own c.args.code.now c.args.depth c.in_ok-stacks.stacks (set c.resize.new.self.items 0 (Some 0)) todo) (sym d)
    (subst (λ ss. Explored c.args.image.now c.args.own c.args.code.now c.args.depth ss (set c.resize.new.self.items 0 (Some 0)) ([] ++ 0 ∷ [])) (sym c.in_ok-stacks.ensures)
    (first_known c.args.image.now c.args.own c.args.code.now c.args.depth (omega (arith, c.if-code-eq0.false)) (set c.resize.new.self.items 0 (Some 0)) (ap (λ xs. set xs 0 (Some 0)) t)))

pub pass-requires-clause-inside : goal.pass-requires-clause-inside
pass-requires-clause-inside c = last_within _ _ c.in-Some.ensures.items c.loop-at.invariant

pub returns : goal.returns
returns c =
    let none = nothing_left c.loop-at.todo.items _ c.loop-at.todo.ok.0 c.in_default.ensures.cases.0 in
    (λ e. all_explored (subst (λ todo. Explored c.args.image.now c.args.own c.args.code.now c.args.depth c.loop-at.stacks c.loop-at.table.items todo) none c.loop-at.invariant), λ s. refl)
