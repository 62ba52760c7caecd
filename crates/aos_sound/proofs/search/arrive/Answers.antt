-- The goals of arrive that the search leaves open.
use Rattle.std.proofs.Common.{◌≡◌, ◌<◌, ◌∷◌, ◌++◌, [], Some, sym, ap, ◌∙◌, subst, arith, length}
use Rattle.std.specs.Prelude.{slice_set}
use Rattle.aos_sound.specs.Stacks.{stack_at}
use Rattle.aos_sound.specs.Search.{Arrives}
use Rattle.aos_sound.proofs.Searches.{entry_read, same_known, one_new}
use Rattle.aos_sound.proofs.search.arrive.Goals as goal

pub same-requires : goal.same-requires
same-requires c =
    let k = c.args.table.now.ok.0 in
    let l = c.len.ensures in
    let e = entry_read c.args.table.now.items c.args.to _ (omega (arith, k, l, c.if-to-len.false)) c.index.ensures ∙ c.in-Some.is in
    (c.requires.numbers _ _ e, c.requires.inside)

pub returns-in-Some-clause-comes : goal.returns-in-Some-clause-comes
returns-in-Some-clause-comes c =
    let k = c.args.table.now.ok.0 in
    let l = c.len.ensures in
    let e = entry_read c.args.table.now.items c.args.to _ (omega (arith, k, l, c.if-to-len.false)) c.index.ensures ∙ c.in-Some.is in
    same_known _ _ _ e (c.requires.numbers _ _ e) c.same.result c.same.ensures

pub returns-in_ok-reserve-in-None-clause-arrives : goal.returns-in_ok-reserve-in-None-clause-arrives
returns-in_ok-reserve-in-None-clause-arrives c =
    let k = c.args.table.now.ok.0 in
    let l = c.len.ensures in
    let lt : c.args.to < length c.args.table.now.items = omega (arith, k, l, c.if-to-len.false) in
    let e = entry_read c.args.table.now.items c.args.to _ lt c.index.ensures ∙ c.in-None.is in
    let t = c.push_reserved.ensures.items ∙ ap (λ xs. xs ++ c.args.to ∷ []) c.reserve.ensures.items in
    subst (λ todo. Arrives c.args.stacks.now (λ p. p ≡ c.args.to) (stack_at c.args.stacks.now c.args.id) c.args.table.now.items c.args.todo.now.items (slice_set c.args.table.now.items c.args.to (Some c.args.id)) todo) (sym t) (one_new c.args.stacks.now c.args.table.now.items c.args.todo.now.items c.args.to c.args.id lt e c.requires.inside)
