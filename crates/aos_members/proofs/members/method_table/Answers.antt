use Rattle.std.proofs.Common.{◌++◌, ◌∷◌, [], ◌∙◌}
use Rattle.aos_members.specs.Members.{own_methods}
use Rattle.aos_symbols.specs.Scope.{places_in}
use Rattle.aos_members.proofs.Numbered.{of_each_more}
use Rattle.aos_members.proofs.members.method_table.Goals as goal

pub loop-number-preserved : goal.loop-number-preserved
loop-number-preserved c =
    let l = c.loop-number in
    c.in_ok-push.ensures.items ∙ (λ i. l.invariant i ++ c.in_ok-method_numbers.ensures i ∷ [])
    ∙ of_each_more (λ t. places_in c.args.words.now (own_methods c.args.env.now t)) l.number
