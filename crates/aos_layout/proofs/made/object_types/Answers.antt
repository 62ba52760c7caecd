use Rattle.std.proofs.Common.{◌≡◌, length, arith, ◌++◌, ◌∷◌, [], subst, sym, ap, ◌∙◌}
use Rattle.aos_layout.proofs.Marks.{AreObjects, objects_begin, objects_more, objects_all}
use Rattle.aos_layout.proofs.made.object_types.Goals as goal

pub loop-number-init : goal.loop-number-init
loop-number-init c = subst (AreObjects c.args.types.now 0) (sym c.new-marks.ensures.items) (objects_begin c.args.types.now)

pub loop-number-preserved : goal.loop-number-preserved
loop-number-preserved c =
    let l = c.loop-number in
    objects_more c.args.types.now l.number l.marks.items _ (c.in_ok-push.ensures ∙ ap (λ m. l.marks.items ++ m ∷ []) c.is_object.ensures) l.invariant

pub returns : goal.returns
returns c =
    let rows = c.args.types.now in
    let l = c.loop-number in
    let n : l.number ≡ length rows = omega (arith, l.auto.number-end, c.loop-number-test.false, c.len-number-end.ensures) in
    objects_all rows l.marks.items (subst (λ k. AreObjects rows k l.marks.items) n l.invariant)
