use Rattle.std.proofs.Common.{length, sym, ap, ◌∙◌}
use Rattle.std.proofs.lemmas.List.{length-map}
use Rattle.aos_typed.specs.Methods.{slots_by, own_numbers}
use Rattle.aos_typed.specs.Seen.{seen_object, seen_program}
use Rattle.aos_dispatch.specs.Tables.{put_all}
use Rattle.aos_dispatch.proofs.Tables.{chain_slots, put_last}
use Rattle.aos_dispatch.proofs.methods.table_of.Goals as goal

pub loop-of-init : goal.loop-of-init
loop-of-init c =
    let p = seen_program c.args.program.now in
    let os = c.args.program.now.objects.items in
    let t = c.args.t in
    (λ i. put_all (own_numbers p) (c.new-table.ensures.items i) (c.in_ok-chain.ensures i))
    ∙ chain_slots p (own_numbers p) (length os) t
    ∙ ap (λ n. slots_by p (own_numbers p) n t) (sym (length-map os seen_object))

pub loop-of-preserved : goal.loop-of-preserved
loop-of-preserved c =
    let own = own_numbers (seen_program c.args.program.now) in
    let l = c.loop-of in
    let rest = c.pop.new.self.items in
    ap (λ x. put_all own x rest) c.in_ok-put_own.ensures
    ∙ sym (put_last own l.table.items rest c.in-Some.of)
    ∙ ap (put_all own l.table.items) (sym c.in-Some.ensures.items)
    ∙ l.invariant
