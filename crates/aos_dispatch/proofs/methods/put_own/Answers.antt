use Rattle.std.proofs.Common.{◌<◌, ◌≤◌, length, map, get_or, refl, sym, ap, ◌∙◌, arith}
use Rattle.std.specs.List.{fold}
use Rattle.std.proofs.lemmas.List.{length-map}
use Rattle.std.proofs.lemmas.Option.{slice_get_read, slice_get_past, get_or_from_slice_get}
use Rattle.aos_typed.specs.declared.tree.TObject.{TObject}
use Rattle.aos_typed.specs.Methods.{put_at, numbered_from, first_method}
use Rattle.aos_typed.specs.Seen.{seen_method, seen_object, seen_program}
use Rattle.aos_dispatch.proofs.Tables.{first_within, first_is, own_there, own_missing}
use Rattle.aos_dispatch.proofs.methods.put_own.Goals as goal

pub bounds-firsts-number : goal.bounds-firsts-number
bounds-firsts-number c =
    let q = c.args.program.now in
    let os = q.objects.items in
    let lt : c.args.t < length (seen_program q).objects =
    omega (arith, c.if-number-objects.true, ap length c.as_slice-objects.ensures.value, length-map os seen_object) in
    first_within (seen_program q) c.args.firsts.now c.requires c.args.t lt

pub returns-in_ok-put_methods : goal.returns-in_ok-put_methods
returns-in_ok-put_methods c =
    let q = c.args.program.now in
    let p = seen_program q in
    let os = q.objects.items in
    let t = c.args.t in
    let o = c.index-objects-number.result in
    let firsts = c.args.firsts.now in
    let lt : t < length os = omega (arith, c.if-number-objects.true, ap length c.as_slice-objects.ensures.value) in
    let at = slice_get_read os (length os) t o refl lt (c.index-objects-number.is ∙ ap (λ l. get_or l t o) c.as_slice-objects.ensures.value) in
    let there : t < length p.objects = omega (arith, lt, length-map os seen_object) in
    let first = get_or_from_slice_get firsts t (first_method p t) 0 (first_is p firsts c.requires t there) in
    let own = ap (λ l. numbered_from (get_or firsts t 0) (map seen_method l)) (c.deref.ensures.value ∙ ap (λ (x : TObject). x.methods.items) (sym c.index-objects-number.is)) ∙ own_there p os t o _ refl at first in
    c.in_ok-put_methods.ensures ∙ ap (fold put_at c.args.table.now.items) own

pub returns-else-number-objects : goal.returns-else-number-objects
returns-else-number-objects c =
    let q = c.args.program.now in
    let p = seen_program q in
    let os = q.objects.items in
    let t = c.args.t in
    let le : length os ≤ t = omega (arith, c.if-number-objects.false, ap length c.as_slice-objects.ensures.value) in
    ap (fold put_at c.args.table.now.items) (sym (own_missing p os t refl (slice_get_past os t le)))
