use Rattle.std.proofs.Common.{◌≡◌, ◌+◌, length, map, sym, ap, ◌∙◌, subst, arith}
use Rattle.std.specs.Prelude.{slice_get, option_map}
use Rattle.std.proofs.lemmas.List.{length-map}
use Rattle.aos_typed.specs.Program.{ObjectType}
use Rattle.aos_typed.specs.Seen.{seen_module, seen_object, seen_program}
use Rattle.aos_dispatch.specs.Dispatch.{firsts_by}
use Rattle.aos_dispatch.specs.Tables.{AreMethodFirsts}
use Rattle.aos_dispatch.proofs.Firsts.{firsts_are}
use Rattle.aos_dispatch.proofs.Tables.{method_firsts_are}
use Rattle.aos_dispatch.proofs.dispatch.Dispatch.new.Goals as goal

pub tables_of-requires-clause-firsts : goal.tables_of-requires-clause-firsts
tables_of-requires-clause-firsts c =
    let q = c.args.program.now in
    let p = seen_program q in
    let ms = q.modules.items in
    let os = q.objects.items in
    let firsts = c.in_ok-firsts.firsts.items in
    let behind = c.in_ok-behind.behind in
    let are = firsts_are ms c.deref.result.now os c.first_number-first.result firsts c.deref.ensures.value (omega (arith, c.first_number-first.ensures, c.len.ensures, c.len-2.ensures)) c.in_ok-firsts.ensures in
    let home : c.len-3.result ≡ length p.modules = omega (arith, c.len-3.ensures, length-map ms seen_module) in
    let found = ap (λ l. option_map (λ f. f + 0) (slice_get l c.len-3.result)) (sym c.deref-2.ensures.value) ∙ c.in_ok-behind.ensures in
    let all = c.in_ok-methods.ensures ∙ ap (λ l. firsts_by (λ (o : ObjectType). length o.methods) behind (map seen_object l)) c.deref-3.ensures.value in
    subst (AreMethodFirsts p) (sym c.deref-4.ensures.value) (method_firsts_are p firsts c.in_ok-methods.methods.items c.len-3.result behind are home found all)

pub invariant_of-result : goal.invariant_of-result
invariant_of-result c =
    let q = c.args.program.now in
    let os = q.objects.items in
    record {
      few = omega (arith, c.requires.typed.parts.beside, c.requires.few_types, length-map os seen_object);
      firsts = firsts_are q.modules.items c.deref.result.now os c.first_number-first.result c.in_ok-firsts.firsts.items c.deref.ensures.value (omega (arith, c.first_number-first.ensures, c.len.ensures, c.len-2.ensures)) c.in_ok-firsts.ensures;
      tables = c.in_ok-tables.ensures;
      bodies = c.in_ok-bodies.ensures;
      initials = c.in_ok-initials.ensures;
      all = c.in_ok-routines.ensures;
    }
