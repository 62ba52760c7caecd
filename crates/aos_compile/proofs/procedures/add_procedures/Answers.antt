-- One procedure more.
use Rattle.std.proofs.Common.{rules, ◌≡◌, List, [], ◌∷◌, length, Vec, Global, map, arith, subst, ap, sym, ◌∙◌}
use Rattle.std.proofs.lemmas.List.{map-append}
use Rattle.std.specs.Option.{option_copied}
use Rattle.std.specs.Vec.Iter.{into_iter_items, into_iter_len}
use Rattle.std.specs.declared.vec.IntoIter.{IntoIter}
use Rattle.aos_typed.specs.declared.tree.TStat.{TStat}
use Rattle.aos_typed.specs.declared.tree.TProcedure.{TProcedure}
use Rattle.aos_typed.specs.Program.{Stats}
use Rattle.aos_typed.specs.Seen.{seen_stats, seen_procedure}
use Rattle.aos_variables.specs.Parts as parts
use Rattle.aos_compile.specs.Modules as judge
use Rattle.aos_compile.proofs.InTurn.{whole, procedure_none, procedures_step, signatures_out}
use Rattle.aos_compile.proofs.procedures.add_procedures.Goals.{in-Proc+in-Some+in-Some-signature+in_ok-procedure_of+in_ok-push+in_ok-scope+in_ok-number, in_default}
use Rattle.aos_compile.proofs.procedures.add_procedures.Goals as goal

abbrev Bodies : Type 0
Bodies = IntoIter (Vec TStat Global) Global

-- the statements of the bodies that are still to come
abbrev seen : Bodies → List Stats
seen it = map (λ (ss : Vec TStat Global). seen_stats ss.items) (into_iter_items it)

pub returns-in_default-signature : goal.returns-in_default-signature
returns-in_default-signature c =
    let here = c.args.env.now.here in
    signatures_out here.text here.scopes c.args.decls.now c.loop-decl.decl-index c.loop-decl.scope (map seen_procedure c.loop-decl.all.items) here.signatures c.loop-decl.number
    (seen c.loop-decl.bodies) (sym c.in_default-signature.ensures)
    ∙ c.loop-decl.invariant.told

pub loop-decl-preserved : goal.loop-decl-preserved
loop-decl-preserved c = elim c.match-decl.branch [
  | in-Proc+in-Some+in-Some-signature+in_ok-procedure_of+in_ok-push+in_ok-scope+in_ok-number w ↦
      let here = c.args.env.now.here in
      let was = map seen_procedure c.loop-decl.all.items in
      let a = w.in-Proc.proc in
      let s = w.in-Some-signature.signature.now in
      let b = w.in-Some.body in
      let p = w.in_ok-procedure_of.field-0 in
      let behind = w.next.new.self in
      let body : seen c.loop-decl.bodies ≡ seen_stats b.items ∷ seen c.match-decl.bodies =
      ap (map (λ (ss : Vec TStat Global). seen_stats ss.items)) w.in-Some.ensures.items ∙ ap (λ (it : Bodies). seen_stats b.items ∷ seen it) (sym w.bodies-is) in
      let told = w.in_ok-procedure_of.ensures
      ∙ ap (λ t. judge.procedure_of t (whole a) s (parts.variables_of (option_copied w.scope-at.result)) (seen_stats b.items)) w.text.ensures
      ∙ ap (λ o. judge.procedure_of here.text (whole a) s (parts.variables_of o) (seen_stats b.items)) w.scope-at.ensures in
      let put = ap (λ (v : Vec TProcedure Global). map seen_procedure v.items) w.all-is ∙ ap (map seen_procedure) w.in_ok-push.ensures.items
      ∙ map-append seen_procedure c.loop-decl.all.items (p ∷ []) in
      let fewer : into_iter_len behind ≡ length (into_iter_items behind) = omega (arith, w.in-Some.ensures.cases.1, c.loop-decl.invariant.left, ap length w.in-Some.ensures.items) in
      record {
        told = procedures_step here.text here.scopes c.args.decls.now c.loop-decl.decl-index c.loop-decl.scope was here.signatures c.loop-decl.number
            (seen c.loop-decl.bodies) c.match-decl.scope c.match-decl.number c.decl-item.result a s (seen_stats b.items)
            (seen c.match-decl.bodies) (seen_procedure p) (map seen_procedure c.match-decl.all.items)
            c.loop-decl-test.true c.decl-item.is w.in-Proc.is (sym w.in-Some-signature.ensures) body (w.scope-is ∙ w.in_ok-scope.ensures) (w.number-is ∙ w.in_ok-number.ensures) told put
            ∙ c.loop-decl.invariant.told;
        left = subst (λ (it : Bodies). into_iter_len it ≡ length (into_iter_items it)) (sym w.bodies-is) fewer;
      }
  | in_default w ↦
      let skip = procedure_none c.args.decls.now c.loop-decl.decl-index c.decl-item.result c.loop-decl-test.true c.decl-item.is w.in_default.not-Proc in
      search (rules, skip)
]
