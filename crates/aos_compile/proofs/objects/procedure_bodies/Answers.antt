-- One body more.
use Rattle.std.proofs.Common.{rules, [], ◌∷◌, ◌++◌, false, Vec, Global, map, ap, ◌∙◌}
use Rattle.std.proofs.lemmas.List.{map-append}
use Rattle.aos_tree.specs.declared.decl.Outline.{Outline}
use Rattle.aos_typed.specs.declared.tree.TStat.{TStat}
use Rattle.aos_typed.specs.Seen.{seen_stats}
use Rattle.aos_symbols.specs.declared.env.Env.{Env}
use Rattle.aos_symbols.specs.Env.{within}
use Rattle.aos_symbols.specs.Breaches.{first_after}
use Rattle.aos_check_stat.specs.Bodies.{listed, body_of}
use Rattle.aos_compile.proofs.Passes.{stats_listed}
use Rattle.aos_compile.proofs.InTurn.{bodies_noted, bodies_answer, procedure_none}
use Rattle.aos_compile.proofs.objects.procedure_bodies.Goals.{in-Proc+in_ok-procedure_statements+in_ok-push+in_ok-scope, in_default}
use Rattle.aos_compile.proofs.objects.procedure_bodies.Goals as goal

pub loop-decl-preserved : goal.loop-decl-preserved
loop-decl-preserved c = elim c.match-decl.branch [
  | in-Proc+in_ok-procedure_statements+in_ok-push+in_ok-scope w ↦
      let e = c.args.env.now in
      let k = c.loop-decl.scope in
      let done = map (λ ss. seen_stats ss.items) c.loop-decl.bodies.items in
      let a = w.in-Proc.proc in
      let b = w.in_ok-procedure_statements.field-0 in
      let same = c.loop-decl.invariant.env in
      let met = c.loop-decl.found in
      let noted = w.found-is ∙ w.in_ok-procedure_statements.ensures.noted
      ∙ ap (λ (o : Outline). first_after met (body_of (within c.loop-decl.env k) false o.body).breaches) w.get-outline.ensures
      ∙ ap (λ (v : Env). first_after met (body_of (within v k) false a.outline.body).breaches) same in
      let told = ap (λ (bs : Vec (Vec TStat Global) Global). map (λ ss. seen_stats ss.items) bs.items) w.bodies-is
      ∙ ap (map (λ ss. seen_stats ss.items)) w.in_ok-push.ensures.items
      ∙ map-append (λ (ss : Vec TStat Global). seen_stats ss.items) c.loop-decl.bodies.items (b ∷ [])
      ∙ ap (λ z. done ++ z ∷ [])
      (stats_listed b.items ∙ ap listed (w.in_ok-procedure_statements.ensures.answer
      ∙ ap (λ (o : Outline). (body_of (within c.loop-decl.env k) false o.body).answer) w.get-outline.ensures
      ∙ ap (λ (v : Env). (body_of (within v k) false a.outline.body).answer) same)) in
      let one = w.scope-is ∙ w.in_ok-scope.ensures in
      let more = map (λ ss. seen_stats ss.items) c.match-decl.bodies.items in
      record {
        noted = bodies_noted e c.args.decls.now c.loop-decl.decl-index k c.match-decl.scope done more c.decl-item.result a met c.match-decl.found
            c.loop-decl-test.true c.decl-item.is w.in-Proc.is one told noted ∙ c.loop-decl.invariant.noted;
        answer = bodies_answer e c.args.decls.now c.loop-decl.decl-index k c.match-decl.scope done more c.decl-item.result a
            c.loop-decl-test.true c.decl-item.is w.in-Proc.is one told ∙ c.loop-decl.invariant.answer;
        env = w.env-is ∙ w.in_ok-procedure_statements.ensures.env ∙ same;
      }
  | in_default w ↦
      let skip = procedure_none c.args.decls.now c.loop-decl.decl-index c.decl-item.result c.loop-decl-test.true c.decl-item.is w.in_default.not-Proc in
      search (rules, skip)
]
