-- The bodies of a module, from their parts.
use Rattle.std.proofs.Common.{◌≡◌, ◌++◌, suc, length, List, [], false, ℕ, Vec, Global, map, append-nil, ap, sym, ◌∙◌}
use Rattle.aos_typed.specs.declared.tree.TStat.{TStat}
use Rattle.aos_typed.specs.Program.{Stats}
use Rattle.aos_typed.specs.Seen.{seen_stat, seen_stats}
use Rattle.aos_symbols.specs.declared.env.Env.{Env}
use Rattle.aos_symbols.specs.Breaches.{first_after}
use Rattle.aos_symbols.specs.Judged.{Judged, walk}
use Rattle.aos_symbols.specs.Declarations.{procedures, type_defs}
use Rattle.aos_symbols.proofs.Keeping.{after_two}
use Rattle.aos_check_stat.specs.Bodies.{body_of}
use Rattle.aos_variables.specs.Parts as parts
use Rattle.aos_compile.specs.Modules as judge
use Rattle.aos_compile.proofs.objects.bodies_of.Goals as goal

pub returns : goal.returns
returns c =
    let e = c.args.env.now in
    let tree = c.args.tree.now in
    let k = parts.first_scope tree in
    let met = c.args.found.now in
    let found = c.all_objects.new.found in
    let behind = c.procedure_bodies.new.found in
    let first : c.in_ok-first.first ≡ k = c.in_ok-first.ensures ∙ ap (λ ds. suc (length (type_defs ds))) c.as_slice-decls.ensures in
    let same : c.procedure_bodies.new.env ≡ e = c.in_ok-procedures.ensures.env ∙ c.in_ok-objects.ensures.env in
    let walked : ℕ → Judged (List judge.Beside) = λ j. walk (judge.object_in e j) [] (type_defs tree.decls) in
    let of_procedures = judge.bodies_from e k [] (procedures tree.decls) in
    let own = body_of e false tree.body in
    let bodies : judge.bodies_from c.all_objects.new.env c.in_ok-first.first [] (procedures c.as_slice-decls.result.now) ≡ of_procedures =
    ap (λ (v : Env). judge.bodies_from v c.in_ok-first.first [] (procedures c.as_slice-decls.result.now)) c.in_ok-objects.ensures.env
    ∙ ap (λ j. judge.bodies_from e j [] (procedures c.as_slice-decls.result.now)) first
    ∙ ap (λ ds. judge.bodies_from e k [] (procedures ds)) c.as_slice-decls.ensures in
    let os = (walked k).answer ++ judge.other_types e tree in
    let told = map (λ (ss : Vec TStat Global). seen_stats ss.items) c.in_ok-procedures.procedures.items in
    let said = map seen_stat c.in_ok-own.own.items in
    record {
      noted = after_two met (walked k).breaches (of_procedures.breaches ++ (own.breaches ++ []))
          (c.in_ok-objects.ensures.noted ∙ ap (λ j. first_after met (walked j).breaches) first)
          (after_two found of_procedures.breaches (own.breaches ++ [])
          (c.in_ok-procedures.ensures.noted ∙ ap (λ (j : Judged (List Stats)). first_after found j.breaches) bodies)
          (c.in_ok-own.ensures.noted ∙ ap (λ (v : Env). first_after behind (body_of v false tree.body).breaches) same ∙ ap (first_after behind) (sym (append-nil own.breaches))));
      answer = ap (λ l. record { objects = l; procedures = told; own = said }) (c.in_ok-objects.ensures.answer ∙ ap (λ j. (walked j).answer ++ judge.other_types e tree) first)
          ∙ ap (λ l. record { objects = os; procedures = l; own = said }) (c.in_ok-procedures.ensures.answer ∙ ap (λ (j : Judged (List Stats)). j.answer) bodies)
          ∙ ap (λ l. record { objects = os; procedures = of_procedures.answer; own = l }) (c.in_ok-own.ensures.answer ∙ ap (λ (v : Env). (body_of v false tree.body).answer) same);
      env = c.in_ok-own.ensures.env ∙ same;
    }
