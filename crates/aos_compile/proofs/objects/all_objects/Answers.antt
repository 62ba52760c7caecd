-- First stand the types of the module's own declarations, and then the others.
use Rattle.std.proofs.Common.{◌≡◌, ◌++◌, List, [], ap, ap₂, ◌∙◌}
use Rattle.aos_tree.specs.declared.decl.TypeDef.{TypeDef}
use Rattle.aos_symbols.specs.declared.env.Env.{Env}
use Rattle.aos_symbols.specs.Breaches.{first_after}
use Rattle.aos_symbols.specs.Judged.{Judged, walk}
use Rattle.aos_symbols.specs.Declarations.{type_defs, seen_types}
use Rattle.aos_compile.specs.Modules as judge
use Rattle.aos_compile.proofs.objects.all_objects.Goals as goal

pub returns : goal.returns
returns c =
    let e = c.args.env.now in
    let tree = c.args.tree.now in
    let own = c.in_ok-objects.ensures in
    let defs : seen_types c.deref.result.now ≡ type_defs tree.decls = ap seen_types c.deref.ensures.value ∙ c.in_ok-defs.ensures ∙ ap type_defs c.as_slice.ensures in
    let walked : List TypeDef → Judged (List judge.Beside) = λ ds. walk (judge.object_in e c.args.first) [] ds in
    record {
      noted = own.noted ∙ ap (λ ds. first_after c.args.found.now (walked ds).breaches) defs;
      answer = c.in_ok-add_others.ensures
          ∙ ap₂ (λ os (v : Env). os ++ judge.other_types v tree) (own.answer ∙ ap (λ ds. (walked ds).answer) defs) own.env;
      env = own.env;
    }
