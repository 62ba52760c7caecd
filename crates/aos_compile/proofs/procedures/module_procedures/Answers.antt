-- The first one has the first scope.
use Rattle.std.proofs.Common.{Vec, Global, map, ap, ◌∙◌}
use Rattle.aos_typed.specs.declared.tree.TStat.{TStat}
use Rattle.aos_typed.specs.Seen.{seen_stats}
use Rattle.aos_symbols.specs.Declarations.{procedures}
use Rattle.aos_compile.specs.Modules as judge
use Rattle.aos_compile.proofs.procedures.module_procedures.Goals as goal

pub returns : goal.returns
returns c =
    let here = c.args.env.now.here in
    let bodies = map (λ (ss : Vec TStat Global). seen_stats ss.items) c.args.bodies.items in
    c.in_ok-procedures.ensures ∙ ap (λ k. judge.procedures_of here.text here.scopes k (procedures c.args.decls.now) here.signatures bodies) c.in_ok-first.ensures
