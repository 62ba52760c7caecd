-- There is none before the first.
use Rattle.std.proofs.Common.{Vec, Global, ◌++◌, drop, map, ap, ◌∙◌}
use Rattle.aos_typed.specs.declared.tree.TStat.{TStat}
use Rattle.aos_typed.specs.Seen.{seen_stats, seen_procedure}
use Rattle.aos_symbols.specs.Declarations.{procedures}
use Rattle.aos_compile.specs.Modules as judge
use Rattle.aos_compile.proofs.procedures.procedures_of.Goals as goal

pub returns : goal.returns
returns c =
    let here = c.args.env.now.here in
    let bodies = map (λ (ss : Vec TStat Global). seen_stats ss.items) c.args.bodies.items in
    let these = judge.procedures_of here.text here.scopes c.args.first (procedures c.args.decls.now) (drop c.args.signed here.signatures) bodies in
    c.in_ok-add_procedures.ensures ∙ ap (λ ps. map seen_procedure ps ++ these) c.new-all.ensures.items
