-- A module of the typed program, from its parts.
use Rattle.std.proofs.Common.{ℕ, ◌++◌, slice_get, suc, length, Vec, Global, map, ap, ◌∙◌}
use Rattle.std.specs.List.{zip}
use Rattle.aos_typed.specs.declared.tree.TStat.{TStat}
use Rattle.aos_typed.specs.Seen.{seen_variable, seen_procedure, seen_stats, seen_body}
use Rattle.aos_symbols.specs.Declarations.{procedures, type_defs, single_variables}
use Rattle.aos_symbols.specs.Home.{texts_of}
use Rattle.aos_arguments.specs.Filled.{filled_texts}
use Rattle.aos_variables.specs.Parts as parts
use Rattle.aos_compile.specs.Modules as judge
use Rattle.aos_compile.proofs.Passes.{stats_listed}
use Rattle.aos_compile.proofs.modules.module_of.Goals as goal

pub returns : goal.returns
returns c =
    let e = c.args.env.now in
    let tree = c.args.tree.now in
    let bodies = map (λ (ss : Vec TStat Global). seen_stats ss.items) c.args.bodies.items in
    let spelled = parts.spelling e.here.text tree.name in
    let variables = map (parts.variable_of e.here.text) (zip (single_variables tree.decls) (parts.variables_of (slice_get e.here.scopes 0))) in
    let procs = judge.procedures_of e.here.text e.here.scopes (parts.first_scope tree) (procedures tree.decls) e.here.signatures bodies in
    let parts = c.in_ok-name in
    let procedures = c.in_ok-procedures.ensures
    ∙ ap (λ ds. judge.procedures_of e.here.text e.here.scopes (suc (length (type_defs ds))) (procedures ds) e.here.signatures bodies) c.as_slice.ensures in
    let body = seen_body c.is_exclusive_body.result c.args.body.items in
    let exclusive = c.is_exclusive_body.ensures ∙ ap (λ t. judge.has_exclusive t tree.body) c.text.ensures in
    let told = map seen_procedure c.in_ok-procedures.procedures.items in
    let given = map (λ (t : Vec ℕ Global). t.items) parts.texts.items in
    let texts = texts_of e.here ++ filled_texts e in
    ap (λ n. record { name = n; variables = map seen_variable parts.variables.items; texts = given; procedures = told; body = body }) parts.ensures.name
    ∙ ap (λ vs. record { name = spelled; variables = vs; texts = given; procedures = told; body = body }) parts.ensures.variables
    ∙ ap (λ ts. record { name = spelled; variables = variables; texts = ts; procedures = told; body = body }) parts.ensures.texts
    ∙ ap (λ ps. record { name = spelled; variables = variables; texts = texts; procedures = ps; body = body }) procedures
    ∙ ap (λ b. record { name = spelled; variables = variables; texts = texts; procedures = procs; body = seen_body b c.args.body.items }) exclusive
    ∙ ap (λ b. record { name = spelled; variables = variables; texts = texts; procedures = procs; body = judge.body_with e.here.text tree.body b }) (stats_listed c.args.body.items)
