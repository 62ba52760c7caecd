-- A procedure of the typed program, from its parts.
use Rattle.std.proofs.Common.{None, is_some, drop, length, map, ap, ◌∙◌}
use Rattle.std.specs.List.{zip}
use Rattle.std.specs.Option.{option_copied}
use Rattle.aos_tree.specs.declared.decl.Outline.{Outline}
use Rattle.aos_typed.specs.Program.{Stats, Body}
use Rattle.aos_typed.specs.Seen.{seen_parameter, seen_variable, seen_stats}
use Rattle.aos_symbols.specs.Declarations.{formal_names, single_variables}
use Rattle.aos_variables.specs.Parts as parts
use Rattle.aos_compile.specs.Modules.{has_exclusive}
use Rattle.aos_compile.proofs.procedures.procedure_of.Goals as goal

pub returns : goal.returns
returns c =
    let text = c.args.text.now in
    let p = c.args.proc.now in
    let s = c.args.signature.now in
    let heading = c.in_ok-name in
    let place = c.get-outline.result.now.def.name.pos in
    let initial = is_some p.outline.initializer in
    let names = formal_names p.outline.formals in
    let spelled = parts.spelling text p.outline.def.name in
    let given = map (parts.parameter_of text) (zip names s.parameters) in
    let own = map (parts.variable_of text) (zip (single_variables p.decls) (drop (length names) (parts.variables_of (option_copied c.args.scope)))) in
    let begins = c.is_some.result in
    let gives = c.result_of.result in
    let told = map seen_parameter heading.parameters.items in
    let held = map seen_variable heading.locals.items in
    let statements : Stats = seen_stats c.args.body.items in
    let body : Body = record { is_exclusive = c.is_exclusive_body.result; statements = statements } in
    ap (λ n. record { name = n; at = place; of = None; is_initializer = begins; parameters = told; locals = held; result = gives; body = body }) heading.ensures.name
    ∙ ap (λ ps. record { name = spelled; at = place; of = None; is_initializer = begins; parameters = ps; locals = held; result = gives; body = body }) heading.ensures.parameters
    ∙ ap (λ vs. record { name = spelled; at = place; of = None; is_initializer = begins; parameters = given; locals = vs; result = gives; body = body }) heading.ensures.locals
    ∙ ap (λ b. record { name = spelled; at = place; of = None; is_initializer = b; parameters = given; locals = own; result = gives; body = body })
    (c.is_some.ensures ∙ ap (λ (o : Outline). is_some o.initializer) c.get-outline.ensures)
    ∙ ap (λ g. record { name = spelled; at = place; of = None; is_initializer = initial; parameters = given; locals = own; result = g; body = body }) c.result_of.ensures
    ∙ ap (λ b. record { name = spelled; at = place; of = None; is_initializer = initial; parameters = given; locals = own; result = parts.result_of s.gives; body = record { is_exclusive = b; statements = statements } })
    (c.is_exclusive_body.ensures ∙ ap (λ (o : Outline). has_exclusive text o.body) c.get-outline.ensures)
    ∙ ap (λ (o : Outline). record { name = spelled; at = o.def.name.pos; of = None; is_initializer = initial; parameters = given; locals = own; result = parts.result_of s.gives; body = record { is_exclusive = has_exclusive text p.outline.body; statements = statements } }) c.get-outline.ensures
