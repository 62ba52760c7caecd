-- The parts, told of the procedure's tree.
use Rattle.std.proofs.Common.{drop, length, map, ap, ap₂, ◌∙◌}
use Rattle.std.specs.List.{zip}
use Rattle.std.specs.Option.{option_copied}
use Rattle.aos_tree.specs.declared.decl.Outline.{Outline}
use Rattle.aos_symbols.specs.Declarations.{formal_names, single_variables}
use Rattle.aos_variables.specs.Parts as judge
use Rattle.aos_variables.proofs.headings.heading_of.Goals as goal

pub returns : goal.returns
returns c =
    let text = c.args.text.now in
    let variables = judge.variables_of (option_copied c.args.scope) in
    let names = c.in_ok-names.ensures ∙ ap (λ (o : Outline). formal_names o.formals) c.get-outline.ensures in
    record {
      name = c.in_ok-name.ensures ∙ ap (λ (o : Outline). judge.spelling text o.def.name) c.get-outline.ensures;
      parameters = c.in_ok-parameters.ensures
          ∙ ap₂ (λ ns ps. map (judge.parameter_of text) (zip ns ps)) (c.as_slice.ensures.value ∙ names) c.as_slice-2.ensures;
      locals = c.in_ok-locals.ensures
          ∙ ap₂ (λ ds n. map (judge.variable_of text) (zip (single_variables ds) (drop n variables))) c.as_slice-3.ensures
          (c.len.ensures ∙ c.in_ok-names.names.ok.0 ∙ ap length names);
    }
