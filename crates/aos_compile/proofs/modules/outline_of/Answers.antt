-- The parts, told of the module's tree.
use Rattle.std.proofs.Common.{slice_get, map, ap, ◌∙◌}
use Rattle.std.specs.List.{zip}
use Rattle.aos_symbols.specs.Declarations.{single_variables}
use Rattle.aos_variables.specs.Parts as parts
use Rattle.aos_compile.proofs.modules.outline_of.Goals as goal

pub returns : goal.returns
returns c =
    let here = c.args.env.now.here in
    record {
      name = c.in_ok-name.ensures ∙ ap (λ t. parts.spelling t c.args.tree.now.name) c.text.ensures;
      variables = c.in_ok-variables.ensures
          ∙ ap (λ ds. map (parts.variable_of here.text) (zip (single_variables ds) (parts.variables_of (slice_get here.scopes 0)))) c.as_slice.ensures;
      texts = c.in_ok-texts.ensures;
    }
