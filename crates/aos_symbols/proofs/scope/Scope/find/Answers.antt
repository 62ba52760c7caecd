use Rattle.std.proofs.Common.{◌∙◌, ap}
use Rattle.aos_symbols.specs.Scope as names
use Rattle.aos_symbols.proofs.Table.{find_named}
use Rattle.aos_symbols.proofs.scope.Scope.find.Goals as goal

pub returns : goal.returns
returns c =
    c.copied.ensures ∙ c.get.ensures.value ∙ find_named c.args.word.now c.self.inside.table.entries
    ∙ ap (λ s. names.find s c.args.word.now) c.self.view_is
