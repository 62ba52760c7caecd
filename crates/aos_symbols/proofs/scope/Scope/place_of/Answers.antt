use Rattle.std.proofs.Common.{◌∙◌, ap, sym}
use Rattle.std.specs.Option.{unwrap_or}
use Rattle.aos_symbols.specs.Scope as names
use Rattle.aos_symbols.proofs.Methods.{place_named}
use Rattle.aos_symbols.proofs.scope.Scope.place_of.Goals as goal

pub returns-in_default : goal.returns-in_default
returns-in_default c =
    ap (λ o. unwrap_or o 0) (sym c.in_default.is ∙ c.get_index_of.ensures.index ∙ place_named c.args.word.now c.self.inside.table.entries)
    ∙ ap (λ s. names.place_of s c.args.word.now) c.self.view_is

pub returns-in-Ok : goal.returns-in-Ok
returns-in-Ok c =
    c.in-Ok.ensures.1
    ∙ ap (λ o. unwrap_or o 0) (sym c.in-Some.is ∙ c.get_index_of.ensures.index ∙ place_named c.args.word.now c.self.inside.table.entries)
    ∙ ap (λ s. names.place_of s c.args.word.now) c.self.view_is
