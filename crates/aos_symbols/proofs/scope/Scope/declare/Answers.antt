use Rattle.std.proofs.Common.{◌≡◌, ◌++◌, ◌∷◌, [], false, None, is_some, sym, ap, ◌∙◌}
use Rattle.aos_symbols.specs.Scope as names
use Rattle.aos_symbols.proofs.Table.{named_more, none_of, new_name}
use Rattle.aos_symbols.proofs.scope.Scope.declare.Goals as goal

pub returns-clause-declared : goal.returns-clause-declared
returns-clause-declared c =
    let n : names.Named = (c.args.word.now, c.args.entry) in
    let inside : names.Scope = record { entries = names.seen_names c.self.inside.table.entries; constants = c.self.inside.constants.items; variables = c.self.inside.variables.items } in
    let none : names.find c.args.self.now c.args.word.now ≡ None = sym c.find.ensures ∙ none_of c.find.result (sym c.is_some.ensures ∙ c.if-is_some.false) in
    let lacking : names.has c.args.self.now c.args.word.now ≡ false = ap (λ o. is_some o) none in
    let more = named_more c.args.word c.args.entry c.self.inside.table.entries (ap (λ s. names.find s c.args.word.now) c.self.view_is ∙ none) in
    ap (λ es. record { entries = es; constants = c.self.inside.constants.items; variables = c.self.inside.variables.items }) (ap names.seen_names c.in_ok-insert.ensures.entries ∙ more)
    ∙ ap (λ (s : names.Scope). record s { entries = s.entries ++ n ∷ [] }) c.self.view_is
    ∙ sym (new_name c.args.self.now n lacking)
