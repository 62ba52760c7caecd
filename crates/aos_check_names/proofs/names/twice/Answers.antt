use Rattle.std.proofs.Common.{◌+◌, ap, ◌∙◌, take, drop, get_or, not}
use Rattle.aos_tree.specs.declared.name.Name.{Name}
use Rattle.aos_symbols.specs.Breaches.{first_after}
use Rattle.aos_check_names.specs.Names.{twice_after}
use Rattle.aos_check_names.proofs.Words.{met_before, twice_step, words_more}
use Rattle.aos_check_names.proofs.names.twice.Goals as goal

-- what `get_or` reads past the end of a list of names
abbrev no_name : Name
no_name = record { start = 0; end = 0; pos = record { line = 0; col = 0 } }

pub loop-name-preserved : goal.loop-name-preserved
loop-name-preserved c =
    let text = c.args.text.now in
    let names = c.args.names.now in
    let i = c.loop-name.name-index in
    let before = met_before text c.loop-name.met.keys (take i names) (get_or names i no_name) c.word.result.now c.in_ok-is_new.is_new c.word.ensures c.in_ok-is_new.ensures.added c.loop-name.invariant.words in
    record {
      breaches = ap (λ f. first_after f (twice_after text (take (i + 1) names) (drop (i + 1) names))) c.declared_again.ensures
          ∙ twice_step text names i no_name (not c.in_ok-is_new.is_new) c.loop-name.found c.loop-name-test.true before ∙ c.loop-name.invariant.breaches;
      words = words_more text c.loop-name.met.keys c.insert.new.self.keys names i no_name c.word.result.now c.loop-name-test.true c.word.ensures (λ q. c.in_ok-is_new.ensures.updates.0 q) c.loop-name.invariant.words;
    }
