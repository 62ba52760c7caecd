use Rattle.std.proofs.Common.{◌≡◌, take}
use Rattle.aos_tree.specs.ModuleGrammar as grammar
use Rattle.aos_parse_mod.proofs.text.strings_in.Given as goal

abbrev pub invariant-loop-token : goal.invariant-loop-token
invariant-loop-token l = l.found ≡ grammar.strings_in (take l.token-index l.tokens)
