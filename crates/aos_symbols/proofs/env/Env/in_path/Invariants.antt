use Rattle.std.proofs.Common.{◌≡◌, drop}
use Rattle.aos_symbols.specs.Env as env
use Rattle.aos_symbols.proofs.env.Env.in_path.Given as goal

abbrev pub invariant-loop-at : goal.invariant-loop-at
invariant-loop-at l = env.in_path l.self (drop l.at-index l.at-items) l.word ≡ env.in_path l.self l.self.path l.word
