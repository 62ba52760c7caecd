use Rattle.aos_parse_stat.specs.Grammar.{block_at}
use Rattle.aos_parse_stat.specs.Symbols as m
use Rattle.aos_parse_stat.specs.Symbols.{Sym}
use Rattle.aos_parse_stat.proofs.Above as above
use Rattle.aos_parse_expr.proofs.Exclusion.{exclude}
use Rattle.aos_parse_expr.proofs.Compose.{itself}
use Rattle.aos_parse_stat.proofs.StatYields.{only_takes}
use Rattle.aos_parse_stat.proofs.laws.exclusive.Goals as goal

pub returns : goal.returns
returns c = λ d ts. exclude m.table (m.block d) (block_at d) (λ k. m.tok 0 k) only_takes
    (above.block_reads m.table (λ (x : Sym). x) (itself m.table) d) (above.block_expected m.table (λ (x : Sym). x) (itself m.table) d) (above.block_deep m.table (λ (x : Sym). x) (itself m.table) d) ts
