-- For the parsers above: what `block` ensures, as steps of the machine of a grammar that has that of statements in it.
use Rattle.std.proofs.Common.{◌≡◌, ℕ, List, ◌∷◌, []}
use Rattle.aos_base.specs.declared.text.Pos.{Pos}
use Rattle.aos_scan.specs.declared.token.Token.{Token}
use Rattle.aos_tree.specs.declared.stat.Block.{Block}
use Rattle.aos_tree.specs.Nesting.{shallow}
use Rattle.aos_tree.specs.Begins.{CeasesAt, ExpectsAt, TooDeepAt}
use Rattle.aos_parse_expr.specs.declared.error.ParseErr.TheVariants as e
use Rattle.aos_parse_expr.specs.Machine.{Table, Refuses, run}
use Rattle.aos_parse_expr.proofs.Compose as compose
use Rattle.aos_parse_expr.proofs.Compose.{Embeds}
use Rattle.aos_parse_stat.specs.Grammar.{block_at}
use Rattle.aos_parse_stat.specs.Symbols as m
use Rattle.aos_parse_stat.specs.Symbols.{Sym}
use Rattle.aos_parse_stat.proofs.StatAnswer.{a_block, walk_block}
use Rattle.aos_parse_stat.proofs.StatWalk.{joins}
use Rattle.aos_parse_stat.proofs.StatYields as y
use Rattle.aos_parse_stat.proofs.StatYields.{Yields}

module _ {T : Type 0} (h : Table T) (f : Sym → T) (emb : Embeds m.table h f) (d : ℕ) where
  pub block_reads : (a : Block) (ts rest : List Token) → block_at d shallow a ts rest → CeasesAt (block_at d) ts rest → (k : List T) → run h shallow ts (f (m.block d) ∷ k) ≡ run h shallow rest k
  block_reads a ts rest tree at k = compose.reads_on m.table h f emb joins Yields y.sound y.empty y.sample (λ c. m.tok 0 c) y.only_takes (m.block d) (block_at d) (a_block d) 1 (walk_block d) a ts rest tree at k

  pub block_expected : (ts : List Token) (p : Pos) → ExpectsAt (block_at d) ts p → Refuses h (f (m.block d) ∷ []) ts (e.Expected p)
  block_expected ts p at = compose.expected_on m.table h f emb joins Yields y.sound y.empty y.sample (λ c. m.tok 0 c) y.only_takes (m.block d) (block_at d) (a_block d) 1 (walk_block d) y.depth_of y.low y.floor y.falls ts p at

  pub block_deep : (ts : List Token) (p : Pos) → TooDeepAt (block_at d) ts p → Refuses h (f (m.block d) ∷ []) ts (e.Deep p)
  block_deep ts p at = compose.deep_on m.table h f emb joins Yields y.sound y.empty y.sample (λ c. m.tok 0 c) y.only_takes (m.block d) (block_at d) (a_block d) 1 (walk_block d) y.depth_of y.low y.floor y.falls ts p at
