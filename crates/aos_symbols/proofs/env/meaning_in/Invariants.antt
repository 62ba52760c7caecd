use Rattle.std.proofs.Common.{◌≡◌, drop, map, bytes_eq}
use Rattle.std.specs.Map.{lookup}
use Rattle.aos_symbols.proofs.env.meaning_in.Given as goal

abbrev pub invariant-loop-spelled : goal.invariant-loop-spelled
invariant-loop-spelled l =
    lookup (λ k. bytes_eq k l.word) (map (λ r. (r.0.now, r.1)) (drop l.spelled-index l.table)) ≡ lookup (λ k. bytes_eq k l.word) (map (λ r. (r.0.now, r.1)) l.table)
