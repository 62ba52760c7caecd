-- The loop over procedures, each with its signature, its scope and its statements.
use Rattle.std.proofs.Common.{◌≡◌, ◌++◌, length, map, drop}
use Rattle.std.specs.Vec.Iter.{into_iter_items, into_iter_len}
use Rattle.aos_typed.specs.Seen.{seen_stats, seen_procedure}
use Rattle.aos_symbols.specs.Declarations.{procedures}
use Rattle.aos_compile.specs.Modules as judge
use Rattle.aos_compile.proofs.procedures.add_procedures.Given as goal

abbrev pub invariant-loop-decl : goal.invariant-loop-decl
invariant-loop-decl l =
    let here = l.env.here in record {
      told : map seen_procedure l.all.items
          ++ judge.procedures_of here.text here.scopes l.scope (procedures (drop l.decl-index l.decls)) (drop l.number here.signatures)
          (map (λ ss. seen_stats ss.items) (into_iter_items l.bodies))
          ≡ map seen_procedure l.initial.all.items ++ judge.procedures_of here.text here.scopes l.first (procedures l.decls) (drop l.signed here.signatures)
          (map (λ ss. seen_stats ss.items) l.fn.bodies.items);
      left : into_iter_len l.bodies ≡ length (into_iter_items l.bodies);
    }
