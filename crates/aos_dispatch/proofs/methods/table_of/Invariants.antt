use Rattle.std.proofs.Common.{◌≡◌, vec_len}
use Rattle.aos_typed.specs.Methods.{slots, own_numbers}
use Rattle.aos_typed.specs.Seen.{seen_program}
use Rattle.aos_dispatch.specs.Tables.{put_all}
use Rattle.aos_dispatch.proofs.methods.table_of.Given as goal

-- the table so far, and the types that are left
abbrev pub invariant-loop-of : goal.invariant-loop-of
invariant-loop-of l =
    let p = seen_program l.program in
    put_all (own_numbers p) l.table.items l.chain.items ≡ slots p (own_numbers p) l.fn.t

abbrev pub decreases-loop-of : goal.decreases-loop-of
decreases-loop-of l = vec_len l.chain
