use Rattle.std.proofs.Common.{◌≡◌, ◌-◌, ◌++◌, length}
use Rattle.aos_typed.specs.Methods.{on_base}
use Rattle.aos_typed.specs.Seen.{seen_program}
use Rattle.aos_dispatch.specs.Tables.{chain_by}
use Rattle.aos_dispatch.proofs.upward.chain_of.Given as goal

-- the chain so far, and what is left of it
abbrev pub invariant-loop-step : goal.invariant-loop-step
invariant-loop-step l =
    let p = seen_program l.program in
    let n = length l.program.objects.items in
    l.chain.items ++ on_base (chain_by p (n - l._step)) l.rest ≡ chain_by p n l.t
