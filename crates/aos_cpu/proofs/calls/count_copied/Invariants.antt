use Rattle.std.proofs.Common.{◌≡◌, ◌<◌, ◌+◌, ◌-◌, ◌^◌, length, drop, min}
use Rattle.std.specs.Option.{option_map}
use Rattle.aos_store.specs.Store.{rooted_in}
use Rattle.aos_cpu.specs.Calls.{gifts, all_copied}
use Rattle.aos_cpu.proofs.calls.count_copied.Given as goal

-- what is copied is counted up to here
abbrev pub invariant-loop-param : goal.invariant-loop-param
invariant-loop-param l = record {
  counted : option_map (λ gs. min (length (all_copied gs)) (2 ^ 64 - 1)) (gifts (rooted_in l.frames l.store) l.params l.args) ≡
      option_map (λ gs. min (l.count + length (all_copied gs)) (2 ^ 64 - 1)) (gifts (rooted_in l.frames l.store) (drop l.param-index l.params) l.rest);
  within : l.count < 2 ^ 64;
}
