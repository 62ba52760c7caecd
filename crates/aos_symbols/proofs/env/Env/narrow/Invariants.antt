use Rattle.std.proofs.Common.{◌≡◌, take}
use Rattle.aos_symbols.proofs.env.Env.narrow.Given as goal

abbrev pub invariant-loop-around : goal.invariant-loop-around
invariant-loop-around l = l.narrowed ≡ take l.around-index l.around-items
