use Rattle.std.proofs.Common.{◌≡◌, ◌-◌, ◌^◌, min, take}
use Rattle.std.specs.Str.Parse.{AllDigits, digits_value}
use Rattle.aos_script.proofs.number.number.Given as goal

abbrev pub invariant-loop-b : goal.invariant-loop-b
invariant-loop-b l = record {
  digits : AllDigits 10 (take l.b-index l.word);
  capped : l.n ≡ min (digits_value 10 (take l.b-index l.word)) (2 ^ 64 - 1);
}
