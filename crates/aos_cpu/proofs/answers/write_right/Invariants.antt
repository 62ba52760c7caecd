use Rattle.std.proofs.Common.{◌≡◌, ◌≤◌, ◌+◌, ◌-◌, ◌++◌, length, take, replicate, vec_len, vec_capacity}
use Rattle.aos_cpu.proofs.answers.write_right.Given as goal

-- so many blanks have been written
abbrev pub invariant-loop : goal.invariant-loop
invariant-loop l = record {
  blanks : l.output.items ≡ l.fn.output.items ++ replicate (l.counter - length l.digits) 32;
  few : l.counter - length l.digits ≤ l.places - length l.digits;
  len : vec_len l.output ≡ vec_len l.fn.output + (l.counter - length l.digits);
  capacity : vec_capacity l.output ≡ vec_capacity l.fn.output;
}

-- and so many digits
abbrev pub invariant-loop-digit : goal.invariant-loop-digit
invariant-loop-digit l = record {
  digits : l.output.items ≡ l.initial.output.items ++ take l.digit-index l.digits;
  len : vec_len l.output ≡ vec_len l.initial.output + l.digit-index;
  capacity : vec_capacity l.output ≡ vec_capacity l.initial.output;
}
