use Rattle.std.proofs.Common.{◌≡◌, ◌≤◌, take, length}
use Rattle.aos_symbols.specs.Home as home
use Rattle.aos_symbols.proofs.home.strings_of.Given as goal

abbrev pub invariant-loop-string : goal.invariant-loop-string
invariant-loop-string l = record {
  all : l.all.entries ≡ home.strings_of (take l.string-index l.strings);
  few : length l.all.entries ≤ l.string-index;
}
