use Rattle.std.proofs.Common.{◌≡◌, ◌-◌, ◌≤◌, length}
use Rattle.aos_scan.specs.Position.{position}
use Rattle.aos_scan.specs.TokenList.{AreTokens}
use Rattle.aos_scan.proofs.scanner.token_list.Given as goal

abbrev pub invariant-loop-token : goal.invariant-loop-token
invariant-loop-token l = record {
  made : AreTokens l.text 0 l.tokens.items l.at;
  within : l.at ≤ length l.text;
  place : l.pos ≡ position l.text l.at;
}

abbrev pub decreases-loop-token : goal.decreases-loop-token
decreases-loop-token l = length l.text - l.at
