-- The loop over lengths: they are those of the walk so far.
use Rattle.std.proofs.Common.{◌≡◌, [], drop, map}
use Rattle.aos_typed.specs.Seen.{seen_expr}
use Rattle.aos_symbols.specs.Breaches.{first_after}
use Rattle.aos_symbols.specs.Judged.{walk}
use Rattle.aos_check_routines.specs.Routines.{with_length}
use Rattle.aos_check_routines.proofs.news.lengths_of.Given as goal

abbrev pub invariant-loop-part : goal.invariant-loop-part
invariant-loop-part l = record {
  noted : first_after l.found (walk (with_length l.env l.at l.of) (map seen_expr l.lengths) (drop l.part-index l.parts)).breaches ≡ first_after l.initial.found (walk (with_length l.env l.at l.of) [] l.parts).breaches;
  answer : (walk (with_length l.env l.at l.of) (map seen_expr l.lengths) (drop l.part-index l.parts)).answer ≡ (walk (with_length l.env l.at l.of) [] l.parts).answer;
}
