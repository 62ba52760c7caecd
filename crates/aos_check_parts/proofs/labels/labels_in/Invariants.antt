-- What was noted and put so far, and what the rest leads to, is what the whole leads to.
use Rattle.std.proofs.Common.{◌≡◌, drop}
use Rattle.aos_symbols.specs.Breaches.{first_after}
use Rattle.aos_symbols.specs.Judged.{walk}
use Rattle.aos_check_parts.specs.Parts as judge
use Rattle.aos_stat_rules.specs.Taken.{AreTaken}
use Rattle.aos_check_parts.proofs.labels.labels_in.Given as goal

abbrev pub invariant-loop-label : goal.invariant-loop-label
invariant-loop-label l =
    let rest = walk (judge.label_in l.env l.of) l.labels.all.items (drop l.label-index l.arm) in
    let all = walk (judge.label_in l.env l.of) l.initial.labels.all.items l.arm in
    record {
      taken : AreTaken l.labels.all.items l.labels.taken;
      noted : first_after l.found rest.breaches ≡ first_after l.initial.found all.breaches;
      answer : rest.answer ≡ all.answer;
    }
