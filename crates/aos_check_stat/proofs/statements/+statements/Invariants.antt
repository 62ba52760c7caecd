-- What was noted and put so far, and what the rest leads to, is what the whole leads to.
use Rattle.std.proofs.Common.{◌≡◌, [], drop, map}
use Rattle.aos_typed.specs.Seen.{seen_stat, cases_of}
use Rattle.aos_symbols.specs.Breaches.{first_after}
use Rattle.aos_symbols.specs.Judged.{Judged, walk}
use Rattle.aos_typed.specs.Program.{Arms, Cases}
use Rattle.aos_check_stat.specs.Bodies as judge
use Rattle.aos_check_stat.specs.Listed as listed
use Rattle.aos_stat_rules.specs.Taken.{AreTaken}
use Rattle.aos_made_stat.specs.Onto.{onto}
use Rattle.aos_check_stat.proofs.statements.+statements.Given as goal

abbrev pub invariant-stats_in-loop-stat : goal.invariant-stats_in-loop-stat
invariant-stats_in-loop-stat l = record {
  noted : first_after l.found (walk (judge.stat_in l.initial.env l.in_loop) (map seen_stat l.all) (drop l.stat-index l.stats)).breaches ≡ first_after l.initial.found (walk (judge.stat_in l.initial.env l.in_loop) [] l.stats).breaches;
  answer : (walk (judge.stat_in l.initial.env l.in_loop) (map seen_stat l.all) (drop l.stat-index l.stats)).answer ≡ (walk (judge.stat_in l.initial.env l.in_loop) [] l.stats).answer;
  env : l.env ≡ l.initial.env;
}

abbrev pub invariant-put_arms-loop-elsif : goal.invariant-put_arms-loop-elsif
invariant-put_arms-loop-elsif l =
    record {
      noted : (last : Judged Arms) → first_after l.found (listed.arms_in l.initial.env l.in_loop (drop l.elsif-index l.elsifs) last).breaches ≡ first_after l.initial.found (listed.arms_in l.initial.env l.in_loop l.elsifs last).breaches;
      answer : (last : Judged Arms) → onto l.arms (listed.arms_in l.initial.env l.in_loop (drop l.elsif-index l.elsifs) last).answer ≡ onto l.initial.arms (listed.arms_in l.initial.env l.in_loop l.elsifs last).answer;
      env : l.env ≡ l.initial.env;
    }

abbrev pub invariant-cases_in-loop-arm : goal.invariant-cases_in-loop-arm
invariant-cases_in-loop-arm l =
    record {
      taken : AreTaken l.labels.all.items l.labels.taken;
      noted : (last : Judged Cases) → first_after l.found (listed.cases_of l.initial.env l.in_loop l.of l.labels.all.items (drop l.arm-index l.arms) last).breaches ≡ first_after l.initial.found (listed.cases_of l.initial.env l.in_loop l.of [] l.arms last).breaches;
      answer : (last : Judged Cases) → cases_of l.all (listed.cases_of l.initial.env l.in_loop l.of l.labels.all.items (drop l.arm-index l.arms) last).answer ≡ (listed.cases_of l.initial.env l.in_loop l.of [] l.arms last).answer;
      env : l.env ≡ l.initial.env;
    }
