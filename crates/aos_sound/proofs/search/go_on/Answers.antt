-- The goals of go_on that the search leaves open.
use Rattle.std.proofs.Common.{subst}
use Rattle.aos_sound.specs.Stacks.{stack_at}
use Rattle.aos_sound.specs.Search.{Known, KnownOrMisses}
use Rattle.aos_sound.proofs.Searches.{numbers_kept, either_arrives, either_goes}
use Rattle.aos_sound.proofs.search.go_on.Goals as goal

pub arrive-requires-in-Either-2-clause-numbers : goal.arrive-requires-in-Either-2-clause-numbers
arrive-requires-in-Either-2-clause-numbers c = numbers_kept c.in_ok-arrive-in-Either.ensures.arrives c.requires.numbers

pub returns-in_ok-arrive-in-Either-2-clause-arrives : goal.returns-in_ok-arrive-in-Either-2-clause-arrives
returns-in_ok-arrive-in-Either-2-clause-arrives c = either_arrives c.args.at c.in-Either.is c.in_ok-arrive-in-Either.ensures.arrives c.in_ok-arrive-in-Either-2.ensures.arrives

pub returns-in_ok-arrive-in-Either-2-clause-leads : goal.returns-in_ok-arrive-in-Either-2-clause-leads
returns-in_ok-arrive-in-Either-2-clause-leads c =
    let known : Known c.args.stacks.now c.arrive-in-Either.new.table.items c.in-Either.to (stack_at c.args.stacks.now c.args.id) = subst (λ b. KnownOrMisses c.args.stacks.now c.in-Either.to (stack_at c.args.stacks.now c.args.id) b c.arrive-in-Either.new.table.items) c.if-not-branch.false c.in_ok-arrive-in-Either.ensures.comes in
    either_goes c.args.at c.in-Either.is known c.in_ok-arrive-in-Either-2.ensures.arrives c.in_ok-arrive-in-Either-2.field-0 c.in_ok-arrive-in-Either-2.ensures.comes
