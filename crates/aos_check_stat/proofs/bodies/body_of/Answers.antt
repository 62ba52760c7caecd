-- What a body breaks, and its statements, in an exclusive block where it is one.
use Rattle.std.proofs.Common.{[], ◌++◌, map, false, sym, ap, ◌∙◌}
use Rattle.aos_typed.specs.Seen.{seen_stat}
use Rattle.aos_symbols.specs.Breaches.{first_after}
use Rattle.aos_symbols.proofs.Keeping.{after_more}
use Rattle.aos_check_stat.specs.Bodies as judge
use Rattle.aos_check_stat.specs.Listed as parts
use Rattle.aos_check_stat.proofs.Rows.{stats_seen}
use Rattle.aos_check_stat.proofs.bodies.body_of.Goals as goal

pub returns-in_ok-stats-in-Some-clause-noted : goal.returns-in_ok-stats-in-Some-clause-noted
returns-in_ok-stats-in-Some-clause-noted c =
    let e = c.args.env.now in
    let met = c.args.found.now in
    let active = c.args.may_be_active in
    let b = c.in-Some.held in
    let modifiers = c.as_slice-modifiers.ensures ∙ ap (λ z. z.modifiers) c.get-block.ensures in
    let stats = c.as_slice.ensures ∙ ap (λ z. z.body.stats) c.get-block.ensures in
    let flag = c.are_exclusive-exclusive.ensures
    ∙ ap (λ w. judge.are_exclusive w c.as_slice-modifiers.result.now) c.text-text.ensures
    ∙ ap (judge.are_exclusive e.here.text) modifiers in
    let own = judge.body_breaches e active b.modifiers in
    let inner = judge.within_body b.modifiers e in
    let ss = (parts.listed_in inner false b.body.stats).breaches in
    let first = c.in_ok-refuse_of_body-in-Some.ensures ∙ ap (λ l. first_after met (judge.body_breaches e active l)) modifiers in
    let second = c.in_ok-stats-in-Some.ensures.noted
    ∙ ap (λ x. first_after c.refuse_of_body.new.found (parts.listed_in (judge.in_region x e) false c.as_slice.result.now).breaches) flag
    ∙ ap (λ l. first_after c.refuse_of_body.new.found (parts.listed_in inner false l).breaches) stats in
    second
    ∙ ap (λ m. first_after m ss) first
    ∙ sym (after_more met own ss)
    ∙ sym (ap (λ o. first_after met (judge.body_of e active o).breaches) c.in-Some.is)

pub returns-in_ok-stats-in-Some-clause-answer : goal.returns-in_ok-stats-in-Some-clause-answer
returns-in_ok-stats-in-Some-clause-answer c =
    let e = c.args.env.now in
    let b = c.in-Some.held in
    let modifiers = c.as_slice-modifiers.ensures ∙ ap (λ z. z.modifiers) c.get-block.ensures in
    let stats = c.as_slice.ensures ∙ ap (λ z. z.body.stats) c.get-block.ensures in
    let flag = c.are_exclusive-exclusive.ensures
    ∙ ap (λ w. judge.are_exclusive w c.as_slice-modifiers.result.now) c.text-text.ensures
    ∙ ap (judge.are_exclusive e.here.text) modifiers in
    ap (map seen_stat) c.take.ensures
    ∙ c.in_ok-stats-in-Some.ensures.answer
    ∙ ap (λ x. (parts.listed_in (judge.in_region x e) false c.as_slice.result.now).answer) flag
    ∙ ap (λ l. (parts.listed_in (judge.within_body b.modifiers e) false l).answer) stats
    ∙ sym (ap (λ o. (judge.body_of e c.args.may_be_active o).answer) c.in-Some.is)

pub returns-in_ok-stats-in-Some-clause-listed : goal.returns-in_ok-stats-in-Some-clause-listed
returns-in_ok-stats-in-Some-clause-listed c =
    stats_seen c.take.result.items ∙ ap judge.listed (returns-in_ok-stats-in-Some-clause-answer c)
