use Rattle.std.proofs.Common.{ap, subst, inr, length, codes, arith}
use Rattle.aos_script.specs.Words.{lines_left}
use Rattle.aos_script.specs.Rest.{TakesSetting, LacksSetting}
use Rattle.aos_script.proofs.Whole.{no_workers, no_budget, refused, is_script}
use Rattle.aos_script.proofs.script.script_behind.Goals as goal

pub returns-in_default-clause-refused : goal.returns-in_default-clause-refused
returns-in_default-clause-refused c text skips =
    let left = lines_left c.args.left in
    inr (no_workers text c.args.n left skips (subst (λ most. LacksSetting (codes "workers") most left) c.from.ensures c.in_default.ensures.lacking))

pub returns-in_default-next_setting-clause-refused : goal.returns-in_default-next_setting-clause-refused
returns-in_default-next_setting-clause-refused c text skips =
    let left = lines_left c.args.left in
    let next = lines_left c.in-Some.left in
    let w = subst (λ most. TakesSetting (codes "workers") most left c.in-Some.workers next) c.from.ensures c.in-Some.ensures.taken in
    inr (no_budget text c.args.n left skips c.in-Some.workers next w c.in_default-next_setting.ensures.lacking)

pub read_runs-requires : goal.read_runs-requires
read_runs-requires c =
    let most = c.requires in
    let first = ap length c.in-Some.ensures.taken.whole in
    let second = ap length c.in-Some-next_setting.ensures.taken.whole in
    omega arith

pub returns-in-Err-clause-refused : goal.returns-in-Err-clause-refused
returns-in-Err-clause-refused c text skips =
    let left = lines_left c.args.left in
    let next = lines_left c.in-Some.left in
    let w = subst (λ most. TakesSetting (codes "workers") most left c.in-Some.workers next) c.from.ensures c.in-Some.ensures.taken in
    refused text c.args.n left skips c.in-Some.workers next w c.in-Some-next_setting.budget (lines_left c.in-Some-next_setting.left) c.in-Some-next_setting.ensures.taken c.in-Err.refusal c.in-Err.ensures.failed

pub returns-in-Ok-clause-read : goal.returns-in-Ok-clause-read
returns-in-Ok-clause-read c text skips =
    let left = lines_left c.args.left in
    let next = lines_left c.in-Some.left in
    let w = subst (λ most. TakesSetting (codes "workers") most left c.in-Some.workers next) c.from.ensures c.in-Some.ensures.taken in
    is_script text c.args.n left skips c.in-Some.workers next w c.in-Some-next_setting.budget (lines_left c.in-Some-next_setting.left) c.in-Some-next_setting.ensures.taken c.in-Ok.runs c.in-Ok.ensures.read
