use Rattle.std.proofs.Common.{◌≡◌, ℕ, Bool, true, false, suc, ◌+◌, ◌<◌, ◌-◌, List, [], ◌∷◌, ◌++◌, length, map, take, drop, refl, sym, ap, ◌∙◌, rules, arith, append_assoc, length-append}
use Rattle.std.proofs.lemmas.Result.{on_ok_weaker}
use Rattle.std.proofs.lemmas.List.{drop_more, drop_all}
use Rattle.aos_base.specs.declared.operator.Binary.TheVariants.{Cmp}
use Rattle.aos_code.specs.declared.instr.Instr.{Instr}
use Rattle.aos_code.specs.declared.instr.Instr.TheVariants as i
use Rattle.aos_code.specs.declared.instr.Kind.TheVariants.{N}
use Rattle.aos_typed.specs.declared.tree.TType.TheVariants.{Integer}
use Rattle.aos_typed.specs.Meaning.{until}
use Rattle.aos_typed.specs.Program.{OfLabels, Read, If, Case, While, Repeat, Loop, For, Block, With, WithRecord}
use Rattle.aos_typed.specs.declared.tree.TCase.{out-TCase}
use Rattle.aos_typed.specs.Seen.{seen_place, seen_expr, seen_stat, seen_stats, seen_else, arms_of, cases_of}
use Rattle.aos_typed.proofs.Seen.{if_seen, case_seen, while_seen, repeat_seen, loop_seen, for_seen, block_seen, with_seen, with_record_seen}
use Rattle.aos_sim.specs.Search.{arms_in, in_order, search_of, search_size, search_code}
use Rattle.aos_sim.specs.Code.{Ways, loop_ways, block_ways, block_at, block_code, begin, value_code, arm_code, step_code, for_head, rounds_code, stats_code, arms_code, cases_code, arm_place}
use Rattle.aos_sim.proofs.Sizes.{stats_length, arms_length}
use Rattle.aos_emit_expr.specs.Adds.{front_code}
use Rattle.aos_emit_expr.specs.Scope.{Inside, program_of, own_of, in_region}
use Rattle.aos_emit_stat.specs.Ways.{within_of, left_to, pending}
use Rattle.aos_emit_stat.specs.Places.{places_from, place_in, led}
use Rattle.aos_emit_expr.specs.Pending.{pending_exit, pending_end}
use Rattle.aos_dispatch.proofs.Heights.{within, arms_within, cases_within}
use Rattle.aos_emit_stat.proofs.Patch.{followed, guarded, choice_more, place_more, patched, ended, round_is, emitted}
use Rattle.aos_emit_stat.proofs.Pending.{exit_known, arms_known}
use Rattle.aos_emit_stat.proofs.Ways.{loop_left}
use Rattle.aos_emit_stat.proofs.Searches.{else_rows, else_arms, else_place, searched}
use Rattle.aos_emit_stat.proofs.stats.+emit_stat.Goals as goal

pub emit_stat-emit_if-requires : goal.emit_stat-emit_if-requires
emit_stat-emit_if-requires t c =
    let x = c.in-If in
    let less = arms_within _ _ _ _ _ _ (ap seen_stat x.is ∙ if_seen x.at x.arms x.body) c.deref.ensures.value c.deref-in-If.ensures.value in
    search (rules, less)

pub emit_stat-emit_case-requires : goal.emit_stat-emit_case-requires
emit_stat-emit_case-requires t c =
    let x = c.in-Case in
    let less = cases_within _ _ _ _ _ _ (ap seen_stat x.is ∙ case_seen x.at x.value x.cases x.otherwise) c.deref-in-Case.ensures.value in
    search (rules, less)

pub emit_stat-emit_while-requires : goal.emit_stat-emit_while-requires
emit_stat-emit_while-requires t c =
    let x = c.in-While in
    let less = within _ _ _ _ (ap seen_stat x.is ∙ while_seen x.at x.test x.body) refl c.deref-in-While.ensures.value in
    search (rules, less)

pub emit_stat-emit_repeat-requires : goal.emit_stat-emit_repeat-requires
emit_stat-emit_repeat-requires t c =
    let x = c.in-Repeat in
    let less = within _ _ _ _ (ap seen_stat x.is ∙ repeat_seen x.at x.body x.test) refl c.deref-in-Repeat.ensures.value in
    search (rules, less)

pub emit_stat-emit_loop-requires : goal.emit_stat-emit_loop-requires
emit_stat-emit_loop-requires t c =
    let x = c.in-Loop in
    let less = within _ _ _ _ (ap seen_stat x.is ∙ loop_seen x.at x.body) refl c.deref-in-Loop.ensures.value in
    search (rules, less)

pub emit_stat-emit_for-requires : goal.emit_stat-emit_for-requires
emit_stat-emit_for-requires t c =
    let x = c.in-For in
    let less = within _ _ _ _ (ap seen_stat x.is ∙ for_seen x.at x.of x.variable x.from x.to x.step x.body) refl c.deref-in-For.ensures.value in
    search (rules, less)

pub emit_stat-emit_block-requires : goal.emit_stat-emit_block-requires
emit_stat-emit_block-requires t c =
    let x = c.in-Block in
    let less = within _ _ _ _ (ap seen_stat x.is ∙ block_seen x.at x.exclusive x.body) refl c.deref-in-Block.ensures.value in
    search (rules, less)

pub emit_stat-emit_guarded-requires : goal.emit_stat-emit_guarded-requires
emit_stat-emit_guarded-requires t c =
    let x = c.in-With in
    let less = within _ _ _ _ (ap seen_stat x.is ∙ with_seen x.at x.object x.body) refl c.deref-in-With.ensures.value in
    search (rules, less)

pub emit_stat-emit_guarded-requires-in-WithRecord : goal.emit_stat-emit_guarded-requires-in-WithRecord
emit_stat-emit_guarded-requires-in-WithRecord t c =
    let x = c.in-WithRecord in
    let less = within _ _ _ _ (ap seen_stat x.is ∙ with_record_seen x.at x.place x.body) refl c.deref-in-WithRecord.ensures.value in
    search (rules, less)

pub emit_stat-returns-in-If : goal.emit_stat-returns-in-If
emit_stat-returns-in-If t c =
    let x = c.in-If in
    on_ok_weaker c.emit_if.result
    (emitted c.args.scope.now c.args.code.now.items c.emit_if.new.code.items c.args.level c.args.statement.now _ _ (λ i. If x.at (arms_of (c.deref.ensures.value i) (seen_stats (c.deref-in-If.ensures.value i)))) (ap seen_stat x.is ∙ if_seen x.at x.arms x.body)) c.emit_if.ensures

pub emit_stat-returns-in-Case : goal.emit_stat-returns-in-Case
emit_stat-returns-in-Case t c =
    let x = c.in-Case in
    let same = ap (λ l. Case x.at (seen_expr x.value) (cases_of l (seen_else x.otherwise))) c.deref-in-Case.ensures.value in
    on_ok_weaker c.emit_case.result
    (emitted c.args.scope.now c.args.code.now.items c.emit_case.new.code.items c.args.level c.args.statement.now _ _ same (ap seen_stat x.is ∙ case_seen x.at x.value x.cases x.otherwise)) c.emit_case.ensures

pub emit_stat-returns-in-While : goal.emit_stat-returns-in-While
emit_stat-returns-in-While t c =
    let x = c.in-While in
    let same = ap (λ l. While x.at (seen_expr x.test) (seen_stats l)) c.deref-in-While.ensures.value in
    on_ok_weaker c.emit_while.result
    (emitted c.args.scope.now c.args.code.now.items c.emit_while.new.code.items c.args.level c.args.statement.now _ _ same (ap seen_stat x.is ∙ while_seen x.at x.test x.body)) c.emit_while.ensures

pub emit_stat-returns-in-Repeat : goal.emit_stat-returns-in-Repeat
emit_stat-returns-in-Repeat t c =
    let x = c.in-Repeat in
    let same = ap (λ l. Repeat x.at (seen_stats l) (seen_expr x.test)) c.deref-in-Repeat.ensures.value in
    on_ok_weaker c.emit_repeat.result
    (emitted c.args.scope.now c.args.code.now.items c.emit_repeat.new.code.items c.args.level c.args.statement.now _ _ same (ap seen_stat x.is ∙ repeat_seen x.at x.body x.test)) c.emit_repeat.ensures

pub emit_stat-returns-in-Loop : goal.emit_stat-returns-in-Loop
emit_stat-returns-in-Loop t c =
    let x = c.in-Loop in
    let same = ap (λ l. Loop x.at (seen_stats l)) c.deref-in-Loop.ensures.value in
    on_ok_weaker c.emit_loop.result
    (emitted c.args.scope.now c.args.code.now.items c.emit_loop.new.code.items c.args.level c.args.statement.now _ _ same (ap seen_stat x.is ∙ loop_seen x.at x.body)) c.emit_loop.ensures

pub emit_stat-returns-in-For : goal.emit_stat-returns-in-For
emit_stat-returns-in-For t c =
    let x = c.in-For in
    let same = ap (λ l. For x.at x.of (seen_place x.variable) (seen_expr x.from.value) (seen_expr x.to.value) x.step (seen_stats l)) c.deref-in-For.ensures.value in
    on_ok_weaker c.emit_for.result
    (emitted c.args.scope.now c.args.code.now.items c.emit_for.new.code.items c.args.level c.args.statement.now _ _ same (ap seen_stat x.is ∙ for_seen x.at x.of x.variable x.from x.to x.step x.body)) c.emit_for.ensures

pub emit_stat-returns-in-Block : goal.emit_stat-returns-in-Block
emit_stat-returns-in-Block t c =
    let x = c.in-Block in
    let same = ap (λ l. Block x.at x.exclusive (seen_stats l)) c.deref-in-Block.ensures.value in
    on_ok_weaker c.emit_block.result
    (emitted c.args.scope.now c.args.code.now.items c.emit_block.new.code.items c.args.level c.args.statement.now _ _ same (ap seen_stat x.is ∙ block_seen x.at x.exclusive x.body)) c.emit_block.ensures

pub emit_stat-returns-in-With : goal.emit_stat-returns-in-With
emit_stat-returns-in-With t c =
    let x = c.in-With in
    let same = ap (λ l. With x.at (seen_expr x.object) (seen_stats l)) c.deref-in-With.ensures.value in
    on_ok_weaker c.emit_guarded.result
    (emitted c.args.scope.now c.args.code.now.items c.emit_guarded.new.code.items c.args.level c.args.statement.now _ _ same (ap seen_stat x.is ∙ with_seen x.at x.object x.body)) c.emit_guarded.ensures

pub emit_stat-returns-in-WithRecord : goal.emit_stat-returns-in-WithRecord
emit_stat-returns-in-WithRecord t c =
    let x = c.in-WithRecord in
    let same = ap (λ l. WithRecord x.at (seen_place x.place) (seen_stats l)) c.deref-in-WithRecord.ensures.value in
    on_ok_weaker c.emit_guarded-in-WithRecord.result
    (emitted c.args.scope.now c.args.code.now.items c.emit_guarded-in-WithRecord.new.code.items c.args.level c.args.statement.now _ _ same (ap seen_stat x.is ∙ with_record_seen x.at x.place x.body)) c.emit_guarded-in-WithRecord.ensures

pub emit_for-returns : goal.emit_for-returns
emit_for-returns t c =
    let p = program_of c.args.scope.now in
    let own = own_of c.args.scope.now in
    let base = c.args.code.now.items in
    let here = c.args.at in
    let w = c.args.width in
    let q = seen_place c.args.variable.now in
    let d = c.args.level in
    let head = for_head p own here w q (seen_expr c.args.from.now.value) (seen_expr c.args.to.now.value) (length base) d in
    let rounds : ℕ → List Instr = λ n. rounds_code p own here w q c.args.step.now (seen_stats c.args.body.now) n (pending c.args.scope.now) d in
    on_ok_weaker c.emit_rounds.result (followed base c.emit_head.new.code.items c.emit_rounds.new.code.items head rounds c.in_ok-emit_head.ensures) c.emit_rounds.ensures

pub emit_arm-returns : goal.emit_arm-returns
emit_arm-returns t c =
    let p = program_of c.args.scope.now in
    let own = own_of c.args.scope.now in
    let base = c.args.code.now.items in
    let d = c.args.level in
    patched base (value_code p own (seen_expr c.args.test.now) (length base)) (λ n. stats_code p own (seen_stats c.args.body.now) n (pending c.args.scope.now) d) _ _ _ _ _ _ (λ n. i.JumpFalse n) _ _ c.in_ok-emit_front.ensures (c.len-test_end.ensures ∙ c.emit_front.new.code.ok.0) c.in_ok-put.ensures c.in_ok-emit_stats.ensures c.in_ok-put-2.ensures (c.in_ok-end.ensures.is ∙ ap length c.deref.ensures.value)

pub emit_while-returns : goal.emit_while-returns
emit_while-returns t c =
    let p = program_of c.args.scope.now in
    let own = own_of c.args.scope.now in
    let base = c.args.code.now.items in
    let d = c.args.level in
    let here = begin c.args.at in
    let start = c.in_ok-start.start in
    let arm : (n start : ℕ) → List Instr = λ n start. (let v = value_code p own (seen_expr c.args.condition.now) n in arm_code v (stats_code p own (seen_stats c.args.body.now) (n + length v + 1) (pending c.args.scope.now) d) n start []) in
    let there : start ≡ length base = c.in_ok-start.ensures.is ∙ ap length c.deref.ensures.value in
    on_ok_weaker c.emit_arm.result (λ e. followed base c.emit_begin.new.code.items c.emit_arm.new.code.items (here ∷ []) (λ n. arm n start) c.in_ok-emit_begin.ensures e
    ∙ ap (λ m. base ++ (here ∷ arm (length base + 1) m)) there) c.emit_arm.ensures

pub emit_region-returns : goal.emit_region-returns
emit_region-returns t c =
    let s = c.args.scope.now in
    let base = c.args.code.now.items in
    let ss = seen_stats c.args.body.now in
    let d = c.args.level in
    let c1 = c.put.new.code.items in
    let c2 = c.emit_stats.new.code.items in
    let c3 = c.put-2.new.code.items in
    let of : Inside → ℕ → List Instr = λ i n. stats_code (program_of i) (own_of i) ss n (pending i) d in
    let body : ℕ → List Instr = of (in_region s) in
    let inside : c2 ≡ c1 ++ body (length c1) = c.in_ok-emit_stats.ensures ∙ ap (λ i. c1 ++ of i (length c1)) c.in_region-inside.ensures in
    let e2 : c2 ≡ base ++ (i.Enter ∷ body (length base + 1)) = followed base c1 c2 (i.Enter ∷ []) body c.in_ok-put.ensures inside in
    let turned : c3 ≡ c2 ++ i.Leave ∷ [] → c3 ≡ base ++ (i.Enter ∷ (body (length base + 1) ++ i.Leave ∷ [])) = λ e. e ∙ ap (λ l. l ++ i.Leave ∷ []) e2 ∙ append_assoc base (i.Enter ∷ body (length base + 1)) (i.Leave ∷ []) in
    on_ok_weaker c.put-2.result turned c.put-2.ensures

pub emit_block-returns-then-exclusive : goal.emit_block-returns-then-exclusive
emit_block-returns-then-exclusive t c =
    let s = c.args.scope.now in
    let base = c.args.code.now.items in
    let here = begin c.args.at in
    let c1 = c.emit_begin.new.code.items in
    let c2 = c.emit_region.new.code.items in
    let block : Bool → ℕ → List Instr = λ b n. block_code b (stats_code (program_of s) (own_of s) (seen_stats c.args.body.now) (block_at b n) (block_ways b (pending s)) c.args.level) in
    let turned : c2 ≡ c1 ++ block true (length c1) → c2 ≡ base ++ (here ∷ block c.args.exclusive (length base + 1)) = λ e. followed base c1 c2 (here ∷ []) (block true) c.in_ok-emit_begin.ensures e
    ∙ ap (λ b. base ++ (here ∷ block b (length base + 1))) (sym c.if-exclusive.true) in
    on_ok_weaker c.emit_region.result turned c.emit_region.ensures

pub emit_block-returns-else-exclusive : goal.emit_block-returns-else-exclusive
emit_block-returns-else-exclusive t c =
    let s = c.args.scope.now in
    let base = c.args.code.now.items in
    let here = begin c.args.at in
    let c1 = c.emit_begin.new.code.items in
    let c2 = c.emit_stats.new.code.items in
    let block : Bool → ℕ → List Instr = λ b n. block_code b (stats_code (program_of s) (own_of s) (seen_stats c.args.body.now) (block_at b n) (block_ways b (pending s)) c.args.level) in
    let turned : c2 ≡ c1 ++ block false (length c1) → c2 ≡ base ++ (here ∷ block c.args.exclusive (length base + 1)) = λ e. followed base c1 c2 (here ∷ []) (block false) c.in_ok-emit_begin.ensures e
    ∙ ap (λ b. base ++ (here ∷ block b (length base + 1))) (sym c.if-exclusive.false) in
    on_ok_weaker c.emit_stats.result turned c.emit_stats.ensures

pub emit_guarded-returns : goal.emit_guarded-returns
emit_guarded-returns t c =
    let base = c.args.code.now.items in
    let p = program_of c.args.scope.now in
    let own = own_of c.args.scope.now in
    let first = front_code p own c.args.guarded (length base + 1) in
    on_ok_weaker c.emit_stats.result (guarded base c.emit_one.new.code.items c.emit_stats.new.code.items (begin c.args.at) first i.Drop (λ n. stats_code p own (seen_stats c.args.body.now) n (pending c.args.scope.now) c.args.level) c.in_ok-emit_one.ensures) c.emit_stats.ensures

pub emit_repeat-returns : goal.emit_repeat-returns
emit_repeat-returns t c =
    let p = program_of c.args.scope.now in
    let own = own_of c.args.scope.now in
    let base = c.args.code.now.items in
    let here = begin c.args.at in
    let start = c.in_ok-start.start in
    let b = stats_code p own (seen_stats c.args.body.now) (length base + 1) (pending c.args.scope.now) c.args.level in
    let test : ℕ → List Instr = λ n. value_code p own (seen_expr c.args.condition.now) n in
    let e2 = followed base c.emit_begin.new.code.items c.emit_stats.new.code.items (here ∷ []) (λ n. stats_code p own (seen_stats c.args.body.now) n (pending c.args.scope.now) c.args.level) c.in_ok-emit_begin.ensures c.in_ok-emit_stats.ensures in
    let e3 = followed base c.emit_stats.new.code.items c.emit_front.new.code.items (here ∷ b) test e2 c.in_ok-emit_front.ensures in
    let n : length base + suc (length b) ≡ length base + 1 + length b = omega arith in
    let there : start ≡ length base = c.in_ok-start.ensures.is ∙ ap length c.deref.ensures.value in
    let last = length base + 1 + length b in
    let turned : c.put.new.code.items ≡ c.emit_front.new.code.items ++ i.JumpFalse start ∷ [] → c.put.new.code.items ≡ base ++ (here ∷ (b ++ (test last ++ i.JumpFalse (length base) ∷ []))) = λ e. e ∙ ap (λ l. l ++ i.JumpFalse start ∷ []) e3
    ∙ append_assoc base (here ∷ (b ++ test (length base + suc (length b)))) (i.JumpFalse start ∷ [])
    ∙ ap (λ l. base ++ (here ∷ l)) (append_assoc b (test (length base + suc (length b))) (i.JumpFalse start ∷ []))
    ∙ ap (λ m. base ++ (here ∷ (b ++ (test m ++ i.JumpFalse start ∷ [])))) n
    ∙ ap (λ m. base ++ (here ∷ (b ++ (test last ++ i.JumpFalse m ∷ [])))) there in
    on_ok_weaker c.put.result turned c.put.ensures

pub emit_left-returns : goal.emit_left-returns
emit_left-returns t c =
    let p = program_of c.args.scope.now in
    let own = own_of c.args.scope.now in
    let u = within_of c.args.scope.now in
    let base = c.args.code.now.items in
    let ss = seen_stats c.args.body.now in
    let d = c.args.level in
    let at = length base in
    let body : ℕ → List Instr = λ n. stats_code p own ss at (left_to c.args.scope.now n) d in
    let code : c.emit_stats.new.code.items ≡ base ++ body pending_exit = c.in_ok-emit_stats.ensures in
    let long = ap length code ∙ length-append base (body pending_exit) in
    let same = stats_length p own ss at u pending_exit 0 d in
    let len = c.len.ensures ∙ c.emit_stats.new.code.ok.0 in
    let few : c.len.result + c.from.result < 4294967294 = c.in_ok-exit.ensures.few in
    let below : at + length (body pending_exit) < 4294967295 = omega (arith, few, len, long) in
    let there : c.in_ok-exit.exit ≡ at + length (body 0) + c.args.behind = omega (arith, c.in_ok-exit.ensures.is, c.from.ensures, len, long, same) in
    c.redirect.ensures
    ∙ ended base c.emit_stats.new.code.items body pending_exit c.len-first.result c.in_ok-exit.exit code (c.len-first.ensures ∙ c.args.code.now.ok.0) (exit_known p own pending_exit c.in_ok-exit.exit ss at u d below)
    ∙ ap (λ n. base ++ body n) there

pub emit_loop-returns : goal.emit_loop-returns
emit_loop-returns t c =
    let s = c.args.scope.now in
    let p = program_of s in
    let own = own_of s in
    let base = c.args.code.now.items in
    let here = begin c.args.at in
    let start = c.in_ok-start.start in
    let ss = seen_stats c.args.body.now in
    let d = c.args.level in
    let left : (Inside → ℕ → Ways) → Inside → ℕ → List Instr = λ w i n. stats_code (program_of i) (own_of i) ss n (w i (n + length (stats_code (program_of i) (own_of i) ss n (w i 0) d) + 1)) d in
    let ways : Inside → ℕ → Ways = λ i x. loop_ways x (pending s) in
    let body : ℕ → List Instr = left ways s in
    let inside = c.in_ok-emit_left.ensures
    ∙ ap (λ i. c.emit_begin.new.code.items ++ left left_to i (length c.emit_begin.new.code.items)) c.in_loop-inside.ensures
    ∙ ap (λ w. c.emit_begin.new.code.items ++ left (λ i x. record { exit = x; within = w }) s (length c.emit_begin.new.code.items)) (loop_left s.within) in
    let e2 = followed base c.emit_begin.new.code.items c.emit_left.new.code.items (here ∷ []) body c.in_ok-emit_begin.ensures inside in
    let there : start ≡ length base = c.in_ok-start.ensures.is ∙ ap length c.deref.ensures.value in
    let turned : c.put.new.code.items ≡ c.emit_left.new.code.items ++ i.Jump start ∷ [] → c.put.new.code.items ≡ base ++ (here ∷ (body (length base + 1) ++ i.Jump (length base) ∷ [])) = λ e. e ∙ ap (λ l. l ++ i.Jump start ∷ []) e2
    ∙ append_assoc base (here ∷ body (length base + 1)) (i.Jump start ∷ [])
    ∙ ap (λ m. base ++ (here ∷ (body (length base + 1) ++ i.Jump m ∷ []))) there in
    on_ok_weaker c.put.result turned c.put.ensures

pub emit_rounds-returns : goal.emit_rounds-returns
emit_rounds-returns t c =
    let p = program_of c.args.scope.now in
    let own = own_of c.args.scope.now in
    let base = c.args.code.now.items in
    let here = c.args.at in
    let w = c.args.width in
    let q = seen_place c.args.variable.now in
    let step = c.args.step.now in
    let d = c.args.level in
    let tail = i.Kept d N ∷ (i.Binary (Cmp (until step)) ∷ []) in
    let test : ℕ → List Instr = λ n. value_code p own (Read (Integer w) q) n ++ tail in
    let body : ℕ → List Instr = λ n. stats_code p own (seen_stats c.args.body.now) n (pending c.args.scope.now) (suc d) in
    let next : ℕ → List Instr = λ n. step_code p own here w q step n in
    let e1 = followed base c.emit_begin.new.code.items c.emit_test.new.code.items (begin here ∷ []) test c.in_ok-emit_begin.ensures c.in_ok-emit_test.ensures in
    let stats = c.in_ok-emit_stats.ensures ∙ ap (λ k. c.put.new.code.items ++ stats_code p own (seen_stats c.args.body.now) (length c.put.new.code.items) (pending c.args.scope.now) k) c.in_ok-inside.ensures in
    let e3 = followed c.put.new.code.items c.emit_stats.new.code.items c.emit_step.new.code.items (body (length c.put.new.code.items)) next stats c.in_ok-emit_step.ensures in
    patched base (begin here ∷ test (length base + 1)) (λ n. body n ++ next (n + length (body n))) _ _ _ _ _ _ (λ n. i.JumpFalse n) _ _ e1 (c.len-test_end.ensures ∙ c.emit_test.new.code.ok.0) c.in_ok-put.ensures e3 c.in_ok-put-2.ensures (c.in_ok-end.ensures.is ∙ ap length c.deref-2.ensures.value)
    ∙ round_is p own here w q step body base d _ (c.in_ok-start.ensures.is ∙ ap length c.deref.ensures.value)

pub emit_if-returns : goal.emit_if-returns
emit_if-returns t c =
    let p = program_of c.args.scope.now in
    let own = own_of c.args.scope.now in
    let base = c.args.code.now.items in
    let all = arms_of c.args.arms.now (seen_stats c.args.otherwise.now) in
    let d = c.args.level in
    let c1 = c.emit_begin.new.code.items in
    let at = length c1 in
    let code : c.emit_arms.new.code.items ≡ c1 ++ arms_code p own all at pending_end (pending c.args.scope.now) d = c.in_ok-emit_arms.ensures in
    let long = ap length code ∙ length-append c1 (arms_code p own all at pending_end (pending c.args.scope.now) d) in
    let same = arms_length p own all at pending_end 0 (within_of c.args.scope.now) pending_exit pending_exit d in
    let len = ap length c.deref.ensures.value in
    let few : length c.deref.result.now < 4294967294 = c.in_ok-end.ensures.few in
    let below : at + length (arms_code p own all at pending_end (pending c.args.scope.now) d) < 4294967294 = omega (arith, few, len, long) in
    let there : c.in_ok-end.end ≡ at + length (arms_code p own all at 0 (pending c.args.scope.now) d) = omega (arith, c.in_ok-end.ensures.is, len, long, same) in
    let arms : ℕ → List Instr = λ n. arms_code p own all n (n + length (arms_code p own all n 0 (pending c.args.scope.now) d)) (pending c.args.scope.now) d in
    followed base c1 c.redirect.new.code.items (begin c.args.at ∷ []) arms c.in_ok-emit_begin.ensures
    (c.redirect.ensures
    ∙ ended c1 c.emit_arms.new.code.items (λ n. arms_code p own all at n (pending c.args.scope.now) d) pending_end c.len-first.result c.in_ok-end.end code (c.len-first.ensures ∙ c.emit_begin.new.code.ok.0) (arms_known p own pending_end c.in_ok-end.end all at (within_of c.args.scope.now) pending_exit d refl below)
    ∙ ap (λ n. c1 ++ arms_code p own all at n (pending c.args.scope.now) d) there)

pub emit_found-returns : goal.emit_found-returns
emit_found-returns t c =
    let p = program_of c.args.scope.now in
    let own = own_of c.args.scope.now in
    let base = c.args.code.now.items in
    let cases = c.args.cases.now in
    let o = c.args.otherwise.now in
    let c1 = c.put_search.new.code.items in
    let c2 = c.emit_choices.new.code.items in
    let now = c.deref_mut.result.now in
    let from = c.len-from.result in
    let first = c.len-first.result in
    let rows = c.deref.ensures.value ∙ c.in_ok-rows.ensures ∙ ap in_order (sym (else_rows 0 cases o)) in
    let deep = c.len.ensures ∙ c.in_ok-rows.rows.ok.0 ∙ sym (ap length c.deref.ensures.value) in
    let len = ap length c.deref-2.ensures.value in
    let few : length c.deref-2.result.now < 4294967294 = c.in_ok-end.ensures.few in
    let below : length c2 < 4294967294 = omega (arith, few, len) in
    let part = c.set_places.ensures ∙ ap (λ l. map (led (place_in 0 l)) (take (first - from) (drop from now))) c.deref-3.ensures.value in
    searched p own (within_of c.args.scope.now) (cases_of cases (seen_else o)) base c1 c2 c.redirect.new.code.items now c.set_places.new.code _ c.deref.result.now c.in_ok-places.places.items c.len.result from first c.in_ok-end.end c.in_ok-other.other c.redirect.new.code.len c.args.level rows deep (c.in_ok-other.ensures.is ∙ sym (else_arms cases o)) (c.len-from.ensures ∙ c.args.code.now.ok.0) c.in_ok-put_search.ensures (c.len-first.ensures ∙ c.put_search.new.code.ok.0) c.in_ok-places.ensures.code c.in_ok-places.ensures.places (c.in_ok-end.ensures.is ∙ len) below c.redirect.ensures c.deref_mut.ensures.value c.redirect.new.code.ok.0 part

pub emit_case-returns : goal.emit_case-returns
emit_case-returns t c =
    let p = program_of c.args.scope.now in
    let own = own_of c.args.scope.now in
    let base = c.args.code.now.items in
    let all = cases_of c.args.cases.now (seen_else c.args.otherwise.now) in
    let d = c.args.level in
    let here = begin c.args.at in
    let v = value_code p own (seen_expr c.args.selector.now) (length base + 1) in
    let e2 = followed base c.emit_begin.new.code.items c.emit_front.new.code.items (here ∷ []) (λ n. value_code p own (seen_expr c.args.selector.now) n) c.in_ok-emit_begin.ensures c.in_ok-emit_front.ensures in
    let e3 = followed base c.emit_front.new.code.items c.put.new.code.items (here ∷ v) (λ n. i.Keep d N ∷ []) e2 c.in_ok-put.ensures in
    let arms : ℕ → List Instr = λ n. cases_code p own all n (n + length (cases_code p own all n 0 (pending c.args.scope.now) d)) (pending c.args.scope.now) d in
    let search : ℕ → List Instr = λ n. (let first = n + search_size (search_of all) in search_code (arm_place p own all first (pending c.args.scope.now) d) (arms_in all) (search_of all) d n ++ arms first) in
    let front = here ∷ (v ++ i.Keep d N ∷ []) in
    let first : length base + length front ≡ length base + 1 + length v + 1 = omega (arith, length-append v (i.Keep d N ∷ [])) in
    on_ok_weaker c.emit_found.result (λ e. followed base c.put.new.code.items c.emit_found.new.code.items front search e3 e
    ∙ ap (λ l. base ++ (here ∷ l)) (append_assoc v (i.Keep d N ∷ []) (search (length base + length front)))
    ∙ ap (λ n. base ++ (here ∷ (v ++ (i.Keep d N ∷ search n)))) first) c.emit_found.ensures

pub emit_choices-loop-case-preserved : goal.emit_choices-loop-case-preserved
emit_choices-loop-case-preserved t c =
    let p = program_of c.args.scope.now in
    let own = own_of c.args.scope.now in
    let cases = c.args.cases.now in
    let otherwise = seen_else c.args.otherwise.now in
    let d = c.args.level in
    let k = c.loop-case.case-index in
    let x = c.case-item.result in
    let code = c.loop-case.code.items in
    let rest = cases_of (drop (k + 1) cases) otherwise in
    let there : drop k cases ≡ x ∷ drop (k + 1) cases = drop_more cases k x c.loop-case-test.true ∙ ap (λ y. y ∷ drop (k + 1) cases) (sym c.case-item.is) in
    let of = out-TCase x in
    let at = c.in_ok-place.ensures.is ∙ ap length c.deref.ensures.value in
    let ss = seen_stats c.deref-in-loop-case.result.now in
    let seen : cases_of (drop k cases) otherwise ≡ OfLabels of.labels.items ss rest =
    ap (λ l. cases_of l otherwise) there ∙ sym (ap (λ l. OfLabels of.labels.items (seen_stats l) rest) c.deref-in-loop-case.ensures.value) in (
      choice_more p own (pending c.args.scope.now) code c.emit_stats.new.code.items c.put.new.code.items of.labels.items ss rest d c.in_ok-emit_stats.ensures c.in_ok-put.ensures
          ∙ ap (λ l. code ++ cases_code p own l (length code) pending_end (pending c.args.scope.now) d) (sym seen)
          ∙ c.loop-case.invariant.0,
      place_more p own (pending c.args.scope.now) code c.emit_stats.new.code.items c.put.new.code.items of.labels.items ss rest d c.in_ok-emit_stats.ensures c.in_ok-put.ensures c.loop-case.places.items c.push.new.self.items c.in_ok-place.place c.in_ok-push.ensures.items at
          ∙ ap (λ l. c.loop-case.places.items ++ places_from p own l (length code) (pending c.args.scope.now) d) (sym seen)
          ∙ c.loop-case.invariant.1,
    )

pub emit_choices-returns-clause-places : goal.emit_choices-returns-clause-places
emit_choices-returns-clause-places t c =
    let p = program_of c.args.scope.now in
    let own = own_of c.args.scope.now in
    let o = c.args.otherwise.now in
    let code = c.loop-case.code.items in
    let d = c.args.level in
    let at = c.in_ok-last.ensures.is ∙ ap length c.deref-2.ensures.value in
    let none : drop c.loop-case.case-index c.args.cases.now ≡ [] = drop_all c.loop-case.case-index c.args.cases.now c.loop-case-test.false in
    c.in_ok-push-2.ensures.items
    ∙ ap (λ n. c.loop-case.places.items ++ n ∷ []) at
    ∙ ap (λ l. c.loop-case.places.items ++ l) (sym (else_place p own o (length code) (pending c.args.scope.now) d))
    ∙ ap (λ l. c.loop-case.places.items ++ places_from p own (cases_of l (seen_else o)) (length code) (pending c.args.scope.now) d) (sym none)
    ∙ c.loop-case.invariant.1
