use Rattle.std.proofs.Common.{◌≡◌, ◌∙◌, ◌++◌, ◌∷◌, [], List, length, ap, arith}
use Rattle.std.specs.Prelude.{None}
use Rattle.aos_lock.specs.Waits.{count_of}
use Rattle.aos_lock.specs.declared.lock.Lock.{Lock}
use Rattle.aos_lock.proofs.Parts.{both_empty}
use Rattle.aos_lock.proofs.Changes.{moved_waiting, added_unawaited, added_waiting, added_belong}
use Rattle.aos_lock.proofs.locks.Locks.add.Goals as goal

pub returns-in_err-reserve-clause-lists : goal.returns-in_err-reserve-clause-lists
returns-in_err-reserve-clause-lists c links other less = moved_waiting links c.args.self.now _ other c.reserve.ensures.items

pub returns-clause-awaited : goal.returns-clause-awaited
returns-clause-awaited c links =
    let old = c.args.self.now in
    let l : Lock = record { owner = None; entrants = c.new.result; waiters = c.new-2.result } in
    let is = c.push_reserved.ensures.items ∙ ap (λ (ls : List Lock). ls ++ l ∷ []) c.in_ok-reserve.ensures.items in
    let last : c.len-lock.result ≡ length old.locks.items = omega (arith, ap length c.in_ok-reserve.ensures.items, c.in_ok-reserve.ensures.len) in
    added_unawaited old _ l is links c.len-lock.result last (c.new.ensures.empty links, c.new-2.ensures.empty links)

pub returns-clause-lists : goal.returns-clause-lists
unfolding count_of
returns-clause-lists c links other less =
    let l : Lock = record { owner = None; entrants = c.new.result; waiters = c.new-2.result } in
    added_waiting c.args.self.now _ l (c.push_reserved.ensures.items ∙ ap (λ (ls : List Lock). ls ++ l ∷ []) c.in_ok-reserve.ensures.items) links other less

pub returns-clause-belong : goal.returns-clause-belong
returns-clause-belong c links h =
    let l : Lock = record { owner = None; entrants = c.new.result; waiters = c.new-2.result } in
    let es = c.new.ensures.empty links in
    let ws = c.new-2.ensures.empty links in
    added_belong links c.args.self.now _ l (c.push_reserved.ensures.items ∙ ap (λ (ls : List Lock). ls ++ l ∷ []) c.in_ok-reserve.ensures.items) h
    (both_empty links c.new.result c.new-2.result (c.new.ensures.belongs links) (c.new-2.ensures.belongs links) es) (λ i. es i ++ ws i)
