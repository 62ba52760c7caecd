use Rattle.std.proofs.Common.{◌≡◌, ◌≤◌, ◌+◌, [], ◌∷◌, ◌++◌, List, ap, sym, ◌∙◌, subst, arith, append-nil, replicate}
use Rattle.std.specs.Prelude.{All}
use Rattle.aos_base.specs.declared.kernel.Sched.{Sched}
use Rattle.aos_base.specs.declared.kernel.Sched.TheVariants.{Steps, Tick}
use Rattle.aos_base.specs.Machine.{Step}
use Rattle.aos_base.specs.Schedule.{choices, IsEntry}
use Rattle.aos_kernel.proofs.Logs.{entries-more}
use Rattle.aos_kernel.proofs.Stepping.{choices_more, choices_joined, room_of, entries_front, entries_last}
use Rattle.aos_kernel.proofs.runs.add_steps.Goals as goal

pub returns-then-has_room-clause-choices : goal.returns-then-has_room-clause-choices
returns-then-has_room-clause-choices c =
    let w = c.args.worker in
    let v = c.in-Some-Steps.v in
    let k = c.in-Some-Steps.k in
    let n = c.args.count in
    let mid = c.pop.new.self.items in
    let was : mid ++ Steps v k ∷ [] ≡ c.args.log.now.items = ap (λ e. mid ++ e ∷ []) (sym c.in-Some-Steps.field-0-is) ∙ sym c.in-Some-Steps.ensures.items in
    let q = room_of v w k n 1000000000 (sym c.has_room.ensures ∙ c.if-has_room.true) c.requires.few in
    ap choices c.push_reserved.ensures.items ∙ choices_joined mid v k n ∙ ap (λ x. choices (mid ++ Steps v k ∷ []) ++ replicate n (Step x)) q.0
    ∙ ap (λ (l : List Sched). choices l ++ replicate n (Step w)) was

pub returns-then-has_room-clause-entries : goal.returns-then-has_room-clause-entries
returns-then-has_room-clause-entries c m lt h =
    let v = c.in-Some-Steps.v in
    let k = c.in-Some-Steps.k in
    let n = c.args.count in
    let mid = c.pop.new.self.items in
    let was : mid ++ Steps v k ∷ [] ≡ c.args.log.now.items = ap (λ e. mid ++ e ∷ []) (sym c.in-Some-Steps.field-0-is) ∙ sym c.in-Some-Steps.ensures.items in
    let q = room_of v c.args.worker k n 1000000000 (sym c.has_room.ensures ∙ c.if-has_room.true) c.requires.few in
    let all = subst (λ (l : List Sched). All (IsEntry m) l) (sym was) h in
    let one = entries_last (IsEntry m) mid (Steps v k) all in
    let some : 1 ≤ k + n = omega (arith, c.requires.some) in
    subst (λ (l : List Sched). All (IsEntry m) l) (sym c.push_reserved.ensures.items)
    (entries-more m mid (Steps v (k + n)) (one.0, some, q.1) (entries_front (IsEntry m) mid (Steps v k) all))

pub returns-else-has_room-clause-choices : goal.returns-else-has_room-clause-choices
returns-else-has_room-clause-choices c =
    let w = c.args.worker in
    let n = c.args.count in
    let mid = c.pop.new.self.items in
    let was : mid ++ Steps c.in-Some-Steps.v c.in-Some-Steps.k ∷ [] ≡ c.args.log.now.items = ap (λ e. mid ++ e ∷ []) (sym c.in-Some-Steps.field-0-is) ∙ sym c.in-Some-Steps.ensures.items in
    ap choices (c.push_reserved-else-has_room-2.ensures.items ∙ ap (λ l. l ++ Steps w n ∷ []) (c.push_reserved-else-has_room.ensures.items ∙ was)) ∙ choices_more c.args.log.now.items w n

pub returns-else-has_room-clause-entries : goal.returns-else-has_room-clause-entries
returns-else-has_room-clause-entries c m lt h =
    let w = c.args.worker in
    let n = c.args.count in
    let mid = c.pop.new.self.items in
    let was : mid ++ Steps c.in-Some-Steps.v c.in-Some-Steps.k ∷ [] ≡ c.args.log.now.items = ap (λ e. mid ++ e ∷ []) (sym c.in-Some-Steps.field-0-is) ∙ sym c.in-Some-Steps.ensures.items in
    subst (λ (l : List Sched). All (IsEntry m) l) (sym (c.push_reserved-else-has_room-2.ensures.items ∙ ap (λ l. l ++ Steps w n ∷ []) (c.push_reserved-else-has_room.ensures.items ∙ was)))
    (entries-more m c.args.log.now.items (Steps w n) (lt, c.requires.some, c.requires.few) h)

pub returns-in-Some-Tick-clause-choices : goal.returns-in-Some-Tick-clause-choices
returns-in-Some-Tick-clause-choices c =
    let w = c.args.worker in
    let n = c.args.count in
    let mid = c.pop.new.self.items in
    let was : mid ++ Tick c.in-Some-Tick.v ∷ [] ≡ c.args.log.now.items = ap (λ e. mid ++ e ∷ []) (sym c.in-Some-Tick.field-0-is) ∙ sym c.in-Some-Tick.ensures.items in
    ap choices (c.push_reserved-in-Some-Tick-2.ensures.items ∙ ap (λ l. l ++ Steps w n ∷ []) (c.push_reserved-in-Some-Tick.ensures.items ∙ was)) ∙ choices_more c.args.log.now.items w n

pub returns-in-Some-Tick-clause-entries : goal.returns-in-Some-Tick-clause-entries
returns-in-Some-Tick-clause-entries c m lt h =
    let w = c.args.worker in
    let n = c.args.count in
    let mid = c.pop.new.self.items in
    let was : mid ++ Tick c.in-Some-Tick.v ∷ [] ≡ c.args.log.now.items = ap (λ e. mid ++ e ∷ []) (sym c.in-Some-Tick.field-0-is) ∙ sym c.in-Some-Tick.ensures.items in
    subst (λ (l : List Sched). All (IsEntry m) l) (sym (c.push_reserved-in-Some-Tick-2.ensures.items ∙ ap (λ l. l ++ Steps w n ∷ []) (c.push_reserved-in-Some-Tick.ensures.items ∙ was)))
    (entries-more m c.args.log.now.items (Steps w n) (lt, c.requires.some, c.requires.few) h)

pub returns-in-None-clause-choices : goal.returns-in-None-clause-choices
returns-in-None-clause-choices c =
    let w = c.args.worker in
    let n = c.args.count in
    let mid = c.pop.new.self.items in
    let was : mid ≡ c.args.log.now.items = sym (append-nil mid) ∙ sym c.in-None.ensures.items in
    ap choices (c.push_reserved-in-None.ensures.items ∙ ap (λ l. l ++ Steps w n ∷ []) was) ∙ choices_more c.args.log.now.items w n

pub returns-in-None-clause-entries : goal.returns-in-None-clause-entries
returns-in-None-clause-entries c m lt h =
    let w = c.args.worker in
    let n = c.args.count in
    let mid = c.pop.new.self.items in
    let was : mid ≡ c.args.log.now.items = sym (append-nil mid) ∙ sym c.in-None.ensures.items in
    subst (λ (l : List Sched). All (IsEntry m) l) (sym (c.push_reserved-in-None.ensures.items ∙ ap (λ l. l ++ Steps w n ∷ []) was))
    (entries-more m c.args.log.now.items (Steps w n) (lt, c.requires.some, c.requires.few) h)
