use Rattle.std.proofs.Common.{◌∙◌, ◌∷◌, ap, sym, refl}
use Rattle.std.specs.Prelude.{Bool, not}
use Rattle.std.proofs.lemmas.List.Elements.{Contains-append_left, Contains-append_right}
use Rattle.aos_queue.proofs.Runs.{more_touched}
use Rattle.aos_lock.specs.Heirs.{joined}
use Rattle.aos_lock.specs.Waits.{entrants_of, waiters_of, numbers_of}
use Rattle.aos_lock.proofs.Rows.{cons_within}
use Rattle.aos_lock.proofs.Parts.{apart_swap, Beside, put_beside}
use Rattle.aos_lock.proofs.lock.Lock.join.Goals as goal

-- among the waiters

pub put_last-requires-clause-belongs : goal.put_last-requires-clause-belongs
put_last-requires-clause-belongs c = c.requires.belongs.waiters

pub put_last-requires-clause-elsewhere : goal.put_last-requires-clause-elsewhere
put_last-requires-clause-elsewhere c =
    let links = c.args.links.now in
    let l = c.args.self.now in
    λ i. c.requires.elsewhere (Contains-append_right (entrants_of links l) (waiters_of links l) c.args.activity i)

pub returns-then-awaits : goal.returns-then-awaits
returns-then-awaits c =
    let old = c.args.links.now in
    let new = c.put_last.new.self in
    let l = c.args.self.now in
    let a = c.args.activity in
    let es = entrants_of old l in
    let ws = waiters_of old l in
    let put = c.put_last.ensures in
    let b : Beside old new c.put_last.new.queue l.entrants =
    put_beside old new l.waiters c.put_last.new.queue l.entrants a c.requires.belongs.entrants c.requires.belongs.apart
    (λ i. c.requires.elsewhere (Contains-append_left es ws a i)) put.last put.others in
    record {
      owner = refl;
      entrants = b.list ∙ ap (λ (on : Bool). joined (not on) a es) (sym c.if-awaits.true);
      waiters = put.last ∙ ap (λ (on : Bool). joined on a ws) (sym c.if-awaits.true);
      belongs = record { entrants = b.belongs; waiters = put.belongs; apart = apart_swap _ _ b.apart };
      others = more_touched old new (a ∷ ws) (a ∷ numbers_of old l)
          (λ n i. cons_within a ws (numbers_of old l) n (λ k. Contains-append_right es ws n k) i) put.others;
      marks = record { room = put.table.room; marks = λ n h. put.table.marks n };
    }

-- among the entrants

pub put_last-requires-else-awaits-clause-belongs : goal.put_last-requires-else-awaits-clause-belongs
put_last-requires-else-awaits-clause-belongs c = c.requires.belongs.entrants

pub put_last-requires-else-awaits-clause-elsewhere : goal.put_last-requires-else-awaits-clause-elsewhere
put_last-requires-else-awaits-clause-elsewhere c =
    let links = c.args.links.now in
    let l = c.args.self.now in
    λ i. c.requires.elsewhere (Contains-append_left (entrants_of links l) (waiters_of links l) c.args.activity i)

pub returns-else-awaits : goal.returns-else-awaits
returns-else-awaits c =
    let old = c.args.links.now in
    let new = c.put_last-else-awaits.new.self in
    let l = c.args.self.now in
    let a = c.args.activity in
    let es = entrants_of old l in
    let ws = waiters_of old l in
    let put = c.put_last-else-awaits.ensures in
    let b : Beside old new c.put_last-else-awaits.new.queue l.waiters =
    put_beside old new l.entrants c.put_last-else-awaits.new.queue l.waiters a c.requires.belongs.waiters (apart_swap es ws c.requires.belongs.apart)
    (λ i. c.requires.elsewhere (Contains-append_right es ws a i)) put.last put.others in
    record {
      owner = refl;
      entrants = put.last ∙ ap (λ (on : Bool). joined (not on) a es) (sym c.if-awaits.false);
      waiters = b.list ∙ ap (λ (on : Bool). joined on a ws) (sym c.if-awaits.false);
      belongs = record { entrants = put.belongs; waiters = b.belongs; apart = b.apart };
      others = more_touched old new (a ∷ es) (a ∷ numbers_of old l)
          (λ n i. cons_within a es (numbers_of old l) n (λ k. Contains-append_left es ws n k) i) put.others;
      marks = record { room = put.table.room; marks = λ n h. put.table.marks n };
    }
