use Rattle.std.proofs.Common.{◌≡◌, ◌≢◌, ◌<◌, ◌≤◌, ◌+◌, ◌%◌, ◌^◌, true, ℕ, zero, suc, List, [], ◌∷◌, ◌++◌, refl, sym, ap, ◌∙◌, subst, arith, length, replicate}
use Rattle.std.specs.Prelude.{Some, None}
use Rattle.std.specs.Arc.{arc_value}
use Rattle.aos_base.specs.declared.kernel.Outcome.TheVariants.{Going}
use Rattle.aos_base.specs.declared.kernel.Sched.{Sched}
use Rattle.aos_base.specs.declared.kernel.Sched.TheVariants.{Steps}
use Rattle.aos_base.specs.Book as book
use Rattle.aos_base.specs.Book.{on_worker, outcome}
use Rattle.aos_base.specs.Machine.{Step, execution}
use Rattle.aos_code.specs.Machine.{machine}
use Rattle.aos_store.specs.declared.frames.Frames.{Frames as Kept}
use Rattle.aos_loan.specs.Loans.{IsLoanOf}
use Rattle.aos_kernel.specs.Keeps.{Keeps}
use Rattle.aos_base.specs.declared.kernel.Event.{Event}
use Rattle.aos_kernel.specs.Run.{Run, among, state_of, without, stepped_while}
use Rattle.aos_kernel.specs.Lends.{ComeBack, turned_or_idle, settles_to}
use Rattle.aos_base.specs.Book.{put}
use Rattle.aos_kernel.proofs.Histories.{over_is, has_turn}
use Rattle.aos_kernel.proofs.Lending.{keeps_lent, keeps_idle, keeps_settled, shows_settled, state_behind, over_still, without_less, without_one}
use Rattle.aos_kernel.proofs.kernel.Kernel.settle.Goals as goal

some_of : (n : ℕ) → (n ≡ 0 → ⊥) → (k : ℕ) × (n ≡ suc k)
some_of zero ne = absurd (ne refl)
some_of (suc k) ne = (k, refl)

pub invariant_of-self : goal.invariant_of-self
invariant_of-self c =
    let k = c.self.inside in
    let r : Run = record { image = arc_value k.image; workers = k.workers; budget = k.budget; log = k.log.items; lent = k.lent.items; loans = k.loans } in
    let h = c.self.invariant.0 in
    let st = state_of r in
    let w = c.args.w in
    let l = c.args.loan in
    let lent = c.take_out.new.workers.items in
    let less : length lent ≤ length k.lent.items = subst (λ (x : List ℕ). length x ≤ length k.lent.items) (sym c.take_out.ensures) (without_less w k.lent.items) in
    let room = c.self.invariant.1 in
    (keeps_lent r k.tables k.events.items lent k.loans h, omega (arith, less, room))

pub returns-in_default : goal.returns-in_default
returns-in_default c =
    let k = c.self.inside in
    let r : Run = record { image = arc_value k.image; workers = k.workers; budget = k.budget; log = k.log.items; lent = k.lent.items; loans = k.loans } in
    let h = c.self.invariant.0 in
    let st = state_of r in
    let w = c.args.w in
    let l = c.args.loan in
    let lent = c.take_out.new.workers.items in
    let over : outcome st.book ≢ Going = λ e. c.in_default.not-Going (c.outcome.ensures r.image st.book.events st h.shows ∙ e) in
    let e : lent ≡ without w c.args.self.now.lent = c.take_out.ensures ∙ ap (λ (x : Run). without w x.lent) c.self.view_is in
    record {
      settled = sym (over_is (outcome st.book) (turned_or_idle l.turns) over) ∙ ap (settles_to l) c.self.view_is;
      after = λ i. (let y : Run = record (c.self.view_is i) { lent = e i } in y);
      state = subst (λ (x : Run). st ≡ execution (machine x.image) (replicate l.turns (Step w)) (state_of x)) c.self.view_is (sym (over_still r.image (replicate l.turns (Step w)) st over));
    }

pub invariant_of-self-in_default-on : goal.invariant_of-self-in_default-on
invariant_of-self-in_default-on c =
    let k = c.self.inside in
    let r : Run = record { image = arc_value k.image; workers = k.workers; budget = k.budget; log = k.log.items; lent = k.lent.items; loans = k.loans } in
    let h = c.self.invariant.0 in
    let st = state_of r in
    let w = c.args.w in
    let l = c.args.loan in
    let lent = c.take_out.new.workers.items in
    let less : length lent ≤ length k.lent.items = subst (λ (x : List ℕ). length x ≤ length k.lent.items) (sym c.take_out.ensures) (without_less w k.lent.items) in
    let room = c.self.invariant.1 in
    (keeps_lent r k.tables k.events.items lent k.loans h, omega (arith, less, room))

pub put_frames-requires : goal.put_frames-requires
put_frames-requires c =
    let k = c.self.inside in
    let r : Run = record { image = arc_value k.image; workers = k.workers; budget = k.budget; log = k.log.items; lent = k.lent.items; loans = k.loans } in
    let h = c.self.invariant.0 in
    let st = state_of r in
    let w = c.args.w in
    let l = c.args.loan in
    let lent = c.take_out.new.workers.items in
    let on : on_worker w st.book.line ≡ Some c.in-Some.activity = sym (c.in-Some.ensures.on r.image st.book.events st h.shows) in
    has_turn r k.tables k.events.items h w c.in-Some.activity (subst (λ (x : Run). w < x.workers) (sym c.self.view_is) c.requires.worker) on

pub invariant_of-self-then-turns-eq0 : goal.invariant_of-self-then-turns-eq0
invariant_of-self-then-turns-eq0 c =
    let k = c.self.inside in
    let r : Run = record { image = arc_value k.image; workers = k.workers; budget = k.budget; log = k.log.items; lent = k.lent.items; loans = k.loans } in
    let h = c.self.invariant.0 in
    let st = state_of r in
    let w = c.args.w in
    let l = c.args.loan in
    let lent = c.take_out.new.workers.items in
    let going : outcome st.book ≡ Going = sym (c.in-Going.ensures r.image st.book.events st h.shows) in
    let same : l.image ≡ r.image = c.requires.image ∙ ap (λ (x : Run). x.image) (sym c.self.view_is) in
    let small : l.budget ≡ r.budget = c.requires.budget ∙ ap (λ (x : Run). x.budget) (sym c.self.view_is) in
    let loan : IsLoanOf w l st = subst (λ (x : Run). IsLoanOf w l (state_of x)) (sym c.self.view_is) c.requires.loan in
    let a = c.in-Some.activity in
    let on : on_worker w st.book.line ≡ Some a = sym (c.in-Some.ensures.on r.image st.book.events st h.shows) in
    let puts = subst (λ (f : Kept). ComeBack r.image st.book.events a f c.put_frames.new.self st)
    c.into_frames.ensures (c.put_frames.ensures r.image st.book.events st h.shows) in
    let shown = shows_settled r w l same small h.few_statements going loan k.tables c.put_frames.new.self st.book.events a on h.shows puts in
    let less : length lent ≤ length k.lent.items = subst (λ (x : List ℕ). length x ≤ length k.lent.items) (sym c.take_out.ensures) (without_less w k.lent.items) in
    let room = c.self.invariant.1 in
    let none : l.turns ≡ 0 = sym c.turns-turns.ensures.turns ∙ c.if-turns-eq0.true in
    (keeps_idle r w l same small h.few_statements going loan k.tables c.put_frames.new.self k.events.items lent k.loans h none shown, omega (arith, less, room))

pub returns-then-turns-eq0-clause-settled : goal.returns-then-turns-eq0-clause-settled
returns-then-turns-eq0-clause-settled c =
    let k = c.self.inside in
    let r : Run = record { image = arc_value k.image; workers = k.workers; budget = k.budget; log = k.log.items; lent = k.lent.items; loans = k.loans } in
    let h = c.self.invariant.0 in
    let st = state_of r in
    let w = c.args.w in
    let l = c.args.loan in
    let lent = c.take_out.new.workers.items in
    let going : outcome st.book ≡ Going = sym (c.in-Going.ensures r.image st.book.events st h.shows) in
    let none : l.turns ≡ 0 = sym c.turns-turns.ensures.turns ∙ c.if-turns-eq0.true in
    sym (ap (settles_to l) (sym c.self.view_is) ∙ (λ i. stepped_while (going i) (turned_or_idle (none i))))

pub invariant_of-self-2 : goal.invariant_of-self-2
invariant_of-self-2 c =
    let k = c.self.inside in
    let r : Run = record { image = arc_value k.image; workers = k.workers; budget = k.budget; log = k.log.items; lent = k.lent.items; loans = k.loans } in
    let h = c.self.invariant.0 in
    let st = state_of r in
    let w = c.args.w in
    let l = c.args.loan in
    let lent = c.take_out.new.workers.items in
    let going : outcome st.book ≡ Going = sym (c.in-Going.ensures r.image st.book.events st h.shows) in
    let same : l.image ≡ r.image = c.requires.image ∙ ap (λ (x : Run). x.image) (sym c.self.view_is) in
    let small : l.budget ≡ r.budget = c.requires.budget ∙ ap (λ (x : Run). x.budget) (sym c.self.view_is) in
    let loan : IsLoanOf w l st = subst (λ (x : Run). IsLoanOf w l (state_of x)) (sym c.self.view_is) c.requires.loan in
    let a = c.in-Some.activity in
    let on : on_worker w st.book.line ≡ Some a = sym (c.in-Some.ensures.on r.image st.book.events st h.shows) in
    let puts = subst (λ (f : Kept). ComeBack r.image st.book.events a f c.put_frames.new.self st)
    c.into_frames.ensures (c.put_frames.ensures r.image st.book.events st h.shows) in
    let shown = shows_settled r w l same small h.few_statements going loan k.tables c.put_frames.new.self st.book.events a on h.shows puts in
    let some = some_of l.turns (λ e. c.if-turns-eq0.false (c.turns-turns.ensures.turns ∙ e)) in
    let n = some.0 in
    let most : suc n ≤ 1000000000 = (let q = c.turns-turns.ensures.turns ∙ some.1 in let p = c.turns-turns.ensures.most in omega (arith, p, q)) in
    let here : w < r.workers = subst (λ (x : Run). w < x.workers) (sym c.self.view_is) c.requires.worker in
    let among_all = subst (λ (x : Run). among w x.lent ≡ true) (sym c.self.view_is) c.requires.lent in
    let one : length lent + 1 ≤ length k.lent.items = subst (λ (x : List ℕ). length x + 1 ≤ length k.lent.items) (sym c.take_out.ensures) (without_one w k.lent.items among_all) in
    let room = c.self.invariant.1 in
    let len = c.push_reserved.ensures.len in
    let cap = c.push_reserved.ensures.capacity in
    let logged : c.push_reserved.new.self.items ≡ k.log.items ++ Steps w (suc n) ∷ [] = c.push_reserved.ensures.items ∙ ap (λ m. k.log.items ++ Steps w m ∷ []) (c.turns-turns.ensures.turns ∙ some.1) in (
      subst (λ (x : List Sched × List Event). Keeps (record r { log = x.0; lent = lent; loans = (k.loans + 1) % 2 ^ 64 }) c.put_frames.new.self x.1) (λ i. (sym logged i, sym c.clear.ensures.items i))
          (keeps_settled r w l same small h.few_statements going loan k.tables c.put_frames.new.self k.events.items a n lent _ h some.1 most here shown),
      omega (arith, one, room, len, cap),
    )

pub returns-clause-settled : goal.returns-clause-settled
returns-clause-settled c =
    let k = c.self.inside in
    let r : Run = record { image = arc_value k.image; workers = k.workers; budget = k.budget; log = k.log.items; lent = k.lent.items; loans = k.loans } in
    let h = c.self.invariant.0 in
    let st = state_of r in
    let w = c.args.w in
    let l = c.args.loan in
    let lent = c.take_out.new.workers.items in
    let going : outcome st.book ≡ Going = sym (c.in-Going.ensures r.image st.book.events st h.shows) in
    let some = some_of l.turns (λ e. c.if-turns-eq0.false (c.turns-turns.ensures.turns ∙ e)) in
    sym (ap (settles_to l) (sym c.self.view_is) ∙ (λ i. stepped_while (going i) (turned_or_idle (some.1 i))))

pub returns-clause-state : goal.returns-clause-state
returns-clause-state c =
    let k = c.self.inside in
    let r : Run = record { image = arc_value k.image; workers = k.workers; budget = k.budget; log = k.log.items; lent = k.lent.items; loans = k.loans } in
    let h = c.self.invariant.0 in
    let st = state_of r in
    let w = c.args.w in
    let l = c.args.loan in
    let lent = c.take_out.new.workers.items in
    let logged : c.push_reserved.new.self.items ≡ k.log.items ++ Steps w l.turns ∷ [] = c.push_reserved.ensures.items ∙ ap (λ m. k.log.items ++ Steps w m ∷ []) c.turns-turns.ensures.turns in
    ap (λ (x : List Sched). state_of (record r { log = x })) logged ∙ state_behind r w l.turns ∙ ap (λ (x : Run). execution (machine x.image) (replicate l.turns (Step w)) (state_of x)) c.self.view_is

pub returns-in_default-on-clause-settled : goal.returns-in_default-on-clause-settled
returns-in_default-on-clause-settled c =
    let k = c.self.inside in
    let r : Run = record { image = arc_value k.image; workers = k.workers; budget = k.budget; log = k.log.items; lent = k.lent.items; loans = k.loans } in
    let h = c.self.invariant.0 in
    let st = state_of r in
    let w = c.args.w in
    let l = c.args.loan in
    let lent = c.take_out.new.workers.items in
    let loan : IsLoanOf w l st = subst (λ (x : Run). IsLoanOf w l (state_of x)) (sym c.self.view_is) c.requires.loan in
    let no_one : on_worker w st.book.line ≡ None = sym (c.in_default-on.ensures.on r.image st.book.events st h.shows) in
    let z : Some loan.activity ≡ None = sym loan.on ∙ no_one in
    absurd (cc z)

pub returns-in_default-on-clause-state : goal.returns-in_default-on-clause-state
returns-in_default-on-clause-state c =
    let k = c.self.inside in
    let r : Run = record { image = arc_value k.image; workers = k.workers; budget = k.budget; log = k.log.items; lent = k.lent.items; loans = k.loans } in
    let h = c.self.invariant.0 in
    let st = state_of r in
    let w = c.args.w in
    let l = c.args.loan in
    let lent = c.take_out.new.workers.items in
    let loan : IsLoanOf w l st = subst (λ (x : Run). IsLoanOf w l (state_of x)) (sym c.self.view_is) c.requires.loan in
    let no_one : on_worker w st.book.line ≡ None = sym (c.in_default-on.ensures.on r.image st.book.events st h.shows) in
    let z : Some loan.activity ≡ None = sym loan.on ∙ no_one in
    absurd (cc z)
