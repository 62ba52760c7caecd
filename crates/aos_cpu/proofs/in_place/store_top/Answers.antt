use Rattle.std.proofs.Common.{◌≡◌, ℕ, List, ◌+◌, drop, reverse, sym, ap, ◌∙◌, subst}
use Rattle.std.specs.Prelude.{Some, false, slice_get}
use Rattle.aos_code.specs.declared.instr.Cell.{Cell}
use Rattle.aos_code.specs.declared.instr.Instr.TheVariants.{Store}
use Rattle.aos_code.specs.Silent.{Stack}
use Rattle.aos_code.specs.Machine.{Frame, code_of}
use Rattle.aos_store.specs.Store.{frame_in, memory_in}
use Rattle.aos_silent_steps.specs.Acts.{address_in, kind_in}
use Rattle.aos_cpu.specs.InPlace.{HasTurnedTop}
use Rattle.aos_cpu.proofs.InPlace.{store_top, worked_same}
use Rattle.aos_cpu.proofs.in_place.store_top.Goals as goal

pub returns-clause-done : goal.returns-clause-done
returns-clause-done c image at_is here_is =
    let f = frame_in c.args.frame.now in
    let here = c.args.here in
    let kind = c.args.kind in
    let value = c.in-Some.value in
    let address = c.in-Some-address.place in
    let mem = memory_in c.args.store.now in
    let now = memory_in c.store_near.new.store in
    let h = frame_in c.store_near.new.frame in
    let place : address_in (slice_get f.stack 1) ≡ Some address =
    subst (λ (xs : List Cell). address_in (slice_get (reverse xs) 1) ≡ Some address) c.deref-2.ensures.value (sym c.in-Some-address.ensures) in
    let of : kind_in kind (slice_get f.stack 0) ≡ Some value =
    subst (λ (xs : List Cell). kind_in kind (slice_get (reverse xs) 0) ≡ Some value) c.deref.ensures.value (sym c.in-Some.ensures) in
    let set = c.if-not-store_near.ensures.set in
    let left = c.take.ensures.operands ∙ ap (λ (x : Frame). drop 2 x.stack) set.others in
    subst (λ (x : ℕ × Stack). HasTurnedTop image here false mem now f (record h { next = x.0 + 1; stack = x.1 })) (λ i. (sym at_is i, sym left i))
    (store_top image here f mem now kind address value h (subst (λ n. slice_get (code_of image f.procedure) n ≡ Some (Store kind)) at_is here_is) of place set)

pub returns-then-not-store_near-clause-done : goal.returns-then-not-store_near-clause-done
returns-then-not-store_near-clause-done c image at_is here_is =
    let same = c.if-not-store_near.ensures.set in
    worked_same image c.args.here (memory_in c.args.store.now) (memory_in c.store_near.new.store) (frame_in c.args.frame.now) (frame_in c.store_near.new.frame) same.0 same.1
