use Rattle.std.proofs.Common.{◌≡◌, ℕ, List, ◌+◌, reverse, sym, subst}
use Rattle.std.specs.Prelude.{Some, false, slice_get}
use Rattle.aos_code.specs.declared.instr.Cell.{Cell}
use Rattle.aos_code.specs.declared.instr.Instr.TheVariants.{Load}
use Rattle.aos_code.specs.Silent.{Stack}
use Rattle.aos_code.specs.Machine.{code_of}
use Rattle.aos_store.specs.Store.{frame_in, memory_in}
use Rattle.aos_silent_steps.specs.Acts.{address_in}
use Rattle.aos_cpu.specs.InPlace.{HasTurnedTop}
use Rattle.aos_cpu.proofs.InPlace.{read_top}
use Rattle.aos_cpu.proofs.in_place.load_top.Goals as goal

pub returns-clause-done : goal.returns-clause-done
returns-clause-done c image at_is here_is =
    let f = frame_in c.args.frame.now in
    let here = c.args.here in
    let mem = memory_in c.args.store.now in
    let place : address_in (slice_get f.stack 0) ≡ Some c.in-Some.place =
    subst (λ (xs : List Cell). address_in (slice_get (reverse xs) 0) ≡ Some c.in-Some.place) c.deref.ensures.value (sym c.in-Some.ensures) in
    subst (λ (x : ℕ × Stack). HasTurnedTop image here false mem mem f (record f { next = x.0 + 1; stack = x.1 })) (λ i. (sym at_is i, sym c.replace.ensures.operands i))
    (read_top image here f mem c.args.kind c.in-Some.place c.in-Some-load_near.value (subst (λ n. slice_get (code_of image f.procedure) n ≡ Some (Load c.args.kind)) at_is here_is) place c.in-Some-load_near.ensures
    (sym c.if-not-is_of.ensures))
