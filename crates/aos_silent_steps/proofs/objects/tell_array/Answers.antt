use Rattle.std.proofs.Common.{◌≡◌, ◌-◌, ◌++◌, ℕ, suc, List, ◌∷◌, [], length, drop, reverse, true, sym, ap, ◌∙◌, subst, arith, eq-eqb, append_assoc}
use Rattle.std.specs.Prelude.{Some, nat_eq, slice_get, if◌then◌else◌}
use Rattle.std.proofs.lemmas.List.{length-reverse}
use Rattle.aos_base.specs.declared.root.Root.TheVariants.{Object as ObjectRoot}
use Rattle.aos_code.specs.declared.instr.Cell.{Cell}
use Rattle.aos_code.specs.declared.instr.Cell.TheVariants.{Ref, Place}
use Rattle.aos_code.specs.Silent.{Stack, AtElements, Stops, Fails, Tells, Unheard, looks, length_cells}
use Rattle.aos_store.specs.Store.{frame_in}
use Rattle.aos_silent_steps.specs.Acts.{object_in}
use Rattle.aos_silent_steps.specs.Known.{known}
use Rattle.aos_silent_steps.specs.declared.act.Act.TheVariants.{Goes as GoesOn, Fails as FailsWith}
use Rattle.aos_silent_steps.proofs.Oks.{on_err}
use Rattle.aos_silent_steps.proofs.Stepped.{told_step, object_top}
use Rattle.aos_silent_steps.proofs.Telling.{told_one, told_unknown}
use Rattle.aos_silent_steps.proofs.objects.tell_array.Goals as goal

pub returns-in_err-reserve-in-Some-get-clause-full : goal.returns-in_err-reserve-in-Some-get-clause-full
returns-in_err-reserve-in-Some-get-clause-full c =
    let s = reverse c.args.frame.now.operands.items in
    let n = c.in-Some.number in
    let k = n - 1 in
    let top : Some n ≡ object_in (slice_get s 0) = subst (λ (xs : List Cell). Some n ≡ object_in (slice_get (reverse xs) 0)) c.deref.ensures.value c.in-Some.ensures in
    let more : n ≡ suc k = omega arith in
    let on_top : s ≡ Ref (suc k) ∷ drop 1 s = object_top n s top ∙ ap (λ m. Ref m ∷ drop 1 s) more in
    let long : length s ≡ suc (length (drop 1 s)) = ap length on_top in
    on_err c.from_residual.result _ (k, drop 1 s, on_top, omega (arith, long, length-reverse c.args.frame.now.operands.items, c.in_err-reserve-in-Some-get.ensures.full))

pub returns-in-None-get-clause-ok : goal.returns-in-None-get-clause-ok
returns-in-None-get-clause-ok c shapes types =
    let f = frame_in c.args.frame.now in
    let s = f.stack in
    let n = c.in-Some.number in
    let top : Some n ≡ object_in (slice_get s 0) = subst (λ (xs : List Cell). Some n ≡ object_in (slice_get (reverse xs) 0)) c.deref.ensures.value c.in-Some.ensures in
    told_step shapes types (known c.args.heap.now) (looks (AtElements c.args.count) (λ r. Stops (Fails 1 0)) s) (FailsWith 16 0) f s
    (told_unknown shapes types c.args.heap.now (AtElements c.args.count) s s (λ r. Stops (Fails 1 0)) n (omega arith) top c.in-None-get.ensures)

pub returns-in_ok-reserve-in-Some-get-clause-ok : goal.returns-in_ok-reserve-in-Some-get-clause-ok
returns-in_ok-reserve-in-Some-get-clause-ok c shapes types =
    let f = frame_in c.args.frame.now in
    let s = f.stack in
    let n = c.in-Some.number in
    let object = c.in-Some-get.object.now in
    let ns = object.lengths.items in
    let told = length_cells ns ++ Place (ObjectRoot n) 0 0 ∷ [] in
    let top : Some n ≡ object_in (slice_get s 0) = subst (λ (xs : List Cell). Some n ≡ object_in (slice_get (reverse xs) 0)) c.deref.ensures.value c.in-Some.ensures in
    let as_many : nat_eq c.args.count (length object.lengths.items) ≡ true = eq-eqb c.args.count (length object.lengths.items) (omega arith) in
    let now = reverse c.put_lengths.new.stack.items in
    told_step shapes types (known c.args.heap.now) (looks (AtElements c.args.count) (λ r. Stops (Fails 1 0)) s) (GoesOn 0) f now
    (told_one shapes types c.args.heap.now (AtElements c.args.count) s now (λ r. Stops (Fails 1 0)) n (omega arith) top object told c.in-Some-get.ensures
    (ap (λ b. if b then Tells told else Unheard) as_many)
    (c.put_lengths.ensures.operands ∙ ap (λ (xs : List ℕ). length_cells xs ++ (Place (ObjectRoot n) 0 0 ∷ drop 1 (reverse c.reserve.new.self.items))) c.deref-in-Some-get.ensures.value
    ∙ put (length_cells ns) (Place (ObjectRoot n) 0 0) _ (drop 1 s) (ap (λ xs. drop 1 (reverse xs)) c.in_ok-reserve-in-Some-get.ensures.items)))
  where
    put : (above : List Cell) (v : Cell) (below below' : Stack) → below ≡ below' → above ++ (v ∷ below) ≡ (above ++ v ∷ []) ++ below'
    put above v below below' e = ap (λ r. above ++ (v ∷ r)) e ∙ sym (append_assoc above (v ∷ []) below')
