use Rattle.std.proofs.Common.{rules, w64, ◌≡◌, ◌<◌, ◌+◌, ◌∷◌, ℕ, List, length, reverse, drop, sym, ap, ◌∙◌, subst, arith}
use Rattle.std.specs.Prelude.{Bool, if◌then◌else◌}
use mir.Val.{to_z, of_z}
use Rattle.std.proofs.lemmas.List.{length-reverse}
use Rattle.aos_base.specs.declared.operator.Binary.TheVariants.{Cmp}
use Rattle.aos_base.specs.Number.{holds}
use Rattle.aos_base.specs.Operators.{binary, flag}
use Rattle.aos_code.specs.declared.instr.Cell.{Cell}
use Rattle.aos_code.specs.declared.instr.Cell.TheVariants.{Num as NumCell}
use Rattle.aos_code.specs.declared.instr.Instr.{Instr}
use Rattle.aos_code.specs.declared.instr.Instr.TheVariants.{Num}
use Rattle.aos_code.specs.Silent.{Stack, Goes, act, given, gives, on_numbers}
use Rattle.aos_store.specs.Store.{frame_in}
use Rattle.aos_silent_steps.specs.Silent.{here_at}
use Rattle.aos_cpu.specs.InPlace.{HasWorked}
use Rattle.aos_cpu.proofs.InPlace.{not_empty, went_then, compared_behind}
use Rattle.aos_cpu.proofs.in_place.compare_top.Goals as goal

pub replace-requires : goal.replace-requires
replace-requires c =
    let xs = c.deref.result.now in
    let some : 0 < length (reverse xs) = not_empty (reverse xs) (drop 2 (reverse xs)) (c.in-Some.ensures (λ a b s. Goes 0 s)) in
    omega (arith, length-reverse xs)

pub returns-in-None-clause-done : goal.returns-in-None-clause-done
returns-in-None-clause-done c image here mem code_is at_is is =
    let f = frame_in c.args.frame.now in
    let r = c.args.relation in
    let a = c.in-Some.a in
    let b = c.in-Some.b in
    let two : on_numbers (λ x y u. given (binary (Cmp r) x y) u) f.stack ≡ given (binary (Cmp r) a b) (drop 2 f.stack) =
    subst (λ (xs : List Cell). on_numbers (λ x y u. given (binary (Cmp r) x y) u) (reverse xs) ≡ given (binary (Cmp r) a b) (drop 2 (reverse xs))) c.deref.ensures.value (c.in-Some.ensures (λ x y u. given (binary (Cmp r) x y) u)) in
    let first : to_z w64 (of_z w64 a) ≡ a = search rules in
    let second : to_z w64 (of_z w64 b) ≡ b = search rules in
    let value = c.truth.result in
    let third : to_z w64 (of_z w64 value) ≡ value = search rules in
    let told : holds r a b ≡ c.related-holds.result = (λ j. holds r (sym first j) (sym second j)) ∙ sym c.related-holds.ensures in
    let does = λ (i : Instr). act image.shapes.items image.types.items f.procedure (here_at here f) i c.args.code.now c.args.at f.stack in
    subst (λ (s : Stack). HasWorked image here mem mem f (record f { next = c.args.at + 1; stack = s })) (sym (c.replace.ensures.operands ∙ ap (λ z. NumCell z ∷ drop 2 f.stack) third))
    (went_then image here mem f c.args.code.now c.args.at code_is at_is c.requires.within (omega arith) (NumCell value ∷ drop 2 f.stack)
    (ap does is ∙ two ∙ ap (λ (h : Bool). gives (NumCell (flag h)) (drop 2 f.stack)) told ∙ ap (λ z. gives (NumCell z) (drop 2 f.stack)) (sym c.truth.ensures)))

pub returns-in-Some-jumps_ahead-clause-done : goal.returns-in-Some-jumps_ahead-clause-done
returns-in-Some-jumps_ahead-clause-done c image here mem code_is at_is is =
    let f = frame_in c.args.frame.now in
    let r = c.args.relation in
    let a = c.in-Some.a in
    let b = c.in-Some.b in
    let to = c.in-Some-jumps_ahead.to in
    let jump = c.in-Some-jumps_ahead.ensures in
    let two : on_numbers (λ x y u. given (binary (Cmp r) x y) u) f.stack ≡ given (binary (Cmp r) a b) (drop 2 f.stack) =
    subst (λ (xs : List Cell). on_numbers (λ x y u. given (binary (Cmp r) x y) u) (reverse xs) ≡ given (binary (Cmp r) a b) (drop 2 (reverse xs))) c.deref.ensures.value (c.in-Some.ensures (λ x y u. given (binary (Cmp r) x y) u)) in
    let first : to_z w64 (of_z w64 a) ≡ a = search rules in
    let second : to_z w64 (of_z w64 b) ≡ b = search rules in
    let told : holds r a b ≡ c.related-holds.result = (λ j. holds r (sym first j) (sym second j)) ∙ sym c.related-holds.ensures in
    let next = ap (λ (h : Bool). if h then c.args.at + 2 else to) told ∙ sym c.past_jump-frame.ensures in
    subst (λ (x : ℕ × Stack). HasWorked image here mem mem f (record f { next = x.0; stack = x.1 })) (λ j. (next j, sym c.take.ensures.operands j))
    (compared_behind image here mem f c.args.code.now c.args.at to r a b code_is at_is jump.1 (omega arith) (omega arith) is jump.2 jump.0 two)
