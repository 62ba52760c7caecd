-- Silent work, one instruction at a time.
use Rattle.std.proofs.Common.{◌≡◌, ℕ, zero, suc, ◌+◌, ◌<◌, ◌≤◌, List, [], ◌∷◌, length, drop, refl, sym, ap, ◌∙◌, arith, min, ◌-◌, ◌^◌, inl, inr, get_or, subst}
use Rattle.std.proofs.lemmas.Bool.Decides.{leb_tells}
use Rattle.std.specs.Prelude.{Option, Some, pos, slice_get}
use Rattle.std.proofs.lemmas.List.{drop-drop, drop_all}
use Rattle.std.proofs.lemmas.Option.{slice_get-get_or}
use Rattle.aos_base.specs.declared.text.Pos.{Pos}
use Rattle.aos_base.specs.Rooted.{Made}
use Rattle.aos_code.specs.declared.image.Image.{Image}
use Rattle.aos_code.specs.declared.instr.Cell.{Cell}
use Rattle.aos_code.specs.declared.instr.Instr.{Instr}
use Rattle.aos_code.specs.declared.instr.Instr.TheVariants.{Begin, Num}
use Rattle.aos_code.specs.declared.image.ProcShape.{ProcShape}
use Rattle.aos_code.specs.declared.image.TypeDesc.{TypeDesc}
use Rattle.aos_code.specs.Silent.{Here, Stack, Keeps, Stop, Act, Begins, Ended, lost, act, on_act, walk, silent}
use Rattle.aos_code.specs.Machine.{Frame}
use Rattle.aos_silent_steps.specs.declared.act.Act.{Act as KeptAct}
use Rattle.aos_silent_steps.specs.declared.act.Act.TheVariants.{Goes as GoesOn, Begins as BeginsAt}
use Rattle.aos_silent_steps.specs.Acts.{IsBeginOf}
use Rattle.aos_silent_steps.specs.Steps.{after, WhereMoves, DoesSo}
use Rattle.aos_silent_steps.specs.Silent.{Seen, here_at, seen_with}
use Rattle.aos_silent_steps.proofs.Arguments.{at_and_behind}

pub drop_next : {X : Type 0} (at : ℕ) (xs : List X) (x : X) (rest : List X) → drop at xs ≡ x ∷ rest → drop (at + 1) xs ≡ rest
drop_next zero [] x rest e = absurd (cc e)
drop_next zero (y ∷ xs) x rest e = cc
drop_next (suc at) [] x rest e = absurd (cc e)
drop_next (suc at) (y ∷ xs) x rest e =
    let n : suc at + 1 ≡ suc (at + 1) = omega arith in
    ap (λ m. drop m (y ∷ xs)) n ∙ drop_next at xs x rest e

module _ (shapes : List ProcShape) (types : List TypeDesc) (made : ℕ → Option Made) (own : ℕ) (here : Here) (cells : List Cell) (code : List Instr) where
  abbrev going : ℕ → Keeps → Stack → Stop
  going at k s = silent shapes types made own here cells code at k s

  skips : (n p : ℕ) (rest : List Instr) (k : Keeps) (s : Stack) → drop p code ≡ rest → walk shapes types made own here cells code rest n p k s ≡ going (p + n) k s
  skips zero p rest k s e = let z : p ≡ p + 0 = omega arith in ap (λ l. walk shapes types made own here cells code l 0 p k s) (sym e) ∙ ap (λ m. going m k s) z
  skips (suc n) p [] k s e = ap (λ l. walk shapes types made own here cells code l 0 (p + suc n) k s) (sym (sym (drop-drop (suc n) p code) ∙ ap (drop (suc n)) e))
  skips (suc n) p (i ∷ rest) k s e =
      let z : p + 1 + n ≡ p + suc n = omega arith in
      skips n (p + 1) rest k s (drop_next p code i rest e) ∙ ap (λ m. going m k s) z

  -- the first instruction
  pub acts : (at : ℕ) (i : Instr) (k : Keeps) (s : Stack) → slice_get code at ≡ Some i →
      going at k s ≡ on_act shapes types made cells (act shapes types own here i code at s) (walk shapes types made own here cells code (drop (at + 1) code)) at k
  acts at i k s here_is = ap (λ l. walk shapes types made own here cells code l 0 at k s) (at_and_behind code at i here_is)

  past_end : (at : ℕ) (k : Keeps) (s : Stack) → length code ≤ at → going at k s ≡ Ended lost k
  past_end at k s le = ap (λ l. walk shapes types made own here cells code l 0 at k s) (drop_all at code le)

  at_begin : (at : ℕ) (p : Pos) (k : Keeps) (s : Stack) → slice_get code at ≡ Some (Begin p.line p.col) → going at k s ≡ Ended (Begins at p s) k
  at_begin at p k s here_is = acts at (Begin p.line p.col) k s here_is

  -- a place past the greatest number is past the end
  jumped : (at n m : ℕ) (k : Keeps) (s : Stack) → m ≡ min (at + 1 + n) (2 ^ 64 - 1) → length code < 2 ^ 64 → going (at + 1 + n) k s ≡ going m k s
  jumped at n m k s is small =
      elim (leb_tells (at + 1 + n) m) [
        | inl e ↦
            let le : at + 1 + n ≤ m = e.1 in
            let z : at + 1 + n ≡ m = omega (arith, is) in
            ap (λ x. going x k s) z
        | inr e ↦
            let lt : m < at + 1 + n = e.1 in
            let far : length code ≤ m = omega (arith, is) in
            let farther : length code ≤ at + 1 + n = omega arith in
            past_end (at + 1 + n) k s farther ∙ sym (past_end m k s far)
      ]

-- The first instruction of a frame of this code has been done, where silent work goes on or comes to a Begin.
module _ (image : Image) (all : ℕ → Option Made) (here : ℕ) (f g : Frame) (code : List Instr) (did : KeptAct) (within : f.next < length code)
    (moves : WhereMoves did (DoesSo image.shapes.items image.types.items all f.cells (act image.shapes.items image.types.items f.procedure (here_at here f) (get_or code f.next (Num (pos 0))) code f.next f.stack) did f.keeps g.keeps g.stack))
    (same : g ≡ record f { keeps = g.keeps; stack = g.stack }) where
  abbrev from : ℕ → Keeps → Stack → Stop
  from at k s = silent image.shapes.items image.types.items all f.procedure (here_at here f) f.cells code at k s

  abbrev first : Act
  first = act image.shapes.items image.types.items f.procedure (here_at here f) (get_or code f.next (Num (pos 0))) code f.next f.stack

  -- where silent work goes on after it
  comes : (d : KeptAct) → did ≡ d → DoesSo image.shapes.items image.types.items all f.cells first did f.keeps g.keeps g.stack →
      from f.next f.keeps f.stack ≡ after d (walk image.shapes.items image.types.items all f.procedure (here_at here f) f.cells code (drop (f.next + 1) code)) f.next g.keeps g.stack
  comes d e does =
      let rest = walk image.shapes.items image.types.items all f.procedure (here_at here f) f.cells code (drop (f.next + 1) code) in
      acts image.shapes.items image.types.items all f.procedure (here_at here f) f.cells code f.next (get_or code f.next (Num (pos 0))) f.keeps f.stack (slice_get-get_or code f.next (Num (pos 0)) within)
      ∙ does rest f.next ∙ ap (λ x. after x rest f.next g.keeps g.stack) e

  -- a frame that stands elsewhere, with the operands that it left, is seen as before
  seen_so : (m : ℕ) → from m g.keeps g.stack ≡ from f.next f.keeps f.stack → seen_with image code all here (record g { next = m }) ≡ seen_with image code all here f
  seen_so m e =
      ap (λ x. seen_with image code all here (record x { next = m })) same
      ∙ ap (λ s. let x : Seen = record { procedure = f.procedure; object = f.object; at = f.at; is_open = f.is_open; cells = f.cells; counted = f.counted; stop = s } in x)
      e

  pub seen_on : (over m : ℕ) → did ≡ GoesOn over → m ≡ min (f.next + 1 + over) (2 ^ 64 - 1) → length code < 2 ^ 64 → seen_with image code all here (record g { next = m }) ≡ seen_with image code all here f
  seen_on over m e is small =
      let does = subst (λ d. WhereMoves d (DoesSo image.shapes.items image.types.items all f.cells first did f.keeps g.keeps g.stack)) e moves in
      seen_so m
      (sym (jumped image.shapes.items image.types.items all f.procedure (here_at here f) f.cells code f.next over m g.keeps g.stack is small)
      ∙ sym (skips image.shapes.items image.types.items all f.procedure (here_at here f) f.cells code over (f.next + 1) (drop (f.next + 1) code) g.keeps g.stack refl) ∙ sym (comes (GoesOn over) e does))

  pub seen_begin : (to : ℕ) (p : Pos) → did ≡ BeginsAt to p → IsBeginOf code did → seen_with image code all here (record g { next = to }) ≡ seen_with image code all here f
  seen_begin to p e begins =
      let does = subst (λ d. WhereMoves d (DoesSo image.shapes.items image.types.items all f.cells first did f.keeps g.keeps g.stack)) e moves in
      seen_so to (at_begin image.shapes.items image.types.items all f.procedure (here_at here f) f.cells code to p g.keeps g.stack (subst (IsBeginOf code) e begins) ∙ sym (comes (BeginsAt to p) e does))
