-- A frame that stands on a path and has room for all operands is refused no instruction, and stays so.
use Rattle.std.proofs.Common.{◌≡◌, ℕ, suc, ◌+◌, ◌-◌, ◌^◌, ◌<◌, ◌≤◌, min, List, [], ◌∷◌, length, replicate, reverse, refl, sym, ap, ◌∙◌, arith, subst, get_or}
use Rattle.std.specs.Prelude.{true, Option, Some, pos, slice_get, vec_len, vec_capacity}
use Rattle.std.proofs.lemmas.List.{length-reverse, length-append, length-replicate}
use Rattle.std.proofs.lemmas.Option.{slice_get-get_or}
use Rattle.aos_base.specs.declared.text.Pos.{Pos}
use Rattle.aos_base.specs.Rooted.{Made}
use Rattle.aos_code.specs.declared.image.Image.{Image}
use Rattle.aos_code.specs.declared.instr.Kind.TheVariants.{N, A}
use Rattle.aos_code.specs.declared.instr.Instr.{Instr}
use Rattle.aos_code.specs.declared.instr.Instr.TheVariants as instr
use Rattle.aos_code.specs.declared.instr.Instr.TheVariants.{Num}
use Rattle.aos_code.specs.Silent.{Stack, Keeps, Stop, act, on_act}
use Rattle.aos_code.specs.Machine.{Frame}
use Rattle.aos_sound.specs.Sound.{row, effect_of}
use Rattle.aos_sound.specs.Fits.{KeepsToPaths, StandsOn, StandsAfter, gives_more}
use Rattle.aos_store.specs.declared.frames.Frame.{Frame as KeptFrame}
use Rattle.aos_store.specs.Store.{frame_in, kept_cells}
use Rattle.aos_silent_steps.specs.declared.act.Act.{Act as KeptAct}
use Rattle.aos_silent_steps.specs.declared.act.Act.TheVariants.{Goes as GoesOn, Begins as BeginsAt}
use Rattle.aos_silent_steps.specs.Silent.{here_at}
use Rattle.aos_silent_steps.specs.Steps.{IsStepOf, after}
use Rattle.aos_silent_steps.specs.Room.{IsFull, HasNoRow, IsRefused, StandsInRoom}

-- no instruction is refused
pub never_refused : (image : Image) (depth keeps : ℕ) (code : List Instr) (f : KeptFrame) → KeepsToPaths image f.procedure code depth → StandsInRoom image depth keeps code f →
    vec_len f.operands ≡ length f.operands.items → (i : Instr) → slice_get code f.next ≡ Some i → IsRefused keeps i f → ⊥
never_refused image depth keeps code f paths room len i is = by_instr i is
  where
    has_more : (i : Instr) → slice_get code f.next ≡ Some i → gives_more (effect_of i) ≡ true → IsFull f → ⊥
    has_more i is e full =
        let some : suc (length (reverse f.operands.items)) ≤ depth = paths.more f.next i (reverse f.operands.items) is room.stands e in
        absurd (omega (arith, some, full, len, room.operands, length-reverse f.operands.items))

    -- where an object is on top, code has room for the place and the lengths that it tells
    no_row : (j : ℕ) → slice_get code f.next ≡ Some (instr.OpenRef j) → HasNoRow j f → ⊥
    no_row j is r =
        let st = subst (λ s. StandsAfter image f.procedure code f.next (act image.shapes.items image.types.items f.procedure (here_at 0 (frame_in f)) (instr.OpenRef j) code f.next s)) r.2 (paths.step (here_at 0 (frame_in f)) f.next (instr.OpenRef j) (frame_in f).stack is room.stands) in
        let l = paths.told (f.next + 1) (row j) r.1 st in
        let long : length (row j) ≡ j + 1 = length-append (replicate j N) (A ∷ []) ∙ ap (λ n. n + 1) (length-replicate j N) in
        omega (arith, l, long, r.3, room.operands)

    by_instr : (i : Instr) → slice_get code f.next ≡ Some i → IsRefused keeps i f → ⊥
    by_instr (instr.Num n) is r = has_more (instr.Num n) is refl r
    by_instr instr.Nil is r = has_more instr.Nil is refl r
    by_instr instr.NilCall is r = has_more instr.NilCall is refl r
    by_instr (instr.Proc p) is r = has_more (instr.Proc p) is refl r
    by_instr instr.SelfRef is r = has_more instr.SelfRef is refl r
    by_instr (instr.OpenRef j) is r = no_row j is r
    by_instr instr.Dup is r = has_more instr.Dup is refl r
    by_instr (instr.Frame c) is r = has_more (instr.Frame c) is refl r
    by_instr (instr.Module m c) is r = has_more (instr.Module m c) is refl r
    by_instr (instr.Param c) is r = has_more (instr.Param c) is refl r
    by_instr (instr.Length c) is r = has_more (instr.Length c) is refl r
    by_instr (instr.Kept c k) is r = has_more (instr.Kept c k) is refl r
    by_instr (instr.Keep c k) is r = absurd (omega (arith, r.0, r.1, room.kept))
    by_instr _ is r = absurd r

-- what holds of a frame holds of one that has as much room at least and stands elsewhere on a path
still_room : (image : Image) (depth keeps : ℕ) (code : List Instr) (f g : KeptFrame) → StandsInRoom image depth keeps code f → vec_capacity f.operands ≤ vec_capacity g.operands →
    length (kept_cells f) ≤ length (kept_cells g) → g.procedure ≡ f.procedure → (n : ℕ) → StandsOn image f.procedure code n (frame_in g).stack → StandsInRoom image depth keeps code (record g { next = n })
still_room image depth keeps code f g room more kept own n stands =
    record {
      stands = subst (λ p. StandsOn image p code n (frame_in g).stack) (sym own) stands;
      operands = omega (arith, room.operands, more);
      kept = omega (arith, room.kept, kept);
    }

-- The first instruction of a frame has been done, which stands on a path with room.
module _ (image : Image) (made : ℕ → Option Made) (here depth keeps : ℕ) (code : List Instr) (f g : KeptFrame) (did : KeptAct) (within : f.next < length code)
    (step : IsStepOf image.shapes.items image.types.items made (act image.shapes.items image.types.items f.procedure (here_at here (frame_in f)) (get_or code f.next (Num (pos 0))) code f.next (frame_in f).stack) did (frame_in f) (frame_in g))
    (more : vec_capacity f.operands ≤ vec_capacity g.operands) (kept : length (kept_cells f) ≤ length (kept_cells g)) (paths : KeepsToPaths image f.procedure code depth) (room : StandsInRoom image depth keeps code f) where
  abbrev i : Instr
  i = get_or code f.next (Num (pos 0))

  is : slice_get code f.next ≡ Some i
  is = slice_get-get_or code f.next (Num (pos 0)) within

  -- where silent work goes on after it
  comes : (d : KeptAct) → did ≡ d → (next : ℕ → ℕ → Keeps → Stack → Stop) →
      on_act image.shapes.items image.types.items made (frame_in f).cells (act image.shapes.items image.types.items f.procedure (here_at here (frame_in f)) i code f.next (frame_in f).stack) next f.next (frame_in f).keeps ≡ after d next f.next (frame_in g).keeps (frame_in g).stack
  comes d e next =
      step.goes next f.next
      ∙ ap (λ x. after x next f.next (frame_in g).keeps (frame_in g).stack) e

  own : g.procedure ≡ f.procedure
  own = ap (λ (x : Frame). x.procedure) step.same

  -- after silent work, at the place where it goes on
  pub room_on : (over n : ℕ) → did ≡ GoesOn over → n ≡ min (f.next + 1 + over) (2 ^ 64 - 1) → length code < 2 ^ 64 → StandsInRoom image depth keeps code (record g { next = n })
  room_on over n e at small =
      let stack = (frame_in g).stack in
      let stands : StandsOn image f.procedure code (f.next + 1 + over) stack =
      paths.goes (here_at here (frame_in f)) made (frame_in f).cells f.next i (frame_in f).keeps (frame_in f).stack is room.stands over (frame_in g).keeps stack (comes (GoesOn over) e) in
      let lt = paths.within (f.next + 1 + over) stack stands in
      let there : n ≡ f.next + 1 + over = omega (arith, at, lt, small) in
      still_room image depth keeps code f g room more kept own n (subst (λ m. StandsOn image f.procedure code m stack) (sym there) stands)

  -- at the Begin to which it comes
  pub room_begin : (to : ℕ) (p : Pos) → did ≡ BeginsAt to p → StandsInRoom image depth keeps code (record g { next = to })
  room_begin to p e =
      let stack = (frame_in g).stack in
      let begun = paths.begun (here_at here (frame_in f)) made (frame_in f).cells f.next i (frame_in f).keeps (frame_in f).stack is room.stands to p (frame_in g).keeps stack (comes (BeginsAt to p) e) in
      still_room image depth keeps code f g room more kept own to begun.1

  -- and where it stays
  pub room_stay : frame_in g ≡ frame_in f → StandsInRoom image depth keeps code g
  room_stay same =
      still_room image depth keeps code f g room more kept own g.next
      (subst (λ (x : Frame). StandsOn image f.procedure code x.next x.stack) (sym same) room.stands)
