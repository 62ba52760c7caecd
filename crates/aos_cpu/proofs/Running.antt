-- Turns in place, one behind another, over the memory as it is.
use Rattle.std.proofs.Common.{◌≡◌, ◌<◌, ◌+◌, ℕ, suc, refl, sym, ap, ◌∙◌, subst, arith}
use Rattle.std.specs.Prelude.{Bool}
use Rattle.aos_code.specs.declared.image.Image.{Image}
use Rattle.aos_code.specs.Memory.{Memory}
use Rattle.aos_code.specs.Machine.{Frame, Turned, turn, made_in}
use Rattle.aos_silent_steps.specs.Silent.{Seen}
use Rattle.aos_cpu.specs.Turns.{Alike, counted}
use Rattle.aos_cpu.specs.InPlace.{on_top, HasTurnedTop, HasWorked}
use Rattle.aos_cpu.specs.Many.{Reached, after_many, GoesFrom, HasRunOn}
use Rattle.aos_cpu.proofs.Turns.{itself}
use Rattle.aos_cpu.proofs.Own.{at_or_below}
use Rattle.aos_cpu.proofs.InPlace.{alike_top}

pub ran_none : (image : Image) (here budget begun : ℕ) (mem : Memory) (f : Frame) → HasRunOn image here budget 0 begun begun mem mem f f
ran_none image here budget begun mem f =
    record {
      same = refl;
      runs = λ following rest fs len h. record { goes = λ i lt. absurd (omega arith); below = λ i lt. absurd (omega arith); store = refl; alike = h; begun = refl };
      fits = λ whole following rest len fit. fit;
    }

-- silent work behind them
pub ran_still : (image : Image) (here budget many begun now : ℕ) (mem was later : Memory) (f mid g : Frame) → HasRunOn image here budget many begun now mem was f mid → HasWorked image here was later mid g →
    HasRunOn image here budget many begun now mem later f g
ran_still image here budget many begun now mem was later f mid g before worked =
    let made = made_in image was in
    subst (λ m. HasRunOn image here budget many begun now mem m f g) (sym worked.memory)
    (record {
      same = ap (λ (x : Seen). x.procedure) (worked.seen made (itself made)) ∙ before.same;
      runs = λ following rest fs len h.
          let start : Reached = record { store = mem; frames = fs; begun = begun } in
          let r = before.runs following rest fs len h in
          record {
            goes = r.goes;
            below = r.below;
            store = r.store;
            alike = alike_top image made here mid g following rest (after_many image many start).frames len (λ all knows. sym (worked.seen all knows)) r.alike;
            begun = r.begun;
          };
      fits = λ whole following rest len fit. worked.fits whole following rest len (before.fits whole following rest len fit);
    })

-- a turn more
pub ran_more : (image : Image) (here budget many begun now now' : ℕ) (begins : Bool) (mem was later : Memory) (f mid g : Frame) → HasRunOn image here budget many begun now mem was f mid → now < budget →
    HasTurnedTop image here begins was later mid g → now' ≡ counted begins now → HasRunOn image here budget (many + 1) begun now' mem later f g
ran_more image here budget many begun now now' begins mem was later f mid g before below turned counts =
    let one : suc many ≡ many + 1 = omega arith in
    subst (λ n. HasRunOn image here budget n begun now' mem later f g) one
    (record {
      same = turned.same ∙ before.same;
      runs = λ following rest fs len h.
          let start : Reached = record { store = mem; frames = fs; begun = begun } in
          let r = before.runs following rest fs len h in
          let x = after_many image many start in
          let t = turned.turns following rest x.frames len r.alike in
          let at : turn image x.store x.frames ≡ turn image was x.frames = ap (λ m. turn image m x.frames) r.store in
          record {
            goes = at_or_below (λ i. GoesFrom image (after_many image i start)) many r.goes (record { output = ap (λ (y : Turned). y.output) at ∙ t.output; left = ap (λ (y : Turned). y.left) at ∙ t.left });
            below = at_or_below (λ i. (after_many image i start).begun < budget) many r.below (subst (λ n. n < budget) (sym r.begun) below);
            store = ap (λ (y : Turned). y.store) at ∙ t.store;
            alike = subst (λ (y : Turned). Alike image (made_in image later) y.frames (on_top following g rest)) (sym at) t.alike;
            begun = (λ i. counted ((ap (λ (y : Turned). y.begun) at ∙ t.begun) i) (r.begun i)) ∙ sym counts;
          };
      fits = λ whole following rest len fit. turned.fits whole following rest len (before.fits whole following rest len fit);
    })
