-- An act that has been done on a frame's operands is a step.
use Rattle.std.proofs.Common.{◌≡◌, ℕ, suc, ◌+◌, refl, sym, ap, ◌∙◌, List, [], ◌∷◌, ◌++◌, reverse, take, drop}
use Rattle.std.specs.Prelude.{Option, Some, None, slice_get}
use Rattle.aos_base.specs.Question.{Calls, ByName}
use Rattle.aos_base.specs.Rooted.{Made}
use Rattle.aos_code.specs.declared.instr.Cell.{Cell}
use Rattle.aos_code.specs.declared.instr.Cell.TheVariants.{Num, Ref, Call as CallCell, Place}
use Rattle.aos_code.specs.declared.image.ProcShape.{ProcShape}
use Rattle.aos_code.specs.declared.image.TypeDesc.{TypeDesc}
use Rattle.aos_code.specs.Silent.{Stack, Keeps, Work, Look, Act, Looks, Stops, lost, Visible, noted, looks, Tells, Refuses, Invokes, Unheard, told_by, on_told, on_act, on_noted}
use Rattle.aos_code.specs.Machine.{Frame}
use Rattle.aos_silent_steps.specs.declared.act.Act.{Act as KeptAct}
use Rattle.aos_silent_steps.specs.declared.act.Act.TheVariants.{Goes as GoesOn, Sees as Asks, Begins as BeginsAt, Fails as FailsWith, Decides as DecidesWith}
use Rattle.aos_silent_steps.specs.declared.act.Way.TheVariants.{Direct}
use Rattle.aos_silent_steps.specs.declared.act.Question.{Question as KeptQuestion}
use Rattle.aos_silent_steps.specs.declared.act.Question.TheVariants.{Reads as AsksRead, Stores as AsksStore, Copies as AsksCopy, PutsText as AsksPutText, ComparesTexts as AsksCompare, Calls as AsksCall, Ends as AsksEnd, Makes as AsksNew, Starts as AsksStart, Enters as AsksEnter, Leaves as AsksLeave, Awaits as AsksAwait, PutsInt as AsksInt, PutsChar as AsksChar, PutsString as AsksString, PutsNothing as AsksNothing, PutsLn as AsksLn}
use Rattle.aos_silent_steps.specs.Acts.{question_in, operands_of, act_in, object_in}
use Rattle.aos_silent_steps.specs.Steps.{WhereMoves, DoesSo, IsStep, IsStepOf, IsTold}

-- no question of the code is silent
visible : (cells : List Cell) (q : KeptQuestion) (s : Stack) → noted cells (question_in q s) ≡ Visible
visible cells (AsksRead kind p) s = refl
visible cells (AsksStore p v) s = refl
visible cells (AsksCopy n from to) s = refl
visible cells (AsksPutText strict from n to room) s = refl
visible cells (AsksCompare r a n b m) s = refl
visible cells (AsksCall p way n) s = refl
visible cells (AsksEnd v) s = refl
visible cells (AsksNew t j) s = refl
visible cells (AsksStart o) s = refl
visible cells AsksEnter s = refl
visible cells AsksLeave s = refl
visible cells (AsksAwait c) s = refl
visible cells (AsksInt a n) s = refl
visible cells (AsksChar a) s = refl
visible cells (AsksString p n) s = refl
visible cells AsksNothing s = refl
visible cells AsksLn s = refl

done : (did : KeptAct) (shapes : List ProcShape) (types : List TypeDesc) (made : ℕ → Option Made) (cells : List Cell) (k : Keeps) (s : Stack) → DoesSo shapes types made cells (act_in did s) did k k s
done (GoesOn over) shapes types made cells k s next at = refl
done (Asks q) shapes types made cells k s next at = ap (λ n. on_noted n (question_in q s) next at k (drop (operands_of q) s)) (visible cells q s)
done (BeginsAt to p) shapes types made cells k s next at = refl
done (FailsWith n c) shapes types made cells k s next at = refl
done (DecidesWith a) shapes types made cells k s next at = refl

-- the frame's operands after it are s
pub stepped : (did : KeptAct) (a : Act) (f : Frame) (s : Stack) → act_in did s ≡ a → IsStep a did f (record f { stack = s })
stepped did a f s e =
    record { goes = λ shapes types made next at. ap (λ b. on_act shapes types made f.cells b next at f.keeps) (sym e) ∙ done did shapes types made f.cells f.keeps s next at; same = refl }

where_moves : (did : KeptAct) (P : Type 0) → P → WhereMoves did P
where_moves (GoesOn over) P p = p
where_moves (Asks q) P p = tt
where_moves (BeginsAt to pos) P p = p
where_moves (FailsWith n c) P p = tt
where_moves (DecidesWith a) P p = tt

module _ (shapes : List ProcShape) (types : List TypeDesc) (made : ℕ → Option Made) where
  -- what is done whatever objects were made as
  pub of_any : (a : Act) (did : KeptAct) (f g : Frame) → IsStep a did f g → IsStepOf shapes types made a did f g
  of_any a did f g step =
      record {
        goes = step.goes shapes types made;
        more = λ all k. where_moves did (DoesSo shapes types all f.cells a did f.keeps g.keeps g.stack) (step.goes shapes types all);
        same = step.same;
      }

  pub stepped_of : (did : KeptAct) (a : Act) (f : Frame) (s : Stack) → act_in did s ≡ a → IsStepOf shapes types made a did f (record f { stack = s })
  stepped_of did a f s e = of_any a did f (record f { stack = s }) (stepped did a f s e)

  -- what is told of an object, on a frame
  pub told_step : (a : Act) (did : KeptAct) (f : Frame) (s : Stack) → IsTold shapes types made a did s → IsStepOf shapes types made a did f (record f { stack = s })
  told_step a did f s told = record { goes = told.goes f.cells f.keeps; more = λ all k. told.more all k f.cells f.keeps; same = refl }

  -- What is told where the act is known.

  pub told_any : (did : KeptAct) (a : Act) (s : Stack) → act_in did s ≡ a → IsTold shapes types made a did s
  told_any did a s e =
      let so : (all : ℕ → Option Made) (cells : List Cell) (k : Keeps) → DoesSo shapes types all cells a did k k s = λ all cells k next at. ap (λ b. on_act shapes types all cells b next at k) (sym e) ∙ done did shapes types all cells k s next at in
      record { goes = λ cells k. so made cells k; more = λ all h cells k. where_moves did (DoesSo shapes types all cells a did k k s) (so all cells k) }

  pub told_tells : (l : Look) (o : ℕ) (a : Act) (m : Made) (vs : List Cell) (s t : Stack) → a ≡ Looks l o t → made o ≡ Some m → told_by shapes types l o (Some m) ≡ Tells vs → s ≡ vs ++ t → IsTold shapes types made a (GoesOn 0) s
  told_tells l o a m vs s t is known tells e =
      let so : (all : ℕ → Option Made) → all o ≡ Some m → (cells : List Cell) (k : Keeps) → DoesSo shapes types all cells a (GoesOn 0) k k s =
      λ all h cells k next at.
      ap (λ b. on_act shapes types all cells b next at k) is ∙ ap (λ r. on_told (told_by shapes types l o r) next at k t) h ∙ ap (λ r. on_told r next at k t) tells ∙ ap (next 0 (at + 1) k) (sym e) in
      record { goes = λ cells k. so made known cells k; more = λ all h cells k. so all (h o m known) cells k }

  pub told_refuses : (l : Look) (o : ℕ) (a : Act) (m : Made) (n : ℕ) (s t : Stack) → a ≡ Looks l o t → made o ≡ Some m → told_by shapes types l o (Some m) ≡ Refuses n → IsTold shapes types made a (FailsWith n 0) s
  told_refuses l o a m n s t is known refuses =
      record {
        goes = λ cells k next at. ap (λ b. on_act shapes types made cells b next at k) is ∙ ap (λ r. on_told (told_by shapes types l o r) next at k t) known ∙ ap (λ r. on_told r next at k t) refuses;
        more = λ all h cells k. tt;
      }

  -- a method that is called with these arguments, which lie on the stack
  pub told_invokes : (l : Look) (o : ℕ) (a : Act) (m : Made) (q count : ℕ) (vs : List Cell) (s t : Stack) → a ≡ Looks l o t → made o ≡ Some m → told_by shapes types l o (Some m) ≡ Invokes q vs →
      reverse (take count s) ≡ vs → drop count s ≡ t → IsTold shapes types made a (Asks (AsksCall q Direct count)) s
  told_invokes l o a m q count vs s t is known invokes args rest =
      record {
        goes = λ cells k next at.
            ap (λ b. on_act shapes types made cells b next at k) is ∙ ap (λ r. on_told (told_by shapes types l o r) next at k t) known ∙ ap (λ r. on_told r next at k t) invokes
            ∙ sym (λ i. Work (Calls ByName q (args i)) at k (rest i));
        more = λ all h cells k. tt;
      }

  pub told_unheard : (l : Look) (o : ℕ) (a : Act) (s t : Stack) → a ≡ Looks l o t → told_by shapes types l o (made o) ≡ Unheard → IsTold shapes types made a (FailsWith 16 0) s
  told_unheard l o a s t is unheard =
      record { goes = λ cells k next at. ap (λ b. on_act shapes types made cells b next at k) is ∙ ap (λ r. on_told r next at k t) unheard; more = λ all h cells k. tt }

-- What is on top where an object is asked.

pub looks_lost : (l : Look) (nil : Stack → Act) (s : Stack) → None ≡ object_in (slice_get s 0) → looks l nil s ≡ Stops lost
looks_lost l nil [] e = refl
looks_lost l nil (Num a ∷ s) e = refl
looks_lost l nil (Ref o ∷ s) e = absurd (cc e)
looks_lost l nil (CallCell p o ∷ s) e = refl
looks_lost l nil (Place r c t ∷ s) e = refl

-- the object on top, and the operands below
pub object_top : (o : ℕ) (s : Stack) → Some o ≡ object_in (slice_get s 0) → s ≡ Ref o ∷ drop 1 s
object_top o [] e = absurd (cc e)
object_top o (Num a ∷ s) e = absurd (cc e)
object_top o (Ref p ∷ s) e = let z : p ≡ o = cc in ap (λ x. Ref x ∷ s) z
object_top o (CallCell p q ∷ s) e = absurd (cc e)
object_top o (Place r c t ∷ s) e = absurd (cc e)

pub looks_nil : (l : Look) (nil : Stack → Act) (s : Stack) → Some 0 ≡ object_in (slice_get s 0) → looks l nil s ≡ nil (drop 1 s)
looks_nil l nil s e = ap (looks l nil) (object_top 0 s e)

pub looks_one : (l : Look) (nil : Stack → Act) (s : Stack) (o : ℕ) → Some (suc o) ≡ object_in (slice_get s 0) → looks l nil s ≡ Looks l (suc o) (drop 1 s)
looks_one l nil s o e = ap (looks l nil) (object_top (suc o) s e)
