-- What follows a question of a condition.
use Rattle.std.proofs.Common.{◌≡◌, ◌≢◌, ◌+◌, ℕ, ℤ, pos, List, [], ◌∷◌, drop, true, false, refl, ap, ◌∙◌}
use Rattle.std.specs.Prelude.{Option, Some, None, if◌then◌else◌}
use Rattle.aos_base.specs.declared.kernel.Verdict.{Verdict}
use Rattle.aos_base.specs.declared.kernel.Verdict.TheVariants.{Fails, Traps}
use Rattle.aos_base.specs.declared.number.Relation.{Relation}
use Rattle.aos_base.specs.Number.{holds}
use Rattle.aos_base.specs.Operators.{flag}
use Rattle.aos_base.specs.Text.{order}
use Rattle.aos_base.specs.Rooted.{Rooted, load}
use Rattle.aos_code.specs.declared.instr.Cell.{Cell}
use Rattle.aos_code.specs.declared.instr.Cell.TheVariants.{Num}
use Rattle.aos_code.specs.declared.instr.Kind.{Kind}
use Rattle.aos_code.specs.Silent.{Keeps, Stack, is_of}
use Rattle.aos_code.specs.Machine.{goes_on_with, goes_on_by, text_at}
use Rattle.aos_store.specs.declared.frames.Frame.{Frame as KeptFrame}
use Rattle.aos_store.specs.Store.{frame_in}
use Rattle.aos_silent_steps.specs.declared.act.Address.{Address}
use Rattle.aos_silent_steps.specs.declared.act.Question.{Question as KeptQuestion}
use Rattle.aos_silent_steps.specs.declared.act.Question.TheVariants.{Reads as AsksRead, Stores as AsksStore, Copies as AsksCopy, PutsText as AsksPutText, ComparesTexts as AsksCompare, Calls as AsksCall, Ends as AsksEnd, Makes as AsksNew, Starts as AsksStart, Enters as AsksEnter, Leaves as AsksLeave, Awaits as AsksAwait, PutsInt as AsksInt, PutsChar as AsksChar, PutsString as AsksString, PutsNothing as AsksNothing, PutsLn as AsksLn}
use Rattle.aos_silent_steps.specs.Acts.{addr_in}
use Rattle.aos_cpu.specs.Answers.{ordered}
use Rattle.aos_cpu.specs.Verdicts.{HasGoneOn, IsJudged}

abbrev Next : Type 0
Next = ℕ → Keeps → Stack → Verdict

-- what a cell holds, which is of the kind or isn't
pub read_none : (kind : Kind) (o : Option Cell) (next : Cell → Verdict) → o ≡ None → goes_on_with kind o next ≡ Traps 16
read_none kind o next e = ap (λ x. goes_on_with kind x next) e

pub read_other : (kind : Kind) (o : Option Cell) (v : Cell) (next : Cell → Verdict) → o ≡ Some v → is_of kind v ≡ false → goes_on_with kind o next ≡ Traps 16
read_other kind o v next e f = ap (λ x. goes_on_with kind x next) e ∙ ap (λ q. if q then next v else Traps 16) f

pub read_on : (kind : Kind) (o : Option Cell) (v : Cell) (next : Cell → Verdict) → o ≡ Some v → is_of kind v ≡ true → goes_on_with kind o next ≡ next v
read_on kind o v next e f = ap (λ x. goes_on_with kind x next) e ∙ ap (λ q. if q then next v else Traps 16) f

-- how two texts compare, where there are both
pub compared_none : (r : Relation) (a b : Option (List ℕ)) (next : Cell → Verdict) → ordered a b ≡ None → goes_on_by r a b next ≡ Traps 16
compared_none r (Some a) (Some b) next e = absurd (cc e)
compared_none r (Some a) None next e = refl
compared_none r None b next e = refl

pub compared_on : (r : Relation) (a b : Option (List ℕ)) (z : ℤ) (next : Cell → Verdict) → ordered a b ≡ Some z → goes_on_by r a b next ≡ next (Num (flag (holds r z (pos 0))))
compared_on r (Some a) (Some b) z next e = let y : order a b ≡ z = cc e in ap (λ x. next (Num (flag (holds r x (pos 0))))) y
compared_on r (Some a) None z next e = absurd (cc e)
compared_on r None b z next e = absurd (cc e)

-- what is judged of each question
module _ (x : Rooted (List Cell)) (at : ℕ) (f : KeptFrame) (old : List KeptFrame) where
  pub reads_none : (kind : Kind) (p : Address) → load p.root p.cell x ≡ None → IsJudged x (AsksRead kind p) at f old old (Some (Traps 16))
  reads_none kind p e = (λ next. read_none kind (load p.root p.cell x) (λ v. next (at + 1) (frame_in f).keeps (v ∷ drop 1 (frame_in f).stack)) e, refl)

  pub reads_other : (kind : Kind) (p : Address) (v : Cell) → load p.root p.cell x ≡ Some v → is_of kind v ≡ false → IsJudged x (AsksRead kind p) at f old old (Some (Traps 16))
  reads_other kind p v e other = (λ next. read_other kind (load p.root p.cell x) v (λ w. next (at + 1) (frame_in f).keeps (w ∷ drop 1 (frame_in f).stack)) e other, refl)

  pub reads_on : (kind : Kind) (p : Address) (v : Cell) (new : List KeptFrame) → load p.root p.cell x ≡ Some v → is_of kind v ≡ true → HasGoneOn f at 1 v old new → IsJudged x (AsksRead kind p) at f old new None
  reads_on kind p v new e is gone = (v, 1, gone, λ next. read_on kind (load p.root p.cell x) v (λ w. next (at + 1) (frame_in f).keeps (w ∷ drop 1 (frame_in f).stack)) e is)

  pub compares_none : (r : Relation) (a : Address) (n : ℤ) (b : Address) (m : ℤ) → ordered (text_at [] (addr_in a) (Num n) x) (text_at [] (addr_in b) (Num m) x) ≡ None → IsJudged x (AsksCompare r a n b m) at f old old (Some (Traps 16))
  compares_none r a n b m e =
      (λ next. compared_none r (text_at [] (addr_in a) (Num n) x) (text_at [] (addr_in b) (Num m) x) (λ v. next (at + 1) (frame_in f).keeps (v ∷ drop 4 (frame_in f).stack)) e, refl)

  pub compares_on : (r : Relation) (a : Address) (n : ℤ) (b : Address) (m : ℤ) (z : ℤ) (new : List KeptFrame) → ordered (text_at [] (addr_in a) (Num n) x) (text_at [] (addr_in b) (Num m) x) ≡ Some z →
      HasGoneOn f at 4 (Num (flag (holds r z (pos 0)))) old new → IsJudged x (AsksCompare r a n b m) at f old new None
  compares_on r a n b m z new e gone =
      (Num (flag (holds r z (pos 0))), 4, gone, λ next. compared_on r (text_at [] (addr_in a) (Num n) x) (text_at [] (addr_in b) (Num m) x) z (λ v. next (at + 1) (frame_in f).keeps (v ∷ drop 4 (frame_in f).stack)) e)

  pub asks_other : (q : KeptQuestion) → ((kind : Kind) (p : Address) → q ≢ AsksRead kind p) → ((r : Relation) (a : Address) (n : ℤ) (b : Address) (m : ℤ) → q ≢ AsksCompare r a n b m) → IsJudged x q at f old old (Some Fails)
  asks_other (AsksRead kind p) not_read not_compare = absurd (not_read kind p refl)
  asks_other (AsksCompare r a n b m) not_read not_compare = absurd (not_compare r a n b m refl)
  asks_other (AsksStore p v) not_read not_compare = (λ next. refl, refl)
  asks_other (AsksCopy count from to) not_read not_compare = (λ next. refl, refl)
  asks_other (AsksPutText strict from n to room) not_read not_compare = (λ next. refl, refl)
  asks_other (AsksCall p way count) not_read not_compare = (λ next. refl, refl)
  asks_other (AsksEnd result) not_read not_compare = (λ next. refl, refl)
  asks_other (AsksNew t j) not_read not_compare = (λ next. refl, refl)
  asks_other (AsksStart o) not_read not_compare = (λ next. refl, refl)
  asks_other AsksEnter not_read not_compare = (λ next. refl, refl)
  asks_other AsksLeave not_read not_compare = (λ next. refl, refl)
  asks_other (AsksAwait c) not_read not_compare = (λ next. refl, refl)
  asks_other (AsksInt a n) not_read not_compare = (λ next. refl, refl)
  asks_other (AsksChar a) not_read not_compare = (λ next. refl, refl)
  asks_other (AsksString p n) not_read not_compare = (λ next. refl, refl)
  asks_other AsksNothing not_read not_compare = (λ next. refl, refl)
  asks_other AsksLn not_read not_compare = (λ next. refl, refl)
