-- Silent work that isn't lost goes on as before where more is known of objects.
use Rattle.std.proofs.Common.{◌≡◌, ℕ, zero, suc, ◌+◌, List, [], ◌∷◌, ◌++◌, drop, refl, ap, ◌∙◌}
use Rattle.std.specs.Prelude.{Option, Some, None, Bool, true, false, if◌then◌else◌}
use Rattle.aos_base.specs.Rooted.{Made}
use Rattle.aos_code.specs.declared.instr.Cell.{Cell}
use Rattle.aos_code.specs.declared.instr.Instr.{Instr}
use Rattle.aos_code.specs.declared.image.ProcShape.{ProcShape}
use Rattle.aos_code.specs.declared.image.TypeDesc.{TypeDesc}
use Rattle.aos_code.specs.Silent.{Here, Stack, Keeps, Question, Stop, Ended, lost, Look, Act, Goes, Puts, Takes, Looks, Sees, Stops, is_of, act, Noted, Visible, Answered, Unknown, noted, on_noted, Told, Tells, Refuses, Invokes, Unheard, told_by, on_told, kept, on_act, walk, silent}
use Rattle.aos_silent_steps.specs.Known.{Knows}

-- it doesn't end lost
abbrev pub IsFound : Stop → Type 0
IsFound s = (k : Keeps) → s ≡ Ended lost k → ⊥

abbrev Next : Type 0
Next = ℕ → ℕ → Keeps → Stack → Stop

module _ (shapes : List ProcShape) (types : List TypeDesc) (made all : ℕ → Option Made) (knows : Knows all made) (cells : List Cell) where
  -- what comes next is the same
  abbrev SameNext : Next → Next → (at : ℕ) → Type 0
  SameNext next next' at = (over : ℕ) (k : Keeps) (s : Stack) → IsFound (next over (at + 1) k s) → next' over (at + 1) k s ≡ next over (at + 1) k s

  if_more : (b : Bool) (t t' : Stop) (k : Keeps) → (IsFound t → t' ≡ t) → IsFound (if b then t else Ended lost k) → (if b then t' else Ended lost k) ≡ (if b then t else Ended lost k)
  if_more true t t' k h f = h f
  if_more false t t' k h f = refl

  heard_more : (r : Told) (next next' : Next) (at : ℕ) (k : Keeps) (s : Stack) → SameNext next next' at → IsFound (on_told r next at k s) → on_told r next' at k s ≡ on_told r next at k s
  heard_more (Tells vs) next next' at k s h f = h 0 k (vs ++ s) f
  heard_more (Refuses n) next next' at k s h f = refl
  heard_more (Invokes q vs) next next' at k s h f = refl
  heard_more Unheard next next' at k s h f = refl

  told_more : (l : Look) (o : ℕ) (next next' : Next) (at : ℕ) (k : Keeps) (s : Stack) → SameNext next next' at → IsFound (on_told (told_by shapes types l o (made o)) next at k s) →
      on_told (told_by shapes types l o (all o)) next' at k s ≡ on_told (told_by shapes types l o (made o)) next at k s
  told_more l o next next' at k s h = by (made o) refl
    where
      by : (m : Option Made) → made o ≡ m → IsFound (on_told (told_by shapes types l o m) next at k s) → on_told (told_by shapes types l o (all o)) next' at k s ≡ on_told (told_by shapes types l o m) next at k s
      by None e f = absurd (f k refl)
      by (Some m) e f = ap (λ x. on_told (told_by shapes types l o x) next' at k s) (knows o m e) ∙ heard_more (told_by shapes types l o (Some m)) next next' at k s h f

  noted_more : (n : Noted) (q : Question) (next next' : Next) (at : ℕ) (k : Keeps) (s : Stack) → SameNext next next' at → IsFound (on_noted n q next at k s) → on_noted n q next' at k s ≡ on_noted n q next at k s
  noted_more Visible q next next' at k s h f = refl
  noted_more (Answered v) q next next' at k s h f = h 0 k (v ∷ s) f
  noted_more Unknown q next next' at k s h f = refl

  act_more : (a : Act) (next next' : Next) (at : ℕ) (k : Keeps) → SameNext next next' at → IsFound (on_act shapes types made cells a next at k) → on_act shapes types all cells a next' at k ≡ on_act shapes types made cells a next at k
  act_more (Goes over s) next next' at k h f = h over k s f
  act_more (Puts c v s) next next' at k h f = h 0 (kept c v k) s f
  act_more (Takes c kind s) next next' at k h f = if_more (is_of kind (k c)) (next 0 (at + 1) k (k c ∷ s)) (next' 0 (at + 1) k (k c ∷ s)) k (h 0 k (k c ∷ s)) f
  act_more (Looks l o s) next next' at k h f = told_more l o next next' at k s h f
  act_more (Sees q s) next next' at k h f = noted_more (noted cells q) q next next' at k s h f
  act_more (Stops end) next next' at k h f = refl

  module _ (own : ℕ) (here : Here) (code : List Instr) where
    walk_more : (rest : List Instr) (over at : ℕ) (k : Keeps) (s : Stack) → IsFound (walk shapes types made own here cells code rest over at k s) →
        walk shapes types all own here cells code rest over at k s ≡ walk shapes types made own here cells code rest over at k s
    walk_more [] over at k s f = refl
    walk_more (i ∷ rest) zero at k s f =
        act_more (act shapes types own here i code at s) (walk shapes types made own here cells code rest) (walk shapes types all own here cells code rest) at k (λ over k1 s1. walk_more rest over (at + 1) k1 s1) f
    walk_more (i ∷ rest) (suc n) at k s f = walk_more rest n (at + 1) k s f

    pub silent_more : (at : ℕ) (k : Keeps) (s : Stack) → IsFound (silent shapes types made own here cells code at k s) →
        silent shapes types all own here cells code at k s ≡ silent shapes types made own here cells code at k s
    silent_more at k s f = walk_more (drop at code) 0 at k s f
