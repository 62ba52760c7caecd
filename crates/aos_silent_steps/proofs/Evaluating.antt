-- What may stand in a condition gives no more operands than are counted for it, and keeps nothing.
use Rattle.std.proofs.Common.{◌≡◌, ◌≤◌, ℕ, zero, suc, ◌+◌, ◌-◌, ◌*◌, ◌^◌, ◌<◌, min, List, [], ◌∷◌, ◌++◌, length, map, reverse, drop, get_or, Bool, true, false, refl, sym, ap, ◌∙◌, subst, arith}
use Rattle.std.specs.Prelude.{ℤ, pos, negsuc, Option, Some, None, if◌then◌else◌, slice_get, nat_lt, nat_eq, vec_len, vec_capacity}
use Rattle.std.specs.List.{list_all}
use Rattle.std.proofs.Math.Seq.{drop-nil}
use Rattle.std.proofs.lemmas.List.{length-append, length-map, length-reverse}
use Rattle.std.proofs.lemmas.List.Sums.{sum_by-drop_more, sum_by-take-drop}
use Rattle.std.proofs.lemmas.List.Folds.{list_all_at}
use Rattle.aos_base.specs.declared.text.Pos.{Pos}
use Rattle.aos_base.specs.declared.root.Root.{Root}
use Rattle.aos_base.specs.declared.operator.Given.{Given}
use Rattle.aos_base.specs.declared.operator.Given.TheVariants.{Number, Trap, Undefined}
use Rattle.aos_base.specs.Rooted.{Made}
use Rattle.aos_base.specs.Operators.{unary, binary, natural, flag}
use Rattle.aos_base.specs.Question.{Reads, ComparesTexts, Places, Lengths, PutsNothing}
use Rattle.aos_code.specs.declared.instr.Cell.{Cell}
use Rattle.aos_code.specs.declared.instr.Cell.TheVariants.{Num, Ref, Call as CallCell, Place}
use Rattle.aos_code.specs.declared.instr.Kind.{Kind}
use Rattle.aos_code.specs.declared.instr.Kind.TheVariants.{N, A}
use Rattle.aos_code.specs.declared.instr.Instr.{Instr}
use Rattle.aos_code.specs.declared.instr.Instr.TheVariants as instr
use Rattle.aos_code.specs.declared.image.ProcShape.{ProcShape}
use Rattle.aos_code.specs.declared.image.TypeDesc.{TypeDesc}
use Rattle.aos_code.specs.declared.image.Image.{Image}
use Rattle.aos_code.specs.Memory.{Addr}
use Rattle.aos_code.specs.Numbered.{numbered}
use Rattle.aos_code.specs.Silent.{Stack, Keeps, Question, Begins, Fails, Decides, Stop, Work, Ended, lost, Act, Goes, Puts, Takes, Looks, Sees, Stops, Look, AtCell, AtElements, IsType, AsType, AsMethod, AtSlot, Here, Told, Tells, Refuses, Invokes, Unheard, Noted, Visible, Answered, Unknown, is_of, if_of, on_any, on_kind, number_then, on_number, place_then, on_place, length_then, lengths_on, counted_on, object_then, on_object, unless_nil, looks, callable_then, on_callable, on_text, gives, given, gives_self, gives_place, element, in_rows, cells_of, length_cells, gives_picked, extends, are_one, keeps_in, jumps, lands, jumps_on_false, act, on_act, on_noted, noted, noted_as, on_told, told_by}
use Rattle.aos_code.specs.Machine.{Frame, may_evaluate}
use Rattle.aos_sound.specs.Fits.{told_kinds}
use Rattle.aos_sound.proofs.FitsOperands.{are_length}
use Rattle.aos_sound.proofs.FitsWalks.{HeardSo, heard_so}
use Rattle.aos_store.specs.declared.frames.Frame.{Frame as KeptFrame}
use Rattle.aos_store.specs.Store.{frame_in}
use Rattle.aos_silent_steps.specs.declared.act.Act.{Act as KeptAct}
use Rattle.aos_silent_steps.specs.declared.act.Act.TheVariants.{Goes as GoesOn, Begins as BeginsAt}
use Rattle.aos_silent_steps.specs.Silent.{here_at}
use Rattle.aos_silent_steps.specs.Steps.{IsStepOf, after}
use Rattle.aos_silent_steps.specs.Room.{IsFull, HasNoRow, IsRefused}
use Rattle.aos_silent_steps.specs.Conditions.{grows, need, HasRoomFor, HasMoved}

-- an act leaves no more operands than so many, and keeps nothing
abbrev HasFew : ℕ → Act → Type 0
HasFew n (Goes over s) = length s ≤ n
HasFew n (Puts c v s) = ⊥
HasFew n (Takes c kind s) = suc (length s) ≤ n
HasFew n (Looks l o s) = length (told_kinds l) + length s ≤ n
HasFew n (Sees q s) = suc (length s) ≤ n
HasFew n (Stops e) = Unit {0}

module _ (n : ℕ) where
  any_few : (k : Cell → Stack → Act) (s : Stack) → ((v : Cell) (s' : Stack) → length s ≡ suc (length s') → HasFew n (k v s')) → HasFew n (on_any k s)
  any_few k [] h = tt
  any_few k (v ∷ s) h = h v s refl

  of_few : (b : Bool) (a : Act) → HasFew n a → HasFew n (if b then a else Stops lost)
  of_few true a h = h
  of_few false a h = tt

  kind_few : (kind : Kind) (k : Cell → Stack → Act) (s : Stack) → ((v : Cell) (s' : Stack) → length s ≡ suc (length s') → HasFew n (k v s')) → HasFew n (on_kind kind k s)
  kind_few kind k s h = any_few (λ v s'. if_of kind v (k v s')) s (λ v s' e. of_few (is_of kind v) (k v s') (h v s' e))

  number_few : (k : ℤ → Stack → Act) (s : Stack) → ((z : ℤ) (s' : Stack) → length s ≡ suc (length s') → HasFew n (k z s')) → HasFew n (on_number k s)
  number_few k s h = any_few (λ v s'. number_then (λ a. k a s') v) s by
    where
      by : (v : Cell) (s' : Stack) → length s ≡ suc (length s') → HasFew n (number_then (λ a. k a s') v)
      by (Num a) s' e = h a s' e
      by (Ref o) s' e = tt
      by (CallCell p o) s' e = tt
      by (Place root cell type) s' e = tt

  place_few : (k : Addr → ℕ → Stack → Act) (s : Stack) → ((a : Addr) (t : ℕ) (s' : Stack) → length s ≡ suc (length s') → HasFew n (k a t s')) → HasFew n (on_place k s)
  place_few k s h = any_few (λ v s'. place_then (λ a t. k a t s') v) s by
    where
      by : (v : Cell) (s' : Stack) → length s ≡ suc (length s') → HasFew n (place_then (λ a t. k a t s') v)
      by (Num a) s' e = tt
      by (Ref o) s' e = tt
      by (CallCell p o) s' e = tt
      by (Place root cell type) s' e = h (record { root = root; cell = cell }) type s' e

  object_few : (k : ℕ → Stack → Act) (s : Stack) → ((o : ℕ) (s' : Stack) → length s ≡ suc (length s') → HasFew n (k o s')) → HasFew n (on_object k s)
  object_few k s h = any_few (λ v s'. object_then (λ o. k o s') v) s by
    where
      by : (v : Cell) (s' : Stack) → length s ≡ suc (length s') → HasFew n (object_then (λ o. k o s') v)
      by (Num a) s' e = tt
      by (Ref o) s' e = h o s' e
      by (CallCell p o) s' e = tt
      by (Place root cell type) s' e = tt

  callable_few : (k : ℕ → ℕ → Stack → Act) (s : Stack) → ((p o : ℕ) (s' : Stack) → length s ≡ suc (length s') → HasFew n (k p o s')) → HasFew n (on_callable k s)
  callable_few k s h = any_few (λ v s'. callable_then (λ p o. k p o s') v) s by
    where
      by : (v : Cell) (s' : Stack) → length s ≡ suc (length s') → HasFew n (callable_then (λ p o. k p o s') v)
      by (Num a) s' e = tt
      by (Ref o) s' e = tt
      by (CallCell p o) s' e = h p o s' e
      by (Place root cell type) s' e = tt

  text_few : (k : Addr → Cell → Stack → Act) (s : Stack) → ((a : Addr) (v : Cell) (s' : Stack) → length s ≡ suc (suc (length s')) → HasFew n (k a v s')) → HasFew n (on_text k s)
  text_few k s h =
      kind_few N (λ v s1. on_place (λ a t s2. k a v s2) s1) s
      (λ v s1 e. place_few (λ a t s2. k a v s2) s1 (λ a t s2 e2. let l : length s ≡ suc (suc (length s2)) = omega (arith, e, e2) in h a v s2 l))

  length_few : (z : ℤ) (k : ℕ → Act) → ((m : ℕ) → HasFew n (k m)) → HasFew n (length_then z k)
  length_few (pos m) k h = h m
  length_few (negsuc m) k h = tt

  lengths_few : (j : ℕ) (ls : List ℕ) (k : List ℕ → Stack → Act) (s : Stack) → ((ns : List ℕ) (s' : Stack) → length ns + length s' ≡ length ls + length s → HasFew n (k ns s')) → HasFew n (lengths_on j ls k s)
  lengths_few zero ls k s h = h ls s refl
  lengths_few (suc j) ls k s h =
      number_few (λ z s'. length_then z (λ m. lengths_on j (m ∷ ls) k s')) s
      (λ z s' e. length_few z (λ m. lengths_on j (m ∷ ls) k s')
      (λ m. lengths_few j (m ∷ ls) k s' (λ ns s2 l. let t : length ns + length s2 ≡ length ls + length s = omega (arith, e, l) in h ns s2 t)))

  counted_few : (j : ℕ) (zs : List ℤ) (k : List ℤ → Stack → Act) (s : Stack) → ((ys : List ℤ) (s' : Stack) → length s' ≤ length s → HasFew n (k ys s')) → HasFew n (counted_on j zs k s)
  counted_few zero zs k s h = let le : length s ≤ length s = omega arith in h zs s le
  counted_few (suc j) zs k s h =
      number_few (λ z s'. counted_on j (z ∷ zs) k s') s
      (λ z s' e. counted_few j (z ∷ zs) k s' (λ ys s2 l. let le : length s2 ≤ length s = omega (arith, e, l) in h ys s2 le))

  given_few : (g : Given) (s : Stack) → suc (length s) ≤ n → HasFew n (given g s)
  given_few (Number z) s h = h
  given_few (Trap k) s h = tt
  given_few Undefined s h = tt

  gives_place_few : (root : Root) (cell type : ℕ) (above : List Cell) (s : Stack) → length above + suc (length s) ≤ n → HasFew n (gives_place root cell type above s)
  gives_place_few root cell type above s h =
      let l : length (above ++ Place root cell type ∷ s) ≤ n = subst (λ m. m ≤ n) (sym (length-append above (Place root cell type ∷ s))) h in
      of_few (nat_lt cell (2 ^ 32)) (Goes 0 (above ++ Place root cell type ∷ s)) l

  element_few : (a : Addr) (i : Option ℕ) (k : ℕ) (above : List Cell) (s : Stack) → length above + suc (length s) ≤ n → HasFew n (element a i k above s)
  element_few a None k above s h = tt
  element_few a (Some i) k above s h = gives_place_few a.root (a.cell + i * k) 0 above s h

  in_rows_few : (ns : List ℕ) (z : ℤ) (k : ℕ) (s : Stack) → length ns + length s ≤ suc n → HasFew n (in_rows ns z k s)
  in_rows_few [] z k s h = tt
  in_rows_few (m ∷ ns) z k s h =
      place_few (λ a t s'. element a (natural m z) (cells_of ns k) (length_cells ns) s') s
      (λ a t s' e.
      let x = length-reverse (map (λ (i : ℕ). Num (pos i)) ns) in
      let y = length-map ns (λ (i : ℕ). Num (pos i)) in
      let l : length (length_cells ns) + suc (length s') ≤ n = omega (arith, e, h, x, y) in
      element_few a (natural m z) (cells_of ns k) (length_cells ns) s' l)

  picked_few : (z : Option ℤ) (s : Stack) → suc (length s) ≤ n → HasFew n (gives_picked z s)
  picked_few None s h = tt
  picked_few (Some z) s h = h

  unless_few : (o : ℕ) (a b : Act) → HasFew n a → HasFew n b → HasFew n (unless_nil o a b)
  unless_few zero a b ha hb = ha
  unless_few (suc o) a b ha hb = hb

  looks_few : (l : Look) (nil : Stack → Act) (s : Stack) → ((s' : Stack) → length s ≡ suc (length s') → HasFew n (nil s')) → length (told_kinds l) + length s ≤ suc n → HasFew n (looks l nil s)
  looks_few l nil s none h =
      object_few (λ o s'. unless_nil o (nil s') (Looks l o s')) s
      (λ o s' e. let le : length (told_kinds l) + length s' ≤ n = omega (arith, e, h) in unless_few o (nil s') (Looks l o s') (none s' e) le)

  lands_few : (i : Option Instr) (to : ℕ) (s : Stack) → HasFew n (lands i to s)
  lands_few (Some (instr.Begin line col)) to s = tt
  lands_few _ to s = tt

  jumps_few : (code : List Instr) (to at : ℕ) (s : Stack) → length s ≤ n → HasFew n (jumps code to at s)
  jumps_few code to at s h = by (nat_lt at to)
    where
      by : (b : Bool) → HasFew n (if b then Goes (to - (at + 1)) s else lands (slice_get code to) to s)
      by true = h
      by false = lands_few (slice_get code to) to s

  jumps_false_few : (code : List Instr) (to at : ℕ) (z : ℤ) (s : Stack) → length s ≤ n → HasFew n (jumps_on_false code to at z s)
  jumps_false_few code to at (pos zero) s h = jumps_few code to at s h
  jumps_false_few code to at (pos (suc zero)) s h = h
  jumps_false_few code to at (pos (suc (suc m))) s h = tt
  jumps_false_few code to at (negsuc m) s h = tt

  self_few : (o : ℕ) (s : Stack) → suc (length s) ≤ n → HasFew n (gives_self o s)
  self_few zero s h = tt
  self_few (suc o) s h = h

module _ (shapes : List ProcShape) (types : List TypeDesc) (own : ℕ) (here : Here) (code : List Instr) (at : ℕ) (s : Stack) where
  abbrev Few : Instr → Type 0
  Few i = may_evaluate i ≡ true → HasFew (length s + grows i) (act shapes types own here i code at s)

  more : suc (length s) ≤ length s + 1
  more = omega arith

  row_long : (j : ℕ) → length (told_kinds (AtElements j)) ≡ suc j
  row_long zero = refl
  row_long (suc j) = ap (λ n. suc n) (row_long j)

  -- what an instruction that may stand in a condition does
  pub act_few : (i : Instr) → Few i
  act_few (instr.Num n) may = more
  act_few instr.Nil may = more
  act_few instr.NilCall may = more
  act_few (instr.Proc p) may = more
  act_few instr.SelfRef may = self_few (length s + 1) here.self s more
  act_few instr.Dup may = any_few (length s + 1) (λ v s'. Goes 0 (v ∷ v ∷ s')) s (λ v s' e. omega (arith, e))
  act_few instr.Drop may = any_few (length s + 1) (λ v s'. Goes 0 s') s (λ v s' e. omega (arith, e))
  act_few instr.Swap may =
      any_few (length s + 1) (λ v s1. on_any (λ w s2. Goes 0 (w ∷ v ∷ s2)) s1) s
      (λ v s1 e. any_few (length s + 1) (λ w s2. Goes 0 (w ∷ v ∷ s2)) s1 (λ w s2 e2. omega (arith, e, e2)))
  act_few (instr.Frame c) may = more
  act_few (instr.Module m c) may = more
  act_few (instr.Param c) may = more
  act_few (instr.Length c) may = more
  act_few (instr.Deref c) may = looks_few (length s + 1) (AtCell c) (λ s'. Stops (Fails 1 0)) s (λ s' e. tt) (omega arith)
  act_few (instr.OpenRef j) may =
      looks_few (length s + suc j) (AtElements j) (λ s'. Stops (Fails 1 0)) s (λ s' e. tt)
      (let l : length (told_kinds (AtElements j)) ≡ suc j = row_long j in omega (arith, l))
  act_few (instr.Offset c t) may =
      place_few (length s + 1) (λ a u s'. gives_place a.root (a.cell + c) t [] s') s
      (λ a u s' e. let l : 0 + suc (length s') ≤ length s + 1 = omega (arith, e) in gives_place_few (length s + 1) a.root (a.cell + c) t [] s' l)
  act_few (instr.Index n k) may =
      number_few (length s + 1) (λ z s1. on_place (λ a t s2. element a (natural n z) k [] s2) s1) s
      (λ z s1 e. place_few (length s + 1) (λ a t s2. element a (natural n z) k [] s2) s1
      (λ a t s2 e2. let l : 0 + suc (length s2) ≤ length s + 1 = omega (arith, e, e2) in element_few (length s + 1) a (natural n z) k [] s2 l))
  act_few (instr.IndexOpen j k) may =
      number_few (length s + 1) (λ z s1. lengths_on j [] (λ ns s2. in_rows ns z k s2) s1) s
      (λ z s1 e. lengths_few (length s + 1) j [] (λ ns s2. in_rows ns z k s2) s1
      (λ ns s2 l. let le : length ns + length s2 ≤ suc (length s + 1) = omega (arith, e, l) in in_rows_few (length s + 1) ns z k s2 le))
  act_few (instr.PickLen d j) may =
      counted_few (length s + 1) j [] (λ zs s1. on_place (λ a t s2. gives_picked (slice_get zs d) s2) s1) s
      (λ zs s1 l. place_few (length s + 1) (λ a t s2. gives_picked (slice_get zs d) s2) s1
      (λ a t s2 e2. let le : suc (length s2) ≤ length s + 1 = omega (arith, l, e2) in picked_few (length s + 1) (slice_get zs d) s2 le))
  act_few (instr.Unary op) may =
      number_few (length s + 1) (λ a s'. given (unary op a) s') s
      (λ z s' e. let l : suc (length s') ≤ length s + 1 = omega (arith, e) in given_few (length s + 1) (unary op z) s' l)
  act_few (instr.Binary op) may =
      number_few (length s + 1) (λ b s1. on_number (λ a s2. given (binary op a b) s2) s1) s
      (λ b s1 e. number_few (length s + 1) (λ a s2. given (binary op a b) s2) s1
      (λ a s2 e2. let l : suc (length s2) ≤ length s + 1 = omega (arith, e, e2) in given_few (length s + 1) (binary op a b) s2 l))
  act_few instr.EqRef may =
      object_few (length s + 1) (λ b s1. on_object (λ a s2. gives (Num (flag (nat_eq a b))) s2) s1) s
      (λ b s1 e. object_few (length s + 1) (λ a s2. gives (Num (flag (nat_eq a b))) s2) s1 (λ a s2 e2. omega (arith, e, e2)))
  act_few instr.EqCall may =
      callable_few (length s + 1) (λ q i s1. on_callable (λ p o s2. gives (Num (flag (are_one p o q i))) s2) s1) s
      (λ q i s1 e. callable_few (length s + 1) (λ p o s2. gives (Num (flag (are_one p o q i))) s2) s1 (λ p o s2 e2. omega (arith, e, e2)))
  act_few (instr.Bind k) may = looks_few (length s + 1) (AsMethod k) (λ s'. Stops (Fails 1 0)) s (λ s' e. tt) (omega arith)
  act_few (instr.Is t) may = looks_few (length s + 1) (IsType t) (λ s'. gives (Num (pos 0)) s') s (λ s' e. omega (arith, e)) (omega arith)
  act_few (instr.IsPlace t) may = place_few (length s + 1) (λ a d s'. gives (Num (flag (extends types d t))) s') s (λ a d s' e. omega (arith, e))
  act_few (instr.Guard t) may = looks_few (length s + 1) (AsType t) (λ s'. Stops (Fails 3 0)) s (λ s' e. tt) (omega arith)
  act_few (instr.GuardPlace t) may =
      place_few (length s + 1) (λ a d s'. if extends types d t then gives (Place a.root a.cell d) s' else Stops (Fails 3 0)) s
      (λ a d s' e. by (extends types d t) (gives (Place a.root a.cell d) s') (omega (arith, e)))
    where
      by : (b : Bool) (x : Act) → HasFew (length s + 1) x → HasFew (length s + 1) (if b then x else Stops (Fails 3 0))
      by true x h = h
      by false x h = tt
  act_few (instr.Kept c k) may = of_few (length s + 1) (nat_lt c (keeps_in (numbered shapes own))) (Takes c k s) more
  act_few (instr.Fail n) may = tt
  act_few (instr.Jump to) may = jumps_few (length s + 1) code to at s (omega arith)
  act_few (instr.JumpFalse to) may =
      number_few (length s + 1) (λ a s'. jumps_on_false code to at a s') s
      (λ z s' e. let l : length s' ≤ length s + 1 = omega (arith, e) in jumps_false_few (length s + 1) code to at z s' l)
  act_few (instr.Load kind) may = place_few (length s + 1) (λ a t s'. Sees (Reads kind a) s') s (λ a t s' e. omega (arith, e))
  act_few (instr.CmpText r) may =
      text_few (length s + 1) (λ b m s1. on_text (λ a n s2. Sees (ComparesTexts r a n b m) s2) s1) s
      (λ b m s1 e. text_few (length s + 1) (λ a n s2. Sees (ComparesTexts r a n b m) s2) s1 (λ a n s2 e2. omega (arith, e, e2)))
  act_few instr.Verdict may = number_few (length s + 1) (λ a s'. Stops (Decides a)) s (λ z s' e. tt)
  act_few (instr.Keep c k) may = absurd (cc may)
  act_few (instr.Assert c) may = absurd (cc may)
  act_few (instr.Halt c) may = absurd (cc may)
  act_few (instr.Begin line col) may = absurd (cc may)
  act_few (instr.Store k) may = absurd (cc may)
  act_few (instr.Copy n) may = absurd (cc may)
  act_few (instr.PutText strict) may = absurd (cc may)
  act_few (instr.Call p) may = absurd (cc may)
  act_few (instr.Virtual k p) may = absurd (cc may)
  act_few (instr.CallValue p) may = absurd (cc may)
  act_few (instr.NewObject t) may = absurd (cc may)
  act_few (instr.NewArray t j) may = absurd (cc may)
  act_few instr.Start may = absurd (cc may)
  act_few instr.Enter may = absurd (cc may)
  act_few instr.Leave may = absurd (cc may)
  act_few (instr.Await c) may = absurd (cc may)
  act_few instr.Return may = absurd (cc may)
  act_few instr.OutChar may = absurd (cc may)
  act_few instr.OutInt may = absurd (cc may)
  act_few instr.OutString may = absurd (cc may)
  act_few instr.OutLn may = absurd (cc may)
  act_few instr.OutOpen may = absurd (cc may)

-- a stop that tells where silent work goes on, with what is kept and which operands
told : ℕ → ℕ → Keeps → Stack → Stop
told over at keeps stack = Work PutsNothing (at + over) keeps stack

-- so many operands at most, and the same kept
abbrev IsFew : ℕ → (old new : Keeps) → Stack → Type 0
IsFew n k l t = (length t ≤ n) × (l ≡ k)

module _ (shapes : List ProcShape) (types : List TypeDesc) (made : ℕ → Option Made) (cells : List Cell) (n at : ℕ) (k l : Keeps) (t : Stack) where
  same_few : (over : ℕ) (s : Stack) → length s ≤ n → told 0 (at + 1) k s ≡ told over (at + 1) l t → IsFew n k l t
  unfolding told
  same_few over s h e =
      let x : s ≡ t = cc in
      let y : k ≡ l = cc in
      (subst (λ u. length u ≤ n) x h, sym y)

  told_few : (look : Look) (r : Told) (over : ℕ) (s : Stack) → HeardSo shapes look r → length (told_kinds look) + length s ≤ n → on_told r told at k s ≡ told over (at + 1) l t → IsFew n k l t
  unfolding told
  told_few look (Refuses m) over s so h e = absurd (cc e)
  told_few look Unheard over s so h e = absurd (cc e)
  told_few look (Invokes q ws) over s so h e = let x : at ≡ at + 1 + over = cc in absurd (omega (arith, x))
  told_few (AtSlot j p vs) (Tells ws) over s so h e = absurd so
  told_few look (Tells vs) over s so h e =
      let a = are_length (told_kinds look) vs so in
      let b = length-append vs s in
      same_few over (vs ++ s) (omega (arith, a, b, h)) e

  noted_few : (kind : Kind) (o : Option Cell) (q : Question) (over : ℕ) (s : Stack) → suc (length s) ≤ n → on_noted (noted_as kind o) q told at k s ≡ told over (at + 1) l t → IsFew n k l t
  unfolding told
  noted_few kind None q over s h e = absurd (cc e)
  noted_few kind (Some v) q over s h e = by (is_of kind v) e
    where
      by : (b : Bool) → on_noted (if b then Answered v else Unknown) q told at k s ≡ told over (at + 1) l t → IsFew n k l t
      by true g = same_few over (v ∷ s) h g
      by false g = absurd (cc g)

  asked_few : (q : Question) (over : ℕ) (s : Stack) → suc (length s) ≤ n → on_noted (noted cells q) q told at k s ≡ told over (at + 1) l t → IsFew n k l t
  unfolding told
  asked_few (Places a) over s h e = noted_few A (slice_get cells a.cell) (Places a) over s h e
  asked_few (Lengths a) over s h e = noted_few N (slice_get cells a.cell) (Lengths a) over s h e
  asked_few q over s h e = let x : at ≡ at + 1 + over = cc in absurd (omega (arith, x))

  goes_few : (a : Act) (over : ℕ) → HasFew n a → on_act shapes types made cells a told at k ≡ told over (at + 1) l t → IsFew n k l t
  unfolding told
  goes_few (Goes o s) over h e =
      let x : s ≡ t = cc in
      let y : k ≡ l = cc in
      (subst (λ u. length u ≤ n) x h, sym y)
  goes_few (Puts c v s) over h e = absurd h
  goes_few (Takes c kind s) over h e = by (is_of kind (k c)) e
    where
      by : (b : Bool) → (if b then told 0 (at + 1) k (k c ∷ s) else Ended lost k) ≡ told over (at + 1) l t → IsFew n k l t
      by true g = same_few over (k c ∷ s) h g
      by false g = absurd (cc g)
  goes_few (Looks look o s) over h e = told_few look (told_by shapes types look o (made o)) over s (heard_so shapes types look o (made o)) h e
  goes_few (Sees q s) over h e = asked_few q over s h e
  goes_few (Stops end) over h e = absurd (cc e)

  -- at a Begin what is kept is the same too
  told_begun : (r : Told) (s : Stack) (to : ℕ) (p : Pos) → on_told r told at k s ≡ Ended (Begins to p t) l → ⊥
  unfolding told
  told_begun (Tells vs) s to p e = cc e
  told_begun (Refuses m) s to p e = cc e
  told_begun (Invokes q vs) s to p e = cc e
  told_begun Unheard s to p e = cc e

  noted_begun : (o : Noted) (q : Question) (s : Stack) (to : ℕ) (p : Pos) → on_noted o q told at k s ≡ Ended (Begins to p t) l → ⊥
  unfolding told
  noted_begun Visible q s to p e = cc e
  noted_begun (Answered v) q s to p e = cc e
  noted_begun Unknown q s to p e = cc e

  begun_same : (a : Act) (to : ℕ) (p : Pos) → on_act shapes types made cells a told at k ≡ Ended (Begins to p t) l → l ≡ k
  unfolding told
  begun_same (Goes o s) to p e = absurd (cc e)
  begun_same (Puts c v s) to p e = absurd (cc e)
  begun_same (Takes c kind s) to p e = by (is_of kind (k c)) e
    where
      by : (b : Bool) → (if b then told 0 (at + 1) k (k c ∷ s) else Ended lost k) ≡ Ended (Begins to p t) l → l ≡ k
      by true g = absurd (cc g)
      by false g = absurd (cc g)
  begun_same (Looks look o s) to p e = absurd (told_begun (told_by shapes types look o (made o)) s to p e)
  begun_same (Sees q s) to p e = absurd (noted_begun (noted cells q) q s to p e)
  begun_same (Stops end) to p e = let y : k ≡ l = cc in sym y

may_at : (code : List Instr) (at : ℕ) (d : Instr) → at < length code → list_all may_evaluate code ≡ true → may_evaluate (get_or code at d) ≡ true
may_at code at d within all = by (may_evaluate (get_or code at d)) refl
  where
    by : (b : Bool) → may_evaluate (get_or code at d) ≡ b → b ≡ true
    by true e = refl
    by false e = absurd (let x : true ≡ false = sym all ∙ list_all_at may_evaluate code at d within e in cc x)

-- the rest of code needs no more
need_behind : (code : List Instr) (m n : ℕ) → m ≤ n → need (drop n code) ≤ need (drop m code)
need_behind [] m n le = let l : need [] ≤ need [] = omega arith in subst (λ x. need x ≤ need (drop m [])) (sym (drop-nil n)) (subst (λ x. need [] ≤ need x) (sym (drop-nil m)) l)
need_behind (i ∷ code) zero n le = let e = sum_by-take-drop grows (i ∷ code) n in omega (arith, e)
need_behind (i ∷ code) (suc m) zero le = absurd (omega (arith, le))
need_behind (i ∷ code) (suc m) (suc n) le = need_behind code m n (omega (arith, le))

-- no instruction of a condition is refused where there is room for all operands that it may give
pub never_full : (keeps : ℕ) (code : List Instr) (f : KeptFrame) → list_all may_evaluate code ≡ true → HasRoomFor code f → vec_len f.operands ≡ length f.operands.items → f.next < length code →
    IsRefused keeps (get_or code f.next (instr.Num (pos 0))) f → ⊥
never_full keeps code f all room len within refused = by (get_or code f.next (instr.Num (pos 0))) (may_at code f.next (instr.Num (pos 0)) within all) (sum_by-drop_more grows code f.next (instr.Num (pos 0)) within) refused
  where
    full : need (drop f.next code) ≡ 1 + need (drop (f.next + 1) code) → IsFull f → ⊥
    full e h = absurd (omega (arith, e, h, len, room))

    row : (j : ℕ) → need (drop f.next code) ≡ suc j + need (drop (f.next + 1) code) → HasNoRow j f → ⊥
    row j e h =
        let x : length (reverse f.operands.items) ≡ suc (length h.1) = ap length h.2 in
        let y = length-reverse f.operands.items in
        absurd (omega (arith, e, h.3, x, y, room))

    by : (i : Instr) → may_evaluate i ≡ true → need (drop f.next code) ≡ grows i + need (drop (f.next + 1) code) → IsRefused keeps i f → ⊥
    by (instr.Num n) may e h = full e h
    by instr.Nil may e h = full e h
    by instr.NilCall may e h = full e h
    by (instr.Proc p) may e h = full e h
    by instr.SelfRef may e h = full e h
    by instr.Dup may e h = full e h
    by (instr.Frame c) may e h = full e h
    by (instr.Module m c) may e h = full e h
    by (instr.Param c) may e h = full e h
    by (instr.Length c) may e h = full e h
    by (instr.Kept c k) may e h = full e h
    by (instr.Keep c k) may e h = absurd (cc may)
    by (instr.OpenRef j) may e h = row j e h
    by _ may e h = absurd h

-- The first instruction of a frame has been done, whose code is that of a condition.
module _ (image : Image) (made : ℕ → Option Made) (here : ℕ) (code : List Instr) (f g : KeptFrame) (did : KeptAct) (within : f.next < length code)
    (step : IsStepOf image.shapes.items image.types.items made (act image.shapes.items image.types.items f.procedure (here_at here (frame_in f)) (get_or code f.next (instr.Num (pos 0))) code f.next (frame_in f).stack) did (frame_in f) (frame_in g))
    (all : list_all may_evaluate code ≡ true) where
  abbrev i : Instr
  i = get_or code f.next (instr.Num (pos 0))

  comes : (d : KeptAct) → did ≡ d → (next : ℕ → ℕ → Keeps → Stack → Stop) →
      on_act image.shapes.items image.types.items made (frame_in f).cells (act image.shapes.items image.types.items f.procedure (here_at here (frame_in f)) i code f.next (frame_in f).stack) next f.next (frame_in f).keeps ≡ after d next f.next (frame_in g).keeps (frame_in g).stack
  comes d e next = step.goes next f.next ∙ ap (λ x. after x next f.next (frame_in g).keeps (frame_in g).stack) e

  moved : (n : ℕ) → (frame_in g).keeps ≡ (frame_in f).keeps → HasMoved (frame_in f) (frame_in (record g { next = n }))
  moved n keeps =
      ap (λ (x : Frame). record x { next = n }) step.same
      ∙ ap (λ (k : Keeps). let x : Frame = record (frame_in f) { next = n; keeps = k; stack = (frame_in g).stack } in x) keeps

  -- after silent work, at the place where it goes on
  pub moved_on : (over n : ℕ) → did ≡ GoesOn over → n ≡ min (f.next + 1 + over) (2 ^ 64 - 1) → length code < 2 ^ 64 → vec_capacity f.operands ≤ vec_capacity g.operands → HasRoomFor code f →
      HasMoved (frame_in f) (frame_in (record g { next = n })) × HasRoomFor code (record g { next = n })
  moved_on over n e at small wide room =
      let few = act_few image.shapes.items image.types.items f.procedure (here_at here (frame_in f)) code f.next (frame_in f).stack i (may_at code f.next (instr.Num (pos 0)) within all) in
      let left = goes_few image.shapes.items image.types.items made (frame_in f).cells (length (frame_in f).stack + grows i) f.next (frame_in f).keeps (frame_in g).keeps (frame_in g).stack
      (act image.shapes.items image.types.items f.procedure (here_at here (frame_in f)) i code f.next (frame_in f).stack) over few (comes (GoesOn over) e told) in
      let behind : f.next + 1 ≤ n = omega (arith, at, small, within) in
      let x = length-reverse f.operands.items in
      let y = length-reverse g.operands.items in
      let z = sum_by-drop_more grows code f.next (instr.Num (pos 0)) within in
      let w = need_behind code (f.next + 1) n behind in
      let l = left.0 in
      (moved n left.1, omega (arith, x, y, z, w, l, wide, room))

  pub moved_to_begin : (to : ℕ) (p : Pos) → did ≡ BeginsAt to p → HasMoved (frame_in f) (frame_in (record g { next = to }))
  moved_to_begin to p e =
      moved to
      (begun_same image.shapes.items image.types.items made (frame_in f).cells 0 f.next (frame_in f).keeps (frame_in g).keeps (frame_in g).stack
      (act image.shapes.items image.types.items f.procedure (here_at here (frame_in f)) i code f.next (frame_in f).stack) to p (comes (BeginsAt to p) e told))

-- a frame that has moved, and then moved further
pub moved_further : (f g h : Frame) → HasMoved f g → HasMoved g h → HasMoved f h
moved_further f g h fg gh = gh ∙ ap (λ (x : Frame). record x { next = h.next; stack = h.stack }) fg

pub moved_same : (f g : Frame) → g ≡ f → HasMoved f g
moved_same f g e = e ∙ ap (λ (x : Frame). record f { next = x.next; stack = x.stack }) (sym e)

pub stays_in_room : (code : List Instr) (f g : KeptFrame) → frame_in g ≡ frame_in f → vec_capacity f.operands ≤ vec_capacity g.operands → HasRoomFor code f → HasRoomFor code g
stays_in_room code f g same more room =
    let x : length (reverse g.operands.items) ≡ length (reverse f.operands.items) = ap (λ (h : Frame). length h.stack) same in
    let y = length-reverse f.operands.items in
    let z = length-reverse g.operands.items in
    let w : need (drop g.next code) ≡ need (drop f.next code) = ap (λ (h : Frame). need (drop h.next code)) same in
    omega (arith, x, y, z, w, more, room)
