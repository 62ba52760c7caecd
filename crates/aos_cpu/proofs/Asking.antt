-- Silent work that ends at a question without a step has come from the instruction that asks it.
use Rattle.std.proofs.Common.{◌≡◌, ◌≤◌, ◌+◌, ℕ, ℤ, zero, suc, pos, negsuc, List, [], ◌∷◌, ◌++◌, drop, reverse, refl, sym, ap, ◌∙◌, arith}
use Rattle.std.specs.Prelude.{Option, Some, None, Bool, true, false, nat_lt, slice_get, if◌then◌else◌}
use Rattle.aos_base.specs.declared.root.Root.{Root}
use Rattle.aos_base.specs.declared.operator.Given.{Given}
use Rattle.aos_base.specs.declared.operator.Given.TheVariants.{Number, Trap, Undefined}
use Rattle.aos_base.specs.Question.{Reads, Stores, Copies, PutsText, ComparesTexts, Calls, ByName, Starts, Enters, Leaves, Awaits, PutsString}
use Rattle.aos_base.specs.Rooted.{Made}
use Rattle.aos_base.specs.Operators.{unary, binary, natural, flag}
use Rattle.aos_code.specs.declared.instr.Cell.{Cell}
use Rattle.aos_code.specs.declared.instr.Cell.TheVariants.{Num, Ref, Call as CallCell, Place}
use Rattle.aos_code.specs.declared.instr.Kind.{Kind}
use Rattle.aos_code.specs.declared.instr.Kind.TheVariants.{N, R}
use Rattle.aos_code.specs.declared.instr.Instr.{Instr}
use Rattle.aos_code.specs.declared.instr.Instr.TheVariants as instr
use Rattle.aos_code.specs.declared.image.ProcShape.{ProcShape}
use Rattle.aos_code.specs.declared.image.TypeDesc.{TypeDesc}
use Rattle.aos_code.specs.Memory.{Addr}
use Rattle.aos_code.specs.Numbered.{numbered}
use Rattle.aos_silent_steps.proofs.Walks.{drop_next}
use Rattle.aos_code.specs.Silent.{Here, Stack, Keeps, Question, Stop, Work, Ended, Act, Goes, Puts, Takes, Looks, Look, AtCell, AtElements, IsType, AsType, AsMethod, Sees, Stops, Fails, lost, is_of, gives, on_any, on_kind, on_number, number_then, place_then, object_then, on_object, unless_nil, looks, extends, Told, Tells, Refuses, Invokes, Unheard, told_by, on_told, on_place, on_text, length_then, lengths_on, counted_on, given, asserts, gives_place, element, cells_of, length_cells, in_rows, gives_picked, on_kinds, kinds_of, on_receiver, called, calls, sends, callable_then, on_callable, same_formals, applies_to, applies_as, applies, calls_value, gives_self, ends, lands, jumps, jumps_on_false, act, Noted, Visible, Answered, Unknown, noted, on_noted, on_act, walk, silent}

-- Where silent work ends.

module _ (shapes : List ProcShape) (types : List TypeDesc) (made : ℕ → Option Made) (cells : List Cell) (q : Question) (place : ℕ) (k' : Keeps) (s' : Stack) where
  if_later : (b : Bool) (at : ℕ) (t : Stop) (k : Keeps) → (t ≡ Work q place k' s' → at ≤ place) → (if b then t else Ended lost k) ≡ Work q place k' s' → at ≤ place
  if_later true at t k h e = h e
  if_later false at t k h e = absurd (cc e)

  noted_later : (n : Noted) (asked : Question) (next : ℕ → ℕ → Keeps → Stack → Stop) (at : ℕ) (k : Keeps) (s : Stack) → ((over : ℕ) (k : Keeps) (s : Stack) → next over (at + 1) k s ≡ Work q place k' s' → at + 1 ≤ place) →
      on_noted n asked next at k s ≡ Work q place k' s' → at ≤ place
  noted_later Visible asked next at k s h e = (let z : at ≡ place = cc e in omega arith)
  noted_later (Answered v) asked next at k s h e = (let z = h 0 k (v ∷ s) e in omega arith)
  noted_later Unknown asked next at k s h e = absurd (cc e)

  told_later : (r : Told) (next : ℕ → ℕ → Keeps → Stack → Stop) (at : ℕ) (k : Keeps) (s : Stack) → ((over : ℕ) (k : Keeps) (s : Stack) → next over (at + 1) k s ≡ Work q place k' s' → at + 1 ≤ place) → on_told r next at k s ≡ Work q place k' s' → at ≤ place
  told_later (Tells vs) next at k s h e = (let z = h 0 k (vs ++ s) e in omega arith)
  told_later (Refuses n) next at k s h e = absurd (cc e)
  told_later (Invokes p vs) next at k s h e = (let z : at ≡ place = cc e in omega arith)
  told_later Unheard next at k s h e = absurd (cc e)

  act_later : (a : Act) (next : ℕ → ℕ → Keeps → Stack → Stop) (at : ℕ) (k : Keeps) → ((over : ℕ) (k : Keeps) (s : Stack) → next over (at + 1) k s ≡ Work q place k' s' → at + 1 ≤ place) →
      on_act shapes types made cells a next at k ≡ Work q place k' s' → at ≤ place
  act_later (Goes over s) next at k h e = (let z = h over k s e in omega arith)
  act_later (Puts c v s) next at k h e = (let z = h 0 _ s e in omega arith)
  act_later (Takes c kind s) next at k h e = if_later (is_of kind (k c)) at (next 0 (at + 1) k (k c ∷ s)) k (λ x. (let z = h 0 k (k c ∷ s) x in omega arith)) e
  act_later (Looks l o s) next at k h e = told_later (told_by shapes types l o (made o)) next at k s h e
  act_later (Sees asked s) next at k h e = noted_later (noted cells asked) asked next at k s h e
  act_later (Stops end) next at k h e = absurd (cc e)

  if_here : (b : Bool) (t : Stop) (k : Keeps) → (t ≡ Work q place k' s' → ⊥) → (if b then t else Ended lost k) ≡ Work q place k' s' → ⊥
  if_here true t k h e = h e
  if_here false t k h e = absurd (cc e)

  noted_here : (n : Noted) (asked : Question) (next : ℕ → ℕ → Keeps → Stack → Stop) (k : Keeps) (s : Stack) → ((over : ℕ) (k : Keeps) (s : Stack) → next over (place + 1) k s ≡ Work q place k' s' → ⊥) →
      on_noted n asked next place k s ≡ Work q place k' s' → Sees asked s ≡ Sees q s'
  noted_here Visible asked next k s h e = cc e
  noted_here (Answered v) asked next k s h e = absurd (h 0 k (v ∷ s) e)
  noted_here Unknown asked next k s h e = absurd (cc e)

  told_here : (r : Told) (next : ℕ → ℕ → Keeps → Stack → Stop) (k : Keeps) (s : Stack) → ((over : ℕ) (k : Keeps) (s : Stack) → next over (place + 1) k s ≡ Work q place k' s' → ⊥) → ((p : ℕ) (vs : List Cell) → Calls ByName p vs ≡ q → ⊥) → on_told r next place k s ≡ Work q place k' s' → ⊥
  told_here (Tells vs) next k s h other e = h 0 k (vs ++ s) e
  told_here (Refuses n) next k s h other e = cc e
  told_here (Invokes p vs) next k s h other e = other p vs (cc e)
  told_here Unheard next k s h other e = cc e

  act_here : (a : Act) (next : ℕ → ℕ → Keeps → Stack → Stop) (k : Keeps) → ((over : ℕ) (k : Keeps) (s : Stack) → next over (place + 1) k s ≡ Work q place k' s' → ⊥) →
      ((p : ℕ) (vs : List Cell) → Calls ByName p vs ≡ q → ⊥) → on_act shapes types made cells a next place k ≡ Work q place k' s' → a ≡ Sees q s'
  act_here (Goes over s) next k h other e = absurd (h over k s e)
  act_here (Puts c v s) next k h other e = absurd (h 0 _ s e)
  act_here (Takes c kind s) next k h other e = absurd (if_here (is_of kind (k c)) (next 0 (place + 1) k (k c ∷ s)) k (λ x. h 0 k (k c ∷ s) x) e)
  act_here (Looks l o s) next k h other e = absurd (told_here (told_by shapes types l o (made o)) next k s h other e)
  act_here (Sees asked s) next k h other e = noted_here (noted cells asked) asked next k s h e
  act_here (Stops end) next k h other e = absurd (cc e)

  module _ (own : ℕ) (here : Here) (code : List Instr) where
    walk_later : (rest : List Instr) (over at : ℕ) (k : Keeps) (s : Stack) → walk shapes types made own here cells code rest over at k s ≡ Work q place k' s' → at ≤ place
    walk_later [] over at k s e = absurd (cc e)
    walk_later (i ∷ rest) zero at k s e =
        act_later (act shapes types own here i code at s) (walk shapes types made own here cells code rest) at k (λ over k1 s1. walk_later rest over (at + 1) k1 s1) e
    walk_later (i ∷ rest) (suc n) at k s e = (let z = walk_later rest n (at + 1) k s e in omega arith)

    asked_at : ((p : ℕ) (vs : List Cell) → Calls ByName p vs ≡ q → ⊥) → (rest : List Instr) (k : Keeps) (s : Stack) → walk shapes types made own here cells code rest 0 place k s ≡ Work q place k' s' → (i : Instr) × (act shapes types own here i code place s ≡ Sees q s')
    asked_at other [] k s e = absurd (cc e)
    asked_at other (i ∷ rest) k s e =
        (i, act_here (act shapes types own here i code place s) (walk shapes types made own here cells code rest) k (λ over k1 s1 x. (let z = walk_later rest over (place + 1) k1 s1 x in absurd (omega arith))) other e)

-- What isn't left to the kernel.

-- questions that are
abbrev pub is_left : Question → Bool
is_left (Starts v) = true
is_left Enters = true
is_left Leaves = true
is_left (Awaits c) = true
is_left q = false

-- their operands, above others
abbrev pub with_operands : Question → Stack → Stack
with_operands (Starts v) s = v ∷ s
with_operands q s = s

no_call : (q : Question) → is_left q ≡ true → (p : ℕ) (vs : List Cell) → Calls ByName p vs ≡ q → ⊥
no_call q m p vs e = (let z : false ≡ true = ap is_left e ∙ m in absurd (cc z))

visible_left : (cells : List Cell) (q : Question) → is_left q ≡ true → noted cells q ≡ Visible
visible_left cells (Starts v) m = refl
visible_left cells Enters m = refl
visible_left cells Leaves m = refl
visible_left cells (Awaits c) m = refl
visible_left cells q m = absurd (cc m)

abbrev mark : Act → Bool
mark (Sees q s) = is_left q
mark _ = false

calm_if : (b : Bool) (a : Act) → mark a ≡ false → mark (if b then a else Stops lost) ≡ false
calm_if true a h = h
calm_if false a h = refl

calm_any : (k : Cell → Stack → Act) (s : Stack) → ((v : Cell) (s' : Stack) → mark (k v s') ≡ false) → mark (on_any k s) ≡ false
calm_any k [] h = refl
calm_any k (v ∷ s) h = h v s

calm_kind : (kind : Kind) (k : Cell → Stack → Act) (s : Stack) → ((v : Cell) (s' : Stack) → mark (k v s') ≡ false) → mark (on_kind kind k s) ≡ false
calm_kind kind k s h = calm_any _ s (λ v s'. calm_if (is_of kind v) (k v s') (h v s'))

calm_number_then : (k : ℤ → Act) (v : Cell) → ((a : ℤ) → mark (k a) ≡ false) → mark (number_then k v) ≡ false
calm_number_then k (Num a) h = h a
calm_number_then k (Ref o) h = refl
calm_number_then k (CallCell p o) h = refl
calm_number_then k (Place root cell type) h = refl

calm_number : (k : ℤ → Stack → Act) (s : Stack) → ((a : ℤ) (s' : Stack) → mark (k a s') ≡ false) → mark (on_number k s) ≡ false
calm_number k s h = calm_any _ s (λ v s'. calm_number_then (λ a. k a s') v (λ a. h a s'))

calm_place_then : (k : Addr → ℕ → Act) (v : Cell) → ((a : Addr) (t : ℕ) → mark (k a t) ≡ false) → mark (place_then k v) ≡ false
calm_place_then k (Num a) h = refl
calm_place_then k (Ref o) h = refl
calm_place_then k (CallCell p o) h = refl
calm_place_then k (Place root cell type) h = h _ type

calm_place : (k : Addr → ℕ → Stack → Act) (s : Stack) → ((a : Addr) (t : ℕ) (s' : Stack) → mark (k a t s') ≡ false) → mark (on_place k s) ≡ false
calm_place k s h = calm_any _ s (λ v s'. calm_place_then (λ a t. k a t s') v (λ a t. h a t s'))

calm_text : (k : Addr → Cell → Stack → Act) (s : Stack) → ((a : Addr) (n : Cell) (s' : Stack) → mark (k a n s') ≡ false) → mark (on_text k s) ≡ false
calm_text k s h = calm_kind N _ s (λ n s1. calm_place _ s1 (λ a t s2. h a n s2))

calm_length : (z : ℤ) (k : ℕ → Act) → ((n : ℕ) → mark (k n) ≡ false) → mark (length_then z k) ≡ false
calm_length (pos n) k h = h n
calm_length (negsuc n) k h = refl

calm_lengths : (j : ℕ) (ls : List ℕ) (k : List ℕ → Stack → Act) (s : Stack) → ((ns : List ℕ) (s' : Stack) → mark (k ns s') ≡ false) → mark (lengths_on j ls k s) ≡ false
calm_lengths zero ls k s h = h ls s
calm_lengths (suc j) ls k s h = calm_number _ s (λ z s'. calm_length z _ (λ n. calm_lengths j (n ∷ ls) k s' h))

calm_counted : (j : ℕ) (zs : List ℤ) (k : List ℤ → Stack → Act) (s : Stack) → ((ns : List ℤ) (s' : Stack) → mark (k ns s') ≡ false) → mark (counted_on j zs k s) ≡ false
calm_counted zero zs k s h = h zs s
calm_counted (suc j) zs k s h = calm_number _ s (λ z s'. calm_counted j (z ∷ zs) k s' h)

calm_given : (x : Given) (s : Stack) → mark (given x s) ≡ false
calm_given (Number z) s = refl
calm_given (Trap n) s = refl
calm_given Undefined s = refl

calm_asserts : (c : ℕ) (z : ℤ) (s : Stack) → mark (asserts c z s) ≡ false
calm_asserts c (pos zero) s = refl
calm_asserts c (pos (suc zero)) s = refl
calm_asserts c (pos (suc (suc n))) s = refl
calm_asserts c (negsuc n) s = refl

calm_gives : (root : Root) (cell type : ℕ) (above : List Cell) (s : Stack) → mark (gives_place root cell type above s) ≡ false
calm_gives root cell type above s = calm_if (nat_lt cell _) _ refl

calm_element : (a : Addr) (i : Option ℕ) (k : ℕ) (above : List Cell) (s : Stack) → mark (element a i k above s) ≡ false
calm_element a None k above s = refl
calm_element a (Some i) k above s = calm_gives a.root _ 0 above s

calm_rows : (ns : List ℕ) (z : ℤ) (k : ℕ) (s : Stack) → mark (in_rows ns z k s) ≡ false
calm_rows [] z k s = refl
calm_rows (n ∷ ns) z k s = calm_place _ s (λ a t s'. calm_element a (natural n z) (cells_of ns k) (length_cells ns) s')

calm_picked : (z : Option ℤ) (s : Stack) → mark (gives_picked z s) ≡ false
calm_picked None s = refl
calm_picked (Some z) s = refl

calm_kinds : (kinds : List Kind) (vs : List Cell) (k : List Cell → Stack → Act) (s : Stack) → ((ws : List Cell) (s' : Stack) → mark (k ws s') ≡ false) → mark (on_kinds kinds vs k s) ≡ false
calm_kinds [] vs k s h = h vs s
calm_kinds (kind ∷ kinds) vs k s h = calm_kind kind _ s (λ v s'. calm_kinds kinds (v ∷ vs) k s' h)

calm_object_then : (k : ℕ → Act) (v : Cell) → ((o : ℕ) → mark (k o) ≡ false) → mark (object_then k v) ≡ false
calm_object_then k (Num a) h = refl
calm_object_then k (Ref o) h = h o
calm_object_then k (CallCell p o) h = refl
calm_object_then k (Place root cell type) h = refl

calm_object : (k : ℕ → Stack → Act) (s : Stack) → ((o : ℕ) (s' : Stack) → mark (k o s') ≡ false) → mark (on_object k s) ≡ false
calm_object k s h = calm_any _ s (λ v s'. calm_object_then (λ o. k o s') v (λ o. h o s'))

calm_unless : (o : ℕ) (a b : Act) → mark a ≡ false → mark b ≡ false → mark (unless_nil o a b) ≡ false
calm_unless zero a b g h = g
calm_unless (suc o) a b g h = h

calm_receiver : (k : ℕ → Stack → Act) (s : Stack) → ((o : ℕ) (s' : Stack) → mark (k o s') ≡ false) → mark (on_receiver k s) ≡ false
calm_receiver k s h = calm_object _ s (λ o s'. calm_unless o (Stops (Fails 1 0)) (k o s') refl (h o s'))

calm_called : (method : Bool) (p : ℕ) (vs : List Cell) (s : Stack) → mark (called method p vs s) ≡ false
calm_called true p vs s = calm_receiver _ s (λ o s'. refl)
calm_called false p vs s = refl

calm_calls : (f : Option ProcShape) (p : ℕ) (s : Stack) → mark (calls f p s) ≡ false
calm_calls None p s = refl
calm_calls (Some f) p s = calm_kinds (reverse (kinds_of f.params.items)) [] _ s (λ ws s'. calm_called f.method p ws s')

calm_sends : (f : Option ProcShape) (k p : ℕ) (s : Stack) → mark (sends f k p s) ≡ false
calm_sends None k p s = refl
calm_sends (Some f) k p s = calm_kinds (reverse (kinds_of f.params.items)) [] _ s (λ ws s'. calm_receiver _ s' (λ o r. refl))

calm_callable_then : (k : ℕ → ℕ → Act) (v : Cell) → ((p o : ℕ) → mark (k p o) ≡ false) → mark (callable_then k v) ≡ false
calm_callable_then k (Num a) h = refl
calm_callable_then k (Ref o) h = refl
calm_callable_then k (CallCell p o) h = h p o
calm_callable_then k (Place root cell type) h = refl

calm_callable : (k : ℕ → ℕ → Stack → Act) (s : Stack) → ((p o : ℕ) (s' : Stack) → mark (k p o s') ≡ false) → mark (on_callable k s) ≡ false
calm_callable k s h = calm_any _ s (λ v s'. calm_callable_then (λ p o. k p o s') v (λ p o. h p o s'))

calm_applies_to : (is_same method : Bool) (p o : ℕ) (vs : List Cell) (s : Stack) → mark (applies_to is_same method p o vs s) ≡ false
calm_applies_to true true p (suc o) vs s = refl
calm_applies_to true false p zero vs s = refl
calm_applies_to is_same method p o vs s = refl

calm_applies_as : (f : Option ProcShape) (g : ProcShape) (p o : ℕ) (vs : List Cell) (s : Stack) → mark (applies_as f g p o vs s) ≡ false
calm_applies_as None g p o vs s = refl
calm_applies_as (Some f) g p o vs s = calm_applies_to (same_formals f g) f.method p o vs s

calm_applies : (shapes : List ProcShape) (g : ProcShape) (p o : ℕ) (vs : List Cell) (s : Stack) → mark (applies shapes g p o vs s) ≡ false
calm_applies shapes g zero o vs s = refl
calm_applies shapes g (suc p) o vs s = calm_applies_as (numbered shapes (suc p)) g (suc p) o vs s

calm_value : (shapes : List ProcShape) (f : Option ProcShape) (s : Stack) → mark (calls_value shapes f s) ≡ false
calm_value shapes None s = refl
calm_value shapes (Some g) s = calm_kinds (reverse (kinds_of g.params.items)) [] _ s (λ ws s'. calm_callable _ s' (λ p o r. calm_applies shapes g p o ws r))

calm_self : (o : ℕ) (s : Stack) → mark (gives_self o s) ≡ false
calm_self zero s = refl
calm_self (suc o) s = refl

calm_result : (f : ProcShape) (r : Option Kind) (s : Stack) → mark (ends (Some (record f { result = r })) s) ≡ false
calm_result f None s = refl
calm_result f (Some kind) s = calm_kind kind _ s (λ v s'. refl)

calm_ends : (f : Option ProcShape) (s : Stack) → mark (ends f s) ≡ false
calm_ends None s = refl
calm_ends (Some f) s = calm_result f f.result s

calm_lands : (i : Option Instr) (to : ℕ) (s : Stack) → mark (lands i to s) ≡ false
calm_lands (Some (instr.Begin line col)) to s = refl
calm_lands _ to s = refl

calm_jump : (b : Bool) (a c : Act) → mark a ≡ false → mark c ≡ false → mark (if b then a else c) ≡ false
calm_jump true a c h g = h
calm_jump false a c h g = g

calm_jumps : (code : List Instr) (to at : ℕ) (s : Stack) → mark (jumps code to at s) ≡ false
calm_jumps code to at s = calm_jump (nat_lt at to) _ _ refl (calm_lands (slice_get code to) to s)

calm_on_false : (code : List Instr) (to at : ℕ) (z : ℤ) (s : Stack) → mark (jumps_on_false code to at z s) ≡ false
calm_on_false code to at (pos zero) s = calm_jumps code to at s
calm_on_false code to at (pos (suc zero)) s = refl
calm_on_false code to at (pos (suc (suc n))) s = refl
calm_on_false code to at (negsuc n) s = refl

marked : (a : Act) (q : Question) (s s' : Stack) → is_left q ≡ true → mark a ≡ false → a ≡ Sees q s' → s ≡ with_operands q s'
marked a q s s' m h e = (let z : false ≡ true = sym h ∙ ap mark e ∙ m in absurd (cc z))

asked_top : (q q' : Question) (s s' : Stack) → Sees q s ≡ Sees q' s' → with_operands q s ≡ with_operands q' s'
asked_top q q' s s' e = (let x : q ≡ q' = cc e in let y : s ≡ s' = cc e in λ i. with_operands (x i) (y i))

start_if : (b : Bool) (w : Cell) (q : Question) (s s' : Stack) → (if b then Sees (Starts w) s else Stops lost) ≡ Sees q s' → w ∷ s ≡ with_operands q s'
start_if true w q s s' e = asked_top (Starts w) q s s' e
start_if false w q s s' e = absurd (cc e)

start_on_top : (s : Stack) (q : Question) (s' : Stack) → on_kind R (λ o s1. Sees (Starts o) s1) s ≡ Sees q s' → s ≡ with_operands q s'
start_on_top [] q s' e = absurd (cc e)
start_on_top (w ∷ s) q s' e = start_if (is_of R w) w q s s' e

calm_looks : (l : Look) (nil : Stack → Act) (s : Stack) → ((s' : Stack) → mark (nil s') ≡ false) → mark (looks l nil s) ≡ false
calm_looks l nil s h = calm_object _ s (λ o s'. calm_unless o (nil s') (Looks l o s') (h s') refl)

calm_either : (b : Bool) (x y : Act) → mark x ≡ false → mark y ≡ false → mark (if b then x else y) ≡ false
calm_either true x y g h = g
calm_either false x y g h = h

-- its operands lie on top
act_asks : (shapes : List ProcShape) (types : List TypeDesc) (own : ℕ) (here : Here) (i : Instr) (code : List Instr) (at : ℕ) (s : Stack) (q : Question) (s' : Stack) → is_left q ≡ true → act shapes types own here i code at s ≡ Sees q s' → s ≡ with_operands q s'
act_asks shapes types own here (instr.Num n) code at s q s' m e = marked _ q s s' m refl e
act_asks shapes types own here instr.Nil code at s q s' m e = marked _ q s s' m refl e
act_asks shapes types own here instr.NilCall code at s q s' m e = marked _ q s s' m refl e
act_asks shapes types own here (instr.Proc p) code at s q s' m e = marked _ q s s' m refl e
act_asks shapes types own here instr.SelfRef code at s q s' m e = marked _ q s s' m (calm_self here.self s) e
act_asks shapes types own here instr.Dup code at s q s' m e = marked _ q s s' m (calm_any _ s (λ w r. refl)) e
act_asks shapes types own here instr.Drop code at s q s' m e = marked _ q s s' m (calm_any _ s (λ w r. refl)) e
act_asks shapes types own here instr.Swap code at s q s' m e = marked _ q s s' m (calm_any _ s (λ w r. calm_any _ r (λ x y. refl))) e
act_asks shapes types own here (instr.Frame c) code at s q s' m e = marked _ q s s' m refl e
act_asks shapes types own here (instr.Module n c) code at s q s' m e = marked _ q s s' m refl e
act_asks shapes types own here (instr.Param c) code at s q s' m e = marked _ q s s' m refl e
act_asks shapes types own here (instr.Length c) code at s q s' m e = marked _ q s s' m refl e
act_asks shapes types own here (instr.Deref c) code at s q s' m e = marked _ q s s' m (calm_looks (AtCell c) _ s (λ r. refl)) e
act_asks shapes types own here (instr.OpenRef j) code at s q s' m e = marked _ q s s' m (calm_looks (AtElements j) _ s (λ r. refl)) e
act_asks shapes types own here (instr.Offset c t) code at s q s' m e = marked _ q s s' m (calm_place (λ a u r. gives_place a.root (a.cell + c) t [] r) s (λ a u r. calm_gives a.root (a.cell + c) t [] r)) e
act_asks shapes types own here (instr.Index n k) code at s q s' m e = marked _ q s s' m (calm_number _ s (λ z r. calm_place _ r (λ a t x. calm_element a (natural n z) k [] x))) e
act_asks shapes types own here (instr.IndexOpen j k) code at s q s' m e = marked _ q s s' m (calm_number _ s (λ z r. calm_lengths j [] _ r (λ ns x. calm_rows ns z k x))) e
act_asks shapes types own here (instr.PickLen d j) code at s q s' m e = marked _ q s s' m (calm_counted j [] _ s (λ zs r. calm_place _ r (λ a t x. calm_picked (slice_get zs d) x))) e
act_asks shapes types own here (instr.Unary op) code at s q s' m e = marked _ q s s' m (calm_number _ s (λ a r. calm_given (unary op a) r)) e
act_asks shapes types own here (instr.Binary op) code at s q s' m e = marked _ q s s' m (calm_number _ s (λ b r. calm_number _ r (λ a x. calm_given (binary op a b) x))) e
act_asks shapes types own here instr.EqRef code at s q s' m e = marked _ q s s' m (calm_object _ s (λ b r. calm_object _ r (λ a x. refl))) e
act_asks shapes types own here instr.EqCall code at s q s' m e = marked _ q s s' m (calm_callable _ s (λ q i r. calm_callable _ r (λ p o x. refl))) e
act_asks shapes types own here (instr.Bind k) code at s q s' m e = marked _ q s s' m (calm_looks (AsMethod k) _ s (λ r. refl)) e
act_asks shapes types own here (instr.Is t) code at s q s' m e = marked _ q s s' m (calm_looks (IsType t) _ s (λ r. refl)) e
act_asks shapes types own here (instr.IsPlace t) code at s q s' m e = marked _ q s s' m (calm_place (λ a d r. gives (Num (flag (extends types d t))) r) s (λ a d r. refl)) e
act_asks shapes types own here (instr.Guard t) code at s q s' m e = marked _ q s s' m (calm_looks (AsType t) _ s (λ r. refl)) e
act_asks shapes types own here (instr.GuardPlace t) code at s q s' m e = marked _ q s s' m (calm_place (λ a d r. if extends types d t then gives (Place a.root a.cell d) r else Stops (Fails 3 0)) s (λ a d r. calm_either (extends types d t) (gives (Place a.root a.cell d) r) (Stops (Fails 3 0)) refl refl)) e
act_asks shapes types own here (instr.Keep c k) code at s q s' m e = marked _ q s s' m (calm_if (nat_lt c _) _ (calm_kind k _ s (λ w r. refl))) e
act_asks shapes types own here (instr.Kept c k) code at s q s' m e = marked _ q s s' m (calm_if (nat_lt c _) _ refl) e
act_asks shapes types own here (instr.Fail n) code at s q s' m e = marked _ q s s' m refl e
act_asks shapes types own here (instr.Assert c) code at s q s' m e = marked _ q s s' m (calm_number _ s (λ a r. calm_asserts c a r)) e
act_asks shapes types own here (instr.Halt c) code at s q s' m e = marked _ q s s' m refl e
act_asks shapes types own here (instr.Jump to) code at s q s' m e = marked _ q s s' m (calm_jumps code to at s) e
act_asks shapes types own here (instr.JumpFalse to) code at s q s' m e = marked _ q s s' m (calm_number _ s (λ a r. calm_on_false code to at a r)) e
act_asks shapes types own here (instr.Begin line col) code at s q s' m e = marked _ q s s' m refl e
act_asks shapes types own here (instr.Load kind) code at s q s' m e = marked _ q s s' m (calm_place (λ a t r. Sees (Reads kind a) r) s (λ a t r. refl)) e
act_asks shapes types own here (instr.Store kind) code at s q s' m e = marked _ q s s' m (calm_kind kind _ s (λ w r. calm_place (λ a t x. Sees (Stores a w) x) r (λ a t x. refl))) e
act_asks shapes types own here (instr.Copy n) code at s q s' m e = marked _ q s s' m (calm_place (λ a t r. on_place (λ b u x. Sees (Copies n a b) x) r) s (λ a t r. calm_place (λ b u x. Sees (Copies n a b) x) r (λ b u x. refl))) e
act_asks shapes types own here (instr.PutText strict) code at s q s' m e = marked _ q s s' m (calm_text (λ a n r. on_text (λ b m x. Sees (PutsText strict b m a n) x) r) s (λ a n r. calm_text (λ b m x. Sees (PutsText strict b m a n) x) r (λ b m x. refl))) e
act_asks shapes types own here (instr.CmpText o) code at s q s' m e = marked _ q s s' m (calm_text (λ b m r. on_text (λ a n x. Sees (ComparesTexts o a n b m) x) r) s (λ b m r. calm_text (λ a n x. Sees (ComparesTexts o a n b m) x) r (λ a n x. refl))) e
act_asks shapes types own here (instr.Call p) code at s q s' m e = marked _ q s s' m (calm_calls (numbered shapes p) p s) e
act_asks shapes types own here (instr.Virtual k p) code at s q s' m e = marked _ q s s' m (calm_sends (numbered shapes p) k p s) e
act_asks shapes types own here (instr.CallValue p) code at s q s' m e = marked _ q s s' m (calm_value shapes (numbered shapes p) s) e
act_asks shapes types own here (instr.NewObject t) code at s q s' m e = marked _ q s s' m refl e
act_asks shapes types own here (instr.NewArray t j) code at s q s' m e = marked _ q s s' m (calm_counted j [] _ s (λ zs r. refl)) e
act_asks shapes types own here instr.Start code at s q s' m e = start_on_top s q s' e
act_asks shapes types own here instr.Enter code at s q s' m e = asked_top Enters q s s' e
act_asks shapes types own here instr.Leave code at s q s' m e = asked_top Leaves q s s' e
act_asks shapes types own here (instr.Await c) code at s q s' m e = asked_top (Awaits c) q s s' e
act_asks shapes types own here instr.Verdict code at s q s' m e = marked _ q s s' m (calm_number _ s (λ z r. refl)) e
act_asks shapes types own here instr.Return code at s q s' m e = marked _ q s s' m (calm_ends (numbered shapes own) s) e
act_asks shapes types own here instr.OutChar code at s q s' m e = marked _ q s s' m (calm_kind N _ s (λ w r. refl)) e
act_asks shapes types own here instr.OutInt code at s q s' m e = marked _ q s s' m (calm_kind N _ s (λ w r. calm_kind N _ r (λ x y. refl))) e
act_asks shapes types own here instr.OutString code at s q s' m e = marked _ q s s' m (calm_text (λ a n r. Sees (PutsString a n) r) s (λ a n r. refl)) e
act_asks shapes types own here instr.OutLn code at s q s' m e = marked _ q s s' m refl e
act_asks shapes types own here instr.OutOpen code at s q s' m e = marked _ q s s' m refl e

pub asked_on_top : (shapes : List ProcShape) (types : List TypeDesc) (made : ℕ → Option Made) (own : ℕ) (here : Here) (cells : List Cell) (code : List Instr) (at : ℕ) (k : Keeps) (s : Stack) (q : Question) (k' : Keeps) (s' : Stack) → is_left q ≡ true →
    silent shapes types made own here cells code at k s ≡ Work q at k' s' → s ≡ with_operands q s'
asked_on_top shapes types made own here cells code at k s q k' s' m e =
    let asked = asked_at shapes types made cells q at k' s' own here code (no_call q m) (drop at code) k s e in
    act_asks shapes types own here asked.0 code at s q s' m asked.1

-- it does so whatever objects were made as
pub asked_again : (shapes : List ProcShape) (types : List TypeDesc) (made all : ℕ → Option Made) (own : ℕ) (here : Here) (cells : List Cell) (code : List Instr) (at : ℕ) (k : Keeps) (s : Stack) (q : Question) (k' : Keeps) (s' : Stack) → is_left q ≡ true →
    silent shapes types made own here cells code at k s ≡ Work q at k' s' → silent shapes types all own here cells code at k s ≡ Work q at k s'
asked_again shapes types made all own here cells code at k s q k' s' m e = by (drop at code) e
  where
    by : (rest : List Instr) → walk shapes types made own here cells code rest 0 at k s ≡ Work q at k' s' → walk shapes types all own here cells code rest 0 at k s ≡ Work q at k s'
    by [] f = absurd (cc f)
    by (i ∷ rest) f =
        let a : act shapes types own here i code at s ≡ Sees q s' =
        act_here shapes types made cells q at k' s' (act shapes types own here i code at s) (walk shapes types made own here cells code rest) k
        (λ over k1 s1 x. (let z = walk_later shapes types made cells q at k' s' own here code rest over (at + 1) k1 s1 x in absurd (omega arith))) (no_call q m) f in
        ap (λ b. on_act shapes types all cells b (walk shapes types all own here cells code rest) at k) a
        ∙ ap (λ n. on_noted n q (walk shapes types all own here cells code rest) at k s') (visible_left cells q m)

-- Where it comes to such a question on its way, it does so from there with what is on top.
module _ (shapes : List ProcShape) (types : List TypeDesc) (made : ℕ → Option Made) (own : ℕ) (here : Here) (cells : List Cell) (code : List Instr) (q : Question) (m : is_left q ≡ true) (place : ℕ) (k' : Keeps) (s' : Stack) where
  abbrev AsksSo : Type 0
  AsksSo = silent shapes types made own here cells code place k' (with_operands q s') ≡ Work q place k' s'

  abbrev Next : Type 0
  Next = ℕ → ℕ → Keeps → Stack → Stop

  asking_by : (rest : List Instr) (i : Instr) (at : ℕ) (s : Stack) → drop at code ≡ i ∷ rest → act shapes types own here i code at s ≡ Sees q s' → at ≡ place → AsksSo
  asking_by rest i at s d e is =
      let top : s ≡ with_operands q s' = act_asks shapes types own here i code at s q s' m e in
      let a : act shapes types own here i code place (with_operands q s') ≡ Sees q s' = (λ j. act shapes types own here i code (sym is j) (sym top j)) ∙ e in
      ap (λ l. walk shapes types made own here cells code l 0 place k' (with_operands q s')) (ap (λ n. drop n code) (sym is) ∙ d)
      ∙ ap (λ b. on_act shapes types made cells b (walk shapes types made own here cells code rest) place k') a
      ∙ ap (λ n. on_noted n q (walk shapes types made own here cells code rest) place k' s') (visible_left cells q m)

  if_asks : (b : Bool) (t : Stop) (k : Keeps) → (t ≡ Work q place k' s' → AsksSo) → (if b then t else Ended lost k) ≡ Work q place k' s' → AsksSo
  if_asks true t k h e = h e
  if_asks false t k h e = absurd (cc e)

  noted_asks : (n : Noted) (asked : Question) (next : Next) (at : ℕ) (k : Keeps) (s : Stack) → ((over : ℕ) (k : Keeps) (s : Stack) → next over (at + 1) k s ≡ Work q place k' s' → AsksSo) →
      (Sees asked s ≡ Sees q s' → at ≡ place → AsksSo) → on_noted n asked next at k s ≡ Work q place k' s' → AsksSo
  noted_asks Visible asked next at k s h g e = g (cc e) (cc e)
  noted_asks (Answered w) asked next at k s h g e = h 0 k (w ∷ s) e
  noted_asks Unknown asked next at k s h g e = absurd (cc e)

  told_asks : (r : Told) (next : Next) (at : ℕ) (k : Keeps) (s : Stack) → ((over : ℕ) (k : Keeps) (s : Stack) → next over (at + 1) k s ≡ Work q place k' s' → AsksSo) → on_told r next at k s ≡ Work q place k' s' → AsksSo
  told_asks (Tells vs) next at k s h e = h 0 k (vs ++ s) e
  told_asks (Refuses n) next at k s h e = absurd (cc e)
  told_asks (Invokes p vs) next at k s h e = absurd (no_call q m p vs (cc e))
  told_asks Unheard next at k s h e = absurd (cc e)

  act_comes : (a : Act) (next : Next) (at : ℕ) (k : Keeps) → ((over : ℕ) (k : Keeps) (s : Stack) → next over (at + 1) k s ≡ Work q place k' s' → AsksSo) →
      (a ≡ Sees q s' → at ≡ place → AsksSo) → on_act shapes types made cells a next at k ≡ Work q place k' s' → AsksSo
  act_comes (Goes over s) next at k h g e = h over k s e
  act_comes (Puts c w s) next at k h g e = h 0 _ s e
  act_comes (Takes c kind s) next at k h g e = if_asks (is_of kind (k c)) (next 0 (at + 1) k (k c ∷ s)) k (λ x. h 0 k (k c ∷ s) x) e
  act_comes (Looks l o s) next at k h g e = told_asks (told_by shapes types l o (made o)) next at k s h e
  act_comes (Sees asked s) next at k h g e = noted_asks (noted cells asked) asked next at k s h g e
  act_comes (Stops end) next at k h g e = absurd (cc e)

  walk_asks : (rest : List Instr) (over at : ℕ) (k : Keeps) (s : Stack) → drop at code ≡ rest → walk shapes types made own here cells code rest over at k s ≡ Work q place k' s' → AsksSo
  walk_asks [] over at k s d e = absurd (cc e)
  walk_asks (i ∷ rest) zero at k s d e =
      act_comes (act shapes types own here i code at s) (walk shapes types made own here cells code rest) at k (λ over k1 s1. walk_asks rest over (at + 1) k1 s1 (drop_next at code i rest d))
      (λ a is. asking_by rest i at s d a is) e
  walk_asks (i ∷ rest) (suc n) at k s d e = walk_asks rest n (at + 1) k s (drop_next at code i rest d) e

  pub asks_there : (at : ℕ) (k : Keeps) (s : Stack) → silent shapes types made own here cells code at k s ≡ Work q place k' s' → AsksSo
  asks_there at k s e = walk_asks (drop at code) 0 at k s refl e
