-- Silent work that ends at a question has come to the instruction that asks it; and what starts an activity asks so once more, where
-- the object lies on top.
use Rattle.std.proofs.Common.{◌≡◌, ◌⊎◌, inl, inr, subst, ◌+◌, ℕ, ℤ, zero, suc, pos, negsuc, List, [], ◌∷◌, ◌++◌, drop, reverse, refl, sym, ap, ◌∙◌}
use Rattle.std.specs.Prelude.{Option, Some, None, Bool, true, false, nat_lt, slice_get, if◌then◌else◌}
use Rattle.aos_base.specs.declared.root.Root.{Root}
use Rattle.aos_base.specs.declared.operator.Given.{Given}
use Rattle.aos_base.specs.declared.operator.Given.TheVariants.{Number, Trap, Undefined}
use Rattle.aos_base.specs.Question.{ByName, Asks, Reads, Stores, Copies, PutsText, ComparesTexts, Calls, Ends, Makes, Starts, Enters, Leaves, Awaits, PutsInt, PutsChar, PutsString, PutsNothing, PutsLn, Places, Lengths, Opens, Sizes, Tests}
use Rattle.aos_base.specs.Operators.{flag, unary, binary, natural}
use Rattle.aos_code.specs.declared.instr.Cell.{Cell}
use Rattle.aos_code.specs.declared.instr.Cell.TheVariants.{Num, Ref, Call as CallCell, Place}
use Rattle.aos_code.specs.declared.instr.Kind.{Kind}
use Rattle.aos_code.specs.declared.instr.Kind.TheVariants.{N, R}
use Rattle.aos_code.specs.declared.instr.Instr.{Instr}
use Rattle.aos_code.specs.declared.instr.Instr.TheVariants as instr
use Rattle.aos_code.specs.declared.image.ProcShape.{ProcShape}
use Rattle.aos_code.specs.Memory.{Addr}
use Rattle.aos_code.specs.Numbered.{numbered}
use Rattle.aos_code.specs.Silent.{Stack, Keeps, Question, Fails, Decides, Stop, Work, Ended, Look, AtCell, AtElements, IsType, AsType, AsMethod, Act, Goes, Puts, Takes, Looks, Sees, Stops, object_then, on_object, unless_nil, looks, on_receiver, called, callable_then, on_callable, same_formals, applies_to, applies_as, applies, calls_value, sends, gives_self, extends, Told, Tells, Refuses, Invokes, Unheard, told_by, on_told, lost, kept, is_of, on_any, on_kind, on_number, number_then, place_then, on_place, on_text, length_then, lengths_on, counted_on, gives, given, asserts, gives_place, element, cells_of, length_cells, in_rows, gives_picked, on_kinds, kinds_of, calls, ends, lands, jumps, jumps_on_false, act, Noted, Visible, Answered, Unknown, noted, on_noted, on_act, walk, silent}
use Rattle.aos_base.specs.Rooted.{Made}
use Rattle.aos_sim.proofs.Runs.{Tables, on_run, runs, run, drop_next}
use Rattle.aos_typed.specs.Meaning.{Here}

-- What is no start, no entry of a region, and no end of one.

abbrev mark : Act → ℕ
mark (Sees (Starts v) s) = 1
mark (Sees Enters s) = 1
mark (Sees Leaves s) = 1
mark (Sees (Awaits c) s) = 1
mark _ = 0

calm_if : (b : Bool) (a : Act) → mark a ≡ 0 → mark (if b then a else Stops lost) ≡ 0
calm_if true a h = h
calm_if false a h = refl

calm_any : (k : Cell → Stack → Act) (s : Stack) → ((v : Cell) (s' : Stack) → mark (k v s') ≡ 0) → mark (on_any k s) ≡ 0
calm_any k [] h = refl
calm_any k (v ∷ s) h = h v s

calm_kind : (kind : Kind) (k : Cell → Stack → Act) (s : Stack) → ((v : Cell) (s' : Stack) → mark (k v s') ≡ 0) → mark (on_kind kind k s) ≡ 0
calm_kind kind k s h = calm_any _ s (λ v s'. calm_if (is_of kind v) (k v s') (h v s'))

calm_number_then : (k : ℤ → Act) (v : Cell) → ((a : ℤ) → mark (k a) ≡ 0) → mark (number_then k v) ≡ 0
calm_number_then k (Num a) h = h a
calm_number_then k (Ref o) h = refl
calm_number_then k (CallCell p o) h = refl
calm_number_then k (Place root cell type) h = refl

calm_number : (k : ℤ → Stack → Act) (s : Stack) → ((a : ℤ) (s' : Stack) → mark (k a s') ≡ 0) → mark (on_number k s) ≡ 0
calm_number k s h = calm_any _ s (λ v s'. calm_number_then (λ a. k a s') v (λ a. h a s'))

calm_place_then : (k : Addr → ℕ → Act) (v : Cell) → ((a : Addr) (t : ℕ) → mark (k a t) ≡ 0) → mark (place_then k v) ≡ 0
calm_place_then k (Num a) h = refl
calm_place_then k (Ref o) h = refl
calm_place_then k (CallCell p o) h = refl
calm_place_then k (Place root cell type) h = h _ type

calm_place : (k : Addr → ℕ → Stack → Act) (s : Stack) → ((a : Addr) (t : ℕ) (s' : Stack) → mark (k a t s') ≡ 0) → mark (on_place k s) ≡ 0
calm_place k s h = calm_any _ s (λ v s'. calm_place_then (λ a t. k a t s') v (λ a t. h a t s'))

calm_text : (k : Addr → Cell → Stack → Act) (s : Stack) → ((a : Addr) (n : Cell) (s' : Stack) → mark (k a n s') ≡ 0) → mark (on_text k s) ≡ 0
calm_text k s h = calm_kind N _ s (λ n s1. calm_place _ s1 (λ a t s2. h a n s2))

calm_length : (z : ℤ) (k : ℕ → Act) → ((n : ℕ) → mark (k n) ≡ 0) → mark (length_then z k) ≡ 0
calm_length (pos n) k h = h n
calm_length (negsuc n) k h = refl

calm_lengths : (j : ℕ) (ls : List ℕ) (k : List ℕ → Stack → Act) (s : Stack) → ((ns : List ℕ) (s' : Stack) → mark (k ns s') ≡ 0) → mark (lengths_on j ls k s) ≡ 0
calm_lengths zero ls k s h = h ls s
calm_lengths (suc j) ls k s h = calm_number _ s (λ z s'. calm_length z _ (λ n. calm_lengths j (n ∷ ls) k s' h))

calm_counted : (j : ℕ) (zs : List ℤ) (k : List ℤ → Stack → Act) (s : Stack) → ((ns : List ℤ) (s' : Stack) → mark (k ns s') ≡ 0) → mark (counted_on j zs k s) ≡ 0
calm_counted zero zs k s h = h zs s
calm_counted (suc j) zs k s h = calm_number _ s (λ z s'. calm_counted j (z ∷ zs) k s' h)

calm_given : (x : Given) (s : Stack) → mark (given x s) ≡ 0
calm_given (Number z) s = refl
calm_given (Trap n) s = refl
calm_given Undefined s = refl

calm_asserts : (c : ℕ) (z : ℤ) (s : Stack) → mark (asserts c z s) ≡ 0
calm_asserts c (pos zero) s = refl
calm_asserts c (pos (suc zero)) s = refl
calm_asserts c (pos (suc (suc n))) s = refl
calm_asserts c (negsuc n) s = refl

calm_gives : (root : Root) (cell type : ℕ) (above : List Cell) (s : Stack) → mark (gives_place root cell type above s) ≡ 0
calm_gives root cell type above s = calm_if (nat_lt cell _) _ refl

calm_element : (a : Addr) (i : Option ℕ) (k : ℕ) (above : List Cell) (s : Stack) → mark (element a i k above s) ≡ 0
calm_element a None k above s = refl
calm_element a (Some i) k above s = calm_gives a.root _ 0 above s

calm_rows : (ns : List ℕ) (z : ℤ) (k : ℕ) (s : Stack) → mark (in_rows ns z k s) ≡ 0
calm_rows [] z k s = refl
calm_rows (n ∷ ns) z k s = calm_place _ s (λ a t s'. calm_element a (natural n z) (cells_of ns k) (length_cells ns) s')

calm_picked : (z : Option ℤ) (s : Stack) → mark (gives_picked z s) ≡ 0
calm_picked None s = refl
calm_picked (Some z) s = refl

calm_kinds : (kinds : List Kind) (vs : List Cell) (k : List Cell → Stack → Act) (s : Stack) → ((ws : List Cell) (s' : Stack) → mark (k ws s') ≡ 0) → mark (on_kinds kinds vs k s) ≡ 0
calm_kinds [] vs k s h = h vs s
calm_kinds (kind ∷ kinds) vs k s h = calm_kind kind _ s (λ v s'. calm_kinds kinds (v ∷ vs) k s' h)

calm_object_then : (k : ℕ → Act) (v : Cell) → ((o : ℕ) → mark (k o) ≡ 0) → mark (object_then k v) ≡ 0
calm_object_then k (Num a) h = refl
calm_object_then k (Ref o) h = h o
calm_object_then k (CallCell p o) h = refl
calm_object_then k (Place root cell type) h = refl

calm_object : (k : ℕ → Stack → Act) (s : Stack) → ((o : ℕ) (s' : Stack) → mark (k o s') ≡ 0) → mark (on_object k s) ≡ 0
calm_object k s h = calm_any _ s (λ v s'. calm_object_then (λ o. k o s') v (λ o. h o s'))

calm_nil : (o : ℕ) (a b : Act) → mark a ≡ 0 → mark b ≡ 0 → mark (unless_nil o a b) ≡ 0
calm_nil zero a b h g = h
calm_nil (suc o) a b h g = g

calm_receiver : (k : ℕ → Stack → Act) (s : Stack) → ((o : ℕ) (s' : Stack) → mark (k o s') ≡ 0) → mark (on_receiver k s) ≡ 0
calm_receiver k s h = calm_object _ s (λ o s'. calm_nil o (Stops (Fails 1 0)) (k o s') refl (h o s'))

calm_called : (method : Bool) (p : ℕ) (ws : List Cell) (s : Stack) → mark (called method p ws s) ≡ 0
calm_called true p ws s = calm_receiver _ s (λ o s'. refl)
calm_called false p ws s = refl

calm_self : (o : ℕ) (s : Stack) → mark (gives_self o s) ≡ 0
calm_self zero s = refl
calm_self (suc o) s = refl

calm_calls : (f : Option ProcShape) (p : ℕ) (s : Stack) → mark (calls f p s) ≡ 0
calm_calls None p s = refl
calm_calls (Some f) p s = calm_kinds (reverse (kinds_of f.params.items)) [] _ s (λ ws s'. calm_called f.method p ws s')

calm_sends : (f : Option ProcShape) (slot p : ℕ) (s : Stack) → mark (sends f slot p s) ≡ 0
calm_sends None slot p s = refl
calm_sends (Some f) slot p s = calm_kinds (reverse (kinds_of f.params.items)) [] _ s (λ ws s'. calm_receiver _ s' (λ o s2. refl))

calm_callable_then : (k : ℕ → ℕ → Act) (v : Cell) → ((p o : ℕ) → mark (k p o) ≡ 0) → mark (callable_then k v) ≡ 0
calm_callable_then k (Num a) h = refl
calm_callable_then k (Ref o) h = refl
calm_callable_then k (CallCell p o) h = h p o
calm_callable_then k (Place root cell type) h = refl

calm_callable : (k : ℕ → ℕ → Stack → Act) (s : Stack) → ((p o : ℕ) (s' : Stack) → mark (k p o s') ≡ 0) → mark (on_callable k s) ≡ 0
calm_callable k s h = calm_any _ s (λ v s'. calm_callable_then (λ p o. k p o s') v (λ p o. h p o s'))

calm_applies_to : (is_same method : Bool) (p o : ℕ) (vs : List Cell) (s : Stack) → mark (applies_to is_same method p o vs s) ≡ 0
calm_applies_to true true p zero vs s = refl
calm_applies_to true true p (suc o) vs s = refl
calm_applies_to true false p zero vs s = refl
calm_applies_to true false p (suc o) vs s = refl
calm_applies_to false true p o vs s = refl
calm_applies_to false false p o vs s = refl

calm_applies_as : (f : Option ProcShape) (g : ProcShape) (p o : ℕ) (vs : List Cell) (s : Stack) → mark (applies_as f g p o vs s) ≡ 0
calm_applies_as None g p o vs s = refl
calm_applies_as (Some f) g p o vs s = calm_applies_to (same_formals f g) f.method p o vs s

calm_applies : (shapes : List ProcShape) (g : ProcShape) (p o : ℕ) (vs : List Cell) (s : Stack) → mark (applies shapes g p o vs s) ≡ 0
calm_applies shapes g zero o vs s = refl
calm_applies shapes g (suc p) o vs s = calm_applies_as (numbered shapes (suc p)) g (suc p) o vs s

calm_calls_value : (shapes : List ProcShape) (g : Option ProcShape) (s : Stack) → mark (calls_value shapes g s) ≡ 0
calm_calls_value shapes None s = refl
calm_calls_value shapes (Some g) s =
    calm_kinds (reverse (kinds_of g.params.items)) [] _ s (λ vs s'. calm_callable _ s' (λ p o s2. calm_applies shapes g p o vs s2))

calm_result : (f : ProcShape) (r : Option Kind) (s : Stack) → mark (ends (Some (record f { result = r })) s) ≡ 0
calm_result f None s = refl
calm_result f (Some kind) s = calm_kind kind _ s (λ v s'. refl)

calm_ends : (f : Option ProcShape) (s : Stack) → mark (ends f s) ≡ 0
calm_ends None s = refl
calm_ends (Some f) s = calm_result f f.result s

calm_lands : (i : Option Instr) (to : ℕ) (s : Stack) → mark (lands i to s) ≡ 0
calm_lands (Some (instr.Begin line col)) to s = refl
calm_lands _ to s = refl

calm_jump : (b : Bool) (a c : Act) → mark a ≡ 0 → mark c ≡ 0 → mark (if b then a else c) ≡ 0
calm_jump true a c h g = h
calm_jump false a c h g = g

calm_jumps : (code : List Instr) (to at : ℕ) (s : Stack) → mark (jumps code to at s) ≡ 0
calm_jumps code to at s = calm_jump (nat_lt at to) _ _ refl (calm_lands (slice_get code to) to s)

calm_on_false : (code : List Instr) (to at : ℕ) (z : ℤ) (s : Stack) → mark (jumps_on_false code to at z s) ≡ 0
calm_on_false code to at (pos zero) s = calm_jumps code to at s
calm_on_false code to at (pos (suc zero)) s = refl
calm_on_false code to at (pos (suc (suc n))) s = refl
calm_on_false code to at (negsuc n) s = refl

calm_looks : (l : Look) (at_nil : Stack → Act) (s : Stack) → ((s' : Stack) → mark (at_nil s') ≡ 0) → mark (looks l at_nil s) ≡ 0
calm_looks l at_nil s h = calm_object _ s (λ o s'. calm_nil o (at_nil s') (Looks l o s') (h s') refl)

start_if : (b : Bool) (w v : Cell) (s s' : Stack) → (if b then Sees (Starts w) s else Stops lost) ≡ Sees (Starts v) s' → w ∷ s ≡ v ∷ s'
start_if true w v s s' e = (let p : w ≡ v = cc e in let q : s ≡ s' = cc e in λ i. p i ∷ q i)
start_if false w v s s' e = absurd (cc e)

start_on_top : (s : Stack) (v : Cell) (s' : Stack) → on_kind R (λ o s1. Sees (Starts o) s1) s ≡ Sees (Starts v) s' → s ≡ v ∷ s'
start_on_top [] v s' e = absurd (cc e)
start_on_top (w ∷ s) v s' e = start_if (is_of R w) w v s s' e

-- what an instruction does is none of these, or it is one of three
act_kind : (tables : Tables) (own : ℕ) (here : Here) (i : Instr) (code : List Instr) (at : ℕ) (s : Stack) → (mark (act tables.procedures tables.types own here i code at s) ≡ 0) ⊎ ((i ≡ instr.Start) ⊎ ((i ≡ instr.Enter) ⊎ ((i ≡ instr.Leave) ⊎ ((c : ℕ) × (i ≡ instr.Await c)))))
act_kind tables own here (instr.Num n) code at s = inl refl
act_kind tables own here instr.Nil code at s = inl refl
act_kind tables own here instr.SelfRef code at s = inl (calm_self here.self s)
act_kind tables own here instr.Dup code at s = inl (calm_any _ s (λ w r. refl))
act_kind tables own here instr.Drop code at s = inl (calm_any _ s (λ w r. refl))
act_kind tables own here instr.Swap code at s = inl (calm_any _ s (λ w r. calm_any _ r (λ x y. refl)))
act_kind tables own here (instr.Frame c) code at s = inl refl
act_kind tables own here (instr.Module m c) code at s = inl refl
act_kind tables own here (instr.Param c) code at s = inl refl
act_kind tables own here (instr.Length c) code at s = inl refl
act_kind tables own here (instr.Deref c) code at s = inl (calm_looks (AtCell c) (λ r. Stops (Fails 1 0)) s (λ r. refl))
act_kind tables own here (instr.OpenRef j) code at s = inl (calm_looks (AtElements j) (λ r. Stops (Fails 1 0)) s (λ r. refl))
act_kind tables own here (instr.Offset c t) code at s = inl (calm_place (λ a u r. gives_place a.root (a.cell + c) t [] r) s (λ a u r. calm_gives a.root (a.cell + c) t [] r))
act_kind tables own here (instr.Index n k) code at s = inl (calm_number _ s (λ z r. calm_place _ r (λ a t x. calm_element a (natural n z) k [] x)))
act_kind tables own here (instr.IndexOpen j k) code at s = inl (calm_number _ s (λ z r. calm_lengths j [] _ r (λ ns x. calm_rows ns z k x)))
act_kind tables own here (instr.PickLen d j) code at s = inl (calm_counted j [] _ s (λ zs r. calm_place _ r (λ a t x. calm_picked (slice_get zs d) x)))
act_kind tables own here (instr.Unary op) code at s = inl (calm_number _ s (λ a r. calm_given (unary op a) r))
act_kind tables own here (instr.Binary op) code at s = inl (calm_number _ s (λ b r. calm_number _ r (λ a x. calm_given (binary op a b) x)))
act_kind tables own here instr.NilCall code at s = inl refl
act_kind tables own here (instr.Proc p) code at s = inl refl
act_kind tables own here instr.EqCall code at s = inl (calm_callable _ s (λ q i r. calm_callable _ r (λ p o x. refl)))
act_kind tables own here (instr.Bind k) code at s = inl (calm_looks (AsMethod k) (λ r. Stops (Fails 1 0)) s (λ r. refl))
act_kind tables own here (instr.CallValue p) code at s = inl (calm_calls_value tables.procedures (numbered tables.procedures p) s)
act_kind tables own here instr.EqRef code at s = inl (calm_object _ s (λ b r. calm_object _ r (λ a x. refl)))
act_kind tables own here (instr.Is t) code at s = inl (calm_looks (IsType t) (λ r. gives (Num (pos 0)) r) s (λ r. refl))
act_kind tables own here (instr.IsPlace t) code at s = inl (calm_place (λ a d r. gives (Num (flag (extends tables.types d t))) r) s (λ a d r. refl))
act_kind tables own here (instr.Guard t) code at s = inl (calm_looks (AsType t) (λ r. Stops (Fails 3 0)) s (λ r. refl))
act_kind tables own here (instr.GuardPlace t) code at s =
    inl
    (calm_place (λ a d r. if extends tables.types d t then gives (Place a.root a.cell d) r else Stops (Fails 3 0)) s
    (λ a d r. calm_jump (extends tables.types d t) (gives (Place a.root a.cell d) r) (Stops (Fails 3 0)) refl refl))
act_kind tables own here (instr.Keep c k) code at s = inl (calm_if (nat_lt c _) _ (calm_kind k _ s (λ w r. refl)))
act_kind tables own here (instr.Kept c k) code at s = inl (calm_if (nat_lt c _) _ refl)
act_kind tables own here (instr.Fail n) code at s = inl refl
act_kind tables own here (instr.Assert c) code at s = inl (calm_number _ s (λ a r. calm_asserts c a r))
act_kind tables own here (instr.Halt c) code at s = inl refl
act_kind tables own here (instr.Jump to) code at s = inl (calm_jumps code to at s)
act_kind tables own here (instr.JumpFalse to) code at s = inl (calm_number _ s (λ a r. calm_on_false code to at a r))
act_kind tables own here (instr.Begin line col) code at s = inl refl
act_kind tables own here (instr.Load kind) code at s = inl (calm_place (λ a t r. Sees (Reads kind a) r) s (λ a t r. refl))
act_kind tables own here (instr.Store kind) code at s = inl (calm_kind kind _ s (λ w r. calm_place (λ a t x. Sees (Stores a w) x) r (λ a t x. refl)))
act_kind tables own here (instr.Copy n) code at s = inl (calm_place (λ a t r. on_place (λ b u x. Sees (Copies n a b) x) r) s (λ a t r. calm_place (λ b u x. Sees (Copies n a b) x) r (λ b u x. refl)))
act_kind tables own here (instr.PutText strict) code at s = inl (calm_text (λ a n r. on_text (λ b m x. Sees (PutsText strict b m a n) x) r) s (λ a n r. calm_text (λ b m x. Sees (PutsText strict b m a n) x) r (λ b m x. refl)))
act_kind tables own here (instr.CmpText o) code at s = inl (calm_text (λ b m r. on_text (λ a n x. Sees (ComparesTexts o a n b m) x) r) s (λ b m r. calm_text (λ a n x. Sees (ComparesTexts o a n b m) x) r (λ a n x. refl)))
act_kind tables own here (instr.Call p) code at s = inl (calm_calls (numbered tables.procedures p) p s)
act_kind tables own here (instr.Virtual k p) code at s = inl (calm_sends (numbered tables.procedures p) k p s)
act_kind tables own here (instr.NewObject t) code at s = inl refl
act_kind tables own here (instr.NewArray t j) code at s = inl (calm_counted j [] _ s (λ zs r. refl))
act_kind tables own here instr.Start code at s = inr (inl refl)
act_kind tables own here instr.Enter code at s = inr (inr (inl refl))
act_kind tables own here instr.Leave code at s = inr (inr (inr (inl refl)))
act_kind tables own here (instr.Await c) code at s = inr (inr (inr (inr (c, refl))))
act_kind tables own here instr.Verdict code at s = inl (calm_number (λ a s'. Stops (Decides a)) s (λ a s'. refl))
act_kind tables own here instr.Return code at s = inl (calm_ends (numbered tables.procedures own) s)
act_kind tables own here instr.OutChar code at s = inl (calm_kind N _ s (λ w r. refl))
act_kind tables own here instr.OutInt code at s = inl (calm_kind N _ s (λ w r. calm_kind N _ r (λ x y. refl)))
act_kind tables own here instr.OutString code at s = inl (calm_text (λ a n r. Sees (PutsString a n) r) s (λ a n r. refl))
act_kind tables own here instr.OutLn code at s = inl refl
act_kind tables own here instr.OutOpen code at s = inl refl

-- what these find below what they take
abbrev Found : Question → Stack → Stack → Type 0
Found (Starts v) s s' = s ≡ v ∷ s'
Found Enters s s' = s ≡ s'
Found Leaves s s' = s ≡ s'
Found (Awaits c) s s' = s ≡ s'
Found q s s' = ⊥

-- one of the three
abbrev IsWork : Question → Type 0
IsWork (Starts v) = Unit {0}
IsWork Enters = Unit {0}
IsWork Leaves = Unit {0}
IsWork (Awaits c) = Unit {0}
IsWork q = ⊥

one_marked : (q : Question) (s : Stack) → IsWork q → mark (Sees q s) ≡ 1
one_marked (Starts v) s w = refl
one_marked Enters s w = refl
one_marked Leaves s w = refl
one_marked (Awaits c) s w = refl
one_marked (Reads k a) s w = absurd w
one_marked (Stores a v) s w = absurd w
one_marked (Copies n a b) s w = absurd w
one_marked (PutsText strict a n b m) s w = absurd w
one_marked (ComparesTexts r a n b m) s w = absurd w
one_marked (Calls how p vs) s w = absurd w
one_marked (Ends r) s w = absurd w
one_marked (Makes t vs) s w = absurd w
one_marked (PutsInt v n) s w = absurd w
one_marked (PutsChar v) s w = absurd w
one_marked (PutsString a n) s w = absurd w
one_marked PutsNothing s w = absurd w
one_marked PutsLn s w = absurd w
one_marked (Places a) s w = absurd w
one_marked (Lengths a) s w = absurd w
one_marked (Opens v) s w = absurd w
one_marked (Sizes v d) s w = absurd w
one_marked (Tests v t) s w = absurd w

start_finds : (q : Question) (s s' : Stack) → IsWork q → on_kind R (λ o s1. Sees (Starts o) s1) s ≡ Sees q s' → Found q s s'
start_finds (Starts v) s s' w e = start_on_top s v s' e
start_finds Enters [] s' w e = absurd (cc e)
start_finds Enters (x ∷ s) s' w e = by (is_of R x) e
  where
    by : (b : Bool) → (if b then Sees (Starts x) s else Stops lost) ≡ Sees Enters s' → x ∷ s ≡ s'
    by true e' = absurd (cc e')
    by false e' = absurd (cc e')
start_finds Leaves [] s' w e = absurd (cc e)
start_finds Leaves (x ∷ s) s' w e = by (is_of R x) e
  where
    by : (b : Bool) → (if b then Sees (Starts x) s else Stops lost) ≡ Sees Leaves s' → x ∷ s ≡ s'
    by true e' = absurd (cc e')
    by false e' = absurd (cc e')
start_finds (Awaits c) [] s' w e = absurd (cc e)
start_finds (Awaits c) (x ∷ s) s' w e = by (is_of R x) e
  where
    by : (b : Bool) → (if b then Sees (Starts x) s else Stops lost) ≡ Sees (Awaits c) s' → x ∷ s ≡ s'
    by true e' = absurd (cc e')
    by false e' = absurd (cc e')
start_finds (Reads k a) s s' w e = absurd w
start_finds (Stores a v) s s' w e = absurd w
start_finds (Copies n a b) s s' w e = absurd w
start_finds (PutsText strict a n b m) s s' w e = absurd w
start_finds (ComparesTexts r a n b m) s s' w e = absurd w
start_finds (Calls how p vs) s s' w e = absurd w
start_finds (Ends r) s s' w e = absurd w
start_finds (Makes t vs) s s' w e = absurd w
start_finds (PutsInt v n) s s' w e = absurd w
start_finds (PutsChar v) s s' w e = absurd w
start_finds (PutsString a n) s s' w e = absurd w
start_finds PutsNothing s s' w e = absurd w
start_finds PutsLn s s' w e = absurd w
start_finds (Places a) s s' w e = absurd w
start_finds (Lengths a) s s' w e = absurd w
start_finds (Opens v) s s' w e = absurd w
start_finds (Sizes v d) s s' w e = absurd w
start_finds (Tests v t) s s' w e = absurd w

-- an entry or an end finds what it leaves
region_finds : (r q : Question) (s s' : Stack) → Found r s s → IsWork q → Sees r s ≡ Sees q s' → Found q s s'
region_finds r q s s' h w e =
    let a : r ≡ q = cc e in
    let b : s ≡ s' = cc e in
    subst (λ x. Found q s x) b (subst (λ x. Found x s s) a h)

act_finds : (tables : Tables) (own : ℕ) (here : Here) (i : Instr) (code : List Instr) (at : ℕ) (s : Stack) (q : Question) (s' : Stack) → IsWork q → act tables.procedures tables.types own here i code at s ≡ Sees q s' → Found q s s'
act_finds tables own here i code at s q s' w e = by (act_kind tables own here i code at s)
  where
    by : (mark (act tables.procedures tables.types own here i code at s) ≡ 0) ⊎ ((i ≡ instr.Start) ⊎ ((i ≡ instr.Enter) ⊎ ((i ≡ instr.Leave) ⊎ ((c : ℕ) × (i ≡ instr.Await c))))) → Found q s s'
    by (inl h) = absurd (let z : 0 ≡ 1 = sym h ∙ ap mark e ∙ one_marked q s' w in cc z)
    by (inr (inl h)) = start_finds q s s' w (ap (λ x. act tables.procedures tables.types own here x code at s) (sym h) ∙ e)
    by (inr (inr (inl h))) = region_finds Enters q s s' refl w (ap (λ x. act tables.procedures tables.types own here x code at s) (sym h) ∙ e)
    by (inr (inr (inr (inl h)))) = region_finds Leaves q s s' refl w (ap (λ x. act tables.procedures tables.types own here x code at s) (sym h) ∙ e)
    by (inr (inr (inr (inr h)))) = region_finds (Awaits h.0) q s s' refl w (ap (λ x. act tables.procedures tables.types own here x code at s) (sym h.1) ∙ e)

module _ (tables : Tables) (made : ℕ → Option Made) (own : ℕ) (here : Here) (cells : List Cell) (code : List Instr) (q : Question) (work : IsWork q) (p : ℕ) (k' : Keeps) (s' : Stack) where
  -- the instruction that asks, and the operands that it finds
  record Asked : Type 0 where
    instruction : Instr
    rest : List Instr
    there : drop p code ≡ instruction ∷ rest
    stack : Stack
    asks : act tables.procedures tables.types own here instruction code p stack ≡ Sees q s'
    visible : noted cells q ≡ Visible

  module _ (i : Instr) (rest : List Instr) (at : ℕ) (there : drop at code ≡ i ∷ rest) (next : ℕ → ℕ → Keeps → Stack → Stop) (ih : (over : ℕ) (k : Keeps) (s : Stack) → next over (at + 1) k s ≡ Work q p k' s' → Asked) (s : Stack) where
    noted_asks : (n : Noted) (asked : Question) (k : Keeps) (s1 : Stack) → noted cells asked ≡ n → act tables.procedures tables.types own here i code at s ≡ Sees asked s1 → on_noted n asked next at k s1 ≡ Work q p k' s' → Asked
    noted_asks Visible asked k s1 n seen e =
        let a : asked ≡ q = cc e in
        let b : at ≡ p = cc e in
        let c : s1 ≡ s' = cc e in
        record {
          instruction = i;
          rest = rest;
          there = ap (λ x. drop x code) (sym b) ∙ there;
          stack = s;
          asks = ap (λ x. act tables.procedures tables.types own here i code x s) (sym b) ∙ seen ∙ (λ j. Sees (a j) (c j));
          visible = ap (noted cells) (sym a) ∙ n;
        }
    noted_asks (Answered v) asked k s1 n seen e = ih 0 k (v ∷ s1) e
    noted_asks Unknown asked k s1 n seen e = absurd (cc e)

    if_asks : (b : Bool) (k : Keeps) (s1 : Stack) → (if b then next 0 (at + 1) k s1 else Ended lost k) ≡ Work q p k' s' → Asked
    if_asks true k s1 e = ih 0 k s1 e
    if_asks false k s1 e = absurd (cc e)

    told_asks : (t : Told) (k : Keeps) (s1 : Stack) → on_told t next at k s1 ≡ Work q p k' s' → Asked
    told_asks (Tells vs) k s1 e = ih 0 k (vs ++ s1) e
    told_asks (Refuses n) k s1 e = absurd (cc e)
    told_asks (Invokes n us) k s1 e = let other : q ≡ Calls ByName n us = cc e in absurd (subst IsWork other work)
    told_asks Unheard k s1 e = absurd (cc e)

    act_asks : (a : Act) (k : Keeps) → act tables.procedures tables.types own here i code at s ≡ a → on_act tables.procedures tables.types made cells a next at k ≡ Work q p k' s' → Asked
    act_asks (Goes over s1) k seen e = ih over k s1 e
    act_asks (Puts c v s1) k seen e = ih 0 (kept c v k) s1 e
    act_asks (Takes c kind s1) k seen e = if_asks (is_of kind (k c)) k (k c ∷ s1) e
    act_asks (Looks l o s1) k seen e = told_asks (told_by tables.procedures tables.types l o (made o)) k s1 e
    act_asks (Sees asked s1) k seen e = noted_asks (noted cells asked) asked k s1 refl seen e
    act_asks (Stops end) k seen e = absurd (cc e)

  walk_asks : (rest : List Instr) (over at : ℕ) (k : Keeps) (s : Stack) → drop at code ≡ rest → walk tables.procedures tables.types made own here cells code rest over at k s ≡ Work q p k' s' → Asked
  walk_asks [] over at k s there e = absurd (cc e)
  walk_asks (i ∷ rest) (suc n) at k s there e = walk_asks rest n (at + 1) k s (drop_next at code i rest there) e
  walk_asks (i ∷ rest) zero at k s there e =
      act_asks i rest at there (walk tables.procedures tables.types made own here cells code rest) (λ over k1 s1 e1. walk_asks rest over (at + 1) k1 s1 (drop_next at code i rest there) e1) s (act tables.procedures tables.types own here i code at s) k refl e

-- from where silent work has come to such work, with what it finds on the stack
module _ (tables : Tables) (made : ℕ → Option Made) (own : ℕ) (here : Here) (cells : List Cell) (code : List Instr) (at : ℕ) (k : Keeps) (s : Stack) (q : Question) (work : IsWork q) (p : ℕ) (k' : Keeps) (s' : Stack) (e : silent tables.procedures tables.types made own here cells code at k s ≡ Work q p k' s') (top : Stack) (found : (st : Stack) → Found q st s' → st ≡ top) where
  abbrev asking : Asked tables made own here cells code q work p k' s'
  asking = walk_asks tables made own here cells code q work p k' s' (drop at code) 0 at k s refl e

  asks_so : act tables.procedures tables.types own here asking.instruction code p top ≡ Sees q s'
  asks_so =
      ap (λ x. act tables.procedures tables.types own here asking.instruction code p x) (sym (found asking.stack (act_finds tables own here asking.instruction code p asking.stack q s' work asking.asks))) ∙ asking.asks

  -- it comes to the same, whatever objects are known
  pub silent_at_work : (known : ℕ → Option Made) → silent tables.procedures tables.types known own here cells code p k' top ≡ Work q p k' s'
  silent_at_work known =
      ap (λ l. walk tables.procedures tables.types known own here cells code l 0 p k' top) asking.there
      ∙ ap (λ a. on_act tables.procedures tables.types known cells a (walk tables.procedures tables.types known own here cells code asking.rest) p k') asks_so
      ∙ ap (λ n. on_noted n q (walk tables.procedures tables.types known own here cells code asking.rest) p k' s') asking.visible

module _ (tables : Tables) (made : ℕ → Option Made) (own : ℕ) (here : Here) (cells : List Cell) (code : List Instr) (at : ℕ) (k : Keeps) (s : Stack) (v : Cell) (p : ℕ) (k' : Keeps) (s' : Stack) (e : silent tables.procedures tables.types made own here cells code at k s ≡ Work (Starts v) p k' s') where
  pub silent_at_start : (known : ℕ → Option Made) → silent tables.procedures tables.types known own here cells code p k' (v ∷ s') ≡ Work (Starts v) p k' s'
  silent_at_start = silent_at_work tables made own here cells code at k s (Starts v) tt p k' s' e (v ∷ s') (λ st h. h)

  abbrev started : Asked tables made own here cells code (Starts v) tt p k' s'
  started = asking tables made own here cells code at k s (Starts v) tt p k' s' e (v ∷ s') (λ st h. h)

  -- and the code goes on behind it
  pub run_at_start : run tables own here code p k' (v ∷ s') ≡ Asks (Starts v) (λ x. run tables own here code (p + 1) k' s')
  run_at_start =
      ap (λ l. runs tables own here code l 0 p k' (v ∷ s')) started.there
      ∙ ap (λ a. on_run tables a (runs tables own here code started.rest) p k') (asks_so tables made own here cells code at k s (Starts v) tt p k' s' e (v ∷ s') (λ st h. h))
      ∙ ap (λ l. Asks (Starts v) (λ x. runs tables own here code l 0 (p + 1) k' s')) (sym (drop_next p code started.instruction started.rest started.there))

-- so it does at the entry of a region, and at its end
module _ (tables : Tables) (made : ℕ → Option Made) (own : ℕ) (here : Here) (cells : List Cell) (code : List Instr) (at : ℕ) (k : Keeps) (s : Stack) (p : ℕ) (k' : Keeps) (s' : Stack) where
  pub silent_at_entry : silent tables.procedures tables.types made own here cells code at k s ≡ Work Enters p k' s' → (known : ℕ → Option Made) → silent tables.procedures tables.types known own here cells code p k' s' ≡ Work Enters p k' s'
  silent_at_entry e = silent_at_work tables made own here cells code at k s Enters tt p k' s' e s' (λ st h. h)

  pub silent_at_end : silent tables.procedures tables.types made own here cells code at k s ≡ Work Leaves p k' s' → (known : ℕ → Option Made) → silent tables.procedures tables.types known own here cells code p k' s' ≡ Work Leaves p k' s'
  silent_at_end e = silent_at_work tables made own here cells code at k s Leaves tt p k' s' e s' (λ st h. h)

-- and from there the code asks so
module _ (tables : Tables) (made : ℕ → Option Made) (own : ℕ) (here : Here) (cells : List Cell) (code : List Instr) (at : ℕ) (k : Keeps) (s : Stack) (p : ℕ) (k' : Keeps) (s' : Stack) where
  pub run_at_entry : silent tables.procedures tables.types made own here cells code at k s ≡ Work Enters p k' s' → run tables own here code p k' s' ≡ Asks Enters (λ x. run tables own here code (p + 1) k' s')
  run_at_entry e =
      let there = asking tables made own here cells code at k s Enters tt p k' s' e s' (λ st h. h) in
      ap (λ l. runs tables own here code l 0 p k' s') there.there
      ∙ ap (λ a. on_run tables a (runs tables own here code there.rest) p k') (asks_so tables made own here cells code at k s Enters tt p k' s' e s' (λ st h. h))
      ∙ ap (λ l. Asks Enters (λ x. runs tables own here code l 0 (p + 1) k' s')) (sym (drop_next p code there.instruction there.rest there.there))

  pub run_at_end : silent tables.procedures tables.types made own here cells code at k s ≡ Work Leaves p k' s' → run tables own here code p k' s' ≡ Asks Leaves (λ x. run tables own here code (p + 1) k' s')
  run_at_end e =
      let there = asking tables made own here cells code at k s Leaves tt p k' s' e s' (λ st h. h) in
      ap (λ l. runs tables own here code l 0 p k' s') there.there
      ∙ ap (λ a. on_run tables a (runs tables own here code there.rest) p k') (asks_so tables made own here cells code at k s Leaves tt p k' s' e s' (λ st h. h))
      ∙ ap (λ l. Asks Leaves (λ x. runs tables own here code l 0 (p + 1) k' s')) (sym (drop_next p code there.instruction there.rest there.there))

-- and at a condition that is awaited
module _ (tables : Tables) (made : ℕ → Option Made) (own : ℕ) (here : Here) (cells : List Cell) (code : List Instr) (at : ℕ) (k : Keeps) (s : Stack) (c : ℕ) (p : ℕ) (k' : Keeps) (s' : Stack) (e : silent tables.procedures tables.types made own here cells code at k s ≡ Work (Awaits c) p k' s') where
  pub silent_at_await : (known : ℕ → Option Made) → silent tables.procedures tables.types known own here cells code p k' s' ≡ Work (Awaits c) p k' s'
  silent_at_await = silent_at_work tables made own here cells code at k s (Awaits c) tt p k' s' e s' (λ st h. h)

  pub run_at_await : run tables own here code p k' s' ≡ Asks (Awaits c) (λ x. run tables own here code (p + 1) k' s')
  run_at_await =
      let there = asking tables made own here cells code at k s (Awaits c) tt p k' s' e s' (λ st h. h) in
      ap (λ l. runs tables own here code l 0 p k' s') there.there
      ∙ ap (λ a. on_run tables a (runs tables own here code there.rest) p k') (asks_so tables made own here cells code at k s (Awaits c) tt p k' s' e s' (λ st h. h))
      ∙ ap (λ l. Asks (Awaits c) (λ x. runs tables own here code l 0 (p + 1) k' s')) (sym (drop_next p code there.instruction there.rest there.there))
