-- What silent work over a sound body comes to, from operands that stand on a path; and that they never are more than its depth.
use Rattle.std.proofs.Common.{◌≡◌, ◌≤◌, ◌<◌, nat_eq, ℕ, zero, suc, pos, ◌+◌, List, [], ◌∷◌, ◌++◌, length, map, drop, true, Option, Some, None, slice_get, Bool, if◌then◌else◌, false, refl, sym, ap, ◌∙◌, subst, arith, eqb-true, length-append}
use Rattle.std.proofs.lemmas.List.{append-nil, length-map}
use Rattle.std.proofs.lemmas.Option.{slice_get_within}
use Rattle.aos_base.specs.declared.root.Root.TheVariants.{Frame as FrameRoot, Object as ObjectRoot}
use Rattle.aos_base.specs.declared.text.Pos.{Pos}
use Rattle.aos_base.specs.Question.{PutsNothing, Places, Lengths}
use Rattle.aos_base.specs.Rooted.{Made}
use Rattle.aos_code.specs.declared.instr.Cell.{Cell}
use Rattle.aos_code.specs.declared.instr.Cell.TheVariants.{Num, Ref, Call as CallCell, Place}
use Rattle.aos_code.specs.declared.instr.Kind.{Kind}
use Rattle.aos_code.specs.declared.instr.Kind.TheVariants.{N, R, C, A}
use Rattle.aos_code.specs.declared.instr.Instr.{Instr}
use Rattle.aos_code.specs.declared.instr.Instr.TheVariants as instr
use Rattle.aos_code.specs.declared.image.ProcShape.{ProcShape}
use Rattle.aos_code.specs.declared.image.TypeDesc.{TypeDesc}
use Rattle.aos_code.specs.declared.image.Image.{Image}
use Rattle.aos_code.specs.Numbered.{numbered}
use Rattle.aos_code.specs.Silent.{Here, same_formals, bound, stands_for, invoked, method_at, Invokes, AtSlot, Stack, Keeps, Question, Begins, Fails, Decides, Stop, Work, Act, Goes, Puts, Takes, Looks, Look, AtCell, AtElements, IsType, AsType, AsMethod, Sees, Stops, Ended, lost, is_of, act, noted, noted_as, on_noted, Noted, Visible, Answered, Unknown, Told, Tells, Refuses, Unheard, told_by, on_told, length_cells, extends, on_act, kept, walk, silent}
use Rattle.aos_sound.specs.declared.effect.Effect.{Effect}
use Rattle.aos_sound.specs.declared.effect.Effect.TheVariants.{Gives, Twice}
use Rattle.aos_sound.specs.Sound.{Kinds, row, effect_of, next_of, left_by, Leads, after, Goes as PathGoes, ArePathsSound}
use Rattle.aos_sound.specs.declared.effect.Next.TheVariants.{On}
use Rattle.aos_sound.specs.Sound as sound
use Rattle.aos_sound.specs.Fits.{AreOf, KeepsToPaths, gives_more, result_of, told_kinds, StandsOn, StandsGiven, StandsTold, StandsLooked, StandsAfter, StandsAsked, StandsBegun, StandsStopped}
use Rattle.aos_sound.proofs.FitsOperands.{second_is, formals_result, are_length, row_is}
use Rattle.aos_sound.proofs.FitsSteps.{step_stands}

drop_next : {X : Type 0} (at : ℕ) (xs : List X) (x : X) (rest : List X) → drop at xs ≡ x ∷ rest → (slice_get xs at ≡ Some x) × (drop (at + 1) xs ≡ rest)
drop_next zero [] x rest e = absurd (cc e)
drop_next zero (y ∷ xs) x rest e = (cc, cc)
drop_next (suc at) [] x rest e = absurd (cc e)
drop_next (suc at) (y ∷ xs) x rest e =
    let n : suc at + 1 ≡ suc (at + 1) = omega arith in
    let w = drop_next at xs x rest e in
    (w.0, ap (λ m. drop m (y ∷ xs)) n ∙ w.1)

-- a value of each kind
one : Kind → Cell
one N = Num (pos 0)
one R = Ref 0
one C = CallCell 0 0
one A = Place (FrameRoot 0) 0 0

-- What an object tells is of its kinds, and only where it's called by a slot a method is called, which gives what the one gives for
-- which it stands.
abbrev pub HeardSo : List ProcShape → Look → Told → Type 0
HeardSo shapes (AtSlot k p vs) (Tells ws) = ⊥
HeardSo shapes (AtSlot k p vs) (Invokes q ws) = result_of (numbered shapes p) ≡ result_of (numbered shapes q)
HeardSo shapes (AtSlot k p vs) told = Unit {0}
HeardSo shapes l (Tells vs) = AreOf (told_kinds l) vs
HeardSo shapes l (Invokes q ws) = ⊥
HeardSo shapes l told = Unit {0}

stands_result : (f g : Option ProcShape) → stands_for f g ≡ true → result_of g ≡ result_of f
stands_result (Some f) (Some g) e = formals_result f g (second_is f.method (same_formals f g) e)
stands_result (Some f) None e = absurd (cc e)
stands_result None g e = absurd (cc e)

invoked_so : (shapes : List ProcShape) (k p : ℕ) (q : Option ℕ) (o : ℕ) (vs : List Cell) → HeardSo shapes (AtSlot k p vs) (invoked shapes p q o vs)
invoked_so shapes k p None o vs = tt
invoked_so shapes k p (Some q) o vs = by (stands_for (numbered shapes q) (numbered shapes p)) refl
  where
    by : (b : Bool) → stands_for (numbered shapes q) (numbered shapes p) ≡ b → HeardSo shapes (AtSlot k p vs) (if b then Invokes q (Ref o ∷ vs) else Unheard)
    by true e = stands_result (numbered shapes q) (numbered shapes p) e
    by false e = tt

pub heard_so : (shapes : List ProcShape) (types : List TypeDesc) (l : Look) (o : ℕ) (m : Option Made) → HeardSo shapes l (told_by shapes types l o m)
heard_so shapes types (AtCell c) o None = tt
heard_so shapes types (AtElements j) o None = tt
heard_so shapes types (IsType t) o None = tt
heard_so shapes types (AsType t) o None = tt
heard_so shapes types (AsMethod k) o None = tt
heard_so shapes types (AtSlot k p vs) o None = tt
heard_so shapes types (AtCell c) o (Some m) = (refl, tt)
heard_so shapes types (AtElements j) o (Some m) = by (nat_eq j (length m.lengths)) refl
  where
    there : (n : ℕ) (vs : List Cell) → n ≡ j → AreOf (row n ++ []) vs → AreOf (row j) vs
    there n vs f are = subst (λ ks. AreOf ks vs) (append-nil (row n) ∙ ap row f) are

    by : (b : Bool) → nat_eq j (length m.lengths) ≡ b → HeardSo shapes (AtElements j) (if b then Tells (length_cells m.lengths ++ Place (ObjectRoot o) 0 0 ∷ []) else Unheard)
    by true same =
        let v : Cell = Place (ObjectRoot o) 0 0 in
        there (length m.lengths) (length_cells m.lengths ++ v ∷ []) (sym (eqb-true j (length m.lengths) same)) (row_is m.lengths [] v [] refl tt)
    by false same = tt
heard_so shapes types (IsType t) o (Some m) = (refl, tt)
heard_so shapes types (AsType t) o (Some m) = by (extends types m.type t)
  where
    by : (b : Bool) → HeardSo shapes (AsType t) (if b then Tells (Ref o ∷ []) else Refuses 3)
    by true = (refl, tt)
    by false = tt
heard_so shapes types (AsMethod k) o (Some m) = by (method_at types m.type k)
  where
    by : (q : Option ℕ) → HeardSo shapes (AsMethod k) (bound q o)
    by None = tt
    by (Some q) = (refl, tt)
heard_so shapes types (AtSlot k p vs) o (Some m) = invoked_so shapes k p (method_at types m.type k) o vs

module _ (image : Image) (own : ℕ) (code : List Instr) (depth : ℕ) (paths : ArePathsSound image own code depth) where
  -- a path stays within the code
  within : (at : ℕ) (stack : Stack) → StandsOn image own code at stack → at < length code
  within at stack st = let f = paths.find at st.0 st.1 in slice_get_within code at f.instr f.stands

  -- they are no more than the depth
  pub room : (at : ℕ) (stack : Stack) → StandsOn image own code at stack → length stack ≤ depth
  room at stack st =
      let l = are_length st.0 stack st.2 in
      let f = paths.few at st.0 st.1 in
      omega (arith, l, f)

  -- code goes on behind what gives an operand more
  more_on : (i : Instr) → gives_more (effect_of i) ≡ true → next_of i ≡ On
  more_on (instr.Fail n) e = absurd (cc e)
  more_on (instr.Halt n) e = absurd (cc e)
  more_on instr.Return e = absurd (cc e)
  more_on instr.Verdict e = absurd (cc e)
  more_on (instr.Jump to) e = absurd (cc e)
  more_on (instr.JumpFalse to) e = absurd (cc e)
  more_on i e = refl

  -- and leaves one more than it finds
  more_left : (i : Instr) (s t : Kinds) → gives_more (effect_of i) ≡ true → after image own i s ≡ Some t → length t ≡ suc (length s)
  more_left i s t m e = by (effect_of i) s m e
    where
      by : (f : Effect) (s : Kinds) → gives_more f ≡ true → left_by image own f s ≡ Some t → length t ≡ suc (length s)
      by (Gives k) s m e = let z : k ∷ s ≡ t = cc in ap length (sym z)
      by Twice [] m e = absurd (cc e)
      by Twice (k ∷ s) m e = let z : k ∷ k ∷ s ≡ t = cc in ap length (sym z)
      by f s m e = absurd (cc m)

  -- there is room for the one that an instruction gives
  pub room_more : (at : ℕ) (i : Instr) (stack : Stack) → slice_get code at ≡ Some i → StandsOn image own code at stack → gives_more (effect_of i) ≡ true → suc (length stack) ≤ depth
  room_more at i stack is st m =
      let f = paths.find at st.0 st.1 in
      let z : Some f.instr ≡ Some i = sym f.stands ∙ is in
      let y : f.instr ≡ i = cc in
      let e : after image own i st.0 ≡ Some f.left = subst (λ x. after image own x st.0 ≡ Some f.left) y f.finds in
      let l = subst (λ n. Leads n at (at + 1)) (sym (more_on i m)) refl in
      let g = paths.few (at + 1) f.left (PathGoes st.1 i is f.left e (at + 1) l) in
      let h = more_left i st.0 f.left m e in
      let j = are_length st.0 stack st.2 in
      omega (arith, g, h, j)

  one_of : (k : Kind) → is_of k (one k) ≡ true
  unfolding one
  one_of N = refl
  one_of R = refl
  one_of C = refl
  one_of A = refl

  ones_of : (ks : Kinds) → AreOf ks (map one ks)
  ones_of [] = tt
  ones_of (k ∷ ks) = (one_of k, ones_of ks)

  pub room_told : (at : ℕ) (ks : Kinds) (stack : Stack) → StandsTold image own code ks at stack → length ks + length stack ≤ depth
  room_told at ks stack st =
      let l = room at (map one ks ++ stack) (st (map one ks) (ones_of ks)) in
      let a = length-append (map one ks) stack in
      let b = length-map ks one in
      omega (arith, l, a, b)

  pub room_given : (at : ℕ) (k : Kind) (stack : Stack) → StandsGiven image own code (Some k) at stack → suc (length stack) ≤ depth
  room_given at k stack st = room at (one k ∷ stack) (st (one k) (one_of k))

  module _ (here : Here) (made : ℕ → Option Made) (cells : List Cell) where
    -- what silent work does next
    noted_stands : (k : Kind) (o : Option Cell) (q : Question) (next : ℕ → ℕ → Keeps → Stack → Stop) (at : ℕ) (keeps : Keeps) (stack : Stack) →
        StandsGiven image own code (Some k) (at + 1) stack → ((s : Stack) → StandsOn image own code (at + 1) s → StandsStopped image own code (next 0 (at + 1) keeps s)) →
        StandsStopped image own code (on_noted (noted_as k o) q next at keeps stack)
    noted_stands k None q next at keeps stack st go = tt
    noted_stands k (Some v) q next at keeps stack st go = by (is_of k v) refl
      where
        by : (b : Bool) → is_of k v ≡ b → StandsStopped image own code (on_noted (if b then Answered v else Unknown) q next at keeps stack)
        by true e = go (v ∷ stack) (st v e)
        by false e = tt

    asked_stands : (q : Question) (next : ℕ → ℕ → Keeps → Stack → Stop) (at : ℕ) (keeps : Keeps) (stack : Stack) →
        StandsAsked image own code q at stack → ((s : Stack) → StandsOn image own code (at + 1) s → StandsStopped image own code (next 0 (at + 1) keeps s)) →
        StandsStopped image own code (on_noted (noted cells q) q next at keeps stack)
    asked_stands (Places a) next at keeps stack st go = noted_stands A (slice_get cells a.cell) (Places a) next at keeps stack st go
    asked_stands (Lengths a) next at keeps stack st go = noted_stands N (slice_get cells a.cell) (Lengths a) next at keeps stack st go
    asked_stands q next at keeps stack st go = st

    heard_stands : (l : Look) (r : Told) (next : ℕ → ℕ → Keeps → Stack → Stop) (at : ℕ) (keeps : Keeps) (stack : Stack) →
        HeardSo image.shapes.items l r → StandsLooked image own code l (at + 1) stack → ((s : Stack) → StandsOn image own code (at + 1) s → StandsStopped image own code (next 0 (at + 1) keeps s)) →
        StandsStopped image own code (on_told r next at keeps stack)
    heard_stands l (Refuses n) next at keeps stack h st go = tt
    heard_stands l Unheard next at keeps stack h st go = tt
    heard_stands (AtSlot k p vs) (Tells ws) next at keeps stack h st go = absurd h
    heard_stands (AtSlot k p vs) (Invokes q ws) next at keeps stack h st go = subst (λ r. StandsGiven image own code r (at + 1) stack) h st
    heard_stands l (Tells vs) next at keeps stack h st go = go (vs ++ stack) (st vs h)
    heard_stands l (Invokes q ws) next at keeps stack h st go = absurd h

    act_stands : (a : Act) (next : ℕ → ℕ → Keeps → Stack → Stop) (at : ℕ) (keeps : Keeps) →
        StandsAfter image own code at a → ((over : ℕ) (k : Keeps) (s : Stack) → StandsOn image own code (at + 1 + over) s → StandsStopped image own code (next over (at + 1) k s)) →
        StandsStopped image own code (on_act image.shapes.items image.types.items made cells a next at keeps)
    act_stands (Goes over s) next at keeps st go = go over keeps s st
    act_stands (Puts c v s) next at keeps st go = go 0 (kept c v keeps) s (let z : at + 1 ≡ at + 1 + 0 = omega arith in subst (λ p. StandsOn image own code p s) z st)
    act_stands (Takes c k s) next at keeps st go = by (is_of k (keeps c)) refl
      where
        by : (b : Bool) → is_of k (keeps c) ≡ b → StandsStopped image own code (if b then next 0 (at + 1) keeps (keeps c ∷ s) else Ended lost keeps)
        by true e = go 0 keeps (keeps c ∷ s) (let z : at + 1 ≡ at + 1 + 0 = omega arith in subst (λ p. StandsOn image own code p (keeps c ∷ s)) z (st (keeps c) e))
        by false e = tt
    act_stands (Looks l o s) next at keeps st go =
        heard_stands l (told_by image.shapes.items image.types.items l o (made o)) next at keeps s (heard_so image.shapes.items image.types.items l o (made o)) st
        (λ s1 st1. go 0 keeps s1 (let z : at + 1 ≡ at + 1 + 0 = omega arith in subst (λ p. StandsOn image own code p s1) z st1))
    act_stands (Sees q s) next at keeps st go = asked_stands q next at keeps s st (λ s1 st1. go 0 keeps s1 (let z : at + 1 ≡ at + 1 + 0 = omega arith in subst (λ p. StandsOn image own code p s1) z st1))
    act_stands (Stops (Begins to p s)) next at keeps st go = st
    act_stands (Stops (Fails n c)) next at keeps st go = tt
    act_stands (Stops (Decides a)) next at keeps st go = tt

    pub walk_stands : (rest : List Instr) (over at : ℕ) (keeps : Keeps) (stack : Stack) → drop at code ≡ rest → StandsOn image own code (at + over) stack → StandsStopped image own code (walk image.shapes.items image.types.items made own here cells code rest over at keeps stack)
    walk_stands [] over at keeps stack d st = tt
    walk_stands (i ∷ rest) zero at keeps stack d st =
        let w = drop_next at code i rest d in
        let z : at + zero ≡ at = omega arith in
        act_stands (act image.shapes.items image.types.items own here i code at stack) (walk image.shapes.items image.types.items made own here cells code rest) at keeps
        (step_stands image own code here at depth paths i stack w.0 (subst (λ p. StandsOn image own code p stack) z st))
        (λ over k s st1. walk_stands rest over (at + 1) k s w.1 st1)
    walk_stands (i ∷ rest) (suc n) at keeps stack d st =
        let w = drop_next at code i rest d in
        let z : at + suc n ≡ at + 1 + n = omega arith in
        walk_stands rest n (at + 1) keeps stack w.1 (subst (λ p. StandsOn image own code p stack) z st)

    -- silent work from a place of a path
    pub silent_stands : (at : ℕ) (keeps : Keeps) (stack : Stack) → StandsOn image own code at stack → StandsStopped image own code (silent image.shapes.items image.types.items made own here cells code at keeps stack)
    silent_stands at keeps stack st = let z : at ≡ at + 0 = omega arith in walk_stands (drop at code) 0 at keeps stack refl (subst (λ p. StandsOn image own code p stack) z st)

    -- a stop that tells where silent work goes on, and with which operands
    told : ℕ → ℕ → Keeps → Stack → Stop
    told over at keeps stack = Work PutsNothing (at + over) keeps stack

    told_same : (at over place : ℕ) (k l : Keeps) (s t : Stack) → StandsOn image own code place s → place ≡ at + 1 → told 0 (at + 1) k s ≡ told over (at + 1) l t → StandsOn image own code (at + 1 + over) t
    unfolding told
    told_same at over place k l s t st p e =
        let x : at + 1 + 0 ≡ at + 1 + over = cc in
        let y : s ≡ t = cc in
        let z : place ≡ at + 1 + over = omega (arith, x, p) in
        subst (λ u. StandsOn image own code (at + 1 + over) u) y (subst (λ u. StandsOn image own code u s) z st)

    noted_goes : (k : Kind) (o : Option Cell) (q : Question) (at over : ℕ) (keeps l : Keeps) (stack t : Stack) → StandsGiven image own code (Some k) (at + 1) stack →
        on_noted (noted_as k o) q told at keeps stack ≡ told over (at + 1) l t → StandsOn image own code (at + 1 + over) t
    unfolding told
    noted_goes k None q at over keeps l stack t st e = absurd (cc e)
    noted_goes k (Some v) q at over keeps l stack t st e = by (is_of k v) refl e
      where
        by : (b : Bool) → is_of k v ≡ b → on_noted (if b then Answered v else Unknown) q told at keeps stack ≡ told over (at + 1) l t → StandsOn image own code (at + 1 + over) t
        by true f g = told_same at over (at + 1) keeps l (v ∷ stack) t (st v f) refl g
        by false f g = absurd (cc g)

    asked_goes : (q : Question) (at over : ℕ) (keeps l : Keeps) (stack t : Stack) → StandsAsked image own code q at stack →
        on_noted (noted cells q) q told at keeps stack ≡ told over (at + 1) l t → StandsOn image own code (at + 1 + over) t
    unfolding told
    asked_goes (Places a) at over keeps l stack t st e = noted_goes A (slice_get cells a.cell) (Places a) at over keeps l stack t st e
    asked_goes (Lengths a) at over keeps l stack t st e = noted_goes N (slice_get cells a.cell) (Lengths a) at over keeps l stack t st e
    asked_goes q at over keeps l stack t st e = let x : at ≡ at + 1 + over = cc in absurd (omega (arith, x))

    heard_goes : (k : Look) (r : Told) (at over : ℕ) (keeps l : Keeps) (stack t : Stack) → HeardSo image.shapes.items k r → StandsLooked image own code k (at + 1) stack →
        on_told r told at keeps stack ≡ told over (at + 1) l t → StandsOn image own code (at + 1 + over) t
    unfolding told
    heard_goes k (Refuses n) at over keeps l stack t h st e = absurd (cc e)
    heard_goes k Unheard at over keeps l stack t h st e = absurd (cc e)
    heard_goes k (Invokes q ws) at over keeps l stack t h st e = absurd (cc e)
    heard_goes (AtSlot j p vs) (Tells ws) at over keeps l stack t h st e = absurd h
    heard_goes k (Tells vs) at over keeps l stack t h st e = told_same at over (at + 1) keeps l (vs ++ stack) t (st vs h) refl e

    act_goes : (a : Act) (at over : ℕ) (keeps l : Keeps) (t : Stack) → StandsAfter image own code at a → on_act image.shapes.items image.types.items made cells a told at keeps ≡ told over (at + 1) l t → StandsOn image own code (at + 1 + over) t
    unfolding told
    act_goes (Goes o s) at over keeps l t st e =
        let x : at + 1 + o ≡ at + 1 + over = cc in
        let y : s ≡ t = cc in
        subst (λ u. StandsOn image own code (at + 1 + over) u) y (subst (λ u. StandsOn image own code u s) x st)
    act_goes (Puts c v s) at over keeps l t st e = told_same at over (at + 1) (kept c v keeps) l s t st refl e
    act_goes (Takes c k s) at over keeps l t st e = by (is_of k (keeps c)) refl e
      where
        by : (b : Bool) → is_of k (keeps c) ≡ b → (if b then told 0 (at + 1) keeps (keeps c ∷ s) else Ended lost keeps) ≡ told over (at + 1) l t → StandsOn image own code (at + 1 + over) t
        by true f g = told_same at over (at + 1) keeps l (keeps c ∷ s) t (st (keeps c) f) refl g
        by false f g = absurd (cc g)
    act_goes (Looks k o s) at over keeps l t st e = heard_goes k (told_by image.shapes.items image.types.items k o (made o)) at over keeps l s t (heard_so image.shapes.items image.types.items k o (made o)) st e
    act_goes (Sees q s) at over keeps l t st e = asked_goes q at over keeps l s t st e
    act_goes (Stops end) at over keeps l t st e = absurd (cc e)

    -- where silent work goes on after an instruction, whatever follows
    pub goes_stands : (at : ℕ) (i : Instr) (keeps : Keeps) (stack : Stack) → slice_get code at ≡ Some i → StandsOn image own code at stack → (over : ℕ) (l : Keeps) (t : Stack) →
        ((next : ℕ → ℕ → Keeps → Stack → Stop) → on_act image.shapes.items image.types.items made cells (act image.shapes.items image.types.items own here i code at stack) next at keeps ≡ next over (at + 1) l t) → StandsOn image own code (at + 1 + over) t
    goes_stands at i keeps stack is st over l t h = act_goes (act image.shapes.items image.types.items own here i code at stack) at over keeps l t (step_stands image own code here at depth paths i stack is st) (h told)

    -- and where it ends at a Begin
    noted_begins : (o : Noted) (q : Question) (at : ℕ) (keeps l : Keeps) (stack t : Stack) (to : ℕ) (p : Pos) → on_noted o q told at keeps stack ≡ Ended (Begins to p t) l → ⊥
    unfolding told
    noted_begins Visible q at keeps l stack t to p e = cc e
    noted_begins (Answered v) q at keeps l stack t to p e = cc e
    noted_begins Unknown q at keeps l stack t to p e = cc e

    heard_begins : (r : Told) (at : ℕ) (keeps l : Keeps) (stack t : Stack) (to : ℕ) (p : Pos) → on_told r told at keeps stack ≡ Ended (Begins to p t) l → ⊥
    unfolding told
    heard_begins (Tells vs) at keeps l stack t to p e = cc e
    heard_begins (Refuses n) at keeps l stack t to p e = cc e
    heard_begins (Invokes q vs) at keeps l stack t to p e = cc e
    heard_begins Unheard at keeps l stack t to p e = cc e

    act_begins : (a : Act) (at : ℕ) (keeps l : Keeps) (t : Stack) (to : ℕ) (p : Pos) → StandsAfter image own code at a → on_act image.shapes.items image.types.items made cells a told at keeps ≡ Ended (Begins to p t) l → StandsBegun image own code to t
    unfolding told
    act_begins (Goes o s) at keeps l t to p st e = absurd (cc e)
    act_begins (Puts c v s) at keeps l t to p st e = absurd (cc e)
    act_begins (Takes c k s) at keeps l t to p st e = by (is_of k (keeps c)) e
      where
        by : (b : Bool) → (if b then told 0 (at + 1) keeps (keeps c ∷ s) else Ended lost keeps) ≡ Ended (Begins to p t) l → StandsBegun image own code to t
        by true g = absurd (cc g)
        by false g = absurd (cc g)
    act_begins (Looks k o s) at keeps l t to p st e = absurd (heard_begins (told_by image.shapes.items image.types.items k o (made o)) at keeps l s t to p e)
    act_begins (Sees q s) at keeps l t to p st e = absurd (noted_begins (noted cells q) q at keeps l s t to p e)
    act_begins (Stops (Begins x q s)) at keeps l t to p st e =
        let y : x ≡ to = cc in
        let z : s ≡ t = cc in
        subst (λ u. StandsBegun image own code to u) z (subst (λ u. StandsBegun image own code u s) y st)
    act_begins (Stops (Fails n c)) at keeps l t to p st e = absurd (cc e)
    act_begins (Stops (Decides a)) at keeps l t to p st e = absurd (cc e)

    pub begins_stands : (at : ℕ) (i : Instr) (keeps : Keeps) (stack : Stack) → slice_get code at ≡ Some i → StandsOn image own code at stack → (to : ℕ) (p : Pos) (l : Keeps) (t : Stack) →
        ((next : ℕ → ℕ → Keeps → Stack → Stop) → on_act image.shapes.items image.types.items made cells (act image.shapes.items image.types.items own here i code at stack) next at keeps ≡ Ended (Begins to p t) l) → StandsBegun image own code to t
    begins_stands at i keeps stack is st to p l t h = act_begins (act image.shapes.items image.types.items own here i code at stack) at keeps l t to p (step_stands image own code here at depth paths i stack is st) (h told)

  pub keeps_to_paths : KeepsToPaths image own code depth
  keeps_to_paths =
      record {
        begins = ([], sound.Begins, tt);
        step = λ here at i stack is st. step_stands image own code here at depth paths i stack is st;
        goes = λ here made cells. goes_stands here made cells;
        begun = λ here made cells. begins_stands here made cells;
        walk = λ here made cells. walk_stands here made cells;
        work = λ here made cells. silent_stands here made cells;
        within = within;
        room = room;
        told = room_told;
        more = room_more;
        given = room_given;
      }
