-- Turns that are made in place, on the topmost frame.
use Rattle.std.proofs.Common.{◌≡◌, ◌<◌, ◌≤◌, ◌+◌, ◌-◌, ◌%◌, ◌^◌, ℕ, ℤ, zero, suc, List, [], ◌∷◌, ◌++◌, map, length, drop, reverse, get_or, slice_set, replicate, inl, inr, refl, sym, ap, ◌∙◌, subst, arith, min}
use Rattle.std.specs.Prelude.{Bool, true, false, Option, Some, None, pos, slice_get, nat_eq, is_some, IfSome, if◌then◌else◌}
use Rattle.std.specs.Option.{option_and_then}
use Rattle.std.proofs.lemmas.Bool.{lt-ltb}
use Rattle.std.proofs.lemmas.Bool.Decides.{leb_tells, eqb_tells}
use Rattle.std.proofs.lemmas.List.{append-nil, length-map, length-replicate}
use Rattle.std.proofs.lemmas.Option.{slice_get-get_or}
use Rattle.aos_base.specs.declared.text.Pos.{Pos}
use Rattle.aos_base.specs.declared.number.Relation.{Relation}
use Rattle.aos_base.specs.Number.{holds}
use Rattle.aos_base.specs.Operators.{binary, flag}
use Rattle.aos_base.specs.declared.operator.Binary.{Binary}
use Rattle.aos_base.specs.declared.operator.Binary.TheVariants.{Cmp}
use Rattle.aos_base.specs.declared.operator.Given.{Given}
use Rattle.aos_base.specs.declared.operator.Given.TheVariants.{Number}
use Rattle.aos_base.specs.declared.root.Root.{Root}
use Rattle.aos_base.specs.declared.root.Root.TheVariants.{Frame as FrameRoot, Module as ModuleRoot, Object as ObjectRoot}
use Rattle.aos_base.specs.declared.kernel.Did.{Did}
use Rattle.aos_base.specs.declared.kernel.Did.TheVariants.{Went, Ended as NoFrame, Enter, Leave, Await, Start, Trapped}
use Rattle.aos_base.specs.Question.{Reads, Stores}
use Rattle.aos_base.specs.Rooted.{Made as MadeAs, load, at_root, by_number, spliced, from_last, change_from_last}
use Rattle.aos_code.specs.declared.instr.Cell.{Cell}
use Rattle.aos_code.specs.declared.instr.Cell.TheVariants.{Num as NumCell, Ref, Call as CallCell, Place}
use Rattle.aos_code.specs.declared.instr.Kind.{Kind}
use Rattle.aos_code.specs.declared.instr.Instr.{Instr}
use Rattle.aos_code.specs.declared.instr.Instr.TheVariants.{Num, Load, Store, JumpFalse, Binary as OnTwo}
use Rattle.aos_code.specs.declared.image.Image.{Image}
use Rattle.aos_code.specs.Memory.{Memory}
use Rattle.aos_code.specs.Silent.{Stack, Act, given, jumps_on_false, lands, Stop, Work, Ended, Begins, Sees, Stops, lost, gives, gives_self, is_of, on_place, on_numbers, Goes, on_act, stores, act, walk, silent}
use Rattle.aos_code.specs.Machine.{asker, Frame, Frames, Turned, rooted, frames_with, memory_with, turn, code_of, made_in, stop_of, goes, reads, writes, goes_on, leaves, behind, opened}
use Rattle.aos_code.specs.Numbered.{numbered}
use Rattle.aos_sound.specs.Fits.{KeepsToPaths, StandsOn, StandsStopped, result_of}
use Rattle.aos_sound.specs.FitFrames.{IsSoundImage, HasBody, FitFor, FramesFit, depth_of}
use Rattle.aos_sound.proofs.FitsWalks.{keeps_to_paths}
use Rattle.aos_sound.proofs.FitsFrames.{paths_of, stop_stands, goes_fits}
use Rattle.aos_store.specs.declared.frames.Frame.{Frame as KeptFrame}
use Rattle.aos_store.specs.declared.frames.Frames.{Frames as KeptFrames}
use Rattle.aos_store.specs.declared.cells.Change.TheVariants.{Sets}
use Rattle.aos_store.specs.Store.{frame_in, list_in, frames_in, fits, fits_in, changed, with_cells}
use Rattle.aos_store.specs.Room.{HasMoreRoom, AreRoomyFor}
use Rattle.aos_store.proofs.Lists.{there_is}
use Rattle.aos_store.proofs.Rooms.{roomy_set}
use Rattle.aos_silent_steps.specs.declared.act.Act.{Act as KeptAct}
use Rattle.aos_silent_steps.specs.declared.act.Act.TheVariants.{Goes as GoesOn, Sees as Asks, Begins as BeginsAt, Fails as FailsWith, Decides as DecidesWith}
use Rattle.aos_silent_steps.specs.declared.act.Address.{Address}
use Rattle.aos_silent_steps.specs.declared.act.Question.{Question}
use Rattle.aos_silent_steps.specs.declared.silent.Stop.TheVariants.{Work as AtWork}
use Rattle.aos_silent_steps.specs.Acts.{address_in, number_in, kind_in, addr_in, question_in, operands_of, WhereStays}
use Rattle.aos_silent_steps.specs.Known.{Knows}
use Rattle.aos_silent_steps.specs.Steps.{IsStepOf, after}
use Rattle.aos_silent_steps.specs.Silent.{Seen, here_at, silent_at, seen_at, seen_with}
use Rattle.aos_silent_steps.specs.Room.{keeps_for, FitInRoom}
use Rattle.aos_silent_steps.proofs.Stepped.{stepped_of}
use Rattle.aos_silent_steps.proofs.Walks.{acts, seen_on}
use Rattle.aos_cpu.specs.Turns.{SeenFrames, Alike, seen_frames, counted, StandsAtStop, Shown, IsTurned, Rests, WhereLeft}
use Rattle.aos_cpu.specs.Private.{no_memory, made_by, is_of_frame, is_own_stop, alone, IsPrivate, after_turns, begun_after, IsMadePrivately, turns_since}
use Rattle.aos_cpu.specs.InPlace.{on_top, FitsSo, IsSet, HasSet, TurnsTo, HasTurnedTop, HasWorked, HasRunTop, StopsAsking, HasTriedTop, IsAlikeStill, HasTriedInPlace}
use Rattle.aos_cpu.specs.declared.in_place.Tried.{Tried}
use Rattle.aos_cpu.specs.declared.in_place.Tried.TheVariants.{Turned as MadeTurn, Asks as AsksAt, Nothing as MadeNone}
use Rattle.aos_cpu.specs.Many.{Reached, after_many, RunsOn, HasRunOn, HasRunMany}
use Rattle.aos_cpu.proofs.Turns.{itself, after_turn, alike_both, some_same, list_top, list_set, all_but_top, rest_length, turn_alike}
use Rattle.aos_cpu.proofs.Own.{none_here, no_number, nothing_made, own_turned, own_store, at_or_below, told, AllTold}

-- Cells of the topmost frame.

same_number : (a b : ℕ) → a ≡ b → nat_eq a b ≡ true
same_number a b e = elim (eqb_tells a b) [ inl p ↦ p.0 | inr p ↦ absurd (p.1 e) ]

top_place : (here : ℕ) (rest : List Frame) → length rest ≡ here → nat_eq here (length (map (λ (f : Frame). f.cells) rest)) ≡ true
top_place here rest e = same_number here _ (sym (length-map rest (λ (f : Frame). f.cells) ∙ e))

load_own : (here c : ℕ) (f : Frame) (rest : List Frame) (mem : Memory) → length rest ≡ here → load (FrameRoot here) c (rooted (f ∷ rest) mem) ≡ slice_get f.cells c
load_own here c f rest mem e =
    ap (λ b. option_and_then (λ cells. slice_get cells c) (if b then Some f.cells else from_last here (map (λ (x : Frame). x.cells) rest))) (top_place here rest e)

change_own : (here : ℕ) (g : Frame → Frame) (f : Frame) (rest : List Frame) → length rest ≡ here → change_from_last here g (f ∷ rest) ≡ g f ∷ rest
change_own here g f rest e = ap (λ b. if b then g f ∷ rest else f ∷ change_from_last here g rest) (same_number here (length rest) (sym e))

-- a cell that isn't in a frame below
pub near_found : (r : Option Cell) (root : Root) (here c : ℕ) (f : Frame) (mem : Memory) → ((rest : List Frame) → length rest ≡ here → r ≡ load root c (rooted (f ∷ rest) mem)) →
    IfSome r (λ v. (rest : List Frame) → length rest ≡ here → load root c (rooted (f ∷ rest) mem) ≡ Some v)
near_found None root here c f mem h = tt
near_found (Some v) root here c f mem h = λ rest len. sym (h rest len)

pub own_found : (root : Root) (here c : ℕ) (f : Frame) (mem : Memory) (rest : List Frame) → root ≡ FrameRoot here → length rest ≡ here → load root c (rooted (f ∷ rest) mem) ≡ slice_get f.cells c
own_found root here c f mem rest is len = ap (λ r. load r c (rooted (f ∷ rest) mem)) is ∙ load_own here c f rest mem len

fits_there : (c : ℕ) (v : Cell) (o : Option (List Cell)) → fits_in (Sets c v) o ≡ is_some (option_and_then (λ cells. slice_get cells c) o)
fits_there c v None = refl
fits_there c v (Some cells) = there_is cells c

pub set_own : (b : Bool) (root : Root) (here c : ℕ) (v : Cell) (mem : Memory) (f g : Frame) → root ≡ FrameRoot here → b ≡ fits (Sets c v) (length f.cells) → g ≡ (if b then with_cells (changed (Sets c v)) f else f) → HasSet here b root c v mem mem f g
set_own true root here c v mem f g is there e =
    record {
      there = λ rest len. ap is_some (own_found root here c f mem rest is len) ∙ sym (there_is f.cells c) ∙ sym there;
      frames = λ rest len n s.
          ap (λ r. frames_with r (spliced c (v ∷ [])) (record f { next = n; stack = s } ∷ rest)) is
          ∙ change_own here (λ (x : Frame). record x { cells = spliced c (v ∷ []) x.cells }) (record f { next = n; stack = s }) rest len
          ∙ ap (λ (x : Frame). record x { next = n; stack = s } ∷ rest) (sym e);
      memory = ap (λ r. memory_with r (spliced c (v ∷ [])) mem) (sym is);
      others = e ∙ ap (λ (x : Frame). record f { cells = x.cells }) (sym e);
    }
set_own false root here c v mem f g is there e = (e, refl)

pub set_elsewhere : (b : Bool) (root : Root) (here c : ℕ) (v : Cell) (mem now : Memory) (f : Frame) → is_of_frame root ≡ false → b ≡ fits_in (Sets c v) (at_root root (rooted [] mem)) →
    now ≡ (if b then memory_with root (changed (Sets c v)) mem else mem) → HasSet here b root c v mem now f f
set_elsewhere b (FrameRoot d) here c v mem now f other there e = absurd (cc other)
set_elsewhere true (ModuleRoot m) here c v mem now f other there e =
    record { there = λ rest len. sym (fits_there c v (slice_get mem.modules m)) ∙ sym there; frames = λ rest len n s. refl; memory = e; others = refl }
set_elsewhere false (ModuleRoot m) here c v mem now f other there e = (refl, e)
set_elsewhere true (ObjectRoot o) here c v mem now f other there e =
    record { there = λ rest len. sym (fits_there c v (by_number o mem.objects)) ∙ sym there; frames = λ rest len n s. refl; memory = e; others = refl }
set_elsewhere false (ObjectRoot o) here c v mem now f other there e = (refl, e)

-- without memory there are cells in frames alone
is_none : {A : Type 0} (o : Option A) → o ≡ None → is_some o ≡ true → ⊥
is_none o e there = (let z : false ≡ true = ap is_some (sym e) ∙ there in absurd (cc z))

in_frames : (root : Root) (c : ℕ) (f : Frame) (rest : List Frame) (mem : Memory) → is_some (load root c (rooted (f ∷ rest) mem)) ≡ true → mem ≡ no_memory → is_of_frame root ≡ true
in_frames (FrameRoot d) c f rest mem there e = refl
in_frames (ModuleRoot m) c f rest mem there e =
    absurd (is_none _ (ap (λ (x : Memory). option_and_then (λ cells. slice_get cells c) (slice_get x.modules m)) e ∙ ap (option_and_then (λ cells. slice_get cells c)) (none_here m)) there)
in_frames (ObjectRoot o) c f rest mem there e =
    absurd (is_none _ (ap (λ (x : Memory). option_and_then (λ cells. slice_get cells c) (by_number o x.objects)) e ∙ ap (option_and_then (λ cells. slice_get cells c)) (no_number o)) there)

-- What reads and stores ask for.

read_asks : (kind : Kind) (s : Stack) (p : Address) → address_in (slice_get s 0) ≡ Some p → on_place (λ a t s'. Sees (Reads kind a) s') s ≡ Sees (Reads kind (addr_in p)) (drop 1 s)
read_asks kind [] p e = absurd (cc e)
read_asks kind (NumCell z ∷ s) p e = absurd (cc e)
read_asks kind (Ref o ∷ s) p e = absurd (cc e)
read_asks kind (CallCell q o ∷ s) p e = absurd (cc e)
read_asks kind (Place r c t ∷ s) p e = ap (λ (q : Address). Sees (Reads kind (addr_in q)) s) (some_same _ p e)

stores_at : (v : Cell) (s : Stack) (p : Address) → address_in (slice_get s 0) ≡ Some p → on_place (λ a t s'. Sees (Stores a v) s') s ≡ Sees (Stores (addr_in p) v) (drop 1 s)
stores_at v [] p e = absurd (cc e)
stores_at v (NumCell z ∷ s) p e = absurd (cc e)
stores_at v (Ref o ∷ s) p e = absurd (cc e)
stores_at v (CallCell q o ∷ s) p e = absurd (cc e)
stores_at v (Place r c t ∷ s) p e = ap (λ (q : Address). Sees (Stores (addr_in q) v) s) (some_same _ p e)

store_by : (w v : Cell) (s : Stack) (p : Address) (b : Bool) → (if b then Some w else None) ≡ Some v → address_in (slice_get s 0) ≡ Some p →
    (if b then on_place (λ a t s'. Sees (Stores a w) s') s else Stops lost) ≡ Sees (Stores (addr_in p) v) (drop 1 s)
store_by w v s p true e f = stores_at w s p f ∙ ap (λ x. Sees (Stores (addr_in p) x) (drop 1 s)) (some_same w v e)
store_by w v s p false e f = absurd (cc e)

store_asks : (kind : Kind) (s : Stack) (v : Cell) (p : Address) → kind_in kind (slice_get s 0) ≡ Some v → address_in (slice_get s 1) ≡ Some p → stores kind s ≡ Sees (Stores (addr_in p) v) (drop 2 s)
store_asks kind [] v p e f = absurd (cc e)
store_asks kind (w ∷ s) v p e f = store_by w v s p (is_of kind w) e f

-- the frame's own object
pub own_given : (o : ℕ) (s : Stack) → (o ≡ 0 → ⊥) → gives_self o s ≡ gives (Ref o) s
own_given zero s some = absurd (some refl)
own_given (suc o) s some = refl

-- there are two numbers
pub not_empty : (s t : Stack) → on_numbers (λ a b u. Goes 0 u) s ≡ Goes 0 t → 0 < length s
not_empty [] t e = absurd (cc e)
not_empty (v ∷ s) t e = omega arith

-- A turn of the topmost frame.

-- frames with a topmost one that is seen the same are alike
pub alike_top : (image : Image) (made : ℕ → Option MadeAs) (here : ℕ) (f g : Frame) (following : List ℕ) (rest : List Frame) (fs : Frames) → length rest ≡ here →
    ((all : ℕ → Option MadeAs) → Knows all made → seen_at image all here f ≡ seen_at image all here g) → Alike image made fs (on_top following f rest) → Alike image made fs (on_top following g rest)
alike_top image made here f g following rest fs len e h all knows =
    h all knows
    ∙ (λ i. (let x : SeenFrames = record { following = following; top = Some (subst (λ n. seen_at image all n f ≡ seen_at image all n g) (sym len) (e all knows) i); below = rest } in x))

pub turned_top : (image : Image) (here : ℕ) (mem now : Memory) (f g : Frame) (begins : Bool) (stop : Stop) → g.procedure ≡ f.procedure → silent_at image (made_in image mem) here f ≡ stop →
    ((rest : List Frame) → length rest ≡ here → mem ≡ no_memory → is_own_stop image.shapes.items stop ≡ true) →
    ((following : List ℕ) (rest : List Frame) → length rest ≡ here →
    goes following image.shapes.items image.types.items stop f rest mem ≡ record { store = now; frames = on_top following g rest; output = []; begun = begins; left = Went }) →
    HasTurnedTop image here begins mem now f g
turned_top image here mem now f g begins stop same is own comes =
    let at_stop : (rest : List Frame) → length rest ≡ here → stop_of image (made_in image mem) f rest ≡ stop = λ rest len. ap (λ n. silent_at image (made_in image mem) n f) len ∙ is in
    record {
      same = same;
      own = λ none following rest len.
          ap (λ (m : Memory). is_own_stop image.shapes.items (stop_of image (made_in image m) f rest)) (sym none) ∙ ap (is_own_stop image.shapes.items) (at_stop rest len) ∙ own rest len none;
      turns = λ following rest fs len h.
          let top = on_top following f rest in
          let turned : turn image mem top ≡ record { store = now; frames = on_top following g rest; output = []; begun = begins; left = Went } =
          ap (λ s. goes following image.shapes.items image.types.items s f rest mem) (at_stop rest len) ∙ comes following rest len in
          let similar = turn_alike image mem fs top h in
          record {
            store = similar.store ∙ ap (λ (t : Turned). t.store) turned;
            alike = λ all knows. similar.alike all (subst (λ (t : Turned). Knows all (after_turn image t)) (sym turned) knows) ∙ ap (λ (t : Turned). seen_frames image all (opened t.frames)) turned;
            output = similar.output ∙ ap (λ (t : Turned). t.output) turned;
            begun = similar.begun ∙ ap (λ (t : Turned). t.begun) turned;
            left = similar.left ∙ ap (λ (t : Turned). t.left) turned;
          };
      fits = λ whole following rest len fit.
          subst (FramesFit image) (ap (λ (t : Turned). t.frames) (comes following rest len))
          (goes_fits image whole following fit.1 f rest fit.0 mem stop
          (subst (StandsStopped image f.procedure (code_of image f.procedure)) (at_stop rest len) (stop_stands image whole (made_in image mem) f rest fit.0))).0;
    }

-- silent work after silent work
pub worked_none : (image : Image) (here : ℕ) (mem : Memory) (f : Frame) → HasWorked image here mem mem f f
worked_none image here mem f = record { seen = λ all knows. refl; memory = refl; fits = λ whole following rest len fit. fit }

-- none that is seen
pub worked_same : (image : Image) (here : ℕ) (mem now : Memory) (f g : Frame) → g ≡ f → now ≡ mem → HasWorked image here mem now f g
worked_same image here mem now f g e memory =
    record {
      seen = λ all knows. ap (seen_at image all here) e;
      memory = memory;
      fits = λ whole following rest len fit. subst (λ (x : Frame). FramesFit image (on_top following x rest)) (sym e) fit;
    }

pub worked_both : (image : Image) (here : ℕ) (mem was now : Memory) (f mid g : Frame) → HasWorked image here mem was f mid → HasWorked image here was now mid g → HasWorked image here mem now f g
worked_both image here mem was now f mid g first second =
    record {
      seen = λ all knows. second.seen all (subst (λ (m : Memory). Knows all (made_in image m)) (sym first.memory) knows) ∙ first.seen all knows;
      memory = second.memory ∙ first.memory;
      fits = λ whole following rest len fit. second.fits whole following rest len (first.fits whole following rest len fit);
    }

-- also from a frame that is seen the same
pub turned_after : (image : Image) (here : ℕ) (begins : Bool) (mem was now : Memory) (f mid g : Frame) → HasWorked image here mem was f mid → HasTurnedTop image here begins was now mid g → HasTurnedTop image here begins mem now f g
turned_after image here begins mem was now f mid g e turned =
    let made = made_in image mem in
    let seen_so = e.seen made (itself made) in
    record {
      same = turned.same ∙ ap (λ (x : Seen). x.procedure) seen_so;
      own = λ none following rest len.
          let stops : stop_of image made f rest ≡ stop_of image made mid rest = ap (λ n. silent_at image made n f) len ∙ ap (λ (x : Seen). x.stop) (sym seen_so) ∙ ap (λ n. silent_at image made n mid) (sym len) in
          let alone_so : stop_of image (made_by []) f rest ≡ stop_of image (made_by []) mid rest = subst (λ (m : Memory). stop_of image (made_in image m) f rest ≡ stop_of image (made_in image m) mid rest) none stops in
          ap (is_own_stop image.shapes.items) alone_so ∙ turned.own (e.memory ∙ none) following rest len;
      turns = λ following rest fs len h.
          subst (λ m. TurnsTo image begins m now fs (on_top following g rest)) e.memory
          (turned.turns following rest fs len (subst (λ (m : Memory). Alike image (made_in image m) fs (on_top following mid rest)) (sym e.memory) (alike_top image made here f mid following rest fs len (λ all knows. sym (e.seen all knows)) h)));
      fits = λ whole following rest len fit. turned.fits whole following rest len (e.fits whole following rest len fit);
    }

module _ (image : Image) (made : ℕ → Option MadeAs) (here : ℕ) (f : Frame) where
  abbrev code : List Instr
  code = code_of image f.procedure

  -- where silent work ends that stands before a question
  stands_at : (i : Instr) (stop : Stop) → slice_get code f.next ≡ Some i →
      on_act image.shapes.items image.types.items made f.cells (act image.shapes.items image.types.items f.procedure (here_at here f) i code f.next f.stack) (walk image.shapes.items image.types.items made f.procedure (here_at here f) f.cells code (drop (f.next + 1) code)) f.next f.keeps ≡ stop →
      silent_at image made here f ≡ stop
  stands_at i stop is e = acts image.shapes.items image.types.items made f.procedure (here_at here f) f.cells code f.next i f.keeps f.stack is ∙ e

module _ (image : Image) (here : ℕ) (f : Frame) where
  abbrev own_code : List Instr
  own_code = code_of image f.procedure

  pub read_top : (mem : Memory) (kind : Kind) (p : Address) (v : Cell) → slice_get own_code f.next ≡ Some (Load kind) → address_in (slice_get f.stack 0) ≡ Some p →
      ((rest : List Frame) → length rest ≡ here → load p.root p.cell (rooted (f ∷ rest) mem) ≡ Some v) → is_of kind v ≡ true →
      HasTurnedTop image here false mem mem f (record f { next = f.next + 1; stack = v ∷ drop 1 f.stack })
  read_top mem kind p v is place holds of =
      let next = walk image.shapes.items image.types.items (made_in image mem) f.procedure (here_at here f) f.cells own_code (drop (f.next + 1) own_code) in
      turned_top image here mem mem f _ false (Work (Reads kind (addr_in p)) f.next f.keeps (drop 1 f.stack)) refl
      (stands_at image (made_in image mem) here f (Load kind) _ is (ap (λ a. on_act image.shapes.items image.types.items (made_in image mem) f.cells a next f.next f.keeps) (read_asks kind f.stack p place)))
      (λ rest len none. in_frames p.root p.cell f rest mem (ap is_some (holds rest len)) none)
      (λ following rest len.
      ap (λ o. reads following kind o (asker f.next f.keeps (drop 1 f.stack) f rest mem)) (holds rest len)
      ∙ ap (λ b. if b then goes_on following (behind following f.next f.keeps (v ∷ drop 1 f.stack) f ∷ rest) mem else leaves following (Trapped 16 0) (f ∷ rest) mem) of)

  pub store_top : (mem now : Memory) (kind : Kind) (p : Address) (v : Cell) (h : Frame) → slice_get own_code f.next ≡ Some (Store kind) → kind_in kind (slice_get f.stack 0) ≡ Some v →
      address_in (slice_get f.stack 1) ≡ Some p → IsSet here p.root p.cell v mem now f h →
      HasTurnedTop image here false mem now f (record h { next = f.next + 1; stack = drop 2 f.stack })
  store_top mem now kind p v h is value place set =
      let next = walk image.shapes.items image.types.items (made_in image mem) f.procedure (here_at here f) f.cells own_code (drop (f.next + 1) own_code) in
      turned_top image here mem now f _ false (Work (Stores (addr_in p) v) f.next f.keeps (drop 2 f.stack)) (ap (λ (x : Frame). x.procedure) set.others)
      (stands_at image (made_in image mem) here f (Store kind) _ is (ap (λ a. on_act image.shapes.items image.types.items (made_in image mem) f.cells a next f.next f.keeps) (store_asks kind f.stack v p value place)))
      (λ rest len none. in_frames p.root p.cell f rest mem (set.there rest len) none)
      (λ following rest len.
      ap (λ b. writes following b (addr_in p) (v ∷ []) (asker f.next f.keeps (drop 2 f.stack) f rest mem)) (set.there rest len)
      ∙ (λ i. goes_on following (set.frames rest len (f.next + 1) (drop 2 f.stack) i) (sym set.memory i)))

-- silent work that goes on stays on a path
went_fits : (image : Image) (made : ℕ → Option MadeAs) (here : ℕ) (f g : Frame) (code : List Instr) (did : KeptAct) (over m : ℕ) → code ≡ code_of image f.procedure → f.next < length code →
    IsStepOf image.shapes.items image.types.items made (act image.shapes.items image.types.items f.procedure (here_at here f) (get_or code f.next (Num (pos 0))) code f.next f.stack) did f g → did ≡ GoesOn over →
    m ≡ min (f.next + 1 + over) (2 ^ 64 - 1) → length code < 2 ^ 64 → FitsSo image here f (record g { next = m })
went_fits image made here f g code did over m code_is within step e is small whole following rest len fit =
    let p = f.procedure in
    let own : g.procedure ≡ p = ap (λ (x : Frame). x.procedure) step.same in
    let paths : KeepsToPaths image p code (depth_of image p) =
    subst (λ c. KeepsToPaths image p c (depth_of image p)) (sym code_is) (keeps_to_paths image p (code_of image p) (depth_of image p) (paths_of image whole p fit.0.0)) in
    let stands : StandsOn image p code f.next f.stack = subst (λ c. StandsOn image p c f.next f.stack) (sym code_is) fit.0.1 in
    let i = get_or code f.next (Num (pos 0)) in
    let on : StandsOn image p code (f.next + 1 + over) g.stack =
    paths.goes (here_at here f) made f.cells f.next i f.keeps f.stack (slice_get-get_or code f.next (Num (pos 0)) within) stands over g.keeps g.stack
    (λ next. step.goes next f.next ∙ ap (λ x. after x next f.next g.keeps g.stack) e) in
    let lt = paths.within (f.next + 1 + over) g.stack on in
    let there : m ≡ f.next + 1 + over = omega (arith, is, lt, small) in
    let now : StandsOn image p (code_of image p) m g.stack = subst (λ (x : ℕ × List Instr). StandsOn image p x.1 x.0 g.stack) (λ j. (sym there j, code_is j)) on in (
      (
        subst (HasBody image) (sym own) fit.0.0,
        subst (λ q. StandsOn image q (code_of image q) m g.stack) (sym own) now,
        subst (λ q. FitFor image (result_of (numbered image.shapes.items q)) rest) (sym own) fit.0.2,
      ),
      fit.1,
    )

-- An act that has been done.
module _ (image : Image) (here : ℕ) (mem : Memory) (f g : Frame) (code : List Instr) (at : ℕ) (did : KeptAct) (code_is : code ≡ code_of image f.procedure) (at_is : at ≡ f.next) (within : at < length code)
    (step : IsStepOf image.shapes.items image.types.items (made_in image mem) (act image.shapes.items image.types.items f.procedure (here_at here f) (get_or code at (Num (pos 0))) code at f.stack) did f g) where
  pub silent_top : (over m : ℕ) → did ≡ GoesOn over → m ≡ min (at + 1 + over) (2 ^ 64 - 1) → length code < 2 ^ 64 → HasWorked image here mem mem f (record g { next = m })
  silent_top over m e is small =
      let there = subst (λ n. IsStepOf image.shapes.items image.types.items (made_in image mem) (act image.shapes.items image.types.items f.procedure (here_at here f) (get_or code n (Num (pos 0))) code n f.stack) did f g) at_is step in
      let own : code ≡ code_of image g.procedure = code_is ∙ ap (λ (x : Frame). code_of image x.procedure) (sym there.same) in
      record {
        seen = λ all knows.
            ap (λ (l : List Instr). seen_with image l all here (record g { next = m })) (sym own)
            ∙ seen_on image all here f g code did (subst (λ n. n < length code) at_is within) (there.more all knows) there.same over m e
            (subst (λ n. m ≡ min (n + 1 + over) (2 ^ 64 - 1)) at_is is) small
            ∙ ap (λ (l : List Instr). seen_with image l all here f) code_is;
        memory = refl;
        fits = went_fits image (made_in image mem) here f g code did over m code_is (subst (λ n. n < length code) at_is within) there e
            (subst (λ n. m ≡ min (n + 1 + over) (2 ^ 64 - 1)) at_is is) small;
      }

  -- where its silent work has come to
  comes_to : silent_at image (made_in image mem) here f ≡ after did (walk image.shapes.items image.types.items (made_in image mem) f.procedure (here_at here f) f.cells code (drop (at + 1) code)) at g.keeps g.stack
  comes_to =
      let made = made_in image mem in
      let next = walk image.shapes.items image.types.items made f.procedure (here_at here f) f.cells code (drop (at + 1) code) in
      (λ j. silent image.shapes.items image.types.items made f.procedure (here_at here f) f.cells (sym code_is j) (sym at_is j) f.keeps f.stack)
      ∙ acts image.shapes.items image.types.items made f.procedure (here_at here f) f.cells code at (get_or code at (Num (pos 0))) f.keeps f.stack (slice_get-get_or code at (Num (pos 0)) within)
      ∙ step.goes next at

  pub asks_top : (q : Question) → did ≡ Asks q → g ≡ f → length code < 2 ^ 64 → HasWorked image here mem mem f g × StopsAsking image here q g.next mem g
  asks_top q e same small =
      let next = walk image.shapes.items image.types.items (made_in image mem) f.procedure (here_at here f) f.cells code (drop (at + 1) code) in
      let there : at ≡ g.next = at_is ∙ ap (λ (x : Frame). x.next) (sym same) in (
        worked_same image here mem mem f g same refl,
        (
          ap (silent_at image (made_in image mem) here) same ∙ comes_to ∙ ap (λ d. after d next at g.keeps g.stack) e
              ∙ ap (λ n. Work (question_in q g.stack) n g.keeps (drop (operands_of q) g.stack)) there,
          (refl, omega (arith, within, small, there)),
        ),
      )

  pub begun_top : (to : ℕ) (p : Pos) → did ≡ BeginsAt to p → HasTurnedTop image here true mem mem f (record g { next = to + 1; at = Some p })
  begun_top to p e =
      let made = made_in image mem in
      let next = walk image.shapes.items image.types.items made f.procedure (here_at here f) f.cells code (drop (at + 1) code) in
      let stop : silent_at image made here f ≡ Ended (Begins to p g.stack) g.keeps = comes_to ∙ ap (λ d. after d next at g.keeps g.stack) e in
      turned_top image here mem mem f (record g { next = to + 1; at = Some p }) true (Ended (Begins to p g.stack) g.keeps) (ap (λ (x : Frame). x.procedure) step.same) stop
      (λ rest len none. refl)
      (λ following rest len. ap (λ (x : Frame). (let t : Turned = record { store = mem; frames = on_top following (record x { next = to + 1; at = Some p }) rest; output = []; begun = true; left = Went } in t)) (sym step.same))

-- Silent work and what stands behind it, done in one.

-- a number given above another one
on_below : (k : ℤ → ℤ → Stack → Act) (s : Stack) (a n : ℤ) → number_in (slice_get s 0) ≡ Some a → on_numbers k (NumCell n ∷ s) ≡ k a n (drop 1 s)
on_below k [] a n e = absurd (cc e)
on_below k (NumCell z ∷ s) a n e = ap (λ y. k y n s) (some_same z a e)
on_below k (Ref o ∷ s) a n e = absurd (cc e)
on_below k (CallCell p o ∷ s) a n e = absurd (cc e)
on_below k (Place r c t ∷ s) a n e = absurd (cc e)

pub some_number : (s : Stack) (a : ℤ) → number_in (slice_get s 0) ≡ Some a → 0 < length s
some_number [] a e = absurd (cc e)
some_number (v ∷ s) a e = omega arith

module _ (image : Image) (here : ℕ) (mem : Memory) (f : Frame) (code : List Instr) (at : ℕ) (code_is : code ≡ code_of image f.procedure) (at_is : at ≡ f.next) (within : at < length code) (small : length code < 2 ^ 64) where
  -- an instruction that goes on to the next one, and leaves these operands
  pub went_then : (s : Stack) → act image.shapes.items image.types.items f.procedure (here_at here f) (get_or code at (Num (pos 0))) code at f.stack ≡ Goes 0 s → HasWorked image here mem mem f (record f { next = at + 1; stack = s })
  went_then s acts =
      let next : at + 1 ≡ min (at + 1 + 0) (2 ^ 64 - 1) = omega (arith, within, small) in
      silent_top image here mem f (record f { stack = s }) code at (GoesOn 0) code_is at_is within (stepped_of image.shapes.items image.types.items (made_in image mem) (GoesOn 0) _ f s (sym acts)) 0 (at + 1) refl next small

  -- a place that is read at once
  pub read_behind : (root : Root) (c : ℕ) (kind : Kind) (v : Cell) → act image.shapes.items image.types.items f.procedure (here_at here f) (get_or code at (Num (pos 0))) code at f.stack ≡ gives (Place root c 0) f.stack →
      slice_get code (at + 1) ≡ Some (Load kind) → ((rest : List Frame) → length rest ≡ here → load root c (rooted (f ∷ rest) mem) ≡ Some v) → is_of kind v ≡ true →
      HasTurnedTop image here false mem mem f (record f { next = at + 2; stack = v ∷ f.stack })
  read_behind root c kind v acts is holds of =
      let p : Address = record { root = root; cell = c } in
      let mid : Frame = record f { next = at + 1; stack = Place root c 0 ∷ f.stack } in
      let two : at + 1 + 1 ≡ at + 2 = omega arith in
      turned_after image here false mem mem mem f mid (record f { next = at + 2; stack = v ∷ f.stack }) (went_then (Place root c 0 ∷ f.stack) acts)
      (subst (λ n. HasTurnedTop image here false mem mem mid (record f { next = n; stack = v ∷ f.stack })) two
      (read_top image here mid mem kind p v (subst (λ (l : List Instr). slice_get l (at + 1) ≡ Some (Load kind)) code_is is) refl holds of))

-- an operator applied to a number that is given just before it
pub applied_behind : (image : Image) (here : ℕ) (mem : Memory) (f : Frame) (code : List Instr) (at : ℕ) (op : Binary) (a n z : ℤ) → code ≡ code_of image f.procedure → at ≡ f.next → at + 1 < length code → length code < 2 ^ 64 →
    get_or code at (Num (pos 0)) ≡ Num n → get_or code (at + 1) (Num (pos 0)) ≡ OnTwo op → number_in (slice_get f.stack 0) ≡ Some a → binary op a n ≡ Number z →
    HasWorked image here mem mem f (record f { next = at + 2; stack = NumCell z ∷ drop 1 f.stack })
applied_behind image here mem f code at op a n z code_is at_is more small first second number is =
    let mid : Frame = record f { next = at + 1; stack = NumCell n ∷ f.stack } in
    let within : at < length code = omega (arith, more) in
    let two : at + 1 + 1 ≡ at + 2 = omega arith in
    let does = λ (g : Frame) (k : ℕ) (i : Instr). act image.shapes.items image.types.items f.procedure (here_at here g) i code k g.stack in
    worked_both image here mem mem mem f mid (record f { next = at + 2; stack = NumCell z ∷ drop 1 f.stack }) (went_then image here mem f code at code_is at_is within small (NumCell n ∷ f.stack) (ap (does f at) first))
    (subst (λ k. HasWorked image here mem mem mid (record f { next = k; stack = NumCell z ∷ drop 1 f.stack })) two
    (went_then image here mem mid code (at + 1) code_is refl more small (NumCell z ∷ drop 1 f.stack)
    (ap (does mid (at + 1)) second ∙ on_below (λ x y u. given (binary op x y) u) f.stack a n number ∙ ap (λ (g : Given). given g (drop 1 f.stack)) is)))

-- where a jump ahead goes on that takes a truth value
jumped : (l : List Instr) (to at : ℕ) (b : Bool) (s : Stack) → at < to → jumps_on_false l to at (flag b) s ≡ Goes (if b then 0 else to - (at + 1)) s
jumped l to at true s ahead = refl
jumped l to at false s ahead = ap (λ (x : Bool). if x then Goes (to - (at + 1)) s else lands (slice_get l to) to s) (lt-ltb at to ahead)

to_next : (to at : ℕ) (b : Bool) → at < to → to < 2 ^ 64 - 1 → at + 1 < 2 ^ 64 → (if b then at + 1 else to) ≡ min (at + 1 + (if b then 0 else to - (at + 1))) (2 ^ 64 - 1)
to_next to at true ahead small less = omega (arith, less)
to_next to at false ahead small less = omega (arith, ahead, small)

-- two numbers are compared, and a jump ahead is made or not just behind
pub compared_behind : (image : Image) (here : ℕ) (mem : Memory) (f : Frame) (code : List Instr) (at to : ℕ) (r : Relation) (a b : ℤ) → code ≡ code_of image f.procedure → at ≡ f.next → at + 1 < length code → length code < 2 ^ 64 → to < 2 ^ 64 - 1 →
    get_or code at (Num (pos 0)) ≡ OnTwo (Cmp r) → get_or code (at + 1) (Num (pos 0)) ≡ JumpFalse to → at + 1 < to →
    on_numbers (λ x y u. given (binary (Cmp r) x y) u) f.stack ≡ given (binary (Cmp r) a b) (drop 2 f.stack) →
    HasWorked image here mem mem f (record f { next = if holds r a b then at + 2 else to; stack = drop 2 f.stack })
compared_behind image here mem f code at to r a b code_is at_is more small low first second ahead two_on =
    let s : Stack = drop 2 f.stack in
    let h = holds r a b in
    let mid : Frame = record f { next = at + 1; stack = NumCell (flag h) ∷ s } in
    let within : at < length code = omega (arith, more) in
    let two : at + 1 + 1 ≡ at + 2 = omega arith in
    let does = λ (g : Frame) (k : ℕ) (i : Instr). act image.shapes.items image.types.items f.procedure (here_at here g) i code k g.stack in
    let over = if h then 0 else to - (at + 1 + 1) in
    let acts_so : does mid (at + 1) (get_or code (at + 1) (Num (pos 0))) ≡ Goes over s = ap (does mid (at + 1)) second ∙ jumped code to (at + 1) h s ahead in
    let last : (if h then at + 1 + 1 else to) ≡ min (at + 1 + 1 + over) (2 ^ 64 - 1) = to_next to (at + 1) h ahead low (omega (arith, more, small)) in
    worked_both image here mem mem mem f mid (record f { next = if h then at + 2 else to; stack = s })
    (went_then image here mem f code at code_is at_is within small (NumCell (flag h) ∷ s) (ap (does f at) first ∙ two_on))
    (subst (λ k. HasWorked image here mem mem mid (record f { next = if h then k else to; stack = s })) two
    (silent_top image here mem mid (record mid { stack = s }) code (at + 1) (GoesOn over) code_is refl more (stepped_of image.shapes.items image.types.items (made_in image mem) (GoesOn over) _ mid s (sym acts_so)) over
    (if h then at + 1 + 1 else to) refl last small))

-- where there is no memory there is none after it
pub still_none : (image : Image) (here : ℕ) (begins : Bool) (mem now : Memory) (f g : Frame) → HasTurnedTop image here begins mem now f g → mem ≡ no_memory → now ≡ no_memory
still_none image here begins mem now f g turned none =
    let rest = replicate here f in
    let top = on_top [] f rest in
    let len = length-replicate here f in
    let t = turned.turns [] rest top len (λ all knows. refl) in
    sym t.store ∙ ap (λ m. (turn image m top).store) none ∙ own_store image top (turned.own none [] rest len)

-- Turns one after the other.

pub run_none : (image : Image) (here budget begun : ℕ) (f : Frame) → HasRunTop image here budget 0 begun begun f f
run_none image here budget begun f = (
  refl,
  λ following rest made fs len h. record { private = λ i lt. absurd (omega arith); below = λ i lt. absurd (omega arith); alike = h; statements = refl },
  λ whole following rest len fit. fit,
)

-- silent work of a frame where there is no memory
run_still : (image : Image) (here budget many begun now : ℕ) (f mid g : Frame) → HasRunTop image here budget many begun now f mid → ((all : ℕ → Option MadeAs) → seen_at image all here g ≡ seen_at image all here mid) →
    FitsSo image here mid g → HasRunTop image here budget many begun now f g
run_still image here budget many begun now f mid g before e fits = (
  ap (λ (x : Seen). x.procedure) (e (made_by [])) ∙ before.0,
  λ following rest made fs len h.
      let r = before.1 following rest made fs len h in
      record {
        private = r.private;
        below = r.below;
        alike = alike_top image (made_by made) here mid g following rest (after_turns image made many fs) len (λ all knows. sym (e all)) r.alike;
        statements = r.statements;
      },
  λ whole following rest len fit. fits whole following rest len (before.2 whole following rest len fit),
)

pub run_worked : (image : Image) (here budget many begun now : ℕ) (mem was : Memory) (f mid g : Frame) → mem ≡ no_memory → HasRunTop image here budget many begun now f mid → HasWorked image here mem was mid g →
    HasRunTop image here budget many begun now f g
run_worked image here budget many begun now mem was f mid g none before worked =
    run_still image here budget many begun now f mid g before (λ all. worked.seen all (subst (λ (m : Memory). Knows all (made_in image m)) (sym none) (nothing_made all))) worked.fits

pub run_more : (image : Image) (here budget many begun now now' : ℕ) (begins : Bool) (mem was : Memory) (f mid g : Frame) → mem ≡ no_memory → HasRunTop image here budget many begun now f mid → now < budget →
    HasTurnedTop image here begins mem was mid g → now' ≡ counted begins now → HasRunTop image here budget (many + 1) begun now' f g
run_more image here budget many begun now now' begins mem was f mid g none before below had counts =
    let turned = subst (λ m. HasTurnedTop image here begins m was mid g) none had in
    let one : suc many ≡ many + 1 = omega arith in
    let still = still_none image here begins no_memory was mid g turned refl in
    subst (λ n. HasRunTop image here budget n begun now' f g) one (
      turned.same ∙ before.0,
      λ following rest made fs len h.
          let r = before.1 following rest made fs len h in
          let top = on_top following mid rest in
          let t = turned.turns following rest top len (λ all knows. refl) in
          let o = own_turned image made (after_turns image made many fs) top r.alike (turned.own refl following rest len) t.left in
          record {
            private = at_or_below (λ i. IsPrivate image made (after_turns image made i fs)) many r.private o.0;
            below = at_or_below (λ i. begun_after image made i fs begun < budget) many r.below (subst (λ n. n < budget) r.statements below);
            alike = λ all knows. o.1 all knows ∙ t.alike all (subst (λ (x : Memory). Knows all (made_in image x)) (sym still) (nothing_made all));
            statements = counts ∙ (λ i. counted (sym (o.2 ∙ t.begun) i) (r.statements i));
          },
      λ whole following rest len fit. turned.fits whole following rest len (before.2 whole following rest len fit),
    )

-- silent work, and then a question
pub asks_behind : (image : Image) (here at : ℕ) (q : Question) (mem was now : Memory) (f mid g : Frame) → HasWorked image here mem was f mid →
    HasWorked image here was now mid g × StopsAsking image here q at was g → HasWorked image here mem now f g × StopsAsking image here q at mem g
asks_behind image here at q mem was now f mid g first next = (
  worked_both image here mem was now f mid g first next.0,
  subst (λ m. StopsAsking image here q at m g) first.memory next.1,
)

pub tried_fits : (image : Image) (here : ℕ) (r : Tried) (mem now : Memory) (f g : Frame) → HasTriedTop image here r mem now f g → FitsSo image here f g
tried_fits image here (MadeTurn begins) mem now f g tried = tried.fits
tried_fits image here (AsksAt q at) mem now f g tried = tried.0.fits
tried_fits image here MadeNone mem now f g tried = tried.fits

-- The frames that are kept.

module _ (old : KeptFrames) (n here : ℕ) (f g : KeptFrame) (len : n ≡ length old.list.items) (is : here ≡ n - 1) (e : slice_get old.list.items (n - 1) ≡ Some f) where
  abbrev rest : List Frame
  rest = list_in (all_but_top old.list.items)

  abbrev following : List ℕ
  following = reverse old.following.items

  abbrev now_frames : Frames
  now_frames = record { following = following; frames = list_in (slice_set old.list.items (n - 1) g) }

  so_many : length rest ≡ here
  so_many = rest_length old.list.items ∙ ap (λ m. m - 1) (sym len) ∙ sym is

  old_top : frames_in old ≡ on_top following (frame_in f) rest
  old_top = ap (λ l. (let x : Frames = record { following = following; frames = l } in x)) (list_top old.list.items n f len e)

  new_top : now_frames ≡ on_top following (frame_in g) rest
  new_top = ap (λ l. (let x : Frames = record { following = following; frames = l } in x)) (list_set old.list.items n f g len e)

  pub kept_run : (new : KeptFrames) (image : Image) (budget many now : ℕ) → frames_in new ≡ now_frames → HasRunTop image here budget many old.begun now (frame_in f) (frame_in g) →
      new.begun ≡ now → new.turns ≡ (old.turns + many) % 2 ^ 64 → IsMadePrivately image budget many old new
  kept_run new image budget many now frames run begun turns made fs h =
      let r = run.1 following rest made fs so_many (subst (Alike image (made_by made) fs) old_top h) in
      record {
        private = r.private;
        below = r.below;
        alike = subst (Alike image (made_by made) (after_turns image made many fs)) (sym (frames ∙ new_top)) r.alike;
        begun = begun ∙ r.statements;
        turns = turns;
      }

  pub kept_ran : (gs : Frames) (image : Image) (budget many now count : ℕ) (mem was : Memory) (fs : Frames) → gs ≡ now_frames → HasRunOn image here budget many old.begun now mem was (frame_in f) (frame_in g) → count ≡ now →
      Alike image (made_in image mem) fs (frames_in old) → RunsOn image budget many (record { store = mem; frames = fs; begun = old.begun }) was gs count
  kept_ran gs image budget many now count mem was fs frames run counts h =
      let start : Reached = record { store = mem; frames = fs; begun = old.begun } in
      let r = run.runs following rest fs so_many (subst (Alike image (made_in image mem) fs) old_top h) in
      record {
        goes = r.goes;
        below = r.below;
        store = r.store;
        alike = subst (Alike image (made_in image was) (after_many image many start).frames) (sym (frames ∙ new_top)) r.alike;
        begun = r.begun ∙ sym counts;
      }

  kept_worked : (image : Image) (mem now : Memory) → HasWorked image here mem now (frame_in f) (frame_in g) → Alike image (made_in image mem) (frames_in old) now_frames × (now ≡ mem)
  kept_worked image mem now worked = (
    subst (Alike image (made_in image mem) (frames_in old)) (sym new_top)
        (alike_top image (made_in image mem) here (frame_in f) (frame_in g) following rest (frames_in old) so_many (λ all knows. sym (worked.seen all knows)) (subst (Alike image (made_in image mem) (frames_in old)) old_top (λ all knows. refl))),
    worked.memory,
  )

  -- they fit and have room as before
  pub kept_fit : (image : Image) → FitsSo image here (frame_in f) (frame_in g) → HasMoreRoom f g → IsSoundImage image → FitInRoom image old →
      FramesFit image now_frames × AreRoomyFor (depth_of image) (keeps_for image) (slice_set old.list.items (n - 1) g)
  kept_fit image fits more whole fit = (
    subst (FramesFit image) (sym new_top) (fits whole following rest so_many (subst (FramesFit image) old_top fit.0)),
    roomy_set (depth_of image) (keeps_for image) old.list.items (n - 1) f g e more fit.1,
  )

  kept_asking : (image : Image) (q : Question) (at : ℕ) (mem : Memory) → StopsAsking image here q at mem (frame_in g) → StandsAtStop image (made_in image mem) (AtWork q at) now_frames.frames
  kept_asking image q at mem asks =
      subst (λ (x : Frames). StandsAtStop image (made_in image mem) (AtWork q at) x.frames) (sym new_top) (ap (λ n. silent_at image (made_in image mem) n (frame_in g)) so_many ∙ asks.0, asks.1)

  pub kept_tried : (image : Image) (r : Tried) (mem now : Memory) → HasTriedTop image here r mem now (frame_in f) (frame_in g) → HasTriedInPlace image r mem now (frames_in old) now_frames
  kept_tried image MadeNone mem now tried = kept_worked image mem now tried
  kept_tried image (AsksAt q at) mem now tried = (kept_worked image mem now tried.0, kept_asking image q at mem tried.1, tried.1.1.1)
  kept_tried image (MadeTurn begins) mem now tried =
      λ fs h. subst (TurnsTo image begins mem now fs) (sym new_top) (tried.turns following rest fs so_many (subst (Alike image (made_in image mem) fs) old_top h))

pub no_turns : (image : Image) (budget : ℕ) (mem : Memory) (old : KeptFrames) → HasRunMany image budget 0 mem mem old old
no_turns image budget mem old fs h = record { goes = λ i lt. absurd (omega arith); below = λ i lt. absurd (omega arith); store = refl; alike = h; begun = refl }

pub kept_none : (image : Image) (budget : ℕ) (old : KeptFrames) → old.turns < 2 ^ 64 → IsMadePrivately image budget 0 old old
kept_none image budget old lt made fs h =
    record { private = λ i small. absurd (omega arith); below = λ i small. absurd (omega arith); alike = h; begun = refl; turns = omega arith }

-- Some turns, and then some more.

after_both : (image : Image) (made : List MadeAs) (m : ℕ) (fs : Frames) (j : ℕ) → after_turns image made j (after_turns image made m fs) ≡ after_turns image made (j + m) fs
after_both image made m fs zero = ap (λ n. after_turns image made n fs) (let z : m ≡ 0 + m = omega arith in z)
after_both image made m fs (suc j) =
    ap (λ (x : Frames). (alone image made x).frames) (after_both image made m fs j) ∙ ap (λ n. after_turns image made n fs) (let z : suc (j + m) ≡ suc j + m = omega arith in z)

begun_both : (image : Image) (made : List MadeAs) (m begun : ℕ) (fs : Frames) (j : ℕ) → begun_after image made j (after_turns image made m fs) (begun_after image made m fs begun) ≡ begun_after image made (j + m) fs begun
begun_both image made m begun fs zero = ap (λ n. begun_after image made n fs begun) (let z : m ≡ 0 + m = omega arith in z)
begun_both image made m begun fs (suc j) =
    (λ i. counted (alone image made (after_both image made m fs j i)).begun (begun_both image made m begun fs j i)) ∙ ap (λ n. begun_after image made n fs begun) (let z : suc (j + m) ≡ suc j + m = omega arith in z)

within_both : (P : ℕ → Type 0) (m k : ℕ) → ((i : ℕ) → i < m → P i) → ((j : ℕ) → j < k → P (j + m)) → (i : ℕ) → i < m + k → P i
within_both P m k first next i lt =
    elim (leb_tells m i) [
      | inl e ↦ (let le : m ≤ i = e.1 in let same : i - m + m ≡ i = omega arith in subst P same (next (i - m) (omega arith)))
      | inr e ↦ first i e.1
    ]

pub made_both : (image : Image) (budget m k : ℕ) (old mid new : KeptFrames) → IsMadePrivately image budget m old mid → IsMadePrivately image budget k mid new → IsMadePrivately image budget (m + k) old new
made_both image budget m k old mid new before next made fs h =
    let p = before made fs h in
    let q = next made (after_turns image made m fs) p.alike in
    let all : k + m ≡ m + k = omega arith in
    record {
      private = within_both (λ i. IsPrivate image made (after_turns image made i fs)) m k p.private (λ j lt. subst (IsPrivate image made) (after_both image made m fs j) (q.private j lt));
      below = within_both (λ i. begun_after image made i fs old.begun < budget) m k p.below
          (λ j lt. subst (λ n. n < budget) (ap (begun_after image made j (after_turns image made m fs)) p.begun ∙ begun_both image made m old.begun fs j) (q.below j lt));
      alike = subst (λ (x : Frames). Alike image (made_by made) x (frames_in new)) (after_both image made m fs k ∙ ap (λ n. after_turns image made n fs) all) q.alike;
      begun = q.begun ∙ ap (begun_after image made k (after_turns image made m fs)) p.begun ∙ begun_both image made m old.begun fs k ∙ ap (λ n. begun_after image made n fs old.begun) all;
      turns = (let a = p.turns in let b = q.turns in omega arith);
    }

-- as many as the frames tell of
pub told_both : (image : Image) (budget m k : ℕ) (old mid new : KeptFrames) → old.turns < 2 ^ 64 → m + k < 2 ^ 64 → AllTold image budget old mid → m ≡ turns_since old mid → IsMadePrivately image budget k mid new →
    AllTold image budget old new × (m + k ≡ turns_since old new)
told_both image budget m k old mid new lt small before e next =
    let all = made_both image budget m k old mid new (subst (λ n. IsMadePrivately image budget n old mid) (sym e) before) next in
    let z : turns_since old new ≡ m + k = told old.turns new.turns (m + k) lt small (all [] (frames_in old) (λ a knows. refl)).turns in
    (subst (λ n. IsMadePrivately image budget n old new) (sym z) all, sym z)

-- A turn that is made in place, or by what its silent work comes to.

-- what is told of a turn
pub went_in_place : (image : Image) (begins : Bool) (mem now : Memory) (old new : KeptFrames) (out : List ℕ) → HasTriedInPlace image (MadeTurn begins) mem now (frames_in old) (frames_in new) → new.begun ≡ counted begins old.begun →
    IsTurned image Went old new mem now out out
went_in_place image begins mem now old new out tried counts fs h =
    let t = tried fs h in
    record {
      store = t.store;
      alike = t.alike;
      output = sym (ap (λ o. out ++ o) t.output ∙ append-nil out);
      begun = counts ∙ ap (λ b. counted b old.begun) (sym t.begun);
      left = t.left;
    }

-- silent work before it
pub turned_behind : (image : Image) (did : Did) (old mid new : KeptFrames) (mem was now : Memory) (before after : List ℕ) → IsAlikeStill image mem was (frames_in old) (frames_in mid) → mid.begun ≡ old.begun →
    IsTurned image did mid new was now before after → IsTurned image did old new mem now before after
turned_behind image did old mid new mem was now before after tried counts turned fs h =
    let alike = alike_both image (made_in image mem) fs (frames_in old) (frames_in mid) h tried.0 in
    let t = subst (λ m. Shown image (turn image m fs) did mid new now before after) tried.1 (turned fs (subst (λ (m : Memory). Alike image (made_in image m) fs (frames_in mid)) (sym tried.1) alike)) in
    record { store = t.store; alike = t.alike; output = t.output; begun = t.begun ∙ ap (counted (turn image mem fs).begun) counts; left = t.left }

pub rests_behind : (image : Image) (old mid new : KeptFrames) (mem was now : Memory) (before after : List ℕ) → IsAlikeStill image mem was (frames_in old) (frames_in mid) → mid.begun ≡ old.begun →
    Rests image mid new was now before after → Rests image old new mem now before after
rests_behind image old mid new mem was now before after tried counts r =
    record {
      alike = alike_both image (made_in image mem) (frames_in old) (frames_in mid) (frames_in new) tried.0 (subst (λ (m : Memory). Alike image (made_in image m) (frames_in mid) (frames_in new)) tried.1 r.alike);
      begun = r.begun ∙ counts;
      memory = r.memory ∙ tried.1;
      output = r.output;
    }

pub left_more : (did : Did) (P Q : Type 0) → (P → Q) → WhereLeft did P → WhereLeft did Q
left_more Went P Q f p = p
left_more NoFrame P Q f p = f p
left_more (Enter l) P Q f p = f p
left_more (Leave l) P Q f p = f p
left_more (Await l c) P Q f p = f p
left_more (Start o) P Q f p = f p
left_more (Trapped n c) P Q f p = f p

pub stays_more : (did : KeptAct) (P Q : Type 0) → (P → Q) → WhereStays did P → WhereStays did Q
stays_more (GoesOn over) P Q f p = p
stays_more (Asks q) P Q f p = f p
stays_more (BeginsAt at place) P Q f p = p
stays_more (FailsWith n c) P Q f p = f p
stays_more (DecidesWith a) P Q f p = f p
