-- Each kind of turn leaves a store and frames that are typed.
use Rattle.std.proofs.Common.{◌≡◌, ℕ, ◌+◌, List, [], ◌∷◌, ◌++◌, length, map, true, false, Bool, Option, Some, None, refl, sym, ap, ◌∙◌, subst, arith}
use Rattle.std.specs.Prelude.{is_some, sum_by}
use Rattle.std.proofs.lemmas.List.Elements.{All-nil, All-cons, All-append}
use Rattle.aos_base.specs.declared.root.Root.{Root}
use Rattle.aos_base.specs.Number.{array_lengths}
use Rattle.aos_base.specs.Question.{Manner, Reads, Stores, Copies, PutsText, ComparesTexts, Calls, Ends, Makes, Starts, Enters, Leaves, Awaits, PutsInt, PutsChar, PutsString, PutsNothing, PutsLn, Places, Lengths, Opens, Sizes, Tests}
use Rattle.aos_base.specs.Rooted.{Made, Rooted, by_number}
use Rattle.aos_types.specs.Content.{Content, Fits, first_content}
use Rattle.aos_types.specs.Shape.{leaves, row}
use Rattle.aos_types.specs.Table.{row_of}
use Rattle.aos_types.specs.World.{World, MadeAlike}
use Rattle.aos_memory_laws.proofs.Makes.{made_alike}
use Rattle.aos_typed.specs.declared.tree.TType.{TType}
use Rattle.aos_typed.specs.Numbers.{id_of, id_of_made}
use Rattle.aos_typed.specs.Open.{open_dimensions}
use Rattle.aos_typed.specs.Program.{Body, Procedure, Program}
use Rattle.aos_typed.specs.Routines.{Routine, has_self, parameters_of, result_of, routines, self_type}
use Rattle.aos_typed.specs.Sort.{Sort, Plain}
use Rattle.aos_typed.specs.Store.{Store, has_room, new_number, store_with, with_object}
use Rattle.aos_typed.specs.Typing.{Is, IsPlain, HasLengths}
use Rattle.aos_typed.specs.Value.{Value, Object, number_of}
use Rattle.aos_typed.specs.Meaning.{Question, block_items, body_items}
use Rattle.aos_typed.specs.Source.{Frame, Turned, all_rooted, answered, arguments_in, called_frame, done, first_value, frames_with, here_of, is_deep, made_shape, self_of, with_result}
use Rattle.aos_sim.specs.Cells.{cell_of}
use Rattle.aos_sim.proofs.Created.{made_plain, roomy}
use Rattle.aos_sim.proofs.Does.{Given, HasTypes, IsAnswer, IsCalledOn, IsResult, IsSelf, Valid, scheme}
use Rattle.aos_sim.proofs.Entered.{call_frame_of, call_shown, few_scalars, parts_of}
use Rattle.aos_sim.proofs.First.{first_is, first_same, get_right, zero_cell}
use Rattle.aos_sim.proofs.Kept.{values_kept}
use Rattle.aos_sim.proofs.Making.{made_lengths}
use Rattle.aos_sim.proofs.States.{AreFew, IsFew, shapes_of, world_of}
use Rattle.aos_handover.specs.Kinds.{answer_in, told_as, written_by, IsAsking, IsStored, OneScalar, OneWhole, OneText, Kind, Settled, Stopped, Left, Popped, Told, Written, Stored, Created, Called, CallsNone, MakesNone, Stands}
use Rattle.aos_escape.specs.Naming.{AreOf, StandsOnAll}
use Rattle.aos_escape.proofs.Building.{numbers_after, texts_with}
use Rattle.aos_escape.proofs.Names.{HasNames}
use Rattle.aos_escape.proofs.Steps.{given}
use Rattle.aos_preservation.proofs.Frames.{AllTyped, FrameTyped, all_typed_grow, answered_typed, asked, left_gives, stands_typed}
use Rattle.aos_preservation.proofs.Stats.{ItemsGive, items_give}
use Rattle.aos_preservation.proofs.Stored.{Held, cells, hold_below, made_with, read_is, shows, stored_held, top_fits, typed_moved, variables}
use Rattle.aos_preservation.proofs.Trees.{IsTold}

module _ (p : Program) where
  -- the frame of a call is of the object on which it is called
  pub self_called : (made : ℕ → Option Made) (r : Routine) (vs : List Value) → IsCalledOn p made (self_type r.own) vs → IsSelf p made (self_type r.own) (self_of (has_self r.own) vs)
  self_called made r vs h = by (self_type r.own) h
    where
      by : (t : Option ℕ) → IsCalledOn p made t vs → IsSelf p made t (self_of (is_some t) vs)
      by None h = tt
      by (Some t) h = subst (λ us. IsSelf p made (Some t) (self_of true us)) (sym h.2) h.3

  -- a body gives nothing at its beginning
  pub body_gives : (w : World Sort) (own : Option Procedure) (b : Body) → ItemsGive p w own (body_items b)
  body_gives w own b = by b.is_exclusive
    where
      by : (exclusive : Bool) → ItemsGive p w own (block_items exclusive b.statements)
      by true = tt
      by false = items_give p w own b.statements

  -- a result is no place, and stays one of its type below
  result_told : (w w' : World Sort) → MadeAlike w w' → (t : Option TType) (v : Option Value) → IsResult p w t v → IsAnswer p w' t (answer_in v)
  result_told w w' alike None v h = tt
  result_told w w' alike (Some t) None h = absurd h
  result_told w w' alike (Some t) (Some v) h = (values_kept p).plain w w' alike (Plain (id_of t)) v tt h

  -- what is written out is answered nothing
  written_told : (w : World Sort) (x : Rooted (Content Value)) (q : Question) (bytes : List ℕ) → written_by x q ≡ Some bytes → IsTold p w q done
  written_told w x (PutsInt v n) bytes e = tt
  written_told w x (PutsChar v) bytes e = tt
  written_told w x (PutsString a n) bytes e = tt
  written_told w x PutsNothing bytes e = tt
  written_told w x PutsLn bytes e = tt
  written_told w x (Reads t a) bytes e = absurd (cc e)
  written_told w x (Stores a v) bytes e = absurd (cc e)
  written_told w x (Copies t a b) bytes e = absurd (cc e)
  written_told w x (PutsText strict a n b m) bytes e = absurd (cc e)
  written_told w x (ComparesTexts r a n b m) bytes e = absurd (cc e)
  written_told w x (Calls how q vs) bytes e = absurd (cc e)
  written_told w x (Ends v) bytes e = absurd (cc e)
  written_told w x (Makes t vs) bytes e = absurd (cc e)
  written_told w x (Starts v) bytes e = absurd (cc e)
  written_told w x Enters bytes e = absurd (cc e)
  written_told w x Leaves bytes e = absurd (cc e)
  written_told w x (Awaits c) bytes e = absurd (cc e)
  written_told w x (Places a) bytes e = absurd (cc e)
  written_told w x (Lengths a) bytes e = absurd (cc e)
  written_told w x (Opens v) bytes e = absurd (cc e)
  written_told w x (Sizes v d) bytes e = absurd (cc e)
  written_told w x (Tests v t) bytes e = absurd (cc e)

  stored_told : (w : World Sort) (x : Rooted (Content Value)) (q : Question) (root : Root) (change : Content Value → Content Value) → IsStored p x q root change → IsTold p w q done
  stored_told w x _ _ _ (OneScalar a v) = tt
  stored_told w x _ _ _ (OneWhole t from to new old e e') = tt
  stored_told w x _ _ _ (OneText strict from n to room cs old fits e) = tt

  -- the frames with a result
  popped_held : (following : List ℕ) (s : Store) (v : Value) (fs : List Frame) → Held p s fs → Held p s (with_result following v fs)
  popped_held following s v [] h = h
  popped_held following s v (f ∷ fs) h = record { memory = h.memory; stores = h.stores; frames = h.frames }

  module _ (typed : HasTypes p) (names : HasNames p) (following : List ℕ) (s : Store) (f : Frame) (fs : List Frame) (t : Turned) (n : ℕ) (ns : List ℕ) (are : AreOf p (n ∷ ns) (f ∷ fs)) (all : AllTyped p s.made (n ∷ ns) (f ∷ fs)) (held : Held p s (f ∷ fs)) where
    abbrev pub Is_it : List ℕ → Store → List Frame → Type 0
    Is_it ms store frames = AllTyped p store.made ms frames × Held p store frames

    abbrev now : World Sort
    now = world_of p s.made (shapes_of (f ∷ fs))

    abbrev at : Frame → World Sort
    at g = world_of p s.made (shapes_of (g ∷ fs))

    abbrev k : FrameTyped p now n f (length fs)
    k = all.0

    hold : Fits (Is p now) f.shape f.variables
    hold = top_fits p s.made f fs held.frames

    -- The frame as it stands.

    same_now : (g : Frame) → Stands p s f fs g → at g ≡ now
    same_now g st = ap (λ (z : Frame). world_of p s.made (shapes_of (z ∷ fs))) st.same.is

    standing : (g : Frame) → Stands p s f fs g → AllTyped p s.made (n ∷ ns) (g ∷ fs)
    standing g st = (subst (λ w. FrameTyped p w n g (length fs)) (sym (same_now g st)) (stands_typed p typed s f fs n are.0 k hold g st), all.1)

    held_at : (g : Frame) → Stands p s f fs g → Held p s (g ∷ fs)
    held_at g st = subst (λ z. Held p s (z ∷ fs)) (sym st.same.is) (record { memory = held.memory; stores = held.stores; frames = held.frames })

    -- what it asks is valid
    valid_at : (g : Frame) → Stands p s f fs g → (q : Question) → IsAsking p g fs q → Valid p (here_of f fs) (at g) q
    valid_at g st q asks = subst (λ w. Valid p (here_of f fs) w q) (sym (same_now g st)) (asked p typed s f fs n are.0 k hold g st q asks).0

    answering : (g : Frame) → Stands p s f fs g → (q : Question) → IsAsking p g fs q → (v : Value) → IsTold p (at g) q v → Is_it (n ∷ ns) s (answered v g ∷ fs)
    answering g st q asks v is =
        let h = held_at g st in
        let frames = standing g st in
        ((answered_typed p (at g) n g fs q asks v is frames.0, frames.1), record { memory = h.memory; stores = h.stores; frames = h.frames })

    told_true : (g : Frame) → Stands p s f fs g → (q : Question) → IsAsking p g fs q → MakesNone q → CallsNone p q → IsTold p (at g) q (told_as (all_rooted (g ∷ fs) s) q)
    told_true g st (Reads ty a) asks none absent = read_is p typed s (g ∷ fs) (held_at g st) ty a (valid_at g st (Reads ty a) asks).1
    told_true g st (ComparesTexts r a i b j) asks none absent = tt
    told_true g st (Calls how q vs) asks none absent = λ r there. absurd (let no : None ≡ Some r = sym absent ∙ there in cc no)
    told_true g st (Stores a v) asks none absent = tt
    told_true g st (Copies ty a b) asks none absent = tt
    told_true g st (PutsText strict a i b j) asks none absent = tt
    told_true g st (Ends v) asks none absent = tt
    told_true g st (Makes ty vs) asks none absent = absurd none
    told_true g st (Starts v) asks none absent = tt
    told_true g st Enters asks none absent = tt
    told_true g st Leaves asks none absent = tt
    told_true g st (Awaits c) asks none absent = tt
    told_true g st (PutsInt v i) asks none absent = tt
    told_true g st (PutsChar v) asks none absent = tt
    told_true g st (PutsString a i) asks none absent = tt
    told_true g st PutsNothing asks none absent = tt
    told_true g st PutsLn asks none absent = tt
    told_true g st (Places a) asks none absent = absurd none
    told_true g st (Lengths a) asks none absent = absurd none
    told_true g st (Opens v) asks none absent = absurd none
    told_true g st (Sizes v d) asks none absent = absurd none
    told_true g st (Tests v ty) asks none absent = absurd none

    -- The frame below, with a result.

    below_typed : (v : Option Value) → IsResult p now (result_of k.routine.own) v → (ms : List ℕ) (gs : List Frame) → StandsOnAll p n f ms gs → AllTyped p s.made ms gs → AllTyped p s.made ms (with_result following (answer_in v) gs)
    below_typed v h [] [] stands below = below
    below_typed v h (m ∷ ms) [] stands below = absurd below
    below_typed v h [] (b ∷ bs) stands below = absurd below
    below_typed v h (m ∷ ms) (b ∷ bs) stands below =
        let w = world_of p s.made (shapes_of (b ∷ bs)) in
        let is : IsTold p w (Calls stands.how n stands.arguments) (answer_in v) = λ r there.
        let both : Some k.routine ≡ Some r = sym k.there ∙ there in
        let same : k.routine ≡ r = cc both in subst (λ (z : Routine). IsAnswer p w (result_of z.own) (answer_in v)) same (result_told now w (λ o m e. e) (result_of k.routine.own) v h) in
        (answered_typed p w m b bs (Calls stands.how n stands.arguments) stands.asks (answer_in v) is below.0, below.1)

    -- What is stored.

    stored_so : (g : Frame) (st : Stands p s f fs g) (q : Question) (asks : IsAsking p g fs q) (root : Root) (change : Content Value → Content Value) → IsStored p (all_rooted (g ∷ fs) s) q root change
        → Is_it (n ∷ ns) (store_with root change s) (frames_with root change (answered done g ∷ fs))
    stored_so g st q asks root change stored =
        let frames = answered done g ∷ fs in
        let x = answering g st q asks done (stored_told (at g) (all_rooted (g ∷ fs) s) q root change stored) in (
          subst (λ made. AllTyped p made (n ∷ ns) (frames_with root change frames)) (made_with p root change s)
              (typed_moved p s.made (n ∷ ns) frames (frames_with root change frames) (texts_with root change frames) x.0),
          stored_held p typed s frames x.1 (here_of f fs) q root change stored (valid_at g st q asks),
        )

    -- An object is made.

    created_so : (g : Frame) (st : Stands p s f fs g) (ty : ℕ) (vs : List Value) (ks : List ℕ) (asks : IsAsking p g fs (Makes ty vs)) → array_lengths (map number_of vs) ≡ Some ks →
        let m : Made = record { type = ty; lengths = ks } in
        let c = first_content (first_value p) (made_shape p.types m) in
        has_room m c s ≡ true → Is_it (n ∷ ns) (with_object m c s) (answered (Object (new_number s)) g ∷ fs)
    created_so g st ty vs ks asks are_lengths room =
        let m : Made = record { type = ty; lengths = ks } in
        let h = held_at g st in
        let mem = h.memory in
        let stores = h.stores in
        let valid = valid_at g st (Makes ty vs) asks in
        let small = roomy p s mem stores m room in
        let made : List Made = s.made ++ m ∷ [] in
        let w : World Sort = world_of p made (shapes_of (g ∷ fs)) in
        let new = made_alike (Is p) cell_of IsPlain (values_kept p) (first_value p) (zero_cell p) (first_is p) (first_same p) (scheme p) s.made (shapes_of (g ∷ fs)) m (variables p typed s (g ∷ fs) h) (cells p typed s (g ∷ fs) h) (made_plain p m) (shows p typed s (g ∷ fs) h) in
        let last : length s.made ≡ length s.made + 0 = omega arith in
        let found : by_number (new_number s) made ≡ Some m = get_right s.made (m ∷ []) (length s.made) 0 last in
        let lengths : HasLengths p (row_of p.types (id_of_made ty)) m =
        subst (λ z. HasLengths p (row_of p.types (id_of_made z)) (record { type = z; lengths = ks })) (sym valid.1)
        (made_lengths p valid.0 (length vs) vs ks refl (valid.3 ∙ ap (λ z. open_dimensions p.types (id_of_made z)) valid.1) are_lengths small.1) in
        let few : AreFew p made = All-append (IsFew p) s.made (m ∷ []) stores.few (All-cons (IsFew p) m [] (small.0, lengths) (All-nil (IsFew p))) in
        let told : IsTold p w (Makes ty vs) (Object (new_number s)) = (m, record { number = length s.made; is = refl; made = found }, refl, lengths) in
        let grown = all_typed_grow p s.made (m ∷ []) (n ∷ ns) (g ∷ fs) (standing g st) in (
          (answered_typed p w n g fs (Makes ty vs) asks (Object (new_number s)) told grown.0, grown.1),
          record {
            memory = record { modules = mem.modules; objects = mem.objects ++ map (zero_cell p) (leaves (made_shape p.types m)) ∷ []; made = made };
            stores = record { made = refl; few = few; of_modules = new.of_modules; of_objects = new.of_objects };
            frames = (h.frames.0, new.of_frames);
          },
        )

    -- A routine is called.

    called_so : (g : Frame) (st : Stands p s f fs g) (how : Manner) (q : ℕ) (vs : List Value) (asks : IsAsking p g fs (Calls how q vs)) (r : Routine) → by_number q (routines p) ≡ Some r →
        let new = called_frame p following r vs (g ∷ fs) s in is_deep following new (g ∷ fs) ≡ false → Is_it (q ∷ n ∷ ns) s (new ∷ g ∷ fs)
    called_so g st how q vs asks r there small =
        let h = held_at g st in
        let seen = valid_at g st (Calls how q vs) asks in
        let both : Some seen.0 ≡ Some r = sym seen.1 ∙ there in
        let same : seen.0 ≡ r = cc both in
        let takes : Given p (at g) (parameters_of r.own) (arguments_in (has_self r.own) vs) = subst (λ (z : Routine). Given p (at g) (parameters_of z.own) (arguments_in (has_self z.own) vs)) same seen.2 in
        let on : IsCalledOn p (λ o. by_number o s.made) (self_type r.own) vs = subst (λ (z : Routine). IsCalledOn p (λ o. by_number o s.made) (self_type z.own) vs) same seen.3 in
        let new = called_frame p following r vs (g ∷ fs) s in
        let w : World Sort = world_of p s.made (shapes_of (new ∷ g ∷ fs)) in
        let kinds = leaves (row (parts_of p.types r.home r.body r.own)) in
        let few = few_scalars (length (g ∷ fs)) (sum_by (λ (z : Frame). z.counted) (g ∷ fs)) new small in
        let show = call_shown p typed.ranked [] following s.made (g ∷ fs) s (cells p typed s (g ∷ fs) h) (shows p typed s (g ∷ fs) h) r vs takes kinds refl in
        let top : FrameTyped p w q new (length (g ∷ fs)) = record {
          routine = r;
          there = there;
          function = refl;
          frame = call_frame_of p typed.ranked [] following s.made (g ∷ fs) s (cells p typed s (g ∷ fs) h) (shows p typed s (g ∷ fs) h) r vs takes kinds refl few;
          self = self_called (λ o. by_number o s.made) r vs on;
          items = body_gives w r.own r.body;
          answers = tt;
        } in
        ((top, standing g st), record { memory = h.memory; stores = h.stores; frames = (_ ∷ h.frames.0, (show, h.frames.1)) })

    pub step_typed : (kind : Kind p following s f fs t) → Is_it (numbers_after p names following s f fs t kind n ns) t.store t.frames.frames
    step_typed (Settled g st fresh x) = given p following s f fs (Is_it (n ∷ ns)) t s (g ∷ fs) _ _ x (standing g st, held_at g st)
    step_typed (Stopped g number code st x) = given p following s f fs (Is_it (n ∷ ns)) t s (g ∷ fs) _ _ x (standing g st, held_at g st)
    step_typed (Left g q work st asks leaves_it x) = given p following s f fs (Is_it (n ∷ ns)) t s (g ∷ fs) _ _ x (standing g st, held_at g st)
    step_typed (Popped v left x) =
        let below : Held p s fs = record { memory = held.memory; stores = held.stores; frames = hold_below p s.made f fs held.frames } in
        given p following s f fs (Is_it ns) t s (with_result following (answer_in v) fs) _ _ x
        (below_typed v (left_gives p typed s f fs n are.0 k hold v left) ns fs are.1.0 all.1, popped_held following s (answer_in v) fs below)
    step_typed (Told g q none absent st asks x) = given p following s f fs (Is_it (n ∷ ns)) t s (answered _ g ∷ fs) _ _ x (answering g st q asks _ (told_true g st q asks none absent))
    step_typed (Written g q bytes st asks w x) = given p following s f fs (Is_it (n ∷ ns)) t s (answered done g ∷ fs) _ _ x (answering g st q asks done (written_told (at g) _ q bytes w))
    step_typed (Stored g q root change st asks stored x) = given p following s f fs (Is_it (n ∷ ns)) t _ _ _ _ x (stored_so g st q asks root change stored)
    step_typed (Created g ty vs ks st asks are_lengths room x) = given p following s f fs (Is_it (n ∷ ns)) t _ _ _ _ x (created_so g st ty vs ks asks are_lengths room)
    step_typed (Called g how q vs r st asks there small x) = given p following s f fs (Is_it (q ∷ n ∷ ns)) t s _ _ _ x (called_so g st how q vs asks r there small)
