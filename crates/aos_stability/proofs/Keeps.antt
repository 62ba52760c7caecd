-- Each kind of turn keeps what frames hold and were told true of their routines, and all that is stored free of places of guarded variables.
use Rattle.std.proofs.Common.{◌≡◌, ℕ, suc, List, [], ◌∷◌, length, Option, Some, refl, sym, ap, ◌∙◌, subst}
use Rattle.aos_base.specs.declared.root.Root.{Root}
use Rattle.aos_base.specs.Question.{Manner, Reads, Stores, Copies, PutsText, ComparesTexts, Calls, Ends, Makes, Starts, Enters, Leaves, Awaits, PutsInt, PutsChar, PutsString, PutsNothing, PutsLn, Places, Lengths, Opens, Sizes, Tests}
use Rattle.aos_base.specs.Rooted.{Made, Rooted, by_number}
use Rattle.aos_types.specs.Content.{Content, EachSort, Scalar}
use Rattle.aos_types.specs.Shape.{Shape}
use Rattle.aos_types.specs.World.{World, read, shape_at}
use Rattle.aos_typed.specs.declared.tree.TType.{TType}
use Rattle.aos_typed.specs.Numbers.{id_of}
use Rattle.aos_typed.specs.Program.{Procedure, Program}
use Rattle.aos_typed.specs.Routines.{Routine, has_self, parameters_of, routines, self_type}
use Rattle.aos_typed.specs.Sort.{Sort, Plain}
use Rattle.aos_typed.specs.Location.{Location}
use Rattle.aos_typed.specs.Store.{Store, made_in, store_with, value_at}
use Rattle.aos_typed.specs.Typing.{Is, IsPlain}
use Rattle.aos_typed.specs.Value.{Value}
use Rattle.aos_typed.specs.Meaning.{Question}
use Rattle.aos_typed.specs.Source.{Frame, Turned, all_rooted, answered, arguments_in, called_frame, done, first_value, frames_with, here_of, with_result}
use Rattle.aos_sim.proofs.Does.{HasTypes, HasScalar, Given, IsCalledOn, Valid}
use Rattle.aos_sim.proofs.States.{shapes_of, world_of}
use Rattle.aos_handover.specs.Kinds.{answer_in, told_as, written_by, IsAsking, IsStored, OneScalar, OneWhole, OneText, Kind, Settled, Stopped, Left, Popped, Told, Written, Stored, Created, Called, MakesNone, Stands}
use Rattle.aos_escape.specs.Naming.{AreOf, ContentIs, StandsOnAll, StoreIs, VariablesAre}
use Rattle.aos_escape.proofs.Building.{SameTexts, NoFrames, OneMore, numbers_after, texts_length, texts_with}
use Rattle.aos_escape.proofs.Names.{HasNames}
use Rattle.aos_escape.proofs.Steps.{given}
use Rattle.aos_escape.proofs.Values.{first_is, found_same, object_added, overlay_is, placed_is, read_is, sort_begins, store_is, text_is, value_is, vars_with}
use Rattle.aos_preservation.proofs.Steps.{self_called}
use Rattle.aos_stability.specs.Locations.{IsFree, IsTold}
use Rattle.aos_stability.proofs.Copies.{FramesKeep, IsNoPlace, copies_kept, frames_kept, stored_put}
use Rattle.aos_stability.proofs.Serve.{AllServe, FrameServes, answered_serves, asked_law, called_copies, called_free, left_serves, result_told, stands_serves}
use Rattle.aos_stability.proofs.Serving.{is_serves, plain_serves}
use Rattle.aos_stability.proofs.Statements.{ResultServes, block_serves}
use Rattle.aos_stability.proofs.Told.{free_simply}

module _ (p : Program) (typed : HasTypes p) (names : HasNames p) where
  -- with other variables
  serve_moved : (made : ℕ → Option Made) (ns : List ℕ) (fs gs : List Frame) → SameTexts fs gs → FramesKeep fs gs → VariablesAre (IsFree p made) gs → AllServe p typed made ns fs → AllServe p typed made ns gs
  serve_moved made [] _ _ NoFrames keep vars h = h
  serve_moved made (n ∷ ns) _ _ NoFrames keep vars h = h
  serve_moved made [] _ _ (OneMore f c fs gs same) keep vars h = h
  serve_moved made (n ∷ ns) _ _ (OneMore f c fs gs same) keep vars h =
      let k = h.0 in (
        subst (FrameServes p typed made n (record f { variables = c })) (texts_length fs gs same)
            (record {
              routine = k.routine;
              there = k.there;
              function = k.function;
              self = k.self;
              variables = vars.0;
              copies = copies_kept p k.routine.own f.variables c keep.0 k.copies;
              items = k.items;
              answers = k.answers;
            }),
        serve_moved made ns fs gs same keep.1 vars.1 h.1,
      )

  pub serve_variables : (made : ℕ → Option Made) (ns : List ℕ) (fs : List Frame) → AllServe p typed made ns fs → VariablesAre (IsFree p made) fs
  serve_variables made [] [] h = tt
  serve_variables made (n ∷ ns) [] h = tt
  serve_variables made [] (f ∷ fs) h = absurd h
  serve_variables made (n ∷ ns) (f ∷ fs) h = (let k = h.0 in k.variables, serve_variables made ns fs h.1)

  -- what is written out is answered nothing
  written_told : (made : ℕ → Option Made) (own : Option Procedure) (x : Rooted (Content Value)) (q : Question) (bytes : List ℕ) → written_by x q ≡ Some bytes → IsTold p made own q done
  written_told made own x (PutsInt v n) bytes e = tt
  written_told made own x (PutsChar v) bytes e = tt
  written_told made own x (PutsString a n) bytes e = tt
  written_told made own x PutsNothing bytes e = tt
  written_told made own x PutsLn bytes e = tt
  written_told made own x (Reads t a) bytes e = absurd (cc e)
  written_told made own x (Stores a v) bytes e = absurd (cc e)
  written_told made own x (Copies t a b) bytes e = absurd (cc e)
  written_told made own x (PutsText strict a n b m) bytes e = absurd (cc e)
  written_told made own x (ComparesTexts r a n b m) bytes e = absurd (cc e)
  written_told made own x (Calls how q vs) bytes e = absurd (cc e)
  written_told made own x (Ends v) bytes e = absurd (cc e)
  written_told made own x (Makes t vs) bytes e = absurd (cc e)
  written_told made own x (Starts v) bytes e = absurd (cc e)
  written_told made own x Enters bytes e = absurd (cc e)
  written_told made own x Leaves bytes e = absurd (cc e)
  written_told made own x (Awaits c) bytes e = absurd (cc e)
  written_told made own x (Places a) bytes e = absurd (cc e)
  written_told made own x (Lengths a) bytes e = absurd (cc e)
  written_told made own x (Opens v) bytes e = absurd (cc e)
  written_told made own x (Sizes v d) bytes e = absurd (cc e)
  written_told made own x (Tests v t) bytes e = absurd (cc e)

  stored_told : (made : ℕ → Option Made) (own : Option Procedure) (x : Rooted (Content Value)) (q : Question) (root : Root) (change : Content Value → Content Value) → IsStored p x q root change → IsTold p made own q done
  stored_told made own x _ _ _ (OneScalar a v) = tt
  stored_told made own x _ _ _ (OneWhole t from to new old e e') = tt
  stored_told made own x _ _ _ (OneText strict from n to room cs old fits e) = tt

  module _ (following : List ℕ) (s : Store) (f : Frame) (fs : List Frame) (t : Turned) (n : ℕ) (ns : List ℕ) (are : AreOf p (n ∷ ns) (f ∷ fs)) (serve : AllServe p typed (made_in s) (n ∷ ns) (f ∷ fs)) (store : StoreIs (IsFree p (made_in s)) s) where
    abbrev made : ℕ → Option Made
    made = made_in s

    abbrev C : Value → Type 0
    C = IsFree p made

    abbrev now : World Sort
    now = world_of p s.made (shapes_of (f ∷ fs))

    abbrev k : FrameServes p typed made n f (length fs)
    k = serve.0

    abbrev Is_it : List ℕ → Store → List Frame → Type 0
    Is_it ms store frames = AllServe p typed made ms frames × StoreIs C store

    standing : (g : Frame) → Stands p s f fs g → AllServe p typed made (n ∷ ns) (g ∷ fs)
    standing g st = (stands_serves p typed s f fs n are.0 k g st, serve.1)

    -- its routine is the one with the number
    told_of : (q : Question) (v : Value) → IsTold p made k.routine.own q v → (r : Routine) → by_number n (routines p) ≡ Some r → IsTold p made r.own q v
    told_of q v is r there =
        let both : Some k.routine ≡ Some r = sym k.there ∙ there in
        let same : k.routine ≡ r = cc both in subst (λ (z : Routine). IsTold p made z.own q v) same is

    answering : (g : Frame) → Stands p s f fs g → (q : Question) → IsAsking p g fs q → (v : Value) → IsTold p made k.routine.own q v → AllServe p typed made (n ∷ ns) (answered v g ∷ fs)
    answering g st q asks v is = (answered_serves p typed made n g fs q asks v (told_of q v is) (stands_serves p typed s f fs n are.0 k g st), serve.1)

    variables : (g : Frame) → Stands p s f fs g → VariablesAre C (g ∷ fs)
    variables g st = serve_variables made (n ∷ ns) (g ∷ fs) (standing g st)

    below_serves : (v : Option Value) → ResultServes p typed made n k.routine v → (ms : List ℕ) (gs : List Frame) → StandsOnAll p n f ms gs → AllServe p typed made ms gs → AllServe p typed made ms (with_result following (answer_in v) gs)
    below_serves v h [] [] stands all = all
    below_serves v h (m ∷ ms) [] stands all = all
    below_serves v h [] (b ∷ bs) stands all = absurd all
    below_serves v h (m ∷ ms) (b ∷ bs) stands all =
        (answered_serves p typed made m b bs (Calls stands.how n stands.arguments) stands.asks (answer_in v) (λ r there. result_told p typed made r.own n k.routine k.there stands.how stands.arguments v h) all.0, all.1)

    stored_free : (g : Frame) (st : Stands p s f fs g) (q : Question) (asks : IsAsking p g fs q) (root : Root) (change : Content Value → Content Value) → IsStored p (all_rooted (g ∷ fs) s) q root change → (d : Content Value) → ContentIs C d → ContentIs C (change d)
    stored_free g st _ asks _ _ (OneScalar a v) d c =
        let may = (asked_law p typed s f fs n are.0 k g st (Stores a v) asks).2.0 in placed_is C a.path (Scalar v) d may.1 c
    stored_free g st _ asks _ _ (OneWhole ty from to new old e e') d c =
        let read_at = λ (a : Location). read_is C a.root a.path (g ∷ fs) s (variables g st) store in
        placed_is C to.path _ d (overlay_is C _ new old (found_same C _ new e (read_at from)) (found_same C _ old e' (read_at to))) c
    stored_free g st _ asks _ _ (OneText strict from i to room cs old fits e) d c =
        placed_is C to.path _ d (text_is p C (free_simply p made) cs old (found_same C _ old e (read_is C to.root to.path (g ∷ fs) s (variables g st) store))) c

    module _ (valid : (x : Frame) → Stands p s f fs x → (q : Question) → IsAsking p x fs q → Valid p (here_of f fs) now q) (typed_at : (ty : TType) (a : Location) → HasScalar p now a (Plain (id_of ty)) → Is p now (Plain (id_of ty)) (value_at a (all_rooted (f ∷ fs) s)))
        (plain_at : (r : Root) (path : List ℕ) (shape : Shape Sort) → shape_at now r path ≡ Some shape → EachSort IsPlain shape → (old : Content Value) × (read r path (all_rooted (f ∷ fs) s) ≡ Some old) × ContentIs IsNoPlace old) where
      told_true : (g : Frame) → Stands p s f fs g → (q : Question) → IsAsking p g fs q → MakesNone q → IsTold p made k.routine.own q (told_as (all_rooted (g ∷ fs) s) q)
      told_true g st (Reads ty a) asks none =
          let seen = valid g st (Reads ty a) asks in
          let same = ap (λ (y : Frame). value_at a (all_rooted (y ∷ fs) s)) st.same.is in
          is_serves p typed now ty (value_at a (all_rooted (g ∷ fs) s)) (subst (Is p now (Plain (id_of ty))) (sym same) (typed_at ty a seen.1))
          (value_is p C (free_simply p made) a (g ∷ fs) s (variables g st) store)
      told_true g st (ComparesTexts r a i b j) asks none = (_, refl)
      told_true g st (Calls how q vs) asks none = λ y ty there e. plain_serves p typed made ty done refl refl tt
      told_true g st (Stores a v) asks none = tt
      told_true g st (Copies ty a b) asks none = tt
      told_true g st (PutsText strict a i b j) asks none = tt
      told_true g st (Ends v) asks none = tt
      told_true g st (Makes ty vs) asks none = absurd none
      told_true g st (Starts v) asks none = tt
      told_true g st Enters asks none = tt
      told_true g st Leaves asks none = tt
      told_true g st (Awaits c) asks none = tt
      told_true g st (PutsInt v i) asks none = tt
      told_true g st (PutsChar v) asks none = tt
      told_true g st (PutsString a i) asks none = tt
      told_true g st PutsNothing asks none = tt
      told_true g st PutsLn asks none = tt
      told_true g st (Places a) asks none = absurd none
      told_true g st (Lengths a) asks none = absurd none
      told_true g st (Opens v) asks none = absurd none
      told_true g st (Sizes v d) asks none = absurd none
      told_true g st (Tests v ty) asks none = absurd none

      called_serves : (g : Frame) → Stands p s f fs g → (how : Manner) (q : ℕ) (vs : List Value) → IsAsking p g fs (Calls how q vs) → (y : Routine) → by_number q (routines p) ≡ Some y → FrameServes p typed made q (called_frame p following y vs (g ∷ fs) s) (suc (length fs))
      called_serves g st how q vs asks y there =
          let seen = valid g st (Calls how q vs) asks in
          let both : Some seen.0 ≡ Some y = sym seen.1 ∙ there in
          let same : seen.0 ≡ y = cc both in
          let given = subst (λ (z : Routine). Given p now (parameters_of z.own) (arguments_in (has_self z.own) vs)) same seen.2 in
          let on = subst (λ (z : Routine). IsCalledOn p made (self_type z.own) vs) same seen.3 in
          let may = (asked_law p typed s f fs n are.0 k g st (Calls how q vs) asks).2.0 in
          record {
            routine = y;
            there = there;
            function = refl;
            self = self_called p made y vs on;
            variables = called_free p typed s (g ∷ fs) now (variables g st) store following y vs (may y there) given;
            copies = called_copies p typed s (g ∷ fs) now (variables g st) store following y vs;
            items = block_serves p typed made q y y.body.is_exclusive y.body.statements;
            answers = tt;
          }

      -- where something is stored no places stood
      stored_keeps : (g : Frame) (st : Stands p s f fs g) (q : Question) → IsAsking p g fs q → (root : Root) (change : Content Value → Content Value) → IsStored p (all_rooted (g ∷ fs) s) q root change
          → FramesKeep (answered done g ∷ fs) (frames_with root change (answered done g ∷ fs))
      stored_keeps g st q asks root change stored =
          let x = stored_put p now (here_of f fs) (all_rooted (g ∷ fs) s) q root change stored (valid g st q asks) in
          let old = plain_at root x.path x.shape x.there x.plain in
          let same = ap (λ (y : Frame). read root x.path (all_rooted (y ∷ fs) s)) st.same.is in
          subst (λ z. FramesKeep (answered done g ∷ fs) (frames_with root z (answered done g ∷ fs))) (sym x.is)
          (frames_kept x.path x.new old.0 old.2 root (answered done g ∷ fs) s (same ∙ old.1))

      pub step_serves : (kind : Kind p following s f fs t) → Is_it (numbers_after p names following s f fs t kind n ns) t.store t.frames.frames
      step_serves (Settled g st fresh x) = given p following s f fs (Is_it (n ∷ ns)) t s (g ∷ fs) _ _ x (standing g st, store)
      step_serves (Stopped g number code st x) = given p following s f fs (Is_it (n ∷ ns)) t s (g ∷ fs) _ _ x (standing g st, store)
      step_serves (Left g q work st asks leaves x) = given p following s f fs (Is_it (n ∷ ns)) t s (g ∷ fs) _ _ x (standing g st, store)
      step_serves (Popped v left x) =
          given p following s f fs (Is_it ns) t s (with_result following (answer_in v) fs) _ _ x (below_serves v (left_serves p typed s f fs n are.0 k v left) ns fs are.1.0 serve.1, store)
      step_serves (Told g q none absent st asks x) =
          given p following s f fs (Is_it (n ∷ ns)) t s (answered _ g ∷ fs) _ _ x (answering g st q asks _ (told_true g st q asks none), store)
      step_serves (Written g q bytes st asks w x) =
          given p following s f fs (Is_it (n ∷ ns)) t s (answered done g ∷ fs) _ _ x (answering g st q asks done (written_told made k.routine.own _ q bytes w), store)
      step_serves (Stored g q root change st asks stored x) =
          let ok = stored_free g st q asks root change stored in
          let frames = answered done g ∷ fs in
          let all = answering g st q asks done (stored_told made k.routine.own _ q root change stored) in
          let keep = stored_keeps g st q asks root change stored in
          given p following s f fs (Is_it (n ∷ ns)) t (store_with root change s) (frames_with root change frames) _ _ x (
            serve_moved made (n ∷ ns) frames (frames_with root change frames) (texts_with root change frames) keep (vars_with C change ok root frames (serve_variables made (n ∷ ns) frames all)) all,
            store_is C change ok root s store,
          )
      step_serves (Created g type vs ks st asks are' room x) =
          given p following s f fs (Is_it (n ∷ ns)) t _ (answered _ g ∷ fs) _ _ x (
            answering g st (Makes type vs) asks _ tt,
            record { modules = store.modules; objects = object_added C s.objects _ store.objects (first_is C (first_value p) _ (sort_begins p C (free_simply p made))) },
          )
      step_serves (Called g how q vs y st asks there few x) =
          given p following s f fs (Is_it (q ∷ n ∷ ns)) t s (called_frame p following y vs (g ∷ fs) s ∷ g ∷ fs) _ _ x ((called_serves g st how q vs asks y there, standing g st), store)
