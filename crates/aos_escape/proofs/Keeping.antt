-- After a turn nobody but whoever builds an object names it.
use Rattle.std.proofs.Common.{◌⊎◌, true, refl, ◌≢◌, ◌≤◌, arith, ◌≡◌, inl, inr, ℕ, List, [], ◌∷◌, Option, Some, None, sym, ap, ◌∙◌, subst}
use Rattle.aos_base.specs.declared.root.Root.{Root}
use Rattle.aos_base.specs.Question.{ByCreator, Upward, ByValue, ByType, ByName, Manner, Asks, Initially, Calls, Makes}
use Rattle.aos_base.specs.Rooted.{Made, by_number}
use Rattle.aos_types.specs.Content.{Content}
use Rattle.aos_typed.specs.Program.{Program}
use Rattle.aos_typed.specs.Routines.{has_self, routines, Routine}
use Rattle.aos_typed.specs.Value.{Value, Object}
use Rattle.aos_typed.specs.Store.{with_object, store_with, new_number, Store}
use Rattle.aos_typed.specs.Meaning.{Here, Question, object_in}
use Rattle.aos_typed.specs.Source.{first_value, arguments_in, called_frame, with_result, all_rooted, Turned, known, done, Frame, here_of, answered, frames_with}
use Rattle.aos_uses.specs.Guarded.{IsQuiet}
use Rattle.aos_handover.specs.Kinds.{Called, Created, Written, Told, answer_in, Popped, Left, Stopped, Settled, Kind, told_as, IsStored, written_by, MakesNone, Stored, IsAsking, Stands, HasNotAsked}
use Rattle.aos_escape.specs.Items.{ItemsFine}
use Rattle.aos_escape.specs.Naming.{IsLoud, IsPending, StoreIs, IsInitial, IsKept, ContentIs, AllAre, ItemsAre, FrameIs, VariablesAre, IsOther, HideAll, AreOf, Pends, Inside, Builds}
use Rattle.aos_escape.proofs.Names.{HasNames}
use Rattle.aos_escape.proofs.Telling.{Plainly}
use Rattle.aos_escape.proofs.Saying.{CallIs, ArgumentsAre, Says}
use Rattle.aos_escape.proofs.Values.{simply, sort_begins, first_is, variables_are, called_is, store_is, object_added, vars_with, answered_is}
use Rattle.aos_escape.proofs.Steps.{object_number, left_is, given, body_are, called_are, loud_plainly, changes_is, told_is, asked_says, stands_is, other_plainly}
use Rattle.aos_escape.proofs.Building.{numbers_after, called_on, come_next, inside_moved, number_with, stored_none, texts_with, SameTexts, builds_moved, written_none, made_none, answered_pends, fresh_not, standing_fine, pends_before, same_come, inside_vars, pends_loud}

-- what a pending frame calls is one thing
same_arguments : (p : Program) (o : ℕ) (f : Frame) (fs : List Frame) (x y : Pends p o f fs) → x.arguments ≡ y.arguments
same_arguments p o f fs x y =
    let both : Asks (Calls Initially x.number (x.value ∷ x.arguments)) x.asks.0 ≡ Asks (Calls Initially y.number (y.value ∷ y.arguments)) y.asks.0 = same_come p f fs _ _ x.asks.1 y.asks.1 in
    cc both

-- who calls a quiet initializer: another one, by ^, or NEW
who_calls : (p : Program) (n : ℕ) (here : Here) (m : Option Value) (how : Manner) (q : ℕ) (vs : List Value) → CallIs p n here (IsLoud p) m how q vs → IsQuiet p q →
    (IsQuiet p n × ((us : List Value) × (vs ≡ Object here.self ∷ us))) ⊎ ((how ≡ Initially) × (u : Value) × (us : List Value) × (vs ≡ u ∷ us))
who_calls p n here m ByName q vs h quiet = absurd (h.0.0 quiet)
who_calls p n here m ByType q vs h quiet = absurd (h.0.0 quiet)
who_calls p n here m ByValue q vs h quiet = absurd (h.0.0.1 quiet)
who_calls p n here m Upward q vs h quiet = inl (h.0.0 quiet, (h.1.0, h.1.1))
who_calls p n here m Initially q vs h quiet = inr (refl, h.1.0, h.1.1, h.1.3)
who_calls p n here m ByCreator q vs h quiet = absurd (h.0.0 quiet)

-- The end of a frame: whoever stands below it builds what it built.
popped_kept : (p : Program) (names : HasNames p) (Others : ℕ → Type 0) (following : List ℕ) (s : Store) (f : Frame) (n : ℕ) (o : ℕ) (v : Value) (ns : List ℕ) (fs : List Frame) → AreOf p (n ∷ ns) (f ∷ fs) →
    (Builds p o (n ∷ ns) (f ∷ fs) → IsKept p Others s (n ∷ ns) (f ∷ fs) o) → (0 ≢ o → IsInitial p o n f → IsOther o v) → Builds p o ns (with_result following v fs) → IsKept p Others s ns (with_result following v fs) o
popped_kept p names Others following s f n o v [] [] are known ok b = absurd b
popped_kept p names Others following s f n o v [] (g ∷ gs) are known ok b = absurd are.1.0
popped_kept p names Others following s f n o v (m ∷ ms) [] are known ok b = absurd are.1.0
popped_kept p names Others following s f n o v (m ∷ ms) (g ∷ gs) are known ok (inr h) =
    let on = are.1.0 in
    let below = are.1.1.0 in
    let x = answered_pends p names m below.routine o g gs (Calls on.how n on.arguments) v on.asks below.items h in
    let none : None ≡ Some x.0 = x.1 in absurd (cc none)
popped_kept p names Others following s f n o v (m ∷ ms) (g ∷ gs) are known ok (inl b) =
    let stands = are.1.0 in
    let on = stands.quiet b.0 in
    let k = known (inl (on.0, on.1 ∙ b.1)) in
    let own = are.0 in
    let below = are.1.1.0 in
    let first : IsInitial p o n f × Inside p o (m ∷ ms) (g ∷ gs) = (elim k.inside as (λ _. IsInitial p o n f × Inside p o (m ∷ ms) (g ∷ gs)) [
      | inl x ↦ x
      | inr x ↦ absurd (let y = x.0 in pends_loud p names n own.routine o f (g ∷ gs) own.items y.pends on.0)
    ]) in
    let next : IsInitial p o m g × Inside p o ms gs = (elim first.1 as (λ _. IsInitial p o m g × Inside p o ms gs) [
      | inl x ↦ x
      | inr x ↦ absurd (let y = x.0 in pends_loud p names m below.routine o g gs below.items y.pends b.0)
    ]) in
    let y = next.0 in
    record {
      old = k.old;
      real = k.real;
      inside = inl (record { quiet = b.0; object = b.1; values = answered_is (IsOther o) v g (ok k.real first.0) y.values }, next.1);
      store = k.store;
      others = k.others;
    }

module _ (p : Program) (names : HasNames p) (Others : ℕ → Type 0) (following : List ℕ) (s : Store) (f : Frame) (fs : List Frame) (t : Turned) (n : ℕ) (ns : List ℕ) (are : AreOf p (n ∷ ns) (f ∷ fs)) (o : ℕ)
    (known : Builds p o (n ∷ ns) (f ∷ fs) → IsKept p Others s (n ∷ ns) (f ∷ fs) o) where
  abbrev C : Value → Type 0
  C = IsOther o

  abbrev r : Routine
  r = let x = are.0 in x.routine

  fine : ItemsFine p n r f.items
  fine = let x = are.0 in x.items

  same_object : (g : Frame) → Stands p s f fs g → g.object ≡ f.object
  same_object g st = ap (λ (x : Frame). x.object) st.same.is

  -- A frame of a quiet initializer on the object, at the top.

  pub initial_of : IsQuiet p n → Inside p o (n ∷ ns) (f ∷ fs) → IsInitial p o n f × Inside p o ns fs
  initial_of quiet (inl h) = h
  initial_of quiet (inr h) = absurd (let x = h.0 in pends_loud p names n r o f fs fine x.pends quiet)

  record Known : Type 0 where
    kept : IsKept p Others s (n ∷ ns) (f ∷ fs) o
    initial : IsInitial p o n f
    below : Inside p o ns fs

  knows : (g : Frame) → Stands p s f fs g → IsQuiet p n → g.object ≡ o → Known
  knows g st quiet at =
      let k = known (inl (quiet, sym (same_object g st) ∙ at)) in
      let x = initial_of quiet k.inside in record { kept = k; initial = x.0; below = x.1 }

  module _ (k : Known) where
    plainly : Plainly p C
    plainly = let x = k.kept in other_plainly p o x.real

    values : FrameIs C f
    values = let x = k.initial in x.values

    quiet : IsQuiet p n
    quiet = let x = k.initial in x.quiet

    standing : (g : Frame) → Stands p s f fs g → FrameIs C g
    standing g st = stands_is p names n r C plainly s f fs fine (inr quiet) values g st

    said : (g : Frame) (st : Stands p s f fs g) (q : Question) (asks : IsAsking p g fs q) → (m : Option Value) × Says p n (here_of g fs) C m (Asks q asks.0)
    said g st q asks = asked_says p names n r C plainly s f fs fine (inr quiet) values g st q asks

    vars : (g : Frame) → Stands p s f fs g → VariablesAre C (g ∷ fs)
    vars g st = (let x = standing g st in x.variables, inside_vars p o ns fs k.below)

    -- with this frame at the top, over this store
    top : (store : Store) (g : Frame) → new_number s ≤ new_number store → StoreIs C store → FrameIs C g → g.object ≡ o → IsKept p Others store (n ∷ ns) (g ∷ fs) o
    top store g more stored is at =
        let x = k.kept in
        record { old = omega (arith, x.old, more); real = x.real; inside = inl (record { quiet = quiet; object = at; values = is }, k.below); store = stored; others = x.others }

    store : StoreIs C s
    store = let x = k.kept in x.store

  -- The frame of the NEW that made it, at the top.

  record Making : Type 0 where
    kept : IsKept p Others s (n ∷ ns) (f ∷ fs) o
    pending : IsPending p o f fs
    below : HideAll o fs

  made_inside : Pends p o f fs → IsKept p Others s (n ∷ ns) (f ∷ fs) o → Inside p o (n ∷ ns) (f ∷ fs) → Making
  made_inside h k (inl x) = absurd (let y = x.0 in pends_loud p names n r o f fs fine h y.quiet)
  made_inside h k (inr x) = record { kept = k; pending = x.0; below = x.1 }

  makes : Pends p o f fs → Making
  makes h = let k = known (inr h) in made_inside h k k.inside

  -- as it stands in a turn
  pends_still : (g : Frame) (st : Stands p s f fs g) (h : Pends p o g fs) → IsPending p o g fs × Making
  pends_still g st h =
      let before = pends_before p names n r s f fs fine o g st (standing_fine p names following s f fs t n ns are g st) h in
      let m = makes before.0 in
      let x = m.pending in (
        record {
          object = subst (λ b. b ≢ o) (sym (same_object g st)) x.object;
          variables = subst (ContentIs C) (sym (ap (λ (y : Frame). y.variables) st.same.is)) x.variables;
          items = subst (ItemsAre C) before.1 x.items;
          pends = h;
          arguments = subst (AllAre C) (same_arguments p o f fs x.pends before.0 ∙ before.2) x.arguments;
        },
        m,
      )

  -- Turns that leave the frame at the top.

  standing_kept : (g : Frame) → Stands p s f fs g → Builds p o (n ∷ ns) (g ∷ fs) → IsKept p Others s (n ∷ ns) (g ∷ fs) o
  standing_kept g st (inl b) = let k = knows g st b.0 b.1 in top k s g (omega arith) (store k) (standing k g st) b.1
  standing_kept g st (inr h) =
      let x = pends_still g st h in
      let k = x.1.kept in
      record { old = k.old; real = k.real; inside = inr (x.0, x.1.below); store = k.store; others = k.others }

  settled_kept : (g : Frame) → Stands p s f fs g → HasNotAsked g → Builds p o (n ∷ ns) (g ∷ fs) → IsKept p Others s (n ∷ ns) (g ∷ fs) o
  settled_kept g st fresh (inl b) = standing_kept g st (inl b)
  settled_kept g st fresh (inr h) = absurd (fresh_not p names n r s f fs fine o g (standing_fine p names following s f fs t n ns are g st) fresh h)

  answered_not : (g : Frame) (st : Stands p s f fs g) (q : Question) (v : Value) → IsAsking p g fs q → MakesNone q → Pends p o (answered v g) fs → ⊥
  answered_not g st q v asks none h =
      let x = answered_pends p names n r o g fs q v asks (standing_fine p names following s f fs t n ns are g st) h in
      made_none p names following s f fs t q v x.0 none x.1

  told_kept : (g : Frame) (q : Question) → MakesNone q → Stands p s f fs g → IsAsking p g fs q → let v = told_as (all_rooted (g ∷ fs) s) q in Builds p o (n ∷ ns) (answered v g ∷ fs) → IsKept p Others s (n ∷ ns) (answered v g ∷ fs) o
  told_kept g q none st asks (inl b) =
      let k = knows g st b.0 b.1 in
      let v = told_as (all_rooted (g ∷ fs) s) q in
      let ok = told_is p names n r C (plainly k) s f fs fine (inr b.0) (values k) g q (vars k g st) (store k) in
      top k s (answered v g) (omega arith) (store k) (answered_is C v g ok (standing k g st)) b.1
  told_kept g q none st asks (inr h) = absurd (answered_not g st q _ asks none h)

  written_kept : (g : Frame) (q : Question) (bytes : List ℕ) → written_by (all_rooted (g ∷ fs) s) q ≡ Some bytes → Stands p s f fs g → IsAsking p g fs q → Builds p o (n ∷ ns) (answered done g ∷ fs) → IsKept p Others s (n ∷ ns) (answered done g ∷ fs) o
  written_kept g q bytes w st asks (inl b) = let k = knows g st b.0 b.1 in top k s (answered done g) (omega arith) (store k) (answered_is C done g tt (standing k g st)) b.1
  written_kept g q bytes w st asks (inr h) = absurd (answered_not g st q done asks (written_none p names following s f fs t (all_rooted (g ∷ fs) s) q bytes w) h)

  stored_kept : (g : Frame) (q : Question) (root : Root) (change : Content Value → Content Value) → Stands p s f fs g → IsAsking p g fs q → IsStored p (all_rooted (g ∷ fs) s) q root change →
      Builds p o (n ∷ ns) (frames_with root change (answered done g ∷ fs)) → IsKept p Others (store_with root change s) (n ∷ ns) (frames_with root change (answered done g ∷ fs)) o
  stored_kept g q root change st asks stored builds = by (builds_moved p o (n ∷ ns) (answered done g ∷ fs) (frames_with root change (answered done g ∷ fs)) same builds)
    where
      same : SameTexts (answered done g ∷ fs) (frames_with root change (answered done g ∷ fs))
      same = texts_with root change (answered done g ∷ fs)

      by : Builds p o (n ∷ ns) (answered done g ∷ fs) → IsKept p Others (store_with root change s) (n ∷ ns) (frames_with root change (answered done g ∷ fs)) o
      by (inr h) = absurd (answered_not g st q done asks (stored_none p names following s f fs t (all_rooted (g ∷ fs) s) q root change stored) h)
      by (inl b) =
          let k = knows g st b.0 b.1 in
          let asked = said k g st q asks in
          let ok = changes_is p names n r C (plainly k) s f fs fine (inr b.0) (values k) g (here_of g fs) q root change asked.0 stored asked.1.0 (vars k g st) (store k) in
          let before = top k s (answered done g) (omega arith) (store k) (answered_is C done g tt (standing k g st)) b.1 in
          let x = k.kept in
          let e = number_with root change s in
          record {
            old = omega (arith, x.old, e);
            real = x.real;
            inside = inside_moved p o (n ∷ ns) (answered done g ∷ fs) (frames_with root change (answered done g ∷ fs)) same (vars_with C change ok root (answered done g ∷ fs) (vars k g st)) before.inside;
            store = store_is C change ok root s (store k);
            others = x.others;
          }

  created_kept : (g : Frame) (type : ℕ) (vs : List Value) (ks : List ℕ) (c : Content Value) → Stands p s f fs g → IsAsking p g fs (Makes type vs) → ((D : Value → Type 0) → Plainly p D → ContentIs D c)
      → (new_number s ≡ o → HideAll o (f ∷ fs) × (StoreIs C s × Others o))
      → let m : Made = record { type = type; lengths = ks } in let v = Object (new_number s) in Builds p o (n ∷ ns) (answered v g ∷ fs) → IsKept p Others (with_object m c s) (n ∷ ns) (answered v g ∷ fs) o
  created_kept g type vs ks c st asks plain fresh (inl b) =
      let m : Made = record { type = type; lengths = ks } in
      let v = Object (new_number s) in
      let k = knows g st b.0 b.1 in
      let x = k.kept in
      let e = object_number s m c in
      let h = store k in
      top k (with_object m c s) (answered v g) (omega (arith, e)) (record { modules = h.modules; objects = object_added C s.objects c h.objects (plain C (plainly k)) })
      (answered_is C v g (λ same. absurd (let old = x.old in omega (arith, old, same))) (standing k g st)) b.1
  created_kept g type vs ks c st asks plain fresh (inr h) =
      let m : Made = record { type = type; lengths = ks } in
      let v = Object (new_number s) in
      let fine' = standing_fine p names following s f fs t n ns are g st in
      let x = answered_pends p names n r o g fs (Makes type vs) v asks fine' h in
      let is : v ≡ x.0 = cc x.1 in
      let at : new_number s ≡ o = ap object_in is ∙ x.2 in
      let real : 0 ≢ o = λ z. absurd (omega (arith, at, z)) in
      let all = fresh at in
      let hidden = all.0 in
      let own = hidden.values.0 in
      let self = hidden.selves.0 in
      let plain' = other_plainly p o real in
      let standing' = stands_is p names n r C plain' s f fs fine (inl self) own g st in
      let asked = asked_says p names n r C plain' s f fs fine (inl self) own g st (Makes type vs) asks in
      let args = subst (ArgumentsAre C) (come_next p g fs (Makes type vs) asks.0 v _ asks.1 h.asks.1) (asked.1.1.0 v) in
      let e = object_number s m c in
      let h' = all.1.0 in
      record {
        old = omega (arith, at, e);
        real = real;
        inside = inr (
          record { object = subst (λ b. b ≢ o) (sym (same_object g st)) self; variables = standing'.variables; items = standing'.items; pends = h; arguments = args },
          record { selves = hidden.selves.1; values = hidden.values.1 },
        );
        store = record { modules = h'.modules; objects = object_added C s.objects c h'.objects (plain C plain') };
        others = all.1.1;
      }

  -- A call.

  called_kept : FrameIs (IsLoud p) f → (g : Frame) (how : Manner) (q : ℕ) (vs : List Value) (y : Routine) → Stands p s f fs g → IsAsking p g fs (Calls how q vs) → by_number q (routines p) ≡ Some y →
      let new = called_frame p following y vs (g ∷ fs) s in Builds p o (q ∷ n ∷ ns) (new ∷ g ∷ fs) → IsKept p Others s (q ∷ n ∷ ns) (new ∷ g ∷ fs) o
  called_kept loud g how q vs y st asks there (inr h) = let c = h.asks.1 in let none : None ≡ Some c.answers = c.begun in absurd (cc none)
  called_kept loud g how q vs y st asks there (inl b) =
      let asked = asked_says p names n r (IsLoud p) (loud_plainly p names) s f fs fine (inl tt) loud g st (Calls how q vs) asks in
      by (who_calls p n (here_of g fs) asked.0 how q vs asked.1.0 b.0)
    where
      by : (IsQuiet p n × ((us : List Value) × (vs ≡ Object g.object ∷ us))) ⊎ ((how ≡ Initially) × (u : Value) × (us : List Value) × (vs ≡ u ∷ us)) → IsKept p Others s (q ∷ n ∷ ns) (called_frame p following y vs (g ∷ fs) s ∷ g ∷ fs) o
      by (inl x) =
          let at : g.object ≡ o = sym (called_on p names following s f fs t q y vs x.1.0 (Object g.object) there b.0 x.1.1) ∙ b.1 in
          let k = knows g st x.0 at in
          let asked = said k g st (Calls how q vs) asks in
          let args = called_are p names n r C (plainly k) (here_of g fs) asked.0 how q vs y there asked.1.0 (inr x.0) in
          let before = top k s g (omega arith) (store k) (standing k g st) at in
          record {
            old = before.old;
            real = before.real;
            inside = inl (
              record { quiet = b.0; object = b.1; values = record { variables = called_is p C (simply p C (plainly k)) (λ a. tt) following y vs (g ∷ fs) s args (vars k g st) (store k); items = body_are C y.body; answers = tt } },
              before.inside,
            );
            store = before.store;
            others = before.others;
          }
      by (inr x) =
          let pends : Pends p o g fs = record {
            number = q;
            value = x.1;
            arguments = x.2;
            asks = subst (λ z. IsAsking p g fs z) (λ i. Calls (x.0 i) q (x.3 i)) asks;
            is = sym (called_on p names following s f fs t q y vs x.2 x.1 there b.0 x.3) ∙ b.1;
          } in
          let m = pends_still g st pends in
          let k = m.1.kept in
          let top = m.0 in
          let below = m.1.below in
          let hidden : AllAre C x.2 = subst (AllAre C) (same_arguments p o g fs top.pends pends) top.arguments in
          let method = names.selves q y there b.0 in
          let args : AllAre C (arguments_in (has_self y.own) vs) = subst (λ z. AllAre C (arguments_in z vs)) (sym method) (subst (λ z. AllAre C (arguments_in true z)) (sym x.3) hidden) in
          let all : VariablesAre C (g ∷ fs) = (top.variables, variables_are C fs below.values) in
          record {
            old = k.old;
            real = k.real;
            inside = inl (
              record { quiet = b.0; object = b.1; values = record { variables = called_is p C (simply p C (other_plainly p o k.real)) (λ a. tt) following y vs (g ∷ fs) s args all k.store; items = body_are C y.body; answers = tt } },
              inr (top, below),
            );
            store = k.store;
            others = k.others;
          }

  -- whoever builds the object after the turn is known to hide it
  abbrev Keeps : List ℕ → Store → List Frame → Type 0
  Keeps ms store frames = Builds p o ms frames → IsKept p Others store ms frames o

  pub step_kept : FrameIs (IsLoud p) f → (new_number s ≡ o → HideAll o (f ∷ fs) × (StoreIs C s × Others o)) → (kind : Kind p following s f fs t) → Keeps (numbers_after p names following s f fs t kind n ns) t.store t.frames.frames
  step_kept loud fresh (Settled g st none x) = given p following s f fs (Keeps (n ∷ ns)) t s (g ∷ fs) _ _ x (settled_kept g st none)
  step_kept loud fresh (Stopped g number code st x) = given p following s f fs (Keeps (n ∷ ns)) t s (g ∷ fs) _ _ x (standing_kept g st)
  step_kept loud fresh (Left g q work st asks leaves x) = given p following s f fs (Keeps (n ∷ ns)) t s (g ∷ fs) _ _ x (standing_kept g st)
  step_kept loud fresh (Popped v left x) =
      given p following s f fs (Keeps ns) t s (with_result following (answer_in v) fs) _ _ x
      (popped_kept p names Others following s f n o (answer_in v) ns fs are known
      (λ real i. left_is p names n r C (other_plainly p o real) s f fs fine (inr i.quiet) i.values v left))
  step_kept loud fresh (Told g q none absent st asks x) = given p following s f fs (Keeps (n ∷ ns)) t s _ _ _ x (told_kept g q none st asks)
  step_kept loud fresh (Written g q bytes st asks w x) = given p following s f fs (Keeps (n ∷ ns)) t s _ _ _ x (written_kept g q bytes w st asks)
  step_kept loud fresh (Stored g q root change st asks stored x) = given p following s f fs (Keeps (n ∷ ns)) t _ _ _ _ x (stored_kept g q root change st asks stored)
  step_kept loud fresh (Created g type vs ks st asks made room x) =
      given p following s f fs (Keeps (n ∷ ns)) t _ _ _ _ x
      (created_kept g type vs ks _ st asks (λ D plain. first_is D (first_value p) _ (sort_begins p D (simply p D plain))) fresh)
  step_kept loud fresh (Called g how q vs y st asks there few x) = given p following s f fs (Keeps (q ∷ n ∷ ns)) t s _ _ _ x (called_kept loud g how q vs y st asks there)
