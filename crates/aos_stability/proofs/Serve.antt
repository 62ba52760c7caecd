-- What a frame holds and was told is true of its routine, and so is what it asks next.
use Rattle.std.proofs.Common.{◌≡◌, ℕ, zero, suc, List, [], ◌∷◌, ◌++◌, length, map, ◌+◌, Bool, true, false, Option, Some, None, refl, sym, ap, ◌∙◌, subst, if◌then◌else◌}
use Rattle.std.specs.Prelude.{pos, take, drop, is_some}
use Rattle.aos_base.specs.Question.{Val, Asks, feed, Manner, Calls}
use Rattle.aos_base.specs.Rooted.{Made, Rooted, by_number}
use Rattle.aos_types.specs.declared.row.TypeId.{TypeId}
use Rattle.aos_types.specs.Content.{Content}
use Rattle.aos_types.specs.Table.{row_of as type_row, is_open, is_record, is_scalar}
use Rattle.aos_types.specs.World.{World}
use Rattle.aos_typed.specs.declared.tree.TType.{TType}
use Rattle.aos_typed.specs.declared.tree.TType.TheVariants.{Boolean}
use Rattle.aos_typed.specs.CallFrame.{content_at, copied, hand, handed, head, open_part, own_part, scalar, whole}
use Rattle.aos_typed.specs.Numbers.{id_of}
use Rattle.aos_typed.specs.Open.{open_dimensions, open_element}
use Rattle.aos_typed.specs.Program.{Parameter, Procedure, Program, Repeat}
use Rattle.aos_typed.specs.Routines.{Routine, gives, has_self, locals_of, parameters_of, result_of, routines, self_type}
use Rattle.aos_typed.specs.Sort.{Sort, Plain, Variable, Alias, variable_shape}
use Rattle.aos_typed.specs.Store.{Store, made_in}
use Rattle.aos_typed.specs.Value.{Value, Int, Place, is_true}
use Rattle.aos_typed.specs.Meaning.{Here, Question, Doing, Item, Do, Rounds, Round, Until, Region, End, Gives, After, Into, item_of, value_of}
use Rattle.aos_typed.specs.Source.{Frame, all_rooted, answered, arguments_in, called_frame, here_of, local_part, noted, told}
use Rattle.aos_sim.proofs.Does.{HasTypes, Given, Handles, IsSelf, self_grows}
use Rattle.aos_uses.specs.Guarded.{IsGuarded, Spares}
use Rattle.aos_uses.specs.declared.uses.Use.{Use}
use Rattle.aos_uses.specs.declared.uses.Variable.{Variable as GuardedVariable}
use Rattle.aos_uses.specs.Uses.{expr_uses, stats_uses}
use Rattle.aos_handover.specs.Kinds.{answer_in, follow, so_far, IsAsking, IsNext, Stood, Followed, AnotherRound, Repeated, Behind, HasHad, Rests, Begins, GoesOn, Tested, IsLeft, AtEnd, AtResult, Nowhere, Stands}
use Rattle.aos_escape.specs.Items.{has_mark, item_uses, ItemsFine}
use Rattle.aos_escape.specs.Naming.{AllAre, ContentIs, IsOf, StoreIs, VariablesAre}
use Rattle.aos_escape.proofs.Items.{had_fine, next_fine, part}
use Rattle.aos_escape.proofs.Values.{HandedIs, Simply, content_is, cut_is, hand_is, lengths_row, locals_are, parts_more, parts_row}
use Rattle.aos_stability.specs.Locations.{AreFreeFor, AreTold, IsFree, IsTold, Serves}
use Rattle.aos_stability.proofs.Copies.{HoldCopies, handed_copies}
use Rattle.aos_stability.proofs.Law.{Law, value_law}
use Rattle.aos_stability.proofs.Statements.{AfterServes, ItemsServe, ResultServes, item_law, spared}
use Rattle.aos_handover.proofs.Items.{follow_gives, first_gives, rest_gives}
use Rattle.aos_stability.proofs.Told.{all_told_grow, content_more, free_grows, free_simply, items_grow, law_fed, noted_alone, noted_told, plain_free, told_more}

module _ (p : Program) (typed : HasTypes p) where
  -- the answers so far are true
  abbrev pub AreAnswers : (ℕ → Option Made) → Option Procedure → Here → Option (List Value) → List Item → Type 0
  AreAnswers made own here None is = Unit {0}
  AreAnswers made own here (Some vs) [] = ⊥
  AreAnswers made own here (Some vs) (i ∷ is) = AreTold p made own vs (item_of p here i)

  -- a frame of the routine with this number, above so many others
  pub record FrameServes (made : ℕ → Option Made) (n : ℕ) (f : Frame) (below : ℕ) : Type 0 where
    pub routine : Routine
    pub there : by_number n (routines p) ≡ Some routine
    pub function : f.gives ≡ gives routine.own
    pub self : IsSelf p made (self_type routine.own) f.object
    pub variables : ContentIs (IsFree p made) f.variables
    pub copies : HoldCopies p routine.own f.variables
    pub items : ItemsServe p typed made n routine f.items
    pub answers : AreAnswers made routine.own (record { below = below; self = f.object }) f.answers f.items

  abbrev pub AllServe : (ℕ → Option Made) → List ℕ → List Frame → Type 0
  AllServe made [] [] = Unit {0}
  AllServe made [] (f ∷ fs) = ⊥
  AllServe made (n ∷ ns) [] = ⊥
  AllServe made (n ∷ ns) (f ∷ fs) = FrameServes made n f (length fs) × AllServe made ns fs

  fine_for : (made : ℕ → Option Made) (n : ℕ) (f : Frame) (below : ℕ) → IsOf p n f → (k : FrameServes made n f below) → ItemsFine p n k.routine f.items
  fine_for made n f below own k =
      let both : Some own.routine ≡ Some k.routine = sym own.there ∙ k.there in
      let same : own.routine ≡ k.routine = cc both in subst (λ r. ItemsFine p n r f.items) same own.items

  -- As objects are made.
  module _ (made made' : ℕ → Option Made) (up : (o : ℕ) (m : Made) → made o ≡ Some m → made' o ≡ Some m) where
    answers_grow : (own : Option Procedure) (here : Here) (a : Option (List Value)) (is : List Item) → AreAnswers made own here a is → AreAnswers made' own here a is
    answers_grow own here None is h = tt
    answers_grow own here (Some vs) [] h = h
    answers_grow own here (Some vs) (i ∷ is) h = all_told_grow p made made' up own vs (item_of p here i) h

    frame_grows : (n : ℕ) (f : Frame) (below : ℕ) → FrameServes made n f below → FrameServes made' n f below
    frame_grows n f below h =
        record {
          routine = h.routine;
          there = h.there;
          function = h.function;
          self = self_grows p made made' up (self_type h.routine.own) f.object h.self;
          variables = content_more (IsFree p made) (IsFree p made') (free_grows p made made' up) f.variables h.variables;
          copies = h.copies;
          items = items_grow p made made' up typed n h.routine f.items h.items;
          answers = answers_grow h.routine.own (record { below = below; self = f.object }) f.answers f.items h.answers;
        }

    pub all_grow : (ns : List ℕ) (fs : List Frame) → AllServe made ns fs → AllServe made' ns fs
    all_grow [] [] h = tt
    all_grow [] (f ∷ fs) h = h
    all_grow (n ∷ ns) [] h = h
    all_grow (n ∷ ns) (f ∷ fs) h = (frame_grows n f (length fs) h.0, all_grow ns fs h.1)

  -- Items behind one another.
  module _ (made : ℕ → Option Made) (n : ℕ) (r : Routine) where
    abbrev Ok : List Item → Type 0
    Ok is = ItemsServe p typed made n r is

    abbrev Result : Option Value → Type 0
    Result v = ResultServes p typed made n r v

    follow_serves : (after : After) (is : List Item) → AfterServes p typed made n r after → Ok is → Ok (follow after is)
    follow_serves after is h k = follow_gives Result after is h k

    first_serves : (i : Item) (is : List Item) → Ok (i ∷ is) → Ok (i ∷ [])
    first_serves i is h = first_gives Result i is h

  -- one more answer
  pub answer_told : (made : ℕ → Option Made) (own : Option Procedure) (g : Frame) (gs : List Frame) (q : Question) (asks : IsAsking p g gs q) (v : Value) → IsTold p made own q v → AreAnswers made own (here_of g gs) g.answers g.items → AreAnswers made own (here_of g gs) (told v g.answers) g.items
  answer_told made own g gs q asks v is h =
      let come = asks.1 in
      let here = here_of g gs in
      let before : AreTold p made own come.answers (item_of p here come.item) = subst (λ a. AreAnswers made own here a (come.item ∷ come.rest)) come.begun (subst (λ js. AreAnswers made own here g.answers js) come.items h) in
      let after : AreTold p made own (come.answers ++ v ∷ []) (item_of p here come.item) = told_more p made own come.answers (v ∷ []) (item_of p here come.item) before (subst (AreTold p made own (v ∷ [])) (sym come.is) (is, tt)) in
      subst (λ a. AreAnswers made own here (told v a) g.items) (sym come.begun) (subst (λ js. AreAnswers made own here (Some (come.answers ++ v ∷ [])) js) (sym come.items) after)

  pub answered_serves : (made : ℕ → Option Made) (n : ℕ) (g : Frame) (gs : List Frame) (q : Question) (asks : IsAsking p g gs q) (v : Value) → ((r : Routine) → by_number n (routines p) ≡ Some r → IsTold p made r.own q v) → FrameServes made n g (length gs) → FrameServes made n (answered v g) (length gs)
  answered_serves made n g gs q asks v is h =
      record {
        routine = h.routine;
        there = h.there;
        function = h.function;
        self = h.self;
        variables = h.variables;
        copies = h.copies;
        items = h.items;
        answers = answer_told made h.routine.own g gs q asks v (is h.routine h.there) h.answers;
      }

  -- a result is the answer for the frame below
  pub result_told : (made : ℕ → Option Made) (own : Option Procedure) (n : ℕ) (r : Routine) → by_number n (routines p) ≡ Some r → (how : Manner) (vs : List Value) (v : Option Value) → ResultServes p typed made n r v → IsTold p made own (Calls how n vs) (answer_in v)
  result_told made own n r there how vs None h = λ y t at e. absurd (h t (same_result y t at e))
    where
      same_result : (y : Routine) (t : TType) → by_number n (routines p) ≡ Some y → result_of y.own ≡ Some t → result_of r.own ≡ Some t
      same_result y t at e = let both : Some y ≡ Some r = sym at ∙ there in let same : y ≡ r = cc both in subst (λ (z : Routine). result_of z.own ≡ Some t) same e
  result_told made own n r there how vs (Some v) h = λ y t at e. h t (same_result y t at e)
    where
      same_result : (y : Routine) (t : TType) → by_number n (routines p) ≡ Some y → result_of y.own ≡ Some t → result_of r.own ≡ Some t
      same_result y t at e = let both : Some y ≡ Some r = sym at ∙ there in let same : y ≡ r = cc both in subst (λ (z : Routine). result_of z.own ≡ Some t) same e

  -- In a turn.
  module _ (s : Store) (f : Frame) (fs : List Frame) (n : ℕ) (own : IsOf p n f) (k : FrameServes (made_in s) n f (length fs)) where
    abbrev made : ℕ → Option Made
    made = made_in s

    abbrev r : Routine
    r = k.routine

    abbrev here : Here
    here = here_of f fs

    abbrev S : Use → Type 0
    S u = (v : GuardedVariable) → IsGuarded p v → Spares p v n r u

    abbrev LawAt : Bool → {A : Type 0} → (A → Type 0) → Doing A → Type 0
    LawAt x R d = Law p typed made n r here k.self x S (λ u h. h) R d

    fine : ItemsFine p n r f.items
    fine = fine_for made n f (length fs) own k

    pub item_may : (i : Item) (is : List Item) → ItemsFine p n r (i ∷ is) → ItemsServe p typed made n r (i ∷ is) → LawAt (has_mark is) (AfterServes p typed made n r) (item_of p here i)
    item_may i is fine' serve =
        item_law p typed made n r here k.self (has_mark is) i (spared p typed made n r (item_uses p (has_mark is) i) fine'.0.0) fine'.0.1 (first_serves made n r i is serve)

    -- what the frame asks as it stands is such a question
    pub rest_law : (q : Question) (asks : IsAsking p f fs q) → (x : Bool) × LawAt x (AfterServes p typed made n r) (Asks q asks.0)
    rest_law q asks =
        let come = asks.1 in
        let answers : AreTold p made r.own come.answers (item_of p here come.item) = subst (λ a. AreAnswers made r.own here a (come.item ∷ come.rest)) come.begun (subst (λ js. AreAnswers made r.own here f.answers js) come.items k.answers) in
        let law = item_may come.item come.rest (subst (ItemsFine p n r) come.items fine) (subst (ItemsServe p typed made n r) come.items k.items) in
        let left = law_fed p typed made n r here k.self (has_mark come.rest) S (λ u h. h) (AfterServes p typed made n r) come.answers (item_of p here come.item) law answers in
        (has_mark come.rest, subst (LawAt (has_mark come.rest) (AfterServes p typed made n r)) come.is left)

    -- with the answers of questions that are answered at once
    told_so_far : (i : Item) (is : List Item) (vs : List Value) → f.items ≡ i ∷ is → f.answers ≡ Some vs → AreTold p made r.own (so_far p s f fs i vs) (item_of p here i)
    told_so_far i is vs e had =
        let before : AreTold p made r.own vs (item_of p here i) = subst (λ a. AreAnswers made r.own here a (i ∷ is)) had (subst (λ js. AreAnswers made r.own here f.answers js) e k.answers) in
        let law = item_may i is (subst (ItemsFine p n r) e fine) (subst (ItemsServe p typed made n r) e k.items) in
        let left = feed vs (item_of p here i) in
        told_more p made r.own vs (noted p.types made f.variables left) (item_of p here i) before
        (noted_alone p typed made n r here k.self (has_mark is) S (λ u h. h) f.variables k.variables k.copies (AfterServes p typed made n r) left
        (law_fed p typed made n r here k.self (has_mark is) S (λ u h. h) (AfterServes p typed made n r) vs (item_of p here i) law before))

    pub next_serves : (is : List Item) → IsNext p s f fs is → ItemsServe p typed made n r is
    next_serves _ (Stood none) = k.items
    next_serves _ (Followed i is vs after e had come) =
        let items = subst (ItemsServe p typed made n r) e k.items in
        let law = item_may i is (subst (ItemsFine p n r) e fine) items in
        let all = law_fed p typed made n r here k.self (has_mark is) S (λ u h. h) (AfterServes p typed made n r) (so_far p s f fs i vs) (item_of p here i) law (told_so_far i is vs e had) in
        follow_serves made n r after is (subst (LawAt (has_mark is) (AfterServes p typed made n r)) come all) (rest_gives (ResultServes p typed made n r) i is items)
    next_serves _ (AnotherRound st is next) = next_serves (Round st ∷ is) next
    next_serves _ (Repeated at b e is v next come t) = next_serves (Until at b e ∷ is) next
    next_serves _ (Behind at b e is v next come t) = next_serves (Until at b e ∷ is) next

    had_serves : (is : List Item) (a : Option (List Value)) → HasHad p s f fs is a → ItemsServe p typed made n r is × AreAnswers made r.own here a is
    had_serves _ _ (Rests is next) = (next_serves is next, tt)
    had_serves _ _ (Begins i is next) = (next_serves (i ∷ is) next, tt)
    had_serves _ _ (GoesOn i is vs e had) = (subst (ItemsServe p typed made n r) e k.items, told_so_far i is vs e had)
    had_serves _ _ (Tested at b e is next) =
        let ready = next_fine p n r s f fs (Until at b e ∷ is) next fine in
        let uses = part S (expr_uses p e) (stats_uses p (has_mark is) b) (spared p typed made n r (item_uses p (has_mark is) (Until at b e)) ready.0.0) in
        let on : Value → Doing After = λ v. Val (Into (if is_true v then [] else Do (Repeat at b e) ∷ [])) in (
          next_serves (Until at b e ∷ is) next,
          noted_told p typed made n r here k.self (has_mark is) S (λ u h. h) f.variables k.variables k.copies (Serves p made Boolean) (value_of p here e) on (value_law p typed made n r here k.self (has_mark is) S (λ u h. h) e Boolean ready.0.1.0.1 uses.0),
        )

    pub stands_serves : (g : Frame) → Stands p s f fs g → FrameServes made n g (length fs)
    stands_serves g st =
        let object = ap (λ (y : Frame). y.object) st.same.is in
        let x = had_serves g.items g.answers st.had in
        record {
          routine = r;
          there = k.there;
          function = ap (λ (y : Frame). y.gives) st.same.is ∙ k.function;
          self = subst (IsSelf p made (self_type r.own)) (sym object) k.self;
          variables = subst (ContentIs (IsFree p made)) (sym (ap (λ (y : Frame). y.variables) st.same.is)) k.variables;
          copies = subst (HoldCopies p r.own) (sym (ap (λ (y : Frame). y.variables) st.same.is)) k.copies;
          items = x.0;
          answers = subst (λ o. AreAnswers made r.own (record { below = length fs; self = o }) g.answers g.items) (sym object) x.1;
        }

    -- a region around what is behind an item that asks is one around the item
    first_marked : (i : Item) (is : List Item) (vs : List Value) (q : Question) (next : Value → Doing After) → feed vs (item_of p (here_of f fs) i) ≡ Asks q next → has_mark is ≡ true → has_mark (i ∷ is) ≡ true
    first_marked (Do st) is vs q next e h = h
    first_marked (Rounds at w a last step b) is vs q next e h = h
    first_marked (Round st) is vs q next e h = h
    first_marked (Until at b c) is vs q next e h = h
    first_marked (Region ss) is vs q next e h = h
    first_marked End is vs q next e h = refl
    first_marked (Gives v) is [] q next e h = absurd (cc e)
    first_marked (Gives v) is (u ∷ vs) q next e h = absurd (cc e)

    -- what is asked is such a question
    pub asked_law : (g : Frame) → Stands p s f fs g → (q : Question) (asks : IsAsking p g fs q) → (x : Bool) × (x ≡ true → has_mark g.items ≡ true) × LawAt x (AfterServes p typed made n r) (Asks q asks.0)
    asked_law g st q asks =
        let come = asks.1 in
        let same_here : here_of g fs ≡ here = ap (λ (y : Frame). here_of y fs) st.same.is in
        let x = had_serves g.items g.answers st.had in
        let answers : AreTold p made r.own come.answers (item_of p here come.item) = subst (λ a. AreAnswers made r.own here a (come.item ∷ come.rest)) come.begun (subst (λ js. AreAnswers made r.own here g.answers js) come.items x.1) in
        let items = subst (ItemsServe p typed made n r) come.items x.0 in
        let ready = subst (ItemsFine p n r) come.items (had_fine p n r s f fs g.items g.answers st.had fine) in
        let law = item_may come.item come.rest ready items in
        let left = law_fed p typed made n r here k.self (has_mark come.rest) S (λ u h. h) (AfterServes p typed made n r) come.answers (item_of p here come.item) law answers in
        (has_mark come.rest, (λ marked. subst (λ is. has_mark is ≡ true) (sym come.items) (first_marked come.item come.rest come.answers q asks.0 ((λ i. feed come.answers (item_of p (sym same_here i) come.item)) ∙ come.is) marked)), subst (LawAt (has_mark come.rest) (AfterServes p typed made n r)) ((λ i. feed come.answers (item_of p (sym same_here i) come.item)) ∙ come.is) left)

    pub left_serves : (v : Option Value) → IsLeft p s f fs v → ResultServes p typed made n r v
    left_serves _ (AtEnd next e) = λ t is. absurd (let no : true ≡ false = sym (ap is_some is) ∙ sym k.function ∙ e in cc no)
    left_serves _ (AtResult v is next) = (next_serves (Gives v ∷ is) next).0
    left_serves _ (Nowhere vs e none) = absurd (subst (λ a. AreAnswers made r.own here a []) e (subst (λ js. AreAnswers made r.own here f.answers js) none k.answers))

  -- The frame of a call.

  module _ (s : Store) (fs : List Frame) (w : World Sort) (vars : VariablesAre (IsFree p (made_in s)) fs) (store : StoreIs (IsFree p (made_in s)) s) where
    abbrev C : Value → Type 0
    C = IsFree p (made_in s)

    abbrev x : Rooted (Content Value)
    x = all_rooted fs s

    abbrev simple : Simply C
    simple = free_simply p (made_in s)

    lengths_free : (ns : List ℕ) (rest : List Value) (j : ℕ) → length ns ≡ j → AllAre C (take j (map (λ n. Int (pos n)) ns ++ rest))
    lengths_free [] rest j e = subst (λ i. AllAre C (take i rest)) e tt
    lengths_free (n ∷ ns) rest zero e = absurd (cc e)
    lengths_free (n ∷ ns) rest (suc j) e = let l : length ns ≡ j = cc e in (tt, lengths_free ns rest j l)

    behind_lengths : (ns : List ℕ) (rest : List Value) (j : ℕ) → length ns ≡ j → drop j (map (λ n. Int (pos n)) ns ++ rest) ≡ rest
    behind_lengths [] rest j e = subst (λ i. drop i rest ≡ rest) e refl
    behind_lengths (n ∷ ns) rest zero e = absurd (cc e)
    behind_lengths (n ∷ ns) rest (suc j) e = let l : length ns ≡ j = cc e in behind_lengths ns rest j l

    one : (v : Value) (us : List Value) (u : Value) (rest : List Value) → v ∷ us ≡ u ∷ [] → us ++ rest ≡ rest
    one v us u rest e = let none : us ≡ [] = cc e in ap (λ z. z ++ rest) none

    abbrev HandedFree : List Parameter → List Value → ℕ → Type 0
    HandedFree ps vs copy = HandedIs p C simple (handed p.types (length fs) x ps vs copy)

    handed_free : (ps : List Parameter) (vs : List Value) (copy : ℕ) → AreFreeFor p (made_in s) ps vs → Given p w ps vs → HandedFree ps vs copy
    handed_free [] vs copy free given = (tt, tt)
    handed_free (a ∷ ps) vs copy free given =
        let us = given.0 in
        let rest = given.1 in
        subst (λ l. AreFreeFor p (made_in s) (a ∷ ps) l → HandedFree (a ∷ ps) l copy) (sym given.2)
        (λ f. by (is_open (type_row p.types t)) a.by_reference (is_scalar (type_row p.types t)) us given.3 rest (λ l c g. handed_free ps rest c (subst (AreFreeFor p (made_in s) ps) l g) given.4) f.0 f.1) free
      where
        t : TypeId
        t = id_of a.of

        j : ℕ
        j = open_dimensions p.types t

        of : TypeId
        of = open_element p.types t

        by : (opens by_reference scalar_one : Bool) (us : List Value) → Handles p opens by_reference scalar_one w t us → (rest : List Value)
            → ((l : drop (if opens then suc j else 1) (us ++ rest) ≡ rest) (c : ℕ) → AreFreeFor p (made_in s) ps (drop (if opens then suc j else 1) (us ++ rest)) → HandedFree ps rest c)
            → (by_reference ≡ true → C (head (us ++ rest))) → AreFreeFor p (made_in s) ps (drop (if opens then suc j else 1) (us ++ rest)) → HandedIs p C simple (
            if opens
            then (if by_reference
            then hand (open_part of (head (us ++ rest)) (take j (drop 1 (us ++ rest)))) [] (handed p.types (length fs) x ps (drop (suc j) (us ++ rest)) copy)
            else hand (open_part of (own_part p.types (length fs) x copy) (take j (drop 1 (us ++ rest)))) (copied p.types (length fs) x of (head (us ++ rest)) (take j (drop 1 (us ++ rest))) ∷ []) (handed p.types (length fs) x ps (drop (suc j) (us ++ rest)) (suc copy)))
            else if by_reference then hand (scalar (if is_record (type_row p.types t) then Variable t else Alias t) (head (us ++ rest))) [] (handed p.types (length fs) x ps (drop 1 (us ++ rest)) copy)
            else if scalar_one then hand (scalar (Plain t) (head (us ++ rest))) [] (handed p.types (length fs) x ps (drop 1 (us ++ rest)) copy)
            else hand (whole p.types (length fs) x t (head (us ++ rest))) [] (handed p.types (length fs) x ps (drop 1 (us ++ rest)) copy))
        by true b c [] h rest more ref free = absurd (cc (h.2))
        by true true c (v ∷ us) h rest more ref free =
            let tail : us ≡ map (λ n. Int (pos n)) h.1 = cc (h.2) in
            let lens : AllAre C (take j (us ++ rest)) = subst (λ z. AllAre C (take j (z ++ rest))) (sym tail) (lengths_free h.1 rest j h.3) in
            let l : drop j (us ++ rest) ≡ rest = subst (λ z. drop j (z ++ rest) ≡ rest) (sym tail) (behind_lengths h.1 rest j h.3) in
            hand_is p C simple (open_part of v (take j (us ++ rest))) [] (handed p.types (length fs) x ps (drop j (us ++ rest)) copy) (ref refl, lengths_row p C simple (take j (us ++ rest)) lens) tt (subst (λ z. HandedFree ps z copy) (sym l) (more l copy free))
        by true false c (v ∷ us) h rest more ref free =
            let tail : us ≡ map (λ n. Int (pos n)) h.1 = cc (h.2) in
            let lens : AllAre C (take j (us ++ rest)) = subst (λ z. AllAre C (take j (z ++ rest))) (sym tail) (lengths_free h.1 rest j h.3) in
            let l : drop j (us ++ rest) ≡ rest = subst (λ z. drop j (z ++ rest) ≡ rest) (sym tail) (behind_lengths h.1 rest j h.3) in
            hand_is p C simple (open_part of (own_part p.types (length fs) x copy) (take j (us ++ rest))) (copied p.types (length fs) x of v (take j (us ++ rest)) ∷ []) (handed p.types (length fs) x ps (drop j (us ++ rest)) (suc copy)) (tt, lengths_row p C simple (take j (us ++ rest)) lens) (content_is p C simple (length fs) fs s vars store v, tt)
            (subst (λ z. HandedFree ps z (suc copy)) (sym l) (more l (suc copy) free))
        by false true c [] h rest more ref free = absurd (cc (h.1))
        by false true c (v ∷ us) h rest more ref free = let l = one v us h.0 rest h.1 in
            hand_is p C simple (scalar (if is_record (type_row p.types t) then Variable t else Alias t) v) [] (handed p.types (length fs) x ps (us ++ rest) copy) (ref refl) tt (subst (λ z. HandedFree ps z copy) (sym l) (more l copy free))
        by false false true [] h rest more ref free = absurd (cc (h.1))
        by false false true (v ∷ us) h rest more ref free =
            let same : h.0 ≡ v = cc (h.1) in
            let l = one v us h.0 rest h.1 in hand_is p C simple (scalar (Plain t) v) [] (handed p.types (length fs) x ps (us ++ rest) copy) (subst C same (plain_free p (made_in s) w t h.0 h.2)) tt (subst (λ z. HandedFree ps z copy) (sym l) (more l copy free))
        by false false false [] h rest more ref free = absurd (cc (h.1))
        by false false false (v ∷ us) h rest more ref free =
            let l = one v us (Place h.0) rest h.1 in
            hand_is p C simple (whole p.types (length fs) x t v) [] (handed p.types (length fs) x ps (us ++ rest) copy) (cut_is C (variable_shape p.types t) (content_at p.types (length fs) x v) (content_is p C simple (length fs) fs s vars store v)) tt (subst (λ z. HandedFree ps z copy) (sym l) (more l copy free))

    pub called_copies : (following : List ℕ) (y : Routine) (vs : List Value) → HoldCopies p y.own (called_frame p following y vs fs s).variables
    called_copies following y vs =
        let locals = map (local_part p following) (locals_of y.own) in
        let copy = length (parameters_of y.own) + length locals in
        let us = arguments_in (has_self y.own) vs in
        handed_copies p (length fs) x y.own us copy (locals ++ (let h = handed p.types (length fs) x (parameters_of y.own) us copy in h.copies))

    pub called_free : (following : List ℕ) (y : Routine) (vs : List Value) → AreFreeFor p (made_in s) (parameters_of y.own) (arguments_in (has_self y.own) vs) → Given p w (parameters_of y.own) (arguments_in (has_self y.own) vs) → ContentIs C (called_frame p following y vs fs s).variables
    called_free following y vs free given =
        let locals = map (local_part p following) (locals_of y.own) in
        let copy = length (parameters_of y.own) + length locals in
        let all = handed_free (parameters_of y.own) (arguments_in (has_self y.own) vs) copy free given in
        let h = handed p.types (length fs) x (parameters_of y.own) (arguments_in (has_self y.own) vs) copy in
        parts_row p C simple (h.parameters ++ (locals ++ h.copies)) (parts_more p C simple h.parameters (locals ++ h.copies) all.0 (parts_more p C simple locals h.copies (locals_are p C simple (locals_of y.own) following) all.1))
