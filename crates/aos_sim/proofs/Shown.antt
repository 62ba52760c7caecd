-- An image that has a well-typed program's code shows the program.
use Rattle.std.proofs.Common.{◌≡◌, ℕ, zero, suc, ◌+◌, List, [], ◌∷◌, ◌++◌, map, length, true, Option, Some, None, refl, sym, ap, ◌∙◌, subst, arith}
use Rattle.std.specs.Prelude.{slice_get, flat_map, is_some, option_map, option_and_then}
use Rattle.std.specs.List.{range_with_len}
use Rattle.std.proofs.Common.{◌⊎◌, inl, inr, ◌<◌, ◌≤◌}
use Rattle.std.proofs.lemmas.Bool.{cases_lt}
use Rattle.std.proofs.lemmas.Option.{slice_get-map}
use Rattle.std.proofs.lemmas.List.Elements.{All-nil}
use Rattle.aos_types.specs.Extension.{comes_to}
use Rattle.aos_types.proofs.Tables.{comes_on}
use Rattle.aos_base.specs.declared.priority.Priority.{Priority}
use Rattle.aos_base.specs.declared.priority.Priority.TheVariants.{Low, Normal, High}
use Rattle.aos_base.specs.Book.{Where}
use Rattle.aos_base.specs.Rooted.{Made, by_number}
use Rattle.aos_base.specs.Machine.{Choice, execution}
use Rattle.aos_base.specs.Priority.{number_of}
use Rattle.aos_typed.specs.declared.tree.TType.{TType}
use Rattle.aos_typed.specs.Program.{ObjectType, Module, Program}
use Rattle.aos_typed.specs.Routines.{result_of, routine_of}
use Rattle.aos_typed.specs.Numbers.{id_of_made, body_number}
use Rattle.aos_typed.specs.Methods.{body_type, priority_by}
use Rattle.aos_typed.specs.Typing.{Is}
use Rattle.aos_typed.specs.Store.{Store}
use Rattle.aos_typed.specs.Source as S
use Rattle.aos_typed.specs.WellTyped.{IsWellTyped}
use Rattle.aos_code.specs.declared.image.Image.{Image}
use Rattle.aos_code.specs.declared.image.ModuleDesc.{ModuleDesc}
use Rattle.aos_code.specs.declared.image.TypeDesc.{TypeDesc}
use Rattle.aos_code.specs.Numbered.{numbered}
use Rattle.aos_code.specs.Memory.{Memory}
use Rattle.aos_code.specs.Machine as I
use Rattle.aos_code.specs.Machine.{machine, bodies, home_of}
use Rattle.aos_concurrency.specs.Simulates.{Simulates, Matches}
use Rattle.aos_concurrency.specs.Regions.{Outside}
use Rattle.aos_concurrency.proofs.Begin.{start_sound}
use Rattle.aos_concurrency.proofs.Steps.{sound_always}
use Rattle.aos_sim.proofs.Regions.{Stands, source_keeps, body_none}
use Rattle.aos_sim.proofs.Insides.{body_inside}
use Rattle.aos_sim.proofs.Locks.{regions_same}
use Rattle.aos_concurrency.proofs.Matching.{execution_matches, start_matches, observation_matches, events_match}
use Rattle.aos_sim.specs.Shows.{numbers_from, body_in, IsCodeOf, Shows}
use Rattle.aos_memory_laws.specs.Shows.{AllShown}
use Rattle.aos_sim.specs.Cells.{cell_of}
use Rattle.aos_sim.proofs.Items.{items_do}
use Rattle.aos_sim.proofs.First.{modules_shown}
use Rattle.aos_sim.proofs.Methods.{HasBody, object_type}
use Rattle.aos_sim.proofs.Objects.{some_same}
use Rattle.aos_sim.proofs.References.{comes_same}
use Rattle.aos_sim.proofs.Typed.{has_types}
use Rattle.aos_sim.proofs.Runs.{tables_of}
use Rattle.aos_sim.proofs.Does.{HasTypes, HasShapes, IsSelf}
use Rattle.aos_sim.proofs.States.{world_of, IsFew, AreFew, number_get, SameStore, Placed, RoutinesRun, Follows, Waiting, SameFrames, Same, bare_frame, body_same, body_shown, opened_same, same_grows}
use Rattle.aos_sim.proofs.Routines.{module_there, object_there}
use Rattle.aos_sim.proofs.Bodies.{alike_at, range_get, range_past, has_shapes, home_known, routines_run}
use Rattle.aos_sim.proofs.Grown.{turn_grown}
use Rattle.aos_sim.proofs.Turns.{Awaited, awaited_grows, Together, turn_alike}
use Rattle.aos_sim.proofs.Verdicts.{verdict_same}

module _ (program : Program) (image : Image) (shaped : HasShapes program (tables_of program image)) where
  -- a frame's text is of the module that its procedure's shape names
  home_same : (made : ℕ → Option Made) (f : S.Frame) (g : I.Frame) → Placed program image made f g → f.home ≡ home_of image g.procedure
  home_same made f g h = sym (home_known program (tables_of program image) shaped g.procedure h.routine h.there ∙ h.home_is)

  waiting_position : (made : List Made) (result : Option TType) (below : Where) (fs : List S.Frame) (gs : List I.Frame) → Waiting program image made result fs gs → S.position_or below fs ≡ I.position_or image below gs
  waiting_position made result below [] [] h = refl
  waiting_position made result below [] (g ∷ gs) h = absurd h
  waiting_position made result below (f ∷ fs) [] h = absurd h
  waiting_position made result below (f ∷ fs) (g ∷ gs) h =
      λ j. S.or_below (sym h.0.place.at_is j) (home_same (λ o. by_number o made) f g h.0.place j) (waiting_position made (result_of h.0.place.routine.own) below fs gs h.1 j)

  lowest_same : (made : List Made) (result : Option TType) (h k : ℕ) (fs : List S.Frame) (gs : List I.Frame) → h ≡ k → Waiting program image made result fs gs →
      S.lowest_home h fs ≡ I.lowest_home image k gs
  lowest_same made result h k [] [] e w = e
  lowest_same made result h k [] (g ∷ gs) e w = absurd w
  lowest_same made result h k (f ∷ fs) [] e w = absurd w
  lowest_same made result h k (f ∷ fs) (g ∷ gs) e w =
      lowest_same made (result_of w.0.place.routine.own) f.home (home_of image g.procedure) fs gs (home_same (λ o. by_number o made) f g w.0.place) w.1

  pub position_same : (made : List Made) (fs : List S.Frame) (gs : List I.Frame) → SameFrames program image made fs gs → S.position_in fs ≡ I.position_in image gs
  position_same made [] [] h = refl
  position_same made [] (g ∷ gs) h = absurd h
  position_same made (f ∷ fs) [] h = absurd h
  position_same made (f ∷ fs) (g ∷ gs) h =
      let from : ℕ → Where = λ m. record { module_ = m; pos = record { line = 0; col = 0 } } in
      let result = result_of h.0.place.routine.own in
      let home = home_same (λ o. by_number o made) f g h.0.place in
      (λ j. S.or_below (sym h.0.place.at_is j) (home j) (waiting_position made result (from (S.lowest_home f.home fs)) fs gs h.1 j))
      ∙ ap (λ m. I.position_or image (from m) (g ∷ gs)) (lowest_same made result f.home (home_of image g.procedure) fs gs home h.1)

module _ (p : Program) (image : Image) (well : IsWellTyped p) (ok : IsCodeOf p image) where
  abbrev ms : List Module
  ms = p.modules

  abbrev os : List ObjectType
  os = p.objects

  pub first_store_same : SameStore p (S.first_store p) (I.first_memory image)
  first_store_same =
      record {
        made = refl;
        few = All-nil (IsFew p);
        of_modules = subst (λ ys. AllShown (Is p) cell_of (world_of p [] []) (map (S.module_shape p) ms) (S.first_store p).modules ys) (sym ok.cells) (modules_shown p (world_of p [] []) well.parts.predeclared ms well.parts.texts);
        of_objects = tt;
      }

  abbrev typed : HasTypes p
  typed = has_types p well

  abbrev shaped : HasShapes p (tables_of p image)
  shaped = has_shapes p image ok typed

  abbrev run : RoutinesRun p image
  run = routines_run p image ok well shaped

  -- the bodies of modules follow one another
  bodies_follow : (k : ℕ) (xs : List Module) (ds : List ModuleDesc) → ((j : ℕ) (m : Module) → slice_get xs j ≡ Some m → slice_get ms (k + j) ≡ Some m) → map (λ (d : ModuleDesc). d.body) ds ≡ numbers_from (suc k) xs → Follows p image (range_with_len k (length xs)) (flat_map (λ (d : ModuleDesc). bodies d.body) ds)
  bodies_follow k [] [] each e = tt
  bodies_follow k [] (d ∷ ds) each e = absurd (cc e)
  bodies_follow k (m ∷ xs) [] each e = absurd (cc e)
  bodies_follow k (m ∷ xs) (d ∷ ds) each e =
      let here : d.body ≡ suc k = cc e in
      let rest : map (λ (x : ModuleDesc). x.body) ds ≡ numbers_from (suc (suc k)) xs = cc e in
      let up : suc k ≡ k + 1 = omega arith in
      let n : k + 0 ≡ k = omega arith in
      let there : slice_get ms k ≡ Some m = subst (λ j. slice_get ms j ≡ Some m) n (each 0 m refl) in
      let below = bodies_follow (k + 1) xs ds (λ j x at. let n' : k + suc j ≡ k + 1 + j = omega arith in subst (λ q. slice_get ms q ≡ Some x) n' (each (suc j) x at)) (rest ∙ ap (λ n. numbers_from (suc n) xs) up) in
      subst (λ b. Follows p image (k ∷ range_with_len (k + 1) (length xs)) (bodies b ++ flat_map (λ (x : ModuleDesc). bodies x.body) ds)) (sym here)
      ((m, there, module_there p k m there), below)

  -- what a type's description tells, where each tells this of its own type
  module _ {A : Type 0} (f : TypeDesc → A) (g : ℕ → A) (are : map f image.types.items ≡ map g (range_with_len 0 (length os))) (t : ℕ) where
    told : t < length os → (d : TypeDesc) × (slice_get image.types.items t ≡ Some d) × (f d ≡ g t)
    told l =
        let z : t + 0 ≡ t = omega arith in
        let r = alike_at f g image.types.items (range_with_len 0 (length os)) are t (t + 0) (range_get (length os) 0 t l) in
        (r.0, r.1, r.2 ∙ ap g z)

    described : (d : TypeDesc) → slice_get image.types.items t ≡ Some d → f d ≡ g t
    described d e = by (cases_lt t (length os))
      where
        by : (t < length os) ⊎ (length os ≤ t) → f d ≡ g t
        by (inl l) =
            let r = told l in
            let there = r.1 in
            let same : r.0 ≡ d = some_same r.0 d (sym there ∙ e) in
            ap f (sym same) ∙ r.2
        by (inr l) =
            let none : Some (f d) ≡ None = ap (option_map f) (sym e) ∙ sym (slice_get-map f image.types.items t) ∙ ap (λ l. slice_get l t) are
            ∙ slice_get-map g (range_with_len 0 (length os)) t ∙ ap (option_map g) (range_past (length os) 0 t l) in
            absurd (cc none)

  -- the body of an object, by its type on both sides
  module _ (made : List Made) (o t : ℕ) (self : IsSelf p (λ o. by_number o made) (Some t) o) where
    body_begins : (b : ℕ) (has : HasBody p t b) → SameFrames p image made (S.body_frame has.object.home o has.object.body.body ∷ []) (I.body_frame o (body_number p b) ∷ [])
    body_begins b has =
        let x = has.object in
        let is = object_type p well.parts.objects b x has.there in
        let extends = comes_on p.types typed.ranked (id_of_made self.1.type) (id_of_made (suc t)) (id_of_made (suc b)) self.5 has.extends in
        body_same p image run made o (body_number p b) (routine_of x.home x.body) (object_there p b x has.there) (sym (ap is_some has.body.proper)) (bare_frame p x.body has.body.plain is.bare)
        (subst (λ z. IsSelf p (λ o. by_number o made) z o) (sym has.body.own) (self.0, self.1, self.2, self.3, self.4, extends))
        (λ e. absurd (let some : Some b ≡ None = sym has.body.own ∙ e in cc some))

    -- which one it is the type's description tells
    body_described : (d : TypeDesc) → slice_get image.types.items t ≡ Some d → d.body ≡ body_in p (body_type p t)
    body_described d e = described (λ (y : TypeDesc). y.body) (λ k. body_in p (body_type p k)) ok.types t d e

    object_same : (d : Option TypeDesc) → slice_get image.types.items t ≡ d → Same p image made (S.object_frames o (option_and_then (λ b. slice_get os b) (body_type p t))) (I.object_frames o d)
    object_same d ed = by (body_type p t) refl d ed
      where
        begun : List S.Frame → ℕ → Type 0
        begun fs n = Same p image made (record { following = []; frames = fs }) (record { following = []; frames = map (I.body_frame o) (bodies n) })

        by : (body : Option ℕ) → body_type p t ≡ body → (d : Option TypeDesc) → slice_get image.types.items t ≡ d → Same p image made (S.object_frames o (option_and_then (λ b. slice_get os b) body)) (I.object_frames o d)
        by None e None f = record { follows = tt; frames = tt; shown = tt; regions = tt }
        by None e (Some d) f = subst (begun []) (sym (body_described d f ∙ ap (body_in p) e)) (record { follows = tt; frames = tt; shown = tt; regions = tt })
        by (Some b) e None f = let r = told (λ (y : TypeDesc). y.body) (λ k. body_in p (body_type p k)) ok.types t (typed.methods.bodies t b e).below in let there = r.1 in absurd (cc (f, there))
        by (Some b) e (Some d) f =
            let has = typed.methods.bodies t b e in
            let x = has.object in
            let lock = S.lock_of (S.body_frame x.home o x.body.body) in
            subst (λ z. Same p image made (S.object_frames o z) (I.object_frames o (Some d))) (sym has.there)
            (subst (begun (S.body_frame x.home o x.body.body ∷ [])) (sym (body_described d f ∙ ap (body_in p) e))
            (record { follows = tt; frames = body_begins b has; shown = body_shown p image made o (body_number p b) x.home x.body.body; regions = ((body_none lock x.body.body, body_inside lock x.body.body (run (body_number p b) (routine_of x.home x.body) (object_there p b x has.there)).0), tt) }))

  -- an object is one of its own type
  self_made : (made : List Made) → AreFew p made → (o : ℕ) (m : Made) (t : ℕ) → by_number o made ≡ Some m → m.type ≡ suc t → IsSelf p (λ o. by_number o made) (Some t) o
  self_made made few zero m t e type_is = absurd (cc e)
  self_made made few (suc k) m t e type_is =
      (k, m, refl, e, (number_get (IsFew p) (suc k) made m few e).1, subst (λ z. comes_to p.types (id_of_made m.type) (id_of_made z) ≡ true) type_is (comes_same p.types (id_of_made m.type)))

  made_same : (made : List Made) → AreFew p made → (o : ℕ) (m : Option Made) → by_number o made ≡ m → Same p image made (S.object_frames o (option_and_then (λ t. slice_get os t) (option_and_then (S.made_body p) (option_map (λ (m : Made). m.type) m)))) (I.object_frames o (option_and_then (numbered image.types.items) (option_map (λ (m : Made). m.type) m)))
  made_same made few o None e = record { follows = tt; frames = tt; shown = tt; regions = tt }
  made_same made few o (Some m) e = by m.type refl
    where
      by : (n : ℕ) → m.type ≡ n → Same p image made (S.object_frames o (option_and_then (λ t. slice_get os t) (S.made_body p n))) (I.object_frames o (numbered image.types.items n))
      by zero is = record { follows = tt; frames = tt; shown = tt; regions = tt }
      by (suc n) is = object_same made o n (self_made made few o m n e is) (slice_get image.types.items n) refl

  object_body_same : (s : Store) (mem : Memory) (o : ℕ) → SameStore p s mem → Same p image s.made (S.body_of p s o) (I.body_of image mem o)
  object_body_same s mem o stores =
      let t : List Made → Option ℕ = λ l. option_map (λ (m : Made). m.type) (by_number o l) in
      subst (λ l. Same p image s.made (S.body_of p s o) (I.object_frames o (option_and_then (numbered image.types.items) (t l)))) (sym stores.made) (made_same s.made stores.few o (by_number o s.made) refl)

  -- and so is the priority of its activities
  level_same : (x : Priority) → I.level (number_of x) ≡ x
  level_same Low = refl
  level_same Normal = refl
  level_same High = refl

  priority_described : (t : ℕ) (d : Option TypeDesc) → slice_get image.types.items t ≡ d → priority_by p (body_type p t) ≡ I.object_priority d
  priority_described t (Some d) e =
      sym (ap I.level (described (λ (y : TypeDesc). y.priority) (λ k. number_of (priority_by p (body_type p k))) ok.priorities t d e) ∙ level_same (priority_by p (body_type p t)))
  priority_described t None e = by (body_type p t) refl
    where
      by : (body : Option ℕ) → body_type p t ≡ body → priority_by p body ≡ Normal
      by None f = refl
      by (Some b) f =
          let r = told (λ (y : TypeDesc). y.priority) (λ k. number_of (priority_by p (body_type p k))) ok.priorities t (typed.methods.bodies t b f).below in
          let there = r.1 in absurd (cc (e, there))

  made_priority : (m : Option Made) → priority_by p (option_and_then (S.made_body p) (option_map (λ (m : Made). m.type) m)) ≡ I.object_priority (option_and_then (numbered image.types.items) (option_map (λ (m : Made). m.type) m))
  made_priority None = refl
  made_priority (Some m) = by m.type
    where
      by : (n : ℕ) → priority_by p (S.made_body p n) ≡ I.object_priority (numbered image.types.items n)
      by zero = refl
      by (suc n) = priority_described n (slice_get image.types.items n) refl

  priority_same : (s : Store) (mem : Memory) (o : ℕ) → SameStore p s mem → S.priority_of p s o ≡ I.priority_of image mem o
  priority_same s mem o stores =
      let t : List Made → Option ℕ = λ l. option_map (λ (m : Made). m.type) (by_number o l) in
      made_priority (by_number o s.made) ∙ ap (λ l. I.object_priority (option_and_then (numbered image.types.items) (t l))) (sym stores.made)

  -- one turn of the image is one turn of the source
  pub simulates : Simulates (SameStore p) (Together p image) (Outside (S.source p)) (S.source p) (machine image)
  simulates = record {
    turn = λ s mem fs gs stores h. turn_alike p image typed shaped run (items_do p) s mem fs gs stores h.now;
    kept = λ s mem fs gs stores h w fs' gs' h'.
        let g = turn_grown p (S.opened p fs).following (S.opened p fs).frames s in
        record {
          now = subst (λ l. Same p image l fs' gs') (sym g.1) (same_grows p image s.made g.0 fs' gs' h'.now);
          behind = λ goes. subst (λ l. Same p image l (S.past p fs') (I.past image gs')) (sym g.1) (same_grows p image s.made g.0 (S.past p fs') (I.past image gs') (h'.behind goes));
          awaited = subst (λ l. Awaited p image l w fs') (sym g.1) (awaited_grows p image s.made g.0 w fs' h'.awaited);
        };
    past = λ s mem w fs gs goes stores h. record { now = h.behind goes; behind = λ k. absurd k; awaited = tt };
    verdict = λ s mem l c fs gs stores h. verdict_same p image typed shaped ok.conditions s mem fs gs c stores h.now h.awaited;
    regions = λ s mem w fs gs may stores h. regions_same p image shaped s.made fs.frames gs.frames h.now.frames h.now.regions;
    position = λ s mem w fs gs may stores h. position_same p image shaped s.made (S.opened p fs).frames (I.opened gs).frames (opened_same p image run s.made fs gs h.now).frames;
    anew = λ s mem w fs gs may stores h. tt;
    body = λ s mem o fs gs stores h. record { now = object_body_same s mem o stores; behind = λ k. absurd k; awaited = tt };
    priority = λ s mem o fs gs stores h. ap number_of (priority_same s mem o stores);
  }

  pub first_same : Same p image [] (S.first_frames p) (I.first_frames image)
  first_same =
      record {
        follows = bodies_follow 0 ms image.modules.items (λ j m e. let n : j ≡ 0 + j = omega arith in subst (λ q. slice_get ms q ≡ Some m) n e) ok.starts;
        frames = tt;
        shown = tt;
        regions = tt;
      }

  pub matched : (budget : ℕ) (choices : List Choice) → Matches (SameStore p) (Together p image) (Outside (S.source p)) (execution (S.source p) choices (S.first_state p budget)) (execution (machine image) choices (I.first_state image budget))
  matched budget choices =
      execution_matches (SameStore p) (Together p image) (Outside (S.source p)) (S.source p) (machine image) simulates choices (S.first_state p budget) (I.first_state image budget)
      (sound_always (S.source p) (Stands p) (source_keeps p) (S.first_state p budget) (start_sound (S.first_store p) (S.first_frames p) budget (S.source p) (Stands p) tt refl))
      (start_matches (SameStore p) (Together p image) (Outside (S.source p)) (S.source p) (machine image) simulates (S.first_store p) (I.first_memory image) (S.first_frames p) (I.first_frames image) budget first_store_same
      (record { now = first_same; behind = λ k. absurd k; awaited = tt }))

  pub shown : Shows p image
  shown = record {
    observation = λ budget choices. sym (observation_matches (SameStore p) (Together p image) (Outside (S.source p)) (S.source p) (machine image) simulates (execution (S.source p) choices (S.first_state p budget)) (execution (machine image) choices (I.first_state image budget)) (matched budget choices));
    events = λ budget choices. sym (events_match (SameStore p) (Together p image) (Outside (S.source p)) (S.source p) (machine image) simulates (execution (S.source p) choices (S.first_state p budget)) (execution (machine image) choices (I.first_state image budget)) (matched budget choices));
    books = λ budget choices. sym (matched budget choices).book;
  }
