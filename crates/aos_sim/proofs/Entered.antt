-- The frame that a call makes: the procedure's parameters and locals stand in it at their cells, and its cells show its variables.
use Rattle.std.proofs.Common.{◌≡◌, ℕ, zero, suc, ◌+◌, ◌<◌, ◌^◌, Bool, true, false, if◌then◌else◌, Option, Some, None, List, [], ◌∷◌, ◌++◌, length, map, drop, refl, sym, ap, ◌∙◌, subst, arith, append_assoc, length-append}
use Rattle.std.specs.Prelude.{slice_get, option_map, option_and_then, replicate, is_some, nat_lt, sum_by}
use Rattle.std.proofs.lemmas.Bool.{ltb-false}
use Rattle.std.proofs.lemmas.List.Sums.{sum_by-cons}
use Rattle.std.proofs.lemmas.List.{map-append, length-map, drop_at}
use Rattle.aos_base.specs.declared.limits.TheConstants.{MOST_FRAME_SCALARS, MOST_FRAMES}
use Rattle.aos_base.specs.declared.root.Root.TheVariants.{Frame as FrameRoot}
use Rattle.aos_base.specs.Rooted.{Made, Rooted}
use Rattle.aos_types.specs.declared.row.TypeRow.{TypeRow}
use Rattle.aos_types.specs.declared.row.TypeId.{TypeId}
use Rattle.aos_types.specs.Table.{row_of as type_row, is_open}
use Rattle.aos_types.specs.Chain.{IsRanked}
use Rattle.aos_types.specs.Shape.{Shape, One, size, part, before, inside, offset, number_of, leaves, row}
use Rattle.aos_types.specs.World.{World}
use Rattle.aos_typed.specs.declared.tree.TType.{TType}
use Rattle.aos_typed.specs.Program.{Parameter, Variable, Body, Procedure, Program}
use Rattle.aos_typed.specs.Numbers.{id_of}
use Rattle.aos_typed.specs.Open.{open_dimensions}
use Rattle.aos_typed.specs.Routines.{Routine, parameters_of, locals_of, has_self, result_of}
use Rattle.aos_typed.specs.Sort.{Sort, Length, variable_shape}
use Rattle.aos_typed.specs.Value.{Value}
use Rattle.aos_typed.specs.Typing.{Is}
use Rattle.aos_typed.specs.CallFrame as H
use Rattle.aos_typed.specs.CallFrame.{Part, Handed}
use Rattle.aos_typed.specs.Store.{Store}
use Rattle.aos_typed.specs.Source as S
use Rattle.aos_typed.specs.Source.{local_part}
use Rattle.aos_code.specs.declared.instr.Cell.{Cell}
use Rattle.aos_code.specs.declared.instr.Kind.{Kind}
use Rattle.aos_code.specs.declared.instr.Kind.TheVariants.{N, A}
use Rattle.aos_code.specs.declared.image.ProcShape.{ProcShape}
use Rattle.aos_code.specs.declared.image.Image.{Image}
use Rattle.aos_code.specs.Silent.{Stack}
use Rattle.aos_code.specs.Machine as I
use Rattle.aos_code.specs.Machine.{first_cell}
use Rattle.aos_layout.specs.Layout.{cells, variable_cells}
use Rattle.aos_layout.specs.Frame.{Known, open_cells, parameter_cells, parameter_kind}
use Rattle.aos_layout.specs.Seen.{seen_shape}
use Rattle.aos_layout.proofs.Frames.{kinds_of_append}
use Rattle.aos_layout.proofs.Outcomes.{kinds_counted}
use Rattle.aos_memory_laws.specs.Shows.{Shown, Shows}
use Rattle.aos_memory_laws.proofs.Grow.{frame_grows}
use Rattle.aos_memory_laws.proofs.Wholes.{shown_long}
use Rattle.aos_sim.specs.Cells.{cell_of}
use Rattle.aos_sim.specs.Shows.{shape_of}
use Rattle.aos_sim.proofs.Parts.{before_step, part_of_row, cells_size}
use Rattle.aos_sim.proofs.First.{get_left, get_right, local_shown}
use Rattle.aos_sim.proofs.Does.{scheme, IsPart, IsFrameOf, Given}
use Rattle.aos_sim.proofs.States.{world_of, shapes_of, top_shape, body_frame, with_answer, Waiting}
use Rattle.aos_sim.proofs.CallFrames.{taken_as, AreParts, shape_of_parts, content_of_parts, PartsShown, parts_shown, none_shown, more_shown, Stand, Alike, handed_alike}

-- Shapes of the same sizes, one by one

abbrev SameSizes : List (Shape Sort) → List (Shape Kind) → Type 0
SameSizes [] [] = Unit {0}
SameSizes [] (k ∷ ks) = ⊥
SameSizes (s ∷ ss) [] = ⊥
SameSizes (s ∷ ss) (k ∷ ks) = (size s ≡ size k) × SameSizes ss ks

same_both : (ss : List (Shape Sort)) (ks : List (Shape Kind)) (ts : List (Shape Sort)) (js : List (Shape Kind)) → SameSizes ss ks → SameSizes ts js → SameSizes (ss ++ ts) (ks ++ js)
same_both [] [] ts js h g = g
same_both [] (k ∷ ks) ts js h g = absurd h
same_both (s ∷ ss) [] ts js h g = absurd h
same_both (s ∷ ss) (k ∷ ks) ts js h g = (h.0, same_both ss ks ts js h.1 g)

same_size : (ss : List (Shape Sort)) (ks : List (Shape Kind)) → SameSizes ss ks → size (row ss) ≡ size (row ks)
same_size [] [] h = refl
same_size [] (k ∷ ks) h = absurd h
same_size (s ∷ ss) [] h = absurd h
same_size (s ∷ ss) (k ∷ ks) h = λ j. h.0 j + same_size ss ks h.1 j

-- before a part of the first of two rows
same_before : (ss : List (Shape Sort)) (ks : List (Shape Kind)) (ts : List (Shape Sort)) (i : ℕ) (s : Shape Sort) → SameSizes ss ks → slice_get ss i ≡ Some s → before i (row (ss ++ ts)) ≡ before i (row ks)
same_before [] ks ts i s h e = absurd (cc)
same_before (z ∷ ss) [] ts i s h e = absurd h
same_before (z ∷ ss) (k ∷ ks) ts zero s h e = refl
same_before (z ∷ ss) (k ∷ ks) ts (suc i) s h e = λ j. h.0 j + same_before ss ks ts i s h.1 e j

size_rows : {S : Type 0} (ss ts : List (Shape S)) → size (row (ss ++ ts)) ≡ size (row ss) + size (row ts)
size_rows [] ts = omega arith
size_rows (s ∷ ss) ts = let h = size_rows ss ts in omega (arith, h)

-- the part behind these
behind_these : {S : Type 0} (front : List (Shape S)) (s : Shape S) (back : List (Shape S)) → (part (length front) (row (front ++ (s ∷ back))) ≡ Some s) × (before (length front) (row (front ++ (s ∷ back))) ≡ size (row front))
behind_these [] s back = (refl, refl)
behind_these (z ∷ front) s back = let h = behind_these front s back in (h.0, ap (λ n. size z + n) h.1)

-- What code knows of a routine

module _ (rows : List TypeRow) (home : ℕ) (body : Body) where
  abbrev known_of : Option Procedure → Known
  known_of own = shape_of rows (record { home = home; own = own; body = body })

  abbrev pub parts_of : Option Procedure → List (Shape Kind)
  parts_of own = map (parameter_cells rows) (parameters_of own) ++ variable_cells rows (locals_of own)

  pub known_parameters : (own : Option Procedure) → (known_of own).params ≡ map (parameter_kind rows) (parameters_of own)
  known_parameters None = refl
  known_parameters (Some q) = refl

  pub known_kinds : (own : Option Procedure) → (known_of own).kinds ≡ leaves (row (parts_of own))
  known_kinds None = refl
  known_kinds (Some q) = refl

  pub known_counted : (own : Option Procedure) → (known_of own).counted ≡ size (row (parts_of own))
  known_counted None = refl
  known_counted (Some q) = refl

module _ (program : Program) where
  abbrev rows : List TypeRow
  rows = program.types

  abbrev shapes_in : List Part → List (Shape Sort)
  shapes_in ps = map (λ p. p.shape) ps

  -- A parameter's part has as many cells as code takes for it

  many_lengths : (ns : List ℕ) → size (row (map (λ n. One (Length n)) ns)) ≡ length ns
  many_lengths [] = refl
  many_lengths (n ∷ ns) = let h = many_lengths ns in omega (arith, h)

  many_cells : (d : ℕ) → size (row (replicate d (One N))) ≡ d
  many_cells zero = refl
  many_cells (suc d) = let h = many_cells d in omega (arith, h)

  part_size : (o r : Bool) (t : TypeId) (s : Shape Sort) → IsPart program o r t s → size s ≡ size (if o then open_cells (open_dimensions rows t) else if r then One A else cells rows t)
  part_size true r t s h =
      let l = many_lengths h.0 in
      let d = many_cells (open_dimensions rows t) in
      let long = h.1 in
      ap size h.3 ∙ omega (arith, l, d, long)
  part_size false true t s h = ap size h
  part_size false false t s h =
      ap size h ∙ cells_size rows t

  parameters_same : (as' : List Parameter) (ps : List Part) → AreParts program (map (taken_as rows) as') ps → SameSizes (shapes_in ps) (map (parameter_cells rows) as')
  parameters_same [] [] h = tt
  parameters_same [] (p ∷ ps) h = absurd h
  parameters_same (a ∷ as') [] h = absurd h
  parameters_same (a ∷ as') (p ∷ ps) h =
      (part_size (is_open (type_row rows (id_of a.of))) a.by_reference (id_of a.of) p.shape h.0, parameters_same as' ps h.1)

  parameters_long : (as' : List Parameter) (ps : List Part) → AreParts program (map (taken_as rows) as') ps → length ps ≡ length as'
  parameters_long [] [] h = refl
  parameters_long [] (p ∷ ps) h = absurd h
  parameters_long (a ∷ as') [] h = absurd h
  parameters_long (a ∷ as') (p ∷ ps) h = ap (λ n. suc n) (parameters_long as' ps h.1)

  parameter_part : (as' : List Parameter) (ps : List Part) (k : ℕ) (a : Parameter) → AreParts program (map (taken_as rows) as') ps → slice_get as' k ≡ Some a → (m : Shape Sort) × (slice_get (shapes_in ps) k ≡ Some m) × IsPart program (is_open (type_row rows (id_of a.of))) a.by_reference (id_of a.of) m
  parameter_part [] ps k a h e = absurd (cc)
  parameter_part (z ∷ as') [] k a h e = absurd h
  parameter_part (z ∷ as') (p ∷ ps) zero a h e =
      let q : z ≡ a = cc in
      (p.shape, refl, subst (λ y. IsPart program (is_open (type_row rows (id_of y.of))) y.by_reference (id_of y.of) p.shape) q h.0)
  parameter_part (z ∷ as') (p ∷ ps) (suc k) a h e = parameter_part as' ps k a h.1 e

  -- Locals

  module _ (ms : List ℕ) where
    abbrev locals : List Variable → List Part
    locals vs = map (local_part program ms) vs

    locals_same : (vs : List Variable) → SameSizes (shapes_in (locals vs)) (variable_cells rows vs)
    locals_same [] = tt
    locals_same (v ∷ vs) =
        (cells_size rows (id_of v.of), locals_same vs)

    local_part_at : (vs : List Variable) (i : ℕ) (t : TType) → option_map (λ (v : Variable). v.of) (slice_get vs i) ≡ Some t → slice_get (shapes_in (locals vs)) i ≡ Some (variable_shape rows (id_of t))
    local_part_at [] i t e = absurd (cc)
    local_part_at (v ∷ vs) zero t e = let q : v.of ≡ t = cc in ap (λ u. Some (variable_shape rows (id_of u))) q
    local_part_at (v ∷ vs) (suc i) t e = local_part_at vs i t e

    locals_shown : (w : World Sort) (vs : List Variable) → PartsShown program w (locals vs) (map first_cell (leaves (row (variable_cells rows vs))))
    locals_shown w [] = none_shown program w
    locals_shown w (v ∷ vs) =
        let first = leaves (cells rows (id_of v.of)) in
        let rest = leaves (row (variable_cells rows vs)) in
        subst (PartsShown program w (locals (v ∷ vs))) (sym (map-append first_cell first rest))
        (more_shown program w (local_part program ms v) (locals vs) (map first_cell first) (map first_cell rest) (local_shown program w v) (locals_shown w vs))

  -- The copies stand behind the other parts

  copies_stand : (w : World Sort) (here : ℕ) (front : List (Shape Sort)) (cs : List Part) → w.shape (FrameRoot here) ≡ Some (row (front ++ shapes_in cs)) → (copy at : ℕ) → copy ≡ length front → at ≡ size (row front) → Stand program w here copy at cs
  copies_stand w here front [] e copy at long many = tt
  copies_stand w here front (c ∷ cs) e copy at long many =
      let whole = row (front ++ (c.shape ∷ shapes_in cs)) in
      let b = behind_these front c.shape (shapes_in cs) in
      let front' = front ++ c.shape ∷ [] in
      let there : w.shape (FrameRoot here) ≡ Some (row (front' ++ shapes_in cs)) = e ∙ ap (λ l. Some (row l)) (sym (append_assoc front (c.shape ∷ []) (shapes_in cs))) in
      let longer : suc copy ≡ length front' = omega (arith, long, length-append front (c.shape ∷ [])) in
      let more : at + size c.shape ≡ size (row front') = (let h = size_rows front (c.shape ∷ []) in omega (arith, many, h)) in (
        ap (option_and_then (inside (copy ∷ []))) e ∙ ap (λ n. inside (n ∷ []) whole) long ∙ ap (option_and_then (λ s. Some s)) b.0,
        ap (number_of (offset (copy ∷ []))) e ∙ ap (λ n. offset (n ∷ []) whole) long ∙ before_step (length front) whole ∙ b.1 ∙ sym many,
        copies_stand w here front' cs there (suc copy) (at + size c.shape) longer more,
      )

  -- The whole frame

  -- a part of the frame's first parts stands at its cell
  stood : (ss ts : List (Shape Sort)) (ks : List (Shape Kind)) (k : ℕ) (m : Shape Sort) → SameSizes ss ks → slice_get ss k ≡ Some m → (part k (row (ss ++ ts)) ≡ Some m) × (offset (k ∷ []) (row (ss ++ ts)) ≡ offset (k ∷ []) (row ks))
  stood ss ts ks k m same e = (
    part_of_row k (ss ++ ts) ∙ get_left ss ts k m e,
    before_step k (row (ss ++ ts)) ∙ same_before ss ks ts k m same e ∙ sym (before_step k (row ks)),
  )

  frame_of : (ms : List ℕ) (q : Procedure) (ps cs : List Part) → AreParts program (map (taken_as rows) q.parameters) ps → let s = row ((shapes_in ps ++ shapes_in (locals ms q.locals)) ++ shapes_in cs) in size s < 2 ^ 32 → IsFrameOf program (Some q) s
  frame_of ms q ps cs are few =
      let first = shapes_in ps in
      let second = shapes_in (locals ms q.locals) in
      let same = same_both first (map (parameter_cells rows) q.parameters) second (variable_cells rows q.locals) (parameters_same q.parameters ps are) (locals_same ms q.locals) in
      let ks = map (parameter_cells rows) q.parameters ++ variable_cells rows q.locals in
      record {
        parameters = λ k a e.
            let p = parameter_part q.parameters ps k a are e in
            let h = stood (first ++ second) (shapes_in cs) ks k p.0 same (get_left first second k p.0 p.1) in
            (p.0, record { there = h.0; cell = h.1 }, p.2);
        locals = λ k t e.
            let own : Some q ≡ Some e.0 = e.2 in
            let is : q ≡ e.0 = cc in
            let at : k ≡ length first + e.1 = e.3 ∙ ap (λ n. n + e.1) (ap (λ (z : Procedure). length z.parameters) (sym is) ∙ sym (length-map ps (λ p. p.shape) ∙ parameters_long q.parameters ps are)) in
            let there = local_part_at ms q.locals e.1 t (ap (λ (z : Procedure). option_map (λ (v : Variable). v.of) (slice_get z.locals e.1)) is ∙ e.4) in
            let h = stood (first ++ second) (shapes_in cs) ks k (variable_shape rows (id_of t)) same (get_right first second k e.1 at ∙ there) in
            record { there = h.0; cell = h.1 };
        few = few;
      }

  frame_so : (ms : List ℕ) (own : Option Procedure) (ps cs : List Part) → AreParts program (map (taken_as rows) (parameters_of own)) ps → let s = row ((shapes_in ps ++ shapes_in (locals ms (locals_of own))) ++ shapes_in cs) in size s < 2 ^ 32 → IsFrameOf program own s
  frame_so ms None ps cs are few = body_frame program (row ((shapes_in ps ++ []) ++ shapes_in cs)) few
  frame_so ms (Some q) ps cs are few = frame_of ms q ps cs are few

  -- A call

  module _ (ranked : IsRanked program.types) (ps ms : List ℕ) (made : List Made) (fs : List S.Frame) (s : Store) (y : Rooted (List Cell)) (shows : Shows (Is program) cell_of (scheme program) made (shapes_of fs) (S.all_rooted fs s) y) (r : Routine) (vs : List Value) (given : Given program (world_of program made (shapes_of fs)) (parameters_of r.own) (S.arguments_in (has_self r.own) vs)) (kinds : List Kind) (kinds_are : kinds ≡ leaves (row (parts_of rows r.home r.body r.own))) where
    abbrev called : S.Frame
    called = S.called_frame program ms r vs fs s

    -- what is handed over for its parameters
    abbrev us : List Value
    us = S.arguments_in (has_self r.own) vs

    abbrev now : World Sort
    now = world_of program made (shapes_of fs)

    abbrev above : World Sort
    above = world_of program made (shapes_of (called ∷ fs))

    abbrev own_locals : List Part
    own_locals = locals ms (locals_of r.own)

    abbrev copy : ℕ
    copy = length (parameters_of r.own) + length own_locals

    abbrev handed : Handed
    handed = H.handed rows (length fs) (S.all_rooted fs s) (parameters_of r.own) us copy

    abbrev front : List (Shape Sort)
    front = shapes_in handed.parameters ++ shapes_in own_locals

    abbrev known_parts : List (Shape Kind)
    known_parts = parts_of rows r.home r.body r.own

    pub call_alike : Alike program made (shapes_of fs) (S.all_rooted fs s) y shows above (frame_grows (scheme program) made called.shape (shapes_of fs)) (length fs) ps ranked (map (taken_as rows) (parameters_of r.own)) handed (I.handed ps (length fs) y (map (parameter_kind rows) (parameters_of r.own)) (map (cell_of now) us) (length kinds)) copy (length kinds)
    call_alike =
        handed_alike program made (shapes_of fs) (S.all_rooted fs s) y shows above (frame_grows (scheme program) made called.shape (shapes_of fs)) (length fs) ps ranked (parameters_of r.own) us copy (length kinds) given

    pub same : SameSizes front known_parts
    same =
        same_both (shapes_in handed.parameters) (map (parameter_cells rows) (parameters_of r.own)) (shapes_in own_locals) (variable_cells rows (locals_of r.own))
        (parameters_same (parameters_of r.own) handed.parameters call_alike.parts) (locals_same ms (locals_of r.own))

    many_kinds : length kinds ≡ size (row front)
    many_kinds = ap length kinds_are ∙ kinds_counted (row known_parts) ∙ sym (same_size front known_parts same)

    pub split : shapes_in (handed.parameters ++ (own_locals ++ handed.copies)) ≡ front ++ shapes_in handed.copies
    split =
        map-append (λ p. p.shape) handed.parameters (own_locals ++ handed.copies)
        ∙ ap (λ l. shapes_in handed.parameters ++ l) (map-append (λ p. p.shape) own_locals handed.copies)
        ∙ sym (append_assoc (shapes_in handed.parameters) (shapes_in own_locals) (shapes_in handed.copies))

    stand : Stand program above (length fs) copy (length kinds) handed.copies
    stand =
        copies_stand above (length fs) front handed.copies (top_shape program made called fs ∙ ap (λ l. Some (row l)) split) copy (length kinds)
        (sym (length-append (shapes_in handed.parameters) (shapes_in own_locals)
        ∙ (λ j. (length-map handed.parameters (λ p. p.shape) ∙ parameters_long (parameters_of r.own) handed.parameters call_alike.parts) j + length-map own_locals (λ p. p.shape) j)))
        many_kinds

    -- the cells of its locals
    abbrev local_cells : List Cell
    local_cells = map first_cell (leaves (row (variable_cells rows (locals_of r.own))))

    dropped : drop (length call_alike.cells) kinds ≡ leaves (row (variable_cells rows (locals_of r.own)))
    dropped =
        let first = leaves (row (map (parameter_cells rows) (parameters_of r.own))) in
        let second = leaves (row (variable_cells rows (locals_of r.own))) in
        let long : length first ≡ length call_alike.cells = kinds_counted (row (map (parameter_cells rows) (parameters_of r.own)))
        ∙ sym (same_size (shapes_in handed.parameters) (map (parameter_cells rows) (parameters_of r.own)) (parameters_same (parameters_of r.own) handed.parameters call_alike.parts))
        ∙ sym (shown_long (Is program) cell_of above (shape_of_parts handed.parameters) (content_of_parts handed.parameters) call_alike.cells (call_alike.parameters stand)) in
        ap (drop (length call_alike.cells)) (kinds_are ∙ kinds_of_append (map (parameter_cells rows) (parameters_of r.own)) (variable_cells rows (locals_of r.own)))
        ∙ drop_at first second (length call_alike.cells) long

    -- the frame's cells
    abbrev pub cells_of_call : List Cell
    cells_of_call = call_alike.cells ++ (map first_cell (drop (length call_alike.cells) kinds) ++ call_alike.copies)

    -- show its variables
    pub call_shown : Shown (Is program) cell_of above called.shape called.variables cells_of_call
    call_shown =
        subst (λ l. PartsShown program above (handed.parameters ++ (own_locals ++ handed.copies)) (call_alike.cells ++ (map first_cell l ++ call_alike.copies))) (sym dropped)
        (parts_shown program above handed.parameters (own_locals ++ handed.copies) call_alike.cells (local_cells ++ call_alike.copies) (call_alike.parameters stand)
        (parts_shown program above own_locals handed.copies local_cells call_alike.copies (locals_shown ms above (locals_of r.own)) call_alike.copied))

    -- where it has few, the procedure's parameters and locals stand in it
    pub call_frame_of : size called.shape < 2 ^ 32 → IsFrameOf program r.own called.shape
    call_frame_of few =
        subst (λ l. IsFrameOf program r.own (row l)) (sym split)
        (frame_so ms r.own handed.parameters handed.copies call_alike.parts (subst (λ l. size (row l) < 2 ^ 32) split few))

  -- On the other side the kinds of the frame's cells are those of what is known of the procedure.
  module _ (ranked : IsRanked program.types) (ps ms : List ℕ) (made : List Made) (fs : List S.Frame) (s : Store) (y : Rooted (List Cell)) (shows : Shows (Is program) cell_of (scheme program) made (shapes_of fs) (S.all_rooted fs s) y) (r : Routine) (vs : List Value) (given : Given program (world_of program made (shapes_of fs)) (parameters_of r.own) (S.arguments_in (has_self r.own) vs)) (n : ℕ) (shape : ProcShape) (is : seen_shape shape ≡ shape_of program.types r) where
    abbrev frame : S.Frame
    frame = S.called_frame program ms r vs fs s

    abbrev given_cells : List Cell
    given_cells = map (cell_of (world_of program made (shapes_of fs))) (S.arguments_in (has_self r.own) vs)

    abbrev kinds : List Kind
    kinds = shape.kinds.items

    pub kinds_are : kinds ≡ leaves (row (parts_of rows r.home r.body r.own))
    kinds_are = ap (λ z. z.kinds) is ∙ known_kinds rows r.home r.body r.own

    abbrev alike : Alike program made (shapes_of fs) (S.all_rooted fs s) y shows (world_of program made (shapes_of (frame ∷ fs))) (frame_grows (scheme program) made frame.shape (shapes_of fs)) (length fs) ps ranked (map (taken_as rows) (parameters_of r.own))
        (H.handed rows (length fs) (S.all_rooted fs s) (parameters_of r.own) (S.arguments_in (has_self r.own) vs) (length (parameters_of r.own) + length (locals ms (locals_of r.own)))) (I.handed ps (length fs) y (map (parameter_kind rows) (parameters_of r.own)) given_cells (length kinds))
        (length (parameters_of r.own) + length (locals ms (locals_of r.own))) (length kinds)
    alike = call_alike ranked ps ms made fs s y shows r vs given kinds kinds_are

    abbrev pub both : I.Handed ps
    both = record { cells = alike.cells; copies = alike.copies }

    abbrev entered : I.Frame
    entered = I.called_frame ps n (S.self_of (has_self r.own) vs) shape both

    -- what is handed over is there, and makes this frame
    pub handed_there : I.handed ps (length fs) y shape.params.items given_cells (length kinds) ≡ Some both
    handed_there =
        ap (λ l. I.handed ps (length fs) y l given_cells (length kinds)) (ap (λ z. z.params) is ∙ known_parameters rows r.home r.body r.own) ∙ alike.image

    -- whose cells show the variables of the other side's
    pub called_shown : Shown (Is program) cell_of (world_of program made (shapes_of (frame ∷ fs))) frame.shape frame.variables entered.cells
    called_shown = call_shown ranked ps ms made fs s y shows r vs given kinds kinds_are

    -- and which counts as many scalars
    pub called_counted : entered.counted ≡ frame.counted
    called_counted =
        let h = H.handed rows (length fs) (S.all_rooted fs s) (parameters_of r.own) (S.arguments_in (has_self r.own) vs) (length (parameters_of r.own) + length (locals ms (locals_of r.own))) in
        let front = shapes_in h.parameters ++ shapes_in (locals ms (locals_of r.own)) in
        let sizes = same ranked ps ms made fs s y shows r vs given kinds kinds_are in
        let counted = ap (λ z. z.counted) is ∙ known_counted rows r.home r.body r.own ∙ sym (same_size front (parts_of rows r.home r.body r.own) sizes) in
        let copies = shown_long (Is program) cell_of (world_of program made (shapes_of (frame ∷ fs))) (shape_of_parts h.copies) (content_of_parts h.copies) alike.copies alike.copied in
        (λ j. counted j + copies j) ∙ sym (size_rows front (shapes_in h.copies)) ∙ ap (λ l. size (row l)) (sym (split ranked ps ms made fs s y shows r vs given kinds kinds_are))

    -- where it has few, the procedure's parameters and locals stand in it
    pub called_frame_of : size frame.shape < 2 ^ 32 → IsFrameOf program r.own frame.shape
    called_frame_of few = call_frame_of ranked ps ms made fs s y shows r vs given kinds kinds_are few

-- what a call leaves on the stack of its caller
pub answer_stacked : (w : World Sort) (t : Option TType) (kind : Option Kind) (f : TType → Kind) (v : Value) (st : Stack) → kind ≡ option_map f t → (if is_some kind then cell_of w v ∷ st else st) ≡ with_answer w t v st
answer_stacked w None kind f v st e = ap (λ k. if is_some k then cell_of w v ∷ st else st) e
answer_stacked w (Some t) kind f v st e = ap (λ k. if is_some k then cell_of w v ∷ st else st) e

-- a frame that may be entered has few scalars
pub few_scalars : (frames scalars : ℕ) (f : S.Frame) → (if nat_lt frames MOST_FRAMES then nat_lt MOST_FRAME_SCALARS (f.counted + scalars) else true) ≡ false → f.counted < 2 ^ 32
few_scalars frames scalars f e = by (nat_lt frames MOST_FRAMES) (nat_lt MOST_FRAME_SCALARS (f.counted + scalars)) refl e
  where
    by : (a b : Bool) → nat_lt MOST_FRAME_SCALARS (f.counted + scalars) ≡ b → (if a then b else true) ≡ false → f.counted < 2 ^ 32
    by true b q e' = let l = ltb-false MOST_FRAME_SCALARS (f.counted + scalars) (q ∙ e') in omega (arith, l)
    by false b q e' = absurd (cc)

-- the frames below count alike
pub waiting_counted : (program : Program) (image : Image) (made : List Made) (result : Option TType) (fs : List S.Frame) (gs : List I.Frame) → Waiting program image made result fs gs → sum_by (λ (g : I.Frame). g.counted) gs ≡ sum_by (λ (f : S.Frame). f.counted) fs
waiting_counted program image made result [] [] h = refl
waiting_counted program image made result [] (g ∷ gs) h = absurd h
waiting_counted program image made result (f ∷ fs) [] h = absurd h
waiting_counted program image made result (f ∷ fs) (g ∷ gs) h =
    sum_by-cons (λ (x : I.Frame). x.counted) g gs
    ∙ (λ j. h.0.place.counted_is j + waiting_counted program image made (result_of h.0.place.routine.own) fs gs h.1 j)
    ∙ sym (sum_by-cons (λ (x : S.Frame). x.counted) f fs)
