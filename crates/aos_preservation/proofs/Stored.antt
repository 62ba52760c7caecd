-- What a store and an activity's frames hold is of their types; so it is after a scalar is stored, a whole is copied, or a text is put.
use Rattle.std.proofs.Common.{◌≡◌, ℕ, List, [], ◌∷◌, length, map, Some, refl, sym, ap, ◌∙◌, subst}
use Rattle.std.specs.Prelude.{unsigned_abs}
use Rattle.aos_base.specs.declared.root.Root.{Root}
use Rattle.aos_base.specs.declared.root.Root.TheVariants.{Frame as FrameRoot, Module as ModuleRoot, Object as ObjectRoot}
use Rattle.aos_base.specs.Rooted.{Made, Rooted, change_from_last, change_root}
use Rattle.aos_types.specs.Content.{Content, Scalar, Fits, overlay, placed}
use Rattle.aos_types.specs.Shape.{Shape, One}
use Rattle.aos_types.specs.World.{World}
use Rattle.aos_code.specs.declared.instr.Cell.{Cell}
use Rattle.aos_code.specs.Memory.{Memory}
use Rattle.aos_memory_laws.specs.Shows.{FramesShown, Shows}
use Rattle.aos_memory_laws.proofs.Places.{read_alike, stored_alike}
use Rattle.aos_typed.specs.declared.tree.TType.{TType}
use Rattle.aos_typed.specs.Numbers.{id_of}
use Rattle.aos_typed.specs.Program.{Program}
use Rattle.aos_typed.specs.Sort.{Sort, Plain, variable_shape}
use Rattle.aos_typed.specs.Location.{Location}
use Rattle.aos_typed.specs.Store.{Store, scalar_in, store_with, value_at}
use Rattle.aos_typed.specs.Text.{fitted, with_text}
use Rattle.aos_typed.specs.Typing.{Is, IsPlain}
use Rattle.aos_typed.specs.Value.{Value, number_of}
use Rattle.aos_typed.specs.Meaning.{Here, Question}
use Rattle.aos_typed.specs.Source.{Frame, all_rooted, frames_with}
use Rattle.aos_sim.specs.Cells.{cell_of}
use Rattle.aos_sim.proofs.Copied.{copied_alike}
use Rattle.aos_sim.proofs.Does.{HasScalar, HasTypes, Valid, scheme}
use Rattle.aos_sim.proofs.Kept.{values_kept}
use Rattle.aos_sim.proofs.Objects.{some_same}
use Rattle.aos_sim.proofs.States.{SameStore, shapes_of, world_of}
use Rattle.aos_sim.proofs.Texts.{fitted_within, text_alike, stored_alike as text_stored_alike}
use Rattle.aos_sim.proofs.Written.{change_kept, change_map}
use Rattle.aos_handover.specs.Kinds.{IsStored, OneScalar, OneWhole, OneText}
use Rattle.aos_escape.proofs.Building.{SameTexts, NoFrames, OneMore, texts_length}
use Rattle.aos_preservation.proofs.Frames.{AllHold, AllTyped, FrameTyped}

module _ (p : Program) where
  -- there are cells that show what the store and these frames hold
  pub record Held (s : Store) (fs : List Frame) : Type 0 where
    pub memory : Memory
    pub stores : SameStore p s memory
    pub frames : AllHold p s.made fs

  -- what the topmost frame holds is of its shape
  pub top_fits : (made : List Made) (f : Frame) (fs : List Frame) → AllHold p made (f ∷ fs) → Fits (Is p (world_of p made (shapes_of (f ∷ fs)))) f.shape f.variables
  top_fits made f fs ([], h) = absurd h
  top_fits made f fs (y ∷ ys, h) = let k = h.0 in k.fits

  pub hold_below : (made : List Made) (f : Frame) (fs : List Frame) → AllHold p made (f ∷ fs) → AllHold p made fs
  hold_below made f fs ([], h) = absurd h
  hold_below made f fs (y ∷ ys, h) = (ys, h.1)

  -- Frames with other variables.

  texts_shapes : (fs gs : List Frame) → SameTexts fs gs → shapes_of fs ≡ shapes_of gs
  texts_shapes _ _ NoFrames = refl
  texts_shapes _ _ (OneMore f c fs gs same) = ap (λ l. f.shape ∷ l) (texts_shapes fs gs same)

  pub typed_moved : (made : List Made) (ns : List ℕ) (fs gs : List Frame) → SameTexts fs gs → AllTyped p made ns fs → AllTyped p made ns gs
  typed_moved made [] _ _ NoFrames h = h
  typed_moved made (n ∷ ns) _ _ NoFrames h = h
  typed_moved made [] _ _ (OneMore f c fs gs same) h = absurd h
  typed_moved made (n ∷ ns) _ _ (OneMore f c fs gs same) h =
      let k = h.0 in (
        subst (λ l. FrameTyped p (world_of p made (f.shape ∷ l)) n (record f { variables = c }) (length gs)) (texts_shapes fs gs same)
            (subst (FrameTyped p (world_of p made (shapes_of (f ∷ fs))) n (record f { variables = c })) (texts_length fs gs same)
            (record { routine = k.routine; there = k.there; function = k.function; frame = k.frame; self = k.self; items = k.items; answers = k.answers })),
        typed_moved made ns fs gs same h.1,
      )

  -- no object is made by a change
  pub made_with : (r : Root) (g : Content Value → Content Value) (s : Store) → s.made ≡ (store_with r g s).made
  made_with (FrameRoot d) g s = refl
  made_with (ModuleRoot m) g s = refl
  made_with (ObjectRoot o) g s = refl

  module _ (typed : HasTypes p) (s : Store) (fs : List Frame) (held : Held s fs) where
    abbrev now : World Sort
    now = world_of p s.made (shapes_of fs)

    -- the variables below the roots, and their cells
    abbrev pub variables : Rooted (Content Value)
    variables = all_rooted fs s

    abbrev pub cells : Rooted (List Cell)
    cells = record { frames = held.frames.0; modules = held.memory.modules; objects = held.memory.objects }

    abbrev pub Shown : Rooted (Content Value) → Rooted (List Cell) → Type 0
    Shown a b = Shows (Is p) cell_of (scheme p) s.made (shapes_of fs) a b

    pub shows : Shown variables cells
    shows = let k = held.stores in record { of_frames = held.frames.1; of_modules = k.of_modules; of_objects = k.of_objects }

    -- a scalar that is read is of its type
    pub read_is : (t : TType) (a : Location) → HasScalar p now a (Plain (id_of t)) → Is p now (Plain (id_of t)) (value_at a variables)
    read_is t a has =
        let r = read_alike (Is p) cell_of IsPlain (values_kept p) (scheme p) s.made (shapes_of fs) variables cells a.root a.path (Plain (id_of t)) shows has in
        subst (Is p now (Plain (id_of t))) (sym (ap scalar_in r.source)) r.is

    -- what stands below a root is changed, and other cells show it
    changed : (root : Root) (g : Content Value → Content Value) (z : Rooted (List Cell)) → Shown (change_root root g variables) z → Held (store_with root g s) (frames_with root g fs)
    changed (FrameRoot d) g z h =
        let change : Frame → Frame = λ f. record f { variables = g f.variables } in
        let k = held.stores in
        record {
          memory = record { modules = z.modules; objects = z.objects; made = s.made };
          stores = record { made = refl; few = k.few; of_modules = h.of_modules; of_objects = h.of_objects };
          frames = (
            z.frames,
            subst (λ ss. FramesShown (Is p) cell_of (scheme p) s.made ss (map (λ (f : Frame). f.variables) (change_from_last d change fs)) z.frames) (sym (change_kept change d (λ f. f.shape) (λ f. refl) fs))
                (subst (λ cs. FramesShown (Is p) cell_of (scheme p) s.made (shapes_of fs) cs z.frames) (sym (change_map change d (λ f. f.variables) g (λ f. refl) fs)) h.of_frames),
          );
        }
    changed (ModuleRoot m) g z h =
        let k = held.stores in
        record {
          memory = record { modules = z.modules; objects = z.objects; made = s.made };
          stores = record { made = refl; few = k.few; of_modules = h.of_modules; of_objects = h.of_objects };
          frames = (z.frames, h.of_frames);
        }
    changed (ObjectRoot o) g z h =
        let k = held.stores in
        record {
          memory = record { modules = z.modules; objects = z.objects; made = s.made };
          stores = record { made = refl; few = k.few; of_modules = h.of_modules; of_objects = h.of_objects };
          frames = (z.frames, h.of_frames);
        }

    -- the same change
    changed_so : (root : Root) (g g' : Content Value → Content Value) (z : Rooted (List Cell)) → g ≡ g' → Shown (change_root root g variables) z → Held (store_with root g' s) (frames_with root g' fs)
    changed_so root g g' z e h = subst (λ (c : Content Value → Content Value). Held (store_with root c s) (frames_with root c fs)) e (changed root g z h)

    -- what a valid question stores
    pub stored_held : (here : Here) (q : Question) (root : Root) (g : Content Value → Content Value) → IsStored p variables q root g → Valid p here now q → Held (store_with root g s) (frames_with root g fs)
    stored_held here _ _ _ (OneScalar a v) valid =
        changed a.root (placed a.path (Scalar v)) _
        (stored_alike (Is p) cell_of IsPlain (values_kept p) (scheme p) s.made (shapes_of fs) variables cells a.root a.path (One valid.0) (Scalar v) shows valid.2 valid.1 valid.3)
    stored_held here _ _ _ (OneWhole t from to new old e e') valid =
        let shape : Shape Sort = variable_shape p.types (id_of t) in
        let c = copied_alike p s.made (shapes_of fs) variables cells shows t from to valid.0 valid.1 in
        let news : c.new ≡ new = some_same c.new new (sym c.read_from ∙ e) in
        let olds : c.old ≡ old = some_same c.old old (sym c.read_to ∙ e') in
        changed_so to.root (placed to.path (overlay shape c.new c.old)) (placed to.path (overlay shape new old)) _ (λ j. placed to.path (overlay shape (news j) (olds j))) c.alike
    stored_held here _ _ _ (OneText strict from n to room cs old fits e) valid =
        let from_is = valid.0 in
        let into = valid.1 in
        let a = text_alike p typed.predeclared s.made (shapes_of fs) variables cells shows [] from from_is.0 from_is.2 in
        let fitting : fitted strict into.0 a.text ≡ Some cs = (λ j. fitted strict (unsigned_abs (number_of (sym into.1 j))) (sym a.source j)) ∙ fits in
        let c = text_stored_alike p typed.predeclared s.made (shapes_of fs) variables cells shows [] to into.0 cs into.2 (fitted_within strict into.0 a.text cs into.3 a.codes fitting) in
        let olds : c.old ≡ old = some_same c.old old (sym c.source ∙ e) in
        changed_so to.root (placed to.path (with_text cs c.old)) (placed to.path (with_text cs old)) _ (ap (λ z. placed to.path (with_text cs z)) olds) c.alike
