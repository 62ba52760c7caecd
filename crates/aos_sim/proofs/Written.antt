-- A change below a root, in the store and in the memory, leaves frames as they were but for their variables and cells.
use Rattle.std.proofs.Common.{◌≡◌, ℕ, List, [], ◌∷◌, length, map, refl, sym, ap, ◌∙◌, subst}
use Rattle.std.proofs.lemmas.List.{length-map}
use Rattle.std.specs.Prelude.{Bool, Option, true, false, nat_eq, if◌then◌else◌}
use Rattle.aos_base.specs.declared.root.Root.{Root}
use Rattle.aos_base.specs.declared.root.Root.TheVariants.{Frame as FrameRoot, Module as ModuleRoot, Object as ObjectRoot}
use Rattle.aos_base.specs.Rooted.{Made, change_from_last, change_root}
use Rattle.aos_types.specs.Content.{Content}
use Rattle.aos_types.specs.World.{Grows}
use Rattle.aos_typed.specs.declared.tree.TType.{TType}
use Rattle.aos_typed.specs.Program.{Program}
use Rattle.aos_typed.specs.Routines.{result_of}
use Rattle.aos_typed.specs.Value.{Value}
use Rattle.aos_typed.specs.Typing.{Is}
use Rattle.aos_typed.specs.Store.{Store, store_with}
use Rattle.aos_typed.specs.Source as S
use Rattle.aos_code.specs.declared.instr.Cell.{Cell}
use Rattle.aos_code.specs.declared.image.Image.{Image}
use Rattle.aos_code.specs.Memory.{Memory}
use Rattle.aos_code.specs.Machine as I
use Rattle.aos_memory_laws.specs.Shows.{FramesShown, Shows}
use Rattle.aos_sim.specs.Cells.{cell_of}
use Rattle.aos_sim.proofs.Does.{scheme, HasShapes}
use Rattle.aos_sim.proofs.Runs.{tables_of}
use Rattle.aos_sim.proofs.States.{SameRegions, here_in, AreFew, world_of, shapes_of, with_answer, Went, WaitingFrame, WentFrame, Waiting, WentFrames, SameVariables, Follows, SameState, waiting_length, went_same}

module _ {X : Type 0} (F : X → X) (d : ℕ) where
  -- an element is changed before or behind a look at it
  pub change_map : {Y : Type 0} (v : X → Y) (G : Y → Y) → ((x : X) → v (F x) ≡ G (v x)) → (xs : List X) → map v (change_from_last d F xs) ≡ change_from_last d G (map v xs)
  change_map v G h [] = refl
  change_map v G h (x ∷ xs) =
      (elim (nat_eq d (length xs)) as (λ q. map v (if q then F x ∷ xs else x ∷ change_from_last d F xs) ≡ (if q then G (v x) ∷ map v xs else v x ∷ change_from_last d G (map v xs))) [
        | true ↦ (λ j. h x j ∷ map v xs)
        | false ↦ (λ j. v x ∷ change_map v G h xs j)
      ])
      ∙ ap (λ n. if nat_eq d n then G (v x) ∷ map v xs else v x ∷ change_from_last d G (map v xs)) (sym (length-map xs v))

  -- what no change touches stays
  pub change_kept : {Y : Type 0} (v : X → Y) → ((x : X) → v (F x) ≡ v x) → (xs : List X) → map v (change_from_last d F xs) ≡ map v xs
  change_kept v h [] = refl
  change_kept v h (x ∷ xs) =
      elim (nat_eq d (length xs)) as (λ q. map v (if q then F x ∷ xs else x ∷ change_from_last d F xs) ≡ v x ∷ map v xs) [
        | true ↦ (λ j. h x j ∷ map v xs)
        | false ↦ (λ j. v x ∷ change_kept v h xs j)
      ]

  pub change_length : (xs : List X) → length (change_from_last d F xs) ≡ length xs
  change_length xs =
      let none : X → ℕ = λ x. 0 in
      sym (length-map (change_from_last d F xs) none) ∙ ap length (change_kept none (λ x. refl) xs) ∙ length-map xs none

module _ (program : Program) (image : Image) where
  -- frames below which some have changed their variables
  module _ (made : List Made) (f : S.Frame) (g : I.Frame) (fs fs' : List S.Frame) (shapes : shapes_of fs' ≡ shapes_of fs) (long : length fs' ≡ length fs) where
    waiting_moved : (result : Option TType) → WaitingFrame program image (world_of program made (shapes_of (f ∷ fs))) result (length fs) f g → WaitingFrame program image (world_of program made (shapes_of (f ∷ fs'))) result (length fs') f g
    waiting_moved result h =
        record {
          place = h.place;
          goes = λ w up v is.
              subst (λ n. Went program image h.place.routine.own g.procedure (here_in program image n f) w (S.told v f.answers) f.items g.next g.keeps (with_answer w result v g.stack)) (sym long)
              (h.goes w (subst (λ ss. Grows (world_of program made (f.shape ∷ ss)) w) shapes up) v is);
        }

    went_moved : WentFrame program image (world_of program made (shapes_of (f ∷ fs))) (length fs) f g → WentFrame program image (world_of program made (shapes_of (f ∷ fs'))) (length fs') f g
    went_moved h =
        record {
          place = h.place;
          went = subst (λ ss. Went program image h.place.routine.own g.procedure (here_in program image (length fs') f) (world_of program made (f.shape ∷ ss)) f.answers f.items g.next g.keeps g.stack) (sym shapes)
              (subst (λ n. Went program image h.place.routine.own g.procedure (here_in program image n f) (world_of program made (shapes_of (f ∷ fs))) f.answers f.items g.next g.keeps g.stack) (sym long) h.went);
        }

  module _ (made : List Made) (d : ℕ) (a : Content Value → Content Value) (b : List Cell → List Cell) where
    abbrev F : S.Frame → S.Frame
    F f = record f { variables = a f.variables }

    abbrev G : I.Frame → I.Frame
    G g = record g { cells = b g.cells }

    abbrev shapes_kept : (fs : List S.Frame) → shapes_of (change_from_last d F fs) ≡ shapes_of fs
    shapes_kept fs = change_kept F d (λ f. f.shape) (λ f. refl) fs

    waiting_written : (result : Option TType) (fs : List S.Frame) (gs : List I.Frame) → Waiting program image made result fs gs → Waiting program image made result (change_from_last d F fs) (change_from_last d G gs)
    unfolding waiting_moved
    waiting_written result [] [] h = tt
    waiting_written result [] (g ∷ gs) h = absurd h
    waiting_written result (f ∷ fs) [] h = absurd h
    waiting_written result (f ∷ fs) (g ∷ gs) h =
        let fs' = change_from_last d F fs in
        let gs' = change_from_last d G gs in
        let of = result_of h.0.place.routine.own in
        subst (λ n. Waiting program image made result (if nat_eq d (length fs) then F f ∷ fs else f ∷ fs') (if nat_eq d n then G g ∷ gs else g ∷ gs')) (waiting_length program image made of fs gs h.1)
        (elim (nat_eq d (length fs)) as (λ q. Waiting program image made result (if q then F f ∷ fs else f ∷ fs') (if q then G g ∷ gs else g ∷ gs')) [
          | true ↦ (record { place = h.0.place; goes = h.0.goes }, h.1)
          | false ↦ (waiting_moved made f g fs fs' (shapes_kept fs) (change_length F d fs) result h.0, waiting_written of fs gs h.1)
        ])

    went_written : (fs : List S.Frame) (gs : List I.Frame) → WentFrames program image made fs gs → WentFrames program image made (change_from_last d F fs) (change_from_last d G gs)
    unfolding went_moved
    went_written [] [] h = tt
    went_written [] (g ∷ gs) h = absurd h
    went_written (f ∷ fs) [] h = absurd h
    went_written (f ∷ fs) (g ∷ gs) h =
        let fs' = change_from_last d F fs in
        let gs' = change_from_last d G gs in
        let of = result_of h.0.place.routine.own in
        subst (λ n. WentFrames program image made (if nat_eq d (length fs) then F f ∷ fs else f ∷ fs') (if nat_eq d n then G g ∷ gs else g ∷ gs')) (waiting_length program image made of fs gs h.1)
        (elim (nat_eq d (length fs)) as (λ q. WentFrames program image made (if q then F f ∷ fs else f ∷ fs') (if q then G g ∷ gs else g ∷ gs')) [
          | true ↦ (record { place = h.0.place; went = h.0.went }, h.1)
          | false ↦ (went_moved made f g fs fs' (shapes_kept fs) (change_length F d fs) h.0, waiting_written of fs gs h.1)
        ])

    variables_written : (fs : List S.Frame) (gs : List I.Frame) → FramesShown (Is program) cell_of (scheme program) made (shapes_of fs) (change_from_last d a (map (λ f. f.variables) fs)) (change_from_last d b (map (λ g. g.cells) gs)) → SameVariables program made (change_from_last d F fs) (change_from_last d G gs)
    variables_written fs gs h =
        subst (λ ss. FramesShown (Is program) cell_of (scheme program) made ss (map (λ f. f.variables) (change_from_last d F fs)) (map (λ g. g.cells) (change_from_last d G gs))) (sym (shapes_kept fs))
        (subst (λ cs. FramesShown (Is program) cell_of (scheme program) made (shapes_of fs) cs (map (λ g. g.cells) (change_from_last d G gs))) (sym (change_map F d (λ f. f.variables) a (λ f. refl) fs))
        (subst (λ ys. FramesShown (Is program) cell_of (scheme program) made (shapes_of fs) (change_from_last d a (map (λ f. f.variables) fs)) ys) (sym (change_map G d (λ g. g.cells) b (λ g. refl) gs)) h))

  -- no region of theirs is opened or closed
  regions_left : (d : ℕ) (a : Content Value → Content Value) (fs : List S.Frame) (gs : List I.Frame) → SameRegions fs gs → SameRegions (change_from_last d (λ f. record f { variables = a f.variables }) fs) gs
  regions_left d a [] gs h = h
  regions_left d a (f ∷ fs) [] h = absurd h
  regions_left d a (f ∷ fs) (g ∷ gs) h = by (nat_eq d (length fs)) (regions_left d a fs gs h.1)
    where
      by : (q : Bool) → SameRegions (change_from_last d (λ f. record f { variables = a f.variables }) fs) gs → SameRegions (if q then record f { variables = a f.variables } ∷ fs else f ∷ change_from_last d (λ f. record f { variables = a f.variables }) fs) (g ∷ gs)
      by true k = h
      by false k = (h.0, k)

  regions_right : (d : ℕ) (b : List Cell → List Cell) (fs : List S.Frame) (gs : List I.Frame) → SameRegions fs gs → SameRegions fs (change_from_last d (λ g. record g { cells = b g.cells }) gs)
  regions_right d b [] [] h = h
  regions_right d b [] (g ∷ gs) h = absurd h
  regions_right d b (f ∷ fs) [] h = absurd h
  regions_right d b (f ∷ fs) (g ∷ gs) h = by (nat_eq d (length gs)) (regions_right d b fs gs h.1)
    where
      by : (q : Bool) → SameRegions fs (change_from_last d (λ g. record g { cells = b g.cells }) gs) → SameRegions (f ∷ fs) (if q then record g { cells = b g.cells } ∷ gs else g ∷ change_from_last d (λ g. record g { cells = b g.cells }) gs)
      by true k = h
      by false k = (h.0, k)

  -- where the changed memory shows the changed store, all is the same but for the change
  pub written : HasShapes program (tables_of program image) → (r : Root) (a : Content Value → Content Value) (b : List Cell → List Cell) (s : Store) (mem : Memory) (ms ps : List ℕ) (fs : List S.Frame) (gs : List I.Frame) → mem.made ≡ s.made → AreFew program s.made → Follows program image ms ps → WentFrames program image s.made fs gs → SameRegions fs gs →
      Shows (Is program) cell_of (scheme program) s.made (shapes_of fs) (change_root r a (S.all_rooted fs s)) (change_root r b (I.rooted gs mem)) →
      SameState program image (store_with r a s) (I.memory_with r b mem) (S.all_frames ms (S.frames_with r a fs)) (I.all_frames ps (I.frames_with r b gs))
  written shaped (FrameRoot d) a b s mem ms ps fs gs made few follows went marks h =
      let shown = variables_written s.made d a b fs gs h.of_frames in
      record {
        stores = record { made = made; few = few; of_modules = h.of_modules; of_objects = h.of_objects };
        same = record { follows = follows; frames = went_same program image shaped s.made (change_from_last d (F s.made d a b) fs) (change_from_last d (G s.made d a b) gs) few (went_written s.made d a b fs gs went) shown; shown = shown; regions = regions_right d b (S.frames_with (FrameRoot d) a fs) gs (regions_left d a fs gs marks) };
      }
  written shaped (ModuleRoot m) a b s mem ms ps fs gs made few follows went marks h =
      record {
        stores = record { made = made; few = few; of_modules = h.of_modules; of_objects = h.of_objects };
        same = record { follows = follows; frames = went_same program image shaped s.made fs gs few went h.of_frames; shown = h.of_frames; regions = marks };
      }
  written shaped (ObjectRoot o) a b s mem ms ps fs gs made few follows went marks h =
      record {
        stores = record { made = made; few = few; of_modules = h.of_modules; of_objects = h.of_objects };
        same = record { follows = follows; frames = went_same program image shaped s.made fs gs few went h.of_frames; shown = h.of_frames; regions = marks };
      }
