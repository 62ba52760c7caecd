-- The image of a well-typed program is sound as a whole: the procedures that it names have bodies, and each body and each condition is
-- sound with as many operands as it says.
use Rattle.std.proofs.Common.{◌≡◌, ℕ, zero, suc, ◌+◌, List, [], ◌∷◌, length, map, Option, Some, None, refl, sym, ap, ◌∙◌, subst, arith}
use Rattle.std.specs.Prelude.{slice_get, option_map}
use Rattle.std.specs.List.{range_with_len}
use Rattle.std.proofs.lemmas.Option.{slice_get-map}
use Rattle.aos_code.specs.declared.image.Body.{Body}
use Rattle.aos_code.specs.declared.image.Image.{Image}
use Rattle.aos_code.specs.declared.image.ModuleDesc.{ModuleDesc}
use Rattle.aos_code.specs.declared.image.ProcShape.{ProcShape}
use Rattle.aos_code.specs.declared.image.TypeDesc.{TypeDesc}
use Rattle.aos_code.specs.Numbered.{numbered}
use Rattle.aos_layout.specs.Seen.{seen_shape}
use Rattle.aos_sound.specs.Sound.{ArePathsSound}
use Rattle.aos_sound.specs.FitFrames.{HasBody, HasBodyOrNone, IsSoundImage}
use Rattle.aos_typed.specs.Conditions.{Condition, conditions}
use Rattle.aos_typed.specs.Methods.{body_type}
use Rattle.aos_typed.specs.Program.{Program}
use Rattle.aos_typed.specs.Routines.{Routine, routine_of, routines}
use Rattle.aos_typed.specs.WellTyped.{IsWellTyped}
use Rattle.aos_sim.specs.Code.{body_code}
use Rattle.aos_sim.specs.Need.{value_need, HasDepthsOf}
use Rattle.aos_sim.specs.Shows.{numbers_from, body_in, shape_of, IsCodeOf}
use Rattle.aos_sim.proofs.Bodies.{alike_at}
use Rattle.aos_sim.proofs.Routines.{body, module_there, object_there}
use Rattle.aos_sim.proofs.Typed.{has_types}
use Rattle.aos_code_soundness.specs.Images.{IsConditionSoundAsSaid, IsSoundImageOf}
use Rattle.aos_code_soundness.proofs.Bodies.{bodies_sound_as_said}
use Rattle.aos_code_soundness.proofs.Conditions.{conditions_sound}

-- one of the numbers from one on is that of an element
numbers_at : {A : Type 0} (from : ℕ) (xs : List A) (k n : ℕ) → slice_get (numbers_from from xs) k ≡ Some n → (x : A) × (slice_get xs k ≡ Some x) × (n ≡ from + k)
numbers_at from [] k n e = absurd (cc)
numbers_at from (x ∷ xs) zero n e = let z : from ≡ n = cc in (x, refl, omega (arith, z))
numbers_at from (x ∷ xs) (suc k) n e =
    let h = numbers_at (suc from) xs k n e in
    let z = h.2 in
    (h.0, h.1, omega (arith, z))

module _ (p : Program) (image : Image) (well : IsWellTyped p) (ok : IsCodeOf p image) where
  -- each routine has a body
  routine_body : (k : ℕ) (r : Routine) → slice_get (routines p) k ≡ Some r → HasBody image (suc k)
  routine_body k r e =
      let b = alike_at (λ (b : Body). b.code.items) (λ r. body_code p r.own r.body) image.bodies.items (routines p) ok.bodies k r e in
      (b.0, b.1)

  -- and so has each procedure with a shape
  shapes_have : (q : ℕ) (f : ProcShape) → numbered image.shapes.items q ≡ Some f → HasBody image q
  shapes_have zero f e = absurd (cc)
  shapes_have (suc k) f e =
      let r = alike_at (shape_of p.types) seen_shape (routines p) image.shapes.items (sym ok.shapes) k f e in
      routine_body k r.0 r.1

  modules_have : (k : ℕ) (m : ModuleDesc) → slice_get image.modules.items k ≡ Some m → HasBodyOrNone image m.body
  modules_have k m e =
      let at : slice_get (numbers_from 1 p.modules) k ≡ Some m.body = ap (λ l. slice_get l k) (sym ok.starts) ∙ slice_get-map (λ (d : ModuleDesc). d.body) image.modules.items k ∙ ap (option_map (λ (d : ModuleDesc). d.body)) e in
      let x = numbers_at 1 p.modules k m.body at in
      let z = x.2 in
      let n : suc k ≡ m.body = omega (arith, z) in
      subst (HasBodyOrNone image) n (routine_body k (body k x.0.body) (module_there p k x.0 x.1))

  -- the body that the objects of a type have is that beside a type
  type_has : (t n : ℕ) (o : Option ℕ) → body_type p t ≡ o → body_in p o ≡ n → HasBodyOrNone image n
  type_has t n None is e = subst (HasBodyOrNone image) e tt
  type_has t n (Some b) is e =
      let has = (has_types p well).methods.bodies t b is in
      subst (HasBodyOrNone image) e (routine_body (length p.modules + b) (routine_of has.object.home has.object.body) (object_there p b has.object has.there))

  types_have : (k : ℕ) (t : TypeDesc) → numbered image.types.items k ≡ Some t → HasBodyOrNone image t.body
  types_have zero t e = absurd (cc)
  types_have (suc k) t e =
      let u = alike_at (λ k. body_in p (body_type p k)) (λ (t : TypeDesc). t.body) (range_with_len 0 (length p.objects)) image.types.items (sym ok.types) k t e in
      type_has u.0 t.body (body_type p u.0) refl u.2

  module _ (depths : HasDepthsOf p image) where
    paths_sound : (q : ℕ) (b : Body) → numbered image.bodies.items q ≡ Some b → ArePathsSound image q b.code.items b.depth
    paths_sound zero b e = absurd (cc)
    paths_sound (suc k) b e =
        let n : k + 1 ≡ suc k = omega arith in
        subst (λ q. ArePathsSound image q b.code.items b.depth) n (bodies_sound_as_said p image well ok depths k b e).paths

    sound_image : IsSoundImage image
    sound_image = record { paths = paths_sound; shapes = shapes_have; modules = modules_have; types = types_have }

    -- each condition with as many operands as it says
    conditions_sound_as_said : (k : ℕ) (b : Body) → slice_get image.conds.items k ≡ Some b → IsConditionSoundAsSaid p image k b
    conditions_sound_as_said k b e =
        let c = conditions_sound p image well ok k b e in
        let need : Condition → ℕ = λ c. value_need c.expression in
        let found : slice_get (map need (conditions p)) k ≡ Some b.depth = ap (λ l. slice_get l k) (sym depths.conditions) ∙ slice_get-map (λ (x : Body). x.depth) image.conds.items k ∙ ap (option_map (λ (x : Body). x.depth)) e in
        let needed : Some (need c.condition) ≡ Some b.depth = ap (option_map need) (sym c.is) ∙ sym (slice_get-map need (conditions p) k) ∙ found in
        let same : value_need c.condition.expression ≡ b.depth = cc in
        record { condition = c.condition; is = c.is; own = c.own; routine = c.routine; are = c.are; over = c.over; sound = c.sound b.depth (omega (arith, same)) }

    pub image_sound : IsSoundImageOf p image
    image_sound = record { whole = sound_image; bodies = bodies_sound_as_said p image well ok depths; conditions = conditions_sound_as_said }
