-- The code of a routine is sound, and so is each body of an image that has a program's code.
use Rattle.std.proofs.Common.{false, ◌≡◌, ◌≤◌, ℕ, suc, ◌+◌, List, [], length, map, Option, Some, None, refl, sym, ap, ◌∙◌, subst, arith}
use Rattle.std.specs.Prelude.{Bool, slice_get, option_map}
use Rattle.std.proofs.lemmas.Option.{slice_get-map}
use Rattle.aos_base.specs.Rooted.{by_number}
use Rattle.aos_base.specs.declared.text.Pos.{Pos}
use Rattle.aos_code.specs.declared.instr.Instr.TheVariants.{Return, Fail}
use Rattle.aos_code.specs.declared.image.Body.{Body}
use Rattle.aos_code.specs.declared.image.Image.{Image}
use Rattle.aos_code.specs.Numbered.{numbered}
use Rattle.aos_code.specs.Silent.{keeps_in}
use Rattle.aos_layout.specs.Layout.{kind_of as cell_kind}
use Rattle.aos_sound.specs.declared.stand.Role.TheVariants as role
use Rattle.aos_sound.specs.Sound.{alone, returned, IsSound}
use Rattle.aos_typed.specs.declared.tree.TType.{TType}
use Rattle.aos_typed.specs.Numbers.{id_of}
use Rattle.aos_typed.specs.Program.{Body as Carried, Parameter, Variable, Procedure, Program}
use Rattle.aos_typed.specs.Routines.{Routine, result_of, routines}
use Rattle.aos_typed.specs.Conditions.{conditions, AreLinked, IsLinkedIn}
use Rattle.aos_typed.proofs.Conditions.{linked}
use Rattle.aos_typed.specs.WellTyped.{AreStatements, IsWellTyped}
use Rattle.aos_sim.proofs.Lists.{all_get}
use Rattle.aos_sim.proofs.Runs.{tables_of}
use Rattle.aos_sim.proofs.Typed.{has_types}
use Rattle.aos_sim.specs.Code.{NoRegion, block_within, block_at, body_ways, statements_code, end_code, body_code}
use Rattle.aos_sim.proofs.Sizes.{block_alike, stats_length}
use Rattle.aos_sim.specs.Shows.{IsCodeOf}
use Rattle.aos_sim.specs.Need.{body_need, keeps_of, HasDepthsOf}
use Rattle.aos_sim.proofs.Bodies.{keeps_known, routines_typed, has_shapes}
use Rattle.aos_code_soundness.specs.Bodies.{AreBodiesSound, AreSound}
use Rattle.aos_code_soundness.proofs.Closed.{Closed, ends, closes, closed_sound}
use Rattle.aos_code_soundness.proofs.Numbers.{HasNumbers, has_numbers, mapped_at}
use Rattle.aos_code_soundness.proofs.Statements.{block_piece}

module _ (p : Program) (o : Option Procedure) (image : Image) (own depth : ℕ) (has : HasNumbers p o image own) where
  -- where no result is given the end finds nothing
  finds_nothing : option_map (λ t. cell_kind p.types (id_of t)) (result_of o) ≡ None → returned (numbered image.shapes.items own) [] ≡ Some []
  finds_nothing e = ap (λ f. returned f []) has.mine.1 ∙ ap (λ k. alone k []) (has.mine.2 ∙ e)

  -- the end of a routine
  end_closed : (at : ℕ) → Closed image own role.Procedure depth (end_code p o) at []
  end_closed at = by o refl
    where
      of_result : (name : List ℕ) (place : Pos) (of : Option ℕ) (initial : Bool) (parameters : List Parameter) (locals : List Variable) (result : Option TType) (body : Carried) → o ≡ Some (record { name = name; at = place; of = of; is_initializer = initial; parameters = parameters; locals = locals; result = result; body = body }) → Closed image own role.Procedure depth (end_code p (Some (record { name = name; at = place; of = of; is_initializer = initial; parameters = parameters; locals = locals; result = result; body = body }))) at []
      of_result name place of initial parameters locals None body e =
          ends image own role.Procedure depth Return at [] [] (finds_nothing (ap (λ x. option_map (λ t. cell_kind p.types (id_of t)) (result_of x)) e)) refl (omega arith) (λ whole q. refl)
      of_result name place of initial parameters locals (Some t) body e = ends image own role.Procedure depth (Fail 10) at [] [] refl refl (omega arith) (λ whole q. refl)

      by : (x : Option Procedure) → o ≡ x → Closed image own role.Procedure depth (end_code p x) at []
      by None e = ends image own role.Procedure depth Return at [] [] (finds_nothing (ap (λ x. option_map (λ t. cell_kind p.types (id_of t)) (result_of x)) e)) refl (omega arith) (λ whole q. refl)
      by (Some q) e = of_result q.name q.at q.of q.is_initializer q.parameters q.locals q.result q.body e

  -- a routine is sound with room for as many operands as its statements need, where it keeps what they keep
  pub body_sound : (b : Carried) → keeps_in (numbered image.shapes.items own) ≡ keeps_of b.statements → AreStatements p o b.statements → (home : ℕ) → AreLinked (conditions p) home o b.statements → body_need b.statements ≤ depth → IsSound image own role.Procedure (body_code p o b) depth
  body_sound b keeps h home g room =
      let exclusive = b.is_exclusive in
      let ss = b.statements in
      let exit = length (statements_code p o b 0) in
      let same : exit ≡ length (statements_code p o b exit) = block_alike exclusive _ _ (stats_length p o ss (block_at exclusive 0) (block_within exclusive NoRegion) 0 exit 0) in
      let ended : 0 + length (statements_code p o b exit) ≡ exit = omega (arith, same) in
      closed_sound image own role.Procedure depth (body_code p o b)
      (closes image own role.Procedure depth
      (block_piece p o image own depth has home exclusive ss h g 0 (body_ways false exit) 0 (omega (arith, same)) (omega (arith, keeps)) room)
      (end_closed _)
      (λ whole kinds e. ap kinds (sym ended) ∙ e))

module _ (p : Program) (image : Image) (well : IsWellTyped p) (ok : IsCodeOf p image) where
  abbrev IsTyped : Routine → Type 0
  IsTyped r = AreStatements p r.own r.body.statements

  -- all bodies are sound
  pub bodies_sound : AreBodiesSound p image
  bodies_sound k b e =
      let code : Routine → _ = λ r. body_code p r.own r.body in
      let found : slice_get (map code (routines p)) k ≡ Some b.code.items = ap (λ l. slice_get l k) (sym ok.bodies) ∙ slice_get-map (λ (x : Body). x.code.items) image.bodies.items k ∙ ap (option_map (λ (x : Body). x.code.items)) e in
      let s = mapped_at code (routines p) k b.code.items found in
      let r = s.0 in
      let n : suc k ≡ k + 1 = omega arith in
      let there : by_number (k + 1) (routines p) ≡ Some r = ap (λ j. by_number j (routines p)) (sym n) ∙ s.1 in
      let typed = all_get IsTyped (routines p) k r (routines_typed p well) s.1 in
      record {
        routine = r;
        are = s.1;
        sound = λ need le. subst (λ c. IsSound image (k + 1) role.Procedure c need) s.2 (body_sound p r.own image (k + 1) need (has_numbers p image well ok (k + 1) r there) r.body (keeps_known p (tables_of p image) (has_shapes p image ok (has_types p well)) (k + 1) r there) typed r.home (all_get (IsLinkedIn p) (routines p) k r (linked p well.conditions) s.1) le);
      }

  -- and each with as many operands as it says, where that is what its statements need
  pub bodies_sound_as_said : HasDepthsOf p image → AreSound image
  bodies_sound_as_said depths k b e =
      let is = bodies_sound k b e in
      let need : Routine → ℕ = λ r. body_need r.body.statements in
      let found : slice_get (map need (routines p)) k ≡ Some b.depth = ap (λ l. slice_get l k) (sym depths.bodies) ∙ slice_get-map (λ (x : Body). x.depth) image.bodies.items k ∙ ap (option_map (λ (x : Body). x.depth)) e in
      let needed : Some (need is.routine) ≡ Some b.depth = ap (option_map need) (sym is.are) ∙ sym (slice_get-map need (routines p) k) ∙ found in
      let same : body_need is.routine.body.statements ≡ b.depth = cc in
      is.sound b.depth (omega (arith, same))
