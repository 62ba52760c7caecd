-- Over each image with a program's tables the code of a part of a routine is a piece.
use Rattle.std.proofs.Common.{◌≡◌, ℕ, suc, ◌+◌, Some, refl, sym, ap, ◌∙◌, arith}
use Rattle.aos_base.specs.Rooted.{by_number}
use Rattle.aos_code.specs.Numbered.{numbered}
use Rattle.aos_code.specs.Silent.{keeps_in}
use Rattle.aos_code.specs.declared.image.Image.{Image}
use Rattle.aos_sound.specs.declared.stand.Role.TheVariants as role
use Rattle.aos_typed.specs.Program.{Program}
use Rattle.aos_typed.specs.Routines.{Routine, routines}
use Rattle.aos_typed.specs.WellTyped.{IsWellTyped}
use Rattle.aos_sim.specs.Need.{keeps_of}
use Rattle.aos_sim.proofs.Bodies.{keeps_known}
use Rattle.aos_sim.proofs.Runs.{tables_of}
use Rattle.aos_code_soundness.specs.Parts.{HasTablesOf, ArePartsSoundIn, ArePartsSound}
use Rattle.aos_code_soundness.proofs.Numbers.{HasNumbers, has_numbers}
use Rattle.aos_code_soundness.proofs.Values.{value_piece}
use Rattle.aos_code_soundness.proofs.Statements.{stat_piece, stats_piece}

module _ (p : Program) (image : Image) (well : IsWellTyped p) (tables : HasTablesOf p image) where
  -- the image with the program's code
  abbrev coded : Image
  coded =
      record { modules = image.modules; types = image.types; shapes = image.shapes; bodies = tables.bodies; conds = tables.conditions }

  -- it has what the program's numbers name, since that stands in the shapes, the modules and the types
  numbers : (own : ℕ) (r : Routine) → by_number own (routines p) ≡ Some r → HasNumbers p r.own image own
  numbers own r there =
      let h = has_numbers p coded well tables.code own r there in
      record {
        cells = h.cells;
        constants = h.constants;
        types = h.types;
        predeclared = h.predeclared;
        objects = h.objects;
        records = h.records;
        shapes = h.shapes;
        mine = h.mine;
        methods = h.methods;
        slots = h.slots;
        plain = h.plain;
        selfs = h.selfs;
        locals = h.locals;
        parameters = h.parameters;
        conditions = tables.many ∙ h.conditions;
      }

  part : (own : ℕ) (r : Routine) → by_number own (routines p) ≡ Some r → ArePartsSoundIn p image own r
  part own r there =
      let has = numbers own r there in
      let kept : keeps_in (numbered image.shapes.items own) ≡ keeps_of r.body.statements = keeps_known p (tables_of p image) has.shapes own r there in
      record {
        value = λ e t of depth at s room. value_piece p r.own image own role.Procedure depth has refl e t of at s room;
        statement = λ t h g depth at ways level le keeps room. stat_piece p r.own image own depth has r.home t h g at ways level le (omega (arith, kept, keeps)) room;
        statements = λ ss h g depth at ways level le keeps room. stats_piece p r.own image own depth has r.home ss h g at ways level le (omega (arith, kept, keeps)) room;
      }

  pub parts_sound : ArePartsSound p image
  parts_sound k r e =
      let n : suc k ≡ k + 1 = omega arith in
      part (k + 1) r (ap (λ j. by_number j (routines p)) (sym n) ∙ e)
