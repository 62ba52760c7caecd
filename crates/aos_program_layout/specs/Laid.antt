-- The cells of a program's variables, of their parts and of its string constants, as they are looked up.
use Rattle.std.specs.Prelude.{◌≡◌, ◌≤◌, ◌<◌, ◌^◌, All, ℕ, List, [], length, map, Option, Some, None, slice_get, option_map}
use Rattle.std.specs.Option.{unwrap_or}
use Rattle.aos_code.specs.declared.instr.Kind.{Kind}
use Rattle.aos_types.specs.Shape.{row, size}
use Rattle.aos_typed.specs.declared.tree.Program.{Program as TProgram}
use Rattle.aos_typed.specs.declared.tree.TModule.{TModule}
use Rattle.aos_typed.specs.Program.{Program}
use Rattle.aos_typed.specs.Routines.{routines}
use Rattle.aos_typed.specs.Seen.{seen_program}
use Rattle.aos_typed.specs.WellTyped.{AreTypes}
use Rattle.aos_layout.specs.declared.block.BlockShape.{BlockShape as CodeBlockShape}
use Rattle.aos_layout.specs.Layout.{leaves, variable_cells, block}
use Rattle.aos_layout.specs.Block.{BlockShape, block_shape}
use Rattle.aos_layout.specs.Seen.{seen_block}
use Rattle.aos_program_layout.specs.Parameters.{AreHandedThere}

-- these are the cells of each module
abbrev pub AreBlocks : Program → List CodeBlockShape → Type 0
AreBlocks p bs = map seen_block bs ≡ map (block_shape p.types) p.modules

-- the cells of each module have numbers of 32 bits
abbrev pub AreNarrow : Program → Type 0
AreNarrow p = All (λ m. size (block p.types m) < 2 ^ 32) p.modules

-- what is dispatched is the program's, its types are as they are to be, and these are the cells of each module
pub record IsLaid (program dispatch : TProgram) (bs : List CodeBlockShape) : Type 0 where
  pub same : dispatch ≡ program
  pub few : length (seen_program program).types ≤ 2 ^ 32
  pub types : AreTypes (seen_program program).types
  pub blocks : AreBlocks (seen_program program) bs
  pub handed : AreHandedThere (seen_program program).types (routines (seen_program program))

-- the first cell of a variable or a string constant with this number; one that isn't there lies behind the others
abbrev pub cell_in : Option BlockShape → ℕ → ℕ
cell_in None i = 0
cell_in (Some b) i = unwrap_or (slice_get b.places i) b.cells

-- how many variables a module has, where there is one
abbrev pub variables_in : Option TModule → ℕ
variables_in None = 0
variables_in (Some m) = length m.variables.items

-- the kinds of the cells of a module's variables, by the module's number
abbrev pub module_kinds : Program → ℕ → List Kind
module_kinds p m =
    unwrap_or (option_map (λ x. leaves (row (variable_cells p.types x.variables))) (slice_get p.modules m)) []
