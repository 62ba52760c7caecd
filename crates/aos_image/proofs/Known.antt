-- Shapes that are those of some of a program's routines, one more of them, and all.
use Rattle.std.proofs.Common.{◌≡◌, ◌<◌, ◌≤◌, ℕ, ◌+◌, List, [], ◌∷◌, ◌++◌, length, get_or, map, take, sym, ap, ◌∙◌}
use Rattle.std.proofs.lemmas.List.{take_all}
use Rattle.aos_types.specs.declared.row.TypeRow.{TypeRow}
use Rattle.aos_typed.specs.Routines.{Routine}
use Rattle.aos_code.specs.declared.image.ProcShape.{ProcShape}
use Rattle.aos_layout.specs.Seen.{seen_shape}
use Rattle.aos_dispatch.specs.declared.routines.Routine.{Routine as CodeRoutine}
use Rattle.aos_dispatch.specs.Routines.{seen_routine, seen_routines}
use Rattle.aos_dispatch.proofs.Lists.{more_of, next_of}
use Rattle.aos_sim.specs.Shows.{shape_of}

module _ (rows : List TypeRow) (rs : List CodeRoutine) (k : ℕ) (ss : List ProcShape) where
  pub shape_more : (ss' : List ProcShape) (r : CodeRoutine) (s : ProcShape) → k < length rs → r ≡ get_or rs k r → ss' ≡ ss ++ s ∷ [] → seen_shape s ≡ shape_of rows (seen_routine r) → map seen_shape ss ≡ map (shape_of rows) (seen_routines (take k rs)) → map seen_shape ss' ≡ map (shape_of rows) (seen_routines (take (k + 1) rs))
  shape_more ss' r s lt at is one so_far =
      ap (map seen_shape) is
      ∙ more_of seen_shape (shape_of rows) ss (seen_routines (take k rs)) s (seen_routine r) so_far one
      ∙ sym (ap (map (shape_of rows)) (next_of seen_routine rs k r lt at))

  pub shapes_all : (all : List Routine) → length rs ≤ k → seen_routines rs ≡ all → map seen_shape ss ≡ map (shape_of rows) (seen_routines (take k rs)) → map seen_shape ss ≡ map (shape_of rows) all
  shapes_all all le are so_far = so_far ∙ ap (map (shape_of rows)) (ap seen_routines (take_all k rs le) ∙ are)
