-- A procedure whose declarations stand in a row of a tree, read as a list.
use Rattle.std.proofs.Common.{◌≡◌, ap, [], ◌∷◌}
use Rattle.aos_tree.specs.declared.decl.Proc.{Proc}
use Rattle.aos_tree.specs.declared.decl.Decl.{items_hidden-the_row-Decl-2}
use Rattle.aos_tree.specs.declared.decl.Decl.TheVariants as decl
use Rattle.aos_symbols.specs.Declarations.{procedure_of, whole_procedures_in}

-- a procedure, with its declarations as a list
pub whole_procedure : (a : Proc) → whole_procedures_in (decl.Proc a) ≡ procedure_of a ∷ []
whole_procedure a = ap (λ ds. record (procedure_of a) { decls = ds } ∷ []) (items_hidden-the_row-Decl-2 a.decls)
