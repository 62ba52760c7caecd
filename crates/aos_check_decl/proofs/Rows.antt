-- Declarations of a tree, read as lists.
use Rattle.std.proofs.Common.{◌≡◌, List, ap}
use Rattle.aos_base.specs.declared.text.Pos.{Pos}
use Rattle.aos_tree.specs.declared.decl.TypeDef.{TypeDef}
use Rattle.aos_tree.specs.declared.decl.VarDef.{VarDef}
use Rattle.aos_tree.specs.declared.decl.Decl.{items_hidden-the_row-TypeDef-0, items_hidden-the_row-VarDef-1}
use Rattle.aos_tree.specs.declared.decl.Decl.TheVariants as decl
use Rattle.aos_symbols.specs.declared.env.Env.{Env}
use Rattle.aos_symbols.specs.Judged.{walk}
use Rattle.aos_check_decl.specs.Headings.{declared, inner_declared, type_def, variable_def}

-- types, as a row and as a list
pub declared_types : (e : Env) (p : Pos) (ds : List TypeDef) → declared e (decl.Types p ds) ≡ walk type_def e ds
declared_types e p ds = ap (λ xs. walk type_def e xs) (items_hidden-the_row-TypeDef-0 ds)

-- variables, as a row and as a list
pub declared_variables : (e : Env) (p : Pos) (ds : List VarDef) → declared e (decl.Vars p ds) ≡ walk variable_def e ds
declared_variables e p ds = ap (λ xs. walk variable_def e xs) (items_hidden-the_row-VarDef-1 ds)

-- types that an object type declares, as a row and as a list
pub inner_types : (e : Env) (p : Pos) (ds : List TypeDef) → inner_declared e (decl.Types p ds) ≡ walk type_def e ds
inner_types e p ds = ap (λ xs. walk type_def e xs) (items_hidden-the_row-TypeDef-0 ds)
