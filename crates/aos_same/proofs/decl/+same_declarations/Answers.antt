-- A part that differs tells of the whole; a variant differs from each other variant.
use Rattle.std.proofs.Common.{arith}
use Rattle.aos_same.proofs.decl.+same_declarations.Goals as goal

pub TypeDefAlike::same-returns-else-same : goal.TypeDefAlike::same-returns-else-same
TypeDefAlike::same-returns-else-same t c = grind arith

pub VarDefAlike::same-returns-else-same : goal.VarDefAlike::same-returns-else-same
VarDefAlike::same-returns-else-same t c = grind arith

pub ProcAlike::same-returns-else-same : goal.ProcAlike::same-returns-else-same
ProcAlike::same-returns-else-same t c = grind arith

pub DeclAlike::same-returns-else-same : goal.DeclAlike::same-returns-else-same
DeclAlike::same-returns-else-same t c = grind arith

pub DeclAlike::same-returns-else-same-2 : goal.DeclAlike::same-returns-else-same-2
DeclAlike::same-returns-else-same-2 t c = grind arith

pub DeclAlike::same-returns-else-same-3 : goal.DeclAlike::same-returns-else-same-3
DeclAlike::same-returns-else-same-3 t c = grind arith

pub DeclAlike::same-returns-in_default : goal.DeclAlike::same-returns-in_default
DeclAlike::same-returns-in_default t c = grind arith

pub DeclAlike::same-returns-in_default-other : goal.DeclAlike::same-returns-in_default-other
DeclAlike::same-returns-in_default-other t c = grind arith

pub DeclAlike::same-returns-in_default-other-2 : goal.DeclAlike::same-returns-in_default-other-2
DeclAlike::same-returns-in_default-other-2 t c = grind arith

pub DeclAlike::same-returns-in_default-other-3 : goal.DeclAlike::same-returns-in_default-other-3
DeclAlike::same-returns-in_default-other-3 t c = grind arith

pub TypeExprAlike::same-returns-else-same-2 : goal.TypeExprAlike::same-returns-else-same-2
TypeExprAlike::same-returns-else-same-2 t c = grind arith

pub TypeExprAlike::same-returns-else-same-4 : goal.TypeExprAlike::same-returns-else-same-4
TypeExprAlike::same-returns-else-same-4 t c = grind arith

pub TypeExprAlike::same-returns-else-same-5 : goal.TypeExprAlike::same-returns-else-same-5
TypeExprAlike::same-returns-else-same-5 t c = grind arith

pub TypeExprAlike::same-returns-else-same-7 : goal.TypeExprAlike::same-returns-else-same-7
TypeExprAlike::same-returns-else-same-7 t c = grind arith

pub TypeExprAlike::same-returns-in_default : goal.TypeExprAlike::same-returns-in_default
TypeExprAlike::same-returns-in_default t c = grind arith

pub TypeExprAlike::same-returns-in_default-other : goal.TypeExprAlike::same-returns-in_default-other
TypeExprAlike::same-returns-in_default-other t c = grind arith

pub TypeExprAlike::same-returns-in_default-other-2 : goal.TypeExprAlike::same-returns-in_default-other-2
TypeExprAlike::same-returns-in_default-other-2 t c = grind arith

pub TypeExprAlike::same-returns-in_default-other-3 : goal.TypeExprAlike::same-returns-in_default-other-3
TypeExprAlike::same-returns-in_default-other-3 t c = grind arith

pub TypeExprAlike::same-returns-in_default-other-4 : goal.TypeExprAlike::same-returns-in_default-other-4
TypeExprAlike::same-returns-in_default-other-4 t c = grind arith

pub TypeExprAlike::same-returns-in_default-other-5 : goal.TypeExprAlike::same-returns-in_default-other-5
TypeExprAlike::same-returns-in_default-other-5 t c = grind arith

pub FieldsAlike::same-returns-in_default : goal.FieldsAlike::same-returns-in_default
FieldsAlike::same-returns-in_default t c = grind arith

pub FieldsAlike::same-returns-in_default-other : goal.FieldsAlike::same-returns-in_default-other
FieldsAlike::same-returns-in_default-other t c = grind arith
