use Rattle.std.proofs.Common.{◌≡◌, ◌+◌, ◌*◌, ◌≤◌, ◌++◌, List, ◌∷◌, length}
use Rattle.aos_scan.specs.declared.token.Token.{Token}
use Rattle.aos_tree.specs.declared.decl.Decl.{Decl}
use Rattle.aos_tree.specs.declared.decl.TypeDef.{TypeDef}
use Rattle.aos_tree.specs.declared.decl.VarDef.{VarDef}
use Rattle.aos_tree.specs.declared.decl.Fields.{Fields}
use Rattle.aos_tree.specs.Ended.{IsEnded}
use Rattle.aos_tree.specs.Nesting.{shallow}
use Rattle.aos_tree.specs.DeclGrammar.{IsDecls, IsTypeDefs, IsVarDefs, IsMoreFields}
use Rattle.aos_parse_expr.specs.Machine.{run}
use Rattle.aos_parse_mod.specs.Parts.{IsFieldList}
use Rattle.aos_parse_mod.specs.Symbols as m
use Rattle.aos_parse_mod.proofs.declaration.+declarations.Given as goal

abbrev pub decreases-decls : goal.decreases-decls
decreases-decls l = 16 * length l.tokens.now + 12

abbrev pub decreases-decl : goal.decreases-decl
decreases-decl l = 16 * length l.tokens.now + 11

abbrev pub decreases-proc : goal.decreases-proc
decreases-proc l = 16 * length l.tokens.now + 10

abbrev pub decreases-type_defs : goal.decreases-type_defs
decreases-type_defs l = 16 * length l.tokens.now + 10

abbrev pub decreases-var_defs : goal.decreases-var_defs
decreases-var_defs l = 16 * length l.tokens.now + 10

abbrev pub decreases-field_list : goal.decreases-field_list
decreases-field_list l = 16 * length l.tokens.now + 10

abbrev pub decreases-fields : goal.decreases-fields
decreases-fields l = 16 * length l.tokens.now + 9

abbrev pub decreases-var_def : goal.decreases-var_def
decreases-var_def l = 16 * length l.tokens.now + 8

abbrev pub decreases-then_type : goal.decreases-then_type
decreases-then_type l = 16 * length l.tokens.now + 7

abbrev pub decreases-type_expr : goal.decreases-type_expr
decreases-type_expr l = 16 * length l.tokens.now + 6

abbrev pub decreases-record : goal.decreases-record
decreases-record l = 16 * length l.tokens.now + 5

abbrev pub decreases-object : goal.decreases-object
decreases-object l = 16 * length l.tokens.now + 5

abbrev pub invariant-decls-loop-alloc : goal.invariant-decls-loop-alloc
invariant-decls-loop-alloc l = record {
  ended : IsEnded l.rest;
  shorter : length l.rest ≤ length l.tokens;
  tree : (more : List Decl) (end : List Token) → IsDecls shallow l.local l.depth more l.rest end → IsDecls shallow l.local l.depth (l.found ++ more) l.tokens end;
  moves : (k : m.Stack) → run m.table shallow l.tokens (m.decls l.local l.depth ∷ k) ≡ run m.table shallow l.rest (m.decls l.local l.depth ∷ k);
}

abbrev pub decreases-decls-loop-alloc : goal.decreases-decls-loop-alloc
decreases-decls-loop-alloc l = length l.rest

abbrev pub invariant-type_defs-loop-found : goal.invariant-type_defs-loop-found
invariant-type_defs-loop-found l = record {
  ended : IsEnded l.rest;
  shorter : length l.rest ≤ length l.tokens;
  tree : (more : List TypeDef) (end : List Token) → IsTypeDefs shallow l.depth more l.rest end → IsTypeDefs shallow l.depth (l.found ++ more) l.tokens end;
  moves : (k : m.Stack) → run m.table shallow l.tokens (m.type_defs l.depth ∷ k) ≡ run m.table shallow l.rest (m.type_defs l.depth ∷ k);
}

abbrev pub decreases-type_defs-loop-found : goal.decreases-type_defs-loop-found
decreases-type_defs-loop-found l = length l.rest

abbrev pub invariant-var_defs-loop-found : goal.invariant-var_defs-loop-found
invariant-var_defs-loop-found l = record {
  ended : IsEnded l.rest;
  shorter : length l.rest ≤ length l.tokens;
  tree : (more : List VarDef) (end : List Token) → IsVarDefs shallow l.depth more l.rest end → IsVarDefs shallow l.depth (l.found ++ more) l.tokens end;
  moves : (k : m.Stack) → run m.table shallow l.tokens (m.var_defs l.depth ∷ k) ≡ run m.table shallow l.rest (m.var_defs l.depth ∷ k);
}

abbrev pub decreases-var_defs-loop-found : goal.decreases-var_defs-loop-found
decreases-var_defs-loop-found l = length l.rest

abbrev pub invariant-field_list-loop-found : goal.invariant-field_list-loop-found
invariant-field_list-loop-found l = record {
  ended : IsEnded l.rest;
  shorter : length l.rest ≤ length l.tokens;
  tree : (more : List Fields) (end : List Token) → IsMoreFields shallow l.depth more l.rest end → IsFieldList shallow l.depth (l.found ++ more) l.tokens end;
  moves : (k : m.Stack) → run m.table shallow l.tokens (m.fields l.depth ∷ m.more_fields l.depth ∷ k) ≡ run m.table shallow l.rest (m.more_fields l.depth ∷ k);
}

abbrev pub decreases-field_list-loop-found : goal.decreases-field_list-loop-found
decreases-field_list-loop-found l = length l.rest
