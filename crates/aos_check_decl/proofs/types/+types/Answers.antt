-- Arrays, records, pointers and object types, whose parts are met before they are.
use Rattle.std.proofs.Common.{◌≡◌, List, length, ◌==◌, Bool, true, false, Option, None, sym, ap, ◌∙◌, subst}
use Rattle.aos_tree.specs.declared.expr.Expr.{Expr}
use Rattle.aos_tree.specs.declared.decl.TypeExpr.{TypeExpr}
use Rattle.aos_tree.specs.declared.name.Qualident.{Qualident}
use Rattle.aos_types.specs.declared.row.TypeId.{TypeId}
use Rattle.aos_symbols.specs.Judged.{kept, bind, walk}
use Rattle.aos_check_decl.specs.Types as judge
use Rattle.aos_check_types.specs.Told.{Told, Tells}
use Rattle.aos_check_types.proofs.Telling.{then_tells, kept_tells, tells_as}
use Rattle.aos_check_decl.proofs.Forms.{array_met, open_met, record_met, member_variables, object_written, pointer_met}
use Rattle.aos_check_decl.proofs.types.+types.Goals as goal
use Rattle.aos_check_decl.proofs.types.+types.Goals.{type_in-else-is_empty-via-then-is_empty+else-not-may_be_open, type_in-else-is_empty-via-else-is_empty}

pub type_in-returns-then-is_empty-2 : goal.type_in-returns-then-is_empty-2
type_in-returns-then-is_empty-2 t c =
    let slot = c.args.slot in
    let e = c.args.env.now in
    let at = c.in-Array.at in
    let ls = c.in-Array.lengths in
    let r = c.place_open.result in
    let behind = c.type_in.new.found in
    let seen = λ (of : Option TypeId). judge.met c.place_open.new.env of in
    let element = judge.type_in true None e c.in-Array.element in
    let met = judge.met c.type_in.new.env c.in_ok-element-in-Array.element in
    let none : (length ls == 0) ≡ true = ap (λ xs. length xs == 0) (sym c.as_slice-lengths.ensures) ∙ sym c.is_empty-in-Array.ensures ∙ c.if-is_empty-2.true in
    let may : c.args.may_be_open ≡ true = elim c.else-is_empty.branch [
      | type_in-else-is_empty-via-then-is_empty+else-not-may_be_open w ↦ w.if-not-may_be_open.false
      | type_in-else-is_empty-via-else-is_empty w ↦ let never : true ≡ false = sym c.if-is_empty-2.true ∙ c.is_empty-in-Array.ensures ∙ sym c.is_empty.ensures ∙ w.if-is_empty.false in absurd (cc never)
    ] in
    let told : Told element c.args.found.now behind met = subst (λ (x : TypeExpr). Told (judge.type_in true None e x) c.args.found.now behind met) c.get.ensures c.in_ok-element-in-Array.ensures in
    tells_as r seen c.args.found.now behind (bind element (λ m. kept (judge.open_of slot at m))) (judge.type_in c.args.may_be_open slot e c.args.of.now)
    (ap (λ (may : Bool). judge.type_in may slot e c.args.of.now) may ∙ open_met slot e c.args.of.now at ls c.in-Array.element c.in-Array.is none)
    (then_tells element (λ m. kept (judge.open_of slot at m)) r seen behind told (kept_tells (judge.open_of slot at met) r seen behind c.place_open.ensures))

pub type_in-returns-in_ok-element-in-Array-2 : goal.type_in-returns-in_ok-element-in-Array-2
type_in-returns-in_ok-element-in-Array-2 t c =
    let slot = c.args.slot in
    let e = c.args.env.now in
    let at = c.in-Array.at in
    let ls = c.in-Array.lengths in
    let r = c.place_arrays.result in
    let between = c.lengths_of.new.found in
    let behind = c.type_in-in-Array.new.found in
    let seen = λ (of : Option TypeId). judge.met c.place_arrays.new.env of in
    let ns = c.in_ok-lengths-in-Array.lengths in
    let element = judge.type_in false None e c.in-Array.element in
    let met = judge.met c.type_in-in-Array.new.env c.in_ok-element-in-Array-2.element in
    let lengths : Told (judge.lengths_of e ls) c.args.found.now between ns = subst (λ (xs : List Expr). Told (judge.lengths_of e xs) c.args.found.now between ns) c.as_slice-lengths.ensures c.in_ok-lengths-in-Array.ensures in
    let told : Told element between behind met = subst (λ (x : TypeExpr). Told (judge.type_in false None e x) between behind met) c.get-in-Array.ensures c.in_ok-element-in-Array-2.ensures in
    tells_as r seen c.args.found.now behind (bind (judge.lengths_of e ls) (λ ns. bind element (λ m. kept (judge.arrays slot at ns m)))) (judge.type_in c.args.may_be_open slot e c.args.of.now)
    (array_met c.args.may_be_open slot e c.args.of.now at ls c.in-Array.element c.in-Array.is (ap (λ xs. length xs == 0) (sym c.as_slice-lengths.ensures) ∙ sym c.is_empty-in-Array.ensures ∙ c.if-is_empty-2.false))
    (then_tells (judge.lengths_of e ls) (λ ns. bind element (λ m. kept (judge.arrays slot at ns m))) r seen behind lengths
    (then_tells element (λ m. kept (judge.arrays slot at ns m)) r seen behind told (kept_tells (judge.arrays slot at ns met) r seen behind c.place_arrays.ensures)))

pub type_in-returns-in-Record : goal.type_in-returns-in-Record
type_in-returns-in-Record t c =
    let slot = c.args.slot in
    let e = c.args.env.now in
    let r = c.record_in.result in
    let behind = c.record_in.new.found in
    let seen = λ (of : Option TypeId). judge.met c.record_in.new.env of in
    tells_as r seen c.args.found.now behind
    (judge.record_of slot e c.in-Record.at c.in-Record.base c.in-Record.fields) (judge.type_in c.args.may_be_open slot e c.args.of.now)
    (record_met c.args.may_be_open slot e c.args.of.now c.in-Record.at c.in-Record.base c.in-Record.fields c.in-Record.is)
    (subst (λ (b : Option Qualident). Tells r c.args.found.now behind seen (judge.record_of slot e c.in-Record.at b c.in-Record.fields)) c.copied.ensures c.record_in.ensures)

pub member_in-returns-in-Vars : goal.member_in-returns-in-Vars
member_in-returns-in-Vars t c =
    let f = judge.members_met c.args.env.now c.args.types.now c.args.variables.now.items in
    let new = c.variables_in.new in
    tells_as c.variables_in.result (λ _. judge.members_met new.env new.types new.variables.items) c.args.found.now new.found
    (walk judge.variable_in f c.in-Vars.defs) (judge.member_in f c.args.decl.now)
    (ap (judge.member_in f) c.in-Vars.is ∙ member_variables f c.in-Vars.field-0 c.in-Vars.defs) c.variables_in.ensures

pub type_in-returns-in-Object : goal.type_in-returns-in-Object
type_in-returns-in-Object t c =
    let slot = c.args.slot in
    let e = c.args.env.now in
    let o = c.in-Object in
    let r = c.object_in.result in
    let behind = c.object_in.new.found in
    let seen = λ (of : Option TypeId). judge.met c.object_in.new.env of in
    tells_as r seen c.args.found.now behind
    (judge.object_of slot e o.at o.base o.decls) (judge.type_in c.args.may_be_open slot e c.args.of.now)
    (object_written c.args.may_be_open slot e c.args.of.now o.at o.base o.decls o.field-3 o.field-4 o.is)
    (subst (λ (b : Option Qualident). Tells r c.args.found.now behind seen (judge.object_of slot e o.at b o.decls)) c.copied-in-Object.ensures c.object_in.ensures)

pub type_in-returns-in_ok-target-in-Pointer : goal.type_in-returns-in_ok-target-in-Pointer
type_in-returns-in_ok-target-in-Pointer t c =
    let slot = c.args.slot in
    let e = c.args.env.now in
    let at = c.in-Pointer.at in
    let to = c.in-Pointer.to in
    let r = c.pointer_behind.result in
    let between = c.type_in-in-Pointer.new.found in
    let behind = c.pointer_behind.new.found in
    let seen = λ (of : Option TypeId). judge.met c.pointer_behind.new.env of in
    let target = judge.type_in true None e to in
    let met = judge.met c.type_in-in-Pointer.new.env c.in_ok-target-in-Pointer.target in
    let told : Told target c.args.found.now between met =
    subst (λ (x : TypeExpr). Told (judge.type_in true None e x) c.args.found.now between met) c.get-in-Pointer.ensures c.in_ok-target-in-Pointer.ensures in
    tells_as r seen c.args.found.now behind (bind target (λ m. judge.pointer_behind slot at to m)) (judge.type_in c.args.may_be_open slot e c.args.of.now)
    (pointer_met c.args.may_be_open slot e c.args.of.now at to c.in-Pointer.is)
    (then_tells target (λ m. judge.pointer_behind slot at to m) r seen behind told
    (subst (λ (x : TypeExpr). Tells r between behind seen (judge.pointer_behind slot at x met)) c.get-in-Pointer-2.ensures c.pointer_behind.ensures))
