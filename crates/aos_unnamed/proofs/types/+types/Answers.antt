-- An array, a record and a pointer, each made of what is done of its part.
use Rattle.std.proofs.Common.{sym, ap, ◌∙◌}
use Rattle.aos_tree.specs.declared.decl.TypeExpr.{TypeExpr}
use Rattle.aos_tree.specs.declared.decl.TypeExpr.TheVariants as types
use Rattle.aos_unnamed.specs.Unnamed.{With}
use Rattle.aos_unnamed.proofs.Rows.{type_array, type_record, type_pointer}
use Rattle.aos_unnamed.proofs.types.+types.Goals as goal

pub in_type-returns-in_ok-array_of-in-Array-clause-part : goal.in_type-returns-in_ok-array_of-in-Array-clause-part
in_type-returns-in_ok-array_of-in-Array-clause-part t c =
    let at = c.in-Array in
    c.in_ok-array_of-in-Array.ensures
    ∙ ap (types.Array at.pos at.lengths) c.in_ok-of-in-Array.ensures.part
    ∙ sym (ap (λ (w : With TypeExpr). w.part) (type_array c.args.added.now c.args.of c.parts.result at.pos at.lengths at.of c.parts.ensures at.is))

pub in_type-returns-in_ok-array_of-in-Array-clause-added : goal.in_type-returns-in_ok-array_of-in-Array-clause-added
in_type-returns-in_ok-array_of-in-Array-clause-added t c =
    let at = c.in-Array in
    c.in_ok-of-in-Array.ensures.added
    ∙ sym (ap (λ (w : With TypeExpr). w.added) (type_array c.args.added.now c.args.of c.parts.result at.pos at.lengths at.of c.parts.ensures at.is))

pub in_type-returns-in_ok-fields-in-Record-clause-part : goal.in_type-returns-in_ok-fields-in-Record-clause-part
in_type-returns-in_ok-fields-in-Record-clause-part t c =
    let at = c.in-Record in
    ap (types.Record at.pos at.base) c.in_ok-fields-in-Record.ensures.part
    ∙ sym (ap (λ (w : With TypeExpr). w.part) (type_record c.args.added.now c.args.of c.parts.result at.pos at.base at.fields c.parts.ensures at.is))

pub in_type-returns-in_ok-fields-in-Record-clause-added : goal.in_type-returns-in_ok-fields-in-Record-clause-added
in_type-returns-in_ok-fields-in-Record-clause-added t c =
    let at = c.in-Record in
    c.in_ok-fields-in-Record.ensures.added
    ∙ sym (ap (λ (w : With TypeExpr). w.added) (type_record c.args.added.now c.args.of c.parts.result at.pos at.base at.fields c.parts.ensures at.is))

pub in_type-returns-in_ok-pointer_to-in-Pointer-clause-part : goal.in_type-returns-in_ok-pointer_to-in-Pointer-clause-part
in_type-returns-in_ok-pointer_to-in-Pointer-clause-part t c =
    let at = c.in-Pointer in
    c.in_ok-pointer_to-in-Pointer.ensures
    ∙ ap (types.Pointer at.pos) c.in_ok-to-in-Pointer.ensures.part
    ∙ sym (ap (λ (w : With TypeExpr). w.part) (type_pointer c.args.added.now c.args.of c.parts.result at.pos at.to c.parts.ensures at.is))

pub in_type-returns-in_ok-pointer_to-in-Pointer-clause-added : goal.in_type-returns-in_ok-pointer_to-in-Pointer-clause-added
in_type-returns-in_ok-pointer_to-in-Pointer-clause-added t c =
    let at = c.in-Pointer in
    c.in_ok-to-in-Pointer.ensures.added
    ∙ sym (ap (λ (w : With TypeExpr). w.added) (type_pointer c.args.added.now c.args.of c.parts.result at.pos at.to c.parts.ensures at.is))
