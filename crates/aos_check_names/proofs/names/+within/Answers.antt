use Rattle.std.proofs.Common.{◌≡◌, OnOk, refl, ap, sym, ◌∙◌, ◌++◌, None, subst}
use Rattle.std.specs.List.{flat_map}
use Rattle.aos_tree.specs.declared.decl.Outline.{Outline}
use Rattle.aos_symbols.specs.Breaches.{first_after}
use Rattle.aos_check_names.specs.Names.{within_decl, within_type, within_field, twice, other_end, object_end, field_names}
use Rattle.aos_symbols.specs.Declarations.{declared_names, formal_names}
use Rattle.aos_symbols.proofs.Keeping.{after_two, after_three}
use Rattle.aos_check_names.proofs.Rows.{within_decl_types, within_decl_vars, within_decl_proc, within_type_array, within_type_pointer, within_type_record, within_type_object}
use Rattle.aos_check_names.proofs.names.+within.Goals as goal

pub within_decl-returns-in-Types : goal.within_decl-returns-in-Types
within_decl-returns-in-Types t c =
    subst (λ z. OnOk c.within_types.result (c.within_types.new.found ≡ first_after c.args.found.now z))
    (sym (ap (λ d. within_decl c.args.text.now d) c.in-Types.is ∙ within_decl_types c.args.text.now c.in-Types.field-0 c.in-Types.defs)) c.within_types.ensures

pub within_decl-returns-in-Vars : goal.within_decl-returns-in-Vars
within_decl-returns-in-Vars t c =
    subst (λ z. OnOk c.within_variables.result (c.within_variables.new.found ≡ first_after c.args.found.now z))
    (sym (ap (λ d. within_decl c.args.text.now d) c.in-Vars.is ∙ within_decl_vars c.args.text.now c.in-Vars.field-0 c.in-Vars.defs)) c.within_variables.ensures

pub within_decl-returns-in_ok-procedure_scope-in-Proc : goal.within_decl-returns-in_ok-procedure_scope-in-Proc
within_decl-returns-in_ok-procedure_scope-in-Proc t c =
    let text = c.args.text.now in
    let a = c.in-Proc.proc in
    let ends : c.other_end.new.found ≡ first_after c.args.found.now (other_end text a.outline.def.name a.outline.end) =
    subst (λ (o : Outline). c.other_end.new.found ≡ first_after c.args.found.now (other_end text o.def.name o.end)) c.get-outline.ensures c.other_end.ensures in
    let scope : c.procedure_scope.new.found ≡ first_after c.other_end.new.found (twice text (formal_names a.outline.formals ++ declared_names a.decls)) =
    subst (λ (o : Outline). c.procedure_scope.new.found ≡ first_after c.other_end.new.found (twice text (formal_names o.formals ++ declared_names a.decls))) c.get-outline.ensures
    (subst (λ z. c.procedure_scope.new.found ≡ first_after c.other_end.new.found (twice text (formal_names c.get-outline.result.now.formals ++ declared_names z))) c.as_slice.ensures c.in_ok-procedure_scope-in-Proc.ensures) in
    subst (λ z. OnOk c.within_decls.result (c.within_decls.new.found ≡ z))
    (after_three c.args.found.now (other_end text a.outline.def.name a.outline.end) (twice text (formal_names a.outline.formals ++ declared_names a.decls)) (flat_map (within_decl text) a.decls) ends scope refl
    ∙ ap (λ z. first_after c.args.found.now z) (sym (ap (λ d. within_decl text d) c.in-Proc.is ∙ within_decl_proc text a))) c.within_decls.ensures

pub within_type-returns-in-Array : goal.within_type-returns-in-Array
within_type-returns-in-Array t c =
    subst (λ z. OnOk c.within_type.result (c.within_type.new.found ≡ first_after c.args.found.now z))
    (ap (λ e. within_type c.args.text.now None e) c.get.ensures ∙ sym (ap (λ d. within_type c.args.text.now c.args.name d) c.in-Array.is ∙ within_type_array c.args.text.now c.args.name c.in-Array.field-0 c.in-Array.field-1 c.in-Array.element)) c.within_type.ensures

pub within_type-returns-in_ok-record_scope-in-Record : goal.within_type-returns-in_ok-record_scope-in-Record
within_type-returns-in_ok-record_scope-in-Record t c =
    let text = c.args.text.now in
    let fs = c.in-Record.fields in
    let scope : c.record_scope.new.found ≡ first_after c.args.found.now (twice text (flat_map field_names fs)) =
    subst (λ z. c.record_scope.new.found ≡ first_after c.args.found.now (twice text (flat_map field_names z))) c.as_slice.ensures c.in_ok-record_scope-in-Record.ensures in
    subst (λ z. OnOk c.within_fields.result (c.within_fields.new.found ≡ z))
    (after_two c.args.found.now (twice text (flat_map field_names fs)) (flat_map (within_field text) fs) scope refl
    ∙ ap (λ z. first_after c.args.found.now z) (sym (ap (λ d. within_type text c.args.name d) c.in-Record.is ∙ within_type_record text c.args.name c.in-Record.field-0 c.in-Record.field-1 fs))) c.within_fields.ensures

pub within_type-returns-in-Pointer : goal.within_type-returns-in-Pointer
within_type-returns-in-Pointer t c =
    subst (λ z. OnOk c.within_type-in-Pointer.result (c.within_type-in-Pointer.new.found ≡ first_after c.args.found.now z))
    (ap (λ e. within_type c.args.text.now None e) c.get-in-Pointer.ensures ∙ sym (ap (λ d. within_type c.args.text.now c.args.name d) c.in-Pointer.is ∙ within_type_pointer c.args.text.now c.args.name c.in-Pointer.field-0 c.in-Pointer.to)) c.within_type-in-Pointer.ensures

pub within_type-returns-in_ok-within_decls-in-Object : goal.within_type-returns-in_ok-within_decls-in-Object
within_type-returns-in_ok-within_decls-in-Object t c =
    let text = c.args.text.now in
    let ds = c.in-Object.decls in
    let scope : c.procedure_scope-in-Object.new.found ≡ first_after c.args.found.now (twice text (declared_names ds)) =
    subst (λ z. c.procedure_scope-in-Object.new.found ≡ first_after c.args.found.now (twice text (declared_names z))) c.as_slice-in-Object.ensures c.in_ok-procedure_scope-in-Object.ensures in
    after_three c.args.found.now (twice text (declared_names ds)) (flat_map (within_decl text) ds) (object_end text c.args.name c.in-Object.end) scope c.in_ok-within_decls-in-Object.ensures (rw c.copied.ensures at c.object_end.ensures)
    ∙ ap (λ z. first_after c.args.found.now z) (sym (ap (λ d. within_type text c.args.name d) c.in-Object.is
    ∙ within_type_object text c.args.name c.in-Object.field-0 c.in-Object.field-1 ds c.in-Object.field-3 c.in-Object.end))
