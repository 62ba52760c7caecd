-- What a module says beside the types that its definitions define: bodies and methods of object types that break no rule are well typed.
use Rattle.std.proofs.Common.{◌≡◌, ℕ, zero, suc, ◌+◌, ◌-◌, ◌<◌, ◌⊎◌, inl, inr, List, [], ◌∷◌, ◌++◌, length, drop, true, is_some, Option, Some, None, option_map, option_and_then, slice_get, refl, sym, ap, ◌∙◌, subst, arith}
use Rattle.std.proofs.lemmas.Option.{same_Some}
use Rattle.aos_tree.specs.declared.decl.TypeDef.{TypeDef}
use Rattle.aos_tree.specs.declared.decl.TypeExpr.{TypeExpr}
use Rattle.aos_tree.specs.declared.decl.TypeExpr.TheVariants as type
use Rattle.aos_tree.specs.declared.module.Module.{Module as Tree}
use Rattle.aos_types.specs.declared.row.TypeId.{TypeId}
use Rattle.aos_types.specs.Table.{row_of, is_object}
use Rattle.aos_typed.specs.declared.tree.TType.TheVariants.{Named}
use Rattle.aos_typed.specs.Numbers.{id_of}
use Rattle.aos_typed.specs.Program.{Stat, Stats, Procedure as TypedProcedure, Program}
use Rattle.aos_typed.specs.WellTyped.{AreStatements, IsProcedure}
use Rattle.aos_symbols.specs.declared.scope.Entry.{Entry}
use Rattle.aos_symbols.specs.declared.scope.Meaning.TheVariants as means
use Rattle.aos_symbols.specs.declared.home.ObjectScope.{ObjectScope}
use Rattle.aos_symbols.specs.declared.env.Open.{Open}
use Rattle.aos_symbols.specs.declared.env.Env.{Env}
use Rattle.aos_symbols.specs.Judged.{kept, bind}
use Rattle.aos_symbols.specs.Declarations.{Procedure, procedures, methods_in, all_procedures, type_defs, inner_decls}
use Rattle.aos_symbols.specs.Home.{Home}
use Rattle.aos_symbols.specs.Scope.{Scope, find}
use Rattle.aos_members.specs.Members as members
use Rattle.aos_symbols.specs.Env as env
use Rattle.aos_symbols.proofs.Each.{Each}
use Rattle.aos_symbols.proofs.Holds.{Holds, holds_bind}
use Rattle.aos_known.specs.Known.{object_number}
use Rattle.aos_check_expr.proofs.Whole.{IsWhole}
use Rattle.aos_check_types.specs.Methods.{defined_type}
use Rattle.aos_check_decl.proofs.Typing.{IsHeading, HasHeading}
use Rattle.aos_check_stat.specs.Bodies.{listed, body_of, priority_of}
use Rattle.aos_variables.specs.Parts.{spelling, field_spellings, first_scope}
use Rattle.aos_compile.specs.Modules.{Beside, object_body, has_active, body_with, bodies_from, object_procedure, slotted, method_beside, methods_of, defined_object, beside_in}
use Rattle.aos_compile.proofs.ObjectScopes.{IsObject, is_object_or, scope_at, methods_before, method_at}
use Rattle.aos_compile.proofs.TypingBodies.{body_within, around_object, AreMore, procedures_sound}
use Rattle.aos_compile.proofs.TypingObjects.{IsSaidBeside}
use Rattle.aos_compile.proofs.TypingProcedures.{HaveHeadings, AreBodies, methods_typed}
use Rattle.aos_compile.proofs.TypingTypes.{RowsStay}
use Rattle.aos_compile.proofs.TypingWhole.{IsPlaced}

no_body : (x : TypeExpr) → (IsObject x → ⊥) → object_body x ≡ None
no_body (type.Object' p base shape row body end) never = absurd (never tt)
no_body (type.Named q) never = refl
no_body (type.Array' p lengths shape row) never = refl
no_body (type.Record' p base shape row) never = refl
no_body (type.Pointer' p shape row) never = refl
no_body (type.Proc p flag formals) never = refl

no_methods : (x : TypeExpr) → (IsObject x → ⊥) → procedures (inner_decls x) ≡ []
no_methods (type.Object' p base shape row body end) never = absurd (never tt)
no_methods (type.Named q) never = refl
no_methods (type.Array' p lengths shape row) never = refl
no_methods (type.Record' p base shape row) never = refl
no_methods (type.Pointer' p shape row) never = refl
no_methods (type.Proc p flag formals) never = refl

-- no methods stand beside what is no object type
pub plain_methods : (e : Env) (first : ℕ) (d : TypeDef) → (IsObject d.value → ⊥) → (x : Option (TypeId × ObjectScope)) → (beside_in e first d x).answer.methods ≡ []
plain_methods e first d never None = refl
plain_methods e first d never (Some y) = rw (no_methods d.value never) refl

slotted_each : (p : Program) (k : ℕ) (h : Home) (o : ObjectScope) (i : ℕ) (qs : List TypedProcedure) → Each (λ x. IsProcedure p (record x { of = Some k }) × (x.is_initializer ≡ true → x.result ≡ None)) qs →
    Each (λ m. IsProcedure p (method_beside k m).procedure × (m.procedure.is_initializer ≡ true → m.procedure.result ≡ None)) (slotted h o i qs)
slotted_each p k h o i [] each = tt
slotted_each p k h o i (q ∷ qs) each = (each.0, slotted_each p k h o (suc i) qs each.1)

dropped : {X : Type 0} (n : ℕ) (xs : List X) (i : ℕ) → slice_get (drop n xs) i ≡ slice_get xs (n + i)
dropped zero xs i = ap (slice_get xs) (let same : i ≡ 0 + i = omega arith in same)
dropped (suc n) [] i = refl
dropped (suc n) (y ∷ ys) i = dropped n ys i ∙ ap (slice_get (y ∷ ys)) (let same : suc (n + i) ≡ suc n + i = omega arith in same)

module _ (program : Program) (e : Env) (m : Tree) (begins : RowsStay env.basic_rows program.types) (same_types : program.types ≡ e.types)
    (everywhere : (own : Option TypedProcedure) (path : List Open) (self : Option TypeId) → IsPlaced (record { program = program; own = own; basic = begins }) (record e { path = path; self_type = self }) →
    IsWhole (record { program = program; own = own; basic = begins }) (record e { path = path; self_type = self }))
    (path_is : e.path ≡ env.own e.number ∷ []) (self_is : e.self_type ≡ None) (first_is : e.here.first ≡ first_scope m)
    (headings : (j : ℕ) (q : Procedure) → slice_get (all_procedures m.decls) j ≡ Some q → HasHeading m e j q)
    (below : (j : ℕ) (q : Procedure) → slice_get (all_procedures m.decls) j ≡ Some q → (s : Scope) → slice_get e.here.scopes (first_scope m + j) ≡ Some s →
    (w : List ℕ) (x : Entry) (k : ℕ) → find s w ≡ Some x → x.means ≡ means.Variable k → k < length s.variables)
    (objects : (t : TypeId) (o : ObjectScope) → members.object e t ≡ Some o → (0 < o.scope) × (o.home ≡ e.number → o.scope < first_scope m) × (is_object (row_of e.types t) ≡ true))
    (n : ℕ) (defined : (j : ℕ) (d : TypeDef) → slice_get (type_defs m.decls) j ≡ Some d → IsObject d.value → defined_type e d ≡ Some (record { 0 = 10 + (n + j) }))
    (found : (j : ℕ) (d : TypeDef) → slice_get (type_defs m.decls) j ≡ Some d → IsObject d.value →
    members.object e (record { 0 = 10 + (n + j) }) ≡ Some (scope_at e.number j (length (procedures m.decls) + methods_before (type_defs m.decls) j) d)) where
  module _ (j : ℕ) (d : TypeDef) (there : slice_get (type_defs m.decls) j ≡ Some d) where
    abbrev k : ℕ
    k = n + j

    -- of an object type
    module _ (kind : IsObject d.value) where
      abbrev t : TypeId
      t = record { 0 = 10 + k }

      abbrev first_method : ℕ
      first_method = length (procedures m.decls) + methods_before (type_defs m.decls) j

      abbrev o : ObjectScope
      o = scope_at e.number j first_method d

      number_is : object_number t ≡ k
      number_is = let same : (10 + k) - 10 ≡ k = omega arith in same

      object_is : is_object (row_of program.types (id_of (Named k))) ≡ true
      object_is =
          ap (λ rows. is_object (row_of rows (id_of (Named k)))) same_types
          ∙ ap (λ i. is_object (slice_get e.types i)) (let same : k + 10 ≡ 10 + k = omega arith in same) ∙ (objects t o (found j d there kind)).2

      inside_typed : Holds (IsSaidBeside program k) (beside_in e (first_scope m) d (Some (t, o)))
      inside_typed =
          let f = members.within_object e t in
          let path = members.object_path e (members.chain e.types t) ++ e.path in
          let sigs = drop first_method e.here.signatures in
          let x = λ (ss : List Stat) (bs : List Stats). (let y : Beside = record {
            name = spelling e.here.text d.def.name;
            at = d.def.name.pos;
            fields = field_spellings e.here.text d.value;
            has_body = is_some (object_body d.value);
            is_active = has_active e.here.text (object_body d.value);
            priority = priority_of f (object_body d.value);
            body = body_with e.here.text (object_body d.value) (listed ss);
            methods = methods_of e (first_scope m) o (methods_in d) bs;
          } in y) in
          let at = found j d there kind in
          let around = around_object program e m begins everywhere path_is self_is first_is headings below objects t o at in
          let itself = λ (u : TypeId) (is : Some t ≡ Some u). ap (λ i. Some i) (sym number_is) ∙ ap (λ (v : TypeId). Some (object_number v)) (same_Some t u is) in
          let More = AreMore program e m begins everywhere path_is self_is first_is headings below objects path (Some t) around (Some k) itself (first_scope m + first_method) (methods_in d) sigs [] in
          holds_bind (λ ss. AreStatements program (Some (object_procedure k (body_with e.here.text (object_body d.value) (listed ss)))) (listed ss)) (IsSaidBeside program k) (body_of f true (object_body d.value))
          (λ ss. bind (bodies_from f (first_scope m + first_method) [] (methods_in d)) (λ bs. kept (x ss bs)))
          (body_within program e m begins everywhere path_is self_is first_is headings below objects t o at refl k number_is (object_body d.value))
          (λ ss typed. holds_bind More (IsSaidBeside program k) (bodies_from f (first_scope m + first_method) [] (methods_in d)) (λ bs. kept (x ss bs))
          (procedures_sound program e m begins everywhere path_is self_is first_is headings below objects path (Some t) around (Some k) itself first_method (methods_in d) sigs (first_scope m + first_method) [] refl
          (λ i q is. method_at m.decls j d i q there is) (λ i. dropped first_method e.here.signatures i))
          (λ bs more none. record {
            typed = typed;
            methods =
                slotted_each program k e.here o 0 _
                (methods_typed program begins e.here.text (Some k) e.here.scopes (first_scope m + first_method) (methods_in d) sigs bs (have more)
                (subst (AreBodies program begins e.here.text (Some k) e.here.scopes (first_scope m + first_method) (methods_in d) sigs) (sym more.1) more.2));
            others = inl object_is;
          }))
        where
          have : {A : Type 0} → A → HaveHeadings program begins e.here.text e.here.scopes (first_scope m + first_method) (methods_in d) (drop first_method e.here.signatures)
          have a i q is =
              let one = headings (first_method + i) q (method_at m.decls j d i q there is) in
              record {
                signature = one.signature;
                scope = one.scope;
                signature_is = dropped first_method e.here.signatures i ∙ one.signature_is;
                scope_is = ap (slice_get e.here.scopes) (let same : (first_scope m + first_method) + i ≡ first_scope m + (first_method + i) = omega arith in same) ∙ one.scope_is;
                heading = subst (λ rows. IsHeading rows q one.signature one.scope) (sym same_types) one.heading;
              }

    -- of another one
    plain_typed : (IsObject d.value → ⊥) → (x : Option (TypeId × ObjectScope)) → Holds (IsSaidBeside program k) (beside_in e (first_scope m) d x)
    plain_typed never None none = record { typed = tt; methods = tt; others = inr (refl, refl) }
    plain_typed never (Some y) none = rw (no_body d.value never, no_methods d.value never) (record { typed = tt; methods = tt; others = inr (refl, refl) })

    pub said : Holds (IsSaidBeside program k) (beside_in e (first_scope m) d (defined_object e d))
    said = by (is_object_or d.value)
      where
        by : IsObject d.value ⊎ (IsObject d.value → ⊥) → Holds (IsSaidBeside program k) (beside_in e (first_scope m) d (defined_object e d))
        by (inl kind) =
            subst (λ x. Holds (IsSaidBeside program k) (beside_in e (first_scope m) d x))
            (sym (ap (option_and_then (λ t. option_map (λ o. (t, o)) (members.object e t))) (defined j d there kind) ∙ ap (option_map (λ o. (t kind, o))) (found j d there kind)))
            (inside_typed kind)
        by (inr never) = plain_typed never (defined_object e d)
