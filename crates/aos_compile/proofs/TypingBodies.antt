-- The bodies of a module that break no rule: those of its procedures and methods, of its object types, and its own.
use Rattle.std.proofs.Common.{◌≡◌, ℕ, zero, suc, ◌+◌, ◌-◌, ◌≤◌, ◌<◌, ◌==◌, ◌&&◌, ◌⊎◌, inl, inr, nat_lt, List, [], ◌∷◌, ◌++◌, length, Bool, true, false, is_some, Option, Some, None, option_and_then, slice_get, if◌then◌else◌, refl, sym, ap, ◌∙◌, subst, eqb-true, eq-eqb, lt-ltb, le-ltb, append_assoc, append-nil, arith}
use Rattle.std.proofs.lemmas.Bool.{and_parts}
use Rattle.std.proofs.lemmas.Option.{none-some, same_Some}
use Rattle.aos_tree.specs.declared.stat.Block.{Block}
use Rattle.aos_tree.specs.declared.module.Module.{Module as Tree}
use Rattle.aos_types.specs.declared.row.TypeId.{TypeId}
use Rattle.aos_types.specs.Table.{row_of, base_of, is_object}
use Rattle.aos_typed.specs.Program.{Stats, Procedure as TypedProcedure, Program}
use Rattle.aos_typed.specs.Routines.{self_type, result_of}
use Rattle.aos_typed.specs.WellTyped.{AreStatements}
use Rattle.aos_symbols.specs.declared.scope.Entry.{Entry}
use Rattle.aos_symbols.specs.declared.scope.Meaning.TheVariants as means
use Rattle.aos_symbols.specs.declared.home.ObjectScope.{ObjectScope}
use Rattle.aos_types.specs.declared.signature.Signature.{Signature}
use Rattle.aos_symbols.specs.declared.env.Open.{Open}
use Rattle.aos_symbols.specs.declared.env.Env.{Env}
use Rattle.aos_symbols.specs.Declarations.{Procedure, all_procedures}
use Rattle.aos_symbols.specs.Scope.{Scope, find}
use Rattle.aos_symbols.specs.Home.{Home, signature_in}
use Rattle.aos_members.specs.Members as members
use Rattle.aos_symbols.specs.Env as env
use Rattle.aos_symbols.proofs.Each.{Each, joined}
use Rattle.aos_symbols.proofs.Holds.{Holds, holds_bind}
use Rattle.aos_known.specs.Known.{object_number}
use Rattle.aos_known.proofs.Inside.{Inside}
use Rattle.aos_designators.specs.Designators as desig
use Rattle.aos_check_expr.proofs.Whole.{IsTyped, IsSearched, IsWhole}
use Rattle.aos_check_decl.proofs.Typing.{HasHeading}
use Rattle.aos_check_stat.specs.Bodies.{listed, body_of}
use Rattle.aos_check_stat.proofs.Typing.{body_sound}
use Rattle.aos_variables.specs.Parts.{first_scope, variables_of}
use Rattle.aos_compile.specs.Modules.{body_with, bodies_from, object_procedure, procedure_of}
use Rattle.aos_compile.proofs.TypingLocals.{own_typed}
use Rattle.aos_compile.proofs.TypingPaths.{path_searched}
use Rattle.aos_compile.proofs.TypingProcedures.{AreBodies as AreProcedureBodies, IsSignature, heading_signature, signature_with, signed}
use Rattle.aos_compile.proofs.TypingTypes.{RowsStay}
use Rattle.aos_compile.proofs.TypingWhole.{IsPlaced}

not_both : true ≡ false → ⊥
not_both e = cc

module _ (program : Program) (e : Env) (m : Tree) (begins : RowsStay env.basic_rows program.types)
    (everywhere : (own : Option TypedProcedure) (path : List Open) (self : Option TypeId) → IsPlaced (record { program = program; own = own; basic = begins }) (record e { path = path; self_type = self }) →
    IsWhole (record { program = program; own = own; basic = begins }) (record e { path = path; self_type = self }))
    (path_is : e.path ≡ env.own e.number ∷ []) (self_is : e.self_type ≡ None) (first_is : e.here.first ≡ first_scope m)
    (headings : (j : ℕ) (q : Procedure) → slice_get (all_procedures m.decls) j ≡ Some q → HasHeading m e j q)
    (below : (j : ℕ) (q : Procedure) → slice_get (all_procedures m.decls) j ≡ Some q → (s : Scope) → slice_get e.here.scopes (first_scope m + j) ≡ Some s →
    (w : List ℕ) (x : Entry) (k : ℕ) → find s w ≡ Some x → x.means ≡ means.Variable k → k < length s.variables)
    (objects : (t : TypeId) (o : ObjectScope) → members.object e t ≡ Some o → (0 < o.scope) × (o.home ≡ e.number → o.scope < first_scope m) × (is_object (row_of e.types t) ≡ true)) where
  abbrev inside : Option TypedProcedure → Inside
  inside own = record { program = program; own = own; basic = begins }

  abbrev place_at : List Open → Option TypeId → Env
  place_at path self = record e { path = path; self_type = self }

  -- what stands around a procedure: the module, or an object type
  pub record IsAround (path : List Open) (self : Option TypeId) : Type 0 where
    pub searched : (k : ℕ) → first_scope m ≤ k → Each (IsSearched (place_at (record { home = e.number; scope = k } ∷ path) self)) path
    pub object : (t : TypeId) → self ≡ Some t → is_object (row_of e.types t) ≡ true

  no_signature : (k : ℕ) → k < first_scope m → signature_in e.here k ≡ None
  no_signature k less =
      ap (λ n. if nat_lt k n then None else slice_get e.here.signatures (k - n)) first_is
      ∙ ap (λ b. if b then None else slice_get e.here.signatures (k - first_scope m)) (lt-ltb k (first_scope m) less)

  -- a body without a signature gives nothing
  none_placed : (own : Option TypedProcedure) → result_of own ≡ None → (path : List Open) (self : Option TypeId) → Each (IsSearched (place_at path self)) path →
      env.own_signature (place_at path self) ≡ None →
      ((t : TypeId) → self ≡ Some t → (self_type own ≡ Some (object_number t)) × (is_object (row_of e.types t) ≡ true)) → IsPlaced (inside own) (place_at path self)
  none_placed own proper path self searched none itself = record {
    path = searched;
    locals = λ s w x k some there found means. absurd (not_both (sym some ∙ ap is_some none));
    own = λ s is. absurd (none-some s (sym none ∙ is));
    own_body = λ is. proper;
    itself = itself;
  }

  own_searched : (f : Env) → Each (IsSearched f) (env.own e.number ∷ [])
  own_searched f = (inl refl, tt)

  pub base : IsWhole (inside None) e
  base =
      everywhere None e.path e.self_type
      (none_placed None refl e.path e.self_type (subst (Each (IsSearched e)) (sym path_is) (own_searched e)) (ap (λ os. signature_in e.here (env.innermost os)) path_is ∙ no_signature 0 (omega arith))
      (λ t is. absurd (none-some t (sym self_is ∙ is))))

  pub around_module : IsAround e.path e.self_type
  around_module = record {
    searched = λ k high. let f = place_at (record { home = e.number; scope = k } ∷ e.path) e.self_type in subst (Each (IsSearched f)) (sym path_is) (own_searched f);
    object = λ t is. absurd (none-some t (sym self_is ∙ is));
  }

  -- Within an object type.

  module _ (t : TypeId) (o : ObjectScope) (found : members.object e t ≡ Some o) where
    abbrev object_path : List Open
    object_path = members.object_path e (members.chain e.types t)

    abbrev within : Env
    within = members.within_object e t

    -- the scopes of object types are no procedure's
    not_own : (path : List Open) (k : ℕ) → env.innermost path ≡ k → (first_scope m ≤ k) ⊎ (k < first_scope m) → (u : TypeId) (q : ObjectScope) → members.object e u ≡ Some q →
        desig.is_own_scope (place_at path (Some t)) (members.object_place q) ≡ false
    not_own path k inner kind u q object = by ((q.home == e.number) && (q.scope == env.innermost path)) refl kind
      where
        by : (b : Bool) → ((q.home == e.number) && (q.scope == env.innermost path)) ≡ b → (first_scope m ≤ k) ⊎ (k < first_scope m) → (b && is_some (signature_in e.here (env.innermost path))) ≡ false
        by false is kind = refl
        by true is (inr low) = ap is_some (ap (signature_in e.here) inner ∙ no_signature k low)
        by true is (inl high) =
            let two = and_parts (q.home == e.number) (q.scope == env.innermost path) is in
            let home = eqb-true q.home e.number two.0 in
            let scope = eqb-true q.scope (env.innermost path) two.1 in
            let less = (objects u q object).1 home in
            absurd (omega (arith, high, less, scope, inner))

    searched_within : (path : List Open) (k : ℕ) → env.innermost path ≡ k → (first_scope m ≤ k) ⊎ (k < first_scope m) → Each (IsSearched (place_at path (Some t))) (object_path ++ e.path)
    searched_within path k inner kind =
        let f = place_at path (Some t) in
        joined (IsSearched f) object_path e.path
        (path_searched e f t refl refl (λ u. refl) (not_own path k inner kind) (λ u q object. (objects u q object).0))
        (subst (Each (IsSearched f)) (sym path_is) (own_searched f))

    pub around_object : IsAround (object_path ++ e.path) (Some t)
    around_object = record {
      searched = λ k high. searched_within (record { home = e.number; scope = k } ∷ (object_path ++ e.path)) k refl (inl high);
      object = λ u is. subst (λ (v : TypeId). is_object (row_of e.types v) ≡ true) (same_Some t u is) (objects t o found).2;
    }

    -- its body
    module _ (home : o.home ≡ e.number) (k : ℕ) (number : object_number t ≡ k) where
      innermost_is : env.innermost (object_path ++ e.path) ≡ o.scope
      innermost_is = by (length e.types)
        where
          by : (n : ℕ) → env.innermost (members.object_path e (members.chain_by n e.types t) ++ e.path) ≡ o.scope
          by zero = ap (λ z. env.innermost ((members.opened e z ++ []) ++ e.path)) found
          by (suc n) = ap (λ z. env.innermost ((members.opened e z ++ members.object_path e (members.chain_behind (λ b. members.chain_by n e.types b) (base_of (row_of e.types t)))) ++ e.path)) found

      pub body_within : (b : Option Block) → Holds (λ ss. AreStatements program (Some (object_procedure k (body_with e.here.text b (listed ss)))) (listed ss)) (body_of within true b)
      body_within b none =
          let own = Some (object_procedure k (body_with e.here.text b (listed (body_of within true b).answer))) in
          let low = (objects t o found).1 home in
          let silent = ap (signature_in e.here) innermost_is ∙ no_signature o.scope low in
          body_sound (inside own) within
          (everywhere own (object_path ++ e.path) (Some t)
          (none_placed own refl (object_path ++ e.path) (Some t) (searched_within (object_path ++ e.path) o.scope innermost_is (inr low)) silent
          (λ u is. (ap (λ n. Some n) (sym number) ∙ ap (λ v. Some (object_number v)) (same_Some t u is), subst (λ (v : TypeId). is_object (row_of e.types v) ≡ true) (same_Some t u is) (objects t o found).2)))) true b none

  -- The bodies of procedures and methods.

  module _ (path : List Open) (self : Option TypeId) (around : IsAround path self) (of : Option ℕ) (itself : (t : TypeId) → self ≡ Some t → of ≡ Some (object_number t)) where
    abbrev outer : Env
    outer = place_at path self

    abbrev deeper : ℕ → List Open
    deeper k = record { home = e.number; scope = k } ∷ path

    module _ (j : ℕ) (q : Procedure) (at : slice_get (all_procedures m.decls) j ≡ Some q) (b : Stats) where
      abbrev head : HasHeading m e j q
      head = headings j q at

      abbrev scope_number : ℕ
      scope_number = first_scope m + j

      signed_here : signature_in e.here scope_number ≡ Some head.signature
      signed_here =
          ap (λ n. if nat_lt scope_number n then None else slice_get e.here.signatures (scope_number - n)) first_is
          ∙ ap (λ c. if c then None else slice_get e.here.signatures (scope_number - first_scope m)) (le-ltb scope_number (first_scope m) (omega arith))
          ∙ ap (slice_get e.here.signatures) (let same : scope_number - first_scope m ≡ j = omega arith in same) ∙ head.signature_is

      abbrev own_procedure : TypedProcedure
      own_procedure = record (procedure_of e.here.text q head.signature head.scope.variables b) { of = of }

      abbrev place : Env
      place = place_at (deeper scope_number) self

      scope_here : env.scope place (record { home = e.number; scope = scope_number }) ≡ Some head.scope
      scope_here =
          ap (λ c. option_and_then (λ (h : Home). slice_get h.scopes scope_number) (if c then Some e.here else slice_get e.before e.number)) (eq-eqb e.number e.number refl)
          ∙ head.scope_is

      is_own : desig.is_own_scope place (record { home = e.number; scope = scope_number }) ≡ true
      is_own =
          ap (λ c. (c && (scope_number == scope_number)) && is_some (signature_in e.here scope_number)) (eq-eqb e.number e.number refl)
          ∙ ap (λ c. c && is_some (signature_in e.here scope_number)) (eq-eqb scope_number scope_number refl) ∙ ap is_some signed_here

      placed : IsPlaced (inside (Some own_procedure)) place
      placed = record {
        path = (inr (inl is_own), around.searched scope_number (omega arith));
        locals = λ s w x k some there found means. local s w x k there found means;
        own = λ s is. (
          own_procedure,
          refl,
          signed place s own_procedure
              (subst (λ (z : Signature). IsSignature e.types z own_procedure) (same_Some head.signature s (sym signed_here ∙ is))
              (signature_with of e.types head.signature (procedure_of e.here.text q head.signature head.scope.variables b)
              (heading_signature e.types e.here.text q head.signature head.scope head.scope.variables b head.heading))),
        );
        own_body = λ none. absurd (none-some head.signature (sym none ∙ signed_here));
        itself = λ t is. (itself t is, around.object t is);
      }
        where
          local : (s : Scope) (w : List ℕ) (x : Entry) (k : ℕ) → env.scope place (record { home = e.number; scope = scope_number }) ≡ Some s → find s w ≡ Some x → x.means ≡ means.Variable k →
              IsTyped (inside (Some own_procedure)) place (desig.own_place place k) (env.variable_type place (record { home = e.number; scope = scope_number }) k)
          local s w x k there found means =
              let same : s ≡ head.scope = same_Some s head.scope (sym there ∙ scope_here) in
              let less : k < length head.scope.variables = below j q at head.scope head.scope_is w x k (ap (λ (z : Scope). find z w) (sym same) ∙ found) means in
              subst (IsTyped (inside (Some own_procedure)) place (desig.own_place place k))
              (sym (ap (λ z. env.joined (option_and_then (λ (y : Scope). slice_get y.variables k) z)) scope_here))
              (own_typed program begins e base q head.signature head.scope head.heading b of (deeper scope_number) self signed_here k less)

      body_whole : IsWhole (inside (Some own_procedure)) place
      body_whole = everywhere (Some own_procedure) (deeper scope_number) self placed

    -- a body of the procedure with a signature and a scope
    abbrev IsBodyOf : ℕ → Procedure → Signature → Stats → Type 0
    IsBodyOf k q s b = AreStatements program (Some (record (procedure_of e.here.text q s (variables_of (slice_get e.here.scopes k)) b) { of = of })) b

    procedure_sound : (j k : ℕ) (q : Procedure) (s : Signature) → k ≡ first_scope m + j → slice_get (all_procedures m.decls) j ≡ Some q → slice_get e.here.signatures j ≡ Some s →
        Holds (λ ss. IsBodyOf k q s (listed ss)) (body_of (env.within outer k) false q.body)
    procedure_sound j k q s is at there =
        subst (λ k. Holds (λ ss. IsBodyOf k q s (listed ss)) (body_of (env.within outer k) false q.body)) (sym is) (λ none.
        let b = listed (body_of (env.within outer (first_scope m + j)) false q.body).answer in
        let h = headings j q at in
        subst (λ (o : Option Scope). AreStatements program (Some (record (procedure_of e.here.text q s (variables_of o) b) { of = of })) b) (sym h.scope_is)
        (subst (λ (z : Signature). AreStatements program (Some (record (procedure_of e.here.text q z h.scope.variables b) { of = of })) b) (same_Some h.signature s (sym h.signature_is ∙ there))
        (body_sound (inside (Some (own_procedure j q at b))) (env.within outer (first_scope m + j)) (body_whole j q at b) false q.body none)))

    abbrev pub AreMore : ℕ → List Procedure → List Signature → List Stats → List Stats → Type 0
    AreMore k qs ss done bs = (rest : List Stats) × (bs ≡ done ++ rest) × AreProcedureBodies program begins e.here.text of e.here.scopes k qs ss rest

    -- procedures, of which the first has the number n among all of the module
    pub procedures_sound : (n : ℕ) (qs : List Procedure) (ss : List Signature) (k : ℕ) (done : List Stats) → k ≡ first_scope m + n →
        ((i : ℕ) (q : Procedure) → slice_get qs i ≡ Some q → slice_get (all_procedures m.decls) (n + i) ≡ Some q) →
        ((i : ℕ) → slice_get ss i ≡ slice_get e.here.signatures (n + i)) → Holds (AreMore k qs ss done) (bodies_from outer k done qs)
    procedures_sound n [] ss k done is same also = λ h. ([], sym (append-nil done), tt)
    procedures_sound n (q ∷ qs) [] k done is same also =
        let plus : n + 0 ≡ n = omega arith in
        let h = headings n q (ap (slice_get (all_procedures m.decls)) (sym plus) ∙ same 0 q refl) in
        absurd (none-some h.signature (also 0 ∙ ap (slice_get e.here.signatures) plus ∙ h.signature_is))
    procedures_sound n (q ∷ qs) (s ∷ ss) k done is same also =
        let plus : n + 0 ≡ n = omega arith in
        holds_bind (λ sts. IsBodyOf k q s (listed sts)) (AreMore k (q ∷ qs) (s ∷ ss) done) (body_of (env.within outer k) false q.body) (λ sts. bodies_from outer (suc k) (done ++ listed sts ∷ []) qs)
        (procedure_sound n k q s is (ap (slice_get (all_procedures m.decls)) (sym plus) ∙ same 0 q refl) (ap (slice_get e.here.signatures) (sym plus) ∙ sym (also 0)))
        (λ sts typed none. let more = procedures_sound (suc n) qs ss (suc k) (done ++ listed sts ∷ []) (omega (arith, is))
        (λ i r at. ap (slice_get (all_procedures m.decls)) (next n i) ∙ same (suc i) r at) (λ i. also (suc i) ∙ ap (slice_get e.here.signatures) (sym (next n i))) none in
        (listed sts ∷ more.0, more.1 ∙ append_assoc done (listed sts ∷ []) more.0, (typed, more.2)))
      where
        next : (j i : ℕ) → suc j + i ≡ j + suc i
        next j i = omega arith
