-- One module more: the own methods of all types, those of the modules before and its own, are those beside them in the program.
use Rattle.std.proofs.Common.{◌≡◌, ℕ, zero, suc, ◌+◌, ◌-◌, ◌≤◌, ◌<◌, ◌==◌, ◌⊎◌, inl, inr, List, [], ◌∷◌, ◌++◌, length, map, drop, Bool, true, false, Option, Some, None, option_map, option_and_then, slice_get, if◌then◌else◌, refl, sym, ap, ◌∙◌, subst, arith}
use Rattle.std.specs.Option.{option_or}
use Rattle.std.proofs.lemmas.Bool.{cases_lt}
use Rattle.std.proofs.lemmas.Option.{none-some, same_Some}
use Rattle.aos_tree.specs.declared.decl.Def.{Def}
use Rattle.aos_tree.specs.declared.decl.TypeDef.{TypeDef}
use Rattle.aos_tree.specs.declared.module.Module.{Module as Tree}
use Rattle.aos_types.specs.declared.row.TypeId.{TypeId}
use Rattle.aos_types.specs.declared.row.TypeRow.{TypeRow}
use Rattle.aos_types.specs.Table.{row_of, base_of}
use Rattle.aos_typed.specs.Methods.{methods_in as methods_beside, own_methods, initial_slot}
use Rattle.aos_typed.specs.Program.{Stats, ObjectType, Module, Procedure as TypedProcedure, Method as TypedMethod}
use Rattle.aos_symbols.specs.declared.home.ObjectScope.{ObjectScope}
use Rattle.aos_types.specs.declared.signature.Signature.{Signature}
use Rattle.aos_symbols.specs.declared.env.Env.{Env}
use Rattle.aos_symbols.specs.Declarations.{Procedure, procedure_defs, methods_in, all_procedures, type_defs, inner_decls}
use Rattle.aos_entries.specs.declared.entries.Sort.TheVariants as sort
use Rattle.aos_entries.specs.Entries.{numbered}
use Rattle.aos_symbols.specs.Scope.{Named}
use Rattle.aos_symbols.specs.Home.{Home, object_of}
use Rattle.aos_symbols.specs.Spelling.{word}
use Rattle.aos_members.specs.Members as members
use Rattle.aos_symbols.specs.Env as env
use Rattle.aos_members.specs.Members.{object_among}
use Rattle.aos_symbols.proofs.Told.{get_front}
use Rattle.aos_known.specs.Known.{object_number}
use Rattle.aos_check_expr.proofs.Opens.{some_there, stand_fall}
use Rattle.aos_check_types.specs.Methods.{method_breaches}
use Rattle.aos_check_decl.proofs.Typing.{AreReady, HasHeading}
use Rattle.aos_check_types.proofs.TypingLists.{get_behind}
use Rattle.aos_variables.specs.Parts.{first_scope}
use Rattle.aos_compile.specs.Modules.{Beside, object_of as object_beside, objects_from, procedures_of, slotted, method_beside, methods_of}
use Rattle.aos_compile.proofs.MethodNames.{copies, AreOnce, filter_copies}
use Rattle.aos_compile.proofs.MethodsGrow.{bases_high}
use Rattle.aos_compile.proofs.MethodsStay.{has_own_on, own_meant_is, own_start_is, own_methods_are, in_home, start_in, named_in}
use Rattle.aos_compile.proofs.ObjectScopes.{IsObject, is_object_or}
use Rattle.aos_compile.proofs.OwnMethods.{IsFound, object, first_method, only, own_signed, words_of, are_named, are_own, starts, started}
use Rattle.aos_compile.proofs.Slots.{Word, words}
use Rattle.aos_compile.proofs.TypingHomes.{AreHomes, home_at, objects_among}
use Rattle.aos_compile.proofs.TypingMethods.{Meant, own_meant, own_start, meant, meant_behind, own_words, above, base_falls, meant_is, AreOwnOf, HasOwn, own_at}
use Rattle.aos_compile.proofs.TypingOutlook.{outlook, no_home, object_old, home_same, signed_old}
use Rattle.aos_compile.proofs.TypingProcedures.{IsSignature}
use Rattle.aos_compile.proofs.TypingTypes.{RowsStay, bases_there}

module _ (hs : List Home) (types : List TypeRow) (ms more : List Module) (os : List ObjectType) (e : Env) (m : Tree) (xs : List Beside) (number_is : e.number ≡ length hs) (before_is : e.before ≡ hs)
    (ready_old : AreReady types) (ready : AreReady e.types) (stays : RowsStay types e.types) (homes : AreHomes types 0 hs ms) (count : length types ≡ 10 + length os)
    (long : length e.types ≡ length types + length xs)
    (own : (t : TypeId) → 10 ≤ t.0 → t.0 < length types → HasOwn (outlook hs types) ms os t)
    (other : (t : TypeId) (o : ObjectScope) → object_of e.here t ≡ Some o →
    (j : ℕ) × (d : TypeDef) × (slice_get (type_defs m.decls) j ≡ Some d) × IsObject d.value × (t.0 ≡ length types + j) × (o.home ≡ length hs))
    (found : (j : ℕ) (d : TypeDef) → slice_get (type_defs m.decls) j ≡ Some d → IsObject d.value → IsFound e m j d (record { 0 = length types + j }))
    (headings : (i : ℕ) (p : Procedure) → slice_get (all_procedures m.decls) i ≡ Some p → HasHeading m e i p)
    (kept : (j : ℕ) (d : TypeDef) → slice_get (type_defs m.decls) j ≡ Some d → IsObject d.value → (i : ℕ) (p : Procedure) → slice_get (methods_in d) i ≡ Some p →
    method_breaches e (record { 0 = length types + j }) p ≡ [])
    (beside : (j : ℕ) (d : TypeDef) → slice_get (type_defs m.decls) j ≡ Some d → IsObject d.value → (bs : List Stats) × (length bs ≡ length (methods_in d))
    × (option_map (λ (x : Beside). x.methods) (slice_get xs j) ≡ Some (methods_of e (first_scope m) (object e m j d (record { 0 = length types + j })) (methods_in d) bs)))
    (bare : (j : ℕ) (x : Beside) → slice_get xs j ≡ Some x → ((d : TypeDef) → slice_get (type_defs m.decls) j ≡ Some d → IsObject d.value → ⊥) → x.methods ≡ []) where
  abbrev modules : List Module
  modules = ms ++ more

  abbrev objects : List ObjectType
  objects = os ++ objects_from e (length os) xs

  abbrev own_of : TypeId → List TypedMethod
  own_of t = own_methods (record { modules = modules; types = e.types; objects = objects }) (object_number t)

  old_objects : (t : TypeId) (o : ObjectScope) → object_among hs t ≡ Some o → (t.0 < length types) × (o.home < length hs)
  old_objects t o at = objects_among types hs ms homes t o at

  new_objects : (t : TypeId) (o : ObjectScope) → object_of e.here t ≡ Some o → (length types ≤ t.0) × (o.home ≡ length hs)
  new_objects t o at = let one = other t o at in let is = one.4 in (omega (arith, is), one.5)

  -- those of the modules before

  known_old : (n k : ℕ) (s : Signature) → env.signature (outlook hs types) n k ≡ Some s → (q : TypedProcedure) × IsSignature types s q
  known_old n k s is = by (n == length hs) (slice_get hs n) refl is
    where
      by : (b : Bool) (h : Option Home) → slice_get hs n ≡ h → option_and_then (λ (h : Home). slice_get h.signatures k) (if b then Some no_home else h) ≡ Some s →
          (q : TypedProcedure) × IsSignature types s q
      by true h at is = absurd (none-some s is)
      by false None at is = absurd (none-some s is)
      by false (Some h) at is = (home_at types hs ms homes n h at).2.signed k s is

  old_own : (t : TypeId) → 10 ≤ t.0 → t.0 < length types → HasOwn e modules objects t
  old_own t high below =
      let there = some_there os (object_number t) (omega (arith, high, below, count)) in
      has_own_on (outlook hs types) e ready_old ready stays (object_old hs types e number_is before_is old_objects new_objects) (λ u o less at. home_same hs types e number_is before_is old_objects new_objects u o at)
      (stand_fall types ready_old.opens) (signed_old hs types e number_is before_is old_objects new_objects) known_old ms modules os objects t below
      (ap methods_beside (get_front os (objects_from e (length os) xs) (object_number t) there.0 there.1 ∙ sym there.1)) (own t high below)

  -- Its own.

  no_object : (t : TypeId) → length types ≤ t.0 → ((j : ℕ) (d : TypeDef) → slice_get (type_defs m.decls) j ≡ Some d → IsObject d.value → t.0 ≡ length types + j → ⊥) → members.object e t ≡ None
  no_object t high never = by (object_of e.here t) refl (object_among e.before t) refl
    where
      by : (p : Option ObjectScope) → object_of e.here t ≡ p → (q : Option ObjectScope) → object_among e.before t ≡ q → option_or p q ≡ None
      by None at None also = refl
      by (Some o) at q also = let one = other t o at in absurd (never one.0 one.1 one.2 one.3 one.4)
      by None at (Some o) also =
          let low = (old_objects t o (ap (λ l. object_among l t) (sym before_is) ∙ also)).0 in absurd (omega (arith, high, low))

  beside_there : (j n : ℕ) (ys : List Beside) (x : Beside) → slice_get ys j ≡ Some x → slice_get (objects_from e n ys) j ≡ Some (object_beside e (n + j) x)
  beside_there j n [] x at = absurd (none-some x at)
  beside_there zero n (y ∷ ys) x at =
      ap (λ (z : Beside). Some (object_beside e n z)) (same_Some y x at) ∙ ap (λ k. Some (object_beside e k x)) (let same : n ≡ n + 0 = omega arith in same)
  beside_there (suc j) n (y ∷ ys) x at =
      beside_there j (suc n) ys x at ∙ ap (λ k. Some (object_beside e k x)) (let same : suc n + j ≡ n + suc j = omega arith in same)

  number_is_there : (j : ℕ) → object_number (record { 0 = length types + j }) ≡ length os + j
  number_is_there j = let same : (length types + j) - 10 ≡ length os + j = omega (arith, count) in same

  own_beside : (j : ℕ) (x : Beside) → slice_get xs j ≡ Some x → own_of (record { 0 = length types + j }) ≡ map (method_beside (length os + j)) x.methods
  own_beside j x at =
      ap (λ k. methods_beside (slice_get objects k)) (number_is_there j)
      ∙ ap methods_beside (get_behind os (objects_from e (length os) xs) j ∙ beside_there j (length os) xs x at)

  module _ (j : ℕ) (d : TypeDef) (there : slice_get (type_defs m.decls) j ≡ Some d) (kind : IsObject d.value) (below : length types + j < length e.types) where
    abbrev type : TypeId
    type = record { 0 = length types + j }

    abbrev is : IsFound e m j d type
    is = found j d there kind

    signed_here : (w : Word) (u : Meant) → own_meant e type w ≡ Some u → (s : Signature) × (env.signature e u.home u.number ≡ Some s)
    signed_here = own_signed e m j d type is ready below headings

    has_beside : (x : Beside) × (slice_get xs j ≡ Some x) × (x.methods ≡ methods_of e (first_scope m) (object e m j d type) (methods_in d) (beside j d there kind).0)
    has_beside = by (slice_get xs j) refl (beside j d there kind).2
      where
        by : (o : Option Beside) → slice_get xs j ≡ o → option_map (λ (x : Beside). x.methods) o ≡ Some (methods_of e (first_scope m) (object e m j d type) (methods_in d) (beside j d there kind).0) →
            (x : Beside) × (slice_get xs j ≡ Some x) × (x.methods ≡ methods_of e (first_scope m) (object e m j d type) (methods_in d) (beside j d there kind).0)
        by None at same = absurd (none-some (methods_of e (first_scope m) (object e m j d type) (methods_in d) (beside j d there kind).0) same)
        by (Some x) at same = (x, at, same_Some x.methods (methods_of e (first_scope m) (object e m j d type) (methods_in d) (beside j d there kind).0) same)

    new_own : ((b : TypeId) → base_of (row_of e.types type) ≡ Some b → (w : Word) (u : Meant) → meant e b w ≡ Some u → (s : Signature) × (env.signature e u.home u.number ≡ Some s)) → HasOwn e modules objects type
    new_own signed = record {
      are =
          subst (λ vs. AreOwnOf e modules objects type vs (own_of type)) (sym (words_of e m j d type is ready below headings))
          (subst (λ xs. AreOwnOf e modules objects type spelled xs) (sym listed)
          (are_own e m j d type is ready below headings (kept j d there kind) signed modules objects (length os + j) (first_scope m + first_method e m j d type) 0 defs (methods_in d)
          (drop (first_method e m j d type) e.here.signatures) bs (are_named (inner_decls d.value)) (beside j d there kind).1 (λ n. ap (slice_get defs) (zero_more n)) (λ n. ap (slice_get (methods_in d)) (zero_more n))
          (λ n. dropped (first_method e m j d type) e.here.signatures n ∙ ap (λ k. slice_get e.here.signatures (first_method e m j d type + k)) (zero_more n)) once));
      only = only e m j d type is ready below headings;
      starts =
          ap initial_slot listed
          ∙ starts e m j d type is ready below headings (kept j d there kind) signed modules objects (length os + j) (first_scope m + first_method e m j d type) (drop (first_method e m j d type) e.here.signatures) bs (beside j d there kind).1
          (λ n. dropped (first_method e m j d type) e.here.signatures n ∙ ap (λ k. slice_get e.here.signatures (first_method e m j d type + k)) (zero_more n));
      started = λ u is_start. started e m j d type is ready below headings modules objects u is_start;
    }
      where
        bs : List Stats
        bs = (beside j d there kind).0

        defs : List Def
        defs = procedure_defs (inner_decls d.value)

        spelled : List Word
        spelled = map (λ (x : Def). word e.here.text x.name) defs

        zero_more : (n : ℕ) → n ≡ 0 + n
        zero_more n = omega arith

        dropped : {X : Type 0} (n : ℕ) (ys : List X) (i : ℕ) → slice_get (drop n ys) i ≡ slice_get ys (n + i)
        dropped zero ys i = ap (slice_get ys) (let same : i ≡ 0 + i = omega arith in same)
        dropped (suc n) [] i = refl
        dropped (suc n) (y ∷ ys) i = dropped n ys i ∙ ap (slice_get (y ∷ ys)) (let same : suc (n + i) ≡ suc n + i = omega arith in same)

        listed : own_of type ≡ map (method_beside (length os + j)) (slotted e.here (object e m j d type) 0
            (procedures_of e.here.text e.here.scopes ((first_scope m + first_method e m j d type) + 0) (methods_in d) (drop (first_method e m j d type) e.here.signatures) bs))
        listed =
            own_beside j has_beside.0 has_beside.1 ∙ ap (map (method_beside (length os + j))) has_beside.2
            ∙ ap (λ k. map (method_beside (length os + j)) (slotted e.here (object e m j d type) 0 (procedures_of e.here.text e.here.scopes k (methods_in d) (drop (first_method e m j d type) e.here.signatures) bs)))
            (let same : first_scope m + first_method e m j d type ≡ (first_scope m + first_method e m j d type) + 0 = omega arith in same)

        -- the names of methods are declared once
        once : AreOnce spelled
        once w =
            let few = filter_copies is.scope.entries w in
            let all = is.inner.once w in
            let same = ap (λ (ns : List Named). copies (words ns) w) is.inner.methods in
            let spelling = ap (λ l. copies l w) (numbered_words 0 defs) in
            omega (arith, few, all, same, spelling)
          where
            numbered_words : (k : ℕ) (ds : List Def) → words (numbered e.here.text sort.Procedure k ds) ≡ map (λ (x : Def). word e.here.text x.name) ds
            numbered_words k [] = refl
            numbered_words k (x ∷ ds) = ap (λ l. word e.here.text x.name ∷ l) (numbered_words (suc k) ds)

  -- a type that is no object type has no methods
  module _ (j : ℕ) (x : Beside) (at : slice_get xs j ≡ Some x) (never : (d : TypeDef) → slice_get (type_defs m.decls) j ≡ Some d → IsObject d.value → ⊥) where
    abbrev plain : TypeId
    plain = record { 0 = length types + j }

    none : members.object e plain ≡ None
    none =
        no_object plain (omega arith) (λ i d there kind same.
        let place : i ≡ j = omega (arith, same) in never d (ap (slice_get (type_defs m.decls)) (sym place) ∙ there) kind)

    nothing_meant : (w : Word) → own_meant e plain w ≡ None
    nothing_meant w = own_meant_is e plain w ∙ ap (option_and_then (λ o. in_home e o w (env.home e o.home))) none

    nothing_started : own_start e plain ≡ None
    nothing_started = own_start_is e plain ∙ ap (option_and_then (λ o. start_in e o (env.home e o.home))) none

    no_words : own_words e plain ≡ []
    no_words = ap words (own_methods_are e plain) ∙ ap (λ o. words (named_in e (option_and_then (λ o. env.scope e (members.object_place o)) o))) none

    plain_own : HasOwn e modules objects plain
    plain_own = record {
      are =
          subst (λ vs. AreOwnOf e modules objects plain vs (own_of plain)) (sym no_words)
          (subst (AreOwnOf e modules objects plain []) (sym (own_beside j x at ∙ ap (map (method_beside (length os + j))) (bare j x at never))) tt);
      only = λ w u is. absurd (none-some u (sym (nothing_meant w) ∙ is));
      starts = ap initial_slot (own_beside j x at ∙ ap (map (method_beside (length os + j))) (bare j x at never)) ∙ ap (option_map (λ (m : Meant). m.slot)) (sym nothing_started);
      started = λ u is. absurd (none-some u (sym nothing_started ∙ is));
    }

  -- All types.

  -- an object type is defined by a definition, or none is
  kind_of : (j : ℕ) → ((d : TypeDef) × (slice_get (type_defs m.decls) j ≡ Some d) × IsObject d.value) ⊎ ((d : TypeDef) → slice_get (type_defs m.decls) j ≡ Some d → IsObject d.value → ⊥)
  kind_of j = by (slice_get (type_defs m.decls) j) refl
    where
      by : (o : Option TypeDef) → slice_get (type_defs m.decls) j ≡ o →
          ((d : TypeDef) × (slice_get (type_defs m.decls) j ≡ Some d) × IsObject d.value) ⊎ ((d : TypeDef) → slice_get (type_defs m.decls) j ≡ Some d → IsObject d.value → ⊥)
      by None at = inr (λ d there kind. none-some d (sym at ∙ there))
      by (Some d) at = kind (is_object_or d.value)
        where
          kind : IsObject d.value ⊎ (IsObject d.value → ⊥) →
              ((d : TypeDef) × (slice_get (type_defs m.decls) j ≡ Some d) × IsObject d.value) ⊎ ((d : TypeDef) → slice_get (type_defs m.decls) j ≡ Some d → IsObject d.value → ⊥)
          kind (inl is) = inl (d, at, is)
          kind (inr never) = inr (λ c there is. never (subst (λ (z : TypeDef). IsObject z.value) (same_Some c d (sym there ∙ at)) is))

  behind_types : (t : TypeId) → length types ≤ t.0 → record { 0 = length types + (t.0 - length types) } ≡ t
  behind_types t high = ap (λ (n : ℕ). record { 0 = n }) (let same : length types + (t.0 - length types) ≡ t.0 = omega (arith, high) in same)

  own_signed_of : (t : TypeId) → 10 ≤ t.0 → t.0 < length e.types → (w : Word) (u : Meant) → own_meant e t w ≡ Some u → (s : Signature) × (env.signature e u.home u.number ≡ Some s)
  own_signed_of t high there w u is = by (cases_lt t.0 (length types))
    where
      new : (j : ℕ) → record { 0 = length types + j } ≡ t → length types + j < length e.types →
          ((d : TypeDef) × (slice_get (type_defs m.decls) j ≡ Some d) × IsObject d.value) ⊎ ((d : TypeDef) → slice_get (type_defs m.decls) j ≡ Some d → IsObject d.value → ⊥) →
          (s : Signature) × (env.signature e u.home u.number ≡ Some s)
      new j same below (inl k) = signed_here j k.0 k.1 k.2 below w u (ap (λ v. own_meant e v w) same ∙ is)
      new j same below (inr never) =
          let x = some_there xs j (omega (arith, below, long)) in
          absurd (none-some u (sym (nothing_meant j x.0 x.1 never w) ∙ ap (λ v. own_meant e v w) same ∙ is))

      by : (t.0 < length types) ⊎ (length types ≤ t.0) → (s : Signature) × (env.signature e u.home u.number ≡ Some s)
      by (inl below) =
          let has = old_own t high below in
          let one = own_at e modules objects t (own_words e t) (own_of t) has.are w (has.only w u is) in
          let same : one.1.meaning ≡ u = same_Some one.1.meaning u (sym one.1.found ∙ is) in
          (one.1.typed.signature, ap (λ (z : Meant). env.signature e z.home z.number) (sym same) ∙ one.1.typed.is)
      by (inr past) = let j = t.0 - length types in new j (behind_types t past) (omega (arith, there, past)) (kind_of j)

  signed_by : (n : ℕ) (t : TypeId) → (above e ready).rank t < n → 10 ≤ t.0 → t.0 < length e.types → (w : Word) (u : Meant) → meant e t w ≡ Some u →
      (s : Signature) × (env.signature e u.home u.number ≡ Some s)
  signed_by zero t less high there w u is = absurd (omega (arith, less))
  signed_by (suc n) t less high there w u is =
      by (own_meant e t w) refl (base_of (row_of e.types t)) refl (sym (meant_is e ready t there w) ∙ is)
      (λ b base. let falls = base_falls e.types e.types (λ k l. refl) (above e ready) (bases_there e.types ready) t b base in
      signed_by n b (omega (arith, falls, less)) (bases_high e.types ready t b base) (bases_there e.types ready t b base) w u)
    where
      by : (o : Option Meant) → own_meant e t w ≡ o → (b : Option TypeId) → base_of (row_of e.types t) ≡ b → option_or o (meant_behind e b w) ≡ Some u →
          ((b : TypeId) → base_of (row_of e.types t) ≡ Some b → meant e b w ≡ Some u → (s : Signature) × (env.signature e u.home u.number ≡ Some s)) →
          (s : Signature) × (env.signature e u.home u.number ≡ Some s)
      by (Some v) here b base is deeper = own_signed_of t high there w u (here ∙ is)
      by None here None base is deeper = absurd (none-some u is)
      by None here (Some b) base is deeper = deeper b base is

  pub all_own : (t : TypeId) → 10 ≤ t.0 → t.0 < length e.types → HasOwn e modules objects t
  all_own t high there = by (cases_lt t.0 (length types))
    where
      new : (j : ℕ) → record { 0 = length types + j } ≡ t → length types + j < length e.types →
          ((d : TypeDef) × (slice_get (type_defs m.decls) j ≡ Some d) × IsObject d.value) ⊎ ((d : TypeDef) → slice_get (type_defs m.decls) j ≡ Some d → IsObject d.value → ⊥) →
          HasOwn e modules objects t
      new j same below (inl k) =
          subst (HasOwn e modules objects) same
          (new_own j k.0 k.1 k.2 below (λ b base w u is.
          signed_by (suc ((above e ready).rank b)) b (omega arith) (bases_high e.types ready (record { 0 = length types + j }) b base) (bases_there e.types ready (record { 0 = length types + j }) b base) w u is))
      new j same below (inr never) = let x = some_there xs j (omega (arith, below, long)) in subst (HasOwn e modules objects) same (plain_own j x.0 x.1 never)

      by : (t.0 < length types) ⊎ (length types ≤ t.0) → HasOwn e modules objects t
      by (inl below) = old_own t high below
      by (inr past) = let j = t.0 - length types in new j (behind_types t past) (omega (arith, there, past)) (kind_of j)
