-- The methods that an object type of a module declares: they stand beside it in the program, each in the slot of its name.
use Rattle.std.proofs.Common.{◌≡◌, ℕ, zero, suc, ◌+◌, ◌-◌, ◌<◌, List, [], ◌∷◌, ◌++◌, length, map, Bool, true, false, ◌||◌, if◌then◌else◌, Option, Some, None, is_some, option_map, option_and_then, slice_get, unwrap_or, refl, sym, ap, ap₂, ◌∙◌, subst, eq-eqb, arith}
use Rattle.std.specs.Option.{option_or}
use Rattle.std.specs.Str.{bytes_eq}
use Rattle.std.proofs.lemmas.Option.{none-some, same_Some, slice_get-map}
use Rattle.std.proofs.lemmas.Slice.Eq.{bytes_eq-Decides}
use Rattle.aos_tree.specs.declared.name.Name.{Name}
use Rattle.aos_tree.specs.declared.decl.Def.{Def}
use Rattle.aos_tree.specs.declared.decl.Decl.{Decl}
use Rattle.aos_tree.specs.declared.decl.Decl.TheVariants as decl
use Rattle.aos_tree.specs.declared.decl.TypeDef.{TypeDef}
use Rattle.aos_tree.specs.declared.module.Module.{Module as Tree}
use Rattle.aos_types.specs.declared.row.TypeId.{TypeId}
use Rattle.aos_types.specs.Table.{row_of, base_of}
use Rattle.aos_typed.specs.Methods.{initial_slot}
use Rattle.aos_typed.specs.Program.{Stats, Method as TypedMethod, ObjectType, Module}
use Rattle.aos_symbols.specs.declared.scope.Meaning.{Meaning}
use Rattle.aos_symbols.specs.declared.scope.Meaning.TheVariants as means
use Rattle.aos_entries.specs.declared.entries.Sort.TheVariants as sort
use Rattle.aos_symbols.specs.declared.home.ObjectScope.{ObjectScope}
use Rattle.aos_types.specs.declared.signature.Signature.{Signature}
use Rattle.aos_symbols.specs.declared.env.Symbol.{Symbol}
use Rattle.aos_members.specs.declared.objects.Method.{Method}
use Rattle.aos_symbols.specs.declared.env.Env.{Env}
use Rattle.aos_symbols.specs.Spelling.{word}
use Rattle.aos_symbols.specs.Declarations.{Procedure, whole_procedures_in, procedures_in, procedures, procedure_defs, methods_in, all_procedures, type_defs, inner_decls}
use Rattle.aos_entries.specs.Entries.{numbered, initial_from}
use Rattle.aos_symbols.specs.Home.{Home, slot_at}
use Rattle.aos_symbols.specs.Scope.{Named, Scope, find, is_procedure, place_of, places_in}
use Rattle.aos_members.specs.Members as members
use Rattle.aos_symbols.specs.Env as env
use Rattle.aos_symbols.proofs.Holds.{test_is}
use Rattle.aos_check_types.specs.Methods.{may_override, signature_of, override_breaches, method_breaches}
use Rattle.aos_check_decl.proofs.Typing.{AreReady, HasHeading}
use Rattle.aos_variables.specs.Parts.{variables_of}
use Rattle.aos_compile.specs.Modules.{procedure_of, procedures_of, slotted, method_beside}
use Rattle.aos_compile.proofs.MethodNames.{IsInner, AreOnce, once_first, once_rest}
use Rattle.aos_compile.proofs.MethodsStay.{own_meant_is, own_start_is, own_methods_are, in_home, start_in, named_in}
use Rattle.aos_types.specs.Signature.{may_stand}
use Rattle.aos_compile.proofs.ObjectScopes.{scope_at, methods_before, method_at}
use Rattle.aos_compile.proofs.Slots.{Word, index_in, index_is, words, fold_placed, is_in}
use Rattle.aos_compile.proofs.TypingMethods.{Meant, bare, meant_at, own_meant, own_start, IsStarted, meant, meant_behind, slot_words, words_behind, own_words, words_are, meant_is, IsOwn, AreOwnOf}
use Rattle.aos_compile.proofs.TypingProcedures.{IsSignature, heading_signature}

not_both : true ≡ false → ⊥
not_both e = cc

-- The names of procedures, and their definitions.

name_in : (d : Decl) → map (λ (p : Procedure). p.name) (whole_procedures_in d) ≡ map (λ (x : Def). x.name) (procedures_in d)
name_in (decl.Consts p cs) = refl
name_in (decl.Types' p shape row) = refl
name_in (decl.Vars' p shape row) = refl
name_in (decl.Proc' o shape row) = refl

-- procedures have the names of these definitions
abbrev pub AreNamed : List Def → List Procedure → Type 0
AreNamed [] [] = Unit {0}
AreNamed [] (p ∷ ps) = ⊥
AreNamed (d ∷ ds) [] = ⊥
AreNamed (d ∷ ds) (p ∷ ps) = (p.name ≡ d.name) × AreNamed ds ps

named_both : (ds es : List Def) (ps qs : List Procedure) → AreNamed ds ps → AreNamed es qs → AreNamed (ds ++ es) (ps ++ qs)
named_both [] es [] qs a b = b
named_both [] es (p ∷ ps) qs a b = absurd a
named_both (d ∷ ds) es [] qs a b = absurd a
named_both (d ∷ ds) es (p ∷ ps) qs a b = (a.0, named_both ds es ps qs a.1 b)

named_here : (d : Decl) → AreNamed (procedures_in d) (whole_procedures_in d)
named_here (decl.Consts p cs) = tt
named_here (decl.Types' p shape row) = tt
named_here (decl.Vars' p shape row) = tt
named_here (decl.Proc' o shape row) = (refl, tt)

pub are_named : (ds : List Decl) → AreNamed (procedure_defs ds) (procedures ds)
are_named [] = tt
are_named (d ∷ ds) = named_both (procedures_in d) (procedure_defs ds) (whole_procedures_in d) (procedures ds) (named_here d) (are_named ds)

named_at : (ds : List Def) (ps : List Procedure) → AreNamed ds ps → (i : ℕ) (d : Def) → slice_get ds i ≡ Some d → (p : Procedure) × (slice_get ps i ≡ Some p) × (p.name ≡ d.name)
named_at [] ps are i d is = absurd (none-some d is)
named_at (x ∷ ds) [] are i d is = absurd are
named_at (x ∷ ds) (p ∷ ps) are zero d is = (p, refl, are.0 ∙ ap (λ (z : Def). z.name) (same_Some x d is))
named_at (x ∷ ds) (p ∷ ps) are (suc i) d is = named_at ds ps are.1 i d is

def_at : (ds : List Def) (ps : List Procedure) → AreNamed ds ps → (i : ℕ) (p : Procedure) → slice_get ps i ≡ Some p → (d : Def) × (slice_get ds i ≡ Some d)
def_at ds [] are i p is = absurd (none-some p is)
def_at [] (q ∷ ps) are i p is = absurd are
def_at (x ∷ ds) (q ∷ ps) are zero p is = (x, refl)
def_at (x ∷ ds) (q ∷ ps) are (suc i) p is = def_at ds ps are.1 i p is

-- the first initializer among procedures is one of them
initial_found : (k : ℕ) (ps : List Procedure) (j : ℕ) → initial_from k ps ≡ Some j →
    (i : ℕ) × (p : Procedure) × (j ≡ k + i) × (slice_get ps i ≡ Some p) × (is_some p.initializer ≡ true)
initial_found k [] j found = absurd (none-some j found)
initial_found k (p ∷ ps) j found = by (is_some p.initializer) refl found (initial_found (suc k) ps j)
  where
    by : (b : Bool) → is_some p.initializer ≡ b → (if b then Some k else initial_from (suc k) ps) ≡ Some j →
        (initial_from (suc k) ps ≡ Some j → (i : ℕ) × (q : Procedure) × (j ≡ suc k + i) × (slice_get ps i ≡ Some q) × (is_some q.initializer ≡ true)) →
        (i : ℕ) × (q : Procedure) × (j ≡ k + i) × (slice_get (p ∷ ps) i ≡ Some q) × (is_some q.initializer ≡ true)
    by true is found more = (0, p, sym (same_Some k j found) ∙ (let same : k ≡ k + 0 = omega arith in same), refl, is)
    by false is found more =
        let one = more found in
        let number = one.2 in
        (suc one.0, one.1, omega (arith, number), one.3, one.4)

module _ (e : Env) (m : Tree) (j : ℕ) (d : TypeDef) (t : TypeId) where
  abbrev text : List ℕ
  text = e.here.text

  abbrev defs : List Def
  defs = procedure_defs (inner_decls d.value)

  abbrev pub first_method : ℕ
  first_method = length (procedures m.decls) + methods_before (type_defs m.decls) j

  abbrev pub object : ObjectScope
  object = scope_at e.number j first_method d

  -- the object type of a definition, in the module's environment
  pub record IsFound : Type 0 where
    pub there : slice_get (type_defs m.decls) j ≡ Some d
    pub found : members.object e t ≡ Some object
    pub scope : Scope
    pub scope_is : slice_get e.here.scopes (suc j) ≡ Some scope
    pub inner : IsInner text (inner_decls d.value) scope
    pub slots_is : slice_get e.here.slots j ≡ Some (members.own_slots e t)

  module _ (is : IsFound) (ready : AreReady e.types) (below : t.0 < length e.types)
      (headings : (i : ℕ) (p : Procedure) → slice_get (all_procedures m.decls) i ≡ Some p → HasHeading m e i p) where
    here : env.home e e.number ≡ Some e.here
    here = ap (λ b. if b then Some e.here else slice_get e.before e.number) (eq-eqb e.number e.number refl)

    scope_found : members.object_scope e t ≡ Some is.scope
    scope_found =
        ap (option_and_then (λ o. env.scope e (members.object_place o))) is.found
        ∙ ap (option_and_then (λ (h : Home). slice_get h.scopes (suc j))) here ∙ is.scope_is

    methods_are : members.own_methods e t ≡ numbered text sort.Procedure 0 defs
    methods_are = own_methods_are e t ∙ ap (named_in e) scope_found ∙ is.inner.methods

    numbered_words : (k : ℕ) (ds : List Def) → words (numbered text sort.Procedure k ds) ≡ map (λ (x : Def). word text x.name) ds
    numbered_words k [] = refl
    numbered_words k (x ∷ ds) = ap (λ l. word text x.name ∷ l) (numbered_words (suc k) ds)

    pub words_of : own_words e t ≡ map (λ (x : Def). word text x.name) defs
    words_of = ap words methods_are ∙ numbered_words 0 defs

    abbrev meaning : ℕ → Meant
    meaning i = record { home = e.number; number = first_method + i; slot = slot_at e.here object i }

    found_as : (i : ℕ) (x : Def) → slice_get defs i ≡ Some x → own_meant e t (word text x.name) ≡ Some (meaning i)
    found_as i x at =
        own_meant_is e t (word text x.name)
        ∙ ap (option_and_then (λ o. in_home e o (word text x.name) (env.home e o.home))) is.found
        ∙ ap (in_home e object (word text x.name)) here
        ∙ ap (λ s. option_and_then (λ (y : Symbol). meant_at (Some e.here) object y.means) (option_map (env.declared_at (members.object_place object)) (option_and_then (λ s. find s (word text x.name)) s))) is.scope_is
        ∙ ap (λ s. option_and_then (λ (y : Symbol). meant_at (Some e.here) object y.means) (option_map (env.declared_at (members.object_place object)) s)) (is.inner.found i x at)

    -- its slot is the place of its name
    indexed : (i : ℕ) (x : Def) → slice_get defs i ≡ Some x → (k : ℕ) × (index_in (slot_words e t) (word text x.name) ≡ Some k)
    indexed i x at =
        let word_at : slice_get (own_words e t) i ≡ Some (word text x.name) =
        ap (λ l. slice_get l i) words_of ∙ slice_get-map (λ (x : Def). word text x.name) defs i ∙ ap (option_map (λ (x : Def). word text x.name)) at in
        let k = fold_placed (own_words e t) (words_behind e (base_of (row_of e.types t))) (word text x.name) i word_at in
        (k.0, ap (λ ws. index_in ws (word text x.name)) (words_are e ready t below) ∙ k.1)

    placed_at : (ns : List Named) (i : ℕ) (w : Word) → slice_get (words ns) i ≡ Some w → slice_get (places_in (members.all_methods e t) ns) i ≡ Some (place_of (members.all_methods e t) w)
    placed_at [] i w at = absurd (none-some w at)
    placed_at (n ∷ ns) zero w at = ap (λ v. Some (place_of (members.all_methods e t) v)) (same_Some n.0 w at)
    placed_at (n ∷ ns) (suc i) w at = placed_at ns i w at

    slot_is : (i : ℕ) (x : Def) → slice_get defs i ≡ Some x → index_in (slot_words e t) (word text x.name) ≡ Some (slot_at e.here object i)
    slot_is i x at =
        let w = word text x.name in
        let k = indexed i x at in
        let word_at : slice_get (own_words e t) i ≡ Some w =
        ap (λ l. slice_get l i) words_of ∙ slice_get-map (λ (x : Def). word text x.name) defs i ∙ ap (option_map (λ (x : Def). word text x.name)) at in
        let place : place_of (members.all_methods e t) w ≡ k.0 = ap (λ o. unwrap_or o 0) (index_is w (slot_words e t) ∙ k.1) in
        let number : suc j - 1 ≡ j = omega arith in
        let slot : slot_at e.here object i ≡ place_of (members.all_methods e t) w =
        ap (λ n. unwrap_or (option_and_then (λ ks. slice_get ks i) (slice_get e.here.slots n)) 0) number
        ∙ ap (λ ks. unwrap_or (option_and_then (λ ks. slice_get ks i) ks) 0) is.slots_is
        ∙ ap (λ o. unwrap_or o 0) (placed_at (members.own_methods e t) i w word_at) in
        k.1 ∙ ap (λ n. Some n) (sym place ∙ sym slot)

    -- the heading of a method
    headed : (i : ℕ) (x : Def) → slice_get defs i ≡ Some x → (p : Procedure) × (slice_get (methods_in d) i ≡ Some p) × HasHeading m e (first_method + i) p
    headed i x at =
        let one = named_at defs (methods_in d) (are_named (inner_decls d.value)) i x at in
        (one.0, one.1, headings (first_method + i) one.0 (method_at m.decls j d i one.0 is.there one.1))

    signature_at : (i : ℕ) (s : Signature) → slice_get e.here.signatures (first_method + i) ≡ Some s → env.signature e e.number (first_method + i) ≡ Some s
    signature_at i s at = ap (option_and_then (λ (h : Home). slice_get h.signatures (first_method + i))) here ∙ at

    -- what its scope finds as a method is one of these
    in_words : (vs : List Word) (w : Word) → is_in vs w ≡ true → (i : ℕ) × (slice_get vs i ≡ Some w)
    in_words [] w is = absurd (not_both (sym is))
    in_words (v ∷ vs) w is = by (bytes_eq w v) refl is (in_words vs w)
      where
        by : (b : Bool) → bytes_eq w v ≡ b → (b || is_in vs w) ≡ true → (is_in vs w ≡ true → (i : ℕ) × (slice_get vs i ≡ Some w)) → (i : ℕ) × (slice_get (v ∷ vs) i ≡ Some w)
        by true same is deeper = (0, ap (λ u. Some u) (sym ((bytes_eq-Decides w v).0 same)))
        by false other is deeper = let one = deeper is in (suc one.0, one.1)

    some_of : {A B : Type 0} (f : A → Option B) (o : Option A) (b : B) → option_and_then f o ≡ Some b → (a : A) × (o ≡ Some a) × (f a ≡ Some b)
    some_of f None b found = absurd (none-some b found)
    some_of f (Some a) b found = (a, refl, found)

    some_map : {A B : Type 0} (f : A → B) (o : Option A) (b : B) → option_map f o ≡ Some b → (a : A) × (o ≡ Some a) × (f a ≡ b)
    some_map f None b found = absurd (none-some b found)
    some_map f (Some a) b found = (a, refl, same_Some (f a) b found)

    procedure_meant : (h : Option Home) (o : ObjectScope) (x : Meaning) (u : Meant) → meant_at h o x ≡ Some u → is_procedure x ≡ true
    procedure_meant h o (means.Procedure k) u is = refl
    procedure_meant h o x u is = absurd (none-some u is)

    pub only : (w : Word) (u : Meant) → own_meant e t w ≡ Some u → is_in (own_words e t) w ≡ true
    only w u found =
        let there = sym (own_meant_is e t w ∙ ap (option_and_then (λ o. in_home e o w (env.home e o.home))) is.found ∙ ap (in_home e object w) here
        ∙ ap (λ s. option_and_then (λ (y : Symbol). meant_at (Some e.here) object y.means) (option_map (env.declared_at (members.object_place object)) (option_and_then (λ s. find s w) s))) is.scope_is) ∙ found in
        let one = some_of (λ (y : Symbol). meant_at (Some e.here) object y.means) (option_map (env.declared_at (members.object_place object)) (find is.scope w)) u there in
        let two = some_map (env.declared_at (members.object_place object)) (find is.scope w) one.0 one.1 in
        let procedure : is_procedure two.0.means ≡ true = ap (λ (y : Symbol). is_procedure y.means) two.2 ∙ procedure_meant (Some e.here) object one.0.means u one.2 in
        ap (λ l. is_in (words l) w) (own_methods_are e t ∙ ap (named_in e) scope_found) ∙ is.inner.only w two.0 two.1 procedure

    some_def : (ds : List Def) (i : ℕ) (w : Word) → slice_get (map (λ (x : Def). word text x.name) ds) i ≡ Some w → (x : Def) × (slice_get ds i ≡ Some x) × (word text x.name ≡ w)
    some_def [] i w at = absurd (none-some w at)
    some_def (x ∷ ds) zero w at = (x, refl, same_Some (word text x.name) w at)
    some_def (x ∷ ds) (suc i) w at = some_def ds i w at

    -- each has a signature
    pub own_signed : (w : Word) (u : Meant) → own_meant e t w ≡ Some u → (s : Signature) × (env.signature e u.home u.number ≡ Some s)
    own_signed w u found =
        let i = in_words (own_words e t) w (only w u found) in
        let x = some_def defs i.0 w (ap (λ l. slice_get l i.0) (sym words_of) ∙ i.1) in
        let same : meaning i.0 ≡ u = same_Some (meaning i.0) u (sym (found_as i.0 x.0 x.1) ∙ ap (own_meant e t) x.2 ∙ found) in
        let h = (headed i.0 x.0 x.1).2 in
        (h.signature, ap (λ (z : Meant). env.signature e z.home z.number) (sym same) ∙ signature_at i.0 h.signature h.signature_is)

    -- Its initializer.

    started_is : own_start e t ≡ option_map meaning object.initial
    started_is =
        own_start_is e t
        ∙ ap (option_and_then (λ o. start_in e o (env.home e o.home))) is.found
        ∙ ap (start_in e object) here

    pub started : (modules : List Module) (objects : List ObjectType) (u : Meant) → own_start e t ≡ Some u → IsStarted e modules objects t u
    started modules objects u found =
        let one = some_map meaning object.initial u (sym started_is ∙ found) in
        let i = one.0 in
        let two = initial_found 0 (methods_in d) i one.1 in
        let number = two.2 in
        let place : two.0 ≡ i = omega (arith, number) in
        let at : slice_get (methods_in d) i ≡ Some two.1 = ap (slice_get (methods_in d)) (sym place) ∙ two.3 in
        let x = def_at defs (methods_in d) (are_named (inner_decls d.value)) i two.1 at in
        let h = headings (first_method + i) two.1 (method_at m.decls j d i two.1 is.there at) in
        record {
          name = word text x.0.name;
          found = found_as i x.0 x.1 ∙ ap (λ z. Some z) one.2;
          signature = h.signature;
          is = ap (λ (z : Meant). env.signature e z.home z.number) (sym one.2) ∙ signature_at i h.signature h.signature_is;
          mark = h.heading.mark ∙ two.4;
        }

    slots_meant : (o : Option ℕ) → option_map (slot_at e.here object) o ≡ option_map (λ (z : Meant). z.slot) (option_map meaning o)
    slots_meant None = refl
    slots_meant (Some i) = refl

    -- Rule 22.

    module _ (kept : (i : ℕ) (p : Procedure) → slice_get (methods_in d) i ≡ Some p → method_breaches e t p ≡ [])
        (signed : (b : TypeId) → base_of (row_of e.types t) ≡ Some b → (w : Word) (u : Meant) → meant e b w ≡ Some u → (s : Signature) × (env.signature e u.home u.number ≡ Some s)) where
      may : (n : Name) (a b : Option Method) → override_breaches e n a b ≡ [] → (x y : Method) → a ≡ Some x → b ≡ Some y → (s r : Signature) → env.signature e x.home x.number ≡ Some s → env.signature e y.home y.number ≡ Some r →
          may_stand e.types s r ≡ true
      may n None b none x y i k s r one two = absurd (none-some x i)
      may n (Some a) None none x y i k s r one two = absurd (none-some y k)
      may n (Some a) (Some b) none x y i k s r one two =
          let first : signature_of e a ≡ Some s = ap (signature_of e) (same_Some a x i) ∙ one in
          let second : signature_of e b ≡ Some r = ap (signature_of e) (same_Some b y k) ∙ two in
          sym (ap₂ (may_override e.types) first second) ∙ test_is (may_override e.types (signature_of e a) (signature_of e b)) 22 n.pos none

      overriding : (i : ℕ) (x : Def) → slice_get defs i ≡ Some x → (p : Procedure) → slice_get (methods_in d) i ≡ Some p → p.name ≡ x.name → (s : Signature) →
          env.signature e e.number (first_method + i) ≡ Some s → (u : Meant) → meant_behind e (base_of (row_of e.types t)) (word text x.name) ≡ Some u →
          (r : Signature) × (env.signature e u.home u.number ≡ Some r) × (may_stand e.types s r ≡ true)
      overriding i x at p there name s here_signed u found = by (base_of (row_of e.types t)) refl found
        where
          own : (y : Method) × (members.method_named e t (word text x.name) ≡ Some y) × (bare y ≡ meaning i)
          own =
              some_map bare (members.method_named e t (word text x.name)) (meaning i)
              (meant_is e ready t below (word text x.name) ∙ ap (λ o. option_or o (meant_behind e (base_of (row_of e.types t)) (word text x.name))) (found_as i x at))

          by : (b : Option TypeId) → base_of (row_of e.types t) ≡ b → meant_behind e b (word text x.name) ≡ Some u →
              (r : Signature) × (env.signature e u.home u.number ≡ Some r) × (may_stand e.types s r ≡ true)
          by None base found = absurd (none-some u found)
          by (Some b) base found =
              let up = some_map bare (members.method_named e b (word text x.name)) u found in
              let r = signed b base (word text x.name) u found in
              let m_is : members.method e t p.name ≡ Some own.0 = ap (λ n. members.method e t n) name ∙ own.1 in
              let u_is : members.upper e t p.name ≡ Some up.0 = ap (option_and_then (λ b. members.method e b p.name)) base ∙ ap (λ n. members.method e b n) name ∙ up.1 in
              let one : env.signature e own.0.home own.0.number ≡ Some s = ap (λ (z : Meant). env.signature e z.home z.number) own.2 ∙ here_signed in
              let two : env.signature e up.0.home up.0.number ≡ Some r.0 = ap (λ (z : Meant). env.signature e z.home z.number) up.2 ∙ r.1 in
              (r.0, r.1, may p.name (members.method e t p.name) (members.upper e t p.name) (kept i p there) own.0 up.0 m_is u_is s r.0 one two)

      -- The methods beside the type, one for each.

      module _ (modules : List Module) (objects : List ObjectType) (k first : ℕ) where
        abbrev beside : ℕ → List Procedure → List Signature → List Stats → List TypedMethod
        beside i ps ss bs = map (method_beside k) (slotted e.here object i (procedures_of text e.here.scopes (first + i) ps ss bs))

        is_own : (i : ℕ) (x : Def) (p : Procedure) (s : Signature) (b : Stats) → slice_get defs i ≡ Some x → slice_get (methods_in d) i ≡ Some p → p.name ≡ x.name →
            slice_get e.here.signatures (first_method + i) ≡ Some s → (variables : List (Option TypeId)) →
            IsOwn e modules objects t (word text x.name) (method_beside k (record { slot = slot_at e.here object i; procedure = procedure_of text p s variables b }))
        is_own i x p s b at there name signature variables =
            let h = headings (first_method + i) p (method_at m.decls j d i p is.there there) in
            let same : h.signature ≡ s = same_Some h.signature s (sym h.signature_is ∙ signature) in
            let whole = heading_signature e.types text p h.signature h.scope variables b h.heading in
            record {
              meaning = meaning i;
              found = found_as i x at;
              slot = refl;
              typed = record {
                signature = s;
                is = signature_at i s signature;
                typed =
                    let w = subst (λ (z : Signature). IsSignature e.types z (procedure_of text p z variables b)) same whole in
                    record { mark = w.mark; proper = w.proper; parameters = w.parameters; result = w.result; closed = w.closed };
              };
              place = slot_is i x at;
              keeps = λ u found. overriding i x at p there name s (signature_at i s signature) u found;
            }

        starts_are : (i : ℕ) (ps : List Procedure) (ss : List Signature) (bs : List Stats) → length bs ≡ length ps → ((n : ℕ) → slice_get ps n ≡ slice_get (methods_in d) (i + n)) →
            ((n : ℕ) → slice_get ss n ≡ slice_get e.here.signatures (first_method + (i + n))) → initial_slot (beside i ps ss bs) ≡ option_map (slot_at e.here object) (initial_from i ps)
        starts_are i [] ss bs many there signed = refl
        starts_are i (p ∷ ps) ss [] many there signed = absurd (omega (arith, many))
        starts_are i (p ∷ ps) [] (b ∷ bs) many there signed =
            let plus : i + 0 ≡ i = omega arith in
            let h = headings (first_method + i) p (method_at m.decls j d i p is.there (ap (slice_get (methods_in d)) (sym plus) ∙ sym (there 0))) in
            absurd (none-some h.signature (signed 0 ∙ ap (λ n. slice_get e.here.signatures (first_method + n)) plus ∙ h.signature_is))
        starts_are i (p ∷ ps) (s ∷ ss) (b ∷ bs) many there signed =
            let next = λ (n : ℕ). (let same : i + suc n ≡ suc i + n = omega arith in same) in
            by (is_some p.initializer)
            (ap (λ n. initial_slot (map (method_beside k) (slotted e.here object (suc i) (procedures_of text e.here.scopes n ps ss bs)))) (let same : suc (first + i) ≡ first + suc i = omega arith in same)
            ∙ starts_are (suc i) ps ss bs (omega (arith, many)) (λ n. there (suc n) ∙ ap (slice_get (methods_in d)) (next n)) (λ n. signed (suc n) ∙ ap (λ l. slice_get e.here.signatures (first_method + l)) (next n)))
          where
            by : (c : Bool) →
                initial_slot (map (method_beside k) (slotted e.here object (suc i) (procedures_of text e.here.scopes (suc (first + i)) ps ss bs))) ≡ option_map (slot_at e.here object) (initial_from (suc i) ps) →
                (if c then Some (slot_at e.here object i) else initial_slot (map (method_beside k) (slotted e.here object (suc i) (procedures_of text e.here.scopes (suc (first + i)) ps ss bs))))
                ≡ option_map (slot_at e.here object) (if c then Some i else initial_from (suc i) ps)
            by true more = refl
            by false more = more

        -- the first that is an initializer has the slot of that of the type
        pub starts : (ss : List Signature) (bs : List Stats) → length bs ≡ length (methods_in d) → ((n : ℕ) → slice_get ss n ≡ slice_get e.here.signatures (first_method + (0 + n))) →
            initial_slot (beside 0 (methods_in d) ss bs) ≡ option_map (λ (z : Meant). z.slot) (own_start e t)
        starts ss bs many signed =
            starts_are 0 (methods_in d) ss bs many (λ n. ap (slice_get (methods_in d)) (let same : n ≡ 0 + n = omega arith in same)) signed
            ∙ slots_meant object.initial
            ∙ ap (option_map (λ (z : Meant). z.slot)) (sym started_is)

        pub are_own : (i : ℕ) (ds : List Def) (ps : List Procedure) (ss : List Signature) (bs : List Stats) → AreNamed ds ps → length bs ≡ length ps →
            ((n : ℕ) → slice_get ds n ≡ slice_get defs (i + n)) → ((n : ℕ) → slice_get ps n ≡ slice_get (methods_in d) (i + n)) →
            ((n : ℕ) → slice_get ss n ≡ slice_get e.here.signatures (first_method + (i + n))) → AreOnce (map (λ (x : Def). word text x.name) ds) →
            AreOwnOf e modules objects t (map (λ (x : Def). word text x.name) ds) (beside i ps ss bs)
        are_own i [] [] ss bs named many at there signed once = tt
        are_own i [] (p ∷ ps) ss bs named many at there signed once = absurd named
        are_own i (x ∷ ds) [] ss bs named many at there signed once = absurd named
        are_own i (x ∷ ds) (p ∷ ps) ss [] named many at there signed once = absurd (omega (arith, many))
        are_own i (x ∷ ds) (p ∷ ps) [] (b ∷ bs) named many at there signed once =
            let plus : i + 0 ≡ i = omega arith in
            let h = headings (first_method + i) p (method_at m.decls j d i p is.there (ap (slice_get (methods_in d)) (sym plus) ∙ sym (there 0))) in
            absurd (none-some h.signature (signed 0 ∙ ap (λ n. slice_get e.here.signatures (first_method + n)) plus ∙ h.signature_is))
        are_own i (x ∷ ds) (p ∷ ps) (s ∷ ss) (b ∷ bs) named many at there signed once =
            let plus : i + 0 ≡ i = omega arith in
            let next = λ (n : ℕ). (let same : i + suc n ≡ suc i + n = omega arith in same) in (
              is_own i x p s b (ap (slice_get defs) (sym plus) ∙ sym (at 0)) (ap (slice_get (methods_in d)) (sym plus) ∙ sym (there 0)) named.0
                  (ap (λ n. slice_get e.here.signatures (first_method + n)) (sym plus) ∙ sym (signed 0)) (variables_of (slice_get e.here.scopes (first + i))),
              once_first (word text x.name) (map (λ (x : Def). word text x.name) ds) once,
              subst (λ n. AreOwnOf e modules objects t (map (λ (x : Def). word text x.name) ds) (map (method_beside k) (slotted e.here object (suc i) (procedures_of text e.here.scopes n ps ss bs))))
                  (let same : first + suc i ≡ suc (first + i) = omega arith in same)
                  (are_own (suc i) ds ps ss bs named.1 (omega (arith, many)) (λ n. at (suc n) ∙ ap (slice_get defs) (next n)) (λ n. there (suc n) ∙ ap (slice_get (methods_in d)) (next n))
                  (λ n. signed (suc n) ∙ ap (λ l. slice_get e.here.signatures (first_method + l)) (next n)) (once_rest (word text x.name) (map (λ (x : Def). word text x.name) ds) once)),
            )
