-- A walk over declarations in a module's environment, and what is told of types on it.
use Rattle.std.proofs.Common.{◌≡◌, ℕ, ◌<◌, ◌≤◌, nat_eq, List, [], ◌∷◌, ◌++◌, length, replicate, ◌==◌, true, false, Option, Some, None, slice_get, slice_set}
use Rattle.aos_base.specs.declared.text.Pos.{Pos}
use Rattle.aos_tree.specs.declared.decl.TypeDef.{TypeDef}
use Rattle.aos_types.specs.declared.row.TypeId.{TypeId}
use Rattle.aos_types.specs.declared.row.TypeRow.{TypeRow}
use Rattle.aos_types.specs.declared.row.TypeRow.TheVariants as row
use Rattle.aos_types.specs.Table.{is_open}
use Rattle.aos_types.specs.Chain.{base_list, IsOneOf}
use Rattle.aos_types.specs.Count.{named_in}
use Rattle.std.specs.Map.{lookup}
use Rattle.aos_symbols.specs.declared.home.ObjectScope.{ObjectScope}
use Rattle.aos_symbols.specs.declared.env.Claim.{Claim}
use Rattle.aos_symbols.specs.declared.env.Claim.TheVariants as claim
use Rattle.aos_symbols.specs.Declarations.{single_variables, inner_decls}
use Rattle.aos_symbols.specs.Scope.{Named, Scope}
use Rattle.aos_symbols.specs.Home.{Home, add_record, object_of}
use Rattle.aos_check_decl.specs.Types as judge
use Rattle.aos_symbols.specs.Env.{nil}
use Rattle.aos_check_types.specs.Limits.{may_be_target}
use Rattle.aos_check_decl.proofs.ObjectTypes.{IsObject}
use Rattle.aos_check_decl.proofs.TypingNames.{IsBasicNumber, AreOwnNamed, AreOthersNamed}
use Rattle.aos_check_decl.proofs.TypingScopes.{AreGood, names_at, variables_at}
use Rattle.aos_made_types.proofs.TypingClaims.{AreOfBase, AreOfObject, IsAskedResult}
use Rattle.aos_check_decl.proofs.TypingFields.{IsNoRecord, IsRow, Leads}

-- no object type has this number
abbrev pub IsBareAmong : List (ℕ × ObjectScope) → TypeId → Type 0
IsBareAmong os t = (o : ObjectScope) → lookup (λ k. nat_eq t.0 k) os ≡ Some o → ⊥

-- A walk: the module's number, the modules before it, its name and text, its scopes as its names make them, how many of them are those of
-- types, and the first table of types; and what is told of types. `Known` is told of the types of variables, elements, fields and bases,
-- `There` of those of parameters and of what pointers lead to, `Stands` of records and arrays behind pointers that have no names, `IsSlot`
-- of the numbers of definitions, `IsNumber` of the number of one of them, `GoesTo` of two tables, one before the other, `Agrees` of a table, the fields of record types that the
-- module knows and what it asks, `AreAll` of a type's variables and the types in its row, and `Filled` of a table and the scopes in which
-- the fields of object types stand, which are among those of types; the object type of a scope declares so many `fields`.
pub record Telling : Type 1 where
  pub number : ℕ
  pub before : List Home
  pub name : List ℕ
  pub text : List ℕ
  pub scopes : List Scope
  pub inner : ℕ
  pub first : List TypeRow
  pub Known : List TypeRow → Option TypeId → Type 0
  pub There : List TypeRow → Option TypeId → Type 0
  pub Stands : List TypeRow → TypeId → Type 0
  pub GoesTo : List TypeRow → List TypeRow → Type 0
  pub IsSlot : TypeId → Type 0
  pub stays : (ts : List TypeRow) → GoesTo ts ts
  pub on : (ts us vs : List TypeRow) → GoesTo ts us → GoesTo us vs → GoesTo ts vs
  pub known_on : (ts us : List TypeRow) → GoesTo ts us → (of : Option TypeId) → Known ts of → Known us of
  pub there_on : (ts us : List TypeRow) → GoesTo ts us → (of : Option TypeId) → There ts of → There us of
  pub known_there : (ts : List TypeRow) (of : Option TypeId) → Known ts of → There ts of
  pub none_there : (ts : List TypeRow) → There ts None → Known ts None
  pub basic : (ts : List TypeRow) → GoesTo first ts → (t : TypeId) → IsBasicNumber t.0 → Known ts (Some t)
  pub set : (ts : List TypeRow) (t : TypeId) (r : TypeRow) → GoesTo first ts → IsSlot t → is_open (Some r) ≡ false →
      ((p : TypeId) → IsOneOf p (named_in r) → There ts (Some p)) → GoesTo ts (slice_set ts t.0 r)
  pub unsettled : (ts : List TypeRow) (t : TypeId) → GoesTo first ts → IsSlot t → Known ts None → GoesTo ts (slice_set ts t.0 (row.Open nil))
  pub push : (ts : List TypeRow) (r : TypeRow) → ((p : TypeId) → IsOneOf p (named_in r) → There ts (Some p)) → GoesTo ts (ts ++ r ∷ [])
  pub pushed : (ts : List TypeRow) (r : TypeRow) → GoesTo first ts → is_open (Some r) ≡ false → Known (ts ++ r ∷ []) (Some (record { 0 = length ts }))
  pub pushed_open : (ts : List TypeRow) (t : TypeId) → GoesTo first ts → There (ts ++ row.Open t ∷ []) (Some (record { 0 = length ts }))
  pub pushed_stands : (ts : List TypeRow) (r : TypeRow) → GoesTo first ts → may_be_target (Some r) ≡ true → Stands (ts ++ r ∷ []) (record { 0 = length ts })
  pub Agrees : List TypeRow → List (ℕ × Scope) → List Claim → Type 0
  pub AreAll : List (Option TypeId) → List TypeId → Type 0
  pub none_all : AreAll [] []
  pub more_all : (ts : List TypeRow) (vs : List (Option TypeId)) (us : List TypeId) (n : ℕ) (of : Option TypeId) → Known ts of → AreAll vs us →
      AreAll (vs ++ replicate n of) (us ++ judge.fields_of n of)
  pub missing : (ts : List TypeRow) (vs : List (Option TypeId)) (us : List TypeId) → AreAll vs us → (length us == length vs) ≡ false → Known ts None
  pub any_all : (ts : List TypeRow) → Known ts None → (vs : List (Option TypeId)) (us : List TypeId) → AreAll vs us
  pub agree_set : (ts : List TypeRow) (rs : List (ℕ × Scope)) (cs : List Claim) (t : TypeId) (r : TypeRow) → GoesTo first ts → IsSlot t → is_open (Some r) ≡ false → IsNoRecord r →
      IsRow (λ p. There ts (Some p)) (λ p. Known ts (Some p) × IsAskedResult cs p) (Leads (Stands ts) cs) r → ((p : TypeId) → IsOneOf p (named_in r) → Known ts (Some p)) → Agrees ts rs cs → Agrees (slice_set ts t.0 r) rs cs
  pub agree_push : (ts : List TypeRow) (rs : List (ℕ × Scope)) (cs : List Claim) (r : TypeRow) → GoesTo first ts → is_open (Some r) ≡ false → IsNoRecord r →
      IsRow (λ p. There ts (Some p)) (λ p. Known ts (Some p) × IsAskedResult cs p) (Leads (Stands ts) cs) r → ((p : TypeId) → IsOneOf p (named_in r) → Known ts (Some p)) → Agrees ts rs cs → Agrees (ts ++ r ∷ []) rs cs
  pub agree_open : (ts : List TypeRow) (rs : List (ℕ × Scope)) (cs : List Claim) (t : TypeId) → GoesTo first ts → There ts (Some t) → Agrees ts rs cs →
      Agrees (ts ++ row.Open t ∷ []) rs cs
  pub agree_target : (ts : List TypeRow) (rs : List (ℕ × Scope)) (cs : List Claim) (at : Pos) (t : TypeId) → Agrees ts rs cs → Agrees ts rs (cs ++ claim.Target at t ∷ [])
  pub agree_result : (ts : List TypeRow) (rs : List (ℕ × Scope)) (cs : List Claim) (at : Pos) (t : TypeId) → Agrees ts rs cs → Agrees ts rs (cs ++ claim.Result at t ∷ [])
  pub agree_unsettled : (ts : List TypeRow) (rs : List (ℕ × Scope)) (cs : List Claim) (t : TypeId) → Known ts None → Agrees ts rs cs →
      Agrees (slice_set ts t.0 (row.Open nil)) rs cs
  pub agree_record_set : (ts : List TypeRow) (h : Home) (cs : List Claim) (t : TypeId) (base : Option TypeId) (us : List TypeId) (s : Scope) (ds : List Claim) →
      GoesTo first ts → IsSlot t → AreOfBase ds base t → ((p : TypeId) → IsOneOf p (base_list base ++ us) → Known ts (Some p)) → AreAll s.variables us →
      Agrees ts h.records cs → Agrees (slice_set ts t.0 (row.Record base us)) (add_record h t s).records (cs ++ ds)
  pub agree_record_push : (ts : List TypeRow) (h : Home) (cs : List Claim) (base : Option TypeId) (us : List TypeId) (s : Scope) (ds : List Claim) →
      GoesTo first ts → AreOfBase ds base (record { 0 = length ts }) → ((p : TypeId) → IsOneOf p (base_list base ++ us) → Known ts (Some p)) → AreAll s.variables us →
      Agrees ts h.records cs → Agrees (ts ++ row.Record base us ∷ []) (add_record h (record { 0 = length ts }) s).records (cs ++ ds)
  pub agree_object_set : (ts : List TypeRow) (rs : List (ℕ × Scope)) (cs : List Claim) (t : TypeId) (base : Option TypeId) (us : List TypeId) (ds : List Claim) →
      GoesTo first ts → IsSlot t → AreOfObject ds base t → ((p : TypeId) → IsOneOf p (base_list base ++ us) → Known ts (Some p)) →
      Agrees ts rs cs → Agrees (slice_set ts t.0 (row.Object base us)) rs (cs ++ ds)
  pub objects : List (ℕ × ObjectScope)
  pub fields : ℕ → ℕ
  pub IsNumber : TypeDef → TypeId → Type 0
  pub slot_of : (d : TypeDef) (t : TypeId) → IsNumber d t → IsSlot t
  pub bare : (d : TypeDef) (t : TypeId) → IsNumber d t → (IsObject d.value → ⊥) → IsBareAmong objects t
  pub many : (d : TypeDef) (t : TypeId) (o : ObjectScope) → IsNumber d t → lookup (λ k. nat_eq t.0 k) objects ≡ Some o →
      fields o.scope ≡ length (single_variables (inner_decls d.value))
  pub homes : (t : TypeId) (o : ObjectScope) → lookup (λ k. nat_eq t.0 k) objects ≡ Some o → o.home ≡ number
  pub others_objects : (m : ℕ) (h : Home) (t : TypeId) (o : ObjectScope) → slice_get before m ≡ Some h → object_of h t ≡ Some o → (o.home ≡ m) × (o.scope < h.first)
  pub places : (t : TypeId) (o : ObjectScope) → lookup (λ k. nat_eq t.0 k) objects ≡ Some o → (0 < o.scope) × (o.scope ≤ inner)
  pub inner_there : (k : ℕ) → k ≤ inner → (ns : List Named) × (names_at scopes k ≡ Some ns)
  pub Filled : List TypeRow → List Scope → Type 0
  pub filled_set : (ts : List TypeRow) (ss : List Scope) (t : TypeId) (r : TypeRow) → IsBareAmong objects t → Filled ts ss → Filled (slice_set ts t.0 r) ss
  pub filled_push : (ts : List TypeRow) (ss : List Scope) (r : TypeRow) → Filled ts ss → Filled (ts ++ r ∷ []) ss
  pub filled_scopes : (ts : List TypeRow) (ss ss' : List Scope) → ((j : ℕ) → 0 < j → j ≤ inner → variables_at ss' j ≡ variables_at ss j) → Filled ts ss → Filled ts ss'
  pub filled_placed : (ts : List TypeRow) (ss ss' : List Scope) (t : TypeId) (o : ObjectScope) (base : Option TypeId) (us : List TypeId) (vs : List (Option TypeId)) →
      GoesTo first ts → IsSlot t → lookup (λ k. nat_eq t.0 k) objects ≡ Some o → variables_at ss' o.scope ≡ Some vs →
      ((j : ℕ) → (j ≡ o.scope → ⊥) → variables_at ss' j ≡ variables_at ss j) → AreAll vs us → length vs ≡ fields o.scope → Filled ts ss →
      Filled (slice_set ts t.0 (row.Object base us)) ss'
  pub own : AreOwnNamed scopes (Known first)
  pub others : AreOthersNamed before (Known first)
  pub constants : (m : ℕ) (h : Home) (k : ℕ) (s : Scope) → slice_get before m ≡ Some h → slice_get h.scopes k ≡ Some s → AreGood s.constants
