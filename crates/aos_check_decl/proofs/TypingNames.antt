-- The type that a name stands for: what holds of the types of all entries that are searched, and of the basic types, holds of it.
use Rattle.std.proofs.Common.{◌≡◌, ℕ, ◌<◌, ◌≤◌, ◌==◌, List, [], Bool, true, false, Option, Some, None, option_map, option_and_then, slice_get, eq-eqb, refl, sym, ap, ◌∙◌, subst, arith, if◌then◌else◌}
use Rattle.std.proofs.lemmas.Bool.{cases_lt}
use Rattle.std.proofs.lemmas.Option.{none-some}
use mathlib.Core.Logic.{◌⊎◌, inl, inr}
use Rattle.aos_base.specs.declared.text.Pos.{Pos}
use Rattle.aos_tree.specs.declared.name.Name.{Name}
use Rattle.aos_tree.specs.declared.name.Qualident.{Qualident}
use Rattle.aos_types.specs.declared.row.TypeId.{TypeId}
use Rattle.aos_symbols.specs.declared.scope.Entry.{Entry}
use Rattle.aos_symbols.specs.declared.scope.Meaning.{Meaning}
use Rattle.aos_symbols.specs.declared.scope.Meaning.TheVariants as means
use Rattle.aos_symbols.specs.declared.env.Open.{Open}
use Rattle.aos_symbols.specs.declared.env.Symbol.{Symbol}
use Rattle.aos_symbols.specs.declared.env.Lookup.{Lookup}
use Rattle.aos_symbols.specs.declared.env.Lookup.TheVariants.{Unknown, NotExported, Found}
use Rattle.aos_symbols.specs.declared.env.Env.{Env}
use Rattle.aos_symbols.specs.Scope.{Scope, find}
use Rattle.aos_symbols.specs.Home.{Home}
use Rattle.aos_symbols.specs.Env as env
use Rattle.aos_symbols.proofs.Each.{Each}
use Rattle.aos_symbols.proofs.Holds.{Holds, broken}
use Rattle.aos_symbols.proofs.Lookups.{IsPredeclared, a_type, a_truth, a_function, a_routine, itself, IsOfAll, lookup_is, member_is}
use Rattle.aos_check_decl.specs.Types as judge
use Rattle.aos_check_decl.specs.Headings.{slot_meant, slot_in}
use Rattle.aos_check_decl.proofs.TypingScopes.{names_at, scope_at}

-- the numbers of the predeclared types that names stand for
abbrev pub IsBasicNumber : ℕ → Type 0
IsBasicNumber n = (n < 7) ⊎ (n ≡ 8)

basic_below : (n : ℕ) → n ≤ 8 → (n ≡ 7 → ⊥) → IsBasicNumber n
basic_below n le not_nil = by (cases_lt n 7)
  where
    by : (n < 7) ⊎ (7 ≤ n) → IsBasicNumber n
    by (inl low) = inl low
    by (inr high) = inr (omega (arith, le, high, not_nil))

-- a predeclared type is a basic one or ANY
predeclared_basic : (P : Option TypeId → Type 0) → ((t : TypeId) → IsBasicNumber t.0 → P (Some t)) → (m : Meaning) → IsPredeclared m →
    (of : Option TypeId) → m ≡ means.Type of → P of
predeclared_basic P basic m (a_type t le other) of e = subst P (same of e) (basic t (basic_below t.0 le other))
  where
    same : (of : Option TypeId) → means.Type (Some t) ≡ means.Type of → Some t ≡ of
    same of e = cc
predeclared_basic P basic m (a_truth b) of e = absurd (no_truth of e)
  where
    no_truth : (of : Option TypeId) → means.Truth b ≡ means.Type of → ⊥
    no_truth of e = cc
predeclared_basic P basic m (a_function f) of e = absurd (no_function of e)
  where
    no_function : (of : Option TypeId) → means.Function f ≡ means.Type of → ⊥
    no_function of e = cc
predeclared_basic P basic m (a_routine r) of e = absurd (no_routine of e)
  where
    no_routine : (of : Option TypeId) → means.Routine r ≡ means.Type of → ⊥
    no_routine of e = cc
predeclared_basic P basic m itself of e = absurd (no_other of e)
  where
    no_other : (of : Option TypeId) → means.Itself ≡ means.Type of → ⊥
    no_other of e = cc

-- in the scopes that are searched, entries of types have types of which this holds
abbrev pub AreNamed : Env → (Open → Type 0) → (Option TypeId → Type 0) → Type 0
AreNamed e Searched P = (o : Open) (s : Scope) (w : List ℕ) (x : Entry) → Searched o → env.scope e o ≡ Some s → find s w ≡ Some x →
    (of : Option TypeId) → x.means ≡ means.Type of → P of

-- The types that names stand for.

module _ (e : Env) (Searched : Open → Type 0) (P : Option TypeId → Type 0) (named : AreNamed e Searched P) (basic : (t : TypeId) → IsBasicNumber t.0 → P (Some t))
    (path : Each Searched e.path) (own : (m : ℕ) → Searched (env.own m)) where
  abbrev Names : Symbol → Type 0
  Names x = (of : Option TypeId) → x.means ≡ means.Type of → P of

  all_named : IsOfAll e Searched Names
  all_named = record {
    entries = λ o s w x searched there is of means. named o s w x searched there is of means;
    others = λ m is of means. predeclared_basic P basic m is of means;
  }

  abbrev MayName : Lookup → Type 0
  MayName l = (x : Symbol) → l ≡ Found x → Names x

  lookup_named : (n : Name) → MayName (env.lookup e n)
  lookup_named n = lookup_is e Searched Names all_named path n

  member_named : (m : ℕ) (n : Name) → MayName (env.member e m n)
  member_named m n = member_is e Searched Names all_named m (own m) n

  type_meant_sound : (m : Meaning) → ((of : Option TypeId) → m ≡ means.Type of → P of) → (at : Pos) → Holds P (judge.type_meant m at)
  type_meant_sound (means.Type of) is at = λ h. is of refl
  type_meant_sound (means.Constant k) is at = broken P _ [] _
  type_meant_sound (means.Variable k) is at = broken P _ [] _
  type_meant_sound (means.Procedure k) is at = broken P _ [] _
  type_meant_sound (means.Module k) is at = broken P _ [] _
  type_meant_sound means.Out is at = broken P _ [] _
  type_meant_sound (means.Truth b) is at = broken P _ [] _
  type_meant_sound (means.Function f) is at = broken P _ [] _
  type_meant_sound (means.Routine r) is at = broken P _ [] _
  type_meant_sound means.Proper is at = broken P _ [] _
  type_meant_sound means.Itself is at = broken P _ [] _
  type_meant_sound means.Other is at = broken P _ [] _

  type_found_sound : (l : Lookup) → MayName l → (at : Pos) → Holds P (judge.type_found l at)
  type_found_sound Unknown may at = broken P _ [] _
  type_found_sound NotExported may at = broken P _ [] _
  type_found_sound (Found x) may at = type_meant_sound x.means (λ of is. may x refl of is) at

  in_module_sound : (m : Meaning) (at : Pos) (n : Name) → Holds P (judge.type_in_module e m at n)
  in_module_sound (means.Module m) at n = type_found_sound (env.member e m n) (member_named m n) n.pos
  in_module_sound means.Out at n = broken P _ [] _
  in_module_sound (means.Type of) at n = broken P _ [] _
  in_module_sound (means.Constant k) at n = broken P _ [] _
  in_module_sound (means.Variable k) at n = broken P _ [] _
  in_module_sound (means.Procedure k) at n = broken P _ [] _
  in_module_sound (means.Truth b) at n = broken P _ [] _
  in_module_sound (means.Function f) at n = broken P _ [] _
  in_module_sound (means.Routine r) at n = broken P _ [] _
  in_module_sound means.Proper at n = broken P _ [] _
  in_module_sound means.Itself at n = broken P _ [] _
  in_module_sound means.Other at n = broken P _ [] _

  qualified_sound : (l : Lookup) (at : Pos) (n : Name) → Holds P (judge.qualified_type e l at n)
  qualified_sound Unknown at n = broken P _ [] _
  qualified_sound NotExported at n = broken P _ [] _
  qualified_sound (Found x) at n = in_module_sound x.means at n

  named_by : (first : Name) (second : Option Name) → Holds P (judge.named_type e (record { first = first; second = second }))
  named_by first None = type_found_sound (env.lookup e first) (lookup_named first) first.pos
  named_by first (Some n) = qualified_sound (env.lookup e first) first.pos n

  pub named_sound : (q : Qualident) → Holds P (judge.named_type e q)
  named_sound q = named_by q.first q.second

-- The number that a definition's name stands for: what holds of the types of the entries that are searched, and of all that are
-- predeclared, holds of it.

predeclared_slot : (P : TypeId → Type 0) → ((t : TypeId) → t.0 ≤ 8 → P t) → (m : Meaning) → IsPredeclared m → (t : TypeId) → slot_meant m ≡ Some t → P t
predeclared_slot P basic m (a_type u le other) t e = subst P (let same : u ≡ t = cc in same) (basic u le)
predeclared_slot P basic m (a_truth b) t e = absurd (cc)
predeclared_slot P basic m (a_function f) t e = absurd (cc)
predeclared_slot P basic m (a_routine r) t e = absurd (cc)
predeclared_slot P basic m itself t e = absurd (cc)

meant_slot : (P : TypeId → Type 0) (m : Meaning) → ((of : Option TypeId) → m ≡ means.Type of → (t : TypeId) → of ≡ Some t → P t) → (t : TypeId) → slot_meant m ≡ Some t → P t
meant_slot P (means.Type of) h t e = h of refl t e
meant_slot P (means.Constant k) h t e = absurd (cc)
meant_slot P (means.Variable k) h t e = absurd (cc)
meant_slot P (means.Procedure k) h t e = absurd (cc)
meant_slot P (means.Module k) h t e = absurd (cc)
meant_slot P means.Out h t e = absurd (cc)
meant_slot P (means.Truth b) h t e = absurd (cc)
meant_slot P (means.Function f) h t e = absurd (cc)
meant_slot P (means.Routine r) h t e = absurd (cc)
meant_slot P means.Proper h t e = absurd (cc)
meant_slot P means.Itself h t e = absurd (cc)
meant_slot P means.Other h t e = absurd (cc)

module _ (e : Env) (Searched : Open → Type 0) (P : TypeId → Type 0) (named : AreNamed e Searched (λ of. (t : TypeId) → of ≡ Some t → P t))
    (basic : (t : TypeId) → t.0 ≤ 8 → P t) (path : Each Searched e.path) where
  abbrev Slot : Symbol → Type 0
  Slot x = (t : TypeId) → slot_meant x.means ≡ Some t → P t

  all_slots : IsOfAll e Searched Slot
  all_slots = record {
    entries = λ o s w x searched there is. meant_slot P x.means (λ of means. named o s w x searched there is of means);
    others = λ m is. predeclared_slot P basic m is;
  }

  by_lookup : (l : Lookup) → ((x : Symbol) → l ≡ Found x → Slot x) → (t : TypeId) → slot_in l ≡ Some t → P t
  by_lookup Unknown h t e = absurd (cc)
  by_lookup NotExported h t e = absurd (cc)
  by_lookup (Found x) h t e = h x refl t e

  pub slot_sound : (n : Name) (t : TypeId) → slot_in (env.lookup e n) ≡ Some t → P t
  slot_sound n = by_lookup (env.lookup e n) (lookup_is e Searched Slot all_slots path n)

-- The scopes that are searched in a module's environment: its own ones, and of other modules their own scopes and those of their types.

abbrev pub IsOuter : List Home → Open → Type 0
IsOuter before o = (h : Home) → slice_get before o.home ≡ Some h → o.scope < h.first

abbrev pub IsSearchedIn : (number : ℕ) → List Home → Open → Type 0
IsSearchedIn number before o = (o.scope ≡ 0) ⊎ ((o.home ≡ number) ⊎ IsOuter before o)

abbrev pub AreOwnNamed : List Scope → (Option TypeId → Type 0) → Type 0
AreOwnNamed scopes P = (k : ℕ) (s : Scope) (w : List ℕ) (x : Entry) (of : Option TypeId) → slice_get scopes k ≡ Some s →
    find s w ≡ Some x → x.means ≡ means.Type of → P of

abbrev pub AreOthersNamed : List Home → (Option TypeId → Type 0) → Type 0
AreOthersNamed before P = (m : ℕ) (h : Home) (k : ℕ) (s : Scope) (w : List ℕ) (x : Entry) (of : Option TypeId) → slice_get before m ≡ Some h →
    (k ≡ 0) ⊎ (k < h.first) → slice_get h.scopes k ≡ Some s → find s w ≡ Some x → x.means ≡ means.Type of → P of

module _ (number : ℕ) (before : List Home) (scopes : List Scope) (P : Option TypeId → Type 0) (own : AreOwnNamed scopes P) (others : AreOthersNamed before P)
    (e : Env) (number_is : e.number ≡ number) (before_is : e.before ≡ before) (names_are : (j : ℕ) → names_at e.here.scopes j ≡ names_at scopes j) where
  abbrev IsNamed : Scope → Type 0
  IsNamed s = (w : List ℕ) (x : Entry) → find s w ≡ Some x → (of : Option TypeId) → x.means ≡ means.Type of → P of

  named_here : (k : ℕ) (s : Scope) → slice_get e.here.scopes k ≡ Some s → IsNamed s
  named_here k s there w x found of means =
      let r = scope_at scopes k s.entries (sym (names_are k) ∙ ap (option_map (λ (z : Scope). z.entries)) there) in
      own k r.0 w x of r.1 (ap (λ ns. find (record r.0 { entries = ns }) w) r.2 ∙ found) means

  named_before : (o : Open) (s : Scope) → ((h : Home) → slice_get before o.home ≡ Some h → (o.scope ≡ 0) ⊎ (o.scope < h.first)) → (h : Option Home) →
      slice_get e.before o.home ≡ h → option_and_then (λ h. slice_get h.scopes o.scope) h ≡ Some s → IsNamed s
  named_before o s outer None at there w x found of means = absurd (none-some s there)
  named_before o s outer (Some h) at there w x found of means =
      let there_before = ap (λ hs. slice_get hs o.home) (sym before_is) ∙ at in
      others o.home h o.scope s w x of there_before (outer h there_before) there found means

  elsewhere : (o : Open) → (o.home == e.number) ≡ false → IsSearchedIn number before o → (h : Home) → slice_get before o.home ≡ Some h →
      (o.scope ≡ 0) ⊎ (o.scope < h.first)
  elsewhere o other (inl first) h there = inl first
  elsewhere o other (inr (inl own)) h there = let here : (o.home == e.number) ≡ true = eq-eqb o.home e.number (own ∙ sym number_is) in absurd (cc)
  elsewhere o other (inr (inr outer)) h there = inr (outer h there)

  named_at : (o : Open) (s : Scope) → IsSearchedIn number before o → env.scope e o ≡ Some s → IsNamed s
  named_at o s searched there = by (o.home == e.number) refl there
    where
      by : (b : Bool) → (o.home == e.number) ≡ b → option_and_then (λ h. slice_get h.scopes o.scope) (if b then Some e.here else slice_get e.before o.home) ≡ Some s → IsNamed s
      by true own there = named_here o.scope s there
      by false other there = named_before o s (elsewhere o other searched) (slice_get e.before o.home) refl there

  pub all_named_in : AreNamed e (IsSearchedIn number before) P
  all_named_in o s w x searched there = named_at o s searched there w x
