-- Where a name's number isn't among those of what a type declares, the type itself declares neither such a field nor such a method.
use Rattle.std.proofs.Common.{◌≡◌, ℕ, ◌+◌, List, [], ◌∷◌, ◌++◌, length, Bool, true, false, cond, ◌||◌, bytes_eq, Option, Some, None, option_map, option_and_then, slice_get, refl, ap, ◌∙◌, sym, arith}
use Rattle.std.specs.Prelude.{filter, ◌==◌}
use Rattle.std.specs.List.{list_any}
use Rattle.std.specs.Map.{lookup}
use Rattle.std.specs.Option.{option_or}
use Rattle.std.proofs.lemmas.Bool.{true≢false}
use Rattle.std.proofs.lemmas.Cmp.{nat_eq_equiv}
use Rattle.std.proofs.lemmas.List.FromFn.{map-range_with_len_more, length-map-range_with_len, get_or-map-range_with_len}
use Rattle.std.proofs.lemmas.Option.{none-some, same_Some, slice_get_within, get_or_from_slice_get}
use Rattle.std.proofs.lemmas.Slice.Eq.{bytes_eq-Decides}
use Rattle.aos_tree.specs.declared.name.Name.{Name}
use Rattle.aos_tree.specs.declared.decl.Export.{Export}
use Rattle.aos_types.specs.declared.row.TypeId.{TypeId}
use Rattle.aos_types.specs.Table.{row_of as row_in, is_object as is_object_in}
use Rattle.aos_symbols.specs.declared.env.Env.{Env}
use Rattle.aos_symbols.specs.declared.home.ObjectScope.{ObjectScope}
use Rattle.aos_members.specs.declared.members.Members.{Members as Numbered}
use Rattle.aos_symbols.specs.declared.scope.Entry.{Entry}
use Rattle.aos_symbols.specs.declared.scope.Meaning.{Meaning}
use Rattle.aos_symbols.specs.declared.scope.Meaning.TheVariants as means
use Rattle.aos_symbols.specs.Spelling.{word}
use Rattle.aos_symbols.specs.Scope.{Named, Scope, find, is_variable, is_procedure, fields_of as fields_in, place_of, places_in}
use Rattle.aos_symbols.specs.Home.{Home, fields_of}
use Rattle.aos_symbols.specs.Env.{declared_at, scope}
use Rattle.aos_members.specs.Members.{field_in, field_or, field_among, own_field, method_meant, own_method, own_methods, object, object_place, scope_methods, scope_among, scope_fields, own_fields, of_each, AreMembers, among, may_declare}

-- the numbers of one type more
pub of_each_more : (f : TypeId → List ℕ) (n : ℕ) → of_each f n ++ f (record { 0 = n }) ∷ [] ≡ of_each f (n + 1)
of_each_more f n = sym (map-range_with_len_more (λ k. f (record { 0 = k })) 0 n n (omega arith))

-- a number isn't among those of a type
among_none : (f : TypeId → List ℕ) (n : ℕ) (t : TypeId) (p : ℕ) → may_declare (of_each f n) t p ≡ false → list_any (λ k. k == p) (f t) ≡ false
among_none f n t p none = by (slice_get (of_each f n) t.0) refl none
  where
    by : (o : Option (List ℕ)) → slice_get (of_each f n) t.0 ≡ o → among o p ≡ false → list_any (λ k. k == p) (f t) ≡ false
    by None is none = absurd (true≢false none)
    by (Some ks) is none =
        let within = slice_get_within (of_each f n) t.0 ks is in
        let long = length-map-range_with_len (λ k. f (record { 0 = k })) 0 n in
        let same : ks ≡ f t =
        sym (get_or_from_slice_get (of_each f n) t.0 ks [] is)
        ∙ get_or-map-range_with_len (λ k. f (record { 0 = k })) 0 n t.0 t.0 [] (omega (arith, within, long)) (omega arith) in
        ap (λ l. list_any (λ k. k == p) l) (sym same) ∙ none

or_none : (a b : Bool) → (a || b) ≡ false → b ≡ false
or_none true b none = absurd (true≢false none)
or_none false b none = none

after_none : {A : Type 0} (f : Entry → Option A) (o : Option Entry) → o ≡ None → option_and_then f o ≡ None
after_none f None is = refl
after_none f (Some x) is = absurd (none-some x (sym is))

after_some : {A : Type 0} (f : Entry → Option A) (o : Option Entry) (x : Entry) → o ≡ Some x → f x ≡ None → option_and_then f o ≡ None
after_some f None x is none = absurd (none-some x is)
after_some f (Some y) x is none = ap f (same_Some y x is) ∙ none

module _ (words : Scope) (w : List ℕ) where
  -- the word's number isn't among those of these names
  abbrev Apart : List Named → Type 0
  Apart ns = list_any (λ k. k == place_of words w) (places_in words ns) ≡ false

  -- a word that isn't among the names of a kind is no name of that kind
  not_kind : (kind : Meaning → Bool) (es : List Named) → Apart (filter (λ n. kind n.1.means) es) → (x : Entry) →
      lookup (λ k. bytes_eq w k) es ≡ Some x → kind x.means ≡ false
  not_kind kind [] none x is = absurd (none-some x is)
  not_kind kind (n ∷ es) none x is = by (bytes_eq w n.0) (kind n.1.means) refl refl (not_kind kind es) none is
    where
      rest : List Named
      rest = filter (λ m. kind m.1.means) es

      by : (b c : Bool) → bytes_eq w n.0 ≡ b → kind n.1.means ≡ c →
          (Apart rest → (y : Entry) → lookup (λ k. bytes_eq w k) es ≡ Some y → kind y.means ≡ false) →
          Apart (cond c (n ∷ rest) rest) → cond b (Some n.1) (lookup (λ k. bytes_eq w k) es) ≡ Some x → kind x.means ≡ false
      by true true same kept more none is =
          let equal : (place_of words n.0 == place_of words w) ≡ true =
          ap (λ v. place_of words n.0 == place_of words v) ((bytes_eq-Decides w n.0).0 same) ∙ nat_eq_equiv.refl (place_of words n.0) in
          absurd (true≢false (ap (λ b. b || list_any (λ k. k == place_of words w) (places_in words rest)) (sym equal) ∙ none))
      by true false same other more none is = ap (λ e. kind e.means) (sym (same_Some n.1 x is)) ∙ other
      by false true differ kept more none is =
          more (or_none (place_of words n.0 == place_of words w) (list_any (λ k. k == place_of words w) (places_in words rest)) none) x is
      by false false differ other more none is = more none x is

  no_field_in : (own : Bool) (s : Scope) → Apart (fields_in s) → field_in own s w ≡ None
  no_field_in own s none = by (find s w) refl
    where
      meant : (mark : Option Export) (m : Meaning) → is_variable m ≡ false → find s w ≡ Some (record { mark = mark; means = m }) → field_in own s w ≡ None
      meant mark (means.Variable k) other is = absurd (true≢false other)
      meant mark m other is = after_some _ (find s w) (record { mark = mark; means = m }) is refl

      by : (o : Option Entry) → find s w ≡ o → field_in own s w ≡ None
      by None is = after_none _ (find s w) is
      by (Some x) is = meant x.mark x.means (not_kind is_variable s.entries none x is) is

  -- no module's scope of a type has such a field
  none_among : (is_object : Bool) (hs : List Home) (t : TypeId) → Apart (scope_fields (scope_among is_object hs t)) → field_among is_object hs t w ≡ None
  none_among is_object [] t none = refl
  none_among is_object (h ∷ hs) t none = by (fields_of is_object h t) (none_among is_object hs t) none
    where
      by : (o : Option Scope) → (Apart (scope_fields (scope_among is_object hs t)) → field_among is_object hs t w ≡ None) →
          Apart (scope_fields (option_or o (scope_among is_object hs t))) → field_or false w (field_among is_object hs t w) o ≡ None
      by None more none = more none
      by (Some s) more none = no_field_in false s none

  module _ (e : Env) (t : TypeId) where
    no_own_field : (n : Name) → word e.here.text n ≡ w → Apart (own_fields e t) → own_field e t n ≡ None
    no_own_field n is none =
        ap (λ v. field_or true v (field_among is_object e.before t v) (fields_of is_object e.here t)) is ∙ by (fields_of is_object e.here t) none
      where
        is_object : Bool
        is_object = is_object_in (row_in e.types t)

        by : (o : Option Scope) → Apart (scope_fields (option_or o (scope_among is_object e.before t))) →
            field_or true w (field_among is_object e.before t w) o ≡ None
        by None none = none_among is_object e.before t none
        by (Some s) none = no_field_in true s none

    no_own_method : Apart (own_methods e t) → own_method e t w ≡ None
    no_own_method none = by (object e t) none
      where
        meant : (o : ObjectScope) (mark : Option Export) (m : Meaning) → is_procedure m ≡ false →
            method_meant e t o (declared_at (object_place o) (record { mark = mark; means = m })) ≡ None
        meant o mark (means.Procedure k) other = absurd (true≢false other)
        meant o mark m other = refl

        found : (o : ObjectScope) (x : Option Entry) → ((y : Entry) → x ≡ Some y → is_procedure y.means ≡ false) →
            option_and_then (method_meant e t o) (option_map (declared_at (object_place o)) x) ≡ None
        found o None other = refl
        found o (Some x) other = meant o x.mark x.means (other x refl)

        in_scope : (o : ObjectScope) (s : Option Scope) → Apart (scope_methods s) →
            option_and_then (method_meant e t o) (option_map (declared_at (object_place o)) (option_and_then (λ s. find s w) s)) ≡ None
        in_scope o None none = refl
        in_scope o (Some s) none = found o (find s w) (not_kind is_procedure s.entries none)

        by : (o : Option ObjectScope) → Apart (scope_methods (option_and_then (λ o. scope e (object_place o)) o)) →
            option_and_then (λ o. option_and_then (method_meant e t o) (option_map (declared_at (object_place o))
            (option_and_then (λ s. find s w) (scope e (object_place o))))) o ≡ None
        by None none = refl
        by (Some o) none = in_scope o (scope e (object_place o)) none

module _ (e : Env) (all : Numbered) (t : TypeId) (p : ℕ) where
  pub no_field : (n : Name) → AreMembers e all → p ≡ place_of all.words (word e.here.text n) → may_declare all.fields.items t p ≡ false →
      None ≡ own_field e t n
  no_field n are is none =
      sym (no_own_field all.words (word e.here.text n) e t n refl
      (among_none (λ u. places_in all.words (own_fields e u)) (length e.types) t (place_of all.words (word e.here.text n))
      (ap (λ l. may_declare l t (place_of all.words (word e.here.text n))) (sym are.fields) ∙ ap (λ q. may_declare all.fields.items t q) (sym is) ∙ none)))

  pub no_method : (w : List ℕ) → AreMembers e all → p ≡ place_of all.words w → may_declare all.methods.items t p ≡ false → None ≡ own_method e t w
  no_method w are is none =
      sym (no_own_method all.words w e t
      (among_none (λ u. places_in all.words (own_methods e u)) (length e.types) t (place_of all.words w)
      (ap (λ l. may_declare l t (place_of all.words w)) (sym are.methods) ∙ ap (λ q. may_declare all.methods.items t q) (sym is) ∙ none)))
