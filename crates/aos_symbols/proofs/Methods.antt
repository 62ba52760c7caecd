-- One more name of a scope, of which the procedures are methods.
use Rattle.std.proofs.Common.{◌≡◌, ◌≤◌, ℕ, zero, suc, List, [], ◌∷◌, ◌++◌, ◌+◌, length, map, take, take_all, add-one, Bool, true, false, cond, Option, Some, None, Bor, bytes_eq, slice_get, if◌then◌else◌, refl, ap, ◌∙◌, sym, append-nil}
use Rattle.std.specs.Prelude.{filter, position, nat_lt, not}
use Rattle.std.specs.List.{prefix_len}
use Rattle.std.proofs.lemmas.Option.{none-some, same_Some}
use Rattle.std.proofs.lemmas.List.{map-append}
use Rattle.std.proofs.lemmas.List.Sums.{fold-append}
use Rattle.aos_symbols.specs.declared.scope.Entry.{Entry}
use Rattle.aos_symbols.specs.Scope.{Named, Scope, with_name, with_names, is_procedure, if_method, methods_of, place_of, places_in, seen_names}

-- the methods among the first names of a scope
abbrev pub methods_before : Scope → ℕ → List Named
methods_before s i = filter (λ n. is_procedure n.1.means) (take i s.entries)

pub taken_none : (xs : List Named) (i : ℕ) → slice_get xs i ≡ None → take (suc i) xs ≡ take i xs
taken_none [] zero is = refl
taken_none [] (suc i) is = refl
taken_none (x ∷ xs) zero is = absurd (none-some x (sym is))
taken_none (x ∷ xs) (suc i) is = ap (λ z. x ∷ z) (taken_none xs i is)

-- of a name that is a method or isn't
abbrev pub one : Named → Bool → List Named
one n b = cond b (n ∷ []) []

module _ (p : Named → Bool) where
  pub filter_next : (xs : List Named) (i : ℕ) (x : Named) → slice_get xs i ≡ Some x → filter p (take (suc i) xs) ≡ filter p (take i xs) ++ one x (p x)
  filter_next [] i x is = absurd (none-some x is)
  filter_next (y ∷ ys) zero x is = by (p y) ∙ ap (λ z. one z (p z)) (same_Some y x is)
    where
      by : (b : Bool) → cond b (y ∷ []) [] ≡ one y b
      by b = refl
  filter_next (y ∷ ys) (suc i) x is = by (p y) (filter_next ys i x is)
    where
      by : (b : Bool) → filter p (take (suc i) ys) ≡ filter p (take i ys) ++ one x (p x) →
          cond b (y ∷ filter p (take (suc i) ys)) (filter p (take (suc i) ys)) ≡ cond b (y ∷ filter p (take i ys)) (filter p (take i ys)) ++ one x (p x)
      by true more = ap (λ z. y ∷ z) more
      by false more = more

module _ (s : Scope) (i : ℕ) where
  abbrev test : Named → Bool
  test n = is_procedure n.1.means

  pub method_next : (n : Named) → if_method (slice_get s.entries i) ≡ Some n → methods_before s (i + 1) ≡ methods_before s i ++ n ∷ []
  method_next n is = ap (λ j. methods_before s j) (add-one i) ∙ by (slice_get s.entries i) refl is
    where
      by_test : (m : Named) → slice_get s.entries i ≡ Some m → (b : Bool) → test m ≡ b → (if b then Some m else None) ≡ Some n →
          methods_before s (suc i) ≡ methods_before s i ++ n ∷ []
      by_test m there true method same =
          filter_next test s.entries i m there ∙ ap (λ b. methods_before s i ++ one m b) method ∙ ap (λ z. methods_before s i ++ z ∷ []) (same_Some m n same)
      by_test m there false other same = absurd (none-some n same)

      by : (o : Option Named) → slice_get s.entries i ≡ o → if_method o ≡ Some n → methods_before s (suc i) ≡ methods_before s i ++ n ∷ []
      by None there same = absurd (none-some n same)
      by (Some m) there same = by_test m there (test m) refl same

  pub method_none : if_method (slice_get s.entries i) ≡ None → methods_before s (i + 1) ≡ methods_before s i
  method_none is = ap (λ j. methods_before s j) (add-one i) ∙ by (slice_get s.entries i) refl is
    where
      by_test : (m : Named) → slice_get s.entries i ≡ Some m → (b : Bool) → test m ≡ b → (if b then Some m else None) ≡ None →
          methods_before s (suc i) ≡ methods_before s i
      by_test m there true method none = absurd (none-some m (sym none))
      by_test m there false other none =
          filter_next test s.entries i m there ∙ ap (λ b. methods_before s i ++ one m b) other ∙ append-nil (methods_before s i)

      by : (o : Option Named) → slice_get s.entries i ≡ o → if_method o ≡ None → methods_before s (suc i) ≡ methods_before s i
      by None there none = ap (filter test) (taken_none s.entries i there)
      by (Some m) there none = by_test m there (test m) refl none

  pub methods_whole : length s.entries ≤ i → methods_before s i ≡ methods_of s
  methods_whole all = ap (filter test) (take_all i s.entries all)

-- declared in another scope, too
module _ (s all : Scope) (i : ℕ) where
  pub declared_more : (n : Named) → if_method (slice_get s.entries i) ≡ Some n →
      with_names all (methods_before s (i + 1)) ≡ with_name (with_names all (methods_before s i)) n
  declared_more n is = ap (λ l. with_names all l) (method_next s i n is) ∙ fold-append with_name all (methods_before s i) (n ∷ [])

  pub declared_none : if_method (slice_get s.entries i) ≡ None → with_names all (methods_before s (i + 1)) ≡ with_names all (methods_before s i)
  declared_none is = ap (λ l. with_names all l) (method_none s i is)

  pub declared_end : length s.entries ≤ i → with_names all (methods_before s i) ≡ with_names all (methods_of s)
  declared_end whole = ap (λ l. with_names all l) (methods_whole s i whole)

-- and where they stand among the names of that
module _ (s all : Scope) (i : ℕ) where
  pub placed_more : (n : Named) → if_method (slice_get s.entries i) ≡ Some n →
      places_in all (methods_before s (i + 1)) ≡ places_in all (methods_before s i) ++ place_of all n.0 ∷ []
  placed_more n is = ap (λ l. places_in all l) (method_next s i n is) ∙ map-append (λ n. place_of all n.0) (methods_before s i) (n ∷ [])

  pub placed_none : if_method (slice_get s.entries i) ≡ None → places_in all (methods_before s (i + 1)) ≡ places_in all (methods_before s i)
  placed_none is = ap (λ l. places_in all l) (method_none s i is)

  pub placed_end : length s.entries ≤ i → places_in all (methods_before s i) ≡ places_in all (methods_of s)
  placed_end whole = ap (λ l. places_in all l) (methods_whole s i whole)

-- a word among the names of a table
module _ (w : List ℕ) where
  prefix_named : (es : List (Bor (List ℕ) × Entry)) →
      prefix_len (λ k. not (bytes_eq w k.now)) (map (λ e. e.0) es) ≡ prefix_len (λ k. not (bytes_eq w k)) (map (λ n. n.0) (seen_names es))
  prefix_named [] = refl
  prefix_named (e ∷ es) = ap (λ z. cond (not (bytes_eq w e.0.now)) (1 + z) 0) (prefix_named es)

  as_many : (es : List (Bor (List ℕ) × Entry)) → length (map (λ e. e.0) es) ≡ length (map (λ n. n.0) (seen_names es))
  as_many [] = refl
  as_many (e ∷ es) = ap suc (as_many es)

  pub place_named : (es : List (Bor (List ℕ) × Entry)) →
      position (λ k. bytes_eq w k.now) (map (λ e. e.0) es) ≡ position (λ k. bytes_eq w k) (map (λ n. n.0) (seen_names es))
  place_named es =
      ap (λ n. cond (nat_lt n (length (map (λ e. e.0) es))) (Some n) None) (prefix_named es)
      ∙ ap (λ m. cond (nat_lt (prefix_len (λ k. not (bytes_eq w k)) (map (λ n. n.0) (seen_names es))) m)
      (Some (prefix_len (λ k. not (bytes_eq w k)) (map (λ n. n.0) (seen_names es)))) None) (as_many es)
