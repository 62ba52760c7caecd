-- What a scope finds is what was declared, and it finds each declared name.
use Rattle.std.proofs.Common.{◌≡◌, ℕ, List, [], ◌∷◌, ◌++◌, Bool, true, false, cond, Option, Some, None, is_some, refl, sym, ap, subst₂, if◌then◌else◌}
use Rattle.std.specs.Map.{lookup}
use Rattle.std.specs.Str.{bytes_eq}
use Rattle.std.proofs.lemmas.Option.{none-some, same_Some}
use Rattle.std.proofs.lemmas.Slice.Eq.{bytes_eq-Decides}
use Rattle.aos_symbols.specs.declared.scope.Entry.{Entry}
use Rattle.aos_symbols.specs.Scope.{Named, Scope, empty, find, has, with_name, with_names}
use Rattle.aos_symbols.proofs.Each.{Each, joined}

-- what holds of all declared names holds of what is found
module _ (P : Named → Type 0) where
  found_among : (es : List Named) (w : List ℕ) (x : Entry) → Each P es → lookup (λ k. bytes_eq w k) es ≡ Some x → P (w, x)
  found_among [] w x all e = absurd (none-some x e)
  found_among (n ∷ ns) w x all e = by (bytes_eq w n.0) refl (found_among ns w x all.1) e
    where
      by : (b : Bool) → bytes_eq w n.0 ≡ b → (lookup (λ k. bytes_eq w k) ns ≡ Some x → P (w, x)) → cond b (Some n.1) (lookup (λ k. bytes_eq w k) ns) ≡ Some x → P (w, x)
      by true is more e = subst₂ (λ (v : List ℕ) (y : Entry). P (v, y)) (sym ((bytes_eq-Decides w n.0).0 is)) (same_Some n.1 x e) all.0
      by false is more e = more e

  declared : (ns : List Named) (s : Scope) → Each P s.entries → Each P ns → Each P (with_names s ns).entries
  declared [] s have all = have
  declared (n ∷ ns) s have all = declared ns (with_name s n) (by (has s n.0)) all.1
    where
      by : (b : Bool) → Each P (if b then s else record s { entries = s.entries ++ n ∷ [] }).entries
      by true = have
      by false = joined P s.entries (n ∷ []) have (all.0, tt)

  pub found_is : (ns : List Named) (w : List ℕ) (x : Entry) → Each P ns → find (with_names empty ns) w ≡ Some x → P (w, x)
  found_is ns w x all e = found_among (with_names empty ns).entries w x (declared ns empty tt all) e

in_front : (test : List ℕ → Bool) (es fs : List Named) → is_some (lookup test es) ≡ true → is_some (lookup test (es ++ fs)) ≡ true
in_front test [] fs h = absurd (true-false h)
  where
    true-false : false ≡ true → ⊥
    true-false e = cc
in_front test (e ∷ es) fs h = by (test e.0) (in_front test es fs) h
  where
    by : (b : Bool) → (is_some (lookup test es) ≡ true → is_some (lookup test (es ++ fs)) ≡ true) →
        is_some (cond b (Some e.1) (lookup test es)) ≡ true → is_some (cond b (Some e.1) (lookup test (es ++ fs))) ≡ true
    by true more h = refl
    by false more h = more h

at_end : (test : List ℕ → Bool) (es : List Named) (n : Named) → test n.0 ≡ true → is_some (lookup test (es ++ n ∷ [])) ≡ true
at_end test [] n h = ap (λ b. is_some (cond b (Some n.1) None)) h
at_end test (e ∷ es) n h = by (test e.0) (at_end test es n h)
  where
    by : (b : Bool) → is_some (lookup test (es ++ n ∷ [])) ≡ true → is_some (cond b (Some e.1) (lookup test (es ++ n ∷ []))) ≡ true
    by true more = refl
    by false more = more

one_more : (s : Scope) (n : Named) (w : List ℕ) → has s w ≡ true → has (with_name s n) w ≡ true
one_more s n w h = by (has s n.0)
  where
    by : (b : Bool) → has (if b then s else record s { entries = s.entries ++ n ∷ [] }) w ≡ true
    by true = h
    by false = in_front (λ k. bytes_eq w k) s.entries (n ∷ []) h

is_added : (s : Scope) (n : Named) → has (with_name s n) n.0 ≡ true
is_added s n = by (has s n.0) refl
  where
    by : (b : Bool) → has s n.0 ≡ b → has (if b then s else record s { entries = s.entries ++ n ∷ [] }) n.0 ≡ true
    by true is = is
    by false is = at_end (λ k. bytes_eq n.0 k) s.entries n ((bytes_eq-Decides n.0 n.0).1 refl)

stays : (ns : List Named) (s : Scope) (w : List ℕ) → has s w ≡ true → has (with_names s ns) w ≡ true
stays [] s w h = h
stays (n ∷ ns) s w h = stays ns (with_name s n) w (one_more s n w h)

-- each declared name is found
pub each_found : (ns : List Named) (s : Scope) → Each (λ n. has (with_names s ns) n.0 ≡ true) ns
each_found [] s = tt
each_found (n ∷ ns) s = (stays ns (with_name s n) n.0 (is_added s n), each_found ns (with_name s n))

pub some_found : {X : Type 0} (o : Option X) → is_some o ≡ true → (x : X) × (o ≡ Some x)
some_found (Some x) h = (x, refl)
some_found None h = absurd (no_true h)
  where
    no_true : false ≡ true → ⊥
    no_true e = cc
