-- What the nearest type of a chain tells: a step along the chain, its end, and one more type of the table.
use Rattle.std.proofs.Common.{◌≡◌, ℕ, zero, suc, ◌+◌, ◌-◌, ◌<◌, ◌≤◌, List, [], ◌∷◌, ◌++◌, length, map, Option, Some, None, Bool, true, false, ◌||◌, if◌then◌else◌, refl, sym, ap, ◌∙◌, arith}
use Rattle.std.specs.Prelude.{is_some, slice_get, option_map}
use Rattle.std.specs.List.{range_with_len}
use Rattle.std.specs.Option.{unwrap_or}
use Rattle.std.proofs.lemmas.Bool.{true≢false}
use Rattle.std.proofs.lemmas.List.{length-map}
use Rattle.std.proofs.lemmas.List.FromFn.{map-range_with_len_more, length-map-range_with_len, get_or-map-range_with_len}
use Rattle.std.proofs.lemmas.Option.{slice_get-map, slice_get_within, slice_get-get_or}
use Rattle.aos_base.specs.declared.priority.Priority.TheVariants.{Normal}
use Rattle.aos_typed.specs.declared.tree.TObject.{TObject}
use Rattle.aos_typed.specs.declared.tree.Program.{Program as TProgram}
use Rattle.aos_typed.specs.Methods.{base_type, or_base, nearest_by, nearest, initial_slot, methods_in, body_type, initializer}
use Rattle.aos_typed.specs.Program.{ObjectType, Program}
use Rattle.aos_typed.specs.Seen.{seen_object, seen_program}
use Rattle.aos_dispatch.specs.declared.nearest.Asked.{Asked}
use Rattle.aos_dispatch.specs.declared.nearest.Asked.TheVariants.{Body, Initializer}
use Rattle.aos_dispatch.specs.Dispatch.{active_of, priority_of}
use Rattle.aos_dispatch.specs.Nearest.{told_at, told_of, told_by, tells_some, AreNearest}

-- a step along a chain, of which as many types are left as there are behind number i
module _ (q : TProgram) (asked : Asked) (i t : ℕ) where
  abbrev p : Program
  p = seen_program q

  abbrev rest : ℕ → ℕ → Option ℕ
  rest n u = nearest_by p (told_by p asked) n u

  unfolded : i < length q.objects.items → rest (length p.objects - i) t ≡ or_base (rest (length p.objects - (i + 1))) (told_by p asked t) (base_type p t)
  unfolded lt =
      let e : length p.objects - i ≡ suc (length p.objects - (i + 1)) = omega (arith, lt, length-map q.objects.items seen_object) in
      ap (λ m. rest m t) e

  pub found_here : (a : ℕ) → i < length q.objects.items → told_by p asked t ≡ Some a → rest (length p.objects - i) t ≡ Some a
  found_here a lt is = unfolded lt ∙ ap (λ o. or_base (rest (length p.objects - (i + 1))) o (base_type p t)) is

  pub none_above : i < length q.objects.items → told_by p asked t ≡ None → base_type p t ≡ None → rest (length p.objects - i) t ≡ None
  none_above lt none last = unfolded lt ∙ (λ j. or_base (rest (length p.objects - (i + 1))) (none j) (last j))

  pub on_to_base : (b : ℕ) → i < length q.objects.items → told_by p asked t ≡ None → base_type p t ≡ Some b → rest (length p.objects - (i + 1)) b ≡ rest (length p.objects - i) t
  on_to_base b lt none base = sym (unfolded lt ∙ (λ j. or_base (rest (length p.objects - (i + 1))) (none j) (base j)))

  pub chain_over : length q.objects.items ≤ i → rest (length p.objects - i) t ≡ None
  chain_over le = let e : length p.objects - i ≡ 0 = omega (arith, le, length-map q.objects.items seen_object) in ap (λ m. rest m t) e

-- Where no type tells anything none is found.

neither : (a b : Bool) → (a || b) ≡ false → (a ≡ false) × (b ≡ false)
neither true b e = absurd (true≢false e)
neither false b e = (refl, e)

nothing_told : (asked : Asked) (t : ℕ) (o : ObjectType) → is_some (told_at asked 0 o) ≡ false → told_at asked t o ≡ None
nothing_told Body t o e = by o.has_body e
  where
    by : (b : Bool) → is_some {T = ℕ} (if b then Some 0 else None) ≡ false → (if b then Some t else None) ≡ None
    by true e = absurd (true≢false e)
    by false e = refl
nothing_told Initializer t o e = by (initial_slot o.methods) e
  where
    by : (s : Option ℕ) → is_some s ≡ false → s ≡ None
    by None e = refl
    by (Some k) e = absurd (true≢false e)

none_tells_of : (asked : Asked) (os : List TObject) (t i : ℕ) → tells_some asked os ≡ false → told_of asked i (slice_get (map seen_object os) t) ≡ None
none_tells_of asked [] t i e = refl
none_tells_of asked (o ∷ os) zero i e = nothing_told asked i (seen_object o) (neither (is_some (told_at asked 0 (seen_object o))) (tells_some asked os) e).0
none_tells_of asked (o ∷ os) (suc t) i e = none_tells_of asked os t i (neither (is_some (told_at asked 0 (seen_object o))) (tells_some asked os) e).1

none_by : {A : Type 0} (p : Program) (told : ℕ → Option A) → ((t : ℕ) → told t ≡ None) → (n t : ℕ) → nearest_by p told n t ≡ None
none_by p told none zero t = refl
none_by p told none (suc n) t = ap (λ o. or_base (nearest_by p told n) o (base_type p t)) (none t) ∙ at_base (base_type p t) (none_by p told none n)
  where
    at_base : (b : Option ℕ) → ((u : ℕ) → nearest_by p told n u ≡ None) → or_base (nearest_by p told n) None b ≡ None
    at_base None h = refl
    at_base (Some u) h = h u

pub none_tells : (p : TProgram) (asked : Asked) (t : ℕ) → tells_some asked p.objects.items ≡ false → nearest (seen_program p) (told_by (seen_program p) asked) t ≡ None
none_tells p asked t e =
    none_by (seen_program p) (told_by (seen_program p) asked) (λ u. none_tells_of asked p.objects.items u u e) (length (seen_program p).objects) t

-- one more type
pub told_more : (p : Program) (asked : Asked) (k : ℕ) (xs ys : List (Option ℕ)) (o : Option ℕ) → ys ≡ xs ++ o ∷ [] → o ≡ nearest p (told_by p asked) k → xs ≡ map (λ t. nearest p (told_by p asked) t) (range_with_len 0 k) → ys ≡ map (λ t. nearest p (told_by p asked) t) (range_with_len 0 (k + 1))
told_more p asked k xs ys o is one before =
    is
    ∙ (λ i. before i ++ one i ∷ [])
    ∙ sym (map-range_with_len_more (λ t. nearest p (told_by p asked) t) 0 k k (omega arith))

-- what is told of a type
told_is : (p : Program) (asked : Asked) (xs : List (Option ℕ)) (t : ℕ) (o : Option ℕ) → AreNearest p asked xs → slice_get xs t ≡ Some o → o ≡ nearest p (told_by p asked) t
told_is p asked xs t o are at =
    let f : ℕ → Option ℕ = λ k. nearest p (told_by p asked) k in
    let n = length p.objects in
    let lt : t < length (map f (range_with_len 0 n)) = omega (arith, slice_get_within xs t o at, ap length are) in
    let one : Some o ≡ Some (f t) =
    sym at
    ∙ ap (λ l. slice_get l t) are
    ∙ slice_get-get_or (map f (range_with_len 0 n)) t (f t) lt
    ∙ ap (λ l. Some l) (get_or-map-range_with_len f 0 n t t (f t) (omega (arith, lt, length-map-range_with_len f 0 n)) (omega arith)) in
    ap (λ x. unwrap_or x None) one

-- whether its objects have activities of their own
pub active_is : (os : List TObject) (t : ℕ) → active_of (slice_get os t) ≡ unwrap_or (option_map (λ (o : ObjectType). o.is_active) (slice_get (map seen_object os) t)) false
active_is os t = by (slice_get os t) ∙ ap (λ o. unwrap_or (option_map (λ (x : ObjectType). x.is_active) o) false) (sym (slice_get-map seen_object os t))
  where
    by : (o : Option TObject) → active_of o ≡ unwrap_or (option_map (λ (x : ObjectType). x.is_active) (option_map seen_object o)) false
    by None = refl
    by (Some x) = refl

-- and the priority of these
pub priority_is : (os : List TObject) (t : ℕ) → priority_of (slice_get os t) ≡ unwrap_or (option_map (λ (o : ObjectType). o.priority) (slice_get (map seen_object os) t)) Normal
priority_is os t = by (slice_get os t) ∙ ap (λ o. unwrap_or (option_map (λ (x : ObjectType). x.priority) o) Normal) (sym (slice_get-map seen_object os t))
  where
    by : (o : Option TObject) → priority_of o ≡ unwrap_or (option_map (λ (x : ObjectType). x.priority) (option_map seen_object o)) Normal
    by None = refl
    by (Some x) = refl

-- so it is the type whose body its objects have,
pub body_is : (p : Program) (xs : List (Option ℕ)) (t : ℕ) (o : Option ℕ) → AreNearest p Body xs → slice_get xs t ≡ Some o → o ≡ body_type p t
body_is p xs t o are at = told_is p Body xs t o are at ∙ ap (λ (f : ℕ → Option ℕ). nearest p f t) (λ i u. by u (slice_get p.objects u) i)
  where
    by : (u : ℕ) (x : Option ObjectType) → told_of Body u x ≡ (if unwrap_or (option_map (λ (o : ObjectType). o.has_body) x) false then Some u else None)
    by u None = refl
    by u (Some x) = refl

-- and the slot of their initializer
pub initial_is : (p : Program) (xs : List (Option ℕ)) (t : ℕ) (o : Option ℕ) → AreNearest p Initializer xs → slice_get xs t ≡ Some o → o ≡ initializer p t
initial_is p xs t o are at = told_is p Initializer xs t o are at ∙ ap (λ (f : ℕ → Option ℕ). nearest p f t) (λ i u. by u (slice_get p.objects u) i)
  where
    by : (u : ℕ) (x : Option ObjectType) → told_of Initializer u x ≡ initial_slot (methods_in x)
    by u None = refl
    by u (Some x) = refl
