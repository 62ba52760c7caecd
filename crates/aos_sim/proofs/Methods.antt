-- The methods of object types. A type has those of its base, each in its slot or overridden there by one of the same formals, and each
-- has the number that it has among what runs.
use Rattle.std.proofs.Common.{◌≡◌, ℕ, zero, suc, ◌+◌, ◌-◌, ◌≤◌, ◌<◌, Bool, true, false, if◌then◌else◌, Option, Some, None, List, [], ◌∷◌, ◌++◌, length, map, refl, sym, ap, ◌∙◌, subst, arith}
use Rattle.std.proofs.Common.{◌⊎◌, inl, inr}
use Rattle.std.specs.Prelude.{nat_lt, slice_get, slice_set, option_map}
use Rattle.std.specs.List.{fold}
use Rattle.std.specs.Option.{unwrap_or}
use Rattle.std.proofs.lemmas.Bool.{false≢true, cases_lt, lt-ltb, ltb-true}
use Rattle.std.proofs.lemmas.List.{length-map, map-append}
use Rattle.std.proofs.lemmas.Option.{slice_get-map, slice_get_within, slice_get_past}
use Rattle.aos_base.specs.Rooted.{by_number}
use Rattle.aos_types.specs.declared.row.TypeId.{TypeId}
use Rattle.aos_types.specs.declared.row.TypeRow.{TypeRow}
use Rattle.aos_types.specs.declared.row.TypeRow.TheVariants as row
use Rattle.aos_types.specs.Table.{row_of, base_of, has_fields, is_object}
use Rattle.aos_types.specs.Extension.{comes_to, AreBases}
use Rattle.aos_types.specs.Chain.{IsRanked}
use Rattle.aos_types.proofs.Tables.{bases_of, base_part, comes_by_bases, comes_on}
use Rattle.aos_typed.specs.declared.tree.TType.{TType}
use Rattle.aos_typed.specs.declared.tree.TType.TheVariants.{Named}
use Rattle.aos_typed.specs.Methods.{put_at, own_methods, base_type, on_base, or_base, nearest_by, has_body, body_type, slots_by, slots, slot_of, own_procedures, first_method, numbered_from, own_numbers, methods_of, method_in, method_number}
use Rattle.aos_typed.specs.Numbers.{id_of, predeclared_types, predeclared_rows}
use Rattle.aos_typed.specs.Program.{Parameter, Procedure, Method, ObjectType, Program}
use Rattle.aos_typed.specs.Routines.{routine_of, routines}
use Rattle.aos_typed.specs.Formals.{AreSame, Agree, HasFormals}
use Rattle.aos_typed.specs.WellTyped.{Overrides, AreSlots, IsMethod as IsOwnMethod, IsBody, IsBeside, IsObjectType, AreObjectTypes}
use Rattle.aos_sim.proofs.Lists.{all_get, get_left}
use Rattle.aos_sim.proofs.Routines.{method_there}

-- How many of the numbers below one pass a test.

abbrev one : Bool → ℕ
one true = 1
one false = 0

abbrev count : (ℕ → Bool) → ℕ → ℕ
count f zero = 0
count f (suc n) = one (f n) + count f n

one_less : (a b : Bool) → (a ≡ true → b ≡ true) → one a ≤ one b
one_less true b h = let e = ap one (h refl) in omega (arith, e)
one_less false b h = omega arith

count_less : (f g : ℕ → Bool) → ((j : ℕ) → f j ≡ true → g j ≡ true) → (n : ℕ) → count f n ≤ count g n
count_less f g h zero = omega arith
count_less f g h (suc n) = let a = one_less (f n) (g n) (h n) in let b = count_less f g h n in omega (arith, a, b)

count_strict : (f g : ℕ → Bool) → ((j : ℕ) → f j ≡ true → g j ≡ true) → (n i : ℕ) → i < n → f i ≡ false → g i ≡ true → count f n < count g n
count_strict f g h zero i l fails so = absurd (omega (arith, l))
count_strict f g h (suc n) i l fails so = by (λ below. count_strict f g h n i below fails so) (cases_lt i n)
  where
    by : (i < n → count f n < count g n) → (i < n) ⊎ (n ≤ i) → count f (suc n) < count g (suc n)
    by more (inl below) = let a = one_less (f n) (g n) (h n) in let b = more below in omega (arith, a, b)
    by more (inr above) =
        let last : i ≡ n = omega (arith, l, above) in
        let a : one (f n) ≡ 0 = ap one (ap f (sym last) ∙ fails) in
        let b : one (g n) ≡ 1 = ap one (ap g (sym last) ∙ so) in
        let c = count_less f g h n in
        omega (arith, a, b, c)

count_all : (n : ℕ) → count (λ j. true) n ≡ n
count_all zero = refl
count_all (suc n) = let h = count_all n in omega (arith, h)

not_below : (n : ℕ) → nat_lt n n ≡ false
not_below n = by (nat_lt n n) refl
  where
    by : (b : Bool) → nat_lt n n ≡ b → b ≡ false
    by true e = let l = ltb-true n n e in absurd (omega (arith, l))
    by false e = refl

-- Lists with elements put in their places.

-- each element is so
abbrev Each : {A : Type 0} → (A → Type 0) → List A → Type 0
Each P [] = Unit {0}
Each P (x ∷ xs) = P x × Each P xs

module _ {A : Type 0} (P : A → Type 0) where
  each_set : (xs : List A) (i : ℕ) (x : A) → Each P xs → P x → Each P (slice_set xs i x)
  each_set [] i x h p = tt
  each_set (y ∷ xs) zero x h p = (p, h.1)
  each_set (y ∷ xs) (suc i) x h p = (h.0, each_set xs i x h.1 p)

  each_last : (xs : List A) (x : A) → Each P xs → P x → Each P (xs ++ x ∷ [])
  each_last [] x h p = (p, tt)
  each_last (y ∷ xs) x h p = (h.0, each_last xs x h.1 p)

  each_put : (xs : List A) (m : ℕ × A) → Each P xs → P m.1 → Each P (put_at xs m)
  each_put xs m h p = by (nat_lt m.0 (length xs))
    where
      by : (b : Bool) → Each P (if b then slice_set xs m.0 m.1 else xs ++ m.1 ∷ [])
      by true = each_set xs m.0 m.1 h p
      by false = each_last xs m.1 h p

  each_folded : (ms : List (ℕ × A)) (xs : List A) → Each P xs → Each (λ m. P m.1) ms → Each P (fold put_at xs ms)
  each_folded [] xs h g = h
  each_folded (m ∷ ms) xs h g = each_folded ms (put_at xs m) (each_put xs m h g.0) g.1

  each_get : (xs : List A) (k : ℕ) (x : A) → Each P xs → slice_get xs k ≡ Some x → P x
  each_get [] k x h e = absurd (cc)
  each_get (y ∷ xs) zero x h e = let q : y ≡ x = cc in subst P q h.0
  each_get (y ∷ xs) (suc k) x h e = each_get xs k x h.1 e

each_more : {A : Type 0} (P Q : A → Type 0) → ((x : A) → P x → Q x) → (xs : List A) → Each P xs → Each Q xs
each_more P Q up [] h = tt
each_more P Q up (x ∷ xs) h = (up x h.0, each_more P Q up xs h.1)

-- what is got where another element was set
set_get : {A : Type 0} (xs : List A) (i k : ℕ) (x y : A) → slice_get xs k ≡ Some y → (slice_get (slice_set xs i x) k ≡ Some y) ⊎ ((i ≡ k) × (slice_get (slice_set xs i x) k ≡ Some x))
set_get [] i k x y e = absurd (cc)
set_get (z ∷ xs) zero zero x y e = inr (refl, refl)
set_get (z ∷ xs) zero (suc k) x y e = inl e
set_get (z ∷ xs) (suc i) zero x y e = inl e
set_get {A = A} (z ∷ xs) (suc i) (suc k) x y e = by (set_get xs i k x y e)
  where
    by : (slice_get (slice_set xs i x) k ≡ Some y) ⊎ ((i ≡ k) × (slice_get (slice_set xs i x) k ≡ Some x)) → (slice_get (slice_set (z ∷ xs) (suc i) x) (suc k) ≡ Some y) ⊎ ((suc i ≡ suc k) × (slice_get (slice_set (z ∷ xs) (suc i) x) (suc k) ≡ Some x))
    by (inl h) = inl h
    by (inr h) = inr (ap (λ n. suc n) h.0, h.1)

module _ {A B : Type 0} (f : A → B) where
  abbrev mapped : ℕ × A → ℕ × B
  mapped m = (m.0, f m.1)

  map_set : (xs : List A) (i : ℕ) (x : A) → map f (slice_set xs i x) ≡ slice_set (map f xs) i (f x)
  map_set [] i x = refl
  map_set (y ∷ xs) zero x = refl
  map_set (y ∷ xs) (suc i) x = ap (λ l. f y ∷ l) (map_set xs i x)

  map_put : (xs : List A) (m : ℕ × A) → map f (put_at xs m) ≡ put_at (map f xs) (mapped m)
  map_put xs m =
      by (nat_lt m.0 (length xs)) ∙ ap (λ n. if nat_lt m.0 n then slice_set (map f xs) m.0 (f m.1) else map f xs ++ f m.1 ∷ []) (sym (length-map xs f))
    where
      by : (b : Bool) → map f (if b then slice_set xs m.0 m.1 else xs ++ m.1 ∷ []) ≡ (if b then slice_set (map f xs) m.0 (f m.1) else map f xs ++ f m.1 ∷ [])
      by true = map_set xs m.0 m.1
      by false = map-append f xs (m.1 ∷ [])

  map_folded : (ms : List (ℕ × A)) (xs : List A) → map f (fold put_at xs ms) ≡ fold put_at (map f xs) (map mapped ms)
  map_folded [] xs = refl
  map_folded (m ∷ ms) xs = map_folded ms (put_at xs m) ∙ ap (λ l. fold put_at l (map mapped ms)) (map_put xs m)

  module _ (p : Program) (own : ℕ → List (ℕ × A)) where
    map_slots : (n t : ℕ) → map f (slots_by p own n t) ≡ slots_by p (λ t. map mapped (own t)) n t
    map_slots zero t = refl
    map_slots (suc n) t =
        map_folded (own t) (on_base (slots_by p own n) (base_type p t)) ∙ ap (λ l. fold put_at l (map mapped (own t))) (by (λ b. map_slots n b) (base_type p t))
      where
        by : ((b : ℕ) → map f (slots_by p own n b) ≡ slots_by p (λ t. map mapped (own t)) n b) → (o : Option ℕ) → map f (on_base (slots_by p own n) o) ≡ on_base (slots_by p (λ t. map mapped (own t)) n) o
        by all None = refl
        by all (Some b) = all b

-- Methods that override.

module _ (p : Program) where
  same_twice : (t u v : TType) → AreSame p.types t u → AreSame p.types u v → AreSame p.types t v
  same_twice t u v (inl e) h = subst (λ z. AreSame p.types z v) (sym e) h
  same_twice t u v (inr a) (inl e) = subst (λ z. AreSame p.types t z) e (inr a)
  same_twice t u v (inr a) (inr b) = inr (a.0, b.1, a.2 ∙ b.2, a.3 ∙ b.3)

  agree_same : (as' : List Parameter) → Agree p.types as' as'
  agree_same [] = tt
  agree_same (a ∷ as') = (refl, inl refl, agree_same as')

  agree_twice : (as' bs cs : List Parameter) → Agree p.types as' bs → Agree p.types bs cs → Agree p.types as' cs
  agree_twice [] [] cs h g = g
  agree_twice [] (b ∷ bs) cs h g = absurd h
  agree_twice (a ∷ as') [] cs h g = absurd h
  agree_twice (a ∷ as') (b ∷ bs) [] h g = absurd g
  agree_twice (a ∷ as') (b ∷ bs) (c ∷ cs) h g = (h.0 ∙ g.0, same_twice a.of b.of c.of h.1 g.1, agree_twice as' bs cs h.2 g.2)

  pub formals_twice : (q r s : Procedure) → HasFormals p.types q r → HasFormals p.types r s → HasFormals p.types q s
  formals_twice q r s h g = (agree_twice q.parameters r.parameters s.parameters h.0 g.0, h.1 ∙ g.1)

  overrides_twice : (q r s : Procedure) → Overrides p q r → Overrides p r s → Overrides p q s
  overrides_twice q r s h g = (formals_twice q r s h.0 g.0, h.1 ∙ g.1)

  -- the method in the slot of another one, which it overrides, or is
  abbrev InPlace : List Procedure → ℕ → Procedure → Type 0
  InPlace table k r = (q : Procedure) × (slice_get table k ≡ Some q) × Overrides p q r

  in_place : (table : List Procedure) (k : ℕ) (r : Procedure) → slice_get table k ≡ Some r → InPlace table k r
  in_place table k r e = (r, e, ((agree_same r.parameters, refl), refl))

  put_over : (table : List Procedure) (m : Method) → ((m.slot ≡ length table) ⊎ ((r : Procedure) × (slice_get table m.slot ≡ Some r) × Overrides p m.procedure r)) → (k : ℕ) (r : Procedure) → slice_get table k ≡ Some r → InPlace (put_at table (slot_of m)) k r
  put_over table m h k r e = by (nat_lt m.slot (length table)) refl h
    where
      by : (b : Bool) → nat_lt m.slot (length table) ≡ b → ((m.slot ≡ length table) ⊎ ((r : Procedure) × (slice_get table m.slot ≡ Some r) × Overrides p m.procedure r)) → InPlace (if b then slice_set table m.slot m.procedure else table ++ m.procedure ∷ []) k r
      by false l h = in_place (table ++ m.procedure ∷ []) k r (get_left table (m.procedure ∷ []) k r e)
      by true l (inl new) = let below = ltb-true m.slot (length table) l in absurd (omega (arith, below, new))
      by true l (inr old) = put (set_get table m.slot k m.procedure r e)
        where
          put : (slice_get (slice_set table m.slot m.procedure) k ≡ Some r) ⊎ ((m.slot ≡ k) × (slice_get (slice_set table m.slot m.procedure) k ≡ Some m.procedure)) → InPlace (slice_set table m.slot m.procedure) k r
          put (inl other) = in_place (slice_set table m.slot m.procedure) k r other
          put (inr this) =
              let there : slice_get table m.slot ≡ Some r = ap (slice_get table) this.0 ∙ e in
              let same : old.0 ≡ r = (let x = old.1 in cc (x, there)) in
              (m.procedure, this.1, subst (λ z. Overrides p m.procedure z) same old.2)

  folded_over : (ms : List Method) (table : List Procedure) → AreSlots p table ms → (k : ℕ) (r : Procedure) → slice_get table k ≡ Some r → InPlace (fold put_at table (map slot_of ms)) k r
  folded_over [] table h k r e = in_place table k r e
  folded_over (m ∷ ms) table h k r e =
      let first = put_over table m h.0 k r e in
      let rest = folded_over ms (put_at table (slot_of m)) h.1 k first.0 first.1 in
      (rest.0, rest.1, overrides_twice rest.0 first.0 r rest.2 first.2)

  -- what stands beside a type
  beside : (n : ℕ) (os : List ObjectType) → AreObjectTypes p n os → (t : ℕ) (o : ObjectType) → slice_get os t ≡ Some o → IsObjectType p (n + t) o
  beside n [] h t o e = absurd (cc)
  beside n (x ∷ os) h zero o e = let q : x ≡ o = cc in let z : n ≡ n + 0 = omega arith in subst (λ k. IsObjectType p k o) z (subst (λ y. IsObjectType p n y) q h.0)
  beside n (x ∷ os) h (suc t) o e = let z : suc n + t ≡ n + suc t = omega arith in subst (λ k. IsObjectType p k o) z (beside (suc n) os h.1 t o e)

  pub object_type : AreObjectTypes p 0 p.objects → (t : ℕ) (o : ObjectType) → slice_get p.objects t ≡ Some o → IsObjectType p t o
  object_type h t o e = let z : 0 + t ≡ t = omega arith in subst (λ k. IsObjectType p k o) z (beside 0 p.objects h t o e)

-- no predeclared type has fields
abbrev HaveNone : List TypeRow → Type 0
HaveNone [] = Unit {0}
HaveNone (r ∷ rs) = (has_fields (Some r) ≡ false) × HaveNone rs

none_fielded : (rs : List TypeRow) → HaveNone rs → (k : ℕ) → has_fields (slice_get rs k) ≡ false
none_fielded [] h k = refl
none_fielded (r ∷ rs) h zero = h.0
none_fielded (r ∷ rs) h (suc k) = none_fielded rs h.1 k

fielded_there : (o : Option TypeRow) → has_fields o ≡ true → (r : TypeRow) × (o ≡ Some r)
fielded_there None e = absurd (cc)
fielded_there (Some r) e = (r, refl)

-- the method that a type has in a slot is one of the program's, with its number, of a type that this one extends
pub record IsMethod (p : Program) (d k : ℕ) (q : Procedure) : Type 0 where
  pub home : ℕ
  pub there : by_number (method_number p d k) (routines p) ≡ Some (routine_of home q)
  pub number : slice_get (slots p (own_numbers p) d) k ≡ Some (method_number p d k)
  pub below : d < length p.objects
  pub self : ℕ
  pub is : q.of ≡ Some self
  pub extends : comes_to p.types (id_of (Named d)) (id_of (Named self)) ≡ true

-- the body that the objects of a type have is one that a type has which this one extends
pub record HasBody (p : Program) (t b : ℕ) : Type 0 where
  pub below : t < length p.objects
  pub object : ObjectType
  pub there : slice_get p.objects b ≡ Some object
  pub body : IsBody b object.body
  pub extends : comes_to p.types (id_of (Named t)) (id_of (Named b)) ≡ true

-- beside an object type stands a body
beside_object : (t : ℕ) (q : Procedure) (r : Option TypeRow) → is_object r ≡ true → IsBeside t q r → IsBody t q
beside_object t q None e h = absurd (cc)
beside_object t q (Some (row.Basic b)) e h = absurd (cc)
beside_object t q (Some (row.Array n of)) e h = absurd (cc)
beside_object t q (Some (row.Open of)) e h = absurd (cc)
beside_object t q (Some (row.Record base fields)) e h = absurd (cc)
beside_object t q (Some (row.Pointer to)) e h = absurd (cc)
beside_object t q (Some (row.Object base fields)) e h = h
beside_object t q (Some (row.Procedure formals r)) e h = absurd (cc)
beside_object t q (Some row.Any) e h = absurd (cc)

-- what holds of the methods of a program's types, and of the bodies of their objects
pub record HasMethods (p : Program) : Type 0 where
  pub found : (d k : ℕ) (q : Procedure) → method_in p d k ≡ Some q → IsMethod p d k q
  pub overridden : (d t k : ℕ) (q : Procedure) → comes_to p.types (id_of (Named d)) (id_of (Named t)) ≡ true → method_in p t k ≡ Some q → (r : Procedure) × (method_in p d k ≡ Some r) × Overrides p r q
  pub bodies : (t b : ℕ) → body_type p t ≡ Some b → HasBody p t b

module _ (p : Program) (ranked : IsRanked p.types) (bases : (t b : TypeId) → base_of (row_of p.types t) ≡ Some b → has_fields (row_of p.types b) ≡ true) (predeclared : (k : ℕ) → k < predeclared_types → slice_get p.types k ≡ slice_get predeclared_rows k) (long : length p.types ≡ length p.objects + predeclared_types) where
  abbrev id : ℕ → TypeId
  id t = id_of (Named t)

  abbrev many : ℕ
  many = length p.objects

  -- a type's base stands beside it
  record IsBase (t b : ℕ) : Type 0 where
    is : base_of (row_of p.types (id t)) ≡ Some (id b)
    below : b < many

  base_is : (t b : ℕ) → base_type p t ≡ Some b → IsBase t b
  base_is t b e = by (base_of (row_of p.types (id t))) refl e
    where
      by : (o : Option TypeId) → base_of (row_of p.types (id t)) ≡ o → option_map (λ b. b.0 - predeclared_types) o ≡ Some b → IsBase t b
      by None f e = absurd (cc)
      by (Some c) f e =
          let minus : c.0 - predeclared_types ≡ b = cc in
          let fields = bases (id t) c f in
          let row = fielded_there (row_of p.types c) fields in
          let within = slice_get_within p.types c.0 row.0 row.1 in
          let above : predeclared_types ≤ c.0 = at (cases_lt c.0 predeclared_types) fields in
          let up : c.0 ≡ b + predeclared_types = omega (arith, minus, above) in
          record { is = f ∙ (λ i. Some (record { 0 = up i })); below = omega (arith, up, within, long) }
        where
          at : (c.0 < predeclared_types) ⊎ (predeclared_types ≤ c.0) → has_fields (row_of p.types c) ≡ true → predeclared_types ≤ c.0
          at (inl l) fields =
              let isnt : has_fields (row_of p.types c) ≡ false = ap has_fields (predeclared c.0 l) ∙ none_fielded predeclared_rows (refl, (refl, (refl, (refl, (refl, (refl, (refl, (refl, (refl, (refl, tt)))))))))) c.0 in
              absurd (cc (fields, isnt))
          at (inr l) fields = l

  -- how many types have a smaller rank
  abbrev depth : ℕ → ℕ
  depth t = count (λ j. nat_lt (ranked.rank (id j)) (ranked.rank (id t))) many

  base_deeper : (t b : ℕ) → IsBase t b → depth b < depth t
  base_deeper t b h =
      let falls = ranked.falls (id t) (id b) (base_part p.types (row_of p.types (id t)) (id b) h.is) in
      count_strict (λ j. nat_lt (ranked.rank (id j)) (ranked.rank (id b))) (λ j. nat_lt (ranked.rank (id j)) (ranked.rank (id t)))
      (λ j e. let l = ltb-true (ranked.rank (id j)) (ranked.rank (id b)) e in lt-ltb (ranked.rank (id j)) (ranked.rank (id t)) (omega (arith, l, falls)))
      many b h.below (not_below (ranked.rank (id b))) (lt-ltb (ranked.rank (id b)) (ranked.rank (id t)) falls)

  depth_below : (t : ℕ) → t < many → depth t < many
  depth_below t l =
      let h = count_strict (λ j. nat_lt (ranked.rank (id j)) (ranked.rank (id t))) (λ j. true) (λ j e. refl) many t l (not_below (ranked.rank (id t))) refl in
      let all = count_all many in
      omega (arith, h, all)

  no_row : (t : ℕ) → many ≤ t → base_type p t ≡ None
  no_row t l = ap (λ o. option_map (λ b. b.0 - predeclared_types) (base_of o)) (slice_get_past p.types (t + predeclared_types) (omega (arith, l, long)))

  -- the slots of a type are those of its base, with its own put in their places
  module _ {A : Type 0} (own : ℕ → List (ℕ × A)) (none : (t : ℕ) → many ≤ t → own t ≡ []) where
    same_base : (f g : ℕ → List A) (o : Option ℕ) → ((b : ℕ) → o ≡ Some b → f b ≡ g b) → on_base f o ≡ on_base g o
    same_base f g None h = refl
    same_base f g (Some b) h = h b refl

    enough : (n m t : ℕ) → depth t < n → depth t < m → slots_by p own n t ≡ slots_by p own m t
    enough zero m t a b = absurd (omega (arith, a))
    enough (suc n) zero t a b = absurd (omega (arith, b))
    enough (suc n) (suc m) t a b =
        ap (λ l. fold put_at l (own t))
        (same_base (slots_by p own n) (slots_by p own m) (base_type p t)
        (λ c e. let d = base_deeper t c (base_is t c e) in enough n m c (omega (arith, d, a)) (omega (arith, d, b))))

    none_there : (n t : ℕ) → many ≤ t → slots_by p own n t ≡ []
    none_there zero t l = refl
    none_there (suc n) t l = λ i. fold put_at (on_base (slots_by p own n) (no_row t l i)) (none t l i)

    pub unfolded : (t : ℕ) → slots p own t ≡ fold put_at (on_base (slots p own) (base_type p t)) (own t)
    unfolded t = by (cases_lt t many)
      where
        by : (t < many) ⊎ (many ≤ t) → slots p own t ≡ fold put_at (on_base (slots p own) (base_type p t)) (own t)
        by (inl l) = let d = depth_below t l in enough many (suc many) t d (omega (arith, d))
        by (inr l) = none_there many t l ∙ sym (λ i. fold put_at (on_base (slots p own) (no_row t l i)) (none t l i))

  -- The methods beside their numbers.

  abbrev both_from : ℕ → List Method → List (ℕ × (Procedure × ℕ))
  both_from n [] = []
  both_from n (m ∷ ms) = (m.slot, (m.procedure, n)) ∷ both_from (suc n) ms

  abbrev own_both : ℕ → List (ℕ × (Procedure × ℕ))
  own_both t = both_from (first_method p t) (own_methods p t)

  abbrev both : ℕ → List (Procedure × ℕ)
  both t = slots p own_both t

  procedures_are : (n : ℕ) (ms : List Method) → map (mapped (λ (x : Procedure × ℕ). x.0)) (both_from n ms) ≡ map slot_of ms
  procedures_are n [] = refl
  procedures_are n (m ∷ ms) = ap (λ l. (m.slot, m.procedure) ∷ l) (procedures_are (suc n) ms)

  numbers_are : (n : ℕ) (ms : List Method) → map (mapped (λ (x : Procedure × ℕ). x.1)) (both_from n ms) ≡ numbered_from n ms
  numbers_are n [] = refl
  numbers_are n (m ∷ ms) = ap (λ l. (m.slot, n) ∷ l) (numbers_are (suc n) ms)

  methods_both : (t : ℕ) → map (λ (x : Procedure × ℕ). x.0) (both t) ≡ methods_of p t
  methods_both t =
      map_slots (λ (x : Procedure × ℕ). x.0) p own_both many t
      ∙ (λ i. slots_by p (λ t. procedures_are (first_method p t) (own_methods p t) i) many t)

  numbers_both : (t : ℕ) → map (λ (x : Procedure × ℕ). x.1) (both t) ≡ slots p (own_numbers p) t
  numbers_both t =
      map_slots (λ (x : Procedure × ℕ). x.1) p own_both many t
      ∙ (λ i. slots_by p (λ t. numbers_are (first_method p t) (own_methods p t) i) many t)

  -- a method of a type that this one extends, with its number
  abbrev IsOf : ℕ → Procedure × ℕ → Type 0
  IsOf t x =
      (s : ℕ) × (home : ℕ) × (by_number x.1 (routines p) ≡ Some (routine_of home x.0)) × (x.0.of ≡ Some s)
      × (comes_to p.types (id t) (id s) ≡ true)

  itself : (t : ℕ) → comes_to p.types (id t) (id t) ≡ true
  itself t = comes_by_bases p.types ranked (id t) (id t) (record { bases = []; are = refl })

  module _ (objects : AreObjectTypes p 0 p.objects) where
    own_of : (t : ℕ) (o : ObjectType) → slice_get p.objects t ≡ Some o → (i n : ℕ) (ms : List Method) → n ≡ first_method p t + i → ((j : ℕ) (m : Method) → slice_get ms j ≡ Some m → slice_get o.methods (i + j) ≡ Some m) → Each (λ m. IsOf t m.1) (both_from n ms)
    own_of t o e i n [] at each = tt
    own_of t o e i n (m ∷ ms) at each =
        let z : i + 0 ≡ i = omega arith in
        let there : slice_get o.methods i ≡ Some m = ap (slice_get o.methods) (sym z) ∙ each 0 m refl in
        let is = all_get (λ m. IsOwnMethod p t m.procedure) o.methods i m (object_type p objects t o e).methods there in (
          (t, o.home, ap (λ k. by_number k (routines p)) at ∙ method_there p t i o m e there, is.1, itself t),
          own_of t o e (suc i) (suc n) ms (omega (arith, at)) (λ j x f. let y : suc i + j ≡ i + suc j = omega arith in ap (slice_get o.methods) y ∙ each (suc j) x f),
        )

    own_is_of : (t : ℕ) → Each (λ m. IsOf t m.1) (own_both t)
    own_is_of t = by (slice_get p.objects t) refl
      where
        by : (o : Option ObjectType) → slice_get p.objects t ≡ o → Each (λ m. IsOf t m.1) (own_both t)
        by None e = rw e tt
        by (Some o) e =
            let zero_more : first_method p t ≡ first_method p t + 0 = omega arith in
            rw e (own_of t o e 0 (first_method p t) o.methods zero_more (λ j m f. let z : 0 + j ≡ j = omega arith in ap (slice_get o.methods) z ∙ f))

    base_comes : (t b : ℕ) → IsBase t b → comes_to p.types (id t) (id b) ≡ true
    base_comes t b h = comes_by_bases p.types ranked (id t) (id b) (record { bases = id b ∷ []; are = (h.is, refl) })

    -- what the nearest type tells is told by one that the type extends
    nearest_there : {A : Type 0} (told : ℕ → Option A) (n t : ℕ) (a : A) → nearest_by p told n t ≡ Some a → (u : ℕ) × (told u ≡ Some a) × (comes_to p.types (id t) (id u) ≡ true)
    nearest_there told zero t a e = absurd (cc)
    nearest_there {A = A} told (suc n) t a e = by (λ b f. nearest_there told n b a f) (told t) (base_type p t) refl refl e
      where
        by : ((b : ℕ) → nearest_by p told n b ≡ Some a → (u : ℕ) × (told u ≡ Some a) × (comes_to p.types (id b) (id u) ≡ true)) → (x : Option A) (o : Option ℕ) → told t ≡ x → base_type p t ≡ o → or_base (nearest_by p told n) x o ≡ Some a → (u : ℕ) × (told u ≡ Some a) × (comes_to p.types (id t) (id u) ≡ true)
        by more (Some y) o f g e = (t, f ∙ e, itself t)
        by more None None f g e = absurd (cc)
        by more None (Some b) f g e =
            let r = more b e in (r.0, r.1, comes_on p.types ranked (id t) (id b) (id r.0) (base_comes t b (base_is t b g)) r.2)

    -- past all types there is none
    none_nearest : {A : Type 0} (told : ℕ → Option A) → ((u : ℕ) → many ≤ u → told u ≡ None) → (n t : ℕ) → many ≤ t → nearest_by p told n t ≡ None
    none_nearest told none zero t l = refl
    none_nearest told none (suc n) t l = λ i. or_base (nearest_by p told n) (none t l i) (no_row t l i)

    found_body : (t b : ℕ) → body_type p t ≡ Some b → HasBody p t b
    found_body t b e =
        let r = nearest_there (λ u. if has_body p u then Some u else None) many t b e in
        by r.0 r.2 (has_body p r.0) refl r.1
      where
        at : (comes_to p.types (id t) (id b) ≡ true) → (o : Option ObjectType) → slice_get p.objects b ≡ o → unwrap_or (option_map (λ x. x.has_body) o) false ≡ true → HasBody p t b
        at comes None f h = absurd (cc)
        at comes (Some x) f h =
            let is = object_type p objects b x f in
            let object = either is.others in
            record { below = inside (cases_lt t many); object = x; there = f; body = beside_object b x.body (row_of p.types (id b)) object is.beside; extends = comes }
          where
            inside : (t < many) ⊎ (many ≤ t) → t < many
            inside (inl l) = l
            inside (inr l) =
                let n = none_nearest (λ u. if has_body p u then Some u else None) (λ u m. ap (λ o. if unwrap_or (option_map (λ x. x.has_body) o) false then Some u else None) (slice_get_past p.objects u m)) many t l in
                let clash : None ≡ Some b = sym n ∙ e in
                absurd (cc clash)

            either : ((is_object (row_of p.types (id b)) ≡ true) ⊎ ((x.has_body ≡ false) × (x.methods ≡ []))) → is_object (row_of p.types (id b)) ≡ true
            either (inl is) = is
            either (inr none) = absurd (false≢true (sym none.0 ∙ h))

        by : (u : ℕ) → comes_to p.types (id t) (id u) ≡ true → (c : Bool) → has_body p u ≡ c → (if c then Some u else None) ≡ Some b → HasBody p t b
        by u comes false f g = absurd (cc)
        by u comes true f g =
            let same : u ≡ b = cc in
            at (subst (λ z. comes_to p.types (id t) (id z) ≡ true) same comes) (slice_get p.objects b) refl (subst (λ z. has_body p z ≡ true) same f)

    all_of : (n t : ℕ) → Each (IsOf t) (slots_by p own_both n t)
    all_of zero t = tt
    all_of (suc n) t =
        each_folded (IsOf t) (own_both t) (on_base (slots_by p own_both n) (base_type p t)) (by (λ b. all_of n b) (base_type p t) refl) (own_is_of t)
      where
        by : ((b : ℕ) → Each (IsOf b) (slots_by p own_both n b)) → (o : Option ℕ) → base_type p t ≡ o → Each (IsOf t) (on_base (slots_by p own_both n) o)
        by each None e = tt
        by each (Some b) e =
            let up = base_comes t b (base_is t b e) in
            each_more (IsOf b) (IsOf t) (λ x h. (h.0, h.1, h.2, h.3, comes_on p.types ranked (id t) (id b) (id h.0) up h.4)) (slots_by p own_both n b) (each b)

    none_beside : (t : ℕ) → many ≤ t → own_methods p t ≡ []
    none_beside t l = rw (slice_get_past p.objects t l) refl

    found_method : (d k : ℕ) (q : Procedure) → method_in p d k ≡ Some q → IsMethod p d k q
    found_method d k q e = by (slice_get (both d) k) refl (sym (slice_get-map (λ (x : Procedure × ℕ). x.0) (both d) k) ∙ ap (λ l. slice_get l k) (methods_both d) ∙ e)
      where
        by : (o : Option (Procedure × ℕ)) → slice_get (both d) k ≡ o → option_map (λ (x : Procedure × ℕ). x.0) o ≡ Some q → IsMethod p d k q
        by None f g = absurd (cc)
        by (Some x) f g =
            let same : x.0 ≡ q = cc in
            let h = each_get (IsOf d) (both d) k x (all_of many d) f in
            let at : slice_get (slots p (own_numbers p) d) k ≡ Some x.1 = ap (λ l. slice_get l k) (sym (numbers_both d)) ∙ slice_get-map (λ (x : Procedure × ℕ). x.1) (both d) k ∙ ap (option_map (λ (x : Procedure × ℕ). x.1)) f in
            let number : method_number p d k ≡ x.1 = ap (λ o. unwrap_or o 0) at in
            record {
              home = h.1;
              there = ap (λ n. by_number n (routines p)) number ∙ h.2 ∙ ap (λ z. Some (routine_of h.1 z)) same;
              number = at ∙ ap (λ n. Some n) (sym number);
              below = inside (cases_lt d many);
              self = h.0;
              is = ap (λ z. z.of) (sym same) ∙ h.3;
              extends = h.4;
            }
          where
            inside : (d < many) ⊎ (many ≤ d) → d < many
            inside (inl l) = l
            inside (inr l) =
                let empty : both d ≡ [] = none_there own_both (λ t m. ap (both_from (first_method p t)) (none_beside t m)) many d l in
                let gone : slice_get (both d) k ≡ None = ap (λ xs. slice_get xs k) empty in
                absurd (cc (f, gone))

    -- through the bases of a type
    through : (bs : List TypeId) (d t k : ℕ) (q : Procedure) → AreBases p.types (id d) bs (id t) → method_in p t k ≡ Some q → (r : Procedure) × (method_in p d k ≡ Some r) × Overrides p r q
    through [] d t k q are e =
        let plus : d + predeclared_types ≡ t + predeclared_types = ap (λ z. z.0) are in
        let same : d ≡ t = omega (arith, plus) in
        subst (λ z. (r : Procedure) × (method_in p z k ≡ Some r) × Overrides p r q) (sym same) (in_place p (methods_of p t) k q e)
    through (x ∷ bs) d t k q are e =
        let minus : base_type p d ≡ Some (x.0 - predeclared_types) = ap (option_map (λ b. b.0 - predeclared_types)) are.0 in
        let b = x.0 - predeclared_types in
        let base = base_is d b minus in
        let same : x ≡ id b = (let f = base.is in let g = are.0 in cc (f, g)) in
        let above = through bs b t k q (subst (λ z. AreBases p.types z bs (id t)) same are.1) e in
        step b minus above.0 above.1 above.2 (slice_get p.objects d) refl
      where
        step : (b : ℕ) → base_type p d ≡ Some b → (r : Procedure) → method_in p b k ≡ Some r → Overrides p r q → (o : Option ObjectType) → slice_get p.objects d ≡ o → (r : Procedure) × (method_in p d k ≡ Some r) × Overrides p r q
        step b base r there over o f =
            let table : slice_get (on_base (methods_of p) (base_type p d)) k ≡ Some r = ap (λ z. slice_get (on_base (methods_of p) z) k) base ∙ there in
            let all = unfolded (own_procedures p) (λ t l. ap (map slot_of) (none_beside t l)) d in
            let put = by o f table in
            (put.0, ap (λ l. slice_get l k) all ∙ put.1, overrides_twice p put.0 r q put.2 over)
          where
            by : (o : Option ObjectType) → slice_get p.objects d ≡ o → slice_get (on_base (methods_of p) (base_type p d)) k ≡ Some r → InPlace p (fold put_at (on_base (methods_of p) (base_type p d)) (own_procedures p d)) k r
            by None f table = rw f (in_place p (on_base (methods_of p) (base_type p d)) k r table)
            by (Some x) f table = rw f (folded_over p x.methods (on_base (methods_of p) (base_type p d)) (object_type p objects d x f).slots k r table)

    pub has_methods : HasMethods p
    has_methods = record {
      found = found_method;
      overridden = λ d t k q comes e. let r = bases_of p.types (length p.types) (id d) (id t) comes in through r.bases d t k q r.are e;
      bodies = found_body;
    }
