-- The tables of types' methods: a chain of bases, one more method, one more type of a chain, and one more table.
use Rattle.std.proofs.lemmas.Bool.{ltb-false, true≢false}
use Rattle.std.proofs.Common.{◌≡◌, ℕ, zero, suc, ◌+◌, ◌-◌, ◌<◌, ◌≤◌, List, [], ◌∷◌, ◌++◌, length, map, take, drop, get_or, Option, Some, None, Bool, true, false, ◌||◌, if◌then◌else◌, refl, sym, ap, subst, ◌∙◌, arith, append_assoc}
use Rattle.std.specs.Prelude.{nat_lt, slice_get, slice_set, sum_by, option_map, option_and_then}
use Rattle.std.specs.Option.{unwrap_or}
use Rattle.std.specs.List.{fold, range_with_len}
use Rattle.std.proofs.lemmas.List.{drop_more, drop_all, length-map}
use Rattle.std.proofs.lemmas.List.Sums.{sum_by-cons}
use Rattle.std.proofs.lemmas.List.FromFn.{length-map-range_with_len, get_or-map-range_with_len}
use Rattle.std.proofs.lemmas.Option.{slice_get-map, slice_get-get_or}
use Rattle.aos_typed.specs.declared.tree.TMethod.{TMethod}
use Rattle.aos_typed.specs.declared.tree.TObject.{TObject}
use Rattle.aos_typed.specs.Numbers.{procedures_before}
use Rattle.aos_typed.specs.Program.{ObjectType, Program}
use Rattle.aos_typed.specs.Methods.{base_type, on_base, put_at, slots_by, slots, methods_in, own_numbers, first_method, numbered_from, method_number}
use Rattle.aos_typed.specs.Seen.{seen_method, seen_object, seen_program}
use Rattle.aos_typed.specs.declared.tree.Program.{Program as TProgram}
use Rattle.aos_dispatch.specs.Dispatch.{firsts_by, AreFirsts, AreTables}
use Rattle.aos_dispatch.specs.Tables.{AreFirstTables, AreHeights, AreMethodFirsts, chain_by, declares_some, own_length, put_all}
use Rattle.aos_dispatch.proofs.Lists.{at_number}
use Rattle.aos_dispatch.proofs.Firsts.{number_is}

-- the slots of a type are those of its chain
module _ {A : Type 0} (p : Program) (own : ℕ → List (ℕ × A)) where
  pub chain_slots : (n t : ℕ) → put_all own [] (chain_by p n t) ≡ slots_by p own n t
  chain_slots zero t = refl
  chain_slots (suc n) t = ap (λ l. fold put_at l (own t)) (at_base (base_type p t) (chain_slots n))
    where
      at_base : (b : Option ℕ) → ((u : ℕ) → put_all own [] (chain_by p n u) ≡ slots_by p own n u) → put_all own [] (on_base (chain_by p n) b) ≡ on_base (slots_by p own n) b
      at_base None h = refl
      at_base (Some u) h = h u

-- the last type of a chain is the first to put its methods
pub put_last : {A : Type 0} (own : ℕ → List (ℕ × A)) (table : List A) (ts : List ℕ) (t : ℕ) → put_all own table (ts ++ t ∷ []) ≡ put_all own (fold put_at table (own t)) ts
put_last own table [] t = refl
put_last own table (u ∷ ts) t = ap (λ l. fold put_at l (own u)) (put_last own table ts t)

-- one more type of a chain
pub chain_more : (p : Program) (n i t : ℕ) (chain : List ℕ) → i < n → (chain ++ t ∷ []) ++ on_base (chain_by p (n - (i + 1))) (base_type p t) ≡ chain ++ on_base (chain_by p (n - i)) (Some t)
chain_more p n i t chain lt =
    let e : suc (n - (i + 1)) ≡ n - i = omega (arith, lt) in
    append_assoc chain (t ∷ []) (on_base (chain_by p (n - (i + 1))) (base_type p t)) ∙ ap (λ m. chain ++ chain_by p m t) e

pub chain_ends : (p : Program) (n i : ℕ) (o : Option ℕ) → n ≤ i → on_base (chain_by p (n - i)) o ≡ []
chain_ends p n i None le = refl
chain_ends p n i (Some t) le = let e : n - i ≡ 0 = omega (arith, le) in ap (λ m. chain_by p m t) e

pub chain_begins : (p : Program) (n t : ℕ) (chain : List ℕ) → chain ≡ [] → chain ++ on_base (chain_by p (n - 0)) (Some t) ≡ chain_by p n t
chain_begins p n t chain e = let z : n - 0 ≡ n = omega arith in λ i. e i ++ chain_by p (z i) t

-- one more method is put
pub put_within : (xs : List ℕ) (k n : ℕ) → nat_lt k (length xs) ≡ true → slice_set xs k n ≡ put_at xs (k, n)
put_within xs k n e = ap (λ b. if b then slice_set xs k n else xs ++ n ∷ []) (sym e)

pub put_behind : (xs : List ℕ) (k n : ℕ) → nat_lt k (length xs) ≡ false → xs ++ n ∷ [] ≡ put_at xs (k, n)
put_behind xs k n e = ap (λ b. if b then slice_set xs k n else xs ++ n ∷ []) (sym e)

pub methods_more : (ms : List TMethod) (k : ℕ) (m : TMethod) (n next : ℕ) (xs ys : List ℕ) → k < length ms → m ≡ get_or ms k m → next ≡ n + 1 → ys ≡ put_at xs (m.slot, n) → fold put_at ys (numbered_from next (map seen_method (drop (k + 1) ms))) ≡ fold put_at xs (numbered_from n (map seen_method (drop k ms)))
methods_more ms k m n next xs ys lt at is put =
    let rest = map seen_method (drop (k + 1) ms) in
    let e : next ≡ suc n = omega (arith, is) in
    (λ i. fold put_at (put i) (numbered_from (e i) rest))
    ∙ ap (λ x. fold put_at xs (numbered_from n (seen_method x ∷ rest))) at
    ∙ ap (λ l. fold put_at xs (numbered_from n (map seen_method l))) (sym (drop_more ms k m lt))

pub methods_end : (ms : List TMethod) (k n : ℕ) (xs : List ℕ) → length ms ≤ k → xs ≡ fold put_at xs (numbered_from n (map seen_method (drop k ms)))
methods_end ms k n xs le = ap (λ l. fold put_at xs (numbered_from n (map seen_method l))) (sym (drop_all k ms le))

-- the number of a type's first method
first_at : (os : List ObjectType) (a k : ℕ) → k < length os → slice_get (firsts_by (λ o. length o.methods) a os) k ≡ Some (a + sum_by (λ o. length o.methods) (take k os))
first_at [] a k lt = absurd (omega arith)
first_at (o ∷ os) a zero lt = let e : a ≡ a + 0 = omega arith in ap (λ n. Some n) e
first_at (o ∷ os) a (suc k) lt =
    let e : a + length o.methods + sum_by (λ (x : ObjectType). length x.methods) (take k os) ≡ a + sum_by (λ (x : ObjectType). length x.methods) (take (suc k) (o ∷ os)) =
    omega (arith, sum_by-cons (λ (x : ObjectType). length x.methods) o (take k os)) in
    first_at os (a + length o.methods) k (omega (arith, lt)) ∙ ap (λ n. Some n) e

firsts_long : (os : List ObjectType) (a : ℕ) → length (firsts_by (λ (o : ObjectType). length o.methods) a os) ≡ suc (length os)
firsts_long [] a = refl
firsts_long (o ∷ os) a = ap (λ n. suc n) (firsts_long os (a + length o.methods))

-- the numbers of the first methods, where those of the first procedures are known
pub method_firsts_are : (p : Program) (ns ms : List ℕ) (m behind : ℕ) → AreFirsts p ns → m ≡ length p.modules → option_map (λ f. f + 0) (slice_get ns m) ≡ Some behind → ms ≡ firsts_by (λ o. length o.methods) behind p.objects → AreMethodFirsts p ms
method_firsts_are p ns ms m behind are is e all =
    let number = number_is p ns m 0 behind are e in
    let same : behind ≡ suc (length p.modules + length p.objects + procedures_before p (length p.modules)) =
    omega (arith, number, ap (procedures_before p) is) in
    all ∙ ap (λ n. firsts_by (λ (o : ObjectType). length o.methods) n p.objects) same

module _ (p : Program) (firsts : List ℕ) (are : AreMethodFirsts p firsts) where
  pub first_within : (t : ℕ) → t < length p.objects → t < length firsts
  first_within t lt = omega (arith, lt, ap length are, firsts_long p.objects (suc (length p.modules + length p.objects + procedures_before p (length p.modules))))

  pub first_is : (t : ℕ) → t < length p.objects → slice_get firsts t ≡ Some (first_method p t)
  first_is t lt = ap (λ l. slice_get l t) are ∙ first_at p.objects _ t lt ∙ ap (λ n. Some n) (omega arith)

-- the own methods of a type, and of one that isn't there
pub own_there : (p : Program) (os : List TObject) (t : ℕ) (o : TObject) (n : ℕ) → p.objects ≡ map seen_object os → slice_get os t ≡ Some o → n ≡ first_method p t → numbered_from n (map seen_method o.methods.items) ≡ own_numbers p t
own_there p os t o n seen at is =
    let there = ap (λ l. slice_get l t) seen ∙ slice_get-map seen_object os t ∙ ap (option_map seen_object) at in
    (λ i. numbered_from (is i) (methods_in (sym there i)))

pub own_missing : (p : Program) (os : List TObject) (t : ℕ) → p.objects ≡ map seen_object os → slice_get os t ≡ None → own_numbers p t ≡ []
own_missing p os t seen at =
    let there = ap (λ l. slice_get l t) seen ∙ slice_get-map seen_object os t ∙ ap (option_map seen_object) at in
    ap (λ o. numbered_from (first_method p t) (methods_in o)) there

module _ (p : Program) where
  -- A chain that comes to an end within so many types gives the same within one more.
  settled : (n t : ℕ) → length (chain_by p n t) < n → slots_by p (own_numbers p) n t ≡ slots_by p (own_numbers p) (suc n) t
  settled zero t short = absurd (omega (arith, short))
  settled (suc n) t short = ap (λ l. fold put_at l (own_numbers p t)) (by (base_type p t) (settled n) short)
    where
      by : (o : Option ℕ) → ((b : ℕ) → length (chain_by p n b) < n → slots_by p (own_numbers p) n b ≡ slots_by p (own_numbers p) (suc n) b) →
          length (t ∷ on_base (chain_by p n) o) < suc n →
          on_base (slots_by p (own_numbers p) n) o ≡ on_base (slots_by p (own_numbers p) (suc n)) o
      by None same short = refl
      by (Some b) same short = same b (omega (arith, short))

  behind : (n t b : ℕ) → base_type p t ≡ Some b → length (chain_by p n t) < n →
      fold put_at (slots_by p (own_numbers p) n b) (own_numbers p t) ≡ slots_by p (own_numbers p) n t
  behind zero t b is short = absurd (omega (arith, short))
  behind (suc n) t b is short =
      let less : length (chain_by p n b) < n = omega (arith, short, ap (λ o. length (on_base (chain_by p n) o)) is) in
      ap (λ l. fold put_at l (own_numbers p t)) (sym (settled n b less))
      ∙ ap (λ o. fold put_at (on_base (slots_by p (own_numbers p) n) o) (own_numbers p t)) (sym is)

-- behind the methods of the base
pub behind_base : (q : TProgram) (heights : List ℕ) (tables : List (List ℕ)) (t b height : ℕ) (table : List ℕ) →
    AreHeights (seen_program q) (length q.objects.items) (length q.objects.items) heights → AreFirstTables (seen_program q) t tables →
    slice_get heights t ≡ Some height → base_type (seen_program q) t ≡ Some b → slice_get tables b ≡ Some table → height < length q.objects.items →
    fold put_at table (own_numbers (seen_program q) t) ≡ slots (seen_program q) (own_numbers (seen_program q)) t
behind_base q heights tables t b height table tall are at is there short =
    let p = seen_program q in
    let n = length q.objects.items in
    let many : n ≡ length p.objects = sym (length-map q.objects.items seen_object) in
    let told : height ≡ length (chain_by p n t) = at_number (λ j. length (chain_by p n j)) n t heights height tall at in
    let ends : length (chain_by p n t) < n = omega (arith, told, short) in
    ap (λ l. fold put_at l (own_numbers p t)) (at_number (λ k. slots p (own_numbers p) k) t b tables table are there)
    ∙ behind p (length p.objects) t b is (subst (λ m. length (chain_by p m t) < m) many ends)

-- A type that declares no method puts none.
none_seen : (ms : List TMethod) → length ms ≡ 0 → map seen_method ms ≡ []
none_seen [] e = refl
none_seen (m ∷ ms) e = absurd (omega (arith, e))

own_nothing : (q : TProgram) (t : ℕ) (o : Option TObject) → slice_get q.objects.items t ≡ o → own_length o ≡ 0 → own_numbers (seen_program q) t ≡ []
own_nothing q t None at e = own_missing (seen_program q) q.objects.items t refl at
own_nothing q t (Some o) at e =
    let p = seen_program q in
    sym (own_there p q.objects.items t o (first_method p t) refl at refl) ∙ ap (numbered_from (first_method p t)) (none_seen o.methods.items e)

pub nothing_put : (q : TProgram) (t own : ℕ) (table same : List ℕ) → own ≡ own_length (slice_get q.objects.items t) → own ≡ 0 → same ≡ table →
    same ≡ fold put_at table (own_numbers (seen_program q) t)
nothing_put q t own table same counted none is =
    is ∙ ap (fold put_at table) (sym (own_nothing q t (slice_get q.objects.items t) refl (sym counted ∙ none)))

pub table_is : (p : Program) (tables : List (List ℕ)) (t : ℕ) → AreTables p tables → t < length p.objects → unwrap_or (slice_get tables t) [] ≡ slots p (own_numbers p) t
table_is p tables t are lt =
    let f : ℕ → List ℕ = λ k. slots p (own_numbers p) k in
    let n = length p.objects in
    ap (λ o. unwrap_or o []) (ap (λ l. slice_get l t) are
    ∙ slice_get-get_or (map f (range_with_len 0 n)) t (f t) (omega (arith, lt, length-map-range_with_len f 0 n)))
    ∙ get_or-map-range_with_len f 0 n t t (f t) lt (omega arith)

pub method_is : (p : Program) (tables : List (List ℕ)) (t k n : ℕ) → AreTables p tables → option_and_then (λ v. slice_get v k) (slice_get tables t) ≡ Some n → n ≡ method_number p t k
method_is p tables t k n are e = at_table (slice_get tables t) refl e
  where
    at_table : (o : Option (List ℕ)) → slice_get tables t ≡ o → option_and_then (λ v. slice_get v k) o ≡ Some n → n ≡ method_number p t k
    at_table None is e = absurd (cc)
    at_table (Some v) is e =
        let f : ℕ → List ℕ = λ j. slots p (own_numbers p) j in
        sym (ap (λ o. unwrap_or o 0) (sym (ap (λ l. slice_get l k) (at_number f (length p.objects) t tables v are is)) ∙ e))

-- Where no type declares a method nothing stands in a slot.

neither : (a b : Bool) → (a || b) ≡ false → (a ≡ false) × (b ≡ false)
neither true b e = absurd (true≢false e)
neither false b e = (refl, e)

no_own : (ms : List TMethod) → nat_lt 0 (length ms) ≡ false → map seen_method ms ≡ []
no_own [] e = refl
no_own (m ∷ ms) e = absurd (omega (arith, ltb-false 0 (suc (length ms)) e))

no_methods : (os : List TObject) (t : ℕ) → declares_some os ≡ false → methods_in (slice_get (map seen_object os) t) ≡ []
no_methods [] t e = refl
no_methods (o ∷ os) zero e = no_own o.methods.items (neither (nat_lt 0 (length o.methods.items)) (declares_some os) e).0
no_methods (o ∷ os) (suc t) e = no_methods os t (neither (nat_lt 0 (length o.methods.items)) (declares_some os) e).1

none_put : {A : Type 0} (p : Program) (own : ℕ → List (ℕ × A)) → ((t : ℕ) → own t ≡ []) → (n t : ℕ) → slots_by p own n t ≡ []
none_put p own none zero t = refl
none_put p own none (suc n) t = (λ i. fold put_at (on_base (slots_by p own n) (base_type p t)) (none t i)) ∙ at_base (base_type p t) (none_put p own none n)
  where
    at_base : (b : Option ℕ) → ((u : ℕ) → slots_by p own n u ≡ []) → on_base (slots_by p own n) b ≡ []
    at_base None h = refl
    at_base (Some u) h = h u

pub no_slots : (p : TProgram) (t : ℕ) → declares_some p.objects.items ≡ false → slots (seen_program p) (own_numbers (seen_program p)) t ≡ []
no_slots p t e =
    none_put (seen_program p) (own_numbers (seen_program p))
    (λ u. ap (numbered_from (first_method (seen_program p) u)) (no_methods p.objects.items u e)) (length (seen_program p).objects) t
