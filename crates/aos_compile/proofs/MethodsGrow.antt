-- A program with more modules, rows and objects has the methods of one without them, in their slots.
use Rattle.std.proofs.Common.{◌≡◌, ℕ, zero, suc, ◌+◌, ◌-◌, ◌≤◌, ◌<◌, ◌⊎◌, inl, inr, nat_lt, List, [], ◌∷◌, ◌++◌, length, map, fold, Bool, true, false, Option, Some, None, option_map, slice_get, slice_set, if◌then◌else◌, refl, sym, ap, ap₂, ◌∙◌, subst, arith}
use Rattle.std.proofs.lemmas.Bool.{cases_lt}
use Rattle.std.proofs.lemmas.Option.{none-some, same_Some, slice_get_past}
use Rattle.aos_types.specs.declared.row.TypeId.{TypeId}
use Rattle.aos_types.specs.declared.row.TypeRow.{TypeRow}
use Rattle.aos_types.specs.declared.row.TypeRow.TheVariants as row
use Rattle.aos_types.specs.Table.{row_of, base_of, has_fields, is_object}
use Rattle.aos_types.specs.Chain.{IsRanked}
use Rattle.aos_types.proofs.Ranks.{ranked as ranked_of}
use Rattle.aos_types.proofs.Tables.{base_part}
use Rattle.aos_typed.specs.declared.tree.TType.TheVariants.{Named}
use Rattle.aos_typed.specs.Methods.{put_at, slot_of, methods_in, own_methods, base_type, on_base, slots_by, own_procedures, methods_of, method_in}
use Rattle.aos_typed.specs.Numbers.{id_of, predeclared_types}
use Rattle.aos_typed.specs.Program.{Procedure, Method, ObjectType, Program}
use Rattle.aos_sim.proofs.Methods.{unfolded}
use Rattle.aos_symbols.specs.Env.{basic_rows}
use Rattle.aos_symbols.proofs.Each.{Each, joined}
use Rattle.aos_check_expr.proofs.Opens.{some_there}
use Rattle.aos_check_decl.proofs.Typing.{AreReady}
use Rattle.aos_compile.proofs.TypingTypes.{RowsStay, bases_there}

not_both : true ≡ false → ⊥
not_both e = cc

-- no predeclared type has fields
no_fields : (k : ℕ) → k < 10 → has_fields (slice_get basic_rows k) ≡ false
no_fields zero l = refl
no_fields (suc zero) l = refl
no_fields (suc (suc zero)) l = refl
no_fields (suc (suc (suc zero))) l = refl
no_fields (suc (suc (suc (suc zero)))) l = refl
no_fields (suc (suc (suc (suc (suc zero))))) l = refl
no_fields (suc (suc (suc (suc (suc (suc zero)))))) l = refl
no_fields (suc (suc (suc (suc (suc (suc (suc zero))))))) l = refl
no_fields (suc (suc (suc (suc (suc (suc (suc (suc zero)))))))) l = refl
no_fields (suc (suc (suc (suc (suc (suc (suc (suc (suc zero))))))))) l = refl
no_fields (suc (suc (suc (suc (suc (suc (suc (suc (suc (suc k)))))))))) l = absurd (omega (arith, l))

pub bases_high : (types : List TypeRow) → AreReady types → (t b : TypeId) → base_of (row_of types t) ≡ Some b → 10 ≤ b.0
bases_high types ready t b is = by (cases_lt b.0 10)
  where
    by : (b.0 < 10) ⊎ (10 ≤ b.0) → 10 ≤ b.0
    by (inl low) = absurd (not_both (sym (ready.sound.bases t b is) ∙ ap has_fields (ready.basic b.0 low) ∙ no_fields b.0 low))
    by (inr high) = high

object_fielded : (r : Option TypeRow) → is_object r ≡ true → has_fields r ≡ true
object_fielded None is = absurd (not_both (sym is))
object_fielded (Some (row.Object base fs)) is = refl
object_fielded (Some r) is = absurd (not_both (sym is))

pub objects_high : (types : List TypeRow) → AreReady types → (t : TypeId) → is_object (row_of types t) ≡ true → 10 ≤ t.0
objects_high types ready t is = by (cases_lt t.0 10)
  where
    by : (t.0 < 10) ⊎ (10 ≤ t.0) → 10 ≤ t.0
    by (inl low) = absurd (not_both (sym (object_fielded (row_of types t) is) ∙ ap has_fields (ready.basic t.0 low) ∙ no_fields t.0 low))
    by (inr high) = high

-- Each method that a type has is an own one of a type.

module _ (P : Procedure → Type 0) where
  each_set : (xs : List Procedure) (k : ℕ) (x : Procedure) → Each P xs → P x → Each P (slice_set xs k x)
  each_set [] k x h p = tt
  each_set (y ∷ ys) zero x h p = (p, h.1)
  each_set (y ∷ ys) (suc k) x h p = (h.0, each_set ys k x h.1 p)

  each_put : (xs : List Procedure) (m : ℕ × Procedure) → Each P xs → P m.1 → Each P (put_at xs m)
  each_put xs m h p = by (nat_lt m.0 (length xs))
    where
      by : (b : Bool) → Each P (if b then slice_set xs m.0 m.1 else xs ++ m.1 ∷ [])
      by true = each_set xs m.0 m.1 h p
      by false = joined P xs (m.1 ∷ []) h (p, tt)

  abbrev OfMethod : Method → Type 0
  OfMethod m = P m.procedure

  each_folded : (ms : List Method) (xs : List Procedure) → Each P xs → Each OfMethod ms → Each P (fold put_at xs (map slot_of ms))
  each_folded [] xs h own = h
  each_folded (m ∷ ms) xs h own = each_folded ms (put_at xs (slot_of m)) (each_put xs (slot_of m) h own.0) own.1

  module _ (p : Program) (own : (t : ℕ) → Each OfMethod (own_methods p t)) where
    each_slot : (n t : ℕ) → Each P (slots_by p (own_procedures p) n t)
    each_slot zero t = tt
    each_slot (suc n) t = each_folded (own_methods p t) (on_base (slots_by p (own_procedures p) n) (base_type p t)) (by (base_type p t) (each_slot n)) (own t)
      where
        by : (b : Option ℕ) → ((u : ℕ) → Each P (slots_by p (own_procedures p) n u)) → Each P (on_base (slots_by p (own_procedures p) n) b)
        by None each = tt
        by (Some u) each = each u

  pub own_all : (p : Program) → ((t : ℕ) (o : ObjectType) → slice_get p.objects t ≡ Some o → Each OfMethod o.methods) → (t : ℕ) → Each OfMethod (own_methods p t)
  own_all p each t = by (slice_get p.objects t) refl
    where
      by : (o : Option ObjectType) → slice_get p.objects t ≡ o → Each OfMethod (methods_in o)
      by None is = tt
      by (Some o) is = each t o is

  got : (xs : List Procedure) (k : ℕ) (x : Procedure) → Each P xs → slice_get xs k ≡ Some x → P x
  got [] k x h is = absurd (none-some x is)
  got (y ∷ ys) zero x h is = subst P (same_Some y x is) h.0
  got (y ∷ ys) (suc k) x h is = got ys k x h.1 is

  pub each_method : (p : Program) → ((t : ℕ) (o : ObjectType) → slice_get p.objects t ≡ Some o → Each OfMethod o.methods) →
      (t k : ℕ) (x : Procedure) → method_in p t k ≡ Some x → P x
  each_method p each t k x is = got (methods_of p t) k x (each_slot p (own_all p each) (length p.objects) t) is

-- Slots.

module _ (p : Program) (ready : AreReady p.types) (long : length p.types ≡ 10 + length p.objects) where
  none_beside : (t : ℕ) → length p.objects ≤ t → own_procedures p t ≡ []
  none_beside t past = rw (slice_get_past p.objects t past) refl

  table_of : (t : ℕ) → methods_of p t ≡ fold put_at (on_base (methods_of p) (base_type p t)) (own_procedures p t)
  table_of t =
      unfolded p (ranked_of p.types ready.sound.none_contains_itself) ready.sound.bases (λ k less. ready.basic k less) (omega (arith, long)) (own_procedures p) none_beside t

  none_past : (t : ℕ) → length p.objects ≤ t → methods_of p t ≡ []
  none_past t past =
      table_of t
      ∙ ap (λ b. fold put_at (on_base (methods_of p) (option_map (λ b. b.0 - predeclared_types) (base_of b))) (own_procedures p t)) (slice_get_past p.types (t + predeclared_types) (omega (arith, past, long)))
      ∙ ap (λ ms. fold put_at [] ms) (none_beside t past)

module _ (p q : Program) (ready : AreReady p.types) (ready_on : AreReady q.types) (long : length p.types ≡ 10 + length p.objects) (long_on : length q.types ≡ 10 + length q.objects)
    (stay : RowsStay p.types q.types) (stand : (t : ℕ) (o : ObjectType) → slice_get p.objects t ≡ Some o → slice_get q.objects t ≡ Some o) where
  above : IsRanked p.types
  above = ranked_of p.types ready.sound.none_contains_itself

  own_stays : (t : ℕ) → t < length p.objects → own_procedures q t ≡ own_procedures p t
  own_stays t below =
      let one = some_there p.objects t below in
      ap (λ o. map slot_of (methods_in o)) (stand t one.0 one.1 ∙ sym one.1)

  base_stays : (t : ℕ) → t < length p.objects → base_type q t ≡ base_type p t
  base_stays t below = ap (λ r. option_map (λ b. b.0 - predeclared_types) (base_of r)) (stay (t + predeclared_types) (omega (arith, below, long)))

  methods_by : (n t : ℕ) → above.rank (id_of (Named t)) < n → t < length p.objects → methods_of q t ≡ methods_of p t
  methods_by zero t less below = absurd (omega (arith, less))
  methods_by (suc n) t less below =
      table_of q ready_on long_on t
      ∙ ap₂ (λ b ms. fold put_at (on_base (methods_of q) b) ms) (base_stays t below) (own_stays t below)
      ∙ ap (λ xs. fold put_at xs (own_procedures p t)) (by (base_of (row_of p.types (id_of (Named t)))) refl (λ k falls there. methods_by n k (omega (arith, falls, less)) there))
      ∙ sym (table_of p ready long t)
    where
      by : (o : Option TypeId) → base_of (row_of p.types (id_of (Named t))) ≡ o →
          ((k : ℕ) → above.rank (id_of (Named k)) < above.rank (id_of (Named t)) → k < length p.objects → methods_of q k ≡ methods_of p k) →
          on_base (methods_of q) (option_map (λ b. b.0 - predeclared_types) o) ≡ on_base (methods_of p) (option_map (λ b. b.0 - predeclared_types) o)
      by None is deeper = refl
      by (Some c) is deeper =
          let high = bases_high p.types ready (id_of (Named t)) c is in
          let there = bases_there p.types ready (id_of (Named t)) c is in
          let same : (c.0 - predeclared_types) + predeclared_types ≡ c.0 = omega (arith, high) in
          let id_is : id_of (Named (c.0 - predeclared_types)) ≡ c = ap (λ (n : ℕ). record { 0 = n }) same in
          let falls = above.falls (id_of (Named t)) c (base_part p.types (row_of p.types (id_of (Named t))) c is) in
          let rank_is : above.rank (id_of (Named (c.0 - predeclared_types))) ≡ above.rank c = ap above.rank id_is in
          deeper (c.0 - predeclared_types) (omega (arith, rank_is, falls)) (omega (arith, there, high, long))

  pub methods_stay : (t : ℕ) → t < length p.objects → methods_of q t ≡ methods_of p t
  methods_stay t below = methods_by (suc (above.rank (id_of (Named t)))) t (omega arith) below

  pub method_stays : (t k : ℕ) (x : Procedure) → method_in p t k ≡ Some x → method_in q t k ≡ Some x
  method_stays t k x is = by (cases_lt t (length p.objects))
    where
      by : (t < length p.objects) ⊎ (length p.objects ≤ t) → method_in q t k ≡ Some x
      by (inl below) = ap (λ xs. slice_get xs k) (methods_stay t below) ∙ is
      by (inr past) = absurd (none-some x (sym (ap (λ xs. slice_get xs k) (none_past p ready long t past)) ∙ is))
