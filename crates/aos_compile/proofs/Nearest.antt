-- What the nearest type of a chain tells: the type itself, or else its base. It stays in a program with more rows and objects.
use Rattle.std.proofs.Common.{◌≡◌, ℕ, zero, suc, ◌+◌, ◌-◌, ◌≤◌, ◌<◌, List, [], ◌∷◌, length, fold, Option, Some, None, option_map, slice_get, refl, sym, ap, ap₂, ◌∙◌, arith}
use Rattle.std.proofs.lemmas.Option.{slice_get_past}
use Rattle.aos_types.specs.declared.row.TypeId.{TypeId}
use Rattle.aos_types.specs.Table.{row_of, base_of}
use Rattle.aos_types.specs.Chain.{IsRanked}
use Rattle.aos_types.proofs.Ranks.{ranked as ranked_of}
use Rattle.aos_types.proofs.Tables.{base_part}
use Rattle.aos_typed.specs.declared.tree.TType.TheVariants.{Named}
use Rattle.aos_typed.specs.Methods.{put_at, methods_in, own_methods, base_type, on_base, or_base, nearest_by, nearest, slots_by, initial_slot, initializer}
use Rattle.aos_typed.specs.Numbers.{id_of, predeclared_types}
use Rattle.aos_typed.specs.Program.{ObjectType, Program}
use Rattle.aos_sim.proofs.Methods.{unfolded}
use Rattle.aos_check_expr.proofs.Opens.{some_there}
use Rattle.aos_check_decl.proofs.Typing.{AreReady}
use Rattle.aos_compile.proofs.MethodsGrow.{bases_high}
use Rattle.aos_compile.proofs.TypingTypes.{RowsStay, bases_there}

-- What there may be as a list, and as what a type puts in its slots.

abbrev listed : {A : Type 0} → Option A → List A
listed None = []
listed (Some a) = a ∷ []

abbrev slotted : {A : Type 0} → Option A → List (ℕ × A)
slotted None = []
slotted (Some a) = (0, a) ∷ []

listed_one : {A : Type 0} (x y : Option A) → listed x ≡ listed y → x ≡ y
listed_one None None e = refl
listed_one None (Some b) e = absurd (cc)
listed_one (Some a) None e = absurd (cc)
listed_one (Some a) (Some b) e = cc

module _ (p : Program) (ready : AreReady p.types) (long : length p.types ≡ 10 + length p.objects) where
  module _ {A : Type 0} (told : ℕ → Option A) where
    abbrev own : ℕ → List (ℕ × A)
    own t = slotted (told t)

    over : (a : A) (o : Option A) → put_at (listed o) (0, a) ≡ a ∷ []
    over a None = refl
    over a (Some x) = refl

    one : (n : ℕ) (o : Option A) (b : Option ℕ) → ((u : ℕ) → slots_by p own n u ≡ listed (nearest_by p told n u)) →
        fold put_at (on_base (slots_by p own n) b) (slotted o) ≡ listed (or_base (nearest_by p told n) o b)
    one n None None same = refl
    one n None (Some b) same = same b
    one n (Some a) None same = refl
    one n (Some a) (Some b) same = ap (λ xs. put_at xs (0, a)) (same b) ∙ over a (nearest_by p told n b)

    by_slots : (n t : ℕ) → slots_by p own n t ≡ listed (nearest_by p told n t)
    by_slots zero t = refl
    by_slots (suc n) t = one n (told t) (base_type p t) (by_slots n)

    -- the type itself, or its base
    pub nearest_is : ((t : ℕ) → length p.objects ≤ t → told t ≡ None) → (t : ℕ) → nearest p told t ≡ or_base (nearest p told) (told t) (base_type p t)
    nearest_is none t =
        let many = length p.objects in
        listed_one (nearest p told t) (or_base (nearest p told) (told t) (base_type p t))
        (sym (by_slots many t)
        ∙ unfolded p (ranked_of p.types ready.sound.none_contains_itself) ready.sound.bases (λ k less. ready.basic k less) (omega (arith, long)) own (λ u past. ap slotted (none u past)) t
        ∙ one many (told t) (base_type p t) (by_slots many))

  -- the initializer that a type declares
  abbrev pub starts : ℕ → Option ℕ
  starts t = initial_slot (own_methods p t)

  none_starts : (t : ℕ) → length p.objects ≤ t → starts t ≡ None
  none_starts t past = ap (λ o. initial_slot (methods_in o)) (slice_get_past p.objects t past)

  pub initializer_is : (t : ℕ) → initializer p t ≡ or_base (initializer p) (starts t) (base_type p t)
  initializer_is t = nearest_is starts none_starts t

module _ (p q : Program) (ready : AreReady p.types) (ready_on : AreReady q.types) (long : length p.types ≡ 10 + length p.objects) (long_on : length q.types ≡ 10 + length q.objects)
    (stay : RowsStay p.types q.types) (stand : (t : ℕ) (o : ObjectType) → slice_get p.objects t ≡ Some o → slice_get q.objects t ≡ Some o) where
  above : IsRanked p.types
  above = ranked_of p.types ready.sound.none_contains_itself

  starts_stay : (t : ℕ) → t < length p.objects → initial_slot (own_methods q t) ≡ initial_slot (own_methods p t)
  starts_stay t below =
      let one = some_there p.objects t below in
      ap (λ o. initial_slot (methods_in o)) (stand t one.0 one.1 ∙ sym one.1)

  base_stays : (t : ℕ) → t < length p.objects → base_type q t ≡ base_type p t
  base_stays t below = ap (λ r. option_map (λ b. b.0 - predeclared_types) (base_of r)) (stay (t + predeclared_types) (omega (arith, below, long)))

  starts_by : (n t : ℕ) → above.rank (id_of (Named t)) < n → t < length p.objects → initializer q t ≡ initializer p t
  starts_by zero t less below = absurd (omega (arith, less))
  starts_by (suc n) t less below =
      initializer_is q ready_on long_on t
      ∙ ap₂ (λ o b. or_base (initializer q) o b) (starts_stay t below) (base_stays t below)
      ∙ by (base_of (row_of p.types (id_of (Named t)))) refl (λ k falls there. starts_by n k (omega (arith, falls, less)) there)
      ∙ sym (initializer_is p ready long t)
    where
      own : Option ℕ
      own = initial_slot (own_methods p t)

      or_one : (o : Option ℕ) (b : ℕ) → initializer q b ≡ initializer p b → or_base (initializer q) o (Some b) ≡ or_base (initializer p) o (Some b)
      or_one None b same = same
      or_one (Some k) b same = refl

      or_none : (o : Option ℕ) → or_base (initializer q) o None ≡ or_base (initializer p) o None
      or_none None = refl
      or_none (Some k) = refl

      by : (o : Option TypeId) → base_of (row_of p.types (id_of (Named t))) ≡ o →
          ((k : ℕ) → above.rank (id_of (Named k)) < above.rank (id_of (Named t)) → k < length p.objects → initializer q k ≡ initializer p k) →
          or_base (initializer q) own (option_map (λ b. b.0 - predeclared_types) o) ≡ or_base (initializer p) own (option_map (λ b. b.0 - predeclared_types) o)
      by None is deeper = or_none own
      by (Some c) is deeper =
          let high = bases_high p.types ready (id_of (Named t)) c is in
          let there = bases_there p.types ready (id_of (Named t)) c is in
          let same : (c.0 - predeclared_types) + predeclared_types ≡ c.0 = omega (arith, high) in
          let id_is : id_of (Named (c.0 - predeclared_types)) ≡ c = ap (λ (n : ℕ). record { 0 = n }) same in
          let falls = above.falls (id_of (Named t)) c (base_part p.types (row_of p.types (id_of (Named t))) c is) in
          let rank_is : above.rank (id_of (Named (c.0 - predeclared_types))) ≡ above.rank c = ap above.rank id_is in
          or_one own (c.0 - predeclared_types) (deeper (c.0 - predeclared_types) (omega (arith, rank_is, falls)) (omega (arith, there, high, long)))

  -- the initializer that the objects of a type have stays
  pub initializer_stays : (t : ℕ) → t < length p.objects → initializer q t ≡ initializer p t
  initializer_stays t below = starts_by (suc (above.rank (id_of (Named t)))) t (omega arith) below
