-- The pieces of which designators and expressions are made are typed.
use Rattle.std.proofs.Common.{◌≡◌, ◌⊎◌, inl, inr, ℕ, zero, suc, ◌+◌, ◌<◌, Bool, true, false, List, [], ◌∷◌, length, map, Option, Some, None, if◌then◌else◌, refl, sym, ap, ◌∙◌, subst, arith}
use Rattle.std.specs.Prelude.{All, is_some, option_and_then, option_map, pos, slice_get}
use Rattle.std.specs.Option.{unwrap_or}
use Rattle.std.proofs.lemmas.List.Elements.{All-tail}
use Rattle.std.proofs.lemmas.Option.{slice_get-map}
use Rattle.aos_base.specs.declared.operator.Given.{Given as Gives}
use Rattle.aos_base.specs.declared.operator.Given.TheVariants.{Number, Trap, Undefined}
use Rattle.aos_base.specs.declared.root.Root.TheVariants.{Frame as FrameRoot, Object as ObjectRoot}
use Rattle.aos_base.specs.Operators.{natural}
use Rattle.aos_base.specs.Question.{Val, Traps, bind, ask, Manner, ByType, ByValue, Calls, Opens, Tests}
use Rattle.aos_base.specs.Rooted.{Made, by_number}
use Rattle.aos_types.specs.declared.row.TypeId.{TypeId}
use Rattle.aos_types.specs.Extension.{comes_to}
use Rattle.aos_types.specs.Shape.{Shape, One, Pair, inside, part, row as row_of_shapes}
use Rattle.aos_types.specs.Table.{is_object, is_open, is_record, row_of}
use Rattle.aos_types.specs.World.{World, shape_at}
use Rattle.aos_types.proofs.Tables.{comes_on}
use Rattle.aos_typed.specs.declared.tree.TType.{TType}
use Rattle.aos_typed.specs.declared.tree.TType.TheVariants as type
use Rattle.aos_typed.specs.Formals.{HasFormals, pattern_of}
use Rattle.aos_typed.specs.Methods.{method_in, method_number}
use Rattle.aos_typed.specs.Numbers.{id_of, id_of_made, procedure_number}
use Rattle.aos_typed.specs.Open.{open_dimensions, open_element}
use Rattle.aos_typed.specs.Program.{Opened, Parameter, Procedure, Program}
use Rattle.aos_typed.specs.Routines.{routine_of, routines}
use Rattle.aos_typed.specs.Sort.{Sort, Plain, Variable, Alias, Elements, Length, variable_shape}
use Rattle.aos_typed.specs.Location.{Location}
use Rattle.aos_typed.specs.Typing.{Extends, HasLengths, Is, IsCalledBy, IsInstance, StandsFor, nested}
use Rattle.aos_typed.specs.Value.{Value, Int, Flag, Object, Callable, Sort as Kind, given, number_of, is_true}
use Rattle.aos_typed.specs.WellTyped.{HaveLengths, IsByReference, IsLength, IsOpening, IsParameter, IsProcedural, is_basic, is_reference, procedure_in, target}
use Rattle.aos_typed.specs.Meaning.{Found, Here, Doing, applied, bound, bound_to, dereferenced, dispatched, element_of, found, guarded, is_instance, lengths_from, on_instance, opened, own_place, part_of, passed, place_in, row_at, sent, sizes_from, spread}
use Rattle.aos_typed.specs.Source.{arguments_in, length_in, made_shape, object_place}
use Rattle.aos_sim.proofs.Callables.{called_by, one_formals}
use Rattle.aos_sim.proofs.Designators.{element_there, natural_below, no_element}
use Rattle.aos_sim.proofs.Does.{Given, HasScalar, HasTypes, IsAnswer, IsCalledOn, IsObject, IsPlaceSort, IsSelf, Knows, alias_sort}
use Rattle.aos_sim.proofs.Extended.{rows_made}
use Rattle.aos_sim.proofs.Methods.{formals_twice}
use Rattle.aos_sim.proofs.Objects.{object_target, open_lengths, location_of}
use Rattle.aos_sim.proofs.Parts.{part_of_row, row_part, shape_on}
use Rattle.aos_sim.proofs.References.{IsMadeAs, a_callable, comes_same, from_pattern, made_reference, nil_or, of_target, some_object, to_any, to_pattern, to_target}
use Rattle.aos_sim.proofs.Results.{Agrees}
use Rattle.aos_sim.proofs.Routines.{routine_there}
use Rattle.aos_sim.proofs.Sends.{given_alike, no_type}
use Rattle.aos_sim.proofs.Types.{IsValueOf}
use Rattle.aos_sim.proofs.Variables.{alias_there, open_there, value_from, value_to}
use Rattle.aos_preservation.proofs.Places.{AreFound, AreRowsAt, IsFound, alias_found, elements_found, nested_rows, opened_found, part_at}
use Rattle.aos_preservation.proofs.Trees.{IsTold, Typed, one_object, one_scalar, typed_bind, typed_more}

alias_place : (b : Bool) (t : TypeId) → IsPlaceSort (if b then Variable t else Alias t)
alias_place true t = tt
alias_place false t = tt

row_is : (x : Found) (v : Value) (n : ℕ) (ns : List ℕ) → x.lengths ≡ map (λ n. Int (pos n)) (n ∷ ns) → row_at x v ≡ bind (element_of n v x.place) (λ s. found s (map (λ n. Int (pos n)) ns))
row_is x v n ns e = ap (λ l. row_at (record { place = x.place; lengths = l }) v) e

module _ (p : Program) (typed : HasTypes p) (w : World Sort) (own : Option Procedure) (here : Here) (known : Knows p own here w) where
  abbrev pub Of : TType → Value → Type 0
  Of t v = Is p w (Plain (id_of t)) v

  abbrev Ok : {A : Type 0} → (A → Type 0) → Doing A → Type 0
  Ok R d = Typed p w here R d

  -- Values of basic types.

  pub given_typed : (t : TType) (z : Kind) (g : Gives) → Agrees t z g → Ok (IsValueOf t) (given z g)
  given_typed t z (Number n) a = a.0
  given_typed t z (Trap n) a = tt
  given_typed t z Undefined a = absurd a

  pub sorted : (t : TType) (d : Doing Value) → is_basic t ≡ true → Ok (IsValueOf t) d → Ok (Of t) d
  sorted t d basic h = typed_more p w here (IsValueOf t) (Of t) d h (λ v is. value_to p typed.predeclared t w v basic is)

  pub basically : (t : TType) (d : Doing Value) → is_basic t ≡ true → Ok (Of t) d → Ok (IsValueOf t) d
  basically t d basic h = typed_more p w here (Of t) (IsValueOf t) d h (λ v is. value_from p typed.predeclared t w v basic is)

  -- Places.

  pub element_typed : (n : ℕ) (v : Value) (s : Location) (R : Location → Type 0) → ((j : ℕ) → j < n → R (part_of j s)) → Ok R (element_of n v s)
  element_typed n v s R f = by (natural n (number_of v)) refl
    where
      by : (o : Option ℕ) → natural n (number_of v) ≡ o → Ok R (element_of n v s)
      by None e = subst (Ok R) (sym (no_element n v s e)) tt
      by (Some j) e = subst (Ok R) (sym (element_there n j v s e)) (f j (natural_below n j (number_of v) e))

  pub passed_typed : (k : ℕ) (t : TType) (a : Parameter) → IsParameter p own k a → IsByReference p a t → Ok (IsFound p w (is_record (row_of p.types (id_of t)) ≡ true) t) (passed p here k)
  passed_typed k t a is of =
      let o = alias_there p own here w known.frame k t a is of in
      let sort = alias_sort p.types (id_of t) in (
        (refl, sort, alias_place (is_record (row_of p.types (id_of t))) (id_of t), o.there),
        λ v told. alias_found p w typed t v (subst (λ z. Is p w z v) (sym (one_scalar p w (own_place p here k) sort told.0 o.there told.1)) told.2),
      )

  -- an open array parameter's place, and its lengths behind it
  abbrev LengthsThere : (number dimension : ℕ) → List ℕ → Type 0
  LengthsThere k d [] = Unit {0}
  LengthsThere k d (n ∷ ns) = HasScalar p w (part_of (suc d) (own_place p here k)) (Length n) × LengthsThere k (suc d) ns

  lengths_there : (k : ℕ) (m : Shape Sort) (e : TypeId) (all : List ℕ) → shape_at w (FrameRoot here.below) (k ∷ []) ≡ Some m → m ≡ Pair (One (Elements e all)) (row_of_shapes (map (λ n. One (Length n)) all)) →
      (d : ℕ) (ns : List ℕ) → ((j : ℕ) → slice_get ns j ≡ slice_get all (d + j)) → LengthsThere k d ns
  lengths_there k m e all there is d [] f = tt
  lengths_there k m e all there is d (n ∷ ns) f =
      let z : d + 0 ≡ d = omega arith in
      let get : slice_get all d ≡ Some n = ap (slice_get all) (sym z) ∙ sym (f 0) in
      let part_is : part d (row_of_shapes (map (λ n. One (Length n)) all)) ≡ Some (One (Length n)) = part_of_row d (map (λ n. One (Length n)) all) ∙ slice_get-map (λ n. One (Length n)) all d ∙ ap (option_map (λ n. One (Length n))) get in (
        shape_on w (FrameRoot here.below) (k ∷ []) m there (suc d ∷ []) ∙ ap (inside (suc d ∷ [])) is ∙ ap (option_and_then (λ y. Some y)) part_is,
        lengths_there k m e all there is (suc d) ns (λ j. let g : d + suc j ≡ suc d + j = omega arith in f (suc j) ∙ ap (slice_get all) g),
      )

  lengths_typed : (k : ℕ) (ns : List ℕ) (d : ℕ) → LengthsThere k d ns → Ok (λ vs. vs ≡ map (λ n. Int (pos n)) ns) (lengths_from p here k d (length ns))
  lengths_typed k [] d h = refl
  lengths_typed k (n ∷ ns) d h = (
    (refl, n, h.0),
    λ v told.
        let sort = one_scalar p w (part_of (suc d) (own_place p here k)) (Length n) told.0 h.0 told.1 in
        let is : v ≡ Int (pos n) = (subst (λ z. Is p w z v) (sym sort) told.2).0 in
        typed_bind p w here (λ vs. vs ≡ map (λ n. Int (pos n)) ns) (λ vs. vs ≡ map (λ n. Int (pos n)) (n ∷ ns)) (lengths_from p here k (suc d) (length ns)) (λ vs. Val (v ∷ vs)) (lengths_typed k ns (suc d) h.1) (λ vs same. (λ j. is j ∷ same j)),
  )

  pub opened_typed : (k j : ℕ) (t : TType) (a : Parameter) → IsParameter p own k a → IsOpening p a j t → Ok (AreFound p w (HaveLengths (Opened k j)) j t) (opened p here k j)
  opened_typed k j t a is of =
      let o = open_there p own here w known.frame k a is of.0 in
      let x = o.opened in
      let at = o.there in
      subst (λ i. Ok (AreFound p w (Unit {0}) i t) (opened p here k i)) (x.many ∙ sym of.1) (as_many o.part at.there x.lengths x.bound x.is)
    where
      as_many : (m : Shape Sort) → shape_at w (FrameRoot here.below) (k ∷ []) ≡ Some m → (ns : List ℕ) → All IsLength ns → m ≡ Pair (One (Elements (open_element p.types (id_of a.of)) ns)) (row_of_shapes (map (λ n. One (Length n)) ns)) →
          Ok (AreFound p w (Unit {0}) (length ns) t) (opened p here k (length ns))
      as_many m there ns bound part_is =
          let e = open_element p.types (id_of a.of) in
          let first : HasScalar p w (part_of 0 (own_place p here k)) (Elements e ns) = shape_on w (FrameRoot here.below) (k ∷ []) m there (0 ∷ []) ∙ ap (inside (0 ∷ [])) part_is in
          let lengths = lengths_there k m e ns there part_is 0 ns (λ j. let z : j ≡ 0 + j = omega arith in ap (slice_get ns) z) in (
            (refl, Elements e ns, tt, first),
            λ v told.
                let is = subst (λ z. Is p w z v) (sym (one_scalar p w (part_of 0 (own_place p here k)) (Elements e ns) told.0 first told.1)) told.2 in
                typed_bind p w here (λ vs. vs ≡ map (λ n. Int (pos n)) ns) (AreFound p w (Unit {0}) (length ns) t) (lengths_from p here k 0 (length ns)) (λ vs. found (place_in v) vs) (lengths_typed k ns 0 lengths)
                (λ vs same. record { lengths = ns; are = same; many = refl; at = elements_found p w typed ns e t of.2 v is; bound = λ b. bound }),
          )

  -- an element of rows
  pub row_typed : (bounded : Type 0) (n : ℕ) (t : TType) (x : Found) → AreFound p w bounded (suc n) t x → (v : Value) → Ok (AreFound p w bounded n t) (row_at x v)
  row_typed bounded n t x f v = by f.lengths f.are f.many f.at f.bound
    where
      by : (ls : List ℕ) → x.lengths ≡ map (λ n. Int (pos n)) ls → length ls ≡ suc n → AreRowsAt p w ls t x.place → (bounded → All IsLength ls) → Ok (AreFound p w bounded n t) (row_at x v)
      by [] are l at bound = absurd (omega (arith, l))
      by (j ∷ ns) are l at bound =
          let inner = nested ns (variable_shape p.types (id_of t)) in
          let whole = nested (j ∷ ns) (variable_shape p.types (id_of t)) in
          subst (Ok (AreFound p w bounded n t)) (sym (row_is x v j ns are))
          (typed_bind p w here (AreRowsAt p w ns t) (AreFound p w bounded n t) (element_of j v x.place) (λ s. found s (map (λ n. Int (pos n)) ns))
          (element_typed j v x.place (AreRowsAt p w ns t) (λ i less. nested_rows p w typed ns t (part_of i x.place) (part_at p w x.place whole inner i (at.there ∙ ap (λ z. Some z) at.holds) (row_part j inner i less))))
          (λ s rows. record { lengths = ns; are = refl; many = omega (arith, l); at = rows; bound = λ b. All-tail IsLength j ns (bound b) }))

  -- Objects.

  object_of : (o : ℕ) (m : Made) → w.made (suc o) ≡ Some m → IsObject w (Object (suc o)) m
  object_of o m e = record { number = o; is = refl; made = e }

  -- where an object is asked for its place
  opens_so : (o : ℕ) (m : Made) (there : w.made (suc o) ≡ Some m) (y : Value) → IsTold p w (Opens (Object (suc o))) y → (y ≡ object_place (suc o) (Some m)) × (w.shape (ObjectRoot (suc o)) ≡ Some (made_shape p.types m))
  opens_so o m there y told =
      let same = one_object w (Object (suc o)) told.0 m told.1 (object_of o m there) in
      (told.2 ∙ ap (λ z. object_place (suc o) (Some z)) same, told.3 ∙ ap (λ z. Some (made_shape p.types z)) same)

  pub dereferenced_typed : (P : Location → Type 0) (u : TType) (b : TypeId) → target p.types u ≡ Some b → ((o : ℕ) (m : Made) → comes_to p.types (id_of_made m.type) b ≡ true → w.shape (ObjectRoot o) ≡ Some (made_shape p.types m) → P (location_of o m)) → (v : Value) → Of u v → Ok P (dereferenced v)
  dereferenced_typed P u b to so v is = by (nil_or p w (Extends p b) v (of_target p w u b v to is))
    where
      by : (v ≡ Object 0) ⊎ IsMadeAs p w (Extends p b) v → Ok P (dereferenced v)
      by (inl nil) = subst (λ z. Ok P (dereferenced z)) (sym nil) tt
      by (inr a) =
          let object = a.object in
          let o = object.number in
          subst (λ z. Ok P (dereferenced z)) (sym object.is) (
            (a.made, object_of o a.made object.made),
            λ y told.
                let x = opens_so o a.made object.made y told in
                subst (λ z. P (place_in z)) (sym x.0) (so (suc o) a.made a.is x.1),
          )

  sizes_typed : (o : ℕ) (m : Made) → w.made (suc o) ≡ Some m → (ns : List ℕ) (d : ℕ) → ((j : ℕ) → slice_get ns j ≡ slice_get m.lengths (d + j)) → d + length ns ≡ length m.lengths → Ok (λ vs. vs ≡ map (λ n. Int (pos n)) ns) (sizes_from (Object (suc o)) d (length ns))
  sizes_typed o m there [] d all long = refl
  sizes_typed o m there (n ∷ ns) d all long = (
    (m, object_of o m there, omega (arith, long)),
    λ y told.
        let z : d + 0 ≡ d = omega arith in
        let get : slice_get m.lengths d ≡ Some n = ap (slice_get m.lengths) (sym z) ∙ sym (all 0) in
        let same = one_object w (Object (suc o)) told.0 m told.1 (object_of o m there) in
        let is : y ≡ Int (pos n) = told.2 ∙ ap (λ x. length_in d (Some x)) same ∙ ap (λ l. Int (pos (unwrap_or l 0))) get in
        typed_bind p w here (λ vs. vs ≡ map (λ n. Int (pos n)) ns) (λ vs. vs ≡ map (λ n. Int (pos n)) (n ∷ ns)) (sizes_from (Object (suc o)) (suc d) (length ns)) (λ vs. Val (y ∷ vs))
        (sizes_typed o m there ns (suc d) (λ j. let f : d + suc j ≡ suc d + j = omega arith in all (suc j) ∙ ap (slice_get m.lengths) f) (omega (arith, long))) (λ vs h. (λ j. is j ∷ h j)),
  )

  -- an open array that is an object
  pub spread_typed : (v t : TType) (u : TypeId) (j : ℕ) → target p.types v ≡ Some u → is_open (row_of p.types u) ≡ true → j ≡ open_dimensions p.types u → open_element p.types u ≡ id_of t → (y : Value) → Of v y → Ok (AreFound p w (Unit {0}) j t) (spread y j)
  spread_typed v t u j to opens many element y is = by (nil_or p w (Extends p u) y (of_target p w v u y to is))
    where
      by : (y ≡ Object 0) ⊎ IsMadeAs p w (Extends p u) y → Ok (AreFound p w (Unit {0}) j t) (spread y j)
      by (inl nil) = subst (λ z. Ok (AreFound p w (Unit {0}) j t) (spread z j)) (sym nil) tt
      by (inr a) =
          let object = a.object in
          let o = object.number in
          let m = a.made in
          let same = rows_made p typed m u a.is opens in
          let l = open_lengths p m (row_of p.types (id_of_made m.type)) (ap (λ x. is_open (row_of p.types x)) same ∙ opens) a.lengths in
          let long : length m.lengths ≡ j = l.0 ∙ ap (open_dimensions p.types) same ∙ sym many in
          let location : Location = record (location_of (suc o) m) { type = 0 } in
          subst (λ z. Ok (AreFound p w (Unit {0}) j t) (spread z j)) (sym object.is) (
            (m, object_of o m object.made),
            λ z told.
                let x = opens_so o m object.made z told in
                subst (λ q. Ok (AreFound p w (Unit {0}) j t) (bind (sizes_from (Object (suc o)) 0 j) (λ ns. found (record (place_in q) { type = 0 }) ns))) (sym x.0)
                (subst (λ n. Ok (AreFound p w (Unit {0}) n t) (bind (sizes_from (Object (suc o)) 0 n) (λ ns. found location ns))) long
                (typed_bind p w here (λ vs. vs ≡ map (λ n. Int (pos n)) m.lengths) (AreFound p w (Unit {0}) (length m.lengths) t) (sizes_from (Object (suc o)) 0 (length m.lengths)) (λ ns. found location ns)
                (sizes_typed o m object.made m.lengths 0 (λ i. let n : i ≡ 0 + i = omega arith in ap (slice_get m.lengths) n) (omega arith))
                (λ vs h. record { lengths = m.lengths; are = h; many = refl; at = opened_found p w typed (suc o) m x.1 u t same opens element; bound = λ b. l.1 }))),
          )

  -- Tests of types.

  -- an object, or NIL, of which its type is asked
  tests_typed : (R : Value → Type 0) (u : TType) (k : ℕ) (at_nil : Doing Value) (on : Value → Value → Doing Value) → is_reference p.types u ≡ true → (v : Value) → Of u v → Ok R at_nil →
      ((o : ℕ) → IsMadeAs p w (λ m. Unit {0}) (Object (suc o)) → (m : Made) → IsObject w (Object (suc o)) m → Ok R (on (Object (suc o)) (Flag (comes_to p.types (id_of_made m.type) (id_of_made (suc k)))))) →
      (t : Value → Doing Value) → t (Object 0) ≡ at_nil → ((o : ℕ) → t (Object (suc o)) ≡ bind (ask (Tests (Object (suc o)) (suc k))) (on (Object (suc o)))) → Ok R (t v)
  tests_typed R u k at_nil on ref v is none some t zero_is suc_is = by (nil_or p w (λ m. Unit {0}) v (some_object p w typed.predeclared u v ref is))
    where
      by : (v ≡ Object 0) ⊎ IsMadeAs p w (λ m. Unit {0}) v → Ok R (t v)
      by (inl nil) = subst (λ z. Ok R (t z)) (sym nil) (subst (Ok R) (sym zero_is) none)
      by (inr a) =
          let object = a.object in
          let o = object.number in
          let made = object_of o a.made object.made in
          subst (λ z. Ok R (t z)) (sym object.is)
          (subst (Ok R) (sym (suc_is o)) (
            (a.made, made, k, refl),
            λ y told. subst (λ z. Ok R (on (Object (suc o)) z)) (sym told.2) (some o (record { made = a.made; object = made; lengths = a.lengths; is = tt }) told.0 told.1),
          ))

  pub instance_typed : (u : TType) (k : ℕ) → is_reference p.types u ≡ true → (v : Value) → Of u v → Ok (IsValueOf type.Boolean) (is_instance v k)
  instance_typed u k ref v is =
      tests_typed (IsValueOf type.Boolean) u k (Val (Flag false)) (λ x y. Val y) ref v is (false, refl) (λ o a m object. (comes_to p.types (id_of_made m.type) (id_of_made (suc k)), refl)) (λ z. is_instance z k) refl (λ o. refl)

  -- what has passed a guard
  abbrev Passes : TType → ℕ → Type 0
  Passes t k = (t ≡ type.Any) ⊎ ((b : TypeId) × (target p.types t ≡ Some b) × (comes_to p.types (id_of_made (suc k)) b ≡ true))

  passed_is : (t : TType) (k o : ℕ) (m : Made) → IsMadeAs p w (λ m. Unit {0}) (Object (suc o)) → IsObject w (Object (suc o)) m → comes_to p.types (id_of_made m.type) (id_of_made (suc k)) ≡ true → Passes t k → Of t (Object (suc o))
  passed_is t k o m a object passes (inl any) =
      to_any p w typed.predeclared t (Object (suc o)) any (made_reference p w (λ m. Unit {0}) (Object (suc o)) a.made a.object a.lengths tt)
  passed_is t k o m a object passes (inr b) =
      let same = one_object w (Object (suc o)) m a.made object a.object in
      to_target p w t b.0 (Object (suc o)) b.1
      (made_reference p w (Extends p b.0) (Object (suc o)) a.made a.object a.lengths
      (comes_on p.types typed.ranked (id_of_made a.made.type) (id_of_made (suc k)) b.0 (subst (λ z. comes_to p.types (id_of_made z.type) (id_of_made (suc k)) ≡ true) same passes) b.2))

  pub guarded_typed : (t u : TType) (k : ℕ) → is_reference p.types u ≡ true → Passes t k → (v : Value) → Of u v → Ok (Of t) (guarded v k)
  guarded_typed t u k ref gives v is =
      tests_typed (Of t) u k (Traps 3 0) (λ x b. if is_true b then Val x else Traps 3 0) ref v is tt
      (λ o a m object. by o a m object (comes_to p.types (id_of_made m.type) (id_of_made (suc k))) refl) (λ z. guarded z k) refl (λ o. refl)
    where
      by : (o : ℕ) → IsMadeAs p w (λ m. Unit {0}) (Object (suc o)) → (m : Made) → IsObject w (Object (suc o)) m → (b : Bool) → comes_to p.types (id_of_made m.type) (id_of_made (suc k)) ≡ b → Ok (Of t) (if is_true (Flag b) then Val (Object (suc o)) else Traps 3 0)
      by o a m object true passes = passed_is t k o m a object passes gives
      by o a m object false fails = tt

  -- Calls.

  -- a procedure that is called is handed what it takes
  pub asked_typed : (how : Manner) (n home : ℕ) (q : Procedure) → by_number n (routines p) ≡ Some (routine_of home q) → (us : List Value) → Given p w q.parameters (arguments_in (is_some q.of) us) → IsCalledOn p w.made q.of us → Ok (IsAnswer p w q.result) (ask (Calls how n us))
  asked_typed how n home q there us given on = ((routine_of home q, there, given, on), λ v told. told (routine_of home q) there)

  pub method_given : (q : Procedure) (t o : ℕ) → q.of ≡ Some t → (vs : List Value) → Given p w q.parameters vs → Given p w q.parameters (arguments_in (is_some q.of) (Object o ∷ vs))
  method_given q t o is vs given = subst (λ b. Given p w q.parameters (arguments_in (is_some b) (Object o ∷ vs))) (sym is) given

  pub method_on : (q : Procedure) (t o : ℕ) → q.of ≡ Some t → (vs : List Value) → IsSelf p w.made (Some t) o → IsCalledOn p w.made q.of (Object o ∷ vs)
  method_on q t o is vs self = subst (λ b. IsCalledOn p w.made b (Object o ∷ vs)) (sym is) (o, vs, refl, self)

  -- the method that an object's own type has in a slot
  module _ (t k : ℕ) (q : Procedure) (is : method_in p t k ≡ Some q) where
    -- an object of the type or of an extension
    abbrev IsLike : ℕ → Made → Type 0
    IsLike o m = (w.made (suc o) ≡ Some m) × HasLengths p (row_of p.types (id_of_made m.type)) m × (comes_to p.types (id_of_made m.type) (id_of (type.Named t)) ≡ true)

    -- what it has in the slot, and that it is an object on which this is called
    pub record IsSlot (o d : ℕ) : Type 0 where
      pub home : ℕ
      pub method : Procedure
      pub there : by_number (method_number p d k) (routines p) ≡ Some (routine_of home method)
      pub formals : HasFormals p.types method q
      pub self : ℕ
      pub of : method.of ≡ Some self
      pub on : IsSelf p w.made (Some self) (suc o)

    slot_is : (o : ℕ) (m : Made) → IsLike o m → (d : ℕ) → m.type ≡ suc d → comes_to p.types (id_of_made (suc d)) (id_of (type.Named t)) ≡ true → IsSlot o d
    slot_is o m a d e c =
        let r = typed.methods.overridden d t k q c is in
        let f = typed.methods.found d k r.0 r.1 in
        let itself : comes_to p.types (id_of_made m.type) (id_of (type.Named d)) ≡ true = subst (λ y. comes_to p.types (id_of_made m.type) (id_of_made y) ≡ true) e (comes_same p.types (id_of_made m.type)) in
        let extends = comes_on p.types typed.ranked (id_of_made m.type) (id_of (type.Named d)) (id_of (type.Named f.self)) itself f.extends in
        record { home = f.home; method = r.0; there = f.there; formals = r.2.0; self = f.self; of = f.is; on = (o, m, refl, a.0, a.1, extends) }

    dispatched_typed : (o : ℕ) (m : Made) → IsLike o m → (vs : List Value) → Given p w q.parameters vs → Ok (IsAnswer p w q.result) (dispatched p (Object (suc o)) t k vs m.type)
    dispatched_typed o m a vs given = by m.type refl a.2
      where
        by : (d : ℕ) → m.type ≡ d → comes_to p.types (id_of_made d) (id_of (type.Named t)) ≡ true → Ok (IsAnswer p w q.result) (dispatched p (Object (suc o)) t k vs d)
        by zero e c = absurd (no_type p typed t c)
        by (suc d) e c =
            let x = slot_is o m a d e c in
            let n = method_number p d k in
            let us = Object (suc o) ∷ vs in
            let given' = given_alike p w x.method.parameters q.parameters vs x.formals.0 given in
            subst (λ b. Ok (IsAnswer p w q.result) (if b then ask (Calls ByType n us) else Traps 1 0)) (sym c)
            (subst (λ z. Ok (IsAnswer p w z) (ask (Calls ByType n us))) x.formals.1
            (asked_typed ByType n x.home x.method x.there us (method_given x.method x.self (suc o) x.of vs given') (method_on x.method x.self (suc o) x.of vs x.on)))

    -- a method is called on a value of the type
    pub sent_typed : is_object (row_of p.types (id_of (type.Named t))) ≡ true → (v : Value) → Of (type.Named t) v → (vs : List Value) → Given p w q.parameters vs → Ok (IsAnswer p w q.result) (sent p v t k vs)
    sent_typed object v has vs given =
        let id = id_of (type.Named t) in by (nil_or p w (Extends p id) v (of_target p w (type.Named t) id v (object_target p.types id (row_of p.types id) object) has))
      where
        by : (v ≡ Object 0) ⊎ IsMadeAs p w (Extends p (id_of (type.Named t))) v → Ok (IsAnswer p w q.result) (sent p v t k vs)
        by (inl nil) = subst (λ z. Ok (IsAnswer p w q.result) (sent p z t k vs)) (sym nil) tt
        by (inr a) =
            let object = a.object in
            let o = object.number in
            subst (λ z. Ok (IsAnswer p w q.result) (sent p z t k vs)) (sym object.is) (
              (a.made, object_of o a.made object.made),
              λ y told.
                  let x = opens_so o a.made object.made y told in
                  subst (λ z. Ok (IsAnswer p w q.result) (dispatched p (Object (suc o)) t k vs (place_in z).type)) (sym x.0)
                  (dispatched_typed o a.made (object.made, a.lengths, a.is) vs given),
            )

    -- the method as a value, with the object
    module _ (A : Value → Type 0) (gives : (n o home : ℕ) (r : Procedure) → by_number n (routines p) ≡ Some (routine_of home r) → HasFormals p.types r q → IsInstance p w r.of (suc o) → A (Callable n (suc o))) where
      bound_to_typed : (o : ℕ) (m : Made) → IsLike o m → Ok A (bound_to p (Object (suc o)) t k m.type)
      bound_to_typed o m a = by m.type refl a.2
        where
          by : (d : ℕ) → m.type ≡ d → comes_to p.types (id_of_made d) (id_of (type.Named t)) ≡ true → Ok A (bound_to p (Object (suc o)) t k d)
          by zero e c = absurd (no_type p typed t c)
          by (suc d) e c =
              let x = slot_is o m a d e c in
              let instance : IsInstance p w x.method.of (suc o) = subst (λ b. IsInstance p w b (suc o)) (sym x.of) x.on in
              subst (λ b. Ok A (if b then Val (Callable (method_number p d k) (suc o)) else Traps 1 0)) (sym c) (gives (method_number p d k) o x.home x.method x.there x.formals instance)

      pub bound_typed : is_object (row_of p.types (id_of (type.Named t))) ≡ true → (v : Value) → Of (type.Named t) v → Ok A (bound p v t k)
      bound_typed object v has =
          let id = id_of (type.Named t) in by (nil_or p w (Extends p id) v (of_target p w (type.Named t) id v (object_target p.types id (row_of p.types id) object) has))
        where
          by : (v ≡ Object 0) ⊎ IsMadeAs p w (Extends p (id_of (type.Named t))) v → Ok A (bound p v t k)
          by (inl nil) = subst (λ z. Ok A (bound p z t k)) (sym nil) tt
          by (inr a) =
              let object = a.object in
              let o = object.number in
              subst (λ z. Ok A (bound p z t k)) (sym object.is) (
                (a.made, object_of o a.made object.made),
                λ y told.
                    let x = opens_so o a.made object.made y told in
                    subst (λ z. Ok A (bound_to p (Object (suc o)) t k (place_in z).type)) (sym x.0)
                    (bound_to_typed o a.made (object.made, a.lengths, a.is)),
              )

    pub method_value : (u : TType) → IsProcedural p u q → is_object (row_of p.types (id_of (type.Named t))) ≡ true → (v : Value) → Of (type.Named t) v → Ok (Of u) (bound p v t k)
    method_value u fits object v has =
        bound_typed (Of u)
        (λ n o home r there formals instance.
        let stands : StandsFor p w (Some fits.0) n (suc o) = record { home = home; procedure = r; there = there; formals = one_formals p r fits.0 (formals_twice p r q fits.0 formals fits.2); instance = instance } in
        to_pattern p w u fits.0 (Callable n (suc o)) fits.1 (called_by p w (Some fits.0) n (suc o) stands)) object v has

  -- a procedure of a module as a value
  pub procedure_value : (t : TType) (m k : ℕ) (q : Procedure) → procedure_in p m k ≡ Some q → IsProcedural p t q → Of t (Callable (procedure_number p m k) 0)
  procedure_value t m k q is fits =
      let n = procedure_number p m k in
      let stands : StandsFor p w (Some fits.0) n 0 = record {
        home = m;
        procedure = q;
        there = routine_there p m k q is;
        formals = one_formals p q fits.0 fits.2;
        instance = subst (λ o. IsInstance p w o 0) (sym (typed.plain m k q is)) refl;
      } in
      to_pattern p w t fits.0 (Callable n 0) fits.1 stands

  -- what a value of a procedure type stands for is called
  pub applied_typed : (t : ℕ) (q : Procedure) → pattern_of p (type.Named t) ≡ Some q → (v : Value) → Of (type.Named t) v → (vs : List Value) → Given p w q.parameters vs → Ok (IsAnswer p w q.result) (applied v vs)
  applied_typed t q pattern v has vs given =
      let c = a_callable p w (Some q) v (from_pattern p w (type.Named t) q v pattern has) in
      subst (λ z. Ok (IsAnswer p w q.result) (applied z vs)) (sym c.is) (by c.number c.object c.called)
    where
      by : (n o : ℕ) → IsCalledBy p w (Some q) n o → Ok (IsAnswer p w q.result) (applied (Callable n o) vs)
      by zero o h = tt
      by (suc a) o h = subst (λ z. Ok (IsAnswer p w z) (applied (Callable (suc a) o) vs)) over.1 (of h.procedure.of refl o h.instance)
        where
          over : HasFormals p.types h.procedure q
          over = h.formals q refl

          now : Given p w h.procedure.parameters vs
          now = given_alike p w h.procedure.parameters q.parameters vs over.0 given

          of : (f : Option ℕ) → h.procedure.of ≡ f → (o : ℕ) → IsInstance p w f o → Ok (IsAnswer p w h.procedure.result) (ask (Calls ByValue (suc a) (on_instance o vs)))
          of None none o at =
              subst (λ j. Ok (IsAnswer p w h.procedure.result) (ask (Calls ByValue (suc a) (on_instance j vs)))) (sym at)
              (asked_typed ByValue (suc a) h.home h.procedure h.there vs (subst (λ z. Given p w h.procedure.parameters (arguments_in (is_some z) vs)) (sym none) now) (subst (λ z. IsCalledOn p w.made z vs) (sym none) tt))
          of (Some self) some o at =
              subst (λ j. Ok (IsAnswer p w h.procedure.result) (ask (Calls ByValue (suc a) (on_instance j vs)))) (sym at.2)
              (asked_typed ByValue (suc a) h.home h.procedure h.there (Object (suc at.0) ∷ vs) (method_given h.procedure self (suc at.0) some vs now) (method_on h.procedure self (suc at.0) some vs (at.0, at.1, refl, at.3, at.4, at.5)))
