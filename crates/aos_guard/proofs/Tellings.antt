-- What is told of conditions, one behind the other.
use Rattle.std.proofs.Common.{◌≡◌, ◌<◌, ◌≤◌, ◌+◌, ℕ, List, [], ◌∷◌, ◌++◌, length, map, drop, get_or, IsTrue, refl, ◌∙◌, sym, ap, subst, append_assoc, append-nil}
use Rattle.std.specs.Prelude.{◌↔◌, Option}
use Rattle.std.specs.List.{flat_map}
use Rattle.std.proofs.lemmas.List.{drop_more, drop_all}
use Rattle.aos_code.specs.declared.report.AwaitRec.{AwaitRec}
use Rattle.aos_typed.specs.Conditions.{Awaited, Condition, condition_in, conditions, conditions_of}
use Rattle.aos_typed.specs.Program.{Procedure, Program}
use Rattle.aos_typed.specs.Routines.{routines}
use Rattle.aos_dispatch.specs.declared.routines.Routine.{Routine as CodeRoutine}
use Rattle.aos_dispatch.specs.Routines.{seen_routine, seen_routines}
use Rattle.aos_dispatch.specs.declared.awaits.Await.{Await}
use Rattle.aos_dispatch.specs.Awaits.{seen_await}
use Rattle.aos_uses.specs.declared.uses.Use.{Use}
use Rattle.aos_guard.specs.Awaits.{AreTold, Tells}
use Rattle.aos_uses.specs.Guarded.{Each, Lets}
use Rattle.aos_uses.specs.Uses.{expr_uses}

-- a condition of this module or procedure, as the code found it
abbrev pub found_in : (home : ℕ) → Option Procedure → Await → Condition
found_in h own a = condition_in h own (seen_await a)

abbrev pub found_of : CodeRoutine → List Condition
found_of r = conditions_of (seen_routine r)

module _ (p : Program) where
  pub told_one : (h : ℕ) (own : Option Procedure) (a : Await) (uses : List Use) (t : AwaitRec) → t.module ≡ h → t.pos ≡ a.at → uses ≡ expr_uses p (seen_await a).expression → (IsTrue t.is_local ↔ Each (Lets p h own) uses) → Tells p (found_in h own a) t
  told_one h own a uses t home at is says =
      let f = subst (λ us. IsTrue t.is_local ↔ Each (Lets p h own) us) is says in (home, (at, (f.0, f.1)))

  told_all : (cs ds : List Condition) (ts us : List AwaitRec) → AreTold p cs ts → AreTold p ds us → AreTold p (cs ++ ds) (ts ++ us)
  told_all [] ds [] us h k = k
  told_all [] ds (t ∷ ts) us h k = absurd h
  told_all (c ∷ cs) ds [] us h k = absurd h
  told_all (c ∷ cs) ds (t ∷ ts) us h k = (h.0, told_all cs ds ts us h.1 k)

  -- what is told already is right once what is told of the rest is
  abbrev pub Awaits : (all rest : List Condition) → (told : List AwaitRec) → Type 0
  Awaits all rest told = (ts : List AwaitRec) → AreTold p rest ts → AreTold p all (told ++ ts)

  awaits_first : (all rest : List Condition) → rest ≡ all → Awaits all rest []
  awaits_first all rest same ts h = subst (λ cs. AreTold p cs ts) same h

  awaits_next : (all cs rest more : List Condition) (told us new : List AwaitRec) → rest ≡ cs ++ more → new ≡ told ++ us → AreTold p cs us → Awaits all rest told → Awaits all more new
  awaits_next all cs rest more told us new split put are f ts h =
      subst (λ l. AreTold p all (l ++ ts)) (sym put)
      (subst (AreTold p all) (sym (append_assoc told us ts)) (f (us ++ ts) (subst (λ l. AreTold p l (us ++ ts)) (sym split) (told_all cs more us ts are h))))

  awaits_last : (all rest : List Condition) (told : List AwaitRec) → rest ≡ [] → Awaits all rest told → AreTold p all told
  awaits_last all rest told none f = subst (AreTold p all) (append-nil told) (f [] (subst (λ l. AreTold p l []) (sym none) tt))

  -- the conditions of a routine
  module _ (h : ℕ) (own : Option Procedure) (as' : List Await) where
    twice : (xs : List Await) → map (found_in h own) xs ≡ map (condition_in h own) (map seen_await xs)
    twice [] = refl
    twice (x ∷ xs) = ap (λ l. found_in h own x ∷ l) (twice xs)

    pub told_first : (awaited : List Awaited) → map seen_await as' ≡ awaited → Awaits (map (condition_in h own) awaited) (map (found_in h own) (drop 0 as')) []
    told_first awaited is = awaits_first (map (condition_in h own) awaited) (map (found_in h own) as') (twice as' ∙ ap (map (condition_in h own)) is)

    pub told_next : (all : List Condition) (i : ℕ) (d : Await) (t : AwaitRec) (told new : List AwaitRec) → i < length as' → Tells p (found_in h own (get_or as' i d)) t → new ≡ told ++ t ∷ [] → Awaits all (map (found_in h own) (drop i as')) told → Awaits all (map (found_in h own) (drop (i + 1) as')) new
    told_next all i d t told new lt tells put f =
        let split = ap (map (found_in h own)) (drop_more as' i d lt) in
        awaits_next all (found_in h own (get_or as' i d) ∷ []) (map (found_in h own) (drop i as')) (map (found_in h own) (drop (i + 1) as')) told (t ∷ []) new split put (tells, tt) f

    pub told_last : (all : List Condition) (i : ℕ) (told : List AwaitRec) → length as' ≤ i → Awaits all (map (found_in h own) (drop i as')) told → AreTold p all told
    told_last all i told le f = awaits_last all (map (found_in h own) (drop i as')) told (ap (map (found_in h own)) (drop_all i as' le)) f

  -- those of all routines
  module _ (rs : List CodeRoutine) where
    both_maps : (xs : List CodeRoutine) → flat_map found_of xs ≡ flat_map conditions_of (seen_routines xs)
    both_maps [] = refl
    both_maps (x ∷ xs) = ap (λ l. found_of x ++ l) (both_maps xs)

    pub all_first : seen_routines rs ≡ routines p → Awaits (conditions p) (flat_map found_of (drop 0 rs)) []
    all_first are = awaits_first (conditions p) (flat_map found_of rs) (both_maps rs ∙ ap (flat_map conditions_of) are)

    pub all_next : (i : ℕ) (d : CodeRoutine) (told here new : List AwaitRec) → i < length rs → AreTold p (found_of (get_or rs i d)) here → new ≡ told ++ here → Awaits (conditions p) (flat_map found_of (drop i rs)) told → Awaits (conditions p) (flat_map found_of (drop (i + 1) rs)) new
    all_next i d told here new lt are put f =
        let split = ap (flat_map found_of) (drop_more rs i d lt) in
        awaits_next (conditions p) (found_of (get_or rs i d)) (flat_map found_of (drop i rs)) (flat_map found_of (drop (i + 1) rs)) told here new split put are f

    pub all_last : (i : ℕ) (told : List AwaitRec) → length rs ≤ i → Awaits (conditions p) (flat_map found_of (drop i rs)) told → AreTold p (conditions p) told
    all_last i told le f = awaits_last (conditions p) (flat_map found_of (drop i rs)) told (ap (flat_map found_of) (drop_all i rs le)) f
