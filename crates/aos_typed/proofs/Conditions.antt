-- Where the AWAITs of a program are numbered in order, each number leads to its condition; and the walk that numbers them does so.
use Rattle.std.proofs.Common.{◌≡◌, refl, sym, ap, ◌∙◌, subst, ℕ, suc, ◌+◌, arith, List, [], ◌∷◌, ◌++◌, length, map, sum_by, Option, Some, None, All}
use Rattle.std.specs.List.{flat_map, slice_get}
use Rattle.std.proofs.lemmas.List.{append_assoc, map-append, length-append, length-map}
use Rattle.std.proofs.lemmas.List.Sums.{sum_by-cons}
use Rattle.std.proofs.lemmas.List.Elements.{All-nil, All-cons}
use Rattle.aos_typed.specs.Program.{Stat, Assign, Copy, PutText, If, Case, While, Repeat, Loop, Exit, For, Block, Await, Assert, Halt, Change, Perform, Return, New, Make, With, WithRecord, Out, Stats, Nothing, Then, Arms, Otherwise, Arm, Cases, NoElse, Else, OfLabels, Procedure, Method, ObjectType, Module, Program}
use Rattle.aos_typed.specs.Routines.{Routine, routine_of, bodies_from, procedures_from, methods_from, routines}
use Rattle.aos_typed.specs.Conditions.{Awaited, awaited, awaited_in, awaited_in_arms, awaited_in_cases, Condition, condition_in, conditions_of, conditions, awaits, IsNumbered, AreNumbered, AreArmsNumbered, AreCasesNumbered, AreAllNumbered, HasNumbers, IsLinked, AreLinked, AreArmsLinked, AreCasesLinked, IsLinkedIn, renumbered, stats_renumbered, arms_renumbered, cases_renumbered, body_renumbered, procedure_renumbered, procedures_renumbered, methods_renumbered, awaits_in_procedures, awaits_in_methods, modules_renumbered, objects_renumbered, numbered}

-- Links.

at_seam : {A : Type 0} (xs : List A) (y : A) (ys : List A) (n : ℕ) → length xs ≡ n → slice_get (xs ++ y ∷ ys) n ≡ Some y
at_seam xs y ys n l = subst (λ k. slice_get (xs ++ y ∷ ys) k ≡ Some y) l (by xs)
  where
    by : (zs : List _) → slice_get (zs ++ y ∷ ys) (length zs) ≡ Some y
    by [] = refl
    by (z ∷ zs) = by zs

module _ (cs : List Condition) (home : ℕ) (own : Option Procedure) where
  -- conditions of this routine
  abbrev Own : List Awaited → List Condition
  Own as' = map (condition_in home own) as'

  -- so many stand before those of some AWAITs
  record Stands (n : ℕ) (as' : List Awaited) : Type 0 where
    before : List Condition
    behind : List Condition
    so_many : length before ≡ n
    is : cs ≡ before ++ (Own as' ++ behind)

  parts : (as' bs : List Awaited) (behind : List Condition) → Own (as' ++ bs) ++ behind ≡ Own as' ++ (Own bs ++ behind)
  parts as' bs behind = ap (λ l. l ++ behind) (map-append (condition_in home own) as' bs) ∙ append_assoc (Own as') (Own bs) behind

  first : (n : ℕ) (as' bs : List Awaited) → Stands n (as' ++ bs) → Stands n as'
  first n as' bs s =
      record { before = s.before; behind = Own bs ++ s.behind; so_many = s.so_many; is = s.is ∙ ap (λ l. s.before ++ l) (parts as' bs s.behind) }

  rest : (n : ℕ) (as' bs : List Awaited) → Stands n (as' ++ bs) → Stands (n + length as') bs
  rest n as' bs s =
      record {
        before = s.before ++ Own as';
        behind = s.behind;
        so_many = length-append s.before (Own as') ∙ (λ i. s.so_many i + length-map as' (condition_in home own) i);
        is = s.is ∙ (ap (λ l. s.before ++ l) (parts as' bs s.behind) ∙ sym (append_assoc s.before (Own as') (Own bs ++ s.behind)));
      }

  mutual
    stat_linked : (s : Stat) (n : ℕ) → Stands n (awaited s) → IsNumbered n s → IsLinked cs home own s
    stat_linked (If at arms) n st h = arms_linked arms n st h
    stat_linked (Case at e cases) n st h = cases_linked cases n st h
    stat_linked (While at e body) n st h = stats_linked body n st h
    stat_linked (Repeat at body e) n st h = stats_linked body n st h
    stat_linked (Loop at body) n st h = stats_linked body n st h
    stat_linked (For at w p from to step body) n st h = stats_linked body n st h
    stat_linked (Block at exclusive body) n st h = stats_linked body n st h
    stat_linked (Await at k e) n st h =
        let c : Condition = record { home = home; own = own; at = at; expression = e } in
        ap (λ l. slice_get l k) st.is ∙ at_seam st.before c st.behind k (st.so_many ∙ sym h)
    stat_linked (With at e body) n st h = stats_linked body n st h
    stat_linked (WithRecord at p body) n st h = stats_linked body n st h
    stat_linked (Assign at t p e) n st h = tt
    stat_linked (Copy at t p q) n st h = tt
    stat_linked (PutText at strict a b) n st h = tt
    stat_linked (Exit at) n st h = tt
    stat_linked (Assert at e code) n st h = tt
    stat_linked (Halt at code) n st h = tt
    stat_linked (Change at c p e) n st h = tt
    stat_linked (Perform at c more) n st h = tt
    stat_linked (Return at e) n st h = tt
    stat_linked (New at p t more) n st h = tt
    stat_linked (Make at p t ns) n st h = tt
    stat_linked (Out at call) n st h = tt

    stats_linked : (ss : Stats) (n : ℕ) → Stands n (awaited_in ss) → AreNumbered n ss → AreLinked cs home own ss
    stats_linked Nothing n st h = tt
    stats_linked (Then s ss) n st h =
        (stat_linked s n (first n (awaited s) (awaited_in ss) st) h.0, stats_linked ss (n + length (awaited s)) (rest n (awaited s) (awaited_in ss) st) h.1)

    arms_linked : (arms : Arms) (n : ℕ) → Stands n (awaited_in_arms arms) → AreArmsNumbered n arms → AreArmsLinked cs home own arms
    arms_linked (Otherwise ss) n st h = stats_linked ss n st h
    arms_linked (Arm e ss arms) n st h = (
      stats_linked ss n (first n (awaited_in ss) (awaited_in_arms arms) st) h.0,
      arms_linked arms (n + length (awaited_in ss)) (rest n (awaited_in ss) (awaited_in_arms arms) st) h.1,
    )

    cases_linked : (cases : Cases) (n : ℕ) → Stands n (awaited_in_cases cases) → AreCasesNumbered n cases → AreCasesLinked cs home own cases
    cases_linked NoElse n st h = tt
    cases_linked (Else ss) n st h = stats_linked ss n st h
    cases_linked (OfLabels rs ss cases) n st h = (
      stats_linked ss n (first n (awaited_in ss) (awaited_in_cases cases) st) h.0,
      cases_linked cases (n + length (awaited_in ss)) (rest n (awaited_in ss) (awaited_in_cases cases) st) h.1,
    )

all_linked : (cs : List Condition) (rs : List Routine) (n : ℕ) (before : List Condition) → length before ≡ n → cs ≡ before ++ flat_map conditions_of rs → AreAllNumbered n rs
    → All (λ r. AreLinked cs r.home r.own r.body.statements) rs
all_linked cs [] n before l is h = All-nil _
all_linked cs (r ∷ rs) n before l is h =
    All-cons (λ r. AreLinked cs r.home r.own r.body.statements) r rs
    (stats_linked cs r.home r.own r.body.statements n (record { before = before; behind = flat_map conditions_of rs; so_many = l; is = is }) h.0)
    (all_linked cs rs (n + awaits r.body) (before ++ conditions_of r)
    (length-append before (conditions_of r) ∙ (λ i. l i + length-map (awaited_in r.body.statements) (condition_in r.home r.own) i))
    (is ∙ sym (append_assoc before (conditions_of r) (flat_map conditions_of rs))) h.1)

pub linked : (p : Program) → HasNumbers p → All (IsLinkedIn p) (routines p)
linked p h = all_linked (conditions p) (routines p) 0 [] refl refl h

-- The walk: it changes no condition, and its numbers are in order.

mutual
  awaited_same : (s : Stat) (n : ℕ) → awaited (renumbered n s) ≡ awaited s
  awaited_same (If at arms) n = arms_same arms n
  awaited_same (Case at e cases) n = cases_same cases n
  awaited_same (While at e body) n = stats_same body n
  awaited_same (Repeat at body e) n = stats_same body n
  awaited_same (Loop at body) n = stats_same body n
  awaited_same (For at w p from to step body) n = stats_same body n
  awaited_same (Block at exclusive body) n = stats_same body n
  awaited_same (Await at k e) n = refl
  awaited_same (With at e body) n = stats_same body n
  awaited_same (WithRecord at p body) n = stats_same body n
  awaited_same (Assign at t p e) n = refl
  awaited_same (Copy at t p q) n = refl
  awaited_same (PutText at strict a b) n = refl
  awaited_same (Exit at) n = refl
  awaited_same (Assert at e code) n = refl
  awaited_same (Halt at code) n = refl
  awaited_same (Change at c p e) n = refl
  awaited_same (Perform at c more) n = refl
  awaited_same (Return at e) n = refl
  awaited_same (New at p t more) n = refl
  awaited_same (Make at p t ns) n = refl
  awaited_same (Out at call) n = refl

  stats_same : (ss : Stats) (n : ℕ) → awaited_in (stats_renumbered n ss) ≡ awaited_in ss
  stats_same Nothing n = refl
  stats_same (Then s ss) n = λ i. awaited_same s n i ++ stats_same ss (n + length (awaited s)) i

  arms_same : (arms : Arms) (n : ℕ) → awaited_in_arms (arms_renumbered n arms) ≡ awaited_in_arms arms
  arms_same (Otherwise ss) n = stats_same ss n
  arms_same (Arm e ss arms) n = λ i. stats_same ss n i ++ arms_same arms (n + length (awaited_in ss)) i

  cases_same : (cases : Cases) (n : ℕ) → awaited_in_cases (cases_renumbered n cases) ≡ awaited_in_cases cases
  cases_same NoElse n = refl
  cases_same (Else ss) n = stats_same ss n
  cases_same (OfLabels rs ss cases) n = λ i. stats_same ss n i ++ cases_same cases (n + length (awaited_in ss)) i

-- what is numbered on from a number behind some AWAITs is behind as many others
behind_same : (P : ℕ → Type 0) (n : ℕ) (as' bs : List Awaited) → as' ≡ bs → P (n + length bs) → P (n + length as')
behind_same P n as' bs e h = subst (λ l. P (n + length l)) (sym e) h

mutual
  stat_numbered : (s : Stat) (n : ℕ) → IsNumbered n (renumbered n s)
  stat_numbered (If at arms) n = arms_numbered arms n
  stat_numbered (Case at e cases) n = cases_numbered cases n
  stat_numbered (While at e body) n = stats_numbered body n
  stat_numbered (Repeat at body e) n = stats_numbered body n
  stat_numbered (Loop at body) n = stats_numbered body n
  stat_numbered (For at w p from to step body) n = stats_numbered body n
  stat_numbered (Block at exclusive body) n = stats_numbered body n
  stat_numbered (Await at k e) n = refl
  stat_numbered (With at e body) n = stats_numbered body n
  stat_numbered (WithRecord at p body) n = stats_numbered body n
  stat_numbered (Assign at t p e) n = tt
  stat_numbered (Copy at t p q) n = tt
  stat_numbered (PutText at strict a b) n = tt
  stat_numbered (Exit at) n = tt
  stat_numbered (Assert at e code) n = tt
  stat_numbered (Halt at code) n = tt
  stat_numbered (Change at c p e) n = tt
  stat_numbered (Perform at c more) n = tt
  stat_numbered (Return at e) n = tt
  stat_numbered (New at p t more) n = tt
  stat_numbered (Make at p t ns) n = tt
  stat_numbered (Out at call) n = tt

  stats_numbered : (ss : Stats) (n : ℕ) → AreNumbered n (stats_renumbered n ss)
  stats_numbered Nothing n = tt
  stats_numbered (Then s ss) n =
      let k : ℕ = n + length (awaited s) in (
        stat_numbered s n,
        behind_same (λ m. AreNumbered m (stats_renumbered k ss)) n (awaited (renumbered n s)) (awaited s) (awaited_same s n) (stats_numbered ss k),
      )

  arms_numbered : (arms : Arms) (n : ℕ) → AreArmsNumbered n (arms_renumbered n arms)
  arms_numbered (Otherwise ss) n = stats_numbered ss n
  arms_numbered (Arm e ss arms) n =
      let k : ℕ = n + length (awaited_in ss) in (
        stats_numbered ss n,
        behind_same (λ m. AreArmsNumbered m (arms_renumbered k arms)) n (awaited_in (stats_renumbered n ss)) (awaited_in ss) (stats_same ss n) (arms_numbered arms k),
      )

  cases_numbered : (cases : Cases) (n : ℕ) → AreCasesNumbered n (cases_renumbered n cases)
  cases_numbered NoElse n = tt
  cases_numbered (Else ss) n = stats_numbered ss n
  cases_numbered (OfLabels rs ss cases) n =
      let k : ℕ = n + length (awaited_in ss) in (
        stats_numbered ss n,
        behind_same (λ m. AreCasesNumbered m (cases_renumbered k cases)) n (awaited_in (stats_renumbered n ss)) (awaited_in ss) (stats_same ss n) (cases_numbered cases k),
      )

-- a routine whose body is numbered on from a number, and others behind it
routine_numbered : (r s : Routine) (n : ℕ) (rs : List Routine) → s.body ≡ body_renumbered n r.body → AreAllNumbered (n + awaits r.body) rs → AreAllNumbered n (s ∷ rs)
routine_numbered r s n rs is more = (
  subst (λ b. AreNumbered n b.statements) (sym is) (stats_numbered r.body.statements n),
  behind_same (λ m. AreAllNumbered m rs) n (awaited_in s.body.statements) (awaited_in r.body.statements)
      (ap (λ b. awaited_in b.statements) is ∙ stats_same r.body.statements n) more,
)

-- what comes behind so many AWAITs and more
also : {A : Type 0} (f : A → ℕ) (x : A) (xs : List A) (n : ℕ) (rs : List Routine) → AreAllNumbered (n + sum_by f (x ∷ xs)) rs → AreAllNumbered (n + f x + sum_by f xs) rs
also f x xs n rs h = subst (λ j. AreAllNumbered j rs) (ap (λ j. n + j) (sum_by-cons f x xs) ∙ omega arith) h

none_more : (n : ℕ) (rs : List Routine) → AreAllNumbered (n + 0) rs → AreAllNumbered n rs
none_more n rs h = subst (λ j. AreAllNumbered j rs) (omega arith) h

-- the routines of modules, of types, and of what they declare, once they are numbered
abbrev bodies_so : (m n k : ℕ) → List Module → List Routine
bodies_so m n k xs = bodies_from m (modules_renumbered n k xs)

abbrev of_object : ObjectType → Routine
of_object o = routine_of o.home o.body

abbrev beside_so : (n k : ℕ) → List ObjectType → List Routine
beside_so n k os = map of_object (objects_renumbered n k os)

abbrev declared_so : (m k : ℕ) → List Procedure → List Routine
declared_so m k qs = map (routine_of m) (procedures_renumbered k qs)

abbrev procedures_so : (m n k : ℕ) → List Module → List Routine
procedures_so m n k xs = procedures_from m (modules_renumbered n k xs)

abbrev own_so : (home k : ℕ) → List Method → List Routine
own_so home k ms = map (λ m. routine_of home m.procedure) (methods_renumbered k ms)

abbrev methods_so : (n k : ℕ) → List ObjectType → List Routine
methods_so n k os = methods_from (objects_renumbered n k os)

bodies_numbered : (m n k : ℕ) (xs : List Module) (rs : List Routine) → AreAllNumbered (n + sum_by (λ x. awaits x.body) xs) rs → AreAllNumbered n (bodies_so m n k xs ++ rs)
bodies_numbered m n k [] rs h = none_more n rs h
bodies_numbered m n k (x ∷ xs) rs h =
    let n' : ℕ = n + awaits x.body in
    let k' : ℕ = k + awaits_in_procedures x in
    routine_numbered (record { home = m; own = None; body = x.body }) (record { home = m; own = None; body = body_renumbered n x.body }) n (bodies_so (suc m) n' k' xs ++ rs) refl
    (bodies_numbered (suc m) n' k' xs rs (also (λ y. awaits y.body) x xs n rs h))

beside_numbered : (n k : ℕ) (os : List ObjectType) (rs : List Routine) → AreAllNumbered (n + sum_by (λ o. awaits o.body.body) os) rs → AreAllNumbered n (beside_so n k os ++ rs)
beside_numbered n k [] rs h = none_more n rs h
beside_numbered n k (o ∷ os) rs h =
    let n' : ℕ = n + awaits o.body.body in
    let k' : ℕ = k + awaits_in_methods o in
    routine_numbered (routine_of o.home o.body) (routine_of o.home (procedure_renumbered n o.body)) n (beside_so n' k' os ++ rs) refl
    (beside_numbered n' k' os rs (also (λ y. awaits y.body.body) o os n rs h))

declared_numbered : (m k : ℕ) (qs : List Procedure) (rs : List Routine) → AreAllNumbered (k + sum_by (λ q. awaits q.body) qs) rs → AreAllNumbered k (declared_so m k qs ++ rs)
declared_numbered m k [] rs h = none_more k rs h
declared_numbered m k (q ∷ qs) rs h =
    let k' : ℕ = k + awaits q.body in
    routine_numbered (routine_of m q) (routine_of m (procedure_renumbered k q)) k (declared_so m k' qs ++ rs) refl
    (declared_numbered m k' qs rs (also (λ y. awaits y.body) q qs k rs h))

own_numbered : (home k : ℕ) (ms : List Method) (rs : List Routine) → AreAllNumbered (k + sum_by (λ m. awaits m.procedure.body) ms) rs → AreAllNumbered k (own_so home k ms ++ rs)
own_numbered home k [] rs h = none_more k rs h
own_numbered home k (m ∷ ms) rs h =
    let k' : ℕ = k + awaits m.procedure.body in
    routine_numbered (routine_of home m.procedure) (routine_of home (procedure_renumbered k m.procedure)) k (own_so home k' ms ++ rs) refl
    (own_numbered home k' ms rs (also (λ y. awaits y.procedure.body) m ms k rs h))

-- lists behind one another
grouped : (k : ℕ) (as' bs cs : List Routine) → AreAllNumbered k (as' ++ (bs ++ cs)) → AreAllNumbered k ((as' ++ bs) ++ cs)
grouped k as' bs cs h = subst (λ l. AreAllNumbered k l) (sym (append_assoc as' bs cs)) h

procedures_numbered : (m n k : ℕ) (xs : List Module) (rs : List Routine) → AreAllNumbered (k + sum_by awaits_in_procedures xs) rs → AreAllNumbered k (procedures_so m n k xs ++ rs)
procedures_numbered m n k [] rs h = none_more k rs h
procedures_numbered m n k (x ∷ xs) rs h =
    let n' : ℕ = n + awaits x.body in
    let k' : ℕ = k + awaits_in_procedures x in
    let others = procedures_so (suc m) n' k' xs in
    grouped k (declared_so m k x.procedures) others rs
    (declared_numbered m k x.procedures (others ++ rs) (procedures_numbered (suc m) n' k' xs rs (also awaits_in_procedures x xs k rs h)))

methods_numbered : (n k : ℕ) (os : List ObjectType) → AreAllNumbered k (methods_so n k os)
methods_numbered n k [] = tt
methods_numbered n k (o ∷ os) =
    let n' : ℕ = n + awaits o.body.body in
    let k' : ℕ = k + awaits_in_methods o in
    own_numbered o.home k o.methods (methods_so n' k' os) (methods_numbered n' k' os)

from_none : (n : ℕ) (rs : List Routine) → AreAllNumbered n rs → AreAllNumbered (0 + n) rs
from_none n rs h = subst (λ j. AreAllNumbered j rs) (omega arith) h

all_numbered : (n k j : ℕ) (xs : List Module) (os : List ObjectType) → n ≡ sum_by (λ x. awaits x.body) xs → k ≡ n + sum_by (λ o. awaits o.body.body) os → j ≡ k + sum_by awaits_in_procedures xs
    → AreAllNumbered 0 (bodies_so 0 0 k xs ++ (beside_so n j os ++ (procedures_so 0 0 k xs ++ methods_so n j os)))
all_numbered n k j xs os en ek ej =
    let last : List Routine = methods_so n j os in
    let third : List Routine = procedures_so 0 0 k xs ++ last in
    let second : List Routine = beside_so n j os ++ third in
    let a : AreAllNumbered k third = procedures_numbered 0 0 k xs last (subst (λ i. AreAllNumbered i last) ej (methods_numbered n j os)) in
    let b : AreAllNumbered n second = beside_numbered n j os third (subst (λ i. AreAllNumbered i third) ek a) in
    bodies_numbered 0 0 k xs second (from_none (sum_by (λ x. awaits x.body) xs) second (subst (λ i. AreAllNumbered i second) en b))

pub numbers_in_order : (p : Program) → HasNumbers (numbered p)
numbers_in_order p =
    let beside : ℕ = sum_by (λ x. awaits x.body) p.modules in
    let procedures : ℕ = beside + sum_by (λ o. awaits o.body.body) p.objects in
    let methods : ℕ = procedures + sum_by awaits_in_procedures p.modules in
    all_numbered beside procedures methods p.modules p.objects refl refl refl
