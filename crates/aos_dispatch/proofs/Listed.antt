-- The routines of a program: one more of each kind, and those of a well-typed program are typed.
use Rattle.std.proofs.Common.{◌≡◌, ◌<◌, ℕ, zero, suc, ◌+◌, List, [], ◌∷◌, ◌++◌, length, get_or, map, take, All, None, sym, ap, ◌∙◌, append-nil, append_assoc, arith}
use Rattle.std.proofs.lemmas.List.{map-append}
use Rattle.std.proofs.lemmas.List.Elements.{All-append}
use Rattle.aos_typed.specs.declared.tree.TModule.{TModule}
use Rattle.aos_typed.specs.declared.tree.TObject.{TObject}
use Rattle.aos_typed.specs.Program.{Body, Procedure, Method, Module, ObjectType, Program}
use Rattle.aos_typed.specs.Routines.{Routine, routine_of, bodies_from, methods_from, procedures_from, routines}
use Rattle.aos_typed.specs.Seen.{seen_body, seen_method, seen_module, seen_object, seen_procedure}
use Rattle.aos_typed.specs.WellTyped.{IsProcedure, IsMethod, AreObjectTypes, IsWellTyped}
use Rattle.aos_dispatch.specs.Routines.{IsTyped}
use Rattle.aos_dispatch.proofs.Lists.{next_of, count_of}

abbrev body_of : ℕ → Body → Routine
body_of m b = record { home = m; own = None; body = b }

abbrev of_method : ℕ → Method → Routine
of_method m x = routine_of m x.procedure

bodies_last : (a : ℕ) (xs : List Module) (x : Module) → bodies_from a (xs ++ x ∷ []) ≡ bodies_from a xs ++ body_of (a + length xs) x.body ∷ []
bodies_last a [] x = let e : a ≡ a + 0 = omega arith in ap (λ j. body_of j x.body ∷ []) e
bodies_last a (y ∷ ys) x =
    let e : suc a + length ys ≡ a + suc (length ys) = omega arith in
    ap (λ l. body_of a y.body ∷ l) (bodies_last (suc a) ys x ∙ ap (λ j. bodies_from (suc a) ys ++ body_of j x.body ∷ []) e)

procedures_last : (a : ℕ) (xs : List Module) (x : Module) → procedures_from a (xs ++ x ∷ []) ≡ procedures_from a xs ++ map (routine_of (a + length xs)) x.procedures
procedures_last a [] x =
    let e : a ≡ a + 0 = omega arith in
    append-nil (map (routine_of a) x.procedures) ∙ ap (λ j. map (routine_of j) x.procedures) e
procedures_last a (y ∷ ys) x =
    let e : suc a + length ys ≡ a + suc (length ys) = omega arith in
    ap (λ l. map (routine_of a) y.procedures ++ l) (procedures_last (suc a) ys x ∙ ap (λ j. procedures_from (suc a) ys ++ map (routine_of j) x.procedures) e)
    ∙ sym (append_assoc (map (routine_of a) y.procedures) (procedures_from (suc a) ys) (map (routine_of (a + suc (length ys))) x.procedures))

methods_last : (xs : List ObjectType) (x : ObjectType) → methods_from (xs ++ x ∷ []) ≡ methods_from xs ++ map (of_method x.home) x.methods
methods_last [] x = append-nil (map (of_method x.home) x.methods)
methods_last (y ∷ ys) x =
    ap (λ l. map (of_method y.home) y.methods ++ l) (methods_last ys x)
    ∙ sym (append_assoc (map (of_method y.home) y.methods) (methods_from ys) (map (of_method x.home) x.methods))

-- behind what was there come some, and then more
added : (before so_far now xs ys zs : List Routine) → so_far ≡ before ++ xs → now ≡ so_far ++ ys → zs ≡ xs ++ ys → now ≡ before ++ zs
added before so_far now xs ys zs e f g = f ∙ ap (λ l. l ++ ys) e ∙ append_assoc before xs ys ∙ ap (λ l. before ++ l) (sym g)

module _ (before so_far now : List Routine) where
  -- The body of one more module,
  pub body_more : (ms : List TModule) (k n : ℕ) (m : TModule) → k < length ms → m ≡ get_or ms k m → n ≡ k → so_far ≡ before ++ bodies_from 0 (map seen_module (take k ms)) → now ≡ so_far ++ record { home = n; own = None; body = seen_body m.is_exclusive m.body.items } ∷ [] → now ≡ before ++ bodies_from 0 (map seen_module (take (k + 1) ms))
  body_more ms k n m lt at is f g =
      let xs = map seen_module (take k ms) in
      let there : 0 + length xs ≡ n = omega (arith, count_of seen_module ms k lt, is) in
      added before so_far now (bodies_from 0 xs) _ _ f g
      (ap (bodies_from 0) (next_of seen_module ms k m lt at) ∙ bodies_last 0 xs (seen_module m) ∙ ap (λ j. bodies_from 0 xs ++ body_of j (seen_body m.is_exclusive m.body.items) ∷ []) there)

  -- one more of what each gives one routine, as what objects carry out, a procedure or a method,
  pub one_more : {X Y : Type 0} (see : X → Y) (one : Y → Routine) (xs : List X) (k : ℕ) (x : X) → k < length xs → x ≡ get_or xs k x → so_far ≡ before ++ map one (map see (take k xs)) → now ≡ so_far ++ one (see x) ∷ [] → now ≡ before ++ map one (map see (take (k + 1) xs))
  one_more see one xs k x lt at f g =
      let ys = map see (take k xs) in
      added before so_far now (map one ys) _ _ f g (ap (map one) (next_of see xs k x lt at) ∙ map-append one ys (see x ∷ []))

  -- the procedures of one more module,
  pub procedures_more : (ms : List TModule) (k n : ℕ) (m : TModule) → k < length ms → m ≡ get_or ms k m → n ≡ k → so_far ≡ before ++ procedures_from 0 (map seen_module (take k ms)) → now ≡ so_far ++ map (routine_of n) (map seen_procedure m.procedures.items) → now ≡ before ++ procedures_from 0 (map seen_module (take (k + 1) ms))
  procedures_more ms k n m lt at is f g =
      let xs = map seen_module (take k ms) in
      let there : 0 + length xs ≡ n = omega (arith, count_of seen_module ms k lt, is) in
      added before so_far now (procedures_from 0 xs) _ _ f g
      (ap (procedures_from 0) (next_of seen_module ms k m lt at) ∙ procedures_last 0 xs (seen_module m) ∙ ap (λ j. procedures_from 0 xs ++ map (routine_of j) (map seen_procedure m.procedures.items)) there)

  -- and the methods of one more type
  pub methods_more : (os : List TObject) (k : ℕ) (o : TObject) → k < length os → o ≡ get_or os k o → so_far ≡ before ++ methods_from (map seen_object (take k os)) → now ≡ so_far ++ map (λ m. routine_of o.home m.procedure) (map seen_method o.methods.items) → now ≡ before ++ methods_from (map seen_object (take (k + 1) os))
  methods_more os k o lt at f g =
      let xs = map seen_object (take k os) in
      added before so_far now (methods_from xs) _ _ f g (ap methods_from (next_of seen_object os k o lt at) ∙ methods_last xs (seen_object o))

-- all of them, those of modules first
pub all_added : (p : Program) (ms ns : List Module) (os qs : List ObjectType) (r0 r1 r2 r3 r4 : List Routine) → ms ≡ p.modules → ns ≡ p.modules → os ≡ p.objects → qs ≡ p.objects → r0 ≡ [] → r1 ≡ r0 ++ bodies_from 0 ms → r2 ≡ r1 ++ map (λ o. routine_of o.home o.body) os → r3 ≡ r2 ++ procedures_from 0 ns → r4 ≡ r3 ++ methods_from qs → r4 ≡ routines p
all_added p ms ns os qs r0 r1 r2 r3 r4 em en eo eq none e1 e2 e3 e4 =
    let objects : List ObjectType → List Routine = λ l. map (λ o. routine_of o.home o.body) l in
    let bs = bodies_from 0 p.modules in
    let ps = procedures_from 0 p.modules in
    let xs = methods_from p.objects in
    let f1 : r1 ≡ bs = e1 ∙ (λ i. none i ++ bodies_from 0 (em i)) in
    let f2 : r2 ≡ bs ++ objects p.objects = e2 ∙ (λ i. f1 i ++ objects (eo i)) in
    let f3 : r3 ≡ (bs ++ objects p.objects) ++ ps = e3 ∙ (λ i. f2 i ++ procedures_from 0 (en i)) in
    let f4 : r4 ≡ ((bs ++ objects p.objects) ++ ps) ++ xs = e4 ∙ (λ i. f3 i ++ methods_from (eq i)) in
    f4 ∙ append_assoc (bs ++ objects p.objects) ps xs ∙ append_assoc bs (objects p.objects) (ps ++ xs)

-- The routines of a well-typed program are typed: bodies of modules,
bodies_typed : (p : Program) (a : ℕ) (ms : List Module) → All (IsTyped p) (bodies_from a ms)
bodies_typed p a [] k d lt = absurd (omega arith)
bodies_typed p a (m ∷ ms) zero d lt = tt
bodies_typed p a (m ∷ ms) (suc k) d lt = bodies_typed p (suc a) ms k d (omega arith)

-- what objects carry out,
objects_typed : (p : Program) (t : ℕ) (os : List ObjectType) → AreObjectTypes p t os → All (IsTyped p) (map (λ o. routine_of o.home o.body) os)
objects_typed p t [] h k d lt = absurd (omega arith)
objects_typed p t (o ∷ os) h zero d lt = h.0.body
objects_typed p t (o ∷ os) h (suc k) d lt = objects_typed p (suc t) os h.1 k d (omega arith)

-- procedures,
declared_typed : (p : Program) (a : ℕ) (qs : List Procedure) → All (λ q. IsProcedure p q × (q.of ≡ None)) qs → All (IsTyped p) (map (routine_of a) qs)
declared_typed p a [] h k d lt = absurd (omega arith)
declared_typed p a (q ∷ qs) h zero d lt = (h zero q (omega arith)).0
declared_typed p a (q ∷ qs) h (suc k) d lt = declared_typed p a qs (λ i e l. h (suc i) e (omega (arith, l))) k d (omega arith)

procedures_typed : (p : Program) (a : ℕ) (ms : List Module) → All (λ m. All (λ q. IsProcedure p q × (q.of ≡ None)) m.procedures) ms → All (IsTyped p) (procedures_from a ms)
procedures_typed p a [] h = λ k d lt. absurd (omega arith)
procedures_typed p a (m ∷ ms) h =
    All-append (IsTyped p) (map (routine_of a) m.procedures) (procedures_from (suc a) ms)
    (declared_typed p a m.procedures (h zero m (omega arith)))
    (procedures_typed p (suc a) ms (λ i e l. h (suc i) e (omega (arith, l))))

-- and methods
own_typed : (p : Program) (a t : ℕ) (ms : List Method) → All (λ m. IsMethod p t m.procedure) ms → All (IsTyped p) (map (of_method a) ms)
own_typed p a t [] h k d lt = absurd (omega arith)
own_typed p a t (m ∷ ms) h zero d lt = (h zero m (omega arith)).0
own_typed p a t (m ∷ ms) h (suc k) d lt = own_typed p a t ms (λ i e l. h (suc i) e (omega (arith, l))) k d (omega arith)

methods_typed : (p : Program) (t : ℕ) (os : List ObjectType) → AreObjectTypes p t os → All (IsTyped p) (methods_from os)
methods_typed p t [] h = λ k d lt. absurd (omega arith)
methods_typed p t (o ∷ os) h =
    All-append (IsTyped p) (map (of_method o.home) o.methods) (methods_from os)
    (own_typed p o.home t o.methods h.0.methods) (methods_typed p (suc t) os h.1)

pub routines_typed : (p : Program) → IsWellTyped p → All (IsTyped p) (routines p)
routines_typed p typed =
    let objects = map (λ (o : ObjectType). routine_of o.home o.body) p.objects in
    let procedures = procedures_from 0 p.modules in
    let methods = methods_from p.objects in
    All-append (IsTyped p) (bodies_from 0 p.modules) (objects ++ (procedures ++ methods)) (bodies_typed p 0 p.modules)
    (All-append (IsTyped p) objects (procedures ++ methods) (objects_typed p 0 p.objects typed.parts.objects)
    (All-append (IsTyped p) procedures methods (procedures_typed p 0 p.modules typed.parts.procedures) (methods_typed p 0 p.objects typed.parts.objects)))
