-- A local condition comes out alike over stores that agree on what its lock guards.
use Rattle.std.proofs.Common.{◌≡◌, ◌⊎◌, inl, inr, ℕ, suc, List, [], ◌∷◌, Bool, true, false, Option, Some, None, refl, sym, ap, ◌∙◌, subst}
use Rattle.std.specs.Prelude.{IsTrue, option_and_then, not}
use Rattle.aos_base.specs.Question.{Val, Asks, Traps, Reads, Stores, Copies, PutsText, ComparesTexts, Calls, Ends, Makes, Starts, Enters, Leaves, Awaits, PutsInt, PutsChar, PutsString, PutsNothing, PutsLn, Places, Lengths, Opens, Sizes, Tests}
use Rattle.aos_base.specs.Rooted.{Made, at_root}
use Rattle.aos_base.specs.declared.kernel.LockName.{LockName}
use Rattle.aos_base.specs.declared.kernel.LockName.TheVariants as lock
use Rattle.aos_base.specs.declared.kernel.Verdict.{Verdict}
use Rattle.aos_base.specs.declared.root.Root.{Root}
use Rattle.aos_base.specs.declared.root.Root.TheVariants as root
use Rattle.aos_types.specs.Content.{Content, Fits, element, found}
use Rattle.aos_types.specs.World.{World, read}
use Rattle.aos_typed.specs.declared.tree.TType.{TType}
use Rattle.aos_typed.specs.Conditions.{Condition}
use Rattle.aos_typed.specs.Numbers.{id_of}
use Rattle.aos_typed.specs.Program.{Program}
use Rattle.aos_typed.specs.Routines.{Routine, has_self, self_type}
use Rattle.aos_typed.specs.Sort.{Sort, Plain}
use Rattle.aos_typed.specs.Location.{Location}
use Rattle.aos_typed.specs.Store.{Store, made_in, scalar_in, value_at}
use Rattle.aos_typed.specs.Typing.{Is}
use Rattle.aos_typed.specs.Value.{Value}
use Rattle.aos_typed.specs.Meaning.{Here, Doing, object_in}
use Rattle.aos_typed.specs.Source.{Frame, all_rooted, compared, has_type_in, here_of, judged, known, length_in, lock_of, made_shape, object_place, own_lock}
use Rattle.aos_sim.proofs.Does.{HasScalar, HasTypes, IsSelf}
use Rattle.aos_sim.proofs.States.{shapes_of, top_shape, world_of}
use Rattle.aos_uses.specs.Guarded.{IsGuarded, Lets, MayRead, Spares, is_by_value, is_of_module}
use Rattle.aos_uses.specs.declared.uses.Target.{Target}
use Rattle.aos_uses.specs.declared.uses.Use.{Use}
use Rattle.aos_uses.specs.declared.uses.Use.TheVariants as used
use Rattle.aos_uses.specs.declared.uses.Variable.{Variable}
use Rattle.aos_uses.specs.declared.uses.Variable.TheVariants as variable
use Rattle.aos_escape.specs.Naming.{StoreIs, VariablesAre}
use Rattle.aos_escape.proofs.Values.{known_is, length_is, value_is}
use Rattle.aos_preservation.proofs.Quiet.{lengths_told, made_shaped, places_told, sizes_told, opens_told as opens_typed, tests_told as tests_typed}
use Rattle.aos_preservation.proofs.Trees.{Typed}
use Rattle.aos_stability.specs.Agree.{AgreeOn, AreSame, IsSame}
use Rattle.aos_stability.specs.Locations.{HasFields, IsAt, IsFree, field_of}
use Rattle.aos_stability.proofs.Copies.{HoldCopies, known_copied}
use Rattle.aos_stability.proofs.Law.{IsRead, Law}
use Rattle.aos_stability.proofs.Serving.{is_serves}
use Rattle.aos_stability.proofs.Told.{free_simply, opens_told, tests_told}

-- what stands behind a part is read alike where the part is the same
behind_part : (k : ℕ) (rest : List ℕ) (o : Option (Content Value)) → option_and_then (found (k ∷ rest)) o ≡ option_and_then (found rest) (option_and_then (found (k ∷ [])) o)
behind_part k rest None = refl
behind_part k rest (Some c) = by (element k c)
  where
    by : (d : Option (Content Value)) → option_and_then (found rest) d ≡ option_and_then (found rest) (option_and_then (found []) d)
    by None = refl
    by (Some d) = refl

read_behind : (s t : Store) (r : Root) (k : ℕ) (rest : List ℕ) → IsSame s t r k → read r (k ∷ rest) (all_rooted [] s) ≡ read r (k ∷ rest) (all_rooted [] t)
read_behind s t r k rest e =
    behind_part k rest (at_root r (all_rooted [] s)) ∙ ap (option_and_then (found rest)) e ∙ sym (behind_part k rest (at_root r (all_rooted [] t)))

-- what a local condition may use spares all
pub looks_spare : (p : Program) (d : Condition) (n : ℕ) (r : Routine) (u : Use) → Lets p d.home d.own u → (v : Variable) → IsGuarded p v → Spares p v n r u
looks_spare p d n r (used.Writes t x) h v g = absurd h
looks_spare p d n r (used.Reads t) h v g = tt
looks_spare p d n r (used.Varies t) h v g = absurd h
looks_spare p d n r used.Follows h v g = tt
looks_spare p d n r used.SelfValue h v g = tt
looks_spare p d n r used.Calls h v g = tt
looks_spare p d n r (used.Raises t k) h v g = tt
looks_spare p d n r (used.Finds t k) h v g = tt
looks_spare p d n r used.Binds h v g = tt
looks_spare p d n r used.Makes h v g = tt

module _ (p : Program) (typed : HasTypes p) (s t : Store) (f : Frame) (fs : List Frame) (fits : Fits (Is p (world_of p s.made (shapes_of (f ∷ fs)))) f.shape f.variables)
    (typed_at : (ty : TType) (a : Location) → HasScalar p (world_of p s.made (shapes_of (f ∷ fs))) a (Plain (id_of ty)) → Is p (world_of p s.made (shapes_of (f ∷ fs))) (Plain (id_of ty)) (value_at a (all_rooted (f ∷ fs) s)))
    (variables : VariablesAre (IsFree p (made_in s)) (f ∷ fs)) (store : StoreIs (IsFree p (made_in s)) s) where
  abbrev now : World Sort
  now = world_of p s.made (shapes_of (f ∷ fs))

  abbrev made : ℕ → Option Made
  made = made_in s

  abbrev here : Here
  here = here_of f fs

  abbrev c : Content Value
  c = f.variables

  at : now.shape (root.Frame here.below) ≡ Some f.shape
  at = top_shape p s.made f fs

  abbrev shaped : (o : ℕ) (m : Made) → now.made o ≡ Some m → now.shape (root.Object o) ≡ Some (made_shape p.types m)
  shaped = made_shaped p s.made (shapes_of (f ∷ fs))

  module _ (l : LockName) (agree : AgreeOn p l s t) (d : Condition) (n : ℕ) (r : Routine) (own : r.own ≡ d.own) (is_self_of : IsSelf p made (self_type r.own) here.self) (copies : HoldCopies p r.own f.variables) (x : Bool) (lock_is : l ≡ lock_of f) (home : d.home ≡ f.home) (alone : has_self d.own ≡ false → f.object ≡ 0) where
    abbrev LawAt : {A : Type 0} → (A → Type 0) → Doing A → Type 0
    LawAt R e = Law p typed made n r here is_self_of x (Lets p d.home d.own) (looks_spare p d n r) R e

    abbrev IsSeen : Location → Type 0
    IsSeen a = IsRead p typed made n r here is_self_of x (Lets p d.home d.own) (looks_spare p d n r) a

    same_module : (m k : ℕ) → MayRead p d.home d.own false (variable.Module m k) → IsSame s t (root.Module m) k
    same_module m k may = by (is_of_module p m k) refl may.0
      where
        own_lock_is : d.home ≡ m → has_self d.own ≡ false → l ≡ lock.Module m
        own_lock_is is none = lock_is ∙ (λ i. own_lock (sym home i) (alone none i)) ∙ ap (λ z. lock.Module z) is

        by : (b : Bool) → is_of_module p m k ≡ b → (not b ≡ true) ⊎ ((d.home ≡ m) × (has_self d.own ≡ false)) → IsSame s t (root.Module m) k
        by b e (inr h) = subst (λ z. AreSame p z s t) (own_lock_is h.0 h.1) agree.guarded k may.1
        by false e (inl none) = agree.constants m k e may.1
        by true e (inl none) = absurd (cc none)

    same_field : (o k u : ℕ) (m : Made) → made (suc o) ≡ Some m → HasFields p m → IsGuarded p (field_of p m k) → suc o ≡ f.object → IsSame s t (root.Object (suc o)) k
    same_field o k u m there fields g self =
        let is : l ≡ lock.Object (suc o) = lock_is ∙ ap (own_lock f.home) (sym self) in subst (λ z. AreSame p z s t) is agree.guarded m there fields k g

    -- what is read is the same
    same_read : (a : Location) → IsSeen a → read a.root a.path (all_rooted (f ∷ fs) s) ≡ read a.root a.path (all_rooted (f ∷ fs) t)
    same_read a seen = by (seen.0).of refl seen.1 seen.2
      where
        tg : Target
        tg = seen.0

        by : (v : Variable) → tg.of ≡ v → IsAt p made r.own here.self a tg → Lets p d.home d.own (used.Reads tg) → read a.root a.path (all_rooted (f ∷ fs) s) ≡ read a.root a.path (all_rooted (f ∷ fs) t)
        by v e at looks = of v (subst (λ z. IsAt p made r.own here.self a (record { of = z; through_self = tg.through_self })) e at) (subst (λ z. MayRead p d.home d.own tg.through_self z) e looks)
          where
            of : (v : Variable) → IsAt p made r.own here.self a (record { of = v; through_self = tg.through_self }) → MayRead p d.home d.own tg.through_self v → read a.root a.path (all_rooted (f ∷ fs) s) ≡ read a.root a.path (all_rooted (f ∷ fs) t)
            of (variable.Module m k) at may =
                subst (λ z. read z a.path (all_rooted (f ∷ fs) s) ≡ read z a.path (all_rooted (f ∷ fs) t)) (sym at.0)
                (subst (λ z. read (root.Module m) z (all_rooted (f ∷ fs) s) ≡ read (root.Module m) z (all_rooted (f ∷ fs) t)) (sym at.1.1) (read_behind s t (root.Module m) k at.1.0 (same_module m k may)))
            of (variable.Field u k) at may =
                subst (λ z. read z a.path (all_rooted (f ∷ fs) s) ≡ read z a.path (all_rooted (f ∷ fs) t)) (sym at.2)
                (subst (λ z. read (root.Object (suc at.0)) z (all_rooted (f ∷ fs) s) ≡ read (root.Object (suc at.0)) z (all_rooted (f ∷ fs) t)) (sym at.6.1)
                (read_behind s t (root.Object (suc at.0)) k at.6.0 (same_field at.0 k u at.1 at.3 at.4 (subst (IsGuarded p) (sym at.5) may.1) (at.7 may.0))))
            of variable.Local at may = subst (λ z. read z a.path (all_rooted (f ∷ fs) s) ≡ read z a.path (all_rooted (f ∷ fs) t)) (sym at.1) refl
            of variable.Passed at may = absurd may
            of (variable.Opened k) at may =
                let frame = at.1 (subst (λ o. IsTrue (is_by_value o k)) (sym own) may) in subst (λ z. read z a.path (all_rooted (f ∷ fs) s) ≡ read z a.path (all_rooted (f ∷ fs) t)) (sym frame.1) refl
            of variable.Heap at may = absurd may

    abbrev JudgedAt : Store → Doing Value → Verdict
    JudgedAt z e = judged p.types (made_in z) c (all_rooted (f ∷ fs) z) e

    -- objects are what they were
    same_made : (o : ℕ) (m : Made) → made o ≡ Some m → made o ≡ made_in t o
    same_made o m e = e ∙ sym (agree.made o m e)

    -- evaluated question by question
    pub judged_same : (R Q : Value → Type 0) (e : Doing Value) → Typed p now here R e → LawAt Q e → JudgedAt s e ≡ JudgedAt t e
    judged_same R Q (Val v) h law = refl
    judged_same R Q (Traps i code) h law = refl
    judged_same R Q (Asks (Reads ty a) k) h law =
        let v = value_at a (all_rooted (f ∷ fs) s) in
        let is = typed_at ty a h.0.1 in
        let serves = is_serves p typed now ty v is (value_is p (IsFree p made) (free_simply p made) a (f ∷ fs) s variables store) in
        judged_same R Q (k v) (h.1 v is) (law.1 v serves)
        ∙ ap (λ z. JudgedAt t (k (scalar_in z))) (same_read a law.0)
    judged_same R Q (Asks (ComparesTexts o a i b j) k) h law =
        let v = compared o (read a.root a.path (all_rooted (f ∷ fs) s)) (read b.root b.path (all_rooted (f ∷ fs) s)) in
        judged_same R Q (k v) (h.1 v tt) (law.1 v (_, refl))
        ∙ (λ q. JudgedAt t (k (compared o (same_read a law.0.0 q) (same_read b law.0.1 q))))
    judged_same R Q (Asks (Places a) k) h law =
        let v = known c a in
        judged_same R Q (k v) (h.1 v (places_told p now here f.shape c at fits shaped a h.0)) (law.1 v (known_is p (IsFree p made) (free_simply p made) made c variables.0 a, known_copied p r.own c copies a))
    judged_same R Q (Asks (Lengths a) k) h law =
        let v = known c a in
        judged_same R Q (k v) (h.1 v (lengths_told p now here f.shape c at fits shaped a h.0)) (law.1 v (known_is p (IsFree p made) (free_simply p made) made c variables.0 a))
    judged_same R Q (Asks (Opens u) k) h law =
        let v = object_place (object_in u) (made (object_in u)) in
        judged_same R Q (k v) (h.1 v (opens_typed p now here f.shape c at fits shaped u h.0)) (law.1 v (opens_told p made r.own u law.0.0 law.0.1))
        ∙ ap (λ z. JudgedAt t (k (object_place (object_in u) z))) (same_made (object_in u) law.0.0 law.0.1)
    judged_same R Q (Asks (Sizes u i) k) h law =
        let v = length_in i (made (object_in u)) in
        judged_same R Q (k v) (h.1 v (sizes_told p now here f.shape c at fits shaped u i h.0)) (law.1 v (length_is p (IsFree p made) (free_simply p made) made c variables.0 i (made (object_in u))))
        ∙ ap (λ z. JudgedAt t (k (length_in i z))) (same_made (object_in u) law.0.0 law.0.1)
    judged_same R Q (Asks (Tests u ty) k) h law =
        let v = has_type_in p.types made c ty (made (object_in u)) in
        judged_same R Q (k v) (h.1 v (tests_typed p now here f.shape c at fits shaped u ty h.0)) (law.1 v (tests_told p made r.own c u ty law.0.0 law.0.1))
        ∙ ap (λ z. JudgedAt t (k (has_type_in p.types made c ty z))) (same_made (object_in u) law.0.0 law.0.1)
    judged_same R Q (Asks (Stores a v) k) h law = refl
    judged_same R Q (Asks (Copies ty a b) k) h law = refl
    judged_same R Q (Asks (PutsText strict a i b j) k) h law = refl
    judged_same R Q (Asks (Calls how i vs) k) h law = refl
    judged_same R Q (Asks (Ends v) k) h law = refl
    judged_same R Q (Asks (Makes ty vs) k) h law = refl
    judged_same R Q (Asks (Starts v) k) h law = refl
    judged_same R Q (Asks Enters k) h law = refl
    judged_same R Q (Asks Leaves k) h law = refl
    judged_same R Q (Asks (Awaits i) k) h law = refl
    judged_same R Q (Asks (PutsInt v i) k) h law = refl
    judged_same R Q (Asks (PutsChar v) k) h law = refl
    judged_same R Q (Asks (PutsString a i) k) h law = refl
    judged_same R Q (Asks PutsNothing k) h law = refl
    judged_same R Q (Asks PutsLn k) h law = refl
