-- What is awaited comes out alike over stores that agree on what the lock guards.
use Rattle.std.proofs.Common.{◌≡◌, ℕ, List, [], ◌∷◌, false, Option, Some, None, refl, sym, ap, ◌∙◌, subst}
use Rattle.std.specs.Prelude.{slice_get}
use Rattle.aos_base.specs.Question.{Awaits}
use Rattle.aos_base.specs.declared.kernel.Did.TheVariants.{Await}
use Rattle.aos_base.specs.declared.kernel.LockName.{LockName}
use Rattle.aos_types.specs.Content.{Fits}
use Rattle.aos_types.specs.World.{World}
use Rattle.aos_typed.specs.declared.tree.TType.TheVariants.{Boolean}
use Rattle.aos_typed.specs.Conditions.{Condition, conditions}
use Rattle.aos_typed.specs.Numbers.{id_of}
use Rattle.aos_typed.specs.Program.{Program}
use Rattle.aos_typed.specs.Routines.{Routine, has_self, self_type}
use Rattle.aos_typed.specs.Sort.{Sort, Plain}
use Rattle.aos_typed.specs.Store.{Store, made_in}
use Rattle.aos_typed.specs.Typing.{Is}
use Rattle.aos_typed.specs.Meaning.{Here, Item, Do, Rounds, Round, Until, Region, End, Gives, value_of}
use Rattle.aos_typed.specs.Source as S
use Rattle.aos_typed.specs.Source.{Frame, here_of, lock_of, locks_in}
use Rattle.aos_typed.specs.WellTyped.{IsWellTyped}
use Rattle.aos_sim.proofs.Does.{HasTypes, IsSelf, Valid}
use Rattle.aos_sim.proofs.Regions.{IsAt}
use Rattle.aos_sim.proofs.States.{shapes_of, world_of}
use Rattle.aos_handover.specs.Kinds.{IsAsking}
use Rattle.aos_escape.specs.Naming.{AreOf, StoreIs}
use Rattle.aos_escape.proofs.Traced.{AsksFor, Traces}
use Rattle.aos_uses.specs.Guarded.{Lets}
use Rattle.aos_preservation.proofs.Exprs.{value_typed}
use Rattle.aos_preservation.proofs.Frames.{asked_now}
use Rattle.aos_preservation.proofs.Keeps.{Both, names, typed}
use Rattle.aos_preservation.proofs.Stored.{read_is, top_fits}
use Rattle.aos_stability.specs.Agree.{AgreeOn, IsLocalAt}
use Rattle.aos_stability.specs.Locations.{IsFree, Serves}
use Rattle.aos_stability.proofs.Copies.{HoldCopies}
use Rattle.aos_stability.proofs.Fitting.{Fits as Fit}
use Rattle.aos_stability.proofs.Keeps.{serve_variables}
use Rattle.aos_stability.proofs.Law.{value_law}
use Rattle.aos_stability.proofs.Looking.{judged_same, looks_spare}
use Rattle.aos_stability.proofs.Serve.{AllServe, rest_law}

-- the lock of a frame's innermost open region is the frame's
first_lock : (l k : LockName) (is : List Item) (ls : List LockName) → locks_in l is ≡ k ∷ ls → k ≡ l
first_lock l k [] ls e = absurd (cc e)
first_lock l k (Do s ∷ is) ls e = first_lock l k is ls e
first_lock l k (Rounds at w q last step b ∷ is) ls e = first_lock l k is ls e
first_lock l k (Round s ∷ is) ls e = first_lock l k is ls e
first_lock l k (Until at b c ∷ is) ls e = first_lock l k is ls e
first_lock l k (Region ss ∷ is) ls e = first_lock l k is ls e
first_lock l k (End ∷ is) ls e = let same : l ≡ k = cc e in sym same
first_lock l k (Gives r ∷ is) ls e = absurd (cc e)

module _ (p : Program) (well : IsWellTyped p) where
  abbrev types : HasTypes p
  types = typed p well

  -- the topmost frame awaits this condition, in a region of the lock
  abbrev Starting : LockName → ℕ → List Frame → Type 0
  Starting l c [] = Unit {0}
  Starting l c (f ∷ fs) = ((ls : List LockName) × (locks_in (lock_of f) f.items ≡ l ∷ ls)) × IsAsking p f fs (Awaits c)

  none_read : (s t : Store) (o : Option Condition) → S.verdict_over p o [] s ≡ S.verdict_over p o [] t
  none_read s t None = refl
  none_read s t (Some d) = refl

  frames_read : (l : LockName) (c : ℕ) (s t : Store) (fs : List Frame) (ns : List ℕ) → AreOf p ns fs → Both p well s ns fs → AllServe p types (made_in s) ns fs → StoreIs (IsFree p (made_in s)) s →
      AgreeOn p l s t → IsLocalAt p l c → Starting l c fs → S.verdict_over p (slice_get (conditions p) c) fs s ≡ S.verdict_over p (slice_get (conditions p) c) fs t
  frames_read l c s t [] ns are both serve free agree local starting = none_read s t (slice_get (conditions p) c)
  frames_read l c s t (f ∷ fs) [] are both serve free agree local starting = absurd are
  frames_read l c s t (f ∷ fs) (n ∷ ns) are both serve free agree local starting =
      subst (λ o. S.verdict_over p o (f ∷ fs) s ≡ S.verdict_over p o (f ∷ fs) t) (sym valid.1)
      (judged_same p types s t f fs fits (read_is p types s (f ∷ fs) both.1) (serve_variables p types (names p well) (made_in s) (n ∷ ns) (f ∷ fs) serve) free
      l agree d n r refl self copies false lock_is home alone (λ v. Is p now (Plain (id_of Boolean)) v) (Serves p (made_in s) Boolean) (value_of p here d.expression) (value_typed p types now d.own here valid.4 d.expression Boolean valid.2)
      (value_law p types (made_in s) n r here self false (Lets p d.home d.own) (looks_spare p d n r) d.expression Boolean valid.2 (local d valid.1)))
    where
      now : World Sort
      now = world_of p s.made (shapes_of (f ∷ fs))

      here : Here
      here = here_of f fs

      -- what the frame holds is of its shape
      fits : Fits (Is p (world_of p s.made (shapes_of (f ∷ fs)))) f.shape f.variables
      fits = let held = both.1 in top_fits p s.made f fs held.frames

      valid : Valid p (here_of f fs) (world_of p s.made (shapes_of (f ∷ fs))) (Awaits c)
      valid = (asked_now p types s f fs n are.0 both.0.0 fits (Awaits c) starting.1).0

      d : Condition
      d = valid.0

      r : Routine
      r = record { home = d.home; own = d.own; body = (let k = serve.0 in let y = k.routine in y.body) }

      self : IsSelf p (made_in s) (self_type d.own) here.self
      self = let k = valid.4 in k.self

      lock_is : l ≡ lock_of f
      lock_is = first_lock (lock_of f) l f.items starting.0.0 starting.0.1

      -- the condition is that of the AWAIT which asks
      linked : (e : Condition) × (slice_get (conditions p) c ≡ Some e) × (e.home ≡ (let k = serve.0 in let y = k.routine in y.home)) × (e.own ≡ (let k = serve.0 in let y = k.routine in y.own))
      linked = (rest_law p types s f fs n are.0 serve.0 (Awaits c) starting.1).1.0

      same_condition : linked.0 ≡ d
      same_condition = let both : Some linked.0 ≡ Some d = sym linked.1 ∙ valid.1 in cc both

      same_routine : (let own = are.0 in own.routine) ≡ (let k = serve.0 in k.routine)
      same_routine =
          let own = are.0 in
          let k = serve.0 in
          let both : Some own.routine ≡ Some k.routine = sym own.there ∙ k.there in cc both

      copies : HoldCopies p d.own f.variables
      copies = let k = serve.0 in subst (λ o. HoldCopies p o f.variables) (sym linked.3 ∙ ap (λ (e : Condition). e.own) same_condition) k.copies

      home : d.home ≡ f.home
      home = let own = are.0 in ap (λ (e : Condition). e.home) (sym same_condition) ∙ linked.2 ∙ sym (own.home ∙ ap (λ (y : Routine). y.home) same_routine)

      alone : has_self d.own ≡ false → f.object ≡ 0
      alone e = let own = are.0 in own.object (ap (λ (y : Routine). has_self y.own) same_routine ∙ ap has_self (sym linked.3) ∙ ap (λ (z : Condition). has_self z.own) same_condition ∙ e)

  pub reads : (l : LockName) (c : ℕ) (s t : Store) (x : Traces p (names p well)) → Fit p well s (Await l c) x → IsLocalAt p l c → AgreeOn p l s t → S.verdict p s x.0 c ≡ S.verdict p t x.0 c
  reads l c s t x fits local agree =
      let kept = fits.kept in
      let tr = kept.traces in frames_read l c s t x.0.frames x.1 tr.are kept.both fits.serve fits.free agree local (starts x.0.frames tr.stands tr.asks)
    where
      starts : (fs : List Frame) → IsAt (Await l c) fs → AsksFor p (names p well) (Await l c) fs → Starting l c fs
      starts [] at asks = tt
      starts (f ∷ fs) at asks = (at.1, asks)
