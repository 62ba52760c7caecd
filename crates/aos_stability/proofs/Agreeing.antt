-- A turn of one that is in no region of a lock leaves the store agreeing with what it was on what the lock guards.
use Rattle.std.proofs.Common.{◌≡◌, ◌≢◌, ◌<◌, ℕ, zero, suc, List, [], ◌∷◌, ◌++◌, length, Bool, true, false, Some, refl, sym, ap, ◌∙◌, subst, arith, if◌then◌else◌}
use Rattle.std.specs.Prelude.{option_and_then, slice_get}
use Rattle.std.proofs.lemmas.Option.{slice_get_within}
use Rattle.std.proofs.lemmas.Bool.{eqb-true}
use Rattle.aos_base.specs.declared.kernel.LockName.{LockName}
use Rattle.aos_base.specs.declared.kernel.LockName.TheVariants as lock
use Rattle.aos_base.specs.declared.root.Root.{Root}
use Rattle.aos_base.specs.Lock.{is_lock}
use Rattle.aos_base.specs.Rooted.{Made, by_number}
use Rattle.aos_concurrency.specs.Regions.{times}
use Rattle.aos_types.specs.Content.{Content, Scalar, found, overlay, placed}
use Rattle.aos_types.specs.Shape.{Shape}
use Rattle.aos_types.specs.World.{World}
use Rattle.aos_typed.specs.Numbers.{id_of}
use Rattle.aos_typed.specs.Program.{Program}
use Rattle.aos_typed.specs.Routines.{Routine, has_self}
use Rattle.aos_typed.specs.Sort.{variable_shape}
use Rattle.aos_typed.specs.Location.{Location}
use Rattle.aos_typed.specs.Store.{Store, made_in, store_with, with_object}
use Rattle.aos_typed.specs.Text.{with_text}
use Rattle.aos_typed.specs.Value.{Value}
use Rattle.aos_typed.specs.Meaning.{Question, Item, Do, Rounds, Round, Until, Region, End, Gives}
use Rattle.aos_typed.specs.Source.{Frame, Turned, all_rooted, answered, done, frames_with, here_of, lock_of, locks_in, own_lock, regions_of}
use Rattle.aos_memory_laws.specs.Shows.{AllShown}
use Rattle.aos_sim.proofs.Does.{HasTypes}
use Rattle.aos_uses.specs.Guarded.{IsGuarded, IsQuiet, Spares}
use Rattle.aos_uses.specs.declared.uses.Use.{Use}
use Rattle.aos_uses.specs.declared.uses.Variable.{Variable}
use Rattle.aos_handover.specs.Kinds.{IsAsking, IsStored, OneScalar, OneWhole, OneText, Kind, Settled, Stopped, Left, Popped, Told, Written, Stored, Created, Called, Stands}
use Rattle.aos_escape.specs.Items.{has_mark}
use Rattle.aos_escape.specs.Naming.{AreOf, IsOf, SelvesOther}
use Rattle.aos_escape.proofs.Building.{texts_with}
use Rattle.aos_escape.proofs.Steps.{given}
use Rattle.aos_stability.specs.Agree.{AgreeOn, AreSame}
use Rattle.aos_stability.proofs.Law.{IsWritten}
use Rattle.aos_stability.proofs.Outside.{marked_times, regions_texts, written_constant, written_same}
use Rattle.aos_stability.proofs.Serve.{AllServe, asked_law}

-- what one more object leaves
get_more : {A : Type 0} (xs ys : List A) (i : ℕ) → i < length xs → slice_get (xs ++ ys) i ≡ slice_get xs i
get_more [] ys i lt = absurd (omega (arith, lt))
get_more (x ∷ xs) ys zero lt = refl
get_more (x ∷ xs) ys (suc i) lt = get_more xs ys i (omega (arith, lt))

number_more : {A : Type 0} (xs ys : List A) (o : ℕ) {B : Type 0} (made : List B) (m : B) → length xs ≡ length made → by_number o made ≡ Some m → by_number o (xs ++ ys) ≡ by_number o xs
number_more xs ys zero made m e there = refl
number_more xs ys (suc i) made m e there = let lt = slice_get_within made i m there in get_more xs ys i (omega (arith, lt, e))

-- who isn't in a frame of an object has no region of its lock open
own_other : (home b o : ℕ) → b ≢ o → is_lock (lock.Object o) (own_lock home b) ≡ false
own_other home zero o ne = refl
own_other home (suc k) o ne = by (is_lock (lock.Object o) (lock.Object (suc k))) refl
  where
    by : (c : Bool) → is_lock (lock.Object o) (lock.Object (suc k)) ≡ c → c ≡ false
    by true e = absurd (ne (sym (eqb-true o (suc k) e)))
    by false e = refl

others_none : (o : ℕ) (l : LockName) (is : List Item) (ls : List LockName) → is_lock (lock.Object o) l ≡ false → times (lock.Object o) (locks_in l is ++ ls) ≡ times (lock.Object o) ls
others_none o l [] ls e = refl
others_none o l (Do s ∷ is) ls e = others_none o l is ls e
others_none o l (Rounds at w q last step b ∷ is) ls e = others_none o l is ls e
others_none o l (Round s ∷ is) ls e = others_none o l is ls e
others_none o l (Until at b c ∷ is) ls e = others_none o l is ls e
others_none o l (Region ss ∷ is) ls e = others_none o l is ls e
others_none o l (End ∷ is) ls e = ap (λ b. if b then suc (times (lock.Object o) (locks_in l is ++ ls)) else times (lock.Object o) (locks_in l is ++ ls)) e ∙ others_none o l is ls e
others_none o l (Gives r ∷ is) ls e = refl

pub hidden_regions : (o : ℕ) (fs : List Frame) → SelvesOther o fs → times (lock.Object o) (regions_of fs) ≡ 0
hidden_regions o [] h = refl
hidden_regions o (f ∷ fs) h = others_none o (lock_of f) f.items (regions_of fs) (own_other f.home f.object o h.0) ∙ hidden_regions o fs h.1

-- what is shown is as long as its shapes
pub shown_long : {V C S : Type 0} (Is : World S → S → V → Type 0) (cell : World S → V → C) (w : World S) (ss : List (Shape S)) (cs : List (Content V)) (ys : List (List C)) → AllShown Is cell w ss cs ys → length cs ≡ length ss
shown_long Is cell w [] [] [] h = refl
shown_long Is cell w [] [] (y ∷ ys) h = absurd h
shown_long Is cell w [] (c ∷ cs) ys h = absurd h
shown_long Is cell w (s ∷ ss) [] ys h = absurd h
shown_long Is cell w (s ∷ ss) (c ∷ cs) [] h = absurd h
shown_long Is cell w (s ∷ ss) (c ∷ cs) (y ∷ ys) h = ap suc (shown_long Is cell w ss cs ys h.1)

module _ (p : Program) where
  pub agree_same : (l : LockName) (s : Store) → AgreeOn p l s s
  agree_same l s = record { made = λ o m e. e; constants = λ m k e g. refl; guarded = by l }
    where
      by : (l : LockName) → AreSame p l s s
      by (lock.Module m) = λ k g. refl
      by (lock.Object o) = λ m there fields k g. refl

  pub agree_then : (l : LockName) (s t u : Store) → AgreeOn p l s t → AgreeOn p l t u → AgreeOn p l s u
  agree_then l s t u h i =
      record { made = λ o m e. i.made o m (h.made o m e); constants = λ m k e g. h.constants m k e g ∙ i.constants m k e g; guarded = by l h.made h.guarded i.guarded }
    where
      by : (l : LockName) → ((o : ℕ) (m : Made) → made_in s o ≡ Some m → made_in t o ≡ Some m) → AreSame p l s t → AreSame p l t u → AreSame p l s u
      by (lock.Module m) up a b = λ k g. a k g ∙ b k g
      by (lock.Object o) up a b = λ m there fields k g. a m there fields k g ∙ b m (up o m there) fields k g

  agree_more : (l : LockName) (s : Store) (m : Made) (c : Content Value) → length s.objects ≡ length s.made → ((o : ℕ) (k : Made) → made_in s o ≡ Some k → made_in (with_object m c s) o ≡ Some k) → AgreeOn p l s (with_object m c s)
  agree_more l s m c long up = record { made = up; constants = λ i k e g. refl; guarded = by l }
    where
      by : (l : LockName) → AreSame p l s (with_object m c s)
      by (lock.Module i) = λ k g. refl
      by (lock.Object o) = λ z there fields k g. ap (option_and_then (λ d. found (k ∷ []) d)) (sym (number_more s.objects (c ∷ []) o s.made z long there))

  module _ (typed : HasTypes p) (following : List ℕ) (s : Store) (f : Frame) (fs : List Frame) (t : Turned) (n : ℕ) (ns : List ℕ) (are : AreOf p (n ∷ ns) (f ∷ fs)) (serve : AllServe p typed (made_in s) (n ∷ ns) (f ∷ fs)) (long : length s.objects ≡ length s.made)
      (up : (o : ℕ) (m : Made) → made_in s o ≡ Some m → made_in t.store o ≡ Some m) (l : LockName) (quiet : IsQuiet p n → l ≡ lock.Object f.object → ⊥) where
    -- in no region of the lock behind the turn, as before it
    abbrev Agrees : Store → List Frame → Type 0
    Agrees store frames = ((o : ℕ) (m : Made) → made_in s o ≡ Some m → made_in store o ≡ Some m) → times l (regions_of frames) ≡ 0 → AgreeOn p l s store

    abbrev IsSpared : Use → Type 0
    IsSpared u = (v : Variable) → IsGuarded p v → Spares p v n serve.0.routine u

    at_place : (g : Frame) → Stands p s f fs g → times l (locks_in (lock_of g) g.items ++ regions_of fs) ≡ 0 → (x : Bool) → (x ≡ true → has_mark g.items ≡ true) → (a : Location) (new : Content Value)
        → IsWritten p typed (made_in s) n serve.0.routine (here_of f fs) serve.0.self x IsSpared (λ u h. h) a → ((o : ℕ) (m : Made) → made_in s o ≡ Some m → made_in (store_with a.root (placed a.path new) s) o ≡ Some m) → AgreeOn p l s (store_with a.root (placed a.path new) s)
    at_place g st none x marked a new may up' =
        record {
          made = up';
          constants = λ m k e guarded. written_constant p s n r f home alone x may.0 a may.1 may.2 new m k e guarded;
          guarded = written_same p s n r f home alone x may.0 a may.1 may.2 new l outside quiet;
        }
      where
        own : IsOf p n f
        own = are.0

        r : Routine
        r = serve.0.routine

        same : own.routine ≡ r
        same = let k = serve.0 in let both : Some own.routine ≡ Some r = sym own.there ∙ k.there in cc both

        home : f.home ≡ r.home
        home = own.home ∙ ap (λ (z : Routine). z.home) same

        alone : has_self r.own ≡ false → f.object ≡ 0
        alone e = own.object (ap (λ (z : Routine). has_self z.own) same ∙ e)

        outside : x ≡ true → l ≡ lock_of f → ⊥
        outside open_ is =
            let lock_is : lock_of g ≡ l = ap (λ (y : Frame). lock_of y) st.same.is ∙ sym is in
            marked_times l g.items (regions_of fs) (marked open_) (subst (λ z. times l (locks_in z g.items ++ regions_of fs) ≡ 0) lock_is none)

    stored_agrees : (g : Frame) (st : Stands p s f fs g) (q : Question) (asks : IsAsking p g fs q) (root : Root) (change : Content Value → Content Value) → IsStored p (all_rooted (g ∷ fs) s) q root change
        → ((o : ℕ) (m : Made) → made_in s o ≡ Some m → made_in (store_with root change s) o ≡ Some m) → times l (locks_in (lock_of g) g.items ++ regions_of fs) ≡ 0 → AgreeOn p l s (store_with root change s)
    stored_agrees g st _ asks _ _ (OneScalar a v) up' none =
        let law = asked_law p typed s f fs n are.0 serve.0 g st _ asks in at_place g st none law.0 law.1 a (Scalar v) law.2.0.0 up'
    stored_agrees g st _ asks _ _ (OneWhole ty from to new old e e') up' none =
        let law = asked_law p typed s f fs n are.0 serve.0 g st _ asks in at_place g st none law.0 law.1 to (overlay (variable_shape p.types (id_of ty)) new old) law.2.0 up'
    stored_agrees g st _ asks _ _ (OneText strict from i to room cs old fits e) up' none =
        let law = asked_law p typed s f fs n are.0 serve.0 g st _ asks in at_place g st none law.0 law.1 to (with_text cs old) law.2.0 up'

    step_agrees : Kind p following s f fs t → Agrees t.store t.frames.frames
    step_agrees (Settled g st fresh x) = given p following s f fs Agrees t s (g ∷ fs) _ _ x (λ u e. agree_same l s)
    step_agrees (Stopped g number code st x) = given p following s f fs Agrees t s (g ∷ fs) _ _ x (λ u e. agree_same l s)
    step_agrees (Left g q work st asks leaves x) = given p following s f fs Agrees t s (g ∷ fs) _ _ x (λ u e. agree_same l s)
    step_agrees (Popped v left x) = given p following s f fs Agrees t s _ _ _ x (λ u e. agree_same l s)
    step_agrees (Told g q none absent st asks x) = given p following s f fs Agrees t s _ _ _ x (λ u e. agree_same l s)
    step_agrees (Written g q bytes st asks w x) = given p following s f fs Agrees t s _ _ _ x (λ u e. agree_same l s)
    step_agrees (Called g how q vs y st asks there few x) = given p following s f fs Agrees t s _ _ _ x (λ u e. agree_same l s)
    step_agrees (Created g type vs ks st asks are' room x) = given p following s f fs Agrees t _ _ _ _ x (λ u e. agree_more l s _ _ long u)
    step_agrees (Stored g q root change st asks stored x) =
        let frames = answered done g ∷ fs in
        given p following s f fs Agrees t (store_with root change s) (frames_with root change frames) _ _ x
        (λ u e. stored_agrees g st q asks root change stored u (ap (times l) (regions_texts frames (frames_with root change frames) (texts_with root change frames)) ∙ e))

    pub turn_agrees : Kind p following s f fs t → times l (regions_of t.frames.frames) ≡ 0 → AgreeOn p l s t.store
    turn_agrees kind none = step_agrees kind up none
