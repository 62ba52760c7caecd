-- A turn of one that is in no region of a lock leaves what the lock guards.
use Rattle.std.proofs.Common.{◌≡◌, ◌≢◌, ◌⊎◌, inl, inr, ℕ, zero, suc, List, [], ◌∷◌, ◌++◌, Bool, true, false, Option, Some, refl, sym, ap, ◌∙◌, subst, if◌then◌else◌}
use Rattle.std.specs.Prelude.{option_and_then, slice_get}
use Rattle.std.proofs.lemmas.Bool.{eq-eqb}
use Rattle.aos_base.specs.declared.kernel.LockName.{LockName}
use Rattle.aos_base.specs.declared.kernel.LockName.TheVariants as lock
use Rattle.aos_base.specs.declared.root.Root.{Root}
use Rattle.aos_base.specs.declared.root.Root.TheVariants as root
use Rattle.aos_base.specs.Lock.{is_lock}
use Rattle.aos_base.specs.Rooted.{Made, change_at}
use Rattle.aos_concurrency.specs.Regions.{times}
use Rattle.aos_types.specs.Content.{Content, Scalar, Empty, Row, element, found, placed, with_element}
use Rattle.aos_typed.specs.Program.{Program}
use Rattle.aos_typed.specs.Routines.{Routine, has_self}
use Rattle.aos_typed.specs.Location.{Location}
use Rattle.aos_typed.specs.Store.{Store, made_in, store_with}
use Rattle.aos_typed.specs.Value.{Value}
use Rattle.aos_typed.specs.Meaning.{Item, Do, Rounds, Round, Until, Region, End, Gives}
use Rattle.aos_typed.specs.Source.{Frame, lock_of, locks_in, own_lock, regions_of}
use Rattle.aos_uses.specs.declared.uses.Target.{Target}
use Rattle.aos_uses.specs.declared.uses.Use.TheVariants as used
use Rattle.aos_uses.specs.declared.uses.Variable.{Variable}
use Rattle.aos_uses.specs.declared.uses.Variable.TheVariants as variable
use Rattle.aos_uses.specs.Guarded.{IsGuarded, IsQuiet, MayWrite, Spares, is_of_module}
use Rattle.aos_escape.specs.Items.{has_mark}
use Rattle.aos_escape.proofs.Building.{SameTexts, NoFrames, OneMore}
use Rattle.aos_stability.specs.Agree.{AreSame, IsSame}
use Rattle.aos_stability.specs.Locations.{Begins, HasFields, IsAt, IsFreeAt, field_of}

-- Parts of contents.

abbrev Part : ℕ → Content Value → Option (Content Value)
Part k c = found (k ∷ []) c

element_kept : (j k : ℕ) (g : Content Value → Content Value) (c : Content Value) → k ≢ j → element k (with_element j g c) ≡ element k c
element_kept j k g (Scalar v) ne = refl
element_kept j k g Empty ne = refl
element_kept zero zero g (Row a b) ne = absurd (ne refl)
element_kept zero (suc k) g (Row a b) ne = refl
element_kept (suc j) zero g (Row a b) ne = refl
element_kept (suc j) (suc k) g (Row a b) ne = element_kept j k g b (λ e. ne (ap suc e))

placed_keeps : (j k : ℕ) (rest : List ℕ) (new c : Content Value) → k ≢ j → Part k (placed (j ∷ rest) new c) ≡ Part k c
placed_keeps j k rest new c ne = ap (option_and_then (found [])) (element_kept j k (placed rest new) c ne)

changed_part : (m i k : ℕ) (g : Content Value → Content Value) (xs : List (Content Value)) → ((c : Content Value) → i ≡ m → Part k (g c) ≡ Part k c) → option_and_then (Part k) (slice_get (change_at m g xs) i) ≡ option_and_then (Part k) (slice_get xs i)
changed_part m i k g [] f = refl
changed_part zero zero k g (x ∷ xs) f = f x refl
changed_part zero (suc i) k g (x ∷ xs) f = refl
changed_part (suc m) zero k g (x ∷ xs) f = refl
changed_part (suc m) (suc i) k g (x ∷ xs) f = changed_part m i k g xs (λ c e. f c (ap suc e))

-- a part stays that isn't what is changed
part_kept : (r at : Root) (k : ℕ) (g : Content Value → Content Value) (s : Store) → ((c : Content Value) → r ≡ at → Part k (g c) ≡ Part k c) → IsSame s (store_with at g s) r k
part_kept (root.Frame d) at k g s f = refl
part_kept (root.Module i) (root.Frame d) k g s f = refl
part_kept (root.Module i) (root.Object o) k g s f = refl
part_kept (root.Module i) (root.Module m) k g s f = sym (changed_part m i k g s.modules (λ c e. f c (ap (λ j. root.Module j) e)))
part_kept (root.Object o) (root.Frame d) k g s f = refl
part_kept (root.Object o) (root.Module m) k g s f = refl
part_kept (root.Object zero) (root.Object b) k g s f = refl
part_kept (root.Object (suc o)) (root.Object zero) k g s f = refl
part_kept (root.Object (suc o)) (root.Object (suc b)) k g s f = sym (changed_part b o k g s.objects (λ c e. f c (ap (λ j. root.Object (suc j)) e)))

-- Locks of regions that are open.

lock_itself : (l : LockName) → is_lock l l ≡ true
lock_itself (lock.Module m) = eq-eqb m m refl
lock_itself (lock.Object o) = eq-eqb o o refl

pub marked_times : (l : LockName) (is : List Item) (ls : List LockName) → has_mark is ≡ true → times l (locks_in l is ++ ls) ≡ 0 → ⊥
marked_times l [] ls h e = absurd (cc h)
marked_times l (Do s ∷ is) ls h e = marked_times l is ls h e
marked_times l (Rounds at w q last step b ∷ is) ls h e = marked_times l is ls h e
marked_times l (Round s ∷ is) ls h e = marked_times l is ls h e
marked_times l (Until at b c ∷ is) ls h e = marked_times l is ls h e
marked_times l (Region ss ∷ is) ls h e = marked_times l is ls h e
marked_times l (End ∷ is) ls h e = let no : suc (times l (locks_in l is ++ ls)) ≡ 0 = sym (ap (λ b. if b then suc (times l (locks_in l is ++ ls)) else times l (locks_in l is ++ ls)) (lock_itself l)) ∙ e in cc no
marked_times l (Gives r ∷ is) ls h e = absurd (cc h)

pub regions_texts : (fs gs : List Frame) → SameTexts fs gs → regions_of fs ≡ regions_of gs
regions_texts _ _ NoFrames = refl
regions_texts _ _ (OneMore f c fs gs same) = ap (λ ls. locks_in (lock_of f) f.items ++ ls) (regions_texts fs gs same)

-- A place that a text of the routine with this number may write, in a frame of it: x says whether a region is open.
module _ (p : Program) (before : Store) (n : ℕ) (r : Routine) (f : Frame) (home : f.home ≡ r.home) (alone : has_self r.own ≡ false → f.object ≡ 0) (x : Bool) (t : Target) (s : Location) (at : IsAt p (made_in before) r.own f.object s t) (spared : (v : Variable) → IsGuarded p v → Spares p v n r (used.Writes t x)) where
  abbrev made : ℕ → Option Made
  made = made_in before

  -- where the place is in no region that writes it, a part stays
  abbrev IsKept : Root → ℕ → Type 0
  IsKept r k = (new c : Content Value) → r ≡ s.root → Part k (placed s.path new c) ≡ Part k c

  by_path : (k : ℕ) (path : List ℕ) → (path ≡ [] → ⊥) → ((rest : List ℕ) → path ≡ k ∷ rest → ⊥) → (new c : Content Value) → Part k (placed path new c) ≡ Part k c
  by_path k [] none starts new c = absurd (none refl)
  by_path k (j ∷ rest) none starts new c = placed_keeps j k rest new c (λ e. starts rest (ap (λ i. i ∷ rest) (sym e)))

  -- what is free is no such variable
  free_module : (m k : ℕ) → IsGuarded p (variable.Module m k) → IsFreeAt p made s.root s.path → IsKept (root.Module m) k
  free_module m k g free new c e =
      let h = subst (λ r. IsFreeAt p made r s.path) (sym e) free in
      by_path k s.path (λ none. absurd (subst (λ q. (i : ℕ) → Begins i q → IsGuarded p (variable.Module m i) → ⊥) none h k tt g)) (λ rest is. absurd (subst (λ q. (i : ℕ) → Begins i q → IsGuarded p (variable.Module m i) → ⊥) is h k refl g)) new c

  free_object : (o k : ℕ) (m : Made) → made o ≡ Some m → HasFields p m → IsGuarded p (field_of p m k) → IsFreeAt p made s.root s.path → IsKept (root.Object o) k
  free_object o k m there fields g free new c e =
      let h = subst (λ r. IsFreeAt p made r s.path) (sym e) free in
      let both : Some h.0 ≡ Some m = sym h.1 ∙ there in
      let same : h.0 ≡ m = cc both in
      let never : (i : ℕ) → Begins i s.path → IsGuarded p (field_of p m i) → ⊥ = subst (λ z. HasFields p z → (i : ℕ) → Begins i s.path → IsGuarded p (field_of p z i) → ⊥) same h.2 fields in
      by_path k s.path (λ none. absurd (subst (λ q. (i : ℕ) → Begins i q → IsGuarded p (field_of p m i) → ⊥) none never k tt g)) (λ rest is. absurd (subst (λ q. (i : ℕ) → Begins i q → IsGuarded p (field_of p m i) → ⊥) is never k refl g)) new c

  -- a variable of a module, where the frame isn't in a region of it
  module_kept : (m k : ℕ) → IsGuarded p (variable.Module m k) → (MayWrite p n r t.through_self x (variable.Module m k) → ⊥) → IsKept (root.Module m) k
  module_kept m k g never = by t.of refl at
    where
      by : (v : Variable) → t.of ≡ v → IsAt p made r.own f.object s (record { of = v; through_self = t.through_self }) → IsKept (root.Module m) k
      by (variable.Module i j) e h new c is =
          let same_root : root.Module m ≡ root.Module i = is ∙ h.0 in
          let m_is : m ≡ i = cc same_root in
          by_path k s.path (λ none. let no : [] ≡ j ∷ h.1.0 = sym none ∙ h.1.1 in cc no)
          (λ rest starts. let same : k ∷ rest ≡ j ∷ h.1.0 = sym starts ∙ h.1.1 in let k_is : k ≡ j = cc same in
          let this : t.of ≡ variable.Module m k = e ∙ (λ q. variable.Module (sym m_is q) (sym k_is q)) in
          never (subst (MayWrite p n r t.through_self x) this (spared (variable.Module m k) g this))) new c
      by (variable.Field u j) e h new c is = absurd (let no : root.Module m ≡ root.Object (suc h.0) = is ∙ h.2 in cc no)
      by variable.Local e h new c is = absurd (let no : root.Module m ≡ root.Frame h.0 = is ∙ h.1 in cc no)
      by variable.Passed e h new c is = free_module m k g h new c is
      by (variable.Opened j) e h new c is = free_module m k g h.0 new c is
      by variable.Heap e h new c is = free_module m k g h new c is

  -- a field of an object
  object_kept : (o k : ℕ) (m : Made) → made o ≡ Some m → HasFields p m → IsGuarded p (field_of p m k) → ((t.through_self ≡ true → o ≡ f.object) → MayWrite p n r t.through_self x (field_of p m k) → ⊥) → IsKept (root.Object o) k
  object_kept o k m there fields g never = by t.of refl at
    where
      by : (v : Variable) → t.of ≡ v → IsAt p made r.own f.object s (record { of = v; through_self = t.through_self }) → IsKept (root.Object o) k
      by (variable.Field u j) e h new c is =
          let same_root : root.Object o ≡ root.Object (suc h.0) = is ∙ h.2 in
          let o_is : o ≡ suc h.0 = cc same_root in
          let both : Some h.1 ≡ Some m = sym h.3 ∙ ap made (sym o_is) ∙ there in
          let m_is : h.1 ≡ m = cc both in
          by_path k s.path (λ none. let no : [] ≡ j ∷ h.6.0 = sym none ∙ h.6.1 in cc no)
          (λ rest starts. let same : k ∷ rest ≡ j ∷ h.6.0 = sym starts ∙ h.6.1 in let k_is : k ≡ j = cc same in
          let this : t.of ≡ field_of p m k = e ∙ sym h.5 ∙ (λ q. field_of p (m_is q) (sym k_is q)) in
          never (λ self. o_is ∙ h.7 self) (subst (MayWrite p n r t.through_self x) this (spared (field_of p m k) g this))) new c
      by (variable.Module i j) e h new c is = absurd (let no : root.Object o ≡ root.Module i = is ∙ h.0 in cc no)
      by variable.Local e h new c is = absurd (let no : root.Object o ≡ root.Frame h.0 = is ∙ h.1 in cc no)
      by variable.Passed e h new c is = free_object o k m there fields g h new c is
      by (variable.Opened j) e h new c is = free_object o k m there fields g h.0 new c is
      by variable.Heap e h new c is = free_object o k m there fields g h new c is

  -- So a store that is written there has the same of what a lock guards, where the frame has no region of it open, and is that of no quiet
  -- initializer on its object.
  module _ (new : Content Value) (l : LockName) (outside : x ≡ true → l ≡ lock_of f → ⊥) where
    pub written_same : (IsQuiet p n → l ≡ lock.Object f.object → ⊥) → AreSame p l before (store_with s.root (placed s.path new) before)
    written_same quiet = by l outside quiet
      where
        by_module : (m : ℕ) → r.home ≡ m → has_self r.own ≡ false → lock.Module m ≡ lock_of f
        by_module m is none = sym ((λ q. own_lock (home q) (alone none q)) ∙ ap (λ h. lock.Module h) is)

        by_object : (o : ℕ) (m : Made) → made o ≡ Some m → o ≡ f.object → lock.Object o ≡ lock_of f
        by_object zero m there e = absurd (cc there)
        by_object (suc i) m there e = ap (own_lock f.home) e

        by : (l : LockName) → (x ≡ true → l ≡ lock_of f → ⊥) → (IsQuiet p n → l ≡ lock.Object f.object → ⊥) → AreSame p l before (store_with s.root (placed s.path new) before)
        by (lock.Module m) out quiet = λ k g.
            part_kept (root.Module m) s.root k (placed s.path new) before (λ c is. module_kept m k g (λ may. out may.1.0 (by_module m may.1.1.0 may.1.1.1)) new c is)
        by (lock.Object o) out quiet = λ m there fields k g.
            part_kept (root.Object o) s.root k (placed s.path new) before
            (λ c is. object_kept o k m there fields g (λ self may. chosen out quiet m there (self may.0) may.1) new c is)
          where
            chosen : (x ≡ true → lock.Object o ≡ lock_of f → ⊥) → (IsQuiet p n → lock.Object o ≡ lock.Object f.object → ⊥) → (m : Made) → made o ≡ Some m → o ≡ f.object → (x ≡ true) ⊎ IsQuiet p n → ⊥
            chosen out quiet m there e (inl marked) = out marked (by_object o m there e)
            chosen out quiet m there e (inr q) = quiet q (ap (λ i. lock.Object i) e)

  -- and of each constant
  pub written_constant : (new : Content Value) (m k : ℕ) → is_of_module p m k ≡ false → IsGuarded p (variable.Module m k) → IsSame before (store_with s.root (placed s.path new) before) (root.Module m) k
  written_constant new m k none g =
      part_kept (root.Module m) s.root k (placed s.path new) before
      (λ c is. module_kept m k g (λ may. let no : true ≡ false = sym may.0 ∙ none in cc no) new c is)
