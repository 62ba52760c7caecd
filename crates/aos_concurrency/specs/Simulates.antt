-- When two machines make the same turns, and the states of their executions that belong together.
use Rattle.std.specs.Prelude.{◌≡◌, ℕ, Option, Some, None}
use Rattle.aos_base.specs.declared.kernel.LockName.{LockName}
use Rattle.aos_base.specs.declared.kernel.Did.{Did}
use Rattle.aos_base.specs.declared.kernel.Did.TheVariants.{Went, Await, Start}
use Rattle.aos_base.specs.Machine.{Turn, Machine, State}
use Rattle.aos_concurrency.specs.LocalState.{local_state, GoesPast, MayTrap, AtWork}
use Rattle.aos_concurrency.specs.Orderly.{Orderly}

module _ {S F T G : Type 0} (Stores : S → T → Type 0) (Frames : S → T → Did → F → G → Type 0) where
  -- the same work, output and count, and what is left is related
  pub record SameTurn (x : Turn S F) (y : Turn T G) : Type 0 where
    pub stores : Stores x.store y.store
    pub frames : Frames x.store y.store x.left x.frames y.frames
    pub left : x.left ≡ y.left
    pub output : x.output ≡ y.output
    pub begun : x.begun ≡ y.begun

  -- both begin anew, or neither does
  abbrev pub SameAnew : S → T → Option F → Option G → Type 0
  SameAnew s t None None = Unit {0}
  SameAnew s t None (Some g) = ⊥
  SameAnew s t (Some f) None = ⊥
  SameAnew s t (Some f) (Some g) = Frames s t Went f g

module _ {S F T G : Type 0} (Stores : S → T → Type 0) (Frames : S → T → Did → F → G → Type 0) (Admitted : LockName → F → Type 0) where
  -- `Frames s t w f g`: frames that stand before the work w, or at rest (Went), belong together over these stores;
  -- `Admitted l f`: those of the first machine with which it is let into a region of the lock l
  pub record Simulates (m : Machine S F) (n : Machine T G) : Type 0 where
    pub turn : (s : S) (t : T) (f : F) (g : G)
        → Stores s t → Frames s t Went f g → SameTurn Stores Frames (m.turn s f) (n.turn t g)
    -- a turn leaves the others' frames related
    pub kept : (s : S) (t : T) (f : F) (g : G)
        → Stores s t → Frames s t Went f g
        → (w : Did) (f' : F) (g' : G) → Frames s t w f' g' → Frames (m.turn s f).store (n.turn t g).store w f' g'
    pub past : (s : S) (t : T) (w : Did) (f : F) (g : G)
        → GoesPast Admitted w f → Stores s t → Frames s t w f g → Frames s t Went (m.past f) (n.past g)
    pub verdict : (s : S) (t : T) (l : LockName) (c : ℕ) (f : F) (g : G)
        → Stores s t → Frames s t (Await l c) f g → m.verdict s f c ≡ n.verdict t g c
    -- where one may trap or waits
    pub regions : (s : S) (t : T) (w : Did) (f : F) (g : G)
        → MayTrap w → Stores s t → Frames s t w f g → m.regions f ≡ n.regions g
    pub position : (s : S) (t : T) (w : Did) (f : F) (g : G)
        → MayTrap w → Stores s t → Frames s t w f g → m.position f ≡ n.position g
    pub anew : (s : S) (t : T) (w : Did) (f : F) (g : G)
        → MayTrap w → Stores s t → Frames s t w f g → SameAnew Stores Frames s t (m.anew f) (n.anew g)
    -- of an object whose activity is started
    pub body : (s : S) (t : T) (o : ℕ) (f : F) (g : G)
        → Stores s t → Frames s t (Start o) f g → Frames s t Went (m.body s o) (n.body t o)
    pub priority : (s : S) (t : T) (o : ℕ) (f : F) (g : G)
        → Stores s t → Frames s t (Start o) f g → m.priority s o ≡ n.priority t o

  -- the same book, and related stores and frames
  pub record Matches (st : State S F) (tu : State T G) : Type 0 where
    pub book : st.book ≡ tu.book
    pub stores : Stores st.store tu.store
    pub orderly : Orderly st
    pub frames : (a : ℕ)
        → AtWork (λ l. Admitted l (st.frames a)) (λ w. Frames st.store tu.store w (st.frames a) (tu.frames a)) (local_state st a).next (local_state st a).place
