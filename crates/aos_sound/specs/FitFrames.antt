-- Frames that fit a sound image: each stands on a path of its procedure's code.
use Rattle.std.specs.Prelude.{◌≡◌, ◌≤◌, ◌+◌, ℕ, zero, suc, List, [], ◌∷◌, Option, Some, None, length, slice_get}
use Rattle.aos_code.specs.declared.instr.Kind.{Kind}
use Rattle.aos_code.specs.declared.image.Body.{Body}
use Rattle.aos_code.specs.declared.image.ProcShape.{ProcShape}
use Rattle.aos_code.specs.declared.image.ModuleDesc.{ModuleDesc}
use Rattle.aos_code.specs.declared.image.TypeDesc.{TypeDesc}
use Rattle.aos_code.specs.declared.image.Image.{Image}
use Rattle.aos_code.specs.Numbered.{numbered}
use Rattle.aos_code.specs.Machine.{Frame, Frames, code_of}
use Rattle.aos_sound.specs.Sound.{frame_cells, ArePathsSound}
use Rattle.aos_sound.specs.Fits.{result_of, StandsGiven}

-- how many operands a body has at most, none where there is no body
abbrev pub depth_in : Option Body → ℕ
depth_in None = 0
depth_in (Some b) = b.depth

-- how many operands are to be given
abbrev pub awaited : Option Kind → ℕ
awaited None = 0
awaited (Some k) = 1

module _ (image : Image) where
  abbrev pub depth_of : (procedure : ℕ) → ℕ
  depth_of p = depth_in (numbered image.bodies.items p)

  -- the procedure of this number has a body
  abbrev pub HasBody : (procedure : ℕ) → Type 0
  HasBody p = (b : Body) × (numbered image.bodies.items p ≡ Some b)

  -- and so it has where the number isn't 0
  abbrev pub HasBodyOrNone : (procedure : ℕ) → Type 0
  HasBodyOrNone zero = Unit {0}
  HasBodyOrNone (suc p) = HasBody (suc p)

  -- The paths of each body are sound as those of the procedure of its number, with as many operands at most as it says. Each procedure
  -- with a shape has a body, and so have those with which modules and objects begin.
  pub record IsSoundImage : Type 0 where
    pub paths : (p : ℕ) (b : Body) → numbered image.bodies.items p ≡ Some b → ArePathsSound image p b.code.items b.depth
    pub shapes : (p : ℕ) (f : ProcShape) → numbered image.shapes.items p ≡ Some f → HasBody p
    pub modules : (k : ℕ) (m : ModuleDesc) → slice_get image.modules.items k ≡ Some m → HasBodyOrNone m.body
    pub types : (k : ℕ) (t : TypeDesc) → numbered image.types.items k ≡ Some t → HasBodyOrNone t.body

  -- Frames each of which stands on a path of its procedure's code: the topmost one with an operand of this kind on top, where one is to
  -- be given, and one below another behind the call that it made, with the result of that one's procedure on top.
  abbrev pub FitFor : Option Kind → List Frame → Type 0
  FitFor r [] = Unit {0}
  FitFor r (f ∷ fs) =
      HasBody f.procedure × StandsGiven image f.procedure (code_of image f.procedure) r f.next f.stack
      × FitFor (result_of (numbered image.shapes.items f.procedure)) fs

  -- bodies of these numbers are to follow
  abbrev pub AreToFollow : List ℕ → Type 0
  AreToFollow [] = Unit {0}
  AreToFollow (p ∷ ps) = HasBody p × AreToFollow ps

  abbrev pub FramesFit : Frames → Type 0
  FramesFit fs = FitFor None fs.frames × AreToFollow fs.following

  -- no frame has more operands than the depth of its procedure's body, with one that it is to be given
  abbrev pub HaveRoomFor : Option Kind → List Frame → Type 0
  HaveRoomFor r [] = Unit {0}
  HaveRoomFor r (f ∷ fs) = (length f.stack + awaited r ≤ depth_of f.procedure) × HaveRoomFor (result_of (numbered image.shapes.items f.procedure)) fs

  abbrev pub HaveRoom : Frames → Type 0
  HaveRoom fs = HaveRoomFor None fs.frames

  -- the frames of the procedure of this number name so many cells
  abbrev pub cells_named : (procedure : ℕ) → ℕ
  cells_named p = frame_cells (numbered image.shapes.items p)

  -- procedures name no more cells than they have kinds of cells, and those with which modules and objects begin name none
  pub record IsLaidOut : Type 0 where
    pub kinds : (p : ℕ) (f : ProcShape) → numbered image.shapes.items p ≡ Some f → f.cells ≤ length f.kinds.items
    pub modules : (k : ℕ) (m : ModuleDesc) → slice_get image.modules.items k ≡ Some m → cells_named m.body ≡ 0
    pub types : (k : ℕ) (t : TypeDesc) → numbered image.types.items k ≡ Some t → cells_named t.body ≡ 0

  -- each frame has the cells that its procedure names
  abbrev pub AllHaveCells : List Frame → Type 0
  AllHaveCells [] = Unit {0}
  AllHaveCells (f ∷ fs) = (cells_named f.procedure ≤ length f.cells) × AllHaveCells fs

  -- procedures that name none are to follow
  abbrev pub AllNameNone : List ℕ → Type 0
  AllNameNone [] = Unit {0}
  AllNameNone (p ∷ ps) = (cells_named p ≡ 0) × AllNameNone ps

  abbrev pub HaveCells : Frames → Type 0
  HaveCells fs = AllHaveCells fs.frames × AllNameNone fs.following
