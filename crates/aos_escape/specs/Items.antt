-- What is kept of the items that remain in a frame: they are well typed, and what they use, each text of the program's may use.
use Rattle.std.specs.Prelude.{ℕ, List, [], ◌∷◌, ◌++◌, Bool, true, false}
use Rattle.aos_base.specs.Number.{IsWithin}
use Rattle.aos_typed.specs.declared.tree.TType.TheVariants.{Integer, Boolean}
use Rattle.aos_typed.specs.Conditions.{conditions, IsLinked, AreLinked}
use Rattle.aos_typed.specs.Program.{Program}
use Rattle.aos_typed.specs.Routines.{Routine}
use Rattle.aos_typed.specs.WellTyped.{IsPlaceOf, IsOf, IsStatement, AreStatements}
use Rattle.aos_typed.specs.Meaning.{Item, Do, Rounds, Round, Until, Region, End, Gives}
use Rattle.aos_uses.specs.declared.uses.Use.{Use}
use Rattle.aos_uses.specs.declared.uses.Variable.{Variable}
use Rattle.aos_uses.specs.Guarded.{Each, IsGuarded, IsQuiet, Keeps, Spares}
use Rattle.aos_uses.specs.Uses.{expr_uses, stat_uses, stats_uses, written}

-- a region is open around the items: its mark stands among them
abbrev pub has_mark : List Item → Bool
has_mark [] = false
has_mark (Do s ∷ is) = has_mark is
has_mark (Rounds at w q last step b ∷ is) = has_mark is
has_mark (Round s ∷ is) = has_mark is
has_mark (Until at b e ∷ is) = has_mark is
has_mark (Region ss ∷ is) = has_mark is
has_mark (End ∷ is) = true
has_mark (Gives v ∷ is) = false

module _ (p : Program) where
  -- what an item uses
  abbrev pub item_uses : (exclusive : Bool) → Item → List Use
  item_uses x (Do s) = stat_uses p x s
  item_uses x (Rounds at w q last step b) = written p x q ++ stats_uses p x b
  item_uses x (Round s) = stat_uses p x s
  item_uses x (Until at b e) = expr_uses p e ++ stats_uses p x b
  item_uses x (Region ss) = stats_uses p true ss
  item_uses x End = []
  item_uses x (Gives v) = []

  -- an item of a routine is well typed, and the number of each AWAIT leads to its condition
  abbrev pub IsText : Routine → Item → Type 0
  IsText r (Do s) = IsStatement p r.own s × IsLinked (conditions p) r.home r.own s
  IsText r (Rounds at w q last step b) =
      (IsPlaceOf p r.own q (Integer w) × IsWithin w step × AreStatements p r.own b) × AreLinked (conditions p) r.home r.own b
  IsText r (Round s) = IsStatement p r.own s × IsLinked (conditions p) r.home r.own s
  IsText r (Until at b e) = (AreStatements p r.own b × IsOf p r.own e Boolean) × AreLinked (conditions p) r.home r.own b
  IsText r (Region ss) = AreStatements p r.own ss × AreLinked (conditions p) r.home r.own ss
  IsText r End = Unit {0}
  IsText r (Gives v) = Unit {0}

  -- a use in the text of the routine with this number: it leaves each guarded variable as such a one is left, and keeps the rules on
  -- quiet initializers
  pub record IsFine (n : ℕ) (r : Routine) (u : Use) : Type 0 where
    pub spares : (v : Variable) → IsGuarded p v → Spares p v n r u
    pub keeps : Keeps p (IsQuiet p) n u

  abbrev pub AreFine : (n : ℕ) → Routine → List Use → Type 0
  AreFine n r us = Each (IsFine n r) us

  abbrev pub ItemsFine : (n : ℕ) → Routine → List Item → Type 0
  ItemsFine n r [] = Unit {0}
  ItemsFine n r (i ∷ is) = (AreFine n r (item_uses (has_mark is) i) × IsText r i) × ItemsFine n r is
