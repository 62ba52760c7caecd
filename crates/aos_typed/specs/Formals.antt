-- Procedures with the same formals (Oberon-2 report, appendix A, matching formal parameter lists): one may override the other, or be
-- called where the other stands for it.
use Rattle.std.specs.Prelude.{◌≡◌, ◌⊎◌, ℕ, List, [], ◌∷◌, true, Option, Some, None, option_map, slice_get}
use Rattle.aos_types.specs.declared.row.TypeRow.{TypeRow}
use Rattle.aos_types.specs.declared.row.TypeRow.TheVariants as row
use Rattle.aos_types.specs.Table.{row_of, is_open}
use Rattle.aos_typed.specs.declared.tree.TType.{TType}
use Rattle.aos_typed.specs.declared.tree.TType.TheVariants.{Integer, Boolean, Char, Set, Any, Named}
use Rattle.aos_typed.specs.Numbers.{id_of}
use Rattle.aos_typed.specs.Open.{open_dimensions, open_element}
use Rattle.aos_typed.specs.Program.{Parameter, Procedure, Program}

-- the same type, or open arrays of the same elements
abbrev pub AreSame : List TypeRow → TType → TType → Type 0
AreSame rows t u =
    (t ≡ u)
    ⊎ ((is_open (row_of rows (id_of t)) ≡ true) × (is_open (row_of rows (id_of u)) ≡ true)
    × (open_dimensions rows (id_of t) ≡ open_dimensions rows (id_of u)) × (open_element rows (id_of t) ≡ open_element rows (id_of u)))

-- two lists of parameters agree where their kinds and types are the same in order
abbrev pub Agree : List TypeRow → List Parameter → List Parameter → Type 0
Agree rows [] [] = Unit {0}
Agree rows [] (b ∷ bs) = ⊥
Agree rows (a ∷ as') [] = ⊥
Agree rows (a ∷ as') (b ∷ bs) =
    (a.by_reference ≡ b.by_reference) × AreSame rows a.of b.of × Agree rows as' bs

-- and the results are of one type
abbrev pub HasFormals : List TypeRow → (procedure other : Procedure) → Type 0
HasFormals rows q r = Agree rows q.parameters r.parameters × (q.result ≡ r.result)

-- the procedure that stands for all those which values of a procedure type stand for
abbrev pub pattern_in : Program → Option TypeRow → (type : ℕ) → Option Procedure
pattern_in p (Some (row.Procedure formals r)) t = option_map (λ o. o.body) (slice_get p.objects t)
pattern_in p r t = None

abbrev pub pattern_of : Program → TType → Option Procedure
pattern_of p (Named t) = pattern_in p (row_of p.types (id_of (Named t))) t
pattern_of p (Integer w) = None
pattern_of p Boolean = None
pattern_of p Char = None
pattern_of p Set = None
pattern_of p Any = None
