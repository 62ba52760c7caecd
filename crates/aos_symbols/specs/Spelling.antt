-- The bytes of names, and the names of module Out (Oakwood Guidelines).
use Rattle.std.specs.Prelude.{ℕ, List, [], ◌∷◌, Bool, codes}
use Rattle.std.specs.List.{list_any, slice_range}
use Rattle.std.specs.Str.{bytes_eq}
use Rattle.aos_tree.specs.declared.name.Name.{Name}
use Rattle.aos_tree.specs.declared.stat.Modifier.{Modifier}

-- the bytes of a name in its text
abbrev pub word : List ℕ → Name → List ℕ
word text n = slice_range text n.start n.end

-- a name is spelled so
abbrev pub is_word : List ℕ → List ℕ → Name → Bool
is_word text w n = bytes_eq w (word text n)

-- two names are spelled alike
abbrev pub are_same : List ℕ → Name → Name → Bool
are_same text a b = bytes_eq (word text a) (word text b)

abbrev pub is_among : List (List ℕ) → List ℕ → Bool
is_among table w = list_any (λ t. bytes_eq t w) table

-- the procedures of module Out
abbrev pub procedures_of_out : List (List ℕ)
procedures_of_out = codes "Open" ∷ codes "Char" ∷ codes "String" ∷ codes "Int" ∷ codes "Ln" ∷ []

-- the modifier ACTIVE of a body
abbrev pub is_active : List ℕ → Modifier → Bool
is_active text m = is_word text (codes "ACTIVE") m.name

-- and PRIORITY, with its value
abbrev pub is_priority : List ℕ → Modifier → Bool
is_priority text m = is_word text (codes "PRIORITY") m.name
