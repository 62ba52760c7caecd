-- Texts as lists of codes: how two compare, and what of one is stored in an array of characters.
use Rattle.std.specs.Prelude.{ℕ, zero, suc, ℤ, pos, negsuc, ◌-◌, List, [], ◌∷◌, ◌++◌, length, take, nat_eq, nat_lt, Bool, if◌then◌else◌, Option, Some, None}

-- below 0 where the first comes before the second, by codes, and a front before the whole; 0 where they are the same
abbrev pub order : List ℕ → List ℕ → ℤ
order [] [] = pos 0
order [] (b ∷ bs) = negsuc 0
order (a ∷ as') [] = pos 1
order (a ∷ as') (b ∷ bs) = if nat_eq a b then order as' bs else (if nat_lt a b then negsuc 0 else pos 1)

-- the characters before the first 0X
abbrev pub before_end : List ℕ → List ℕ
before_end [] = []
before_end (zero ∷ cs) = []
before_end (suc c ∷ cs) = suc c ∷ before_end cs

-- with its 0X, where an array of so many characters has room for it
abbrev pub ended_within : ℕ → List ℕ → Option (List ℕ)
ended_within room text = if nat_lt (length text) room then Some (text ++ 0 ∷ []) else None

-- its beginning with a 0X
abbrev pub cut_within : ℕ → List ℕ → List ℕ
cut_within room text = take (room - 1) text ++ 0 ∷ []
