-- Texts in a store: the characters that an array holds before the first 0X, or all where there is none (Active Oberon Language
-- Report, Reali 2002, section on strings); and string constants, which are arrays of their characters with a 0X behind them.
use Rattle.std.specs.Prelude.{ℕ, suc, List, [], ◌∷◌, length, map, Bool, if◌then◌else◌, Option, Some, None, unsigned_abs}
use Rattle.aos_base.specs.Text.{before_end, ended_within, cut_within}
use Rattle.aos_types.specs.Content.{Content, Scalar, Empty, Row, flatten}
use Rattle.aos_types.specs.Shape.{Shape, One, repeated}
use Rattle.aos_typed.specs.declared.tree.TType.TheVariants as type
use Rattle.aos_typed.specs.Numbers.{id_of}
use Rattle.aos_typed.specs.Sort.{Sort, Plain}
use Rattle.aos_typed.specs.Value.{Value, Char, number_of}

-- the codes of all characters that contents have
abbrev pub codes_in : Content Value → List ℕ
codes_in c = map (λ v. unsigned_abs (number_of v)) (flatten c)

-- the text of contents; what isn't there has none, and no well-typed program comes to it
abbrev pub text_in : Option (Content Value) → List ℕ
text_in None = []
text_in (Some c) = before_end (codes_in c)

-- the same array, whose first elements are these characters
abbrev pub with_text : List ℕ → Content Value → Content Value
with_text [] c = c
with_text (x ∷ xs) (Scalar v) = Scalar v
with_text (x ∷ xs) Empty = Empty
with_text (x ∷ xs) (Row a rest) = Row (Scalar (Char x)) (with_text xs rest)

-- the characters that are stored of a text in an array of so many, the 0X among them; none where it must fit and doesn't
abbrev pub fitted : Bool → ℕ → List ℕ → Option (List ℕ)
fitted strict room cs = if strict then ended_within room cs else Some (cut_within room cs)

-- a string constant
abbrev pub text_content : List ℕ → Content Value
text_content [] = Row (Scalar (Char 0)) Empty
text_content (c ∷ cs) = Row (Scalar (Char c)) (text_content cs)

abbrev pub text_shape : List ℕ → Shape Sort
text_shape cs = repeated (suc (length cs)) (One (Plain (id_of type.Char)))
