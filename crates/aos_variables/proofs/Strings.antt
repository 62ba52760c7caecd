-- String constants: their characters, and one more of them.
use Rattle.std.proofs.Common.{◌≡◌, ℕ, ◌+◌, ◌<◌, List, [], ◌∷◌, ◌++◌, length, map, take, Some, None, sym, ap, lt-ltb, if◌then◌else◌}
use Rattle.std.specs.Option.{unwrap_or}
use Rattle.std.proofs.lemmas.List.{map_more}
use Rattle.std.proofs.lemmas.Option.{slice_get-get_or}
use Rattle.aos_symbols.specs.Home.{Home, character, between_quotes, string_in}

-- a byte is a character's code
pub character_is : (b : ℕ) → b < 256 → character b ≡ b
character_is b h = ap (λ c. unwrap_or (if c then Some b else None) 0) (lt-ltb b 256 h)

-- the codes of one string's characters
abbrev pub text_of : Home → ℕ × ℕ → List ℕ
text_of h s = map character (between_quotes h.text s)

pub one_more : (h : Home) (k : ℕ) → k < length h.strings → map (text_of h) (take k h.strings) ++ map character (string_in h k) ∷ [] ≡ map (text_of h) (take (k + 1) h.strings)
one_more h k within = rw (slice_get-get_or h.strings k (0, 0) within) (sym (map_more (text_of h) h.strings k (0, 0) within))
