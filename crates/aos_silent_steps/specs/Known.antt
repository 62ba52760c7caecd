-- What objects are known to be made as.
use Rattle.std.specs.Prelude.{◌≡◌, ℕ, List, Option, Some, map}
use Rattle.aos_base.specs.Rooted.{Made, by_number}
use Rattle.aos_store.specs.declared.heap.Object.{Object}
use Rattle.aos_store.specs.Objects.{made_in}

-- by the objects that there are
abbrev pub known : List Object → ℕ → Option Made
known os = λ o. by_number o (map made_in os)

-- all that one knows the other knows too
abbrev pub Knows : (all made : ℕ → Option Made) → Type 0
Knows all made = (o : ℕ) (m : Made) → made o ≡ Some m → all o ≡ Some m
