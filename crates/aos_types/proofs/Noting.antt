-- Lists of types that are noted one after another.
use Rattle.std.proofs.Common.{◌≡◌, ℕ, ◌+◌, ◌<◌, List, [], ◌∷◌, ◌++◌, length, take, get_or, refl, sym, ap, ◌∙◌}
use Rattle.std.specs.List.{flat_map}
use Rattle.std.proofs.lemmas.List.{take_more, flat_map_more}
use Rattle.aos_types.specs.declared.row.TypeId.{TypeId}
use Rattle.aos_types.specs.Walk.{Marks, noted, all_noted}

pub all_noted_append : (xs ys : List TypeId) (m : Marks) → all_noted (xs ++ ys) m ≡ all_noted ys (all_noted xs m)
all_noted_append [] ys m = refl
all_noted_append (x ∷ xs) ys m = all_noted_append xs ys (noted x m)

-- one more list
pub all_noted_more : (f : TypeId → List TypeId) (m : Marks) (xs : List TypeId) (i : ℕ) (d : TypeId) → i < length xs → all_noted (f (get_or xs i d)) (all_noted (flat_map f (take i xs)) m) ≡ all_noted (flat_map f (take (i + 1) xs)) m
all_noted_more f m xs i d lt =
    sym (all_noted_append (flat_map f (take i xs)) (f (get_or xs i d)) m) ∙ ap (λ z. all_noted z m) (flat_map_more f [] (take i xs) (get_or xs i d) ∙ ap (λ z. flat_map f z) (sym (take_more xs i d lt)))
