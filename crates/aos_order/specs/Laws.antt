-- What a load order keeps, and why the files of a cycle have none.
use Rattle.std.specs.Prelude.{◌≡◌, ◌≢◌, ℕ, ◌<◌, Bool, true, not, ◌||◌, ◌&&◌, List, [], Some, length, take, slice_get, slice_index, slice_index_or}
use Rattle.std.specs.List.{AllPairs, list_all, list_any}
use Rattle.std.specs.Str.{bytes_eq}
use Rattle.aos_order.specs.Files.{File, Wanted}
use Rattle.aos_order.specs.Placing.{is_among}
use Rattle.aos_order.specs.Order.{is_out, names}

-- one of these files has the module of this name
abbrev pub is_of : List (List ℕ) → List ℕ → List ℕ → Bool
is_of names ks name = list_any (λ k. bytes_eq name (slice_index_or names k [])) ks

-- what is imported is Out, or a module of these files
abbrev pub is_loaded : List (List ℕ) → List ℕ → Wanted → Bool
is_loaded names ks w = is_out w.name || is_of names ks w.name

pub record IsLoadOrder (files : List File) (order : List ℕ) : Type 0 where
  -- each file is in it
  pub each : (k : ℕ) → k < length files → is_among order k ≡ true
  -- and once
  pub once : AllPairs (λ j k. j ≢ k) order
  -- behind all that its module imports
  pub behind : (i : ℕ) (f : File) → i < length order → slice_get files (slice_index order i) ≡ Some f →
      list_all (is_loaded (names files) (take i order)) f.imports ≡ true

-- each of these files imports a module of one of them
abbrev pub IsKnot : List File → List ℕ → Type 0
IsKnot files left = (k : ℕ) (f : File) → is_among left k ≡ true → slice_get files k ≡ Some f →
    list_any (λ w. not (is_out w.name) && is_of (names files) left w.name) f.imports ≡ true
