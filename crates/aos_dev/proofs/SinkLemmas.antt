-- Pieces that were written one after another, as one piece.
use Rattle.std.proofs.Common.{◌≡◌, ℕ, List, [], ◌++◌, Option, Some, None, is_some, refl, append_assoc, append-nil}
use Rattle.aos_dev.specs.Sink.{appended}

pub appended-appended : (told : Option (List ℕ)) (first second : List ℕ)
    → appended (appended told first) second ≡ appended told (first ++ second)
appended-appended None first second = refl
appended-appended (Some bytes) first second = simp append_assoc

pub appended-nil : (told : Option (List ℕ)) → appended told [] ≡ told
appended-nil None = refl
appended-nil (Some bytes) = simp append-nil

pub is_some-appended : (told : Option (List ℕ)) (piece : List ℕ) → is_some (appended told piece) ≡ is_some told
is_some-appended None piece = refl
is_some-appended (Some bytes) piece = refl
