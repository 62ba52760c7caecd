-- What stands between tokens: blanks and comments, which may be nested.
use Rattle.std.specs.Prelude.{◌≡◌, ℕ, ◌+◌, ◌<◌, List, length, slice_index, IsTrue}
use Rattle.aos_scan.specs.Bytes.{is_blank}

-- `(*` stands at the place
pub record OpensComment (text : List ℕ) (at : ℕ) : Type 0 where
  pub parenthesis : slice_index text at ≡ 40
  pub star : slice_index text (at + 1) ≡ 42

-- `*)` stands at the place
pub record ClosesComment (text : List ℕ) (at : ℕ) : Type 0 where
  pub star : slice_index text at ≡ 42
  pub parenthesis : slice_index text (at + 1) ≡ 41

-- From one place in a comment to the place after its `*)`: the `*)`, a comment in it, or any byte that begins neither.
pub data Comment (text : List ℕ) : ℕ → ℕ → Type 0 where
  closed : {at end : ℕ} → ClosesComment text at → end ≡ at + 2 → Comment text at end
  nested : {at from middle end : ℕ} → OpensComment text at → from ≡ at + 2 → Comment text from middle → Comment text middle end → Comment text at end
  other : {at next end : ℕ} → at < length text → ¬ OpensComment text at → ¬ ClosesComment text at → next ≡ at + 1 → Comment text next end → Comment text at end

-- a comment stands from one place to the other
pub record IsComment (text : List ℕ) (at end : ℕ) : Type 0 where
  pub opens : OpensComment text at
  pub rest : Comment text (at + 2) end

-- blanks and comments alone, or nothing, stand from one place to the other
pub data Gap (text : List ℕ) : ℕ → ℕ → Type 0 where
  nothing : {at end : ℕ} → end ≡ at → Gap text at end
  blank : {at next end : ℕ} → IsTrue (is_blank (slice_index text at)) → next ≡ at + 1 → Gap text next end → Gap text at end
  comment : {at next end : ℕ} → IsComment text at next → Gap text next end → Gap text at end
