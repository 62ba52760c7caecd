-- What comes of fetching files from a shelf that tells its texts and doesn't fail.
use Rattle.std.specs.Prelude.{◌≡◌, ℕ, ◌≤◌, nat_le, List, [], ◌∷◌, length, if◌then◌else◌}
use Rattle.std.specs.Prelude.{Option, Some, None, IfSome}
use Rattle.aos_dev.specs.Shelf.{Named, text_of}
use Rattle.aos.specs.Wanted.{Wanted}

-- the texts of all of them; or the first that is absent, or has more bytes than it may have
pub data Fetched : Type 0 where
  Texts : (texts : List (List ℕ)) → Fetched
  NoFile : (file : List ℕ) → Fetched
  LongFile : (file : List ℕ) → (most : ℕ) → Fetched

-- a text, and what came of the files behind it
abbrev pub with_text : List ℕ → Fetched → Fetched
with_text text (Texts texts) = Texts (text ∷ texts)
with_text text (NoFile file) = NoFile file
with_text text (LongFile file most) = LongFile file most

-- what the shelf has under the file's name, and what came of the files behind it
abbrev pub fetch_one : Wanted → Option (List ℕ) → Fetched → Fetched
fetch_one w None others = NoFile w.file
fetch_one w (Some text) others =
    if nat_le (length text) w.most then with_text text others else LongFile w.file w.most

-- one after another, up to the first that isn't had
abbrev pub fetch_all : List Named → List Wanted → Fetched
fetch_all ts [] = Texts []
fetch_all ts (w ∷ ws) = fetch_one w (text_of ts w.file) (fetch_all ts ws)

-- each of these texts has no more bytes than it may have
abbrev pub AreWithin : List Wanted → List (List ℕ) → Type 0
AreWithin [] [] = Unit {0}
AreWithin [] (text ∷ texts) = ⊥
AreWithin (w ∷ ws) [] = ⊥
AreWithin (w ∷ ws) (text ∷ texts) = (length text ≤ w.most) × AreWithin ws texts

-- this comes of fetching the files, as far as the shelf tells its texts
abbrev pub Fetches : Option (List Named) → List Wanted → Fetched → Type 0
Fetches texts files what = IfSome texts (λ ts. fetch_all ts files ≡ what)

-- all of these files are had, as far as the shelf tells
abbrev pub AreHad : Option (List Named) → List Wanted → Type 0
AreHad texts files =
    IfSome texts (λ ts. (all : List (List ℕ)) × (fetch_all ts files ≡ Texts all))

-- these files have these texts, as far as the shelf tells
pub record Had (texts : Option (List Named)) (files : List Wanted) (all : List (List ℕ))
    : Type 0 where
  pub told : Fetches texts files (Texts all)
  pub fits : AreWithin files all
