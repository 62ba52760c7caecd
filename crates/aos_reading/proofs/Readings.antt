-- What texts are read as, one by one.
use Rattle.std.proofs.Common.{◌≡◌, ℕ, suc, ◌+◌, ◌<◌, ◌≤◌, List, [], ◌∷◌, ◌++◌, length, map, take, drop, get_or, Vec, Global, refl, sym, ap, ◌∙◌, subst, ⊎_elim, append-nil, append_assoc, add-one, arith}
use Rattle.std.specs.Prelude.{◌⊎◌, Some}
use Rattle.std.proofs.lemmas.List.{take_more, map-append, get_or-map, length-map, drop_more, drop_all}
use Rattle.aos_scan.specs.declared.refusal.ScanErr.{ScanErr}
use Rattle.aos_scan.specs.declared.refusal.ScanErr.TheVariants as scan
use Rattle.aos_scan.specs.Refusal.{IsRefused as IsRefusedByScanner}
use Rattle.aos_tree.specs.declared.module.Module.{Module as Tree}
use Rattle.aos_symbols.specs.declared.breach.Breach.{Breach}
use Rattle.aos_symbols.specs.Outcome.{Outcome, refused, went, then, refusal_of}
use Rattle.aos_reading.specs.declared.compile_err.CompileErr.{CompileErr}
use Rattle.aos_reading.specs.declared.compile_err.CompileErr.TheVariants.{Refused}
use Rattle.aos_reading.specs.declared.front.Reading.{Reading as CodeReading}
use Rattle.aos_reading.specs.declared.front.Reading.TheVariants as code
use Rattle.aos_reading.specs.Files.{Reading, tree, broken, trees_from}
use Rattle.aos_reading.specs.Texts.{IsReading, AreReadings, by_scanner}
use Rattle.aos_reading.specs.Sources.{breach_of_scan, seen_reading, bytes_of, OnRefused}

some_is : {a b : Breach} → Some a ≡ Some b → a ≡ b
some_is e = cc

-- the scanner's refusal of a text is its reading
pub scanned : (text : List ℕ) (e : ScanErr) (b : Breach) → (e ≡ scan.NoMemory) ⊎ IsRefusedByScanner text e → breach_of_scan e ≡ Some b → IsReading text (broken b)
scanned text (scan.Bad p) b why is = subst (λ x. IsReading text (broken x)) (some_is is) (by_scanner (scan.Bad p) (⊎_elim (λ memory. absurd (cc)) (λ h. h) why))
scanned text (scan.OpenComment p) b why is = subst (λ x. IsReading text (broken x)) (some_is is) (by_scanner (scan.OpenComment p) (⊎_elim (λ memory. absurd (cc)) (λ h. h) why))
scanned text (scan.OpenString p) b why is = subst (λ x. IsReading text (broken x)) (some_is is) (by_scanner (scan.OpenString p) (⊎_elim (λ memory. absurd (cc)) (λ h. h) why))
scanned text (scan.TooBig p) b why is = subst (λ x. IsReading text (broken x)) (some_is is) (by_scanner (scan.TooBig p) (⊎_elim (λ memory. absurd (cc)) (λ h. h) why))
scanned text scan.NoMemory b why is = absurd (cc)

readings_more : (texts : List (List ℕ)) (rs : List Reading) (text : List ℕ) (r : Reading) → AreReadings texts rs → IsReading text r → AreReadings (texts ++ text ∷ []) (rs ++ r ∷ [])
readings_more [] [] text r h k = (k, tt)
readings_more [] (s ∷ ss) text r h k = absurd h
readings_more (t ∷ ts) [] text r h k = absurd h
readings_more (t ∷ ts) (s ∷ ss) text r h k = (h.0, readings_more ts ss text r h.1 k)

-- one text more is read
pub read_more : (ts : List (Vec ℕ Global)) (rs new : List CodeReading) (i : ℕ) (t : Vec ℕ Global) (text : List ℕ) (r : CodeReading) → i < length ts → t ≡ get_or ts i t →
    text ≡ t.items → AreReadings (bytes_of (take i ts)) (map seen_reading rs) → IsReading text (seen_reading r) → new ≡ rs ++ r ∷ [] →
    AreReadings (bytes_of (take (i + 1) ts)) (map seen_reading new)
read_more ts rs new i t text r lt is at h k pushed =
    let texts_are : bytes_of (take (i + 1) ts) ≡ bytes_of (take i ts) ++ text ∷ [] =
    ap bytes_of (take_more ts i t lt) ∙ map-append (λ v. v.items) (take i ts) (get_or ts i t ∷ [])
    ∙ ap (λ (v : Vec ℕ Global). bytes_of (take i ts) ++ v.items ∷ []) (sym is) ∙ ap (λ x. bytes_of (take i ts) ++ x ∷ []) (sym at) in
    let readings_are : map seen_reading new ≡ map seen_reading rs ++ seen_reading r ∷ [] = ap (map seen_reading) pushed ∙ map-append seen_reading rs (r ∷ []) in
    subst (λ x. AreReadings x (map seen_reading new)) (sym texts_are)
    (subst (λ x. AreReadings (bytes_of (take i ts) ++ text ∷ []) x) (sym readings_are)
    (readings_more (bytes_of (take i ts)) (map seen_reading rs) text (seen_reading r) h k))

pub length-readings : (texts : List (List ℕ)) (rs : List Reading) → AreReadings texts rs → length rs ≡ length texts
length-readings [] [] h = refl
length-readings [] (s ∷ ss) h = absurd h
length-readings (t ∷ ts) [] h = absurd h
length-readings (t ∷ ts) (s ∷ ss) h = ap suc (length-readings ts ss h.1)

length-by : (k : ℕ) (m : Tree) (n : ℕ) (o : Outcome (List Tree)) (ms : List Tree) → ((xs : List Tree) → o ≡ went xs → length xs ≡ n) →
    then o (λ xs. went (m ∷ xs)) ≡ went ms → length ms ≡ suc n
length-by k m n (refused r) ms h e = cc
length-by k m n (went xs) ms h e = let same : m ∷ xs ≡ ms = cc in ap length (sym same) ∙ ap suc (h xs refl)

pub length-trees : (k : ℕ) (rs : List Reading) (ms : List Tree) → trees_from k rs ≡ went ms → length ms ≡ length rs
length-trees k [] ms e = let same : [] ≡ ms = cc in ap length (sym same)
length-trees k (tree m ∷ rs) ms e = length-by k m (length rs) (trees_from (suc k) rs) ms (length-trees (suc k) rs) e
length-trees k (broken b ∷ rs) ms e = cc

-- the trees so far, and what the rest comes to
abbrev pub behind : List Tree → ℕ → List Reading → Outcome (List Tree)
behind so_far k rs = then (trees_from k rs) (λ ms. went (so_far ++ ms))

behind_by : (so_far : List Tree) (m : Tree) (o : Outcome (List Tree)) → then (then o (λ ms. went (m ∷ ms))) (λ ms. went (so_far ++ ms)) ≡ then o (λ ms. went ((so_far ++ m ∷ []) ++ ms))
behind_by so_far m (refused r) = refl
behind_by so_far m (went ms) = ap went (sym (append_assoc so_far (m ∷ []) ms))

pub behind_nothing : (o : Outcome (List Tree)) → then o (λ ms. went ([] ++ ms)) ≡ o
behind_nothing (refused r) = refl
behind_nothing (went ms) = refl

module _ (rs : List CodeReading) where
  abbrev all : List Reading
  all = map seen_reading rs

  abbrev pub IsOnTheWay : ℕ → List Tree → Type 0
  IsOnTheWay i so_far = behind so_far i (drop i all) ≡ trees_from 0 all

  pub on_the_way : IsOnTheWay 0 []
  on_the_way = behind_nothing (trees_from 0 all)

  rest_is : (i : ℕ) (r : CodeReading) → i < length rs → r ≡ get_or rs i r → drop i all ≡ seen_reading r ∷ drop (i + 1) all
  rest_is i r lt is =
      let within : i < length all = omega (arith, length-map rs seen_reading) in
      drop_more all i (seen_reading r) within ∙ ap (λ x. x ∷ drop (i + 1) all) (get_or-map seen_reading rs i r (seen_reading r) lt ∙ ap seen_reading (sym is))

  -- one tree more
  pub tree_more : (i : ℕ) (so_far new : List Tree) (m : Tree) (r : CodeReading) → i < length rs → r ≡ get_or rs i r → r ≡ code.Tree m → new ≡ so_far ++ m ∷ [] → IsOnTheWay i so_far →
      IsOnTheWay (i + 1) new
  tree_more i so_far new m r lt is at pushed h =
      ap (λ ms. behind ms (i + 1) (drop (i + 1) all)) pushed ∙ ap (λ n. behind (so_far ++ m ∷ []) n (drop (i + 1) all)) (add-one i)
      ∙ sym (behind_by so_far m (trees_from (suc i) (drop (i + 1) all)))
      ∙ ap (λ x. behind so_far i (seen_reading x ∷ drop (i + 1) all)) (sym at) ∙ ap (behind so_far i) (sym (rest_is i r lt is)) ∙ h

  -- a text that is broken
  pub broken_here : (i : ℕ) (so_far : List Tree) (b : Breach) (r : CodeReading) (said : CompileErr) → i < length rs → r ≡ get_or rs i r → r ≡ code.Broken b → IsOnTheWay i so_far →
      said ≡ Refused (refusal_of i b) → OnRefused said (λ x. trees_from 0 all ≡ refused x)
  broken_here i so_far b r said lt is at h told =
      subst (λ e. OnRefused e (λ x. trees_from 0 all ≡ refused x)) (sym told)
      (sym h ∙ ap (behind so_far i) (rest_is i r lt is) ∙ ap (λ x. behind so_far i (seen_reading x ∷ drop (i + 1) all)) at)

  pub all_read : (i : ℕ) (so_far : List Tree) → length rs ≤ i → IsOnTheWay i so_far → trees_from 0 all ≡ went so_far
  all_read i so_far le h =
      sym h ∙ ap (behind so_far i) (drop_all i all (omega (arith, length-map rs seen_reading))) ∙ ap went (append-nil so_far)
