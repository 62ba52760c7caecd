-- Texts that are written in pieces, and lines one after another.
use Rattle.std.proofs.Common.{◌≡◌, ℕ, ◌+◌, ◌-◌, ◌<◌, ◌≤◌, min, Option, arith, List, [], ◌∷◌, ◌++◌, length, take, drop, get_or, map, refl, sym, ap, ◌∙◌, append_assoc, append-nil}
use Rattle.std.specs.Prelude.{slice_range}
use Rattle.std.proofs.Math.Seq.{take-append-add}
use Rattle.std.proofs.lemmas.List.{take_more, map-append, take_min, take-append-drop, take-append-le, length-take-le}
use Rattle.aos_dev.specs.Sink.{appended, WrotePart}
use Rattle.aos_dev.proofs.SinkLemmas.{appended-appended}
use Rattle.aos_code.specs.declared.report.TrapRec.{TrapRec}
use Rattle.aos_code.specs.declared.report.WaitRec.{WaitRec}
use Rattle.aos.specs.Shown.{row_of, wait_row_of}
use Rattle.aos_report.specs.Texts.{row_text, rows_text, wait_text, waits_text}

-- A text that is made of a line for each of many rows.
module _ {R : Type 0} (text : R → List ℕ) (all : List R → List ℕ) (none : all [] ≡ []) (more : (r : R) (rs : List R) → all (r ∷ rs) ≡ text r ++ all rs) where
  all-append : (rows others : List R) → all (rows ++ others) ≡ all rows ++ all others
  all-append [] others = ap (λ l. l ++ all others) (sym none)
  all-append (r ∷ rs) others =
      more r (rs ++ others) ∙ ap (λ l. text r ++ l) (all-append rs others)
      ∙ sym (append_assoc (text r) (all rs) (all others)) ∙ ap (λ l. l ++ all others) (sym (more r rs))

  -- the lines so far, and one more
  one_more : {A : Type 0} (told : A → R) (ts : List A) (k : ℕ) (t : A) (lines lines' line : List ℕ) → k < length ts → t ≡ get_or ts k t → lines ≡ all (map told (take k ts)) → lines' ≡ lines ++ line → line ≡ text (told t) → lines' ≡ all (map told (take (k + 1) ts))
  one_more told ts k t lines lines' line lt at h e e' =
      let next : take (k + 1) ts ≡ take k ts ++ t ∷ [] = take_more ts k t lt ∙ ap (λ q. take k ts ++ q ∷ []) (sym at) in
      let last : text (told t) ≡ all (told t ∷ []) = sym (append-nil (text (told t))) ∙ ap (λ l. text (told t) ++ l) (sym none) ∙ sym (more (told t) []) in
      e ∙ ap (λ l. l ++ line) h ∙ ap (λ l. all (map told (take k ts)) ++ l) (e' ∙ last)
      ∙ sym (all-append (map told (take k ts)) (told t ∷ []))
      ∙ ap all (sym (map-append told (take k ts) (t ∷ [])))
      ∙ ap (λ l. all (map told l)) (sym next)

module _ (names : List (List ℕ)) where
  pub one_more_trap : (ts : List TrapRec) (k : ℕ) (t : TrapRec) (lines lines' line : List ℕ) → k < length ts → t ≡ get_or ts k t → lines ≡ rows_text names (map row_of (take k ts)) → lines' ≡ lines ++ line → line ≡ row_text names (row_of t) → lines' ≡ rows_text names (map row_of (take (k + 1) ts))
  one_more_trap = one_more (row_text names) (rows_text names) refl (λ r rs. refl) row_of

  pub one_more_wait : (ws : List WaitRec) (k : ℕ) (w : WaitRec) (lines lines' line : List ℕ) → k < length ws → w ≡ get_or ws k w → lines ≡ waits_text names (map wait_row_of (take k ws)) → lines' ≡ lines ++ line → line ≡ wait_text names (wait_row_of w) → lines' ≡ waits_text names (map wait_row_of (take (k + 1) ws))
  one_more_wait = one_more (wait_text names) (waits_text names) refl (λ r rs. refl) wait_row_of

-- the first bytes, and then some of those behind them
take_on : (a b : ℕ) (xs : List ℕ) → a ≤ length xs → take (a + b) xs ≡ take a xs ++ take b (drop a xs)
take_on a b xs le =
    let n : length (take a xs) ≡ a = length-take-le a xs le in
    ap (λ m. take (m + b) xs) (sym n) ∙ ap (take (length (take a xs) + b)) (sym (take-append-drop a xs))
    ∙ take-append-add (take a xs) (drop a xs) b

-- the first bytes of a piece are those of the text from there on
take_piece : (k m : ℕ) (xs : List ℕ) → k ≤ length (take m xs) → take k (take m xs) ≡ take k xs
take_piece k m xs le = sym (take-append-le k (take m xs) (drop m xs) le) ∙ ap (take k) (take-append-drop m xs)

-- a part of a piece that was written behind all before it is a part of the text
pub part_of_text : (w0 w w' : Option (List ℕ)) (text : List ℕ) (at end : ℕ) → at ≤ length text → w ≡ appended w0 (take at text) → WrotePart w w' (slice_range text at end) → WrotePart w0 w' text
part_of_text w0 w w' text at end le h part =
    let piece = slice_range text at end in
    let k = min part.0 (length piece) in
    let short : k ≤ length piece = omega arith in
    let same : take part.0 piece ≡ take k (drop at text) = sym (take_min part.0 piece) ∙ take_piece k (end - at) (drop at text) short in (
      at + k,
      part.1 ∙ ap (λ v. appended v (take part.0 piece)) h ∙ appended-appended w0 (take at text) (take part.0 piece)
          ∙ ap (λ l. appended w0 (take at text ++ l)) same ∙ ap (appended w0) (sym (take_on at k text le)),
    )

-- a piece that was written behind all before it
pub piece_of_text : (w0 w w' : Option (List ℕ)) (text : List ℕ) (at end : ℕ) → at < end → end ≤ length text → w ≡ appended w0 (take at text) → w' ≡ appended w (slice_range text at end) → w' ≡ appended w0 (take end text)
piece_of_text w0 w w' text at end lt le h e =
    let le' : at ≤ length text = omega arith in
    let n : at + (end - at) ≡ end = omega arith in
    e ∙ ap (λ v. appended v (slice_range text at end)) h ∙ appended-appended w0 (take at text) (slice_range text at end)
    ∙ ap (appended w0) (sym (take_on at (end - at) text le') ∙ ap (λ m. take m text) n)
