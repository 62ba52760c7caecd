-- The token that begins at a place, by its first byte.
use Rattle.std.proofs.Common.{subst, ◌≡◌, ◌≢◌, ℕ, ◌+◌, ◌-◌, ◌<◌, ◌≤◌, Bool, true, false, not, cond, List, [], ◌∷◌, length, get_or, Option, Some, None, refl, sym, ap, ◌∙◌, ⊎_elim, arith}
use Rattle.std.specs.Prelude.{slice_range, option_map, nat_le, unwrap_or}
use Rattle.std.specs.List.{list_all}
use Rattle.std.specs.Str.{bytes_eq}
use Rattle.std.specs.Char.{is_ascii_digit, is_ascii_alphabetic}
use Rattle.std.proofs.lemmas.Bool.{true≢false, cases_lt, cases_Bool, and_parts, leb-true, or_left, and_right, eq-eqb, ne_eqb, not-true}
use Rattle.aos_scan.specs.declared.run.Class.TheVariants.{Word, Decimal, Hexadecimal, Inside}
use Rattle.aos_scan.specs.declared.token.TokenKind.{TokenKind}
use Rattle.aos_scan.specs.declared.token.TokenKind.TheVariants as kind
use Rattle.aos_scan.specs.Bytes.{is_in, is_hexadecimal, is_quote, is_word_byte, is_text_byte}
use Rattle.aos_scan.specs.Run.{IsRun}
use Rattle.aos_scan.specs.Spelling.{Lexeme, Row, kind_in, reserved_words, symbols, front, is_run_then, value_of, word_kind, word, number, text as text_lexeme, symbol, lexeme}
use Rattle.aos_scan.specs.TokenList.{Begins}
use Rattle.aos_scan.specs.Refusal.{StringIsOpen, NothingBegins}
use Rattle.aos_scan.specs.Found.{EndsGap}
use Rattle.aos_scan.proofs.Words.{bytes_eq-other_length}
use Rattle.aos_scan.proofs.Slices.{slice_range-first, slice_range-none, length-slice_range, front-slice_range, not_all-slice_range, run_some, all_of_run, not_past_run, run_then, not_run_then_past, not_run_then}

lexeme-word : (b : ℕ) (w : List ℕ) → is_ascii_alphabetic b ≡ true → lexeme (b ∷ w) ≡ word (b ∷ w)
unfolding lexeme
lexeme-word b w letter = rw letter refl

lexeme-number : (b : ℕ) (w : List ℕ) → is_ascii_alphabetic b ≡ false → is_ascii_digit b ≡ true → lexeme (b ∷ w) ≡ number (b ∷ w)
unfolding lexeme
lexeme-number b w no_letter digit = rw (no_letter, digit) refl

lexeme-text : (b : ℕ) (w : List ℕ) → is_ascii_alphabetic b ≡ false → is_ascii_digit b ≡ false → is_quote b ≡ true → lexeme (b ∷ w) ≡ text_lexeme b w
unfolding lexeme
lexeme-text b w no_letter no_digit quote = rw (no_letter, no_digit, quote) refl

lexeme-symbol : (b : ℕ) (w : List ℕ) → is_ascii_alphabetic b ≡ false → is_ascii_digit b ≡ false → is_quote b ≡ false → lexeme (b ∷ w) ≡ symbol (b ∷ w)
unfolding lexeme
lexeme-symbol b w no_letter no_digit no_quote = rw (no_letter, no_digit, no_quote) refl

lexeme-nil : lexeme [] ≡ None
unfolding lexeme
lexeme-nil = refl

word-some : (w : List ℕ) → list_all is_word_byte w ≡ true → word w ≡ Some (record { kind = word_kind w; value = 0 })
word-some w all = ap (λ t. cond t (Some (record { kind = word_kind w; value = 0 })) None) all

word-none : (w : List ℕ) → list_all is_word_byte w ≡ false → word w ≡ None
word-none w all = ap (λ t. cond t (Some (record { kind = word_kind w; value = 0 })) None) all

number-decimal : (w : List ℕ) → list_all is_ascii_digit w ≡ true → number w ≡ Some (record { kind = kind.Number; value = value_of 10 w })
number-decimal w digits = rw digits refl

number-hexadecimal : (w : List ℕ) → list_all is_ascii_digit w ≡ false → is_run_then is_hexadecimal 72 w ≡ true → number w ≡ Some (record { kind = kind.Number; value = value_of 16 (front w) })
number-hexadecimal w digits number = rw (digits, number) refl

number-char : (w : List ℕ) → list_all is_ascii_digit w ≡ false → is_run_then is_hexadecimal 72 w ≡ false → is_run_then is_hexadecimal 88 w ≡ true → number w ≡ Some (record { kind = kind.Char; value = value_of 16 (front w) })
number-char w digits number char = rw (digits, number, char) refl

number-none : (w : List ℕ) → list_all is_ascii_digit w ≡ false → is_run_then is_hexadecimal 72 w ≡ false → is_run_then is_hexadecimal 88 w ≡ false → number w ≡ None
number-none w digits number char = rw (digits, number, char) refl

text-some : (quote : ℕ) (w : List ℕ) → is_run_then (is_text_byte quote) quote w ≡ true → text_lexeme quote w ≡ Some (record { kind = kind.Text; value = 0 })
text-some quote w closed = rw closed refl

text-none : (quote : ℕ) (w : List ℕ) → is_run_then (is_text_byte quote) quote w ≡ false → text_lexeme quote w ≡ None
text-none quote w closed = rw closed refl

-- no kind of a row is that of the end
is_end : TokenKind → Bool
is_end kind.End = true
is_end _ = false

kind_in-passes : (rows : List Row) (w : List ℕ) (k : TokenKind) → list_all (λ row. not (is_end row.kind)) rows ≡ true → kind_in rows w ≡ Some k → is_end k ≡ false
kind_in-passes [] w k all is = cc
kind_in-passes (row ∷ rows) w k all is =
    let parts = and_parts _ _ all in
    ⊎_elim
    (λ same. let e : Some row.kind ≡ Some k = sym (ap (λ t. cond t (Some row.kind) (kind_in rows w)) same) ∙ is in
    let kinds : row.kind ≡ k = cc in
    ap is_end (sym kinds) ∙ not-true (is_end row.kind) parts.0)
    (λ other. kind_in-passes rows w k parts.1 (sym (ap (λ t. cond t (Some row.kind) (kind_in rows w)) other) ∙ is))
    (cases_Bool (bytes_eq row.spelling w))

not_end : (o : Option TokenKind) → ((k : TokenKind) → o ≡ Some k → k ≢ kind.End) → unwrap_or o kind.Ident ≢ kind.End
unfolding is_end
not_end None each = λ e. true≢false (sym (ap is_end e))
not_end (Some k) each = each k refl

pub symbol_not_end : (w : List ℕ) (k : TokenKind) → kind_in symbols w ≡ Some k → k ≢ kind.End
unfolding is_end symbols
symbol_not_end w k is end = true≢false (sym (ap is_end end) ∙ kind_in-passes symbols w k refl is)

reserved_not_end : (w : List ℕ) (k : TokenKind) → kind_in reserved_words w ≡ Some k → k ≢ kind.End
unfolding reserved_words is_end
reserved_not_end w k is end = true≢false (sym (ap is_end end) ∙ kind_in-passes reserved_words w k refl is)

pub number_not_end : kind.Number ≢ kind.End
unfolding is_end
number_not_end end = true≢false (sym (ap is_end end))

pub char_not_end : kind.Char ≢ kind.End
unfolding is_end
char_not_end end = true≢false (sym (ap is_end end))

pub text_not_end : kind.Text ≢ kind.End
unfolding is_end
text_not_end end = true≢false (sym (ap is_end end))

pub word_not_end : (w : List ℕ) → word_kind w ≢ kind.End
word_not_end w = not_end (kind_in reserved_words w) (λ k. reserved_not_end w k)

-- no row is longer than two bytes
kind_in-long : (rows : List Row) (w : List ℕ) → list_all (λ row. nat_le (length row.spelling) 2) rows ≡ true → 2 < length w → kind_in rows w ≡ None
kind_in-long [] w short long = refl
kind_in-long (row ∷ rows) w short long =
    let parts = and_parts (nat_le (length row.spelling) 2) _ short in
    ap (λ t. cond t (Some row.kind) (kind_in rows w))
    (bytes_eq-other_length row.spelling w (λ e. omega (arith, e, leb-true (length row.spelling) 2 parts.0)))
    ∙ kind_in-long rows w parts.1 long

symbols-long : (w : List ℕ) → 2 < length w → kind_in symbols w ≡ None
unfolding symbols
symbols-long w long = kind_in-long symbols w refl long

module _ (text : List ℕ) (at : ℕ) (within : at < length text) where
  -- no token is empty
  none_before : (k : ℕ) → k ≤ at → lexeme (slice_range text at k) ≡ None
  none_before k before = ap lexeme (slice_range-none text at k before) ∙ lexeme-nil

  word_at : is_ascii_alphabetic (get_or text at 0) ≡ true → (k : ℕ) → at < k → k ≤ length text → lexeme (slice_range text at k) ≡ word (slice_range text at k)
  word_at letter k some inside =
      let first = slice_range-first text at k some inside in
      ap lexeme first ∙ lexeme-word _ _ letter ∙ ap word (sym first)

  number_at : is_ascii_alphabetic (get_or text at 0) ≡ false → is_ascii_digit (get_or text at 0) ≡ true → (k : ℕ) → at < k → k ≤ length text → lexeme (slice_range text at k) ≡ number (slice_range text at k)
  number_at no_letter digit k some inside =
      let first = slice_range-first text at k some inside in
      ap lexeme first ∙ lexeme-number _ _ no_letter digit ∙ ap number (sym first)

  symbol_at : is_ascii_alphabetic (get_or text at 0) ≡ false → is_ascii_digit (get_or text at 0) ≡ false → is_quote (get_or text at 0) ≡ false → (k : ℕ) → at < k → k ≤ length text → lexeme (slice_range text at k) ≡ symbol (slice_range text at k)
  symbol_at no_letter no_digit no_quote k some inside =
      let first = slice_range-first text at k some inside in
      ap lexeme first ∙ lexeme-symbol _ _ no_letter no_digit no_quote ∙ ap symbol (sym first)

  pub word_begins : EndsGap text at → is_ascii_alphabetic (get_or text at 0) ≡ true → (end : ℕ) → IsRun Word text at end → Begins text at end (record { kind = word_kind (slice_range text at end); value = 0 })
  word_begins gap letter end run =
      let some = run_some text Word at end run within (or_left _ _ (or_left _ _ letter)) in
      record {
        no_comment = gap.no_comment;
        nonempty = some;
        within = run.within;
        spelled = word_at letter end some run.within ∙ word-some (slice_range text at end) (all_of_run text Word at end run);
        longest = λ k past inside. word_at letter k (omega arith) inside ∙ word-none (slice_range text at k) (not_past_run text Word at end k run past inside);
      }

  module _ (gap : EndsGap text at) (no_letter : is_ascii_alphabetic (get_or text at 0) ≡ false) where
    module _ (digit : is_ascii_digit (get_or text at 0) ≡ true) (to : ℕ) (run : IsRun Hexadecimal text at to) where
      not_digits : (b : ℕ) → get_or text to 0 ≡ b → is_ascii_digit b ≡ false → (k : ℕ) → to < k → k ≤ length text → list_all is_ascii_digit (slice_range text at k) ≡ false
      not_digits b is no_digit k past inside = not_all-slice_range text is_ascii_digit at k to run.ordered past inside (ap is_ascii_digit is ∙ no_digit)

      pub hexadecimal_begins : to < length text → get_or text to 0 ≡ 72 → Begins text at (to + 1) (record { kind = kind.Number; value = value_of 16 (slice_range text at to) })
      hexadecimal_begins inside is =
          let ordered = run.ordered in
          let some : at < to + 1 = omega arith in
          let all : to + 1 ≤ length text = omega arith in
          let back : to + 1 - 1 ≡ to = omega arith in
          let digits = front-slice_range text at (to + 1) some all ∙ ap (slice_range text at) back in
          record {
            no_comment = gap.no_comment;
            nonempty = some;
            within = all;
            spelled = number_at no_letter digit (to + 1) some all
                ∙ number-hexadecimal (slice_range text at (to + 1)) (not_digits 72 is refl (to + 1) (omega arith) all) (run_then text Hexadecimal 72 at to run inside is)
                ∙ ap (λ ds. Some (record { kind = kind.Number; value = value_of 16 ds })) digits;
            longest = λ k past most. number_at no_letter digit k (omega arith) most
                ∙ number-none (slice_range text at k) (not_digits 72 is refl k (omega arith) most) (not_run_then_past text Hexadecimal 72 at to k run past most) (not_run_then_past text Hexadecimal 88 at to k run past most);
          }

      pub char_begins : to < length text → get_or text to 0 ≡ 88 → Begins text at (to + 1) (record { kind = kind.Char; value = value_of 16 (slice_range text at to) })
      char_begins inside is =
          let ordered = run.ordered in
          let some : at < to + 1 = omega arith in
          let all : to + 1 ≤ length text = omega arith in
          let back : to + 1 - 1 ≡ to = omega arith in
          let digits = front-slice_range text at (to + 1) some all ∙ ap (slice_range text at) back in
          let no_number : to < length text → get_or text to 0 ≢ 72 = λ _ other. omega (arith, is, other) in
          record {
            no_comment = gap.no_comment;
            nonempty = some;
            within = all;
            spelled = number_at no_letter digit (to + 1) some all
                ∙ number-char (slice_range text at (to + 1)) (not_digits 88 is refl (to + 1) (omega arith) all) (not_run_then text Hexadecimal 72 at to (to + 1) run no_number refl some all) (run_then text Hexadecimal 88 at to run inside is)
                ∙ ap (λ ds. Some (record { kind = kind.Char; value = value_of 16 ds })) digits;
            longest = λ k past most. number_at no_letter digit k (omega arith) most
                ∙ number-none (slice_range text at k) (not_digits 88 is refl k (omega arith) most) (not_run_then_past text Hexadecimal 72 at to k run past most) (not_run_then_past text Hexadecimal 88 at to k run past most);
          }

      pub decimal_begins : (to < length text → get_or text to 0 ≢ 72) → (to < length text → get_or text to 0 ≢ 88) → (end : ℕ) → IsRun Decimal text at end → Begins text at end (record { kind = kind.Number; value = value_of 10 (slice_range text at end) })
      decimal_begins no_number no_char end digits =
          let some = run_some text Decimal at end digits within digit in
          record {
            no_comment = gap.no_comment;
            nonempty = some;
            within = digits.within;
            spelled = number_at no_letter digit end some digits.within ∙ number-decimal (slice_range text at end) (all_of_run text Decimal at end digits);
            longest = λ k past most. number_at no_letter digit k (omega arith) most
                ∙ number-none (slice_range text at k) (not_past_run text Decimal at end k digits past most) (not_run_then text Hexadecimal 72 at to k run no_number refl (omega arith) most) (not_run_then text Hexadecimal 88 at to k run no_char refl (omega arith) most);
          }

    module _ (no_digit : is_ascii_digit (get_or text at 0) ≡ false) where
      module _ (quote : is_quote (get_or text at 0) ≡ true) (to : ℕ) (run : IsRun (Inside (get_or text at 0)) text (at + 1) to) where
        text_at : (k : ℕ) → at < k → k ≤ length text → lexeme (slice_range text at k) ≡ text_lexeme (get_or text at 0) (slice_range text (at + 1) k)
        text_at k some inside = ap lexeme (slice_range-first text at k some inside) ∙ lexeme-text _ _ no_letter no_digit quote

        pub text_begins : to < length text → get_or text to 0 ≡ get_or text at 0 → Begins text at (to + 1) (record { kind = kind.Text; value = 0 })
        text_begins inside is =
            let ordered = run.ordered in
            record {
              no_comment = gap.no_comment;
              nonempty = omega arith;
              within = omega arith;
              spelled = text_at (to + 1) (omega arith) (omega arith) ∙ text-some (get_or text at 0) (slice_range text (at + 1) (to + 1)) (run_then text (Inside (get_or text at 0)) (get_or text at 0) (at + 1) to run inside is);
              longest = λ k past most. text_at k (omega arith) most ∙ text-none (get_or text at 0) (slice_range text (at + 1) k) (not_run_then_past text (Inside (get_or text at 0)) (get_or text at 0) (at + 1) to k run past most);
            }

        none_in : is_in (Inside (get_or text at 0)) (get_or text at 0) ≡ false
        none_in = and_right _ _ (ap not (eq-eqb (get_or text at 0) (get_or text at 0) refl))

        text-nil : text_lexeme (get_or text at 0) [] ≡ None
        text-nil = text-none (get_or text at 0) [] (ne_eqb 0 (get_or text at 0) (λ zero. true≢false (sym quote ∙ ap is_quote (sym zero))))

        pub string_is_open : (to < length text → get_or text to 0 ≢ get_or text at 0) → StringIsOpen text at
        string_is_open ends = record {
          quote = quote;
          no_lexeme = λ k most. ⊎_elim
              (λ some. text_at k some most ∙ ⊎_elim
              (λ more. text-none (get_or text at 0) (slice_range text (at + 1) k) (not_run_then text (Inside (get_or text at 0)) (get_or text at 0) (at + 1) to k run ends none_in more most))
              (λ one. ap (text_lexeme (get_or text at 0)) (slice_range-none text (at + 1) k one) ∙ text-nil)
              (cases_lt (at + 1) k))
              (none_before k)
              (cases_lt at k);
        }

      module _ (no_quote : is_quote (get_or text at 0) ≡ false) where
        symbol-at : (k : ℕ) (w : List ℕ) (o : Option TokenKind) → at < k → k ≤ length text → slice_range text at k ≡ w → kind_in symbols w ≡ o → lexeme (slice_range text at k) ≡ option_map (λ (k : TokenKind). record { kind = k; value = 0 }) o
        symbol-at k w o some most is found = symbol_at no_letter no_digit no_quote k some most ∙ ap symbol is ∙ ap (option_map (λ (k : TokenKind). record { kind = k; value = 0 })) found

        one_byte : at + 1 ≤ length text → slice_range text at (at + 1) ≡ get_or text at 0 ∷ []
        one_byte most = slice_range-first text at (at + 1) (omega arith) most ∙ ap (λ w. get_or text at 0 ∷ w) (slice_range-none text (at + 1) (at + 1) (omega arith))

        two_bytes : at + 2 ≤ length text → slice_range text at (at + 2) ≡ get_or text at 0 ∷ get_or text (at + 1) 0 ∷ []
        two_bytes most = slice_range-first text at (at + 2) (omega arith) most
            ∙ ap (λ w. get_or text at 0 ∷ w) (slice_range-first text (at + 1) (at + 2) (omega arith) most
            ∙ ap (λ w. get_or text (at + 1) 0 ∷ w) (slice_range-none text (at + 1 + 1) (at + 2) (omega arith)))

        many_bytes : (k : ℕ) → at + 2 < k → k ≤ length text → lexeme (slice_range text at k) ≡ None
        many_bytes k past most =
            let long = length-slice_range text at k (omega arith) most in
            symbol-at k _ None (omega arith) most refl (symbols-long (slice_range text at k) (omega arith))

        pub pair_begins : (k : TokenKind) → at + 1 < length text → kind_in symbols (get_or text at 0 ∷ get_or text (at + 1) 0 ∷ []) ≡ Some k → Begins text at (at + 2) (record { kind = k; value = 0 })
        pair_begins k inside found = record {
          no_comment = gap.no_comment;
          nonempty = omega arith;
          within = omega arith;
          spelled = symbol-at (at + 2) _ _ (omega arith) (omega arith) (two_bytes (omega arith)) found;
          longest = many_bytes;
        }

        past_one : (at + 1 < length text → kind_in symbols (get_or text at 0 ∷ get_or text (at + 1) 0 ∷ []) ≡ None) → (k : ℕ) → at + 1 < k → k ≤ length text → lexeme (slice_range text at k) ≡ None
        past_one no_pair k past most = ⊎_elim
            (λ many. many_bytes k many most)
            (λ two. let is : at + 2 ≡ k = omega arith in
            ap (λ j. lexeme (slice_range text at j)) (sym is) ∙ symbol-at (at + 2) _ None (omega arith) (omega arith) (two_bytes (omega arith)) (no_pair (omega arith)))
            (cases_lt (at + 2) k)

        pub single_begins : (k : TokenKind) → (at + 1 < length text → kind_in symbols (get_or text at 0 ∷ get_or text (at + 1) 0 ∷ []) ≡ None) → kind_in symbols (get_or text at 0 ∷ []) ≡ Some k → Begins text at (at + 1) (record { kind = k; value = 0 })
        single_begins k no_pair found = record {
          no_comment = gap.no_comment;
          nonempty = omega arith;
          within = omega arith;
          spelled = symbol-at (at + 1) _ _ (omega arith) (omega arith) (one_byte (omega arith)) found;
          longest = past_one no_pair;
        }

        pub nothing_begins : (at + 1 < length text → kind_in symbols (get_or text at 0 ∷ get_or text (at + 1) 0 ∷ []) ≡ None) → kind_in symbols (get_or text at 0 ∷ []) ≡ None → NothingBegins text at
        nothing_begins no_pair none = record {
          within = within;
          no_blank = gap.no_blank;
          no_comment = gap.no_comment;
          no_quote = λ quote. true≢false (sym quote ∙ no_quote);
          no_lexeme = λ k most. ⊎_elim
              (λ past. past_one no_pair k past most)
              (λ short. ⊎_elim
              (λ some. let is : at + 1 ≡ k = omega arith in
              ap (λ j. lexeme (slice_range text at j)) (sym is) ∙ symbol-at (at + 1) _ None (omega arith) (omega arith) (one_byte (omega arith)) none)
              (none_before k)
              (cases_lt at k))
              (cases_lt (at + 1) k);
        }

-- no token of a text is of the kind of its end
some_same : {A : Type 0} {x y : A} → Some x ≡ Some y → x ≡ y
some_same same = cc

none_some : {A : Type 0} {x : A} {o : Option A} → o ≡ None → o ≡ Some x → ⊥
none_some none some = cc

kind_of_some : (l m : Lexeme) → Some l ≡ Some m → l.kind ≢ kind.End → m.kind ≢ kind.End
kind_of_some l m same other = subst (λ (x : Lexeme). x.kind ≢ kind.End) (some_same same) other

word_no_end : (w : List ℕ) (l : Lexeme) → word w ≡ Some l → l.kind ≢ kind.End
word_no_end w l is = ⊎_elim
    (λ all. kind_of_some _ l (sym (word-some w all) ∙ is) (word_not_end w))
    (λ none. absurd (none_some (word-none w none) is))
    (cases_Bool (list_all is_word_byte w))

number_no_end : (w : List ℕ) (l : Lexeme) → number w ≡ Some l → l.kind ≢ kind.End
number_no_end w l is = ⊎_elim
    (λ digits. kind_of_some _ l (sym (number-decimal w digits) ∙ is) number_not_end)
    (λ digits. ⊎_elim
    (λ marked. kind_of_some _ l (sym (number-hexadecimal w digits marked) ∙ is) number_not_end)
    (λ marked. ⊎_elim
    (λ char. kind_of_some _ l (sym (number-char w digits marked char) ∙ is) char_not_end)
    (λ char. absurd (none_some (number-none w digits marked char) is))
    (cases_Bool (is_run_then is_hexadecimal 88 w)))
    (cases_Bool (is_run_then is_hexadecimal 72 w)))
    (cases_Bool (list_all is_ascii_digit w))

text_no_end : (quote : ℕ) (w : List ℕ) (l : Lexeme) → text_lexeme quote w ≡ Some l → l.kind ≢ kind.End
text_no_end quote w l is = ⊎_elim
    (λ closed. kind_of_some _ l (sym (text-some quote w closed) ∙ is) text_not_end)
    (λ closed. absurd (none_some (text-none quote w closed) is))
    (cases_Bool (is_run_then (is_text_byte quote) quote w))

symbol_no_end : (w : List ℕ) (o : Option TokenKind) (l : Lexeme) → kind_in symbols w ≡ o → option_map (λ (k : TokenKind). record { kind = k; value = 0 }) o ≡ Some l → l.kind ≢ kind.End
symbol_no_end w None l found is = absurd (none_some refl is)
symbol_no_end w (Some k) l found is = kind_of_some (record { kind = k; value = 0 }) l is (symbol_not_end w k found)

pub lexeme_no_end : (w : List ℕ) (l : Lexeme) → lexeme w ≡ Some l → l.kind ≢ kind.End
lexeme_no_end [] l is = absurd (none_some lexeme-nil is)
lexeme_no_end (b ∷ w) l is = ⊎_elim
    (λ letter. word_no_end (b ∷ w) l (sym (lexeme-word b w letter) ∙ is))
    (λ no_letter. ⊎_elim
    (λ digit. number_no_end (b ∷ w) l (sym (lexeme-number b w no_letter digit) ∙ is))
    (λ no_digit. ⊎_elim
    (λ quote. text_no_end b w l (sym (lexeme-text b w no_letter no_digit quote) ∙ is))
    (λ no_quote. symbol_no_end (b ∷ w) _ l refl (sym (lexeme-symbol b w no_letter no_digit no_quote) ∙ is))
    (cases_Bool (is_quote b)))
    (cases_Bool (is_ascii_digit b)))
    (cases_Bool (is_ascii_alphabetic b))
