-- The name of a module that a tree reads is an ident: a letter, and then letters, digits and `_`. Its bytes are below 128, so
-- the typed program has the very bytes of the text.
use Rattle.std.proofs.Common.{◌≡◌, ℕ, ◌<◌, ◌≤◌, length, ◌==◌, if◌then◌else◌, Bool, true, false, cond, ◌&&◌, List, [], ◌∷◌, ◌++◌, Option, Some, None, refl, sym, ap, subst, ◌∙◌, arith, ⊎_elim}
use Rattle.std.specs.Char.{is_ascii_digit, is_ascii_alphabetic}
use Rattle.std.specs.List.{list_all}
use Rattle.std.specs.Option.{option_map}
use Rattle.std.specs.Str.{bytes_eq, IsAscii}
use Rattle.std.specs.Str.Lossy.{utf8_lossy}
use Rattle.std.specs.Int.{is_in_range}
use Rattle.std.proofs.lemmas.Bool.{and_parts, or_cases, leb-true, eqb-true, true≢false}
use Rattle.std.proofs.lemmas.Option.{same_Some}
use Rattle.std.proofs.lemmas.Str.{utf8_lossy-IsUtf8, IsUtf8-from_ascii}
use Rattle.std.proofs.lemmas.Str.Ascii.{IsAscii-nil, IsAscii-cons}
use Rattle.aos_base.specs.declared.text.Pos.{Pos}
use Rattle.aos_scan.specs.declared.token.Token.{Token}
use Rattle.aos_scan.specs.declared.token.TokenKind.{TokenKind}
use Rattle.aos_scan.specs.declared.token.TokenKind.TheVariants as kind
use Rattle.aos_scan.specs.Bytes.{is_word_byte, is_hexadecimal, is_quote, is_text_byte}
use Rattle.aos_scan.specs.Spelling.{Lexeme, Row, kind_in, symbols, lexeme, number, text as quoted, symbol, is_run_then, word_kind}
use Rattle.aos_scan.specs.TokenList.{StandsIn, AreTokens, end_token}
use Rattle.aos_tree.specs.declared.name.Name.{Name}
use Rattle.aos_tree.specs.declared.module.Module.{Module as Tree}
use Rattle.aos_tree.specs.Nesting.{Rule}
use Rattle.aos_tree.specs.Operators.{name_at}
use Rattle.aos_tree.specs.Words.{IsWord, word as a_word, IsName, ident}
use Rattle.aos_tree.specs.ModuleGrammar.{IsModule, whole}
use Rattle.aos_typed.specs.WellTyped.{is_in_name, is_ident}
use Rattle.aos_symbols.specs.Spelling.{word}
use Rattle.aos_unnamed.specs.Unnamed.{is_given}
use Rattle.aos_variables.specs.Parts.{spelling}
use Rattle.aos_reading.specs.Texts.{IsTreeOf}

-- The spelling of an ident.

-- a token of any other kind
abbrev is_other : TokenKind → Bool
is_other kind.Ident = false
is_other _ = true

-- what a spelling stands for, if anything, is no ident
abbrev IsOther : Option Lexeme → Type 0
IsOther o = (l : Lexeme) → o ≡ Some l → is_other l.kind ≡ true

other_none : IsOther None
other_none l e = cc

other_some : (x : Lexeme) → is_other x.kind ≡ true → IsOther (Some x)
other_some x is l e = ap (λ (y : Lexeme). is_other y.kind) (sym (same_Some x l e)) ∙ is

other_cond : (b : Bool) (o p : Option Lexeme) → IsOther o → IsOther p → IsOther (cond b o p)
other_cond true o p left right = left
other_cond false o p left right = right

other_kind : (rows : List Row) (w : List ℕ) (k : TokenKind) → list_all (λ row. is_other row.kind) rows ≡ true → kind_in rows w ≡ Some k → is_other k ≡ true
other_kind [] w k all e = cc
other_kind (row ∷ rows) w k all e =
    let parts = and_parts _ _ all in here (bytes_eq row.spelling w) e parts.0 (other_kind rows w k parts.1)
  where
    here : (b : Bool) → cond b (Some row.kind) (kind_in rows w) ≡ Some k → is_other row.kind ≡ true → (kind_in rows w ≡ Some k → is_other k ≡ true) → is_other k ≡ true
    here true e is more = ap is_other (sym (same_Some row.kind k e)) ∙ is
    here false e is more = more e

other_number : (w : List ℕ) → IsOther (number w)
other_number w =
    other_cond (list_all is_ascii_digit w) _ _ (other_some _ refl)
    (other_cond (is_run_then is_hexadecimal 72 w) _ _ (other_some _ refl)
    (other_cond (is_run_then is_hexadecimal 88 w) _ _ (other_some _ refl) other_none))

other_text : (quote : ℕ) (w : List ℕ) → IsOther (quoted quote w)
other_text quote w = other_cond (is_run_then (is_text_byte quote) quote w) _ _ (other_some _ refl) other_none

other_symbol : (w : List ℕ) → IsOther (symbol w)
unfolding symbols
other_symbol w = by (kind_in symbols w) refl
  where
    by : (o : Option TokenKind) → kind_in symbols w ≡ o → IsOther (option_map (λ k. record { kind = k; value = 0 }) o)
    by None is = other_none
    by (Some k) is = other_some _ (other_kind symbols w k refl is)

by_first : (letter rest : Bool) (x l : Lexeme) (o : Option Lexeme) → IsOther o → cond letter (cond rest (Some x) None) o ≡ Some l → is_other l.kind ≡ false → (letter ≡ true) × (rest ≡ true)
by_first true true x l o other e is = (refl, refl)
by_first true false x l o other e is = cc
by_first false rest x l o other e is = absurd (true≢false (sym (other l e) ∙ is))

pub ident_spelled : (w : List ℕ) (l : Lexeme) → lexeme w ≡ Some l → l.kind ≡ kind.Ident → is_ident w ≡ true
unfolding lexeme
ident_spelled [] l e is = cc
ident_spelled (b ∷ w) l e is =
    let parts = by_first (is_ascii_alphabetic b) (list_all is_word_byte (b ∷ w)) (record { kind = word_kind (b ∷ w); value = 0 }) l _
    (other_cond (is_ascii_digit b) _ _ (other_number (b ∷ w)) (other_cond (is_quote b) _ _ (other_text b w) (other_symbol (b ∷ w)))) e (ap is_other is) in
    ap (λ c. c && list_all is_in_name w) parts.0 ∙ (and_parts (is_word_byte b) (list_all is_word_byte w) parts.1).1

-- The token of a module's name.

pub record Named (name : Name) (tokens : List Token) : Type 0 where
  pub first : Token
  pub token : Token
  pub rest : List Token
  pub are : tokens ≡ first ∷ token ∷ rest
  pub is_ident : token.kind ≡ kind.Ident
  pub is : name ≡ name_at token

word_first : {may : Rule} {d : ℕ} {k : TokenKind} {ts rest : List Token} {p : Pos} → IsWord may d k p ts rest → (t : Token) × (ts ≡ t ∷ rest)
word_first (a_word {t = t} is at) = (t, refl)

name_first : {may : Rule} {d : ℕ} {n : Name} {ts rest : List Token} → IsName may d n ts rest → (t : Token) × (ts ≡ t ∷ rest) × (t.kind ≡ kind.Ident) × (n ≡ name_at t)
name_first (ident {t = t} is at) = (t, refl, is, refl)

name_token : {may : Rule} {d : ℕ} {m : Tree} {tokens rest : List Token} → IsModule may d m tokens rest → Named m.name tokens
name_token (whole {t2 = t2} start name _ _ _ _ _ _) =
    let a = word_first start in
    let b = name_first name in
    record { first = a.0; token = b.0; rest = t2; are = a.1 ∙ ap (λ ts. a.0 ∷ ts) b.1; is_ident = b.2; is = b.3 }

first_of : {t u : Token} {ts us : List Token} → ◌≡◌ {A = List Token} (t ∷ ts) (u ∷ us) → t ≡ u
first_of e = cc

rest_of : {t u : Token} {ts us : List Token} → ◌≡◌ {A = List Token} (t ∷ ts) (u ∷ us) → ts ≡ us
rest_of e = cc

no_rest : (t : Token) (ts : List Token) → ◌≡◌ {A = List Token} [] (t ∷ ts) → ⊥
no_rest t ts e = cc

no_end : (text : List ℕ) (t : Token) → end_token text ≡ t → t.kind ≡ kind.Ident → ⊥
no_end text t e is = true≢false (ap (λ (u : Token). is_other u.kind) e ∙ ap is_other is)

second_stands : (text : List ℕ) (tokens : List Token) (from to : ℕ) (t u : Token) (us : List Token) → AreTokens text from tokens to → tokens ++ end_token text ∷ [] ≡ t ∷ u ∷ us →
    u.kind ≡ kind.Ident → StandsIn text u
second_stands text [] from to t u us made e is = absurd (no_rest u us (rest_of e))
second_stands text (a ∷ []) from to t u us made e is = absurd (no_end text u (first_of (rest_of e)) is)
second_stands text (a ∷ b ∷ more) from to t u us made e is = subst (StandsIn text) (first_of (rest_of e)) made.2.1

pub name_is_ident : (text : List ℕ) (m : Tree) → IsTreeOf text m → is_ident (word text m.name) ≡ true
name_is_ident text m t =
    let n = name_token t.reads.reads in
    let stands = second_stands text t.scanned.tokens 0 t.scanned.to n.first n.token n.rest t.scanned.made (sym t.scanned.whole ∙ n.are) n.is_ident in
    ap (λ x. is_ident (word text x)) n.is ∙ ident_spelled (word text (name_at n.token)) _ stands.begins.spelled n.is_ident

-- it stands in the text
pub name_within : (text : List ℕ) (m : Tree) → IsTreeOf text m → (m.name.start ≤ m.name.end) × (m.name.end ≤ length text)
name_within text m t =
    let n = name_token t.reads.reads in
    let begins = (second_stands text t.scanned.tokens 0 t.scanned.to n.first n.token n.rest t.scanned.made (sym t.scanned.whole ∙ n.are) n.is_ident).begins in
    let start = ap (λ (x : Name). x.start) n.is in
    let end = ap (λ (x : Name). x.end) n.is in
    let less = begins.nonempty in
    let within = begins.within in
    (omega (arith, start, end, less), omega (arith, end, within))

-- Bytes below 128.

in_range_below : (low high b : ℕ) → high < 128 → is_in_range low high b ≡ true → b < 128
in_range_below low high b lt e = omega (arith, leb-true b high (and_parts _ _ e).1)

letter_below : (b : ℕ) → is_ascii_alphabetic b ≡ true → b < 128
letter_below b e = ⊎_elim (λ large. in_range_below 65 90 b (omega arith) large) (λ small. in_range_below 97 122 b (omega arith) small) (or_cases _ _ e)

digit_below : (b : ℕ) → is_ascii_digit b ≡ true → b < 128
digit_below b e = in_range_below 48 57 b (omega arith) e

in_name_below : (b : ℕ) → is_in_name b ≡ true → b < 128
in_name_below b e =
    ⊎_elim (λ plain. ⊎_elim (λ letter. letter_below b letter) (λ digit. digit_below b digit) (or_cases _ _ plain))
    (λ line. omega (arith, eqb-true b 95 line)) (or_cases _ _ e)

all_ascii : (w : List ℕ) → list_all is_in_name w ≡ true → IsAscii w
all_ascii [] e = IsAscii-nil
all_ascii (b ∷ w) e = let parts = and_parts _ _ e in IsAscii-cons b w (in_name_below b parts.0) (all_ascii w parts.1)

ident_ascii : (w : List ℕ) → is_ident w ≡ true → IsAscii w
ident_ascii [] e = IsAscii-nil
ident_ascii (b ∷ w) e = let parts = and_parts _ _ e in IsAscii-cons b w (letter_below b parts.0) (all_ascii w parts.1)

-- an ident was not given
not_given : (w : List ℕ) → is_ident w ≡ true → is_given w ≡ false
not_given [] e = refl
not_given (b ∷ w) e = by (b == 0) refl
  where
    by : (first : Bool) → (b == 0) ≡ first → first ≡ false
    by true is = absurd (true≢false (sym (subst (λ b. is_ident (b ∷ w) ≡ true) (eqb-true b 0 is) e)))
    by false is = refl

-- a module's name is in the program as it stands in the text
pub spelled_alike : (text : List ℕ) (m : Tree) → IsTreeOf text m → spelling text m.name ≡ word text m.name
spelled_alike text m t =
    let w = word text m.name in
    let ident = name_is_ident text m t in
    ap (λ given. utf8_lossy (if given then [] else w)) (not_given w ident) ∙ utf8_lossy-IsUtf8 w (IsUtf8-from_ascii w (ident_ascii w ident))
