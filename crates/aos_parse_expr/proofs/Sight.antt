-- One token of sight: what is known of the first token and of those behind it.
use Rattle.std.proofs.Common.{◌≡◌, ℕ, ◌-◌, ◌≤◌, ◌<◌, List, [], ◌∷◌, Bool, true, false, length, take, drop, get_or, subst, sym, ap, ◌∙◌, refl, arith}
use Rattle.std.proofs.lemmas.List.{take_rest}
use Rattle.std.specs.Prelude.{◌≢◌, Result, Ok, Err, IfOk}
use Rattle.aos_scan.specs.declared.token.Token.{Token}
use Rattle.aos_scan.specs.declared.token.TokenKind.{TokenKind}
use Rattle.aos_scan.specs.declared.token.TokenKind.TheVariants as k
use Rattle.aos_tree.specs.Ended.{IsEnded}
use Rattle.aos_parse_expr.specs.declared.error.ParseErr.{ParseErr}

pub one_token : (ts : List Token) → IsEnded ts → 1 ≤ length ts
one_token [] ended = absurd ended
one_token (t ∷ ts) ended = omega arith

first_of : (ts : List Token) (d : Token) → IsEnded ts → ts ≡ get_or ts 0 d ∷ drop 1 ts
first_of [] d ended = absurd ended
first_of (t ∷ ts) d ended = refl

rest_of : (ts : List Token) (d : Token) → IsEnded ts → (get_or ts 0 d).kind ≢ k.End → IsEnded (drop 1 ts)
rest_of [] d ended other = absurd ended
rest_of (t ∷ []) d ended other = absurd (other ended)
rest_of (t ∷ u ∷ ts) d ended other = ended.1

-- the first token and those behind it are all
pub split_whole : (ts : List Token) (d : Token) → IsEnded ts → ts ≡ get_or ts 0 d ∷ take (length ts - 1) (drop 1 ts)
split_whole ts d ended = first_of ts d ended ∙ ap (λ z. get_or ts 0 d ∷ z) (sym (take_rest ts 1))

-- and those behind another than End end as all do
pub split_ended : (ts : List Token) (d : Token) → IsEnded ts → (get_or ts 0 d).kind ≢ k.End → IsEnded (take (length ts - 1) (drop 1 ts))
split_ended ts d ended other = subst (λ z. IsEnded z) (sym (take_rest ts 1)) (rest_of ts d ended other)

abbrev pub goes_on : TokenKind → Bool
goes_on k.End = false
goes_on _ = true

-- what stands behind a token of a kind that isn't End
pub behind : {t : Token} {ts us : List Token} (c : TokenKind) → ts ≡ t ∷ us → t.kind ≡ c → goes_on c ≡ true → (t.kind ≢ k.End → IsEnded us) → IsEnded us
behind c whole is on ended = ended (λ e. let f : goes_on c ≡ false = ap goes_on (sym is ∙ e) in cc)

-- or of one that is asked for
pub behind_of : {t : Token} {ts us : List Token} (c : TokenKind) → ts ≡ t ∷ us → t.kind ≡ c → c ≢ k.End → (t.kind ≢ k.End → IsEnded us) → IsEnded us
behind_of c whole is other ended = ended (λ e. other (sym is ∙ e))

shorter : {t : Token} {ts us : List Token} → ts ≡ t ∷ us → length us < length ts
shorter whole = omega (arith, ap length whole)

-- a token of a kind that isn't End is taken
pub taken : {t : Token} {ts us : List Token} (c : TokenKind) → ts ≡ t ∷ us → t.kind ≡ c → goes_on c ≡ true → (t.kind ≢ k.End → IsEnded us) → IsEnded us × (length us < length ts)
taken c whole is on ended = (behind c whole is on ended, shorter whole)

pub taken_of : {t : Token} {ts us : List Token} (c : TokenKind) → ts ≡ t ∷ us → t.kind ≡ c → c ≢ k.End → (t.kind ≢ k.End → IsEnded us) → IsEnded us × (length us < length ts)
taken_of c whole is other ended = (behind_of c whole is other ended, shorter whole)

-- what is left is shorter than all, where it is shorter than what stands behind the first token
pub past : {t : Token} {ts us : List Token} (rest : List Token) → ts ≡ t ∷ us → IsEnded rest × (length rest < length us) → IsEnded rest × (length rest < length ts)
past rest whole h = (h.0, omega (arith, ap length whole, h.1))

-- or than what another call left
pub further : (ts us rest : List Token) → IsEnded us × (length us < length ts) → IsEnded rest × (length rest < length us) → IsEnded rest × (length rest < length ts)
further ts us rest a h = (h.0, omega (arith, a.1, h.1))

pub further_all : (ts us rest : List Token) → IsEnded us × (length us < length ts) → IsEnded rest × (length rest ≤ length us) → IsEnded rest × (length rest < length ts)
further_all ts us rest a h = (h.0, omega (arith, a.1, h.1))

pub at_most : (ts rest : List Token) → IsEnded rest × (length rest < length ts) → IsEnded rest × (length rest ≤ length ts)
at_most ts rest h = (h.0, omega (arith, h.1))

pub all_left : (ts : List Token) → IsEnded ts → IsEnded ts × (length ts ≤ length ts)
all_left ts ended = (ended, omega arith)

pub before : (n m : ℕ) → n < m → n ≤ m
before n m lt = omega (arith, lt)

pub less : {t : Token} {ts us : List Token} (rest : List Token) → ts ≡ t ∷ us → length rest < length us → length rest < length ts
less rest whole lt = omega (arith, ap length whole, lt)

-- what a call behind the first token leaves
pub then_less : {A : Type 0} (left : A → List Token) (r : Result A ParseErr) {t : Token} {ts us : List Token} → ts ≡ t ∷ us →
    IfOk r (λ a. IsEnded (left a) × (length (left a) < length us)) → IfOk r (λ a. IsEnded (left a) × (length (left a) < length ts))
then_less left (Ok a) whole h = past (left a) whole h
then_less left (Err e) whole h = tt

pub then_at_most : {A : Type 0} (left : A → List Token) (r : Result A ParseErr) {t : Token} {ts us : List Token} → ts ≡ t ∷ us →
    IfOk r (λ a. IsEnded (left a) × (length (left a) < length us)) → IfOk r (λ a. IsEnded (left a) × (length (left a) ≤ length ts))
then_at_most left (Ok a) {ts = ts} whole h = at_most ts (left a) (past (left a) whole h)
then_at_most left (Err e) whole h = tt
