-- The laws of token lists, and how a reading goes on.
use Rattle.std.proofs.Common.{◌≡◌, ℕ, List, [], ◌∷◌, ◌++◌, length, Some, None, Result, Ok, Err, MatchResult, IfOk, IfErr, refl, sym, ap, subst, ◌∙◌, ⊎_elim, inl, inr}
use Rattle.std.proofs.Common.{◌⊎◌, ◌≢◌, ◌≤◌, arith}
use Rattle.std.specs.Global.{Vec}
use Rattle.aos_base.specs.declared.text.Pos.{Pos}
use Rattle.aos_scan.specs.declared.token.Token.{Token}
use Rattle.aos_scan.specs.declared.refusal.Rule.{Rule}
use Rattle.aos_scan.specs.declared.refusal.Rule.TheVariants as rules
use Rattle.aos_scan.specs.declared.refusal.ScanErr.{ScanErr}
use Rattle.aos_scan.specs.declared.refusal.ScanErr.TheVariants as errors
use Rattle.aos_scan.specs.Position.{position}
use Rattle.aos_scan.specs.Gap.{Gap}
use Rattle.aos_scan.specs.TokenList.{AreInOrder, EndsOnce, StandsIn, AreTokens, end_token, IsTokenList}
use Rattle.aos_scan.specs.Refusal.{Breaks, IsRefusedFrom, IsRefused, refusal}
use Rattle.aos_scan.specs.Laws.{OneTokenList, OneRefusal, NotBoth}
use Rattle.aos_scan.proofs.Gaps.{Gap-bounds}
use Rattle.aos_scan.proofs.Lexemes.{lexeme_no_end}
use Rattle.std.proofs.lemmas.List.Elements.{All-from_recursion}
use Rattle.std.specs.List.{AllByRecursion}
use Rattle.aos_scan.specs.declared.token.TokenKind.TheVariants.{End}
use Rattle.aos_scan.proofs.Unique.{Reading, Reading-unique}

-- the reading that a token list is
reading_of_list : (text : List ℕ) (all : List Token) (list : IsTokenList text all) → Reading text 0 list.tokens (length text) None
reading_of_list text all list = record { to = list.to; made = list.made; gap = list.rest; final = refl }

reading_of_break : (text : List ℕ) (rule : Rule) (p : Pos) (b : Breaks text 0 rule p) → Reading text 0 b.tokens b.at (Some rule)
reading_of_break text rule p b = record { to = b.to; made = b.made; gap = b.gap; final = b.broken }

pub one_token_list : OneTokenList
one_token_list text all others a b =
    let same = Reading-unique text 0 a.tokens b.tokens (length text) (length text) None None (reading_of_list text all a) (reading_of_list text others b) in
    a.whole ∙ ap (λ ts. ts ++ end_token text ∷ []) same.0 ∙ sym b.whole

-- a refusal by its rule and its place
pub record RefusedBy (text : List ℕ) (from : ℕ) (e : ScanErr) : Type 0 where
  pub rule : Rule
  pub pos : Pos
  pub breaks : Breaks text from rule pos
  pub is : e ≡ refusal rule pos

pub refused_by : (text : List ℕ) (from : ℕ) (e : ScanErr) → IsRefusedFrom text from e → RefusedBy text from e
refused_by text from (errors.Bad p) b = record { rule = rules.Bad; pos = p; breaks = b; is = refl }
refused_by text from (errors.OpenComment p) b = record { rule = rules.OpenComment; pos = p; breaks = b; is = refl }
refused_by text from (errors.OpenString p) b = record { rule = rules.OpenString; pos = p; breaks = b; is = refl }
refused_by text from (errors.TooBig p) b = record { rule = rules.TooBig; pos = p; breaks = b; is = refl }
refused_by text from errors.NoMemory b = absurd b

pub is_refused : (text : List ℕ) (from : ℕ) (rule : Rule) (p : Pos) → Breaks text from rule p → IsRefusedFrom text from (refusal rule p)
is_refused text from rules.Bad p b = b
is_refused text from rules.OpenComment p b = b
is_refused text from rules.OpenString p b = b
is_refused text from rules.TooBig p b = b

some_same : {x y : Rule} → Some x ≡ Some y → x ≡ y
some_same same = cc

pub one_refusal : OneRefusal
one_refusal text e f refused refused' =
    let a = refused_by text 0 e refused in
    let b = refused_by text 0 f refused' in
    let same = Reading-unique text 0 a.breaks.tokens b.breaks.tokens a.breaks.at b.breaks.at (Some a.rule) (Some b.rule) (reading_of_break text a.rule a.pos a.breaks) (reading_of_break text b.rule b.pos b.breaks) in
    let rules = some_same same.2 in
    let places : a.pos ≡ b.pos = a.breaks.place ∙ ap (position text) same.1 ∙ sym b.breaks.place in
    a.is ∙ (λ i. refusal (rules i) (places i)) ∙ sym b.is

none_some : {x : Rule} → None ≡ Some x → ⊥
none_some same = cc

pub not_both : NotBoth
not_both text all e list refused =
    let b = refused_by text 0 e refused in
    none_some (Reading-unique text 0 list.tokens b.breaks.tokens (length text) b.breaks.at None (Some b.rule) (reading_of_list text all list) (reading_of_break text b.rule b.pos b.breaks)).2

-- tokens one after the other
AreTokens-append : (text : List ℕ) (from middle : ℕ) (ts us : List Token) (to : ℕ) → AreTokens text from ts middle → AreTokens text middle us to → AreTokens text from (ts ++ us) to
AreTokens-append text from middle [] us to same more = subst (λ i. AreTokens text i us to) (sym same) more
AreTokens-append text from middle (t ∷ ts) us to made more = (made.0, made.1, AreTokens-append text t.end middle ts us to made.2 more)

pub AreTokens-push : (text : List ℕ) (from middle : ℕ) (ts : List Token) (t : Token) → AreTokens text from ts middle → Gap text middle t.start → StandsIn text t → AreTokens text from (ts ++ t ∷ []) t.end
AreTokens-push text from middle ts t made gap stands = AreTokens-append text from middle ts (t ∷ []) t.end made (gap, stands, refl)

-- a refusal further on is one from the beginning
pub refused_after : (text : List ℕ) (middle : ℕ) (ts : List Token) (e : ScanErr) → AreTokens text 0 ts middle → IsRefusedFrom text middle e → IsRefused text e
refused_after text middle ts e made refused =
    let b = refused_by text middle e refused in
    subst (IsRefused text) (sym b.is) (is_refused text 0 b.rule b.pos (record {
      tokens = ts ++ b.breaks.tokens;
      to = b.breaks.to;
      at = b.breaks.at;
      made = AreTokens-append text 0 middle ts b.breaks.tokens b.breaks.to made b.breaks.made;
      gap = b.breaks.gap;
      broken = b.breaks.broken;
      place = b.breaks.place;
    }))

-- what an answer is for a text that has a token list, or is refused
pub only : (text : List ℕ) (answer : Result (Vec Token) ScanErr) → IfOk answer (λ v. IsTokenList text v.items) → IfErr answer (λ e. (e ≡ errors.NoMemory) ⊎ IsRefused text e) → (all : List Token) → IsTokenList text all → MatchResult answer (λ v. v.items ≡ all) (λ e. e ≡ errors.NoMemory)
only text (Ok v) found refused all list = one_token_list text v.items all found list
only text (Err e) found refused all list = ⊎_elim (λ memory. memory) (λ other. absurd (not_both text all e list other)) refused

pub exact : (text : List ℕ) (answer : Result (Vec Token) ScanErr) → IfOk answer (λ v. IsTokenList text v.items) → IfErr answer (λ e. (e ≡ errors.NoMemory) ⊎ IsRefused text e) → (e : ScanErr) → IsRefused text e → MatchResult answer (λ _. ⊥) (λ f. (f ≡ errors.NoMemory) ⊎ (f ≡ e))
exact text (Ok v) found refused e broken = not_both text v.items e found broken
exact text (Err f) found refused e broken = ⊎_elim (λ memory. inl memory) (λ other. inr (one_refusal text f e other broken)) refused

-- the spans of a token list
AreTokens-in_order : (text : List ℕ) (from : ℕ) (ts : List Token) (to : ℕ) → AreTokens text from ts to → Gap text to (length text) → from ≤ length text → AreInOrder from (ts ++ end_token text ∷ []) (length text)
AreTokens-in_order text from [] to made rest within =
    let bounds = Gap-bounds text rest (omega (arith, made)) in (within, omega arith, omega arith)
AreTokens-in_order text from (t ∷ ts) to made rest within =
    let bounds = Gap-bounds text made.0 within in
    let begins = made.1.begins in
    let some = begins.nonempty in
    (bounds.0, omega arith, AreTokens-in_order text t.end ts to made.2 rest begins.within)

AreTokens-no_end : (text : List ℕ) (from : ℕ) (ts : List Token) (to : ℕ) → AreTokens text from ts to → AllByRecursion (λ (t : Token). t.kind ≢ End) ts
AreTokens-no_end text from [] to made = tt
AreTokens-no_end text from (t ∷ ts) to made = (lexeme_no_end _ _ made.1.begins.spelled, AreTokens-no_end text t.end ts to made.2)

pub spans : (text : List ℕ) (answer : Result (Vec Token) ScanErr) → IfOk answer (λ v. IsTokenList text v.items) → IfOk answer (λ v. AreInOrder 0 v.items (length text))
spans text (Ok v) list = subst (λ all. AreInOrder 0 all (length text)) (sym list.whole) (AreTokens-in_order text 0 list.tokens list.to list.made list.rest (omega arith))
spans text (Err e) list = list

pub ends_once : (text : List ℕ) (answer : Result (Vec Token) ScanErr) → IfOk answer (λ v. IsTokenList text v.items) → IfOk answer (λ v. EndsOnce text v.items)
ends_once text (Ok v) list = record {
  others = list.tokens;
  whole = list.whole;
  no_end = All-from_recursion (λ (t : Token). t.kind ≢ End) list.tokens (AreTokens-no_end text 0 list.tokens list.to list.made);
}
ends_once text (Err e) list = list
