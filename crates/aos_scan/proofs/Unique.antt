-- A text is read in one way: to its end, or to the first place at which a rule is broken.
use Rattle.std.proofs.Common.{◌≡◌, ◌≢◌, ℕ, ◌≤◌, ◌⊎◌, true, List, [], ◌∷◌, length, get_or, Option, Some, None, refl, sym, ap, subst, ◌∙◌, ⊎_elim, inl, inr, arith}
use Rattle.std.specs.Prelude.{slice_range, pos}
use Rattle.std.proofs.lemmas.Bool.{true≢false, cases_order, or_cases, eqb-true}
use Rattle.aos_scan.specs.declared.token.Token.{Token}
use Rattle.aos_scan.specs.declared.refusal.Rule.{Rule}
use Rattle.aos_scan.specs.declared.refusal.Rule.TheVariants as rules
use Rattle.aos_scan.specs.Bytes.{is_blank, is_quote}
use Rattle.aos_scan.specs.Spelling.{Lexeme, lexeme, symbols}
use Rattle.aos_scan.specs.Position.{position}
use Rattle.aos_scan.specs.Gap.{Gap}
use Rattle.aos_scan.specs.TokenList.{Begins, greatest, StandsIn, AreTokens}
use Rattle.aos_scan.specs.Refusal.{BreaksAt}
use Rattle.aos_scan.proofs.ByteLemmas.{read_within}
use Rattle.aos_scan.proofs.Slices.{slice_range-first}
use Rattle.aos_scan.proofs.Gaps.{Stops, Gap-unique, Stops-ends, EndsGap-end}

-- no token begins with a blank
lexeme-blank : (b : ℕ) (w : List ℕ) → is_blank b ≡ true → lexeme (b ∷ w) ≡ None
unfolding lexeme symbols
lexeme-blank b w blank =
    let at = λ (n : ℕ) (is : b ≡ n) (none : lexeme (n ∷ w) ≡ None). ap (λ m. lexeme (m ∷ w)) is ∙ none in
    ⊎_elim
    (λ two. ⊎_elim (λ tab. at 9 (eqb-true b 9 tab) refl) (λ line. at 10 (eqb-true b 10 line) refl) (or_cases _ _ two))
    (λ two. ⊎_elim (λ return. at 13 (eqb-true b 13 return) refl) (λ space. at 32 (eqb-true b 32 space) refl) (or_cases _ _ two))
    (or_cases _ _ blank)

none_some : {A : Type 0} {x : A} {o : Option A} → o ≡ None → o ≡ Some x → ⊥
none_some none some = cc

some_same : {A : Type 0} {x y : A} → Some x ≡ Some y → x ≡ y
some_same same = cc

quote_cases : (b : ℕ) → is_quote b ≡ true → (b ≡ 34) ⊎ (b ≡ 39)
quote_cases b quote = ⊎_elim (λ two. inl (eqb-true b 34 two)) (λ one. inr (eqb-true b 39 one)) (or_cases _ _ quote)

quote_no_blank : (b : ℕ) → is_quote b ≡ true → is_blank b ≡ true → ⊥
quote_no_blank b quote blank = ⊎_elim (λ two. true≢false (sym blank ∙ ap is_blank two)) (λ one. true≢false (sym blank ∙ ap is_blank one)) (quote_cases b quote)

module _ (text : List ℕ) where
  Begins-stops : (at end : ℕ) (l : Lexeme) → Begins text at end l → Stops text at
  Begins-stops at end l begins = record {
    no_blank = λ blank. none_some (ap lexeme (slice_range-first text at end begins.nonempty begins.within) ∙ lexeme-blank _ _ blank) begins.spelled;
    no_comment = λ end c. begins.no_comment c.opens;
  }

  -- one token is the longest
  Begins-unique : (at end end' : ℕ) (l l' : Lexeme) → Begins text at end l → Begins text at end' l' → (end ≡ end') × (l ≡ l')
  Begins-unique at end end' l l' a b = ⊎_elim
      (λ same. (same, some_same (sym a.spelled ∙ ap (λ k. lexeme (slice_range text at k)) same ∙ b.spelled)))
      (λ differ. ⊎_elim
      (λ less. absurd (none_some (a.longest end' less b.within) b.spelled))
      (λ more. absurd (none_some (b.longest end more a.within) a.spelled))
      differ)
      (cases_order end end')

  -- where the text's reading ends: at its end, or at a broken rule
  abbrev Final : Option Rule → ℕ → Type 0
  Final None at = at ≡ length text
  Final (Some rule) at = BreaksAt rule text at

  Breaks-stops : (rule : Rule) (at : ℕ) → BreaksAt rule text at → Stops text at
  Breaks-stops rules.Bad at b = record { no_blank = b.no_blank; no_comment = λ end c. b.no_comment c.opens }
  Breaks-stops rules.OpenComment at b = record {
    no_blank = λ blank. true≢false (sym blank ∙ ap is_blank b.opens.parenthesis);
    no_comment = b.never;
  }
  Breaks-stops rules.OpenString at b = record {
    no_blank = λ blank. quote_no_blank (get_or text at 0) b.quote blank;
    no_comment = λ end c. true≢false (sym b.quote ∙ ap is_quote c.opens.parenthesis);
  }
  Breaks-stops rules.TooBig at b = Begins-stops at b.end b.big b.begins

  Breaks-within : (rule : Rule) (at : ℕ) → BreaksAt rule text at → at ≢ length text
  Breaks-within rules.Bad at b is = omega (arith, b.within)
  Breaks-within rules.OpenComment at b is = omega (arith, read_within text at 40 b.opens.parenthesis (omega arith))
  Breaks-within rules.OpenString at b is = ⊎_elim
      (λ two. omega (arith, read_within text at 34 two (omega arith)))
      (λ one. omega (arith, read_within text at 39 one (omega arith)))
      (quote_cases (get_or text at 0) b.quote)
  Breaks-within rules.TooBig at b is = omega (arith, b.begins.nonempty, b.begins.within)

  Breaks-unique : (r s : Rule) (at : ℕ) → BreaksAt r text at → BreaksAt s text at → r ≡ s
  Breaks-unique rules.Bad rules.Bad at a b = refl
  Breaks-unique rules.Bad rules.OpenComment at a b = absurd (a.no_comment b.opens)
  Breaks-unique rules.Bad rules.OpenString at a b = absurd (a.no_quote b.quote)
  Breaks-unique rules.Bad rules.TooBig at a b = absurd (none_some (a.no_lexeme b.end b.begins.within) b.begins.spelled)
  Breaks-unique rules.OpenComment rules.Bad at a b = absurd (b.no_comment a.opens)
  Breaks-unique rules.OpenComment rules.OpenComment at a b = refl
  Breaks-unique rules.OpenComment rules.OpenString at a b = absurd (true≢false (sym b.quote ∙ ap is_quote a.opens.parenthesis))
  Breaks-unique rules.OpenComment rules.TooBig at a b = absurd (b.begins.no_comment a.opens)
  Breaks-unique rules.OpenString rules.Bad at a b = absurd (b.no_quote a.quote)
  Breaks-unique rules.OpenString rules.OpenComment at a b = absurd (true≢false (sym a.quote ∙ ap is_quote b.opens.parenthesis))
  Breaks-unique rules.OpenString rules.OpenString at a b = refl
  Breaks-unique rules.OpenString rules.TooBig at a b = absurd (none_some (a.no_lexeme b.end b.begins.within) b.begins.spelled)
  Breaks-unique rules.TooBig rules.Bad at a b = absurd (none_some (b.no_lexeme a.end a.begins.within) a.begins.spelled)
  Breaks-unique rules.TooBig rules.OpenComment at a b = absurd (a.begins.no_comment b.opens)
  Breaks-unique rules.TooBig rules.OpenString at a b = absurd (none_some (b.no_lexeme a.end a.begins.within) a.begins.spelled)
  Breaks-unique rules.TooBig rules.TooBig at a b = refl

  Breaks-no_token : (rule : Rule) (at : ℕ) → BreaksAt rule text at → (end : ℕ) (l : Lexeme) → Begins text at end l → l.value ≤ greatest l.kind → ⊥
  Breaks-no_token rules.Bad at b end l begins fits = none_some (b.no_lexeme end begins.within) begins.spelled
  Breaks-no_token rules.OpenComment at b end l begins fits = begins.no_comment b.opens
  Breaks-no_token rules.OpenString at b end l begins fits = none_some (b.no_lexeme end begins.within) begins.spelled
  Breaks-no_token rules.TooBig at b end l begins fits =
      let same = (Begins-unique at end b.end l b.big begins b.begins).1 in
      let fits' = subst (λ (m : Lexeme). m.value ≤ greatest m.kind) same fits in
      omega (arith, fits', b.past)

  Final-stops : (f : Option Rule) (at : ℕ) → Final f at → Stops text at
  Final-stops None at is = Stops-ends text at (EndsGap-end text at (omega arith))
  Final-stops (Some rule) at b = Breaks-stops rule at b

  Final-unique : (f g : Option Rule) (at : ℕ) → Final f at → Final g at → f ≡ g
  Final-unique None None at a b = refl
  Final-unique None (Some rule) at a b = absurd (Breaks-within rule at b a)
  Final-unique (Some rule) None at a b = absurd (Breaks-within rule at a b)
  Final-unique (Some r) (Some s) at a b = ap Some (Breaks-unique r s at a b)

  Final-no_token : (f : Option Rule) (at : ℕ) → Final f at → (t : Token) → StandsIn text t → at ≡ t.start → ⊥
  Final-no_token None at final t stands same = omega (arith, stands.begins.nonempty, stands.begins.within)
  Final-no_token (Some rule) at final t stands same =
      Breaks-no_token rule t.start (subst (BreaksAt rule text) same final) t.end _ stands.begins stands.fits

  Token-unique : (t u : Token) → StandsIn text t → StandsIn text u → t.start ≡ u.start → t ≡ u
  Token-unique t u a b start =
      let l : Lexeme = record { kind = t.kind; value = a.value } in
      let m : Lexeme = record { kind = u.kind; value = b.value } in
      let begins = subst (λ i. Begins text i t.end l) start a.begins in
      let same = Begins-unique u.start t.end u.end l m begins b.begins in
      let kinds : t.kind ≡ u.kind = ap (λ (x : Lexeme). x.kind) same.1 in
      let values : t.value ≡ u.value = a.same ∙ ap (λ (x : Lexeme). pos x.value) same.1 ∙ sym b.same in
      let places : t.pos ≡ u.pos = a.place ∙ ap (position text) start ∙ sym b.place in
      λ i. record { kind = kinds i; start = start i; end = same.0 i; pos = places i; value = values i }

  -- a reading of the text from a place on: its tokens, where it ends and why
  pub record Reading (from : ℕ) (tokens : List Token) (at : ℕ) (f : Option Rule) : Type 0 where
    pub to : ℕ
    pub made : AreTokens text from tokens to
    pub gap : Gap text to at
    pub final : Final f at

  pub Reading-unique : (from : ℕ) (ts us : List Token) (at at' : ℕ) (f g : Option Rule) → Reading from ts at f → Reading from us at' g → (ts ≡ us) × (at ≡ at') × (f ≡ g)
  Reading-unique from [] [] at at' f g a b =
      let here = subst (λ i. Gap text i at) (sym a.made) a.gap in
      let there = subst (λ i. Gap text i at') (sym b.made) b.gap in
      let same = Gap-unique text at' here there (Final-stops f at a.final) (Final-stops g at' b.final) in
      (refl, same, Final-unique f g at' (subst (Final f) same a.final) b.final)
  Reading-unique from [] (u ∷ us) at at' f g a b =
      let here = subst (λ i. Gap text i at) (sym a.made) a.gap in
      let same = Gap-unique text u.start here b.made.0 (Final-stops f at a.final) (Begins-stops u.start u.end _ b.made.1.begins) in
      absurd (Final-no_token f at a.final u b.made.1 same)
  Reading-unique from (t ∷ ts) [] at at' f g a b =
      let there = subst (λ i. Gap text i at') (sym b.made) b.gap in
      let same = Gap-unique text t.start there a.made.0 (Final-stops g at' b.final) (Begins-stops t.start t.end _ a.made.1.begins) in
      absurd (Final-no_token g at' b.final t a.made.1 same)
  Reading-unique from (t ∷ ts) (u ∷ us) at at' f g a b =
      let start = Gap-unique text u.start a.made.0 b.made.0 (Begins-stops t.start t.end _ a.made.1.begins) (Begins-stops u.start u.end _ b.made.1.begins) in
      let same = Token-unique t u a.made.1 b.made.1 start in
      let rest = subst (λ (v : Token). AreTokens text v.end us b.to) (sym same) b.made.2 in
      let more = Reading-unique t.end ts us at at' f g (record { to = a.to; made = a.made.2; gap = a.gap; final = a.final }) (record { to = b.to; made = rest; gap = b.gap; final = b.final }) in
      ((λ i. same i ∷ more.0 i), more.1, more.2)
