-- A text has one reading, and so texts come to one thing alone.
use Rattle.std.proofs.Common.{◌≡◌, ℕ, List, [], ◌∷◌, refl, sym, ap, ◌∙◌, subst}
use Rattle.aos_base.specs.declared.text.Pos.{Pos}
use Rattle.aos_scan.specs.declared.token.Token.{Token}
use Rattle.aos_scan.specs.TokenList.{IsTokenList}
use Rattle.aos_scan.proofs.Laws as scan
use Rattle.aos_scan.proofs.Laws.{one_token_list, not_both}
use Rattle.aos_tree.specs.declared.module.Module.{Module as Tree}
use Rattle.aos_tree.specs.Begins.{ExpectsAt, TooDeepAt}
use Rattle.aos_tree.specs.ModuleGrammar.{Reads}
use Rattle.aos_parse_mod.specs.Text.{module_at}
use Rattle.aos_parse_mod.proofs.ModExclusion.{exclude}
use Rattle.aos_parse_mod.proofs.ModUnique.{unique_reads}
use Rattle.aos_typed.specs.Program.{Program}
use Rattle.aos_symbols.specs.Outcome.{Outcome}
use Rattle.aos_reading.specs.Files.{Reading, tree, broken}
use Rattle.aos_compile.specs.Files.{elaborate}
use Rattle.aos_reading.specs.Texts.{IsTreeOf, IsReading, AreReadings, by_tree, by_scanner, by_syntax, by_nesting, scan_breach, breach_at}
use Rattle.aos_compile.specs.Elaborates.{ComesTo}

-- what holds of one token list of a text holds of the others
over : {text : List ℕ} {ts us : List Token} (fact : List Token → Type 0) → IsTokenList text us → IsTokenList text ts → fact us → fact ts
over {text} {ts} {us} fact list same h = subst fact (one_token_list text us ts list same) h

-- of the three that a token list may come to, each excludes the other two
syntax_or_nesting : {text : List ℕ} {ts us : List Token} (p q : Pos) → IsTokenList text ts → ExpectsAt module_at ts p → IsTokenList text us → TooDeepAt module_at us q → ⊥
syntax_or_nesting {ts = ts} p q list at list' at' =
    (exclude ts).expected_or_deep p q at (over (λ xs. TooDeepAt module_at xs q) list' list at')

syntax_or_tree : {text : List ℕ} {ts : List Token} {m : Tree} (p : Pos) → IsTokenList text ts → ExpectsAt module_at ts p → IsTreeOf text m → ⊥
syntax_or_tree {ts = ts} {m = m} p list at t = (exclude ts).read_or_expected m p (over (Reads m) t.scanned list t.reads) at

nesting_or_tree : {text : List ℕ} {ts : List Token} {m : Tree} (p : Pos) → IsTokenList text ts → TooDeepAt module_at ts p → IsTreeOf text m → ⊥
nesting_or_tree {ts = ts} {m = m} p list at t = (exclude ts).read_or_deep m p (over (Reads m) t.scanned list t.reads) at

one_tree : {text : List ℕ} (m n : Tree) → IsTreeOf text m → IsTreeOf text n → m ≡ n
one_tree m n t u = unique_reads m n t.tokens t.reads (over (Reads n) u.scanned t.scanned u.reads)

pub one_reading : (text : List ℕ) (r s : Reading) → IsReading text r → IsReading text s → r ≡ s
one_reading text r s (by_tree {m = a} t) (by_tree {m = b} u) = ap tree (one_tree a b t u)
one_reading text r s (by_tree t) (by_scanner f k) = absurd (not_both text t.tokens f t.scanned k)
one_reading text r s (by_tree t) (by_syntax q list at) = absurd (syntax_or_tree q list at t)
one_reading text r s (by_tree t) (by_nesting q list at) = absurd (nesting_or_tree q list at t)
one_reading text r s (by_scanner e h) (by_tree t) = absurd (not_both text t.tokens e t.scanned h)
one_reading text r s (by_scanner e h) (by_scanner f k) = ap (λ x. broken (scan_breach x)) (scan.one_refusal text e f h k)
one_reading text r s (by_scanner e h) (by_syntax {tokens} q list at) = absurd (not_both text tokens e list h)
one_reading text r s (by_scanner e h) (by_nesting {tokens} q list at) = absurd (not_both text tokens e list h)
one_reading text r s (by_syntax p list at) (by_tree t) = absurd (syntax_or_tree p list at t)
one_reading text r s (by_syntax {tokens} p list at) (by_scanner f k) = absurd (not_both text tokens f list k)
one_reading text r s (by_syntax {tokens} p list at) (by_syntax q list' at') =
    ap (λ x. broken (breach_at 6 x)) ((exclude tokens).one_expected p q at (over (λ xs. ExpectsAt module_at xs q) list' list at'))
one_reading text r s (by_syntax p list at) (by_nesting q list' at') = absurd (syntax_or_nesting p q list at list' at')
one_reading text r s (by_nesting p list at) (by_tree t) = absurd (nesting_or_tree p list at t)
one_reading text r s (by_nesting {tokens} p list at) (by_scanner f k) = absurd (not_both text tokens f list k)
one_reading text r s (by_nesting p list at) (by_syntax q list' at') = absurd (syntax_or_nesting q p list' at' list at)
one_reading text r s (by_nesting {tokens} p list at) (by_nesting q list' at') =
    ap (λ x. broken (breach_at 7 x)) ((exclude tokens).one_deep p q at (over (λ xs. TooDeepAt module_at xs q) list' list at'))

same_readings : (texts : List (List ℕ)) (rs ss : List Reading) → AreReadings texts rs → AreReadings texts ss → rs ≡ ss
same_readings [] [] [] h k = refl
same_readings [] [] (s ∷ ss) h k = absurd k
same_readings [] (r ∷ rs) ss h k = absurd h
same_readings (text ∷ texts) [] ss h k = absurd h
same_readings (text ∷ texts) (r ∷ rs) [] h k = absurd k
same_readings (text ∷ texts) (r ∷ rs) (s ∷ ss) h k =
    ap (λ x. x ∷ rs) (one_reading text r s h.0 k.0) ∙ ap (λ xs. s ∷ xs) (same_readings texts rs ss h.1 k.1)

pub one_outcome : (texts : List (List ℕ)) (a b : Outcome Program) → ComesTo texts a → ComesTo texts b → a ≡ b
one_outcome texts a b h k = sym h.is ∙ ap (elaborate texts) (same_readings texts h.readings k.readings h.are_readings k.are_readings) ∙ k.is
