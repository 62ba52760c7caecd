-- Words met so far, and the names that they are of.
use Rattle.std.proofs.Common.{◌≡◌, ℕ, ◌+◌, ◌<◌, suc, List, [], ◌∷◌, ◌++◌, length, take, drop, get_or, Bool, true, false, cond, not, ◌||◌, Option, Bor, codes, refl, sym, ap, ◌∙◌, bytes_eq, drop-cons, add-one}
use Rattle.std.specs.List.{list_any}
use Rattle.std.specs.Cmp.Lexicographic.{nat_list_eq_equiv}
use Rattle.std.proofs.lemmas.List.{take_more}
use Rattle.std.proofs.lemmas.List.Folds.{list_any_more}
use Rattle.aos_tree.specs.declared.name.Name.{Name}
use Rattle.aos_symbols.specs.declared.breach.Breach.{Breach}
use Rattle.aos_symbols.specs.Breaches.{first_after, breach_unless}
use Rattle.aos_symbols.specs.Spelling.{word, is_word, are_same}
use Rattle.aos_check_names.specs.Names.{declared_again, twice_after}
use Rattle.aos_symbols.proofs.Keeping.{after_more}

-- a key with these bytes
abbrev pub key : List ℕ → Bor (List ℕ)
key q = record { ref_ptr = (0, 0); now = q }

either_way : (b c x : Bool) → c ≡ b → cond b true x ≡ (x || c)
either_way true true true e = refl
either_way true true false e = refl
either_way false false true e = refl
either_way false false false e = refl
either_way true false x e = cc
either_way false true x e = cc

not_not : (b : Bool) → not (not b) ≡ b
not_not true = refl
not_not false = refl

module _ (text : List ℕ) where
  -- the keys are the words of the names
  abbrev pub AreWords : List (Bor (List ℕ)) → List Name → Type 0
  AreWords ks ns = (q : List ℕ) → list_any (λ k. bytes_eq q k.now) ks ≡ list_any (λ n. bytes_eq q (word text n)) ns

  -- one name more
  pub words_more : (old new : List (Bor (List ℕ))) (ns : List Name) (i : ℕ) (d : Name) (w : List ℕ) → i < length ns → w ≡ word text (get_or ns i d) →
      ((q : Bor (List ℕ)) → list_any (λ k. bytes_eq q.now k.now) new ≡ cond (bytes_eq w q.now) true (list_any (λ k. bytes_eq q.now k.now) old)) →
      AreWords old (take i ns) → AreWords new (take (i + 1) ns)
  words_more old new ns i d w lt is updated are = λ q.
      let before = list_any (λ m. bytes_eq q (word text m)) (take i ns) in
      updated (key q) ∙ ap (λ z. cond (bytes_eq w q) true z) (are q)
      ∙ either_way (bytes_eq w q) (bytes_eq q w) before (nat_list_eq_equiv.symm q w)
      ∙ ap (λ v. before || bytes_eq q v) is
      ∙ sym (list_any_more (λ m. bytes_eq q (word text m)) ns i d lt)

  -- a word that isn't new is one of a name before
  pub met_before : (ks : List (Bor (List ℕ))) (before : List Name) (n : Name) (w : List ℕ) (is_new : Bool) → w ≡ word text n →
      is_new ≡ not (list_any (λ k. bytes_eq w k.now) ks) → AreWords ks before → not is_new ≡ list_any (are_same text n) before
  met_before ks before n w is_new is new are =
      ap not new ∙ not_not (list_any (λ k. bytes_eq w k.now) ks) ∙ ap (λ v. list_any (λ k. bytes_eq v k.now) ks) is ∙ are (word text n)

  -- and rule 13 at it
  pub twice_step : (ns : List Name) (i : ℕ) (d : Name) (was_met : Bool) (met : Option Breach) → i < length ns →
      was_met ≡ list_any (are_same text (get_or ns i d)) (take i ns) →
      first_after (first_after met (breach_unless (not (is_word text (codes "SELF") (get_or ns i d) || was_met)) 13 (get_or ns i d).pos)) (twice_after text (take (i + 1) ns) (drop (i + 1) ns))
      ≡ first_after met (twice_after text (take i ns) (drop i ns))
  twice_step ns i d was_met met lt is =
      let n = get_or ns i d in
      let here = declared_again text (take i ns) n in
      ap (λ b. first_after (first_after met (breach_unless (not (is_word text (codes "SELF") n || b)) 13 n.pos)) (twice_after text (take (i + 1) ns) (drop (i + 1) ns))) is
      ∙ ap (λ z. first_after (first_after met here) (twice_after text z (drop (i + 1) ns))) (take_more ns i d lt)
      ∙ ap (λ j. first_after (first_after met here) (twice_after text (take i ns ++ n ∷ []) (drop j ns))) (add-one i)
      ∙ sym (after_more met here (twice_after text (take i ns ++ n ∷ []) (drop (suc i) ns)))
      ∙ ap (λ z. first_after met (twice_after text (take i ns) z)) (sym (drop-cons ns i d lt))
