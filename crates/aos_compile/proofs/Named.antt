-- Files in which all object types have names: their modules keep their own.
use Rattle.std.proofs.Common.{◌≡◌, ℕ, ◌-◌, ◌<◌, ◌≤◌, List, [], ◌∷◌, ◌++◌, length, map, take, drop, Some, option_map, refl, sym, ap, ◌∙◌, subst, arith, inl, inr}
use Rattle.std.specs.List.{All}
use Rattle.std.specs.Str.Lossy.{utf8_lossy}
use Rattle.std.proofs.lemmas.List.{length-drop, length-map, take-append-le, drop-append-le}
use Rattle.std.proofs.lemmas.List.Elements.{All-get_or}
use Rattle.std.proofs.lemmas.Option.{slice_get_cases, slice_get-map}
use Rattle.aos_tree.specs.declared.name.Name.{Name}
use Rattle.aos_typed.specs.Program.{Module}
use Rattle.aos_symbols.specs.Outcome.{went}
use Rattle.aos_symbols.specs.Spelling.{word}
use Rattle.aos_unnamed.proofs.Behind.{text_behind}
use Rattle.aos_variables.specs.Parts.{shown}
use Rattle.aos_compile.specs.Modules.{World, no_modules}
use Rattle.aos_reading.specs.Files.{Source, named}
use Rattle.aos_compile.specs.Files.{in_order}
use Rattle.aos_reading.specs.Texts.{IsTreeOf}
use Rattle.aos_compile.proofs.Idents.{name_within}
use Rattle.aos_compile.proofs.Loaded.{name_of, name_in, loaded_names}

abbrev pub IsRead : Source → Type 0
IsRead s = IsTreeOf s.0 s.1

-- what stands in a text stands there with bytes behind it
word_stays : (text more : List ℕ) (n : Name) → n.start ≤ n.end → n.end ≤ length text → word (text ++ more) n ≡ word text n
word_stays text more n order within =
    let long = length-drop n.start text in
    ap (take (n.end - n.start)) (drop-append-le n.start text more (omega (arith, order, within)))
    ∙ take-append-le (n.end - n.start) (drop n.start text) more (omega (arith, long, order, within))

name_stays : (s : Source) → IsRead s → name_of (Some (named s)) ≡ name_of (Some s)
name_stays s read =
    let name = s.1.name in
    let places = name_within s.0 s.1 read in
    let longer = text_behind s.0 s.1 in
    ap (λ w. utf8_lossy (shown w)) (ap (λ text. word text name) longer.1 ∙ word_stays s.0 longer.0 name places.0 places.1)

module _ (ss : List Source) (are : All IsRead ss) where
  name_same : (k : ℕ) → name_in (map named ss) k ≡ name_in ss k
  name_same k = ap name_of (slice_get-map named ss k) ∙ elim (slice_get_cases ss k).1 [
    | inl found ↦
        let s = found.0 in
        ap (λ o. name_of (option_map named o)) found.2 ∙ name_stays s (subst IsRead found.3 (All-get_or IsRead ss k s found.1 are)) ∙ ap name_of (sym found.2)
    | inr past ↦ ap (λ o. name_of (option_map named o)) past.1 ∙ ap name_of (sym past.1)
  ]

  names_same : (ks : List ℕ) → map (name_in (map named ss)) ks ≡ map (name_in ss) ks
  names_same [] = refl
  names_same (k ∷ ks) = λ i. name_same k i ∷ names_same ks i

  -- the modules in load order have the names of their files
  pub ordered_names : (ks : List ℕ) (w : World) → All (λ k. k < length ss) ks → in_order ss ks ≡ went w → map (λ (m : Module). m.name) w.modules ≡ map (name_in ss) ks
  ordered_names ks w within is =
      loaded_names (map named ss) ks no_modules w (subst (λ n. All (λ k. k < n) ks) (sym (length-map ss named)) within) is ∙ names_same ks
