-- The names of files, and where a name is met again.
use Rattle.std.proofs.Common.{◌≡◌, ℕ, ◌+◌, ◌<◌, List, [], ◌∷◌, ◌++◌, length, take, get_or, map, Bool, true, false, Some, None, Bor, Vec, Global, sym, ap, ◌∙◌, arith, bytes_eq, if◌then◌else◌}
use Rattle.std.specs.List.{list_any, position_or_len, zip}
use Rattle.std.specs.Option.{option_map}
use Rattle.std.proofs.lemmas.List.{take_more, get_or-map, length-map, map-append}
use Rattle.std.proofs.lemmas.Slice.Zip.{length-zip, get_or-zip}
use Rattle.aos_tree.specs.declared.module.Module.{Module}
use Rattle.aos_symbols.specs.Spelling.{word}
use Rattle.aos_order.specs.Files.{File, file, files}
use Rattle.aos_order.specs.Order.{names, is_again, twice}
use Rattle.aos_order.proofs.Searches.{find_first, find_none, list_any-map, position_or_len-map}

module _ (ms : List Module) (ts : List (Vec ℕ Global)) (same : length ms ≡ length ts) where
  pub length-files : length (files ms ts) ≡ length ms
  length-files = length-map (zip ms ts) _ ∙ length-zip ms ts ∙ omega arith

  -- the file of a module and its text's bytes that were read at a place
  pub file_at : (k : ℕ) (m : Module) (t : Vec ℕ Global) (bytes : List ℕ) (d : File) → k < length ms → m ≡ get_or ms k m → t ≡ get_or ts k t → bytes ≡ t.items →
      get_or (files ms ts) k d ≡ file bytes m
  file_at k m t bytes d lt is_m is_t at =
      let within : k < length (zip ms ts) = omega (arith, length-zip ms ts) in
      get_or-map (λ p. file p.1.items p.0) (zip ms ts) k (m, t) d within
      ∙ ap (λ p. file p.1.items p.0) (get_or-zip ms ts k (m, t) lt (omega arith))
      ∙ ap (λ x. file (get_or ts k t).items x) (sym is_m) ∙ ap (λ x. file x.items m) (sym is_t) ∙ ap (λ b. file b m) (sym at)

  pub length-names : length (names (files ms ts)) ≡ length ms
  length-names = length-map (files ms ts) (λ f. f.name) ∙ length-files

  -- and its name
  pub name_at : (k : ℕ) (m : Module) (t : Vec ℕ Global) (bytes w : List ℕ) → k < length ms → m ≡ get_or ms k m → t ≡ get_or ts k t → bytes ≡ t.items →
      w ≡ word bytes m.name → w ≡ get_or (names (files ms ts)) k []
  name_at k m t bytes w lt is_m is_t at read =
      let d = file bytes m in
      let within : k < length (files ms ts) = omega (arith, length-files) in
      read ∙ sym (get_or-map (λ f. f.name) (files ms ts) k d [] within ∙ ap (λ f. f.name) (file_at k m t bytes d lt is_m is_t at))

-- the names of the first files are in a table of words
module _ (all : List (List ℕ)) (ks : List (Bor (List ℕ))) (i : ℕ) (are : map (λ k. k.now) ks ≡ take i all) (lt : i < length all) where
  pub met : (w : List ℕ) → w ≡ get_or all i [] → list_any (λ k. bytes_eq w k.now) ks ≡ is_again all i
  met w is = sym (list_any-map (λ k. k.now) (bytes_eq w) ks) ∙ ap (list_any (bytes_eq w)) are ∙ ap (λ v. list_any (bytes_eq v) (take i all)) is

  pub names_more : (k : Bor (List ℕ)) (new : List (Bor (List ℕ))) (b : Bool) → k.now ≡ get_or all i [] → new ≡ (if b then ks else ks ++ k ∷ []) → b ≡ false →
      map (λ k. k.now) new ≡ take (i + 1) all
  names_more k new b is now_is fresh =
      ap (map (λ k. k.now)) (now_is ∙ ap (λ b. if b then ks else ks ++ k ∷ []) fresh) ∙ map-append (λ k. k.now) ks (k ∷ [])
      ∙ ap (λ l. l ++ k.now ∷ []) are ∙ ap (λ w. take i all ++ w ∷ []) is ∙ sym (take_more all i [] lt)

  pub twice_here : (w : List ℕ) (first : ℕ) → w ≡ get_or all i [] → first ≡ position_or_len (λ k. bytes_eq w k.now) ks → is_again all i ≡ true →
      ((j : ℕ) → j < i → is_again all j ≡ false) → twice all ≡ Some (first, i)
  twice_here w first is at again before =
      ap (option_map _) (find_first (is_again all) (length all) i lt again before)
      ∙ ap (λ n. Some (n, i)) (sym (at ∙ sym (position_or_len-map (λ k. k.now) (bytes_eq w) ks) ∙ ap (position_or_len (bytes_eq w)) are
      ∙ ap (λ v. position_or_len (bytes_eq v) (take i all)) is))

pub once : (all : List (List ℕ)) → ((j : ℕ) → j < length all → is_again all j ≡ false) → twice all ≡ None
once all before = ap (option_map _) (find_none (is_again all) (length all) before)
