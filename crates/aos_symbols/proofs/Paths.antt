-- One more scope of a path, and one more row of a table.
use Rattle.std.proofs.Common.{◌≡◌, ◌<◌, ◌≤◌, ℕ, zero, suc, List, [], ◌∷◌, ◌+◌, length, get_or, drop, drop-cons, add-one, map, Option, Some, None, Bor, bytes_eq, if◌then◌else◌, refl, ap, ◌∙◌, sym, arith}
use Rattle.std.specs.Map.{lookup}
use Rattle.std.specs.Option.{option_or}
use Rattle.aos_symbols.specs.declared.scope.Meaning.{Meaning}
use Rattle.aos_symbols.specs.declared.env.Open.{Open}
use Rattle.aos_symbols.specs.declared.env.Env.{Env}
use Rattle.aos_symbols.specs.Env.{in_path, in_scope}

pub past : {X : Type 0} (xs : List X) (i : ℕ) → length xs ≤ i → drop i xs ≡ []
past [] zero h = refl
past [] (suc i) h = refl
past (x ∷ xs) zero h = absurd (omega arith)
past (x ∷ xs) (suc i) h = past xs i (omega arith)

pub path_step : (e : Env) (os : List Open) (i : ℕ) (d : Open) (w : List ℕ) → i < length os →
    in_path e (drop i os) w ≡ option_or (in_scope e (get_or os i d) w) (in_path e (drop (i + 1) os) w)
path_step e os i d w lt =
    ap (λ l. in_path e l w) (drop-cons os i d lt)
    ∙ ap (λ j. option_or (in_scope e (get_or os i d) w) (in_path e (drop j os) w)) (sym (add-one i))

pub path_end : (e : Env) (os : List Open) (i : ℕ) (w : List ℕ) → length os ≤ i → in_path e (drop i os) w ≡ None
path_end e os i w le = ap (λ l. in_path e l w) (past os i le)

module _ (w : List ℕ) where
  abbrev look : List (Bor (List ℕ) × Meaning) → Option Meaning
  look rs = lookup (λ k. bytes_eq k w) (map (λ r. (r.0.now, r.1)) rs)

  pub row_step : (rs : List (Bor (List ℕ) × Meaning)) (i : ℕ) (d : Bor (List ℕ) × Meaning) → i < length rs →
      look (drop i rs) ≡ (if bytes_eq (get_or rs i d).0.now w then Some (get_or rs i d).1 else look (drop (i + 1) rs))
  row_step rs i d lt =
      ap look (drop-cons rs i d lt)
      ∙ ap (λ j. if bytes_eq (get_or rs i d).0.now w then Some (get_or rs i d).1 else look (drop j rs)) (sym (add-one i))

  pub row_end : (rs : List (Bor (List ℕ) × Meaning)) (i : ℕ) → length rs ≤ i → look (drop i rs) ≡ None
  row_end rs i le = ap look (past rs i le)
