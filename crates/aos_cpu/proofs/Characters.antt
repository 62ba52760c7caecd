-- Texts that are read one cell after the other.
use Rattle.std.proofs.Common.{◌≡◌, pos, ℕ, zero, suc, ◌+◌, ◌<◌, List, [], ◌∷◌, ◌++◌, length, ◌≤◌, drop, get_or, refl, sym, ap, ◌∙◌, arith, append_assoc}
use Rattle.std.specs.Prelude.{Option, Some, None}
use Rattle.std.specs.Option.{option_map}
use Rattle.std.proofs.lemmas.List.{drop_more, drop_all, get_or-map, length-append, drop-append-le, append-nil}
use Rattle.aos_code.specs.declared.instr.Cell.{Cell}
use Rattle.aos_code.specs.declared.instr.Cell.TheVariants.{Num}
use Rattle.aos_code.specs.Machine.{code_in, text_in, character_then, character_cells}

map_map : {A B C : Type 0} (f : B → C) (g : A → B) (h : A → C) (o : Option A) → ((a : A) → f (g a) ≡ h a) → option_map f (option_map g o) ≡ option_map h o
map_map f g h None e = refl
map_map f g h (Some a) e = ap Some (e a)

-- at this cell
pub text_from : (vs : List Cell) (i : ℕ) (d : Cell) → i < length vs → text_in [] (drop i vs) ≡ character_then [] (code_in [] (get_or vs i d)) (text_in [] (drop (i + 1) vs))
text_from vs i d lt = ap (text_in []) (drop_more vs i d lt)

-- a character more has been read
pub text_more : (o rest : Option (List ℕ)) (p : List ℕ) (c : ℕ) (code : Option ℕ) (whole : Option (List ℕ)) → Some c ≡ code → 0 < c → whole ≡ option_map (λ t. p ++ t) o → o ≡ character_then [] code rest → whole ≡ option_map (λ t. (p ++ c ∷ []) ++ t) rest
text_more o rest p zero code whole e lt w is = absurd (omega (arith, lt))
text_more o rest p (suc c) code whole e lt w is =
    w ∙ ap (option_map (λ t. p ++ t)) (is ∙ ap (λ x. character_then [] x rest) (sym e)) ∙ map_map (λ t. p ++ t) (λ t. suc c ∷ t) (λ t. (p ++ suc c ∷ []) ++ t) rest (λ t. sym (append_assoc p (suc c ∷ []) t))

-- Lists that grow behind a front.

pub none_behind : (old : List ℕ) → drop (length old) old ≡ []
none_behind old = drop_all (length old) old (omega arith)

pub front_kept : (old : List ℕ) → old ≡ old ++ drop (length old) old
front_kept old = sym (ap (λ p. old ++ p) (none_behind old) ∙ append-nil old)

pub read_first : (old : List ℕ) (o : Option (List ℕ)) → o ≡ option_map (λ t. drop (length old) old ++ t) o
read_first old None = refl
read_first old (Some t) = ap (λ p. Some (p ++ t)) (sym (none_behind old))

pub pushed : (old now : List ℕ) (c : ℕ) → now ≡ old ++ drop (length old) now → drop (length old) (now ++ c ∷ []) ≡ drop (length old) now ++ c ∷ []
pushed old now c e =
    let le : length old ≤ length now = omega (arith, ap length e, length-append old (drop (length old) now)) in
    drop-append-le (length old) now (c ∷ []) le

pub front_pushed : (old now : List ℕ) (c : ℕ) → now ≡ old ++ drop (length old) now → now ++ c ∷ [] ≡ old ++ drop (length old) (now ++ c ∷ [])
front_pushed old now c e =
    ap (λ xs. xs ++ c ∷ []) e ∙ append_assoc old (drop (length old) now) (c ∷ []) ∙ ap (λ p. old ++ p) (sym (pushed old now c e))

-- Characters in cells.

pub at_character : (s : List ℕ) (i : ℕ) (vs : List Cell) → vs ≡ character_cells [] s → i < length s → get_or vs i (Num (pos 0)) ≡ Num (pos (get_or s i 0))
at_character s i vs e lt = ap (λ xs. get_or xs i (Num (pos 0))) e ∙ get_or-map (λ c. Num (pos c)) s i 0 (Num (pos 0)) lt

pub count_cells : (s : List ℕ) → length (character_cells [] s) ≡ length s
count_cells [] = refl
count_cells (c ∷ s) = ap suc (count_cells s)
