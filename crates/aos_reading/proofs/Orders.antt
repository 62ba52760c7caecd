-- Files with their trees, and the order in which their modules are loaded.
use Rattle.std.proofs.Common.{◌≡◌, ℕ, zero, suc, ◌<◌, ◌≤◌, List, [], ◌∷◌, ◌++◌, length, map, get_or, Option, Some, None, true, false, Vec, Global, refl, sym, ap, ◌∙◌, subst, arith}
use Rattle.std.specs.Prelude.{unwrap_or}
use Rattle.std.specs.List.{filter_map, slice_get}
use Rattle.std.specs.Option.{option_map, option_to_list}
use Rattle.std.proofs.lemmas.List.{length-map, length-append, get_or-map}
use Rattle.std.proofs.lemmas.Option.{slice_get-get_or}
use Rattle.std.proofs.lemmas.Slice.Zip.{length-zip, get_or-zip}
use Rattle.aos_base.specs.declared.text.Pos.{Pos}
use Rattle.aos_tree.specs.declared.module.Module.{Module as Tree}
use Rattle.aos_order.specs.Files.{File, file, files}
use Rattle.aos_order.specs.Order.{Answer, Order, Twice, Absent, Cycle, absent, answer, first_of, names, needed, needs, twice}
use Rattle.aos_order.specs.Placing.{next, placed, placed_after, unplaced}
use Rattle.aos_order.proofs.Searches.{find_first, find_none}
use Rattle.aos_symbols.specs.Outcome.{refused, went, refusal}
use Rattle.aos_reading.specs.declared.compile_err.CompileErr.{CompileErr}
use Rattle.aos_reading.specs.declared.compile_err.CompileErr.TheVariants.{Refused}
use Rattle.aos_reading.specs.Files.{Source, name_place, is_named_out, named_out, at_name, decided_order, file_of, load_order}
use Rattle.aos_reading.specs.Sources.{bytes_of, sources, OnRefused}

module _ (ts : List (Vec ℕ Global)) (ms : List Tree) (same : length ms ≡ length ts) where
  pub length-sources : length (sources ts ms) ≡ length ms
  length-sources = let size = length-map ts (λ t. t.items) in length-zip (bytes_of ts) ms ∙ omega arith

  -- the file with a number
  pub source_at : (k : ℕ) (m : Tree) (t : Vec ℕ Global) (text : List ℕ) → k < length ms → m ≡ get_or ms k m → t ≡ get_or ts k t → text ≡ t.items →
      slice_get (sources ts ms) k ≡ Some (text, m)
  source_at k m t text lt is_m is_t at =
      let size = length-map ts (λ t. t.items) in
      slice_get-get_or (sources ts ms) k (text, m) (omega (arith, length-sources))
      ∙ ap Some (get_or-zip (bytes_of ts) ms k (text, m) (omega arith) lt)
      ∙ ap (λ x. Some (x, get_or ms k m)) (get_or-map (λ t. t.items) ts k t text (omega arith) ∙ ap (λ t. t.items) (sym is_t) ∙ sym at)
      ∙ ap (λ x. Some (text, x)) (sym is_m)

  -- the tree alone says where the name of its module stands
  pub name_at : (k : ℕ) (m : Tree) → k < length ms → m ≡ get_or ms k m → name_place (slice_get (sources ts ms) k) ≡ m.name.pos
  name_at k m lt is =
      let size = length-map ts (λ t. t.items) in
      ap name_place (slice_get-get_or (sources ts ms) k ([], m) (omega (arith, length-sources)) ∙ ap Some (get_or-zip (bytes_of ts) ms k ([], m) (omega arith) lt))
      ∙ ap (λ x. x.name.pos) (sym is)

  pub refused_at : (rule k : ℕ) (m : Tree) (at : Pos) (said : CompileErr) → k < length ms → m ≡ get_or ms k m → at ≡ m.name.pos → said ≡ Refused (refusal rule k at) →
      said ≡ Refused (at_name (sources ts ms) rule k)
  refused_at rule k m at said lt is here told = told ∙ ap (λ p. Refused (refusal rule k p)) (here ∙ sym (name_at k m lt is))

  -- the first file whose module is named Out
  pub out_here : (k : ℕ) → k < length ms → is_named_out (slice_get (sources ts ms) k) ≡ true →
      ((j : ℕ) → j < k → is_named_out (slice_get (sources ts ms) j) ≡ false) → named_out (sources ts ms) ≡ Some k
  out_here k lt here before = find_first (λ j. is_named_out (slice_get (sources ts ms) j)) (length (sources ts ms)) k (omega (arith, length-sources)) here before

  pub out_nowhere : ((j : ℕ) → j < length ms → is_named_out (slice_get (sources ts ms) j) ≡ false) → named_out (sources ts ms) ≡ None
  out_nowhere none = find_none (λ j. is_named_out (slice_get (sources ts ms) j)) (length (sources ts ms)) (λ j lt. none j (omega (arith, length-sources)))

-- what is read of files for their order
pub files_are : (ts : List (Vec ℕ Global)) (ms : List Tree) → files ms ts ≡ map file_of (sources ts ms)
files_are [] [] = refl
files_are [] (m ∷ ms) = refl
files_are (t ∷ ts) [] = refl
files_are (t ∷ ts) (m ∷ ms) = ap (λ fs. file t.items m ∷ fs) (files_are ts ms)

-- no file is in an order twice
step_at_most : (o : Option ℕ) (so_far : List ℕ) (n : ℕ) → length so_far ≤ n → length (so_far ++ option_to_list o) ≤ suc n
step_at_most None so_far n le = omega (arith, length-append so_far [])
step_at_most (Some k) so_far n le = omega (arith, length-append so_far (k ∷ []))

placed_at_most : (needs : List (List ℕ)) (n : ℕ) → length (placed_after needs n) ≤ n
placed_at_most needs zero = omega arith
placed_at_most needs (suc n) = step_at_most (next needs (placed_after needs n)) (placed_after needs n) n (placed_at_most needs n)

order_by : (again : Option (ℕ × ℕ)) (lacking : Option (ℕ × Pos)) (order left is : List ℕ) → first_of again lacking order left ≡ Order is → order ≡ is
order_by (Some p) lacking order left is e = cc
order_by None (Some p) order left is e = cc
order_by None None order [] is e = cc
order_by None None order (k ∷ ks) is e = cc

pub order_at_most : (all : List File) (order : List ℕ) → answer all ≡ Order order → length order ≤ length all
order_at_most all order e =
    let is = order_by (twice (names all)) (absent all) (placed (needs all)) (unplaced (needs all)) order e in
    let size = length-map all (λ f. filter_map (needed (names all)) f.imports) in
    subst (λ l. length l ≤ length all) is (omega (arith, placed_at_most (needs all) (length (needs all))))

module _ (ss : List Source) where
  -- what is said of a module that is named Out
  abbrev pub told_out : Option ℕ → Option CompileErr
  told_out out = option_map (λ k. Refused (at_name ss 11 k)) out

  abbrev OnOrder : CompileErr → Option ℕ → Answer → Type 0
  OnOrder said out a = OnRefused said (λ r. decided_order ss out a ≡ refused r)

  abbrev pub OnLoadOrder : CompileErr → Type 0
  OnLoadOrder said = OnRefused said (λ r. load_order ss ≡ refused r)

  over : (said : CompileErr) (a : Answer) → answer (map file_of ss) ≡ a → OnOrder said (named_out ss) a → OnLoadOrder said
  over said a is h = subst (OnOrder said (named_out ss)) (sym is) h

  pub twice_said : (i k : ℕ) (said : CompileErr) → answer (map file_of ss) ≡ Twice i k → said ≡ Refused (at_name ss 8 k) → OnLoadOrder said
  twice_said i k said is told = over said (Twice i k) is (subst (λ e. OnOrder e (named_out ss) (Twice i k)) (sym told) refl)

  absent_by : (out : Option ℕ) (k : ℕ) (at : Pos) → OnOrder (unwrap_or (told_out out) (Refused (refusal 9 k at))) out (Absent k at)
  absent_by None k at = refl
  absent_by (Some j) k at = refl

  pub absent_said : (k : ℕ) (at : Pos) (said : CompileErr) → answer (map file_of ss) ≡ Absent k at → said ≡ unwrap_or (told_out (named_out ss)) (Refused (refusal 9 k at)) → OnLoadOrder said
  absent_said k at said is told = over said (Absent k at) is (subst (λ e. OnOrder e (named_out ss) (Absent k at)) (sym told) (absent_by (named_out ss) k at))

  cycle_by : (out : Option ℕ) (k : ℕ) (left : List ℕ) → 0 < length left → k ≡ get_or left 0 k → OnOrder (unwrap_or (told_out out) (Refused (at_name ss 10 k))) out (Cycle left)
  cycle_by None k [] lt is = absurd (omega arith)
  cycle_by None k (j ∷ js) lt is = ap (λ i. refused (at_name ss 10 i)) (sym is)
  cycle_by (Some j) k left lt is = refl

  pub cycle_said : (k : ℕ) (left : List ℕ) (said : CompileErr) → answer (map file_of ss) ≡ Cycle left → 0 < length left → k ≡ get_or left 0 k →
      said ≡ unwrap_or (told_out (named_out ss)) (Refused (at_name ss 10 k)) → OnLoadOrder said
  cycle_said k left said is lt at told = over said (Cycle left) is (subst (λ e. OnOrder e (named_out ss) (Cycle left)) (sym told) (cycle_by (named_out ss) k left lt at))

  out_by : (out : Option ℕ) (said : CompileErr) (order : List ℕ) → told_out out ≡ Some said → OnOrder said out (Order order)
  out_by None said order e = cc
  out_by (Some k) said order e = let is : Refused (at_name ss 11 k) ≡ said = cc in subst (λ x. OnOrder x (Some k) (Order order)) is refl

  pub out_said : (said : CompileErr) (order : List ℕ) → answer (map file_of ss) ≡ Order order → told_out (named_out ss) ≡ Some said → OnLoadOrder said
  out_said said order is e = over said (Order order) is (out_by (named_out ss) said order e)

  went_by : (out : Option ℕ) (order : List ℕ) → told_out out ≡ None → decided_order ss out (Order order) ≡ went order
  went_by None order e = refl
  went_by (Some k) order e = cc

  pub order_said : (order : List ℕ) → answer (map file_of ss) ≡ Order order → told_out (named_out ss) ≡ None → load_order ss ≡ went order
  order_said order is e = ap (decided_order ss (named_out ss)) is ∙ went_by (named_out ss) order e
