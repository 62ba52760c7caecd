-- The modules of a program that texts come to: as many as the texts, and their names are idents and differ.
use Rattle.std.proofs.Common.{◌≡◌, ◌≢◌, ℕ, suc, ◌<◌, ◌≤◌, true, false, List, [], ◌∷◌, length, take, get_or, map, Option, Some, None, refl, sym, ap, subst, ◌∙◌, arith, eqb, bytes_eq, inl, inr, ⊎_elim}
use Rattle.std.specs.List.{All, AllPairs, list_any, zip}
use Rattle.std.specs.Option.{option_map}
use Rattle.std.proofs.lemmas.Bool.{both_ways, cases_order}
use Rattle.std.proofs.lemmas.Bool.Decides.{Decides-eqb}
use Rattle.std.proofs.lemmas.List.{get_or-map, get_or-take, length-map, length-take-le}
use Rattle.std.proofs.lemmas.List.Elements.{All-nil, All-cons, All-get_or}
use Rattle.std.proofs.lemmas.List.Folds.{Any-from_list_any, list_any_at}
use Rattle.std.proofs.lemmas.Map.Made.{IsDistinct-from_AllPairs}
use Rattle.std.proofs.lemmas.Map.Steps.{length-le_from_distinct_below, le-length_from_below}
use Rattle.std.proofs.lemmas.Bool.{eqb-true}
use Rattle.std.proofs.lemmas.Option.{slice_get_cases}
use Rattle.std.proofs.lemmas.Slice.Eq.{bytes_eq-Decides}
use Rattle.aos_base.specs.declared.text.Pos.{Pos}
use Rattle.aos_tree.specs.declared.module.Module.{Module as Tree}
use Rattle.aos_order.specs.Files.{File}
use Rattle.aos_order.specs.Placing.{placed, unplaced}
use Rattle.aos_order.specs.Order as order
use Rattle.aos_order.specs.Order.{Order, absent, answer, first_of, is_again, needs, repetition, twice}
use Rattle.aos_order.specs.Laws.{IsLoadOrder}
use Rattle.aos_order.proofs.Keeps.{none_below, order_keeps}
use Rattle.aos_order.proofs.Steps.{placed_within}
use Rattle.aos_typed.specs.Program.{Module, Program}
use Rattle.aos_typed.specs.WellTyped.{is_ident}
use Rattle.aos_symbols.specs.Outcome.{went}
use Rattle.aos_symbols.specs.Spelling.{word}
use Rattle.aos_compile.specs.Modules.{World, program_of}
use Rattle.aos_reading.specs.Files.{Reading, tree, broken, Source, trees_from, file_of, named_out, decided_order, load_order}
use Rattle.aos_compile.specs.Files.{in_order, modules}
use Rattle.aos_reading.specs.Texts.{IsTreeOf, IsReading, AreReadings, by_tree, by_scanner, by_syntax, by_nesting}
use Rattle.aos_compile.proofs.Idents.{name_is_ident, spelled_alike}
use Rattle.aos_symbols.proofs.Holds.{same_went, then_went}
use Rattle.aos_compile.proofs.Loaded.{never_went, name_of, name_in}
use Rattle.aos_compile.proofs.Named.{IsRead, ordered_names}

-- The trees of the texts.

abbrev OnTree : List ℕ → Reading → Type 0
OnTree text (tree m) = IsTreeOf text m
OnTree text (broken b) = Unit {0}

tree_of : (text : List ℕ) (r : Reading) → IsReading text r → OnTree text r
tree_of text r (by_tree t) = t
tree_of text r (by_scanner e h) = tt
tree_of text r (by_syntax p list at) = tt
tree_of text r (by_nesting p list at) = tt

are_trees : (texts : List (List ℕ)) (rs : List Reading) (k : ℕ) (ms : List Tree) → AreReadings texts rs → trees_from k rs ≡ went ms →
    (length (zip texts ms) ≡ length texts) × All IsRead (zip texts ms)
are_trees [] [] k ms h e = (refl, All-nil IsRead)
are_trees [] (r ∷ rs) k ms h e = absurd h
are_trees (text ∷ texts) [] k ms h e = absurd h
are_trees (text ∷ texts) (broken b ∷ rs) k ms h e = absurd (never_went _ ms e)
are_trees (text ∷ texts) (tree m ∷ rs) k ms h e =
    let more = then_went (trees_from (suc k) rs) (λ ns. went (m ∷ ns)) ms e in
    let rest = are_trees texts rs (suc k) more.0 h.1 more.1 in
    subst (λ ns. (length (zip (text ∷ texts) ns) ≡ length (text ∷ texts)) × All IsRead (zip (text ∷ texts) ns)) (same_went (m ∷ more.0) ms more.2)
    (ap suc rest.0, All-cons IsRead (text, m) (zip texts more.0) (tree_of text (tree m) h.0) rest.1)

-- The load order.

-- no name was given twice, and all files are placed
order_parts : (ss : List Source) (out : Option ℕ) (again : Option (ℕ × ℕ)) (lacking : Option (ℕ × Pos)) (so_far left ks : List ℕ) →
    decided_order ss out (first_of again lacking so_far left) ≡ went ks → (again ≡ None) × (so_far ≡ ks) × (first_of again lacking so_far left ≡ Order ks)
order_parts ss out (Some p) lacking so_far left ks e = absurd (never_went _ ks e)
order_parts ss (Some o) None (Some p) so_far left ks e = absurd (never_went _ ks e)
order_parts ss (Some o) None None so_far [] ks e = absurd (never_went _ ks e)
order_parts ss (Some o) None None so_far (j ∷ js) ks e = absurd (never_went _ ks e)
order_parts ss None None (Some p) so_far left ks e = absurd (never_went _ ks e)
order_parts ss None None None so_far (j ∷ js) ks e = absurd (never_went _ ks e)
order_parts ss None None None so_far [] ks e = let same = same_went so_far ks e in (refl, same, ap Order same)

map_none : {X Y : Type 0} (f : X → Y) (o : Option X) → option_map f o ≡ None → o ≡ None
map_none f None e = refl
map_none f (Some x) e = cc

names_differ : (ns : List (List ℕ)) → twice ns ≡ None → (j k : ℕ) → j < k → k < length ns → get_or ns j [] ≢ get_or ns k []
names_differ ns e j k lt le same =
    let w = get_or ns k [] in
    let none : is_again ns k ≡ false = none_below (is_again ns) (length ns) k le (map_none (repetition ns) _ e) in
    let alike : bytes_eq w (get_or (take k ns) j []) ≡ true = (bytes_eq-Decides w _).1 (sym same ∙ sym (get_or-take k ns j [] lt)) in
    let long = length-take-le k ns (omega arith) in
    both_ways (is_again ns k) none (list_any_at (bytes_eq w) (take k ns) j [] (omega (arith, long)) alike)

-- The files in load order.
module _ (ss : List Source) (are : All IsRead ss) (ks : List ℕ) (is : load_order ss ≡ went ks) where
  abbrev given : List File
  given = map file_of ss

  abbrev given_names : List (List ℕ)
  given_names = order.names given

  abbrev parts : (twice given_names ≡ None) × (placed (needs given) ≡ ks) × (answer given ≡ Order ks)
  parts = order_parts ss (named_out ss) (twice given_names) (absent given) (placed (needs given)) (unplaced (needs given)) ks is

  law : IsLoadOrder given ks
  law = order_keeps given ks parts.2

  given_long : length given ≡ length ss
  given_long = length-map ss file_of

  within : All (λ k. k < length ss) ks
  within =
      let long : length (needs given) ≡ length ss = length-map given _ ∙ given_long in
      subst (All (λ k. k < length ss)) parts.1 (subst (λ n. All (λ k. k < n) (placed (needs given))) long (placed_within (needs given)))

  within_at : (i : ℕ) → i < length ks → get_or ks i 0 < length ss
  within_at i lt = All-get_or (λ k. k < length ss) ks i 0 lt within

  ks_long : length ks ≡ length ss
  ks_long =
      let most : length ks ≤ length ss = length-le_from_distinct_below ks (length ss) (IsDistinct-from_AllPairs Decides-eqb ks law.once) below in
      let least : length ss ≤ length ks = le-length_from_below ks (length ss) (λ q lt. law.each q (omega (arith, given_long))) in
      omega (arith, most, least)
    where
      below : (q : ℕ) → list_any (eqb q) ks ≡ true → q < length ss
      below q e =
          let at = Any-from_list_any (eqb q) ks e in
          let lt : get_or ks at.0 at.1 < length ss = All-get_or (λ k. k < length ss) ks at.0 at.1 at.2 within in
          let same = eqb-true q at.1 at.4 in
          omega (arith, lt, same, at.3)

  -- the name of a file's module in the program is that in its text
  name_at : (k : ℕ) → k < length ss → (name_in ss k ≡ get_or given_names k []) × (is_ident (name_in ss k) ≡ true)
  name_at k lt = elim (slice_get_cases ss k).1 [
    | inr past ↦ absurd (omega (arith, past.0))
    | inl found ↦
        let s = found.0 in
        let t : IsRead s = subst IsRead found.3 (All-get_or IsRead ss k s found.1 are) in
        let same : name_in ss k ≡ word s.0 s.1.name = ap name_of found.2 ∙ spelled_alike s.0 s.1 t in
        let there : get_or given_names k [] ≡ word s.0 s.1.name =
        get_or-map (λ (f : File). f.name) given k (file_of s) [] (omega (arith, given_long))
        ∙ ap (λ (f : File). f.name) (get_or-map file_of ss k s (file_of s) found.1) ∙ ap (λ (x : Source). word x.0 x.1.name) found.3 in
        (same ∙ sym there, ap is_ident same ∙ name_is_ident s.0 s.1 t)
  ]

  differ_at : (j k : ℕ) → j < length ss → k < length ss → j ≢ k → name_in ss j ≢ name_in ss k
  differ_at j k lt le apart same =
      let long : length given_names ≡ length ss = length-map given _ ∙ given_long in
      let alike = sym (name_at j lt).0 ∙ same ∙ (name_at k le).0 in
      ⊎_elim apart (λ two. ⊎_elim
      (λ less. names_differ given_names parts.0 j k less (omega (arith, long)) alike)
      (λ more. names_differ given_names parts.0 k j more (omega (arith, long)) (sym alike)) two) (cases_order j k)

-- Modules that have the names of the files in load order.
module _ (ss : List Source) (are : All IsRead ss) (ks : List ℕ) (is : load_order ss ≡ went ks) (ms : List Module) (same : map (λ (m : Module). m.name) ms ≡ map (name_in ss) ks) where
  ms_long : length ms ≡ length ks
  ms_long = sym (length-map ms (λ (m : Module). m.name)) ∙ ap length same ∙ length-map ks (name_in ss)

  module_name : (i : ℕ) (d : Module) → i < length ms → (get_or ms i d).name ≡ name_in ss (get_or ks i 0)
  module_name i d lt =
      sym (get_or-map (λ (m : Module). m.name) ms i d [] lt) ∙ ap (λ l. get_or l i []) same ∙ get_or-map (name_in ss) ks i 0 [] (omega (arith, ms_long))

  are_idents : All (λ m. is_ident m.name ≡ true) ms
  are_idents i d lt = ap is_ident (module_name i d lt) ∙ (name_at ss are ks is (get_or ks i 0) (within_at ss are ks is i (omega (arith, ms_long)))).1

  are_apart : AllPairs (λ m n. m.name ≢ n.name) ms
  are_apart i j d lt le alike =
      differ_at ss are ks is (get_or ks i 0) (get_or ks j 0) (within_at ss are ks is i (omega (arith, ms_long))) (within_at ss are ks is j (omega (arith, ms_long)))
      ((law ss are ks is).once i j 0 lt (omega (arith, ms_long)))
      (sym (module_name i d (omega arith)) ∙ alike ∙ module_name j d le)

-- as many modules as there are texts, whose names are idents and differ
pub record AreNamed (texts : List (List ℕ)) (p : Program) : Type 0 where
  pub as_many : length p.modules ≡ length texts
  pub names : All (λ m. is_ident m.name ≡ true) p.modules
  pub differ : AllPairs (λ m n. m.name ≢ n.name) p.modules

pub are_named : (texts : List (List ℕ)) (rs : List Reading) (trees : List Tree) (w : World) → AreReadings texts rs → trees_from 0 rs ≡ went trees → modules (zip texts trees) ≡ went w →
    AreNamed texts (program_of w)
are_named texts rs trees w are_readings read made =
    let ss = zip texts trees in
    let are = are_trees texts rs 0 trees are_readings read in
    let ordered = then_went (load_order ss) (in_order ss) w made in
    let ks = ordered.0 in
    let same : map (λ (m : Module). m.name) w.modules ≡ map (name_in ss) ks = ordered_names ss are.1 ks w (within ss are.1 ks ordered.1) ordered.2 in
    record {
      as_many = ms_long ss are.1 ks ordered.1 w.modules same ∙ ks_long ss are.1 ks ordered.1 ∙ are.0;
      names = are_idents ss are.1 ks ordered.1 w.modules same;
      differ = are_apart ss are.1 ks ordered.1 w.modules same;
    }

-- what well-typedness says of the modules of a program
pub record NamedWell (p : Program) : Type 0 where
  pub some : 1 ≤ length p.modules
  pub few : length p.modules ≤ 64
  pub names : All (λ m. is_ident m.name ≡ true) p.modules
  pub differ : AllPairs (λ m n. m.name ≢ n.name) p.modules

pub named_well : (texts : List (List ℕ)) (rs : List Reading) (trees : List Tree) (w : World) → AreReadings texts rs → trees_from 0 rs ≡ went trees → modules (zip texts trees) ≡ went w →
    1 ≤ length texts → length texts ≤ 64 → NamedWell (program_of w)
named_well texts rs trees w are_readings read made some few =
    let named = are_named texts rs trees w are_readings read made in
    record { some = omega (arith, named.as_many, some); few = omega (arith, named.as_many, few); names = named.names; differ = named.differ }
