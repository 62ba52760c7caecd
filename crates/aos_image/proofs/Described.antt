-- What describes the modules and the types of a program, one more of them, and all.
use Rattle.std.proofs.Common.{◌≡◌, ◌<◌, ◌≤◌, ℕ, zero, suc, ◌+◌, ◌-◌, List, [], ◌∷◌, ◌++◌, false, Some, Option, length, map, take, drop, get_or, refl, sym, ap, ◌∙◌, subst, arith}
use Rattle.std.specs.Prelude.{slice_get, option_map}
use Rattle.std.specs.List.{flat_map, range_with_len}
use Rattle.std.specs.Option.{unwrap_or}
use Rattle.std.specs.String.{string_bytes}
use Rattle.std.specs.declared.vec.Vec.{Vec}
use Rattle.std.specs.declared.alloc.Global.{Global}
use Rattle.std.proofs.lemmas.List.{length-map}
use Rattle.std.proofs.lemmas.List.FromFn.{map-range_with_len_more, length-map-range_with_len, get_or-map-range_with_len}
use Rattle.std.proofs.lemmas.Option.{slice_get-map, slice_get_within, slice_get-get_or}
use Rattle.aos_types.specs.declared.row.TypeId.{TypeId}
use Rattle.aos_types.specs.declared.row.TypeRow.{TypeRow}
use Rattle.aos_types.specs.Shape.{leaves, row}
use Rattle.aos_types.specs.Table.{base_of}
use Rattle.aos_typed.specs.Numbers.{predeclared_types}
use Rattle.aos_typed.specs.declared.tree.Program.{Program as TProgram}
use Rattle.aos_typed.specs.declared.tree.TModule.{TModule}
use Rattle.aos_typed.specs.Program.{Module, Program}
use Rattle.aos_typed.specs.Seen.{seen_module, seen_program}
use Rattle.aos_code.specs.Machine.{first_cell}
use Rattle.aos_code.specs.declared.image.ModuleDesc.{ModuleDesc}
use Rattle.aos_code.specs.declared.image.TypeDesc.{TypeDesc}
use Rattle.aos_code.specs.declared.instr.Kind.{Kind}
use Rattle.aos_layout.specs.Layout.{variable_cells}
use Rattle.aos_dispatch.proofs.Lists.{more, more_of, next_of, count_of}
use Rattle.aos_sim.specs.Shows.{numbers_from, text_cells, first_cells, made_kinds, base_number}
use Rattle.aos_image.specs.Made.{active_at, base_at, body_at, initial_at, kinds_at, methods_at, priority_at, AreModules, AreKindsOf, IsTypeOf, AreTypesOf}

numbers-append : {A : Type 0} (k : ℕ) (xs : List A) (x : A) → numbers_from k (xs ++ x ∷ []) ≡ numbers_from k xs ++ (k + length xs) ∷ []
numbers-append k [] x = let e : k ≡ k + 0 = omega arith in ap (λ n. n ∷ []) e
numbers-append k (y ∷ ys) x =
    let e : suc k + length ys ≡ k + suc (length ys) = omega arith in
    ap (λ l. k ∷ l) (numbers-append (suc k) ys x) ∙ ap (λ n. k ∷ (numbers_from (suc k) ys ++ n ∷ [])) e

-- what a module's cells hold at first, from its string constants as the code has them
pub first_cells_are : (rows : List TypeRow) (m : TModule) → map first_cell (leaves (row (variable_cells rows (seen_module m).variables))) ++ flat_map (λ t. text_cells t.items) m.texts.items ≡ first_cells rows (seen_module m)
first_cells_are rows m = ap (λ l. map first_cell (leaves (row (variable_cells rows (seen_module m).variables))) ++ l) (seen m.texts.items)
  where
    seen : (ts : List (Vec ℕ Global)) → flat_map (λ t. text_cells t.items) ts ≡ flat_map text_cells (map (λ t. t.items) ts)
    seen [] = refl
    seen (t ∷ ts) = ap (λ l. text_cells t.items ++ l) (seen ts)

-- one more module
module _ (p : Program) where
  pub module_more : (ms : List TModule) (k n : ℕ) (m : TModule) (ds ds' : List ModuleDesc) (d : ModuleDesc) → k < length ms → m ≡ get_or ms k m → n ≡ k → ds' ≡ ds ++ d ∷ [] → d.body ≡ n + 1 → d.cells.items ≡ first_cells p.types (seen_module m) → string_bytes d.name ≡ string_bytes m.name → AreModules p (map seen_module (take k ms)) ds → AreModules p (map seen_module (take (k + 1) ms)) ds'
  module_more ms k n m ds ds' d lt at is ed start cells name h =
      let xs = map seen_module (take k ms) in
      let there : d.body ≡ 1 + length xs = omega (arith, count_of seen_module ms k lt, is, start) in
      subst (λ l. AreModules p l ds') (sym (next_of seen_module ms k m lt at)) (subst (λ l. AreModules p (xs ++ seen_module m ∷ []) l) (sym ed) (record {
        starts = more (λ (x : ModuleDesc). x.body) ds _ d (1 + length xs) h.starts there ∙ sym (numbers-append 1 xs (seen_module m));
        cells = more_of (λ (x : ModuleDesc). x.cells.items) (first_cells p.types) ds xs d (seen_module m) h.cells cells;
        names = more_of (λ (x : ModuleDesc). string_bytes x.name) (λ (x : Module). x.name) ds xs d (seen_module m) h.names name;
      }))

-- one more type
pub type_more : (p : Program) (k j : ℕ) (ts ts' : List TypeDesc) (t : TypeDesc) → predeclared_types + k ≡ j → ts' ≡ ts ++ t ∷ [] → IsTypeOf p k j t → AreTypesOf p k ts → AreTypesOf p (k + 1) ts'
type_more p k j ts ts' t number is one h =
    subst (λ l. AreTypesOf p (k + 1) l) (sym is) (record {
      bases = more (λ (x : TypeDesc). x.base) ts _ t (base_at p j) h.bases one.base ∙ sym (map-range_with_len_more (base_at p) predeclared_types k j number);
      counts = more_of (λ (x : TypeDesc). x.cells) (λ (x : TypeDesc). length x.kinds.items) ts ts t t h.counts one.cells;
      kinds = more (λ (x : TypeDesc). x.kinds.items) ts _ t (kinds_at p j) h.kinds one.kinds ∙ sym (map-range_with_len_more (kinds_at p) predeclared_types k j number);
      methods = more (λ (x : TypeDesc). x.methods.items) ts _ t (methods_at p k) h.methods one.methods ∙ sym (map-range_with_len_more (methods_at p) 0 k k (omega arith));
      initials = more (λ (x : TypeDesc). x.init) ts _ t (initial_at p k) h.initials one.initial ∙ sym (map-range_with_len_more (initial_at p) 0 k k (omega arith));
      bodies = more (λ (x : TypeDesc). x.body) ts _ t (body_at p k) h.bodies one.body ∙ sym (map-range_with_len_more (body_at p) 0 k k (omega arith));
      actives = more (λ (x : TypeDesc). x.active) ts _ t (active_at p k) h.actives one.active ∙ sym (map-range_with_len_more (active_at p) 0 k k (omega arith));
      priorities = more (λ (x : TypeDesc). x.priority) ts _ t (priority_at p k) h.priorities one.priority ∙ sym (map-range_with_len_more (priority_at p) 0 k k (omega arith));
      safes = more_of (λ (x : TypeDesc). x.safe) (λ (x : TypeDesc). false) ts ts t t h.safes one.safe;
    })

-- what is behind the first elements of a list, by its numbers in the list
module _ {A B : Type 0} (f : Option A → B) where
  shifted : (x : A) (xs : List A) (a n : ℕ) → map (λ j. f (slice_get (x ∷ xs) j)) (range_with_len (suc a) n) ≡ map (λ j. f (slice_get xs j)) (range_with_len a n)
  shifted x xs a zero = refl
  shifted x xs a (suc n) =
      let e : suc a + 1 ≡ suc (a + 1) = omega arith in
      ap (λ l. f (slice_get xs a) ∷ l) (ap (λ m. map (λ j. f (slice_get (x ∷ xs) j)) (range_with_len m n)) e ∙ shifted x xs (a + 1) n)

  pub behind : (a n : ℕ) (xs : List A) → length xs ≡ n + a → map (λ r. f (Some r)) (drop a xs) ≡ map (λ j. f (slice_get xs j)) (range_with_len a n)
  behind zero zero [] e = refl
  behind zero (suc n) [] e = absurd (omega arith)
  behind zero zero (x ∷ xs) e = absurd (omega arith)
  behind zero (suc n) (x ∷ xs) e = ap (λ l. f (Some x) ∷ l) (behind zero n xs (omega arith) ∙ sym (shifted x xs 0 n))
  behind (suc a) zero [] e = absurd (omega arith)
  behind (suc a) (suc n) [] e = absurd (omega arith)
  behind (suc a) n (x ∷ xs) e = behind a n xs (omega arith) ∙ sym (shifted x xs a n)

-- all types
module _ (p : Program) (ts : List TypeDesc) (h : AreTypesOf p (length p.objects) ts) where
  pub bases_are : length p.types ≡ length p.objects + predeclared_types → map (λ t. t.base) ts ≡ map (λ r. base_number (base_of (Some r))) (drop predeclared_types p.types)
  bases_are beside = h.bases ∙ sym (behind (λ o. base_number (base_of o)) predeclared_types (length p.objects) p.types beside)

-- the kinds of one of the first types
pub kinds_there : (rows : List TypeRow) (ts : List TypeDesc) (count : ℕ) (b : TypeId) (one : TypeDesc) (ks : List Kind) →
    AreKindsOf rows count ts → predeclared_types ≤ b.0 → slice_get ts (b.0 - predeclared_types) ≡ Some one → ks ≡ one.kinds.items →
    ks ≡ made_kinds rows b
kinds_there rows ts count b one ks are above at is =
    let kinds = λ (t : TypeDesc). t.kinds.items in
    let f : ℕ → List Kind = λ k. made_kinds rows (record { 0 = k }) in
    let place = b.0 - predeclared_types in
    let lt : place < count =
    omega (arith, slice_get_within ts place one at, length-map ts kinds, ap length are, length-map-range_with_len f predeclared_types count) in
    let same : Some one.kinds.items ≡ Some (f b.0) =
    sym (slice_get-map kinds ts place ∙ ap (option_map kinds) at)
    ∙ ap (λ l. slice_get l place) are
    ∙ slice_get-get_or (map f (range_with_len predeclared_types count)) place (f b.0) (omega (arith, lt, length-map-range_with_len f predeclared_types count))
    ∙ ap (λ l. Some l) (get_or-map-range_with_len f predeclared_types count place b.0 (f b.0) lt (omega (arith, above))) in
    is ∙ ap (λ o. unwrap_or o []) same

pub kinds_so_far : (q : TProgram) (count : ℕ) (ts ts' : List TypeDesc) → AreTypesOf (seen_program q) count ts → ts' ≡ ts →
    AreKindsOf q.types count ts'
kinds_so_far q count ts ts' are same = subst (λ l. AreKindsOf q.types count l) (sym same) are.kinds
