-- Names that are declared once in a scope: two definitions of types in it have different names.
use Rattle.std.proofs.Common.{◌≡◌, ℕ, zero, suc, ◌+◌, ◌-◌, ◌<◌, ◌≤◌, List, [], ◌∷◌, ◌++◌, length, map, Bool, true, false, not, ◌||◌, codes, Some, None, slice_get, refl, sym, ap, ◌∙◌, subst, append_assoc, arith}
use Rattle.std.specs.List.{flat_map, list_any}
use Rattle.std.proofs.lemmas.Bool.{cases_lt}
use Rattle.std.proofs.lemmas.List.{map-append}
use Rattle.std.proofs.lemmas.Option.{none-some, same_Some}
use Rattle.std.proofs.lemmas.Slice.Eq.{bytes_eq-Decides}
use mathlib.Core.Logic.{◌⊎◌, inl, inr}
use Rattle.aos_tree.specs.declared.name.Name.{Name}
use Rattle.aos_tree.specs.declared.decl.Def.{Def}
use Rattle.aos_tree.specs.declared.decl.ConstDef.{ConstDef}
use Rattle.aos_tree.specs.declared.decl.VarDef.{VarDef}
use Rattle.aos_tree.specs.declared.decl.Decl.{Decl, Row_of-TypeDef, end_of-TypeDef, more_of-TypeDef, Row_of-Decl, end_of-Decl, more_of-Decl, items-the_row-TypeDef, items-the_row-VarDef, items-the_row-Decl}
use Rattle.aos_tree.specs.declared.decl.Decl.TheVariants as decl
use Rattle.aos_tree.specs.declared.decl.TypeDef.{TypeDef}
use Rattle.aos_tree.specs.declared.decl.TypeExpr.{TypeExpr}
use Rattle.aos_tree.specs.declared.decl.TypeExpr.TheVariants as type
use Rattle.aos_tree.specs.declared.module.Module.{Module}
use Rattle.aos_symbols.specs.Spelling.{word, is_word, are_same}
use Rattle.aos_symbols.specs.Declarations.{def_names, constants_in, types_in, singles_in, procedures_in, constant_defs, type_defs, single_variables, procedure_defs, names_in, declared_names, formal_names, Procedure, whole_procedures_in, procedures, inner_decls, methods_in, all_procedures}
use Rattle.aos_check_names.specs.Names.{module_names, declared_again, twice_after, twice, other_end, object_end, within_decl, within_decls, within_types, within_type, name_breaches}
use Rattle.aos_symbols.proofs.Each.{Each, joined, front, back, implied, each_at}
use Rattle.aos_symbols.proofs.Holds.{none_left, none_right, test_is}
use Rattle.aos_check_types.proofs.TypingLists.{get_below, get_behind}

module _ (text : List ℕ) where
  abbrev pub AreApart : Name → Name → Type 0
  AreApart a b = word text a ≡ word text b → ⊥

  -- each from all behind it
  abbrev pub Differ : List Name → Type 0
  Differ [] = Unit {0}
  Differ (n ∷ ns) = Each (AreApart n) ns × Differ ns

  -- a name that differs from one of those before it
  is_new : (before : List Name) (n : Name) → declared_again text before n ≡ [] → list_any (are_same text n) before ≡ false
  is_new before n none = by (is_word text (codes "SELF") n) (list_any (are_same text n) before) (test_is (not (is_word text (codes "SELF") n || list_any (are_same text n) before)) 13 n.pos none)
    where
      by : (a b : Bool) → not (a || b) ≡ true → b ≡ false
      by true b e = absurd (cc)
      by false true e = absurd (cc)
      by false false e = refl

  abbrev IsOne : Name → List Name → Type 0
  IsOne a [] = ⊥
  IsOne a (n ∷ ns) = (n ≡ a) ⊎ IsOne a ns

  last_one : (ns : List Name) (a : Name) → IsOne a (ns ++ a ∷ [])
  last_one [] a = inl refl
  last_one (n ∷ ns) a = inr (last_one ns a)

  still_one : (ns : List Name) (a b : Name) → IsOne a ns → IsOne a (ns ++ b ∷ [])
  still_one [] a b one = absurd one
  still_one (n ∷ ns) a b (inl e) = inl e
  still_one (n ∷ ns) a b (inr h) = inr (still_one ns a b h)

  apart_of : (before : List Name) (a n : Name) → IsOne a before → list_any (are_same text n) before ≡ false → AreApart a n
  apart_of [] a n one e = absurd one
  apart_of (x ∷ before) a n one e = by one (are_same text n x) refl e (apart_of before a n)
    where
      same : x ≡ a → are_same text n x ≡ false → AreApart a n
      same is differ equal =
          let k : are_same text n x ≡ true = (bytes_eq-Decides (word text n) (word text x)).1 (sym equal ∙ ap (word text) (sym is)) in
          let f : true ≡ false = sym k ∙ differ in
          cc

      by : (x ≡ a) ⊎ IsOne a before → (b : Bool) → are_same text n x ≡ b → (b || list_any (are_same text n) before) ≡ false →
          (IsOne a before → list_any (are_same text n) before ≡ false → AreApart a n) → AreApart a n
      by one true is e deeper = absurd (cc)
      by (inl e) false is f deeper = same e is
      by (inr h) false is f deeper = deeper h f

  apart_from : (ns before : List Name) (a : Name) → IsOne a before → twice_after text before ns ≡ [] → Each (AreApart a) ns
  apart_from [] before a one none = tt
  apart_from (n ∷ ns) before a one none = (
    apart_of before a n one (is_new before n (none_left (declared_again text before n) (twice_after text (before ++ n ∷ []) ns) none)),
    apart_from ns (before ++ n ∷ []) a (still_one before a n one) (none_right (declared_again text before n) (twice_after text (before ++ n ∷ []) ns) none),
  )

  differ_after : (ns before : List Name) → twice_after text before ns ≡ [] → Differ ns
  differ_after [] before none = tt
  differ_after (n ∷ ns) before none =
      let rest = none_right (declared_again text before n) (twice_after text (before ++ n ∷ []) ns) none in
      (apart_from ns (before ++ n ∷ []) n (last_one before n) rest, differ_after ns (before ++ n ∷ []) rest)

  -- parts of such a list

  differ_front : (xs ys : List Name) → Differ (xs ++ ys) → Differ xs
  differ_front [] ys d = tt
  differ_front (x ∷ xs) ys d = (front (AreApart x) xs ys d.0, differ_front xs ys d.1)

  differ_back : (xs ys : List Name) → Differ (xs ++ ys) → Differ ys
  differ_back [] ys d = d
  differ_back (x ∷ xs) ys d = differ_back xs ys d.1

  differ_across : (xs ys : List Name) → Differ (xs ++ ys) → Each (λ x. Each (AreApart x) ys) xs
  differ_across [] ys d = tt
  differ_across (x ∷ xs) ys d = (back (AreApart x) xs ys d.0, differ_across xs ys d.1)

  differ_both : (xs ys : List Name) → Differ xs → Differ ys → Each (λ x. Each (AreApart x) ys) xs → Differ (xs ++ ys)
  differ_both [] ys a b c = b
  differ_both (x ∷ xs) ys a b c = (joined (AreApart x) xs ys a.0 c.0, differ_both xs ys a.1 b c.1)

  -- the names of types are some of all names
  abbrev pub type_names : List TypeDef → List Name
  type_names ds = map (λ (d : TypeDef). d.def.name) ds

  some_names : (P : Name → Type 0) (ds : List Decl) → Each P (declared_names ds) → Each P (type_names (type_defs ds))
  some_names P [] all = tt
  some_names P (decl.Consts p cs ∷ ds) all = some_names P ds (back P (names_in (decl.Consts p cs)) (declared_names ds) all)
  some_names P (decl.Types' p shape row ∷ ds) all =
      let ts = items-the_row-TypeDef _ row in
      subst (Each P) (sym (map-append (λ (d : TypeDef). d.def.name) ts (type_defs ds)))
      (joined P (type_names ts) (type_names (type_defs ds)) (front P (type_names ts) (declared_names ds) all) (some_names P ds (back P (type_names ts) (declared_names ds) all)))
  some_names P (decl.Vars' p shape row ∷ ds) all = some_names P ds (back P (names_in (decl.Vars' p shape row)) (declared_names ds) all)
  some_names P (decl.Proc' o shape row ∷ ds) all =
      some_names P ds (back P (names_in (decl.Proc' o shape row)) (declared_names ds) all)

  types_differ : (ds : List Decl) → Differ (declared_names ds) → Differ (type_names (type_defs ds))
  types_differ [] d = tt
  types_differ (decl.Consts p cs ∷ ds) d = types_differ ds (differ_back (names_in (decl.Consts p cs)) (declared_names ds) d)
  types_differ (decl.Types' p shape row ∷ ds) d =
      let ts = items-the_row-TypeDef _ row in
      subst Differ (sym (map-append (λ (d : TypeDef). d.def.name) ts (type_defs ds)))
      (differ_both (type_names ts) (type_names (type_defs ds)) (differ_front (type_names ts) (declared_names ds) d) (types_differ ds (differ_back (type_names ts) (declared_names ds) d))
      (implied (λ x. Each (AreApart x) (declared_names ds)) (λ x. Each (AreApart x) (type_names (type_defs ds))) (λ x all. some_names (AreApart x) ds all) (type_names ts)
      (differ_across (type_names ts) (declared_names ds) d)))
  types_differ (decl.Vars' p shape row ∷ ds) d = types_differ ds (differ_back (names_in (decl.Vars' p shape row)) (declared_names ds) d)
  types_differ (decl.Proc' o shape row ∷ ds) d =
      types_differ ds (differ_back (names_in (decl.Proc' o shape row)) (declared_names ds) d)

  -- definitions of types with one name are alike
  abbrev pub AreAlike : TypeDef → TypeDef → Type 0
  AreAlike d x = word text d.def.name ≡ word text x.def.name → d ≡ x

  alike_rest : (d : TypeDef) (ds : List TypeDef) → Each (AreApart d.def.name) (type_names ds) → Each (AreAlike d) ds
  alike_rest d [] apart = tt
  alike_rest d (x ∷ ds) apart = (λ same. absurd (apart.0 same), alike_rest d ds apart.1)

  add_alike : (d : TypeDef) (all ds : List TypeDef) → Each (AreApart d.def.name) (type_names ds) → Each (λ x. Each (AreAlike x) all) ds → Each (λ x. Each (AreAlike x) (d ∷ all)) ds
  add_alike d all [] apart each = tt
  add_alike d all (x ∷ ds) apart each = ((λ same. absurd (apart.0 (sym same)), each.0), add_alike d all ds apart.1 each.1)

  alike : (ds : List TypeDef) → Differ (type_names ds) → Each (λ d. Each (AreAlike d) ds) ds
  alike [] d = tt
  alike (x ∷ ds) d = ((λ same. refl, alike_rest x ds d.0), add_alike x ds ds d.0 (alike ds d.1))

  -- they have one place
  named_each : (P : Name → Type 0) (ds : List TypeDef) → Each P (type_names ds) → Each (λ (d : TypeDef). P d.def.name) ds
  named_each P [] all = tt
  named_each P (d ∷ ds) all = (all.0, named_each P ds all.1)

  apart_at : (a : Name) (ds : List TypeDef) (k : ℕ) (x : TypeDef) → Each (AreApart a) (type_names ds) → slice_get ds k ≡ Some x → AreApart a x.def.name
  apart_at a ds k x apart there = each_at (λ (d : TypeDef). AreApart a d.def.name) ds k x (named_each (AreApart a) ds apart) there

  pub place_once : (ds : List TypeDef) → Differ (type_names ds) → (j k : ℕ) (d x : TypeDef) → slice_get ds j ≡ Some d → slice_get ds k ≡ Some x →
      word text d.def.name ≡ word text x.def.name → j ≡ k
  place_once [] differ j k d x at there same = absurd (none-some d at)
  place_once (y ∷ ds) differ zero zero d x at there same = refl
  place_once (y ∷ ds) differ zero (suc k) d x at there same =
      absurd (apart_at y.def.name ds k x differ.0 there (ap (λ (z : TypeDef). word text z.def.name) (same_Some y d at) ∙ same))
  place_once (y ∷ ds) differ (suc j) zero d x at there same =
      absurd (apart_at y.def.name ds j d differ.0 at (ap (λ (z : TypeDef). word text z.def.name) (same_Some y x there) ∙ sym same))
  place_once (y ∷ ds) differ (suc j) (suc k) d x at there same = ap suc (place_once ds differ.1 j k d x at there same)

  -- The names of other declarations are no type's.

  type_named : (P : Name → Type 0) (x : Decl) (j : ℕ) (d : TypeDef) → Each P (names_in x) → slice_get (types_in x) j ≡ Some d → P d.def.name
  type_named P (decl.Consts p cs) j d all at = absurd (none-some d at)
  type_named P (decl.Types' p shape row) j d all at =
      let ts = items-the_row-TypeDef _ row in each_at (λ (d : TypeDef). P d.def.name) ts j d (named_each P ts all) at
  type_named P (decl.Vars' p shape row) j d all at = absurd (none-some d at)
  type_named P (decl.Proc' o shape row) j d all at = absurd (none-some d at)

  module _ (f : Decl → List Def) (some : (P : Name → Type 0) (x : Decl) → Each P (names_in x) → Each P (def_names (f x)))
      (none : (x : Decl) (j : ℕ) (d : TypeDef) → slice_get (types_in x) j ≡ Some d → f x ≡ []) where
    all_some : (P : Name → Type 0) (ds : List Decl) → Each P (declared_names ds) → Each P (def_names (flat_map f ds))
    all_some P [] all = tt
    all_some P (x ∷ ds) all =
        subst (Each P) (sym (map-append (λ (d : Def). d.name) (f x) (flat_map f ds)))
        (joined P (def_names (f x)) (def_names (flat_map f ds)) (some P x (front P (names_in x) (declared_names ds) all))
        (all_some P ds (back P (names_in x) (declared_names ds) all)))

    others_apart : (ds : List Decl) → Differ (declared_names ds) → (j : ℕ) (d : TypeDef) → slice_get (type_defs ds) j ≡ Some d →
        Each (AreApart d.def.name) (def_names (flat_map f ds))
    others_apart [] differ j d at = absurd (none-some d at)
    others_apart (x ∷ ds) differ j d at = by (cases_lt j (length (types_in x))) (others_apart ds (differ_back (names_in x) (declared_names ds) differ))
      where
        across : Each (λ n. Each (AreApart n) (declared_names ds)) (names_in x)
        across = differ_across (names_in x) (declared_names ds) differ

        apart_back : (k : ℕ) → slice_get (type_defs ds) k ≡ Some d → (n : Name) → Each (AreApart n) (declared_names ds) → AreApart d.def.name n
        apart_back k there n all same = apart_at n (type_defs ds) k d (some_names (AreApart n) ds all) there (sym same)

        by : (j < length (types_in x)) ⊎ (length (types_in x) ≤ j) →
            ((k : ℕ) (d : TypeDef) → slice_get (type_defs ds) k ≡ Some d → Each (AreApart d.def.name) (def_names (flat_map f ds))) →
            Each (AreApart d.def.name) (def_names (f x ++ flat_map f ds))
        by (inl low) more =
            let here = sym (get_below (types_in x) (type_defs ds) j low) ∙ at in
            subst (λ (vs : List Def). Each (AreApart d.def.name) (def_names (vs ++ flat_map f ds))) (sym (none x j d here))
            (all_some (AreApart d.def.name) ds (type_named (λ n. Each (AreApart n) (declared_names ds)) x j d across here))
        by (inr high) more =
            let k = j - length (types_in x) in
            let number : length (types_in x) + k ≡ j = omega (arith, high) in
            let there = sym (get_behind (types_in x) (type_defs ds) k) ∙ ap (slice_get (types_in x ++ type_defs ds)) number ∙ at in
            subst (Each (AreApart d.def.name)) (sym (map-append (λ (d : Def). d.name) (f x) (flat_map f ds)))
            (joined (AreApart d.def.name) (def_names (f x)) (def_names (flat_map f ds))
            (some (AreApart d.def.name) x (implied (λ n. Each (AreApart n) (declared_names ds)) (AreApart d.def.name) (apart_back k there) (names_in x) across))
            (more k d there))

  nothing_else : {A : Type 0} (d : TypeDef) → None ≡ Some d → A
  nothing_else d e = absurd (none-some d e)

  constant_names : (P : Name → Type 0) (x : Decl) → Each P (names_in x) → Each P (def_names (constants_in x))
  constant_names P (decl.Consts p cs) all = by cs all
    where
      by : (cs : List ConstDef) → Each P (map (λ (c : ConstDef). c.def.name) cs) → Each P (def_names (map (λ (c : ConstDef). c.def) cs))
      by [] all = tt
      by (c ∷ cs) all = (all.0, by cs all.1)
  constant_names P (decl.Types' p shape row) all = tt
  constant_names P (decl.Vars' p shape row) all = tt
  constant_names P (decl.Proc' o shape row) all = tt

  no_constants : (x : Decl) (j : ℕ) (d : TypeDef) → slice_get (types_in x) j ≡ Some d → constants_in x ≡ []
  no_constants (decl.Consts p cs) j d at = nothing_else d at
  no_constants (decl.Types' p shape row) j d at = refl
  no_constants (decl.Vars' p shape row) j d at = refl
  no_constants (decl.Proc' o shape row) j d at = refl

  variable_names : (P : Name → Type 0) (x : Decl) → Each P (names_in x) → Each P (def_names (singles_in x))
  variable_names P (decl.Consts p cs) all = tt
  variable_names P (decl.Types' p shape row) all = tt
  variable_names P (decl.Vars' p shape row) all = by (items-the_row-VarDef _ row) all
    where
      by : (vs : List VarDef) → Each P (flat_map (λ (v : VarDef). def_names v.defs) vs) → Each P (def_names (flat_map (λ (v : VarDef). v.defs) vs))
      by [] all = tt
      by (v ∷ vs) all =
          subst (Each P) (sym (map-append (λ (d : Def). d.name) v.defs (flat_map (λ (v : VarDef). v.defs) vs)))
          (joined P (def_names v.defs) (def_names (flat_map (λ (v : VarDef). v.defs) vs)) (front P (def_names v.defs) _ all) (by vs (back P (def_names v.defs) _ all)))
  variable_names P (decl.Proc' o shape row) all = tt

  no_variables : (x : Decl) (j : ℕ) (d : TypeDef) → slice_get (types_in x) j ≡ Some d → singles_in x ≡ []
  no_variables (decl.Consts p cs) j d at = refl
  no_variables (decl.Types' p shape row) j d at = refl
  no_variables (decl.Vars' p shape row) j d at = nothing_else d at
  no_variables (decl.Proc' o shape row) j d at = refl

  procedure_names : (P : Name → Type 0) (x : Decl) → Each P (names_in x) → Each P (def_names (procedures_in x))
  procedure_names P (decl.Consts p cs) all = tt
  procedure_names P (decl.Types' p shape row) all = tt
  procedure_names P (decl.Vars' p shape row) all = tt
  procedure_names P (decl.Proc' o shape row) all = all

  no_procedures : (x : Decl) (j : ℕ) (d : TypeDef) → slice_get (types_in x) j ≡ Some d → procedures_in x ≡ []
  no_procedures (decl.Consts p cs) j d at = refl
  no_procedures (decl.Types' p shape row) j d at = refl
  no_procedures (decl.Vars' p shape row) j d at = refl
  no_procedures (decl.Proc' o shape row) j d at = nothing_else d at

  -- the definition of a type with a place, in a scope with these imports and declarations
  pub record IsOneType (imports : List Name) (ds : List Decl) (j : ℕ) (d : TypeDef) : Type 0 where
    pub place : (k : ℕ) (x : TypeDef) → slice_get (type_defs ds) k ≡ Some x → word text x.def.name ≡ word text d.def.name → k ≡ j
    pub imported : Each (AreApart d.def.name) imports
    pub constants : Each (AreApart d.def.name) (def_names (constant_defs ds))
    pub variables : Each (AreApart d.def.name) (def_names (single_variables ds))
    pub procedures : Each (AreApart d.def.name) (def_names (procedure_defs ds))

  one_type : (imports : List Name) (ds : List Decl) → Differ (imports ++ declared_names ds) → (j : ℕ) (d : TypeDef) → slice_get (type_defs ds) j ≡ Some d → IsOneType imports ds j d
  one_type imports ds differ j d at =
      let own = differ_back imports (declared_names ds) differ in
      record {
        place = λ k x there same. place_once (type_defs ds) (types_differ ds own) k j x d there at same;
        imported = implied (λ n. Each (AreApart n) (declared_names ds)) (AreApart d.def.name)
            (λ n all same. apart_at n (type_defs ds) j d (some_names (AreApart n) ds all) at (sym same)) imports (differ_across imports (declared_names ds) differ);
        constants = others_apart constants_in constant_names no_constants ds own j d at;
        variables = others_apart singles_in variable_names no_variables ds own j d at;
        procedures = others_apart procedures_in procedure_names no_procedures ds own j d at;
      }

  -- in a scope that declares these names, behind others
  pub scope_alike : (others : List Name) (ds : List Decl) → twice text (others ++ declared_names ds) ≡ [] → Each (λ d. Each (AreAlike d) (type_defs ds)) (type_defs ds)
  scope_alike others ds none = alike (type_defs ds) (types_differ ds (differ_back others (declared_names ds) (differ_after (others ++ declared_names ds) [] none)))

  abbrev pub AreOnce : Procedure → Type 0
  AreOnce p = twice text (formal_names p.formals ++ declared_names p.decls) ≡ []

  once_in : (d : Decl) → within_decl text d ≡ [] → Each AreOnce (whole_procedures_in d)
  once_in (decl.Consts p cs) none = tt
  once_in (decl.Types' p shape row) none = tt
  once_in (decl.Vars' p shape row) none = tt
  once_in (decl.Proc' o shape row) none =
      let a = other_end text o.def.name o.end in
      let b = twice text (formal_names o.formals ++ declared_names (items-the_row-Decl _ row)) in
      (none_right a b (none_left (a ++ b) (within_decls text row) none), tt)

  once_all : (ds : List Decl) → flat_map (within_decl text) ds ≡ [] → Each AreOnce (procedures ds)
  once_all [] none = tt
  once_all (d ∷ ds) none =
      joined AreOnce (whole_procedures_in d) (procedures ds) (once_in d (none_left (within_decl text d) (flat_map (within_decl text) ds) none))
      (once_all ds (none_right (within_decl text d) (flat_map (within_decl text) ds) none))

  -- the same of the methods that types declare

  once_row : {n : _} (row : Row_of-Decl n) → within_decls text row ≡ [] → Each AreOnce (procedures (items-the_row-Decl n row))
  once_row end_of-Decl none = tt
  once_row (more_of-Decl d ds) none =
      joined AreOnce (whole_procedures_in d) (procedures (items-the_row-Decl _ ds)) (once_in d (none_left (within_decl text d) (within_decls text ds) none))
      (once_row ds (none_right (within_decl text d) (within_decls text ds) none))

  once_type : (def : Def) (of : TypeExpr) → within_type text (Some def.name) of ≡ [] → Each AreOnce (methods_in (record { def = def; value = of }))
  once_type def (type.Named q) none = tt
  once_type def (type.Array' p lengths shape row) none = tt
  once_type def (type.Record' p base shape row) none = tt
  once_type def (type.Pointer' p shape row) none = tt
  once_type def (type.Proc p flag formals) none = tt
  once_type def (type.Object' p base shape row body end) none =
      let a = twice text (declared_names (items-the_row-Decl _ row)) in
      once_row row (none_right a (within_decls text row) (none_left (a ++ within_decls text row) (object_end text (Some def.name) end) none))

  once_types : {n : _} (row : Row_of-TypeDef n) → within_types text row ≡ [] → Each AreOnce (flat_map methods_in (items-the_row-TypeDef n row))
  once_types end_of-TypeDef none = tt
  once_types (more_of-TypeDef def of ds) none =
      joined AreOnce (methods_in (record { def = def; value = of })) (flat_map methods_in (items-the_row-TypeDef _ ds))
      (once_type def of (none_left (within_type text (Some def.name) of) (within_types text ds) none))
      (once_types ds (none_right (within_type text (Some def.name) of) (within_types text ds) none))

  once_within : (d : Decl) → within_decl text d ≡ [] → Each AreOnce (flat_map methods_in (types_in d))
  once_within (decl.Consts p cs) none = tt
  once_within (decl.Types' p shape row) none = once_types row none
  once_within (decl.Vars' p shape row) none = tt
  once_within (decl.Proc' o shape row) none = tt

  methods_apart : (xs ys : List TypeDef) → flat_map methods_in (xs ++ ys) ≡ flat_map methods_in xs ++ flat_map methods_in ys
  methods_apart [] ys = refl
  methods_apart (x ∷ xs) ys =
      ap (λ z. methods_in x ++ z) (methods_apart xs ys) ∙ sym (append_assoc (methods_in x) (flat_map methods_in xs) (flat_map methods_in ys))

  once_methods : (ds : List Decl) → flat_map (within_decl text) ds ≡ [] → Each AreOnce (flat_map methods_in (type_defs ds))
  once_methods [] none = tt
  once_methods (d ∷ ds) none =
      subst (Each AreOnce) (sym (methods_apart (types_in d) (type_defs ds)))
      (joined AreOnce (flat_map methods_in (types_in d)) (flat_map methods_in (type_defs ds))
      (once_within d (none_left (within_decl text d) (flat_map (within_decl text) ds) none)) (once_methods ds (none_right (within_decl text d) (flat_map (within_decl text) ds) none)))

  -- the types that a type declares
  abbrev pub IsInnerAlike : TypeDef → Type 0
  IsInnerAlike d = Each (λ x. Each (AreAlike x) (type_defs (inner_decls d.value))) (type_defs (inner_decls d.value))

  inner_alike : (def : Def) (of : TypeExpr) → within_type text (Some def.name) of ≡ [] → IsInnerAlike (record { def = def; value = of })
  inner_alike def (type.Named q) none = tt
  inner_alike def (type.Array' p lengths shape row) none = tt
  inner_alike def (type.Record' p base shape row) none = tt
  inner_alike def (type.Pointer' p shape row) none = tt
  inner_alike def (type.Proc p flag formals) none = tt
  inner_alike def (type.Object' p base shape row body end) none =
      let a = twice text (declared_names (items-the_row-Decl _ row)) in
      scope_alike [] (items-the_row-Decl _ row) (none_left a (within_decls text row) (none_left (a ++ within_decls text row) (object_end text (Some def.name) end) none))

  inner_row : {n : _} (row : Row_of-TypeDef n) → within_types text row ≡ [] → Each IsInnerAlike (items-the_row-TypeDef n row)
  inner_row end_of-TypeDef none = tt
  inner_row (more_of-TypeDef def of ds) none = (
    inner_alike def of (none_left (within_type text (Some def.name) of) (within_types text ds) none),
    inner_row ds (none_right (within_type text (Some def.name) of) (within_types text ds) none),
  )

  inner_in : (d : Decl) → within_decl text d ≡ [] → Each IsInnerAlike (types_in d)
  inner_in (decl.Consts p cs) none = tt
  inner_in (decl.Types' p shape row) none = inner_row row none
  inner_in (decl.Vars' p shape row) none = tt
  inner_in (decl.Proc' o shape row) none = tt

  inner_all_alike : (ds : List Decl) → flat_map (within_decl text) ds ≡ [] → Each IsInnerAlike (type_defs ds)
  inner_all_alike [] none = tt
  inner_all_alike (d ∷ ds) none =
      joined IsInnerAlike (types_in d) (type_defs ds) (inner_in d (none_left (within_decl text d) (flat_map (within_decl text) ds) none))
      (inner_all_alike ds (none_right (within_decl text d) (flat_map (within_decl text) ds) none))

  -- of a module whose names are declared once
  within_none : (m : Module) → name_breaches text m ≡ [] → flat_map (within_decl text) m.decls ≡ []
  within_none m none =
      let a = declared_again text [] m.name in
      let b = twice text (module_names m) in
      let c = flat_map (within_decl text) m.decls in
      none_right (a ++ b) c (none_left ((a ++ b) ++ c) (other_end text m.name m.end) none)

  pub module_alike : (m : Module) → name_breaches text m ≡ [] → Each (λ d. Each (AreAlike d) (type_defs m.decls)) (type_defs m.decls)
  module_alike m none =
      let a = declared_again text [] m.name in
      let b = twice text (module_names m) in
      let c = flat_map (within_decl text) m.decls in
      scope_alike (map (λ i. i.name) m.imports) m.decls (none_right a b (none_left (a ++ b) c (none_left ((a ++ b) ++ c) (other_end text m.name m.end) none)))

  pub module_type : (m : Module) → name_breaches text m ≡ [] → (j : ℕ) (d : TypeDef) → slice_get (type_defs m.decls) j ≡ Some d →
      IsOneType (map (λ i. i.name) m.imports) m.decls j d
  module_type m none =
      let a = declared_again text [] m.name in
      let b = twice text (module_names m) in
      let c = flat_map (within_decl text) m.decls in
      one_type (map (λ i. i.name) m.imports) m.decls
      (differ_after (module_names m) [] (none_right a b (none_left (a ++ b) c (none_left ((a ++ b) ++ c) (other_end text m.name m.end) none))))

  pub inner_types_alike : (m : Module) → name_breaches text m ≡ [] → Each IsInnerAlike (type_defs m.decls)
  inner_types_alike m none = inner_all_alike m.decls (within_none m none)

  pub procedures_alike : (m : Module) → name_breaches text m ≡ [] → Each (λ (p : Procedure). Each (λ d. Each (AreAlike d) (type_defs p.decls)) (type_defs p.decls)) (all_procedures m.decls)
  procedures_alike m none =
      implied AreOnce (λ (p : Procedure). Each (λ d. Each (AreAlike d) (type_defs p.decls)) (type_defs p.decls)) (λ p once. scope_alike (formal_names p.formals) p.decls once)
      (all_procedures m.decls)
      (joined AreOnce (procedures m.decls) (flat_map methods_in (type_defs m.decls)) (once_all m.decls (within_none m none)) (once_methods m.decls (within_none m none)))
