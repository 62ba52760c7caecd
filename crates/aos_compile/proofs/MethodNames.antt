-- The names of a scope in which each is declared once: what its methods are, and what it finds.
use Rattle.std.proofs.Common.{◌≡◌, ℕ, zero, suc, ◌+◌, ◌≤◌, List, [], ◌∷◌, ◌++◌, map, Bool, true, false, cond, not, ◌||◌, codes, Option, Some, None, is_some, option_map, slice_get, if◌then◌else◌, refl, sym, ap, ap₂, ◌∙◌, subst, append-nil, append_assoc, arith}
use Rattle.std.specs.Prelude.{filter}
use Rattle.std.specs.List.{flat_map, list_any}
use Rattle.std.specs.Map.{lookup}
use Rattle.std.specs.Str.{bytes_eq}
use Rattle.std.proofs.lemmas.List.{map-append}
use Rattle.std.proofs.lemmas.Option.{none-some, same_Some}
use Rattle.std.proofs.lemmas.Slice.Eq.{bytes_eq-Decides}
use Rattle.aos_tree.specs.declared.name.Name.{Name}
use Rattle.aos_tree.specs.declared.decl.Def.{Def}
use Rattle.aos_tree.specs.declared.decl.VarDef.{VarDef}
use Rattle.aos_tree.specs.declared.decl.ConstDef.{ConstDef}
use Rattle.aos_tree.specs.declared.decl.TypeDef.{TypeDef}
use Rattle.aos_tree.specs.declared.decl.TypeExpr.{TypeExpr}
use Rattle.aos_tree.specs.declared.decl.TypeExpr.TheVariants as type
use Rattle.aos_tree.specs.declared.decl.Decl.{Decl, Row_of-TypeDef, end_of-TypeDef, more_of-TypeDef, items-the_row-TypeDef, items-the_row-VarDef, items-the_row-Decl}
use Rattle.aos_tree.specs.declared.decl.Decl.TheVariants as decl
use Rattle.aos_types.specs.declared.row.TypeId.{TypeId}
use Rattle.aos_symbols.specs.declared.scope.Entry.{Entry}
use Rattle.aos_symbols.specs.declared.scope.Meaning.TheVariants as means
use Rattle.aos_entries.specs.declared.entries.Sort.{Sort}
use Rattle.aos_entries.specs.declared.entries.Sort.TheVariants as sort
use Rattle.aos_symbols.specs.Spelling.{word, is_word, are_same}
use Rattle.aos_symbols.specs.Declarations.{def_names, constants_in, singles_in, procedures_in, types_in, constant_defs, type_defs, single_variables, procedure_defs, names_in, declared_names, inner_decls}
use Rattle.aos_entries.specs.Entries.{entry, numbered, types_from, other_entries}
use Rattle.aos_check_names.specs.Names.{declared_again, twice_after, twice, object_end, within_decl, within_decls, within_types, within_type}
use Rattle.aos_symbols.specs.Scope.{Named, Scope, empty, find, has, with_names, is_procedure, methods_of}
use Rattle.aos_symbols.proofs.Each.{Each, joined}
use Rattle.aos_symbols.proofs.Holds.{none_left, none_right, test_is}
use Rattle.aos_compile.proofs.Slots.{Word, index_in, words, has_is, is_in}

not_both : true ≡ false → ⊥
not_both e = cc

abbrev one : Bool → ℕ
one true = 1
one false = 0

-- how often a word stands in a list
abbrev pub copies : List Word → Word → ℕ
copies [] w = 0
copies (v ∷ vs) w = one (bytes_eq w v) + copies vs w

abbrev pub AreOnce : List Word → Type 0
AreOnce vs = (w : Word) → copies vs w ≤ 1

pub copies_both : (xs ys : List Word) (w : Word) → copies (xs ++ ys) w ≡ copies xs w + copies ys w
copies_both [] ys w = let same : copies ys w ≡ 0 + copies ys w = omega arith in same
copies_both (x ∷ xs) ys w = let more = copies_both xs ys w in omega (arith, more)

itself : (w : Word) → bytes_eq w w ≡ true
itself w = (bytes_eq-Decides w w).1 refl

index_copies : (vs : List Word) (w : Word) (k : ℕ) → index_in vs w ≡ Some k → 1 ≤ copies vs w
index_copies [] w k is = absurd (none-some k is)
index_copies (v ∷ vs) w k is = by (bytes_eq w v) is (index_copies vs w)
  where
    by : (b : Bool) → (if b then Some 0 else option_map suc (index_in vs w)) ≡ Some k → ((j : ℕ) → index_in vs w ≡ Some j → 1 ≤ copies vs w) → 1 ≤ one b + copies vs w
    by true is more = omega arith
    by false is more = deeper (index_in vs w) refl is
      where
        deeper : (o : Option ℕ) → index_in vs w ≡ o → option_map suc o ≡ Some k → 1 ≤ 0 + copies vs w
        deeper None there is = absurd (none-some k is)
        deeper (Some j) there is = let l = more j there in omega (arith, l)

in_copies : (vs : List Word) (w : Word) → is_in vs w ≡ true → 1 ≤ copies vs w
in_copies [] w is = absurd (not_both (sym is))
in_copies (v ∷ vs) w is = by (bytes_eq w v) is (in_copies vs w)
  where
    by : (b : Bool) → (b || is_in vs w) ≡ true → (is_in vs w ≡ true → 1 ≤ copies vs w) → 1 ≤ one b + copies vs w
    by true is more = omega arith
    by false is more = let l = more is in omega (arith, l)

pub get_copies : (vs : List Word) (i : ℕ) (w : Word) → slice_get vs i ≡ Some w → 1 ≤ copies vs w
get_copies [] i w is = absurd (none-some w is)
get_copies (v ∷ vs) zero w is =
    let same : bytes_eq w v ≡ true = (bytes_eq-Decides w v).1 (sym (same_Some v w is)) in
    let l = ap one same in omega (arith, l)
get_copies (v ∷ vs) (suc i) w is = let l = get_copies vs i w is in omega (arith, l)

-- a word isn't behind itself
pub once_first : (v : Word) (vs : List Word) → AreOnce (v ∷ vs) → is_in vs v ≡ false
once_first v vs once = by (is_in vs v) refl
  where
    by : (b : Bool) → is_in vs v ≡ b → is_in vs v ≡ false
    by false is = is
    by true is = let l = in_copies vs v is in let o = once v in let s = ap one (itself v) in absurd (omega (arith, l, o, s))

pub once_rest : (v : Word) (vs : List Word) → AreOnce (v ∷ vs) → AreOnce vs
once_rest v vs once w = let o = once w in omega (arith, o)

-- Names that are declared once are all there, in their order.

pub with_all : (ns : List Named) (s : Scope) → AreOnce (words (s.entries ++ ns)) → (with_names s ns).entries ≡ s.entries ++ ns
with_all [] s once = sym (append-nil s.entries)
with_all (n ∷ ns) s once = by (has s n.0) refl (with_all ns (record s { entries = s.entries ++ n ∷ [] }))
  where
    behind : s.entries ++ n ∷ ns ≡ (s.entries ++ n ∷ []) ++ ns
    behind = sym (append_assoc s.entries (n ∷ []) ns)

    twice_there : has s n.0 ≡ true → ⊥
    twice_there is = at (index_in (words s.entries) n.0) refl (sym (has_is s n.0) ∙ is)
      where
        at : (o : Option ℕ) → index_in (words s.entries) n.0 ≡ o → is_some o ≡ true → ⊥
        at None there some = not_both (sym some)
        at (Some k) there some =
            let l = index_copies (words s.entries) n.0 k there in
            let all : copies (words (s.entries ++ n ∷ ns)) n.0 ≡ copies (words s.entries) n.0 + (one (bytes_eq n.0 n.0) + copies (words ns) n.0) =
            ap (λ vs. copies vs n.0) (map-append (λ (m : Named). m.0) s.entries (n ∷ ns)) ∙ copies_both (words s.entries) (n.0 ∷ words ns) n.0 in
            let o = once n.0 in
            let me = ap one (itself n.0) in
            omega (arith, l, all, o, me)

    by : (b : Bool) → has s n.0 ≡ b →
        (AreOnce (words ((s.entries ++ n ∷ []) ++ ns)) → (with_names (record s { entries = s.entries ++ n ∷ [] }) ns).entries ≡ (s.entries ++ n ∷ []) ++ ns) →
        (with_names s (n ∷ ns)).entries ≡ s.entries ++ n ∷ ns
    by true is deeper = absurd (twice_there is)
    by false is deeper =
        ap (λ b. (with_names (if b then s else record s { entries = s.entries ++ n ∷ [] }) ns).entries) is
        ∙ deeper (λ w. subst (λ l. copies (words l) w ≤ 1) behind (once w))
        ∙ sym behind

-- each is found
pub found_at : (ns : List Named) (i : ℕ) (n : Named) → AreOnce (words ns) → slice_get ns i ≡ Some n → lookup (λ k. bytes_eq n.0 k) ns ≡ Some n.1
found_at [] i n once there = absurd (none-some n there)
found_at (m ∷ ns) zero n once there =
    let same = same_Some m n there in
    subst (λ (x : Named). lookup (λ k. bytes_eq x.0 k) (m ∷ ns) ≡ Some x.1) same (ap (λ b. cond b (Some m.1) (lookup (λ k. bytes_eq m.0 k) ns)) (itself m.0))
found_at (m ∷ ns) (suc i) n once there =
    ap (λ b. cond b (Some m.1) (lookup (λ k. bytes_eq n.0 k) ns)) (by (bytes_eq n.0 m.0) refl) ∙ found_at ns i n (once_rest m.0 (words ns) once) there
  where
    name_there : (ns : List Named) (i : ℕ) → slice_get ns i ≡ Some n → slice_get (words ns) i ≡ Some n.0
    name_there [] i is = absurd (none-some n is)
    name_there (x ∷ xs) zero is = ap (λ (z : Named). Some z.0) (same_Some x n is)
    name_there (x ∷ xs) (suc i) is = name_there xs i is

    by : (b : Bool) → bytes_eq n.0 m.0 ≡ b → bytes_eq n.0 m.0 ≡ false
    by false is = is
    by true is =
        let l = get_copies (words ns) i n.0 (name_there ns i there) in
        let o = once n.0 in
        let s = ap one is in absurd (omega (arith, l, o, s))

abbrev pub methods_in : List Named → List Named
methods_in ns = filter (λ n. is_procedure n.1.means) ns

-- a method that is found is one of the methods
pub found_in : (ns : List Named) (w : Word) (x : Entry) → lookup (λ k. bytes_eq w k) ns ≡ Some x → is_procedure x.means ≡ true → is_in (words (methods_in ns)) w ≡ true
found_in [] w x found is = absurd (none-some x found)
found_in (n ∷ ns) w x found is = by (bytes_eq w n.0) refl found (is_procedure n.1.means) refl (found_in ns w x)
  where
    by : (b : Bool) → bytes_eq w n.0 ≡ b → cond b (Some n.1) (lookup (λ k. bytes_eq w k) ns) ≡ Some x → (c : Bool) → is_procedure n.1.means ≡ c →
        (lookup (λ k. bytes_eq w k) ns ≡ Some x → is_procedure x.means ≡ true → is_in (words (methods_in ns)) w ≡ true) →
        is_in (words (cond c (n ∷ methods_in ns) (methods_in ns))) w ≡ true
    by true same found true method more = ap (λ b. b || is_in (words (methods_in ns)) w) same
    by true same found false method more = absurd (not_both (sym (ap (λ (y : Entry). is_procedure y.means) (same_Some n.1 x found) ∙ is) ∙ method))
    by false other found true method more = ap (λ b. b || is_in (words (methods_in ns)) w) other ∙ more found is
    by false other found false method more = more found is

filter_both : (xs ys : List Named) → methods_in (xs ++ ys) ≡ methods_in xs ++ methods_in ys
filter_both [] ys = refl
filter_both (x ∷ xs) ys = by (is_procedure x.1.means) (filter_both xs ys)
  where
    by : (b : Bool) → methods_in (xs ++ ys) ≡ methods_in xs ++ methods_in ys →
        cond b (x ∷ methods_in (xs ++ ys)) (methods_in (xs ++ ys)) ≡ cond b (x ∷ methods_in xs) (methods_in xs) ++ methods_in ys
    by true more = ap (λ l. x ∷ l) more
    by false more = more

-- fewer names stand no oftener
pub filter_copies : (ns : List Named) (w : Word) → copies (words (methods_in ns)) w ≤ copies (words ns) w
filter_copies [] w = omega arith
filter_copies (n ∷ ns) w = by (is_procedure n.1.means) (filter_copies ns w)
  where
    by : (c : Bool) → copies (words (methods_in ns)) w ≤ copies (words ns) w → copies (words (cond c (n ∷ methods_in ns) (methods_in ns))) w ≤ one (bytes_eq w n.0) + copies (words ns) w
    by true l = omega (arith, l)
    by false l = omega (arith, l)

-- The names within an object type.

module _ (text : List ℕ) where
  abbrev spelled : List Name → List Word
  spelled ns = map (word text) ns

  abbrev defs_spelled : List Def → List Word
  defs_spelled ds = map (λ (d : Def). word text d.name) ds

  abbrev types_spelled : List TypeDef → List Word
  types_spelled ds = map (λ (d : TypeDef). word text d.def.name) ds

  counted : (before : List Name) (n : Name) → list_any (are_same text n) before ≡ false → copies (spelled before) (word text n) ≡ 0
  counted [] n none = refl
  counted (b ∷ before) n none = by (are_same text n b) refl none (counted before n)
    where
      by : (c : Bool) → are_same text n b ≡ c → (c || list_any (are_same text n) before) ≡ false → (list_any (are_same text n) before ≡ false → copies (spelled before) (word text n) ≡ 0) →
          one (bytes_eq (word text n) (word text b)) + copies (spelled before) (word text n) ≡ 0
      by true is none more = absurd (not_both none)
      by false is none more = let l = more none in let o : one (bytes_eq (word text n) (word text b)) ≡ 0 = ap one is in omega (arith, l, o)

  is_new : (before : List Name) (n : Name) → declared_again text before n ≡ [] → list_any (are_same text n) before ≡ false
  is_new before n none = by (is_word text (codes "SELF") n) (list_any (are_same text n) before) (test_is (not (is_word text (codes "SELF") n || list_any (are_same text n) before)) 13 n.pos none)
    where
      by : (a b : Bool) → not (a || b) ≡ true → b ≡ false
      by true b e = absurd (not_both (sym e))
      by false true e = absurd (not_both (sym e))
      by false false e = refl

  once_after : (ns before : List Name) → twice_after text before ns ≡ [] → AreOnce (spelled before) → AreOnce (spelled (before ++ ns))
  once_after [] before none once w = subst (λ l. copies (spelled l) w ≤ 1) (sym (append-nil before)) (once w)
  once_after (n ∷ ns) before none once w =
      subst (λ l. copies (spelled l) w ≤ 1) (append_assoc before (n ∷ []) ns)
      (once_after ns (before ++ n ∷ []) (none_right (declared_again text before n) (twice_after text (before ++ n ∷ []) ns) none) more w)
    where
      new : copies (spelled before) (word text n) ≡ 0
      new = counted before n (is_new before n (none_left (declared_again text before n) (twice_after text (before ++ n ∷ []) ns) none))

      more : AreOnce (spelled (before ++ n ∷ []))
      more v = subst (λ l. copies l v ≤ 1) (sym (map-append (word text) before (n ∷ []))) (by (bytes_eq v (word text n)) refl)
        where
          all : copies (spelled before ++ word text n ∷ []) v ≡ copies (spelled before) v + (one (bytes_eq v (word text n)) + 0)
          all = copies_both (spelled before) (word text n ∷ []) v

          by : (b : Bool) → bytes_eq v (word text n) ≡ b → copies (spelled before ++ word text n ∷ []) v ≤ 1
          by true same =
              let none : copies (spelled before) v ≡ 0 = ap (copies (spelled before)) ((bytes_eq-Decides v (word text n)).0 same) ∙ new in
              let o : one (bytes_eq v (word text n)) ≡ 1 = ap one same in
              let a = all in omega (arith, none, o, a)
          by false other =
              let l = once v in let o : one (bytes_eq v (word text n)) ≡ 0 = ap one other in let a = all in omega (arith, l, o, a)

  pub names_once : (ns : List Name) → twice text ns ≡ [] → AreOnce (spelled ns)
  names_once ns none = once_after ns [] none (λ w. omega arith)

  -- the names of all declarations by their sorts

  spelled_both : (xs ys : List Name) (w : Word) → copies (spelled (xs ++ ys)) w ≡ copies (spelled xs) w + copies (spelled ys) w
  spelled_both xs ys w = ap (λ l. copies l w) (map-append (word text) xs ys) ∙ copies_both (spelled xs) (spelled ys) w

  defs_both : (xs ys : List Def) (w : Word) → copies (defs_spelled (xs ++ ys)) w ≡ copies (defs_spelled xs) w + copies (defs_spelled ys) w
  defs_both xs ys w = ap (λ l. copies l w) (map-append (λ (d : Def). word text d.name) xs ys) ∙ copies_both (defs_spelled xs) (defs_spelled ys) w

  types_both : (xs ys : List TypeDef) (w : Word) → copies (types_spelled (xs ++ ys)) w ≡ copies (types_spelled xs) w + copies (types_spelled ys) w
  types_both xs ys w = ap (λ l. copies l w) (map-append (λ (d : TypeDef). word text d.def.name) xs ys) ∙ copies_both (types_spelled xs) (types_spelled ys) w

  consts_spelled : (cs : List ConstDef) → spelled (map (λ (c : ConstDef). c.def.name) cs) ≡ defs_spelled (map (λ (c : ConstDef). c.def) cs)
  consts_spelled [] = refl
  consts_spelled (c ∷ cs) = ap (λ l. word text c.def.name ∷ l) (consts_spelled cs)

  types_are : (ds : List TypeDef) → spelled (map (λ (d : TypeDef). d.def.name) ds) ≡ types_spelled ds
  types_are [] = refl
  types_are (d ∷ ds) = ap (λ l. word text d.def.name ∷ l) (types_are ds)

  defs_are : (ds : List Def) → spelled (def_names ds) ≡ defs_spelled ds
  defs_are [] = refl
  defs_are (d ∷ ds) = ap (λ l. word text d.name ∷ l) (defs_are ds)

  variables_are : (vs : List VarDef) (w : Word) → copies (spelled (flat_map (λ (v : VarDef). def_names v.defs) vs)) w ≡ copies (defs_spelled (flat_map (λ (v : VarDef). v.defs) vs)) w
  variables_are [] w = refl
  variables_are (v ∷ vs) w =
      spelled_both (def_names v.defs) (flat_map (λ (v : VarDef). def_names v.defs) vs) w
      ∙ ap₂ (λ m n. m + n) (ap (λ l. copies l w) (defs_are v.defs)) (variables_are vs w)
      ∙ sym (defs_both v.defs (flat_map (λ (v : VarDef). v.defs) vs) w)

  abbrev of_sorts : List Decl → Word → ℕ
  of_sorts ds w =
      copies (types_spelled (type_defs ds)) w + (copies (defs_spelled (constant_defs ds)) w + (copies (defs_spelled (single_variables ds)) w + copies (defs_spelled (procedure_defs ds)) w))

  abbrev in_sorts : Decl → Word → ℕ
  in_sorts d w =
      copies (types_spelled (types_in d)) w + (copies (defs_spelled (constants_in d)) w + (copies (defs_spelled (singles_in d)) w + copies (defs_spelled (procedures_in d)) w))

  decl_sorts : (d : Decl) (w : Word) → copies (spelled (names_in d)) w ≡ in_sorts d w
  decl_sorts (decl.Consts p cs) w = let same = ap (λ l. copies l w) (consts_spelled cs) in omega (arith, same)
  decl_sorts (decl.Types' p shape row) w = let same = ap (λ l. copies l w) (types_are (items-the_row-TypeDef _ row)) in omega (arith, same)
  decl_sorts (decl.Vars' p shape row) w = let same = variables_are (items-the_row-VarDef _ row) w in omega (arith, same)
  decl_sorts (decl.Proc' o shape row) w = omega arith

  all_sorts : (ds : List Decl) (w : Word) → copies (spelled (declared_names ds)) w ≡ of_sorts ds w
  all_sorts [] w = refl
  all_sorts (d ∷ ds) w =
      let a = spelled_both (names_in d) (declared_names ds) w in
      let b = decl_sorts d w in
      let c = all_sorts ds w in
      let e = types_both (types_in d) (type_defs ds) w in
      let f = defs_both (constants_in d) (constant_defs ds) w in
      let g = defs_both (singles_in d) (single_variables ds) w in
      let h = defs_both (procedures_in d) (procedure_defs ds) w in
      omega (arith, a, b, c, e, f, g, h)

  -- The scope of an object type.

  numbered_words : (of : Sort) (k : ℕ) (ds : List Def) → words (numbered text of k ds) ≡ defs_spelled ds
  numbered_words of k [] = refl
  numbered_words of k (d ∷ ds) = ap (λ l. word text d.name ∷ l) (numbered_words of (suc k) ds)

  inner_words : (numbers : List (Option TypeId)) (k : ℕ) (ds : List TypeDef) → words (types_from text numbers k ds) ≡ types_spelled ds
  inner_words numbers k [] = refl
  inner_words numbers k (d ∷ ds) = ap (λ l. word text d.def.name ∷ l) (inner_words numbers (suc k) ds)

  -- where the first type has this place among the numbers
  abbrev pub names_within : List (Option TypeId) → ℕ → List Decl → List Named
  names_within numbers k ds = types_from text numbers k (type_defs ds) ++ other_entries text ds

  within_once : (numbers : List (Option TypeId)) (k : ℕ) (ds : List Decl) → twice text (declared_names ds) ≡ [] → AreOnce (words (names_within numbers k ds))
  within_once numbers k ds none w =
      let ts = types_from text numbers k (type_defs ds) in
      let cs = numbered text sort.Constant 0 (constant_defs ds) in
      let vs = numbered text sort.Variable 0 (single_variables ds) in
      let ps = numbered text sort.Procedure 0 (procedure_defs ds) in
      let a = ap (λ l. copies l w) (map-append (λ (n : Named). n.0) ts ((cs ++ vs) ++ ps)) ∙ copies_both (words ts) (words ((cs ++ vs) ++ ps)) w in
      let b = ap (λ l. copies l w) (map-append (λ (n : Named). n.0) (cs ++ vs) ps) ∙ copies_both (words (cs ++ vs)) (words ps) w in
      let c = ap (λ l. copies l w) (map-append (λ (n : Named). n.0) cs vs) ∙ copies_both (words cs) (words vs) w in
      let d = ap (λ l. copies l w) (inner_words numbers k (type_defs ds)) in
      let e = ap (λ l. copies l w) (numbered_words sort.Constant 0 (constant_defs ds)) in
      let f = ap (λ l. copies l w) (numbered_words sort.Variable 0 (single_variables ds)) in
      let g = ap (λ l. copies l w) (numbered_words sort.Procedure 0 (procedure_defs ds)) in
      let all = all_sorts ds w in
      let once = names_once (declared_names ds) none w in
      omega (arith, a, b, c, d, e, f, g, all, once)

  types_no : (numbers : List (Option TypeId)) (k : ℕ) (ds : List TypeDef) → methods_in (types_from text numbers k ds) ≡ []
  types_no numbers k [] = refl
  types_no numbers k (d ∷ ds) = types_no numbers (suc k) ds

  constants_no : (k : ℕ) (ds : List Def) → methods_in (numbered text sort.Constant k ds) ≡ []
  constants_no k [] = refl
  constants_no k (d ∷ ds) = constants_no (suc k) ds

  variables_no : (k : ℕ) (ds : List Def) → methods_in (numbered text sort.Variable k ds) ≡ []
  variables_no k [] = refl
  variables_no k (d ∷ ds) = variables_no (suc k) ds

  procedures_all : (k : ℕ) (ds : List Def) → methods_in (numbered text sort.Procedure k ds) ≡ numbered text sort.Procedure k ds
  procedures_all k [] = refl
  procedures_all k (d ∷ ds) = ap (λ l. entry text d (means.Procedure k) ∷ l) (procedures_all (suc k) ds)

  methods_within : (numbers : List (Option TypeId)) (k : ℕ) (ds : List Decl) → methods_in (names_within numbers k ds) ≡ numbered text sort.Procedure 0 (procedure_defs ds)
  methods_within numbers k ds =
      let ts = types_from text numbers k (type_defs ds) in
      let cs = numbered text sort.Constant 0 (constant_defs ds) in
      let vs = numbered text sort.Variable 0 (single_variables ds) in
      let ps = numbered text sort.Procedure 0 (procedure_defs ds) in
      filter_both ts ((cs ++ vs) ++ ps)
      ∙ ap₂ (λ a b. a ++ b) (types_no numbers k (type_defs ds))
      (filter_both (cs ++ vs) ps
      ∙ ap₂ (λ a b. a ++ b) (filter_both cs vs ∙ ap₂ (λ a b. a ++ b) (constants_no 0 (constant_defs ds)) (variables_no 0 (single_variables ds))) (procedures_all 0 (procedure_defs ds)))

  -- what a scope with the names of these declarations has
  pub record IsInner (ds : List Decl) (s : Scope) : Type 0 where
    pub once : AreOnce (words s.entries)
    pub methods : methods_of s ≡ numbered text sort.Procedure 0 (procedure_defs ds)
    pub found : (i : ℕ) (d : Def) → slice_get (procedure_defs ds) i ≡ Some d → find s (word text d.name) ≡ Some (entry text d (means.Procedure i)).1
    pub only : (w : Word) (x : Entry) → find s w ≡ Some x → is_procedure x.means ≡ true → is_in (words (methods_of s)) w ≡ true

  numbered_get : (k : ℕ) (ds : List Def) (i : ℕ) (d : Def) → slice_get ds i ≡ Some d → slice_get (numbered text sort.Procedure k ds) i ≡ Some (entry text d (means.Procedure (k + i)))
  numbered_get k [] i d is = absurd (none-some d is)
  numbered_get k (x ∷ ds) zero d is = ap₂ (λ (z : Def) j. Some (entry text z (means.Procedure j))) (same_Some x d is) (let same : k ≡ k + 0 = omega arith in same)
  numbered_get k (x ∷ ds) (suc i) d is =
      numbered_get (suc k) ds i d is ∙ ap (λ j. Some (entry text d (means.Procedure j))) (let same : suc k + i ≡ k + suc i = omega arith in same)

  in_filter : (ns : List Named) (i : ℕ) (n : Named) → slice_get (methods_in ns) i ≡ Some n → (j : ℕ) × (slice_get ns j ≡ Some n)
  in_filter [] i n is = absurd (none-some n is)
  in_filter (m ∷ ns) i n is = by (is_procedure m.1.means) i is (λ k. in_filter ns k n)
    where
      by : (b : Bool) (i : ℕ) → slice_get (cond b (m ∷ methods_in ns) (methods_in ns)) i ≡ Some n → ((k : ℕ) → slice_get (methods_in ns) k ≡ Some n → (j : ℕ) × (slice_get ns j ≡ Some n)) →
          (j : ℕ) × (slice_get (m ∷ ns) j ≡ Some n)
      by true zero is deeper = (0, is)
      by true (suc i) is deeper = let found = deeper i is in (suc found.0, found.1)
      by false i is deeper = let found = deeper i is in (suc found.0, found.1)

  pub is_inner : (numbers : List (Option TypeId)) (k : ℕ) (ds : List Decl) (s : Scope) → twice text (declared_names ds) ≡ [] →
      s.entries ≡ (with_names empty (names_within numbers k ds)).entries → IsInner ds s
  is_inner numbers k ds s none same =
      let ns = names_within numbers k ds in
      let once = within_once numbers k ds none in
      let all : s.entries ≡ ns = same ∙ with_all ns empty once in
      let methods = ap methods_in all ∙ methods_within numbers k ds in
      record {
        once = λ w. subst (λ l. copies (words l) w ≤ 1) (sym all) (once w);
        methods = methods;
        found = λ i d there.
            let at : slice_get (methods_in ns) i ≡ Some (entry text d (means.Procedure i)) = ap (λ l. slice_get l i) (methods_within numbers k ds) ∙ numbered_get 0 (procedure_defs ds) i d there
            ∙ ap (λ k. Some (entry text d (means.Procedure k))) (let same : 0 + i ≡ i = omega arith in same) in
            let j = in_filter ns i (entry text d (means.Procedure i)) at in
            ap (lookup (λ k. bytes_eq (word text d.name) k)) all ∙ found_at ns j.0 (entry text d (means.Procedure i)) once j.1;
        only = λ w x found is. found_in s.entries w x found is;
      }

  -- Each type's names are declared once.

  abbrev pub AreOnceIn : TypeDef → Type 0
  AreOnceIn d = twice text (declared_names (inner_decls d.value)) ≡ []

  once_type : (name : Option Name) (of : TypeExpr) → within_type text name of ≡ [] → twice text (declared_names (inner_decls of)) ≡ []
  once_type name (type.Named q) none = refl
  once_type name (type.Array' p lengths shape row) none = refl
  once_type name (type.Record' p base shape row) none = refl
  once_type name (type.Pointer' p shape row) none = refl
  once_type name (type.Proc p flag formals) none = refl
  once_type name (type.Object' p base shape row body end) none =
      let a = twice text (declared_names (items-the_row-Decl _ row)) in
      none_left a (within_decls text row) (none_left (a ++ within_decls text row) (object_end text name end) none)

  once_types : {n : _} (row : Row_of-TypeDef n) → within_types text row ≡ [] → Each AreOnceIn (items-the_row-TypeDef n row)
  once_types end_of-TypeDef none = tt
  once_types (more_of-TypeDef def of ds) none = (
    once_type (Some def.name) of (none_left (within_type text (Some def.name) of) (within_types text ds) none),
    once_types ds (none_right (within_type text (Some def.name) of) (within_types text ds) none),
  )

  once_in : (d : Decl) → within_decl text d ≡ [] → Each AreOnceIn (types_in d)
  once_in (decl.Consts p cs) none = tt
  once_in (decl.Types' p shape row) none = once_types row none
  once_in (decl.Vars' p shape row) none = tt
  once_in (decl.Proc' o shape row) none = tt

  pub types_once : (ds : List Decl) → flat_map (within_decl text) ds ≡ [] → Each AreOnceIn (type_defs ds)
  types_once [] none = tt
  types_once (d ∷ ds) none =
      joined AreOnceIn (types_in d) (type_defs ds) (once_in d (none_left (within_decl text d) (flat_map (within_decl text) ds) none))
      (types_once ds (none_right (within_decl text d) (flat_map (within_decl text) ds) none))
