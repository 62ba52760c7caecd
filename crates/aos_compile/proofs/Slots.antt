-- The slots of methods by their names: a list of names, each of which stands once, beside a table of what stands in their slots. Where the
-- own methods of a type are put in the table of its base's, each by the place of its name among all, names and table go on together.
use Rattle.std.proofs.Common.{◌≡◌, ℕ, zero, suc, ◌+◌, ◌<◌, ◌≤◌, ◌⊎◌, inl, inr, List, [], ◌∷◌, ◌++◌, length, map, fold, Bool, true, false, cond, not, ◌||◌, Option, Some, None, is_some, option_map, slice_get, slice_set, nat_lt, if◌then◌else◌, refl, sym, ap, ◌∙◌, subst, lt-ltb, le-ltb, length-append, arith}
use Rattle.std.specs.List.{position, prefix_len}
use Rattle.std.specs.Map.{lookup}
use Rattle.std.specs.Str.{bytes_eq}
use Rattle.std.proofs.lemmas.Bool.{cases_lt}
use Rattle.std.proofs.lemmas.Option.{none-some, same_Some}
use Rattle.std.proofs.lemmas.Slice.Eq.{bytes_eq-Decides}
use Rattle.aos_typed.specs.Methods.{put_at, slot_of}
use Rattle.aos_typed.specs.Program.{Procedure, Method, Program}
use Rattle.aos_typed.specs.WellTyped.{Overrides, AreSlots}
use Rattle.aos_symbols.specs.Scope.{Named, Scope, has, with_name, with_names}
use Rattle.aos_symbols.proofs.Told.{get_front, get_end}
use Rattle.aos_check_types.proofs.TypingLists.{set_here, set_other}

abbrev pub Word : Type 0
Word = List ℕ

-- where a word stands first
abbrev pub index_in : List Word → Word → Option ℕ
index_in [] w = None
index_in (v ∷ vs) w = if bytes_eq w v then Some 0 else option_map suc (index_in vs w)

-- with a word more, which stands there or comes behind
abbrev pub more : List Word → Word → List Word
more ws w = if is_some (index_in ws w) then ws else ws ++ w ∷ []

abbrev pub words : List Named → List Word
words ns = map (λ n. n.0) ns

no_suc : (o : Option ℕ) → option_map suc o ≡ Some 0 → ⊥
no_suc None e = cc
no_suc (Some k) e = cc

suc_of : (o : Option ℕ) (k : ℕ) → option_map suc o ≡ Some k → (j : ℕ) × (o ≡ Some j) × (k ≡ suc j)
suc_of None k e = absurd (none-some k e)
suc_of (Some j) k e = (j, refl, sym (same_Some (suc j) k e))

none_of : (o : Option ℕ) → option_map suc o ≡ None → o ≡ None
none_of None e = refl
none_of (Some j) e = absurd (none-some (suc j) (sym e))

-- A place of a word as it is said elsewhere.

pub index_is : (w : Word) (vs : List Word) → position (λ k. bytes_eq w k) vs ≡ index_in vs w
index_is w [] = refl
index_is w (v ∷ vs) = by (bytes_eq w v) (index_is w vs)
  where
    behind : (n m : ℕ) → cond (nat_lt (1 + n) (suc m)) (Some (1 + n)) None ≡ option_map suc (cond (nat_lt n m) (Some n) None)
    behind n m = each (cases_lt n m)
      where
        each : (n < m) ⊎ (m ≤ n) → cond (nat_lt (1 + n) (suc m)) (Some (1 + n)) None ≡ option_map suc (cond (nat_lt n m) (Some n) None)
        each (inl less) =
            ap (λ b. cond b (Some (1 + n)) None) (lt-ltb (1 + n) (suc m) (omega (arith, less)))
            ∙ ap (λ k. Some k) (let one : 1 + n ≡ suc n = omega arith in one)
            ∙ sym (ap (λ b. option_map suc (cond b (Some n) None)) (lt-ltb n m less))
        each (inr past) =
            ap (λ b. cond b (Some (1 + n)) None) (le-ltb (1 + n) (suc m) (omega (arith, past)))
            ∙ sym (ap (λ b. option_map suc (cond b (Some n) None)) (le-ltb n m past))

    by : (b : Bool) → position (λ k. bytes_eq w k) vs ≡ index_in vs w →
        cond (nat_lt (cond (not b) (1 + prefix_len (λ k. not (bytes_eq w k)) vs) 0) (suc (length vs))) (Some (cond (not b) (1 + prefix_len (λ k. not (bytes_eq w k)) vs) 0)) None
        ≡ (if b then Some 0 else option_map suc (index_in vs w))
    by true same = ap (λ b. cond b (Some 0) None) (lt-ltb 0 (suc (length vs)) (omega arith))
    by false same = behind (prefix_len (λ k. not (bytes_eq w k)) vs) (length vs) ∙ ap (option_map suc) same

pub has_is : (s : Scope) (w : Word) → has s w ≡ is_some (index_in (words s.entries) w)
has_is s w = by s.entries
  where
    by : (ns : List Named) → is_some (lookup (λ k. bytes_eq w k) ns) ≡ is_some (index_in (words ns) w)
    by [] = refl
    by (n ∷ ns) = each (bytes_eq w n.0) (by ns)
      where
        still : (o : Option ℕ) → is_some o ≡ is_some (option_map suc o)
        still None = refl
        still (Some k) = refl

        each : (b : Bool) → is_some (lookup (λ k. bytes_eq w k) ns) ≡ is_some (index_in (words ns) w) →
            is_some (cond b (Some n.1) (lookup (λ k. bytes_eq w k) ns)) ≡ is_some (if b then Some 0 else option_map suc (index_in (words ns) w))
        each true same = refl
        each false same = same ∙ still (index_in (words ns) w)

words_more : (es : List Named) (n : Named) → words (es ++ n ∷ []) ≡ words es ++ n.0 ∷ []
words_more [] n = refl
words_more (e ∷ es) n = ap (λ l. e.0 ∷ l) (words_more es n)

pub name_more : (s : Scope) (n : Named) → words (with_name s n).entries ≡ more (words s.entries) n.0
name_more s n = by (has s n.0) (has_is s n.0)
  where
    by : (b : Bool) → b ≡ is_some (index_in (words s.entries) n.0) → words (if b then s else record s { entries = s.entries ++ n ∷ [] }).entries ≡ more (words s.entries) n.0
    by true is = ap (λ c. if c then words s.entries else words s.entries ++ n.0 ∷ []) is
    by false is = words_more s.entries n ∙ ap (λ c. if c then words s.entries else words s.entries ++ n.0 ∷ []) is

pub names_more : (ns : List Named) (s : Scope) → words (with_names s ns).entries ≡ fold more (words s.entries) (words ns)
names_more [] s = refl
names_more (n ∷ ns) s = names_more ns (with_name s n) ∙ ap (λ l. fold more l (words ns)) (name_more s n)

-- Places stay where words come behind.

pub index_below : (ws : List Word) (w : Word) (k : ℕ) → index_in ws w ≡ Some k → k < length ws
index_below [] w k e = absurd (none-some k e)
index_below (v ∷ vs) w k e = by (bytes_eq w v) (index_below vs w) e
  where
    by : (b : Bool) → ((j : ℕ) → index_in vs w ≡ Some j → j < length vs) → (if b then Some 0 else option_map suc (index_in vs w)) ≡ Some k → k < suc (length vs)
    by true below e = let is = same_Some 0 k e in omega (arith, is)
    by false below e = let one = suc_of (index_in vs w) k e in let less = below one.0 one.1 in let is = one.2 in omega (arith, less, is)

index_front : (ws xs : List Word) (w : Word) (k : ℕ) → index_in ws w ≡ Some k → index_in (ws ++ xs) w ≡ Some k
index_front [] xs w k e = absurd (none-some k e)
index_front (v ∷ vs) xs w k e = by (bytes_eq w v) (index_front vs xs w) e
  where
    by : (b : Bool) → ((j : ℕ) → index_in vs w ≡ Some j → index_in (vs ++ xs) w ≡ Some j) → (if b then Some 0 else option_map suc (index_in vs w)) ≡ Some k →
        (if b then Some 0 else option_map suc (index_in (vs ++ xs) w)) ≡ Some k
    by true stays e = e
    by false stays e = let one = suc_of (index_in vs w) k e in ap (option_map suc) (stays one.0 one.1) ∙ ap (λ n. Some n) (sym one.2)

index_end : (ws : List Word) (w : Word) → index_in ws w ≡ None → index_in (ws ++ w ∷ []) w ≡ Some (length ws)
index_end [] w e = ap (λ b. if b then Some 0 else None) ((bytes_eq-Decides w w).1 refl)
index_end (v ∷ vs) w e = by (bytes_eq w v) (index_end vs w) e
  where
    by : (b : Bool) → (index_in vs w ≡ None → index_in (vs ++ w ∷ []) w ≡ Some (length vs)) → (if b then Some 0 else option_map suc (index_in vs w)) ≡ None →
        (if b then Some 0 else option_map suc (index_in (vs ++ w ∷ []) w)) ≡ Some (suc (length vs))
    by true last e = absurd (none-some 0 (sym e))
    by false last e = ap (option_map suc) (last (none_of (index_in vs w) e))

index_other : (ws : List Word) (v w : Word) → bytes_eq w v ≡ false → index_in (ws ++ v ∷ []) w ≡ index_in ws w
index_other [] v w e = ap (λ b. if b then Some 0 else None) e
index_other (x ∷ xs) v w e = by (bytes_eq w x) (index_other xs v w e)
  where
    by : (b : Bool) → index_in (xs ++ v ∷ []) w ≡ index_in xs w → (if b then Some 0 else option_map suc (index_in (xs ++ v ∷ []) w)) ≡ (if b then Some 0 else option_map suc (index_in xs w))
    by true same = refl
    by false same = ap (option_map suc) same

-- two words with one place are the same
pub index_one : (ws : List Word) (v w : Word) (k : ℕ) → index_in ws v ≡ Some k → index_in ws w ≡ Some k → v ≡ w
index_one [] v w k a b = absurd (none-some k a)
index_one (x ∷ xs) v w k a b = by (bytes_eq v x) refl (bytes_eq w x) refl (index_one xs v w) a b
  where
    by : (c : Bool) → bytes_eq v x ≡ c → (d : Bool) → bytes_eq w x ≡ d → ((j : ℕ) → index_in xs v ≡ Some j → index_in xs w ≡ Some j → v ≡ w) →
        (if c then Some 0 else option_map suc (index_in xs v)) ≡ Some k → (if d then Some 0 else option_map suc (index_in xs w)) ≡ Some k → v ≡ w
    by true c true d deeper a b = (bytes_eq-Decides v x).0 c ∙ sym ((bytes_eq-Decides w x).0 d)
    by true c false d deeper a b = absurd (no_suc (index_in xs w) (b ∙ sym a))
    by false c true d deeper a b = absurd (no_suc (index_in xs v) (a ∙ sym b))
    by false c false d deeper a b =
        let one = suc_of (index_in xs v) k a in
        let two = suc_of (index_in xs w) k b in
        let same : two.0 ≡ one.0 = let p = one.2 in let q = two.2 in omega (arith, p, q) in
        deeper one.0 one.1 (two.1 ∙ ap (λ n. Some n) same)

pub more_stays : (ws : List Word) (v w : Word) (k : ℕ) → index_in ws w ≡ Some k → index_in (more ws v) w ≡ Some k
more_stays ws v w k e = by (is_some (index_in ws v))
  where
    by : (b : Bool) → index_in (if b then ws else ws ++ v ∷ []) w ≡ Some k
    by true = e
    by false = index_front ws (v ∷ []) w k e

pub fold_stays : (vs ws : List Word) (w : Word) (k : ℕ) → index_in ws w ≡ Some k → index_in (fold more ws vs) w ≡ Some k
fold_stays [] ws w k e = e
fold_stays (v ∷ vs) ws w k e = fold_stays vs (more ws v) w k (more_stays ws v w k e)

-- a word has its place at once
placed : (ws : List Word) (w : Word) → (k : ℕ) × (index_in (more ws w) w ≡ Some k)
placed ws w = by (index_in ws w) refl
  where
    by : (o : Option ℕ) → index_in ws w ≡ o → (k : ℕ) × (index_in (if is_some o then ws else ws ++ w ∷ []) w ≡ Some k)
    by None is = (length ws, index_end ws w is)
    by (Some k) is = (k, is)

-- each of the words has a place
pub fold_placed : (vs ws : List Word) (w : Word) → (j : ℕ) → slice_get vs j ≡ Some w → (k : ℕ) × (index_in (fold more ws vs) w ≡ Some k)
fold_placed [] ws w j is = absurd (none-some w is)
fold_placed (v ∷ vs) ws w zero is =
    let k = placed ws v in
    subst (λ (u : Word). (k : ℕ) × (index_in (fold more (more ws v) vs) u ≡ Some k)) (same_Some v w is) (k.0, fold_stays vs (more ws v) v k.0 k.1)
fold_placed (v ∷ vs) ws w (suc j) is = fold_placed vs (more ws v) w j is

-- Tables.

-- a word is one of these
abbrev pub is_in : List Word → Word → Bool
is_in [] w = false
is_in (v ∷ vs) w = bytes_eq w v || is_in vs w

set_length : {X : Type 0} (xs : List X) (k : ℕ) (x : X) → length (slice_set xs k x) ≡ length xs
set_length [] k x = refl
set_length (y ∷ ys) zero x = refl
set_length (y ∷ ys) (suc k) x = ap suc (set_length ys k x)

some_at : {X : Type 0} (xs : List X) (k : ℕ) → k < length xs → (x : X) × (slice_get xs k ≡ Some x)
some_at [] k less = absurd (omega (arith, less))
some_at (x ∷ xs) zero less = (x, refl)
some_at (x ∷ xs) (suc k) less = some_at xs k (omega (arith, less))

true_false : true ≡ false → ⊥
true_false e = cc

module _ {X : Type 0} where
  -- a table has what its words stand for
  pub record Stands (Q : Word → X → Type 0) (ws : List Word) (xs : List X) : Type 0 where
    pub long : length xs ≡ length ws
    pub each : (w : Word) (k : ℕ) → index_in ws w ≡ Some k → (x : X) × (slice_get xs k ≡ Some x) × Q w x

  pub stands_more : (P Q : Word → X → Type 0) → ((w : Word) (x : X) → P w x → Q w x) → (ws : List Word) (xs : List X) → Stands P ws xs → Stands Q ws xs
  stands_more P Q up ws xs h = record { long = h.long; each = λ w k is. let one = h.each w k is in (one.0, one.1, up w one.0 one.2) }

  -- one more of them is put in its place
  module _ (P Q : Word → X → Type 0) (ws : List Word) (xs : List X) (v : Word) (x : X) (h : Stands P ws xs)
      (here : Q v x) (others : (w : Word) (y : X) → bytes_eq w v ≡ false → P w y → Q w y) where
    apart : (w : Word) → bytes_eq w v ≡ false → w ≡ v → ⊥
    apart w other same = true_false (sym ((bytes_eq-Decides w v).1 same) ∙ other)

    over : (k : ℕ) → index_in ws v ≡ Some k → Stands Q ws (slice_set xs k x)
    over k is = record { long = set_length xs k x ∙ h.long; each = λ w j at. by w j at (bytes_eq w v) refl }
      where
        by : (w : Word) (j : ℕ) → index_in ws w ≡ Some j → (b : Bool) → bytes_eq w v ≡ b → (y : X) × (slice_get (slice_set xs k x) j ≡ Some y) × Q w y
        by w j at true same =
            let w_is : w ≡ v = (bytes_eq-Decides w v).0 same in
            let j_is : j ≡ k = same_Some j k (sym at ∙ ap (index_in ws) w_is ∙ is) in
            let old = h.each v k is in
            (x, ap (slice_get (slice_set xs k x)) j_is ∙ set_here xs k old.0 x old.1, subst (λ (u : Word). Q u x) (sym w_is) here)
        by w j at false other =
            let old = h.each w j at in
            (old.0, set_other xs k j x (λ same. apart w other (index_one ws w v k (at ∙ ap (λ n. Some n) same) is)) ∙ old.1, others w old.0 other old.2)

    behind : index_in ws v ≡ None → Stands Q (ws ++ v ∷ []) (xs ++ x ∷ [])
    behind is = record {
      long = length-append xs (x ∷ []) ∙ (let same : length xs + 1 ≡ length ws + 1 = let l = h.long in omega (arith, l) in same) ∙ sym (length-append ws (v ∷ []));
      each = λ w j at. by w j at (bytes_eq w v) refl;
    }
      where
        by : (w : Word) (j : ℕ) → index_in (ws ++ v ∷ []) w ≡ Some j → (b : Bool) → bytes_eq w v ≡ b → (y : X) × (slice_get (xs ++ x ∷ []) j ≡ Some y) × Q w y
        by w j at true same =
            let w_is : w ≡ v = (bytes_eq-Decides w v).0 same in
            let j_is : j ≡ length xs = same_Some j (length xs) (sym at ∙ ap (index_in (ws ++ v ∷ [])) w_is ∙ index_end ws v is ∙ ap (λ n. Some n) (sym h.long)) in
            (x, ap (slice_get (xs ++ x ∷ [])) j_is ∙ get_end xs x, subst (λ (u : Word). Q u x) (sym w_is) here)
        by w j at false other =
            let old = h.each w j (sym (index_other ws v w other) ∙ at) in
            (old.0, get_front xs (x ∷ []) j old.0 old.1, others w old.0 other old.2)

    pub put : (k : ℕ) → index_in (more ws v) v ≡ Some k → Stands Q (more ws v) (put_at xs (k, x))
    put k is = by (index_in ws v) refl is
      where
        within : k < length xs → put_at xs (k, x) ≡ slice_set xs k x
        within less = ap (λ b. if b then slice_set xs k x else xs ++ x ∷ []) (lt-ltb k (length xs) less)

        past : k ≡ length xs → put_at xs (k, x) ≡ xs ++ x ∷ []
        past same = ap (λ b. if b then slice_set xs k x else xs ++ x ∷ []) (le-ltb k (length xs) (omega (arith, same)))

        by : (o : Option ℕ) → index_in ws v ≡ o → index_in (if is_some o then ws else ws ++ v ∷ []) v ≡ Some k → Stands Q (if is_some o then ws else ws ++ v ∷ []) (put_at xs (k, x))
        by None none is =
            let k_is : k ≡ length xs = same_Some k (length xs) (sym is ∙ index_end ws v none ∙ ap (λ n. Some n) (sym h.long)) in
            subst (Stands Q (ws ++ v ∷ [])) (sym (past k_is)) (behind none)
        by (Some j) there is =
            let below = index_below ws v k is in
            let long = h.long in
            subst (Stands Q ws) (sym (within (omega (arith, below, long)))) (over k is)

-- The own methods of a type.

module _ (p : Program) (Q R : Word → Procedure → Type 0) where
  -- the methods of these names, each in the place of its name among all of them: it is what its name stands for, and overrides what its
  -- name stood for before
  abbrev pub AreOwn : List Word → List Word → List Method → Type 0
  AreOwn all [] [] = Unit {0}
  AreOwn all [] (m ∷ ms) = ⊥
  AreOwn all (v ∷ vs) [] = ⊥
  AreOwn all (v ∷ vs) (m ∷ ms) =
      (index_in all v ≡ Some m.slot) × R v m.procedure × ((y : Procedure) → Q v y → Overrides p m.procedure y) × (is_in vs v ≡ false) × AreOwn all vs ms

  -- what a word stands for where the methods of these names are still to come
  pub record Between (left : List Word) (w : Word) (y : Procedure) : Type 0 where
    pub before : is_in left w ≡ true → Q w y
    pub behind : is_in left w ≡ false → R w y

  between : (v : Word) (vs : List Word) (w : Word) (y : Procedure) → bytes_eq w v ≡ false → Between (v ∷ vs) w y → Between vs w y
  between v vs w y other h = record {
    before = λ is. h.before (ap (λ b. b || is_in vs w) other ∙ is);
    behind = λ is. h.behind (ap (λ b. b || is_in vs w) other ∙ is);
  }

  this_one : (v : Word) (vs : List Word) (y : Procedure) → is_in vs v ≡ false → R v y → Between vs v y
  this_one v vs y new r = record { before = λ is. absurd (true_false (sym is ∙ new)); behind = λ is. r }

  one_step : (v : Word) (vs ws : List Word) (xs : List Procedure) (m : Method) → Stands (Between (v ∷ vs)) ws xs → index_in (fold more (more ws v) vs) v ≡ Some m.slot →
      R v m.procedure → is_in vs v ≡ false → Stands (Between vs) (more ws v) (put_at xs (slot_of m))
  one_step v vs ws xs m h slot r new =
      let k = placed ws v in
      let same : m.slot ≡ k.0 = same_Some m.slot k.0 (sym slot ∙ fold_stays vs (more ws v) v k.0 k.1) in
      put (Between (v ∷ vs)) (Between vs) ws xs v m.procedure h (this_one v vs m.procedure new r) (λ w y. between v vs w y) m.slot (k.1 ∙ ap (λ n. Some n) (sym same))

  -- a method is a new one behind those before, or overrides the one in its slot
  one_slot : (v : Word) (vs ws : List Word) (xs : List Procedure) (m : Method) → Stands (Between (v ∷ vs)) ws xs → index_in (fold more (more ws v) vs) v ≡ Some m.slot →
      ((y : Procedure) → Q v y → Overrides p m.procedure y) → (m.slot ≡ length xs) ⊎ ((y : Procedure) × (slice_get xs m.slot ≡ Some y) × Overrides p m.procedure y)
  one_slot v vs ws xs m h slot over = by (index_in ws v) refl
    where
      by : (o : Option ℕ) → index_in ws v ≡ o → (m.slot ≡ length xs) ⊎ ((y : Procedure) × (slice_get xs m.slot ≡ Some y) × Overrides p m.procedure y)
      by None none =
          let at : index_in (more ws v) v ≡ Some (length ws) = ap (λ o. index_in (if is_some o then ws else ws ++ v ∷ []) v) none ∙ index_end ws v none in
          inl (same_Some m.slot (length xs) (sym slot ∙ fold_stays vs (more ws v) v (length ws) at ∙ ap (λ n. Some n) (sym h.long)))
      by (Some k) there =
          let at = more_stays ws v v k there in
          let same : m.slot ≡ k = same_Some m.slot k (sym slot ∙ fold_stays vs (more ws v) v k at) in
          let old = h.each v k there in
          inr (old.0, ap (slice_get xs) same ∙ old.1, over old.0 (old.2.before (ap (λ b. b || is_in vs v) ((bytes_eq-Decides v v).1 refl))))

  folded : (vs ws : List Word) (xs : List Procedure) (ms : List Method) → AreOwn (fold more ws vs) vs ms → Stands (Between vs) ws xs →
      Stands (Between []) (fold more ws vs) (fold put_at xs (map slot_of ms)) × AreSlots p xs ms
  folded [] ws xs [] are h = (h, tt)
  folded [] ws xs (m ∷ ms) are h = absurd are
  folded (v ∷ vs) ws xs [] are h = absurd are
  folded (v ∷ vs) ws xs (m ∷ ms) are h =
      let deeper = folded vs (more ws v) (put_at xs (slot_of m)) ms are.4 (one_step v vs ws xs m h are.0 are.1 are.3) in
      (deeper.0, (one_slot v vs ws xs m h are.0 are.2, deeper.1))

  -- Where the base's methods stand in their slots, and a type's own in those of their names, all of its methods do, and each of its own
  -- is a new one or overrides its base's.
  pub slots_stand : (vs ws : List Word) (xs : List Procedure) (ms : List Method) → AreOwn (fold more ws vs) vs ms → Stands Q ws xs →
      ((w : Word) (y : Procedure) → is_in vs w ≡ false → Q w y → R w y) →
      Stands R (fold more ws vs) (fold put_at xs (map slot_of ms)) × AreSlots p xs ms
  slots_stand vs ws xs ms are h up =
      let both = folded vs ws xs ms are (stands_more Q (Between vs) (λ w y q. record { before = λ is. q; behind = λ is. up w y is q }) ws xs h) in
      (stands_more (Between []) R (λ w y b. b.behind refl) (fold more ws vs) (fold put_at xs (map slot_of ms)) both.0, both.1)
