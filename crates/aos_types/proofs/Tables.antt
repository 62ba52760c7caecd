-- Where no type contains itself, the contents of a type are those of its parts (the levels are enough); extension is the closure
-- of the base relation, is transitive, and the contents of an extension begin with those of what it extends.
use Rattle.std.proofs.Common.{◌≡◌, ℕ, zero, suc, ◌<◌, ◌≤◌, List, [], ◌∷◌, ◌++◌, length, map, Option, Some, None, refl, sym, ap, ◌∙◌, subst, arith}
use Rattle.std.specs.Prelude.{Bool, true, false, ◌==◌, ◌||◌, if◌then◌else◌}
use Rattle.std.specs.List.{flat_map}
use mathlib.Core.Logic.{inl}
use Rattle.std.proofs.lemmas.Bool.{eqb-true, eq-eqb}
use Rattle.aos_types.specs.declared.row.TypeId.{TypeId}
use Rattle.aos_types.specs.declared.row.TypeRow.{TypeRow}
use Rattle.aos_types.specs.declared.row.TypeRow.TheVariants as row
use Rattle.aos_types.specs.Table.{row_of, is_object, has_fields, base_of}
use Rattle.aos_types.specs.Shape as shape
use Rattle.aos_types.specs.Shape.{Shape, join}
use Rattle.aos_types.specs.Contents.{of_variable, of_base, with_parts, unfolded, levels, contents}
use Rattle.aos_types.specs.Chain.{held, base_list, parts_of, IsOneOf, IsRanked}
use Rattle.aos_types.specs.Extension.{on_base, comes_by, comes_to, AreBases, BasesLead}
use Rattle.aos_types.specs.Laws.{BeginsWith}
use Rattle.aos_types.proofs.Reached.{one_of_left, one_of_right}

-- two ways to give contents that agree on the parts of a type
module _ (rows : List TypeRow) (f g : TypeId → Shape TypeId) where
  abbrev Agree : List TypeId → Type 0
  Agree ts = (p : TypeId) → IsOneOf p ts → f p ≡ g p

  same_if : (t : TypeId) (b : Bool) → Agree (if b then [] else t ∷ []) → (if b then shape.One t else f t) ≡ (if b then shape.One t else g t)
  same_if t true h = refl
  same_if t false h = h t (inl refl)

  same_variable : (t : TypeId) → Agree (held rows t) → of_variable f rows t ≡ of_variable g rows t
  same_variable t h = same_if t (is_object (row_of rows t)) h

  same_fields : (ts : List TypeId) → Agree (flat_map (held rows) ts) → shape.row (map (of_variable f rows) ts) ≡ shape.row (map (of_variable g rows) ts)
  same_fields [] h = refl
  same_fields (t ∷ ts) h =
      λ i. shape.Pair (same_variable t (λ p o. h p (one_of_left p (held rows t) (flat_map (held rows) ts) o)) i)
      (same_fields ts (λ p o. h p (one_of_right p (held rows t) (flat_map (held rows) ts) o)) i)

  same_base : (b : Option TypeId) → Agree (base_list b) → of_base f b ≡ of_base g b
  same_base None h = refl
  same_base (Some b) h = h b (inl refl)

  same_row : (b : Option TypeId) (ts : List TypeId) → Agree (base_list b ++ flat_map (held rows) ts) → join (of_base f b) (shape.row (map (of_variable f rows) ts)) ≡ join (of_base g b) (shape.row (map (of_variable g rows) ts))
  same_row b ts h =
      λ i. join (same_base b (λ p o. h p (one_of_left p (base_list b) (flat_map (held rows) ts) o)) i)
      (same_fields ts (λ p o. h p (one_of_right p (base_list b) (flat_map (held rows) ts) o)) i)

  same_parts : (t : TypeId) (o : Option TypeRow) → Agree (parts_of rows o) → with_parts f rows t o ≡ with_parts g rows t o
  same_parts t None h = refl
  same_parts t (Some (row.Basic b)) h = refl
  same_parts t (Some (row.Array n of)) h = ap (shape.repeated n) (same_variable of h)
  same_parts t (Some (row.Open of)) h = refl
  same_parts t (Some (row.Record b fs)) h = same_row b fs h
  same_parts t (Some (row.Pointer to)) h = refl
  same_parts t (Some (row.Object b fs)) h = same_row b fs h
  same_parts t (Some (row.Procedure fs r)) h = refl
  same_parts t (Some row.Any) h = refl

-- fields, behind those of a base, are a row that ends
abbrev Ends : Shape TypeId → Type 0
Ends (shape.One k) = ⊥
Ends shape.Nothing = Unit {0}
Ends (shape.Pair a b) = Ends b

join_nothing : (s : Shape TypeId) → Ends s → join s shape.Nothing ≡ s
join_nothing (shape.One k) e = absurd e
join_nothing shape.Nothing e = refl
join_nothing (shape.Pair a b) e = ap (shape.Pair a) (join_nothing b e)

row_ends : (ss : List (Shape TypeId)) → Ends (shape.row ss)
row_ends [] = tt
row_ends (s ∷ ss) = row_ends ss

join_ends : (a b : Shape TypeId) → Ends b → Ends (join a b)
join_ends (shape.One k) b e = e
join_ends shape.Nothing b e = e
join_ends (shape.Pair x y) b e = join_ends y b e

fields_end : (rows : List TypeRow) (f : TypeId → Shape TypeId) (t : TypeId) (o : Option TypeRow) → has_fields o ≡ true → Ends (with_parts f rows t o)
fields_end rows f t None h = absurd (cc)
fields_end rows f t (Some (row.Basic b)) h = absurd (cc)
fields_end rows f t (Some (row.Array n of)) h = absurd (cc)
fields_end rows f t (Some (row.Open of)) h = absurd (cc)
fields_end rows f t (Some (row.Record b fs)) h =
    join_ends (of_base f b) (shape.row (map (of_variable f rows) fs)) (row_ends (map (of_variable f rows) fs))
fields_end rows f t (Some (row.Pointer to)) h = absurd (cc)
fields_end rows f t (Some (row.Object b fs)) h =
    join_ends (of_base f b) (shape.row (map (of_variable f rows) fs)) (row_ends (map (of_variable f rows) fs))
fields_end rows f t (Some (row.Procedure fs r)) h = absurd (cc)
fields_end rows f t (Some row.Any) h = absurd (cc)

pub join_assoc : (a b c : Shape TypeId) → join (join a b) c ≡ join a (join b c)
join_assoc (shape.One k) b c = refl
join_assoc shape.Nothing b c = refl
join_assoc (shape.Pair x y) b c = ap (shape.Pair x) (join_assoc y b c)

pub is_it : (a b : TypeId) → (a.0 == b.0) ≡ true → a ≡ b
is_it a b e = let f = eqb-true a.0 b.0 e in λ i. record { 0 = f i }

-- bases lead where so many of them come
pub bases_of : (rows : List TypeRow) (n : ℕ) (a b : TypeId) → comes_by n rows a b ≡ true → BasesLead rows a b
bases_of rows zero a b e = record { bases = []; are = is_it a b e }
bases_of rows (suc n) a b e = at_test (λ c k. bases_of rows n c b k) (a.0 == b.0) refl (base_of (row_of rows a)) refl e
  where
    at_test : ((c : TypeId) → comes_by n rows c b ≡ true → BasesLead rows c b) → (x : Bool) → (a.0 == b.0) ≡ x → (o : Option TypeId) → base_of (row_of rows a) ≡ o → (x || on_base (λ c. comes_by n rows c b) o) ≡ true → BasesLead rows a b
    at_test up true q o w k = record { bases = []; are = is_it a b q }
    at_test up false q None w k = absurd (cc)
    at_test up false q (Some c) w k = let r = up c k in record { bases = c ∷ r.bases; are = (w, r.are) }

-- so many bases come where as many lead
pub comes_of : (rows : List TypeRow) (bs : List TypeId) (n : ℕ) (a b : TypeId) → AreBases rows a bs b → length bs ≤ n → comes_by n rows a b ≡ true
comes_of rows [] zero a b e l = eq-eqb a.0 b.0 (ap (λ t. t.0) e)
comes_of rows [] (suc n) a b e l = ap (λ x. x || on_base (λ c. comes_by n rows c b) (base_of (row_of rows a))) (eq-eqb a.0 b.0 (ap (λ t. t.0) e))
comes_of rows (x ∷ bs) zero a b e l = absurd (omega arith)
comes_of rows (x ∷ bs) (suc n) a b e l =
    at_test (ap (on_base (λ c. comes_by n rows c b)) e.0 ∙ comes_of rows bs n x b e.1 (omega arith)) (a.0 == b.0)
  where
    at_test : on_base (λ c. comes_by n rows c b) (base_of (row_of rows a)) ≡ true → (y : Bool) → (y || on_base (λ c. comes_by n rows c b) (base_of (row_of rows a))) ≡ true
    at_test up true = refl
    at_test up false = up

both_chains : (rows : List TypeRow) (bs cs : List TypeId) (a b c : TypeId) → AreBases rows a bs b → AreBases rows b cs c → AreBases rows a (bs ++ cs) c
both_chains rows [] cs a b c e h = subst (λ z. AreBases rows z cs c) (sym e) h
both_chains rows (x ∷ bs) cs a b c e h = (e.0, both_chains rows bs cs x b c e.1 h)

pub base_part : (rows : List TypeRow) (o : Option TypeRow) (b : TypeId) → base_of o ≡ Some b → IsOneOf b (parts_of rows o)
base_part rows None b e = absurd (cc)
base_part rows (Some (row.Basic k)) b e = absurd (cc)
base_part rows (Some (row.Array n of)) b e = absurd (cc)
base_part rows (Some (row.Open of)) b e = absurd (cc)
base_part rows (Some (row.Pointer to)) b e = absurd (cc)
base_part rows (Some (row.Procedure fs r)) b e = absurd (cc)
base_part rows (Some row.Any) b e = absurd (cc)
base_part rows (Some (row.Record None fs)) b e = absurd (cc)
base_part rows (Some (row.Object None fs)) b e = absurd (cc)
base_part rows (Some (row.Record (Some c) fs)) b e = inl (let f : c ≡ b = cc in f)
base_part rows (Some (row.Object (Some c) fs)) b e = inl (let f : c ≡ b = cc in f)

module _ (rows : List TypeRow) (h : IsRanked rows) where
  enough : (n m : ℕ) (t : TypeId) → h.rank t < n → h.rank t < m → unfolded n rows t ≡ unfolded m rows t
  enough zero m t a b = absurd (omega arith)
  enough (suc n) zero t a b = absurd (omega arith)
  enough (suc n) (suc m) t a b =
      same_parts rows (unfolded n rows) (unfolded m rows) t (row_of rows t)
      (λ p o. let f = h.falls t p o in enough n m p (omega (arith, f, a)) (omega (arith, f, b)))

  -- the contents of a type, by those of its parts
  pub by_parts : (t : TypeId) → contents rows t ≡ with_parts (contents rows) rows t (row_of rows t)
  by_parts t = let b = h.bound t in enough (levels rows) (suc (levels rows)) t b (omega (arith, b))

  few_bases : (bs : List TypeId) (a b : TypeId) → AreBases rows a bs b → length bs ≤ h.rank a
  few_bases [] a b e = omega arith
  few_bases (x ∷ bs) a b e =
      let l = few_bases bs x b e.1 in
      let f = h.falls a x (base_part rows (row_of rows a) x e.0) in
      omega (arith, l, f)

  -- extension by bases is the closure of the base relation
  pub comes_by_bases : (a b : TypeId) → BasesLead rows a b → comes_to rows a b ≡ true
  comes_by_bases a b e =
      let l = few_bases e.bases a b e.are in
      let k = h.bound a in
      comes_of rows e.bases (length rows) a b e.are (omega (arith, l, k))

  pub comes_on : (a b c : TypeId) → comes_to rows a b ≡ true → comes_to rows b c ≡ true → comes_to rows a c ≡ true
  comes_on a b c e f =
      let x = bases_of rows (length rows) a b e in
      let y = bases_of rows (length rows) b c f in
      comes_by_bases a c (record { bases = x.bases ++ y.bases; are = both_chains rows x.bases y.bases a b c x.are y.are })

  own : (t : TypeId) (o : Option TypeRow) (b : TypeId) → base_of o ≡ Some b → BeginsWith (with_parts (contents rows) rows t o) (contents rows b)
  own t None b e = absurd (cc)
  own t (Some (row.Basic k)) b e = absurd (cc)
  own t (Some (row.Array n of)) b e = absurd (cc)
  own t (Some (row.Open of)) b e = absurd (cc)
  own t (Some (row.Pointer to)) b e = absurd (cc)
  own t (Some (row.Procedure fs r)) b e = absurd (cc)
  own t (Some row.Any) b e = absurd (cc)
  own t (Some (row.Record None fs)) b e = absurd (cc)
  own t (Some (row.Object None fs)) b e = absurd (cc)
  own t (Some (row.Record (Some c) fs)) b e = behind fs c b (let f : c ≡ b = cc in f)
    where
      behind : (fs : List TypeId) (c b : TypeId) → c ≡ b → BeginsWith (join (contents rows c) (shape.row (map (of_variable (contents rows) rows) fs))) (contents rows b)
      behind fs c b s = record { more = shape.row (map (of_variable (contents rows) rows) fs); is = ap (λ x. join (contents rows x) (shape.row (map (of_variable (contents rows) rows) fs))) s }
  own t (Some (row.Object (Some c) fs)) b e = behind fs c b (let f : c ≡ b = cc in f)
    where
      behind : (fs : List TypeId) (c b : TypeId) → c ≡ b → BeginsWith (join (contents rows c) (shape.row (map (of_variable (contents rows) rows) fs))) (contents rows b)
      behind fs c b s = record { more = shape.row (map (of_variable (contents rows) rows) fs); is = ap (λ x. join (contents rows x) (shape.row (map (of_variable (contents rows) rows) fs))) s }

  front_of : (bs : List TypeId) (a b : TypeId) → Ends (contents rows b) → AreBases rows a bs b → BeginsWith (contents rows a) (contents rows b)
  front_of [] a b n e = record { more = shape.Nothing; is = ap (contents rows) e ∙ sym (join_nothing (contents rows b) n) }
  front_of (x ∷ bs) a b n e =
      let r = front_of bs x b n e.1 in
      let k = own a (row_of rows a) x e.0 in
      record { more = join r.more k.more; is = by_parts a ∙ k.is ∙ ap (λ s. join s k.more) r.is ∙ join_assoc (contents rows b) r.more k.more }

  -- the contents of an extension begin with those of what it extends
  pub front : (a b : TypeId) → has_fields (row_of rows b) ≡ true → comes_to rows a b ≡ true → BeginsWith (contents rows a) (contents rows b)
  front a b h e =
      let r = bases_of rows (length rows) a b e in
      let n = subst Ends (sym (by_parts b)) (fields_end rows (contents rows) b (row_of rows b) h) in
      front_of r.bases a b n r.are
