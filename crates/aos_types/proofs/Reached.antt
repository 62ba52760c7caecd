-- The types that a walk notes are those that a chain leads to.
use Rattle.std.proofs.Common.{◌≡◌, ℕ, zero, suc, ◌+◌, ◌-◌, ◌<◌, List, [], ◌∷◌, ◌++◌, length, drop, get_or, Option, Some, None, refl, sym, ap, ◌∙◌, subst, arith, append_assoc, append-nil, length-append}
use Rattle.std.specs.Prelude.{◌↔◌, Bool, true, false, slice_get, slice_set}
use mathlib.Core.Logic.{◌⊎◌, inl, inr}
use Rattle.std.proofs.lemmas.List.{length-set, length-replicate, drop-append-le}
use Rattle.std.proofs.lemmas.Option.{slice_get_within, slice_get-get_or}
use Rattle.aos_types.specs.declared.row.TypeId.{TypeId}
use Rattle.aos_types.specs.declared.row.TypeRow.{TypeRow}
use Rattle.aos_types.specs.Table.{row_of}
use Rattle.aos_types.specs.Chain.{parts_of, IsOneOf, IsPartOf, IsChain, LeadsTo, ContainsItself}
use Rattle.aos_types.specs.Walk.{Marks, noted_by, noted, all_noted, unbegun, is_seen}
use Rattle.aos_types.proofs.Marks.{unmarked, marked_here, marked_still, marked_before, one_fewer, none_marked}

abbrev pub IsSeen : Marks → TypeId → Type 0
IsSeen m t = slice_get m.seen t.0 ≡ Some true

pub one_of_left : (t : TypeId) (xs ys : List TypeId) → IsOneOf t xs → IsOneOf t (xs ++ ys)
one_of_left t [] ys h = absurd h
one_of_left t (x ∷ xs) ys (inl e) = inl e
one_of_left t (x ∷ xs) ys (inr h) = inr (one_of_left t xs ys h)

pub one_of_right : (t : TypeId) (xs ys : List TypeId) → IsOneOf t ys → IsOneOf t (xs ++ ys)
one_of_right t [] ys h = h
one_of_right t (x ∷ xs) ys h = inr (one_of_right t xs ys h)

pub one_of_both : (t : TypeId) (xs ys : List TypeId) → IsOneOf t (xs ++ ys) → IsOneOf t xs ⊎ IsOneOf t ys
one_of_both t [] ys h = inr h
one_of_both t (x ∷ xs) ys (inl e) = inl (inl e)
one_of_both t (x ∷ xs) ys (inr h) = one_more (one_of_both t xs ys h)
  where
    one_more : IsOneOf t xs ⊎ IsOneOf t ys → IsOneOf t (x ∷ xs) ⊎ IsOneOf t ys
    one_more (inl a) = inl (inr a)
    one_more (inr b) = inr b

-- what noting these types makes of the marks
pub record Grows (ts : List TypeId) (m m' : Marks) : Type 0 where
  pub more : List TypeId
  pub order : m'.order ≡ m.order ++ more
  pub asked : (t : TypeId) → IsOneOf t more → IsOneOf t ts
  pub kept : (t : TypeId) → IsSeen m t → IsSeen m' t
  pub before : (t : TypeId) → IsSeen m' t → IsSeen m t ⊎ IsOneOf t more
  pub all : (t : TypeId) → IsOneOf t ts → t.0 < length m.seen → IsSeen m' t
  pub marks : length m'.seen ≡ length m.seen
  pub weight : unmarked m'.seen + length more ≡ unmarked m.seen

-- nothing is noted
none : (m : Marks) → Grows [] m m
none m = record {
  more = [];
  order = sym (append-nil m.order);
  asked = λ t h. h;
  kept = λ t h. h;
  before = λ t h. inl h;
  all = λ t h l. absurd h;
  marks = refl;
  weight = omega arith;
}

no_mark : (o : Option Bool) (b : Bool) → o ≡ Some b → o ≡ None → ⊥
no_mark o b e f = cc

-- one type is noted
one : (t : TypeId) (m : Marks) → Grows (t ∷ []) m (noted t m)
one t m = at_mark (slice_get m.seen t.0) refl
  where
    is_it : (q : TypeId) → t.0 ≡ q.0 → t ≡ q
    is_it q e = λ i. record { 0 = e i }

    at_mark : (o : Option Bool) → slice_get m.seen t.0 ≡ o → Grows (t ∷ []) m (noted_by t m o)
    at_mark None e = record {
      more = [];
      order = sym (append-nil m.order);
      asked = λ q h. absurd h;
      kept = λ q h. h;
      before = λ q h. inl h;
      all = λ q h l. absurd (past q h l);
      marks = refl;
      weight = omega arith;
    }
      where
        past : (q : TypeId) → IsOneOf q (t ∷ []) → q.0 < length m.seen → ⊥
        past q (inl s) l = no_mark (slice_get m.seen q.0) (get_or m.seen q.0 false) (slice_get-get_or m.seen q.0 false l) (subst (λ z. slice_get m.seen z.0 ≡ None) s e)
        past q (inr h) l = h
    at_mark (Some true) e = record {
      more = [];
      order = sym (append-nil m.order);
      asked = λ q h. absurd h;
      kept = λ q h. h;
      before = λ q h. inl h;
      all = λ q h l. seen_already q h;
      marks = refl;
      weight = omega arith;
    }
      where
        seen_already : (q : TypeId) → IsOneOf q (t ∷ []) → IsSeen m q
        seen_already q (inl s) = subst (IsSeen m) s e
        seen_already q (inr h) = absurd h
    at_mark (Some false) e = record {
      more = t ∷ [];
      order = refl;
      asked = λ q h. h;
      kept = λ q h. marked_still m.seen t.0 q.0 h;
      before = λ q h. was q (marked_before m.seen t.0 q.0 h);
      all = λ q h l. is_now q h;
      marks = length-set m.seen t.0 true;
      weight = (let h = one_fewer m.seen t.0 e in omega (arith, h));
    }
      where
        was : (q : TypeId) → (slice_get m.seen q.0 ≡ Some true) ⊎ (t.0 ≡ q.0) → IsSeen m q ⊎ IsOneOf q (t ∷ [])
        was q (inl a) = inl a
        was q (inr b) = inr (inl (is_it q b))

        is_now : (q : TypeId) → IsOneOf q (t ∷ []) → slice_get (slice_set m.seen t.0 true) q.0 ≡ Some true
        is_now q (inl s) = subst (λ z. slice_get (slice_set m.seen t.0 true) z.0 ≡ Some true) s (marked_here m.seen t.0 false e)
        is_now q (inr h) = absurd h

-- some types are noted, and then others
both : (t : TypeId) (ts : List TypeId) (m m' m'' : Marks) → Grows (t ∷ []) m m' → Grows ts m' m'' → Grows (t ∷ ts) m m''
both t ts m m' m'' a b = record {
  more = a.more ++ b.more;
  order = b.order ∙ ap (λ z. z ++ b.more) a.order ∙ append_assoc m.order a.more b.more;
  asked = λ q h. asks q (one_of_both q a.more b.more h);
  kept = λ q h. b.kept q (a.kept q h);
  before = λ q h. was q (b.before q h);
  all = λ q h l. is_now q h l;
  marks = b.marks ∙ a.marks;
  weight = (let h = a.weight in let k = b.weight in omega (arith, length-append a.more b.more, h, k));
}
  where
    from_first : (q : TypeId) → IsOneOf q (t ∷ []) → IsOneOf q (t ∷ ts)
    from_first q (inl s) = inl s
    from_first q (inr h) = absurd h

    asks : (q : TypeId) → IsOneOf q a.more ⊎ IsOneOf q b.more → IsOneOf q (t ∷ ts)
    asks q (inl h) = from_first q (a.asked q h)
    asks q (inr h) = inr (b.asked q h)

    still : (q : TypeId) → IsSeen m q ⊎ IsOneOf q a.more → IsSeen m q ⊎ IsOneOf q (a.more ++ b.more)
    still q (inl h) = inl h
    still q (inr h) = inr (one_of_left q a.more b.more h)

    was : (q : TypeId) → IsSeen m' q ⊎ IsOneOf q b.more → IsSeen m q ⊎ IsOneOf q (a.more ++ b.more)
    was q (inl h) = still q (a.before q h)
    was q (inr h) = inr (one_of_right q a.more b.more h)

    is_now : (q : TypeId) → IsOneOf q (t ∷ ts) → q.0 < length m.seen → IsSeen m'' q
    is_now q (inl s) l = b.kept q (a.all q (inl s) l)
    is_now q (inr h) l = b.all q h (subst (λ n. q.0 < n) (sym a.marks) l)

pub grows : (ts : List TypeId) (m : Marks) → Grows ts m (all_noted ts m)
grows [] m = none m
grows (t ∷ ts) m = both t ts m (noted t m) (all_noted ts (noted t m)) (one t m) (grows ts (noted t m))

-- a chain with one more part
pub chain_more : (rows : List TypeRow) (t p q : TypeId) → LeadsTo rows t p → IsPartOf rows q p → LeadsTo rows t q
chain_more rows t p q way part =
    record { between = way.between ++ p ∷ []; chain = longer t way.between way.chain }
  where
    longer : (t : TypeId) (ps : List TypeId) → IsChain rows t (ps ++ p ∷ []) → IsChain rows t ((ps ++ p ∷ []) ++ q ∷ [])
    longer t [] c = (c.0, (part, tt))
    longer t (x ∷ ps) c = (c.0, longer x ps c.1)

-- what has parts was added
pub has_row : (rows : List TypeRow) (t p : TypeId) → IsPartOf rows p t → t.0 < length rows
has_row rows t p part = at_row (slice_get rows t.0) refl part
  where
    at_row : (o : Option TypeRow) → slice_get rows t.0 ≡ o → IsOneOf p (parts_of rows o) → t.0 < length rows
    at_row None e h = absurd h
    at_row (Some r) e h = slice_get_within rows t.0 r e

-- what leads to something was added
pub begins_added : (rows : List TypeRow) (t p : TypeId) → LeadsTo rows t p → t.0 < length rows
begins_added rows t p way = begins way.between way.chain
  where
    begins : (ps : List TypeId) → IsChain rows t (ps ++ p ∷ []) → t.0 < length rows
    begins [] c = has_row rows t p c.0
    begins (x ∷ ps) c = has_row rows t x c.0

one_at : (xs : List TypeId) (n : ℕ) (x : TypeId) → slice_get xs n ≡ Some x → IsOneOf x xs
one_at [] n x e = absurd (cc)
one_at (y ∷ xs) zero x e = inl (let f : y ≡ x = cc in f)
one_at (y ∷ xs) (suc n) x e = inr (one_at xs n x e)

drop_at : (xs : List TypeId) (n : ℕ) (x : TypeId) → slice_get xs n ≡ Some x → drop n xs ≡ x ∷ drop (suc n) xs
drop_at [] n x e = absurd (cc)
drop_at (y ∷ xs) zero x e = ap (λ z. z ∷ xs) (let f : y ≡ x = cc in f)
drop_at (y ∷ xs) (suc n) x e = drop_at xs n x e

drop_past : (xs : List TypeId) (n : ℕ) → slice_get xs n ≡ None → drop n xs ≡ []
drop_past [] zero e = refl
drop_past [] (suc n) e = refl
drop_past (y ∷ xs) zero e = absurd (cc)
drop_past (y ∷ xs) (suc n) e = drop_past xs n e

module _ (rows : List TypeRow) (t : TypeId) where
  -- all parts of a type are noted
  abbrev pub IsDone : Marks → TypeId → Type 0
  IsDone m p = (q : TypeId) → IsPartOf rows q p → q.0 < length rows → IsSeen m q

  -- where so many types of the order have had their parts noted
  pub record IsWalk (next : ℕ) (m : Marks) : Type 0 where
    pub marks : length m.seen ≡ length rows
    pub sound : (p : TypeId) → IsOneOf p m.order → LeadsTo rows t p
    pub ordered : (p : TypeId) → IsSeen m p → IsOneOf p m.order
    pub first : IsDone m t
    pub done : (p : TypeId) → IsSeen m p → IsDone m p ⊎ IsOneOf p (drop next m.order)

  pub begun : IsWalk 0 (all_noted (parts_of rows (row_of rows t)) (unbegun (length rows)))
  begun =
      let ts = parts_of rows (row_of rows t) in
      let g = grows ts (unbegun (length rows)) in
      record {
        marks = g.marks ∙ length-replicate (length rows) false;
        sound = λ p h. record { between = []; chain = (g.asked p (subst (λ z. IsOneOf p z) g.order h), tt) };
        ordered = λ p h. subst (λ z. IsOneOf p z) (sym g.order) (fresh p g.more (g.before p h));
        first = λ q part l. g.all q part (subst (λ n. q.0 < n) (sym (length-replicate (length rows) false)) l);
        done = λ p h. inr (subst (λ z. IsOneOf p z) (sym g.order) (fresh p g.more (g.before p h)));
      }
    where
      fresh : (p : TypeId) (more : List TypeId) → IsSeen (unbegun (length rows)) p ⊎ IsOneOf p more → IsOneOf p more
      fresh p more (inl h) = absurd (none_marked (length rows) p.0 h)
      fresh p more (inr h) = h

  -- one more type has had its parts noted
  stepped : (next : ℕ) (m m' : Marks) (p : TypeId) → Grows (parts_of rows (row_of rows p)) m m' → IsWalk next m → slice_get m.order next ≡ Some p → IsWalk (suc next) m'
  stepped next m m' p g w e =
      record {
        marks = g.marks ∙ w.marks;
        sound = λ q h. leads q (one_of_both q m.order g.more (subst (λ z. IsOneOf q z) g.order h));
        ordered = λ q h. subst (λ z. IsOneOf q z) (sym g.order) (in_order q (g.before q h));
        first = still t w.first;
        done = λ q h. at_seen q (g.before q h);
      }
    where
      still : (q : TypeId) → IsDone m q → IsDone m' q
      still q d r part l = g.kept r (d r part l)

      leads : (q : TypeId) → IsOneOf q m.order ⊎ IsOneOf q g.more → LeadsTo rows t q
      leads q (inl h) = w.sound q h
      leads q (inr h) = chain_more rows t p q (w.sound p (one_at m.order next p e)) (g.asked q h)

      in_order : (q : TypeId) → IsSeen m q ⊎ IsOneOf q g.more → IsOneOf q (m.order ++ g.more)
      in_order q (inl h) = one_of_left q m.order g.more (w.ordered q h)
      in_order q (inr h) = one_of_right q m.order g.more h

      rest : drop (suc next) m'.order ≡ drop (suc next) m.order ++ g.more
      rest = ap (drop (suc next)) g.order ∙ drop-append-le (suc next) m.order g.more (slice_get_within m.order next p e)

      at_done : (q : TypeId) → IsDone m q ⊎ IsOneOf q (p ∷ drop (suc next) m.order) → IsDone m' q ⊎ IsOneOf q (drop (suc next) m'.order)
      at_done q (inl d) = inl (still q d)
      at_done q (inr (inl s)) = inl (subst (IsDone m') s (λ r part l. g.all r part (subst (λ n. r.0 < n) (sym w.marks) l)))
      at_done q (inr (inr h)) =
          inr (subst (λ z. IsOneOf q z) (sym rest) (one_of_left q (drop (suc next) m.order) g.more h))

      at_seen : (q : TypeId) → IsSeen m q ⊎ IsOneOf q g.more → IsDone m' q ⊎ IsOneOf q (drop (suc next) m'.order)
      at_seen q (inl h) = at_done q (subst (λ z. IsDone m q ⊎ IsOneOf q z) (drop_at m.order next p e) (w.done q h))
      at_seen q (inr h) = inr (subst (λ z. IsOneOf q z) (sym rest) (one_of_right q (drop (suc next) m.order) g.more h))

  pub step : (next : ℕ) (m : Marks) (p : TypeId) → IsWalk next m → slice_get m.order next ≡ Some p → IsWalk (suc next) (all_noted (parts_of rows (row_of rows p)) m)
  step next m p w e = stepped next m (all_noted (parts_of rows (row_of rows p)) m) p (grows (parts_of rows (row_of rows p)) m) w e

  -- the walk comes to an end
  pub nearer : (next : ℕ) (m : Marks) (p : TypeId) → slice_get m.order next ≡ Some p → let m' = all_noted (parts_of rows (row_of rows p)) m in unmarked m'.seen + (length m'.order - suc next) < unmarked m.seen + (length m.order - next)
  nearer next m p e =
      let g = grows (parts_of rows (row_of rows p)) m in
      let h = g.weight in
      let l = slice_get_within m.order next p e in
      let n = ap length g.order in
      omega (arith, h, l, n, length-append m.order g.more)

  -- chains stay within what is noted
  closed : (m : Marks) → ((p : TypeId) → IsSeen m p → IsDone m p) → (p : TypeId) (ps : List TypeId) (q : TypeId) → IsDone m p → IsChain rows p (ps ++ q ∷ []) → q.0 < length rows → IsSeen m q
  closed m all p [] q d c l = d q c.0 l
  closed m all p (x ∷ ps) q d c l = closed m all x ps q (all x (d x c.0 (begins x ps c.1))) c.1 l
    where
      begins : (x : TypeId) (ps : List TypeId) → IsChain rows x (ps ++ q ∷ []) → x.0 < length rows
      begins x [] c = has_row rows x q c.0
      begins x (y ∷ ps) c = has_row rows x y c.0

  ended : (next : ℕ) (m : Marks) → IsWalk next m → slice_get m.order next ≡ None → (p : TypeId) → IsSeen m p → IsDone m p
  ended next m w e p s = no_more (subst (λ z. IsDone m p ⊎ IsOneOf p z) (drop_past m.order next e) (w.done p s))
    where
      no_more : IsDone m p ⊎ IsOneOf p [] → IsDone m p
      no_more (inl d) = d
      no_more (inr h) = absurd h

  -- in the end those are noted that a chain leads to
  pub found : (next : ℕ) (m : Marks) → IsWalk next m → slice_get m.order next ≡ None → (is_seen (slice_get m.seen t.0) ≡ true) ↔ ContainsItself rows t
  found next m w e = (λ h. w.sound t (w.ordered t (mark (slice_get m.seen t.0) h)), λ c. comes c)
    where
      mark : (o : Option Bool) → is_seen o ≡ true → o ≡ Some true
      mark None h = absurd (cc)
      mark (Some b) h = ap (λ z. Some z) h

      comes : ContainsItself rows t → is_seen (slice_get m.seen t.0) ≡ true
      comes c = ap is_seen (closed m (ended next m w e) t c.between t w.first c.chain (begins_added rows t t c))
