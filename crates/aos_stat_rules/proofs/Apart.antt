-- The labels of a CASE by their first values: which of them a further one meets, and one more.
use Rattle.std.proofs.Common.{◌≡◌, ℤ, ◌≤ℤ◌, ◌<ℤ◌, int_le, List, [], ◌∷◌, ◌++◌, drop, length, Bool, true, false, ◌&&◌, ◌||◌, ◌⊎◌, inl, inr, Some, None, IsSome, refl, sym, ap, ◌∙◌, subst, arith}
use Rattle.std.specs.List.{list_any}
use Rattle.std.specs.Cmp.{int_ranks}
use Rattle.std.specs.Ordering.{MatchOrdering, int_cmp, is_gt, is_lt, is_eq}
use Rattle.std.proofs.lemmas.Int.{ints}
use Rattle.std.specs.declared.cmp.Ordering.{Ordering}
use Rattle.std.specs.declared.cmp.Ordering.TheVariants.{Less, Equal, Greater}
use Rattle.std.specs.BTreeMap.{BTreeMap, get, Updates}
use Rattle.std.proofs.Math.Bool.{and_comm}
use Rattle.std.proofs.lemmas.Bool.{and_parts, or_from, or_parts}
use Rattle.std.proofs.lemmas.List.{append-nil, append_assoc}
use Rattle.std.proofs.Math.Seq.{drop-append_seam}
use Rattle.std.proofs.lemmas.Option.{none-some}
use Rattle.std.proofs.lemmas.List.Folds.{list_any-append}
use Rattle.aos_typed.specs.declared.tree.LabelRange.{LabelRange}
use Rattle.aos_typed.specs.WellTyped.{meets, AreApart}
use Rattle.aos_stat_rules.specs.Taken.{AreTaken, range}

abbrev Ends : Type 0
Ends = BTreeMap ℤ ℤ

-- Tests and orders.

never : (b : Bool) → (b && false) ≡ false
never true = refl
never false = refl

both : (a b : Bool) → a ≡ true → b ≡ true → (a && b) ≡ true
both true b e f = f
both false b e f = e

not_both : (b : Bool) → b ≡ true → b ≡ false → ⊥
not_both true e f = absurd (cc)
not_both false e f = absurd (cc)

pub is_no_least : (a b : ℤ) → b <ℤ a → int_le a b ≡ false
is_no_least a b h = by (int_le a b) refl
  where
    by : (c : Bool) → int_le a b ≡ c → c ≡ false
    by true e = absurd (omega (arith, ints, e, h))
    by false e = refl

pub is_least : (a b : ℤ) → a ≤ℤ b → int_le a b ≡ true
is_least a b h = by (int_le a b) refl
  where
    by : (c : Bool) → int_le a b ≡ c → c ≡ true
    by true e = refl
    by false e = absurd (omega (arith, ints, e, h))

up_to : (a b : ℤ) → is_gt (int_cmp a b) ≡ false → a ≤ℤ b
up_to a b h = by (int_cmp a b) (int_ranks a b) h
  where
    by : (r : Ordering) → MatchOrdering r (a <ℤ b) (a ≡ b) (b <ℤ a) → is_gt r ≡ false → a ≤ℤ b
    by Less lt h = omega (arith, ints, lt)
    by Equal eq h = omega (arith, ints, eq)
    by Greater gt h = absurd (cc)

from_up_to : (a b : ℤ) → a ≤ℤ b → is_gt (int_cmp a b) ≡ false
from_up_to a b h = by (int_cmp a b) (int_ranks a b)
  where
    by : (r : Ordering) → MatchOrdering r (a <ℤ b) (a ≡ b) (b <ℤ a) → is_gt r ≡ false
    by Less lt = refl
    by Equal eq = refl
    by Greater gt = absurd (omega (arith, ints, gt, h))

not_behind : (a b : ℤ) → is_lt (int_cmp a b) ≡ false → b ≤ℤ a
not_behind a b h = by (int_cmp a b) (int_ranks a b) h
  where
    by : (r : Ordering) → MatchOrdering r (a <ℤ b) (a ≡ b) (b <ℤ a) → is_lt r ≡ false → b ≤ℤ a
    by Less lt h = absurd (cc)
    by Equal eq h = omega (arith, ints, eq)
    by Greater gt h = omega (arith, ints, gt)

meets_from : (r s : LabelRange) → r.low ≤ℤ s.high → s.low ≤ℤ r.high → r.low ≤ℤ r.high → s.low ≤ℤ s.high → meets r s ≡ true
meets_from r s a b c d =
    both (int_le r.low s.high && int_le s.low r.high) (int_le r.low r.high && int_le s.low s.high)
    (both (int_le r.low s.high) (int_le s.low r.high) (is_least r.low s.high a) (is_least s.low r.high b))
    (both (int_le r.low r.high) (int_le s.low s.high) (is_least r.low r.high c) (is_least s.low s.high d))

meets_parts : (r s : LabelRange) → meets r s ≡ true → (r.low ≤ℤ s.high) × (s.low ≤ℤ r.high)
meets_parts r s e =
    let p = and_parts (int_le r.low s.high && int_le s.low r.high) (int_le r.low r.high && int_le s.low s.high) e in
    let q = and_parts (int_le r.low s.high) (int_le s.low r.high) p.0 in
    (omega (arith, ints, q.0), omega (arith, ints, q.1))

-- an empty label meets none
pub empty_meets : (r : LabelRange) (ls : List LabelRange) → int_le r.low r.high ≡ false → list_any (meets r) ls ≡ false
empty_meets r [] h = refl
empty_meets r (s ∷ ls) h =
    ap (λ b. ((int_le r.low s.high && int_le s.low r.high) && (b && int_le s.low s.high)) || list_any (meets r) ls) h
    ∙ ap (λ b. b || list_any (meets r) ls) (never (int_le r.low s.high && int_le s.low r.high))
    ∙ empty_meets r ls h

none_meets_empty : (q r : LabelRange) → int_le r.low r.high ≡ false → meets q r ≡ false
none_meets_empty q r h =
    ap (λ b. (int_le q.low r.high && int_le r.low q.high) && (int_le q.low q.high && b)) h
    ∙ ap (λ b. (int_le q.low r.high && int_le r.low q.high) && b) (never (int_le q.low q.high))
    ∙ never (int_le q.low r.high && int_le r.low q.high)

-- No two labels meet.

meets_same : (r s : LabelRange) → meets r s ≡ meets s r
meets_same r s =
    ap (λ b. b && (int_le r.low r.high && int_le s.low s.high)) (and_comm (int_le r.low s.high) (int_le s.low r.high))
    ∙ ap (λ b. (int_le s.low r.high && int_le r.low s.high) && b) (and_comm (int_le r.low r.high) (int_le s.low s.high))

-- nor where one more meets none of them
pub apart_push : (ls : List LabelRange) (r : LabelRange) → AreApart ls → list_any (meets r) ls ≡ false → AreApart (ls ++ r ∷ [])
apart_push [] r apart none = (refl, tt)
apart_push (s ∷ ls) r apart none =
    let two = or_parts (meets r s) (list_any (meets r) ls) none in (
      list_any-append (meets s) ls (r ∷ [])
          ∙ or_from (list_any (meets s) ls) (meets s r || false) apart.0 (or_from (meets s r) false (meets_same s r ∙ two.0) refl),
      apart_push ls r apart.1 two.1,
    )

-- labels stand behind others
abbrev pub Behind : List LabelRange → List LabelRange → Type 0
Behind ls all = (rest : List LabelRange) × (all ≡ ls ++ rest)

pub none_behind : (ls : List LabelRange) → Behind ls ls
none_behind ls = ([], sym (append-nil ls))

pub one_behind : (ls all : List LabelRange) (r : LabelRange) → Behind ls all → Behind ls (all ++ r ∷ [])
one_behind ls all r (rest, same) = (rest ++ r ∷ [], ap (λ xs. xs ++ r ∷ []) same ∙ append_assoc ls rest (r ∷ []))

-- the labels of an arm stand between those before it and those of the arms behind it
pub between : (ls all more : List LabelRange) → Behind ls all → AreApart (all ++ more) → AreApart (ls ++ (drop (length ls) all ++ more))
between ls all more (rest, same) apart =
    subst AreApart
    (ap (λ xs. xs ++ more) same ∙ append_assoc ls rest more
    ∙ ap (λ xs. ls ++ (xs ++ more)) (sym (ap (λ xs. drop (length ls) xs) same ∙ drop-append_seam ls rest)))
    apart

pub no_labels : (m : Ends) → ((q : ℤ) → get int_cmp m q ≡ None) → AreTaken [] m
no_labels m none =
    record {
      found = λ r e. absurd (cc);
      label = λ r a b here e. absurd (none-some b (sym (none a) ∙ here));
      some = λ a b here. absurd (none-some b (sym (none a) ∙ here));
      apart = λ a b c d here there lt. absurd (none-some b (sym (none a) ∙ here));
    }

module _ (ls : List LabelRange) (m : Ends) (t : AreTaken ls m) (r : LabelRange) where
  -- no label begins at the end of r or before
  pub none_meets : ((q : ℤ) → is_gt (int_cmp q r.high) ≡ false → get int_cmp m q ≡ None) → list_any (meets r) ls ≡ false
  none_meets none = by (list_any (meets r) ls) refl
    where
      by : (b : Bool) → list_any (meets r) ls ≡ b → b ≡ false
      by true e =
          let f = t.found r e in
          let up = from_up_to f.0 r.high (meets_parts r (range f.0 f.1) f.3).1 in
          absurd (none-some f.1 (sym (none f.0 up) ∙ f.2))
      by false e = refl

  -- the last label that begins there goes from a to b
  pub last_meets : (a b : ℤ) → get int_cmp m a ≡ Some b → is_gt (int_cmp a r.high) ≡ false →
      ((q : ℤ) → is_gt (int_cmp q r.high) ≡ false → IsSome (get int_cmp m q) → is_lt (int_cmp a q) ≡ false) →
      r.low ≤ℤ r.high → list_any (meets r) ls ≡ int_le r.low b
  last_meets a b here up last some = by (int_le r.low b) refl
    where
      same : (x y : ℤ) → get int_cmp m x ≡ Some y → x ≡ a → y ≡ b
      same x y there e = cc

      earlier : (x y : ℤ) → get int_cmp m x ≡ Some y → x ≤ℤ a → r.low ≤ℤ y → int_le r.low b ≡ false → ⊥
      earlier x y there le low short = by (int_cmp x a) (int_ranks x a)
        where
          by : (o : Ordering) → MatchOrdering o (x <ℤ a) (x ≡ a) (a <ℤ x) → ⊥
          by Less lt = let z = t.apart x y a b there here lt in omega (arith, ints, z, low, short, t.some a b here)
          by Equal eq = let z = same x y there eq in omega (arith, ints, z, low, short)
          by Greater gt = omega (arith, ints, gt, le)

      by_any : (c : Bool) → list_any (meets r) ls ≡ c → int_le r.low b ≡ false → c ≡ false
      by_any false e short = refl
      by_any true e short =
          let f = t.found r e in
          let p = meets_parts r (range f.0 f.1) f.3 in
          let up = from_up_to f.0 r.high p.1 in
          absurd (earlier f.0 f.1 f.2 (not_behind a f.0 (last f.0 up (subst (λ o. IsSome o) (sym f.2) refl))) p.0 short)

      by : (c : Bool) → int_le r.low b ≡ c → list_any (meets r) ls ≡ c
      by true e = t.label r a b here (meets_from r (range a b) (omega (arith, ints, e)) (up_to a r.high up) some (t.some a b here))
      by false e = by_any (list_any (meets r) ls) refl e

  more_meets : (q : LabelRange) → list_any (meets q) (ls ++ r ∷ []) ≡ true → (list_any (meets q) ls ≡ true) ⊎ (meets q r ≡ true)
  more_meets q e = by (list_any (meets q) ls) (meets q r) refl refl (sym (list_any-append (meets q) ls (r ∷ [])) ∙ e)
    where
      by : (a b : Bool) → list_any (meets q) ls ≡ a → meets q r ≡ b → (a || (b || false)) ≡ true → (list_any (meets q) ls ≡ true) ⊎ (meets q r ≡ true)
      by true b e f h = inl e
      by false true e f h = inr f
      by false false e f h = absurd (cc)

  met_before : (q : LabelRange) → list_any (meets q) ls ≡ true → list_any (meets q) (ls ++ r ∷ []) ≡ true
  met_before q e = list_any-append (meets q) ls (r ∷ []) ∙ ap (λ b. b || (meets q r || false)) e

  met_last : (q : LabelRange) → meets q r ≡ true → list_any (meets q) (ls ++ r ∷ []) ≡ true
  met_last q e = list_any-append (meets q) ls (r ∷ []) ∙ ap (λ b. list_any (meets q) ls || (b || false)) e ∙ by (list_any (meets q) ls)
    where
      by : (b : Bool) → (b || true) ≡ true
      by true = refl
      by false = refl

  -- one more label, which is empty
  pub taken_empty : int_le r.low r.high ≡ false → AreTaken (ls ++ r ∷ []) m
  taken_empty short =
      record {
        found = λ q e. by q (more_meets q e);
        label = λ q a b here e. met_before q (t.label q a b here e);
        some = t.some;
        apart = t.apart;
      }
    where
      by : (q : LabelRange) → (list_any (meets q) ls ≡ true) ⊎ (meets q r ≡ true) → (a : ℤ) × (b : ℤ) × (get int_cmp m a ≡ Some b) × (meets q (range a b) ≡ true)
      by q (inl e) = t.found q e
      by q (inr e) = absurd (not_both (meets q r) e (none_meets_empty q r short))

  -- one more label that isn't empty and meets none
  module _ (low : int_le r.low r.high ≡ true) (apart : list_any (meets r) ls ≡ false) (n : Ends) (u : Updates int_cmp m n r.low (Some r.high)) where
    fits : r.low ≤ℤ r.high
    fits = omega (arith, ints, low)

    here_or_there : (q : ℤ) → ((q ≡ r.low) × (get int_cmp n q ≡ Some r.high)) ⊎ (get int_cmp n q ≡ get int_cmp m q)
    here_or_there q = by (int_cmp r.low q) refl (int_ranks r.low q)
      where
        by : (o : Ordering) → int_cmp r.low q ≡ o → MatchOrdering o (r.low <ℤ q) (r.low ≡ q) (q <ℤ r.low) →
            ((q ≡ r.low) × (get int_cmp n q ≡ Some r.high)) ⊎ (get int_cmp n q ≡ get int_cmp m q)
        by Less is lt = inr (u.2 q (ap (λ o. is_eq o) is))
        by Equal is eq = inl (sym eq, ap (λ x. get int_cmp n x) (sym eq) ∙ u.1)
        by Greater is gt = inr (u.2 q (ap (λ o. is_eq o) is))

    beside : (a b : ℤ) → get int_cmp m a ≡ Some b → (b <ℤ r.low) ⊎ (r.high <ℤ a)
    beside a b here = by (int_le r.low b) (int_le a r.high) refl refl
      where
        by : (x y : Bool) → int_le r.low b ≡ x → int_le a r.high ≡ y → (b <ℤ r.low) ⊎ (r.high <ℤ a)
        by false y e f = inl (omega (arith, ints, e))
        by true false e f = inr (omega (arith, ints, f))
        by true true e f =
            absurd (not_both (list_any (meets r) ls)
            (t.label r a b here (meets_from r (range a b) (omega (arith, ints, e)) (omega (arith, ints, f)) fits (t.some a b here))) apart)

    old : (a b : ℤ) → get int_cmp m a ≡ Some b → a ≡ r.low → ⊥
    old a b here e = by (beside a b here)
      where
        by : (b <ℤ r.low) ⊎ (r.high <ℤ a) → ⊥
        by (inl lt) = omega (arith, ints, lt, e, t.some a b here)
        by (inr lt) = omega (arith, ints, lt, e, fits)

    stays : (a b : ℤ) → get int_cmp m a ≡ Some b → get int_cmp n a ≡ Some b
    stays a b here = by (here_or_there a)
      where
        by : ((a ≡ r.low) × (get int_cmp n a ≡ Some r.high)) ⊎ (get int_cmp n a ≡ get int_cmp m a) → get int_cmp n a ≡ Some b
        by (inl new) = absurd (old a b here new.0)
        by (inr same) = same ∙ here

    -- what has an end is the new label or one of those before
    of_new : (a b : ℤ) → get int_cmp n a ≡ Some b → ((a ≡ r.low) × (b ≡ r.high)) ⊎ (get int_cmp m a ≡ Some b)
    of_new a b here = by (here_or_there a)
      where
        end : get int_cmp n a ≡ Some r.high → b ≡ r.high
        end e = cc

        by : ((a ≡ r.low) × (get int_cmp n a ≡ Some r.high)) ⊎ (get int_cmp n a ≡ get int_cmp m a) → ((a ≡ r.low) × (b ≡ r.high)) ⊎ (get int_cmp m a ≡ Some b)
        by (inl new) = inl (new.0, end new.1)
        by (inr same) = inr (sym same ∙ here)

    pub taken_more : AreTaken (ls ++ r ∷ []) n
    taken_more =
        record {
          found = λ q e. by_found q (more_meets q e);
          label = λ q a b here e. by_label q a b e (of_new a b here);
          some = λ a b here. by_some a b (of_new a b here);
          apart = λ a b c d here there lt. by_apart a b c d lt (of_new a b here) (of_new c d there);
        }
      where
        by_found : (q : LabelRange) → (list_any (meets q) ls ≡ true) ⊎ (meets q r ≡ true) → (a : ℤ) × (b : ℤ) × (get int_cmp n a ≡ Some b) × (meets q (range a b) ≡ true)
        by_found q (inl e) = let f = t.found q e in (f.0, f.1, stays f.0 f.1 f.2, f.3)
        by_found q (inr e) = (r.low, r.high, u.1, e)

        by_label : (q : LabelRange) (a b : ℤ) → meets q (range a b) ≡ true → ((a ≡ r.low) × (b ≡ r.high)) ⊎ (get int_cmp m a ≡ Some b) →
            list_any (meets q) (ls ++ r ∷ []) ≡ true
        by_label q a b e (inl new) = met_last q (sym (ap (λ x. meets q (range x b)) new.0 ∙ ap (λ y. meets q (range r.low y)) new.1) ∙ e)
        by_label q a b e (inr here) = met_before q (t.label q a b here e)

        by_some : (a b : ℤ) → ((a ≡ r.low) × (b ≡ r.high)) ⊎ (get int_cmp m a ≡ Some b) → a ≤ℤ b
        by_some a b (inl new) = omega (arith, ints, new.0, new.1, fits)
        by_some a b (inr here) = t.some a b here

        before : (a b : ℤ) → get int_cmp m a ≡ Some b → a <ℤ r.low → b <ℤ r.low
        before a b here lt = by (beside a b here)
          where
            by : (b <ℤ r.low) ⊎ (r.high <ℤ a) → b <ℤ r.low
            by (inl x) = x
            by (inr x) = absurd (omega (arith, ints, x, lt, fits))

        behind : (c d : ℤ) → get int_cmp m c ≡ Some d → r.low <ℤ c → r.high <ℤ c
        behind c d there lt = by (beside c d there)
          where
            by : (d <ℤ r.low) ⊎ (r.high <ℤ c) → r.high <ℤ c
            by (inl x) = absurd (omega (arith, ints, x, lt, t.some c d there))
            by (inr x) = x

        by_apart : (a b c d : ℤ) → a <ℤ c → ((a ≡ r.low) × (b ≡ r.high)) ⊎ (get int_cmp m a ≡ Some b) → ((c ≡ r.low) × (d ≡ r.high)) ⊎ (get int_cmp m c ≡ Some d) → b <ℤ c
        by_apart a b c d lt (inl new) (inl also) = absurd (omega (arith, ints, lt, new.0, also.0))
        by_apart a b c d lt (inl new) (inr there) = let z = behind c d there (omega (arith, ints, lt, new.0)) in omega (arith, ints, z, new.1)
        by_apart a b c d lt (inr here) (inl also) = let z = before a b here (omega (arith, ints, lt, also.0)) in omega (arith, ints, z, also.0)
        by_apart a b c d lt (inr here) (inr there) = t.apart a b c d here there lt
