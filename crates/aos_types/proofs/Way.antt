-- A walk that remembers of each type on its way how many fields were seen to have their counts: since counts that are made stay
-- made, none of these fields is looked at again.
use Rattle.std.proofs.Common.{◌≡◌, ℕ, suc, ◌+◌, ◌*◌, ◌-◌, ◌<◌, ◌≤◌, List, [], ◌∷◌, ◌++◌, length, take, Option, Some, None, refl, sym, ap, ◌∙◌, subst, arith}
use Rattle.std.specs.Prelude.{true, false, slice_get, slice_set}
use Rattle.std.specs.List.{flat_map}
use Rattle.aos_types.specs.declared.row.TypeId.{TypeId}
use Rattle.aos_types.specs.declared.row.TypeRow.{TypeRow}
use Rattle.aos_types.specs.declared.count.Step.{Step}
use Rattle.aos_types.specs.Table.{row_of}
use Rattle.aos_types.specs.Chain.{held, NoneContainsItself}
use Rattle.aos_types.specs.Count.{capped, is_missing, of_row, made, missing_part, fields_of, AreSeen}
use Rattle.aos_types.proofs.Path.{IsWalking, absent, none_found, found_none, still, top_waits, walk_begins, walk_on, walk_back, walk_round, walk_ends, nearer_back}

abbrev pub types : List Step → List TypeId
types [] = []
types (s ∷ ss) = s.at ∷ types ss

types_more : (ss : List Step) (s : Step) → types (ss ++ s ∷ []) ≡ types ss ++ s.at ∷ []
types_more [] s = refl
types_more (x ∷ ss) s = ap (λ z. x.at ∷ z) (types_more ss s)

types_long : (ss : List Step) → length (types ss) ≡ length ss
types_long [] = refl
types_long (s ∷ ss) = ap (λ n. suc n) (types_long ss)

module _ (rows : List TypeRow) where
  abbrev IsSeen : List (Option ℕ) → Step → Type 0
  IsSeen counts s = AreSeen rows counts (fields_of (row_of rows s.at)) s.seen

  abbrev AllSeen : List (Option ℕ) → List Step → Type 0
  AllSeen counts [] = Unit {0}
  AllSeen counts (s ∷ ss) = IsSeen counts s × AllSeen counts ss

  all_before : (counts : List (Option ℕ)) (ss : List Step) (s : Step) → AllSeen counts (ss ++ s ∷ []) → AllSeen counts ss
  all_before counts [] s a = tt
  all_before counts (x ∷ ss) s a = (a.0, all_before counts ss s a.1)

  last_seen : (counts : List (Option ℕ)) (ss : List Step) (s : Step) → AllSeen counts (ss ++ s ∷ []) → IsSeen counts s
  last_seen counts [] s a = a.0
  last_seen counts (x ∷ ss) s a = last_seen counts ss s a.1

  all_more : (counts : List (Option ℕ)) (ss : List Step) (s : Step) → AllSeen counts ss → IsSeen counts s → AllSeen counts (ss ++ s ∷ [])
  all_more counts [] s a b = (b, tt)
  all_more counts (x ∷ ss) s a b = (a.0, all_more counts ss s a.1 b)

  -- one more count leaves them
  seen_still : (counts : List (Option ℕ)) (top : TypeId) (v : ℕ) → slice_get counts top.0 ≡ Some None → (s : Step) → IsSeen counts s → IsSeen (slice_set counts top.0 (Some v)) s
  seen_still counts top v waits s e =
      let ts = flat_map (held rows) (take s.seen (fields_of (row_of rows s.at))) in
      let none = none_found (λ q. is_missing (slice_get counts q.0)) ts e in
      found_none (λ q. is_missing (slice_get (slice_set counts top.0 (Some v)) q.0)) ts (λ q o. ap is_missing (still rows counts top v waits q (none q o)) ∙ none q o)

  all_still : (counts : List (Option ℕ)) (top : TypeId) (v : ℕ) → slice_get counts top.0 ≡ Some None → (ss : List Step) → AllSeen counts ss → AllSeen (slice_set counts top.0 (Some v)) ss
  all_still counts top v waits [] a = tt
  all_still counts top v waits (s ∷ ss) a = (seen_still counts top v waits s a.0, all_still counts top v waits ss a.1)

  pub record IsOnWay (first : List (Option ℕ)) (t : TypeId) (counts : List (Option ℕ)) (steps : List Step) : Type 0 where
    pub walking : IsWalking rows first t counts (types steps)
    pub seen : AllSeen counts steps

  abbrev begun : TypeId → Step
  begun t = record { at = t; seen = 0 }

  pub way_begins : (counts : List (Option ℕ)) (t : TypeId) → length counts ≡ length rows → is_missing (slice_get counts t.0) ≡ true → IsOnWay counts t counts (begun t ∷ [])
  way_begins counts t l m = record { walking = walk_begins rows counts t l m; seen = (refl, tt) }

  module _ (first : List (Option ℕ)) (t : TypeId) (counts : List (Option ℕ)) (steps : List Step) (ss : List Step) (top : Step) (popped : steps ≡ ss ++ top ∷ []) (w : IsOnWay first t counts steps) where
    way : IsWalking rows first t counts (types ss ++ top.at ∷ [])
    way = subst (IsWalking rows first t counts) (ap types popped ∙ types_more ss top) w.walking

    all : AllSeen counts (ss ++ top ∷ [])
    all = subst (AllSeen counts) popped w.seen

    pub top_is_missing : slice_get counts top.at.0 ≡ Some None
    top_is_missing = top_waits rows first t counts (types ss) top.at way

    pub top_is_seen : AreSeen rows counts (fields_of (row_of rows top.at)) top.seen
    top_is_seen = last_seen counts ss top all

    pub way_on : (p : TypeId) (n : ℕ) (mid after : List Step) → missing_part rows counts top.at ≡ Some p → AreSeen rows counts (fields_of (row_of rows top.at)) n → mid ≡ ss ++ record { at = top.at; seen = n } ∷ [] → length mid ≤ length rows → after ≡ mid ++ begun p ∷ [] → IsOnWay first t counts after
    way_on p n mid after e seen f l g =
        let now : Step = record { at = top.at; seen = n } in
        let long : types mid ≡ types ss ++ top.at ∷ [] = ap types f ∙ types_more ss now in
        let m = types_long mid in
        let k = ap length long in
        let h : length (types ss ++ top.at ∷ []) ≤ length rows = omega (arith, l, m, k) in
        record {
          walking = subst (IsWalking rows first t counts) (sym (ap types g ∙ types_more mid (begun p) ∙ ap (λ z. z ++ p ∷ []) long)) (walk_on rows first t counts (types ss) top.at way p e h);
          seen = subst (AllSeen counts) (sym g) (all_more counts mid (begun p) (subst (AllSeen counts) (sym f) (all_more counts ss now (all_before counts ss top all) seen)) refl);
        }

    pub way_back : (v : ℕ) → missing_part rows counts top.at ≡ None → v ≡ capped (of_row (made counts) rows (row_of rows top.at)) → IsOnWay first t (slice_set counts top.at.0 (Some v)) ss
    way_back v e n = record {
      walking = walk_back rows first t counts (types ss) top.at way v e n;
      seen = all_still counts top.at v top_is_missing ss (all_before counts ss top all);
    }

    pub way_round : (p : TypeId) (n : ℕ) (mid : List Step) → missing_part rows counts top.at ≡ Some p → mid ≡ ss ++ record { at = top.at; seen = n } ∷ [] → length rows < length mid → NoneContainsItself rows → ⊥
    way_round p n mid e f l =
        let now : Step = record { at = top.at; seen = n } in
        let k = ap length (ap types f ∙ types_more ss now) in
        let m = types_long mid in
        walk_round rows first t counts (types ss) top.at way p e (omega (arith, l, m, k))

    pub back_nearer : (v : ℕ) → absent (slice_set counts top.at.0 (Some v)) * (length rows + 2) + (suc (length rows) - length ss) < absent counts * (length rows + 2) + (suc (length rows) - length steps)
    back_nearer v =
        let n = nearer_back rows first t counts (types ss) top.at way v in
        let a = types_long ss in
        let b = ap length (types_more ss top) in
        let d = types_long (ss ++ top ∷ []) in
        let e = ap length popped in
        omega (arith, n, a, b, d, e)

  pub way_ends : (first : List (Option ℕ)) (t : TypeId) (counts : List (Option ℕ)) → IsOnWay first t counts [] → is_missing (slice_get counts t.0) ≡ false
  way_ends first t counts w = walk_ends rows first t counts w.walking
