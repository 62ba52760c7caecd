-- A table of names, seen by their bytes: a look into it, and one name more.
use Rattle.std.proofs.Common.{◌≡◌, ℕ, List, [], ◌∷◌, ◌++◌, Bool, true, false, cond, Option, Some, None, is_some, Bor, refl, ap, bytes_eq, if◌then◌else◌}
use Rattle.std.specs.Map.{lookup}
use Rattle.indexmap.specs.IndexMap.{insert_entry}
use Rattle.aos_symbols.specs.declared.scope.Entry.{Entry}
use Rattle.aos_symbols.specs.Scope.{Named, Scope, has, named, seen_names, with_name}

pub find_named : (w : List ℕ) (es : List (Bor (List ℕ) × Entry)) → lookup (λ k. bytes_eq w k.now) es ≡ lookup (λ k. bytes_eq w k) (seen_names es)
find_named w [] = refl
find_named w (e ∷ es) = ap (λ z. cond (bytes_eq w e.0.now) (Some e.1) z) (find_named w es)

module _ (k : Bor (List ℕ)) (x : Entry) where
  -- the names of a table into which a new one is put
  named_by : (b : Bool) (e : Bor (List ℕ) × Entry) (es more : List (Bor (List ℕ) × Entry)) (rest : Option Entry) → cond b (Some e.1) rest ≡ None →
      (rest ≡ None → seen_names more ≡ seen_names es ++ (k.now, x) ∷ []) →
      seen_names (if b then (e.0, x) ∷ es else e ∷ more) ≡ named e ∷ (seen_names es ++ (k.now, x) ∷ [])
  named_by true e es more rest none more_is = cc
  named_by false e es more rest none more_is = ap (λ z. named e ∷ z) (more_is none)

  pub named_more : (es : List (Bor (List ℕ) × Entry)) → lookup (λ q. bytes_eq k.now q) (seen_names es) ≡ None →
      seen_names (insert_entry (λ a b. bytes_eq a.now b.now) es k x) ≡ seen_names es ++ (k.now, x) ∷ []
  named_more [] none = refl
  named_more (e ∷ es) none =
      named_by (bytes_eq k.now e.0.now) e es (insert_entry (λ a b. bytes_eq a.now b.now) es k x) (lookup (λ q. bytes_eq k.now q) (seen_names es)) none (named_more es)

pub none_of : {A : Type 0} (o : Option A) → is_some o ≡ false → o ≡ None
none_of None e = refl
none_of (Some a) e = cc

pub new_name : (s : Scope) (n : Named) → has s n.0 ≡ false → with_name s n ≡ record s { entries = s.entries ++ n ∷ [] }
new_name s n e = ap (λ b. if b then s else record s { entries = s.entries ++ n ∷ [] }) e
