-- What edges say of sets.
use Rattle.std.proofs.Common.{◌≡◌, ◌<◌, ◌≤◌, ◌+◌, ℕ, List, [], ◌∷◌, ◌++◌, length, Bool, true, false, IsTrue, refl, ◌∙◌, sym, ap, subst, arith, inl, inr}
use Rattle.std.specs.Prelude.{◌↔◌, Option, Some, None, slice_get, nat_lt, nat_le, if◌then◌else◌, ◌&&◌, option_map}
use Rattle.std.proofs.lemmas.Bool.{lt-ltb, le-ltb, ltb-true}
use Rattle.std.proofs.lemmas.List.Elements.{All-pop, All-push, All-same}
use Rattle.std.specs.Option.{unwrap_or}
use Rattle.std.proofs.lemmas.Bool.Decides.{eqb_tells}
use Rattle.aos_base.specs.Rooted.{by_number}
use Rattle.aos_types.specs.Extension.{comes_to}
use Rattle.aos_typed.specs.declared.tree.TType.TheVariants.{Named}
use Rattle.aos_typed.specs.Methods.{own_numbers, slots}
use Rattle.aos_typed.specs.Numbers.{id_of, procedure_number}
use Rattle.aos_typed.specs.Program.{Program}
use Rattle.aos_typed.specs.Routines.{Routine, routines}
use Rattle.aos_guard.specs.declared.marks.Edge.{Edge}
use Rattle.aos_guard.specs.Edges.{HasBelow, LeadsFrom}
use Rattle.aos_uses.specs.Guarded.{IsNamed, is_initial, is_marked, method_of}
use Rattle.aos_guard.specs.Marks.{IsClosed, KeepsEdge}
use Rattle.aos_guard.proofs.Texts.{some_of}

-- one more edge
pub closed_put : (old new : List Edge) (from to : ℕ) → new ≡ old ++ record { from = from; to = to } ∷ [] → (set : ℕ → Bool) → IsClosed new set ↔ (IsClosed old set × (IsTrue (set from) → IsTrue (set to)))
closed_put old new from to e set =
    let edge : Edge = record { from = from; to = to } in (
      λ h. (let q = All-pop (KeepsEdge set) new old (Some edge) e h in (q.0, q.1)),
      λ h. All-same (KeepsEdge set) new (old ++ edge ∷ []) e (All-push (KeepsEdge set) old edge h.0 h.1),
    )

module _ (p : Program) where
  -- what a type of the program has in a slot
  pub method_there : (t k : ℕ) (o : Option ℕ) → t < length p.objects → o ≡ slice_get (slots p (own_numbers p) t) k → o ≡ method_of p t k
  method_there t k o lt is =
      is ∙ sym (ap (λ b. if b then slice_get (slots p (own_numbers p) t) k else None) (lt-ltb t (length p.objects) lt))

  pub method_missing : (t k : ℕ) → length p.objects ≤ t → None ≡ method_of p t k
  method_missing t k le = sym (ap (λ b. if b then slice_get (slots p (own_numbers p) t) k else None) (le-ltb t (length p.objects) le))

  -- only types of the program have something in a slot
  chosen : (b : Bool) (o : Option ℕ) (m : ℕ) → (if b then o else None) ≡ Some m → b ≡ true
  chosen true o m e = refl
  chosen false o m e = absurd (cc e)

  pub in_program : (t k m : ℕ) → method_of p t k ≡ Some m → t < length p.objects
  in_program t k m e =
      ltb-true t (length p.objects) (chosen (nat_lt t (length p.objects)) (slice_get (slots p (own_numbers p) t) k) m e)

  -- a base that has in a slot what is named, among those before this number
  abbrev pub BelowBefore : (owner slot named before : ℕ) → Type 0
  BelowBefore u k m i = (base : ℕ) → base < i → (method_of p base k ≡ Some m) × (comes_to p.types (id_of (Named u)) (id_of (Named base)) ≡ true) → ⊥

  -- and so this one
  abbrev pub IsBelow : (owner base slot named : ℕ) → Type 0
  IsBelow u b k m = (method_of p b k ≡ Some m) × (comes_to p.types (id_of (Named u)) (id_of (Named b)) ≡ true)

  pub below_more : (u k m i n : ℕ) (b : Bool) → n ≡ i → b ≡ false → (IsTrue b ↔ IsBelow u n k m) → BelowBefore u k m i → BelowBefore u k m (i + 1)
  below_more u k m i n b same fails says before base lt h =
      elim (eqb_tells base i) [
        | inl e ↦ (let is : false ≡ true = sym fails ∙ says.1 (subst (λ x. IsBelow u x k m) (e.1 ∙ sym same) h) in absurd (cc is))
        | inr e ↦ before base (let ne = e.1 in omega (arith, lt, ne)) h
      ]

  pub below_first : (u k m : ℕ) → BelowBefore u k m 0
  below_first u k m base lt h = absurd (omega (arith, lt))

  -- none has it, or this one has
  pub below_none : (u k m i : ℕ) → length p.objects ≤ i → BelowBefore u k m i → IsTrue false ↔ HasBelow p u k m
  below_none u k m i le before =
      (λ fails. absurd (cc fails), λ h. absurd (before h.0 (let lt = in_program h.0 k m h.1.0 in omega (arith, lt, le)) h.1))

  pub below_found : (u k m n : ℕ) (b : Bool) → b ≡ true → (IsTrue b ↔ IsBelow u n k m) → IsTrue true ↔ HasBelow p u k m
  below_found u k m n b holds says = (λ t. (n, says.0 holds), λ h. refl)

  -- of the types before this number
  abbrev pub LeadBefore : (set : ℕ → Bool) → (slot named to before : ℕ) → Type 0
  LeadBefore set k m to i = (u : ℕ) → u < i → LeadsFrom p set u k m to

  pub lead_more : (set : ℕ → Bool) (k m to i : ℕ) → LeadBefore set k m to i → LeadsFrom p set i k m to → LeadBefore set k m to (i + 1)
  lead_more set k m to i before here u lt =
      elim (eqb_tells u i) [
        | inl e ↦ subst (λ v. LeadsFrom p set v k m to) (sym e.1) here
        | inr e ↦ before u (let ne = e.1 in omega (arith, lt, ne))
      ]

  pub lead_less : (set : ℕ → Bool) (k m to i : ℕ) → LeadBefore set k m to (i + 1) → LeadBefore set k m to i × LeadsFrom p set i k m to
  lead_less set k m to i h = (λ u lt. h u (omega (arith, lt)), h i (omega arith))

  -- those of all types are those of all that is named
  pub leads_named : (set : ℕ → Bool) (t k m to i : ℕ) → method_of p t k ≡ Some m → length p.objects ≤ i → LeadBefore set k m to i → (n : ℕ) → IsNamed p n t k → IsTrue (set n) → IsTrue (set to)
  leads_named set t k m to i there le h n named in_set =
      let same : named.named ≡ m = some_of (sym named.there ∙ there) in
      h named.owner (let lt = in_program named.owner k n named.own in omega (arith, lt, le)) n named.own
      (named.base, (named.below ∙ ap (λ x. Some x) same, named.extends)) in_set

  pub named_leads : (set : ℕ → Bool) (t k m to i : ℕ) → method_of p t k ≡ Some m → ((n : ℕ) → IsNamed p n t k → IsTrue (set n) → IsTrue (set to)) → LeadBefore set k m to i
  named_leads set t k m to i there h u lt n own below in_set =
      h n (record { named = m; there = there; owner = u; own = own; base = below.0; below = below.1.0; extends = below.1.1 }) in_set

  -- nothing is named where the type has nothing there
  pub none_named : (set : ℕ → Bool) (t k to : ℕ) → method_of p t k ≡ None → (n : ℕ) → IsNamed p n t k → IsTrue (set n) → IsTrue (set to)
  none_named set t k to none n named in_set = absurd (let e : Some named.named ≡ None = sym named.there ∙ none in cc e)

  -- numbers behind all routines are no initializers
  by_none : (o : Option Routine) → o ≡ None → unwrap_or (option_map (λ r. is_marked r.own) o) false ≡ false
  by_none o e = ap (λ (x : Option Routine). unwrap_or (option_map (λ r. is_marked r.own) x) false) e

  and_false : (a b : Bool) → b ≡ false → (a && b) ≡ false
  and_false true b e = e
  and_false false b e = refl

  pub none_initial : (n : ℕ) → by_number n (routines p) ≡ None → is_initial p n ≡ false
  none_initial n e = and_false (nat_le (procedure_number p (length p.modules) 0) n) (unwrap_or (option_map (λ r. is_marked r.own) (by_number n (routines p))) false) (by_none (by_number n (routines p)) e)
