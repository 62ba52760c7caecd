-- Answers of tests put together.
use Rattle.std.proofs.Common.{◌≡◌, ℕ, List, length, map, Bool, true, false, IsTrue, ◌⊎◌, inl, inr, refl, ◌∙◌, sym, ap}
use Rattle.std.specs.Prelude.{◌↔◌, ◌&&◌, ◌||◌, ◌==◌, nat_lt, not}
use Rattle.std.proofs.lemmas.Bool.{eq-eqb}
use Rattle.std.proofs.lemmas.Bool.Decides.{eqb_tells}
use Rattle.std.proofs.lemmas.List.{length-map}
use Rattle.aos_typed.specs.declared.tree.TVariable.{TVariable}
use Rattle.aos_typed.specs.Program.{Program}
use Rattle.aos_typed.specs.Seen.{seen_variable}
use Rattle.aos_guard.specs.Edges.{AreMarks}
use Rattle.aos_uses.specs.Guarded.{IsQuiet}
use Rattle.aos_guard.specs.Marks.{marked}

-- both hold
pub both_hold : {K G : Type 0} (a b : Bool) → (IsTrue a ↔ K) → (IsTrue b ↔ G) → IsTrue (a && b) ↔ (K × G)
both_hold false b f g = (λ fails. absurd (cc fails), λ h. absurd (let e = f.1 h.0 in cc e))
both_hold true b f g = (λ holds. (f.0 refl, g.0 holds), λ h. g.1 h.1)

pub first_holds : {G : Type 0} (a b : Bool) → (IsTrue b ↔ G) → IsTrue (a && b) ↔ (IsTrue a × G)
first_holds a b g = both_hold a b (λ h. h, λ h. h) g

pub second_holds : {K : Type 0} (a b c : Bool) → (IsTrue a ↔ K) → b ≡ c → IsTrue (a && b) ↔ (K × (c ≡ true))
second_holds a b c f same = both_hold a b f (λ holds. sym same ∙ holds, λ h. same ∙ h)

-- one follows from the other
pub follows_so : {A B : Type 0} (b : Bool) → A → (IsTrue b ↔ B) → IsTrue b ↔ (A → B)
follows_so b a f = (λ holds h. f.0 holds, λ h. f.1 (h a))

pub follows_none : {A B : Type 0} → (A → ⊥) → IsTrue true ↔ (A → B)
follows_none fails = (λ holds h. absurd (fails h), λ h. refl)

pub never_so : {A : Type 0} → A → IsTrue false ↔ (A → ⊥)
never_so a = (λ fails. absurd (cc fails), λ h. absurd (h a))

-- equal numbers
differs : (h m : ℕ) → false ≡ (h == m) → h ≡ m → ⊥
differs h m same e = let holds : false ≡ true = same ∙ eq-eqb h m e in cc holds

equal : (h m : ℕ) → (h == m) ≡ true → h ≡ m
equal h m holds = elim (eqb_tells h m) [
  | inl e ↦ e.1
  | inr e ↦ absurd (let fails : true ≡ false = sym holds ∙ e.0 in cc fails)
]

-- four answers, of which the last is that of no
pub all_four : (a x e s : Bool) (h m : ℕ) (t : Bool) → e ≡ (h == m) → s ≡ t → IsTrue (((a && x) && e) && not s) ↔ (IsTrue a × (IsTrue x × ((h ≡ m) × (t ≡ false))))
all_four false x e s h m t same own = (λ fails. absurd (cc fails), λ k. absurd (cc k.0))
all_four true false e s h m t same own = (λ fails. absurd (cc fails), λ k. absurd (cc k.1.0))
all_four true true false s h m t same own = (λ fails. absurd (cc fails), λ k. absurd (differs h m same k.1.1.0))
all_four true true true true h m t same own = (λ fails. absurd (cc fails), λ k. absurd (let e : true ≡ false = own ∙ k.1.1.1 in cc e))
all_four true true true false h m t same own = (λ holds. (refl, (refl, (equal h m (sym same), sym own))), λ k. refl)

-- none of a module's variables, or one of the routine's own module
pub known_or : (a e s : Bool) (h m : ℕ) (t : Bool) → e ≡ (h == m) → s ≡ t → IsTrue (not a || (e && not s)) ↔ (IsTrue (not a) ⊎ ((h ≡ m) × (t ≡ false)))
known_or false e s h m t same own = (λ holds. inl refl, λ k. refl)
known_or true false s h m t same own = (λ fails. absurd (cc fails), λ k. absurd (elim k [ inl fails ↦ cc fails | inr x ↦ differs h m same x.0 ]))
known_or true true true h m t same own = (λ fails. absurd (cc fails), λ k. absurd (elim k [ inl fails ↦ cc fails | inr x ↦ (let e : true ≡ false = own ∙ x.1 in cc e) ]))
known_or true true false h m t same own = (λ holds. inr (equal h m (sym same), sym own), λ k. refl)

-- a field through SELF in a region, or in a quiet initializer
pub field_written : (p : Program) (quiet : List Bool) (self x m : Bool) (n : ℕ) → AreMarks p quiet → m ≡ marked quiet n → IsTrue (self && (x || m)) ↔ (IsTrue self × (IsTrue x ⊎ IsQuiet p n))
field_written p quiet self x m n are is = first_holds self (x || m) (either x m is)
  where
    either : (x m : Bool) → m ≡ marked quiet n → IsTrue (x || m) ↔ (IsTrue x ⊎ IsQuiet p n)
    either true m is = (λ holds. inl refl, λ k. refl)
    either false m is = (λ holds. inr ((are n).0 (sym is ∙ holds)), λ k. elim k [ inl fails ↦ absurd (cc fails) | inr q ↦ is ∙ (are n).1 q ])

-- a variable of a module is there
pub variable_there : (vs : List TVariable) (k n : ℕ) (b : Bool) → n ≡ length vs → b ≡ nat_lt k n → b ≡ nat_lt k (length (map seen_variable vs))
variable_there vs k n b long is = is ∙ ap (nat_lt k) (long ∙ sym (length-map vs seen_variable))
