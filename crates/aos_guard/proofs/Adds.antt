-- What more edges say of the sets that stay within marks.
use Rattle.std.proofs.Common.{◌≡◌, ◌<◌, ◌≤◌, ◌+◌, ℕ, suc, List, [], ◌∷◌, length, drop, get_or, Bool, true, false, IsTrue, refl, ◌∙◌, sym, ap, subst, arith}
use Rattle.std.specs.Prelude.{◌↔◌, Some, None, slice_get}
use Rattle.std.specs.declared.vec.Vec.{Vec}
use Rattle.std.specs.declared.alloc.Global.{Global}
use Rattle.std.proofs.lemmas.List.{drop_more, drop_all}
use Rattle.std.proofs.lemmas.Option.{slice_get_read}
use Rattle.aos_typed.specs.Program.{Program}
use Rattle.aos_guard.specs.declared.marks.Edge.{Edge}
use Rattle.aos_uses.specs.declared.uses.Use.{Use}
use Rattle.aos_uses.specs.declared.uses.Use.TheVariants.{Raises}
use Rattle.aos_guard.specs.Edges.{HasBelow, InTexts, LeadsFrom}
use Rattle.aos_uses.specs.Guarded.{Each, IsNamed, Keeps, method_of, raised}
use Rattle.aos_guard.specs.Marks.{IsClosed, IsWithin, marked}
use Rattle.aos_guard.proofs.Edges.{LeadBefore, lead_less, lead_more, leads_named, named_leads, none_named}
use Rattle.aos_guard.proofs.Texts.{Before, before_all, before_less, before_more, before_none, before_some, some_of}

module _ (ms : List Bool) where
  -- a set is closed under the new edges where it is under the old ones and this holds of it
  abbrev pub Adds : (old new : List Edge) → ((set : ℕ → Bool) → Type 0) → Type 0
  Adds old new R = (set : ℕ → Bool) → IsWithin set (marked ms) → IsClosed new set ↔ (IsClosed old set × R set)

  -- and this is what one edge more says
  abbrev pub Puts : (old new : List Edge) → (from to : ℕ) → Type 0
  Puts old new from to = (set : ℕ → Bool) → IsClosed new set ↔ (IsClosed old set × (IsTrue (set from) → IsTrue (set to)))

  pub adds_nothing : (old : List Edge) (R : (set : ℕ → Bool) → Type 0) → ((set : ℕ → Bool) → IsWithin set (marked ms) → R set) → Adds old old R
  adds_nothing old R all set within = (λ h. (h, all set within), λ h. h.0)

  pub adds_unit : (old : List Edge) → Adds old old (λ set. Unit {0})
  adds_unit old set within = (λ h. (h, tt), λ h. h.0)

  adds_as : (old new : List Edge) (R S : (set : ℕ → Bool) → Type 0) → ((set : ℕ → Bool) → IsWithin set (marked ms) → R set ↔ S set) → Adds old new R → Adds old new S
  adds_as old new R S f h set within =
      (λ k. (let x = (h set within).0 k in (x.0, (f set within).0 x.1)), λ k. (h set within).1 (k.0, (f set within).1 k.1))

  adds_both : (old mid new : List Edge) (R S : (set : ℕ → Bool) → Type 0) → Adds old mid R → Adds mid new S → Adds old new (λ set. R set × S set)
  adds_both old mid new R S f g set within = (
    λ h. (let y = (g set within).0 h in let x = (f set within).0 y.0 in (x.0, (x.1, y.1))),
    λ h. (g set within).1 ((f set within).1 (h.0, h.1.0), h.1.1),
  )

  -- an edge to the number that nothing has
  pub loud_put : (old new : List Edge) (j : ℕ) → marked ms 0 ≡ false → Puts old new j 0 → Adds old new (λ set. IsTrue (set j) → ⊥)
  loud_put old new j none put set within =
      (λ h. (let x = (put set).0 h in (x.0, λ in_set. nothing (x.1 in_set))), λ h. (put set).1 (h.0, λ in_set. absurd (h.1 in_set)))
    where
      nothing : IsTrue (set 0) → ⊥
      nothing in_set = let e : false ≡ true = sym none ∙ within 0 in_set in cc e

  module _ (p : Program) where
    -- a type in one of whose slots nothing is,
    pub owner_none : (old : List Edge) (u k m to : ℕ) → method_of p u k ≡ None → Adds old old (λ set. LeadsFrom p set u k m to)
    owner_none old u k m to none = adds_nothing old (λ set. LeadsFrom p set u k m to) (λ set within j is below in_set. absurd (let e : Some j ≡ None = sym is ∙ none in cc e))

    -- or a method without a mark,
    pub owner_unmarked : (old : List Edge) (u k m to n : ℕ) → method_of p u k ≡ Some n → marked ms n ≡ false → Adds old old (λ set. LeadsFrom p set u k m to)
    owner_unmarked old u k m to n at none =
        adds_nothing old (λ set. LeadsFrom p set u k m to) (λ set within j is below in_set.
        let same : n ≡ j = some_of (sym at ∙ is) in
        absurd (let e : false ≡ true = sym none ∙ ap (marked ms) same ∙ within j in_set in cc e))

    -- or one that leads to nothing that is named,
    pub owner_loose : (old : List Edge) (u k m to : ℕ) (b : Bool) → b ≡ false → (IsTrue b ↔ HasBelow p u k m) → Adds old old (λ set. LeadsFrom p set u k m to)
    owner_loose old u k m to b fails says =
        adds_nothing old (λ set. LeadsFrom p set u k m to) (λ set within j is below in_set.
        absurd (let e : false ≡ true = sym fails ∙ says.1 below in cc e))

    -- and one that does
    pub owner_put : (old new : List Edge) (u k m to n : ℕ) (b : Bool) → method_of p u k ≡ Some n → b ≡ true → (IsTrue b ↔ HasBelow p u k m) → Puts old new n to → Adds old new (λ set. LeadsFrom p set u k m to)
    owner_put old new u k m to n b at holds says put set within = (
      λ h. (let x = (put set).0 h in (x.0, λ j is other in_set. (let same : n ≡ j = some_of (sym at ∙ is) in x.1 (subst (λ i. IsTrue (set i)) (sym same) in_set)))),
      λ h. (put set).1 (h.0, h.1 n at (says.0 holds)),
    )

    -- those of the types before a number
    pub leads_first : (old : List Edge) (k m to : ℕ) → Adds old old (λ set. LeadBefore p set k m to 0)
    leads_first old k m to = adds_nothing old (λ set. LeadBefore p set k m to 0) (λ set within u lt. absurd (omega (arith, lt)))

    pub leads_more : (old mid new : List Edge) (k m to i n : ℕ) → n ≡ i → Adds old mid (λ set. LeadBefore p set k m to i) → Adds mid new (λ set. LeadsFrom p set n k m to) → Adds old new (λ set. LeadBefore p set k m to (i + 1))
    leads_more old mid new k m to i n same f g' =
        let g : Adds mid new (λ set. LeadsFrom p set i k m to) = subst (λ j. Adds mid new (λ set. LeadsFrom p set j k m to)) same g' in
        adds_as old new (λ set. LeadBefore p set k m to i × LeadsFrom p set i k m to) (λ set. LeadBefore p set k m to (i + 1))
        (λ set within. (λ h. lead_more p set k m to i h.0 h.1, λ h. lead_less p set k m to i h))
        (adds_both old mid new (λ set. LeadBefore p set k m to i) (λ set. LeadsFrom p set i k m to) f g)

    -- all that is named leads to a number
    abbrev pub NamedLead : (type slot to : ℕ) → (set : ℕ → Bool) → Type 0
    NamedLead t k to set = (n : ℕ) → IsNamed p n t k → IsTrue (set n) → IsTrue (set to)

    pub named_missing : (old : List Edge) (t k to : ℕ) → method_of p t k ≡ None → Adds old old (NamedLead t k to)
    named_missing old t k to none = adds_nothing old (NamedLead t k to) (λ set within. none_named p set t k to none)

    pub named_all : (old new : List Edge) (t k m to i : ℕ) → method_of p t k ≡ Some m → length p.objects ≤ i → Adds old new (λ set. LeadBefore p set k m to i) → Adds old new (NamedLead t k to)
    named_all old new t k m to i there le f =
        adds_as old new (λ set. LeadBefore p set k m to i) (NamedLead t k to)
        (λ set within. (λ h. leads_named p set t k m to i there le h, λ h. named_leads p set t k m to i there h)) f

    abbrev pub K : (text : ℕ) → Use → (set : ℕ → Bool) → Type 0
    K j u set = Keeps p (λ n. IsTrue (set n)) j u

    pub raised_put : (old mid new : List Edge) (j t k n : ℕ) → n ≡ raised p t k → Puts old mid j n → Adds mid new (NamedLead t k j) → Adds old new (K j (Raises t k))
    raised_put old mid new j t k n is put f =
        let first : Adds old mid (λ set. IsTrue (set j) → IsTrue (set (raised p t k))) = subst (λ i. Adds old mid (λ set. IsTrue (set j) → IsTrue (set i))) is (λ set within. put set) in
        adds_both old mid new (λ set. IsTrue (set j) → IsTrue (set (raised p t k))) (NamedLead t k j) first f

    -- what is named has nothing
    pub found_put : (old new : List Edge) (t k : ℕ) → marked ms 0 ≡ false → Adds old new (NamedLead t k 0) → Adds old new (λ set. (n : ℕ) → IsNamed p n t k → IsTrue (set n) → ⊥)
    found_put old new t k none f =
        adds_as old new (NamedLead t k 0) (λ set. (n : ℕ) → IsNamed p n t k → IsTrue (set n) → ⊥)
        (λ set within. (λ h n named in_set. (let e : false ≡ true = sym none ∙ within 0 (h n named in_set) in cc e), λ h n named in_set. absurd (h n named in_set))) f

    -- The uses of a text: the edges so far and those that are left say what all do.

    abbrev pub Left : (old now : List Edge) → (text : ℕ) → List Use → ℕ → Type 0
    Left old now j us i =
        (set : ℕ → Bool) → IsWithin set (marked ms)
        → (IsClosed now set × Each (λ u. K j u set) (drop i us)) ↔ (IsClosed old set × Each (λ u. K j u set) us)

    pub left_first : (old : List Edge) (j : ℕ) (us : List Use) → Left old old j us 0
    left_first old j us set within = (λ h. h, λ h. h)

    pub left_more : (old now new : List Edge) (j : ℕ) (us : List Use) (i : ℕ) (d : Use) → i < length us → Adds now new (K j (get_or us i d)) → Left old now j us i → Left old new j us (i + 1)
    left_more old now new j us i d lt f left set within =
        let here : drop i us ≡ get_or us i d ∷ drop (i + 1) us = drop_more us i d lt in
        let R = λ (x : Use). K j x set in (
          λ h. (let x = (f set within).0 h.0 in (left set within).0 (x.0, subst (Each R) (sym here) (x.1, h.1))),
          λ h. (let y = (left set within).1 h in let z = subst (Each R) here y.1 in ((f set within).1 (y.0, z.0), z.1)),
        )

    pub left_last : (old now : List Edge) (j : ℕ) (us : List Use) (i : ℕ) → length us ≤ i → Left old now j us i → Adds old now (λ set. Each (λ u. K j u set) us)
    left_last old now j us i le left set within =
        let R = λ (x : Use). K j x set in
        (λ h. (left set within).0 (h, subst (Each R) (sym (drop_all i us le)) tt), λ h. ((left set within).1 h).0)

    -- The texts.

    abbrev pub Says : List Edge → List (Vec Use Global) → ℕ → Type 0
    Says now texts i = (set : ℕ → Bool) → IsWithin set (marked ms) → IsClosed now set ↔ Before (λ n u. K n u set) texts i

    pub says_first : (texts : List (Vec Use Global)) → Says [] texts 0
    says_first texts set within = (λ h. before_none (λ n u. K n u set) texts, λ h k d lt. absurd (omega (arith, lt)))

    pub says_more : (now new : List Edge) (texts : List (Vec Use Global)) (i n : ℕ) (us : Vec Use Global) → i < length texts → us ≡ get_or texts i us → n ≡ suc i → Adds now new (λ set. Each (λ u. K n u set) us.items) → Says now texts i → Says new texts (i + 1)
    says_more now new texts i n us lt is next f says set within =
        let at : slice_get texts i ≡ Some us = slice_get_read texts (length texts) i us refl lt is in
        let g : IsClosed new set ↔ (IsClosed now set × Each (λ u. K (suc i) u set) us.items) = subst (λ m. IsClosed new set ↔ (IsClosed now set × Each (λ u. K m u set) us.items)) next (f set within) in (
          λ h. (let x = g.0 h in before_more (λ m u. K m u set) texts i us at ((says set within).0 x.0) x.1),
          λ h. (let y = before_less (λ m u. K m u set) texts i us at h in g.1 ((says set within).1 y.0, y.1)),
        )

    pub says_last : (now : List Edge) (texts : List (Vec Use Global)) (i : ℕ) → length texts ≤ i → Says now texts i → (set : ℕ → Bool) → IsWithin set (marked ms) → IsClosed now set ↔ InTexts (λ n u. K n u set) texts
    says_last now texts i le says set within = (
      λ h. before_all (λ n u. K n u set) texts i le ((says set within).0 h),
      λ h. (says set within).1 (before_some (λ n u. K n u set) texts i h),
    )
