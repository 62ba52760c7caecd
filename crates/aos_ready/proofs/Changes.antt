-- The queues after one of them has changed.
use Rattle.std.proofs.Common.{◌≡◌, ◌≢◌, ℕ, List, [], ◌∷◌, ◌++◌, refl, sym, ap, subst, ◌∙◌, arith, ◌⊎◌, inl, inr}
use Rattle.std.specs.List.{Contains}
use Rattle.std.specs.Prelude.{true, false, is_some, Option, Some, None, IfSome, IsNone, slice_get, not, cond}
use Rattle.std.proofs.lemmas.List.Elements.{Contains-push_cases}
use Rattle.std.proofs.lemmas.Bool.{eq-eqb}
use Rattle.aos_base.specs.declared.priority.Priority.{Priority}
use Rattle.aos_base.specs.declared.priority.Priority.TheVariants.{Low, Normal, High}
use Rattle.aos_queue.specs.declared.links.Links.{Links}
use Rattle.aos_queue.specs.declared.queue.Queue.{Queue}
use Rattle.aos_queue.specs.Lists.{list_in, without, Belongs, Apart, KeepsOthers, IsOnce}
use Rattle.aos_queue.proofs.Members.{here, there, among, without-none}
use Rattle.aos_queue.proofs.Runs.{is_once, more_touched}
use Rattle.aos_ready.specs.declared.ready.Ready.{Ready}
use Rattle.aos_ready.specs.Order.{queue_of, ready_in, all_ready, highest_of, highest_in, without_first, Belong}

abbrev pub with_queue : Ready → Priority → Queue → Ready
with_queue r Low q = record r { low = q }
with_queue r Normal q = record r { normal = q }
with_queue r High q = record r { high = q }

pub which : (p o : Priority) → (p ≡ o) ⊎ (p ≢ o)
which Low Low = inl refl
which Low Normal = inr (λ e. absurd (cc e))
which Low High = inr (λ e. absurd (cc e))
which Normal Low = inr (λ e. absurd (cc e))
which Normal Normal = inl refl
which Normal High = inr (λ e. absurd (cc e))
which High Low = inr (λ e. absurd (cc e))
which High Normal = inr (λ e. absurd (cc e))
which High High = inl refl

queue_same : (r : Ready) (p : Priority) (q : Queue) → queue_of (with_queue r p q) p ≡ q
queue_same r Low q = refl
queue_same r Normal q = refl
queue_same r High q = refl

queue_other : (r : Ready) (p o : Priority) (q : Queue) → o ≢ p → queue_of (with_queue r p q) o ≡ queue_of r o
queue_other r Low Low q ne = absurd (ne refl)
queue_other r Low Normal q ne = refl
queue_other r Low High q ne = refl
queue_other r Normal Low q ne = refl
queue_other r Normal Normal q ne = absurd (ne refl)
queue_other r Normal High q ne = refl
queue_other r High Low q ne = refl
queue_other r High Normal q ne = refl
queue_other r High High q ne = absurd (ne refl)

-- what has become of the queue of a priority: only numbers were touched that stand in no other one
pub record Changed (old new : Links) (r : Ready) (p : Priority) (q : Queue) (touched : List ℕ) : Type 0 where
  pub belong : Belong old r
  pub keeps : KeepsOthers old new touched
  pub belongs : Belongs new q
  pub outside : (o : Priority) → o ≢ p → Apart (list_in old (queue_of r o)) touched
  pub within : (n : ℕ) → Contains (list_in new q) n → Contains touched n

module _ (old new : Links) (r : Ready) (p : Priority) (q : Queue) (touched : List ℕ) (c : Changed old new r p q touched) where
  other_list : (o : Priority) → o ≢ p → list_in new (queue_of (with_queue r p q) o) ≡ list_in old (queue_of r o)
  other_list o ne = ap (list_in new) (queue_other r p o q ne) ∙ c.keeps.list (queue_of r o) (c.belong.belongs o) (c.outside o ne)

  pub other_ready : (o : Priority) → o ≢ p → ready_in new (with_queue r p q) o ≡ ready_in old r o
  unfolding ready_in
  other_ready o ne = other_list o ne

  pub this_ready : ready_in new (with_queue r p q) p ≡ list_in new q
  unfolding ready_in
  this_ready = ap (list_in new) (queue_same r p q)

  this_within : (n : ℕ) → Contains (list_in new (queue_of (with_queue r p q) p)) n → Contains touched n
  this_within n i = c.within n (subst (λ x. Contains (list_in new x) n) (queue_same r p q) i)

  pub belong_after : Belong new (with_queue r p q)
  belong_after = record {
    belongs = λ o. elim (which o p) [
      | inl e ↦ subst (λ x. Belongs new (queue_of (with_queue r p q) x)) (sym e) (subst (λ x. Belongs new x) (sym (queue_same r p q)) c.belongs)
      | inr ne ↦ subst (λ x. Belongs new x) (sym (queue_other r p o q ne)) (c.keeps.belongs (queue_of r o) (c.belong.belongs o) (c.outside o ne))
    ];
    apart = λ a b d. record {
      apart = λ n i j. elim (which a p) [
        | inl e ↦ (let f : b ≢ p = λ g. d (e ∙ sym g) in
            (c.outside b f).apart n (subst (λ ns. Contains ns n) (other_list b f) j) (this_within n (subst (λ x. Contains (list_in new (queue_of (with_queue r p q) x)) n) e i)))
        | inr ne ↦ elim (which b p) [
          | inl e ↦ (c.outside a ne).apart n (subst (λ ns. Contains ns n) (other_list a ne) i) (this_within n (subst (λ x. Contains (list_in new (queue_of (with_queue r p q) x)) n) e j))
          | inr nf ↦ (c.belong.apart a b d).apart n (subst (λ ns. Contains ns n) (other_list a ne) i) (subst (λ ns. Contains ns n) (other_list b nf) j)
        ]
      ];
    };
  }

-- one joins a queue
pub joined : (old new : Links) (r : Ready) (p : Priority) (q : Queue) (a : ℕ) → Belong old r → ((o : Priority) → Contains (ready_in old r o) a → ⊥) → KeepsOthers old new (a ∷ list_in old (queue_of r p)) → Belongs new q →
    list_in new q ≡ list_in old (queue_of r p) ++ a ∷ [] → Changed old new r p q (a ∷ list_in old (queue_of r p))
unfolding ready_in
joined old new r p q a belong nowhere keeps belongs is = record {
  belong = belong;
  keeps = keeps;
  belongs = belongs;
  outside = λ o ne. record {
    apart = λ n i j. elim (among a n (list_in old (queue_of r p)) j) [
      | inl e ↦ nowhere o (subst (λ k. Contains (list_in old (queue_of r o)) k) (sym e) i)
      | inr k ↦ (belong.apart o p ne).apart n i k
    ];
  };
  within = λ n i. elim (Contains-push_cases (list_in old (queue_of r p)) a n (subst (λ ns. Contains ns n) is i)) [
    | inl j ↦ there a n (list_in old (queue_of r p)) j
    | inr e ↦ subst (λ k. Contains (a ∷ list_in old (queue_of r p)) k) e (here a (list_in old (queue_of r p)))
  ];
}

-- the first one goes
pub first_gone : (old new : Links) (r : Ready) (p : Priority) (q : Queue) (a : ℕ) → Belong old r → KeepsOthers old new (list_in old (queue_of r p)) → Belongs new q → list_in old (queue_of r p) ≡ a ∷ list_in new q →
    Changed old new r p q (list_in old (queue_of r p))
first_gone old new r p q a belong keeps belongs is = record {
  belong = belong;
  keeps = keeps;
  belongs = belongs;
  outside = λ o ne. belong.apart o p ne;
  within = λ n i. subst (λ ns. Contains ns n) (sym is) (there a n (list_in new q) i);
}

pub lists_gone : (old new : Links) (r : Ready) (p : Priority) (q : Queue) (a : ℕ) → Belong old r → KeepsOthers old new (list_in old (queue_of r p)) → Belongs new q → list_in old (queue_of r p) ≡ a ∷ list_in new q →
    (o : Priority) → ready_in new (with_queue r p q) o ≡ without a (ready_in old r o)
unfolding ready_in
lists_gone old new r p q a belong keeps belongs is o =
    let c = first_gone old new r p q a belong keeps belongs is in
    let once : IsOnce (a ∷ list_in new q) = subst IsOnce is (is_once old (queue_of r p) (belong.belongs p)) in
    elim (which o p) [
      | inl e ↦ subst (λ x. ready_in new (with_queue r p q) x ≡ without a (ready_in old r x)) (sym e)
          (this_ready old new r p q (list_in old (queue_of r p)) c
          ∙ sym (without-none a (list_in new q) once.0) ∙ ap (λ b. cond (not b) (a ∷ without a (list_in new q)) (without a (list_in new q))) (sym (eq-eqb a a refl)) ∙ ap (without a) (sym is))
      | inr ne ↦ other_ready old new r p q (list_in old (queue_of r p)) c o ne
          ∙ sym (without-none a (list_in old (queue_of r o)) (λ i. (belong.apart o p ne).apart a i (subst (λ ns. Contains ns a) (sym is) (here a (list_in new q)))))
    ]

pub within_left : (ns ms : List ℕ) (n : ℕ) → Contains ns n → Contains (ns ++ ms) n
within_left [] ms n (k, l, e) = absurd (omega (arith, l))
within_left (m ∷ ns) ms n i = elim (among m n ns i) [
  | inl e ↦ subst (λ k. Contains (m ∷ (ns ++ ms)) k) e (here m (ns ++ ms))
  | inr j ↦ there m n (ns ++ ms) (within_left ns ms n j)
]

pub within_right : (ns ms : List ℕ) (n : ℕ) → Contains ms n → Contains (ns ++ ms) n
within_right [] ms n i = i
within_right (m ∷ ns) ms n i = there m n (ns ++ ms) (within_right ns ms n i)

pub within_all : (links : Links) (r : Ready) (p : Priority) (n : ℕ) → Contains (ready_in links r p) n → Contains (all_ready links r) n
within_all links r High n i = within_left (ready_in links r High) _ n i
within_all links r Normal n i = within_right (ready_in links r High) _ n (within_left (ready_in links r Normal) _ n i)
within_all links r Low n i = within_right (ready_in links r High) _ n (within_right (ready_in links r Normal) _ n i)

-- who goes is first in the queue of the highest priority
first_by : (high normal low : List ℕ) → highest_of high normal low ≡ None → high ++ (normal ++ low) ≡ []
first_by (n ∷ ns) normal low e = absurd (cc e)
first_by [] (n ∷ ns) low e = absurd (cc e)
first_by [] [] (n ∷ ns) e = absurd (cc e)
first_by [] [] [] e = refl

abbrev list_by : Priority → (high normal low : List ℕ) → List ℕ
list_by High high normal low = high
list_by Normal high normal low = normal
list_by Low high normal low = low

first_at : (p : Priority) (high normal low : List ℕ) → highest_of high normal low ≡ Some p → slice_get (high ++ (normal ++ low)) 0 ≡ slice_get (list_by p high normal low) 0
first_at High (n ∷ ns) normal low e = refl
first_at Normal (n ∷ ns) normal low e = absurd (cc e)
first_at Low (n ∷ ns) normal low e = absurd (cc e)
first_at High [] (n ∷ ns) low e = absurd (cc e)
first_at Normal [] (n ∷ ns) low e = refl
first_at Low [] (n ∷ ns) low e = absurd (cc e)
first_at High [] [] (n ∷ ns) e = absurd (cc e)
first_at Normal [] [] (n ∷ ns) e = absurd (cc e)
first_at Low [] [] (n ∷ ns) e = refl
first_at p [] [] [] e = absurd (cc e)

pub none_first : (links : Links) (r : Ready) → highest_in links r ≡ None → slice_get (all_ready links r) 0 ≡ None
none_first links r e = ap (λ ns. slice_get ns 0) (first_by (ready_in links r High) (ready_in links r Normal) (ready_in links r Low) e)

pub some_first : (links : Links) (r : Ready) (p : Priority) → highest_in links r ≡ Some p → slice_get (all_ready links r) 0 ≡ slice_get (ready_in links r p) 0
some_first links r High e = first_at High (ready_in links r High) (ready_in links r Normal) (ready_in links r Low) e
some_first links r Normal e = first_at Normal (ready_in links r High) (ready_in links r Normal) (ready_in links r Low) e
some_first links r Low e = first_at Low (ready_in links r High) (ready_in links r Normal) (ready_in links r Low) e

-- somebody stands in the first queue in which one does
nobody_first : (p : Priority) (high normal low : List ℕ) → highest_of high normal low ≡ Some p → list_by p high normal low ≡ [] → ⊥
nobody_first High (n ∷ ns) normal low e f = absurd (cc f)
nobody_first Normal (n ∷ ns) normal low e f = absurd (cc e)
nobody_first Low (n ∷ ns) normal low e f = absurd (cc e)
nobody_first High [] (n ∷ ns) low e f = absurd (cc e)
nobody_first Normal [] (n ∷ ns) low e f = absurd (cc f)
nobody_first Low [] (n ∷ ns) low e f = absurd (cc e)
nobody_first High [] [] (n ∷ ns) e f = absurd (cc e)
nobody_first Normal [] [] (n ∷ ns) e f = absurd (cc e)
nobody_first Low [] [] (n ∷ ns) e f = absurd (cc f)
nobody_first p [] [] [] e f = absurd (cc e)

not_empty : (links : Links) (r : Ready) (p : Priority) → highest_in links r ≡ Some p → list_in links (queue_of r p) ≡ [] → ⊥
unfolding ready_in
not_empty links r High e f = nobody_first High (ready_in links r High) (ready_in links r Normal) (ready_in links r Low) e f
not_empty links r Normal e f = nobody_first Normal (ready_in links r High) (ready_in links r Normal) (ready_in links r Low) e f
not_empty links r Low e f = nobody_first Low (ready_in links r High) (ready_in links r Normal) (ready_in links r Low) e f

-- what a call of next answers and leaves
pub record Goes (old new : Links) (r s : Ready) (next : Option ℕ) : Type 0 where
  pub first : next ≡ slice_get (all_ready old r) 0
  pub lists : (o : Priority) → ready_in new s o ≡ without_first next (ready_in old r o)
  pub belong : Belong new s
  pub others : KeepsOthers old new (all_ready old r)

pub goes : (old new : Links) (r : Ready) (p : Priority) (q : Queue) (next : Option ℕ) → Belong old r → highest_in old r ≡ Some p → KeepsOthers old new (list_in old (queue_of r p)) → Belongs new q →
    IfSome next (λ n. list_in old (queue_of r p) ≡ n ∷ list_in new q) → (IsNone next → list_in old (queue_of r p) ≡ []) → Goes old new r (with_queue r p q) next
unfolding ready_in
goes old new r p q None belong highest keeps belongs first empty = absurd (not_empty old r p highest (empty refl))
goes old new r p q (Some a) belong highest keeps belongs first empty = record {
  first = sym (some_first old r p highest ∙ ap (λ ns. slice_get ns 0) first);
  lists = lists_gone old new r p q a belong keeps belongs first;
  belong = belong_after old new r p q (list_in old (queue_of r p)) (first_gone old new r p q a belong keeps belongs first);
  others = more_touched old new (list_in old (queue_of r p)) (all_ready old r) (within_all old r p) keeps;
}

-- who is first, by the first of each queue
pub is_high : (links : Links) (r : Ready) (first : Option ℕ) → is_some first ≡ true → first ≡ slice_get (list_in links r.high) 0 → Some High ≡ highest_in links r
unfolding ready_in
is_high links r first some e =
    (elim (list_in links r.high) as (λ ns. is_some (slice_get ns 0) ≡ true → Some High ≡ highest_of ns (list_in links r.normal) (list_in links r.low)) [
      | [] ↦ λ f. absurd (cc f)
      | n ∷ ns ↦ λ f. refl
    ]) (sym (ap is_some e) ∙ some)

none_there : (ns : List ℕ) (first : Option ℕ) → is_some first ≡ false → first ≡ slice_get ns 0 → ns ≡ []
none_there [] first none e = refl
none_there (n ∷ ns) first none e = let z : false ≡ true = sym none ∙ ap is_some e in absurd (cc z)

some_there : (ns : List ℕ) (first : Option ℕ) → is_some first ≡ true → first ≡ slice_get ns 0 → (n : ℕ) × (ms : List ℕ) × (ns ≡ n ∷ ms)
some_there [] first some e = let z : true ≡ false = sym some ∙ ap is_some e in absurd (cc z)
some_there (n ∷ ns) first some e = (n, ns, refl)

pub is_normal : (links : Links) (r : Ready) (high first : Option ℕ) → is_some high ≡ false → high ≡ slice_get (list_in links r.high) 0 → is_some first ≡ true → first ≡ slice_get (list_in links r.normal) 0 → Some Normal ≡ highest_in links r
unfolding ready_in
is_normal links r high first none f some e =
    let s = some_there (list_in links r.normal) first some e in
    sym (λ i. highest_of (none_there (list_in links r.high) high none f i) (s.2 i) (list_in links r.low))

pub is_low : (links : Links) (r : Ready) (high normal first : Option ℕ) → is_some high ≡ false → high ≡ slice_get (list_in links r.high) 0 → is_some normal ≡ false → normal ≡ slice_get (list_in links r.normal) 0 →
    is_some first ≡ true → first ≡ slice_get (list_in links r.low) 0 → Some Low ≡ highest_in links r
unfolding ready_in
is_low links r high normal first none f none' g some e =
    let s = some_there (list_in links r.low) first some e in
    sym (λ i. highest_of (none_there (list_in links r.high) high none f i) (none_there (list_in links r.normal) normal none' g i) (s.2 i))

pub is_none : (links : Links) (r : Ready) (high normal low : Option ℕ) → is_some high ≡ false → high ≡ slice_get (list_in links r.high) 0 → is_some normal ≡ false → normal ≡ slice_get (list_in links r.normal) 0 →
    is_some low ≡ false → low ≡ slice_get (list_in links r.low) 0 → None ≡ highest_in links r
unfolding ready_in
is_none links r high normal low none f none' g none'' e =
    sym (λ i. highest_of (none_there (list_in links r.high) high none f i) (none_there (list_in links r.normal) normal none' g i) (none_there (list_in links r.low) low none'' e i))
