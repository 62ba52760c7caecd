-- Each kind of step keeps the rule.
use Rattle.std.proofs.Common.{◌≡◌, ◌≢◌, ℕ, zero, suc, ◌+◌, ◌<◌, ◌≤◌, Bool, true, false, List, [], ◌∷◌, ◌++◌, set, length, sym, refl, ap, ◌∙◌, subst, arith, inl, inr, append_assoc}
use Rattle.std.specs.Prelude.{◌==◌, nat_lt, if◌then◌else◌}
use Rattle.std.proofs.lemmas.Bool.Decides.{eqb_tells, leb_tells}
use Rattle.std.proofs.lemmas.List.{append-nil, length-append}
use Rattle.std.proofs.Math.Nat.{div-le_self}
use mathlib.Core.Option.{some, some-injective, some-ne-none}
use lib.ListN.{get_elem?}
use Rattle.crossbeam_queue.specs.Fifo.{Pushes, Pops, Forks, Merges, Learns}
use Rattle.crossbeam_queue.proofs.Lists.{at_set}
use Rattle.aos_base.specs.Machine.{Choice}
use Rattle.aos_base.specs.Schedule.{choices}
use Rattle.aos_concurrency.specs.Private.{of_worker}
use Rattle.aos_kernel.specs.Run.{Run}
use Rattle.aos_cell.specs.declared.rule.Part.{Part}
use Rattle.aos_cell.specs.declared.rule.View.{View}
use Rattle.aos_cell.specs.declared.rule.View.TheVariants.{Opens, Spent, Of}
use Rattle.aos_cell.specs.Total.{total, one_if, times, below, AreDistinct}
use Rattle.aos_cell.specs.Bound.{KeepsBound}
use Rattle.aos_cell.specs.Rule.{Item, AreOf, AreOthers, SameProgram, AddsOwn, AddsOthers, is_lent, lent_among, LentAre, LendsOwn, Sees, Fits, workers_of, kernels_of, gives_of, AreAll, Kept, Rule}
use Rattle.aos_cell.specs.Steps.{first_part, HasWorkers, Follows, Finds, taken, Takes, Extends, MayGive, given, Gives, greatest, without, MaySplit, left_part, right_part, split_left, split_right, IsFree, longer, both_parts, joined, HasAll}
use Rattle.aos_cell.proofs.Totals.{total_set, total_snoc, total_one, total_two, total_none, all_set, all_snoc, times_append, below_out, below_once, below_less, length_below, times_without, times_filter, length_without, greatest_in, some_member}

-- Entries of workers

others_append : (ws : List ℕ) (cs ds : List Choice) → AreOthers ws cs → AreOthers ws ds → AreOthers ws (cs ++ ds)
others_append ws [] ds a b = b
others_append ws (c ∷ cs) ds a b = (a.0, others_append ws cs ds a.1 b)

others_rest : (ws : List ℕ) (cs ds : List Choice) → AreOthers ws (cs ++ ds) → AreOthers ws ds
others_rest ws [] ds a = a
others_rest ws (c ∷ cs) ds a = others_rest ws cs ds a.1

pub others_of : (ws vs : List ℕ) (cs : List Choice) → ((w : ℕ) → 0 < times w vs → times w ws ≡ 0) → AreOf vs cs → AreOthers ws cs
others_of ws vs [] apart all = tt
others_of ws vs (c ∷ cs) apart all = (apart (of_worker c) all.0, others_of ws vs cs apart all.1)

pub others_fewer : (ws vs : List ℕ) (cs : List Choice) → ((w : ℕ) → times w ws ≤ times w vs) → AreOthers vs cs → AreOthers ws cs
others_fewer ws vs [] fewer none = tt
others_fewer ws vs (c ∷ cs) fewer none = ((let a = fewer (of_worker c) in let b = none.0 in omega arith), others_fewer ws vs cs fewer none.1)

others_both : (ws vs : List ℕ) (cs : List Choice) → AreOthers ws cs → AreOthers vs cs → AreOthers (ws ++ vs) cs
others_both ws vs [] a b = tt
others_both ws vs (c ∷ cs) a b = ((let t = times_append (of_worker c) ws vs in let x = a.0 in let y = b.0 in omega arith), others_both ws vs cs a.1 b.1)

-- of two beginnings of one list the longer one leaves less
leaves_less : (xs ys r s : List Choice) → xs ++ r ≡ ys ++ s → length ys ≤ length xs → (t : List Choice) × (s ≡ t ++ r)
leaves_less xs [] r s e le = (xs, sym e)
leaves_less [] (y ∷ ys) r s e le = absurd (omega arith)
leaves_less (x ∷ xs) (y ∷ ys) r s e le = leaves_less xs ys r s (let f : xs ++ r ≡ ys ++ s = cc e in f) (omega arith)

adds_none : (ws : List ℕ) (a b : Run) → a ≡ b → AddsOthers ws a b
adds_none ws a b e = ([], ap (λ (r : Run). choices r.log) (sym e) ∙ sym (append-nil (choices a.log)), tt)

pub adds_then : (ws : List ℕ) (a b c : Run) → AddsOthers ws a b → AddsOthers ws b c → AddsOthers ws a c
adds_then ws a b c x y = (
  x.0 ++ y.0,
  y.1 ∙ ap (λ l. l ++ y.0) x.1 ∙ append_assoc (choices a.log) x.0 y.0,
  others_append ws x.0 y.0 x.2 y.2,
)

-- Lent workers

pub lent_are : (ws : List ℕ) (r : Run) → LentAre ws (lent_among ws r) r
lent_are ws r w member =
    let f = times_filter (λ x. is_lent x r) w ws in
    (elim (is_lent w r) as (λ q. times w (lent_among ws r) ≡ (if q then times w ws else 0) → q ≡ nat_lt 0 (times w (lent_among ws r))) [
      | true ↦ λ h. elim (leb_tells 1 (times w (lent_among ws r))) [
        | inl e ↦ sym e.0
        | inr e ↦ let g = e.1 in absurd (omega arith)
      ]
      | false ↦ λ h. elim (leb_tells 1 (times w (lent_among ws r))) [
        | inl e ↦ let g = e.1 in absurd (omega arith)
        | inr e ↦ sym e.0
      ]
    ]) f

lends_own : (ws : List ℕ) (r : Run) (w : ℕ) → times w ws ≡ 0 → times w (lent_among ws r) ≡ 0
lends_own ws r w none =
    (elim (is_lent w r) as (λ q. times w (lent_among ws r) ≡ (if q then times w ws else 0) → times w (lent_among ws r) ≡ 0) [
      | true ↦ λ h. h ∙ none
      | false ↦ λ h. h
    ]) (times_filter (λ x. is_lent x r) w ws)

-- Before the kernel is put in

not_open : (seat : ℕ) (p : Part) → get_elem? (Opens ∷ []) seat ≡ some (Of p) → ⊥
not_open zero p e = let h : Opens ≡ Of p = some-injective Opens (Of p) e in cc h
not_open (suc j) p e = some-ne-none (Of p) (sym e)

kept : (items : List Item) (views : List View) (seat : ℕ) (p : Part) → Rule items views → get_elem? views seat ≡ some (Of p) → Kept items views
kept items views seat p (inl x) at = absurd (not_open seat p (subst (λ (v : List View). get_elem? v seat ≡ some (Of p)) x.1 at))
kept items views seat p (inr k) at = k

first_sees : (r : Run) → 1 ≤ r.workers → Sees r r (first_part r)
first_sees r any =
    record {
      some_worker = (let l = length_below r.workers in omega arith);
      named = refl;
      program = (refl, refl, refl);
      here = λ _. refl;
      others = adds_none (below r.workers) r r refl;
      lent = lent_are (below r.workers) r;
      lends_own = lends_own (below r.workers) r;
    }

first_kept : (k : Item) (seat : ℕ) → 1 ≤ k.value.workers → k.value.workers ≤ 16 → get_elem? (Opens ∷ []) seat ≡ some Opens → Kept (k ∷ []) (set (Opens ∷ []) seat (Of (first_part k.value)))
first_kept k zero any few at =
    record {
      first = k.value;
      now = k.value;
      queued = (refl, tt);
      one = refl;
      program = (refl, refl, refl);
      bound = ([], sym (append-nil (choices k.value.log)), λ w. omega arith);
      owned = λ w. omega arith;
      few_workers = few;
      gives = omega arith;
      fits = λ j u e. one_view j u e;
    }
  where
    one_view : (j : ℕ) (u : View) → get_elem? (Of (first_part k.value) ∷ []) j ≡ some u → Fits k.value k.value u
    one_view zero u e = subst (Fits k.value k.value) (some-injective (Of (first_part k.value)) u e) (first_sees k.value any)
    one_view (suc j) u e = absurd (some-ne-none u (sym e))
first_kept k (suc j) any few at = absurd (some-ne-none Opens (sym at))

pub opens : (n seat : ℕ) (k : Item) → 1 ≤ k.value.workers → k.value.workers ≤ 16 → Pushes Rule n seat Opens k (λ w. w ≡ Of (first_part k.value))
opens n seat k any few items views room (inl x) at = (
  Of (first_part k.value),
  inr (subst (λ (z : List Item × List View). Kept (z.0 ++ k ∷ []) (set z.1 seat (Of (first_part k.value)))) (λ i. (sym x.0 i, sym x.1 i))
      (first_kept k seat any few (subst (λ (v : List View). get_elem? v seat ≡ some Opens) x.1 at))),
  refl,
)
opens n seat k any few items views room (inr h) at = absurd (h.fits seat Opens at)

pub opens_empty : (seat : ℕ) → Learns Rule seat Opens (λ items. items ≡ [])
opens_empty seat items views (inl x) at = x.0
opens_empty seat items views (inr h) at = absurd (h.fits seat Opens at)

same_both : (a b c : Run) → SameProgram a b → SameProgram a c → SameProgram b c
same_both a b c x y = (y.0 ∙ sym x.0, y.1 ∙ sym x.1, y.2 ∙ sym x.2)

-- A pop

pub takes : (seat : ℕ) (p : Part) → Pops Rule seat (Of p) (λ x w. Takes (Of p) x.value w)
takes seat p x items views h at =
    let k = kept (x ∷ items) views seat p h at in
    let s : Sees k.first k.now p = k.fits seat (Of p) at in
    let e : x.value ≡ k.now = k.queued.0 in
    let w : View = Of (taken p x.value) in
    let mine : Sees k.first k.now (taken p x.value) = record { some_worker = s.some_worker; named = s.named; program = subst (SameProgram k.first) (sym e) k.program; here = λ _. e; others = adds_none p.workers x.value k.now e; lent = s.lent; lends_own = s.lends_own } in
    let range : (y : ℕ) → 0 < times y p.workers → y < k.now.workers = λ y member. (let z = k.owned y in let t = total_one (λ v. times y (workers_of v)) views seat (Of p) at in let b = k.program.1 in
    let less = below_less y k.first.workers (omega arith) in omega arith) in
    let follows : Follows p k.now = record { program = subst (λ f. SameProgram f k.now) (sym s.named) k.program; same = same_both k.first p.last k.now s.program k.program; range = range; others = s.others; bound = subst (λ f. KeepsBound f k.now) (sym s.named) k.bound; lent = s.lent } in (
      w,
      inr (record {
        first = k.first;
        now = k.now;
        queued = k.queued.1;
        one = (let t = total_set kernels_of views seat (Of p) w at in let o = k.one in let m = total_one kernels_of views seat (Of p) at in omega arith);
        program = k.program;
        bound = k.bound;
        owned = λ x. (let t = total_set (λ v. times x (workers_of v)) views seat (Of p) w at in let o = k.owned x in omega arith);
        few_workers = k.few_workers;
        gives = (let t = total_set gives_of views seat (Of p) w at in let o = k.gives in omega arith);
        fits = all_set (Fits k.first k.now) views seat w mine (λ j u _ f. k.fits j u f);
      }),
      (refl, subst (Follows p) (sym e) follows),
    )

-- A push

queued_one : (items : List Item) (x : Item) → length items ≡ 0 → AreAll x.value (items ++ x ∷ [])
queued_one [] x none = (refl, tt)
queued_one (y ∷ items) x none = absurd (omega arith)

-- what another pass knows after a pass has given the kernel back
others_see : (first now : Run) (p q : Part) (r : Run) → p.last ≡ now → AddsOwn p.workers p.last r → LendsOwn p.workers p.last r → q.has ≡ false → ((w : ℕ) → times w p.workers + times w q.workers ≤ 1) → Sees first now q → Sees first r q
others_see first now p q r here own lends idle apart s =
    let adds : AddsOwn p.workers now r = subst (λ n. AddsOwn p.workers n r) here own in
    let alone : (w : ℕ) → 0 < times w p.workers → times w q.workers ≡ 0 = λ w member. (let a = apart w in omega arith) in
    record {
      some_worker = s.some_worker;
      named = s.named;
      program = s.program;
      here = λ h. absurd (let z = sym idle ∙ h in cc z);
      others = adds_then q.workers q.last now r s.others (adds.0, adds.1, others_of q.workers p.workers adds.0 alone adds.2);
      lent = λ w member. lends w (let a = apart w in omega arith) ∙ ap (is_lent w) here ∙ s.lent w member;
      lends_own = s.lends_own;
    }

other_fits : (first now : Run) (p : Part) (r : Run) (views : List View) (seat j : ℕ) (u : View) → p.has ≡ true → p.last ≡ now → AddsOwn p.workers p.last r → LendsOwn p.workers p.last r
    → total kernels_of views ≤ 1 → ((w : ℕ) → total (λ v. times w (workers_of v)) views ≤ 1)
    → get_elem? views seat ≡ some (Of p) → j ≢ seat → get_elem? views j ≡ some u → Fits first now u → Fits first r u
other_fits first now p r views seat j Opens has here own lends one owned at ne f s = s
other_fits first now p r views seat j Spent has here own lends one owned at ne f s = s
other_fits first now p r views seat j (Of q) has here own lends one owned at ne f s =
    let apart : seat ≢ j = λ h. ne (sym h) in
    others_see first now p q r here own lends
    (idle q.has refl (let t = total_two kernels_of views seat j (Of p) (Of q) apart at f in let h : one_if p.has ≡ 1 = ap one_if has in omega arith))
    (λ w. let t = total_two (λ v. times w (workers_of v)) views seat j (Of p) (Of q) apart at f in let o = owned w in omega arith) s
  where
    idle : (b : Bool) → q.has ≡ b → one_if q.has ≡ 0 → q.has ≡ false
    idle true e z = absurd (let y : one_if q.has ≡ 1 = ap one_if e in omega arith)
    idle false e z = e

pub gives : (n seat : ℕ) (p : Part) (x : Item) → p.has ≡ true → 0 < p.gives → Extends p x.value → Pushes Rule n seat (Of p) x (λ w. Gives (Of p) x.value w)
gives n seat p x has left ext items views room h at =
    let k = kept items views seat p h at in
    let s : Sees k.first k.now p = k.fits seat (Of p) at in
    let r : Run = x.value in
    let w : View = Of (given p r) in
    let full : one_if p.has ≡ 1 = ap one_if has in
    let m = total_one kernels_of views seat (Of p) at in
    let o = k.one in
    let empty : length items ≡ 0 = omega arith in
    let single : total kernels_of views ≤ 1 = omega arith in
    let mine : Sees k.first r (given p r) = record { some_worker = s.some_worker; named = s.named; program = subst (λ f. SameProgram f r) s.named ext.program; here = λ _. refl; others = adds_none p.workers r r refl; lent = lent_are p.workers r; lends_own = lends_own p.workers r } in (
      w,
      inr (record {
        first = k.first;
        now = r;
        queued = queued_one items x empty;
        one = (let t = total_set kernels_of views seat (Of p) w at in let l = length-append items (x ∷ []) in omega arith);
        program = subst (λ f. SameProgram f r) s.named ext.program;
        bound = subst (λ f. KeepsBound f r) s.named ext.bound;
        owned = λ y. (let t = total_set (λ v. times y (workers_of v)) views seat (Of p) w at in let z = k.owned y in omega arith);
        few_workers = k.few_workers;
        gives = (let t = total_set gives_of views seat (Of p) w at in let z = k.gives in omega arith);
        fits = all_set (Fits k.first r) views seat w mine
            (λ j u ne f. other_fits k.first k.now p r views seat j u has (s.here has) ext.own ext.lent single (λ y. let z = k.owned y in let b = below_once y k.first.workers in omega arith) at ne f (k.fits j u f));
      }),
      refl,
    )

pub gives_empty : (seat : ℕ) (p : Part) → p.has ≡ true → Learns Rule seat (Of p) (λ items. items ≡ [])
gives_empty seat p has items views h at =
    let k = kept items views seat p h at in
    let m = total_one kernels_of views seat (Of p) at in
    let full : one_if p.has ≡ 1 = ap one_if has in
    let o = k.one in
    none_there items (omega arith)
  where
    none_there : (l : List Item) → length l ≡ 0 → l ≡ []
    none_there [] e = refl
    none_there (x ∷ l) e = absurd (omega arith)

-- A split

-- a pass with some of the workers of one that has nothing else knows what that one knows
part_sees : (first now : Run) (p q : Part) → p.has ≡ false → p.lent ≡ [] → 0 < length q.workers → q.has ≡ p.has → q.first ≡ p.first → q.last ≡ p.last → q.lent ≡ [] → ((w : ℕ) → times w q.workers ≤ times w p.workers) → Sees first now p → Sees first now q
part_sees first now p q idle none any has named last_ lent fewer s =
    record {
      some_worker = any;
      named = named ∙ s.named;
      program = subst (SameProgram first) (sym last_) s.program;
      here = λ h. absurd (let z = sym idle ∙ sym has ∙ h in cc z);
      others = (s.others.0, s.others.1 ∙ ap (λ (r : Run). choices r.log ++ s.others.0) (sym last_), others_fewer q.workers p.workers s.others.0 fewer s.others.2);
      lent = λ w member. s.lent w (let f = fewer w in omega arith) ∙ ap (λ (l : List ℕ). nat_lt 0 (times w l)) (none ∙ sym lent);
      lends_own = λ w _. ap (times w) lent;
    }

pub splits : (seat : ℕ) (p : Part) → 2 ≤ length p.workers → p.has ≡ false → p.lent ≡ [] → Forks Rule seat (Of p) (split_left (Of p)) (split_right (Of p))
splits seat p two idle none items views h at =
    let k = kept items views seat p h at in
    let s : Sees k.first k.now p = k.fits seat (Of p) at in
    let g = greatest p.workers in
    let member : 0 < times g p.workers = greatest_in p.workers s.some_worker in
    let l : View = Of (left_part p) in
    let r : View = Of (right_part p) in
    let parts : (w : ℕ) → times w (without g p.workers) + one_if (g == w) ≡ times w p.workers = λ w. times_without w g p.workers member in
    let shorter = length_without g p.workers member in
    let left_sees : Sees k.first k.now (left_part p) = part_sees k.first k.now p (left_part p) idle none (omega arith) refl refl refl refl (λ w. let a = parts w in omega arith) s in
    let right_sees : Sees k.first k.now (right_part p) = part_sees k.first k.now p (right_part p) idle none (omega arith) refl refl refl refl (λ w. let a = parts w in omega arith) s in
    inr (record {
      first = k.first;
      now = k.now;
      queued = k.queued;
      one = (let t = total_set kernels_of views seat (Of p) l at in let a = total_snoc kernels_of (set views seat l) r in let o = k.one in let z : one_if p.has ≡ 0 = ap one_if idle in omega arith);
      program = k.program;
      bound = k.bound;
      owned = λ w. (let t = total_set (λ v. times w (workers_of v)) views seat (Of p) l at in let a = total_snoc (λ v. times w (workers_of v)) (set views seat l) r in let o = k.owned w in let b = parts w in omega arith);
      few_workers = k.few_workers;
      gives = (let t = total_set gives_of views seat (Of p) l at in let a = total_snoc gives_of (set views seat l) r in let o = k.gives in let d = div-le_self p.gives 2 in omega arith);
      fits = all_snoc (Fits k.first k.now) (set views seat l) r right_sees (all_set (Fits k.first k.now) views seat l left_sees (λ j u _ f. k.fits j u f));
    })

-- A join

longer_by : (P : Run → Type 0) (a b : Run) → (length (choices b.log) ≤ length (choices a.log) → P a) → (length (choices a.log) < length (choices b.log) → P b) → P (longer a b)
longer_by P a b first_ second_ =
    elim (leb_tells (suc (length (choices a.log))) (length (choices b.log))) [
      | inl e ↦ subst (λ q. P (if q then b else a)) (sym e.0) (second_ e.1)
      | inr e ↦ subst (λ q. P (if q then b else a)) (sym e.0) (first_ (let f = e.1 in omega arith))
    ]

both_others : (ps qs : List ℕ) (a b now : Run) → AddsOthers ps a now → AddsOthers qs b now → AddsOthers (ps ++ qs) (longer a b) now
both_others ps qs a b now x y =
    longer_by (λ r. AddsOthers (ps ++ qs) r now) a b
    (λ le. let t = leaves_less (choices a.log) (choices b.log) x.0 y.0 (sym x.1 ∙ y.1) le in
    (x.0, x.1, others_both ps qs x.0 x.2 (others_rest qs t.0 x.0 (subst (AreOthers qs) t.1 y.2))))
    (λ lt. let t = leaves_less (choices b.log) (choices a.log) y.0 x.0 (sym y.1 ∙ x.1) (omega arith) in
    (y.0, y.1, others_both ps qs y.0 (others_rest ps t.0 y.0 (subst (AreOthers ps) t.1 x.2)) y.2))

longer_here : (qs : List ℕ) (a b now : Run) → a ≡ now → AddsOthers qs b now → longer a b ≡ now
longer_here qs a b now here y =
    longer_by (λ r. r ≡ now) a b (λ _. here)
    (λ lt. absurd (let n : length (choices a.log) ≡ length (choices now.log) = ap (λ (r : Run). length (choices r.log)) here in
    let m = ap length y.1 in let l = length-append (choices b.log) y.0 in omega arith))

both_see : (first now : Run) (p q : Part) → q.has ≡ false → q.lent ≡ [] → Sees first now p → Sees first now q → Sees first now (both_parts p q)
both_see first now p q idle none s t =
    record {
      some_worker = (let l = length-append p.workers q.workers in let m = s.some_worker in omega arith);
      named = s.named;
      program = longer_by (SameProgram first) p.last q.last (λ _. s.program) (λ _. t.program);
      here = λ h. longer_here q.workers p.last q.last now (s.here h) t.others;
      others = both_others p.workers q.workers p.last q.last now s.others t.others;
      lent = λ w member. by_worker w (times w p.workers) refl member;
      lends_own = λ w out. s.lends_own w (let a = times_append w p.workers q.workers in omega arith);
    }
  where
    by_worker : (w n : ℕ) → times w p.workers ≡ n → 0 < times w (p.workers ++ q.workers) → is_lent w now ≡ nat_lt 0 (times w p.lent)
    by_worker w zero e member =
        let a = times_append w p.workers q.workers in
        let mine : times w p.lent ≡ 0 = s.lends_own w e in
        let theirs : times w q.lent ≡ 0 = ap (times w) none in
        t.lent w (omega arith) ∙ ap (nat_lt 0) (theirs ∙ sym mine)
    by_worker w (suc n) e member = s.lent w (omega arith)

pub joins : (seat : ℕ) (p : Part) (other : ℕ) (q : Part) → q.has ≡ false → q.lent ≡ [] → Merges Rule seat (Of p) other (Of q) (joined (Of p) (Of q)) Spent
joins seat p other q idle none items views h at two at' =
    let k = kept items views seat p h at in
    let b : View = Of (both_parts p q) in
    let vs = set views seat b in
    let was : get_elem? views other ≡ some (Of q) = elim (at_set views seat other b (Of q) at') [
      | inl x ↦ absurd (two x.0)
      | inr x ↦ x.1
    ] in
    let s : Sees k.first k.now p = k.fits seat (Of p) at in
    let t : Sees k.first k.now q = k.fits other (Of q) was in
    let mine : Sees k.first k.now (both_parts p q) = both_see k.first k.now p q idle none s t in
    inr (record {
      first = k.first;
      now = k.now;
      queued = k.queued;
      one = (let a = total_set kernels_of views seat (Of p) b at in let c = total_set kernels_of vs other (Of q) Spent at' in let o = k.one in let z : one_if q.has ≡ 0 = ap one_if idle in omega arith);
      program = k.program;
      bound = k.bound;
      owned = λ w. (let a = total_set (λ v. times w (workers_of v)) views seat (Of p) b at in let c = total_set (λ v. times w (workers_of v)) vs other (Of q) Spent at' in let o = k.owned w in let d = times_append w p.workers q.workers in omega arith);
      few_workers = k.few_workers;
      gives = (let a = total_set gives_of views seat (Of p) b at in let c = total_set gives_of vs other (Of q) Spent at' in let o = k.gives in omega arith);
      fits = all_set (Fits k.first k.now) vs other Spent tt (λ j u _ e. all_set (Fits k.first k.now) views seat b mine (λ i v _ f. k.fits i v f) j u e);
    })

-- The end

pub closes_full : (seat : ℕ) (p : Part) → ((w : ℕ) → w < p.first.workers → 0 < times w p.workers) → p.has ≡ false → Learns Rule seat (Of p) (λ items. length items ≡ 1)
closes_full seat p all idle items views h at =
    let k = kept items views seat p h at in
    let s : Sees k.first k.now p = k.fits seat (Of p) at in
    let none : total kernels_of views ≡ 0 = total_none kernels_of views (λ j u f. nobody k s j u f) in
    let o = k.one in
    omega arith
  where
    mine : (z : Run) → p.first ≡ z → (w : ℕ) → w < z.workers → 0 < times w p.workers
    mine z e w lt = all w (subst (λ (y : Run). w < y.workers) (sym e) lt)

    -- another's worker would be one of the pass's own
    apart : (k : Kept items views) (s : Sees k.first k.now p) (j : ℕ) (q : Part) → get_elem? views j ≡ some (Of q) → j ≢ seat → ⊥
    apart k s j q f ne =
        let t : Sees k.first k.now q = k.fits j (Of q) f in
        let m = some_member q.workers t.some_worker in
        let o = k.owned m.0 in
        let d = total_two (λ v. times m.0 (workers_of v)) views seat j (Of p) (Of q) (λ e. ne (sym e)) at f in
        let i = m.1 in
        let less = below_less m.0 k.first.workers (omega arith) in
        let a = mine k.first s.named m.0 less in
        let b = below_once m.0 k.first.workers in
        omega arith

    nobody : (k : Kept items views) (s : Sees k.first k.now p) (j : ℕ) (u : View) → get_elem? views j ≡ some u → kernels_of u ≡ 0
    nobody k s j Opens f = refl
    nobody k s j Spent f = refl
    nobody k s j (Of q) f = elim (eqb_tells j seat) [
      | inl e ↦ let g : get_elem? views seat ≡ some (Of q) = subst (λ i. get_elem? views i ≡ some (Of q)) e.1 f in
          let same : Of p ≡ Of q = some-injective (Of p) (Of q) (sym at ∙ g) in
          ap kernels_of (sym same) ∙ ap one_if idle
      | inr e ↦ absurd (apart k s j q f e.1)
    ]

-- The same of any view

pub takes_any : (seat : ℕ) (v : View) → HasWorkers v → Pops Rule seat v (λ x w. Takes v x.value w)
takes_any seat Opens ok = absurd ok
takes_any seat Spent ok = absurd ok
takes_any seat (Of p) ok = takes seat p

pub gives_any : (n seat : ℕ) (v : View) (x : Item) → MayGive v x.value → Pushes Rule n seat v x (λ w. Gives v x.value w) × Learns Rule seat v (λ items. items ≡ [])
gives_any n seat Opens x ok = absurd ok
gives_any n seat Spent x ok = absurd ok
gives_any n seat (Of p) x ok = (gives n seat p x ok.0 ok.1 ok.2, gives_empty seat p ok.0)

pub splits_any : (seat : ℕ) (v : View) → MaySplit v → Forks Rule seat v (split_left v) (split_right v)
splits_any seat Opens ok = absurd ok
splits_any seat Spent ok = absurd ok
splits_any seat (Of p) ok = splits seat p ok.0 ok.1 ok.2

pub joins_any : (seat : ℕ) (v : View) (other : ℕ) (w : View) → HasWorkers v → IsFree w → Merges Rule seat v other w (joined v w) Spent
joins_any seat Opens other w ok free = absurd ok
joins_any seat Spent other w ok free = absurd ok
joins_any seat (Of p) other Opens ok free = absurd free
joins_any seat (Of p) other Spent ok free = absurd free
joins_any seat (Of p) other (Of q) ok free = joins seat p other q free.0 free.1

pub closes_any : (seat : ℕ) (v : View) → HasAll v → Pops Rule seat v (λ x w. Takes v x.value w) × Learns Rule seat v (λ items. length items ≡ 1)
closes_any seat Opens ok = absurd ok
closes_any seat Spent ok = absurd ok
closes_any seat (Of p) ok = (takes seat p, closes_full seat p ok.0 ok.1)

pub opens_any : (n seat : ℕ) (v : View) (k : Item) → v ≡ Opens → 1 ≤ k.value.workers → k.value.workers ≤ 16 → Pushes Rule n seat v k (λ w. w ≡ Of (first_part k.value)) × Learns Rule seat v (λ items. items ≡ [])
opens_any n seat Opens k e any few = (opens n seat k any few, opens_empty seat)
opens_any n seat Spent k e any few = absurd (cc e)
opens_any n seat (Of p) k e any few = absurd (cc e)

-- A pass's workers are distinct and below 16

pub distinct_any : (seat : ℕ) (v : View) → Learns Rule seat v (λ items. AreDistinct (workers_of v))
distinct_any seat Opens items views h at = ((λ w. omega arith), λ w _. refl)
distinct_any seat Spent items views h at = ((λ w. omega arith), λ w _. refl)
distinct_any seat (Of p) items views h at =
    let k = kept items views seat p h at in
    let f = k.few_workers in (
      (λ w. let t = total_one (λ v. times w (workers_of v)) views seat (Of p) at in let o = k.owned w in let m = below_once w k.first.workers in omega arith),
      λ w out. let t = total_one (λ v. times w (workers_of v)) views seat (Of p) at in let o = k.owned w in let m = below_out w k.first.workers (omega arith) in omega arith,
    )

-- What a step does to them

pub takes_workers : (v : View) (r : Run) (w : View) → Takes v r w → workers_of w ≡ workers_of v
takes_workers Opens r w t = absurd t
takes_workers Spent r w t = absurd t
takes_workers (Of p) r w t = ap workers_of t.0

pub takes_finds : (v : View) (r : Run) (w : View) → Takes v r w → Finds v r
takes_finds Opens r w t = absurd t
takes_finds Spent r w t = absurd t
takes_finds (Of p) r w t = t.1
