-- A refusal's file is one of the texts.
use Rattle.std.proofs.Common.{◌≡◌, ℕ, suc, ◌+◌, ◌<◌, List, [], ◌∷◌, length, map, Option, Some, None, refl, sym, ap, ◌∙◌, subst, arith}
use Rattle.std.specs.List.{All, slice_get, zip}
use Rattle.std.proofs.lemmas.List.{length-map}
use Rattle.std.proofs.lemmas.Option.{slice_get_within}
use Rattle.std.proofs.lemmas.Slice.Zip.{length-zip}
use Rattle.aos_base.specs.declared.text.Pos.{Pos}
use Rattle.aos_base.specs.declared.text.Refusal.{Refusal}
use Rattle.aos_tree.specs.declared.module.Module.{Module as Tree}
use Rattle.aos_order.specs.declared.order_err.OrderErr.TheVariants as err
use Rattle.aos_order.specs.Files.{File}
use Rattle.aos_order.specs.Order.{Answer, Order, Twice, Absent, Cycle, absent, answer, first_of, names, needs, twice}
use Rattle.aos_order.specs.Placing.{placed, unplaced}
use Rattle.aos_order.proofs.Answering.{twice_within, absent_within}
use Rattle.aos_order.proofs.Searches.{found}
use Rattle.aos_order.proofs.Steps.{unplaced_within}
use Rattle.aos_symbols.specs.declared.breach.Breach.{Breach}
use Rattle.aos_symbols.specs.declared.env.Env.{Env}
use Rattle.aos_symbols.specs.Breaches.{first}
use Rattle.aos_symbols.specs.Judged.{Judged, judged}
use Rattle.aos_check_names.specs.Names.{name_breaches}
use Rattle.aos_symbols.specs.Outcome.{Outcome, refused, went, then, in_turn, decided, passed}
use Rattle.aos_check_decl.specs.Pass.{declare}
use Rattle.aos_compile.specs.Modules.{World, bodies, elaborated, extended, no_modules}
use Rattle.aos_reading.specs.Files.{Reading, tree, broken, Source, trees_from, is_named_out, named_out, at_name, refused_cycle, decided_order, file_of, load_order, named}
use Rattle.aos_compile.specs.Files.{loaded, in_order, modules, whole}
use Rattle.aos_compile.specs.Elaborates.{ComesTo}
use Rattle.aos_reading.proofs.Readings.{length-readings}

-- a refusal that refuses is that one
one_file : {A : Type 0} (s r : Refusal) → (let x : Outcome A = refused s in x) ≡ refused r → s.file ≡ r.file
one_file s r e = ap (λ (x : Refusal). x.file) (let same : s ≡ r = cc in same)

-- of two, one behind the other, one refuses
by_then : {A B : Type 0} (o : Outcome A) (f : A → Outcome B) (r : Refusal) (P : ℕ → Type 0) → then o f ≡ refused r → ((s : Refusal) → o ≡ refused s → P s.file) → ((a : A) → o ≡ went a → f a ≡ refused r → P r.file) → P r.file
by_then (refused s) f r P e first more = subst P (one_file s r e) (first s refl)
by_then (went a) f r P e first more = more a refl e

no_refusal : {A C : Type 0} (a : A) (r : Refusal) → went a ≡ refused r → C
no_refusal a r e = absurd (cc)

by_decided : {A : Type 0} (k : ℕ) (o : Option Breach) (a : A) (r : Refusal) → decided k o a ≡ refused r → r.file ≡ k
by_decided k None a r e = no_refusal a r e
by_decided k (Some b) a r e = sym (one_file _ r e)

by_passed : {A : Type 0} (k : ℕ) (j : Judged A) (r : Refusal) → passed k j ≡ refused r → r.file ≡ k
by_passed k j r e = by_decided k (first j.breaches) j.answer r e

module _ (w : World) (k : ℕ) (text : List ℕ) (m : Tree) where
  abbrev with_bodies : Env → Outcome World
  with_bodies e = then (passed k (bodies e m)) (λ b. went (extended w e m b))

  abbrev declares : Judged Env
  declares = declare (length w.before) w.before w.types text m

  abbrev with_headings : Unit {0} → Outcome World
  with_headings names = then (passed k declares) with_bodies

  by_elaborated : (r : Refusal) → elaborated w k text m ≡ refused r → r.file ≡ k
  by_elaborated r e =
      by_then (passed k (judged (name_breaches text m) tt)) with_headings r (λ n. n ≡ k) e (by_passed k (judged (name_breaches text m) tt))
      (λ names is e'. by_then (passed k declares) with_bodies r (λ n. n ≡ k) e' (by_passed k declares)
      (λ env is' e''. by_then (passed k (bodies env m)) (λ b. went (extended w env m b)) r (λ n. n ≡ k) e'' (by_passed k (bodies env m))
      (λ b is'' e'''. no_refusal (extended w env m b) r e''')))

module _ (ss : List Source) where
  nowhere : (w : World) (k : ℕ) → slice_get ss k ≡ None → loaded ss w k ≡ went w
  nowhere w k is = rw is refl

  somewhere : (w : World) (k : ℕ) (s : Source) → slice_get ss k ≡ Some s → loaded ss w k ≡ elaborated w k s.0 s.1
  somewhere w k s is = rw is refl

  by_loaded : (w : World) (k : ℕ) (r : Refusal) → loaded ss w k ≡ refused r → r.file < length ss
  by_loaded w k r e = by_source (slice_get ss k) refl
    where
      by_source : (o : Option Source) → slice_get ss k ≡ o → r.file < length ss
      by_source None is = no_refusal w r (sym (nowhere w k is) ∙ e)
      by_source (Some s) is =
          let lt = slice_get_within ss k s is in
          let same = by_elaborated w k s.0 s.1 r (sym (somewhere w k s is) ∙ e) in
          omega (arith, lt, same)

  in_turn_within : (w : World) (order : List ℕ) (r : Refusal) → in_turn (loaded ss) w order ≡ refused r → r.file < length ss
  in_turn_within w [] r e = no_refusal w r e
  in_turn_within w (k ∷ ks) r e =
      by_then (loaded ss w k) (λ b. in_turn (loaded ss) b ks) r (λ n. n < length ss) e (by_loaded w k) (λ b is e'. in_turn_within b ks r e')

-- the numbers of an answer on the order are those of files
abbrev AreNumbers : ℕ → Answer → Type 0
AreNumbers n (Order order) = Unit {0}
AreNumbers n (Twice i k) = k < n
AreNumbers n (Absent k at) = k < n
AreNumbers n (Cycle left) = All (λ k. k < n) left

answered : (files : List File) (again : Option (ℕ × ℕ)) (lacking : Option (ℕ × Pos)) (order left : List ℕ) → twice (names files) ≡ again → absent files ≡ lacking → All (λ k. k < length files) left → AreNumbers (length files) (first_of again lacking order left)
answered files (Some p) lacking order left t a h =
    let lt = (twice_within (names files) (err.Twice p.0 p.1) t).1 in
    let size = length-map files (λ f. f.name) in
    omega (arith, lt, size)
answered files None (Some p) order left t a h = absent_within files (err.Absent p.0 p.1) a
answered files None None order [] t a h = tt
answered files None None order (k ∷ ks) t a h = h

answer_numbers : (files : List File) → AreNumbers (length files) (answer files)
answer_numbers files =
    answered files (twice (names files)) (absent files) (placed (needs files)) (unplaced (needs files)) refl refl
    (subst (λ n. All (λ k. k < n) (unplaced (needs files))) (length-map files _) (unplaced_within (needs files)))

module _ (ss : List Source) (n : ℕ) where
  by_cycle : (left order : List ℕ) (r : Refusal) → All (λ k. k < n) left → refused_cycle ss left ≡ refused r → r.file < n
  by_cycle [] order r h e = no_refusal [] r e
  by_cycle (k ∷ ks) order r h e =
      let lt = h 0 k (omega arith) in
      let same = one_file (at_name ss 10 k) r e in
      omega (arith, lt, same)

  at_file : (rule k : ℕ) (r : Refusal) → k < n → (let x : Outcome (List ℕ) = refused (at_name ss rule k) in x) ≡ refused r → r.file < n
  at_file rule k r lt e = let same = one_file (at_name ss rule k) r e in omega (arith, lt, same)

  by_order : (out : Option ℕ) (a : Answer) (r : Refusal) → ((k : ℕ) → out ≡ Some k → k < n) → AreNumbers n a → decided_order ss out a ≡ refused r → r.file < n
  by_order out (Twice i k) r o h e = at_file 8 k r h e
  by_order (Some j) (Absent k at) r o h e = at_file 11 j r (o j refl) e
  by_order (Some j) (Cycle left) r o h e = at_file 11 j r (o j refl) e
  by_order (Some j) (Order order) r o h e = at_file 11 j r (o j refl) e
  by_order None (Absent k at) r o h e = let same = one_file _ r e in omega (arith, h, same)
  by_order None (Cycle left) r o h e = by_cycle left [] r h e
  by_order None (Order order) r o h e = no_refusal order r e

order_within : (ss : List Source) (r : Refusal) → load_order ss ≡ refused r → r.file < length ss
order_within ss r e =
    by_order ss (length ss) (named_out ss) (answer (map file_of ss)) r
    (λ k is. (found (λ j. is_named_out (slice_get ss j)) (length ss) k is).0)
    (subst (λ n. AreNumbers n (answer (map file_of ss))) (length-map ss file_of) (answer_numbers (map file_of ss))) e

modules_within : (ss : List Source) (r : Refusal) → modules ss ≡ refused r → r.file < length ss
modules_within ss r e =
    by_then (load_order ss) (in_order ss) r (λ n. n < length ss) e (order_within ss)
    (λ order is e'. subst (λ n. r.file < n) (length-map ss named) (in_turn_within (map named ss) no_modules order r e'))

trees_within : (k : ℕ) (rs : List Reading) (r : Refusal) → trees_from k rs ≡ refused r → r.file < k + length rs
trees_within k [] r e = no_refusal [] r e
trees_within k (tree m ∷ rs) r e =
    by_then (trees_from (suc k) rs) (λ ms. went (m ∷ ms)) r (λ n. n < k + length (tree m ∷ rs)) e
    (λ s is. let lt = trees_within (suc k) rs s is in omega (arith, lt))
    (λ ms is e'. no_refusal (m ∷ ms) r e')
trees_within k (broken b ∷ rs) r e = let same = one_file _ r e in omega (arith, same)

pub file_within : (texts : List (List ℕ)) (r : Refusal) → ComesTo texts (refused r) → r.file < length texts
file_within texts r h =
    let rs = h.readings in
    let size = length-readings texts rs h.are_readings in
    by_then (trees_from 0 rs) (λ ms. then (modules (zip texts ms)) (λ w. went (whole w))) r (λ n. n < length texts) h.is
    (λ s is. let lt = trees_within 0 rs s is in omega (arith, lt, size))
    (λ ms is e. by_then (modules (zip texts ms)) (λ w. went (whole w)) r (λ n. n < length texts) e
    (λ s is'. let lt = modules_within (zip texts ms) s is' in let most = length-zip texts ms in omega (arith, lt, most))
    (λ w is' e'. no_refusal (whole w) r e'))
