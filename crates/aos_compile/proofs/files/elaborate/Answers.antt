use Rattle.std.proofs.Common.{◌≡◌, ◌<◌, List, Vec, ℕ, Global, length, map, ap, sym, ◌∙◌, subst, arith}
use Rattle.std.specs.List.{All}
use Rattle.std.proofs.lemmas.List.{length-map}
use Rattle.std.proofs.lemmas.Result.{err_from_is_err_and}
use Rattle.aos_tree.specs.declared.module.Module.{Module as Tree}
use Rattle.aos_typed.specs.Seen.{seen_program}
use Rattle.aos_symbols.specs.Outcome.{refused, went, then}
use Rattle.aos_reading.specs.declared.front.Reading.{Reading}
use Rattle.aos_reading.specs.Files.{trees_from, load_order}
use Rattle.aos_compile.specs.Files.{in_order, whole}
use Rattle.aos_reading.specs.Texts.{AreReadings}
use Rattle.aos_reading.specs.Sources.{bytes_of, seen_reading, sources, OnRefused}
use Rattle.aos_compile.proofs.Composed.{broken_module, comes_whole}
use Rattle.aos_reading.proofs.Readings.{length-readings, length-trees}
use Rattle.aos_compile.proofs.files.elaborate.Goals as goal

-- each text has a reading
as_many_readings : (texts : List (Vec ℕ Global)) (rs : List Reading) → AreReadings (bytes_of texts) (map seen_reading rs) → length rs ≡ length texts
as_many_readings texts rs are =
    sym (length-map rs seen_reading) ∙ length-readings (bytes_of texts) (map seen_reading rs) are ∙ length-map texts (λ t. t.items)

-- and a tree
as_many_trees : (texts : List (Vec ℕ Global)) (rs : List Reading) (ms : List Tree) → AreReadings (bytes_of texts) (map seen_reading rs) → trees_from 0 (map seen_reading rs) ≡ went ms →
    length ms ≡ length texts
as_many_trees texts rs ms are read = length-trees 0 (map seen_reading rs) ms read ∙ length-map rs seen_reading ∙ as_many_readings texts rs are

pub trees_of-requires : goal.trees_of-requires
trees_of-requires c = omega (arith, as_many_readings c.args.texts.now c.in_ok-readings.readings.items c.in_ok-readings.ensures)

pub load_order-requires-clause-same : goal.load_order-requires-clause-same
load_order-requires-clause-same c =
    ap length c.deref.ensures.value
    ∙ as_many_trees c.args.texts.now c.in_ok-readings.readings.items c.in_ok-trees.trees.items c.in_ok-readings.ensures c.in_ok-trees.ensures.went

pub load_order-requires-clause-few : goal.load_order-requires-clause-few
load_order-requires-clause-few c =
    omega (
      arith,
      ap length c.deref.ensures.value,
      as_many_trees c.args.texts.now c.in_ok-readings.readings.items c.in_ok-trees.trees.items c.in_ok-readings.ensures c.in_ok-trees.ensures.went,
    )

pub program_in_order-requires-clause-same : goal.program_in_order-requires-clause-same
program_in_order-requires-clause-same c =
    as_many_trees c.args.texts.now c.in_ok-readings.readings.items c.in_ok-trees.trees.items c.in_ok-readings.ensures c.in_ok-trees.ensures.went

pub program_in_order-requires-clause-files : goal.program_in_order-requires-clause-files
program_in_order-requires-clause-files c =
    omega (
      arith,
      c.requires.few,
      as_many_trees c.args.texts.now c.in_ok-readings.readings.items c.in_ok-trees.trees.items c.in_ok-readings.ensures c.in_ok-trees.ensures.went,
    )

pub program_in_order-requires-clause-few : goal.program_in_order-requires-clause-few
program_in_order-requires-clause-few c =
    omega (
      arith,
      ap length c.deref-2.ensures.value,
      c.in_ok-order.ensures.few,
      ap length c.deref.ensures.value,
      as_many_trees c.args.texts.now c.in_ok-readings.readings.items c.in_ok-trees.trees.items c.in_ok-readings.ensures c.in_ok-trees.ensures.went,
    )

pub program_in_order-requires-clause-within : goal.program_in_order-requires-clause-within
program_in_order-requires-clause-within c =
    subst (All (λ k. k < length c.in_ok-trees.trees.items)) (sym c.deref-2.ensures.value)
    (subst (λ (ms : List Tree). All (λ k. k < length ms) c.in_ok-order.order.items) c.deref.ensures.value c.in_ok-order.ensures.within)

-- the order of the files, and what they come to in it
ordered : (ts : List (Vec ℕ Global)) (ms seen : List Tree) (ks : List ℕ) → seen ≡ ms → load_order (sources ts seen) ≡ went ks → load_order (sources ts ms) ≡ went ks
ordered ts ms seen ks same e = subst (λ ms. load_order (sources ts ms) ≡ went ks) same e

pub returns-clause-went : goal.returns-clause-went
returns-clause-went c =
    let ts = c.args.texts.now in
    let ms = c.in_ok-trees.trees.items in
    let ks = c.in_ok-order.order.items in
    let p = seen_program c.in_ok-program.program in
    comes_whole (bytes_of ts) (map seen_reading c.in_ok-readings.readings.items) c.in_ok-readings.ensures ms c.in_ok-trees.ensures.went ks
    (ordered ts ms c.deref.result.now ks c.deref.ensures.value c.in_ok-order.ensures.went) p
    (subst (λ (ks : List ℕ). then (in_order (sources ts ms) ks) (λ w. went (whole w)) ≡ went p) c.deref-2.ensures.value c.in_ok-program.ensures.went)

pub returns-in_err-program-clause-refused : goal.returns-in_err-program-clause-refused
returns-in_err-program-clause-refused c =
    let e = err_from_is_err_and c.from_residual-in_err-program.result c.from_residual-in_err-program.ensures.1 in
    let ts = c.args.texts.now in
    let ms = c.in_ok-trees.trees.items in
    let ks = c.in_ok-order.order.items in
    let said = c.in_err-program.field-0.0 in
    rw (e.1, e.2)
    (broken_module (bytes_of ts) (map seen_reading c.in_ok-readings.readings.items) c.in_ok-readings.ensures ms c.in_ok-trees.ensures.went ks
    (ordered ts ms c.deref.result.now ks c.deref.ensures.value c.in_ok-order.ensures.went) said
    (subst (λ (ks : List ℕ). OnRefused said (λ r. then (in_order (sources ts ms) ks) (λ w. went (whole w)) ≡ refused r)) c.deref-2.ensures.value c.in_err-program.ensures.refused))
