-- What the passes over all files come to together.
use Rattle.std.proofs.Common.{◌≡◌, ℕ, List, map, sym, ap, ◌∙◌, subst}
use Rattle.std.specs.List.{zip}
use Rattle.aos_tree.specs.declared.module.Module.{Module as Tree}
use Rattle.aos_typed.specs.Program.{Program}
use Rattle.aos_symbols.specs.Outcome.{Outcome, refused, went, then, in_turn}
use Rattle.aos_reading.specs.declared.compile_err.CompileErr.{CompileErr}
use Rattle.aos_reading.specs.declared.compile_err.CompileErr.TheVariants.{Refused, NoMemory}
use Rattle.aos_compile.specs.Modules.{World, no_modules}
use Rattle.aos_reading.specs.Files.{Source, Reading, trees_from, load_order, named}
use Rattle.aos_compile.specs.Files.{loaded, in_order, modules, whole, elaborate}
use Rattle.aos_reading.specs.Texts.{AreReadings}
use Rattle.aos_reading.specs.Sources.{OnRefused}
use Rattle.aos_compile.specs.Elaborates.{ComesTo}

-- what is told of a part, told of the whole
on_refused : {A B : Type 0} (said : CompileErr) (o : Outcome A) (f : A → Outcome B) → OnRefused said (λ r. o ≡ refused r) → OnRefused said (λ r. then o f ≡ refused r)
on_refused (Refused r) o f e = ap (λ x. then x f) e
on_refused NoMemory o f e = tt

-- files in this order, in which all object types have names
module _ (ss all : List Source) (order : List ℕ) (same : all ≡ map named ss) where
  pub order_refused : (said : CompileErr) → OnRefused said (λ r. in_turn (loaded all) no_modules order ≡ refused r) →
      OnRefused said (λ r. then (in_order ss order) (λ w. went (whole w)) ≡ refused r)
  order_refused said h =
      on_refused said (in_order ss order) (λ w. went (whole w)) (subst (λ all. OnRefused said (λ r. in_turn (loaded all) no_modules order ≡ refused r)) same h)

  pub order_went : (w : World) (p : Program) → in_turn (loaded all) no_modules order ≡ went w → p ≡ whole w → then (in_order ss order) (λ w. went (whole w)) ≡ went p
  order_went w p e is =
      ap (λ o. then o (λ w. went (whole w))) (ap (λ all. in_turn (loaded all) no_modules order) (sym same) ∙ e) ∙ ap went (sym is)

module _ (texts : List (List ℕ)) (rs : List Reading) (are : AreReadings texts rs) where
  comes : (said : CompileErr) → OnRefused said (λ r. elaborate texts rs ≡ refused r) → OnRefused said (λ r. ComesTo texts (refused r))
  comes (Refused r) e = record { readings = rs; are_readings = are; is = e }
  comes NoMemory e = tt

  abbrev behind_trees : List Tree → Outcome Program
  behind_trees ms = then (modules (zip texts ms)) (λ w. went (whole w))

  pub broken_text : (said : CompileErr) → OnRefused said (λ r. trees_from 0 rs ≡ refused r) → OnRefused said (λ r. ComesTo texts (refused r))
  broken_text said h = comes said (on_refused said (trees_from 0 rs) behind_trees h)

  module _ (ms : List Tree) (read : trees_from 0 rs ≡ went ms) where
    abbrev files : List Source
    files = zip texts ms

    read_so : elaborate texts rs ≡ behind_trees ms
    read_so = ap (λ x. then x behind_trees) read

    over : (said : CompileErr) → OnRefused said (λ r. behind_trees ms ≡ refused r) → OnRefused said (λ r. ComesTo texts (refused r))
    over said h = comes said (subst (λ o. OnRefused said (λ r. o ≡ refused r)) (sym read_so) h)

    pub no_order : (said : CompileErr) → OnRefused said (λ r. load_order files ≡ refused r) → OnRefused said (λ r. ComesTo texts (refused r))
    no_order said h = over said (on_refused said (modules files) (λ w. went (whole w)) (on_refused said (load_order files) (in_order files) h))

    module _ (order : List ℕ) (ordered : load_order files ≡ went order) where
      abbrev pub program : Outcome Program
      program = then (in_order files order) (λ w. went (whole w))

      ordered_so : behind_trees ms ≡ program
      ordered_so = ap (λ x. then (then x (in_order files)) (λ w. went (whole w))) ordered

      pub broken_module : (said : CompileErr) → OnRefused said (λ r. program ≡ refused r) → OnRefused said (λ r. ComesTo texts (refused r))
      broken_module said h = over said (subst (λ o. OnRefused said (λ r. o ≡ refused r)) (sym ordered_so) h)

      pub comes_whole : (p : Program) → program ≡ went p → ComesTo texts (went p)
      comes_whole p e = record { readings = rs; are_readings = are; is = read_so ∙ ordered_so ∙ e }
