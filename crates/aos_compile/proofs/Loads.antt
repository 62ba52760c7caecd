-- Modules one behind another.
use Rattle.std.proofs.Common.{◌≡◌, ℕ, ◌+◌, ◌<◌, List, [], ◌∷◌, length, drop, get_or, Some, refl, sym, ap, ◌∙◌}
use Rattle.std.specs.List.{slice_get}
use Rattle.std.proofs.lemmas.List.{length-append, drop_more}
use Rattle.aos_tree.specs.declared.module.Module.{Module as Tree}
use Rattle.aos_symbols.specs.declared.env.Env.{Env}
use Rattle.aos_symbols.specs.Judged.{Judged, judged}
use Rattle.aos_check_names.specs.Names.{name_breaches}
use Rattle.aos_symbols.specs.Outcome.{Outcome, refused, went, then, passed, in_turn}
use Rattle.aos_check_decl.specs.Pass.{declare}
use Rattle.aos_reading.specs.declared.compile_err.CompileErr.{CompileErr}
use Rattle.aos_reading.specs.declared.compile_err.CompileErr.TheVariants.{Refused, NoMemory}
use Rattle.aos_compile.specs.Modules.{World, no_modules, Bodies, bodies, extended, module_of, elaborated}
use Rattle.aos_reading.specs.Files.{Source}
use Rattle.aos_compile.specs.Files.{loaded}
use Rattle.aos_reading.specs.Sources.{OnRefused}

-- what the first of two came to, where both went
pub went_first : {A B : Type 0} (o : Outcome A) (f : A → Outcome B) (b : B) → then o f ≡ went b → (a : A) × (f a ≡ went b)
went_first (refused r) f b e = absurd (cc)
went_first (went a) f b e = (a, e)

-- one module more
pub record IsLonger (w v : World) : Type 0 where
  pub before : length v.before ≡ length w.before + 1
  pub modules : length v.modules ≡ length w.modules + 1

by_extended : (w v : World) (e : Env) (m : Tree) (b : Bodies) → went (extended w e m b) ≡ went v → IsLonger w v
by_extended w v e m b same =
    let is : extended w e m b ≡ v = cc in
    record {
      before = ap (λ x. length x.before) (sym is) ∙ length-append w.before (e.here ∷ []);
      modules = ap (λ x. length x.modules) (sym is) ∙ length-append w.modules (module_of e m b ∷ []);
    }

module _ (w : World) (k : ℕ) (text : List ℕ) (m : Tree) where
  abbrev with_bodies : Env → Outcome World
  with_bodies e = then (passed k (bodies e m)) (λ b. went (extended w e m b))

  abbrev declares : Judged Env
  declares = declare (length w.before) w.before w.types text m

  abbrev with_headings : Unit {0} → Outcome World
  with_headings names = then (passed k declares) with_bodies

  pub longer : (v : World) → elaborated w k text m ≡ went v → IsLonger w v
  longer v is =
      let h = went_first (passed k (judged (name_breaches text m) tt)) with_headings v is in
      let e = went_first (passed k declares) with_bodies v h.1 in
      let b = went_first (passed k (bodies e.0 m)) (λ b. went (extended w e.0 m b)) v e.1 in
      by_extended w v e.0 m b.0 b.1

pub loaded_at : (ss : List Source) (w : World) (k : ℕ) (text : List ℕ) (m : Tree) → slice_get ss k ≡ Some (text, m) → loaded ss w k ≡ elaborated w k text m
loaded_at ss w k text m is = rw is refl

-- the files of an order from a number on, behind the modules before them
module _ (ss : List Source) (order : List ℕ) where
  abbrev from : ℕ → World → Outcome World
  from i w = in_turn (loaded ss) w (drop i order)

  abbrev all : Outcome World
  all = in_turn (loaded ss) no_modules order

  step : (i : ℕ) (w : World) (text : List ℕ) (m : Tree) → i < length order → slice_get ss (get_or order i 0) ≡ Some (text, m) →
      from i w ≡ then (elaborated w (get_or order i 0) text m) (λ v. from (i + 1) v)
  step i w text m lt at = ap (in_turn (loaded ss) w) (drop_more order i 0 lt) ∙ ap (λ o. then o (λ v. from (i + 1) v)) (loaded_at ss w (get_or order i 0) text m at)

  pub module_broken : (i : ℕ) (w : World) (text : List ℕ) (m : Tree) (said : CompileErr) → i < length order → slice_get ss (get_or order i 0) ≡ Some (text, m) → from i w ≡ all →
      OnRefused said (λ r. elaborated w (get_or order i 0) text m ≡ refused r) → OnRefused said (λ r. all ≡ refused r)
  module_broken i w text m (Refused r) lt at rest e = sym rest ∙ step i w text m lt at ∙ ap (λ o. then o (λ v. from (i + 1) v)) e
  module_broken i w text m NoMemory lt at rest e = tt

  pub module_more : (i : ℕ) (w v : World) (text : List ℕ) (m : Tree) → i < length order → slice_get ss (get_or order i 0) ≡ Some (text, m) → from i w ≡ all →
      elaborated w (get_or order i 0) text m ≡ went v → from (i + 1) v ≡ all
  module_more i w v text m lt at rest e = sym (step i w text m lt at ∙ ap (λ o. then o (λ v. from (i + 1) v)) e) ∙ rest
