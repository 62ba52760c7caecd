-- The program that texts come to is well typed.
use Rattle.std.proofs.Common.{◌≡◌, ℕ, suc, ◌+◌, ◌-◌, ◌<◌, ◌≤◌, List, [], ◌∷◌, length, map, Option, Some, None, slice_get, zip, All, refl, sym, ap, subst, arith}
use Rattle.std.proofs.lemmas.List.Elements.{All-append}
use Rattle.std.proofs.lemmas.Option.{slice_get_within}
use Rattle.aos_base.specs.declared.limits.TheConstants.{MOST_SCALARS}
use Rattle.aos_types.specs.declared.row.TypeId.{TypeId}
use Rattle.aos_typed.specs.Numbers.{predeclared_types, predeclared_rows}
use Rattle.aos_typed.specs.Methods.{methods_in, own_methods, base_type, on_base, methods_of}
use Rattle.aos_typed.specs.Program.{ObjectType, Module, Program}
use Rattle.aos_typed.specs.WellTyped.{AreSlots, AreStatements, AreTypes, IsVariableType, IsProcedure, AreObjectTypes, module_scalars, ProgramKeepsRules, IsWellTyped}
use Rattle.aos_typed.specs.Rules.{ModuleKeepsRules, ObjectKeepsRules}
use Rattle.aos_typed.proofs.Numbered.{numbered_typed}
use Rattle.aos_symbols.specs.Home.{Home, texts_of}
use Rattle.aos_symbols.specs.Outcome as outcome
use Rattle.aos_symbols.specs.Outcome.{went, in_turn}
use Rattle.aos_symbols.proofs.Each.{Each, all_of}
use Rattle.aos_symbols.proofs.Holds.{then_went, same_went}
use Rattle.aos_known.specs.Known.{object_number}
use Rattle.aos_compile.specs.Modules.{World, no_modules, program_of}
use Rattle.aos_reading.specs.Files.{Source, trees_from, load_order, named}
use Rattle.aos_compile.specs.Files.{loaded, in_order, modules, whole}
use Rattle.aos_compile.specs.Elaborates.{ComesTo}
use Rattle.aos_compile.proofs.Keeping.{rows_keep}
use Rattle.aos_compile.proofs.Names.{named_well}
use Rattle.aos_compile.proofs.TypingTypes.{known_variables}
use Rattle.aos_compile.proofs.TypingScalars.{sum_typed}
use Rattle.aos_compile.proofs.TypingSums.{homes_typed}
use Rattle.aos_compile.proofs.Strings.{texts_below}
use Rattle.aos_compile.proofs.TypingObjects.{object_types, object_homes}
use Rattle.aos_compile.proofs.MethodsGrow.{bases_high}
use Rattle.aos_compile.proofs.TypingHomes.{AreHomes}
use Rattle.aos_compile.proofs.TypingMethods.{all_are_slots}
use Rattle.aos_compile.proofs.TypingOutlook.{outlook}
use Rattle.aos_compile.proofs.TypingWorld.{AreTyped, IsWorld, no_world}
use Rattle.aos_compile.proofs.TypingModules.{module_sound}

module _ (ss : List Source) where
  loaded_sound : (k : ℕ) (w v : World) → IsWorld w → loaded ss w k ≡ went v → IsWorld v
  loaded_sound k w v sound h = by (slice_get ss k) refl
    where
      by : (s : Option Source) → slice_get ss k ≡ s → IsWorld v
      by None is = subst IsWorld (same_went w v (rw is at h)) sound
      by (Some s) is = module_sound w sound s.0 s.1 k v (rw is at h)

  in_turn_sound : (ks : List ℕ) (w v : World) → IsWorld w → in_turn (loaded ss) w ks ≡ went v → IsWorld v
  in_turn_sound [] w v sound h = subst IsWorld (same_went w v h) sound
  in_turn_sound (k ∷ ks) w v sound h =
      let one = then_went (loaded ss w k) (λ u. in_turn (loaded ss) u ks) v h in
      in_turn_sound ks one.0 v (loaded_sound k w one.0 sound one.1) one.2

world_sound : (ss : List Source) (w : World) → modules ss ≡ went w → IsWorld w
world_sound ss w h =
    let one = then_went (load_order ss) (in_order ss) w h in
    in_turn_sound (map named ss) one.0 no_modules w no_world one.2

-- all that is typed of a program
pub record TypedWell (p : Program) : Type 0 where
  pub bodies : All (λ m. AreStatements p None m.body.statements) p.modules
  pub objects : AreObjectTypes p 0 p.objects
  pub homes : All (λ o. o.home < length p.modules) p.objects
  pub types : AreTypes p.types
  pub texts : All (λ m. All (λ t. All (λ c. c < 256) t) m.texts) p.modules
  pub predeclared : (k : ℕ) → k < predeclared_types → slice_get p.types k ≡ slice_get predeclared_rows k
  pub beside : length p.types ≡ length p.objects + predeclared_types
  pub variables : All (λ m. All (λ v. IsVariableType p v.of) m.variables) p.modules
  pub few_scalars : All (λ m. module_scalars p m ≤ MOST_SCALARS) p.modules
  pub procedures : All (λ m. All (λ q. IsProcedure p q × (q.of ≡ None)) m.procedures) p.modules
  pub rules : ProgramKeepsRules p

module _ (w : World) (sound : IsWorld w) where
  abbrev AreVariables : Module → Type 0
  AreVariables m = All (λ v. IsVariableType (program_of w) v.of) m.variables

  variables_of_homes : (n : ℕ) (hs : List Home) (ms : List Module) → AreHomes w.types n hs ms → Each AreVariables ms
  variables_of_homes n [] [] are = tt
  variables_of_homes n [] (m ∷ ms) are = absurd are
  variables_of_homes n (h ∷ hs) [] are = absurd are
  variables_of_homes n (h ∷ hs) (m ∷ ms) are = (
    all_of (λ v. IsVariableType (program_of w) v.of) m.variables
        (known_variables (program_of w) sound.table.basic m.variables are.0.scope.variables are.0.typed are.0.known),
    variables_of_homes (suc n) hs ms are.1,
  )

  abbrev HasFew : Module → Type 0
  HasFew m = module_scalars (program_of w) m ≤ MOST_SCALARS

  few_of_homes : (n : ℕ) (hs : List Home) (ms : List Module) → AreHomes w.types n hs ms → Each HasFew ms
  few_of_homes n [] [] are = tt
  few_of_homes n [] (m ∷ ms) are = absurd are
  few_of_homes n (h ∷ hs) [] are = absurd are
  few_of_homes n (h ∷ hs) (m ∷ ms) are = (
    subst (λ n. n ≤ MOST_SCALARS) (sym (sum_typed w.types m.variables are.0.scope.variables are.0.typed are.0.known)) are.0.few,
    few_of_homes (suc n) hs ms are.1,
  )

  -- the codes of string constants are those of characters
  abbrev HasCodes : Module → Type 0
  HasCodes m = All (λ t. All (λ c. c < 256) t) m.texts

  codes_of_homes : (n : ℕ) (hs : List Home) (ms : List Module) → AreHomes w.types n hs ms → Each HasCodes ms
  codes_of_homes n [] [] are = tt
  codes_of_homes n [] (m ∷ ms) are = absurd are
  codes_of_homes n (h ∷ hs) [] are = absurd are
  codes_of_homes n (h ∷ hs) (m ∷ ms) are =
      let codes = All-append (λ t. All (λ c. c < 256) t) (texts_of h) are.0.more (texts_below h) are.0.codes in
      (subst (All (λ t. All (λ c. c < 256) t)) (sym are.0.texts) codes, codes_of_homes (suc n) hs ms are.1)

  -- the methods that each type declares are in their slots
  slots : (k : ℕ) (o : ObjectType) → slice_get w.objects k ≡ Some o → AreSlots (program_of w) (on_base (methods_of (program_of w)) (base_type (program_of w) k)) o.methods
  slots k o there =
      let t : TypeId = record { 0 = 10 + k } in
      let number : object_number t ≡ k = let same : (10 + k) - 10 ≡ k = omega arith in same in
      let below = slice_get_within w.objects k o there in
      let count = sound.count in
      subst (λ ms. AreSlots (program_of w) (on_base (methods_of (program_of w)) (base_type (program_of w) k)) ms) (ap methods_in there)
      (subst (λ n. AreSlots (program_of w) (on_base (methods_of (program_of w)) (base_type (program_of w) n)) (own_methods (program_of w) n)) number
      (all_are_slots (outlook w.before w.types) w.modules w.objects sound.table sound.count sound.own (bases_high w.types sound.table) t (omega arith) (omega (arith, below, count))))

  typed : AreTyped w
  typed = sound.typed

  keeps_rules : ProgramKeepsRules (program_of w)
  keeps_rules = record {
    modules = all_of ModuleKeepsRules w.modules sound.keeps.modules;
    objects = all_of ObjectKeepsRules w.objects sound.keeps.objects;
    rows = rows_keep w.types sound.table;
    scalars = subst (λ n. n ≤ MOST_SCALARS) (sym (homes_typed w.types sound.table 0 w.before w.modules sound.homes)) sound.scalars;
  }

  world_typed : TypedWell (program_of w)
  world_typed = record {
    bodies = all_of (λ m. AreStatements (program_of w) None m.body.statements) w.modules typed.bodies;
    objects = object_types (program_of w) sound.table typed.objects sound.shapes slots;
    homes = object_homes (program_of w) sound.table typed.objects;
    types = sound.table.sound;
    texts = all_of HasCodes w.modules (codes_of_homes 0 w.before w.modules sound.homes);
    predeclared = sound.table.basic;
    beside = omega (arith, sound.count);
    variables = all_of AreVariables w.modules (variables_of_homes 0 w.before w.modules sound.homes);
    few_scalars = all_of HasFew w.modules (few_of_homes 0 w.before w.modules sound.homes);
    procedures = all_of (λ m. All (λ q. IsProcedure (program_of w) q × (q.of ≡ None)) m.procedures) w.modules typed.procedures;
    rules = keeps_rules;
  }

-- the program of 1 to 64 texts
pub well_typed : (texts : List (List ℕ)) (p : Program) → ComesTo texts (went p) → 1 ≤ length texts → length texts ≤ 64 → IsWellTyped p
well_typed texts p h some few =
    let read = then_went (trees_from 0 h.readings) (λ ms. outcome.then (modules (zip texts ms)) (λ w. went (whole w))) p h.is in
    let made = then_went (modules (zip texts read.0)) (λ w. went (whole w)) p read.2 in
    let w = made.0 in
    let same = same_went (whole w) p made.2 in
    let named = named_well texts h.readings read.0 w h.are_readings read.1 made.1 some few in
    let typed = world_typed w (world_sound (zip texts read.0) w made.1) in
    subst IsWellTyped same
    (numbered_typed (program_of w) (record {
      some = named.some;
      few = named.few;
      names = named.names;
      differ = named.differ;
      bodies = typed.bodies;
      objects = typed.objects;
      homes = typed.homes;
      types = typed.types;
      texts = typed.texts;
      predeclared = typed.predeclared;
      beside = typed.beside;
      variables = typed.variables;
      few_scalars = typed.few_scalars;
      procedures = typed.procedures;
    }) typed.rules)
