-- How many scalars the variables of all modules have: as many where the table of types goes on, and in the typed program.
use Rattle.std.proofs.Common.{◌≡◌, ℕ, suc, ◌+◌, List, [], ◌∷◌, Option, Some, slice_get, sum_by, refl, sym, ap, ◌∙◌, arith}
use Rattle.std.proofs.lemmas.List.Sums.{sum_by-cons}
use Rattle.std.proofs.lemmas.Option.{slice_get_within}
use Rattle.aos_types.specs.declared.row.Basic.TheVariants.{Text}
use Rattle.aos_types.specs.declared.row.TypeId.{TypeId}
use Rattle.aos_types.specs.declared.row.TypeRow.{TypeRow}
use Rattle.aos_types.specs.declared.row.TypeRow.TheVariants as row
use Rattle.aos_types.specs.Contents.{variable_scalars}
use Rattle.aos_types.specs.Chain.{circles}
use Rattle.aos_typed.specs.Numbers.{id_of}
use Rattle.aos_typed.specs.Program.{Variable, Module}
use Rattle.aos_symbols.specs.Scope.{Scope}
use Rattle.aos_symbols.specs.Home.{Home}
use Rattle.aos_check_types.specs.Limits.{counted, variables_of, scalars_of}
use Rattle.aos_check_decl.proofs.Typing.{AreReady, variable_cells}
use Rattle.aos_check_types.proofs.TypingLimits.{counted_is}
use Rattle.aos_compile.proofs.TypingHomes.{AreHomes}
use Rattle.aos_compile.proofs.TypingScalars.{sum_stays, sum_typed}
use Rattle.aos_compile.proofs.TypingTypes.{RowsStay}

-- those of a module, as what is judged of all types counts them
abbrev pub home_scalars : List TypeRow → Home → ℕ
home_scalars rows h = scalars_of (circles rows) rows h

module _ (rows : List TypeRow) (ready : AreReady rows) where
  counted_sum : (ofs : List (Option TypeId)) → sum_by (counted (circles rows) rows) ofs ≡ sum_by (variable_cells rows) ofs
  counted_sum ofs = λ i. sum_by (λ (of : Option TypeId). counted_is (circles rows) rows ready.sound.sizes of i) ofs

  pub home_is : (h : Home) (s : Scope) → slice_get h.scopes 0 ≡ Some s → home_scalars rows h ≡ sum_by (variable_cells rows) s.variables
  home_is h s is = ap (λ o. sum_by (counted (circles rows) rows) (variables_of (circles rows) rows o)) is ∙ counted_sum s.variables

  abbrev module_size : Module → ℕ
  module_size m = sum_by (λ (v : Variable). variable_scalars rows (id_of v.of)) m.variables

  pub homes_typed : (n : ℕ) (hs : List Home) (ms : List Module) → AreHomes rows n hs ms → sum_by module_size ms ≡ sum_by (home_scalars rows) hs
  homes_typed n [] [] are = refl
  homes_typed n [] (m ∷ ms) are = absurd are
  homes_typed n (h ∷ hs) [] are = absurd are
  homes_typed n (h ∷ hs) (m ∷ ms) are =
      let one = sum_typed rows m.variables are.0.scope.variables are.0.typed are.0.known ∙ sym (home_is h are.0.scope are.0.is) in
      let more = homes_typed (suc n) hs ms are.1 in
      sum_by-cons module_size m ms ∙ (λ i. one i + more i) ∙ sym (sum_by-cons (home_scalars rows) h hs)

module _ (ts us : List TypeRow) (old : AreReady ts) (new : AreReady us) (stay : RowsStay ts us) where
  pub homes_stay : (n : ℕ) (hs : List Home) (ms : List Module) → AreHomes ts n hs ms → sum_by (home_scalars us) hs ≡ sum_by (home_scalars ts) hs
  homes_stay n [] [] are = refl
  homes_stay n [] (m ∷ ms) are = absurd are
  homes_stay n (h ∷ hs) [] are = absurd are
  homes_stay n (h ∷ hs) (m ∷ ms) are =
      let s = are.0.scope in
      let ten = slice_get_within ts 9 (row.Basic (Text 0)) (old.basic 9 (omega arith)) in
      let same = sum_stays ts us ten old.closed stay old.sound.none_contains_itself new.sound.none_contains_itself s.variables are.0.known in
      let one = home_is us new h s are.0.is ∙ same ∙ sym (home_is ts old h s are.0.is) in
      let more = homes_stay (suc n) hs ms are.1 in
      sum_by-cons (home_scalars us) h hs ∙ (λ i. one i + more i) ∙ sym (sum_by-cons (home_scalars ts) h hs)
