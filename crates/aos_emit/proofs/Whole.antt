-- The statements of a body, whose EXIT leads behind them.
use Rattle.std.proofs.Common.{◌≡◌, ℕ, ◌+◌, Bool, true, false, Option, List, [], ◌∷◌, ◌++◌, length, ap, ◌∙◌, arith, length-append}
use Rattle.aos_typed.specs.Program.{Stats, Procedure, Program}
use Rattle.aos_code.specs.declared.instr.Instr.{Instr}
use Rattle.aos_code.specs.declared.instr.Instr.TheVariants.{Enter, Leave}
use Rattle.aos_sim.specs.Code.{Within, NoRegion, InLoop, stats_code, statements_code}
use Rattle.aos_sim.proofs.Sizes.{way}

module _ (p : Program) (own : Option Procedure) (ss : Stats) where
  abbrev pub whole : Bool → ℕ → List Instr
  whole exclusive exit = statements_code p own (record { is_exclusive = exclusive; statements = ss }) exit

  abbrev left : ℕ → Within → ℕ → List Instr
  left at u exit = stats_code p own ss at (way u exit) 0

  pub region_whole : (c1 c2 c3 : List Instr) → c1 ≡ Enter ∷ [] → c2 ≡ c1 ++ left (length c1) InLoop (length c1 + length (left (length c1) InLoop 0) + 1) → c3 ≡ c2 ++ Leave ∷ [] → c3 ≡ whole true (length (whole true 0))
  region_whole c1 c2 c3 e1 e2 e3 =
      let b : ℕ → List Instr = left 1 InLoop in
      let out : 1 + length (b 0) + 1 ≡ length (whole true 0) = omega (arith, length-append (b 0) (Leave ∷ [])) in
      e3
      ∙ ap (λ l. l ++ Leave ∷ []) (e2 ∙ (λ j. e1 j ++ left (length (e1 j)) InLoop (length (e1 j) + length (left (length (e1 j)) InLoop 0) + 1)))
      ∙ ap (λ n. Enter ∷ (b n ++ Leave ∷ [])) out

  pub plain_whole : (u : Within) (c1 c2 : List Instr) → u ≡ NoRegion → c1 ≡ [] → c2 ≡ c1 ++ left (length c1) u (length c1 + length (left (length c1) u 0) + 0) → c2 ≡ whole false (length (whole false 0))
  plain_whole u c1 c2 eu e1 e2 =
      let b : ℕ → List Instr = left 0 NoRegion in
      let out : 0 + length (b 0) + 0 ≡ length (b 0) = omega arith in
      e2 ∙ (λ j. e1 j ++ left (length (e1 j)) (eu j) (length (e1 j) + length (left (length (e1 j)) (eu j) 0) + 0)) ∙ ap b out
