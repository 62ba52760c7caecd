-- Statements that keep the rules beside types keep them once their AWAITs are numbered; and what keeps none.
use Rattle.std.proofs.Common.{◌≡◌, ℕ, pos, ◌+◌, List, length, Bool, true, false, ◌||◌, Option, None, refl, sym, ◌∙◌}
use Rattle.std.proofs.lemmas.Option.{none-some}
use Rattle.aos_base.specs.declared.text.Pos.{Pos}
use Rattle.aos_base.specs.declared.number.Width.{Width}
use Rattle.aos_typed.specs.Program.{Place, ModuleVar, Rows, Known, Expr, Stat, Assign, Copy, PutText, If, Case, While, Repeat, Loop, Exit, For, Block, Await, Assert, Halt, Change, Perform, Return, New, Make, With, WithRecord, Out, Stats, Nothing, Then, Arms, Otherwise, Arm, Cases, NoElse, Else, OfLabels, Procedure, Program}
use Rattle.aos_typed.specs.Conditions.{awaited, awaited_in, renumbered, stats_renumbered, arms_renumbered, cases_renumbered}
use Rattle.aos_typed.specs.Rules.{KeepsRules, AllKeepRules, ArmsKeepRules, CasesKeepRules}
use Rattle.aos_typed.specs.WellTyped.{variable_type, IsStatement}

mutual
  stat_keeps : (s : Stat) (n : ℕ) (r l : Bool) → KeepsRules r l s → KeepsRules r l (renumbered n s)
  stat_keeps (If at arms) n r l h = arms_keep arms n r l h
  stat_keeps (Case at e cases) n r l h = cases_keep cases n r l h
  stat_keeps (While at e body) n r l h = all_keep body n r l h
  stat_keeps (Repeat at body e) n r l h = all_keep body n r l h
  stat_keeps (Loop at body) n r l h = all_keep body n r true h
  stat_keeps (For at w p from to step body) n r l h = (h.0, all_keep body n r l h.1)
  stat_keeps (Block at exclusive body) n r l h = all_keep body n (r || exclusive) l h
  stat_keeps (Await at k e) n r l h = h
  stat_keeps (With at e body) n r l h = all_keep body n r l h
  stat_keeps (WithRecord at p body) n r l h = all_keep body n r l h
  stat_keeps (Assign at t p e) n r l h = tt
  stat_keeps (Copy at t p q) n r l h = tt
  stat_keeps (PutText at strict a b) n r l h = tt
  stat_keeps (Exit at) n r l h = h
  stat_keeps (Assert at e code) n r l h = tt
  stat_keeps (Halt at code) n r l h = tt
  stat_keeps (Change at c p e) n r l h = tt
  stat_keeps (Perform at c more) n r l h = tt
  stat_keeps (Return at e) n r l h = tt
  stat_keeps (New at p t more) n r l h = tt
  stat_keeps (Make at p t ns) n r l h = tt
  stat_keeps (Out at call) n r l h = tt

  pub all_keep : (ss : Stats) (n : ℕ) (r l : Bool) → AllKeepRules r l ss → AllKeepRules r l (stats_renumbered n ss)
  all_keep Nothing n r l h = tt
  all_keep (Then s ss) n r l h = (stat_keeps s n r l h.0, all_keep ss (n + length (awaited s)) r l h.1)

  arms_keep : (arms : Arms) (n : ℕ) (r l : Bool) → ArmsKeepRules r l arms → ArmsKeepRules r l (arms_renumbered n arms)
  arms_keep (Otherwise ss) n r l h = all_keep ss n r l h
  arms_keep (Arm e ss arms) n r l h = (all_keep ss n r l h.0, arms_keep arms (n + length (awaited_in ss)) r l h.1)

  cases_keep : (cases : Cases) (n : ℕ) (r l : Bool) → CasesKeepRules r l cases → CasesKeepRules r l (cases_renumbered n cases)
  cases_keep NoElse n r l h = tt
  cases_keep (Else ss) n r l h = all_keep ss n r l h
  cases_keep (OfLabels rs ss cases) n r l h = (all_keep ss n r l h.0, cases_keep cases (n + length (awaited_in ss)) r l h.1)

-- A FOR with the step 0, an EXIT in no LOOP, and an AWAIT in no region; and a text that is put in a string constant, which isn't well typed.

pub no_step : (r l : Bool) (at : Pos) (w : Width) (p : Place) (from to : Expr) (body : Stats) → KeepsRules r l (For at w p from to (pos 0) body) → ⊥
no_step r l at w p from to body h = h.0 refl

pub no_loop : (r : Bool) (at : Pos) → KeepsRules r false (Exit at) → ⊥
no_loop r at h = let e : false ≡ true = h in cc

pub no_region : (l : Bool) (at : Pos) (n : ℕ) (e : Expr) → KeepsRules false l (Await at n e) → ⊥
no_region l at n e h = let x : false ≡ true = h in cc

pub no_text : (p : Program) (own : Option Procedure) (at : Pos) (strict : Bool) (from : Rows) (m k : ℕ) (ns : List ℕ) → variable_type p m k ≡ None →
    IsStatement p own (PutText at strict from (Known (ModuleVar m k) ns)) → ⊥
no_text p own at strict from m k ns none h = none-some h.3.0 (sym none ∙ h.3.1)
