-- Statements whose parts are given as lists.
use Rattle.std.specs.Prelude.{List, [], ◌∷◌, drop, length, Bool, true, false, Option, Some, None}
use Rattle.aos_base.specs.declared.text.Pos.{Pos}
use Rattle.aos_tree.specs.declared.name.Name.{Name}
use Rattle.aos_tree.specs.declared.name.Qualident.{Qualident}
use Rattle.aos_tree.specs.declared.expr.Expr.{Expr as TreeExpr}
use Rattle.aos_tree.specs.declared.stat.Block.{Block as TreeBlock}
use Rattle.aos_tree.specs.declared.stat.Elsif.{Elsif}
use Rattle.aos_tree.specs.declared.stat.Case.{Case as TreeCase}
use Rattle.aos_tree.specs.declared.stat.Case.TheVariants as case
use Rattle.aos_tree.specs.declared.stat.StatSeq.{StatSeq}
use Rattle.aos_tree.specs.declared.stat.Stat.{Stat as TreeStat, items-the_row-Stat}
use Rattle.aos_types.specs.declared.row.TypeId.{TypeId}
use Rattle.aos_typed.specs.Program.{Stat, If, Case, While, Repeat, Loop, For, Block, Arms, Otherwise, Arm, Cases, NoElse, Else, OfLabels}
use Rattle.aos_symbols.specs.declared.env.Env.{Env}
use Rattle.aos_symbols.specs.Judged.{Judged, judged, kept, bind, walk}
use Rattle.aos_known.specs.Known.{width_of}
use Rattle.aos_values.specs.TypeNames.{known_type}
use Rattle.aos_designators.specs.Designators.{guard}
use Rattle.aos_check_expr.specs.Expressions.{condition}
use Rattle.aos_check_stat.specs.Bodies.{listed, modifier_breaches, are_exclusive, within_block, Labels, label_in, selector, control, fitting, step_of, with_variable, narrowed_by, with_stat, stat_in}

module _ (e : Env) where
  abbrev pub listed_in : Bool → List TreeStat → Judged (List Stat)
  listed_in in_loop ss = walk (stat_in e in_loop) [] ss

  abbrev pub behind_else : Bool → Option StatSeq → Judged (List Stat)
  behind_else in_loop None = kept []
  behind_else in_loop (Some b) = listed_in in_loop b.stats

  abbrev pub while_of : Bool → Pos → TreeExpr → List TreeStat → Judged (Option Stat)
  while_of in_loop p c ss = bind (condition e c) (λ test. bind (listed_in in_loop ss) (λ body. kept (Some (While p test (listed body)))))

  abbrev pub repeat_of : Bool → Pos → List TreeStat → TreeExpr → Judged (Option Stat)
  repeat_of in_loop p ss c = bind (listed_in in_loop ss) (λ body. bind (condition e c) (λ test. kept (Some (Repeat p (listed body) test))))

  abbrev pub loop_of : Pos → List TreeStat → Judged (Option Stat)
  loop_of p ss = bind (listed_in true ss) (λ body. kept (Some (Loop p (listed body))))

  abbrev pub block_of : Bool → TreeBlock → Judged (Option Stat)
  block_of in_loop b =
      bind (judged (modifier_breaches e.here.text false b.modifiers) []) (λ none. bind (walk (stat_in (within_block b.modifiers e) in_loop) none b.body.stats) (λ body.
      kept (Some (Block b.pos (are_exclusive e.here.text b.modifiers) (listed body)))))

  abbrev pub for_of : Bool → Pos → Name → Pos → (from to : TreeExpr) → Option TreeExpr → List TreeStat → Judged (Option Stat)
  for_of in_loop p n q from to by ss =
      bind (control e n) (λ c. bind (fitting e c.1 31 q from) (λ a. bind (fitting e c.1 48 n.pos to) (λ b.
      bind (step_of e n.pos c.1 by) (λ step. bind (listed_in in_loop ss) (λ body.
      kept (Some (For p (width_of c.1) c.0 a b step (listed body))))))))

  abbrev pub with_of : Bool → Pos → Qualident → Pos → Qualident → List TreeStat → Judged (Option Stat)
  with_of in_loop p a q b ss =
      bind (with_variable e a) (λ v. bind (known_type e b) (λ t. bind (guard e q v t) (λ g.
      bind (walk (stat_in (narrowed_by e a t) in_loop) [] ss) (λ body. kept (Some (with_stat p g.held (listed body)))))))

  -- a test, and the statements behind it
  abbrev pub tested : Bool → TreeExpr → List TreeStat → Judged (List Stat)
  tested in_loop c ss = bind (condition e c) (λ test. listed_in in_loop ss)

  -- IF, whose first arm and ELSIFs stand before the statements behind ELSE
  abbrev pub arms_in : Bool → List Elsif → Judged Arms → Judged Arms
  arms_in in_loop [] last = last
  arms_in in_loop (x ∷ xs) last =
      bind (condition e x.condition) (λ test. bind (listed_in in_loop x.body.stats) (λ body. bind (arms_in in_loop xs last) (λ arms.
      kept (Arm test (listed body) arms))))

  abbrev pub last_arm : Bool → Option StatSeq → Judged Arms
  last_arm in_loop otherwise = bind (behind_else in_loop otherwise) (λ last. kept (Otherwise (listed last)))

  abbrev pub if_of : Bool → Pos → TreeExpr → List TreeStat → List Elsif → Option StatSeq → Judged (Option Stat)
  if_of in_loop p c ss xs otherwise =
      bind (condition e c) (λ test. bind (listed_in in_loop ss) (λ body. bind (arms_in in_loop xs (last_arm in_loop otherwise)) (λ arms.
      kept (Some (If p (Arm test (listed body) arms))))))

  abbrev pub else_of_case : Bool → Option StatSeq → Judged Cases
  else_of_case in_loop None = kept NoElse
  else_of_case in_loop (Some b) = bind (listed_in in_loop b.stats) (λ body. kept (Else (listed body)))

  abbrev pub cases_of : Bool → Option TypeId → Labels → List TreeCase → Judged Cases → Judged Cases
  cases_of in_loop of ls [] last = last
  cases_of in_loop of ls (case.Empty ∷ xs) last = cases_of in_loop of ls xs last
  cases_of in_loop of ls (case.Arm' labels shape row ∷ xs) last =
      bind (walk (label_in e of) ls labels) (λ all. bind (listed_in in_loop (items-the_row-Stat _ row)) (λ ss.
      bind (cases_of in_loop of all xs last) (λ cases. kept (OfLabels (drop (length ls) all) (listed ss) cases))))

  abbrev pub case_of : Bool → Pos → TreeExpr → List TreeCase → Option StatSeq → Judged (Option Stat)
  case_of in_loop p c xs otherwise =
      bind (selector e c) (λ v. bind (cases_of in_loop v.known.of [] xs (else_of_case in_loop otherwise)) (λ cases.
      kept (Some (Case p v.typed cases))))
