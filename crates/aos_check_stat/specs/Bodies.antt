-- The third pass: bodies. Built are assignments, calls, all other statements, and of the modifiers ACTIVE and PRIORITY on an object's
-- body, and EXCLUSIVE on any body or block.
-- A statement that isn't built is refused at its first token, a modifier at itself.
use Rattle.std.specs.Prelude.{drop, List, [], ◌∷◌, length, Bool, true, false, Option, Some, None}
use Rattle.aos_base.specs.declared.text.Pos.{Pos}
use Rattle.aos_tree.specs.declared.expr.Expr.{Expr as TreeExpr}
use Rattle.aos_tree.specs.declared.expr.Desig.{Desig}
use Rattle.aos_tree.specs.declared.stat.Block.{Block as TreeBlock}
use Rattle.aos_tree.specs.declared.stat.Case.TheVariants as case
use Rattle.aos_tree.specs.declared.stat.Stat.{Stat as TreeStat, Row_of-Stat, end_of-Stat, more_of-Stat, Row_of-Elsif, end_of-Elsif, more_of-Elsif, Row_of-Case, end_of-Case, more_of-Case, Held-Stat-If-4, None', Some'}
use Rattle.aos_tree.specs.declared.stat.Stat.TheVariants as stat
use Rattle.aos_typed.specs.Program.{Stat, If, Case, While, Repeat, Loop, For, Block, Stats, Nothing, Then, Arms, Otherwise, Arm, Cases, NoElse, Else, OfLabels}
use Rattle.aos_symbols.specs.declared.env.Env.{Env}
use Rattle.aos_symbols.specs.Judged.{Judged, judged, kept, bind, walk}
use Rattle.aos_symbols.specs.Env as env
use Rattle.aos_types.specs.declared.row.TypeId.{TypeId}
use Rattle.aos_known.specs.Known.{Held, width_of}
use Rattle.aos_values.specs.TypeNames.{known_type}
use Rattle.aos_designators.specs.Designators as desig
use Rattle.aos_designators.specs.Designators.{assigned}
use Rattle.aos_check_expr.specs.Expressions.{expr, condition, designator}
use Rattle.aos_check_stat.specs.Called.{called}
pub use Rattle.aos_stat_rules.specs.Statements.{put, exit_of, is_safe, is_exclusive, are_exclusive, takes_priority, is_plain, is_allowed, modifier_breach, breaches_behind, modifier_breaches, level_in, level_breaches, in_region, within_block, within_body, in_condition, is_selector, is_label, range_of, Labels, with_label, Control, lost, control_breaches, control_variable, is_step, step_breaches, step_in, is_lone_self, control_rule, with_rule, is_variable_meaning, may_be_variable, is_missing, narrowed_meaning, narrowed_found, assign_breaches, assigned_stat, gives_here, control_meant, control_found, control, with_name, with_part, with_variable, head_of_with, narrowed_variable, narrowed_by, behind_with, with_stat}
pub use Rattle.aos_check_parts.specs.Parts.{value_breaches, priority_breaches, body_breaches, level_of, said_by, said_in, priority_of, return_value, return_of, selector, label_value, label_range, label_in, fitting, step_of, await_of}

-- statements as a sequence of the typed program
abbrev pub listed : List Stat → Stats
listed [] = Nothing
listed (x ∷ xs) = Then x (listed xs)

module _ (e : Env) where
  abbrev pub assign : Desig → Pos → TreeExpr → Judged (Option Stat)
  assign d at x =
      bind (bind (designator e d) (λ a. assigned e d.name.pos a)) (λ a. bind (expr e x) (λ v.
      judged (assign_breaches e at a v) (Some (assigned_stat e d.name.pos a v))))

abbrev mutual
  -- a statement, in a LOOP or in none
  pub stat_of : Env → (in_loop : Bool) → TreeStat → Judged (Option Stat)
  stat_of e in_loop stat.Empty = kept None
  stat_of e in_loop (stat.Assign d p x) = assign e d p x
  stat_of e in_loop (stat.Call d) = called e (env.lookup e d.name) d
  stat_of e in_loop (stat.While' p c shape row) =
      bind (condition e c) (λ test. bind (stats_in e in_loop [] row) (λ body. kept (Some (While p test (listed body)))))
  stat_of e in_loop (stat.Block' p ms shape row) =
      bind (judged (modifier_breaches e.here.text false ms) []) (λ none. bind (stats_in (within_block ms e) in_loop none row) (λ body.
      kept (Some (Block p (are_exclusive e.here.text ms) (listed body)))))
  stat_of e in_loop (stat.Exit p) = exit_of in_loop p
  stat_of e in_loop (stat.Return p x) = return_of e p (gives_here e) x
  stat_of e in_loop (stat.Await p x) = await_of e p x
  stat_of e in_loop (stat.If' p c shape row shapes rows otherwise) =
      bind (condition e c) (λ test. bind (stats_in e in_loop [] row) (λ body.
      bind (elsifs_in e in_loop rows (bind (else_in e in_loop otherwise) (λ last. kept (Otherwise (listed last))))) (λ arms.
      kept (Some (If p (Arm test (listed body) arms))))))
  stat_of e in_loop (stat.Case' p c shape row otherwise) =
      bind (selector e c) (λ v. bind (cases_in e in_loop v.known.of [] row (case_else_in e in_loop otherwise)) (λ cases.
      kept (Some (Case p v.typed cases))))
  stat_of e in_loop (stat.Repeat' p shape row c) =
      bind (stats_in e in_loop [] row) (λ body. bind (condition e c) (λ test. kept (Some (Repeat p (listed body) test))))
  stat_of e in_loop (stat.Loop' p shape row) = bind (stats_in e true [] row) (λ body. kept (Some (Loop p (listed body))))
  stat_of e in_loop (stat.For' p n q from to by shape row) =
      bind (control e n) (λ c. bind (fitting e c.1 31 q from) (λ a. bind (fitting e c.1 48 n.pos to) (λ b.
      bind (step_of e n.pos c.1 by) (λ step. bind (stats_in e in_loop [] row) (λ body.
      kept (Some (For p (width_of c.1) c.0 a b step (listed body))))))))
  stat_of e in_loop (stat.With' p a q b shape row) =
      bind (with_variable e a) (λ v. bind (known_type e b) (λ t. bind (desig.guard e q v t) (λ g.
      bind (stats_in (narrowed_by e a t) in_loop [] row) (λ body. kept (Some (with_stat p g.held (listed body)))))))

  -- statements behind those before them
  pub stats_in : {m : _} → Env → (in_loop : Bool) → List Stat → Row_of-Stat m → Judged (List Stat)
  stats_in e in_loop ts end_of-Stat = kept ts
  stats_in e in_loop ts (more_of-Stat x xs) =
      bind (bind (stat_of e in_loop x) (λ o. kept (put ts o))) (λ us. stats_in e in_loop us xs)

  -- the statements behind ELSE; there are none without it
  pub else_in : Env → Bool → Held-Stat-If-4 → Judged (List Stat)
  else_in e in_loop None' = kept []
  else_in e in_loop (Some' shape row) = stats_in e in_loop [] row

  pub case_else_in : Env → Bool → Held-Stat-If-4 → Judged Cases
  case_else_in e in_loop None' = kept NoElse
  case_else_in e in_loop (Some' shape row) = bind (stats_in e in_loop [] row) (λ body. kept (Else (listed body)))

  -- arms of IF before the last one
  pub elsifs_in : {m : _} → Env → Bool → Row_of-Elsif m → Judged Arms → Judged Arms
  elsifs_in e in_loop end_of-Elsif last = last
  elsifs_in e in_loop (more_of-Elsif p c shape row more) last =
      bind (condition e c) (λ test. bind (stats_in e in_loop [] row) (λ body. bind (elsifs_in e in_loop more last) (λ arms.
      kept (Arm test (listed body) arms))))

  -- the arms of CASE behind others, which have these labels, before the last one
  pub cases_in : {m : _} → Env → Bool → Option TypeId → Labels → Row_of-Case m → Judged Cases → Judged Cases
  cases_in e in_loop of ls end_of-Case last = last
  cases_in e in_loop of ls (more_of-Case case.Empty more) last = cases_in e in_loop of ls more last
  cases_in e in_loop of ls (more_of-Case (case.Arm' labels shape row) more) last =
      bind (walk (label_in e of) ls labels) (λ all. bind (stats_in e in_loop [] row) (λ body.
      bind (cases_in e in_loop of all more last) (λ cases. kept (OfLabels (drop (length ls) all) (listed body) cases))))

module _ (e : Env) where
  abbrev pub stat_in : Bool → List Stat → TreeStat → Judged (List Stat)
  stat_in in_loop ts x = bind (stat_of e in_loop x) (λ o. kept (put ts o))

-- a body that is END alone has no statements
abbrev pub body_of : Env → Bool → Option TreeBlock → Judged (List Stat)
body_of e may_be_active None = kept []
body_of e may_be_active (Some b) =
    bind (judged (body_breaches e may_be_active b.modifiers) []) (λ none.
    walk (stat_in (within_body b.modifiers e) false) none b.body.stats)
