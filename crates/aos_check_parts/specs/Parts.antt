-- The third pass: what statements ask of their expressions, and what these are in the typed program.
use Rattle.std.specs.Prelude.{ℕ, ℤ, pos, List, [], ◌++◌, Bool, Option, Some, None, if◌then◌else◌}
use Rattle.std.specs.Option.{option_map, unwrap_or}
use Rattle.std.specs.List.{flat_map, fold}
use Rattle.aos_base.specs.declared.priority.Priority.{Priority}
use Rattle.aos_base.specs.declared.priority.Priority.TheVariants.{Normal}
use Rattle.aos_base.specs.declared.text.Pos.{Pos}
use Rattle.aos_tree.specs.declared.expr.Expr.{Expr as TreeExpr, out-Expr}
use Rattle.aos_tree.specs.declared.stat.Block.{Block as TreeBlock}
use Rattle.aos_tree.specs.declared.stat.Modifier.{Modifier}
use Rattle.aos_tree.specs.declared.stat.Label.{Label}
use Rattle.aos_typed.specs.Program.{Expr as Typed, Stat, Await, Return}
use Rattle.aos_typed.specs.declared.tree.LabelRange.{LabelRange}
use Rattle.aos_symbols.specs.declared.breach.Breach.{Breach}
use Rattle.aos_types.specs.declared.signature.Gives.{Gives}
use Rattle.aos_types.specs.declared.signature.Gives.TheVariants as gives
use Rattle.aos_symbols.specs.declared.env.Env.{Env}
use Rattle.aos_symbols.specs.Breaches.{breach_unless, first_after}
use Rattle.aos_symbols.specs.Judged.{Judged, judged, kept, bind}
use Rattle.aos_symbols.specs.Spelling.{is_priority}
use Rattle.aos_types.specs.declared.row.TypeId.{TypeId}
use Rattle.aos_known.specs.Known.{Answer, passes, fits}
use Rattle.aos_operators.specs.Operations.{number}
use Rattle.aos_values.specs.Assignable as assignable
use Rattle.aos_designators.specs.Designators as desig
use Rattle.aos_check_expr.specs.Expressions.{constant_class, expr, condition}
use Rattle.aos_stat_rules.specs.Calls.{refused}
use Rattle.aos_tree.specs.declared.name.Name.{Name}
use Rattle.aos_typed.specs.Seen.{seen_place, seen_expr}
use Rattle.aos_check_parts.specs.declared.loops.Counted.{Counted}
pub use Rattle.aos_stat_rules.specs.Statements.{put, exit_of, is_safe, is_exclusive, are_exclusive, takes_priority, is_plain, is_allowed, modifier_breach, breaches_behind, modifier_breaches, level_in, level_breaches, in_region, within_block, within_body, in_condition, is_selector, is_label, range_of, Labels, with_label, Control, lost, control_breaches, control_variable, is_step, step_breaches, step_in, is_lone_self, control_rule, with_rule, is_variable_meaning, may_be_variable, is_missing, narrowed_meaning, narrowed_found, assign_breaches, assigned_stat, gives_here, control_meant, control_found, control, with_name, with_part, with_variable, head_of_with, narrowed_variable, narrowed_by, behind_with, with_stat}

abbrev pub value_breaches : Env → Pos → Option TreeExpr → List Breach
value_breaches e at None = []
value_breaches e at (Some x) = level_breaches at (first_after None (expr e x).breaches) (expr e x).answer.known.class

abbrev pub priority_breaches : Env → Modifier → List Breach
priority_breaches e m = if is_priority e.here.text m then value_breaches e m.name.pos m.value else []

-- those of a whole body
abbrev pub body_breaches : Env → (may_be_active : Bool) → List Modifier → List Breach
body_breaches e may_be_active ms = modifier_breaches e.here.text may_be_active ms ++ flat_map (priority_breaches e) ms

-- the priority of the activities that carry out a body: that which its PRIORITY names, or else the normal one
abbrev pub level_of : Env → Option TreeExpr → Priority
level_of e None = Normal
level_of e (Some x) = unwrap_or (level_in (expr e x).answer.known.class) Normal

abbrev pub said_by : Env → Priority → Modifier → Priority
said_by e before m = if is_priority e.here.text m then level_of e m.value else before

abbrev pub said_in : Env → List Modifier → Priority
said_in e ms = fold (said_by e) Normal ms

abbrev pub priority_of : Env → Option TreeBlock → Priority
priority_of e None = Normal
priority_of e (Some b) = said_in e b.modifiers

-- AWAIT, whose number is that among all of a program, which is told when all are met
abbrev pub await_of : Env → Pos → TreeExpr → Judged (Option Stat)
await_of e p x = bind (condition (in_condition e) x) (λ test. judged (breach_unless e.is_exclusive 43 p) (Some (Await p 0 test)))

-- what stands before DO in a FOR: its variable with its type, its first and last values, and its step
abbrev pub Counts : Type 0
Counts = Control × Typed × Typed × ℤ

abbrev pub seen_counted : Counted → Counts
seen_counted c = ((seen_place c.variable, c.of), seen_expr c.first, seen_expr c.last, c.step)

module _ (e : Env) where
  -- a function gives a value that fits its result; a result that is no scalar isn't built
  abbrev pub return_value : Pos → Option TypeId → TreeExpr → Judged (Option Stat)
  return_value at of x =
      bind (expr e x) (λ v.
      judged (breach_unless (assignable.is_assignable e v.known of) 40 at ++ breach_unless (passes (desig.is_value e) of) 99 at)
      (Some (Return at (Some (assignable.typed_for e of v)))))

  abbrev pub return_of : Pos → Gives → Option TreeExpr → Judged (Option Stat)
  return_of at gives.Nothing None = kept (Some (Return at None))
  return_of at gives.Nothing (Some x) = bind (expr e x) (λ _. refused 40 at)
  return_of at (gives.Value of) None = refused 40 at
  return_of at (gives.Value of) (Some x) = return_value at of x

  abbrev pub selector : TreeExpr → Judged Answer
  selector x = bind (expr e x) (λ v. judged (breach_unless (is_selector v.known.of) 38 (out-Expr x).pos) v)

  -- a label's value, where it breaks no rule
  abbrev pub label_value : Pos → Option TypeId → TreeExpr → Judged (Option ℤ)
  label_value at of x =
      bind (expr e x) (λ v. bind (constant_class v.known.class (out-Expr x).pos) (λ l.
      judged (breach_unless (is_label of v.known.of) 38 at) (option_map number l)))

  abbrev pub label_range : Option TypeId → Label → Judged (Option LabelRange)
  label_range of l = bind (label_value at of l.first) (λ a. last a l.last)
    where
      at : Pos
      at = (out-Expr l.first).pos

      last : Option ℤ → Option TreeExpr → Judged (Option LabelRange)
      last a None = kept (range_of a a)
      last a (Some y) = bind (label_value at of y) (λ b. kept (range_of a b))

  abbrev pub label_in : Option TypeId → Labels → Label → Judged Labels
  label_in of ls l = bind (label_range of l) (λ r. with_label ls (out-Expr l.first).pos r)

  -- a value that must fit the variable, or else it breaks a rule
  abbrev pub fitting : Option TypeId → ℕ → Pos → TreeExpr → Judged Typed
  fitting of rule at x = bind (expr e x) (λ v. judged (breach_unless (fits v.known.of of) rule at) v.typed)

  abbrev pub step_of : Pos → Option TypeId → Option TreeExpr → Judged ℤ
  step_of at of None = kept (pos 1)
  step_of at of (Some x) =
      let j = expr e x in
      judged (step_breaches at of (first_after None j.breaches) j.answer.known.class) (step_in j.answer.known.class)

  abbrev pub counting : Name → Pos → (from to : TreeExpr) → Option TreeExpr → Judged Counts
  counting n q from to by =
      bind (control e n) (λ c. bind (fitting c.1 31 q from) (λ a. bind (fitting c.1 48 n.pos to) (λ b.
      bind (step_of n.pos c.1 by) (λ step. kept (c, a, b, step)))))
