-- The third pass: calls of procedures and methods as statements.
use Rattle.std.specs.Prelude.{ℕ, ◌-◌, slice_get, List, [], ◌∷◌, length, map, not, Option, Some, None, if◌then◌else◌}
use Rattle.aos_base.specs.declared.text.Pos.{Pos}
use Rattle.aos_tree.specs.declared.expr.Expr.{Expr as TreeExpr}
use Rattle.aos_tree.specs.declared.expr.Desig.{Desig}
use Rattle.aos_tree.specs.declared.expr.Selector.{Selector, items-the_row-Expr}
use Rattle.aos_tree.specs.declared.expr.Selector.TheVariants as s
use Rattle.aos_typed.specs.Program.{Callee, Plain, Stat, Perform}
use Rattle.aos_symbols.specs.declared.scope.Meaning.{Meaning}
use Rattle.aos_symbols.specs.declared.scope.Meaning.TheVariants as means
use Rattle.aos_types.specs.declared.signature.Gives.{Gives}
use Rattle.aos_types.specs.declared.signature.Gives.TheVariants as gives
use Rattle.aos_types.specs.declared.signature.Signature.{Signature}
use Rattle.aos_symbols.specs.declared.env.Symbol.{Symbol}
use Rattle.aos_symbols.specs.declared.env.Lookup.{Lookup}
use Rattle.aos_symbols.specs.declared.env.Lookup.TheVariants.{Unknown as NoName, NotExported, Found}
use Rattle.aos_symbols.specs.declared.env.Env.{Env}
use Rattle.aos_symbols.specs.Breaches.{breach_unless}
use Rattle.aos_symbols.specs.Judged.{Judged, judged, kept, bind, walk}
use Rattle.aos_arguments.specs.Arguments.{listed as listed_arguments}
use Rattle.aos_bound.specs.declared.methods.Heading.{Heading}
use Rattle.aos_bound.specs.declared.methods.Heading.TheVariants as heading
use Rattle.aos_designators.specs.declared.designators.Head.{Head}
use Rattle.aos_designators.specs.Designators as desig
use Rattle.aos_bound.specs.Methods.{Bound, Part, Begun, Meant, Waits, bound_part}
use Rattle.aos_check_expr.specs.Expressions.{arguments_for, bracketed, signature_of, expr}
use Rattle.aos_check_expr.specs.Expressions.{selector as selector_of}
pub use Rattle.aos_stat_rules.specs.Calls.{refused, not_yet, plain_call, ended, arguments, behind_arguments, is_selected, is_selected_behind, goes_on, before_last, is_made, new_breaches, is_no_variable, lengths_wanted, count_breaches, made_type, makes_object, initializer_of, may_be_length, no_call, gives_value, is_value_called, changing, is_changed_set, is_amount, is_changed, changed_breaches, changed_by, code_of, is_code, code_in, text_to, value_fits, put_text, copied, called_entity}

module _ (e : Env) where
  -- Procedures that modules declare.

  -- a call of a proper one, which begins here
  abbrev pub perform_with : (at : Pos) → Callee → Signature → List TreeExpr → Judged (Option Stat)
  perform_with at c s xs =
      bind (arguments_for e at s.parameters (map (expr e) xs) xs) (λ h. kept (Some (Perform at c (listed_arguments h.given))))

  -- a function gives a value, and is asked for its arguments first
  abbrev pub perform_signed : (at : Pos) → Callee → Signature → List TreeExpr → Judged (Option Stat)
  perform_signed at c s xs = by s.gives
    where
      by : Gives → Judged (Option Stat)
      by gives.Nothing = perform_with at c s xs
      by (gives.Value of) = bind (arguments_for e at s.parameters (map (expr e) xs) xs) (λ h. refused 36 at)

  -- of what has this heading
  abbrev pub perform : (at : Pos) → Callee → Heading → List TreeExpr → Judged (Option Stat)
  perform at c h xs = by (signature_of e h)
    where
      by : Option Signature → Judged (Option Stat)
      by (Some s) = perform_signed at c s xs
      by None = not_yet at

  abbrev pub performed : (at : Pos) → Symbol → ℕ → List Selector → Judged (Option Stat)
  performed at x k more =
      ended at (behind_arguments more) (perform at (Plain x.at.home k) (heading.Declared x.at.home k) (arguments more))

  -- Calls of what a designator is: of a method or of what a value of a procedure type stands for, with the bracket that stands last, or of
  -- what is no procedure.

  abbrev pub perform_bound : (first : Pos) → Bound → List TreeExpr → Judged (Option Stat)
  perform_bound first b xs = perform first b.callee b.heading xs

  -- without a bracket, and with one
  abbrev pub called_as : (first : Pos) → Part → Judged (Option Stat)
  called_as first (Waits b) = perform_bound first b []
  called_as first (Begun h) = called_entity e first (kept (Begun h))
  called_as first (Meant a) = called_entity e first (kept (Meant a))

  abbrev pub called_alone : (first : Pos) → Part → Judged (Option Stat)
  called_alone first a = called_as first (bound_part e first a)

  abbrev pub bracketed_entity : (first : Pos) → Part → Pos → List TreeExpr → Judged (Option Stat)
  bracketed_entity first a p xs = called_entity e first (bracketed e first a p (map (expr e) xs) xs)

  -- behind a name that may stand for a predeclared function
  abbrev pub bracketed_name : (first : Pos) → Head → Pos → List TreeExpr → Judged (Option Stat)
  bracketed_name first h p xs =
      bind (bracketed_entity first (Begun h) p xs) (λ s. judged (breach_unless (not (is_value_called h.found)) 36 first) s)

  abbrev pub bracketed_as : (first : Pos) → Part → Pos → List TreeExpr → Judged (Option Stat)
  bracketed_as first (Waits b) p xs = perform_bound first b xs
  bracketed_as first (Begun h) p xs = bracketed_name first h p xs
  bracketed_as first (Meant a) p xs = bracketed_entity first (Meant a) p xs

  abbrev pub called_with : (first : Pos) → Part → Pos → List TreeExpr → Judged (Option Stat)
  called_with first a p xs = bracketed_as first (bound_part e first a) p xs

  -- what a designator is behind these of its selectors
  abbrev pub part_of : Desig → List Selector → Judged Part
  part_of d xs = walk (selector_of e d.name.pos) (Begun (desig.plain e d.name)) xs

  abbrev pub called_whole : Desig → Judged (Option Stat)
  called_whole d = bind (part_of d d.selectors) (λ a. called_alone d.name.pos a)

  abbrev pub called_before : Desig → Pos → List TreeExpr → Judged (Option Stat)
  called_before d p xs = bind (part_of d (before_last d.selectors)) (λ a. called_with d.name.pos a p xs)

  abbrev pub called_last : Desig → Option Selector → Judged (Option Stat)
  called_last d (Some (s.Paren' p shape row)) = called_before d p (items-the_row-Expr _ row)
  called_last d (Some (s.Field p n)) = called_whole d
  called_last d (Some (s.Index' p shape row)) = called_whole d
  called_last d (Some (s.Follow p)) = called_whole d
  called_last d None = called_whole d

  abbrev pub called_value : Desig → Judged (Option Stat)
  called_value d = called_last d (slice_get d.selectors (length d.selectors - 1))

  -- a name of another module, with what stands behind it
  abbrev pub called_member : Lookup → List Selector → Desig → Judged (Option Stat)
  called_member NoName more d = called_value d
  called_member NotExported more d = called_value d
  called_member (Found x) more d = by x.means
    where
      by : Meaning → Judged (Option Stat)
      by (means.Procedure k) = if goes_on more then called_value d else performed d.name.pos x k more
      by m = called_value d

  abbrev pub called_in_module : Head → List Selector → Desig → Judged (Option Stat)
  called_in_module h (s.Field p n ∷ more) d = called_member (desig.member_behind e h n).found more d
  called_in_module h more d = called_value d
