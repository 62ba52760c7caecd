-- The third pass: calls of the predeclared procedures and of those of Out. NEW takes a pointer or an object variable, with the arguments
-- of the object's initializer.
use Rattle.std.specs.Prelude.{ℕ, pos, List, [], ◌∷◌, ◌++◌, length, codes, map, Option, Some, None, if◌then◌else◌, ◌==◌}
use Rattle.aos_base.specs.declared.text.Pos.{Pos}
use Rattle.aos_tree.specs.declared.name.Name.{Name}
use Rattle.aos_tree.specs.declared.expr.Expr.{Expr as TreeExpr, out-Expr}
use Rattle.aos_tree.specs.declared.expr.Desig.{Desig}
use Rattle.aos_tree.specs.declared.expr.Selector.{Selector}
use Rattle.aos_tree.specs.declared.expr.Selector.TheVariants as s
use Rattle.aos_typed.specs.Program.{Arguments, NoMore, Call, Open, Char, Int, String, Ln, Expr as Typed, Lit, Stat, Assert, Halt, New, Make, Out}
use Rattle.aos_typed.specs.declared.tree.Literal.TheVariants as literal
use Rattle.aos_symbols.specs.declared.scope.Routine.{Routine}
use Rattle.aos_symbols.specs.declared.scope.Routine.TheVariants as routine
use Rattle.aos_types.specs.declared.signature.Signature.{Signature}
use Rattle.aos_members.specs.declared.objects.Method.{Method}
use Rattle.aos_symbols.specs.declared.env.Env.{Env}
use Rattle.aos_symbols.specs.Breaches.{breach, breach_unless}
use Rattle.aos_symbols.specs.Judged.{Judged, judged, kept, bind, walk}
use Rattle.aos_symbols.specs.Spelling.{is_word}
use Rattle.aos_symbols.specs.Env as env
use Rattle.aos_types.specs.declared.row.TypeId.{TypeId}
use Rattle.aos_known.specs.declared.known.Class.TheVariants.{Computed}
use Rattle.aos_known.specs.Known.{Answer, Entity, is_number, is_char}
use Rattle.aos_known.specs.Places.{place_of}
use Rattle.aos_arguments.specs.Arguments.{listed as listed_arguments}
use Rattle.aos_values.specs.Arrays.{may_be_text, text_rows}
use Rattle.aos_check_expr.specs.Expressions.{arguments_for, expr, condition, argument, designator, desig_alone}
pub use Rattle.aos_stat_rules.specs.Calls.{refused, not_yet, plain_call, ended, arguments, behind_arguments, is_selected, is_selected_behind, goes_on, before_last, is_made, new_breaches, is_no_variable, lengths_wanted, count_breaches, made_type, makes_object, initializer_of, may_be_length, no_call, gives_value, is_value_called, changing, is_changed_set, is_amount, is_changed, changed_breaches, changed_by, code_of, is_code, code_in, text_to, value_fits, put_text, copied, called_entity}

abbrev pub outs : Pos → Judged Call → Judged (Option Stat)
outs at j = bind j (λ c. kept (Some (Out at c)))

module _ (e : Env) where
  -- the procedures of Out, with their arguments
  abbrev pub int_call : Pos → List TreeExpr → Judged (Option Stat)
  int_call at (a ∷ b ∷ []) =
      outs at (bind (argument e is_number a) (λ x. bind (argument e is_number b) (λ n. kept (Int x n))))
  int_call at xs = refused 34 at

  abbrev pub char_call : Pos → List TreeExpr → Judged (Option Stat)
  char_call at (a ∷ []) = outs at (bind (argument e is_char a) (λ x. kept (Char x)))
  char_call at xs = refused 34 at

  -- an argument that must be a text
  abbrev pub text_argument : TreeExpr → Judged Answer
  text_argument x = bind (expr e x) (λ v. judged (breach_unless (may_be_text e v.known) 35 (out-Expr x).pos) v)

  abbrev pub string_call : Pos → List TreeExpr → Judged (Option Stat)
  string_call at (a ∷ []) =
      outs at (bind (text_argument a) (λ v. kept (String (text_rows e v))))
  string_call at xs = refused 34 at

  abbrev pub out_call : Pos → Name → List TreeExpr → Judged (Option Stat)
  out_call at n xs =
      if is_word e.here.text (codes "Int") n then int_call at xs
      else if is_word e.here.text (codes "Char") n then char_call at xs
      else if is_word e.here.text (codes "String") n then string_call at xs
      else if is_word e.here.text (codes "Ln") n then plain_call Ln at xs
      else if is_word e.here.text (codes "Open") n then plain_call Open at xs
      else refused 14 n.pos

  -- the name of a module is no statement
  abbrev pub out_selectors : Pos → List Selector → Judged (Option Stat)
  out_selectors at (s.Field p n ∷ more) = ended at (behind_arguments more) (out_call at n (arguments more))
  out_selectors at more = refused 16 at

  -- one more length, in NEW of a variable of this type
  abbrev pub with_length : Pos → Option TypeId → List Typed → TreeExpr → Judged (List Typed)
  with_length at of ns x = bind (expr e x) (λ v. judged (breach_unless (may_be_length of v.known.of) 47 at) (ns ++ v.typed ∷ []))

  -- NEW of what a pointer leads to, with these lengths
  abbrev pub new_lengths : Pos → Entity → List TreeExpr → Judged (Option Stat)
  new_lengths at a xs =
      bind (judged (count_breaches e at a.known.of (length xs)) []) (λ none. bind (walk (with_length at a.known.of) none xs) (λ ns.
      kept (Some (Make at (place_of a.held) (made_type e a.known.of) ns))))

  -- what the initializer is handed; without one there are no arguments
  abbrev pub initialized_by : Pos → Option Signature → List TreeExpr → Judged Arguments
  initialized_by at None xs = judged (breach 99 at) NoMore
  initialized_by at (Some s) xs = bind (arguments_for e at s.parameters (map (expr e) xs) xs) (λ h. kept (listed_arguments h.given))

  abbrev pub initialized : Pos → Option Method → List TreeExpr → Judged Arguments
  initialized at None xs = judged (breach_unless (length xs == 0) 34 at) NoMore
  initialized at (Some m) xs = initialized_by at (env.signature e m.home m.number) xs

  -- NEW of an object
  abbrev pub new_object : Pos → Entity → List TreeExpr → Judged (Option Stat)
  new_object at a xs =
      bind (initialized at (initializer_of e a.known.of) xs) (λ more. kept (Some (New at (place_of a.held) (made_type e a.known.of) more)))

  abbrev pub new_with : Pos → Pos → Entity → List TreeExpr → Judged (Option Stat)
  new_with at first a xs =
      bind (judged (new_breaches e at first a.known.of a.known.class) a) (λ b.
      if is_no_variable b.known.class then kept None
      else if makes_object e b.known.of then new_object at b xs else new_lengths at b xs)

  abbrev pub new_of : Pos → TreeExpr → Option Desig → List TreeExpr → Judged (Option Stat)
  new_of at x None xs = bind (expr e x) (λ v. judged (new_breaches e at (out-Expr x).pos v.known.of Computed) None)
  new_of at x (Some d) xs = bind (designator e d) (λ a. new_with at (out-Expr x).pos a xs)

  abbrev pub new_call : Pos → List TreeExpr → Judged (Option Stat)
  new_call at [] = refused 34 at
  new_call at (x ∷ xs) = new_of at x (desig_alone x) xs

  abbrev pub copied_to : Pos → Answer → TreeExpr → Option Desig → Judged (Option Stat)
  copied_to at v y None = bind (expr e y) (λ _. refused 32 (out-Expr y).pos)
  copied_to at v y (Some d) = bind (designator e d) (λ a. copied e at v (out-Expr y).pos a)

  abbrev pub copy_call : Pos → List TreeExpr → Judged (Option Stat)
  copy_call at (x ∷ y ∷ []) = bind (text_argument x) (λ v. copied_to at v y (desig_alone y))
  copy_call at xs = refused 34 at

  abbrev pub amount : Routine → Option TypeId → Option TreeExpr → Judged Typed
  amount r of None = kept (Lit (literal.Int (pos 1)))
  amount r of (Some x) = bind (expr e x) (λ v. judged (breach_unless (is_amount r of v.known.of) 35 (out-Expr x).pos) v.typed)

  abbrev pub change_of : Routine → Pos → Pos → Entity → Option TreeExpr → Judged (Option Stat)
  change_of r at first a x =
      bind (judged (changed_breaches r first a) a) (λ b. bind (amount r b.known.of x) (λ n. kept (Some (changed_by r at b n))))

  abbrev pub change_at : Routine → Pos → TreeExpr → Option Desig → Option TreeExpr → Judged (Option Stat)
  change_at r at y None x = bind (expr e y) (λ _. refused 32 (out-Expr y).pos)
  change_at r at y (Some d) x = bind (designator e d) (λ a. change_of r at (out-Expr y).pos a x)

  -- an amount is always written of INCL and EXCL
  abbrev pub change_call : Routine → Pos → List TreeExpr → Judged (Option Stat)
  change_call r at (y ∷ []) = if is_changed_set r then refused 34 at else change_at r at y (desig_alone y) None
  change_call r at (y ∷ x ∷ []) = change_at r at y (desig_alone y) (Some x)
  change_call r at xs = refused 34 at

  abbrev pub trap_code : TreeExpr → Judged ℕ
  trap_code x = bind (expr e x) (λ v. judged (breach_unless (is_code v.known.class) 20 (out-Expr x).pos) (code_in v.known.class))

  abbrev pub assert_call : Pos → List TreeExpr → Judged (Option Stat)
  assert_call at (x ∷ []) = bind (condition e x) (λ b. kept (Some (Assert at b 0)))
  assert_call at (x ∷ y ∷ []) = bind (condition e x) (λ b. bind (trap_code y) (λ n. kept (Some (Assert at b n))))
  assert_call at xs = refused 34 at

  abbrev pub halt_call : Pos → List TreeExpr → Judged (Option Stat)
  halt_call at (x ∷ []) = bind (trap_code x) (λ n. kept (Some (Halt at n)))
  halt_call at xs = refused 34 at

  -- a predeclared procedure
  abbrev pub routine_call : Routine → Pos → List TreeExpr → Judged (Option Stat)
  routine_call routine.Assert at xs = assert_call at xs
  routine_call routine.Copy at xs = copy_call at xs
  routine_call routine.Dec at xs = change_call routine.Dec at xs
  routine_call routine.Excl at xs = change_call routine.Excl at xs
  routine_call routine.Halt at xs = halt_call at xs
  routine_call routine.Inc at xs = change_call routine.Inc at xs
  routine_call routine.Incl at xs = change_call routine.Incl at xs
  routine_call routine.New at xs = new_call at xs
