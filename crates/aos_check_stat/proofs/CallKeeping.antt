-- Calls as statements: none of them is an EXIT, an AWAIT or a FOR, so that each keeps the rules beside types wherever it stands.
use Rattle.std.proofs.Common.{◌-◌, ℕ, ◌≡◌, List, [], ◌∷◌, length, map, slice_get, codes, Bool, true, false, ◌&&◌, not, Option, Some, None, refl, sym, subst, if◌then◌else◌}
use Rattle.aos_base.specs.declared.text.Pos.{Pos}
use Rattle.aos_tree.specs.declared.name.Name.{Name}
use Rattle.aos_tree.specs.declared.decl.Export.{Export}
use Rattle.aos_tree.specs.declared.expr.Expr.{Expr as TreeExpr, out-Expr}
use Rattle.aos_tree.specs.declared.expr.Desig.{Desig}
use Rattle.aos_tree.specs.declared.expr.Selector.{Selector, items-the_row-Expr}
use Rattle.aos_tree.specs.declared.expr.Selector.TheVariants as s
use Rattle.aos_types.specs.declared.row.TypeId.{TypeId}
use Rattle.aos_types.specs.declared.signature.Gives.{Gives}
use Rattle.aos_types.specs.declared.signature.Gives.TheVariants as gives
use Rattle.aos_types.specs.declared.signature.Signature.{Signature}
use Rattle.aos_typed.specs.Program.{Callee, Plain, Call, Open as OutOpen, Ln, Stat}
use Rattle.aos_typed.specs.Rules.{KeepsRules}
use Rattle.aos_symbols.specs.declared.scope.Meaning.{Meaning}
use Rattle.aos_symbols.specs.declared.scope.Meaning.TheVariants as means
use Rattle.aos_symbols.specs.declared.scope.Routine.{Routine}
use Rattle.aos_symbols.specs.declared.scope.Routine.TheVariants as routine
use Rattle.aos_symbols.specs.declared.env.Open.{Open}
use Rattle.aos_symbols.specs.declared.env.Symbol.{Symbol}
use Rattle.aos_symbols.specs.declared.env.Lookup.{Lookup}
use Rattle.aos_symbols.specs.declared.env.Lookup.TheVariants.{Unknown as NoName, NotExported, Found}
use Rattle.aos_symbols.specs.declared.env.Env.{Env}
use Rattle.aos_symbols.specs.Judged.{Judged, kept, bind}
use Rattle.aos_symbols.specs.Spelling.{is_word}
use Rattle.aos_known.specs.Known.{Answer, Entity}
use Rattle.aos_bound.specs.declared.methods.Heading.{Heading}
use Rattle.aos_bound.specs.declared.methods.Heading.TheVariants as heading
use Rattle.aos_designators.specs.declared.designators.Head.{Head}
use Rattle.aos_designators.specs.Designators as desig
use Rattle.aos_bound.specs.Methods.{Part, Begun, Meant, Waits, entity_of_part, bound_part}
use Rattle.aos_check_expr.specs.Expressions.{bracketed, signature_of, expr, designator, desig_alone}
use Rattle.aos_check_stat.specs.Called as judge
use Rattle.aos_check_stat.specs.Called.{arguments, behind_arguments, goes_on}
use Rattle.aos_stat_rules.proofs.Endings.{ended_answer}

-- a statement keeps the rules, where there is one, in a region or in none and in a LOOP or in none
abbrev pub MayKeep : (in_region in_loop : Bool) → Option Stat → Type 0
MayKeep r l None = Unit {0}
MayKeep r l (Some x) = KeepsRules r l x

module _ (e : Env) (r l : Bool) where
  abbrev IsKept : Judged (Option Stat) → Type 0
  IsKept j = MayKeep r l j.answer

  choice_keeps : (b : Bool) (i j : Judged (Option Stat)) → IsKept i → IsKept j → IsKept (if b then i else j)
  choice_keeps true i j x y = x
  choice_keeps false i j x y = y

  ended_keeps : (first : Pos) (xs : List Selector) (j : Judged (Option Stat)) → IsKept j → IsKept (judge.ended first xs j)
  ended_keeps first xs j is = subst (MayKeep r l) (sym (ended_answer first xs j)) is

  -- The procedures of Out.

  int_keeps : (at : Pos) (xs : List TreeExpr) → IsKept (judge.int_call e at xs)
  int_keeps at [] = tt
  int_keeps at (a ∷ []) = tt
  int_keeps at (a ∷ b ∷ []) = tt
  int_keeps at (a ∷ b ∷ c ∷ xs) = tt

  char_keeps : (at : Pos) (xs : List TreeExpr) → IsKept (judge.char_call e at xs)
  char_keeps at [] = tt
  char_keeps at (a ∷ []) = tt
  char_keeps at (a ∷ b ∷ xs) = tt

  string_keeps : (at : Pos) (xs : List TreeExpr) → IsKept (judge.string_call e at xs)
  string_keeps at [] = tt
  string_keeps at (a ∷ []) = tt
  string_keeps at (a ∷ b ∷ xs) = tt

  plain_keeps : (c : Call) (at : Pos) (xs : List TreeExpr) → IsKept (judge.plain_call c at xs)
  plain_keeps c at [] = tt
  plain_keeps c at (x ∷ xs) = tt

  out_keeps : (at : Pos) (n : Name) (xs : List TreeExpr) → IsKept (judge.out_call e at n xs)
  out_keeps at n xs =
      let fourth = if is_word e.here.text (codes "Open") n then judge.plain_call OutOpen at xs else judge.refused 14 n.pos in
      let third = if is_word e.here.text (codes "Ln") n then judge.plain_call Ln at xs else fourth in
      let second = if is_word e.here.text (codes "String") n then judge.string_call e at xs else third in
      let first = if is_word e.here.text (codes "Char") n then judge.char_call e at xs else second in
      choice_keeps (is_word e.here.text (codes "Int") n) (judge.int_call e at xs) first (int_keeps at xs)
      (choice_keeps (is_word e.here.text (codes "Char") n) (judge.char_call e at xs) second (char_keeps at xs)
      (choice_keeps (is_word e.here.text (codes "String") n) (judge.string_call e at xs) third (string_keeps at xs)
      (choice_keeps (is_word e.here.text (codes "Ln") n) (judge.plain_call Ln at xs) fourth (plain_keeps Ln at xs)
      (choice_keeps (is_word e.here.text (codes "Open") n) (judge.plain_call OutOpen at xs) (judge.refused 14 n.pos) (plain_keeps OutOpen at xs) tt))))

  outs_keep : (at : Pos) (ss : List Selector) → IsKept (judge.out_selectors e at ss)
  outs_keep at [] = tt
  outs_keep at (s.Field q n ∷ more) = ended_keeps at (behind_arguments more) (judge.out_call e at n (arguments more)) (out_keeps at n (arguments more))
  outs_keep at (s.Paren' q shape row ∷ more) = tt
  outs_keep at (s.Index' q shape row ∷ more) = tt
  outs_keep at (s.Follow q ∷ more) = tt

  -- The predeclared procedures.

  new_with_keeps : (at first : Pos) (a : Entity) (xs : List TreeExpr) → IsKept (judge.new_with e at first a xs)
  new_with_keeps at first a xs =
      let made = if judge.makes_object e a.known.of then judge.new_object e at a xs else judge.new_lengths e at a xs in
      choice_keeps (judge.is_no_variable a.known.class) (kept None) made tt
      (choice_keeps (judge.makes_object e a.known.of) (judge.new_object e at a xs) (judge.new_lengths e at a xs) tt tt)

  new_of_keeps : (at : Pos) (x : TreeExpr) (o : Option Desig) (xs : List TreeExpr) → IsKept (judge.new_of e at x o xs)
  new_of_keeps at x None xs = tt
  new_of_keeps at x (Some d) xs = new_with_keeps at (out-Expr x).pos (designator e d).answer xs

  new_keeps : (at : Pos) (xs : List TreeExpr) → IsKept (judge.new_call e at xs)
  new_keeps at [] = tt
  new_keeps at (x ∷ xs) = new_of_keeps at x (desig_alone x) xs

  copied_keeps : (at : Pos) (v : Answer) (y : TreeExpr) (o : Option Desig) → IsKept (judge.copied_to e at v y o)
  copied_keeps at v y None = tt
  copied_keeps at v y (Some d) = tt

  copy_keeps : (at : Pos) (xs : List TreeExpr) → IsKept (judge.copy_call e at xs)
  copy_keeps at [] = tt
  copy_keeps at (x ∷ []) = tt
  copy_keeps at (x ∷ y ∷ []) = copied_keeps at (judge.text_argument e x).answer y (desig_alone y)
  copy_keeps at (x ∷ y ∷ z ∷ xs) = tt

  changed_keeps : (p : Routine) (at : Pos) (y : TreeExpr) (o : Option Desig) (x : Option TreeExpr) → IsKept (judge.change_at e p at y o x)
  changed_keeps p at y None x = tt
  changed_keeps p at y (Some d) x = tt

  change_keeps : (p : Routine) (at : Pos) (xs : List TreeExpr) → IsKept (judge.change_call e p at xs)
  change_keeps p at [] = tt
  change_keeps p at (y ∷ []) =
      choice_keeps (judge.is_changed_set p) (judge.refused 34 at) (judge.change_at e p at y (desig_alone y) None) tt (changed_keeps p at y (desig_alone y) None)
  change_keeps p at (y ∷ x ∷ []) = changed_keeps p at y (desig_alone y) (Some x)
  change_keeps p at (y ∷ x ∷ z ∷ xs) = tt

  assert_keeps : (at : Pos) (xs : List TreeExpr) → IsKept (judge.assert_call e at xs)
  assert_keeps at [] = tt
  assert_keeps at (x ∷ []) = tt
  assert_keeps at (x ∷ y ∷ []) = tt
  assert_keeps at (x ∷ y ∷ z ∷ xs) = tt

  halt_keeps : (at : Pos) (xs : List TreeExpr) → IsKept (judge.halt_call e at xs)
  halt_keeps at [] = tt
  halt_keeps at (x ∷ []) = tt
  halt_keeps at (x ∷ y ∷ xs) = tt

  routine_keeps : (p : Routine) (at : Pos) (xs : List TreeExpr) → IsKept (judge.routine_call e p at xs)
  routine_keeps routine.Assert at xs = assert_keeps at xs
  routine_keeps routine.Copy at xs = copy_keeps at xs
  routine_keeps routine.Dec at xs = change_keeps routine.Dec at xs
  routine_keeps routine.Excl at xs = change_keeps routine.Excl at xs
  routine_keeps routine.Halt at xs = halt_keeps at xs
  routine_keeps routine.Inc at xs = change_keeps routine.Inc at xs
  routine_keeps routine.Incl at xs = change_keeps routine.Incl at xs
  routine_keeps routine.New at xs = new_keeps at xs

  -- Procedures that modules declare, methods, and what values of procedure types stand for.

  signed_keeps : (at : Pos) (c : Callee) (sig : Signature) (xs : List TreeExpr) → IsKept (judge.perform_signed e at c sig xs)
  signed_keeps at c sig xs = by sig.gives refl
    where
      by : (g : Gives) → sig.gives ≡ g → IsKept (judge.perform_signed e at c sig xs)
      by gives.Nothing is = rw is tt
      by (gives.Value of) is = rw is tt

  perform_keeps : (at : Pos) (c : Callee) (h : Heading) (xs : List TreeExpr) → IsKept (judge.perform e at c h xs)
  perform_keeps at c h xs = by (signature_of e h) refl
    where
      by : (o : Option Signature) → signature_of e h ≡ o → IsKept (judge.perform e at c h xs)
      by (Some sig) is = rw is (signed_keeps at c sig xs)
      by None is = rw is tt

  performed_keeps : (at : Pos) (x : Symbol) (k : ℕ) (more : List Selector) → IsKept (judge.performed e at x k more)
  performed_keeps at x k more =
      ended_keeps at (behind_arguments more) (judge.perform e at (Plain x.at.home k) (heading.Declared x.at.home k) (arguments more))
      (perform_keeps at (Plain x.at.home k) (heading.Declared x.at.home k) (arguments more))

  no_call_keeps : (at : Pos) (of : Option TypeId) → IsKept (judge.no_call at of)
  no_call_keeps at None = tt
  no_call_keeps at (Some t) = tt

  entity_keeps : (first : Pos) (j : Judged Part) → IsKept (judge.called_entity e first j)
  entity_keeps first j = no_call_keeps first (bind j (entity_of_part e)).answer.known.of

  alone_keeps : (first : Pos) (a : Part) → IsKept (judge.called_as e first a)
  alone_keeps first (Waits b) = perform_keeps first b.callee b.heading []
  alone_keeps first (Begun h) = entity_keeps first (kept (Begun h))
  alone_keeps first (Meant a) = entity_keeps first (kept (Meant a))

  with_keeps : (first : Pos) (a : Part) (at : Pos) (xs : List TreeExpr) → IsKept (judge.bracketed_as e first a at xs)
  with_keeps first (Waits b) at xs = perform_keeps first b.callee b.heading xs
  with_keeps first (Begun h) at xs = entity_keeps first (bracketed e first (Begun h) at (map (expr e) xs) xs)
  with_keeps first (Meant a) at xs = entity_keeps first (bracketed e first (Meant a) at (map (expr e) xs) xs)

  whole_keeps : (d : Desig) → IsKept (judge.called_whole e d)
  whole_keeps d = alone_keeps d.name.pos (bound_part e d.name.pos (judge.part_of e d d.selectors).answer)

  before_keeps : (d : Desig) (at : Pos) (xs : List TreeExpr) → IsKept (judge.called_before e d at xs)
  before_keeps d at xs = with_keeps d.name.pos (bound_part e d.name.pos (judge.part_of e d (judge.before_last d.selectors)).answer) at xs

  last_keeps : (d : Desig) (o : Option Selector) → IsKept (judge.called_last e d o)
  last_keeps d (Some (s.Paren' q shape row)) = before_keeps d q (items-the_row-Expr _ row)
  last_keeps d (Some (s.Field q n)) = whole_keeps d
  last_keeps d (Some (s.Index' q shape row)) = whole_keeps d
  last_keeps d (Some (s.Follow q)) = whole_keeps d
  last_keeps d None = whole_keeps d

  value_keeps : (d : Desig) → IsKept (judge.called_value e d)
  value_keeps d = last_keeps d (slice_get d.selectors (length d.selectors - 1))

  member_meant_keeps : (m : Meaning) (o : Open) (mark : Option Export) (more : List Selector) (d : Desig) →
      IsKept (judge.called_member e (Found (record { at = o; mark = mark; means = m })) more d)
  member_meant_keeps (means.Procedure k) o mark more d =
      let x : Symbol = record { at = o; mark = mark; means = means.Procedure k } in
      choice_keeps (goes_on more) (judge.called_value e d) (judge.performed e d.name.pos x k more) (value_keeps d) (performed_keeps d.name.pos x k more)
  member_meant_keeps m o mark more d = value_keeps d

  member_keeps : (f : Lookup) (more : List Selector) (d : Desig) → IsKept (judge.called_member e f more d)
  member_keeps NoName more d = value_keeps d
  member_keeps NotExported more d = value_keeps d
  member_keeps (Found x) more d = member_meant_keeps x.means x.at x.mark more d

  in_module_keeps : (h : Head) (ss : List Selector) (d : Desig) → IsKept (judge.called_in_module e h ss d)
  in_module_keeps h [] d = value_keeps d
  in_module_keeps h (s.Field q n ∷ more) d = member_keeps (desig.member_behind e h n).found more d
  in_module_keeps h (s.Paren' q shape row ∷ more) d = value_keeps d
  in_module_keeps h (s.Index' q shape row ∷ more) d = value_keeps d
  in_module_keeps h (s.Follow q ∷ more) d = value_keeps d

  meaning_keeps : (x : Symbol) (m : Meaning) (d : Desig) → IsKept (judge.called_meaning e x m d)
  meaning_keeps x means.Out d =
      choice_keeps (judge.is_selected_behind d.selectors) (judge.called_value e d) (judge.out_selectors e d.name.pos d.selectors) (value_keeps d)
      (outs_keep d.name.pos d.selectors)
  meaning_keeps x (means.Module m) d = in_module_keeps (desig.plain e d.name) d.selectors d
  meaning_keeps x (means.Routine p) d =
      let xs = arguments d.selectors in
      let call = judge.routine_call e p d.name.pos xs in
      choice_keeps (judge.is_selected d.selectors) (judge.called_value e d) (judge.ended d.name.pos (behind_arguments d.selectors) call) (value_keeps d)
      (ended_keeps d.name.pos (behind_arguments d.selectors) call (routine_keeps p d.name.pos xs))
  meaning_keeps x means.Proper d = tt
  meaning_keeps x (means.Procedure k) d =
      choice_keeps (desig.is_of_module x && not (goes_on d.selectors)) (judge.performed e d.name.pos x k d.selectors) (judge.called_value e d)
      (performed_keeps d.name.pos x k d.selectors) (value_keeps d)
  meaning_keeps x m d = value_keeps d

  pub called_keeps : (f : Lookup) (d : Desig) → IsKept (judge.called e f d)
  called_keeps NoName d = tt
  called_keeps NotExported d = tt
  called_keeps (Found x) d = meaning_keeps x x.means d
