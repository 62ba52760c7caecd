-- Expressions that break no rule are well typed, where the types of all variables are known and all constants have values.
use Rattle.std.proofs.Common.{◌≡◌, ℕ, suc, List, [], length, ap, Bool, true, false, not, ◌||◌, Option, Some, None, is_some, option_and_then, if◌then◌else◌, refl, sym, ◌∙◌, subst}
use Rattle.std.specs.Option.{option_or}
use Rattle.std.proofs.lemmas.Option.{same_Some}
use Rattle.aos_base.specs.declared.text.Pos.{Pos}
use Rattle.aos_base.specs.declared.number.Width.TheVariants.{W64}
use Rattle.aos_tree.specs.declared.name.Name.{Name}
use Rattle.aos_tree.specs.declared.expr.Expr.{Expr, Expr', Row_of-Relation, end_of-Relation, more_of-Relation, out-Expr}
use Rattle.aos_tree.specs.declared.expr.Relation.{Relation, Relation'}
use Rattle.aos_tree.specs.declared.expr.RelationOp.{RelationOp}
use Rattle.aos_tree.specs.declared.expr.Simple.{Simple, Simple', Row_of-Addition, end_of-Addition, more_of-Addition}
use Rattle.aos_tree.specs.declared.expr.Addition.{Addition, Addition'}
use Rattle.aos_tree.specs.declared.expr.Term.{Term, Term', Row_of-Product, end_of-Product, more_of-Product}
use Rattle.aos_tree.specs.declared.expr.Factor.{Factor, Row_of-Expr, end_of-Expr, more_of-Expr, Row_of-Factor, end_of-Factor, more_of-Factor, Row_of-Elem, end_of-Elem, more_of-Elem}
use Rattle.aos_tree.specs.declared.expr.Factor.TheVariants as f
use Rattle.aos_tree.specs.declared.expr.Elem.{Elem, Elem'}
use Rattle.aos_tree.specs.declared.expr.Desig.{Desig, Row_of-Selector, end_of-Selector, more_of-Selector}
use Rattle.aos_tree.specs.declared.expr.Selector.{Selector, items-the_row-Expr}
use Rattle.aos_tree.specs.declared.expr.Selector.TheVariants as s
use Rattle.aos_types.specs.declared.row.TypeId.{TypeId}
use Rattle.aos_typed.specs.Program.{Callee, Expr as TypedExpr}
use Rattle.aos_typed.specs.declared.tree.Literal.TheVariants as literal
use Rattle.aos_typed.specs.declared.tree.TType.TheVariants as type
use Rattle.aos_typed.specs.Numbers.{predeclared_rows}
use Rattle.aos_members.specs.declared.objects.Method.{Method}
use Rattle.aos_symbols.specs.declared.env.Env.{Env}
use Rattle.aos_symbols.specs.Breaches.{breach_unless}
use Rattle.aos_symbols.specs.Judged.{Judged, judged, kept, bind, walk}
use Rattle.aos_members.specs.Members as members
use Rattle.aos_symbols.specs.Env.{text_constant}
use Rattle.aos_symbols.proofs.Holds.{Holds, holds_bind, holds_walk, broken, test_is}
use Rattle.aos_base.specs.Number.{if_within}
use Rattle.aos_base.specs.Operators.{natural}
use Rattle.aos_known.proofs.Inside.{IsOf, AreRows}
use Rattle.aos_known.specs.declared.known.Class.{Class}
use Rattle.aos_known.specs.declared.known.Class.TheVariants.{Unknown, Constant, Variable, ReadOnly, Computed, Procedure}
use Rattle.aos_known.specs.Known.{Answer, Entity, read_from, is_number, is_boolean, is_char, is_lost, constant_answer}
use Rattle.aos_operators.specs.Operations as op
use Rattle.aos_operators.proofs.Good.{IsKnownClass, within_if, natural_below}
pub use Rattle.aos_known.proofs.Types.{wider}
pub use Rattle.aos_operators.proofs.Good.{IsGood, HasGood}
pub use Rattle.aos_operators.proofs.Sound.{IsSound, sound_number, sound_char, sound_boolean}
pub use Rattle.aos_known.proofs.Inside.{Inside}
use Rattle.aos_designators.specs.declared.designators.Head.{Head}
use Rattle.aos_bound.specs.declared.methods.Heading.{Heading}
use Rattle.aos_bound.specs.declared.methods.Heading.TheVariants as heading
use Rattle.aos_designators.specs.Designators as desig
use Rattle.aos_check_expr.specs.Expressions as judge
use Rattle.aos_check_expr.proofs.Parts.{Elements, as_part, constant_part, added_part, multiplied_part, related_part, signed_part, opposite_part, number_part, character_part, string_part, no_elements, with_element_part, with_span_part, whole_part}
use Rattle.aos_check_expr.proofs.Selves.{object_type_row}
use Rattle.aos_check_expr.proofs.Called.{IsCalling, IsBound, if_some, and_then_some, dispatched_calling, own_calling, raised_calling}
use Rattle.aos_check_expr.proofs.Entities.{MayFind, IsStoredHeld, Part, Denoted, refused_variable_part, refused_value_part, denoted, object_held, guarded_part, plain_head, behind_head, procedure_part, called_named, variable_named, bound_value, named_entity, field_part, element_part, followed_part, read_part}
use Rattle.aos_check_expr.proofs.Passed.{invoked_part}
use Rattle.aos_check_expr.proofs.Tested.{objects_part, procedures_part, tested_part}
use Rattle.aos_check_expr.proofs.CallParts.{Parts, called_part}
use Rattle.aos_check_expr.proofs.Worded.{first_below, texts_part}
pub use Rattle.aos_check_expr.proofs.Entities.{IsTyped, GoodConstants, IsWhole, IsSoundEntity}
pub use Rattle.aos_check_expr.proofs.Worded.{characters_are, text_rows_are}
pub use Rattle.aos_check_expr.proofs.Passed.{arguments_part}

-- The walk over an expression.

module _ (p : Inside) (e : Env) (good : GoodConstants e) where
  abbrev IsFine : Judged Answer → Type 0
  IsFine = Holds (Part p e)

  abbrev pub IsFineEntity : Judged Entity → Type 0
  IsFineEntity = Holds (Denoted p e)

  abbrev AreFine : Judged Answer → Type 0
  AreFine = Holds (Elements p e)

  after : (j : Judged Answer) (g : Answer → Judged Answer) → IsFine j → ((a : Answer) → Part p e a → IsFine (g a)) → IsFine (bind j g)
  after = holds_bind (Part p e) (Part p e)

  -- what a designator is so far
  abbrev pub Parted : judge.Part → Type 0
  Parted (judge.Begun h) = MayFind p e h.found
  Parted (judge.Meant a) = Denoted p e a
  Parted (judge.Waits b) = IsBound p e b

  abbrev IsFinePart : Judged judge.Part → Type 0
  IsFinePart = Holds Parted

  part_of : (j : Judged Entity) → IsFineEntity j → IsFinePart (judge.as_part j)
  part_of j h = holds_bind (Denoted p e) Parted j (λ a. kept (judge.Meant a)) h (λ a x none. x)

  -- a method that isn't called
  unbound_of : (c : Callee) (h : Heading) (first : Pos) → (IsWhole p e → IsCalling p e c h) → IsFineEntity (judge.unbound e (record { callee = c; heading = h; first = first }))
  unbound_of c (heading.OfType t) first calling = denoted p e first (desig.refused_value 36 first) (refused_value_part p e 36 first)
  unbound_of c (heading.Declared m k) first calling = by (judge.value_called c) refl
    where
      by : (o : Option TypedExpr) → judge.value_called c ≡ o → IsFineEntity (judge.unbound e (record { callee = c; heading = heading.Declared m k; first = first }))
      by None is = rw is (denoted p e first (desig.refused_value 36 first) (refused_value_part p e 36 first))
      by (Some x) is = rw is (procedure_part p e m k x first first (λ whole. called_named p e c x m k is (calling whole)))

  unbound_fine : (b : judge.Bound) → IsBound p e b → IsFineEntity (judge.unbound e b)
  unbound_fine b calling = unbound_of b.callee b.heading b.first calling

  named_fine : (h : Head) → MayFind p e h.found → (o : Option judge.Bound) → judge.own_method e h ≡ o → IsFineEntity (judge.named_or_bound e h o)
  named_fine h may None found = named_entity p e good h may
  named_fine h may (Some b) found = unbound_fine b (λ whole. own_calling p e whole h b found)

  pub entity_fine : (a : judge.Part) → Parted a → IsFineEntity (judge.entity_of_part e a)
  entity_fine (judge.Begun h) may = named_fine h may (judge.own_method e h) refl
  entity_fine (judge.Meant a) x = λ none. x
  entity_fine (judge.Waits b) x = unbound_fine b x

  selected_name_fine : (q : Pos) (h : Head) → MayFind p e h.found → IsFineEntity (judge.selected_name e q h)
  selected_name_fine q h may = by (judge.is_callable h.found)
    where
      by : (b : Bool) → IsFineEntity (if b then desig.denoted h.first (desig.refused_variable 42 q) else desig.named e h)
      by true = denoted p e h.first (desig.refused_variable 42 q) (refused_variable_part p e 42 q)
      by false = named_entity p e good h may

  selected_fine : (q : Pos) (a : judge.Part) → Parted a → IsFineEntity (judge.selected e q a)
  selected_fine q (judge.Begun h) may = selected_name_fine q h may
  selected_fine q (judge.Meant a) x = λ none. x
  selected_fine q (judge.Waits b) x = denoted p e b.first (desig.refused_variable 42 q) (refused_variable_part p e 42 q)

  -- a method of an object, or a field
  pointed_entity_fine : (first : Pos) (a : Entity) → Denoted p e a → (q : Pos) (n : Name) → IsFinePart (judge.pointed_entity e first a q n)
  pointed_entity_fine first a x q n = by a.known.of refl (judge.method_of e a.known.of n) refl
    where
      plain : IsFinePart (judge.as_part (desig.field e a q n))
      plain = part_of (desig.field e a q n) (field_part p e a x q n)

      calling : (t : TypeId) (m : Method) → a.known.of ≡ Some t → judge.method_in e t n ≡ Some m → IsBound p e (judge.dispatched first (read_from a.known.of a.held) t m)
      calling t m known found whole =
          let two = if_some (desig.is_object_type e t) (members.method e t n) m found in
          dispatched_calling p e whole t (read_from a.known.of a.held) m n (object_held p e whole a x t known two.0) (object_type_row p e whole t two.0).1 two.1

      seen : (t : TypeId) (m : Method) → IsBound p e (judge.dispatched first (read_from a.known.of a.held) t m) → (b : Bool) →
          IsFinePart (if b then kept (judge.Waits (judge.dispatched first (read_from a.known.of a.held) t m)) else judge.as_part (desig.denoted n.pos (desig.refused_variable 15 n.pos)))
      seen t m bound true = λ none. bound
      seen t m bound false = part_of (desig.denoted n.pos (desig.refused_variable 15 n.pos)) (denoted p e n.pos (desig.refused_variable 15 n.pos) (refused_variable_part p e 15 n.pos))

      by : (of : Option TypeId) → a.known.of ≡ of → (o : Option Method) → judge.method_of e a.known.of n ≡ o → IsFinePart (judge.pointed_as e first a q n of o)
      by None known None found = plain
      by None known (Some m) found = plain
      by (Some t) known None found = plain
      by (Some t) known (Some m) found =
          seen t m (calling t m known (sym (ap (λ of. judge.method_of e of n) known) ∙ found)) (m.is_own || is_some m.mark)

  pointed_fine : (first : Pos) (a : judge.Part) → Parted a → (q : Pos) (n : Name) → IsFinePart (judge.pointed e first a q n)
  pointed_fine first (judge.Begun h) may q n = by (desig.is_module h.found)
    where
      by : (b : Bool) → IsFinePart (if b then kept (judge.Begun (desig.member_behind e h n)) else judge.pointed_name e first h q n)
      by true = λ none. behind_head p e h.found n
      by false = holds_bind (Denoted p e) Parted (judge.selected_name e q h) (λ a. judge.pointed_entity e first a q n) (selected_name_fine q h may) (λ a x. pointed_entity_fine first a x q n)
  pointed_fine first (judge.Meant a) x q n = pointed_entity_fine first a x q n
  pointed_fine first (judge.Waits b) x q n = part_of (judge.selected e q (judge.Waits b)) (selected_fine q (judge.Waits b) x)

  followed_entity_fine : (a : judge.Part) → Parted a → (q : Pos) → IsFinePart (judge.followed_entity e a q)
  followed_entity_fine a may q =
      part_of (bind (judge.selected e q a) (λ b. desig.followed e b q))
      (holds_bind (Denoted p e) (Denoted p e) (judge.selected e q a) (λ b. desig.followed e b q) (selected_fine q a may) (λ b x. followed_part p e b x q))

  raised_fine : (h : Head) (q : Pos) → IsFinePart (judge.raised e h q)
  raised_fine h q = by (judge.upper_here e h) refl
    where
      by : (o : Option judge.Bound) → judge.upper_here e h ≡ o → IsFinePart (judge.raised_to o h.first q)
      by None found = part_of (desig.denoted h.first (desig.refused_variable 46 q)) (denoted p e h.first (desig.refused_variable 46 q) (refused_variable_part p e 46 q))
      by (Some b) found = λ none whole. raised_calling p e whole h b found

  followed_part_fine : (a : judge.Part) → Parted a → (q : Pos) → IsFinePart (judge.followed_part e a q)
  followed_part_fine (judge.Begun h) may q = by (judge.is_method h.found)
    where
      by : (b : Bool) → IsFinePart (if b then judge.raised e h q else judge.followed_entity e (judge.Begun h) q)
      by true = raised_fine h q
      by false = followed_entity_fine (judge.Begun h) may q
  followed_part_fine (judge.Meant a) x q = followed_entity_fine (judge.Meant a) x q
  followed_part_fine (judge.Waits b) x q = followed_entity_fine (judge.Waits b) x q

  -- a bracket behind it
  bound_head_fine : (h : Head) → MayFind p e h.found → (b : judge.Bound) → judge.bound_head e h ≡ Some b → IsBound p e b
  bound_head_fine h may b = by (judge.own_method e h) refl
    where
      by : (o : Option judge.Bound) → judge.own_method e h ≡ o → option_or o (option_and_then (judge.bound_value e h.first) (desig.variable_named e h)) ≡ Some b → IsBound p e b
      by (Some c) found is = subst (IsBound p e) (same_Some c b is) (λ whole. own_calling p e whole h c found)
      by None found is =
          let a = and_then_some (judge.bound_value e h.first) (desig.variable_named e h) b is in
          bound_value p e h.first a.0 (variable_named p e h.found h.name h.first may a.0 a.1) b a.2

  bound_or_fine : (a : judge.Part) → Parted a → (o : Option judge.Bound) → ((b : judge.Bound) → o ≡ Some b → IsBound p e b) → Parted (judge.bound_or a o)
  bound_or_fine a x None each = x
  bound_or_fine a x (Some b) each = each b refl

  pub bound_fine : (first : Pos) (a : judge.Part) → Parted a → Parted (judge.bound_part e first a)
  bound_fine first (judge.Begun h) may = bound_or_fine (judge.Begun h) may (judge.bound_head e h) (bound_head_fine h may)
  bound_fine first (judge.Meant a) x = bound_or_fine (judge.Meant a) x (judge.bound_value e first a) (bound_value p e first a x)
  bound_fine first (judge.Waits b) x = x

  pub bracketed_as_fine : (first : Pos) (a : judge.Part) → Parted a → (q : Pos) (js : List (Judged Answer)) → Parts p e js → (xs : List Expr) → length js ≡ length xs →
      IsFinePart (judge.bracketed_as e first a q js xs)
  bracketed_as_fine first (judge.Begun h) may q js parts xs many = by (desig.is_module h.found)
    where
      by : (b : Bool) → IsFinePart (if b then judge.as_part (desig.named e h) else judge.as_part (judge.called e h q js xs))
      by true = part_of (desig.named e h) (named_entity p e good h may)
      by false = part_of (judge.called e h q js xs) (called_part p e good h may q js parts xs many)
  bracketed_as_fine first (judge.Meant a) x q js parts xs many =
      part_of (desig.guarded e first q a (judge.guard_type e xs)) (guarded_part p e first q a x (judge.guard_type e xs))
  bracketed_as_fine first (judge.Waits b) x q js parts xs many =
      let j = judge.invoked e b.first b.callee b.heading js xs in
      part_of (desig.denoted b.first j) (denoted p e b.first j (invoked_part p e b.first b.callee b.heading x js parts xs many))

  pub bracketed_fine : (first : Pos) (a : judge.Part) → Parted a → (q : Pos) (js : List (Judged Answer)) → Parts p e js → (xs : List Expr) → length js ≡ length xs → IsFinePart (judge.bracketed e first a q js xs)
  bracketed_fine first a x q js parts xs many = bracketed_as_fine first (judge.bound_part e first a) (bound_fine first a x) q js parts xs many

  -- there are as many arguments as expressions
  as_many : {m : _} (r : Row_of-Expr m) → length (judge.arguments e r) ≡ length (items-the_row-Expr _ r)
  as_many end_of-Expr = refl
  as_many (more_of-Expr x xs) = ap suc (as_many xs)

  refused_answer : (rule : ℕ) (at : Pos) → IsFine (desig.refused rule at)
  refused_answer rule at = broken (Part p e) _ [] _

  relation_by : (first at : Pos) (o : RelationOp) (a : Answer) → Part p e a → (right : Simple) → IsFine (judge.simple e right) → (b : Bool) → judge.is_test o ≡ b →
      IsFine (if b then judge.tested e at a (judge.qualident_in right) else bind (judge.simple e right) (λ b. judge.related_by e first at o a b))
  relation_by first at o a h right fine true is = tested_part p e at a h (judge.qualident_in right)
  relation_by first at o a h right fine false isnt =
      after (judge.simple e right) (λ b. judge.related_by e first at o a b) fine
      (λ b k. related_part p e first at o a b isnt (texts_part p e first o a b h k) (λ are. procedures_part p e first at o a b h k) (λ are. objects_part p e first at o a b h k) h k)

  mutual
    expr_fine : (x : Expr) → IsFine (judge.expr e x)
    expr_fine (Expr' at left shape row) = after (judge.simple e left) (λ a. judge.relation_of e at a row) (simple_fine left) (λ a h. relation_of_fine at a h row)

    relation_of_fine : {m : _} (first : Pos) (a : Answer) → Part p e a → (r : Row_of-Relation m) → IsFine (judge.relation_of e first a r)
    relation_of_fine first a h end_of-Relation = λ none. h
    relation_of_fine first a h (more_of-Relation r rs) = relation_fine first a h r

    relation_fine : (first : Pos) (a : Answer) → Part p e a → (r : Relation) → IsFine (judge.relation e first a r)
    relation_fine first a h (Relation' at o right) = relation_by first at o a h right (simple_fine right) (judge.is_test o) refl

    simple_fine : (x : Simple) → IsFine (judge.simple e x)
    simple_fine (Simple' at sign first shape rest) =
        after (bind (judge.term e first) (λ a. judge.signed sign at a)) (λ a. judge.additions e at a rest)
        (after (judge.term e first) (λ a. judge.signed sign at a) (term_fine first) (λ a h. signed_part p e sign at a h))
        (λ a h. additions_fine at a h rest)

    additions_fine : {m : _} (first : Pos) (a : Answer) → Part p e a → (r : Row_of-Addition m) → IsFine (judge.additions e first a r)
    additions_fine first a h end_of-Addition = λ none. h
    additions_fine first a h (more_of-Addition x xs) =
        after (judge.addition e first a x) (λ b. judge.additions e first b xs) (addition_fine first a h x) (λ b k. additions_fine first b k xs)

    addition_fine : (first : Pos) (a : Answer) → Part p e a → (x : Addition) → IsFine (judge.addition e first a x)
    addition_fine first a h (Addition' at o right) = after (judge.term e right) (λ b. judge.added first at o a b) (term_fine right) (λ b k. added_part p e first at o a b h k)

    term_fine : (x : Term) → IsFine (judge.term e x)
    term_fine (Term' at first shape rest) = after (judge.factor e first) (λ a. judge.products e at a rest) (factor_fine first) (λ a h. products_fine at a h rest)

    products_fine : {m : _} (first : Pos) (a : Answer) → Part p e a → (r : Row_of-Product m) → IsFine (judge.products e first a r)
    products_fine first a h end_of-Product = λ none. h
    products_fine first a h (more_of-Product at o right xs) =
        after (bind (judge.factor e right) (λ b. judge.multiplied first at o a b)) (λ b. judge.products e first b xs)
        (after (judge.factor e right) (λ b. judge.multiplied first at o a b) (factor_fine right) (λ b k. multiplied_part p e first at o a b h k))
        (λ b k. products_fine first b k xs)

    factor_fine : (x : Factor) → IsFine (judge.factor e x)
    factor_fine (f.Desig' n shape row) =
        let begun = judge.Begun (desig.plain e n) in
        let j = judge.selectors e n.pos begun row in
        holds_bind (Denoted p e) (Part p e) (bind j (judge.entity_of_part e)) (desig.read e)
        (holds_bind Parted (Denoted p e) j (judge.entity_of_part e) (selectors_fine n.pos begun (plain_head p e n) row) entity_fine) (read_part p e)
    factor_fine (f.Number q n) = number_part p e (if_within W64 n) (within_if W64 n) q
    factor_fine (f.Char q n) = character_part p e (natural 256 n) (natural_below 256 n) q
    factor_fine (f.Text t) = string_part p e (text_constant e t.start) (first_below e t.start) t.pos
    factor_fine (f.Nil q) = as_part p e (kept (constant_answer literal.Nil)) (λ none. constant_part p e literal.Nil tt)
    factor_fine (f.Set' q shape row) =
        holds_bind (Elements p e) (Part p e) (judge.elements e q op.no_elements row) (λ a. judge.whole_set q a)
        (elements_fine q op.no_elements (no_elements p e) row) (λ a h. whole_part p e q a h)
    factor_fine (f.Paren' q shape row) = after (judge.held e row) (λ a. judge.enclosed q a) (held_fine row) (λ a h none. h)
    factor_fine (f.Not' q shape row) = after (judge.held_factor e row) (λ a. judge.opposite q a) (held_factor_fine row) (λ a h. opposite_part p e q a h)

    held_fine : {m : _} (r : Row_of-Expr m) → IsFine (judge.held e r)
    held_fine end_of-Expr = refused_answer 99 judge.no_place
    held_fine (more_of-Expr x xs) = expr_fine x

    held_factor_fine : {m : _} (r : Row_of-Factor m) → IsFine (judge.held_factor e r)
    held_factor_fine end_of-Factor = refused_answer 99 judge.no_place
    held_factor_fine (more_of-Factor x xs) = factor_fine x

    elements_fine : {m : _} (at : Pos) (a : Answer) → Elements p e a → (r : Row_of-Elem m) → AreFine (judge.elements e at a r)
    elements_fine at a h end_of-Elem = λ none. h
    elements_fine at a h (more_of-Elem x xs) =
        holds_bind (Elements p e) (Elements p e) (judge.element e at a x) (λ b. judge.elements e at b xs)
        (element_fine at a h x) (λ b k. elements_fine at b k xs)

    element_fine : (at : Pos) (a : Answer) → Elements p e a → (x : Elem) → AreFine (judge.element e at a x)
    element_fine at a h (Elem' x shape row) =
        holds_bind (Part p e) (Elements p e) (judge.expr e x) (λ b. judge.up_to e at a b row) (expr_fine x) (λ b k. up_to_fine at a b h k row)

    up_to_fine : {m : _} (at : Pos) (a b : Answer) → Elements p e a → Part p e b → (r : Row_of-Expr m) → AreFine (judge.up_to e at a b r)
    up_to_fine at a b h k end_of-Expr = with_element_part p e at a b h k
    up_to_fine at a b h k (more_of-Expr y ys) =
        holds_bind (Part p e) (Elements p e) (judge.expr e y) (λ c. judge.with_span at a b c) (expr_fine y) (λ c l. with_span_part p e at a b c h k l)

    selectors_fine : {m : _} (first : Pos) (a : judge.Part) → Parted a → (r : Row_of-Selector m) → IsFinePart (judge.selectors e first a r)
    selectors_fine first a h end_of-Selector = λ none. h
    selectors_fine first a h (more_of-Selector x xs) =
        holds_bind Parted Parted (judge.selector e first a x) (λ b. judge.selectors e first b xs) (selector_fine first a h x) (λ b k. selectors_fine first b k xs)

    selector_fine : (first : Pos) (a : judge.Part) → Parted a → (x : Selector) → IsFinePart (judge.selector e first a x)
    selector_fine first a h (s.Field q n) = pointed_fine first a h q n
    selector_fine first a h (s.Index' q shape row) =
        part_of (bind (judge.selected e q a) (λ b. judge.indices e q b row))
        (holds_bind (Denoted p e) (Denoted p e) (judge.selected e q a) (λ b. judge.indices e q b row) (selected_fine q a h) (λ b k. indices_fine q b k row))
    selector_fine first a h (s.Follow q) = followed_part_fine a h q
    selector_fine first a h (s.Paren' q shape row) = bracketed_fine first a h q (judge.arguments e row) (arguments_fine row) (items-the_row-Expr _ row) (as_many row)

    indices_fine : {m : _} (at : Pos) (a : Entity) → Denoted p e a → (r : Row_of-Expr m) → IsFineEntity (judge.indices e at a r)
    indices_fine at a h end_of-Expr = λ none. h
    indices_fine at a h (more_of-Expr x xs) =
        holds_bind (Denoted p e) (Denoted p e) (bind (judge.expr e x) (λ i. desig.element e at a i)) (λ b. judge.indices e at b xs)
        (holds_bind (Part p e) (Denoted p e) (judge.expr e x) (λ i. desig.element e at a i) (expr_fine x) (λ i k. element_part p e a h at i k))
        (λ b k. indices_fine at b k xs)

    arguments_fine : {m : _} (r : Row_of-Expr m) → Parts p e (judge.arguments e r)
    arguments_fine end_of-Expr = tt
    arguments_fine (more_of-Expr x xs) = (expr_fine x, arguments_fine xs)

  -- a designator, by the list of its selectors
  designator_fine : (d : Desig) → IsFineEntity (judge.designator e d)
  designator_fine d =
      let begun = judge.Begun (desig.plain e d.name) in
      let step = judge.selector e d.name.pos in
      holds_bind Parted (Denoted p e) (walk step begun d.selectors) (judge.entity_of_part e)
      (holds_walk Parted step (λ a x h. selector_fine d.name.pos a h x) d.selectors begun (plain_head p e d.name)) entity_fine

-- The law.

pub expr_sound : (p : Inside) (e : Env) → IsWhole p e → (x : Expr) → Holds (IsSound p) (judge.expr e x)
expr_sound p e whole x none = (expr_fine p e whole.constants x none).sound whole

pub designator_sound : (p : Inside) (e : Env) → IsWhole p e → (d : Desig) → Holds (IsSoundEntity p e) (judge.designator e d)
designator_sound p e whole d none = (designator_fine p e whole.constants d none).sound whole

-- what a designator is behind some of its selectors, and behind a bracket
pub parts_sound : (p : Inside) (e : Env) (whole : IsWhole p e) → (n : Name) (xs : List Selector) →
    Holds (Parted p e whole.constants) (walk (judge.selector e n.pos) (judge.Begun (desig.plain e n)) xs)
parts_sound p e whole n xs =
    holds_walk (Parted p e whole.constants) (judge.selector e n.pos) (λ a x h. selector_fine p e whole.constants n.pos a h x) xs (judge.Begun (desig.plain e n)) (plain_head p e n)

-- an expression, and a designator, as parts of others
pub expr_part : (p : Inside) (e : Env) → IsWhole p e → (x : Expr) → Holds (Part p e) (judge.expr e x)
expr_part p e whole x = expr_fine p e whole.constants x

pub designator_stored : (p : Inside) (e : Env) → IsWhole p e → (d : Desig) → Holds (λ a. IsStoredHeld a.held a.known.class) (judge.designator e d)
designator_stored p e whole d none = (designator_fine p e whole.constants d none).stored

-- and its class is known
pub designator_known : (p : Inside) (e : Env) → IsWhole p e → (d : Desig) → Holds (λ a. IsKnownClass IsGood a.known.class) (judge.designator e d)
designator_known p e whole d none = (designator_fine p e whole.constants d none).class

pub condition_sound : (p : Inside) (e : Env) → IsWhole p e → (x : Expr) → Holds (λ t. IsOf p t type.Boolean) (judge.condition e x)
condition_sound p e whole x =
    holds_bind (IsSound p) (λ t. IsOf p t type.Boolean) (judge.expr e x) (λ a. judged (breach_unless (is_boolean a.known.of) 37 (out-Expr x).pos) a.typed)
    (expr_sound p e whole x) (λ a h none. sound_boolean p a h (test_is (is_boolean a.known.of) 37 (out-Expr x).pos none))

pub argument_sound : (p : Inside) (e : Env) → IsWhole p e → (x : Expr) →
    Holds (λ t. IsOf p t (type.Integer W64)) (judge.argument e is_number x) × Holds (λ t. IsOf p t type.Char) (judge.argument e is_char x)
argument_sound p e whole x = (number, character)
  where
    number : Holds (λ t. IsOf p t (type.Integer W64)) (judge.argument e is_number x)
    number =
        holds_bind (IsSound p) (λ t. IsOf p t (type.Integer W64)) (judge.expr e x) (λ a. judged (op.argument (is_number a.known.of) (out-Expr x).pos) a.typed)
        (expr_sound p e whole x) (λ a h none. sound_number p a h (test_is (is_number a.known.of) 35 (out-Expr x).pos none))

    character : Holds (λ t. IsOf p t type.Char) (judge.argument e is_char x)
    character =
        holds_bind (IsSound p) (λ t. IsOf p t type.Char) (judge.expr e x) (λ a. judged (op.argument (is_char a.known.of) (out-Expr x).pos) a.typed)
        (expr_sound p e whole x) (λ a h none. sound_char p a h (test_is (is_char a.known.of) 35 (out-Expr x).pos none))

-- an argument that must be a text
abbrev pub IsTextAt : Inside → Env → Answer → Type 0
IsTextAt p e v = AreRows p (judge.text_rows e v) 1 type.Char

pub text_argument : (p : Inside) (e : Env) → IsWhole p e → (x : Expr) →
    Holds (IsTextAt p e) (bind (judge.expr e x) (λ v. judged (breach_unless (judge.may_be_text e v.known) 35 (out-Expr x).pos) v))
text_argument p e whole x =
    holds_bind (IsSound p) (IsTextAt p e) (judge.expr e x) (λ v. judged (breach_unless (judge.may_be_text e v.known) 35 (out-Expr x).pos) v)
    (expr_sound p e whole x) (λ v h none. text_rows_are p e whole v h (test_is (judge.may_be_text e v.known) 35 (out-Expr x).pos none))

-- a constant expression reads no variable, so that the program may be any
no_program : Inside
no_program = record { program = record { modules = []; types = predeclared_rows; objects = [] }; own = None; basic = λ k below. refl }

pub constant_good : (e : Env) → GoodConstants e → (x : Expr) → Holds HasGood (judge.constant e x)
constant_good e good x =
    holds_bind (Part no_program e) HasGood (judge.expr e x) (λ a. judge.constant_class a.known.class (out-Expr x).pos)
    (expr_fine no_program e good x) (λ a h. by a.known.class h.class h.valued)
  where
    by : (c : Class) → IsKnownClass IsGood c → not (is_lost c) ≡ true → Holds HasGood (judge.constant_class c (out-Expr x).pos)
    by (Constant (Some l)) g v = λ none. (l, refl, g)
    by (Constant None) g v = absurd (cc)
    by Unknown g v = absurd g
    by Variable g v = broken HasGood _ [] _
    by ReadOnly g v = broken HasGood _ [] _
    by Computed g v = broken HasGood _ [] _
    by (Procedure m n) g v = broken HasGood _ [] _
