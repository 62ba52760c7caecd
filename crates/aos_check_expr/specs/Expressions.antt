-- Expressions: which rules they break, what is known of them and what they are in the typed program (Oberon-2 report, section
-- 8).
use Rattle.std.specs.Prelude.{ℕ, List, [], ◌∷◌, Bool, true, false, ◌&&◌, Option, Some, None, is_some, option_and_then, if◌then◌else◌, length, ◌==◌}
use Rattle.std.specs.Option.{is_none}
use Rattle.aos_base.specs.declared.text.Pos.{Pos}
use Rattle.aos_base.specs.declared.number.Width.TheVariants.{W64}
use Rattle.aos_base.specs.Number.{if_within}
use Rattle.aos_base.specs.Operators.{natural}
use Rattle.aos_tree.specs.declared.name.Name.{Name}
use Rattle.aos_tree.specs.declared.name.Qualident.{Qualident}
use Rattle.aos_tree.specs.declared.expr.Expr.{Expr, Expr', Row_of-Relation, end_of-Relation, more_of-Relation, out-Expr}
use Rattle.aos_tree.specs.declared.expr.Relation.{Relation as TreeRelation, Relation'}
use Rattle.aos_tree.specs.declared.expr.Simple.{Simple, Simple', Row_of-Addition, end_of-Addition, more_of-Addition, out-Simple}
use Rattle.aos_tree.specs.declared.expr.Addition.{Addition, Addition'}
use Rattle.aos_tree.specs.declared.expr.Product.{Product}
use Rattle.aos_tree.specs.declared.expr.Term.{Term, Term', Row_of-Product, end_of-Product, more_of-Product, out-Term}
use Rattle.aos_tree.specs.declared.expr.Factor.{Factor, Row_of-Expr, end_of-Expr, more_of-Expr, Row_of-Factor, end_of-Factor, more_of-Factor, Row_of-Elem, end_of-Elem, more_of-Elem}
use Rattle.aos_tree.specs.declared.expr.Factor.TheVariants as f
use Rattle.aos_tree.specs.declared.expr.Elem.{Elem, Elem'}
use Rattle.aos_tree.specs.declared.expr.Desig.{Desig, Row_of-Selector, end_of-Selector, more_of-Selector, items-the_row-Selector}
use Rattle.aos_tree.specs.declared.expr.Selector.{Selector, items-the_row-Expr}
use Rattle.aos_tree.specs.declared.expr.Selector.TheVariants as s
use Rattle.aos_types.specs.declared.row.TypeId.{TypeId}
use Rattle.aos_types.specs.declared.signature.Parameter.{Parameter}
use Rattle.aos_types.specs.declared.signature.Gives.{Gives}
use Rattle.aos_types.specs.declared.signature.Gives.TheVariants as gives
use Rattle.aos_types.specs.declared.signature.Signature.{Signature}
use Rattle.aos_typed.specs.declared.tree.Literal.{Literal}
use Rattle.aos_typed.specs.declared.tree.Literal.TheVariants as literal
use Rattle.aos_typed.specs.Program.{Callee as TypedCallee, Plain, Expr as Typed}
use Rattle.aos_symbols.specs.declared.scope.Meaning.{Meaning}
use Rattle.aos_symbols.specs.declared.scope.Meaning.TheVariants as means
use Rattle.aos_symbols.specs.declared.scope.Function.{Function}
use Rattle.aos_symbols.specs.declared.scope.Function.TheVariants as function
use Rattle.aos_symbols.specs.declared.env.Symbol.{Symbol}
use Rattle.aos_symbols.specs.declared.env.Lookup.{Lookup}
use Rattle.aos_symbols.specs.declared.env.Lookup.TheVariants.{Unknown as NoName, NotExported, Found}
use Rattle.aos_symbols.specs.declared.env.Env.{Env}
use Rattle.aos_symbols.specs.Breaches.{breach, breach_unless}
use Rattle.aos_symbols.specs.Judged.{Judged, judged, kept, bind, walk}
use Rattle.aos_symbols.specs.Env as env
use Rattle.aos_known.specs.declared.known.Class.{Class}
use Rattle.aos_known.specs.declared.known.Class.TheVariants.{Unknown, Constant, Variable, ReadOnly, Computed, Procedure}
use Rattle.aos_operators.specs.declared.operations.Step.{Step}
use Rattle.aos_known.specs.Known.{Answer, Entity, is_boolean, is_integer, constant_answer}
use Rattle.aos_operators.specs.Operations as op
pub use Rattle.aos_operators.specs.Forms.{not_yet, number, character, string, added, multiplied, is_test, signed, opposite, with_element, with_span, whole_set, enclosed}
use Rattle.aos_arguments.specs.declared.functions.Taking.TheVariants as taking
use Rattle.aos_values.specs.Signatures.{type_signature}
pub use Rattle.aos_values.specs.Arrays.{is_array, length_of, lengths_from, open_rows, array_rows, number_in, is_characters, string_in, is_text, is_only_text, may_be_text, are_texts, string_rows, rows_in, text_rows, has_room, text_for}
pub use Rattle.aos_rules.specs.Lengths.{length_behind, len_typed, len_answer, has_dimension, is_dimension, len_alone, len_in}
pub use Rattle.aos_arguments.specs.Arguments.{Handing, nothing_handed}
use Rattle.aos_arguments.specs.Arguments.{handed}
pub use Rattle.aos_values.specs.TypeNames.{named_type, known_type}
pub use Rattle.aos_rules.specs.Relations.{test_typed, may_test, tested_with, tested, compares_texts, relation_in, constants_related, texts_class, texts_related, may_be_pointer, may_be_object, are_comparable, is_the_reference, compares_objects, is_the_procedure, may_be_procedure, compares_procedures, procedure_operand, procedures_related, operation_of, related_by}
pub use Rattle.aos_arguments.specs.Functions.{limit_in, limit_value, limit_of, one_argument, two_arguments, step_in, function_typed, function_class, function_answer, function_breaches, function_told}
use Rattle.aos_designators.specs.declared.designators.Head.{Head}
use Rattle.aos_bound.specs.declared.methods.Heading.{Heading}
use Rattle.aos_bound.specs.declared.methods.Heading.TheVariants as heading
use Rattle.aos_designators.specs.Designators as desig
pub use Rattle.aos_bound.specs.Methods.{Bound, Part, Begun, Meant, Waits, as_part, dispatched, is_method, is_callable, method_on, own_method, upper_method, declares, upper_of, upper_here, raised_to, raised, value_called, unbound, named_or_bound, entity_of_part, selected_name, selected, method_found, method_in, method_of, pointed_as, pointed_entity, pointed_name, pointed, followed_entity, followed_part, through, bound_value, bound_head, bound_or, bound_part}

-- An expression that is a designator.

-- a sum is its first factor, and so is an expression
abbrev pub is_factor_of : Simple → Bool
is_factor_of x =
    let a = out-Simple x in is_none a.sign && (is_nothing a.rest && is_nothing (out-Term a.first).rest)
  where
    is_nothing : {A : Type 0} → List A → Bool
    is_nothing [] = true
    is_nothing (x ∷ xs) = false

abbrev pub first_factor_of : Simple → Factor
first_factor_of x = (out-Term (out-Simple x).first).first

abbrev pub is_factor : Expr → Bool
is_factor x = is_none (out-Expr x).right && is_factor_of (out-Expr x).left

abbrev pub first_factor : Expr → Factor
first_factor x = first_factor_of (out-Expr x).left

abbrev pub desig_in : Factor → Option Desig
desig_in (f.Desig' n shape row) = Some (record { name = n; selectors = items-the_row-Selector _ row })
desig_in (f.Number p n) = None
desig_in (f.Char p n) = None
desig_in (f.Text t) = None
desig_in (f.Nil p) = None
desig_in (f.Set' p shape row) = None
desig_in (f.Paren' p shape row) = None
desig_in (f.Not' p shape row) = None

abbrev pub desig_alone : Expr → Option Desig
desig_alone x = if is_factor x then desig_in (first_factor x) else None

-- A name alone, or a name behind that of a module: its head. Such is the argument of MAX and MIN.

abbrev pub head_behind : Env → Bool → Name → Name → Option Head
head_behind e true m n = Some (desig.member e m n)
head_behind e false m n = None

abbrev pub head_of : Env → Name → List Selector → Option Head
head_of e n [] = Some (desig.plain e n)
head_of e m (s.Field p n ∷ []) = head_behind e (desig.is_module (env.lookup e m)) m n
head_of e n _ = None

abbrev pub name_alone : Env → Expr → Option Head
name_alone e x = option_and_then (λ d. head_of e d.name d.selectors) (desig_alone x)

-- the type that a name stands for, where it stands for one
abbrev pub type_meant_by : Meaning → Option (Option TypeId)
type_meant_by (means.Type of) = Some of
type_meant_by m = None

abbrev pub type_found_by : Lookup → Option (Option TypeId)
type_found_by NoName = None
type_found_by NotExported = None
type_found_by (Found x) = type_meant_by x.means

-- the type in `x(T)`, where T is the name of one
abbrev pub guard_type : Env → List Expr → Option (Option TypeId)
guard_type e (x ∷ []) = option_and_then (λ h. type_found_by h.found) (name_alone e x)
guard_type e xs = None

-- MAX and MIN of a type, by its name.

abbrev pub limit_found : (TypeId → Option Literal) → Lookup → Pos → Pos → Judged Answer
limit_found value NoName at first = desig.refused 14 at
limit_found value NotExported at first = desig.refused 15 at
limit_found value (Found x) at first = limit_of value x.means at first

abbrev pub limit_named : (TypeId → Option Literal) → Option Head → Pos → Judged Answer
limit_named value None first = desig.refused 35 first
limit_named value (Some h) first = limit_found value h.found h.name.pos h.first

abbrev pub limit : Env → (TypeId → Option Literal) → List Expr → Pos → Judged Answer
limit e value (x ∷ []) at = limit_named value (name_alone e x) (out-Expr x).pos
limit e value xs at = desig.refused 34 at

-- Calls, by what their first name stands for.

pub data Callee : Type 0 where
  Calls : Function → Callee
  Invokes : (home number : ℕ) → Callee
  Converts : TypeId → Callee
  Neither : Callee

-- an object type and a type that isn't known have no conversion
abbrev pub conversion : Option TypeId → Callee
conversion None = Neither
conversion (Some t) = if is_integer t then Converts t else Neither

-- a procedure of a module
abbrev pub callee_meant : Symbol → Meaning → Callee
callee_meant x (means.Function f) = Calls f
callee_meant x (means.Type of) = conversion of
callee_meant x (means.Procedure k) = if desig.is_of_module x then Invokes x.at.home k else Neither
callee_meant x m = Neither

abbrev pub callee : Lookup → Callee
callee NoName = Neither
callee NotExported = Neither
callee (Found x) = callee_meant x x.means

-- a bracket behind what can't be called: behind a type that has no conversion, or behind a variable or a value, of which it may be a
-- guard
abbrev pub not_called : Env → Head → Pos → List Expr → Judged Entity
not_called e h at args = by_lookup h.found
  where
    by_value : Judged Entity → Judged Entity
    by_value j = bind j (λ a. desig.guarded e h.first at a (guard_type e args))

    by_meaning : Meaning → Judged Entity
    by_meaning (means.Type None) = desig.denoted h.first (desig.refused 99 h.first)
    by_meaning (means.Type (Some t)) = desig.denoted h.first (desig.refused 36 h.first)
    by_meaning m = by_value (desig.named e h)

    by_lookup : Lookup → Judged Entity
    by_lookup NoName = by_value (desig.named e h)
    by_lookup NotExported = by_value (desig.named e h)
    by_lookup (Found x) = by_meaning x.means

-- the value of a call, by those of its arguments
abbrev pub one_of : (Option TypeId → Step) → Pos → List (Judged Answer) → List Expr → Judged Answer
one_of s at (j ∷ []) (x ∷ []) = bind j (λ a. one_argument at (out-Expr x).pos (s a.known.of) a)
one_of s at js xs = desig.refused 34 at

abbrev pub two_of : Pos → List (Judged Answer) → List Expr → Judged Answer
two_of at (j ∷ k ∷ []) (x ∷ y ∷ []) = bind j (λ a. bind k (λ b. two_arguments at (out-Expr x).pos (out-Expr y).pos a b))
two_of at js xs = desig.refused 34 at

abbrev pub len_of : Env → Pos → List (Judged Answer) → List Expr → Judged Answer
len_of e at (j ∷ []) (x ∷ []) = bind j (λ a. len_alone e (out-Expr x).pos a)
len_of e at (j ∷ k ∷ []) (x ∷ y ∷ []) =
    bind j (λ a. bind k (λ d. len_in e (out-Expr x).pos (out-Expr y).pos a d))
len_of e at js xs = desig.refused_value 34 at

-- The arguments of a call: those for these parameters, behind those before them.
abbrev pub handed_from : Env → Handing → List Parameter → List (Judged Answer) → List Expr → Judged Handing
handed_from e h (p ∷ ps) (j ∷ js) (x ∷ xs) = bind (bind j (λ a. handed e h p (is_some (desig_alone x)) (out-Expr x).pos a)) (λ h. handed_from e h ps js xs)
handed_from e h _ _ _ = kept h

-- of a call that begins here: there is one for each parameter
abbrev pub arguments_for : Env → Pos → List Parameter → List (Judged Answer) → List Expr → Judged Handing
arguments_for e first ps js xs =
    if length ps == length xs then handed_from e (nothing_handed true) ps js xs else judged (breach 34 first) (nothing_handed false)

-- A procedure's value: that of a function, whose result is a scalar. A procedure that gives none is asked for its arguments first.

abbrev pub function_value : Env → (first : Pos) → TypedCallee → List Parameter → Option TypeId → List (Judged Answer) → List Expr → Judged Answer
function_value e first c ps of js xs = bind (arguments_for e first ps js xs) (function_told e first c of)

abbrev pub value_given : Env → (first : Pos) → TypedCallee → Gives → List Parameter → List (Judged Answer) → List Expr → Judged Answer
value_given e first c gives.Nothing ps js xs = bind (arguments_for e first ps js xs) (λ h. desig.refused_value 36 first)
value_given e first c (gives.Value of) ps js xs = function_value e first c ps of js xs

abbrev pub value_of_procedure : Env → (first : Pos) → TypedCallee → Signature → List (Judged Answer) → List Expr → Judged Answer
value_of_procedure e first c s js xs = value_given e first c s.gives s.parameters js xs

-- the signature of what is called, where it is met: that of a procedure, by its numbers, or that of a procedure type
abbrev pub signature_of : Env → Heading → Option Signature
signature_of e (heading.Declared m k) = env.signature e m k
signature_of e (heading.OfType t) = type_signature e t

-- What is called has this heading. Where that isn't met yet a constant is needed.
abbrev pub invoked : Env → (first : Pos) → TypedCallee → Heading → List (Judged Answer) → List Expr → Judged Answer
invoked e first c h js xs = by (signature_of e h)
  where
    by : Option Signature → Judged Answer
    by None = desig.refused_value 20 first
    by (Some s) = value_of_procedure e first c s js xs

-- a predeclared function's value
abbrev pub function_called : Env → Function → (first : Pos) → List (Judged Answer) → List Expr → Judged Answer
function_called e function.Max first js xs = limit e op.greatest_value xs first
function_called e function.Min first js xs = limit e op.least_value xs first
function_called e function.Len first js xs = len_of e first js xs
function_called e function.Ash first js xs = two_of first js xs
function_called e f first js xs = one_of (step_in (taking.By f)) first js xs

abbrev pub called_by : Env → Callee → Head → Pos → List (Judged Answer) → List Expr → Judged Entity
called_by e (Calls f) h at js xs = desig.denoted h.first (function_called e f h.first js xs)
called_by e (Invokes m k) h at js xs = desig.denoted h.first (invoked e h.first (Plain m k) (heading.Declared m k) js xs)
called_by e (Converts t) h at js xs = desig.denoted h.first (one_of (step_in (taking.Into t)) h.first js xs)
called_by e Neither h at js xs = not_called e h at xs

abbrev pub called : Env → Head → Pos → List (Judged Answer) → List Expr → Judged Entity
called e h at js xs = called_by e (callee h.found) h at js xs

-- a bracket behind it, whose arguments are judged so: a call, or a guard
abbrev pub bracketed_name : Env → Head → Pos → List (Judged Answer) → List Expr → Judged Part
bracketed_name e h p js xs =
    if desig.is_module h.found
    then as_part (desig.named e h)
    else as_part (called e h p js xs)

abbrev pub bracketed_method : Env → Bound → List (Judged Answer) → List Expr → Judged Part
bracketed_method e b js xs = as_part (desig.denoted b.first (invoked e b.first b.callee b.heading js xs))

abbrev pub bracketed_as : Env → Pos → Part → Pos → List (Judged Answer) → List Expr → Judged Part
bracketed_as e first (Begun h) p js xs = bracketed_name e h p js xs
bracketed_as e first (Meant a) p js xs = as_part (desig.guarded e first p a (guard_type e xs))
bracketed_as e first (Waits b) p js xs = bracketed_method e b js xs

abbrev pub bracketed : Env → Pos → Part → Pos → List (Judged Answer) → List Expr → Judged Part
bracketed e first a p js xs = bracketed_as e first (bound_part e first a) p js xs

-- a name, or a name behind a point
abbrev pub qualident_of : Name → List Selector → Option Qualident
qualident_of n [] = Some (record { first = n; second = None })
qualident_of n (s.Field p m ∷ []) = Some (record { first = n; second = Some m })
qualident_of n _ = None

abbrev pub qualident_in : Simple → Option Qualident
qualident_in x =
    if is_factor_of x then option_and_then (λ d. qualident_of d.name d.selectors) (desig_in (first_factor_of x)) else None

-- a constant expression has a value where it breaks no rule
abbrev pub constant_class : Class → Pos → Judged (Option Literal)
constant_class (Constant v) at = kept v
constant_class Unknown at = kept None
constant_class Variable at = judged (breach 20 at) None
constant_class ReadOnly at = judged (breach 20 at) None
constant_class Computed at = judged (breach 20 at) None
constant_class (Procedure m n) at = judged (breach 20 at) None

-- a bracket or `~` has one part, so that nothing is refused here
abbrev pub no_place : Pos
no_place = record { line = 0; col = 0 }

module _ (e : Env) where
  abbrev mutual
    pub expr : Expr → Judged Answer
    expr (Expr' at left shape row) = bind (simple left) (λ a. relation_of at a row)

    pub relation_of : {m : _} → Pos → Answer → Row_of-Relation m → Judged Answer
    relation_of first a end_of-Relation = kept a
    relation_of first a (more_of-Relation r rs) = relation first a r

    pub relation : Pos → Answer → TreeRelation → Judged Answer
    relation first a (Relation' at o right) =
        if is_test o then tested e at a (qualident_in right) else bind (simple right) (λ b. related_by e first at o a b)

    pub simple : Simple → Judged Answer
    simple (Simple' at sign first shape rest) = bind (bind (term first) (λ a. signed sign at a)) (λ a. additions at a rest)

    pub additions : {m : _} → Pos → Answer → Row_of-Addition m → Judged Answer
    additions first a end_of-Addition = kept a
    additions first a (more_of-Addition x xs) = bind (addition first a x) (λ b. additions first b xs)

    pub addition : Pos → Answer → Addition → Judged Answer
    addition first a (Addition' at o right) = bind (term right) (λ b. added first at o a b)

    pub term : Term → Judged Answer
    term (Term' at first shape rest) = bind (factor first) (λ a. products at a rest)

    pub products : {m : _} → Pos → Answer → Row_of-Product m → Judged Answer
    products first a end_of-Product = kept a
    products first a (more_of-Product at o right xs) =
        bind (bind (factor right) (λ b. multiplied first at o a b)) (λ b. products first b xs)

    pub factor : Factor → Judged Answer
    factor (f.Desig' n shape row) = bind (bind (selectors n.pos (Begun (desig.plain e n)) row) (entity_of_part e)) (desig.read e)
    factor (f.Number p n) = number (if_within W64 n) p
    factor (f.Char p n) = character (natural 256 n) p
    factor (f.Text t) = string (env.text_constant e t.start) t.pos
    factor (f.Nil p) = kept (constant_answer literal.Nil)
    factor (f.Set' p shape row) = bind (elements p op.no_elements row) (λ a. whole_set p a)
    factor (f.Paren' p shape row) = bind (held row) (λ a. enclosed p a)
    factor (f.Not' p shape row) = bind (held_factor row) (λ a. opposite p a)

    -- the one expression, and the one factor, behind a bracket or `~`
    pub held : {m : _} → Row_of-Expr m → Judged Answer
    held end_of-Expr = not_yet no_place
    held (more_of-Expr x xs) = expr x

    pub held_factor : {m : _} → Row_of-Factor m → Judged Answer
    held_factor end_of-Factor = not_yet no_place
    held_factor (more_of-Factor x xs) = factor x

    pub elements : {m : _} → Pos → Answer → Row_of-Elem m → Judged Answer
    elements at a end_of-Elem = kept a
    elements at a (more_of-Elem x xs) = bind (element at a x) (λ b. elements at b xs)

    pub element : Pos → Answer → Elem → Judged Answer
    element at a (Elem' x shape row) = bind (expr x) (λ b. up_to at a b row)

    -- the end of a range, where there is one
    pub up_to : {m : _} → Pos → Answer → Answer → Row_of-Expr m → Judged Answer
    up_to at a b end_of-Expr = with_element at a b
    up_to at a b (more_of-Expr y ys) = bind (expr y) (λ c. with_span at a b c)

    -- one selector after another, of a designator that begins here
    pub selectors : {m : _} → Pos → Part → Row_of-Selector m → Judged Part
    selectors first a end_of-Selector = kept a
    selectors first a (more_of-Selector x xs) = bind (selector first a x) (λ b. selectors first b xs)

    pub selector : Pos → Part → Selector → Judged Part
    selector first a (s.Field p n) = pointed e first a p n
    selector first a (s.Index' p shape row) = as_part (bind (selected e p a) (λ b. indices p b row))
    selector first a (s.Follow p) = followed_part e a p
    selector first a (s.Paren' p shape row) = bracketed e first a p (arguments row) (items-the_row-Expr _ row)

    -- `a[i, j]` is `a[i][j]`
    pub indices : {m : _} → Pos → Entity → Row_of-Expr m → Judged Entity
    indices at a end_of-Expr = kept a
    indices at a (more_of-Expr x xs) = bind (bind (expr x) (λ i. desig.element e at a i)) (λ b. indices at b xs)

    pub arguments : {m : _} → Row_of-Expr m → List (Judged Answer)
    arguments end_of-Expr = []
    arguments (more_of-Expr x xs) = expr x ∷ arguments xs

  -- the same parts, read as lists
  abbrev pub product : Pos → Answer → Product → Judged Answer
  product first a p = bind (factor p.right) (λ b. multiplied first p.pos p.op a b)

  abbrev pub parenthesized : Pos → Expr → Judged Answer
  parenthesized at x = bind (expr x) (λ a. enclosed at a)

  abbrev pub relation_if : Pos → Answer → Option TreeRelation → Judged Answer
  relation_if first a None = kept a
  relation_if first a (Some r) = relation first a r

  -- What statements and declarations ask of expressions.

  -- a designator, by the list of its selectors
  abbrev pub designator : Desig → Judged Entity
  designator d = bind (walk (selector d.name.pos) (Begun (desig.plain e d.name)) d.selectors) (entity_of_part e)

  -- the same index, of a bracket's list, and the whole list
  abbrev pub index : Pos → Entity → Expr → Judged Entity
  index at a x = bind (expr x) (λ i. desig.element e at a i)

  abbrev pub indexed : Pos → Part → List Expr → Judged Part
  indexed at a xs = as_part (bind (selected e at a) (λ b. walk (index at) b xs))

  -- a constant expression, with its value where it breaks no rule
  abbrev pub constant : Expr → Judged (Option Literal)
  constant x = bind (expr x) (λ a. constant_class a.known.class (out-Expr x).pos)

  -- an expression that must be BOOLEAN
  abbrev pub condition : Expr → Judged Typed
  condition x = bind (expr x) (λ a. judged (breach_unless (is_boolean a.known.of) 37 (out-Expr x).pos) a.typed)

  -- an argument of a type that passes a test
  abbrev pub argument : (Option TypeId → Bool) → Expr → Judged Typed
  argument takes x = bind (expr x) (λ a. judged (op.argument (takes a.known.of) (out-Expr x).pos) a.typed)
