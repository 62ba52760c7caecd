-- The parts of a tree, read as lists and as records.
use Rattle.std.proofs.Common.{◌≡◌, ◌≤◌, ◌<◌, List, [], ◌∷◌, map, length, get_or, true, false, Option, Some, None, refl, ap, ◌∙◌, sym, arith}
use denote.Hole.Carrier.{hidden, out, roll}
use Rattle.aos_base.specs.declared.text.Pos.{Pos}
use Rattle.aos_tree.specs.declared.expr.Sign.{Sign}
use Rattle.aos_tree.specs.declared.expr.Expr.{Expr, out-Expr, roll-Expr, roll-out-Expr}
use Rattle.aos_tree.specs.declared.expr.Relation.{Relation, Relation', out-Relation}
use Rattle.aos_tree.specs.declared.expr.Simple.{Simple, out-Simple, roll-Simple, roll-out-Simple, Row_of-Addition, end_of-Addition, more_of-Addition, items-the_row-Addition, items_hidden-the_row-Addition-7}
use Rattle.aos_tree.specs.declared.expr.Addition.{Addition, Addition', out-Addition}
use Rattle.aos_tree.specs.declared.expr.Term.{Term, out-Term, roll-Term, roll-out-Term, Row_of-Product, end_of-Product, more_of-Product, items-the_row-Product, items_hidden-the_row-Product-8}
use Rattle.aos_tree.specs.declared.expr.Product.{Product}
use Rattle.aos_tree.specs.declared.expr.Elem.{Elem, out-Elem, roll-Elem, roll-out-Elem}
use Rattle.aos_tree.specs.declared.expr.Factor.{Factor, Row_of-Elem, end_of-Elem, more_of-Elem, items-the_row-Elem, items_hidden-the_row-Elem-1}
use Rattle.aos_tree.specs.declared.expr.Factor.TheVariants as f
use Rattle.aos_tree.specs.declared.expr.Factor.TheBlock.{hidden-the_row-Selector-0, hidden-the_row-Elem-1, hidden-the_row-Expr-2, shape-the_row-Expr-2, hidden-the_row-Factor-3, shape-the_row-Factor-3, hidden-the_row-Expr-4, hidden-the_row-Relation-6, shape-the_row-Relation-6, hidden-the_row-Addition-7, hidden-the_row-Product-8, hidden-the_row-Expr-5, shape-the_row-Expr-5}
use Rattle.aos_tree.specs.declared.expr.Desig.{Desig, Row_of-Selector, end_of-Selector, more_of-Selector, items-the_row-Selector, items_hidden-the_row-Selector-0}
use Rattle.aos_tree.specs.declared.expr.Selector.{Selector, Row_of-Expr, end_of-Expr, more_of-Expr, items-the_row-Expr, items_hidden-the_row-Expr-4}
use Rattle.aos_tree.specs.declared.expr.Selector.TheVariants as s
use Rattle.aos_symbols.specs.declared.env.Env.{Env}
use Rattle.aos_symbols.specs.Judged.{Judged, bind, walk}
use Rattle.aos_known.specs.Known.{Answer, Entity}
use Rattle.aos_operators.specs.Operations.{no_elements}
use Rattle.aos_operators.specs.Forms.{added, is_test, signed, opposite, whole_set, with_element, with_span}
use Rattle.aos_rules.specs.Relations.{tested, related_by}
use Rattle.aos_designators.specs.Designators.{plain, read}
use Rattle.aos_bound.specs.Methods.{Part, Begun, entity_of_part, selected, as_part}
use Rattle.aos_check_expr.specs.Expressions.{expr, relation, relation_if, simple, addition, additions, term, product, products, factor, parenthesized, elements, element, designator, selectors, selector, indices, index, indexed, arguments, bracketed, qualident_in}

-- a list of two
pub two_items : {X : Type 0} (xs : List X) (x y d d' : X) → 2 ≤ length xs → length xs < 3 → x ≡ get_or xs 0 d → y ≡ get_or xs 1 d' → xs ≡ x ∷ y ∷ []
two_items [] x y d d' least below a b = absurd (omega arith)
two_items (u ∷ []) x y d d' least below a b = absurd (omega arith)
two_items (u ∷ v ∷ []) x y d d' least below a b = ap (λ z. z ∷ v ∷ []) (sym a) ∙ ap (λ z. x ∷ z ∷ []) (sym b)
two_items (u ∷ v ∷ w ∷ ws) x y d d' least below a b = absurd (omega arith)

module _ (e : Env) where
  additions_row : (n : _) (first : Pos) (a : Answer) (r : Row_of-Addition n) → additions e first a r ≡ walk (addition e first) a (items-the_row-Addition n r)
  additions_row _ first a end_of-Addition = refl
  additions_row _ first a (more_of-Addition x xs) = ap (λ z. bind (addition e first a x) (λ b. z)) (additions_row _ first (addition e first a x).answer xs)

  products_row : (n : _) (first : Pos) (a : Answer) (r : Row_of-Product n) → products e first a r ≡ walk (product e first) a (items-the_row-Product n r)
  products_row _ first a end_of-Product = refl
  products_row _ first a (more_of-Product at op right xs) =
      let p : Product = record { pos = at; op = op; right = right } in
      ap (λ z. bind (product e first a p) (λ b. z)) (products_row _ first (product e first a p).answer xs)

  elements_row : (n : _) (at : Pos) (a : Answer) (r : Row_of-Elem n) → elements e at a r ≡ walk (element e at) a (items-the_row-Elem n r)
  elements_row _ at a end_of-Elem = refl
  elements_row _ at a (more_of-Elem x xs) = ap (λ z. bind (element e at a x) (λ b. z)) (elements_row _ at (element e at a x).answer xs)

  arguments_row : (n : _) (r : Row_of-Expr n) → arguments e r ≡ map (expr e) (items-the_row-Expr n r)
  arguments_row _ end_of-Expr = refl
  arguments_row _ (more_of-Expr x xs) = ap (λ js. expr e x ∷ js) (arguments_row _ xs)

  selectors_row : (n : _) (first : Pos) (a : Part) (r : Row_of-Selector n) → selectors e first a r ≡ walk (selector e first) a (items-the_row-Selector n r)
  selectors_row _ first a end_of-Selector = refl
  selectors_row _ first a (more_of-Selector x xs) = ap (λ z. bind (selector e first a x) (λ b. z)) (selectors_row _ first (selector e first a x).answer xs)

  indices_row : (n : _) (at : Pos) (a : Entity) (r : Row_of-Expr n) → indices e at a r ≡ walk (index e at) a (items-the_row-Expr n r)
  indices_row _ at a end_of-Expr = refl
  indices_row _ at a (more_of-Expr x xs) = ap (λ z. bind (index e at a x) (λ b. z)) (indices_row _ at (index e at a x).answer xs)

  expr_rolled : (at : Pos) (left : Simple) (right : Option Relation) → expr e (roll-Expr (record { pos = at; left = left; right = right }))
      ≡ bind (simple e left) (λ a. relation_if e at a right)
  unfolding roll-Expr roll hidden-the_row-Relation-6 shape-the_row-Relation-6 hidden
  expr_rolled at left None = refl
  expr_rolled at left (Some r) = refl

  pub expr_is : (x : Expr) → expr e x ≡ bind (simple e (out-Expr x).left) (λ a. relation_if e (out-Expr x).pos a (out-Expr x).right)
  expr_is x = ap (λ z. expr e z) (sym (roll-out-Expr x)) ∙ expr_rolled (out-Expr x).pos (out-Expr x).left (out-Expr x).right

  pub relation_is : (first : Pos) (a : Answer) (r : Relation) → is_test (out-Relation r).op ≡ false → relation e first a r
      ≡ bind (simple e (out-Relation r).right) (λ b. related_by e first (out-Relation r).pos (out-Relation r).op a b)
  unfolding out-Relation out
  relation_is first a (Relation' at op right) isnt = rw isnt refl

  pub relation_test : (first : Pos) (a : Answer) (r : Relation) → is_test (out-Relation r).op ≡ true → relation e first a r
      ≡ tested e (out-Relation r).pos a (qualident_in (out-Relation r).right)
  unfolding out-Relation out
  relation_test first a (Relation' at op right) is = rw is refl

  simple_rolled : (at : Pos) (sign : Option Sign) (first : Term) (rest : List Addition) → simple e (roll-Simple (record { pos = at; sign = sign; first = first; rest = rest }))
      ≡ bind (bind (term e first) (λ a. signed sign at a)) (λ a. walk (addition e at) a rest)
  unfolding roll-Simple roll
  simple_rolled at sign first rest =
      let a = (signed sign at (term e first).answer).answer in
      ap (λ z. bind (bind (term e first) (λ a. signed sign at a)) (λ a. z))
      (additions_row _ at a (hidden-the_row-Addition-7 rest) ∙ ap (λ xs. walk (addition e at) a xs) (items_hidden-the_row-Addition-7 rest))

  pub simple_is : (x : Simple) → simple e x
      ≡ bind (bind (term e (out-Simple x).first) (λ a. signed (out-Simple x).sign (out-Simple x).pos a)) (λ a. walk (addition e (out-Simple x).pos) a (out-Simple x).rest)
  simple_is x = ap (λ z. simple e z) (sym (roll-out-Simple x)) ∙ simple_rolled (out-Simple x).pos (out-Simple x).sign (out-Simple x).first (out-Simple x).rest

  pub addition_is : (first : Pos) (a : Answer) (x : Addition) → addition e first a x
      ≡ bind (term e (out-Addition x).right) (λ b. added first (out-Addition x).pos (out-Addition x).op a b)
  unfolding out-Addition out
  addition_is first a (Addition' at op right) = refl

  term_rolled : (at : Pos) (first : Factor) (rest : List Product) → term e (roll-Term (record { pos = at; first = first; rest = rest }))
      ≡ bind (factor e first) (λ a. walk (product e at) a rest)
  unfolding roll-Term roll
  term_rolled at first rest =
      let a = (factor e first).answer in
      ap (λ z. bind (factor e first) (λ a. z))
      (products_row _ at a (hidden-the_row-Product-8 rest) ∙ ap (λ xs. walk (product e at) a xs) (items_hidden-the_row-Product-8 rest))

  pub term_is : (x : Term) → term e x ≡ bind (factor e (out-Term x).first) (λ a. walk (product e (out-Term x).pos) a (out-Term x).rest)
  term_is x = ap (λ z. term e z) (sym (roll-out-Term x)) ∙ term_rolled (out-Term x).pos (out-Term x).first (out-Term x).rest

  pub factor_desig : (x : Factor) (d : Desig) → x ≡ f.Desig d → factor e x ≡ bind (designator e d) (read e)
  factor_desig x d is =
      ap (λ y. factor e y) is
      ∙ ap (λ z. bind (bind z (entity_of_part e)) (read e))
      (selectors_row _ d.name.pos (Begun (plain e d.name)) (hidden-the_row-Selector-0 d.selectors)
      ∙ ap (λ xs. walk (selector e d.name.pos) (Begun (plain e d.name)) xs) (items_hidden-the_row-Selector-0 d.selectors))

  pub factor_paren : (x : Factor) (p : Pos) (y : Expr) → x ≡ f.Paren p y → factor e x ≡ parenthesized e p y
  unfolding hidden-the_row-Expr-2 shape-the_row-Expr-2 hidden
  factor_paren x p y is = ap (λ y. factor e y) is

  pub factor_not : (x : Factor) (p : Pos) (y : Factor) → x ≡ f.Not p y → factor e x ≡ bind (factor e y) (λ a. opposite p a)
  unfolding hidden-the_row-Factor-3 shape-the_row-Factor-3 hidden
  factor_not x p y is = ap (λ y. factor e y) is

  pub factor_set : (x : Factor) (p : Pos) (es : List Elem) → x ≡ f.Set p es →
      factor e x ≡ bind (walk (element e p) no_elements es) (λ a. whole_set p a)
  factor_set x p es is =
      ap (λ y. factor e y) is
      ∙ ap (λ z. bind z (λ a. whole_set p a)) (elements_row _ p no_elements (hidden-the_row-Elem-1 es) ∙ ap (λ xs. walk (element e p) no_elements xs) (items_hidden-the_row-Elem-1 es))

  -- an element, with its last expression where it has one
  abbrev pub element_as : Pos → Answer → Expr → Option Expr → Judged Answer
  element_as at a x None = bind (expr e x) (λ b. with_element at a b)
  element_as at a x (Some y) = bind (expr e x) (λ b. bind (expr e y) (λ c. with_span at a b c))

  element_rolled : (at : Pos) (a : Answer) (first : Expr) (last : Option Expr) → element e at a (roll-Elem (record { first = first; last = last })) ≡ element_as at a first last
  unfolding roll-Elem roll hidden-the_row-Expr-5 shape-the_row-Expr-5 hidden
  element_rolled at a first None = refl
  element_rolled at a first (Some y) = refl

  pub element_is : (at : Pos) (a : Answer) (x : Elem) → element e at a x ≡ element_as at a (out-Elem x).first (out-Elem x).last
  element_is at a x = ap (λ z. element e at a z) (sym (roll-out-Elem x)) ∙ element_rolled at a (out-Elem x).first (out-Elem x).last

  pub selector_index : (first : Pos) (a : Part) (x : Selector) (p : Pos) (es : List Expr) → x ≡ s.Index p es → selector e first a x ≡ indexed e p a es
  selector_index first a x p es is =
      ap (λ y. selector e first a y) is
      ∙ ap (λ z. as_part (bind (selected e p a) (λ b. z)))
      (indices_row _ p (selected e p a).answer (hidden-the_row-Expr-4 es) ∙ ap (λ xs. walk (index e p) (selected e p a).answer xs) (items_hidden-the_row-Expr-4 es))

  pub selector_paren : (first : Pos) (a : Part) (x : Selector) (p : Pos) (es : List Expr) → x ≡ s.Paren p es →
      selector e first a x ≡ bracketed e first a p (map (expr e) es) es
  selector_paren first a x p es is =
      ap (λ y. selector e first a y) is
      ∙ ap (λ js. bracketed e first a p js (items-the_row-Expr _ (hidden-the_row-Expr-4 es))) (arguments_row _ (hidden-the_row-Expr-4 es))
      ∙ ap (λ ys. bracketed e first a p (map (expr e) ys) ys) (items_hidden-the_row-Expr-4 es)
