-- Values of a struct that leads back to itself are the same where their fields are.
use Rattle.std.proofs.Common.{◌≡◌, sym, ap, ◌∙◌}
use Rattle.aos_tree.specs.declared.expr.Expr.{Expr, out-Expr, roll-Expr, roll-out-Expr}
use Rattle.aos_tree.specs.declared.expr.Relation.{Relation, out-Relation, roll-Relation, roll-out-Relation}
use Rattle.aos_tree.specs.declared.expr.Addition.{Addition, out-Addition, roll-Addition, roll-out-Addition}
use Rattle.aos_tree.specs.declared.expr.Product.{Product, out-Product, roll-Product, roll-out-Product}
use Rattle.aos_tree.specs.declared.expr.Elem.{Elem, out-Elem, roll-Elem, roll-out-Elem}
use Rattle.aos_tree.specs.declared.expr.Desig.{Desig, out-Desig, roll-Desig, roll-out-Desig}
use Rattle.aos_tree.specs.declared.expr.Simple.{Simple, out-Simple, roll-Simple, roll-out-Simple}
use Rattle.aos_tree.specs.declared.expr.Term.{Term, out-Term, roll-Term, roll-out-Term}

pub term : (a b : Term) → (out-Term a).pos ≡ (out-Term b).pos → (out-Term a).first ≡ (out-Term b).first →
    (out-Term a).rest ≡ (out-Term b).rest → a ≡ b
term a b p f r =
    sym (roll-out-Term a)
    ∙ ap (λ z. roll-Term (record { pos = z; first = (out-Term a).first; rest = (out-Term a).rest })) p
    ∙ ap (λ z. roll-Term (record { pos = (out-Term b).pos; first = z; rest = (out-Term a).rest })) f
    ∙ ap (λ z. roll-Term (record { pos = (out-Term b).pos; first = (out-Term b).first; rest = z })) r
    ∙ roll-out-Term b

pub simple : (a b : Simple) → (out-Simple a).pos ≡ (out-Simple b).pos → (out-Simple a).sign ≡ (out-Simple b).sign →
    (out-Simple a).first ≡ (out-Simple b).first → (out-Simple a).rest ≡ (out-Simple b).rest → a ≡ b
simple a b p s f r =
    sym (roll-out-Simple a)
    ∙ ap (λ z. roll-Simple (record { pos = z; sign = (out-Simple a).sign; first = (out-Simple a).first; rest = (out-Simple a).rest })) p
    ∙ ap (λ z. roll-Simple (record { pos = (out-Simple b).pos; sign = z; first = (out-Simple a).first; rest = (out-Simple a).rest })) s
    ∙ ap (λ z. roll-Simple (record { pos = (out-Simple b).pos; sign = (out-Simple b).sign; first = z; rest = (out-Simple a).rest })) f
    ∙ ap (λ z. roll-Simple (record { pos = (out-Simple b).pos; sign = (out-Simple b).sign; first = (out-Simple b).first; rest = z })) r
    ∙ roll-out-Simple b

pub expr : (a b : Expr) → (out-Expr a).pos ≡ (out-Expr b).pos → (out-Expr a).left ≡ (out-Expr b).left → (out-Expr a).right ≡ (out-Expr b).right → a ≡ b
expr a b p0 p1 p2 =
    sym (roll-out-Expr a)
    ∙ ap (λ z. roll-Expr (record { pos = z; left = (out-Expr a).left; right = (out-Expr a).right })) p0
    ∙ ap (λ z. roll-Expr (record { pos = (out-Expr b).pos; left = z; right = (out-Expr a).right })) p1
    ∙ ap (λ z. roll-Expr (record { pos = (out-Expr b).pos; left = (out-Expr b).left; right = z })) p2
    ∙ roll-out-Expr b

pub relation : (a b : Relation) → (out-Relation a).pos ≡ (out-Relation b).pos → (out-Relation a).op ≡ (out-Relation b).op → (out-Relation a).right ≡ (out-Relation b).right → a ≡ b
relation a b p0 p1 p2 =
    sym (roll-out-Relation a)
    ∙ ap (λ z. roll-Relation (record { pos = z; op = (out-Relation a).op; right = (out-Relation a).right })) p0
    ∙ ap (λ z. roll-Relation (record { pos = (out-Relation b).pos; op = z; right = (out-Relation a).right })) p1
    ∙ ap (λ z. roll-Relation (record { pos = (out-Relation b).pos; op = (out-Relation b).op; right = z })) p2
    ∙ roll-out-Relation b

pub addition : (a b : Addition) → (out-Addition a).pos ≡ (out-Addition b).pos → (out-Addition a).op ≡ (out-Addition b).op → (out-Addition a).right ≡ (out-Addition b).right → a ≡ b
addition a b p0 p1 p2 =
    sym (roll-out-Addition a)
    ∙ ap (λ z. roll-Addition (record { pos = z; op = (out-Addition a).op; right = (out-Addition a).right })) p0
    ∙ ap (λ z. roll-Addition (record { pos = (out-Addition b).pos; op = z; right = (out-Addition a).right })) p1
    ∙ ap (λ z. roll-Addition (record { pos = (out-Addition b).pos; op = (out-Addition b).op; right = z })) p2
    ∙ roll-out-Addition b

pub product : (a b : Product) → (out-Product a).pos ≡ (out-Product b).pos → (out-Product a).op ≡ (out-Product b).op → (out-Product a).right ≡ (out-Product b).right → a ≡ b
product a b p0 p1 p2 =
    sym (roll-out-Product a)
    ∙ ap (λ z. roll-Product (record { pos = z; op = (out-Product a).op; right = (out-Product a).right })) p0
    ∙ ap (λ z. roll-Product (record { pos = (out-Product b).pos; op = z; right = (out-Product a).right })) p1
    ∙ ap (λ z. roll-Product (record { pos = (out-Product b).pos; op = (out-Product b).op; right = z })) p2
    ∙ roll-out-Product b

pub elem : (a b : Elem) → (out-Elem a).first ≡ (out-Elem b).first → (out-Elem a).last ≡ (out-Elem b).last → a ≡ b
elem a b p0 p1 =
    sym (roll-out-Elem a)
    ∙ ap (λ z. roll-Elem (record { first = z; last = (out-Elem a).last })) p0
    ∙ ap (λ z. roll-Elem (record { first = (out-Elem b).first; last = z })) p1
    ∙ roll-out-Elem b

pub desig : (a b : Desig) → (out-Desig a).name ≡ (out-Desig b).name → (out-Desig a).selectors ≡ (out-Desig b).selectors → a ≡ b
desig a b p0 p1 =
    sym (roll-out-Desig a)
    ∙ ap (λ z. roll-Desig (record { name = z; selectors = (out-Desig a).selectors })) p0
    ∙ ap (λ z. roll-Desig (record { name = (out-Desig b).name; selectors = z })) p1
    ∙ roll-out-Desig b
