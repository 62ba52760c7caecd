-- FOR's variable, values and step are well typed, and so are the labels of CASE.
use Rattle.std.proofs.Common.{◌≡◌, ℕ, ℤ, pos, ◌⊎◌, inl, inr, List, [], ◌∷◌, ◌++◌, Bool, true, false, not, ◌==◌, ◌||◌, Option, Some, None, option_map, refl, sym, ap, ◌∙◌, subst, if◌then◌else◌}
use Rattle.std.specs.Prelude.{All}
use Rattle.std.proofs.lemmas.Option.{none-some}
use Rattle.std.specs.List.{list_any}
use Rattle.std.specs.Ordering.{int_eq}
use Rattle.std.proofs.lemmas.Bool.{and_parts}
use Rattle.std.proofs.lemmas.List.Elements.{All-push}
use Rattle.aos_base.specs.declared.text.Pos.{Pos}
use Rattle.aos_base.specs.declared.number.Width.{Width}
use Rattle.aos_base.specs.declared.number.Width.TheVariants.{W64}
use Rattle.aos_base.specs.Number.{IsWithin}
use Rattle.aos_tree.specs.declared.name.Name.{Name}
use Rattle.aos_tree.specs.declared.expr.Expr.{Expr as TreeExpr, out-Expr}
use Rattle.aos_tree.specs.declared.stat.Label.{Label}
use Rattle.aos_types.specs.declared.row.TypeId.{TypeId}
use Rattle.aos_typed.specs.declared.tree.LabelRange.{LabelRange}
use Rattle.aos_typed.specs.declared.tree.Literal.{Literal}
use Rattle.aos_typed.specs.declared.tree.Literal.TheVariants as literal
use Rattle.aos_typed.specs.declared.tree.TType.TheVariants as type
use Rattle.aos_typed.specs.Program.{Place, Lit}
use Rattle.aos_typed.specs.WellTyped.{is_variable, meets, AreLabels, AreApart}
use Rattle.aos_symbols.specs.declared.env.Env.{Env}
use Rattle.aos_symbols.specs.declared.env.Symbol.{Symbol}
use Rattle.aos_symbols.specs.declared.env.Lookup.{Lookup}
use Rattle.aos_symbols.specs.declared.env.Lookup.TheVariants.{Unknown as NoName, NotExported, Found}
use Rattle.aos_symbols.specs.declared.scope.Meaning.{Meaning}
use Rattle.aos_symbols.specs.declared.scope.Meaning.TheVariants as means
use Rattle.aos_symbols.specs.declared.breach.Breach.{Breach}
use Rattle.aos_symbols.specs.Breaches.{breach, breach_unless, first_after}
use Rattle.aos_symbols.specs.Judged.{Judged, judged, kept, bind, walk}
use Rattle.aos_symbols.specs.Env as env
use Rattle.aos_symbols.proofs.Holds.{Holds, holds_bind, holds_walk, none_left, none_right, none_first, test_is, broken}
use Rattle.aos_known.specs.declared.known.Class.{Class}
use Rattle.aos_known.specs.declared.known.Class.TheVariants.{Constant}
use Rattle.aos_known.specs.Known.{Answer, is_number, is_char, fits, type_as, type_of_literal, width_of}
use Rattle.aos_operators.specs.Operations.{number}
use Rattle.aos_operators.proofs.Good.{IsGood, HasGood, good_number}
use Rattle.aos_known.proofs.Inside.{Inside, IsOf}
use Rattle.aos_known.proofs.Types.{as_integer, integer_basic, wider, fits_includes}
use Rattle.aos_operators.proofs.Sound.{IsSound, sound_number, sound_char}
use Rattle.aos_designators.specs.Designators as desig
use Rattle.aos_check_expr.specs.Expressions.{constant_class, expr}
use Rattle.aos_check_expr.proofs.Passed.{basic_fit}
use Rattle.aos_check_expr.proofs.Entities.{IsTyped, closed, opened, plain_head}
use Rattle.aos_check_expr.proofs.Typing.{IsWhole, expr_sound, constant_good}
use Rattle.aos_check_stat.specs.Bodies.{Control, Labels, lost, control, control_found, control_meant, control_rule, fitting, is_step, step_breaches, step_in, step_of, is_selector, selector, is_label, range_of, label_value, label_range, with_label, label_in}
use Rattle.aos_stat_rules.proofs.Apart.{Behind, none_behind, one_behind, apart_push}
use Rattle.aos_check_stat.proofs.Places.{some_breach, fits_basic}
use Rattle.aos_check_stat.proofs.Changed.{one_within}

-- labels behind others, no two of which have a value together
pub record AreMore (ls all : Labels) : Type 0 where
  pub within : All AreLabels all
  pub apart : AreApart all
  pub behind : Behind ls all

module _ (p : Inside) (e : Env) (whole : IsWhole p e) where
  -- FOR.

  pub record IsControl (c : Control) : Type 0 where
    pub variable : is_variable c.0 ≡ true
    pub typed : IsTyped p e c.0 c.1
    pub number : is_number c.1 ≡ true

  pub control_sound : (n : Name) → Holds IsControl (control e n)
  control_sound n = by (env.lookup e n) refl
    where
      lost_sound : (rule : ℕ) → Holds IsControl (lost rule n.pos)
      lost_sound rule = broken IsControl (record { rule = rule; pos = n.pos }) [] _

      meant : (x : Symbol) → env.lookup e n ≡ Found x → (m : Meaning) → x.means ≡ m → Holds IsControl (control_meant e n.pos x m)
      meant x found (means.Variable k) is = λ h.
          let two = kept_control (desig.access (x.at.home == e.number) x.mark) (desig.place_of_variable e x k) (is_number (env.variable_type e x.at k)) h in
          record { variable = two.1; typed = (plain_head p e n whole x found).0 k is; number = two.0 }
        where
          kept_control : (c : Class) (place : Place) (b : Bool) → desig.written c n.pos ++ (if b then breach_unless (is_variable place) 99 n.pos else breach 48 n.pos) ≡ [] →
              (b ≡ true) × (is_variable place ≡ true)
          kept_control c place true h = (refl, test_is (is_variable place) 99 n.pos (none_right (desig.written c n.pos) (breach_unless (is_variable place) 99 n.pos) h))
          kept_control c place false h = absurd (some_breach (none_right (desig.written c n.pos) (breach 48 n.pos) h))
      meant x found m is = lost_sound (control_rule e m)

      by : (l : Lookup) → env.lookup e n ≡ l → Holds IsControl (control_found e n.pos l)
      by NoName found = lost_sound 14
      by NotExported found = lost_sound 15
      by (Found x) found = meant x found x.means refl

  -- a value that fits the variable
  pub fitting_sound : (place : Place) (of : Option TypeId) → IsTyped p e place of → is_number of ≡ true → (rule : ℕ) (at : Pos) (x : TreeExpr) →
      Holds (λ n. IsOf p n (type.Integer (width_of of))) (fitting e of rule at x)
  fitting_sound place None (closed typed known) is rule at x = absurd known
  fitting_sound place None (opened t q same also opening rows lengths variables) is rule at x = absurd (none-some t same)
  fitting_sound place (Some t) typed is rule at x =
      holds_bind (IsSound p) (λ n. IsOf p n (type.Integer (width_of (Some t)))) (expr e x) (λ v. judged (breach_unless (fits v.known.of (Some t)) rule at) v.typed)
      (expr_sound p e whole x)
      (λ v sound h. subst (IsOf p v.typed) (as_integer t is) (fits_basic p e whole t v (integer_basic t is) sound (test_is (fits v.known.of (Some t)) rule at h)))

  -- a constant that breaks no rule is as its kind asks
  good_constant : (x : TreeExpr) (l : Literal) → (expr e x).breaches ≡ [] → (expr e x).answer.known.class ≡ Constant (Some l) → IsGood l
  good_constant x l none is = by (constant_class (expr e x).answer.known.class (out-Expr x).pos) (ap (λ c. constant_class c (out-Expr x).pos) is) (constant_good e whole.constants x)
    where
      none_more : (j : Judged (Option Literal)) → j ≡ kept (Some l) → (expr e x).breaches ++ j.breaches ≡ []
      none_more j same = ap (λ i. (expr e x).breaches ++ i.breaches) same ∙ ap (λ bs. bs ++ []) none

      of_good : (o : Option Literal) → HasGood o → o ≡ Some l → IsGood l
      of_good o g same = subst IsGood (one g.0 (sym g.1 ∙ same)) g.2
        where
          one : (k : Literal) → Some k ≡ Some l → k ≡ l
          one k e = cc

      by : (j : Judged (Option Literal)) → j ≡ kept (Some l) → ((expr e x).breaches ++ j.breaches ≡ [] → HasGood j.answer) → IsGood l
      by j same good = of_good j.answer (good (none_more j same)) (ap (λ i. i.answer) same)

  not_nil : (n : ℤ) → literal.Int n ≡ literal.Nil → ⊥
  not_nil n e = cc

  not_none : (n : ℤ) → literal.Int n ≡ literal.NoProcedure → ⊥
  not_none n e = cc

  literal_within : (n : ℤ) (w : Width) → IsOf p (Lit (literal.Int n)) (type.Integer w) → IsWithin w n
  literal_within n w (inl h) = h
  literal_within n w (inr (inl h)) = absurd (not_nil n h.0)
  literal_within n w (inr (inr h)) = absurd (not_none n h.0)

  -- a step is of the variable's width
  step_within : (t : TypeId) → is_number (Some t) ≡ true → (c : Class) → ((l : Literal) → c ≡ Constant (Some l) → IsGood l) → is_step (Some t) c ≡ true →
      IsWithin (width_of (Some t)) (step_in c)
  step_within t is (Constant (Some (literal.Int n))) good h =
      let small = type_of_literal (literal.Int n) in
      let fit = (and_parts (not (int_eq n (pos 0))) (fits (Some small) (Some t)) h).1 in
      literal_within n (width_of (Some t))
      (subst (IsOf p (Lit (literal.Int n))) (as_integer t is)
      (wider p (Lit (literal.Int n)) (type_as small) (type_as t) (inl (good (literal.Int n) refl)) (fits_includes small t (basic_fit small t (integer_basic t is) fit) fit)))
  step_within t is c good h = one_within (width_of (Some t))

  pub step_sound : (place : Place) (of : Option TypeId) → IsTyped p e place of → is_number of ≡ true → (at : Pos) (x : Option TreeExpr) →
      Holds (λ z. IsWithin (width_of of) z) (step_of e at of x)
  step_sound place of typed is at None = λ h. one_within (width_of of)
  step_sound place None (closed typed known) is at (Some x) = absurd known
  step_sound place None (opened t q same also opening rows lengths variables) is at (Some x) = absurd (none-some t same)
  step_sound place (Some t) typed is at (Some x) = by (first_after None (expr e x).breaches) refl
    where
      c : Class
      c = (expr e x).answer.known.class

      by : (o : Option Breach) → first_after None (expr e x).breaches ≡ o → step_breaches at (Some t) o c ≡ [] → IsWithin (width_of (Some t)) (step_in c)
      by (Some own) found h = absurd (some_breach h)
      by None found h = step_within t is c (λ l same. good_constant x l (none_first (expr e x).breaches found) same) (test_is (is_step (Some t) c) 48 at h)

  -- CASE.

  pub selector_sound : (x : TreeExpr) → Holds (λ v. IsOf p v.typed (type.Integer W64) ⊎ IsOf p v.typed type.Char) (selector e x)
  selector_sound x =
      holds_bind (IsSound p) (λ v. IsOf p v.typed (type.Integer W64) ⊎ IsOf p v.typed type.Char) (expr e x)
      (λ v. judged (breach_unless (is_selector v.known.of) 38 (out-Expr x).pos) v) (expr_sound p e whole x)
      (λ v sound h. by v sound (is_number v.known.of) (is_char v.known.of) refl refl (test_is (is_selector v.known.of) 38 (out-Expr x).pos h))
    where
      by : (v : Answer) → IsSound p v → (b c : Bool) → is_number v.known.of ≡ b → is_char v.known.of ≡ c → (b || c) ≡ true →
          IsOf p v.typed (type.Integer W64) ⊎ IsOf p v.typed type.Char
      by v sound true c n k h = inl (sound_number p v sound n)
      by v sound false c n k h = inr (sound_char p v sound (k ∙ h))

  -- the values of labels are of 64 bits
  abbrev MayBeWithin : Option ℤ → Type 0
  MayBeWithin None = Unit {0}
  MayBeWithin (Some z) = IsWithin W64 z

  abbrev MayBeLabels : Option LabelRange → Type 0
  MayBeLabels None = Unit {0}
  MayBeLabels (Some r) = AreLabels r

  value_within : (at : Pos) (of : Option TypeId) (x : TreeExpr) → Holds MayBeWithin (label_value e at of x)
  value_within at of x = λ h.
      let v = expr e x in
      let own = constant_class v.answer.known.class (out-Expr x).pos in
      let test = breach_unless (is_label of v.answer.known.of) 38 at in
      let rest = none_right v.breaches (own.breaches ++ test) h in
      let none : v.breaches ++ own.breaches ≡ [] =
      ap (λ bs. bs ++ own.breaches) (none_left v.breaches (own.breaches ++ test) h) ∙ none_left own.breaches test rest in
      by own.answer (constant_good e whole.constants x none)
    where
      by : (o : Option Literal) → HasGood o → MayBeWithin (option_map number o)
      by o g = subst (λ o. MayBeWithin (option_map number o)) (sym g.1) (good_number g.0 g.2)

  range_within : (a b : Option ℤ) → MayBeWithin a → MayBeWithin b → MayBeLabels (range_of a b)
  range_within None None x y = tt
  range_within None (Some b) x y = tt
  range_within (Some a) None x y = tt
  range_within (Some a) (Some b) x y = (x, y)

  label_within : (of : Option TypeId) (l : Label) → Holds MayBeLabels (label_range e of l)
  label_within of l = by l.last
    where
      at : Pos
      at = (out-Expr l.first).pos

      by : (y : Option TreeExpr) → Holds MayBeLabels (label_range e of (record { first = l.first; last = y }))
      by None = holds_bind MayBeWithin MayBeLabels (label_value e at of l.first) (λ a. kept (range_of a a)) (value_within at of l.first) (λ a x h. range_within a a x x)
      by (Some y) =
          holds_bind MayBeWithin MayBeLabels (label_value e at of l.first) (λ a. bind (label_value e at of y) (λ b. kept (range_of a b))) (value_within at of l.first)
          (λ a x. holds_bind MayBeWithin MayBeLabels (label_value e at of y) (λ b. kept (range_of a b)) (value_within at of y) (λ b z h. range_within a b x z))

  with_more : (ls all : Labels) (at : Pos) → AreMore ls all → (o : Option LabelRange) → MayBeLabels o → Holds (AreMore ls) (with_label all at o)
  with_more ls all at are None is = λ h. are
  with_more ls all at are (Some r) is = by (list_any (meets r) all) refl
    where
      by : (b : Bool) → list_any (meets r) all ≡ b → Holds (AreMore ls) (if b then judged (breach 38 at) all else kept (all ++ r ∷ []))
      by true any = λ h. are
      by false none = λ h. record {
        within = All-push AreLabels all r are.within is;
        apart = apart_push all r are.apart none;
        behind = one_behind ls all r are.behind;
      }

  pub labels_sound : (of : Option TypeId) (ls : Labels) → All AreLabels ls → AreApart ls → (xs : List Label) → Holds (AreMore ls) (walk (label_in e of) ls xs)
  labels_sound of ls within apart xs =
      holds_walk (AreMore ls) (label_in e of)
      (λ all l are. holds_bind MayBeLabels (AreMore ls) (label_range e of l) (λ r. with_label all (out-Expr l.first).pos r) (label_within of l)
      (λ r is. with_more ls all (out-Expr l.first).pos are r is))
      xs ls (record { within = within; apart = apart; behind = none_behind ls })
