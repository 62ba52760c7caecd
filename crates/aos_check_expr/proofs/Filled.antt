-- String constants with 0X behind them: the module that hands one over has it, behind its own string constants.
use Rattle.std.proofs.Common.{◌≡◌, ℕ, zero, suc, ◌+◌, ◌-◌, ◌≤◌, ◌<◌, ◌==◌, List, [], ◌∷◌, ◌++◌, length, map, fold, max, replicate, get_or, position, Bool, true, false, Option, Some, None, slice_get, option_map, option_and_then, if◌then◌else◌, refl, sym, ap, ◌∙◌, subst, arith, lt-ltb, length-append}
use Rattle.std.specs.Option.{unwrap_or}
use Rattle.std.proofs.lemmas.Bool.{eqb-true, and_parts}
use Rattle.std.proofs.lemmas.List.{length-map, length-replicate}
use Rattle.std.proofs.lemmas.List.Quantifiers.{position-Some}
use Rattle.std.proofs.Math.Nat.{le-max_left, le-max_right}
use Rattle.std.proofs.lemmas.Option.{none-some, same_Some, option_and_then_some, slice_get-map, slice_get-get_or}
use Rattle.aos_types.specs.declared.row.TypeId.{TypeId}
use Rattle.aos_types.specs.declared.row.TypeRow.{TypeRow}
use Rattle.aos_types.specs.declared.row.TypeRow.TheVariants as row
use Rattle.aos_types.specs.declared.signature.Parameter.{Parameter as Formal}
use Rattle.aos_types.specs.declared.signature.Signature.{Signature}
use Rattle.aos_typed.specs.declared.tree.TextConstant.{TextConstant}
use Rattle.aos_typed.specs.WellTyped.{IsConstantText}
use Rattle.aos_symbols.specs.declared.env.Env.{Env}
use Rattle.aos_symbols.specs.Env as env
use Rattle.aos_symbols.specs.Home.{Home, character, between_quotes, texts_of}
use Rattle.aos_symbols.proofs.Each.{Each, each_at, implied}
use Rattle.aos_symbols.proofs.Found.{some_found}
use Rattle.aos_symbols.proofs.Told.{get_front}
use Rattle.aos_known.proofs.Inside.{Inside}
use Rattle.aos_arguments.specs.Filled.{most, value_length, signature_length, home_length, row_length, longest, named_texts, is_same, filled_index, filled, home_filled, named_filled, all_filled, filled_place, filled_texts}
use Rattle.aos_values.specs.Signatures.{formal, given_by, row_signature, type_signature}
use Rattle.aos_bound.specs.declared.methods.Heading.{Heading}
use Rattle.aos_bound.specs.declared.methods.Heading.TheVariants as heading
use Rattle.aos_check_expr.specs.Expressions.{signature_of}
use Rattle.aos_check_expr.proofs.Entities.{IsWhole}

-- What stands in the second of two lists.

get_behind : {X : Type 0} (xs ys : List X) (n j : ℕ) → length xs ≡ n → slice_get (xs ++ ys) (n + j) ≡ slice_get ys j
get_behind [] ys n j is = let none : 0 ≡ n = is in let same : n + j ≡ j = omega (arith, none) in ap (slice_get ys) same
get_behind (x ∷ xs) ys zero j is = absurd (omega (arith, is))
get_behind (x ∷ xs) ys (suc n) j is =
    let same : length xs ≡ n = omega (arith, is) in
    let next : suc n + j ≡ suc (n + j) = omega (arith) in
    ap (slice_get (x ∷ (xs ++ ys))) next ∙ get_behind xs ys n j same

-- The strings of modules, each with so many elements.

abbrev codes : Home → ℕ × ℕ → List ℕ
codes h s = map character (between_quotes h.text s)

filled_long : (n : ℕ) (cs : List ℕ) → length cs < n → n ≡ suc (length (filled n cs))
filled_long n cs lt =
    let rest = (n - 1) - length cs in
    let a = length-append cs (replicate rest 0) in
    let b = length-replicate {A = ℕ} rest 0 in
    let same : n ≡ suc (length (cs ++ replicate rest 0)) = omega (arith, lt, a, b) in
    rw (lt-ltb (length cs) n lt) same

module _ (n : ℕ) where
  own_filled : (h : Home) (s : ℕ × ℕ) (k : ℕ) → slice_get h.strings k ≡ Some s → slice_get (home_filled n h) k ≡ Some (filled n (codes h s))
  own_filled h s k is =
      slice_get-map (filled n) (texts_of h) k ∙ ap (option_map (filled n)) (slice_get-map (codes h) h.strings k ∙ ap (option_map (codes h)) is)

  own_long : (h : Home) → length (home_filled n h) ≡ length h.strings
  own_long h = length-map (texts_of h) (filled n) ∙ length-map h.strings (codes h)

  named_is : (e : Env) (u : TextConstant) (h : Home) (s : ℕ × ℕ) → env.home e u.home ≡ Some h → slice_get h.strings u.number ≡ Some s →
      named_filled n e u ≡ filled n (codes h s)
  named_is e u h s there is = rw there (rw is refl)

  abbrev rows : Env → List (List ℕ)
  rows e = home_filled n e.here ++ map (named_filled n e) (named_texts e)

  all_some : (e : Env) → 0 < n → all_filled n e ≡ rows e
  all_some e some = by (n == 0) refl
    where
      by : (b : Bool) → (n == 0) ≡ b → (if b then [] else home_filled n e.here ++ map (named_filled n e) (named_texts e)) ≡ rows e
      by false is = refl
      by true is = let none = eqb-true n 0 is in absurd (omega (arith, some, none))

  -- a string of this module, or one that a module before it names
  filled_there : (e : Env) (t : TextConstant) (k : ℕ) (h : Home) (s : ℕ × ℕ) → env.home e t.home ≡ Some h → slice_get h.strings t.number ≡ Some s →
      filled_index e t ≡ Some k → slice_get (rows e) k ≡ Some (filled n (codes h s))
  filled_there e t k h s there is = by (t.home == e.number) there
    where
      behind : (o : Option ℕ) → position (is_same t) (named_texts e) ≡ o → option_map (λ j. length e.here.strings + j) o ≡ Some k →
          slice_get (rows e) k ≡ Some (filled n (codes h s))
      behind None at none = absurd (none-some k none)
      behind (Some j) at some =
          let u = get_or (named_texts e) j t in
          let found = position-Some (is_same t) (named_texts e) j t at in
          let same = and_parts (u.home == t.home) (u.number == t.number) found.1 in
          let home_is : u.home ≡ t.home = eqb-true u.home t.home same.0 in
          let number_is : u.number ≡ t.number = eqb-true u.number t.number same.1 in
          let at_home : env.home e u.home ≡ Some h = ap (env.home e) home_is ∙ there in
          let at_string : slice_get h.strings u.number ≡ Some s = ap (slice_get h.strings) number_is ∙ is in
          ap (slice_get (rows e)) (sym (same_Some (length e.here.strings + j) k some))
          ∙ get_behind (home_filled n e.here) (map (named_filled n e) (named_texts e)) (length e.here.strings) j (own_long e.here)
          ∙ slice_get-map (named_filled n e) (named_texts e) j
          ∙ ap (option_map (named_filled n e)) (slice_get-get_or (named_texts e) j t found.0)
          ∙ ap (λ x. Some x) (named_is e u h s at_home at_string)

      by : (b : Bool) → (if b then Some e.here else slice_get e.before t.home) ≡ Some h →
          (if b then Some t.number else option_map (λ j. length e.here.strings + j) (position (is_same t) (named_texts e))) ≡ Some k →
          slice_get (rows e) k ≡ Some (filled n (codes h s))
      by true own index =
          let first = subst (λ g. slice_get (home_filled n g) t.number ≡ Some (filled n (codes h s))) (sym (same_Some e.here h own)) (own_filled h s t.number is) in
          get_front (home_filled n e.here) (map (named_filled n e) (named_texts e)) k (filled n (codes h s))
          (subst (λ j. slice_get (home_filled n e.here) j ≡ Some (filled n (codes h s))) (same_Some t.number k index) first)
      by false before index = behind (position (is_same t) (named_texts e)) refl index

module _ (p : Inside) (e : Env) (whole : IsWhole p e) where
  pub filled_is : (t : TextConstant) (k : ℕ) → env.has_string e t ≡ true → filled_index e t ≡ Some k → length (env.characters e t) < longest e →
      IsConstantText p.program (filled_place e t) (longest e)
  filled_is t k has index few =
      let s = some_found (option_and_then (λ (h : Home). slice_get h.strings t.number) (env.home e t.home)) has in
      option_and_then_some (λ (h : Home). slice_get h.strings t.number) (env.home e t.home) s.0 s.1 (λ h there is. in_home h s.0 there is)
    where
      long : (h : Home) (s : ℕ × ℕ) → env.home e t.home ≡ Some h → slice_get h.strings t.number ≡ Some s → length (env.characters e t) ≡ length (codes h s)
      long h s there is = rw there (rw is (sym (length-map (between_quotes h.text s) character)))

      in_home : (h : Home) (s : ℕ × ℕ) → env.home e t.home ≡ Some h → slice_get h.strings t.number ≡ Some s → IsConstantText p.program (filled_place e t) (longest e)
      in_home h s there is =
          let x = whole.filled in
          let place = unwrap_or (filled_index e t) 0 in
          let place_is : place ≡ k = ap (λ (o : Option ℕ). unwrap_or o 0) index in
          let behind = length e.here.strings + place in
          let less = subst (λ l. l < longest e) (long h s there is) few in
          let some : 0 < longest e = omega (arith, few) in (
            x.0,
            x.1,
            record {
              behind = behind;
              is = ap (λ l. l + behind) (sym x.2);
              characters = filled (longest e) (codes h s);
              there = ap (λ ts. slice_get ts behind) x.3
                  ∙ get_behind (texts_of e.here) (filled_texts e) (length e.here.strings) place (length-map e.here.strings (codes e.here))
                  ∙ ap (λ ts. slice_get ts place) (all_some (longest e) e some)
                  ∙ ap (slice_get (rows (longest e) e)) place_is
                  ∙ filled_there (longest e) e t k h s there is index;
              long = filled_long (longest e) (codes h s) less;
            },
          )

-- No array of characters by value is longer than the longest.

abbrev pub AreCovered : Env → List Formal → Type 0
AreCovered e ps = Each (λ f. value_length e f ≤ longest e) ps

most_from : {A : Type 0} (f : A → ℕ) (xs : List A) (n : ℕ) → n ≤ fold (λ m x. max m (f x)) n xs
most_from f [] n = omega arith
most_from f (x ∷ xs) n = let a = le-max_left n (f x) in let b = most_from f xs (max n (f x)) in omega (arith, a, b)

each_from : {A : Type 0} (f : A → ℕ) (xs : List A) (n : ℕ) → Each (λ x. f x ≤ fold (λ m y. max m (f y)) n xs) xs
each_from f [] n = tt
each_from f (x ∷ xs) n =
    let a = le-max_right n (f x) in let b = most_from f xs (max n (f x)) in (omega (arith, a, b), each_from f xs (max n (f x)))

each_most : {A : Type 0} (f : A → ℕ) (xs : List A) → Each (λ x. f x ≤ most f xs) xs
each_most f xs = each_from f xs 0

mapped : {A B : Type 0} (P : B → Type 0) (f : A → B) (xs : List A) → Each (λ x. P (f x)) xs → Each P (map f xs)
mapped P f [] each = tt
mapped P f (x ∷ xs) each = (each.0, mapped P f xs each.1)

module _ (e : Env) where
  abbrev before_length : ℕ
  before_length = most (home_length e) e.before

  abbrev homes_length : ℕ
  homes_length = max before_length (home_length e e.here)

  homes_within : homes_length ≤ longest e
  homes_within = le-max_left homes_length (most (row_length e) e.types)

  home_within : (m : ℕ) (h : Home) → env.home e m ≡ Some h → home_length e h ≤ longest e
  home_within m h = by (m == e.number)
    where
      by : (b : Bool) → (if b then Some e.here else slice_get e.before m) ≡ Some h → home_length e h ≤ longest e
      by true is =
          let own = le-max_right before_length (home_length e e.here) in
          let all = homes_within in
          subst (λ g. home_length e g ≤ longest e) (same_Some e.here h is) (omega (arith, own, all))
      by false is =
          let one = each_at (λ g. home_length e g ≤ before_length) e.before m h (each_most (home_length e) e.before) is in
          let first = le-max_left before_length (home_length e e.here) in
          let all = homes_within in
          omega (arith, one, first, all)

  -- the parameters of a procedure or a method, and of a procedure type
  pub signature_covered : (m k : ℕ) (s : Signature) → env.signature e m k ≡ Some s → AreCovered e s.parameters
  signature_covered m k s = by (env.home e m) refl
    where
      by : (o : Option Home) → env.home e m ≡ o → option_and_then (λ (h : Home). slice_get h.signatures k) o ≡ Some s → AreCovered e s.parameters
      by None home is = absurd (none-some s is)
      by (Some h) home is =
          let one = each_at (λ g. signature_length e g ≤ home_length e h) h.signatures k s (each_most (signature_length e) h.signatures) is in
          let all = home_within m h home in
          implied (λ f. value_length e f ≤ signature_length e s) (λ f. value_length e f ≤ longest e) (λ f le. omega (arith, le, one, all)) s.parameters
          (each_most (value_length e) s.parameters)

  row_covered : (t : TypeId) (s : Signature) → type_signature e t ≡ Some s → AreCovered e s.parameters
  row_covered t s = by (slice_get e.types t.0) refl
    where
      by : (o : Option TypeRow) → slice_get e.types t.0 ≡ o → row_signature o ≡ Some s → AreCovered e s.parameters
      by (Some (row.Procedure formals r)) at is =
          let one = each_at (λ x. row_length e x ≤ most (row_length e) e.types) e.types t.0 (row.Procedure formals r) (each_most (row_length e) e.types) at in
          let rows = le-max_right homes_length (most (row_length e) e.types) in
          let own : Signature = record { parameters = map formal formals; gives = given_by r; is_initializer = false } in
          subst (λ (g : Signature). AreCovered e g.parameters) (same_Some own s is)
          (mapped (λ f. value_length e f ≤ longest e) formal formals
          (implied (λ f. value_length e (formal f) ≤ most (λ g. value_length e (formal g)) formals) (λ f. value_length e (formal f) ≤ longest e)
          (λ f le. omega (arith, le, one, rows)) formals (each_most (λ g. value_length e (formal g)) formals)))
      by o at is = absurd (none-some s is)

  pub heading_covered : (h : Heading) (s : Signature) → signature_of e h ≡ Some s → AreCovered e s.parameters
  heading_covered (heading.Declared m k) s = signature_covered m k s
  heading_covered (heading.OfType t) s = row_covered t s
