-- Headings of procedures that break no rule, and what the procedures declare.
use Rattle.std.proofs.Common.{◌≡◌, ℕ, zero, suc, ◌+◌, ◌-◌, ◌<◌, ◌≤◌, ◌==◌, nat_eq, eqb-true, List, [], ◌∷◌, ◌++◌, length, map, Bool, true, false, ◌&&◌, Option, Some, None, is_some, option_map, slice_get, refl, sym, ap, ◌∙◌, subst, arith, length-append}
use Rattle.std.specs.List.{flat_map}
use Rattle.std.proofs.lemmas.Option.{none-some, same_Some}
use Rattle.std.proofs.lemmas.Bool.{cases_lt, and_parts}
use mathlib.Core.Logic.{◌⊎◌, inl, inr}
use Rattle.aos_base.specs.declared.text.Pos.{Pos}
use Rattle.aos_tree.specs.declared.decl.Decl.{Decl}
use Rattle.aos_tree.specs.declared.decl.Formals.{Formals}
use Rattle.aos_types.specs.declared.row.TypeId.{TypeId}
use Rattle.aos_types.specs.declared.signature.Gives.{Gives}
use Rattle.aos_types.specs.declared.signature.Gives.TheVariants as gives
use Rattle.aos_types.specs.declared.signature.Parameter.{Parameter}
use Rattle.aos_types.specs.declared.signature.Signature.{Signature}
use Rattle.aos_symbols.specs.declared.env.Open.{Open}
use Rattle.aos_symbols.specs.declared.env.Env.{Env}
use Rattle.aos_symbols.specs.Judged.{kept, bind, walk}
use Rattle.std.specs.Map.{lookup}
use Rattle.std.specs.Option.{option_or, is_none}
use Rattle.aos_symbols.specs.declared.home.ObjectScope.{ObjectScope}
use Rattle.aos_tree.specs.declared.decl.TypeDef.{TypeDef}
use Rattle.aos_symbols.specs.Home.{Home, object_of}
use Rattle.aos_symbols.specs.Declarations.{Procedure, procedures, inner_decls, methods_in, all_procedures, type_defs, single_variables, formal_names}
use Rattle.aos_symbols.specs.Scope.{Scope}
use Rattle.aos_members.specs.Members as members
use Rattle.aos_symbols.specs.Env as env
use Rattle.aos_symbols.proofs.Each.{Each, joined, implied}
use Rattle.aos_symbols.proofs.Holds.{Holds, holds_bind, none_left, none_right, test_is}
use Rattle.aos_check_types.specs.Methods.{definition_breaches, with_all_slots}
use Rattle.aos_check_decl.specs.Headings as judge
use Rattle.aos_check_decl.specs.Headings.{HeadingMet}
use Rattle.aos_check_types.proofs.TypingLists.{get_below, get_behind}
use Rattle.aos_check_decl.proofs.TypingScopes.{behind, variables_at, IsOutside, more_elsewhere}
use Rattle.aos_check_decl.proofs.TypingTypes.{Telling, IsSearched, IsFit, fit_beyond, IsHead, head_sound}
pub use Rattle.aos_check_decl.proofs.TypingTypes.{HasResult}
use Rattle.aos_check_decl.proofs.TypingHeadings.{HasSlot, IsGrown, IsBehind, grown_on, behind_on, grown_same, one_variable, declarations_sound, inner_sound, IsOut}

abbrev pub types_of : List Parameter → List (Option TypeId)
types_of ps = map (λ (a : Parameter). a.of) ps

parameters_grown : (c : Telling) (path : List Open) (searched : Each (IsSearched c) path) → IsOut c path searched → (ps : List Parameter) (e : Env) → IsFit c path e →
    IsGrown c path searched (types_of ps) e (judge.with_parameters e ps)
parameters_grown c path searched out [] e fit = grown_same c path searched e fit
parameters_grown c path searched out (p ∷ ps) e fit =
    let f = judge.with_variable e p.of in
    let one = one_variable c path searched out e fit p.of in
    grown_on c path searched (p.of ∷ []) (types_of ps) e f (judge.with_parameters f ps) one (parameters_grown c path searched out ps f one.fit)

module _ (c : Telling) (path : List Open) (searched : Each (IsSearched c) path) where
  open c use {Known, There, GoesTo}

  -- at a place in the scope of a procedure, which has a number behind those of types
  abbrev pub inside : ℕ → List Open
  inside k = record { home = c.number; scope = k } ∷ path

  pub inside_searched : (k : ℕ) → Each (IsSearched c) (inside k)
  inside_searched k = (inr (inl refl), searched)

  -- the procedure whose scope has this number is declared
  pub record IsMade (k : ℕ) (initializer : Option Pos) (formals : Option Formals) (ds : List Decl) (e e' : Env) : Type 0 where
    pub signature : Signature
    pub mark : signature.is_initializer ≡ is_some initializer
    pub proper : signature.is_initializer ≡ true → signature.gives ≡ gives.Nothing
    pub locals : List (Option TypeId)
    pub signatures : e'.here.signatures ≡ e.here.signatures ++ signature ∷ []
    pub others : (j : ℕ) → (j ≡ k → ⊥) → IsOutside (suc c.inner) j → variables_at e'.here.scopes j ≡ variables_at e.here.scopes j
    pub own : variables_at e'.here.scopes k ≡ option_map (behind (types_of signature.parameters ++ locals)) (variables_at e.here.scopes k)
    pub there : Each (λ (a : Parameter). There e'.types a.of) signature.parameters
    pub count : length signature.parameters ≡ length (formal_names formals)
    pub known : Each (Known e'.types) locals
    pub all : length locals ≡ length (single_variables ds)
    pub result : (of : Option TypeId) → signature.gives ≡ gives.Value of → Known e'.types of × HasResult formals
    pub fit : IsFit c path e'
    pub goes : GoesTo e.types e'.types
    pub long : length e'.types + length e.places ≡ length e.types + length e'.places

  -- The types that object types declare, in their scopes.

  no_length : (xs : List (Option TypeId)) → length xs ≡ 0 → xs ≡ []
  no_length [] none = refl
  no_length (x ∷ xs) none = absurd (omega (arith, none))

  is_inside : (k : ℕ) → 0 < k → (k == 0) ≡ false
  is_inside k low = by (k == 0) refl
    where
      by : (b : Bool) → (k == 0) ≡ b → (k == 0) ≡ false
      by true is = let e = eqb-true k 0 is in absurd (omega (arith, e, low))
      by false is = is

  types_within_sound : env.innermost path ≡ 0 → (k : ℕ) → 0 < k → k ≤ c.inner → (ds : List Decl) → Each (HasSlot c (inside k)) (type_defs ds) → (e : Env) → IsFit c path e →
      Holds (IsGrown c path searched [] e) (judge.types_within e k ds)
  types_within_sound own k low high ds slots e fit =
      let f = env.within e k in
      let f_fit : IsFit c (inside k) f = record {
        number_is = fit.number_is;
        before_is = fit.before_is;
        name_is = fit.name_is;
        text_is = fit.text_is;
        first_is = fit.first_is;
        names_are = fit.names_are;
        path_is = (λ i. record { home = fit.number_is i; scope = k } ∷ fit.path_is i);
        narrowed_is = fit.narrowed_is;
        good = fit.good;
        table = fit.table;
        agrees = fit.agrees;
        objects_is = fit.objects_is;
        filled = fit.filled;
      } in
      holds_bind (IsBehind c (inside k) (inside_searched k) 0 f) (IsGrown c path searched [] e) (walk judge.inner_declared f ds) (λ x. kept (env.back_at e.path x))
      (inner_sound c (inside k) (inside_searched k) (is_inside k low) ds slots f f_fit)
      (λ x two none. back x (subst (λ more. IsGrown c (inside k) (inside_searched k) more f x) (no_length two.more two.count) two.grown))
    where
      inner : IsOutside e.here.first k → ⊥
      inner (inl own) = omega (arith, own, low)
      inner (inr behind) = let first = fit.first_is in omega (arith, behind, first, high)

      back : (x : Env) → IsGrown c (inside k) (inside_searched k) [] (env.within e k) x → IsGrown c path searched [] e (env.back_at e.path x)
      back x grown = record {
        here = more_elsewhere (env.innermost path) k e.here x.here grown.here (inl own) inner;
        fit = record {
          number_is = grown.fit.number_is;
          before_is = grown.fit.before_is;
          name_is = grown.fit.name_is;
          text_is = grown.fit.text_is;
          first_is = grown.fit.first_is;
          names_are = grown.fit.names_are;
          path_is = fit.path_is;
          narrowed_is = grown.fit.narrowed_is;
          good = grown.fit.good;
          table = grown.fit.table;
          agrees = grown.fit.agrees;
          objects_is = grown.fit.objects_is;
          filled = grown.fit.filled;
        };
        goes = grown.goes;
        long = grown.long;
      }

  -- the numbers of all types that they declare are of definitions
  abbrev pub AreInnerSlotted : ℕ → List TypeDef → Type 0
  AreInnerSlotted k [] = Unit {0}
  AreInnerSlotted k (d ∷ ds) = Each (HasSlot c (inside k)) (type_defs (inner_decls d.value)) × AreInnerSlotted (suc k) ds

  inner_from_sound : env.innermost path ≡ 0 → (ds : List TypeDef) (k : ℕ) → 0 < k → k + length ds ≤ suc c.inner → AreInnerSlotted k ds → (e : Env) → IsFit c path e →
      Holds (IsGrown c path searched [] e) (judge.inner_from e k ds)
  inner_from_sound own [] k low high slots e fit = λ h. grown_same c path searched e fit
  inner_from_sound own (d ∷ ds) k low high slots e fit =
      holds_bind (IsGrown c path searched [] e) (IsGrown c path searched [] e) (judge.types_within e k (inner_decls d.value)) (λ f. judge.inner_from f (suc k) ds)
      (types_within_sound own k low (omega (arith, high)) (inner_decls d.value) slots.0 e fit)
      (λ f one h. grown_on c path searched [] [] e f (judge.inner_from f (suc k) ds).answer one
      (inner_from_sound own ds (suc k) (omega arith) (omega (arith, high)) slots.1 f one.fit h))

  -- behind all that it declares
  ended : (k : ℕ) (own : c.inner < k) (initializer : Option Pos) (formals : Option Formals) (ds : List Decl) (e : Env) → IsFit c path e → (h : HeadingMet) → IsHead c path searched e formals h →
      h.signature.is_initializer ≡ is_some initializer → (h.signature.is_initializer ≡ true → h.signature.gives ≡ gives.Nothing) →
      (x : Env) (locals : List (Option TypeId)) → length locals ≡ length (single_variables ds) → Each (Known x.types) locals →
      IsGrown c (inside k) (inside_searched k) (types_of h.signature.parameters ++ locals) (env.within (judge.with_signature h.env h.signature) k) x →
      IsMade k initializer formals ds e (env.back_at h.env.path x)
  ended k own initializer formals ds e fit h head mark proper x locals all known grown =
      let m = head.beyond.long in
      let n = grown.long in
      record {
        signature = h.signature;
        mark = mark;
        proper = proper;
        locals = locals;
        signatures = grown.here.signatures ∙ ap (λ (ss : List Signature). ss ++ h.signature ∷ []) head.beyond.signatures;
        others = λ j other outside. grown.here.others j other (subst (λ n. IsOutside n j) (sym (head.beyond.first ∙ fit.first_is)) outside)
            ∙ ap (λ (ss : List Scope). variables_at ss j) head.beyond.scopes;
        own = grown.here.own ∙ ap (λ (ss : List Scope). option_map (behind (types_of h.signature.parameters ++ locals)) (variables_at ss k)) head.beyond.scopes;
        there = implied (λ (a : Parameter). There h.env.types a.of) (λ (a : Parameter). There x.types a.of)
            (λ a there. c.there_on h.env.types x.types grown.goes a.of there) h.signature.parameters head.there;
        count = head.count;
        known = known;
        all = all;
        result = λ of value. (let r = head.result of value in (c.known_on h.env.types x.types grown.goes of r.0, r.1));
        fit = record {
          number_is = grown.fit.number_is;
          before_is = grown.fit.before_is;
          name_is = grown.fit.name_is;
          text_is = grown.fit.text_is;
          first_is = grown.fit.first_is;
          names_are = grown.fit.names_are;
          path_is = head.beyond.path ∙ fit.path_is;
          narrowed_is = grown.fit.narrowed_is;
          good = grown.fit.good;
          table = grown.fit.table;
          agrees = grown.fit.agrees;
          objects_is = grown.fit.objects_is;
          filled = grown.fit.filled;
        };
        goes = c.on e.types h.env.types x.types head.beyond.goes grown.goes;
        long = omega (arith, m, n);
      }

  locals_sound : (k : ℕ) (own : c.inner < k) (initializer : Option Pos) (formals : Option Formals) (ds : List Decl) → Each (HasSlot c (inside k)) (type_defs ds) →
      (e : Env) → IsFit c path e → (h : HeadingMet) → IsHead c path searched e formals h → h.signature.is_initializer ≡ is_some initializer →
      (h.signature.is_initializer ≡ true → h.signature.gives ≡ gives.Nothing) → Holds (IsMade k initializer formals ds e) (judge.locals_in k h ds)
  locals_sound k own initializer formals ds slots e fit h head mark proper =
      let s = h.signature in
      let f = env.within (judge.with_signature h.env s) k in
      let g = judge.with_parameters f s.parameters in
      let deeper = inside_searched k in
      let out = fit_beyond c path e h.env fit head.beyond in
      let f_fit : IsFit c (inside k) f = record {
        number_is = out.number_is;
        before_is = out.before_is;
        name_is = out.name_is;
        text_is = out.text_is;
        first_is = out.first_is;
        names_are = out.names_are;
        path_is = (λ i. record { home = out.number_is i; scope = k } ∷ out.path_is i);
        narrowed_is = out.narrowed_is;
        good = out.good;
        table = out.table;
        agrees = out.agrees;
        objects_is = out.objects_is;
        filled = out.filled;
      } in
      let one = parameters_grown c (inside k) deeper (inr own) s.parameters f f_fit in
      holds_bind (IsBehind c (inside k) deeper (length (single_variables ds)) g) (IsMade k initializer formals ds e) (walk judge.declared g ds) (λ x. kept (env.back_at h.env.path x))
      (declarations_sound c (inside k) deeper (inr own) ds slots g one.fit)
      (λ x two none. ended k own initializer formals ds e fit h head mark proper x two.more two.count two.known (grown_on c (inside k) deeper (types_of s.parameters) two.more f g x one two.grown))

  -- an initializer is no function
  marked_head : (e : Env) (initializer : Option Pos) (formals : Option Formals) (h : HeadingMet) → IsHead c path searched e formals h →
      IsHead c path searched e formals (judge.marked initializer h)
  marked_head e initializer formals h head = record { beyond = head.beyond; there = head.there; count = head.count; result = head.result }

  no_result : (formals : Option Formals) → HasResult formals → is_none (judge.result_in formals) ≡ true → ⊥
  no_result formals r none = let e : false ≡ true = sym (ap (λ o. is_none o) (ap judge.result_in r.is ∙ r.result)) ∙ none in cc

  gives_nothing : (formals : Option Formals) (g : Gives) → ((of : Option TypeId) → g ≡ gives.Value of → HasResult formals) → is_none (judge.result_in formals) ≡ true →
      g ≡ gives.Nothing
  gives_nothing formals gives.Nothing has none = refl
  gives_nothing formals (gives.Value of) has none = absurd (no_result formals (has of refl) none)

  marked_proper : (e : Env) (may_stand : Bool) (initializer : Option Pos) (formals : Option Formals) → judge.initializer_breaches may_stand initializer formals ≡ [] → (h : HeadingMet) →
      IsHead c path searched e formals h → is_some initializer ≡ true → h.signature.gives ≡ gives.Nothing
  marked_proper e may_stand None formals none h head is = let never : false ≡ true = is in absurd (cc)
  marked_proper e may_stand (Some at) formals none h head is =
      gives_nothing formals h.signature.gives (λ of value. (head.result of value).1)
      (and_parts may_stand (is_none (judge.result_in formals)) (test_is (may_stand && is_none (judge.result_in formals)) 24 at none)).1

  procedure_sound : (may_stand : Bool) (k : ℕ) (own : c.inner < k) (initializer : Option Pos) (formals : Option Formals) (ds : List Decl) →
      Each (HasSlot c (inside k)) (type_defs ds) →
      (e : Env) → IsFit c path e → Holds (IsMade k initializer formals ds e) (judge.procedure may_stand e k initializer formals ds)
  procedure_sound may_stand k own initializer formals ds slots e fit none =
      let rest = λ (h : HeadingMet). judge.locals_in k (judge.marked initializer h) ds in
      let rule = judge.initializer_breaches may_stand initializer formals in
      let behind = (bind (judge.formals_in e formals) rest).breaches in
      holds_bind (IsHead c path searched e formals) (IsMade k initializer formals ds e) (judge.formals_in e formals) rest (head_sound c path searched e fit formals)
      (λ h head. locals_sound k own initializer formals ds slots e fit (judge.marked initializer h) (marked_head e initializer formals h head) refl
      (marked_proper e may_stand initializer formals (none_left rule behind none) h head))
      (none_right rule behind none)

  -- Procedures one after another.

  -- the numbers of all types that they declare are of definitions
  abbrev pub AreSlotted : ℕ → List Procedure → Type 0
  AreSlotted k [] = Unit {0}
  AreSlotted k (p ∷ ps) = Each (HasSlot c (inside k)) (type_defs p.decls) × AreSlotted (suc k) ps

  pub record HasMade (k : ℕ) (e e' : Env) (j : ℕ) (p : Procedure) : Type 0 where
    pub signature : Signature
    pub mark : signature.is_initializer ≡ is_some p.initializer
    pub proper : signature.is_initializer ≡ true → signature.gives ≡ gives.Nothing
    pub locals : List (Option TypeId)
    pub signature_is : slice_get e'.here.signatures (length e.here.signatures + j) ≡ Some signature
    pub own : variables_at e'.here.scopes (k + j) ≡ option_map (behind (types_of signature.parameters ++ locals)) (variables_at e.here.scopes (k + j))
    pub there : Each (λ (a : Parameter). There e'.types a.of) signature.parameters
    pub count : length signature.parameters ≡ length (formal_names p.formals)
    pub known : Each (Known e'.types) locals
    pub all : length locals ≡ length (single_variables p.decls)
    pub result : (of : Option TypeId) → signature.gives ≡ gives.Value of → Known e'.types of × HasResult p.formals

  pub record AreMade (k : ℕ) (ps : List Procedure) (e e' : Env) : Type 0 where
    pub made : (j : ℕ) (p : Procedure) → slice_get ps j ≡ Some p → HasMade k e e' j p
    pub before : (j : ℕ) → j < length e.here.signatures → slice_get e'.here.signatures j ≡ slice_get e.here.signatures j
    pub count : length e'.here.signatures ≡ length e.here.signatures + length ps
    pub others : (j : ℕ) → j < k → IsOutside (suc c.inner) j → variables_at e'.here.scopes j ≡ variables_at e.here.scopes j
    pub after : (j : ℕ) → k + length ps ≤ j → IsOutside (suc c.inner) j → variables_at e'.here.scopes j ≡ variables_at e.here.scopes j
    pub fit : IsFit c path e'
    pub goes : GoesTo e.types e'.types
    pub long : length e'.types + length e.places ≡ length e.types + length e'.places

  no_procedures : (k : ℕ) (e : Env) → IsFit c path e → AreMade k [] e e
  no_procedures k e fit = record {
    made = λ j p is. absurd (none-some p is);
    before = λ j below. refl;
    count = omega arith;
    others = λ j below outside. refl;
    after = λ j above outside. refl;
    fit = fit;
    goes = c.stays e.types;
    long = refl;
  }

  module _ (k : ℕ) (own : c.inner < k) (p : Procedure) (ps : List Procedure) (e f g : Env) (one : IsMade k p.initializer p.formals p.decls e f) (two : AreMade (suc k) ps f g) where
    longer : length f.here.signatures ≡ length e.here.signatures + 1
    longer = ap length one.signatures ∙ length-append e.here.signatures (one.signature ∷ [])

    first_signature : (n : ℕ) → n ≡ length e.here.signatures + 0 → slice_get g.here.signatures n ≡ Some one.signature
    first_signature n is =
        two.before n (omega (arith, is, longer)) ∙ ap (λ ss. slice_get ss n) one.signatures ∙ ap (slice_get (e.here.signatures ++ one.signature ∷ [])) is
        ∙ get_behind e.here.signatures (one.signature ∷ []) 0

    first_own : (n : ℕ) → n ≡ k → variables_at g.here.scopes n ≡ option_map (behind (types_of one.signature.parameters ++ one.locals)) (variables_at e.here.scopes n)
    first_own n is =
        two.others n (omega (arith, is)) (inr (omega (arith, own, is)))
        ∙ subst (λ m. variables_at f.here.scopes m ≡ option_map (behind (types_of one.signature.parameters ++ one.locals)) (variables_at e.here.scopes m)) (sym is) one.own

    first_made : HasMade k e g 0 p
    first_made = record {
      signature = one.signature;
      mark = one.mark;
      proper = one.proper;
      locals = one.locals;
      signature_is = first_signature (length e.here.signatures + 0) refl;
      own = first_own (k + 0) (omega arith);
      there = implied (λ (a : Parameter). There f.types a.of) (λ (a : Parameter). There g.types a.of) (λ a there. c.there_on f.types g.types two.goes a.of there) one.signature.parameters one.there;
      count = one.count;
      known = implied (Known f.types) (Known g.types) (c.known_on f.types g.types two.goes) one.locals one.known;
      all = one.all;
      result = λ of value. (let r = one.result of value in (c.known_on f.types g.types two.goes of r.0, r.1));
    }

    next_made : (j : ℕ) (q : Procedure) → HasMade (suc k) f g j q → HasMade k e g (suc j) q
    next_made j q is =
        let number : length f.here.signatures + j ≡ length e.here.signatures + suc j = omega (arith, longer) in
        let scope : suc k + j ≡ k + suc j = omega arith in
        record {
          signature = is.signature;
          mark = is.mark;
          proper = is.proper;
          locals = is.locals;
          signature_is = ap (slice_get g.here.signatures) (sym number) ∙ is.signature_is;
          own = subst (λ n. variables_at g.here.scopes n ≡ option_map (behind (types_of is.signature.parameters ++ is.locals)) (variables_at e.here.scopes n)) scope
              (is.own ∙ ap (option_map (behind (types_of is.signature.parameters ++ is.locals))) (one.others (suc k + j) (λ same. beyond same) (inr (omega (arith, own)))));
          there = is.there;
          count = is.count;
          known = is.known;
          all = is.all;
          result = is.result;
        }
      where
        beyond : suc k + j ≡ k → ⊥
        beyond same = omega (arith, same)

    more_made : AreMade k (p ∷ ps) e g
    more_made =
        let m = one.long in
        let n = two.long in
        let count = two.count in
        record {
          made = made;
          before = λ j below. two.before j (omega (arith, below, longer)) ∙ ap (λ ss. slice_get ss j) one.signatures ∙ get_below e.here.signatures (one.signature ∷ []) j below;
          count = omega (arith, count, longer);
          others = λ j below outside. two.others j (omega (arith, below)) outside ∙ one.others j (λ same. differ j below same) outside;
          after = λ j above outside. two.after j (omega (arith, above)) outside ∙ one.others j (λ same. later j above same) outside;
          fit = two.fit;
          goes = c.on e.types f.types g.types one.goes two.goes;
          long = omega (arith, m, n);
        }
      where
        later : (j : ℕ) → k + length (p ∷ ps) ≤ j → j ≡ k → ⊥
        later j above same = omega (arith, above, same)

        differ : (j : ℕ) → j < k → j ≡ k → ⊥
        differ j below same = omega (arith, below, same)

        made : (j : ℕ) (q : Procedure) → slice_get (p ∷ ps) j ≡ Some q → HasMade k e g j q
        made zero q is = subst (HasMade k e g 0) (same_Some p q is) first_made
        made (suc j) q is = next_made j q (two.made j q is)

  procedures_sound : (may_stand : Bool) (ps : List Procedure) (k : ℕ) → c.inner < k → AreSlotted k ps → (e : Env) → IsFit c path e → Holds (AreMade k ps e) (judge.procedures_from may_stand e k ps)
  procedures_sound may_stand [] k own slots e fit = λ h. no_procedures k e fit
  procedures_sound may_stand (p ∷ ps) k own slots e fit =
      let further = may_stand && is_none p.initializer in
      holds_bind (IsMade k p.initializer p.formals p.decls e) (AreMade k (p ∷ ps) e) (judge.procedure may_stand e k p.initializer p.formals p.decls) (λ f. judge.procedures_from further f (suc k) ps)
      (procedure_sound may_stand k own p.initializer p.formals p.decls slots.0 e fit)
      (λ f one h. more_made k own p ps e f (judge.procedures_from further f (suc k) ps).answer one (procedures_sound further ps (suc k) (omega (arith, own)) slots.1 f one.fit h))

  -- Procedures, and others behind them.

  module _ (k : ℕ) (own : c.inner < k) (ps qs : List Procedure) (e f g : Env) (one : AreMade k ps e f) (two : AreMade (k + length ps) qs f g) where
    both_longer : length f.here.signatures ≡ length e.here.signatures + length ps
    both_longer = one.count

    front_made : (j : ℕ) (p : Procedure) → j < length ps → HasMade k e f j p → HasMade k e g j p
    front_made j p below is = record {
      signature = is.signature;
      mark = is.mark;
      proper = is.proper;
      locals = is.locals;
      signature_is = two.before (length e.here.signatures + j) (omega (arith, below, both_longer)) ∙ is.signature_is;
      own = two.others (k + j) (omega (arith, below)) (inr (omega (arith, own))) ∙ is.own;
      there = implied (λ (a : Parameter). There f.types a.of) (λ (a : Parameter). There g.types a.of) (λ a there. c.there_on f.types g.types two.goes a.of there) is.signature.parameters is.there;
      count = is.count;
      known = implied (Known f.types) (Known g.types) (c.known_on f.types g.types two.goes) is.locals is.known;
      all = is.all;
      result = λ of value. (let r = is.result of value in (c.known_on f.types g.types two.goes of r.0, r.1));
    }

    back_made : (j : ℕ) (p : Procedure) → HasMade (k + length ps) f g j p → HasMade k e g (length ps + j) p
    back_made j p is =
        let number : length f.here.signatures + j ≡ length e.here.signatures + (length ps + j) = omega (arith, both_longer) in
        let scope : (k + length ps) + j ≡ k + (length ps + j) = omega arith in
        record {
          signature = is.signature;
          mark = is.mark;
          proper = is.proper;
          locals = is.locals;
          signature_is = ap (slice_get g.here.signatures) (sym number) ∙ is.signature_is;
          own = subst (λ n. variables_at g.here.scopes n ≡ option_map (behind (types_of is.signature.parameters ++ is.locals)) (variables_at e.here.scopes n)) scope
              (is.own ∙ ap (option_map (behind (types_of is.signature.parameters ++ is.locals))) (one.after ((k + length ps) + j) (omega arith) (inr (omega (arith, own)))));
          there = is.there;
          count = is.count;
          known = is.known;
          all = is.all;
          result = is.result;
        }

    both_made : AreMade k (ps ++ qs) e g
    both_made =
        let m = one.long in
        let n = two.long in
        let count = two.count in
        record {
          made = made;
          before = λ j below. two.before j (omega (arith, below, both_longer)) ∙ one.before j below;
          count = omega (arith, count, both_longer, length-append ps qs);
          others = λ j below outside. two.others j (omega (arith, below)) outside ∙ one.others j below outside;
          after = λ j above outside. two.after j (omega (arith, above, length-append ps qs)) outside ∙ one.after j (omega (arith, above, length-append ps qs)) outside;
          fit = two.fit;
          goes = c.on e.types f.types g.types one.goes two.goes;
          long = omega (arith, m, n);
        }
      where
        made : (j : ℕ) (p : Procedure) → slice_get (ps ++ qs) j ≡ Some p → HasMade k e g j p
        made j p is = by (cases_lt j (length ps))
          where
            by : (j < length ps) ⊎ (length ps ≤ j) → HasMade k e g j p
            by (inl below) = front_made j p below (one.made j p (sym (get_below ps qs j below) ∙ is))
            by (inr high) =
                let number : length ps + (j - length ps) ≡ j = omega (arith, high) in
                subst (λ n. HasMade k e g n p) number
                (back_made (j - length ps) p (two.made (j - length ps) p (sym (get_behind ps qs (j - length ps)) ∙ ap (slice_get (ps ++ qs)) number ∙ is)))

-- Methods: the scopes of object types are searched, of this module and of others.

module _ (c : Telling) (path : List Open) (searched : Each (IsSearched c) path) where
  among_is : (hs : List Home) (t : TypeId) (o : ObjectScope) → members.object_among hs t ≡ Some o →
      (j : ℕ) × (h : Home) × (slice_get hs j ≡ Some h) × (object_of h t ≡ Some o)
  among_is [] t o is = absurd (none-some o is)
  among_is (h ∷ hs) t o is = by (object_of h t) refl is (among_is hs t o)
    where
      by : (x : Option ObjectScope) → object_of h t ≡ x → option_or x (members.object_among hs t) ≡ Some o →
          (members.object_among hs t ≡ Some o → (j : ℕ) × (g : Home) × (slice_get hs j ≡ Some g) × (object_of g t ≡ Some o)) →
          (j : ℕ) × (g : Home) × (slice_get (h ∷ hs) j ≡ Some g) × (object_of g t ≡ Some o)
      by None here is more = let r = more is in (suc r.0, r.1, r.2, r.3)
      by (Some x) here is more = (0, h, refl, here ∙ is)

  object_place : (e : Env) → IsFit c path e → (t : TypeId) (o : ObjectScope) → members.object e t ≡ Some o → IsSearched c (members.object_place o)
  object_place e fit t o is = by (object_of e.here t) refl is
    where
      others : members.object_among e.before t ≡ Some o → IsSearched c (members.object_place o)
      others found =
          let r = among_is e.before t o found in
          let there : slice_get c.before r.0 ≡ Some r.1 = ap (λ hs. slice_get hs r.0) (sym fit.before_is) ∙ r.2 in
          let p = c.others_objects r.0 r.1 t o there r.3 in
          inr (inr (λ h at. subst (λ (h : Home). o.scope < h.first) (same_Some r.1 h (sym there ∙ ap (slice_get c.before) (sym p.0) ∙ at)) p.1))

      by : (x : Option ObjectScope) → object_of e.here t ≡ x → option_or x (members.object_among e.before t) ≡ Some o → IsSearched c (members.object_place o)
      by None here is = others is
      by (Some x) here is =
          let same = same_Some x o is in
          inr (inl (c.homes t o (ap (lookup (λ k. nat_eq t.0 k)) (sym fit.objects_is) ∙ here ∙ ap (λ z. Some z) same)))

  object_path_searched : (e : Env) → IsFit c path e → (ts : List TypeId) → Each (IsSearched c) (members.object_path e ts)
  object_path_searched e fit [] = tt
  object_path_searched e fit (t ∷ ts) =
      joined (IsSearched c) (members.opened e (members.object e t)) (members.object_path e ts) (one (members.object e t) refl) (object_path_searched e fit ts)
    where
      one : (x : Option ObjectScope) → members.object e t ≡ x → Each (IsSearched c) (members.opened e x)
      one None is = tt
      one (Some o) is = (object_place e fit t o is, tt)

  -- wherever they stand
  abbrev pub AreSlottedAll : ℕ → List Procedure → Type 0
  AreSlottedAll k ps = (path : List Open) (searched : Each (IsSearched c) path) → AreSlotted c path searched k ps

  -- the methods of one type
  type_methods_sound : (e : Env) → IsFit c path e → (d : TypeDef) (k : ℕ) → c.inner < k → AreSlottedAll k (methods_in d) →
      Holds (AreMade c path searched k (methods_in d) e) (judge.type_methods e k d)
  type_methods_sound e fit d k own slots = by (judge.defined_type e d)
    where
      back : (path' : List Open) (searched' : Each (IsSearched c) path') (e' f : Env) → e'.here ≡ e.here → e'.types ≡ e.types → e'.places ≡ e.places →
          AreMade c path' searched' k (methods_in d) e' f → AreMade c path searched k (methods_in d) e (members.outside e.path f)
      back path' searched' e' f here types places are = record {
        made = λ j p is. (let x = are.made j p is in record {
          signature = x.signature;
          mark = x.mark;
          proper = x.proper;
          locals = x.locals;
          signature_is = ap (λ (h : Home). slice_get f.here.signatures (length h.signatures + j)) (sym here) ∙ x.signature_is;
          own = x.own ∙ ap (λ (h : Home). option_map (behind (types_of x.signature.parameters ++ x.locals)) (variables_at h.scopes (k + j))) here;
          there = x.there;
          count = x.count;
          known = x.known;
          all = x.all;
          result = x.result;
        });
        before = λ j below. are.before j (subst (λ (h : Home). j < length h.signatures) (sym here) below) ∙ ap (λ (h : Home). slice_get h.signatures j) here;
        count = are.count ∙ ap (λ (h : Home). length h.signatures + length (methods_in d)) here;
        others = λ j below outside. are.others j below outside ∙ ap (λ (h : Home). variables_at h.scopes j) here;
        after = λ j above outside. are.after j above outside ∙ ap (λ (h : Home). variables_at h.scopes j) here;
        fit = record {
          number_is = are.fit.number_is;
          before_is = are.fit.before_is;
          name_is = are.fit.name_is;
          text_is = are.fit.text_is;
          first_is = are.fit.first_is;
          names_are = are.fit.names_are;
          path_is = fit.path_is;
          narrowed_is = are.fit.narrowed_is;
          good = are.fit.good;
          table = are.fit.table;
          agrees = are.fit.agrees;
          objects_is = are.fit.objects_is;
          filled = are.fit.filled;
        };
        goes = subst (λ us. c.GoesTo us f.types) types are.goes;
        long = ap (λ ps. length f.types + length ps) (sym places) ∙ are.long ∙ ap (λ us. length us + length f.places) types;
      }

      at : (path' : List Open) (searched' : Each (IsSearched c) path') (e' : Env) → IsFit c path' e' → e'.here ≡ e.here → e'.types ≡ e.types → e'.places ≡ e.places →
          Holds (AreMade c path searched k (methods_in d) e) (bind (judge.procedures_from true e' k (methods_in d)) (λ f. kept (members.outside e.path f)))
      at path' searched' e' fit' here types places =
          holds_bind (AreMade c path' searched' k (methods_in d) e') (AreMade c path searched k (methods_in d) e) (judge.procedures_from true e' k (methods_in d)) (λ f. kept (members.outside e.path f))
          (procedures_sound c path' searched' true (methods_in d) k own (slots path' searched') e' fit')
          (λ f are h. back path' searched' e' f here types places are)

      within : (t : TypeId) → IsFit c (members.object_path e (members.chain e.types t) ++ path) (members.within_object e t)
      within t = record {
        number_is = fit.number_is;
        before_is = fit.before_is;
        name_is = fit.name_is;
        text_is = fit.text_is;
        first_is = fit.first_is;
        names_are = fit.names_are;
        path_is = ap (λ os. members.object_path e (members.chain e.types t) ++ os) fit.path_is;
        narrowed_is = fit.narrowed_is;
        good = fit.good;
        table = fit.table;
        agrees = fit.agrees;
        objects_is = fit.objects_is;
        filled = fit.filled;
      }

      by : (o : Option TypeId) → Holds (AreMade c path searched k (methods_in d) e) (bind (judge.procedures_from true (judge.within_type e o) k (methods_in d)) (λ f. kept (members.outside e.path f)))
      by None = at path searched e fit refl refl refl
      by (Some t) =
          at (members.object_path e (members.chain e.types t) ++ path)
          (joined (IsSearched c) (members.object_path e (members.chain e.types t)) path (object_path_searched e fit (members.chain e.types t)) searched)
          (members.within_object e t) (within t) refl refl refl

  -- and of types in turn
  slots_front : (k : ℕ) (ps qs : List Procedure) → AreSlottedAll k (ps ++ qs) → AreSlottedAll k ps
  slots_front k [] qs all path searched = tt
  slots_front k (p ∷ ps) qs all path searched = ((all path searched).0, slots_front (suc k) ps qs (λ path searched. (all path searched).1) path searched)

  slots_back : (k : ℕ) (ps qs : List Procedure) → AreSlottedAll k (ps ++ qs) → AreSlottedAll (k + length ps) qs
  slots_back k [] qs all path searched = subst (λ n. AreSlotted c path searched n qs) (let same : k ≡ k + 0 = omega arith in same) (all path searched)
  slots_back k (p ∷ ps) qs all path searched =
      subst (λ n. AreSlotted c path searched n qs) (let same : suc k + length ps ≡ k + suc (length ps) = omega arith in same)
      (slots_back (suc k) ps qs (λ path searched. (all path searched).1) path searched)

  methods_sound : (ds : List TypeDef) (k : ℕ) → c.inner < k → AreSlottedAll k (flat_map methods_in ds) → (e : Env) → IsFit c path e →
      Holds (AreMade c path searched k (flat_map methods_in ds) e) (judge.methods_from e k ds)
  methods_sound [] k own slots e fit = λ h. no_procedures c path searched k e fit
  methods_sound (d ∷ ds) k own slots e fit =
      let ps = methods_in d in
      let qs = flat_map methods_in ds in
      holds_bind (AreMade c path searched k ps e) (AreMade c path searched k (ps ++ qs) e) (judge.type_methods e k d) (λ f. judge.methods_from f (k + length ps) ds)
      (type_methods_sound e fit d k own (slots_front k ps qs slots))
      (λ f one h. both_made c path searched k own ps qs e f (judge.methods_from f (k + length ps) ds).answer one
      (methods_sound ds (k + length ps) (omega (arith, own)) (slots_back k ps qs slots) f one.fit h))

module _ (c : Telling) (path : List Open) (searched : Each (IsSearched c) path) where
  open c use {Known, There, GoesTo}

  -- All declarations of a module: the variables of its own scope, and what its procedures and methods declare.

  pub record IsHeaded (ds : List Decl) (e e' : Env) : Type 0 where
    pub variables : List (Option TypeId)
    pub count : length variables ≡ length (single_variables ds)
    pub known : Each (Known e'.types) variables
    pub own : variables_at e'.here.scopes 0 ≡ option_map (behind variables) (variables_at e.here.scopes 0)
    pub made : (j : ℕ) (p : Procedure) → slice_get (all_procedures ds) j ≡ Some p → HasMade c path searched (suc (length (type_defs ds))) e e' j p
    pub signatures : length e'.here.signatures ≡ length e.here.signatures + length (all_procedures ds)
    pub fit : IsFit c path e'
    pub goes : GoesTo e.types e'.types
    pub long : length e'.types + length e.places ≡ length e.types + length e'.places
    pub overrides : flat_map (definition_breaches e') (type_defs ds) ≡ []
    pub before_slots : Env
    pub slots : e' ≡ with_all_slots before_slots (type_defs ds)

  module _ (own_scope : env.innermost path ≡ 0) (ds : List Decl) (inner : c.inner ≡ length (type_defs ds)) (e f g : Env)
      (one : IsBehind c path searched (length (single_variables ds)) e f)
      (two : AreMade c path searched (suc (length (type_defs ds))) (all_procedures ds) f g) (none : (judge.overriding g (type_defs ds)).breaches ≡ []) where
    abbrev first : ℕ
    first = suc (length (type_defs ds))

    abbrev last : Env
    last = with_all_slots g (type_defs ds)

    not_own : (j : ℕ) → j ≡ env.innermost path → j ≡ 0
    not_own j is = is ∙ own_scope

    all_own : variables_at g.here.scopes 0 ≡ option_map (behind one.more) (variables_at e.here.scopes 0)
    all_own =
        two.others 0 (omega arith) (inl refl)
        ∙ subst (λ k. variables_at f.here.scopes k ≡ option_map (behind one.more) (variables_at e.here.scopes k)) own_scope one.grown.here.own

    made_from : IsFit c path e → (j : ℕ) (p : Procedure) → HasMade c path searched first f g j p → HasMade c path searched first e last j p
    made_from fit j p is = record {
      signature = is.signature;
      mark = is.mark;
      proper = is.proper;
      locals = is.locals;
      signature_is = ap (λ (ss : List Signature). slice_get g.here.signatures (length ss + j)) (sym one.grown.here.signatures) ∙ is.signature_is;
      own = is.own ∙ ap (option_map (behind (types_of is.signature.parameters ++ is.locals)))
          (one.grown.here.others (first + j) (λ same. positive (not_own (first + j) same)) (inr (let a = fit.first_is in omega (arith, a, inner))));
      there = is.there;
      count = is.count;
      known = is.known;
      all = is.all;
      result = is.result;
    }
      where
        positive : first + j ≡ 0 → ⊥
        positive same = omega (arith, same)

    headed : IsFit c path e → IsHeaded ds e last
    headed fit =
        let m = one.grown.long in
        let n = two.long in
        record {
          variables = one.more;
          count = one.count;
          known = implied (Known f.types) (Known g.types) (c.known_on f.types g.types two.goes) one.more one.known;
          own = all_own;
          made = λ j p is. made_from fit j p (two.made j p is);
          signatures = two.count ∙ ap (λ (ss : List Signature). length ss + length (all_procedures ds)) one.grown.here.signatures;
          fit = record {
            number_is = two.fit.number_is;
            before_is = two.fit.before_is;
            name_is = two.fit.name_is;
            text_is = two.fit.text_is;
            first_is = two.fit.first_is;
            names_are = two.fit.names_are;
            path_is = two.fit.path_is;
            narrowed_is = two.fit.narrowed_is;
            good = two.fit.good;
            table = two.fit.table;
            agrees = two.fit.agrees;
            objects_is = two.fit.objects_is;
            filled = two.fit.filled;
          };
          goes = c.on e.types f.types g.types one.grown.goes two.goes;
          long = omega (arith, m, n);
          overrides = none;
          before_slots = g;
          slots = refl;
        }

  pub headings_sound : env.innermost path ≡ 0 → (ds : List Decl) → c.inner ≡ length (type_defs ds) → Each (HasSlot c path) (type_defs ds) →
      AreInnerSlotted c path searched 1 (type_defs ds) → AreSlottedAll c path searched (suc (length (type_defs ds))) (all_procedures ds) →
      (e : Env) → IsFit c path e → Holds (IsHeaded ds e) (judge.headings e ds)
  headings_sound own_scope ds inner slots type_slots inner_slots e fit =
      let first = suc (length (type_defs ds)) in
      let n = length (single_variables ds) in
      let ps = procedures ds in
      let qs = flat_map methods_in (type_defs ds) in
      let behind_procedures = λ (f : Env). bind (judge.methods_from f (first + length ps) (type_defs ds)) (λ g. judge.overriding g (type_defs ds)) in
      let behind_types = λ (f : Env). bind (judge.procedures_from false f first ps) behind_procedures in
      let own : c.inner < first = omega (arith, inner) in
      let same : n + 0 ≡ n = omega arith in
      holds_bind (IsBehind c path searched n e) (IsHeaded ds e) (walk judge.declared e ds) (λ f. bind (judge.inner_from f 1 (type_defs ds)) behind_types)
      (declarations_sound c path searched (inl own_scope) ds slots e fit)
      (λ w start h. holds_bind (IsGrown c path searched [] w) (IsHeaded ds e) (judge.inner_from w 1 (type_defs ds)) behind_types
      (inner_from_sound c path searched own_scope (type_defs ds) 1 (omega arith) (omega (arith, inner)) type_slots w start.grown.fit)
      (λ f grown h. let one = subst (λ n. IsBehind c path searched n e f) same
      (behind_on c path searched n 0 e w f start (record { more = []; count = refl; known = tt; grown = grown })) in
      holds_bind (AreMade c path searched first ps f) (IsHeaded ds e) (judge.procedures_from false f first ps) behind_procedures
      (procedures_sound c path searched false ps first own (slots_front c path searched first ps qs inner_slots path searched) f one.grown.fit)
      (λ x two h. holds_bind (AreMade c path searched (first + length ps) qs x) (IsHeaded ds e) (judge.methods_from x (first + length ps) (type_defs ds)) (λ g. judge.overriding g (type_defs ds))
      (methods_sound c path searched (type_defs ds) (first + length ps) (omega (arith, own)) (slots_back c path searched first ps qs inner_slots) x two.fit)
      (λ g three none. headed own_scope ds inner e f g one (both_made c path searched first own ps qs f x g two three) none fit)
      h) h) h)
