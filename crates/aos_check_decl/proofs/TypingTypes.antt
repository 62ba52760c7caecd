-- What is told of the types that are written on a walk over declarations: they break no rule, and so their numbers are known.
use Rattle.std.proofs.Common.{◌≡◌, append-nil, ℕ, suc, ◌+◌, ◌==◌, List, [], ◌∷◌, ◌++◌, length, replicate, ℤ, pos, negsuc, int_le, Bool, true, false, ◌&&◌, Option, Some, None, option_and_then, slice_get, if◌then◌else◌, refl, sym, ap, ◌∙◌, subst, arith, length-append, length-set}
use Rattle.std.specs.Prelude.{unsigned_abs}
use Rattle.std.proofs.lemmas.Bool.{and_parts}
use Rattle.std.proofs.lemmas.Int.{ints}
use Rattle.std.proofs.lemmas.Option.{none-some}
use mathlib.Core.Logic.{◌⊎◌, inl, inr}
use Rattle.aos_base.specs.declared.limits.TheConstants.{MOST_SCALARS}
use Rattle.aos_base.specs.declared.text.Pos.{Pos}
use Rattle.aos_tree.specs.declared.name.Name.{Name}
use Rattle.aos_tree.specs.declared.name.Qualident.{Qualident}
use Rattle.aos_tree.specs.declared.expr.Expr.{Expr, out-Expr}
use Rattle.aos_tree.specs.declared.decl.Def.{Def}
use Rattle.aos_tree.specs.declared.decl.Decl.{Decl, items-the_row-Decl}
use Rattle.aos_tree.specs.declared.decl.Fields.{Fields}
use Rattle.aos_tree.specs.declared.decl.Fields.TheVariants as fields
use Rattle.aos_tree.specs.declared.decl.TypeExpr.{TypeExpr, Row_of-TypeExpr, end_of-TypeExpr, more_of-TypeExpr, Row_of-Fields, end_of-Fields, more_of-Fields, items-the_row-Fields}
use Rattle.aos_tree.specs.declared.decl.TypeExpr.TheVariants as type
use Rattle.aos_types.specs.declared.row.TypeId.{TypeId}
use Rattle.aos_types.specs.declared.row.TypeRow.{TypeRow}
use Rattle.aos_types.specs.declared.row.TypeRow.TheVariants as row
use Rattle.aos_types.specs.Table.{is_open}
use Rattle.aos_types.specs.Chain.{base_list, IsOneOf}
use Rattle.aos_types.specs.Count.{named_in}
use Rattle.aos_types.proofs.Reached.{one_of_both}
use Rattle.aos_typed.specs.declared.tree.Literal.{Literal}
use Rattle.aos_typed.specs.declared.tree.Literal.TheVariants as literal
use Rattle.aos_symbols.specs.declared.home.ObjectScope.{ObjectScope}
use Rattle.aos_symbols.specs.declared.env.Open.{Open}
use Rattle.aos_symbols.specs.declared.env.Claim.{Claim}
use Rattle.aos_symbols.specs.declared.env.Claim.TheVariants as claim
use Rattle.aos_symbols.specs.declared.env.Env.{Env}
use Rattle.aos_symbols.specs.Breaches.{breach}
use Rattle.aos_symbols.specs.Judged.{Judged, judged, kept, bind, walk}
use Rattle.aos_symbols.specs.Scope.{Scope, empty}
use Rattle.aos_symbols.specs.Home.{Home}
use Rattle.aos_symbols.specs.Env as env
use Rattle.aos_symbols.proofs.Each.{Each, joined, implied, repeated}
use Rattle.aos_symbols.specs.Declarations.{formal_names}
use Rattle.aos_symbols.specs.Spelling.{is_word}
use Rattle.aos_types.specs.declared.signature.Parameter.{Parameter}
use Rattle.aos_types.specs.declared.signature.Gives.{Gives}
use Rattle.aos_types.specs.declared.signature.Gives.TheVariants as gives
use Rattle.aos_tree.specs.declared.decl.Formals.{Formals}
use Rattle.aos_tree.specs.declared.decl.Section.{Section}
use Rattle.std.specs.List.{flat_map}
use Rattle.std.specs.Prelude.{codes, fold}
use Rattle.std.proofs.lemmas.List.{length-replicate}
use Rattle.aos_symbols.proofs.Told.{get_end, IsLength}
use Rattle.aos_symbols.proofs.Holds.{Holds, holds_bind, holds_walk, broken}
use Rattle.aos_check_expr.specs.Expressions.{constant}
use Rattle.aos_check_expr.proofs.Typing.{HasGood, GoodConstants}
use Rattle.aos_check_expr.proofs.Typing.{constant_good as good_value}
use Rattle.aos_check_decl.specs.Types as judge
use Rattle.aos_made_types.specs.Formals as heading
use Rattle.aos_made_types.specs.Formals.{FormalsMet, formals_met, HeadingMet, heading_met}
use Rattle.aos_check_decl.specs.Types.{Met, met, named_type, FieldsMet, fields_met, MembersMet, members_met}
use Rattle.aos_check_types.specs.Limits.{may_be_target}
use Rattle.aos_check_decl.proofs.TypingNames.{IsSearchedIn, all_named_in, named_sound}
use Rattle.aos_check_decl.proofs.TypingScopes.{AreGood, AllGood, names_at}
use Rattle.aos_made_types.proofs.TypingClaims.{IsAskedResult, IsBaseMet, claims_of_base, base_met}
use Rattle.aos_check_decl.proofs.TypingFields.{IsNoRecord, IsRow, OfResult, Leads, field_variables}
pub use Rattle.aos_check_decl.proofs.TypingTelling.{IsBareAmong, Telling}

no_numbers : {x : ℕ} → (let n : Option ℕ = None in n) ≡ Some x → ⊥
no_numbers e = cc

-- a heading that tells a result
pub record HasResult (formals : Option Formals) : Type 0 where
  pub whole : Formals
  pub is : formals ≡ Some whole
  pub name : Qualident
  pub result : whole.result ≡ Some name

pub chosen : {A : Type 0} (P : A → Type 0) (b : Bool) (i j : Judged A) → Holds P i → Holds P j → Holds P (if b then i else j)
chosen P true i j h k = h
chosen P false i j h k = k

pub each_of : (P : TypeId → Type 0) (ts : List TypeId) → Each P ts → (p : TypeId) → IsOneOf p ts → P p
each_of P [] all p h = absurd h
each_of P (t ∷ ts) all p (inl e) = subst P e all.0
each_of P (t ∷ ts) all p (inr h) = each_of P ts all.1 p h

-- the length of an array, and one or more of them
record HasNumber (n : Option ℕ) : Type 0 where
  number : ℕ
  is : n ≡ Some number
  long : IsLength number

record HasLengths (ns : Option (List ℕ)) : Type 0 where
  first : ℕ
  more : List ℕ
  is : ns ≡ Some (first ∷ more)
  long : IsLength first
  all_long : Each IsLength more

length_fits : (n : ℤ) → (int_le (pos 1) n && int_le n (pos MOST_SCALARS)) ≡ true → IsLength (unsigned_abs n)
length_fits (pos n) e = let p = and_parts (int_le (pos 1) (pos n)) (int_le (pos n) (pos MOST_SCALARS)) e in (omega (arith, ints, p.0), omega (arith, ints, p.1))
length_fits (negsuc n) e = absurd (cc)

module _ (c : Telling) where
  open c use {Known, There, GoesTo}

  -- the scopes in which names are looked up
  abbrev pub IsSearched : Open → Type 0
  IsSearched = IsSearchedIn c.number c.before

  abbrev pub IsSlotted : Option TypeId → Type 0
  IsSlotted None = Unit {0}
  IsSlotted (Some t) = c.IsSlot t × IsBareAmong c.objects t

  -- an environment on the walk, at a place with this path
  pub record IsFit (path : List Open) (e : Env) : Type 0 where
    pub number_is : e.number ≡ c.number
    pub before_is : e.before ≡ c.before
    pub name_is : e.here.name ≡ c.name
    pub text_is : e.here.text ≡ c.text
    pub first_is : e.here.first ≡ suc c.inner
    pub names_are : (j : ℕ) → names_at e.here.scopes j ≡ names_at c.scopes j
    pub path_is : e.path ≡ path
    pub narrowed_is : e.narrowed ≡ []
    pub good : AllGood e.here
    pub table : GoesTo c.first e.types
    pub agrees : c.Agrees e.types e.here.records e.claims
    pub objects_is : e.here.objects ≡ c.objects
    pub filled : c.Filled e.types e.here.scopes

  -- the same environment with a later table, and with more fields
  pub record IsBeyond (e e' : Env) : Type 0 where
    pub number : e'.number ≡ e.number
    pub before : e'.before ≡ e.before
    pub name : e'.here.name ≡ e.here.name
    pub text : e'.here.text ≡ e.here.text
    pub first : e'.here.first ≡ e.here.first
    pub scopes : e'.here.scopes ≡ e.here.scopes
    pub signatures : e'.here.signatures ≡ e.here.signatures
    pub objects : e'.here.objects ≡ e.here.objects
    pub filled : c.Filled e.types e.here.scopes → c.Filled e'.types e'.here.scopes
    pub path : e'.path ≡ e.path
    pub narrowed : e'.narrowed ≡ e.narrowed
    pub agree : c.Agrees e.types e.here.records e.claims → c.Agrees e'.types e'.here.records e'.claims
    pub goes : GoesTo e.types e'.types
    pub long : length e'.types + length e.places ≡ length e.types + length e'.places

  pub beyond_same : (e : Env) → IsBeyond e e
  beyond_same e = record {
    number = refl;
    before = refl;
    name = refl;
    text = refl;
    first = refl;
    scopes = refl;
    signatures = refl;
    objects = refl;
    filled = λ f. f;
    path = refl;
    narrowed = refl;
    agree = λ a. a;
    goes = c.stays e.types;
    long = refl;
  }

  pub beyond_on : (e f g : Env) → IsBeyond e f → IsBeyond f g → IsBeyond e g
  beyond_on e f g one two =
      let m = one.long in
      let n = two.long in
      record {
        number = two.number ∙ one.number;
        before = two.before ∙ one.before;
        name = two.name ∙ one.name;
        text = two.text ∙ one.text;
        first = two.first ∙ one.first;
        scopes = two.scopes ∙ one.scopes;
        signatures = two.signatures ∙ one.signatures;
        objects = two.objects ∙ one.objects;
        filled = λ f. two.filled (one.filled f);
        path = two.path ∙ one.path;
        narrowed = two.narrowed ∙ one.narrowed;
        agree = λ a. two.agree (one.agree a);
        goes = c.on e.types f.types g.types one.goes two.goes;
        long = omega (arith, m, n);
      }

  pub fit_beyond : (path : List Open) (e f : Env) → IsFit path e → IsBeyond e f → IsFit path f
  fit_beyond path e f fit one = record {
    number_is = one.number ∙ fit.number_is;
    before_is = one.before ∙ fit.before_is;
    name_is = one.name ∙ fit.name_is;
    text_is = one.text ∙ fit.text_is;
    first_is = one.first ∙ fit.first_is;
    names_are = λ j. ap (λ (ss : List Scope). names_at ss j) one.scopes ∙ fit.names_are j;
    path_is = one.path ∙ fit.path_is;
    narrowed_is = one.narrowed ∙ fit.narrowed_is;
    good = λ k s there. fit.good k s (ap (λ (ss : List Scope). slice_get ss k) (sym one.scopes) ∙ there);
    table = c.on c.first e.types f.types fit.table one.goes;
    agrees = one.agree fit.agrees;
    objects_is = one.objects ∙ fit.objects_is;
    filled = one.filled fit.filled;
  }

  module _ (path : List Open) (searched : Each IsSearched path) where
    pub named : (e : Env) → IsFit path e → (q : Qualident) → Holds (Known e.types) (judge.named_type e q)
    named e fit q =
        named_sound e IsSearched (Known e.types)
        (λ o s w x is there found of means. c.known_on c.first e.types fit.table of
        (all_named_in c.number c.before c.scopes (Known c.first) c.own c.others e fit.number_is fit.before_is fit.names_are o s w x is there found of means))
        (c.basic e.types fit.table) (subst (Each IsSearched) (sym fit.path_is) searched) (λ m. inl refl) q

    -- Constants, and the lengths of arrays.

    pub good_constants : (e : Env) → IsFit path e → GoodConstants e
    good_constants e fit o s there = by (o.home == e.number) there
      where
        by_before : (h : Option Home) → slice_get e.before o.home ≡ h → option_and_then (λ h. slice_get h.scopes o.scope) h ≡ Some s → AreGood s.constants
        by_before None at there = absurd (none-some s there)
        by_before (Some h) at there = c.constants o.home h o.scope s (ap (λ hs. slice_get hs o.home) (sym fit.before_is) ∙ at) there

        by : (b : Bool) → option_and_then (λ h. slice_get h.scopes o.scope) (if b then Some e.here else slice_get e.before o.home) ≡ Some s → AreGood s.constants
        by true there = fit.good o.scope s there
        by false there = by_before (slice_get e.before o.home) refl there

    length_given_sound : (l : Literal) (at : Pos) → Holds HasNumber (judge.length_given (Some l) at)
    length_given_sound (literal.Int n) at = by (int_le (pos 1) n && int_le n (pos MOST_SCALARS)) refl
      where
        by : (b : Bool) → (int_le (pos 1) n && int_le n (pos MOST_SCALARS)) ≡ b →
            Holds HasNumber (if b then kept (Some (unsigned_abs n)) else judge.length_given (Some (literal.Bool true)) at)
        by true fits = λ h. record { number = unsigned_abs n; is = refl; long = length_fits n fits }
        by false fits = broken HasNumber _ [] _
    length_given_sound (literal.Bool b) at = broken HasNumber _ [] _
    length_given_sound (literal.Char x) at = broken HasNumber _ [] _
    length_given_sound (literal.Set s) at = broken HasNumber _ [] _
    length_given_sound (literal.Text t) at = broken HasNumber _ [] _
    length_given_sound literal.Nil at = broken HasNumber _ [] _
    length_given_sound literal.NoProcedure at = broken HasNumber _ [] _

    length_sound : (e : Env) → IsFit path e → (x : Expr) → Holds HasNumber (judge.length_of e x)
    length_sound e fit x =
        holds_bind HasGood HasNumber (constant e x) (λ v. judge.length_given v (out-Expr x).pos) (good_value e (good_constants e fit) x)
        (λ v is. subst (λ (v : Option Literal). Holds HasNumber (judge.length_given v (out-Expr x).pos)) (sym is.1) (length_given_sound is.0 (out-Expr x).pos))

    more_lengths : (e : Env) → IsFit path e → (ns : Option (List ℕ)) (x : Expr) → HasLengths ns → Holds HasLengths (judge.with_length e ns x)
    more_lengths e fit ns x are =
        holds_bind HasNumber HasLengths (judge.length_of e x) (λ n. kept (judge.one_more ns n)) (length_sound e fit x)
        (λ n is h. record {
          first = are.first;
          more = are.more ++ is.number ∷ [];
          is = λ i. judge.one_more (are.is i) (is.is i);
          long = are.long;
          all_long = joined IsLength are.more (is.number ∷ []) are.all_long (is.long, tt);
        })

    first_length : (e : Env) → IsFit path e → (x : Expr) → Holds HasLengths (judge.with_length e (Some []) x)
    first_length e fit x =
        holds_bind HasNumber HasLengths (judge.length_of e x) (λ n. kept (judge.one_more (Some []) n)) (length_sound e fit x)
        (λ n is h. record { first = is.number; more = []; is = ap (judge.one_more (Some [])) is.is; long = is.long; all_long = tt })

    lengths_sound : (e : Env) → IsFit path e → (x : Expr) (xs : List Expr) → Holds HasLengths (judge.lengths_of e (x ∷ xs))
    lengths_sound e fit x xs =
        holds_bind HasLengths HasLengths (judge.with_length e (Some []) x) (λ ns. walk (judge.with_length e) ns xs) (first_length e fit x)
        (λ ns are. holds_walk HasLengths (judge.with_length e) (λ ns y are. more_lengths e fit ns y are) xs ns are)

    -- What is met of a type: it is known, where no open array may stand, or there; it is a record or an array where one is written. Nothing
    -- is asked of the number of a definition's type but that there is one.

    abbrev StandsOf : List TypeRow → Option TypeId → Type 0
    StandsOf ts None = Unit {0}
    StandsOf ts (Some t) = c.Stands ts t

    pub record IsType (may_be_open whole : Bool) (ts : List TypeRow) (of : Option TypeId) : Type 0 where
      pub known : may_be_open ≡ false → Known ts of
      pub there : There ts of
      pub stands : whole ≡ true → StandsOf ts of

    abbrev pub IsOf : (may_be_open whole : Bool) → Option TypeId → List TypeRow → Option TypeId → Type 0
    IsOf may_be_open whole None ts of = IsType may_be_open whole ts of
    IsOf may_be_open whole (Some s) ts None = Known ts None
    IsOf may_be_open whole (Some s) ts (Some t) = Unit {0}

    pub record IsMet (may_be_open whole : Bool) (e : Env) (slot : Option TypeId) (m : Met) : Type 0 where
      pub beyond : IsBeyond e m.env
      pub of : IsOf may_be_open whole slot m.env.types m.of

    -- an open array is the type of no definition
    abbrev pub IsAsked : Bool → Option TypeId → Type 0
    IsAsked true (Some s) = ⊥
    IsAsked may_be_open slot = Unit {0}

    asked_none : (may_be_open : Bool) → IsAsked may_be_open None
    asked_none true = tt
    asked_none false = tt

    of_slot : (may_be_open whole : Bool) (slot : Option TypeId) (ts : List TypeRow) (of : Option TypeId) → Known ts of → (whole ≡ true → StandsOf ts of) →
        IsOf may_be_open whole slot ts of
    of_slot may_be_open whole None ts of known stands = record { known = λ closed. known; there = c.known_there ts of known; stands = stands }
    of_slot may_be_open whole (Some s) ts None known stands = known
    of_slot may_be_open whole (Some s) ts (Some t) known stands = tt

    met_on : (may_be_open whole : Bool) (e f : Env) (slot : Option TypeId) (m : Met) → IsBeyond e f → IsMet may_be_open whole f slot m → IsMet may_be_open whole e slot m
    met_on may_be_open whole e f slot m one two = record { beyond = beyond_on e f m.env one two.beyond; of = two.of }

    never : {A : Type 0} → false ≡ true → A
    never e = absurd (cc)

    -- whatever is written
    plain : (may_be_open whole : Bool) (e : Env) (m : Met) → IsMet may_be_open whole e None m → IsMet may_be_open false e None m
    plain may_be_open whole e m is = record { beyond = is.beyond; of = record { known = is.of.known; there = is.of.there; stands = λ h. never h } }

    abbrev AreKnown : List TypeRow → TypeRow → Type 0
    AreKnown ts r = (p : TypeId) → IsOneOf p (named_in r) → c.Known ts (Some p)

    placed_sound : (may_be_open : Bool) (e : Env) → IsFit path e → (slot : Option TypeId) → IsSlotted slot → (at : Pos) (r : TypeRow) → is_open (Some r) ≡ false →
        IsNoRecord r → IsRow (λ p. There e.types (Some p)) (λ p. Known e.types (Some p) × IsAskedResult e.claims p) (Leads (c.Stands e.types) e.claims) r → AreKnown e.types r → IsMet may_be_open (may_be_target (Some r)) e slot (judge.placed slot at r e)
    placed_sound may_be_open e fit (Some t) ok at r closed other whole known = record {
      beyond = record {
        number = refl;
        before = refl;
        name = refl;
        text = refl;
        first = refl;
        scopes = refl;
        signatures = refl;
        objects = refl;
        filled = c.filled_set e.types e.here.scopes t r ok.1;
        path = refl;
        narrowed = refl;
        agree = c.agree_set e.types e.here.records e.claims t r fit.table ok.0 closed other whole known;
        goes = c.set e.types t r fit.table ok.0 closed (λ p one. c.known_there e.types (Some p) (known p one));
        long = ap (λ n. n + length e.places) (length-set e.types t.0 r);
      };
      of = tt;
    }
    placed_sound may_be_open e fit None ok at r closed other whole known = record {
      beyond = record {
        number = refl;
        before = refl;
        name = refl;
        text = refl;
        first = refl;
        scopes = refl;
        signatures = refl;
        objects = refl;
        filled = c.filled_push e.types e.here.scopes r;
        path = refl;
        narrowed = refl;
        agree = c.agree_push e.types e.here.records e.claims r fit.table closed other whole known;
        goes = c.push e.types r (λ p one. c.known_there e.types (Some p) (known p one));
        long = omega (arith, length-append e.types (r ∷ []), length-append e.places (at ∷ []));
      };
      of = of_slot may_be_open (may_be_target (Some r)) None (e.types ++ r ∷ []) (Some (record { 0 = length e.types })) (c.pushed e.types r fit.table closed)
          (λ h. c.pushed_stands e.types r fit.table h);
    }

    -- an array of what is met
    array_sound : (may_be_open : Bool) (e : Env) → IsFit path e → (slot : Option TypeId) → IsSlotted slot → (at : Pos) (n : ℕ) → IsLength n → (f : Env) (of : Option TypeId) →
        IsMet false false e None (met f of) → IsMet may_be_open true e slot (judge.array_of slot at n (met f of))
    array_sound may_be_open e fit slot ok at n long f None is = record { beyond = is.beyond; of = of_slot may_be_open true slot f.types None (is.of.known refl) (λ h. tt) }
    array_sound may_be_open e fit slot ok at n long f (Some t) is =
        met_on may_be_open true e f slot (judge.placed slot at (row.Array n t) f) is.beyond
        (placed_sound may_be_open f (fit_beyond path e f fit is.beyond) slot ok at (row.Array n t) refl (λ base ts. (λ e. cc, λ e. cc)) long (λ p one. element p one))
      where
        element : (p : TypeId) → IsOneOf p (t ∷ []) → c.Known f.types (Some p)
        element p (inl e) = subst (λ (q : TypeId). c.Known f.types (Some q)) e (is.of.known refl)
        element p (inr h) = absurd h

    inner_sound : (e : Env) → IsFit path e → (at : Pos) (ns : List ℕ) → Each IsLength ns → (m : Met) → IsMet false false e None m → IsMet false false e None (judge.inner_arrays at ns m)
    inner_sound e fit at [] long m is = is
    inner_sound e fit at (n ∷ ns) long m is =
        let i = judge.inner_arrays at ns m in
        plain false true e (judge.array_of None at n i) (array_sound false e fit None tt at n long.0 i.env i.of (inner_sound e fit at ns long.1 m is))

    arrays_sound : (may_be_open : Bool) (e : Env) → IsFit path e → (slot : Option TypeId) → IsSlotted slot → (at : Pos) (ns : Option (List ℕ)) → HasLengths ns → (m : Met) →
        IsMet false false e None m → IsMet may_be_open true e slot (judge.arrays slot at ns m)
    arrays_sound may_be_open e fit slot ok at ns are m is =
        let i = judge.inner_arrays at are.more m in
        subst (λ (ns : Option (List ℕ)). IsMet may_be_open true e slot (judge.arrays slot at ns m)) (sym are.is)
        (array_sound may_be_open e fit slot ok at are.first are.long i.env i.of (inner_sound e fit at are.more are.all_long m is))

    -- an open array of what is there
    pub open_placed : (e : Env) → IsFit path e → (at : Pos) (t : TypeId) → There e.types (Some t) → IsBeyond e (judge.placed None at (row.Open t) e).env
    open_placed e fit at t there = record {
      number = refl;
      before = refl;
      name = refl;
      text = refl;
      first = refl;
      scopes = refl;
      signatures = refl;
      objects = refl;
      filled = c.filled_push e.types e.here.scopes (row.Open t);
      path = refl;
      narrowed = refl;
      agree = c.agree_open e.types e.here.records e.claims t fit.table there;
      goes = c.push e.types (row.Open t) (λ p one. element p one);
      long = omega (arith, length-append e.types (row.Open t ∷ []), length-append e.places (at ∷ []));
    }
      where
        element : (p : TypeId) → IsOneOf p (t ∷ []) → There e.types (Some p)
        element p (inl e') = subst (λ (q : TypeId). There e.types (Some q)) e' there
        element p (inr h) = absurd h

    open_sound : (whole : Bool) (e : Env) → IsFit path e → (at : Pos) (f : Env) (of : Option TypeId) → IsMet true whole e None (met f of) →
        IsMet true true e None (judge.open_of None at (met f of))
    open_sound whole e fit at f None is = record { beyond = is.beyond; of = record { known = is.of.known; there = is.of.there; stands = λ h. tt } }
    open_sound whole e fit at f (Some t) is =
        let here = fit_beyond path e f fit is.beyond in
        let g = (judge.placed None at (row.Open t) f).env in
        record {
          beyond = beyond_on e f g is.beyond (open_placed f here at t is.of.there);
          of = record {
            known = λ h. never (sym h);
            there = c.pushed_open f.types t here.table;
            stands = λ h. c.pushed_stands f.types (row.Open t) here.table refl;
          };
        }

    lengths_in_sound : (may_be_open : Bool) (e : Env) → IsFit path e → (slot : Option TypeId) → IsSlotted slot → (at : Pos) (x : Expr) (xs : List Expr) (whole : Bool)
        (element : Judged Met) → Holds (IsMet false whole e None) element →
        Holds (IsMet may_be_open true e slot) (bind (judge.lengths_of e (x ∷ xs)) (λ ns. bind element (λ m. kept (judge.arrays slot at ns m))))
    lengths_in_sound may_be_open e fit slot ok at x xs whole element is =
        holds_bind HasLengths (IsMet may_be_open true e slot) (judge.lengths_of e (x ∷ xs)) (λ ns. bind element (λ m. kept (judge.arrays slot at ns m))) (lengths_sound e fit x xs)
        (λ ns are. holds_bind (IsMet false whole e None) (IsMet may_be_open true e slot) element (λ m. kept (judge.arrays slot at ns m)) is
        (λ m met h. arrays_sound may_be_open e fit slot ok at ns are m (plain false whole e m met)))

    array_in_sound : (may_be_open : Bool) (e : Env) → IsFit path e → (slot : Option TypeId) → IsSlotted slot → IsAsked may_be_open slot → (at : Pos) (xs : List Expr) (whole : Bool)
        (element : Judged Met) → Holds (IsMet (may_be_open && judge.is_empty xs) whole e None) element → Holds (IsMet may_be_open true e slot) (judge.array_in may_be_open slot e at xs element)
    array_in_sound false e fit slot ok asked at [] whole element is = broken (IsMet false true e slot) _ [] _
    array_in_sound true e fit (Some s) ok asked at [] whole element is = absurd asked
    array_in_sound true e fit None ok asked at [] whole element is =
        holds_bind (IsMet true whole e None) (IsMet true true e None) element (λ m. kept (judge.open_of None at m)) is
        (λ m met h. open_sound whole e fit at m.env m.of met)
    array_in_sound false e fit slot ok asked at (x ∷ xs) whole element is = lengths_in_sound false e fit slot ok at x xs whole element is
    array_in_sound true e fit slot ok asked at (x ∷ xs) whole element is = lengths_in_sound true e fit slot ok at x xs whole element is

    -- Records.

    pub record AreFields (e : Env) (f : FieldsMet) : Type 0 where
      pub beyond : IsBeyond e f.env
      pub parts : Each (λ t. c.Known f.env.types (Some t)) f.types
      pub all : c.AreAll f.scope.variables f.types

    more_fields : (e : Env) (f : FieldsMet) → AreFields e f → (ds : List Def) (g : Env) (of : Option TypeId) → IsMet false false f.env None (met g of) →
        AreFields e (judge.with_fields f ds (met g of))
    more_fields e f are ds g of is = record {
      beyond = beyond_on e f.env g are.beyond is.beyond;
      parts =
          joined (λ t. c.Known g.types (Some t)) f.types (judge.fields_of (length ds) of)
          (implied (λ t. c.Known f.env.types (Some t)) (λ t. c.Known g.types (Some t)) (λ t known. c.known_on f.env.types g.types is.beyond.goes (Some t) known) f.types are.parts)
          (new of (is.of.known refl));
      all = subst (λ vs. c.AreAll vs (f.types ++ judge.fields_of (length ds) of)) (sym (field_variables g.here.text of ds f.scope))
          (c.more_all g.types f.scope.variables f.types (length ds) of (is.of.known refl) are.all);
    }
      where
        new : (of : Option TypeId) → Known g.types of → Each (λ t. c.Known g.types (Some t)) (judge.fields_of (length ds) of)
        new None known = tt
        new (Some t) known = repeated (λ t. c.Known g.types (Some t)) (length ds) t known

    -- a record's row, what the module knows of its fields, and what it asks
    record_placed : (may_be_open : Bool) (e : Env) → IsFit path e → (slot : Option TypeId) → IsSlotted slot → (at : Pos) (q : Option Qualident) (names : List Name)
        (base : Option TypeId) (us : List TypeId) (s : Scope) → IsBaseMet (Known e.types) q base → ((p : TypeId) → IsOneOf p us → c.Known e.types (Some p)) →
        c.AreAll s.variables us → IsMet may_be_open true e slot (judge.based q names base (judge.with_record s (judge.placed slot at (row.Record base us) e)))
    record_placed may_be_open e fit slot ok at q names base us s met known all = by slot ok
      where
        each : (p : TypeId) → IsOneOf p (base_list base ++ us) → c.Known e.types (Some p)
        each p one = either (one_of_both p (base_list base) us one)
          where
            either : IsOneOf p (base_list base) ⊎ IsOneOf p us → c.Known e.types (Some p)
            either (inl b) = base_met (Known e.types) q base met p b
            either (inr f) = known p f

        by : (slot : Option TypeId) → IsSlotted slot → IsMet may_be_open true e slot (judge.based q names base (judge.with_record s (judge.placed slot at (row.Record base us) e)))
        by (Some t) ok = record {
          beyond = record {
            number = refl;
            before = refl;
            name = refl;
            text = refl;
            first = refl;
            scopes = refl;
            signatures = refl;
            objects = refl;
            filled = c.filled_set e.types e.here.scopes t (row.Record base us) ok.1;
            path = refl;
            narrowed = refl;
            agree = c.agree_record_set e.types e.here e.claims t base us s (judge.base_claims q names base (Some t)) fit.table ok.0
                (claims_of_base (Known e.types) q names base t met) each all;
            goes = c.set e.types t (row.Record base us) fit.table ok.0 refl (λ p one. c.known_there e.types (Some p) (each p one));
            long = ap (λ n. n + length e.places) (length-set e.types t.0 (row.Record base us));
          };
          of = tt;
        }
        by None ok =
            let t : TypeId = record { 0 = length e.types } in
            record {
              beyond = record {
                number = refl;
                before = refl;
                name = refl;
                text = refl;
                first = refl;
                scopes = refl;
                signatures = refl;
                objects = refl;
                filled = c.filled_push e.types e.here.scopes (row.Record base us);
                path = refl;
                narrowed = refl;
                agree = c.agree_record_push e.types e.here e.claims base us s (judge.base_claims q names base (Some t)) fit.table
                    (claims_of_base (Known e.types) q names base t met) each all;
                goes = c.push e.types (row.Record base us) (λ p one. c.known_there e.types (Some p) (each p one));
                long = omega (arith, length-append e.types (row.Record base us ∷ []), length-append e.places (at ∷ []));
              };
              of = of_slot may_be_open true None (e.types ++ row.Record base us ∷ []) (Some t) (c.pushed e.types (row.Record base us) fit.table refl)
                  (λ h. c.pushed_stands e.types (row.Record base us) fit.table refl);
            }

    -- without its fields, where its base or one of them has no type
    pub part_lost : (ts : List TypeRow) (q : Option Qualident) (base : Option TypeId) (us : List TypeId) (vs : List (Option TypeId)) → IsBaseMet (Known ts) q base →
        c.AreAll vs us → judge.are_parts_known q base (length us) (length vs) ≡ false → Known ts None
    part_lost ts None base us vs met all is = c.missing ts vs us all is
    part_lost ts (Some q) (Some b) us vs met all is = c.missing ts vs us all is
    part_lost ts (Some q) None us vs met all is = met

    record_known : (may_be_open : Bool) (e : Env) → IsFit path e → (slot : Option TypeId) → IsSlotted slot → (at : Pos) (q : Option Qualident) (names : List Name)
        (base : Option TypeId) (us : List TypeId) (s : Scope) → IsBaseMet (Known e.types) q base → ((p : TypeId) → IsOneOf p us → c.Known e.types (Some p)) →
        c.AreAll s.variables us → IsMet may_be_open true e slot (judge.known_record slot at q names base (judge.fields_met e us s))
    record_known may_be_open e fit slot ok at q names base us s met known all = by (judge.are_parts_known q base (length us) (length s.variables)) refl
      where
        bare : Met
        bare = judge.placed_record slot at q names base [] s e

        by : (b : Bool) → judge.are_parts_known q base (length us) (length s.variables) ≡ b →
            IsMet may_be_open true e slot (if b then judge.placed_record slot at q names base us s e else judge.met bare.env None)
        by true is = record_placed may_be_open e fit slot ok at q names base us s met known all
        by false is =
            let none = part_lost e.types q base us s.variables met all is in
            let beyond = (record_placed may_be_open e fit slot ok at q names base [] s met (λ p one. absurd one) (c.any_all e.types none s.variables [])).beyond in
            record { beyond = beyond; of = of_slot may_be_open true slot bare.env.types None (c.known_on e.types bare.env.types beyond.goes None none) (λ h. tt) }

    pub base_sound : (e : Env) → IsFit path e → (q : Option Qualident) → Holds (IsBaseMet (Known e.types) q) (judge.base_in e q)
    base_sound e fit None = λ h. refl
    base_sound e fit (Some q) =
        holds_bind (Known e.types) (Known e.types) (judge.named_type e q) (λ b. if judge.is_predeclared b then judged (breach 17 q.first.pos) None else kept b) (named e fit q)
        (λ b known. chosen (Known e.types) (judge.is_predeclared b) (judged (breach 17 q.first.pos) None) (kept b) (broken (Known e.types) _ [] _) (λ h. known))

    base_on : (e f : Env) → IsBeyond e f → (q : Option Qualident) (base : Option TypeId) → IsBaseMet (Known e.types) q base → IsBaseMet (Known f.types) q base
    base_on e f one None base met = met
    base_on e f one (Some q) base met = c.known_on e.types f.types one.goes base met

    record_sound : (may_be_open : Bool) (e : Env) → IsFit path e → (slot : Option TypeId) → IsSlotted slot → (at : Pos) (q : Option Qualident) (names : List Name) (fs : Judged FieldsMet) →
        Holds (AreFields e) fs → Holds (IsMet may_be_open true e slot) (judge.record_in slot e at q names fs)
    record_sound may_be_open e fit slot ok at q names fs are =
        let made = λ (b : Option TypeId) (f : FieldsMet). judge.known_record slot at q names b f in
        holds_bind (IsBaseMet (Known e.types) q) (IsMet may_be_open true e slot) (judge.base_in e q) (λ b. bind fs (λ f. kept (made b f))) (base_sound e fit q)
        (λ b base. holds_bind (AreFields e) (IsMet may_be_open true e slot) fs (λ f. kept (made b f)) are
        (λ f is h. met_on may_be_open true e f.env slot (made b f) is.beyond
        (record_known may_be_open f.env (fit_beyond path e f.env fit is.beyond) slot ok at q names b f.types f.scope (base_on e f.env is.beyond q b base)
        (each_of (λ t. c.Known f.env.types (Some t)) f.types is.parts) is.all)))

    -- an object type without a definition is refused
    object_sound : (may_be_open : Bool) (e : Env) (at : Pos) (base : Option Qualident) (decls : List Decl) (object : Option ObjectScope)
        (members : Env → Judged MembersMet) → Holds (IsMet may_be_open false e None) (judge.object_in None object e at base decls members)
    object_sound may_be_open e at base decls object members =
        chosen (IsMet may_be_open false e None) (env.innermost e.path == 0) (judge.refused_type 26 at e) (judge.refused_type 26 at e)
        (broken (IsMet may_be_open false e None) _ [] _) (broken (IsMet may_be_open false e None) _ [] _)

    -- those that declarations name come later
    abbrev pub IsOther : TypeExpr → Option TypeId → Type 0
    IsOther (type.Object' p base shape row body end) (Some t) = ⊥
    IsOther of slot = Unit {0}

    pub other_none : (of : TypeExpr) → IsOther of None
    other_none (type.Named q) = tt
    other_none (type.Array' p lengths shape row) = tt
    other_none (type.Record' p base shape row) = tt
    other_none (type.Pointer' p shape row) = tt
    other_none (type.Proc p flag formals) = tt
    other_none (type.Object' p base shape row body end) = tt

    -- Pointers: what is written behind one is a record or an array, and of what is named it is asked.

    claimed : (e : Env) (cs : List Claim) → (c.Agrees e.types e.here.records e.claims → c.Agrees e.types e.here.records (e.claims ++ cs)) → IsBeyond e (judge.claiming cs e)
    claimed e cs agree = record {
      number = refl;
      before = refl;
      name = refl;
      text = refl;
      first = refl;
      scopes = refl;
      signatures = refl;
      objects = refl;
      filled = λ f. f;
      path = refl;
      narrowed = refl;
      agree = agree;
      goes = c.stays e.types;
      long = refl;
    }

    abbrev pub is_written : TypeExpr → Bool
    is_written (type.Array' p lengths shape row) = true
    is_written (type.Record' p base shape row) = true
    is_written x = false

    -- so it is asked that the pointer's type leads to a record or an array
    record IsTargetMet (e : Env) (cs : List Claim) (t : TypeId) : Type 0 where
      beyond : IsBeyond e (judge.claiming cs e)
      leads : Leads (c.Stands e.types) (e.claims ++ cs) t

    nothing_asked : (e : Env) (t : TypeId) → c.Stands e.types t → IsTargetMet e [] t
    nothing_asked e t stands = record {
      beyond = claimed e [] (λ a. subst (c.Agrees e.types e.here.records) (sym (append-nil e.claims)) a);
      leads = inr stands;
    }

    target_sound : (e : Env) (x : TypeExpr) (t : TypeId) → judge.is_no_target x (Some t) ≡ false → IsType true (is_written x) e.types (Some t) → IsTargetMet e (judge.target_claims x t) t
    target_sound e (type.Named q) t none is = record {
      beyond = claimed e (claim.Target q.first.pos t ∷ []) (λ a. c.agree_target e.types e.here.records e.claims q.first.pos t a);
      leads = inl (record { place = length e.claims; at = q.first.pos; is = get_end e.claims (claim.Target q.first.pos t) });
    }
    target_sound e (type.Array' p lengths shape row) t none is = nothing_asked e t (is.stands refl)
    target_sound e (type.Record' p base shape row) t none is = nothing_asked e t (is.stands refl)
    target_sound e (type.Pointer' p shape row) t none is = absurd (cc)
    target_sound e (type.Proc p flag formals) t none is = absurd (cc)
    target_sound e (type.Object' p base shape row body end) t none is = absurd (cc)

    pointer_sound : (may_be_open : Bool) (e : Env) → IsFit path e → (slot : Option TypeId) → IsSlotted slot → (at : Pos) (x : TypeExpr) (f : Env) (of : Option TypeId) →
        judge.is_no_target x of ≡ false → IsMet true (is_written x) e None (met f of) → IsMet may_be_open false e slot (judge.pointer_to slot at x (met f of))
    pointer_sound may_be_open e fit slot ok at x f None none is =
        record { beyond = is.beyond; of = of_slot may_be_open false slot f.types None (c.none_there f.types is.of.there) (λ h. tt) }
    pointer_sound may_be_open e fit slot ok at x f (Some t) none is =
        let target = target_sound f x t none is.of in
        let g = judge.claiming (judge.target_claims x t) f in
        let beyond = beyond_on e f g is.beyond target.beyond in
        met_on may_be_open false e g slot (judge.placed slot at (row.Pointer t) g) beyond
        (placed_sound may_be_open g (fit_beyond path e g fit beyond) slot ok at (row.Pointer t) refl (λ base ts. (λ e. cc, λ e. cc)) target.leads (λ p none. absurd none))

    pointer_behind_sound : (may_be_open : Bool) (e : Env) → IsFit path e → (slot : Option TypeId) → IsSlotted slot → (at : Pos) (x : TypeExpr) (m : Met) →
        IsMet true (is_written x) e None m → Holds (IsMet may_be_open false e slot) (judge.pointer_behind slot at x m)
    pointer_behind_sound may_be_open e fit slot ok at x m is = by (judge.is_no_target x m.of) refl
      where
        by : (b : Bool) → judge.is_no_target x m.of ≡ b →
            Holds (IsMet may_be_open false e slot) (if b then judged (breach 25 (judge.type_place x)) (met m.env None) else kept (judge.pointer_to slot at x m))
        by true none = broken (IsMet may_be_open false e slot) _ [] _
        by false none = λ h. pointer_sound may_be_open e fit slot ok at x m.env m.of none is

    pointer_in_sound : (may_be_open : Bool) (e : Env) → IsFit path e → (slot : Option TypeId) → IsSlotted slot → (at : Pos) (x : TypeExpr) →
        Holds (IsMet true (is_written x) e None) (judge.type_in true None e x) →
        Holds (IsMet may_be_open false e slot) (bind (judge.type_in true None e x) (λ m. judge.pointer_behind slot at x m))
    pointer_in_sound may_be_open e fit slot ok at x is =
        holds_bind (IsMet true (is_written x) e None) (IsMet may_be_open false e slot) (judge.type_in true None e x) (λ m. judge.pointer_behind slot at x m) is
        (λ m met. pointer_behind_sound may_be_open e fit slot ok at x m met)

    -- Parameters, which may be open arrays.

    record IsOpened (e : Env) (m : Met) : Type 0 where
      beyond : IsBeyond e m.env
      there : There m.env.types m.of

    one_opened : (e : Env) → IsFit path e → (at : Pos) (f : Env) (of : Option TypeId) → IsOpened e (met f of) → IsOpened e (heading.opened (at ∷ []) (met f of))
    one_opened e fit at f None is = is
    one_opened e fit at f (Some t) is =
        let g = (heading.opened (at ∷ []) (met f (Some t))).env in
        record {
          beyond = beyond_on e f g is.beyond (open_placed f (fit_beyond path e f fit is.beyond) at t is.there);
          there = c.pushed_open f.types t (fit_beyond path e f fit is.beyond).table;
        }

    opened_sound : (e : Env) → IsFit path e → (ats : List Pos) (m : Met) → IsOpened e m → IsOpened e (heading.opened ats m)
    opened_sound e fit [] m is = is
    opened_sound e fit (at ∷ ats) m is =
        let n = heading.opened ats m in one_opened e fit at n.env n.of (opened_sound e fit ats m is)

    pub record IsFormals (e : Env) (n : ℕ) (f : FormalsMet) : Type 0 where
      pub beyond : IsBeyond e f.env
      pub there : Each (λ (a : Parameter). There f.env.types a.of) f.parameters
      pub count : length f.parameters ≡ n

    section_sound : (e : Env) → IsFit path e → (n : ℕ) (f : FormalsMet) → IsFormals e n f → (s : Section) →
        Holds (IsFormals e (n + length s.names)) (heading.with_section f s)
    section_sound e fit n f is s =
        let here = fit_beyond path e f.env fit is.beyond in
        holds_bind (Known f.env.types) (IsFormals e (n + length s.names)) (named_type f.env s.of)
        (λ of. let m = heading.opened s.arrays (met f.env of) in
        kept (formals_met m.env (f.parameters ++ replicate (length s.names) (record { by_reference = s.by_reference; of = m.of }))))
        (named f.env here s.of)
        (λ of known h. more (heading.opened s.arrays (met f.env of))
        (opened_sound f.env here s.arrays (met f.env of) (record { beyond = beyond_same f.env; there = c.known_there f.env.types of known })))
      where
        more : (m : Met) → IsOpened f.env m →
            IsFormals e (n + length s.names) (formals_met m.env (f.parameters ++ replicate (length s.names) (record { by_reference = s.by_reference; of = m.of })))
        more m opened =
            let a : Parameter = record { by_reference = s.by_reference; of = m.of } in
            record {
              beyond = beyond_on e f.env m.env is.beyond opened.beyond;
              there =
                  joined (λ (a : Parameter). There m.env.types a.of) f.parameters (replicate (length s.names) a)
                  (implied (λ (a : Parameter). There f.env.types a.of) (λ (a : Parameter). There m.env.types a.of)
                  (λ a there. c.there_on f.env.types m.env.types opened.beyond.goes a.of there) f.parameters is.there)
                  (repeated (λ (a : Parameter). There m.env.types a.of) (length s.names) a opened.there);
              count = length-append f.parameters (replicate (length s.names) a) ∙ (λ i. is.count i + length-replicate (length s.names) a i);
            }

    sections_sound : (e : Env) → IsFit path e → (ss : List Section) (n : ℕ) (f : FormalsMet) → IsFormals e n f →
        Holds (IsFormals e (n + length (flat_map (λ (s : Section). s.names) ss))) (walk heading.with_section f ss)
    sections_sound e fit [] n f is = λ h. subst (λ n. IsFormals e n f) (let same : n ≡ n + 0 = omega arith in same) is
    sections_sound e fit (s ∷ ss) n f is =
        let rest = length (flat_map (λ (s : Section). s.names) ss) in
        let same : (n + length s.names) + rest ≡ n + length (s.names ++ flat_map (λ (s : Section). s.names) ss) =
        omega (arith, length-append s.names (flat_map (λ (s : Section). s.names) ss)) in
        subst (λ k. Holds (IsFormals e k) (walk heading.with_section f (s ∷ ss))) same
        (holds_bind (IsFormals e (n + length s.names)) (IsFormals e ((n + length s.names) + rest)) (heading.with_section f s) (λ g. walk heading.with_section g ss)
        (section_sound e fit n f is s) (λ g are. sections_sound e fit ss (n + length s.names) g are))

    -- Headings.

    abbrev AreGiven : List TypeRow → Option Qualident → Gives → Type 0
    AreGiven ts r g = (of : Option TypeId) → g ≡ gives.Value of → Known ts of × ((q : Qualident) × (r ≡ Some q))

    no_value : {of : Option TypeId} → gives.Nothing ≡ gives.Value of → ⊥
    no_value e = cc

    same_value : (a b : Option TypeId) → gives.Value a ≡ gives.Value b → a ≡ b
    same_value a b e = cc

    given_sound : (e : Env) → IsFit path e → (r : Option Qualident) → Holds (AreGiven e.types r) (heading.given e r)
    given_sound e fit None = λ h of is. absurd (no_value is)
    given_sound e fit (Some q) =
        holds_bind (Known e.types) (AreGiven e.types (Some q)) (named_type e q) (λ of. kept (gives.Value of)) (named e fit q)
        (λ of known h of' is. (subst (Known e.types) (same_value of of' is) known, (q, refl)))

    pub record IsHead (e : Env) (formals : Option Formals) (h : HeadingMet) : Type 0 where
      pub beyond : IsBeyond e h.env
      pub there : Each (λ (a : Parameter). There h.env.types a.of) h.signature.parameters
      pub count : length h.signature.parameters ≡ length (formal_names formals)
      pub result : (of : Option TypeId) → h.signature.gives ≡ gives.Value of → Known h.env.types of × HasResult formals

    pub head_sound : (e : Env) → IsFit path e → (formals : Option Formals) → Holds (IsHead e formals) (heading.formals_in e formals)
    head_sound e fit None = λ h. record { beyond = beyond_same e; there = tt; count = refl; result = λ of is. absurd (no_value is) }
    head_sound e fit (Some f) =
        let names = flat_map (λ (s : Section). s.names) f.sections in
        let same : 0 + length names ≡ length names = omega arith in
        holds_bind (IsFormals e (length names)) (IsHead e (Some f)) (walk heading.with_section (formals_met e []) f.sections)
        (λ s. bind (heading.given s.env f.result) (λ g. kept (heading_met s.env (record { parameters = s.parameters; gives = g; is_initializer = false }))))
        (subst (λ n. Holds (IsFormals e n) (walk heading.with_section (formals_met e []) f.sections)) same
        (sections_sound e fit f.sections 0 (formals_met e []) (record { beyond = beyond_same e; there = tt; count = refl })))
        (λ s are. holds_bind (AreGiven s.env.types f.result) (IsHead e (Some f)) (heading.given s.env f.result)
        (λ g. kept (heading_met s.env (record { parameters = s.parameters; gives = g; is_initializer = false })))
        (given_sound s.env (fit_beyond path e s.env fit are.beyond) f.result)
        (λ g is h. record {
          beyond = are.beyond;
          there = are.there;
          count = are.count;
          result = λ of value. let r = is of value in (r.0, record { whole = f; is = refl; name = r.1.0; result = r.1.1 });
        }))

    -- Procedure types: the types of their formals are there, and their results are known, of which it is asked that they are scalars.

    abbrev AreKnownFormals : List TypeRow → Option (List (Bool × TypeId)) → Type 0
    AreKnownFormals ts None = Known ts None
    AreKnownFormals ts (Some fs) = Each (λ (f : Bool × TypeId). There ts (Some f.1)) fs

    formal_sound : (ts : List TypeRow) (fs : Option (List (Bool × TypeId))) (by_reference : Bool) (of : Option TypeId) → AreKnownFormals ts fs → There ts of →
        AreKnownFormals ts (heading.with_formal fs (record { by_reference = by_reference; of = of }))
    formal_sound ts None by_reference of are there = are
    formal_sound ts (Some fs) by_reference None are there = c.none_there ts there
    formal_sound ts (Some fs) by_reference (Some t) are there = joined (λ (f : Bool × TypeId). There ts (Some f.1)) fs ((by_reference, t) ∷ []) are (there, tt)

    formals_sound : (ts : List TypeRow) (ps : List Parameter) (fs : Option (List (Bool × TypeId))) → AreKnownFormals ts fs → Each (λ (a : Parameter). There ts a.of) ps →
        AreKnownFormals ts (fold heading.with_formal fs ps)
    formals_sound ts [] fs are there = are
    formals_sound ts (p ∷ ps) fs are there =
        formals_sound ts ps (heading.with_formal fs p) (formal_sound ts fs p.by_reference p.of are there.0) there.1

    abbrev IsGivenOf : List TypeRow → List Claim → TypeId → Type 0
    IsGivenOf ts cs t = Known ts (Some t) × IsAskedResult cs t

    abbrev IsKnownResult : List TypeRow → List Claim → Option (Option TypeId) → Type 0
    IsKnownResult ts cs None = Known ts None
    IsKnownResult ts cs (Some r) = OfResult (IsGivenOf ts cs) r

    -- what is told of a heading's result
    abbrev IsToldGiven : List TypeRow → Option Formals → Gives → Type 0
    IsToldGiven ts formals g = (of : Option TypeId) → g ≡ gives.Value of → Known ts of × HasResult formals

    result_named : (formals : Option Formals) (r : HasResult formals) → heading.result_in formals ≡ Some r.name
    result_named formals r = ap heading.result_in r.is ∙ r.result

    asked_behind : (cs : List Claim) (q : Option Qualident) (t : TypeId) (name : Qualident) → q ≡ Some name →
        IsAskedResult (cs ++ heading.result_claims q (gives.Value (Some t))) t
    asked_behind cs None t name is = absurd (none-some name is)
    asked_behind cs (Some q) t name is = record { place = length cs; at = q.first.pos; is = get_end cs (claim.Result q.first.pos t) }

    result_sound : (ts : List TypeRow) (cs : List Claim) (formals : Option Formals) (g : Gives) → IsToldGiven ts formals g →
        IsKnownResult ts (cs ++ heading.result_claims (heading.result_in formals) g) (heading.known_result g)
    result_sound ts cs formals gives.Nothing told = tt
    result_sound ts cs formals (gives.Value None) told = (told None refl).0
    result_sound ts cs formals (gives.Value (Some t)) told =
        let r = told (Some t) refl in
        (r.0, asked_behind cs (heading.result_in formals) t r.1.name (result_named formals r.1))

    nothing_claimed : (e : Env) → IsBeyond e (judge.claiming [] e)
    nothing_claimed e = claimed e [] (λ a. subst (c.Agrees e.types e.here.records) (sym (append-nil e.claims)) a)

    result_claimed : (e : Env) (q : Option Qualident) (g : Gives) → IsBeyond e (judge.claiming (heading.result_claims q g) e)
    result_claimed e None g = nothing_claimed e
    result_claimed e (Some q) gives.Nothing = nothing_claimed e
    result_claimed e (Some q) (gives.Value None) = nothing_claimed e
    result_claimed e (Some q) (gives.Value (Some t)) =
        claimed e (claim.Result q.first.pos t ∷ []) (λ a. c.agree_result e.types e.here.records e.claims q.first.pos t a)

    row_sound : (may_be_open : Bool) (e : Env) → IsFit path e → (slot : Option TypeId) → IsSlotted slot → (at : Pos) (fs : Option (List (Bool × TypeId))) (r : Option (Option TypeId)) →
        AreKnownFormals e.types fs → IsKnownResult e.types e.claims r → IsMet may_be_open false e slot (heading.placed_row slot at (heading.procedure_row fs r) e)
    row_sound may_be_open e fit slot ok at None r are given = record { beyond = beyond_same e; of = of_slot may_be_open false slot e.types None are (λ h. never h) }
    row_sound may_be_open e fit slot ok at (Some fs) None are given = record { beyond = beyond_same e; of = of_slot may_be_open false slot e.types None given (λ h. never h) }
    row_sound may_be_open e fit slot ok at (Some fs) (Some r) are given =
        placed_sound may_be_open e fit slot ok at (row.Procedure fs r) refl (λ base ts. (λ e. cc, λ e. cc)) (are, given) (λ p none. absurd none)

    with_formals_sound : (may_be_open : Bool) (e : Env) → IsFit path e → (slot : Option TypeId) → IsSlotted slot → (at : Pos) (formals : Option Formals) →
        Holds (IsMet may_be_open false e slot) (heading.with_formals slot e at formals)
    with_formals_sound may_be_open e fit slot ok at formals =
        holds_bind (IsHead e formals) (IsMet may_be_open false e slot) (heading.formals_in e formals) (λ h. kept (heading.procedure_met slot at formals h)) (head_sound e fit formals)
        (λ h head none.
        let s = h.signature in
        let g = judge.claiming (heading.result_claims (heading.result_in formals) s.gives) h.env in
        let beyond = beyond_on e h.env g head.beyond (result_claimed h.env (heading.result_in formals) s.gives) in
        met_on may_be_open false e g slot (heading.procedure_met slot at formals h) beyond
        (row_sound may_be_open g (fit_beyond path e g fit beyond) slot ok at (heading.known_formals s.parameters) (heading.known_result s.gives)
        (formals_sound h.env.types s.parameters (Some []) tt head.there) (result_sound h.env.types h.env.claims formals s.gives head.result)))

    procedure_sound : (may_be_open : Bool) (e : Env) → IsFit path e → (slot : Option TypeId) → IsSlotted slot → (at : Pos) (flag : Option Name) (formals : Option Formals) →
        Holds (IsMet may_be_open false e slot) (heading.procedure_in slot e at flag formals)
    procedure_sound may_be_open e fit slot ok at None formals = with_formals_sound may_be_open e fit slot ok at formals
    procedure_sound may_be_open e fit slot ok at (Some n) formals =
        chosen (IsMet may_be_open false e slot) (is_word e.here.text (codes "DELEGATE") n) (heading.with_formals slot e at formals) (judge.refused_type 45 n.pos e)
        (with_formals_sound may_be_open e fit slot ok at formals) (broken (IsMet may_be_open false e slot) _ [] _)

    -- Types.

    -- an open array's elements may be of one
    abbrev held_written : {m : _} → Row_of-TypeExpr m → Bool
    held_written end_of-TypeExpr = false
    held_written (more_of-TypeExpr t ts) = is_written t

    mutual
      pub type_sound : (may_be_open : Bool) (e : Env) → IsFit path e → (slot : Option TypeId) → IsSlotted slot → IsAsked may_be_open slot → (of : TypeExpr) → IsOther of slot →
          Holds (IsMet may_be_open (is_written of) e slot) (judge.type_in may_be_open slot e of)
      type_sound may_be_open e fit slot ok asked (type.Named q) other =
          holds_bind (Known e.types) (IsMet may_be_open false e slot) (judge.named_type e q) (λ of. kept (met e of)) (named e fit q)
          (λ of known h. record { beyond = beyond_same e; of = of_slot may_be_open false slot e.types of known (λ h. never h) })
      type_sound may_be_open e fit slot ok asked (type.Array' p lengths shape row) other =
          array_in_sound may_be_open e fit slot ok asked p lengths (held_written row) (judge.held_in (may_be_open && judge.is_empty lengths) e row)
          (held_sound (may_be_open && judge.is_empty lengths) e fit row)
      type_sound may_be_open e fit slot ok asked (type.Record' p base shape row) other =
          record_sound may_be_open e fit slot ok p base (judge.field_names (items-the_row-Fields _ row)) (judge.fields_in (fields_met e [] empty) row)
          (fields_sound e fit (fields_met e [] empty) (record { beyond = beyond_same e; parts = tt; all = c.none_all }) row)
      type_sound may_be_open e fit slot ok asked (type.Pointer' p shape row) other = pointed_sound may_be_open e fit slot ok p row
      type_sound may_be_open e fit slot ok asked (type.Proc p flag formals) other = procedure_sound may_be_open e fit slot ok p flag formals
      type_sound may_be_open e fit None ok asked (type.Object' p base shape row body end) other =
          object_sound may_be_open e p base (items-the_row-Decl _ row) None (λ e. judge.members_in (members_met e [] []) row)
      type_sound may_be_open e fit (Some s) ok asked (type.Object' p base shape row body end) other = absurd other

      held_sound : {m : _} (may_be_open : Bool) (e : Env) → IsFit path e → (r : Row_of-TypeExpr m) → Holds (IsMet may_be_open (held_written r) e None) (judge.held_in may_be_open e r)
      held_sound may_be_open e fit end_of-TypeExpr = broken (IsMet may_be_open false e None) _ [] _
      held_sound may_be_open e fit (more_of-TypeExpr t ts) = type_sound may_be_open e fit None tt (asked_none may_be_open) t (other_none t)

      pointed_sound : {m : _} (may_be_open : Bool) (e : Env) → IsFit path e → (slot : Option TypeId) → IsSlotted slot → (at : Pos) (r : Row_of-TypeExpr m) →
          Holds (IsMet may_be_open false e slot) (judge.pointer_in slot e at r)
      pointed_sound may_be_open e fit slot ok at end_of-TypeExpr = broken (IsMet may_be_open false e slot) _ [] _
      pointed_sound may_be_open e fit slot ok at (more_of-TypeExpr t ts) = pointer_in_sound may_be_open e fit slot ok at t (type_sound true e fit None tt tt t (other_none t))

      fields_sound : {m : _} (e : Env) → IsFit path e → (f : FieldsMet) → AreFields e f → (r : Row_of-Fields m) → Holds (AreFields e) (judge.fields_in f r)
      fields_sound e fit f are end_of-Fields = λ h. are
      fields_sound e fit f are (more_of-Fields x xs) =
          holds_bind (AreFields e) (AreFields e) (judge.field_in f x) (λ g. judge.fields_in g xs) (field_sound e fit f are x) (λ g is. fields_sound e fit g is xs)

      field_sound : (e : Env) → IsFit path e → (f : FieldsMet) → AreFields e f → (x : Fields) → Holds (AreFields e) (judge.field_in f x)
      field_sound e fit f are fields.Empty = λ h. are
      field_sound e fit f are (fields.Of' defs of) =
          holds_bind (IsMet false (is_written of) f.env None) (AreFields e) (judge.type_in false None f.env of) (λ m. kept (judge.with_fields f defs m))
          (type_sound false f.env (fit_beyond path e f.env fit are.beyond) None tt tt of (other_none of))
          (λ m is h. more_fields e f are defs m.env m.of (plain false (is_written of) f.env m is))
