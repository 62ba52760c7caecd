-- Declarations and headings that break no rule: behind them the types of all variables and parameters are known, and all
-- constants are good.
use Rattle.std.proofs.Common.{◌≡◌, ℕ, zero, suc, ◌+◌, ◌<◌, ◌≤◌, ◌==◌, nat_eq, if◌then◌else◌, List, [], ◌∷◌, ◌++◌, length, replicate, Bool, true, false, Option, Some, None, slice_get, refl, sym, ap, ◌∙◌, subst, arith, length-append, length-set}
use Rattle.std.specs.List.{flat_map}
use Rattle.std.specs.Map.{lookup}
use Rattle.std.proofs.lemmas.List.{length-replicate}
use mathlib.Core.Logic.{◌⊎◌, inl, inr}
use Rattle.aos_base.specs.declared.text.Pos.{Pos}
use Rattle.aos_tree.specs.declared.name.Qualident.{Qualident}
use Rattle.aos_tree.specs.declared.decl.Def.{Def}
use Rattle.aos_tree.specs.declared.decl.Decl.{Decl, Row_of-VarDef, end_of-VarDef, more_of-VarDef, Row_of-Decl, end_of-Decl, more_of-Decl, items-the_row-TypeDef, items-the_row-VarDef, items-the_row-Decl}
use Rattle.aos_tree.specs.declared.decl.Decl.TheVariants as decl
use Rattle.aos_tree.specs.declared.decl.ConstDef.{ConstDef}
use Rattle.aos_tree.specs.declared.decl.TypeDef.{TypeDef}
use Rattle.aos_tree.specs.declared.decl.VarDef.{VarDef}
use Rattle.aos_tree.specs.declared.decl.TypeExpr.{TypeExpr}
use Rattle.aos_tree.specs.declared.decl.TypeExpr.TheVariants as type
use Rattle.aos_types.specs.declared.row.TypeId.{TypeId}
use Rattle.aos_types.specs.declared.row.TypeRow.{TypeRow}
use Rattle.aos_types.specs.declared.row.TypeRow.TheVariants as row
use Rattle.aos_types.specs.Chain.{base_list, IsOneOf}
use Rattle.aos_types.proofs.Reached.{one_of_both}
use Rattle.aos_typed.specs.declared.tree.Literal.{Literal}
use Rattle.aos_symbols.specs.declared.env.Claim.{Claim}
use Rattle.aos_symbols.specs.declared.home.ObjectScope.{ObjectScope}
use Rattle.aos_symbols.specs.Scope.{Scope}
use Rattle.aos_symbols.specs.declared.scope.Constant.{Constant}
use Rattle.aos_symbols.specs.declared.env.Open.{Open}
use Rattle.aos_symbols.specs.declared.env.Env.{Env}
use Rattle.aos_symbols.specs.Judged.{Judged, kept, bind, walk}
use Rattle.aos_symbols.specs.Declarations.{types_in, type_defs, singles_in, single_variables, inner_decls}
use Rattle.aos_symbols.specs.Home.{Home, add_constant, add_variable, object_of}
use Rattle.aos_symbols.specs.Env as env
use Rattle.aos_symbols.proofs.Each.{Each, joined, front, back, implied, repeated}
use Rattle.aos_symbols.proofs.Holds.{Holds, holds_bind, broken, none_left}
use Rattle.aos_check_expr.specs.Expressions.{constant}
use Rattle.aos_check_expr.proofs.Typing.{HasGood}
use Rattle.aos_check_expr.proofs.Typing.{constant_good as good_value}
use Rattle.aos_check_decl.specs.Types.{met, type_in}
use Rattle.aos_symbols.specs.Env.{nil}
use Rattle.aos_check_decl.specs.Types as types
use Rattle.aos_check_decl.specs.Types.{Met, MembersMet}
use Rattle.aos_check_decl.specs.Headings as judge
use Rattle.aos_check_decl.proofs.ObjectTypes.{IsObject}
use Rattle.aos_check_decl.proofs.TypingScopes.{AllGood, IsMore, no_more, same_more, more_and_more, variable_more, variable_good, variable_records, constant_more, constant_good, constant_records, IsOutside, variables_at, scope_at, more_elsewhere, fields_more, fields_here, fields_other, fields_good, fields_records, constant_same, variable_other}
use Rattle.aos_check_decl.proofs.TypingTypes.{Telling, IsSearched, IsSlotted, IsFit, IsBeyond, beyond_on, fit_beyond, IsMet, is_written, type_sound, other_none, IsOther, good_constants, base_sound, part_lost, each_of, chosen}
use Rattle.aos_made_types.proofs.TypingClaims.{IsBaseMet, base_met, claims_of_object}

abbrev pub is_name : TypeExpr → Bool
is_name (type.Named q) = true
is_name t = false

flat_none : {X Y : Type 0} (xs : List X) → flat_map (λ (x : X). let none : List Y = [] in none) xs ≡ []
flat_none [] = refl
flat_none (x ∷ xs) = flat_none xs

flat_each : {X : Type 0} (xs : List X) → flat_map (λ (x : X). x ∷ []) xs ≡ xs
flat_each [] = refl
flat_each (x ∷ xs) = ap (λ z. x ∷ z) (flat_each xs)

-- at a place with this path the number that a definition's name stands for, which is no name for another type, is that of the definition
abbrev pub HasSlot : Telling → List Open → TypeDef → Type 0
HasSlot c path d = is_name d.value ≡ false → (e : Env) → IsFit c path e → (t : TypeId) → judge.slot_in (env.lookup e d.def.name) ≡ Some t → c.IsNumber d t

module _ (c : Telling) (path : List Open) (searched : Each (IsSearched c) path) where
  open c use {Known, There, GoesTo}

  -- behind an environment, with these variables more in the innermost scope
  pub record IsGrown (more : List (Option TypeId)) (e e' : Env) : Type 0 where
    pub here : IsMore (env.innermost path) more e.here e'.here
    pub fit : IsFit c path e'
    pub goes : GoesTo e.types e'.types
    pub long : length e'.types + length e.places ≡ length e.types + length e'.places

  -- with so many variables more, whose types are known
  pub record IsBehind (n : ℕ) (e e' : Env) : Type 0 where
    pub more : List (Option TypeId)
    pub count : length more ≡ n
    pub known : Each (Known e'.types) more
    pub grown : IsGrown more e e'

  pub grown_on : (a b : List (Option TypeId)) (e f g : Env) → IsGrown a e f → IsGrown b f g → IsGrown (a ++ b) e g
  grown_on a b e f g one two =
      let m = one.long in
      let n = two.long in
      record {
        here = more_and_more (env.innermost path) a b e.here f.here g.here one.here two.here;
        fit = two.fit;
        goes = c.on e.types f.types g.types one.goes two.goes;
        long = omega (arith, m, n);
      }

  known_later : (ts us : List TypeRow) → GoesTo ts us → (vs : List (Option TypeId)) → Each (Known ts) vs → Each (Known us) vs
  known_later ts us goes vs known = implied (Known ts) (Known us) (c.known_on ts us goes) vs known

  pub behind_on : (m n : ℕ) (e f g : Env) → IsBehind m e f → IsBehind n f g → IsBehind (m + n) e g
  behind_on m n e f g one two = record {
    more = one.more ++ two.more;
    count = length-append one.more two.more ∙ (λ i. one.count i + two.count i);
    known = joined (Known g.types) one.more two.more (known_later f.types g.types two.grown.goes one.more one.known) two.known;
    grown = grown_on one.more two.more e f g one.grown two.grown;
  }

  pub grown_same : (e : Env) → IsFit c path e → IsGrown [] e e
  grown_same e fit = record { here = no_more (env.innermost path) e.here; fit = fit; goes = c.stays e.types; long = refl }

  nothing_more : (e : Env) → IsFit c path e → IsBehind 0 e e
  nothing_more e fit = record { more = []; count = refl; known = tt; grown = grown_same e fit }

  grown_later : (e f : Env) → IsFit c path e → IsBeyond c e f → IsGrown [] e f
  grown_later e f fit one = record {
    here = same_more (env.innermost path) e.here f.here one.name one.text one.first one.scopes one.signatures one.objects;
    fit = fit_beyond c path e f fit one;
    goes = one.goes;
    long = one.long;
  }

  later : (e f : Env) → IsFit c path e → IsBeyond c e f → IsBehind 0 e f
  later e f fit one = record { more = []; count = refl; known = tt; grown = grown_later e f fit one }

  -- scopes are changed alone
  changed : (e : Env) → IsFit c path e → (more : List (Option TypeId)) (h : Home) → IsMore (env.innermost e.path) more e.here h → AllGood h → h.records ≡ e.here.records →
      ((j : ℕ) → 0 < j → j ≤ c.inner → variables_at h.scopes j ≡ variables_at e.here.scopes j) → IsGrown more e (record e { here = h })
  changed e fit more h here good records same = record {
    here = subst (λ os. IsMore (env.innermost os) more e.here h) fit.path_is here;
    fit = record {
      number_is = fit.number_is;
      before_is = fit.before_is;
      name_is = here.name ∙ fit.name_is;
      text_is = here.text ∙ fit.text_is;
      first_is = here.first ∙ fit.first_is;
      names_are = λ j. here.names j ∙ fit.names_are j;
      path_is = fit.path_is;
      narrowed_is = fit.narrowed_is;
      good = good;
      table = fit.table;
      agrees = subst (λ rs. c.Agrees e.types rs e.claims) (sym records) fit.agrees;
      objects_is = here.objects ∙ fit.objects_is;
      filled = c.filled_scopes e.types e.here.scopes h.scopes same fit.filled;
    };
    goes = c.stays e.types;
    long = refl;
  }

  -- the innermost scope is no type's
  abbrev pub IsOut : Type 0
  IsOut = IsOutside (suc c.inner) (env.innermost path)

  pub one_variable : IsOut → (e : Env) → IsFit c path e → (of : Option TypeId) → IsGrown (of ∷ []) e (judge.with_variable e of)
  one_variable out e fit of =
      let k = env.innermost e.path in
      changed e fit (of ∷ []) (add_variable e.here k of) (variable_more e.here k of) (variable_good e.here k of fit.good) (variable_records e.here k of)
      (λ j some low. variable_other e.here k of j (λ same. inner out j some low (same ∙ ap env.innermost fit.path_is)))
    where
      inner : IsOut → (j : ℕ) → 0 < j → j ≤ c.inner → j ≡ env.innermost path → ⊥
      inner (inl own) j some low same = omega (arith, own, some, same)
      inner (inr high) j some low same = omega (arith, high, low, same)

  -- Variables.

  variables_behind : IsOut → (n : ℕ) (e : Env) → IsFit c path e → (of : Option TypeId) → Known e.types of → IsBehind n e (judge.with_variables e n of)
  variables_behind out zero e fit of known = nothing_more e fit
  variables_behind out (suc n) e fit of known =
      let f = judge.with_variable e of in
      let one = one_variable out e fit of in
      let two = variables_behind out n f one.fit of known in
      let g = judge.with_variables f n of in
      let m = two.count in
      record {
        more = (of ∷ []) ++ two.more;
        count = omega (arith, m, length-append (of ∷ []) two.more);
        known = joined (Known g.types) (of ∷ []) two.more (c.known_on e.types g.types two.grown.goes of known, tt) two.known;
        grown = grown_on (of ∷ []) two.more e f g one two.grown;
      }

  variable_sound : IsOut → (e : Env) → IsFit c path e → (v : VarDef) → Holds (IsBehind (length v.defs) e) (judge.variable_def e v)
  variable_sound out e fit v =
      holds_bind (IsMet c path searched false (is_written c path searched v.of) e None) (IsBehind (length v.defs) e) (type_in false None e v.of) (λ m. kept (judge.with_variables m.env (length v.defs) m.of))
      (type_sound c path searched false e fit None tt tt v.of (other_none c path searched v.of))
      (λ m is h. let f = fit_beyond c path e m.env fit is.beyond in
      let n = length v.defs in
      let same : 0 + n ≡ n = omega arith in
      subst (λ n. IsBehind n e (judge.with_variables m.env (length v.defs) m.of)) same
      (behind_on 0 n e m.env (judge.with_variables m.env n m.of) (later e m.env fit is.beyond) (variables_behind out n m.env f m.of (is.of.known refl))))

  -- Constants.

  pub constant_grown : (e : Env) → IsFit c path e → (d : ConstDef) → Holds (IsGrown [] e) (judge.constant_def e d)
  constant_grown e fit d =
      holds_bind HasGood (IsGrown [] e) (constant e d.value) (λ v. kept (judge.with_constant e d.def.name.pos v)) (good_value e (good_constants c path searched e fit) d.value)
      (λ v is h. one v is)
    where
      one : (v : Option Literal) → HasGood v → IsGrown [] e (judge.with_constant e d.def.name.pos v)
      one v is =
          let k = env.innermost e.path in
          let x : Constant = record { at = d.def.name.pos; value = v } in
          changed e fit [] (add_constant e.here k x) (constant_more e.here k x) (constant_good e.here k x is fit.good) (constant_records e.here k x)
          (λ j some low. constant_same e.here k x j)

  constant_sound : (e : Env) → IsFit c path e → (d : ConstDef) → Holds (IsBehind 0 e) (judge.constant_def e d)
  constant_sound e fit d none = record { more = []; count = refl; known = tt; grown = constant_grown e fit d none }

  constants_grown : (cs : List ConstDef) (e : Env) → IsFit c path e → Holds (IsGrown [] e) (walk judge.constant_def e cs)
  constants_grown [] e fit = λ h. grown_same e fit
  constants_grown (x ∷ xs) e fit =
      holds_bind (IsGrown [] e) (IsGrown [] e) (judge.constant_def e x) (λ f. walk judge.constant_def f xs) (constant_grown e fit x)
      (λ f one h. grown_on [] [] e f (walk judge.constant_def f xs).answer one (constants_grown xs f one.fit h))

  -- What is declared in an object type.

  -- so many fields
  pub record AreMembers (e : Env) (k : ℕ) (f : MembersMet) : Type 0 where
    pub grown : IsGrown [] e f.env
    pub parts : Each (λ t. Known f.env.types (Some t)) f.types
    pub all : c.AreAll f.variables f.types
    pub count : length f.variables ≡ k

  members_are : (e : Env) (j k : ℕ) (f : MembersMet) → j ≡ k → AreMembers e j f → AreMembers e k f
  members_are e j k f same are = subst (λ n. AreMembers e n f) same are

  field_member : (e : Env) (k : ℕ) (f : MembersMet) → AreMembers e k f → (ds : List Def) (of : TypeExpr) →
      Holds (AreMembers e (k + length ds)) (bind (type_in false None f.env of) (λ m. kept (types.with_members f (length ds) m)))
  field_member e k f are ds of =
      holds_bind (IsMet c path searched false (is_written c path searched of) f.env None) (AreMembers e (k + length ds)) (type_in false None f.env of)
      (λ m. kept (types.with_members f (length ds) m)) (type_sound c path searched false f.env are.grown.fit None tt tt of (other_none c path searched of))
      (λ m is h. record {
        grown = grown_on [] [] e f.env m.env are.grown (grown_later f.env m.env are.grown.fit is.beyond);
        parts =
            joined (λ t. Known m.env.types (Some t)) f.types (types.fields_of (length ds) m.of)
            (implied (λ t. Known f.env.types (Some t)) (λ t. Known m.env.types (Some t)) (λ t known. c.known_on f.env.types m.env.types is.beyond.goes (Some t) known) f.types are.parts)
            (new m.env.types m.of (is.of.known refl));
        all = c.more_all m.env.types f.variables f.types (length ds) m.of (is.of.known refl) are.all;
        count = length-append f.variables (replicate (length ds) m.of) ∙ (λ i. are.count i + length-replicate (length ds) m.of i);
      })
    where
      new : (ts : List TypeRow) (of : Option TypeId) → Known ts of → Each (λ t. Known ts (Some t)) (types.fields_of (length ds) of)
      new ts None known = tt
      new ts (Some t) known = repeated (λ t. Known ts (Some t)) (length ds) t known

  abbrev fields_in : {n : _} → Row_of-VarDef n → ℕ
  fields_in row = length (flat_map (λ (v : VarDef). v.defs) (items-the_row-VarDef _ row))

  fields_members : {n : _} (e : Env) (k : ℕ) (f : MembersMet) → AreMembers e k f → (row : Row_of-VarDef n) → Holds (AreMembers e (k + fields_in row)) (types.variables_in f row)
  fields_members e k f are end_of-VarDef = λ h. members_are e k (k + 0) f (omega arith) are
  fields_members e k f are (more_of-VarDef defs of ds) =
      let rest = flat_map (λ (v : VarDef). v.defs) (items-the_row-VarDef _ ds) in
      let all : (k + length defs) + length rest ≡ k + length (defs ++ rest) = omega (arith, length-append defs rest) in
      holds_bind (AreMembers e (k + length defs)) (AreMembers e (k + length (defs ++ rest))) (bind (type_in false None f.env of) (λ m. kept (types.with_members f (length defs) m)))
      (λ g. types.variables_in g ds) (field_member e k f are defs of)
      (λ g is h. members_are e ((k + length defs) + length rest) (k + length (defs ++ rest)) (types.variables_in g ds).answer all (fields_members e (k + length defs) g is ds h))

  member_sound : (e : Env) (k : ℕ) (f : MembersMet) → AreMembers e k f → (d : Decl) → Holds (AreMembers e (k + length (singles_in d))) (types.member_in f d)
  member_sound e k f are (decl.Consts p cs) =
      holds_bind (IsGrown [] f.env) (AreMembers e (k + 0)) (walk judge.constant_def f.env cs) (λ g. kept (types.members_met g f.types f.variables)) (constants_grown cs f.env are.grown.fit)
      (λ g more h. record {
        grown = grown_on [] [] e f.env g are.grown more;
        parts = implied (λ t. Known f.env.types (Some t)) (λ t. Known g.types (Some t)) (λ t known. c.known_on f.env.types g.types more.goes (Some t) known) f.types are.parts;
        all = are.all;
        count = let n = are.count in omega (arith, n);
      })
  member_sound e k f are (decl.Types' p shape row) = λ h. members_are e k (k + 0) f (omega arith) are
  member_sound e k f are (decl.Vars' p shape row) = fields_members e k f are row
  member_sound e k f are (decl.Proc' o shape row) = λ h. members_are e k (k + 0) f (omega arith) are

  abbrev pub variables_in : {n : _} → Row_of-Decl n → ℕ
  variables_in row = length (single_variables (items-the_row-Decl _ row))

  pub members_sound : {n : _} (e : Env) (k : ℕ) (f : MembersMet) → AreMembers e k f → (row : Row_of-Decl n) → Holds (AreMembers e (k + variables_in row)) (types.members_in f row)
  members_sound e k f are end_of-Decl = λ h. members_are e k (k + 0) f (omega arith) are
  members_sound e k f are (more_of-Decl d ds) =
      let rest = single_variables (items-the_row-Decl _ ds) in
      let all : (k + length (singles_in d)) + length rest ≡ k + length (singles_in d ++ rest) = omega (arith, length-append (singles_in d) rest) in
      holds_bind (AreMembers e (k + length (singles_in d))) (AreMembers e (k + length (singles_in d ++ rest))) (types.member_in f d) (λ g. types.members_in g ds) (member_sound e k f are d)
      (λ g is h. members_are e ((k + length (singles_in d)) + length rest) (k + length (singles_in d ++ rest)) (types.members_in g ds).answer all
      (members_sound e (k + length (singles_in d)) g is ds h))

module _ (c : Telling) (path : List Open) (searched : Each (IsSearched c) path) where
  open c use {Known, There, GoesTo}

  abbrev Slotted : TypeDef → Type 0
  Slotted = HasSlot c path

  abbrev Grown : List (Option TypeId) → Env → Env → Type 0
  Grown = IsGrown c path searched

  abbrev Behind : ℕ → Env → Env → Type 0
  Behind = IsBehind c path searched

  -- An object type, which a definition names.

  record IsObjectMet (e : Env) (t : TypeId) (m : Met) : Type 0 where
    of_is : m.of ≡ Some t
    grown : Grown [] e m.env

  module _ (out : IsOut c path searched) (e : Env) (fit : IsFit c path e) (t : TypeId) (ok : c.IsSlot t) (o : ObjectScope) (at_is : object_of e.here t ≡ Some o)
      (at : Pos) (q : Option Qualident) (ds : List Decl) where
    abbrev inside_path : List Open
    inside_path = record { home = c.number; scope = o.scope } ∷ path

    inside_searched : Each (IsSearched c) inside_path
    inside_searched = (inr (inl refl), searched)

    abbrev entered : Env
    entered = env.within e o.scope

    enter_fit : IsFit c inside_path entered
    enter_fit = record {
      number_is = fit.number_is;
      before_is = fit.before_is;
      name_is = fit.name_is;
      text_is = fit.text_is;
      first_is = fit.first_is;
      names_are = fit.names_are;
      path_is = (λ i. record { home = fit.number_is i; scope = o.scope } ∷ fit.path_is i);
      narrowed_is = fit.narrowed_is;
      good = fit.good;
      table = fit.table;
      agrees = fit.agrees;
      objects_is = fit.objects_is;
      filled = fit.filled;
    }

    there : lookup (λ k. nat_eq t.0 k) c.objects ≡ Some o
    there = ap (lookup (λ k. nat_eq t.0 k)) (sym fit.objects_is) ∙ at_is

    -- its scope is that of a type
    inner : IsOutside e.here.first o.scope → ⊥
    inner (inl own) = let p = (c.places t o there).0 in omega (arith, p, own)
    inner (inr high) = let p = (c.places t o there).1 in let f = fit.first_is in omega (arith, p, high, f)

    outside : IsOutside e.here.first (env.innermost path)
    outside = subst (λ n. IsOutside n (env.innermost path)) (sym fit.first_is) out

    module _ (b : Option TypeId) (base : IsBaseMet (Known e.types) q b) (f : MembersMet) (are : AreMembers c inside_path inside_searched entered (c.fields o.scope) f) where
      abbrev h : Home
      h = f.env.here

      abbrev own : List TypeId
      own = types.own_types q b f.types (length f.variables)

      abbrev r : TypeRow
      r = row.Object b own

      abbrev claims : List Claim
      claims = types.object_claims q (types.own_fields ds) (types.own_methods ds) b t

      abbrev g : Env
      g = (types.object_met t at q ds b own (types.with_own_fields o.scope f.variables (env.back_at e.path f.env))).env

      base_later : (q : Option Qualident) → IsBaseMet (Known e.types) q b → IsBaseMet (Known f.env.types) q b
      base_later None met = met
      base_later (Some x) met = c.known_on e.types f.env.types are.grown.goes b met

      -- its fields' types, or none of them
      own_known : ((p : TypeId) → IsOneOf p own → c.Known f.env.types (Some p)) × c.AreAll f.variables own
      own_known = by (types.are_parts_known q b (length f.types) (length f.variables)) refl
        where
          by : (z : Bool) → types.are_parts_known q b (length f.types) (length f.variables) ≡ z →
              ((p : TypeId) → IsOneOf p (if z then f.types else []) → c.Known f.env.types (Some p)) × c.AreAll f.variables (if z then f.types else [])
          by true is = (λ p one. each_of (λ t. c.Known f.env.types (Some t)) f.types are.parts p one, are.all)
          by false is =
              let none = part_lost c inside_path inside_searched f.env.types q b f.types f.variables (base_later q base) are.all is in
              (λ p one. absurd one, c.any_all f.env.types none f.variables [])

      each : (p : TypeId) → IsOneOf p (base_list b ++ own) → c.Known f.env.types (Some p)
      each p one = either (one_of_both p (base_list b) own one)
        where
          either : IsOneOf p (base_list b) ⊎ IsOneOf p own → c.Known f.env.types (Some p)
          either (inl x) = base_met (Known f.env.types) q b (base_later q base) p x
          either (inr x) = own_known.0 p x

      fields : IsMore (env.innermost path) [] h g.here
      fields = fields_more h (env.innermost path) o.scope f.variables (subst (λ n. IsOutside n (env.innermost path)) (sym are.grown.here.first) outside)
          (λ x. inner (subst (λ n. IsOutside n o.scope) are.grown.here.first x))

      scope_there : (s : Scope) × (slice_get h.scopes o.scope ≡ Some s)
      scope_there =
          let ns = c.inner_there o.scope (c.places t o there).1 in
          let s = scope_at h.scopes o.scope ns.0 (are.grown.fit.names_are o.scope ∙ ns.1) in
          (s.0, s.1)

      goes : GoesTo f.env.types g.types
      goes = c.set f.env.types t r are.grown.fit.table ok refl (λ p one. c.known_there f.env.types (Some p) (each p one))

      object_grown : Grown [] e g
      object_grown =
          let m = are.grown.long in
          record {
            here = more_and_more (env.innermost path) [] [] e.here h g.here (more_elsewhere (env.innermost path) o.scope e.here h are.grown.here outside inner) fields;
            fit = record {
              number_is = are.grown.fit.number_is;
              before_is = are.grown.fit.before_is;
              name_is = fields.name ∙ are.grown.fit.name_is;
              text_is = fields.text ∙ are.grown.fit.text_is;
              first_is = fields.first ∙ are.grown.fit.first_is;
              names_are = λ j. fields.names j ∙ are.grown.fit.names_are j;
              path_is = fit.path_is;
              narrowed_is = are.grown.fit.narrowed_is;
              good = fields_good h o.scope f.variables are.grown.fit.good;
              table = c.on c.first f.env.types g.types are.grown.fit.table goes;
              agrees = subst (λ rs. c.Agrees g.types rs g.claims) (sym (fields_records h o.scope f.variables))
                  (c.agree_object_set f.env.types h.records f.env.claims t b own claims are.grown.fit.table ok
                  (claims_of_object (Known f.env.types) q (types.own_fields ds) (types.own_methods ds) b t (base_later q base)) each are.grown.fit.agrees);
              objects_is = fields.objects ∙ are.grown.fit.objects_is;
              filled = c.filled_placed f.env.types h.scopes g.here.scopes t o b own f.variables are.grown.fit.table ok there
                  (fields_here h o.scope f.variables scope_there.0 scope_there.1) (λ j other. fields_other h o.scope j f.variables other) own_known.1 are.count are.grown.fit.filled;
            };
            goes = c.on e.types f.env.types g.types are.grown.goes goes;
            long = ap (λ n. n + length e.places) (length-set f.env.types t.0 r) ∙ m;
          }

    object_placed : {n : _} (row : Row_of-Decl n) → c.fields o.scope ≡ variables_in c inside_path inside_searched row →
        Holds (IsObjectMet e t) (types.object_with e at q ds t o.scope (types.members_in (types.members_met entered [] []) row))
    object_placed row many =
        let members = types.members_in (types.members_met entered [] []) row in
        let made = λ (b : Option TypeId) (f : MembersMet). types.object_met t at q ds b (types.own_types q b f.types (length f.variables)) (types.with_own_fields o.scope f.variables (env.back_at e.path f.env)) in
        holds_bind (IsBaseMet (Known e.types) q) (IsObjectMet e t) (types.base_in e q) (λ b. bind members (λ f. kept (made b f))) (base_sound c path searched e fit q)
        (λ b base. holds_bind (AreMembers c inside_path inside_searched entered (c.fields o.scope)) (IsObjectMet e t) members (λ f. kept (made b f))
        (λ h. members_are c inside_path inside_searched entered (0 + variables_in c inside_path inside_searched row) (c.fields o.scope) members.answer (omega (arith, many))
        (members_sound c inside_path inside_searched entered 0 (types.members_met entered [] [])
        (record { grown = grown_same c inside_path inside_searched entered enter_fit; parts = tt; all = c.none_all; count = refl }) row h))
        (λ f are h. record { of_is = refl; grown = object_grown b base f are }))

  -- it declares as many fields as its definition
  abbrev IsWholeType : {n : _} → TypeId → Row_of-Decl n → Type 0
  IsWholeType t row = (o : ObjectScope) → lookup (λ k. nat_eq t.0 k) c.objects ≡ Some o → c.fields o.scope ≡ length (single_variables (items-the_row-Decl _ row))

  object_sound : (out : IsOut c path searched) (e : Env) → IsFit c path e → (t : TypeId) → c.IsSlot t → (at : Pos) (q : Option Qualident) (ds : List Decl)
      {n : _} (row : Row_of-Decl n) → IsWholeType t row → (o : Option ObjectScope) → object_of e.here t ≡ o →
      Holds (IsObjectMet e t) (types.object_in (Some t) o e at q ds (λ e. types.members_in (types.members_met e [] []) row))
  object_sound out e fit t ok at q ds row many None is =
      chosen (IsObjectMet e t) (env.innermost e.path == 0) (types.refused_type 26 at e) (types.refused_type 26 at e) (broken (IsObjectMet e t) _ [] _) (broken (IsObjectMet e t) _ [] _)
  object_sound out e fit t ok at q ds row many (Some o) is =
      chosen (IsObjectMet e t) (env.innermost e.path == 0)
      (types.object_with e at q ds t o.scope (types.members_in (types.members_met (env.within e o.scope) [] []) row)) (types.refused_type 26 at e)
      (object_placed out e fit t ok o is at q ds row (many o (ap (lookup (λ k. nat_eq t.0 k)) (sym fit.objects_is) ∙ is))) (broken (IsObjectMet e t) _ [] _)

  -- Types that are defined.

  settled_beyond : (whole : Bool) (e : Env) → IsFit c path e → (slot : Option TypeId) → IsSlotted c slot → (f : Env) (of : Option TypeId) →
      IsMet c path searched false whole e slot (met f of) →
      IsBeyond c e (judge.settled slot (met f of))
  settled_beyond whole e fit (Some t) ok f None is =
      let g = judge.settled (Some t) (met f None) in
      beyond_on c e f g is.beyond (
      record {
        number = refl;
        before = refl;
        name = refl;
        text = refl;
        first = refl;
        scopes = refl;
        signatures = refl;
        objects = refl;
        filled = c.filled_set f.types f.here.scopes t (row.Open nil) ok.1;
        path = refl;
        narrowed = refl;
        agree = c.agree_unsettled f.types f.here.records f.claims t is.of;
        goes = c.unsettled f.types t (fit_beyond c path e f fit is.beyond).table ok.0 is.of;
        long = ap (λ n. n + length f.places) (length-set f.types t.0 (row.Open nil));
      }
      )
  settled_beyond whole e fit (Some t) ok f (Some u) is = is.beyond
  settled_beyond whole e fit None ok f of is = is.beyond

  defined_sound : (e : Env) → IsFit c path e → (slot : Option TypeId) → IsSlotted c slot → (of : TypeExpr) → IsOther c path searched of slot → Holds (Behind 0 e) (judge.defined e slot of)
  defined_sound e fit slot ok of other =
      holds_bind (IsMet c path searched false (is_written c path searched of) e slot) (Behind 0 e) (type_in false slot e of) (λ m. kept (judge.settled slot m))
      (type_sound c path searched false e fit slot ok tt of other)
      (λ m is h. later c path searched e (judge.settled slot m) fit (settled_beyond (is_written c path searched of) e fit slot ok m.env m.of is))

  -- an object type's number isn't settled
  not_settled : (e : Env) (t : TypeId) (m : Met) → IsObjectMet e t m → Grown [] e (judge.settled (Some t) m)
  not_settled e t m is = subst (λ of. Grown [] e (judge.settled (Some t) (met m.env of))) (sym is.of_is) is.grown

  object_defined : IsOut c path searched → (e : Env) → IsFit c path e → (t : TypeId) → c.IsSlot t → (of : TypeExpr) → IsObject of →
      ((o : ObjectScope) → lookup (λ k. nat_eq t.0 k) c.objects ≡ Some o → c.fields o.scope ≡ length (single_variables (inner_decls of))) →
      Holds (Behind 0 e) (judge.defined e (Some t) of)
  object_defined out e fit t ok (type.Object' at q shape row body end) is many =
      holds_bind (IsObjectMet e t) (Behind 0 e) (type_in false (Some t) e (type.Object' at q shape row body end)) (λ m. kept (judge.settled (Some t) m))
      (object_sound out e fit t ok at q (items-the_row-Decl _ row) row many (object_of e.here t) refl)
      (λ m is h. record { more = []; count = refl; known = tt; grown = not_settled e t m is })
  object_defined out e fit t ok (type.Named q) is many = absurd is
  object_defined out e fit t ok (type.Array' p lengths shape row) is many = absurd is
  object_defined out e fit t ok (type.Record' p base shape row) is many = absurd is
  object_defined out e fit t ok (type.Pointer' p shape row) is many = absurd is
  object_defined out e fit t ok (type.Proc p flag formals) is many = absurd is

  -- what the name of a definition stands for is its number
  abbrev IsOwn : Env → Def → TypeExpr → Type 0
  IsOwn e def of = (t : TypeId) → judge.slot_in (env.lookup e def.name) ≡ Some t → c.IsNumber (record { def = def; value = of }) t

  -- where no object type's is, or one that may stand there
  type_by : (e : Env) → IsFit c path e → (def : Def) (of : TypeExpr) → Slotted (record { def = def; value = of }) →
      (IsObject of → IsOwn e def of → Holds (Behind 0 e) (judge.defined e (judge.slot_in (env.lookup e def.name)) of)) →
      Holds (Behind 0 e) (judge.type_def e (record { def = def; value = of }))
  type_by e fit def of slot object = by of slot object
    where
      slot_of : (of : TypeExpr) → (IsObject of → ⊥) → IsOwn e def of → (o : Option TypeId) → judge.slot_in (env.lookup e def.name) ≡ o → IsSlotted c o
      slot_of of never ok None is = tt
      slot_of of never ok (Some t) is = let d : TypeDef = record { def = def; value = of } in (c.slot_of d t (ok t is), c.bare d t (ok t is) never)

      other : (of : TypeExpr) → ((slot : Option TypeId) → IsOther c path searched of slot) → (IsObject of → ⊥) → IsOwn e def of → Holds (Behind 0 e) (judge.defined e (judge.slot_in (env.lookup e def.name)) of)
      other of plain never ok = let o = judge.slot_in (env.lookup e def.name) in defined_sound e fit o (slot_of of never ok o refl) of (plain o)

      by : (of : TypeExpr) → Slotted (record { def = def; value = of }) →
          (IsObject of → IsOwn e def of → Holds (Behind 0 e) (judge.defined e (judge.slot_in (env.lookup e def.name)) of)) →
          Holds (Behind 0 e) (judge.type_def e (record { def = def; value = of }))
      by (type.Named q) slot object = λ h. nothing_more c path searched e fit
      by (type.Array' p lengths shape row) slot object = other (type.Array' p lengths shape row) (λ o. tt) (λ h. h) (slot refl e fit)
      by (type.Record' p base shape row) slot object = other (type.Record' p base shape row) (λ o. tt) (λ h. h) (slot refl e fit)
      by (type.Pointer' p shape row) slot object = other (type.Pointer' p shape row) (λ o. tt) (λ h. h) (slot refl e fit)
      by (type.Proc p flag formals) slot object = other (type.Proc p flag formals) (λ o. tt) (λ h. h) (slot refl e fit)
      by (type.Object' p base shape row body end) slot object = object tt (slot refl e fit)

  -- an object type at a place of the module
  object_there : IsOut c path searched → (e : Env) → IsFit c path e → (def : Def) (of : TypeExpr) → IsObject of → IsOwn e def of → (o : Option TypeId) →
      judge.slot_in (env.lookup e def.name) ≡ o → Holds (Behind 0 e) (judge.defined e o of)
  object_there out e fit def of kind ok None is = defined_sound e fit None tt of (other_none c path searched of)
  object_there out e fit def of kind ok (Some t) is =
      let d : TypeDef = record { def = def; value = of } in
      object_defined out e fit t (c.slot_of d t (ok t is)) of kind (λ o at. c.many d t o (ok t is) at)

  type_def_sound : IsOut c path searched → (e : Env) → IsFit c path e → (d : TypeDef) → Slotted d → Holds (Behind 0 e) (judge.type_def e d)
  type_def_sound out e fit d slot =
      type_by e fit d.def d.value slot (λ kind ok. object_there out e fit d.def d.value kind ok (judge.slot_in (env.lookup e d.def.name)) refl)

  -- and none within another type or a procedure

  abbrev pub IsInside : Type 0
  IsInside = (env.innermost path == 0) ≡ false

  module _ (deep : IsInside) (e : Env) (fit : IsFit c path e) where
    refused_there : (b : Bool) (i : Judged Met) (at : Pos) → b ≡ false → (if b then i else types.refused_type 26 at e).breaches ≡ [] → ⊥
    refused_there true i at never none = let e : true ≡ false = never in absurd (cc)
    refused_there false i at never none = absurd (cc)

    here : (env.innermost e.path == 0) ≡ false
    here = ap (λ os. env.innermost os == 0) fit.path_is ∙ deep

    no_object : (at : Pos) (q : Option Qualident) (ds : List Decl) (members : Env → Judged MembersMet) (slot : Option TypeId) (o : Option ObjectScope) →
        (types.object_in slot o e at q ds members).breaches ≡ [] → ⊥
    no_object at q ds members None o none = refused_there (env.innermost e.path == 0) (types.refused_type 26 at e) at here none
    no_object at q ds members (Some t) None none = refused_there (env.innermost e.path == 0) (types.refused_type 26 at e) at here none
    no_object at q ds members (Some t) (Some o) none =
        refused_there (env.innermost e.path == 0) (types.object_with e at q ds t o.scope (members (env.within e o.scope))) at here none

    object_inside : (of : TypeExpr) → IsObject of → (slot : Option TypeId) → Holds (Behind 0 e) (judge.defined e slot of)
    object_inside (type.Object' at q shape row body end) kind slot = λ none.
        let met = types.type_in false slot e (type.Object' at q shape row body end) in
        absurd (no_object at q (items-the_row-Decl _ row) (λ e. types.members_in (types.members_met e [] []) row) slot (types.object_slot e slot) (none_left met.breaches [] none))
    object_inside (type.Named q) kind slot = absurd kind
    object_inside (type.Array' p lengths shape row) kind slot = absurd kind
    object_inside (type.Record' p base shape row) kind slot = absurd kind
    object_inside (type.Pointer' p shape row) kind slot = absurd kind
    object_inside (type.Proc p flag formals) kind slot = absurd kind

    type_inside : (d : TypeDef) → Slotted d → Holds (Behind 0 e) (judge.type_def e d)
    type_inside d slot = type_by e fit d.def d.value slot (λ kind ok. object_inside d.value kind (judge.slot_in (env.lookup e d.def.name)))

  -- Declarations one after another.

  walked : {X : Type 0} (step : Env → X → Judged Env) (vs : X → List Def) (ds : X → List TypeDef) →
      ((e : Env) → IsFit c path e → (x : X) → Each Slotted (ds x) → Holds (Behind (length (vs x)) e) (step e x)) →
      (xs : List X) → Each Slotted (flat_map ds xs) → (e : Env) → IsFit c path e → Holds (Behind (length (flat_map vs xs)) e) (walk step e xs)
  walked step vs ds each [] slots e fit = λ h. nothing_more c path searched e fit
  walked step vs ds each (x ∷ xs) slots e fit =
      holds_bind (Behind (length (vs x)) e) (Behind (length (vs x ++ flat_map vs xs)) e) (step e x) (λ f. walk step f xs)
      (each e fit x (front Slotted (ds x) (flat_map ds xs) slots))
      (λ f one h. subst (λ n. Behind n e (walk step f xs).answer) (sym (length-append (vs x) (flat_map vs xs)))
      (behind_on c path searched (length (vs x)) (length (flat_map vs xs)) e f (walk step f xs).answer one
      (walked step vs ds each xs (back Slotted (ds x) (flat_map ds xs) slots) f one.grown.fit h)))

  declared_sound : IsOut c path searched → (e : Env) → IsFit c path e → (d : Decl) → Each Slotted (types_in d) → Holds (Behind (length (singles_in d)) e) (judge.declared e d)
  declared_sound out e fit (decl.Consts p cs) slots =
      subst (λ (vs : List Def). Holds (Behind (length vs) e) (walk judge.constant_def e cs)) (flat_none {X = ConstDef} {Y = Def} cs)
      (walked judge.constant_def (λ k. []) (λ k. []) (λ e fit k slots. constant_sound c path searched e fit k) cs (subst (Each Slotted) (sym (flat_none {X = ConstDef} {Y = TypeDef} cs)) tt) e fit)
  declared_sound out e fit (decl.Types' p shape row) slots =
      let ds = items-the_row-TypeDef _ row in
      subst (λ (vs : List Def). Holds (Behind (length vs) e) (walk judge.type_def e ds)) (flat_none {X = TypeDef} {Y = Def} ds)
      (walked judge.type_def (λ d. []) (λ d. d ∷ []) (λ e fit d slots. type_def_sound out e fit d slots.0) ds (subst (Each Slotted) (sym (flat_each ds)) slots) e fit)
  declared_sound out e fit (decl.Vars' p shape row) slots =
      let vs = items-the_row-VarDef _ row in
      walked judge.variable_def (λ v. v.defs) (λ v. []) (λ e fit v slots. variable_sound c path searched out e fit v) vs (subst (Each Slotted) (sym (flat_none {X = VarDef} {Y = TypeDef} vs)) tt) e fit
  declared_sound out e fit (decl.Proc' o shape row) slots = λ h. nothing_more c path searched e fit

  pub declarations_sound : IsOut c path searched → (ds : List Decl) → Each Slotted (type_defs ds) → (e : Env) → IsFit c path e →
      Holds (Behind (length (single_variables ds)) e) (walk judge.declared e ds)
  declarations_sound out ds slots e fit = walked judge.declared singles_in types_in (declared_sound out) ds slots e fit

  -- The types among the declarations of an object type.

  inner_declared_sound : IsInside → (e : Env) → IsFit c path e → (d : Decl) → Each Slotted (types_in d) → Holds (Behind 0 e) (judge.inner_declared e d)
  inner_declared_sound deep e fit (decl.Consts p cs) slots = λ h. nothing_more c path searched e fit
  inner_declared_sound deep e fit (decl.Types' p shape row) slots =
      let ds = items-the_row-TypeDef _ row in
      subst (λ (vs : List Def). Holds (Behind (length vs) e) (walk judge.type_def e ds)) (flat_none {X = TypeDef} {Y = Def} ds)
      (walked judge.type_def (λ d. []) (λ d. d ∷ []) (λ e fit d slots. type_inside deep e fit d slots.0) ds (subst (Each Slotted) (sym (flat_each ds)) slots) e fit)
  inner_declared_sound deep e fit (decl.Vars' p shape row) slots = λ h. nothing_more c path searched e fit
  inner_declared_sound deep e fit (decl.Proc' o shape row) slots = λ h. nothing_more c path searched e fit

  pub inner_sound : IsInside → (ds : List Decl) → Each Slotted (type_defs ds) → (e : Env) → IsFit c path e → Holds (Behind 0 e) (walk judge.inner_declared e ds)
  inner_sound deep ds slots e fit =
      subst (λ (vs : List Def). Holds (Behind (length vs) e) (walk judge.inner_declared e ds)) (flat_none {X = Decl} {Y = Def} ds)
      (walked judge.inner_declared (λ d. []) types_in (inner_declared_sound deep) ds slots e fit)
