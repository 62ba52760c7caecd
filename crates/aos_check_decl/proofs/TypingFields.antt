-- Fields of record types: they agree with the rows of the types, and the parts that rows name are told or asked for.
use Rattle.std.proofs.Common.{◌≡◌, ℕ, zero, suc, ◌+◌, ◌<◌, ◌≤◌, nat_eq, List, [], ◌∷◌, ◌++◌, length, map, fold, replicate, Bool, true, false, if◌then◌else◌, Option, Some, None, slice_get, slice_set, refl, sym, ap, ◌∙◌, subst, arith, append_assoc, append-nil, length-append, length-set}
use Rattle.std.specs.Map.{lookup}
use Rattle.std.proofs.lemmas.Bool.{cases_order}
use Rattle.std.proofs.lemmas.List.{map-append, length-map}
use Rattle.std.proofs.lemmas.Option.{same_Some, slice_get_within}
use mathlib.Core.Logic.{◌⊎◌, inl, inr}
use Rattle.aos_base.specs.declared.text.Pos.{Pos}
use Rattle.aos_tree.specs.declared.decl.Def.{Def}
use Rattle.aos_types.specs.declared.row.TypeId.{TypeId}
use Rattle.aos_types.specs.declared.row.TypeRow.{TypeRow}
use Rattle.aos_types.specs.declared.row.TypeRow.TheVariants as row
use Rattle.aos_types.specs.Table.{row_of, is_open}
use Rattle.aos_types.specs.Chain.{base_list, IsOneOf}
use Rattle.aos_types.specs.Count.{named_in}
use Rattle.aos_types.proofs.Reached.{one_of_left, one_of_right}
use Rattle.aos_symbols.specs.declared.env.Claim.{Claim}
use Rattle.aos_symbols.specs.declared.env.Claim.TheVariants as claim
use Rattle.aos_symbols.specs.declared.home.ObjectScope.{ObjectScope}
use Rattle.aos_symbols.specs.Scope.{Named, Scope, has, with_name}
use Rattle.aos_symbols.specs.Home.{Home, add_record, record_fields}
use Rattle.aos_symbols.proofs.Each.{Each, implied}
use Rattle.aos_symbols.proofs.Records.{record_here, record_other}
use Rattle.aos_symbols.proofs.Told.{IsTold, basic, of_any, defined, GoOn, told_behind, get_front, get_end, IsLength, IsFormalType}
use Rattle.aos_check_expr.proofs.Opens.{IsVariableNumber, IsOpenAt, OpensStand, some_there}
use Rattle.aos_check_expr.proofs.Whole.{IsWritten}
use Rattle.aos_check_decl.specs.Types.{fields_of, with_field}
use Rattle.aos_check_types.specs.Limits.{may_be_target}
use Rattle.aos_made_types.proofs.TypingClaims.{IsAskedBase, IsAskedObject, IsAskedTarget, IsAskedResult, AllBases, AllObjectBases, more_bases, more_object_bases, target_bases, target_object_bases, result_bases, result_object_bases, result_more, base_more, base_behind, object_more, object_behind, target_more, AreOfBase, AreOfObject}
use Rattle.aos_check_decl.proofs.TypingScopes.{variables_at}
use Rattle.aos_check_types.proofs.TypingLists.{set_here, set_other, set_gives, push_gives, get_below}

-- The variables of a scope behind fields of one type.

name_variables : (s : Scope) (n : Named) → (with_name s n).variables ≡ s.variables
name_variables s n = by (has s n.0)
  where
    by : (b : Bool) → (if b then s else record s { entries = s.entries ++ n ∷ [] }).variables ≡ s.variables
    by true = refl
    by false = refl

pub field_variables : (text : List ℕ) (of : Option TypeId) (ds : List Def) (s : Scope) →
    (fold (with_field text of) s ds).variables ≡ s.variables ++ replicate (length ds) of
field_variables text of [] s = sym (append-nil s.variables)
field_variables text of (d ∷ ds) s =
    field_variables text of ds (with_field text of s d) ∙ ap (λ vs. (vs ++ of ∷ []) ++ replicate (length ds) of) (name_variables s _)
    ∙ append_assoc s.variables (of ∷ []) (replicate (length ds) of)

replicate_some : (n : ℕ) (t : TypeId) → replicate n (Some t) ≡ map (λ t. Some t) (replicate n t)
replicate_some zero t = refl
replicate_some (suc n) t = ap (λ z. Some t ∷ z) (replicate_some n t)

pub more_some : (vs : List (Option TypeId)) (us : List TypeId) (n : ℕ) (t : TypeId) → vs ≡ map (λ t. Some t) us →
    vs ++ replicate n (Some t) ≡ map (λ t. Some t) (us ++ fields_of n (Some t))
more_some vs us n t is = (λ i. is i ++ replicate_some n t i) ∙ sym (map-append (λ (t : TypeId). Some t) us (replicate n t))

-- What is told of the parts of rows at once: a base and what a pointer leads to may be named, and so they are asked for.

pub set_on : (us : List TypeRow) (t : TypeId) (r : TypeRow) → is_open (Some r) ≡ false → GoOn us (slice_set us t.0 r)
set_on us t r closed u (basic low) = basic low
set_on us t r closed u (of_any any) = of_any any
set_on us t r closed u (defined q high there whole) = by (cases_order u.0 t.0)
  where
    here : u.0 ≡ t.0 → IsTold (slice_set us t.0 r) u
    here same = defined r high (ap (slice_get (slice_set us t.0 r)) same ∙ set_here us t.0 q r (ap (slice_get us) (sym same) ∙ there)) closed

    elsewhere : (u.0 ≡ t.0 → ⊥) → IsTold (slice_set us t.0 r) u
    elsewhere other = defined q high (set_other us t.0 u.0 r other ∙ there) whole

    by : (u.0 ≡ t.0) ⊎ ((u.0 < t.0) ⊎ (t.0 < u.0)) → IsTold (slice_set us t.0 r) u
    by (inl same) = here same
    by (inr (inl l)) = elsewhere (λ same. omega (arith, l, same))
    by (inr (inr l)) = elsewhere (λ same. omega (arith, l, same))

-- each type that a row names is told
abbrev pub AreToldIn : List TypeRow → TypeRow → Type 0
AreToldIn types r = (p : TypeId) → IsOneOf p (named_in r) → IsTold types p

all_told : (types : List TypeRow) (ts : List TypeId) → ((p : TypeId) → IsOneOf p ts → IsTold types p) → Each (IsTold types) ts
all_told types [] each = tt
all_told types (t ∷ ts) each = (each t (inl refl), all_told types ts (λ p one. each p (inr one)))

-- the rows from a number on stay
abbrev pub AreKept : ℕ → List TypeRow → List TypeRow → Type 0
AreKept n us vs = (k : ℕ) (r : TypeRow) → n ≤ k → slice_get us k ≡ Some r → slice_get vs k ≡ Some r

pub set_keeps : (n : ℕ) (us : List TypeRow) (t : TypeId) (r : TypeRow) → t.0 < n → AreKept n us (slice_set us t.0 r)
set_keeps n us t r below k x high is = set_other us t.0 k r (λ same. omega (arith, below, high, same)) ∙ is

pub push_keeps : (n : ℕ) (us more : List TypeRow) → AreKept n us (us ++ more)
push_keeps n us more k x high is = get_front us more k x is

-- a record or an array, whose number is one of those from n on
abbrev pub Stands : ℕ → List TypeRow → TypeId → Type 0
Stands n types t = (n ≤ t.0) × (may_be_target (row_of types t) ≡ true)

stands_on : (n : ℕ) (us vs : List TypeRow) → AreKept n us vs → (t : TypeId) → Stands n us t → Stands n vs t
stands_on n us vs kept t stands = (stands.0, by (row_of us t) refl stands.1)
  where
    by : (o : Option TypeRow) → row_of us t ≡ o → may_be_target o ≡ true → may_be_target (row_of vs t) ≡ true
    by None is may = absurd (cc)
    by (Some r) is may = ap may_be_target (kept t.0 r stands.0 is) ∙ may

-- what a pointer leads to
abbrev pub Leads : (TypeId → Type 0) → List Claim → TypeId → Type 0
Leads S cs t = IsAskedTarget cs t ⊎ S t

-- what is neither a record nor an object type
abbrev pub IsNoRecord : TypeRow → Type 0
IsNoRecord r = (base : Option TypeId) (ts : List TypeId) → (r ≡ row.Record base ts → ⊥) × (r ≡ row.Object base ts → ⊥)

-- what holds of the type of a result
abbrev pub OfResult : (TypeId → Type 0) → Option TypeId → Type 0
OfResult R None = Unit {0}
OfResult R (Some t) = R t

pub result_implied : (R S : TypeId → Type 0) → ((t : TypeId) → R t → S t) → (r : Option TypeId) → OfResult R r → OfResult S r
result_implied R S each None is = tt
result_implied R S each (Some t) is = each t is

-- such a row: an array has one of the lengths that arrays have, a pointer leads to a type like the last of these; the types of formals
-- are like the first, and that of a result like the second
abbrev pub IsRow : (F R L : TypeId → Type 0) → TypeRow → Type 0
IsRow F R L (row.Basic b) = ⊥
IsRow F R L row.Any = ⊥
IsRow F R L (row.Array n t) = IsLength n
IsRow F R L (row.Pointer t) = L t
IsRow F R L (row.Procedure fs r) = Each (λ (f : Bool × TypeId). F f.1) fs × OfResult R r
IsRow F R L r = Unit {0}

pub row_implied : (F G R L : TypeId → Type 0) → ((t : TypeId) → F t → G t) → (r : TypeRow) → IsRow F R L r → IsRow G R L r
row_implied F G R L each (row.Basic b) is = is
row_implied F G R L each row.Any is = is
row_implied F G R L each (row.Array n t) is = is
row_implied F G R L each (row.Open t) is = tt
row_implied F G R L each (row.Record base ts) is = tt
row_implied F G R L each (row.Pointer t) is = is
row_implied F G R L each (row.Object base ts) is = tt
row_implied F G R L each (row.Procedure fs r) is = (implied (λ (f : Bool × TypeId). F f.1) (λ (f : Bool × TypeId). G f.1) (λ (f : Bool × TypeId) is. each f.1 is) fs is.0, is.1)

abbrev pub IsBaseAsked : List Claim → Option TypeId → Type 0
IsBaseAsked cs None = Unit {0}
IsBaseAsked cs (Some b) = IsAskedBase cs b

abbrev pub IsObjectAsked : List Claim → Option TypeId → Type 0
IsObjectAsked cs None = Unit {0}
IsObjectAsked cs (Some b) = IsAskedObject cs b

-- a result's type is told, and it is asked that it is a scalar
abbrev pub IsGivenResult : List TypeRow → List Claim → TypeId → Type 0
IsGivenResult types cs t = IsTold types t × IsAskedResult cs t

module _ (n : ℕ) where
  -- a row that the module writes
  abbrev pub AreAskedParts : List TypeRow → List Claim → TypeRow → Type 0
  AreAskedParts types cs (row.Basic b) = ⊥
  AreAskedParts types cs row.Any = ⊥
  AreAskedParts types cs (row.Array k t) = IsLength k × IsTold types t
  AreAskedParts types cs (row.Record base ts) = IsBaseAsked cs base × Each (IsTold types) ts
  AreAskedParts types cs (row.Pointer t) = Leads (Stands n types) cs t
  AreAskedParts types cs (row.Object base ts) = IsObjectAsked cs base × Each (IsTold types) ts
  AreAskedParts types cs (row.Procedure fs r) = Each (λ (f : Bool × TypeId). IsFormalType types f.1) fs × OfResult (IsGivenResult types cs) r
  AreAskedParts types cs r = Unit {0}

  pub asked_written : (types : List TypeRow) (cs : List Claim) (r : TypeRow) → AreAskedParts types cs r → IsWritten r
  asked_written types cs (row.Basic b) asked = asked
  asked_written types cs row.Any asked = asked
  asked_written types cs (row.Array k t) asked = tt
  asked_written types cs (row.Open t) asked = tt
  asked_written types cs (row.Record base ts) asked = tt
  asked_written types cs (row.Pointer t) asked = tt
  asked_written types cs (row.Object base ts) asked = tt
  asked_written types cs (row.Procedure ts r) asked = tt

  asked_parts : (types : List TypeRow) (cs : List Claim) (r : TypeRow) → IsNoRecord r → IsRow (IsFormalType types) (IsGivenResult types cs) (Leads (Stands n types) cs) r →
      AreToldIn types r → AreAskedParts types cs r
  asked_parts types cs (row.Basic b) other ok each = ok
  asked_parts types cs row.Any other ok each = ok
  asked_parts types cs (row.Array k t) other ok each = (ok, each t (inl refl))
  asked_parts types cs (row.Open t) other ok each = tt
  asked_parts types cs (row.Record b ts) other ok each = absurd ((other b ts).0 refl)
  asked_parts types cs (row.Pointer t) other ok each = ok
  asked_parts types cs (row.Object b ts) other ok each = absurd ((other b ts).1 refl)
  asked_parts types cs (row.Procedure ts r) other ok each = ok

  leads_on : (us vs : List TypeRow) (cs ds : List Claim) → AreKept n us vs → (t : TypeId) → Leads (Stands n us) cs t → Leads (Stands n vs) (cs ++ ds) t
  leads_on us vs cs ds kept t (inl asked) = inl (target_more cs ds t asked)
  leads_on us vs cs ds kept t (inr stands) = inr (stands_on n us vs kept t stands)

  base_on : (cs ds : List Claim) (base : Option TypeId) → IsBaseAsked cs base → IsBaseAsked (cs ++ ds) base
  base_on cs ds None asked = tt
  base_on cs ds (Some b) asked = base_more cs ds b asked

  object_on : (cs ds : List Claim) (base : Option TypeId) → IsObjectAsked cs base → IsObjectAsked (cs ++ ds) base
  object_on cs ds None asked = tt
  object_on cs ds (Some b) asked = object_more cs ds b asked

  parts_on : (us vs : List TypeRow) (cs ds : List Claim) → GoOn us vs → AreKept n us vs → length us ≤ length vs → (r : TypeRow) → AreAskedParts us cs r → AreAskedParts vs (cs ++ ds) r
  parts_on us vs cs ds on kept longer (row.Basic b) told = told
  parts_on us vs cs ds on kept longer row.Any told = told
  parts_on us vs cs ds on kept longer (row.Array k t) told = (told.0, on t told.1)
  parts_on us vs cs ds on kept longer (row.Open t) told = tt
  parts_on us vs cs ds on kept longer (row.Record base ts) told = (base_on cs ds base told.0, implied (IsTold us) (IsTold vs) on ts told.1)
  parts_on us vs cs ds on kept longer (row.Pointer t) told = leads_on us vs cs ds kept t told
  parts_on us vs cs ds on kept longer (row.Object base ts) told = (object_on cs ds base told.0, implied (IsTold us) (IsTold vs) on ts told.1)
  parts_on us vs cs ds on kept longer (row.Procedure fs r) told = (
    implied (λ (f : Bool × TypeId). IsFormalType us f.1) (λ (f : Bool × TypeId). IsFormalType vs f.1) (λ (f : Bool × TypeId) is. formal f.1 is) fs told.0,
    result_implied (IsGivenResult us cs) (IsGivenResult vs (cs ++ ds)) (λ t is. (on t is.0, result_more cs ds t is.1)) r told.1,
  )
    where
      formal : (t : TypeId) → IsFormalType us t → IsFormalType vs t
      formal t is = (let l = is.0 in omega (arith, l, longer), is.1)

  -- of all rows from a number on
  abbrev pub PartsAreAsked : ℕ → List TypeRow → List Claim → Type 0
  PartsAreAsked m types cs = (k : ℕ) (r : TypeRow) → m ≤ k → slice_get types k ≡ Some r → AreAskedParts types cs r

  parts_set : (m : ℕ) (us : List TypeRow) (cs : List Claim) (t : TypeId) (r : TypeRow) (ds : List Claim) → t.0 < n → is_open (Some r) ≡ false →
      AreAskedParts (slice_set us t.0 r) (cs ++ ds) r → PartsAreAsked m us cs → PartsAreAsked m (slice_set us t.0 r) (cs ++ ds)
  parts_set m us cs t r ds below closed told all k x high is =
      let vs = slice_set us t.0 r in
      set_gives (AreAskedParts vs (cs ++ ds)) us t.0 k x r is told
      (λ old. parts_on us vs cs ds (set_on us t r closed) (set_keeps n us t r below) (omega (arith, length-set us t.0 r)) x (all k x high old))

  parts_push : (m : ℕ) (us : List TypeRow) (cs : List Claim) (r : TypeRow) (ds : List Claim) →
      AreAskedParts (us ++ r ∷ []) (cs ++ ds) r → PartsAreAsked m us cs → PartsAreAsked m (us ++ r ∷ []) (cs ++ ds)
  parts_push m us cs r ds told all k x high is =
      let vs = us ++ r ∷ [] in
      push_gives (AreAskedParts vs (cs ++ ds)) us k x r is told
      (λ old. parts_on us vs cs ds (told_behind us (r ∷ [])) (push_keeps n us (r ∷ [])) (omega (arith, length-append us (r ∷ []))) x (all k x high old))

-- Open arrays.

closed_at : (k : ℕ) (r : TypeRow) → is_open (Some r) ≡ false → IsOpenAt k r
closed_at k (row.Open u) closed = absurd (cc)
closed_at k (row.Basic b) closed = tt
closed_at k (row.Array n t) closed = tt
closed_at k (row.Record b ts) closed = tt
closed_at k (row.Pointer t) closed = tt
closed_at k (row.Object b ts) closed = tt
closed_at k (row.Procedure ts r) closed = tt
closed_at k row.Any closed = tt

opens_set : (us : List TypeRow) (t : TypeId) (r : TypeRow) → is_open (Some r) ≡ false → OpensStand us → OpensStand (slice_set us t.0 r)
opens_set us t r closed all k x is = set_gives (IsOpenAt k) us t.0 k x r is (closed_at k r closed) (λ old. all k x old)

opens_push : (us : List TypeRow) (r : TypeRow) → IsOpenAt (length us) r → OpensStand us → OpensStand (us ++ r ∷ [])
opens_push us r one all k x is = by (cases_order k (length us))
  where
    within : k < length us + 1
    within = let below = slice_get_within (us ++ r ∷ []) k x is in omega (arith, below, length-append us (r ∷ []))

    by : (k ≡ length us) ⊎ ((k < length us) ⊎ (length us < k)) → IsOpenAt k x
    by (inl same) =
        let r_is : r ≡ x = same_Some r x (sym (get_end us r) ∙ ap (slice_get (us ++ r ∷ [])) (sym same) ∙ is) in
        subst (λ j. IsOpenAt j x) (sym same) (subst (IsOpenAt (length us)) r_is one)
    by (inr (inl below)) = all k x (sym (get_below us (r ∷ []) k below) ∙ is)
    by (inr (inr above)) = absurd (omega (arith, above, within))

-- Fields that agree with rows.

-- a scope has the fields of a row
abbrev IsOfRow : Scope → TypeRow → Type 0
IsOfRow s r = (base : Option TypeId) (ts : List TypeId) → r ≡ row.Record base ts → s.variables ≡ map (λ t. Some t) ts

-- a type is there, and the scope has the fields of its row
abbrev pub AreFieldsOf : List TypeRow → TypeId → Scope → Type 0
AreFieldsOf types t s = (t.0 < length types) × ((base : Option TypeId) (ts : List TypeId) → slice_get types t.0 ≡ Some (row.Record base ts) → s.variables ≡ map (λ t. Some t) ts)

abbrev pub RecordsAgree : List TypeRow → List (ℕ × Scope) → Type 0
RecordsAgree types rs = (t : TypeId) (s : Scope) → lookup (λ k. nat_eq t.0 k) rs ≡ Some s → AreFieldsOf types t s

same_fields : (a b : Option TypeId) (ts us : List TypeId) → row.Record a ts ≡ row.Record b us → ts ≡ us
same_fields a b ts us e = cc

of_row : (types : List TypeRow) (k : ℕ) (s : Scope) → ((base : Option TypeId) (ts : List TypeId) → slice_get types k ≡ Some (row.Record base ts) → s.variables ≡ map (λ t. Some t) ts) →
    (r : TypeRow) → slice_get types k ≡ Some r → IsOfRow s r
of_row types k s agree r is base ts same = agree base ts (is ∙ ap (λ z. Some z) same)

records_set : (us : List TypeRow) (rs : List (ℕ × Scope)) (k : ℕ) (r : TypeRow) → IsNoRecord r → RecordsAgree us rs → RecordsAgree (slice_set us k r) rs
records_set us rs k r other agree t s found = (
  let l = (agree t s found).0 in omega (arith, l, length-set us k r),
  λ base ts is. set_gives (IsOfRow s) us k t.0 (row.Record base ts) r is (λ base ts same. absurd ((other base ts).0 same))
      (λ old. of_row us t.0 s (agree t s found).1 (row.Record base ts) old) base ts refl,
)

objects_keep : (us : List TypeRow) (rs : List (ℕ × Scope)) (k : ℕ) (own : Option TypeId) (fs : List TypeId) → RecordsAgree us rs →
    RecordsAgree (slice_set us k (row.Object own fs)) rs
objects_keep us rs k own fs agree t s found = (
  let l = (agree t s found).0 in omega (arith, l, length-set us k (row.Object own fs)),
  λ base ts is. set_gives (IsOfRow s) us k t.0 (row.Record base ts) (row.Object own fs) is (λ base ts same. absurd (cc))
      (λ old. of_row us t.0 s (agree t s found).1 (row.Record base ts) old) base ts refl,
)

records_push : (us : List TypeRow) (rs : List (ℕ × Scope)) (r : TypeRow) → IsNoRecord r → RecordsAgree us rs → RecordsAgree (us ++ r ∷ []) rs
records_push us rs r other agree t s found = (
  let l = (agree t s found).0 in omega (arith, l, length-append us (r ∷ [])),
  λ base ts is. push_gives (IsOfRow s) us t.0 (row.Record base ts) r is (λ base ts same. absurd ((other base ts).0 same))
      (λ old. of_row us t.0 s (agree t s found).1 (row.Record base ts) old) base ts refl,
)

-- with the fields of a row that stands in a table, whose other rows are those of another table
added : (us vs : List TypeRow) (h : Home) (of : TypeId) (own : Option TypeId) (fs : List TypeId) (s : Scope) → length us ≤ length vs → of.0 < length vs →
    slice_get vs of.0 ≡ Some (row.Record own fs) → ((j : ℕ) → j < length us → (j ≡ of.0 → ⊥) → slice_get vs j ≡ slice_get us j) →
    s.variables ≡ map (λ t. Some t) fs → RecordsAgree us h.records → RecordsAgree vs (add_record h of s).records
added us vs h of own fs s longer below there others same agree t x found = by (cases_order t.0 of.0)
  where
    here : t.0 ≡ of.0 → AreFieldsOf vs t x
    here is =
        let scope : s ≡ x = same_Some s x (sym (record_here h of s) ∙ ap (λ n. record_fields (add_record h of s) (record { 0 = n })) (sym is) ∙ found) in (
          omega (arith, below, is),
          λ base ts row_is. ap (λ (z : Scope). z.variables) (sym scope) ∙ same
              ∙ ap (λ (us : List TypeId). map (λ (t : TypeId). Some t) us)
              (same_fields own base fs ts (same_Some (row.Record own fs) (row.Record base ts) (sym there ∙ ap (slice_get vs) (sym is) ∙ row_is))),
        )

    elsewhere : (t.0 ≡ of.0 → ⊥) → AreFieldsOf vs t x
    elsewhere other =
        let a = agree t x (sym (record_other h of t s other) ∙ found) in
        let l = a.0 in
        (omega (arith, l, longer), λ base ts row_is. a.1 base ts (sym (others t.0 l other) ∙ row_is))

    by : (t.0 ≡ of.0) ⊎ ((t.0 < of.0) ⊎ (of.0 < t.0)) → AreFieldsOf vs t x
    by (inl is) = here is
    by (inr (inl l)) = elsewhere (λ is. omega (arith, l, is))
    by (inr (inr l)) = elsewhere (λ is. omega (arith, l, is))

-- All that is told of a table, whose rows from m on the module writes, of which those from n on have no names; of what the module knows
-- of the fields of records; and of what it asks.
module _ (m n : ℕ) where
  pub record Agree (types : List TypeRow) (rs : List (ℕ × Scope)) (cs : List Claim) : Type 0 where
    pub parts : PartsAreAsked n m types cs
    pub bases : AllBases (λ b t. IsTold types b) cs
    pub objects : AllObjectBases (λ b t. IsTold types b) cs
    pub opens : OpensStand types
    pub fields : RecordsAgree types rs

  bases_on : (us vs : List TypeRow) → GoOn us vs → (cs : List Claim) → AllBases (λ b t. IsTold us b) cs → AllBases (λ b t. IsTold vs b) cs
  bases_on us vs on cs all k at b t is = on b (all k at b t is)

  objects_on : (us vs : List TypeRow) → GoOn us vs → (cs : List Claim) → AllObjectBases (λ b t. IsTold us b) cs → AllObjectBases (λ b t. IsTold vs b) cs
  objects_on us vs on cs all k at b t is = on b (all k at b t is)

  -- claims that ask for no base
  more_free : (us vs : List TypeRow) → GoOn us vs → (cs ds : List Claim) → AllBases (λ b u. ⊥) ds → AllBases (λ b t. IsTold us b) cs → AllBases (λ b t. IsTold vs b) (cs ++ ds)
  more_free us vs on cs ds free all =
      more_bases (λ b t. IsTold vs b) cs ds (bases_on us vs on cs all) (λ k at b u is. absurd (free k at b u is))

  more_objects_free : (us vs : List TypeRow) → GoOn us vs → (cs ds : List Claim) → AllObjectBases (λ b u. ⊥) ds → AllObjectBases (λ b t. IsTold us b) cs →
      AllObjectBases (λ b t. IsTold vs b) (cs ++ ds)
  more_objects_free us vs on cs ds free all =
      more_object_bases (λ b t. IsTold vs b) cs ds (objects_on us vs on cs all) (λ k at b u is. absurd (free k at b u is))

  -- the base of a record is told
  base_told : (us : List TypeRow) (base : Option TypeId) (fs : List TypeId) → AreToldIn us (row.Record base fs) → (b : TypeId) → base ≡ Some b → IsTold us b
  base_told us base fs each b is = each b (one_of_left b (base_list base) fs (subst (λ o. IsOneOf b (base_list o)) (sym is) (inl refl)))

  record_parts : (us vs : List TypeRow) → GoOn us vs → (cs ds : List Claim) (base : Option TypeId) (fs : List TypeId) (t : TypeId) → AreOfBase ds base t →
      AreToldIn us (row.Record base fs) → AreAskedParts n vs (cs ++ ds) (row.Record base fs)
  record_parts us vs on cs ds base fs t claims each = (by base claims.asked, implied (IsTold us) (IsTold vs) on fs (all_told us fs (λ p one. each p (one_of_right p (base_list base) fs one))))
    where
      by : (o : Option TypeId) → ((b : TypeId) → o ≡ Some b → IsAskedBase ds b) → IsBaseAsked (cs ++ ds) o
      by None asked = tt
      by (Some b) asked = base_behind cs ds b (asked b refl)

  record_bases : (us vs : List TypeRow) → GoOn us vs → (cs ds : List Claim) (base : Option TypeId) (fs : List TypeId) (t : TypeId) → AreOfBase ds base t →
      AreToldIn us (row.Record base fs) → AllBases (λ b t. IsTold us b) cs → AllBases (λ b t. IsTold vs b) (cs ++ ds)
  record_bases us vs on cs ds base fs t claims each all =
      more_bases (λ b t. IsTold vs b) cs ds (bases_on us vs on cs all) (λ k at b u is. on b (base_told us base fs each b (claims.alone k at b u is).1))

  pub agree_set : (us : List TypeRow) (rs : List (ℕ × Scope)) (cs : List Claim) (t : TypeId) (r : TypeRow) → t.0 < n → is_open (Some r) ≡ false → IsNoRecord r →
      IsRow (IsFormalType us) (IsGivenResult us cs) (Leads (Stands n us) cs) r → AreToldIn us r → Agree us rs cs → Agree (slice_set us t.0 r) rs cs
  agree_set us rs cs t r below closed other ok told agree =
      let vs = slice_set us t.0 r in
      let on = set_on us t r closed in
      let own = parts_on n us vs cs [] on (set_keeps n us t r below) (omega (arith, length-set us t.0 r)) r (asked_parts n us cs r other ok told) in
      record {
        parts = subst (PartsAreAsked n m vs) (append-nil cs) (parts_set n m us cs t r [] below closed own agree.parts);
        bases = bases_on us vs on cs agree.bases;
        objects = objects_on us vs on cs agree.objects;
        opens = opens_set us t r closed agree.opens;
        fields = records_set us rs t.0 r other agree.fields;
      }

  pub agree_push : (us : List TypeRow) (rs : List (ℕ × Scope)) (cs : List Claim) (r : TypeRow) → is_open (Some r) ≡ false → IsNoRecord r →
      IsRow (IsFormalType us) (IsGivenResult us cs) (Leads (Stands n us) cs) r → AreToldIn us r → Agree us rs cs → Agree (us ++ r ∷ []) rs cs
  agree_push us rs cs r closed other ok told agree =
      let vs = us ++ r ∷ [] in
      let on = told_behind us (r ∷ []) in
      let own = parts_on n us vs cs [] on (push_keeps n us (r ∷ [])) (omega (arith, length-append us (r ∷ []))) r (asked_parts n us cs r other ok told) in
      record {
        parts = subst (PartsAreAsked n m vs) (append-nil cs) (parts_push n m us cs r [] own agree.parts);
        bases = bases_on us vs on cs agree.bases;
        objects = objects_on us vs on cs agree.objects;
        opens = opens_push us r (closed_at (length us) r closed) agree.opens;
        fields = records_push us rs r other agree.fields;
      }

  pub agree_open : (us : List TypeRow) (rs : List (ℕ × Scope)) (cs : List Claim) (t : TypeId) → 10 ≤ length us → t.0 < length us → IsVariableNumber t.0 →
      Agree us rs cs → Agree (us ++ row.Open t ∷ []) rs cs
  agree_open us rs cs t ten below number agree =
      let vs = us ++ row.Open t ∷ [] in
      record {
        parts = subst (PartsAreAsked n m vs) (append-nil cs) (parts_push n m us cs (row.Open t) [] tt agree.parts);
        bases = bases_on us vs (told_behind us (row.Open t ∷ [])) cs agree.bases;
        objects = objects_on us vs (told_behind us (row.Open t ∷ [])) cs agree.objects;
        opens = opens_push us (row.Open t) (below, ten, number) agree.opens;
        fields = records_push us rs (row.Open t) (λ base ts. (λ e. cc, λ e. cc)) agree.fields;
      }

  pub agree_target : (us : List TypeRow) (rs : List (ℕ × Scope)) (cs : List Claim) (at : Pos) (t : TypeId) → Agree us rs cs → Agree us rs (cs ++ claim.Target at t ∷ [])
  agree_target us rs cs at t agree = record {
    parts = λ k r high is. parts_on n us us cs (claim.Target at t ∷ []) (λ t told. told) (λ k r high is. is) (omega arith) r (agree.parts k r high is);
    bases = more_bases (λ b t. IsTold us b) cs (claim.Target at t ∷ []) agree.bases (target_bases (λ b t. IsTold us b) at t);
    objects = more_object_bases (λ b t. IsTold us b) cs (claim.Target at t ∷ []) agree.objects (target_object_bases (λ b t. IsTold us b) at t);
    opens = agree.opens;
    fields = agree.fields;
  }

  pub agree_result : (us : List TypeRow) (rs : List (ℕ × Scope)) (cs : List Claim) (at : Pos) (t : TypeId) → Agree us rs cs → Agree us rs (cs ++ claim.Result at t ∷ [])
  agree_result us rs cs at t agree = record {
    parts = λ k r high is. parts_on n us us cs (claim.Result at t ∷ []) (λ t told. told) (λ k r high is. is) (omega arith) r (agree.parts k r high is);
    bases = more_bases (λ b t. IsTold us b) cs (claim.Result at t ∷ []) agree.bases (result_bases (λ b t. IsTold us b) at t);
    objects = more_object_bases (λ b t. IsTold us b) cs (claim.Result at t ∷ []) agree.objects (result_object_bases (λ b t. IsTold us b) at t);
    opens = agree.opens;
    fields = agree.fields;
  }

  pub agree_record_set : (us : List TypeRow) (h : Home) (cs : List Claim) (t : TypeId) (base : Option TypeId) (fs : List TypeId) (s : Scope) (ds : List Claim) →
      t.0 < n → t.0 < length us → AreOfBase ds base t → AreToldIn us (row.Record base fs) → s.variables ≡ map (λ t. Some t) fs → Agree us h.records cs →
      Agree (slice_set us t.0 (row.Record base fs)) (add_record h t s).records (cs ++ ds)
  agree_record_set us h cs t base fs s ds low below claims told same agree =
      let r = row.Record base fs in
      let vs = slice_set us t.0 r in
      let on = set_on us t r refl in
      let x = some_there us t.0 below in
      record {
        parts = parts_set n m us cs t r ds low refl (record_parts us vs on cs ds base fs t claims told) agree.parts;
        bases = record_bases us vs on cs ds base fs t claims told agree.bases;
        objects = more_objects_free us vs on cs ds claims.free agree.objects;
        opens = opens_set us t r refl agree.opens;
        fields = added us vs h t base fs s (omega (arith, length-set us t.0 r)) (omega (arith, below, length-set us t.0 r)) (set_here us t.0 x.0 r x.1)
            (λ j l other. set_other us t.0 j r other) same agree.fields;
      }

  pub agree_record_push : (us : List TypeRow) (h : Home) (cs : List Claim) (base : Option TypeId) (fs : List TypeId) (s : Scope) (ds : List Claim) →
      AreOfBase ds base (record { 0 = length us }) → AreToldIn us (row.Record base fs) → s.variables ≡ map (λ t. Some t) fs → Agree us h.records cs →
      Agree (us ++ row.Record base fs ∷ []) (add_record h (record { 0 = length us }) s).records (cs ++ ds)
  agree_record_push us h cs base fs s ds claims told same agree =
      let r = row.Record base fs in
      let t : TypeId = record { 0 = length us } in
      let vs = us ++ r ∷ [] in
      let on = told_behind us (r ∷ []) in
      record {
        parts = parts_push n m us cs r ds (record_parts us vs on cs ds base fs t claims told) agree.parts;
        bases = record_bases us vs on cs ds base fs t claims told agree.bases;
        objects = more_objects_free us vs on cs ds claims.free agree.objects;
        opens = opens_push us r tt agree.opens;
        fields = added us vs h t base fs s (omega (arith, length-append us (r ∷ []))) (omega (arith, length-append us (r ∷ []))) (get_end us r)
            (λ j l other. get_below us (r ∷ []) j l) same agree.fields;
      }

  -- an object type's row, whose fields are the variables of a scope
  object_parts : (us vs : List TypeRow) → GoOn us vs → (cs ds : List Claim) (base : Option TypeId) (fs : List TypeId) (t : TypeId) → AreOfObject ds base t →
      AreToldIn us (row.Object base fs) → AreAskedParts n vs (cs ++ ds) (row.Object base fs)
  object_parts us vs on cs ds base fs t claims each = (by base claims.asked, implied (IsTold us) (IsTold vs) on fs (all_told us fs (λ p one. each p (one_of_right p (base_list base) fs one))))
    where
      by : (o : Option TypeId) → ((b : TypeId) → o ≡ Some b → IsAskedObject ds b) → IsObjectAsked (cs ++ ds) o
      by None asked = tt
      by (Some b) asked = object_behind cs ds b (asked b refl)

  object_bases : (us vs : List TypeRow) → GoOn us vs → (cs ds : List Claim) (base : Option TypeId) (fs : List TypeId) (t : TypeId) → AreOfObject ds base t →
      AreToldIn us (row.Object base fs) → AllObjectBases (λ b t. IsTold us b) cs → AllObjectBases (λ b t. IsTold vs b) (cs ++ ds)
  object_bases us vs on cs ds base fs t claims each all =
      more_object_bases (λ b t. IsTold vs b) cs ds (objects_on us vs on cs all) (λ k at b u is. on b (base_told us base fs each b (claims.alone k at b u is).1))

  pub agree_object_set : (us : List TypeRow) (rs : List (ℕ × Scope)) (cs : List Claim) (t : TypeId) (base : Option TypeId) (fs : List TypeId) (ds : List Claim) →
      t.0 < n → AreOfObject ds base t → AreToldIn us (row.Object base fs) → Agree us rs cs → Agree (slice_set us t.0 (row.Object base fs)) rs (cs ++ ds)
  agree_object_set us rs cs t base fs ds low claims told agree =
      let r = row.Object base fs in
      let vs = slice_set us t.0 r in
      let on = set_on us t r refl in
      record {
        parts = parts_set n m us cs t r ds low refl (object_parts us vs on cs ds base fs t claims told) agree.parts;
        bases = more_free us vs on cs ds claims.free agree.bases;
        objects = object_bases us vs on cs ds base fs t claims told agree.objects;
        opens = opens_set us t r refl agree.opens;
        fields = objects_keep us rs t.0 base fs agree.fields;
      }

-- The fields of object types are the variables of their scopes. Each has the row of its definition, or the first one before the definition
-- is met, an array of itself.

pub record IsObjectRow (fields : ℕ → ℕ) (types : List TypeRow) (ss : List Scope) (t : TypeId) (o : ObjectScope) : Type 0 where
  pub base : Option TypeId
  pub own : List TypeId
  pub is : slice_get types t.0 ≡ Some (row.Object base own)
  pub variables : variables_at ss o.scope ≡ Some (map (λ (t : TypeId). Some t) own)
  pub count : length own ≡ fields o.scope

abbrev pub IsFilled : (ℕ → ℕ) → List TypeRow → List Scope → TypeId → ObjectScope → Type 0
IsFilled fields types ss t o = (slice_get types t.0 ≡ Some (row.Array 1 t)) ⊎ IsObjectRow fields types ss t o

abbrev pub AreFilled : (ℕ → ℕ) → List (ℕ × ObjectScope) → List TypeRow → List Scope → Type 0
AreFilled fields os types ss = (t : TypeId) (o : ObjectScope) → lookup (λ k. nat_eq t.0 k) os ≡ Some o → IsFilled fields types ss t o

-- each has a scope of a type, and no two have one
pub record AreApart (inner : ℕ) (os : List (ℕ × ObjectScope)) : Type 0 where
  pub places : (t : TypeId) (o : ObjectScope) → lookup (λ k. nat_eq t.0 k) os ≡ Some o → (0 < o.scope) × (o.scope ≤ inner)
  pub apart : (t u : TypeId) (o q : ObjectScope) → lookup (λ k. nat_eq t.0 k) os ≡ Some o → lookup (λ k. nat_eq u.0 k) os ≡ Some q → o.scope ≡ q.scope → t.0 ≡ u.0

module _ (fields : ℕ → ℕ) where
  -- with the same row and the same variables
  filled_same : (us vs : List TypeRow) (ss ss' : List Scope) (t : TypeId) (o : ObjectScope) → ((r : TypeRow) → slice_get us t.0 ≡ Some r → slice_get vs t.0 ≡ Some r) →
      variables_at ss' o.scope ≡ variables_at ss o.scope → IsFilled fields us ss t o → IsFilled fields vs ss' t o
  filled_same us vs ss ss' t o row_same same (inl is) = inl (row_same (row.Array 1 t) is)
  filled_same us vs ss ss' t o row_same same (inr x) =
      inr (record { base = x.base; own = x.own; is = row_same (row.Object x.base x.own) x.is; variables = same ∙ x.variables; count = x.count })

  module _ (os : List (ℕ × ObjectScope)) where
    pub objects_set : (us : List TypeRow) (ss : List Scope) (t : TypeId) (r : TypeRow) → ((o : ObjectScope) → lookup (λ k. nat_eq t.0 k) os ≡ Some o → ⊥) →
        AreFilled fields os us ss → AreFilled fields os (slice_set us t.0 r) ss
    objects_set us ss t r bare all u o at = filled_same us (slice_set us t.0 r) ss ss u o (λ x is. set_other us t.0 u.0 r other ∙ is) refl (all u o at)
      where
        other : u.0 ≡ t.0 → ⊥
        other same = bare o (ap (λ n. lookup (λ k. nat_eq n k) os) (sym same) ∙ at)

    pub objects_push : (us : List TypeRow) (ss : List Scope) (r : TypeRow) → AreFilled fields os us ss → AreFilled fields os (us ++ r ∷ []) ss
    objects_push us ss r all u o at = filled_same us (us ++ r ∷ []) ss ss u o (λ x is. get_front us (r ∷ []) u.0 x is) refl (all u o at)

    module _ (inner : ℕ) (are : AreApart inner os) where
      pub objects_scopes : (us : List TypeRow) (ss ss' : List Scope) → ((j : ℕ) → 0 < j → j ≤ inner → variables_at ss' j ≡ variables_at ss j) →
          AreFilled fields os us ss → AreFilled fields os us ss'
      objects_scopes us ss ss' same all t o at = let p = are.places t o at in filled_same us us ss ss' t o (λ x is. is) (same o.scope p.0 p.1) (all t o at)

      pub objects_placed : (us : List TypeRow) (ss ss' : List Scope) (t : TypeId) (o : ObjectScope) (base : Option TypeId) (fs : List TypeId) (vs : List (Option TypeId)) →
          t.0 < length us → lookup (λ k. nat_eq t.0 k) os ≡ Some o → variables_at ss' o.scope ≡ Some vs →
          ((j : ℕ) → (j ≡ o.scope → ⊥) → variables_at ss' j ≡ variables_at ss j) → vs ≡ map (λ (t : TypeId). Some t) fs → length vs ≡ fields o.scope →
          AreFilled fields os us ss → AreFilled fields os (slice_set us t.0 (row.Object base fs)) ss'
      objects_placed us ss ss' t o base fs vs below at own others are_all many all u q at' = by (cases_order u.0 t.0)
        where
          r : TypeRow
          r = row.Object base fs

          x : (y : TypeRow) × (slice_get us t.0 ≡ Some y)
          x = some_there us t.0 below

          here : u.0 ≡ t.0 → IsFilled fields (slice_set us t.0 r) ss' u q
          here same =
              let scope_is : o ≡ q = same_Some o q (sym at ∙ ap (λ n. lookup (λ k. nat_eq n k) os) (sym same) ∙ at') in
              let long = ap length are_all ∙ length-map fs (λ (t : TypeId). Some t) in
              inr (record {
                base = base;
                own = fs;
                is = ap (slice_get (slice_set us t.0 r)) same ∙ set_here us t.0 x.0 r x.1;
                variables = ap (λ (z : ObjectScope). variables_at ss' z.scope) (sym scope_is) ∙ own ∙ ap (λ z. Some z) are_all;
                count = sym long ∙ many ∙ ap (λ (z : ObjectScope). fields z.scope) scope_is;
              })

          elsewhere : (u.0 ≡ t.0 → ⊥) → IsFilled fields (slice_set us t.0 r) ss' u q
          elsewhere other =
              filled_same us (slice_set us t.0 r) ss ss' u q (λ x is. set_other us t.0 u.0 r other ∙ is) (others q.scope (λ same. other (are.apart u t q o at' at same))) (all u q at')

          by : (u.0 ≡ t.0) ⊎ ((u.0 < t.0) ⊎ (t.0 < u.0)) → IsFilled fields (slice_set us t.0 r) ss' u q
          by (inl same) = here same
          by (inr (inl l)) = elsewhere (λ same. omega (arith, l, same))
          by (inr (inr l)) = elsewhere (λ same. omega (arith, l, same))
