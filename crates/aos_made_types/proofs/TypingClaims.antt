-- What is asked of the types that a module names, and what follows of its table where none of it breaks a rule: bases are records, and
-- pointers lead to records and arrays.
use Rattle.std.proofs.Common.{◌≡◌, ℕ, zero, suc, ◌+◌, ◌<◌, ◌≤◌, List, [], ◌∷◌, ◌++◌, length, map, fold, Bool, true, false, ◌||◌, if◌then◌else◌, Option, Some, None, slice_get, slice_set, refl, sym, ap, ◌∙◌, subst, arith, length-set}
use Rattle.std.specs.List.{flat_map}
use Rattle.std.proofs.lemmas.Bool.{cases_lt}
use Rattle.std.proofs.lemmas.Option.{none-some, same_Some}
use mathlib.Core.Logic.{◌⊎◌, inl, inr}
use Rattle.aos_base.specs.declared.text.Pos.{Pos}
use Rattle.aos_tree.specs.declared.name.Name.{Name}
use Rattle.aos_tree.specs.declared.name.Qualident.{Qualident}
use Rattle.aos_types.specs.declared.row.TypeId.{TypeId}
use Rattle.aos_types.specs.declared.row.TypeRow.{TypeRow}
use Rattle.aos_types.specs.declared.row.TypeRow.TheVariants as row
use Rattle.aos_types.specs.Table.{row_of, is_record, is_object, is_open, is_scalar, has_fields, base_of}
use Rattle.aos_types.specs.Chain.{base_list, IsOneOf}
use Rattle.aos_symbols.specs.declared.breach.Breach.{Breach}
use Rattle.aos_symbols.specs.declared.env.Claim.{Claim}
use Rattle.aos_symbols.specs.declared.env.Claim.TheVariants as claim
use Rattle.aos_symbols.specs.declared.env.Env.{Env}
use Rattle.aos_symbols.specs.Env as env
use Rattle.aos_symbols.proofs.Each.{implied}
use Rattle.aos_symbols.proofs.Holds.{none_left, none_right, test_is}
use Rattle.aos_symbols.proofs.Told.{IsTold, basic, of_any, defined, GoOn, get_front, IsBase, IsObjectBase, IsFormalType, IsResultType, PartsAreTold, AreToldParts}
use Rattle.aos_made_types.specs.Records.{base_claims}
use Rattle.aos_made_types.specs.Objects.{object_claims}
use Rattle.aos_symbols.specs.Env.{nil}
use Rattle.aos_check_types.specs.Limits.{may_be_base, may_be_object_base, may_be_target, claim_breaches, without_base}
use Rattle.aos_check_types.proofs.TypingLists.{set_other, get_behind}

-- of this type it is asked that it may be a base, or that pointers may lead to it
pub record IsAskedBase (cs : List Claim) (b : TypeId) : Type 0 where
  pub place : ℕ
  pub at : Pos
  pub of : TypeId
  pub is : slice_get cs place ≡ Some (claim.Base at b of)

-- or an object type's
pub record IsAskedObject (cs : List Claim) (b : TypeId) : Type 0 where
  pub place : ℕ
  pub at : Pos
  pub of : TypeId
  pub is : slice_get cs place ≡ Some (claim.ObjectBase at b of)

pub record IsAskedTarget (cs : List Claim) (t : TypeId) : Type 0 where
  pub place : ℕ
  pub at : Pos
  pub is : slice_get cs place ≡ Some (claim.Target at t)

-- of this type it is asked that it is a scalar
pub record IsAskedResult (cs : List Claim) (t : TypeId) : Type 0 where
  pub place : ℕ
  pub at : Pos
  pub is : slice_get cs place ≡ Some (claim.Result at t)

-- what holds of all bases that are asked for, and the types that have them
abbrev pub AllBases : (TypeId → TypeId → Type 0) → List Claim → Type 0
AllBases P cs = (k : ℕ) (at : Pos) (b t : TypeId) → slice_get cs k ≡ Some (claim.Base at b t) → P b t

pub no_bases : (P : TypeId → TypeId → Type 0) → AllBases P []
no_bases P k at b t is = absurd (none-some (claim.Base at b t) is)

pub more_bases : (P : TypeId → TypeId → Type 0) (cs ds : List Claim) → AllBases P cs → AllBases P ds → AllBases P (cs ++ ds)
more_bases P [] ds old new k at b t is = new k at b t is
more_bases P (c ∷ cs) ds old new zero at b t is = old zero at b t is
more_bases P (c ∷ cs) ds old new (suc k) at b t is = more_bases P cs ds (λ k at b t is. old (suc k) at b t is) new k at b t is

pub target_bases : (P : TypeId → TypeId → Type 0) (at : Pos) (t : TypeId) → AllBases P (claim.Target at t ∷ [])
target_bases P at t zero at' b u is = absurd (cc)
target_bases P at t (suc k) at' b u is = absurd (none-some (claim.Base at' b u) is)

pub result_bases : (P : TypeId → TypeId → Type 0) (at : Pos) (t : TypeId) → AllBases P (claim.Result at t ∷ [])
result_bases P at t zero at' b u is = absurd (cc)
result_bases P at t (suc k) at' b u is = absurd (none-some (claim.Base at' b u) is)

field_bases : (P : TypeId → TypeId → Type 0) (b : TypeId) (names : List Name) → AllBases P (map (λ n. claim.Field n b) names)
field_bases P b [] k at c t is = absurd (none-some (claim.Base at c t) is)
field_bases P b (n ∷ names) zero at c t is = absurd (cc)
field_bases P b (n ∷ names) (suc k) at c t is = field_bases P b names k at c t is

method_bases : (P : TypeId → TypeId → Type 0) (b : TypeId) (names : List Name) → AllBases P (map (λ n. claim.Method n b) names)
method_bases P b [] k at c t is = absurd (none-some (claim.Base at c t) is)
method_bases P b (n ∷ names) zero at c t is = absurd (cc)
method_bases P b (n ∷ names) (suc k) at c t is = method_bases P b names k at c t is

pub base_more : (cs ds : List Claim) (b : TypeId) → IsAskedBase cs b → IsAskedBase (cs ++ ds) b
base_more cs ds b asked = record {
  place = asked.place;
  at = asked.at;
  of = asked.of;
  is = get_front cs ds asked.place (claim.Base asked.at b asked.of) asked.is;
}

pub base_behind : (cs ds : List Claim) (b : TypeId) → IsAskedBase ds b → IsAskedBase (cs ++ ds) b
base_behind cs ds b asked = record {
  place = length cs + asked.place;
  at = asked.at;
  of = asked.of;
  is = get_behind cs ds asked.place ∙ asked.is;
}

-- The same of object types.

-- what holds of all bases that are asked for, and the types that have them
abbrev pub AllObjectBases : (TypeId → TypeId → Type 0) → List Claim → Type 0
AllObjectBases P cs = (k : ℕ) (at : Pos) (b t : TypeId) → slice_get cs k ≡ Some (claim.ObjectBase at b t) → P b t

pub no_object_bases : (P : TypeId → TypeId → Type 0) → AllObjectBases P []
no_object_bases P k at b t is = absurd (none-some (claim.ObjectBase at b t) is)

pub more_object_bases : (P : TypeId → TypeId → Type 0) (cs ds : List Claim) → AllObjectBases P cs → AllObjectBases P ds → AllObjectBases P (cs ++ ds)
more_object_bases P [] ds old new k at b t is = new k at b t is
more_object_bases P (c ∷ cs) ds old new zero at b t is = old zero at b t is
more_object_bases P (c ∷ cs) ds old new (suc k) at b t is = more_object_bases P cs ds (λ k at b t is. old (suc k) at b t is) new k at b t is

pub target_object_bases : (P : TypeId → TypeId → Type 0) (at : Pos) (t : TypeId) → AllObjectBases P (claim.Target at t ∷ [])
target_object_bases P at t zero at' b u is = absurd (cc)
target_object_bases P at t (suc k) at' b u is = absurd (none-some (claim.ObjectBase at' b u) is)

pub result_object_bases : (P : TypeId → TypeId → Type 0) (at : Pos) (t : TypeId) → AllObjectBases P (claim.Result at t ∷ [])
result_object_bases P at t zero at' b u is = absurd (cc)
result_object_bases P at t (suc k) at' b u is = absurd (none-some (claim.ObjectBase at' b u) is)

field_object_bases : (P : TypeId → TypeId → Type 0) (b : TypeId) (names : List Name) → AllObjectBases P (map (λ n. claim.Field n b) names)
field_object_bases P b [] k at c t is = absurd (none-some (claim.ObjectBase at c t) is)
field_object_bases P b (n ∷ names) zero at c t is = absurd (cc)
field_object_bases P b (n ∷ names) (suc k) at c t is = field_object_bases P b names k at c t is

method_object_bases : (P : TypeId → TypeId → Type 0) (b : TypeId) (names : List Name) → AllObjectBases P (map (λ n. claim.Method n b) names)
method_object_bases P b [] k at c t is = absurd (none-some (claim.ObjectBase at c t) is)
method_object_bases P b (n ∷ names) zero at c t is = absurd (cc)
method_object_bases P b (n ∷ names) (suc k) at c t is = method_object_bases P b names k at c t is

pub object_more : (cs ds : List Claim) (b : TypeId) → IsAskedObject cs b → IsAskedObject (cs ++ ds) b
object_more cs ds b asked = record {
  place = asked.place;
  at = asked.at;
  of = asked.of;
  is = get_front cs ds asked.place (claim.ObjectBase asked.at b asked.of) asked.is;
}

pub object_behind : (cs ds : List Claim) (b : TypeId) → IsAskedObject ds b → IsAskedObject (cs ++ ds) b
object_behind cs ds b asked = record {
  place = length cs + asked.place;
  at = asked.at;
  of = asked.of;
  is = get_behind cs ds asked.place ∙ asked.is;
}

pub target_more : (cs ds : List Claim) (t : TypeId) → IsAskedTarget cs t → IsAskedTarget (cs ++ ds) t
target_more cs ds t asked = record { place = asked.place; at = asked.at; is = get_front cs ds asked.place (claim.Target asked.at t) asked.is }

pub result_more : (cs ds : List Claim) (t : TypeId) → IsAskedResult cs t → IsAskedResult (cs ++ ds) t
result_more cs ds t asked = record { place = asked.place; at = asked.at; is = get_front cs ds asked.place (claim.Result asked.at t) asked.is }

-- The claims of a record: its base, where it has one, is asked for, and no other one.
pub record AreOfBase (cs : List Claim) (base : Option TypeId) (t : TypeId) : Type 0 where
  pub asked : (b : TypeId) → base ≡ Some b → IsAskedBase cs b
  pub alone : AllBases (λ b u. (u ≡ t) × (base ≡ Some b)) cs
  pub free : AllObjectBases (λ b u. ⊥) cs

-- and those of an object type
pub record AreOfObject (cs : List Claim) (base : Option TypeId) (t : TypeId) : Type 0 where
  pub asked : (b : TypeId) → base ≡ Some b → IsAskedObject cs b
  pub alone : AllObjectBases (λ b u. (u ≡ t) × (base ≡ Some b)) cs
  pub free : AllBases (λ b u. ⊥) cs

-- a record has a base only where one is written, and then it is known
abbrev pub IsBaseMet : (Option TypeId → Type 0) → Option Qualident → Option TypeId → Type 0
IsBaseMet Known None base = base ≡ None
IsBaseMet Known (Some q) base = Known base

no_base : {b : TypeId} (base : Option TypeId) → base ≡ None → base ≡ Some b → ⊥
no_base {b = b} base none some = none-some b (sym none ∙ some)

pub claims_of_base : (Known : Option TypeId → Type 0) (q : Option Qualident) (names : List Name) (base : Option TypeId) (t : TypeId) → IsBaseMet Known q base →
    AreOfBase (base_claims q names base (Some t)) base t
claims_of_base Known None names base t met = record {
  asked = λ b some. absurd (no_base base met some);
  alone = no_bases (λ b u. (u ≡ t) × (base ≡ Some b));
  free = no_object_bases (λ b u. ⊥);
}
claims_of_base Known (Some q) names None t met = record {
  asked = λ b some. absurd (none-some b some);
  alone = no_bases (λ b u. (u ≡ t) × (None ≡ Some b));
  free = no_object_bases (λ b u. ⊥);
}
claims_of_base Known (Some q) names (Some b) t met = record {
  asked = λ c some. (let same : b ≡ c = same_Some b c some in record { place = 0; at = q.first.pos; of = t; is = ap (λ (c : TypeId). Some (claim.Base q.first.pos c t)) same });
  alone = alone;
  free = free;
}
  where
    alone : AllBases (λ c u. (u ≡ t) × (Some b ≡ Some c)) (claim.Base q.first.pos b t ∷ map (λ n. claim.Field n b) names)
    alone zero at c u is = (let one : u ≡ t = cc in one, let two : b ≡ c = cc in ap (λ z. Some z) two)
    alone (suc k) at c u is = field_bases (λ c u. (u ≡ t) × (Some b ≡ Some c)) b names k at c u is

    free : AllObjectBases (λ c u. ⊥) (claim.Base q.first.pos b t ∷ map (λ n. claim.Field n b) names)
    free zero at c u is = absurd (cc)
    free (suc k) at c u is = field_object_bases (λ c u. ⊥) b names k at c u is

pub claims_of_object : (Known : Option TypeId → Type 0) (q : Option Qualident) (fs ms : List Name) (base : Option TypeId) (t : TypeId) → IsBaseMet Known q base →
    AreOfObject (object_claims q fs ms base t) base t
claims_of_object Known None fs ms base t met = record {
  asked = λ b some. absurd (no_base base met some);
  alone = no_object_bases (λ b u. (u ≡ t) × (base ≡ Some b));
  free = no_bases (λ b u. ⊥);
}
claims_of_object Known (Some q) fs ms None t met = record {
  asked = λ b some. absurd (none-some b some);
  alone = no_object_bases (λ b u. (u ≡ t) × (None ≡ Some b));
  free = no_bases (λ b u. ⊥);
}
claims_of_object Known (Some q) fs ms (Some b) t met = record {
  asked = λ c some. (let same : b ≡ c = same_Some b c some in record { place = 0; at = q.first.pos; of = t; is = ap (λ (c : TypeId). Some (claim.ObjectBase q.first.pos c t)) same });
  alone = alone;
  free = free;
}
  where
    fields : List Claim
    fields = map (λ n. claim.Field n b) fs

    methods : List Claim
    methods = map (λ n. claim.Method n b) ms

    alone : AllObjectBases (λ c u. (u ≡ t) × (Some b ≡ Some c)) (claim.ObjectBase q.first.pos b t ∷ (fields ++ methods))
    alone zero at c u is = (let one : u ≡ t = cc in one, let two : b ≡ c = cc in ap (λ z. Some z) two)
    alone (suc k) at c u is =
        let P = λ (c u : TypeId). (let p : Type 0 = (u ≡ t) × (Some b ≡ Some c) in p) in
        more_object_bases P fields methods (field_object_bases P b fs) (method_object_bases P b ms) k at c u is

    free : AllBases (λ c u. ⊥) (claim.ObjectBase q.first.pos b t ∷ (fields ++ methods))
    free zero at c u is = absurd (cc)
    free (suc k) at c u is = more_bases (λ c u. ⊥) fields methods (field_bases (λ c u. ⊥) b fs) (method_bases (λ c u. ⊥) b ms) k at c u is

pub base_met : (Known : Option TypeId → Type 0) (q : Option Qualident) (base : Option TypeId) → IsBaseMet Known q base → (p : TypeId) → IsOneOf p (base_list base) → Known (Some p)
base_met Known None base met p one = absurd (subst (λ o. IsOneOf p (base_list o)) met one)
base_met Known (Some q) None met p one = absurd one
base_met Known (Some q) (Some b) met p (inl e) = subst (λ (p : TypeId). Known (Some p)) e met
base_met Known (Some q) (Some b) met p (inr h) = absurd h

-- Where nothing that is asked breaks a rule.

pub claim_kept : (rule : Claim → List Breach) (cs : List Claim) → flat_map rule cs ≡ [] → (k : ℕ) (c : Claim) → slice_get cs k ≡ Some c → rule c ≡ []
claim_kept rule [] none k c is = absurd (none-some c is)
claim_kept rule (d ∷ cs) none zero c is = subst (λ c. rule c ≡ []) (same_Some d c is) (none_left (rule d) (flat_map rule cs) none)
claim_kept rule (d ∷ cs) none (suc k) c is = claim_kept rule cs (none_right (rule d) (flat_map rule cs) none) k c is

module _ (e : Env) (cs : List Claim) (none : flat_map (claim_breaches e) cs ≡ []) where
  pub target_kept : (t : TypeId) → IsAskedTarget cs t → may_be_target (row_of e.types t) ≡ true
  target_kept t asked = test_is (may_be_target (row_of e.types t)) 25 asked.at (claim_kept (claim_breaches e) cs none asked.place (claim.Target asked.at t) asked.is)

  record_or_open : (a b : Bool) → (a || b) ≡ true → b ≡ false → a ≡ true
  record_or_open true b e f = refl
  record_or_open false true e f = absurd (cc)
  record_or_open false false e f = absurd (cc)

  pub base_kept : (k : ℕ) (at : Pos) (b t : TypeId) → slice_get cs k ≡ Some (claim.Base at b t) → is_open (row_of e.types b) ≡ false → is_record (row_of e.types b) ≡ true
  base_kept k at b t is closed =
      record_or_open (is_record (row_of e.types b)) (is_open (row_of e.types b))
      (test_is (may_be_base (row_of e.types b)) 17 at (claim_kept (claim_breaches e) cs none k (claim.Base at b t) is)) closed

  pub object_kept : (k : ℕ) (at : Pos) (b t : TypeId) → slice_get cs k ≡ Some (claim.ObjectBase at b t) → is_open (row_of e.types b) ≡ false → is_object (row_of e.types b) ≡ true
  object_kept k at b t is closed =
      record_or_open (is_object (row_of e.types b)) (is_open (row_of e.types b))
      (test_is (may_be_object_base (row_of e.types b)) 17 at (claim_kept (claim_breaches e) cs none k (claim.ObjectBase at b t) is)) closed

-- Records whose bases are no records lose their contents, and so do object types.

one_same : (rows : List TypeRow) (c : Claim) → ((at : Pos) (b t : TypeId) → c ≡ claim.Base at b t → is_record (row_of rows b) ≡ true) →
    ((at : Pos) (b t : TypeId) → c ≡ claim.ObjectBase at b t → is_object (row_of rows b) ≡ true) → without_base rows c ≡ rows
one_same rows (claim.Target at t) records objects = refl
one_same rows (claim.Result at t) records objects = refl
one_same rows (claim.Base at b t) records objects = ap (λ z. if z then rows else slice_set rows t.0 (row.Open nil)) (records at b t refl)
one_same rows (claim.ObjectBase at b t) records objects = ap (λ z. if z then rows else slice_set rows t.0 (row.Object None [])) (objects at b t refl)
one_same rows (claim.Field n b) records objects = refl
one_same rows (claim.Method n b) records objects = refl

-- nothing is lost where all bases are records, and those of object types object types
pub bases_same : (rows : List TypeRow) (cs : List Claim) → AllBases (λ b t. is_record (row_of rows b) ≡ true) cs →
    AllObjectBases (λ b t. is_object (row_of rows b) ≡ true) cs → fold without_base rows cs ≡ rows
bases_same rows [] records objects = refl
bases_same rows (c ∷ cs) records objects =
    ap (λ z. fold without_base z cs) (one_same rows c (λ at b t is. records zero at b t (ap (λ z. Some z) is)) (λ at b t is. objects zero at b t (ap (λ z. Some z) is)))
    ∙ bases_same rows cs (λ k at b t is. records (suc k) at b t is) (λ k at b t is. objects (suc k) at b t is)

one_other : (rows : List TypeRow) (c : Claim) (k : ℕ) → ((at : Pos) (b t : TypeId) → c ≡ claim.Base at b t → t.0 ≡ k → ⊥) →
    ((at : Pos) (b t : TypeId) → c ≡ claim.ObjectBase at b t → t.0 ≡ k → ⊥) → slice_get (without_base rows c) k ≡ slice_get rows k
one_other rows (claim.Target at t) k others objects = refl
one_other rows (claim.Result at t) k others objects = refl
one_other rows (claim.Base at b t) k others objects = by (is_record (row_of rows b))
  where
    by : (z : Bool) → slice_get (if z then rows else slice_set rows t.0 (row.Open nil)) k ≡ slice_get rows k
    by true = refl
    by false = set_other rows t.0 k (row.Open nil) (λ same. others at b t refl (sym same))
one_other rows (claim.ObjectBase at b t) k others objects = by (is_object (row_of rows b))
  where
    by : (z : Bool) → slice_get (if z then rows else slice_set rows t.0 (row.Object None [])) k ≡ slice_get rows k
    by true = refl
    by false = set_other rows t.0 k (row.Object None []) (λ same. objects at b t refl (sym same))
one_other rows (claim.Field n b) k others objects = refl
one_other rows (claim.Method n b) k others objects = refl

-- a row of another number stays
pub bases_other : (cs : List Claim) (k : ℕ) → AllBases (λ b t. t.0 ≡ k → ⊥) cs → AllObjectBases (λ b t. t.0 ≡ k → ⊥) cs → (rows : List TypeRow) →
    slice_get (fold without_base rows cs) k ≡ slice_get rows k
bases_other [] k others objects rows = refl
bases_other (c ∷ cs) k others objects rows =
    bases_other cs k (λ j at b t is. others (suc j) at b t is) (λ j at b t is. objects (suc j) at b t is) (without_base rows c)
    ∙ one_other rows c k (λ at b t is. others zero at b t (ap (λ z. Some z) is)) (λ at b t is. objects zero at b t (ap (λ z. Some z) is))

one_long : (rows : List TypeRow) (c : Claim) → length (without_base rows c) ≡ length rows
one_long rows (claim.Target at t) = refl
one_long rows (claim.Result at t) = refl
one_long rows (claim.Base at b t) = by (is_record (row_of rows b))
  where
    by : (z : Bool) → length (if z then rows else slice_set rows t.0 (row.Open nil)) ≡ length rows
    by true = refl
    by false = length-set rows t.0 (row.Open nil)
one_long rows (claim.ObjectBase at b t) = by (is_object (row_of rows b))
  where
    by : (z : Bool) → length (if z then rows else slice_set rows t.0 (row.Object None [])) ≡ length rows
    by true = refl
    by false = length-set rows t.0 (row.Object None [])
one_long rows (claim.Field n b) = refl
one_long rows (claim.Method n b) = refl

pub bases_long : (cs : List Claim) (rows : List TypeRow) → length (fold without_base rows cs) ≡ length rows
bases_long [] rows = refl
bases_long (c ∷ cs) rows = bases_long cs (without_base rows c) ∙ one_long rows c

-- The basic types are no open arrays, and pointers lead to none of them.

basic_target : (k : ℕ) → k < 10 → may_be_target (slice_get env.basic_rows k) ≡ false
basic_target zero l = refl
basic_target (suc zero) l = refl
basic_target (suc (suc zero)) l = refl
basic_target (suc (suc (suc zero))) l = refl
basic_target (suc (suc (suc (suc zero)))) l = refl
basic_target (suc (suc (suc (suc (suc zero))))) l = refl
basic_target (suc (suc (suc (suc (suc (suc zero)))))) l = refl
basic_target (suc (suc (suc (suc (suc (suc (suc zero))))))) l = refl
basic_target (suc (suc (suc (suc (suc (suc (suc (suc zero)))))))) l = refl
basic_target (suc (suc (suc (suc (suc (suc (suc (suc (suc zero))))))))) l = refl
basic_target (suc (suc (suc (suc (suc (suc (suc (suc (suc (suc k)))))))))) l = absurd (omega (arith, l))

open_target : (o : Option TypeRow) → may_be_target o ≡ false → is_open o ≡ false
open_target None e = refl
open_target (Some (row.Open t)) e = absurd (cc)
open_target (Some (row.Basic b)) e = refl
open_target (Some (row.Array n t)) e = refl
open_target (Some (row.Record b ts)) e = refl
open_target (Some (row.Pointer t)) e = refl
open_target (Some (row.Object b ts)) e = refl
open_target (Some (row.Procedure ts r)) e = refl
open_target (Some row.Any) e = refl

module _ (types : List TypeRow) (begins : (k : ℕ) → k < 10 → slice_get types k ≡ slice_get env.basic_rows k) where
  low_target : (k : ℕ) → k < 10 → may_be_target (slice_get types k) ≡ false
  low_target k low = ap may_be_target (begins k low) ∙ basic_target k low

  pub target_high : (t : TypeId) → may_be_target (row_of types t) ≡ true → 10 ≤ t.0
  target_high t may = by (cases_lt t.0 10)
    where
      by : (t.0 < 10) ⊎ (10 ≤ t.0) → 10 ≤ t.0
      by (inl low) = let e : true ≡ false = sym may ∙ low_target t.0 low in absurd (cc)
      by (inr high) = high

  pub told_closed : (t : TypeId) → IsTold types t → is_open (row_of types t) ≡ false
  told_closed t (basic low) = open_target (row_of types t) (low_target t.0 (omega (arith, low)))
  told_closed t (of_any any) = open_target (row_of types t) (low_target t.0 (omega (arith, any)))
  told_closed t (defined r high there closed) = ap is_open there ∙ closed

-- What is told of the parts of rows that stay.

whole_on : (us vs : List TypeRow) → ((k : ℕ) (r : TypeRow) → slice_get us k ≡ Some r → slice_get vs k ≡ Some r) → (P : Option TypeRow → Bool) → P None ≡ false →
    (t : TypeId) → P (row_of us t) ≡ true → P (row_of vs t) ≡ true
whole_on us vs kept P none t whole = by (row_of us t) refl
  where
    by : (o : Option TypeRow) → row_of us t ≡ o → P (row_of vs t) ≡ true
    by None is = absurd (let e : true ≡ false = sym whole ∙ ap P is ∙ none in cc)
    by (Some r) is = ap P (kept t.0 r is ∙ sym is) ∙ whole

module _ (us vs : List TypeRow) (on : GoOn us vs) (kept : (k : ℕ) (r : TypeRow) → slice_get us k ≡ Some r → slice_get vs k ≡ Some r) (longer : length us ≤ length vs) where
  base_stays : (base : Option TypeId) → IsBase us base → IsBase vs base
  base_stays None is = tt
  base_stays (Some b) is = whole_on us vs kept is_record refl b is

  object_stays : (base : Option TypeId) → IsObjectBase us base → IsObjectBase vs base
  object_stays None is = tt
  object_stays (Some b) is = whole_on us vs kept is_object refl b is

  formal_stays : (t : TypeId) → IsFormalType us t → IsFormalType vs t
  formal_stays t is = (let l = is.0 in omega (arith, l, longer), is.1)

  result_stays : (r : Option TypeId) → IsResultType us r → IsResultType vs r
  result_stays None is = tt
  result_stays (Some t) is = (on t is.0, whole_on us vs kept is_scalar refl t is.1)

  pub told_on : (r : TypeRow) → AreToldParts us r → AreToldParts vs r
  told_on (row.Basic b) told = tt
  told_on row.Any told = tt
  told_on (row.Array n t) told = (told.0, on t told.1)
  told_on (row.Open t) told = tt
  told_on (row.Record base fs) told = (base_stays base told.0, implied (IsTold us) (IsTold vs) on fs told.1)
  told_on (row.Pointer t) told = (told.0, whole_on us vs kept may_be_target refl t told.1)
  told_on (row.Object base fs) told = (object_stays base told.0, implied (IsTold us) (IsTold vs) on fs told.1)
  told_on (row.Procedure fs r) told =
      (implied (λ (f : Bool × TypeId). IsFormalType us f.1) (λ (f : Bool × TypeId). IsFormalType vs f.1) (λ (f : Bool × TypeId) is. formal_stays f.1 is) fs told.0, result_stays r told.1)

-- Bases of types whose parts are told.

record_fields : (o : Option TypeRow) → is_record o ≡ true → has_fields o ≡ true
record_fields None e = absurd (cc)
record_fields (Some (row.Record b ts)) e = refl
record_fields (Some (row.Basic b)) e = absurd (cc)
record_fields (Some (row.Array n t)) e = absurd (cc)
record_fields (Some (row.Open t)) e = absurd (cc)
record_fields (Some (row.Pointer t)) e = absurd (cc)
record_fields (Some (row.Object b ts)) e = absurd (cc)
record_fields (Some (row.Procedure ts r)) e = absurd (cc)
record_fields (Some row.Any) e = absurd (cc)

object_fields : (o : Option TypeRow) → is_object o ≡ true → (has_fields o ≡ true) × (is_record o ≡ false)
object_fields None e = absurd (cc)
object_fields (Some (row.Object b ts)) e = (refl, refl)
object_fields (Some (row.Record b ts)) e = absurd (cc)
object_fields (Some (row.Basic b)) e = absurd (cc)
object_fields (Some (row.Array n t)) e = absurd (cc)
object_fields (Some (row.Open t)) e = absurd (cc)
object_fields (Some (row.Pointer t)) e = absurd (cc)
object_fields (Some (row.Procedure ts r)) e = absurd (cc)
object_fields (Some row.Any) e = absurd (cc)

pub base_fits : (types : List TypeRow) → PartsAreTold types → (t b : TypeId) → base_of (row_of types t) ≡ Some b →
    (has_fields (row_of types b) ≡ true) × (is_record (row_of types b) ≡ is_record (row_of types t))
base_fits types parts t b is = by (row_of types t) refl is
  where
    Fits : Option TypeRow → Type 0
    Fits o = (has_fields (row_of types b) ≡ true) × (is_record (row_of types b) ≡ is_record o)

    of_row : (o : Option TypeRow) → row_of types t ≡ o → Fits o → Fits (row_of types t)
    of_row o at fits = subst Fits (sym at) fits

    by : (o : Option TypeRow) → row_of types t ≡ o → base_of o ≡ Some b → Fits (row_of types t)
    by None at base = absurd (none-some b base)
    by (Some (row.Record c ts)) at base =
        let told : AreToldParts types (row.Record c ts) = parts t.0 (row.Record c ts) at in
        let is : is_record (row_of types b) ≡ true = subst (IsBase types) base told.0 in
        of_row (Some (row.Record c ts)) at (record_fields (row_of types b) is, is)
    by (Some (row.Object c ts)) at base =
        let told : AreToldParts types (row.Object c ts) = parts t.0 (row.Object c ts) at in
        let is : is_object (row_of types b) ≡ true = subst (IsObjectBase types) base told.0 in
        of_row (Some (row.Object c ts)) at (object_fields (row_of types b) is)
    by (Some (row.Basic c)) at base = absurd (none-some b base)
    by (Some (row.Array n u)) at base = absurd (none-some b base)
    by (Some (row.Open u)) at base = absurd (none-some b base)
    by (Some (row.Pointer u)) at base = absurd (none-some b base)
    by (Some (row.Procedure ts r)) at base = absurd (none-some b base)
    by (Some row.Any) at base = absurd (none-some b base)
