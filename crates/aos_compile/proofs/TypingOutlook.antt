-- What names stand for behind whole modules, whose homes and types these are: a module behind them sees the same of them.
use Rattle.std.proofs.Common.{◌≡◌, ℕ, zero, suc, ◌≤◌, ◌<◌, ◌==◌, ◌⊎◌, inl, inr, List, [], ◌∷◌, ◌++◌, length, Bool, true, false, if◌then◌else◌, Option, Some, None, option_and_then, slice_get, refl, sym, ap, ◌∙◌, eq-eqb, eqb-true, length-append, arith}
use Rattle.std.specs.Option.{option_or}
use Rattle.std.proofs.lemmas.Bool.{cases_lt}
use Rattle.std.proofs.lemmas.Option.{none-some, same_Some, slice_get_within}
use Rattle.aos_types.specs.declared.row.TypeId.{TypeId}
use Rattle.aos_types.specs.declared.row.TypeRow.{TypeRow}
use Rattle.aos_symbols.specs.declared.home.ObjectScope.{ObjectScope}
use Rattle.aos_types.specs.declared.signature.Signature.{Signature}
use Rattle.aos_symbols.specs.declared.env.Env.{Env}
use Rattle.aos_symbols.specs.Home.{Home, object_of}
use Rattle.aos_members.specs.Members as members
use Rattle.aos_symbols.specs.Env as env
use Rattle.aos_members.specs.Members.{object_among}
use Rattle.aos_symbols.proofs.Told.{get_front, get_end}

not_both : true ≡ false → ⊥
not_both e = cc

-- a module that declares nothing
abbrev pub no_home : Home
no_home = record { name = []; text = []; strings = []; scopes = []; first = 0; signatures = []; records = []; objects = []; slots = [] }

abbrev pub outlook : List Home → List TypeRow → Env
outlook hs types =
    record {
      number = length hs;
      before = hs;
      here = no_home;
      path = [];
      types = types;
      places = [];
      claims = [];
      narrowed = [];
      self_type = None;
      is_exclusive = false;
      is_condition = false;
    }

other_number : (m n : ℕ) → m < n → (m == n) ≡ false
other_number m n less = by (m == n) refl
  where
    by : (b : Bool) → (m == n) ≡ b → (m == n) ≡ false
    by false is = is
    by true is = let same = eqb-true m n is in absurd (omega (arith, less, same))

pub home_outlook : (hs : List Home) (types : List TypeRow) (m : ℕ) → m < length hs → env.home (outlook hs types) m ≡ slice_get hs m
home_outlook hs types m below = ap (λ b. if b then Some no_home else slice_get hs m) (other_number m (length hs) below)

or_none : {A : Type 0} (a : Option A) → option_or a None ≡ a
or_none None = refl
or_none (Some a) = refl

-- the object types of homes, one behind the others
among_more : (hs : List Home) (h : Home) (t : TypeId) → object_among (hs ++ h ∷ []) t ≡ option_or (object_among hs t) (object_of h t)
among_more [] h t = or_none (object_of h t)
among_more (g ∷ hs) h t = by (object_of g t) (among_more hs h t)
  where
    by : (o : Option ObjectScope) → object_among (hs ++ h ∷ []) t ≡ option_or (object_among hs t) (object_of h t) →
        option_or o (object_among (hs ++ h ∷ []) t) ≡ option_or (option_or o (object_among hs t)) (object_of h t)
    by None more = more
    by (Some o) more = refl

-- an object type is one of a home
pub among_one : (hs : List Home) (t : TypeId) (o : ObjectScope) → object_among hs t ≡ Some o → (m : ℕ) × (h : Home) × (slice_get hs m ≡ Some h) × (object_of h t ≡ Some o)
among_one [] t o found = absurd (none-some o found)
among_one (h ∷ hs) t o found = by (object_of h t) refl found (among_one hs t o)
  where
    by : (p : Option ObjectScope) → object_of h t ≡ p → option_or p (object_among hs t) ≡ Some o →
        (object_among hs t ≡ Some o → (m : ℕ) × (g : Home) × (slice_get hs m ≡ Some g) × (object_of g t ≡ Some o)) →
        (m : ℕ) × (g : Home) × (slice_get (h ∷ hs) m ≡ Some g) × (object_of g t ≡ Some o)
    by None is found deeper = let one = deeper found in (suc one.0, one.1, one.2, one.3)
    by (Some p) is found deeper = (0, h, refl, is ∙ ap (λ z. Some z) (same_Some p o found))

-- A module behind them.

module _ (hs : List Home) (types : List TypeRow) (e : Env) (number_is : e.number ≡ length hs) (before_is : e.before ≡ hs)
    (old : (t : TypeId) (o : ObjectScope) → object_among hs t ≡ Some o → (t.0 < length types) × (o.home < length hs))
    (new : (t : TypeId) (o : ObjectScope) → object_of e.here t ≡ Some o → (length types ≤ t.0) × (o.home ≡ length hs)) where
  before_among : (t : TypeId) → object_among e.before t ≡ object_among hs t
  before_among t = ap (λ l. object_among l t) before_is

  pub object_old : (t : TypeId) → t.0 < length types → members.object e t ≡ members.object (outlook hs types) t
  object_old t below = by (object_of e.here t) refl ∙ before_among t
    where
      by : (o : Option ObjectScope) → object_of e.here t ≡ o → option_or o (object_among e.before t) ≡ object_among e.before t
      by None is = refl
      by (Some o) is = let n = new t o is in let high = n.0 in absurd (omega (arith, below, high))

  pub home_old : (m : ℕ) → m < length hs → env.home e m ≡ slice_get hs m
  home_old m below =
      ap (λ n. if m == n then Some e.here else slice_get e.before m) number_is
      ∙ ap (λ b. if b then Some e.here else slice_get e.before m) (other_number m (length hs) below)
      ∙ ap (λ l. slice_get l m) before_is

  pub home_same : (t : TypeId) (o : ObjectScope) → members.object (outlook hs types) t ≡ Some o → env.home e o.home ≡ env.home (outlook hs types) o.home
  home_same t o found = let one = old t o found in home_old o.home one.1 ∙ sym (home_outlook hs types o.home one.1)

  pub signed_old : (m k : ℕ) (s : Signature) → env.signature (outlook hs types) m k ≡ Some s → env.signature e m k ≡ Some s
  signed_old m k s is = by (m == length hs) refl is
    where
      nothing : (k : ℕ) → slice_get no_home.signatures k ≡ Some s → ⊥
      nothing k is = none-some s is

      by : (b : Bool) → (m == length hs) ≡ b → option_and_then (λ (h : Home). slice_get h.signatures k) (if b then Some no_home else slice_get hs m) ≡ Some s → env.signature e m k ≡ Some s
      by true same is = absurd (nothing k is)
      by false other is =
          ap (λ n. option_and_then (λ (h : Home). slice_get h.signatures k) (if m == n then Some e.here else slice_get e.before m)) number_is
          ∙ ap (λ b. option_and_then (λ (h : Home). slice_get h.signatures k) (if b then Some e.here else slice_get e.before m)) other
          ∙ ap (λ l. option_and_then (λ (h : Home). slice_get h.signatures k) (slice_get l m)) before_is ∙ is

  -- And behind it.

  abbrev all : List Home
  all = hs ++ e.here ∷ []

  pub object_on : (t : TypeId) → members.object (outlook all e.types) t ≡ members.object e t
  object_on t = among_more hs e.here t ∙ by (object_of e.here t) refl (object_among hs t) refl ∙ ap (option_or (object_of e.here t)) (sym (before_among t))
    where
      by : (p : Option ObjectScope) → object_of e.here t ≡ p → (q : Option ObjectScope) → object_among hs t ≡ q → option_or q p ≡ option_or p q
      by None i None k = refl
      by None i (Some q) k = refl
      by (Some p) i None k = refl
      by (Some p) i (Some q) k =
          let high = (new t p i).0 in
          let low = (old t q k).0 in
          absurd (omega (arith, high, low))

  all_long : length all ≡ suc (length hs)
  all_long = let long = length-append hs (e.here ∷ []) in omega (arith, long)

  pub home_on : (m : ℕ) → m < length all → env.home (outlook all e.types) m ≡ env.home e m
  home_on m below = home_outlook all e.types m below ∙ by (cases_lt m (length hs))
    where
      last : m ≡ length hs → slice_get all m ≡ env.home e m
      last same =
          ap (slice_get all) same ∙ get_end hs e.here
          ∙ sym (ap (λ n. if m == n then Some e.here else slice_get e.before m) (number_is ∙ sym same)
          ∙ ap (λ b. if b then Some e.here else slice_get e.before m) (eq-eqb m m refl))

      some : (h : Home) → slice_get hs m ≡ Some h → slice_get all m ≡ slice_get hs m
      some h is = get_front hs (e.here ∷ []) m h is ∙ sym is

      there : (xs : List Home) (k : ℕ) → k < length xs → (h : Home) × (slice_get xs k ≡ Some h)
      there [] k less = absurd (omega (arith, less))
      there (x ∷ xs) zero less = (x, refl)
      there (x ∷ xs) (suc k) less = there xs k (omega (arith, less))

      by : (m < length hs) ⊎ (length hs ≤ m) → slice_get all m ≡ env.home e m
      by (inl less) = let one = there hs m less in some one.0 one.1 ∙ sym (home_old m less)
      by (inr most) = let long = all_long in last (omega (arith, most, below, long))

  pub home_same_on : (t : TypeId) (o : ObjectScope) → members.object e t ≡ Some o → env.home (outlook all e.types) o.home ≡ env.home e o.home
  home_same_on t o found = home_on o.home (by (object_of e.here t) refl found)
    where
      by : (p : Option ObjectScope) → object_of e.here t ≡ p → option_or p (object_among e.before t) ≡ Some o → o.home < length all
      by None is found = let low = (old t o (sym (before_among t) ∙ found)).1 in let long = all_long in omega (arith, low, long)
      by (Some p) is found =
          let same : p.home ≡ o.home = ap (λ (z : ObjectScope). z.home) (same_Some p o found) in
          let here = (new t p is).1 in let long = all_long in omega (arith, same, here, long)

  pub signed_on : (m k : ℕ) (s : Signature) → env.signature e m k ≡ Some s → env.signature (outlook all e.types) m k ≡ Some s
  signed_on m k s is = ap (option_and_then (λ (h : Home). slice_get h.signatures k)) (home_on m (below (env.home e m) refl is)) ∙ is
    where
      below : (h : Option Home) → env.home e m ≡ h → option_and_then (λ (h : Home). slice_get h.signatures k) h ≡ Some s → m < length all
      below None there is = absurd (none-some s is)
      below (Some h) there is = by (m == e.number) refl there
        where
          by : (b : Bool) → (m == e.number) ≡ b → (if b then Some e.here else slice_get e.before m) ≡ Some h → m < length all
          by true same there = let equal = eqb-true m e.number same in let long = all_long in omega (arith, equal, number_is, long)
          by false other there =
              let low = slice_get_within hs m h (ap (λ l. slice_get l m) (sym before_is) ∙ there) in let long = all_long in omega (arith, low, long)
