-- What modules declare that break no rule, beside their modules of the typed program.
use Rattle.std.proofs.Common.{◌≡◌, ℕ, zero, suc, ◌+◌, ◌≤◌, ◌<◌, ◌⊎◌, List, [], ◌∷◌, ◌++◌, length, map, true, Option, Some, slice_get, sum_by, refl, sym, ap, ◌∙◌, subst, arith, All}
use Rattle.std.proofs.lemmas.Option.{none-some, same_Some, slice_get_within}
use Rattle.aos_base.specs.declared.limits.TheConstants.{MOST_SCALARS}
use Rattle.aos_types.specs.declared.row.TypeId.{TypeId}
use Rattle.aos_types.specs.declared.row.Basic.TheVariants.{Text}
use Rattle.aos_types.specs.declared.row.TypeRow.{TypeRow}
use Rattle.aos_types.specs.declared.row.TypeRow.TheVariants as row
use Rattle.aos_types.specs.Table.{row_of, is_object}
use Rattle.aos_typed.specs.Program.{Procedure as TypedProcedure, Module}
use Rattle.aos_symbols.specs.declared.scope.Entry.{Entry}
use Rattle.aos_symbols.specs.declared.scope.Meaning.TheVariants as means
use Rattle.aos_symbols.specs.declared.home.ObjectScope.{ObjectScope}
use Rattle.aos_types.specs.declared.signature.Signature.{Signature}
use Rattle.aos_symbols.specs.Scope.{Scope, find}
use Rattle.aos_symbols.specs.Home.{Home, texts_of, object_of}
use Rattle.aos_members.specs.Members.{object_among}
use Rattle.aos_symbols.proofs.Each.{Each, implied}
use Rattle.aos_symbols.proofs.Told.{IsKnown, GoOn, known_on, FieldsAgree}
use Rattle.aos_known.specs.Known.{type_of}
use Rattle.aos_check_decl.proofs.Typing.{AreGood, AreReady, variable_cells}
use Rattle.aos_compile.proofs.TypingFields.{fields_on}
use Rattle.aos_compile.proofs.TypingOutlook.{among_one}
use Rattle.aos_compile.proofs.TypingProcedures.{IsSignature, signature_on}
use Rattle.aos_compile.proofs.TypingScalars.{sum_stays}
use Rattle.aos_compile.proofs.TypingTypes.{RowsStay, there_stays}

-- A module with a number that breaks no rule, and what it declares: each type that its scope names is told, each variable of its scope has
-- a type, and the program's module has these, the string constants of its text and more, and a procedure for each signature but those of methods;
-- each constant has a good value, and each object type its scope there.
pub record IsHome (types : List TypeRow) (number : ℕ) (h : Home) (m : Module) : Type 0 where
  pub scope : Scope
  pub is : slice_get h.scopes 0 ≡ Some scope
  pub names : (k : ℕ) (s : Scope) (w : List ℕ) (x : Entry) (of : Option TypeId) → (k ≡ 0) ⊎ (k < h.first) → slice_get h.scopes k ≡ Some s → find s w ≡ Some x →
      x.means ≡ means.Type of → IsKnown types of
  pub numbers : (w : List ℕ) (x : Entry) (k : ℕ) → find scope w ≡ Some x → x.means ≡ means.Variable k → k < length scope.variables
  pub known : Each (IsKnown types) scope.variables
  pub typed : map (λ v. v.of) m.variables ≡ map type_of scope.variables
  pub more : List (List ℕ)
  pub texts : m.texts ≡ texts_of h ++ more
  pub codes : All (λ t. All (λ c. c < 256) t) more
  pub few : sum_by (variable_cells types) scope.variables ≤ MOST_SCALARS
  pub fields : FieldsAgree types h
  pub good : (k : ℕ) (s : Scope) → slice_get h.scopes k ≡ Some s → AreGood s.constants
  pub called : (w : List ℕ) (x : Entry) (k : ℕ) → find scope w ≡ Some x → x.means ≡ means.Procedure k → k < length m.procedures
  pub procedures : (k : ℕ) (s : Signature) → k < length m.procedures → slice_get h.signatures k ≡ Some s →
      (q : TypedProcedure) × (slice_get m.procedures k ≡ Some q) × IsSignature types s q
  pub signed : (k : ℕ) (s : Signature) → slice_get h.signatures k ≡ Some s → (q : TypedProcedure) × IsSignature types s q
  pub objects : (t : TypeId) (o : ObjectScope) → object_of h t ≡ Some o →
      (o.home ≡ number) × (0 < o.scope) × (o.scope < h.first) × (t.0 < length types) × (is_object (row_of types t) ≡ true)
  pub inner : (k : ℕ) (s : Scope) (w : List ℕ) (x : Entry) (n : ℕ) → 0 < k → k < h.first → slice_get h.scopes k ≡ Some s → find s w ≡ Some x →
      x.means ≡ means.Variable n → n < length s.variables

-- the first of these has the number n
abbrev pub AreHomes : List TypeRow → ℕ → List Home → List Module → Type 0
AreHomes types n [] [] = Unit {0}
AreHomes types n [] (m ∷ ms) = ⊥
AreHomes types n (h ∷ hs) [] = ⊥
AreHomes types n (h ∷ hs) (m ∷ ms) = IsHome types n h m × AreHomes types (suc n) hs ms

module _ (ts : List TypeRow) where
  home_from : (n : ℕ) (hs : List Home) (ms : List Module) → AreHomes ts n hs ms → (m : ℕ) (h : Home) → slice_get hs m ≡ Some h →
      (x : Module) × (slice_get ms m ≡ Some x) × IsHome ts (n + m) h x
  home_from n [] [] are m h e = absurd (none-some h e)
  home_from n [] (x ∷ ms) are m h e = absurd are
  home_from n (g ∷ hs) [] are m h e = absurd are
  home_from n (g ∷ hs) (x ∷ ms) are zero h e =
      (x, refl, subst (λ k. IsHome ts k h x) (let same : n ≡ n + 0 = omega arith in same) (subst (λ (f : Home). IsHome ts n f x) (same_Some g h e) are.0))
  home_from n (g ∷ hs) (x ∷ ms) are (suc m) h e =
      let one = home_from (suc n) hs ms are.1 m h e in
      (one.0, one.1, subst (λ k. IsHome ts k h one.0) (let same : suc n + m ≡ n + suc m = omega arith in same) one.2)

  pub home_at : (hs : List Home) (ms : List Module) → AreHomes ts 0 hs ms → (m : ℕ) (h : Home) → slice_get hs m ≡ Some h →
      (x : Module) × (slice_get ms m ≡ Some x) × IsHome ts m h x
  home_at hs ms are m h e =
      let one = home_from 0 hs ms are m h e in
      (one.0, one.1, subst (λ k. IsHome ts k h one.0) (let same : 0 + m ≡ m = omega arith in same) one.2)

  pub same_length : (n : ℕ) (hs : List Home) (ms : List Module) → AreHomes ts n hs ms → length hs ≡ length ms
  same_length n [] [] are = refl
  same_length n [] (x ∷ ms) are = absurd are
  same_length n (g ∷ hs) [] are = absurd are
  same_length n (g ∷ hs) (x ∷ ms) are = ap suc (same_length (suc n) hs ms are.1)

  more_from : (n : ℕ) (hs : List Home) (ms : List Module) (h : Home) (m : Module) → AreHomes ts n hs ms → IsHome ts (n + length hs) h m → AreHomes ts n (hs ++ h ∷ []) (ms ++ m ∷ [])
  more_from n [] [] h m are is = (subst (λ k. IsHome ts k h m) (let same : n + 0 ≡ n = omega arith in same) is, tt)
  more_from n [] (x ∷ ms) h m are is = absurd are
  more_from n (g ∷ hs) [] h m are is = absurd are
  more_from n (g ∷ hs) (x ∷ ms) h m are is =
      (are.0, more_from (suc n) hs ms h m are.1 (subst (λ k. IsHome ts k h m) (let same : n + suc (length hs) ≡ suc n + length hs = omega arith in same) is))

  pub one_more : (hs : List Home) (ms : List Module) (h : Home) (m : Module) → AreHomes ts 0 hs ms → IsHome ts (length hs) h m → AreHomes ts 0 (hs ++ h ∷ []) (ms ++ m ∷ [])
  one_more hs ms h m are is = more_from 0 hs ms h m are (subst (λ k. IsHome ts k h m) (let same : length hs ≡ 0 + length hs = omega arith in same) is)

  -- the object types that they declare
  pub objects_among : (hs : List Home) (ms : List Module) → AreHomes ts 0 hs ms → (t : TypeId) (o : ObjectScope) → object_among hs t ≡ Some o →
      (t.0 < length ts) × (o.home < length hs)
  objects_among hs ms are t o found =
      let one = among_one hs t o found in
      let home = (home_at hs ms are one.0 one.1 one.2).2 in
      let of = home.objects t o one.3 in
      let below = slice_get_within hs one.0 one.1 one.2 in
      let same = of.0 in
      (of.3, omega (arith, below, same))

module _ (ts us : List TypeRow) (old : AreReady ts) (new : AreReady us) (on : GoOn ts us) (stay : RowsStay ts us) where
  ten : 10 ≤ length ts
  ten = slice_get_within ts 9 (row.Basic (Text 0)) (old.basic 9 (omega arith))

  home_on : (n : ℕ) (h : Home) (m : Module) → IsHome ts n h m → IsHome us n h m
  home_on n h m is = record {
    scope = is.scope;
    is = is.is;
    names = λ k s w x of place there found means. known_on ts us on of (is.names k s w x of place there found means);
    numbers = is.numbers;
    known = implied (IsKnown ts) (IsKnown us) (known_on ts us on) is.scope.variables is.known;
    typed = is.typed;
    more = is.more;
    texts = is.texts;
    codes = is.codes;
    few =
        subst (λ n. n ≤ MOST_SCALARS)
        (sym (sum_stays ts us ten old.closed stay old.sound.none_contains_itself new.sound.none_contains_itself is.scope.variables is.known)) is.few;
    fields = fields_on ts us stay h (λ t o found. (is.objects t o found).3) is.fields;
    good = is.good;
    called = is.called;
    procedures = λ k s below there. let q = is.procedures k s below there in (q.0, q.1, signature_on ts us stay s q.0 q.2);
    signed = λ k s there. let q = is.signed k s there in (q.0, signature_on ts us stay s q.0 q.1);
    objects = λ t o found. let one = is.objects t o found in (one.0, one.1, one.2, there_stays ts us stay t.0 one.3, ap is_object (stay t.0 one.3) ∙ one.4);
    inner = is.inner;
  }

  homes_from : (n : ℕ) (hs : List Home) (ms : List Module) → AreHomes ts n hs ms → AreHomes us n hs ms
  homes_from n [] [] are = tt
  homes_from n [] (x ∷ ms) are = absurd are
  homes_from n (g ∷ hs) [] are = absurd are
  homes_from n (g ∷ hs) (x ∷ ms) are = (home_on n g x are.0, homes_from (suc n) hs ms are.1)

  pub homes_on : (hs : List Home) (ms : List Module) → AreHomes ts 0 hs ms → AreHomes us 0 hs ms
  homes_on hs ms are = homes_from 0 hs ms are
