-- Where the table of types goes on and all homes stay, names stand for the same methods, in the same slots, and own methods stay a type's own.
use Rattle.std.proofs.Common.{◌≡◌, ℕ, zero, suc, ◌+◌, ◌<◌, List, [], ◌∷◌, length, fold, ◌&&◌, Option, Some, None, option_map, option_and_then, slice_get, refl, sym, ap, ap₂, ◌∙◌, subst, arith}
use Rattle.std.specs.Option.{option_or}
use Rattle.aos_types.specs.declared.row.TypeId.{TypeId}
use Rattle.aos_types.specs.declared.row.TypeRow.{TypeRow}
use Rattle.aos_types.specs.Table.{row_of, base_of}
use Rattle.aos_types.specs.Sameness.{same}
use Rattle.aos_typed.specs.Methods.{own_methods, initial_slot}
use Rattle.aos_typed.specs.Program.{Procedure as TypedProcedure, Parameter, Method as TypedMethod, ObjectType, Module}
use Rattle.aos_symbols.specs.declared.home.ObjectScope.{ObjectScope}
use Rattle.aos_types.specs.declared.signature.Parameter.{Parameter as Formal}
use Rattle.aos_types.specs.declared.signature.Gives.{Gives}
use Rattle.aos_types.specs.declared.signature.Gives.TheVariants as gives
use Rattle.aos_types.specs.declared.signature.Signature.{Signature}
use Rattle.aos_symbols.specs.declared.env.Symbol.{Symbol}
use Rattle.aos_symbols.specs.declared.env.Env.{Env}
use Rattle.aos_symbols.specs.Home.{Home}
use Rattle.aos_symbols.specs.Scope.{Named, Scope, find, methods_of}
use Rattle.aos_members.specs.Members as members
use Rattle.aos_symbols.specs.Env as env
use Rattle.aos_known.specs.Known.{object_number}
use Rattle.aos_check_expr.proofs.Opens.{OpensFall}
use Rattle.aos_types.specs.Signature.{same_type, same_kind, same_parameters, same_result, may_stand}
use Rattle.aos_check_decl.proofs.Typing.{AreReady}
use Rattle.aos_compile.proofs.Slots.{Word, index_in, more, words, is_in}
use Rattle.aos_compile.proofs.TypingMethods.{Meant, bare, meant_at, bare_meant, own_meant, meant, meant_behind, own_start, start, start_behind, slot_words, words_behind, own_words, above, base_falls, meant_is, start_is, words_are, IsMeant, IsOwn, AreOwnOf, HasOwn}
use Rattle.aos_compile.proofs.TypingProcedures.{AreFormals, IsSignature, signature_on}
use Rattle.aos_compile.proofs.TypingTables.{same_stays}
use Rattle.aos_compile.proofs.TypingTypes.{RowsStay, bases_there, there_stays}

-- Signatures that may stand in each other's place.

module _ (ts us : List TypeRow) (stay : RowsStay ts us) (falls : OpensFall ts) where
  parameters_stay : (xs ys : List Formal) (as' bs : List Parameter) → AreFormals ts xs as' → AreFormals ts ys bs → same_parameters ts xs ys ≡ same_parameters us xs ys
  parameters_stay [] [] as' bs are also = refl
  parameters_stay [] (y ∷ ys) as' bs are also = refl
  parameters_stay (x ∷ xs) [] as' bs are also = refl
  parameters_stay (x ∷ xs) (y ∷ ys) as' bs are also =
      let here : same_type ts x.of y.of ≡ same_type us x.of y.of =
      ap₂ (λ u v. same_type ts u v) are.4 also.4 ∙ same_stays ts us stay falls are.2 also.2 are.7.0 also.7.0 ∙ sym (ap₂ (λ u v. same_type us u v) are.4 also.4) in
      ap₂ (λ b c. (same_kind x.by_reference y.by_reference && b) && c) here (parameters_stay xs ys are.1 also.1 are.8 also.8)

  results_stay : (s t : Signature) (q r : TypedProcedure) → IsSignature ts s q → IsSignature ts t r → same_result ts s.gives t.gives ≡ same_result us s.gives t.gives
  results_stay s t q r one two = by s.gives t.gives refl refl
    where
      by : (g h : Gives) → s.gives ≡ g → t.gives ≡ h → same_result ts g h ≡ same_result us g h
      by gives.Nothing gives.Nothing i j = refl
      by gives.Nothing (gives.Value u) i j = refl
      by (gives.Value t) gives.Nothing i j = refl
      by (gives.Value None) (gives.Value None) i j = refl
      by (gives.Value None) (gives.Value (Some u)) i j = refl
      by (gives.Value (Some t)) (gives.Value None) i j = refl
      by (gives.Value (Some t)) (gives.Value (Some u)) i j = same_stays ts us stay falls t u (one.closed t i).0 (two.closed u j).0

  pub signature_stays : (s t : Signature) (q r : TypedProcedure) → IsSignature ts s q → IsSignature ts t r → may_stand ts s t ≡ may_stand us s t
  signature_stays s t q r one two =
      ap₂ (λ b c. (b && c) && same_kind s.is_initializer t.is_initializer)
      (parameters_stay s.parameters t.parameters q.parameters r.parameters one.parameters two.parameters) (results_stay s t q r one two)

-- What an environment reads of its homes alone.

module _ (e : Env) where
  abbrev pub in_home : ObjectScope → Word → Option Home → Option Meant
  in_home o w h =
      option_and_then (λ (x : Symbol). meant_at h o x.means)
      (option_map (env.declared_at (members.object_place o)) (option_and_then (λ s. find s w) (option_and_then (λ (h : Home). slice_get h.scopes o.scope) h)))

  pub own_meant_is : (t : TypeId) (w : Word) → own_meant e t w ≡ option_and_then (λ o. in_home o w (env.home e o.home)) (members.object e t)
  own_meant_is t w = by (members.object e t)
    where
      found : (o : ObjectScope) (x : Option Symbol) → option_map bare (option_and_then (members.method_meant e t o) x) ≡ option_and_then (λ (x : Symbol). meant_at (env.home e o.home) o x.means) x
      found o None = refl
      found o (Some x) = bare_meant e t o x x.means refl

      by : (o : Option ObjectScope) → option_map bare (option_and_then (λ o. option_and_then (members.method_meant e t o) (env.in_scope e (members.object_place o) w)) o)
          ≡ option_and_then (λ o. in_home o w (env.home e o.home)) o
      by None = refl
      by (Some o) = found o (env.in_scope e (members.object_place o) w)

  abbrev pub start_in : ObjectScope → Option Home → Option Meant
  start_in o h = option_map (λ k. record { home = o.home; number = o.methods + k; slot = members.slot_of h o k }) o.initial

  pub own_start_is : (t : TypeId) → own_start e t ≡ option_and_then (λ o. start_in o (env.home e o.home)) (members.object e t)
  own_start_is t = by (members.object e t)
    where
      found : (o : ObjectScope) (k : Option ℕ) → option_map bare (option_map (members.method_at e t o None) k) ≡ option_map (λ k. record { home = o.home; number = o.methods + k; slot = members.slot_of (env.home e o.home) o k }) k
      found o None = refl
      found o (Some k) = refl

      by : (o : Option ObjectScope) → option_map bare (members.initial_at e t o) ≡ option_and_then (λ o. start_in o (env.home e o.home)) o
      by None = refl
      by (Some o) = found o o.initial

  abbrev pub named_in : Option Scope → List Named
  named_in None = []
  named_in (Some s) = methods_of s

  pub own_methods_are : (t : TypeId) → members.own_methods e t ≡ named_in (members.object_scope e t)
  own_methods_are t = by (members.object_scope e t) refl
    where
      by : (o : Option Scope) → members.object_scope e t ≡ o → members.own_methods e t ≡ named_in o
      by None is = rw is refl
      by (Some s) is = rw is refl

module _ (e f : Env) (ready : AreReady e.types) (ready_on : AreReady f.types) (stay : RowsStay e.types f.types)
    (objects_same : (t : TypeId) → t.0 < length e.types → members.object f t ≡ members.object e t)
    (homes_same : (t : TypeId) (o : ObjectScope) → t.0 < length e.types → members.object e t ≡ Some o → env.home f o.home ≡ env.home e o.home) where
  by_object : {A : Type 0} (g : ObjectScope → Option Home → Option A) (t : TypeId) → t.0 < length e.types →
      option_and_then (λ o. g o (env.home f o.home)) (members.object f t) ≡ option_and_then (λ o. g o (env.home e o.home)) (members.object e t)
  by_object g t there = ap (option_and_then (λ o. g o (env.home f o.home))) (objects_same t there) ∙ by (members.object e t) refl
    where
      by : (o : Option ObjectScope) → members.object e t ≡ o → option_and_then (λ o. g o (env.home f o.home)) o ≡ option_and_then (λ o. g o (env.home e o.home)) o
      by None is = refl
      by (Some o) is = ap (g o) (homes_same t o there is)

  own_meant_stays : (t : TypeId) → t.0 < length e.types → (w : Word) → own_meant f t w ≡ own_meant e t w
  own_meant_stays t there w = own_meant_is f t w ∙ by_object (λ o h. in_home e o w h) t there ∙ sym (own_meant_is e t w)

  own_start_stays : (t : TypeId) → t.0 < length e.types → own_start f t ≡ own_start e t
  own_start_stays t there = own_start_is f t ∙ by_object (λ o h. start_in e o h) t there ∙ sym (own_start_is e t)

  own_words_stay : (t : TypeId) → t.0 < length e.types → own_words f t ≡ own_words e t
  own_words_stay t there =
      ap words (own_methods_are f t)
      ∙ ap (λ s. words (named_in e s)) (by_object (λ o h. option_and_then (λ (h : Home). slice_get h.scopes o.scope) h) t there)
      ∙ sym (ap words (own_methods_are e t))

  base_stays : (t : TypeId) → t.0 < length e.types → base_of (row_of f.types t) ≡ base_of (row_of e.types t)
  base_stays t there = ap base_of (stay t.0 there)

  behind_stays : {A : Type 0} (g h : Option TypeId → A) (o : Option TypeId) → g None ≡ h None → ((b : TypeId) → o ≡ Some b → g (Some b) ≡ h (Some b)) → g o ≡ h o
  behind_stays g h None none same = none
  behind_stays g h (Some b) none same = same b refl

  meant_by : (n : ℕ) (t : TypeId) → (above e ready).rank t < n → t.0 < length e.types → (w : Word) → meant f t w ≡ meant e t w
  meant_by zero t less there w = absurd (omega (arith, less))
  meant_by (suc n) t less there w =
      let base = base_of (row_of e.types t) in
      let same : meant_behind f base w ≡ meant_behind e base w =
      behind_stays (λ o. meant_behind f o w) (λ o. meant_behind e o w) base refl
      (λ b is. let falls = base_falls e.types e.types (λ k l. refl) (above e ready) (bases_there e.types ready) t b is in
      meant_by n b (omega (arith, falls, less)) (bases_there e.types ready t b is) w) in
      meant_is f ready_on t (there_stays e.types f.types stay t.0 there) w
      ∙ ap (λ b. option_or (own_meant f t w) (meant_behind f b w)) (base_stays t there)
      ∙ ap₂ option_or (own_meant_stays t there w) same
      ∙ sym (meant_is e ready t there w)

  pub meant_stays : (t : TypeId) → t.0 < length e.types → (w : Word) → meant f t w ≡ meant e t w
  meant_stays t there w = meant_by (suc ((above e ready).rank t)) t (omega arith) there w

  start_by : (n : ℕ) (t : TypeId) → (above e ready).rank t < n → t.0 < length e.types → start f t ≡ start e t
  start_by zero t less there = absurd (omega (arith, less))
  start_by (suc n) t less there =
      let base = base_of (row_of e.types t) in
      let same : start_behind f base ≡ start_behind e base =
      behind_stays (λ o. start_behind f o) (λ o. start_behind e o) base refl
      (λ b is. let falls = base_falls e.types e.types (λ k l. refl) (above e ready) (bases_there e.types ready) t b is in
      start_by n b (omega (arith, falls, less)) (bases_there e.types ready t b is)) in
      start_is f ready_on t (there_stays e.types f.types stay t.0 there)
      ∙ ap (λ b. option_or (own_start f t) (start_behind f b)) (base_stays t there)
      ∙ ap₂ option_or (own_start_stays t there) same
      ∙ sym (start_is e ready t there)

  pub start_stays : (t : TypeId) → t.0 < length e.types → start f t ≡ start e t
  start_stays t there = start_by (suc ((above e ready).rank t)) t (omega arith) there

  words_by : (n : ℕ) (t : TypeId) → (above e ready).rank t < n → t.0 < length e.types → slot_words f t ≡ slot_words e t
  words_by zero t less there = absurd (omega (arith, less))
  words_by (suc n) t less there =
      let base = base_of (row_of e.types t) in
      let same : words_behind f base ≡ words_behind e base =
      behind_stays (λ o. words_behind f o) (λ o. words_behind e o) base refl
      (λ b is. let falls = base_falls e.types e.types (λ k l. refl) (above e ready) (bases_there e.types ready) t b is in
      words_by n b (omega (arith, falls, less)) (bases_there e.types ready t b is)) in
      words_are f ready_on t (there_stays e.types f.types stay t.0 there)
      ∙ ap (λ b. fold more (words_behind f b) (own_words f t)) (base_stays t there)
      ∙ ap₂ (λ ws vs. fold more ws vs) same (own_words_stay t there)
      ∙ sym (words_are e ready t there)

  pub words_stay : (t : TypeId) → t.0 < length e.types → slot_words f t ≡ slot_words e t
  words_stay t there = words_by (suc ((above e ready).rank t)) t (omega arith) there

  behind_same : (t : TypeId) → t.0 < length e.types → (w : Word) → meant_behind f (base_of (row_of f.types t)) w ≡ meant_behind e (base_of (row_of e.types t)) w
  behind_same t there w =
      ap (λ b. meant_behind f b w) (base_stays t there)
      ∙ behind_stays (λ o. meant_behind f o w) (λ o. meant_behind e o w) (base_of (row_of e.types t)) refl (λ b is. meant_stays b (bases_there e.types ready t b is) w)

  -- Own methods.

  module _ (falls : OpensFall e.types) (signed : (m k : ℕ) (s : Signature) → env.signature e m k ≡ Some s → env.signature f m k ≡ Some s)
      (known : (m k : ℕ) (s : Signature) → env.signature e m k ≡ Some s → (q : TypedProcedure) × IsSignature e.types s q)
      (ms ns : List Module) (os qs : List ObjectType) where
    abbrev meant_on : (m : Meant) (q : TypedProcedure) → IsMeant e ms os m q → IsMeant f ns qs m q
    meant_on m q is = record {
      signature = is.signature;
      is = signed m.home m.number is.signature is.is;
      typed = signature_on e.types f.types stay is.signature q is.typed;
    }

    own_on : (t : TypeId) → t.0 < length e.types → (v : Word) (m : TypedMethod) → IsOwn e ms os t v m → IsOwn f ns qs t v m
    own_on t there v m is = record {
      meaning = is.meaning;
      found = own_meant_stays t there v ∙ is.found;
      slot = is.slot;
      typed = meant_on is.meaning m.procedure is.typed;
      place = ap (λ ws. index_in ws v) (words_stay t there) ∙ is.place;
      keeps = λ u found.
          let one = is.keeps u (sym (behind_same t there v) ∙ found) in
          let other = known u.home u.number one.0 one.1 in (
            one.0,
            signed u.home u.number one.0 one.1,
            sym (signature_stays e.types f.types stay falls is.typed.signature one.0 m.procedure other.0 is.typed.typed other.1) ∙ one.2,
          );
    }

    are_on : (t : TypeId) → t.0 < length e.types → (vs : List Word) (xs : List TypedMethod) → AreOwnOf e ms os t vs xs → AreOwnOf f ns qs t vs xs
    are_on t there [] [] are = tt
    are_on t there [] (x ∷ xs) are = absurd are
    are_on t there (v ∷ vs) [] are = absurd are
    are_on t there (v ∷ vs) (x ∷ xs) are = (own_on t there v x are.0, are.1, are_on t there vs xs are.2)

    pub has_own_on : (t : TypeId) → t.0 < length e.types →
        own_methods (record { modules = ns; types = f.types; objects = qs }) (object_number t) ≡ own_methods (record { modules = ms; types = e.types; objects = os }) (object_number t) →
        HasOwn e ms os t → HasOwn f ns qs t
    has_own_on t there same own = record {
      are =
          subst (λ vs. AreOwnOf f ns qs t vs (own_methods (record { modules = ns; types = f.types; objects = qs }) (object_number t))) (sym (own_words_stay t there))
          (subst (λ xs. AreOwnOf f ns qs t (own_words e t) xs) (sym same)
          (are_on t there (own_words e t) (own_methods (record { modules = ms; types = e.types; objects = os }) (object_number t)) own.are));
      only = λ w m found. ap (λ vs. is_in vs w) (own_words_stay t there) ∙ own.only w m (sym (own_meant_stays t there w) ∙ found);
      starts = ap initial_slot same ∙ own.starts ∙ ap (option_map (λ (m : Meant). m.slot)) (sym (own_start_stays t there));
      started = λ m found.
          let one = own.started m (sym (own_start_stays t there) ∙ found) in
          record {
            name = one.name;
            found = own_meant_stays t there one.name ∙ one.found;
            signature = one.signature;
            is = signed m.home m.number one.signature one.is;
            mark = one.mark;
          };
    }
