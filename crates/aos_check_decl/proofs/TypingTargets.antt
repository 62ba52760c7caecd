-- What the definitions of a module's types lead to, where they break no rule: none of them leads to nothing.
use Rattle.std.proofs.Common.{◌≡◌, ℕ, zero, suc, ◌+◌, ◌<◌, ◌≤◌, List, [], ◌∷◌, ◌++◌, length, map, true, Option, Some, None, slice_get, refl, sym, ap, ◌∙◌, subst, arith, append_assoc, append-nil}
use Rattle.std.specs.List.{range_with_len}
use Rattle.std.proofs.lemmas.List.FromFn.{get_or-map-range_with_len}
use Rattle.std.proofs.lemmas.Option.{none-some, same_Some, unwrap_or-slice_get}
use mathlib.Core.Logic.{◌⊎◌, inl, inr}
use Rattle.aos_tree.specs.declared.name.Qualident.{Qualident}
use Rattle.aos_tree.specs.declared.decl.Decl.{Decl}
use Rattle.aos_tree.specs.declared.decl.TypeDef.{TypeDef}
use Rattle.aos_tree.specs.declared.decl.TypeExpr.{TypeExpr}
use Rattle.aos_tree.specs.declared.decl.TypeExpr.TheVariants as type
use Rattle.aos_tree.specs.declared.module.Module.{Module}
use Rattle.aos_types.specs.declared.row.TypeId.{TypeId}
use Rattle.aos_types.specs.declared.row.TypeRow.{TypeRow}
use Rattle.aos_symbols.specs.declared.env.Open.{Open}
use Rattle.aos_symbols.specs.declared.env.Env.{Env}
use Rattle.aos_symbols.specs.declared.breach.Breach.{Breach}
use Rattle.aos_symbols.specs.Breaches.{first as first_of}
use Rattle.aos_symbols.specs.Judged.{kept, walk}
use Rattle.aos_symbols.specs.Declarations.{type_defs, inner_parts, types_of, all_type_defs}
use Rattle.aos_symbols.specs.declared.home.ObjectScope.{ObjectScope}
use Rattle.aos_symbols.specs.Home.{Home, object_of}
use Rattle.aos_entries.specs.Entries.{number_at, scopes}
use Rattle.aos_symbols.specs.Env as env
use Rattle.aos_symbols.proofs.Each.{Each}
use Rattle.aos_symbols.proofs.Holds.{Holds, holds_bind, none_first}
use Rattle.aos_symbols.proofs.Told.{IsTold, basic, of_any, IsKnown}
use Rattle.aos_check_types.specs.declared.aliases.Target.{Target}
use Rattle.aos_check_types.specs.declared.aliases.Target.TheVariants.{Own, Of, Nothing}
use Rattle.aos_check_decl.specs.Types.{named_type}
use Rattle.aos_check_types.specs.Aliases.{target_of, later, led_by, with_target, inner_targets, targets}
use Rattle.aos_check_decl.specs.Pass.{own_numbers, entered}
use Rattle.aos_check_decl.proofs.TypingNames.{IsBasicNumber, IsSearchedIn, AreOthersNamed, all_named_in, named_sound}
use Rattle.aos_check_decl.proofs.TypingEntries.{scopes_typed}
use Rattle.aos_check_decl.proofs.TypingHeadings.{is_name}

-- the number at a place of a list that is made by numbers
pub number_of : (f : ℕ → Option TypeId) (n k : ℕ) → k < n → number_at (map f (range_with_len 0 n)) k ≡ f k
number_of f n k below =
    unwrap_or-slice_get (map f (range_with_len 0 n)) k None ∙ get_or-map-range_with_len f 0 n k k None below (omega arith)

pub basic_told : (types : List TypeRow) (t : TypeId) → IsBasicNumber t.0 → IsTold types t
basic_told types t (inl low) = basic low
basic_told types t (inr any) = of_any any

-- a type that is told, or one of so many that the module defines behind these
abbrev pub IsMeant : List TypeRow → ℕ → TypeId → Type 0
IsMeant types n t = IsTold types t ⊎ ((length types ≤ t.0) × (t.0 < length types + n))

abbrev pub MayMean : List TypeRow → ℕ → Option TypeId → Type 0
MayMean types n None = ⊥
MayMean types n (Some t) = IsMeant types n t

module _ (types : List TypeRow) (n : ℕ) where
  -- a definition leads to itself, or is a name for a type that is known
  abbrev pub IsLed : TypeExpr → Target → Type 0
  IsLed of Own = Unit {0}
  IsLed of (Of t) = (is_name of ≡ true) × IsMeant types n t
  IsLed of Nothing = ⊥

  abbrev pub AreLed : List TypeDef → List Target → Type 0
  AreLed [] [] = Unit {0}
  AreLed [] (t ∷ ts) = ⊥
  AreLed (d ∷ ds) [] = ⊥
  AreLed (d ∷ ds) (t ∷ ts) = IsLed d.value t × AreLed ds ts

  led_more : (ds : List TypeDef) (ts : List Target) (d : TypeDef) (t : Target) → AreLed ds ts → IsLed d.value t → AreLed (ds ++ d ∷ []) (ts ++ t ∷ [])
  led_more [] [] d t are is = (is, tt)
  led_more [] (u ∷ ts) d t are is = absurd are
  led_more (x ∷ ds) [] d t are is = absurd are
  led_more (x ∷ ds) (u ∷ ts) d t are is = (are.0, led_more ds ts d t are.1 is)

  pub led_long : (ds : List TypeDef) (ts : List Target) → AreLed ds ts → length ts ≡ length ds
  led_long [] [] are = refl
  led_long [] (u ∷ ts) are = absurd are
  led_long (x ∷ ds) [] are = absurd are
  led_long (x ∷ ds) (u ∷ ts) are = ap suc (led_long ds ts are.1)

  pub led_at : (ds : List TypeDef) (ts : List Target) → AreLed ds ts → (k : ℕ) (t : Target) → slice_get ts k ≡ Some t → (d : TypeDef) × (slice_get ds k ≡ Some d) × IsLed d.value t
  led_at [] [] are k t is = absurd (none-some t is)
  led_at [] (u ∷ ts) are k t is = absurd are
  led_at (x ∷ ds) [] are k t is = absurd are
  led_at (x ∷ ds) (u ∷ ts) are zero t is = (x, refl, subst (IsLed x.value) (same_Some u t is) are.0)
  led_at (x ∷ ds) (u ∷ ts) are (suc k) t is = led_at ds ts are.1 k t is

-- What is known of the modules before, of which there are so many.
pub record IsGiven (number : ℕ) (before : List Home) (types : List TypeRow) : Type 0 where
  pub here : length before ≡ number
  pub named : AreOthersNamed before (IsKnown types)
  pub objects : (k : ℕ) (h : Home) (t : TypeId) (o : ObjectScope) → slice_get before k ≡ Some h → object_of h t ≡ Some o → (o.home ≡ k) × (o.scope < h.first)

module _ (number : ℕ) (before : List Home) (types : List TypeRow) (text : List ℕ) (m : Module) (given : IsGiven number before types) where
  abbrev count : ℕ
  count = length (all_type_defs m.decls)

  abbrev own : List (Option TypeId)
  own = own_numbers (length types) count

  abbrev first : Env
  first = entered number before types text m own

  abbrev Means : Option TypeId → Type 0
  Means = MayMean types count

  own_meant : (k : ℕ) → k < count → Means (number_at own k)
  own_meant k below =
      let a : length types ≤ length types + k = omega arith in
      let b : length types + k < length types + count = omega (arith, below) in
      subst Means (sym (number_of (λ k. Some (record { 0 = length types + k })) count k below)) (inr (a, b))

  known_meant : (of : Option TypeId) → IsKnown types of → Means of
  known_meant None known = absurd known
  known_meant (Some t) known = inl known

  meant_in : (path : List Open) → Each (IsSearchedIn number before) path → (q : Qualident) → Holds Means (named_type (env.back_at path first) q)
  meant_in path searched q =
      named_sound (env.back_at path first) (IsSearchedIn number before) Means
      (all_named_in number before (scopes text before own m) Means (scopes_typed text before own m Means own_meant)
      (λ j h k s w x of at outer there found is. known_meant of (given.named j h k s w x of at outer there found is)) (env.back_at path first) refl refl (λ j. refl))
      (λ t low. inl (basic_told types t low)) searched (λ j. inl refl) q

  led_sound : (path : List Open) → Each (IsSearchedIn number before) path → (of : TypeExpr) → Holds (IsLed types count of) (led_by (env.back_at path first) of)
  led_sound path searched (type.Named q) = λ none.
      let j = named_type (env.back_at path first) q in
      by j.answer (meant_in path searched q (none_first j.breaches (none_later (first_of j.breaches) none)))
    where
      none_later : (o : Option Breach) → later o ≡ [] → o ≡ None
      none_later None e = refl
      none_later (Some b) e = cc

      by : (of : Option TypeId) → Means of → IsLed types count (type.Named q) (target_of of)
      by None means = means
      by (Some t) means = (refl, means)
  led_sound path searched (type.Array' p lengths shape row) = λ h. tt
  led_sound path searched (type.Record' p base shape row) = λ h. tt
  led_sound path searched (type.Pointer' p shape row) = λ h. tt
  led_sound path searched (type.Proc p flag formals) = λ h. tt
  led_sound path searched (type.Object' p base shape row body end) = λ h. tt

  some_led : (path : List Open) → Each (IsSearchedIn number before) path → (ds done : List TypeDef) (ts : List Target) → AreLed types count done ts →
      Holds (AreLed types count (done ++ ds)) (walk (with_target (env.back_at path first)) ts ds)
  some_led path searched [] done ts are = λ h. subst (λ ds. AreLed types count ds ts) (sym (append-nil done)) are
  some_led path searched (d ∷ ds) done ts are =
      let e = env.back_at path first in
      subst (λ all. Holds (AreLed types count all) (walk (with_target e) ts (d ∷ ds))) (append_assoc done (d ∷ []) ds)
      (holds_bind (AreLed types count (done ++ d ∷ [])) (AreLed types count ((done ++ d ∷ []) ++ ds)) (with_target e ts d) (λ us. walk (with_target e) us ds)
      (holds_bind (IsLed types count d.value) (AreLed types count (done ++ d ∷ [])) (led_by e d.value) (λ t. kept (ts ++ t ∷ [])) (led_sound path searched d.value)
      (λ t is h. led_more types count done ts d t are is))
      (λ us more. some_led path searched ds (done ++ d ∷ []) us more))

  parts_led : (dss : List (List Decl)) (k : ℕ) (done : List TypeDef) (ts : List Target) → AreLed types count done ts →
      Holds (AreLed types count (done ++ types_of dss)) (inner_targets first k ts dss)
  parts_led [] k done ts are = λ h. subst (λ ds. AreLed types count ds ts) (sym (append-nil done)) are
  parts_led (part ∷ dss) k done ts are =
      let ds = type_defs part in
      let rest = types_of dss in
      subst (λ all. Holds (AreLed types count all) (inner_targets first k ts (part ∷ dss))) (append_assoc done ds rest)
      (holds_bind (AreLed types count (done ++ ds)) (AreLed types count ((done ++ ds) ++ rest)) (walk (with_target (env.within first k)) ts ds) (λ us. inner_targets first (suc k) us dss)
      (some_led (record { home = number; scope = k } ∷ env.own number ∷ []) (inr (inl refl), (inl refl, tt)) ds done ts are)
      (λ us more. parts_led dss (suc k) (done ++ ds) us more))

  pub targets_sound : Holds (AreLed types count (all_type_defs m.decls)) (targets first m.decls)
  targets_sound =
      holds_bind (AreLed types count (type_defs m.decls)) (AreLed types count (all_type_defs m.decls)) (walk (with_target first) [] (type_defs m.decls))
      (λ ts. inner_targets first 1 ts (inner_parts m.decls))
      (some_led (env.own number ∷ []) (inl refl, tt) (type_defs m.decls) [] [] tt)
      (λ ts are. parts_led (inner_parts m.decls) 1 (type_defs m.decls) ts are)
