-- A type that declares no method has no slots of its own.
use Rattle.std.proofs.Common.{◌≡◌, ℕ, List, [], ◌∷◌, length, Some, refl, ap, ◌∙◌, sym, arith}
use Rattle.aos_types.specs.declared.row.TypeId.{TypeId}
use Rattle.aos_symbols.specs.declared.env.Env.{Env}
use Rattle.aos_members.specs.Members.{object_scope, scope_methods, all_methods, own_slots}
use Rattle.aos_symbols.specs.Scope.{Named, Scope, empty, methods_of, places_in}

-- where none has a place among any names, there are none, and so no slots
none_placed : (s t : Scope) (ns : List Named) → length (places_in s ns) ≡ 0 → places_in s ns ≡ places_in t ns
none_placed s t [] none = refl
none_placed s t (n ∷ ns) none = absurd (omega (arith, none))

pub no_slots : (e : Env) (t : TypeId) (s : Scope) (ks : List ℕ) → Some s ≡ object_scope e t → ks ≡ places_in empty (methods_of s) → length ks ≡ 0 → ks ≡ own_slots e t
no_slots e t s ks there is none =
    is ∙ none_placed empty (all_methods e t) (methods_of s) (sym (ap length is) ∙ none) ∙ ap (λ o. places_in (all_methods e t) (scope_methods o)) there
