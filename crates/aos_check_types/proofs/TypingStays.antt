-- What names stand for, and the slots of methods, are the same whether a module knows its methods' slots or not.
use Rattle.std.proofs.Common.{◌≡◌, ◌==◌, ℕ, List, [], ◌∷◌, map, Bool, true, false, if◌then◌else◌, Option, Some, None, option_map, option_and_then, slice_get, refl, ap, ◌∙◌}
use Rattle.std.specs.Option.{option_or}
use Rattle.aos_tree.specs.declared.decl.TypeDef.{TypeDef}
use Rattle.aos_types.specs.declared.row.TypeId.{TypeId}
use Rattle.aos_symbols.specs.declared.env.Open.{Open}
use Rattle.aos_symbols.specs.declared.env.Env.{Env}
use Rattle.aos_symbols.specs.declared.home.ObjectScope.{ObjectScope}
use Rattle.aos_symbols.specs.Spelling.{word}
use Rattle.aos_symbols.specs.Scope.{find, with_names, places_in}
use Rattle.aos_symbols.specs.Home.{Home, with_slots}
use Rattle.aos_members.specs.Members as members
use Rattle.aos_symbols.specs.Env as env
use Rattle.aos_check_types.specs.Methods.{slot_in, defined_type, type_slots, definition_slots}

module _ (e : Env) (ks : List (List ℕ)) where
  abbrev slotted : Env
  slotted = record e { here = with_slots e.here ks; self_type = None }

  scope_same : (o : Open) → env.scope slotted o ≡ env.scope e o
  scope_same o = by (o.home == e.number)
    where
      by : (b : Bool) → option_and_then (λ (h : Home). slice_get h.scopes o.scope) (if b then Some (with_slots e.here ks) else slice_get e.before o.home)
          ≡ option_and_then (λ (h : Home). slice_get h.scopes o.scope) (if b then Some e.here else slice_get e.before o.home)
      by true = refl
      by false = refl

  path_same : (os : List Open) (w : List ℕ) → env.in_path slotted os w ≡ env.in_path e os w
  path_same [] w = refl
  path_same (o ∷ os) w =
      ap (λ s. option_or (option_map (env.declared_at o) (option_and_then (λ s. find s w) s)) (env.in_path slotted os w)) (scope_same o)
      ∙ ap (λ x. option_or (env.in_scope e o w) x) (path_same os w)

  type_same : (d : TypeDef) → defined_type slotted d ≡ defined_type e d
  type_same d = let w = word e.here.text d.def.name in ap (λ x. slot_in (env.looked_up e w x)) (path_same e.path w)

  object_same : (t : TypeId) → members.object_scope slotted t ≡ members.object_scope e t
  object_same t = by (members.object e t)
    where
      by : (o : Option ObjectScope) → option_and_then (λ o. env.scope slotted (members.object_place o)) o ≡ option_and_then (λ o. env.scope e (members.object_place o)) o
      by None = refl
      by (Some o) = scope_same (members.object_place o)

  methods_same : (ts : List TypeId) → members.methods_along slotted ts ≡ members.methods_along e ts
  methods_same [] = refl
  methods_same (t ∷ ts) =
      ap (λ o. with_names (members.methods_along slotted ts) (members.scope_methods o)) (object_same t) ∙ ap (λ s. with_names s (members.own_methods e t)) (methods_same ts)

  slots_same : (t : TypeId) → members.own_slots slotted t ≡ members.own_slots e t
  slots_same t =
      ap (λ o. places_in (members.all_methods slotted t) (members.scope_methods o)) (object_same t)
      ∙ ap (λ s. places_in s (members.own_methods e t)) (methods_same (members.chain e.types t))

  one_same : (d : TypeDef) → definition_slots slotted d ≡ definition_slots e d
  one_same d = ap (type_slots slotted) (type_same d) ∙ by (defined_type e d)
    where
      by : (o : Option TypeId) → type_slots slotted o ≡ type_slots e o
      by None = refl
      by (Some t) = slots_same t

  pub all_same : (ds : List TypeDef) → map (definition_slots slotted) ds ≡ map (definition_slots e) ds
  all_same [] = refl
  all_same (d ∷ ds) = (λ i. one_same d i ∷ all_same ds i)
