-- What the initializer of an object type is handed, in an environment of bodies.
use Rattle.std.proofs.Common.{◌≡◌, List, true, Option, Some, None, option_map, refl, sym, ap, ◌∙◌, subst}
use Rattle.aos_types.specs.declared.row.TypeId.{TypeId}
use Rattle.aos_types.specs.Table.{row_of, is_object}
use Rattle.aos_typed.specs.Methods.{initializer}
use Rattle.aos_typed.specs.Program.{Arguments, NoMore, Parameter}
use Rattle.aos_types.specs.declared.signature.Signature.{Signature}
use Rattle.aos_members.specs.declared.objects.Method.{Method}
use Rattle.aos_symbols.specs.declared.env.Env.{Env}
use Rattle.aos_members.specs.Members as members
use Rattle.aos_symbols.specs.Env as env
use Rattle.aos_known.specs.Known.{object_number}
use Rattle.aos_known.proofs.Inside.{Inside, AreArguments, IsInitialized}
use Rattle.aos_check_expr.proofs.Whole.{IsWhole, AreParameters}

module _ (p : Inside) (e : Env) (whole : IsWhole p e) (t : TypeId) (object : is_object (row_of e.types t) ≡ true) where
  abbrev pub IsHanded : Arguments → Type 0
  IsHanded more = IsInitialized p (initializer p.program (object_number t)) (object_number t) more

  by_slot : (o : Option Method) → members.initializer e t ≡ o → initializer p.program (object_number t) ≡ option_map (λ (m : Method). m.slot) o
  by_slot o is = whole.initials t object ∙ ap (option_map (λ (m : Method). m.slot)) is

  -- a type that has none takes nothing
  pub none_initialized : members.initializer e t ≡ None → IsHanded NoMore
  none_initialized none = subst (λ o. IsInitialized p o (object_number t) NoMore) (sym (by_slot None none)) refl

  -- and one that has one the arguments of its signature
  pub initialized : (m : Method) → members.initializer e t ≡ Some m → (s : Signature) → env.signature e m.home m.number ≡ Some s → (more : Arguments) →
      ((as' : List Parameter) → AreParameters e s.parameters as' → AreArguments p more as') → IsHanded more
  initialized m found s signed more handed =
      let q = whole.initial t m found object s signed in
      subst (λ o. IsInitialized p o (object_number t) more) (sym (by_slot (Some m) found)) (q.0, q.1, q.2, handed q.0.parameters q.3.parameters)
