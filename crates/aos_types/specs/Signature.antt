-- The signatures of procedures: two are the same where the kinds and types of their parameters are the same in order, and so are their
-- results (Oberon-2 report, appendix A, matching formal parameter lists). What breaks a rule counts as kept.
use Rattle.std.specs.Prelude.{List, [], ◌∷◌, Bool, true, false, ◌&&◌, Option, Some, None}
use Rattle.aos_types.specs.declared.row.TypeId.{TypeId}
use Rattle.aos_types.specs.declared.row.TypeRow.{TypeRow}
use Rattle.aos_types.specs.declared.signature.Parameter.{Parameter}
use Rattle.aos_types.specs.declared.signature.Gives.{Gives}
use Rattle.aos_types.specs.declared.signature.Gives.TheVariants as gives
use Rattle.aos_types.specs.declared.signature.Signature.{Signature}
use Rattle.aos_types.specs.Sameness.{same}

abbrev pub same_type : List TypeRow → Option TypeId → Option TypeId → Bool
same_type rows (Some t) (Some u) = same rows t u
same_type rows _ _ = true

abbrev pub same_kind : Bool → Bool → Bool
same_kind true b = b
same_kind false true = false
same_kind false false = true

abbrev pub same_parameter : List TypeRow → Parameter → Parameter → Bool
same_parameter rows a b = same_kind a.by_reference b.by_reference && same_type rows a.of b.of

abbrev pub same_parameters : List TypeRow → List Parameter → List Parameter → Bool
same_parameters rows [] [] = true
same_parameters rows [] (b ∷ bs) = false
same_parameters rows (a ∷ as') [] = false
same_parameters rows (a ∷ as') (b ∷ bs) = same_parameter rows a b && same_parameters rows as' bs

abbrev pub same_result : List TypeRow → Gives → Gives → Bool
same_result rows gives.Nothing gives.Nothing = true
same_result rows gives.Nothing (gives.Value u) = false
same_result rows (gives.Value t) gives.Nothing = false
same_result rows (gives.Value t) (gives.Value u) = same_type rows t u

abbrev pub same_signature : List TypeRow → Signature → Signature → Bool
same_signature rows s t = same_parameters rows s.parameters t.parameters && same_result rows s.gives t.gives

-- a method may stand in the place of the one that it overrides, an initializer in the place of one
abbrev pub may_stand : List TypeRow → (s t : Signature) → Bool
may_stand rows s t = same_signature rows s t && same_kind s.is_initializer t.is_initializer
