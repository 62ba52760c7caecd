-- A type that declares no methods leaves all as it was, but that nothing stands within a type then.
use Rattle.std.specs.Prelude.{true}
use Rattle.std.proofs.Common.{◌≡◌, ℕ, ◌+◌, List, [], ◌∷◌, length, Option, Some, None, refl, sym, subst, arith}
use Rattle.aos_tree.specs.declared.decl.TypeDef.{TypeDef}
use Rattle.aos_types.specs.declared.row.TypeId.{TypeId}
use Rattle.aos_symbols.specs.declared.breach.Breach.{Breach}
use Rattle.aos_symbols.specs.declared.env.Env.{Env}
use Rattle.aos_symbols.specs.Judged.{kept, bind}
use Rattle.aos_members.specs.Members as members
use Rattle.aos_symbols.specs.Declarations.{methods_in}
use Rattle.aos_check_decl.specs.Headings.{procedures_from, within_type, defined_type, type_methods}
use Rattle.aos_check_types.specs.Told.{Told}

pub nothing : {A : Type 0} (xs : List A) (n : ℕ) → n ≡ 0 + length xs → n ≡ 0 → xs ≡ []
nothing [] n e z = refl
nothing (x ∷ xs) n e z = absurd (omega (arith, e, z))

left : (e : Env) (o : Option TypeId) → members.outside e.path (within_type e o) ≡ record e { self_type = None }
left e None = refl
left e (Some t) = refl

pub none_told : (e : Env) (k : ℕ) (d : TypeDef) (met : Option Breach) → methods_in d ≡ [] → Told (type_methods e k d) met met (record e { self_type = None })
none_told e k d met none =
    subst (λ ps. Told (bind (procedures_from true (within_type e (defined_type e d)) k ps) (λ f. kept (members.outside e.path f))) met met (record e { self_type = None })) (sym none)
    (record { noted = refl; is = sym (left e (defined_type e d)) })
