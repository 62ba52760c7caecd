-- One more parameter, and a procedure's signature beside its parameters.
use Rattle.std.proofs.Common.{◌≡◌, ◌<◌, ◌≤◌, ℕ, List, [], ◌∷◌, ◌+◌, length, get_or, drop, drop-cons, add-one, Option, Some, None, refl, ap, ◌∙◌, sym}
use Rattle.std.specs.Prelude.{slice_get}
use Rattle.aos_tree.specs.declared.decl.Decl.{Decl}
use Rattle.aos_types.specs.declared.row.TypeId.{TypeId}
use Rattle.aos_symbols.specs.declared.breach.Breach.{Breach}
use Rattle.aos_symbols.specs.declared.env.Env.{Env}
use Rattle.aos_types.specs.declared.signature.Parameter.{Parameter}
use Rattle.aos_types.specs.declared.signature.Signature.{Signature}
use Rattle.aos_symbols.specs.Breaches.{first_after}
use Rattle.aos_symbols.specs.Judged.{kept, walk}
use Rattle.aos_symbols.specs.Scope.{Scope, with_variable as with_one}
use Rattle.aos_symbols.specs.Home.{changed, add_signature}
use Rattle.aos_symbols.specs.Env.{innermost, within, back_at}
use Rattle.aos_symbols.proofs.Paths.{past}
use Rattle.aos_check_decl.specs.Headings.{with_variable, with_parameters, with_signature, heading_met, declared, locals_in}
use Rattle.aos_check_types.specs.Told.{Told}
use Rattle.aos_check_types.proofs.Telling.{bound}

-- one more parameter
pub parameters_step : (e : Env) (ps : List Parameter) (i : ℕ) (d : Parameter) → i < length ps →
    with_parameters e (drop i ps) ≡ with_parameters (with_variable e (get_or ps i d).of) (drop (i + 1) ps)
parameters_step e ps i d lt =
    ap (λ l. with_parameters e l) (drop-cons ps i d lt) ∙ ap (λ j. with_parameters (with_variable e (get_or ps i d).of) (drop j ps)) (sym (add-one i))

-- no parameter is left
pub parameters_end : (e : Env) (ps : List Parameter) (i : ℕ) → length ps ≤ i → with_parameters e (drop i ps) ≡ e
parameters_end e ps i le = ap (λ l. with_parameters e l) (past ps i le)

-- the scopes of a module aren't changed by a signature, nor the signatures by a variable
beside : (e : Env) (s : Signature) (of : Option TypeId) → with_variable (with_signature e s) of ≡ with_signature (with_variable e of) s
beside e s of = by (slice_get e.here.scopes (innermost e.path))
  where
    by : (x : Option Scope) →
        record e { here = changed (λ z. with_one z of) (add_signature e.here s) (innermost e.path) x }
        ≡ record e { here = add_signature (changed (λ z. with_one z of) e.here (innermost e.path) x) s }
    by None = refl
    by (Some x) = refl

-- the same of all parameters
all_beside : (e : Env) (s : Signature) (ps : List Parameter) → with_parameters (with_signature e s) ps ≡ with_signature (with_parameters e ps) s
all_beside e s [] = refl
all_beside e s (p ∷ ps) = ap (λ z. with_parameters z ps) (beside e s p.of) ∙ all_beside (with_variable e p.of) s ps

-- a signature that is added behind the parameters
pub signature_behind : (e : Env) (k : ℕ) (s : Signature) (ps : List Parameter) →
    with_signature (with_parameters (within e k) ps) s ≡ with_parameters (within (with_signature e s) k) ps
signature_behind e k s ps = sym (all_beside (within e k) s ps)

-- a procedure's declarations behind its parameters
pub locals_bound : (k : ℕ) (e : Env) (s : Signature) (ds : List Decl) {before behind : Option Breach} {start done : Env} →
    start ≡ with_signature (with_parameters (within e k) s.parameters) s → behind ≡ first_after before (walk declared start ds).breaches →
    done ≡ (walk declared start ds).answer → Told (locals_in k (heading_met e s) ds) before behind (back_at e.path done)
locals_bound k e s ds {before = before} begins noted is =
    let begun = begins ∙ signature_behind e k s s.parameters in
    bound (walk declared (with_parameters (within (with_signature e s) k) s.parameters) ds) (λ z. kept (back_at e.path z))
    (noted ∙ ap (λ z. first_after before (walk declared z ds).breaches) begun) (is ∙ ap (λ z. (walk declared z ds).answer) begun) refl refl
