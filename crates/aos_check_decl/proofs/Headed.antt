-- What is told of all declarations of a module, one part after another.
use Rattle.std.proofs.Common.{◌≡◌, ℕ, suc, ◌+◌, List, length, Option, ap, ◌∙◌, subst, false}
use Rattle.aos_tree.specs.declared.decl.Decl.{Decl}
use Rattle.aos_tree.specs.declared.decl.TypeDef.{TypeDef}
use Rattle.aos_symbols.specs.declared.breach.Breach.{Breach}
use Rattle.aos_symbols.specs.declared.env.Env.{Env}
use Rattle.aos_symbols.specs.Judged.{bind, walk}
use Rattle.aos_symbols.specs.Declarations.{procedures, type_defs}
use Rattle.aos_check_types.specs.Methods.{overriding}
use Rattle.aos_check_decl.specs.Headings.{declared, inner_from, procedures_from, methods_from, headings}
use Rattle.aos_check_types.specs.Told.{Told}
use Rattle.aos_check_types.proofs.Telling.{then_told}

pub headings_told : (e : Env) (ds : List Decl) {m0 m1 m2 m3 m4 m5 : Option Breach} {e1 e2 e3 e4 e5 : Env} {k n : ℕ} {rs ts us : List TypeDef} →
    Told (walk declared e ds) m0 m1 e1 → rs ≡ type_defs ds → Told (inner_from e1 1 rs) m1 m2 e2 → k ≡ suc (length (type_defs ds)) →
    Told (procedures_from false e2 k (procedures ds)) m2 m3 e3 → n ≡ k + length (procedures ds) → ts ≡ type_defs ds →
    Told (methods_from e3 n ts) m3 m4 e4 → us ≡ type_defs ds → Told (overriding e4 us) m4 m5 e5 → Told (headings e ds) m0 m5 e5
headings_told e ds {m1 = m1} {m2 = m2} {m3 = m3} {m4 = m4} {m5 = m5} {e1 = e1} {e2 = e2} {e3 = e3} {e4 = e4} {e5 = e5} {n = n} one rs_are inner k_is two n_is ts_are three us_are four =
    let first = suc (length (type_defs ds)) in
    let within = λ (x : Env). inner_from x 1 (type_defs ds) in
    let behind = λ (x : Env). procedures_from false x first (procedures ds) in
    let methods = λ (x : Env). methods_from x (first + length (procedures ds)) (type_defs ds) in
    let last = λ (x : Env). overriding x (type_defs ds) in
    let at = n_is ∙ ap (λ j. j + length (procedures ds)) k_is in
    then_told (walk declared e ds) (λ w. bind (within w) (λ x. bind (behind x) (λ y. bind (methods y) last))) one
    (then_told (within e1) (λ x. bind (behind x) (λ y. bind (methods y) last)) (subst (λ (rs : List TypeDef). Told (inner_from e1 1 rs) m1 m2 e2) rs_are inner)
    (then_told (behind e2) (λ y. bind (methods y) last) (subst (λ (j : ℕ). Told (procedures_from false e2 j (procedures ds)) m2 m3 e3) k_is two)
    (then_told (methods e3) last (subst (λ (j : ℕ). Told (methods_from e3 j (type_defs ds)) m3 m4 e4) at (subst (λ (ts : List TypeDef). Told (methods_from e3 n ts) m3 m4 e4) ts_are three))
    (subst (λ (us : List TypeDef). Told (overriding e4 us) m4 m5 e5) us_are four))))
