-- Where no rule is broken no procedure of a module is an initializer, and at most one method of each type.
use Rattle.std.proofs.Common.{◌≡◌, ℕ, suc, ◌+◌, List, [], ◌∷◌, ◌++◌, length, Bool, true, false, ◌&&◌, Option, Some, None, is_some}
use Rattle.std.specs.Option.{is_none}
use Rattle.std.proofs.lemmas.Bool.{and_parts}
use Rattle.aos_base.specs.declared.text.Pos.{Pos}
use Rattle.aos_tree.specs.declared.decl.TypeDef.{TypeDef}
use Rattle.aos_tree.specs.declared.decl.Formals.{Formals}
use Rattle.aos_tree.specs.declared.module.Module.{Module}
use Rattle.aos_symbols.specs.declared.env.Env.{Env}
use Rattle.aos_symbols.specs.Judged.{bind, walk}
use Rattle.aos_symbols.specs.Declarations.{Procedure, procedures, methods_in, type_defs}
use Rattle.aos_symbols.proofs.Each.{Each}
use Rattle.aos_symbols.proofs.Holds.{none_left, none_right, test_is}
use Rattle.aos_check_decl.specs.Headings.{declared, inner_from, formals_in, result_in, marked, locals_in, initializer_breaches, procedure, procedures_from, within_type, defined_type, overriding, type_methods, methods_from, headings}

-- of these procedures one may be an initializer, or none
abbrev pub AreOnce : Bool → List Procedure → Type 0
AreOnce may [] = Unit {0}
AreOnce may (p ∷ ps) = (is_some p.initializer ≡ true → may ≡ true) × AreOnce (may && is_none p.initializer) ps

abbrev pub AreAllOnce : List TypeDef → Type 0
AreAllOnce ds = Each (λ d. AreOnce true (methods_in d)) ds

may_stand : (may : Bool) (at : Option Pos) (formals : Option Formals) → initializer_breaches may at formals ≡ [] → is_some at ≡ true → may ≡ true
may_stand may None formals none some = absurd (cc)
may_stand may (Some at) formals none some = (and_parts may (is_none (result_in formals)) (test_is (may && is_none (result_in formals)) 24 at none)).0

procedures_once : (may : Bool) (e : Env) (k : ℕ) (ps : List Procedure) → (procedures_from may e k ps).breaches ≡ [] → AreOnce may ps
procedures_once may e k [] none = tt
procedures_once may e k (p ∷ ps) none =
    let own = initializer_breaches may p.initializer p.formals in
    let rest = bind (formals_in e p.formals) (λ h. locals_in k (marked p.initializer h) p.decls) in
    let one = procedure may e k p.initializer p.formals p.decls in
    let more = procedures_from (may && is_none p.initializer) one.answer (suc k) ps in (
      may_stand may p.initializer p.formals (none_left own rest.breaches (none_left one.breaches more.breaches none)),
      procedures_once (may && is_none p.initializer) one.answer (suc k) ps (none_right one.breaches more.breaches none),
    )

methods_once : (e : Env) (k : ℕ) (ds : List TypeDef) → (methods_from e k ds).breaches ≡ [] → AreAllOnce ds
methods_once e k [] none = tt
methods_once e k (d ∷ ds) none =
    let own = procedures_from true (within_type e (defined_type e d)) k (methods_in d) in
    let one = type_methods e k d in
    let more = methods_from one.answer (k + length (methods_in d)) ds in (
      procedures_once true (within_type e (defined_type e d)) k (methods_in d) (none_left own.breaches [] (none_left one.breaches more.breaches none)),
      methods_once one.answer (k + length (methods_in d)) ds (none_right one.breaches more.breaches none),
    )

-- the initializers of a module
pub record HasInitials (m : Module) : Type 0 where
  pub none : AreOnce false (procedures m.decls)
  pub one : AreAllOnce (type_defs m.decls)

pub headings_once : (e : Env) (m : Module) → (headings e m.decls).breaches ≡ [] → HasInitials m
headings_once e m none =
    let ds = m.decls in
    let first = suc (length (type_defs ds)) in
    let all = walk declared e ds in
    let types = inner_from all.answer 1 (type_defs ds) in
    let own = procedures_from false types.answer first (procedures ds) in
    let inner = methods_from own.answer (first + length (procedures ds)) (type_defs ds) in
    let over = overriding inner.answer (type_defs ds) in
    let last = own.breaches ++ (inner.breaches ++ over.breaches) in
    let behind = none_right types.breaches last (none_right all.breaches (types.breaches ++ last) none) in
    record {
      none = procedures_once false types.answer first (procedures ds) (none_left own.breaches (inner.breaches ++ over.breaches) behind);
      one =
          methods_once own.answer (first + length (procedures ds)) (type_defs ds)
          (none_left inner.breaches over.breaches (none_right own.breaches (inner.breaches ++ over.breaches) behind));
    }
