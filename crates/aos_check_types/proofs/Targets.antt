-- What definitions lead to, over declarations one after another.
use Rattle.std.proofs.Common.{◌≡◌, ℕ, suc, ◌+◌, ◌<◌, ◌≤◌, List, [], ◌∷◌, ◌++◌, length, get_or, drop, drop-cons, add-one, Bor, Option, refl, ap, ◌∙◌, sym, subst, append_assoc}
use Rattle.std.proofs.Math.Path.{ap₂}
use Rattle.std.proofs.lemmas.List.{at_drop_more, at_drop_all}
use Rattle.aos_tree.specs.declared.decl.Decl.{Decl}
use Rattle.aos_symbols.specs.declared.env.Env.{Env}
use Rattle.aos_symbols.specs.declared.breach.Breach.{Breach}
use Rattle.aos_symbols.specs.Judged.{Judged, judged, kept, bind, walk}
use Rattle.aos_symbols.specs.Declarations.{types_in, type_defs, seen_parts}
use Rattle.aos_symbols.specs.Env as env
use Rattle.aos_symbols.proofs.Paths.{past}
use Rattle.aos_check_types.specs.declared.aliases.Target.{Target}
use Rattle.aos_check_types.specs.Aliases.{with_target, inner_targets}
use Rattle.aos_check_types.specs.Told.{Told}
use Rattle.aos_check_types.proofs.Telling.{Leads, led_by}

-- a walk over one list and then another
pub walk-append : {A X : Type 0} (step : A → X → Judged A) (a : A) (xs ys : List X) →
    walk step a (xs ++ ys) ≡ bind (walk step a xs) (λ b. walk step b ys)
walk-append {A = A} {X = X} step a [] ys = refl
walk-append {A = A} {X = X} step a (x ∷ xs) ys =
    ap (λ (w : Judged A). judged ((step a x).breaches ++ w.breaches) w.answer) (walk-append step (step a x).answer xs ys)
    ∙ ap (λ (bs : List Breach). judged bs (walk step (walk step (step a x).answer xs).answer ys).answer)
    (sym (append_assoc (step a x).breaches (walk step (step a x).answer xs).breaches (walk step (walk step (step a x).answer xs).answer ys).breaches))

module _ (e : Env) where
  -- declarations that define types, and others
  pub types_step : (ts : List Target) (ds : List Decl) (i : ℕ) (d : Decl) → i < length ds → d ≡ get_or ds i d →
      walk (with_target e) ts (type_defs (drop i ds)) ≡ bind (walk (with_target e) ts (types_in d)) (λ us. walk (with_target e) us (type_defs (drop (i + 1) ds)))
  types_step ts ds i d lt is =
      ap (walk (with_target e) ts) (at_drop_more type_defs ds i d lt) ∙ walk-append (with_target e) ts (types_in (get_or ds i d)) (type_defs (drop (i + 1) ds))
      ∙ ap (λ x. bind (walk (with_target e) ts (types_in x)) (λ us. walk (with_target e) us (type_defs (drop (i + 1) ds)))) (sym is)

  pub types_end : (ts : List Target) (ds : List Decl) (i : ℕ) → length ds ≤ i → walk (with_target e) ts (type_defs (drop i ds)) ≡ kept ts
  types_end ts ds i le = ap (walk (with_target e) ts) (at_drop_all type_defs ds i le)

  -- one part more
  part_step : (k : ℕ) (ts : List Target) (ps : List (Bor (List Decl))) (i : ℕ) (d : Bor (List Decl)) → i < length ps →
      inner_targets e k ts (seen_parts (drop i ps))
      ≡ bind (walk (with_target (env.within e k)) ts (type_defs (get_or ps i d).now)) (λ us. inner_targets e (suc k) us (seen_parts (drop (i + 1) ps)))
  part_step k ts ps i d lt =
      ap (λ l. inner_targets e k ts (seen_parts l)) (drop-cons ps i d lt)
      ∙ ap (λ j. bind (walk (with_target (env.within e k)) ts (type_defs (get_or ps i d).now)) (λ us. inner_targets e (suc k) us (seen_parts (drop j ps)))) (sym (add-one i))

  pub part_on : (k next : ℕ) (ts : List Target) (ps : List (Bor (List Decl))) (i : ℕ) (d : Bor (List Decl)) (whole : Judged (List Target))
      {before begun behind : Option Breach} {us : List Target} {f : Env} {ds : List Decl} →
      Leads (inner_targets e k ts (seen_parts (drop i ps))) whole before begun → i < length ps → d ≡ get_or ps i d → next ≡ k + 1 → f ≡ e → ds ≡ d.now →
      Told (walk (with_target (env.within f k)) ts (type_defs ds)) before behind us →
      Leads (inner_targets e next us (seen_parts (drop (i + 1) ps))) whole behind begun
  part_on k next ts ps i d whole {before = before} {begun = begun} {behind = behind} {us = us} leads lt at one same are told =
      let here = λ (f : Env) (ds : List Decl). walk (with_target (env.within f k)) ts (type_defs ds) in
      let rest = seen_parts (drop (i + 1) ps) in
      let told_here : Told (here e (get_or ps i d).now) before behind us =
      subst (λ (j : Judged (List Target)). Told j before behind us) (ap₂ here same (are ∙ ap (λ (p : Bor (List Decl)). p.now) at)) told in
      subst (λ (n : ℕ). Leads (inner_targets e n us rest) whole behind begun) (sym (one ∙ add-one k))
      (led_by (here e (get_or ps i d).now) (λ us. inner_targets e (suc k) us rest) (inner_targets e k ts (seen_parts (drop i ps))) whole leads
      (part_step k ts ps i d lt) told_here)

  pub parts_end : (k : ℕ) (ts : List Target) (ps : List (Bor (List Decl))) (i : ℕ) → length ps ≤ i → inner_targets e k ts (seen_parts (drop i ps)) ≡ kept ts
  parts_end k ts ps i le = ap (λ l. inner_targets e k ts (seen_parts l)) (past ps i le)
