-- What the passes of a module give, one after another.
use Rattle.std.proofs.Common.{◌≡◌, ◌<◌, ℕ, suc, Bor, List, [], ◌∷◌, ◌++◌, ◌+◌, length, map, Option, Some, None, get_or, drop, append-nil, arith, refl, ap, ap₂, ◌∙◌, sym, subst}
use Rattle.aos_tree.specs.declared.decl.TypeDef.{TypeDef}
use Rattle.aos_tree.specs.declared.module.Module.{Module as Tree}
use Rattle.aos_types.specs.declared.row.TypeRow.{TypeRow}
use Rattle.aos_typed.specs.declared.tree.TStat.{TStat}
use Rattle.aos_typed.specs.Program.{Procedure as TypedProcedure, Then}
use Rattle.aos_typed.specs.Seen.{seen_stat, seen_stats}
use Rattle.aos_symbols.specs.declared.breach.Breach.{Breach}
use Rattle.aos_symbols.specs.declared.env.Env.{Env}
use Rattle.aos_symbols.specs.declared.home.ObjectScope.{ObjectScope}
use Rattle.aos_symbols.specs.Home.{Home, slot_at}
use Rattle.aos_symbols.specs.Judged.{Judged, walk, judged}
use Rattle.aos_symbols.specs.Breaches.{first, first_after}
use Rattle.aos_symbols.specs.Outcome.{Outcome, went, refused, then, passed, decided, refusal_of}
use Rattle.aos_symbols.specs.Declarations.{seen_types}
use Rattle.aos_check_names.specs.Names.{name_breaches}
use Rattle.aos_symbols.proofs.Keeping.{after_more}
use Rattle.aos_check_decl.specs.Pass.{declare}
use Rattle.aos_check_stat.specs.Bodies.{listed}
use Rattle.aos_reading.specs.declared.compile_err.CompileErr.{CompileErr}
use Rattle.aos_reading.specs.declared.compile_err.CompileErr.TheVariants.{Refused, NoMemory}
use Rattle.aos_reading.specs.Sources.{OnRefused}
use Rattle.aos_compile.specs.Modules.{World, Programs, Beside, Bodies, bodies, defined_object, slotted, beside_in, object_in, programs, with_module, extended, behind_headings, behind_names, elaborated}
use Rattle.aos_compile.proofs.Kept.{before_kept}
use Rattle.aos_variables.proofs.Pairs.{drop_item}

-- statements are seen in their order
pub stats_listed : (ss : List TStat) → seen_stats ss ≡ listed (map seen_stat ss)
stats_listed [] = refl
stats_listed (s ∷ ss) = ap (λ z. Then (seen_stat s) z) (stats_listed ss)

-- one definition more, of which this stands beside its type
module _ (e : Env) (first : ℕ) (os new : List Beside) (ds : List (Bor TypeDef)) (i : ℕ) (d : Bor TypeDef) where
  abbrev one : Judged Beside
  one = beside_in e first d.now (defined_object e d.now)

  abbrev rest : Judged (List Beside)
  rest = walk (object_in e first) new (seen_types (drop (i + 1) ds))

  objects_next : i < length ds → d ≡ get_or ds i d → new ≡ os ++ one.answer ∷ [] →
      walk (object_in e first) os (seen_types (drop i ds)) ≡ judged (one.breaches ++ rest.breaches) rest.answer
  objects_next lt at told =
      ap (λ l. walk (object_in e first) os (seen_types l)) (drop_item ds i d lt at)
      ∙ ap (λ b. let w = walk (object_in e first) b (seen_types (drop (i + 1) ds)) in judged ((one.breaches ++ []) ++ w.breaches) w.answer) (sym told)
      ∙ ap (λ l. judged (l ++ rest.breaches) rest.answer) (append-nil one.breaches)

  pub objects_noted : (met behind : Option Breach) → i < length ds → d ≡ get_or ds i d → new ≡ os ++ one.answer ∷ [] →
      behind ≡ first_after met one.breaches → first_after behind rest.breaches ≡ first_after met (walk (object_in e first) os (seen_types (drop i ds))).breaches
  objects_noted met behind lt at told noted =
      ap (λ z. first_after z rest.breaches) noted
      ∙ sym (after_more met one.breaches rest.breaches)
      ∙ ap (λ (z : Judged (List Beside)). first_after met z.breaches) (sym (objects_next lt at told))

  pub objects_answer : i < length ds → d ≡ get_or ds i d → new ≡ os ++ one.answer ∷ [] →
      rest.answer ≡ (walk (object_in e first) os (seen_types (drop i ds))).answer
  objects_answer lt at told = ap (λ (z : Judged (List Beside)). z.answer) (sym (objects_next lt at told))

-- one method more, with its slot
pub slotted_more : (h : Home) (o : ObjectScope) (k : ℕ) (qs : List TypedProcedure) (q : TypedProcedure) →
    slotted h o k (qs ++ q ∷ []) ≡ slotted h o k qs ++ record { slot = slot_at h o (k + length qs); procedure = q } ∷ []
slotted_more h o k [] q = ap (λ n. record { slot = slot_at h o n; procedure = q } ∷ []) (let same : k ≡ k + 0 = omega arith in same)
slotted_more h o k (p ∷ ps) q =
    ap (λ l. record { slot = slot_at h o k; procedure = p } ∷ l)
    (slotted_more h o (suc k) ps q
    ∙ ap (λ n. slotted h o (suc k) ps ++ record { slot = slot_at h o n; procedure = q } ∷ []) (let same : suc k + length ps ≡ k + suc (length ps) = omega arith in same))

module _ (file : ℕ) (p : Programs) (v : Env) (m : Tree) where
  -- a rule that the pass over headings breaks refuses
  pub headings_refused : (b : Breach) (e : CompileErr) {found : Option Breach} → found ≡ Some b → e ≡ Refused (refusal_of file b) →
      OnRefused e (λ r. behind_headings file found p v m ≡ refused r)
  headings_refused b e {found = found} is told =
      subst (λ (e : CompileErr). OnRefused e (λ r. behind_headings file found p v m ≡ refused r)) (sym told) (ap (λ f. behind_headings file f p v m) is)

  none_found : {found : Option Breach} → found ≡ None → behind_headings file found p v m ≡ then (passed file (bodies v m)) (λ b. went (with_module p v m b))
  none_found is = ap (λ f. behind_headings file f p v m) is

  -- and so does one that bodies break
  pub bodies_refused : (e : CompileErr) {found : Option Breach} → found ≡ None → OnRefused e (λ r. passed file (bodies v m) ≡ refused r) →
      OnRefused e (λ r. behind_headings file found p v m ≡ refused r)
  bodies_refused (Refused r) is h = none_found is ∙ ap (λ o. then o (λ b. went (with_module p v m b))) h
  bodies_refused NoMemory is h = tt

  pub module_went : (b : Bodies) {found : Option Breach} {q : Programs} → found ≡ None → passed file (bodies v m) ≡ went b → q ≡ with_module p v m b →
      behind_headings file found p v m ≡ went q
  module_went b is h told = none_found is ∙ ap (λ o. then o (λ b. went (with_module p v m b))) h ∙ ap (λ q. went q) (sym told)

module _ (w : World) (file : ℕ) (text : List ℕ) (m : Tree) where
  abbrev declares : Judged Env
  declares = declare (length w.before) w.before w.types text m

  abbrev behind : Env → Outcome World
  behind e = then (passed file (bodies e m)) (λ b. went (extended w e m b))

  -- the programs with a module more, beside what the modules behind it see
  abbrev beside : Env → Programs → World
  beside e p = record { before = e.before ++ e.here ∷ []; types = e.types; modules = p.modules; objects = p.objects }

  pub names_told : first (name_breaches text m) ≡ None → elaborated w file text m ≡ behind_names w file text m
  names_told h = ap (λ f. then (decided file f (tt {0})) (λ names. behind_names w file text m)) h

  pub behind_refused : (e : CompileErr) → first (name_breaches text m) ≡ None → OnRefused e (λ r. behind_names w file text m ≡ refused r) →
      OnRefused e (λ r. elaborated w file text m ≡ refused r)
  behind_refused (Refused r) none h = names_told none ∙ h
  behind_refused NoMemory none h = tt

  then_beside : (e : Env) → e.before ≡ w.before → (o : Outcome Bodies) →
      then (then o (λ b. went (with_module (programs w) e m b))) (λ p. went (beside e p)) ≡ then o (λ b. went (extended w e m b))
  then_beside e same (refused r) = refl
  then_beside e same (went b) = ap (λ hs. went (extended (record w { before = hs }) e m b)) same

  found_beside : (found : Option Breach) (e : Env) → e.before ≡ w.before →
      then (behind_headings file found (programs w) e m) (λ p. went (beside e p)) ≡ then (decided file found e) behind
  found_beside None e same = then_beside e same (passed file (bodies e m))
  found_beside (Some b) e same = refl

  -- what the passes behind names come to, from what those behind headings do
  from_headings : {found : Option Breach} {e : Env} → found ≡ first declares.breaches → e ≡ declares.answer →
      behind_names w file text m ≡ then (behind_headings file found (programs w) e m) (λ p. went (beside e p))
  from_headings {found = found} {e = e} noted is =
      sym (found_beside found e (ap (λ (z : Env). z.before) is ∙ before_kept (length w.before) w.before w.types text m)
      ∙ ap₂ (λ f z. then (decided file f z) behind) noted is)

  pub world_refused : (err : CompileErr) {found : Option Breach} {e : Env} → found ≡ first declares.breaches → e ≡ declares.answer →
      OnRefused err (λ r. behind_headings file found (programs w) e m ≡ refused r) → OnRefused err (λ r. behind_names w file text m ≡ refused r)
  world_refused (Refused r) {e = e} noted is h = from_headings noted is ∙ ap (λ o. then o (λ p. went (beside e p))) h
  world_refused NoMemory noted is h = tt

  pub world_went : (p : Programs) {found : Option Breach} {e f : Env} {hs : List Home} {ts : List TypeRow} → found ≡ first declares.breaches → e ≡ declares.answer →
      behind_headings file found (programs w) e m ≡ went p → f ≡ e → hs ≡ f.before ++ f.here ∷ [] → ts ≡ f.types →
      behind_names w file text m ≡ went (record { before = hs; types = ts; modules = p.modules; objects = p.objects })
  world_went p {e = e} noted is h same homes types =
      from_headings noted is ∙ ap (λ o. then o (λ p. went (beside e p))) h
      ∙ sym (ap₂ (λ hs ts. went (record { before = hs; types = ts; modules = p.modules; objects = p.objects }))
      (homes ∙ ap (λ (z : Env). z.before ++ z.here ∷ []) same) (types ∙ ap (λ (z : Env). z.types) same))
