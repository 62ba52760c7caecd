-- Statements that break no rule are well typed, where the types of all variables are known.
use Rattle.std.proofs.Common.{◌≡◌, ℤ, ◌⊎◌, List, [], ◌∷◌, ◌++◌, drop, length, Bool, true, false, ◌||◌, not, Option, Some, None, is_some, refl, sym, ap, ◌∙◌, subst, if◌then◌else◌}
use Rattle.aos_base.specs.declared.text.Pos.{Pos}
use Rattle.std.specs.Prelude.{All}
use Rattle.std.specs.Option.{is_none}
use Rattle.std.proofs.lemmas.Bool.{and_parts}
use Rattle.std.proofs.lemmas.List.{append-nil}
use Rattle.std.proofs.lemmas.List.Elements.{All-nil, All-drop}
use Rattle.aos_base.specs.declared.number.Width.TheVariants.{W64}
use Rattle.aos_base.specs.Number.{IsWithin}
use Rattle.aos_tree.specs.declared.name.Name.{Name}
use Rattle.aos_tree.specs.declared.name.Qualident.{Qualident}
use Rattle.aos_tree.specs.declared.expr.Expr.{Expr as TreeExpr}
use Rattle.aos_tree.specs.declared.expr.Desig.{Desig}
use Rattle.aos_tree.specs.declared.stat.Block.{Block}
use Rattle.aos_tree.specs.declared.stat.Case.TheVariants as case
use Rattle.aos_tree.specs.declared.stat.Stat.{Stat as TreeStat, Row_of-Stat, end_of-Stat, more_of-Stat, Row_of-Elsif, end_of-Elsif, more_of-Elsif, Row_of-Case, end_of-Case, more_of-Case, Held-Stat-If-4, None', Some'}
use Rattle.aos_tree.specs.declared.stat.Stat.TheVariants as stat
use Rattle.aos_typed.specs.declared.tree.TType.TheVariants as type
use Rattle.aos_typed.specs.Conditions.{HasNoCalls}
use Rattle.aos_typed.specs.Routines.{result_of}
use Rattle.aos_typed.specs.Program.{Expr, Stat, Assign, Copy, If, Case as CaseOf, While, Repeat, Loop, For, Block as BlockOf, Await, Return, Arms, Otherwise, Arm, Cases, Else, OfLabels}
use Rattle.aos_typed.specs.WellTyped.{AreLabels, AreApart, labels_of}
use Rattle.aos_typed.specs.WellTyped as typed
use Rattle.aos_types.specs.declared.row.TypeId.{TypeId}
use Rattle.aos_symbols.specs.declared.scope.Meaning.{Meaning}
use Rattle.aos_symbols.specs.declared.scope.Meaning.TheVariants as means
use Rattle.aos_symbols.specs.declared.scope.Routine.TheVariants as routine
use Rattle.aos_types.specs.declared.signature.Gives.{Gives}
use Rattle.aos_types.specs.declared.signature.Gives.TheVariants as gives
use Rattle.aos_types.specs.declared.signature.Signature.{Signature}
use Rattle.aos_symbols.specs.declared.env.Symbol.{Symbol}
use Rattle.aos_symbols.specs.declared.env.Lookup.{Lookup}
use Rattle.aos_symbols.specs.declared.env.Lookup.TheVariants.{Unknown as NoName, NotExported, Found}
use Rattle.aos_symbols.specs.declared.env.Narrowed.{Narrowed}
use Rattle.aos_symbols.specs.declared.env.Env.{Env}
use Rattle.aos_symbols.specs.Breaches.{breach_unless}
use Rattle.aos_symbols.specs.Judged.{Judged, judged, kept, bind, walk}
use Rattle.aos_symbols.specs.Env as env
use Rattle.aos_symbols.proofs.Holds.{Holds, holds_bind, holds_walk, none_left, none_right, test_is, broken}
use Rattle.aos_known.specs.Known.{Answer, Entity, passes, is as is_the, type_as, is_long_text, width_of}
use Rattle.aos_known.specs.Kinds.{has_parts, is_opened}
use Rattle.aos_known.specs.Places.{place_of, place_in}
use Rattle.aos_known.proofs.Inside.{Inside, IsOf, IsStatement, AreStatements, AreArms, AreCases}
use Rattle.aos_values.specs.Assignable as assignable
use Rattle.aos_values.specs.Arrays.{is_opening}
use Rattle.aos_values.specs.TypeNames.{known_type}
use Rattle.aos_designators.specs.declared.designators.Head.{Head}
use Rattle.aos_designators.specs.Designators as desig
use Rattle.aos_designators.specs.Designators.{assigned}
use Rattle.aos_check_expr.specs.Expressions.{expr, condition, designator}
use Rattle.aos_check_expr.proofs.Passed.{scalar_fits}
use Rattle.aos_check_expr.proofs.Tested.{known_some}
use Rattle.aos_check_expr.proofs.Entities.{IsResultOf, IsEntity, Part, MayFind, plain_head, behind_head, named_entity, denoted, refused_part}
use Rattle.aos_check_expr.proofs.Whole.{many_types}
use Rattle.aos_check_expr.proofs.Typing.{IsWhole, IsSound, expr_sound, expr_part, condition_sound}
use Rattle.aos_check_expr.proofs.Uncalled.{condition_calm}
use Rattle.aos_check_stat.specs.Called as calls
use Rattle.aos_check_stat.specs.Bodies as judge
use Rattle.aos_check_stat.specs.Bodies.{listed, put, modifier_breaches, are_exclusive}
use Rattle.aos_check_stat.proofs.Places.{MayBe as MayBeOf, some_breach, not_long, not_nil, not_named, IsRead, read_sound, IsAssigned, assigned_sound, told_typed, copying, putting}
use Rattle.aos_check_stat.proofs.Changed.{place_changed}
use Rattle.aos_check_stat.proofs.CallTyping.{called_sound}
use Rattle.aos_stat_rules.proofs.Apart.{between}
use Rattle.aos_check_stat.proofs.Narrowed.{whole_within, region_whole, condition_whole, narrows_on, with_typed}
use Rattle.aos_check_stat.proofs.Controlled.{IsControl, AreMore, control_sound, fitting_sound, step_sound, selector_sound, labels_sound}

module _ (p : Inside) (e : Env) (whole : IsWhole p e) where
  abbrev MayBe : Option Stat → Type 0
  MayBe o = MayBeOf p o

  abbrev pub Are : List Stat → Type 0
  Are ts = AreStatements p (listed ts)

  behind_sound : (ts : List Stat) (x : Stat) → Are ts → IsStatement p x → Are (ts ++ x ∷ [])
  behind_sound [] x are is = (is, tt)
  behind_sound (t ∷ ts) x are is = (are.0, behind_sound ts x are.1 is)

  put_sound : (ts : List Stat) (o : Option Stat) → Are ts → MayBe o → Are (put ts o)
  put_sound ts None are is = are
  put_sound ts (Some x) are is = behind_sound ts x are is

  -- Assignments.

  either_stat : (b : Bool) (x y : Stat) → (b ≡ true → IsStatement p x) → (b ≡ false → IsStatement p y) → IsStatement p (if b then x else y)
  either_stat true x y f g = f refl
  either_stat false x y f g = g refl

  some_of : {X : Type 0} (o : Option X) → is_some o ≡ true → (x : X) × (o ≡ Some x)
  some_of None h = absurd (cc)
  some_of (Some x) h = (x, refl)

  none_of : {X : Type 0} (o : Option X) → is_some o ≡ false → o ≡ None
  none_of None h = refl
  none_of (Some x) h = absurd (cc)

  -- an assigned value fits
  stat_sound_of : (first : Pos) (a : Entity) (v : Answer) → IsAssigned p e whole a → Part p e v → calls.value_fits e a v (calls.text_to e a v) ≡ true →
      IsStatement p (judge.assigned_stat e first a v)
  stat_sound_of first a v is part h =
      either_stat (is_some (calls.text_to e a v)) (calls.put_text e first true v a) _
      (λ some. let t = some_of (calls.text_to e a v) some in putting p e whole first a v t.0 is (part.sound whole) t.1)
      (λ none. let fit = fitted (none_of (calls.text_to e a v) none) in rw is.known (by fit.0 fit.1 (has_parts e is.of) refl))
    where
      not_true : (b : Bool) → not b ≡ true → b ≡ false
      not_true true e = absurd (cc)
      not_true false e = refl

      fitted : calls.text_to e a v ≡ None → (assignable.is_assignable e v.known a.known.of ≡ true) × (is_opened e is.of ≡ false)
      fitted none =
          let shut = not (is_opening e a.known.of) in
          let two = and_parts (assignable.is_assignable e v.known a.known.of) (is_none v.known.of || shut) (ap (calls.value_fits e a v) (sym none) ∙ h) in
          let closed = ap (λ o. is_none o || shut) (sym (part.sound whole).known) ∙ two.1 in
          (two.0, not_true (is_opened e is.of) (ap (λ o. not (is_opening e o)) (sym is.known) ∙ closed))

      without : (b c : Bool) → (b || c) ≡ true → c ≡ false → b ≡ true
      without true c e n = refl
      without false c e n = sym n ∙ e

      by : assignable.is_assignable e v.known a.known.of ≡ true → is_opened e is.of ≡ false → (parts : Bool) → has_parts e is.of ≡ parts →
          IsStatement p (if parts then Copy first (type_as is.of) (place_of a.held) (place_in v.typed)
          else Assign first (type_as is.of) (place_of a.held) (assignable.typed_for e (Some is.of) v))
      by h isnt true parts =
          let held = told_typed p e whole (place_of a.held) is.of isnt is.typed in
          let c = copying p e whole a v is held.0 parts (part.sound whole) h in (held.1, c.from, c.row)
      by h isnt false parts =
          let held = told_typed p e whole (place_of a.held) is.of isnt is.typed in
          let none : (has_parts e is.of || is_opened e is.of) ≡ false = rw (parts, isnt) refl in
          let short = without (desig.is_value e is.of || (is_long_text is.of || is_the (env.procedure e) is.of)) (has_parts e is.of || is_opened e is.of) is.built none in
          let other : (is_long_text is.of || is_the (env.procedure e) is.of) ≡ false = rw (not_long e.types is.of held.0, not_named e (many_types p e whole) is.of held.0) refl in
          let value = without (desig.is_value e is.of) (is_long_text is.of || is_the (env.procedure e) is.of) short other in
          let fit = scalar_fits p e whole is.of (not_nil e.types is.of held.0) value v part (ap (assignable.is_assignable e v.known) (sym is.known) ∙ h) in
          (held.1, fit.0, fit.1)

  assign_sound : (d : Desig) (at : Pos) (x : TreeExpr) → Holds MayBe (judge.assign e d at x)
  assign_sound d at x =
      let last = λ (a : Entity) (v : Answer). judged (judge.assign_breaches e at a v) (Some (judge.assigned_stat e d.name.pos a v)) in
      holds_bind (IsAssigned p e whole) MayBe (bind (designator e d) (λ a. assigned e d.name.pos a)) (λ a. bind (expr e x) (λ v. last a v))
      (holds_bind (IsRead p e whole) (IsAssigned p e whole) (designator e d) (λ a. assigned e d.name.pos a) (read_sound p e whole d) (λ a is. assigned_sound p e whole a d.name.pos is))
      (λ a is. holds_bind (Part p e) MayBe (expr e x) (λ v. last a v) (expr_part p e whole x)
      (λ v part h. stat_sound_of d.name.pos a v is part (test_is (calls.value_fits e a v (calls.text_to e a v)) 31 at h)))

  -- RETURN.

  -- what the procedure gives in which a statement stands
  own_result : IsResultOf (judge.gives_here e) (result_of p.own)
  own_result = by (env.own_signature e) refl
    where
      by : (o : Option Signature) → env.own_signature e ≡ o → IsResultOf (judge.gives_here e) (result_of p.own)
      by None is = rw is (whole.own_body is)
      by (Some sig) is = let q = whole.own sig is in rw is (subst (λ o. IsResultOf sig.gives (result_of o)) (sym q.1) q.2.result)

  return_sound : (at : Pos) (g : Gives) → IsResultOf g (result_of p.own) → (x : Option TreeExpr) → Holds MayBe (judge.return_of e at g x)
  return_sound at gives.Nothing is None = λ h. subst (λ r. typed.IsReturn p.program p.own None r) (sym is) tt
  return_sound at gives.Nothing is (Some x) = holds_bind (IsSound p) MayBe (expr e x) (λ _. calls.refused 40 at) (expr_sound p e whole x) (λ _ sound h. tt)
  return_sound at (gives.Value of) is None = λ h. tt
  return_sound at (gives.Value of) is (Some x) =
      let given = λ (o : Option TypeId) (v : Answer).
      judged (breach_unless (assignable.is_assignable e v.known o) 40 at ++ breach_unless (passes (desig.is_value e) o) 99 at) (Some (Return at (Some (assignable.typed_for e o v)))) in
      subst (λ o. Holds MayBe (bind (expr e x) (given o))) (sym is.1)
      (holds_bind (Part p e) MayBe (expr e x) (given (Some is.0)) (expr_part p e whole x)
      (λ v part h. let fit = breach_unless (assignable.is_assignable e v.known (Some is.0)) 40 at in
      let low = breach_unless (desig.is_value e is.0) 99 at in
      subst (λ r. typed.IsReturn p.program p.own (Some (assignable.typed_for e (Some is.0) v)) r) (sym is.2)
      (scalar_fits p e whole is.0 is.3 (test_is (desig.is_value e is.0) 99 at (none_right fit low h)) v part
      (test_is (assignable.is_assignable e v.known (Some is.0)) 40 at (none_left fit low h))).1))

  exit_sound : (in_loop : Bool) (at : Pos) → Holds MayBe (judge.exit_of in_loop at)
  exit_sound true at = λ h. tt
  exit_sound false at = λ h. tt

  -- WITH.

  -- what a WITH names is a designator, that of its variable, which breaks no rule
  abbrev pub IsWithVariable : Qualident → Entity → Type 0
  IsWithVariable q v = (v ≡ (judge.with_variable e q).answer) × ((judge.with_variable e q).breaches ≡ []) × IsEntity p e v

  with_name_sound : (h : Head) → MayFind p e h.found → Holds (IsEntity p e) (judge.with_name e h)
  with_name_sound h may = by (judge.may_be_variable h.found)
    where
      by : (b : Bool) → Holds (IsEntity p e) (if b then desig.named e h else desig.denoted h.first (desig.refused (judge.with_rule e h.found) h.first))
      by true = named_entity p e whole.constants h may
      by false = denoted p e h.first (desig.refused (judge.with_rule e h.found) h.first) (refused_part p e (judge.with_rule e h.found) h.first)

  with_part_sound : (h : Head) → MayFind p e h.found → Holds (IsEntity p e) (judge.with_part e h)
  with_part_sound h may = by (judge.is_missing h.found)
    where
      by : (b : Bool) → Holds (IsEntity p e) (if b then desig.named e h else desig.denoted h.first (desig.refused (judge.with_rule e h.found) h.first))
      by true = named_entity p e whole.constants h may
      by false = denoted p e h.first (desig.refused (judge.with_rule e h.found) h.first) (refused_part p e (judge.with_rule e h.found) h.first)

  pub with_variable_sound : (q : Qualident) → Holds (IsWithVariable q) (judge.with_variable e q)
  with_variable_sound q none = (refl, none, by q.second none)
    where
      behind : (n : Name) (b : Bool) → Holds (IsEntity p e) (if b then judge.with_name e (desig.member e q.first n) else judge.with_part e (desig.plain e q.first))
      behind n true = with_name_sound (desig.member e q.first n) (behind_head p e (env.lookup e q.first) n)
      behind n false = with_part_sound (desig.plain e q.first) (plain_head p e q.first)

      by : (o : Option Name) → Holds (IsEntity p e) (judge.with_variable e (record { first = q.first; second = o }))
      by None = with_name_sound (desig.plain e q.first) (plain_head p e q.first)
      by (Some n) = behind n (desig.is_module (env.lookup e q.first))

  abbrev pub MayBeNarrowed : TypeId → Entity → Type 0
  MayBeNarrowed u v = desig.may_test e (desig.is_passed (place_of v.held)) v.known.of (Some u) ≡ true

  abbrev pub IsGuarded : Entity → TypeId → Entity → Type 0
  IsGuarded v u g = MayBeNarrowed u v × (g ≡ desig.guarded_entity e u v)

  pub guard_sound : (at : Pos) (v : Entity) → IsEntity p e v → (u : TypeId) → Holds (IsGuarded v u) (desig.guard e at v (Some u))
  guard_sound at v is u = by (desig.may_test e (desig.is_passed (place_of v.held)) v.known.of (Some u)) refl
    where
      by : (b : Bool) → desig.may_test e (desig.is_passed (place_of v.held)) v.known.of (Some u) ≡ b →
          Holds (IsGuarded v u) (if b then kept (desig.guarded_entity e u v) else desig.denoted v.at (desig.refused_variable 41 at))
      by true may = λ none. (may, refl)
      by false may = broken (IsGuarded v u) _ [] _

  -- its statements stand in the environment of bodies

  abbrev Ends : Option Narrowed → Type 0
  Ends None = IsWhole p e
  Ends (Some n) = IsWhole p (env.narrowing e n)

  meant_ends : (u : TypeId) (x : Symbol) (m : Meaning) (h : Head) → (desig.meant e x m h).breaches ≡ [] → MayBeNarrowed u (desig.meant e x m h).answer → Ends (judge.narrowed_meaning x m u)
  meant_ends u x (means.Variable k) h = λ none may.
      whole_within e (e.narrowed ++ record { at = x.at; number = k; of = u } ∷ []) e.is_exclusive e.is_condition p whole (narrows_on e p whole x k h.name.pos u may)
  meant_ends u x m h = λ none may. whole

  name_ends : (u : TypeId) (l : Lookup) (h : Head) → h.found ≡ l → (judge.with_name e h).breaches ≡ [] → MayBeNarrowed u (judge.with_name e h).answer → Ends (judge.narrowed_found l u)
  name_ends u NoName h is none may = whole
  name_ends u NotExported h is none may = whole
  name_ends u (Found x) h is none may = by x.means refl
    where
      other : Judged Entity
      other = desig.denoted h.first (desig.refused (judge.with_rule e h.found) h.first)

      by : (m : Meaning) → x.means ≡ m → Ends (judge.narrowed_meaning x m u)
      by (means.Variable k) same =
          let one : judge.with_name e h ≡ desig.meant e x (means.Variable k) h =
          ap (λ l. if judge.may_be_variable l then desig.found e l h else other) is
          ∙ ap (λ m. if judge.is_variable_meaning m then desig.meant e x m h else other) same in
          meant_ends u x (means.Variable k) h (ap (λ j. j.breaches) (sym one) ∙ none) (subst (λ j. MayBeNarrowed u j.answer) one may)
      by m same = whole

  part_breaks : (l : Lookup) (h : Head) → h.found ≡ l → (judge.with_part e h).breaches ≡ [] → ⊥
  part_breaks l h is none = by l (sym (ap (λ l. (if judge.is_missing l then desig.found e l h else other).breaches) is) ∙ none)
    where
      other : Judged Entity
      other = desig.denoted h.first (desig.refused (judge.with_rule e h.found) h.first)

      by : (l : Lookup) → (if judge.is_missing l then desig.found e l h else other).breaches ≡ [] → ⊥
      by NoName none = some_breach none
      by NotExported none = some_breach none
      by (Found x) none = some_breach none

  pub narrowed_whole : (q : Qualident) (u : TypeId) → (judge.with_variable e q).breaches ≡ [] → MayBeNarrowed u (judge.with_variable e q).answer → IsWhole p (judge.narrowed_by e q (Some u))
  narrowed_whole q u none may = end (judge.narrowed_variable e q (Some u)) refl (by q.second none may)
    where
      behind : (n : Name) (b : Bool) → let j = if b then judge.with_name e (desig.member e q.first n) else judge.with_part e (desig.plain e q.first) in
          j.breaches ≡ [] → MayBeNarrowed u j.answer → Ends (judge.narrowed_found (desig.member e q.first n).found u)
      behind n true none may = name_ends u (desig.member e q.first n).found (desig.member e q.first n) refl none may
      behind n false none may = absurd (part_breaks (env.lookup e q.first) (desig.plain e q.first) refl none)

      by : (o : Option Name) → let j = judge.with_variable e (record { first = q.first; second = o }) in
          j.breaches ≡ [] → MayBeNarrowed u j.answer → Ends (judge.narrowed_variable e (record { first = q.first; second = o }) (Some u))
      by None none may = name_ends u (env.lookup e q.first) (desig.plain e q.first) refl none may
      by (Some n) none may = behind n (desig.is_module (env.lookup e q.first)) none may

      end : (o : Option Narrowed) → judge.narrowed_variable e q (Some u) ≡ o → Ends o → IsWhole p (judge.narrowed_by e q (Some u))
      end None is w = rw is w
      end (Some n) is w = rw is w

-- AWAIT

pub await_sound : (p : Inside) (e : Env) → IsWhole p e → (at : Pos) (x : TreeExpr) → Holds (MayBeOf p) (judge.await_of e at x)
await_sound p e whole at x =
    holds_bind (λ t. IsOf p t type.Boolean × HasNoCalls t) (MayBeOf p) (condition (judge.in_condition e) x)
    (λ t. judged (breach_unless e.is_exclusive 43 at) (Some (Await at 0 t)))
    (λ none. (condition_sound p (judge.in_condition e) (condition_whole p e whole) x none, condition_calm (judge.in_condition e) refl x))
    (λ t is h. is)

module _ (p : Inside) where
  -- what breaks a rule is no statement
  abbrev Fine : Option Stat → Type 0
  Fine o = MayBeOf p o

  abbrev AreFine : List Stat → Type 0
  AreFine ts = AreStatements p (listed ts)

  -- arms of CASE behind labels: no two of all of them have a value together
  record AreCasesBehind (ls : judge.Labels) (cases : Cases) : Type 0 where
    arms : AreCases p cases
    apart : AreApart (ls ++ labels_of cases)

  -- what stands behind ELSE has no labels
  record IsEnd (cases : Cases) : Type 0 where
    arms : AreCases p cases
    none : labels_of cases ≡ []

  abbrev IsTest : Expr → Type 0
  IsTest x = IsOf p x type.Boolean

  mutual
    stat_sound : (e : Env) (whole : IsWhole p e) (in_loop : Bool) (x : TreeStat) → Holds Fine (judge.stat_of e in_loop x)
    stat_sound e whole in_loop stat.Empty = λ h. tt
    stat_sound e whole in_loop (stat.Assign d at x) = assign_sound p e whole d at x
    stat_sound e whole in_loop (stat.Call d) = called_sound p e whole (env.lookup e d.name) (plain_head p e d.name) d
    stat_sound e whole in_loop (stat.While' q c shape row) =
        holds_bind IsTest Fine (condition e c) (λ test. bind (judge.stats_in e in_loop [] row) (λ body. kept (Some (While q test (listed body)))))
        (condition_sound p e whole c)
        (λ test is. holds_bind AreFine Fine (judge.stats_in e in_loop [] row) (λ body. kept (Some (While q test (listed body)))) (stats_sound e whole in_loop [] tt row) (λ body are h. (is, are)))
    stat_sound e whole in_loop (stat.Block' q ms shape row) =
        let f = judge.within_block ms e in
        let block = λ (body : List Stat). kept (Some (BlockOf q (are_exclusive e.here.text ms) (listed body))) in
        holds_bind AreFine Fine (judged (modifier_breaches e.here.text false ms) []) (λ none. bind (judge.stats_in f in_loop none row) block) (λ h. tt)
        (λ none are. holds_bind AreFine Fine (judge.stats_in f in_loop none row) block
        (stats_sound f (region_whole p e whole (e.is_exclusive || are_exclusive e.here.text ms)) in_loop none are row) (λ body all h. all))
    stat_sound e whole in_loop (stat.Exit q) = exit_sound p e whole in_loop q
    stat_sound e whole in_loop (stat.Return q x) = return_sound p e whole q (judge.gives_here e) (own_result p e whole) x
    stat_sound e whole in_loop (stat.Await q x) = await_sound p e whole q x
    stat_sound e whole in_loop (stat.If' q c shape row shapes rows otherwise) =
        let last = bind (judge.else_in e in_loop otherwise) (λ ss. kept (Otherwise (listed ss))) in
        let whole_if = λ (test : Expr) (body : List Stat) (arms : Arms). kept (Some (If q (Arm test (listed body) arms))) in
        holds_bind IsTest Fine (condition e c) (λ test. bind (judge.stats_in e in_loop [] row) (λ body. bind (judge.elsifs_in e in_loop rows last) (λ arms. whole_if test body arms)))
        (condition_sound p e whole c)
        (λ test is. holds_bind AreFine Fine (judge.stats_in e in_loop [] row) (λ body. bind (judge.elsifs_in e in_loop rows last) (λ arms. whole_if test body arms)) (stats_sound e whole in_loop [] tt row)
        (λ body are. holds_bind (AreArms p) Fine (judge.elsifs_in e in_loop rows last) (λ arms. whole_if test body arms)
        (elsifs_sound e whole in_loop rows last (holds_bind AreFine (AreArms p) (judge.else_in e in_loop otherwise) (λ ss. kept (Otherwise (listed ss))) (else_sound e whole in_loop otherwise) (λ ss all h. all)))
        (λ arms all h. (is, are, all))))
    stat_sound e whole in_loop (stat.Case' q c shape row otherwise) =
        let last = judge.case_else_in e in_loop otherwise in
        let IsSelector = λ (v : Answer). IsOf p v.typed (type.Integer W64) ⊎ IsOf p v.typed type.Char in
        holds_bind IsSelector Fine (judge.selector e c) (λ v. bind (judge.cases_in e in_loop v.known.of [] row last) (λ cases. kept (Some (CaseOf q v.typed cases))))
        (selector_sound p e whole c)
        (λ v is. holds_bind (AreCasesBehind []) Fine (judge.cases_in e in_loop v.known.of [] row last) (λ cases. kept (Some (CaseOf q v.typed cases)))
        (cases_sound e whole in_loop v.known.of [] (All-nil AreLabels) tt row last (case_else_sound e whole in_loop otherwise)) (λ cases all h. (is, all.apart, all.arms)))
    stat_sound e whole in_loop (stat.Repeat' q shape row c) =
        holds_bind AreFine Fine (judge.stats_in e in_loop [] row) (λ body. bind (condition e c) (λ test. kept (Some (Repeat q (listed body) test))))
        (stats_sound e whole in_loop [] tt row)
        (λ body are. holds_bind IsTest Fine (condition e c) (λ test. kept (Some (Repeat q (listed body) test))) (condition_sound p e whole c) (λ test is h. (are, is)))
    stat_sound e whole in_loop (stat.Loop' q shape row) =
        holds_bind AreFine Fine (judge.stats_in e true [] row) (λ body. kept (Some (Loop q (listed body)))) (stats_sound e whole true [] tt row) (λ body are h. are)
    stat_sound e whole in_loop (stat.For' q n r from to by shape row) =
        let whole_for = λ (c : judge.Control) (a b : Expr) (step : ℤ) (body : List Stat). kept (Some (For q (width_of c.1) c.0 a b step (listed body))) in
        holds_bind (IsControl p e whole) Fine (judge.control e n)
        (λ c. bind (judge.fitting e c.1 31 r from) (λ a. bind (judge.fitting e c.1 48 n.pos to) (λ b. bind (judge.step_of e n.pos c.1 by) (λ step. bind (judge.stats_in e in_loop [] row) (whole_for c a b step)))))
        (control_sound p e whole n)
        (λ c is. let IsValue = λ (x : Expr). IsOf p x (type.Integer (width_of c.1)) in
        holds_bind IsValue Fine (judge.fitting e c.1 31 r from) (λ a. bind (judge.fitting e c.1 48 n.pos to) (λ b. bind (judge.step_of e n.pos c.1 by) (λ step. bind (judge.stats_in e in_loop [] row) (whole_for c a b step))))
        (fitting_sound p e whole c.0 c.1 is.typed is.number 31 r from)
        (λ a x. holds_bind IsValue Fine (judge.fitting e c.1 48 n.pos to) (λ b. bind (judge.step_of e n.pos c.1 by) (λ step. bind (judge.stats_in e in_loop [] row) (whole_for c a b step)))
        (fitting_sound p e whole c.0 c.1 is.typed is.number 48 n.pos to)
        (λ b y. holds_bind (λ z. IsWithin (width_of c.1) z) Fine (judge.step_of e n.pos c.1 by) (λ step. bind (judge.stats_in e in_loop [] row) (whole_for c a b step))
        (step_sound p e whole c.0 c.1 is.typed is.number n.pos by)
        (λ step z. holds_bind AreFine Fine (judge.stats_in e in_loop [] row) (whole_for c a b step) (stats_sound e whole in_loop [] tt row)
        (λ body are h. (is.variable, place_changed p e whole routine.Inc c.0 c.1 is.typed is.number, x, y, z, are))))))
    stat_sound e whole in_loop (stat.With' q a r b shape row) =
        let rest = λ (v : Entity) (t : Option TypeId) (g : Entity). bind (judge.stats_in (judge.narrowed_by e a t) in_loop [] row) (λ body. kept (Some (judge.with_stat q g.held (listed body)))) in
        holds_bind (IsWithVariable p e whole a) Fine (judge.with_variable e a) (λ v. bind (known_type e b) (λ t. bind (desig.guard e r v t) (λ g. rest v t g))) (with_variable_sound p e whole a)
        (λ v is. holds_bind (λ (t : Option TypeId). (u : TypeId) × (t ≡ Some u)) Fine (known_type e b) (λ t. bind (desig.guard e r v t) (λ g. rest v t g)) (known_some p e b)
        (λ t u. subst (λ t. Holds Fine (bind (desig.guard e r v t) (λ g. rest v t g))) (sym u.1)
        (holds_bind (IsGuarded p e whole v u.0) Fine (desig.guard e r v (Some u.0)) (λ g. rest v (Some u.0) g) (guard_sound p e whole r v is.2 u.0)
        (λ g guarded. holds_bind AreFine Fine (judge.stats_in (judge.narrowed_by e a (Some u.0)) in_loop [] row) (λ body. kept (Some (judge.with_stat q g.held (listed body))))
        (stats_sound (judge.narrowed_by e a (Some u.0)) (narrowed_whole p e whole a u.0 is.1 (subst (λ v. MayBeNarrowed p e whole u.0 v) is.0 guarded.0)) in_loop [] tt row)
        (λ body are h. subst (λ (g : Entity). IsStatement p (judge.with_stat q g.held (listed body))) (sym guarded.1) (with_typed p e whole q v is.2 u.0 guarded.0 (listed body) are))))))

    stats_sound : {m : _} (e : Env) (whole : IsWhole p e) (in_loop : Bool) (ts : List Stat) → AreFine ts → (r : Row_of-Stat m) → Holds AreFine (judge.stats_in e in_loop ts r)
    stats_sound e whole in_loop ts are end_of-Stat = λ h. are
    stats_sound e whole in_loop ts are (more_of-Stat x xs) =
        holds_bind AreFine AreFine (bind (judge.stat_of e in_loop x) (λ o. kept (put ts o))) (λ us. judge.stats_in e in_loop us xs)
        (holds_bind Fine AreFine (judge.stat_of e in_loop x) (λ o. kept (put ts o)) (stat_sound e whole in_loop x) (λ o is h. put_sound p e whole ts o are is))
        (λ us now. stats_sound e whole in_loop us now xs)

    else_sound : (e : Env) (whole : IsWhole p e) (in_loop : Bool) (o : Held-Stat-If-4) → Holds AreFine (judge.else_in e in_loop o)
    else_sound e whole in_loop None' = λ h. tt
    else_sound e whole in_loop (Some' shape row) = stats_sound e whole in_loop [] tt row

    case_else_sound : (e : Env) (whole : IsWhole p e) (in_loop : Bool) (o : Held-Stat-If-4) → Holds IsEnd (judge.case_else_in e in_loop o)
    case_else_sound e whole in_loop None' = λ h. record { arms = tt; none = refl }
    case_else_sound e whole in_loop (Some' shape row) =
        holds_bind AreFine IsEnd (judge.stats_in e in_loop [] row) (λ body. kept (Else (listed body))) (stats_sound e whole in_loop [] tt row)
        (λ body are h. record { arms = are; none = refl })

    elsifs_sound : {m : _} (e : Env) (whole : IsWhole p e) (in_loop : Bool) (r : Row_of-Elsif m) (last : Judged Arms) → Holds (AreArms p) last → Holds (AreArms p) (judge.elsifs_in e in_loop r last)
    elsifs_sound e whole in_loop end_of-Elsif last fine = fine
    elsifs_sound e whole in_loop (more_of-Elsif q c shape row more) last fine =
        holds_bind IsTest (AreArms p) (condition e c) (λ test. bind (judge.stats_in e in_loop [] row) (λ body. bind (judge.elsifs_in e in_loop more last) (λ arms. kept (Arm test (listed body) arms))))
        (condition_sound p e whole c)
        (λ test is. holds_bind AreFine (AreArms p) (judge.stats_in e in_loop [] row) (λ body. bind (judge.elsifs_in e in_loop more last) (λ arms. kept (Arm test (listed body) arms)))
        (stats_sound e whole in_loop [] tt row)
        (λ body are. holds_bind (AreArms p) (AreArms p) (judge.elsifs_in e in_loop more last) (λ arms. kept (Arm test (listed body) arms)) (elsifs_sound e whole in_loop more last fine)
        (λ arms all h. (is, are, all))))

    cases_sound : {m : _} (e : Env) (whole : IsWhole p e) (in_loop : Bool) (of : Option TypeId) (ls : judge.Labels) → All AreLabels ls → AreApart ls → (r : Row_of-Case m) (last : Judged Cases) →
        Holds IsEnd last → Holds (AreCasesBehind ls) (judge.cases_in e in_loop of ls r last)
    cases_sound e whole in_loop of ls known apart end_of-Case last fine = λ h. let end = fine h in record {
      arms = end.arms;
      apart = subst (λ xs. AreApart (ls ++ xs)) (sym end.none) (subst AreApart (sym (append-nil ls)) apart);
    }
    cases_sound e whole in_loop of ls known apart (more_of-Case case.Empty more) last fine = cases_sound e whole in_loop of ls known apart more last fine
    cases_sound e whole in_loop of ls known apart (more_of-Case (case.Arm' labels shape row) more) last fine =
        let arm = λ (all : judge.Labels) (body : List Stat) (cases : Cases). kept (OfLabels (drop (length ls) all) (listed body) cases) in
        let IsThis = AreCasesBehind ls in
        holds_bind (AreMore ls) IsThis (walk (judge.label_in e of) ls labels) (λ all. bind (judge.stats_in e in_loop [] row) (λ body. bind (judge.cases_in e in_loop of all more last) (arm all body)))
        (labels_sound p e whole of ls known apart labels)
        (λ all are. holds_bind AreFine IsThis (judge.stats_in e in_loop [] row) (λ body. bind (judge.cases_in e in_loop of all more last) (arm all body)) (stats_sound e whole in_loop [] tt row)
        (λ body built. holds_bind (AreCasesBehind all) IsThis (judge.cases_in e in_loop of all more last) (arm all body) (cases_sound e whole in_loop of all are.within are.apart more last fine)
        (λ cases others h. record {
          arms = (All-drop AreLabels (length ls) all are.within, built, others.arms);
          apart = between ls all (labels_of cases) are.behind others.apart;
        })))

  stat_in_sound : (e : Env) (whole : IsWhole p e) (ts : List Stat) (x : TreeStat) → AreFine ts → Holds AreFine (judge.stat_in e false ts x)
  stat_in_sound e whole ts x are = holds_bind Fine AreFine (judge.stat_of e false x) (λ o. kept (put ts o)) (stat_sound e whole false x) (λ o is h. put_sound p e whole ts o are is)

  pub body_sound : (e : Env) (whole : IsWhole p e) (may_be_active : Bool) (b : Option Block) → Holds AreFine (judge.body_of e may_be_active b)
  body_sound e whole may_be_active None = λ h. tt
  body_sound e whole may_be_active (Some b) =
      let f = judge.within_body b.modifiers e in
      holds_bind AreFine AreFine (judged (judge.body_breaches e may_be_active b.modifiers) []) (λ none. walk (judge.stat_in f false) none b.body.stats)
      (λ h. tt) (λ none are. holds_walk AreFine (judge.stat_in f false) (stat_in_sound f (region_whole p e whole (are_exclusive e.here.text b.modifiers))) b.body.stats none are)
