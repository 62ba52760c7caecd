-- Statements that break no rule keep the rules beside types: EXIT stands in a LOOP, AWAIT in a region of its own body, and no FOR has the
-- step 0; and a body without ACTIVE has the normal priority.
use Rattle.std.proofs.Common.{◌≡◌, ◌≢◌, ℕ, ℤ, pos, nat_abs, List, [], ◌∷◌, ◌++◌, length, drop, fold, Bool, true, false, ◌&&◌, ◌||◌, not, Option, Some, None, is_some, refl, sym, ap, ◌∙◌, subst, arith, if◌then◌else◌}
use Rattle.std.specs.List.{list_any, flat_map}
use Rattle.std.specs.Ordering.{int_eq}
use Rattle.std.proofs.lemmas.Bool.{and_parts}
use Rattle.aos_base.specs.declared.priority.Priority.TheVariants.{Normal}
use Rattle.aos_base.specs.declared.text.Pos.{Pos}
use Rattle.aos_tree.specs.declared.name.Qualident.{Qualident}
use Rattle.aos_tree.specs.declared.expr.Expr.{Expr as TreeExpr}
use Rattle.aos_tree.specs.declared.stat.Block.{Block}
use Rattle.aos_tree.specs.declared.stat.Modifier.{Modifier}
use Rattle.aos_tree.specs.declared.stat.Case.TheVariants as case
use Rattle.aos_tree.specs.declared.stat.Stat.{Stat as TreeStat, Row_of-Stat, end_of-Stat, more_of-Stat, Row_of-Elsif, end_of-Elsif, more_of-Elsif, Row_of-Case, end_of-Case, more_of-Case, Held-Stat-If-4, None', Some'}
use Rattle.aos_tree.specs.declared.stat.Stat.TheVariants as stat
use Rattle.aos_types.specs.declared.row.TypeId.{TypeId}
use Rattle.aos_types.specs.declared.signature.Gives.{Gives}
use Rattle.aos_types.specs.declared.signature.Gives.TheVariants as gives
use Rattle.aos_typed.specs.declared.tree.Literal.TheVariants as literal
use Rattle.aos_typed.specs.Program.{Expr, Stat, Assign, Copy, If, Case as CaseOf, While, Repeat, Loop, For, Block as BlockOf, Await, Stats, Arms, Otherwise, Arm, Cases, Else, OfLabels}
use Rattle.aos_typed.specs.Rules.{KeepsRules, AllKeepRules, ArmsKeepRules, CasesKeepRules}
use Rattle.aos_symbols.specs.declared.env.Narrowed.{Narrowed}
use Rattle.aos_symbols.specs.declared.env.Env.{Env}
use Rattle.aos_symbols.specs.declared.breach.Breach.{Breach}
use Rattle.aos_symbols.specs.Breaches.{breach, breach_unless, first_after}
use Rattle.aos_symbols.specs.Judged.{Judged, judged, kept, bind, walk}
use Rattle.aos_symbols.specs.Spelling.{is_active, is_priority}
use Rattle.aos_symbols.specs.Env as env
use Rattle.aos_symbols.proofs.Holds.{Holds, holds_bind, holds_walk, none_left, none_right, test_is}
use Rattle.aos_known.specs.declared.known.Class.{Class}
use Rattle.aos_known.specs.declared.known.Class.TheVariants.{Constant}
use Rattle.aos_known.specs.Known.{Answer, Entity, Held, Stands, Value, fits, type_of, type_of_literal, width_of}
use Rattle.aos_known.specs.Kinds.{has_parts}
use Rattle.aos_known.specs.Places.{place_of, place_in}
use Rattle.aos_values.specs.Assignable.{typed_for}
use Rattle.aos_values.specs.TypeNames.{known_type}
use Rattle.aos_designators.specs.Designators as desig
use Rattle.aos_check_expr.specs.Expressions.{expr, condition, designator}
use Rattle.aos_check_stat.specs.Called as calls
use Rattle.aos_check_stat.specs.Bodies as judge
use Rattle.aos_check_stat.specs.Bodies.{listed, put, modifier_breaches, are_exclusive, is_step, step_in}
use Rattle.aos_check_stat.proofs.Places.{some_breach}
use Rattle.aos_check_stat.proofs.CallKeeping.{MayKeep, called_keeps}

-- statements keep them, in a region or in none and in a LOOP or in none
abbrev pub AreKept : (in_region in_loop : Bool) → List Stat → Type 0
AreKept r l ts = AllKeepRules r l (listed ts)

behind_keeps : (r l : Bool) (ts : List Stat) (x : Stat) → AreKept r l ts → KeepsRules r l x → AreKept r l (ts ++ x ∷ [])
behind_keeps r l [] x are is = (is, tt)
behind_keeps r l (t ∷ ts) x are is = (are.0, behind_keeps r l ts x are.1 is)

put_keeps : (r l : Bool) (ts : List Stat) (o : Option Stat) → AreKept r l ts → MayKeep r l o → AreKept r l (put ts o)
put_keeps r l ts None are is = are
put_keeps r l ts (Some x) are is = behind_keeps r l ts x are is

-- behind a part of which nothing is asked
behind : {A B : Type 0} (Q : B → Type 0) (j : Judged A) (f : A → Judged B) → ((a : A) → Holds Q (f a)) → Holds Q (bind j f)
behind {A} Q j f more = holds_bind (λ (a : A). Unit {0}) Q j f (λ none. tt) (λ a u. more a)

-- Statements without others in them.

either_keeps : (r l b : Bool) (x y : Stat) → KeepsRules r l x → KeepsRules r l y → KeepsRules r l (if b then x else y)
either_keeps r l true x y one other = one
either_keeps r l false x y one other = other

assigned_of : (e : Env) (r l : Bool) (first : Pos) (of : Option TypeId) (c : Class) (h : Held) (at : Pos) (v : Answer) →
    KeepsRules r l (judge.assigned_stat e first (record { known = record { of = of; class = c }; held = h; at = at }) v)
assigned_of e r l first None c h at v =
    let a : Entity = record { known = record { of = None; class = c }; held = h; at = at } in
    either_keeps r l (is_some (calls.text_to e a v)) (calls.put_text e first true v a) (Assign first (type_of None) (place_of h) (typed_for e None v)) tt tt
assigned_of e r l first (Some t) c h at v =
    let a : Entity = record { known = record { of = Some t; class = c }; held = h; at = at } in
    let copied = Copy first (type_of (Some t)) (place_of h) (place_in v.typed) in
    let stored = Assign first (type_of (Some t)) (place_of h) (typed_for e (Some t) v) in
    either_keeps r l (is_some (calls.text_to e a v)) (calls.put_text e first true v a) (if has_parts e t then copied else stored) tt
    (either_keeps r l (has_parts e t) copied stored tt tt)

assigned_keeps : (e : Env) (r l : Bool) (first : Pos) (a : Entity) (v : Answer) → KeepsRules r l (judge.assigned_stat e first a v)
assigned_keeps e r l first a v = assigned_of e r l first a.known.of a.known.class a.held a.at v

exit_keeps : (r l : Bool) (at : Pos) → Holds (MayKeep r l) (judge.exit_of l at)
exit_keeps r true at = λ none. refl
exit_keeps r false at = λ none. tt

return_keeps : (e : Env) (r l : Bool) (at : Pos) (g : Gives) (x : Option TreeExpr) → Holds (MayKeep r l) (judge.return_of e at g x)
return_keeps e r l at gives.Nothing None = λ none. tt
return_keeps e r l at gives.Nothing (Some x) = λ none. tt
return_keeps e r l at (gives.Value of) None = λ none. tt
return_keeps e r l at (gives.Value of) (Some x) = λ none. tt

await_keeps : (e : Env) (l : Bool) (at : Pos) (x : TreeExpr) → Holds (MayKeep e.is_exclusive l) (judge.await_of e at x)
await_keeps e l at x =
    behind (MayKeep e.is_exclusive l) (condition (judge.in_condition e) x) (λ t. judged (breach_unless e.is_exclusive 43 at) (Some (Await at 0 t)))
    (λ t none. test_is e.is_exclusive 43 at none)

-- a step isn't 0
other_step : (of : Option TypeId) (c : Class) → is_step of c ≡ true → step_in c ≢ pos 0
other_step of (Constant (Some (literal.Int n))) is =
    let other = (and_parts (not (int_eq n (pos 0))) (fits (Some (type_of_literal (literal.Int n))) of) is).0 in
    λ zero. let both : true ≡ false = sym other ∙ ap (λ z. not (int_eq z (pos 0))) zero in cc
other_step of c is = λ zero. let one : ◌≡◌ {A = ℕ} 1 0 = ap nat_abs zero in omega (arith, one)

step_keeps : (e : Env) (at : Pos) (of : Option TypeId) (x : Option TreeExpr) → Holds (λ (z : ℤ). z ≢ pos 0) (judge.step_of e at of x)
step_keeps e at of None = λ none zero. let one : ◌≡◌ {A = ℕ} 1 0 = ap nat_abs zero in omega (arith, one)
step_keeps e at of (Some x) = by (first_after None (expr e x).breaches)
  where
    c : Class
    c = (expr e x).answer.known.class

    by : (o : Option Breach) → judge.step_breaches at of o c ≡ [] → step_in c ≢ pos 0
    by (Some own) none = absurd (some_breach none)
    by None none = other_step of c (test_is (is_step of c) 48 at none)

-- a WITH stands in the region round it
same_region : (e : Env) (q : Qualident) (t : Option TypeId) → (judge.narrowed_by e q t).is_exclusive ≡ e.is_exclusive
same_region e q t = by (judge.narrowed_variable e q t) refl
  where
    by : (o : Option Narrowed) → judge.narrowed_variable e q t ≡ o → (judge.narrowed_by e q t).is_exclusive ≡ e.is_exclusive
    by None is = rw is refl
    by (Some v) is = rw is refl

with_keeps : (r l : Bool) (at : Pos) (h : Held) (body : Stats) → AllKeepRules r l body → KeepsRules r l (judge.with_stat at h body)
with_keeps r l at (Stands place) body are = are
with_keeps r l at (Value x) body are = are

mutual
  stat_keeps : (e : Env) (l : Bool) (x : TreeStat) → Holds (MayKeep e.is_exclusive l) (judge.stat_of e l x)
  stat_keeps e l stat.Empty = λ none. tt
  stat_keeps e l (stat.Assign d at x) = λ none. assigned_keeps e e.is_exclusive l d.name.pos (bind (designator e d) (λ a. desig.assigned e d.name.pos a)).answer (expr e x).answer
  stat_keeps e l (stat.Call d) = λ none. called_keeps e e.is_exclusive l (env.lookup e d.name) d
  stat_keeps e l (stat.While' q c shape row) =
      let Fine = MayKeep e.is_exclusive l in
      behind Fine (condition e c) (λ test. bind (judge.stats_in e l [] row) (λ body. kept (Some (While q test (listed body)))))
      (λ test. holds_bind (AreKept e.is_exclusive l) Fine (judge.stats_in e l [] row) (λ body. kept (Some (While q test (listed body)))) (stats_keep e l [] tt row) (λ body are none. are))
  stat_keeps e l (stat.Block' q ms shape row) =
      let f = judge.within_block ms e in
      let Fine = MayKeep e.is_exclusive l in
      let Are = AreKept f.is_exclusive l in
      let block = λ (body : List Stat). kept (Some (BlockOf q (are_exclusive e.here.text ms) (listed body))) in
      holds_bind Are Fine (judged (modifier_breaches e.here.text false ms) []) (λ none. bind (judge.stats_in f l none row) block) (λ none. tt)
      (λ before are. holds_bind Are Fine (judge.stats_in f l before row) block (stats_keep f l before are row) (λ body all none. all))
  stat_keeps e l (stat.Exit q) = exit_keeps e.is_exclusive l q
  stat_keeps e l (stat.Return q x) = return_keeps e e.is_exclusive l q (judge.gives_here e) x
  stat_keeps e l (stat.Await q x) = await_keeps e l q x
  stat_keeps e l (stat.If' q c shape row shapes rows otherwise) =
      let Fine = MayKeep e.is_exclusive l in
      let Are = AreKept e.is_exclusive l in
      let AreArms = ArmsKeepRules e.is_exclusive l in
      let last = bind (judge.else_in e l otherwise) (λ ss. kept (Otherwise (listed ss))) in
      let whole_if = λ (test : Expr) (body : List Stat) (arms : Arms). kept (Some (If q (Arm test (listed body) arms))) in
      behind Fine (condition e c) (λ test. bind (judge.stats_in e l [] row) (λ body. bind (judge.elsifs_in e l rows last) (λ arms. whole_if test body arms)))
      (λ test. holds_bind Are Fine (judge.stats_in e l [] row) (λ body. bind (judge.elsifs_in e l rows last) (λ arms. whole_if test body arms)) (stats_keep e l [] tt row)
      (λ body are. holds_bind AreArms Fine (judge.elsifs_in e l rows last) (λ arms. whole_if test body arms)
      (elsifs_keep e l rows last (holds_bind Are AreArms (judge.else_in e l otherwise) (λ ss. kept (Otherwise (listed ss))) (else_keeps e l otherwise) (λ ss all none. all)))
      (λ arms all none. (are, all))))
  stat_keeps e l (stat.Case' q c shape row otherwise) =
      let Fine = MayKeep e.is_exclusive l in
      let last = judge.case_else_in e l otherwise in
      behind Fine (judge.selector e c) (λ v. bind (judge.cases_in e l v.known.of [] row last) (λ cases. kept (Some (CaseOf q v.typed cases))))
      (λ v. holds_bind (CasesKeepRules e.is_exclusive l) Fine (judge.cases_in e l v.known.of [] row last) (λ cases. kept (Some (CaseOf q v.typed cases)))
      (cases_keep e l v.known.of [] row last (case_else_keeps e l otherwise)) (λ cases all none. all))
  stat_keeps e l (stat.Repeat' q shape row c) =
      let Fine = MayKeep e.is_exclusive l in
      holds_bind (AreKept e.is_exclusive l) Fine (judge.stats_in e l [] row) (λ body. bind (condition e c) (λ test. kept (Some (Repeat q (listed body) test)))) (stats_keep e l [] tt row)
      (λ body are. behind Fine (condition e c) (λ test. kept (Some (Repeat q (listed body) test))) (λ test none. are))
  stat_keeps e l (stat.Loop' q shape row) =
      holds_bind (AreKept e.is_exclusive true) (MayKeep e.is_exclusive l) (judge.stats_in e true [] row) (λ body. kept (Some (Loop q (listed body)))) (stats_keep e true [] tt row) (λ body are none. are)
  stat_keeps e l (stat.For' q n r from to by shape row) =
      let Fine = MayKeep e.is_exclusive l in
      let whole_for = λ (c : judge.Control) (a b : Expr) (step : ℤ) (body : List Stat). kept (Some (For q (width_of c.1) c.0 a b step (listed body))) in
      behind Fine (judge.control e n)
      (λ c. bind (judge.fitting e c.1 31 r from) (λ a. bind (judge.fitting e c.1 48 n.pos to) (λ b. bind (judge.step_of e n.pos c.1 by) (λ step. bind (judge.stats_in e l [] row) (whole_for c a b step)))))
      (λ c. behind Fine (judge.fitting e c.1 31 r from) (λ a. bind (judge.fitting e c.1 48 n.pos to) (λ b. bind (judge.step_of e n.pos c.1 by) (λ step. bind (judge.stats_in e l [] row) (whole_for c a b step))))
      (λ a. behind Fine (judge.fitting e c.1 48 n.pos to) (λ b. bind (judge.step_of e n.pos c.1 by) (λ step. bind (judge.stats_in e l [] row) (whole_for c a b step)))
      (λ b. holds_bind (λ (z : ℤ). z ≢ pos 0) Fine (judge.step_of e n.pos c.1 by) (λ step. bind (judge.stats_in e l [] row) (whole_for c a b step)) (step_keeps e n.pos c.1 by)
      (λ step other. holds_bind (AreKept e.is_exclusive l) Fine (judge.stats_in e l [] row) (whole_for c a b step) (stats_keep e l [] tt row) (λ body are none. (other, are))))))
  stat_keeps e l (stat.With' q a r b shape row) =
      let Fine = MayKeep e.is_exclusive l in
      let rest = λ (t : Option TypeId) (g : Entity). bind (judge.stats_in (judge.narrowed_by e a t) l [] row) (λ body. kept (Some (judge.with_stat q g.held (listed body)))) in
      behind Fine (judge.with_variable e a) (λ v. bind (known_type e b) (λ t. bind (desig.guard e r v t) (λ g. rest t g)))
      (λ v. behind Fine (known_type e b) (λ t. bind (desig.guard e r v t) (λ g. rest t g))
      (λ t. behind Fine (desig.guard e r v t) (λ g. rest t g)
      (λ g. let f = judge.narrowed_by e a t in
      holds_bind (AreKept f.is_exclusive l) Fine (judge.stats_in f l [] row) (λ body. kept (Some (judge.with_stat q g.held (listed body)))) (stats_keep f l [] tt row)
      (λ body are none. with_keeps e.is_exclusive l q g.held (listed body) (subst (λ x. AllKeepRules x l (listed body)) (same_region e a t) are)))))

  stats_keep : {m : _} (e : Env) (l : Bool) (ts : List Stat) → AreKept e.is_exclusive l ts → (r : Row_of-Stat m) → Holds (AreKept e.is_exclusive l) (judge.stats_in e l ts r)
  stats_keep e l ts are end_of-Stat = λ none. are
  stats_keep e l ts are (more_of-Stat x xs) =
      let Are = AreKept e.is_exclusive l in
      holds_bind Are Are (bind (judge.stat_of e l x) (λ o. kept (put ts o))) (λ us. judge.stats_in e l us xs)
      (holds_bind (MayKeep e.is_exclusive l) Are (judge.stat_of e l x) (λ o. kept (put ts o)) (stat_keeps e l x) (λ o is none. put_keeps e.is_exclusive l ts o are is))
      (λ us now. stats_keep e l us now xs)

  else_keeps : (e : Env) (l : Bool) (o : Held-Stat-If-4) → Holds (AreKept e.is_exclusive l) (judge.else_in e l o)
  else_keeps e l None' = λ none. tt
  else_keeps e l (Some' shape row) = stats_keep e l [] tt row

  case_else_keeps : (e : Env) (l : Bool) (o : Held-Stat-If-4) → Holds (CasesKeepRules e.is_exclusive l) (judge.case_else_in e l o)
  case_else_keeps e l None' = λ none. tt
  case_else_keeps e l (Some' shape row) =
      holds_bind (AreKept e.is_exclusive l) (CasesKeepRules e.is_exclusive l) (judge.stats_in e l [] row) (λ body. kept (Else (listed body))) (stats_keep e l [] tt row) (λ body are none. are)

  elsifs_keep : {m : _} (e : Env) (l : Bool) (r : Row_of-Elsif m) (last : Judged Arms) → Holds (ArmsKeepRules e.is_exclusive l) last → Holds (ArmsKeepRules e.is_exclusive l) (judge.elsifs_in e l r last)
  elsifs_keep e l end_of-Elsif last fine = fine
  elsifs_keep e l (more_of-Elsif q c shape row more) last fine =
      let Are = AreKept e.is_exclusive l in
      let AreArms = ArmsKeepRules e.is_exclusive l in
      behind AreArms (condition e c) (λ test. bind (judge.stats_in e l [] row) (λ body. bind (judge.elsifs_in e l more last) (λ arms. kept (Arm test (listed body) arms))))
      (λ test. holds_bind Are AreArms (judge.stats_in e l [] row) (λ body. bind (judge.elsifs_in e l more last) (λ arms. kept (Arm test (listed body) arms))) (stats_keep e l [] tt row)
      (λ body are. holds_bind AreArms AreArms (judge.elsifs_in e l more last) (λ arms. kept (Arm test (listed body) arms)) (elsifs_keep e l more last fine) (λ arms all none. (are, all))))

  cases_keep : {m : _} (e : Env) (l : Bool) (of : Option TypeId) (ls : judge.Labels) (r : Row_of-Case m) (last : Judged Cases) →
      Holds (CasesKeepRules e.is_exclusive l) last → Holds (CasesKeepRules e.is_exclusive l) (judge.cases_in e l of ls r last)
  cases_keep e l of ls end_of-Case last fine = fine
  cases_keep e l of ls (more_of-Case case.Empty more) last fine = cases_keep e l of ls more last fine
  cases_keep e l of ls (more_of-Case (case.Arm' labels shape row) more) last fine =
      let AreCases = CasesKeepRules e.is_exclusive l in
      let arm = λ (all : judge.Labels) (body : List Stat) (cases : Cases). kept (OfLabels (drop (length ls) all) (listed body) cases) in
      behind AreCases (walk (judge.label_in e of) ls labels) (λ all. bind (judge.stats_in e l [] row) (λ body. bind (judge.cases_in e l of all more last) (arm all body)))
      (λ all. holds_bind (AreKept e.is_exclusive l) AreCases (judge.stats_in e l [] row) (λ body. bind (judge.cases_in e l of all more last) (arm all body)) (stats_keep e l [] tt row)
      (λ body are. holds_bind AreCases AreCases (judge.cases_in e l of all more last) (arm all body) (cases_keep e l of all more last fine) (λ cases others none. (are, others))))

stat_in_keeps : (e : Env) (ts : List Stat) (x : TreeStat) → AreKept e.is_exclusive false ts → Holds (AreKept e.is_exclusive false) (judge.stat_in e false ts x)
stat_in_keeps e ts x are =
    holds_bind (MayKeep e.is_exclusive false) (AreKept e.is_exclusive false) (judge.stat_of e false x) (λ o. kept (put ts o)) (stat_keeps e false x)
    (λ o is none. put_keeps e.is_exclusive false ts o are is)

-- a whole body, which is a region where its modifiers say so
pub body_keeps : (e : Env) (may_be_active : Bool) (b : Block) → Holds (AreKept (are_exclusive e.here.text b.modifiers) false) (judge.body_of e may_be_active (Some b))
body_keeps e may_be_active b =
    let f = judge.within_body b.modifiers e in
    let Are = AreKept (are_exclusive e.here.text b.modifiers) false in
    holds_bind Are Are (judged (judge.body_breaches e may_be_active b.modifiers) []) (λ none. walk (judge.stat_in f false) none b.body.stats)
    (λ none. tt) (λ before are. holds_walk Are (judge.stat_in f false) (λ ts x. stat_in_keeps f ts x) b.body.stats before are)

-- A body that isn't active has no PRIORITY.

none_allowed : (text : List ℕ) (a x : Bool) (m : Modifier) → is_priority text m ≡ true → judge.modifier_breach text a x false m ≡ [] → ⊥
none_allowed text a x m is none = by (judge.is_safe text m) (is_priority text m) is none
  where
    by : (s b : Bool) → b ≡ true → (if s then breach 99 m.name.pos else breach_unless (if b then false && is_some m.value else judge.is_plain text a x m) 45 m.name.pos) ≡ [] → ⊥
    by true b is none = cc
    by false true is none = cc
    by false false is none = cc

none_behind : (text : List ℕ) (a x : Bool) (ms : List Modifier) → judge.breaches_behind text a x false ms ≡ [] → list_any (is_priority text) ms ≡ false
none_behind text a x [] none = refl
none_behind text a x (m ∷ ms) none = by (is_priority text m) refl (none_behind text (a && not (is_active text m)) (x && not (judge.is_exclusive text m)) ms)
  where
    one : List Breach
    one = judge.modifier_breach text a x false m

    more : List Breach
    more = judge.breaches_behind text (a && not (is_active text m)) (x && not (judge.is_exclusive text m)) false ms

    by : (b : Bool) → is_priority text m ≡ b → (more ≡ [] → list_any (is_priority text) ms ≡ false) → (b || list_any (is_priority text) ms) ≡ false
    by true is rest = absurd (none_allowed text a x m is (none_left one more none))
    by false is rest = rest (none_right one more none)

said_normal : (e : Env) (ms : List Modifier) → list_any (is_priority e.here.text) ms ≡ false → judge.said_in e ms ≡ Normal
said_normal e [] none = refl
said_normal e (m ∷ ms) none = by (is_priority e.here.text m) refl none (said_normal e ms)
  where
    by : (b : Bool) → is_priority e.here.text m ≡ b → (b || list_any (is_priority e.here.text) ms) ≡ false → (list_any (is_priority e.here.text) ms ≡ false → judge.said_in e ms ≡ Normal) →
        fold (judge.said_by e) (judge.said_by e Normal m) ms ≡ Normal
    by true is none rest = absurd (let no : true ≡ false = none in cc)
    by false is none rest = ap (λ b. fold (judge.said_by e) (if b then judge.level_of e m.value else Normal) ms) is ∙ rest none

neither : (b : Bool) → (b && false) ≡ false
neither true = refl
neither false = refl

pub normal_without : (e : Env) (may_be_active : Bool) (b : Block) → (judge.body_of e may_be_active (Some b)).breaches ≡ [] → list_any (is_active e.here.text) b.modifiers ≡ false →
    judge.priority_of e (Some b) ≡ Normal
normal_without e may_be_active b none inactive =
    let text = e.here.text in
    let ms = b.modifiers in
    let f = judge.within_body ms e in
    let own = none_left (judge.body_breaches e may_be_active ms) (walk (judge.stat_in f false) [] b.body.stats).breaches none in
    let modifiers = none_left (modifier_breaches text may_be_active ms) (flat_map (judge.priority_breaches e) ms) own in
    let never = ap (λ c. may_be_active && c) inactive ∙ neither may_be_active in
    said_normal e ms (none_behind text may_be_active true ms (subst (λ c. judge.breaches_behind text may_be_active true c ms ≡ []) never modifiers))
