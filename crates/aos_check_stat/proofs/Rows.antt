-- Statements read as a list: those of a row, and those of the code.
use Rattle.std.proofs.Common.{◌≡◌, ℕ, ◌+◌, ◌<◌, ◌≤◌, List, [], ◌∷◌, ◌++◌, map, append_assoc, append-nil, drop, drop-cons, add-one, get_or, length, Bool, true, false, Option, Some, None, refl, sym, ap, ◌∙◌}
use Rattle.std.proofs.lemmas.List.{drop_all}
use Rattle.aos_base.specs.declared.text.Pos.{Pos}
use Rattle.aos_tree.specs.declared.name.Name.{Name}
use Rattle.aos_tree.specs.declared.name.Qualident.{Qualident}
use Rattle.aos_tree.specs.declared.expr.Expr.{Expr as TreeExpr}
use Rattle.aos_tree.specs.declared.stat.Block.{Block}
use Rattle.aos_tree.specs.declared.stat.Elsif.{Elsif}
use Rattle.aos_tree.specs.declared.stat.Case.{Case}
use Rattle.aos_tree.specs.declared.stat.Label.{Label}
use Rattle.aos_tree.specs.declared.stat.Case.TheVariants as case
use Rattle.aos_tree.specs.declared.stat.StatSeq.{StatSeq}
use Rattle.aos_tree.specs.declared.stat.Stat.{Stat as TreeStat, Row_of-Stat, end_of-Stat, more_of-Stat, items-the_row-Stat, items_hidden-the_row-Stat-0, back-Stat-If-4}
use Rattle.aos_tree.specs.declared.stat.Stat.TheVariants as stat
use Rattle.aos_tree.specs.declared.stat.Case.TheBlock.{hidden-the_row-Stat-0, hidden-the_row-Elsif-1, hidden-the_row-Case-2}
use Rattle.aos_types.specs.declared.row.TypeId.{TypeId}
use Rattle.aos_typed.specs.declared.tree.TArm.{TArm, out-TArm}
use Rattle.aos_typed.specs.declared.tree.LabelRange.{LabelRange}
use Rattle.aos_typed.specs.declared.tree.TCase.{TCase}
use Rattle.aos_typed.specs.declared.tree.TStat.{TStat}
use Rattle.aos_typed.specs.Program.{Stat, While, Repeat, Loop, For, Block as BlockOf, If, Arms, Arm, Otherwise, Cases, Else, OfLabels, Case as CaseOf, Stats, Then}
use Rattle.aos_typed.specs.Seen.{seen_expr, seen_stat, seen_stats, seen_else, arms_of, cases_of}
use Rattle.aos_typed.specs.declared.tree.TExpr.{TExpr}
use Rattle.aos_typed.specs.declared.tree.TElse.{TElse}
use Rattle.aos_symbols.specs.declared.env.Env.{Env}
use Rattle.aos_symbols.specs.declared.breach.Breach.{Breach}
use Rattle.aos_symbols.specs.Breaches.{first_after}
use Rattle.aos_symbols.specs.Judged.{Judged, judged, kept, bind, walk}
use Rattle.aos_symbols.proofs.Keeping.{after_more}
use Rattle.aos_known.specs.Known.{width_of}
use Rattle.aos_values.specs.TypeNames.{known_type}
use Rattle.aos_designators.specs.Designators.{guard}
use Rattle.aos_check_expr.specs.Expressions.{condition}
use Rattle.aos_check_stat.specs.Bodies.{listed, modifier_breaches, are_exclusive, within_block, Labels, label_in, selector, control, fitting, step_of, with_variable, narrowed_by, with_stat, stat_of, stat_in, stats_in, else_in, case_else_in, elsifs_in, cases_in}
use Rattle.aos_check_stat.specs.Listed as parts
use Rattle.aos_made_stat.specs.Onto.{onto}

module _ (e : Env) (in_loop : Bool) where
  stats_row : (n : _) (ts : List Stat) (r : Row_of-Stat n) → stats_in e in_loop ts r ≡ walk (stat_in e in_loop) ts (items-the_row-Stat n r)
  stats_row _ ts end_of-Stat = refl
  stats_row _ ts (more_of-Stat x xs) = ap (λ z. bind (stat_in e in_loop ts x) (λ b. z)) (stats_row _ (stat_in e in_loop ts x).answer xs)

  stats_are : (ss : List TreeStat) → stats_in e in_loop [] (hidden-the_row-Stat-0 ss) ≡ parts.listed_in e in_loop ss
  stats_are ss = stats_row _ [] (hidden-the_row-Stat-0 ss) ∙ ap (λ ss. parts.listed_in e in_loop ss) (items_hidden-the_row-Stat-0 ss)

  else_is : (o : Option StatSeq) → else_in e in_loop (back-Stat-If-4 o) ≡ parts.behind_else e in_loop o
  else_is None = refl
  else_is (Some b) = stats_are b.stats

  case_else_is : (o : Option StatSeq) → case_else_in e in_loop (back-Stat-If-4 o) ≡ parts.else_of_case e in_loop o
  case_else_is None = refl
  case_else_is (Some b) = ap (λ j. bind j (λ body. kept (Else (listed body)))) (stats_are b.stats)

  elsifs_are : (xs : List Elsif) (last : Judged Arms) → elsifs_in e in_loop (hidden-the_row-Elsif-1 xs) last ≡ parts.arms_in e in_loop xs last
  unfolding hidden-the_row-Elsif-1 denote.Hole.Carrier.hidden
  elsifs_are [] last = refl
  elsifs_are (x ∷ xs) last =
      ap (λ j. bind (condition e x.condition) (λ test. bind j (λ body. bind (elsifs_in e in_loop (hidden-the_row-Elsif-1 xs) last) (λ arms. kept (Arm test (listed body) arms)))))
      (stats_are x.body.stats)
      ∙ ap (λ j. bind (condition e x.condition) (λ test. bind (parts.listed_in e in_loop x.body.stats) (λ body. bind j (λ arms. kept (Arm test (listed body) arms)))))
      (elsifs_are xs last)

  cases_are : (of : Option TypeId) (ls : Labels) (xs : List Case) (last : Judged Cases) →
      cases_in e in_loop of ls (hidden-the_row-Case-2 xs) last ≡ parts.cases_of e in_loop of ls xs last
  unfolding hidden-the_row-Case-2 denote.Hole.Carrier.hidden
  cases_are of ls [] last = refl
  cases_are of ls (case.Empty ∷ xs) last = cases_are of ls xs last
  cases_are of ls (case.Arm' labels shape row ∷ xs) last =
      let all = walk (label_in e of) ls labels in
      ap (λ j. bind all (λ m. bind j (λ ss. bind (cases_in e in_loop of m (hidden-the_row-Case-2 xs) last) (λ cs. kept (OfLabels (drop (length ls) m) (listed ss) cs)))))
      (stats_row _ [] row)
      ∙ ap (λ j. bind all (λ m. bind (parts.listed_in e in_loop (items-the_row-Stat _ row)) (λ ss. bind j (λ cs. kept (OfLabels (drop (length ls) m) (listed ss) cs)))))
      (cases_are of all.answer xs last)

  -- each statement by the lists of its parts
  pub stat_while : (x : TreeStat) (p : Pos) (c : TreeExpr) (body : StatSeq) → x ≡ stat.While p c body → stat_of e in_loop x ≡ parts.while_of e in_loop p c body.stats
  stat_while x p c body is =
      ap (λ z. stat_of e in_loop z) is
      ∙ ap (λ j. bind (condition e c) (λ test. bind j (λ us. kept (Some (While p test (listed us)))))) (stats_are body.stats)

  pub stat_repeat : (x : TreeStat) (p : Pos) (body : StatSeq) (c : TreeExpr) → x ≡ stat.Repeat p body c → stat_of e in_loop x ≡ parts.repeat_of e in_loop p body.stats c
  stat_repeat x p body c is =
      ap (λ z. stat_of e in_loop z) is
      ∙ ap (λ j. bind j (λ us. bind (condition e c) (λ test. kept (Some (Repeat p (listed us) test))))) (stats_are body.stats)

  pub stat_for : (x : TreeStat) (p : Pos) (n : Name) (q : Pos) (from to : TreeExpr) (by : Option TreeExpr) (body : StatSeq) → x ≡ stat.For p n q from to by body →
      stat_of e in_loop x ≡ parts.for_of e in_loop p n q from to by body.stats
  stat_for x p n q from to by body is =
      ap (λ z. stat_of e in_loop z) is
      ∙ ap (λ j. bind (control e n) (λ c. bind (fitting e c.1 31 q from) (λ a. bind (fitting e c.1 48 n.pos to) (λ b.
      bind (step_of e n.pos c.1 by) (λ step. bind j (λ us. kept (Some (For p (width_of c.1) c.0 a b step (listed us)))))))))
      (stats_are body.stats)

  pub stat_if : (x : TreeStat) (p : Pos) (c : TreeExpr) (body : StatSeq) (xs : List Elsif) (o : Option StatSeq) → x ≡ stat.If p c body xs o →
      stat_of e in_loop x ≡ parts.if_of e in_loop p c body.stats xs o
  stat_if x p c body xs o is =
      ap (λ z. stat_of e in_loop z) is
      ∙ ap (λ j. bind (condition e c) (λ test. bind j (λ us. bind (elsifs_in e in_loop (hidden-the_row-Elsif-1 xs) (last (else_in e in_loop (back-Stat-If-4 o)))) (λ arms.
      kept (Some (If p (Arm test (listed us) arms))))))) (stats_are body.stats)
      ∙ ap (λ j. all (elsifs_in e in_loop (hidden-the_row-Elsif-1 xs) (last j))) (else_is o)
      ∙ ap all (elsifs_are xs (last (parts.behind_else e in_loop o)))
    where
      last : Judged (List Stat) → Judged Arms
      last j = bind j (λ ss. kept (Otherwise (listed ss)))

      all : Judged Arms → Judged (Option Stat)
      all j = bind (condition e c) (λ test. bind (parts.listed_in e in_loop body.stats) (λ us. bind j (λ arms. kept (Some (If p (Arm test (listed us) arms))))))

  pub stat_case : (x : TreeStat) (p : Pos) (c : TreeExpr) (xs : List Case) (o : Option StatSeq) → x ≡ stat.Case p c xs o →
      stat_of e in_loop x ≡ parts.case_of e in_loop p c xs o
  stat_case x p c xs o is =
      ap (λ z. stat_of e in_loop z) is
      ∙ ap (λ j. bind (selector e c) (λ v. bind (cases_in e in_loop v.known.of [] (hidden-the_row-Case-2 xs) j) (λ cs. kept (Some (CaseOf p v.typed cs))))) (case_else_is o)
      ∙ ap (λ j. bind (selector e c) (λ v. bind j (λ cs. kept (Some (CaseOf p v.typed cs))))) (cases_are (selector e c).answer.known.of [] xs (parts.else_of_case e in_loop o))

pub stat_with : (e : Env) (in_loop : Bool) (x : TreeStat) (p : Pos) (a : Qualident) (q : Pos) (b : Qualident) (body : StatSeq) → x ≡ stat.With p a q b body →
    stat_of e in_loop x ≡ parts.with_of e in_loop p a q b body.stats
stat_with e in_loop x p a q b body is =
    ap (λ z. stat_of e in_loop z) is
    ∙ ap (λ j. bind (with_variable e a) (λ v. bind (known_type e b) (λ t. bind (guard e q v t) (λ g. bind j (λ us. kept (Some (with_stat p g.held (listed us))))))))
    (stats_are (narrowed_by e a (known_type e b).answer) in_loop body.stats)

pub stat_block : (e : Env) (in_loop : Bool) (x : TreeStat) (b : Block) → x ≡ stat.Block b → stat_of e in_loop x ≡ parts.block_of e in_loop b
stat_block e in_loop x b is =
    ap (λ z. stat_of e in_loop z) is
    ∙ ap (λ j. bind (judged (modifier_breaches e.here.text false b.modifiers) []) (λ (none : List Stat). bind j (λ us. kept (Some (BlockOf b.pos (are_exclusive e.here.text b.modifiers) (listed us))))))
    (stats_are (within_block b.modifiers e) in_loop b.body.stats)

pub stat_loop : (e : Env) (in_loop : Bool) (x : TreeStat) (p : Pos) (body : StatSeq) → x ≡ stat.Loop p body → stat_of e in_loop x ≡ parts.loop_of e p body.stats
stat_loop e in_loop x p body is = ap (λ z. stat_of e in_loop z) is ∙ ap (λ j. bind j (λ us. kept (Some (Loop p (listed us))))) (stats_are e true body.stats)

-- The arms of IF, and those of CASE, one after another.

module _ (e : Env) (in_loop : Bool) where
  pub arms_step : (xs : List Elsif) (last : Judged Arms) (i : ℕ) (d : Elsif) → i < length xs →
      parts.arms_in e in_loop (drop i xs) last
      ≡ bind (condition e (get_or xs i d).condition) (λ test. bind (parts.listed_in e in_loop (get_or xs i d).body.stats) (λ body.
      bind (parts.arms_in e in_loop (drop (i + 1) xs) last) (λ arms. kept (Arm test (listed body) arms))))
  arms_step xs last i d lt =
      ap (λ l. parts.arms_in e in_loop l last) (drop-cons xs i d lt)
      ∙ ap (λ j. parts.arms_in e in_loop (get_or xs i d ∷ drop j xs) last) (sym (add-one i))

  pub arms_end : (xs : List Elsif) (last : Judged Arms) (i : ℕ) → length xs ≤ i → parts.arms_in e in_loop (drop i xs) last ≡ last
  arms_end xs last i le = ap (λ l. parts.arms_in e in_loop l last) (drop_all i xs le)

  arm_alone : (of : Option TypeId) (ls : Labels) (x : Case) (labels : List Label) (body : StatSeq) (xs : List Case) (last : Judged Cases) → x ≡ case.Arm labels body →
      parts.cases_of e in_loop of ls (x ∷ xs) last
      ≡ bind (walk (label_in e of) ls labels) (λ all. bind (parts.listed_in e in_loop body.stats) (λ ss.
      bind (parts.cases_of e in_loop of all xs last) (λ cs. kept (OfLabels (drop (length ls) all) (listed ss) cs))))
  arm_alone of ls x labels body xs last is =
      ap (λ y. parts.cases_of e in_loop of ls (y ∷ xs) last) is
      ∙ ap (λ ss. bind (walk (label_in e of) ls labels) (λ all. bind (parts.listed_in e in_loop ss) (λ us.
      bind (parts.cases_of e in_loop of all xs last) (λ cs. kept (OfLabels (drop (length ls) all) (listed us) cs))))) (items_hidden-the_row-Stat-0 body.stats)

  pub cases_step : (of : Option TypeId) (ls : Labels) (xs : List Case) (last : Judged Cases) (i : ℕ) (d : Case) → i < length xs →
      (labels : List Label) (body : StatSeq) → get_or xs i d ≡ case.Arm labels body →
      parts.cases_of e in_loop of ls (drop i xs) last
      ≡ bind (walk (label_in e of) ls labels) (λ all. bind (parts.listed_in e in_loop body.stats) (λ ss.
      bind (parts.cases_of e in_loop of all (drop (i + 1) xs) last) (λ cs. kept (OfLabels (drop (length ls) all) (listed ss) cs))))
  cases_step of ls xs last i d lt labels body is =
      ap (λ l. parts.cases_of e in_loop of ls l last) (drop-cons xs i d lt)
      ∙ ap (λ j. parts.cases_of e in_loop of ls (get_or xs i d ∷ drop j xs) last) (sym (add-one i))
      ∙ arm_alone of ls (get_or xs i d) labels body (drop (i + 1) xs) last is

  pub cases_skip : (of : Option TypeId) (ls : Labels) (xs : List Case) (last : Judged Cases) (i : ℕ) (d : Case) → i < length xs → get_or xs i d ≡ case.Empty →
      parts.cases_of e in_loop of ls (drop i xs) last ≡ parts.cases_of e in_loop of ls (drop (i + 1) xs) last
  cases_skip of ls xs last i d lt is =
      ap (λ l. parts.cases_of e in_loop of ls l last) (drop-cons xs i d lt)
      ∙ ap (λ j. parts.cases_of e in_loop of ls (get_or xs i d ∷ drop j xs) last) (sym (add-one i))
      ∙ ap (λ y. parts.cases_of e in_loop of ls (y ∷ drop (i + 1) xs) last) is

  pub cases_end : (of : Option TypeId) (ls : Labels) (xs : List Case) (last : Judged Cases) (i : ℕ) → length xs ≤ i → parts.cases_of e in_loop of ls (drop i xs) last ≡ last
  cases_end of ls xs last i le = ap (λ l. parts.cases_of e in_loop of ls l last) (drop_all i xs le)

pub onto_all : (bs : List TArm) (ss : Stats) → arms_of bs ss ≡ onto bs (Otherwise ss)
onto_all [] ss = refl
onto_all (a ∷ bs) ss = let x = out-TArm a in ap (λ z. Arm (seen_expr x.test) (seen_stats x.body.items) z) (onto_all bs ss)

-- the code's statements are seen as the list of what each is seen as
pub stats_seen : (ss : List TStat) → seen_stats ss ≡ listed (map seen_stat ss)
stats_seen [] = refl
stats_seen (x ∷ xs) = ap (λ z. Then (seen_stat x) z) (stats_seen xs)

-- What is noted, and what comes of it, of an IF and of a CASE: one part after another.

arm_noted : (met : Option Breach) (test body more : List Breach) → first_after met (test ++ (body ++ (more ++ []))) ≡ first_after (first_after met (test ++ body)) more
arm_noted met test body more =
    ap (λ l. first_after met (test ++ (body ++ l))) (append-nil more)
    ∙ ap (λ l. first_after met l) (sym (append_assoc test body more))
    ∙ after_more met (test ++ body) more

module _ (e : Env) (in_loop : Bool) where
  -- an arm more
  pub arms_noted : (xs : List Elsif) (i : ℕ) (d : Elsif) → i < length xs → (last : Judged Arms) (met next : Option Breach) → next ≡ first_after met (parts.tested e in_loop (get_or xs i d).condition (get_or xs i d).body.stats).breaches →
      first_after next (parts.arms_in e in_loop (drop (i + 1) xs) last).breaches ≡ first_after met (parts.arms_in e in_loop (drop i xs) last).breaches
  arms_noted xs i d lt last met next h =
      let x = get_or xs i d in
      let more = (parts.arms_in e in_loop (drop (i + 1) xs) last).breaches in
      ap (λ m. first_after m more) h
      ∙ sym (arm_noted met (condition e x.condition).breaches (parts.listed_in e in_loop x.body.stats).breaches more)
      ∙ sym (ap (λ j. first_after met j.breaches) (arms_step e in_loop xs last i d lt))

  pub arms_put : (xs : List Elsif) (i : ℕ) (d : Elsif) → i < length xs → (last : Judged Arms) (as' more : List TArm) →
      ((others : Arms) → onto more others ≡ onto as' (Arm (condition e (get_or xs i d).condition).answer (listed (parts.listed_in e in_loop (get_or xs i d).body.stats).answer) others)) →
      onto more (parts.arms_in e in_loop (drop (i + 1) xs) last).answer ≡ onto as' (parts.arms_in e in_loop (drop i xs) last).answer
  arms_put xs i d lt last as' more put =
      put (parts.arms_in e in_loop (drop (i + 1) xs) last).answer ∙ sym (ap (λ j. onto as' j.answer) (arms_step e in_loop xs last i d lt))

  pub if_noted : (x : TreeStat) (p : Pos) (c : TreeExpr) (body : StatSeq) (xs : List Elsif) (o : Option StatSeq) → x ≡ stat.If p c body xs o →
      (met one two three : Option Breach) → one ≡ first_after met (parts.tested e in_loop c body.stats).breaches →
      ((last : Judged Arms) → first_after two last.breaches ≡ first_after one (parts.arms_in e in_loop xs last).breaches) →
      three ≡ first_after two (parts.behind_else e in_loop o).breaches → three ≡ first_after met (stat_of e in_loop x).breaches
  if_noted x p c body xs o is met one two three h1 h2 h3 =
      let last = parts.last_arm e in_loop o in
      let more = (parts.arms_in e in_loop xs last).breaches in
      h3
      ∙ ap (λ l. first_after two l) (sym (append-nil (parts.behind_else e in_loop o).breaches))
      ∙ h2 last
      ∙ ap (λ m. first_after m more) h1
      ∙ sym (arm_noted met (condition e c).breaches (parts.listed_in e in_loop body.stats).breaches more)
      ∙ sym (ap (λ j. first_after met j.breaches) (stat_if e in_loop x p c body xs o is))

  pub if_answer : (x : TreeStat) (p : Pos) (c : TreeExpr) (body : StatSeq) (xs : List Elsif) (o : Option StatSeq) → x ≡ stat.If p c body xs o →
      (s : TStat) (all : List TArm) (last : List TStat) → seen_stat s ≡ If p (arms_of all (seen_stats last)) →
      ((l : Judged Arms) → onto all l.answer ≡ Arm (condition e c).answer (listed (parts.listed_in e in_loop body.stats).answer) (parts.arms_in e in_loop xs l).answer) →
      map seen_stat last ≡ (parts.behind_else e in_loop o).answer → Some (seen_stat s) ≡ (stat_of e in_loop x).answer
  if_answer x p c body xs o is s all last made more behind =
      let l = parts.last_arm e in_loop o in
      ap (λ s. Some s) (made
      ∙ ap (λ z. If p z) (onto_all all (seen_stats last)
      ∙ ap (λ z. onto all (Otherwise z)) (stats_seen last ∙ ap listed behind)
      ∙ more l))
      ∙ sym (ap (λ j. j.answer) (stat_if e in_loop x p c body xs o is))

  -- a label more, and the statements behind it
  pub cases_noted : (of : Option TypeId) (ls : Labels) (xs : List Case) (i : ℕ) (d : Case) → i < length xs → (labels : List Label) (body : StatSeq) → get_or xs i d ≡ case.Arm labels body →
      (last : Judged Cases) (all : Labels) → all ≡ (walk (label_in e of) ls labels).answer → (met one two : Option Breach) → one ≡ first_after met (walk (label_in e of) ls labels).breaches →
      two ≡ first_after one (parts.listed_in e in_loop body.stats).breaches →
      first_after two (parts.cases_of e in_loop of all (drop (i + 1) xs) last).breaches ≡ first_after met (parts.cases_of e in_loop of ls (drop i xs) last).breaches
  cases_noted of ls xs i d lt labels body is last all here met one two h1 h2 =
      let w = walk (label_in e of) ls labels in
      let b = (parts.listed_in e in_loop body.stats).breaches in
      let more = (parts.cases_of e in_loop of w.answer (drop (i + 1) xs) last).breaches in
      ap (λ a. first_after two (parts.cases_of e in_loop of a (drop (i + 1) xs) last).breaches) here
      ∙ ap (λ m. first_after m more) (h2 ∙ ap (λ m. first_after m b) h1 ∙ sym (after_more met w.breaches b))
      ∙ sym (arm_noted met w.breaches b more)
      ∙ sym (ap (λ j. first_after met j.breaches) (cases_step e in_loop of ls xs last i d lt labels body is))

  pub cases_put : (of : Option TypeId) (ls : Labels) (xs : List Case) (i : ℕ) (d : Case) → i < length xs → (labels : List Label) (body : StatSeq) → get_or xs i d ≡ case.Arm labels body →
      (last : Judged Cases) (all : Labels) → all ≡ (walk (label_in e of) ls labels).answer → (as' done : List TCase) (own : List LabelRange) (ss : List TStat) →
      ((others : Cases) → cases_of done others ≡ cases_of as' (OfLabels own (seen_stats ss) others)) →
      own ≡ drop (length ls) (walk (label_in e of) ls labels).answer → map seen_stat ss ≡ (parts.listed_in e in_loop body.stats).answer →
      cases_of done (parts.cases_of e in_loop of all (drop (i + 1) xs) last).answer ≡ cases_of as' (parts.cases_of e in_loop of ls (drop i xs) last).answer
  cases_put of ls xs i d lt labels body is last all here as' done own ss put own_is ss_is =
      let w = walk (label_in e of) ls labels in
      let more = (parts.cases_of e in_loop of w.answer (drop (i + 1) xs) last).answer in
      ap (λ z. cases_of done (parts.cases_of e in_loop of z (drop (i + 1) xs) last).answer) here
      ∙ put more
      ∙ ap (λ l. cases_of as' (OfLabels l (seen_stats ss) more)) own_is
      ∙ ap (λ z. cases_of as' (OfLabels (drop (length ls) w.answer) z more)) (stats_seen ss ∙ ap listed ss_is)
      ∙ sym (ap (λ j. cases_of as' j.answer) (cases_step e in_loop of ls xs last i d lt labels body is))

  pub case_noted : (x : TreeStat) (p : Pos) (c : TreeExpr) (xs : List Case) (o : Option StatSeq) → x ≡ stat.Case p c xs o →
      (of : Option TypeId) → of ≡ (selector e c).answer.known.of → (met one two three : Option Breach) → one ≡ first_after met (selector e c).breaches →
      ((last : Judged Cases) → first_after two last.breaches ≡ first_after one (parts.cases_of e in_loop of [] xs last).breaches) →
      three ≡ first_after two (parts.else_of_case e in_loop o).breaches → three ≡ first_after met (stat_of e in_loop x).breaches
  case_noted x p c xs o is of of_is met one two three h1 h2 h3 =
      let last = parts.else_of_case e in_loop o in
      let v = selector e c in
      let more = (parts.cases_of e in_loop v.answer.known.of [] xs last).breaches in
      h3
      ∙ h2 last
      ∙ ap (λ t. first_after one (parts.cases_of e in_loop t [] xs last).breaches) of_is
      ∙ ap (λ m. first_after m more) h1
      ∙ sym (after_more met v.breaches more)
      ∙ ap (λ l. first_after met (v.breaches ++ l)) (sym (append-nil more))
      ∙ sym (ap (λ j. first_after met j.breaches) (stat_case e in_loop x p c xs o is))

  pub case_answer : (x : TreeStat) (p : Pos) (c : TreeExpr) (xs : List Case) (o : Option StatSeq) → x ≡ stat.Case p c xs o →
      (of : Option TypeId) → of ≡ (selector e c).answer.known.of → (s : TStat) (v : TExpr) (all : List TCase) (last : TElse) →
      seen_stat s ≡ CaseOf p (seen_expr v) (cases_of all (seen_else last)) → seen_expr v ≡ (selector e c).answer.typed →
      ((l : Judged Cases) → cases_of all l.answer ≡ (parts.cases_of e in_loop of [] xs l).answer) →
      seen_else last ≡ (parts.else_of_case e in_loop o).answer → Some (seen_stat s) ≡ (stat_of e in_loop x).answer
  case_answer x p c xs o is of of_is s v all last made value more behind =
      let l = parts.else_of_case e in_loop o in
      ap (λ s. Some s) (made
      ∙ ap (λ z. CaseOf p z (cases_of all (seen_else last))) value
      ∙ ap (λ z. CaseOf p (selector e c).answer.typed z) (ap (λ z. cases_of all z) behind
      ∙ more l
      ∙ ap (λ t. (parts.cases_of e in_loop t [] xs l).answer) of_is))
      ∙ sym (ap (λ j. j.answer) (stat_case e in_loop x p c xs o is))
