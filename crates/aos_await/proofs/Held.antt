-- A statement that holds others is numbered as these are.
use Rattle.std.proofs.Common.{◌≡◌, ℕ, ◌+◌, List, length, map, Vec, Global, refl, sym, ap, ◌∙◌, arith}
use Rattle.std.specs.Vec.{with_items}
use Rattle.std.proofs.lemmas.List.{with_items_is}
use borrow.Enum.Known.{ValuesAt, at}
use borrow.Enum.Total.{values_d, values_o}
use Rattle.aos_base.specs.declared.text.Pos.{Pos}
use Rattle.aos_typed.specs.declared.tree.TArm.{TArm}
use Rattle.aos_typed.specs.declared.tree.TCase.{TCase}
use Rattle.aos_typed.specs.declared.tree.TElse.{TElse}
use Rattle.aos_typed.specs.declared.tree.TElse.TheViews as view
use Rattle.aos_typed.specs.declared.tree.TExpr.{TExpr}
use Rattle.aos_typed.specs.declared.tree.TStat.{TStat}
use Rattle.aos_typed.specs.contracts.tree.TStat.{enum}
use Rattle.aos_typed.specs.contracts.tree.TElse.{enum as else_enum}
use Rattle.aos_typed.specs.Program.{Stat, Stats, If, Case, Cases, While, Repeat, Loop, For, Block, With, WithRecord, Else}
use Rattle.aos_typed.specs.Seen.{seen_place, seen_expr, seen_stat, seen_stats, seen_else, arms_of, cases_of}
use Rattle.aos_typed.specs.Conditions.{awaited, awaited_in, awaited_in_arms, awaited_in_cases, renumbered, stats_renumbered, arms_renumbered, cases_renumbered}
use Rattle.aos_typed.proofs.Seen.{if_seen, case_seen, else_seen, while_seen, repeat_seen, loop_seen, for_seen, block_seen, with_seen, with_record_seen}
use Rattle.aos_await.specs.Counts.{seen_arm, seen_case, awaits_of_arms, awaits_of_cases}
use Rattle.aos_await.proofs.Passes.{as_tested, as_labelled, tested_counted, labelled_counted}
use Rattle.aos_await.proofs.Written.{made_of, found, with_field, written}

-- a vector whose elements are written over
pub refilled : {X : Type 0} (v : Vec X Global) (now ws : List X) → now ≡ v.items → length ws ≡ length now → (with_items v ws).items ≡ ws
refilled v now ws same many = with_items_is v ws (many ∙ ap length same ∙ sym v.ok.0)

-- statements of a body that are numbered where they stand
pub body_numbered : (n : ℕ) (v : Vec TStat Global) (now ws : List TStat) → now ≡ v.items → length ws ≡ length now → seen_stats ws ≡ stats_renumbered n (seen_stats now) →
    seen_stats (with_items v ws).items ≡ stats_renumbered n (seen_stats v.items)
body_numbered n v now ws same many done = ap seen_stats (refilled v now ws same many) ∙ done ∙ ap (λ ss. stats_renumbered n (seen_stats ss)) same

pub body_counted : (n m : ℕ) (v : Vec TStat Global) (now : List TStat) → now ≡ v.items → m ≡ n + length (awaited_in (seen_stats now)) → m ≡ n + length (awaited_in (seen_stats v.items))
body_counted n m v now same done = done ∙ ap (λ ss. n + length (awaited_in (seen_stats ss))) same

-- A statement that holds one sequence of statements: at which variant it is, how it is made of a sequence and of its values, of which one
-- is its sequence, and how it is seen.
pub record Holder : Type 0 where
  pub variant : ℕ
  pub make : Vec TStat Global → ValuesAt enum.parts variant → TStat
  pub body : ValuesAt enum.parts variant → Vec TStat Global
  pub seen : ValuesAt enum.parts variant → Stats → Stat
  pub whole : (q : ValuesAt enum.parts variant) → at enum variant q ≡ make (body q) q
  pub shown : (b : Vec TStat Global) (q : ValuesAt enum.parts variant) → seen_stat (make b q) ≡ seen q (seen_stats b.items)
  pub walks : (n : ℕ) (q : ValuesAt enum.parts variant) (ss : Stats) → renumbered n (seen q ss) ≡ seen q (stats_renumbered n ss)
  pub counts : (q : ValuesAt enum.parts variant) (ss : Stats) → awaited (seen q ss) ≡ awaited_in ss

-- where such a statement stands, its sequence is numbered
module _ (h : Holder) (n : ℕ) (s : TStat) (v : ValuesAt enum.parts h.variant) (is : s ≡ at enum h.variant v) where
  abbrev values : ValuesAt enum.parts h.variant
  values = values_d enum h.variant v s

  seen_whole : seen_stat s ≡ h.seen values (seen_stats (h.body values).items)
  seen_whole = ap seen_stat (made_of enum h.variant v is ∙ h.whole values) ∙ h.shown (h.body values) values

  pub held_numbered : (new : Vec TStat Global) → seen_stats new.items ≡ stats_renumbered n (seen_stats (h.body values).items) →
      seen_stat (with_field h.make (values_o enum h.variant s) s new) ≡ renumbered n (seen_stat s)
  held_numbered new done =
      ap seen_stat (written h.make (values_o enum h.variant s) values s new (found enum h.variant v is))
      ∙ h.shown new values
      ∙ ap (h.seen values) done
      ∙ sym (ap (renumbered n) seen_whole ∙ h.walks n values (seen_stats (h.body values).items))

  pub held_counted : (m : ℕ) → m ≡ n + length (awaited_in (seen_stats (h.body values).items)) → m ≡ n + length (awaited (seen_stat s))
  held_counted m done = done ∙ ap (λ l. n + length l) (sym (ap awaited seen_whole ∙ h.counts values (seen_stats (h.body values).items)))

abbrev pub in_while : Holder
in_while = record {
  variant = 5;
  make = λ b q. view.While q.0 q.1.0 b;
  body = λ q. q.1.1.0;
  seen = λ q l. While q.0 (seen_expr q.1.0) l;
  whole = λ q. refl;
  shown = λ b q. while_seen q.0 q.1.0 b;
  walks = λ n q ss. refl;
  counts = λ q ss. refl;
}

abbrev pub in_repeat : Holder
in_repeat = record {
  variant = 6;
  make = λ b q. view.Repeat q.0 b q.1.1.0;
  body = λ q. q.1.0;
  seen = λ q l. Repeat q.0 l (seen_expr q.1.1.0);
  whole = λ q. refl;
  shown = λ b q. repeat_seen q.0 b q.1.1.0;
  walks = λ n q ss. refl;
  counts = λ q ss. refl;
}

abbrev pub in_loop : Holder
in_loop = record {
  variant = 7;
  make = λ b q. view.Loop q.0 b;
  body = λ q. q.1.0;
  seen = λ q l. Loop q.0 l;
  whole = λ q. refl;
  shown = λ b q. loop_seen q.0 b;
  walks = λ n q ss. refl;
  counts = λ q ss. refl;
}

abbrev pub in_for : Holder
in_for = record {
  variant = 9;
  make = λ b q. view.For q.0 q.1.0 q.1.1.0 q.1.1.1.0 q.1.1.1.1.0 q.1.1.1.1.1.0 b;
  body = λ q. q.1.1.1.1.1.1.0;
  seen = λ q l. For q.0 q.1.0 (seen_place q.1.1.0) (seen_expr q.1.1.1.0.value) (seen_expr q.1.1.1.1.0.value) q.1.1.1.1.1.0 l;
  whole = λ q. refl;
  shown = λ b q. for_seen q.0 q.1.0 q.1.1.0 q.1.1.1.0 q.1.1.1.1.0 q.1.1.1.1.1.0 b;
  walks = λ n q ss. refl;
  counts = λ q ss. refl;
}

abbrev pub in_block : Holder
in_block = record {
  variant = 10;
  make = λ b q. view.Block q.0 q.1.0 b;
  body = λ q. q.1.1.0;
  seen = λ q l. Block q.0 q.1.0 l;
  whole = λ q. refl;
  shown = λ b q. block_seen q.0 q.1.0 b;
  walks = λ n q ss. refl;
  counts = λ q ss. refl;
}

abbrev pub in_with : Holder
in_with = record {
  variant = 19;
  make = λ b q. view.With q.0 q.1.0 b;
  body = λ q. q.1.1.0;
  seen = λ q l. With q.0 (seen_expr q.1.0) l;
  whole = λ q. refl;
  shown = λ b q. with_seen q.0 q.1.0 b;
  walks = λ n q ss. refl;
  counts = λ q ss. refl;
}

abbrev pub in_with_record : Holder
in_with_record = record {
  variant = 20;
  make = λ b q. view.WithRecord q.0 q.1.0 b;
  body = λ q. q.1.1.0;
  seen = λ q l. WithRecord q.0 (seen_place q.1.0) l;
  whole = λ q. refl;
  shown = λ b q. with_record_seen q.0 q.1.0 b;
  walks = λ n q ss. refl;
  counts = λ q ss. refl;
}

-- IF
pub arms_done : (n k : ℕ) (v : Vec TArm Global) (now ws : List TArm) → now ≡ v.items → length ws ≡ length now →
    ((l : Stats) → arms_of ws (stats_renumbered k l) ≡ arms_renumbered n (arms_of now l)) → (l : Stats) → arms_of (with_items v ws).items (stats_renumbered k l) ≡ arms_renumbered n (arms_of v.items l)
arms_done n k v now ws same many done l =
    ap (λ as'. arms_of as' (stats_renumbered k l)) (refilled v now ws same many) ∙ done l ∙ ap (λ as'. arms_renumbered n (arms_of as' l)) same

module _ (n k m : ℕ) (s : TStat) (at : Pos) (arms : Vec TArm Global) (last : Vec TStat Global) (is : s ≡ view.If at arms last) where
  pub if_numbered : (arms' : Vec TArm Global) (last' : Vec TStat Global) → ((l : Stats) → arms_of arms'.items (stats_renumbered k l) ≡ arms_renumbered n (arms_of arms.items l)) →
      seen_stats last'.items ≡ stats_renumbered k (seen_stats last.items) → seen_stat (view.If at arms' last') ≡ renumbered n (seen_stat s)
  if_numbered arms' last' done ended =
      if_seen at arms' last'
      ∙ ap (λ l. If at (arms_of arms'.items l)) ended
      ∙ ap (λ l. If at l) (done (seen_stats last.items))
      ∙ sym (ap (λ z. renumbered n (seen_stat z)) is ∙ ap (renumbered n) (if_seen at arms last))

  pub if_counted : k ≡ n + awaits_of_arms arms.items → m ≡ k + length (awaited_in (seen_stats last.items)) → m ≡ n + length (awaited (seen_stat s))
  if_counted first behind =
      let shown : length (awaited (seen_stat s)) ≡ length (awaited_in_arms (arms_of arms.items (seen_stats last.items))) =
      ap (λ z. length (awaited (seen_stat z))) is ∙ ap (λ z. length (awaited z)) (if_seen at arms last) in
      let both : length (awaited_in_arms (arms_of arms.items (seen_stats last.items))) ≡ awaits_of_arms arms.items + length (awaited_in (seen_stats last.items)) =
      ap (λ l. length (awaited_in_arms l)) (as_tested arms.items (seen_stats last.items)) ∙ tested_counted (map seen_arm arms.items) (seen_stats last.items) in
      omega (arith, shown, both, first, behind)

-- CASE
pub cases_done : (n k : ℕ) (v : Vec TCase Global) (now ws : List TCase) → now ≡ v.items → length ws ≡ length now →
    ((l : Cases) → cases_of ws (cases_renumbered k l) ≡ cases_renumbered n (cases_of now l)) → (l : Cases) → cases_of (with_items v ws).items (cases_renumbered k l) ≡ cases_renumbered n (cases_of v.items l)
cases_done n k v now ws same many done l =
    ap (λ as'. cases_of as' (cases_renumbered k l)) (refilled v now ws same many) ∙ done l ∙ ap (λ as'. cases_renumbered n (cases_of as' l)) same

module _ (n k m : ℕ) (s : TStat) (at : Pos) (e : TExpr) (cases : Vec TCase Global) (otherwise : TElse) (is : s ≡ view.Case at e cases otherwise) where
  pub case_numbered : (cases' : Vec TCase Global) (otherwise' : TElse) → ((l : Cases) → cases_of cases'.items (cases_renumbered k l) ≡ cases_renumbered n (cases_of cases.items l)) →
      seen_else otherwise' ≡ cases_renumbered k (seen_else otherwise) → seen_stat (view.Case at e cases' otherwise') ≡ renumbered n (seen_stat s)
  case_numbered cases' otherwise' done ended =
      case_seen at e cases' otherwise'
      ∙ ap (λ l. Case at (seen_expr e) (cases_of cases'.items l)) ended
      ∙ ap (λ l. Case at (seen_expr e) l) (done (seen_else otherwise))
      ∙ sym (ap (λ z. renumbered n (seen_stat z)) is ∙ ap (renumbered n) (case_seen at e cases otherwise))

  pub case_counted : k ≡ n + awaits_of_cases cases.items → m ≡ k + length (awaited_in_cases (seen_else otherwise)) → m ≡ n + length (awaited (seen_stat s))
  case_counted first behind =
      let shown : length (awaited (seen_stat s)) ≡ length (awaited_in_cases (cases_of cases.items (seen_else otherwise))) =
      ap (λ z. length (awaited (seen_stat z))) is ∙ ap (λ z. length (awaited z)) (case_seen at e cases otherwise) in
      let both : length (awaited_in_cases (cases_of cases.items (seen_else otherwise))) ≡ awaits_of_cases cases.items + length (awaited_in_cases (seen_else otherwise)) =
      ap (λ l. length (awaited_in_cases l)) (as_labelled cases.items (seen_else otherwise)) ∙ labelled_counted (map seen_case cases.items) (seen_else otherwise) in
      omega (arith, shown, both, first, behind)

-- ELSE of CASE
module _ (n : ℕ) (o : TElse) (v : ValuesAt else_enum.parts 1) (is : o ≡ at else_enum 1 v) where
  abbrev else_values : ValuesAt else_enum.parts 1
  else_values = values_d else_enum 1 v o

  else_whole : seen_else o ≡ Else (seen_stats else_values.0.items)
  else_whole = ap seen_else (made_of else_enum 1 v is) ∙ else_seen else_values.0

  pub else_numbered : (new : Vec TStat Global) → seen_stats new.items ≡ stats_renumbered n (seen_stats else_values.0.items) →
      seen_else (with_field (λ (b : Vec TStat Global) (q : ValuesAt else_enum.parts 1). view.Else b) (values_o else_enum 1 o) o new) ≡ cases_renumbered n (seen_else o)
  else_numbered new done =
      ap seen_else (written (λ (b : Vec TStat Global) (q : ValuesAt else_enum.parts 1). view.Else b) (values_o else_enum 1 o) else_values o new (found else_enum 1 v is))
      ∙ else_seen new
      ∙ ap (λ l. Else l) done
      ∙ sym (ap (cases_renumbered n) else_whole)

  pub else_counted : (m : ℕ) → m ≡ n + length (awaited_in (seen_stats else_values.0.items)) → m ≡ n + length (awaited_in_cases (seen_else o))
  else_counted m done = done ∙ ap (λ l. n + length l) (sym (ap awaited_in_cases else_whole))
