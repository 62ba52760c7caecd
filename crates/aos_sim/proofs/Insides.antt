-- AWAIT is met only where a mark stands behind: what follows a statement keeps the rules in a region where the statement does.
use Rattle.std.proofs.Common.{◌≡◌, List, [], ◌∷◌, ◌++◌, ℤ, Bool, true, false, Option, Some, None, if◌then◌else◌, refl, sym, ap, ◌∙◌, subst, append_assoc}
use Rattle.std.specs.List.{list_any}
use Rattle.std.proofs.lemmas.List.{append-nil}
use Rattle.std.proofs.Math.Bool.{or-true, or-false}
use Rattle.aos_base.specs.declared.kernel.LockName.{LockName}
use Rattle.aos_base.specs.Number.{holds}
use Rattle.aos_base.specs.Question.{Val, Traps}
use Rattle.aos_typed.specs.declared.tree.TType.TheVariants.{Integer}
use Rattle.aos_typed.specs.Program.{Read, Stat, Assign, Copy, PutText, If, Case, While, Repeat, Loop, Exit, For, Block, Await, Assert, Halt, Change, Perform, Return, New, Make, With, WithRecord, Out, Stats, Nothing, Then, Arms, Otherwise, Arm, Cases, NoElse, Else, OfLabels, Call, Open, Char as CharCall, Int as IntCall, String, Ln, Body, Program}
use Rattle.aos_typed.specs.Rules.{KeepsRules, AllKeepRules, ArmsKeepRules, CasesKeepRules, BodyKeepsRules}
use Rattle.aos_typed.specs.Value.{Value, number_of, is_true}
use Rattle.aos_typed.specs.Meaning.{Here, Item, Do, Rounds, Round, Until, Region, End, Gives, After, Into, Exits, Returns, leave, leave_all, items_of, block_items, body_items, is_in, place_of, rows_of, value_of, values_of, arguments_of, called, changed, case_of, arms_of, out_of, stat_of, item_of, initialized, carried_out, next_value, until}
use Rattle.aos_typed.specs.Methods.{body_type, initializer}
use Rattle.aos_typed.specs.Source.{locks_in}
use Rattle.aos_sim.proofs.Regions.{Each, each_bind, items_plain}
use Rattle.aos_sim.proofs.NeverLost.{MayAwait, MayBegin}

-- a region is open behind
abbrev pub is_inside : List LockName → Bool
is_inside [] = false
is_inside (l ∷ ls) = true

-- a statement keeps the rules in a region, or in none, whether it stands in a LOOP or not; so do all of these
abbrev pub StatInside : Bool → Stat → Type 0
StatInside inside s = (in_loop : Bool) × KeepsRules inside in_loop s

abbrev pub AllInside : Bool → Stats → Type 0
AllInside inside ss = (in_loop : Bool) × AllKeepRules inside in_loop ss

abbrev pub ItemInside : Bool → Item → Type 0
ItemInside inside (Do s) = StatInside inside s
ItemInside inside (Rounds at w p last step b) = AllInside inside b
ItemInside inside (Round s) = StatInside inside s
ItemInside inside (Until at b e) = AllInside inside b
ItemInside inside (Region ss) = AllInside true ss
ItemInside inside End = Unit {0}
ItemInside inside (Gives r) = Unit {0}

-- each of these items keeps the rules, in a region where a mark stands behind
abbrev pub AreInside : LockName → List Item → Type 0
AreInside l [] = Unit {0}
AreInside l (i ∷ is) = ItemInside (is_inside (locks_in l is)) i × AreInside l is

pub items_inside : (l : LockName) (ss : Stats) (rest : List Item) → AllInside (is_inside (locks_in l rest)) ss → AreInside l rest → AreInside l (items_of ss ++ rest)
items_inside l Nothing rest all are = are
items_inside l (Then s ss) rest all are =
    let one : StatInside (is_inside (locks_in l rest)) s = (all.0, all.1.0) in
    (subst (λ ls. StatInside (is_inside ls) s) (sym (items_plain l ss rest)) one, items_inside l ss rest (all.0, all.1.1) are)

may_await : (inside : Bool) (s : Stat) → StatInside inside s → MayAwait inside s
may_await inside (Await at n e) h = h.1
may_await inside s h = tt

-- an item that begins has no mark of its own
pub may_begin : (l : LockName) (i : Item) (is : List Item) → ItemInside (is_inside (locks_in l is)) i → MayBegin (is_inside (locks_in l (i ∷ is))) i
may_begin l (Do s) is h = may_await (is_inside (locks_in l is)) s h
may_begin l (Round s) is h = may_await (is_inside (locks_in l is)) s h
may_begin l i is h = tt

pub body_inside : (l : LockName) (b : Body) → BodyKeepsRules b → AreInside l (body_items b)
body_inside l b = by b.is_exclusive
  where
    by : (exclusive : Bool) → AllKeepRules exclusive false b.statements → AreInside l (block_items exclusive b.statements)
    by true all = ((false, all), tt)
    by false all = subst (AreInside l) (append-nil (items_of b.statements)) (items_inside l b.statements [] (false, all) tt)

pub leave_inside : (l : LockName) (is : List Item) → AreInside l is → AreInside l (leave is)
leave_inside l [] are = are
leave_inside l (Do s ∷ is) are = leave_inside l is are.1
leave_inside l (Rounds at w p last step b ∷ is) are = leave_inside l is are.1
leave_inside l (Round s ∷ is) are = are.1
leave_inside l (Until at b e ∷ is) are = leave_inside l is are.1
leave_inside l (Region ss ∷ is) are = leave_inside l is are.1
leave_inside l (End ∷ is) are = (tt, leave_inside l is are.1)
leave_inside l (Gives r ∷ is) are = (tt, tt)

pub leave_all_inside : (l : LockName) (r : Option Value) (is : List Item) → AreInside l (leave_all r is)
leave_all_inside l r [] = (tt, tt)
leave_all_inside l r (Do s ∷ is) = leave_all_inside l r is
leave_all_inside l r (Rounds at w p last step b ∷ is) = leave_all_inside l r is
leave_all_inside l r (Round s ∷ is) = leave_all_inside l r is
leave_all_inside l r (Until at b e ∷ is) = leave_all_inside l r is
leave_all_inside l r (Region ss ∷ is) = leave_all_inside l r is
leave_all_inside l r (End ∷ is) = (tt, leave_all_inside l r is)
leave_all_inside l r (Gives r' ∷ is) = (tt, tt)

-- What follows a statement, and an item, whatever is answered.

abbrev pub ComesInside : Bool → After → Type 0
ComesInside inside (Into js) = (l : LockName) (rest : List Item) → is_inside (locks_in l rest) ≡ inside → AreInside l rest → AreInside l (js ++ rest)
ComesInside inside Exits = Unit {0}
ComesInside inside (Returns r) = Unit {0}

module _ (p : Program) (here : Here) (inside : Bool) where
  abbrev Comes : After → Type 0
  Comes = ComesInside inside

  nothing : Comes (Into [])
  nothing l rest e are = are

  all_inside : (ss : Stats) → AllInside inside ss → Comes (Into (items_of ss))
  all_inside ss all l rest e are = items_inside l ss rest (subst (λ b. AllInside b ss) (sym e) all) are

  -- statements before one more item
  before_inside : (ss : Stats) (i : Item) → AllInside inside ss → ItemInside inside i → ((l : LockName) (rest : List Item) → locks_in l (i ∷ rest) ≡ locks_in l rest) → Comes (Into (items_of ss ++ i ∷ []))
  before_inside ss i all one plain l rest e are =
      subst (AreInside l) (sym (append_assoc (items_of ss) (i ∷ []) rest))
      (items_inside l ss (i ∷ rest) (subst (λ b. AllInside b ss) (sym (ap is_inside (plain l rest) ∙ e)) all) (subst (λ b. ItemInside b i) (sym e) one, are))

  case_inside : (z : ℤ) (in_loop : Bool) (cases : Cases) → CasesKeepRules inside in_loop cases → Each Comes (case_of z cases)
  case_inside z in_loop NoElse all = tt
  case_inside z in_loop (Else ss) all = all_inside ss (in_loop, all)
  case_inside z in_loop (OfLabels rs ss cases) all = by (list_any (is_in z) rs) (case_inside z in_loop cases all.1)
    where
      by : (b : Bool) → Each Comes (case_of z cases) → Each Comes (if b then Val (Into (items_of ss)) else case_of z cases)
      by true h = all_inside ss (in_loop, all.0)
      by false h = h

  arms_inside : (in_loop : Bool) (arms : Arms) → ArmsKeepRules inside in_loop arms → Each Comes (arms_of p here arms)
  arms_inside in_loop (Otherwise ss) all = all_inside ss (in_loop, all)
  arms_inside in_loop (Arm e ss arms) all = let others = arms_inside in_loop arms all.1 in each_bind Comes (value_of p here e) _ (λ v. by (is_true v) others)
    where
      by : (b : Bool) → Each Comes (arms_of p here arms) → Each Comes (if b then Val (Into (items_of ss)) else arms_of p here arms)
      by true h = all_inside ss (in_loop, all.0)
      by false h = h

  out_inside : (call : Call) → Each Comes (out_of p here call)
  out_inside Open = λ v. nothing
  out_inside (CharCall e) = each_bind Comes (value_of p here e) _ (λ x v. nothing)
  out_inside (IntCall e n) = each_bind Comes (value_of p here e) _ (λ x. each_bind Comes (value_of p here n) _ (λ y v. nothing))
  out_inside (String r) = each_bind Comes (rows_of p here r) _ (λ x v. nothing)
  out_inside Ln = λ v. nothing

  stat_inside : (s : Stat) → StatInside inside s → Each Comes (stat_of p here s)
  stat_inside (Assign at t q e) all = each_bind Comes (place_of p here q) _ (λ s. each_bind Comes (value_of p here e) _ (λ x v. nothing))
  stat_inside (Copy at t q r) all = each_bind Comes (place_of p here q) _ (λ s. each_bind Comes (place_of p here r) _ (λ x v. nothing))
  stat_inside (PutText at strict a b) all = each_bind Comes (rows_of p here a) _ (λ s. each_bind Comes (rows_of p here b) _ (λ x v. nothing))
  stat_inside (If at arms) all = arms_inside all.0 arms all.1
  stat_inside (Case at e cases) all = each_bind Comes (value_of p here e) _ (λ v. case_inside (number_of v) all.0 cases all.1)
  stat_inside (While at e body) all = each_bind Comes (value_of p here e) _ (λ v. by (is_true v))
    where
      by : (b : Bool) → Comes (Into (if b then items_of body ++ Do (While at e body) ∷ [] else []))
      by true = before_inside body (Do (While at e body)) all all (λ l rest. refl)
      by false = nothing
  stat_inside (Repeat at body e) all = before_inside body (Until at body e) all all (λ l rest. refl)
  stat_inside (Loop at body) all = before_inside body (Round (Loop at body)) (true, all.1) all (λ l rest. refl)
  stat_inside (Exit at) all = tt
  stat_inside (For at w q from to step body) all =
      let rounds : AllInside inside body = (all.0, all.1.1) in
      each_bind Comes (value_of p here to) _ (λ v l rest e are. ((all.0, tt), (subst (λ b. AllInside b body) (sym e) rounds, are)))
  stat_inside (Block at true body) all = λ l rest e are. ((all.0, subst (λ b. AllKeepRules b all.0 body) (or-true inside) all.1), are)
  stat_inside (Block at false body) all = all_inside body (all.0, subst (λ b. AllKeepRules b all.0 body) (or-false inside) all.1)
  stat_inside (Await at n e) all = λ v. nothing
  stat_inside (Assert at e code) all = each_bind Comes (value_of p here e) _ (λ v. by (is_true v))
    where
      by : (b : Bool) → Each Comes (if b then Val (Into []) else Traps 7 code)
      by true = nothing
      by false = tt
  stat_inside (Halt at code) all = tt
  stat_inside (Change at c q e) all =
      each_bind Comes (place_of p here q) _ (λ s. each_bind Comes (value_of p here e) _ (λ n v. each_bind Comes (changed c v n) _ (λ x w. nothing)))
  stat_inside (Perform at c more) all = each_bind Comes (called p here c more) _ (λ v. nothing)
  stat_inside (Return at None) all = tt
  stat_inside (Return at (Some e)) all = each_bind Comes (value_of p here e) _ (λ v. tt)
  stat_inside (New at q t more) all =
      each_bind Comes (place_of p here q) _ (λ s. each_bind Comes (arguments_of p here more) _ (λ vs o.
      each_bind Comes (initialized p (initializer p t) t o vs) _ (λ x y. each_bind Comes (carried_out p (body_type p t) o) _ (λ z. nothing))))
  stat_inside (Make at q t ns) all =
      each_bind Comes (place_of p here q) _ (λ s. each_bind Comes (values_of p here ns) _ (λ vs o v. nothing))
  stat_inside (With at e body) all = each_bind Comes (value_of p here e) _ (λ v. all_inside body all)
  stat_inside (WithRecord at q body) all = each_bind Comes (place_of p here q) _ (λ v. all_inside body all)
  stat_inside (Out at call) all = out_inside call

  pub item_inside : (i : Item) → ItemInside inside i → Each Comes (item_of p here i)
  item_inside (Do s) one = stat_inside s one
  item_inside (Rounds at w q last step b) one =
      each_bind {A = Value} Comes (value_of p here (Read (Integer w) q))
      (λ v. Val (Into (if holds (until step) (number_of v) last then items_of b ++ Do (next_value at w q step) ∷ Rounds at w q last step b ∷ [] else [])))
      (λ v. by (holds (until step) (number_of v) last))
    where
      by : (c : Bool) → Comes (Into (if c then items_of b ++ Do (next_value at w q step) ∷ Rounds at w q last step b ∷ [] else []))
      by true = λ l rest e are.
          let all = subst (λ c. AllInside c b) (sym e) one in
          subst (AreInside l) (sym (append_assoc (items_of b) (Do (next_value at w q step) ∷ Rounds at w q last step b ∷ []) rest))
          (items_inside l b (Do (next_value at w q step) ∷ Rounds at w q last step b ∷ rest) all ((false, tt), (all, are)))
      by false = nothing
  item_inside (Round s) one = stat_inside s one
  item_inside (Until at b e) one = each_bind Comes (value_of p here e) _ (λ v. by (is_true v))
    where
      by : (c : Bool) → Comes (Into (if c then [] else Do (Repeat at b e) ∷ []))
      by true = nothing
      by false = λ l rest e are. (subst (λ c. AllInside c b) (sym e) one, are)
  item_inside (Region ss) one = λ l rest e are. (one, are)
  item_inside End one = λ l rest e are. (tt, are)
  item_inside (Gives r) one = λ l rest e are. (tt, are)
