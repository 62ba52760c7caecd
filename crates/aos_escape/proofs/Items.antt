-- The items that remain in a frame stay such: what they use, each text may use, and they are well typed.
use Rattle.std.proofs.Common.{◌≡◌, inl, ℕ, List, [], ◌∷◌, ◌++◌, Bool, true, false, Option, Some, None, refl, sym, ◌∙◌, subst, append_assoc, append-nil}
use Rattle.std.specs.Prelude.{◌||◌, if◌then◌else◌}
use Rattle.std.specs.List.{list_any}
use Rattle.aos_base.specs.Number.{holds}
use Rattle.aos_base.specs.declared.number.Width.{Width}
use Rattle.aos_base.specs.declared.text.Pos.{Pos}
use Rattle.aos_base.specs.Question.{Val, Asks, Traps, bind, feed}
use Rattle.aos_base.specs.Rooted.{by_number}
use Rattle.aos_typed.specs.declared.tree.TType.TheVariants.{Integer}
use Rattle.aos_typed.specs.Conditions.{conditions, IsLinked, AreLinked, AreArmsLinked, AreCasesLinked}
use Rattle.aos_typed.specs.Program.{Place, Read, Stat, Assign, Copy, PutText, If, Case, While, Repeat, Loop, Exit, For, Block, Await, Assert, Halt, Change, Perform, Return, New, Make, With, WithRecord, Out, Stats, Nothing, Then, Arms, Otherwise, Arm, Cases, NoElse, Else, OfLabels, Call, Open, Char as CharCall, Int as IntCall, String, Ln, Program}
use Rattle.aos_typed.specs.Methods.{body_type, initializer}
use Rattle.aos_typed.specs.Routines.{Routine, routines}
use Rattle.aos_typed.specs.Store.{Store}
use Rattle.aos_typed.specs.Value.{Value, number_of, is_true}
use Rattle.aos_typed.specs.WellTyped.{IsStatement, AreStatements, AreArms, AreCases}
use Rattle.aos_typed.specs.Meaning.{Here, Doing, Item, Do, Rounds, Round, Until, Region, End, Gives, After, Into, Exits, Returns, leave, leave_all, items_of, block_items, body_items, is_in, place_of, rows_of, value_of, values_of, arguments_of, called, changed, case_of, arms_of, out_of, stat_of, item_of, initialized, carried_out, until, next_value}
use Rattle.aos_typed.specs.Source.{Frame, here_of}
use Rattle.aos_sim.proofs.Changes.{includes_itself}
use Rattle.aos_sim.proofs.Regions as leaves
use Rattle.aos_uses.specs.declared.uses.Use.{Use}
use Rattle.aos_uses.specs.declared.uses.Use.TheVariants.{Reads}
use Rattle.aos_uses.specs.declared.uses.Variable.{Variable}
use Rattle.aos_uses.specs.Guarded.{Each, IsGuarded, IsQuiet, Keeps, Spares}
use Rattle.aos_uses.specs.Uses.{arms_uses, cases_uses, expr_uses, place_uses, routine_uses, stat_uses, stats_uses, target, written}
use Rattle.aos_uses.proofs.Largest.{quiet_are}
use Rattle.aos_handover.specs.Kinds.{follow, so_far, IsNext, Stood, Followed, AnotherRound, Repeated, Behind, HasHad, Rests, Begins, GoesOn, Tested}
use Rattle.aos_escape.specs.Items.{has_mark, item_uses, IsText, IsFine, AreFine, ItemsFine}

-- Parts of lists of uses.

pub both : (R : Use → Type 0) (xs ys : List Use) → Each R xs → Each R ys → Each R (xs ++ ys)
both R [] ys a b = b
both R (x ∷ xs) ys a b = (a.0, both R xs ys a.1 b)

pub part : (R : Use → Type 0) (xs ys : List Use) → Each R (xs ++ ys) → Each R xs × Each R ys
part R [] ys h = (tt, h)
part R (x ∷ xs) ys h = let q = part R xs ys h.1 in ((h.0, q.0), q.1)

-- each value to which one piece after another comes
each_bind : {A B : Type 0} (P : B → Type 0) (d : Doing A) (k : A → Doing B) → ((a : A) → leaves.Each P (k a)) → leaves.Each P (bind d k)
each_bind P (Val a) k h = h a
each_bind P (Asks q f) k h = λ v. each_bind P (f v) k h
each_bind P (Traps n c) k h = tt

-- Marks among items.

pub mark_items : (ss : Stats) (rest : List Item) → has_mark (items_of ss ++ rest) ≡ has_mark rest
mark_items Nothing rest = refl
mark_items (Then s ss) rest = mark_items ss rest

module _ (p : Program) where
  -- each text of the program is fine
  fine_all : (n : ℕ) (r : Routine) (us : List Use) → ((v : Variable) → IsGuarded p v → Each (Spares p v n r) us) → Each (Keeps p (IsQuiet p) n) us → AreFine p n r us
  fine_all n r [] f k = tt
  fine_all n r (u ∷ us) f k = (record { spares = λ v g. (f v g).0; keeps = k.0 }, fine_all n r us (λ v g. (f v g).1) k.1)

  text_fine : (n : ℕ) (r : Routine) → by_number n (routines p) ≡ Some r → AreFine p n r (routine_uses p r)
  text_fine n r e = fine_all n r (routine_uses p r) (λ v g. g.1 n r e) ((quiet_are p).uses n r e)

  module _ (n : ℕ) (r : Routine) where
    abbrev F : Use → Type 0
    F = IsFine p n r

    -- statements of the routine
    abbrev AreText : Stats → Type 0
    AreText ss = AreStatements p r.own ss × AreLinked (conditions p) r.home r.own ss

    -- what follows an item, before others with such marks
    abbrev Follows : (exclusive : Bool) → After → Type 0
    Follows x (Into js) = (rest : List Item) → has_mark rest ≡ x → ItemsFine p n r rest → ItemsFine p n r (js ++ rest)
    Follows x Exits = Unit {0}
    Follows x (Returns v) = Unit {0}

    -- an item before these is fine with its uses
    one : (x : Bool) (i : Item) (rest : List Item) → has_mark rest ≡ x → AreFine p n r (item_uses p x i) → IsText p r i → ItemsFine p n r rest → ItemsFine p n r (i ∷ rest)
    one x i rest e h k fine = ((subst (λ y. AreFine p n r (item_uses p y i)) (sym e) h, k), fine)

    items_fine : (x : Bool) (ss : Stats) → AreFine p n r (stats_uses p x ss) → AreText ss → (rest : List Item) → has_mark rest ≡ x → ItemsFine p n r rest → ItemsFine p n r (items_of ss ++ rest)
    items_fine x Nothing h k rest e fine = fine
    items_fine x (Then s ss) h k rest e fine =
        let q = part F (stat_uses p x s) (stats_uses p x ss) h in
        one x (Do s) (items_of ss ++ rest) (mark_items ss rest ∙ e) q.0 (k.0.0, k.1.0) (items_fine x ss q.1 (k.0.1, k.1.1) rest e fine)

    -- statements before one more item
    then_one : (x : Bool) (ss : Stats) (i : Item) → AreFine p n r (stats_uses p x ss) → AreText ss → AreFine p n r (item_uses p x i) → IsText p r i → ((rest : List Item) → has_mark (i ∷ rest) ≡ has_mark rest) → (rest : List Item) → has_mark rest ≡ x → ItemsFine p n r rest → ItemsFine p n r ((items_of ss ++ i ∷ []) ++ rest)
    then_one x ss i h k j t plain rest e fine =
        subst (ItemsFine p n r) (sym (append_assoc (items_of ss) (i ∷ []) rest)) (items_fine x ss h k (i ∷ rest) (plain rest ∙ e) (one x i rest e j t fine))

    block_fine : (x exclusive : Bool) (ss : Stats) → AreFine p n r (stats_uses p (exclusive || x) ss) → AreText ss → (rest : List Item) → has_mark rest ≡ x → ItemsFine p n r rest → ItemsFine p n r (block_items exclusive ss ++ rest)
    block_fine x true ss h k rest e fine = ((h, k), fine)
    block_fine x false ss h k rest e fine = items_fine x ss h k rest e fine

    pub body_fine : by_number n (routines p) ≡ Some r → AreText r.body.statements → ItemsFine p n r (body_items r.body)
    body_fine there k = by r.body.is_exclusive (text_fine n r there)
      where
        by : (exclusive : Bool) → AreFine p n r (stats_uses p exclusive r.body.statements) → ItemsFine p n r (block_items exclusive r.body.statements)
        by true h = ((h, k), tt)
        by false h = subst (ItemsFine p n r) (append-nil (items_of r.body.statements)) (items_fine false r.body.statements h k [] refl tt)

    -- an EXIT and a RETURN
    leave_fine : (is : List Item) → ItemsFine p n r is → ItemsFine p n r (leave is)
    leave_fine [] h = tt
    leave_fine (Do s ∷ is) h = leave_fine is h.1
    leave_fine (Rounds at w q last step b ∷ is) h = leave_fine is h.1
    leave_fine (Round s ∷ is) h = h.1
    leave_fine (Until at b e ∷ is) h = leave_fine is h.1
    leave_fine (Region ss ∷ is) h = leave_fine is h.1
    leave_fine (End ∷ is) h = ((tt, tt), leave_fine is h.1)
    leave_fine (Gives v ∷ is) h = ((tt, tt), tt)

    leave_all_fine : (v : Option Value) (is : List Item) → ItemsFine p n r is → ItemsFine p n r (leave_all v is)
    leave_all_fine v [] h = ((tt, tt), tt)
    leave_all_fine v (Do s ∷ is) h = leave_all_fine v is h.1
    leave_all_fine v (Rounds at w q last step b ∷ is) h = leave_all_fine v is h.1
    leave_all_fine v (Round s ∷ is) h = leave_all_fine v is h.1
    leave_all_fine v (Until at b e ∷ is) h = leave_all_fine v is h.1
    leave_all_fine v (Region ss ∷ is) h = leave_all_fine v is h.1
    leave_all_fine v (End ∷ is) h = ((tt, tt), leave_all_fine v is h.1)
    leave_all_fine v (Gives u ∷ is) h = ((tt, tt), tt)

    -- past the entry of a region
    pub entry_fine : (ss : Stats) (is : List Item) → ItemsFine p n r (Region ss ∷ is) → ItemsFine p n r (items_of ss ++ End ∷ is)
    entry_fine ss is h = items_fine true ss h.0.0 h.0.1 (End ∷ is) refl ((tt, tt), h.1)

    module _ (here : Here) where
      abbrev Leads : Bool → Doing After → Type 0
      Leads x d = leaves.Each (Follows x) d

      case_leads : (x : Bool) (z : _) (cases : Cases) → AreFine p n r (cases_uses p x cases) → AreCases p r.own cases → AreCasesLinked (conditions p) r.home r.own cases → Leads x (case_of z cases)
      case_leads x z NoElse h k l = tt
      case_leads x z (Else ss) h k l = items_fine x ss h (k, l)
      case_leads x z (OfLabels rs ss cases) h k l =
          let q = part F (stats_uses p x ss) (cases_uses p x cases) h in by (list_any (is_in z) rs) q.0 (case_leads x z cases q.1 k.2 l.1)
        where
          by : (b : Bool) → AreFine p n r (stats_uses p x ss) → Leads x (case_of z cases) → Leads x (if b then Val (Into (items_of ss)) else case_of z cases)
          by true j more = items_fine x ss j (k.1, l.0)
          by false j more = more

      arms_lead : (x : Bool) (arms : Arms) → AreFine p n r (arms_uses p x arms) → AreArms p r.own arms → AreArmsLinked (conditions p) r.home r.own arms → Leads x (arms_of p here arms)
      arms_lead x (Otherwise ss) h k l = items_fine x ss h (k, l)
      arms_lead x (Arm e ss arms) h k l =
          let q = part F (expr_uses p e ++ stats_uses p x ss) (arms_uses p x arms) h in
          let j = part F (expr_uses p e) (stats_uses p x ss) q.0 in
          let others = arms_lead x arms q.1 k.2 l.1 in
          each_bind (Follows x) (value_of p here e) _ (λ v. by (is_true v) j.1 others)
        where
          by : (b : Bool) → AreFine p n r (stats_uses p x ss) → Leads x (arms_of p here arms) → Leads x (if b then Val (Into (items_of ss)) else arms_of p here arms)
          by true j more = items_fine x ss j (k.1, l.0)
          by false j more = more

      -- nothing more follows
      none : (x : Bool) → Follows x (Into [])
      none x rest e fine = fine

      out_leads : (x : Bool) (call : Call) → Leads x (out_of p here call)
      out_leads x Open = λ v. none x
      out_leads x (CharCall e) = each_bind (Follows x) (value_of p here e) _ (λ y v. none x)
      out_leads x (IntCall e m) = each_bind (Follows x) (value_of p here e) _ (λ y. each_bind (Follows x) (value_of p here m) _ (λ z v. none x))
      out_leads x (String a) = each_bind (Follows x) (rows_of p here a) _ (λ y v. none x)
      out_leads x Ln = λ v. none x

      stat_leads : (x : Bool) (s : Stat) → AreFine p n r (stat_uses p x s) → IsStatement p r.own s → IsLinked (conditions p) r.home r.own s → Leads x (stat_of p here s)
      stat_leads x (Assign at t q e) h k l = each_bind (Follows x) (place_of p here q) _ (λ s. each_bind (Follows x) (value_of p here e) _ (λ y v. none x))
      stat_leads x (Copy at t q a) h k l = each_bind (Follows x) (place_of p here q) _ (λ s. each_bind (Follows x) (place_of p here a) _ (λ y v. none x))
      stat_leads x (PutText at strict a b) h k l = each_bind (Follows x) (rows_of p here a) _ (λ s. each_bind (Follows x) (rows_of p here b) _ (λ y v. none x))
      stat_leads x (If at arms) h k l = arms_lead x arms h k l
      stat_leads x (Case at e cases) h k l =
          let q = part F (expr_uses p e) (cases_uses p x cases) h in
          each_bind (Follows x) (value_of p here e) _ (λ v. case_leads x (number_of v) cases q.1 k.2 l)
      stat_leads x (While at e body) h k l =
          let q = part F (expr_uses p e) (stats_uses p x body) h in each_bind (Follows x) (value_of p here e) _ (λ v. by (is_true v) q.1)
        where
          by : (b : Bool) → AreFine p n r (stats_uses p x body) → Follows x (Into (if b then items_of body ++ Do (While at e body) ∷ [] else []))
          by true j = then_one x body (Do (While at e body)) j (k.1, l) h (k, l) (λ rest. refl)
          by false j = none x
      stat_leads x (Repeat at body e) h k l =
          let q = part F (expr_uses p e) (stats_uses p x body) h in then_one x body (Until at body e) q.1 (k.0, l) h (k, l) (λ rest. refl)
      stat_leads x (Loop at body) h k l = then_one x body (Round (Loop at body)) h (k, l) h (k, l) (λ rest. refl)
      stat_leads x (Exit at) h k l = tt
      stat_leads x (For at w q from to step body) h k l =
          let i = part F (written p x q ++ (expr_uses p from ++ expr_uses p to)) (stats_uses p x body) h in
          let j = part F (written p x q) (expr_uses p from ++ expr_uses p to) i.0 in
          let m = part F (expr_uses p from) (expr_uses p to) j.1 in
          each_bind (Follows x) (value_of p here to) _ (λ v rest e fine.
          let later = one x (Rounds at w q (number_of v) step body) rest e (both F (written p x q) (stats_uses p x body) j.0 i.1) ((k.1, k.4, k.5), l) fine in
          one x (Do (Assign at (Integer w) q from)) (Rounds at w q (number_of v) step body ∷ rest) e (both F (written p x q) (expr_uses p from) j.0 m.0) ((k.1, refl, k.2), tt) later)
      stat_leads x (Block at exclusive body) h k l = block_fine x exclusive body h (k, l)
      stat_leads x (Await at m e) h k l = λ v. none x
      stat_leads x (Assert at e code) h k l = each_bind (Follows x) (value_of p here e) _ (λ v. by (is_true v))
        where
          by : (b : Bool) → Leads x (if b then Val (Into []) else Traps 7 code)
          by true = none x
          by false = tt
      stat_leads x (Halt at code) h k l = tt
      stat_leads x (Change at c q e) h k l =
          each_bind (Follows x) (place_of p here q) _ (λ s. each_bind (Follows x) (value_of p here e) _ (λ m v. each_bind (Follows x) (changed c v m) _ (λ y w. none x)))
      stat_leads x (Perform at c more) h k l = each_bind (Follows x) (called p here c more) _ (λ v. none x)
      stat_leads x (Return at None) h k l = tt
      stat_leads x (Return at (Some e)) h k l = each_bind (Follows x) (value_of p here e) _ (λ v. tt)
      stat_leads x (New at q t more) h k l =
          each_bind (Follows x) (place_of p here q) _ (λ s. each_bind (Follows x) (arguments_of p here more) _ (λ vs o.
          each_bind (Follows x) (initialized p (initializer p t) t o vs) _ (λ y z. each_bind (Follows x) (carried_out p (body_type p t) o) _ (λ w. none x))))
      stat_leads x (Make at q t ns) h k l =
          each_bind (Follows x) (place_of p here q) _ (λ s. each_bind (Follows x) (values_of p here ns) _ (λ vs o v. none x))
      stat_leads x (With at e body) h k l =
          let q = part F (expr_uses p e) (stats_uses p x body) h in each_bind (Follows x) (value_of p here e) _ (λ v. items_fine x body q.1 (k.1, l))
      stat_leads x (WithRecord at a body) h k l =
          let q = part F (place_uses p a) (stats_uses p x body) h in each_bind (Follows x) (place_of p here a) _ (λ v. items_fine x body q.1 (k.1, l))
      stat_leads x (Out at call) h k l = out_leads x call

      -- FOR's step
      step_fine : (x : Bool) (at : Pos) (w : Width) (q : Place) (step : _) → AreFine p n r (written p x q) → AreFine p n r (stat_uses p x (next_value at w q step))
      step_fine x at w q step h = both F (written p x q) (Reads (target p q) ∷ place_uses p q) h (record { spares = λ v g. tt; keeps = tt }, h.1)

      item_leads : (x : Bool) (i : Item) → AreFine p n r (item_uses p x i) → IsText p r i → Leads x (item_of p here i)
      item_leads x (Do s) h k = stat_leads x s h k.0 k.1
      item_leads x (Rounds at w q last step b) h k =
          let i = part F (written p x q) (stats_uses p x b) h in
          each_bind {A = Value} (Follows x) (value_of p here (Read (Integer w) q))
          (λ v. Val (Into (if holds (until step) (number_of v) last then items_of b ++ Do (next_value at w q step) ∷ Rounds at w q last step b ∷ [] else [])))
          (λ v. by (holds (until step) (number_of v) last) i.0 i.1)
        where
          by : (c : Bool) → AreFine p n r (written p x q) → AreFine p n r (stats_uses p x b) → Follows x (Into (if c then items_of b ++ Do (next_value at w q step) ∷ Rounds at w q last step b ∷ [] else []))
          by true i j rest e fine =
              let again = one x (Rounds at w q last step b) rest e h k fine in
              let typed : IsStatement p r.own (next_value at w q step) = (k.0.0, refl, (((k.0.0, refl, inl (includes_itself w)), inl k.0.1), includes_itself w)) in
              let next = one x (Do (next_value at w q step)) (Rounds at w q last step b ∷ rest) e (step_fine x at w q step i) (typed, tt) again in
              subst (ItemsFine p n r) (sym (append_assoc (items_of b) (Do (next_value at w q step) ∷ Rounds at w q last step b ∷ []) rest))
              (items_fine x b j (k.0.2, k.1) (Do (next_value at w q step) ∷ Rounds at w q last step b ∷ rest) e next)
          by false i j rest e fine = fine
      item_leads x (Round s) h k = stat_leads x s h k.0 k.1
      item_leads x (Until at b e) h k = each_bind (Follows x) (value_of p here e) _ (λ v. by (is_true v))
        where
          by : (c : Bool) → Follows x (Into (if c then [] else Do (Repeat at b e) ∷ []))
          by true rest same fine = none x rest same fine
          by false rest same fine = one x (Do (Repeat at b e)) rest same h k fine
      item_leads x (Region ss) h k = λ rest same fine. one x (Region ss) rest same h k fine
      item_leads x End h k = λ rest same fine. ((tt, tt), fine)
      item_leads x (Gives v) h k = λ rest same fine. ((tt, tt), fine)

    -- What is next in a turn.

    follow_fine : (after : After) (rest : List Item) → Follows (has_mark rest) after → ItemsFine p n r rest → ItemsFine p n r (follow after rest)
    follow_fine (Into js) rest h fine = h rest refl fine
    follow_fine Exits rest h fine = leave_fine rest fine
    follow_fine (Returns v) rest h fine = leave_all_fine v rest fine

    come_fine : (here : Here) (i : Item) (is : List Item) (vs : List Value) (after : After) → feed vs (item_of p here i) ≡ Val after → ItemsFine p n r (i ∷ is) → ItemsFine p n r (follow after is)
    come_fine here i is vs after come h =
        let x = has_mark is in
        let all = leaves.each_fed (Follows x) vs (item_of p here i) (item_leads here x i h.0.0 h.0.1) in
        follow_fine after is (subst (leaves.Each (Follows x)) come all) h.1

    pub next_fine : (s : Store) (f : Frame) (fs : List Frame) (is : List Item) → IsNext p s f fs is → ItemsFine p n r f.items → ItemsFine p n r is
    next_fine s f fs _ (Stood none) h = h
    next_fine s f fs _ (Followed i is vs after e had come) h = come_fine (here_of f fs) i is (so_far p s f fs i vs) after come (subst (ItemsFine p n r) e h)
    next_fine s f fs _ (AnotherRound st is next) h = next_fine s f fs (Round st ∷ is) next h
    next_fine s f fs _ (Repeated at b e is v next come t) h = let i = next_fine s f fs (Until at b e ∷ is) next h in i
    next_fine s f fs _ (Behind at b e is v next come t) h = (next_fine s f fs (Until at b e ∷ is) next h).1

    pub had_fine : (s : Store) (f : Frame) (fs : List Frame) (is : List Item) (a : Option (List Value)) → HasHad p s f fs is a → ItemsFine p n r f.items → ItemsFine p n r is
    had_fine s f fs _ _ (Rests is next) h = next_fine s f fs is next h
    had_fine s f fs _ _ (Begins i is next) h = next_fine s f fs (i ∷ is) next h
    had_fine s f fs _ _ (GoesOn i is vs e had) h = subst (ItemsFine p n r) e h
    had_fine s f fs _ _ (Tested at b e is next) h = next_fine s f fs (Until at b e ∷ is) next h
