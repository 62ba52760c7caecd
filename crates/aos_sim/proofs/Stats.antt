-- The code of statements without statements in them does what the statement does, and what is left of a body is carried out from the
-- place that it leaves.
use Rattle.std.proofs.Common.{◌≡◌, ◌≢◌, inl, inr, ℕ, ℤ, suc, pos, ◌+◌, ◌<◌, ◌≤◌, ◌-◌, zero, Bool, true, false, Option, List, [], ◌∷◌, ◌++◌, length, drop, Some, None, if◌then◌else◌, refl, sym, ap, ◌∙◌, subst, arith, append-nil, append_assoc, length-append}
use Rattle.std.specs.Prelude.{option_map}
use Rattle.std.proofs.lemmas.Bool.{le-ltb, lt-ltb}
use Rattle.std.proofs.lemmas.List.{drop-drop}
use Rattle.aos_base.specs.declared.number.Width.TheVariants.{W64}
use Rattle.aos_base.specs.declared.text.Pos.{Pos}
use Rattle.aos_base.specs.Operators.{flag}
use Rattle.aos_base.specs.Question.{Val, Asks, Traps, bind, ask, Stores, Awaits, Copies, PutsText, Ends, PutsInt, PutsChar, PutsString, PutsNothing, PutsLn}
use Rattle.aos_types.specs.Table.{row_of}
use Rattle.aos_types.specs.World.{World}
use Rattle.aos_typed.specs.declared.tree.TType.{TType}
use Rattle.aos_typed.specs.declared.tree.TType.TheVariants as type
use Rattle.aos_typed.specs.Program.{Place, Rows, Arguments, Callee, Expr, Call, Open as OutOpen, Char as OutChar, Int as OutInt, String as OutString, Ln as OutLn, Stat, Assign, Copy, PutText, If, Case, While, Repeat, Loop, Exit, For, Block, Await, Assert, Halt, Change, Perform, Return, New, Make, With, WithRecord, Out, Stats, Body, Procedure, Program}
use Rattle.aos_typed.specs.Numbers.{id_of}
use Rattle.aos_typed.specs.Routines.{result_of}
use Rattle.aos_typed.specs.Sort.{Sort, Plain, variable_shape}
use Rattle.aos_typed.specs.Location.{Location}
use Rattle.aos_typed.specs.Value.{Value, Int, Flag, is_true}
use Rattle.aos_typed.specs.Meaning as source
use Rattle.aos_typed.specs.Meaning.{Here, Doing, Found, text_length, Item, After, Into, Returns, leave, leave_all, items_of, block_items, body_items, place_of, rows_of, value_of, called as called_of, stat_of, out_of, pos_of}
use Rattle.aos_types.specs.Shape.{Shape, join}
use Rattle.aos_types.specs.Content.{EachSort}
use Rattle.aos_typed.specs.Typing.{Is, IsPlain}
use Rattle.aos_sim.proofs.Parts.{each_rest}
use Rattle.aos_typed.specs.Conditions.{Condition, conditions, AreLinked}
use Rattle.aos_typed.specs.WellTyped.{is_value, NamesType, IsReturn, AreStatements}
use Rattle.aos_layout.specs.Layout.{kind_of as cell_kind}
use Rattle.aos_code.specs.declared.instr.Cell.{Cell}
use Rattle.aos_code.specs.declared.instr.Cell.TheVariants.{Num}
use Rattle.aos_code.specs.declared.instr.Instr.{Instr}
use Rattle.aos_code.specs.declared.instr.Instr.TheVariants as i
use Rattle.aos_code.specs.declared.instr.Kind.{Kind}
use Rattle.aos_code.specs.declared.instr.Kind.TheVariants.{N}
use Rattle.aos_code.specs.Numbered.{numbered}
use Rattle.aos_code.specs.Silent.{Stack, Keeps, keeps_in, kept, is_of, jumps, lands}
use Rattle.aos_sim.specs.Cells.{place_in, cell_of}
use Rattle.aos_sim.specs.Code.{begin, kind_of, cells_of, place_code, rows_code, operands_code, value_code, called_code, Within, NoRegion, AroundLoop, InLoop, Ways, block_within, block_ways, body_ways, block_at, block_code, exit_code, return_code, stat_code, stats_code, statements_code, end_code, body_code}
use Rattle.aos_sim.specs.Need.{keeps_of}
use Rattle.aos_sim.proofs.Runs.{Run, Onward, Tables, AtBegin, on_run, runs, run, drop_next, drop_past, get_at}
use Rattle.aos_sim.proofs.Types.{number_cell, is_integer, is_character}
use Rattle.aos_sim.proofs.Does.{HasTypes, HasShapes, Knows, addr_of, placed, IsResult, Valid, Does, along, does_bind}
use Rattle.aos_sim.proofs.References.{stored_kind}
use Rattle.aos_sim.proofs.Evaluates.{OfType, number_in, OfSort, pushed, Brings, ComesTo, Remain, Stays, front_does, piece_does, two_do, values_stay, operand_does}
use Rattle.aos_sim.proofs.Designators.{IsFound, holds_whole, holds_extension, IsText, IsRoom, text_cells, places_stay, texts_remain}
use Rattle.aos_sim.proofs.Exprs.{scalar_found, place_does, arguments_do, called_do, yields_do, value_does, text_found, room_found}
use Rattle.aos_sim.proofs.Called.{kind_of_value}
use Rattle.aos_sim.proofs.Sends.{answer_cells, Answered}
use Rattle.aos_sim.proofs.Shortcuts.{by_flag}
use Rattle.aos_sim.proofs.Sizes.{block_alike, stats_length}
use Rattle.aos_sim.proofs.Carries.{Stands, Same, IsOwn, AtEnd, HasStatement, HasStatements, HasRegion, Carries, bound, returned, GoesOn, GivesBack, Returning, Behind, outside, leaving, leave_all_is, carries_all, StatementDoes}
use Rattle.aos_sim.proofs.Stash.{keeps_one, takes_one}

module _ (program : Program) (own : Option Procedure) (tables : Tables) (number : ℕ) (here : Here) (code : List Instr) where
  abbrev onward : List Instr → Onward
  onward = runs tables number here code

  abbrev from : ℕ → Keeps → Stack → Run
  from = run tables number here code

  abbrev Leaves : List Item → World Sort → After → Run → Type 0
  Leaves = Behind program own tables number here code

  pub from_here : (at : ℕ) (xs : List Instr) (k : Keeps) (s : Stack) → drop at code ≡ xs → run tables number here code at k s ≡ runs tables number here code xs 0 at k s
  from_here at xs k s e = ap (λ l. onward l 0 at k s) e

  -- passing over instructions
  skips : (n p : ℕ) (rest : List Instr) (k : Keeps) (s : Stack) → drop p code ≡ rest → onward rest n p k s ≡ from (p + n) k s
  skips zero p rest k s e = let z : p ≡ p + 0 = omega arith in sym (from_here p rest k s e) ∙ ap (λ m. from m k s) z
  skips (suc n) p [] k s e = sym (from_here (p + suc n) [] k s (sym (drop-drop (suc n) p code) ∙ ap (drop (suc n)) e))
  skips (suc n) p (x ∷ rest) k s e =
      let z : p + 1 + n ≡ p + suc n = omega arith in
      skips n (p + 1) rest k s (drop_next p code x rest e) ∙ ap (λ m. from m k s) z

  -- a jump forward, or back to a Begin, goes on there
  pub jumps_on : (rest : List Instr) (to at : ℕ) (k : Keeps) (s : Stack) → at < to → drop (at + 1) code ≡ rest → on_run tables (jumps code to at s) (runs tables number here code rest) at k ≡ run tables number here code to k s
  jumps_on rest to at k s lt e =
      let n = to - (at + 1) in
      let z : at + 1 + n ≡ to = omega (arith, lt) in
      rw (lt-ltb at to lt) (skips n (at + 1) rest k s e ∙ ap (λ m. from m k s) z)

  pub jumps_back : (to p : ℕ) (there : Pos) (rest xs : List Instr) (k : Keeps) (s : Stack) → to ≤ p → drop to code ≡ begin there ∷ xs → on_run tables (jumps code to p s) (runs tables number here code rest) p k ≡ run tables number here code to k s
  jumps_back to p there rest xs k s le e =
      rw (le-ltb p to le) (ap (λ o. on_run tables (lands o to s) (onward rest) p k) (get_at to code (begin there) xs e) ∙ sym (from_here to (begin there ∷ xs) k s e))

  -- a number is kept, and taken
  pub keeps_number : (c : ℕ) (z : ℤ) (rest : List Instr) (p : ℕ) (k : Keeps) (s : Stack) → c < keeps_in (numbered tables.procedures number) → runs tables number here code (i.Keep c N ∷ rest) 0 p k (Num z ∷ s) ≡ runs tables number here code rest 0 (p + 1) (kept c (Num z) k) s
  keeps_number c z rest p k s lt = keeps_one tables number here code c N (Num z) rest p k s (omega (arith, lt)) refl

  pub takes_number : (c : ℕ) (z : ℤ) (rest : List Instr) (p : ℕ) (k : Keeps) (s : Stack) → c < keeps_in (numbered tables.procedures number) → k c ≡ Num z → runs tables number here code (i.Kept c N ∷ rest) 0 p k s ≡ runs tables number here code rest 0 (p + 1) k (Num z ∷ s)
  takes_number c z rest p k s lt e = takes_one tables number here code c N (Num z) rest p k s (omega (arith, lt)) refl e

  -- what the code comes to where no item is left
  pub ends : IsOwn program own tables number → (m : Run) → GoesOn program own tables number here code [] m → AtEnd (result_of own) m
  ends is m o =
      let c = o.carries in
      by (result_of own) refl (o.runs ∙ c.2 o.keeps [] ∙ from_here c.0 (end_code program own ++ c.3.rest) o.keeps [] c.3.here)
    where
      by : (r : Option TType) → result_of own ≡ r → m ≡ onward (end_code program own ++ o.carries.3.rest) 0 o.carries.0 o.keeps [] → AtEnd r m
      by None e h =
          let none : is.0.result ≡ None = is.2 ∙ ap (option_map (λ t. cell_kind program.types (id_of t))) e in
          ((λ x. Traps 0 0), h ∙ rw (e, is.1, none) refl)
      by (Some t) e h = h ∙ rw e refl

  -- statements of a body, which are a region where it is exclusive, behind which its end stands; an EXIT that stands in no LOOP leads
  -- there
  body_carried : (exclusive : Bool) (ss : Stats) (x : ℕ) (k : Keeps) → AreStatements program own ss → (home : ℕ) → AreLinked (conditions program) home own ss → keeps_of ss ≤ keeps_in (numbered tables.procedures number) →
      (let cs = block_code exclusive (stats_code program own ss (block_at exclusive 0) (body_ways exclusive x) 0) in code ≡ cs ++ end_code program own → x ≡ length cs → GoesOn program own tables number here code (block_items exclusive ss) (run tables number here code 0 k []))
  body_carried false ss x k ok home links holds is len =
      let cs = stats_code program own ss 0 (body_ways false x) 0 in
      let last = end_code program own in
      let none : 0 + length cs ≡ length cs = omega arith in
      let has : HasStatements program own tables number here code ss 0 (body_ways false x) 0 = record { stands = record { rest = last; here = is }; typed = ok; home = home; linked = links; holds = holds } in
      let end : Stands code (0 + length cs) last = record { rest = []; here = drop_past cs 0 code last is ∙ sym (append-nil last) } in
      let exit : Stands code x last = subst (λ n. Stands code n last) (none ∙ sym len) end in
      let all = carries_all program own tables number here code ss 0 (body_ways false x) 0 k [] has (0 + length cs, omega (arith, len), (λ k s. refl), end, exit, refl) in
      record { at = 0; ways = body_ways false x; level = 0; keeps = k; runs = refl; carries = subst (λ is. Carries program own tables number here code is 0 (body_ways false x) 0 k) (append-nil (items_of ss)) all }
  body_carried true ss x k ok home links holds is len =
      let b = stats_code program own ss 1 (body_ways true x) 0 in
      let cs = i.Enter ∷ (b ++ i.Leave ∷ []) in
      let last = end_code program own in
      let plain = body_ways false x in
      let has : HasRegion program own tables number here code ss 0 plain 0 = record { stands = record { rest = last; here = is }; typed = ok; home = home; linked = links; holds = holds } in
      let none : 0 + length cs ≡ length cs = omega arith in
      let end : Stands code (0 + length cs) last = record { rest = []; here = drop_past cs 0 code last is ∙ sym (append-nil last) } in
      let exit : Stands code x last = subst (λ n. Stands code n last) (none ∙ sym len) end in
      record { at = 0; ways = plain; level = 0; keeps = k; runs = refl; carries = (0, omega arith, (λ k s. refl), has, (0 + length cs, omega (arith, len), (λ k s. refl), end, exit, refl)) }

  pub body_goes : (b : Body) (k : Keeps) → AreStatements program own b.statements → (home : ℕ) → AreLinked (conditions program) home own b.statements → keeps_of b.statements ≤ keeps_in (numbered tables.procedures number) → code ≡ body_code program own b → GoesOn program own tables number here code (body_items b) (run tables number here code 0 k [])
  body_goes b k ok home links holds is =
      let e = b.is_exclusive in
      let ss = b.statements in
      let x = length (statements_code program own b 0) in
      let u = block_within e NoRegion in
      body_carried e ss x k ok home links holds is (block_alike e _ _ (stats_length program own ss (block_at e 0) u 0 x 0))

  -- a statement's code begins with its Begin
  pub begins_with : (s : Stat) (at : ℕ) (x : Ways) (d : ℕ) (k : Keeps) → Stands code at (stat_code program own s at x d) → run tables number here code at k [] ≡ Val (AtBegin at (pos_of s) k [])
  begins_with (Assign there t p e) at x d k st = ap (λ l. onward l 0 at k []) st.here
  begins_with (Copy there t p q) at x d k st = ap (λ l. onward l 0 at k []) st.here
  begins_with (PutText there strict a b) at x d k st = ap (λ l. onward l 0 at k []) st.here
  begins_with (If there arms) at x d k st = ap (λ l. onward l 0 at k []) st.here
  begins_with (Case there e cases) at x d k st = ap (λ l. onward l 0 at k []) st.here
  begins_with (While there e b) at x d k st = ap (λ l. onward l 0 at k []) st.here
  begins_with (Repeat there b e) at x d k st = ap (λ l. onward l 0 at k []) st.here
  begins_with (Loop there b) at x d k st = ap (λ l. onward l 0 at k []) st.here
  begins_with (Exit there) at x d k st = ap (λ l. onward l 0 at k []) st.here
  begins_with (For there w p first last step b) at x d k st = ap (λ l. onward l 0 at k []) st.here
  begins_with (Block there exclusive b) at x d k st = ap (λ l. onward l 0 at k []) st.here
  begins_with (Await there n e) at x d k st = ap (λ l. onward l 0 at k []) st.here
  begins_with (Assert there e c) at x d k st = ap (λ l. onward l 0 at k []) st.here
  begins_with (Halt there c) at x d k st = ap (λ l. onward l 0 at k []) st.here
  begins_with (Change there c p e) at x d k st = ap (λ l. onward l 0 at k []) st.here
  begins_with (Perform there c more) at x d k st = ap (λ l. onward l 0 at k []) st.here
  begins_with (Return there None) at x d k st = ap (λ l. onward l 0 at k []) st.here
  begins_with (Return there (Some e)) at x d k st = ap (λ l. onward l 0 at k []) st.here
  begins_with (Make there p t ns) at x d k st = ap (λ l. onward l 0 at k []) st.here
  begins_with (With there e b) at x d k st = ap (λ l. onward l 0 at k []) st.here
  begins_with (WithRecord there p b) at x d k st = ap (λ l. onward l 0 at k []) st.here
  begins_with (New there p t more) at x d k st = ap (λ l. onward l 0 at k []) st.here
  begins_with (Out there call) at x d k st = ap (λ l. onward l 0 at k []) st.here

  module _ (x : Ways) (d : ℕ) (k : Keeps) (after : List Item) where
    abbrev Carried : ℕ → Type 0
    Carried p = Carries program own tables number here code after p x d k

    -- a statement that is done, at a place
    pub goes_on : (p : ℕ) (rest : List Instr) → drop p code ≡ rest → Carries program own tables number here code after p x d k → GoesOn program own tables number here code after (runs tables number here code rest 0 p k [])
    goes_on p rest e c = record { at = p; ways = x; level = d; keeps = k; runs = sym (from_here p rest k [] e); carries = c }

    -- the statement's last instruction asks, and with the answer the statement is done
    pub last_asks : (q : source.Question) (w : World Sort) (m : Run) (p : ℕ) (rest : List Instr) → m ≡ Asks (placed program w q) (λ x. runs tables number here code rest 0 (p + 1) k []) → Valid program here w q → drop (p + 1) code ≡ rest → Carries program own tables number here code after (p + 1) x d k → Does program here (Behind program own tables number here code after) w m (bind (ask q) (λ _. Val (Into [])))
    last_asks q w m p rest e ok there c = ((λ x. onward rest 0 (p + 1) k []), e, ok, λ w' up v a. goes_on (p + 1) rest there c)

    -- a value above the place that it's stored at
    pub store_asks : HasTypes program → (t : TType) (w : World Sort) (a : Location) (rest : List Instr) (p : ℕ) (v : Value) → is_value program.types t ≡ true → Is program w (Plain (id_of t)) v → runs tables number here code (i.Store (kind_of program.types t) ∷ rest) 0 p k (cell_of w v ∷ (place_in w a ∷ [])) ≡ Asks (placed program w (Stores a v)) (λ x. runs tables number here code rest 0 (p + 1) k [])
    store_asks typed t w a rest p v value is = rw (stored_kind program typed.predeclared t value w v is) refl

    -- a statement whose code comes to two operands and does its work with its last instruction, which asks
    two_ask : {A B : Type 0} (P : World Sort → A → Type 0) (c : World Sort → A → List Cell) (G : World Sort → B → Type 0) (d : World Sort → B → List Cell) (x : Instr) (q : A → B → source.Question) (ca cb : List Instr) (ra : Doing A) (rb : Doing B) (there : Pos) (w : World Sort) (at : ℕ) → Remain program own tables number here code P c → Knows program own here w → Stands code at (begin there ∷ operands_code ca cb x) → Carried (at + suc (length (operands_code ca cb x))) → Brings program own tables number here code P c ca ra (at + 1) → Brings program own tables number here code G d cb rb (at + 1 + length ca) → ((w' : World Sort) (a : A) (b : B) → P w' a → G w' b → Valid program here w' (q a b) × ((rest : List Instr) (p : ℕ) → onward (x ∷ rest) 0 p k (pushed (d w' b) (pushed (c w' a) [])) ≡ Asks (placed program w' (q a b)) (λ y. onward rest 0 (p + 1) k []))) → Does program here (Leaves after) w (from (at + 1) k []) (bind ra (λ a. bind rb (λ b. bind (ask (q a b)) (λ _. Val (Into [])))))
    two_ask {A = A} {B = B} P c G d x q ca cb ra rb there w at stays known st cont ha hb asks =
        let xs = operands_code ca cb x in
        let p = at + 1 + length ca + length cb in
        let flat : xs ++ st.rest ≡ ca ++ (cb ++ (x ∷ st.rest)) = simp append_assoc in
        let h1 : drop (at + 1) code ≡ xs ++ st.rest = drop_next at code (begin there) (xs ++ st.rest) st.here in
        let h2 : drop p code ≡ x ∷ st.rest = drop_past cb (at + 1 + length ca) code (x ∷ st.rest) (drop_past ca (at + 1) code (cb ++ (x ∷ st.rest)) (h1 ∙ flat)) in
        let len : at + suc (length xs) ≡ p + 1 = omega (arith, length-append ca (cb ++ x ∷ []), length-append cb (x ∷ [])) in
        let does : A → B → Doing After = λ a b. bind (ask (q a b)) (λ _. Val (Into [])) in
        along program here (Leaves after) w _ _ (bind ra (λ a. bind rb (λ b. does a b))) (from_here (at + 1) (xs ++ st.rest) k [] h1)
        (two_do program own tables number here code P c G d (Leaves after) x does ca cb ra rb (at + 1) st.rest k [] stays ha hb w known
        (λ w' a b m ia ib e. let h = asks w' a b ia ib in
        last_asks (q a b) w' m p st.rest (e ∙ h.1 st.rest p) h.0 (drop_next p code x st.rest h2) (subst Carried len cont)))

    -- where each operand has one cell
    pair_asks : {A B : Type 0} (P : World Sort → A → Type 0) (c : World Sort → A → Cell) (G : World Sort → B → Type 0) (d : World Sort → B → Cell) (x : Instr) (q : A → B → source.Question) (ca cb : List Instr) (ra : Doing A) (rb : Doing B) (there : Pos) (w : World Sort) (at : ℕ) → Stays program own tables number here code P c → Knows program own here w → Stands code at (begin there ∷ operands_code ca cb x) → Carried (at + suc (length (operands_code ca cb x))) → ComesTo program own tables number here code P c ca ra (at + 1) → ComesTo program own tables number here code G d cb rb (at + 1 + length ca) → ((w' : World Sort) (a : A) (b : B) → P w' a → G w' b → Valid program here w' (q a b) × ((rest : List Instr) (p : ℕ) → onward (x ∷ rest) 0 p k (d w' b ∷ (c w' a ∷ [])) ≡ Asks (placed program w' (q a b)) (λ y. onward rest 0 (p + 1) k []))) → Does program here (Leaves after) w (from (at + 1) k []) (bind ra (λ a. bind rb (λ b. bind (ask (q a b)) (λ _. Val (Into [])))))
    pair_asks P c G d x q ca cb ra rb there w at stays known st cont ha hb asks =
        two_ask P (λ w a. c w a ∷ []) G (λ w b. d w b ∷ []) x q ca cb ra rb there w at
        (λ w w' g a p. let h = stays w w' g a p in (h.0, ap (λ y. y ∷ []) h.1)) known st cont ha hb asks

    -- EXIT leads behind the innermost LOOP, and leaves the region within it before
    exit_plain : (there : Pos) (at : ℕ) → HasStatement program own tables number here code (Exit there) at x d → Carried (at + length (stat_code program own (Exit there) at x d)) → exit_code x.within x.exit ≡ i.Jump x.exit ∷ [] → x.within ≢ InLoop → GoesOn program own tables number here code (leave after) (from (at + 1) k [])
    exit_plain there at has c is never =
        let rest = has.stands.rest in
        let h1 : drop (at + 1) code ≡ i.Jump x.exit ∷ rest = drop_next at code (begin there) (exit_code x.within x.exit ++ rest) has.stands.here ∙ ap (λ l. l ++ rest) is in
        let h2 : drop (at + 1 + 1) code ≡ rest = drop_next (at + 1) code (i.Jump x.exit) rest h1 in
        let size : length (exit_code x.within x.exit) ≡ 1 = ap length is in
        let le : at + 2 ≤ x.exit = omega (arith, size, bound program own tables number here code after (at + suc (length (exit_code x.within x.exit))) x d k c) in
        let jump : from (at + 1) k [] ≡ from x.exit k [] = from_here (at + 1) (i.Jump x.exit ∷ rest) k [] h1 ∙ jumps_on rest x.exit (at + 1) k [] (omega (arith, le)) h2 in
        let b = outside program own tables number here code after (at + length (stat_code program own (Exit there) at x d)) x d k c never in
        record { at = x.exit; ways = b.0; level = b.1; keeps = k; runs = jump; carries = b.2 }

    exit_leaves : (there : Pos) (at : ℕ) → HasStatement program own tables number here code (Exit there) at x d → Carried (at + length (stat_code program own (Exit there) at x d)) → x.within ≡ InLoop → GoesOn program own tables number here code (leave after) (from (at + 1) k [])
    exit_leaves there at has c is =
        let rest = has.stands.rest in
        let code_is : exit_code x.within x.exit ≡ i.Leave ∷ (i.Jump x.exit ∷ []) = ap (λ u. exit_code u x.exit) is in
        let h1 : drop (at + 1) code ≡ i.Leave ∷ (i.Jump x.exit ∷ rest) = drop_next at code (begin there) (exit_code x.within x.exit ++ rest) has.stands.here ∙ ap (λ l. l ++ rest) code_is in
        let h2 : drop (at + 1 + 1) code ≡ i.Jump x.exit ∷ rest = drop_next (at + 1) code i.Leave (i.Jump x.exit ∷ rest) h1 in
        let h3 : drop (at + 1 + 1 + 1) code ≡ rest = drop_next (at + 1 + 1) code (i.Jump x.exit) rest h2 in
        let size : length (exit_code x.within x.exit) ≡ 2 = ap length code_is in
        let le : at + 3 ≤ x.exit = omega (arith, size, bound program own tables number here code after (at + suc (length (exit_code x.within x.exit))) x d k c) in
        let same : Same program own tables number here code (at + 1 + 1) x.exit = λ k' s. from_here (at + 1 + 1) (i.Jump x.exit ∷ rest) k' s h2 ∙ jumps_on rest x.exit (at + 1 + 1) k' s (omega (arith, le)) h3 in
        let b = leaving program own tables number here code after (at + length (stat_code program own (Exit there) at x d)) x d k (at + 1) c is (omega (arith, le)) (record { rest = i.Jump x.exit ∷ rest; here = h1 }) same in
        record { at = at + 1; ways = b.0; level = b.1; keeps = k; runs = refl; carries = b.2 }

    pub exit_does : (there : Pos) → StatementDoes program own tables number here code x d k after (Exit there)
    exit_does there w at known has c = by x.within refl
      where
        by : (u : Within) → x.within ≡ u → GoesOn program own tables number here code (leave after) (from (at + 1) k [])
        by NoRegion e = exit_plain there at has c (ap (λ u. exit_code u x.exit) e) (λ h. let no : NoRegion ≡ InLoop = sym e ∙ h in cc no)
        by AroundLoop e = exit_plain there at has c (ap (λ u. exit_code u x.exit) e) (λ h. let no : AroundLoop ≡ InLoop = sym e ∙ h in cc no)
        by InLoop e = exit_leaves there at has c e

    pub block_does : (there : Pos) (exclusive : Bool) (b : Stats) → StatementDoes program own tables number here code x d k after (Block there exclusive b)
    block_does there false b w at known has c =
        let cs = stats_code program own b (at + 1) x d in
        let rest = has.stands.rest in
        let inner : HasStatements program own tables number here code b (at + 1) x d = record { stands = record { rest = rest; here = drop_next at code (begin there) (cs ++ rest) has.stands.here }; typed = has.typed; home = has.home; linked = has.linked; holds = has.holds } in
        let len : at + suc (length cs) ≡ at + 1 + length cs = omega arith in
        record { at = at + 1; ways = x; level = d; keeps = k; runs = refl; carries = carries_all program own tables number here code b (at + 1) x d k after inner (subst Carried len c) }
    block_does there true b w at known has c =
        let cs = block_code true (stats_code program own b (at + 1 + 1) (block_ways true x) d) in
        let rest = has.stands.rest in
        let inner : HasRegion program own tables number here code b (at + 1) x d = record { stands = record { rest = rest; here = drop_next at code (begin there) (cs ++ rest) has.stands.here }; typed = has.typed; home = has.home; linked = has.linked; holds = has.holds } in
        let len : at + suc (length cs) ≡ at + 1 + length cs = omega arith in
        let c' : Carried (at + 1 + length cs) = subst Carried len c in
        let le : at + 1 ≤ x.exit = omega (arith, bound program own tables number here code after (at + 1 + length cs) x d k c') in
        record { at = at + 1; ways = x; level = d; keeps = k; runs = refl; carries = (at + 1, le, (λ k' s. refl), inner, c') }

    pub halt_does : (there : Pos) (n : ℕ) → StatementDoes program own tables number here code x d k after (Halt there n)
    halt_does there n w at known has c =
        let rest = has.stands.rest in
        (from_here (at + 1) (i.Halt n ∷ rest) k [] (drop_next at code (begin there) (i.Halt n ∷ rest) has.stands.here), omega arith)

    -- the condition is one over the frame
    pub await_does : (there : Pos) (n : ℕ) (e : Expr) → StatementDoes program own tables number here code x d k after (Await there n e)
    await_does there n e w at known has c =
        let rest = has.stands.rest in
        let h1 : drop (at + 1) code ≡ i.Await n ∷ rest = drop_next at code (begin there) (i.Await n ∷ rest) has.stands.here in
        let len : at + 2 ≡ at + 1 + 1 = omega arith in
        let is : Condition = record { home = has.home; own = own; at = there; expression = e } in
        last_asks (Awaits n) w _ (at + 1) rest (from_here (at + 1) (i.Await n ∷ rest) k [] h1) (is, has.linked, has.typed.0, has.typed.1, known)
        (drop_next (at + 1) code (i.Await n) rest h1) (subst Carried len c)

    module _ (typed : HasTypes program) (shaped : HasShapes program tables) where
      pub assign_does : (there : Pos) (t : TType) (pl : Place) (e : Expr) → StatementDoes program own tables number here code x d k after (Assign there t pl e)
      assign_does there t pl e w at known has c =
          let cp = place_code program own pl (at + 1) in
          let pe = at + 1 + length cp in
          let named = NamesType program own pl t in
          pair_asks (IsFound program named t) place_in (OfSort program own tables number here code t) cell_of (i.Store (kind_of program.types t)) (λ a v. Stores a v) cp (value_code program own e pe) (place_of program here pl) (value_of program here e) there w at
          (places_stay program own tables number here code named t) known has.stands c
          (place_does program own tables number here code typed shaped pl t has.typed.0 (at + 1)) (yields_do program own tables number here code typed shaped e t has.typed.2 pe)
          (λ w' a v found is. (
            (Plain (id_of t), tt, scalar_found program own tables number here code typed t has.typed.1 w' a named found, is),
            λ rest p. store_asks typed t w' a rest p v has.typed.1 is,
          ))

      -- a whole record or array
      pub copy_does : (there : Pos) (t : TType) (to first : Place) → StatementDoes program own tables number here code x d k after (Copy there t to first)
      copy_does there t to first w at known has c =
          let cp = place_code program own to (at + 1) in
          let pe = at + 1 + length cp in
          let u = has.typed.1.0 in
          let named = NamesType program own to t in
          let named' = NamesType program own first u in
          pair_asks (IsFound program named t) place_in (IsFound program named' u) place_in (i.Copy (cells_of program own t)) (λ a b. Copies t b a) cp (place_code program own first pe) (place_of program here to) (place_of program here first) there w at
          (places_stay program own tables number here code named t) known has.stands c
          (place_does program own tables number here code typed shaped to t has.typed.0 (at + 1)) (place_does program own tables number here code typed shaped first u has.typed.1.1 pe)
          (λ w' a b found_to found_from.
          let to_is = holds_whole program typed (id_of t) found_to.shape has.typed.2 found_to.holds in
          let from_is = holds_extension program typed (id_of u) (id_of t) found_from.shape has.typed.2 has.typed.1.2 found_from.holds in (
            (
              (from_is.0, found_from.there ∙ ap (λ z. Some z) from_is.1, rest_plain from_is.0 found_from.shape from_is.1 found_from.plain),
              (to_is.0, found_to.there ∙ ap (λ z. Some z) to_is.1, rest_plain to_is.0 found_to.shape to_is.1 found_to.plain),
              has.typed.2,
            ),
            λ rest p. refl,
          ))
        where
          rest_plain : (more s : Shape Sort) → s ≡ join (variable_shape program.types (id_of t)) more → EachSort IsPlain s → EachSort IsPlain more
          rest_plain more s e plain = each_rest IsPlain (variable_shape program.types (id_of t)) more (subst (EachSort IsPlain) e plain)

      -- a text that is put in an array of characters
      pub put_text_does : (there : Pos) (strict : Bool) (first to : Rows) → StatementDoes program own tables number here code x d k after (PutText there strict first to)
      put_text_does there strict first to w at known has c =
          let ca = rows_code program own first (at + 1) in
          let pb = at + 1 + length ca in
          two_ask IsText text_cells IsRoom text_cells (i.PutText strict) (λ a b. PutsText strict a.place (text_length a) b.place (text_length b))
          ca (rows_code program own to pb) (rows_of program here first) (rows_of program here to) there w at
          (texts_remain program own tables number here code) known has.stands c
          (text_found program own tables number here code typed shaped first has.typed.0 (at + 1))
          (room_found program own tables number here code typed shaped to has.typed.1 has.typed.2 pb)
          (λ w' a b ia ib. ((ia, ib), λ rest p. puts w' a.place b.place (text_length a) (text_length b) ia.0 ib.0 ia.1 ib.1 strict rest p))
        where
          puts : (w' : World Sort) (a b : Location) (v u : Value) (n m : ℕ) → v ≡ Int (pos n) → u ≡ Int (pos m) → (strict : Bool) (rest : List Instr) (p : ℕ) → onward (i.PutText strict ∷ rest) 0 p k (cell_of w' u ∷ (place_in w' b ∷ (cell_of w' v ∷ (place_in w' a ∷ [])))) ≡ Asks (PutsText strict (addr_of w' a) (cell_of w' v) (addr_of w' b) (cell_of w' u)) (λ y. onward rest 0 (p + 1) k [])
          puts w' a b v u n m e f strict rest p = rw (e, f) refl

      pub out_does : (there : Pos) (call : Call) → StatementDoes program own tables number here code x d k after (Out there call)
      out_does there OutLn w at known has c =
          let h1 : drop (at + 1) code ≡ i.OutLn ∷ has.stands.rest = drop_next at code (begin there) (i.OutLn ∷ has.stands.rest) has.stands.here in
          let len : at + 2 ≡ at + 1 + 1 = omega arith in
          last_asks PutsLn w _ (at + 1) has.stands.rest (from_here (at + 1) (i.OutLn ∷ has.stands.rest) k [] h1) tt (drop_next (at + 1) code i.OutLn has.stands.rest h1) (subst Carried len c)
      out_does there OutOpen w at known has c =
          let h1 : drop (at + 1) code ≡ i.OutOpen ∷ has.stands.rest = drop_next at code (begin there) (i.OutOpen ∷ has.stands.rest) has.stands.here in
          let len : at + 2 ≡ at + 1 + 1 = omega arith in
          last_asks PutsNothing w _ (at + 1) has.stands.rest (from_here (at + 1) (i.OutOpen ∷ has.stands.rest) k [] h1) tt (drop_next (at + 1) code i.OutOpen has.stands.rest h1) (subst Carried len c)
      out_does there (OutChar e) w at known has c =
          let ce = value_code program own e (at + 1) in
          let p = at + 1 + length ce in
          let h1 : drop (at + 1) code ≡ (ce ++ i.OutChar ∷ []) ++ has.stands.rest = drop_next at code (begin there) ((ce ++ i.OutChar ∷ []) ++ has.stands.rest) has.stands.here in
          let h2 : drop p code ≡ i.OutChar ∷ has.stands.rest = drop_past ce (at + 1) code (i.OutChar ∷ has.stands.rest) (h1 ∙ append_assoc ce (i.OutChar ∷ []) has.stands.rest) in
          let len : at + suc (length (ce ++ i.OutChar ∷ [])) ≡ p + 1 = omega (arith, length-append ce (i.OutChar ∷ [])) in
          along program here (Leaves after) w _ _ (out_of program here (OutChar e)) (from_here (at + 1) ((ce ++ i.OutChar ∷ []) ++ has.stands.rest) k [] h1)
          (operand_does program own tables number here code (Leaves after) type.Char (λ x. bind (ask (PutsChar x)) (λ _. Val (Into []))) ce (i.OutChar ∷ []) (value_of program here e) (at + 1) has.stands.rest k []
          (value_does program own tables number here code typed shaped e type.Char refl has.typed (at + 1)) w known
          (λ w' up v m is e'. last_asks (PutsChar v) w' m p has.stands.rest
          (e' ∙ ap (λ y. Asks (PutsChar y) (λ x. onward has.stands.rest 0 (p + 1) k [])) (sym (number_cell w' type.Char v is)))
          (is_character v is) (drop_next p code i.OutChar has.stands.rest h2) (subst Carried len c)))
      out_does there (OutInt e n) w at known has c =
          let ca = value_code program own e (at + 1) in
          let pn = at + 1 + length ca in
          let wide = type.Integer W64 in
          pair_asks (OfType wide) number_in (OfType wide) number_in i.OutInt (λ x y. PutsInt x y) ca (value_code program own n pn) (value_of program here e) (value_of program here n) there w at
          (values_stay program own tables number here code wide) known has.stands c
          (value_does program own tables number here code typed shaped e wide refl has.typed.0 (at + 1)) (value_does program own tables number here code typed shaped n wide refl has.typed.1 pn)
          (λ w' a b ia ib. (
            (is_integer W64 a ia, is_integer W64 b ib),
            λ rest p. sym (λ j. Asks (PutsInt (number_cell w' wide a ia j) (number_cell w' wide b ib j)) (λ x. onward rest 0 (p + 1) k [])),
          ))
      out_does there (OutString r) w at known has c =
          let xs = rows_code program own r (at + 1) in
          let last = i.OutString ∷ [] in
          let p = at + 1 + length xs in
          let rest = has.stands.rest in
          let h1 : drop (at + 1) code ≡ (xs ++ last) ++ rest = drop_next at code (begin there) ((xs ++ last) ++ rest) has.stands.here in
          let h2 : drop p code ≡ i.OutString ∷ rest = drop_past xs (at + 1) code (i.OutString ∷ rest) (h1 ∙ append_assoc xs last rest) in
          let len : at + suc (length (xs ++ last)) ≡ p + 1 = omega (arith, length-append xs last) in
          let does : Found → Doing After = λ a. bind (ask (PutsString a.place (text_length a))) (λ _. Val (Into [])) in
          along program here (Leaves after) w _ _ (out_of program here (OutString r)) (from_here (at + 1) ((xs ++ last) ++ rest) k [] h1)
          (front_does program own tables number here code IsText text_cells (Leaves after) does xs last (rows_of program here r) (at + 1) rest k []
          (text_found program own tables number here code typed shaped r has.typed (at + 1)) w known
          (λ w' up a m is e. last_asks (PutsString a.place (text_length a)) w' m p rest (e ∙ puts_string w' a.place (text_length a) is.0 is.1 rest p) is (drop_next p code i.OutString rest h2) (subst Carried len c)))
        where
          puts_string : (w' : World Sort) (a : Location) (v : Value) (n : ℕ) → v ≡ Int (pos n) → (rest : List Instr) (p : ℕ) → onward (i.OutString ∷ rest) 0 p k (cell_of w' v ∷ (place_in w' a ∷ [])) ≡ Asks (PutsString (addr_of w' a) (cell_of w' v)) (λ y. onward rest 0 (p + 1) k [])
          puts_string w' a v n e rest p = rw e refl

      -- a condition that is FALSE is a trap
      pub assert_does : (there : Pos) (e : Expr) (n : ℕ) → StatementDoes program own tables number here code x d k after (Assert there e n)
      assert_does there e n w at known has c =
          let ce = value_code program own e (at + 1) in
          let p = at + 1 + length ce in
          let last = i.Assert n ∷ [] in
          let rest = has.stands.rest in
          let goes : Value → Doing After = λ v. if is_true v then Val (Into []) else Traps 7 n in
          let h1 : drop (at + 1) code ≡ (ce ++ last) ++ rest = drop_next at code (begin there) ((ce ++ last) ++ rest) has.stands.here in
          let h2 : drop p code ≡ i.Assert n ∷ rest = drop_past ce (at + 1) code (i.Assert n ∷ rest) (h1 ∙ append_assoc ce last rest) in
          let len : at + suc (length (ce ++ last)) ≡ p + 1 = omega (arith, length-append ce last) in
          let next = goes_on (p + 1) rest (drop_next p code (i.Assert n) rest h2) (subst Carried len c) in
          along program here (Leaves after) w _ _ (bind (value_of program here e) goes) (from_here (at + 1) ((ce ++ last) ++ rest) k [] h1)
          (operand_does program own tables number here code (Leaves after) type.Boolean goes ce last (value_of program here e) (at + 1) rest k []
          (value_does program own tables number here code typed shaped e type.Boolean refl has.typed.0 (at + 1)) w known
          (λ w' up. by_flag program own tables number here code (Leaves after) goes (i.Assert n ∷ rest) p k [] w' (told n p rest next w')))
        where
          told : (n p : ℕ) (rest : List Instr) → GoesOn program own tables number here code after (onward rest 0 (p + 1) k []) → (w' : World Sort) (b : Bool) (m : Run) → m ≡ onward (i.Assert n ∷ rest) 0 p k (Num (flag b) ∷ []) → Does program here (Leaves after) w' m (if is_true (Flag b) then Val (Into []) else Traps 7 n)
          told n p rest next w' true m e' = subst (GoesOn program own tables number here code after) (sym e') next
          told n p rest next w' false m e' = (e', omega arith)

      -- a call, whose answer no code takes
      pub perform_does : (there : Pos) (callee : Callee) (more : Arguments) → StatementDoes program own tables number here code x d k after (Perform there callee more)
      perform_does there callee more w at known has c =
          let q = has.typed.0 in
          let ca = called_code program own callee more (at + 1) in
          let called_so = called_of program here callee more in
          let p = at + 1 + length ca in
          let rest = has.stands.rest in
          let h1 : drop (at + 1) code ≡ ca ++ rest = drop_next at code (begin there) (ca ++ rest) has.stands.here in
          let len : at + suc (length ca) ≡ p = omega arith in
          let next = goes_on p rest (drop_past ca (at + 1) code rest h1) (subst Carried len c) in
          along program here (Leaves after) w _ _ (bind called_so (λ _. Val (Into []))) (from_here (at + 1) (ca ++ rest) k [] h1)
          (does_bind program here (Answered program own tables number here code q.result rest p k []) (Leaves after) w (onward (ca ++ rest) 0 (at + 1) k []) called_so (λ _. Val (Into []))
          (called_do program own tables number here code typed shaped callee q has.typed.1 more (λ at'. arguments_do program own tables number here code typed shaped more q.parameters has.typed.3 at') (at + 1) w known rest k [])
          (λ w' up v m a. subst (GoesOn program own tables number here code after) (sym (a.run ∙ ap (λ t. onward rest 0 p k (pushed (answer_cells program own tables number here code w' t v) [])) has.typed.2)) next))

      -- a RETURN's code gives what it gives, once it has left the region
      returns : (w : World Sort) (r : Option Value) (st : Stack) → ((p : ℕ) (rest : List Instr) → GivesBack program own tables number here code w r (onward (i.Return ∷ rest) 0 p k st)) → (u : Within) (is : List Item) → is ≡ returned u r → (p : ℕ) (rest : List Instr) → Returning program own tables number here code w r is (onward (return_code u ++ rest) 0 p k st)
      returns w r st gives NoRegion is e p rest = inl (e, gives p rest)
      returns w r st gives AroundLoop is e p rest = inr (e, ((λ y. onward (i.Return ∷ rest) 0 (p + 1) k st), refl, λ y. gives (p + 1) rest))
      returns w r st gives InLoop is e p rest = inr (e, ((λ y. onward (i.Return ∷ rest) 0 (p + 1) k st), refl, λ y. gives (p + 1) rest))

      -- the end of the procedure, with the result of a function
      pub return_does : IsOwn program own tables number → (there : Pos) (e : Option Expr) → StatementDoes program own tables number here code x d k after (Return there e)
      return_does is there None w at known has c =
          let rest = has.stands.rest in
          let q = at + length (stat_code program own (Return there None) at x d) in
          subst (λ m. Returning program own tables number here code w None (leave_all None after) m)
          (sym (from_here (at + 1) (return_code x.within ++ rest) k [] (drop_next at code (begin there) (return_code x.within ++ rest) has.stands.here)))
          (returns w None [] (λ p more. by p more (result_of own) is.2 has.typed) x.within (leave_all None after) (leave_all_is program own tables number here code after q x d k None c) (at + 1) rest)
        where
          by : (p : ℕ) (more : List Instr) (r : Option TType) → is.0.result ≡ option_map (λ t. cell_kind program.types (id_of t)) r → IsReturn program own None r → (g : Cell → Run) × (onward (i.Return ∷ more) 0 p k [] ≡ Asks (Ends None) g) × IsResult program w r None
          by p more None none ok = ((λ y. Traps 0 0), rw (is.1, none) refl, tt)
          by p more (Some t) some ok = absurd ok
      return_does is there (Some e) w at known has c = by (result_of own) refl has.typed
        where
          ends_with : (kind : Kind) (v : Cell) (rest : List Instr) (p : ℕ) → is.0.result ≡ Some kind → is_of kind v ≡ true → onward (i.Return ∷ rest) 0 p k (v ∷ []) ≡ Asks (Ends (Some v)) (λ y. Traps 0 0)
          ends_with kind v rest p result of = rw (is.1, result, of) refl

          by : (r : Option TType) → result_of own ≡ r → IsReturn program own (Some e) r → Does program here (Leaves after) w (from (at + 1) k []) (stat_of program here (Return there (Some e)))
          by None own_is ok = absurd ok
          by (Some t) own_is ok =
              let ce = value_code program own e (at + 1) in
              let last = return_code x.within in
              let p = at + 1 + length ce in
              let rest = has.stands.rest in
              let q = at + length (stat_code program own (Return there (Some e)) at x d) in
              let some : is.0.result ≡ Some (cell_kind program.types (id_of t)) = is.2 ∙ ap (option_map (λ t. cell_kind program.types (id_of t))) own_is in
              let does : Value → Doing After = λ v. Val (Returns (Some v)) in
              along program here (Leaves after) w _ _ (bind (value_of program here e) does) (from_here (at + 1) ((ce ++ last) ++ rest) k [] (drop_next at code (begin there) ((ce ++ last) ++ rest) has.stands.here))
              (piece_does program own tables number here code (OfSort program own tables number here code t) cell_of (Leaves after) does ce last (value_of program here e) (at + 1) rest k []
              (yields_do program own tables number here code typed shaped e t ok (at + 1)) w known
              (λ w' up v m of e'. subst (λ z. Returning program own tables number here code w' (Some v) (leave_all (Some v) after) z) (sym e')
              (returns w' (Some v) (cell_of w' v ∷ []) (λ p' more. (
                (λ y. Traps 0 0),
                ends_with (cell_kind program.types (id_of t)) (cell_of w' v) more p' some (kind_of_value program w' (id_of t) (row_of program.types (id_of t)) v of),
                subst (λ r. IsResult program w' r (Some v)) (sym own_is) of,
              )) x.within (leave_all (Some v) after) (leave_all_is program own tables number here code after q x d k (Some v) c) p rest)))
