-- The code of CASE does what CASE does: the selector's value is kept, and comparisons find the arm that has it, or ELSE, or trap 4.
use Rattle.std.proofs.Common.{◌≡◌, ◌⊎◌, ℕ, suc, ℤ, ◌+◌, ◌<◌, ◌≤◌, Bool, true, false, ◌&&◌, Option, List, [], ◌∷◌, ◌++◌, length, drop, if◌then◌else◌, refl, sym, ap, ◌∙◌, subst, arith, append_assoc, length-append, inl, inr}
use Rattle.std.specs.List.{list_any}
use Rattle.std.proofs.Math.Nat.{le-max_left, le-max_right}
use Rattle.aos_base.specs.declared.number.Relation.{Relation}
use Rattle.aos_base.specs.declared.number.Relation.TheVariants.{Equal, Less, LessEqual, GreaterEqual}
use Rattle.aos_base.specs.declared.number.Width.TheVariants.{W64}
use Rattle.aos_base.specs.declared.operator.Binary.TheVariants.{Cmp}
use Rattle.aos_base.specs.declared.text.Pos.{Pos}
use Rattle.aos_base.specs.Number.{holds}
use Rattle.aos_base.specs.Question.{Val, bind}
use Rattle.aos_types.specs.World.{World}
use Rattle.std.specs.Ordering.{int_eq}
use Rattle.aos_typed.specs.declared.tree.LabelRange.{LabelRange}
use Rattle.aos_typed.specs.declared.tree.TType.{TType}
use Rattle.aos_typed.specs.declared.tree.TType.TheVariants as type
use Rattle.aos_typed.specs.Program.{Expr, Case, Cases, NoElse, Else, OfLabels, Procedure, Program}
use Rattle.aos_typed.specs.Sort.{Sort}
use Rattle.aos_typed.specs.Value.{Value, number_of}
use Rattle.aos_typed.specs.Meaning.{Here, Doing, Item, After, Into, items_of, value_of, is_in, case_of, stat_of}
use Rattle.aos_typed.specs.Conditions.{conditions, AreCasesLinked}
use Rattle.aos_typed.specs.WellTyped.{is_basic, IsOf, AreCases}
use Rattle.aos_code.specs.declared.instr.Cell.TheVariants.{Num}
use Rattle.aos_code.specs.declared.instr.Instr.{Instr}
use Rattle.aos_code.specs.declared.instr.Instr.TheVariants as i
use Rattle.aos_code.specs.declared.instr.Kind.TheVariants.{N}
use Rattle.aos_code.specs.Numbered.{numbered}
use Rattle.aos_code.specs.Silent.{Keeps, kept, keeps_in}
use Rattle.aos_sim.specs.Search.{Search, Nowhere, At, Split, arms_in, search_of, found, one_code, range_code, label_code, label_size, search_size, search_code}
use Rattle.aos_sim.specs.Code.{Ways, begin, value_code, stats_code, cases_code, arm_place}
use Rattle.aos_sim.specs.Need.{stats_level, cases_level}
use Rattle.aos_sim.proofs.Runs.{Tables, Run, Onward, runs, run, drop_next, drop_past}
use Rattle.aos_sim.proofs.Does.{HasTypes, HasShapes, Does, along}
use Rattle.aos_sim.proofs.Evaluates.{operand_does}
use Rattle.aos_sim.proofs.Exprs.{value_does}
use Rattle.aos_sim.proofs.Searches.{arm_of, only, found_first}
use Rattle.aos_sim.proofs.Sizes.{label_length, search_length, cases_length, arm_ahead}
use Rattle.aos_sim.proofs.Carries.{kept_here, kept_below, Stands, Same, Holds, HasStatements, Carries, bound, moved, survives, GoesOn, Behind, carries_all, StatementDoes}
use Rattle.aos_sim.proofs.Stats.{from_here, jumps_on, keeps_number, takes_number}
use Rattle.aos_sim.proofs.Loops.{jumps_if}

module _ (program : Program) (own : Option Procedure) (tables : Tables) (number : ℕ) (here : Here) (code : List Instr) where
  abbrev onward : List Instr → Onward
  onward = runs tables number here code

  abbrev from : ℕ → Keeps → Run
  from p k = run tables number here code p k []

  abbrev Leaves : List Item → World Sort → After → Run → Type 0
  Leaves = Behind program own tables number here code

  abbrev Goes : List Item → Run → Type 0
  Goes = GoesOn program own tables number here code

  -- where the selector's value is kept
  module _ (z : ℤ) (d : ℕ) (k : Keeps) (room : d < keeps_in (numbered tables.procedures number)) (is_kept : k d ≡ Num z) where
    abbrev test : Relation → ℤ → ℕ → List Instr → List Instr
    test relation l to rest = i.Kept d N ∷ (i.Num l ∷ (i.Binary (Cmp relation) ∷ (i.JumpFalse to ∷ rest)))

    -- it is compared
    label_runs : (relation : Relation) (l : ℤ) (to p : ℕ) (rest : List Instr) → p + 4 ≤ to → drop p code ≡ test relation l to rest → from p k ≡ from (if holds relation z l then p + 4 else to) k
    label_runs relation l to p rest le st =
        let four : p + 1 + 1 + 1 + 1 ≡ p + 4 = omega arith in
        let h : drop (p + 1 + 1 + 1 + 1) code ≡ rest = ap (λ n. drop n code) four ∙ drop_past (test relation l to []) p code rest st in
        from_here program own tables number here code p (test relation l to rest) k [] st
        ∙ takes_number program own tables number here code d z (i.Num l ∷ (i.Binary (Cmp relation) ∷ (i.JumpFalse to ∷ rest))) p k [] room is_kept
        ∙ jumps_if program own tables number here code (holds relation z l) to (p + 1 + 1 + 1) rest k (jumps_on program own tables number here code rest to (p + 1 + 1 + 1) k [] (omega (arith, le)) h) h
        ∙ ap (λ n. from (if holds relation z l then n else to) k) four

    leads : (to p : ℕ) (rest : List Instr) → p < to → drop p code ≡ i.Jump to ∷ rest → from p k ≡ from to k
    leads to p rest lt st =
        from_here program own tables number here code p (i.Jump to ∷ rest) k [] st
        ∙ jumps_on program own tables number here code rest to p k [] lt (drop_next p code (i.Jump to) rest st)

    one_runs : (l : ℤ) (p hit : ℕ) (rest : List Instr) → p + 5 ≤ hit → drop p code ≡ one_code l d p hit ++ rest → from p k ≡ from (if holds Equal z l then hit else p + 5) k
    one_runs l p hit rest le st =
        let last = i.Jump hit ∷ rest in
        let h4 : drop (p + 4) code ≡ last = drop_past (test Equal l (p + 5) []) p code last st in
        label_runs Equal l (p + 5) p last (omega arith) st ∙ by (holds Equal z l) (leads hit (p + 4) rest (omega (arith, le)) h4)
      where
        by : (b : Bool) → from (p + 4) k ≡ from hit k → from (if b then p + 4 else p + 5) k ≡ from (if b then hit else p + 5) k
        by true jump = jump
        by false jump = refl

    range_runs : (r : LabelRange) (p hit : ℕ) (rest : List Instr) → p + 9 ≤ hit → drop p code ≡ range_code r d p hit ++ rest → from p k ≡ from (if is_in z r then hit else p + 9) k
    range_runs r p hit rest le st =
        let last = i.Jump hit ∷ rest in
        let second = test LessEqual r.high (p + 9) last in
        let h4 : drop (p + 4) code ≡ second = drop_past (test GreaterEqual r.low (p + 9) []) p code second st in
        let h8 : drop (p + 4 + 4) code ≡ last = drop_past (test LessEqual r.high (p + 9) []) (p + 4) code last h4 in
        label_runs GreaterEqual r.low (p + 9) p second (omega arith) st
        ∙ both (holds GreaterEqual z r.low) (holds LessEqual z r.high) (p + 9) (p + 4) hit (label_runs LessEqual r.high (p + 9) (p + 4) last (omega arith) h4) (leads hit (p + 4 + 4) rest (omega (arith, le)) h8)
      where
        both : (b c : Bool) (out q hit : ℕ) → from q k ≡ from (if c then q + 4 else out) k → from (q + 4) k ≡ from hit k → from (if b then q else out) k ≡ from (if b && c then hit else out) k
        both false c out q hit e2 jump = refl
        both true false out q hit e2 jump = e2
        both true true out q hit e2 jump = e2 ∙ jump

    labels_run : (r : LabelRange) (p hit : ℕ) (rest : List Instr) → p + label_size r ≤ hit → drop p code ≡ label_code r d p hit ++ rest → from p k ≡ from (if is_in z r then hit else p + label_size r) k
    labels_run r p hit rest le st = by (int_eq r.low r.high) refl le st
      where
        by : (b : Bool) → int_eq r.low r.high ≡ b → p + (if b then 5 else 9) ≤ hit → drop p code ≡ (if b then one_code r.low d p hit else range_code r d p hit) ++ rest → from p k ≡ from (if is_in z r then hit else p + (if b then 5 else 9)) k
        by true one le st = one_runs r.low p hit rest le st ∙ ap (λ b. from (if b then hit else p + 5) k) (only z r one)
        by false one le st = range_runs r p hit rest le st

    -- and the search goes on at the place of the arm that it finds
    search_runs : (place : ℕ → ℕ) (other : ℕ) (t : Search) (p : ℕ) (rest : List Instr) → ((n : ℕ) → p + search_size t ≤ place n) → drop p code ≡ search_code place other t d p ++ rest → from p k ≡ from (place (found z other t)) k
    search_runs place other Nowhere p rest ahead st = leads (place other) p rest (omega (arith, ahead other)) st
    search_runs place other (At r) p rest ahead st =
        let last = i.Jump (place other) ∷ rest in
        let q = p + label_size r.labels in
        let whole : drop p code ≡ label_code r.labels d p (place r.arm) ++ last = st ∙ append_assoc (label_code r.labels d p (place r.arm)) (i.Jump (place other) ∷ []) rest in
        let behind : drop q code ≡ last = ap (λ n. drop (p + n) code) (sym (label_length r.labels d p (place r.arm))) ∙ drop_past (label_code r.labels d p (place r.arm)) p code last whole in
        labels_run r.labels p (place r.arm) last (omega (arith, ahead r.arm)) whole
        ∙ by (is_in z r.labels) q (leads (place other) q rest (omega (arith, ahead other)) behind)
      where
        by : (b : Bool) (q : ℕ) → from q k ≡ from (place other) k → from (if b then place r.arm else q) k ≡ from (place (if b then r.arm else other)) k
        by true q jump = refl
        by false q jump = jump
    search_runs place other (Split middle below above) p rest ahead st =
        let q = p + 4 + search_size below in
        let b = search_code place other below d (p + 4) in
        let a = search_code place other above d q in
        let split : drop p code ≡ test Less middle q (b ++ (a ++ rest)) = st ∙ ap (λ l. test Less middle q l) (append_assoc b a rest) in
        let h4 : drop (p + 4) code ≡ b ++ (a ++ rest) = drop_past (test Less middle q []) p code (b ++ (a ++ rest)) split in
        let hq : drop q code ≡ a ++ rest = ap (λ n. drop (p + 4 + n) code) (sym (search_length place other below d (p + 4))) ∙ drop_past b (p + 4) code (a ++ rest) h4 in
        label_runs Less middle q p (b ++ (a ++ rest)) (omega arith) split
        ∙ by (holds Less z middle) q
        (search_runs place other below (p + 4) (a ++ rest) (λ n. omega (arith, ahead n)) h4)
        (search_runs place other above q rest (λ n. omega (arith, ahead n)) hq)
      where
        by : (c : Bool) (q : ℕ) → from (p + 4) k ≡ from (place (found z other below)) k → from q k ≡ from (place (found z other above)) k → from (if c then p + 4 else q) k ≡ from (place (if c then found z other below else found z other above)) k
        by true q eb ea = eb
        by false q eb ea = ea

    module _ (x : Ways) (after : List Item) where
      abbrev Carried : ℕ → Type 0
      Carried p = Carries program own tables number here code after p x d k

      -- the arm that has the value leads on to the same end as the others
      pub cases_do : (cases : Cases) (p end : ℕ) (w : World Sort) → AreCases program own cases → (home : ℕ) → AreCasesLinked (conditions program) home own cases → Holds program own tables number here code (cases_level cases d) → Stands code p (cases_code program own cases p end x d) → end ≡ p + length (cases_code program own cases p end x d) → Carries program own tables number here code after end x d k → Does program here (Behind program own tables number here code after) w (run tables number here code (arm_place program own cases p x d (arm_of z cases)) k []) (case_of z cases)
      cases_do NoElse p end w ok home links holds st len c = (from_here program own tables number here code p (i.Fail 4 ∷ st.rest) k [] st.here, omega arith)
      cases_do (Else ss) p end w ok home links holds st len c =
          let has : HasStatements program own tables number here code ss p x d = record { stands = st; typed = ok; home = home; linked = links; holds = holds } in
          record { at = p; ways = x; level = d; keeps = k; runs = refl; carries = carries_all program own tables number here code ss p x d k after has (subst Carried len c) }
      cases_do (OfLabels rs ss cases) p end w ok home links holds st len c =
          let b = stats_code program own ss p x d in
          let pj = p + length b in
          let next = pj + 1 in
          let more = cases_code program own cases next end x d in
          let rest2 = more ++ st.rest in
          let h1 : drop p code ≡ b ++ (i.Jump end ∷ rest2) = st.here ∙ append_assoc b (i.Jump end ∷ more) st.rest in
          let h2 : drop pj code ≡ i.Jump end ∷ rest2 = drop_past b p code (i.Jump end ∷ rest2) h1 in
          let h3 : drop next code ≡ rest2 = drop_next pj code (i.Jump end) rest2 h2 in
          let len2 : end ≡ next + length more = omega (arith, len, length-append b (i.Jump end ∷ more)) in
          let le : end ≤ x.exit = bound program own tables number here code after end x d k c in
          let over : Same program own tables number here code pj end = λ k' s. from_here program own tables number here code pj (i.Jump end ∷ rest2) k' s h2 ∙ jumps_on program own tables number here code rest2 end pj k' s (omega (arith, len2)) h3 in
          let has : HasStatements program own tables number here code ss p x d = record { stands = record { rest = i.Jump end ∷ rest2; here = h1 }; typed = ok.1; home = home; linked = links.0; holds = omega (arith, holds, le-max_left (stats_level ss d) (cases_level cases d)) } in
          let row = carries_all program own tables number here code ss p x d k after has (moved program own tables number here code after pj end x d k (omega (arith, len2, le)) over c) in
          taken (list_any (is_in z) rs)
          (record { at = p; ways = x; level = d; keeps = k; runs = refl; carries = row })
          (cases_do cases next end w ok.2 home links.1 (omega (arith, holds, le-max_right (stats_level ss d) (cases_level cases d))) (record { rest = st.rest; here = h3 }) len2 c)
        where
          taken : (b : Bool) → Goes (items_of ss ++ after) (from p k) → Does program here (Leaves after) w (from (arm_place program own cases (p + length (stats_code program own ss p x d) + 1) x d (arm_of z cases)) k) (case_of z cases) → Does program here (Leaves after) w (from (arm_place program own (OfLabels rs ss cases) p x d (if b then 0 else suc (arm_of z cases))) k) (if b then Val (Into (items_of ss)) else case_of z cases)
          taken true on_hit others = on_hit
          taken false on_hit others = others

  module _ (typed : HasTypes program) (shaped : HasShapes program tables) (x : Ways) (d : ℕ) (k : Keeps) (after : List Item) where
    -- with a selector of this type
    selected : (of_type : TType) (there : Pos) (e : Expr) (cases : Cases) → is_basic of_type ≡ true → IsOf program own e of_type → StatementDoes program own tables number here code x d k after (Case there e cases)
    selected of_type there e cases basic of w at known has c =
        let rest = has.stands.rest in
        let c1 = value_code program own e (at + 1) in
        let pk = at + 1 + length c1 in
        let ps = pk + 1 in
        let t = search_of cases in
        let pa = ps + search_size t in
        let end = pa + length (cases_code program own cases pa 0 x d) in
        let place = arm_place program own cases pa x d in
        let search = search_code place (arms_in cases) t d ps in
        let cs = cases_code program own cases pa end x d in
        let tail = search ++ (cs ++ rest) in
        let size : length search ≡ search_size t = search_length place (arms_in cases) t d ps in
        let z : end ≡ pa + length cs = ap (λ n. pa + n) (cases_length program own cases pa 0 end x.within x.exit x.exit d) in
        let h1 : drop (at + 1) code ≡ c1 ++ (i.Keep d N ∷ tail) =
        drop_next at code (begin there) ((c1 ++ (i.Keep d N ∷ (search ++ cs))) ++ rest) has.stands.here ∙ append_assoc c1 (i.Keep d N ∷ (search ++ cs)) rest
        ∙ ap (λ l. c1 ++ (i.Keep d N ∷ l)) (append_assoc search cs rest) in
        let h3 : drop ps code ≡ tail = drop_next pk code (i.Keep d N) tail (drop_past c1 (at + 1) code (i.Keep d N ∷ tail) h1) in
        let h4 : drop pa code ≡ cs ++ rest = ap (λ n. drop (ps + n) code) (sym size) ∙ drop_past search ps code (cs ++ rest) h3 in
        let len : at + suc (length (c1 ++ (i.Keep d N ∷ (search ++ cs)))) ≡ end = omega (arith, z, size, length-append c1 (i.Keep d N ∷ (search ++ cs)), length-append search cs) in
        let room : d < keeps_in (numbered tables.procedures number) = omega (arith, has.holds, le-max_left (suc d) (cases_level cases d)) in
        let more : Holds program own tables number here code (cases_level cases d) = omega (arith, has.holds, le-max_right (suc d) (cases_level cases d)) in
        let f : Value → Doing After = λ v. case_of (number_of v) cases in
        along program here (Leaves after) w _ _ (bind (value_of program here e) f) (from_here program own tables number here code (at + 1) (c1 ++ (i.Keep d N ∷ tail)) k [] h1 ∙ ap (λ l. onward l 0 (at + 1) k []) (sym (append_assoc c1 (i.Keep d N ∷ []) tail)))
        (operand_does program own tables number here code (Leaves after) of_type f c1 (i.Keep d N ∷ []) (value_of program here e) (at + 1) tail k [] (value_does program own tables number here code typed shaped e of_type basic of (at + 1)) w known
        (λ w' up v m is e'.
        let n = number_of v in
        let k' = kept d (Num n) k in
        let here_kept = kept_here d (Num n) k in
        along program here (Leaves after) w' m _ (f v)
        (e' ∙ keeps_number program own tables number here code d n tail pk k [] room ∙ sym (from_here program own tables number here code ps tail k' [] h3)
        ∙ search_runs n d k' room here_kept place (arms_in cases) t ps (cs ++ rest) (arm_ahead program own cases pa x d) h3
        ∙ ap (λ a. from (place a) k') (found_first n cases has.typed.1))
        (cases_do n d k' room here_kept x after cases pa end w' has.typed.2 has.home has.linked more (record { rest = rest; here = h4 }) z
        (survives program own tables number here code after end x d k k' (kept_below d d (Num n) k (omega arith)) (subst (λ q. Carries program own tables number here code after q x d k) len c)))))

    pub case_does : (there : Pos) (e : Expr) (cases : Cases) → StatementDoes program own tables number here code x d k after (Case there e cases)
    case_does there e cases w at known has c = by has.typed.0
      where
        by : IsOf program own e (type.Integer W64) ⊎ IsOf program own e type.Char → Does program here (Leaves after) w (from (at + 1) k) (stat_of program here (Case there e cases))
        by (inl h) = selected (type.Integer W64) there e cases refl h w at known has c
        by (inr h) = selected type.Char there e cases refl h w at known has c
