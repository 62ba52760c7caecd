-- The code of FOR does what FOR does: its last value is kept, and each round finds it there, since what is in a round keeps nothing under
-- its number.
use Rattle.std.proofs.Common.{◌≡◌, ℕ, suc, ℤ, ◌+◌, ◌<◌, ◌≤◌, Bool, true, false, Option, List, [], ◌∷◌, ◌++◌, length, drop, if◌then◌else◌, refl, sym, ap, ◌∙◌, subst, arith, append_assoc, length-append}
use Rattle.std.proofs.Common.{inl}
use Rattle.aos_base.specs.declared.number.Width.{Width}
use Rattle.aos_base.specs.declared.number.Relation.{Relation}
use Rattle.aos_base.specs.declared.operator.Binary.TheVariants.{Cmp}
use Rattle.aos_base.specs.declared.text.Pos.{Pos}
use Rattle.aos_base.specs.Number.{holds}
use Rattle.aos_base.specs.Question.{Val, bind}
use Rattle.aos_types.specs.World.{World}
use Rattle.aos_typed.specs.declared.tree.TType.TheVariants.{Integer}
use Rattle.aos_typed.specs.Program.{Place, Expr, Read, Assign, For, Stats, Procedure, Program}
use Rattle.aos_typed.specs.Sort.{Sort}
use Rattle.aos_typed.specs.Value.{Value, number_of}
use Rattle.aos_typed.specs.Meaning.{Here, Doing, Item, Do, Rounds, After, Into, items_of, value_of, until, next_value, rounds_of}
use Rattle.aos_code.specs.declared.instr.Cell.TheVariants.{Num}
use Rattle.aos_code.specs.declared.instr.Instr.{Instr}
use Rattle.aos_code.specs.declared.instr.Instr.TheVariants as i
use Rattle.aos_code.specs.declared.instr.Kind.TheVariants.{N}
use Rattle.aos_code.specs.Numbered.{numbered}
use Rattle.aos_code.specs.Silent.{Keeps, kept, keeps_in}
use Rattle.aos_sim.specs.Code.{Ways, begin, value_code, assign_code, for_head, step_code, body_place, stats_code, rounds_code}
use Rattle.aos_sim.specs.Need.{stats_level}
use Rattle.aos_sim.proofs.Runs.{Run, Onward, Tables, runs, run, drop_next, drop_past}
use Rattle.aos_sim.proofs.Does.{HasTypes, HasShapes, Does, along, Knows}
use Rattle.aos_sim.proofs.Evaluates.{operand_does}
use Rattle.aos_sim.proofs.Exprs.{value_does}
use Rattle.aos_sim.proofs.Sizes.{stats_above, round_length}
use Rattle.aos_sim.proofs.Carries.{kept_here, kept_below, Same, HasStatement, HasStatements, HasRounds, Carries, bound, survives, GoesOn, Behind, carries_all, StatementDoes}
use Rattle.aos_sim.proofs.Stats.{from_here, jumps_on, jumps_back, keeps_number, takes_number}
use Rattle.aos_sim.proofs.Loops.{jumps_if}
use Rattle.aos_sim.proofs.Changes.{includes_itself}

-- where the code of a FOR stands before its rounds, whatever these are
head_stands : (code : List Instr) (at : ℕ) (there : Pos) (v : List Instr) (keep : Instr) (a more rest : List Instr) → drop at code ≡ ((begin there ∷ (v ++ (keep ∷ a))) ++ more) ++ rest → drop at code ≡ begin there ∷ (v ++ (keep ∷ (a ++ (more ++ rest))))
head_stands code at there v keep a more rest e =
    e ∙ append_assoc (begin there ∷ (v ++ (keep ∷ a))) more rest ∙ ap (λ l. begin there ∷ l) (append_assoc v (keep ∷ a) (more ++ rest))

module _ (program : Program) (own : Option Procedure) (tables : Tables) (number : ℕ) (here : Here) (code : List Instr) (typed : HasTypes program) (shaped : HasShapes program tables) where
  abbrev onward : List Instr → Onward
  onward = runs tables number here code

  abbrev from : ℕ → Keeps → Run
  from p k = run tables number here code p k []

  abbrev Leaves : List Item → World Sort → After → Run → Type 0
  Leaves = Behind program own tables number here code

  abbrev Carried : List Item → (at : ℕ) → Ways → (level : ℕ) → Keeps → Type 0
  Carried = Carries program own tables number here code

  -- one round, where the last value is kept
  module _ (there : Pos) (w : Width) (q : Place) (last step : ℤ) (b : Stats) (x : Ways) (e : ℕ) (k : Keeps) (after : List Item) where
    abbrev rounds : Item
    rounds = Rounds there w q last step b

    abbrev next : Item
    next = Do (next_value there w q step)

    -- the statements of a round, the step, and the rounds that follow
    abbrev body : List Item
    body = items_of b ++ next ∷ (rounds ∷ [])

    body_carries : (at pb : ℕ) (rest : List Instr) → let b1 = stats_code program own b pb x (suc e) in let inc = step_code program own there w q step (pb + length b1) in
        HasRounds program own tables number here code there w q step b at x e → pb + length b1 + length inc ≤ x.exit → drop pb code ≡ b1 ++ (inc ++ rest) → Carried (rounds ∷ after) (pb + length b1 + length inc) x (suc e) k → Carried (body ++ after) pb x (suc e) k
    body_carries at pb rest has le st again =
        let b1 = stats_code program own b pb x (suc e) in
        let pi = pb + length b1 in
        let inc = step_code program own there w q step pi in
        let room : suc e ≤ stats_level b (suc e) = stats_above b (suc e) in
        let includes = includes_itself w in
        let step_has : HasStatement program own tables number here code (next_value there w q step) pi x (suc e) = record { stands = record { rest = rest; here = drop_past b1 pb code (inc ++ rest) st }; typed = (has.place, refl, (((has.place, refl, inl includes), inl has.within), includes)); home = has.home; linked = tt; holds = omega (arith, room, has.holds) } in
        let inner : HasStatements program own tables number here code b pb x (suc e) = record { stands = record { rest = inc ++ rest; here = st }; typed = has.body; home = has.home; linked = has.linked; holds = has.holds } in
        subst (λ is. Carried is pb x (suc e) k) (sym (append_assoc (items_of b) (next ∷ (rounds ∷ [])) after))
        (carries_all program own tables number here code b pb x (suc e) k (next ∷ (rounds ∷ after)) inner (pi, omega (arith, le), (λ k' s. refl), step_has, again))

    chosen : (c : Bool) (p over : ℕ) (m : Run) → m ≡ from (if c then p else over) k → Carried (body ++ after) p x (suc e) k → Carried after over x e k → GoesOn program own tables number here code ((if c then body else []) ++ after) m
    chosen true p over m runs inside behind = record { at = p; ways = x; level = suc e; keeps = k; runs = runs; carries = inside }
    chosen false p over m runs inside behind = record { at = over; ways = x; level = e; keeps = k; runs = runs; carries = behind }

    -- rounds whose test compares the variable with the last value by any relation that holds where the meaning's does
    rounds_by : (r : Relation) → ((z : ℤ) → holds r z last ≡ holds (until step) z last) → (world : World Sort) (at : ℕ) → Knows program own here world → (has : HasRounds program own tables number here code there w q step b at x e) → let ct = value_code program own (Read (Integer w) q) (at + 1) in let test = ct ++ (i.Kept e N ∷ (i.Binary (Cmp r) ∷ [])) in let pb = body_place program own w q at in let b1 = stats_code program own b pb x (suc e) in let inc = step_code program own there w q step (pb + length b1) in
        drop at code ≡ (begin there ∷ (test ++ (i.JumpFalse (at + 1 + length test + 1 + length b1 + length inc + 1) ∷ (b1 ++ (inc ++ i.Jump at ∷ []))))) ++ has.stands.rest → k e ≡ Num last → Carries program own tables number here code after (at + length (rounds_code program own there w q step b at x e)) x e k → Does program here (Behind program own tables number here code after) world (run tables number here code (at + 1) k []) (rounds_of program here there w q last step b)
    rounds_by r asked world at known has here_is is_last c =
        let rest = has.stands.rest in
        let ct = value_code program own (Read (Integer w) q) (at + 1) in
        let compare = i.Binary (Cmp r) in
        let pair = i.Kept e N ∷ (compare ∷ []) in
        let test = ct ++ pair in
        let pb = body_place program own w q at in
        let b1 = stats_code program own b pb x (suc e) in
        let pi = pb + length b1 in
        let inc = step_code program own there w q step pi in
        let over = at + 1 + length test + 1 + length b1 + length inc + 1 in
        let pj = pi + length inc in
        let back = i.Jump at ∷ rest in
        let rest2 = b1 ++ (inc ++ back) in
        let tail = i.JumpFalse over ∷ rest2 in
        let pt = at + 1 + length ct in
        let flat : (test ++ (i.JumpFalse over ∷ (b1 ++ (inc ++ i.Jump at ∷ [])))) ++ rest ≡ test ++ tail = append_assoc test (i.JumpFalse over ∷ (b1 ++ (inc ++ i.Jump at ∷ []))) rest ∙ ap (λ l. test ++ (i.JumpFalse over ∷ l)) (append_assoc b1 (inc ++ i.Jump at ∷ []) rest ∙ ap (λ l. b1 ++ l) (append_assoc inc (i.Jump at ∷ []) rest)) in
        let h0 : drop at code ≡ begin there ∷ (test ++ tail) = here_is ∙ ap (λ l. begin there ∷ l) flat in
        let h1 : drop (at + 1) code ≡ test ++ tail = drop_next at code (begin there) (test ++ tail) h0 in
        let h2 : drop pt code ≡ pair ++ tail = drop_past ct (at + 1) code (pair ++ tail) (h1 ∙ append_assoc ct pair tail) in
        let h4 : drop (pt + 1 + 1) code ≡ tail = drop_next (pt + 1) code compare tail (drop_next pt code (i.Kept e N) (compare ∷ tail) h2) in
        let h5 : drop (pt + 1 + 1 + 1) code ≡ rest2 = drop_next (pt + 1 + 1) code (i.JumpFalse over) rest2 h4 in
        let lc : pt + 1 + 1 + 1 ≡ pb = omega arith in
        let lt : length test ≡ length ct + 2 = length-append ct pair in
        let h6 : drop pb code ≡ rest2 = ap (λ n. drop n code) (sym lc) ∙ h5 in
        let h7 : drop pj code ≡ back = drop_past inc pi code back (drop_past b1 pb code (inc ++ back) h6) in
        let z : pj + 1 ≡ over = omega (arith, lt, lc) in
        let len : at + length (rounds_code program own there w q step b at x e) ≡ over = omega (arith, round_length there ct step e b1 inc at, lt) in
        let c' : Carried after over x e k = subst (λ n. Carried after n x e k) len c in
        let ends : over ≤ x.exit = bound program own tables number here code after over x e k c' in
        let again_back : Same program own tables number here code pj at = λ k' s. from_here program own tables number here code pj back k' s h7 ∙ jumps_back program own tables number here code at pj there rest (test ++ tail) k' s (omega arith) h0 in
        let again : Carried (rounds ∷ after) pj x (suc e) k = (at, omega (arith, ends, z), again_back, (e, omega arith, has, is_last, c)) in
        let inside = subst (λ n. Carried (body ++ after) n x (suc e) k) (sym lc) (body_carries at pb back has (omega (arith, ends, z)) h6 again) in
        let room : e < keeps_in (numbered tables.procedures number) = omega (arith, stats_above b (suc e), has.holds) in
        let f : Value → Doing After = λ v. Val (Into (if holds (until step) (number_of v) last then body else [])) in
        along program here (Leaves after) world _ _ (bind (value_of program here (Read (Integer w) q)) f) (from_here program own tables number here code (at + 1) (test ++ tail) k [] h1)
        (operand_does program own tables number here code (Leaves after) (Integer w) f ct pair (value_of program here (Read (Integer w) q)) (at + 1) tail k []
        (value_does program own tables number here code typed shaped (Read (Integer w) q) (Integer w) refl (has.place, refl, inl (includes_itself w)) (at + 1)) world known
        (λ w' up v m is e'.
        let c = holds r (number_of v) last in
        chosen (holds (until step) (number_of v) last) (pt + 1 + 1 + 1) over m
        (e' ∙ takes_number program own tables number here code e last (compare ∷ tail) pt k (Num (number_of v) ∷ []) room is_last
        ∙ jumps_if program own tables number here code c over (pt + 1 + 1) rest2 k (jumps_on program own tables number here code rest2 over (pt + 1 + 1) k [] (omega (arith, lt)) h5) h5
        ∙ ap (λ d. from (if d then pt + 1 + 1 + 1 else over) k) (asked (number_of v)))
        inside c'))

    pub rounds_does : (world : World Sort) (at : ℕ) → Knows program own here world → HasRounds program own tables number here code there w q step b at x e → k e ≡ Num last → Carries program own tables number here code after (at + length (rounds_code program own there w q step b at x e)) x e k → Does program here (Behind program own tables number here code after) world (run tables number here code (at + 1) k []) (rounds_of program here there w q last step b)
    rounds_does world at known has is_last c = rounds_by _ (λ z. refl) world at known has has.stands.here is_last c

  -- FOR up to its first round
  module _ (x : Ways) (d : ℕ) (k : Keeps) (after : List Item) where
    pub for_does : (there : Pos) (w : Width) (q : Place) (first to : Expr) (step : ℤ) (b : Stats) → StatementDoes program own tables number here code x d k after (For there w q first to step b)
    for_does there w q first to step b world at known has c =
        let rest = has.stands.rest in
        let ce = value_code program own to (at + 1) in
        let pk = at + 1 + length ce in
        let pa = pk + 1 in
        let ca = assign_code program own there (Integer w) q first pa in
        let head = for_head program own there w q first to at d in
        let t = at + length head in
        let c2 = rounds_code program own there w q step b t x d in
        let h1 = drop_next at code (begin there) _ (head_stands code at there ce (i.Keep d N) ca _ rest has.stands.here) in
        let h2 = drop_next pk code (i.Keep d N) _ (drop_past ce (at + 1) code _ h1) in
        let lh : pa + length ca ≡ t = omega (arith, length-append ce (i.Keep d N ∷ ca)) in
        let h4 : drop t code ≡ c2 ++ rest = ap (λ n. drop n code) (sym lh) ∙ drop_past ca pa code _ h2 in
        let rest2 = ca ++ (c2 ++ rest) in
        let h3 : drop pa code ≡ rest2 = h2 in
        let len : at + length (head ++ c2) ≡ t + length c2 = omega (arith, length-append head c2) in
        let c' : Carried after (t + length c2) x d k = subst (λ n. Carried after n x d k) len c in
        let ends = bound program own tables number here code after (t + length c2) x d k c' in
        let room = stats_above b (suc d) in
        let round_has : HasRounds program own tables number here code there w q step b t x d = record { stands = record { rest = rest; here = h4 }; place = has.typed.1; within = has.typed.4; body = has.typed.5; home = has.home; linked = has.linked; holds = has.holds } in
        let first_has : HasStatement program own tables number here code (Assign there (Integer w) q first) pa x (suc d) = record { stands = record { rest = c2 ++ rest; here = h3 }; typed = (has.typed.1, refl, has.typed.2); home = has.home; linked = tt; holds = omega (arith, room, has.holds) } in
        let f : Value → Doing After = λ v. Val (Into (Do (Assign there (Integer w) q first) ∷ (Rounds there w q (number_of v) step b ∷ []))) in
        along program here (Leaves after) world _ _ (bind (value_of program here to) f) (from_here program own tables number here code (at + 1) (ce ++ (i.Keep d N ∷ rest2)) k [] h1 ∙ ap (λ l. onward l 0 (at + 1) k []) (sym (append_assoc ce (i.Keep d N ∷ []) rest2)))
        (operand_does program own tables number here code (Leaves after) (Integer w) f ce (i.Keep d N ∷ []) (value_of program here to) (at + 1) rest2 k []
        (value_does program own tables number here code typed shaped to (Integer w) refl has.typed.3 (at + 1)) world known
        (λ w' up v m is e'.
        let last = number_of v in
        let k' = kept d (Num last) k in
        let behind = survives program own tables number here code after (t + length c2) x d k k' (kept_below d d (Num last) k (omega arith)) c' in
        let round : Carried (Rounds there w q last step b ∷ after) t x (suc d) k' = (t, omega (arith, ends), (λ k s. refl), (d, omega arith, round_has, kept_here d (Num last) k, behind)) in
        let all : Carried (Do (Assign there (Integer w) q first) ∷ (Rounds there w q last step b ∷ after)) pa x (suc d) k' = (pa, omega (arith, ends, lh), (λ k s. refl), first_has, subst (λ n. Carried (Rounds there w q last step b ∷ after) n x (suc d) k') (sym lh) round) in
        record {
          at = pa;
          ways = x;
          level = suc d;
          keeps = k';
          runs = e' ∙ keeps_number program own tables number here code d last rest2 pk k [] (omega (arith, room, has.holds)) ∙ sym (from_here program own tables number here code pa rest2 k' [] h3);
          carries = all;
        }))
