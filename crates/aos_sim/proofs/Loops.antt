-- The code of IF, WHILE, REPEAT and LOOP does what these do.
use Rattle.std.proofs.Common.{◌≡◌, ℕ, suc, ◌+◌, ◌≤◌, Bool, true, false, Option, List, [], ◌∷◌, ◌++◌, length, drop, if◌then◌else◌, refl, sym, ap, ◌∙◌, subst, arith, append_assoc, length-append}
use Rattle.std.proofs.Math.Nat.{le-max_left, le-max_right}
use Rattle.aos_base.specs.declared.text.Pos.{Pos}
use Rattle.aos_base.specs.Operators.{flag}
use Rattle.aos_base.specs.Question.{Val, bind}
use Rattle.aos_types.specs.World.{World, Grows}
use Rattle.aos_typed.specs.declared.tree.TType.TheVariants as type
use Rattle.aos_typed.specs.Program.{Expr, If, While, Repeat, Loop, Stats, Arms, Otherwise, Arm, Procedure, Program}
use Rattle.aos_typed.specs.Sort.{Sort}
use Rattle.aos_typed.specs.Value.{Value, Flag, is_true}
use Rattle.aos_typed.specs.Meaning.{Here, Doing, Item, Do, Round, Until, After, Into, items_of, value_of, arms_of, item_of}
use Rattle.aos_typed.specs.Conditions.{conditions, AreArmsLinked}
use Rattle.aos_typed.specs.WellTyped.{IsOf, AreArms}
use Rattle.aos_code.specs.declared.instr.Cell.TheVariants.{Num}
use Rattle.aos_code.specs.declared.instr.Instr.{Instr}
use Rattle.aos_code.specs.declared.instr.Instr.TheVariants as i
use Rattle.aos_code.specs.Silent.{Keeps, Stack, jumps}
use Rattle.aos_sim.specs.Code.{Ways, loop_within, loop_ways, begin, value_code, stat_code, stats_code, arms_code}
use Rattle.aos_sim.specs.Need.{stats_level, arms_level}
use Rattle.aos_sim.proofs.Runs.{Tables, Run, Onward, on_run, runs, run, drop_next, drop_past}
use Rattle.aos_sim.proofs.Does.{HasTypes, HasShapes, Does, along, Knows, knows_grows}
use Rattle.aos_sim.proofs.Evaluates.{operand_does}
use Rattle.aos_sim.proofs.Shortcuts.{by_flag}
use Rattle.aos_sim.proofs.Exprs.{value_does}
use Rattle.aos_sim.proofs.Sizes.{stats_length, arms_length}
use Rattle.aos_sim.proofs.Carries.{Stands, Same, Holds, HasStatement, HasStatements, Carries, bound, moved, GoesOn, Behind, carries_all, StatementDoes}
use Rattle.aos_sim.proofs.Stats.{from_here, jumps_on, jumps_back}

-- where the code of a loop stands that begins with a test, wherever its jumps lead
loop_stands : (code : List Instr) (at : ℕ) (there : Pos) (c b rest : List Instr) (over back : ℕ) → drop at code ≡ (begin there ∷ (c ++ (i.JumpFalse over ∷ (b ++ i.Jump back ∷ [])))) ++ rest → drop at code ≡ begin there ∷ (c ++ (i.JumpFalse over ∷ (b ++ (i.Jump back ∷ rest))))
loop_stands code at there c b rest over back e =
    e ∙ ap (λ l. begin there ∷ l) (append_assoc c (i.JumpFalse over ∷ (b ++ i.Jump back ∷ [])) rest ∙ ap (λ l. c ++ (i.JumpFalse over ∷ l)) (append_assoc b (i.Jump back ∷ []) rest))

-- and of one that ends with a test, whatever is behind that
tested_stands : (code : List Instr) (at : ℕ) (there : Pos) (b c last rest : List Instr) → drop at code ≡ (begin there ∷ (b ++ (c ++ last))) ++ rest → drop at code ≡ begin there ∷ (b ++ (c ++ (last ++ rest)))
tested_stands code at there b c last rest e =
    e ∙ ap (λ l. begin there ∷ l) (append_assoc b (c ++ last) rest ∙ ap (λ l. b ++ l) (append_assoc c last rest))

module _ (program : Program) (own : Option Procedure) (tables : Tables) (number : ℕ) (here : Here) (code : List Instr) where
  abbrev onward : List Instr → Onward
  onward = runs tables number here code

  abbrev from : ℕ → Keeps → Stack → Run
  from = run tables number here code

  abbrev Leaves : List Item → World Sort → After → Run → Type 0
  Leaves = Behind program own tables number here code

  abbrev Goes : List Item → Run → Type 0
  Goes = GoesOn program own tables number here code

  -- a jump that a condition decides
  pub jumps_if : (b : Bool) (to p : ℕ) (rest : List Instr) (k : Keeps) → on_run tables (jumps code to p []) (runs tables number here code rest) p k ≡ run tables number here code to k [] → drop (p + 1) code ≡ rest → runs tables number here code (i.JumpFalse to ∷ rest) 0 p k (Num (flag b) ∷ []) ≡ run tables number here code (if b then p + 1 else to) k []
  jumps_if true to p rest k jump e = sym (from_here program own tables number here code (p + 1) rest k [] e)
  jumps_if false to p rest k jump e = jump

  module _ (typed : HasTypes program) (shaped : HasShapes program tables) where
    -- A condition, and the jump that it decides. What follows goes on behind it where it is TRUE, and else where the jump leads.
    pub test_does : (e : Expr) (f : Value → Doing After) (after : List Item) (p to : ℕ) (rest : List Instr) (k : Keeps) (w : World Sort) → let c = value_code program own e p in let q = p + length c in
        Knows program own here w → IsOf program own e type.Boolean → drop p code ≡ c ++ (i.JumpFalse to ∷ rest) → on_run tables (jumps code to q []) (runs tables number here code rest) q k ≡ run tables number here code to k [] →
        ((w' : World Sort) → Grows w w' → Does program here (Behind program own tables number here code after) w' (run tables number here code (q + 1) k []) (f (Flag true))) →
        ((w' : World Sort) → Grows w w' → Does program here (Behind program own tables number here code after) w' (run tables number here code to k []) (f (Flag false))) →
        Does program here (Behind program own tables number here code after) w (run tables number here code p k []) (bind (value_of program here e) f)
    test_does e f after p to rest k w known ok st jump held failed =
        let c = value_code program own e p in
        let q = p + length c in
        let last = i.JumpFalse to ∷ [] in
        let next : drop (q + 1) code ≡ rest = drop_next q code (i.JumpFalse to) rest (drop_past c p code (i.JumpFalse to ∷ rest) st) in
        along program here (Leaves after) w _ _ (bind (value_of program here e) f) (from_here program own tables number here code p (c ++ (i.JumpFalse to ∷ rest)) k [] st ∙ ap (λ l. onward l 0 p k []) (sym (append_assoc c last rest)))
        (operand_does program own tables number here code (Leaves after) type.Boolean f c last (value_of program here e) p rest k [] (value_does program own tables number here code typed shaped e type.Boolean refl ok p) w known
        (λ w' up. by_flag program own tables number here code (Leaves after) f (i.JumpFalse to ∷ rest) q k [] w'
        (λ b m e'. along program here (Leaves after) w' m _ (f (Flag b)) (e' ∙ jumps_if b to q rest k jump next) (told b q w' (held w' up) (failed w' up)))))
      where
        told : (b : Bool) (q : ℕ) (w' : World Sort) → Does program here (Leaves after) w' (from (q + 1) k []) (f (Flag true)) → Does program here (Leaves after) w' (from to k []) (f (Flag false)) → Does program here (Leaves after) w' (from (if b then q + 1 else to) k []) (f (Flag b))
        told true q w' held failed = held
        told false q w' held failed = failed

    module _ (x : Ways) (d : ℕ) (k : Keeps) (after : List Item) where
      abbrev Carried : List Item → ℕ → Type 0
      Carried is p = Carries program own tables number here code is p x d k

      -- the arms of IF, from the first test on: each leads on to the same end
      arms_do : (arms : Arms) (p end : ℕ) (w : World Sort) → Knows program own here w → AreArms program own arms → (home : ℕ) → AreArmsLinked (conditions program) home own arms → Holds program own tables number here code (arms_level arms d) → Stands code p (arms_code program own arms p end x d) → end ≡ p + length (arms_code program own arms p end x d) → Carried after end → Does program here (Leaves after) w (from p k []) (arms_of program here arms)
      arms_do (Otherwise ss) p end w known ok home links holds st z c =
          let has : HasStatements program own tables number here code ss p x d = record { stands = st; typed = ok; home = home; linked = links; holds = holds } in
          record { at = p; ways = x; level = d; keeps = k; runs = refl; carries = carries_all program own tables number here code ss p x d k after has (subst (Carried after) z c) }
      arms_do (Arm e ss arms) p end w known ok home links holds st z c =
          let c1 = value_code program own e p in
          let q = p + length c1 in
          let hit = q + 1 in
          let b = stats_code program own ss hit x d in
          let pj = hit + length b in
          let next = pj + 1 in
          let more = arms_code program own arms next end x d in
          let rest2 = more ++ st.rest in
          let rest1 = b ++ (i.Jump end ∷ rest2) in
          let tail = i.JumpFalse next ∷ (b ++ (i.Jump end ∷ more)) in
          let flat : (c1 ++ tail) ++ st.rest ≡ c1 ++ (i.JumpFalse next ∷ rest1) = append_assoc c1 tail st.rest ∙ ap (λ l. c1 ++ (i.JumpFalse next ∷ l)) (append_assoc b (i.Jump end ∷ more) st.rest) in
          let h0 : drop p code ≡ c1 ++ (i.JumpFalse next ∷ rest1) = st.here ∙ flat in
          let h1 : drop hit code ≡ rest1 = drop_next q code (i.JumpFalse next) rest1 (drop_past c1 p code (i.JumpFalse next ∷ rest1) h0) in
          let h2 : drop pj code ≡ i.Jump end ∷ rest2 = drop_past b hit code (i.Jump end ∷ rest2) h1 in
          let h3 : drop next code ≡ rest2 = drop_next pj code (i.Jump end) rest2 h2 in
          let z2 : end ≡ next + length more = omega (arith, z, length-append c1 tail, length-append b (i.Jump end ∷ more)) in
          let le : end ≤ x.exit = bound program own tables number here code after end x d k c in
          let over : Same program own tables number here code pj end = λ k' s. from_here program own tables number here code pj (i.Jump end ∷ rest2) k' s h2 ∙ jumps_on program own tables number here code rest2 end pj k' s (omega (arith, z2)) h3 in
          let has : HasStatements program own tables number here code ss hit x d = record { stands = record { rest = i.Jump end ∷ rest2; here = h1 }; typed = ok.1; home = home; linked = links.0; holds = omega (arith, holds, le-max_left (stats_level ss d) (arms_level arms d)) } in
          let row = carries_all program own tables number here code ss hit x d k after has (moved program own tables number here code after pj end x d k (omega (arith, z2, le)) over c) in
          let taken : Goes (items_of ss ++ after) (from hit k []) = record { at = hit; ways = x; level = d; keeps = k; runs = refl; carries = row } in
          test_does e (λ v. if is_true v then Val (Into (items_of ss)) else arms_of program here arms) after p next rest1 k w known ok.0 h0
          (jumps_on program own tables number here code rest1 next q k [] (omega arith) h1)
          (λ w' up. taken)
          (λ w' up. arms_do arms next end w' (knows_grows program own here w w' up known) ok.2 home links.1 (omega (arith, holds, le-max_right (stats_level ss d) (arms_level arms d))) (record { rest = st.rest; here = h3 }) z2 c)

      pub if_does : (there : Pos) (arms : Arms) → StatementDoes program own tables number here code x d k after (If there arms)
      if_does there arms w at known has c =
          let end = at + 1 + length (arms_code program own arms (at + 1) 0 x d) in
          let cs = arms_code program own arms (at + 1) end x d in
          let rest = has.stands.rest in
          let z : end ≡ at + 1 + length cs = ap (λ n. at + 1 + n) (arms_length program own arms (at + 1) 0 end x.within x.exit x.exit d) in
          let len : at + suc (length cs) ≡ end = omega (arith, z) in
          arms_do arms (at + 1) end w known has.typed has.home has.linked has.holds (record { rest = rest; here = drop_next at code (begin there) (cs ++ rest) has.stands.here }) z (subst (Carried after) len c)

      pub while_does : (there : Pos) (e : Expr) (b : Stats) → StatementDoes program own tables number here code x d k after (While there e b)
      while_does there e b w at known has c =
          let l = While there e b in
          let rest = has.stands.rest in
          let c1 = value_code program own e (at + 1) in
          let p = at + 1 + length c1 in
          let pb = p + 1 in
          let b1 = stats_code program own b pb x d in
          let pj = pb + length b1 in
          let end = pj + 1 in
          let h0 = loop_stands code at there c1 b1 rest _ _ has.stands.here in
          let h1 = drop_next at code (begin there) _ h0 in
          let h3 : drop pb code ≡ _ = drop_next p code _ _ (drop_past c1 (at + 1) code _ h1) in
          let h4 : drop pj code ≡ _ = drop_past b1 pb code _ h3 in
          let back : Same program own tables number here code pj at = λ k' s. from_here program own tables number here code pj (i.Jump at ∷ rest) k' s h4 ∙ jumps_back program own tables number here code at pj there rest _ k' s (omega arith) h0 in
          let rest1 = b1 ++ (i.Jump at ∷ rest) in
          let tail = i.JumpFalse end ∷ (b1 ++ i.Jump at ∷ []) in
          let h5 : drop end code ≡ rest = drop_next pj code (i.Jump at) rest h4 in
          let len : at + suc (length (c1 ++ tail)) ≡ end = omega (arith, length-append c1 tail, length-append b1 (i.Jump at ∷ [])) in
          let c' : Carried after end = subst (Carried after) len c in
          let le : end ≤ x.exit = bound program own tables number here code after end x d k c' in
          let again : Carried (Do l ∷ after) pj = (at, omega (arith, le), back, has, c) in
          let inner : HasStatements program own tables number here code b pb x d = record { stands = record { rest = i.Jump at ∷ rest; here = h3 }; typed = has.typed.1; home = has.home; linked = has.linked; holds = has.holds } in
          let body : Carried ((items_of b ++ Do l ∷ []) ++ after) pb = subst (λ is. Carried is pb) (sym (append_assoc (items_of b) (Do l ∷ []) after)) (carries_all program own tables number here code b pb x d k (Do l ∷ after) inner again) in
          test_does e (λ v. Val (Into (if is_true v then items_of b ++ Do l ∷ [] else []))) after (at + 1) end rest1 k w known has.typed.0 h1
          (jumps_on program own tables number here code rest1 end p k [] (omega arith) h3)
          (λ w' up. record { at = pb; ways = x; level = d; keeps = k; runs = refl; carries = body })
          (λ w' up. record { at = end; ways = x; level = d; keeps = k; runs = refl; carries = c' })

      -- the statements of LOOP lead back to it, and EXIT behind it
      pub loop_does : (there : Pos) (b : Stats) → StatementDoes program own tables number here code x d k after (Loop there b)
      loop_does there b w at known has c =
          let l = Loop there b in
          let rest = has.stands.rest in
          let out = at + 1 + length (stats_code program own b (at + 1) (loop_ways 0 x) d) + 1 in
          let y = loop_ways out x in
          let b1 = stats_code program own b (at + 1) y d in
          let pj = at + 1 + length b1 in
          let size = stats_length program own b (at + 1) (loop_within x.within) 0 out d in
          let h0 : drop at code ≡ begin there ∷ (b1 ++ (i.Jump at ∷ rest)) = has.stands.here ∙ ap (λ l. begin there ∷ l) (append_assoc b1 (i.Jump at ∷ []) rest) in
          let h1 : drop (at + 1) code ≡ b1 ++ (i.Jump at ∷ rest) = drop_next at code (begin there) (b1 ++ (i.Jump at ∷ rest)) h0 in
          let h2 : drop pj code ≡ i.Jump at ∷ rest = drop_past b1 (at + 1) code (i.Jump at ∷ rest) h1 in
          let len : out ≡ at + suc (length (b1 ++ i.Jump at ∷ [])) = omega (arith, size, length-append b1 (i.Jump at ∷ [])) in
          let back : Same program own tables number here code pj at = λ k' s. from_here program own tables number here code pj (i.Jump at ∷ rest) k' s h2 ∙ jumps_back program own tables number here code at pj there rest (b1 ++ (i.Jump at ∷ rest)) k' s (omega arith) h0 in
          let inner : HasStatements program own tables number here code b (at + 1) y d = record { stands = record { rest = i.Jump at ∷ rest; here = h1 }; typed = has.typed; home = has.home; linked = has.linked; holds = has.holds } in
          let again : Carries program own tables number here code (Round l ∷ after) pj y d k = (at, omega (arith, size), back, (x, has, ap (λ n. loop_ways n x) len, subst (Carried after) (sym len) c)) in
          let all = carries_all program own tables number here code b (at + 1) y d k (Round l ∷ after) inner again in
          record { at = at + 1; ways = y; level = d; keeps = k; runs = refl; carries = subst (λ is. Carries program own tables number here code is (at + 1) y d k) (sym (append_assoc (items_of b) (Round l ∷ []) after)) all }

      -- where the code of a REPEAT has come to its condition
      pub until_does : (there : Pos) (b : Stats) (e : Expr) (w : World Sort) (at : ℕ) → let l = Repeat there b e in Knows program own here w → HasStatement program own tables number here code l at x d → Carries program own tables number here code after (at + length (stat_code program own l at x d)) x d k → Does program here (Behind program own tables number here code after) w (run tables number here code (at + 1 + length (stats_code program own b (at + 1) x d)) k []) (item_of program here (Until there b e))
      until_does there b e w at known has c =
          let l = Repeat there b e in
          let rest = has.stands.rest in
          let b1 = stats_code program own b (at + 1) x d in
          let pc = at + 1 + length b1 in
          let c1 = value_code program own e pc in
          let pj = pc + length c1 in
          let h0 = tested_stands code at there b1 c1 _ rest has.stands.here in
          let h1 = drop_past b1 (at + 1) code _ (drop_next at code (begin there) _ h0) in
          let tested = test_does e (λ v. Val (Into (if is_true v then [] else Do l ∷ []))) after pc at rest k w known has.typed.1 h1 (jumps_back program own tables number here code at pj there rest _ k [] (omega arith) h0) in
          let last = i.JumpFalse at ∷ [] in
          let len : at + suc (length (b1 ++ (c1 ++ last))) ≡ pj + 1 = omega (arith, length-append b1 (c1 ++ last), length-append c1 last) in
          let c' : Carried after (pj + 1) = subst (Carried after) len c in
          let le : pj + 1 ≤ x.exit = bound program own tables number here code after (pj + 1) x d k c' in
          let again : Carried (Do l ∷ after) at = (at, omega (arith, le), (λ k' s. refl), has, c) in
          tested
          (λ w' up. record { at = pj + 1; ways = x; level = d; keeps = k; runs = refl; carries = c' })
          (λ w' up. record { at = at; ways = x; level = d; keeps = k; runs = refl; carries = again })

      pub repeat_does : (there : Pos) (b : Stats) (e : Expr) → StatementDoes program own tables number here code x d k after (Repeat there b e)
      repeat_does there b e w at known has c =
          let l = Repeat there b e in
          let rest = has.stands.rest in
          let b1 = stats_code program own b (at + 1) x d in
          let tail = value_code program own e (at + 1 + length b1) ++ i.JumpFalse at ∷ [] in
          let h1 : drop (at + 1) code ≡ b1 ++ (tail ++ rest) = drop_next at code (begin there) ((b1 ++ tail) ++ rest) has.stands.here ∙ append_assoc b1 tail rest in
          let le : at + suc (length (b1 ++ tail)) ≤ x.exit = bound program own tables number here code after (at + suc (length (b1 ++ tail))) x d k c in
          let inner : HasStatements program own tables number here code b (at + 1) x d = record { stands = record { rest = tail ++ rest; here = h1 }; typed = has.typed.0; home = has.home; linked = has.linked; holds = has.holds } in
          let behind : Carried (Until there b e ∷ after) (at + 1 + length b1) = (at, omega (arith, le, length-append b1 tail), (λ k' s. refl), has, c) in
          let all = carries_all program own tables number here code b (at + 1) x d k (Until there b e ∷ after) inner behind in
          record { at = at + 1; ways = x; level = d; keeps = k; runs = refl; carries = subst (λ is. Carried is (at + 1)) (sym (append_assoc (items_of b) (Until there b e ∷ []) after)) all }
