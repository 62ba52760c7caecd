-- The code of a condition is sound as a condition of the procedure over whose frame it is evaluated.
use Rattle.std.proofs.Common.{◌≡◌, ◌≤◌, ◌<◌, Bool, true, false, ℕ, zero, suc, ◌+◌, List, [], ◌∷◌, ◌++◌, length, map, Option, Some, refl, sym, ap, ◌∙◌, subst, arith, length-append}
use Rattle.std.specs.Prelude.{IsTrue, slice_get, option_map, nat_lt, ◌&&◌, ◌||◌}
use Rattle.std.specs.List.{list_all}
use Rattle.std.proofs.lemmas.Option.{slice_get-map, slice_get_within}
use Rattle.aos_base.specs.Rooted.{by_number}
use Rattle.aos_code.specs.declared.instr.Instr.{Instr}
use Rattle.aos_code.specs.declared.instr.Instr.TheVariants as i
use Rattle.aos_code.specs.declared.instr.Kind.TheVariants.{N}
use Rattle.aos_code.specs.declared.image.Body.{Body}
use Rattle.aos_code.specs.declared.image.Image.{Image}
use Rattle.aos_code.specs.Machine.{may_evaluate}
use Rattle.aos_sound.specs.declared.stand.Role.TheVariants as role
use Rattle.aos_sound.specs.Sound.{Kinds, is_begin, may_stand, IsSound}
use Rattle.aos_typed.specs.declared.tree.TType.TheVariants as type
use Rattle.aos_typed.specs.Program.{Expr, Procedure, Program}
use Rattle.aos_typed.specs.Conditions.{Condition, conditions, HasNoCalls}
use Rattle.aos_typed.specs.Routines.{routines}
use Rattle.aos_typed.specs.WellTyped.{IsOf, IsWellTyped}
use Rattle.aos_sim.specs.Code.{value_code, condition_code}
use Rattle.aos_sim.specs.Need.{value_need}
use Rattle.aos_sim.specs.Shows.{IsCodeOf}
use Rattle.aos_sim.proofs.Verdicts.{Evaluate, value_evaluates, condition_evaluates}
use Rattle.aos_code_soundness.specs.Piece.{Typing, Lies, Within, Round, IsOk, AreOk, Piece}
use Rattle.aos_code_soundness.proofs.Typed.{typed_sound}
use Rattle.aos_code_soundness.proofs.Pieces.{lies_first, lies_second, are_ok_both}
use Rattle.aos_code_soundness.proofs.Closed.{lies_all, ok_at}
use Rattle.aos_code_soundness.specs.Bodies.{AreConditionsSound}
use Rattle.aos_code_soundness.proofs.Awaited.{is_one}
use Rattle.aos_code_soundness.proofs.Numbers.{HasNumbers, has_numbers, mapped_at}
use Rattle.aos_code_soundness.proofs.Values.{some_need, value_piece}

-- Where no Begin stands no jump leads back.

front : (x : Instr) (xs : List Instr) → Evaluate (x ∷ xs) → may_evaluate x ≡ true
front x xs h = by (may_evaluate x) refl h
  where
    by : (b : Bool) → may_evaluate x ≡ b → (b && list_all may_evaluate xs) ≡ true → may_evaluate x ≡ true
    by true e h = e
    by false e h = absurd (cc h)

behind : (x : Instr) (xs : List Instr) → Evaluate (x ∷ xs) → Evaluate xs
behind x xs h = by (may_evaluate x) h
  where
    by : (b : Bool) → (b && list_all may_evaluate xs) ≡ true → Evaluate xs
    by true h = h
    by false h = absurd (cc h)

begins_not : (x : Instr) → may_evaluate x ≡ true → is_begin (Some x) ≡ false
begins_not (i.Begin line col) h = absurd (cc h)
begins_not x h = refl

none_begins : (whole : List Instr) (to : ℕ) → Evaluate whole → is_begin (slice_get whole to) ≡ false
none_begins [] to h = refl
none_begins (x ∷ xs) zero h = begins_not x (front x xs h)
none_begins (x ∷ xs) (suc to) h = none_begins xs to (behind x xs h)

module _ (image : Image) (own : ℕ) where
  -- an instruction that may stand in a procedure may stand in a condition too
  stands_too : (whole : List Instr) (at : ℕ) (x : Instr) → Evaluate whole → may_evaluate x ≡ true → IsTrue (may_stand image own role.Procedure whole at x) → IsTrue (may_stand image own role.Condition whole at x)
  stands_too whole at (i.Jump to) all m h =
      subst (λ b. IsTrue (nat_lt to (length whole) && (nat_lt at to || b))) (none_begins whole to all) h
  stands_too whole at (i.JumpFalse to) all m h =
      subst (λ b. IsTrue (nat_lt to (length whole) && (nat_lt at to || b))) (none_begins whole to all) h
  stands_too whole at i.Verdict all m h = refl
  stands_too whole at (i.Keep c k) all m h = absurd (cc m)
  stands_too whole at (i.Call q) all m h = absurd (cc m)
  stands_too whole at (i.Virtual k q) all m h = absurd (cc m)
  stands_too whole at (i.CallValue q) all m h = absurd (cc m)
  stands_too whole at (i.NewObject t) all m h = absurd (cc m)
  stands_too whole at (i.NewArray t j) all m h = absurd (cc m)
  stands_too whole at (i.Assert c) all m h = absurd (cc m)
  stands_too whole at (i.Halt c) all m h = absurd (cc m)
  stands_too whole at (i.Begin line col) all m h = absurd (cc m)
  stands_too whole at (i.Store k) all m h = absurd (cc m)
  stands_too whole at (i.Copy n) all m h = absurd (cc m)
  stands_too whole at (i.PutText strict) all m h = absurd (cc m)
  stands_too whole at i.Start all m h = absurd (cc m)
  stands_too whole at i.Enter all m h = absurd (cc m)
  stands_too whole at i.Leave all m h = absurd (cc m)
  stands_too whole at (i.Await c) all m h = absurd (cc m)
  stands_too whole at i.Return all m h = absurd (cc m)
  stands_too whole at i.OutChar all m h = absurd (cc m)
  stands_too whole at i.OutInt all m h = absurd (cc m)
  stands_too whole at i.OutString all m h = absurd (cc m)
  stands_too whole at i.OutLn all m h = absurd (cc m)
  stands_too whole at i.OutOpen all m h = absurd (cc m)
  stands_too whole at x all m h = h

  are_ok_too : (depth : ℕ) (whole : List Instr) (kinds : Typing) (code : List Instr) (at : ℕ) → Evaluate whole → Evaluate code → AreOk image own role.Procedure depth whole kinds code at → AreOk image own role.Condition depth whole kinds code at
  are_ok_too depth whole kinds [] at all each ok = tt
  are_ok_too depth whole kinds (x ∷ xs) at all each ok =
      let o = ok.0 in (
        record { before = o.before; left = o.left; is = o.is; finds = o.finds; few = o.few; on = o.on; stand = stands_too whole at x all (front x xs each) o.stand },
        are_ok_too depth whole kinds xs (at + 1) all (behind x xs each) ok.1,
      )

module _ (p : Program) (o : Option Procedure) (image : Image) (own : ℕ) (depth : ℕ) (has : HasNumbers p o image own) where
  -- a condition without calls is sound with room for as many operands as its expression needs
  pub condition_sound : (e : Expr) → IsOf p o e type.Boolean → HasNoCalls e → value_need e ≤ depth → IsSound image own role.Condition (condition_code p o e) depth
  condition_sound e of plain room =
      let xs = value_code p o e 0 in
      let last = i.Verdict ∷ [] in
      let code = condition_code p o e in
      let all = condition_evaluates p o e plain in
      let k = some_need e in
      let nothing : Round = λ whole kinds. Unit {0} in
      let q : Piece image own role.Procedure depth nothing xs 0 [] (N ∷ []) = value_piece p o image own role.Procedure depth has refl e type.Boolean of 0 [] (omega (arith, room)) in
      let types : List Kinds = q.types ++ (N ∷ []) ∷ [] in
      let kinds : Typing = λ at. slice_get types at in
      let lies : Lies kinds 0 types = lies_all types kinds 0 (λ j s f. (let n : 0 + j ≡ j = omega arith in ap kinds n ∙ f)) in
      let long : length types ≡ length code = (let a = length-append q.types ((N ∷ []) ∷ []) in let b = length-append xs last in let c = q.long in omega (arith, a, b, c)) in
      let within : Within code kinds = λ at s f. subst (λ n. at < n) long (slice_get_within types at s f) in
      let end : kinds (0 + length xs) ≡ Some (N ∷ []) = subst (λ n. kinds (0 + n) ≡ Some (N ∷ [])) q.long (lies_second kinds 0 q.types ((N ∷ []) ∷ []) lies).0 in
      let first = are_ok_too image own depth code kinds xs 0 all (value_evaluates p o e 0 plain) (q.flows code kinds within (last, refl) (lies_first kinds 0 q.types ((N ∷ []) ∷ []) lies) end tt) in
      let second : AreOk image own role.Condition depth code kinds last (0 + length xs) =
      (record { before = N ∷ []; left = []; is = end; finds = refl; few = omega (arith, room, k); on = λ to leads. absurd leads; stand = refl }, tt) in
      let ok = are_ok_both image own role.Condition depth code kinds xs last 0 first second in
      typed_sound image own role.Condition depth code kinds within (q.enters kinds (lies_first kinds 0 q.types ((N ∷ []) ∷ []) lies) end)
      (λ at x f. (let n : 0 + at ≡ at = omega arith in subst (λ j. IsOk image own role.Condition depth code kinds x j) n (ok_at image own role.Condition depth code kinds code 0 at x ok f)))

module _ (p : Program) (image : Image) (well : IsWellTyped p) (ok : IsCodeOf p image) where
  -- all conditions are sound
  pub conditions_sound : AreConditionsSound p image
  conditions_sound k b e =
      let code : Condition → List Instr = λ c. condition_code p c.own c.expression in
      let found : slice_get (map code (conditions p)) k ≡ Some b.code.items = ap (λ l. slice_get l k) (sym ok.conditions) ∙ slice_get-map (λ (x : Body). x.code.items) image.conds.items k ∙ ap (option_map (λ (x : Body). x.code.items)) e in
      let s = mapped_at code (conditions p) k b.code.items found in
      let c = s.0 in
      let one = is_one p well k c s.1 in
      let r = one.routine in
      let n : suc one.number ≡ one.number + 1 = omega arith in
      let there : by_number (one.number + 1) (routines p) ≡ Some r = ap (λ j. by_number j (routines p)) (sym n) ∙ one.there in
      let code_is : condition_code p r.own c.expression ≡ b.code.items = ap (λ o. condition_code p o c.expression) (sym one.own) ∙ s.2 in
      record {
        condition = c;
        is = s.1;
        own = one.number;
        routine = r;
        are = one.there;
        over = one.own;
        sound = λ need le. subst (λ xs. IsSound image (one.number + 1) role.Condition xs need) code_is
            (condition_sound p r.own image (one.number + 1) need (has_numbers p image well ok (one.number + 1) r there) c.expression one.typed one.plain le);
      }
