-- The code of & and OR, which jumps over the second operand where the first one tells.
use Rattle.std.proofs.Common.{◌≡◌, ℕ, pos, ◌+◌, Bool, true, false, Option, List, [], ◌∷◌, ◌++◌, length, if◌then◌else◌, refl, sym, ap, ◌∙◌, subst, arith, append_assoc, length-append}
use Rattle.aos_base.specs.Operators.{flag}
use Rattle.aos_base.specs.Question.{Val, bind}
use Rattle.aos_types.specs.World.{World}
use Rattle.aos_typed.specs.declared.tree.TType.TheVariants as type
use Rattle.aos_typed.specs.Program.{Procedure, Program}
use Rattle.aos_typed.specs.Sort.{Sort}
use Rattle.aos_typed.specs.Value.{Value, Flag, number_of, is_true}
use Rattle.aos_typed.specs.Meaning.{Here, Doing}
use Rattle.aos_code.specs.declared.instr.Cell.TheVariants.{Num}
use Rattle.aos_code.specs.declared.instr.Instr.{Instr}
use Rattle.aos_code.specs.declared.instr.Instr.TheVariants as i
use Rattle.aos_code.specs.Silent.{Stack, Keeps}
use Rattle.aos_sim.specs.Code.{and_code, or_code}
use Rattle.aos_sim.proofs.Runs.{Tables, Run, Onward, runs}
use Rattle.aos_sim.proofs.Types.{IsValueOf}
use Rattle.aos_sim.proofs.Does.{Does, along, does_more, Knows, knows_grows}
use Rattle.aos_sim.proofs.Evaluates.{Pushed, passed, jump_on, Evaluates, operand_does, ends_at}

module _ (program : Program) (own : Option Procedure) (tables : Tables) (number : ℕ) (here : Here) (code : List Instr) where
  abbrev onward : List Instr → Onward
  onward = runs tables number here code

  -- behind a truth value, it is on the stack
  abbrev Truth : List Instr → ℕ → Keeps → Stack → World Sort → Value → Run → Type 0
  Truth = Pushed tables number here code type.Boolean

  abbrev Tests : List Instr → Doing Value → ℕ → Type 0
  Tests = Evaluates program own tables number here code type.Boolean

  -- behind a first operand of &: where it is TRUE the second one's value is the whole's, and else FALSE
  and_goes : (cb : List Instr) (rb : Doing Value) (p q to over : ℕ) (rest : List Instr) (k : Keeps) (s : Stack) → to ≡ p + 1 + length cb + 1 → over ≡ p + 1 + length cb + 2 → q ≡ p + 1 + length cb + 2 → Tests cb rb (p + 1) → (w : World Sort) → Knows program own here w → (b : Bool) (m : Run) → m ≡ onward ((i.JumpFalse to ∷ (cb ++ (i.Jump over ∷ (i.Num (pos 0) ∷ [])))) ++ rest) 0 p k (Num (flag b) ∷ s) → Does program here (Truth rest q k s) w m (if is_true (Flag b) then rb else Val (Flag false))
  and_goes cb rb p q to over rest k s e1 e2 e3 h w known true m e =
      let end = i.Jump over ∷ (i.Num (pos 0) ∷ rest) in
      let n : p + 1 + length cb + 1 + 1 ≡ q = omega arith in
      along program here (Truth rest q k s) w m (onward (cb ++ end) 0 (p + 1) k s) rb
      (e ∙ ap (λ l. onward l 0 (p + 1) k s) (append_assoc cb (i.Jump over ∷ (i.Num (pos 0) ∷ [])) rest))
      (does_more program here (Truth end (p + 1 + length cb) k s) (Truth rest q k s) w (onward (cb ++ end) 0 (p + 1) k s) rb (h w known end k s)
      (λ w' up v m' r. record {
        is = r.is;
        run = r.run ∙ jump_on tables number here code (i.Num (pos 0) ∷ rest) over (p + 1 + length cb) 1 k (Num (number_of v) ∷ s) (omega arith) ∙ ap (λ n. onward rest 0 n k (Num (number_of v) ∷ s)) n;
      }))
  and_goes cb rb p q to over rest k s e1 e2 e3 h w known false m e =
      let last = i.Jump over ∷ (i.Num (pos 0) ∷ []) in
      let n : p + 1 + length cb + 1 + 1 ≡ q = omega arith in
      record {
        is = (false, refl);
        run = e ∙ jump_on tables number here code ((cb ++ last) ++ rest) to p (length cb + 1) k s (omega arith)
            ∙ ap (λ l. onward l (length cb + 1) (p + 1) k s) (append_assoc cb last rest)
            ∙ passed tables number here code cb (last ++ rest) 1 (p + 1) k s
            ∙ ap (λ n. onward rest 0 n k (Num (pos 0) ∷ s)) n;
      }

  -- behind a first operand of OR: where it is TRUE so is the whole, and else the second one's value is the whole's
  or_goes : (cb : List Instr) (rb : Doing Value) (p pb q to over : ℕ) (rest : List Instr) (k : Keeps) (s : Stack) → to ≡ p + 3 → over ≡ p + 3 + length cb → q ≡ p + 3 + length cb → pb ≡ p + 3 → Tests cb rb pb → (w : World Sort) → Knows program own here w → (b : Bool) (m : Run) → m ≡ onward ((i.JumpFalse to ∷ (i.Num (pos 1) ∷ (i.Jump over ∷ cb))) ++ rest) 0 p k (Num (flag b) ∷ s) → Does program here (Truth rest q k s) w m (if is_true (Flag b) then Val (Flag true) else rb)
  or_goes cb rb p pb q to over rest k s e1 e2 e3 e4 h w known true m e =
      let n : p + 1 + 1 + 1 + length cb ≡ q = omega arith in
      record {
        is = (true, refl);
        run = e ∙ jump_on tables number here code (cb ++ rest) over (p + 1 + 1) (length cb + 0) k (Num (pos 1) ∷ s) (omega arith)
            ∙ passed tables number here code cb rest 0 (p + 1 + 1 + 1) k (Num (pos 1) ∷ s)
            ∙ ap (λ n. onward rest 0 n k (Num (pos 1) ∷ s)) n;
      }
  or_goes cb rb p pb q to over rest k s e1 e2 e3 e4 h w known false m e =
      let n : p + 1 + 1 + 1 ≡ pb = omega arith in
      along program here (Truth rest q k s) w m (onward (cb ++ rest) 0 pb k s) rb
      (e ∙ jump_on tables number here code (i.Num (pos 1) ∷ (i.Jump over ∷ (cb ++ rest))) to p 2 k s (omega arith) ∙ ap (λ n. onward (cb ++ rest) 0 n k s) n)
      (ends_at program own tables number here code type.Boolean rest (pb + length cb) q k s w (onward (cb ++ rest) 0 pb k s) rb (omega arith) (h w known rest k s))

  -- what follows a truth value, by which of both it is
  pub by_flag : {C : Type 0} (Q : World Sort → C → Run → Type 0) (f : Value → Doing C) (rest : List Instr) (at : ℕ) (k : Keeps) (s : Stack) (w : World Sort) → ((b : Bool) (m : Run) → m ≡ onward rest 0 at k (Num (flag b) ∷ s) → Does program here Q w m (f (Flag b))) → (v : Value) (m : Run) → IsValueOf type.Boolean v → m ≡ onward rest 0 at k (Num (number_of v) ∷ s) → Does program here Q w m (f v)
  by_flag Q f rest at k s w go v m is e = subst (λ x. m ≡ onward rest 0 at k (Num (number_of x) ∷ s) → Does program here Q w m (f x)) (sym is.1) (go is.0 m) e

  pub and_does : (ca cb : List Instr) (ra rb : Doing Value) (at : ℕ) → Evaluates program own tables number here code type.Boolean ca ra at → Evaluates program own tables number here code type.Boolean cb rb (at + length ca + 1) → Evaluates program own tables number here code type.Boolean (and_code ca cb at) (bind ra (λ a. if is_true a then rb else Val (Flag false))) at
  and_does ca cb ra rb at ha hb w known rest k s =
      let p = at + length ca in
      let to = p + 1 + length cb + 1 in
      let over = p + 1 + length cb + 2 in
      let last = i.Jump over ∷ (i.Num (pos 0) ∷ []) in
      let tail = i.JumpFalse to ∷ (cb ++ last) in
      let q = at + length (and_code ca cb at) in
      let n : q ≡ p + 1 + length cb + 2 = omega (arith, length-append ca tail, length-append cb last) in
      let f : Value → Doing Value = λ a. if is_true a then rb else Val (Flag false) in
      operand_does program own tables number here code (Truth rest q k s) type.Boolean f ca tail ra at rest k s ha w known
      (λ w' up. by_flag (Truth rest q k s) f (tail ++ rest) p k s w' (and_goes cb rb p q to over rest k s refl refl n hb w' (knows_grows program own here w w' up known)))

  pub or_does : (ca cb : List Instr) (ra rb : Doing Value) (at : ℕ) → Evaluates program own tables number here code type.Boolean ca ra at → Evaluates program own tables number here code type.Boolean cb rb (at + length ca + 3) → Evaluates program own tables number here code type.Boolean (or_code ca cb at) (bind ra (λ a. if is_true a then Val (Flag true) else rb)) at
  or_does ca cb ra rb at ha hb w known rest k s =
      let p = at + length ca in
      let to = p + 3 in
      let over = p + 3 + length cb in
      let tail = i.JumpFalse to ∷ (i.Num (pos 1) ∷ (i.Jump over ∷ cb)) in
      let q = at + length (or_code ca cb at) in
      let n : q ≡ p + 3 + length cb = omega (arith, length-append ca tail) in
      let f : Value → Doing Value = λ a. if is_true a then Val (Flag true) else rb in
      operand_does program own tables number here code (Truth rest q k s) type.Boolean f ca tail ra at rest k s ha w known
      (λ w' up. by_flag (Truth rest q k s) f (tail ++ rest) p k s w' (or_goes cb rb p (p + 3) q to over rest k s refl refl n refl hb w' (knows_grows program own here w w' up known)))
