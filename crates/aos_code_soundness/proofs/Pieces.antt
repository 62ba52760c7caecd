-- Pieces of code are put together.
use Rattle.std.proofs.Common.{◌≡◌, inl, inr, ℕ, zero, suc, ◌+◌, ◌<◌, ◌≤◌, Bool, true, false, List, [], ◌∷◌, ◌++◌, Some, length, refl, sym, ap, ◌∙◌, subst, arith, append_assoc, length-append, nat_lt}
use Rattle.std.specs.Prelude.{slice_get, IsTrue, ◌&&◌, ◌||◌}
use Rattle.std.proofs.lemmas.Bool.{lt-ltb}
use Rattle.aos_code.specs.declared.instr.Kind.TheVariants.{N}
use Rattle.aos_code.specs.declared.instr.Instr.{Instr}
use Rattle.aos_code.specs.declared.instr.Instr.TheVariants.{Jump, JumpFalse, Begin}
use Rattle.aos_code.specs.declared.image.Image.{Image}
use Rattle.aos_sound.specs.declared.effect.Next.TheVariants.{Ends, On}
use Rattle.aos_sound.specs.declared.stand.Role.{Role}
use Rattle.aos_sound.specs.Sound.{Kinds, Leads, next_of, after, may_stand, may_jump, is_procedure, is_begin}
use Rattle.aos_sim.proofs.Runs.{drop_past}
use Rattle.aos_code_soundness.specs.Piece.{Typing, Stands, Lies, Within, Round, At, AreOk, Piece}

-- Where pieces stand.

-- the first of two pieces stands where both do
pub stands_first : (whole : List Instr) (at : ℕ) (c d : List Instr) → Stands whole at (c ++ d) → Stands whole at c
stands_first whole at c d st = (d ++ st.0, st.1 ∙ append_assoc c d st.0)

-- and the second one behind it
pub stands_second : (whole : List Instr) (at : ℕ) (c d : List Instr) → Stands whole at (c ++ d) → Stands whole (at + length c) d
stands_second whole at c d st = (st.0, drop_past c at whole (d ++ st.0) (st.1 ∙ append_assoc c d st.0))

-- an instruction that begins what stands at a place is the one there
stands_here : (whole : List Instr) (at : ℕ) (i : Instr) (is : List Instr) → Stands whole at (i ∷ is) → slice_get whole at ≡ Some i
stands_here [] zero i is st = absurd (cc st.1)
stands_here (x ∷ xs) zero i is st = cc st.1
stands_here [] (suc k) i is st = absurd (cc st.1)
stands_here (x ∷ xs) (suc k) i is st = stands_here xs k i is st

-- the operands of the first places are those of the first of two rows
pub lies_first : (kinds : Typing) (at : ℕ) (c d : List Kinds) → Lies kinds at (c ++ d) → Lies kinds at c
lies_first kinds at [] d l = tt
lies_first kinds at (s ∷ c) d l = (l.0, lies_first kinds (at + 1) c d l.1)

-- and behind them are those of the second one
pub lies_second : (kinds : Typing) (at : ℕ) (c d : List Kinds) → Lies kinds at (c ++ d) → Lies kinds (at + length c) d
lies_second kinds at [] d l = let n : at ≡ at + 0 = omega arith in subst (λ p. Lies kinds p d) n l
lies_second kinds at (s ∷ c) d l = let n : at + 1 + length c ≡ at + suc (length c) = omega arith in subst (λ p. Lies kinds p d) n (lies_second kinds (at + 1) c d l.1)

-- Jumps.

-- what is or holds does hold
or_true : (b : Bool) → (b || true) ≡ true
or_true true = refl
or_true false = refl

-- a jump forth may stand where its target is a place of the code
forth : (role : Role) (whole : List Instr) (to at : ℕ) → to < length whole → at < to → IsTrue (may_jump role whole to at)
forth role whole to at lt ahead =
    ap (λ x. x && (nat_lt at to || (is_procedure role && is_begin (slice_get whole to)))) (lt-ltb to (length whole) lt)
    ∙ ap (λ y. y || (is_procedure role && is_begin (slice_get whole to))) (lt-ltb at to ahead)

-- and any jump where a statement begins there
back : (role : Role) (whole : List Instr) (to at : ℕ) → to < length whole → is_procedure role ≡ true → is_begin (slice_get whole to) ≡ true → IsTrue (may_jump role whole to at)
back role whole to at lt e f =
    ap (λ x. x && (nat_lt at to || (is_procedure role && is_begin (slice_get whole to)))) (lt-ltb to (length whole) lt)
    ∙ ap (λ y. nat_lt at to || (y && is_begin (slice_get whole to))) e
    ∙ ap (λ y. nat_lt at to || y) f
    ∙ or_true (nat_lt at to)

-- the place has these operands, and a statement begins there
abbrev pub AtBegin : ℕ → Kinds → Round
AtBegin to s = λ whole kinds. (kinds to ≡ Some s) × (is_begin (slice_get whole to) ≡ true)

-- what begins with a Begin is where a statement begins
begun : (line col : ℕ) (code : List Instr) (at : ℕ) (s : Kinds) (whole : List Instr) (kinds : Typing) → Stands whole at (Begin line col ∷ code) → kinds at ≡ Some s → AtBegin at s whole kinds
begun line col code at s whole kinds st f = (f, ap is_begin (stands_here whole at (Begin line col) code st))

module _ (image : Image) (own : ℕ) (role : Role) (depth : ℕ) where
  -- where the instructions of two pieces are as they should be, so are those of both
  pub are_ok_both : (whole : List Instr) (kinds : Typing) (c d : List Instr) (at : ℕ) → AreOk image own role depth whole kinds c at → AreOk image own role depth whole kinds d (at + length c) → AreOk image own role depth whole kinds (c ++ d) at
  are_ok_both whole kinds [] d at a b = let n : at + 0 ≡ at = omega arith in subst (λ p. AreOk image own role depth whole kinds d p) n b
  are_ok_both whole kinds (i ∷ c) d at a b = let n : at + suc (length c) ≡ at + 1 + length c = omega arith in (a.0, are_ok_both whole kinds c d (at + 1) a.1 (subst (λ p. AreOk image own role depth whole kinds d p) n b))

  -- a piece with places in it that have its first operands
  abbrev pub Entries : Round → List Instr → (at : ℕ) → (place : ℕ → ℕ) → (s t : Kinds) → Type 0
  Entries Asks code at place s t =
      (q : Piece image own role depth Asks code at s t)
      × ((kinds : Typing) → Lies kinds at q.types → kinds (at + length code) ≡ Some t → (n : ℕ) → kinds (place n) ≡ Some s)

module _ {image : Image} {own : ℕ} {role : Role} {depth : ℕ} where
  -- nothing
  pub nothing : {Asks : Round} {at : ℕ} {s : Kinds} → Piece image own role depth Asks [] at s s
  nothing {at = at} =
      let n : at + 0 ≡ at = omega arith in
      record { types = []; long = refl; enters = λ kinds l e. ap kinds (sym n) ∙ e; flows = λ whole kinds w st l e o. tt }

  -- one piece behind another, which has what the first one asks
  pub followed : {Asks Before : Round} {c d : List Instr} {at : ℕ} {s t u : Kinds} → Piece image own role depth Before c at s t → (q : Piece image own role depth Asks d (at + length c) t u) → ((whole : List Instr) (kinds : Typing) → Lies kinds (at + length c) q.types → kinds (at + length c + length d) ≡ Some u → Asks whole kinds → Before whole kinds) → Piece image own role depth Asks (c ++ d) at s u
  followed {c = c} {d = d} {at = at} {t = t} {u = u} p q asked =
      let la = length-append c d in
      let place : at + length (c ++ d) ≡ at + length c + length d = omega (arith, la) in
      let lp = p.long in
      let second : (kinds : Typing) → Lies kinds at (p.types ++ q.types) → Lies kinds (at + length c) q.types = λ kinds l. subst (λ n. Lies kinds (at + n) q.types) lp (lies_second kinds at p.types q.types l) in
      let seam : (kinds : Typing) → Lies kinds at (p.types ++ q.types) → kinds (at + length (c ++ d)) ≡ Some u → kinds (at + length c) ≡ Some t = λ kinds l e. q.enters kinds (second kinds l) (ap kinds (sym place) ∙ e) in
      record {
        types = p.types ++ q.types;
        long = (let lt = length-append p.types q.types in let lq = q.long in omega (arith, lt, la, lp, lq));
        enters = λ kinds l e. p.enters kinds (lies_first kinds at p.types q.types l) (seam kinds l e);
        flows = λ whole kinds w st l e o. are_ok_both image own role depth whole kinds c d at
            (p.flows whole kinds w (stands_first whole at c d st) (lies_first kinds at p.types q.types l) (seam kinds l e) (asked whole kinds (second kinds l) (ap kinds (sym place) ∙ e) o))
            (q.flows whole kinds w (stands_second whole at c d st) (second kinds l) (ap kinds (sym place) ∙ e) o);
      }

  -- one piece behind another
  pub both : {Asks : Round} {c d : List Instr} {at : ℕ} {s t u : Kinds} → Piece image own role depth Asks c at s t → Piece image own role depth Asks d (at + length c) t u → Piece image own role depth Asks (c ++ d) at s u
  both p q = followed p q (λ whole kinds l e o. o)

  -- what a piece asks follows from what is at its own ends, and from where it stands
  pub asks_less : {Asks : Round} (Asks' : Round) {code : List Instr} {at : ℕ} {s t : Kinds} → Piece image own role depth Asks code at s t → ((whole : List Instr) (kinds : Typing) → Stands whole at code → kinds at ≡ Some s → kinds (at + length code) ≡ Some t → Asks' whole kinds → Asks whole kinds) → Piece image own role depth Asks' code at s t
  asks_less Asks' p f =
      record {
        types = p.types;
        long = p.long;
        enters = p.enters;
        flows = λ whole kinds w st l e o. p.flows whole kinds w st l e (f whole kinds st (p.enters kinds l e) e o);
      }

  -- one instruction, where each way on from it leads to a place that has what is left
  single : {Asks : Round} (i : Instr) {at : ℕ} {s : Kinds} (left : Kinds) {t : Kinds} → after image own i s ≡ Some left → length s ≤ depth → ((whole : List Instr) (kinds : Typing) → kinds (at + 1) ≡ Some t → Asks whole kinds → (to : ℕ) → Leads (next_of i) at to → kinds to ≡ Some left) → ((whole : List Instr) (kinds : Typing) → Within whole kinds → Asks whole kinds → IsTrue (may_stand image own role whole at i)) → Piece image own role depth Asks (i ∷ []) at s t
  single i {at = at} {s = s} left e few on may =
      record {
        types = s ∷ [];
        long = refl;
        enters = λ kinds l f. l.0;
        flows = λ whole kinds w st l f o. (record { before = s; left = left; is = l.0; finds = e; few = few; on = on whole kinds f o; stand = may whole kinds w o }, tt);
      }

  -- an instruction behind which the code goes on
  pub one : {Asks : Round} (i : Instr) {at : ℕ} {s t : Kinds} → after image own i s ≡ Some t → next_of i ≡ On → length s ≤ depth → ((whole : List Instr) (p : ℕ) → IsTrue (may_stand image own role whole p i)) → Piece image own role depth Asks (i ∷ []) at s t
  one i {at = at} {t = t} e n few may =
      single i t e few (λ whole kinds f o to leads. (let z : to ≡ at + 1 = subst (λ x. Leads x at to) n leads in ap kinds z ∙ f)) (λ whole kinds w o. may whole at)

  -- an instruction before a piece
  pub one_then : {Asks : Round} (i : Instr) {d : List Instr} {at : ℕ} {s t u : Kinds} → after image own i s ≡ Some t → next_of i ≡ On → length s ≤ depth → ((whole : List Instr) (p : ℕ) → IsTrue (may_stand image own role whole p i)) → Piece image own role depth Asks d (at + 1) t u → Piece image own role depth Asks (i ∷ d) at s u
  one_then i e n few may p = both (one i e n few may) p

  -- an instruction behind a piece
  pub then_one : {Asks : Round} {c : List Instr} {at : ℕ} {s t u : Kinds} → Piece image own role depth Asks c at s t → (i : Instr) → after image own i t ≡ Some u → next_of i ≡ On → length t ≤ depth → ((whole : List Instr) (p : ℕ) → IsTrue (may_stand image own role whole p i)) → Piece image own role depth Asks (c ++ i ∷ []) at s u
  then_one p i e n few may = both p (one i e n few may)

  -- a jump forth; code behind it may have any operands, since no path comes there but by another jump
  pub jump_forth : (to : ℕ) {at : ℕ} {s u : Kinds} → at < to → length s ≤ depth → Piece image own role depth (At to s) (Jump to ∷ []) at s u
  jump_forth to {at = at} {s = s} ahead few =
      single (Jump to) s refl few (λ whole kinds f o p leads. ap kinds leads ∙ o) (λ whole kinds w o. forth role whole to at (w to s o) ahead)

  -- a jump back, to where a statement begins
  pub jump_back : (to : ℕ) {at : ℕ} {s u : Kinds} → is_procedure role ≡ true → length s ≤ depth → Piece image own role depth (AtBegin to s) (Jump to ∷ []) at s u
  jump_back to {at = at} {s = s} r few =
      single (Jump to) s refl few (λ whole kinds f o p leads. ap kinds leads ∙ o.0) (λ whole kinds w o. back role whole to at (w to s o.0) r o.1)

  -- a jump forth where the topmost operand is 0
  pub branch : (to : ℕ) {at : ℕ} {s : Kinds} → at < to → suc (length s) ≤ depth → Piece image own role depth (At to s) (JumpFalse to ∷ []) at (N ∷ s) s
  branch to {at = at} {s = s} ahead few =
      single (JumpFalse to) {at = at} s refl few (λ whole kinds f o p leads. elim leads [ inl z ↦ ap kinds z ∙ o | inr z ↦ ap kinds z ∙ f ]) (λ whole kinds w o. forth role whole to at (w to s o) ahead)

  -- a piece at the same place, said otherwise
  pub moved : {Asks : Round} {code : List Instr} {at at' : ℕ} {s t : Kinds} → at ≡ at' → Piece image own role depth Asks code at s t → Piece image own role depth Asks code at' s t
  moved {Asks} {code} {s = s} {t = t} e p = subst (λ n. Piece image own role depth Asks code n s t) e p

  -- what is left, said otherwise
  pub left_with : {Asks : Round} {code : List Instr} {at : ℕ} {s t t' : Kinds} → t ≡ t' → Piece image own role depth Asks code at s t → Piece image own role depth Asks code at s t'
  left_with {Asks} {code} {at} {s} e p = subst (λ x. Piece image own role depth Asks code at s x) e p

  -- the same code, said otherwise
  pub recoded : {Asks : Round} {code code' : List Instr} {at : ℕ} {s t : Kinds} → code ≡ code' → Piece image own role depth Asks code at s t → Piece image own role depth Asks code' at s t
  recoded {Asks} {at = at} {s = s} {t = t} e p = subst (λ c. Piece image own role depth Asks c at s t) e p

  -- a test, and one of two pieces
  pub choose : {Asks : Round} {c a b : List Instr} {at : ℕ} (other end : ℕ) {s t : Kinds} → other ≡ at + length c + 1 + length a + 1 → end ≡ other + length b → suc (length s) ≤ depth → length t ≤ depth → Piece image own role depth Asks c at s (N ∷ s) → Piece image own role depth Asks a (at + length c + 1) s t → Piece image own role depth Asks b other s t → Piece image own role depth Asks (c ++ (JumpFalse other ∷ (a ++ (Jump end ∷ b)))) at s t
  choose {Asks} {c} {a} {b} {at} other end {s} {t} o e few few' pc pa pb =
      let Outer : Round = λ whole kinds. Asks whole kinds × (kinds end ≡ Some t) in
      let Both : Round = λ whole kinds. Asks whole kinds × (kinds other ≡ Some s) × (kinds end ≡ Some t) in
      let first = c ++ (JumpFalse other ∷ (a ++ Jump end ∷ [])) in
      let la = length-append a (Jump end ∷ []) in
      let lc = length-append c (JumpFalse other ∷ (a ++ Jump end ∷ [])) in
      let lb = length-append first b in
      let place : at + length first ≡ other = omega (arith, la, lc, o) in
      let ends : at + length (first ++ b) ≡ end = omega (arith, lb, place, e) in
      let test = asks_less Both (branch other {at = at + length c} {s = s} (omega (arith, o)) few) (λ whole kinds st f g q. q.1) in
      let over = asks_less Both (jump_forth end {at = at + length c + 1 + length a} {s = t} {u = s} (omega (arith, o, e)) few') (λ whole kinds st f g q. q.2) in
      let then_ = both (asks_less Both pa (λ whole kinds st f g q. q.0)) over in
      let upper = both (asks_less Both pc (λ whole kinds st f g q. q.0)) (both test then_) in
      let inner = asks_less Outer upper (λ whole kinds st f g q. (q.0, ap kinds (sym place) ∙ g, q.1)) in
      let lower = moved (sym place) (asks_less Outer pb (λ whole kinds st f g q. q.0)) in
      let same : first ++ b ≡ c ++ (JumpFalse other ∷ (a ++ (Jump end ∷ b))) = append_assoc c (JumpFalse other ∷ (a ++ Jump end ∷ [])) b ∙ ap (λ x. c ++ (JumpFalse other ∷ x)) (append_assoc a (Jump end ∷ []) b) in
      recoded same (asks_less Asks (both inner lower) (λ whole kinds st f g q. (q, ap kinds (sym ends) ∙ g)))

  -- a jump back where the topmost operand is 0, to where a statement begins
  branch_back : (to : ℕ) {at : ℕ} {s : Kinds} → is_procedure role ≡ true → suc (length s) ≤ depth → Piece image own role depth (AtBegin to s) (JumpFalse to ∷ []) at (N ∷ s) s
  branch_back to {at = at} {s = s} r few =
      single (JumpFalse to) {at = at} s refl few (λ whole kinds f o p leads. elim leads [ inl z ↦ ap kinds z ∙ o.0 | inr z ↦ ap kinds z ∙ f ]) (λ whole kinds w o. back role whole to at (w to s o.0) r o.1)

  -- an instruction behind which the code doesn't go on; what stands there may have any operands
  pub stops : {Asks : Round} (i : Instr) {at : ℕ} {s : Kinds} (left : Kinds) {t : Kinds} → after image own i s ≡ Some left → next_of i ≡ Ends → length s ≤ depth → ((whole : List Instr) (p : ℕ) → IsTrue (may_stand image own role whole p i)) → Piece image own role depth Asks (i ∷ []) at s t
  stops i {at = at} left e n few may =
      single i left e few (λ whole kinds f o to leads. absurd (subst (λ x. Leads x at to) n leads)) (λ whole kinds w o. may whole at)

  -- one arm, which leads behind the others, and the others
  pub arm : {Asks : Round} {b more : List Instr} {at : ℕ} (end : ℕ) (place : ℕ → ℕ) {s t : Kinds} → end ≡ at + length b + 1 + length more → place 0 ≡ at → length t ≤ depth → Piece image own role depth Asks b at s t → Entries image own role depth Asks more (at + length b + 1) (λ n. place (suc n)) s t → Entries image own role depth Asks (b ++ (Jump end ∷ more)) at place s t
  unfolding asks_less both followed jump_forth single
  arm {Asks} {b} {more} {at} end place {s} {t} e first few pb pm =
      let Outer : Round = λ whole kinds. Asks whole kinds × (kinds end ≡ Some t) in
      let la = length-append b (Jump end ∷ more) in
      let ends : at + length (b ++ (Jump end ∷ more)) ≡ end = omega (arith, la, e) in
      let over = asks_less Outer (jump_forth end {at = at + length b} {s = t} {u = s} (omega (arith, e)) few) (λ whole kinds st f g q. q.1) in
      let upper = asks_less Outer pb (λ whole kinds st f g q. q.0) in
      let lower = asks_less Outer pm.0 (λ whole kinds st f g q. q.0) in
      let all = asks_less Asks (both upper (both over lower)) (λ whole kinds st f g q. (q, ap kinds (sym ends) ∙ g)) in
      let second : (kinds : Typing) → Lies kinds at all.types → Lies kinds (at + length b + 1) pm.0.types = λ kinds l. subst (λ n. Lies kinds (at + n + 1) pm.0.types) pb.long (lies_second kinds at pb.types (t ∷ pm.0.types) l).1 in
      let z : at + length (b ++ (Jump end ∷ more)) ≡ at + length b + 1 + length more = omega (arith, la) in
      (all, λ kinds l g. at_place kinds (ap kinds first ∙ all.enters kinds l g) (pm.1 kinds (second kinds l) (ap kinds (sym z) ∙ g)))
    where
      at_place : (kinds : Typing) → kinds (place 0) ≡ Some s → ((n : ℕ) → kinds (place (suc n)) ≡ Some s) → (n : ℕ) → kinds (place n) ≡ Some s
      at_place kinds h others zero = h
      at_place kinds h others (suc n) = others n

  -- statements, and then a test: where it gives 0, once more
  pub repeats_until : {Asks : Round} (line col : ℕ) {b c : List Instr} {at : ℕ} {s : Kinds} → is_procedure role ≡ true → suc (length s) ≤ depth → Piece image own role depth Asks b (at + 1) s s → Piece image own role depth Asks c (at + 1 + length b) s (N ∷ s) → Piece image own role depth Asks (Begin line col ∷ (b ++ (c ++ JumpFalse at ∷ []))) at s s
  repeats_until {Asks} line col {b} {c} {at} {s} r few pb pc =
      let Again : Round = λ whole kinds. Asks whole kinds × AtBegin at s whole kinds in
      let test = both (asks_less Again pc (λ whole kinds st f g q. q.0)) (asks_less Again (branch_back at {at = at + 1 + length b + length c} {s = s} r few) (λ whole kinds st f g q. q.1)) in
      let all = one_then (Begin line col) refl refl (omega (arith, few)) (λ whole p. r) (both (asks_less Again pb (λ whole kinds st f g q. q.0)) test) in
      asks_less Asks all (λ whole kinds st f g q. (q, begun line col _ at s whole kinds st f))

  -- statements that leave for what is behind them, and then once more
  pub loops : {Asks : Round} (line col : ℕ) {b : List Instr} {at : ℕ} (out : ℕ) {s : Kinds} → out ≡ at + 1 + length b + 1 → is_procedure role ≡ true → length s ≤ depth → Piece image own role depth (At out s) b (at + 1) s s → Piece image own role depth Asks (Begin line col ∷ (b ++ Jump at ∷ [])) at s s
  loops {Asks} line col {b} {at} out {s} e r few pb =
      let Both : Round = λ whole kinds. (kinds out ≡ Some s) × AtBegin at s whole kinds in
      let l = length-append b (Jump at ∷ []) in
      let place : at + length (Begin line col ∷ (b ++ Jump at ∷ [])) ≡ out = omega (arith, l, e) in
      let again = asks_less Both (jump_back at {at = at + 1 + length b} {s = s} {u = s} r few) (λ whole kinds st f g q. q.1) in
      let all = one_then (Begin line col) refl refl few (λ whole p. r) (both (asks_less Both pb (λ whole kinds st f g q. q.0)) again) in
      asks_less Asks all (λ whole kinds st f g q. (ap kinds (sym place) ∙ g, begun line col _ at s whole kinds st f))

  -- a loop: where its test gives 0 the code goes on behind it, else its body and then the loop again
  pub repeats : {Asks : Round} (line col : ℕ) {c b : List Instr} {at : ℕ} (end : ℕ) {s : Kinds} → end ≡ at + 1 + length c + 1 + length b + 1 → is_procedure role ≡ true → suc (length s) ≤ depth → Piece image own role depth Asks c (at + 1) s (N ∷ s) → Piece image own role depth Asks b (at + 1 + length c + 1) s s → Piece image own role depth Asks (Begin line col ∷ (c ++ (JumpFalse end ∷ (b ++ Jump at ∷ [])))) at s s
  repeats {Asks} line col {c} {b} {at} end {s} e r few pc pb =
      let All : Round = λ whole kinds. Asks whole kinds × (kinds end ≡ Some s) × AtBegin at s whole kinds in
      let lb = length-append b (Jump at ∷ []) in
      let lc = length-append c (JumpFalse end ∷ (b ++ Jump at ∷ [])) in
      let place : at + length (Begin line col ∷ (c ++ (JumpFalse end ∷ (b ++ Jump at ∷ [])))) ≡ end = omega (arith, lb, lc, e) in
      let test = asks_less All (branch end {at = at + 1 + length c} {s = s} (omega (arith, e)) few) (λ whole kinds st f g q. q.1) in
      let again = asks_less All (jump_back at {at = at + 1 + length c + 1 + length b} {s = s} {u = s} r (omega (arith, few))) (λ whole kinds st f g q. q.2) in
      let round = both test (both (asks_less All pb (λ whole kinds st f g q. q.0)) again) in
      let all = one_then (Begin line col) refl refl (omega (arith, few)) (λ whole p. r) (both (asks_less All pc (λ whole kinds st f g q. q.0)) round) in
      asks_less Asks all (λ whole kinds st f g q. (q, ap kinds (sym place) ∙ g, begun line col _ at s whole kinds st f))
