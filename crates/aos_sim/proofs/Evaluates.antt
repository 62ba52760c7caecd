-- Pieces of code that evaluate an expression or find a designator's place, and go on behind themselves with it on the stack.
use Rattle.std.proofs.Common.{◌≡◌, ℕ, suc, ◌+◌, ◌-◌, ◌<◌, Option, List, [], ◌∷◌, ◌++◌, length, true, refl, sym, ap, ◌∙◌, subst, arith, append_assoc}
use Rattle.std.proofs.lemmas.Bool.{lt-ltb}
use Rattle.aos_base.specs.Question.{bind}
use Rattle.aos_types.specs.World.{World, Grows}
use Rattle.aos_typed.specs.declared.tree.TType.{TType}
use Rattle.aos_typed.specs.Program.{Procedure, Program}
use Rattle.aos_typed.specs.Numbers.{id_of}
use Rattle.aos_typed.specs.Sort.{Sort, Plain}
use Rattle.aos_typed.specs.Typing.{Is}
use Rattle.aos_typed.specs.WellTyped.{is_basic}
use Rattle.aos_typed.specs.Value.{Value, number_of}
use Rattle.aos_typed.specs.Meaning.{Here, Doing}
use Rattle.aos_code.specs.declared.instr.Cell.{Cell}
use Rattle.aos_code.specs.declared.instr.Cell.TheVariants.{Num}
use Rattle.aos_code.specs.declared.instr.Instr.{Instr}
use Rattle.aos_code.specs.Silent.{Stack, Keeps, jumps}
use Rattle.aos_sim.specs.Cells.{cell_of}
use Rattle.aos_sim.specs.Code.{operands_code}
pub use Rattle.aos_sim.proofs.Runs.{pushed}
use Rattle.aos_sim.proofs.Runs.{Run, Onward, Tables, on_run, runs}
use Rattle.aos_sim.proofs.Kept.{values_kept}
use Rattle.aos_sim.proofs.Types.{IsValueOf, number_cell}
use Rattle.aos_sim.proofs.Does.{HasPredeclared, Knows, Does, knows_grows, along, does_bind, does_more}
use Rattle.aos_sim.proofs.Variables.{value_from, value_to}

-- a value of a basic type, and its cell, are the same in each world
abbrev pub OfType : TType → World Sort → Value → Type 0
OfType t w v = IsValueOf t v

abbrev pub number_in : World Sort → Value → Cell
number_in w v = Num (number_of v)

pub pushed-append : (cs ds : List Cell) (s : Stack) → pushed (cs ++ ds) s ≡ pushed ds (pushed cs s)
pushed-append [] ds s = refl
pushed-append (c ∷ cs) ds s = pushed-append cs ds (c ∷ s)

-- In a frame of the procedure with this number, above so many others
module _ (tables : Tables) (number : ℕ) (here : Here) (code : List Instr) where
  abbrev onward : List Instr → Onward
  onward = runs tables number here code

  -- the code goes on with the rest at this place, with the cells of what has this property on the stack, the last one topmost
  pub record OnTop {A : Type 0} (P : World Sort → A → Type 0) (cells : World Sort → A → List Cell) (rest : List Instr) (at : ℕ) (k : Keeps) (s : Stack) (w : World Sort) (a : A) (m : Run) : Type 0 where
    pub is : P w a
    pub run : m ≡ runs tables number here code rest 0 at k (pushed (cells w a) s)

  -- with the cell of what has this property
  abbrev pub OnStack : {A : Type 0} → (World Sort → A → Type 0) → (World Sort → A → Cell) → List Instr → ℕ → Keeps → Stack → World Sort → A → Run → Type 0
  OnStack P cell = OnTop P (λ w a. cell w a ∷ [])

  -- with a value of this type
  abbrev pub Pushed : TType → List Instr → ℕ → Keeps → Stack → World Sort → Value → Run → Type 0
  Pushed t = OnStack (OfType t) number_in

  pub passed : (xs rest : List Instr) (n at : ℕ) (k : Keeps) (s : Stack) → runs tables number here code (xs ++ rest) (length xs + n) at k s ≡ runs tables number here code rest n (at + length xs) k s
  passed [] rest n at k s =
      let e : 0 + n ≡ n = omega arith in
      let f : at ≡ at + 0 = omega arith in
      ap (λ m. onward rest m at k s) e ∙ ap (λ m. onward rest n m k s) f
  passed (x ∷ xs) rest n at k s =
      let e : suc (length xs) + n ≡ suc (length xs + n) = omega arith in
      let f : at + 1 + length xs ≡ at + suc (length xs) = omega arith in
      ap (λ m. onward (x ∷ (xs ++ rest)) m at k s) e ∙ passed xs rest n (at + 1) k s ∙ ap (λ m. onward rest n m k s) f

  -- a jump forward
  pub jump_on : (rest : List Instr) (to at n : ℕ) (k : Keeps) (s : Stack) → to ≡ at + 1 + n → on_run tables (jumps code to at s) (runs tables number here code rest) at k ≡ runs tables number here code rest n (at + 1) k s
  jump_on rest to at n k s e =
      let lt : at < to = omega arith in
      let d : to - (at + 1) ≡ n = omega arith in
      rw (lt-ltb at to lt) (ap (λ m. onward rest m (at + 1) k s) d)

module _ (program : Program) (own : Option Procedure) (tables : Tables) (number : ℕ) (here : Here) (code : List Instr) where
  -- this piece of code, at this place, comes to what has this property, with its cells on the stack, and goes on behind itself
  abbrev pub Brings : {A : Type 0} → (World Sort → A → Type 0) → (World Sort → A → List Cell) → List Instr → Doing A → ℕ → Type 0
  Brings P cells xs r at =
      (w : World Sort) → Knows program own here w → (rest : List Instr) (k : Keeps) (s : Stack) →
      Does program here (OnTop tables number here code P cells rest (at + length xs) k s) w (runs tables number here code (xs ++ rest) 0 at k s) r

  -- with one cell
  abbrev pub ComesTo : {A : Type 0} → (World Sort → A → Type 0) → (World Sort → A → Cell) → List Instr → Doing A → ℕ → Type 0
  ComesTo P cell = Brings P (λ w a. cell w a ∷ [])

  -- it evaluates an expression of this type
  abbrev pub Evaluates : TType → List Instr → Doing Value → ℕ → Type 0
  Evaluates t = ComesTo (OfType t) number_in

  -- one whose values may be objects
  abbrev pub OfSort : TType → World Sort → Value → Type 0
  OfSort t w v = Is program w (Plain (id_of t)) v

  abbrev pub Yields : TType → List Instr → Doing Value → ℕ → Type 0
  Yields t = ComesTo (OfSort t) cell_of

  -- a piece of code, and what stands behind it
  pub front_does : {A C : Type 0} (P : World Sort → A → Type 0) (cells : World Sort → A → List Cell) (Q : World Sort → C → Run → Type 0) (f : A → Doing C) (xs tail : List Instr) (r : Doing A) (at : ℕ) (rest : List Instr) (k : Keeps) (s : Stack) → Brings P cells xs r at → (w : World Sort) → Knows program own here w → ((w' : World Sort) → Grows w w' → (a : A) (m : Run) → P w' a → m ≡ runs tables number here code (tail ++ rest) 0 (at + length xs) k (pushed (cells w' a) s) → Does program here Q w' m (f a)) → Does program here Q w (runs tables number here code ((xs ++ tail) ++ rest) 0 at k s) (bind r f)
  front_does P cells Q f xs tail r at rest k s h w known go =
      along program here Q w _ _ (bind r f) (ap (λ l. runs tables number here code l 0 at k s) (append_assoc xs tail rest))
      (does_bind program here (OnTop tables number here code P cells (tail ++ rest) (at + length xs) k s) Q w _ r f (h w known (tail ++ rest) k s) (λ w' up a m p. go w' up a m p.is p.run))

  pub piece_does : {A C : Type 0} (P : World Sort → A → Type 0) (cell : World Sort → A → Cell) (Q : World Sort → C → Run → Type 0) (f : A → Doing C) (xs tail : List Instr) (r : Doing A) (at : ℕ) (rest : List Instr) (k : Keeps) (s : Stack) → ComesTo P cell xs r at → (w : World Sort) → Knows program own here w → ((w' : World Sort) → Grows w w' → (a : A) (m : Run) → P w' a → m ≡ runs tables number here code (tail ++ rest) 0 (at + length xs) k (cell w' a ∷ s) → Does program here Q w' m (f a)) → Does program here Q w (runs tables number here code ((xs ++ tail) ++ rest) 0 at k s) (bind r f)
  piece_does P cell Q f xs tail r at rest k s h w known go = front_does P (λ w a. cell w a ∷ []) Q f xs tail r at rest k s h w known go

  -- what a piece of code has come to stays, and its cells, as the world grows
  abbrev pub Remain : {A : Type 0} → (World Sort → A → Type 0) → (World Sort → A → List Cell) → Type 0
  Remain {A = A} P cells = (w w' : World Sort) → Grows w w' → (a : A) → P w a → P w' a × (cells w a ≡ cells w' a)

  abbrev pub Stays : {A : Type 0} → (World Sort → A → Type 0) → (World Sort → A → Cell) → Type 0
  Stays {A = A} P cell = (w w' : World Sort) → Grows w w' → (a : A) → P w a → P w' a × (cell w a ≡ cell w' a)

  -- two pieces of code, and an instruction on what they come to
  pub two_do : {A B C : Type 0} (P : World Sort → A → Type 0) (c : World Sort → A → List Cell) (R : World Sort → B → Type 0) (d : World Sort → B → List Cell) (Q : World Sort → C → Run → Type 0) (x : Instr) (f : A → B → Doing C) (ca cb : List Instr) (ra : Doing A) (rb : Doing B) (at : ℕ) (rest : List Instr) (k : Keeps) (s : Stack) → Remain P c → Brings P c ca ra at → Brings R d cb rb (at + length ca) → (w : World Sort) → Knows program own here w → ((w' : World Sort) (a : A) (b : B) (m : Run) → P w' a → R w' b → m ≡ runs tables number here code (x ∷ rest) 0 (at + length ca + length cb) k (pushed (d w' b) (pushed (c w' a) s)) → Does program here Q w' m (f a b)) → Does program here Q w (runs tables number here code (operands_code ca cb x ++ rest) 0 at k s) (bind ra (λ a. bind rb (λ b. f a b)))
  two_do P c R d Q x f ca cb ra rb at rest k s stays ha hb w known op =
      front_does P c Q (λ a. bind rb (λ b. f a b)) ca (cb ++ x ∷ []) ra at rest k s ha w known
      (λ w1 up a m p e. along program here Q w1 m _ (bind rb (λ b. f a b)) e
      (front_does R d Q (λ b. f a b) cb (x ∷ []) rb (at + length ca) rest k (pushed (c w1 a) s) hb w1 (knows_grows program own here w w1 up known)
      (λ w2 up' b m' q e'. let h = stays w1 w2 up' a p in
      op w2 a b m' h.0 q (e' ∙ ap (λ y. runs tables number here code (x ∷ rest) 0 (at + length ca + length cb) k (pushed (d w2 b) (pushed y s))) h.1))))

  pub pieces_do : {A B C : Type 0} (P : World Sort → A → Type 0) (c : World Sort → A → Cell) (R : World Sort → B → Type 0) (d : World Sort → B → Cell) (Q : World Sort → C → Run → Type 0) (x : Instr) (f : A → B → Doing C) (ca cb : List Instr) (ra : Doing A) (rb : Doing B) (at : ℕ) (rest : List Instr) (k : Keeps) (s : Stack) → Stays P c → ComesTo P c ca ra at → ComesTo R d cb rb (at + length ca) → (w : World Sort) → Knows program own here w → ((w' : World Sort) (a : A) (b : B) (m : Run) → P w' a → R w' b → m ≡ runs tables number here code (x ∷ rest) 0 (at + length ca + length cb) k (d w' b ∷ (c w' a ∷ s)) → Does program here Q w' m (f a b)) → Does program here Q w (runs tables number here code (operands_code ca cb x ++ rest) 0 at k s) (bind ra (λ a. bind rb (λ b. f a b)))
  pieces_do P c R d Q x f ca cb ra rb at rest k s stays ha hb w known op =
      two_do P (λ w a. c w a ∷ []) R (λ w b. d w b ∷ []) Q x f ca cb ra rb at rest k s
      (λ w w' g a p. let h = stays w w' g a p in (h.0, ap (λ y. y ∷ []) h.1)) ha hb w known op

  pub values_stay : (t : TType) → Stays (OfType t) number_in
  values_stay t w w' g v h = (h, refl)

  pub sorts_stay : (t : TType) → Stays (OfSort t) cell_of
  sorts_stay t w w' g v h = ((values_kept program).is w w' g (Plain (id_of t)) v h, (values_kept program).cells w w' g (Plain (id_of t)) v h)

  -- a value of a basic type is one and the other
  pub yields : HasPredeclared program → (t : TType) (xs : List Instr) (r : Doing Value) (at : ℕ) → is_basic t ≡ true → Evaluates t xs r at → Yields t xs r at
  yields predeclared t xs r at basic h w known rest k s =
      does_more program here (Pushed tables number here code t rest (at + length xs) k s) (OnStack tables number here code (OfSort t) cell_of rest (at + length xs) k s) w _ r (h w known rest k s)
      (λ w' up v m p. record {
        is = value_to program predeclared t w' v basic p.is;
        run = p.run ∙ ap (λ c. runs tables number here code rest 0 (at + length xs) k (c ∷ s)) (sym (number_cell w' t v p.is));
      })

  pub evaluates : HasPredeclared program → (t : TType) (xs : List Instr) (r : Doing Value) (at : ℕ) → is_basic t ≡ true → Yields t xs r at → Evaluates t xs r at
  evaluates predeclared t xs r at basic h w known rest k s =
      does_more program here (OnStack tables number here code (OfSort t) cell_of rest (at + length xs) k s) (Pushed tables number here code t rest (at + length xs) k s) w _ r (h w known rest k s)
      (λ w' up v m p.
      let is = value_from program predeclared t w' v basic p.is in
      record { is = is; run = p.run ∙ ap (λ c. runs tables number here code rest 0 (at + length xs) k (c ∷ s)) (number_cell w' t v is) })

  -- an operand of this type, and what stands behind it
  pub operand_does : {C : Type 0} (Q : World Sort → C → Run → Type 0) (t : TType) (f : Value → Doing C) (xs tail : List Instr) (r : Doing Value) (at : ℕ) (rest : List Instr) (k : Keeps) (s : Stack) → Evaluates t xs r at → (w : World Sort) → Knows program own here w → ((w' : World Sort) → Grows w w' → (v : Value) (m : Run) → IsValueOf t v → m ≡ runs tables number here code (tail ++ rest) 0 (at + length xs) k (Num (number_of v) ∷ s) → Does program here Q w' m (f v)) → Does program here Q w (runs tables number here code ((xs ++ tail) ++ rest) 0 at k s) (bind r f)
  operand_does Q t f xs tail r at rest k s h w known go =
      piece_does (OfType t) number_in Q f xs tail r at rest k s h w known go

  -- code that goes on at the place behind its own
  pub ends_at : (t : TType) (rest : List Instr) (p q : ℕ) (k : Keeps) (s : Stack) (w : World Sort) (m : Run) (r : Doing Value) → p ≡ q → Does program here (Pushed tables number here code t rest p k s) w m r → Does program here (Pushed tables number here code t rest q k s) w m r
  ends_at t rest p q k s w m r e d = subst (λ n. Does program here (Pushed tables number here code t rest n k s) w m r) e d
