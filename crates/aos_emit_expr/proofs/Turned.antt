-- Instructions that are put from the last to the first.
use Rattle.std.proofs.Common.{◌≡◌, Option, ℕ, zero, suc, pos, ◌+◌, ◌-◌, ◌<◌, ◌≤◌, List, [], ◌∷◌, ◌++◌, length, map, drop, get_or, refl, sym, ap, ◌∙◌, arith, append_assoc, append-nil}
use Rattle.std.specs.Prelude.{reverse}
use Rattle.std.proofs.lemmas.List.{reverse-append, drop_more}
use Rattle.aos_code.specs.declared.instr.Instr.{Instr}
use Rattle.aos_code.specs.declared.instr.Instr.TheVariants.{Num, Drop, Param, Length}
use Rattle.aos_typed.specs.declared.tree.TArgument.{TArgument}
use Rattle.aos_typed.specs.declared.tree.TArgument.TheVariants as argument
use Rattle.aos_typed.specs.Program.{Arguments, NoMore, Procedure, Program}
use Rattle.aos_typed.specs.Seen.{seen_argument, seen_list}
use Rattle.aos_sim.specs.Code.{lengths_code, drops}
use Rattle.aos_dispatch.proofs.Arguments.{seen_next}
use Rattle.aos_emit_expr.specs.Back.{back_arguments}

-- one length more before those that are there
pub number_more : (ns : List ℕ) (k d : ℕ) (start code : List Instr) → k < length ns → code ≡ start ++ reverse (map (λ n. Num (pos n)) (drop (k + 1) ns)) → code ++ Num (pos (get_or ns k d)) ∷ [] ≡ start ++ reverse (map (λ n. Num (pos n)) (drop k ns))
number_more ns k d start code lt e =
    let rest = map (λ n. Num (pos n)) (drop (k + 1) ns) in
    let x = Num (pos (get_or ns k d)) in
    ap (λ l. l ++ x ∷ []) e
    ∙ append_assoc start (reverse rest) (x ∷ [])
    ∙ ap (λ l. start ++ l) (sym (reverse-append (x ∷ []) rest))
    ∙ ap (λ l. start ++ reverse (map (λ n. Num (pos n)) l)) (sym (drop_more ns k d lt))

-- the last one of some cells
lengths_last : (c n : ℕ) → lengths_code c (suc n) ≡ lengths_code c n ++ Length (c + n) ∷ []
lengths_last c zero = let e : c ≡ c + 0 = omega arith in ap (λ m. Length m ∷ []) e
lengths_last c (suc n) =
    let e : suc c + n ≡ c + suc n = omega arith in
    ap (λ l. Length c ∷ l) (lengths_last (suc c) n ∙ ap (λ m. lengths_code (suc c) n ++ Length m ∷ []) e)

pub opened_more : (c next : ℕ) (code : List Instr) → c < next → (code ++ Length next ∷ []) ++ reverse (lengths_code (suc c) (next - 1 - c)) ≡ code ++ reverse (lengths_code (suc c) (next - c))
opened_more c next code lt =
    let n = next - 1 - c in
    let long : suc n ≡ next - c = omega (arith, lt) in
    let last : suc c + n ≡ next = omega (arith, lt) in
    append_assoc code (Length next ∷ []) (reverse (lengths_code (suc c) n))
    ∙ ap (λ m. code ++ Length m ∷ reverse (lengths_code (suc c) n)) (sym last)
    ∙ ap (λ l. code ++ l) (sym (ap reverse (lengths_last (suc c) n) ∙ reverse-append (lengths_code (suc c) n) (Length (suc c + n) ∷ [])))
    ∙ ap (λ m. code ++ reverse (lengths_code (suc c) m)) long

-- and the place before all
pub opened_ends : (c next j : ℕ) (start code : List Instr) → c ≤ next → next ≤ c → code ++ reverse (lengths_code (suc c) (next - c)) ≡ start ++ reverse (lengths_code (suc c) j) → code ++ Param c ∷ [] ≡ start ++ reverse (Param c ∷ lengths_code (suc c) j)
opened_ends c next j start code le ge e =
    let none : next - c ≡ 0 = omega (arith, le, ge) in
    let ls = lengths_code (suc c) j in
    ap (λ l. l ++ Param c ∷ []) (sym (append-nil code) ∙ ap (λ m. code ++ reverse (lengths_code (suc c) m)) (sym none) ∙ e)
    ∙ append_assoc start (reverse ls) (Param c ∷ [])
    ∙ ap (λ l. start ++ l) (sym (reverse-append (Param c ∷ []) ls))

-- one operand less to take
pub drops_more : (n i : ℕ) (code : List Instr) → i < n → (code ++ Drop ∷ []) ++ drops (n - (i + 1)) ≡ code ++ drops (n - i)
drops_more n i code lt =
    let e : suc (n - (i + 1)) ≡ n - i = omega (arith, lt) in
    append_assoc code (Drop ∷ []) (drops (n - (i + 1))) ∙ ap (λ m. code ++ drops m) e

-- one argument more before those that are there
pub argument_more : (p : Program) (own : Option Procedure) (as' : List TArgument) (k left : ℕ) (a : TArgument) (start code new : List Instr) → k < length as' → k + 1 ≡ left → a ≡ get_or as' k a → code ≡ back_arguments p own (seen_list (drop left as')) start → new ≡ back_arguments p own (seen_argument a NoMore) code → new ≡ back_arguments p own (seen_list (drop k as')) start
argument_more p own as' k left a start code new lt next at is e =
    e ∙ ap (back_arguments p own (seen_argument a NoMore)) is ∙ before a (seen_list (drop left as')) ∙ ap (λ l. back_arguments p own l start) (seen_next as' k left a lt next at)
  where
    before : (a : TArgument) (more : Arguments) → back_arguments p own (seen_argument a NoMore) (back_arguments p own more start) ≡ back_arguments p own (seen_argument a more) start
    before (argument.Scalar e) more = refl
    before (argument.Whole q) more = refl
    before (argument.Opening r) more = refl
