-- What makes an object or an array.
use Rattle.std.proofs.Common.{◌≡◌, Option, ℕ, zero, suc, ◌+◌, ◌<◌, List, [], ◌∷◌, ◌++◌, length, refl, ap, ◌∙◌, arith, append_assoc}
use Rattle.aos_base.specs.declared.text.Pos.{Pos}
use Rattle.aos_code.specs.declared.instr.Instr.{Instr}
use Rattle.aos_code.specs.declared.instr.Instr.TheVariants.{NewArray, NewObject}
use Rattle.aos_code.specs.declared.instr.Kind.{Kind}
use Rattle.aos_typed.specs.Methods.{body_type, initializer}
use Rattle.aos_typed.specs.Program.{Place, Arguments, Procedure, Program}
use Rattle.aos_sim.specs.Code.{begin, place_code, arguments_code, stash, initial_kinds, initialize_code, store_code, new_code, make_instr}
use Rattle.aos_emit_stat.specs.Made.{made_code}
use Rattle.aos_emit_stat.proofs.Patch.{followed}

pub made_array : (t n : ℕ) → 0 < n → make_instr t n ≡ NewArray (t + 1) n
made_array t zero lt = absurd (omega arith)
made_array t (suc n) lt = refl

-- an object, from the code of each part
pub object_made : (p : Program) (own : Option Procedure) (t level n : ℕ) (slot body_of : Option ℕ) (kinds : List Kind) (base c1 c2 c3 c4 : List Instr) → slot ≡ initializer p t → body_of ≡ body_type p t → kinds ≡ initial_kinds p own slot t → n ≡ t + 1 → c1 ≡ base ++ stash kinds level → c2 ≡ c1 ++ NewObject n ∷ [] → c3 ≡ c2 ++ initialize_code p own slot t kinds level → c4 ≡ c3 ++ store_code p own body_of level → c4 ≡ base ++ made_code p own t level
object_made p own t level n slot body_of kinds base c1 c2 c3 c4 has carried are number e1 e2 e3 e4 =
    let kept = stash kinds level in
    let initialized = initialize_code p own slot t kinds level in
    let stored = store_code p own body_of level in
    let all = are ∙ ap (λ s. initial_kinds p own s t) has in
    e4
    ∙ ap (λ l. l ++ stored) (e3 ∙ ap (λ l. l ++ initialized) (e2 ∙ ap (λ l. l ++ NewObject n ∷ []) e1))
    ∙ append_assoc ((base ++ kept) ++ NewObject n ∷ []) initialized stored
    ∙ append_assoc (base ++ kept) (NewObject n ∷ []) (initialized ++ stored)
    ∙ append_assoc base kept (NewObject n ∷ (initialized ++ stored))
    ∙ (λ j. base ++ (stash (all j) level ++ (NewObject (number j) ∷ (initialize_code p own (has j) t (all j) level ++ store_code p own (carried j) level))))

-- and the whole of it, behind its place and what its initializer is handed
pub object_new : (p : Program) (own : Option Procedure) (here : Pos) (x : Place) (t : ℕ) (more : Arguments) (level : ℕ) (base c1 c2 c3 c4 : List Instr) → c1 ≡ base ++ begin here ∷ [] → c2 ≡ c1 ++ place_code p own x (length c1) → c3 ≡ c2 ++ arguments_code p own more (length c2) → c4 ≡ c3 ++ made_code p own t level → c4 ≡ base ++ begin here ∷ new_code p own x t more (length base + 1) level
object_new p own here x t more level base c1 c2 c3 c4 e1 e2 e3 e4 =
    let place = place_code p own x (length base + 1) in
    let handed : ℕ → List Instr = λ n. arguments_code p own more n in
    let made = made_code p own t level in
    let there : length base + suc (length place) ≡ length base + 1 + length place = omega arith in
    let first = followed base c1 c2 (begin here ∷ []) (λ n. place_code p own x n) e1 e2 in
    let second = followed base c2 c3 (begin here ∷ place) handed first e3 in
    followed base c3 c4 (begin here ∷ (place ++ handed (length base + suc (length place)))) (λ n. made) second e4
    ∙ ap (λ l. base ++ begin here ∷ l) (append_assoc place (handed (length base + suc (length place))) made)
    ∙ ap (λ n. base ++ begin here ∷ (place ++ (handed n ++ made))) there
