use Rattle.std.proofs.Common.{◌≡◌, suc, List, [], ◌∷◌, ◌++◌, length, refl, ap, ◌∙◌, subst}
use Rattle.std.specs.Prelude.{None}
use Rattle.aos_base.specs.declared.priority.Priority.TheVariants.{Normal}
use Rattle.aos_base.specs.Book.{move, Ready}
use Rattle.aos_scheduler.specs.Stands.{Stands, started_of}
use Rattle.aos_kernel.specs.declared.activity.Activity.{Activity}
use Rattle.aos_kernel.specs.declared.activity.Next.TheVariants.{Runs}
use Rattle.aos_kernel.specs.declared.tables.KernelTables.{KernelTables}
use Rattle.aos_kernel.proofs.First.{shows_first}
use Rattle.aos_kernel.proofs.kernel.first_tables.Goals as goal

pub bear-requires-clause-stood : goal.bear-requires-clause-stood
bear-requires-clause-stood c = record { line = []; owner = λ _. None; stands = c.reserve-2.ensures.same [] (λ _. None) c.new-line.ensures.stands }

pub returns : goal.returns
returns c =
    let first : Activity = record { priority = Normal; next = Runs; condition = 0; locks = c.new-2.result; frames = c.in_ok-frames.frames } in
    let d : KernelTables = record { alloc = c.args.alloc; store = c.in_ok-store.store; activities = c.push_reserved.new.self; line = c.bear.new.self; output = c.new-3.result; traps = c.new-4.result; events = c.new-5.result; budget = c.args.budget; spent = None; stack = c.in_ok-stack.stack } in
    let none_yet : started_of c.reserve-2.new.self ≡ 0 = ap length c.reserve-2.ensures.places ∙ c.new-line.ensures.started in
    let empty = c.reserve-2.ensures.same [] (λ _. None) c.new-line.ensures.stands in
    let stands = subst (λ k. Stands c.bear.new.self (move k (Ready 2) []) (λ _. None)) none_yet (c.bear.ensures.stands [] (λ _. None) empty) in
    let alone = c.push_reserved.ensures.items ∙ ap (λ (xs : List Activity). xs ++ first ∷ []) (c.reserve.ensures.items ∙ c.new-activities.ensures.items) in
    shows_first c.args.image.now d c.args.budget c.in_ok-frames.frames c.new-2.result c.requires c.in_ok-store.ensures stands (c.bear.ensures.started ∙ ap suc none_yet)
    c.new-3.ensures.items c.new-4.ensures.items c.new-5.ensures.items refl refl alone c.in_ok-stack.ensures c.in_ok-frames.ensures.frames c.in_ok-frames.ensures.begun
