use Rattle.std.proofs.Common.{◌≡◌, refl, subst, arith}
use Rattle.aos_store.specs.Store.{frame_in}
use Rattle.aos_silent_steps.specs.declared.act.Act.{Act}
use Rattle.aos_silent_steps.specs.Acts.{WhereStays}
use Rattle.aos_cpu.proofs.InPlace.{silent_top, asks_top, begun_top, worked_same}
use Rattle.aos_cpu.proofs.in_place.go_after.Goals as goal

pub returns-in-Goes-clause-done : goal.returns-in-Goes-clause-done
returns-in-Goes-clause-done c image here mem f code_is at_is step same =
    silent_top image here mem f (frame_in c.args.frame.now) c.args.code.now c.args.at c.args.did code_is at_is c.requires.within step c.in-Goes.over c.saturating_add-frame.result c.in-Goes.is c.saturating_add-frame.ensures
    (omega arith)

pub returns-in-Begins-clause-done : goal.returns-in-Begins-clause-done
returns-in-Begins-clause-done c image here mem f code_is at_is step same =
    begun_top image here mem f (frame_in c.args.frame.now) c.args.code.now c.args.at c.args.did code_is at_is c.requires.within step c.in-Begins.to c.in-Begins.pos c.in-Begins.is

pub returns-in-Sees-clause-done : goal.returns-in-Sees-clause-done
returns-in-Sees-clause-done c image here mem f code_is at_is step same =
    asks_top image here mem f (frame_in c.args.frame.now) c.args.code.now c.args.at c.args.did code_is at_is c.requires.within step c.in-Sees.question c.in-Sees.is
    (subst (λ (d : Act). WhereStays d (frame_in c.args.frame.now ≡ f)) c.in-Sees.is same) (omega arith)

pub returns-in-Fails-clause-done : goal.returns-in-Fails-clause-done
returns-in-Fails-clause-done c image here mem f code_is at_is step same = worked_same image here mem mem f (frame_in c.args.frame.now) (subst (λ (d : Act). WhereStays d (frame_in c.args.frame.now ≡ f)) c.in-Fails.is same) refl

pub returns-in-Decides-clause-done : goal.returns-in-Decides-clause-done
returns-in-Decides-clause-done c image here mem f code_is at_is step same = worked_same image here mem mem f (frame_in c.args.frame.now) (subst (λ (d : Act). WhereStays d (frame_in c.args.frame.now ≡ f)) c.in-Decides.is same) refl
