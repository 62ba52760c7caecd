use Rattle.std.proofs.Common.{refl, sym, subst}
use Rattle.aos_code.specs.Memory.{Memory}
use Rattle.aos_code.specs.Machine.{made_in}
use Rattle.aos_store.specs.Store.{list_in, memory_in}
use Rattle.aos_cpu.specs.Turns.{StandsAtStop}
use Rattle.aos_cpu.proofs.Own.{private_turned, still_none, held}
use Rattle.aos_cpu.proofs.alone.make_own.Goals as goal

pub finish-requires : goal.finish-requires
finish-requires c = subst (λ (m : Memory). StandsAtStop c.args.image.now (made_in c.args.image.now m) c.args.stop (list_in c.args.frames.now.list.items)) (sym c.requires.memory) c.requires.stands

pub returns-in-Went-clause-ok : goal.returns-in-Went-clause-ok
returns-in-Went-clause-ok c made fs h =
    private_turned c.args.image.now c.in_ok-finish.field-0 c.args.frames.now c.finish.new.frames _ (memory_in c.args.store.now) (memory_in c.finish.new.store) c.args.output.now.items c.finish.new.output.items made fs
    c.requires.own c.requires.memory c.in_ok-finish.ensures.ok c.in-Went.is c.finish.ensures.turns refl h

pub returns-in-Went-clause-none : goal.returns-in-Went-clause-none
returns-in-Went-clause-none c =
    still_none c.args.image.now c.in_ok-finish.field-0 c.args.frames.now c.finish.new.frames (memory_in c.args.store.now) (memory_in c.finish.new.store) c.args.output.now.items c.finish.new.output.items
    c.requires.own c.requires.memory c.in_ok-finish.ensures.ok

pub returns-in_default : goal.returns-in_default
returns-in_default c =
    record {
      ok = held c.args.image.now c.in_ok-finish.field-0 c.args.frames.now c.finish.new.frames (memory_in c.args.store.now) (memory_in c.finish.new.store) c.args.output.now.items c.finish.new.output.items
          c.in_default.not-Went c.requires.memory c.in_ok-finish.ensures.ok c.in_ok-finish.ensures.left c.finish.ensures.turns;
      err = tt;
      counts = tt;
      none = still_none c.args.image.now c.in_ok-finish.field-0 c.args.frames.now c.finish.new.frames (memory_in c.args.store.now) (memory_in c.finish.new.store) c.args.output.now.items c.finish.new.output.items
          c.requires.own c.requires.memory c.in_ok-finish.ensures.ok;
      fit = c.finish.ensures.fit;
    }

pub returns-in-Went-clause-fit : goal.returns-in-Went-clause-fit
returns-in-Went-clause-fit c whole fit = c.finish.ensures.fit whole fit
