use Rattle.std.proofs.Common.{map, ap}
use Rattle.aos_typed.specs.Seen.{seen_module, seen_object, seen_program}
use Rattle.aos_dispatch.specs.Routines.{seen_routines}
use Rattle.aos_dispatch.proofs.Listed.{all_added}
use Rattle.aos_dispatch.proofs.routines.routines_of.Goals as goal

pub returns : goal.returns
returns c =
    let p = seen_program c.args.program.now in
    all_added p _ _ _ _ _ _ _ _ _
    (ap (map seen_module) c.as_slice.ensures.value) (ap (map seen_module) c.as_slice-3.ensures.value)
    (ap (map seen_object) c.as_slice-2.ensures.value) (ap (map seen_object) c.as_slice-4.ensures.value)
    (ap seen_routines c.new-all.ensures.items) c.in_ok-put_bodies.ensures c.in_ok-put_objects.ensures c.in_ok-put_all.ensures c.in_ok-put_methods.ensures
