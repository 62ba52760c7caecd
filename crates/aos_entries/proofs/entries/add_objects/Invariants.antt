use Rattle.std.proofs.Common.{◌≡◌, drop, fold}
use Rattle.aos_entries.specs.Entries as entries
use Rattle.aos_entries.proofs.entries.add_objects.Given as goal

abbrev pub invariant-loop-def : goal.invariant-loop-def
invariant-loop-def l =
    fold (entries.next_object l.home l.numbers) (entries.numbered_objects l.place l.methods l.objects.entries) (drop l.def-index l.defs)
    ≡ fold (entries.next_object l.home l.numbers) (entries.numbered_objects l.initial.place l.initial.methods l.initial.objects.entries) l.defs
