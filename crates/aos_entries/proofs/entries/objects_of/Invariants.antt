use Rattle.std.proofs.Common.{◌≡◌, [], length, drop, fold}
use Rattle.aos_symbols.specs.Declarations as declarations
use Rattle.aos_entries.specs.Entries as entries
use Rattle.aos_entries.proofs.entries.objects_of.Given as goal

abbrev pub invariant-loop-decl : goal.invariant-loop-decl
invariant-loop-decl l =
    fold (entries.next_object l.home l.numbers) (entries.numbered_objects l.place l.methods l.objects.entries) (declarations.type_defs (drop l.decl-index l.decls))
    ≡ fold (entries.next_object l.home l.numbers) (entries.numbered_objects 0 (length (declarations.procedures l.decls)) []) (declarations.type_defs l.decls)
