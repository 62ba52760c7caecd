-- The loop over the fields of one type: the scope is that of the walk so far.
use Rattle.std.proofs.Common.{◌≡◌, drop, fold}
use Rattle.aos_made_types.specs.Records as judge
use Rattle.aos_made_types.proofs.records.add_all_fields.Given as goal

abbrev pub invariant-loop-def : goal.invariant-loop-def
invariant-loop-def l = fold (judge.with_field l.text l.of) l.scope (drop l.def-index l.defs) ≡ fold (judge.with_field l.text l.of) l.initial.scope l.defs
