use Rattle.std.proofs.Common.{◌≡◌, ◌<◌, ◌≤◌}
use Rattle.aos_types.specs.Contents.{contents, scalars}
use Rattle.aos_types.specs.Shape as shape
use Rattle.aos_layout.specs.TypeParts.{width, front, parts}
use Rattle.aos_layout.proofs.Parts.{bases}
use Rattle.aos_layout.proofs.type_parts.owner.Given as goal

abbrev pub invariant-loop-begin : goal.invariant-loop-begin
invariant-loop-begin l =
    record {
      begins : l.begin ≡ width (front l.types l.at);
      there : l.fn.number < width (contents l.types l.at);
      part : shape.part l.fn.number (parts l.types l.fn.t) ≡ shape.part l.fn.number (parts l.types l.at);
      before : shape.before l.fn.number (parts l.types l.fn.t) ≡ shape.before l.fn.number (parts l.types l.at);
      sizes : scalars l.types l.at ≤ scalars l.types l.fn.t;
    }

abbrev pub decreases-loop-begin : goal.decreases-loop-begin
decreases-loop-begin l = bases l.types l.at
