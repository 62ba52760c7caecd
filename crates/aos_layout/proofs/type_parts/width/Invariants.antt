use Rattle.std.proofs.Common.{◌≡◌, ◌+◌, ◌*◌, ◌≤◌, length}
use Rattle.aos_types.specs.Contents.{contents}
use Rattle.aos_layout.specs.TypeParts.{width, front}
use Rattle.aos_layout.proofs.Parts.{bases}
use Rattle.aos_layout.proofs.type_parts.width.Given as goal

abbrev pub invariant-loop-step : goal.invariant-loop-step
invariant-loop-step l =
    record {
      counted : l.all + width (front l.types l.at) ≡ width (contents l.types l.fn.t);
      fits : l.all ≤ (l._step + 1) * 18446744073709551615;
      left : l._step + bases l.types l.at ≤ length l.types;
    }
