use Rattle.std.proofs.Common.{arith}
use Rattle.std.proofs.lemmas.List.{length-map}
use Rattle.aos_typed.specs.Seen.{seen_object, seen_program}
use Rattle.aos_program_layout.proofs.Taken.{handed_there}
use Rattle.aos_program_layout.proofs.laid.Laid.new.Goals as goal

pub invariant_of-result : goal.invariant_of-result
invariant_of-result c =
    let q = c.args.program.now in
    let typed = c.requires.typed in
    record {
      same = c.in_ok-dispatch.ensures;
      few = omega (arith, typed.parts.beside, c.requires.few_types, length-map q.objects.items seen_object);
      types = typed.parts.types;
      blocks = c.in_ok-blocks.ensures.blocks;
      handed = handed_there (seen_program q) typed;
    }
