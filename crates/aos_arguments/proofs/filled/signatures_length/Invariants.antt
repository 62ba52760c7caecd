-- The loop over signatures: the longest so far.
use Rattle.std.proofs.Common.{◌≡◌, take}
use Rattle.aos_arguments.specs.Filled.{most, signature_length}
use Rattle.aos_arguments.proofs.filled.signatures_length.Given as goal

abbrev pub invariant-loop-signature : goal.invariant-loop-signature
invariant-loop-signature l = l.length ≡ most (signature_length l.env) (take l.signature-index l.signatures)
