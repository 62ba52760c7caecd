-- Sinks whose count stays 0 haven't failed.
use Rattle.std.proofs.Common.{◌≡◌, ℕ, List, inl, inr, arith}
use Rattle.aos.specs.Call.{SinkUse, SinkFailed}
use Rattle.aos.specs.Cause.{PutInPart, out_failed, err_failed}

never : (sink : SinkUse) → sink.faults_before ≡ 0 → sink.faults_after ≡ 0 → SinkFailed sink → ⊥
never sink before behind (inl rose) = omega (arith, rose, before, behind)
never sink before behind (inr rose) = let full = rose.0 in omega (arith, full, before)

pub none_failed : {out err : SinkUse} {out_text err_text : List ℕ} → PutInPart out err out_text err_text → out.faults_before ≡ 0 → out.faults_after ≡ 0 → err.faults_before ≡ 0 → err.faults_after ≡ 0 → ⊥
none_failed {out} {err} (out_failed f w k) a b c d = never out a b f
none_failed {out} {err} (err_failed f w k) a b c d = never err c d f
