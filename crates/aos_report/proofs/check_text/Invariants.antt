use Rattle.std.proofs.Common.{◌≡◌, take, map}
use Rattle.std.specs.List.{flat_map}
use Rattle.aos_report.specs.Texts.{await_text}
use Rattle.aos_report.proofs.check_text.Given as goal

-- the lines so far
abbrev pub invariant-loop-one : goal.invariant-loop-one
invariant-loop-one l = l.text.items ≡ flat_map (await_text (map (λ n. n.now) l.names)) (take l.one-index l.awaits)
