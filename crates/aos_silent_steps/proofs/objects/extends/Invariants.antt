use Rattle.std.proofs.Common.{◌≡◌, ◌-◌, length}
use Rattle.aos_code.specs.Silent.{extends, extends_by}
use Rattle.aos_silent_steps.proofs.objects.extends.Given as goal

-- from here so many bases are left to be looked at
abbrev pub invariant-loop : goal.invariant-loop
invariant-loop l = extends l.types l.of_type l.other ≡ extends_by (length l.types - l.counter) l.types l.now l.other
