-- The numbers that locks have.
use Rattle.std.specs.Prelude.{ℕ, ◌<◌, length, Option, None, get_or}
use Rattle.aos_base.specs.declared.kernel.LockName.{LockName}
use Rattle.aos_base.specs.declared.kernel.LockName.TheVariants.{Module, Object}
use Rattle.aos_scheduler.specs.declared.numbers.Numbers.{Numbers}

-- a lock's number, where it was asked for
abbrev pub number_of : Numbers → LockName → Option ℕ
number_of numbers (Module m) = get_or numbers.modules.items m None
number_of numbers (Object o) = get_or numbers.objects.items o None

-- there is room for a lock's number
abbrev pub HasRoom : Numbers → LockName → Type 0
HasRoom numbers (Module m) = m < length numbers.modules.items
HasRoom numbers (Object o) = o < length numbers.objects.items
