-- What an error of a check tells.
use Rattle.aos_base.specs.declared.text.Refusal.{Refusal}
use Rattle.aos_checks.specs.declared.check_err.CheckErr.{CheckErr}
use Rattle.aos_checks.specs.declared.check_err.CheckErr.TheVariants.{Refused, NoMemory}

-- what an error that is a refusal tells; want of memory tells nothing
abbrev pub OnRefused : CheckErr → (Refusal → Type 0) → Type 0
OnRefused (Refused r) fact = fact r
OnRefused NoMemory fact = Unit {0}
