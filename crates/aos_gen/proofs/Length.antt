-- How many bytes the text has.
use Rattle.std.proofs.Common.{◌≡◌, ℕ, ◌<◌, ◌≤◌, ◌^◌, length, arith, refl}
use Rattle.std.specs.Prelude.{decimal, ◌++◌}
use Rattle.std.proofs.lemmas.List.{length-append}
use Rattle.std.proofs.lemmas.Fmt.{length-decimal-le_succ}
use Rattle.aos_gen.specs.Generated.{front_text, behind_text, module_text}

front_length : length front_text ≡ 34
front_length = refl

behind_length : length behind_text ≡ 1087
behind_length = refl

pub within : (pairs : ℕ) → pairs ≤ 500 → length (module_text pairs) ≤ 2000
within pairs few =
    let small : pairs < 2 ^ 64 = omega (arith, few) in
    let number = length-decimal-le_succ pairs small in
    let all = length-append front_text (decimal pairs ++ behind_text) in
    let others = length-append (decimal pairs) behind_text in
    omega (arith, few, number, front_length, behind_length, all, others)
