-- What is in what is handed over and in a call is less.
use Rattle.std.proofs.Common.{◌≡◌, ℕ, zero, suc, ◌+◌, ◌<◌, ◌≤◌, List, [], ◌∷◌, length, get_or, ap, arith}
use Rattle.aos_typed.specs.declared.tree.TArgument.{TArgument}
use Rattle.aos_typed.specs.declared.tree.TArgument.TheVariants as argument
use Rattle.aos_typed.specs.declared.tree.TExpr.{TExpr}
use Rattle.aos_typed.specs.Program.{Arguments, NoMore, Callee, Function}
use Rattle.aos_dispatch.specs.Sizes.{arguments_size, callee_size, value_size}
use Rattle.aos_typed.specs.Seen.{seen_argument, seen_list, seen_expr}

-- an argument alone is no more than it is before others, and what is behind it is less
split : (a : TArgument) (more : Arguments) → arguments_size (seen_argument a more) ≡ arguments_size (seen_argument a NoMore) + arguments_size more
split (argument.Scalar e) more = omega arith
split (argument.Whole p) more = omega arith
split (argument.Opening r) more = omega arith

got_less : (as' : List TArgument) (k : ℕ) (d : TArgument) → k < length as' → arguments_size (seen_argument (get_or as' k d) NoMore) ≤ arguments_size (seen_list as')
got_less [] k d lt = absurd (omega arith)
got_less (a ∷ as') zero d lt = omega (arith, split a (seen_list as'))
got_less (a ∷ as') (suc k) d lt = omega (arith, split a (seen_list as'), got_less as' k d (omega arith))

-- one of several arguments is no more than all
pub argument_less : (as' : List TArgument) (k : ℕ) (a : TArgument) → k < length as' → a ≡ get_or as' k a → arguments_size (seen_argument a NoMore) ≤ arguments_size (seen_list as')
argument_less as' k a lt is = let h = ap (λ x. arguments_size (seen_argument x NoMore)) is in omega (arith, h, got_less as' k a lt)

-- what a call is on and its arguments are less than the call
pub call_within : (e : TExpr) (c : Callee) (xs as' : List TArgument) → seen_expr e ≡ Function c (seen_list as') → xs ≡ as' → callee_size c + arguments_size (seen_list xs) < value_size (seen_expr e)
call_within e c xs as' is same = let a = ap value_size is in let b = ap (λ l. arguments_size (seen_list l)) same in omega (arith, a, b)
