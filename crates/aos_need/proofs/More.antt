-- How many operands arguments and values need with one more before those that are there.
use Rattle.std.proofs.Common.{◌≡◌, ℕ, ◌+◌, ◌<◌, List, ◌∷◌, length, map, max, drop, get_or, sym, ap, ◌∙◌}
use Rattle.std.proofs.lemmas.List.{drop_more}
use Rattle.aos_typed.specs.declared.tree.TArgument.{TArgument}
use Rattle.aos_typed.specs.declared.tree.TExpr.{TExpr}
use Rattle.aos_typed.specs.Program.{Arguments}
use Rattle.aos_typed.specs.Seen.{seen_argument, seen_list, seen_expr}
use Rattle.aos_dispatch.proofs.Arguments.{seen_next}
use Rattle.aos_sim.specs.Need.{arguments_need, value_need, values_need}

-- one argument more, which is handed over before those that are there
pub need_more : (as' : List TArgument) (k left : ℕ) (a : TArgument) (need n : ℕ) → k < length as' → k + 1 ≡ left → a ≡ get_or as' k a → need ≡ arguments_need (seen_list (drop left as')) → ((more : Arguments) → arguments_need more ≡ need → n ≡ arguments_need (seen_argument a more)) → n ≡ arguments_need (seen_list (drop k as'))
need_more as' k left a need n lt next at is f = f (seen_list (drop left as')) (sym is) ∙ ap arguments_need (seen_next as' k left a lt next at)

-- one value more below those that are there
pub values_more : (es : List TExpr) (k left : ℕ) (e : TExpr) (need n : ℕ) → k < length es → k + 1 ≡ left → e ≡ get_or es k e → need ≡ values_need (map seen_expr (drop left es)) → n ≡ max (value_need (seen_expr e)) (1 + need) → n ≡ values_need (map seen_expr (drop k es))
values_more es k left e need n lt next at is all =
    all
    ∙ ap (λ m. max (value_need (seen_expr e)) (1 + m)) is
    ∙ ap (λ l. values_need (map seen_expr l)) (sym (drop_more es k e lt ∙ (λ i. sym at i ∷ drop (next i) es)))
