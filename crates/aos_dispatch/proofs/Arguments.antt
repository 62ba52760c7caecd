-- What is handed over, one argument before the other.
use Rattle.std.proofs.Common.{◌≡◌, ◌<◌, ℕ, ◌+◌, List, length, drop, get_or, sym, ap, ◌∙◌}
use Rattle.std.proofs.lemmas.List.{drop_more}
use Rattle.aos_typed.specs.declared.tree.TArgument.{TArgument}
use Rattle.aos_typed.specs.Operands.{operands}
use Rattle.aos_typed.specs.Program.{Arguments}
use Rattle.aos_typed.specs.Seen.{seen_argument, seen_list}

-- one argument more below those that are counted
pub seen_next : (as' : List TArgument) (k left : ℕ) (a : TArgument) → k < length as' → k + 1 ≡ left → a ≡ get_or as' k a → seen_argument a (seen_list (drop left as')) ≡ seen_list (drop k as')
seen_next as' k left a lt next at =
    ap (λ n. seen_argument a (seen_list (drop n as'))) (sym next)
    ∙ ap (λ x. seen_argument x (seen_list (drop (k + 1) as'))) at
    ∙ ap seen_list (sym (drop_more as' k a lt))

pub operands_more : (as' : List TArgument) (k left : ℕ) (a : TArgument) (count n : ℕ) → k < length as' → k + 1 ≡ left → a ≡ get_or as' k a → count ≡ operands (seen_list (drop left as')) → ((more : Arguments) → operands more ≡ count → n ≡ operands (seen_argument a more)) → n ≡ operands (seen_list (drop k as'))
operands_more as' k left a count n lt next at is f = f (seen_list (drop left as')) (sym is) ∙ ap operands (seen_next as' k left a lt next at)
