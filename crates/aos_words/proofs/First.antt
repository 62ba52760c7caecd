-- The first word names the command.
use Rattle.std.proofs.Common.{◌≡◌, ◌∙◌, ℕ, List, [], ◌∷◌, Some, Result, ap, sym, subst}
use Rattle.std.specs.Prelude.{String, string_bytes, slice_get, option_map, unwrap_or}
use Rattle.std.specs.declared.alloc.Global.{Global}
use Rattle.std.proofs.lemmas.Option.{none-some}
use Rattle.aos_words.specs.declared.command.WordsErr.{WordsErr}
use Rattle.aos_words.specs.declared.command.Command.{Command as Given}
use Rattle.aos_words.specs.Shown.{AnswersBy, command_in}
use Rattle.aos_words.specs.Words.{words_of, command_by, command_of}

pub by_name : (ws : List (String Global)) (w : String Global) (name : List ℕ) (r : Result Given WordsErr)
    → Some w ≡ slice_get ws 0 → name ≡ string_bytes w
    → AnswersBy command_in (command_by name (words_of ws)) r → AnswersBy command_in (command_of (words_of ws)) r
by_name [] w name r e n h = absurd (none-some w (sym e))
by_name (v ∷ ws) w name r e n h =
    subst (λ name. AnswersBy command_in (command_by name (words_of (v ∷ ws))) r)
    (n ∙ ap (λ o. unwrap_or (option_map (λ w. string_bytes w) o) []) e) h
