-- What is made of what clap found.
use Rattle.std.proofs.Common.{◌≡◌, List, Option, Some, Result, sym, subst}
use Rattle.std.specs.Prelude.{option_and_then}
use Rattle.clap.specs.Simple.{App}
use Rattle.clap.specs.Walk.{Row}
use Rattle.aos_words.specs.declared.command.WordsErr.{WordsErr}
use Rattle.aos_words.specs.Shown.{AnswersBy}
use Rattle.aos_words.specs.Words.{Words, taken, by}

-- an answer to the rows that clap found by a form is one to the words
pub made_of : {X Y : Type 0} (seen : X → Y) (made : List Row → Option Y) (form built : App) (words : Words) (rows : List Row) (r : Result X WordsErr)
    → built ≡ form → taken built words ≡ Some rows → AnswersBy seen (made rows) r → AnswersBy seen (by form made words) r
made_of seen made form built words rows r same found h =
    subst (λ o. AnswersBy seen (option_and_then made o) r) (sym (subst (λ f. taken f words ≡ Some rows) same found)) h
