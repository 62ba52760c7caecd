-- What the code's commands and answers stand for.
use Rattle.std.specs.Prelude.{◌≡◌, ⊤, Option, Some, None, Result, Ok, Err}
use Rattle.aos_words.specs.declared.command.WordsErr.{WordsErr}
use Rattle.aos_words.specs.declared.command.WordsErr.TheVariants.{NoMemory, Refused}
use Rattle.aos_words.specs.declared.command.Command.{Command as Given}
use Rattle.aos_words.specs.declared.command.Command.TheVariants as given
use Rattle.aos_words.specs.Words.{borrowed, Command, Run, Replay, Check, List_, Gen}

-- the command as the code has it
abbrev pub command_in : Given → Command
command_in (given.Run workers budget log files) = Run workers budget log (borrowed files.items)
command_in (given.Replay script watch files) = Replay script.now watch (borrowed files.items)
command_in (given.Check files) = Check (borrowed files.items)
command_in (given.List files) = List_ (borrowed files.items)
command_in (given.Gen workers pairs) = Gen workers pairs

-- the answer stands for what is wanted, or is the refusal where nothing is; that memory was wanted
-- may be told of anything
abbrev pub AnswersBy : {X Y : Type 0} → (X → Y) → Option Y → Result X WordsErr → Type 0
AnswersBy seen wanted (Ok x) = wanted ≡ Some (seen x)
AnswersBy seen wanted (Err Refused) = wanted ≡ None
AnswersBy seen wanted (Err NoMemory) = ⊤
