-- The forms of the commands' words: simple commands, as clap's own definitions have them.
use Rattle.std.specs.Prelude.{codes, Some, true}
use Rattle.clap.specs.Lexer.{usize_max}
use Rattle.clap.specs.Walk.{Rule, Text}
use Rattle.clap.specs.Simple.{App, new_app, new_rule, with_rule}
use Rattle.clap.specs.declared.builder.action.ArgAction.TheVariants.{SetTrue}

-- --NAME VALUE
abbrev pub option_rule : Text → Rule
option_rule name = record (new_rule name) { long = Some name }

-- the same, where it has to be given
abbrev pub required_rule : Text → Rule
required_rule name = record (new_rule name) { long = Some name; required = true }

-- --NAME
abbrev pub flag_rule : Text → Rule
flag_rule name = record (new_rule name) { long = Some name; action = Some SetTrue }

-- FILE..., one word or more
abbrev pub files_rule : Rule
files_rule = record (new_rule (codes "FILE")) {
  required = true;
  range = Some (record { start_inclusive = 1; end_inclusive = usize_max });
}

-- N, one word
abbrev pub number_rule : Rule
number_rule = record (new_rule (codes "N")) { required = true }

-- run [--workers n] [--budget b] [--log] FILE...
abbrev pub run_form : App
run_form =
    with_rule (with_rule (with_rule (with_rule (new_app (codes "run"))
    (option_rule (codes "workers"))) (option_rule (codes "budget"))) (flag_rule (codes "log")))
    files_rule

-- replay --script S [--watch] FILE...
abbrev pub replay_form : App
replay_form =
    with_rule (with_rule (with_rule (new_app (codes "replay"))
    (required_rule (codes "script"))) (flag_rule (codes "watch"))) files_rule

-- NAME FILE...
abbrev pub files_form : Text → App
files_form name = with_rule (new_app name) files_rule

-- gen [--workers n] N
abbrev pub gen_form : App
gen_form =
    with_rule (with_rule (new_app (codes "gen")) (option_rule (codes "workers"))) number_rule
