-- The third pass: calls as statements, by what their first name stands for.
use Rattle.std.specs.Prelude.{not, ◌&&◌, Option, if◌then◌else◌}
use Rattle.aos_tree.specs.declared.expr.Desig.{Desig}
use Rattle.aos_typed.specs.Program.{Stat}
use Rattle.aos_symbols.specs.declared.scope.Meaning.{Meaning}
use Rattle.aos_symbols.specs.declared.scope.Meaning.TheVariants as means
use Rattle.aos_symbols.specs.declared.env.Symbol.{Symbol}
use Rattle.aos_symbols.specs.declared.env.Lookup.{Lookup}
use Rattle.aos_symbols.specs.declared.env.Lookup.TheVariants.{Unknown as NoName, NotExported, Found}
use Rattle.aos_symbols.specs.declared.env.Env.{Env}
use Rattle.aos_symbols.specs.Judged.{Judged}
use Rattle.aos_designators.specs.Designators as desig
pub use Rattle.aos_stat_rules.specs.Calls.{refused, not_yet, plain_call, ended, arguments, behind_arguments, is_selected, is_selected_behind, goes_on, before_last, is_made, new_breaches, is_no_variable, lengths_wanted, count_breaches, made_type, makes_object, initializer_of, may_be_length, no_call, gives_value, is_value_called, changing, is_changed_set, is_amount, is_changed, changed_breaches, changed_by, code_of, is_code, code_in, text_to, value_fits, put_text, copied, called_entity}
pub use Rattle.aos_check_routines.specs.Routines.{outs, int_call, char_call, text_argument, string_call, out_call, out_selectors, with_length, new_lengths, initialized_by, initialized, new_object, new_with, new_of, new_call, copied_to, copy_call, amount, change_of, change_at, change_call, trap_code, assert_call, halt_call, routine_call}
pub use Rattle.aos_check_call.specs.Calls.{perform_with, perform_signed, perform, performed, perform_bound, called_as, called_alone, bracketed_entity, bracketed_name, bracketed_as, called_with, part_of, called_whole, called_before, called_last, called_value, called_member, called_in_module}

module _ (e : Env) where
  -- a call, by what its first name stands for
  abbrev pub called_meaning : Symbol → Meaning → Desig → Judged (Option Stat)
  called_meaning x means.Out d =
      if is_selected_behind d.selectors then called_value e d else out_selectors e d.name.pos d.selectors
  called_meaning x (means.Module m) d = called_in_module e (desig.plain e d.name) d.selectors d
  called_meaning x (means.Routine r) d =
      if is_selected d.selectors then called_value e d
      else ended d.name.pos (behind_arguments d.selectors) (routine_call e r d.name.pos (arguments d.selectors))
  called_meaning x means.Proper d = not_yet d.name.pos
  called_meaning x (means.Procedure k) d =
      if desig.is_of_module x && not (goes_on d.selectors) then performed e d.name.pos x k d.selectors else called_value e d
  called_meaning x m d = called_value e d

  abbrev pub called : Lookup → Desig → Judged (Option Stat)
  called NoName d = refused 14 d.name.pos
  called NotExported d = refused 15 d.name.pos
  called (Found x) d = called_meaning x x.means d
