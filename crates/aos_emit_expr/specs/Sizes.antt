-- How much there is of what code is emitted of and of a form of code, so that what is in one of them is less.
use Rattle.std.specs.Prelude.{ℕ, suc, ◌+◌, Option, Some, None}
use Rattle.aos_typed.specs.Program.{Function}
use Rattle.aos_typed.specs.Seen.{seen_rows, seen_list, seen_callee, seen_expr}
use Rattle.aos_dispatch.specs.Sizes.{rows_size, arguments_size, value_size, front_size}
use Rattle.aos_emit_expr.specs.declared.sources.Source.{Source}
use Rattle.aos_emit_expr.specs.declared.sources.Source.TheVariants as sources
use Rattle.aos_emit_expr.specs.declared.forms.Form.{Form}
use Rattle.aos_emit_expr.specs.declared.forms.Form.TheVariants as forms

abbrev pub source_size : Source → ℕ
source_size (sources.Prefix f) = front_size f
source_size (sources.Call c as') = value_size (Function (seen_callee c.now) (seen_list as'.now))
source_size (sources.Handed as') = arguments_size (seen_list as'.now)
source_size sources.SelfRef = 0

-- what stands first of a form, if anything does, counts one more
abbrev pub first_size : Option Source → ℕ
first_size None = 0
first_size (Some s) = suc (source_size s)

-- what something is called on
abbrev pub called_size : Option Source → ℕ
called_size None = 0
called_size (Some s) = source_size s

abbrev pub form_size : Form → ℕ
form_size (forms.Part f) = suc (front_size f)
form_size (forms.Alone i) = 0
form_size (forms.One f i) = suc (front_size f)
form_size (forms.Two f g i) = suc (front_size f + front_size g)
form_size (forms.And a b) = suc (value_size (seen_expr a.now) + value_size (seen_expr b.now))
form_size (forms.Or a b) = suc (value_size (seen_expr a.now) + value_size (seen_expr b.now))
form_size (forms.Element a) = suc (value_size (seen_expr a.now))
form_size (forms.Length r d n) = suc (rows_size (seen_rows r.now))
form_size (forms.Lengths f ns) = suc (front_size f)
form_size (forms.Opened k j) = 0
form_size (forms.Call s i as') = suc (called_size s + arguments_size (seen_list as'.now))
form_size (forms.Handed as') = arguments_size (seen_list as'.now)
