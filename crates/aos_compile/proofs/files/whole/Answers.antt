use Rattle.std.proofs.Common.{length, map, ap, sym, ◌∙◌}
use Rattle.std.proofs.lemmas.List.{length-map}
use Rattle.aos_typed.specs.Program.{Program}
use Rattle.aos_typed.specs.Conditions.{numbered}
use Rattle.aos_typed.specs.Seen.{seen_module}
use Rattle.aos_typed.proofs.Headings.{as_many_modules}
use Rattle.aos_compile.proofs.files.whole.Goals as goal

pub returns-clause-went : goal.returns-clause-went
returns-clause-went c = c.in_ok-number.ensures ∙ ap numbered c.program_of-program.ensures

pub returns-clause-each : goal.returns-clause-each
returns-clause-each c =
    sym (length-map c.number.new.program.modules.items seen_module)
    ∙ ap (λ (p : Program). length p.modules) (c.in_ok-number.ensures ∙ ap numbered c.program_of-program.ensures)
    ∙ as_many_modules _ _ (map seen_module c.args.world.modules.items)
    ∙ length-map c.args.world.modules.items seen_module
