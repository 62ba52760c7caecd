use Rattle.std.proofs.Common.{◌≡◌, sym, subst}
use Rattle.std.proofs.lemmas.Result.{IfOk-weaker}
use Rattle.aos_script.specs.Listing.{IsScript}
use Rattle.aos_script.specs.Print.{joined_script, script_text}
use Rattle.aos_script.proofs.Prints.{printed_is_read}
use Rattle.aos_script.proofs.print.print_script.Goals as goal

pub returns-clause-script : goal.returns-clause-script
returns-clause-script c =
    let s = c.args.s.now in
    IfOk-weaker c.text_of_script.result (λ t. t.items ≡ script_text s) (λ t. IsScript t.items (joined_script s))
    (λ t is. subst (λ x. IsScript x (joined_script s)) (sym is) (printed_is_read s c.requires)) c.text_of_script.ensures
