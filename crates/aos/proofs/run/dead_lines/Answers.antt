use Rattle.std.proofs.Common.{◌≡◌, ◌≢◌, List, map, rules, sym, ap, ◌∙◌, subst}
use Rattle.std.specs.String.{string_bytes}
use Rattle.std.proofs.lemmas.Result.{IfOk-weaker}
use denote.Enum.Bare.{same_true, same_false}
use Rattle.aos_base.specs.contracts.kernel.Outcome.{the_type}
use Rattle.aos_base.specs.declared.kernel.Outcome.{Outcome}
use Rattle.aos_base.specs.declared.kernel.Outcome.TheVariants.{Dead}
use Rattle.aos_base.specs.Book.{outcome}
use Rattle.aos_code.specs.declared.image.Image.{Image}
use Rattle.aos_code.specs.declared.image.ModuleDesc.{ModuleDesc}
use Rattle.aos_kernel.specs.Run.{state_of}
use Rattle.aos_report.specs.Texts.{waits_text}
use Rattle.aos.specs.Shown.{wait_row_of, names_in}
use Rattle.aos.proofs.Over.{dead_waits, no_waits}
use Rattle.aos.proofs.run.dead_lines.Goals as goal

pub returns-then-eq : goal.returns-then-eq
returns-then-eq c =
    let r = c.args.kernel.now in
    let names = λ (ds : List ModuleDesc). map (λ (d : ModuleDesc). string_bytes d.name) ds in
    let is : c.outcome.result ≡ Dead = same_true the_type (search rules) _ _ (sym c.eq.ensures ∙ c.if-eq.true) in
    let modules = c.as_slice.ensures.value ∙ ap (λ (i : Image). i.modules.items) (c.deref-then-eq.ensures ∙ c.image.ensures) in
    let rows = ap (map wait_row_of) (c.deref.ensures.value ∙ c.in_ok-waits.ensures) ∙ dead_waits r (sym c.outcome.ensures ∙ is) in
    IfOk-weaker c.wait_lines.result _ _ (λ lines e. e ∙ (λ i. waits_text (names (modules i)) (rows i))) c.wait_lines.ensures

pub returns : goal.returns
returns c =
    let r = c.args.kernel.now in
    let is : c.outcome.result ≢ Dead = same_false the_type _ _ (sym c.eq.ensures ∙ c.if-eq.false) in
    let lively : outcome (state_of r).book ≢ Dead = subst (λ (o : Outcome). o ≢ Dead) c.outcome.ensures is in
    c.new.ensures.items ∙ ap (waits_text (names_in r.image)) (sym (no_waits r lively))
