use Rattle.std.proofs.Common.{◌++◌, List, map, ap, ◌∙◌}
use Rattle.std.specs.String.{string_bytes}
use Rattle.aos_code.specs.declared.image.ModuleDesc.{ModuleDesc}
use Rattle.aos_kernel.specs.Run.{state_of}
use Rattle.aos_base.specs.Book.{outcome}
use Rattle.aos_code.specs.declared.image.Image.{Image}
use Rattle.aos_report.specs.Texts.{rows_text, waits_text}
use Rattle.aos_base.specs.Observation.{status_of}
use Rattle.aos.specs.Report.{spent_text}
use Rattle.aos.specs.Shown.{row_of, names_in, kernel_seen_of}
use Rattle.aos.proofs.Over.{tells}
use Rattle.aos.proofs.run.answer_of.Goals as goal

pub returns : goal.returns
returns c =
    let r = c.args.kernel.now in
    let names = λ (ds : List ModuleDesc). map (λ (d : ModuleDesc). string_bytes d.name) ds in
    let modules = c.as_slice-modules.ensures.value ∙ ap (λ (i : Image). i.modules.items) (c.deref.ensures ∙ c.image.ensures) in
    let lines = c.in_ok-err.ensures ∙ ap (λ ds. rows_text (names ds) (map row_of c.traps-traps.result.now)) modules ∙ ap (λ ts. rows_text (names r.image.modules.items) (map row_of ts)) c.traps-traps.ensures in
    let waits = waits_text (names_in r.image) (kernel_seen_of r).waits in
    let dead = c.deref-2.ensures.value ∙ c.in_ok-dead_lines.ensures in
    let last = c.deref-3.ensures.value ∙ c.in_ok-spent_line.ensures ∙ (λ i. spent_text (c.spent.ensures i) (c.budget.ensures.budget i)) in
    let told = c.in_ok-extend_from_slice.ensures.items ∙ (λ i. lines i ++ dead i) in
    tells r _
    (c.status.ensures ∙ ap (λ o. status_of o (map row_of c.traps-traps.result.now)) c.outcome.ensures ∙ ap (λ ts. status_of (outcome (state_of r).book) (map row_of ts)) c.traps-traps.ensures)
    (c.in_ok-from_slice.ensures.items ∙ c.output.ensures)
    (c.in_ok-extend_from_slice-2.ensures.items ∙ (λ i. told i ++ last i))
