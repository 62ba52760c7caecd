use Rattle.std.proofs.Common.{◌<◌, ◌++◌, ℕ, List, [], ◌∷◌, length, take, ap, sym, ◌∙◌, arith}
use Rattle.std.specs.Borrow.{Bor}
use Rattle.std.specs.String.{string_bytes}
use Rattle.std.proofs.lemmas.List.{map-append, map_more}
use Rattle.aos_code.specs.declared.image.ModuleDesc.{ModuleDesc}
use Rattle.aos_words.specs.Words.{borrowed}
use Rattle.aos.specs.Shown.{module_names}
use Rattle.aos.proofs.names.names_of.Goals as goal

pub loop-module-preserved : goal.loop-module-preserved
loop-module-preserved c =
    let l = c.loop-module in
    let ds = c.args.modules.now in
    let d = c.module-item.result in
    let name = λ (d : ModuleDesc). string_bytes d.name in
    let so_far = module_names (take l.module-index ds) in
    let lt : l.module-index < length ds = omega arith in
    ap borrowed c.in_ok-push.ensures.items ∙ map-append (λ (w : Bor (List ℕ)). w.now) l.names.items (c.as_str.result ∷ [])
    ∙ (λ i. l.invariant i ++ c.as_str.ensures.value i ∷ [])
    ∙ sym (map_more name ds l.module-index d lt ∙ ap (λ e. so_far ++ name e ∷ []) (sym c.module-item.is))
