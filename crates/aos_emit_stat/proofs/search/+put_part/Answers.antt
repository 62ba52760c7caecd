use Rattle.std.proofs.Common.{◌≡◌, ℕ, ◌+◌, ◌-◌, ◌/◌, List, ◌++◌, length, take, drop, refl, sym, ap, ◌∙◌, arith, take_all}
use Rattle.std.specs.Prelude.{slice_set}
use Rattle.std.proofs.lemmas.Result.{on_ok_weaker}
use Rattle.std.proofs.lemmas.List.{length-drop}
use Rattle.aos_base.specs.declared.number.Relation.TheVariants.{Less}
use Rattle.aos_base.specs.declared.operator.Binary.TheVariants.{Cmp}
use Rattle.aos_code.specs.declared.instr.Instr.{Instr}
use Rattle.aos_code.specs.declared.instr.Instr.TheVariants as i
use Rattle.aos_code.specs.declared.instr.Kind.TheVariants.{N}
use Rattle.aos_sim.specs.Search.{Search, halved, search_size, search_code}
use Rattle.aos_sim.proofs.Sizes.{search_length}
use Rattle.aos_emit_stat.proofs.Searches.{more_halved, halves}
use Rattle.aos_emit_stat.proofs.search.+put_part.Goals as goal

pub put_halves-returns : goal.put_halves-returns
put_halves-returns t c =
    let base = c.args.code.now.items in
    let rows = c.args.rows.now in
    let d = c.args.level in
    let deep = c.args.deep in
    let half = length rows / 2 in
    let at = length base + 4 in
    let code : Search → ℕ → List Instr = λ s n. search_code (λ m. m) c.args.other s d n in
    let below = halved deep (take half rows) in
    let above = halved deep (drop half rows) in
    let here : c.len-middle.result ≡ length base = c.len-middle.ensures ∙ c.args.code.now.ok.0 in
    let tree = more_halved deep half rows _ c.requires refl in
    let rest : take (length rows - half) (drop half rows) ≡ drop half rows = take_all (length rows - half) (drop half rows) (omega (arith, length-drop half rows)) in
    let halfway = slice_set c.put_part.new.code.items (c.len-middle.result + 3) (i.JumpFalse c.in_ok-end.end) in
    on_ok_weaker c.put_part-2.result
    (λ e. halves base c.put_bound.new.code.items c.put_part.new.code.items c.put_part-2.new.code.items (i.Kept d N) (i.Num _) (i.Binary (Cmp Less)) (code below) (code above) (c.len-middle.result + 3) c.in_ok-end.end (search_size below) c.in_ok-put_bound.ensures c.in_ok-put_part.ensures (ap (λ n. n + 3) here) (c.in_ok-end.ensures.is ∙ ap length c.deref.ensures.value) (search_length (λ m. m) c.args.other below d at)
    (e ∙ ap (λ l. halfway ++ code (halved deep l) (length halfway)) rest)
    ∙ ap (λ s. base ++ code s (length base)) (sym tree))
    c.put_part-2.ensures
