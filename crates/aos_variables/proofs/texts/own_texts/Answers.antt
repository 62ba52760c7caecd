-- One string constant more.
use Rattle.std.proofs.Common.{◌<◌, ℕ, [], ◌∷◌, ◌++◌, Vec, Global, map, take, ap, ◌∙◌, subst}
use Rattle.std.proofs.lemmas.List.{map-append}
use Rattle.aos_symbols.specs.Home.{character}
use Rattle.aos_variables.proofs.Strings.{text_of, one_more}
use Rattle.aos_variables.proofs.texts.own_texts.Goals as goal

pub loop-number-preserved : goal.loop-number-preserved
loop-number-preserved c =
    let h = c.args.home.now in
    let k = c.loop-number.number in
    let items = λ (t : Vec ℕ Global). t.items in
    let text = c.in_ok-characters_of.field-0 in
    let done = map (text_of h) (take k h.strings) in
    ap (map items) c.in_ok-push.ensures.items
    ∙ map-append items c.loop-number.all.items (text ∷ [])
    ∙ ap (λ ts. ts ++ items text ∷ []) c.loop-number.invariant
    ∙ ap (λ t. done ++ t ∷ []) (c.in_ok-characters_of.ensures ∙ ap (map character) c.string.ensures.bytes)
    ∙ one_more h k (subst (λ n. k < n) c.string_count-number-end.ensures.count c.loop-number-test.true)
