-- One string constant more.
use Rattle.std.proofs.Common.{◌<◌, ℕ, [], ◌∷◌, ◌++◌, Vec, Global, map, take, sym, ap, ◌∙◌, subst, append_assoc}
use Rattle.std.proofs.lemmas.List.{map-append}
use Rattle.aos_symbols.specs.Home.{character, string_in}
use Rattle.aos_arguments.specs.Filled.{filled}
use Rattle.aos_variables.proofs.Strings.{text_of, one_more}
use Rattle.aos_variables.proofs.texts.fill_own.Goals as goal

pub loop-number-preserved : goal.loop-number-preserved
loop-number-preserved c =
    let h = c.args.home.now in
    let k = c.loop-number.number in
    let n = c.args.length in
    let items = λ (t : Vec ℕ Global). t.items in
    let text = c.in_ok-filled_of.field-0 in
    let first = map items c.args.all.now.items in
    let done = map (text_of h) (take k h.strings) in
    let one = map character (string_in h k) in
    ap (map items) c.in_ok-push.ensures.items
    ∙ map-append items c.loop-number.all.items (text ∷ [])
    ∙ ap (λ ts. ts ++ items text ∷ []) c.loop-number.invariant
    ∙ ap (λ t. (first ++ map (filled n) done) ++ t ∷ []) (c.in_ok-filled_of.ensures ∙ ap (λ b. filled n (map character b)) c.string.ensures.bytes)
    ∙ append_assoc first (map (filled n) done) (filled n one ∷ [])
    ∙ ap (λ l. first ++ l) (sym (map-append (filled n) done (one ∷ [])))
    ∙ ap (λ l. first ++ map (filled n) l) (one_more h k (subst (λ n. k < n) c.string_count-number-end.ensures.count c.loop-number-test.true))
