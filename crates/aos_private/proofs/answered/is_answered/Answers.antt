use Rattle.std.proofs.Common.{rules, ◌≡◌, ℕ, List, [], ◌∷◌, length, take, reverse, ap, sym, ◌∙◌, w64}
use Rattle.std.specs.Prelude.{Bool, not, ◌&&◌, Option, is_some}
use Rattle.std.specs.Option.{option_map}
use mir.Val.{to_z, of_z}
use Rattle.aos_base.specs.Rooted.{at_root, load}
use Rattle.aos_code.specs.declared.instr.Cell.TheVariants.{Num}
use Rattle.aos_code.specs.declared.image.Image.{Image}
use Rattle.aos_code.specs.declared.image.ProcShape.{ProcShape}
use Rattle.aos_code.specs.Numbered.{numbered}
use Rattle.aos_code.specs.Memory.{Memory}
use Rattle.aos_code.specs.Silent.{Keeps, Stack}
use Rattle.aos_code.specs.Machine.{asker, Frame, rooted, calls, works, finds, text_at, length_in}
use Rattle.aos_store.specs.Store.{memory_in, has_all}
use Rattle.aos_silent_steps.specs.declared.act.Question.{Question}
use Rattle.aos_silent_steps.specs.Acts.{question_in, addr_in, passed}
use Rattle.aos_cpu.specs.Answers.{ordered}
use Rattle.aos_cpu.specs.Private.{has_gone}
use Rattle.aos_private.specs.Answered.{holds, takes_text}
use Rattle.aos_private.proofs.Gone.{read_gone, write_gone, copies_gone, compare_gone, text_gone, end_gone}
use Rattle.aos_private.proofs.answered.is_answered.Goals as goal

-- whether the answer comes that the topmost frame asks for, where what it needs is found
abbrev comes : Image → List ℕ → ℕ → Keeps → Stack → Frame → List Frame → Memory → Question → Bool
comes image following at k s f fs mem q =
    has_gone (works following image.shapes.items image.types.items (finds image.types.items (question_in q f.stack) f mem) (question_in q f.stack) (asker at k s f fs mem)).left

pub returns-in-Reads : goal.returns-in-Reads
returns-in-Reads c f fs is own following at k s =
    let mem = memory_in c.args.store.now in
    let address = c.in-Reads.address in
    c.holds.ensures ∙ ap (holds c.in-Reads.kind) (c.load_at.ensures ∙ ap (λ l. load address.root address.cell (rooted l mem)) is) ∙ read_gone following at k s f fs mem c.in-Reads.kind _
    ∙ ap (comes c.args.image.now following at k s f fs mem) (sym c.in-Reads.is)

pub returns-in-Stores : goal.returns-in-Stores
returns-in-Stores c f fs is own following at k s =
    let mem = memory_in c.args.store.now in
    let address = c.in-Stores.address in
    c.is_some.ensures ∙ ap is_some (c.load_at-in-Stores.ensures ∙ ap (λ l. load address.root address.cell (rooted l mem)) is) ∙ write_gone following at k s f fs mem _ _ _
    ∙ ap (comes c.args.image.now following at k s f fs mem) (sym c.in-Stores.is)

pub returns-in-Copies : goal.returns-in-Copies
returns-in-Copies c f fs is own following at k s =
    let mem = memory_in c.args.store.now in
    let n = c.in-Copies.count in
    let from = c.in-Copies.from in
    let to = c.in-Copies.to in
    c.has_both.ensures ∙ ap (λ l. has_all n from.cell (at_root from.root (rooted l mem)) && has_all n to.cell (at_root to.root (rooted l mem))) is
    ∙ copies_gone following at k s f fs mem n (addr_in from) (addr_in to) (rooted (f ∷ fs) mem)
    ∙ ap (comes c.args.image.now following at k s f fs mem) (sym c.in-Copies.is)

pub returns-in-PutsText : goal.returns-in-PutsText
returns-in-PutsText c f fs is own following at k s =
    let mem = memory_in c.args.store.now in
    let from = addr_in c.in-PutsText.from in
    let to = addr_in c.in-PutsText.to in
    let first : to_z w64 (of_z w64 c.in-PutsText.len) ≡ c.in-PutsText.len = search rules in
    let second : to_z w64 (of_z w64 c.in-PutsText.room) ≡ c.in-PutsText.room = search rules in
    let text = c.text_len_at-text.ensures ∙ (λ i. option_map length (text_at [] from (Num (first i)) (rooted (is i) mem))) in
    let room = c.length_of.ensures ∙ (λ i. length_in [] (Num (second i))) in
    c.takes_text.ensures ∙ (λ i. takes_text c.in-PutsText.strict (text i) (room i) to (rooted (is i) mem))
    ∙ text_gone following at k s f fs mem c.in-PutsText.strict (text_at [] from (Num c.in-PutsText.len) (rooted (f ∷ fs) mem)) (length_in [] (Num c.in-PutsText.room)) to (rooted (f ∷ fs) mem)
    ∙ ap (comes c.args.image.now following at k s f fs mem) (sym c.in-PutsText.is)

pub returns-in-ComparesTexts : goal.returns-in-ComparesTexts
returns-in-ComparesTexts c f fs is own following at k s =
    let mem = memory_in c.args.store.now in
    let left = addr_in c.in-ComparesTexts.left in
    let right = addr_in c.in-ComparesTexts.right in
    let first : to_z w64 (of_z w64 c.in-ComparesTexts.len) ≡ c.in-ComparesTexts.len = search rules in
    let second : to_z w64 (of_z w64 c.in-ComparesTexts.other) ≡ c.in-ComparesTexts.other = search rules in
    c.is_some-in-ComparesTexts.ensures ∙ ap is_some (c.compare_at.ensures ∙ (λ i. ordered (text_at [] left (Num (first i)) (rooted (is i) mem)) (text_at [] right (Num (second i)) (rooted (is i) mem))))
    ∙ compare_gone following at k s f fs mem _ _ _
    ∙ ap (comes c.args.image.now following at k s f fs mem) (sym c.in-ComparesTexts.is)

pub returns-in-Calls : goal.returns-in-Calls
returns-in-Calls c f fs is own following at k s =
    let mem = memory_in c.args.store.now in
    let p = c.in-Calls.procedure in
    c.calls.ensures f fs is following p at k s
    ∙ ap (λ (shape : Option ProcShape). has_gone (calls following shape p (passed c.in-Calls.way (reverse (take c.in-Calls.count f.stack))) (asker at k s f fs mem)).left) (c.numbered.ensures ∙ ap (λ (l : List ProcShape). numbered l p) c.deref.ensures.value)
    ∙ ap (comes c.args.image.now following at k s f fs mem) (sym c.in-Calls.is)

pub returns-in-Ends : goal.returns-in-Ends
returns-in-Ends c f fs is own following at k s =
    ap not (c.is_top_open.ensures f fs is) ∙ end_gone following at k s f fs (memory_in c.args.store.now) c.args.image.now.shapes.items c.args.image.now.types.items c.in-Ends.field-0 (not f.is_open)
    ∙ ap (comes c.args.image.now following at k s f fs (memory_in c.args.store.now)) (sym c.in-Ends.is)
