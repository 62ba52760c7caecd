use Rattle.std.proofs.Common.{◌≡◌, List, ap, ◌∙◌, subst}
use Rattle.std.specs.Prelude.{Option, Some}
use Rattle.aos_base.specs.declared.kernel.Did.TheVariants.{Trapped}
use Rattle.aos_code.specs.declared.image.TypeDesc.{TypeDesc}
use Rattle.aos_code.specs.Numbered.{numbered}
use Rattle.aos_store.specs.Store.{memory_in}
use Rattle.aos_silent_steps.proofs.Oks.{ok_more}
use Rattle.aos_cpu.specs.Makes.{IsMade, IsMadeWith, AreLengths}
use Rattle.aos_cpu.proofs.Making.{made_no, made_short, made_long, made_with}
use Rattle.aos_cpu.proofs.makes.make.Goals as goal

pub returns-in-No-clause-ok : goal.returns-in-No-clause-ok
returns-in-No-clause-ok c out =
    let old = c.args.frames.now in
    let mem = memory_in c.args.store.now in
    let vs = c.arguments.result.now in
    let desc : Some c.in-Some.desc.now ≡ numbered c.args.image.now.types.items c.args.of_type = c.in-Some.ensures ∙ ap (λ (l : List TypeDesc). numbered l c.args.of_type) c.deref.ensures.value in
    let are = subst (AreLengths vs) c.in-No.is c.in_ok-lengths_in.ensures in
    subst (λ (d : Option TypeDesc). IsMade d c.args.of_type c.args.count c.args.at old old mem mem (Trapped 16 0) out) desc (made_no old mem c.args.of_type c.args.count c.args.at out c.in-Some.desc.now vs c.arguments.ensures are)

pub returns-in-Short-clause-ok : goal.returns-in-Short-clause-ok
returns-in-Short-clause-ok c out =
    let old = c.args.frames.now in
    let mem = memory_in c.args.store.now in
    let vs = c.arguments.result.now in
    let desc : Some c.in-Some.desc.now ≡ numbered c.args.image.now.types.items c.args.of_type = c.in-Some.ensures ∙ ap (λ (l : List TypeDesc). numbered l c.args.of_type) c.deref.ensures.value in
    let are = subst (AreLengths vs) c.in-Short.is c.in_ok-lengths_in.ensures in
    subst (λ (d : Option TypeDesc). IsMade d c.args.of_type c.args.count c.args.at old old mem mem (Trapped 15 0) out) desc (made_short old mem c.args.of_type c.args.count c.args.at out c.in-Some.desc.now vs c.arguments.ensures are)

pub returns-in-Long-clause-ok : goal.returns-in-Long-clause-ok
returns-in-Long-clause-ok c out =
    let old = c.args.frames.now in
    let mem = memory_in c.args.store.now in
    let vs = c.arguments.result.now in
    let desc : Some c.in-Some.desc.now ≡ numbered c.args.image.now.types.items c.args.of_type = c.in-Some.ensures ∙ ap (λ (l : List TypeDesc). numbered l c.args.of_type) c.deref.ensures.value in
    let are = subst (AreLengths vs) c.in-Long.is c.in_ok-lengths_in.ensures in
    subst (λ (d : Option TypeDesc). IsMade d c.args.of_type c.args.count c.args.at old old mem mem (Trapped 12 0) out) desc (made_long old mem c.args.of_type c.args.count c.args.at out c.in-Some.desc.now vs c.arguments.ensures are)

pub returns-in-Are-clause-ok : goal.returns-in-Are-clause-ok
returns-in-Are-clause-ok c out =
    let old = c.args.frames.now in
    let mem = memory_in c.args.store.now in
    let vs = c.arguments.result.now in
    let desc : Some c.in-Some.desc.now ≡ numbered c.args.image.now.types.items c.args.of_type = c.in-Some.ensures ∙ ap (λ (l : List TypeDesc). numbered l c.args.of_type) c.deref.ensures.value in
    let are = subst (AreLengths vs) c.in-Are.is c.in_ok-lengths_in.ensures in
    let new = c.make_with.new.frames in
    let now = memory_in c.make_with.new.store in
    ok_more c.make_with.result (λ did. IsMadeWith c.in-Are.lengths.items c.in-Some.desc.now c.args.of_type c.args.count c.args.at old new mem now did out) _
    (λ did made. subst (λ (d : Option TypeDesc). IsMade d c.args.of_type c.args.count c.args.at old new mem now did out) desc
    (made_with old mem c.args.of_type c.args.count c.args.at out c.in-Some.desc.now vs c.arguments.ensures c.in-Are.lengths.items new now did are made))
    (c.make_with.ensures.ok out)
