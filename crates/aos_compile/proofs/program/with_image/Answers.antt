-- The program of texts is well typed, and no more stands beside its types.
use Rattle.std.proofs.Common.{arith}
use Rattle.std.proofs.lemmas.List.{length-map}
use Rattle.aos_typed.specs.Seen.{seen_object, seen_program}
use Rattle.aos_reading.specs.Sources.{bytes_of}
use Rattle.aos_compile.proofs.program.with_image.Goals as goal

pub image_of-requires-clause-few_types : goal.image_of-requires-clause-few_types
image_of-requires-clause-few_types c =
    let texts = c.args.texts.now in
    let size = length-map texts (λ t. t.items) in
    let typed = c.law_of_typing.ensures (bytes_of texts) (seen_program c.args.program) c.requires.program (omega (arith, size)) (omega (arith, size)) in
    let beside = typed.parts.beside in
    let objects = length-map c.args.program.objects.items seen_object in
    omega (arith, beside, objects)

pub image_of-requires-clause-typed : goal.image_of-requires-clause-typed
image_of-requires-clause-typed c =
    let texts = c.args.texts.now in
    let size = length-map texts (λ t. t.items) in
    c.law_of_typing.ensures (bytes_of texts) (seen_program c.args.program) c.requires.program (omega (arith, size)) (omega (arith, size))

pub returns-clause-typed : goal.returns-clause-typed
returns-clause-typed c =
    let texts = c.args.texts.now in
    let size = length-map texts (λ t. t.items) in
    c.law_of_typing.ensures (bytes_of texts) (seen_program c.args.program) c.requires.program (omega (arith, size)) (omega (arith, size))

pub returns-clause-few_types : goal.returns-clause-few_types
returns-clause-few_types c =
    let texts = c.args.texts.now in
    let size = length-map texts (λ t. t.items) in
    let typed = c.law_of_typing.ensures (bytes_of texts) (seen_program c.args.program) c.requires.program (omega (arith, size)) (omega (arith, size)) in
    let beside = typed.parts.beside in
    let objects = length-map c.args.program.objects.items seen_object in
    omega (arith, beside, objects)
