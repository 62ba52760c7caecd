use Rattle.std.proofs.Common.{sym, subst}
use Rattle.std.proofs.lemmas.List.{length-map}
use Rattle.aos_typed.specs.Seen.{seen_program, seen_object}
use Rattle.aos_image.specs.Made.{AreTypesOf}
use Rattle.aos_image.proofs.Described.{bases_are}
use Rattle.aos_image.proofs.whole.link.Goals as goal

pub returns-clause-code : goal.returns-clause-code
returns-clause-code c =
    let p = seen_program c.args.program.now in
    let modules = c.in_ok-modules.ensures in
    let ts = c.in_ok-types.types.items in
    let types = subst (λ n. AreTypesOf p n ts) (sym (length-map c.args.program.now.objects.items seen_object)) c.in_ok-types.ensures in
    record {
      bodies = c.requires.matching;
      conditions = c.requires.conditions;
      shapes = c.in_ok-shapes.ensures;
      starts = modules.starts;
      types = types.bodies;
      actives = types.actives;
      priorities = types.priorities;
      safes = types.safes;
      initials = types.initials;
      methods = types.methods;
      bases = bases_are p ts types c.requires.typed.parts.beside;
      kinds = types.kinds;
      counts = types.counts;
      cells = modules.cells;
      names = modules.names;
      few = c.in_ok-laid.ensures.narrow;
    }

pub returns-clause-depths : goal.returns-clause-depths
returns-clause-depths c = record { bodies = c.requires.depths; conditions = c.requires.condition_depths }

pub returns-clause-shows : goal.returns-clause-shows
returns-clause-shows c =
    c.image_shows_program.ensures (seen_program c.args.program.now) _ c.requires.typed (returns-clause-code c)

pub returns-clause-sound : goal.returns-clause-sound
returns-clause-sound c =
    c.law_of_images.ensures (seen_program c.args.program.now) _ c.requires.typed (returns-clause-code c) (returns-clause-depths c)

pub returns-clause-names : goal.returns-clause-names
returns-clause-names c = c.in_ok-modules.ensures.names
