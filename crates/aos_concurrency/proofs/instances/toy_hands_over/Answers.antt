use Rattle.std.proofs.Common.{refl}
use Rattle.aos_base.specs.Book.{Ready, stands, ready, next_is, owned_by, counted, born}
use Rattle.aos_base.specs.Machine.{go_past, release, turned, happens}
use Rattle.aos_concurrency.proofs.ToyHands.{toy_hands_over}
use Rattle.aos_concurrency.proofs.instances.toy_hands_over.Goals as goal

pub returns-clause-handed : goal.returns-clause-handed
returns-clause-handed c p budget before others entry a l d h = toy_hands_over p budget h before others entry a l d

pub returns-clause-given : goal.returns-clause-given
unfolding stands ready next_is owned_by counted born go_past release turned happens
returns-clause-given c = record { waited = refl; place = Ready 2; stands = refl; awake = refl; runs = refl }
