use Rattle.std.proofs.Common.{refl}
use Rattle.aos_members.proofs.Chains.{next_so_far}
use Rattle.aos_members.proofs.objects.go_on.Goals as goal

pub returns-in_ok-add_methods-clause-so_far : goal.returns-in_ok-add_methods-clause-so_far
returns-in_ok-add_methods-clause-so_far c =
    next_so_far c.args.env.now c.args.so_far.now _ c.args.of c.requires (c.if-is_behind.ensures.base refl) (c.if-is_behind.ensures.ends refl) refl refl
    c.in_ok-add_methods.ensures
