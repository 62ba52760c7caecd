-- The declarations of a procedure are met behind its parameters, in its scope.
use Rattle.std.proofs.Common.{ap, ◌∙◌}
use Rattle.aos_symbols.specs.Env.{back_at}
use Rattle.aos_symbols.specs.Home.{Home}
use Rattle.aos_check_decl.specs.Headings.{with_parameters, with_signature, heading_met, locals_in}
use Rattle.aos_check_types.specs.Told.{Told}
use Rattle.aos_check_decl.proofs.Parameters.{locals_bound}
use Rattle.aos_check_decl.proofs.procedures.locals_in.Goals as goal

whole : (c : goal.After-drop-env) →
    Told (locals_in c.args.scope (heading_met c.args.env.now c.args.signature) c.args.decls.now) c.args.found.now c.declare_all.new.found
    (back_at c.args.env.now.path c.declare_all.new.env)
whole c =
    let s = c.args.signature in
    let within_is = c.in_ok-outer.ensures.ok in
    let parameters_are = c.in_ok-declare_parameters.ensures ∙ ap (λ ps. with_parameters c.enter.new.self ps) c.as_slice.ensures ∙ ap (λ e. with_parameters e s.parameters) within_is in
    let begins =
    ap (λ (h : Home). record c.declare_parameters.new.env { here = h }) c.in_ok-add_signature.ensures.ok ∙ ap (λ e. with_signature e s) parameters_are in
    locals_bound c.args.scope c.args.env.now s c.args.decls.now begins c.in_ok-declare_all.ensures.noted c.in_ok-declare_all.ensures.is

pub returns : goal.returns
returns c = record {
  noted = (whole c).noted;
  is = ap (λ path. back_at path c.declare_all.new.env) c.in_ok-outer.ensures.path ∙ (whole c).is;
}
