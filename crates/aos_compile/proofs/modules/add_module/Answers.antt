-- One module more, and what stands beside its types.
use Rattle.std.proofs.Common.{◌≡◌, [], ◌∷◌, ◌++◌, map, ap, ap₂, ◌∙◌}
use Rattle.std.proofs.lemmas.List.{map-append}
use Rattle.aos_typed.specs.Seen.{seen_module}
use Rattle.aos_compile.specs.Modules as judge
use Rattle.aos_compile.specs.Seen.{seen_bodies}
use Rattle.aos_compile.proofs.modules.add_module.Goals as goal

pub returns : goal.returns
returns c =
    let was = c.args.modules.now.items in
    let made = judge.module_of c.args.env.now c.args.tree.now (seen_bodies c.args.bodies) in
    let told : map seen_module c.push.new.self.items ≡ map seen_module was ++ made ∷ [] =
    ap (map seen_module) c.in_ok-push.ensures.items ∙ map-append seen_module was (c.in_ok-one.one ∷ []) ∙ ap (λ x. map seen_module was ++ x ∷ []) c.in_ok-one.ensures in
    ap₂ (λ ms os. record { modules = ms; objects = os }) told c.in_ok-join_objects.ensures
