-- Names of types: a plain name, or a name behind that of a module.
use Rattle.std.specs.Prelude.{ℕ, List, Option, Some, None, is_some, unwrap_or, if◌then◌else◌}
use Rattle.aos_base.specs.declared.text.Pos.{Pos}
use Rattle.aos_tree.specs.declared.name.Name.{Name}
use Rattle.aos_tree.specs.declared.name.Qualident.{Qualident}
use Rattle.aos_types.specs.declared.row.TypeId.{TypeId}
use Rattle.aos_symbols.specs.declared.scope.Meaning.{Meaning}
use Rattle.aos_symbols.specs.declared.scope.Meaning.TheVariants as means
use Rattle.aos_symbols.specs.declared.env.Lookup.{Lookup}
use Rattle.aos_symbols.specs.declared.env.Lookup.TheVariants.{Unknown, NotExported, Found}
use Rattle.aos_symbols.specs.declared.env.Env.{Env}
use Rattle.aos_symbols.specs.Breaches.{breach, breach_unless}
use Rattle.aos_symbols.specs.Judged.{Judged, judged, kept, bind}
use Rattle.aos_symbols.specs.Spelling.{word, is_among, procedures_of_out}
use Rattle.aos_symbols.specs.Env as env

abbrev pub no_type : ℕ → Pos → Judged (Option TypeId)
no_type rule at = judged (breach rule at) None

abbrev pub type_meant : Meaning → Pos → Judged (Option TypeId)
type_meant (means.Type of) at = kept of
type_meant m at = no_type 16 at

abbrev pub type_found : Lookup → Pos → Judged (Option TypeId)
type_found Unknown at = no_type 14 at
type_found NotExported at = no_type 15 at
type_found (Found x) at = type_meant x.means at

-- Out has no types
abbrev pub type_of_out : List ℕ → Name → Judged (Option TypeId)
type_of_out text n = no_type (if is_among procedures_of_out (word text n) then 16 else 14) n.pos

abbrev pub type_in_module : Env → Meaning → Pos → Name → Judged (Option TypeId)
type_in_module e (means.Module m) at n = type_found (env.member e m n) n.pos
type_in_module e means.Out at n = type_of_out e.here.text n
type_in_module e m at n = no_type 16 at

abbrev pub qualified_type : Env → Lookup → Pos → Name → Judged (Option TypeId)
qualified_type e Unknown at n = no_type 14 at
qualified_type e NotExported at n = no_type 15 at
qualified_type e (Found x) at n = type_in_module e x.means at n

abbrev pub named_type : Env → Qualident → Judged (Option TypeId)
named_type e q = named q.second
  where
    named : Option Name → Judged (Option TypeId)
    named None = type_found (env.lookup e q.first) q.first.pos
    named (Some n) = qualified_type e (env.lookup e q.first) q.first.pos n

-- the type that is meant by a name: one that isn't known isn't built, where its name breaks no other rule
abbrev pub last_name : Qualident → Name
last_name q = unwrap_or q.second q.first

abbrev pub known_type : Env → Qualident → Judged (Option TypeId)
known_type e q = bind (named_type e q) (λ of. judged (breach_unless (is_some of) 99 (last_name q).pos) of)
