-- What the code's modules are seen as.
use Rattle.std.specs.Prelude.{List, map}
use Rattle.std.specs.String.{string_bytes}
use Rattle.aos_types.specs.declared.row.TypeRow.{TypeRow}
use Rattle.aos_typed.specs.declared.tree.TModule.{TModule}
use Rattle.aos_typed.specs.declared.tree.TObject.{TObject}
use Rattle.aos_typed.specs.Seen.{seen_stat, seen_stats, seen_body, seen_method, seen_module, seen_object}
use Rattle.aos_symbols.specs.Home.{Home}
use Rattle.aos_compile.specs.declared.modules.World.{World as CodeWorld}
use Rattle.aos_compile.specs.declared.objects.Beside.{Beside as CodeBeside}
use Rattle.aos_compile.specs.declared.objects.Bodies.{Bodies as CodeBodies}
use Rattle.aos_compile.specs.Modules.{World, Programs, Beside, Bodies}

abbrev pub seen_programs : List TModule → List TObject → Programs
seen_programs ms os = record { modules = map seen_module ms; objects = map seen_object os }

abbrev pub seen_parts : List Home → List TypeRow → List TModule → List TObject → World
seen_parts before types ms os =
    record { before = before; types = types; modules = map seen_module ms; objects = map seen_object os }

abbrev pub seen_world : CodeWorld → World
seen_world w = seen_parts w.before w.types w.modules.items w.objects.items

abbrev pub seen_beside : CodeBeside → Beside
seen_beside x =
    record {
      name = string_bytes x.name;
      at = x.at;
      fields = map (λ s. string_bytes s) x.fields.items;
      has_body = x.has_body;
      is_active = x.is_active;
      priority = x.priority;
      body = seen_body x.is_exclusive x.body.items;
      methods = map seen_method x.methods.items;
    }

abbrev pub seen_bodies : CodeBodies → Bodies
seen_bodies b =
    record {
      objects = map seen_beside b.objects.items;
      procedures = map (λ ss. seen_stats ss.items) b.procedures.items;
      own = map seen_stat b.own.items;
    }
