-- The second pass over a module: what its names stand for, its declarations, and what is judged of its types together.
use Rattle.std.specs.Prelude.{ℕ, ◌+◌, List, [], ◌∷◌, ◌++◌, length, map, Option, Some, None, false}
use Rattle.std.specs.List.{range_with_len}
use Rattle.aos_tree.specs.declared.module.Module.{Module}
use Rattle.aos_types.specs.declared.row.TypeId.{TypeId}
use Rattle.aos_types.specs.declared.row.TypeRow.{TypeRow}
use Rattle.aos_symbols.specs.declared.env.Env.{Env}
use Rattle.aos_symbols.specs.Judged.{Judged, kept, bind}
use Rattle.aos_symbols.specs.Declarations.{all_type_defs}
use Rattle.aos_symbols.specs.Home.{Home}
use Rattle.aos_entries.specs.Entries.{home_of}
use Rattle.aos_symbols.specs.Env as env
use Rattle.aos_check_types.specs.declared.aliases.Target.{Target}
use Rattle.aos_check_types.specs.Aliases.{targets, numbers, first_rows}
use Rattle.aos_check_decl.specs.Headings.{headings}
use Rattle.aos_check_types.specs.Limits.{limits}

-- each definition of a type with its own number, of which the first is this
abbrev pub own_numbers : (first count : ℕ) → List (Option TypeId)
own_numbers first count = map (λ k. Some (record { 0 = first + k })) (range_with_len 0 count)

-- a module's environment, in which the definitions of types stand for these numbers
abbrev pub entered : ℕ → List Home → List TypeRow → List ℕ → Module → List (Option TypeId) → Env
entered number before types text m numbers =
    record {
      number = number;
      before = before;
      here = home_of text before numbers m;
      path = env.own number ∷ [];
      types = types;
      places = [];
      claims = [];
      narrowed = [];
      self_type = None;
      is_exclusive = false;
      is_condition = false;
    }

-- with the numbers that its definitions of types stand for, and the rows of these types
abbrev pub numbered : List ℕ → Module → List Target → Env → Env
numbered text m ts e = record e { here = home_of text e.before (numbers (length e.types) ts) m; types = e.types ++ first_rows (length e.types) ts }

-- a module's environment, in which each of its definitions of types has a number of its own
abbrev pub first_env : ℕ → List Home → List TypeRow → List ℕ → Module → Env
first_env number before types text m =
    entered number before types text m (own_numbers (length types) (length (all_type_defs m.decls)))

-- the names that stand for other types are told before any declaration is met, and all types have their numbers
abbrev pub started : List ℕ → Module → Env → Judged Env
started text m e = bind (targets e m.decls) (λ ts. kept (numbered text m ts e))

abbrev pub begun : ℕ → List Home → List TypeRow → List ℕ → Module → Judged Env
begun number before types text m = started text m (first_env number before types text m)

-- then the declarations, and what is judged of all types together
abbrev pub filled : List ℕ → Module → Env → Judged Env
filled text m e = bind (started text m e) (λ f. bind (headings f m.decls) (λ f. limits f (length e.types) m.decls))

-- a module with this number, behind these modules, whose types these are
abbrev pub declare : ℕ → List Home → List TypeRow → List ℕ → Module → Judged Env
declare number before types text m = filled text m (first_env number before types text m)
