-- What the load order reads of files: the name of each module, and the names of those that it imports (Oberon-2 report,
-- section on modules: `X := M` imports M under the name X).
use Rattle.std.specs.Prelude.{ℕ, List, Vec, map, unwrap_or}
use Rattle.std.specs.List.{zip}
use Rattle.std.specs.Borrow.{Bor}
use Rattle.std.specs.declared.alloc.Global.{Global}
use Rattle.aos_base.specs.declared.text.Pos.{Pos}
use Rattle.aos_tree.specs.declared.name.Name.{Name}
use Rattle.aos_tree.specs.declared.module.Import.{Import}
use Rattle.aos_tree.specs.declared.module.Module.{Module}
use Rattle.aos_symbols.specs.Spelling.{word}

-- the words of a table
abbrev pub words : List (Bor (List ℕ)) → List (List ℕ)
words keys = map (λ k. k.now) keys

-- an imported module's name, and where it stands
pub record Wanted : Type 0 where
  pub name : List ℕ
  pub at : Pos

-- a module's name, and the modules that it imports
pub record File : Type 0 where
  pub name : List ℕ
  pub imports : List Wanted

abbrev pub imported : Import → Name
imported i = unwrap_or i.of i.name

abbrev pub wanted : List ℕ → Import → Wanted
wanted text i = record { name = word text (imported i); at = (imported i).pos }

abbrev pub file : List ℕ → Module → File
file text m = record { name = word text m.name; imports = map (wanted text) m.imports }

-- modules with their texts, in command order
abbrev pub files : List Module → List (Vec ℕ Global) → List File
files modules texts = map (λ p. file p.1.items p.0) (zip modules texts)
