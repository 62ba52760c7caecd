-- All files together. Each is read by itself, in the order of the command; then come the rules of what modules are named and
-- import, each over all files: 8, 11, 9 and 10.
use Rattle.std.specs.Prelude.{ℕ, suc, List, [], ◌∷◌, length, map, Bool, false, Option, Some, None, find, slice_get, codes}
use Rattle.std.specs.List.{range_with_len}
use Rattle.aos_base.specs.declared.text.Pos.{Pos}
use Rattle.aos_base.specs.declared.text.Refusal.{Refusal}
use Rattle.aos_tree.specs.declared.module.Module.{Module as Tree}
use Rattle.aos_order.specs.Files.{File, file}
use Rattle.aos_order.specs.Order.{Answer, Order, Twice, Absent, Cycle, answer}
use Rattle.aos_symbols.specs.declared.breach.Breach.{Breach}
use Rattle.aos_symbols.specs.Outcome.{Outcome, refused, went, then, refusal, refusal_of}
use Rattle.aos_symbols.specs.Spelling.{is_word}
use Rattle.aos_unnamed.specs.Unnamed.{all_named}

-- what a text alone comes to: its tree, or the first of the rules 2 to 7 that it breaks
pub data Reading : Type 0 where
  tree : Tree → Reading
  broken : Breach → Reading

-- a file: its text, and the tree that reads it
abbrev pub Source : Type 0
Source = List ℕ × Tree

-- the trees of files, the first of which has this number
abbrev pub trees_from : ℕ → List Reading → Outcome (List Tree)
trees_from k [] = went []
trees_from k (tree m ∷ rs) = then (trees_from (suc k) rs) (λ ms. went (m ∷ ms))
trees_from k (broken b ∷ rs) = refused (refusal_of k b)

-- where the name of a file's module stands
abbrev pub name_place : Option Source → Pos
name_place None = record { line = 0; col = 0 }
name_place (Some s) = s.1.name.pos

-- rule 11: the first file whose module is named Out
abbrev pub is_named_out : Option Source → Bool
is_named_out None = false
is_named_out (Some s) = is_word s.0 (codes "Out") s.1.name

abbrev pub named_out : List Source → Option ℕ
named_out ss = find (λ k. is_named_out (slice_get ss k)) (range_with_len 0 (length ss))

abbrev pub at_name : List Source → (rule file : ℕ) → Refusal
at_name ss rule k = refusal rule k (name_place (slice_get ss k))

-- the first file of a cycle
abbrev pub refused_cycle : List Source → List ℕ → Outcome (List ℕ)
refused_cycle ss [] = went []
refused_cycle ss (k ∷ ks) = refused (at_name ss 10 k)

-- rule 8 comes first, then 11, 9 and 10
abbrev pub decided_order : List Source → Option ℕ → Answer → Outcome (List ℕ)
decided_order ss out (Twice i k) = refused (at_name ss 8 k)
decided_order ss (Some k) (Absent j at) = refused (at_name ss 11 k)
decided_order ss (Some k) (Cycle left) = refused (at_name ss 11 k)
decided_order ss (Some k) (Order order) = refused (at_name ss 11 k)
decided_order ss None (Absent k at) = refused (refusal 9 k at)
decided_order ss None (Cycle left) = refused_cycle ss left
decided_order ss None (Order order) = went order

abbrev pub file_of : Source → File
file_of s = file s.0 s.1

abbrev pub load_order : List Source → Outcome (List ℕ)
load_order ss = decided_order ss (named_out ss) (answer (map file_of ss))

-- a file in which all object types have names
abbrev pub named : Source → Source
named s = all_named s.0 s.1
