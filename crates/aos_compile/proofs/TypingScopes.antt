-- A module's own scope: each variable that it names has the number of one.
use Rattle.std.proofs.Common.{◌≡◌, ℕ, zero, suc, ◌+◌, ◌<◌, ◌≤◌, List, [], ◌∷◌, ◌++◌, length, map, Bool, true, false, Option, Some, slice_get, ap, ◌∙◌, length-append, arith, codes, bytes_eq, unwrap_or, if◌then◌else◌}
use Rattle.std.proofs.lemmas.List.{length-map}
use Rattle.std.proofs.lemmas.Option.{none-some, same_Some}
use Rattle.aos_tree.specs.declared.decl.Def.{Def}
use Rattle.aos_tree.specs.declared.decl.TypeDef.{TypeDef}
use Rattle.aos_tree.specs.declared.module.Import.{Import}
use Rattle.aos_tree.specs.declared.module.Module.{Module as Tree}
use Rattle.aos_types.specs.declared.row.TypeId.{TypeId}
use Rattle.aos_symbols.specs.declared.scope.Entry.{Entry}
use Rattle.aos_symbols.specs.declared.scope.Meaning.{Meaning}
use Rattle.aos_symbols.specs.declared.scope.Meaning.TheVariants as means
use Rattle.aos_entries.specs.declared.entries.Sort.TheVariants as sort
use Rattle.aos_symbols.specs.Spelling.{word}
use Rattle.aos_symbols.specs.Declarations.{constant_defs, type_defs, inner_types, single_variables, procedure_defs, Procedure, all_procedures, inner_decls, formal_names}
use Rattle.aos_symbols.specs.Scope.{Named, find}
use Rattle.aos_symbols.specs.Home.{Home}
use Rattle.aos_entries.specs.Entries.{among, module_named, numbered, types_from, inner_scope, import_entry, other_entries, own_scope, unmarked, procedure_scope, procedure_scopes, scopes}
use Rattle.aos_symbols.proofs.Each.{Each, joined}
use Rattle.aos_symbols.proofs.Found.{found_is}
use Rattle.aos_check_decl.proofs.TypingEntries.{behind_types}

-- what a module is named is no variable

abbrev IsNoVariable : Meaning → Type 0
IsNoVariable m = (k : ℕ) → m ≡ means.Variable k → ⊥

module_no : (n : ℕ) → IsNoVariable (means.Module n)
module_no n k e = cc

out_no : IsNoVariable means.Out
out_no k e = cc

other_no : IsNoVariable means.Other
other_no k e = cc

either : (b : Bool) (m n : Meaning) → IsNoVariable m → IsNoVariable n → IsNoVariable (if b then m else n)
either true m n a c = a
either false m n a c = c

among_no : (w : List ℕ) (k : ℕ) (hs : List Home) → IsNoVariable (among w k hs)
among_no w k [] = other_no
among_no w k (h ∷ hs) = either (bytes_eq w h.name) (means.Module k) (among w (suc k) hs) (module_no k) (among_no w (suc k) hs)

named_no : (hs : List Home) (w : List ℕ) → IsNoVariable (module_named hs w)
named_no hs w = either (bytes_eq (codes "Out") w) means.Out (among w 0 hs) out_no (among_no w 0 hs)

constant_no : (n k : ℕ) → means.Constant n ≡ means.Variable k → ⊥
constant_no n k e = cc

procedure_no : (n k : ℕ) → means.Procedure n ≡ means.Variable k → ⊥
procedure_no n k e = cc

type_no : (of : Option TypeId) (k : ℕ) → means.Type of ≡ means.Variable k → ⊥
type_no of k e = cc

same_variable : (n k : ℕ) → means.Variable n ≡ means.Variable k → n ≡ k
same_variable n k e = cc

-- nor is it a procedure

abbrev IsNoProcedure : Meaning → Type 0
IsNoProcedure m = (k : ℕ) → m ≡ means.Procedure k → ⊥

module_uncalled : (n : ℕ) → IsNoProcedure (means.Module n)
module_uncalled n k e = cc

out_uncalled : IsNoProcedure means.Out
out_uncalled k e = cc

other_uncalled : IsNoProcedure means.Other
other_uncalled k e = cc

either_uncalled : (b : Bool) (m n : Meaning) → IsNoProcedure m → IsNoProcedure n → IsNoProcedure (if b then m else n)
either_uncalled true m n a c = a
either_uncalled false m n a c = c

among_uncalled : (w : List ℕ) (k : ℕ) (hs : List Home) → IsNoProcedure (among w k hs)
among_uncalled w k [] = other_uncalled
among_uncalled w k (h ∷ hs) = either_uncalled (bytes_eq w h.name) (means.Module k) (among w (suc k) hs) (module_uncalled k) (among_uncalled w (suc k) hs)

named_uncalled : (hs : List Home) (w : List ℕ) → IsNoProcedure (module_named hs w)
named_uncalled hs w = either_uncalled (bytes_eq (codes "Out") w) means.Out (among w 0 hs) out_uncalled (among_uncalled w 0 hs)

constant_uncalled : (n k : ℕ) → means.Constant n ≡ means.Procedure k → ⊥
constant_uncalled n k e = cc

variable_uncalled : (n k : ℕ) → means.Variable n ≡ means.Procedure k → ⊥
variable_uncalled n k e = cc

type_uncalled : (of : Option TypeId) (k : ℕ) → means.Type of ≡ means.Procedure k → ⊥
type_uncalled of k e = cc

same_procedure : (n k : ℕ) → means.Procedure n ≡ means.Procedure k → n ≡ k
same_procedure n k e = cc

module _ (text : List ℕ) (to : ℕ) where
  -- the numbers of procedures are below how many there are
  abbrev IsCalled : Named → Type 0
  IsCalled n = (k : ℕ) → n.1.means ≡ means.Procedure k → k < to

  imports_called : (hs : List Home) (is : List Import) → Each IsCalled (map (import_entry text hs) is)
  imports_called hs [] = tt
  imports_called hs (i ∷ is) = (λ k e. absurd (named_uncalled hs (word text (unwrap_or i.of i.name)) k e), imports_called hs is)

  types_called : (numbers : List (Option TypeId)) (k : ℕ) (ds : List TypeDef) → Each IsCalled (types_from text numbers k ds)
  types_called numbers k [] = tt
  types_called numbers k (d ∷ ds) = (λ n e. absurd (type_uncalled _ n e), types_called numbers (suc k) ds)

  constants_called : (k : ℕ) (ds : List Def) → Each IsCalled (numbered text sort.Constant k ds)
  constants_called k [] = tt
  constants_called k (d ∷ ds) = (λ n e. absurd (constant_uncalled k n e), constants_called (suc k) ds)

  variables_called : (k : ℕ) (ds : List Def) → Each IsCalled (numbered text sort.Variable k ds)
  variables_called k [] = tt
  variables_called k (d ∷ ds) = (λ n e. absurd (variable_uncalled k n e), variables_called (suc k) ds)

  procedures_called : (k : ℕ) (ds : List Def) → k + length ds ≤ to → Each IsCalled (numbered text sort.Procedure k ds)
  procedures_called k [] h = tt
  procedures_called k (d ∷ ds) h = (λ n e. below n (same_procedure k n e), procedures_called (suc k) ds (omega arith))
    where
      below : (n : ℕ) → k ≡ n → n < to
      below n is = omega arith

pub procedures_are : (text : List ℕ) (hs : List Home) (numbers : List (Option TypeId)) (m : Tree) (w : List ℕ) (x : Entry) (k : ℕ) →
    find (own_scope text hs numbers m) w ≡ Some x → x.means ≡ means.Procedure k → k < length (procedure_defs m.decls)
procedures_are text hs numbers m w x k found means =
    let ds = procedure_defs m.decls in
    let to = length ds in
    let is = map (import_entry text hs) m.imports in
    let ts = types_from text numbers 0 (type_defs m.decls) in
    let cs = numbered text sort.Constant 0 (constant_defs m.decls) in
    let ns = numbered text sort.Variable 0 (single_variables m.decls) in
    let ps = numbered text sort.Procedure 0 ds in
    let P = IsCalled text to in
    found_is P (is ++ ts ++ other_entries text m.decls) w x
    (joined P (is ++ ts) (other_entries text m.decls)
    (joined P is ts (imports_called text to hs m.imports) (types_called text to numbers 0 (type_defs m.decls)))
    (joined P (cs ++ ns) ps (joined P cs ns (constants_called text to 0 (constant_defs m.decls)) (variables_called text to 0 (single_variables m.decls))) (procedures_called text to 0 ds (omega arith))))
    found k means

module _ (text : List ℕ) (to : ℕ) where
  -- the numbers of variables are below how many there are
  abbrev IsBelow : Named → Type 0
  IsBelow n = (k : ℕ) → n.1.means ≡ means.Variable k → k < to

  imports_below : (hs : List Home) (is : List Import) → Each IsBelow (map (import_entry text hs) is)
  imports_below hs [] = tt
  imports_below hs (i ∷ is) = (λ k e. absurd (named_no hs (word text (unwrap_or i.of i.name)) k e), imports_below hs is)

  types_below : (numbers : List (Option TypeId)) (k : ℕ) (ds : List TypeDef) → Each IsBelow (types_from text numbers k ds)
  types_below numbers k [] = tt
  types_below numbers k (d ∷ ds) = (λ n e. absurd (type_no _ n e), types_below numbers (suc k) ds)

  constants_below : (k : ℕ) (ds : List Def) → Each IsBelow (numbered text sort.Constant k ds)
  constants_below k [] = tt
  constants_below k (d ∷ ds) = (λ n e. absurd (constant_no k n e), constants_below (suc k) ds)

  procedures_below : (k : ℕ) (ds : List Def) → Each IsBelow (numbered text sort.Procedure k ds)
  procedures_below k [] = tt
  procedures_below k (d ∷ ds) = (λ n e. absurd (procedure_no k n e), procedures_below (suc k) ds)

  variables_below : (k : ℕ) (ds : List Def) → k + length ds ≤ to → Each IsBelow (numbered text sort.Variable k ds)
  variables_below k [] h = tt
  variables_below k (d ∷ ds) h = (λ n e. below n (same_variable k n e), variables_below (suc k) ds (omega arith))
    where
      below : (n : ℕ) → k ≡ n → n < to
      below n is = omega arith

-- the scope of a procedure, and its variables
procedure_from : (text : List ℕ) (numbers : List (Option TypeId)) (k : ℕ) (ps : List Procedure) (j : ℕ) (p : Procedure) → slice_get ps j ≡ Some p →
    (n : ℕ) × (slice_get (procedure_scopes text numbers k ps) j ≡ Some (procedure_scope text numbers n p.formals p.decls))
procedure_from text numbers k [] j p is = absurd (none-some p is)
procedure_from text numbers k (q ∷ qs) zero p is = (k, ap (λ (r : Procedure). Some (procedure_scope text numbers k r.formals r.decls)) (same_Some q p is))
procedure_from text numbers k (q ∷ qs) (suc j) p is = procedure_from text numbers (k + length (type_defs q.decls)) qs j p is

pub procedure_at : (text : List ℕ) (hs : List Home) (numbers : List (Option TypeId)) (m : Tree) (j : ℕ) (p : Procedure) → slice_get (all_procedures m.decls) j ≡ Some p →
    (n : ℕ) × (slice_get (scopes text hs numbers m) (suc (length (type_defs m.decls)) + j) ≡ Some (procedure_scope text numbers n p.formals p.decls))
procedure_at text hs numbers m j p is =
    let one = procedure_from text numbers (length (type_defs m.decls) + length (inner_types (type_defs m.decls))) (all_procedures m.decls) j p is in
    (one.0, behind_types text hs numbers m j ∙ one.1)

pub locals_are : (text : List ℕ) (numbers : List (Option TypeId)) (n : ℕ) (p : Procedure) (w : List ℕ) (x : Entry) (k : ℕ) →
    find (procedure_scope text numbers n p.formals p.decls) w ≡ Some x → x.means ≡ means.Variable k → k < length (formal_names p.formals) + length (single_variables p.decls)
locals_are text numbers n p w x k found means =
    let vs = map unmarked (formal_names p.formals) ++ single_variables p.decls in
    let to = length (formal_names p.formals) + length (single_variables p.decls) in
    let many : length vs ≡ to = length-append (map unmarked (formal_names p.formals)) (single_variables p.decls) ∙ ap (λ i. i + length (single_variables p.decls)) (length-map (formal_names p.formals) unmarked) in
    let ts = types_from text numbers n (type_defs p.decls) in
    let cs = numbered text sort.Constant 0 (constant_defs p.decls) in
    let ns = numbered text sort.Variable 0 vs in
    let P = IsBelow text to in
    found_is P (ts ++ cs ++ ns) w x
    (joined P (ts ++ cs) ns
    (joined P ts cs (types_below text to numbers n (type_defs p.decls)) (constants_below text to 0 (constant_defs p.decls)))
    (variables_below text to 0 vs (omega (arith, many))))
    found k means

pub variables_are : (text : List ℕ) (hs : List Home) (numbers : List (Option TypeId)) (m : Tree) (w : List ℕ) (x : Entry) (k : ℕ) →
    find (own_scope text hs numbers m) w ≡ Some x → x.means ≡ means.Variable k → k < length (single_variables m.decls)
variables_are text hs numbers m w x k found means =
    let vs = single_variables m.decls in
    let to = length vs in
    let is = map (import_entry text hs) m.imports in
    let ts = types_from text numbers 0 (type_defs m.decls) in
    let cs = numbered text sort.Constant 0 (constant_defs m.decls) in
    let ns = numbered text sort.Variable 0 vs in
    let ps = numbered text sort.Procedure 0 (procedure_defs m.decls) in
    let P = IsBelow text to in
    found_is P (is ++ ts ++ other_entries text m.decls) w x
    (joined P (is ++ ts) (other_entries text m.decls)
    (joined P is ts (imports_below text to hs m.imports) (types_below text to numbers 0 (type_defs m.decls)))
    (joined P (cs ++ ns) ps (joined P cs ns (constants_below text to 0 (constant_defs m.decls)) (variables_below text to 0 vs (omega arith))) (procedures_below text to 0 (procedure_defs m.decls))))
    found k means

-- and a variable in the scope of a type is a field of it
pub fields_are : (text : List ℕ) (numbers : List (Option TypeId)) (n : ℕ) (d : TypeDef) (w : List ℕ) (x : Entry) (k : ℕ) →
    find (inner_scope text numbers n (inner_decls d.value)) w ≡ Some x → x.means ≡ means.Variable k → k < length (single_variables (inner_decls d.value))
fields_are text numbers n d w x k found means =
    let ds = inner_decls d.value in
    let vs = single_variables ds in
    let to = length vs in
    let ts = types_from text numbers n (type_defs ds) in
    let cs = numbered text sort.Constant 0 (constant_defs ds) in
    let ns = numbered text sort.Variable 0 vs in
    let ps = numbered text sort.Procedure 0 (procedure_defs ds) in
    let P = IsBelow text to in
    found_is P (ts ++ other_entries text ds) w x
    (joined P ts (other_entries text ds) (types_below text to numbers n (type_defs ds))
    (joined P (cs ++ ns) ps (joined P cs ns (constants_below text to 0 (constant_defs ds)) (variables_below text to 0 vs (omega arith))) (procedures_below text to 0 (procedure_defs ds))))
    found k means
