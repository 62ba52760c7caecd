-- Small texts with their trees, and what they come to. The trees are those that a parser gives.
use Rattle.std.proofs.Common.{◌≡◌, ℕ, ◌+◌, pos, List, [], ◌∷◌, ◌++◌, true, false, Option, Some, None, inl, refl, codes}
use Rattle.std.specs.Str.Lossy.{utf8_lossy}
use denote.Hole.Carrier.{out, shown, hidden}
use Rattle.aos_tree.specs.declared.expr.Factor.TheBlock.{shown-the_row-Relation-6, shown-the_row-Product-8, shown-the_row-Addition-7}
use Rattle.aos_base.specs.declared.number.Width.TheVariants.{W32}
use Rattle.aos_base.specs.declared.priority.Priority.TheVariants.{Normal}
use Rattle.aos_base.specs.declared.text.Pos.{Pos}
use Rattle.aos_tree.specs.declared.name.Name.{Name}
use Rattle.aos_tree.specs.declared.expr.Expr.{Expr as TreeExpr, Expr', end_of-Relation, out-Expr}
use Rattle.aos_tree.specs.declared.expr.Simple.{Simple', end_of-Addition, out-Simple}
use Rattle.aos_tree.specs.declared.expr.Term.{Term', end_of-Product, out-Term}
use Rattle.aos_tree.specs.declared.expr.Factor.{end_of-Selector, more_of-Selector}
use Rattle.aos_tree.specs.declared.expr.Factor.TheVariants as f
use Rattle.aos_tree.specs.declared.expr.Selector.TheVariants as s
use Rattle.aos_tree.specs.declared.stat.Stat.{Stat as TreeStat}
use Rattle.aos_tree.specs.declared.stat.Stat.TheVariants as stat
use Rattle.aos_tree.specs.declared.stat.Block.{Block}
use Rattle.aos_tree.specs.declared.decl.Decl.{Decl, end_of-VarDef, more_of-VarDef, end_of-TypeDef, more_of-TypeDef, end_of-Decl}
use Rattle.aos_tree.specs.declared.decl.Decl.TheBlock.{hidden-the_row-TypeDef-0, hidden-the_row-VarDef-1, shape-the_row-TypeDef-0, shape-the_row-VarDef-1}
use Rattle.aos_tree.specs.declared.decl.Decl.TheVariants as decl
use Rattle.aos_tree.specs.declared.decl.Def.{Def}
use Rattle.aos_tree.specs.declared.decl.Export.{Export}
use Rattle.aos_tree.specs.declared.decl.Export.TheVariants.{ReadWrite, ReadOnly}
use Rattle.aos_tree.specs.declared.decl.TypeExpr.TheVariants as type
use Rattle.aos_tree.specs.declared.module.Import.{Import}
use Rattle.aos_tree.specs.declared.module.Module.{Module as Tree}
use Rattle.aos_typed.specs.declared.tree.Literal.TheVariants as literal
use Rattle.aos_typed.specs.declared.tree.TType.{TType}
use Rattle.aos_typed.specs.declared.tree.TType.TheVariants as ttype
use Rattle.aos_typed.specs.Program.{Stats, Body, NoMore, ModuleVar, Lit, Assign, New, Nothing, Then, Module, Program}
use Rattle.aos_types.specs.declared.row.TypeRow.TheVariants as row
use Rattle.aos_symbols.specs.Env.{basic_rows}
use Rattle.aos_symbols.specs.Outcome.{Outcome, refused, went, refusal}
use Rattle.aos_reading.specs.Files.{tree}
use Rattle.aos_compile.specs.Files.{elaborate}

-- places in a text of one line
abbrev place : ℕ → Pos
place at = record { line = 1; col = at + 1 }

abbrev name : ℕ → ℕ → Name
name from to = record { start = from; end = to; pos = place from }

abbrev letter : ℕ → Name
letter at = name at (at + 1)

abbrev plain : ℕ → Import
plain at = record { name = letter at; of = None }

abbrev module_of : List Import → List Decl → Option Block → ℕ → Tree
module_of imports decls body end =
    record { pos = place 0; name = letter 7; imports = imports; decls = decls; body = body; strings = []; end = letter end }

-- a body that isn't exclusive
abbrev plain_body : Stats → Body
plain_body ss = record { is_exclusive = false; statements = ss }

-- no program but that of modules without anything
abbrev bare : List ℕ → Module
bare n = record { name = utf8_lossy n; variables = []; texts = []; procedures = []; body = plain_body Nothing }

abbrev only_modules : List Module → Program
only_modules ms = record { modules = ms; types = basic_rows; objects = [] }

abbrev longint : TType
longint = ttype.Integer W32

-- the module of this letter that is empty
abbrev empty : Tree
empty = module_of [] [] None 14

-- and one that imports another
abbrev importing : Tree
importing = module_of (plain 17 ∷ []) [] None 24

an_empty_module : elaborate (codes "MODULE M; END M." ∷ []) (tree empty ∷ []) ≡ went (only_modules (bare (codes "M") ∷ []))
unfolding shape-the_row-TypeDef-0 hidden-the_row-TypeDef-0 hidden
an_empty_module = refl

not_given : elaborate (codes "MODULE A; IMPORT Z; END A." ∷ []) (tree importing ∷ []) ≡ refused (refusal 9 0 (place 17))
not_given = refl

in_a_circle : elaborate (codes "MODULE A; IMPORT B; END A." ∷ codes "MODULE B; IMPORT A; END B." ∷ []) (tree importing ∷ tree importing ∷ [])
    ≡ refused (refusal 10 0 (place 7))
in_a_circle = refl

given_twice : elaborate (codes "MODULE A; END A." ∷ codes "MODULE A; END A." ∷ []) (tree empty ∷ tree empty ∷ []) ≡ refused (refusal 8 1 (place 7))
given_twice = refl

importer_first : elaborate (codes "MODULE A; IMPORT B; END A." ∷ codes "MODULE B; END B." ∷ []) (tree importing ∷ tree empty ∷ [])
    ≡ went (only_modules (bare (codes "B") ∷ bare (codes "A") ∷ []))
unfolding shape-the_row-TypeDef-0 hidden-the_row-TypeDef-0 hidden
importer_first = refl

named_out : elaborate (codes "MODULE A; IMPORT Z; END A." ∷ codes "MODULE Out; END Out." ∷ [])
    (tree importing ∷ tree (record { pos = place 0; name = name 7 10; imports = []; decls = []; body = None; strings = []; end = name 16 19 }) ∷ []) ≡ refused (refusal 11 1 (place 7))
named_out = refl

-- the module that comes first in load order is refused first
second_file : elaborate (codes "MODULE A; IMPORT B; END X." ∷ codes "MODULE B; END X." ∷ []) (tree importing ∷ tree empty ∷ []) ≡ refused (refusal 12 1 (place 14))
unfolding shape-the_row-TypeDef-0 hidden-the_row-TypeDef-0 hidden
second_file = refl

abbrev def : ℕ → Option Export → Def
def at None = record { name = letter at; mark = None }
def at (Some x) = record { name = letter at; mark = Some (record { pos = place (at + 1); export = x }) }

-- VAR n: LONGINT, where VAR, n, with this mark, and the type begin
abbrev variable_at : (word at : ℕ) → Option Export → (of : ℕ) → Decl
variable_at word at mark of =
    decl.Vars' (place word) (tt ∷ []) (more_of-VarDef (def at mark ∷ []) (type.Named (record { first = name of (of + 7); second = None })) end_of-VarDef)

-- behind the module's name
abbrev variable : Option Export → ℕ → Decl
variable mark at = variable_at 10 14 mark at

-- the module B of such a variable
abbrev with_variable : Option Export → ℕ → Tree
with_variable mark at = module_of [] (variable mark at ∷ []) None (at + 13)

abbrev number : ℕ → TreeExpr
number at = Expr' (place at) (Simple' (place at) None (Term' (place at) (f.Number (place at) (pos 1)) [] end_of-Product) [] end_of-Addition) (inl tt) end_of-Relation

-- B.p, where B stands here
abbrev read : ℕ → TreeExpr
read at =
    Expr' (place at) (Simple' (place at) None (Term' (place at) (f.Desig' (letter at) (tt ∷ []) (more_of-Selector (s.Field (place (at + 1)) (letter (at + 2))) end_of-Selector)) [] end_of-Product) [] end_of-Addition)
    (inl tt) end_of-Relation

-- a body of one statement
abbrev body : TreeStat → Option Block
body x = Some (record { pos = place 20; modifiers = []; body = record { stats = x ∷ [] } })

-- MODULE A; IMPORT B; BEGIN B.n := 1 END A.
abbrev assigning : Tree
assigning =
    module_of (plain 17 ∷ []) []
    (body (stat.Assign (record { name = letter 26; selectors = s.Field (place 27) (letter 28) ∷ [] }) (place 30) (number 33))) 39

-- the texts, where the variable has this mark
abbrev assigned : List ℕ → Tree → Outcome Program
assigned text b = elaborate (codes "MODULE A; IMPORT B; BEGIN B.n := 1 END A." ∷ text ∷ []) (tree assigning ∷ tree b ∷ [])

no_mark : assigned (codes "MODULE B; VAR n: LONGINT; END B.") (with_variable None 17) ≡ refused (refusal 15 0 (place 28))
unfolding out-Expr out-Simple out-Term out shown-the_row-Relation-6 shown-the_row-Product-8 shown-the_row-Addition-7 shown shape-the_row-VarDef-1 hidden-the_row-VarDef-1 hidden
no_mark = refl

marked_read_only : assigned (codes "MODULE B; VAR n-: LONGINT; END B.") (with_variable (Some ReadOnly) 18) ≡ refused (refusal 33 0 (place 26))
unfolding out-Expr out-Simple out-Term out shown-the_row-Relation-6 shown-the_row-Product-8 shown-the_row-Addition-7 shown shape-the_row-VarDef-1 hidden-the_row-VarDef-1 hidden
marked_read_only = refl

marked : assigned (codes "MODULE B; VAR n*: LONGINT; END B.") (with_variable (Some ReadWrite) 18)
    ≡ went (only_modules (record { name = utf8_lossy (codes "B"); variables = record { name = utf8_lossy (codes "n"); of = longint } ∷ []; texts = []; procedures = []; body = plain_body Nothing }
    ∷ record { name = utf8_lossy (codes "A"); variables = []; texts = []; procedures = []; body = plain_body (Then (Assign (place 26) longint (ModuleVar 0 0) (Lit (literal.Int (pos 1)))) Nothing) } ∷ []))
unfolding out-Expr out-Simple out-Term out shown-the_row-Relation-6 shown-the_row-Product-8 shown-the_row-Addition-7 shown shape-the_row-VarDef-1 hidden-the_row-VarDef-1 hidden
marked = refl

-- IMPORT X := B
renamed : elaborate (codes "MODULE A; IMPORT X := B; BEGIN X.n := 1 END A." ∷ codes "MODULE B; VAR n*: LONGINT; END B." ∷ [])
    (tree (module_of (record { name = letter 17; of = Some (letter 22) } ∷ []) []
    (body (stat.Assign (record { name = letter 31; selectors = s.Field (place 32) (letter 33) ∷ [] }) (place 35) (number 38))) 44)
    ∷ tree (with_variable (Some ReadWrite) 18) ∷ [])
    ≡ went (only_modules (record { name = utf8_lossy (codes "B"); variables = record { name = utf8_lossy (codes "n"); of = longint } ∷ []; texts = []; procedures = []; body = plain_body Nothing }
    ∷ record { name = utf8_lossy (codes "A"); variables = []; texts = []; procedures = []; body = plain_body (Then (Assign (place 31) longint (ModuleVar 0 0) (Lit (literal.Int (pos 1)))) Nothing) } ∷ []))
unfolding out-Expr out-Simple out-Term out shown-the_row-Relation-6 shown-the_row-Product-8 shown-the_row-Addition-7 shown shape-the_row-VarDef-1 hidden-the_row-VarDef-1 hidden
renamed = refl

unknown_member : elaborate (codes "MODULE A; IMPORT B; BEGIN B.n := 1 END A." ∷ codes "MODULE B; END B." ∷ []) (tree assigning ∷ tree empty ∷ [])
    ≡ refused (refusal 14 0 (place 28))
unfolding out-Expr out-Simple out-Term out shown-the_row-Relation-6 shown-the_row-Product-8 shown-the_row-Addition-7 shown shape-the_row-TypeDef-0 hidden-the_row-TypeDef-0 hidden
unknown_member = refl

-- BEGIN {a modifier} and a statement
abbrev marked_body : (begin from to : ℕ) → TreeStat → Option Block
marked_body begin from to x =
    Some (record { pos = place begin; modifiers = record { name = name from to; value = None } ∷ []; body = record { stats = x ∷ [] } })

-- BEGIN {ACTIVE} and a statement
abbrev active_body : (begin word : ℕ) → TreeStat → Option Block
active_body begin word x = marked_body begin word (word + 6) x

-- an exclusive body
an_exclusive_body : elaborate (codes "MODULE M; BEGIN {EXCLUSIVE} END M." ∷ []) (tree (module_of [] [] (marked_body 10 17 26 stat.Empty) 32) ∷ [])
    ≡ went (only_modules (record (bare (codes "M")) { body = record { is_exclusive = true; statements = Nothing } } ∷ []))
unfolding shape-the_row-TypeDef-0 hidden-the_row-TypeDef-0 hidden
an_exclusive_body = refl

-- MODULE B; TYPE T*= OBJECT BEGIN {ACTIVE} END T; VAR p*: T; END B.
abbrev active : Option Block
active = active_body 26 33 stat.Empty

abbrev with_object : Tree
with_object =
    module_of []
    (decl.Types' (place 10) (tt ∷ []) (more_of-TypeDef (def 15 (Some ReadWrite)) (type.Object' (place 19) None [] end_of-Decl active (Some (letter 45))) end_of-TypeDef)
    ∷ decl.Vars' (place 48) (tt ∷ []) (more_of-VarDef (def 52 (Some ReadWrite) ∷ []) (type.Named (record { first = letter 56; second = None })) end_of-VarDef) ∷ []) None 63

-- MODULE A; IMPORT B; BEGIN NEW(B.p) END A.
abbrev making : Tree
making =
    module_of (plain 17 ∷ []) []
    (body (stat.Call (record { name = name 26 29; selectors = s.Paren (place 29) (read 30 ∷ []) ∷ [] }))) 39

an_object_of_another_module : elaborate (codes "MODULE A; IMPORT B; BEGIN NEW(B.p) END A." ∷ codes "MODULE B; TYPE T*= OBJECT BEGIN {ACTIVE} END T; VAR p*: T; END B." ∷ [])
    (tree making ∷ tree with_object ∷ [])
    ≡ went (record {
      modules = record { name = utf8_lossy (codes "B"); variables = record { name = utf8_lossy (codes "p"); of = ttype.Named 0 } ∷ []; texts = []; procedures = []; body = plain_body Nothing }
          ∷ record { name = utf8_lossy (codes "A"); variables = []; texts = []; procedures = []; body = plain_body (Then (New (place 26) (ModuleVar 0 0) 0 NoMore) Nothing) } ∷ [];
      types = basic_rows ++ row.Object None [] ∷ [];
      objects =
          record {
            name = utf8_lossy (codes "T");
            at = place 15;
            fields = [];
            home = 0;
            has_body = true;
            is_active = true;
            priority = Normal;
            body = record { name = []; at = record { line = 0; col = 0 }; of = Some 0; is_initializer = false; parameters = []; locals = []; result = None; body = plain_body Nothing };
            methods = [];
          }
          ∷ [];
    })
unfolding out-Expr out-Simple out-Term out shown-the_row-Relation-6 shown-the_row-Product-8 shown-the_row-Addition-7 shown hidden shape-the_row-TypeDef-0 hidden-the_row-TypeDef-0 shape-the_row-VarDef-1 hidden-the_row-VarDef-1
an_object_of_another_module = refl

-- a declared name goes before a predeclared one
declared_anew : elaborate (codes "MODULE B; VAR n: LONGINT; NEW: LONGINT; BEGIN NEW := 1 END B." ∷ [])
    (tree (module_of []
    (decl.Vars' (place 10) (tt ∷ tt ∷ []) (more_of-VarDef (def 14 None ∷ []) (type.Named (record { first = name 17 24; second = None }))
    (more_of-VarDef (record { name = name 26 29; mark = None } ∷ []) (type.Named (record { first = name 31 38; second = None })) end_of-VarDef)) ∷ [])
    (body (stat.Assign (record { name = name 46 49; selectors = [] }) (place 50) (number 53))) 59) ∷ [])
    ≡ went (only_modules (record {
      name = utf8_lossy (codes "B");
      variables = record { name = utf8_lossy (codes "n"); of = longint } ∷ record { name = utf8_lossy (codes "NEW"); of = longint } ∷ [];
      texts = [];
      procedures = [];
      body = plain_body (Then (Assign (place 46) longint (ModuleVar 0 1) (Lit (literal.Int (pos 1)))) Nothing);
    } ∷ []))
unfolding out-Expr out-Simple out-Term out shown-the_row-Relation-6 shown-the_row-Product-8 shown-the_row-Addition-7 shown shape-the_row-VarDef-1 hidden-the_row-VarDef-1 hidden
declared_anew = refl

-- the value of a name alone
abbrev named : ℕ → TreeExpr
named at = Expr' (place at) (Simple' (place at) None (Term' (place at) (f.Desig' (letter at) [] end_of-Selector) [] end_of-Product) [] end_of-Addition) (inl tt) end_of-Relation

-- CONST c = 1
abbrev constant : (word at value : ℕ) → Decl
constant word at value = decl.Consts (place word) (record { def = def at None; value = number value } ∷ [])

-- a constant behind its declaration is its value
a_constant : elaborate (codes "MODULE B; CONST c = 1; VAR n: LONGINT; BEGIN n := c END B." ∷ [])
    (tree (module_of [] (constant 10 16 20 ∷ variable_at 23 27 None 30 ∷ []) (body (stat.Assign (record { name = letter 45; selectors = [] }) (place 47) (named 50))) 56) ∷ [])
    ≡ went (only_modules (record {
      name = utf8_lossy (codes "B");
      variables = record { name = utf8_lossy (codes "n"); of = longint } ∷ [];
      texts = [];
      procedures = [];
      body = plain_body (Then (Assign (place 45) longint (ModuleVar 0 0) (Lit (literal.Int (pos 1)))) Nothing);
    } ∷ []))
unfolding out-Expr out-Simple out-Term out shown-the_row-Relation-6 shown-the_row-Product-8 shown-the_row-Addition-7 shown shape-the_row-VarDef-1 hidden-the_row-VarDef-1 hidden
a_constant = refl

-- and before it has none
too_early : elaborate (codes "MODULE B; VAR n: LONGINT; TYPE T = OBJECT BEGIN {ACTIVE} n := c END T; CONST c = 1; END B." ∷ [])
    (tree (module_of [] (variable_at 10 14 None 17
    ∷ decl.Types' (place 26) (tt ∷ []) (more_of-TypeDef (def 31 None) (type.Object' (place 35) None [] end_of-Decl (active_body 42 49 (stat.Assign (record { name = letter 57; selectors = [] }) (place 59) (named 62))) (Some (letter 68))) end_of-TypeDef)
    ∷ constant 71 77 81 ∷ []) None 88) ∷ [])
    ≡ refused (refusal 20 0 (place 62))
unfolding out-Expr out-Simple out-Term out shown-the_row-Relation-6 shown-the_row-Product-8 shown-the_row-Addition-7 shown hidden shape-the_row-VarDef-1 hidden-the_row-VarDef-1
too_early = refl
