-- One more name of a scope.
use Rattle.std.proofs.Common.{◌≡◌, ◌<◌, ◌≤◌, ℕ, suc, List, [], ◌∷◌, ◌++◌, ◌+◌, length, map, get_or, drop, drop-cons, add-one, length-append, append_assoc, Option, arith, refl, ap, ◌∙◌, sym, if◌then◌else◌, bytes_eq}
use Rattle.std.proofs.lemmas.List.Sums.{fold-append}
use Rattle.aos_tree.specs.declared.decl.Def.{Def}
use Rattle.aos_tree.specs.declared.decl.Decl.{Decl}
use Rattle.aos_tree.specs.declared.decl.TypeDef.{TypeDef}
use Rattle.aos_types.specs.declared.row.TypeId.{TypeId}
use Rattle.aos_entries.specs.declared.entries.Sort.{Sort}
use Rattle.aos_symbols.specs.declared.scope.Meaning.TheVariants as means
use Rattle.aos_symbols.specs.Home.{Home}
use Rattle.aos_symbols.specs.Scope.{Named, Scope, with_name, with_names}
use Rattle.std.specs.List.{flat_map}
use Rattle.aos_symbols.specs.Declarations.{Procedure, procedures, type_defs, types_in, local_types, inner_decls, inner_types, methods_in, all_procedures}
use Rattle.aos_entries.specs.Entries.{among, numbered, entry, meant, number_at, types_from, inner_scope, inner_scopes, procedure_scope, procedure_scopes}
use Rattle.aos_symbols.proofs.Paths.{past}

pub among_step : (w : List ℕ) (hs : List Home) (i : ℕ) (d : Home) → i < length hs →
    among w i (drop i hs) ≡ (if bytes_eq w (get_or hs i d).name then means.Module i else among w (i + 1) (drop (i + 1) hs))
among_step w hs i d lt =
    ap (λ l. among w i l) (drop-cons hs i d lt)
    ∙ ap (λ j. if bytes_eq w (get_or hs i d).name then means.Module i else among w j (drop j hs)) (sym (add-one i))

pub among_end : (w : List ℕ) (hs : List Home) (i : ℕ) → length hs ≤ i → among w i (drop i hs) ≡ means.Other
among_end w hs i le = ap (λ l. among w i l) (past hs i le)

pub numbered_step : (s : Scope) (text : List ℕ) (of : Sort) (ds : List Def) (i : ℕ) (d : Def) → i < length ds →
    with_names s (numbered text of i (drop i ds))
    ≡ with_names (with_name s (entry text (get_or ds i d) (meant of i))) (numbered text of (i + 1) (drop (i + 1) ds))
numbered_step s text of ds i d lt =
    ap (λ l. with_names s (numbered text of i l)) (drop-cons ds i d lt)
    ∙ ap (λ j. with_names (with_name s (entry text (get_or ds i d) (meant of i))) (numbered text of j (drop j ds))) (sym (add-one i))

pub numbered_end : (s : Scope) (text : List ℕ) (of : Sort) (ds : List Def) (i : ℕ) → length ds ≤ i → with_names s (numbered text of i (drop i ds)) ≡ s
numbered_end s text of ds i le = ap (λ l. with_names s (numbered text of i l)) (past ds i le)

-- two lists of names, one behind the other
pub with_both : (s : Scope) (xs ys : List Named) → with_names s (xs ++ ys) ≡ with_names (with_names s xs) ys
with_both s xs ys = fold-append with_name s xs ys

pub types_step : (s : Scope) (text : List ℕ) (numbers : List (Option TypeId)) (k : ℕ) (ds : List TypeDef) (i : ℕ) (d : TypeDef) → i < length ds →
    with_names s (types_from text numbers k (drop i ds))
    ≡ with_names (with_name s (entry text (get_or ds i d).def (means.Type (number_at numbers k)))) (types_from text numbers (k + 1) (drop (i + 1) ds))
types_step s text numbers k ds i d lt =
    ap (λ l. with_names s (types_from text numbers k l)) (drop-cons ds i d lt)
    ∙ ap (λ j. with_names (with_name s (entry text (get_or ds i d).def (means.Type (number_at numbers k)))) (types_from text numbers (suc k) (drop j ds))) (sym (add-one i))
    ∙ ap (λ j. with_names (with_name s (entry text (get_or ds i d).def (means.Type (number_at numbers k)))) (types_from text numbers j (drop (i + 1) ds))) (sym (add-one k))

pub types_end : (s : Scope) (text : List ℕ) (numbers : List (Option TypeId)) (k : ℕ) (ds : List TypeDef) (i : ℕ) → length ds ≤ i →
    with_names s (types_from text numbers k (drop i ds)) ≡ s
types_end s text numbers k ds i le = ap (λ l. with_names s (types_from text numbers k l)) (past ds i le)

-- the types of one declaration, and those of the others behind it
types_both : (text : List ℕ) (numbers : List (Option TypeId)) (k : ℕ) (xs ys : List TypeDef) →
    types_from text numbers k (xs ++ ys) ≡ types_from text numbers k xs ++ types_from text numbers (k + length xs) ys
types_both text numbers k [] ys = ap (λ j. types_from text numbers j ys) (omega arith)
types_both text numbers k (x ∷ xs) ys =
    ap (λ z. entry text x.def (means.Type (number_at numbers k)) ∷ z)
    (types_both text numbers (suc k) xs ys ∙ ap (λ j. types_from text numbers (suc k) xs ++ types_from text numbers j ys) (omega arith))

pub decls_step : (s : Scope) (text : List ℕ) (numbers : List (Option TypeId)) (k : ℕ) (ds : List Decl) (i : ℕ) (d : Decl) → i < length ds →
    with_names s (types_from text numbers k (type_defs (drop i ds)))
    ≡ with_names (with_names s (types_from text numbers k (types_in (get_or ds i d)))) (types_from text numbers (k + length (types_in (get_or ds i d))) (type_defs (drop (i + 1) ds)))
decls_step s text numbers k ds i d lt =
    let x = get_or ds i d in
    let next = k + length (types_in x) in
    ap (λ l. with_names s (types_from text numbers k (type_defs l))) (drop-cons ds i d lt)
    ∙ ap (λ l. with_names s l) (types_both text numbers k (types_in x) (type_defs (drop (suc i) ds)))
    ∙ with_both s (types_from text numbers k (types_in x)) (types_from text numbers next (type_defs (drop (suc i) ds)))
    ∙ ap (λ j. with_names (with_names s (types_from text numbers k (types_in x))) (types_from text numbers next (type_defs (drop j ds)))) (sym (add-one i))

pub decls_end : (s : Scope) (text : List ℕ) (numbers : List (Option TypeId)) (k : ℕ) (ds : List Decl) (i : ℕ) → length ds ≤ i →
    with_names s (types_from text numbers k (type_defs (drop i ds))) ≡ s
decls_end s text numbers k ds i le = ap (λ l. with_names s (types_from text numbers k (type_defs l))) (past ds i le)

-- how many types the declarations have from this one on
pub count_step : (ds : List Decl) (i : ℕ) (d : Decl) → i < length ds →
    length (type_defs (drop i ds)) ≡ length (types_in (get_or ds i d)) + length (type_defs (drop (i + 1) ds))
count_step ds i d lt =
    ap (λ l. length (type_defs l)) (drop-cons ds i d lt)
    ∙ length-append (types_in (get_or ds i d)) (type_defs (drop (suc i) ds))
    ∙ ap (λ j. length (types_in (get_or ds i d)) + length (type_defs (drop j ds))) (sym (add-one i))

pub mapped_step : {X : Type 0} (s : Scope) (f : X → Named) (xs : List X) (i : ℕ) (d : X) → i < length xs →
    with_names s (map f (drop i xs)) ≡ with_names (with_name s (f (get_or xs i d))) (map f (drop (i + 1) xs))
mapped_step s f xs i d lt =
    ap (λ l. with_names s (map f l)) (drop-cons xs i d lt) ∙ ap (λ j. with_names (with_name s (f (get_or xs i d))) (map f (drop j xs))) (sym (add-one i))

pub mapped_end : {X : Type 0} (s : Scope) (f : X → Named) (xs : List X) (i : ℕ) → length xs ≤ i → with_names s (map f (drop i xs)) ≡ s
mapped_end s f xs i le = ap (λ l. with_names s (map f l)) (past xs i le)

-- the scopes of types, and of others behind them
inner_both : (text : List ℕ) (numbers : List (Option TypeId)) (k : ℕ) (xs ys : List TypeDef) →
    inner_scopes text numbers k (xs ++ ys) ≡ inner_scopes text numbers k xs ++ inner_scopes text numbers (k + length (inner_types xs)) ys
inner_both text numbers k [] ys = ap (λ j. inner_scopes text numbers j ys) (omega arith)
inner_both text numbers k (x ∷ xs) ys =
    let inner = inner_decls x.value in
    let here = length (type_defs inner) in
    let count = length-append (type_defs inner) (inner_types xs) in
    let same : k + here + length (inner_types xs) ≡ k + length (inner_types (x ∷ xs)) = omega (arith, count) in
    ap (λ z. inner_scope text numbers k inner ∷ z)
    (inner_both text numbers (k + here) xs ys
    ∙ ap (λ j. inner_scopes text numbers (k + here) xs ++ inner_scopes text numbers j ys) same)

inner_joined : (xs ys : List TypeDef) → length (inner_types (xs ++ ys)) ≡ length (inner_types xs) + length (inner_types ys)
inner_joined [] ys = omega (arith)
inner_joined (x ∷ xs) ys =
    let here = type_defs (inner_decls x.value) in
    let all = length-append here (inner_types (xs ++ ys)) in
    let some = length-append here (inner_types xs) in
    let rest = inner_joined xs ys in
    omega (arith, all, some, rest)

-- there is one for each type
pub inner_long : (text : List ℕ) (numbers : List (Option TypeId)) (k : ℕ) (ds : List TypeDef) → length (inner_scopes text numbers k ds) ≡ length ds
inner_long text numbers k [] = refl
inner_long text numbers k (d ∷ ds) = ap suc (inner_long text numbers (k + length (type_defs (inner_decls d.value))) ds)

-- the scope of one type, and those of the others behind it; the same of declarations
pub inner_on : (met whole : List Scope) (text : List ℕ) (numbers : List (Option TypeId)) (k : ℕ) (ds : List TypeDef) (i : ℕ) (d : TypeDef) → i < length ds →
    met ++ inner_scopes text numbers k (drop i ds) ≡ whole →
    (met ++ inner_scope text numbers k (inner_decls (get_or ds i d).value) ∷ [])
    ++ inner_scopes text numbers (k + length (type_defs (inner_decls (get_or ds i d).value))) (drop (i + 1) ds) ≡ whole
inner_on met whole text numbers k ds i d lt all =
    let inner = inner_decls (get_or ds i d).value in
    let next = k + length (type_defs inner) in
    append_assoc met (inner_scope text numbers k inner ∷ []) (inner_scopes text numbers next (drop (i + 1) ds))
    ∙ ap (λ j. met ++ inner_scope text numbers k inner ∷ inner_scopes text numbers next (drop j ds)) (add-one i)
    ∙ ap (λ l. met ++ inner_scopes text numbers k l) (sym (drop-cons ds i d lt)) ∙ all

pub inner_count : (ds : List TypeDef) (i : ℕ) (d : TypeDef) → i < length ds →
    length (inner_types (drop i ds)) ≡ length (type_defs (inner_decls (get_or ds i d).value)) + length (inner_types (drop (i + 1) ds))
inner_count ds i d lt =
    let here = type_defs (inner_decls (get_or ds i d).value) in
    ap (λ l. length (inner_types l)) (drop-cons ds i d lt)
    ∙ length-append here (inner_types (drop (suc i) ds))
    ∙ ap (λ j. length here + length (inner_types (drop j ds))) (sym (add-one i))

pub inner_end : (text : List ℕ) (numbers : List (Option TypeId)) (k : ℕ) (ds : List TypeDef) (i : ℕ) → length ds ≤ i → inner_scopes text numbers k (drop i ds) ≡ []
inner_end text numbers k ds i le = ap (λ l. inner_scopes text numbers k l) (past ds i le)

pub inner_none : (ds : List TypeDef) (i : ℕ) → length ds ≤ i → inner_types (drop i ds) ≡ []
inner_none ds i le = ap (λ l. inner_types l) (past ds i le)

decl_inner_step : (text : List ℕ) (numbers : List (Option TypeId)) (k : ℕ) (ds : List Decl) (i : ℕ) (d : Decl) → i < length ds →
    inner_scopes text numbers k (type_defs (drop i ds))
    ≡ inner_scopes text numbers k (types_in (get_or ds i d))
    ++ inner_scopes text numbers (k + length (inner_types (types_in (get_or ds i d)))) (type_defs (drop (i + 1) ds))
decl_inner_step text numbers k ds i d lt =
    let x = types_in (get_or ds i d) in
    ap (λ l. inner_scopes text numbers k (type_defs l)) (drop-cons ds i d lt)
    ∙ inner_both text numbers k x (type_defs (drop (suc i) ds))
    ∙ ap (λ j. inner_scopes text numbers k x ++ inner_scopes text numbers (k + length (inner_types x)) (type_defs (drop j ds))) (sym (add-one i))

pub decl_inner_on : (met whole : List Scope) (text : List ℕ) (numbers : List (Option TypeId)) (k : ℕ) (ds : List Decl) (i : ℕ) (d : Decl) → i < length ds →
    met ++ inner_scopes text numbers k (type_defs (drop i ds)) ≡ whole →
    (met ++ inner_scopes text numbers k (types_in (get_or ds i d)))
    ++ inner_scopes text numbers (k + length (inner_types (types_in (get_or ds i d)))) (type_defs (drop (i + 1) ds)) ≡ whole
decl_inner_on met whole text numbers k ds i d lt all =
    let x = types_in (get_or ds i d) in
    append_assoc met (inner_scopes text numbers k x) (inner_scopes text numbers (k + length (inner_types x)) (type_defs (drop (i + 1) ds)))
    ∙ ap (λ z. met ++ z) (sym (decl_inner_step text numbers k ds i d lt)) ∙ all

pub decl_inner_count : (ds : List Decl) (i : ℕ) (d : Decl) → i < length ds →
    length (inner_types (type_defs (drop i ds)))
    ≡ length (inner_types (types_in (get_or ds i d))) + length (inner_types (type_defs (drop (i + 1) ds)))
decl_inner_count ds i d lt =
    let x = types_in (get_or ds i d) in
    ap (λ l. length (inner_types (type_defs l))) (drop-cons ds i d lt)
    ∙ inner_joined x (type_defs (drop (suc i) ds))
    ∙ ap (λ j. length (inner_types x) + length (inner_types (type_defs (drop j ds)))) (sym (add-one i))

pub decl_inner_end : (text : List ℕ) (numbers : List (Option TypeId)) (k : ℕ) (ds : List Decl) (i : ℕ) → length ds ≤ i →
    inner_scopes text numbers k (type_defs (drop i ds)) ≡ []
decl_inner_end text numbers k ds i le = ap (λ l. inner_scopes text numbers k (type_defs l)) (past ds i le)

pub decl_inner_none : (ds : List Decl) (i : ℕ) → length ds ≤ i → inner_types (type_defs (drop i ds)) ≡ []
decl_inner_none ds i le = ap (λ l. inner_types (type_defs l)) (past ds i le)

-- the scopes of procedures, and of others behind them
scopes_both : (text : List ℕ) (numbers : List (Option TypeId)) (k : ℕ) (ps qs : List Procedure) →
    procedure_scopes text numbers k (ps ++ qs) ≡ procedure_scopes text numbers k ps ++ procedure_scopes text numbers (k + length (local_types ps)) qs
scopes_both text numbers k [] qs = ap (λ j. procedure_scopes text numbers j qs) (omega arith)
scopes_both text numbers k (p ∷ ps) qs =
    let here = length (type_defs p.decls) in
    let count = length-append (type_defs p.decls) (local_types ps) in
    let same : k + here + length (local_types ps) ≡ k + length (local_types (p ∷ ps)) = omega (arith, count) in
    ap (λ z. procedure_scope text numbers k p.formals p.decls ∷ z)
    (scopes_both text numbers (k + here) ps qs
    ∙ ap (λ j. procedure_scopes text numbers (k + here) ps ++ procedure_scopes text numbers j qs) same)

types_joined : (ps qs : List Procedure) → length (local_types (ps ++ qs)) ≡ length (local_types ps) + length (local_types qs)
types_joined [] qs = omega (arith)
types_joined (p ∷ ps) qs =
    let all = length-append (type_defs p.decls) (local_types (ps ++ qs)) in
    let some = length-append (type_defs p.decls) (local_types ps) in
    let rest = types_joined ps qs in
    omega (arith, all, some, rest)

-- the scopes of the methods of one type, and of those behind it; the same of declarations
methods_step : (text : List ℕ) (numbers : List (Option TypeId)) (k : ℕ) (ds : List TypeDef) (i : ℕ) (d : TypeDef) → i < length ds →
    procedure_scopes text numbers k (flat_map methods_in (drop i ds))
    ≡ procedure_scopes text numbers k (methods_in (get_or ds i d))
    ++ procedure_scopes text numbers (k + length (local_types (methods_in (get_or ds i d)))) (flat_map methods_in (drop (i + 1) ds))
methods_step text numbers k ds i d lt =
    let x = get_or ds i d in
    ap (λ l. procedure_scopes text numbers k (flat_map methods_in l)) (drop-cons ds i d lt)
    ∙ scopes_both text numbers k (methods_in x) (flat_map methods_in (drop (suc i) ds))
    ∙ ap (λ j. procedure_scopes text numbers k (methods_in x)
    ++ procedure_scopes text numbers (k + length (local_types (methods_in x))) (flat_map methods_in (drop j ds))) (sym (add-one i))

pub methods_on : (met whole : List Scope) (text : List ℕ) (numbers : List (Option TypeId)) (k : ℕ) (ds : List TypeDef) (i : ℕ) (d : TypeDef) → i < length ds →
    met ++ procedure_scopes text numbers k (flat_map methods_in (drop i ds)) ≡ whole →
    (met ++ procedure_scopes text numbers k (methods_in (get_or ds i d)))
    ++ procedure_scopes text numbers (k + length (local_types (methods_in (get_or ds i d)))) (flat_map methods_in (drop (i + 1) ds)) ≡ whole
methods_on met whole text numbers k ds i d lt all =
    let x = get_or ds i d in
    append_assoc met (procedure_scopes text numbers k (methods_in x))
    (procedure_scopes text numbers (k + length (local_types (methods_in x))) (flat_map methods_in (drop (i + 1) ds)))
    ∙ ap (λ z. met ++ z) (sym (methods_step text numbers k ds i d lt)) ∙ all

pub method_count : (ds : List TypeDef) (i : ℕ) (d : TypeDef) → i < length ds →
    length (local_types (flat_map methods_in (drop i ds)))
    ≡ length (local_types (methods_in (get_or ds i d))) + length (local_types (flat_map methods_in (drop (i + 1) ds)))
method_count ds i d lt =
    let x = get_or ds i d in
    ap (λ l. length (local_types (flat_map methods_in l))) (drop-cons ds i d lt)
    ∙ types_joined (methods_in x) (flat_map methods_in (drop (suc i) ds))
    ∙ ap (λ j. length (local_types (methods_in x)) + length (local_types (flat_map methods_in (drop j ds)))) (sym (add-one i))

pub methods_end : (ds : List TypeDef) (i : ℕ) → length ds ≤ i → flat_map methods_in (drop i ds) ≡ []
methods_end ds i le = ap (λ l. flat_map methods_in l) (past ds i le)

methods_apart : (xs ys : List TypeDef) → flat_map methods_in (xs ++ ys) ≡ flat_map methods_in xs ++ flat_map methods_in ys
methods_apart [] ys = refl
methods_apart (x ∷ xs) ys =
    ap (λ z. methods_in x ++ z) (methods_apart xs ys) ∙ sym (append_assoc (methods_in x) (flat_map methods_in xs) (flat_map methods_in ys))

decl_methods_step : (text : List ℕ) (numbers : List (Option TypeId)) (k : ℕ) (ds : List Decl) (i : ℕ) (d : Decl) → i < length ds →
    procedure_scopes text numbers k (flat_map methods_in (type_defs (drop i ds)))
    ≡ procedure_scopes text numbers k (flat_map methods_in (types_in (get_or ds i d)))
    ++ procedure_scopes text numbers (k + length (local_types (flat_map methods_in (types_in (get_or ds i d))))) (flat_map methods_in (type_defs (drop (i + 1) ds)))
decl_methods_step text numbers k ds i d lt =
    let x = types_in (get_or ds i d) in
    ap (λ l. procedure_scopes text numbers k (flat_map methods_in (type_defs l))) (drop-cons ds i d lt)
    ∙ ap (λ l. procedure_scopes text numbers k l) (methods_apart x (type_defs (drop (suc i) ds)))
    ∙ scopes_both text numbers k (flat_map methods_in x) (flat_map methods_in (type_defs (drop (suc i) ds)))
    ∙ ap (λ j. procedure_scopes text numbers k (flat_map methods_in x)
    ++ procedure_scopes text numbers (k + length (local_types (flat_map methods_in x))) (flat_map methods_in (type_defs (drop j ds)))) (sym (add-one i))

pub decl_methods_on : (met whole : List Scope) (text : List ℕ) (numbers : List (Option TypeId)) (k : ℕ) (ds : List Decl) (i : ℕ) (d : Decl) → i < length ds →
    met ++ procedure_scopes text numbers k (flat_map methods_in (type_defs (drop i ds))) ≡ whole →
    (met ++ procedure_scopes text numbers k (flat_map methods_in (types_in (get_or ds i d))))
    ++ procedure_scopes text numbers (k + length (local_types (flat_map methods_in (types_in (get_or ds i d))))) (flat_map methods_in (type_defs (drop (i + 1) ds))) ≡ whole
decl_methods_on met whole text numbers k ds i d lt all =
    let x = types_in (get_or ds i d) in
    append_assoc met (procedure_scopes text numbers k (flat_map methods_in x))
    (procedure_scopes text numbers (k + length (local_types (flat_map methods_in x))) (flat_map methods_in (type_defs (drop (i + 1) ds))))
    ∙ ap (λ z. met ++ z) (sym (decl_methods_step text numbers k ds i d lt)) ∙ all

pub decl_methods_end : (ds : List Decl) (i : ℕ) → length ds ≤ i → flat_map methods_in (type_defs (drop i ds)) ≡ []
decl_methods_end ds i le = ap (λ l. flat_map methods_in (type_defs l)) (past ds i le)

-- those of procedures, and of methods behind them
pub all_scopes : (text : List ℕ) (numbers : List (Option TypeId)) (k : ℕ) (ds : List Decl) →
    procedure_scopes text numbers k (all_procedures ds)
    ≡ procedure_scopes text numbers k (procedures ds)
    ++ procedure_scopes text numbers (k + length (local_types (procedures ds))) (flat_map methods_in (type_defs ds))
all_scopes text numbers k ds = scopes_both text numbers k (procedures ds) (flat_map methods_in (type_defs ds))
