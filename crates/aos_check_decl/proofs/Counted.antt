-- One part more: its types are behind those of the parts before.
use Rattle.std.proofs.Common.{◌≡◌, ◌<◌, ◌+◌, ℕ, zero, suc, add-one, List, [], ◌∷◌, length, take, get_or, Bor, sym, ap, ◌∙◌, arith}
use Rattle.std.proofs.lemmas.List.{length-append}
use Rattle.aos_tree.specs.declared.decl.Decl.{Decl}
use Rattle.aos_symbols.specs.Declarations.{type_defs, types_of, seen_parts}

-- how many types these parts define
abbrev pub counted : List (Bor (List Decl)) → ℕ
counted ps = length (types_of (seen_parts ps))

got_more : (ps : List (Bor (List Decl))) (i : ℕ) (d : Bor (List Decl)) → i < length ps →
    counted (take (suc i) ps) ≡ counted (take i ps) + length (type_defs (get_or ps i d).now)
got_more [] i d lt = absurd (omega arith)
got_more (p ∷ ps) zero d lt = length-append (type_defs p.now) [] ∙ omega arith
got_more (p ∷ ps) (suc i) d lt =
    length-append (type_defs p.now) (types_of (seen_parts (take (suc i) ps)))
    ∙ omega (arith, got_more ps i d (omega arith), length-append (type_defs p.now) (types_of (seen_parts (take i ps))))

pub counted_more : (ps : List (Bor (List Decl))) (i : ℕ) (p : Bor (List Decl)) → i < length ps → p ≡ get_or ps i p →
    counted (take (i + 1) ps) ≡ counted (take i ps) + length (type_defs p.now)
counted_more ps i p lt is =
    ap (λ n. counted (take n ps)) (add-one i) ∙ got_more ps i p lt ∙ ap (λ (q : Bor (List Decl)). counted (take i ps) + length (type_defs q.now)) (sym is)
