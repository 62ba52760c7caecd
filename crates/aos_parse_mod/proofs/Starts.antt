-- Where a symbol begins with all that others begin with.
use Rattle.std.proofs.Common.{◌≡◌, ℕ, ◌+◌, ◌++◌, [], ◌∷◌, Bool, Some, None, refl, ap, ◌∙◌, append_assoc}
use Rattle.aos_scan.specs.declared.token.TokenKind.{TokenKind}
use Rattle.aos_scan.specs.declared.token.TokenKind.TheVariants as k
use Rattle.aos_parse_expr.specs.Machine.{Step, shifts, refuses, step, or_else}
use Rattle.aos_parse_expr.specs.Symbols as e
use Rattle.aos_parse_stat.specs.Symbols as s
use Rattle.aos_parse_mod.specs.Symbols as m
use Rattle.aos_parse_mod.specs.Symbols.{Sym, Stack, Move, onward, below}

-- a move that is there does not ask what comes after it
onward_shifts : (move : Move) (xs j : Stack) (d n : ℕ) (i : Stack) (other : Step Sym) → or_else move (xs ++ j) (refuses d) ≡ shifts n i → or_else (onward move xs) j other ≡ shifts n i
onward_shifts None xs j d n i other h = absurd (cc)
onward_shifts (Some p) xs j d n i other h = ap (λ q. shifts p.0 q) (append_assoc p.1 xs j) ∙ h

pub to_sections : (d : ℕ) (c : TokenKind) (j : Stack) (n : ℕ) (i : Stack) → step m.table (m.section d ∷ (m.more_sections d ∷ j)) c ≡ shifts n i → step m.table (m.sections d ∷ j) c ≡ shifts n i
to_sections d k.CloseParen j n i h = absurd (cc)
to_sections d k.KwVar j n i h = h
to_sections d k.Ident j n i h = h
to_sections d _ j n i h = absurd (cc)

pub to_body : (d : ℕ) (c : TokenKind) (j : Stack) (n : ℕ) (i : Stack) → step m.table (m.of_stat (s.block d) ∷ j) c ≡ shifts n i → step m.table (m.body d ∷ j) c ≡ shifts n i
to_body d k.KwEnd j n i h = absurd (cc)
to_body d _ j n i h = h

pub to_decls : (local : Bool) (d : ℕ) (c : TokenKind) (j : Stack) (n : ℕ) (i : Stack) → step m.table (m.decl local d ∷ (m.decls local d ∷ j)) c ≡ shifts n i → step m.table (m.decls local d ∷ j) c ≡ shifts n i
to_decls local d c j n i h = onward_shifts (m.after_decl local d c) (m.decls local d ∷ []) j d n i (step m.table j c) h

below_onward : (move : e.Move) (xs : e.Stack) (j : Stack) (d n : ℕ) (i : Stack) (other : Step Sym) → or_else (below m.of_expr move) (m.lifted m.of_expr xs ++ j) (refuses d) ≡ shifts n i →
    or_else (below m.of_expr (e.onward move xs)) j other ≡ shifts n i
below_onward None xs j d n i other h = absurd (cc)
below_onward (Some p) xs j d n i other h = ap (λ q. shifts p.0 q) (lifted_append p.1 xs j) ∙ h
  where
    lifted_append : (xs ys : e.Stack) (j : Stack) → m.lifted m.of_expr (xs ++ ys) ++ j ≡ m.lifted m.of_expr xs ++ (m.lifted m.of_expr ys ++ j)
    lifted_append [] ys j = refl
    lifted_append (x ∷ xs) ys j = ap (λ q. m.of_expr x ∷ q) (lifted_append xs ys j)

pub to_exprs : (d : ℕ) (c : TokenKind) (j : Stack) (n : ℕ) (i : Stack) → step m.table (m.of_expr (e.expr d) ∷ (m.of_expr (e.more_exprs d) ∷ j)) c ≡ shifts n i →
    step m.table (m.of_expr (e.exprs d) ∷ j) c ≡ shifts n i
to_exprs d c j n i h = below_onward (e.after_expr d c) (e.more_exprs d ∷ []) j (d + 1) n i (refuses (d + 1)) h

pub to_lengths : (d : ℕ) (c : TokenKind) (j : Stack) (n : ℕ) (i : Stack) → step m.table (m.of_expr (e.exprs d) ∷ j) c ≡ shifts n i → step m.table (m.lengths d ∷ j) c ≡ shifts n i
to_lengths d c j n i h = by_move (m.below m.of_expr (e.after_exprs d c)) (step m.table j c) h
  where
    by_move : (move : Move) (other : Step Sym) → or_else move j (refuses (d + 1)) ≡ shifts n i → or_else move j other ≡ shifts n i
    by_move None other h = absurd (cc)
    by_move (Some p) other h = h
