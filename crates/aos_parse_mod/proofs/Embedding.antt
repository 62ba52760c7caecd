-- The grammars below stand in that of modules.
use Rattle.std.proofs.Common.{◌≡◌, ℕ, ◌<◌, ◌++◌, List, [], ◌∷◌, Option, Some, None, refl, sym, ap, ◌∙◌, subst, arith}
use Rattle.aos_scan.specs.declared.token.Token.{Token}
use Rattle.aos_scan.specs.declared.token.TokenKind.{TokenKind}
use Rattle.aos_scan.specs.declared.token.TokenKind.TheVariants as k
use Rattle.aos_tree.specs.declared.stat.Block.{Block}
use Rattle.aos_tree.specs.Nesting.{Rule}
use Rattle.aos_tree.specs.StatGrammar as blocks
use Rattle.aos_tree.specs.StatGrammar.{IsBlock}
use Rattle.aos_tree.specs.Words as g
use Rattle.aos_parse_expr.specs.Symbols as e
use Rattle.aos_parse_expr.proofs.Compose.{Embeds, lift, lift_move}
use Rattle.aos_parse_expr.proofs.Walk.{AllLeft, Walk}
use Rattle.aos_parse_stat.specs.Symbols as s
use Rattle.aos_parse_stat.proofs.Embedding as lift
use Rattle.aos_parse_stat.proofs.StatAnswer as sa
use Rattle.aos_parse_stat.proofs.StatWalk as sw
use Rattle.aos_parse_mod.specs.Symbols as m
use Rattle.aos_parse_mod.specs.Symbols.{Sym, below, lifted}
use Rattle.aos_parse_mod.proofs.Chains.{Firm, Firmly}
use Rattle.aos_parse_mod.proofs.Joins.{joins}

pub lift_is : {S : Type 0} (f : S → Sym) (xs : List S) → lifted f xs ≡ lift f xs
lift_is f [] = refl
lift_is f (x ∷ xs) = ap (λ q. f x ∷ q) (lift_is f xs)

move_is : {S : Type 0} (f : S → Sym) (move : Option (ℕ × List S)) → below f move ≡ lift_move f move
move_is f None = refl
move_is f (Some p) = ap (λ q. Some (p.0, q)) (lift_is f p.1)

pub with_exprs : Embeds e.table m.table m.of_expr
with_exprs = record { after_is = λ x c. move_is m.of_expr (e.after x c); needs_is = λ x. refl }

pub with_stats : Embeds s.table m.table m.of_stat
with_stats = record { after_is = λ x c. move_is m.of_stat (s.table.after x c); needs_is = λ x. refl }

past_block : (c : TokenKind) → 3 < joins c → 1 < sw.joins c
past_block k.Period h = absurd (omega arith)
past_block k.OpenBracket h = absurd (omega arith)
past_block k.Caret h = absurd (omega arith)
past_block k.OpenParen h = absurd (omega arith)
past_block _ h = omega arith

-- a block begins with its first word, and leaves nothing that goes on with more than a name
pub walk_block : {d : ℕ} {a : Block} {ts rest : List Token} (may : Rule) → IsBlock may d a ts rest → Firm may 3 7 (m.of_stat (s.block d) ∷ []) ts rest
walk_block {d} {a} {ts} {rest} may h =
    let r = sa.walk_block d may a ts rest h in
    record { reads = lift.reads_up s.table m.table m.of_stat with_stats sw.joins joins may 1 3 (s.block d ∷ []) ts rest past_block r; firm = first r.front (begins h) r.whole r.tails (r.walk []) r.left }
  where
    begins : {d : ℕ} {a : Block} {ts rest : List Token} → IsBlock may d a ts rest → (t : Token) × (us : List Token) × (ts ≡ t ∷ us) × (t.kind ≡ k.KwBegin)
    begins (blocks.unmodified (g.word {t = t} {ts = us} is fits) body end) = (t, us, refl, is)
    begins (blocks.modified (g.word {t = t} {ts = us} is fits) brace all body end) = (t, us, refl, is)

    first : (front : List Token) → ((t : Token) × (us : List Token) × (ts ≡ t ∷ us) × (t.kind ≡ k.KwBegin)) → ts ≡ front ++ rest → (tails : List s.Sym) → Walk s.table may front rest (s.block d ∷ []) (tails ++ []) → AllLeft s.table tails → Firmly 7 front
    first [] b whole [] v left = absurd (cc)
    first [] b whole (x ∷ xs) v left = let at : x ≡ s.block d = cc in let need : s.needs (s.block d) ≡ None = ap s.needs (sym at) ∙ left.0 in absurd (cc)
    first (t ∷ us) b whole tails v left = let at : t ≡ b.0 = cc in subst (λ q. 7 < joins q) (sym (ap (λ q. q.kind) at ∙ b.3)) (omega arith)
