-- Operands of several kinds, the topmost first.
use Rattle.std.proofs.Common.{◌≡◌, ℕ, zero, suc, ◌+◌, List, [], ◌∷◌, ◌++◌, take, drop, reverse, replicate, refl, sym, ap, ◌∙◌, append_assoc}
use Rattle.std.specs.Prelude.{Some, None, slice_get}
use Rattle.std.proofs.lemmas.List.{append-nil, reverse-append, drop_more, take_more}
use Rattle.std.proofs.lemmas.Option.{slice_get_within, get_or_from_slice_get}
use Rattle.aos_code.specs.declared.instr.Cell.{Cell}
use Rattle.aos_code.specs.declared.instr.Kind.{Kind}
use Rattle.aos_code.specs.declared.instr.Kind.TheVariants.{N, A}
use Rattle.aos_code.specs.declared.image.ParamKind.{ParamKind}
use Rattle.aos_code.specs.declared.image.ParamKind.TheVariants as param
use Rattle.aos_code.specs.Silent.{Stack, Act, Stops, lost, if_of, on_kinds, kinds_of}
use Rattle.aos_silent_steps.specs.Taken.{kinds_from}

-- the operand at a place, and those behind it
pub at_and_behind : {X : Type 0} (xs : List X) (i : ℕ) (x : X) → slice_get xs i ≡ Some x → drop i xs ≡ x ∷ drop (i + 1) xs
at_and_behind xs i x e = drop_more xs i x (slice_get_within xs i x e) ∙ ap (λ y. y ∷ drop (i + 1) xs) (get_or_from_slice_get xs i x x e)

pub up_to : {X : Type 0} (xs : List X) (i : ℕ) (x : X) → slice_get xs i ≡ Some x → take (i + 1) xs ≡ take i xs ++ x ∷ []
up_to xs i x e = take_more xs i x (slice_get_within xs i x e) ∙ ap (λ y. take i xs ++ y ∷ []) (get_or_from_slice_get xs i x x e)

pub nothing_behind : {X : Type 0} (xs : List X) (i : ℕ) → slice_get xs i ≡ None → drop i xs ≡ []
nothing_behind [] zero e = refl
nothing_behind [] (suc i) e = refl
nothing_behind (x ∷ xs) zero e = absurd (cc e)
nothing_behind (x ∷ xs) (suc i) e = nothing_behind xs i e

pub no_kind : (kind : Kind) (kinds : List Kind) (depth : ℕ) (k : List Cell → Stack → Act) (s : Stack) → None ≡ slice_get s depth → kinds_from (kind ∷ kinds) depth k s ≡ Stops lost
no_kind kind kinds depth k s e = ap (λ t. on_kinds (kind ∷ kinds) (reverse (take depth s)) k t) (nothing_behind s depth (sym e))

pub next_kind : (kind : Kind) (kinds : List Kind) (depth : ℕ) (k : List Cell → Stack → Act) (s : Stack) (v : Cell) → Some v ≡ slice_get s depth → kinds_from (kind ∷ kinds) depth k s ≡ if_of kind v (kinds_from kinds (depth + 1) k s)
next_kind kind kinds depth k s v e =
    let taken : reverse (take (depth + 1) s) ≡ v ∷ reverse (take depth s) = ap reverse (up_to s depth v (sym e)) ∙ reverse-append (take depth s) (v ∷ []) in
    ap (λ t. on_kinds (kind ∷ kinds) (reverse (take depth s)) k t) (at_and_behind s depth v (sym e))
    ∙ ap (λ vs. if_of kind v (on_kinds kinds vs k (drop (depth + 1) s))) (sym taken)

pub reverse-replicate : {X : Type 0} (n : ℕ) (x : X) → reverse (replicate n x) ≡ replicate n x
reverse-replicate zero x = refl
reverse-replicate (suc n) x = reverse-append (x ∷ []) (replicate n x) ∙ ap (λ ys. ys ++ x ∷ []) (reverse-replicate n x) ∙ last n x
  where
    last : {X : Type 0} (n : ℕ) (x : X) → replicate n x ++ x ∷ [] ≡ x ∷ replicate n x
    last zero x = refl
    last (suc n) x = ap (λ ys. x ∷ ys) (last n x)

pub kinds_of-append : (ps qs : List ParamKind) → kinds_of (ps ++ qs) ≡ kinds_of ps ++ kinds_of qs
kinds_of-append [] qs = refl
kinds_of-append (param.Scalar k ∷ ps) qs = ap (λ ks. k ∷ ks) (kinds_of-append ps qs)
kinds_of-append (param.Whole n ∷ ps) qs = ap (λ ks. A ∷ ks) (kinds_of-append ps qs)
kinds_of-append (param.Place ∷ ps) qs = ap (λ ks. A ∷ ks) (kinds_of-append ps qs)
kinds_of-append (param.Open d v n ∷ ps) qs = ap (λ ks. A ∷ (replicate d N ++ ks)) (kinds_of-append ps qs) ∙ ap (λ ks. A ∷ ks) (sym (append_assoc (replicate d N) (kinds_of ps) (kinds_of qs)))

-- what lies on the stack for an open array: lengths above its place
pub open_kinds : (d : ℕ) (kinds : List Kind) → reverse (A ∷ (replicate d N ++ [])) ++ kinds ≡ replicate d N ++ (A ∷ kinds)
open_kinds d kinds =
    let e : reverse (A ∷ (replicate d N ++ [])) ≡ replicate d N ++ A ∷ [] =
    ap (λ ks. reverse (A ∷ ks)) (append-nil (replicate d N)) ∙ reverse-append (A ∷ []) (replicate d N) ∙ ap (λ ks. ks ++ A ∷ []) (reverse-replicate d N) in
    ap (λ ks. ks ++ kinds) e ∙ append_assoc (replicate d N) (A ∷ []) kinds

-- one parameter more, from the last on
pub params_more : (ps : List ParamKind) (n : ℕ) (p : ParamKind) → slice_get ps n ≡ Some p → reverse (kinds_of (take (n + 1) ps)) ≡ reverse (kinds_of (p ∷ [])) ++ reverse (kinds_of (take n ps))
params_more ps n p e = ap (λ qs. reverse (kinds_of qs)) (up_to ps n p e) ∙ ap reverse (kinds_of-append (take n ps) (p ∷ [])) ∙ reverse-append (kinds_of (take n ps)) (kinds_of (p ∷ []))
