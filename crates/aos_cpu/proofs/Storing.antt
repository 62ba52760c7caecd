-- Cells that are stored one after the other below a root.
use Rattle.std.proofs.Common.{◌≡◌, ℕ, suc, ◌+◌, ◌<◌, List, [], ◌∷◌, length, get_or, take, inl, inr, sym, ap, ◌∙◌, subst, arith}
use Rattle.std.specs.Prelude.{Some, slice_get, Bool, true, nat_lt, is_some, if◌then◌else◌}
use Rattle.std.specs.Option.{option_map, option_and_then}
use Rattle.std.proofs.lemmas.List.{length-take-le, take_more}
use Rattle.std.proofs.lemmas.Bool.Decides.{leb_tells}
use Rattle.aos_base.specs.declared.root.Root.{Root}
use Rattle.aos_base.specs.Rooted.{at_root, load, spliced}
use Rattle.aos_code.specs.declared.instr.Cell.{Cell}
use Rattle.aos_code.specs.Memory.{Memory}
use Rattle.aos_code.specs.Machine.{Frame, rooted, frames_with, memory_with}
use Rattle.aos_store.specs.Store.{has_all}
use Rattle.aos_store.proofs.Lists.{there_is}
use Rattle.aos_store.proofs.Roots.{there_are, same_root, length_spliced, frames_twice, memory_twice, spliced_more}

-- one more
pub stored_more : (fs fs1 fs2 : List Frame) (mem mem1 mem2 : Memory) (to : Root) (t i : ℕ) (vs : List Cell) (d : Cell) (b : Bool) → i < length vs → has_all (length vs) t (at_root to (rooted fs mem)) ≡ true →
    fs1 ≡ frames_with to (spliced t (take i vs)) fs → mem1 ≡ memory_with to (spliced t (take i vs)) mem → b ≡ is_some (load to (t + i) (rooted fs1 mem1)) →
    fs2 ≡ (if b then frames_with to (spliced (t + i) (get_or vs i d ∷ [])) fs1 else fs1) → mem2 ≡ (if b then memory_with to (spliced (t + i) (get_or vs i d ∷ [])) mem1 else mem1) →
    (fs2 ≡ frames_with to (spliced t (take (i + 1) vs)) fs) × (mem2 ≡ memory_with to (spliced t (take (i + 1) vs)) mem)
stored_more fs fs1 fs2 mem mem1 mem2 to t i vs d b lt ht e1 e2 there f2 m2 =
    let r = there_are (length vs) t (at_root to (rooted fs mem)) ht in
    let ys = r.0 in
    let v = get_or vs i d in
    let g = spliced t (take i vs) in
    let len : length (take i vs) ≡ i = length-take-le i vs (omega (arith, lt)) in
    let room : t + i < length ys = omega (arith, lt, r.2) in
    let x1 : rooted fs1 mem1 ≡ rooted (frames_with to g fs) (memory_with to g mem) = (λ j. rooted (e1 j) (e2 j)) in
    let target : at_root to (rooted fs1 mem1) ≡ Some (g ys) = ap (at_root to) x1 ∙ same_root fs mem to g ∙ ap (option_map g) r.1 in
    let same : length (g ys) ≡ length ys = length_spliced t (take i vs) ys (omega (arith, room, len)) in
    let within : nat_lt (t + i) (length (g ys)) ≡ true = elim (leb_tells (suc (t + i)) (length (g ys))) [ inl p ↦ p.0 | inr p ↦ absurd (omega (arith, p.1, same, room)) ] in
    let is : b ≡ true = there ∙ ap (λ o. is_some (option_and_then (λ cells. slice_get cells (t + i)) o)) target ∙ sym (there_is (g ys) (t + i)) ∙ within in
    let joined : (zs : List Cell) → at_root to (rooted fs mem) ≡ Some zs → spliced (t + i) (v ∷ []) (g zs) ≡ spliced t (take (i + 1) vs) zs =
    λ zs p.
    let q : Some ys ≡ Some zs = sym r.1 ∙ p in
    let z : ys ≡ zs = cc q in
    spliced_more t i (take i vs) v zs len (subst (λ ws. t + i < length ws) z room) ∙ ap (λ ws. spliced t ws zs) (sym (take_more vs i d lt)) in (
      f2 ∙ ap (λ c. if c then frames_with to (spliced (t + i) (v ∷ [])) fs1 else fs1) is ∙ ap (frames_with to (spliced (t + i) (v ∷ []))) e1 ∙ frames_twice fs mem to (spliced (t + i) (v ∷ [])) g (spliced t (take (i + 1) vs)) joined,
      m2 ∙ ap (λ c. if c then memory_with to (spliced (t + i) (v ∷ [])) mem1 else mem1) is ∙ ap (memory_with to (spliced (t + i) (v ∷ []))) e2 ∙ memory_twice fs mem to (spliced (t + i) (v ∷ [])) g (spliced t (take (i + 1) vs)) joined,
    )
