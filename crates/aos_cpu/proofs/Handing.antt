-- What the parameters of a call get, one after the other.
use Rattle.std.proofs.Common.{◌≡◌, inl, inr, ℕ, zero, suc, ◌+◌, ◌-◌, ◌*◌, ◌<◌, ◌≤◌, ◌^◌, List, [], ◌∷◌, ◌++◌, length, take, drop, get_or, replicate, reverse, pos, Vec, Global, refl, sym, ap, ◌∙◌, arith}
use Rattle.std.specs.Prelude.{Option, Some, None, true, false, nat_lt, if◌then◌else◌}
use Rattle.std.specs.Option.{option_map, option_and_then}
use Rattle.std.proofs.lemmas.List.{drop_more, drop_all, length-append, length-replicate}
use Rattle.std.proofs.Math.Seq.{take-append_seam, drop-append_seam}
use Rattle.std.proofs.lemmas.Bool.Decides.{leb_tells}
use Rattle.aos_base.specs.declared.root.Root.TheVariants.{Frame as FrameRoot}
use Rattle.aos_base.specs.Rooted.{Rooted}
use Rattle.aos_code.specs.declared.instr.Cell.{Cell}
use Rattle.aos_code.specs.declared.instr.Cell.TheVariants.{Num, Place}
use Rattle.aos_code.specs.declared.image.ParamKind.{ParamKind}
use Rattle.aos_code.specs.declared.image.ParamKind.TheVariants as param
use Rattle.aos_code.specs.Silent.{cells_of}
use Rattle.aos_code.specs.Machine.{Frame, Handed, hand, handed, copied_open, whole_at, length_in, lengths_in}
use Rattle.aos_store.specs.Store.{frame_in}
use Rattle.aos_store.proofs.Lists.{zeros}
use Rattle.aos_cpu.specs.Calls.{Gift, plain, copied, open_gift, gift_of, gifts, all_copied, all_cells, called, sized}

-- Sizes of arrays.

pub no_length : (vs : List Cell) (j : ℕ) (d : Cell) → j < length vs → None ≡ length_in [] (get_or vs j d) → lengths_in [] vs ≡ None
no_length [] j d lt e = absurd (omega (arith, lt))
no_length (v ∷ vs) zero d lt e = ap (option_and_then (λ n. option_map (λ ns. n ∷ ns) (lengths_in [] vs))) (sym e)
no_length (v ∷ vs) (suc j) d lt e = ap (λ o. option_and_then (λ n. option_map (λ ns. n ∷ ns) o) (length_in [] v)) (no_length vs j d (omega (arith, lt)) e) ∙ none (length_in [] v)
  where
    none : (o : Option ℕ) → option_and_then (λ (n : ℕ). option_map (λ (ns : List ℕ). n ∷ ns) None) o ≡ None
    none None = refl
    none (Some n) = refl

abbrev in_64 : ℕ → Option ℕ
in_64 n = if nat_lt n (2 ^ 64) then Some n else None

sized_with : (k n : ℕ) (o : Option (List ℕ)) (size result : Option ℕ) → sized k o ≡ Some size → ((m : ℕ) → size ≡ in_64 m → result ≡ in_64 (n * m)) → sized k (option_map (λ ns. n ∷ ns) o) ≡ Some result
sized_with k n None size result e f = absurd (cc e)
sized_with k n (Some ns) size result e f = let s : size ≡ in_64 (cells_of ns k) = cc e in ap Some (sym (f (cells_of ns k) s))

-- a length more
pub sized_more : (k : ℕ) (vs : List Cell) (i n : ℕ) (d : Cell) (size result : Option ℕ) → i < length vs → sized k (lengths_in [] (drop (length vs - i) vs)) ≡ Some size → Some n ≡ length_in [] (get_or vs (length vs - 1 - i) d) →
    ((m : ℕ) → size ≡ in_64 m → result ≡ in_64 (n * m)) → sized k (lengths_in [] (drop (length vs - (i + 1)) vs)) ≡ Some result
sized_more k vs i n d size result lt e is f =
    let j = length vs - 1 - i in
    let here : length vs - (i + 1) ≡ j = omega arith in
    let past : j + 1 ≡ length vs - i = omega (arith, lt) in
    ap (λ m. sized k (lengths_in [] (drop m vs))) here ∙ ap (λ ws. sized k (lengths_in [] ws)) (drop_more vs j d (omega (arith, lt)) ∙ ap (λ m. get_or vs j d ∷ drop m vs) past)
    ∙ ap (λ o. sized k (option_and_then (λ n. option_map (λ ns. n ∷ ns) (lengths_in [] (drop (length vs - i) vs))) o)) (sym is)
    ∙ sized_with k n (lengths_in [] (drop (length vs - i) vs)) size result e f

pub sized_first : (k : ℕ) (vs : List Cell) → k < 2 ^ 64 → sized k (lengths_in [] (drop (length vs - 0) vs)) ≡ Some (Some k)
sized_first k vs lt =
    let all : length vs ≤ length vs - 0 = omega arith in
    ap (λ ws. sized k (lengths_in [] ws)) (drop_all (length vs - 0) vs all) ∙ ap (λ b. Some (if b then Some k else None)) within
  where
    within : nat_lt k (2 ^ 64) ≡ true
    within = elim (leb_tells (suc k) (2 ^ 64)) [ inl p ↦ p.0 | inr p ↦ absurd (omega (arith, p.1, lt)) ]

-- One parameter after the other.

module _ {A : Type 0} (x : Rooted (List Cell)) (ps : List ParamKind) (i : ℕ) (d : ParamKind) (vs : List Cell) (whole : Option A) (f : List Gift → A) where
  here_is : i < length ps → whole ≡ option_map f (gifts x (drop i ps) vs) → whole ≡ option_map f (gifts x (get_or ps i d ∷ drop (i + 1) ps) vs)
  here_is lt e = e ∙ ap (λ qs. option_map f (gifts x qs vs)) (drop_more ps i d lt)

  -- past one of them
  pub gifts_more : (g : Gift) (h : List Gift → A) → i < length ps → whole ≡ option_map f (gifts x (drop i ps) vs) → Some g ≡ gift_of x (get_or ps i d) vs → ((gs : List Gift) → f (g ∷ gs) ≡ h gs) →
      whole ≡ option_map h (gifts x (drop (i + 1) ps) (drop g.taken vs))
  gifts_more g h lt e is same =
      here_is lt e ∙ ap (λ o. option_map f (option_and_then (λ g. option_map (λ gs. g ∷ gs) (gifts x (drop (i + 1) ps) (drop g.taken vs))) o)) (sym is)
      ∙ past (gifts x (drop (i + 1) ps) (drop g.taken vs))
    where
      past : (o : Option (List Gift)) → option_map f (option_map (λ gs. g ∷ gs) o) ≡ option_map h o
      past None = refl
      past (Some gs) = ap Some (same gs)

  -- past all of them
  pub gifts_all : length ps ≤ i → whole ≡ option_map f (gifts x (drop i ps) vs) → whole ≡ Some (f [])
  gifts_all le e = e ∙ ap (λ qs. option_map f (gifts x qs vs)) (drop_all i ps le)

-- The frame of a call.

pub frame_called : (p o counted keeps : ℕ) (own : List Cell) (cells operands : Vec Cell Global) → cells.items ≡ own ++ replicate keeps (Num (pos 0)) → operands.items ≡ [] →
    frame_in (record { procedure = p; object = o; next = 0; at = None; is_open = false; cells = cells; keeps = keeps; counted = counted; operands = operands }) ≡ called p o counted own
frame_called p o counted keeps own cells operands e r =
    let back = replicate keeps (Num (pos 0)) in
    let long : length (own ++ back) - keeps ≡ length own = omega (arith, length-append own back, length-replicate keeps (Num (pos 0))) in
    let front : take (length cells.items - keeps) cells.items ≡ own = ap (λ xs. take (length xs - keeps) xs) e ∙ ap (λ n. take n (own ++ back)) long ∙ take-append_seam own back in
    let kept : drop (length cells.items - keeps) cells.items ≡ back = ap (λ xs. drop (length xs - keeps) xs) e ∙ ap (λ n. drop n (own ++ back)) long ∙ drop-append_seam own back in
    λ i.
    let f : Frame =
    record {
      procedure = p;
      object = o;
      next = 0;
      at = None;
      is_open = false;
      cells = front i;
      counted = counted;
      keeps = λ c. (ap (λ ys. get_or ys c (Num (pos 0))) kept ∙ zeros keeps c (Num (pos 0))) i;
      stack = ap reverse r i;
    } in
    f

-- what is handed over for parameters is what they get
module _ (following : List ℕ) (here : ℕ) (x : Rooted (List Cell)) where
  abbrev pub put_as : ℕ → List Gift → Handed following
  put_as at gs = record { cells = all_cells here at gs; copies = all_copied gs }

  -- cells, and nothing copied
  put_plain : (vs : List Cell) (n at : ℕ) (o : Option (List Gift)) → option_map (hand following vs []) (option_map (put_as at) o) ≡ option_map (put_as at) (option_map (λ gs. plain vs n ∷ gs) o)
  put_plain vs n at None = refl
  put_plain vs n at (Some gs) = let z : at ≡ at + 0 = omega arith in (λ i. Some (let h : Handed following = record { cells = vs ++ all_cells here (z i) gs; copies = all_copied gs } in h))

  put_own : (lengths cells : List Cell) (n at : ℕ) (o : Option (List Gift)) →
      option_map (hand following (Place (FrameRoot here) at 0 ∷ lengths) cells) (option_map (put_as (at + length cells)) o) ≡ option_map (put_as at) (option_map (λ gs. copied lengths n cells ∷ gs) o)
  put_own lengths cells n at None = refl
  put_own lengths cells n at (Some gs) = refl

  pub handed_gifts : (ps : List ParamKind) (vs : List Cell) (at : ℕ) → handed following here x ps vs at ≡ option_map (put_as at) (gifts x ps vs)
  handed_gifts [] vs at = refl
  handed_gifts (p ∷ ps) [] at = refl
  handed_gifts (param.Scalar kind ∷ ps) (v ∷ vs) at = ap (option_map (hand following (v ∷ []) [])) (handed_gifts ps vs at) ∙ put_plain (v ∷ []) 1 at (gifts x ps vs)
  handed_gifts (param.Whole n ∷ ps) (v ∷ vs) at = by (whole_at [] n v x) (handed_gifts ps vs at)
    where
      by : (o : Option (List Cell)) → (handed following here x ps vs at ≡ option_map (put_as at) (gifts x ps vs)) → option_and_then (λ cells. option_map (hand following cells []) (handed following here x ps vs at)) o ≡
          option_map (put_as at) (option_and_then (λ g. option_map (λ gs. g ∷ gs) (gifts x ps (drop g.taken (v ∷ vs)))) (option_map (λ cells. plain cells 1) o))
      by None ih = refl
      by (Some cells) ih = ap (option_map (hand following cells [])) ih ∙ put_plain cells 1 at (gifts x ps vs)
  handed_gifts (param.Place ∷ ps) (v ∷ vs) at = ap (option_map (hand following (v ∷ []) [])) (handed_gifts ps vs at) ∙ put_plain (v ∷ []) 1 at (gifts x ps vs)
  handed_gifts (param.Open d false n ∷ ps) (v ∷ vs) at = by (lengths_in [] (take d vs)) (handed_gifts ps (drop d vs) at)
    where
      by : (o : Option (List ℕ)) → (handed following here x ps (drop d vs) at ≡ option_map (put_as at) (gifts x ps (drop d vs))) → option_and_then (λ ns. option_map (hand following (v ∷ take d vs) []) (handed following here x ps (drop d vs) at)) o ≡
          option_map (put_as at) (option_and_then (λ g. option_map (λ gs. g ∷ gs) (gifts x ps (drop g.taken (v ∷ vs)))) (option_and_then (open_gift x d false n v (take d vs)) o))
      by None ih = refl
      by (Some ns) ih = ap (option_map (hand following (v ∷ take d vs) [])) ih ∙ put_plain (v ∷ take d vs) (suc d) at (gifts x ps (drop d vs))
  handed_gifts (param.Open d true n ∷ ps) (v ∷ vs) at = by (lengths_in [] (take d vs)) (λ n. handed_gifts ps (drop d vs) (at + n))
    where
      whole : (o : Option (List Cell)) → ((n : ℕ) → handed following here x ps (drop d vs) (at + n) ≡ option_map (put_as (at + n)) (gifts x ps (drop d vs))) → copied_open following here x at (take d vs) o (λ at'. handed following here x ps (drop d vs) at') ≡
          option_map (put_as at) (option_and_then (λ g. option_map (λ gs. g ∷ gs) (gifts x ps (drop g.taken (v ∷ vs)))) (option_map (copied (take d vs) (suc d)) o))
      whole None ih = refl
      whole (Some cells) ih =
          ap (option_map (hand following (Place (FrameRoot here) at 0 ∷ take d vs) cells)) (ih (length cells)) ∙ put_own (take d vs) cells (suc d) at (gifts x ps (drop d vs))

      by : (o : Option (List ℕ)) → ((n : ℕ) → handed following here x ps (drop d vs) (at + n) ≡ option_map (put_as (at + n)) (gifts x ps (drop d vs))) → option_and_then (λ ns. copied_open following here x at (take d vs) (whole_at [] (cells_of ns n) v x) (λ at'. handed following here x ps (drop d vs) at')) o ≡
          option_map (put_as at) (option_and_then (λ g. option_map (λ gs. g ∷ gs) (gifts x ps (drop g.taken (v ∷ vs)))) (option_and_then (open_gift x d true n v (take d vs)) o))
      by None ih = refl
      by (Some ns) ih = whole (whole_at [] (cells_of ns n) v x) ih
