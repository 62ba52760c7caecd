-- What a call copies from a place, the first parts of what stands there; and rows, whose first part and rest are shown.
use Rattle.std.proofs.Common.{◌≡◌, ℕ, ◌+◌, List, ◌++◌, length, map, take, Some, refl, sym, ap, ◌∙◌, arith}
use Rattle.std.proofs.Math.Seq.{take-append-add}
use Rattle.std.proofs.lemmas.List.{map-append, length-map, take_all}
use Rattle.aos_base.specs.declared.root.Root.{Root}
use Rattle.aos_base.specs.Rooted.{Made, Rooted, load_all}
use Rattle.aos_types.specs.Shape.{Shape, One, Nothing, Pair, size, join}
use Rattle.aos_types.specs.Content.{Content, Scalar, Empty, Row, flatten, cut, Fits}
use Rattle.aos_types.specs.World.{World, Grows, shape_at, cell_at, Scheme, world, read}
use Rattle.aos_memory_laws.specs.Shows.{Shown, Shows, AreKept}
use Rattle.aos_memory_laws.proofs.Zoom.{as_many}
use Rattle.aos_memory_laws.proofs.Grow.{fits_grows, cells_grow}
use Rattle.aos_memory_laws.proofs.Places.{size_join, loads_alike}

module _ {S V C : Type 0} (Is : World S → S → V → Type 0) (cell : World S → V → C) where
  pub shown_pair : (w : World S) (s m : Shape S) (c d : Content V) (y z : List C) → Shown Is cell w s c y → Shown Is cell w m d z → Shown Is cell w (Pair s m) (Row c d) (y ++ z)
  shown_pair w s m c d y z h k =
      record { fits = (h.fits, k.fits); same = (λ j. h.same j ++ k.same j) ∙ sym (map-append (cell w) (flatten c) (flatten d)) }

  -- what is shown has as many cells as its shape
  pub shown_long : (w : World S) (s : Shape S) (c : Content V) (y : List C) → Shown Is cell w s c y → length y ≡ size s
  shown_long w s c y h = ap length h.same ∙ length-map (flatten c) (cell w) ∙ as_many (Is w) s c h.fits

-- the parts with which contents of a longer row begin
module _ {S V C : Type 0} (Is : S → V → Type 0) (cell : V → C) where
  rest_ends : (a b : Shape S) → join (Pair a b) Nothing ≡ Pair a b → join b Nothing ≡ b
  rest_ends a b e = cc

  pub cut_fits : (s more : Shape S) (c : Content V) → join s Nothing ≡ s → Fits Is (join s more) c → Fits Is s (cut s c)
  cut_fits (One k) more c e h = absurd (cc)
  cut_fits Nothing more c e h = tt
  cut_fits (Pair a b) more (Scalar v) e h = absurd h
  cut_fits (Pair a b) more Empty e h = absurd h
  cut_fits (Pair a b) more (Row f fs) e h = (h.0, cut_fits b more fs (rest_ends a b e) h.1)

  pub cut_flat : (s more : Shape S) (c : Content V) → join s Nothing ≡ s → Fits Is (join s more) c → map cell (flatten (cut s c)) ≡ take (size s) (map cell (flatten c))
  cut_flat (One k) more c e h = absurd (cc)
  cut_flat Nothing more c e h = refl
  cut_flat (Pair a b) more (Scalar v) e h = absurd h
  cut_flat (Pair a b) more Empty e h = absurd h
  cut_flat (Pair a b) more (Row f fs) e h =
      let first = map cell (flatten f) in
      let long : length first ≡ size a = length-map (flatten f) cell ∙ as_many Is a f h.0 in
      map-append cell (flatten f) (flatten (cut b fs))
      ∙ ap (λ l. first ++ l) (cut_flat b more fs (rest_ends a b e) h.1)
      ∙ sym (take-append-add first (map cell (flatten fs)) (size b))
      ∙ (λ i. take (long i + size b) (sym (map-append cell (flatten f) (flatten fs)) i))

module _ {S V C : Type 0} (Is : World S → S → V → Type 0) (cell : World S → V → C) (IsPlain : S → Type 0) (kept : AreKept Is cell IsPlain) (scheme : Scheme S) (made : List Made) (frames : List (Shape S)) (x : Rooted (Content V)) (y : Rooted (List C)) where
  abbrev here : World S
  here = world scheme made frames

  -- what stands at a place is found by both, and the one shows the other, also where the world has grown
  pub record WholeAlike (w : World S) (r : Root) (p : List ℕ) (s : Shape S) : Type 0 where
    pub inner : Content V
    pub cells : List C
    pub source : read r p x ≡ Some inner
    pub image : load_all (size s) r (cell_at here r p) y ≡ Some cells
    pub shown : Shown Is cell w s inner cells

  pub whole_alike : (w : World S) → Grows here w → (r : Root) (p : List ℕ) (s : Shape S) → Shows Is cell scheme made frames x y → shape_at here r p ≡ Some s → WholeAlike w r p s
  whole_alike w up r p s h e =
      let a = loads_alike Is cell IsPlain kept scheme made frames x y (size s) s r p h e (omega arith) in
      let cells = map (cell here) (flatten a.inner) in
      record {
        inner = a.inner;
        cells = cells;
        source = a.source;
        image = a.image ∙ ap (λ l. Some l) (take_all (size s) cells (omega (arith, a.long)));
        shown = record {
          fits = fits_grows Is cell IsPlain kept here w up s a.inner a.fits;
          same = cells_grow Is cell IsPlain kept here w up s a.inner a.fits;
        };
      }

  -- and so are the parts of a shape with which it begins
  pub record FirstAlike (w : World S) (r : Root) (p : List ℕ) (s : Shape S) : Type 0 where
    pub inner : Content V
    pub cells : List C
    pub source : read r p x ≡ Some inner
    pub image : load_all (size s) r (cell_at here r p) y ≡ Some cells
    pub shown : Shown Is cell w s (cut s inner) cells

  pub first_alike : (w : World S) → Grows here w → (r : Root) (p : List ℕ) (s more : Shape S) → join s Nothing ≡ s → Shows Is cell scheme made frames x y → shape_at here r p ≡ Some (join s more) → FirstAlike w r p s
  first_alike w up r p s more ends h e =
      let a = loads_alike Is cell IsPlain kept scheme made frames x y (size s) (join s more) r p h e (size_join s more) in
      let c = cut s a.inner in
      let fits = cut_fits (Is here) (cell here) s more a.inner ends a.fits in
      record {
        inner = a.inner;
        cells = map (cell here) (flatten c);
        source = a.source;
        image = a.image ∙ ap (λ l. Some l) (sym (cut_flat (Is here) (cell here) s more a.inner ends a.fits));
        shown = record {
          fits = fits_grows Is cell IsPlain kept here w up s c fits;
          same = cells_grow Is cell IsPlain kept here w up s c fits;
        };
      }
