-- A new object, which begins as its shape says, in the store and in the memory.
use Rattle.std.proofs.Common.{◌≡◌, List, [], ◌∷◌, ◌++◌, map, refl, sym, ap, ◌∙◌, subst}
use Rattle.std.proofs.lemmas.List.{map-append}
use Rattle.aos_base.specs.Rooted.{Made, Rooted, with_object}
use Rattle.aos_types.specs.Shape.{Shape, One, Nothing, Pair, leaves}
use Rattle.aos_types.specs.Content.{Content, flatten, first_content, Fits, EachSort}
use Rattle.aos_types.specs.World.{World, Grows, Scheme, world}
use Rattle.aos_memory_laws.specs.Shows.{Shown, AllShown, FramesShown, Shows, AreKept}
use Rattle.aos_memory_laws.proofs.Grow.{fits_grows, cells_grow, objects_grow}

module _ {S V C : Type 0} (Is : World S → S → V → Type 0) (cell : World S → V → C) (IsPlain : S → Type 0) (kept : AreKept Is cell IsPlain) where
  -- contents that have grown are shown by the same cells
  pub shown_grows : (w w' : World S) → Grows w w' → (s : Shape S) (c : Content V) (y : List C) → Shown Is cell w s c y → Shown Is cell w' s c y
  shown_grows w w' g s c y h =
      record { fits = fits_grows Is cell IsPlain kept w w' g s c h.fits; same = h.same ∙ cells_grow Is cell IsPlain kept w w' g s c h.fits }

  -- what variables and cells of each sort begin with
  module _ (first : S → V) (zero_cell : S → C) (first_is : (w : World S) (k : S) → IsPlain k → Is w k (first k)) (first_same : (w : World S) (k : S) → cell w (first k) ≡ zero_cell k) where
    pub first_fits : (w : World S) (s : Shape S) → EachSort IsPlain s → Fits (Is w) s (first_content first s)
    first_fits w (One k) p = first_is w k p
    first_fits w Nothing p = tt
    first_fits w (Pair a b) p = (first_fits w a p.0, first_fits w b p.1)

    pub first_cells : (w : World S) (s : Shape S) → map (cell w) (flatten (first_content first s)) ≡ map zero_cell (leaves s)
    first_cells w (One k) = ap (λ c. c ∷ []) (first_same w k)
    first_cells w Nothing = refl
    first_cells w (Pair a b) =
        map-append (cell w) (flatten (first_content first a)) (flatten (first_content first b))
        ∙ (λ i. first_cells w a i ++ first_cells w b i)
        ∙ sym (map-append zero_cell (leaves a) (leaves b))

    all_grow : (w w' : World S) → Grows w w' → (ss : List (Shape S)) (cs : List (Content V)) (ys : List (List C)) → AllShown Is cell w ss cs ys → AllShown Is cell w' ss cs ys
    all_grow w w' g [] [] [] h = tt
    all_grow w w' g [] [] (y ∷ ys) h = absurd h
    all_grow w w' g [] (c ∷ cs) ys h = absurd h
    all_grow w w' g (s ∷ ss) [] ys h = absurd h
    all_grow w w' g (s ∷ ss) (c ∷ cs) [] h = absurd h
    all_grow w w' g (s ∷ ss) (c ∷ cs) (y ∷ ys) h = (shown_grows w w' g s c y h.0, all_grow w w' g ss cs ys h.1)

    all_more : (w : World S) (s : Shape S) (c : Content V) (y : List C) → Shown Is cell w s c y → (ss : List (Shape S)) (cs : List (Content V)) (ys : List (List C)) → AllShown Is cell w ss cs ys → AllShown Is cell w (ss ++ s ∷ []) (cs ++ c ∷ []) (ys ++ y ∷ [])
    all_more w s c y k [] [] [] h = (k, tt)
    all_more w s c y k [] [] (z ∷ ys) h = absurd h
    all_more w s c y k [] (b ∷ cs) ys h = absurd h
    all_more w s c y k (t ∷ ss) [] ys h = absurd h
    all_more w s c y k (t ∷ ss) (b ∷ cs) [] h = absurd h
    all_more w s c y k (t ∷ ss) (b ∷ cs) (z ∷ ys) h = (h.0, all_more w s c y k ss cs ys h.1)

    module _ (scheme : Scheme S) where
      -- the frames of any activity, as objects are made
      pub frames_shown_grow : (made more : List Made) (ss : List (Shape S)) (cs : List (Content V)) (ys : List (List C)) → FramesShown Is cell scheme made ss cs ys → FramesShown Is cell scheme (made ++ more) ss cs ys
      frames_shown_grow made more [] [] [] h = tt
      frames_shown_grow made more [] [] (y ∷ ys) h = absurd h
      frames_shown_grow made more [] (c ∷ cs) ys h = absurd h
      frames_shown_grow made more (s ∷ ss) [] ys h = absurd h
      frames_shown_grow made more (s ∷ ss) (c ∷ cs) [] h = absurd h
      frames_shown_grow made more (s ∷ ss) (c ∷ cs) (y ∷ ys) h =
          (shown_grows (world scheme made (s ∷ ss)) (world scheme (made ++ more) (s ∷ ss)) (objects_grow scheme made more (s ∷ ss)) s c y h.0, frames_shown_grow made more ss cs ys h.1)

      pub made_alike : (made : List Made) (frames : List (Shape S)) (m : Made) (x : Rooted (Content V)) (y : Rooted (List C)) → EachSort IsPlain (scheme.made m) → Shows Is cell scheme made frames x y → Shows Is cell scheme (made ++ m ∷ []) frames (with_object (first_content first (scheme.made m)) x) (with_object (map zero_cell (leaves (scheme.made m))) y)
      made_alike made frames m x y plain h =
          let w' = world scheme (made ++ m ∷ []) [] in
          let g = objects_grow scheme made (m ∷ []) [] in
          record {
            of_frames = frames_shown_grow made (m ∷ []) frames x.frames y.frames h.of_frames;
            of_modules = all_grow (world scheme made []) w' g scheme.modules x.modules y.modules h.of_modules;
            of_objects = subst (λ ss. AllShown Is cell w' ss (x.objects ++ first_content first (scheme.made m) ∷ []) (y.objects ++ map zero_cell (leaves (scheme.made m)) ∷ [])) (sym (map-append scheme.made made (m ∷ [])))
                (all_more w' (scheme.made m) (first_content first (scheme.made m)) (map zero_cell (leaves (scheme.made m)))
                (record { fits = first_fits w' (scheme.made m) plain; same = sym (first_cells w' (scheme.made m)) })
                (map scheme.made made) x.objects y.objects
                (all_grow (world scheme made []) w' g (map scheme.made made) x.objects y.objects h.of_objects));
          }
