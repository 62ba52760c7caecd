-- Below each root of a world stand contents and cells that show them, and what is changed below one root leaves the rest. The
-- only file that knows that frames, modules and objects are lists.
use Rattle.std.proofs.Common.{◌≡◌, ℕ, zero, suc, List, [], ◌∷◌, length, map, Some, refl, sym, ap, ◌∙◌, subst}
use Rattle.std.specs.Prelude.{slice_get, Bool, true, false, nat_eq, if◌then◌else◌}
use Rattle.std.proofs.lemmas.Option.{slice_get-map}
use Rattle.aos_base.specs.declared.root.Root.{Root}
use Rattle.aos_base.specs.declared.root.Root.TheVariants.{Frame, Module, Object}
use Rattle.aos_base.specs.Rooted.{Made, Rooted, from_last, change_at, change_from_last, at_root, change_root}
use Rattle.aos_types.specs.Shape.{Shape}
use Rattle.aos_types.specs.Content.{Content}
use Rattle.aos_types.specs.World.{World, Grows, Scheme, world, root_shape}
use Rattle.aos_memory_laws.specs.Shows.{Shown, AllShown, FramesShown, Shows}
use Rattle.aos_memory_laws.proofs.Grow.{grows_same, grows_twice, frame_grows, frames_grow}

module _ {S V C : Type 0} (Is : World S → S → V → Type 0) (cell : World S → V → C) where
  -- one of a row
  record AtIndex (w : World S) (ss : List (Shape S)) (cs : List (Content V)) (ys : List (List C)) (i : ℕ) (s : Shape S) : Type 0 where
    content : Content V
    cells : List C
    has_content : slice_get cs i ≡ Some content
    has_cells : slice_get ys i ≡ Some cells
    shown : Shown Is cell w s content cells
    changed : (f : Content V → Content V) (g : List C → List C) → Shown Is cell w s (f content) (g cells) → AllShown Is cell w ss (change_at i f cs) (change_at i g ys)

  at_index : (w : World S) (ss : List (Shape S)) (cs : List (Content V)) (ys : List (List C)) (i : ℕ) (s : Shape S) → AllShown Is cell w ss cs ys → slice_get ss i ≡ Some s → AtIndex w ss cs ys i s
  at_index w [] cs ys i s h e = absurd (cc)
  at_index w (z ∷ ss) [] ys i s h e = absurd h
  at_index w (z ∷ ss) (c ∷ cs) [] i s h e = absurd h
  at_index w (z ∷ ss) (c ∷ cs) (y ∷ ys) zero s h e =
      let same : z ≡ s = cc in
      record {
        content = c;
        cells = y;
        has_content = refl;
        has_cells = refl;
        shown = subst (λ k. Shown Is cell w k c y) same h.0;
        changed = λ f g k. (subst (λ x. Shown Is cell w x (f c) (g y)) (sym same) k, h.1);
      }
  at_index w (z ∷ ss) (c ∷ cs) (y ∷ ys) (suc i) s h e =
      let r = at_index w ss cs ys i s h.1 e in
      record { content = r.content; cells = r.cells; has_content = r.has_content; has_cells = r.has_cells; shown = r.shown; changed = λ f g k. (h.0, r.changed f g k) }

  module _ (scheme : Scheme S) (made : List Made) where
    -- one of the frames, in the world of those up to itself
    record AtFrame (ss : List (Shape S)) (cs : List (Content V)) (ys : List (List C)) (d : ℕ) (s : Shape S) : Type 0 where
      below : List (Shape S)
      up : Grows (world scheme made below) (world scheme made ss)
      content : Content V
      cells : List C
      has_content : from_last d cs ≡ Some content
      has_cells : from_last d ys ≡ Some cells
      shown : Shown Is cell (world scheme made below) s content cells
      changed : (f : Content V → Content V) (g : List C → List C) → Shown Is cell (world scheme made below) s (f content) (g cells) → FramesShown Is cell scheme made ss (change_from_last d f cs) (change_from_last d g ys)

    frames_long : (ss : List (Shape S)) (cs : List (Content V)) (ys : List (List C)) → FramesShown Is cell scheme made ss cs ys → (length cs ≡ length ss) × (length ys ≡ length ss)
    frames_long [] [] [] h = (refl, refl)
    frames_long [] [] (y ∷ ys) h = absurd h
    frames_long [] (c ∷ cs) ys h = absurd h
    frames_long (s ∷ ss) [] ys h = absurd h
    frames_long (s ∷ ss) (c ∷ cs) [] h = absurd h
    frames_long (s ∷ ss) (c ∷ cs) (y ∷ ys) h = let r = frames_long ss cs ys h.1 in (ap (λ n. suc n) r.0, ap (λ n. suc n) r.1)

    -- the tests of three lists of one length
    at_frame : (ss : List (Shape S)) (cs : List (Content V)) (ys : List (List C)) (d : ℕ) (s : Shape S) → FramesShown Is cell scheme made ss cs ys → from_last d ss ≡ Some s → AtFrame ss cs ys d s
    at_frame [] cs ys d s h e = absurd (cc)
    at_frame (z ∷ ss) [] ys d s h e = absurd h
    at_frame (z ∷ ss) (c ∷ cs) [] d s h e = absurd h
    at_frame (z ∷ ss) (c ∷ cs) (y ∷ ys) d s h e =
        let long = frames_long ss cs ys h.1 in
        at_test (λ e'. at_frame ss cs ys d s h.1 e') (nat_eq d (length ss)) (nat_eq d (length cs)) (nat_eq d (length ys)) refl refl refl
        (ap (nat_eq d) (sym long.0)) (ap (nat_eq d) (sym long.1)) e
      where
        at_test : (from_last d ss ≡ Some s → AtFrame ss cs ys d s) → (a b e : Bool) → nat_eq d (length ss) ≡ a → nat_eq d (length cs) ≡ b → nat_eq d (length ys) ≡ e → nat_eq d (length ss) ≡ nat_eq d (length cs) → nat_eq d (length ss) ≡ nat_eq d (length ys) → (if a then Some z else from_last d ss) ≡ Some s → AtFrame (z ∷ ss) (c ∷ cs) (y ∷ ys) d s
        at_test ih true true true qa qb qe l m e' =
            let same : z ≡ s = cc in
            record {
              below = z ∷ ss;
              up = grows_same (world scheme made (z ∷ ss));
              content = c;
              cells = y;
              has_content = ap (λ t. if t then Some c else from_last d cs) qb;
              has_cells = ap (λ t. if t then Some y else from_last d ys) qe;
              shown = subst (λ k. Shown Is cell (world scheme made (z ∷ ss)) k c y) same h.0;
              changed = λ f g k.
                  subst (λ t. FramesShown Is cell scheme made (z ∷ ss) (if t then f c ∷ cs else c ∷ change_from_last d f cs) (change_from_last d g (y ∷ ys))) (sym qb)
                  (subst (λ t. FramesShown Is cell scheme made (z ∷ ss) (f c ∷ cs) (if t then g y ∷ ys else y ∷ change_from_last d g ys)) (sym qe)
                  (subst (λ x. Shown Is cell (world scheme made (z ∷ ss)) x (f c) (g y)) (sym same) k, h.1));
            }
        at_test ih false false false qa qb qe l m e' =
            let r = ih e' in
            record {
              below = r.below;
              up = grows_twice (world scheme made r.below) (world scheme made ss) (world scheme made (z ∷ ss)) r.up (frame_grows scheme made z ss);
              content = r.content;
              cells = r.cells;
              has_content = ap (λ t. if t then Some c else from_last d cs) qb ∙ r.has_content;
              has_cells = ap (λ t. if t then Some y else from_last d ys) qe ∙ r.has_cells;
              shown = r.shown;
              changed = λ f g k.
                  subst (λ t. FramesShown Is cell scheme made (z ∷ ss) (if t then f c ∷ cs else c ∷ change_from_last d f cs) (change_from_last d g (y ∷ ys))) (sym qb)
                  (subst (λ t. FramesShown Is cell scheme made (z ∷ ss) (c ∷ change_from_last d f cs) (if t then g y ∷ ys else y ∷ change_from_last d g ys)) (sym qe)
                  (h.0, r.changed f g k));
            }
        at_test ih true false t qa qb qe l m e' = absurd (cc)
        at_test ih true true false qa qb qe l m e' = absurd (cc)
        at_test ih false true t qa qb qe l m e' = absurd (cc)
        at_test ih false false true qa qb qe l m e' = absurd (cc)

    -- what stands below a root, in the world of what holds it
    pub record Stands (frames : List (Shape S)) (x : Rooted (Content V)) (y : Rooted (List C)) (r : Root) (s : Shape S) : Type 0 where
      pub below : List (Shape S)
      pub up : Grows (world scheme made below) (world scheme made frames)
      pub content : Content V
      pub cells : List C
      pub has_content : at_root r x ≡ Some content
      pub has_cells : at_root r y ≡ Some cells
      pub shown : Shown Is cell (world scheme made below) s content cells
      pub changed : (f : Content V → Content V) (g : List C → List C) → Shown Is cell (world scheme made below) s (f content) (g cells) → Shows Is cell scheme made frames (change_root r f x) (change_root r g y)

    pub stands : (frames : List (Shape S)) (x : Rooted (Content V)) (y : Rooted (List C)) (r : Root) (s : Shape S) → Shows Is cell scheme made frames x y → root_shape scheme made frames r ≡ Some s → Stands frames x y r s
    stands frames x y (Frame d) s h e =
        let k = at_frame frames x.frames y.frames d s h.of_frames e in
        record {
          below = k.below;
          up = k.up;
          content = k.content;
          cells = k.cells;
          has_content = k.has_content;
          has_cells = k.has_cells;
          shown = k.shown;
          changed = λ f g c. record { of_frames = k.changed f g c; of_modules = h.of_modules; of_objects = h.of_objects };
        }
    stands frames x y (Module m) s h e =
        let k = at_index (world scheme made []) scheme.modules x.modules y.modules m s h.of_modules e in
        record {
          below = [];
          up = frames_grow scheme made frames;
          content = k.content;
          cells = k.cells;
          has_content = k.has_content;
          has_cells = k.has_cells;
          shown = k.shown;
          changed = λ f g c. record { of_frames = h.of_frames; of_modules = k.changed f g c; of_objects = h.of_objects };
        }
    stands frames x y (Object zero) s h e = absurd (cc)
    stands frames x y (Object (suc o)) s h e =
        let k = at_index (world scheme made []) (map scheme.made made) x.objects y.objects o s h.of_objects (slice_get-map scheme.made made o ∙ e) in
        record {
          below = [];
          up = frames_grow scheme made frames;
          content = k.content;
          cells = k.cells;
          has_content = k.has_content;
          has_cells = k.has_cells;
          shown = k.shown;
          changed = λ f g c. record { of_frames = h.of_frames; of_modules = h.of_modules; of_objects = k.changed f g c };
        }
