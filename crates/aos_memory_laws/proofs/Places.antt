-- The same at each place: a scalar is read, contents are stored, and a whole record or array is copied or read, in the store
-- and in the memory alike.
use Rattle.std.proofs.Common.{◌≡◌, ℕ, ◌+◌, ◌≤◌, List, [], ◌∷◌, ◌++◌, length, map, take, drop, Option, Some, None, refl, sym, ap, ◌∙◌, arith, append_assoc, append-nil}
use Rattle.std.specs.Prelude.{option_and_then, option_map, slice_get}
use Rattle.std.proofs.Math.Seq.{take-append_seam, take-append-add, drop-append_seam, drop-append-add}
use Rattle.std.proofs.lemmas.List.{map-append, length-map, take-append-le, take-append-drop, length-take-le}
use Rattle.std.proofs.Math.ListN.{drop_of_length-le}
use Rattle.aos_base.specs.declared.root.Root.{Root}
use Rattle.aos_base.specs.Rooted.{Made, Rooted, at_root, change_root, spliced, load, load_all, store_all, copy_all}
use Rattle.aos_types.specs.Shape.{Shape, One, Nothing, Pair, inside, offset, number_of, size, join}
use Rattle.aos_types.specs.Content.{Content, Scalar, Empty, Row, flatten, found, placed, overlay, Fits, EachSort}
use Rattle.aos_types.specs.World.{World, shape_at, cell_at, Scheme, world, root_shape, read, write}
use Rattle.aos_memory_laws.specs.Shows.{Shows, AreKept}
use Rattle.aos_memory_laws.proofs.Zoom.{zoomed, as_many}
use Rattle.aos_memory_laws.proofs.Grow.{fits_grows, fits_plain, cells_grow}
use Rattle.aos_memory_laws.proofs.Roots.{stands}

pub get_behind : {A : Type 0} (front : List A) (x : A) (back : List A) → slice_get (front ++ (x ∷ back)) (length front) ≡ Some x
get_behind [] x back = refl
get_behind (z ∷ front) x back = get_behind front x back

splice_behind : {A : Type 0} (front new old back : List A) → length new ≡ length old → spliced (length front) new (front ++ (old ++ back)) ≡ front ++ (new ++ back)
splice_behind front new old back e =
    ap (λ l. l ++ (new ++ drop (length front + length new) (front ++ (old ++ back)))) (take-append_seam front (old ++ back))
    ∙ ap (λ l. front ++ (new ++ l)) (drop-append-add front (old ++ back) (length new) ∙ ap (λ n. drop n (old ++ back)) e ∙ drop-append_seam old back)

module _ {S : Type 0} where
  pub size_join : (s more : Shape S) → size s ≤ size (join s more)
  size_join (One k) more = omega arith
  size_join Nothing more = omega arith
  size_join (Pair a b) more = let h = size_join b more in omega (arith, h)

module _ {S V C : Type 0} (Is : S → V → Type 0) (cell : V → C) where
  overlay_fits : (s mf mt : Shape S) (from to : Content V) → Fits Is (join s mf) from → Fits Is (join s mt) to → Fits Is (join s mt) (overlay s from to)
  overlay_fits Nothing mf mt from to hf ht = ht
  overlay_fits (One k) mf mt (Scalar v) to hf ht = absurd hf
  overlay_fits (One k) mf mt Empty to hf ht = absurd hf
  overlay_fits (One k) mf mt (Row f fs) (Scalar v) hf ht = absurd ht
  overlay_fits (One k) mf mt (Row f fs) Empty hf ht = absurd ht
  overlay_fits (One k) mf mt (Row f fs) (Row t ts) hf ht = (hf.0, ht.1)
  overlay_fits (Pair a b) mf mt (Scalar v) to hf ht = absurd hf
  overlay_fits (Pair a b) mf mt Empty to hf ht = absurd hf
  overlay_fits (Pair a b) mf mt (Row f fs) (Scalar v) hf ht = absurd ht
  overlay_fits (Pair a b) mf mt (Row f fs) Empty hf ht = absurd ht
  overlay_fits (Pair a b) mf mt (Row f fs) (Row t ts) hf ht = (hf.0, overlay_fits b mf mt fs ts hf.1 ht.1)

  -- the cells of a first part and of what stands behind another first part of the same size
  step_flat : (n : ℕ) (f t fs ts : Content V) (a : ℕ) (rest : List C) → length (map cell (flatten f)) ≡ a → length (map cell (flatten t)) ≡ a → rest ≡ take n (map cell (flatten fs)) ++ drop n (map cell (flatten ts)) → map cell (flatten f) ++ rest ≡ take (a + n) (map cell (flatten f ++ flatten fs)) ++ drop (a + n) (map cell (flatten t ++ flatten ts))
  step_flat n f t fs ts a rest lf lt e =
      let cf = map cell (flatten f) in
      let ct = map cell (flatten t) in
      let mf : cf ++ map cell (flatten fs) ≡ map cell (flatten f ++ flatten fs) = sym (map-append cell (flatten f) (flatten fs)) in
      let mt : ct ++ map cell (flatten ts) ≡ map cell (flatten t ++ flatten ts) = sym (map-append cell (flatten t) (flatten ts)) in
      ap (λ l. cf ++ l) e
      ∙ sym (append_assoc cf (take n (map cell (flatten fs))) (drop n (map cell (flatten ts))))
      ∙ ap (λ l. l ++ drop n (map cell (flatten ts))) (sym (take-append-add cf (map cell (flatten fs)) n))
      ∙ (λ i. take (lf i + n) (mf i) ++ drop n (map cell (flatten ts)))
      ∙ ap (λ l. take (a + n) (map cell (flatten f ++ flatten fs)) ++ l) (sym (drop-append-add ct (map cell (flatten ts)) n) ∙ (λ i. drop (lt i + n) (mt i)))

  overlay_flat : (s mf mt : Shape S) (from to : Content V) → Fits Is (join s mf) from → Fits Is (join s mt) to → map cell (flatten (overlay s from to)) ≡ take (size s) (map cell (flatten from)) ++ drop (size s) (map cell (flatten to))
  overlay_flat Nothing mf mt from to hf ht = refl
  overlay_flat (One k) mf mt (Scalar v) to hf ht = absurd hf
  overlay_flat (One k) mf mt Empty to hf ht = absurd hf
  overlay_flat (One k) mf mt (Row f fs) (Scalar v) hf ht = absurd ht
  overlay_flat (One k) mf mt (Row f fs) Empty hf ht = absurd ht
  overlay_flat (One k) mf mt (Row f fs) (Row t ts) hf ht =
      map-append cell (flatten f) (flatten ts)
      ∙ step_flat 0 f t fs ts 1 (map cell (flatten ts)) (length-map (flatten f) cell ∙ as_many Is (One k) f hf.0) (length-map (flatten t) cell ∙ as_many Is (One k) t ht.0) refl
  overlay_flat (Pair a b) mf mt (Scalar v) to hf ht = absurd hf
  overlay_flat (Pair a b) mf mt Empty to hf ht = absurd hf
  overlay_flat (Pair a b) mf mt (Row f fs) (Scalar v) hf ht = absurd ht
  overlay_flat (Pair a b) mf mt (Row f fs) Empty hf ht = absurd ht
  overlay_flat (Pair a b) mf mt (Row f fs) (Row t ts) hf ht =
      map-append cell (flatten f) (flatten (overlay b fs ts))
      ∙ step_flat (size b) f t fs ts (size a) (map cell (flatten (overlay b fs ts))) (length-map (flatten f) cell ∙ as_many Is a f hf.0) (length-map (flatten t) cell ∙ as_many Is a t ht.0) (overlay_flat b mf mt fs ts hf.1 ht.1)

module _ {S V C : Type 0} (Is : World S → S → V → Type 0) (cell : World S → V → C) (IsPlain : S → Type 0) (kept : AreKept Is cell IsPlain) (scheme : Scheme S) (made : List Made) (frames : List (Shape S)) (x : Rooted (Content V)) (y : Rooted (List C)) where
  abbrev here : World S
  here = world scheme made frames

  -- what stands at a place, in both
  pub record AtPlace (r : Root) (p : List ℕ) (s : Shape S) : Type 0 where
    pub inner : Content V
    pub got : read r p x ≡ Some inner
    pub fits : Fits (Is here) s inner
    pub front : List C
    pub back : List C
    pub at : length front ≡ cell_at here r p
    pub row : List C
    pub has : at_root r y ≡ Some row
    pub whole : row ≡ front ++ (map (cell here) (flatten inner) ++ back)
    pub long : length (map (cell here) (flatten inner)) ≡ size s
    pub written : (new : Content V) → Fits (Is here) s new → EachSort IsPlain s → (g : List C → List C) → g row ≡ front ++ (map (cell here) (flatten new) ++ back) → Shows Is cell scheme made frames (write r p new x) (change_root r g y)

  pub at_place : (r : Root) (p : List ℕ) (s : Shape S) → Shows Is cell scheme made frames x y → shape_at here r p ≡ Some s → AtPlace r p s
  at_place r p s h e = at_shape (root_shape scheme made frames r) refl e
    where
      three : (f : V → C) (a b c : List V) → map f (a ++ (b ++ c)) ≡ map f a ++ (map f b ++ map f c)
      three f a b c = map-append f a (b ++ c) ∙ ap (λ l. map f a ++ l) (map-append f b c)

      at_shape : (o : Option (Shape S)) → root_shape scheme made frames r ≡ o → option_and_then (inside p) o ≡ Some s → AtPlace r p s
      at_shape None there e' = absurd (cc)
      at_shape (Some whole) there e' =
          let k = stands Is cell scheme made frames x y r whole h there in
          let b : World S = world scheme made k.below in
          let z = zoomed (Is b) p whole s k.content e' k.shown.fits in
          let cells = cells_grow Is cell IsPlain kept b here k.up in
          record {
            inner = z.inner;
            got = ap (option_and_then (found p)) k.has_content ∙ z.found;
            fits = fits_grows Is cell IsPlain kept b here k.up s z.inner z.fits;
            front = map (cell b) z.front;
            back = map (cell b) z.back;
            at = length-map z.front (cell b) ∙ z.place ∙ ap (number_of (offset p)) (sym there);
            row = k.cells;
            has = k.has_cells;
            whole = k.shown.same ∙ ap (map (cell b)) z.whole ∙ three (cell b) z.front (flatten z.inner) z.back
                ∙ ap (λ l. map (cell b) z.front ++ (l ++ map (cell b) z.back)) (cells s z.inner z.fits);
            long = length-map (flatten z.inner) (cell here) ∙ as_many (Is b) s z.inner z.fits;
            written = λ new f plain g q.
                let f' = fits_plain Is cell IsPlain kept here b (λ o t i. i) s new plain f in
                k.changed (placed p new) g
                (record {
                  fits = z.kept new f';
                  same = q ∙ ap (λ l. map (cell b) z.front ++ (l ++ map (cell b) z.back)) (sym (cells s new f'))
                      ∙ sym (ap (map (cell b)) (z.replaced new) ∙ three (cell b) z.front (flatten new) z.back);
                });
          }

  -- a scalar is read
  pub record ReadAlike (r : Root) (p : List ℕ) (k : S) : Type 0 where
    pub value : V
    pub is : Is here k value
    pub source : read r p x ≡ Some (Scalar value)
    pub image : load r (cell_at here r p) y ≡ Some (cell here value)

  pub read_alike : (r : Root) (p : List ℕ) (k : S) → Shows Is cell scheme made frames x y → shape_at here r p ≡ Some (One k) → ReadAlike r p k
  read_alike r p k h e = of_inner q.inner refl q.fits
    where
      q : AtPlace r p (One k)
      q = at_place r p (One k) h e

      of_inner : (c : Content V) → q.inner ≡ c → Fits (Is here) (One k) c → ReadAlike r p k
      of_inner (Scalar v) same f =
          record {
            value = v;
            is = f;
            source = q.got ∙ ap (λ c. Some c) same;
            image = ap (option_and_then (λ cells. slice_get cells (cell_at here r p))) q.has
                ∙ ap (λ l. slice_get l (cell_at here r p)) (q.whole ∙ ap (λ c. q.front ++ (map (cell here) (flatten c) ++ q.back)) same)
                ∙ ap (slice_get (q.front ++ (cell here v ∷ q.back))) (sym q.at)
                ∙ get_behind q.front (cell here v) q.back;
          }
      of_inner Empty same f = absurd f
      of_inner (Row a b) same f = absurd f

  -- the first cells of what stands at a place are stored, which are those of new contents, and the others stay
  pub first_stored : (r : Root) (p : List ℕ) (s : Shape S) (q : AtPlace r p s) (new : Content V) → Fits (Is here) s new → EachSort IsPlain s → (first : List C) → length first ≤ size s → map (cell here) (flatten new) ≡ first ++ drop (length first) (map (cell here) (flatten q.inner)) → Shows Is cell scheme made frames (write r p new x) (store_all r (cell_at here r p) first y)
  first_stored r p s q new f plain first few same =
      let n = length first in
      let c = map (cell here) (flatten q.inner) in
      let l : n ≤ length c = let k = q.long in omega (arith, k, few) in
      q.written new f plain (spliced (cell_at here r p) first)
      (ap (spliced (cell_at here r p) first) (q.whole ∙ ap (λ z. q.front ++ (z ++ q.back)) (sym (take-append-drop n c)) ∙ ap (λ z. q.front ++ z) (append_assoc (take n c) (drop n c) q.back))
      ∙ ap (λ m. spliced m first (q.front ++ (take n c ++ (drop n c ++ q.back)))) (sym q.at)
      ∙ splice_behind q.front first (take n c) (drop n c ++ q.back) (sym (length-take-le n c l))
      ∙ ap (λ z. q.front ++ z) (sym (append_assoc first (drop n c) q.back))
      ∙ ap (λ z. q.front ++ (z ++ q.back)) (sym same))

  -- contents of the place's shape are stored
  pub stored_alike : (r : Root) (p : List ℕ) (s : Shape S) (new : Content V) → Shows Is cell scheme made frames x y → shape_at here r p ≡ Some s → EachSort IsPlain s → Fits (Is here) s new → Shows Is cell scheme made frames (write r p new x) (store_all r (cell_at here r p) (map (cell here) (flatten new)) y)
  stored_alike r p s new h e plain f =
      let q = at_place r p s h e in
      let all = map (cell here) (flatten new) in
      let c = map (cell here) (flatten q.inner) in
      let long : length all ≡ size s = length-map (flatten new) (cell here) ∙ as_many (Is here) s new f in
      let more : length c ≤ length all = let k = q.long in omega (arith, k, long) in
      first_stored r p s q new f plain all (omega (arith, long)) (sym (ap (λ z. all ++ z) (drop_of_length-le c more) ∙ append-nil all))

  -- the first cells of what stands at a place are these
  taken_at : (r : Root) (p : List ℕ) (s : Shape S) (q : AtPlace r p s) (n : ℕ) → n ≤ length (map (cell here) (flatten q.inner)) → take n (drop (cell_at here r p) q.row) ≡ take n (map (cell here) (flatten q.inner))
  taken_at r p s q n few =
      let c = map (cell here) (flatten q.inner) in
      ap (λ z. take n (drop (cell_at here r p) z)) q.whole
      ∙ ap (λ m. take n (drop m (q.front ++ (c ++ q.back)))) (sym q.at)
      ∙ ap (take n) (drop-append_seam q.front (c ++ q.back))
      ∙ take-append-le n c q.back few

  -- The parts of one shape, with which both places begin, are copied.

  pub record CopyAlike (s : Shape S) (from : Root) (p : List ℕ) (to : Root) (q : List ℕ) : Type 0 where
    pub inner : Content V
    pub old : Content V
    pub read_from : read from p x ≡ Some inner
    pub read_to : read to q x ≡ Some old
    pub after : Rooted (List C)
    pub image : copy_all (size s) from (cell_at here from p) to (cell_at here to q) y ≡ Some after
    pub alike : Shows Is cell scheme made frames (write to q (overlay s inner old) x) after

  pub copy_alike : (s mf mt : Shape S) (from : Root) (p : List ℕ) (to : Root) (q : List ℕ) → Shows Is cell scheme made frames x y → shape_at here from p ≡ Some (join s mf) → shape_at here to q ≡ Some (join s mt) → EachSort IsPlain (join s mt) → CopyAlike s from p to q
  copy_alike s mf mt from p to q h ef et plain =
      let a = at_place from p (join s mf) h ef in
      let b = at_place to q (join s mt) h et in
      let n = size s in
      let cf = map (cell here) (flatten a.inner) in
      let ct = map (cell here) (flatten b.inner) in
      let nf : n ≤ length cf = let k = size_join s mf in let l = a.long in omega (arith, k, l) in
      let at = cell_at here to q in
      let taken : take n (drop (cell_at here from p) a.row) ≡ take n cf = taken_at from p (join s mf) a n nf in
      let long : length (take n cf) ≡ n = length-take-le n cf nf in
      let new = overlay s a.inner b.inner in
      record {
        inner = a.inner;
        old = b.inner;
        read_from = a.got;
        read_to = b.got;
        after = change_root to (spliced at (take n cf)) y;
        image = ap (option_map (λ cells. store_all to at cells y)) (ap (option_map (λ cells. take n (drop (cell_at here from p) cells))) a.has)
            ∙ ap (λ cells. Some (store_all to at cells y)) taken;
        alike = first_stored to q (join s mt) b new (overlay_fits (Is here) (cell here) s mf mt a.inner b.inner a.fits b.fits) plain (take n cf) (let k = size_join s mt in omega (arith, k, long))
            (overlay_flat (Is here) (cell here) s mf mt a.inner b.inner a.fits b.fits ∙ ap (λ m. take n cf ++ drop m ct) (sym long));
      }

  -- the first cells of what stands at a place, so many of them
  pub record LoadsAlike (n : ℕ) (s : Shape S) (r : Root) (p : List ℕ) : Type 0 where
    pub inner : Content V
    pub source : read r p x ≡ Some inner
    pub fits : Fits (Is here) s inner
    pub long : length (map (cell here) (flatten inner)) ≡ size s
    pub image : load_all n r (cell_at here r p) y ≡ Some (take n (map (cell here) (flatten inner)))

  pub loads_alike : (n : ℕ) (s : Shape S) (r : Root) (p : List ℕ) → Shows Is cell scheme made frames x y → shape_at here r p ≡ Some s → n ≤ size s → LoadsAlike n s r p
  loads_alike n s r p h e few =
      let a = at_place r p s h e in
      record {
        inner = a.inner;
        source = a.got;
        fits = a.fits;
        long = a.long;
        image = ap (option_map (λ cells. take n (drop (cell_at here r p) cells))) a.has
            ∙ ap (λ z. Some z) (taken_at r p s a n (let k = a.long in omega (arith, k, few)));
      }
