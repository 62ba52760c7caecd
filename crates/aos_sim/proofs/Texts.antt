-- Texts, which are the same in the store and in the memory. An array of characters and a string constant are so many characters.
use Rattle.std.proofs.Common.{◌≡◌, ℕ, zero, suc, pos, ◌-◌, ◌≤◌, ◌<◌, true, false, List, [], ◌∷◌, ◌++◌, length, map, take, drop, Some, None, refl, sym, ap, ◌∙◌, subst, arith, length-append}
use Rattle.std.specs.Prelude.{Bool, is_some, nat_lt, option_map, option_and_then, if◌then◌else◌}
use Rattle.std.proofs.lemmas.Bool.{ltb-true}
use Rattle.std.proofs.Math.Nat.{min-le_left}
use Rattle.std.proofs.Math.Seq.{take-length}
use Rattle.std.proofs.lemmas.List.{map-append, length-map, length-take, length-take-le, length-drop, drop-map}
use Rattle.aos_base.specs.Rooted.{Made, Rooted, store_all}
use Rattle.aos_base.specs.Text.{before_end, cut_within}
use Rattle.aos_types.specs.Shape.{Shape, size}
use Rattle.aos_types.specs.Content.{Content, Scalar, Empty, Row, flatten, Fits, EachSort}
use Rattle.aos_types.specs.World.{World, read, write}
use Rattle.aos_typed.specs.declared.tree.TType.TheVariants as type
use Rattle.aos_typed.specs.Program.{Program}
use Rattle.aos_typed.specs.Sort.{Sort}
use Rattle.aos_typed.specs.Location.{Location}
use Rattle.aos_typed.specs.Text as S
use Rattle.aos_typed.specs.Text.{codes_in, with_text}
use Rattle.aos_typed.specs.Value.{Value, Char}
use Rattle.aos_typed.specs.Typing.{Is, IsPlain}
use Rattle.aos_code.specs.declared.instr.Cell.{Cell}
use Rattle.aos_code.specs.declared.instr.Cell.TheVariants.{Num}
use Rattle.aos_code.specs.Machine as I
use Rattle.aos_memory_laws.specs.Shows.{Shows}
use Rattle.aos_memory_laws.proofs.Places.{at_place, loads_alike, first_stored}
use Rattle.aos_sim.specs.Cells.{cell_of}
use Rattle.aos_sim.proofs.Kept.{values_kept}
use Rattle.aos_sim.proofs.Results.{natural_is}
use Rattle.aos_sim.proofs.Variables.{value_from, value_to}
use Rattle.aos_sim.proofs.Does.{scheme, addr_of, characters, HasCharacters, HasPredeclared}
use Rattle.aos_sim.proofs.Copied.{all_there}
use Rattle.aos_sim.proofs.States.{world_of}

-- Codes of characters, and an array with these characters.

abbrev pub AreCodes : List ℕ → Type 0
AreCodes [] = Unit {0}
AreCodes (c ∷ cs) = (c < 256) × AreCodes cs

abbrev pub of_codes : List ℕ → Content Value
of_codes [] = Empty
of_codes (c ∷ cs) = Row (Scalar (Char c)) (of_codes cs)

-- some of them are left of a text
before_end_codes : (cs : List ℕ) → AreCodes cs → AreCodes (before_end cs)
before_end_codes [] h = tt
before_end_codes (zero ∷ cs) h = tt
before_end_codes (suc c ∷ cs) h = (h.0, before_end_codes cs h.1)

take_codes : (n : ℕ) (cs : List ℕ) → AreCodes cs → AreCodes (take n cs)
take_codes zero cs h = tt
take_codes (suc n) [] h = tt
take_codes (suc n) (c ∷ cs) h = (h.0, take_codes n cs h.1)

ended_codes : (cs : List ℕ) → AreCodes cs → AreCodes (cs ++ 0 ∷ [])
ended_codes [] h = (omega arith, tt)
ended_codes (c ∷ cs) h = (h.0, ended_codes cs h.1)

-- what is stored of a text in an array of so many characters, which has room for one: it is no longer than the array
pub fitted_same : (following : List ℕ) (strict : Bool) (room : ℕ) (cs : List ℕ) → S.fitted strict room cs ≡ I.fitted following strict room cs
fitted_same following true room cs = refl
fitted_same following false room cs = refl

pub record Within (room : ℕ) (cs : List ℕ) : Type 0 where
  pub few : length cs ≤ room
  pub codes : AreCodes cs

pub fitted_within : (strict : Bool) (room : ℕ) (cs stored : List ℕ) → 0 < room → AreCodes cs → S.fitted strict room cs ≡ Some stored → Within room stored
fitted_within true room cs stored some codes e = by (nat_lt (length cs) room) refl e
  where
    by : (b : Bool) → nat_lt (length cs) room ≡ b → (if b then Some (cs ++ 0 ∷ []) else None) ≡ Some stored → Within room stored
    by true l f =
        let is : cs ++ 0 ∷ [] ≡ stored = cc in
        let few : length (cs ++ 0 ∷ []) ≤ room = let n = ltb-true (length cs) room l in omega (arith, n, length-append cs (0 ∷ [])) in
        subst (Within room) is (record { few = few; codes = ended_codes cs codes })
    by false l f = absurd (cc)
fitted_within false room cs stored some codes e =
    let is : cut_within room cs ≡ stored = cc in
    let few : length (cut_within room cs) ≤ room = let l = length-take (room - 1) cs in let n = length-append (take (room - 1) cs) (0 ∷ []) in let m = min-le_left (room - 1) (length cs) in omega (arith, l, n, m, some) in
    subst (Within room) is (record { few = few; codes = ended_codes (take (room - 1) cs) (take_codes (room - 1) cs codes) })

-- An array of characters has codes.

codes_there : (cs : List ℕ) → codes_in (of_codes cs) ≡ cs
codes_there [] = refl
codes_there (c ∷ cs) = ap (λ l. c ∷ l) (codes_there cs)

codes_cells : (w : World Sort) (following : List ℕ) (cs : List ℕ) → map (cell_of w) (flatten (of_codes cs)) ≡ I.character_cells following cs
codes_cells w following [] = refl
codes_cells w following (c ∷ cs) = ap (λ l. cell_of w (Char c) ∷ l) (codes_cells w following cs)

with_codes : (cs ds : List ℕ) → length cs ≤ length ds → with_text cs (of_codes ds) ≡ of_codes (cs ++ drop (length cs) ds)
with_codes [] ds l = refl
with_codes (c ∷ cs) [] l = absurd (omega (arith, l))
with_codes (c ∷ cs) (d ∷ ds) l = ap (λ z. Row (Scalar (Char c)) z) (with_codes cs ds (omega (arith, l)))

with_front : (cs ds : List ℕ) → length cs ≤ length ds → AreCodes cs → AreCodes ds → AreCodes (cs ++ drop (length cs) ds)
with_front [] ds l h k = k
with_front (c ∷ cs) [] l h k = absurd (omega (arith, l))
with_front (c ∷ cs) (d ∷ ds) l h k = (h.0, with_front cs ds (omega (arith, l)) h.1 k.1)

text_in_cells : (following : List ℕ) (cs : List ℕ) → AreCodes cs → I.text_in following (I.character_cells following cs) ≡ Some (before_end cs)
text_in_cells following [] h = refl
text_in_cells following (zero ∷ cs) h = refl
text_in_cells following (suc c ∷ cs) h =
    ap (λ o. I.character_then following o (I.text_in following (I.character_cells following cs))) (natural_is 256 (suc c) h.0)
    ∙ ap (option_map (λ l. suc c ∷ l)) (text_in_cells following cs h.1)

size_characters : (n : ℕ) → size (characters n) ≡ n
size_characters zero = refl
size_characters (suc n) = let e = size_characters n in omega (arith, e)

plain_characters : (n : ℕ) → EachSort IsPlain (characters n)
plain_characters zero = tt
plain_characters (suc n) = (tt, plain_characters n)

module _ (program : Program) (predeclared : HasPredeclared program) (w : World Sort) where
  pub record CodesOf (n : ℕ) (c : Content Value) : Type 0 where
    pub codes : List ℕ
    pub is : c ≡ of_codes codes
    pub long : length codes ≡ n
    pub below : AreCodes codes

  pub codes_of : (n : ℕ) (c : Content Value) → Fits (Is program w) (characters n) c → CodesOf n c
  codes_of zero (Scalar v) h = absurd h
  codes_of zero Empty h = record { codes = []; is = refl; long = refl; below = tt }
  codes_of zero (Row a b) h = absurd h
  codes_of (suc n) (Scalar v) h = absurd h
  codes_of (suc n) Empty h = absurd h
  codes_of (suc n) (Row Empty b) h = absurd h.0
  codes_of (suc n) (Row (Row a c) b) h = absurd h.0
  codes_of (suc n) (Row (Scalar v) b) h =
      let x = value_from program predeclared type.Char w v refl h.0 in
      let r = codes_of n b h.1 in
      record {
        codes = x.0 ∷ r.codes;
        is = λ i. Row (Scalar (x.1 i)) (r.is i);
        long = ap (λ m. suc m) r.long;
        below = (x.2, r.below);
      }

  pub codes_fit : (n : ℕ) (cs : List ℕ) → length cs ≡ n → AreCodes cs → Fits (Is program w) (characters n) (of_codes cs)
  codes_fit zero [] e h = tt
  codes_fit zero (c ∷ cs) e h = absurd (omega (arith, e))
  codes_fit (suc n) [] e h = absurd (omega (arith, e))
  codes_fit (suc n) (c ∷ cs) e h = (value_to program predeclared type.Char w (Char c) refl (c, refl, h.0), codes_fit n cs (omega (arith, e)) h.1)

-- In a store and a memory that shows it.

module _ (program : Program) (predeclared : HasPredeclared program) (made : List Made) (frames : List (Shape Sort)) (x : Rooted (Content Value)) (y : Rooted (List Cell)) (shows : Shows (Is program) cell_of (scheme program) made frames x y) (following : List ℕ) where
  abbrev now : World Sort
  now = world_of program made frames

  -- what stands at a place of so many characters, and its first cells
  record Characters (p : Location) (n m : ℕ) : Type 0 where
    inner : Content Value
    source : read p.root p.path x ≡ Some inner
    codes : CodesOf program predeclared now n inner
    image : I.cells_at m (addr_of now p) y ≡ Some (take m (I.character_cells following codes.codes))

  characters_at : (p : Location) (n m : ℕ) → HasCharacters now p n → m ≤ n → Characters p n m
  characters_at p n m h few =
      let s = size_characters n in
      let a = loads_alike (Is program) cell_of IsPlain (values_kept program) (scheme program) made frames x y m (characters n) p.root p.path shows h (omega (arith, few, s)) in
      let c = codes_of program predeclared now n a.inner a.fits in
      let cells = take m (map (cell_of now) (flatten a.inner)) in
      let long : length cells ≡ m = length-take-le m (map (cell_of now) (flatten a.inner)) (let l = a.long in omega (arith, l, s, few)) in
      record {
        inner = a.inner;
        source = a.source;
        codes = c;
        image = ap (option_and_then (I.if_all m)) a.image ∙ all_there m cells long
            ∙ ap (λ l. Some (take m l)) (ap (λ z. map (cell_of now) (flatten z)) c.is ∙ codes_cells now following c.codes);
      }

  -- the same text is at a place of so many characters in both
  pub record TextAlike (p : Location) (n : ℕ) : Type 0 where
    pub text : List ℕ
    pub codes : AreCodes text
    pub source : S.text_in (read p.root p.path x) ≡ text
    pub image : I.text_at following (addr_of now p) (Num (pos n)) y ≡ Some text

  pub text_alike : (p : Location) (n : ℕ) → HasCharacters now p n → TextAlike p n
  text_alike p n h =
      let a = characters_at p n n h (omega arith) in
      let c = a.codes in
      let cells = I.character_cells following c.codes in
      let long : length cells ≡ n = length-map c.codes (λ z. Num (pos z)) ∙ c.long in
      record {
        text = before_end c.codes;
        codes = before_end_codes c.codes c.below;
        source = ap S.text_in a.source ∙ ap (λ z. before_end (codes_in z)) c.is ∙ ap before_end (codes_there c.codes);
        image = ap (option_and_then (I.text_in following)) a.image
            ∙ ap (I.text_in following) (ap (λ m. take m cells) (sym long) ∙ take-length cells) ∙ text_in_cells following c.codes c.below;
      }

  -- these characters are stored in both at a place that has as many or more
  pub record StoredAlike (p : Location) (cs : List ℕ) : Type 0 where
    pub old : Content Value
    pub source : read p.root p.path x ≡ Some old
    pub there : is_some (I.cells_at (length cs) (addr_of now p) y) ≡ true
    pub alike : Shows (Is program) cell_of (scheme program) made frames (write p.root p.path (with_text cs old) x) (store_all p.root (addr_of now p).cell (I.character_cells following cs) y)

  pub stored_alike : (p : Location) (n : ℕ) (cs : List ℕ) → HasCharacters now p n → Within n cs → StoredAlike p cs
  stored_alike p n cs h fit =
      let q = at_place (Is program) cell_of IsPlain (values_kept program) (scheme program) made frames x y p.root p.path (characters n) shows h in
      let c = codes_of program predeclared now n q.inner q.fits in
      let k = length cs in
      let few = fit.few in
      let more = c.long in
      let codes = cs ++ drop k c.codes in
      let fitting : k ≤ length c.codes = omega (arith, few, more) in
      let is : with_text cs q.inner ≡ of_codes codes = ap (with_text cs) c.is ∙ with_codes cs c.codes fitting in
      let long : length codes ≡ n = let l = length-append cs (drop k c.codes) in let m = length-drop k c.codes in omega (arith, l, m, few, more) in
      let fits = subst (Fits (Is program now) (characters n)) (sym is) (codes_fit program predeclared now n codes long (with_front cs c.codes fitting fit.codes c.below)) in
      let first = I.character_cells following cs in
      let count : length first ≡ k = length-map cs (λ z. Num (pos z)) in
      record {
        old = q.inner;
        source = q.got;
        there = ap is_some (characters_at p n k h few).image;
        alike = first_stored (Is program) cell_of IsPlain (values_kept program) (scheme program) made frames x y p.root p.path (characters n) q (with_text cs q.inner) fits (plain_characters n) first (let s = size_characters n in omega (arith, count, few, s))
            (ap (λ z. map (cell_of now) (flatten z)) is ∙ codes_cells now following codes ∙ map-append (λ z. Num (pos z)) cs (drop k c.codes)
            ∙ ap (λ l. first ++ l) (sym (drop-map (λ z. Num (pos z)) k c.codes) ∙ ap (λ m. drop m (I.character_cells following c.codes)) (sym count)
            ∙ ap (drop (length first)) (sym (codes_cells now following c.codes) ∙ ap (λ z. map (cell_of now) (flatten z)) (sym c.is))));
      }
