-- What the cells of open arrays that are passed by value hold: places in frames. They are made with their frames, and stay, since whatever is
-- stored takes the place of what holds no places.
use Rattle.std.proofs.Common.{◌≡◌, ℕ, zero, suc, List, [], ◌∷◌, ◌++◌, length, map, Bool, true, false, Option, Some, None, refl, sym, ap, ◌∙◌, subst, if◌then◌else◌}
use Rattle.std.specs.Prelude.{drop, nat_eq, option_and_then, slice_get, take}
use Rattle.std.proofs.lemmas.List.{length-map}
use Rattle.aos_base.specs.declared.root.Root.{Root}
use Rattle.aos_base.specs.declared.root.Root.TheVariants as root
use Rattle.aos_base.specs.Rooted.{Rooted, change_from_last, from_last}
use Rattle.aos_types.specs.declared.row.Basic.{Basic}
use Rattle.aos_types.specs.declared.row.Basic.TheVariants as basic
use Rattle.aos_types.specs.declared.row.TypeId.{TypeId}
use Rattle.aos_types.specs.declared.row.TypeRow.{TypeRow}
use Rattle.aos_types.specs.declared.row.TypeRow.TheVariants as row
use Rattle.aos_types.specs.Content.{Content, Scalar, Empty, Row, EachSort, Fits, found, overlay, placed}
use Rattle.aos_types.specs.Shape.{Shape, One, Nothing, Pair, join}
use Rattle.aos_types.specs.Table.{row_of as type_row, is_open, is_record, is_scalar}
use Rattle.aos_types.specs.World.{World, read, shape_at}
use Rattle.aos_typed.specs.declared.tree.TType.TheVariants.{Char as CharType}
use Rattle.aos_typed.specs.CallFrame.{Part, copied, hand, handed, head, open_part, own_part, scalar, whole}
use Rattle.aos_typed.specs.Numbers.{id_of}
use Rattle.aos_typed.specs.Open.{open_dimensions, open_element}
use Rattle.aos_typed.specs.Program.{Parameter, Procedure, Program}
use Rattle.aos_typed.specs.Routines.{parameters_of}
use Rattle.aos_typed.specs.Sort.{Sort, Plain, Variable, Alias, Elements, Length, variable_shape}
use Rattle.aos_typed.specs.Location.{Location}
use Rattle.aos_typed.specs.Store.{Store, scalar_in}
use Rattle.aos_typed.specs.Text.{with_text}
use Rattle.aos_typed.specs.Typing.{Is, IsBasic, IsPlain, IsPlainly}
use Rattle.aos_typed.specs.Value.{Value, Int, Flag, Char, Set, Object, Callable, Place}
use Rattle.aos_typed.specs.Meaning.{Here, Question, place_in}
use Rattle.aos_typed.specs.Source.{Frame, all_rooted, frames_with, known, row_of}
use Rattle.aos_sim.proofs.Does.{Valid}
use Rattle.aos_sim.proofs.Parts.{each_join, each_repeated, variable_plain}
use Rattle.aos_handover.specs.Kinds.{IsStored, OneScalar, OneWhole, OneText}
use Rattle.aos_escape.specs.Naming.{ContentIs}
use Rattle.aos_escape.proofs.Values.{FoundIs, found_is}
use Rattle.aos_stability.specs.Locations.{HasCopy, InFrame, IsCopied}

-- a value is no place
abbrev pub IsNoPlace : Value → Type 0
IsNoPlace (Place s) = ⊥
IsNoPlace (Int z) = Unit {0}
IsNoPlace (Flag b) = Unit {0}
IsNoPlace (Char c) = Unit {0}
IsNoPlace (Set x) = Unit {0}
IsNoPlace (Object o) = Unit {0}
IsNoPlace (Callable q o) = Unit {0}

-- Where something is put, each place that a way leads to stays.

-- the places in contents stand in others too
abbrev pub KeepsPlaces : Content Value → Content Value → Type 0
KeepsPlaces c d = (way : List ℕ) (s : Location) → found way c ≡ Some (Scalar (Place s)) → found way d ≡ Some (Scalar (Place s))

-- where none stood, other contents may stand
pub places_kept : (path : List ℕ) (new c old : Content Value) → found path c ≡ Some old → ContentIs IsNoPlace old → KeepsPlaces c (placed path new c)
places_kept [] new c old e none way s h =
    let same : c ≡ old = cc e in
    absurd (subst (FoundIs IsNoPlace) h (found_is IsNoPlace way c (subst (ContentIs IsNoPlace) (sym same) none)))
places_kept (i ∷ path) new (Scalar v) old e none way s h = absurd (cc e)
places_kept (i ∷ path) new Empty old e none way s h = absurd (cc e)
places_kept (i ∷ path) new (Row a b) old e none [] s h = absurd (cc h)
places_kept (zero ∷ path) new (Row a b) old e none (zero ∷ way) s h = places_kept path new a old e none way s h
places_kept (zero ∷ path) new (Row a b) old e none (suc j ∷ way) s h = h
places_kept (suc i ∷ path) new (Row a b) old e none (zero ∷ way) s h = h
places_kept (suc i ∷ path) new (Row a b) old e none (suc j ∷ way) s h = places_kept (i ∷ path) new b old e none (j ∷ way) s h

-- so it is in each frame
abbrev pub FramesKeep : List Frame → List Frame → Type 0
FramesKeep [] gs = Unit {0}
FramesKeep (f ∷ fs) [] = Unit {0}
FramesKeep (f ∷ fs) (g ∷ gs) = KeepsPlaces f.variables g.variables × FramesKeep fs gs

frames_stay : (fs : List Frame) → FramesKeep fs fs
frames_stay [] = tt
frames_stay (f ∷ fs) = (λ way s h. h, frames_stay fs)

module _ (path : List ℕ) (new old : Content Value) (none : ContentIs IsNoPlace old) where
  abbrev put : Frame → Frame
  put x = record x { variables = placed path new x.variables }

  frames_changed : (d : ℕ) (fs : List Frame) → option_and_then (found path) (from_last d (map (λ f. f.variables) fs)) ≡ Some old → FramesKeep fs (change_from_last d put fs)
  frames_changed d [] e = tt
  frames_changed d (x ∷ xs) e =
      by (λ e'. frames_changed d xs e') (nat_eq d (length xs)) (ap (λ n. option_and_then (found path) (if nat_eq d n then Some x.variables else from_last d (map (λ f. f.variables) xs))) (sym (length-map xs (λ f. f.variables))) ∙ e)
    where
      by : (option_and_then (found path) (from_last d (map (λ f. f.variables) xs)) ≡ Some old → FramesKeep xs (change_from_last d put xs)) → (q : Bool)
          → option_and_then (found path) (if q then Some x.variables else from_last d (map (λ f. f.variables) xs)) ≡ Some old → FramesKeep (x ∷ xs) (if q then put x ∷ xs else x ∷ change_from_last d put xs)
      by more true e = (λ way s h. places_kept path new x.variables old e none way s h, frames_stay xs)
      by more false e = (λ way s h. h, more e)

  pub frames_kept : (r : Root) (fs : List Frame) (s : Store) → read r path (all_rooted fs s) ≡ Some old → FramesKeep fs (frames_with r (placed path new) fs)
  frames_kept (root.Frame d) fs s e = frames_changed d fs e
  frames_kept (root.Module m) fs s e = frames_stay fs
  frames_kept (root.Object o) fs s e = frames_stay fs

module _ (p : Program) where
  -- no value of a type is a place
  module _ (w : World Sort) where
    no_basic : (b : Basic) (s : Location) → IsBasic b (Place s) → ⊥
    no_basic basic.ShortInt s h = h
    no_basic basic.Integer s h = h
    no_basic basic.LongInt s h = h
    no_basic basic.HugeInt s h = h
    no_basic basic.Boolean s h = h
    no_basic basic.Char s h = h
    no_basic basic.Set s h = h
    no_basic basic.Nil s h = cc h
    no_basic (basic.Text n) s h = cc h

    no_plain : (t : TypeId) (r : Option TypeRow) (s : Location) → IsPlainly p w t r (Place s) → ⊥
    no_plain t None s h = cc h
    no_plain t (Some (row.Basic b)) s h = no_basic b s h
    no_plain t (Some (row.Array n of)) s h = cc h
    no_plain t (Some (row.Open of)) s h = cc h
    no_plain t (Some (row.Record base fields)) s h = cc h
    no_plain t (Some (row.Pointer to)) s h = h
    no_plain t (Some (row.Object base fields)) s h = h
    no_plain t (Some (row.Procedure formals r)) s h = h
    no_plain t (Some row.Any) s h = h

    pub no_place : (t : TypeId) (v : Value) → Is p w (Plain t) v → IsNoPlace v
    no_place t (Int z) h = tt
    no_place t (Flag b) h = tt
    no_place t (Char c) h = tt
    no_place t (Set s) h = tt
    no_place t (Object o) h = tt
    no_place t (Callable q o) h = tt
    no_place t (Place s) h = no_plain t (type_row p.types t) s h

    pub no_places : (s : Shape Sort) (c : Content Value) → EachSort IsPlain s → Fits (Is p w) s c → ContentIs IsNoPlace c
    no_places (One (Plain t)) (Scalar v) plain h = no_place t v h
    no_places (One (Plain t)) Empty plain h = absurd h
    no_places (One (Plain t)) (Row a b) plain h = absurd h
    no_places (One (Variable t)) c plain h = absurd plain
    no_places (One (Alias t)) c plain h = absurd plain
    no_places (One (Elements t ns)) c plain h = absurd plain
    no_places (One (Length n)) c plain h = absurd plain
    no_places Nothing (Scalar v) plain h = absurd h
    no_places Nothing Empty plain h = tt
    no_places Nothing (Row a b) plain h = absurd h
    no_places (Pair x y) (Scalar v) plain h = absurd h
    no_places (Pair x y) Empty plain h = absurd h
    no_places (Pair x y) (Row a b) plain h = (no_places x a plain.0 h.0, no_places y b plain.1 h.1)

    -- what is stored somewhere stands where plain scalars stood
    pub record IsPut (r : Root) (change : Content Value → Content Value) : Type 0 where
      pub path : List ℕ
      pub new : Content Value
      pub is : change ≡ placed path new
      pub shape : Shape Sort
      pub there : shape_at w r path ≡ Some shape
      pub plain : EachSort IsPlain shape

    pub stored_put : (here : Here) (x : Rooted (Content Value)) (q : Question) (r : Root) (change : Content Value → Content Value) → IsStored p x q r change → Valid p here w q → IsPut r change
    stored_put here x _ _ _ (OneScalar a v) valid = record { path = a.path; new = Scalar v; is = refl; shape = One valid.0; there = valid.2; plain = valid.1 }
    stored_put here x _ _ _ (OneWhole t from to new old e e') valid =
        let s = variable_shape p.types (id_of t) in
        record {
          path = to.path;
          new = overlay s new old;
          is = refl;
          shape = join s valid.1.0;
          there = valid.1.1;
          plain = each_join IsPlain s valid.1.0 (variable_plain p.types (id_of t)) valid.1.2;
        }
    stored_put here x _ _ _ (OneText strict from n to room cs old fits e) valid =
        record { path = to.path; new = with_text cs old; is = refl; shape = _; there = valid.1.2; plain = each_repeated IsPlain valid.1.0 (One (Plain (id_of CharType))) tt }

  -- The cell of each open array that is passed by value holds a place in a frame.

  abbrev pub HoldsPlace : List ℕ → Content Value → Type 0
  HoldsPlace way c = (s : Location) × (found way c ≡ Some (Scalar (Place s))) × InFrame s.root

  abbrev pub HoldCopies : Option Procedure → Content Value → Type 0
  HoldCopies own c = (k : ℕ) → HasCopy p own k → HoldsPlace (k ∷ 0 ∷ []) c

  pub copies_kept : (own : Option Procedure) (c d : Content Value) → KeepsPlaces c d → HoldCopies own c → HoldCopies own d
  copies_kept own c d keeps h k has = let x = h k has in (x.0, keeps (k ∷ 0 ∷ []) x.0 x.1, x.2)

  -- so what is known at once of such a cell is one
  pub known_copied : (own : Option Procedure) (c : Content Value) → HoldCopies own c → (s : Location) → IsCopied p own s.path (known c s)
  known_copied own c h s k has e =
      let x = h k has in
      let is : known c s ≡ Place x.0 = ap (λ way. scalar_in (found way c)) e ∙ ap scalar_in x.1 in
      subst (λ v. InFrame (place_in v).root) (sym is) x.2

  none_copied : (own : Option Procedure) (k : ℕ) → parameters_of own ≡ [] → HasCopy p own k → ⊥
  none_copied own k e has = let no : None ≡ Some has.parameter = ap (λ ps. slice_get ps k) (sym e) ∙ has.there in cc no

  pub no_copies : (own : Option Procedure) (c : Content Value) → parameters_of own ≡ [] → HoldCopies own c
  no_copies own c e k has = absurd (none_copied own k e has)

  -- a call makes them
  module _ (here : ℕ) (x : Rooted (Content Value)) where
    abbrev contents : List Part → Content Value
    contents parts = row_of (map (λ y. y.content) parts)

    abbrev Places : List Parameter → List Part → Parameter → Type 0
    Places ps more a = (us : List Value) (c k : ℕ) → slice_get ps k ≡ Some a → HoldsPlace (k ∷ 0 ∷ []) (contents ((handed p.types here x ps us c).parameters ++ more))

    handed_place : (ps : List Parameter) (vs : List Value) (copy : ℕ) (more : List Part) (k : ℕ) (a : Parameter) → slice_get ps k ≡ Some a → is_open (type_row p.types (id_of a.of)) ≡ true → a.by_reference ≡ false →
        HoldsPlace (k ∷ 0 ∷ []) (contents ((handed p.types here x ps vs copy).parameters ++ more))
    handed_place [] vs copy more k a e opens by_value = absurd (cc e)
    handed_place (b ∷ ps) vs copy more k a e opens by_value = at_number (λ us c j e'. handed_place ps us c more j a e' opens by_value) k e
      where
        t : TypeId
        t = id_of b.of

        j : ℕ
        j = open_dimensions p.types t

        of : TypeId
        of = open_element p.types t

        lengths : List Value
        lengths = take j (drop 1 vs)

        -- the first parameter's part, and those of the others
        first : (opens by_reference scalar_one : Bool) → opens ≡ true → by_reference ≡ false → HoldsPlace (0 ∷ 0 ∷ []) (contents ((
            if opens
            then (if by_reference
            then hand (open_part of (head vs) lengths) [] (handed p.types here x ps (drop (suc j) vs) copy)
            else hand (open_part of (own_part p.types here x copy) lengths) (copied p.types here x of (head vs) lengths ∷ []) (handed p.types here x ps (drop (suc j) vs) (suc copy)))
            else if by_reference then hand (scalar (if is_record (type_row p.types t) then Variable t else Alias t) (head vs)) [] (handed p.types here x ps (drop 1 vs) copy)
            else if scalar_one then hand (scalar (Plain t) (head vs)) [] (handed p.types here x ps (drop 1 vs) copy)
            else hand (whole p.types here x t (head vs)) [] (handed p.types here x ps (drop 1 vs) copy)).parameters ++ more))
        first true false c o v = (place_in (own_part p.types here x copy), refl, (here, refl))
        first true true c o v = absurd (cc v)
        first false b c o v = absurd (cc o)

        later : Places ps more a → (k : ℕ) → slice_get ps k ≡ Some a → (opens by_reference scalar_one : Bool) → HoldsPlace (suc k ∷ 0 ∷ []) (contents ((
            if opens
            then (if by_reference
            then hand (open_part of (head vs) lengths) [] (handed p.types here x ps (drop (suc j) vs) copy)
            else hand (open_part of (own_part p.types here x copy) lengths) (copied p.types here x of (head vs) lengths ∷ []) (handed p.types here x ps (drop (suc j) vs) (suc copy)))
            else if by_reference then hand (scalar (if is_record (type_row p.types t) then Variable t else Alias t) (head vs)) [] (handed p.types here x ps (drop 1 vs) copy)
            else if scalar_one then hand (scalar (Plain t) (head vs)) [] (handed p.types here x ps (drop 1 vs) copy)
            else hand (whole p.types here x t (head vs)) [] (handed p.types here x ps (drop 1 vs) copy)).parameters ++ more))
        later others k e true true c = others (drop (suc j) vs) copy k e
        later others k e true false c = others (drop (suc j) vs) (suc copy) k e
        later others k e false true c = others (drop 1 vs) copy k e
        later others k e false false true = others (drop 1 vs) copy k e
        later others k e false false false = others (drop 1 vs) copy k e

        at_number : Places ps more a → (k : ℕ) → slice_get (b ∷ ps) k ≡ Some a → HoldsPlace (k ∷ 0 ∷ []) (contents ((handed p.types here x (b ∷ ps) vs copy).parameters ++ more))
        at_number others zero e =
            let same : b ≡ a = cc e in
            first (is_open (type_row p.types t)) b.by_reference (is_scalar (type_row p.types t)) (ap (λ (z : Parameter). is_open (type_row p.types (id_of z.of))) same ∙ opens) (ap (λ (z : Parameter). z.by_reference) same ∙ by_value)
        at_number others (suc k) e = later others k e (is_open (type_row p.types t)) b.by_reference (is_scalar (type_row p.types t))

    pub handed_copies : (own : Option Procedure) (vs : List Value) (copy : ℕ) (more : List Part) → HoldCopies own (contents ((handed p.types here x (parameters_of own) vs copy).parameters ++ more))
    handed_copies own vs copy more k has = handed_place (parameters_of own) vs copy more k has.parameter has.there has.is_opened has.by_value
