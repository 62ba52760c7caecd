-- NEW of a pointer: a record or an array is made with its lengths, and stored. WITH: an object or a record is guarded, and then statements
-- are carried out.
use Rattle.std.proofs.Common.{◌≡◌, ℕ, zero, suc, ℤ, pos, negsuc, ◌+◌, ◌≤◌, Bool, true, false, Option, List, [], ◌∷◌, ◌++◌, length, map, drop, Some, None, refl, sym, ap, ◌∙◌, subst, arith, append-nil, append_assoc, length-append}
use Rattle.std.specs.Prelude.{◌||◌, All, is_some, slice_get}
use Rattle.std.specs.List.{list_any}
use Rattle.std.proofs.lemmas.Bool.{eq-eqb}
use Rattle.std.proofs.lemmas.List.{length-map}
use Rattle.std.proofs.lemmas.List.Elements.{All-nil, All-cons}
use Rattle.std.proofs.lemmas.Int.{ints}
use Rattle.aos_base.specs.declared.limits.TheConstants.{MOST_SCALARS}
use Rattle.aos_base.specs.declared.number.Width.TheVariants.{W64}
use Rattle.aos_base.specs.declared.text.Pos.{Pos}
use Rattle.aos_base.specs.Number.{with_length, array_lengths}
use Rattle.aos_base.specs.Question.{Val, Asks, bind, ask, Stores, Makes}
use Rattle.aos_base.specs.Rooted.{Made}
use Rattle.aos_types.specs.declared.row.TypeId.{TypeId}
use Rattle.aos_types.specs.declared.row.TypeRow.{TypeRow}
use Rattle.aos_types.specs.declared.row.TypeRow.TheVariants as row
use Rattle.aos_types.specs.Sameness.{element_of}
use Rattle.aos_types.specs.Table.{row_of, is_object, is_open}
use Rattle.aos_types.specs.World.{World, Grows}
use Rattle.aos_typed.specs.declared.tree.TType.{TType}
use Rattle.aos_typed.specs.declared.tree.TType.TheVariants as type
use Rattle.aos_typed.specs.Numbers.{id_of, id_of_made}
use Rattle.aos_typed.specs.Open.{open_by, open_dimensions, first_same}
use Rattle.aos_layout.specs.Layout.{leads_to, is_made}
use Rattle.aos_typed.specs.Program.{Place, Expr, Make, With, WithRecord, Stats, Procedure, Program}
use Rattle.aos_typed.specs.Sort.{Sort, Plain}
use Rattle.aos_typed.specs.Location.{Location}
use Rattle.aos_typed.specs.Typing.{Extends, HasLengths}
use Rattle.aos_typed.specs.Value.{Value, number_of}
use Rattle.aos_typed.specs.Meaning.{Here, Doing, Item, After, Into, items_of, place_of, value_of, values_of}
use Rattle.aos_typed.specs.Conditions.{conditions, AreLinked}
use Rattle.aos_typed.specs.WellTyped.{is_value, AreStatements, target_in, target, is_any, IsLength, NamesType, AreLengthsOf}
use Rattle.aos_code.specs.declared.instr.Cell.{Cell}
use Rattle.aos_code.specs.declared.instr.Cell.TheVariants.{Num}
use Rattle.aos_code.specs.declared.instr.Instr.{Instr}
use Rattle.aos_code.specs.declared.instr.Instr.TheVariants as i
use Rattle.aos_code.specs.declared.instr.Kind.TheVariants.{R}
use Rattle.aos_code.specs.Silent.{Stack, Keeps, Act, Sees, counted_on}
use Rattle.aos_sim.specs.Cells.{place_in, cell_of}
use Rattle.aos_sim.specs.Code.{Ways, begin, place_code, value_code, values_code, stats_code, make_instr}
use Rattle.aos_sim.specs.Need.{stats_level}
use Rattle.aos_sim.proofs.Runs.{Run, Onward, Tables, on_run, runs, run, drop_next, drop_past}
use Rattle.aos_sim.proofs.Types.{number_cell, integer_is, is_integer}
use Rattle.aos_sim.proofs.Does.{addr_of, HasTypes, HasShapes, IsObject, AreIntegers, Does, Knows, placed, knows_grows, along, does_bind}
use Rattle.aos_sim.proofs.References.{made_reference, to_target, comes_same, reference_value}
use Rattle.aos_sim.proofs.Evaluates.{OfSort, OfType, number_in, pushed, OnTop, Brings, ComesTo, front_does, piece_does}
use Rattle.aos_sim.proofs.Designators.{IsFound, counted_all, places_stay}
use Rattle.aos_memory_laws.proofs.Grow.{grows_twice}
use Rattle.aos_sim.proofs.Exprs.{scalar_found, place_does, yields_do, value_does}
use Rattle.aos_sim.proofs.Carries.{Holds, HasStatements, Carries, Behind, StatementDoes, carries_all}
use Rattle.aos_sim.proofs.Stats.{from_here, last_asks}

-- What types values of these are made as.

pub object_closed : (o : Option TypeRow) → is_object o ≡ true → is_open o ≡ false
object_closed None e = absurd (cc)
object_closed (Some (row.Basic b)) e = absurd (cc)
object_closed (Some (row.Array n of)) e = absurd (cc)
object_closed (Some (row.Open of)) e = absurd (cc)
object_closed (Some (row.Record base fields)) e = absurd (cc)
object_closed (Some (row.Pointer to)) e = absurd (cc)
object_closed (Some (row.Object base fields)) e = refl
object_closed (Some (row.Procedure formals r)) e = absurd (cc)
object_closed (Some row.Any) e = absurd (cc)

pub closed_lengths : (program : Program) (m : Made) (o : Option TypeRow) → is_open o ≡ false → m.lengths ≡ [] → HasLengths program o m
closed_lengths program m None e h = h
closed_lengths program m (Some (row.Basic b)) e h = h
closed_lengths program m (Some (row.Array n of)) e h = h
closed_lengths program m (Some (row.Open of)) e h = absurd (cc)
closed_lengths program m (Some (row.Record base fields)) e h = h
closed_lengths program m (Some (row.Pointer to)) e h = h
closed_lengths program m (Some (row.Object base fields)) e h = h
closed_lengths program m (Some (row.Procedure formals r)) e h = h
closed_lengths program m (Some row.Any) e h = h

open_lengths : (program : Program) (m : Made) (o : Option TypeRow) → is_open o ≡ true → length m.lengths ≡ open_dimensions program.types (id_of_made m.type) → All IsLength m.lengths → HasLengths program o m
open_lengths program m None e h l = absurd (cc)
open_lengths program m (Some (row.Basic b)) e h l = absurd (cc)
open_lengths program m (Some (row.Array n of)) e h l = absurd (cc)
open_lengths program m (Some (row.Open of)) e h l = (h, l)
open_lengths program m (Some (row.Record base fields)) e h l = absurd (cc)
open_lengths program m (Some (row.Pointer to)) e h l = absurd (cc)
open_lengths program m (Some (row.Object base fields)) e h l = absurd (cc)
open_lengths program m (Some (row.Procedure formals r)) e h l = absurd (cc)
open_lengths program m (Some row.Any) e h l = absurd (cc)

-- a type that is no open array has no open dimension
pub none_open : (rows : List TypeRow) (t : TypeId) (n : ℕ) → is_open (row_of rows t) ≡ false → open_by n rows t ≡ 0
none_open rows t n e = by (row_of rows t) refl e n
  where
    no_element : (o : Option TypeRow) → is_open o ≡ false → element_of o ≡ None
    no_element None e = refl
    no_element (Some (row.Basic b)) e = refl
    no_element (Some (row.Array n of)) e = refl
    no_element (Some (row.Open of)) e = absurd (cc)
    no_element (Some (row.Record base fields)) e = refl
    no_element (Some (row.Pointer to)) e = refl
    no_element (Some (row.Object base fields)) e = refl
    no_element (Some (row.Procedure formals r)) e = refl
    no_element (Some row.Any) e = refl

    by : (o : Option TypeRow) → row_of rows t ≡ o → is_open o ≡ false → (n : ℕ) → open_by n rows t ≡ 0
    by o f e zero = refl
    by o f e (suc n) = rw (ap element_of f ∙ no_element o e) refl

-- an object has as many lengths as its type has open dimensions
pub made_long : (program : Program) (m : Made) → HasLengths program (row_of program.types (id_of_made m.type)) m → length m.lengths ≡ open_dimensions program.types (id_of_made m.type)
made_long program m h = by (row_of program.types (id_of_made m.type)) refl h
  where
    by : (o : Option TypeRow) → row_of program.types (id_of_made m.type) ≡ o → HasLengths program o m → length m.lengths ≡ open_dimensions program.types (id_of_made m.type)
    by (Some (row.Open of)) is h = h.0
    by o is h = ap length h ∙ sym (none_open program.types (id_of_made m.type) (length program.types) (ap is_open is))

-- lengths that have been found to be from 1 on
pub some_lengths : (zs : List ℤ) (ns : List ℕ) → array_lengths zs ≡ Some ns → length ns ≡ length zs
some_lengths [] ns e = let h : ns ≡ [] = cc in ap length h
some_lengths (z ∷ zs) ns e = by (λ ms f. some_lengths zs ms f) z (array_lengths zs) refl e
  where
    by : ((ms : List ℕ) → array_lengths zs ≡ Some ms → length ms ≡ length zs) → (z : ℤ) (o : Option (List ℕ)) → array_lengths zs ≡ o → with_length z o ≡ Some ns → length ns ≡ suc (length zs)
    by more z None f h = absurd (cc)
    by more (pos zero) (Some ms) f h = absurd (cc)
    by more (pos (suc n)) (Some ms) f h = let q : ns ≡ suc n ∷ ms = cc in ap length q ∙ ap (λ k. suc k) (more ms f)
    by more (negsuc n) (Some ms) f h = absurd (cc)

long_lengths : (zs : List ℤ) (ns : List ℕ) → array_lengths zs ≡ Some ns → All (λ n. 1 ≤ n) ns
long_lengths [] ns e = let h : ns ≡ [] = cc in subst (All (λ n. 1 ≤ n)) (sym h) (All-nil (λ n. 1 ≤ n))
long_lengths (z ∷ zs) ns e = by (λ ms f. long_lengths zs ms f) z (array_lengths zs) refl e
  where
    by : ((ms : List ℕ) → array_lengths zs ≡ Some ms → All (λ n. 1 ≤ n) ms) → (z : ℤ) (o : Option (List ℕ)) → array_lengths zs ≡ o → with_length z o ≡ Some ns → All (λ n. 1 ≤ n) ns
    by more z None f h = absurd (cc)
    by more (pos zero) (Some ms) f h = absurd (cc)
    by more (pos (suc n)) (Some ms) f h =
        let q : ns ≡ suc n ∷ ms = cc in subst (All (λ n. 1 ≤ n)) (sym q) (All-cons (λ n. 1 ≤ n) (suc n) ms (omega arith) (more ms f))
    by more (negsuc n) (Some ms) f h = absurd (cc)

both_lengths : (ns : List ℕ) → All (λ n. 1 ≤ n) ns → All (λ n. n ≤ MOST_SCALARS) ns → All IsLength ns
both_lengths ns a b i n lt = let l = a i n lt in let m = b i n lt in (l, record { low = omega (arith, ints); high = omega (arith, ints, m) })

-- objects of the type may be made that a reference leads to
any_there : (f : TypeRow → Bool) (xs : List TypeRow) (i : ℕ) (x : TypeRow) → slice_get xs i ≡ Some x → f x ≡ true → list_any f xs ≡ true
any_there f [] i x e h = absurd (cc)
any_there f (y ∷ xs) zero x e h = let q : y ≡ x = cc in ap (λ b. b || list_any f xs) (ap f q ∙ h)
any_there f (y ∷ xs) (suc i) x e h = ap (λ b. f y || b) (any_there f xs i x e h) ∙ by (f y)
  where
    by : (b : Bool) → (b || true) ≡ true
    by true = refl
    by false = refl

pub target_made : (rows : List TypeRow) (k t : TypeId) (o : Option TypeRow) → row_of rows k ≡ o → target_in rows k o ≡ Some t → is_made rows t ≡ true
target_made rows k t None f e = absurd (cc)
target_made rows k t (Some (row.Basic b)) f e = absurd (cc)
target_made rows k t (Some (row.Array n of)) f e = absurd (cc)
target_made rows k t (Some (row.Open of)) f e = absurd (cc)
target_made rows k t (Some (row.Record base fields)) f e = absurd (cc)
target_made rows k t (Some (row.Pointer to)) f e =
    let q : first_same rows to ≡ t = cc in
    ap (λ b. is_object (row_of rows t) || b) (any_there (leads_to rows t) rows k.0 (row.Pointer to) f (eq-eqb (first_same rows to).0 t.0 (ap (λ z. z.0) q)))
    ∙ by (is_object (row_of rows t))
  where
    by : (b : Bool) → (b || true) ≡ true
    by true = refl
    by false = refl
target_made rows k t (Some (row.Object base fields)) f e =
    let q : k ≡ t = cc in ap (λ b. b || list_any (leads_to rows t) rows) (ap (λ z. is_object (row_of rows z)) (sym q) ∙ ap is_object f)
target_made rows k t (Some (row.Procedure formals r)) f e = absurd (cc)
target_made rows k t (Some row.Any) f e = absurd (cc)

pub or_second : {c : Bool} (b : Bool) → c ≡ true → (b || c) ≡ true
or_second true e = refl
or_second false e = e

-- what is made so is a value of a pointer to the type
pub made_lengths : (program : Program) (t : ℕ) (es : ℕ) (vs : List Value) (ns : List ℕ) → length vs ≡ es → es ≡ open_dimensions program.types (id_of (type.Named t)) → array_lengths (map number_of vs) ≡ Some ns → All (λ n. n ≤ MOST_SCALARS) ns → HasLengths program (row_of program.types (id_of (type.Named t))) (record { type = suc t; lengths = ns })
made_lengths program t es vs ns many dims e few = by (is_open (row_of program.types id)) refl
  where
    id : TypeId
    id = id_of (type.Named t)

    long : length ns ≡ open_dimensions program.types (id_of (type.Named t))
    long = some_lengths (map number_of vs) ns e ∙ length-map vs number_of ∙ many ∙ dims

    empty : (ns : List ℕ) → length ns ≡ 0 → ns ≡ []
    empty [] l = refl
    empty (n ∷ ns) l = absurd (omega (arith, l))

    by : (b : Bool) → is_open (row_of program.types (id_of (type.Named t))) ≡ b → HasLengths program (row_of program.types (id_of (type.Named t))) (record { type = suc t; lengths = ns })
    by true is = open_lengths program (record { type = suc t; lengths = ns }) (row_of program.types (id_of (type.Named t))) is long (both_lengths ns (long_lengths (map number_of vs) ns e) few)
    by false isnt =
        closed_lengths program (record { type = suc t; lengths = ns }) (row_of program.types (id_of (type.Named t))) isnt
        (empty ns (long ∙ none_open program.types (id_of (type.Named t)) (length program.types) isnt))

module _ (program : Program) (own : Option Procedure) (tables : Tables) (number : ℕ) (here : Here) (code : List Instr) where
  abbrev onward : List Instr → Onward
  onward = runs tables number here code

  abbrev from : ℕ → Keeps → Stack → Run
  from = run tables number here code

  abbrev Leaves : List Item → World Sort → After → Run → Type 0
  Leaves = Behind program own tables number here code

  -- values that are to be lengths, one above the other
  abbrev AreValues : ℕ → World Sort → List Value → Type 0
  AreValues n w vs = (length vs ≡ n) × AreIntegers vs

  abbrev value_cells : World Sort → List Value → List Cell
  value_cells w vs = map (cell_of w) vs

  integer_numbers : (w : World Sort) (vs : List Value) → AreIntegers vs → map (cell_of w) vs ≡ map (λ z. Num z) (map number_of vs)
  integer_numbers w [] h = refl
  integer_numbers w (v ∷ vs) h = λ j. number_cell w (type.Integer W64) v (integer_is W64 v h.0) j ∷ integer_numbers w vs h.1 j

  module _ (typed : HasTypes program) (shaped : HasShapes program tables) where
    values_do : (es : List Expr) → AreLengthsOf program own es → (at : ℕ) → Brings program own tables number here code (AreValues (length es)) value_cells (values_code program own es at) (values_of program here es) at
    values_do [] ok at w known rest k s = record { is = (refl, tt); run = let e : at ≡ at + 0 = omega arith in ap (λ z. onward rest 0 z k s) e }
    values_do (e ∷ es) ok at w known rest k s =
        let ce = value_code program own e at in
        let pe = at + length ce in
        let cs = values_code program own es pe in
        let q = at + length (ce ++ cs) in
        let n : pe + length cs ≡ q = omega (arith, length-append ce cs) in
        let wide = type.Integer W64 in
        let Last = OnTop tables number here code (AreValues (suc (length es))) value_cells rest q k s in
        piece_does program own tables number here code (OfType wide) number_in Last (λ v. bind (values_of program here es) (λ vs. Val (v ∷ vs))) ce cs (value_of program here e) at rest k s
        (value_does program own tables number here code typed shaped e wide refl ok.0 at) w known
        (λ w1 up v m is f. along program here Last w1 m _ (bind (values_of program here es) (λ vs. Val (v ∷ vs))) f
        (does_bind program here (OnTop tables number here code (AreValues (length es)) value_cells rest (pe + length cs) k (number_in w1 v ∷ s)) Last w1 _ (values_of program here es) (λ vs. Val (v ∷ vs))
        (values_do es ok.1 pe w1 (knows_grows program own here w w1 up known) rest k (number_in w1 v ∷ s))
        (λ w2 up2 vs m' h. record {
          is = (ap (λ n. suc n) h.is.0, (is_integer W64 v is, h.is.1));
          run = h.run ∙ ap (λ z. onward rest 0 z k (pushed (value_cells w2 vs) (number_in w2 v ∷ s))) n
              ∙ ap (λ c. onward rest 0 q k (pushed (value_cells w2 vs) (c ∷ s))) (sym (number_cell w2 wide v is));
        })))

    -- the instruction that makes a record or an array of a type, above whose place its lengths lie
    make_asks : (t : ℕ) (w : World Sort) (vs : List Value) (n : ℕ) → AreValues n w vs → (rest : List Instr) (p : ℕ) (k : Keeps) (s : Stack) → onward (make_instr t n ∷ rest) 0 p k (pushed (value_cells w vs) s) ≡ Asks (placed program w (Makes (suc t) vs)) (λ x. onward rest 0 (p + 1) k (x ∷ s))
    make_asks t w [] zero h rest p k s = let number_is : t + 1 ≡ suc t = omega arith in ap (λ n. Asks (Makes n []) (λ x. onward rest 0 (p + 1) k (x ∷ s))) number_is
    make_asks t w [] (suc n) h rest p k s = absurd (let l = h.0 in omega (arith, l))
    make_asks t w (v ∷ vs) zero h rest p k s = absurd (let l = h.0 in omega (arith, l))
    make_asks t w (v ∷ vs) (suc n) h rest p k s =
        let all = v ∷ vs in
        let zs = map number_of all in
        let go : List ℤ → Stack → Act = λ zs s'. Sees (Makes (t + 1) (map (λ z. Num z) zs)) s' in
        let cells = integer_numbers w all h.1 in
        let long : suc n ≡ length zs = sym h.0 ∙ sym (length-map all number_of) in
        let acts : counted_on (suc n) [] go (pushed (value_cells w all) s) ≡ Sees (Makes (t + 1) (map (cell_of w) all)) s = (λ j. counted_on (long j) [] go (pushed (cells j) s)) ∙ counted_all zs [] go s
        ∙ ap (λ ys. go ys s) (append-nil zs) ∙ ap (λ cs. Sees (Makes (t + 1) cs) s) (sym cells) in
        let number_is : t + 1 ≡ suc t = omega arith in
        ap (λ a. on_run tables a (onward rest) p k) acts ∙ ap (λ j. Asks (Makes j (map (cell_of w) all)) (λ x. onward rest 0 (p + 1) k (x ∷ s))) number_is

  module _ (x : Ways) (d : ℕ) (k : Keeps) (after : List Item) where
    abbrev Carried : ℕ → Type 0
    Carried p = Carries program own tables number here code after p x d k

    module _ (typed : HasTypes program) (shaped : HasShapes program tables) where
      -- a pointer's record or array
      pub make_does : (there : Pos) (pl : Place) (t : ℕ) (ns : List Expr) → StatementDoes program own tables number here code x d k after (Make there pl t ns)
      make_does there pl t ns w at known has c =
          let u = has.typed.0.0 in
          let to = has.typed.0.2 in
          let named = NamesType program own pl u in
          let cp = place_code program own pl (at + 1) in
          let pn = at + 1 + length cp in
          let cn = values_code program own ns pn in
          let p = pn + length cn in
          let make = make_instr t (length ns) in
          let last = make ∷ (i.Store R ∷ []) in
          let xs = cp ++ (cn ++ last) in
          let rest = has.stands.rest in
          let flat : xs ++ rest ≡ cp ++ (cn ++ (last ++ rest)) = simp append_assoc in
          let h1 : drop (at + 1) code ≡ xs ++ rest = drop_next at code (begin there) (xs ++ rest) has.stands.here in
          let h2 : drop p code ≡ make ∷ (i.Store R ∷ rest) = drop_past cn pn code (last ++ rest) (drop_past cp (at + 1) code (cn ++ (last ++ rest)) (h1 ∙ flat)) in
          let h3 : drop (p + 1 + 1) code ≡ rest = drop_next (p + 1) code (i.Store R) rest (drop_next p code make (i.Store R ∷ rest) h2) in
          let len : at + suc (length xs) ≡ p + 1 + 1 = omega (arith, length-append cp (cn ++ last), length-append cn last) in
          along program here (Leaves after) w _ _ (bind (place_of program here pl) (λ s. bind (values_of program here ns) (λ vs. bind (ask (Makes (suc t) vs)) (λ o. bind (ask (Stores s o)) (λ _. Val (Into [])))))) (from_here program own tables number here code (at + 1) (xs ++ rest) k [] h1)
          (piece_does program own tables number here code (IsFound program named u) place_in (Leaves after) (λ s. bind (values_of program here ns) (λ vs. made s vs)) cp (cn ++ last) (place_of program here pl) (at + 1) rest k []
          (place_does program own tables number here code typed shaped pl u has.typed.0.1 (at + 1)) w known
          (λ w1 up a m found e. along program here (Leaves after) w1 m _ (bind (values_of program here ns) (λ vs. made a vs)) e
          (front_does program own tables number here code (AreValues (length ns)) value_cells (Leaves after) (λ vs. made a vs) cn last (values_of program here ns) pn rest k (place_in w1 a ∷ [])
          (values_do typed shaped ns has.typed.3 pn) w1 (knows_grows program own here w w1 up known)
          (λ w2 up2 vs m2 are e2. (
            (λ y. onward (i.Store R ∷ rest) 0 (p + 1) k (y ∷ (place_in w1 a ∷ []))),
            e2 ∙ make_asks typed shaped t w2 vs (length ns) are (i.Store R ∷ rest) p k (place_in w1 a ∷ []),
            (t, refl, has.typed.1, are.0 ∙ has.typed.4, are.1, target_made program.types (id_of u) (id_of (type.Named t)) (row_of program.types (id_of u)) refl to),
            λ w3 up3 v new.
                let up13 : Grows w1 w3 = grows_twice w1 w2 w3 up2 up3 in
                let stay = places_stay program own tables number here code named u w1 w3 up13 a found in
                stores w3 u a named stay.0 to v new.0 new.2 (made_lengths program t (length ns) vs new.0 are.0 has.typed.4 new.1 new.3) _ rest (p + 1)
                (ap (λ z. onward (i.Store R ∷ rest) 0 (p + 1) k (cell_of w3 v ∷ (z ∷ []))) stay.1) h3 (subst Carried len c),
          )))))
        where
          made : Location → List Value → Doing After
          made s vs = bind (ask (Makes (suc t) vs)) (λ o. bind (ask (Stores s o)) (λ _. Val (Into [])))

          stores : (w3 : World Sort) (u : TType) (a : Location) (named : Type 0) → IsFound program named u w3 a → target program.types u ≡ Some (id_of (type.Named t)) → (v : Value) (ls : List ℕ) → IsObject w3 v (record { type = suc t; lengths = ls }) → HasLengths program (row_of program.types (id_of (type.Named t))) (record { type = suc t; lengths = ls }) → (m : Run) (rest : List Instr) (p : ℕ) → m ≡ onward (i.Store R ∷ rest) 0 p k (cell_of w3 v ∷ (place_in w3 a ∷ [])) → drop (p + 1) code ≡ rest → Carried (p + 1) → Does program here (Leaves after) w3 m (bind (ask (Stores a v)) (λ _. Val (Into [])))
          stores w3 u a named is to v ls obj lengths m rest p run there_after cont =
              let id = id_of (type.Named t) in
              let value : is_value program.types u ≡ true = reference_value program u (or_second (is_any u) (ap is_some to)) in
              let as_made : Made = record { type = suc t; lengths = ls } in
              last_asks program own tables number here code x d k after (Stores a v) w3 m p rest
              (run ∙ ap (λ z. onward (i.Store R ∷ rest) 0 p k (z ∷ (place_in w3 a ∷ []))) (ap (cell_of w3) obj.is) ∙ ap (λ z. Asks (Stores (addr_of w3 a) z) (λ y. onward rest 0 (p + 1) k [])) (sym (ap (cell_of w3) obj.is))) (
                Plain (id_of u),
                tt,
                scalar_found program own tables number here code typed u value w3 a named is,
                to_target program w3 u id v to (made_reference program w3 (Extends program id) v as_made obj lengths (comes_same program.types id)),
              ) there_after cont

      -- WITH: what is guarded is dropped
      guarded_does : {A : Type 0} (P : World Sort → A → Type 0) (c : World Sort → A → Cell) (there : Pos) (xs : List Instr) (r : Doing A) (b : Stats) (w : World Sort) (at : ℕ) → Knows program own here w → ComesTo program own tables number here code P c xs r (at + 1) → (st : List Instr) → drop at code ≡ begin there ∷ ((xs ++ i.Drop ∷ stats_code program own b (at + 1 + length xs + 1) x d) ++ st) → AreStatements program own b → (home : ℕ) → AreLinked (conditions program) home own b → Holds program own tables number here code (stats_level b d) → Carried (at + suc (length (xs ++ i.Drop ∷ stats_code program own b (at + 1 + length xs + 1) x d))) → Does program here (Leaves after) w (from (at + 1) k []) (bind r (λ _. Val (Into (items_of b))))
      guarded_does P c there xs r b w at known ha st here_is ok home links holds cont =
          let p = at + 1 + length xs in
          let cs = stats_code program own b (p + 1) x d in
          let tail = i.Drop ∷ cs in
          let h1 : drop (at + 1) code ≡ (xs ++ tail) ++ st = drop_next at code (begin there) ((xs ++ tail) ++ st) here_is in
          let h2 : drop p code ≡ i.Drop ∷ (cs ++ st) = drop_past xs (at + 1) code (tail ++ st) (h1 ∙ append_assoc xs tail st) in
          let h3 : drop (p + 1) code ≡ cs ++ st = drop_next p code i.Drop (cs ++ st) h2 in
          let inner : HasStatements program own tables number here code b (p + 1) x d = record { stands = record { rest = st; here = h3 }; typed = ok; home = home; linked = links; holds = holds } in
          let len : at + suc (length (xs ++ tail)) ≡ p + 1 + length cs = omega (arith, length-append xs tail) in
          let all = carries_all program own tables number here code b (p + 1) x d k after inner (subst Carried len cont) in
          along program here (Leaves after) w _ _ (bind r (λ _. Val (Into (items_of b)))) (from_here program own tables number here code (at + 1) ((xs ++ tail) ++ st) k [] h1)
          (piece_does program own tables number here code P c (Leaves after) (λ _. Val (Into (items_of b))) xs tail r (at + 1) st k [] ha w known
          (λ w1 up a m is e. record { at = p + 1; ways = x; level = d; keeps = k; runs = e ∙ sym (from_here program own tables number here code (p + 1) (cs ++ st) k [] h3); carries = all }))

      pub with_does : (there : Pos) (e : Expr) (b : Stats) → StatementDoes program own tables number here code x d k after (With there e b)
      with_does there e b w at known has c =
          let u = has.typed.0.0 in
          guarded_does (OfSort program own tables number here code u) cell_of there (value_code program own e (at + 1)) (value_of program here e) b w at known
          (yields_do program own tables number here code typed shaped e u has.typed.0.1 (at + 1)) has.stands.rest has.stands.here has.typed.1 has.home has.linked has.holds c

      pub with_record_does : (there : Pos) (p : Place) (b : Stats) → StatementDoes program own tables number here code x d k after (WithRecord there p b)
      with_record_does there p b w at known has c =
          let u = has.typed.0.0 in
          guarded_does (IsFound program (NamesType program own p u) u) place_in there (place_code program own p (at + 1)) (place_of program here p) b w at known
          (place_does program own tables number here code typed shaped p u has.typed.0.1 (at + 1)) has.stands.rest has.stands.here has.typed.1 has.home has.linked has.holds c
