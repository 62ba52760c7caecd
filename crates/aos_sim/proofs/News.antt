-- NEW of an object: what its initializer is handed is kept while the object is made, then the initializer is called, the object is stored,
-- and its body is carried out.
use Rattle.std.proofs.Common.{◌≡◌, ℕ, suc, ◌+◌, ◌<◌, Bool, true, false, Option, Some, None, List, [], ◌∷◌, ◌++◌, length, map, drop, if◌then◌else◌, refl, sym, ap, ◌∙◌, subst, arith, append_assoc, length-append}
use Rattle.std.proofs.Common.{◌⊎◌, inl, inr}
use Rattle.std.specs.Prelude.{◌||◌, is_some, reverse, option_and_then}
use Rattle.std.specs.List.{list_any}
use Rattle.std.proofs.Math.Nat.{le-max_left, le-max_right}
use Rattle.std.proofs.lemmas.Option.{slice_get_within}
use Rattle.aos_base.specs.declared.text.Pos.{Pos}
use Rattle.aos_base.specs.Question.{Initially, ByCreator, Val, Asks, bind, ask, Stores, Calls, Makes, Starts}
use Rattle.aos_base.specs.Rooted.{Made}
use Rattle.aos_types.specs.declared.row.TypeId.{TypeId}
use Rattle.aos_types.specs.declared.row.TypeRow.{TypeRow}
use Rattle.aos_types.specs.Extension.{comes_to}
use Rattle.aos_types.specs.Table.{row_of, is_object, is_open, is_scalar}
use Rattle.aos_types.specs.World.{World, Grows}
use Rattle.aos_types.proofs.Tables.{comes_on}
use Rattle.aos_typed.specs.declared.tree.TType.{TType}
use Rattle.aos_typed.specs.declared.tree.TType.TheVariants as type
use Rattle.aos_typed.specs.Methods.{method_in, method_number, body_type, is_active, initializer}
use Rattle.aos_typed.specs.Numbers.{id_of, id_of_made, predeclared_types, body_number}
use Rattle.aos_typed.specs.Open.{open_dimensions}
use Rattle.aos_typed.specs.Program.{Place, Arguments, NoMore, Scalar, Whole, Opening, New, Parameter, Procedure, Program}
use Rattle.aos_typed.specs.Operands.{operands}
use Rattle.aos_typed.specs.Routines.{parameters_of}
use Rattle.aos_typed.specs.Sort.{Sort, Plain}
use Rattle.aos_typed.specs.Location.{Location}
use Rattle.aos_typed.specs.Typing.{Extends, HasLengths}
use Rattle.aos_typed.specs.Value.{Value, Object}
use Rattle.aos_typed.specs.Meaning.{Here, Doing, Item, After, Into, place_of, arguments_of, initialized, carried_out}
use Rattle.aos_typed.specs.WellTyped.{target, NamesType, IsPlaceOf, IsGiven, IsFilled, AreArguments, IsInitialized}
use Rattle.aos_layout.specs.Frame.{parameter_kind}
use Rattle.aos_layout.specs.Layout.{leads_to}
use Rattle.aos_code.specs.declared.instr.Cell.{Cell}
use Rattle.aos_code.specs.declared.instr.Cell.TheVariants.{Ref}
use Rattle.aos_code.specs.declared.instr.Instr.{Instr}
use Rattle.aos_code.specs.declared.instr.Instr.TheVariants as i
use Rattle.aos_code.specs.declared.instr.Kind.{Kind}
use Rattle.aos_code.specs.declared.instr.Kind.TheVariants.{N, R}
use Rattle.aos_code.specs.Silent.{Stack, Keeps, kinds_of, kept}
use Rattle.aos_sim.specs.Cells.{place_in, cell_of}
use Rattle.aos_sim.specs.Code.{Ways, begin, place_code, arguments_code, handed_kinds, stash, unstash, initialize_code, carry_out_instr, store_code, initial_kinds}
use Rattle.aos_sim.proofs.Runs.{Run, Onward, Tables, runs, drop_next, drop_past, pushed_reverse}
use Rattle.aos_sim.proofs.Does.{HasTypes, HasShapes, IsObject, IsSelf, Given, Valid, Does, knows_grows, along, does_bind, given_grows, given_cells}
use Rattle.aos_sim.proofs.References.{made_reference, to_target, comes_same, reference_value}
use Rattle.aos_sim.proofs.Methods.{HasBody}
use Rattle.aos_sim.proofs.Routines.{object_there}
use Rattle.aos_sim.proofs.Objects.{object_target}
use Rattle.aos_sim.proofs.Evaluates.{pushed, front_does, piece_does}
use Rattle.aos_sim.proofs.Designators.{IsFound, places_stay}
use Rattle.aos_memory_laws.proofs.Grow.{grows_twice}
use Rattle.aos_sim.proofs.Called.{AreOf, are_reversed, are_many, given_are, kinds_for, kinds_first, method_asks}
use Rattle.aos_sim.proofs.Sends.{Answered, asked_does, method_given, method_on}
use Rattle.aos_sim.proofs.Exprs.{scalar_found, dimensions_are, place_does, arguments_do}
use Rattle.aos_sim.proofs.Carries.{Below, kept_here, kept_below, Carries, survives, GoesOn, Behind, StatementDoes}
use Rattle.aos_sim.proofs.Stats.{from_here, goes_on, last_asks}
use Rattle.aos_sim.proofs.Stash.{Room, Holding, stashed, stashed_below, stashed_holds, length-stash, length-unstash, keeps_one, takes_one, stash_runs, unstash_runs}
use Rattle.aos_sim.proofs.Making.{object_closed, closed_lengths, none_open}
use Rattle.std.proofs.lemmas.List.{length-reverse, length-replicate}

-- How many operands are handed over.

module _ (program : Program) where
  abbrev all_kinds : List Parameter → List Kind
  all_kinds as' = kinds_of (map (parameter_kind program.types) as')

  -- a parameter that is no open array has one
  one_kind : (o b c : Bool) (t : TypeId) → o ≡ false → length (kinds_for program o b c t) ≡ 1
  one_kind true b c t e = absurd (cc)
  one_kind false true c t e = refl
  one_kind false false true t e = refl
  one_kind false false false t e = refl

  open_kinds : (o b c : Bool) (t : TypeId) → o ≡ true → length (kinds_for program o b c t) ≡ suc (open_dimensions program.types t)
  open_kinds true b c t e = ap (λ n. suc n) (length-replicate (open_dimensions program.types t) N)
  open_kinds false b c t e = absurd (cc)

  given_closed : (own : Option Procedure) (a : Parameter) (p : Place) (u : TType) → IsGiven program own a p u → is_open (row_of program.types (id_of a.of)) ≡ false
  given_closed own a p u (inl (h, isnt)) = h.0
  given_closed own a p u (inr (inl h)) = h.0
  given_closed own a p u (inr (inr h)) = h.0.0

  whole_closed : (own : Option Procedure) (a : Parameter) (p : Place) → ((u : TType) × IsPlaceOf program own p u × IsGiven program own a p u) ⊎ IsFilled program own a p → is_open (row_of program.types (id_of a.of)) ≡ false
  whole_closed own a p (inl h) = given_closed own a p h.0 h.2
  whole_closed own a p (inr f) = f.2.0

  first_kinds : (a : Parameter) (rest as' : List Parameter) → as' ≡ a ∷ rest → length (all_kinds as') ≡ length (kinds_for program (is_open (row_of program.types (id_of a.of))) a.by_reference (is_scalar (row_of program.types (id_of a.of))) (id_of a.of)) + length (all_kinds rest)
  first_kinds a rest as' e =
      ap (λ l. length (all_kinds l)) e ∙ ap length (kinds_first program a (map (parameter_kind program.types) rest))
      ∙ length-append (kinds_for program (is_open (row_of program.types (id_of a.of))) a.by_reference (is_scalar (row_of program.types (id_of a.of))) (id_of a.of)) (all_kinds rest)

  closed_first : (a : Parameter) (rest as' : List Parameter) (n : ℕ) → as' ≡ a ∷ rest → is_open (row_of program.types (id_of a.of)) ≡ false → length (all_kinds rest) ≡ n → length (all_kinds as') ≡ suc n
  closed_first a rest as' n e closed more =
      let first = first_kinds a rest as' e in
      let one = one_kind (is_open (row_of program.types (id_of a.of))) a.by_reference (is_scalar (row_of program.types (id_of a.of))) (id_of a.of) closed in
      omega (arith, first, one, more)

-- as many as the kinds of what the parameters take
module _ (program : Program) (own : Option Procedure) (tables : Tables) (number : ℕ) (here : Here) (code : List Instr) where
  operands_are : (us : Arguments) (as' : List Parameter) → AreArguments program own us as' → length (all_kinds program as') ≡ operands us
  operands_are NoMore as' ok = ap (λ l. length (all_kinds program l)) ok
  operands_are (Scalar e more) as' ok = closed_first program ok.0 ok.1 as' (operands more) ok.2 ok.3.0 (operands_are more ok.1 ok.6)
  operands_are (Whole p more) as' ok = closed_first program ok.0 ok.1 as' (operands more) ok.2 (whole_closed program own ok.0 p ok.3) (operands_are more ok.1 ok.4)
  operands_are (Opening r more) as' ok =
      let a = ok.0 in
      let first = first_kinds program a ok.1 as' ok.4 in
      let one = open_kinds program (is_open (row_of program.types (id_of a.of))) a.by_reference (is_scalar (row_of program.types (id_of a.of))) (id_of a.of) ok.5.0 in
      let many = ok.5.1 in
      let dims = dimensions_are program own tables number here code r ok.2 ok.3 ok.6 in
      let rest = operands_are more ok.1 ok.8 in
      omega (arith, first, one, many, dims, rest)

-- What an initializer is handed.
module _ (program : Program) (own : Option Procedure) where
  abbrev IsInitial : (slot : Option ℕ) → (type : ℕ) → List Parameter → Type 0
  IsInitial None t as' = Unit {0}
  IsInitial (Some k) t as' = (q : Procedure) × (method_in program t k ≡ Some q) × (q.result ≡ None) × (q.parameters ≡ as')

  record IsHanded (slot : Option ℕ) (t : ℕ) (more : Arguments) : Type 0 where
    parameters : List Parameter
    arguments : AreArguments program own more parameters
    kinds : initial_kinds program own slot t ≡ reverse (all_kinds program parameters)
    initial : IsInitial slot t parameters

  is_handed : HasTypes program → (slot : Option ℕ) (t : ℕ) (more : Arguments) → IsInitialized program own slot t more → IsHanded slot t more
  is_handed typed None t more ok = record { parameters = []; arguments = subst (λ us. AreArguments program own us []) (sym ok) refl; kinds = refl; initial = tt }
  is_handed typed (Some k) t more ok =
      let q = ok.0 in
      let f = typed.methods.found t k q ok.1 in
      record {
        parameters = q.parameters;
        arguments = ok.3;
        kinds = ap (λ o. reverse (handed_kinds program.types (parameters_of (option_and_then (λ r. r.own) o)))) f.there;
        initial = (q, ok.1, ok.2, refl);
      }

-- an object type has something beside it
pub object_below : (program : Program) → HasTypes program → (t : ℕ) → is_object (row_of program.types (id_of (type.Named t))) ≡ true → t < length program.objects
object_below program typed t object = by (row_of program.types (id_of (type.Named t))) refl object
  where
    by : (o : Option TypeRow) → row_of program.types (id_of (type.Named t)) ≡ o → is_object o ≡ true → t < length program.objects
    by None f e = absurd (cc)
    by (Some r) f e = let l = slice_get_within program.types (t + predeclared_types) r f in let b = typed.beside in omega (arith, l, b)

-- as which an object of a type is made
abbrev as_made : ℕ → Made
as_made t = record { type = suc t; lengths = [] }

module _ (program : Program) (own : Option Procedure) (tables : Tables) (number : ℕ) (here : Here) (code : List Instr) (typed : HasTypes program) (shaped : HasShapes program tables) (x : Ways) (d : ℕ) (after : List Item) where
  abbrev onward : List Instr → Onward
  onward = runs tables number here code

  abbrev Leaves : World Sort → After → Run → Type 0
  Leaves = Behind program own tables number here code after

  abbrev Carried : ℕ → Keeps → Type 0
  Carried p k = Carries program own tables number here code after p x d k

  abbrev Fits : ℕ → Type 0
  Fits n = Room tables number here code n

  -- no value is needed of what was asked last
  abbrev then_done : Doing Value → Doing After
  then_done r = bind r (λ _. Val (Into []))

  -- an object lies on top, whose body is carried out
  module _ (t b o : ℕ) (has : HasBody program t b) (made : Made) (w : World Sort) (there : w.made (suc o) ≡ Some made) (lengths : HasLengths program (row_of program.types (id_of_made made.type)) made) (comes : comes_to program.types (id_of_made made.type) (id_of (type.Named t)) ≡ true) (is_made : made.type ≡ suc t) (is_body : body_type program t ≡ Some b) (rest : List Instr) (p : ℕ) (k : Keeps) (behind : drop (p + 1) code ≡ rest) (cont : Carried (p + 1) k) where
    abbrev creator_calls : ℕ
    creator_calls = body_number program b

    abbrev own_body : Procedure
    own_body = has.object.body

    called_by_creator : (m : Run) → m ≡ onward (i.Call creator_calls ∷ rest) 0 p k (Ref (suc o) ∷ []) → Does program here Leaves w m (then_done (ask (Calls ByCreator creator_calls (Object (suc o) ∷ []))))
    called_by_creator m e =
        let number_is = object_there program b has.object has.there in
        let none : Given program w own_body.parameters [] = subst (λ l. Given program w l []) (sym has.body.plain) refl in
        let extends = comes_on program.types typed.ranked (id_of_made made.type) (id_of (type.Named t)) (id_of (type.Named b)) comes has.extends in
        let self : IsSelf program w.made (Some b) (suc o) = (o, made, refl, there, lengths, extends) in
        let asks = asked_does program own tables number here code typed shaped ByCreator creator_calls has.object.home own_body number_is (Object (suc o) ∷ []) w
        (method_given program own tables number here code typed shaped own_body b (suc o) has.body.own w [] none) (method_on program own tables number here code typed shaped own_body b (suc o) has.body.own w [] self) rest p k [] m
        (e ∙ method_asks program tables shaped creator_calls has.object.home own_body number_is here w [] none number code rest p k [] b o has.body.own) in
        does_bind program here (Answered program own tables number here code None rest (p + 1) k []) Leaves w m (ask (Calls ByCreator creator_calls (Object (suc o) ∷ []))) (λ _. Val (Into []))
        (subst (λ r. Does program here (Answered program own tables number here code r rest (p + 1) k []) w m (ask (Calls ByCreator creator_calls (Object (suc o) ∷ [])))) has.body.proper asks)
        (λ w2 up v m2 h. subst (λ z. GoesOn program own tables number here code after z) (sym h.run) (goes_on program own tables number here code x d k after (p + 1) rest behind cont))

    carried_does : (m : Run) → m ≡ onward (carry_out_instr program own b ∷ rest) 0 p k (Ref (suc o) ∷ []) → Does program here Leaves w m (then_done (carried_out program (Some b) (Object (suc o))))
    carried_does m e = by (is_active program b) refl e
      where
        by : (c : Bool) → is_active program b ≡ c → m ≡ onward ((if c then i.Start else i.Call creator_calls) ∷ rest) 0 p k (Ref (suc o) ∷ []) → Does program here Leaves w m (then_done (if c then ask (Starts (Object (suc o))) else ask (Calls ByCreator creator_calls (Object (suc o) ∷ []))))
        by true active e =
            last_asks program own tables number here code x d k after (Starts (Object (suc o))) w m p rest e
            (o, refl, made, there, record { of = t; body = b; made = is_made; has = is_body; active = active }) behind cont
        by false active e = called_by_creator m e

  module _ (t : ℕ) (object : is_object (row_of program.types (id_of (type.Named t))) ≡ true) (room : Fits (suc d)) (a : Location) (names : Type 0) (o : ℕ) where
    abbrev object_id : TypeId
    object_id = id_of (type.Named t)

    abbrev new_object : Value
    new_object = Object (suc o)

    lengths_of : HasLengths program (row_of program.types (id_of (type.Named t))) (as_made t)
    lengths_of = closed_lengths program (as_made t) (row_of program.types (id_of (type.Named t))) (object_closed (row_of program.types (id_of (type.Named t))) object) refl

    -- it is stored, and then its body is carried out
    abbrev storing : Option ℕ → Doing After
    storing body = bind (ask (Stores a (Object (suc o)))) (λ _. then_done (carried_out program body (Object (suc o))))

    may_store : (w : World Sort) → IsFound program names (type.Named t) w a → w.made (suc o) ≡ Some (as_made t) → Valid program here w (Stores a (Object (suc o)))
    may_store w is made =
        let to : target program.types (type.Named t) ≡ Some object_id = object_target program.types object_id (row_of program.types object_id) object in
        let value = reference_value program (type.Named t) (ap is_some to) in
        let obj : IsObject w new_object (as_made t) = record { number = o; is = refl; made = made } in (
          Plain object_id,
          tt,
          scalar_found program own tables number here code typed (type.Named t) value w a names is,
          to_target program w (type.Named t) object_id new_object to (made_reference program w (Extends program object_id) new_object (as_made t) obj lengths_of (comes_same program.types object_id)),
        )

    stored_does : (body : Option ℕ) → body_type program t ≡ body → (w : World Sort) → IsFound program names (type.Named t) w a → w.made (suc o) ≡ Some (as_made t) → (rest : List Instr) (p : ℕ) (k : Keeps) → drop p code ≡ store_code program own body d ++ rest → ((k' : Keeps) → Below d k k' → Carried (p + length (store_code program own body d)) k') → (m : Run) → m ≡ onward (store_code program own body d ++ rest) 0 p k (Ref (suc o) ∷ (place_in w a ∷ [])) → Does program here Leaves w m (storing body)
    stored_does None is w found made rest p k h cont m e =
        last_asks program own tables number here code x d k after (Stores a new_object) w m p rest e (may_store w found made) (drop_next p code (i.Store R) rest h) (cont k (λ c lt. refl))
    stored_does (Some b) is w found made rest p k h cont m e =
        let k' = kept d (Ref (suc o)) k in
        let carry = carry_out_instr program own b in
        let behind = i.Kept d R ∷ (carry ∷ rest) in
        let p3 = p + 1 + 1 + 1 in
        let h3 : drop p3 code ≡ behind = drop_next (p + 1 + 1) code (i.Store R) behind (drop_next (p + 1) code (i.Keep d R) (i.Store R ∷ behind) (drop_next p code i.Dup (i.Keep d R ∷ (i.Store R ∷ behind)) h)) in
        let h5 : drop (p3 + 1 + 1) code ≡ rest = drop_next (p3 + 1) code carry rest (drop_next p3 code (i.Kept d R) (carry ∷ rest) h3) in
        let five : p + 5 ≡ p3 + 1 + 1 = omega arith in (
          (λ y. onward behind 0 p3 k' []),
          e ∙ keeps_one tables number here code d R (Ref (suc o)) (i.Store R ∷ behind) (p + 1) k (Ref (suc o) ∷ (place_in w a ∷ [])) room refl,
          may_store w found made,
          λ w2 up u y.
              carried_does t b o (typed.methods.bodies t b is) (as_made t) w2 (up.made (suc o) (as_made t) made) lengths_of (comes_same program.types object_id) refl is rest (p3 + 1) k' h5
              (subst (λ j. Carried j k') five (cont k' (kept_below d d (Ref (suc o)) k (omega arith)))) (onward behind 0 p3 k' [])
              (takes_one tables number here code d R (Ref (suc o)) (carry ∷ rest) p3 k' [] room refl (kept_here d (Ref (suc o)) k)),
        )

    -- the initializer is called before
    module _ (body : Option ℕ) (is : body_type program t ≡ body) where
      initialized_does : (slot : Option ℕ) (as' : List Parameter) → IsInitial program own slot t as' → (w : World Sort) → IsFound program names (type.Named t) w a → w.made (suc o) ≡ Some (as_made t) → (vs : List Value) → Given program w as' vs → (us : List Cell) → us ≡ reverse (map (cell_of w) vs) → AreOf (initial_kinds program own slot t) us → (rest : List Instr) (p : ℕ) (k : Keeps) → Holding us d k → Fits (d + length us) → drop (p + length (initialize_code program own slot t (initial_kinds program own slot t) d)) code ≡ store_code program own body d ++ rest → ((k' : Keeps) → Below d k k' → Carried (p + length (initialize_code program own slot t (initial_kinds program own slot t) d) + length (store_code program own body d)) k') → (m : Run) → m ≡ onward (initialize_code program own slot t (initial_kinds program own slot t) d ++ (store_code program own body d ++ rest)) 0 p k (Ref (suc o) ∷ (place_in w a ∷ [])) → Does program here Leaves w m (bind (initialized program slot t (Object (suc o)) vs) (λ _. storing body))
      initialized_does None as' init w found made vs given us are_us are rest p k holds fits h cont m e =
          let none : p + 0 ≡ p = omega arith in
          stored_does body is w found made rest p k (ap (λ j. drop j code) (sym none) ∙ h) (λ k' below. subst (λ j. Carried (j + length (store_code program own body d)) k') none (cont k' below)) m e
      initialized_does (Some slot) as' init w found made vs given us are_us are rest p k holds fits h cont m e =
          let q = init.0 in
          let f = typed.methods.found t slot q init.1 in
          let n = method_number program t slot in
          let ks = initial_kinds program own (Some slot) t in
          let back = unstash ks d in
          let tail = store_code program own body d ++ rest in
          let s : Stack = Ref (suc o) ∷ (place_in w a ∷ []) in
          let p' = p + 1 + length us in
          let given' : Given program w q.parameters vs = subst (λ l. Given program w l vs) (sym init.3) given in
          let cells = map (cell_of w) vs in
          let self : IsSelf program w.made (Some f.self) (suc o) = (o, as_made t, refl, made, lengths_of, f.extends) in
          let runs_so : m ≡ onward (i.Call n ∷ tail) 0 p' k (pushed cells (Ref (suc o) ∷ s)) = e
          ∙ ap (λ l. onward l 0 (p + 1) k (Ref (suc o) ∷ s)) (append_assoc back (i.Call n ∷ []) tail)
          ∙ unstash_runs tables number here code ks us d (i.Call n ∷ tail) (p + 1) k (Ref (suc o) ∷ s) are holds fits
          ∙ ap (λ l. onward (i.Call n ∷ tail) 0 p' k (l ++ (Ref (suc o) ∷ s))) are_us
          ∙ ap (λ l. onward (i.Call n ∷ tail) 0 p' k l) (sym (pushed_reverse cells (Ref (suc o) ∷ s))) in
          let asks = asked_does program own tables number here code typed shaped Initially n f.home q f.there (Object (suc o) ∷ vs) w
          (method_given program own tables number here code typed shaped q f.self (suc o) f.is w vs given') (method_on program own tables number here code typed shaped q f.self (suc o) f.is w vs self) tail p' k s m
          (runs_so ∙ method_asks program tables shaped n f.home q f.there here w vs given' number code tail p' k s f.self o f.is) in
          let long : p' + 1 ≡ p + length (initialize_code program own (Some slot) t ks d) = omega (arith, length-append back (i.Call n ∷ []), length-unstash ks d, are_many ks us are) in
          does_bind program here (Answered program own tables number here code None tail (p' + 1) k s) Leaves w m (ask (Calls Initially n (Object (suc o) ∷ vs))) (λ _. storing body)
          (subst (λ r. Does program here (Answered program own tables number here code r tail (p' + 1) k s) w m (ask (Calls Initially n (Object (suc o) ∷ vs)))) init.2 asks)
          (λ w2 up u m2 h2.
          let stay = places_stay program own tables number here code names (type.Named t) w w2 up a found in
          stored_does body is w2 stay.0 (up.made (suc o) (as_made t) made) rest (p' + 1) k (ap (λ j. drop j code) long ∙ h)
          (λ k' below. subst (λ j. Carried (j + length (store_code program own body d)) k') (sym long) (cont k' below)) m2
          (h2.run ∙ ap (λ c. onward tail 0 (p' + 1) k (Ref (suc o) ∷ (c ∷ []))) stay.1))

  module _ (k : Keeps) where
    pub new_does : (there : Pos) (pl : Place) (t : ℕ) (more : Arguments) → StatementDoes program own tables number here code x d k after (New there pl t more)
    new_does there pl t more w at known has c =
        let named = type.Named t in
        let names = NamesType program own pl named in
        let slot = initializer program t in
        let body = body_type program t in
        let handed = is_handed program own typed slot t more has.typed.2 in
        let as' = handed.parameters in
        let ks = initial_kinds program own slot t in
        let cp = place_code program own pl (at + 1) in
        let pa = at + 1 + length cp in
        let ca = arguments_code program own more pa in
        let ps = pa + length ca in
        let cs = stash ks d in
        let pn = ps + length cs in
        let init = initialize_code program own slot t ks d in
        let store = store_code program own body d in
        let last = i.NewObject (t + 1) ∷ (init ++ store) in
        let xs = cp ++ (ca ++ (cs ++ last)) in
        let rest = has.stands.rest in
        let flat : xs ++ rest ≡ cp ++ (ca ++ (cs ++ (last ++ rest))) = simp append_assoc in
        let h1 : drop (at + 1) code ≡ xs ++ rest = drop_next at code (begin there) (xs ++ rest) has.stands.here in
        let hn : drop pn code ≡ last ++ rest = drop_past cs ps code (last ++ rest) (drop_past ca pa code (cs ++ (last ++ rest)) (drop_past cp (at + 1) code (ca ++ (cs ++ (last ++ rest))) (h1 ∙ flat))) in
        let hi : drop (pn + 1) code ≡ init ++ (store ++ rest) = drop_next pn code (i.NewObject (t + 1)) ((init ++ store) ++ rest) hn ∙ append_assoc init store rest in
        let hs : drop (pn + 1 + length init) code ≡ store ++ rest = drop_past init (pn + 1) code (store ++ rest) hi in
        let len : at + suc (length xs) ≡ pn + 1 + length init + length store = omega (arith, length-append cp (ca ++ (cs ++ last)), length-append ca (cs ++ last), length-append cs last, length-append init store) in
        let many = operands_are program own tables number here code more as' handed.arguments in
        let room : Fits (suc d) = omega (arith, has.holds, le-max_left (suc d) (d + operands more)) in
        let number_is : t + 1 ≡ suc t = omega arith in
        along program here Leaves w _ _ (bind (place_of program here pl) (λ s. bind (arguments_of program here more) (λ vs. making t s vs))) (from_here program own tables number here code (at + 1) (xs ++ rest) k [] h1)
        (piece_does program own tables number here code (IsFound program names named) place_in Leaves (λ s. bind (arguments_of program here more) (λ vs. making t s vs)) cp (ca ++ (cs ++ last)) (place_of program here pl) (at + 1) rest k []
        (place_does program own tables number here code typed shaped pl named has.typed.0 (at + 1)) w known
        (λ w1 up a m found e. along program here Leaves w1 m _ (bind (arguments_of program here more) (λ vs. making t a vs)) e
        (front_does program own tables number here code (λ w vs. Given program w as' vs) (λ w vs. map (cell_of w) vs) Leaves (λ vs. making t a vs) ca (cs ++ last) (arguments_of program here more) pa rest k (place_in w1 a ∷ [])
        (arguments_do program own tables number here code typed shaped more as' handed.arguments pa) w1 (knows_grows program own here w w1 up known)
        (λ w2 up2 vs m2 given e2.
        let us = reverse (map (cell_of w2) vs) in
        let s : Stack = place_in w1 a ∷ [] in
        let are : AreOf ks us = subst (λ l. AreOf l us) (sym handed.kinds) (are_reversed (all_kinds program as') (map (cell_of w2) vs) (given_are program w2 as' vs given)) in
        let long : length us ≡ operands more = are_many ks us are ∙ ap length handed.kinds ∙ length-reverse (all_kinds program as') ∙ many in
        let fits : Fits (d + length us) = omega (arith, has.holds, le-max_right (suc d) (d + operands more), long) in
        let k' = stashed us d k in
        let at_new : ps + length us ≡ pn = omega (arith, length-stash ks d, are_many ks us are) in
        let goes : m2 ≡ onward (last ++ rest) 0 pn k' s = e2
        ∙ ap (λ l. onward l 0 ps k (pushed (map (cell_of w2) vs) s)) (append_assoc cs last rest)
        ∙ ap (λ l. onward (cs ++ (last ++ rest)) 0 ps k l) (pushed_reverse (map (cell_of w2) vs) s)
        ∙ stash_runs tables number here code ks us d (last ++ rest) ps k s are fits
        ∙ ap (λ j. onward (last ++ rest) 0 j k' s) at_new in (
          (λ y. onward ((init ++ store) ++ rest) 0 (pn + 1) k' (y ∷ s)),
          goes ∙ ap (λ j. Asks (Makes j []) (λ y. onward ((init ++ store) ++ rest) 0 (pn + 1) k' (y ∷ s))) number_is,
          may_make w2 t has.typed.1,
          λ w3 up3 v new.
              let up13 : Grows w1 w3 = grows_twice w1 w2 w3 up2 up3 in
              let stay = places_stay program own tables number here code names named w1 w3 up13 a found in
              let o = new.2.number in
              let closed = none new.0 new.1 in
              let made : w3.made (suc o) ≡ Some (as_made t) = new.2.made ∙ ap (λ ns. Some (record { type = suc t; lengths = ns })) closed in
              subst (λ y. Does program here Leaves w3 (onward ((init ++ store) ++ rest) 0 (pn + 1) k' (cell_of w3 y ∷ s)) (bind (initialized program slot t y vs) (λ _. bind (ask (Stores a y)) (λ _. then_done (carried_out program body y))))) (sym new.2.is)
              (initialized_does t has.typed.1 room a names o body refl slot as' handed.initial w3 stay.0 made vs (given_grows program here w2 w3 up3 as' vs given) us (ap reverse (given_cells program here w2 w3 up3 as' vs given)) are rest (pn + 1) k' (stashed_holds us d k) fits hs
              (λ k2 below. survives program own tables number here code after (pn + 1 + length init + length store) x d k k2 (λ c lt. stashed_below us d d k (omega arith) c lt ∙ below c lt) (subst (λ j. Carried j k) len c)) _
              (ap (λ l. onward l 0 (pn + 1) k' (Ref (suc o) ∷ s)) (append_assoc init store rest) ∙ ap (λ z. onward (init ++ (store ++ rest)) 0 (pn + 1) k' (Ref (suc o) ∷ (z ∷ []))) stay.1)),
        )))))
      where
        making : ℕ → Location → List Value → Doing After
        making t s vs = bind (ask (Makes (suc t) [])) (λ o. bind (initialized program (initializer program t) t o vs) (λ _. bind (ask (Stores s o)) (λ _. then_done (carried_out program (body_type program t) o))))

        none : (ns : List ℕ) → Some [] ≡ Some ns → ns ≡ []
        none ns e = cc

        -- an object may be made
        may_make : (w : World Sort) (t : ℕ) → is_object (row_of program.types (id_of (type.Named t))) ≡ true → Valid program here w (Makes (suc t) [])
        may_make w t object = (
          t,
          refl,
          object_below program typed t object,
          sym (none_open program.types (id_of (type.Named t)) (length program.types) (object_closed (row_of program.types (id_of (type.Named t))) object)),
          tt,
          ap (λ b. b || list_any (leads_to program.types (id_of (type.Named t))) program.types) object,
        )
