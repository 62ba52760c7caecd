-- The methods of object types by their names, in the environment of a module: each type has in the slot of a name the method that this name
-- stands for there.
use Rattle.std.proofs.Common.{◌≡◌, ℕ, zero, suc, ◌+◌, ◌-◌, ◌≤◌, ◌<◌, ◌⊎◌, inl, inr, List, [], ◌∷◌, ◌++◌, length, map, fold, Bool, true, false, ◌||◌, if◌then◌else◌, Option, Some, None, option_map, slice_get, slice_set, refl, sym, ap, ◌∙◌, subst, lt-ltb, le-ltb, arith}
use Rattle.std.specs.Option.{option_or}
use Rattle.std.specs.Str.{bytes_eq}
use Rattle.std.proofs.lemmas.Option.{none-some, same_Some, slice_get_past, slice_get_within}
use Rattle.std.proofs.lemmas.Slice.Eq.{bytes_eq-Decides}
use Rattle.aos_types.specs.declared.row.TypeId.{TypeId}
use Rattle.aos_types.specs.declared.row.TypeRow.{TypeRow}
use Rattle.aos_types.specs.Table.{row_of, base_of}
use Rattle.aos_types.specs.Chain.{IsRanked}
use Rattle.aos_types.proofs.Ranks.{ranked as ranked_of}
use Rattle.aos_types.proofs.Tables.{base_part}
use Rattle.aos_typed.specs.declared.tree.TType.TheVariants.{Named}
use Rattle.aos_typed.specs.Methods.{put_at, slot_of, own_methods, base_type, on_base, or_base, own_procedures, methods_of, initial_slot, initializer}
use Rattle.aos_typed.specs.Numbers.{id_of, predeclared_types}
use Rattle.aos_typed.specs.Program.{Procedure as TypedProcedure, Method as TypedMethod, ObjectType, Module, Program}
use Rattle.aos_typed.specs.WellTyped.{Overrides, AreSlots}
use Rattle.aos_sim.proofs.Methods.{unfolded}
use Rattle.aos_symbols.specs.declared.scope.Meaning.{Meaning}
use Rattle.aos_symbols.specs.declared.scope.Meaning.TheVariants as means
use Rattle.aos_symbols.specs.declared.home.ObjectScope.{ObjectScope}
use Rattle.aos_types.specs.declared.signature.Signature.{Signature}
use Rattle.aos_symbols.specs.declared.env.Symbol.{Symbol}
use Rattle.aos_members.specs.declared.objects.Method.{Method}
use Rattle.aos_symbols.specs.declared.env.Env.{Env}
use Rattle.aos_symbols.specs.Home.{Home}
use Rattle.aos_members.specs.Members as members
use Rattle.aos_symbols.specs.Env as env
use Rattle.aos_members.specs.Members.{chain_by, chain_behind, chain}
use Rattle.aos_known.specs.Known.{object_number}
use Rattle.aos_symbols.proofs.Told.{get_front}
use Rattle.aos_check_decl.proofs.Typing.{AreReady}
use Rattle.aos_check_types.proofs.TypingLists.{set_other}
use Rattle.aos_compile.proofs.Nearest.{initializer_is}
use Rattle.aos_types.specs.Signature.{may_stand}
use Rattle.aos_compile.proofs.Overriding.{overrides}
use Rattle.aos_compile.proofs.Slots.{Word, index_in, more, words, names_more, fold_stays, is_in, Stands, AreOwn, slots_stand}
use Rattle.aos_compile.proofs.TypingProcedures.{IsSignature}
use Rattle.aos_compile.proofs.TypingTypes.{RowsStay, bases_there}

not_both : true ≡ false → ⊥
not_both e = cc

-- Chains.

behind_same : (f g : TypeId → List TypeId) (o : Option TypeId) → ((b : TypeId) → o ≡ Some b → f b ≡ g b) → chain_behind f o ≡ chain_behind g o
behind_same f g None same = refl
behind_same f g (Some b) same = same b refl

module _ (ts us : List TypeRow) (stay : RowsStay ts us) (ranked : IsRanked ts) (bases : (t b : TypeId) → base_of (row_of ts t) ≡ Some b → b.0 < length ts) where
  pub base_falls : (t b : TypeId) → base_of (row_of ts t) ≡ Some b → ranked.rank b < ranked.rank t
  base_falls t b is = ranked.falls t b (base_part ts (row_of ts t) b is)

  no_base : (t : TypeId) → ranked.rank t ≤ 0 → base_of (row_of ts t) ≡ None
  no_base t low = by (base_of (row_of ts t)) refl
    where
      by : (o : Option TypeId) → base_of (row_of ts t) ≡ o → o ≡ None
      by None is = refl
      by (Some b) is = absurd (let less = base_falls t b is in omega (arith, less, low))

  -- however many bases are looked at, where these are enough; and chains stay where the table goes on
  pub chain_same : (n m : ℕ) (t : TypeId) → t.0 < length ts → ranked.rank t ≤ n → ranked.rank t ≤ m → chain_by n ts t ≡ chain_by m us t
  chain_same zero zero t there a b = refl
  chain_same zero (suc m) t there a b = ap (λ o. t ∷ chain_behind (λ c. chain_by m us c) o) (sym (ap base_of (stay t.0 there) ∙ no_base t a))
  chain_same (suc n) zero t there a b = ap (λ o. t ∷ chain_behind (λ c. chain_by n ts c) o) (no_base t b)
  chain_same (suc n) (suc m) t there a b =
      ap (λ l. t ∷ l)
      (behind_same (λ c. chain_by n ts c) (λ c. chain_by m us c) (base_of (row_of ts t))
      (λ c is. let less = base_falls t c is in chain_same n m c (bases t c is) (omega (arith, less, a)) (omega (arith, less, b))))
      ∙ ap (λ o. t ∷ chain_behind (λ c. chain_by m us c) o) (ap base_of (sym (stay t.0 there)))

-- What a name stands for as a method: the number of its module, its number among the signatures there, and its slot.
pub record Meant : Type 0 where
  pub home : ℕ
  pub number : ℕ
  pub slot : ℕ

abbrev pub bare : Method → Meant
bare m = record { home = m.home; number = m.number; slot = m.slot }

abbrev pub meant_at : Option Home → ObjectScope → Meaning → Option Meant
meant_at h o (means.Procedure k) = Some (record { home = o.home; number = o.methods + k; slot = members.slot_of h o k })
meant_at h o m = None

pub bare_meant : (e : Env) (t : TypeId) (o : ObjectScope) (x : Symbol) (m : Meaning) → x.means ≡ m →
    option_map bare (members.method_meant e t o (record x { means = m })) ≡ meant_at (env.home e o.home) o m
bare_meant e t o x (means.Procedure k) is = refl
bare_meant e t o x m is = refl

mapped_or : {A B : Type 0} (f : A → B) (a b : Option A) → option_map f (option_or a b) ≡ option_or (option_map f a) (option_map f b)
mapped_or f None b = refl
mapped_or f (Some a) b = refl

module _ (e : Env) where
  -- of an object type itself, and of it with its bases
  abbrev pub own_meant : TypeId → Word → Option Meant
  own_meant t w = option_map bare (members.own_method e t w)

  abbrev pub meant : TypeId → Word → Option Meant
  meant t w = option_map bare (members.method_named e t w)

  abbrev pub meant_behind : Option TypeId → Word → Option Meant
  meant_behind None w = None
  meant_behind (Some b) w = meant b w

  -- the initializer that it declares itself, and that of it with its bases
  abbrev pub own_start : TypeId → Option Meant
  own_start t = option_map bare (members.own_initializer e t)

  abbrev pub start : TypeId → Option Meant
  start t = option_map bare (members.initializer e t)

  abbrev pub start_behind : Option TypeId → Option Meant
  start_behind None = None
  start_behind (Some b) = start b

  -- the names of its methods by their slots
  abbrev pub slot_words : TypeId → List Word
  slot_words t = words (members.all_methods e t).entries

  abbrev pub words_behind : Option TypeId → List Word
  words_behind None = []
  words_behind (Some b) = slot_words b

  abbrev pub own_words : TypeId → List Word
  own_words t = words (members.own_methods e t)

  module _ (ready : AreReady e.types) where
    pub above : IsRanked e.types
    above = ranked_of e.types ready.sound.none_contains_itself

    chain_is : (t : TypeId) → t.0 < length e.types → chain e.types t ≡ t ∷ chain_behind (λ b. chain e.types b) (base_of (row_of e.types t))
    chain_is t there =
        let bound = above.bound t in
        chain_same e.types e.types (λ k less. refl) above (bases_there e.types ready) (length e.types) (suc (length e.types)) t there (omega (arith, bound)) (omega (arith, bound))

    pub meant_is : (t : TypeId) → t.0 < length e.types → (w : Word) → meant t w ≡ option_or (own_meant t w) (meant_behind (base_of (row_of e.types t)) w)
    meant_is t there w = ap (λ l. option_map bare (members.method_along e w l)) (chain_is t there) ∙ by (base_of (row_of e.types t))
      where
        by : (o : Option TypeId) → option_map bare (members.method_along e w (t ∷ chain_behind (λ b. chain e.types b) o)) ≡ option_or (own_meant t w) (meant_behind o w)
        by None = mapped_or bare (members.own_method e t w) None
        by (Some b) = mapped_or bare (members.own_method e t w) (members.method_named e b w)

    pub start_is : (t : TypeId) → t.0 < length e.types → start t ≡ option_or (own_start t) (start_behind (base_of (row_of e.types t)))
    start_is t there = ap (λ l. option_map bare (members.initializer_along e l)) (chain_is t there) ∙ by (base_of (row_of e.types t))
      where
        by : (o : Option TypeId) → option_map bare (members.initializer_along e (t ∷ chain_behind (λ b. chain e.types b) o)) ≡ option_or (own_start t) (start_behind o)
        by None = mapped_or bare (members.own_initializer e t) None
        by (Some b) = mapped_or bare (members.own_initializer e t) (members.initializer e b)

    pub words_are : (t : TypeId) → t.0 < length e.types → slot_words t ≡ fold more (words_behind (base_of (row_of e.types t))) (own_words t)
    words_are t there =
        ap (λ l. words (members.methods_along e l).entries) (chain_is t there)
        ∙ names_more (members.own_methods e t) (members.methods_along e (chain_behind (λ b. chain e.types b) (base_of (row_of e.types t))))
        ∙ ap (λ l. fold more l (own_words t)) (by (base_of (row_of e.types t)))
      where
        by : (o : Option TypeId) → words (members.methods_along e (chain_behind (λ b. chain e.types b) o)).entries ≡ words_behind o
        by None = refl
        by (Some b) = refl

-- An initializer stays in its slot behind methods that are none.
kept_slot : (p : Program) (ms : List TypedMethod) (xs : List TypedProcedure) (k : ℕ) (q : TypedProcedure) → AreSlots p xs ms → initial_slot ms ≡ None → slice_get xs k ≡ Some q →
    q.is_initializer ≡ true → slice_get (fold put_at xs (map slot_of ms)) k ≡ Some q
kept_slot p [] xs k q are none there mark = there
kept_slot p (m ∷ ms) xs k q are none there mark = by m.procedure.is_initializer refl none (λ is. kept_slot p ms (put_at xs (slot_of m)) k q are.1 is)
  where
    put : m.procedure.is_initializer ≡ false → (m.slot ≡ length xs) ⊎ ((r : TypedProcedure) × (slice_get xs m.slot ≡ Some r) × Overrides p m.procedure r) →
        slice_get (put_at xs (slot_of m)) k ≡ Some q
    put plain (inl new) =
        ap (λ b. slice_get (if b then slice_set xs m.slot m.procedure else xs ++ m.procedure ∷ []) k) (le-ltb m.slot (length xs) (omega (arith, new)))
        ∙ get_front xs (m.procedure ∷ []) k q there
    put plain (inr old) =
        ap (λ b. slice_get (if b then slice_set xs m.slot m.procedure else xs ++ m.procedure ∷ []) k) (lt-ltb m.slot (length xs) (slice_get_within xs m.slot old.0 old.1))
        ∙ set_other xs m.slot k m.procedure
        (λ same. not_both (sym mark ∙ ap (λ (z : TypedProcedure). z.is_initializer) (same_Some q old.0 (sym there ∙ ap (slice_get xs) same ∙ old.1)) ∙ sym old.2.1 ∙ plain))
        ∙ there

    by : (b : Bool) → m.procedure.is_initializer ≡ b → (if b then Some m.slot else initial_slot ms) ≡ None →
        (initial_slot ms ≡ None → slice_get (put_at xs (slot_of m)) k ≡ Some q → q.is_initializer ≡ true → slice_get (fold put_at (put_at xs (slot_of m)) (map slot_of ms)) k ≡ Some q) →
        slice_get (fold put_at (put_at xs (slot_of m)) (map slot_of ms)) k ≡ Some q
    by true is none more = absurd (none-some m.slot (sym none))
    by false is none more = more none (put is are.0) mark

-- A module's environment, and the program of its world.

module _ (e : Env) (modules : List Module) (objects : List ObjectType) where
  abbrev program : Program
  program = record { modules = modules; types = e.types; objects = objects }

  -- the signature of what is meant is that of a procedure
  pub record IsMeant (m : Meant) (q : TypedProcedure) : Type 0 where
    pub signature : Signature
    pub is : env.signature e m.home m.number ≡ Some signature
    pub typed : IsSignature e.types signature q

  abbrev pub For : (Word → Option Meant) → Word → TypedProcedure → Type 0
  For found w q = (m : Meant) × (found w ≡ Some m) × IsMeant m q

  -- a type has in the slots of names what these stand for
  pub record HasSlots (t : TypeId) : Type 0 where
    pub stands : Stands (For (meant e t)) (slot_words e t) (methods_of program (object_number t))
    pub slot : (w : Word) (m : Meant) → meant e t w ≡ Some m → index_in (slot_words e t) w ≡ Some m.slot

  -- its initializer is that of the program, in its slot
  pub record HasStart (t : TypeId) : Type 0 where
    pub is : initializer program (object_number t) ≡ option_map (λ (m : Meant). m.slot) (start e t)
    pub there : (m : Meant) → start e t ≡ Some m → (q : TypedProcedure) × (slice_get (methods_of program (object_number t)) m.slot ≡ Some q) × (q.is_initializer ≡ true) × IsMeant m q

  -- a method that a type itself declares: what its name stands for in its scope, in its slot, with a signature that may stand in the place
  -- of that of the method which it overrides
  pub record IsOwn (t : TypeId) (v : Word) (m : TypedMethod) : Type 0 where
    pub meaning : Meant
    pub found : own_meant e t v ≡ Some meaning
    pub slot : meaning.slot ≡ m.slot
    pub typed : IsMeant meaning m.procedure
    pub place : index_in (slot_words e t) v ≡ Some m.slot
    pub keeps : (u : Meant) → meant_behind e (base_of (row_of e.types t)) v ≡ Some u →
        (s : Signature) × (env.signature e u.home u.number ≡ Some s) × (may_stand e.types typed.signature s ≡ true)

  abbrev pub AreOwnOf : TypeId → List Word → List TypedMethod → Type 0
  AreOwnOf t [] [] = Unit {0}
  AreOwnOf t [] (m ∷ ms) = ⊥
  AreOwnOf t (v ∷ vs) [] = ⊥
  AreOwnOf t (v ∷ vs) (m ∷ ms) = IsOwn t v m × (is_in vs v ≡ false) × AreOwnOf t vs ms

  -- a name of a type stands for its initializer
  pub record IsStarted (t : TypeId) (m : Meant) : Type 0 where
    pub name : Word
    pub found : own_meant e t name ≡ Some m
    pub signature : Signature
    pub is : env.signature e m.home m.number ≡ Some signature
    pub mark : signature.is_initializer ≡ true

  -- the methods that a type itself declares are those beside it in the program, and its initializer is the first of them that is one
  pub record HasOwn (t : TypeId) : Type 0 where
    pub are : AreOwnOf t (own_words e t) (own_methods program (object_number t))
    pub only : (w : Word) (m : Meant) → own_meant e t w ≡ Some m → is_in (own_words e t) w ≡ true
    pub starts : initial_slot (own_methods program (object_number t)) ≡ option_map (λ (m : Meant). m.slot) (own_start e t)
    pub started : (m : Meant) → own_start e t ≡ Some m → IsStarted t m

  pub own_at : (t : TypeId) (vs : List Word) (ms : List TypedMethod) → AreOwnOf t vs ms → (w : Word) → is_in vs w ≡ true → (m : TypedMethod) × IsOwn t w m
  own_at t [] ms are w is = absurd (not_both (sym is))
  own_at t (v ∷ vs) [] are w is = absurd are
  own_at t (v ∷ vs) (m ∷ ms) are w is = by (bytes_eq w v) refl is (own_at t vs ms are.2 w)
    where
      by : (b : Bool) → bytes_eq w v ≡ b → (b || is_in vs w) ≡ true → (is_in vs w ≡ true → (m : TypedMethod) × IsOwn t w m) → (m : TypedMethod) × IsOwn t w m
      by true same is deeper = (m, subst (λ (u : Word). IsOwn t u m) (sym ((bytes_eq-Decides w v).0 same)) are.0)
      by false other is deeper = deeper is

  module _ (ready : AreReady e.types) (long : length e.types ≡ 10 + length objects) where
    no_own : (t : ℕ) → length objects ≤ t → own_procedures program t ≡ []
    no_own t past = rw (slice_get_past objects t past) refl

    table_of : (t : ℕ) → methods_of program t ≡ fold put_at (on_base (methods_of program) (base_type program t)) (own_procedures program t)
    table_of t =
        unfolded program (ranked_of e.types ready.sound.none_contains_itself) ready.sound.bases (λ k less. ready.basic k less) (omega (arith, long)) (own_procedures program) no_own t

    module _ (t : TypeId) (high : 10 ≤ t.0) (there : t.0 < length e.types) (own : HasOwn t)
        (below : (b : TypeId) → base_of (row_of e.types t) ≡ Some b → HasSlots b) where
      abbrev base : Option TypeId
      base = base_of (row_of e.types t)

      abbrev number : ℕ
      number = object_number t

      number_is : id_of (Named number) ≡ t
      number_is = ap (λ (n : ℕ). record { 0 = n }) (let same : number + predeclared_types ≡ t.0 = omega (arith, high) in same)

      base_is : on_base (methods_of program) (base_type program number) ≡ on_base (methods_of program) (option_map (λ b. b.0 - predeclared_types) base)
      base_is = ap (λ u. on_base (methods_of program) (option_map (λ b. b.0 - predeclared_types) (base_of (row_of e.types u)))) number_is

      base_stands : Stands (For (meant_behind e base)) (words_behind e base) (on_base (methods_of program) (option_map (λ b. b.0 - predeclared_types) base))
      base_stands = by base refl
        where
          by : (o : Option TypeId) → base ≡ o → Stands (For (meant_behind e o)) (words_behind e o) (on_base (methods_of program) (option_map (λ b. b.0 - predeclared_types) o))
          by None is = record { long = refl; each = λ w k at. absurd (none-some k at) }
          by (Some b) is = (below b is).stands

      base_slot : (w : Word) (m : Meant) → meant_behind e base w ≡ Some m → index_in (words_behind e base) w ≡ Some m.slot
      base_slot w m = by base refl
        where
          by : (o : Option TypeId) → base ≡ o → meant_behind e o w ≡ Some m → index_in (words_behind e o) w ≡ Some m.slot
          by None is found = absurd (none-some m found)
          by (Some b) is found = (below b is).slot w m found

      abbrev all : List Word
      all = fold more (words_behind e base) (own_words e t)

      -- its own method comes before its base's
      first : (w : Word) (m : Meant) → own_meant e t w ≡ Some m → meant e t w ≡ Some m
      first w m found = meant_is e ready t there w ∙ ap (λ o. option_or o (meant_behind e base w)) found

      behind : (w : Word) (m : Meant) → own_meant e t w ≡ None → meant_behind e base w ≡ Some m → meant e t w ≡ Some m
      behind w m none found = meant_is e ready t there w ∙ ap (λ o. option_or o (meant_behind e base w)) none ∙ found

      over : (v : Word) (m : TypedMethod) → IsOwn t v m → (y : TypedProcedure) → For (meant_behind e base) v y → Overrides program m.procedure y
      over v m is y h =
          let one = is.keeps h.0 h.1 in
          let two = h.2 in
          let same : two.signature ≡ one.0 = same_Some two.signature one.0 (sym two.is ∙ one.1) in
          overrides program ready is.typed.signature one.0 m.procedure y is.typed.typed (subst (λ (s : Signature). IsSignature e.types s y) same two.typed) one.2

      own_are : (vs : List Word) (ms : List TypedMethod) → AreOwnOf t vs ms → AreOwn program (For (meant_behind e base)) (For (meant e t)) all vs ms
      own_are [] [] are = tt
      own_are [] (m ∷ ms) are = absurd are
      own_are (v ∷ vs) [] are = absurd are
      own_are (v ∷ vs) (m ∷ ms) are = (
        ap (λ ws. index_in ws v) (sym (words_are e ready t there)) ∙ are.0.place,
        (are.0.meaning, first v are.0.meaning are.0.found, are.0.typed),
        over v m are.0,
        are.1,
        own_are vs ms are.2,
      )

      -- what is not its own is its base's
      up : (w : Word) (y : TypedProcedure) → is_in (own_words e t) w ≡ false → For (meant_behind e base) w y → For (meant e t) w y
      up w y not_own h = (h.0, by (own_meant e t w) refl, h.2)
        where
          by : (o : Option Meant) → own_meant e t w ≡ o → meant e t w ≡ Some h.0
          by None none = behind w h.0 none h.1
          by (Some m) found = absurd (not_both (sym (own.only w m found) ∙ not_own))

      abbrev both : Stands (For (meant e t)) all (fold put_at (on_base (methods_of program) (option_map (λ b. b.0 - predeclared_types) base)) (map slot_of (own_methods program number)))
          × AreSlots program (on_base (methods_of program) (option_map (λ b. b.0 - predeclared_types) base)) (own_methods program number)
      both =
          slots_stand program (For (meant_behind e base)) (For (meant e t)) (own_words e t) (words_behind e base) (on_base (methods_of program) (option_map (λ b. b.0 - predeclared_types) base))
          (own_methods program number) (own_are (own_words e t) (own_methods program number) own.are) base_stands up

      pub are_slots : AreSlots program (on_base (methods_of program) (base_type program number)) (own_methods program number)
      are_slots = subst (λ xs. AreSlots program xs (own_methods program number)) (sym base_is) both.1

      table_is : methods_of program number ≡ fold put_at (on_base (methods_of program) (option_map (λ b. b.0 - predeclared_types) base)) (map slot_of (own_methods program number))
      table_is = table_of number ∙ ap (λ xs. fold put_at xs (map slot_of (own_methods program number))) base_is

      pub has_slots : HasSlots t
      has_slots = record {
        stands =
            subst (λ ws. Stands (For (meant e t)) ws (methods_of program number)) (sym (words_are e ready t there))
            (subst (λ xs. Stands (For (meant e t)) all xs) (sym table_is) both.0);
        slot = λ w m found. by w m (own_meant e t w) refl found;
      }
        where
          by : (w : Word) (m : Meant) (o : Option Meant) → own_meant e t w ≡ o → meant e t w ≡ Some m → index_in (slot_words e t) w ≡ Some m.slot
          by w m None none found =
              ap (λ ws. index_in ws w) (words_are e ready t there)
              ∙ fold_stays (own_words e t) (words_behind e base) w m.slot
              (base_slot w m (sym (meant_is e ready t there w ∙ ap (λ o. option_or o (meant_behind e base w)) none) ∙ found))
          by w m (Some n) own_is found =
              let one = own_at t (own_words e t) (own_methods program number) own.are w (own.only w n own_is) in
              let same : one.1.meaning ≡ m = same_Some one.1.meaning m (sym (first w one.1.meaning one.1.found) ∙ found) in
              one.1.place ∙ ap (λ k. Some k) (sym one.1.slot) ∙ ap (λ (z : Meant). Some z.slot) same

      -- Its initializer is its own, or its base's.
      module _ (before : (b : TypeId) → base_of (row_of e.types t) ≡ Some b → HasStart b) where
        own_started : (n : Meant) → own_start e t ≡ Some n →
            (q : TypedProcedure) × (slice_get (methods_of program number) n.slot ≡ Some q) × (q.is_initializer ≡ true) × IsMeant n q
        own_started n is =
            let one = own.started n is in
            let found = first one.name n one.found in
            let at = has_slots.stands.each one.name n.slot (has_slots.slot one.name n found) in
            let same : at.2.0 ≡ n = same_Some at.2.0 n (sym at.2.1 ∙ found) in
            let told : IsMeant n at.0 = subst (λ (z : Meant). IsMeant z at.0) same at.2.2 in
            (at.0, at.1, told.typed.mark ∙ ap (λ (s : Signature). s.is_initializer) (same_Some told.signature one.signature (sym told.is ∙ one.is)) ∙ one.mark, told)

        base_started : (b : TypeId) → base_of (row_of e.types t) ≡ Some b → own_start e t ≡ None → (m : Meant) → start e b ≡ Some m →
            (q : TypedProcedure) × (slice_get (methods_of program number) m.slot ≡ Some q) × (q.is_initializer ≡ true) × IsMeant m q
        base_started b is none m found =
            let up = (before b is).there m found in
            let xs = on_base (methods_of program) (option_map (λ b. b.0 - predeclared_types) base) in
            let at : slice_get xs m.slot ≡ Some up.0 = ap (λ o. slice_get (on_base (methods_of program) (option_map (λ b. b.0 - predeclared_types) o)) m.slot) is ∙ up.1 in
            let left : initial_slot (own_methods program number) ≡ None = own.starts ∙ ap (option_map (λ (m : Meant). m.slot)) none in
            (up.0, ap (λ ys. slice_get ys m.slot) table_is ∙ kept_slot program (own_methods program number) xs m.slot up.0 both.1 left at up.2, up.2, up.3)

        pub has_start : HasStart t
        has_start = record {
          is =
              initializer_is program ready long number
              ∙ ap (λ o. or_base (initializer program) o (base_type program number)) own.starts
              ∙ ap (λ u. or_base (initializer program) (option_map (λ (m : Meant). m.slot) (own_start e t)) (option_map (λ b. b.0 - predeclared_types) (base_of (row_of e.types u)))) number_is
              ∙ slots (own_start e t) base refl
              ∙ ap (option_map (λ (m : Meant). m.slot)) (sym (start_is e ready t there));
          there = λ m found. meets m (own_start e t) refl base refl (sym (start_is e ready t there) ∙ found);
        }
          where
            slots : (o : Option Meant) (b : Option TypeId) → base_of (row_of e.types t) ≡ b →
                or_base (initializer program) (option_map (λ (m : Meant). m.slot) o) (option_map (λ b. b.0 - predeclared_types) b) ≡ option_map (λ (m : Meant). m.slot) (option_or o (start_behind e b))
            slots (Some m) b is = refl
            slots None None is = refl
            slots None (Some b) is = (before b is).is

            meets : (m : Meant) (o : Option Meant) → own_start e t ≡ o → (b : Option TypeId) → base_of (row_of e.types t) ≡ b → option_or o (start_behind e b) ≡ Some m →
                (q : TypedProcedure) × (slice_get (methods_of program number) m.slot ≡ Some q) × (q.is_initializer ≡ true) × IsMeant m q
            meets m (Some n) own_is b is found = own_started m (own_is ∙ found)
            meets m None own_is None is found = absurd (none-some m found)
            meets m None own_is (Some b) is found = base_started b is own_is m found

    -- Each type whose own methods are beside it has its slots.
    module _ (own : (t : TypeId) → 10 ≤ t.0 → t.0 < length e.types → HasOwn t) (bases_high : (t b : TypeId) → base_of (row_of e.types t) ≡ Some b → 10 ≤ b.0) where
      slots_by_rank : (n : ℕ) (t : TypeId) → (above e ready).rank t < n → 10 ≤ t.0 → t.0 < length e.types → HasSlots t
      slots_by_rank zero t less high there = absurd (omega (arith, less))
      slots_by_rank (suc n) t less high there =
          has_slots t high there (own t high there)
          (λ b is. let falls = base_falls e.types e.types (λ k l. refl) (above e ready) (bases_there e.types ready) t b is in
          slots_by_rank n b (omega (arith, falls, less)) (bases_high t b is) (bases_there e.types ready t b is))

      pub all_slots : (t : TypeId) → 10 ≤ t.0 → t.0 < length e.types → HasSlots t
      all_slots t high there = slots_by_rank (suc ((above e ready).rank t)) t (omega arith) high there

      starts_by_rank : (n : ℕ) (t : TypeId) → (above e ready).rank t < n → 10 ≤ t.0 → t.0 < length e.types → HasStart t
      starts_by_rank zero t less high there = absurd (omega (arith, less))
      starts_by_rank (suc n) t less high there =
          has_start t high there (own t high there) (λ b is. all_slots b (bases_high t b is) (bases_there e.types ready t b is))
          (λ b is. let falls = base_falls e.types e.types (λ k l. refl) (above e ready) (bases_there e.types ready) t b is in
          starts_by_rank n b (omega (arith, falls, less)) (bases_high t b is) (bases_there e.types ready t b is))

      pub all_starts : (t : TypeId) → 10 ≤ t.0 → t.0 < length e.types → HasStart t
      all_starts t high there = starts_by_rank (suc ((above e ready).rank t)) t (omega arith) high there

      pub all_are_slots : (t : TypeId) → 10 ≤ t.0 → t.0 < length e.types → AreSlots program (on_base (methods_of program) (base_type program (object_number t))) (own_methods program (object_number t))
      all_are_slots t high there =
          are_slots t high there (own t high there) (λ b is. all_slots b (bases_high t b is) (bases_there e.types ready t b is))

    -- the method that a type has by a name
    pub method_there : (t : TypeId) → HasSlots t → (w : Word) (m : Meant) → meant e t w ≡ Some m →
        (q : TypedProcedure) × (slice_get (methods_of program (object_number t)) m.slot ≡ Some q) × IsMeant m q
    method_there t has w m found =
        let one = has.stands.each w m.slot (has.slot w m found) in
        let two = one.2 in
        (one.0, one.1, subst (λ (z : Meant). IsMeant z one.0) (same_Some two.0 m (sym two.1 ∙ found)) two.2)
