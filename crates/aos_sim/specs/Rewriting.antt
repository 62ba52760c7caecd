-- Expressions whose first reads are replaced by values, and what it has to do with their meaning.
use Rattle.std.specs.Prelude.{◌≡◌, ℕ, List, [], ◌∷◌, Bool, true, false, Option, if◌then◌else◌}
use Rattle.aos_base.specs.declared.text.Pos.{Pos}
use Rattle.aos_base.specs.Question.{Tree, Val, Asks, Traps, bind, feed, Places, Lengths, Opens, Sizes, Tests}
use Rattle.aos_base.specs.Rooted.{Made}
use Rattle.aos_types.specs.Content.{Content}
use Rattle.aos_typed.specs.declared.tree.TType.{TType}
use Rattle.aos_typed.specs.Program.{Place, ModuleVar, Local, Passed, Field, Index, Of, Deref, Typed, Guarded, Rows, Known, Opened, Row, Spread, Longer, Arguments, NoMore, Scalar, Whole, Opening, Callee, Plain, Dispatched, Upper, Through, Expr, Lit, SelfRef, Read, Unary, Binary, And, Or, Element, Ord, Chr, CompareTexts, Len, LenBehind, Function, Same, Is, IsRecord, Guard, ProcedureOf, MethodOf, SameProcedure, Had, Assign, Program}
use Rattle.aos_typed.specs.Value.{Value}
use Rattle.aos_typed.specs.Location.{Location}
use Rattle.aos_typed.specs.Meaning.{Here, receiver_of, Doing, object_in, After, place_of, rows_of, arguments_of, value_of, stat_of}
use Rattle.aos_typed.specs.Source.{known, object_place, length_in, has_type_in}

-- whether a question stands first
abbrev pub is_asking : {Q V A : Type 0} → Tree Q V A → Bool
is_asking (Val a) = false
is_asking (Asks q f) = true
is_asking (Traps n c) = false

-- whether each of these answers is one to a question
abbrev pub are_asked : {Q V A : Type 0} → List V → Tree Q V A → Bool
are_asked [] t = true
are_asked (v ∷ vs) (Val a) = false
are_asked (v ∷ vs) (Asks q f) = are_asked vs (f v)
are_asked (v ∷ vs) (Traps n c) = false

-- What is left where all is known that a frame's own variables and what objects were made as tell.
module _ (p : Program) (made : ℕ → Option Made) (c : Content Value) where
  abbrev pub settled : {A : Type 0} → Doing A → Doing A
  settled (Val a) = Val a
  settled (Traps n code) = Traps n code
  settled (Asks (Places s) k) = settled (k (known c s))
  settled (Asks (Lengths s) k) = settled (k (known c s))
  settled (Asks (Opens v) k) = settled (k (object_place (object_in v) (made (object_in v))))
  settled (Asks (Sizes v d) k) = settled (k (length_in d (made (object_in v))))
  settled (Asks (Tests v t) k) = settled (k (has_type_in p.types made c t (made (object_in v))))
  settled (Asks q k) = Asks q (λ v. settled (k v))

-- in a procedure's frame with these variables and objects, below which there are so many frames of its activity
module _ (p : Program) (here : Here) (made : ℕ → Option Made) (c : Content Value) where
  abbrev pub found_place : Place → Doing Location
  found_place q = settled p made c (place_of p here q)

  abbrev pub found_value : Expr → Doing Value
  found_value e = settled p made c (value_of p here e)

  abbrev asks_place : Place → Bool
  asks_place q = is_asking (found_place q)

  abbrev asks_rows : Rows → Bool
  asks_rows r = is_asking (settled p made c (rows_of p here r))

  abbrev asks_arguments : Arguments → Bool
  asks_arguments as' = is_asking (settled p made c (arguments_of p here as'))

  abbrev asks_receiver : Callee → Bool
  asks_receiver r = is_asking (settled p made c (receiver_of p here r))

  abbrev asks_value : Expr → Bool
  asks_value e = is_asking (found_value e)

  -- the first read, comparison of texts or call of a function that a designator or an expression comes to is replaced by this
  -- value: it is in the first part that comes to one
  abbrev mutual
    pub with_first_index : Value → Place → Place
    with_first_index l (ModuleVar m k) = ModuleVar m k
    with_first_index l (Local k) = Local k
    with_first_index l (Passed k) = Passed k
    with_first_index l (Field q t k) = Field (with_first_index l q) t k
    with_first_index l (Index q n t e) =
        if asks_place q then Index (with_first_index l q) n t e else Index q n t (with_first l e)
    with_first_index l (Of r) = Of (with_first_row l r)
    with_first_index l (Deref e t) = Deref (with_first l e) t
    with_first_index l (Typed q t) = Typed (with_first_index l q) t
    with_first_index l (Guarded q t) = Guarded (with_first_index l q) t

    pub with_first_row : Value → Rows → Rows
    with_first_row l (Known q ns) = Known (with_first_index l q) ns
    with_first_row l (Opened k j) = Opened k j
    with_first_row l (Row r t e) = if asks_rows r then Row (with_first_row l r) t e else Row r t (with_first l e)
    with_first_row l (Spread e j) = Spread (with_first l e) j
    with_first_row l (Longer r ns) = Longer (with_first_row l r) ns

    pub with_first_argument : Value → Arguments → Arguments
    with_first_argument l NoMore = NoMore
    with_first_argument l (Scalar e more) =
        if asks_value e then Scalar (with_first l e) more else Scalar e (with_first_argument l more)
    with_first_argument l (Whole q more) =
        if asks_place q then Whole (with_first_index l q) more else Whole q (with_first_argument l more)
    with_first_argument l (Opening r more) =
        if asks_rows r then Opening (with_first_row l r) more else Opening r (with_first_argument l more)

    pub with_first_receiver : Value → Callee → Callee
    with_first_receiver l (Plain m k) = Plain m k
    with_first_receiver l (Dispatched e t k) = Dispatched (with_first l e) t k
    with_first_receiver l (Upper t k) = Upper t k
    with_first_receiver l (Through e t) = Through (with_first l e) t

    pub with_first : Value → Expr → Expr
    with_first l (Lit m) = Lit m
    with_first l SelfRef = SelfRef
    with_first l (Read t q) = if asks_place q then Read t (with_first_index l q) else Had l
    with_first l (Unary op a) = Unary op (with_first l a)
    with_first l (Binary op a b) = if asks_value a then Binary op (with_first l a) b else Binary op a (with_first l b)
    with_first l (And a b) = if asks_value a then And (with_first l a) b else And a (with_first l b)
    with_first l (Or a b) = if asks_value a then Or (with_first l a) b else Or a (with_first l b)
    with_first l (Element a) = Element (with_first l a)
    with_first l (Ord a) = Ord (with_first l a)
    with_first l (Chr a) = Chr (with_first l a)
    with_first l (CompareTexts r a b) =
        if asks_rows a then CompareTexts r (with_first_row l a) b
        else if asks_rows b then CompareTexts r a (with_first_row l b)
        else Had l
    with_first l (Len r d) = Len (with_first_row l r) d
    with_first l (LenBehind r n) = LenBehind (with_first_row l r) n
    with_first l (Function c more) =
        if asks_receiver c then Function (with_first_receiver l c) more
        else if asks_arguments more then Function c (with_first_argument l more)
        else Had l
    with_first l (Same a b) = if asks_value a then Same (with_first l a) b else Same a (with_first l b)
    with_first l (Is a t) = Is (with_first l a) t
    with_first l (IsRecord q t) = IsRecord (with_first_index l q) t
    with_first l (Guard a t) = Guard (with_first l a) t
    with_first l (ProcedureOf m k) = ProcedureOf m k
    with_first l (MethodOf a t k) = MethodOf (with_first l a) t k
    with_first l (SameProcedure a b) = if asks_value a then SameProcedure (with_first l a) b else SameProcedure a (with_first l b)
    with_first l (Had v) = Had v

  -- and so are the next ones
  abbrev pub rewritten_place : List Value → Place → Place
  rewritten_place [] q = q
  rewritten_place (l ∷ ls) q = rewritten_place ls (with_first_index l q)

  abbrev pub rewritten : List Value → Expr → Expr
  rewritten [] e = e
  rewritten (l ∷ ls) e = rewritten ls (with_first l e)

-- a designator whose first reads were answered by these values is the one in which these reads are replaced by them
abbrev pub DesignatorRewrites : Type 0
DesignatorRewrites =
    (p : Program) (here : Here) (made : ℕ → Option Made) (c : Content Value) (q : Place) (ls : List Value)
    → are_asked ls (found_place p here made c q) ≡ true
    → feed ls (found_place p here made c q) ≡ found_place p here made c (rewritten_place p here made c ls q)

-- so is an expression
abbrev pub ExpressionRewrites : Type 0
ExpressionRewrites =
    (p : Program) (here : Here) (made : ℕ → Option Made) (c : Content Value) (e : Expr) (ls : List Value)
    → are_asked ls (found_value p here made c e) ≡ true
    → feed ls (found_value p here made c e) ≡ found_value p here made c (rewritten p here made c ls e)

-- and an assignment: in its designator, and once that is found in its expression
abbrev pub AssignedRewrites : Type 0
AssignedRewrites =
    (p : Program) (here : Here) (made : ℕ → Option Made) (c : Content Value) (at : Pos) (t : TType) (q : Place) (e : Expr) (ls : List Value)
    → are_asked ls (found_place p here made c q) ≡ true
    → feed ls (settled p made c (stat_of p here (Assign at t q e)))
    ≡ settled p made c (stat_of p here (Assign at t (rewritten_place p here made c ls q) e))

abbrev pub AssignmentRewrites : Type 0
AssignmentRewrites =
    (p : Program) (here : Here) (made : ℕ → Option Made) (c : Content Value) (at : Pos) (t : TType) (q : Place) (s : Location) (e : Expr) (ls : List Value)
    → found_place p here made c q ≡ Val s
    → are_asked ls (found_value p here made c e) ≡ true
    → feed ls (settled p made c (stat_of p here (Assign at t q e)))
    ≡ settled p made c (stat_of p here (Assign at t q (rewritten p here made c ls e)))

-- and whatever goes on with the expression's value in a statement
abbrev pub StatementRewrites : Type 0
StatementRewrites =
    (p : Program) (here : Here) (made : ℕ → Option Made) (c : Content Value) (e : Expr) (onward : Value → Doing After) (ls : List Value)
    → are_asked ls (found_value p here made c e) ≡ true
    → feed ls (bind (found_value p here made c e) onward)
    ≡ bind (found_value p here made c (rewritten p here made c ls e)) onward
