-- The code of each statement and each sequence is a piece that leaves the operands as they were.
use Rattle.std.proofs.Common.{◌≡◌, ◌≤◌, ◌<◌, inl, inr, ℕ, zero, suc, ◌+◌, ℤ, List, [], ◌∷◌, ◌++◌, Some, length, Option, None, refl, sym, ap, ◌∙◌, subst, arith, append_assoc, length-append}
use Rattle.std.specs.Prelude.{IsTrue, Bool, true, false, if◌then◌else◌, ◌⊎◌, is_some as has_type, option_map, option_and_then, max, replicate, reverse}
use Rattle.std.proofs.lemmas.List.{length-replicate, length-reverse}
use Rattle.std.proofs.lemmas.Option.{slice_get_within}
use Rattle.std.proofs.lemmas.Bool.{lt-ltb}
use Rattle.std.proofs.Math.Nat.{le-max_left, le-max_right}
use Rattle.aos_base.specs.declared.text.Pos.{Pos}
use Rattle.aos_base.specs.declared.number.Width.TheVariants.{W64}
use Rattle.aos_base.specs.declared.number.Relation.{Relation}
use Rattle.aos_base.specs.declared.number.Relation.TheVariants.{Equal, Less, LessEqual, GreaterEqual}
use Rattle.aos_base.specs.declared.operator.Binary.TheVariants as binary
use Rattle.aos_code.specs.declared.instr.Kind.{Kind}
use Rattle.aos_code.specs.declared.instr.Kind.TheVariants.{N, R, C, A}
use Rattle.aos_code.specs.declared.instr.Instr.{Instr}
use Rattle.aos_code.specs.declared.instr.Instr.TheVariants as i
use Rattle.aos_code.specs.declared.image.Image.{Image}
use Rattle.aos_code.specs.Numbered.{numbered}
use Rattle.aos_code.specs.Silent.{keeps_in}
use Rattle.aos_sound.specs.declared.stand.Role.TheVariants.{Procedure}
use Rattle.aos_sound.specs.Sound.{Kinds, without, topped, given, called, alone, returned, may_stand}
use Rattle.aos_typed.specs.declared.tree.Change.{Change as Changing}
use Rattle.aos_typed.specs.declared.tree.Change.TheVariants as change
use Rattle.std.specs.Ordering.{int_eq}
use Rattle.aos_typed.specs.declared.tree.LabelRange.{LabelRange}
use Rattle.aos_typed.specs.declared.tree.Literal.TheVariants as literal
use Rattle.aos_typed.specs.declared.tree.TType.{TType}
use Rattle.aos_typed.specs.declared.tree.TType.TheVariants as type
use Rattle.aos_typed.specs.Meaning.{until, changed_type}
use Rattle.aos_typed.specs.Numbers.{id_of, body_number}
use Rattle.aos_types.specs.Table.{row_of, is_object}
use Rattle.aos_typed.specs.Methods.{method_number, is_active, body_type, initializer}
use Rattle.aos_typed.specs.Routines.{Routine, parameters_of, result_of}
use Rattle.aos_layout.specs.Layout.{kind_of as cell_kind}
use Rattle.aos_typed.specs.Program.{Program, Parameter, Procedure as Declared, Arguments, Place, Expr, Lit, Read, Binary, Call, Open, Char, Int, String, Ln, Stat, Assign, Copy, PutText, If, Case, While, Repeat, Loop, Exit, For, Block, Await, Assert, Halt, Change, Perform, Return, New, Make, With, WithRecord, Out, Stats, Nothing, Then, Arms, Otherwise, Arm, Cases, NoElse, Else, OfLabels}
use Rattle.aos_typed.specs.Conditions.{Condition, conditions, IsLinked, AreLinked, AreArmsLinked, AreCasesLinked}
use Rattle.aos_typed.specs.WellTyped.{amount_type, IsPlaceOf, IsOf, AreArguments, AreLengthsOf, IsInitialized, IsCall, IsReturn, IsStatement, AreStatements, AreArms, AreCases}
use Rattle.aos_sim.specs.Code.{Within, NoRegion, AroundLoop, InLoop, Ways, loop_within, loop_ways, block_ways, block_at, block_code, exit_code, return_code, begin, kind_of, cells_of, place_code, arguments_code, value_code, values_code, make_instr, make_code, out_code, stash, unstash, initial_kinds, initialize_code, carry_out_instr, store_code, new_code, assign_code, change_code, changed_code, for_head, step_code, body_place, stat_code, stats_code, arms_code, cases_code, arm_place}
use Rattle.aos_sim.specs.Search.{Search, Nowhere, At as Labels, Split, arms_in, search_of, one_code, range_code, label_code, label_size, search_size, search_code}
use Rattle.aos_sim.specs.Need.{operands, arguments_need, place_need, value_need, values_need, out_need, assign_need, changed_need, stat_need, stats_need, arms_need, cases_need, stat_level, stats_level, arms_level, cases_level}
use Rattle.aos_sim.proofs.Changes.{includes_itself}
use Rattle.aos_sim.proofs.Sizes.{label_length, search_length, stats_length, arms_length, cases_length, arm_ahead, stats_above}
use Rattle.aos_sim.proofs.Routines.{object_there}
use Rattle.aos_code_soundness.specs.Piece.{Round, At, Piece}
use Rattle.aos_code_soundness.proofs.Pieces.{Entries, nothing, one, followed, both, one_then, then_one, left_with, moved, recoded, asks_less, jump_forth, branch, choose, arm, repeats, repeats_until, loops, stops}
use Rattle.aos_code_soundness.proofs.Numbers.{HasNumbers}
use Rattle.aos_code_soundness.proofs.Operands.{value_kind}
use Rattle.aos_code_soundness.proofs.CallKinds.{dimensions_are, kinds_taken, kinds_for, handed_many}
use Rattle.aos_code_soundness.proofs.Values.{some_place, some_rows, some_need, as_kind, called_takes, number_there, place_piece, arguments_piece, value_piece, lengths_of, text_piece, texts_piece, call_piece, value_typed}

-- an operand of any kind is stored in a place
stored : (k : Kind) (s : Kinds) → without (k ∷ A ∷ []) (k ∷ A ∷ s) ≡ Some s
stored N s = refl
stored R s = refl
stored C s = refl
stored A s = refl

-- an operand of any kind is kept
kept_one : (k : Kind) (s : Kinds) → without (k ∷ []) (k ∷ s) ≡ Some s
kept_one N s = refl
kept_one R s = refl
kept_one C s = refl
kept_one A s = refl

-- a result is alone
alone_one : (k : Kind) → alone (Some k) (k ∷ []) ≡ Some []
alone_one N = refl
alone_one R = refl
alone_one C = refl
alone_one A = refl

-- there is room for each of some values
some_values : (es : List Expr) → length es ≤ values_need es
some_values [] = omega arith
some_values (e ∷ es) = let h = some_values es in omega (arith, h)

-- what a variable is changed by is a number
amount_kind : (p : Program) (c : Changing) → kind_of p.types (amount_type c) ≡ N
amount_kind p (change.Add w) = refl
amount_kind p (change.Subtract w) = refl
amount_kind p change.Include = refl
amount_kind p change.Exclude = refl

-- how many operands the change itself has
abbrev changed_room : Changing → ℕ
changed_room (change.Add w) = 3
changed_room (change.Subtract w) = 3
changed_room change.Include = 4
changed_room change.Exclude = 4

-- there is room for the place, for what it's changed by above two places, and for the change
changed_few : (c : Changing) (place value : ℕ) → 1 ≤ value → (place ≤ changed_need c place value) × (2 + value ≤ changed_need c place value) × (changed_room c ≤ changed_need c place value)
changed_few (change.Add w) place value k = (omega arith, omega arith, omega (arith, k))
changed_few (change.Subtract w) place value k = (omega arith, omega arith, omega (arith, k))
changed_few change.Include place value k = (omega arith, omega arith, omega arith)
changed_few change.Exclude place value k = (omega arith, omega arith, omega arith)

module _ (p : Program) (o : Option Declared) (image : Image) (own : ℕ) (depth : ℕ) (has : HasNumbers p o image own) where
  -- how many numbers it may keep something under
  abbrev keeps : ℕ
  keeps = keeps_in (numbered image.shapes.items own)

  may_keep : (d : ℕ) → d < keeps → (whole : List Instr) (q : ℕ) → IsTrue (may_stand image own Procedure whole q (i.Keep d N))
  may_keep d lt whole q = lt-ltb d keeps lt

  -- the value that CASE selects by
  selector_piece : {Asks : Round} (e : Expr) → IsOf p o e (type.Integer W64) ⊎ IsOf p o e type.Char → (at : ℕ) (s : Kinds) → length s + value_need e ≤ depth → Piece image own Procedure depth Asks (value_code p o e at) at s (N ∷ s)
  selector_piece e h at s room = elim h [
    | inl a ↦ value_piece p o image own Procedure depth has refl e (type.Integer W64) a at s room
    | inr a ↦ value_piece p o image own Procedure depth has refl e type.Char a at s room
  ]

  -- a piece with the beginning of its statement
  begins : {Asks : Round} (here : Pos) {code : List Instr} {at : ℕ} {s t : Kinds} → length s ≤ depth → Piece image own Procedure depth Asks code (at + 1) s t → Piece image own Procedure depth Asks (begin here ∷ code) at s t
  begins here few c = one_then (begin here) refl refl few (λ whole q. refl) c

  -- a call of a procedure of module Out
  out_piece : {Asks : Round} (call : Call) → IsCall p o call → (at : ℕ) (s : Kinds) → length s + out_need call ≤ depth → Piece image own Procedure depth Asks (out_code p o call at) at s s
  out_piece Open h at s room = one i.OutOpen refl refl (omega (arith, room)) (λ whole q. refl)
  out_piece (Char e) h at s room =
      let k = some_need e in
      then_one (value_piece p o image own Procedure depth has refl e type.Char h at s room) i.OutChar refl refl (omega (arith, room, k)) (λ whole q. refl)
  out_piece (Int e n) h at s room =
      let k = some_need n in
      both
      (value_piece p o image own Procedure depth has refl e (type.Integer W64) h.0 at s (omega (arith, room)))
      (then_one (value_piece p o image own Procedure depth has refl n (type.Integer W64) h.1 (at + length (value_code p o e at)) (N ∷ s) (omega (arith, room))) i.OutInt refl refl (omega (arith, room, k)) (λ whole q. refl))
  out_piece (String r) h at s room =
      let k = some_rows r in
      then_one (text_piece p o image own Procedure depth has refl r h at s room) i.OutString refl refl (omega (arith, room, k, dimensions_are p o r 1 type.Char h)) (λ whole q. refl)
  out_piece Ln h at s room = one i.OutLn refl refl (omega (arith, room)) (λ whole q. refl)

  -- operands that are kept,
  stash_piece : {Asks : Round} (ks : Kinds) (d at : ℕ) (s : Kinds) → d + length ks ≤ keeps → length ks + length s ≤ depth → Piece image own Procedure depth Asks (stash ks d) at (ks ++ s) s
  stash_piece [] d at s kept room = nothing
  stash_piece (k ∷ ks) d at s kept room =
      one_then (i.Keep d k) (kept_one k (ks ++ s)) refl (omega (arith, room, length-append ks s)) (may_keep d (omega (arith, kept)))
      (stash_piece ks (suc d) (at + 1) s (omega (arith, kept)) (omega (arith, room)))

  -- and that are there again
  unstash_piece : {Asks : Round} (ks : Kinds) (d at : ℕ) (s : Kinds) → d + length ks ≤ keeps → length ks + length s ≤ depth → Piece image own Procedure depth Asks (unstash ks d) at s (ks ++ s)
  unstash_piece [] d at s kept room = nothing
  unstash_piece (k ∷ ks) d at s kept room =
      then_one (unstash_piece ks (suc d) at s (omega (arith, kept)) (omega (arith, room)))
      (i.Kept d k) refl refl (omega (arith, room, length-append ks s)) (may_keep d (omega (arith, kept)))

  -- what an initializer is handed, where there is one
  record Initial (slot : Option ℕ) (t : ℕ) (more : Arguments) : Type 0 where
    parameters : List Parameter
    are : AreArguments p o more parameters
    kinds : initial_kinds p o slot t ≡ reverse (kinds_for p parameters)

  initial : (slot : Option ℕ) (t : ℕ) (more : Arguments) → IsInitialized p o slot t more → Initial slot t more
  initial None t more h = record { parameters = []; are = subst (λ m. AreArguments p o m []) (sym h) refl; kinds = refl }
  initial (Some k) t more h =
      record { parameters = h.0.parameters; are = h.3; kinds = ap (λ r. reverse (kinds_for p (parameters_of (option_and_then (λ (x : Routine). x.own) r)))) (has.methods.found t k h.0 h.1).there }

  -- an initializer is called on the object, which stays
  initialize_piece : {Asks : Round} (slot : Option ℕ) (t : ℕ) (more : Arguments) → IsInitialized p o slot t more → (d at : ℕ) (s : Kinds) → d + operands more ≤ keeps → 2 + operands more + length s ≤ depth → Piece image own Procedure depth Asks (initialize_code p o slot t (initial_kinds p o slot t) d) at (R ∷ s) (R ∷ s)
  unfolding initial
  initialize_piece None t more h d at s kept room = nothing
  initialize_piece (Some k) t more h d at s kept room =
      let f = has.methods.found t k h.0 h.1 in
      let n = method_number p t k in
      let ks = initial_kinds p o (Some k) t in
      let is : ks ≡ reverse (kinds_for p h.0.parameters) = (initial (Some k) t more h).kinds in
      let long : length ks ≡ operands more = ap length is ∙ length-reverse (kinds_for p h.0.parameters) ∙ handed_many p o has.predeclared more h.0.parameters h.3 in
      let takes =
      ap (λ l. called (numbered image.shapes.items n) (l ++ (R ∷ R ∷ s))) is
      ∙ called_takes p o image own Procedure depth has refl n f.home h.0 true f.there (ap has_type f.is) (R ∷ s)
      ∙ ap (λ r. given (option_map (λ t. cell_kind p.types (id_of t)) r) (Some (R ∷ s))) h.2 in
      one_then i.Dup refl refl (omega (arith, room)) (λ whole q. refl)
      (then_one (unstash_piece ks d (at + 1) (R ∷ R ∷ s) (omega (arith, kept, long)) (omega (arith, room, long)))
      (i.Call n) takes refl (omega (arith, room, long, length-append ks (R ∷ R ∷ s)))
      (λ whole q. number_there p o image own Procedure depth has refl n f.home h.0 f.there))

  -- the body is carried out on the object
  carry_out_piece : {Asks : Round} (t b : ℕ) → body_type p t ≡ Some b → (at : ℕ) (s : Kinds) → 1 + length s ≤ depth → Piece image own Procedure depth Asks (carry_out_instr p o b ∷ []) at (R ∷ s) s
  carry_out_piece {Asks} t b e at s room = by (is_active p b)
    where
      by : (active : Bool) → Piece image own Procedure depth Asks ((if active then i.Start else i.Call (body_number p b)) ∷ []) at (R ∷ s) s
      by true = one i.Start refl refl (omega (arith, room)) (λ whole q. refl)
      by false =
          let x = has.methods.bodies t b e in
          let n = body_number p b in
          let q = x.object.body in
          let there = object_there p b x.object x.there in
          let takes =
          ap (λ ps. called (numbered image.shapes.items n) (reverse (kinds_for p ps) ++ (R ∷ s))) (sym x.body.plain)
          ∙ called_takes p o image own Procedure depth has refl n x.object.home q true there (ap has_type x.body.own) s
          ∙ ap (λ r. given (option_map (λ t. cell_kind p.types (id_of t)) r) (Some s)) x.body.proper in
          one (i.Call n) takes refl (omega (arith, room)) (λ whole j. number_there p o image own Procedure depth has refl n x.object.home q there)

  -- the object is stored, and then its body is carried out
  store_piece : {Asks : Round} (body_of : Option ℕ) (t : ℕ) → body_type p t ≡ body_of → (d at : ℕ) (s : Kinds) → d < keeps → 3 + length s ≤ depth → Piece image own Procedure depth Asks (store_code p o body_of d) at (R ∷ A ∷ s) s
  store_piece None t e d at s kept room = one (i.Store R) refl refl (omega (arith, room)) (λ whole q. refl)
  store_piece (Some b) t e d at s kept room =
      one_then i.Dup refl refl (omega (arith, room)) (λ whole q. refl)
      (one_then (i.Keep d R) refl refl (omega (arith, room)) (may_keep d kept)
      (one_then (i.Store R) refl refl (omega (arith, room)) (λ whole q. refl)
      (one_then (i.Kept d R) refl refl (omega (arith, room)) (may_keep d kept)
      (carry_out_piece t b e (at + 1 + 1 + 1 + 1) s (omega (arith, room))))))

  -- the making of an object
  new_piece : {Asks : Round} (x : Place) (t : ℕ) (more : Arguments) → IsPlaceOf p o x (type.Named t) → is_object (row_of p.types (id_of (type.Named t))) ≡ true → IsInitialized p o (initializer p t) t more → (at d : ℕ) (s : Kinds) → d < keeps → d + operands more ≤ keeps → length s + max (place_need x) (1 + max (arguments_need more) (2 + operands more)) ≤ depth → Piece image own Procedure depth Asks (new_code p o x t more at d) at s s
  new_piece x t more h is handed at d s one_kept kept room =
      let slot = initializer p t in
      let ks = initial_kinds p o slot t in
      let a = initial slot t more handed in
      let first = at + length (place_code p o x at) in
      let second = first + length (arguments_code p o more first) in
      let long : length ks ≡ operands more = ap length a.kinds ∙ length-reverse (kinds_for p a.parameters) ∙ handed_many p o has.predeclared more a.parameters a.are in
      let made = second + length (stash ks d) + 1 in
      both (place_piece p o image own Procedure depth has refl x (type.Named t) h at s (omega (arith, room)))
      (both (left_with (ap (λ l. l ++ (A ∷ s)) (sym a.kinds)) (arguments_piece p o image own Procedure depth has refl more a.parameters a.are first (A ∷ s) (omega (arith, room))))
      (both (stash_piece ks d second (A ∷ s) (omega (arith, kept, long)) (omega (arith, room, long)))
      (one_then (i.NewObject (t + 1)) refl refl (omega (arith, room)) (λ whole q. has.objects t is)
      (both (initialize_piece slot t more handed d made (A ∷ s) kept (omega (arith, room)))
      (store_piece (body_type p t) t refl d (made + length (initialize_code p o slot t ks d)) s one_kept (omega (arith, room)))))))

  -- the making of a record or an array, whose lengths are there
  made_piece : {Asks : Round} (t n : ℕ) → t < length p.objects → (at : ℕ) (s : Kinds) → length s + n ≤ depth → Piece image own Procedure depth Asks (make_instr t n ∷ []) at (replicate n N ++ s) (R ∷ s)
  made_piece t zero lt at s room = one (i.NewObject (t + 1)) refl refl (omega (arith, room)) (λ whole q. has.types t lt)
  made_piece t (suc n) lt at s room =
      one (i.NewArray (t + 1) (suc n)) (ap (topped R) (kinds_taken (replicate (suc n) N) s)) refl
      (omega (arith, room, length-append (replicate (suc n) N) s, length-replicate (suc n) N)) (λ whole q. has.types t lt)

  make_piece : {Asks : Round} (x : Place) (u : TType) (t : ℕ) (ns : List Expr) → IsPlaceOf p o x u → t < length p.objects → AreLengthsOf p o ns → (at : ℕ) (s : Kinds) → length s + max (place_need x) (1 + max 1 (values_need ns)) ≤ depth → Piece image own Procedure depth Asks (make_code p o x t ns at) at s s
  make_piece x u t ns h lt lengths at s room =
      let k = some_values ns in
      let first = at + length (place_code p o x at) in
      both (place_piece p o image own Procedure depth has refl x u h at s (omega (arith, room)))
      (both (lengths_of p o image own Procedure depth has refl ns lengths first (A ∷ s) (omega (arith, room)))
      (both (made_piece t (length ns) lt (first + length (values_code p o ns first)) (A ∷ s) (omega (arith, room, k)))
      (one (i.Store R) refl refl (omega (arith, room)) (λ whole q. refl))))

  -- a value for a variable
  assign_piece : {Asks : Round} (here : Pos) (t : TType) (x : Place) (e : Expr) → IsPlaceOf p o x t → IsOf p o e t → (at : ℕ) (s : Kinds) → length s + assign_need (place_need x) (value_need e) ≤ depth → Piece image own Procedure depth Asks (assign_code p o here t x e at) at s s
  assign_piece here t x e h g at s room =
      begins here (omega (arith, room)) (both
      (place_piece p o image own Procedure depth has refl x t h (at + 1) s (omega (arith, room)))
      (then_one
      (value_piece p o image own Procedure depth has refl e t g (at + 1 + length (place_code p o x (at + 1))) (A ∷ s) (omega (arith, room)))
      (i.Store (kind_of p.types t)) (stored (kind_of p.types t) s) refl (let k = some_need e in omega (arith, room, k)) (λ whole q. refl)))

  -- a variable that is changed
  change_piece : {Asks : Round} (c : Changing) (s : Kinds) (at : ℕ) → length s + changed_room c ≤ depth → Piece image own Procedure depth Asks (change_code c ++ i.Store N ∷ []) at (N ∷ N ∷ A ∷ s) s
  change_piece (change.Add w) s at room = one_then (i.Binary (binary.Add w)) refl refl (omega (arith, room)) (λ whole q. refl) (one (i.Store N) refl refl (omega (arith, room)) (λ whole q. refl))
  change_piece (change.Subtract w) s at room = one_then (i.Binary (binary.Sub w)) refl refl (omega (arith, room)) (λ whole q. refl) (one (i.Store N) refl refl (omega (arith, room)) (λ whole q. refl))
  change_piece change.Include s at room =
      one_then i.Dup refl refl (omega (arith, room)) (λ whole q. refl) (one_then (i.Binary binary.SetSpan) refl refl (omega (arith, room)) (λ whole q. refl)
      (one_then (i.Binary binary.Union) refl refl (omega (arith, room)) (λ whole q. refl) (one (i.Store N) refl refl (omega (arith, room)) (λ whole q. refl))))
  change_piece change.Exclude s at room =
      one_then i.Dup refl refl (omega (arith, room)) (λ whole q. refl) (one_then (i.Binary binary.SetSpan) refl refl (omega (arith, room)) (λ whole q. refl)
      (one_then (i.Binary binary.Minus) refl refl (omega (arith, room)) (λ whole q. refl) (one (i.Store N) refl refl (omega (arith, room)) (λ whole q. refl))))

  changed_piece : {Asks : Round} (here : Pos) (c : Changing) (x : Place) (e : Expr) → IsPlaceOf p o x (changed_type c) → IsOf p o e (amount_type c) → (at : ℕ) (s : Kinds) → length s + changed_need c (place_need x) (value_need e) ≤ depth → Piece image own Procedure depth Asks (changed_code p o here c x e at) at s s
  changed_piece {Asks} here c x e h g at s room =
      let k = some_need e in
      let few = changed_few c (place_need x) (value_need e) k in
      let there = at + 1 + length (place_code p o x (at + 1)) + 1 in
      let amount : Piece image own Procedure depth Asks (value_code p o e there) there (A ∷ A ∷ s) (N ∷ A ∷ A ∷ s) = as_kind p o image own Procedure depth has refl (amount_kind p c) (value_piece p o image own Procedure depth has refl e (amount_type c) g there (A ∷ A ∷ s) (omega (arith, room, few.1))) in
      begins here (omega (arith, room)) (both
      (place_piece p o image own Procedure depth has refl x (changed_type c) h (at + 1) s (omega (arith, room, few.0)))
      (one_then i.Dup refl refl (omega (arith, room, k, few.1)) (λ whole q. refl)
      (both amount
      (one_then i.Swap refl refl (omega (arith, room, k, few.1)) (λ whole q. refl)
      (one_then (i.Load N) refl refl (omega (arith, room, k, few.1)) (λ whole q. refl)
      (one_then i.Swap refl refl (omega (arith, room, k, few.1)) (λ whole q. refl)
      (change_piece c s _ (omega (arith, room, few.2)))))))))

  -- all these places have no operands
  abbrev AtAll : (ℕ → ℕ) → Round
  AtAll place = λ whole kinds. (n : ℕ) → kinds (place n) ≡ Some []

  -- a comparison of the selector's value, which is kept, and a jump where it doesn't hold
  test_piece : (relation : Relation) (z : ℤ) (d to at : ℕ) → d < keeps → at + 4 ≤ to → 2 ≤ depth → Piece image own Procedure depth (At to []) (i.Kept d N ∷ (i.Num z ∷ (i.Binary (binary.Cmp relation) ∷ (i.JumpFalse to ∷ [])))) at [] []
  test_piece relation z d to at lt ahead room =
      one_then (i.Kept d N) refl refl (omega (arith, room)) (may_keep d lt)
      (one_then (i.Num z) refl refl (omega (arith, room)) (λ whole q. refl)
      (one_then (i.Binary (binary.Cmp relation)) refl refl (omega (arith, room)) (λ whole q. refl)
      (branch to {at = at + 1 + 1 + 1} {s = []} (omega (arith, ahead)) (omega (arith, room)))))

  -- labels
  one_piece : (z : ℤ) (d at hit : ℕ) → d < keeps → at + 5 ≤ hit → 2 ≤ depth → Piece image own Procedure depth (At hit []) (one_code z d at hit) at [] []
  one_piece z d at hit lt le room =
      let Both : Round = λ whole kinds. (kinds hit ≡ Some []) × (kinds (at + 5) ≡ Some []) in
      let test = asks_less Both (test_piece Equal z d (at + 5) at lt (omega arith) room) (λ whole kinds st f g q. q.1) in
      let over = asks_less Both (jump_forth hit {at = at + 4} {s = []} {u = []} (omega (arith, le)) (omega arith)) (λ whole kinds st f g q. q.0) in
      asks_less (At hit []) (both test over) (λ whole kinds st f g q. (q, g))

  range_piece : (r : LabelRange) (d at hit : ℕ) → d < keeps → at + 9 ≤ hit → 2 ≤ depth → Piece image own Procedure depth (At hit []) (range_code r d at hit) at [] []
  range_piece r d at hit lt le room =
      let Both : Round = λ whole kinds. (kinds hit ≡ Some []) × (kinds (at + 9) ≡ Some []) in
      let low = asks_less Both (test_piece GreaterEqual r.low d (at + 9) at lt (omega arith) room) (λ whole kinds st f g q. q.1) in
      let high = asks_less Both (test_piece LessEqual r.high d (at + 9) (at + 4) lt (omega arith) room) (λ whole kinds st f g q. q.1) in
      let over = asks_less Both (jump_forth hit {at = at + 4 + 4} {s = []} {u = []} (omega (arith, le)) (omega arith)) (λ whole kinds st f g q. q.0) in
      asks_less (At hit []) (both low (both high over)) (λ whole kinds st f g q. (q, g))

  label_piece : (r : LabelRange) (d at hit : ℕ) → d < keeps → at + label_size r ≤ hit → 2 ≤ depth → Piece image own Procedure depth (At hit []) (label_code r d at hit) at [] []
  label_piece r d at hit lt le room = by (int_eq r.low r.high) le
    where
      by : (b : Bool) → at + (if b then 5 else 9) ≤ hit → Piece image own Procedure depth (At hit []) (if b then one_code r.low d at hit else range_code r d at hit) at [] []
      by true le = one_piece r.low d at hit lt le room
      by false le = range_piece r d at hit lt le room

  -- a search
  search_piece : (place : ℕ → ℕ) (other : ℕ) (t : Search) (d at : ℕ) → d < keeps → ((n : ℕ) → at + search_size t ≤ place n) → 2 ≤ depth → Piece image own Procedure depth (AtAll place) (search_code place other t d at) at [] []
  search_piece place other Nowhere d at lt ahead room =
      asks_less (AtAll place) (jump_forth (place other) {at = at} {s = []} {u = []} (omega (arith, ahead other)) (omega arith)) (λ whole kinds st f g q. q other)
  search_piece place other (Labels r) d at lt ahead room =
      both (asks_less (AtAll place) (label_piece r.labels d at (place r.arm) lt (omega (arith, ahead r.arm)) room) (λ whole kinds st f g q. q r.arm))
      (moved (ap (λ n. at + n) (sym (label_length r.labels d at (place r.arm))))
      (asks_less (AtAll place) (jump_forth (place other) {at = at + label_size r.labels} {s = []} {u = []} (omega (arith, ahead other)) (omega arith)) (λ whole kinds st f g q. q other)))
  search_piece place other (Split middle below above) d at lt ahead room =
      let to = at + 4 + search_size below in
      let Both : Round = λ whole kinds. AtAll place whole kinds × (kinds to ≡ Some []) in
      let size = search_length place other below d (at + 4) in
      let behind : at + 4 + length (search_code place other below d (at + 4)) ≡ to = ap (λ n. at + 4 + n) size in
      let ends : at + suc (suc (suc (suc (length (search_code place other below d (at + 4)))))) ≡ to = omega (arith, behind) in
      let test = asks_less Both (test_piece Less middle d to at lt (omega arith) room) (λ whole kinds st f g q. q.1) in
      let upper = asks_less Both (search_piece place other below d (at + 4) lt (λ n. omega (arith, ahead n)) room) (λ whole kinds st f g q. q.0) in
      both (asks_less (AtAll place) (both test upper) (λ whole kinds st f g q. (q, ap kinds (sym ends) ∙ g)))
      (moved (sym ends) (search_piece place other above d to lt (λ n. omega (arith, ahead n)) room))

  -- in the labels of a CASE, if there are any
  labels_piece : (place : ℕ → ℕ) (cases : Cases) (d at : ℕ) → d < keeps → ((n : ℕ) → at + search_size (search_of cases) ≤ place n) → cases_need cases ≤ depth → Piece image own Procedure depth (AtAll place) (search_code place (arms_in cases) (search_of cases) d at) at [] []
  labels_piece place NoElse d at lt ahead room = asks_less (AtAll place) (jump_forth (place 0) {at = at} {s = []} {u = []} (omega (arith, ahead 0)) (omega arith)) (λ whole kinds st f g q. q 0)
  labels_piece place (Else ss) d at lt ahead room = asks_less (AtAll place) (jump_forth (place 0) {at = at} {s = []} {u = []} (omega (arith, ahead 0)) (omega arith)) (λ whole kinds st f g q. q 0)
  labels_piece place (OfLabels rs ss cases) d at lt ahead room =
      search_piece place (suc (arms_in cases)) (search_of (OfLabels rs ss cases)) d at lt ahead (omega (arith, room))

  -- EXIT and RETURN leave a region first
  exit_piece : (u : Within) (x at : ℕ) → at + length (exit_code u x) ≤ x → Piece image own Procedure depth (At x []) (exit_code u x) at [] []
  exit_piece NoRegion x at le = jump_forth x (omega (arith, le)) (omega arith)
  exit_piece AroundLoop x at le = jump_forth x (omega (arith, le)) (omega arith)
  exit_piece InLoop x at le = one_then i.Leave refl refl (omega arith) (λ whole q. refl) (jump_forth x (omega (arith, le)) (omega arith))

  left_piece : {Asks : Round} (u : Within) {at : ℕ} {s t : Kinds} → length s ≤ depth → ((at' : ℕ) → Piece image own Procedure depth Asks (i.Return ∷ []) at' s t) → Piece image own Procedure depth Asks (return_code u) at s t
  left_piece NoRegion {at = at} few ends = ends at
  left_piece AroundLoop {at = at} few ends = one_then i.Leave refl refl few (λ whole q. refl) (ends (at + 1))
  left_piece InLoop {at = at} few ends = one_then i.Leave refl refl few (λ whole q. refl) (ends (at + 1))

  -- a region with these statements
  region_piece : {Asks : Round} {b : List Instr} {at : ℕ} → Piece image own Procedure depth Asks b (at + 1) [] [] → Piece image own Procedure depth Asks (block_code true b) at [] []
  region_piece q = one_then i.Enter refl refl (omega arith) (λ whole p. refl) (then_one q i.Leave refl refl (omega arith) (λ whole p. refl))

  -- a procedure that gives nothing ends without operands,
  nothing_returned : (r : Option TType) → result_of o ≡ r → IsReturn p o None r → returned (numbered image.shapes.items own) [] ≡ Some []
  nothing_returned None e h = ap (λ f. returned f []) has.mine.1 ∙ ap (λ k. alone k []) (has.mine.2 ∙ ap (option_map (λ t. cell_kind p.types (id_of t))) e)
  nothing_returned (Some t) e h = absurd h

  -- and a function with its result
  return_piece : {Asks : Round} (u : Within) (e : Expr) (r : Option TType) → result_of o ≡ r → IsReturn p o (Some e) r → (at : ℕ) → value_need e ≤ depth → Piece image own Procedure depth Asks (value_code p o e at ++ return_code u) at [] []
  return_piece u e None is h at room = absurd h
  return_piece u e (Some t) is h at room =
      let k = some_need e in
      let ends : returned (numbered image.shapes.items own) (kind_of p.types t ∷ []) ≡ Some [] =
      ap (λ f. returned f (kind_of p.types t ∷ [])) has.mine.1
      ∙ ap (λ k. alone k (kind_of p.types t ∷ [])) (has.mine.2 ∙ ap (option_map (λ t. cell_kind p.types (id_of t))) is ∙ ap (λ k. Some k) (value_kind p has.predeclared t (value_typed p o e t h)))
      ∙ alone_one (kind_of p.types t) in
      both
      (value_piece p o image own Procedure depth has refl e t h at [] (omega (arith, room)))
      (left_piece u (omega (arith, room, k)) (λ at'. stops i.Return [] ends refl (omega (arith, room, k)) (λ whole q. refl)))

  -- in a routine of this module
  module _ (home : ℕ) where
    mutual
      -- a statement; an EXIT in it leads behind it, to what has the same operands
      pub stat_piece : (t : Stat) → IsStatement p o t → IsLinked (conditions p) home o t → (at : ℕ) (x : Ways) (d : ℕ) → at + length (stat_code p o t at x d) ≤ x.exit → stat_level t d ≤ keeps → stat_need t ≤ depth → Piece image own Procedure depth (At x.exit []) (stat_code p o t at x d) at [] []
      stat_piece (Assign here t y e) h g at x d le kept room = assign_piece here t y e h.0 h.2 at [] (omega (arith, room))
      stat_piece (Copy here t y z) h g at x d le kept room =
          begins here (omega (arith, room)) (both
          (place_piece p o image own Procedure depth has refl y t h.0 (at + 1) [] (omega (arith, room)))
          (then_one
          (place_piece p o image own Procedure depth has refl z h.1.0 h.1.1 (at + 1 + length (place_code p o y (at + 1))) (A ∷ []) (omega (arith, room)))
          (i.Copy (cells_of p o t)) refl refl (let k = some_place z in omega (arith, room, k)) (λ whole q. refl)))
      stat_piece (PutText here strict a b) h g at x d le kept room =
          begins here (omega (arith, room)) (texts_piece p o image own Procedure depth has refl a b h.0 h.1 (i.PutText strict) (at + 1) [] (omega (arith, room)) refl refl (λ whole q. refl))
      stat_piece (If here arms) h g at x d le kept room =
          let end = at + 1 + length (arms_code p o arms (at + 1) 0 x d) in
          let same = arms_length p o arms (at + 1) end 0 x.within x.exit x.exit d in
          begins here (omega (arith, room)) (arms_piece arms h g (at + 1) end x d (omega (arith, same)) (omega (arith, le)) kept room)
      stat_piece (Case here e cases) h g at x d le kept room =
          let c = value_code p o e (at + 1) in
          let from = at + 1 + length c + 1 in
          let first = from + search_size (search_of cases) in
          let end = first + length (cases_code p o cases first 0 x d) in
          let place = arm_place p o cases first x d in
          let search = search_code place (arms_in cases) (search_of cases) d from in
          let arms = cases_code p o cases first end x d in
          let same = cases_length p o cases first end 0 x.within x.exit x.exit d in
          let size = search_length place (arms_in cases) (search_of cases) d from in
          let l1 = length-append c (i.Keep d N ∷ (search ++ arms)) in
          let l2 = length-append search arms in
          let k = some_need e in
          let lt : d < keeps = omega (arith, kept, le-max_left (suc d) (cases_level cases d)) in
          let z : first ≡ from + length search = omega (arith, size) in
          let all = subst (λ n. Entries image own Procedure depth (At x.exit []) arms n place [] []) z
          (cases_piece cases h.2 g first end x d (omega (arith, same)) (omega (arith, le, same, size, l1, l2)) (omega (arith, kept, le-max_right (suc d) (cases_level cases d))) (omega (arith, room))) in
          begins here (omega (arith, room)) (both (selector_piece e h.0 (at + 1) [] (omega (arith, room)))
          (one_then (i.Keep d N) refl refl (omega (arith, room, k)) (may_keep d lt)
          (followed (labels_piece place cases d from lt (arm_ahead p o cases first x d) (omega (arith, room))) all.0 (λ whole kinds l g q. all.1 kinds l g))))
      stat_piece (While here e body) h g at x d le kept room =
          let c = value_code p o e (at + 1) in
          let first = at + 1 + length c + 1 in
          let b = stats_code p o body first x d in
          let k = some_need e in
          let counted = length-append c (i.JumpFalse (first + length b + 1) ∷ (b ++ i.Jump at ∷ [])) in
          repeats here.line here.col (first + length b + 1) refl refl (omega (arith, room, k))
          (value_piece p o image own Procedure depth has refl e type.Boolean h.0 (at + 1) [] (omega (arith, room)))
          (stats_piece body h.1 g first x d (omega (arith, le, counted, length-append b (i.Jump at ∷ []))) kept (omega (arith, room)))
      stat_piece (Repeat here body e) h g at x d le kept room =
          let b = stats_code p o body (at + 1) x d in
          let c = value_code p o e (at + 1 + length b) in
          let k = some_need e in
          repeats_until here.line here.col refl (omega (arith, room, k))
          (stats_piece body h.0 g (at + 1) x d (omega (arith, le, length-append b (c ++ i.JumpFalse at ∷ []))) kept (omega (arith, room)))
          (value_piece p o image own Procedure depth has refl e type.Boolean h.1 (at + 1 + length b) [] (omega (arith, room)))
      stat_piece (Loop here body) h g at x d le kept room =
          let out = at + 1 + length (stats_code p o body (at + 1) (loop_ways 0 x) d) + 1 in
          let same = stats_length p o body (at + 1) (loop_within x.within) out 0 d in
          loops here.line here.col out (omega (arith, same)) refl (omega (arith, room))
          (stats_piece body h g (at + 1) (loop_ways out x) d (omega (arith, same)) kept (omega (arith, room)))
      stat_piece (Exit here) h g at x d le kept room = begins here (omega (arith, room)) (exit_piece x.within x.exit (at + 1) (omega (arith, le)))
      stat_piece (For here w y from to step body) h g at x d le kept room =
          let last = value_code p o to (at + 1) in
          let k = some_need to in
          let head = for_head p o here w y from to at d in
          let t = at + length head in
          let v = value_code p o (Read (type.Integer w) y) (t + 1) in
          let tail = i.Kept d N ∷ (i.Binary (binary.Cmp (until step)) ∷ []) in
          let test = v ++ tail in
          let first = body_place p o w y t in
          let b = stats_code p o body first x (suc d) in
          let n = step_code p o here w y step (first + length b) in
          let end = t + 1 + length test + 1 + length b + length n + 1 in
          let above = stats_above body (suc d) in
          let may = may_keep d (omega (arith, kept, above)) in
          let l1 = length-append v tail in
          let l2 = length-append b n in
          let l3 = length-append test (i.JumpFalse end ∷ (b ++ (n ++ i.Jump t ∷ []))) in
          let l4 = length-append b (n ++ i.Jump t ∷ []) in
          let l5 = length-append head (begin here ∷ (test ++ (i.JumpFalse end ∷ (b ++ (n ++ i.Jump t ∷ []))))) in
          both
          (begins here (omega (arith, room)) (both
          (value_piece p o image own Procedure depth has refl to (type.Integer w) h.3 (at + 1) [] (omega (arith, room)))
          (one_then (i.Keep d N) refl refl (omega (arith, room, k)) may
          (assign_piece here (type.Integer w) y from h.1 h.2 (at + 1 + length last + 1) [] (omega (arith, room))))))
          (recoded (ap (λ l. begin here ∷ (test ++ (i.JumpFalse end ∷ l))) (append_assoc b n (i.Jump t ∷ [])))
          (repeats here.line here.col {c = test} {b = b ++ n} end (omega (arith, l2)) refl (omega (arith, room))
          (both (value_piece p o image own Procedure depth has refl (Read (type.Integer w) y) (type.Integer w) (h.1, refl, inl (includes_itself w)) (t + 1) [] (omega (arith, room)))
          (one_then (i.Kept d N) refl refl (omega (arith, room)) may
          (one (i.Binary (binary.Cmp (until step))) refl refl (omega (arith, room)) (λ whole q. refl))))
          (both
          (moved (omega (arith, l1)) (stats_piece body h.5 g first x (suc d) (omega (arith, le, l1, l2, l3, l4, l5)) kept (omega (arith, room))))
          (moved (omega (arith, l1)) (assign_piece here (type.Integer w) y (Binary (binary.Add w) (Read (type.Integer w) y) (Lit (literal.Int step))) h.1 (((h.1, refl, inl (includes_itself w)), inl h.4), includes_itself w) (first + length b) [] (omega (arith, room)))))))
      stat_piece (Block here false body) h g at x d le kept room = begins here (omega (arith, room)) (stats_piece body h g (at + 1) x d (omega (arith, le)) kept room)
      stat_piece (Block here true body) h g at x d le kept room =
          let b = stats_code p o body (at + 1 + 1) (block_ways true x) d in
          begins here (omega (arith, room)) (region_piece (stats_piece body h g (at + 1 + 1) (block_ways true x) d (omega (arith, le, length-append b (i.Leave ∷ []))) kept room))
      stat_piece (Await here n e) h g at x d le kept room =
          let c : Condition = record { home = home; own = o; at = here; expression = e } in
          let below = slice_get_within (conditions p) n c g in
          begins here (omega (arith, room)) (one (i.Await n) refl refl (omega (arith, room)) (λ whole q. lt-ltb n (length image.conds.items) (omega (arith, below, has.conditions))))
      stat_piece (Assert here e code) h g at x d le kept room =
          let k = some_need e in
          begins here (omega (arith, room)) (then_one (value_piece p o image own Procedure depth has refl e type.Boolean h.0 (at + 1) [] (omega (arith, room))) (i.Assert code) refl refl (omega (arith, room, k)) (λ whole q. refl))
      stat_piece (Halt here code) h g at x d le kept room = begins here (omega (arith, room)) (stops (i.Halt code) [] refl refl (omega (arith, room)) (λ whole q. refl))
      stat_piece (Change here c y e) h g at x d le kept room = changed_piece here c y e h.0 h.1 at [] (omega (arith, room))
      stat_piece (Perform here c more) h g at x d le kept room =
          let gives = ap (λ r. given (option_map (λ t. cell_kind p.types (id_of t)) r) (Some [])) h.2 in
          begins here (omega (arith, room)) (call_piece p o image own Procedure depth has refl c h.0 h.1 more h.3 (at + 1) [] gives (omega (arith, room)) (omega (arith, room)))
      stat_piece (Return here None) h g at x d le kept room =
          begins here (omega (arith, room)) (left_piece x.within (omega (arith, room)) (λ at'. stops i.Return [] (nothing_returned (result_of o) refl h) refl (omega (arith, room)) (λ whole q. refl)))
      stat_piece (Return here (Some e)) h g at x d le kept room = begins here (omega (arith, room)) (return_piece x.within e (result_of o) refl h (at + 1) room)
      stat_piece (New here y t more) h g at x d le kept room =
          let one_kept = le-max_left (suc d) (d + operands more) in
          let all_kept = le-max_right (suc d) (d + operands more) in
          begins here (omega (arith, room)) (new_piece y t more h.0 h.1 h.2 (at + 1) d [] (omega (arith, kept, one_kept)) (omega (arith, kept, all_kept)) (omega (arith, room)))
      stat_piece (Make here y t ns) h g at x d le kept room = begins here (omega (arith, room)) (make_piece y h.0.0 t ns h.0.1 h.1 h.3 (at + 1) [] (omega (arith, room)))
      stat_piece (With here e body) h g at x d le kept room =
          let c = value_code p o e (at + 1) in
          let b = stats_code p o body (at + 1 + length c + 1) x d in
          let k = some_need e in
          begins here (omega (arith, room)) (both (value_piece p o image own Procedure depth has refl e h.0.0 h.0.1 (at + 1) [] (omega (arith, room)))
          (one_then i.Drop refl refl (omega (arith, room, k)) (λ whole q. refl)
          (stats_piece body h.1 g (at + 1 + length c + 1) x d (omega (arith, le, length-append c (i.Drop ∷ b))) kept (omega (arith, room)))))
      stat_piece (WithRecord here y body) h g at x d le kept room =
          let c = place_code p o y (at + 1) in
          let b = stats_code p o body (at + 1 + length c + 1) x d in
          let k = some_place y in
          begins here (omega (arith, room)) (both (place_piece p o image own Procedure depth has refl y h.0.0 h.0.1 (at + 1) [] (omega (arith, room)))
          (one_then i.Drop refl refl (omega (arith, room, k)) (λ whole q. refl)
          (stats_piece body h.1 g (at + 1 + length c + 1) x d (omega (arith, le, length-append c (i.Drop ∷ b))) kept (omega (arith, room)))))
      stat_piece (Out here call) h g at x d le kept room = begins here (omega (arith, room)) (out_piece call h (at + 1) [] (omega (arith, room)))

      -- a sequence of statements
      pub stats_piece : (ss : Stats) → AreStatements p o ss → AreLinked (conditions p) home o ss → (at : ℕ) (x : Ways) (d : ℕ) → at + length (stats_code p o ss at x d) ≤ x.exit → stats_level ss d ≤ keeps → stats_need ss ≤ depth → Piece image own Procedure depth (At x.exit []) (stats_code p o ss at x d) at [] []
      stats_piece Nothing h g at x d le kept room = nothing
      stats_piece (Then t ss) h g at x d le kept room =
          let c = stat_code p o t at x d in
          let l = length-append c (stats_code p o ss (at + length c) x d) in
          both
          (stat_piece t h.0 g.0 at x d (omega (arith, le, l)) (omega (arith, kept, le-max_left (stat_level t d) (stats_level ss d))) (omega (arith, room)))
          (stats_piece ss h.1 g.1 (at + length c) x d (omega (arith, le, l)) (omega (arith, kept, le-max_right (stat_level t d) (stats_level ss d))) (omega (arith, room)))

      arms_piece : (arms : Arms) → AreArms p o arms → AreArmsLinked (conditions p) home o arms → (at end : ℕ) (x : Ways) (d : ℕ) → end ≡ at + length (arms_code p o arms at end x d) → end ≤ x.exit → arms_level arms d ≤ keeps → arms_need arms ≤ depth → Piece image own Procedure depth (At x.exit []) (arms_code p o arms at end x d) at [] []
      arms_piece (Otherwise ss) h g at end x d ends le kept room = stats_piece ss h g at x d (omega (arith, ends, le)) kept room
      arms_piece (Arm e ss arms) h g at end x d ends le kept room =
          let c = value_code p o e at in
          let first = at + length c + 1 in
          let b = stats_code p o ss first x d in
          let next = first + length b + 1 in
          let more = arms_code p o arms next end x d in
          let k = some_need e in
          let l1 = length-append c (i.JumpFalse next ∷ (b ++ (i.Jump end ∷ more))) in
          let l2 = length-append b (i.Jump end ∷ more) in
          choose next end refl (omega (arith, ends, l1, l2)) (omega (arith, room, k)) (omega (arith, room))
          (value_piece p o image own Procedure depth has refl e type.Boolean h.0 at [] (omega (arith, room)))
          (stats_piece ss h.1 g.0 first x d (omega (arith, ends, le, l1, l2)) (omega (arith, kept, le-max_left (stats_level ss d) (arms_level arms d))) (omega (arith, room)))
          (arms_piece arms h.2 g.1 next end x d (omega (arith, ends, l1, l2)) le (omega (arith, kept, le-max_right (stats_level ss d) (arms_level arms d))) (omega (arith, room)))

      cases_piece : (cases : Cases) → AreCases p o cases → AreCasesLinked (conditions p) home o cases → (at end : ℕ) (x : Ways) (d : ℕ) → end ≡ at + length (cases_code p o cases at end x d) → end ≤ x.exit → cases_level cases d ≤ keeps → cases_need cases ≤ depth → Entries image own Procedure depth (At x.exit []) (cases_code p o cases at end x d) at (arm_place p o cases at x d) [] []
      cases_piece NoElse h g at end x d ends le kept room =
          let q : Piece image own Procedure depth (At x.exit []) (i.Fail 4 ∷ []) at [] [] = stops (i.Fail 4) [] refl refl (omega (arith, room)) (λ whole q. refl) in
          (q, λ kinds l e n. q.enters kinds l e)
      cases_piece (Else ss) h g at end x d ends le kept room =
          let q = stats_piece ss h g at x d (omega (arith, ends, le)) kept room in
          (q, λ kinds l e n. q.enters kinds l e)
      cases_piece (OfLabels rs ss cases) h g at end x d ends le kept room =
          let b = stats_code p o ss at x d in
          let next = at + length b + 1 in
          let la = length-append b (i.Jump end ∷ cases_code p o cases next end x d) in
          arm end (arm_place p o (OfLabels rs ss cases) at x d) (omega (arith, ends, la)) refl (omega (arith, room))
          (stats_piece ss h.1 g.0 at x d (omega (arith, ends, le, la)) (omega (arith, kept, le-max_left (stats_level ss d) (cases_level cases d))) (omega (arith, room)))
          (cases_piece cases h.2 g.1 next end x d (omega (arith, ends, la)) le (omega (arith, kept, le-max_right (stats_level ss d) (cases_level cases d))) (omega (arith, room)))

    -- the statements of a body, which are a region where it is exclusive
    pub block_piece : (exclusive : Bool) (ss : Stats) → AreStatements p o ss → AreLinked (conditions p) home o ss → (at : ℕ) (x : Ways) (d : ℕ) → at + length (block_code exclusive (stats_code p o ss (block_at exclusive at) (block_ways exclusive x) d)) ≤ x.exit → stats_level ss d ≤ keeps → stats_need ss ≤ depth → Piece image own Procedure depth (At x.exit []) (block_code exclusive (stats_code p o ss (block_at exclusive at) (block_ways exclusive x) d)) at [] []
    block_piece false ss h g at x d le kept room = stats_piece ss h g at x d le kept room
    block_piece true ss h g at x d le kept room =
        let b = stats_code p o ss (at + 1) (block_ways true x) d in
        region_piece (stats_piece ss h g (at + 1) (block_ways true x) d (omega (arith, le, length-append b (i.Leave ∷ []))) kept room)
