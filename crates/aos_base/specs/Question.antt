-- What a piece of a program does, as a tree of questions: a value, a trap, or one question with what follows each answer.
use Rattle.std.specs.Prelude.{ℕ, Bool, Option, List, [], ◌∷◌}
use Rattle.aos_base.specs.declared.number.Relation.{Relation}

-- Q: questions; V: answers; A: values
pub data Tree (Q V A : Type 0) : Type 0 where
  Val : A → Tree Q V A
  Asks : Q → (V → Tree Q V A) → Tree Q V A
  Traps : (number code : ℕ) → Tree Q V A

-- one piece after another, which goes on with its value
abbrev pub bind : {Q V A B : Type 0} → Tree Q V A → (A → Tree Q V B) → Tree Q V B
bind (Val a) k = k a
bind (Asks q f) k = Asks q (λ v. bind (f v) k)
bind (Traps n c) k = Traps n c

-- one question, whose answer is the value
abbrev pub ask : {Q V : Type 0} → Q → Tree Q V V
ask q = Asks q (λ v. Val v)

-- what is left after these answers; behind a value or a trap there is none
abbrev pub feed : {Q V A : Type 0} → List V → Tree Q V A → Tree Q V A
feed [] t = t
feed (v ∷ vs) (Val a) = Traps 0 0
feed (v ∷ vs) (Asks q f) = feed vs (f v)
feed (v ∷ vs) (Traps n c) = Traps n c

-- How something is called: a procedure of a module by its name; a method by the type of the object on which it is called; an overridden
-- method, on SELF; the initializer of an object that is being made; the body of an object by its creator; or what a procedure value
-- stands for. What is called on an object gets it as its first argument.
pub data Manner : Type 0 where
  ByName : Manner
  ByType : Manner
  Upward : Manner
  Initially : Manner
  ByCreator : Manner
  ByValue : Manner

-- A piece of work that a frame asks for. P: places; V: values; K: what a scalar is, its type or its kind; C: what is copied, its
-- shape or how many cells it has. Behind the visible pieces stand those that are answered at once.
pub data Ask (P V K C : Type 0) : Type 0 where
  Reads : K → (place : P) → Ask P V K C
  Stores : (place : P) → (value : V) → Ask P V K C
  Copies : C → (from to : P) → Ask P V K C
  PutsText : (strict : Bool) → (from : P) → (length : V) → (to : P) → (room : V) → Ask P V K C
  ComparesTexts : Relation → (left : P) → (length : V) → (right : P) → (other : V) → Ask P V K C
  Calls : Manner → (procedure : ℕ) → (arguments : List V) → Ask P V K C
  Ends : (result : Option V) → Ask P V K C  -- the end of the frame, which has no answer
  Makes : (type : ℕ) → (lengths : List V) → Ask P V K C  -- a new object of this type, an open array of these lengths, which is the answer
  Starts : (object : V) → Ask P V K C  -- the activity of an object
  Enters : Ask P V K C  -- the region of the frame's lock, that of the object or of the module in which its text stands
  Leaves : Ask P V K C  -- the end of that region
  Awaits : (condition : ℕ) → Ask P V K C  -- a condition of the program, by its number
  PutsInt : (value places : V) → Ask P V K C
  PutsChar : (code : V) → Ask P V K C
  PutsString : (from : P) → (length : V) → Ask P V K C
  PutsNothing : Ask P V K C  -- a call that writes nothing
  PutsLn : Ask P V K C
  Places : (parameter : P) → Ask P V K C  -- the place that a parameter stands for
  Lengths : (parameter : P) → Ask P V K C  -- a length of an open array parameter
  Opens : (object : V) → Ask P V K C  -- the place of what an object holds
  Sizes : (object : V) → (dimension : ℕ) → Ask P V K C  -- a length of an open array that is an object
  Tests : (object : V) → (type : ℕ) → Ask P V K C  -- whether an object's type extends this one
