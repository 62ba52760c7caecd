-- Each turn of a frame is of one of the kinds.
use Rattle.std.proofs.Common.{◌≡◌, inl, inr, ℕ, zero, suc, List, [], ◌∷◌, ◌++◌, Bool, true, false, Option, Some, None, refl, sym, ap, ◌∙◌, subst}
use Rattle.std.specs.Prelude.{map, if◌then◌else◌, unsigned_abs}
use Rattle.aos_base.specs.declared.kernel.Did.TheVariants.{Start, Await, Trapped}
use Rattle.aos_base.specs.declared.kernel.LockName.{LockName}
use Rattle.aos_base.specs.declared.text.Pos.{Pos}
use Rattle.aos_base.specs.declared.root.Root.{Root}
use Rattle.aos_base.specs.Number.{array_lengths}
use Rattle.aos_base.specs.Rooted.{Made, Rooted, by_number}
use Rattle.aos_base.specs.Question.{Val, Asks, Traps, bind, feed, Manner, Reads, Stores, Copies, PutsText, ComparesTexts, Calls, Ends, Makes, Starts, Enters, Leaves, Awaits, PutsInt, PutsChar, PutsString, PutsLn, PutsNothing, Places, Lengths, Opens, Sizes, Tests}
use Rattle.aos_types.specs.Content.{Content, first_content, placed, Scalar}
use Rattle.aos_types.specs.World.{read}
use Rattle.aos_typed.specs.declared.tree.TType.{TType}
use Rattle.aos_typed.specs.Program.{Program, Repeat}
use Rattle.aos_typed.specs.Numbers.{id_of}
use Rattle.aos_typed.specs.Routines.{Routine, routines}
use Rattle.aos_typed.specs.Sort.{variable_shape}
use Rattle.aos_typed.specs.Location.{Location}
use Rattle.aos_typed.specs.Text.{text_in, fitted}
use Rattle.aos_typed.specs.Value.{Value, Int, Flag, Char, Set, Object, Callable, Place, number_of, is_true}
use Rattle.aos_typed.specs.Store.{Store, has_room, made_in}
use Rattle.aos_typed.specs.Meaning.{Question, Doing, Item, Do, Rounds, Round, Until, Region, End, Gives, After, Into, Exits, Returns, leave, leave_all, item_of, pos_of, value_of}
use Rattle.aos_typed.specs.Source.{top, copied, Frame, Turned, here_of, lock_of, locks_in, answered, done, all_rooted, goes_on, leaves, begins, writes, prints, makes, starts, awaits, copies, stores_text, is_deep, enters, called_frame, calls, makes_with, first_value, made_shape, answer, tests, finishes, settles, goes, item_turn, turn_at, calm, noted, written, ends}
use Rattle.aos_sim.proofs.Does.{IsVisible, IsCalm, calm_seen, feed_noted, feed_noted_bind}
use Rattle.aos_sim.proofs.Runs.{feed-append}
use Rattle.aos_handover.specs.Kinds.{follow, settled_work, written_by, MakesNone, CallsNone, told_as, HasCome, IsAsking, so_far, IsNext, Stood, Followed, AnotherRound, Repeated, Behind, Stands, HasHad, Rests, Begins, GoesOn, Tested, IsStored, OneScalar, OneWhole, OneText, AtEnd, AtResult, Nowhere, Kind, Settled, Stopped, Left, Popped, Told, Written, Stored, Created, Called}

module _ (p : Program) (following : List ℕ) (s : Store) (f : Frame) (fs : List Frame) where
  abbrev Is : Turned → Type 0
  Is t = Kind p following s f fs t

  module _ (g : Frame) (stands : Stands p s f fs g) where
    stopped : (n c : ℕ) → Is (leaves following (Trapped n c) (g ∷ fs) s)
    stopped n c = Stopped g n c stands (record { store_is = refl; frames_are = refl; output_is = refl; left_is = refl })

    module _ (q : Question) (asks : IsAsking p g fs q) where
      abbrev seen : Rooted (Content Value)
      seen = all_rooted (g ∷ fs) s

      told : MakesNone q → CallsNone p q → Is (goes_on following (answered (told_as seen q) g ∷ fs) s)
      told none absent = Told g q none absent stands asks (record { store_is = refl; frames_are = refl; output_is = refl; left_is = refl })

      prints_kind : (o : Option (List ℕ)) → written_by (all_rooted (g ∷ fs) s) q ≡ o → Is (prints following o (top g fs s))
      prints_kind None is = stopped 14 0
      prints_kind (Some bytes) is = Written g q bytes stands asks is (record { store_is = refl; frames_are = refl; output_is = refl; left_is = refl })

      stored : (r : Root) (change : Content Value → Content Value) → IsStored p seen q r change → Is (writes following r change (answered done g ∷ fs) s)
      stored r change is = Stored g q r change stands asks is (record { store_is = refl; frames_are = refl; output_is = refl; left_is = refl })

    module _ (t : ℕ) (vs : List Value) (asks : IsAsking p g fs (Makes t vs)) where
      abbrev made : List ℕ → Made
      made ns = record { type = t; lengths = ns }

      abbrev content : List ℕ → Content Value
      content ns = first_content (first_value p) (made_shape p.types (made ns))

      makes_kind : (room : Bool) (ns : List ℕ) → array_lengths (map number_of vs) ≡ Some ns → has_room (made ns) (content ns) s ≡ room → Is (makes following room (made ns) (content ns) (top g fs s))
      makes_kind true ns are room = Created g t vs ns stands asks are room (record { store_is = refl; frames_are = refl; output_is = refl; left_is = refl })
      makes_kind false ns are room = stopped 12 0

      makes_with_kind : (ns : Option (List ℕ)) → array_lengths (map number_of vs) ≡ ns → Is (makes_with p following ns t (top g fs s))
      makes_with_kind None are = stopped 15 0
      makes_with_kind (Some ns) are = makes_kind (has_room (made ns) (content ns) s) ns are refl

    module _ (t : TType) (from to : Location) (asks : IsAsking p g fs (Copies t from to)) where
      copies_kind : (new old : Option (Content Value)) → read from.root from.path (all_rooted (g ∷ fs) s) ≡ new → read to.root to.path (all_rooted (g ∷ fs) s) ≡ old → Is (copies following (copied (variable_shape p.types (id_of t)) new old) to (top g fs s))
      copies_kind (Some new) (Some old) e e' = stored (Copies t from to) asks to.root _ (OneWhole t from to new old e e')
      copies_kind (Some new) None e e' = told (Copies t from to) asks tt tt
      copies_kind None old e e' = told (Copies t from to) asks tt tt

    module _ (strict : Bool) (from : Location) (n : Value) (to : Location) (room : Value) (asks : IsAsking p g fs (PutsText strict from n to room)) where
      stores_text_kind : (text : Option (List ℕ)) (old : Option (Content Value)) → fitted strict (unsigned_abs (number_of room)) (text_in (read from.root from.path (all_rooted (g ∷ fs) s))) ≡ text → read to.root to.path (all_rooted (g ∷ fs) s) ≡ old →
          Is (stores_text following text old to (top g fs s))
      stores_text_kind None old fits e = stopped 15 0
      stores_text_kind (Some cs) None fits e = told (PutsText strict from n to room) asks tt tt
      stores_text_kind (Some cs) (Some old) fits e = stored (PutsText strict from n to room) asks to.root _ (OneText strict from n to room cs old fits e)

    module _ (how : Manner) (n : ℕ) (vs : List Value) (asks : IsAsking p g fs (Calls how n vs)) where
      calls_kind : (r : Option Routine) → by_number n (routines p) ≡ r → Is (calls p following r vs (top g fs s))
      calls_kind None there = told (Calls how n vs) asks tt there
      calls_kind (Some r) there = by (is_deep following (called_frame p following r vs (g ∷ fs) s) (g ∷ fs)) refl
        where
          by : (deep : Bool) → is_deep following (called_frame p following r vs (g ∷ fs) s) (g ∷ fs) ≡ deep → Is (enters following deep (called_frame p following r vs (g ∷ fs) s) (g ∷ fs) s)
          by true is = stopped 11 0
          by false is = Called g how n vs r stands asks there is (record { store_is = refl; frames_are = refl; output_is = refl; left_is = refl })

    starts_kind : (v : Value) → IsAsking p g fs (Starts v) → Is (starts following v (top g fs s))
    starts_kind (Object zero) asks = told (Starts (Object zero)) asks tt tt
    starts_kind (Object (suc k)) asks = Left g (Starts (Object (suc k))) (Start (suc k)) stands asks (k, refl, refl) (record { store_is = refl; frames_are = refl; output_is = refl; left_is = refl })
    starts_kind (Int z) asks = told (Starts (Int z)) asks tt tt
    starts_kind (Flag b) asks = told (Starts (Flag b)) asks tt tt
    starts_kind (Char c) asks = told (Starts (Char c)) asks tt tt
    starts_kind (Set x) asks = told (Starts (Set x)) asks tt tt
    starts_kind (Callable k o) asks = told (Starts (Callable k o)) asks tt tt
    starts_kind (Place x) asks = told (Starts (Place x)) asks tt tt

    awaits_kind : (c : ℕ) → IsAsking p g fs (Awaits c) → (ls : List LockName) → locks_in (lock_of g) g.items ≡ ls → Is (awaits following ls c (top g fs s))
    awaits_kind c asks [] e = told (Awaits c) asks tt tt
    awaits_kind c asks (l ∷ ls) e = Left g (Awaits c) (Await l c) stands asks (l, ls, e, refl) (record { store_is = refl; frames_are = refl; output_is = refl; left_is = refl })

    answer_kind : (q : Question) → IsVisible q → IsAsking p g fs q → Is (answer p following q (top g fs s))
    answer_kind (Reads t x) visible asks = told (Reads t x) asks tt tt
    answer_kind (Stores x v) visible asks = stored (Stores x v) asks x.root (placed x.path (Scalar v)) (OneScalar x v)
    answer_kind (Makes t vs) visible asks = makes_with_kind t vs asks (array_lengths (map number_of vs)) refl
    answer_kind (Starts v) visible asks = starts_kind v asks
    answer_kind (PutsInt v n) visible asks = prints_kind (PutsInt v n) asks (written v n) refl
    answer_kind (PutsChar v) visible asks = prints_kind (PutsChar v) asks (Some (unsigned_abs (number_of v) ∷ [])) refl
    answer_kind PutsNothing visible asks = prints_kind PutsNothing asks (Some []) refl
    answer_kind PutsLn visible asks = prints_kind PutsLn asks (Some (10 ∷ [])) refl
    answer_kind (Copies t from to) visible asks =
        let x = all_rooted (g ∷ fs) s in copies_kind t from to asks (read from.root from.path x) (read to.root to.path x) refl refl
    answer_kind (PutsText strict from n to room) visible asks =
        let x = all_rooted (g ∷ fs) s in
        let text = fitted strict (unsigned_abs (number_of room)) (text_in (read from.root from.path x)) in
        stores_text_kind strict from n to room asks text (read to.root to.path x) refl refl
    answer_kind (ComparesTexts r a n b m) visible asks = told (ComparesTexts r a n b m) asks tt tt
    answer_kind (Calls how k vs) visible asks = calls_kind how k vs asks (by_number k (routines p)) refl
    answer_kind (PutsString a n) visible asks = prints_kind (PutsString a n) asks (Some (text_in (read a.root a.path (all_rooted (g ∷ fs) s)))) refl
    answer_kind (Awaits c) visible asks = awaits_kind c asks (locks_in (lock_of g) g.items) refl
    answer_kind (Places a) visible asks = absurd visible
    answer_kind (Lengths a) visible asks = absurd visible
    answer_kind (Opens v) visible asks = absurd visible
    answer_kind (Sizes v d) visible asks = absurd visible
    answer_kind (Tests v t) visible asks = absurd visible
    answer_kind (Ends r) visible asks = told (Ends r) asks tt tt
    answer_kind Enters visible asks = told Enters asks tt tt
    answer_kind Leaves visible asks = told Leaves asks tt tt

  ends_kind : (r : Option Value) (is : List Item) → IsNext p s f fs (Gives r ∷ is) → Is (ends following r fs s)
  ends_kind None is next = Popped None (AtResult None is next) (record { store_is = refl; frames_are = refl; output_is = refl; left_is = refl })
  ends_kind (Some v) is next = Popped (Some v) (AtResult (Some v) is next) (record { store_is = refl; frames_are = refl; output_is = refl; left_is = refl })

  -- the frame itself, whose first item may have had answers of questions that are answered at once
  module _ (a : Option (List Value)) (had : HasHad p s f fs f.items a) where
    abbrev g : Frame
    g = record f { answers = a }

    stands : Stands p s f fs g
    stands = record { same = record { is = refl }; had = had }

    -- these items are next, of which the first rests
    rests : (is : List Item) → IsNext p s f fs is →
        Is (record { store = s; frames = record { following = following; frames = record f { items = is; answers = None } ∷ fs }; output = []; begun = false; left = settled_work (lock_of f) is })
    rests is next =
        Settled (record f { items = is; answers = None }) (record { same = record { is = refl }; had = Rests is next }) (inl refl)
        (record { store_is = refl; frames_are = refl; output_is = refl; left_is = refl })

    -- or begins
    settled : (at : Pos) (i : Item) (is : List Item) → IsNext p s f fs (i ∷ is) →
        Is (record { store = s; frames = record { following = following; frames = record f { at = Some at; items = i ∷ is; answers = Some [] } ∷ fs }; output = []; begun = true; left = settled_work (lock_of f) (i ∷ is) })
    settled at i is next =
        Settled (record f { at = Some at; items = i ∷ is; answers = Some [] }) (record { same = record { is = refl }; had = Begins i is next }) (inr refl)
        (record { store_is = refl; frames_are = refl; output_is = refl; left_is = refl })

    finishes_kind : IsNext p s f fs [] → (function : Bool) → f.gives ≡ function → Is (finishes p following function (top g fs s))
    finishes_kind next true e = stopped g stands 10 0
    finishes_kind next false e = Popped None (AtEnd next e) (record { store_is = refl; frames_are = refl; output_is = refl; left_is = refl })

    settles_kind : (is : List Item) → IsNext p s f fs is → Is (settles p following is (top g fs s))
    settles_kind [] next = finishes_kind next f.gives refl
    settles_kind (Do st ∷ is) next = settled (pos_of st) (Do st) is next
    settles_kind (Rounds at w q last step b ∷ is) next = settled at (Rounds at w q last step b) is next
    settles_kind (Round st ∷ is) next = settled (pos_of st) (Do st) is (AnotherRound st is next)
    settles_kind (Until at b e ∷ is) next = by (λ v come t. settles_kind is (Behind at b e is v next come t)) (calm p.types (made_in s) f.variables test) refl
      where
        test : Doing Value
        test = value_of p (here_of f fs) e

        answers : List Value
        answers = noted p.types (made_in s) f.variables test

        begun : Frame
        begun = record f { items = Until at b e ∷ is; answers = Some answers }

        so : Stands p s f fs begun
        so = record { same = record { is = refl }; had = Tested at b e is next }

        on : Value → Doing After
        on v = Val (Into (if is_true v then [] else Do (Repeat at b e) ∷ []))

        come : (left : Doing Value) → calm p.types (made_in s) f.variables test ≡ left → HasCome p begun fs (bind left on)
        come left e' =
            record {
              item = Until at b e;
              rest = is;
              items = refl;
              answers = answers;
              begun = refl;
              is = feed_noted_bind p.types (made_in s) f.variables on test ∙ ap (λ d. bind d on) e';
            }

        by : ((v : Value) → calm p.types (made_in s) f.variables test ≡ Val v → is_true v ≡ true → Is (settles p following is (top g fs s))) → (left : Doing Value) → calm p.types (made_in s) f.variables test ≡ left →
            Is (tests p following left (settles p following is (top g fs s)) (begins following at (Do (Repeat at b e) ∷ is) (top g fs s)) (top begun fs s))
        by behind (Val v) e' = chosen (is_true v) refl
          where
            chosen : (c : Bool) → is_true v ≡ c → Is (if c then settles p following is (top g fs s) else begins following at (Do (Repeat at b e) ∷ is) (top g fs s))
            chosen true t = behind v e' t
            chosen false t = settled at (Do (Repeat at b e)) is (Repeated at b e is v next e' t)
        by behind (Asks q k) e' = answer_kind begun so q (subst IsCalm e' (calm_seen p.types (made_in s) f.variables test)) (_, come (Asks q k) e')
        by behind (Traps n c) e' = stopped begun so n c
    settles_kind (Region ss ∷ is) next = rests (Region ss ∷ is) next
    settles_kind (End ∷ is) next = rests (End ∷ is) next
    settles_kind (Gives r ∷ is) next = ends_kind r is next

  item_kind : (answers : Option (List Value)) (is : List Item) → f.answers ≡ answers → f.items ≡ is → Is (item_turn p following answers is (top f fs s))
  item_kind None is had e = settles_kind f.answers (subst (HasHad p s f fs f.items) (sym had) (Rests f.items (Stood had))) is (subst (IsNext p s f fs) e (Stood had))
  item_kind (Some vs) [] had e = Popped None (Nowhere vs had e) (record { store_is = refl; frames_are = refl; output_is = refl; left_is = refl })
  item_kind (Some vs) (i ∷ is) had e = by (calm p.types (made_in s) f.variables left) refl
    where
      left : Doing After
      left = feed vs (item_of p (here_of f fs) i)

      all : List Value
      all = so_far p s f fs i vs

      now : Frame
      now = record f { answers = Some all }

      come : (d : Doing After) → calm p.types (made_in s) f.variables left ≡ d → HasCome p now fs d
      come d e' =
          record {
            item = i;
            rest = is;
            items = e;
            answers = all;
            begun = refl;
            is = feed-append vs (noted p.types (made_in s) f.variables left) (item_of p (here_of f fs) i) ∙ feed_noted p.types (made_in s) f.variables left ∙ e';
          }

      goes_on : HasHad p s f fs f.items (Some all)
      goes_on = subst (λ l. HasHad p s f fs l (Some all)) (sym e) (GoesOn i is vs e had)

      next : (a : After) → calm p.types (made_in s) f.variables left ≡ Val a → IsNext p s f fs (follow a is)
      next a e' = Followed i is vs a e had (let c = come (Val a) e' in c.is)

      by : (d : Doing After) → calm p.types (made_in s) f.variables left ≡ d → Is (goes p following d is (top now fs s))
      by (Val (Into js)) e' = settles_kind (Some all) goes_on (js ++ is) (next (Into js) e')
      by (Val Exits) e' = settles_kind (Some all) goes_on (leave is) (next Exits e')
      by (Val (Returns r)) e' = settles_kind (Some all) goes_on (leave_all r is) (next (Returns r) e')
      by (Asks q k) e' = answer_kind now (stands (Some all) goes_on) q (subst IsCalm e' (calm_seen p.types (made_in s) f.variables left)) (k, come (Asks q k) e')
      by (Traps n c) e' = stopped now (stands (Some all) goes_on) n c

pub turn_kind : (p : Program) (following : List ℕ) (s : Store) (f : Frame) (fs : List Frame) → Kind p following s f fs (turn_at p following (f ∷ fs) s)
turn_kind p following s f fs = item_kind p following s f fs f.answers f.items refl refl
