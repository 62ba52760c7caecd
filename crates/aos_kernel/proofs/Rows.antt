-- The activities by their numbers, and what the tables show of each.
use Rattle.std.proofs.Common.{◌≡◌, ℕ, zero, suc, ◌<◌, ◌≤◌, ◌^◌, List, [], ◌∷◌, ◌++◌, Bool, true, false, refl, sym, ◌∙◌, ap, subst, arith, inl, inr, ◌≢◌, length}
use Rattle.std.specs.Prelude.{if◌then◌else◌, nat_lt, nat_le, ◌||◌, Option, Some, None, nat_eq, is_some, slice_get, slice_set}
use Rattle.std.specs.Option.{option_to_list}
use Rattle.std.proofs.lemmas.Bool.{lt-ltb, le-ltb}
use Rattle.std.proofs.Math.Nat.{mod-eq_of_lt}
use Rattle.std.proofs.lemmas.Bool.Decides.{leb_tells}
use Rattle.std.proofs.lemmas.Option.{slice_get_cases, slice_get_within, slice_get-get_or, slice_get_past}
use Rattle.std.proofs.lemmas.List.{get_or-set_same, get_or-set_other, length-set, append-nil as append_nil}
use Rattle.aos_base.specs.declared.limits.TheConstants.{MOST_LIVE, MOST_STARTED}
use Rattle.aos_base.specs.declared.kernel.LockName.{LockName}
use Rattle.aos_base.specs.Rooted.{Made}
use Rattle.aos_base.specs.Lock.{Wants}
use Rattle.aos_base.specs.Book as book
use Rattle.aos_base.specs.Book.{put, spent_by, place_of}
use Rattle.aos_code.specs.declared.image.Image.{Image}
use Rattle.aos_code.specs.Machine.{Frames}
use Rattle.aos_store.specs.declared.frames.Frames.{Frames as Kept}
use Rattle.aos_store.specs.Store.{frames_in}
use Rattle.aos_silent_steps.specs.Known.{Knows}
use Rattle.aos_cpu.proofs.Turns.{alike_more}
use Rattle.aos_cpu.specs.Turns.{counted as counted_on, Alike}
use Rattle.aos_kernel.specs.declared.activity.Next.{Next}
use Rattle.aos_kernel.specs.declared.activity.Next.TheVariants.{Runs, Lent, WillTrap, Unwinds, Gone}
use Rattle.aos_kernel.specs.declared.activity.Activity.{Activity}
use Rattle.aos_kernel.specs.Shows.{has_frames, ShowsFrames, ShowsActivity, IsWaiting, IsPopped}
use Rattle.aos_scheduler.proofs.Members.{by_case, each_at}

pub put_same : {A : Type 0} (f : ℕ → A) (k : ℕ) (v : A) → put nat_eq f k v k ≡ v
put_same f k v = by_case (λ q. (if q then v else f k) ≡ v) k k (λ e. refl) (λ ne. absurd (ne refl))

pub put_other : {A : Type 0} (f : ℕ → A) (k : ℕ) (v : A) (x : ℕ) → x ≢ k → put nat_eq f k v x ≡ f x
put_other f k v x ne = by_case (λ q. (if q then v else f x) ≡ f x) x k (λ e. absurd (ne e)) (λ _. refl)

pub get_below : {A : Type 0} (xs : List A) (i : ℕ) → i < length xs → (x : A) × (slice_get xs i ≡ Some x)
get_below xs i h = elim (slice_get_cases xs i).1 [ inl r ↦ (r.0, r.2) | inr r ↦ absurd (omega arith) ]

pub set_here : {A : Type 0} (xs : List A) (i : ℕ) (g : A) → i < length xs → slice_get (slice_set xs i g) i ≡ Some g
set_here xs i g h = slice_get-get_or (slice_set xs i g) i g (subst (λ n. i < n) (sym (length-set xs i g)) h) ∙ ap (λ x. Some x) (get_or-set_same xs i g g h)

pub set_there : {A : Type 0} (xs : List A) (i x : ℕ) (g : A) → x ≢ i → slice_get (slice_set xs i g) x ≡ slice_get xs x
set_there xs i x g ne =
    elim (slice_get_cases xs x).1 [
      | inl r ↦ slice_get-get_or (slice_set xs i g) x r.0 (subst (λ n. x < n) (sym (length-set xs i g)) r.1) ∙ ap (λ y. Some y) (get_or-set_other xs i x g r.0 ne ∙ r.3) ∙ sym r.2
      | inr r ↦ slice_get_past (slice_set xs i g) x (subst (λ n. n ≤ x) (sym (length-set xs i g)) r.0) ∙ sym r.1
    ]

-- the frames of an activity that hasn't ended
pub frames_alike : (image : Image) (made : ℕ → Option Made) (n : Next) (fs : Frames) (kept : Kept) → has_frames n ≡ true → ShowsFrames image made n fs kept → Alike image made fs (frames_in kept)
frames_alike image made Runs fs kept live h = h
frames_alike image made Lent fs kept live h = absurd (cc live)
frames_alike image made (WillTrap k) fs kept live h = h
frames_alike image made Unwinds fs kept live h = h
frames_alike image made Gone fs kept live h = absurd (cc live)

-- they show so where more objects are made
pub frames_grown : (image : Image) (made all : ℕ → Option Made) (n : Next) (fs : Frames) (kept : Kept) → Knows all made → ShowsFrames image made n fs kept → ShowsFrames image all n fs kept
frames_grown image made all Runs fs kept knows h = alike_more image made all fs (frames_in kept) knows h
frames_grown image made all (WillTrap k) fs kept knows h = alike_more image made all fs (frames_in kept) knows h
frames_grown image made all Unwinds fs kept knows h = alike_more image made all fs (frames_in kept) knows h
frames_grown image made all Lent fs kept knows h = h
frames_grown image made all Gone fs kept knows h = h

-- an activity that runs hasn't ended
pub runs_live : (n : Next) → Runs ≡ n → has_frames n ≡ true
runs_live n e = ap has_frames (sym e)

-- the tables' activities show those of a book with their frames
abbrev pub EachShows : Image → (made : ℕ → Option Made) → List Activity → (ℕ → book.Activity) → (ℕ → Frames) → Type 0
EachShows image made items acts frames = (x : ℕ) (kept : Activity) → slice_get items x ≡ Some kept → ShowsActivity image made kept (acts x) (frames x)

pub each_grown : (image : Image) (made all : ℕ → Option Made) (items : List Activity) (acts : ℕ → book.Activity) (frames : ℕ → Frames) → Knows all made → EachShows image made items acts frames → EachShows image all items acts frames
each_grown image made all items acts frames knows each x kept at =
    let s = each x kept at in record { priority = s.priority; begun = s.begun; next = s.next; frames = frames_grown image made all kept.next (frames x) kept.frames knows s.frames; fits = s.fits }

-- after one has changed
pub each_after : (image : Image) (made : ℕ → Option Made) (items items' : List Activity) (acts acts' : ℕ → book.Activity) (frames frames' : ℕ → Frames) (a : ℕ) (old new : Activity) → slice_get items a ≡ Some old → items' ≡ slice_set items a new →
    ShowsActivity image made new (acts' a) (frames' a) → ((x : ℕ) → x ≢ a → acts' x ≡ acts x) → ((x : ℕ) → x ≢ a → frames' x ≡ frames x) → EachShows image made items acts frames → EachShows image made items' acts' frames'
each_after image made items items' acts acts' frames frames' a old new was is here same_acts same_frames each =
    each_at (λ x. (kept : Activity) → slice_get items' x ≡ Some kept → ShowsActivity image made kept (acts' x) (frames' x)) a
    (λ kept at.
    let z = sym (set_here items a new (slice_get_within items a old was)) ∙ sym (ap (λ xs. slice_get xs a) is) ∙ at in
    let e : new ≡ kept = cc z in
    subst (λ k. ShowsActivity image made k (acts' a) (frames' a)) e here)
    (λ x ne kept at.
    let s = each x kept (sym (set_there items a x new ne) ∙ sym (ap (λ xs. slice_get xs x) is) ∙ at) in
    subst (λ v. ShowsActivity image made kept v (frames' x)) (sym (same_acts x ne)) (subst (λ f. ShowsActivity image made kept (acts x) f) (sym (same_frames x ne)) s))

-- and after one has been added
pub get_last : {A : Type 0} (xs : List A) (y : A) → slice_get (xs ++ y ∷ []) (length xs) ≡ Some y
get_last [] y = refl
get_last (x ∷ xs) y = get_last xs y

pub get_before : {A : Type 0} (xs : List A) (y : A) (k : ℕ) (kept : A) → k ≢ length xs → slice_get (xs ++ y ∷ []) k ≡ Some kept → slice_get xs k ≡ Some kept
get_before [] y zero kept ne e = absurd (ne refl)
get_before [] y (suc k) kept ne e = e
get_before (x ∷ xs) y zero kept ne e = e
get_before (x ∷ xs) y (suc k) kept ne e = get_before xs y k kept (λ z. ne (ap suc z)) e

pub each_joined : (image : Image) (made : ℕ → Option Made) (items items' : List Activity) (acts : ℕ → book.Activity) (frames : ℕ → Frames) (n : ℕ) (new : Activity) (act : book.Activity) (fs : Frames) → n ≡ length items → items' ≡ items ++ new ∷ [] →
    ShowsActivity image made new act fs → EachShows image made items acts frames → EachShows image made items' (put nat_eq acts n act) (put nat_eq frames n fs)
each_joined image made items items' acts frames n new act fs count is here each =
    each_at (λ x. (kept : Activity) → slice_get items' x ≡ Some kept → ShowsActivity image made kept (put nat_eq acts n act x) (put nat_eq frames n fs x)) n
    (λ kept at.
    let z : Some new ≡ Some kept = sym (get_last items new) ∙ sym (ap (slice_get (items ++ new ∷ [])) count) ∙ sym (ap (λ xs. slice_get xs n) is) ∙ at in
    let e : new ≡ kept = cc z in
    subst (λ k. ShowsActivity image made k (put nat_eq acts n act n) (put nat_eq frames n fs n)) e
    (subst (λ v. ShowsActivity image made new v (put nat_eq frames n fs n)) (sym (put_same acts n act)) (subst (λ f. ShowsActivity image made new act f) (sym (put_same frames n fs)) here)))
    (λ x ne kept at.
    let s = each x kept (get_before items new x kept (λ z. ne (z ∙ sym count)) (sym (ap (λ xs. slice_get xs x) is) ∙ at)) in
    subst (λ v. ShowsActivity image made kept v (put nat_eq frames n fs x)) (sym (put_other acts n act x ne)) (subst (λ f. ShowsActivity image made kept (acts x) f) (sym (put_other frames n fs x ne)) s))

-- an activity below the budget is so after one statement more, unless it is spent
pub not_spent : (does_begin : Bool) (budget begun a : ℕ) (spent : Option ℕ) → begun < budget → spent_by does_begin budget (if does_begin then suc begun else begun) a spent ≡ None → (if does_begin then suc begun else begun) < budget
not_spent false budget begun a spent less none = less
not_spent true budget begun a spent less none =
    (elim (leb_tells budget (suc begun)) as (λ _. spent_by true budget (suc begun) a spent ≡ None → suc begun < budget) [
      | inl e ↦ λ f. (let z = sym (ap (λ q. if q then Some a else spent) e.0) ∙ f in absurd (cc z))
      | inr e ↦ λ f. e.1
    ]) none

-- a count of statements grows where one has begun
pub begun_after : (does_begin : Bool) (old new : ℕ) → suc old < 2 ^ 64 → new ≡ counted_on does_begin old → (nat_lt old new ≡ does_begin) × (new ≡ (if does_begin then suc old else old))
begun_after true old new fits e =
    let n : new ≡ suc old = e ∙ mod-eq_of_lt fits in
    (ap (nat_lt old) n ∙ lt-ltb old (suc old) (omega arith), n)
begun_after false old new fits e = (ap (nat_lt old) e ∙ le-ltb old old (omega arith), e)

-- who has reached the budget stays where none has begun
pub spent_same : (before begun budget a : ℕ) (spent : Option ℕ) → begun ≡ before → spent_by (nat_lt before begun) budget begun a spent ≡ spent
spent_same before begun budget a spent e = ap (λ q. spent_by q budget begun a spent) (ap (nat_lt before) e ∙ le-ltb before before (omega arith))

-- Those who wait stand before the work for which they wait
abbrev pub EachWaits : Image → List Activity → List book.Stand → (ℕ → Frames) → Type 0
EachWaits image items line frames =
    (x : ℕ) (l : LockName) (wants : Wants) → place_of line x ≡ Some (book.At l wants) → (kept : Activity) → slice_get items x ≡ Some kept → IsWaiting image l wants kept (frames x)

-- all but one are as they were
pub waits_after : (image : Image) (items items' : List Activity) (line line' : List book.Stand) (frames frames' : ℕ → Frames) (a : ℕ) →
    ((l : LockName) (wants : Wants) → place_of line' a ≡ Some (book.At l wants) → (kept : Activity) → slice_get items' a ≡ Some kept → IsWaiting image l wants kept (frames' a)) →
    ((x : ℕ) → x ≢ a → place_of line' x ≡ place_of line x) → ((x : ℕ) (kept : Activity) → x ≢ a → slice_get items' x ≡ Some kept → slice_get items x ≡ Some kept) → ((x : ℕ) → x ≢ a → frames' x ≡ frames x) →
    EachWaits image items line frames → EachWaits image items' line' frames'
waits_after image items items' line line' frames frames' a here places kept_there same each =
    each_at (λ x. (l : LockName) (wants : Wants) → place_of line' x ≡ Some (book.At l wants) → (kept : Activity) → slice_get items' x ≡ Some kept → IsWaiting image l wants kept (frames' x)) a here
    (λ x ne l wants at kept is. subst (λ f. IsWaiting image l wants kept f) (sym (same x ne)) (each x l wants (sym (places x ne) ∙ at) kept (kept_there x kept ne is)))

-- one who stands elsewhere doesn't wait
pub no_wait : (p : book.RunState) (o : Option book.RunState) → o ≡ Some p → book.is_at_lock p ≡ false → (l : LockName) (wants : Wants) → o ≡ Some (book.At l wants) → ⊥
no_wait p o e out l wants at =
    let z : Some p ≡ Some (book.At l wants) = sym e ∙ at in
    let y : p ≡ book.At l wants = cc z in
    let t : false ≡ true = sym out ∙ ap book.is_at_lock y in
    absurd (cc t)

pub nowhere_no_wait : (o : Option book.RunState) → o ≡ None → (l : LockName) (wants : Wants) → o ≡ Some (book.At l wants) → ⊥
nowhere_no_wait o e l wants at = let z : None ≡ Some (book.At l wants) = sym e ∙ at in absurd (cc z)

-- the others, where one has been set
pub kept_others : (items items' : List Activity) (a : ℕ) (new : Activity) → items' ≡ slice_set items a new → (x : ℕ) (kept : Activity) → x ≢ a → slice_get items' x ≡ Some kept → slice_get items x ≡ Some kept
kept_others items items' a new is x kept ne at = sym (set_there items a x new ne) ∙ sym (ap (λ xs. slice_get xs x) is) ∙ at

pub longer_by : {A : Type 0} (xs : List A) (y : A) → length (xs ++ y ∷ []) ≡ suc (length xs)
longer_by [] y = refl
longer_by (x ∷ xs) y = ap suc (longer_by xs y)

-- there is room
pub not_full : (live started : ℕ) → (nat_le MOST_LIVE live || nat_le MOST_STARTED started) ≡ false → (live < MOST_LIVE) × (started < MOST_STARTED)
not_full live started e =
    (elim (leb_tells MOST_LIVE live) as (λ _. (nat_le MOST_LIVE live || nat_le MOST_STARTED started) ≡ false → (live < MOST_LIVE) × (started < MOST_STARTED)) [
      | inl h ↦ λ f. (let z : true ≡ false = sym (ap (λ q. q || nat_le MOST_STARTED started) h.0) ∙ f in absurd (cc z))
      | inr h ↦ λ f. elim (leb_tells MOST_STARTED started) [
        | inl k ↦ (let z : true ≡ false = sym (λ i. h.0 i || k.0 i) ∙ f in absurd (cc z))
        | inr k ↦ (h.1, k.1)
      ]
    ]) e

-- one has been taken from the end of a list, or there was none
pub popped_by : (o : Option LockName) (old new : List LockName) → old ≡ new ++ option_to_list o → (0 < length old → is_some o ≡ true) → IsPopped o old new
popped_by None [] new e some = (refl, sym (e ∙ append_nil new))
popped_by None (l ∷ old) new e some = let z = some (omega arith) in absurd (cc z)
popped_by (Some l) old new e some = e
