-- The turns of a loan, over the machine of its image.
use Rattle.std.proofs.Common.{◌≡◌, ℕ, zero, suc, ◌+◌, ◌-◌, ◌<◌, ◌≤◌, ◌^◌, inl, inr, List, ◌∷◌, Bool, true, false, refl, sym, ◌∙◌, ap, subst, arith, replicate}
use Rattle.std.specs.Prelude.{if◌then◌else◌}
use Rattle.std.proofs.lemmas.Bool.Decides.{leb_tells}
use Rattle.aos_base.specs.declared.kernel.Outcome.TheVariants as outcome_is
use Rattle.aos_base.specs.Book.{Book, Activity, outcome}
use Rattle.aos_base.specs.Rooted.{Made}
use Rattle.aos_base.specs.Machine.{Choice, Step, State, execution}
use Rattle.aos_code.specs.declared.image.Image.{Image}
use Rattle.aos_code.specs.Memory.{Memory}
use Rattle.aos_code.specs.Machine.{Frames, machine, made_in, turn}
use Rattle.aos_store.specs.Store.{frames_in}
use Rattle.aos_sound.specs.FitFrames.{IsSoundImage}
use Rattle.aos_silent_steps.specs.Known.{Knows}
use Rattle.aos_silent_steps.specs.Room.{FitInRoom, StayFit}
use Rattle.aos_cpu.specs.Turns.{Alike, counted}
use Rattle.aos_cpu.specs.Private.{made_by, alone, IsPrivate, after_turns, begun_after, Privately, IsMadePrivately}
use Rattle.aos_cpu.proofs.Own.{first_turn, first_begun}
use Rattle.aos_cpu.proofs.Growing.{turn_grows}
use Rattle.aos_concurrency.specs.Orderly.{Orderly}
use Rattle.aos_concurrency.specs.Private.{steps, tallied, GoesOn, settled, begun_by, front, NoneOf}
use Rattle.aos_concurrency.proofs.Lent.{execution_lent}
use Rattle.aos_concurrency.proofs.Settles.{settle_at, goes_on}
use Rattle.aos_settling.specs.Settling.{ArePrivateAt, IsTallied}
use Rattle.aos_loan.specs.Loans.{Lending, begun_in, IsMadeOf, IsLoanOf}
use Rattle.aos_settling.proofs.Stores.{execution_store}
use Rattle.aos_settling.proofs.Tallies.{is_tallied}

module _ (image : Image) (made : List Made) where
  -- so many private turns, over any memory in which objects were made so
  pub are_private : (n : ℕ) (fs : Frames) (mem : Memory) → Knows (made_in image mem) (made_by made) → ((i : ℕ) → i < n → IsPrivate image made (after_turns image made i fs)) →
      ArePrivateAt (machine image) mem fs (begun_in image made n fs) (after_turns image made n fs)
  are_private zero fs mem knows private = refl
  are_private (suc n) fs mem knows private =
      let next = (alone image made fs).frames in (
        next,
        (
          private 0 (omega arith) mem knows,
          subst (ArePrivateAt (machine image) mem next (begun_in image made n next)) (sym (first_turn image made n fs))
              (are_private n next mem knows (λ i less. subst (IsPrivate image made) (first_turn image made i fs) (private (suc i) (omega (arith, less))))),
        ),
      )

  -- they are counted one by one while they are below the budget
  pub begun_sum : (n : ℕ) (fs : Frames) (begun budget : ℕ) → budget < 2 ^ 64 → ((i : ℕ) → i < n → begun_after image made i fs begun < budget) → begun_after image made n fs begun ≡ begun + begun_by (begun_in image made n fs)
  begun_sum zero fs begun budget small below = omega arith
  begun_sum (suc n) fs begun budget small below =
      let x = (alone image made fs).begun in
      let next = (alone image made fs).frames in
      let first : begun < budget = below 0 (omega arith) in
      first_begun image made n fs begun
      ∙ begun_sum n next (counted x begun) budget small (λ i less. subst (λ k. k < budget) (first_begun image made i fs begun) (below (suc i) (omega (arith, less))))
      ∙ by x (begun_by (begun_in image made n next)) first
    where
      by : (x : Bool) (k : ℕ) → begun < budget → counted x begun + k ≡ begun + (if x then suc k else k)
      by true k less = omega (arith, less, small)
      by false k less = omega arith

  -- all but the last are so many turns
  front_is : (n : ℕ) (fs : Frames) → front (begun_in image made (suc n) fs) ≡ begun_in image made n fs
  front_is zero fs = refl
  front_is (suc n) fs = ap (λ l. (alone image made fs).begun ∷ l) (front_is n (alone image made fs).frames)

  -- so the outcome is Going before each of them, where it is before the first
  pub still_going : (a n : ℕ) (fs : Frames) (b : Book) → b.budget < 2 ^ 64 → outcome b ≡ outcome_is.Going → ((i : ℕ) → i < n → begun_after image made i fs (b.activity a).begun < b.budget) → GoesOn a (begun_in image made n fs) b
  still_going a zero fs b small going below = tt
  still_going a (suc n) fs b small going below =
      let c = (b.activity a).begun in
      let sum = begun_sum n fs c b.budget small (λ i less. below i (omega (arith, less))) in
      goes_on a (begun_in image made (suc n) fs) b going
      (subst (λ l. c + begun_by l < b.budget) (sym (front_is n fs)) (subst (λ k. k < b.budget) sum (below n (omega arith))))

  -- turns behind turns
  pub turns_joined : (k n : ℕ) (fs : Frames) → after_turns image made (k + n) fs ≡ after_turns image made k (after_turns image made n fs)
  turns_joined zero n fs = let e : 0 + n ≡ n = omega arith in ap (λ t. after_turns image made t fs) e
  turns_joined (suc k) n fs =
      let e : suc k + n ≡ suc (k + n) = omega arith in
      ap (λ t. after_turns image made t fs) e ∙ ap (λ (x : Frames). (alone image made x).frames) (turns_joined k n fs)

  pub begun_joined : (k n : ℕ) (fs : Frames) (begun : ℕ) → begun_after image made (k + n) fs begun ≡ begun_after image made k (after_turns image made n fs) (begun_after image made n fs begun)
  begun_joined zero n fs begun = let e : 0 + n ≡ n = omega arith in ap (λ t. begun_after image made t fs begun) e
  begun_joined (suc k) n fs begun =
      let e : suc k + n ≡ suc (k + n) = omega arith in
      ap (λ t. begun_after image made t fs begun) e ∙ (λ i. counted (alone image made (turns_joined k n fs i)).begun (begun_joined k n fs begun i))

same_steps : (w : ℕ) (image : Image) (made : List Made) (n : ℕ) (fs : Frames) → replicate n (Step w) ≡ steps w (begun_in image made n fs)
same_steps w image made zero fs = refl
same_steps w image made (suc n) fs = ap (λ l. Step w ∷ l) (same_steps w image made n (alone image made fs).frames)

-- A loan of an activity as it stands is one still when others have made their steps.
pub loan_stays : (w : ℕ) (l : Lending) (cs : List Choice) (st : State Memory Frames) → NoneOf w cs → Orderly st → IsLoanOf w l st → IsLoanOf w l (execution (machine l.image) cs st)
loan_stays w l cs st none order h =
    let a = h.activity in
    let m = machine l.image in
    let now = execution m cs st in
    let k = execution_lent m w a (st.book.activity a) (st.frames a) cs st none order (record { on = h.on; stands = h.stands; activity = refl; frames = refl }) in
    record {
      activity = a;
      on = k.on;
      stands = k.stands;
      runs = ap (λ (x : Activity). x.next) k.activity ∙ h.runs;
      made = h.made;
      known = execution_store m (λ mem. Knows (made_in l.image mem) (made_by h.made)) (λ mem fs knows o x e. turn_grows l.image mem fs o x (knows o x e)) cs st h.known;
      turns = subst (λ (p : Activity × Frames). IsMadeOf h.made p.0.begun p.1 l) (λ i. (sym k.activity i, sym k.frames i)) h.turns;
      fits = h.fits;
    }

-- and its turns, or the first of them, are steps of the worker
pub loan_settles : (w n : ℕ) (l : Lending) (st : State Memory Frames) → n ≤ l.turns → st.book.budget ≡ l.budget → l.budget < 2 ^ 64 → outcome st.book ≡ outcome_is.Going → (h : IsLoanOf w l st) →
    let flags = begun_in l.image h.made n (st.frames h.activity) in
    (execution (machine l.image) (replicate n (Step w)) st ≡ settled h.activity (after_turns l.image h.made n (st.frames h.activity)) flags st)
    × IsTallied h.activity (begun_after l.image h.made n (st.frames h.activity) (st.book.activity h.activity).begun) st.book (tallied h.activity flags st.book)
    × GoesOn h.activity flags st.book
loan_settles w n l st most same small going h =
    let a = h.activity in
    let fs = st.frames a in
    let c = (st.book.activity a).begun in
    let flags = begun_in l.image h.made n fs in
    let below : (i : ℕ) → i < n → begun_after l.image h.made i fs c < st.book.budget = λ i less. subst (λ k. begun_after l.image h.made i fs c < k) (sym same) (h.turns.below i (omega (arith, less, most))) in
    let few : st.book.budget < 2 ^ 64 = subst (λ k. k < 2 ^ 64) (sym same) small in
    let on_going = still_going l.image h.made a n fs st.book few going below in
    let sum = begun_sum l.image h.made n fs c st.book.budget few below in (
      (ap (λ cs. execution (machine l.image) cs st) (same_steps w l.image h.made n fs)
          ∙ settle_at (machine l.image) w a fs (after_turns l.image h.made n fs) flags st on_going h.on h.runs refl (are_private l.image h.made n fs st.store h.known (λ i less. h.turns.private i (omega (arith, less, most))))),
      subst (λ k. IsTallied a k st.book (tallied a flags st.book)) (sym sum) (is_tallied a flags st.book on_going),
      on_going,
    )

-- A loan that has made no turn yet
pub loan_begins : (made : List Made) (fs : Frames) (l : Lending) (begun : ℕ) → l.turns ≡ 0 → Alike l.image (made_by made) fs (frames_in l.frames) → l.frames.begun ≡ begun → IsMadeOf made begun fs l
loan_begins made fs l begun none alike same =
    record {
      private = λ i less. absurd (omega (arith, none, less));
      below = λ i less. absurd (omega (arith, none, less));
      alike = subst (λ n. Alike l.image (made_by made) (after_turns l.image made n fs) (frames_in l.frames)) (sym none) alike;
      begun = same ∙ sym (ap (λ n. begun_after l.image made n fs begun) none);
    }

-- and one that makes more
pub loan_goes : (made : List Made) (begun : ℕ) (fs : Frames) (old new : Lending) (many : ℕ) → IsMadeOf made begun fs old → IsMadePrivately old.image old.budget many old.frames new.frames → new.image ≡ old.image → new.budget ≡ old.budget → new.turns ≡ many + old.turns → IsMadeOf made begun fs new
loan_goes made begun fs old new many h turned image budget sum =
    let mid = after_turns old.image made old.turns fs in
    let p = turned made mid h.alike in
    let n = old.turns in
    let i = old.image in
    let later : IsMadeOf made begun fs (record old { turns = many + n; frames = new.frames }) = record {
      private = by_two (λ k. IsPrivate i made (after_turns i made k fs)) n many h.private (λ k less. subst (IsPrivate i made) (sym (turns_joined i made k n fs)) (p.private k less));
      below = by_two (λ k. begun_after i made k fs begun < old.budget) n many h.below
          (λ k less. subst (λ x. x < old.budget) (sym (begun_joined i made k n fs begun ∙ ap (begun_after i made k mid) (sym h.begun))) (p.below k less));
      alike = subst (λ (x : Frames). Alike i (made_by made) x (frames_in new.frames)) (sym (turns_joined i made many n fs)) p.alike;
      begun = p.begun ∙ ap (begun_after i made many mid) h.begun ∙ sym (begun_joined i made many n fs begun);
    } in
    subst (λ (l : Lending). IsMadeOf made begun fs l) (λ j. (let x : Lending = record { image = sym image j; budget = sym budget j; turns = sym sum j; frames = new.frames } in x)) later
  where
    by_two : (P : ℕ → Type 0) (n many : ℕ) → ((k : ℕ) → k < n → P k) → ((k : ℕ) → k < many → P (k + n)) → (k : ℕ) → k < many + n → P k
    by_two P n many low high k less =
        elim (leb_tells n k) [
          | inl e ↦ (let at : n ≤ k = e.1 in let sum : (k - n) + n ≡ k = omega (arith, at) in subst P sum (high (k - n) (omega (arith, at, less))))
          | inr e ↦ low k e.1
        ]

-- so it is a loan of the same activity still
pub loan_runs : (w : ℕ) (old new : Lending) (st : State Memory Frames) → new.image ≡ old.image → ((made : List Made) (begun : ℕ) (fs : Frames) → IsMadeOf made begun fs old → IsMadeOf made begun fs new) → StayFit old.image old.frames new.frames → IsLoanOf w old st → IsLoanOf w new st
loan_runs w old new st same goes fit h =
    record {
      activity = h.activity;
      on = h.on;
      stands = h.stands;
      runs = h.runs;
      made = h.made;
      known = subst (λ i. Knows (made_in i st.store) (made_by h.made)) (sym same) h.known;
      turns = goes h.made (st.book.activity h.activity).begun (st.frames h.activity) h.turns;
      fits = subst (λ i. IsSoundImage i → FitInRoom i new.frames) (sym same) (λ whole. fit whole (h.fits whole));
    }
