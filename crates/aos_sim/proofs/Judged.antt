-- The conditions that are awaited come to the same in a program's code as in the program.
use Rattle.std.proofs.Common.{◌≡◌, ℕ, sym, subst}
use Rattle.std.specs.Prelude.{Some}
use Rattle.aos_base.specs.declared.kernel.LockName.{LockName}
use Rattle.aos_base.specs.declared.kernel.Did.{Did}
use Rattle.aos_base.specs.declared.kernel.Did.TheVariants.{Went, Await}
use Rattle.aos_base.specs.Lock.{Condition}
use Rattle.aos_base.specs.Book.{On, At, Runs, on_worker, place_of}
use Rattle.aos_base.specs.Machine.{Machine, State, execution}
use Rattle.aos_typed.specs.Program.{Program}
use Rattle.aos_typed.specs.Source.{source, first_state}
use Rattle.aos_typed.specs.WellTyped.{IsWellTyped}
use Rattle.aos_code.specs.declared.image.Image.{Image}
use Rattle.aos_code.specs.Machine.{machine, first_state as first_of}
use Rattle.aos_concurrency.specs.Simulates.{Simulates, Matches}
use Rattle.aos_concurrency.specs.Regions.{Outside}
use Rattle.aos_concurrency.proofs.Lines.{found_on}
use Rattle.aos_concurrency.proofs.LocalStates.{runs_there}
use Rattle.aos_concurrency.proofs.Works.{runs_at}
use Rattle.aos_sim.specs.Shows.{IsCodeOf}
use Rattle.aos_sim.specs.Judges.{JudgesAlike, JudgesAsProgram}
use Rattle.aos_sim.proofs.States.{SameStore}
use Rattle.aos_sim.proofs.Turns.{Together}
use Rattle.aos_sim.proofs.Shown.{simulates, matched}

module _ {S F T G : Type 0} (Stores : S → T → Type 0) (Frames : S → T → Did → F → G → Type 0) (Admitted : LockName → F → Type 0) (m : Machine S F) (n : Machine T G) (sim : Simulates Stores Frames Admitted m n)
    (st : State S F) (tu : State T G) (h : Matches Stores Frames Admitted st tu) where
  waits_at : (a : ℕ) (l : LockName) (c : ℕ) → place_of st.book.line a ≡ Some (At l (Condition c)) → Frames st.store tu.store (Await l c) (st.frames a) (tu.frames a)
  waits_at a l c at =
      runs_at (λ k. Admitted k (st.frames a)) (λ w. Frames st.store tu.store w (st.frames a) (tu.frames a)) (st.book.activity a).next (place_of st.book.line a) (At l (Condition c))
      (runs_there st h.orderly a l (Condition c) at) at (h.frames a)

  stands_on : (w b : ℕ) → on_worker w st.book.line ≡ Some b → (st.book.activity b).next ≡ Runs → Frames st.store tu.store Went (st.frames b) (tu.frames b)
  stands_on w b on runs =
      let f = found_on st.book.line w b h.orderly.once on in
      runs_at (λ k. Admitted k (st.frames b)) (λ v. Frames st.store tu.store v (st.frames b) (tu.frames b)) (st.book.activity b).next (place_of st.book.line b) (On f.0) runs f.1 (h.frames b)

  judges : JudgesAlike m n st tu
  judges = record {
    now = λ a l c at. sym (sim.verdict st.store tu.store l c (st.frames a) (tu.frames a) h.stores (waits_at a l c at));
    turned = λ w b a l c on runs at.
        let f = stands_on w b on runs in
        let t = sim.turn st.store tu.store (st.frames b) (tu.frames b) h.stores f in
        sym (sim.verdict (m.turn st.store (st.frames b)).store (n.turn tu.store (tu.frames b)).store l c (st.frames a) (tu.frames a) t.stores
        (sim.kept st.store tu.store (st.frames b) (tu.frames b) h.stores f (Await l c) (st.frames a) (tu.frames a) (waits_at a l c at)));
    own = λ w b l c on runs left.
        let x = m.turn st.store (st.frames b) in
        let y = n.turn tu.store (tu.frames b) in
        let t = sim.turn st.store tu.store (st.frames b) (tu.frames b) h.stores (stands_on w b on runs) in
        sym (sim.verdict x.store y.store l c x.frames y.frames t.stores (subst (λ v. Frames x.store y.store v x.frames y.frames) left t.frames));
  }

pub judges_as_program : (p : Program) (image : Image) → IsWellTyped p → IsCodeOf p image → JudgesAsProgram p image
judges_as_program p image well ok budget choices =
    judges (SameStore p) (Together p image) (Outside (source p)) (source p) (machine image) (simulates p image well ok)
    (execution (source p) choices (first_state p budget)) (execution (machine image) choices (first_of image budget)) (matched p image well ok budget choices)
