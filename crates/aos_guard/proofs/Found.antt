-- The marks that are left are those of the quiet initializers.
use Rattle.std.proofs.Common.{◌≡◌, ℕ, List, Bool, false, IsTrue, refl, ◌∙◌, sym, subst}
use Rattle.std.specs.Prelude.{◌↔◌}
use Rattle.std.specs.declared.vec.Vec.{Vec}
use Rattle.std.specs.declared.alloc.Global.{Global}
use Rattle.aos_typed.specs.Program.{Program}
use Rattle.aos_guard.specs.declared.marks.Edge.{Edge}
use Rattle.aos_uses.specs.declared.uses.Use.{Use}
use Rattle.aos_guard.specs.Edges.{AreMarks, AreTexts, InTexts}
use Rattle.aos_uses.specs.Guarded.{IsQuiet, Keeps, is_initial}
use Rattle.aos_guard.specs.Marks.{IsClosed, IsLeft, IsWithin, marked}
use Rattle.aos_guard.proofs.Edges.{none_initial}
use Rattle.aos_guard.proofs.Texts.{in_each, in_texts}

module _ (p : Program) (old : List Bool) (initial : (m : ℕ) → marked old m ≡ is_initial p m) where
  pub nothing_marked : marked old 0 ≡ false
  nothing_marked = initial 0 ∙ none_initial p 0 refl

  pub quiet_found : (texts : List (Vec Use Global)) (edges : List Edge) (new : List Bool) → AreTexts p texts → ((set : ℕ → Bool) → IsWithin set (marked old) → IsClosed edges set ↔ InTexts (Keeps p (λ n. IsTrue (set n))) texts) → ((k : ℕ) → IsTrue (marked new k) ↔ IsLeft edges old k) → AreMarks p new
  quiet_found texts edges new are says exact n = (left, kept)
    where
      left : IsTrue (marked new n) → IsQuiet p n
      left h =
          let q = (exact n).0 h in
          record {
            set = q.0;
            are_quiet = record {
              initial = λ k in_set. subst IsTrue (initial k) (q.1.0 k in_set);
              uses = in_each p (Keeps p (λ k. IsTrue (q.0 k))) texts are ((says q.0 q.1.0).0 q.1.1.0);
            };
            is_in = q.1.1.1;
          }

      kept : IsQuiet p n → IsTrue (marked new n)
      kept q =
          let within : IsWithin q.set (marked old) = λ k in_set. subst IsTrue (sym (initial k)) (q.are_quiet.initial k in_set) in
          let closed = (says q.set within).1 (in_texts p (Keeps p (λ k. IsTrue (q.set k))) texts are q.are_quiet.uses) in
          (exact n).1 (q.set, (within, (closed, q.is_in)))
