-- Locks by their names.
use Rattle.std.proofs.Common.{◌≡◌, ◌≢◌, refl, sym, ap, subst, ◌∙◌, ◌⊎◌, inl, inr}
use Rattle.std.specs.Prelude.{Bool, true, false, if◌then◌else◌}
use Rattle.std.proofs.lemmas.Bool.Decides.{eqb_tells}
use Rattle.aos_base.specs.declared.kernel.LockName.{LockName}
use Rattle.aos_base.specs.declared.kernel.LockName.TheVariants.{Module, Object}
use Rattle.aos_base.specs.Lock.{is_lock}
use Rattle.aos_base.specs.Book.{put}

-- whether two names are of one lock
pub lock_tells : (k l : LockName) → ((is_lock k l ≡ true) × (k ≡ l)) ⊎ ((is_lock k l ≡ false) × (k ≢ l))
lock_tells (Module m) (Module n) = elim (eqb_tells m n) [ inl h ↦ inl (h.0, ap (λ x. Module x) h.1) | inr h ↦ inr (h.0, λ e. (let z : Module m ≡ Module n = e in let f : m ≡ n = cc z in h.1 f)) ]
lock_tells (Module m) (Object n) = inr (refl, λ e. absurd (cc e))
lock_tells (Object m) (Module n) = inr (refl, λ e. absurd (cc e))
lock_tells (Object m) (Object n) = elim (eqb_tells m n) [ inl h ↦ inl (h.0, ap (λ x. Object x) h.1) | inr h ↦ inr (h.0, λ e. (let z : Object m ≡ Object n = e in let f : m ≡ n = cc z in h.1 f)) ]

pub by_lock : (P : Bool → Type 0) (k l : LockName) → (k ≡ l → P true) → (k ≢ l → P false) → P (is_lock k l)
by_lock P k l same other = elim (lock_tells k l) [ inl h ↦ subst P (sym h.0) (same h.1) | inr h ↦ subst P (sym h.0) (other h.1) ]

pub each_lock : (G : LockName → Type 0) (l : LockName) → G l → ((k : LockName) → k ≢ l → G k) → (k : LockName) → G k
each_lock G l here other k = elim (lock_tells k l) [ inl h ↦ subst G (sym h.1) here | inr h ↦ other k h.1 ]

pub put_same : {A : Type 0} (f : LockName → A) (l : LockName) (v : A) → put is_lock f l v l ≡ v
put_same f l v = by_lock (λ q. (if q then v else f l) ≡ v) l l (λ e. refl) (λ ne. absurd (ne refl))

pub put_other : {A : Type 0} (f : LockName → A) (l : LockName) (v : A) (k : LockName) → k ≢ l → put is_lock f l v k ≡ f k
put_other f l v k ne = by_lock (λ q. (if q then v else f k) ≡ f k) k l (λ e. absurd (ne e)) (λ _. refl)

-- what is put again under a key is as it was
pub put_again : {A : Type 0} (f : LockName → A) (l : LockName) (v : A) → f l ≡ v → (k : LockName) → put is_lock f l v k ≡ f k
put_again f l v e k = by_lock (λ q. (if q then v else f k) ≡ f k) k l (λ q. sym e ∙ sym (ap f q)) (λ _. refl)
