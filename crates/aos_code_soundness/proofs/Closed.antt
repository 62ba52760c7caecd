-- Code that no path leaves at its end, and that is sound.
use Rattle.std.proofs.Common.{◌≡◌, ◌≤◌, ◌<◌, ℕ, zero, suc, ◌+◌, List, [], ◌∷◌, ◌++◌, Some, length, refl, sym, ap, ◌∙◌, subst, arith, length-append, append-nil}
use Rattle.std.specs.Prelude.{slice_get, IsTrue}
use Rattle.std.proofs.lemmas.Option.{slice_get_within}
use Rattle.aos_code.specs.declared.instr.Instr.{Instr}
use Rattle.aos_code.specs.declared.image.Image.{Image}
use Rattle.aos_sound.specs.declared.effect.Next.TheVariants.{Ends}
use Rattle.aos_sound.specs.declared.stand.Role.{Role}
use Rattle.aos_sound.specs.Sound.{Kinds, Leads, next_of, after, may_stand, IsSound}
use Rattle.aos_code_soundness.specs.Piece.{Typing, Stands, Lies, Within, Round, IsOk, AreOk, Piece}
use Rattle.aos_code_soundness.proofs.Typed.{typed_sound}
use Rattle.aos_code_soundness.proofs.Pieces.{stands_first, stands_second, lies_first, lies_second, are_ok_both}

-- a list is a typing of the places of its items
pub lies_all : (ss : List Kinds) (kinds : Typing) (at : ℕ) → ((k : ℕ) (s : Kinds) → slice_get ss k ≡ Some s → kinds (at + k) ≡ Some s) → Lies kinds at ss
lies_all [] kinds at f = tt
lies_all (s ∷ ss) kinds at f =
    let z : at + 0 ≡ at = omega arith in
    (ap kinds (sym z) ∙ f 0 s refl, lies_all ss kinds (at + 1) (λ k t e. (let n : at + 1 + k ≡ at + suc k = omega arith in ap kinds n ∙ f (suc k) t e)))

module _ (image : Image) (own : ℕ) (role : Role) (depth : ℕ) where
  -- a piece without an end
  pub record Closed (code : List Instr) (at : ℕ) (s : Kinds) : Type 0 where
    pub types : List Kinds
    pub long : length types ≡ length code
    pub enters : (kinds : Typing) → Lies kinds at types → kinds at ≡ Some s
    pub flows : (whole : List Instr) (kinds : Typing) → Within whole kinds → Stands whole at code → Lies kinds at types → AreOk image own role depth whole kinds code at

  -- an instruction behind which the code doesn't go on
  pub ends : (i : Instr) (at : ℕ) (s t : Kinds) → after image own i s ≡ Some t → next_of i ≡ Ends → length s ≤ depth → ((whole : List Instr) (p : ℕ) → IsTrue (may_stand image own role whole p i)) → Closed (i ∷ []) at s
  ends i at s t e n few may =
      record {
        types = s ∷ [];
        long = refl;
        enters = λ kinds l. l.0;
        flows = λ whole kinds w st l. (record { before = s; left = t; is = l.0; finds = e; few = few; on = λ to leads. absurd (subst (λ x. Leads x at to) n leads); stand = may whole at }, tt);
      }

  -- a piece before it, which asks only for what is at its own end
  pub closes : {Asks : Round} {c d : List Instr} {at : ℕ} {s t : Kinds} → Piece image own role depth Asks c at s t → Closed d (at + length c) t → ((whole : List Instr) (kinds : Typing) → kinds (at + length c) ≡ Some t → Asks whole kinds) → Closed (c ++ d) at s
  closes {c = c} {d = d} {at = at} p q f =
      let la = length-append c d in
      let lp = p.long in
      let second : (kinds : Typing) → Lies kinds at (p.types ++ q.types) → Lies kinds (at + length c) q.types = λ kinds l. subst (λ n. Lies kinds (at + n) q.types) lp (lies_second kinds at p.types q.types l) in
      record {
        types = p.types ++ q.types;
        long = (let lt = length-append p.types q.types in let lq = q.long in omega (arith, lt, la, lp, lq));
        enters = λ kinds l. p.enters kinds (lies_first kinds at p.types q.types l) (q.enters kinds (second kinds l));
        flows = λ whole kinds w st l. are_ok_both image own role depth whole kinds c d at
            (p.flows whole kinds w (stands_first whole at c d st) (lies_first kinds at p.types q.types l) (q.enters kinds (second kinds l)) (f whole kinds (q.enters kinds (second kinds l))))
            (q.flows whole kinds w (stands_second whole at c d st) (second kinds l));
      }

  -- each instruction of code that is as it should be is so
  pub ok_at : (whole : List Instr) (kinds : Typing) (c : List Instr) (at k : ℕ) (i : Instr) → AreOk image own role depth whole kinds c at → slice_get c k ≡ Some i → IsOk image own role depth whole kinds i (at + k)
  ok_at whole kinds [] at k i ok e = absurd (cc e)
  ok_at whole kinds (j ∷ c) at zero i ok e =
      let n : at ≡ at + 0 = omega arith in
      let same : j ≡ i = cc in
      subst (λ p. IsOk image own role depth whole kinds i p) n (subst (λ x. IsOk image own role depth whole kinds x at) same ok.0)
  ok_at whole kinds (j ∷ c) at (suc k) i ok e =
      let n : at + 1 + k ≡ at + suc k = omega arith in
      subst (λ p. IsOk image own role depth whole kinds i p) n (ok_at whole kinds c (at + 1) k i ok.1 e)

  -- closed code that begins without operands is sound
  pub closed_sound : (code : List Instr) → Closed code 0 [] → IsSound image own role code depth
  closed_sound code p =
      let kinds : Typing = λ at. slice_get p.types at in
      let lies : Lies kinds 0 p.types = lies_all p.types kinds 0 (λ k s e. (let n : 0 + k ≡ k = omega arith in ap kinds n ∙ e)) in
      let within : Within code kinds = λ at s e. subst (λ n. at < n) p.long (slice_get_within p.types at s e) in
      let ok : AreOk image own role depth code kinds code 0 = p.flows code kinds within ([], sym (append-nil code)) lies in
      typed_sound image own role depth code kinds within (p.enters kinds lies)
      (λ at i e. (let n : 0 + at ≡ at = omega arith in subst (λ q. IsOk image own role depth code kinds i q) n (ok_at code kinds code 0 at i ok e)))
