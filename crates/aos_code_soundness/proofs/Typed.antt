-- A typing of the places of code makes it sound.
use Rattle.std.proofs.Common.{◌≡◌, ◌≤◌, inl, inr, ℕ, List, [], Some, length, sym, ap, ◌∙◌, subst, arith}
use Rattle.std.specs.Prelude.{slice_get}
use Rattle.std.proofs.lemmas.Option.{slice_get_cases}
use Rattle.aos_code.specs.declared.instr.Instr.{Instr}
use Rattle.aos_code.specs.declared.image.Image.{Image}
use Rattle.aos_sound.specs.declared.stand.Role.{Role}
use Rattle.aos_sound.specs.Sound.{Kinds, after, Comes, Begins, Goes, Finds, IsSound}
use Rattle.aos_code_soundness.specs.Piece.{Typing, Within, IsOk}

module _ (image : Image) (own : ℕ) (role : Role) (depth : ℕ) (code : List Instr) (kinds : Typing) (within : Within code kinds) (begins : kinds 0 ≡ Some []) (ok : (at : ℕ) (i : Instr) → slice_get code at ≡ Some i → IsOk image own role depth code kinds i at) where
  -- each path comes with the operands of the typing
  as_typed : (at : ℕ) (s : Kinds) → Comes image own code at s → kinds at ≡ Some s
  as_typed at s Begins = begins
  as_typed at s (Goes {at = from} {s = t} c i stands left finds to leads) =
      let o = ok from i stands in
      let e : Some o.before ≡ Some t = sym o.is ∙ as_typed from t c in
      let same : o.before ≡ t = cc in
      let f : Some o.left ≡ Some left = sym o.finds ∙ ap (after image own i) same ∙ finds in
      o.on to leads ∙ f

  -- where the typing has operands there is an instruction that finds what it takes
  found : (at : ℕ) (s : Kinds) → kinds at ≡ Some s → Finds image own code at s × (length s ≤ depth)
  found at s e = elim (slice_get_cases code at).1 [
    | inl h ↦
        let o = ok at h.0 h.2 in
        let f : Some o.before ≡ Some s = sym o.is ∙ e in
        let same : o.before ≡ s = cc in
        (record { instr = h.0; stands = h.2; left = o.left; finds = ap (after image own h.0) (sym same) ∙ o.finds }, subst (λ t. length t ≤ depth) same o.few)
    | inr h ↦ let lt = within at s e in let le = h.0 in absurd (omega (arith, lt, le))
  ]

  -- so the code is sound
  pub typed_sound : IsSound image own role code depth
  typed_sound = record {
    stand = λ at i e. (ok at i e).stand;
    paths = record {
      find = λ at s c. (found at s (as_typed at s c)).0;
      few = λ at s c. (found at s (as_typed at s c)).1;
      same = λ at s t c d. (let e : Some s ≡ Some t = sym (as_typed at s c) ∙ as_typed at t d in (let f : s ≡ t = cc in f));
    };
  }
