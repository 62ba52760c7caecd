-- At the beginning nobody names an object.
use Rattle.std.proofs.Common.{◌≡◌, ◌≢◌, ◌≤◌, ℕ, List, [], ◌∷◌, ◌++◌, map, Some, sym, subst, arith}
use Rattle.aos_concurrency.specs.Acting.{acting, acts}
use Rattle.aos_concurrency.proofs.Begin.{each_start}
use Rattle.aos_types.specs.Content.{Content}
use Rattle.aos_typed.specs.Program.{Module, Program, Variable}
use Rattle.aos_typed.specs.Store.{new_number}
use Rattle.aos_typed.specs.Value.{Value}
use Rattle.aos_typed.specs.Text.{text_content}
use Rattle.aos_typed.specs.Source.{first_module, first_store, first_value, first_variable, row_of}
use Rattle.aos_escape.specs.Naming.{Builds, ContentIs, ContentsAre, FramesAre, HideAll, IsLoud, IsOther, StoreIs}
use Rattle.aos_escape.proofs.Alike.{first, start}
use Rattle.aos_escape.proofs.Names.{HasNames}
use Rattle.aos_escape.proofs.Steps.{loud_plainly, other_plainly}
use Rattle.aos_escape.proofs.Tidying.{IsTidy}
use Rattle.aos_escape.proofs.Traced.{Traces, traced}
use Rattle.aos_escape.proofs.Values.{Simply, first_is, simply, sort_begins}

module _ (p : Program) where
  row_is : (C : Value → Type 0) (cs : List (Content Value)) → ContentsAre C cs → ContentIs C (row_of cs)
  row_is C [] h = tt
  row_is C (c ∷ cs) h = (h.0, row_is C cs h.1)

  variables_are : (C : Value → Type 0) → Simply C → (vs : List Variable) (more : List (Content Value)) → ContentsAre C more → ContentsAre C (map (first_variable p) vs ++ more)
  variables_are C simple [] more h = h
  variables_are C simple (v ∷ vs) more h = (first_is C (first_value p) _ (sort_begins p C simple), variables_are C simple vs more h)

  text_is : (C : Value → Type 0) → Simply C → (cs : List ℕ) → ContentIs C (text_content cs)
  text_is C simple [] = (simple.char 0, tt)
  text_is C simple (c ∷ cs) = (simple.char c, text_is C simple cs)

  texts_are : (C : Value → Type 0) → Simply C → (ts : List (List ℕ)) → ContentsAre C (map text_content ts)
  texts_are C simple [] = tt
  texts_are C simple (t ∷ ts) = (text_is C simple t, texts_are C simple ts)

  firsts_are : (C : Value → Type 0) → Simply C → (ms : List Module) → ContentsAre C (map (first_module p) ms)
  firsts_are C simple [] = tt
  firsts_are C simple (m ∷ ms) = (row_is C _ (variables_are C simple m.variables (map text_content m.texts) (texts_are C simple m.texts)), firsts_are C simple ms)

  pub first_is_store : (C : Value → Type 0) → Simply C → StoreIs C (first_store p)
  first_is_store C simple = record { modules = firsts_are C simple p.modules; objects = tt }

  module _ (names : HasNames p) where
    pub first_tidy : (budget : ℕ) → IsTidy p names (first_store p) (acting (traced p names) (start p names budget))
    first_tidy budget =
        record {
          loud = first_is_store (IsLoud p) (simply p (IsLoud p) (loud_plainly p names));
          loud_frames = λ a f e. subst (λ (z : Traces p names). FramesAre (IsLoud p) z.0.frames) (only a f e) tt;
          unmade = λ o le. first_is_store (IsOther o) (simply p (IsOther o) (other_plainly p o (real o le)));
          unmade_frames = λ o le a f e. subst (λ (z : Traces p names). HideAll o z.0.frames) (only a f e) (record { selves = tt; values = tt });
          built = λ a f o e builds. absurd (subst (λ (z : Traces p names). Builds p o z.1 z.0.frames) (sym (only a f e)) builds);
        }
      where
        only : (a : ℕ) (f : Traces p names) → acting (traced p names) (start p names budget) a ≡ Some f → first p names ≡ f
        only = each_start (first_store p) (first p names) budget (λ _ y. (f : Traces p names) → acts (traced p names) y.next y.frames ≡ Some f → first p names ≡ f) (λ f e. cc e) (λ x ne f e. absurd (cc e))

        real : (o : ℕ) → new_number (first_store p) ≤ o → 0 ≢ o
        real o le e = absurd (omega (arith, le, e))
