-- Procedures in turn: one more.
use Rattle.std.proofs.Common.{◌≡◌, ◌<◌, ℕ, suc, List, [], ◌∷◌, ◌++◌, ◌+◌, false, length, get_or, drop, slice_get, Option, Some, None, append-nil, append_assoc, refl, ap, ◌∙◌, sym}
use Rattle.aos_tree.specs.declared.decl.Proc.{Proc}
use Rattle.aos_tree.specs.declared.decl.Decl.{Decl, items_hidden-the_row-Decl-2, roll-Decl, roll-out-Decl}
use Rattle.aos_tree.specs.declared.decl.Decl.TheVariants as decl
use Rattle.aos_typed.specs.Program.{Stat, Stats, Procedure as TypedProcedure}
use Rattle.aos_symbols.specs.declared.breach.Breach.{Breach}
use Rattle.aos_symbols.specs.declared.env.Env.{Env}
use Rattle.aos_types.specs.declared.signature.Signature.{Signature}
use Rattle.aos_symbols.specs.Env.{within}
use Rattle.aos_symbols.specs.Judged.{Judged, judged, bind}
use Rattle.aos_symbols.specs.Breaches.{first_after}
use Rattle.aos_symbols.specs.Scope.{Scope}
use Rattle.aos_symbols.specs.Declarations.{Procedure, procedures, whole_procedures_in}
use Rattle.aos_symbols.proofs.Keeping.{after_more}
use Rattle.aos_check_stat.specs.Bodies.{listed, body_of}
use Rattle.aos_variables.specs.Parts.{variables_of}
use Rattle.aos_compile.specs.Modules.{bodies_from, procedure_of, procedures_of}
use Rattle.aos_variables.proofs.Pairs.{drop_item, drop_some, drop_none}

-- a procedure as it is written, with these declarations
abbrev with_decls : Proc → List Decl → Procedure
with_decls a ds =
    record { at = a.outline.pos; initializer = a.outline.initializer; name = a.outline.def.name; formals = a.outline.formals; decls = ds; body = a.outline.body }

abbrev pub whole : Proc → Procedure
whole a = with_decls a a.decls

-- the procedures from a declaration on that is one
pub procedure_first : (ds : List Decl) (i : ℕ) (x : Decl) (a : Proc) → i < length ds → x ≡ get_or ds i x → x ≡ decl.Proc a →
    procedures (drop i ds) ≡ whole a ∷ procedures (drop (i + 1) ds)
procedure_first ds i x a lt at is =
    let rest = drop (i + 1) ds in
    ap procedures (drop_item ds i x lt at) ∙ ap (λ d. procedures (d ∷ rest)) is
    ∙ ap (λ l. with_decls a l ∷ procedures rest) (items_hidden-the_row-Decl-2 a.decls)

-- and from one on that is none
none_in : (x : Decl) → ((a : Proc) → x ≡ decl.Proc a → ⊥) → whole_procedures_in x ≡ []
none_in (decl.Consts p cs) never = refl
none_in (decl.Types' p shape row) never = refl
none_in (decl.Vars' p shape row) never = refl
none_in (decl.Proc' o shape row) never =
    absurd (never _ (sym (roll-out-Decl (decl.Proc' o shape row)) ∙ ap roll-Decl (decl.outs-Proc' o shape row) ∙ decl.rolls-Proc _))

pub procedure_none : (ds : List Decl) (i : ℕ) (x : Decl) → i < length ds → x ≡ get_or ds i x → ((a : Proc) → x ≡ decl.Proc a → ⊥) →
    procedures (drop i ds) ≡ procedures (drop (i + 1) ds)
procedure_none ds i x lt at never =
    ap procedures (drop_item ds i x lt at) ∙ ap (λ l. l ++ procedures (drop (i + 1) ds)) (none_in x never)

module _ (e : Env) (ds : List Decl) (i k next : ℕ) (done more : List Stats) (x : Decl) (a : Proc) where
  abbrev here : Judged (List Stat)
  here = body_of (within e k) false a.outline.body

  abbrev behind : Judged (List Stats)
  behind = bodies_from e next more (procedures (drop (i + 1) ds))

  bodies_next : i < length ds → x ≡ get_or ds i x → x ≡ decl.Proc a → next ≡ suc k → more ≡ done ++ listed here.answer ∷ [] →
      bodies_from e k done (procedures (drop i ds)) ≡ judged (here.breaches ++ behind.breaches) behind.answer
  bodies_next lt at is one told =
      ap (bodies_from e k done) (procedure_first ds i x a lt at is)
      ∙ ap (λ n. bind here (λ ss. bodies_from e n (done ++ listed ss ∷ []) (procedures (drop (i + 1) ds)))) (sym one)
      ∙ ap (λ l. let b = bodies_from e next l (procedures (drop (i + 1) ds)) in judged (here.breaches ++ b.breaches) b.answer) (sym told)

  pub bodies_noted : (met found : Option Breach) → i < length ds → x ≡ get_or ds i x → x ≡ decl.Proc a → next ≡ suc k → more ≡ done ++ listed here.answer ∷ [] →
      found ≡ first_after met here.breaches → first_after found behind.breaches ≡ first_after met (bodies_from e k done (procedures (drop i ds))).breaches
  bodies_noted met found lt at is one told noted =
      ap (λ z. first_after z behind.breaches) noted ∙ sym (after_more met here.breaches behind.breaches)
      ∙ ap (λ (z : Judged (List Stats)). first_after met z.breaches) (sym (bodies_next lt at is one told))

  pub bodies_answer : i < length ds → x ≡ get_or ds i x → x ≡ decl.Proc a → next ≡ suc k → more ≡ done ++ listed here.answer ∷ [] →
      behind.answer ≡ (bodies_from e k done (procedures (drop i ds))).answer
  bodies_answer lt at is one told = ap (λ (z : Judged (List Stats)). z.answer) (sym (bodies_next lt at is one told))

-- The procedures of the typed program.

no_signatures : (text : List ℕ) (scopes : List Scope) (k : ℕ) (ps : List Procedure) (bs : List Stats) → procedures_of text scopes k ps [] bs ≡ []
no_signatures text scopes k [] bs = refl
no_signatures text scopes k (p ∷ ps) bs = refl

module _ (text : List ℕ) (scopes : List Scope) (ds : List Decl) (i k : ℕ) (done : List TypedProcedure) (ss : List Signature) (n : ℕ) (bs : List Stats) where
  abbrev left : List TypedProcedure
  left = procedures_of text scopes k (procedures (drop i ds)) (drop n ss) bs

  pub signatures_out : slice_get ss n ≡ None → done ≡ done ++ left
  signatures_out out =
      sym (append-nil done)
      ∙ ap (λ l. done ++ l) (sym (ap (λ l. procedures_of text scopes k (procedures (drop i ds)) l bs) (drop_none ss n out) ∙ no_signatures text scopes k (procedures (drop i ds)) bs))

  pub procedures_step : (next m : ℕ) (x : Decl) (a : Proc) (s : Signature) (b : Stats) (more : List Stats) (v : TypedProcedure) (new : List TypedProcedure) →
      i < length ds → x ≡ get_or ds i x → x ≡ decl.Proc a → slice_get ss n ≡ Some s → bs ≡ b ∷ more → next ≡ suc k → m ≡ suc n →
      v ≡ procedure_of text (whole a) s (variables_of (slice_get scopes k)) b → new ≡ done ++ v ∷ [] →
      new ++ procedures_of text scopes next (procedures (drop (i + 1) ds)) (drop m ss) more ≡ done ++ left
  procedures_step next m x a s b more v new lt at is has body one two told put =
      let ps = procedures (drop (i + 1) ds) in
      let this = procedure_of text (whole a) s (variables_of (slice_get scopes k)) b in
      let rest = procedures_of text scopes next ps (drop m ss) more in
      ap (λ l. l ++ rest) (put ∙ ap (λ y. done ++ y ∷ []) told)
      ∙ append_assoc done (this ∷ []) rest
      ∙ sym (ap (λ l. done ++ procedures_of text scopes k l (drop n ss) bs) (procedure_first ds i x a lt at is)
      ∙ ap (λ l. done ++ procedures_of text scopes k (whole a ∷ ps) l bs) (drop_some ss n m s has two)
      ∙ ap (λ l. done ++ procedures_of text scopes k (whole a ∷ ps) (s ∷ drop m ss) l) body
      ∙ ap (λ j. done ++ this ∷ procedures_of text scopes j ps (drop m ss) more) (sym one))
