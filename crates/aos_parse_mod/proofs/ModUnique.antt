-- Tokens have at most one tree: two trees that read the same tokens, each up to a token that joins more loosely, are equal
-- and end at one place.
use Rattle.std.proofs.Common.{◌≡◌, ℕ, ◌≤◌, ◌<◌, List, [], ◌∷◌, Bool, true, false, Option, Some, refl, sym, ap, ◌∙◌, subst, arith, lit<}
use Rattle.aos_base.specs.declared.text.Pos.{Pos}
use Rattle.aos_scan.specs.declared.token.Token.{Token}
use Rattle.aos_scan.specs.declared.token.TokenKind.{TokenKind}
use Rattle.aos_scan.specs.declared.token.TokenKind.TheVariants as k
use Rattle.aos_tree.specs.declared.name.Name.{Name}
use Rattle.aos_tree.specs.declared.name.Qualident.{Qualident}
use Rattle.aos_tree.specs.declared.expr.Expr.{Expr}
use Rattle.aos_tree.specs.declared.stat.Block.{Block}
use Rattle.aos_tree.specs.declared.decl.Export.{Export}
use Rattle.aos_tree.specs.declared.decl.Def.{Def}
use Rattle.aos_tree.specs.declared.decl.Decl.{Decl}
use Rattle.aos_tree.specs.declared.decl.ConstDef.{ConstDef}
use Rattle.aos_tree.specs.declared.decl.TypeDef.{TypeDef}
use Rattle.aos_tree.specs.declared.decl.VarDef.{VarDef}
use Rattle.aos_tree.specs.declared.decl.Proc.{Proc}
use Rattle.aos_tree.specs.declared.decl.Formals.{Formals}
use Rattle.aos_tree.specs.declared.decl.Section.{Section}
use Rattle.aos_tree.specs.declared.decl.TypeExpr.{TypeExpr}
use Rattle.aos_tree.specs.declared.decl.Fields.{Fields}
use Rattle.aos_tree.specs.declared.module.Module.{Module}
use Rattle.aos_tree.specs.declared.module.Import.{Import}
use Rattle.aos_tree.specs.Nesting.{Rule, shallow}
use Rattle.aos_tree.specs.Operators.{export_of}
use Rattle.aos_tree.specs.Words as g
use Rattle.aos_tree.specs.Words.{IsWord, IsName, IsNames, IsMoreNames, IsQualident}
use Rattle.aos_tree.specs.ExprGrammar as expression
use Rattle.aos_tree.specs.ExprGrammar.{IsExpr, IsExprs}
use Rattle.aos_tree.specs.StatGrammar as blocks
use Rattle.aos_tree.specs.StatGrammar.{IsBlock}
use Rattle.aos_tree.specs.DeclGrammar as declared
use Rattle.aos_tree.specs.DeclGrammar.{IsDef, IsDefs, IsMoreDefs, IsBase, IsArrays, IsSection, IsSections, IsMoreSections, IsFormals, IsFormalsOption, IsFlag, IsEndName, IsBody, IsConstDefs, IsDecls, IsDecl, IsTypeDefs, IsVarDefs, IsVarDef, IsProc, IsType, IsFields, IsMoreFields}
use Rattle.aos_tree.specs.ModuleGrammar as imported
use Rattle.aos_tree.specs.ModuleGrammar.{IsImport, IsImports, IsMoreImports, IsImportList, IsModule, Reads}
use Rattle.aos_parse_expr.specs.Symbols as e
use Rattle.aos_parse_expr.proofs.ExprWalk as below
use Rattle.aos_parse_expr.proofs.Unique as unique
use Rattle.aos_parse_expr.proofs.Walk.{Starts, starts_on}
use Rattle.aos_parse_stat.proofs.StatUnique as stat
use Rattle.aos_parse_mod.specs.Symbols.{Stack}
use Rattle.aos_parse_mod.proofs.Chains.{Going, Firm, Firmly, firm_after, firm_more}
use Rattle.aos_parse_mod.proofs.Joins.{joins, past_expr, mark_joins}
use Rattle.aos_parse_mod.proofs.ModWalk as walk

-- the next token joins more loosely than l
abbrev Loose : ℕ → List Token → Type 0
Loose l ts = Firmly l ts

-- the same value, and the same rest
abbrev Same : {A : Type 0} → A → A → List Token → List Token → Type 0
Same a b r s = (a ≡ b) × (r ≡ s)

less : (l j : ℕ) (ts : List Token) → j ≤ l → Loose l ts → Loose j ts
less l j [] le h = h
less l j (t ∷ ts) le h = omega arith

past : (ts : List Token) → Loose 3 ts → unique.Loose 4 ts
past [] h = h
past (t ∷ ts) h = past_expr t.kind h

-- a token that goes on can't stand where none goes on
not_here : (l : ℕ) (c : TokenKind) {t : Token} {rest ts : List Token} → Loose l rest → rest ≡ t ∷ ts → t.kind ≡ c → joins c ≤ l → ⊥
not_here l c {t} loose at is le = let h : l < joins t.kind = subst (λ z. Loose l z) at loose in let a : joins t.kind ≡ joins c = ap joins is in omega arith

module _ (may : Rule) where
  -- the first token of a part that may be missing joins more loosely where the one after it does
  after_going : {l n : ℕ} {xs : Stack} {ts rest : List Token} (j : ℕ) → n ≤ j → Going may l n xs ts rest → Loose j rest → Loose n ts
  after_going {n = n} {rest = rest} j le r loose = subst (λ z. Loose n z) (sym r.reads.whole) (firm_after n j r.reads.front rest le r.above loose)

  begins : {l n : ℕ} {xs : Stack} {ts rest : List Token} → Firm may l n xs ts rest → Loose n ts
  begins {n = n} {rest = rest} r = subst (λ z. Loose n z) (sym r.reads.whole) (firm_more n r.reads.front rest r.firm)

  at_word : {d : ℕ} {c : TokenKind} {p : Pos} {ts r : List Token} (l : ℕ) → IsWord may d c p ts r → l < joins c → Loose l ts
  at_word l (g.word is fits) h = subst (λ z. l < joins z) (sym is) h

  word_not : {d : ℕ} {c : TokenKind} {p : Pos} {ts us r : List Token} (l : ℕ) → Loose l us → us ≡ ts → IsWord may d c p ts r → joins c ≤ l → ⊥
  word_not {c = c} l loose at (g.word is fits) le = not_here l c loose at is le

  name_not : {d : ℕ} {a : Name} {ts us r : List Token} (l : ℕ) → Loose l us → us ≡ ts → IsName may d a ts r → 6 ≤ l → ⊥
  name_not l loose at (g.ident is fits) le = not_here l k.Ident loose at is le

  same_kind : {d d' : ℕ} {c c' : TokenKind} {p q : Pos} {ts ts' r r' : List Token} → IsWord may d c p ts r → IsWord may d' c' q ts' r' → ts ≡ ts' → c ≡ c'
  same_kind (g.word {t = t} is fits) (g.word {t = u} is' fits') at = let a : t ≡ u = cc in sym is ∙ ap (λ z. z.kind) a ∙ is'

  name_kind : {d d' : ℕ} {c : TokenKind} {a : Name} {q : Pos} {ts ts' r r' : List Token} → IsName may d a ts r → IsWord may d' c q ts' r' → ts ≡ ts' → k.Ident ≡ c
  name_kind (g.ident {t = t} is fits) (g.word {t = u} is' fits') at = let a : t ≡ u = cc in sym is ∙ ap (λ z. z.kind) a ∙ is'

  unique_word : {d : ℕ} {c : TokenKind} {p q : Pos} {ts ts' r r' : List Token} → IsWord may d c p ts r → IsWord may d c q ts' r' → ts ≡ ts' → Same p q r r'
  unique_word (g.word {t = t} is fits) (g.word {t = u} is' fits') at = let a : t ≡ u = cc in (ap (λ z. z.pos) a, cc)

  unique_name : {d : ℕ} {a b : Name} {ts ts' r r' : List Token} → IsName may d a ts r → IsName may d b ts' r' → ts ≡ ts' → Same a b r r'
  unique_name (g.ident is fits) (g.ident is' fits') at = (cc, cc)

  unique_qualident : {d : ℕ} {a b : Qualident} {ts ts' r r' : List Token} → IsQualident may d a ts r → IsQualident may d b ts' r' → ts ≡ ts' → Loose 1 r → Loose 1 r' → Same a b r r'
  unique_qualident (g.plain a) (g.plain b) at l l' = let p = unique_name a b at in (cc, p.1)
  unique_qualident (g.plain a) (g.qualified b w f) at l l' = let p = unique_name a b at in absurd (word_not 1 l p.1 w (omega arith))
  unique_qualident (g.qualified b w f) (g.plain a) at l l' = let p = unique_name b a at in absurd (word_not 1 l' (sym p.1) w (omega arith))
  unique_qualident (g.qualified a w f) (g.qualified b w' f') at l l' = let p = unique_name a b at in let q = unique_word w w' p.1 in let o = unique_name f f' q.1 in (cc, o.1)

  qualident_name : {d : ℕ} {a : Qualident} {ts r : List Token} → IsQualident may d a ts r → (n : Name) × (mid : List Token) × IsName may d n ts mid
  qualident_name (g.plain n) = (_, _, n)
  qualident_name (g.qualified n w f) = (_, _, n)

  at_name : {d : ℕ} {a : Name} {ts r : List Token} (l : ℕ) → l < 6 → IsName may d a ts r → Loose l ts
  at_name l h (g.ident is fits) = subst (λ z. l < joins z) (sym is) h

  unique_more_names : {d : ℕ} {a b : List Name} {ts ts' r r' : List Token} → IsMoreNames may d a ts r → IsMoreNames may d b ts' r' → ts ≡ ts' → Loose 4 r → Loose 4 r' → Same a b r r'
  unique_more_names g.no_more_names g.no_more_names at l l' = (refl, at)
  unique_more_names g.no_more_names (g.another_name w n more) at l l' = absurd (word_not 4 l at w (omega arith))
  unique_more_names (g.another_name w n more) g.no_more_names at l l' = absurd (word_not 4 l' (sym at) w (omega arith))
  unique_more_names (g.another_name w n more) (g.another_name w' n' more') at l l' =
      let o = unique_word w w' at in let p = unique_name n n' o.1 in let q = unique_more_names more more' p.1 l l' in (cc, q.1)

  unique_names : {d : ℕ} {a b : List Name} {ts ts' r r' : List Token} → IsNames may d a ts r → IsNames may d b ts' r' → ts ≡ ts' → Loose 4 r → Loose 4 r' → Same a b r r'
  unique_names (g.names n more) (g.names n' more') at l l' = let p = unique_name n n' at in let q = unique_more_names more more' p.1 l l' in (cc, q.1)

  mark_not : {t : Token} {us ts : List Token} {a : Export} → Loose 1 us → us ≡ t ∷ ts → export_of t.kind ≡ Some a → ⊥
  mark_not {t} {a = a} loose at is = let h : 1 < joins t.kind = subst (λ z. Loose 1 z) at loose in let n = mark_joins t.kind a is in omega arith

  unique_def : {d : ℕ} {a b : Def} {ts ts' r r' : List Token} → IsDef may d a ts r → IsDef may d b ts' r' → ts ≡ ts' → Loose 1 r → Loose 1 r' → Same a b r r'
  unique_def (declared.hidden n) (declared.hidden n') at l l' = let p = unique_name n n' at in (cc, p.1)
  unique_def (declared.hidden n) (declared.marked n' is fits) at l l' = let p = unique_name n n' at in absurd (mark_not l p.1 is)
  unique_def (declared.marked n' is fits) (declared.hidden n) at l l' = let p = unique_name n' n at in absurd (mark_not l' (sym p.1) is)
  unique_def (declared.marked {export = x} {t = t} n is fits) (declared.marked {export = y} {t = u} n' is' fits') at l l' =
      let p = unique_name n n' at in let a : t ≡ u = cc in let b : export_of t.kind ≡ export_of u.kind = ap (λ z. export_of z.kind) a in let same : x ≡ y = cc in (cc, cc)

  def_name : {d : ℕ} {a : Def} {ts r : List Token} → IsDef may d a ts r → (n : Name) × (mid : List Token) × IsName may d n ts mid
  def_name (declared.hidden n) = (_, _, n)
  def_name (declared.marked n is fits) = (_, _, n)

  defs_name : {d : ℕ} {a : List Def} {ts r : List Token} → IsDefs may d a ts r → (n : Name) × (mid : List Token) × IsName may d n ts mid
  defs_name (declared.defs a more) = def_name a

  front_defs : {d : ℕ} {a : List Def} {ts r : List Token} → IsMoreDefs may d a ts r → Loose 4 r → Loose 1 ts
  front_defs {ts = ts} more l = less 3 1 ts (omega arith) (after_going 4 (omega arith) (walk.read_more_defs may more) l)

  unique_more_defs : {d : ℕ} {a b : List Def} {ts ts' r r' : List Token} → IsMoreDefs may d a ts r → IsMoreDefs may d b ts' r' → ts ≡ ts' → Loose 4 r → Loose 4 r' → Same a b r r'
  unique_more_defs declared.no_more_defs declared.no_more_defs at l l' = (refl, at)
  unique_more_defs declared.no_more_defs (declared.another_def w a more) at l l' = absurd (word_not 4 l at w (omega arith))
  unique_more_defs (declared.another_def w a more) declared.no_more_defs at l l' = absurd (word_not 4 l' (sym at) w (omega arith))
  unique_more_defs (declared.another_def w a more) (declared.another_def w' b more') at l l' =
      let o = unique_word w w' at in let p = unique_def a b o.1 (front_defs more l) (front_defs more' l') in let q = unique_more_defs more more' p.1 l l' in (cc, q.1)

  unique_defs : {d : ℕ} {a b : List Def} {ts ts' r r' : List Token} → IsDefs may d a ts r → IsDefs may d b ts' r' → ts ≡ ts' → Loose 4 r → Loose 4 r' → Same a b r r'
  unique_defs (declared.defs a more) (declared.defs b more') at l l' =
      let p = unique_def a b at (front_defs more l) (front_defs more' l') in let q = unique_more_defs more more' p.1 l l' in (cc, q.1)

  unique_base : {d : ℕ} {a b : Option Qualident} {ts ts' r r' : List Token} → IsBase may d a ts r → IsBase may d b ts' r' → ts ≡ ts' → Loose 3 r → Loose 3 r' → Same a b r r'
  unique_base declared.no_base declared.no_base at l l' = (refl, at)
  unique_base declared.no_base (declared.base w a x) at l l' = absurd (word_not 3 l at w (omega arith))
  unique_base (declared.base w a x) declared.no_base at l l' = absurd (word_not 3 l' (sym at) w (omega arith))
  unique_base (declared.base w a x) (declared.base w' b x') at l l' =
      let o = unique_word w w' at in let p = unique_qualident a b o.1 (at_word 1 x (lit< tt)) (at_word 1 x' (lit< tt)) in let q = unique_word x x' p.1 in (cc, q.1)

  unique_arrays : {d : ℕ} {a b : List Pos} {ts ts' r r' : List Token} → IsArrays may d a ts r → IsArrays may d b ts' r' → ts ≡ ts' → Loose 1 r → Loose 1 r' → Same a b r r'
  unique_arrays declared.no_arrays declared.no_arrays at l l' = (refl, at)
  unique_arrays declared.no_arrays (declared.arrays w x more) at l l' = absurd (word_not 1 l at w (omega arith))
  unique_arrays (declared.arrays w x more) declared.no_arrays at l l' = absurd (word_not 1 l' (sym at) w (omega arith))
  unique_arrays (declared.arrays w x more) (declared.arrays w' x' more') at l l' =
      let o = unique_word w w' at in let p = unique_word x x' o.1 in let q = unique_arrays more more' p.1 l l' in (cc, q.1)

  at_qualident : {d : ℕ} {a : Qualident} {ts r : List Token} → IsQualident may d a ts r → Loose 1 ts
  at_qualident a = let n = qualident_name a in at_name 1 (omega arith) n.2

  names_name : {d : ℕ} {a : List Name} {ts r : List Token} → IsNames may d a ts r → (n : Name) × (mid : List Token) × IsName may d n ts mid
  names_name (g.names n more) = (_, _, n)

  unique_section : {d : ℕ} {a b : Section} {ts ts' r r' : List Token} → IsSection may d a ts r → IsSection may d b ts' r' → ts ≡ ts' → Loose 1 r → Loose 1 r' → Same a b r r'
  unique_section (declared.by_value {a = a} {names = names} all x many of) (declared.by_value {a = b} {names = names'} all' x' many' of') at l l' =
      let o = unique_names all all' at (at_word 4 x (lit< tt)) (at_word 4 x' (lit< tt)) in
      let p = unique_word x x' o.1 in
      let q = unique_arrays many many' p.1 (at_qualident of) (at_qualident of') in
      let v = unique_qualident of of' q.1 l l' in
      let first : a ≡ b = cc in
      (cc, v.1)
  unique_section (declared.by_value all x many of) (declared.by_reference w all' x' many' of') at l l' =
      let n = names_name all in let c : k.Ident ≡ k.KwVar = name_kind n.2 w at in absurd (cc)
  unique_section (declared.by_reference w all x many of) (declared.by_value all' x' many' of') at l l' =
      let n = names_name all' in let c : k.Ident ≡ k.KwVar = name_kind n.2 w (sym at) in absurd (cc)
  unique_section (declared.by_reference w all x many of) (declared.by_reference w' all' x' many' of') at l l' =
      let u = unique_word w w' at in
      let o = unique_names all all' u.1 (at_word 4 x (lit< tt)) (at_word 4 x' (lit< tt)) in
      let p = unique_word x x' o.1 in
      let q = unique_arrays many many' p.1 (at_qualident of) (at_qualident of') in
      let v = unique_qualident of of' q.1 l l' in (cc, v.1)

  unique_more_sections : {d : ℕ} {a b : List Section} {ts ts' r r' : List Token} → IsMoreSections may d a ts r → IsMoreSections may d b ts' r' → ts ≡ ts' → Same a b r r'
  unique_more_sections (declared.no_more_sections w) (declared.no_more_sections w') at = let o = unique_word w w' at in (refl, o.1)
  unique_more_sections (declared.no_more_sections w) (declared.another_section w' a more) at = let c : k.CloseParen ≡ k.Semicolon = same_kind w w' at in absurd (cc)
  unique_more_sections (declared.another_section w a more) (declared.no_more_sections w') at = let c : k.Semicolon ≡ k.CloseParen = same_kind w w' at in absurd (cc)
  unique_more_sections (declared.another_section w a more) (declared.another_section w' b more') at =
      let o = unique_word w w' at in
      let p = unique_section a b o.1 (begins (walk.read_more_sections may more)) (begins (walk.read_more_sections may more')) in
      let q = unique_more_sections more more' p.1 in (cc, q.1)

  unique_sections : {d : ℕ} {a b : List Section} {ts ts' r r' : List Token} → IsSections may d a ts r → IsSections may d b ts' r' → ts ≡ ts' → Same a b r r'
  unique_sections (declared.no_sections w) (declared.no_sections w') at = let o = unique_word w w' at in (refl, o.1)
  unique_sections (declared.no_sections w) (declared.sections a more) at = absurd (word_not 5 (begins (walk.read_section may a)) (sym at) w (omega arith))
  unique_sections (declared.sections a more) (declared.no_sections w) at = absurd (word_not 5 (begins (walk.read_section may a)) at w (omega arith))
  unique_sections (declared.sections a more) (declared.sections b more') at =
      let p = unique_section a b at (begins (walk.read_more_sections may more)) (begins (walk.read_more_sections may more')) in
      let q = unique_more_sections more more' p.1 in (cc, q.1)

  unique_heading : {d : ℕ} {a b : Formals} {ts ts' r r' : List Token} → IsFormals may d a ts r → IsFormals may d b ts' r' → ts ≡ ts' → Loose 5 r → Loose 5 r' → Same a b r r'
  unique_heading (declared.procedure w all) (declared.procedure w' all') at l l' = let o = unique_word w w' at in let p = unique_sections all all' o.1 in (cc, p.1)
  unique_heading (declared.procedure w all) (declared.function w' all' x of) at l l' =
      let o = unique_word w w' at in let p = unique_sections all all' o.1 in absurd (word_not 5 l p.1 x (omega arith))
  unique_heading (declared.function w all x of) (declared.procedure w' all') at l l' =
      let o = unique_word w w' at in let p = unique_sections all all' o.1 in absurd (word_not 5 l' (sym p.1) x (omega arith))
  unique_heading {r = r} {r' = r'} (declared.function w all x of) (declared.function w' all' x' of') at l l' =
      let o = unique_word w w' at in let p = unique_sections all all' o.1 in let q = unique_word x x' p.1 in
      let v = unique_qualident of of' q.1 (less 5 1 r (omega arith) l) (less 5 1 r' (omega arith) l') in (cc, v.1)

  heading_not : {d : ℕ} {a : Formals} {us ts r : List Token} → Loose 5 us → us ≡ ts → IsFormals may d a ts r → ⊥
  heading_not l at (declared.procedure w all) = word_not 5 l at w (omega arith)
  heading_not l at (declared.function w all x of) = word_not 5 l at w (omega arith)

  unique_formals : {d : ℕ} {a b : Option Formals} {ts ts' r r' : List Token} → IsFormalsOption may d a ts r → IsFormalsOption may d b ts' r' → ts ≡ ts' → Loose 5 r → Loose 5 r' → Same a b r r'
  unique_formals declared.no_formals declared.no_formals at l l' = (refl, at)
  unique_formals declared.no_formals (declared.formals a) at l l' = absurd (heading_not l at a)
  unique_formals (declared.formals a) declared.no_formals at l l' = absurd (heading_not l' (sym at) a)
  unique_formals (declared.formals a) (declared.formals b) at l l' = let o = unique_heading a b at l l' in (cc, o.1)

  unique_flag : {d : ℕ} {a b : Option Name} {ts ts' r r' : List Token} → IsFlag may d a ts r → IsFlag may d b ts' r' → ts ≡ ts' → Loose 2 r → Loose 2 r' → Same a b r r'
  unique_flag declared.no_flag declared.no_flag at l l' = (refl, at)
  unique_flag declared.no_flag (declared.flag w n x) at l l' = absurd (word_not 2 l at w (omega arith))
  unique_flag (declared.flag w n x) declared.no_flag at l l' = absurd (word_not 2 l' (sym at) w (omega arith))
  unique_flag (declared.flag w n x) (declared.flag w' n' x') at l l' =
      let o = unique_word w w' at in let p = unique_name n n' o.1 in let q = unique_word x x' p.1 in (cc, q.1)

  unique_end_name : {d : ℕ} {a b : Option Name} {ts ts' r r' : List Token} → IsEndName may d a ts r → IsEndName may d b ts' r' → ts ≡ ts' → Loose 6 r → Loose 6 r' → Same a b r r'
  unique_end_name declared.no_end_name declared.no_end_name at l l' = (refl, at)
  unique_end_name declared.no_end_name (declared.end_name n) at l l' = absurd (name_not 6 l at n (omega arith))
  unique_end_name (declared.end_name n) declared.no_end_name at l l' = absurd (name_not 6 l' (sym at) n (omega arith))
  unique_end_name (declared.end_name n) (declared.end_name n') at l l' = let o = unique_name n n' at in (cc, o.1)

  block_word : {d : ℕ} {a : Block} {ts r : List Token} → IsBlock may d a ts r → (p : Pos) × (mid : List Token) × IsWord may d k.KwBegin p ts mid
  block_word (blocks.unmodified w body end) = (_, _, w)
  block_word (blocks.modified w start all body end) = (_, _, w)

  unique_body : {d : ℕ} {a b : Option Block} {ts ts' r r' : List Token} → IsBody may d a ts r → IsBody may d b ts' r' → ts ≡ ts' → Same a b r r'
  unique_body (declared.no_block w) (declared.no_block w') at = let o = unique_word w w' at in (refl, o.1)
  unique_body (declared.no_block w) (declared.block b) at = let x = block_word b in let c : k.KwEnd ≡ k.KwBegin = same_kind w x.2 at in absurd (cc)
  unique_body (declared.block b) (declared.no_block w) at = let x = block_word b in let c : k.KwEnd ≡ k.KwBegin = same_kind w x.2 (sym at) in absurd (cc)
  unique_body (declared.block a) (declared.block b) at = let o = stat.unique_block may a b at in (cc, o.1)

  unique_expr : {d : ℕ} {a b : Expr} {ts ts' r r' : List Token} → IsExpr may d a ts r → IsExpr may d b ts' r' → ts ≡ ts' → Loose 3 r → Loose 3 r' → Same a b r r'
  unique_expr {r = r} {r' = r'} a b at l l' = unique.unique_expr may a b at (past r l) (past r' l')

  at_of : {d : ℕ} {p : Pos} {ts r : List Token} → IsWord may d k.KwOf p ts r → unique.Loose 6 ts
  at_of (g.word is fits) = below.joins_at 6 is (lit< tt)

  not_of : {d d' : ℕ} {all : List Expr} {p : Pos} {ts ts' r r' : List Token} → IsExprs may d all ts r → IsWord may d' k.KwOf p ts' r' → ts ≡ ts' → ⊥
  not_of (expression.exprs {mid = mid} a more) (g.word {t = t} is fits) at =
      let r = below.read_expr may a in
      let h : e.starts_expr t.kind ≡ true = subst (λ z. Starts e.starts_expr z) (sym r.0.whole ∙ at) (starts_on e.starts_expr r.0.front mid r.1) in
      let c : e.starts_expr t.kind ≡ false = ap e.starts_expr is in absurd (cc)

  unique_const_defs : {d : ℕ} {a b : List ConstDef} {ts ts' r r' : List Token} → IsConstDefs may d a ts r → IsConstDefs may d b ts' r' → ts ≡ ts' → Loose 6 r → Loose 6 r' → Same a b r r'
  unique_const_defs declared.no_const_defs declared.no_const_defs at l l' = (refl, at)
  unique_const_defs declared.no_const_defs (declared.const_def def x a y more) at l l' = let n = def_name def in absurd (name_not 6 l at n.2 (omega arith))
  unique_const_defs (declared.const_def def x a y more) declared.no_const_defs at l l' = let n = def_name def in absurd (name_not 6 l' (sym at) n.2 (omega arith))
  unique_const_defs (declared.const_def def x a y more) (declared.const_def def' x' b y' more') at l l' =
      let o = unique_def def def' at (at_word 1 x (lit< tt)) (at_word 1 x' (lit< tt)) in
      let p = unique_word x x' o.1 in
      let q = unique_expr a b p.1 (at_word 3 y (lit< tt)) (at_word 3 y' (lit< tt)) in
      let v = unique_word y y' q.1 in
      let u = unique_const_defs more more' v.1 l l' in (cc, u.1)

  proc_word : {d : ℕ} {a : Proc} {ts r : List Token} → IsProc may d a ts r → (p : Pos) × (mid : List Token) × IsWord may d k.KwProcedure p ts mid
  proc_word (declared.proper w def heading y decls body end) = (_, _, w)
  proc_word (declared.initializer w x def heading y decls body end) = (_, _, w)

  decl_not : {local : Bool} {d : ℕ} {a : Decl} {us ts r : List Token} → Loose 7 us → us ≡ ts → IsDecl may local d a ts r → ⊥
  decl_not l at (declared.consts w all) = word_not 7 l at w (omega arith)
  decl_not l at (declared.types w all) = word_not 7 l at w (omega arith)
  decl_not l at (declared.vars w all) = word_not 7 l at w (omega arith)
  decl_not l at (declared.proc a w) = let x = proc_word a in word_not 7 l at x.2 (omega arith)

  var_def_name : {d : ℕ} {a : VarDef} {ts r : List Token} → IsVarDef may d a ts r → (n : Name) × (mid : List Token) × IsName may d n ts mid
  var_def_name (declared.var_def all x of) = defs_name all

  -- what follows the name of a procedure
  front_formals : {d : ℕ} {a : Option Formals} {p : Pos} {ts mid r : List Token} → IsFormalsOption may d a ts mid → IsWord may d k.Semicolon p mid r → Loose 1 ts
  front_formals {ts = ts} heading y = less 2 1 ts (omega arith) (after_going 6 (omega arith) (walk.read_formals may heading) (at_word 6 y (lit< tt)))

  front_fields : {d : ℕ} {a : List Fields} {p : Pos} {ts mid r : List Token} → IsMoreFields may d a ts mid → IsWord may d k.KwEnd p mid r → Loose 6 ts
  front_fields more y = after_going 7 (omega arith) (walk.read_more_fields may more) (at_word 7 y (lit< tt))

  mutual
    unique_decls : {local : Bool} {d : ℕ} {a b : List Decl} {ts ts' r r' : List Token} → IsDecls may local d a ts r → IsDecls may local d b ts' r' → ts ≡ ts' → Loose 7 r → Loose 7 r' → Same a b r r'
    unique_decls declared.no_decls declared.no_decls at l l' = (refl, at)
    unique_decls declared.no_decls (declared.decl a more) at l l' = absurd (decl_not l at a)
    unique_decls (declared.decl a more) declared.no_decls at l l' = absurd (decl_not l' (sym at) a)
    unique_decls (declared.decl a more) (declared.decl b more') at l l' =
        let o = unique_decl a b at (after_going 7 (omega arith) (walk.read_decls may more) l) (after_going 7 (omega arith) (walk.read_decls may more') l') in
        let q = unique_decls more more' o.1 l l' in (cc, q.1)

    unique_decl : {local : Bool} {d : ℕ} {a b : Decl} {ts ts' r r' : List Token} → IsDecl may local d a ts r → IsDecl may local d b ts' r' → ts ≡ ts' → Loose 6 r → Loose 6 r' → Same a b r r'
    unique_decl (declared.consts w all) (declared.consts w' all') at l l' = let o = unique_word w w' at in let p = unique_const_defs all all' o.1 l l' in (cc, p.1)
    unique_decl (declared.consts w all) (declared.types w' all') at l l' = let c : k.KwConst ≡ k.KwType = same_kind w w' at in absurd (cc)
    unique_decl (declared.consts w all) (declared.vars w' all') at l l' = let c : k.KwConst ≡ k.KwVar = same_kind w w' at in absurd (cc)
    unique_decl (declared.consts w all) (declared.proc b z') at l l' = let x = proc_word b in let c : k.KwConst ≡ k.KwProcedure = same_kind w x.2 at in absurd (cc)
    unique_decl (declared.types w all) (declared.consts w' all') at l l' = let c : k.KwType ≡ k.KwConst = same_kind w w' at in absurd (cc)
    unique_decl (declared.types w all) (declared.types w' all') at l l' = let o = unique_word w w' at in let p = unique_type_defs all all' o.1 l l' in (cc, p.1)
    unique_decl (declared.types w all) (declared.vars w' all') at l l' = let c : k.KwType ≡ k.KwVar = same_kind w w' at in absurd (cc)
    unique_decl (declared.types w all) (declared.proc b z') at l l' = let x = proc_word b in let c : k.KwType ≡ k.KwProcedure = same_kind w x.2 at in absurd (cc)
    unique_decl (declared.vars w all) (declared.consts w' all') at l l' = let c : k.KwVar ≡ k.KwConst = same_kind w w' at in absurd (cc)
    unique_decl (declared.vars w all) (declared.types w' all') at l l' = let c : k.KwVar ≡ k.KwType = same_kind w w' at in absurd (cc)
    unique_decl (declared.vars w all) (declared.vars w' all') at l l' = let o = unique_word w w' at in let p = unique_var_defs all all' o.1 l l' in (cc, p.1)
    unique_decl (declared.vars w all) (declared.proc b z') at l l' = let x = proc_word b in let c : k.KwVar ≡ k.KwProcedure = same_kind w x.2 at in absurd (cc)
    unique_decl (declared.proc a z) (declared.consts w' all') at l l' = let x = proc_word a in let c : k.KwProcedure ≡ k.KwConst = same_kind x.2 w' at in absurd (cc)
    unique_decl (declared.proc a z) (declared.types w' all') at l l' = let x = proc_word a in let c : k.KwProcedure ≡ k.KwType = same_kind x.2 w' at in absurd (cc)
    unique_decl (declared.proc a z) (declared.vars w' all') at l l' = let x = proc_word a in let c : k.KwProcedure ≡ k.KwVar = same_kind x.2 w' at in absurd (cc)
    unique_decl (declared.proc a z) (declared.proc b z') at l l' = let o = unique_proc a b at in let p = unique_word z z' o.1 in (cc, p.1)

    unique_proc : {d : ℕ} {a b : Proc} {ts ts' r r' : List Token} → IsProc may d a ts r → IsProc may d b ts' r' → ts ≡ ts' → Same a b r r'
    unique_proc (declared.proper w def heading y decls body end) (declared.proper w' def' heading' y' decls' body' end') at =
        let o = unique_word w w' at in
        let f = unique_def def def' o.1 (front_formals heading y) (front_formals heading' y') in
        let h = unique_formals heading heading' f.1 (at_word 5 y (lit< tt)) (at_word 5 y' (lit< tt)) in
        let p = unique_word y y' h.1 in
        let q = unique_decls decls decls' p.1 (begins (walk.read_body may body)) (begins (walk.read_body may body')) in
        let v = unique_body body body' q.1 in
        let n = unique_name end end' v.1 in (cc, n.1)
    unique_proc (declared.proper w def heading y decls body end) (declared.initializer w' x def' heading' y' decls' body' end') at =
        let o = unique_word w w' at in let n = def_name def in let c : k.Ident ≡ k.Ampersand = name_kind n.2 x o.1 in absurd (cc)
    unique_proc (declared.initializer w x def heading y decls body end) (declared.proper w' def' heading' y' decls' body' end') at =
        let o = unique_word w w' at in let n = def_name def' in let c : k.Ident ≡ k.Ampersand = name_kind n.2 x (sym o.1) in absurd (cc)
    unique_proc (declared.initializer w x def heading y decls body end) (declared.initializer w' x' def' heading' y' decls' body' end') at =
        let o = unique_word w w' at in
        let u = unique_word x x' o.1 in
        let f = unique_def def def' u.1 (front_formals heading y) (front_formals heading' y') in
        let h = unique_formals heading heading' f.1 (at_word 5 y (lit< tt)) (at_word 5 y' (lit< tt)) in
        let p = unique_word y y' h.1 in
        let q = unique_decls decls decls' p.1 (begins (walk.read_body may body)) (begins (walk.read_body may body')) in
        let v = unique_body body body' q.1 in
        let n = unique_name end end' v.1 in (cc, n.1)

    unique_type_defs : {d : ℕ} {a b : List TypeDef} {ts ts' r r' : List Token} → IsTypeDefs may d a ts r → IsTypeDefs may d b ts' r' → ts ≡ ts' → Loose 6 r → Loose 6 r' → Same a b r r'
    unique_type_defs declared.no_type_defs declared.no_type_defs at l l' = (refl, at)
    unique_type_defs declared.no_type_defs (declared.type_def def x a y more) at l l' = let n = def_name def in absurd (name_not 6 l at n.2 (omega arith))
    unique_type_defs (declared.type_def def x a y more) declared.no_type_defs at l l' = let n = def_name def in absurd (name_not 6 l' (sym at) n.2 (omega arith))
    unique_type_defs (declared.type_def def x a y more) (declared.type_def def' x' b y' more') at l l' =
        let o = unique_def def def' at (at_word 1 x (lit< tt)) (at_word 1 x' (lit< tt)) in
        let p = unique_word x x' o.1 in
        let q = unique_type a b p.1 (at_word 6 y (lit< tt)) (at_word 6 y' (lit< tt)) in
        let v = unique_word y y' q.1 in
        let u = unique_type_defs more more' v.1 l l' in (cc, u.1)

    unique_var_defs : {d : ℕ} {a b : List VarDef} {ts ts' r r' : List Token} → IsVarDefs may d a ts r → IsVarDefs may d b ts' r' → ts ≡ ts' → Loose 6 r → Loose 6 r' → Same a b r r'
    unique_var_defs declared.no_var_defs declared.no_var_defs at l l' = (refl, at)
    unique_var_defs declared.no_var_defs (declared.var_defs a y more) at l l' = let n = var_def_name a in absurd (name_not 6 l at n.2 (omega arith))
    unique_var_defs (declared.var_defs a y more) declared.no_var_defs at l l' = let n = var_def_name a in absurd (name_not 6 l' (sym at) n.2 (omega arith))
    unique_var_defs (declared.var_defs a y more) (declared.var_defs b y' more') at l l' =
        let o = unique_var_def a b at (at_word 6 y (lit< tt)) (at_word 6 y' (lit< tt)) in
        let v = unique_word y y' o.1 in
        let u = unique_var_defs more more' v.1 l l' in (cc, u.1)

    unique_var_def : {d : ℕ} {a b : VarDef} {ts ts' r r' : List Token} → IsVarDef may d a ts r → IsVarDef may d b ts' r' → ts ≡ ts' → Loose 6 r → Loose 6 r' → Same a b r r'
    unique_var_def (declared.var_def all x of) (declared.var_def all' x' of') at l l' =
        let o = unique_defs all all' at (at_word 4 x (lit< tt)) (at_word 4 x' (lit< tt)) in
        let p = unique_word x x' o.1 in
        let q = unique_type of of' p.1 l l' in (cc, q.1)

    unique_type : {d : ℕ} {a b : TypeExpr} {ts ts' r r' : List Token} → IsType may d a ts r → IsType may d b ts' r' → ts ≡ ts' → Loose 6 r → Loose 6 r' → Same a b r r'
    unique_type {r = r} {r' = r'} (declared.named a) (declared.named a') at l l' =
        let o = unique_qualident a a' at (less 6 1 r (omega arith) l) (less 6 1 r' (omega arith) l') in (cc, o.1)
    unique_type (declared.named a) (declared.open_array x' y' of') at l l' = let n = qualident_name a in let c : k.Ident ≡ k.KwArray = name_kind n.2 x' at in absurd (cc)
    unique_type (declared.named a) (declared.array x' all' y' of') at l l' = let n = qualident_name a in let c : k.Ident ≡ k.KwArray = name_kind n.2 x' at in absurd (cc)
    unique_type (declared.named a) (declared.fields_of x' from' a' more' y') at l l' = let n = qualident_name a in let c : k.Ident ≡ k.KwRecord = name_kind n.2 x' at in absurd (cc)
    unique_type (declared.named a) (declared.pointer x' y' to') at l l' = let n = qualident_name a in let c : k.Ident ≡ k.KwPointer = name_kind n.2 x' at in absurd (cc)
    unique_type (declared.named a) (declared.procedure x' note' heading') at l l' = let n = qualident_name a in let c : k.Ident ≡ k.KwProcedure = name_kind n.2 x' at in absurd (cc)
    unique_type (declared.named a) (declared.object x' from' decls' body' end') at l l' = let n = qualident_name a in let c : k.Ident ≡ k.KwObject = name_kind n.2 x' at in absurd (cc)
    unique_type (declared.open_array x y of) (declared.named a') at l l' = let n = qualident_name a' in let c : k.Ident ≡ k.KwArray = name_kind n.2 x (sym at) in absurd (cc)
    unique_type {r = r} {r' = r'} (declared.open_array x y of) (declared.open_array x' y' of') at l l' =
        let o = unique_word x x' at in let p = unique_word y y' o.1 in let q = unique_type of of' p.1 l l' in (cc, q.1)
    unique_type (declared.open_array x y of) (declared.array x' all' y' of') at l l' = let o = unique_word x x' at in absurd (not_of all' y (sym o.1))
    unique_type (declared.open_array x y of) (declared.fields_of x' from' a' more' y') at l l' = let c : k.KwArray ≡ k.KwRecord = same_kind x x' at in absurd (cc)
    unique_type (declared.open_array x y of) (declared.pointer x' y' to') at l l' = let c : k.KwArray ≡ k.KwPointer = same_kind x x' at in absurd (cc)
    unique_type (declared.open_array x y of) (declared.procedure x' note' heading') at l l' = let c : k.KwArray ≡ k.KwProcedure = same_kind x x' at in absurd (cc)
    unique_type (declared.open_array x y of) (declared.object x' from' decls' body' end') at l l' = let c : k.KwArray ≡ k.KwObject = same_kind x x' at in absurd (cc)
    unique_type (declared.array x all y of) (declared.named a') at l l' = let n = qualident_name a' in let c : k.Ident ≡ k.KwArray = name_kind n.2 x (sym at) in absurd (cc)
    unique_type (declared.array x all y of) (declared.open_array x' y' of') at l l' = let o = unique_word x x' at in absurd (not_of all y' o.1)
    unique_type {r = r} {r' = r'} (declared.array x all y of) (declared.array x' all' y' of') at l l' =
        let o = unique_word x x' at in let v = unique.unique_exprs may all all' o.1 (at_of y) (at_of y') in let p = unique_word y y' v.1 in let q = unique_type of of' p.1 l l' in (cc, q.1)
    unique_type (declared.array x all y of) (declared.fields_of x' from' a' more' y') at l l' = let c : k.KwArray ≡ k.KwRecord = same_kind x x' at in absurd (cc)
    unique_type (declared.array x all y of) (declared.pointer x' y' to') at l l' = let c : k.KwArray ≡ k.KwPointer = same_kind x x' at in absurd (cc)
    unique_type (declared.array x all y of) (declared.procedure x' note' heading') at l l' = let c : k.KwArray ≡ k.KwProcedure = same_kind x x' at in absurd (cc)
    unique_type (declared.array x all y of) (declared.object x' from' decls' body' end') at l l' = let c : k.KwArray ≡ k.KwObject = same_kind x x' at in absurd (cc)
    unique_type (declared.fields_of x from a more y) (declared.named a') at l l' = let n = qualident_name a' in let c : k.Ident ≡ k.KwRecord = name_kind n.2 x (sym at) in absurd (cc)
    unique_type (declared.fields_of x from a more y) (declared.open_array x' y' of') at l l' = let c : k.KwRecord ≡ k.KwArray = same_kind x x' at in absurd (cc)
    unique_type (declared.fields_of x from a more y) (declared.array x' all' y' of') at l l' = let c : k.KwRecord ≡ k.KwArray = same_kind x x' at in absurd (cc)
    unique_type {r = r} {r' = r'} (declared.fields_of x from a more y) (declared.fields_of x' from' a' more' y') at l l' =
        let o = unique_word x x' at in
        let f = after_going 6 (omega arith) (walk.read_fields may a) (front_fields more y) in
        let f' = after_going 6 (omega arith) (walk.read_fields may a') (front_fields more' y') in
        let b = unique_base from from' o.1 (less 5 3 _ (omega arith) f) (less 5 3 _ (omega arith) f') in
        let p = unique_fields a a' b.1 (front_fields more y) (front_fields more' y') in
        let q = unique_more_fields more more' p.1 (at_word 7 y (lit< tt)) (at_word 7 y' (lit< tt)) in
        let v = unique_word y y' q.1 in (cc, v.1)
    unique_type (declared.fields_of x from a more y) (declared.pointer x' y' to') at l l' = let c : k.KwRecord ≡ k.KwPointer = same_kind x x' at in absurd (cc)
    unique_type (declared.fields_of x from a more y) (declared.procedure x' note' heading') at l l' = let c : k.KwRecord ≡ k.KwProcedure = same_kind x x' at in absurd (cc)
    unique_type (declared.fields_of x from a more y) (declared.object x' from' decls' body' end') at l l' = let c : k.KwRecord ≡ k.KwObject = same_kind x x' at in absurd (cc)
    unique_type (declared.pointer x y to) (declared.named a') at l l' = let n = qualident_name a' in let c : k.Ident ≡ k.KwPointer = name_kind n.2 x (sym at) in absurd (cc)
    unique_type (declared.pointer x y to) (declared.open_array x' y' of') at l l' = let c : k.KwPointer ≡ k.KwArray = same_kind x x' at in absurd (cc)
    unique_type (declared.pointer x y to) (declared.array x' all' y' of') at l l' = let c : k.KwPointer ≡ k.KwArray = same_kind x x' at in absurd (cc)
    unique_type (declared.pointer x y to) (declared.fields_of x' from' a' more' y') at l l' = let c : k.KwPointer ≡ k.KwRecord = same_kind x x' at in absurd (cc)
    unique_type {r = r} {r' = r'} (declared.pointer x y to) (declared.pointer x' y' to') at l l' =
        let o = unique_word x x' at in let p = unique_word y y' o.1 in let q = unique_type to to' p.1 l l' in (cc, q.1)
    unique_type (declared.pointer x y to) (declared.procedure x' note' heading') at l l' = let c : k.KwPointer ≡ k.KwProcedure = same_kind x x' at in absurd (cc)
    unique_type (declared.pointer x y to) (declared.object x' from' decls' body' end') at l l' = let c : k.KwPointer ≡ k.KwObject = same_kind x x' at in absurd (cc)
    unique_type (declared.procedure x note heading) (declared.named a') at l l' = let n = qualident_name a' in let c : k.Ident ≡ k.KwProcedure = name_kind n.2 x (sym at) in absurd (cc)
    unique_type (declared.procedure x note heading) (declared.open_array x' y' of') at l l' = let c : k.KwProcedure ≡ k.KwArray = same_kind x x' at in absurd (cc)
    unique_type (declared.procedure x note heading) (declared.array x' all' y' of') at l l' = let c : k.KwProcedure ≡ k.KwArray = same_kind x x' at in absurd (cc)
    unique_type (declared.procedure x note heading) (declared.fields_of x' from' a' more' y') at l l' = let c : k.KwProcedure ≡ k.KwRecord = same_kind x x' at in absurd (cc)
    unique_type (declared.procedure x note heading) (declared.pointer x' y' to') at l l' = let c : k.KwProcedure ≡ k.KwPointer = same_kind x x' at in absurd (cc)
    unique_type {r = r} {r' = r'} (declared.procedure x note heading) (declared.procedure x' note' heading') at l l' =
        let o = unique_word x x' at in
        let p = unique_flag note note' o.1 (after_going 6 (omega arith) (walk.read_formals may heading) l) (after_going 6 (omega arith) (walk.read_formals may heading') l') in
        let q = unique_formals heading heading' p.1 (less 6 5 r (omega arith) l) (less 6 5 r' (omega arith) l') in (cc, q.1)
    unique_type (declared.procedure x note heading) (declared.object x' from' decls' body' end') at l l' = let c : k.KwProcedure ≡ k.KwObject = same_kind x x' at in absurd (cc)
    unique_type (declared.object x from decls body end) (declared.named a') at l l' = let n = qualident_name a' in let c : k.Ident ≡ k.KwObject = name_kind n.2 x (sym at) in absurd (cc)
    unique_type (declared.object x from decls body end) (declared.open_array x' y' of') at l l' = let c : k.KwObject ≡ k.KwArray = same_kind x x' at in absurd (cc)
    unique_type (declared.object x from decls body end) (declared.array x' all' y' of') at l l' = let c : k.KwObject ≡ k.KwArray = same_kind x x' at in absurd (cc)
    unique_type (declared.object x from decls body end) (declared.fields_of x' from' a' more' y') at l l' = let c : k.KwObject ≡ k.KwRecord = same_kind x x' at in absurd (cc)
    unique_type (declared.object x from decls body end) (declared.pointer x' y' to') at l l' = let c : k.KwObject ≡ k.KwPointer = same_kind x x' at in absurd (cc)
    unique_type (declared.object x from decls body end) (declared.procedure x' note' heading') at l l' = let c : k.KwObject ≡ k.KwProcedure = same_kind x x' at in absurd (cc)
    unique_type {r = r} {r' = r'} (declared.object x from decls body end) (declared.object x' from' decls' body' end') at l l' =
        let o = unique_word x x' at in
        let f = after_going 7 (omega arith) (walk.read_decls may decls) (begins (walk.read_body may body)) in
        let f' = after_going 7 (omega arith) (walk.read_decls may decls') (begins (walk.read_body may body')) in
        let b = unique_base from from' o.1 (less 6 3 _ (omega arith) f) (less 6 3 _ (omega arith) f') in
        let p = unique_decls decls decls' b.1 (begins (walk.read_body may body)) (begins (walk.read_body may body')) in
        let q = unique_body body body' p.1 in
        let v = unique_end_name end end' q.1 l l' in (cc, v.1)

    unique_fields : {d : ℕ} {a b : Fields} {ts ts' r r' : List Token} → IsFields may d a ts r → IsFields may d b ts' r' → ts ≡ ts' → Loose 6 r → Loose 6 r' → Same a b r r'
    unique_fields declared.no_fields declared.no_fields at l l' = (refl, at)
    unique_fields declared.no_fields (declared.fields a) at l l' = let n = var_def_name a in absurd (name_not 6 l at n.2 (omega arith))
    unique_fields (declared.fields a) declared.no_fields at l l' = let n = var_def_name a in absurd (name_not 6 l' (sym at) n.2 (omega arith))
    unique_fields (declared.fields a) (declared.fields b) at l l' = let o = unique_var_def a b at l l' in (cc, o.1)

    unique_more_fields : {d : ℕ} {a b : List Fields} {ts ts' r r' : List Token} → IsMoreFields may d a ts r → IsMoreFields may d b ts' r' → ts ≡ ts' → Loose 7 r → Loose 7 r' → Same a b r r'
    unique_more_fields declared.no_more_fields declared.no_more_fields at l l' = (refl, at)
    unique_more_fields declared.no_more_fields (declared.another_fields w a more) at l l' = absurd (word_not 7 l at w (omega arith))
    unique_more_fields (declared.another_fields w a more) declared.no_more_fields at l l' = absurd (word_not 7 l' (sym at) w (omega arith))
    unique_more_fields (declared.another_fields w a more) (declared.another_fields w' b more') at l l' =
        let o = unique_word w w' at in
        let p = unique_fields a b o.1 (after_going 7 (omega arith) (walk.read_more_fields may more) l) (after_going 7 (omega arith) (walk.read_more_fields may more') l') in
        let q = unique_more_fields more more' p.1 l l' in (cc, q.1)

  unique_import : {d : ℕ} {a b : Import} {ts ts' r r' : List Token} → IsImport may d a ts r → IsImport may d b ts' r' → ts ≡ ts' → Loose 1 r → Loose 1 r' → Same a b r r'
  unique_import (imported.same_name n) (imported.same_name n') at l l' = let o = unique_name n n' at in (cc, o.1)
  unique_import (imported.same_name n) (imported.other_name n' w b) at l l' = let o = unique_name n n' at in absurd (word_not 1 l o.1 w (omega arith))
  unique_import (imported.other_name n w b) (imported.same_name n') at l l' = let o = unique_name n n' at in absurd (word_not 1 l' (sym o.1) w (omega arith))
  unique_import (imported.other_name n w b) (imported.other_name n' w' b') at l l' = let o = unique_name n n' at in let p = unique_word w w' o.1 in let q = unique_name b b' p.1 in (cc, q.1)

  at_imports : {d : ℕ} {a : List Import} {ts r : List Token} → IsMoreImports may d a ts r → Loose 1 ts
  at_imports {ts = ts} more = less 3 1 ts (omega arith) (begins (walk.read_more_imports may more))

  unique_more_imports : {d : ℕ} {a b : List Import} {ts ts' r r' : List Token} → IsMoreImports may d a ts r → IsMoreImports may d b ts' r' → ts ≡ ts' → Same a b r r'
  unique_more_imports (imported.no_more_imports w) (imported.no_more_imports w') at = let o = unique_word w w' at in (refl, o.1)
  unique_more_imports (imported.no_more_imports w) (imported.another_import w' a more) at = let c : k.Semicolon ≡ k.Comma = same_kind w w' at in absurd (cc)
  unique_more_imports (imported.another_import w a more) (imported.no_more_imports w') at = let c : k.Comma ≡ k.Semicolon = same_kind w w' at in absurd (cc)
  unique_more_imports (imported.another_import w a more) (imported.another_import w' b more') at =
      let o = unique_word w w' at in let p = unique_import a b o.1 (at_imports more) (at_imports more') in let q = unique_more_imports more more' p.1 in (cc, q.1)

  unique_imports : {d : ℕ} {a b : List Import} {ts ts' r r' : List Token} → IsImports may d a ts r → IsImports may d b ts' r' → ts ≡ ts' → Same a b r r'
  unique_imports (imported.imports a more) (imported.imports b more') at =
      let p = unique_import a b at (at_imports more) (at_imports more') in let q = unique_more_imports more more' p.1 in (cc, q.1)

  unique_import_list : {d : ℕ} {a b : List Import} {ts ts' r r' : List Token} → IsImportList may d a ts r → IsImportList may d b ts' r' → ts ≡ ts' → Loose 1 r → Loose 1 r' → Same a b r r'
  unique_import_list imported.no_imports imported.no_imports at l l' = (refl, at)
  unique_import_list imported.no_imports (imported.import_list w all) at l l' = absurd (word_not 1 l at w (omega arith))
  unique_import_list (imported.import_list w all) imported.no_imports at l l' = absurd (word_not 1 l' (sym at) w (omega arith))
  unique_import_list (imported.import_list w all) (imported.import_list w' all') at l l' = let o = unique_word w w' at in let q = unique_imports all all' o.1 in (cc, q.1)

  front_decls : {local : Bool} {d : ℕ} {a : List Decl} {b : Option Block} {ts mid r : List Token} → IsDecls may local d a ts mid → IsBody may d b mid r → Loose 1 ts
  front_decls {ts = ts} decls body = less 6 1 ts (omega arith) (after_going 7 (omega arith) (walk.read_decls may decls) (begins (walk.read_body may body)))

  pub unique_module : {d : ℕ} {a b : Module} {ts ts' r r' : List Token} → IsModule may d a ts r → IsModule may d b ts' r' → ts ≡ ts' → Same a b r r'
  unique_module (imported.whole x n y all decls body end z) (imported.whole x' n' y' all' decls' body' end' z') at =
      let o = unique_word x x' at in
      let f = unique_name n n' o.1 in
      let p = unique_word y y' f.1 in
      let q = unique_import_list all all' p.1 (front_decls decls body) (front_decls decls' body') in
      let v = unique_decls decls decls' q.1 (begins (walk.read_body may body)) (begins (walk.read_body may body')) in
      let u = unique_body body body' v.1 in
      let h = unique_name end end' u.1 in
      let last = unique_word z z' h.1 in (cc, last.1)

pub unique_reads : (a b : Module) (ts : List Token) → Reads a ts → Reads b ts → a ≡ b
unique_reads a b ts h h' = (unique_module shallow h.reads h'.reads refl).0
