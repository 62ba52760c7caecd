-- What can come in each symbol's place, and how nestings fall.
use Rattle.std.proofs.Common.{◌≡◌, ℕ, zero, suc, ◌+◌, ◌≤◌, ◌++◌, List, [], ◌∷◌, Bool, true, false, Option, Some, None, refl, sym, ◌∙◌, subst, arith}
use Rattle.std.specs.Prelude.{⊤, IfSome, if◌then◌else◌, unwrap_or}
use Rattle.aos_scan.specs.declared.token.Token.{Token}
use Rattle.aos_scan.specs.declared.token.TokenKind.{TokenKind}
use Rattle.aos_scan.specs.declared.token.TokenKind.TheVariants as k
use Rattle.aos_tree.specs.declared.expr.Expr.{Expr}
use Rattle.aos_tree.specs.declared.decl.Export.{Export}
use Rattle.aos_tree.specs.Nesting.{Rule}
use Rattle.aos_tree.specs.Operators.{export_of}
use Rattle.aos_tree.specs.Words as g
use Rattle.aos_tree.specs.ExprGrammar.{IsExpr}
use Rattle.aos_tree.specs.DeclGrammar as declared
use Rattle.aos_tree.specs.ModuleGrammar as imported
use Rattle.aos_parse_expr.specs.Symbols as e
use Rattle.aos_parse_expr.proofs.ExprYields as ey
use Rattle.aos_parse_expr.proofs.Falling as falling
use Rattle.aos_parse_expr.proofs.Yields as y
use Rattle.aos_parse_expr.proofs.Yields.{Free}
use Rattle.aos_parse_stat.specs.Symbols as s
use Rattle.aos_parse_mod.specs.Symbols as m
use Rattle.aos_parse_mod.specs.Symbols.{Sym, Stack, Move, onward, below, by_word, by_operator}
use Rattle.aos_parse_mod.proofs.Embedding.{with_exprs, with_stats, lift_is}
use Rattle.aos_parse_mod.proofs.Joins.{word_is}
use Rattle.aos_parse_stat.proofs.Embedding as lift
use Rattle.aos_parse_stat.proofs.StatYields as sy
use Rattle.aos_parse_mod.proofs.ModYields.{Yields}

abbrev token : TokenKind → Token
token c = record { kind = c; start = 0; end = 0; pos = record { line = 0; col = 0 }; value = Rattle.std.specs.Prelude.pos 0 }

expr_of : {may : Rule} {d : ℕ} {ts rest : List Token} → ey.Yields may (e.expr d) ts rest → (a : Expr) × IsExpr may d a ts rest
expr_of (ey.an_expr a) = (_, a)

abbrev at_depth : Rule → List Token → ℕ → ℕ → Type 0
at_depth may rest n d = may n rest ≡ true → may d rest ≡ true

-- a word in the place of a symbol of its nesting
sample_word : (x : Sym) (d n : ℕ) (c : TokenKind) → m.needs x ≡ Some d → m.needs x ≡ Some n → ((may : Rule) (rest : List Token) → may d rest ≡ true → Yields may x (token c ∷ rest) rest) → y.Sample m.table Yields x n
sample_word x d n c is need read = (token c, [], λ may rest fits free. read may rest (subst (λ q. may q rest ≡ true) (let a : Some n ≡ Some d = sym need ∙ is in let b : n ≡ d = cc in b) fits))

sample_then_expr : (d n : ℕ) (c : TokenKind) → Some d ≡ Some n → y.Sample m.table Yields (m.then_expr d c) n
sample_then_expr d n c need =
    let b : d ≡ n = cc in
    let x = ey.sample (e.expr d) (d + 1) refl in (
      token c,
      x.0 ∷ x.1,
      λ may rest fits free.
          let a = expr_of (x.2 may rest (free (d + 1) (x.1 ++ rest) (omega arith)) (λ i vs h. free i vs (omega arith))) in
          (_, a.0, _, g.word refl (subst (λ q. may q (x.0 ∷ (x.1 ++ rest)) ≡ true) (sym b) fits), a.1),
    )

sample_then_type : (d n : ℕ) (c : TokenKind) → Some d ≡ Some n → y.Sample m.table Yields (m.then_type d c) n
sample_then_type d n c need =
    let b : d ≡ n = cc in (
      token c,
      token k.Ident ∷ [],
      λ may rest fits free. (_, _, _, g.word refl (subst (λ q. may q (token k.Ident ∷ rest) ≡ true) (sym b) fits), declared.named (g.plain (g.ident refl (free (d + 1) rest (omega arith))))),
    )

-- ident ":" ident
sample_section : (d n : ℕ) → Some d ≡ Some n → y.Sample m.table Yields (m.section d) n
sample_section d n need =
    let b : d ≡ n = cc in (
      token k.Ident,
      token k.Colon ∷ token k.Ident ∷ [],
      λ may rest fits free. (
        _,
        declared.by_value (g.names (g.ident refl (subst (λ q. may q (token k.Colon ∷ (token k.Ident ∷ rest)) ≡ true) (sym b) fits)) g.no_more_names) (g.word refl (free d (token k.Ident ∷ rest) (omega arith)))
            declared.no_arrays (g.plain (g.ident refl (free d rest (omega arith)))),
      ),
    )

-- MODULE ident ";" END ident "." and the end of the text
sample_text : (d n : ℕ) → Some d ≡ Some n → y.Sample m.table Yields (m.text d) n
sample_text zero n need =
    let b : 0 ≡ n = cc in (
      token k.KwModule,
      token k.Ident ∷ token k.Semicolon ∷ token k.KwEnd ∷ token k.Ident ∷ token k.Period ∷ token k.End ∷ [],
      λ may rest fits free. (
        _,
        record {
          mid = token k.End ∷ rest;
          place = _;
          reads = imported.whole (g.word refl (subst (λ q. may q (token k.Ident ∷ (token k.Semicolon ∷ (token k.KwEnd ∷ (token k.Ident ∷ (token k.Period ∷ (token k.End ∷ rest)))))) ≡ true) (sym b) fits))
              (g.ident refl (free 0 (token k.Semicolon ∷ (token k.KwEnd ∷ (token k.Ident ∷ (token k.Period ∷ (token k.End ∷ rest))))) (omega arith)))
              (g.word refl (free 0 (token k.KwEnd ∷ (token k.Ident ∷ (token k.Period ∷ (token k.End ∷ rest)))) (omega arith))) imported.no_imports declared.no_decls
              (declared.no_block (g.word refl (free 0 (token k.Ident ∷ (token k.Period ∷ (token k.End ∷ rest))) (omega arith)))) (g.ident refl (free 0 (token k.Period ∷ (token k.End ∷ rest)) (omega arith)))
              (g.word refl (free 0 (token k.End ∷ rest) (omega arith)));
          end = g.word refl (free 0 rest (omega arith));
        },
      ),
    )
sample_text (suc d) n need = (token k.KwModule, [], λ may rest fits free. tt)

pub sample : (x : Sym) (n : ℕ) → m.needs x ≡ Some n → y.Sample m.table Yields x n
sample (m.tok d c) n need = sample_word (m.tok d c) d n c refl need (λ may rest fits. (_, g.word refl fits))
sample (m.of_expr x) n need = ey.sample x n need
sample (m.of_stat x) n need = sy.sample x n need
sample (m.then_expr d c) n need = sample_then_expr d n c need
sample (m.then_type d c) n need = sample_then_type d n c need
sample (m.section d) n need = sample_section d n need
sample (m.sections d) n need = sample_word (m.sections d) d n k.CloseParen refl need (λ may rest fits. (_, declared.no_sections (g.word refl fits)))
sample (m.more_sections d) n need = sample_word (m.more_sections d) d n k.CloseParen refl need (λ may rest fits. (_, declared.no_more_sections (g.word refl fits)))
sample (m.body d) n need = sample_word (m.body d) d n k.KwEnd refl need (λ may rest fits. (_, declared.no_block (g.word refl fits)))
sample (m.decl local d) n need = sample_word (m.decl local d) d n k.KwConst refl need (λ may rest fits. (_, declared.consts (g.word refl fits) declared.no_const_defs))
sample (m.type d) n need = sample_word (m.type d) (d + 1) n k.Ident refl need (λ may rest fits. (_, declared.named (g.plain (g.ident refl fits))))
sample (m.more_imports d) n need = sample_word (m.more_imports d) d n k.Semicolon refl need (λ may rest fits. (_, imported.no_more_imports (g.word refl fits)))
sample (m.text d) n need = sample_text d n need
sample _ n need = absurd (cc)

pub only_takes : (c : TokenKind) → m.after (m.tok 0 c) c ≡ Some (0, [])
only_takes c = word_is 0 c []

-- the nesting that is open round a symbol
abbrev pub depth_of : Sym → ℕ
depth_of (m.tok d c) = d
depth_of (m.of_expr x) = ey.depth_of x
depth_of (m.of_stat x) = sy.depth_of x
depth_of (m.option d c) = d
depth_of (m.then_expr d c) = d
depth_of (m.then_type d c) = d
depth_of (m.then_name d c) = d
depth_of (m.mark d) = d
depth_of (m.more_names d) = d
depth_of (m.more_defs d) = d
depth_of (m.base d) = d
depth_of (m.arrays d) = d
depth_of (m.section d) = d
depth_of (m.sections d) = d
depth_of (m.more_sections d) = d
depth_of (m.result d) = d
depth_of (m.formals d) = d
depth_of (m.flag d) = d
depth_of (m.body d) = d
depth_of (m.const_defs d) = d
depth_of (m.type_defs d) = d
depth_of (m.var_defs d) = d
depth_of (m.decl local d) = d
depth_of (m.decls local d) = d
depth_of (m.type d) = d
depth_of (m.lengths d) = d
depth_of (m.fields d) = d
depth_of (m.more_fields d) = d
depth_of (m.more_imports d) = d
depth_of (m.imports d) = d
depth_of (m.text d) = d

abbrev FallsTo : ℕ → Stack → Type 0
FallsTo d xs = falling.FallsTo m.table depth_of d xs

-- a move at n or deeper, whose symbols fall to d
abbrev Falls : ℕ → ℕ → Move → Type 0
Falls n d move = IfSome move (λ p. (n ≤ p.0) × FallsTo d p.1)

falls_word : (d : ℕ) (want c : TokenKind) (xs : Stack) → FallsTo d xs → Falls d d (by_word d want xs c)
falls_word d want c xs h = by_test _
  where
    by_test : (b : Bool) → Falls d d (if b then Some (d, xs) else None)
    by_test true = (omega arith, h)
    by_test false = tt

falls_onward : (n d : ℕ) (move : Move) (xs : Stack) → Falls n d move → FallsTo d xs → falling.first_or m.table depth_of d xs ≤ d → Falls n d (onward move xs)
falls_onward n d None xs f h le = tt
falls_onward n d (Some p) xs f h le = (f.0, falling.falls_on m.table depth_of d d p.1 xs f.1 h le)

falls_mark : (d : ℕ) (o : Option Export) → Falls d d (by_operator o d [])
falls_mark d None = tt
falls_mark d (Some a) = (omega arith, tt)

-- a symbol of expressions
falls_expr : (x : e.Sym) (c : TokenKind) (move : e.Move) → e.after x c ≡ move → Falls (unwrap_or (e.needs x) (ey.depth_of x)) (ey.depth_of x) (below m.of_expr move)
falls_expr x c None is = tt
falls_expr x c (Some p) is =
    (least (e.needs x) refl, subst (λ q. FallsTo (ey.depth_of x) q) (sym (lift_is m.of_expr p.1)) (lift.falls_up e.table m.table m.of_expr with_exprs ey.depth_of depth_of (λ z. refl) (ey.depth_of x) p.1 (ey.falls x c p is)))
  where
    least : (q : Option ℕ) → e.needs x ≡ q → unwrap_or q (ey.depth_of x) ≤ p.0
    least None need = ey.low x c p is
    least (Some n) need = ey.floor x c p n is need

falls_lengths : (d : ℕ) (move : e.Move) → Falls (d + 1) d (below m.of_expr move) → Falls d d (below m.of_expr move)
falls_lengths d None h = tt
falls_lengths d (Some p) h = let a : d + 1 ≤ p.0 = h.0 in (omega arith, h.1)

-- a symbol of statements
falls_stat : (x : s.Sym) (c : TokenKind) (move : Option (ℕ × List s.Sym)) → s.table.after x c ≡ move → Falls (unwrap_or (s.table.needs x) (sy.depth_of x)) (sy.depth_of x) (below m.of_stat move)
falls_stat x c None is = tt
falls_stat x c (Some p) is =
    (least (s.table.needs x) refl, subst (λ q. FallsTo (sy.depth_of x) q) (sym (lift_is m.of_stat p.1)) (lift.falls_up s.table m.table m.of_stat with_stats sy.depth_of depth_of (λ z. refl) (sy.depth_of x) p.1 (sy.falls x c p is)))
  where
    least : (q : Option ℕ) → s.table.needs x ≡ q → unwrap_or q (sy.depth_of x) ≤ p.0
    least None need = sy.low x c p is
    least (Some n) need = sy.floor x c p n is need

falls_section : (d : ℕ) (c : TokenKind) → Falls d d (m.after_section d c)
falls_section d k.KwVar = (omega arith, (omega arith, (omega arith, (omega arith, (omega arith, (omega arith, (omega arith, tt)))))))
falls_section d k.Ident = (omega arith, (omega arith, (omega arith, (omega arith, (omega arith, (omega arith, tt))))))
falls_section d _ = tt

falls_sections : (d : ℕ) (c : TokenKind) → Falls d d (onward (m.after_section d c) (m.more_sections d ∷ [])) → Falls d d (m.after_sections d c)
falls_sections d k.CloseParen h = (omega arith, tt)
falls_sections d _ h = h

falls_more_sections : (d : ℕ) (c : TokenKind) → Falls d d (m.after_more_sections d c)
falls_more_sections d k.CloseParen = (omega arith, tt)
falls_more_sections d k.Semicolon = (omega arith, (omega arith, (omega arith, tt)))
falls_more_sections d _ = tt

falls_body : (d : ℕ) (c : TokenKind) → Falls d d (below m.of_stat (s.table.after (s.block d) c)) → Falls d d (m.after_body d c)
falls_body d k.KwEnd h = (omega arith, tt)
falls_body d _ h = h

falls_proc : (local : Bool) (d : ℕ) → Falls d d (if local then None else Some (d, m.proc_rest d (m.tok d k.Semicolon ∷ [])))
falls_proc true d = tt
falls_proc false d = (omega arith, (omega arith, (omega arith, (omega arith, (omega arith, (omega arith, (omega arith, (omega arith, (omega arith, (omega arith, tt))))))))))

falls_decl : (local : Bool) (d : ℕ) (c : TokenKind) → Falls d d (m.after_decl local d c)
falls_decl local d k.KwConst = (omega arith, (omega arith, tt))
falls_decl local d k.KwType = (omega arith, (omega arith, tt))
falls_decl local d k.KwVar = (omega arith, (omega arith, tt))
falls_decl local d k.KwProcedure = falls_proc local d
falls_decl local d _ = tt

falls_type : (d : ℕ) (c : TokenKind) → Falls (d + 1) d (m.after_type d c)
falls_type d k.Ident = (omega arith, (omega arith, tt))
falls_type d k.KwArray = (omega arith, (omega arith, (omega arith, tt)))
falls_type d k.KwRecord = (omega arith, (omega arith, (omega arith, (omega arith, (omega arith, tt)))))
falls_type d k.KwPointer = (omega arith, (omega arith, tt))
falls_type d k.KwProcedure = (omega arith, (omega arith, (omega arith, tt)))
falls_type d k.KwObject = (omega arith, (omega arith, (omega arith, (omega arith, (omega arith, tt)))))
falls_type d _ = tt

falls_more_imports : (d : ℕ) (c : TokenKind) → Falls d d (m.after_more_imports d c)
falls_more_imports d k.Semicolon = (omega arith, tt)
falls_more_imports d k.Comma = (omega arith, (omega arith, (omega arith, (omega arith, tt))))
falls_more_imports d _ = tt

-- the least nesting of a token in a symbol's place
abbrev least : Sym → ℕ
least x = unwrap_or (m.needs x) (depth_of x)

falls_at : (x : Sym) (c : TokenKind) → Falls (least x) (depth_of x) (m.after x c)
falls_at (m.tok d want) c = falls_word d want c [] tt
falls_at (m.of_expr x) c = falls_expr x c (e.after x c) refl
falls_at (m.of_stat x) c = falls_stat x c (s.table.after x c) refl
falls_at (m.option d want) c = falls_word d want c [] tt
falls_at (m.then_expr d want) c = falls_word d want c (m.of_expr (e.expr d) ∷ []) (omega arith, tt)
falls_at (m.then_type d want) c = falls_word d want c (m.type d ∷ []) (omega arith, tt)
falls_at (m.then_name d want) c = falls_word d want c (m.tok d k.Ident ∷ []) (omega arith, tt)
falls_at (m.mark d) c = falls_mark d (export_of c)
falls_at (m.more_names d) c = falls_word d k.Comma c (m.tok d k.Ident ∷ m.more_names d ∷ []) (omega arith, (omega arith, tt))
falls_at (m.more_defs d) c = falls_word d k.Comma c (m.tok d k.Ident ∷ m.mark d ∷ m.more_defs d ∷ []) (omega arith, (omega arith, (omega arith, tt)))
falls_at (m.base d) c = falls_word d k.OpenParen c (m.tok d k.Ident ∷ m.then_name d k.Period ∷ m.tok d k.CloseParen ∷ []) (omega arith, (omega arith, (omega arith, tt)))
falls_at (m.arrays d) c = falls_word d k.KwArray c (m.tok d k.KwOf ∷ m.arrays d ∷ []) (omega arith, (omega arith, tt))
falls_at (m.section d) c = falls_section d c
falls_at (m.sections d) c = falls_sections d c (falls_onward d d (m.after_section d c) (m.more_sections d ∷ []) (falls_section d c) (omega arith, tt) (omega arith))
falls_at (m.more_sections d) c = falls_more_sections d c
falls_at (m.result d) c = falls_word d k.Colon c (m.qualident d) (omega arith, (omega arith, tt))
falls_at (m.formals d) c = falls_word d k.OpenParen c (m.sections d ∷ m.result d ∷ []) (omega arith, (omega arith, tt))
falls_at (m.flag d) c = falls_word d k.OpenBrace c (m.tok d k.Ident ∷ m.tok d k.CloseBrace ∷ []) (omega arith, (omega arith, tt))
falls_at (m.body d) c = falls_body d c (falls_stat (s.block d) c (s.table.after (s.block d) c) refl)
falls_at (m.const_defs d) c = falls_word d k.Ident c (m.mark d ∷ m.then_expr d k.Equals ∷ m.tok d k.Semicolon ∷ m.const_defs d ∷ []) (omega arith, (omega arith, (omega arith, (omega arith, tt))))
falls_at (m.type_defs d) c = falls_word d k.Ident c (m.mark d ∷ m.then_type d k.Equals ∷ m.tok d k.Semicolon ∷ m.type_defs d ∷ []) (omega arith, (omega arith, (omega arith, (omega arith, tt))))
falls_at (m.var_defs d) c = falls_word d k.Ident c (m.mark d ∷ m.more_defs d ∷ m.then_type d k.Colon ∷ m.tok d k.Semicolon ∷ m.var_defs d ∷ []) (omega arith, (omega arith, (omega arith, (omega arith, (omega arith, tt)))))
falls_at (m.decl local d) c = falls_decl local d c
falls_at (m.decls local d) c = falls_onward d d (m.after_decl local d c) (m.decls local d ∷ []) (falls_decl local d c) (omega arith, tt) (omega arith)
falls_at (m.type d) c = falls_type d c
falls_at (m.lengths d) c = falls_lengths d (e.after_exprs d c) (falls_expr (e.exprs d) c (e.after_exprs d c) refl)
falls_at (m.fields d) c = falls_word d k.Ident c (m.mark d ∷ m.more_defs d ∷ m.then_type d k.Colon ∷ []) (omega arith, (omega arith, (omega arith, tt)))
falls_at (m.more_fields d) c = falls_word d k.Semicolon c (m.fields d ∷ m.more_fields d ∷ []) (omega arith, (omega arith, tt))
falls_at (m.more_imports d) c = falls_more_imports d c
falls_at (m.imports d) c = falls_word d k.KwImport c (m.tok d k.Ident ∷ m.then_name d k.Becomes ∷ m.more_imports d ∷ []) (omega arith, (omega arith, (omega arith, tt)))
falls_at (m.text d) c =
    falls_word d k.KwModule c (m.tok d k.Ident ∷ m.tok d k.Semicolon ∷ m.imports d ∷ m.decls false d ∷ m.body d ∷ m.tok d k.Ident ∷ m.tok d k.Period ∷ m.tok d k.End ∷ [])
    (omega arith, (omega arith, (omega arith, (omega arith, (omega arith, (omega arith, (omega arith, (omega arith, tt))))))))

falls_for : (x : Sym) (c : TokenKind) (p : ℕ × Stack) → m.after x c ≡ Some p → (least x ≤ p.0) × FallsTo (depth_of x) p.1
falls_for x c p is = subst (λ move. Falls (least x) (depth_of x) move) is (falls_at x c)

low_below : {S : Type 0} (f : S → Sym) (d : ℕ) (move : Option (ℕ × List S)) (p : ℕ × Stack) → below f move ≡ Some p → ((z : ℕ × List S) → move ≡ Some z → d ≤ z.0) → d ≤ p.0
low_below f d None p is h = absurd (cc)
low_below f d (Some z) p is h = let a : d ≤ z.0 = h z refl in let b : z.0 ≡ p.0 = cc in omega arith

pub low : (x : Sym) (c : TokenKind) (p : ℕ × Stack) → m.after x c ≡ Some p → depth_of x ≤ p.0
low x c p is = low_by x c p is (falls_for x c p is).0
  where
    low_by : (x : Sym) (c : TokenKind) (p : ℕ × Stack) → m.after x c ≡ Some p → least x ≤ p.0 → depth_of x ≤ p.0
    low_by (m.of_expr x) c p is h = low_below m.of_expr (ey.depth_of x) (e.after x c) p is (λ z at. ey.low x c z at)
    low_by (m.of_stat x) c p is h = low_below m.of_stat (sy.depth_of x) (s.table.after x c) p is (λ z at. sy.low x c z at)
    low_by (m.type d) c p is h = omega arith
    low_by _ c p is h = h

pub floor : (x : Sym) (c : TokenKind) (p : ℕ × Stack) (n : ℕ) → m.after x c ≡ Some p → m.needs x ≡ Some n → n ≤ p.0
floor x c p n is need = subst (λ q. unwrap_or q (depth_of x) ≤ p.0) need (falls_for x c p is).0

pub falls : (x : Sym) (c : TokenKind) (p : ℕ × Stack) → m.after x c ≡ Some p → FallsTo (depth_of x) p.1
falls x c p is = (falls_for x c p is).1
