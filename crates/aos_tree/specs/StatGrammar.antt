-- The grammar of statements: a tree reads the tokens `ts` up to `rest`, at a nesting d that is open round it
-- (Active Oberon Language Report, Reali 2002, syntax). One case for each form of a production.
use Rattle.std.specs.Prelude.{ℕ, ◌+◌, List, [], ◌∷◌, Option, Some, None}
use Rattle.aos_base.specs.declared.text.Pos.{Pos}
use Rattle.aos_scan.specs.declared.token.Token.{Token}
use Rattle.aos_scan.specs.declared.token.TokenKind.{TokenKind}
use Rattle.aos_scan.specs.declared.token.TokenKind.TheVariants as k
use Rattle.aos_tree.specs.declared.name.Name.{Name}
use Rattle.aos_tree.specs.declared.name.Qualident.{Qualident}
use Rattle.aos_tree.specs.declared.expr.Expr.{Expr}
use Rattle.aos_tree.specs.declared.expr.Desig.{Desig}
use Rattle.aos_tree.specs.declared.stat.StatSeq.{StatSeq, roll-StatSeq}
use Rattle.aos_tree.specs.declared.stat.Stat.{Stat}
use Rattle.aos_tree.specs.declared.stat.Stat.TheVariants as s
use Rattle.aos_tree.specs.declared.stat.Elsif.{Elsif, roll-Elsif}
use Rattle.aos_tree.specs.declared.stat.Case.{Case}
use Rattle.aos_tree.specs.declared.stat.Case.TheVariants as c
use Rattle.aos_tree.specs.declared.stat.Label.{Label}
use Rattle.aos_tree.specs.declared.stat.Block.{Block, roll-Block}
use Rattle.aos_tree.specs.declared.stat.Modifier.{Modifier}
use Rattle.aos_tree.specs.Nesting.{Rule}
use Rattle.aos_tree.specs.ExprGrammar.{IsExpr, IsDesig}
use Rattle.aos_tree.specs.Words.{IsWord, IsName, IsQualident}

-- [word Expr], where the word is one of this kind
pub data IsOption (may : Rule) (d : ℕ) (kind : TokenKind) : Option Expr → List Token → List Token → Type 0 where
  no_option : {ts : List Token} → IsOption may d kind None ts ts
  option : {p : Pos} {a : Expr} {ts mid rest : List Token} →
      IsWord may d kind p ts mid → IsExpr may d a mid rest → IsOption may d kind (Some a) ts rest

-- Label = Expr [".." Expr].
pub data IsLabel (may : Rule) (d : ℕ) : Label → List Token → List Token → Type 0 where
  label : {a : Expr} {last : Option Expr} {ts mid rest : List Token} →
      IsExpr may d a ts mid → IsOption may d k.Range last mid rest →
      IsLabel may d (record { first = a; last = last }) ts rest

-- Label {"," Label}
mutual
  pub data IsLabels (may : Rule) (d : ℕ) : List Label → List Token → List Token → Type 0 where
    labels : {a : Label} {more : List Label} {ts mid rest : List Token} →
        IsLabel may d a ts mid → IsMoreLabels may d more mid rest → IsLabels may d (a ∷ more) ts rest

  pub data IsMoreLabels (may : Rule) (d : ℕ) : List Label → List Token → List Token → Type 0 where
    no_more_labels : {ts : List Token} → IsMoreLabels may d [] ts ts
    another_label : {p : Pos} {a : Label} {more : List Label} {ts from mid rest : List Token} →
        IsWord may d k.Comma p ts from → IsLabel may d a from mid → IsMoreLabels may d more mid rest →
        IsMoreLabels may d (a ∷ more) ts rest

-- Modifier = ident ["(" Expr ")"].
pub data IsModifier (may : Rule) (d : ℕ) : Modifier → List Token → List Token → Type 0 where
  flag : {a : Name} {ts rest : List Token} →
      IsName may d a ts rest → IsModifier may d (record { name = a; value = None }) ts rest
  valued : {p q : Pos} {a : Name} {x : Expr} {ts from mid to rest : List Token} →
      IsName may d a ts from → IsWord may d k.OpenParen p from mid → IsExpr may d x mid to → IsWord may d k.CloseParen q to rest →
      IsModifier may d (record { name = a; value = Some x }) ts rest

-- Modifier {"," Modifier} "}"
mutual
  pub data IsModifiers (may : Rule) (d : ℕ) : List Modifier → List Token → List Token → Type 0 where
    modifiers : {a : Modifier} {more : List Modifier} {ts mid rest : List Token} →
        IsModifier may d a ts mid → IsMoreModifiers may d more mid rest → IsModifiers may d (a ∷ more) ts rest

  pub data IsMoreModifiers (may : Rule) (d : ℕ) : List Modifier → List Token → List Token → Type 0 where
    no_more_modifiers : {p : Pos} {ts rest : List Token} → IsWord may d k.CloseBrace p ts rest → IsMoreModifiers may d [] ts rest
    another_modifier : {p : Pos} {a : Modifier} {more : List Modifier} {ts from mid rest : List Token} →
        IsWord may d k.Comma p ts from → IsModifier may d a from mid → IsMoreModifiers may d more mid rest →
        IsMoreModifiers may d (a ∷ more) ts rest

mutual
  -- StatSeq = Stat {";" Stat}.
  pub data IsStatSeq (may : Rule) : ℕ → StatSeq → List Token → List Token → Type 0 where
    stats : {d : ℕ} {a : Stat} {more : List Stat} {ts mid rest : List Token} →
        IsStat may d a ts mid → IsMoreStats may d more mid rest →
        IsStatSeq may d (roll-StatSeq (record { stats = a ∷ more })) ts rest

  pub data IsMoreStats (may : Rule) : ℕ → List Stat → List Token → List Token → Type 0 where
    no_more_stats : {d : ℕ} {ts : List Token} → IsMoreStats may d [] ts ts
    another_stat : {d : ℕ} {p : Pos} {a : Stat} {more : List Stat} {ts from mid rest : List Token} →
        IsWord may d k.Semicolon p ts from → IsStat may d a from mid → IsMoreStats may d more mid rest →
        IsMoreStats may d (a ∷ more) ts rest

  -- Stat = [ .. ].
  pub data IsStat (may : Rule) : ℕ → Stat → List Token → List Token → Type 0 where
    empty : {d : ℕ} {ts : List Token} → IsStat may d s.Empty ts ts
    assign : {d : ℕ} {p : Pos} {a : Desig} {value : Expr} {ts mid from rest : List Token} →
        IsDesig may (d + 1) a ts mid → IsWord may (d + 1) k.Becomes p mid from → IsExpr may (d + 1) value from rest →
        IsStat may d (s.Assign a p value) ts rest
    call : {d : ℕ} {a : Desig} {ts rest : List Token} → IsDesig may (d + 1) a ts rest → IsStat may d (s.Call a) ts rest
    block : {d : ℕ} {a : Block} {ts rest : List Token} → IsBlock may (d + 1) a ts rest → IsStat may d (s.Block a) ts rest
    exit : {d : ℕ} {p : Pos} {ts rest : List Token} → IsWord may (d + 1) k.KwExit p ts rest → IsStat may d (s.Exit p) ts rest
    return : {d : ℕ} {p : Pos} {ts rest : List Token} →
        IsWord may (d + 1) k.KwReturn p ts rest → IsStat may d (s.Return p None) ts rest
    return_of : {d : ℕ} {p : Pos} {a : Expr} {ts mid rest : List Token} →
        IsWord may (d + 1) k.KwReturn p ts mid → IsExpr may (d + 1) a mid rest → IsStat may d (s.Return p (Some a)) ts rest
    await : {d : ℕ} {p q r : Pos} {a : Expr} {ts from mid to rest : List Token} →
        IsWord may (d + 1) k.KwAwait p ts from → IsWord may (d + 1) k.OpenParen q from mid → IsExpr may (d + 1) a mid to →
        IsWord may (d + 1) k.CloseParen r to rest → IsStat may d (s.Await p a) ts rest
    if_then : {d : ℕ} {p q r : Pos} {a : Expr} {body : StatSeq} {elsifs : List Elsif} {other : Option StatSeq} {ts t1 t2 t3 t4 t5 t6 rest : List Token} →
        IsWord may (d + 1) k.KwIf p ts t1 → IsExpr may (d + 1) a t1 t2 → IsWord may (d + 1) k.KwThen q t2 t3 → IsStatSeq may (d + 1) body t3 t4 →
        IsElsifs may (d + 1) elsifs t4 t5 → IsElse may (d + 1) other t5 t6 → IsWord may (d + 1) k.KwEnd r t6 rest →
        IsStat may d (s.If p a body elsifs other) ts rest
    case : {d : ℕ} {p q r : Pos} {a : Expr} {first : Case} {more : List Case} {other : Option StatSeq} {ts t1 t2 t3 t4 t5 t6 rest : List Token} →
        IsWord may (d + 1) k.KwCase p ts t1 → IsExpr may (d + 1) a t1 t2 → IsWord may (d + 1) k.KwOf q t2 t3 → IsCase may (d + 1) first t3 t4 →
        IsMoreCases may (d + 1) more t4 t5 → IsElse may (d + 1) other t5 t6 → IsWord may (d + 1) k.KwEnd r t6 rest →
        IsStat may d (s.Case p a (first ∷ more) other) ts rest
    while : {d : ℕ} {p q r : Pos} {a : Expr} {body : StatSeq} {ts t1 t2 t3 t4 rest : List Token} →
        IsWord may (d + 1) k.KwWhile p ts t1 → IsExpr may (d + 1) a t1 t2 → IsWord may (d + 1) k.KwDo q t2 t3 → IsStatSeq may (d + 1) body t3 t4 →
        IsWord may (d + 1) k.KwEnd r t4 rest → IsStat may d (s.While p a body) ts rest
    repeat : {d : ℕ} {p q : Pos} {body : StatSeq} {a : Expr} {ts t1 t2 t3 rest : List Token} →
        IsWord may (d + 1) k.KwRepeat p ts t1 → IsStatSeq may (d + 1) body t1 t2 → IsWord may (d + 1) k.KwUntil q t2 t3 →
        IsExpr may (d + 1) a t3 rest → IsStat may d (s.Repeat p body a) ts rest
    loop : {d : ℕ} {p q : Pos} {body : StatSeq} {ts t1 t2 rest : List Token} →
        IsWord may (d + 1) k.KwLoop p ts t1 → IsStatSeq may (d + 1) body t1 t2 → IsWord may (d + 1) k.KwEnd q t2 rest →
        IsStat may d (s.Loop p body) ts rest
    for : {d : ℕ} {p q r u v : Pos} {name : Name} {from to : Expr} {by : Option Expr} {body : StatSeq} {ts t1 t2 t3 t4 t5 t6 t7 t8 t9 rest : List Token} →
        IsWord may (d + 1) k.KwFor p ts t1 → IsName may (d + 1) name t1 t2 → IsWord may (d + 1) k.Becomes q t2 t3 → IsExpr may (d + 1) from t3 t4 →
        IsWord may (d + 1) k.KwTo r t4 t5 → IsExpr may (d + 1) to t5 t6 → IsOption may (d + 1) k.KwBy by t6 t7 → IsWord may (d + 1) k.KwDo u t7 t8 →
        IsStatSeq may (d + 1) body t8 t9 → IsWord may (d + 1) k.KwEnd v t9 rest → IsStat may d (s.For p name q from to by body) ts rest
    with : {d : ℕ} {p q r u : Pos} {guarded of : Qualident} {body : StatSeq} {ts t1 t2 t3 t4 t5 t6 rest : List Token} →
        IsWord may (d + 1) k.KwWith p ts t1 → IsQualident may (d + 1) guarded t1 t2 → IsWord may (d + 1) k.Colon q t2 t3 → IsQualident may (d + 1) of t3 t4 →
        IsWord may (d + 1) k.KwDo r t4 t5 → IsStatSeq may (d + 1) body t5 t6 → IsWord may (d + 1) k.KwEnd u t6 rest →
        IsStat may d (s.With p guarded q of body) ts rest

  -- {ELSIF Expr THEN StatSeq}
  pub data IsElsifs (may : Rule) : ℕ → List Elsif → List Token → List Token → Type 0 where
    no_elsifs : {d : ℕ} {ts : List Token} → IsElsifs may d [] ts ts
    elsif : {d : ℕ} {p q : Pos} {a : Expr} {body : StatSeq} {more : List Elsif} {ts t1 t2 t3 t4 rest : List Token} →
        IsWord may d k.KwElsif p ts t1 → IsExpr may d a t1 t2 → IsWord may d k.KwThen q t2 t3 → IsStatSeq may d body t3 t4 →
        IsElsifs may d more t4 rest → IsElsifs may d (roll-Elsif (record { pos = p; condition = a; body = body }) ∷ more) ts rest

  -- [ELSE StatSeq]
  pub data IsElse (may : Rule) : ℕ → Option StatSeq → List Token → List Token → Type 0 where
    no_else : {d : ℕ} {ts : List Token} → IsElse may d None ts ts
    else : {d : ℕ} {p : Pos} {body : StatSeq} {ts mid rest : List Token} →
        IsWord may d k.KwElse p ts mid → IsStatSeq may d body mid rest → IsElse may d (Some body) ts rest

  -- Case = [Label {"," Label} ":" StatSeq].
  pub data IsCase (may : Rule) : ℕ → Case → List Token → List Token → Type 0 where
    no_arm : {d : ℕ} {ts : List Token} → IsCase may d c.Empty ts ts
    arm : {d : ℕ} {p : Pos} {labels : List Label} {body : StatSeq} {ts t1 t2 rest : List Token} →
        IsLabels may d labels ts t1 → IsWord may d k.Colon p t1 t2 → IsStatSeq may d body t2 rest →
        IsCase may d (c.Arm labels body) ts rest

  -- {"|" Case}
  pub data IsMoreCases (may : Rule) : ℕ → List Case → List Token → List Token → Type 0 where
    no_more_cases : {d : ℕ} {ts : List Token} → IsMoreCases may d [] ts ts
    another_case : {d : ℕ} {p : Pos} {a : Case} {more : List Case} {ts from mid rest : List Token} →
        IsWord may d k.Bar p ts from → IsCase may d a from mid → IsMoreCases may d more mid rest →
        IsMoreCases may d (a ∷ more) ts rest

  -- Block = BEGIN ["{" Modifier {"," Modifier} "}"] StatSeq END.
  pub data IsBlock (may : Rule) : ℕ → Block → List Token → List Token → Type 0 where
    unmodified : {d : ℕ} {p q : Pos} {body : StatSeq} {ts t1 t2 rest : List Token} →
        IsWord may d k.KwBegin p ts t1 → IsStatSeq may d body t1 t2 → IsWord may d k.KwEnd q t2 rest →
        IsBlock may d (roll-Block (record { pos = p; modifiers = []; body = body })) ts rest
    modified : {d : ℕ} {p q r : Pos} {all : List Modifier} {body : StatSeq} {ts t1 t2 t3 t4 rest : List Token} →
        IsWord may d k.KwBegin p ts t1 → IsWord may d k.OpenBrace q t1 t2 → IsModifiers may d all t2 t3 → IsStatSeq may d body t3 t4 →
        IsWord may d k.KwEnd r t4 rest → IsBlock may d (roll-Block (record { pos = p; modifiers = all; body = body })) ts rest
