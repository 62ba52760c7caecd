-- The characters of string constants.
use Rattle.std.proofs.Common.{ℕ, zero, suc, ◌-◌, ◌<◌, ◌==◌, Bool, true, false, List, [], ◌∷◌, ◌++◌, length, map, replicate, nat_lt, All, if◌then◌else◌, arith}
use Rattle.std.proofs.lemmas.List.Elements.{All-nil, All-cons, All-append, All-map, All-weaker}
use Rattle.aos_typed.specs.declared.tree.TextConstant.{TextConstant}
use Rattle.aos_symbols.specs.Home.{Home, character, between_quotes, texts_of}
use Rattle.aos_symbols.specs.declared.env.Env.{Env}
use Rattle.aos_symbols.specs.Env as env
use Rattle.aos_symbols.proofs.Each.{Each, all_of}
use Rattle.aos_arguments.specs.Filled.{longest, filled, home_filled, named_filled, named_texts, filled_texts}
use Rattle.aos_check_expr.proofs.Worded.{character_below}

-- the codes of bytes are those of characters
codes_below : (bs : List ℕ) → Each (λ c. c < 256) (map character bs)
codes_below [] = tt
codes_below (b ∷ bs) = (character_below b, codes_below bs)

each_below : (text : List ℕ) (ss : List (ℕ × ℕ)) → Each (All (λ c. c < 256)) (map (λ s. map character (between_quotes text s)) ss)
each_below text [] = tt
each_below text (s ∷ ss) =
    let cs = map character (between_quotes text s) in (all_of (λ c. c < 256) cs (codes_below (between_quotes text s)), each_below text ss)

pub texts_below : (h : Home) → All (All (λ c. c < 256)) (texts_of h)
texts_below h = all_of (All (λ c. c < 256)) (texts_of h) (each_below h.text h.strings)

-- So are those with 0X behind them.

abbrev AreCodes : List ℕ → Type 0
AreCodes cs = All (λ c. c < 256) cs

zeros_below : (n : ℕ) → AreCodes (replicate n 0)
zeros_below zero = All-nil (λ c. c < 256)
zeros_below (suc n) = All-cons (λ c. c < 256) 0 (replicate n 0) (omega arith) (zeros_below n)

one_below : (n : ℕ) (cs : List ℕ) → AreCodes cs → AreCodes (filled n cs)
one_below n cs are = by (nat_lt (length cs) n)
  where
    rest : ℕ
    rest = (n - 1) - length cs

    by : (b : Bool) → AreCodes (if b then cs ++ replicate ((n - 1) - length cs) 0 else [])
    by true = All-append (λ c. c < 256) cs (replicate rest 0) are (zeros_below rest)
    by false = All-nil (λ c. c < 256)

home_below : (n : ℕ) (h : Home) → All AreCodes (home_filled n h)
home_below n h = All-map AreCodes (filled n) (texts_of h) (All-weaker AreCodes (λ cs. AreCodes (filled n cs)) (one_below n) (texts_of h) (texts_below h))

named_below : (n : ℕ) (e : Env) (ts : List TextConstant) → All AreCodes (map (named_filled n e) ts)
named_below n e [] = All-nil AreCodes
named_below n e (t ∷ ts) =
    let bytes = env.characters e t in
    let one = one_below n (map character bytes) (all_of (λ c. c < 256) (map character bytes) (codes_below bytes)) in
    All-cons AreCodes (named_filled n e t) (map (named_filled n e) ts) one (named_below n e ts)

pub filled_below : (e : Env) → All AreCodes (filled_texts e)
filled_below e = by (longest e == 0)
  where
    n : ℕ
    n = longest e

    by : (b : Bool) → All AreCodes (if b then [] else home_filled (longest e) e.here ++ map (named_filled (longest e) e) (named_texts e))
    by true = All-nil AreCodes
    by false =
        All-append AreCodes (home_filled n e.here) (map (named_filled n e) (named_texts e)) (home_below n e.here) (named_below n e (named_texts e))
