-- The text of the generated module: so many producers, each of which puts the numbers from 1 to 100 into a buffer of its own, and
-- as many consumers, each of which takes them from one of these buffers and adds them up. At the end the number of consumers and the
-- sum of what all of them took are written.
use Rattle.std.specs.Prelude.{ℕ, List, ◌++◌, codes, decimal}

-- the name of its file
abbrev pub file_name : List ℕ
file_name = codes "Gen.Mod"

abbrev pub front_text : List ℕ
front_text =
    codes "MODULE Gen;\n"
    ++ codes "IMPORT Out;\n"
    ++ codes "CONST N = "

abbrev pub behind_text : List ℕ
behind_text =
    codes "; K = 100;\n"
    ++ codes "TYPE\n"
    ++ codes "  Buffer = OBJECT\n"
    ++ codes "    VAR x, n: LONGINT;\n"
    ++ codes "    PROCEDURE Put(v: LONGINT);\n"
    ++ codes "    BEGIN {EXCLUSIVE} AWAIT(n = 0); x := v; n := 1 END Put;\n"
    ++ codes "    PROCEDURE Get(VAR v: LONGINT);\n"
    ++ codes "    BEGIN {EXCLUSIVE} AWAIT(n = 1); v := x; n := 0 END Get;\n"
    ++ codes "  END Buffer;\n"
    ++ codes "  Totals = OBJECT\n"
    ++ codes "    VAR sum, done: LONGINT;\n"
    ++ codes "    PROCEDURE Add(v: LONGINT);\n"
    ++ codes "    BEGIN {EXCLUSIVE} sum := sum + v; done := done + 1 END Add;\n"
    ++ codes "    PROCEDURE Wait;\n"
    ++ codes "    BEGIN {EXCLUSIVE} AWAIT(done = N) END Wait;\n"
    ++ codes "  END Totals;\n"
    ++ codes "  Producer = OBJECT\n"
    ++ codes "    VAR b: Buffer; i: LONGINT;\n"
    ++ codes "    PROCEDURE &Init(c: Buffer);\n"
    ++ codes "    BEGIN b := c END Init;\n"
    ++ codes "  BEGIN {ACTIVE}\n"
    ++ codes "    FOR i := 1 TO K DO b.Put(i) END\n"
    ++ codes "  END Producer;\n"
    ++ codes "  Consumer = OBJECT\n"
    ++ codes "    VAR b: Buffer; i, v, s: LONGINT;\n"
    ++ codes "    PROCEDURE &Init(c: Buffer);\n"
    ++ codes "    BEGIN b := c END Init;\n"
    ++ codes "  BEGIN {ACTIVE}\n"
    ++ codes "    FOR i := 1 TO K DO b.Get(v); s := s + v END;\n"
    ++ codes "    t.Add(s)\n"
    ++ codes "  END Consumer;\n"
    ++ codes "VAR t: Totals; b: Buffer; p: Producer; c: Consumer; j: LONGINT;\n"
    ++ codes "BEGIN\n"
    ++ codes "  NEW(t);\n"
    ++ codes "  FOR j := 1 TO N DO NEW(b); NEW(p, b); NEW(c, b) END;\n"
    ++ codes "  t.Wait;\n"
    ++ codes "  Out.Int(t.done, 0); Out.Char(\" \"); Out.Int(t.sum, 0); Out.Ln\n"
    ++ codes "END Gen.\n"

-- with so many pairs of a producer and a consumer
abbrev pub module_text : ℕ → List ℕ
module_text pairs = front_text ++ decimal pairs ++ behind_text
