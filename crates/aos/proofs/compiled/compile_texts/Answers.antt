use Rattle.std.proofs.Common.{subst}
use Rattle.aos_symbols.specs.Outcome.{refused}
use Rattle.aos_compile.specs.Elaborates.{ComesTo, OnRefused}
use Rattle.aos.specs.Shown.{texts_of}
use Rattle.aos.proofs.compiled.compile_texts.Goals as goal

pub returns-in-Ok : goal.returns-in-Ok
returns-in-Ok c =
    let e = c.in-Ok.ensures in (
      record {
        comes = e.went;
        compiled = record { typed = e.typed };
        shows = e.shows;
        names = e.names;
      },
      record { modules = e.few; objects = e.few_types },
    )

pub returns-in_ok-refuse-in-Err-Refused : goal.returns-in_ok-refuse-in-Err-Refused
returns-in_ok-refuse-in-Err-Refused c =
    record {
      refusal = c.in-Err-Refused.r;
      comes = subst (λ e. OnRefused e (λ x. ComesTo (texts_of c.args.texts.now) (refused x))) c.in-Err-Refused.field-0-is c.in-Err-Refused.ensures.refused;
      is = c.in_ok-refuse-in-Err-Refused.ensures;
    }
