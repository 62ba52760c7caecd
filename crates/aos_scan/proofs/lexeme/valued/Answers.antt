use Rattle.std.proofs.Common.{ℕ, ◌<◌, ◌≤◌, sym, subst, ⊎_elim, arith}
use Rattle.std.specs.Prelude.{slice_range}
use Rattle.std.proofs.lemmas.Bool.{cases_lt}
use Rattle.aos_scan.specs.Spelling.{value_of}
use Rattle.aos_scan.specs.Found.{BeginsAt}
use Rattle.aos_scan.proofs.lexeme.valued.Goals as goal

above : (n most : ℕ) → (n ≤ most → ⊥) → most < n
above n most past = ⊎_elim (λ more. more) (λ small. absurd (past small)) (cases_lt most n)

pub returns-in_err-value : goal.returns-in_err-value
returns-in_err-value c =
    let value = value_of c.args.base (slice_range c.args.text.now c.args.at c.args.to) in
    let past = above value c.greatest.result (rw c.in_err-value.was at c.value_of.ensures) in
    rw c.from_residual.ensures (record {
      end = c.args.end;
      big = record { kind = c.args.kind; value = value };
      begins = c.requires.begins;
      past = omega arith;
    })

pub returns : goal.returns
returns c =
    let known = rw c.in_ok-value.was at c.value_of.ensures in
    subst (λ (n : ℕ). BeginsAt c.args.text.now c.args.at (record { kind = c.args.kind; end = c.args.end; value = n })) (sym known.1) (record {
      begins = c.requires.begins;
      fits = omega (arith, known.0, known.1);
      no_end = c.requires.kind;
    })
