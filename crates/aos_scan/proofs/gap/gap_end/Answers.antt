use Rattle.std.proofs.Common.{refl, sym, ◌∙◌, arith}
use Rattle.aos_scan.specs.Gap.{nothing, blank, comment}
use Rattle.aos_scan.proofs.Gaps.{Gap-append}
use Rattle.aos_scan.proofs.gap.gap_end.Goals as goal

pub loop-at-init : goal.loop-at-init
loop-at-init c = record { gap = nothing refl; from = omega arith; within = omega arith }

pub loop-at-preserved-then-is_blank : goal.loop-at-preserved-then-is_blank
loop-at-preserved-then-is_blank c = record {
  gap = Gap-append c.args.text.now _ c.loop-at.invariant.gap (blank (sym c.is_blank.ensures ∙ c.if-is_blank.true) refl (nothing refl));
  from = omega arith;
  within = omega arith;
}

pub loop-at-preserved : goal.loop-at-preserved
loop-at-preserved c = record {
  gap = Gap-append c.args.text.now _ c.loop-at.invariant.gap (comment c.in-Some.ensures.found (nothing refl));
  from = omega (arith, c.in-Some.ensures.within);
  within = omega (arith, c.in-Some.ensures.within);
}
