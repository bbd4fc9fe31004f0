-- 37, or the three parts one behind the other.
use Prim.Native.Nat.{ℕ, ◌+◌, ◌*◌, ◌≤◌}
use mathlib.Core.Path.{ap, ◌∙◌}
use native.Mathlib.Omega.{arith}
use lib.ListN.{length}
use Rattle.std.specs.Prelude.{Err}
use Rattle.card_build.specs.Build.{card_long}
use Rattle.card_build.proofs.BuildLaws as laws
use Rattle.card_build.proofs.AnswerLaws as answer
use Rattle.card_build.proofs.fitted.Goals as goal

pub returns-then-card-long : goal.returns-then-card-long
returns-then-card-long c =
    let args = c.args in
    let e = ap (λ (r : ℕ). 17 + 13 * args.p.n + 10 * r) c.total-records.ensures.0 in
    record {
      value = ap Err c.bare.ensures ∙ answer.short_answer args.p args.q args.image.now args.card.now _ e c.if-card-long.true;
      card_after = answer.short_card args.p args.q args.image.now args.card.now _ e c.if-card-long.true;
    }

pub returns : goal.returns
returns c =
    let args = c.args in
    let total = c.total-records in
    let e = ap (λ (r : ℕ). 17 + 13 * args.p.n + 10 * r) total.ensures.0 in
    let h : card_long args.p args.q ≤ length args.card.now = omega (arith, e, c.if-card-long.false) in
    record {
      value = answer.fits_answer args.p args.q args.image.now args.card.now _ e c.if-card-long.false;
      card_after = laws.card_put args.p args.q total.result args.image.now args.card.now _ _ _ total.ensures.0 h c.put_first.ensures
          c.put_lines.ensures
          c.put_leaders.ensures
          ∙ answer.fits_card args.p args.q args.image.now args.card.now _ e c.if-card-long.false;
    }
