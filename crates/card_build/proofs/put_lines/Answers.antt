-- What is left to write behind the lines that are written gives the whole.
use Prim.Native.Nat.{ℕ, ◌+◌, ◌*◌}
use mathlib.Core.Path.{sym, ap, ◌∙◌}
use native.Mathlib.Omega.{arith}
use borrow.Author.Rules.{rules}
use Rattle.words.specs.Words.{four_at, place_of}
use Rattle.card_build.proofs.BuildLaws as laws
use Rattle.card_build.proofs.put_lines.Goals as goal

pub overflow_add-at-in-loop-k : goal.overflow_add-at-in-loop-k
unfolding place_of
overflow_add-at-in-loop-k c =
    let few = laws.few_bytes c.loop-k.k c.args.p.l (omega (arith, c.requires.0, c.loop-k-test.true)) c.requires.1 in
    omega (arith, c.place.ensures, few)

pub overflow_add-at-in-loop-k-2 : goal.overflow_add-at-in-loop-k-2
unfolding place_of
overflow_add-at-in-loop-k-2 c =
    let few = laws.few_bytes c.loop-k.k c.args.p.l (omega (arith, c.requires.0, c.loop-k-test.true)) c.requires.1 in
    omega (arith, c.place-in-loop-k.ensures, few)

pub loop-k-preserved : goal.loop-k-preserved
loop-k-preserved c =
    let p = c.args.p in
    let k = c.loop-k.k in
    let image = c.args.image.now in (
      search rules,
      c.loop-k.invariant.1 ∙ laws.lines_next p.n k p.l image c.loop-k.out _ c.four-left.result c.four-data.result c.loop-k-test.true
          (omega (arith, c.requires.2, c.loop-k.invariant.0))
          (c.four-left.ensures.value ∙ ap (λ (i : ℕ). four_at image (720 + k * p.l + i)) c.place.ensures)
          (c.four-data.ensures.value ∙ ap (λ (i : ℕ). four_at image (720 + k * p.l + i)) c.place-in-loop-k.ensures) c.put_line.ensures,
    )

pub returns : goal.returns
returns c =
    let p = c.args.p in
    sym (c.loop-k.invariant.1 ∙ laws.lines_end p.n c.loop-k.k p.l c.args.image.now c.loop-k.out c.loop-k.out c.loop-k-test.false)
