-- What is left to write behind the leader records that are written gives the whole.
use Prim.Native.Nat.{◌+◌, ◌*◌}
use mathlib.Core.Path.{sym, ap, ◌∙◌}
use native.Mathlib.Omega.{arith}
use borrow.Author.Rules.{rules}
use Rattle.plan.specs.declared.Due.{Due}
use Rattle.writing.specs.Writing.{written}
use Rattle.card_build.specs.Build.{leader_bytes}
use Rattle.card_build.proofs.BuildLaws as laws
use Rattle.card_build.proofs.put_leaders.Goals as goal

pub loop-k-preserved : goal.loop-k-preserved
loop-k-preserved c =
    let args = c.args in
    let k = c.loop-k.k in
    let out = c.loop-k.out in
    let to = args.from + 10 * k in (
      search rules,
      c.loop-k.invariant.1 ∙ laws.leaders_next args.records k args.from args.q out _ c.loop-k-test.true
          (omega (arith, c.requires.records_bound.1, c.loop-k.invariant.0))
          (c.put_leader.ensures ∙ ap (λ (x : Due). written out to (leader_bytes (k + 1) x.start x.length)) c.due_of-due.ensures.value),
    )

pub returns : goal.returns
returns c =
    let args = c.args in
    sym (c.loop-k.invariant.1 ∙ laws.leaders_end args.records c.loop-k.k args.from args.q c.loop-k.out c.loop-k.out c.loop-k-test.false)
