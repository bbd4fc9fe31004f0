-- Three numbers, then the pairs, then six: the array so far is the numbers written, then the old ones behind them.
use Prim.Native.Nat.{ℕ, ◌+◌, ◌*◌}
use mathlib.Core.Path.{◌≡◌, refl, subst}
use native.Mathlib.Omega.{arith}
use Rattle.plan.specs.Tables.{rows}
use Rattle.c_state.proofs.PutLaws as laws
use Rattle.c_state.proofs.put.Goals as goal

pub bounds-state-1 : goal.bounds-state-1
bounds-state-1 c =
    let args = c.args in
    let pre = c.requires in
    laws.room_1 args.st args.state.now pre

pub bounds-state-2 : goal.bounds-state-2
bounds-state-2 c =
    let args = c.args in
    let pre = c.requires in
    laws.room_2 args.st args.state.now pre

pub loop-j-init : goal.loop-j-init
loop-j-init c =
    let args = c.args in
    let pre = c.requires in (refl, laws.three_put args.st args.state.now pre)

pub bounds-state-j : goal.bounds-state-j
bounds-state-j c =
    let args = c.args in
    let pre = c.requires in
    let loop = c.loop-j in
    laws.room args.st args.state.now pre loop.state loop.invariant.0 (3 + 2 * loop.j) (omega (arith, c.loop-j-test.true))

pub bounds-state-j-in-loop-j : goal.bounds-state-j-in-loop-j
bounds-state-j-in-loop-j c =
    let args = c.args in
    let pre = c.requires in
    let loop = c.loop-j in
    laws.pair_room args.st args.state.now pre loop.state loop.invariant.0 loop.j c.loop-j-test.true

pub loop-j-preserved : goal.loop-j-preserved
loop-j-preserved c =
    let args = c.args in
    let pre = c.requires in
    let loop = c.loop-j in (
      laws.pair_long args.st args.state.now pre loop.state loop.invariant.0 loop.j,
      laws.pair_put args.st args.state.now pre loop.j loop.state c.loop-j-test.true loop.invariant.1,
    )

pub bounds-state-37 : goal.bounds-state-37
bounds-state-37 c =
    let args = c.args in
    let pre = c.requires in
    let loop = c.loop-j in
    laws.room args.st args.state.now pre loop.state loop.invariant.0 37 (omega arith)

pub bounds-state-38 : goal.bounds-state-38
bounds-state-38 c =
    let args = c.args in
    let pre = c.requires in
    let loop = c.loop-j in
    laws.room_38 args.st args.state.now pre loop.state loop.invariant.0

pub bounds-state-39 : goal.bounds-state-39
bounds-state-39 c =
    let args = c.args in
    let pre = c.requires in
    let loop = c.loop-j in
    laws.room_39 args.st args.state.now pre loop.state loop.invariant.0

pub bounds-state-40 : goal.bounds-state-40
bounds-state-40 c =
    let args = c.args in
    let pre = c.requires in
    let loop = c.loop-j in
    laws.room_40 args.st args.state.now pre loop.state loop.invariant.0

pub bounds-state-41 : goal.bounds-state-41
bounds-state-41 c =
    let args = c.args in
    let pre = c.requires in
    let loop = c.loop-j in
    laws.room_41 args.st args.state.now pre loop.state loop.invariant.0

pub bounds-state-42 : goal.bounds-state-42
bounds-state-42 c =
    let args = c.args in
    let pre = c.requires in
    let loop = c.loop-j in
    laws.room_42 args.st args.state.now pre loop.state loop.invariant.0

pub shape_of-state : goal.shape_of-state
shape_of-state c =
    let args = c.args in
    let pre = c.requires in
    let loop = c.loop-j in
    laws.six_long args.st args.state.now pre loop.state loop.invariant.0

pub returns : goal.returns
returns c =
    let args = c.args in
    let pre = c.requires in
    let loop = c.loop-j in
    let full : loop.j ≡ rows = omega (arith, c.loop-j-test.false) in
    laws.six_put args.st args.state.now pre loop.state
    (subst (λ (j : ℕ). laws.Put args.st (3 + 2 * j) (laws.three args.st args.state.now pre) loop.state) full loop.invariant.1)
