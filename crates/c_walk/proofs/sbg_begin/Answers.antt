-- With room the state is the begun one's: all zeros where no walk is begun.
use lib.ListN.{length}
use mathlib.Core.Path.{ap₂, ◌∙◌}
use Rattle.std.specs.Result.{result_unwrap_or}
use Rattle.walk.specs.Walk.{begin_of}
use Rattle.c_answer.proofs.RoomLaws.{room_yes}
use Rattle.c_walk.proofs.StateLaws.{state_behind, begun_or_none}
use Rattle.c_walk.proofs.sbg_begin.Goals as goal

pub returns-clause-state_after : goal.returns-clause-state_after
returns-clause-state_after c =
    let args = c.args in
    let t = room_yes 43 5 (length args.state.now) (length args.answer.now) c.if-state-lt-STATE.false c.if-answer-lt-ANSWER.false in
    let st = c.unwrap_or.ensures ∙ ap₂ result_unwrap_or c.begin-begun.ensures c.none-2.ensures ∙ begun_or_none (begin_of args.kind) in
    state_behind _ _ _ args.state.now _ t st c.put.ensures
