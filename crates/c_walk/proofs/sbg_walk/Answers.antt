-- With room state and answer are those of the walk from the state that the numbers are.
use Rattle.c_answer.proofs.RoomLaws as laws
use Rattle.c_walk.proofs.StateLaws.{state_behind}
use Rattle.c_answer.specs.Reply.{reply_of}
use Rattle.walk.specs.declared.Walked.{Walked}
use Rattle.walk.specs.declared.State.{State}
use Rattle.walk.specs.Walk.{walk_of}
use Rattle.walk.specs.Said.{stop_as}
use lib.ListN.{length}
use lib.Dec.{eqb}
use mathlib.Core.Bool.{not}
use mathlib.Core.Path.{ap, ◌∙◌}
use Rattle.c_walk.proofs.sbg_walk.Goals as goal

pub returns-clause-state_after : goal.returns-clause-state_after
returns-clause-state_after c =
    let args = c.args in
    let t = laws.room_yes 43 5 (length args.state.now) (length args.answer.now) c.if-state-lt-STATE.false c.if-answer-lt-ANSWER.false in
    let w = c.walk-walked.ensures ∙ ap (λ (st : State). walk_of args.budget st args.bytes.now (not (eqb args.closed 0))) c.get-st.ensures in
    state_behind _ _ _ args.state.now _ t (ap (λ (x : Walked). x.state) w) c.put.ensures

pub returns-clause-answer_after : goal.returns-clause-answer_after
returns-clause-answer_after c =
    let args = c.args in
    let t = laws.room_yes 43 5 (length args.state.now) (length args.answer.now) c.if-state-lt-STATE.false c.if-answer-lt-ANSWER.false in
    let w = c.walk-walked.ensures ∙ ap (λ (st : State). walk_of args.budget st args.bytes.now (not (eqb args.closed 0))) c.get-st.ensures in
    laws.answer_behind _ _ _ args.answer.now _ t (c.stop_reply.ensures ∙ ap (λ (x : Walked). reply_of (stop_as x.stop) x.count) w) c.say.ensures
