-- Kind 1, the lines and the leader entries, as the definition has them.
use Prim.Native.Nat.{◌≤◌}
use mathlib.Core.Path.{◌≡◌, sym, ◌∙◌}
use native.Mathlib.Omega.{arith}
use lib.ListN.{length, drop, length-drop}
use Rattle.std.specs.Prelude.{Ok}
use Rattle.cards.specs.Check.{body_of, fault_of}
use Rattle.cards.proofs.EntryLaws.{passes}
use Rattle.cards.proofs.LoopLaws as laws
use Rattle.cards.proofs.check.Goals as goal

pub lines-requires : goal.lines-requires
unfolding body_of
lines-requires c =
    let z : fault_of 1 c.first_holds.result c.args.card.now ≡ Ok tt = laws.judged_ok _ 0 (sym c.fault.ensures ∙ c.in_ok-fault.was) in
    (passes 1 c.first_holds.result c.args.card.now z).whole

pub leaders-requires : goal.leaders-requires
unfolding body_of
leaders-requires c =
    let card = c.args.card.now in
    let z : fault_of 1 c.first_holds.result card ≡ Ok tt = laws.judged_ok _ 0 (sym c.fault.ensures ∙ c.in_ok-fault.was) in
    let whole : 17 ≤ length card = (passes 1 c.first_holds.result card z).whole in
    let room = laws.lines_room c.four-n.result 0 c.four.result 17 (drop 17 card) (sym c.lines.ensures ∙ c.in_ok-lines.was) in
    omega (arith, room, length-drop 17 card)

pub returns-clause-few : goal.returns-clause-few
returns-clause-few c =
    let z : fault_of 1 c.first_holds.result c.args.card.now ≡ Ok tt = laws.judged_ok _ 0 (sym c.fault.ensures ∙ c.in_ok-fault.was) in
    let t = sym c.first_holds.ensures ∙ (passes 1 c.first_holds.result c.args.card.now z).holds' in
    laws.few_more c.four-n.result 999999 _ (omega (arith, c.four-n.ensures.value, laws.first_few c.args.card.now t)) c.leaders.ensures.few
