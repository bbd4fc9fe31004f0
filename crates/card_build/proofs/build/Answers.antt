-- The image's refusal, the leader's, then what the two plans give.
use mathlib.Core.Path.{sym, ◌∙◌}
use Rattle.std.proofs.lemmas.Result.{err_from_is_err_and}
use Rattle.card_build.proofs.AnswerLaws as answer
use Rattle.card_build.proofs.build.Goals as goal

pub returns-in_err-scene : goal.returns-in_err-scene
returns-in_err-scene c =
    let args = c.args in
    let one = sym c.named.ensures ∙ c.in_err-scene.was in
    let p = err_from_is_err_and c.from_residual.result c.from_residual.ensures.1 in
    record {
      value = p.1 ∙ rw (p.2) (answer.image_answer args.image.now args.leader.now args.card.now _ one);
      card_after = answer.image_card args.image.now args.leader.now args.card.now _ one;
    }

pub returns-in_err-notes : goal.returns-in_err-notes
returns-in_err-notes c =
    let args = c.args in
    let one = sym c.named.ensures ∙ c.in_ok-scene.was in
    let two = sym c.named-2.ensures ∙ c.in_err-notes.was in
    let p = err_from_is_err_and c.from_residual-in_err-notes.result c.from_residual-in_err-notes.ensures.1 in
    record {
      value = p.1 ∙ rw (p.2) (answer.leader_answer args.image.now args.leader.now args.card.now _ one _ two);
      card_after = answer.leader_card args.image.now args.leader.now args.card.now _ one _ two;
    }

pub fitted-requires : goal.fitted-requires
fitted-requires c =
    let one = sym c.named.ensures ∙ c.in_ok-scene.was in
    answer.both_planned c.args.image.now c.args.leader.now c.args.card.now _ one _ (sym c.named-2.ensures ∙ c.in_ok-notes.was)

pub returns : goal.returns
returns c =
    let args = c.args in
    let one = sym c.named.ensures ∙ c.in_ok-scene.was in
    let two = sym c.named-2.ensures ∙ c.in_ok-notes.was in
    record {
      value = c.fitted.ensures.value ∙ answer.fitted_answer args.image.now args.leader.now args.card.now _ one _ two;
      card_after = c.fitted.ensures.card_after ∙ answer.fitted_card_lem args.image.now args.leader.now args.card.now _ one _ two;
    }
