-- A 6 is moved to the first bad byte, which has come; any other answer is handed on.
use mathlib.Core.Path.{sym, ap, ◌∙◌}
use Rattle.fields.specs.Field.{refuse, badly?}
use Rattle.fields.proofs.Laws as laws
use Rattle.fields.proofs.field_at.Goals as goal

pub bad_at-requires : goal.bad_at-requires
bad_at-requires c =
    let a = c.args in
    laws.bad_there a.bytes.now a.at a.form (sym (c.badly.ensures ∙ ap badly? c.rough_at-f.ensures) ∙ c.if-badly.true)

pub returns-then-badly : goal.returns-then-badly
returns-then-badly c =
    let a = c.args in
    let refused = c.refused in
    let bad-at = c.bad_at in
    let badly = c.badly in
    let rough-at = c.rough_at-f in
    let if1 = c.if-badly in
    refused.ensures ∙ ap (refuse 6) bad-at.ensures
    ∙ laws.moved a.bytes.now a.at a.form (sym (badly.ensures ∙ ap badly? rough-at.ensures) ∙ if1.true)

pub returns : goal.returns
returns c =
    let a = c.args in
    let rough-at = c.rough_at-f in
    let badly = c.badly in
    let if1 = c.if-badly in
    rough-at.ensures ∙ laws.kept a.bytes.now a.at a.form (sym (badly.ensures ∙ ap badly? rough-at.ensures) ∙ if1.false)
