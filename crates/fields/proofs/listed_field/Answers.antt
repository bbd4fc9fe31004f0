-- Outside 1 to 13 the answer is 14; inside, the row of the table says where the field stands and in which form.
use mathlib.Core.Path.{sym, ◌∙◌}
use Rattle.fields.proofs.Laws as laws
use Rattle.fields.proofs.listed_field.Goals as goal

pub returns-then-within : goal.returns-then-within
returns-then-within c = c.field_at.ensures ∙ (rw (c.place.ensures, c.listed_row-row.ensures))
    ∙ sym (laws.inside c.args.bytes.now
    c.args.number (sym c.within.ensures
    ∙ c.if-within.true))

pub returns : goal.returns
returns c = c.refused.ensures
    ∙ sym (laws.unlisted c.args.bytes.now c.args.number
    (sym c.within.ensures ∙ c.if-within.false))
