-- Each form has its width and its shape: the field is the one of that width and shape.
use mathlib.Core.Path.{sym, ap, ◌∙◌}
use Rattle.decimal.specs.declared.Form.TheVariants.{I4, I6, I8, I16, F8d3, F16d7, E20d13}
use Rattle.fields.specs.Field.{rough_at}
use Rattle.fields.proofs.Laws as laws
use Rattle.fields.proofs.rough_at.Goals as goal

pub returns-in-I4 : goal.returns-in-I4
returns-in-I4 c =
    let args = c.args in
    c.shaped_at.ensures ∙ laws.shaped args.bytes.now args.at I4 ∙ ap (rough_at args.bytes.now args.at) (sym c.in-I4.is)

pub returns-in-I6 : goal.returns-in-I6
returns-in-I6 c =
    let args = c.args in
    c.shaped_at-in-I6.ensures ∙ laws.shaped args.bytes.now args.at I6 ∙ ap (rough_at args.bytes.now args.at) (sym c.in-I6.is)

pub returns-in-I8 : goal.returns-in-I8
returns-in-I8 c =
    let args = c.args in
    c.shaped_at-in-I8.ensures ∙ laws.shaped args.bytes.now args.at I8 ∙ ap (rough_at args.bytes.now args.at) (sym c.in-I8.is)

pub returns-in-I16 : goal.returns-in-I16
returns-in-I16 c =
    let args = c.args in
    c.shaped_at-in-I16.ensures ∙ laws.shaped args.bytes.now args.at I16 ∙ ap (rough_at args.bytes.now args.at) (sym c.in-I16.is)

pub returns-in-F8d3 : goal.returns-in-F8d3
returns-in-F8d3 c =
    let args = c.args in
    c.shaped_at-in-F8d3.ensures ∙ laws.shaped args.bytes.now args.at F8d3 ∙ ap (rough_at args.bytes.now args.at) (sym c.in-F8d3.is)

pub returns-in-F16d7 : goal.returns-in-F16d7
returns-in-F16d7 c =
    let args = c.args in
    c.shaped_at-in-F16d7.ensures ∙ laws.shaped args.bytes.now args.at F16d7 ∙ ap (rough_at args.bytes.now args.at) (sym c.in-F16d7.is)

pub returns-in-E20d13 : goal.returns-in-E20d13
returns-in-E20d13 c =
    let args = c.args in
    c.shaped_at-in-E20d13.ensures ∙ laws.shaped args.bytes.now args.at E20d13 ∙ ap (rough_at args.bytes.now args.at) (sym c.in-E20d13.is)
