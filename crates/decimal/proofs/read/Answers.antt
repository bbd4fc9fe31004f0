-- Bytes of the form's width are read by its shape, which each form in use fits; any other are badly written.
use mathlib.Core.Path.{sym, ap, ◌∙◌, subst}
use Rattle.decimal.specs.Grammar.{Means}
use Rattle.decimal.specs.Scan.{decimal_of}
use Rattle.decimal.proofs.Laws as laws
use Rattle.decimal.proofs.Answer.{says}
use Rattle.decimal.proofs.read.Goals as goal

pub returns-then-f-width : goal.returns-then-f-width
returns-then-f-width c =
    let q = laws.not_wide c.args.form c.args.f.now (λ e. c.if-f-width.true (e
    ∙ sym c.width.ensures)) in
    record {
      means = subst (Means c.args.form c.args.f.now) q
          (says c.args.form c.args.f.now);
      value = sym q;
    }

pub returns : goal.returns
returns c =
    let q = c.shaped.ensures ∙ ap (λ s. decimal_of s c.args.f.now) c.shape_of.ensures
    ∙ sym (laws.wide c.args.form c.args.f.now
    (c.if-f-width.false ∙ c.width.ensures)) in
    record {
      means = subst (Means c.args.form c.args.f.now) (sym q)
          (says c.args.form c.args.f.now);
      value = q;
    }
