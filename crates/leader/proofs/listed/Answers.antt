-- The fields from i on have the first fault of the fields from the first: each field passed had none.
use Prim.Native.Nat.{ℕ}
use mathlib.Core.Path.{◌≡◌, sym, ap, ◌∙◌}
use mathlib.Core.List.{List}
use borrow.Author.Rules.{rules}
use Rattle.std.specs.Prelude.{Err}
use Rattle.words.specs.Words.{place_of}
use Rattle.decimal.specs.declared.Form.TheVariants.{I4}
use Rattle.fields.specs.Listed.{row, table, listed}
use Rattle.fields.specs.declared.Listed.{Listed}
use Rattle.verdicts.specs.Tests.{first_fault, fault_of}
use Rattle.verdicts.specs.Numbers.{at}
use Rattle.leader.specs.Leader.{listed_tests}
use Rattle.verdicts.proofs.FieldLaws.{at_unnamed, readable_fault}
use Rattle.verdicts.proofs.TestLaws as laws
use Rattle.leader.proofs.listed.Goals as goal

-- the verdict on listed field i is the first fault of its test
field_fault : (r : List ℕ) (x : Listed) → first_fault (listed_tests r x) ≡ fault_of (at r x.first x.form)
field_fault r x = sym (readable_fault (place_of x.first) (at r x.first x.form) (at_unnamed r x.first x.form))

pub returns-in_err-fault : goal.returns-in_err-fault
unfolding listed
returns-in_err-fault c =
    let r = c.args.r.now in
    let l = c.loop-i in
    let e : c.from_residual.result ≡ Err c.in_err-fault.field-0.0 = search rules in
    let v = field_fault r (listed l.i)
    ∙ sym (c.fault.ensures ∙ ap fault_of (c.field.ensures ∙ ap (λ (x : Listed). at r x.first x.form) c.listed_row-row.ensures))
    ∙ c.in_err-fault.was in
    e ∙ sym (l.invariant ∙ laws.row_found (listed_tests r) table (row 0 I4) l.i c.args.to c.loop-i-test.true c.requires.1 v)

pub loop-i-preserved : goal.loop-i-preserved
unfolding listed
loop-i-preserved c =
    let r = c.args.r.now in
    let l = c.loop-i in
    let v = field_fault r (listed l.i)
    ∙ sym (c.fault.ensures ∙ ap fault_of (c.field.ensures ∙ ap (λ (x : Listed). at r x.first x.form) c.listed_row-row.ensures))
    ∙ c.in_ok-fault.was in
    l.invariant ∙ laws.row_passed (listed_tests r) table (row 0 I4) l.i c.args.to c.loop-i-test.true c.requires.1 v

pub returns : goal.returns
returns c =
    let l = c.loop-i in
    sym (l.invariant ∙ laws.rows_end (listed_tests c.args.r.now) table (row 0 I4) l.i c.args.to c.requires.1 c.loop-i-test.false)
