-- A good state has room for every number of the record that is due.
use mathlib.Core.Path.{sym, ◌∙◌}
use Rattle.walk.proofs.GoodLaws as laws
use Rattle.walk.proofs.State.start.Goals as goal

pub due_of-requires : goal.due_of-requires
due_of-requires c =
    let r = laws.ready c.args.self (sym c.good.ensures ∙ c.if-good.true) in
    record { small = r.small; k_bound = r.within }
