-- The plan's numbers that a first record names, numbers that the kind does not use being 0; and what is found in a record, with the plan behind it. Assumes
-- nothing.
use Rattle.std.specs.Prelude.{ℕ, List, eqb, replicate, Result}
use Rattle.words.specs.Tests.{pick}
use Rattle.words.specs.declared.Refusal.{Refusal}
use Rattle.decimal.specs.declared.Form.TheVariants.{I4, I6, I8}
use Rattle.plan.specs.Tables.{rows}
use Rattle.plan.specs.Plan.{volume, leader, image, zero_plan}
use Rattle.plan.specs.declared.Plan.{Plan}
use Rattle.verdicts.specs.Tests.{first_fault, named_by}
use Rattle.verdicts.specs.Numbers.{number_at}
use Rattle.bodies.specs.Bodies.{first_tests, body_of}
use Rattle.leader.specs.Leader.{counts_of, lengths_of}
use Rattle.image.specs.Image.{sort_in}

-- the plan that the first record of a file of that kind names
unfoldable pub plan_of : ℕ → List ℕ → Plan
plan_of kind r =
    pick (eqb kind volume)
    (record { pointers = number_at r 161 I4; counts = replicate rows 0; lengths = replicate rows 0; n = 0; l = 0; w = 0; d = 0; s = 0; sort = 0 })
    (pick (eqb kind leader)
    (record { pointers = 0; counts = counts_of r; lengths = lengths_of r; n = 0; l = 0; w = 0; d = 0; s = 0; sort = 0 })
    (pick (eqb kind image)
    (record {
      pointers = 0;
      counts = replicate rows 0;
      lengths = replicate rows 0;
      n = number_at r 181 I6;
      l = number_at r 187 I6;
      w = number_at r 249 I8;
      d = number_at r 281 I8;
      s = number_at r 289 I4;
      sort = sort_in r;
    })
    zero_plan))

-- what is found in a first record of the kind: the plan that it names, or its first fault
unfoldable pub first_of : ℕ → List ℕ → Result Plan Refusal
first_of kind r = named_by (first_fault (first_tests kind r)) (plan_of kind r)

-- what is found in record k, which is of that run: the plan behind it, which behind a record that is not the first is as it was, or its first fault
unfoldable pub found_of : ℕ → ℕ → Plan → ℕ → List ℕ → Result Plan Refusal
found_of kind run p k r = pick (eqb run 0) (first_of kind r) (named_by (body_of kind run p k r) p)
