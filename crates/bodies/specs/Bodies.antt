-- The tests of each record's body, in document 01's order and with its byte numbers (from 1): each kind's stand in a crate of their own;
-- here are the trailer's, and which record has which ("First records and what they promise"; 000). Assumes nothing.
use Rattle.std.specs.Prelude.{ℕ, List, [], ◌∷◌, eqb}
use Rattle.words.specs.Tests.{pick}
use Rattle.plan.specs.Plan.{volume, leader, image}
use Rattle.plan.specs.declared.Plan.{Plan}
use Rattle.verdicts.specs.Tests.{Test, Verdict, first_fault}
use Rattle.verdicts.specs.Numbers.{first_text}
use Rattle.volume.specs.Volume.{volume_tests, volume_record}
use Rattle.leader.specs.Leader.{leader_tests, leader_record}
use Rattle.image.specs.Image.{image_tests, image_record}

-- a trailer's: the first record's text
unfoldable pub trailer_tests : List ℕ → List Test
trailer_tests r = first_text r ∷ []

-- the tests of a first record of the kind
unfoldable pub first_tests : ℕ → List ℕ → List Test
first_tests kind r =
    pick (eqb kind volume) (volume_tests r) (pick (eqb kind leader) (leader_tests r) (pick (eqb kind image) (image_tests r) (trailer_tests r)))

-- the tests of record k, which is of that run
unfoldable pub body_tests : ℕ → ℕ → Plan → ℕ → List ℕ → List Test
body_tests kind run p k r =
    pick (eqb kind volume) (volume_record run p.pointers k r)
    (pick (eqb kind leader) (leader_record run r) (pick (eqb kind image) (image_record run p.w k r) (trailer_tests r)))

-- what is found in record k's body
unfoldable pub body_of : ℕ → ℕ → Plan → ℕ → List ℕ → Verdict
body_of kind run p k r = first_fault (body_tests kind run p k r)
