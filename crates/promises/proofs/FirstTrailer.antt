-- A trailer's record without a fault is exactly the record that `Rules` describes: its header and its one text, test by test.
use Prim.Native.Nat.{ℕ}
use mathlib.Core.Path.{◌≡◌}
use mathlib.Core.List.{List}
use mathlib.Core.Logic.{◌↔◌}
use native.Mathlib.Omega.{arith}
use lib.ListN.{length}
use Rattle.std.specs.Prelude.{Ok}
use Rattle.words.specs.Words.{place_of}
use Rattle.decimal.specs.Text.{bytes}
use Rattle.plan.specs.Tables.{other_codes}
use Rattle.plan.specs.Plan.{first_codes}
use Rattle.plan.specs.declared.Plan.{Plan}
use Rattle.bodies.specs.Bodies.{body_of, body_tests, trailer_tests}
use Rattle.verdicts.proofs.Holding.{fine_holds, holds_fine}
use Rattle.headers.specs.Header.{header_of}
use Rattle.promises.specs.Rules.{TrailerRecord}
use Rattle.promises.proofs.Parts.{text_is, header_is}

pub trailer_is : (p q : Plan) (r : List ℕ) → length r ≡ 720 → ((header_of 1 (first_codes 4) 720 r ≡ Ok tt) × (body_of 4 0 p 0 r ≡ Ok tt)) ↔ TrailerRecord r q
unfolding body_of body_tests trailer_tests first_codes other_codes place_of
trailer_is p q r size = (
  λ h.
      record {
        is = (header_is 1 (first_codes 4) 720 r size).0 h.0;
        ab = (text_is r 12 (bytes "A ") (omega arith)).0 (fine_holds (trailer_tests r) h.1).0;
      },
  λ t. (
    (header_is 1 (first_codes 4) 720 r size).1 t.is,
    holds_fine (trailer_tests r) ((text_is r 12 (bytes "A ") (omega arith)).1 t.ab, tt),
  ),
)
