-- A volume directory's first record without a fault is exactly the descriptor that `Rules` describes, for the plan whose pointer count it says:
-- header, text and number, test by test.
use Prim.Native.Nat.{ℕ}
use mathlib.Core.Path.{◌≡◌, refl}
use mathlib.Core.List.{List}
use mathlib.Core.Logic.{◌↔◌}
use native.Mathlib.Omega.{arith}
use lib.ListN.{length}
use Rattle.std.specs.Prelude.{Ok}
use Rattle.words.specs.Words.{place_of}
use Rattle.decimal.specs.Text.{bytes}
use Rattle.decimal.specs.declared.Form.TheVariants.{I4}
use Rattle.plan.specs.Tables.{other_codes}
use Rattle.plan.specs.Plan.{first_codes}
use Rattle.plan.specs.declared.Plan.{Plan}
use Rattle.verdicts.specs.Numbers.{number_at, numbers_tests}
use Rattle.volume.specs.Volume.{volume_tests, volume_record}
use Rattle.bodies.specs.Bodies.{body_of, body_tests}
use Rattle.verdicts.proofs.Holding.{fine_holds, holds_fine}
use Rattle.headers.specs.Header.{header_of}
use Rattle.promises.specs.Newest.{VolumeDescriptor}
use Rattle.promises.proofs.Parts.{text_is, header_is, number_is}

pub volume_is : (p q : Plan) (r : List ℕ) → length r ≡ 360
    → ((header_of 1 (first_codes 1) 360 r ≡ Ok tt) × (body_of 1 0 p 0 r ≡ Ok tt) × (number_at r 161 I4 ≡ q.pointers)) ↔ VolumeDescriptor r q
unfolding body_of body_tests volume_record volume_tests numbers_tests first_codes other_codes place_of
volume_is p q r size = (
  λ h.
      let t = fine_holds (volume_tests r) h.1 in
      record {
        is = (header_is 1 (first_codes 1) 360 r size).0 h.0;
        ab = (text_is r 12 (bytes "A ") (omega arith)).0 t.0;
        pointers = (number_is r 161 I4 (omega arith) refl 3 6 q.pointers).0 (t.1, h.2);
      },
  λ d.
      let n = (number_is r 161 I4 (omega arith) refl 3 6 q.pointers).1 d.pointers in (
        (header_is 1 (first_codes 1) 360 r size).1 d.is,
        holds_fine (volume_tests r) ((text_is r 12 (bytes "A ") (omega arith)).1 d.ab, n.0),
        n.1,
      ),
)
