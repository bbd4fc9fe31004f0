-- A first record put together of its header and parts of the right length in all is headed as its kind asks, and its bytes are bytes.
use Prim.Native.Nat.{ℕ, ◌+◌, ◌<◌}
use mathlib.Core.Path.{◌≡◌, ◌∙◌}
use mathlib.Core.List.{List}
use native.Mathlib.Omega.{arith}
use lib.ListN.{length}
use Rattle.plan.specs.Tables.{other_codes}
use Rattle.plan.specs.Plan.{first_length, first_codes}
use Rattle.promises.specs.Bytes.{Bytes}
use Rattle.promises.specs.Rules.{Kind, volume, leader, image, trailer, kind_number, Record, concat}
use Rattle.promises.specs.Witness.{first_of}
use Rattle.promises.proofs.Made.{made_header, made_length, made_bytes, bytes_concat, Each, Small}
use Rattle.promises.proofs.Parts.{CodedBy, header_is}

module _ (kind : ℕ) (ps : List (List ℕ)) (size : 12 + length (concat ps) ≡ first_length kind) where
  pub first_long : length (first_of kind ps) ≡ first_length kind
  unfolding first_of
  first_long = made_length 1 (first_codes kind) (first_length kind) (concat ps) ∙ size

  pub first_headed : Record 1 (CodedBy (first_codes kind)) (first_length kind) (first_of kind ps)
  unfolding first_of
  first_headed =
      (header_is 1 (first_codes kind) (first_length kind) (first_of kind ps) first_long).0
      (made_header 1 (first_codes kind) (first_length kind) (concat ps))

-- the codes of a first record are bytes
small_codes : (kind : Kind) → Small (first_codes (kind_number kind))
unfolding first_codes other_codes
small_codes volume = record { one = omega arith; two = omega arith; three = omega arith; four = omega arith }
small_codes leader = record { one = omega arith; two = omega arith; three = omega arith; four = omega arith }
small_codes image = record { one = omega arith; two = omega arith; three = omega arith; four = omega arith }
small_codes trailer = record { one = omega arith; two = omega arith; three = omega arith; four = omega arith }

small_length : (kind : Kind) → first_length (kind_number kind) < 4294967296
unfolding first_length
small_length volume = omega arith
small_length leader = omega arith
small_length image = omega arith
small_length trailer = omega arith

pub first_bytes_lem : (kind : Kind) (ps : List (List ℕ)) → Each ps → Bytes (first_of (kind_number kind) ps)
unfolding first_of
first_bytes_lem kind ps b =
    let k = kind_number kind in
    made_bytes 1 (first_codes k) (first_length k) (concat ps) (omega arith) (small_codes kind) (small_length kind) (bytes_concat ps b)
