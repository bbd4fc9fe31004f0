-- Some bytes pass as the first record of each kind: one record a kind, written out in parts, and its tests computed.
use Prim.Native.Nat.{ℕ, zero, suc, ◌+◌, ◌≤◌, ◌<◌}
use mathlib.Core.Path.{◌≡◌, refl, ◌∙◌}
use mathlib.Core.List.{List}
use native.Mathlib.Omega.{arith}
use lib.ListN.{length}
use Rattle.std.specs.Prelude.{Ok}
use Rattle.words.specs.Words.{place_of}
use Rattle.digits.specs.Segments.{mantissa_of}
use Rattle.decimal.specs.Scan.{number_in, decimal_of, written}
use Rattle.fields.specs.Field.{field_at}
use Rattle.plan.specs.Tables.{slot_of, other_codes, sort_of}
use Rattle.plan.specs.Plan.{first_length, first_codes}
use Rattle.plan.specs.declared.Plan.{Plan}
use Rattle.verdicts.specs.Tests.{first_fault, text_at}
use Rattle.verdicts.specs.Numbers.{numbers_tests}
use Rattle.volume.specs.Volume.{volume_tests, volume_record}
use Rattle.leader.specs.Leader.{count_at, pair_tests, leader_tests, leader_record}
use Rattle.image.specs.Image.{image_tests, image_record, agree_tests}
use Rattle.bodies.specs.Bodies.{trailer_tests, body_tests, body_of}
use Rattle.headers.specs.Header.{header_of}
use Rattle.promises.specs.Bytes.{Bytes}
use Rattle.promises.specs.Rules.{concat}
use Rattle.promises.specs.Witness.{four, made, blanks, volume_parts, leader_parts, image_parts, trailer_parts, first_of}
use Rattle.promises.proofs.Made.{made_header, made_length, made_bytes, bytes_concat, bytes_same, Each, Small}

pub blank : (n : ℕ) → Bytes (blanks n)
unfolding blanks
blank n = bytes_same n 32 (omega arith)

volume_each : Each volume_parts
unfolding volume_parts
volume_each = (omega arith, (blank 146, (omega arith, (blank 196, tt))))

leader_each : Each leader_parts
unfolding leader_parts
leader_each = (omega arith, (blank 166, (omega arith, (omega arith, (blank 528, tt)))))

image_each : Each image_parts
unfolding image_parts
image_each =
    (omega arith, (blank 166, (omega arith, (blank 32, (omega arith, (omega arith, (blank 24, (omega arith, (blank 136, (omega arith, (blank 288, tt)))))))))))

pub trailer_each : Each trailer_parts
unfolding trailer_parts
trailer_each = (omega arith, (blank 706, tt))

module _ (p : Plan) where
  volume_body : body_of 1 0 p 0 (first_of 1 volume_parts) ≡ Ok tt
  unfolding first_of volume_parts blanks body_of body_tests volume_record volume_tests numbers_tests first_fault text_at field_at place_of mantissa_of number_in
      decimal_of written made four
  volume_body = refl

  leader_body : body_of 2 0 p 0 (first_of 2 leader_parts) ≡ Ok tt
  unfolding first_of leader_parts blanks body_of body_tests leader_record leader_tests pair_tests count_at slot_of first_fault text_at field_at
      place_of mantissa_of
      number_in decimal_of written made four
  leader_body = refl

  image_body : body_of 3 0 p 0 (first_of 3 image_parts) ≡ Ok tt
  unfolding first_of image_parts blanks body_of body_tests image_record image_tests agree_tests numbers_tests first_fault text_at field_at place_of mantissa_of
      number_in decimal_of written made four sort_of
  image_body = refl

  trailer_body : body_of 4 0 p 0 (first_of 4 trailer_parts) ≡ Ok tt
  unfolding first_of trailer_parts blanks body_of body_tests trailer_tests first_fault text_at place_of made four
  trailer_body = refl

-- ---- together

abbrev Passing : ℕ → Type 0
Passing kind =
    (r : List ℕ) × Bytes r × (length r ≡ first_length kind)
    × ((p : Plan) → header_of 1 (first_codes kind) (first_length kind) r ≡ Ok tt)
    × ((p : Plan) → body_of kind 0 p 0 r ≡ Ok tt)

module _ (kind : ℕ) (ps : List (List ℕ)) where
  put : first_length kind < 4294967296 → Small (first_codes kind) → Each ps → 12 + length (concat ps) ≡ first_length kind
      → ((p : Plan) → body_of kind 0 p 0 (first_of kind ps) ≡ Ok tt) → Passing kind
  unfolding first_of
  put h c b e f = (
    first_of kind ps,
    made_bytes 1 (first_codes kind) (first_length kind) (concat ps) (omega arith) c h (bytes_concat ps b),
    made_length 1 (first_codes kind) (first_length kind) (concat ps) ∙ e,
    λ p. made_header 1 (first_codes kind) (first_length kind) (concat ps),
    f,
  )

-- some bytes pass as the first record, whatever plan stood in the state
pub first_some : (kind : ℕ) → 1 ≤ kind → kind ≤ 4
    → (r : List ℕ) × Bytes r × (length r ≡ first_length kind)
    × ((p : Plan) → header_of 1 (first_codes kind) (first_length kind) r ≡ Ok tt)
    × ((p : Plan) → body_of kind 0 p 0 r ≡ Ok tt)
unfolding first_length first_codes other_codes volume_parts leader_parts image_parts trailer_parts blanks
first_some zero a b = absurd (omega arith)
first_some (suc zero) a b =
    put 1 volume_parts (omega arith) (record { one = omega arith; two = omega arith; three = omega arith; four = omega arith }) volume_each refl volume_body
first_some (suc (suc zero)) a b =
    put 2 leader_parts (omega arith) (record { one = omega arith; two = omega arith; three = omega arith; four = omega arith }) leader_each refl leader_body
first_some (suc (suc (suc zero))) a b =
    put 3 image_parts (omega arith) (record { one = omega arith; two = omega arith; three = omega arith; four = omega arith }) image_each refl image_body
first_some (suc (suc (suc (suc zero)))) a b =
    put 4 trailer_parts (omega arith) (record { one = omega arith; two = omega arith; three = omega arith; four = omega arith }) trailer_each refl trailer_body
first_some (suc (suc (suc (suc (suc kind))))) a b = absurd (omega arith)
