-- A trailer's record names the plan of zeros: header and text.
use mathlib.Core.Path.{refl}
use Rattle.words.specs.Words.{place_of}
use Rattle.plan.specs.Tables.{other_codes}
use Rattle.plan.specs.Plan.{first_length, first_codes}
use Rattle.plan.specs.declared.Plan.{Plan}
use Rattle.promises.specs.Rules.{TrailerRecord, trailer}
use Rattle.promises.specs.Bytes.{Bytes}
use Rattle.promises.specs.Witness.{four, made, blanks, trailer_parts, first_of}
use Rattle.promises.proofs.WitnessFirst.{trailer_each}
use Rattle.first_records.specs.FirstRecord.{record_of}
use Rattle.first_records.proofs.Headed.{first_headed, first_bytes_lem}

module _ (p : Plan) where
  pub trailer_named : TrailerRecord (record_of trailer p) p
  unfolding record_of trailer_parts blanks first_of made four first_length first_codes other_codes place_of
  trailer_named = record { is = first_headed 4 trailer_parts refl; ab = refl }

  pub trailer_bytes : Bytes (record_of trailer p)
  unfolding record_of
  trailer_bytes = first_bytes_lem trailer trailer_parts trailer_each
