-- A volume directory's record that is written from a plan which is allowed is a first record that names it: header, text and pointer count, each read at
-- its place.
use mathlib.Core.Path.{refl}
use native.Mathlib.Omega.{arith}
use Rattle.words.specs.Words.{place_of}
use Rattle.decimal.specs.declared.Form.TheVariants.{I4}
use Rattle.plan.specs.Tables.{other_codes}
use Rattle.plan.specs.Plan.{first_length, first_codes}
use Rattle.plan.specs.declared.Plan.{Plan}
use Rattle.promises.specs.Newest.{VolumeDescriptor}
use Rattle.promises.specs.Rules.{volume}
use Rattle.promises.specs.Bytes.{Bytes}
use Rattle.promises.specs.Witness.{four, made, blanks, first_of}
use Rattle.promises.proofs.WitnessFirst.{blank}
use Rattle.first_records.specs.Allowed.{AllowedVolume}
use Rattle.first_records.specs.FirstRecord.{columns, volume_written, record_of}
use Rattle.first_records.proofs.Columns.{numbered, columns_bytes}
use Rattle.first_records.proofs.Headed.{first_headed, first_bytes_lem}

module _ (p : Plan) where
  pub volume_named : AllowedVolume p → VolumeDescriptor (record_of volume p) p
  unfolding record_of volume_written columns blanks first_of made four first_length first_codes other_codes place_of
  volume_named a =
      record {
        is = first_headed 1 (volume_written p) refl;
        ab = refl;
        pointers = numbered (record_of volume p) 161 I4 refl (omega arith) 3 6 p.pointers (omega arith) refl a.pointers;
      }

  pub volume_bytes : Bytes (record_of volume p)
  unfolding record_of volume_written
  volume_bytes = first_bytes_lem volume (volume_written p) (omega arith, (blank 146, (columns_bytes 4 p.pointers, (blank 196, tt))))
