-- What a number field at a place of some bytes says, and that answer in document 01's words. Assumes nothing.
use Rattle.std.specs.Prelude.{ℕ, ◌+◌, List, Bool, false, eqb, ltb, length, take, drop, Some, None, Ok, Err}
use Rattle.words.specs.Tests.{pick}
use Rattle.words.specs.Answer.{Answer, valued, bare, blank, refused_as, refusal_at}
use Rattle.decimal.specs.Forms.{width_of, shape_of}
use Rattle.decimal.specs.Scan.{written}
use Rattle.decimal.specs.declared.Form.{Form}
use Rattle.decimal.specs.Written.{Written}
use Rattle.bad_byte.specs.Columns.{bad_in}
use Rattle.fields.specs.declared.Field.{Field}
use Rattle.fields.specs.declared.Field.TheVariants.{Value, Blank, Refused}

-- document 01's word and numbers for each case
abbrev pub field_as : Field → Answer
field_as (Value m e) = valued m e
field_as Blank = bare blank
field_as (Refused r) = refused_as r

-- a refusal of a field: ordinal 0
abbrev pub refuse : ℕ → ℕ → Field
refuse n at = Refused (refusal_at n at)

-- badly written is refusal 6, at that place
abbrev pub from_written : ℕ → Written → Field
from_written at (Ok (Some x)) = Value x.units x.exponent
from_written at (Ok None) = Blank
from_written at (Err x) = refuse 6 at

-- the bytes of the field of a form at a place
abbrev pub field_bytes : List ℕ → ℕ → Form → List ℕ
field_bytes b at k = take (width_of k) (drop at b)

-- the place of its first bad byte, where it is badly written (document 02, No. 5)
abbrev pub bad_place : List ℕ → ℕ → Form → ℕ
bad_place b at k = at + bad_in (shape_of k) (field_bytes b at k)

-- what stands there: 2 where the bytes end before the field does, else what is written
unfoldable pub field_at : List ℕ → ℕ → Form → Field
field_at b at k = pick (ltb (length b) (at + width_of k)) (refuse 2 0) (from_written (bad_place b at k) (written k (field_bytes b at k)))

-- ---- how the code goes about it: nobody need believe what follows

-- the same, with a 6 at the field's first byte
unfoldable pub rough_at : List ℕ → ℕ → Form → Field
rough_at b at k = pick (ltb (length b) (at + width_of k)) (refuse 2 0) (from_written at (written k (field_bytes b at k)))

-- a field that is badly written
abbrev pub badly? : Field → Bool
badly? (Value m e) = false
badly? Blank = false
badly? (Refused x) = eqb x.number 6
