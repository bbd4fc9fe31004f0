-- What a field of some width and shape at a place says, for the contracts of the functions that read them. Nobody need believe this file: what a field
-- of a form says is `Field`'s. Assumes nothing.
use Rattle.std.specs.Prelude.{ℕ, ◌+◌, List, ltb, length, take, drop}
use Rattle.words.specs.Tests.{pick}
use Rattle.decimal.specs.Scan.{decimal_of}
use Rattle.decimal.specs.declared.Shape.{Shape}
use Rattle.fields.specs.Field.{refuse, from_written}
use Rattle.fields.specs.declared.Field.{Field}

-- 2 where the bytes end before the field does, else what its bytes say as a field of the shape; a 6 is at the field's first byte so far
unfoldable pub shaped_at : List ℕ → ℕ → ℕ → Shape → Field
shaped_at b at n s = pick (ltb (length b) (at + n)) (refuse 2 0) (from_written at (decimal_of s (take n (drop at b))))
