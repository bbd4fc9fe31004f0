-- What a call on an image leaves behind beside its answer, for arrays of any length: the row, with answer a. Assumes nothing.
use Rattle.std.specs.Prelude.{ℕ, List}
use Rattle.words.specs.Tests.{pick}
use Rattle.copies.specs.Row.{row_of}
use Rattle.c_answer.specs.Room.{fits}

-- the row behind `sbg_row`
abbrev pub row_behind : ℕ → List ℕ → List ℕ → List ℕ → List ℕ
row_behind line bytes row a = pick (fits 5 a) (row_of bytes line row) row
