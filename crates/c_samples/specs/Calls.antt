-- What a call on an image's samples leaves behind beside its answer, for arrays of any length: the row of patterns, with answer a. Assumes nothing.
use Rattle.std.specs.Prelude.{ℕ, List}
use Rattle.words.specs.Tests.{pick}
use Rattle.complex_rows.specs.Parts.{parts_row}
use Rattle.c_answer.specs.Room.{fits}

-- the row behind `sbg_complex_row`
abbrev pub parts_behind : ℕ → List ℕ → List ℕ → List ℕ → List ℕ
parts_behind line bytes row a = pick (fits 5 a) (parts_row bytes line row) row
