-- What a field's bytes say: a number or, of blanks alone, none; or that they are badly written. Assumes nothing.
use Rattle.std.specs.Prelude.{ℤ, Option, Some, None, Result, Ok, Err}
use Rattle.decimal.specs.declared.Number.{Number}
use Rattle.decimal.specs.declared.BadlyWritten.{BadlyWritten}

abbrev pub Written : Type 0
Written = Result (Option Number) BadlyWritten

-- so many units in the last written place, with the exponent
abbrev pub number_written : ℤ → ℤ → Written
number_written m e = Ok (Some (record { units = m; exponent = e }))

-- blanks alone
abbrev pub blank : Written
blank = Ok None

-- badly written
abbrev pub badly : Written
badly = Err (record {})
