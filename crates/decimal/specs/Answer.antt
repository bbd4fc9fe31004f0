-- What is written, in the words of document 01: a value with its exponent, blank, or badly written. Assumes nothing.
use Rattle.words.specs.Answer.{Answer, valued, bare, blank, badly}
use Rattle.std.specs.Prelude.{Some, None, Ok, Err}
use Rattle.decimal.specs.Written.{Written}

-- document 01's word and numbers for each case
abbrev pub written_as : Written → Answer
written_as (Ok (Some x)) = valued x.units x.exponent
written_as (Ok None) = bare blank
written_as (Err x) = bare badly
