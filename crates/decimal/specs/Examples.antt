-- Document 01's table of examples so far as it concerns written numbers: P1 to P10, as rows of one list.
use Rattle.std.specs.Prelude.{◌≡◌, refl, List, [], ◌∷◌, map, pos, negsuc}
use Prim.Native.String.{String}
use Rattle.decimal.specs.Text.{bytes}
use Rattle.digits.specs.Segments.{mantissa_of, exponent_of}
use Rattle.decimal.specs.Scan.{written, decimal_of, number_in}
use Rattle.decimal.specs.declared.Form.{Form}
use Rattle.decimal.specs.declared.Form.TheVariants.{I6, F8d3, F16d7, E20d13}
use Rattle.decimal.specs.Answer.{written_as}
use Rattle.words.specs.Answer.{Answer, valued, bare, blank, badly}

-- a field as it is printed, with its form
pub record Example : Type 0 where
  pub form : Form
  pub text : String

-- what it says
abbrev pub says : Example → Answer
says x = written_as (written x.form (bytes x.text))

-- P1 to P10, in order
abbrev pub table : List Example
table =
    record { form = F8d3; text = "  90.000" }
    ∷ record { form = F16d7; text = "+1234567.1234567" }
    ∷ record { form = F16d7; text = "      -0.0000000" }
    ∷ record { form = F16d7; text = "      -0.0000001" }
    ∷ record { form = F16d7; text = "-9999999.9999999" }
    ∷ record { form = F16d7; text = "99999999.9999999" }
    ∷ record { form = F16d7; text = "                " }
    ∷ record { form = F16d7; text = "     1.000000000" }
    ∷ record { form = I6; text = "     0" }
    ∷ record { form = E20d13; text = " 1.0000000000000E+02" }
    ∷ []

-- what document 01 says that they say (P8 is badly written: refusal 6 of a field)
abbrev pub said : List Answer
said =
    valued (pos 90000) (pos 0)
    ∷ valued (pos 12345671234567) (pos 0)
    ∷ valued (pos 0) (pos 0)
    ∷ valued (negsuc 0) (pos 0)
    ∷ valued (negsuc 99999999999998) (pos 0)
    ∷ valued (pos 999999999999999) (pos 0)
    ∷ bare blank
    ∷ bare badly
    ∷ valued (pos 0) (pos 0)
    ∷ valued (pos 10000000000000) (pos 2)
    ∷ []

pub examples : map says table ≡ said
unfolding written decimal_of number_in mantissa_of exponent_of
examples = refl
