-- The seven forms in use: how wide each is, and what shape of number it holds (document 01, "Written numbers"; 002 for the notation). Assumes nothing.
use Rattle.std.specs.Prelude.{ℕ}
use Rattle.decimal.specs.declared.Form.{Form}
use Rattle.decimal.specs.declared.Form.TheVariants.{I4, I6, I8, I16, F8d3, F16d7, E20d13}
use Rattle.decimal.specs.declared.Shape.{Shape}
use Rattle.decimal.specs.declared.Shape.TheVariants.{Whole, Fixed, Expo}

-- how many bytes a field of the form has
abbrev pub width_of : Form → ℕ
width_of I4 = 4
width_of I6 = 6
width_of I8 = 8
width_of I16 = 16
width_of F8d3 = 8
width_of F16d7 = 16
width_of E20d13 = 20

-- whether it is whole, has places, or has an exponent too
abbrev pub shape_of : Form → Shape
shape_of I4 = Whole
shape_of I6 = Whole
shape_of I8 = Whole
shape_of I16 = Whole
shape_of F8d3 = Fixed 3
shape_of F16d7 = Fixed 7
shape_of E20d13 = Expo 13
