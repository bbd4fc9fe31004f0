-- The parts of a written number as functions of its bytes, from left to right: what the functions of `src/` compute. Nobody need believe
-- this file: `Sound` and `Complete` of `decimal` show that what is made of it says what its `Grammar` says. Assumes nothing.
use Rattle.std.specs.Prelude.{ℕ, ◌+◌, ◌-◌, ◌*◌, ◌^◌, ◌≤◌, ◌<◌, ◌≡◌, List, [], ◌∷◌, Bool, true, false, eqb, leb, length, get_or, take, drop, Option, Some, None}
use Rattle.std.proofs.Math.Seq.{slice}
use Rattle.words.specs.Tests.{pick, within_of}
use Rattle.digits.specs.declared.Signed.{Signed}

-- what is left of the bytes after the blanks at their front
abbrev pub after_blanks : List ℕ → List ℕ
after_blanks [] = []
after_blanks (c ∷ cs) = pick (eqb c 32) (after_blanks cs) (c ∷ cs)

-- the byte is a digit
abbrev pub digit? : ℕ → Bool
digit? c = within_of 48 c 57

-- the number that the digits cs make behind a; None where one is no digit
abbrev pub digits_of : ℕ → List ℕ → Option ℕ
digits_of a [] = Some a
digits_of a (c ∷ cs) = pick (digit? c) (digits_of (a * 10 + (c - 48)) cs) None

-- a part that was read: a sign, true for minus, and its digits
abbrev pub signed : Bool → ℕ → Option Signed
signed s a = Some (record { minus = s; digits = a })

-- digits that were read, with their sign
abbrev pub with_sign : Bool → Option ℕ → Option Signed
with_sign s (Some a) = signed s a
with_sign s None = None

-- what follows a sign: blanks may stand there where a gap is allowed
abbrev pub after_gap : Bool → List ℕ → List ℕ
after_gap true cs = after_blanks cs
after_gap false cs = cs

-- a sign, or none, and digits
abbrev pub sign_of : Bool → List ℕ → Option Signed
sign_of gap [] = signed false 0
sign_of gap (c ∷ cs) =
    pick (eqb c 45) (with_sign true (digits_of 0 (after_gap gap cs)))
    (pick (eqb c 43) (with_sign false (digits_of 0 (after_gap gap cs))) (with_sign false (digits_of 0 (c ∷ cs))))

-- blanks, a sign or none, and digits
abbrev pub head_of : Bool → List ℕ → Option Signed
head_of gap hs = sign_of gap (after_blanks hs)

-- how many bytes of a number's front are its sign, by its first byte
abbrev pub signs : ℕ → ℕ
signs c = pick (eqb c 45) 1 (pick (eqb c 43) 1 0)

-- what is to follow digits that were read, or that they were not
abbrev pub on_digits : Option ℕ → (ℕ → Option ℕ) → Option ℕ
on_digits (Some a) g = g a
on_digits None g = None

-- behind blanks, the digits from a place up to the point at h, the point, and the digits up to e; None where that place is behind the point's
unfoldable pub pointed_of : List ℕ → ℕ → ℕ → ℕ → Option ℕ
pointed_of f from h e =
    pick (leb from h)
    (on_digits (digits_of 0 (after_blanks (slice from h f))) (λ a. pick (eqb (get_or f h 0) 46) (digits_of a (slice (h + 1) e f)) None))
    None

-- what is to follow a part that was read, or that it was not
abbrev pub on_part : {A : Type 0} → Option Signed → A → (Bool → ℕ → A) → A
on_part (Some p) x g = g p.minus p.digits
on_part None x g = x

-- the place of the point, where there is one: d bytes stand behind it
abbrev pub pointed : Bool → ℕ → ℕ
pointed true n = n - 1
pointed false n = n

-- the byte is the point, where one is asked
abbrev pub point? : Bool → ℕ → Bool
point? true c = eqb c 46
point? false c = true

-- blanks, a sign or none, digits, the point where p says so, and d digits; blanks may stand behind the sign where there is a point
unfoldable pub mantissa_of : Bool → ℕ → List ℕ → Option Signed
mantissa_of p d bs =
    let tail = length bs - d in
    let head = pointed p tail in
    on_part (head_of p (take head bs)) None (λ s a. pick (point? p (get_or bs head 0)) (with_sign s (digits_of a (drop tail bs))) None)

-- the sign and the digits of an exponent
abbrev pub signed_digits : ℕ → List ℕ → Option Signed
signed_digits s cs = pick (eqb s 45) (with_sign true (digits_of 0 cs)) (pick (eqb s 43) (with_sign false (digits_of 0 cs)) None)

-- `E`, a sign and digits
unfoldable pub exponent_of : List ℕ → Option Signed
exponent_of [] = None
exponent_of (c ∷ []) = None
exponent_of (c ∷ (s ∷ cs)) = pick (eqb c 69) (signed_digits s cs) None

-- digits that were read make a number below n
abbrev pub Under : ℕ → Option ℕ → Type 0
Under n (Some a) = a < n
Under n None = Unit {0}

-- a part that was read has digits below n
abbrev pub Small : ℕ → Option Signed → Type 0
Small n (Some p) = p.digits < n
Small n None = Unit {0}

-- r is the first place from at on that holds no blank
pub record Skipped (f : List ℕ) (at end r : ℕ) : Type 0 where
  pub from : at ≤ r
  pub upto : r ≤ end
  pub rest : slice r end f ≡ after_blanks (slice at end f)

-- r is the part x, and is small
pub record Is (n : ℕ) (x r : Option Signed) : Type 0 where
  pub is : r ≡ x
  pub small : Small (10 ^ n) r
