-- Records that pass, written out in parts: with them every state that the rules allow can be completed to an accepted file (demand 3's "some accepted file").
-- Assumes nothing.
use Rattle.std.specs.Prelude.{ℕ, ◌-◌, ◌/◌, ◌%◌, List, [], ◌∷◌, ◌++◌, Bool, replicate}
use Rattle.words.specs.Tests.{pick}
use Rattle.decimal.specs.Text.{bytes}
use Rattle.plan.specs.Plan.{first_length, first_codes}
use Rattle.plan.specs.declared.Codes.{Codes}
use Rattle.plan.specs.declared.Plan.{Plan}
use Rattle.promises.specs.Rules.{concat}

-- a number as four bytes
unfoldable pub four : ℕ → List ℕ
four n = n / 256 / 256 / 256 ∷ n / 256 / 256 % 256 ∷ n / 256 % 256 ∷ n % 256 ∷ []

-- a record by its header and what follows
unfoldable pub made : ℕ → Codes → ℕ → List ℕ → List ℕ
made n c long rest = four n ++ (c.one ∷ c.two ∷ c.three ∷ c.four ∷ (four long ++ rest))

-- the class text of a pointer: the first, the last, or between
unfoldable pub class_bytes : Bool → Bool → List ℕ
class_bytes a b = pick a (bytes "SARL") (pick b (bytes "SART") (bytes "IMOP"))

-- a pointer behind its header: the class, one record, first record length 720
unfoldable pub pointer_parts : List ℕ → List (List ℕ)
pointer_parts t = replicate 52 32 ∷ t ∷ replicate 32 32 ∷ bytes "       1" ∷ bytes "     720" ∷ replicate 244 32 ∷ []

-- its bytes
unfoldable pub pointer_rest : List ℕ → List ℕ
pointer_rest t = concat (pointer_parts t)

-- line k behind its header: its number, 1, no left fill, w data pixels, no right fill
unfoldable pub line_parts : Plan → ℕ → List (List ℕ)
line_parts p k = four k ∷ four 1 ∷ four 0 ∷ four p.w ∷ four 0 ∷ replicate (p.l - 32) 0 ∷ []

-- its bytes
unfoldable pub line_rest : Plan → ℕ → List ℕ
line_rest p k = concat (line_parts p k)

-- that many blanks
unfoldable pub blanks : ℕ → List ℕ
blanks n = replicate n 32

-- three pointers
unfoldable pub volume_parts : List (List ℕ)
volume_parts = bytes "A " ∷ blanks 146 ∷ bytes "   3" ∷ blanks 196 ∷ []

-- one summary, and nothing else
unfoldable pub leader_parts : List (List ℕ)
leader_parts = bytes "A " ∷ blanks 166 ∷ bytes "     1" ∷ bytes "  4096" ∷ blanks 528 ∷ []

-- one line of one pixel, 194 bytes long
unfoldable pub image_parts : List (List ℕ)
image_parts =
    bytes "A "
    ∷ blanks 166
    ∷ bytes "     1   194"
    ∷ blanks 32
    ∷ bytes "   2       1       1    "
    ∷ bytes "       1"
    ∷ blanks 24
    ∷ bytes "       2   0"
    ∷ blanks 136
    ∷ bytes "IU2 "
    ∷ blanks 288
    ∷ []

-- nothing but the first text
unfoldable pub trailer_parts : List (List ℕ)
trailer_parts = bytes "A " ∷ blanks 706 ∷ []

-- the record of those parts
unfoldable pub first_of : ℕ → List (List ℕ) → List ℕ
first_of kind ps = made 1 (first_codes kind) (first_length kind) (concat ps)
