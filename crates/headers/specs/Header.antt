-- A record's first twelve bytes, step 5 of a turn (document 01, "The record and the walk"). To be read beside that page. Assumes nothing.
use Rattle.std.specs.Prelude.{ℕ, List, [], ◌∷◌, Bool, true, eqb}
use Rattle.words.specs.Tests.{pick, both_of}
use Rattle.words.specs.Words.{byte_at, four_at}
use Rattle.plan.specs.declared.Codes.{Codes}
use Rattle.verdicts.specs.Tests.{Test, Verdict, test, first_fault}

-- 5. header: sequence number (3), codes (4), length (5), each at its first byte
unfoldable pub codes_are : List ℕ → Codes → Bool
codes_are b c =
    both_of (both_of (eqb (byte_at b 4) c.one) (eqb (byte_at b 5) c.two))
    (both_of (eqb (byte_at b 6) c.three) (pick c.free true (eqb (byte_at b 7) c.four)))

unfoldable pub header_tests : ℕ → Codes → ℕ → List ℕ → List Test
header_tests ordinal c long b =
    test (eqb (four_at b 0) ordinal) 3 0 ∷ test (codes_are b c) 4 4 ∷ test (eqb (four_at b 8) long) 5 8 ∷ []

unfoldable pub header_of : ℕ → Codes → ℕ → List ℕ → Verdict
header_of ordinal c long b = first_fault (header_tests ordinal c long b)
