-- Records put together to pass: a header that says its number, codes and length, whatever follows it; and that its bytes are bytes.
use Prim.Native.Nat.{ℕ, zero, suc, ◌+◌, ◌*◌, ◌<◌, ◌/◌, ◌%◌}
use mathlib.Core.Path.{◌≡◌, refl}
use mathlib.Core.List.{List, [], ◌∷◌, ◌++◌}
use mathlib.Core.Bool.{Bool, true, false}
use native.Mathlib.Omega.{arith}
use lib.Dec.{eqb}
use lib.ListN.{length, replicate}
use borrow.Author.Tests.{eq-eqb}
use Rattle.std.specs.Prelude.{Ok}
use Rattle.words.specs.Tests.{pick}
use Rattle.words.specs.Words.{two_at, four_at}
use Rattle.words.proofs.Laws.{both_make}
use Rattle.plan.specs.declared.Codes.{Codes}
use Rattle.verdicts.proofs.Holding.{holds_fine}
use Rattle.headers.specs.Header.{codes_are, header_tests, header_of}
use Rattle.promises.specs.Witness.{four, made}
use Rattle.promises.specs.Bytes.{Bytes}
use Rattle.promises.specs.Rules.{concat}

pub four_sum : (n : ℕ) → (n / 256 / 256 / 256 * 256 + n / 256 / 256 % 256) * 65536 + (n / 256 % 256 * 256 + n % 256) ≡ n
four_sum n = omega arith

pub four_bytes : (n : ℕ) → n < 4294967296 → Bytes (four n)
unfolding four
four_bytes n h = (omega arith, (omega arith, (omega arith, (omega arith, tt))))

any_same : (b x : Bool) → x ≡ true → pick b true x ≡ true
any_same true x e = refl
any_same false x e = e

module _ (n : ℕ) (c : Codes) (long : ℕ) (rest : List ℕ) where
  made_codes : codes_are (made n c long rest) c ≡ true
  unfolding codes_are made four
  made_codes =
      both_make _ _ (both_make _ _ (eq-eqb c.one c.one refl) (eq-eqb c.two c.two refl))
      (both_make _ _ (eq-eqb c.three c.three refl) (any_same c.free (eqb c.four c.four) (eq-eqb c.four c.four refl)))

  made_number : four_at (made n c long rest) 0 ≡ n
  unfolding four_at two_at made four
  made_number = four_sum n

  made_says : four_at (made n c long rest) 8 ≡ long
  unfolding four_at two_at made four
  made_says = four_sum long

  pub made_header : header_of n c long (made n c long rest) ≡ Ok tt
  unfolding header_of header_tests
  made_header =
      holds_fine (header_tests n c long (made n c long rest)) (eq-eqb _ _ made_number, (made_codes, (eq-eqb _ _ made_says, tt)))

  pub made_length : length (made n c long rest) ≡ 12 + length rest
  unfolding made four
  made_length = omega arith

-- ---- bytes

pub bytes_join : (xs ys : List ℕ) → Bytes xs → Bytes ys → Bytes (xs ++ ys)
bytes_join [] ys h k = k
bytes_join (x ∷ xs) ys h k = (h.0, bytes_join xs ys h.1 k)

pub bytes_same : (n b : ℕ) → b < 256 → Bytes (replicate n b)
bytes_same zero b h = tt
bytes_same (suc n) b h = (h, bytes_same n b h)

-- parts one after the other
abbrev pub Each : List (List ℕ) → Type 0
Each [] = Unit {0}
Each (r ∷ rs) = Bytes r × Each rs

pub bytes_concat : (rs : List (List ℕ)) → Each rs → Bytes (concat rs)
bytes_concat [] h = tt
bytes_concat (r ∷ rs) h = bytes_join r (concat rs) h.0 (bytes_concat rs h.1)

-- codes that are bytes
pub record Small (c : Codes) : Type 0 where
  pub one : c.one < 256
  pub two : c.two < 256
  pub three : c.three < 256
  pub four : c.four < 256

pub made_bytes : (n : ℕ) (c : Codes) (long : ℕ) (rest : List ℕ) → n < 4294967296 → Small c → long < 4294967296 → Bytes rest → Bytes (made n c long rest)
unfolding made
made_bytes n c long rest hn s hl h =
    bytes_join (four n) (c.one ∷ c.two ∷ c.three ∷ c.four ∷ (four long ++ rest)) (four_bytes n hn)
    (s.one, (s.two, (s.three, (s.four, bytes_join (four long) rest (four_bytes long hl) h))))
