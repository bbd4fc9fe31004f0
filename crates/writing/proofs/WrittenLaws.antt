-- What was written stands there, and all else stays: a written text is cut where it begins and where it ends. So four bytes are read back as the number.
use Prim.Native.Nat.{ℕ, ◌+◌, ◌-◌, ◌/◌, ◌%◌, ◌^◌, ◌≤◌, ◌<◌}
use mathlib.Core.Path.{◌≡◌, refl, sym, ap, ap₂, ◌∙◌, subst}
use mathlib.Core.List.{List, [], ◌∷◌, ◌++◌, append_assoc, append-nil}
use native.Mathlib.Omega.{arith}
use lib.ListN.{length, take, drop, set, get_or, length-append, length-drop, take-append-drop}
use lib.Seq.{sets-eq, take_at, drop_at, drop-drop, length-take-le, get_or-append-add}
use Rattle.words.specs.Words.{byte_at, four_at}
use Rattle.words.proofs.Laws.{four_bytes}
use Rattle.writing.specs.Writing.{written, four_of}

-- what stands before the end of the text
written_front : (out : List ℕ) (at : ℕ) (t : List ℕ) → at + length t ≤ length out → length (take at out ++ t) ≡ at + length t
written_front out at t h = length-append (take at out) t ∙ ap (λ (k : ℕ). k + length t) (length-take-le at out (omega arith))

module _ (out : List ℕ) (at : ℕ) (t : List ℕ) (h : at + length t ≤ length out) where
  -- the text behind what stood there
  pub take_written : (r : ℕ) (new : List ℕ) → new ≡ written out at t → r ≡ at + length t → take r new ≡ take at out ++ t
  take_written r new e q = ap (take r) e ∙ take_at (take at out ++ t) (drop (at + length t) out) r (written_front out at t h ∙ sym q)

  -- behind the text all stays
  pub drop_written : (r : ℕ) (new : List ℕ) → new ≡ written out at t → r ≡ at + length t → drop r new ≡ drop r out
  drop_written r new e q =
      ap (drop r) e ∙ drop_at (take at out ++ t) (drop (at + length t) out) r (written_front out at t h ∙ sym q) ∙ ap (λ (k : ℕ). drop k out) (sym q)

  -- no byte comes and none goes
  pub length_written : (new : List ℕ) → new ≡ written out at t → length new ≡ length out
  length_written new e =
      ap length e
      ∙ length-append (take at out ++ t) (drop (at + length t) out)
      ∙ omega (arith, written_front out at t h, length-drop (at + length t) out)

  -- what a caller of `writing::text` has: the text behind what stood there, its end, which lies within the bytes, and the rest
  pub stands : (r : ℕ) (new : List ℕ) → new ≡ written out at t → r ≡ at + length t
      → (take r new ≡ take at out ++ t) × ((r ≡ at + length t) × ((r ≤ length new) × (drop r new ≡ drop r out)))
  stands r new e q = (take_written r new e q, (q, (omega (arith, length_written new e), drop_written r new e q)))

-- what stays behind a part stays behind the next one
pub stays_later : (i j : ℕ) (new old last : List ℕ) → i ≤ j → drop j last ≡ drop j new → drop i new ≡ drop i old → drop j last ≡ drop j old
stays_later i j new old last h e q =
    let s : i + (j - i) ≡ j = omega arith in
    let go : (l : List ℕ) → drop j l ≡ drop (j - i) (drop i l) = λ l. ap (λ (k : ℕ). drop k l) (sym s) ∙ sym (drop-drop (j - i) i l) in
    e ∙ go new ∙ ap (drop (j - i)) q ∙ sym (go old)

-- nothing written
pub written_none : (out : List ℕ) (at : ℕ) → written out at [] ≡ out
written_none out at = let z : at + 0 ≡ at = omega arith in
    ap (λ (l : List ℕ). l ++ drop (at + 0) out) (append-nil (take at out)) ∙ ap (λ (k : ℕ). take at out ++ drop k out) z ∙ take-append-drop at out

-- two texts, one behind the other, are one text
pub written_then : (out : List ℕ) (at : ℕ) (t u : List ℕ) → at + length t + length u ≤ length out
    → written (written out at t) (at + length t) u ≡ written out at (t ++ u)
written_then out at t u h =
    let r : ℕ = at + length t in
    let new : List ℕ = written out at t in
    let front : take r new ≡ take at out ++ t = take_written out at t (omega arith) r new refl refl in
    let back : drop (r + length u) new ≡ drop (r + length u) out =
    stays_later r (r + length u) new out new (omega arith) refl (drop_written out at t (omega arith) r new refl refl) in
    let long : r + length u ≡ at + length (t ++ u) = omega (arith, length-append t u) in
    ap₂ (λ (a b : List ℕ). a ++ u ++ b) front back
    ∙ ap (λ (l : List ℕ). l ++ drop (r + length u) out) (append_assoc (take at out) t u)
    ∙ ap (λ (k : ℕ). take at out ++ (t ++ u) ++ drop k out) long

-- the same of what a caller has: a text, and one that begins where it ended
pub written_on : (out : List ℕ) (at to : ℕ) (t u one two : List ℕ) → at + length t ≡ to → to + length u ≤ length out → one ≡ written out at t → two
    ≡ written one to u
    → two ≡ written out at (t ++ u)
written_on out at to t u one two e h p q =
    q
    ∙ ap (λ (l : List ℕ). written l to u) p
    ∙ ap (λ (i : ℕ). written (written out at t) i u) (sym e)
    ∙ written_then out at t u (omega arith)

-- one byte put
pub written_one : (out : List ℕ) (at b : ℕ) → at < length out → set out at b ≡ written out at (b ∷ [])
written_one out at b h = sets-eq (b ∷ []) out at (omega arith)

-- a byte of what was written
pub byte_written : (out : List ℕ) (at : ℕ) (t : List ℕ) (i : ℕ) → at ≤ length out → byte_at (written out at t) (at + i) ≡ byte_at
    (t ++ drop (at + length t) out) i
byte_written out at t i h =
    ap (λ (l : List ℕ). get_or l (at + i) 0) (append_assoc (take at out) t (drop (at + length t) out))
    ∙ ap (λ (k : ℕ). get_or (take at out ++ (t ++ drop (at + length t) out)) (k + i) 0) (sym (length-take-le at out h))
    ∙ get_or-append-add (take at out) (t ++ drop (at + length t) out) i 0

-- four bytes that were written are read back as the number, as far as it fits
pub four_read : (out : List ℕ) (at n : ℕ) → at ≤ length out → four_at (written out at (four_of n)) at ≡ n % 2 ^ 32
four_read out at n h =
    let new : List ℕ = written out at (four_of n) in
    let a : byte_at new (at + 0) ≡ n / 256 / 256 / 256 % 256 = byte_written out at (four_of n) 0 h in
    let b : byte_at new (at + 1) ≡ n / 256 / 256 % 256 = byte_written out at (four_of n) 1 h in
    let c : byte_at new (at + 2) ≡ n / 256 % 256 = byte_written out at (four_of n) 2 h in
    let d : byte_at new (at + 3) ≡ n % 256 = byte_written out at (four_of n) 3 h in
    let z : at + 0 ≡ at = omega arith in
    let a' : byte_at new at ≡ n / 256 / 256 / 256 % 256 = subst (λ (k : ℕ). byte_at new k ≡ n / 256 / 256 / 256 % 256) z a in
    sym (four_bytes new at) ∙ omega (arith, a', b, c, d)

-- a number of 32 bits fits
pub four_back : (out : List ℕ) (at n : ℕ) → at ≤ length out → n < 2 ^ 32 → four_at (written out at (four_of n)) at ≡ n
four_back out at n h l = four_read out at n h ∙ (omega arith)
