-- A field is short or whole, a listed number is in the table or not: what the definitions say in each case, by computing their one test.
use Prim.Native.Nat.{ℕ, ◌+◌, ◌-◌, ◌≤◌, ◌<◌}
use mathlib.Core.Path.{◌≡◌, refl, sym, ap}
use mathlib.Core.List.{List}
use native.Mathlib.Nat.{min-le_left}
use native.Mathlib.Omega.{arith}
use lib.Dec.{ltb}
use lib.ListN.{length, take, drop, length-drop, length-take}
use lib.Seq.{length-take-le}
use mathlib.Core.Bool.{Bool, true, false, false≢true}
use borrow.Author.Tests.{lt-ltb, le-ltb, ltb-false}
use Rattle.std.proofs.Common.{Some, None, Ok, Err}
use Rattle.words.specs.Tests.{pick, within_of}
use Rattle.words.specs.Words.{place_of}
use Rattle.decimal.specs.Forms.{width_of, shape_of}
use Rattle.decimal.specs.Scan.{written, decimal_of}
use Rattle.decimal.specs.declared.Form.{Form}
use Rattle.decimal.specs.Written.{Written}
use Rattle.decimal.proofs.Laws.{wide}
use Rattle.bad_byte.proofs.Named.{at_most}
use Rattle.fields.specs.Shaped.{shaped_at}
use Rattle.fields.specs.Field.{refuse, from_written, field_bytes, bad_place, field_at, rough_at, badly?}
use Rattle.fields.specs.declared.Field.TheVariants.{Blank}
use Rattle.fields.specs.Listed.{listed, listed_field}

module _ (b : List ℕ) (at : ℕ) (k : Form) where
  -- the bytes end before the field does
  pub short : length b < at + width_of k → field_at b at k ≡ refuse 2 0
  unfolding field_at
  short h = rw (lt-ltb (length b) (at + width_of k) h)

  -- the field's bytes are all there
  pub whole : at + width_of k ≤ length b → field_at b at k ≡ from_written (bad_place b at k) (written k (field_bytes b at k))
  unfolding field_at
  whole h = rw (le-ltb (length b) (at + width_of k) h)

-- a listed number, and one that is not
module _ (b : List ℕ) (n : ℕ) where
  pub unlisted : within_of 1 n 13 ≡ false → listed_field b n ≡ refuse 14 0
  unfolding listed_field
  unlisted e = rw e

  pub inside : within_of 1 n 13 ≡ true → listed_field b n ≡ field_at b (place_of (listed (n - 1)).first) (listed (n - 1)).form
  unfolding listed_field
  inside e = rw e

-- a form's field is one of its width and shape
pub shaped : (b : List ℕ) (at : ℕ) (k : Form) → shaped_at b at (width_of k) (shape_of k) ≡ rough_at b at k
unfolding shaped_at rough_at
shaped b at k = go (ltb (length b) (at + width_of k)) refl
  where
    go : (t : Bool) → ltb (length b) (at + width_of k) ≡ t
        → pick t (refuse 2 0) (from_written at (decimal_of (shape_of k) (take (width_of k) (drop at b))))
        ≡ pick t (refuse 2 0) (from_written at (written k (field_bytes b at k)))
    go true e = refl
    go false e =
        let l : at + width_of k ≤ length b = ltb-false (length b) (at + width_of k) e in
        ap (from_written at) (sym (wide k (take (width_of k) (drop at b)) (length-take-le (width_of k) (drop at b) (simp length-drop (omega (arith, l))))))

-- a 6 is moved to the first bad byte, and nothing else is altered
module _ (b : List ℕ) (at : ℕ) (k : Form) where
  pub bad_there : badly? (rough_at b at k) ≡ true → at + width_of k ≤ length b
  unfolding rough_at
  bad_there = go (ltb (length b) (at + width_of k)) refl
    where
      go : (t : Bool) → ltb (length b) (at + width_of k) ≡ t → badly? (pick t (refuse 2 0) (from_written at (written k (field_bytes b at k)))) ≡ true
          → at + width_of k ≤ length b
      go true e q = absurd (false≢true q)
      go false e q = ltb-false (length b) (at + width_of k) e

  pub moved : badly? (rough_at b at k) ≡ true → refuse 6 (bad_place b at k) ≡ field_at b at k
  unfolding rough_at field_at
  moved = go (ltb (length b) (at + width_of k)) (written k (field_bytes b at k))
    where
      go : (t : Bool) (w : Written) → badly? (pick t (refuse 2 0) (from_written at w)) ≡ true
          → refuse 6 (bad_place b at k) ≡ pick t (refuse 2 0) (from_written (bad_place b at k) w)
      go true w q = absurd (false≢true q)
      go false (Ok (Some x)) q = absurd (false≢true q)
      go false (Ok None) q = absurd (false≢true q)
      go false (Err x) q = refl

  pub kept : badly? (rough_at b at k) ≡ false → rough_at b at k ≡ field_at b at k
  unfolding rough_at field_at
  kept = go (ltb (length b) (at + width_of k)) (written k (field_bytes b at k))
    where
      go : (t : Bool) (w : Written) → badly? (pick t (refuse 2 0) (from_written at w)) ≡ false
          → pick t (refuse 2 0) (from_written at w) ≡ pick t (refuse 2 0) (from_written (bad_place b at k) w)
      go true w q = refl
      go false (Ok (Some x)) q = refl
      go false (Ok None) q = refl
      go false (Err x) q = absurd (false≢true (sym q))

-- a field that is blank is there
pub blank_there : (b : List ℕ) (at : ℕ) (k : Form) → field_at b at k ≡ Blank → at + width_of k ≤ length b
unfolding field_at
blank_there b at k e = go (ltb (length b) (at + width_of k)) refl e
  where
    go : (t : Bool) → ltb (length b) (at + width_of k) ≡ t → pick t (refuse 2 0) (from_written (bad_place b at k) (written k (field_bytes b at k))) ≡ Blank
        → at + width_of k ≤ length b
    go true q h = absurd (let z : ◌≡◌ {A = ℕ} 0 1 = cc in omega arith)
    go false q h = ltb-false (length b) (at + width_of k) q

-- a field's first bad byte is no further than its end
pub bad_within : (b : List ℕ) (at : ℕ) (k : Form) → bad_place b at k ≤ at + width_of k
bad_within b at k =
    let t : length (field_bytes b at k) ≤ width_of k = rw (length-take (width_of k) (drop at b)) (min-le_left (width_of k) (length (drop at b))) in
    omega (arith, at_most (shape_of k) (field_bytes b at k), t)
