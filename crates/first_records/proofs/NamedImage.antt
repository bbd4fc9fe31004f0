-- An image's record that is written from a plan which is allowed is a first record that names it: header, texts and numbers, each read at its place.
use Prim.Native.Nat.{ℕ, zero, suc, ◌≤◌}
use mathlib.Core.Path.{◌≡◌, refl, sym, ap, subst}
use mathlib.Core.List.{List, [], ◌∷◌}
use native.Mathlib.Omega.{arith}
use Rattle.words.specs.Words.{place_of}
use Rattle.decimal.specs.Text.{bytes}
use Rattle.decimal.specs.declared.Form.TheVariants.{I4, I6, I8}
use Rattle.plan.specs.Tables.{other_codes}
use Rattle.plan.specs.Plan.{first_length, first_codes}
use Rattle.plan.specs.declared.Plan.{Plan}
use Rattle.promises.specs.Newest.{Numbered, ImageDescriptor}
use Rattle.promises.specs.Rules.{image, Text, sort_of}
use Rattle.promises.specs.Bytes.{Bytes}
use Rattle.promises.specs.Witness.{four, made, blanks, first_of}
use Rattle.promises.proofs.Each.{next}
use Rattle.promises.proofs.WitnessFirst.{blank}
use Rattle.first_records.specs.Allowed.{Within, AllowedImage}
use Rattle.first_records.specs.FirstRecord.{columns, image_written, record_of}
use Rattle.first_records.proofs.Columns.{numbered, columns_bytes}
use Rattle.first_records.proofs.Headed.{first_headed, first_bytes_lem}

-- of any bytes a group and any text of four bytes that are its sort's
module _ (p : Plan) (a : AllowedImage p) (g x y z w : ℕ) where
  written : List ℕ
  written = first_of 3 (image_written g (x ∷ y ∷ z ∷ w ∷ []) p)

  described : g ≤ 9999 → g ≡ (sort_of p.sort).group → Text written 429 (sort_of p.sort).text → ImageDescriptor written p
  unfolding written image_written columns blanks first_of made four first_length first_codes other_codes place_of
  described small same text =
      let lines : Within 1 99999999 p.n = record { low = a.n.low; high = let h = a.n.high in omega arith } in
      record {
        is = first_headed 3 (image_written g (x ∷ y ∷ z ∷ w ∷ []) p) refl;
        ab = refl;
        known = a.sort.high;
        sort = text;
        n = numbered written 181 I6 refl (omega arith) 1 999999 p.n (omega arith) refl a.n;
        L = numbered written 187 I6 refl (omega arith) 1 999999 p.l (omega arith) refl a.L;
        group = subst (λ (i : ℕ). Numbered written 225 I4 i i i) same
            (numbered written 225 I4 refl (omega arith) g g g (omega arith) refl (record { low = omega arith; high = omega arith }));
        channels = numbered written 233 I4 refl (omega arith) 1 1 1 (omega arith) refl (record { low = omega arith; high = omega arith });
        lines = numbered written 237 I8 refl (omega arith) 1 99999999 p.n (omega arith) refl lines;
        w = numbered written 249 I8 refl (omega arith) 1 99999999 p.w (omega arith) refl a.w;
        d = numbered written 281 I8 refl (omega arith) 1 99999999 p.d (omega arith) refl a.d;
        s = numbered written 289 I4 refl (omega arith) 0 9999 p.s (omega arith) refl a.s;
        paired = a.paired;
        room = a.room;
      }

module _ (p : Plan) where
  pub image_named : AllowedImage p → ImageDescriptor (record_of image p) p
  unfolding record_of written image_written columns blanks first_of made four place_of
  image_named a = go p.sort refl
    where
      go : (i : ℕ) → p.sort ≡ i → ImageDescriptor (first_of 3 (image_written (sort_of i).group (bytes (sort_of i).text) p)) p
      go zero e = described p a 2 73 85 50 32 (omega arith) (ap (λ (i : ℕ). (sort_of i).group) (sym e))
          (subst (λ (i : ℕ). Text (written p a 2 73 85 50 32) 429 (sort_of i).text) (sym e) refl)
      go (suc zero) e = described p a 8 67 42 56 32 (omega arith) (ap (λ (i : ℕ). (sort_of i).group) (sym e))
          (subst (λ (i : ℕ). Text (written p a 8 67 42 56 32) 429 (sort_of i).text) (sym e) refl)
      go (suc (suc i)) e = absurd (omega (arith, a.sort.high))

  -- a sort's text is of bytes
  text_bytes : (i : ℕ) → Bytes (bytes (sort_of i).text)
  text_bytes zero = omega arith
  text_bytes (suc zero) = omega arith
  text_bytes (suc (suc i)) = tt

  pub image_bytes : Bytes (record_of image p)
  unfolding record_of image_written
  image_bytes =
      let g = (sort_of p.sort).group in
      first_bytes_lem image (image_written g (bytes (sort_of p.sort).text) p)
      (next (omega arith) (next (blank 166) (next (columns_bytes 6 p.n) (next (columns_bytes 6 p.l) (next (blank 32)
      (next (columns_bytes 4 g) (next (blank 4) (next (columns_bytes 4 1) (next (columns_bytes 8 p.n) (next (blank 4)
      (next (columns_bytes 8 p.w) (next (blank 24) (next (columns_bytes 8 p.d) (next (columns_bytes 4 p.s)
      (next (blank 136) (next (text_bytes p.sort) (next (blank 288) tt)))))))))))))))))
