-- A field that is handed on has the number and the place of the first fault of its tests, whatever record its own refusal names: by the field's cases,
-- on what `verdicts` shows of a field whose refusal names none.
use Rattle.std.proofs.Common.{◌≡◌, ◌∙◌, ℕ, List, [], ◌∷◌, Bool, true, false, refl, ap}
use Rattle.std.specs.Prelude.{Ok, Err, ℤ, pos}
use Rattle.words.specs.Answer.{refusal_at}
use Rattle.words.specs.Tests.{pick}
use Rattle.fields.specs.declared.Field.{Field}
use Rattle.fields.specs.declared.Field.TheVariants.{Value, Blank, Refused}
use Rattle.verdicts.specs.Tests.{Verdict, Test, first_fault, fault_of, verdict_of, needed_of, counted_of, number_tests, count_tests, readable_test}
use Rattle.verdicts.proofs.FieldLaws.{Unnamed, needed_fault, counted_fault}

-- a verdict by its number and place alone
abbrev pub told : Verdict → Verdict
told (Ok u) = Ok tt
told (Err x) = Err (refusal_at x.number x.place)

-- the first fault of tests names no record
told_first : (ts : List Test) → told (first_fault ts) ≡ first_fault ts
unfolding first_fault
told_first [] = refl
told_first (t ∷ ts) = go t.holds (told_first ts)
  where
    go : (b : Bool) → told (first_fault ts) ≡ first_fault ts
        → told (pick b (first_fault ts) (Err (refusal_at t.number t.place))) ≡ pick b (first_fault ts) (Err (refusal_at t.number t.place))
    go true h = h
    go false h = refl

value_unnamed : (v e : ℤ) → Unnamed (Value v e)
value_unnamed v e x q = cc

blank_unnamed : Unnamed Blank
blank_unnamed x q = cc

module _ (at last lo hi : ℕ) where
  pub needed_said : (f : Field) → told (verdict_of (needed_of f at last lo hi)) ≡ first_fault (number_tests f at last lo hi)
  unfolding first_fault
  needed_said (Value v e) = ap told (needed_fault at last lo hi (Value v e) (value_unnamed v e)) ∙ told_first (number_tests (Value v e) at last lo hi)
  needed_said Blank = refl
  needed_said (Refused x) = refl

module _ (at lo hi : ℕ) where
  pub counted_said : (f : Field) → told (verdict_of (counted_of f at lo hi)) ≡ first_fault (count_tests f at lo hi)
  unfolding first_fault
  counted_said (Value v e) = ap told (counted_fault at lo hi (Value v e) (value_unnamed v e)) ∙ told_first (count_tests (Value v e) at lo hi)
  counted_said Blank = ap told (counted_fault at lo hi Blank blank_unnamed) ∙ told_first (count_tests Blank at lo hi)
  counted_said (Refused x) = refl

pub readable_said : (at : ℕ) (f : Field) → told (fault_of f) ≡ first_fault (readable_test f at ∷ [])
unfolding first_fault
readable_said at (Value v e) = refl
readable_said at Blank = refl
readable_said at (Refused x) = refl
