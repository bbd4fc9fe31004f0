-- A place behind the largest number is behind the bytes too, so that reading at that number gives the same 0.
use Rattle.std.proofs.Common.{◌≡◌, ℕ, List, ◌+◌, ◌*◌, ◌-◌, ◌^◌, ◌≤◌, min, length, sym, ap, ◌∙◌, arith, rules, inl, inr}
use Rattle.std.proofs.lemmas.Bool.{cases_lt}
use Rattle.words.specs.Words.{four_at}
use Rattle.words.proofs.Laws.{four_none}
use Rattle.complex_rows.proofs.four_in.Goals as goal

far : (bs : List ℕ) (at near top : ℕ) → length bs ≤ top → near ≡ min at top → four_at bs near ≡ four_at bs at
far bs at near top h e =
    elim (cases_lt at top) [
      | inl l ↦ ap (λ (i : ℕ). four_at bs i) (let same : near ≡ at = search rules in same)
      | inr l ↦ four_none bs near (search rules) ∙ sym (four_none bs at (omega arith))
    ]

pub returns : goal.returns
returns c =
    let args = c.args in
    let short : length args.bytes.now ≤ 2 ^ 64 - 1 = search rules in
    let near : c.saturating_add-at.result ≡ min (args.start + 4 * args.j) (2 ^ 64 - 1) = search rules in
    c.four.ensures.value ∙ far args.bytes.now (args.start + 4 * args.j) _ (2 ^ 64 - 1) short near
