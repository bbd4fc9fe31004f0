-- The numbers of a card as they are written, three runs of pairs one behind the other, and the answer by what the check said.
use Prim.Native.Nat.{ℕ, ◌+◌, ◌*◌, ◌≤◌, ◌<◌}
use mathlib.Core.Path.{◌≡◌, sym, ap, ◌∙◌}
use mathlib.Core.List.{List, ◌++◌, append_assoc}
use native.Mathlib.Omega.{arith}
use lib.ListN.{length, length-append}
use borrow.Author.Tests.{lt-ltb, le-ltb}
use Rattle.std.specs.Prelude.{Ok, Err}
use Rattle.words.specs.Answer.{bare_refusal}
use Rattle.words.specs.declared.Refusal.{Refusal}
use Rattle.writing.specs.Writing.{written}
use Rattle.writing.proofs.WrittenLaws.{written_on}
use Rattle.cards.specs.Check.{Checked, check_of, pairs_from, flat_of, many_of, numbers_by, numbers_of, list_by, list_of}
use Rattle.cards.specs.declared.Card.{Card}
use Rattle.cards.proofs.LoopLaws.{pairs_long}

pub three_runs : (n k : ℕ) (bs out one two three : List ℕ) → many_of n k ≤ length out → one ≡ written out 0 (pairs_from 2 1 8 bs)
    → two ≡ written one 4 (pairs_from n 22 13 bs) → three ≡ written two (4 + 2 * n) (pairs_from k (19 + 13 * n) 10 bs) → three ≡ written out 0 (flat_of n k bs)
unfolding flat_of
three_runs n k bs out one two three h p q e =
    let a : List ℕ = pairs_from 2 1 8 bs in
    let b : List ℕ = pairs_from n 22 13 bs in
    let c : List ℕ = pairs_from k (19 + 13 * n) 10 bs in
    let la : length a ≡ 4 = pairs_long 2 1 8 bs in
    let lb : length b ≡ 2 * n = pairs_long n 22 13 bs in
    let lc : length c ≡ 2 * k = pairs_long k (19 + 13 * n) 10 bs in
    let lab : length (a ++ b) ≡ 4 + 2 * n = length-append a b ∙ (omega arith) in
    let ab = written_on out 0 4 a b one two (omega arith) (omega arith) p q in
    written_on out 0 (4 + 2 * n) (a ++ b) c two three (omega arith) (omega arith) ab e
    ∙ ap (written out 0) (append_assoc a b c)

module _ (bs out : List ℕ) (x : Checked) (e : x ≡ check_of bs) where
  -- the check's refusal
  module _ (r : Refusal) (q : x ≡ Err r) where
    pub refused_answer : Err r ≡ numbers_of bs (length out)
    unfolding numbers_of
    refused_answer = sym (ap (λ (y : Checked). numbers_by y (length out)) (sym e ∙ q))

    pub refused_list : out ≡ list_of bs out
    unfolding list_of
    refused_list = sym (ap (λ (y : Checked). list_by y bs out) (sym e ∙ q))

  module _ (c : Card) (q : x ≡ Ok c) where
    -- 37
    pub short_answer : length out < many_of c.lines c.entries → Err (bare_refusal 37) ≡ numbers_of bs (length out)
    unfolding numbers_of
    short_answer h = sym (ap (λ (y : Checked). numbers_by y (length out)) (sym e ∙ q) ∙ simp (lt-ltb (length out) (many_of c.lines c.entries) h))

    pub short_list : length out < many_of c.lines c.entries → out ≡ list_of bs out
    unfolding list_of
    short_list h = sym (ap (λ (y : Checked). list_by y bs out) (sym e ∙ q) ∙ simp (lt-ltb (length out) (many_of c.lines c.entries) h))

    -- the numbers
    pub card_answer : many_of c.lines c.entries ≤ length out → Ok c ≡ numbers_of bs (length out)
    unfolding numbers_of
    card_answer h = sym (ap (λ (y : Checked). numbers_by y (length out)) (sym e ∙ q) ∙ simp (le-ltb (length out) (many_of c.lines c.entries) h))

    pub card_list : many_of c.lines c.entries ≤ length out → written out 0 (flat_of c.lines c.entries bs) ≡ list_of bs out
    unfolding list_of
    card_list h = sym (ap (λ (y : Checked). list_by y bs out) (sym e ∙ q) ∙ simp (le-ltb (length out) (many_of c.lines c.entries) h))
