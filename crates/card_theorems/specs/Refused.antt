-- Who gets which refusal of the card builder (document 02, No. 1), over what a file is and when it is refused. Assumes nothing.
use Rattle.std.specs.Prelude.{ℕ, suc, ◌+◌, ◌*◌, ◌<◌, ◌≡◌, List, true, length}
use Rattle.words.specs.Answer.{bare_refusal}
use Rattle.words.specs.declared.Refusal.{Refusal}
use Rattle.promises.specs.Rules.{image, leader}
use Rattle.promises.specs.Newest.{Accepted}
use Rattle.refusals.specs.Refusals.{Refuses}

-- how many bytes the card of two files has: 17, then 13 for each line, then 10 for each leader record, the first among these
abbrev pub long_of : {bs ls : List ℕ} → Accepted image bs → Accepted leader ls → ℕ
long_of a b = 17 + 13 * length a.rest + 10 * suc (length b.rest)

-- an image, its leader, and m lent bytes
pub data BuildRefuses (bs ls : List ℕ) (m : ℕ) (x : Refusal) : Type 1 where
  -- the image's refusal first
  scene : Refuses image true bs x → BuildRefuses bs ls m x
  -- then the leader's
  notes : Accepted image bs → Refuses leader true ls x → BuildRefuses bs ls m x
  -- then 37: the buffer is too short
  short : (a : Accepted image bs) (b : Accepted leader ls) → m < long_of a b → x ≡ bare_refusal 37 → BuildRefuses bs ls m x
