-- Refusals of what is asked beside the walk (document 01, "Refusal numbers" and "Lines, rows, sets"): to begin (1), with a state (11), a set against its
-- directory (12), a line of an image held from byte 0 (13), a listed field (14), a row of samples (15, and 23 of document 02, No. 2); each with what goes
-- before it, in the words of `Rules`, `Shown` and `Refusals`. No test of the code occurs here. Assumes nothing.
use Rattle.std.specs.Prelude.{ℕ, suc, ◌+◌, ◌-◌, ◌*◌, ◌≤◌, ◌<◌, ◌≡◌, List, [], ◌∷◌, ◌++◌, true, false, length, take, get_or}
use Rattle.words.specs.Answer.{bare_refusal, refusal_at}
use Rattle.words.specs.Words.{place_of}
use Rattle.words.specs.declared.Refusal.{Refusal}
use Rattle.decimal.specs.Forms.{width_of, shape_of}
use Rattle.decimal.specs.declared.Form.{Form}
use Rattle.decimal.specs.declared.Form.TheVariants.{I8}
use Rattle.bad_byte.specs.BadByte.{BadAt}
use Rattle.fields.specs.Field.{field_bytes}
use Rattle.fields.specs.Listed.{listed}
use Rattle.plan.specs.declared.Plan.{Plan}
use Rattle.walk.specs.declared.State.{State}
use Rattle.promises.specs.Rules.{volume, image}
use Rattle.promises.specs.Newest.{Numbered, ImageDescriptor, Accepted}
use Rattle.promises.specs.Shown.{line_start, line_record, Stands, data_count}
use Rattle.first_records.specs.StateRule.{AllowedState}
use Rattle.refusals.specs.Refusals.{Rule, FirstWrong, header, line_body, line_asked, first_asked, Wrong, Refuses}

-- 1: a walk is begun with a kind that is not 1 to 4
pub record BeginRefuses (kind : ℕ) (x : Refusal) : Type 0 where
  pub unknown : (1 ≤ kind) × (kind ≤ 4) → ⊥
  pub is : x ≡ bare_refusal 1

-- 11: the state breaks the state rule
pub record StateRefuses (st : State) (x : Refusal) : Type 0 where
  pub broken : AllowedState st → ⊥
  pub is : x ≡ bare_refusal 11

-- the rules of line k's record in the order of a line view: header, then body
abbrev pub line_rules : Plan → ℕ → List ℕ → List Rule
line_rules p k r = header (suc k) (line_asked p).Codes p.l r ++ line_body p.w k r

-- line k, of an image prefix held from byte 0
pub data ViewRefuses (bs : List ℕ) (k : ℕ) (x : Refusal) : Type 1 where
  -- the first record as in the walk, open
  first : Wrong false 0 bs x.number x.place (first_asked image ∷ []) → x.«record» ≡ 1 → ViewRefuses bs k x
  -- 13: there is no such line
  outside : (p : Plan) → ImageDescriptor (take 720 bs) p → ((1 ≤ k) × (k ≤ p.n) → ⊥) → x ≡ bare_refusal 13 → ViewRefuses bs k x
  -- 3, 4, 5, 10: what is first wrong with its record, which is whole
  line : (p : Plan) → ImageDescriptor (take 720 bs) p → 1 ≤ k → k ≤ p.n → line_start p k + p.l ≤ length bs → (q : ℕ)
      → FirstWrong (line_rules p k (line_record p k bs)) x.number q → x.«record» ≡ suc k → x.place ≡ line_start p k + q → ViewRefuses bs k x

-- the row copy of line k to a row of m samples
pub data CopyRefuses (bs : List ℕ) (k m : ℕ) (x : Refusal) : Type 1 where
  view : ViewRefuses bs k x → CopyRefuses bs k m x
  -- 23: the samples are no counts
  sort : (p : Plan) → Stands bs k p → (p.sort ≡ 0 → ⊥) → x ≡ bare_refusal 23 → CopyRefuses bs k m x
  -- 15, last: the row is shorter than the line's data pixels
  row : (p : Plan) → Stands bs k p → p.sort ≡ 0 → m < data_count (line_record p k bs) → x ≡ bare_refusal 15 → CopyRefuses bs k m x

-- the pointer's record says that count
abbrev pub Counted : List ℕ → ℕ → Type 0
Counted r n = Numbered r 101 I8 1 99999999 n

-- a closed directory against a list of record counts
pub data SetRefuses (bs cs : List ℕ) (x : Refusal) : Type 1 where
  -- the directory's own refusal first
  directory : Refuses volume true bs x → SetRefuses bs cs x
  -- 12 at 160: a list of the wrong length
  many : (a : Accepted volume bs) → (length cs ≡ a.plan.pointers → ⊥) → x ≡ refusal_at 12 160 → SetRefuses bs cs x
  -- 12 at 360p + 100: p, from 1, is the first pointer whose count differs
  count : (a : Accepted volume bs) → length cs ≡ a.plan.pointers → (i : ℕ) → i < length cs
      → ((j : ℕ) → j < i → Counted (get_or a.rest j []) (get_or cs j 0)) → (Counted (get_or a.rest i []) (get_or cs i 0) → ⊥)
      → x ≡ refusal_at 12 (360 * suc i + 100) → SetRefuses bs cs x

-- listed field n of some bytes: its first byte and its form
abbrev pub byte_of : ℕ → ℕ
byte_of n = (listed (n - 1)).first

abbrev pub form_of : ℕ → Form
form_of n = (listed (n - 1)).form

pub data FieldRefuses (b : List ℕ) (n : ℕ) (x : Refusal) : Type 0 where
  -- 14: there is no such listed field
  unlisted : ((1 ≤ n) × (n ≤ 13) → ⊥) → x ≡ bare_refusal 14 → FieldRefuses b n x
  -- 2: the bytes end before the field does
  short : 1 ≤ n → n ≤ 13 → length b < place_of (byte_of n) + width_of (form_of n) → x ≡ bare_refusal 2 → FieldRefuses b n x
  -- 6 at its first bad byte: it is neither a value nor blank
  badly : 1 ≤ n → n ≤ 13 → place_of (byte_of n) + width_of (form_of n) ≤ length b → (i : ℕ)
      → BadAt (shape_of (form_of n)) (width_of (form_of n)) (field_bytes b (place_of (byte_of n)) (form_of n)) i
      → x ≡ refusal_at 6 (place_of (byte_of n) + i) → FieldRefuses b n x
