-- `allowed_named`: the state rule allows a plan exactly where some first record names it (`nameable_is`: by the page's inequalities). One way the record is
-- written from the plan, and the plan that is read back has the same numbers; the other way a record that passes names a good plan.
use Prim.Native.Nat.{ℕ}
use mathlib.Core.Path.{◌≡◌, sym, ◌∙◌, subst}
use mathlib.Core.List.{List}
use mathlib.Core.Bool.{true}
use mathlib.Core.Logic.{◌↔◌}
use native.Mathlib.Omega.{arith}
use lib.ListN.{length, get_or, replicate, get_or-replicate}
use lib.Seq.{ext_get_or}
use Rattle.plan.specs.Tables.{rows}
use Rattle.plan.specs.Plan.{plan_good, zero_plan}
use Rattle.plan.specs.declared.Plan.{Plan}
use Rattle.bodies.specs.Named.{plan_of}
use Rattle.bodies.proofs.Named.{first_good}
use Rattle.promises.specs.Bytes.{Bytes}
use Rattle.promises.specs.Edition.{newest}
use Rattle.promises.specs.Rules.{Kind, volume, leader, image, trailer, kind_number}
use Rattle.promises.specs.Newest.{First}
use Rattle.promises.proofs.Accepts.{kind_low}
use Rattle.promises.proofs.AnyEdition.{first_size}
use Rattle.promises.proofs.Completed.{named_counts, named_lengths}
use Rattle.promises.proofs.FirstIs.{first_names, first_plan}
use Rattle.first_records.specs.Allowed.{Allowed, NoRows, NoLines, Zeros}
use Rattle.first_records.specs.FirstRecord.{record_of}
use Rattle.first_records.specs.StateRule.{Nameable}
use Rattle.first_records.proofs.AllowedIs.{allowed_is}
use Rattle.first_records.proofs.NamedVolume.{volume_named, volume_bytes}
use Rattle.first_records.proofs.NamedLeader.{leader_named, leader_bytes_lem}
use Rattle.first_records.proofs.NamedImage.{image_named, image_bytes}
use Rattle.first_records.proofs.NamedTrailer.{trailer_named, trailer_bytes}

-- ---- the plan that is read back

-- as many zeros as rows
zeros_same : (xs : List ℕ) → length xs ≡ rows → ((i : ℕ) → get_or xs i 0 ≡ 0) → replicate rows 0 ≡ xs
zeros_same xs e z = ext_get_or 0 (replicate rows 0) xs (sym e) (λ i h. get_or-replicate rows i 0 0 h ∙ sym (z i))

module _ (p : Plan) (c : length p.counts ≡ rows) (l : length p.lengths ≡ rows) where
  -- a plan of no lines, by its other numbers
  unlined : NoLines p → (m : ℕ) (cs ls : List ℕ) → m ≡ p.pointers → cs ≡ p.counts → ls ≡ p.lengths
      → record { pointers = m; counts = cs; lengths = ls; n = 0; l = 0; w = 0; d = 0; s = 0; sort = 0 } ≡ p
  unlined z m cs ls e f g =
      λ i.
      record {
        pointers = e i;
        counts = f i;
        lengths = g i;
        n = sym z.n i;
        l = sym z.l i;
        w = sym z.w i;
        d = sym z.d i;
        s = sym z.s i;
        sort = sym z.sort i;
      }

  -- a plan of no rows
  unrowed : NoRows p → (m n L w d s sort : ℕ) → m ≡ p.pointers → n ≡ p.n → L ≡ p.l → w ≡ p.w → d ≡ p.d → s ≡ p.s → sort ≡ p.sort
      → record { pointers = m; counts = replicate rows 0; lengths = replicate rows 0; n = n; l = L; w = w; d = d; s = s; sort = sort } ≡ p
  unrowed z m n L w d s sort e en el ew ed es eo =
      λ i.
      record {
        pointers = e i;
        counts = zeros_same p.counts c z.counts i;
        lengths = zeros_same p.lengths l z.lengths i;
        n = en i;
        l = el i;
        w = ew i;
        d = ed i;
        s = es i;
        sort = eo i;
      }

  pub zero_plan_lem : Zeros p → zero_plan ≡ p
  zero_plan_lem a =
      unlined a.lines 0 (replicate rows 0) (replicate rows 0) (sym a.pointers) (zeros_same p.counts c a.rows.counts)
      (zeros_same p.lengths l a.rows.lengths)

  -- whatever first record names an allowed plan, it is the plan that is read back
  pub plan_read : (r : List ℕ) (kind : Kind) → Allowed kind p → First kind r p → plan_of (kind_number kind) r ≡ p
  unfolding plan_of
  plan_read r volume a f =
      unlined a.lines (plan_of 1 r).pointers (replicate rows 0) (replicate rows 0) (first_plan volume p r f) (zeros_same p.counts c a.rows.counts)
      (zeros_same p.lengths l a.rows.lengths)
  plan_read r leader a f =
      let s = first_plan leader p r f in
      unlined a.lines 0 (plan_of 2 r).counts (plan_of 2 r).lengths (sym a.pointers)
      (ext_get_or 0 (plan_of 2 r).counts p.counts (named_counts 2 r ∙ sym c) (λ i h. (s i (omega (arith, named_counts 2 r))).0))
      (ext_get_or 0 (plan_of 2 r).lengths p.lengths (named_lengths 2 r ∙ sym l) (λ i h. (s i (omega (arith, named_lengths 2 r))).1))
  plan_read r image a f =
      let s = first_plan image p r f in
      unrowed a.rows 0 (plan_of 3 r).n (plan_of 3 r).l (plan_of 3 r).w (plan_of 3 r).d (plan_of 3 r).s (plan_of 3 r).sort
      (sym a.pointers) s.0 s.1 s.2 s.3 s.4 s.5
  plan_read r trailer a f = zero_plan_lem a

-- ---- both ways

record_bytes : (kind : Kind) (p : Plan) → Bytes (record_of kind p)
record_bytes volume p = volume_bytes p
record_bytes leader p = leader_bytes_lem p
record_bytes image p = image_bytes p
record_bytes trailer p = trailer_bytes p

record_names : (kind : Kind) (p : Plan) → length p.counts ≡ rows → length p.lengths ≡ rows → Allowed kind p → First kind (record_of kind p) p
record_names volume p c l a = volume_named p a
record_names leader p c l a = leader_named p c l a
record_names image p c l a = image_named p a
record_names trailer p c l a = trailer_named p

module _ (kind : Kind) (p : Plan) where
  -- a plan that a first record names is good
  named_good : Nameable kind p → plan_good (kind_number kind) p ≡ true
  named_good (r, b, f, e) =
      subst (λ (q : Plan). plan_good (kind_number kind) q ≡ true) e
      (first_good (kind_number kind) p r (kind_low kind).0 (kind_low kind).1 ((first_names kind p p r (first_size newest kind p r f)).1 f).0.body)

  module _ (c : length p.counts ≡ rows) (l : length p.lengths ≡ rows) where
    -- the record that is written from a plan which is allowed
    written_names : Allowed kind p → Nameable kind p
    written_names a =
        let r = record_of kind p in
        let f = record_names kind p c l a in
        (r, record_bytes kind p, f, plan_read p c l r kind a f)

    -- in the words of document 01
    pub nameable_is : Allowed kind p ↔ Nameable kind p
    nameable_is = (written_names, λ n. (allowed_is kind p).0 (named_good n))

    pub allowed_named : (plan_good (kind_number kind) p ≡ true) ↔ ((r : List ℕ) × Bytes r × First kind r p × (plan_of (kind_number kind) r ≡ p))
    allowed_named = (λ g. written_names ((allowed_is kind p).0 g), named_good)
