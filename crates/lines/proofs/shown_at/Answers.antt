-- The numbers of the definition, each read where it stands.
use Prim.Native.Nat.{ℕ, ◌≤◌}
use borrow.Author.Rules.{rules}
use mathlib.Core.Path.{◌≡◌, ap}
use native.Mathlib.Omega.{arith}
use Rattle.words.specs.Words.{place_of}
use native.Mathlib.Nat.{mul-le-mul}
use Rattle.plan.specs.Tables.{sort_of}
use Rattle.plan.specs.declared.Sort.{Sort}
use Rattle.plan.proofs.CodeLaws.{sort_modest}
use Rattle.lines.specs.View.{shown_of}
use Rattle.lines.proofs.shown_at.Goals as goal

modest : (i : ℕ) (s : Sort) → s ≡ sort_of i → s.group ≤ 8
modest i s e = omega (arith, (sort_modest i).0, ap (λ (x : Sort). x.group) e)

pub four_there-left-requires : goal.four_there-left-requires
unfolding place_of
four_there-left-requires c = omega (arith, c.place.ensures, c.requires.in_bounds)

pub four_there-count-requires : goal.four_there-count-requires
unfolding place_of
four_there-count-requires c = omega (arith, c.place-2.ensures, c.requires.in_bounds)

pub overflow_mul-result : goal.overflow_mul-result
overflow_mul-result c =
    let sort-at = c.sort_at-group in
    let left = c.four_there-left in
    let g = modest c.args.p.sort sort-at.result sort-at.ensures in
    omega (arith, mul-le-mul g left.ensures.upper_bound)

pub overflow_add-result-2 : goal.overflow_add-result-2
overflow_add-result-2 c =
    let sort-at = c.sort_at-group in
    let left = c.four_there-left in
    let pre = c.requires in
    let g = modest c.args.p.sort sort-at.result sort-at.ensures in
    omega (arith, mul-le-mul g left.ensures.upper_bound, c.pixels_from.ensures.1, pre.start_bound)

pub returns : goal.returns
unfolding shown_of
returns c = search rules
