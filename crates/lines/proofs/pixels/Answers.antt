-- Where a line is shown its data pixels lie within the bytes held; else none are handed back.
use Rattle.std.proofs.Common.{ℕ, ◌+◌, ◌*◌, ◌≤◌, ◌≡◌, List, length, Ok, sym, ap, subst, ◌∙◌, rules}
use Rattle.plan.specs.Tables.{sort_of}
use Rattle.plan.specs.declared.Sort.{Sort}
use Rattle.lines.specs.declared.Shown.{Shown}
use Rattle.lines.specs.declared.Sorted.{Sorted}
use Rattle.lines.specs.View.{sorted_of, pixels_of}
use Rattle.lines.proofs.ViewLaws as views
use Rattle.lines.proofs.InsideLaws as laws
use Rattle.lines.proofs.pixels.Goals as goal

within : (bs : List ℕ) (k : ℕ) (x : Sorted) → x ≡ sorted_of bs k → (s : Sort) → s ≡ sort_of x.sort → (y : Shown) → x.view ≡ Ok y
    → y.start + s.group * y.count ≤ length bs
within bs k x sees s same y e =
    subst (λ (i : ℕ). y.start + i * y.count ≤ length bs)
    (sym (ap (λ (s : Sort). s.group) same ∙ ap (λ (x : Sorted). (sort_of x.sort).group) sees))
    (laws.shown_within bs k y.start y.count y.left (sym (ap (λ (x : Sorted). x.view) sees) ∙ e))

pub returns-in_default : goal.returns-in_default
unfolding pixels_of
returns-in_default c = search rules

pub overflow_mul-to : goal.overflow_mul-to
overflow_mul-to c =
    let h = within c.args.bytes.now c.args.k _ c.sorted_view-x.ensures _ c.sort_at-group.ensures _ c.in-Ok.is in search rules

pub overflow_add-to : goal.overflow_add-to
overflow_add-to c =
    let h = within c.args.bytes.now c.args.k _ c.sorted_view-x.ensures _ c.sort_at-group.ensures _ c.in-Ok.is in search rules

pub slice_bounds-result-end-2 : goal.slice_bounds-result-end-2
slice_bounds-result-end-2 c = within c.args.bytes.now c.args.k _ c.sorted_view-x.ensures _ c.sort_at-group.ensures _ c.in-Ok.is

pub returns : goal.returns
unfolding pixels_of
returns c =
    let x = c.in-Ok.shown in
    let part = views.part_is x.start (c.sort_at-group.result.group * x.count) c.args.bytes.now in search rules
