use Rattle.std.proofs.Common.{arith, ◌≡◌, ℕ, suc, ◌+◌, ◌++◌, ◌∷◌, List, drop, sym, ap, ◌∙◌}
use Rattle.std.proofs.Math.Seq.{drop-cons}
use Rattle.std.specs.List.{flat_map}
use Rattle.wt_grid.specs.Order.{first_in}
use Rattle.wt_torus.specs.Letters.{those}
use Rattle.wt_torus.specs.declared.partition.Labelled.{Labelled}
use Rattle.wt_induce.specs.Induced.{reduced_draft, is_kept}
use Rattle.wt_induce.specs.Backs.{region_drafts, region_pairs_fault}
use Rattle.wt_induce.proofs.Keeping.{those_on, later}
use Rattle.wt_induce.proofs.backs.keep_doubles.Goals as goal

pub loop-p-preserved : goal.loop-p-preserved
loop-p-preserved c =
    let zs = c.args.zone.now in
    let bs = c.args.backs.now in
    let rs = c.args.regions.now in
    let i = c.loop-p.p-index in
    let x = c.p-item.result in
    let next : suc i ≡ i + 1 = omega arith in
    let d : drop i rs ≡ x ∷ drop (i + 1) rs =
    drop-cons rs i x c.loop-p-test.true ∙ (ap (λ (y : Labelled). y ∷ drop (suc i) rs) (sym c.p-item.is) ∙ ap (λ (n : ℕ). x ∷ drop n rs) next) in record {
      kept = those_on reduced_draft is_kept c.loop-p.kept.items c.keep_region.new.kept.items (region_drafts zs bs x) (flat_map (region_drafts zs bs) (drop (i + 1) rs)) c.in_ok-keep_region.ensures.ok
          ∙ (ap (λ (l : List Labelled). c.loop-p.kept.items ++ those reduced_draft is_kept (flat_map (region_drafts zs bs) l)) (sym d) ∙ c.loop-p.invariant.kept);
      none = later (region_pairs_fault zs bs x) (first_in (region_pairs_fault zs bs) (drop (i + 1) rs)) (first_in (region_pairs_fault zs bs) rs)
          (ap (first_in (region_pairs_fault zs bs)) (sym d) ∙ c.loop-p.invariant.none) c.in_ok-keep_region.ensures.fault;
    }
